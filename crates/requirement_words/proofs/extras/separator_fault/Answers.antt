use Rattle.std.proofs.Common.{◌∷◌, ◌∙◌, sym, ap}
use Rattle.std.specs.Str.{chars}
use Rattle.pep508_text.proofs.SuffixLaws.{suffix_self}
use Rattle.requirement_words.specs.Fault.{FindsInExtras, invalid_extra, no_separator}
use Rattle.requirement_words.specs.declared.fault.FaultKind.TheVariants.{InvalidExtra, NoSeparator}
use Rattle.requirement_words.proofs.ExtrasLaws.{name_begins, not_followed, nothing_skipped, something_skipped}
use Rattle.requirement_words.proofs.FaultLaws.{fault_at_first}
use Rattle.requirement_words.proofs.extras.separator_fault.Goals as goal

pub returns-then-behind-rest : goal.returns-then-behind-rest
returns-then-behind-rest c = λ inside b.
    let same = nothing_skipped _ _ c.requires.behind c.if-behind-rest.true in
    fault_at_first (FindsInExtras (91 ∷ inside)) InvalidExtra c.args.found (suffix_self _ c.utf8.behind) c.requires.first.suffix c.requires.first.bytes
    c.at.ensures.kind c.at.ensures.place c.before-then-behind-rest.ensures.piece c.before-then-behind-rest.ensures.left
    (λ e. invalid_extra b.listed (name_begins b.named) (ap chars (sym c.before-then-behind-rest.ensures.piece) ∙ ap chars same ∙ sym b.named.rest)
    (record { c = c.args.found; is = e; holds = not_followed _ _ c.args.found _ c.requires.skipped c.requires.first.characters c.requires.comma c.requires.bracket }))

pub returns-else-behind-rest : goal.returns-else-behind-rest
returns-else-behind-rest c = λ inside b.
    fault_at_first (FindsInExtras (91 ∷ inside)) NoSeparator c.args.found (suffix_self _ c.utf8.behind) c.requires.first.suffix c.requires.first.bytes
    c.at-else-behind-rest.ensures.kind c.at-else-behind-rest.ensures.place c.before-else-behind-rest.ensures.piece c.before-else-behind-rest.ensures.left
    (λ e. no_separator b.listed b.named (something_skipped _ _ c.utf8.rest c.utf8.behind c.requires.skipped c.if-behind-rest.false) (ap chars (sym c.before-else-behind-rest.ensures.piece) ∙ c.requires.skipped)
    (record { c = c.args.found; is = e; holds = (c.requires.comma, c.requires.bracket) }))
