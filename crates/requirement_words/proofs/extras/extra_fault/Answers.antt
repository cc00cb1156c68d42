use Rattle.std.proofs.Common.{◌∷◌, ◌∙◌, sym, ap, lit<}
use Rattle.std.specs.Prelude.{encode_utf8}
use Rattle.std.specs.Str.{chars}
use Rattle.std.proofs.lemmas.Bool.{true≢false}
use Rattle.std.proofs.lemmas.Str.{encode_ascii}
use Rattle.pep508_text.proofs.SuffixLaws.{suffix_self}
use Rattle.requirement_words.specs.Fault.{FindsInExtras, leading_comma, no_extra}
use Rattle.requirement_words.specs.declared.fault.FaultKind.TheVariants.{LeadingComma, NoExtra}
use Rattle.requirement_words.proofs.ExtrasLaws.{listed_first}
use Rattle.requirement_words.proofs.FaultLaws.{fault_at_first}
use Rattle.requirement_words.proofs.extras.extra_fault.Goals as goal

pub returns-then-is_leading_comma : goal.returns-then-is_leading_comma
returns-then-is_leading_comma c = λ inside listed.
    let comma = c.is_leading_comma.ensures.yes c.if-is_leading_comma.true in
    fault_at_first (FindsInExtras (91 ∷ inside)) LeadingComma c.args.found (suffix_self _ c.utf8.here) c.requires.first.suffix c.requires.first.bytes
    c.at.ensures.kind c.at.ensures.place c.before-then-is_leading_comma.ensures.piece c.before-then-is_leading_comma.ensures.left
    (λ e. leading_comma (ap chars (sym c.before-then-is_leading_comma.ensures.piece) ∙ listed_first listed comma.1) (e ∙ ap encode_utf8 comma.0 ∙ encode_ascii 44 (lit< tt)))

pub returns : goal.returns
returns c = λ inside listed.
    fault_at_first (FindsInExtras (91 ∷ inside)) NoExtra c.args.found (suffix_self _ c.utf8.here) c.requires.first.suffix c.requires.first.bytes
    c.at-2.ensures.kind c.at-2.ensures.place c.before-2.ensures.piece c.before-2.ensures.left
    (λ e. no_extra listed (ap chars (sym c.before-2.ensures.piece)) (record {
      c = c.args.found;
      is = e;
      holds = record {
        no_letter = c.requires.no_letter;
        no_comma = λ first comma. true≢false (sym (c.is_leading_comma.ensures.no first comma) ∙ c.if-is_leading_comma.false);
        no_bracket = c.requires.no_bracket;
      };
    }))
