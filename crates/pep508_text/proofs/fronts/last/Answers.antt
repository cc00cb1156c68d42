use Rattle.std.proofs.Common.{rules, ◌≡◌, [], ap, ◌∙◌}
use Rattle.std.specs.Str.{chars}
use Rattle.std.proofs.lemmas.List.{nil_from_length}
use Rattle.std.proofs.lemmas.Str.{chars-nil}
use Rattle.pep508_text.proofs.Splits.{chars-last}
use Rattle.pep508_text.proofs.fronts.last.Goals as goal

pub returns-in_err-c-clause-characters : goal.returns-in_err-c-clause-characters
returns-in_err-c-clause-characters c =
    let none : chars c.args.text.now ≡ [] = ap chars (nil_from_length _ (search rules)) ∙ chars-nil in
    search (rules, none)

pub returns-clause-characters : goal.returns-clause-characters
returns-clause-characters c = chars-last _ _ _ c.utf8.text c.as_str.utf8 (search rules)
