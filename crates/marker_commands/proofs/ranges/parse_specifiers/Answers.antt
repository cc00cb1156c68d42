use Rattle.std.proofs.Common.{rules, ◌≡◌, ◌∙◌, ℕ, List, length, subst, ap}
use Rattle.std.proofs.lemmas.List.{nil_from_length}
use Rattle.std.proofs.lemmas.Str.{chars-nil}
use Rattle.std.specs.Str.{chars}
use Rattle.requirement_words.specs.Specifiers.{IsSpecifiers}
use Rattle.marker_commands.proofs.ranges.parse_specifiers.Goals as goal

pub returns : goal.returns
returns c =
    let empty : length c.in-Ok.read.1.now ≡ 0 = search rules in
    subst (λ (r : List ℕ). IsSpecifiers 59 (chars c.args.text.now) r c.in-Ok.read.0) (ap chars (nil_from_length _ empty) ∙ chars-nil) c.in-Ok.ensures.found
