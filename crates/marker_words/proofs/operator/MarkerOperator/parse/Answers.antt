use Rattle.std.proofs.Common.{◌≡◌, ap, rules, [], length}
use Rattle.std.proofs.lemmas.List.{nil_from_length}
use Rattle.marker_words.proofs.OperatorLaws.{whole_operator, no_whole_operator}
use Rattle.marker_words.proofs.operator.MarkerOperator.parse.Goals as goal

pub returns-then-is_empty-clause-found : goal.returns-then-is_empty-clause-found
returns-then-is_empty-clause-found c = whole_operator c.in-Ok.rest.now c.in-Ok.ensures.found (nil_from_length _ (search rules))

pub returns-else-is_empty-clause-none : goal.returns-else-is_empty-clause-none
returns-else-is_empty-clause-none c operator s =
    let none : c.in-Ok.rest.now ≡ [] = no_whole_operator c.in-Ok.rest.now c.in-Ok.ensures.suffix.utf8 c.in-Ok.ensures.found s in
    let nothing : length c.in-Ok.rest.now ≡ 0 = ap length none in
    absurd (search rules)
