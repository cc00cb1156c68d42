-- What a call says of two markers.
use Rattle.std.specs.Prelude.{◌≡◌, ◌≢◌, ◌⊎◌, ℕ, ℤ, pos, List, Bool}
use Rattle.marker_environment.specs.Valuation.{Valuation}
use Rattle.marker_grammar.specs.Refused.{IsNoMarker}
use Rattle.marker_graph.specs.declared.relation.MarkerRelation.{MarkerRelation}
use Rattle.marker_graph.specs.declared.relation.MarkerRelation.TheVariants.{Equal, Disjoint, FirstImpliesSecond, SecondImpliesFirst, Overlapping}
use Rattle.marker_graph.specs.Relation.{Relates}
use Rattle.pep508_markers.specs.Text.{TextOverflows}
use Rattle.foreign_calls.specs.declared.answer.Answer.{Answer}
use Rattle.foreign_calls.specs.declared.answer.Answer.TheVariants.{Done, Invalid, BufferTooSmall, NumberTooLarge}
use Rattle.foreign_calls.specs.Marker.{Says}

-- the numbers of relations
abbrev pub code_of : MarkerRelation → ℤ
code_of Equal = pos 0
code_of Disjoint = pos 1
code_of FirstImpliesSecond = pos 2
code_of SecondImpliesFirst = pos 3
code_of Overlapping = pos 4

-- the two texts are markers that relate so
pub record AreRelated (first second : List ℕ) (relation : MarkerRelation) : Type 0 where
  pub one : Valuation → Bool
  pub other : Valuation → Bool
  pub first_says : Says first one
  pub second_says : Says second other
  pub relates : Relates one other relation

-- why there is no relation of two texts
pub record IsRelationRefusal (first second : List ℕ) (answer : Answer) : Type 0 where
  pub not_done : answer ≢ Done
  pub not_small : answer ≢ BufferTooSmall
  pub invalid : answer ≡ Invalid → IsNoMarker first ⊎ IsNoMarker second
  pub too_large : answer ≡ NumberTooLarge → TextOverflows first ⊎ TextOverflows second
