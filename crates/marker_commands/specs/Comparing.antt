-- What `compare` writes.
use Rattle.std.specs.Prelude.{◌≡◌, ◌⊎◌, ℕ, Bool, List, [], ◌∷◌, ◌++◌, codes, String, string_bytes}
use Rattle.std.specs.declared.alloc.Global.{Global}
use Rattle.marker_environment.specs.Valuation.{Valuation}
use Rattle.marker_graph.specs.Contents.{Contents, truth}
use Rattle.marker_graph.specs.declared.relation.MarkerRelation.{MarkerRelation}
use Rattle.marker_graph.specs.declared.relation.MarkerRelation.TheVariants.{Equal, Disjoint, FirstImpliesSecond, SecondImpliesFirst, Overlapping}
use Rattle.marker_graph.specs.Relation.{Relates}
use Rattle.marker_witnesses.specs.declared.sides.ShownWitness.{ShownWitness}
use Rattle.marker_witnesses.specs.Sides.{ShowsEach, lines_text, sides_of}
use Rattle.marker_commands.specs.declared.comparing.Pair.{Pair}
use Rattle.marker_commands.specs.declared.comparing.Related.{Related}
use Rattle.marker_commands.specs.declared.outcome.Outcome.{Outcome}
use Rattle.marker_commands.specs.declared.outcome.Outcome.TheVariants.{Answered}
use Rattle.marker_commands.specs.declared.outcome.Reply.{Reply}
use Rattle.marker_commands.specs.Outcome.{Answers, IsRefusalOf, IsRefused}
use Rattle.marker_commands.specs.Parsing.{IsTreeFor, ReadsAs}

abbrev pub relation_word : MarkerRelation → List ℕ
relation_word Equal = codes "equal"
relation_word Disjoint = codes "disjoint"
relation_word FirstImpliesSecond = codes "first implies second"
relation_word SecondImpliesFirst = codes "second implies first"
relation_word Overlapping = codes "overlapping"

-- two texts are markers whose truths relate so
pub record RelatesTexts (first second : List ℕ) (relation : MarkerRelation) : Type 0 where
  pub f : Valuation → Bool
  pub g : Valuation → Bool
  pub first_reads : ReadsAs first f
  pub second_reads : ReadsAs second g
  pub relates : Relates f g relation

-- the same of their markers in an interner
pub record AreRelatedIn (c : Contents) (first second : List ℕ) (pair : Related) : Type 0 where
  pub first_tree : IsTreeFor c first pair.first
  pub second_tree : IsTreeFor c second pair.second
  pub relates : Relates (truth c pair.first) (truth c pair.second) pair.relation

-- one of two texts gets no answer as a marker
abbrev pub IsPairRefusal : List ℕ → List ℕ → Outcome → Type 0
IsPairRefusal first second outcome = IsRefusalOf first outcome ⊎ IsRefusalOf second outcome

-- the same of a pair of markers
abbrev pub RelatesPair : Contents → Pair → Related → Type 0
RelatesPair c pair = AreRelatedIn c pair.first.text.now pair.second.text.now

abbrev pub RefusesPair : Pair → Outcome → Type 0
RefusesPair pair = IsPairRefusal pair.first.text.now pair.second.text.now

-- the word for their relation is the answer, or one of the texts gets none
abbrev pub IsComparisonReply : List ℕ → List ℕ → Reply → Type 0
IsComparisonReply first second reply =
    ((relation : MarkerRelation) × RelatesTexts first second relation
    × Answers Answered (relation_word relation) reply)
    ⊎ (IsRefused first reply ⊎ IsRefused second reply)

-- the word for a relation, and a line for each environment that shows it
abbrev pub witness_text : MarkerRelation → List ShownWitness → List ℕ
witness_text relation shown = relation_word relation ++ 10 ∷ [] ++ lines_text shown

-- The text is that of the relation of two texts, with what shows it: of each side that the relation
-- is about an environment there, or none only if no valuation is there.
pub record IsWitnessText (first second : List ℕ) (text : String Global) : Type 0 where
  pub relation : MarkerRelation
  pub shown : List ShownWitness
  pub pair : RelatesTexts first second relation
  pub shows : ShowsEach pair.f pair.g (sides_of relation) shown
  pub is : string_bytes text ≡ witness_text relation shown

-- their relation with what shows it is the answer, or one of the texts gets none
abbrev pub IsWitnessReply : List ℕ → List ℕ → Reply → Type 0
IsWitnessReply first second reply =
    ((reply.outcome ≡ Answered) × IsWitnessText first second reply.output)
    ⊎ (IsRefused first reply ⊎ IsRefused second reply)
