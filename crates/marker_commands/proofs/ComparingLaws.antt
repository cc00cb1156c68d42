-- What `compare` writes.
use Rattle.std.proofs.Common.{◌≡◌, ℕ, List, String, arith, subst, inl, inr}
use Rattle.std.specs.Prelude.{◌⊎◌, string_bytes}
use Rattle.std.specs.declared.alloc.Global.{Global}
use Rattle.marker_graph.specs.declared.tree.MarkerTree.{MarkerTree}
use Rattle.marker_graph.specs.Contents.{Contents, IsHeld, IsKept, truth}
use Rattle.marker_graph.specs.declared.relation.MarkerRelation.{MarkerRelation}
use Rattle.marker_graph.specs.Relation.{Relates}
use Rattle.marker_witnesses.specs.declared.sides.ShownWitness.{ShownWitness}
use Rattle.marker_witnesses.specs.Sides.{ShowsEach, sides_of}
use Rattle.marker_commands.proofs.ParsingLaws.{no_answer, read_kept}
use Rattle.marker_commands.proofs.ParsingLaws.{short as no_room}
use Rattle.marker_commands.specs.declared.comparing.Related.{Related}
use Rattle.marker_commands.specs.declared.outcome.Outcome.{Outcome}
use Rattle.marker_commands.specs.declared.outcome.Outcome.TheVariants.{Answered, TooComplex, OutOfMemory}
use Rattle.marker_commands.specs.declared.outcome.Reply.{Reply}
use Rattle.marker_commands.specs.Comparing.{AreRelatedIn, IsComparisonReply, IsPairRefusal, IsWitnessReply, IsWitnessText, RelatesTexts, relation_word, witness_text}
use Rattle.marker_commands.specs.Outcome.{Answers, HasNoAnswer, IsRefusalOf}
use Rattle.marker_commands.specs.Parsing.{IsTreeFor, Told}

-- a tree that stays in an interner is still that of the text
tree_kept : (c d : Contents) (text : List ℕ) (t : MarkerTree) → IsTreeFor c text t → IsKept c d → IsTreeFor d text t
tree_kept c d text t p kept = let held = p.held in let longer = kept.nodes.longer in record { held = omega arith; reads = read_kept p kept }

-- two trees of which the second was parsed after the first
pub related : {c d : Contents} (first second : List ℕ) (a b : MarkerTree) (relation : MarkerRelation)
    → IsTreeFor c first a → IsKept c d → IsTreeFor d second b → Relates (truth d a) (truth d b) relation
    → AreRelatedIn d first second (record { first = a; second = b; relation = relation })
related {c = c} {d = d} first second a b relation p kept q r =
    record { first_tree = tree_kept c d first a p kept; second_tree = q; relates = r }

-- why there is no answer
pub first_refused : (first second : List ℕ) (outcome : Outcome) → IsRefusalOf first outcome → IsPairRefusal first second outcome
first_refused first second outcome p = inl p

pub second_refused : (first second : List ℕ) (outcome : Outcome) → IsRefusalOf second outcome → IsPairRefusal first second outcome
second_refused first second outcome p = inr p

pub short : (first second : List ℕ) (outcome : Outcome) → Told TooComplex outcome → IsPairRefusal first second outcome
short first second outcome p = inl (no_room first outcome p)

pub without_memory : (first second : List ℕ) (outcome : Outcome) → outcome ≡ OutOfMemory → IsPairRefusal first second outcome
without_memory first second outcome e = short first second outcome (inr e)

-- what two trees of an interner say of their texts
texts_related : {c : Contents} {first second : List ℕ} {pair : Related} → AreRelatedIn c first second pair → RelatesTexts first second pair.relation
texts_related {c = c} {pair = pair} p = record { f = truth c pair.first; g = truth c pair.second; first_reads = p.first_tree.reads; second_reads = p.second_tree.reads; relates = p.relates }

-- the text of their relation
pub shows_text : {c : Contents} (first second : List ℕ) (pair : Related) (shown : List ShownWitness) (written : String Global) → AreRelatedIn c first second pair
    → ShowsEach (truth c pair.first) (truth c pair.second) (sides_of pair.relation) shown → string_bytes written ≡ witness_text pair.relation shown → IsWitnessText first second written
unfolding texts_related
shows_text {c = c} first second pair shown written p shows e = record { relation = pair.relation; shown = shown; pair = texts_related p; shows = shows; is = e }

-- the line of a relation, or a lack of memory for it
pub line : {c : Contents} (first second word : List ℕ) (pair : Related) (reply : Reply) → AreRelatedIn c first second pair → word ≡ relation_word pair.relation
    → HasNoAnswer OutOfMemory reply ⊎ Answers Answered word reply → IsComparisonReply first second reply
line first second word pair reply p e (inl q) = inr (inl (no_answer first OutOfMemory reply tt q))
line first second word pair reply p e (inr q) = inl (pair.relation, texts_related p, subst (λ (w : List ℕ). Answers Answered w reply) e q)

pub no_line : (first second : List ℕ) (outcome : Outcome) (reply : Reply) → IsPairRefusal first second outcome → HasNoAnswer outcome reply → IsComparisonReply first second reply
no_line first second outcome reply (inl p) q = inr (inl (no_answer first outcome reply p q))
no_line first second outcome reply (inr p) q = inr (inr (no_answer second outcome reply p q))

pub shown : (first second : List ℕ) (reply : Reply) → IsWitnessText first second reply.output → reply.outcome ≡ Answered → IsWitnessReply first second reply
shown first second reply p e = inl (e, p)

pub not_shown : (first second : List ℕ) (outcome : Outcome) (reply : Reply) → IsPairRefusal first second outcome → HasNoAnswer outcome reply → IsWitnessReply first second reply
not_shown first second outcome reply (inl p) q = inr (inl (no_answer first outcome reply p q))
not_shown first second outcome reply (inr p) q = inr (inr (no_answer second outcome reply p q))

pub ruleset relations = (related, first_refused, second_refused, short)

pub ruleset texts = (shows_text, first_refused, second_refused, short, without_memory)

pub ruleset replies = (line, no_line, shown, not_shown)
