-- What `eval` writes.
use Rattle.std.proofs.Common.{◌≡◌, ◌∙◌, ◌<◌, ◌+◌, ℕ, Bool, List, [], ◌∷◌, ◌++◌, take, length, get_or, sym, ap, subst, inl, inr, append_assoc, string_bytes, codes}
use Rattle.std.specs.Prelude.{◌⊎◌}
use Rattle.std.proofs.lemmas.List.{flat_map_more, take_more}
use Rattle.marker_walks.specs.declared.keys.EnvironmentKey.{EnvironmentKey}
use Rattle.marker_walks.specs.Keys.{key_name}
use Rattle.marker_graph.specs.declared.tree.MarkerTree.{MarkerTree}
use Rattle.marker_graph.specs.Contents.{Contents, IsKept, truth}
use Rattle.marker_answers.specs.Evaluation.{IsEvaluation}
use Rattle.marker_answers.specs.declared.evaluating.Evaluation.{Evaluation}
use Rattle.marker_commands.proofs.ParsingLaws.{no_answer, read_kept, short}
use Rattle.marker_commands.specs.declared.evaluating.Situation.{Situation}
use Rattle.marker_commands.specs.declared.outcome.Outcome.{Outcome}
use Rattle.marker_commands.specs.declared.outcome.Outcome.TheVariants.{Open, OutOfMemory}
use Rattle.marker_commands.specs.declared.outcome.Outcome.TheVariants as outcomes
use Rattle.marker_commands.specs.declared.outcome.Reply.{Reply}
use Rattle.marker_commands.specs.Evaluating.{IsEvaluated, IsEvaluationReply, ShowsEvaluation, ShowsKeys, ShowsTruth, keys_text, names_of, outcome_of, truth_word}
use Rattle.marker_commands.specs.Outcome.{Answers, HasNoAnswer, IsRefusalOf}
use Rattle.marker_commands.specs.Parsing.{IsTreeFor, Told}

-- what a marker is that stays in an interner
pub evaluated : {c d : Contents} {text : List ℕ} {t : MarkerTree} (situation : Situation) (evaluation : Evaluation)
    → IsTreeFor c text t → IsKept c d → IsEvaluation (truth d t) situation.known.now situation.extras.now evaluation → IsEvaluated text situation evaluation
evaluated {d = d} {t = t} situation evaluation p kept is = record { f = truth d t; reads = read_kept p kept; is = is }

-- the line of a truth, or a lack of memory for it
pub truth_shown : (word : List ℕ) (outcome : Outcome) (fails b : Bool) (reply : Reply) → outcome ≡ outcome_of fails b → word ≡ truth_word b
    → HasNoAnswer OutOfMemory reply ⊎ Answers outcome word reply → HasNoAnswer OutOfMemory reply ⊎ ShowsTruth fails b reply
truth_shown word outcome fails b reply o w (inl p) = inl p
truth_shown word outcome fails b reply o w (inr p) = inr (p.0 ∙ o, p.1 ∙ ap (λ (x : List ℕ). x ++ 10 ∷ []) w)

-- the last message names the keys
pub keys_shown : (before text : List ℕ) (keys : List EnvironmentKey) (reply : Reply) → HasNoAnswer Open reply → string_bytes reply.messages ≡ text → text ≡ before ++ keys_text keys → HasNoAnswer OutOfMemory reply ⊎ ShowsKeys keys reply
keys_shown before text keys reply p m q = inr (p, (before, m ∙ q))

pub complex_shown : (outcome : Outcome) (reply : Reply) → Told outcomes.TooComplex outcome → HasNoAnswer outcome reply → HasNoAnswer OutOfMemory reply ⊎ HasNoAnswer outcomes.TooComplex reply
complex_shown outcome reply (inl e) p = inr (p.0 ∙ e, p.1)
complex_shown outcome reply (inr e) p = inl (p.0 ∙ e, p.1)

-- one more name of a key
pub one_more : (keys : List EnvironmentKey) (i : ℕ) (d : EnvironmentKey) (s a b c n : List ℕ) → i < length keys → a ≡ s ++ names_of (take i keys) → b ≡ a ++ codes " " → c ≡ b ++ n → n ≡ key_name (get_or keys i d) → c ≡ s ++ names_of (take (i + 1) keys)
one_more keys i d s a b c n below inv space pushed name =
    let text : List ℕ = codes " " ++ key_name (get_or keys i d) in
    pushed ∙ ap (λ (x : List ℕ). b ++ x) name ∙ ap (λ (x : List ℕ). x ++ key_name (get_or keys i d)) space ∙ append_assoc a (codes " ") (key_name (get_or keys i d))
    ∙ ap (λ (x : List ℕ). x ++ text) inv ∙ flat_map_more (λ key. codes " " ++ key_name key) s (take i keys) (get_or keys i d)
    ∙ ap (λ (l : List EnvironmentKey). s ++ names_of l) (sym (take_more keys i d below))

-- three texts, one after the other
pub three : (m a b c m1 m2 m3 : List ℕ) → m1 ≡ m ++ a → m2 ≡ m1 ++ b → m3 ≡ m2 ++ c → m3 ≡ m ++ (a ++ b ++ c)
three m a b c m1 m2 m3 e1 e2 e3 = e3 ∙ ap (λ (x : List ℕ). x ++ c) (e2 ∙ ap (λ (x : List ℕ). x ++ b) e1 ∙ append_assoc m a b) ∙ append_assoc m (a ++ b) c

pub shown : (text : List ℕ) (situation : Situation) (evaluation : Evaluation) (reply : Reply)
    → IsEvaluated text situation evaluation → ShowsEvaluation situation.fails_on_false evaluation reply → IsEvaluationReply text situation reply
shown text situation evaluation reply p q = inl (evaluation, p, q)

pub not_shown : (text : List ℕ) (situation : Situation) (outcome : Outcome) (reply : Reply)
    → IsRefusalOf text outcome → HasNoAnswer outcome reply → IsEvaluationReply text situation reply
not_shown text situation outcome reply p q = inr (no_answer text outcome reply p q)

pub ruleset evaluations = (evaluated, short)

pub ruleset lines = (truth_shown, complex_shown)

pub ruleset replies = (shown, not_shown)
