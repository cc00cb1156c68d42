-- What `simplify` writes.
use Rattle.std.proofs.Common.{◌≡◌, ◌∙◌, ℕ, Bool, List, [], ◌∷◌, ◌++◌, sym, ap, subst, inl, inr, string_bytes}
use Rattle.std.specs.Prelude.{◌⊎◌}
use Rattle.std.specs.declared.ops.Bound.{Bound}
use Rattle.version_ranges.specs.Clamp.{bound_of}
use Rattle.pep440_version.specs.Parts.{Parts}
use Rattle.marker_environment.specs.Valuation.{Valuation}
use Rattle.marker_graph.specs.declared.tree.MarkerTree.{MarkerTree}
use Rattle.marker_graph.specs.Contents.{Contents, IsKept, truth}
use Rattle.marker_answers.specs.Simplified.{GrantsBy}
use Rattle.marker_answers.specs.Simplified as library
use Rattle.marker_answers.specs.declared.simplifying.Granted.{Granted}
use Rattle.marker_answers.specs.declared.simplifying.MarkerAnswer.{MarkerAnswer}
use Rattle.marker_commands.proofs.ParsingLaws.{no_answer, read_kept, short}
use Rattle.marker_commands.specs.declared.outcome.Outcome.{Outcome}
use Rattle.marker_commands.specs.declared.outcome.Outcome.TheVariants.{Answered, OutOfMemory}
use Rattle.marker_commands.specs.declared.outcome.Reply.{Reply}
use Rattle.marker_commands.specs.declared.simplifying.Simplification.{Simplification}
use Rattle.marker_commands.specs.Outcome.{Answers, HasNoAnswer, IsRefusalOf}
use Rattle.marker_commands.specs.Parsing.{IsTreeFor}
use Rattle.marker_commands.specs.Simplifying.{answer_text, IsSimplified, IsSimplificationReply}

-- what is left of a marker that stays in an interner
pub simplified : {c d : Contents} {text : List ℕ} {t : MarkerTree} (by : Simplification) (granted : Granted) (answer : MarkerAnswer)
    → IsTreeFor c text t → IsKept c d → library.IsSimplified (truth d t) granted answer → bound_of granted.lower ≡ by.range.now.lower → bound_of granted.upper ≡ by.range.now.upper
    → granted.requires_python ≡ by.requires_python → granted.extras.now ≡ by.extras.now → IsSimplified text by answer
simplified {d = d} {t = t} by granted answer p kept (g, grants, shows) lower upper requires extras =
    let f : Valuation → Bool = truth d t in
    let a = subst (λ (l : Bound Parts). GrantsBy granted.requires_python f l (bound_of granted.upper) granted.extras.now g) lower grants in
    let b = subst (λ (u : Bound Parts). GrantsBy granted.requires_python f by.range.now.lower u granted.extras.now g) upper a in
    let c = subst (λ (r : Bool). GrantsBy r f by.range.now.lower by.range.now.upper granted.extras.now g) requires b in
    record {
      f = f;
      reads = read_kept p kept;
      g = g;
      grants = subst (λ (e : List (List ℕ)). GrantsBy by.requires_python f by.range.now.lower by.range.now.upper e g) extras c;
      shows = shows;
    }

-- the line of an answer, or a lack of memory for it
pub line : (text : List ℕ) (by : Simplification) (words : List ℕ) (answer : MarkerAnswer) (reply : Reply)
    → IsSimplified text by answer → words ≡ answer_text answer
    → HasNoAnswer OutOfMemory reply ⊎ Answers Answered words reply → IsSimplificationReply text by reply
line text by words answer reply p e (inl q) = inr (no_answer text OutOfMemory reply tt q)
line text by words answer reply p e (inr q) = inl (answer, p, subst (λ (w : List ℕ). Answers Answered w reply) e q)

pub no_line : (text : List ℕ) (by : Simplification) (outcome : Outcome) (reply : Reply)
    → IsRefusalOf text outcome → HasNoAnswer outcome reply → IsSimplificationReply text by reply
no_line text by outcome reply p q = inr (no_answer text outcome reply p q)

pub ruleset simplifications = (simplified, short)

pub ruleset replies = (line, no_line)
