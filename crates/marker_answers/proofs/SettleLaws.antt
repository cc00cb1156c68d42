-- Markers that are joined with comparisons.
use Rattle.std.proofs.Common.{◌≡◌, ◌≢◌, ℕ, Bool, true, false, ◌&&◌, List, [], ◌∷◌, ◌++◌, map, not, refl, sym, ap, subst, ◌∙◌}
use Rattle.std.specs.Prelude.{All, IsTrue, if◌then◌else◌}
use Rattle.std.specs.Ordering.{is_eq}
use Rattle.std.proofs.lemmas.List.Elements.{All-push, All-same, All-weaker}
use Rattle.std.proofs.lemmas.Bool.{true≢false, false≢true}
use Rattle.marker_environment.specs.Valuation.{Valuation}
use Rattle.marker_parts.specs.Expression.{Test, holds}
use Rattle.marker_diagrams.specs.declared.node_id.NodeId.{NodeId}
use Rattle.marker_diagrams.specs.Diagram as diagram
use Rattle.marker_nodes.specs.Node.{Node, markers}
use Rattle.marker_nodes.specs.Variable.{Variable, variable_cmp, mix}
use Rattle.marker_walks.specs.declared.keys.EnvironmentKey.{EnvironmentKey}
use Rattle.marker_walks.specs.Keys.{DependsOnKey}
use Rattle.marker_answers.specs.declared.evaluating.Evaluation.{Evaluation}
use Rattle.marker_answers.specs.declared.evaluating.Evaluation.TheVariants.{Known, Depends, TooComplex}
use Rattle.marker_answers.specs.Evaluation.{all_hold, DependAlone, DependsUnder, IsSettled}

and_assoc : (a b c : Bool) → ((a && b) && c) ≡ (a && (b && c))
and_assoc true b c = refl
and_assoc false b c = refl

-- one more comparison is joined
pub joined_one : (g t joined left whole : Bool) → joined ≡ (g && t) → (g && (t && left)) ≡ whole → (joined && left) ≡ whole
joined_one g t joined left whole e f = ap (λ x. x && left) e ∙ and_assoc g t left ∙ f

-- where the two are never true together, the marker is false where the comparisons hold
pub never_both : (marker given both hold : Bool) → both ≡ (marker && given) → given ≡ hold → both ≡ false → hold ≡ true → marker ≡ false
never_both false given both hold e f n h = refl
never_both true given both hold e f n h = absurd (false≢true (sym n ∙ e ∙ f ∙ h))

-- of two places where the joined truth differs and the comparisons' truth does not, these hold at both
both_hold : (g h f e : Bool) → g ≡ h → ((f && g) ≢ (e && h)) → (g ≡ true) × (h ≡ true) × (f ≢ e)
both_hold true h f e s d = (refl, sym s, λ q. d (ap (λ x. x && true) q ∙ ap (λ x. e && x) s))
both_hold false h f e s d = absurd (d (never f ∙ sym (never e) ∙ ap (λ x. e && x) s))
  where
    never : (b : Bool) → (b && false) ≡ false
    never true = refl
    never false = refl

same_or : (a b : Bool) → (a ≢ b → ⊥) → a ≡ b
same_or true true n = refl
same_or true false n = absurd (n true≢false)
same_or false true n = absurd (n false≢true)
same_or false false n = refl

-- what the joined truth depends on and the comparisons do not, the marker depends on where they hold
pub depends_under : (tests : List Test) (f given both : Valuation → Bool) (key : EnvironmentKey) → ((v : Valuation) → both v ≡ (f v && given v)) → ((v : Valuation) → given v ≡ all_hold tests v) →
    DependsOnKey both key × (DependsOnKey given key → ⊥) → DependsUnder tests f key
depends_under tests f given both key means says p =
    let x : Variable = p.0.0 in
    let v : Valuation = p.0.2.0 in
    let w : Valuation = p.0.2.1 in
    let u : Valuation = mix (λ y. is_eq (variable_cmp x y)) v w in
    let same : given u ≡ given w = same_or (given u) (given w) (λ d. p.1 (x, p.0.1, (v, w, d))) in
    let q = both_hold (given u) (given w) (f u) (f w) same (λ e. p.0.2.2 (means u ∙ e ∙ sym (means w))) in
    record {
      variable = x;
      about = p.0.1;
      v = v;
      w = w;
      here = sym (says u) ∙ q.0;
      there = sym (says w) ∙ q.1;
      differ = q.2;
    }

-- what is left open depends on each of the keys
pub settled : (tests : List Test) (f given both : Valuation → Bool) → ((v : Valuation) → both v ≡ (f v && given v)) → ((v : Valuation) → given v ≡ all_hold tests v) →
    (e : Evaluation) → DependAlone both given e → IsSettled f tests e
settled tests f given both means says (Known b) d = absurd d
settled tests f given both means says (Depends keys) d =
    All-weaker (λ key. DependsOnKey both key × ¬ DependsOnKey given key) (DependsUnder tests f) (λ key. depends_under tests f given both key means says) keys.items d
settled tests f given both means says TooComplex d = tt

-- one more key, if it is missing
pub all_added : {X : Type 0} (P : X → Type 0) (b : Bool) (xs ys : List X) (x : X) → ys ≡ (if b then xs ++ x ∷ [] else xs) → (IsTrue b → P x) → All P xs → All P ys
all_added P true xs ys x e p a = All-same P ys (xs ++ x ∷ []) e (All-push P xs x a (p refl))
all_added P false xs ys x e p a = All-same P ys xs e a

both_ways : (b : Bool) → IsTrue (not b) → IsTrue b → ⊥
both_ways true n y = absurd (false≢true n)
both_ways false n y = absurd (false≢true y)

-- a key on which one id depends, and another one does not
pub missing : (nodes held : List Node) (b both g given : NodeId) (key : EnvironmentKey) (r : Bool) → nodes ≡ held → b ≡ both → g ≡ given →
    DependsOnKey (diagram.truth markers nodes b) key → (DependsOnKey (diagram.truth markers nodes g) key → IsTrue r) → IsTrue (not r) →
    DependsOnKey (diagram.truth markers held both) key × (DependsOnKey (diagram.truth markers held given) key → ⊥)
missing nodes held b both g given key r e f h depends tells never =
    let P : List Node → Type 0 = λ n. DependsOnKey (diagram.truth markers n both) key in
    let Q : NodeId → Type 0 = λ i. DependsOnKey (diagram.truth markers nodes i) key in
    let R : List Node → Type 0 = λ n. DependsOnKey (diagram.truth markers n given) key in
    (subst P e (subst Q f depends), λ d. both_ways r never (tells (subst Q (sym h) (subst R (sym e) d))))
