-- What simplified markers say.
use Rattle.std.proofs.Common.{◌≡◌, ◌∙◌, ℕ, List, Bool, refl, sym, ap, subst}
use Rattle.std.specs.Borrow.{Bor}
use Rattle.std.specs.declared.ops.Bound.{Bound}
use Rattle.std.specs.declared.ops.Bound.TheVariants.{Included, Excluded, Unbounded}
use Rattle.pep440_version.specs.Grammar.{IsVersionText}
use Rattle.pep440_version.specs.Parts.{Parts}
use Rattle.marker_environment.specs.Valuation.{Valuation}
use Rattle.marker_graph.specs.declared.tree.MarkerTree.{MarkerTree}
use Rattle.marker_graph.specs.Contents.{Contents, IsHeld, IsKept, truth}
use Rattle.marker_simplifications.specs.Extras.{grant}
use Rattle.marker_simplifications.specs.Python.{Assumes}
use Rattle.marker_walks.specs.Possible.{is_listed}
use Rattle.foreign_calls.proofs.KeptLaws.{held_kept, truth_kept}
use Rattle.foreign_calls.specs.declared.simplification.BoundText.{BoundText}
use Rattle.foreign_calls.specs.Environment.{bytes_of, Names}
use Rattle.foreign_calls.specs.Marker.{Says, IsTreeFor, IsTextOf}
use Rattle.foreign_calls.specs.Simplified.{given_bound, SaysBound, included, excluded, unbounded, IsTaken, IsInside, IsSimple, IsSimpleText, IsSimplified}
use Rattle.foreign_calls.proofs.RelationLaws.{same_said}

-- a truth that is the same everywhere is simplified to the same
same_assumed : {lower upper : Bound Parts} {f f' g : Valuation → Bool} → Assumes lower upper f g → ((v : Valuation) → f' v ≡ f v) → Assumes lower upper f' g
same_assumed p same = record {
  inside = λ v i. p.inside v i ∙ sym (same v);
  below = λ q b v o. p.below q b v o ∙ sym (same _);
  above = λ q b v o. let x = p.above q b v o in (x.0, x.1, λ r s t. x.2 r s t ∙ sym (same _));
  empty = p.empty;
}

-- the tree that is simplified by a range and then by extras
pub simple_tree : {first middle last : Contents} {lower upper : Bound Parts} {names : List (List ℕ)} {t inside simple : MarkerTree}
    → IsKept first middle → IsHeld first t → IsInside middle lower upper t inside → IsKept middle last
    → ((v : Valuation) → truth last simple v ≡ grant (is_listed names) (truth last inside) v) → IsHeld last simple → IsSimple last lower upper names t simple
simple_tree {first} {middle} {last} {names = names} {t = t} {inside = inside} kept held p kept' grants held' = record {
  held = held';
  taken = record {
    inside = truth middle inside;
    assumes = same_assumed p.assumes (truth_kept middle last t kept' (held_kept first middle t kept held));
    grants = λ v. grants v ∙ truth_kept middle last inside kept' p.held _;
  };
}

pub simple : {old new : Contents} {text bytes : List ℕ} {lower upper : Bound Parts} {names : List (List ℕ)} {t s : MarkerTree}
    → IsTreeFor old text t → IsKept old new → IsSimple new lower upper names t s → IsTextOf (truth new s) bytes → IsSimpleText text lower upper names bytes
simple {old = old} {new = new} {t = t} {s = s} p kept q r = record { truth = truth new t; says = same_said p.says (truth_kept old new t kept p.held); simple = truth new s; taken = q.taken; written = r }

-- bounds by their kinds
pub no_bound : (b : BoundText) → b.kind ≡ 0 → SaysBound (given_bound b) Unbounded
unfolding given_bound
no_bound b e = subst (λ (k : ℕ). SaysBound (given_bound (record b { kind = k })) Unbounded) (sym e) unbounded

pub included_bound : (b : BoundText) (version : Parts) → b.kind ≡ 1 → IsVersionText b.version.now version → SaysBound (given_bound b) (Included version)
unfolding given_bound
included_bound b version e p = subst (λ (k : ℕ). SaysBound (given_bound (record b { kind = k })) (Included version)) (sym e) (included p)

pub excluded_bound : (b : BoundText) (version : Parts) → b.kind ≡ 2 → IsVersionText b.version.now version → SaysBound (given_bound b) (Excluded version)
unfolding given_bound
excluded_bound b version e p = subst (λ (k : ℕ). SaysBound (given_bound (record b { kind = k })) (Excluded version)) (sym e) (excluded p)

pub simplified : {text bytes : List ℕ} {lower upper : BoundText} {from until : Bound Parts} {extras : List (Bor (List ℕ))} {names : List (List ℕ)}
    → SaysBound (given_bound lower) from → SaysBound (given_bound upper) until → Names (bytes_of extras) names → IsSimpleText text from until names bytes → IsSimplified text lower upper extras bytes
simplified {from = from} {until = until} {names = names} p q r s = record { from = from; until = until; lower_says = p; upper_says = q; names = names; are_names = r; text_is = s }

pub ruleset bounds = (no_bound, included_bound, excluded_bound)
