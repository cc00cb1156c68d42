-- Requirements of one interner, of which each is parsed from a text.
use Rattle.std.proofs.Common.{◌≡◌, ◌∙◌, ℕ, Bool, true, false, List, refl, sym, ap, subst}
use Rattle.std.proofs.lemmas.Bool.{true≢false}
use Rattle.std.specs.Prelude.{nat_eq, not, Result, Ok, Err, IfOk}
use Rattle.std.specs.Bool.{Decides}
use Rattle.std.specs.Cmp.Lexicographic.{pointwise}
use Rattle.std.proofs.lemmas.Bool.Decides.{Decides-eqb}
use Rattle.std.proofs.lemmas.Slice.Eq.{slice_eq-Decides}
use Rattle.pep508_errors.specs.declared.surroundings.Surroundings.{Surroundings}
use Rattle.pep508_errors.specs.declared.warning.MarkerWarningKind.{MarkerWarningKind}
use Rattle.marker_environment.specs.Valuation.{Valuation}
use Rattle.marker_diagrams.specs.declared.node_id.NodeId.{NodeId}
use Rattle.marker_diagrams.specs.Id.{is_negated, place_of, same_id, signed}
use Rattle.marker_diagrams.proofs.IdLaws.{same_id_is}
use Rattle.marker_graph.specs.declared.tree.MarkerTree.{MarkerTree}
use Rattle.marker_graph.specs.Contents.{Contents, IsHeld, IsKept, truth}
use Rattle.pep508_requirements.specs.Requirement.{IsReadAs, urls_in}
use Rattle.pep508_requirements.specs.declared.requirement.Requirement.{Requirement}
use Rattle.pep508_urls.specs.Meaning.{IsVerbatim}
use Rattle.pep508_urls.specs.Verbatim.{Verbatim}
use Rattle.pep508_urls.specs.declared.error.VerbatimUrlError.{VerbatimUrlError}
use Rattle.formatting_commands.specs.Same.{IsParsedIn, IsSame, IsSameText, IsSameWish, Parses, TellsSame}
use Rattle.formatting_commands.specs.Formatting.{IsSameFrom, StartsFrom}

abbrev Named : Type 0
Named = Requirement Verbatim VerbatimUrlError

-- texts, and lists of them, that compare as equal
same_bytes : (a b : List ℕ) → Decides (pointwise nat_eq a b) (a ≡ b)
same_bytes a b = slice_eq-Decides Decides-eqb a b (pointwise nat_eq a b) refl

not_true : (b r : Bool) → r ≡ not b → r ≡ false → b ≡ true
not_true true r e f = refl
not_true false r e f = absurd (true≢false (sym e ∙ f))

pub alike : (xs ys : List ℕ) (r : Bool) → r ≡ not (pointwise nat_eq xs ys) → r ≡ false → xs ≡ ys
alike xs ys r e f = (slice_eq-Decides Decides-eqb xs ys true (sym (not_true (pointwise nat_eq xs ys) r e f))).0 refl

pub all_alike : (xs ys : List (List ℕ)) (r : Bool) → r ≡ not (pointwise (pointwise nat_eq) xs ys) → r ≡ false → xs ≡ ys
all_alike xs ys r e f = (slice_eq-Decides same_bytes xs ys true (sym (not_true (pointwise (pointwise nat_eq) xs ys) r e f))).0 refl

-- markers that compare as equal
made : NodeId → MarkerTree
made id = record { id = id }

pub same_marker : (t u : MarkerTree) (r : Bool) → r ≡ not (same_id t.id u.id) → r ≡ false → t ≡ u
unfolding made
same_marker t u r e f = ap made (same_id_is t.id u.id (not_true (same_id t.id u.id) r e f))

-- a marker means the same while an interner grows
kept_truth : (old new : Contents) (t : MarkerTree) → IsKept old new → IsHeld old t → (v : Valuation) → truth new t v ≡ truth old t v
kept_truth old new t k h v = ap (signed (is_negated t.id)) (k.nodes.truth (place_of t.id) v h)

-- the formula of what was parsed
pub parses : {s : Surroundings} {c : Contents} {text : List ℕ} (r : Named) (read : IsParsedIn s c text r) → Parses s text r.name r.extras.items r.version_or_url read.read.formula
parses r read = record { kinds = read.kinds; requirement = read.read.requirement; no_overflow = read.read.no_overflow }

-- texts of the same requirement
pub same_text : {s : Surroundings} {c d : Contents} {old new : List ℕ} (r q : Named) → IsParsedIn s c old r → IsHeld c r.marker → IsKept c d → IsParsedIn s d new q → IsSame r q → IsSameText s old new
same_text {s} {c} {d} {old} {new} r q first held kept second same = record {
  name = r.name;
  extras = r.extras.items;
  wish = r.version_or_url;
  wish_again = q.version_or_url;
  formula = first.read.formula;
  formula_again = second.read.formula;
  old_parses = parses r first;
  new_parses =
      subst (λ (n : List ℕ). Parses s new n r.extras.items q.version_or_url second.read.formula) (sym same.name)
      (subst (λ (x : List (List ℕ)). Parses s new q.name x q.version_or_url second.read.formula) (sym same.extras) (parses q second));
  same_wish = same.wish;
  same_truth = λ v. sym (first.read.means v) ∙ sym (kept_truth c d r.marker kept held v) ∙ ap (λ (t : MarkerTree). truth d t v) same.marker ∙ second.read.means v;
}

-- a text that parses as the same requirement, in an interner that has grown
pub parses_as : {s : Surroundings} {c d : Contents} {new : List ℕ} (r q : Named) → IsHeld c r.marker → IsKept c d → IsParsedIn s d new q → (told : Bool) → (told ≡ true → IsSame r q) → TellsSame s c r new told
parses_as r q held kept second told same = λ is old first. same_text r q first held kept second (same is)

-- requirements with the same parts
pub same_parts : {A : Type 0} (r q : Named) (result : Result Bool A) → r.name ≡ q.name → r.extras.items ≡ q.extras.items → r.marker ≡ q.marker
    → IfOk result (λ same. same ≡ true → IsSameWish r.version_or_url q.version_or_url) → IfOk result (λ same. same ≡ true → IsSame r q)
same_parts r q (Ok b) name extras marker wish = λ e. record { name = name; extras = extras; wish = wish e; marker = marker }
same_parts r q (Err e) name extras marker wish = tt
