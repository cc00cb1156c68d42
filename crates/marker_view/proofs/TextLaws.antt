-- The same for texts: a plain formula may change only at plain texts, and so may the nodes of its
-- residues.
use Rattle.std.proofs.Common.{◌≡◌, ◌≢◌, ◌&&◌, ◌||◌, ℕ, Bool, true, false, List, [], ◌∷◌, ◌++◌, cond, sym, ap, ◌∙◌, string_bytes, arith}
use Rattle.std.specs.FinMap.{nat_cmp-IsAntisymmetric, slice_cmp-IsAntisymmetric}
use Rattle.std.specs.List.{AllByRecursion}
use Rattle.std.specs.Ordering.{is_eq, is_lt, ordering_then}
use Rattle.std.specs.declared.cmp.Ordering.{Ordering}
use Rattle.std.specs.declared.cmp.Ordering.TheVariants.{Less, Equal, Greater}
use Rattle.std.specs.declared.alloc.Global.{Global}
use Rattle.std.specs.declared.string.String.{String}
use Rattle.std.proofs.lemmas.Bool.{true≢false}
use Rattle.version_ranges.specs.declared.cut.Cut.{Cut}
use Rattle.version_ranges.specs.Alike.{AreAlike, TiesWithNone}
use Rattle.version_ranges.specs.Cut.{cut_point}
use Rattle.version_ranges.specs.Point.{Point, bottom, at, above, point_cmp, point_lt}
use Rattle.marker_words.specs.Compare.{beside, text_cmp}
use Rattle.marker_words.specs.declared.key.MarkerValueString.{MarkerValueString}
use Rattle.marker_words.specs.declared.operator.MarkerOperator.{MarkerOperator}
use Rattle.marker_words.specs.declared.operator.ExtraOperator.TheVariants as extra_operators
use Rattle.marker_environment.specs.Valuation.{Valuation}
use Rattle.marker_parts.specs.Expression.{Test, version, version_in, text, extra, holds, holds_text}
use Rattle.marker_grammar.specs.Formula.{Formula, test, both, either, truth_of}
use Rattle.marker_nodes.specs.Node.{lowest}
use Rattle.marker_nodes.specs.Variable.{Variable, variable_cmp, mix}
use Rattle.marker_terms.specs.Plain.{is_plain}
use Rattle.marker_view.specs.Readable.{AllPlain, IsPlainTest}
use Rattle.marker_view.proofs.Asked.{asked, mixed}

abbrev pub test_ends : Test → List (Point (List ℕ))
test_ends (version key s) = []
test_ends (version_in key versions negated) = []
test_ends (text key operator t) = at t ∷ above t ∷ []
test_ends (extra operator x) = []

abbrev pub text_ends : Formula → List (Point (List ℕ))
text_ends (test t) = test_ends t
text_ends (both f g) = text_ends f ++ text_ends g
text_ends (either f g) = text_ends f ++ text_ends g

-- a point at a plain text
abbrev IsPlainPoint : Point (List ℕ) → Type 0
IsPlainPoint bottom = ⊥
IsPlainPoint (at t) = is_plain t ≡ true
IsPlainPoint (above t) = is_plain t ≡ true

test_plain : (t : Test) → IsPlainTest t → AllByRecursion IsPlainPoint (test_ends t)
test_plain t h1 = grind arith

joined : (xs ys : List (Point (List ℕ))) → AllByRecursion IsPlainPoint xs → AllByRecursion IsPlainPoint ys → AllByRecursion IsPlainPoint (xs ++ ys)
joined [] ys a b = b
joined (x ∷ xs) ys a b = (a.0, joined xs ys a.1 b)

formula_plain : (g : Formula) → AllPlain g → AllByRecursion IsPlainPoint (text_ends g)
formula_plain (test t) h = test_plain t h
formula_plain (both f g) h = joined (text_ends f) (text_ends g) (formula_plain f h.0) (formula_plain g h.1)
formula_plain (either f g) h = joined (text_ends f) (text_ends g) (formula_plain f h.0) (formula_plain g h.1)

never_less : (r : Ordering) → ordering_then r Less ≢ Equal
never_less r = grind arith

never_greater : (r : Ordering) → ordering_then r Greater ≢ Equal
never_greater r = grind arith

module _ (w : List ℕ) (none : is_plain w ≡ false) where
  untied : (t : List ℕ) → is_plain t ≡ true → text_cmp t w ≢ Equal
  untied t r = λ e. true≢false (sym r ∙ ap is_plain (slice_cmp-IsAntisymmetric nat_cmp-IsAntisymmetric t w e) ∙ none)

  at_untied : (end : Point (List ℕ)) → IsPlainPoint end → point_cmp text_cmp end (at w) ≢ Equal
  at_untied end h1 = grind (arith, untied, never_greater)

  above_untied : (end : Point (List ℕ)) → IsPlainPoint end → point_cmp text_cmp end (above w) ≢ Equal
  above_untied end h1 = grind (arith, never_less, untied)

  point_untied : (b : Bool) (end : Point (List ℕ)) → IsPlainPoint end → point_cmp text_cmp end (cond b (above w) (at w)) ≢ Equal
  point_untied b end h1 = grind (arith, above_untied, at_untied)

none_ties : (c : Cut (String Global)) → is_plain (string_bytes c.value) ≡ false → (ends : List (Point (List ℕ))) → AllByRecursion IsPlainPoint ends → TiesWithNone text_cmp (cut_point string_bytes c) ends
none_ties c e [] a = tt
none_ties c e (x ∷ ends) a = (point_untied (string_bytes c.value) e c.above x a.0, none_ties c e ends a.1)

pub text_ties_with_none : (g : Formula) → AllPlain g → (c : Cut (String Global)) → is_plain (string_bytes c.value) ≡ false → TiesWithNone text_cmp (cut_point string_bytes c) (text_ends g)
text_ties_with_none g h c e = none_ties c e (text_ends g) (formula_plain g h)

-- ---- the formula is the same at points with the same order to them

abbrev pub all_texts : Point (List ℕ) → Valuation
all_texts p = record lowest { text = λ x. p }

alike_parts : (p q : Point (List ℕ)) (xs ys : List (Point (List ℕ))) → AreAlike text_cmp p q (xs ++ ys) → AreAlike text_cmp p q xs × AreAlike text_cmp p q ys
alike_parts p q [] ys a = (tt, a)
alike_parts p q (x ∷ xs) ys a = let r = alike_parts p q xs ys a.1 in ((a.0, r.0), r.1)

abbrev beside_by : Bool → Bool → Ordering
beside_by true b = Less
beside_by false true = Equal
beside_by false false = Greater

beside_is : (p : Point (List ℕ)) (t : List ℕ) → beside text_cmp p t ≡ beside_by (point_lt text_cmp p (at t)) (point_lt text_cmp p (above t))
beside_is p t = grind arith

module _ (p q : Point (List ℕ)) where
  beside_alike : (t : List ℕ) → AreAlike text_cmp p q (at t ∷ above t ∷ []) → beside text_cmp p t ≡ beside text_cmp q t
  beside_alike t h1 = grind arith

  text_alike : (operator : MarkerOperator) (key : MarkerValueString) (t : List ℕ) → AreAlike text_cmp p q (at t ∷ above t ∷ []) → holds_text operator key t (all_texts p) ≡ holds_text operator key t (all_texts q)
  text_alike operator key t h1 = grind (arith, beside_alike)

  test_alike : (t : Test) → AreAlike text_cmp p q (test_ends t) → holds t (all_texts p) ≡ holds t (all_texts q)
  test_alike t h1 = grind (arith, text_alike)

  module _ (x y : Variable) (held w : Valuation) where
    abbrev pub held_with : Point (List ℕ) → Valuation
    held_with r = mix (λ z. is_lt (variable_cmp z y)) held (mix (λ z. is_eq (variable_cmp x z)) (all_texts r) w)

    answers : (r : Point (List ℕ)) (t : Test) → holds t (held_with r) ≡ cond (is_lt (variable_cmp (asked t) y)) (holds t held) (cond (is_eq (variable_cmp x (asked t))) (holds t (all_texts r)) (holds t w))
    answers r t = grind (arith, mixed, cond, asked)

    pub texts_alike : (g : Formula) → AreAlike text_cmp p q (text_ends g) → truth_of g (held_with p) ≡ truth_of g (held_with q)
    texts_alike (test t) a =
        answers p t ∙ ap (λ b. cond (is_lt (variable_cmp (asked t) y)) (holds t held) (cond (is_eq (variable_cmp x (asked t))) b (holds t w))) (test_alike t a) ∙ sym (answers q t)
    texts_alike (both f g) a =
        let r = alike_parts p q (text_ends f) (text_ends g) a in
        ap (λ b. b && truth_of g (held_with p)) (texts_alike f r.0) ∙ ap (λ b. truth_of f (held_with q) && b) (texts_alike g r.1)
    texts_alike (either f g) a =
        let r = alike_parts p q (text_ends f) (text_ends g) a in
        ap (λ b. b || truth_of g (held_with p)) (texts_alike f r.0) ∙ ap (λ b. truth_of f (held_with q) || b) (texts_alike g r.1)
