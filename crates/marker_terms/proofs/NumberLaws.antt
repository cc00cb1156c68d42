-- What comparisons with numbers say.
use Rattle.std.proofs.Common.{◌≡◌, ◌⊎◌, inl, inr, ◌<◌, ◌&&◌, ◌||◌, ◌+◌, ◌*◌, ◌/◌, ◌%◌, ◌++◌, ℕ, zero, suc, Bool, true, false, not, List, [], ◌∷◌, Some, length, cond, map, bit_xor, refl, sym, ap, subst, ◌∙◌, arith}
use Rattle.std.specs.Prelude.{◌==◌, slice_get}
use Rattle.std.specs.List.{AllByRecursion}
use Rattle.std.specs.Option.{option_map_or}
use Rattle.std.proofs.lemmas.Bool.{cases_eq, cond-true, cond-false, eq-eqb, ne_eqb}
use Rattle.std.proofs.lemmas.List.{append_assoc, append-nil, length-append, length_push}
use Rattle.std.proofs.lemmas.Nat.{xor_mod, xor_shr}
use lib.Bits.{xor_zero_r}
use Rattle.std.proofs.lemmas.Option.{slice_get_within}
use Rattle.marker_parts.specs.declared.expression.MarkerExpression.{MarkerExpression}
use Rattle.marker_terms.specs.declared.numbered.NumberedTerm.{NumberedTerm}
use Rattle.marker_environment.specs.Valuation.{Valuation}
use Rattle.marker_terms.specs.Clauses.{MeanTheSame, term_holds, clause_holds, clauses_hold}
use Rattle.marker_terms.specs.Numbered.{number_of}
use Rattle.marker_terms.specs.Reduction.{reduced, without_terms}
use Rattle.marker_terms.proofs.MeaningLaws.{all_hold, any_holds, reduced_keeps, reduced_means}
use Rattle.marker_terms.specs.Numbering.{AreNumbered, Extends, IsNumbered, IsReductionOf, expression_of, name_holds, number_holds}

module _ (names : List MarkerExpression) where
  named : (i : ℕ) (t : MarkerExpression) (v : Valuation) → slice_get names i ≡ Some t → name_holds names i v ≡ term_holds t v
  named i t v e = ap (λ o. option_map_or (λ (s : MarkerExpression). term_holds s v) o false) e

  pub even_numbered : (i : ℕ) (t term : MarkerExpression) → slice_get names i ≡ Some t → ((v : Valuation) → term_holds term v ≡ term_holds t v) → IsNumbered names (2 * i) term
  even_numbered i t term e m =
      let l : i < length names = slice_get_within names i t e in
      let half : 2 * i / 2 ≡ i = omega arith in
      let rest : 2 * i % 2 ≡ 0 = omega arith in
      record {
        within = omega arith;
        means = λ v. m v ∙ sym (named i t v e) ∙ ap (λ n. name_holds names n v) (sym half)
            ∙ sym (cond-true (2 * i % 2 == 0) (name_holds names (2 * i / 2) v) (not (name_holds names (2 * i / 2) v)) (eq-eqb (2 * i % 2) 0 rest));
      }

  pub odd_numbered : (i : ℕ) (t term : MarkerExpression) → slice_get names i ≡ Some t → ((v : Valuation) → term_holds term v ≡ not (term_holds t v)) → IsNumbered names (2 * i + 1) term
  odd_numbered i t term e m =
      let l : i < length names = slice_get_within names i t e in
      let half : (2 * i + 1) / 2 ≡ i = omega arith in
      let rest : (2 * i + 1) % 2 ≡ 1 = omega arith in
      record {
        within = omega arith;
        means = λ v. m v ∙ ap not (sym (named i t v e) ∙ ap (λ n. name_holds names n v) (sym half))
            ∙ sym (cond-false ((2 * i + 1) % 2 == 0) (name_holds names ((2 * i + 1) / 2) v) (not (name_holds names ((2 * i + 1) / 2) v)) (ne_eqb ((2 * i + 1) % 2) 0 (λ q. absurd (omega (arith, q, rest)))));
      }

-- names that are there stay
got_more : (old more : List MarkerExpression) (i : ℕ) → i < length old → slice_get (old ++ more) i ≡ slice_get old i
got_more [] more i l = absurd (omega arith)
got_more (x ∷ old) more zero l = refl
got_more (x ∷ old) more (suc i) l = got_more old more i (omega arith)

pub numbered_more : (old new : List MarkerExpression) (n : ℕ) (term : MarkerExpression) → Extends old new → IsNumbered old n term → IsNumbered new n term
numbered_more old new n term h1 h2 = grind (arith, length, length-append, cond, not, got_more)

pub all_more : (old new : List MarkerExpression) (terms : List NumberedTerm) → Extends old new → AreNumbered old terms → AreNumbered new terms
all_more old new [] e a = tt
all_more old new (t ∷ terms) e a = (numbered_more old new t.number t.expression e a.0, all_more old new terms e a.1)

pub each_more : (old new : List MarkerExpression) (clauses : List (List NumberedTerm)) → Extends old new → AllByRecursion (AreNumbered old) clauses → AllByRecursion (AreNumbered new) clauses
each_more old new [] e a = tt
each_more old new (c ∷ clauses) e a = (all_more old new c e a.0, each_more old new clauses e a.1)

pub extends_more : (a b c : List MarkerExpression) → Extends a b → Extends b c → Extends a c
extends_more a b c (x, e) (y, f) = (x ++ y, f ∙ ap (λ z. z ++ y) e ∙ append_assoc a x y)

pub push_numbered : (names : List MarkerExpression) (terms : List NumberedTerm) (t : NumberedTerm) → AreNumbered names terms → IsNumbered names t.number t.expression → AreNumbered names (terms ++ t ∷ [])
push_numbered names [] t a i = (i, tt)
push_numbered names (s ∷ terms) t a i = (a.0, push_numbered names terms t a.1 i)

pub push_each : {X : Type 0} (P : X → Type 0) (xs : List X) (x : X) → AllByRecursion P xs → P x → AllByRecursion P (xs ++ x ∷ [])
push_each P [] x a p = (p, tt)
push_each P (y ∷ xs) x a p = (a.0, push_each P xs x a.1 p)

-- a number and that of its negation
pub opposite : (names : List MarkerExpression) (v : Valuation) (n : ℕ) → number_holds names (bit_xor n 1) v ≡ not (number_holds names n v)
opposite names v n = by_case (cases_eq (n % 2) 0)
  where
    same : bit_xor n 1 / 2 ≡ n / 2
    same = xor_shr n 1 1 ∙ xor_zero_r (n / 2)

    turned : bit_xor n 1 % 2 ≡ bit_xor (n % 2) 1
    turned = xor_mod n 1 1

    even : (k : ℕ) → k % 2 ≡ 0 → number_holds names k v ≡ name_holds names (k / 2) v
    even k e = cond-true (k % 2 == 0) (name_holds names (k / 2) v) (not (name_holds names (k / 2) v)) (eq-eqb (k % 2) 0 e)

    odd : (k : ℕ) → k % 2 ≡ 1 → number_holds names k v ≡ not (name_holds names (k / 2) v)
    odd k e = cond-false (k % 2 == 0) (name_holds names (k / 2) v) (not (name_holds names (k / 2) v)) (ne_eqb (k % 2) 0 (λ q. absurd (omega (arith, q, e))))

    twice : (b : Bool) → b ≡ not (not b)
    twice true = refl
    twice false = refl

    by_case : (n % 2 ≡ 0) ⊎ (n % 2 ≡ 0 → ⊥) → number_holds names (bit_xor n 1) v ≡ not (number_holds names n v)
    by_case (inl e) = odd (bit_xor n 1) (turned ∙ ap (λ k. bit_xor k 1) e) ∙ ap (λ k. not (name_holds names k v)) same ∙ ap not (sym (even n e))
    by_case (inr ne) =
        let e : n % 2 ≡ 1 = omega (arith, ne) in
        even (bit_xor n 1) (turned ∙ ap (λ k. bit_xor k 1) e) ∙ ap (λ k. name_holds names k v) same ∙ twice (name_holds names (n / 2) v) ∙ ap not (sym (odd n e))

got_at : (xs : List MarkerExpression) (y : MarkerExpression) (ys : List MarkerExpression) → slice_get (xs ++ y ∷ ys) (length xs) ≡ Some y
got_at [] y ys = refl
got_at (x ∷ xs) y ys = got_at xs y ys

-- the number of a name that is added
pub new_numbered : (names new : List MarkerExpression) (i : ℕ) (term name : MarkerExpression) → i ≡ length names → new ≡ names ++ name ∷ [] → ((v : Valuation) → term_holds term v ≡ term_holds name v) → IsNumbered new (2 * i) term
new_numbered names new i term name e f m =
    subst (λ n. IsNumbered new (2 * n) term) (sym e) (subst (λ xs. IsNumbered xs (2 * length names) term) (sym f) (even_numbered (names ++ name ∷ []) (length names) name term (got_at names name []) m))

-- numbers of a single clause
alone : ℕ → List MarkerExpression → List NumberedTerm
alone i [] = []
alone i (t ∷ terms) = record { number = 2 * i; expression = t } ∷ alone (i + 1) terms

alone_terms : (i : ℕ) (terms : List MarkerExpression) → map expression_of (alone i terms) ≡ terms
unfolding alone
alone_terms i [] = refl
alone_terms i (t ∷ terms) = ap (λ ts. t ∷ ts) (alone_terms (i + 1) terms)

alone_numbers : (before terms : List MarkerExpression) → AreNumbered (before ++ terms) (alone (length before) terms)
unfolding alone
alone_numbers before [] = tt
alone_numbers before (t ∷ terms) = (
  even_numbered (before ++ t ∷ terms) (length before) t t (got_at before t terms) (λ v. refl),
  subst (λ n. AreNumbered (before ++ t ∷ terms) (alone n terms)) (length_push before t) (subst (λ xs. AreNumbered xs (alone (length (before ++ t ∷ [])) terms)) (append_assoc before (t ∷ []) terms) (alone_numbers (before ++ t ∷ []) terms)),
)

module _ {X : Type 0} (number : X → ℕ) where
  no_redundant : (kept rest : List X) → without_terms number [] kept rest ≡ kept ++ rest
  no_redundant kept [] = sym (append-nil kept)
  no_redundant kept (t ∷ rest) = no_redundant (kept ++ t ∷ []) rest ∙ append_assoc kept (t ∷ []) rest

  reduced_alone : (clause : List X) → reduced number (clause ∷ []) ≡ clause ∷ []
  reduced_alone clause = ap (λ c. c ∷ []) (no_redundant [] clause)

-- fewer than two clauses stay as they are
pub few_stay : (clauses : List (List MarkerExpression)) → length clauses < 2 → IsReductionOf clauses clauses
few_stay [] l = record { numbered = []; numbering = record { names = []; terms = refl; numbers = tt }; left = refl }
few_stay (c ∷ []) l = record {
  numbered = alone 0 c ∷ [];
  numbering = record { names = c; terms = ap (λ d. d ∷ []) (alone_terms 0 c); numbers = (alone_numbers [] c, tt) };
  left = sym (ap (map (map expression_of)) (reduced_alone number_of (alone 0 c)) ∙ ap (λ d. d ∷ []) (alone_terms 0 c));
}
few_stay (c ∷ d ∷ clauses) l = absurd (omega arith)

-- what a clause of numbered terms says
module _ (names : List MarkerExpression) (v : Valuation) where
  all_say : (terms : List NumberedTerm) → AreNumbered names terms → clause_holds (map expression_of terms) v ≡ all_hold number_of (λ n. number_holds names n v) (opposite names v) terms
  all_say [] a = refl
  all_say (t ∷ terms) a = ap (λ b. b && clause_holds (map expression_of terms) v) (a.0.means v) ∙ ap (λ b. number_holds names t.number v && b) (all_say terms a.1)

  any_say : (clauses : List (List NumberedTerm)) → AllByRecursion (AreNumbered names) clauses → clauses_hold (map (map expression_of) clauses) v ≡ any_holds number_of (λ n. number_holds names n v) (opposite names v) clauses
  any_say [] a = refl
  any_say (c ∷ clauses) a = ap (λ b. b || clauses_hold (map (map expression_of) clauses) v) (all_say c a.0) ∙ ap (λ b. all_hold number_of (λ n. number_holds names n v) (opposite names v) c || b) (any_say clauses a.1)

-- a reduction means what the clauses mean
pub reduction_means : (left clauses : List (List MarkerExpression)) → IsReductionOf left clauses → MeanTheSame left clauses
reduction_means left clauses r v =
    ap (λ c. clauses_hold c v) r.left
    ∙ any_say r.numbering.names v (reduced number_of r.numbered) (reduced_keeps number_of (λ t. IsNumbered r.numbering.names t.number t.expression) r.numbered r.numbering.numbers)
    ∙ reduced_means number_of (λ n. number_holds r.numbering.names n v) (opposite r.numbering.names v) r.numbered
    ∙ sym (any_say r.numbering.names v r.numbered r.numbering.numbers)
    ∙ ap (λ c. clauses_hold c v) r.numbering.terms

-- and what holds of each of their terms holds of each of its terms
pub reduction_keeps : (P : MarkerExpression → Type 0) (left clauses : List (List MarkerExpression)) → IsReductionOf left clauses → AllByRecursion (AllByRecursion P) clauses → AllByRecursion (AllByRecursion P) left
reduction_keeps P left clauses r a =
    subst (AllByRecursion (AllByRecursion P)) (sym r.left) (there (reduced number_of r.numbered) (reduced_keeps number_of (λ t. P t.expression) r.numbered (back r.numbered (subst (AllByRecursion (AllByRecursion P)) (sym r.numbering.terms) a))))
  where
    one_there : (terms : List NumberedTerm) → AllByRecursion (λ t. P t.expression) terms → AllByRecursion P (map expression_of terms)
    one_there [] h = tt
    one_there (t ∷ terms) h = (h.0, one_there terms h.1)

    there : (numbered : List (List NumberedTerm)) → AllByRecursion (λ c. AllByRecursion (λ t. P t.expression) c) numbered → AllByRecursion (AllByRecursion P) (map (map expression_of) numbered)
    there [] h = tt
    there (c ∷ numbered) h = (one_there c h.0, there numbered h.1)

    one_back : (terms : List NumberedTerm) → AllByRecursion P (map expression_of terms) → AllByRecursion (λ t. P t.expression) terms
    one_back [] h = tt
    one_back (t ∷ terms) h = (h.0, one_back terms h.1)

    back : (numbered : List (List NumberedTerm)) → AllByRecursion (AllByRecursion P) (map (map expression_of) numbered) → AllByRecursion (λ c. AllByRecursion (λ t. P t.expression) c) numbered
    back [] h = tt
    back (c ∷ numbered) h = (one_back c h.0, back numbered h.1)
