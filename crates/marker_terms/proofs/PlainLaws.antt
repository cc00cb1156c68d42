-- Terms that parse back from their text.
use Rattle.std.proofs.Common.{◌≡◌, ◌≢◌, ℕ, Bool, true, false, ◌&&◌, List, [], ◌∷◌, ◌++◌, string_bytes, sym, ap, ◌∙◌, subst, arith}
use Rattle.std.specs.Prelude.{String, Vec, IfSome, Option, Some}
use Rattle.std.specs.Borrow.{Bor}
use Rattle.std.specs.Global.{Global}
use Rattle.std.specs.List.{AllByRecursion, list_all}
use Rattle.std.specs.Range.Bound.{bound_map}
use Rattle.std.specs.declared.ops.Bound.{Bound}
use Rattle.version_ranges.specs.Bounds.{passes_at}
use Rattle.pep440_version.specs.Parts.{Parts}
use Rattle.pep440_specifier.specs.declared.operator.Operator.TheVariants as operators
use Rattle.pep440_specifier.specs.Bounds.{bound_specifiers}
use Rattle.pep440_specifier.specs.Specifier.{Specifier}
use Rattle.pep440_rs.specs.Intervals as releases
use Rattle.marker_words.specs.declared.key.MarkerValueString.{MarkerValueString}
use Rattle.marker_words.specs.declared.key.VersionVariable.TheVariants as variables
use Rattle.marker_words.specs.declared.operator.MarkerOperator.{MarkerOperator}
use Rattle.marker_words.specs.declared.operator.MarkerOperator.TheVariants.{TildeEqual}
use Rattle.marker_words.specs.Compare.{pairs_of, text_bound, text_eq}
use Rattle.marker_parts.specs.declared.expression.MarkerExpression.{MarkerExpression}
use Rattle.marker_parts.specs.declared.expression.MarkerExpression.TheVariants as expressions
use Rattle.marker_parts.specs.Expression.{Overflows, test_of, text}
use Rattle.marker_terms.specs.Clauses.{clauses_of}
use Rattle.marker_terms.specs.Plain.{is_plain, AllPrintable, HavePrintableTerms, IsPlain, IsPrintable, IsPrintableSpecifier}

-- ---- lists

module _ {X : Type 0} (P : X → Type 0) where
  behind : (old : List X) (x : X) → AllByRecursion P old → P x → AllByRecursion P (old ++ (x ∷ []))
  behind [] x h p = (p, tt)
  behind (y ∷ old) x h p = (h.0, behind old x h.1 p)

  -- one element more
  pub each_pushed : (old new : List X) (x : X) → new ≡ old ++ (x ∷ []) → AllByRecursion P old → P x → AllByRecursion P new
  each_pushed old new x e h p = subst (AllByRecursion P) (sym e) (behind old x h p)

  -- the first element, and those after it
  pub each_parts : (left rest : List X) (x : X) → left ≡ x ∷ rest → AllByRecursion P left → P x × AllByRecursion P rest
  each_parts left rest x e h = let q = subst (AllByRecursion P) e h in (q.0, q.1)

-- one clause more
pub clauses_pushed : {A : Type 0} (old new : List (Vec MarkerExpression A)) (c : Vec MarkerExpression A) → new ≡ old ++ (c ∷ []) → HavePrintableTerms (clauses_of old) → AllPrintable c.items → HavePrintableTerms (clauses_of new)
clauses_pushed {A} old new c e h p = subst (λ x. HavePrintableTerms (clauses_of x)) (sym e) (by_list old h)
  where
    by_list : (xs : List (Vec MarkerExpression A)) → HavePrintableTerms (clauses_of xs) → HavePrintableTerms (clauses_of (xs ++ (c ∷ [])))
    by_list [] h = (p, tt)
    by_list (x ∷ xs) h = (h.0, by_list xs h.1)

-- a single clause
pub clause_printable : {A : Type 0} (old new : List (Vec MarkerExpression A)) (c : Vec MarkerExpression A) → old ≡ [] → new ≡ old ++ (c ∷ []) → AllPrintable c.items → HavePrintableTerms (clauses_of new)
clause_printable old new c n e p = clauses_pushed old new c e (subst (λ x. HavePrintableTerms (clauses_of x)) (sym n) tt) p

-- ---- comparisons with the same test

pub printable_as : (e f : MarkerExpression) → test_of f ≡ test_of e → IsPrintable e → IsPrintable f
printable_as e f q h = record { plain = subst IsPlain (sym q) h.plain; fits = subst (λ t. ¬ Overflows t) (sym q) h.fits }

-- ---- versions

-- no specifier of a range is `===`
abbrev NotExact : Specifier → Type 0
NotExact s = s.operator ≢ operators.ExactEqual

-- the negation of a printable specifier that has been found
pub exclusion_printable : (found : Option Specifier) (s : Specifier) (lower upper : Bound (Bor Parts)) (left : List Specifier) → bound_specifiers lower upper ≡ s ∷ left →
    AllByRecursion IsPrintableSpecifier (bound_specifiers lower upper) → IfSome found (λ t. IsPrintableSpecifier s → IsPrintableSpecifier t) → IfSome found IsPrintableSpecifier
exclusion_printable found s lower upper left h1 h2 h3 = grind arith

-- a value that was found
pub found_has : {X : Type 0} (P : X → Type 0) (found : Option X) (x : X) → found ≡ Some x → IfSome found P → P x
found_has P found x h1 h2 = grind arith

-- ---- texts

-- texts are compared by this operator
abbrev pub compares_texts : MarkerOperator → Bool
compares_texts TildeEqual = false
compares_texts operator = true

pub text_plain : (o : MarkerOperator) (key : MarkerValueString) (value : List ℕ) → compares_texts o ≡ true → is_plain value ≡ true → IsPlain (text key o value)
text_plain o key value h1 h2 = grind arith

pub text_printable : (e : MarkerExpression) (o : MarkerOperator) (key : MarkerValueString) (value : List ℕ) → test_of e ≡ text key o value → compares_texts o ≡ true → is_plain value ≡ true → IsPrintable e
text_printable e o key value q c h = record { plain = subst IsPlain (sym q) (text_plain o key value c h); fits = subst (λ t. ¬ Overflows t) (sym q) (λ o. o) }

-- the comparison is one of texts, with a text that lacks one of the quotes
abbrev pub is_plain_pair : MarkerOperator × List ℕ → Bool
is_plain_pair pair = compares_texts pair.0 && is_plain pair.1

-- those of a range between plain texts are such
pub pairs_plain : (lower upper : Bound (List ℕ)) → passes_at is_plain lower ≡ true → passes_at is_plain upper ≡ true → list_all is_plain_pair (pairs_of text_eq lower upper) ≡ true
pairs_plain lower upper h1 h2 = grind arith

-- a bound by its text, and by the bytes of it
pub plain_bound : (b : Bound (Bor (String Global))) → passes_at (λ (t : String Global). is_plain (string_bytes t)) (bound_map (λ v. v.now) b) ≡ true → passes_at is_plain (text_bound b) ≡ true
plain_bound b h1 = grind arith

-- a clone of a plain text is plain
pub plain_clones : (s t : String Global) → string_bytes t ≡ string_bytes s → is_plain (string_bytes s) ≡ true → is_plain (string_bytes t) ≡ true
plain_clones s t e h = ap is_plain e ∙ h

-- the text that was found
pub found_plain : (found : Option (Bor (String Global))) (t : Bor (String Global)) (lower : Bound (List ℕ)) → found ≡ Some t → IfSome found (λ s. passes_at is_plain lower ≡ true → is_plain (string_bytes s.now) ≡ true) →
    passes_at is_plain lower ≡ true → is_plain (string_bytes t.now) ≡ true
found_plain found t lower h1 h2 h3 = grind arith
