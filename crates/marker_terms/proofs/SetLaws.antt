-- Clauses of a set, interval by interval.
use Rattle.std.proofs.Common.{◌≡◌, Bool, true, false, not, ◌&&◌, ◌||◌, List, [], ◌∷◌, ◌++◌, sym, ap, ◌∙◌, arith}
use Rattle.std.specs.Prelude.{Vec, IfOk, IfSome, MatchOption, Option, None, Result, Some}
use Rattle.std.specs.Option.{is_some}
use Rattle.std.specs.Borrow.{Bor}
use Rattle.std.specs.List.{list_all, list_any}
use Rattle.std.specs.Range.Bound.{bound_map}
use Rattle.std.specs.declared.ops.Bound.{Bound}
use Rattle.std.proofs.lemmas.Bool.{and_parts}
use Rattle.std.proofs.lemmas.List.Folds.{list_all-append}
use Rattle.version_ranges.specs.Bounds.{passes_at}
use Rattle.pep440_version.specs.Parts.{Parts}
use Rattle.version_ranges.specs.Point.{Point}
use Rattle.pep440_specifier.specs.Bounds.{bound_specifiers}
use Rattle.pep440_specifier.specs.Specifier.{Specifier}
use Rattle.pep440_rs.specs.Bounds.{IsAtRelease, IsRelease, is_in_all, is_release, is_within}
use Rattle.pep440_rs.specs.Intervals.{is_in}
use Rattle.marker_environment.specs.Valuation.{Valuation}
use Rattle.marker_parts.specs.declared.expression.MarkerExpression.{MarkerExpression}
use Rattle.marker_terms.specs.Clauses.{term_holds, clause_holds, clauses_hold, clauses_of}

and_end : (a : Bool) → (a && true) ≡ a
and_end a = grind arith

or_end : (a : Bool) → (a || false) ≡ a
or_end a = grind arith

or_assoc : (a b c : Bool) → ((a || b) || c) ≡ (a || (b || c))
or_assoc a b c = grind arith

-- a clause more
pub clauses_more : {A : Type 0} (old new : List (Vec MarkerExpression A)) (c : Vec MarkerExpression A) → new ≡ old ++ (c ∷ []) → (v : Valuation) →
    clauses_hold (clauses_of new) v ≡ (clauses_hold (clauses_of old) v || clause_holds c.items v)
clauses_more {A} old new c e v = ap (λ x. clauses_hold (clauses_of x) v) e ∙ behind old
  where
    behind : (xs : List (Vec MarkerExpression A)) → clauses_hold (clauses_of (xs ++ (c ∷ []))) v ≡ (clauses_hold (clauses_of xs) v || clause_holds c.items v)
    behind [] = or_end (clause_holds c.items v)
    behind (x ∷ xs) = ap (λ b. clause_holds x.items v || b) (behind xs) ∙ sym (or_assoc (clause_holds x.items v) (clauses_hold (clauses_of xs) v) (clause_holds c.items v))

-- a single clause
pub clauses_one : {A : Type 0} (old new : List (Vec MarkerExpression A)) (c : Vec MarkerExpression A) → old ≡ [] → new ≡ old ++ (c ∷ []) → (v : Valuation) →
    clauses_hold (clauses_of new) v ≡ clause_holds c.items v
clauses_one old new c n e v = clauses_more old new c e v ∙ ap (λ x. clauses_hold (clauses_of x) v || clause_holds c.items v) n

-- a term more
pub terms_more : (old new : List MarkerExpression) (t : MarkerExpression) → new ≡ old ++ (t ∷ []) → (v : Valuation) → clause_holds new v ≡ (clause_holds old v && term_holds t v)
terms_more old new t e v = ap (λ x. clause_holds x v) e ∙ list_all-append (λ x. term_holds x v) old (t ∷ []) ∙ ap (λ b. clause_holds old v && b) (and_end (term_holds t v))

not_and : (a b : Bool) → not (a && b) ≡ (not a || not b)
not_and a b = grind arith

not_twice : (a : Bool) → not (not a) ≡ a
not_twice a = grind arith

-- a term more that excludes what lies in an interval
pub excludes_more : (old new : List MarkerExpression) (t : MarkerExpression) (here : Bool) (v : Valuation) → new ≡ old ++ (t ∷ []) → term_holds t v ≡ not here → not (clause_holds new v) ≡ (not (clause_holds old v) || here)
excludes_more old new t here v e h =
    ap not (terms_more old new t e v) ∙ not_and (clause_holds old v) (term_holds t v) ∙ ap (λ b. not (clause_holds old v) || b) (ap not h ∙ not_twice here)

-- all intervals are excluded
pub excluded_all : (terms : Bool) (x : Bool) → not terms ≡ x → terms ≡ not x
excluded_all terms x h1 = grind arith

module _ {I : Type 0} where
  -- an interval is passed, and what holds in it is added
  pub interval_step : (within : I → Bool) (old new here : Bool) (left rest : List I) (i : I) (x : Bool) → left ≡ i ∷ rest → here ≡ within i → new ≡ (old || here) →
      (old || list_any within left) ≡ x → (new || list_any within rest) ≡ x
  interval_step within old new here left rest i x h1 h2 h3 h4 = grind arith

  -- none is left
  pub interval_end : (within : I → Bool) (old : Bool) (left : List I) (x : Bool) → left ≡ [] → (old || list_any within left) ≡ x → old ≡ x
  interval_end within old left x e inv = sym (or_end old) ∙ ap (λ l. old || list_any within l) (sym e) ∙ inv

  -- the one that is passed, and those that are left
  pub both_of : (test : I → Bool) (left rest : List I) (i : I) → left ≡ i ∷ rest → list_all test left ≡ true → (test i ≡ true) × (list_all test rest ≡ true)
  both_of test left rest i e h = and_parts _ _ (sym (ap (list_all test) e) ∙ h)

  -- an item of a conjunction is passed
  pub all_step : (test : I → Bool) (old new here : Bool) (left rest : List I) (i : I) (x : Bool) → left ≡ i ∷ rest → here ≡ test i → new ≡ (old && here) →
      (old && list_all test left) ≡ x → (new && list_all test rest) ≡ x
  all_step test old new here left rest i x h1 h2 h3 h4 = grind arith

  pub all_end : (test : I → Bool) (old : Bool) (left : List I) (x : Bool) → left ≡ [] → (old && list_all test left) ≡ x → old ≡ x
  all_end test old left x e inv = sym (and_end old) ∙ ap (λ l. old && list_all test l) (sym e) ∙ inv

-- a bound that passes the test is at a release
pub at_release : ((v : Parts) → ((is_release v ≡ true) → IsRelease v) × (IsRelease v → is_release v ≡ true)) → (b : Bound (Bor Parts)) → passes_at is_release (bound_map (λ v. v.now) b) ≡ true → IsAtRelease b
at_release h1 b h2 = grind arith

-- an iterator that gives nothing has nothing left
pub none_left : {X I : Type 0} (view : X → I) (r : Option X) (s t : List I) → is_some r ≡ false → MatchOption r ((s ≡ []) × (t ≡ [])) (λ x. s ≡ view x ∷ t) → s ≡ []
none_left view r s t h1 h2 = grind arith

-- what a single specifier excludes
pub excluded_range : (found : Option Specifier) (s : Specifier) (lower upper : Bound (Bor Parts)) (left : List Specifier) → bound_specifiers lower upper ≡ s ∷ left → left ≡ [] →
    ((lower upper : Bound (Bor Parts)) (p : Point Parts) → IsAtRelease lower → IsAtRelease upper → is_in_all (bound_specifiers lower upper) p ≡ is_within lower upper p) →
    IfSome found (λ t. (p : Point Parts) → is_in t.operator t.version.release p ≡ not (is_in s.operator s.version.release p)) →
    IfSome found (λ t. IsAtRelease lower → IsAtRelease upper → (p : Point Parts) → is_in t.operator t.version.release p ≡ not (is_within lower upper p))
excluded_range None s lower upper left e n law h = h
excluded_range (Some t) s lower upper left e n law h = grind (arith, not, and_end)

-- an exclusion that was found
pub found_exclusion : (found : Option Specifier) (s : Specifier) (lower upper : Bound (Bor Parts)) → found ≡ Some s →
    IfSome found (λ t. IsAtRelease lower → IsAtRelease upper → (p : Point Parts) → is_in t.operator t.version.release p ≡ not (is_within lower upper p)) →
    IsAtRelease lower → IsAtRelease upper → (p : Point Parts) → is_in s.operator s.version.release p ≡ not (is_within lower upper p)
found_exclusion found s lower upper h1 h2 h3 h4 p = grind arith

-- the terms outside of a set, if they were found
pub found_terms : {A : Type 0} (found : Option (Vec MarkerExpression A)) (terms : Vec MarkerExpression A) (outside : Valuation → Bool) → found ≡ Some terms →
    IfSome found (λ t. (v : Valuation) → clause_holds t.items v ≡ not (outside v)) → (v : Valuation) → clause_holds terms.items v ≡ not (outside v)
found_terms found terms outside h1 h2 v = grind arith

-- one clause of what is not outside
pub one_covers : {X E : Type 0} (r : Result X E) (means : X → Valuation → Bool) (terms outside inside : Valuation → Bool) → ((v : Valuation) → terms v ≡ not (outside v)) → ((v : Valuation) → outside v ≡ not (inside v)) →
    IfOk r (λ x. (v : Valuation) → means x v ≡ terms v) → IfOk r (λ x. (v : Valuation) → means x v ≡ inside v)
one_covers r means terms outside inside h1 h2 h3 = grind arith
