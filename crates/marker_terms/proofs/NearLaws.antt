-- The places that are looked at.
use Rattle.std.proofs.Common.{◌≡◌, ◌⊎◌, inl, inr, ℕ, zero, suc, ◌+◌, ◌-◌, ◌<◌, ◌++◌, Bool, true, false, not, ◌||◌, ◌&&◌, List, [], ◌∷◌, Option, Some, length, get_or, take, bit_xor, sym, ap, subst, ◌∙◌}
use Rattle.std.specs.Prelude.{◌==◌, Vec, slice_get}
use Rattle.std.specs.List.{list_all, Contains}
use Rattle.std.proofs.lemmas.Bool.{or_cases, and_parts, both_ways, eqb-true, false_from_ne_true}
use Rattle.std.proofs.lemmas.List.{take_more}
use Rattle.std.proofs.lemmas.List.Folds.{list_any-append}
use Rattle.std.proofs.lemmas.List.Elements.{Contains-append_left, Contains-append_right}
use Rattle.marker_terms.specs.declared.numbered.NumberedTerm.{NumberedTerm}
use Rattle.marker_terms.specs.declared.endings.Endings.{Endings}
use Rattle.marker_terms.specs.Numbered.{clause_at, left_of, number_of}
use Rattle.marker_terms.specs.Endings.{AreNear, AreEndingsOf, Lists, places_of}
use Rattle.marker_terms.specs.Reduction.{has_all, has_number, is_covered, is_redundant, is_spare, stands_for}
use Rattle.marker_terms.proofs.LeftLaws.{none_left}

-- a list more
pub near_more : (e : Endings) (clause : List NumberedTerm) (i : ℕ) (t : NumberedTerm) (near more : List ℕ) → i < length clause → t ≡ get_or clause i t → more ≡ near ++ places_of e t.number → AreNear e (take i clause) near → AreNear e (take (i + 1) clause) more
near_more e clause i t near more l g f a = record {
  last = λ n j h k. subst (λ xs. Contains xs j) (sym f) (by_term n j k (or_cases _ _ (sym (list_any-append (λ s. number_of s == n) (take i clause) (t ∷ [])) ∙ ap (has_number number_of n) (sym (take_more clause i t l ∙ ap (λ x. take i clause ++ x ∷ []) (sym g))) ∙ h)));
}
  where
    by_last : (n j : ℕ) → Contains (places_of e n) j → (t.number == n) ≡ true → Contains (near ++ places_of e t.number) j
    by_last n j k q = Contains-append_right near (places_of e t.number) j (subst (λ m. Contains (places_of e m) j) (sym (eqb-true t.number n q)) k)

    by_term : (n j : ℕ) → Contains (places_of e n) j → (has_number number_of n (take i clause) ≡ true) ⊎ (((t.number == n) || false) ≡ true) → Contains (near ++ places_of e t.number) j
    by_term n j k (inl h) = Contains-append_left near (places_of e t.number) j (a.last n j h k)
    by_term n j k (inr h) = by_cases (or_cases _ _ h)
      where
        by_cases : ((t.number == n) ≡ true) ⊎ (false ≡ true) → Contains (near ++ places_of e t.number) j
        by_cases (inl q) = by_last n j k q
        by_cases (inr q) = cc

-- of fewer terms
pub near_fewer : (e : Endings) (some all : List NumberedTerm) (near : List ℕ) → ((n : ℕ) → has_number number_of n some ≡ true → has_number number_of n all ≡ true) → AreNear e all near → AreNear e some near
near_fewer e some all near f a = record { last = λ n j h k. a.last n j (f n h) k }

-- a term of a list on which all pass
all_got : {X : Type 0} (p : X → Bool) (xs : List X) (n : ℕ) (x : X) → slice_get xs n ≡ Some x → list_all p xs ≡ true → p x ≡ true
all_got p [] n x e h = cc
all_got p (y ∷ xs) zero x e h = let q : Some y ≡ Some x = e in let r : y ≡ x = cc in ap p (sym r) ∙ (and_parts _ _ h).0
all_got p (y ∷ xs) (suc n) x e h = all_got p xs n x e (and_parts _ _ h).1

-- a clause that makes a term redundant is compared
pub none_redundant : {A : Type 0} (e : Endings) (clauses : List (Option (Vec NumberedTerm A))) (term : NumberedTerm) (clause : List NumberedTerm) (near : List ℕ)
    → AreEndingsOf e clauses → AreNear e clause near
    → ((j : ℕ) (c : List NumberedTerm) → Contains e.always.items j → clause_at clauses j ≡ Some c → stands_for number_of term clause c ≡ false)
    → ((j : ℕ) (c : List NumberedTerm) → Contains near j → clause_at clauses j ≡ Some c → stands_for number_of term clause c ≡ false)
    → ((j : ℕ) (c : List NumberedTerm) → Contains (places_of e (bit_xor term.number 1)) j → clause_at clauses j ≡ Some c → stands_for number_of term clause c ≡ false)
    → is_redundant number_of (left_of clauses) clause term ≡ false
none_redundant e clauses term clause near a n d f g = none_left (stands_for number_of term clause) clauses by_place
  where
    by_place : (j : ℕ) (c : List NumberedTerm) → clause_at clauses j ≡ Some c → stands_for number_of term clause c ≡ false
    by_place j c q = by_list (a j c q)
      where
        by_list : Lists e c j → stands_for number_of term clause c ≡ false
        by_list (inl h) = d j c h q
        by_list (inr (t, l, h)) = false_from_ne_true _ (λ s. both_ways _ (by_term (or_cases _ _ (all_got (is_covered number_of term clause) c (length c - 1) t l s))) s)
          where
            by_term : ((t.number == bit_xor term.number 1) ≡ true) ⊎ ((not (t.number == term.number) && has_number number_of t.number clause) ≡ true) → stands_for number_of term clause c ≡ false
            by_term (inl r) = g j c (subst (λ m. Contains (places_of e m) j) (eqb-true t.number (bit_xor term.number 1) r) h) q
            by_term (inr r) = f j c (n.last t.number j (and_parts _ _ r).1 h) q

-- a clause that has all terms of another one ends with one of them
pub none_spare : {A : Type 0} (e : Endings) (clauses : List (Option (Vec NumberedTerm A))) (clause : List NumberedTerm) (near : List ℕ)
    → AreEndingsOf e clauses → AreNear e clause near
    → ((j : ℕ) (c : List NumberedTerm) → Contains e.always.items j → clause_at clauses j ≡ Some c → has_all number_of clause c ≡ false)
    → ((j : ℕ) (c : List NumberedTerm) → Contains near j → clause_at clauses j ≡ Some c → has_all number_of clause c ≡ false)
    → is_spare number_of (left_of clauses) clause ≡ false
none_spare e clauses clause near a n d f = none_left (has_all number_of clause) clauses by_place
  where
    by_place : (j : ℕ) (c : List NumberedTerm) → clause_at clauses j ≡ Some c → has_all number_of clause c ≡ false
    by_place j c q = by_list (a j c q)
      where
        by_list : Lists e c j → has_all number_of clause c ≡ false
        by_list (inl h) = d j c h q
        by_list (inr (t, l, h)) = false_from_ne_true _ (λ s. both_ways _ (f j c (n.last t.number j (all_got (λ u. has_number number_of (number_of u) clause) c (length c - 1) t l s) h) q) s)
