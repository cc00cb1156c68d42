-- Clauses of which some were removed.
use Rattle.std.proofs.Common.{◌≡◌, ◌≢◌, ◌⊎◌, inl, inr, ℕ, zero, suc, ◌+◌, ◌<◌, ◌++◌, Bool, true, false, List, [], ◌∷◌, Some, None, Option, length, get_or, set, take, drop, refl, sym, ap, subst, ◌∙◌, arith}
use Rattle.std.specs.Prelude.{Vec}
use Rattle.std.specs.List.{list_any}
use Rattle.std.specs.Option.{option_and_then, option_map_or, option_to_list}
use Rattle.std.proofs.lemmas.List.{append-nil, length-set, drop_more, drop-set-lt, set-set, set_split, take_more_set}
use Rattle.std.proofs.lemmas.List.Elements.{filter_map-append}
use Rattle.std.proofs.lemmas.Bool.{cases_eq, or_left, or_right, or_from}
use Rattle.std.proofs.lemmas.Option.{same_Some}
use Rattle.marker_terms.specs.declared.numbered.NumberedTerm.{NumberedTerm}
use Rattle.marker_terms.specs.declared.endings.Endings.{Endings}
use Rattle.marker_terms.specs.Endings.{AreEndingsOf, Lists}
use Rattle.marker_terms.specs.Numbered.{IsJudged, clause_at, left_of, terms_of}
use Rattle.marker_terms.specs.Reduction.{judged}

module _ {A : Type 0} (p : List NumberedTerm → Bool) where
  -- one of the clauses that are there
  pub any_left : (clauses : List (Option (Vec NumberedTerm A))) (j : ℕ) (c : List NumberedTerm) → clause_at clauses j ≡ Some c → p c ≡ true → list_any p (left_of clauses) ≡ true
  any_left [] j c e h = cc
  any_left (None ∷ clauses) zero c e h = cc
  any_left (None ∷ clauses) (suc j) c e h = any_left clauses j c e h
  any_left (Some v ∷ clauses) zero c e h = or_left _ _ (ap p (same_Some v.items c e) ∙ h)
  any_left (Some v ∷ clauses) (suc j) c e h = or_right _ _ (any_left clauses j c e h)

  -- none of them
  pub none_left : (clauses : List (Option (Vec NumberedTerm A))) → ((j : ℕ) (c : List NumberedTerm) → clause_at clauses j ≡ Some c → p c ≡ false) → list_any p (left_of clauses) ≡ false
  none_left [] f = refl
  none_left (None ∷ clauses) f = none_left clauses (λ j c e. f (suc j) c e)
  none_left (Some v ∷ clauses) f = or_from _ _ (f zero v.items refl) (none_left clauses (λ j c e. f (suc j) c e))

  pub any_there : (clauses : List (Option (Vec NumberedTerm A))) (j : ℕ) (o : Option (List NumberedTerm)) → clause_at clauses j ≡ o → option_map_or p o false ≡ true → list_any p (left_of clauses) ≡ true
  any_there clauses j o h1 h2 = grind (arith, any_left)

module _ {A : Type 0} where
  -- the clause at a place that is set, and those at others
  pub clause_at_same : (clauses : List (Option (Vec NumberedTerm A))) (i : ℕ) (o : Option (Vec NumberedTerm A)) → i < length clauses → clause_at (set clauses i o) i ≡ terms_of o
  clause_at_same [] i o l = absurd (omega arith)
  clause_at_same (c ∷ clauses) zero o l = refl
  clause_at_same (c ∷ clauses) (suc i) o l = clause_at_same clauses i o (omega arith)

  pub clause_at_other : (clauses : List (Option (Vec NumberedTerm A))) (i j : ℕ) (o : Option (Vec NumberedTerm A)) → j ≢ i → clause_at (set clauses i o) j ≡ clause_at clauses j
  clause_at_other [] i j o ne = refl
  clause_at_other (c ∷ clauses) zero zero o ne = absurd (ne refl)
  clause_at_other (c ∷ clauses) zero (suc j) o ne = refl
  clause_at_other (c ∷ clauses) (suc i) zero o ne = refl
  clause_at_other (c ∷ clauses) (suc i) (suc j) o ne = clause_at_other clauses i j o (λ e. ne (ap suc e))

  pub clause_there : (clauses : List (Option (Vec NumberedTerm A))) (i : ℕ) (d : Option (Vec NumberedTerm A)) → i < length clauses → clause_at clauses i ≡ terms_of (get_or clauses i d)
  clause_there [] i d l = absurd (omega arith)
  clause_there (c ∷ clauses) zero d l = refl
  clause_there (c ∷ clauses) (suc i) d l = clause_there clauses i d (omega arith)

  -- the clause that a list of one has
  left_one : (o : Option (Vec NumberedTerm A)) (t : Option (List NumberedTerm)) → terms_of o ≡ t → left_of (o ∷ []) ≡ option_to_list t
  left_one o t h1 = grind arith

  module _ (judge : List (List NumberedTerm) → List NumberedTerm → Option (List NumberedTerm)) where
    -- the clauses before a place are done, and the clause at it is judged
    step : (done : List (List NumberedTerm)) (o v : Option (Vec NumberedTerm A)) (rest : List (Option (Vec NumberedTerm A))) → terms_of v ≡ option_and_then (judge (done ++ left_of rest)) (terms_of o) → judged judge done (left_of (o ∷ rest)) ≡ judged judge (done ++ left_of (v ∷ [])) (left_of rest)
    step done o v rest h1 = grind (arith, append-nil, left_one)

    pub judged_more : (old new : List (Option (Vec NumberedTerm A))) (i : ℕ) → i < length old → IsJudged judge old new i → judged judge (left_of (take (i + 1) new)) (left_of (drop (i + 1) new)) ≡ judged judge (left_of (take i old)) (left_of (drop i old))
    judged_more [] new i l j = absurd (omega arith)
    judged_more (c ∷ old) new i l j =
        ap (λ xs. judged judge (left_of (take (i + 1) xs)) (left_of (drop (i + 1) xs))) j.clauses
        ∙ ap (λ xs. judged judge (left_of xs) (left_of (drop (i + 1) (set (c ∷ old) i j.clause)))) (take_more_set (c ∷ old) i j.clause l)
        ∙ ap (λ xs. judged judge (left_of (take i (c ∷ old) ++ j.clause ∷ [])) (left_of xs)) (drop-set-lt (i + 1) (c ∷ old) i j.clause (omega arith))
        ∙ ap (λ xs. judged judge xs (left_of (drop (i + 1) (c ∷ old)))) (filter_map-append terms_of (take i (c ∷ old)) (j.clause ∷ []))
        ∙ sym (step (left_of (take i (c ∷ old))) (get_or (c ∷ old) i c) j.clause (drop (i + 1) (c ∷ old)) told)
        ∙ ap (λ xs. judged judge (left_of (take i (c ∷ old))) (left_of xs)) (sym (drop_more (c ∷ old) i c l))
      where
        one_more : suc i ≡ i + 1
        one_more = omega arith

        others : left_of (set (c ∷ old) i None) ≡ left_of (take i (c ∷ old)) ++ left_of (drop (i + 1) (c ∷ old))
        others = ap left_of (set_split (c ∷ old) i None l) ∙ filter_map-append terms_of (take i (c ∷ old)) (None ∷ drop (suc i) (c ∷ old)) ∙ ap (λ n. left_of (take i (c ∷ old)) ++ left_of (drop n (c ∷ old))) one_more

        told : terms_of j.clause ≡ option_and_then (judge (left_of (take i (c ∷ old)) ++ left_of (drop (i + 1) (c ∷ old)))) (terms_of (get_or (c ∷ old) i c))
        told = j.terms ∙ ap (λ xs. option_and_then (judge xs) (clause_at (c ∷ old) i)) others ∙ ap (option_and_then (judge (left_of (take i (c ∷ old)) ++ left_of (drop (i + 1) (c ∷ old))))) (clause_there (c ∷ old) i c l)

    -- the clause at a place is taken, judged, and put back
    pub judged_back : (old : List (Option (Vec NumberedTerm A))) (i : ℕ) (o n : Option (Vec NumberedTerm A)) (v : Option (Vec NumberedTerm A)) → i < length old → (r : Option (Vec NumberedTerm A)) → o ≡ r → r ≡ get_or old i r → n ≡ None
        → terms_of v ≡ option_and_then (judge (left_of (set old i n))) (terms_of o) → IsJudged judge old (set (set old i n) i v) i
    judged_back old i o n v h1 r h2 h3 h4 h5 = grind (arith, set-set, set, clause_there)

    -- or stays out
    pub judged_out : (old : List (Option (Vec NumberedTerm A))) (i : ℕ) (o n : Option (Vec NumberedTerm A)) → i < length old → (r : Option (Vec NumberedTerm A)) → o ≡ r → r ≡ get_or old i r → n ≡ None
        → None ≡ option_and_then (judge (left_of (set old i n))) (terms_of o) → IsJudged judge old (set old i n) i
    judged_out old i o n h1 r h2 h3 h4 h5 = grind (arith, set, clause_there)

  module _ (e later : Endings) (grown : (c : List NumberedTerm) (j : ℕ) → Lists e c j → Lists later c j) where
    -- the other clauses are listed as they were
    pub listed_back : (old : List (Option (Vec NumberedTerm A))) (i : ℕ) (n : Option (Vec NumberedTerm A)) (v : Vec NumberedTerm A) → i < length old → AreEndingsOf e old → Lists later v.items i → AreEndingsOf later (set (set old i n) i (Some v))
    listed_back old i n v l a h j c q = by_place (cases_eq j i)
      where
        by_place : (j ≡ i) ⊎ (j ≡ i → ⊥) → Lists later c j
        by_place (inl r) =
            subst (Lists later c) (sym r) (subst (λ d. Lists later d i) (same_Some v.items c (sym (clause_at_same old i (Some v) l) ∙ ap (λ xs. clause_at xs i) (sym (set-set old i n (Some v))) ∙ ap (clause_at (set (set old i n) i (Some v))) (sym r) ∙ q)) h)
        by_place (inr ne) = grown c j (a j c (sym (clause_at_other old i j n ne) ∙ sym (clause_at_other (set old i n) i j (Some v) ne) ∙ q))

  -- fewer clauses are listed as they were
  pub listed_out : (e : Endings) (old : List (Option (Vec NumberedTerm A))) (i : ℕ) (n : Option (Vec NumberedTerm A)) → i < length old → n ≡ None → AreEndingsOf e old → AreEndingsOf e (set old i n)
  listed_out e old i n l r a j c q = by_place (cases_eq j i)
    where
      none : (j ≡ i) → terms_of n ≡ Some c
      none s = sym (clause_at_same old i n l) ∙ ap (clause_at (set old i n)) (sym s) ∙ q

      by_place : (j ≡ i) ⊎ (j ≡ i → ⊥) → Lists e c j
      by_place (inl s) = let w : None ≡ Some c = ap terms_of (sym r) ∙ none s in cc
      by_place (inr ne) = a j c (sym (clause_at_other old i j n ne) ∙ q)

  -- the clause at a place is listed
  pub listed_there : (e : Endings) (old : List (Option (Vec NumberedTerm A))) (i : ℕ) (v : Vec NumberedTerm A) (r : Option (Vec NumberedTerm A)) → i < length old → Some v ≡ r → r ≡ get_or old i r → AreEndingsOf e old → Lists e v.items i
  listed_there e old i v r l f g a = a i v.items (clause_there old i r l ∙ ap terms_of (sym (f ∙ g)))

  pub same_count : (judge : List (List NumberedTerm) → List NumberedTerm → Option (List NumberedTerm)) (old new : List (Option (Vec NumberedTerm A))) (i : ℕ) → IsJudged judge old new i → length new ≡ length old
  same_count judge old new i j = ap length j.clauses ∙ length-set old i j.clause

  pub clause_within : (clauses : List (Option (Vec NumberedTerm A))) (j : ℕ) (c : List NumberedTerm) → clause_at clauses j ≡ Some c → j < length clauses
  clause_within [] j c e = cc
  clause_within (o ∷ clauses) zero c e = omega arith
  clause_within (o ∷ clauses) (suc j) c e = let l : j < length clauses = clause_within clauses j c e in omega arith
