-- A reduced disjunction means what it meant.
use Rattle.std.proofs.Common.{◌≡◌, ◌⊎◌, inl, inr, ℕ, Bool, true, false, not, ◌||◌, ◌&&◌, ◌++◌, List, [], ◌∷◌, Option, Some, None, bit_xor, cond, refl, sym, ap, ◌∙◌, arith}
use Rattle.std.specs.Prelude.{◌==◌}
use Rattle.std.specs.List.{list_all, list_any, AllByRecursion}
use Rattle.std.specs.Option.{option_to_list}
use Rattle.std.proofs.lemmas.Bool.{and_parts, and_from, both_ways, or_left, or_right, or_cases, cond-true, cond-false, eqb-true, eq-eqb, not_from_false}
use Rattle.std.proofs.lemmas.List.{append-nil, append_assoc}
use Rattle.std.proofs.lemmas.List.Folds.{list_any-append}
use Rattle.marker_terms.specs.Reduction.{has_all, has_number, is_redundant, is_spare, judged, needed, reduced, shortened, stands_for, without_terms}

iff_same : (a b : Bool) → (a ≡ true → b ≡ true) → (b ≡ true → a ≡ true) → a ≡ b
iff_same true b f g = sym (f refl)
iff_same false true f g = g refl
iff_same false false f g = refl

module _ {X : Type 0} (number : X → ℕ) where
  -- a number of a clause with one term more
  has_other : (kept rest : List X) (t : X) (n : ℕ) → (n == number t) ≡ false → has_number number n (kept ++ t ∷ rest) ≡ true → has_number number n (kept ++ rest) ≡ true
  has_other [] rest t n ne h = by_case (or_cases _ _ h)
    where
      by_case : ((number t == n) ≡ true) ⊎ (has_number number n rest ≡ true) → has_number number n rest ≡ true
      by_case (inl q) = absurd (both_ways _ ne (eq-eqb n (number t) (sym (eqb-true (number t) n q))))
      by_case (inr q) = q
  has_other (s ∷ kept) rest t n ne h = by_case (has_other kept rest t n ne) (or_cases _ _ h)
    where
      by_case : (has_number number n (kept ++ t ∷ rest) ≡ true → has_number number n (kept ++ rest) ≡ true) → ((number s == n) ≡ true) ⊎ (has_number number n (kept ++ t ∷ rest) ≡ true) → has_number number n (s ∷ (kept ++ rest)) ≡ true
      by_case ih (inl q) = or_left _ _ q
      by_case ih (inr q) = or_right _ _ (ih q)

  module _ (m : ℕ → Bool) (opposite : (n : ℕ) → m (bit_xor n 1) ≡ not (m n)) where
    abbrev pub all_hold : List X → Bool
    all_hold clause = list_all (λ t. m (number t)) clause

    abbrev pub any_holds : List (List X) → Bool
    any_holds clauses = list_any all_hold clauses

    has_holds : (clause : List X) (n : ℕ) → has_number number n clause ≡ true → all_hold clause ≡ true → m n ≡ true
    has_holds [] n h a = cc
    has_holds (t ∷ clause) n h a = by_case (λ q. has_holds clause n q (and_parts _ _ a).1) (or_cases _ _ h)
      where
        by_case : (has_number number n clause ≡ true → m n ≡ true) → ((number t == n) ≡ true) ⊎ (has_number number n clause ≡ true) → m n ≡ true
        by_case ih (inl q) = ap m (sym (eqb-true (number t) n q)) ∙ (and_parts _ _ a).0
        by_case ih (inr q) = ih q

    -- if all other terms of a clause are true, and the term is not, a clause that makes it
    -- redundant is true
    stand_in : (kept rest other : List X) (t : X) → stands_for number t (kept ++ t ∷ rest) other ≡ true → all_hold (kept ++ rest) ≡ true → m (number t) ≡ false → all_hold other ≡ true
    stand_in kept rest [] t s a f = refl
    stand_in kept rest (own ∷ other) t s a f = and_from _ _ (by_case (or_cases _ _ (and_parts _ _ s).0)) (stand_in kept rest other t (and_parts _ _ s).1 a f)
      where
        by_case : ((number own == bit_xor (number t) 1) ≡ true) ⊎ ((not (number own == number t) && has_number number (number own) (kept ++ t ∷ rest)) ≡ true) → m (number own) ≡ true
        by_case (inl q) = ap m (eqb-true (number own) (bit_xor (number t) 1) q) ∙ opposite (number t) ∙ not_from_false _ f
        by_case (inr q) = let p = and_parts _ _ q in has_holds (kept ++ rest) (number own) (has_other kept rest t (number own) (not_true _ p.0) p.1) a
          where
            not_true : (b : Bool) → not b ≡ true → b ≡ false
            not_true true e = cc
            not_true false e = refl

    redundant : (others : List (List X)) (kept rest : List X) (t : X) → is_redundant number others (kept ++ t ∷ rest) t ≡ true → all_hold (kept ++ rest) ≡ true → m (number t) ≡ false → any_holds others ≡ true
    redundant [] kept rest t r a f = cc
    redundant (other ∷ others) kept rest t r a f = by_case (λ q. redundant others kept rest t q a f) (or_cases _ _ r)
      where
        by_case : (is_redundant number others (kept ++ t ∷ rest) t ≡ true → any_holds others ≡ true) → (stands_for number t (kept ++ t ∷ rest) other ≡ true) ⊎ (is_redundant number others (kept ++ t ∷ rest) t ≡ true) → any_holds (other ∷ others) ≡ true
        by_case ih (inl q) = or_left _ _ (stand_in kept rest other t q a f)
        by_case ih (inr q) = or_right _ _ (ih q)

    all_between : (kept rest : List X) (t : X) → all_hold (kept ++ rest) ≡ true → m (number t) ≡ true → all_hold (kept ++ t ∷ rest) ≡ true
    all_between [] rest t a h = and_from _ _ h a
    all_between (s ∷ kept) rest t a h = let p = and_parts _ _ a in and_from _ _ p.0 (all_between kept rest t p.1 h)

    all_without : (kept rest : List X) (t : X) → all_hold (kept ++ t ∷ rest) ≡ true → all_hold (kept ++ rest) ≡ true
    all_without [] rest t a = (and_parts _ _ a).1
    all_without (s ∷ kept) rest t a = let p = and_parts _ _ a in and_from _ _ p.0 (all_without kept rest t p.1)

    term_dropped : (others : List (List X)) (kept rest : List X) (t : X) → is_redundant number others (kept ++ t ∷ rest) t ≡ true → (all_hold (kept ++ rest) || any_holds others) ≡ (all_hold (kept ++ t ∷ rest) || any_holds others)
    term_dropped others kept rest t r = iff_same _ _ (λ h. from (or_cases _ _ h)) (λ h. back (or_cases _ _ h))
      where
        by_term : (b : Bool) → m (number t) ≡ b → all_hold (kept ++ rest) ≡ true → (all_hold (kept ++ t ∷ rest) || any_holds others) ≡ true
        by_term true e a = or_left _ _ (all_between kept rest t a e)
        by_term false e a = or_right _ _ (redundant others kept rest t r a e)

        from : (all_hold (kept ++ rest) ≡ true) ⊎ (any_holds others ≡ true) → (all_hold (kept ++ t ∷ rest) || any_holds others) ≡ true
        from (inl a) = by_term (m (number t)) refl a
        from (inr o) = or_right _ _ o

        back : (all_hold (kept ++ t ∷ rest) ≡ true) ⊎ (any_holds others ≡ true) → (all_hold (kept ++ rest) || any_holds others) ≡ true
        back (inl a) = or_left _ _ (all_without kept rest t a)
        back (inr o) = or_right _ _ o

    terms_dropped : (others : List (List X)) (kept rest : List X) → (all_hold (without_terms number others kept rest) || any_holds others) ≡ (all_hold (kept ++ rest) || any_holds others)
    terms_dropped others kept [] = ap (λ c. all_hold c || any_holds others) (sym (append-nil kept))
    terms_dropped others kept (t ∷ rest) = by_term (terms_dropped others kept rest) (terms_dropped others (kept ++ t ∷ []) rest) (is_redundant number others (kept ++ t ∷ rest) t) refl
      where
        by_term : (all_hold (without_terms number others kept rest) || any_holds others) ≡ (all_hold (kept ++ rest) || any_holds others)
            → (all_hold (without_terms number others (kept ++ t ∷ []) rest) || any_holds others) ≡ (all_hold ((kept ++ t ∷ []) ++ rest) || any_holds others)
            → (b : Bool) → is_redundant number others (kept ++ t ∷ rest) t ≡ b → (all_hold (without_terms number others kept (t ∷ rest)) || any_holds others) ≡ (all_hold (kept ++ t ∷ rest) || any_holds others)
        by_term out in' true e =
            ap (λ c. all_hold c || any_holds others) (cond-true _ (without_terms number others kept rest) (without_terms number others (kept ++ t ∷ []) rest) e)
            ∙ out ∙ term_dropped others kept rest t e
        by_term out in' false e =
            ap (λ c. all_hold c || any_holds others) (cond-false _ (without_terms number others kept rest) (without_terms number others (kept ++ t ∷ []) rest) e)
            ∙ in' ∙ ap (λ c. all_hold c || any_holds others) (append_assoc kept (t ∷ []) rest)

    all_of : (clause other : List X) → has_all number clause other ≡ true → all_hold clause ≡ true → all_hold other ≡ true
    all_of clause [] h a = refl
    all_of clause (t ∷ other) h a = let p = and_parts _ _ h in and_from _ _ (has_holds clause (number t) p.0 a) (all_of clause other p.1 a)

    spare : (others : List (List X)) (clause : List X) → is_spare number others clause ≡ true → all_hold clause ≡ true → any_holds others ≡ true
    spare [] clause s a = cc
    spare (other ∷ others) clause s a = by_case (λ q. spare others clause q a) (or_cases _ _ s)
      where
        by_case : (is_spare number others clause ≡ true → any_holds others ≡ true) → (has_all number clause other ≡ true) ⊎ (is_spare number others clause ≡ true) → any_holds (other ∷ others) ≡ true
        by_case ih (inl q) = or_left _ _ (all_of clause other q a)
        by_case ih (inr q) = or_right _ _ (ih q)

    -- a judge that leaves of a clause what the others do not make up for
    IsFair : (List (List X) → List X → Option (List X)) → Type 0
    IsFair judge = (others : List (List X)) (clause : List X) → (any_holds (option_to_list (judge others clause)) || any_holds others) ≡ (all_hold clause || any_holds others)

    or_false : (b : Bool) → (b || false) ≡ b
    or_false true = refl
    or_false false = refl

    fair_terms : IsFair (shortened number)
    unfolding IsFair
    fair_terms others clause = ap (λ b. b || any_holds others) (or_false (all_hold (without_terms number others [] clause))) ∙ terms_dropped others [] clause

    fair_clauses : IsFair (needed number)
    unfolding IsFair
    fair_clauses others clause = by_case (is_spare number others clause) refl
      where
        by_case : (b : Bool) → is_spare number others clause ≡ b → (any_holds (option_to_list (needed number others clause)) || any_holds others) ≡ (all_hold clause || any_holds others)
        by_case b h1 = grind (arith, cond-true, iff_same, or_right, or_cases, spare, cond-false, or_false)

    swap_or : (a b c : Bool) → (a || (b || c)) ≡ (b || (a || c))
    swap_or false b c = refl
    swap_or true true c = refl
    swap_or true false c = refl

    or_assoc : (a b c : Bool) → ((a || b) || c) ≡ (a || (b || c))
    or_assoc true b c = refl
    or_assoc false b c = refl

    judged_means : (judge : List (List X) → List X → Option (List X)) → IsFair judge → (done clauses : List (List X)) → any_holds (judged judge done clauses) ≡ any_holds (done ++ clauses)
    unfolding IsFair
    judged_means judge fair done [] = ap any_holds (sym (append-nil done))
    judged_means judge fair done (clause ∷ rest) =
        judged_means judge fair (done ++ o) rest
        ∙ list_any-append all_hold (done ++ o) rest ∙ ap (λ b. b || any_holds rest) (list_any-append all_hold done o)
        ∙ or_assoc (any_holds done) (any_holds o) (any_holds rest) ∙ swap_or (any_holds done) (any_holds o) (any_holds rest)
        ∙ ap (λ b. any_holds o || b) (sym (list_any-append all_hold done rest))
        ∙ fair (done ++ rest) clause
        ∙ ap (λ b. all_hold clause || b) (list_any-append all_hold done rest)
        ∙ swap_or (all_hold clause) (any_holds done) (any_holds rest)
        ∙ sym (list_any-append all_hold done (clause ∷ rest))
      where
        o : List (List X)
        o = option_to_list (judge (done ++ rest) clause)

    pub reduced_means : (clauses : List (List X)) → any_holds (reduced number clauses) ≡ any_holds clauses
    reduced_means clauses = judged_means (needed number) fair_clauses [] (judged (shortened number) [] clauses) ∙ judged_means (shortened number) fair_terms [] clauses

  -- what holds of each term of the clauses holds of each that is left
  module _ (P : X → Type 0) where
    abbrev pub EachTerm : List (List X) → Type 0
    EachTerm clauses = AllByRecursion (λ c. AllByRecursion P c) clauses

    snoc : (xs : List X) (t : X) → AllByRecursion P xs → P t → AllByRecursion P (xs ++ t ∷ [])
    snoc [] t a p = (p, tt)
    snoc (x ∷ xs) t a p = (a.0, snoc xs t a.1 p)

    terms_kept : (others : List (List X)) (kept rest : List X) → AllByRecursion P kept → AllByRecursion P rest → AllByRecursion P (without_terms number others kept rest)
    terms_kept others kept [] k r = k
    terms_kept others kept (t ∷ rest) k r =
        by_case (is_redundant number others (kept ++ t ∷ rest) t) (terms_kept others kept rest k r.1) (terms_kept others (kept ++ t ∷ []) rest (snoc kept t k r.0) r.1)
      where
        by_case : (b : Bool) → AllByRecursion P (without_terms number others kept rest) → AllByRecursion P (without_terms number others (kept ++ t ∷ []) rest) → AllByRecursion P (cond b (without_terms number others kept rest) (without_terms number others (kept ++ t ∷ []) rest))
        by_case true out in' = out
        by_case false out in' = in'

    each_more : (xs ys : List (List X)) → EachTerm xs → EachTerm ys → EachTerm (xs ++ ys)
    each_more [] ys a b = b
    each_more (x ∷ xs) ys a b = (a.0, each_more xs ys a.1 b)

    judged_keeps : (judge : List (List X) → List X → Option (List X)) → ((others : List (List X)) (c : List X) → AllByRecursion P c → EachTerm (option_to_list (judge others c))) → (done clauses : List (List X)) → EachTerm done → EachTerm clauses → EachTerm (judged judge done clauses)
    judged_keeps judge f done [] d c = d
    judged_keeps judge f done (clause ∷ rest) d c = judged_keeps judge f (done ++ option_to_list (judge (done ++ rest) clause)) rest (each_more done (option_to_list (judge (done ++ rest) clause)) d (f (done ++ rest) clause c.0)) c.1

    needed_keeps : (others : List (List X)) (c : List X) → AllByRecursion P c → EachTerm (option_to_list (needed number others c))
    needed_keeps others c a = by_case (is_spare number others c)
      where
        by_case : (b : Bool) → EachTerm (option_to_list (cond b None (Some c)))
        by_case true = tt
        by_case false = (a, tt)

    pub reduced_keeps : (clauses : List (List X)) → EachTerm clauses → EachTerm (reduced number clauses)
    reduced_keeps clauses a = judged_keeps (needed number) needed_keeps [] (judged (shortened number) [] clauses) tt (judged_keeps (shortened number) (λ others c h. (terms_kept others [] c tt h, tt)) [] clauses tt a)
