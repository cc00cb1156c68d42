-- A clause whose terms are checked one after another: those that are kept come first.
use Rattle.std.proofs.Common.{◌≡◌, ◌⊎◌, inl, inr, ℕ, ◌+◌, ◌<◌, ◌≤◌, ◌++◌, true, false, List, [], ◌∷◌, Some, length, get_or, set, take, drop, sym, ap, subst, ◌∙◌, arith}
use Rattle.std.specs.Prelude.{slice_get}
use Rattle.std.specs.List.{swap}
use Rattle.std.proofs.lemmas.Bool.{or_left, or_right, or_cases, cases_order, cond-true, cond-false}
use Rattle.std.proofs.lemmas.List.{append_assoc, drop_more, drop-set-lt, set-set, take-set-le, take_more_set}
use Rattle.std.proofs.lemmas.List.Edits.{swap_is}
use Rattle.std.proofs.lemmas.List.Folds.{list_any-append}
use Rattle.std.proofs.lemmas.Option.{slice_get-get_or}
use Rattle.marker_terms.specs.declared.numbered.NumberedTerm.{NumberedTerm}
use Rattle.marker_terms.specs.declared.endings.Endings.{Endings}
use Rattle.marker_terms.specs.Numbered.{number_of}
use Rattle.marker_terms.specs.Endings.{AreNear}
use Rattle.marker_terms.specs.Reduction.{has_number, is_redundant, without_terms}
use Rattle.marker_terms.proofs.NearLaws.{near_fewer}

module _ {X : Type 0} where
  -- the front of a list in which the element at i is exchanged with the one at k
  take_swapped : (xs : List X) (k i : ℕ) (d : X) → i < length xs → k ≤ i → take (k + 1) (swap xs k i) ≡ take k xs ++ get_or xs i d ∷ []
  take_swapped xs k i d l le = ap (take (k + 1)) (sym (swap_is xs k i d (omega arith) l)) ∙ by_order (cases_order k i)
    where
      by_order : (k ≡ i) ⊎ ((k < i) ⊎ (i < k)) → take (k + 1) (set (set xs k (get_or xs i d)) i (get_or xs k d)) ≡ take k xs ++ get_or xs i d ∷ []
      by_order (inl e) =
          ap (λ n. take (k + 1) (set (set xs k (get_or xs i d)) n (get_or xs k d))) (sym e)
          ∙ ap (take (k + 1)) (set-set xs k (get_or xs i d) (get_or xs k d))
          ∙ take_more_set xs k (get_or xs k d) (omega arith)
          ∙ ap (λ n. take k xs ++ get_or xs n d ∷ []) e
      by_order (inr (inl m)) =
          take-set-le (k + 1) (set xs k (get_or xs i d)) i (get_or xs k d) (omega arith)
          ∙ take_more_set xs k (get_or xs i d) (omega arith)
      by_order (inr (inr m)) = absurd (omega arith)

  -- and what is after it
  drop_swapped : (xs : List X) (k i : ℕ) (d : X) → i < length xs → k ≤ i → drop (i + 1) (swap xs k i) ≡ drop (i + 1) xs
  drop_swapped xs k i d h1 h2 = grind (arith, drop, swap_is, drop-set-lt, set, get_or)

-- one term less
has_fewer : (kept rest : List NumberedTerm) (t : NumberedTerm) (n : ℕ) → has_number number_of n (kept ++ rest) ≡ true → has_number number_of n (kept ++ t ∷ rest) ≡ true
has_fewer kept rest t n h1 = grind (arith, list_any-append, or_cases, or_left, or_right)

-- what is known of the terms before one that is judged
pub record IsJudged (e : Endings) (others : List (List NumberedTerm)) (result : List NumberedTerm) (places : List ℕ) (clause : List NumberedTerm) (kept index : ℕ) : Type 0 where
  pub near : AreNear e (take kept clause ++ drop index clause) places
  pub left : without_terms number_of others (take kept clause) (drop index clause) ≡ result

module _ (e : Endings) (others : List (List NumberedTerm)) (left : List NumberedTerm) (near : List ℕ) where
  -- a term is kept
  pub kept_term : (xs ys : List NumberedTerm) (k i : ℕ) → i < length xs → k ≤ i → ys ≡ swap xs k i
      → ((t : NumberedTerm) → slice_get xs i ≡ Some t → false ≡ is_redundant number_of others (take k xs ++ drop i xs) t)
      → IsJudged e others left near xs k i → IsJudged e others left near ys (k + 1) (i + 1)
  kept_term [] ys k i l le q h j = absurd (omega arith)
  kept_term (x ∷ rest) ys k i l le q h j = record {
    near = subst (λ zs. AreNear e zs near) (sym same) j.near;
    left = ap (λ zs. without_terms number_of others zs (drop (i + 1) ys)) front
        ∙ ap (without_terms number_of others (take k (x ∷ rest) ++ get_or (x ∷ rest) i x ∷ [])) behind
        ∙ sym (cond-false (is_redundant number_of others (take k (x ∷ rest) ++ get_or (x ∷ rest) i x ∷ drop (i + 1) (x ∷ rest)) (get_or (x ∷ rest) i x)) (without_terms number_of others (take k (x ∷ rest)) (drop (i + 1) (x ∷ rest))) (without_terms number_of others (take k (x ∷ rest) ++ get_or (x ∷ rest) i x ∷ []) (drop (i + 1) (x ∷ rest))) (ap (λ zs. is_redundant number_of others (take k (x ∷ rest) ++ zs) (get_or (x ∷ rest) i x)) (sym (drop_more (x ∷ rest) i x l)) ∙ sym (h (get_or (x ∷ rest) i x) (slice_get-get_or (x ∷ rest) i x l))))
        ∙ ap (without_terms number_of others (take k (x ∷ rest))) (sym (drop_more (x ∷ rest) i x l))
        ∙ j.left;
  }
    where
      front : take (k + 1) ys ≡ take k (x ∷ rest) ++ get_or (x ∷ rest) i x ∷ []
      front = ap (take (k + 1)) q ∙ take_swapped (x ∷ rest) k i x l le

      behind : drop (i + 1) ys ≡ drop (i + 1) (x ∷ rest)
      behind = ap (drop (i + 1)) q ∙ drop_swapped (x ∷ rest) k i x l le

      same : take (k + 1) ys ++ drop (i + 1) ys ≡ take k (x ∷ rest) ++ drop i (x ∷ rest)
      same = ap (λ zs. zs ++ drop (i + 1) ys) front ∙ ap (λ zs. (take k (x ∷ rest) ++ get_or (x ∷ rest) i x ∷ []) ++ zs) behind
          ∙ append_assoc (take k (x ∷ rest)) (get_or (x ∷ rest) i x ∷ []) (drop (i + 1) (x ∷ rest))
          ∙ ap (λ zs. take k (x ∷ rest) ++ zs) (sym (drop_more (x ∷ rest) i x l))

  -- a term is dropped
  pub dropped_term : (xs : List NumberedTerm) (k i : ℕ) → i < length xs
      → ((t : NumberedTerm) → slice_get xs i ≡ Some t → true ≡ is_redundant number_of others (take k xs ++ drop i xs) t)
      → IsJudged e others left near xs k i → IsJudged e others left near xs k (i + 1)
  dropped_term [] k i l h j = absurd (omega arith)
  dropped_term (x ∷ rest) k i l h j = record {
    near = near_fewer e (take k (x ∷ rest) ++ drop (i + 1) (x ∷ rest)) (take k (x ∷ rest) ++ drop i (x ∷ rest)) near (λ n q. ap (λ zs. has_number number_of n (take k (x ∷ rest) ++ zs)) (drop_more (x ∷ rest) i x l) ∙ has_fewer (take k (x ∷ rest)) (drop (i + 1) (x ∷ rest)) (get_or (x ∷ rest) i x) n q) j.near;
    left =
        sym (cond-true (is_redundant number_of others (take k (x ∷ rest) ++ get_or (x ∷ rest) i x ∷ drop (i + 1) (x ∷ rest)) (get_or (x ∷ rest) i x)) (without_terms number_of others (take k (x ∷ rest)) (drop (i + 1) (x ∷ rest))) (without_terms number_of others (take k (x ∷ rest) ++ get_or (x ∷ rest) i x ∷ []) (drop (i + 1) (x ∷ rest))) (ap (λ zs. is_redundant number_of others (take k (x ∷ rest) ++ zs) (get_or (x ∷ rest) i x)) (sym (drop_more (x ∷ rest) i x l)) ∙ sym (h (get_or (x ∷ rest) i x) (slice_get-get_or (x ∷ rest) i x l))))
        ∙ ap (without_terms number_of others (take k (x ∷ rest))) (sym (drop_more (x ∷ rest) i x l))
        ∙ j.left;
  }
