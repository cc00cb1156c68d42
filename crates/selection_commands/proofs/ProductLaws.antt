-- Pairs of the values of two lists.
use Rattle.std.proofs.Common.{◌≡◌, ◌∙◌, ℕ, ◌<◌, ◌+◌, List, [], ◌∷◌, ◌++◌, take, length, get_or, sym, ap, append_assoc}
use Rattle.std.proofs.lemmas.List.{flat_map_more, map-append, take_more}
use Rattle.selection_commands.specs.Products.{pairs_of, pairs_with}

-- one more pair
pub pair_more : {A B : Type 0} (one : A) (second : List B) (i : ℕ) (d : B) (old now next : List (A × B)) → i < length second → d ≡ get_or second i d → now ≡ old ++ pairs_with one (take i second) → next ≡ now ++ (one, d) ∷ [] →
    next ≡ old ++ pairs_with one (take (i + 1) second)
pair_more one second i d old now next l is e f =
    f ∙ ap (λ y. now ++ (one, y) ∷ []) is ∙ ap (λ x. x ++ (one, get_or second i d) ∷ []) e ∙ append_assoc old (pairs_with one (take i second)) ((one, get_or second i d) ∷ [])
    ∙ ap (λ x. old ++ x) (sym (ap (pairs_with one) (take_more second i d l) ∙ map-append (λ other. (one, other)) (take i second) (get_or second i d ∷ [])))

-- the pairs of one more value
pub pairs_more : {A B : Type 0} (first : List A) (second : List B) (i : ℕ) (d : A) (now next : List (A × B)) → i < length first → d ≡ get_or first i d → now ≡ pairs_of (take i first) second → next ≡ now ++ pairs_with d second →
    next ≡ pairs_of (take (i + 1) first) second
pairs_more first second i d now next l is e f =
    f ∙ ap (λ y. now ++ pairs_with y second) is ∙ ap (λ x. x ++ pairs_with (get_or first i d) second) e ∙ flat_map_more (λ one. pairs_with one second) [] (take i first) (get_or first i d)
    ∙ ap (λ xs. pairs_of xs second) (sym (take_more first i d l))
