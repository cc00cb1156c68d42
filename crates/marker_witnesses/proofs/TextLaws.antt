-- Comparisons that are written one after another.
use Rattle.std.proofs.Common.{◌≡◌, ◌∙◌, ◌<◌, ◌+◌, ℕ, List, [], ◌∷◌, ◌++◌, take, length, get_or, map, refl, sym, ap, subst, ◌≤◌}
use Rattle.std.proofs.lemmas.List.{map-append, take_all, take_more}
use Rattle.marker_witnesses.specs.Text.{all_after, and_then, comparison}

pub all_after_append : (front : List ℕ) (xs ys : List (List ℕ)) → all_after front (xs ++ ys) ≡ all_after (all_after front xs) ys
all_after_append front [] ys = refl
all_after_append front (x ∷ xs) ys = all_after_append (and_then front x) xs ys

-- one more comparison
pub one_more : {X : Type 0} (f : X → List ℕ) (xs : List X) (i : ℕ) (d : X) (front before after text : List ℕ) → i < length xs → before ≡ all_after front (map f (take i xs))
    → after ≡ and_then before text → text ≡ f (get_or xs i d) → after ≡ all_after front (map f (take (i + 1) xs))
one_more f xs i d front before after text below inv pushed is =
    pushed ∙ ap (λ (x : List ℕ). and_then before x) is ∙ ap (λ (x : List ℕ). and_then x (f (get_or xs i d))) inv
    ∙ sym (all_after_append front (map f (take i xs)) (f (get_or xs i d) ∷ []))
    ∙ ap (all_after front) (sym (map-append f (take i xs) (get_or xs i d ∷ [])) ∙ ap (map f) (sym (take_more xs i d below)))

-- the same where the list is another name of it
pub more_of : {X : Type 0} (f : X → List ℕ) (xs ys : List X) (i : ℕ) (d : X) (front before after text : List ℕ) → ys ≡ xs → i < length ys → before ≡ all_after front (map f (take i xs))
    → after ≡ and_then before text → text ≡ f (get_or ys i d) → after ≡ all_after front (map f (take (i + 1) xs))
more_of {X = X} f xs ys i d front before after text same below inv pushed is =
    one_more f xs i d front before after text (subst (λ (zs : List X). i < length zs) same below) inv pushed (is ∙ ap (λ zs. f (get_or zs i d)) same)

-- all of them
pub all_of : {X : Type 0} (f : X → List ℕ) (xs ys : List X) (i : ℕ) (front out : List ℕ) → ys ≡ xs → length ys ≤ i → out ≡ all_after front (map f (take i xs)) → out ≡ all_after front (map f xs)
all_of {X = X} f xs ys i front out same past inv = inv ∙ ap (λ zs. all_after front (map f zs)) (take_all i xs (subst (λ (zs : List X). length zs ≤ i) same past))

pub same_comparison : (k l o v w : List ℕ) → k ≡ l → v ≡ w → comparison k o v ≡ comparison l o w
same_comparison k l o v w e f = ap (λ (x : List ℕ). comparison x o v) e ∙ ap (λ (x : List ℕ). comparison l o x) f

-- one list after another, and a third one
pub all_three : (a b c : List (List ℕ)) (out : List ℕ) → out ≡ all_after (all_after (all_after [] a) b) c → out ≡ all_after [] (a ++ b ++ c)
all_three a b c out e = e ∙ ap (λ (x : List ℕ). all_after x c) (sym (all_after_append [] a b)) ∙ sym (all_after_append [] (a ++ b) c)
