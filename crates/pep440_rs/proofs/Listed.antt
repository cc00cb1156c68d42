-- Lists of versions: the entries without the zeros at the end of their releases.
use Rattle.std.proofs.Common.{◌≡◌, ◌+◌, ◌<◌, ◌++◌, ◌||◌, [], ◌∷◌, ℕ, Bool, false, List, get_or, length, map, take, sym, ap, ◌∙◌, arith}
use Rattle.std.proofs.lemmas.List.Folds.{list_any-append, list_any_more}
use Rattle.std.proofs.lemmas.List.{map-append, take_more}
use Rattle.std.specs.declared.cmp.Ordering.TheVariants.{Equal}
use Rattle.std.specs.declared.ops.Bound.TheVariants.{Included}
use Rattle.version_ranges.specs.Point.{Point, is_in_bounds}
use Rattle.pep440_version.specs.Order.{IsSameVersion, trimmed_parts, version_cmp}
use Rattle.pep440_version.specs.OrderLaws.{same-tied}
use Rattle.pep440_version.specs.Parts.{Parts}
use Rattle.pep440_rs.specs.Lists.{is_listed}
use Rattle.pep440_rs.proofs.Between.{between-same}

abbrev is_at : Parts → Point Parts → Bool
is_at v p = is_in_bounds version_cmp (Included v) (Included v) p

at-same : (v w : Parts) (p : Point Parts) → version_cmp v w ≡ Equal → is_at v p ≡ is_at w p
at-same v w p e = between-same (Included v) (Included v) (Included w) (Included w) p e e

or_false : (b : Bool) → (b || false) ≡ b
or_false b = grind arith

-- one more version, which is the same as the entry
pub listed-more : (vs ws xs : List Parts) (i : ℕ) (v x : Parts) (p : Point Parts) → ws ≡ vs ++ v ∷ [] → i < length xs → x ≡ get_or xs i x → IsSameVersion v x
    → is_listed vs p ≡ is_listed (take i xs) p → is_listed ws p ≡ is_listed (take (i + 1) xs) p
listed-more vs ws xs i v x p e h m s k =
    ap (λ (zs : List Parts). is_listed zs p) e
    ∙ list_any-append (λ (w : Parts). is_at w p) vs (v ∷ [])
    ∙ ap (λ (b : Bool). is_listed vs p || b) (or_false (is_at v p) ∙ at-same v x p (same-tied v x s) ∙ ap (λ (w : Parts). is_at w p) m)
    ∙ ap (λ (b : Bool). b || is_at (get_or xs i x) p) k
    ∙ sym (list_any_more (λ (w : Parts). is_at w p) xs i x h)

-- one more version without the zeros at its end
pub trimmed-more : (vs ws xs : List Parts) (i : ℕ) (v x : Parts) → ws ≡ vs ++ v ∷ [] → i < length xs → x ≡ get_or xs i x → v ≡ trimmed_parts x
    → vs ≡ map trimmed_parts (take i xs) → ws ≡ map trimmed_parts (take (i + 1) xs)
trimmed-more vs ws xs i v x e h m s k =
    e ∙ ap (λ (w : Parts). vs ++ w ∷ []) (s ∙ ap trimmed_parts m) ∙ ap (λ (zs : List Parts). zs ++ trimmed_parts (get_or xs i x) ∷ []) k
    ∙ sym (map-append trimmed_parts (take i xs) (get_or xs i x ∷ [])) ∙ ap (map trimmed_parts) (sym (take_more xs i x h))
