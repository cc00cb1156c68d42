-- How many conjunctions a conjunction makes known.
use Rattle.std.proofs.Common.{◌≡◌, ℕ, suc, ◌+◌, ◌*◌, ◌≤◌, Bool, true, false, cond, ◌&&◌, ◌||◌, List, [], ◌∷◌, ◌++◌, length, map, Option, Some, None, is_some, refl, sym, ap, ◌∙◌, arith}
use Rattle.std.specs.List.{list_any}
use Rattle.std.specs.Map.{lookup}
use Rattle.std.proofs.lemmas.Bool.{true≢false, false≢true, and_parts, and_from}
use Rattle.std.proofs.lemmas.List.{length-append}
use Rattle.std.proofs.lemmas.List.Folds.{list_any-append}
use Rattle.marker_diagrams.specs.declared.node_id.NodeId.{NodeId}
use Rattle.marker_diagrams.specs.Id.{place_of, same_id}
use Rattle.marker_diagrams.specs.Diagram.{IsHeld}
use Rattle.marker_diagrams.specs.Residue.{IsSubtree, itself}
use Rattle.marker_diagrams.proofs.IdLaws.{same_id_is, same_id_itself}
use Rattle.marker_diagrams.proofs.NodeLaws.{Descends}
use Rattle.marker_diagrams.proofs.ResidueLaws.{subtree_both, subtree_kept}
use Rattle.marker_nodes.specs.Node.{markers}
use Rattle.marker_conjunctions.specs.Contents.{Contents, IsKept, IsWellKept, same_pair}
use Rattle.marker_conjunctions.specs.Count.{Spends, unknown}

pub or_left : (s t : Bool) → s ≡ true → (s || t) ≡ true
or_left true t e = refl
or_left false t e = absurd (false≢true e)

pub or_right : (s t : Bool) → t ≡ true → (s || t) ≡ true
or_right true t e = refl
or_right false t e = e

pub descends_of : (c : Contents) → IsWellKept c → Descends markers c.nodes
descends_of c w i n f = (w.nodes.node i n f).below

-- ---- what is spent
-- a call on subtrees comes after
pub spends_both : (c d e : Contents) (size less : ℕ) (a b x y : NodeId) → IsKept c d → Descends markers c.nodes → IsHeld c.nodes x → IsHeld c.nodes y →
    IsSubtree markers c.nodes a x → IsSubtree markers c.nodes b y → less ≤ size → Spends c d size a b → Spends d e less x y → Spends c e size a b
spends_both c d e size less a b x y k descends i j sx sy l p q = record {
  above = λ z h. q.above z (omega arith) ∙ p.above z h;
  spent = λ pairs h.
      let m = p.spent pairs h in
      let n = q.spent pairs (λ u w su sw. h u w (below a x u i sx su) (below b y w j sy sw)) in
      omega arith;
  rises = let m = p.rises in let n = q.rises in omega arith;
}
  where
    below : (t s u : NodeId) → IsHeld c.nodes s → IsSubtree markers c.nodes t s → IsSubtree markers d.nodes s u → IsSubtree markers c.nodes t u
    below t s u h z su = subtree_both markers c.nodes t s u z ((subtree_kept markers c.nodes d.nodes s u k.nodes descends h su).0)

-- ---- one conjunction more
abbrev Memo : Type 0
Memo = List ((NodeId × NodeId) × NodeId)

-- a pair that was known stays known
abbrev Grows : Memo → Memo → Type 0
Grows old new = (k : NodeId × NodeId) → is_some (lookup (same_pair k) old) ≡ true → is_some (lookup (same_pair k) new) ≡ true

one_less : (s t : Bool) → (s ≡ true → t ≡ true) → cond t 0 1 ≤ cond s 0 1
one_less true t h = let e : t ≡ true = h refl in rw e (omega arith)
one_less false true h = omega arith
one_less false false h = omega arith

fewer : (old new : Memo) (pairs : List (NodeId × NodeId)) → Grows old new → unknown pairs new ≤ unknown pairs old
fewer old new [] h = omega arith
fewer old new (k ∷ ks) h = grind (arith, cond, is_some, one_less, fewer old new ks h)

pub same_pair_is : (p q : NodeId × NodeId) → same_pair p q ≡ true → p ≡ q
same_pair_is p q e = grind (arith, and_parts, same_id_is)

at_known : (s t : Bool) (m n : ℕ) → s ≡ false → t ≡ true → m ≤ n → cond t 0 1 + m + 1 ≤ cond s 0 1 + n
at_known true t m n e f h = absurd (true≢false e)
at_known false true m n e f h = omega arith
at_known false false m n e f h = absurd (false≢true f)

fewer_at : (old new : Memo) (at k : NodeId × NodeId) (ks : List (NodeId × NodeId)) → Grows old new → is_some (lookup (same_pair at) old) ≡ false → is_some (lookup (same_pair at) new) ≡ true →
    (list_any (same_pair at) ks ≡ true → unknown ks new + 1 ≤ unknown ks old) → (t : Bool) → same_pair at k ≡ t → (t || list_any (same_pair at) ks) ≡ true → unknown (k ∷ ks) new + 1 ≤ unknown (k ∷ ks) old
fewer_at old new at k ks h n y ih true f g =
    let e : at ≡ k = same_pair_is at k f in
    at_known (is_some (lookup (same_pair k) old)) (is_some (lookup (same_pair k) new)) (unknown ks new) (unknown ks old) (ap (λ z. is_some (lookup (same_pair z) old)) (sym e) ∙ n) (ap (λ z. is_some (lookup (same_pair z) new)) (sym e) ∙ y) (fewer old new ks h)
fewer_at old new at k ks h n y ih false f g =
    let a : unknown ks new + 1 ≤ unknown ks old = ih g in
    let b : cond (is_some (lookup (same_pair k) new)) 0 1 ≤ cond (is_some (lookup (same_pair k) old)) 0 1 = one_less (is_some (lookup (same_pair k) old)) (is_some (lookup (same_pair k) new)) (h k) in
    omega arith

pub fewer_by : (old new : Memo) (at : NodeId × NodeId) (pairs : List (NodeId × NodeId)) → Grows old new → is_some (lookup (same_pair at) old) ≡ false → is_some (lookup (same_pair at) new) ≡ true →
    list_any (same_pair at) pairs ≡ true → unknown pairs new + 1 ≤ unknown pairs old
fewer_by old new at [] h n y e = absurd (false≢true e)
fewer_by old new at (k ∷ ks) h n y e = fewer_at old new at k ks h n y (fewer_by old new at ks h n y) (same_pair at k) refl e

-- a conjunction that was not known is entered and counted
pub spends_more : (c d e : Contents) (a b t : NodeId) → Spends c d (place_of a + place_of b) a b → lookup (same_pair (a, b)) c.memo ≡ None →
    ((q : NodeId × NodeId) → lookup (same_pair q) e.memo ≡ cond (same_pair (a, b) q) (Some t) (lookup (same_pair q) d.memo)) → e.expansions ≤ d.expansions + 1 → d.expansions ≤ e.expansions →
    Spends c e (place_of a + place_of b + 1) a b
spends_more c d e a b t s n u x y = record {
  above = λ k h. u k ∙ ap (λ z. cond z (Some t) (lookup (same_pair k) d.memo)) (other k h (same_pair (a, b) k) refl) ∙ s.above k (omega arith);
  spent = λ pairs h.
      let m = s.spent pairs h in
      let f : unknown pairs e.memo + 1 ≤ unknown pairs d.memo = fewer_by d.memo e.memo (a, b) pairs grows
      (ap is_some (s.above (a, b) (omega arith) ∙ n)) (ap is_some (u (a, b) ∙ ap (λ z. cond z (Some t) (lookup (same_pair (a, b)) d.memo)) itself_same)) (h a b itself itself) in
      omega arith;
  rises = let r = s.rises in omega arith;
}
  where
    itself_same : same_pair (a, b) (a, b) ≡ true
    itself_same = and_from (same_id a a) (same_id b b) (same_id_itself a) (same_id_itself b)

    other : (k : NodeId × NodeId) → place_of a + place_of b + 1 ≤ place_of k.0 + place_of k.1 → (z : Bool) → same_pair (a, b) k ≡ z → z ≡ false
    other k h true f =
        let g : place_of k.0 ≡ place_of a = sym (ap (λ r. place_of r.0) (same_pair_is (a, b) k f)) in
        let l : place_of k.1 ≡ place_of b = sym (ap (λ r. place_of r.1) (same_pair_is (a, b) k f)) in
        absurd (omega arith)
    other k h false f = refl

    stays : (z : Bool) (o : Option NodeId) → is_some o ≡ true → is_some (cond z (Some t) o) ≡ true
    stays true o g = refl
    stays false o g = g

    grows : Grows d.memo e.memo
    grows k h = ap is_some (u k) ∙ stays (same_pair (a, b) k) (lookup (same_pair k) d.memo) h

-- ---- the bound
cross : NodeId → List NodeId → List (NodeId × NodeId)
cross a bs = map (λ b. (a, b)) bs

pub all_pairs : List NodeId → List NodeId → List (NodeId × NodeId)
all_pairs [] bs = []
all_pairs (a ∷ rest) bs = cross a bs ++ all_pairs rest bs

unknown_length : (pairs : List (NodeId × NodeId)) (memo : Memo) → unknown pairs memo ≤ length pairs
unknown_length [] memo = omega arith
unknown_length (p ∷ ps) memo = grind (arith, length, cond, is_some, unknown_length ps memo)

cross_has : (x : NodeId) (y : NodeId) (bs : List NodeId) → list_any (same_id y) bs ≡ true → list_any (same_pair (x, y)) (cross x bs) ≡ true
unfolding cross
cross_has x y [] e = e
cross_has x y (b ∷ bs) e = by_test (same_id y b) (list_any (same_id y) bs) e (cross_has x y bs)
  where
    by_test : (s t : Bool) → (s || t) ≡ true → (t ≡ true → list_any (same_pair (x, y)) (map (λ b. (x, b)) bs) ≡ true) → ((same_id x x && s) || list_any (same_pair (x, y)) (map (λ b. (x, b)) bs)) ≡ true
    by_test true t e h = or_left (same_id x x && true) _ (and_from (same_id x x) true (same_id_itself x) refl)
    by_test false t e h = or_right (same_id x x && false) _ (h e)

any_both : {X : Type 0} (p : X → Bool) (xs ys : List X) → (list_any p xs || list_any p ys) ≡ true → list_any p (xs ++ ys) ≡ true
any_both p xs ys e = list_any-append p xs ys ∙ e

pub pairs_have : (x y : NodeId) (xs bs : List NodeId) → list_any (same_id x) xs ≡ true → list_any (same_id y) bs ≡ true → list_any (same_pair (x, y)) (all_pairs xs bs) ≡ true
unfolding all_pairs
pairs_have x y [] bs e f = absurd (false≢true e)
pairs_have x y (a ∷ rest) bs e f = any_both (same_pair (x, y)) (cross a bs) (all_pairs rest bs) (by_test (same_id x a) refl e (λ g. pairs_have x y rest bs g f))
  where
    by_test : (t : Bool) → same_id x a ≡ t → (t || list_any (same_id x) rest) ≡ true → (list_any (same_id x) rest ≡ true → list_any (same_pair (x, y)) (all_pairs rest bs) ≡ true) →
        (list_any (same_pair (x, y)) (cross a bs) || list_any (same_pair (x, y)) (all_pairs rest bs)) ≡ true
    by_test true g e h = or_left _ _ (ap (λ z. list_any (same_pair (x, y)) (cross z bs)) (sym (same_id_is x a g)) ∙ cross_has x y bs f)
    by_test false g e h = or_right _ _ (h e)

cross_length : (a : NodeId) (bs : List NodeId) → length (cross a bs) ≡ length bs
unfolding cross
cross_length a [] = refl
cross_length a (b ∷ bs) = ap suc (cross_length a bs)

suc_times : (m n l : ℕ) → l ≡ n + m * n → l ≡ suc m * n
suc_times m n l e = omega arith

pairs_length : (xs bs : List NodeId) → length (all_pairs xs bs) ≡ length xs * length bs
unfolding all_pairs
pairs_length [] bs = grind arith
pairs_length (a ∷ rest) bs =
    let e : length (cross a bs ++ all_pairs rest bs) ≡ length (cross a bs) + length (all_pairs rest bs) = length-append (cross a bs) (all_pairs rest bs) in
    let f : length (cross a bs) ≡ length bs = cross_length a bs in
    let g : length (all_pairs rest bs) ≡ length rest * length bs = pairs_length rest bs in
    suc_times (length rest) (length bs) _ (omega arith)

-- the lists of ids have all subtrees
abbrev pub Lists : Contents → NodeId → List NodeId → Type 0
Lists c t xs = (s : NodeId) → IsSubtree markers c.nodes t s → list_any (same_id s) xs ≡ true

pub ids_bounded : (c d : Contents) (a b : NodeId) (size : ℕ) → Spends c d size a b → (xs ys : List NodeId) → Lists c a xs → Lists c b ys → d.expansions ≤ c.expansions + length xs * length ys
ids_bounded c d a b size s xs ys h k =
    let e = s.spent (all_pairs xs ys) (λ x y sx sy. pairs_have x y xs ys (h x sx) (k y sy)) in
    let f : unknown (all_pairs xs ys) c.memo ≤ length (all_pairs xs ys) = unknown_length (all_pairs xs ys) c.memo in
    let g : length (all_pairs xs ys) ≡ length xs * length ys = pairs_length xs ys in
    omega arith
