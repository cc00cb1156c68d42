-- How far conjunctions reach, which of them stay, and what is left when the newest are removed.
use Rattle.std.proofs.Common.{◌≡◌, ℕ, zero, suc, ◌+◌, ◌-◌, ◌≤◌, min, max, Bool, true, false, cond, List, [], ◌∷◌, ◌++◌, length, get_or, take, Some, None, refl, sym, ap, ◌∙◌, subst, arith, length-append, length-drop}
use Rattle.std.specs.Prelude.{◌↔◌, slice_get, nat_le}
use Rattle.std.specs.Map.{lookup}
use Rattle.std.proofs.lemmas.Bool.{ne_eqb, leb-true, leb-false}
use Rattle.std.proofs.lemmas.List.{take_all}
use Rattle.std.proofs.lemmas.Option.{slice_get-get_or}
use Rattle.std.proofs.Math.Seq.{take-length}
use Rattle.indexmap.specs.IndexMap.{insert_entry}
use Rattle.marker_diagrams.specs.declared.node_id.NodeId.{NodeId}
use Rattle.marker_diagrams.specs.Id.{place_of}
use Rattle.marker_diagrams.specs.Diagram.{IsHeld, Keeps}
use Rattle.marker_diagrams.proofs.KeyLaws.{get_last}
use Rattle.marker_diagrams.proofs.NodeLaws.{same_some, none_some, keeps_itself, keeps_both}
use Rattle.marker_nodes.specs.Node.{Node, markers}
use Rattle.marker_nodes.specs.And.{IsAnd}
use Rattle.marker_nodes.specs.Table.{oldest}
use Rattle.marker_nodes.proofs.OldestLaws.{oldest_store, oldest_kept, oldest_undoes}
use Rattle.marker_conjunctions.specs.Contents.{Contents, IsKept, HoldsTheSame, IsWellKept, StaysFirst, released, same_pair}
use Rattle.marker_conjunctions.specs.Step.{StaysWellKept}
use Rattle.marker_conjunctions.specs.Reach.{Memo, first_within, reach, reach_from, reaches_from, top}
use Rattle.marker_conjunctions.proofs.CountLaws.{same_pair_is}

-- ---- the highest places
pub reach_more : (place : ℕ) (memo : Memo) (e : (NodeId × NodeId) × NodeId) → reach_from place (memo ++ e ∷ []) ≡ max (reach_from place memo) (top e)
reach_more place [] e = refl
reach_more place (x ∷ memo) e = reach_more (max place (top x)) memo e

pub reaches_more : (place : ℕ) (memo : Memo) (e : (NodeId × NodeId) × NodeId) → reaches_from place (memo ++ e ∷ []) ≡ reaches_from place memo ++ max (reach_from place memo) (top e) ∷ []
reaches_more place [] e = refl
reaches_more place (x ∷ memo) e = ap (λ l. max place (top x) ∷ l) (reaches_more (max place (top x)) memo e)

reaches_taken : (k place : ℕ) (memo : Memo) → take k (reaches_from place memo) ≡ reaches_from place (take k memo)
reaches_taken zero place memo = refl
reaches_taken (suc k) place [] = refl
reaches_taken (suc k) place (x ∷ memo) = ap (λ l. max place (top x) ∷ l) (reaches_taken k (max place (top x)) memo)

length_reaches : (place : ℕ) (memo : Memo) → length (reaches_from place memo) ≡ length memo
length_reaches place [] = refl
length_reaches place (x ∷ memo) = ap suc (length_reaches (max place (top x)) memo)

reach_at : (k place : ℕ) (memo : Memo) (r : ℕ) → slice_get (reaches_from place memo) k ≡ Some r → r ≡ reach_from place (take (suc k) memo)
reach_at k place [] r e = none_some r e
reach_at zero place (x ∷ memo) r e = sym (same_some (max place (top x)) r e)
reach_at (suc k) place (x ∷ memo) r e = reach_at k (max place (top x)) memo r e

reach_low : (place : ℕ) (memo : Memo) → place ≤ reach_from place memo
reach_low place [] = omega arith
reach_low place (x ∷ memo) = let h : max place (top x) ≤ reach_from (max place (top x)) memo = reach_low (max place (top x)) memo in omega arith

reach_taken : (k place : ℕ) (memo : Memo) → reach_from place (take k memo) ≤ reach_from place memo
reach_taken zero place memo = reach_low place memo
reach_taken (suc k) place [] = omega arith
reach_taken (suc k) place (x ∷ memo) = reach_taken k (max place (top x)) memo

-- fewer than all, or all
take_fewer : (memo : Memo) (known last : ℕ) → last + 1 ≡ min known (length memo) → take known memo ≡ take (suc last) memo
take_fewer memo known last h1 = grind (arith, length, take, leb-true, leb-false, take_all)

module _ (memo : Memo) (reaches : List ℕ) (known : ℕ) (all : reaches ≡ reaches_from 0 memo) where
  size : length reaches ≡ length memo
  size = ap length all ∙ length_reaches 0 memo

  pub reach_found : (size last r : ℕ) → size ≡ min known (length reaches) → 1 ≤ size → last ≡ size - 1 → r ≡ get_or reaches last r → r ≡ reach (take known memo)
  reach_found m last r m_is some last_is found = grind (arith, min, length, size, slice_get-get_or, reach_at, take_fewer)

-- the highest place with one more conjunction
pub reach_now : (memo : Memo) (a b t : NodeId) (known before left right made both all now : ℕ) → known ≡ length memo → before ≡ reach (take known memo) →
    left ≡ place_of a → right ≡ place_of b → made ≡ place_of t → both ≡ max left right → all ≡ max both made → now ≡ max before all →
    now ≡ max (reach memo) (top ((a, b), t))
reach_now memo a b t known before left right made both all now h1 h2 h3 h4 h5 h6 h7 h8 = grind (arith, take, take-length)

-- some are left
pub left_reaches : (left : ℕ) (reaches rest : List ℕ) (old new : Memo) → reaches ≡ reaches_from 0 old → rest ≡ take left reaches → new ≡ take left old → rest ≡ reaches_from 0 new
left_reaches left reaches rest old new all rest_is new_is = rest_is ∙ ap (take left) all ∙ reaches_taken left 0 old ∙ ap (reaches_from 0) (sym new_is)

-- ---- one conjunction more
last_entry : (old : Memo) (p : NodeId × NodeId) (t : NodeId) → lookup (same_pair p) old ≡ None → insert_entry same_pair old p t ≡ old ++ (p, t) ∷ []
last_entry [] p t e = refl
last_entry (x ∷ old) p t e = by_test (same_pair p x.0) e (last_entry old p t)
  where
    by_test : (b : Bool) → cond b (Some x.1) (lookup (same_pair p) old) ≡ None → (lookup (same_pair p) old ≡ None → insert_entry same_pair old p t ≡ old ++ (p, t) ∷ []) →
        cond b ((x.0, t) ∷ old) (x ∷ insert_entry same_pair old p t) ≡ x ∷ old ++ (p, t) ∷ []
    by_test true f h = none_some x.1 (sym f)
    by_test false f h = ap (λ l. x ∷ l) (h f)

module _ (old new : Memo) (p : NodeId × NodeId) (t : NodeId) (unknown : lookup (same_pair p) old ≡ None) (is : new ≡ insert_entry same_pair old p t) where
  pub added_last : new ≡ old ++ (p, t) ∷ []
  added_last = is ∙ last_entry old p t unknown

  pub added_reach : reach new ≡ max (reach old) (top (p, t))
  added_reach = ap reach added_last ∙ reach_more 0 old (p, t)

  pub added_reaches : (reaches : List ℕ) (r : ℕ) → reaches ≡ reaches_from 0 old → r ≡ max (reach old) (top (p, t)) → reaches ++ r ∷ [] ≡ reaches_from 0 new
  added_reaches reaches r h1 h2 = grind (arith, reaches_more, added_last)

  pub added_first : StaysFirst old new
  added_first = grind (arith, added_last, length-append, get_last, cond, ne_eqb, length)

-- ---- what stays
pub stays_itself : (memo : Memo) → StaysFirst memo memo
stays_itself memo = record { longer = omega arith; known = λ i h. refl }

stays_both : (a b c : Memo) → StaysFirst a b → StaysFirst b c → StaysFirst a c
stays_both a b c h1 h2 = grind arith

pub kept_itself : (c : Contents) → IsKept c c
kept_itself c = record { nodes = keeps_itself markers c.nodes; memo = stays_itself c.memo }

pub kept_both : (c d e : Contents) → IsKept c d → IsKept d e → IsKept c e
kept_both c d e k l = record { nodes = keeps_both markers c.nodes d.nodes e.nodes k.nodes l.nodes; memo = stays_both c.memo d.memo e.memo k.memo l.memo }

pub well_itself : (c : Contents) → IsWellKept c → StaysWellKept c c
well_itself c w = record { rules = w; kept = kept_itself c; remembers = λ p h. h }

pub well_both : (c d e : Contents) → StaysWellKept c d → StaysWellKept d e → StaysWellKept c e
well_both c d e k l = record { rules = l.rules; kept = kept_both c d e k.kept l.kept; remembers = λ p h. l.remembers p (k.remembers p h) }

-- nothing but nodes came
pub kept_nodes : (c d : Contents) → Keeps markers c.nodes d.nodes → d.memo ≡ c.memo → IsKept c d
kept_nodes c d k same = record { nodes = k; memo = subst (StaysFirst c.memo) (sym same) (stays_itself c.memo) }

pub kept_same : (c d : Contents) → HoldsTheSame c d → IsKept c d
kept_same c d same = kept_nodes c d (subst (Keeps markers c.nodes) (sym same.nodes) (keeps_itself markers c.nodes)) same.memo

-- ---- what is left
pub first_is : (old new : Memo) → StaysFirst old new → take (length old) new ≡ old
first_is [] new s = refl
first_is (x ∷ old) [] s = absurd (omega (arith, s.longer))
first_is (x ∷ old) (y ∷ new) s =
    let first : y ≡ x = same_some y x (s.known 0 (omega arith)) in
    let rest : take (length old) new ≡ old =
    first_is old new (record { longer = omega (arith, s.longer); known = λ i h. s.known (suc i) (omega (arith, h)) }) in
    ap (λ z. z ∷ take (length old) new) first ∙ ap (λ l. x ∷ l) rest

taken_first : (k : ℕ) (memo : Memo) → StaysFirst (take k memo) memo
taken_first zero memo = record { longer = omega arith; known = λ i h. absurd (omega (arith, h)) }
taken_first (suc k) [] = stays_itself []
taken_first (suc k) (x ∷ memo) = grind (arith, take, length, taken_first k memo)

lookup_taken : (p : NodeId × NodeId) (k : ℕ) (memo : Memo) (t : NodeId) → lookup (same_pair p) (take k memo) ≡ Some t → lookup (same_pair p) memo ≡ Some t
lookup_taken p zero memo t e = none_some t e
lookup_taken p (suc k) [] t e = none_some t e
lookup_taken p (suc k) (x ∷ memo) t e = grind (arith, take, cond, lookup_taken p k memo t)

-- the ids of a known conjunction are no higher
lookup_reach : (a b t : NodeId) (place : ℕ) (memo : Memo) → lookup (same_pair (a, b)) memo ≡ Some t → max (max (place_of a) (place_of b)) (place_of t) ≤ reach_from place memo
lookup_reach a b t place [] e = none_some t e
lookup_reach a b t place (x ∷ memo) e = by_test (same_pair (a, b) x.0) refl (lookup_reach a b t (max place (top x)) memo) e
  where
    by_test : (s : Bool) → same_pair (a, b) x.0 ≡ s → (lookup (same_pair (a, b)) memo ≡ Some t → max (max (place_of a) (place_of b)) (place_of t) ≤ reach_from (max place (top x)) memo) →
        cond s (Some x.1) (lookup (same_pair (a, b)) memo) ≡ Some t → max (max (place_of a) (place_of b)) (place_of t) ≤ reach_from (max place (top x)) memo
    by_test true f h g =
        let same = same_pair_is (a, b) x.0 f in
        let left : place_of a ≡ place_of x.0.0 = ap (λ (p : NodeId × NodeId). place_of p.0) same in
        let right : place_of b ≡ place_of x.0.1 = ap (λ (p : NodeId × NodeId). place_of p.1) same in
        let made : place_of t ≡ place_of x.1 = ap place_of (sym (same_some x.1 t g)) in
        let low : max place (top x) ≤ reach_from (max place (top x)) memo = reach_low (max place (top x)) memo in
        omega (arith, left, right, made, low)
    by_test false f h g = h g

-- a conjunction of ids that are left is one of what is left
and_left : (new old : List Node) (a b t : NodeId) → Keeps markers new old → IsHeld new a → IsHeld new b → IsHeld new t → IsAnd old a b t → IsAnd new a b t
and_left new old a b t h1 h2 h3 h4 h5 = grind arith

-- ---- the newest nodes and conjunctions are given up
module _ (nodes known : ℕ) (c : Contents) where
  left_size : length (oldest nodes c.nodes) ≡ length c.nodes - (length c.nodes - nodes)
  left_size = length-drop (length c.nodes - nodes) c.nodes

  abbrev Left : Bool → Memo
  Left b = cond b (take known c.memo) []

  module _ (w : IsWellKept c) where
    known_left : reach (take known c.memo) ≤ nodes → (a b t : NodeId) → lookup (same_pair (a, b)) (take known c.memo) ≡ Some t →
        IsHeld (oldest nodes c.nodes) a × (IsHeld (oldest nodes c.nodes) b × IsAnd (oldest nodes c.nodes) a b t)
    known_left r a b t e =
        let h = w.known a b t (lookup_taken (a, b) known c.memo t e) in
        let high : max (max (place_of a) (place_of b)) (place_of t) ≤ reach (take known c.memo) = lookup_reach a b t 0 (take known c.memo) e in
        let left : place_of a ≤ length c.nodes = h.0 in
        let right : place_of b ≤ length c.nodes = h.1.0 in
        let made : place_of t ≤ length c.nodes = h.1.1.held in
        let size : length (oldest nodes c.nodes) ≡ length c.nodes - (length c.nodes - nodes) = left_size in
        let i : IsHeld (oldest nodes c.nodes) a = omega (arith, high, left, size, r) in
        let j : IsHeld (oldest nodes c.nodes) b = omega (arith, high, right, size, r) in
        let k : IsHeld (oldest nodes c.nodes) t = omega (arith, high, made, size, r) in
        (i, (j, and_left (oldest nodes c.nodes) c.nodes a b t (oldest_kept nodes c.nodes) i j k h.1.1))

    well_by : (b : Bool) → nat_le (reach (take known c.memo)) nodes ≡ b → IsWellKept record { nodes = oldest nodes c.nodes; memo = Left b; expansions = c.expansions }
    well_by true e =
        let r : reach (take known c.memo) ≤ nodes = leb-true (reach (take known c.memo)) nodes e in
        let fewer : reach (take known c.memo) ≤ reach c.memo = reach_taken known 0 c.memo in
        let size : length (oldest nodes c.nodes) ≡ length c.nodes - (length c.nodes - nodes) = left_size in
        let all : reach c.memo ≤ length c.nodes = w.within in
        record { nodes = oldest_store nodes c.nodes w.nodes; known = known_left r; within = omega (arith, r, fewer, size, all) }
    well_by false e = record { nodes = oldest_store nodes c.nodes w.nodes; known = λ a b t f. none_some t f; within = omega arith }

    -- what is left keeps the rules
    pub released_well : IsWellKept (released nodes known c)
    released_well = well_by (nat_le (reach (take known c.memo)) nodes) refl

  first_by : (b : Bool) → StaysFirst (Left b) c.memo
  first_by b = grind (arith, taken_first)

  -- what is left was there before, with its meaning
  pub released_kept : IsKept (released nodes known c) c
  released_kept = record { nodes = oldest_kept nodes c.nodes; memo = first_by (nat_le (reach (take known c.memo)) nodes) }

le_leb : (a b : ℕ) → a ≤ b → nat_le a b ≡ true
le_leb a b h1 = grind arith

-- exactly what was added since is removed
pub released_same : (c d : Contents) → reach c.memo ≤ length c.nodes → IsKept c d → HoldsTheSame c (released (length c.nodes) (length c.memo) d)
released_same c d h1 h2 = grind (arith, oldest_undoes, take, length, first_is, cond, le_leb)

-- ---- the parts of an interner that gave up what came since a mark
module _ (nodes known : ℕ) where
  pub released_is : (c : Contents) (left : List Node) (memo : Memo) (expansions : ℕ) → left ≡ oldest nodes c.nodes → memo ≡ first_within known nodes c.memo → expansions ≡ c.expansions →
      record { nodes = left; memo = memo; expansions = expansions } ≡ released nodes known c
  released_is c left memo expansions p q r = λ i. record { nodes = p i; memo = q i; expansions = r i }

  pub released_held : (c : Contents) (t : NodeId) → IsHeld (oldest nodes c.nodes) t ↔ (IsHeld c.nodes t × (place_of t ≤ nodes))
  released_held c t = grind (arith, length, left_size)

  pub released_undone : (c d : Contents) → nodes ≡ length c.nodes → known ≡ length c.memo → reach c.memo ≤ length c.nodes → IsKept c d → HoldsTheSame c (released nodes known d)
  released_undone c d n k within kept =
      subst (λ (x : ℕ). HoldsTheSame c (released x known d)) (sym n)
      (subst (λ (y : ℕ). HoldsTheSame c (released (length c.nodes) y d)) (sym k) (released_same c d within kept))
