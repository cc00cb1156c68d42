-- What the values of all cuts pass, the values of the cuts pass that are made of them.
use Rattle.std.proofs.Common.{◌≡◌, ℕ, zero, suc, ◌<◌, Bool, true, false, cond, List, [], ◌∷◌, ◌++◌, length, get_or, set, refl, sym, ap, ◌∙◌, arith}
use Rattle.std.proofs.lemmas.Bool.{and_parts, and_from}
use Rattle.std.proofs.lemmas.List.Folds.{list_all-append, list_all-map}
use Rattle.std.proofs.lemmas.List.Sorted.{All-permutation}
use Rattle.std.proofs.lemmas.List.Sums.{AllPass-from_list_all, list_all-from_AllPass}
use Rattle.std.specs.List.{AllZip, list_all, dedup, dedup_from}
use Rattle.std.specs.List.Sorted.{IsPermutation}
use Rattle.std.specs.Ordering.{match_ordering}
use Rattle.std.specs.declared.cmp.Ordering.{Ordering}
use Rattle.std.specs.declared.ops.Bound.{Bound}
use Rattle.version_ranges.specs.declared.cut.Cut.{Cut}
use Rattle.version_ranges.specs.Bounds.{IsKeptByClones, passes_at, passes_at_both}
use Rattle.version_ranges.specs.Cut.{lower_of, upper_of}
use Rattle.version_ranges.specs.Intervals.{intervals_among}
use Rattle.version_ranges.specs.Parts.{parts_from}
use Rattle.version_ranges.specs.Sweep.{merge_steps, overlay, overlay_step, relabel}

-- what each element passes, the one at a place passes, and a list with another one there
module _ {X : Type 0} (test : X → Bool) where
  pub passes_at_place : (xs : List X) (i : ℕ) (x : X) → i < length xs → x ≡ get_or xs i x → list_all test xs ≡ true → test x ≡ true
  passes_at_place [] i x h e k = absurd (omega arith)
  passes_at_place (y ∷ ys) zero x h e k = ap test e ∙ (and_parts _ _ k).0
  passes_at_place (y ∷ ys) (suc i) x h e k = passes_at_place ys i x (omega arith) e (and_parts _ _ k).1

  pub set_passes : (xs : List X) (i : ℕ) (x : X) → list_all test xs ≡ true → test x ≡ true → list_all test (set xs i x) ≡ true
  set_passes [] i x k e = refl
  set_passes (y ∷ ys) zero x k e = and_from _ _ e (and_parts _ _ k).1
  set_passes (y ∷ ys) (suc i) x k e = let q = and_parts _ _ k in and_from _ _ q.0 (set_passes ys i x q.1 e)

  -- and a list with one more
  pub joined_passes : (b : Bool) (xs new : List X) (x : X) → new ≡ cond b xs (xs ++ x ∷ []) → list_all test xs ≡ true → test x ≡ true → list_all test new ≡ true
  joined_passes b xs new x h1 h2 h3 = grind (arith, list_all-append, and_from)

module _ {C : Type 0} (test : C → Bool) where
  -- whether each cut passes
  abbrev pub passes : {V : Type 0} → List (C × V) → Bool
  passes steps = list_all (λ s. test s.0) steps

  -- the first cut passes, and the others
  pub passes_first : {V : Type 0} (xs ys : List (C × V)) (x : C × V) → xs ≡ x ∷ ys → passes xs ≡ true → (test x.0 ≡ true) × (passes ys ≡ true)
  passes_first xs ys x e h = and_parts _ _ (ap passes (sym e) ∙ h)

  by_test : {A : Type 0} (p : A → Bool) (b : Bool) (x y : A) → p x ≡ true → p y ≡ true → p (cond b x y) ≡ true
  by_test p b x y h1 h2 = grind arith

  by_order : {A : Type 0} (p : A → Bool) (o : Ordering) (x y z : A) → p x ≡ true → p y ≡ true → p z ≡ true → p (match_ordering o x y z) ≡ true
  by_order p o x y z h1 h2 h3 = grind arith

  pub merge_passes : {V : Type 0} (same : V → V → Bool) (v : V) (xs : List (C × V)) → passes xs ≡ true → passes (merge_steps same v xs) ≡ true
  merge_passes same v [] h = refl
  merge_passes same v (x ∷ xs) h =
      let q = and_parts _ _ h in
      by_test passes (same v x.1) (merge_steps same v xs) (x ∷ merge_steps same x.1 xs) (merge_passes same v xs q.1) (and_from _ _ q.0 (merge_passes same x.1 xs q.1))

  pub relabel_passes : {V W : Type 0} (xs : List (C × V)) (ws : List W) → passes xs ≡ true → passes (relabel xs ws) ≡ true
  relabel_passes [] ws h = refl
  relabel_passes (x ∷ xs) [] h = refl
  relabel_passes (x ∷ xs) (w ∷ ws) h = let q = and_parts _ _ h in and_from _ _ q.0 (relabel_passes xs ws q.1)

  module _ {V W : Type 0} (cmp : C → C → Ordering) where
    step_passes : (v : V) (x : C × V) (more : W → List (C × W) → List (C × (V × W))) → test x.0 ≡ true →
        ((w : W) (ys : List (C × W)) → passes ys ≡ true → passes (more w ys) ≡ true) → (w : W) (ys : List (C × W)) → passes ys ≡ true → passes (overlay_step cmp v x more w ys) ≡ true
    step_passes v x more e k w [] h = and_from _ _ e (k w [] refl)
    step_passes v x more e k w (y ∷ ys) h =
        let q = and_parts _ _ h in
        by_order passes (cmp x.0 y.0) ((x.0, (x.1, w)) ∷ more w (y ∷ ys)) ((x.0, (x.1, y.1)) ∷ more y.1 ys) ((y.0, (v, y.1)) ∷ overlay_step cmp v x more y.1 ys)
        (and_from _ _ e (k w (y ∷ ys) h)) (and_from _ _ e (k y.1 ys q.1)) (and_from _ _ q.0 (step_passes v x more e k y.1 ys q.1))

    pub overlay_passes : (v : V) (xs : List (C × V)) (w : W) (ys : List (C × W)) → passes xs ≡ true → passes ys ≡ true → passes (overlay cmp v xs w ys) ≡ true
    overlay_passes v [] w ys h k = list_all-map (λ (s : C × (V × W)). test s.0) (λ (y : C × W). (y.0, (v, y.1))) ys ∙ k
    overlay_passes v (x ∷ xs) w ys h k = let q = and_parts _ _ h in step_passes v x (overlay cmp x.1 xs) q.0 (λ u zs m. overlay_passes x.1 xs u zs q.1 m) w ys k

  -- one more cut
  pub passes_more : {V : Type 0} (out new : List (C × V)) (x : C × V) → new ≡ out ++ x ∷ [] → passes out ≡ true → test x.0 ≡ true → passes new ≡ true
  passes_more out new x e h k = ap passes e ∙ list_all-append (λ s. test s.0) out (x ∷ []) ∙ and_from _ _ h (and_from _ _ k refl)

-- clones of the cuts
pub clones_pass : {T V : Type 0} (test : T → Bool) (C : T → T → Type 0) (R : Cut T × V → Cut T × V → Type 0) → IsKeptByClones C test → ((x y : Cut T × V) → R x y → C x.0.value y.0.value) →
    (xs ys : List (Cut T × V)) → AllZip R xs ys → passes (λ c. test c.value) xs ≡ true → passes (λ c. test c.value) ys ≡ true
clones_pass test C R k r [] [] a h = refl
clones_pass test C R k r [] (y ∷ ys) a h = absurd a
clones_pass test C R k r (x ∷ xs) [] a h = absurd a
clones_pass test C R k r (x ∷ xs) (y ∷ ys) a h =
    let q = and_parts _ _ h in
    and_from _ _ (k x.0.value y.0.value (r x y a.0) q.0) (clones_pass test C R k r xs ys a.1 q.1)

-- what sort and dedup leave
module _ {T : Type 0} (test : T → Bool) where
  pub permuted_passes : (xs ys : List T) → IsPermutation xs ys → list_all test xs ≡ true → list_all test ys ≡ true
  permuted_passes xs ys e h = list_all-from_AllPass test ys (All-permutation (λ x. test x ≡ true) xs ys e (AllPass-from_list_all test xs h))

  from_passes : (eq : T → T → Bool) (k : T) (xs : List T) → test k ≡ true → list_all test xs ≡ true → list_all test (dedup_from eq k xs) ≡ true
  from_passes eq k [] e h = and_from _ _ e refl
  from_passes eq k (x ∷ xs) e h =
      let q = and_parts _ _ h in
      by_flag (eq x k) (from_passes eq k xs e q.1) (from_passes eq x xs q.0 q.1)
    where
      by_flag : (b : Bool) → list_all test (dedup_from eq k xs) ≡ true → list_all test (dedup_from eq x xs) ≡ true → list_all test (cond b (dedup_from eq k xs) (k ∷ dedup_from eq x xs)) ≡ true
      by_flag true m n = m
      by_flag false m n = and_from _ _ e n

  pub dedup_passes : (eq : T → T → Bool) (xs : List T) → list_all test xs ≡ true → list_all test (dedup eq xs) ≡ true
  dedup_passes eq xs h1 = grind (arith, and_parts, from_passes)

  -- the bounds at a cut
  lower_passes : (c : Cut T) → test c.value ≡ true → passes_at test (lower_of c) ≡ true
  lower_passes c h1 = grind arith

  upper_passes : (c : Cut T) → test c.value ≡ true → passes_at test (upper_of c) ≡ true
  upper_passes c h1 = grind arith

  -- the bounds of the intervals
  pub held_passes : (low : Bound T) (v : Bool) (xs : List (Cut T × Bool)) → passes_at test low ≡ true → list_all (λ s. test s.0.value) xs ≡ true →
      list_all (passes_at_both test) (intervals_among (parts_from low v xs)) ≡ true
  held_passes low true [] e h = and_from _ _ (and_from _ _ e refl) refl
  held_passes low false [] e h = refl
  held_passes low true (x ∷ xs) e h =
      let q = and_parts _ _ h in
      and_from _ _ (and_from _ _ e (upper_passes x.0 q.0)) (held_passes (lower_of x.0) x.1 xs (lower_passes x.0 q.0) q.1)
  held_passes low false (x ∷ xs) e h = let q = and_parts _ _ h in held_passes (lower_of x.0) x.1 xs (lower_passes x.0 q.0) q.1
