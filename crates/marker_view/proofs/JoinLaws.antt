-- The values of a function, each with the set of the points that have it, as the children of a node.
use Rattle.std.proofs.Common.{◌≡◌, ◌⊎◌, inl, inr, ℕ, zero, suc, ◌+◌, ◌<◌, Bool, true, false, not, cond, ◌&&◌, ◌||◌, List, [], ◌∷◌, ◌++◌, filter, length, get_or, map, take, Some, None, string_bytes, refl, sym, ap, ◌∙◌, arith}
use Rattle.std.specs.Prelude.{slice_get, String}
use Rattle.std.specs.Borrow.{Bor}
use Rattle.std.specs.Global.{Global}
use Rattle.std.specs.List.{list_any, Any}
use Rattle.std.specs.Option.{option_map}
use Rattle.std.specs.String.{string_cmp, string_cmp_total}
use Rattle.std.specs.Cmp.Lexicographic.{nat_list_cmp_total}
use Rattle.std.proofs.lemmas.Bool.{and_parts, and_from}
use Rattle.std.proofs.lemmas.List.Folds.{Any-from_list_any, list_any-append, list_any_at, list_any_more}
use Rattle.std.proofs.lemmas.Option.{get_or_from_slice_get, slice_get-get_or, slice_get-map, slice_get_within}
use Rattle.version_ranges.specs.declared.cuts.Cuts.{Cuts}
use Rattle.version_ranges.specs.declared.ranges.Ranges.{Ranges}
use Rattle.version_ranges.specs.Cuts.{value_by}
use Rattle.version_ranges.specs.Gather.{first_seen, IsGathered}
use Rattle.version_ranges.specs.Parts.{Part, parts_of}
use Rattle.version_ranges.specs.Point.{Point}
use Rattle.version_ranges.specs.Ranges.{contains_by}
use Rattle.version_ranges.proofs.Elsewhere.{at_names}
use Rattle.marker_words.specs.Compare.{text_cmp}
use Rattle.marker_diagrams.proofs.IdLaws.{same_id_is}
use Rattle.marker_diagrams.proofs.NodeLaws.{same_some, none_some}
use Rattle.marker_diagrams.specs.Id.{same_id}
use Rattle.marker_diagrams.specs.declared.node_id.NodeId.{NodeId}

pub iff_same : (a b : Bool) → (a ≡ true → b ≡ true) → (b ≡ true → a ≡ true) → a ≡ b
iff_same a b h1 h2 = grind arith

-- ---- the values that stand in a list stand in the list where they were seen

filter_in : {V : Type 0} (f : V → Bool) (vs : List V) (i : ℕ) (w : V) → slice_get (filter f vs) i ≡ Some w → (k : ℕ) × (slice_get vs k ≡ Some w)
filter_in f [] i w e = none_some w e
filter_in {V} f (v ∷ vs) i w e = by_test (λ i e. filter_in f vs i w e) (f v) refl
  where
    later : ((i : ℕ) → slice_get (filter f vs) i ≡ Some w → (k : ℕ) × (slice_get vs k ≡ Some w)) → (i : ℕ) → slice_get (filter f vs) i ≡ Some w → (k : ℕ) × (slice_get (v ∷ vs) k ≡ Some w)
    later r i e = let q = r i e in (suc q.0, q.1)

    kept : ((i : ℕ) → slice_get (filter f vs) i ≡ Some w → (k : ℕ) × (slice_get vs k ≡ Some w)) → (i : ℕ) → slice_get (v ∷ filter f vs) i ≡ Some w → (k : ℕ) × (slice_get (v ∷ vs) k ≡ Some w)
    kept r zero e = (0, e)
    kept r (suc i) e = later r i e

    by_test : ((i : ℕ) → slice_get (filter f vs) i ≡ Some w → (k : ℕ) × (slice_get vs k ≡ Some w)) → (b : Bool) → f v ≡ b → (k : ℕ) × (slice_get (v ∷ vs) k ≡ Some w)
    by_test r true g = kept r i (ap (λ b. slice_get (cond b (v ∷ filter f vs) (filter f vs)) i) (sym g) ∙ e)
    by_test r false g = later r i (ap (λ b. slice_get (cond b (v ∷ filter f vs) (filter f vs)) i) (sym g) ∙ e)

seen_in : {V : Type 0} (same : V → V → Bool) (vs : List V) (i : ℕ) (w : V) → slice_get (first_seen same vs) i ≡ Some w → (k : ℕ) × (slice_get vs k ≡ Some w)
seen_in same [] i w e = none_some w e
seen_in same (v ∷ vs) zero w e = (0, e)
seen_in same (v ∷ vs) (suc i) w e =
    let q = filter_in (λ x. not (same v x)) (first_seen same vs) i w e in
    let r = seen_in same vs q.0 w q.1 in
    (suc r.0, r.1)

module _ {T : Type 0} {a : _} {b : _} {c : _} {a' : _} {b' : _} {c' : _} (cmp : _) (cuts : Cuts T NodeId a b c) (pairs : List (Bor NodeId × Ranges T a' b' c')) (h : IsGathered cmp same_id cuts pairs) where
  -- each value that is gathered is that of a piece
  pub gathered_part : (i : ℕ) (q : Bor NodeId × Ranges T a' b' c') → slice_get pairs i ≡ Some q → (k : ℕ) × (part : Part T NodeId) × (slice_get (parts_of cuts) k ≡ Some part) × (part.value ≡ q.0.now)
  gathered_part i q e =
      let f : slice_get (map (λ (q : Bor NodeId × Ranges T a' b' c'). q.0.now) pairs) i ≡ Some q.0.now = slice_get-map (λ (q : Bor NodeId × Ranges T a' b' c'). q.0.now) pairs i ∙ ap (option_map (λ (q : Bor NodeId × Ranges T a' b' c'). q.0.now)) e in
      let r = seen_in same_id (map (λ (p : Part T NodeId). p.value) (parts_of cuts)) i q.0.now (ap (λ xs. slice_get xs i) (sym h.values) ∙ f) in
      by_part r.0 (slice_get (parts_of cuts) r.0) refl (sym (slice_get-map (λ (p : Part T NodeId). p.value) (parts_of cuts) r.0) ∙ r.1)
    where
      by_part : (k : ℕ) (o : _) → slice_get (parts_of cuts) k ≡ o → option_map (λ (p : Part T NodeId). p.value) (slice_get (parts_of cuts) k) ≡ Some q.0.now →
          (k : ℕ) × (part : Part T NodeId) × (slice_get (parts_of cuts) k ≡ Some part) × (part.value ≡ q.0.now)
      by_part k None g f = none_some q.0.now (sym (ap (option_map (λ (p : Part T NodeId). p.value)) g) ∙ f)
      by_part k (Some part) g f = (k, part, g, same_some part.value q.0.now (sym (ap (option_map (λ (p : Part T NodeId). p.value)) g) ∙ f))

-- ---- the pairs whose set has a point lead to the value there

module _ {Q : Type 0} (pairs : List Q) (inside : Q → Bool) (child : Q → NodeId) (value : NodeId) where
  pub joined_leads : ((i : ℕ) (q : Q) → slice_get pairs i ≡ Some q → inside q ≡ same_id (child q) value) → (i : ℕ) (q : Q) → slice_get pairs i ≡ Some q → same_id (child q) value ≡ true →
      (test : NodeId → Bool) → list_any (λ q. inside q && test (child q)) pairs ≡ test value
  joined_leads sets i q e s test = iff_same _ _ (λ g. by_any (Any-from_list_any (λ q. inside q && test (child q)) pairs g)) by_value
    where
      by_any : Any (λ q. (inside q && test (child q)) ≡ true) pairs → test value ≡ true
      by_any r =
          let m = and_parts _ _ r.4 in
          let k : slice_get pairs r.0 ≡ Some r.1 = slice_get-get_or pairs r.0 r.1 r.2 ∙ ap Some r.3 in
          ap test (sym (same_id_is (child r.1) value (sym (sets r.0 r.1 k) ∙ m.0))) ∙ m.1

      by_value : test value ≡ true → list_any (λ q. inside q && test (child q)) pairs ≡ true
      by_value g =
          list_any_at (λ q. inside q && test (child q)) pairs i q (slice_get_within pairs i q e)
          (ap (λ q. inside q && test (child q)) (get_or_from_slice_get pairs i q q e) ∙ and_from _ _ (sets i q e ∙ s) (ap test (same_id_is (child q) value s) ∙ g))

-- the sets of texts and the texts that they come from, at points that go by bytes
module _ {a : _} {b : _} {c : _} {a' : _} {b' : _} {c' : _} (cuts : Cuts (String Global) NodeId a b c) (pairs : List (Bor NodeId × Ranges (String Global) a' b' c')) (h : IsGathered string_cmp same_id cuts pairs) (p : Point (List ℕ)) where
  pub text_sets : (i : ℕ) (q : Bor NodeId × Ranges (String Global) a' b' c') → slice_get pairs i ≡ Some q → contains_by string_bytes text_cmp q.1 p ≡ same_id q.0.now (value_by string_bytes text_cmp cuts p)
  text_sets i q e =
      at_names string_bytes string_cmp text_cmp string_cmp_total nat_list_cmp_total (λ x y. refl) q.1.cuts cuts cuts (λ t k w j u l. t ≡ same_id q.0.now w) (h.sets i q e) p

  pub text_found : (i : ℕ) × (q : Bor NodeId × Ranges (String Global) a' b' c') × (slice_get pairs i ≡ Some q) × (same_id q.0.now (value_by string_bytes text_cmp cuts p) ≡ true)
  text_found =
      at_names string_bytes string_cmp text_cmp string_cmp_total nat_list_cmp_total (λ x y. refl) cuts cuts cuts
      (λ w k x j u l. (i : ℕ) × (q : Bor NodeId × Ranges (String Global) a' b' c') × (slice_get pairs i ≡ Some q) × (same_id q.0.now w ≡ true)) h.covers p

-- ---- lists that grow by one

pub get_last : {B : Type 0} (xs : List B) (b : B) (i : ℕ) (c : B) → slice_get (xs ++ (b ∷ [])) i ≡ Some c → (slice_get xs i ≡ Some c) ⊎ (b ≡ c)
get_last [] b zero c e = inr (same_some b c e)
get_last [] b (suc i) c e = none_some c e
get_last (x ∷ xs) b zero c e = inl e
get_last (x ∷ xs) b (suc i) c e = get_last xs b i c e

-- what reaches a child through the first places, and through one more
pub any_more : {B Q : Type 0} (p : B → Bool) (r : Q → Bool) (old new : List B) (b : B) (qs : List Q) (i : ℕ) (q : Q) → new ≡ old ++ (b ∷ []) → i < length qs → q ≡ get_or qs i q → p b ≡ r q →
    list_any p old ≡ list_any r (take i qs) → list_any p new ≡ list_any r (take (i + 1) qs)
any_more p r old new b qs i q h1 h2 h3 h4 h5 = grind (arith, list_any-append, take, list_any_more)

-- if nothing reaches through one more, none is needed
pub any_skipped : {Q : Type 0} (r : Q → Bool) (old : Bool) (qs : List Q) (i : ℕ) (q : Q) → i < length qs → q ≡ get_or qs i q → r q ≡ false → old ≡ list_any r (take i qs) → old ≡ list_any r (take (i + 1) qs)
any_skipped r old qs i q l is z h = h ∙ sym (list_any_more r qs i q l ∙ ap (λ x. list_any r (take i qs) || x) (ap r (sym is) ∙ z) ∙ or_end (list_any r (take i qs)))
  where
    or_end : (x : Bool) → (x || false) ≡ x
    or_end true = refl
    or_end false = refl
