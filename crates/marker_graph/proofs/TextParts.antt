-- The pieces of a function of texts, with the bytes of the texts.
use Rattle.std.proofs.Common.{◌≡◌, ℕ, suc, ◌<◌, Bool, true, false, cond, List, [], ◌∷◌, map, ◌&&◌, length, string_bytes, vec_len, Some, None, refl, sym, ap, ◌∙◌, subst}
use Rattle.std.specs.Prelude.{slice_get, String}
use Rattle.std.specs.Global.{Global}
use Rattle.std.specs.Option.{option_map}
use Rattle.std.specs.Range.Bound.{bound_map}
use Rattle.std.specs.declared.cmp.Ordering.TheVariants.{Less}
use Rattle.std.specs.declared.ops.Bound.{Bound}
use Rattle.std.specs.declared.ops.Bound.TheVariants.{Included, Excluded, Unbounded}
use Rattle.std.specs.Cmp.Lexicographic.{nat_list_cmp_total}
use Rattle.std.specs.String.{string_cmp, string_cmp_total}
use Rattle.std.proofs.lemmas.Option.{slice_get-map}
use Rattle.version_ranges.specs.declared.cut.Cut.{Cut}
use Rattle.version_ranges.specs.declared.cuts.Cuts.{Cuts}
use Rattle.version_ranges.specs.Point.{Point, point_cmp, point_map}
use Rattle.version_ranges.specs.Cut.{cut_cmp, lower_of, upper_of, stands_before}
use Rattle.version_ranges.specs.Steps.{ascends, is_before, piece_at, value_at}
use Rattle.version_ranges.specs.Cuts.{piece_by, value_by}
use Rattle.version_ranges.specs.Parts.{Part, parts_from, parts_of, IsIn, ArePieces}
use Rattle.version_ranges.proofs.PartLaws.{are_pieces, between, bottom_from, part_apart, part_covers, parted_less}
use Rattle.version_ranges.proofs.Elsewhere.{piece_by_name}
use Rattle.marker_words.specs.Compare.{text_cmp}
use Rattle.marker_diagrams.proofs.NodeLaws.{same_some, none_some}
use Rattle.marker_graph.specs.Edges.{by_bytes}

-- These are the pieces of a function of points: each point lies in the one of its index, and in no other; each has a point;
-- and they ascend.
pub record ArePartsOf {T V : Type 0} (cmp : T → T → _) (piece : Point T → ℕ) (value : Point T → V) (parts : List (Part T V)) : Type 0 where
  pub covers : (p : Point T) → (part : Part T V) × (slice_get parts (piece p) ≡ Some part) × IsIn cmp part p × (part.value ≡ value p)
  pub apart : (i : ℕ) (part : Part T V) (p : Point T) → slice_get parts i ≡ Some part → IsIn cmp part p → piece p ≡ i
  pub nonempty : (i : ℕ) (part : Part T V) → slice_get parts i ≡ Some part → (p : Point T) × IsIn cmp part p
  pub ascending : (p q : Point T) → piece p < piece q → point_cmp cmp p q ≡ Less

-- a cut and its steps, with the bytes of texts
abbrev cut_bytes : Cut (String Global) → Cut (List ℕ)
cut_bytes c = record { value = string_bytes c.value; above = c.above }

same_lower : (c : Cut (String Global)) → bound_map string_bytes (lower_of c) ≡ lower_of (cut_bytes c)
same_lower c = by_test c.above
  where
    by_test : (b : Bool) → bound_map string_bytes (cond b (Excluded c.value) (Included c.value)) ≡ cond b (Excluded (string_bytes c.value)) (Included (string_bytes c.value))
    by_test true = refl
    by_test false = refl

same_upper : (c : Cut (String Global)) → bound_map string_bytes (upper_of c) ≡ upper_of (cut_bytes c)
same_upper c = by_test c.above
  where
    by_test : (b : Bool) → bound_map string_bytes (cond b (Included c.value) (Excluded c.value)) ≡ cond b (Included (string_bytes c.value)) (Excluded (string_bytes c.value))
    by_test true = refl
    by_test false = refl

module _ {V : Type 0} where
  abbrev step_bytes : Cut (String Global) × V → Cut (List ℕ) × V
  step_bytes s = (cut_bytes s.0, s.1)

  -- the parts of the steps with bytes are the parts with bytes
  same_parts : (low : Bound (String Global)) (v : V) (xs : List (Cut (String Global) × V)) → map (λ p. by_bytes p) (parts_from low v xs) ≡ parts_from (bound_map string_bytes low) v (map step_bytes xs)
  same_parts low v [] = refl
  same_parts low v (x ∷ xs) =
      ap (λ u. let p : Part (List ℕ) V = record { lower = bound_map string_bytes low; upper = u; value = v } in p ∷ map (λ p. by_bytes p) (parts_from (lower_of x.0) x.1 xs)) (same_upper x.0)
      ∙ ap (λ ps. let p : Part (List ℕ) V = record { lower = bound_map string_bytes low; upper = upper_of (cut_bytes x.0); value = v } in p ∷ ps)
      (same_parts (lower_of x.0) x.1 xs ∙ ap (λ l. parts_from l x.1 (map step_bytes xs)) (same_lower x.0))

  -- they ascend, and have the same pieces and values
  bytes_ascend : (low : Cut (String Global)) (xs : List (Cut (String Global) × V)) → ascends (cut_cmp string_cmp) (Some low) xs ≡ ascends (cut_cmp text_cmp) (Some (cut_bytes low)) (map step_bytes xs)
  bytes_ascend low [] = refl
  bytes_ascend low (x ∷ xs) = ap (λ b. is_before (cut_cmp string_cmp) (Some low) x.0 && b) (bytes_ascend x.0 xs)

  all_ascend : (xs : List (Cut (String Global) × V)) → ascends (cut_cmp string_cmp) None xs ≡ ascends (cut_cmp text_cmp) None (map step_bytes xs)
  all_ascend [] = refl
  all_ascend (x ∷ xs) = bytes_ascend x.0 xs

  same_piece : (q : Point (List ℕ)) (xs : List (Cut (String Global) × V)) → piece_at (stands_before (λ v. v) text_cmp q) (map step_bytes xs) ≡ piece_at (stands_before string_bytes text_cmp q) xs
  same_piece q [] = refl
  same_piece q (x ∷ xs) = ap (λ n. cond (stands_before string_bytes text_cmp q x.0) 0 (suc n)) (same_piece q xs)

  same_value : (q : Point (List ℕ)) (v : V) (xs : List (Cut (String Global) × V)) → value_at (stands_before (λ v. v) text_cmp q) v (map step_bytes xs) ≡ value_at (stands_before string_bytes text_cmp q) v xs
  same_value q v [] = refl
  same_value q v (x ∷ xs) = ap (λ w. cond (stands_before string_bytes text_cmp q x.0) v w) (same_value q x.1 xs)

  module _ {a : _} {b : _} {c : _} (cuts : Cuts (String Global) V a b c) (asc : ascends (cut_cmp string_cmp) None cuts.rest.items ≡ true) (len : vec_len cuts.rest ≡ length cuts.rest.items) where
    abbrev steps : List (Cut (List ℕ) × V)
    steps = map step_bytes cuts.rest.items

    parts : List (Part (List ℕ) V)
    parts = map (λ p. by_bytes p) (parts_of cuts)

    are_parts : parts ≡ parts_from Unbounded cuts.first steps
    unfolding parts
    are_parts = same_parts Unbounded cuts.first cuts.rest.items

    covered : (q : Point (List ℕ)) → (part : Part (List ℕ) V) × (slice_get parts (piece_by string_bytes text_cmp cuts q) ≡ Some part) × IsIn text_cmp part q × (part.value ≡ value_by string_bytes text_cmp cuts q)
    covered q =
        let h = part_covers text_cmp Unbounded cuts.first steps q (bottom_from text_cmp q) in
        (h.0, ap (λ ps. slice_get ps (piece_by string_bytes text_cmp cuts q)) are_parts ∙ ap (slice_get (parts_from Unbounded cuts.first steps)) (sym (same_piece q cuts.rest.items)) ∙ h.1, h.2, h.3 ∙ same_value q cuts.first cuts.rest.items)

    in_one : (i : ℕ) (part : Part (List ℕ) V) (q : Point (List ℕ)) → slice_get parts i ≡ Some part → IsIn text_cmp part q → piece_by string_bytes text_cmp cuts q ≡ i
    in_one i part q e h =
        sym (same_piece q cuts.rest.items)
        ∙ part_apart text_cmp nat_list_cmp_total None Unbounded cuts.first steps i part q (sym (all_ascend cuts.rest.items) ∙ asc) (ap (λ ps. slice_get ps i) (sym are_parts) ∙ e) h

    some_point : ArePieces string_cmp cuts (parts_of cuts) → (i : ℕ) (part : Part (List ℕ) V) → slice_get parts i ≡ Some part → (q : Point (List ℕ)) × IsIn text_cmp part q
    unfolding parts
    some_point pieces i part e = by_part (slice_get (parts_of cuts) i) refl
      where
        by_part : (o : _) → slice_get (parts_of cuts) i ≡ o → (q : Point (List ℕ)) × IsIn text_cmp part q
        by_part None f = none_some part (sym (slice_get-map (λ p. by_bytes p) (parts_of cuts) i ∙ ap (option_map (λ p. by_bytes p)) f) ∙ e)
        by_part (Some p) f =
            let r = pieces.nonempty i p f in
            let q = point_map string_bytes r.0 in
            let h = covered q in
            let k = piece_by_name string_bytes string_cmp text_cmp string_cmp_total nat_list_cmp_total (λ a b. refl) cuts r.0 ∙ pieces.apart i p r.0 f r.1 in
            (q, subst (λ z. IsIn text_cmp z q) (same_some h.0 part (sym h.1 ∙ ap (slice_get parts) k ∙ e)) h.2)

    ordered : (p q : Point (List ℕ)) → piece_by string_bytes text_cmp cuts p < piece_by string_bytes text_cmp cuts q → point_cmp text_cmp p q ≡ Less
    ordered p q h =
        let c = between (stands_before string_bytes text_cmp p) (stands_before string_bytes text_cmp q) cuts.rest.items h in
        parted_less text_cmp nat_list_cmp_total p q (cut_bytes c.0) c.1 c.2

    -- the pieces of a function of texts, with bytes
    pub text_parts : ArePartsOf text_cmp (piece_by string_bytes text_cmp cuts) (value_by string_bytes text_cmp cuts) (map (λ p. by_bytes p) (parts_of cuts))
    unfolding parts
    text_parts = record {
      covers = covered;
      apart = in_one;
      nonempty = some_point (are_pieces string_cmp string_cmp_total cuts asc len);
      ascending = ordered;
    }
