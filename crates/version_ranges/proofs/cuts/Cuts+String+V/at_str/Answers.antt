use Rattle.std.proofs.Common.{◌≡◌, rules, refl, sym, not, None, string_bytes}
use Rattle.std.specs.Ordering.{nat_cmp}
use Rattle.std.specs.Cmp.Lexicographic.{slice_cmp, nat_list_cmp_total}
use Rattle.std.specs.String.{string_cmp, string_cmp_total}
use Rattle.std.proofs.lemmas.List.Sorted.{IsPartitionPoint-from_clause}
use Rattle.version_ranges.specs.Point.{at}
use Rattle.version_ranges.specs.Cut.{cut_cmp, stands_before}
use Rattle.version_ranges.proofs.PartLaws.{parted_piece, parted_by}
use Rattle.version_ranges.proofs.Elsewhere.{standing, at_names}
use Rattle.version_ranges.proofs.cuts.Cuts+String+V.at_str.Goals as goal

pub returns : goal.returns
returns g c =
    let text_cmp = slice_cmp nat_cmp in
    let q = at c.args.text.now in
    let t = stands_before string_bytes text_cmp q in
    let f = c.args.self.now in
    let up = (standing string_bytes string_cmp text_cmp string_cmp_total nat_list_cmp_total (λ x y. refl) q).upward in
    let point = IsPartitionPoint-from_clause (λ y. not (t y.0)) _ _ c.partition_point-passed.ensures.partitioned (rw c.deref.ensures.value (parted_by (cut_cmp string_cmp) t up None f.rest.items f.ascending)) (λ a r q k. search rules) in
    at_names string_bytes string_cmp text_cmp string_cmp_total nat_list_cmp_total (λ x y. refl) f f f (λ v i w j u k. i ≡ c.partition_point-passed.result → c.piece_value.result.now ≡ v)
    (λ p e. sym (c.piece_value.ensures p e)) q (parted_piece t _ _ _ c.deref.ensures.value c.partition_point-passed.ensures.bound point)
