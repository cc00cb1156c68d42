use Rattle.std.proofs.Common.{rules, sym, not, None}
use Rattle.std.proofs.lemmas.List.Sorted.{IsPartitionPoint-from_clause}
use Rattle.version_ranges.specs.Point.{at}
use Rattle.version_ranges.specs.Cut.{cut_cmp, stands_before}
use Rattle.version_ranges.proofs.PartLaws.{parted_piece, parted_by, before_later}
use Rattle.version_ranges.proofs.cuts.Cuts.at.Goals as goal

pub returns : goal.returns
returns g c =
    let t = stands_before (λ v. v) g.T.Ord.cmp (at c.args.value.now) in
    let f = c.args.self.now in
    let point = IsPartitionPoint-from_clause (λ y. not (t y.0)) _ _ c.partition_point-passed.ensures.partitioned
    (rw c.deref.ensures.value (parted_by (cut_cmp g.T.Ord.cmp) t (before_later g.T.Ord.cmp g.met.T.Ord.total (at c.args.value.now)) None f.rest.items f.ascending)) (λ a r q k. search rules) in
    sym (c.piece_value.ensures (at c.args.value.now) (parted_piece t _ _ _ c.deref.ensures.value c.partition_point-passed.ensures.bound point))
