use Rattle.std.proofs.Common.{rules}
use Rattle.std.proofs.Math.Dec.{ltb}
use Rattle.std.proofs.lemmas.Bool.{ltb-false, ltb-true}
use Rattle.std.proofs.lemmas.List.Sorted.{IsPartitionPoint-from_clause, IsPartitionedBy-ltb}
use Rattle.foreign_markers.specs.declared.markers.Growth.{Growth}
use Rattle.foreign_markers.proofs.markers.count_before.Goals as goal

pub returns-clause-parted : goal.returns-clause-parted
returns-clause-parted c =
    let n = c.args.number in
    let point = IsPartitionPoint-from_clause (λ (g : Growth). ltb g.number n) c.args.growths.now c.partition_point.result c.partition_point.ensures.partitioned
    (IsPartitionedBy-ltb (λ (g : Growth). g.number) c.args.growths.now n c.requires) (λ a r q k. search rules) in
    ((λ k d low high. ltb-true _ n (point.0 k d low high)), (λ k d low high. ltb-false _ n (point.1 k d low high)))
