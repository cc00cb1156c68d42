use Rattle.std.proofs.Common.{◌≡◌, map}
use Rattle.pep440_version.specs.View.{segment_of}
use Rattle.pep440_version.proofs.Clones.{IfOk-from_match, map-clones}
use Rattle.pep440_version.proofs.local.clone_segments.Goals as goal

pub returns : goal.returns
returns c = IfOk-from_match _ _ (λ w. map segment_of w.items ≡ map segment_of c.args.segments.now.items)
    (λ w h. map-clones c.args.segments.now.items w.items h.0) c.clone.result c.clone.ensures.cases
