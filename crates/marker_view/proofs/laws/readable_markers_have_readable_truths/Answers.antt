use Rattle.marker_view.proofs.MarkerFormulas.{readable_means}
use Rattle.marker_view.proofs.laws.readable_markers_have_readable_truths.Goals as goal

pub returns : goal.returns
returns d = λ c store t held readable. readable_means c.nodes store t.id held (λ s n sub node. readable (record { id = s }) n sub node)
