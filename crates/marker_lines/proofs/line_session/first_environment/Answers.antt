use Rattle.std.proofs.Common.{rules}
use Rattle.marker_lines.proofs.SessionLaws.{first_values}
use Rattle.marker_lines.proofs.line_session.first_environment.Goals as goal

pub returns-in-Ok : goal.returns-in-Ok
returns-in-Ok c = first_values _ (λ variable. search rules) (λ key. search rules)
