use Rattle.marker_parts.proofs.WholeLaws.{refused_text}
use Rattle.marker_parts.proofs.expression.MarkerExpression.parse_reporter.Goals as goal

pub returns-in-Err-clause-refused : goal.returns-in-Err-clause-refused
returns-in-Err-clause-refused g c = refused_text _ _ _ c.in-Err.ensures.refused c.refusal.ensures
