use Rattle.marker_parts.proofs.WholeLaws.{refused_text}
use Rattle.marker_parts.proofs.expression.MarkerExpression.parse.Goals as goal

pub returns-clause-refused : goal.returns-clause-refused
returns-clause-refused g c = refused_text _ _ _ c.in-Err.ensures.refused c.refusal.ensures
