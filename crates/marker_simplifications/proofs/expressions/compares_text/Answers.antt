use Rattle.std.proofs.Common.{string_bytes, subst, sym}
use Rattle.marker_parts.specs.Expression.{holds_text}
use Rattle.marker_simplifications.specs.Expression.{IsTruthOf}
use Rattle.marker_simplifications.proofs.TruthLaws.{compared_truth, differing_truth, order_holds, order_is_valid}
use Rattle.marker_simplifications.proofs.expressions.compares_text.Goals as goal

pub returns-in_ok-asks_text-in-Equal : goal.returns-in_ok-asks_text-in-Equal
returns-in_ok-asks_text-in-Equal c = record {
  kept = c.in_ok-asks_text-in-Equal.ensures.kept;
  rules = c.in_ok-asks_text-in-Equal.ensures.rules;
  asks = compared_truth c.asks_text.new.nodes c.in_ok-asks_text-in-Equal.field-0 c.args.operator c.args.key c.variable-variable.result c.args.value c.in_ok-range-in-Equal.range.cuts c.variable-variable.ensures
      c.in_ok-range-in-Equal.ensures c.in_ok-asks_text-in-Equal.ensures.asks (order_holds c.args.operator c.in-Equal.is c.args.key (string_bytes c.args.value));
  not_invalid = order_is_valid c.args.operator c.in-Equal.is c.args.key (string_bytes c.args.value);
  err = tt;
}

pub returns-in_ok-asks_text-in-NotEqual-clause-asks : goal.returns-in_ok-asks_text-in-NotEqual-clause-asks
returns-in_ok-asks_text-in-NotEqual-clause-asks c =
    subst (IsTruthOf c.asks_text-in-NotEqual.new.nodes (holds_text c.args.operator c.args.key (string_bytes c.args.value))) (sym c.not.ensures)
    (differing_truth c.asks_text-in-NotEqual.new.nodes c.in_ok-asks_text-in-NotEqual.field-0 c.args.operator c.args.key c.variable-variable.result c.args.value c.in_ok-range-in-NotEqual.range.cuts c.in-NotEqual.is c.variable-variable.ensures
    c.in_ok-range-in-NotEqual.ensures c.in_ok-asks_text-in-NotEqual.ensures.asks)
