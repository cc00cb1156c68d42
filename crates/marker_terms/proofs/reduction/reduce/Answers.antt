use Rattle.std.proofs.Common.{◌≡◌, length, map, ap, ◌∙◌, arith}
use Rattle.std.specs.Prelude.{Vec}
use Rattle.std.proofs.lemmas.Result.{IfOk-weaker}
use Rattle.std.proofs.lemmas.List.{length-map}
use Rattle.marker_parts.specs.declared.expression.MarkerExpression.{MarkerExpression}
use Rattle.marker_terms.specs.Clauses.{clauses_of}
use Rattle.marker_terms.specs.Numbered.{left_of}
use Rattle.marker_terms.specs.Numbering.{expression_of}
use Rattle.marker_terms.proofs.NumberLaws.{few_stay, reduction_means}
use Rattle.marker_terms.proofs.reduction.reduce.Goals as goal

pub returns-then-len-lt2-clause-reduced : goal.returns-then-len-lt2-clause-reduced
returns-then-len-lt2-clause-reduced c =
    let n : length (clauses_of c.args.clauses.items) ≡ length c.args.clauses.items = length-map c.args.clauses.items (λ (x : Vec MarkerExpression _). x.items) in
    few_stay (clauses_of c.args.clauses.items) (omega (arith, n, c.args.clauses.ok.0, c.len.ensures, c.if-len-lt2.true))

pub returns-clause-means : goal.returns-clause-means
returns-clause-means c = IfOk-weaker c.clauses_left.result _ _ (λ left e. reduction_means (clauses_of left.items) (clauses_of c.args.clauses.items) (record {
  numbered = left_of c.in_ok-numbered.numbered.items;
  numbering = c.in_ok-numbered.ensures;
  left = e ∙ ap (map (map expression_of)) c.in_ok-reduce_listed.ensures;
})) c.clauses_left.ensures
