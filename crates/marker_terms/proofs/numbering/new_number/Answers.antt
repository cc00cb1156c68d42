use Rattle.std.proofs.Common.{sym, ap, ◌∙◌}
use Rattle.marker_parts.specs.Expression.{holds}
use Rattle.marker_terms.proofs.NumberLaws.{new_numbered}
use Rattle.marker_terms.proofs.numbering.new_number.Goals as goal

pub returns-clause-numbered : goal.returns-clause-numbered
returns-clause-numbered c =
    new_numbered c.args.numbering.now.names.items c.push_large.new.list.items c.len-pair.result c.args.term.now c.in_ok-name.name (c.len-pair.ensures ∙ c.args.numbering.now.names.ok.0) c.in_ok-push_large.ensures.items (λ v. ap (λ t. holds t v) (sym c.in_ok-name.ensures.cases))
