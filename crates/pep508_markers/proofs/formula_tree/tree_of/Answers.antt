use Rattle.std.proofs.Common.{◌≡◌, ap, arith}
use Rattle.marker_graph.proofs.KeptLaws.{kept_same}
use Rattle.pep508_markers.proofs.formula_tree.tree_of.Goals as goal

pub returns-in-Err-clause-released : goal.returns-in-Err-clause-released
returns-in-Err-clause-released c = c.release.ensures.undone c.args.interner.now c.mark-mark.ensures c.join_tokens.ensures.kept.kept

pub returns-in-Err-clause-kept : goal.returns-in-Err-clause-kept
returns-in-Err-clause-kept c =
    let grown = c.join_tokens.ensures.kept in
    let same : c.release.new.self.expansions ≡ c.join_tokens.new.interner.expansions = ap (λ x. x.expansions) c.release.ensures.released in
    record { kept = kept_same c.args.interner.now c.release.new.self (c.release.ensures.undone c.args.interner.now c.mark-mark.ensures grown.kept); counts = omega (arith, same, grown.counts) }
