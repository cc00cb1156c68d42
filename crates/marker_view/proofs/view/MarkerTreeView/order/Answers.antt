use Rattle.std.proofs.Common.{◌≡◌, rules, sym, ◌∙◌}
use Rattle.marker_order.proofs.TruthLaws.{mean_tied, tied_mean}
use Rattle.marker_view.specs.View.{view_cmp}
use Rattle.marker_view.proofs.view.MarkerTreeView.order.Goals as goal

pub returns-clause-same : goal.returns-clause-same
returns-clause-same c = λ e.
    let o : c.diagram_order.result ≡ view_cmp c.args.self.now c.args.other.now = search rules in
    tied_mean c.args.self.now.interner.now.nodes c.args.other.now.interner.now.nodes c.table-table.ensures.rules c.table-other_table.ensures.rules c.args.self.now.tree.id c.args.other.now.tree.id
    c.args.self.now.held c.args.other.now.held (sym o ∙ e)

pub returns-clause-equal : goal.returns-clause-equal
returns-clause-equal c = λ same.
    let o : c.diagram_order.result ≡ view_cmp c.args.self.now c.args.other.now = search rules in
    o ∙ mean_tied c.args.self.now.interner.now.nodes c.args.other.now.interner.now.nodes c.table-table.ensures.rules c.table-other_table.ensures.rules c.args.self.now.tree.id c.args.other.now.tree.id
    c.args.self.now.held c.args.other.now.held same
