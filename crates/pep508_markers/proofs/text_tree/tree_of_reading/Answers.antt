use Rattle.std.proofs.Common.{◌≡◌, ◌∙◌, ap, sym, subst, arith}
use Rattle.std.proofs.lemmas.Bool.{eqb-true}
use Rattle.marker_graph.specs.Contents.{Contents, IsKept}
use Rattle.marker_graph.proofs.KeptLaws.{kept_same}
use Rattle.marker_grammar.specs.Flat.{formula_of}
use Rattle.pep508_markers.specs.Text.{HoldsTreeOf}
use Rattle.pep508_markers.proofs.TextLaws.{marker_of_text, tree_of_text}
use Rattle.pep508_markers.proofs.text_tree.tree_of_reading.Goals as goal

pub returns-then-not-is_empty-clause-means : goal.returns-then-not-is_empty-clause-means
returns-then-not-is_empty-clause-means c = record { held = c.in_ok-tree.ensures.held; means = tree_of_text c.tree_of.new.interner c.args.text.now c.in_ok-tree.tree (formula_of c.args.reading.formula) c.args.reading.kinds.items c.requires c.in_ok-tree.ensures.no_overflow c.in_ok-tree.ensures.means }

pub remember_text-requires : goal.remember_text-requires
remember_text-requires c =
    marker_of_text c.tree_of.new.interner c.args.text.now c.in_ok-tree.tree c.args.reading.kinds.items (sym c.args.reading.kinds.ok.0 ∙ eqb-true c.args.reading.kinds.len 0 (sym c.is_empty.ensures ∙ c.if-not-is_empty.false)) c.in_ok-tree.ensures.held
    (tree_of_text c.tree_of.new.interner c.args.text.now c.in_ok-tree.tree (formula_of c.args.reading.formula) c.args.reading.kinds.items c.requires c.in_ok-tree.ensures.no_overflow c.in_ok-tree.ensures.means)

pub returns-in-Ok-clause-means : goal.returns-in-Ok-clause-means
returns-in-Ok-clause-means c =
    subst (λ (x : Contents). HoldsTreeOf x c.args.text.now c.in_ok-tree.tree c.args.reading.kinds.items) (sym c.remember_text.ensures)
    (record { held = c.in_ok-tree.ensures.held; means = tree_of_text c.tree_of.new.interner c.args.text.now c.in_ok-tree.tree (formula_of c.args.reading.formula) c.args.reading.kinds.items c.requires c.in_ok-tree.ensures.no_overflow c.in_ok-tree.ensures.means })

pub returns-in-Err-clause-released : goal.returns-in-Err-clause-released
returns-in-Err-clause-released c = c.release.ensures.undone c.args.interner.now c.mark-mark.ensures (subst (IsKept c.args.interner.now) (sym c.remember_text.ensures) c.in_ok-tree.ensures.kept.kept)

pub returns-in-Err-clause-kept : goal.returns-in-Err-clause-kept
returns-in-Err-clause-kept c =
    let same : c.release.new.self.expansions ≡ c.remember_text.new.self.expansions = ap (λ x. x.expansions) c.release.ensures.released in
    let before : c.remember_text.new.self.expansions ≡ c.tree_of.new.interner.expansions = ap (λ x. x.expansions) c.remember_text.ensures in
    record {
      kept = kept_same c.args.interner.now c.release.new.self (c.release.ensures.undone c.args.interner.now c.mark-mark.ensures (subst (IsKept c.args.interner.now) (sym c.remember_text.ensures) c.in_ok-tree.ensures.kept.kept));
      counts = omega (arith, same, before, c.in_ok-tree.ensures.kept.counts);
    }
