use Rattle.std.proofs.Common.{◌≡◌, ◌&&◌, ◌||◌, ap, subst, sym, ◌∙◌}
use Rattle.std.proofs.lemmas.Bool.{both_ways}
use Rattle.marker_environment.specs.Valuation.{Valuation}
use Rattle.marker_terms.specs.Clauses.{clause_holds, clauses_hold, clauses_of}
use Rattle.marker_terms.specs.Plain.{AllPrintable, HavePrintableTerms, IsPrintable}
use Rattle.marker_terms.proofs.NumberLaws.{reduction_keeps}
use Rattle.marker_nodes.proofs.Firsts.{false_is, true_is}
use Rattle.marker_graph.specs.Contents.{truth}
use Rattle.marker_graph.proofs.TreeLaws.{same_tree}
use Rattle.marker_view.specs.Branch.{HasReleases}
use Rattle.marker_view.specs.PlainNodes.{IsReadable}
use Rattle.marker_view.proofs.DnfLaws.{all_printable, of_false, of_paths, of_true, readable_releases}
use Rattle.marker_view.proofs.dnf.to_dnf.Goals as goal

pub returns-then-is_true : goal.returns-then-is_true
returns-then-is_true c = of_true c.args.interner.now c.args.tree (clauses_of c.new.result.items) (ap (λ xs. clauses_of xs) c.new.ensures.items) (c.is_true.ensures.0 c.if-is_true.true)

pub returns-then-is_false : goal.returns-then-is_false
returns-then-is_false c =
    of_false c.args.interner.now c.args.tree (clauses_of c.new-then-is_false.result.items) (ap (λ xs. clauses_of xs) c.new-then-is_false.ensures.items) (c.is_false.ensures.0 c.if-is_false.true)

pub returns : goal.returns
returns c =
    of_paths c.args.interner.now c.args.tree (clauses_of c.in_ok-left.left.items) (λ e. both_ways _ c.if-is_true.false (c.is_true.ensures.1 e)) (λ e. both_ways _ c.if-is_false.false (c.is_false.ensures.1 e))
    (clauses_of c.collect.new.clauses.items, record { mean = paths_mean; printable = paths_printable }, c.in_ok-left.ensures.reduced)
    mean
    (λ r. all_printable c.args.interner.now c.args.tree c.requires (same_tree c.args.interner.now c.keeps_the_rules.ensures.nodes)
    (λ v. true_is c.args.interner.now.nodes v) (λ v. false_is c.args.interner.now.nodes v)
    (clauses_of c.in_ok-left.left.items) (λ e. both_ways _ c.if-is_true.false (c.is_true.ensures.1 e)) (λ e. both_ways _ c.if-is_false.false (c.is_false.ensures.1 e)) (mean (readable_releases c.args.interner.now c.args.tree r))
    (reduction_keeps IsPrintable (clauses_of c.in_ok-left.left.items) (clauses_of c.collect.new.clauses.items) c.in_ok-left.ensures.reduced (paths_printable r)))
  where
    paths_printable : IsReadable c.args.interner.now c.args.tree → HavePrintableTerms (clauses_of c.collect.new.clauses.items)
    paths_printable r = c.in_ok-collect.ensures.printable r (subst AllPrintable (sym c.new-path.ensures.items) tt) (subst (λ xs. HavePrintableTerms (clauses_of xs)) (sym c.new-clauses.ensures.items) tt)

    paths_mean : HasReleases c.args.interner.now c.args.tree → (v : Valuation) → clauses_hold (clauses_of c.collect.new.clauses.items) v ≡ truth c.args.interner.now c.args.tree v
    paths_mean h v = c.in_ok-collect.ensures.means h v ∙ ap (λ ps. clauses_hold (clauses_of c.new-clauses.result.items) v || (clause_holds ps v && truth c.args.interner.now c.args.tree v)) c.new-path.ensures.items ∙ ap (λ xs. clauses_hold (clauses_of xs) v || truth c.args.interner.now c.args.tree v) c.new-clauses.ensures.items

    mean : HasReleases c.args.interner.now c.args.tree → (v : Valuation) → clauses_hold (clauses_of c.in_ok-left.left.items) v ≡ truth c.args.interner.now c.args.tree v
    mean h v = c.in_ok-left.ensures.means v ∙ paths_mean h v
