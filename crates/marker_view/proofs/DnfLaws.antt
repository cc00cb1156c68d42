-- The clauses of a marker.
use Rattle.std.proofs.Common.{◌≡◌, ◌≢◌, ◌≤◌, true, false, List, [], ◌∷◌, length, sym, ap, ◌∙◌, arith}
use Rattle.std.specs.List.{AllByRecursion}
use Rattle.std.proofs.lemmas.Bool.{or_left, or_right}
use Rattle.marker_environment.specs.Valuation.{Valuation}
use Rattle.marker_parts.specs.declared.expression.MarkerExpression.{MarkerExpression}
use Rattle.marker_terms.specs.Clauses.{clauses_hold}
use Rattle.marker_terms.specs.Plain.{ArePrintable, HavePrintableTerms, IsPrintableClause}
use Rattle.marker_terms.specs.Numbering.{IsReductionOf}
use Rattle.marker_nodes.specs.Node.{Node}
use Rattle.marker_graph.specs.Contents.{Contents, IsHeld, truth}
use Rattle.marker_graph.specs.declared.tree.MarkerTree.{MarkerTree}
use Rattle.marker_graph.specs.declared.tree.TheConstants.MarkerTree.{TRUE, FALSE}
use Rattle.marker_view.specs.Branch.{HasReleases, IsReleaseNode}
use Rattle.marker_view.specs.PlainNodes.{IsPlainNode, IsReadable}
use Rattle.marker_view.specs.Dnf.{AreClausesOf, ArePathsOf}
use Rattle.marker_view.proofs.BranchLaws.{false_means}

module _ (c : Contents) (t : MarkerTree) (clauses : List (List MarkerExpression)) where
  pub of_true : clauses ≡ [] → t ≡ TRUE → AreClausesOf c t clauses
  of_true n e = record { reduced = λ ne nf. absurd (ne e); mean = λ r ne v. absurd (ne e); constants = λ k. n; printable = λ r ne nf. absurd (ne e) }

  pub of_false : clauses ≡ [] → t ≡ FALSE → AreClausesOf c t clauses
  of_false n e = record { reduced = λ ne nf. absurd (nf e); mean = λ r ne v. ap (λ cs. clauses_hold cs v) n ∙ sym (false_means c t e v); constants = λ k. n; printable = λ r ne nf. absurd (nf e) }

  pub of_paths : t ≢ TRUE → t ≢ FALSE → (paths : List (List MarkerExpression)) × ArePathsOf c t paths × IsReductionOf clauses paths → (HasReleases c t → (v : Valuation) → clauses_hold clauses v ≡ truth c t v) → (IsReadable c t → ArePrintable clauses) → AreClausesOf c t clauses
  of_paths h1 h2 h3 h4 h5 = grind arith

-- ---- clauses of a readable marker

plain_releases : (n : Node) → IsPlainNode n → IsReleaseNode n
plain_releases n h1 = grind arith

pub readable_releases : (c : Contents) (t : MarkerTree) → IsReadable c t → HasReleases c t
readable_releases c t r s n sub node = plain_releases n (r s n sub node)

-- if a disjunction of printable terms is not true everywhere, each of its clauses has a term
each_some : (clauses : List (List MarkerExpression)) → HavePrintableTerms clauses → ¬ ((v : Valuation) → clauses_hold clauses v ≡ true) → AllByRecursion IsPrintableClause clauses
each_some [] h n = tt
each_some (c ∷ clauses) h n = grind (arith, or_left, or_right, each_some clauses h.1)

module _ (c : Contents) (t : MarkerTree) (held : IsHeld c t) (same : (a b : MarkerTree) → IsHeld c a → IsHeld c b → ((v : Valuation) → truth c a v ≡ truth c b v) → a ≡ b)
    (truths : (v : Valuation) → truth c TRUE v ≡ true) (falsehoods : (v : Valuation) → truth c FALSE v ≡ false) where
  held_true : IsHeld c TRUE
  held_true = let h : 0 ≤ length c.nodes = omega arith in h

  held_false : IsHeld c FALSE
  held_false = let h : 0 ≤ length c.nodes = omega arith in h

  -- there is a clause, since the marker is not `FALSE`, and each has a term, since it is not `TRUE`
  pub all_printable : (clauses : List (List MarkerExpression)) → t ≢ TRUE → t ≢ FALSE → ((v : Valuation) → clauses_hold clauses v ≡ truth c t v) → HavePrintableTerms clauses → ArePrintable clauses
  all_printable clauses ne nf mean h = record {
    some = λ e. nf (same t FALSE held held_false (λ v. sym (mean v) ∙ ap (λ x. clauses_hold x v) e ∙ sym (falsehoods v)));
    each = each_some clauses h (λ k. ne (same t TRUE held held_true (λ v. sym (mean v) ∙ k v ∙ sym (truths v))));
  }
