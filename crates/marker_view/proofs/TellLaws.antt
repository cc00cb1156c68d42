-- The text of a marker.
use Rattle.std.proofs.Common.{◌≡◌, ◌≢◌, ℕ, true, false, List, None, codes, sym, ap, ◌∙◌, subst, arith}
use Rattle.marker_environment.specs.Valuation.{Valuation}
use Rattle.marker_diagrams.specs.Diagram.{IsStore}
use Rattle.marker_nodes.specs.Node.{markers}
use Rattle.marker_graph.specs.declared.tree.MarkerTree.{MarkerTree}
use Rattle.marker_graph.specs.declared.tree.TheConstants.MarkerTree.{TRUE, FALSE}
use Rattle.marker_graph.specs.Contents.{Contents, IsHeld, truth}
use Rattle.marker_graph.specs.Tree.{negation}
use Rattle.marker_graph.proofs.CountLaws.{negated_twice}
use Rattle.marker_parts.specs.declared.expression.MarkerExpression.{MarkerExpression}
use Rattle.marker_terms.specs.Plain.{ArePrintable}
use Rattle.marker_view.specs.Dnf.{AreClausesOf}
use Rattle.marker_grammar.specs.Meaning as printed
use Rattle.marker_grammar.specs.Text.{clauses_text}
use Rattle.marker_view.specs.Readable.{HasReleases, IsReadable, IsReadableTruth}
use Rattle.marker_view.specs.Text.{IsTextOf, ReadsBack, TellsText}

module _ (c : Contents) (store : IsStore markers c.nodes) (t : MarkerTree) (held : IsHeld c t) where
  -- `TRUE` has no text
  pub true_has_no_text : ((v : Valuation) → truth c TRUE v ≡ true) → t ≡ TRUE → TellsText (truth c t) None
  true_has_no_text all e v = subst (λ (u : MarkerTree). truth c u v ≡ true) (sym e) (all v)

  -- a marker other than `FALSE` is true somewhere
  module _ (satisfied : (u : MarkerTree) → IsHeld c u → u ≢ FALSE → (v : Valuation) × (truth c u v ≡ true)) where
    undone : negation t ≡ FALSE → t ≡ TRUE
    undone e = sym (negated_twice t) ∙ ap negation e

    -- and one other than `TRUE` is false somewhere
    is_false_where : (v : Valuation) → truth c (negation t) v ≡ true → truth c t v ≡ false
    is_false_where v h1 = grind arith

    pub somewhere_false : t ≢ TRUE → (v : Valuation) × (truth c t v ≡ false)
    somewhere_false other = let s = satisfied (negation t) held (λ e. other (undone e)) in (s.0, is_false_where s.0 s.1)

    -- the text of `FALSE`
    pub falsehood_is_told : ((v : Valuation) → truth c FALSE v ≡ false) → t ≡ FALSE → (text : List ℕ) → text ≡ codes "python_version < '0'" → IsTextOf (truth c t) text
    falsehood_is_told h1 h2 text h3 = grind (arith, somewhere_false)

    -- the text of any other marker is that of its clauses, which parses back if they can be printed
    module _ (not_true : t ≢ TRUE) (not_false : t ≢ FALSE) (clauses : List (List MarkerExpression)) (are : AreClausesOf c t clauses)
        (reads : ArePrintable clauses → printed.IsReadAs clauses (clauses_text clauses)) (is_readable : IsReadableTruth (truth c t) → IsReadable c t)
        (releases : IsReadableTruth (truth c t) → HasReleases c t) where
      reads_back : (text : List ℕ) → text ≡ clauses_text clauses → IsReadableTruth (truth c t) → ReadsBack (truth c t) text
      reads_back text h1 h2 = grind arith

      pub other_is_told : (text : List ℕ) → text ≡ clauses_text clauses → IsTextOf (truth c t) text
      other_is_told text is = record {
        somewhere_false = somewhere_false not_true;
        falsehood = λ nowhere. let s = satisfied t held not_false in let two : true ≡ false = sym s.1 ∙ nowhere s.0 in absurd cc;
        read_back = λ v so r. reads_back text is r;
      }
