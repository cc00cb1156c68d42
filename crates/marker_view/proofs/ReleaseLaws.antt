-- The bounds of versions in the residues of a plain formula are releases: at any other cut two neighboring children would mean the same.
use Rattle.std.proofs.Common.{◌≡◌, ◌≢◌, ◌+◌, Bool, true, false, Some, refl, sym, ◌∙◌}
use Rattle.std.proofs.lemmas.Cmp.{tied_itself}
use Rattle.version_ranges.specs.Bounds.{all_cuts}
use Rattle.version_ranges.specs.Cut.{cut_point}
use Rattle.version_ranges.specs.Point.{bottom}
use Rattle.pep440_version.specs.Order.{version_cmp}
use Rattle.pep440_version.specs.OrderLaws.{version_total}
use Rattle.pep440_rs.specs.Bounds.{is_release}
use Rattle.marker_environment.specs.Valuation.{Valuation}
use Rattle.marker_grammar.specs.Formula.{Formula, truth_of}
use Rattle.marker_diagrams.specs.Diagram.{IsStore, with_variable}
use Rattle.marker_diagrams.specs.Id.{is_negated, signed_id}
use Rattle.marker_diagrams.specs.Residue.{child}
use Rattle.marker_diagrams.proofs.Canonicity.{child_seen, one_truth}
use Rattle.marker_diagrams.proofs.IdLaws.{signed_id_back}
use Rattle.marker_nodes.specs.declared.node.Branches.TheVariants.{Version, Text, Truth}
use Rattle.marker_nodes.specs.Branches.{piece, value_at, variable}
use Rattle.marker_nodes.specs.Node.{Node, markers}
use Rattle.marker_nodes.specs.Variable.{Variable, of_version}
use Rattle.marker_nodes.proofs.NodeLaws.{lawful}
use Rattle.marker_nodes.proofs.VariableLaws.{variable_total}
use Rattle.marker_graph.specs.declared.tree.MarkerTree.{MarkerTree}
use Rattle.marker_graph.specs.Contents.{Contents, IsHeld, truth}
use Rattle.marker_graph.specs.Tree.{IsSubtree, IsResidue, node_of}
use Rattle.marker_view.specs.Readable.{AllPlain, IsReleaseNode}
use Rattle.marker_view.proofs.Ascents.{ascend}
use Rattle.marker_view.proofs.CutLaws.{Around, around}
use Rattle.std.proofs.Common.{string_bytes}
use Rattle.std.specs.String.{string_cmp}
use Rattle.std.specs.Cmp.Lexicographic.{nat_list_cmp_total}
use Rattle.marker_words.specs.Compare.{text_cmp}
use Rattle.marker_terms.specs.Plain.{is_plain}
use Rattle.marker_view.specs.Readable.{IsPlainNode}
use Rattle.marker_view.proofs.TextLaws.{text_ends, text_ties_with_none, all_texts, texts_alike}
use Rattle.marker_view.proofs.QuestionLaws.{depended_is_plain}
use Rattle.marker_nodes.specs.Variable.{of_text, truth_variable}
use Rattle.marker_graph.specs.Tree.{DependsOn}
use Rattle.marker_view.proofs.NodeLaws.{formula_ends, cut_ties_with_none, everywhere, formula_alike}

module _ (c : Contents) (store : IsStore markers c.nodes) (t s : MarkerTree) (kept : (u : MarkerTree) → IsSubtree c t u → IsHeld c u) (sub : IsSubtree c t s) (n : Node) (node : node_of c s ≡ Some n) where
  abbrev child_at : Valuation → MarkerTree
  child_at v = record { id = signed_id (is_negated s.id) (value_at n v) }

  child_held : (v : Valuation) → IsHeld c (child_at v)
  child_held v = kept (child_at v) (child s.id (child_at v).id n v sub node refl)

  -- if the marker means the same at two values of its variable, they lead to one child
  same_children : (v w : Valuation) → ((u : Valuation) → truth c s (with_variable markers (variable n) v u) ≡ truth c s (with_variable markers (variable n) w u)) → value_at n v ≡ value_at n w
  same_children v w h =
      let tied = tied_itself variable_total (variable n) in
      signed_id_back (is_negated s.id) (value_at n v) (value_at n w)
      (one_truth markers lawful c.nodes store (child_at v).id (child_at w).id (child_held v) (child_held w)
      (λ u. sym (child_seen markers lawful c.nodes store s.id n (variable n) v u node tied) ∙ h u ∙ child_seen markers lawful c.nodes store s.id n (variable n) w u node tied))

pub release_node : (c : Contents) (store : IsStore markers c.nodes) (t s : MarkerTree) → ((u : MarkerTree) → IsSubtree c t u → IsHeld c u) → IsSubtree c t s → (n : Node) → node_of c s ≡ Some n →
    (g : Formula) → AllPlain g → ((v : Valuation) → truth c t v ≡ truth_of g v) → (y : Variable) (held : Valuation) → IsResidue (truth c t) y held (truth c s) →
    ((v w : Valuation) → piece n w ≡ piece n v + 1 → value_at n v ≢ value_at n w) → IsReleaseNode n
release_node c store t s kept sub (Version x cuts) node g plain means y held residue differ = by_test (all_cuts is_release cuts) refl
  where
    never : Around version_total (cut_point (λ v. v)) (formula_ends g) bottom cuts.rest.items → ⊥
    never i =
        differ (everywhere i.before) (everywhere i.after) i.step
        (same_children c store t s kept sub (Version x cuts) node (everywhere i.before) (everywhere i.after)
        (λ u. residue _ ∙ means _ ∙ formula_alike i.before i.after (of_version x) y held u g i.alike ∙ sym (means _) ∙ sym (residue _)))

    by_test : (b : Bool) → all_cuts is_release cuts ≡ b → all_cuts is_release cuts ≡ true
    by_test true h = h
    by_test false h =
        absurd (never (around version_total (cut_point (λ v. v)) (formula_ends g) (λ d. is_release d.value) (cut_ties_with_none g plain) bottom cuts.rest.items
        (ascend (λ v. v) version_cmp version_cmp version_total (formula_ends g) (λ a b. refl) bottom cuts.rest.items cuts.ascending) h))
release_node c store t s kept sub (Text x cuts) node g plain means y held residue differ = tt
release_node c store t s kept sub (Truth x high low) node g plain means y held residue differ = tt

pub plain_node : (c : Contents) (store : IsStore markers c.nodes) (t s : MarkerTree) → ((u : MarkerTree) → IsSubtree c t u → IsHeld c u) → IsSubtree c t s → (n : Node) → node_of c s ≡ Some n →
    (g : Formula) → AllPlain g → ((v : Valuation) → truth c t v ≡ truth_of g v) → (y : Variable) (held : Valuation) → IsResidue (truth c t) y held (truth c s) →
    ((v w : Valuation) → piece n w ≡ piece n v + 1 → value_at n v ≢ value_at n w) → DependsOn (truth c s) (variable n) → IsPlainNode n
plain_node c store t s kept sub (Version x cuts) node g plain means y held residue differ depends = release_node c store t s kept sub (Version x cuts) node g plain means y held residue differ
plain_node c store t s kept sub (Truth x high low) node g plain means y held residue differ depends = depended_is_plain g plain (truth c t) (truth c s) means y held residue (truth_variable x) depends
plain_node c store t s kept sub (Text x cuts) node g plain means y held residue differ depends = by_test (all_cuts (λ d. is_plain (string_bytes d)) cuts) refl
  where
    never : Around nat_list_cmp_total (cut_point string_bytes) (text_ends g) bottom cuts.rest.items → ⊥
    never i =
        differ (all_texts i.before) (all_texts i.after) i.step
        (same_children c store t s kept sub (Text x cuts) node (all_texts i.before) (all_texts i.after)
        (λ u. residue _ ∙ means _ ∙ texts_alike i.before i.after (of_text x) y held u g i.alike ∙ sym (means _) ∙ sym (residue _)))

    by_test : (b : Bool) → all_cuts (λ d. is_plain (string_bytes d)) cuts ≡ b → all_cuts (λ d. is_plain (string_bytes d)) cuts ≡ true
    by_test true h = h
    by_test false h =
        absurd (never (around nat_list_cmp_total (cut_point string_bytes) (text_ends g) (λ d. is_plain (string_bytes d.value)) (text_ties_with_none g plain) bottom cuts.rest.items
        (ascend string_bytes string_cmp text_cmp nat_list_cmp_total (text_ends g) (λ a b. refl) bottom cuts.rest.items cuts.ascending) h))
