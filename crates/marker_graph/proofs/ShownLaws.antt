-- The subtrees of a marker are those that its kind shows.
use Rattle.std.proofs.Common.{◌≡◌, ◌⊎◌, inl, inr, Bool, true, false, cond, map, Some, refl, sym, ap, ◌∙◌, subst, arith, string_bytes}
use Rattle.std.specs.Prelude.{slice_get}
use Rattle.std.specs.Option.{option_map}
use Rattle.std.proofs.lemmas.Option.{slice_get-map}
use Rattle.version_ranges.specs.Cuts.{piece_by, piece_of}
use Rattle.version_ranges.specs.Parts.{parts_of}
use Rattle.version_ranges.proofs.PartLaws.{are_pieces}
use Rattle.pep440_version.specs.Order.{version_cmp}
use Rattle.pep440_version.specs.OrderLaws.{version_total}
use Rattle.marker_words.specs.Compare.{text_cmp}
use Rattle.marker_environment.specs.Valuation.{Valuation}
use Rattle.marker_diagrams.specs.declared.node_id.NodeId.{NodeId}
use Rattle.marker_diagrams.specs.Diagram.{IsStore}
use Rattle.marker_diagrams.specs.Residue as residue
use Rattle.marker_diagrams.proofs.ResidueLaws.{subtree_both}
use Rattle.marker_nodes.specs.declared.node.Branches.TheVariants.{Version, Text, Truth}
use Rattle.marker_nodes.specs.declared.variable.TruthVariable.{TruthVariable}
use Rattle.marker_nodes.specs.declared.variable.TruthVariable.TheVariants as questions
use Rattle.marker_nodes.specs.Branches.{value_at}
use Rattle.marker_nodes.specs.Node.{Node, markers}
use Rattle.marker_nodes.specs.Variable.{answer}
use Rattle.marker_graph.specs.declared.kind.MarkerTreeKind.{MarkerTreeKind}
use Rattle.marker_graph.specs.declared.kind.MarkerTreeKind.TheVariants as kinds
use Rattle.marker_graph.specs.declared.kind.MarkerValueExtraRef.TheVariants as extras
use Rattle.marker_graph.specs.declared.tree.MarkerTree.{MarkerTree}
use Rattle.marker_graph.specs.Contents.{Contents, IsHeld}
use Rattle.marker_graph.specs.Edges.{by_bytes, child_of, under}
use Rattle.marker_graph.specs.Kind.{IsKind, IsShown, LeadsTo, edge, itself}
use Rattle.marker_graph.specs.Tree.{node_of, IsSubtree}
use Rattle.marker_graph.proofs.KindLaws.{edges_of_kind, under_bytes}
use Rattle.marker_graph.proofs.SubtreeLaws.{subtree_held}
use Rattle.marker_graph.proofs.TextParts.{text_parts}

-- ---- what is shown is a subtree

-- an edge leads to a subtree
led : (c : Contents) → IsStore markers c.nodes → (t : MarkerTree) → IsHeld c t → (kind : MarkerTreeKind) → IsKind c t kind → (s : MarkerTree) → LeadsTo kind s → IsSubtree c t s
led c store t i kinds.True k s h = absurd h
led c store t i kinds.False k s h = absurd h
led c store t i (kinds.Version view) k s h = let e = edges_of_kind c store t i (kinds.Version view) k in subst (IsSubtree c t) h.3 ((e.behind h.0 h.1 h.2).subtree)
led c store t i (kinds.String view) k s h = let e = edges_of_kind c store t i (kinds.String view) k in subst (IsSubtree c t) h.3 ((e.behind h.0 h.1 h.2).subtree)
led c store t i (kinds.In view) k s h = let e = edges_of_kind c store t i (kinds.In view) k in elim h [ inl f ↦ subst (IsSubtree c t) f (e.high_behind.subtree) | inr f ↦ subst (IsSubtree c t) f (e.low_behind.subtree) ]
led c store t i (kinds.Contains view) k s h = let e = edges_of_kind c store t i (kinds.Contains view) k in elim h [ inl f ↦ subst (IsSubtree c t) f (e.high_behind.subtree) | inr f ↦ subst (IsSubtree c t) f (e.low_behind.subtree) ]
led c store t i (kinds.Extra view) k s h = let e = edges_of_kind c store t i (kinds.Extra view) k in elim h [ inl f ↦ subst (IsSubtree c t) f (e.high_behind.subtree) | inr f ↦ subst (IsSubtree c t) f (e.low_behind.subtree) ]

pub shown_subtree : (c : Contents) → IsStore markers c.nodes → (t s : MarkerTree) → IsHeld c t → IsShown c t s → IsSubtree c t s
shown_subtree c store t _ i itself = residue.itself
shown_subtree c store t _ i (edge s u kind h k l) =
    let p = shown_subtree c store t s i h in
    subtree_both markers c.nodes t.id s.id u.id p (led c store s (subtree_held c store t s i p) kind k u l)

-- ---- a subtree is shown

abbrev pub made : NodeId → MarkerTree
made x = record { id = x }

-- the kind of a node leads to the child that a valuation selects
abbrev Leads : Contents → MarkerTree → MarkerTree → Type 0
Leads c t s = (kind : MarkerTreeKind) × IsKind c t kind × LeadsTo kind s

asks_leads : (c : Contents) (t : MarkerTree) (x : TruthVariable) (so other : NodeId) → node_of c t ≡ Some (Truth x so other) → (b : Bool) → Leads c t (child_of t (cond b so other))
asks_leads c t (questions.In x text) so other e b = (
  kinds.In (record { variable = x; text = record { ref_ptr = (0, 0); now = text }; high = child_of t so; low = child_of t other }),
  (so, other, e, refl, refl),
  by_answer b,
)
  where
    by_answer : (b : Bool) → (child_of t so ≡ child_of t (cond b so other)) ⊎ (child_of t other ≡ child_of t (cond b so other))
    by_answer true = inl refl
    by_answer false = inr refl
asks_leads c t (questions.Contains x text) so other e b = (
  kinds.Contains (record { variable = x; text = record { ref_ptr = (0, 0); now = text }; high = child_of t so; low = child_of t other }),
  (so, other, e, refl, refl),
  by_answer b,
)
  where
    by_answer : (b : Bool) → (child_of t so ≡ child_of t (cond b so other)) ⊎ (child_of t other ≡ child_of t (cond b so other))
    by_answer true = inl refl
    by_answer false = inr refl
asks_leads c t (questions.Extra name) so other e b = (
  kinds.Extra (record { name = extras.Extra (record { ref_ptr = (0, 0); now = name }); high = child_of t so; low = child_of t other }),
  (so, other, e, refl, refl),
  by_answer b,
)
  where
    by_answer : (b : Bool) → (child_of t so ≡ child_of t (cond b so other)) ⊎ (child_of t other ≡ child_of t (cond b so other))
    by_answer true = inl refl
    by_answer false = inr refl
asks_leads c t (questions.Arbitrary text) so other e b = (
  kinds.Extra (record { name = extras.Arbitrary (record { ref_ptr = (0, 0); now = text }); high = child_of t so; low = child_of t other }),
  (so, other, e, refl, refl),
  by_answer b,
)
  where
    by_answer : (b : Bool) → (child_of t so ≡ child_of t (cond b so other)) ⊎ (child_of t other ≡ child_of t (cond b so other))
    by_answer true = inl refl
    by_answer false = inr refl

node_leads : (c : Contents) (t : MarkerTree) (n : Node) → node_of c t ≡ Some n → (v : Valuation) → Leads c t (child_of t (value_at n v))
node_leads c t (Version x es) e v =
    let q = (are_pieces version_cmp version_total es es.ascending (omega (arith, es.rest.ok.0))).covers (v.version x) in (
      kinds.Version (record { tree = t; variable = x; cuts = record { ref_ptr = (0, 0); now = es } }),
      (e, refl),
      (piece_of version_cmp es (v.version x), under t q.0, slice_get-map (under t) (parts_of es) (piece_of version_cmp es (v.version x)) ∙ ap (option_map (under t)) q.1, ap (child_of t) q.3),
    )
node_leads c t (Text x es) e v =
    let q = (text_parts es es.ascending (omega (arith, es.rest.ok.0))).covers (v.text x) in
    let i = piece_by string_bytes text_cmp es (v.text x) in (
      kinds.String (record { tree = t; variable = x; cuts = record { ref_ptr = (0, 0); now = es } }),
      (e, refl),
      (i, under t q.0, ap (λ ps. slice_get ps i) (sym (under_bytes t (parts_of es))) ∙ slice_get-map (under t) (map (λ p. by_bytes p) (parts_of es)) i ∙ ap (option_map (under t)) q.1, ap (child_of t) q.3),
    )
node_leads c t (Truth x so other) e v = asks_leads c t x so other e (answer x v)

pub subtree_shown : (c : Contents) → IsStore markers c.nodes → (t : MarkerTree) (x : NodeId) → residue.IsSubtree markers c.nodes t.id x → IsShown c t (made x)
subtree_shown c store t _ residue.itself = itself
subtree_shown c store t _ (residue.child s u n v h e f) =
    let q = node_leads c (made s) n e v in
    edge (made s) (made u) q.0 (subtree_shown c store t s h) q.1 (subst (LeadsTo q.0) (ap made (sym f)) q.2)
