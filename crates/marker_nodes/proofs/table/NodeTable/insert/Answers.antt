use Rattle.std.proofs.Common.{inl, inr, sym, ◌∙◌}
use Rattle.marker_nodes.proofs.TableLaws.{index_named, insert_store, insert_room, insert_keeps, insert_choice, insert_added}
use Rattle.marker_nodes.proofs.table.NodeTable.insert.Goals as goal
use Rattle.marker_nodes.proofs.table.NodeTable.insert.Goals.{then-is_new, else-is_new, then-self-pieces+else-not-contains, else-self-pieces}

pub new-requires : goal.new-requires
new-requires c =
    let s = c.in_ok-index.ensures.stored in
    index_named _ _ c.self.inside.room c.in_ok-index.index s.0
    (insert_room c.self.inside.nodes.keys c.args.self.now _ c.args.node c.self.invariant.rules c.self.view_is c.requires.ready c.in_ok-index.ensures.keys c.self.inside.pieces c.self.inside.room c.if-is_new.self c.in_ok-index.is_new
    c.self.invariant c.requires.trimmed c.in_ok-index.ensures.added
    (elim c.if-is_new.branch [ then-is_new w ↦ inl (w.if-is_new.true, w.self-is ∙ c.piece_count-pieces.ensures) | else-is_new w ↦ inr (w.if-is_new.false, w.self-is) ])
    (elim c.if-self-pieces.branch [ then-self-pieces+else-not-contains w ↦ inl (sym w.contains.ensures ∙ w.if-not-contains.false) | else-self-pieces w ↦ inr (rw c.piece_count-pieces.ensures at w.if-self-pieces.false) ]))
    s.1

pub invariant_of-self-2 : goal.invariant_of-self-2
invariant_of-self-2 c =
    insert_room c.self.inside.nodes.keys c.args.self.now _ c.args.node c.self.invariant.rules c.self.view_is c.requires.ready c.in_ok-index.ensures.keys c.self.inside.pieces c.self.inside.room c.if-is_new.self c.in_ok-index.is_new
    c.self.invariant c.requires.trimmed c.in_ok-index.ensures.added
    (elim c.if-is_new.branch [ then-is_new w ↦ inl (w.if-is_new.true, w.self-is ∙ c.piece_count-pieces.ensures) | else-is_new w ↦ inr (w.if-is_new.false, w.self-is) ])
    (elim c.if-self-pieces.branch [ then-self-pieces+else-not-contains w ↦ inl (sym w.contains.ensures ∙ w.if-not-contains.false) | else-self-pieces w ↦ inr (rw c.piece_count-pieces.ensures at w.if-self-pieces.false) ])

pub returns-clause-rules : goal.returns-clause-rules
returns-clause-rules c = insert_store c.self.inside.nodes.keys c.args.self.now _ c.args.node c.self.invariant.rules c.self.view_is c.requires.ready c.in_ok-index.ensures.keys

pub returns-clause-kept : goal.returns-clause-kept
returns-clause-kept c = insert_keeps c.self.inside.nodes.keys c.args.self.now _ c.args.node c.self.invariant.rules c.self.view_is c.requires.ready c.in_ok-index.ensures.keys

pub returns-clause-id : goal.returns-clause-id
returns-clause-id c =
    let s = c.in_ok-index.ensures.stored in
    rw c.new.ensures (insert_choice c.self.inside.nodes.keys c.args.self.now _ c.args.node c.self.invariant.rules c.self.view_is c.requires.ready c.in_ok-index.ensures.keys s.0 c.in_ok-index.index s.1 s.2)

pub returns-clause-added : goal.returns-clause-added
returns-clause-added c =
    let s = c.in_ok-index.ensures.stored in
    λ h. insert_added c.self.inside.nodes.keys c.args.self.now _ c.args.node c.self.invariant.rules c.self.view_is c.requires.ready c.in_ok-index.ensures.keys s.0 c.in_ok-index.index s.1 s.2 (rw c.new.ensures at h)
