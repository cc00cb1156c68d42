use Rattle.std.proofs.Common.{◌≡◌, ◌≤◌, sym, ap, ◌∙◌, subst}
use Rattle.std.specs.Prelude.{◌↔◌}
use Rattle.marker_diagrams.specs.Id.{place_of}
use Rattle.marker_diagrams.specs.Diagram.{IsHeld}
use Rattle.marker_conjunctions.specs.Contents.{contents, Contents, HoldsTheSame, IsKept}
use Rattle.marker_graph.specs.Mark.{released}
use Rattle.marker_graph.specs.Texts.{IsInOrder}
use Rattle.marker_graph.proofs.TextLaws.{released_in_order}
use Rattle.marker_graph.proofs.KeptLaws.{released_is, released_held, released_kept, released_undone}
use Rattle.marker_graph.proofs.interner.Interner.release.Goals as goal

pub invariant_of-self : goal.invariant_of-self
invariant_of-self c =
    let old : Contents = contents c.self.inside.nodes c.self.inside.conjunctions in
    let new : Contents = contents c.truncate.new.self c.truncate-2.new.self in
    let is : new ≡ released c.args.mark old = released_is c.args.mark.nodes c.args.mark.known old _ _ _ c.truncate.ensures c.truncate-2.ensures.memo c.truncate-2.ensures.expansions in
    subst (λ (x : Contents). IsInOrder x c.forget_beyond.new.self) (sym is) (released_in_order c.args.mark old c.self.inside.texts c.forget_beyond.new.self c.self.invariant c.forget_beyond.ensures.left)

pub returns-clause-released : goal.returns-clause-released
returns-clause-released c =
    let old : Contents = contents c.self.inside.nodes c.self.inside.conjunctions in
    released_is c.args.mark.nodes c.args.mark.known old _ _ _ c.truncate.ensures c.truncate-2.ensures.memo c.truncate-2.ensures.expansions ∙ ap (released c.args.mark) c.self.view_is

pub returns-clause-kept : goal.returns-clause-kept
returns-clause-kept c =
    let old : Contents = contents c.self.inside.nodes c.self.inside.conjunctions in
    let new : Contents = contents c.truncate.new.self c.truncate-2.new.self in
    let is : new ≡ released c.args.mark old = released_is c.args.mark.nodes c.args.mark.known old _ _ _ c.truncate.ensures c.truncate-2.ensures.memo c.truncate-2.ensures.expansions in
    subst (λ (x : Contents). IsKept new x) c.self.view_is (subst (λ (x : Contents). IsKept x old) (sym is) (released_kept c.args.mark.nodes c.args.mark.known old))

pub returns-clause-held : goal.returns-clause-held
returns-clause-held c t =
    let old : Contents = contents c.self.inside.nodes c.self.inside.conjunctions in
    let new : Contents = contents c.truncate.new.self c.truncate-2.new.self in
    let is : new ≡ released c.args.mark old = released_is c.args.mark.nodes c.args.mark.known old _ _ _ c.truncate.ensures c.truncate-2.ensures.memo c.truncate-2.ensures.expansions in
    subst (λ (x : Contents). (IsHeld new.nodes t.id ↔ (IsHeld x.nodes t.id × (place_of t.id ≤ c.args.mark.nodes)))) c.self.view_is
    (subst (λ (x : Contents). (IsHeld x.nodes t.id ↔ (IsHeld old.nodes t.id × (place_of t.id ≤ c.args.mark.nodes)))) (sym is) (released_held c.args.mark.nodes c.args.mark.known old t.id))

pub returns-clause-undone : goal.returns-clause-undone
returns-clause-undone c before mark kept =
    let old : Contents = contents c.self.inside.nodes c.self.inside.conjunctions in
    let new : Contents = contents c.truncate.new.self c.truncate-2.new.self in
    let is : new ≡ released c.args.mark old = released_is c.args.mark.nodes c.args.mark.known old _ _ _ c.truncate.ensures c.truncate-2.ensures.memo c.truncate-2.ensures.expansions in
    subst (HoldsTheSame before) (sym is) (released_undone c.args.mark.nodes c.args.mark.known before old mark.nodes mark.known mark.within (subst (IsKept before) (sym c.self.view_is) kept))
