use Rattle.std.proofs.Common.{◌≡◌, ◌+◌, ◌++◌, ◌∷◌, [], List, ℕ, ap, ◌∙◌, is_ok, arith}
use Rattle.std.proofs.ResultArms.{chosen}
use Rattle.marker_diagrams.specs.Id.{place_of}
use Rattle.marker_nodes.proofs.Descents.{held_kept}
use Rattle.marker_conjunctions.specs.Contents.{contents}
use Rattle.marker_conjunctions.proofs.AndLaws.{known_more}
use Rattle.marker_conjunctions.proofs.CountLaws.{spends_more}
use Rattle.marker_conjunctions.proofs.ReleaseLaws.{added_first, added_reach, added_reaches, reach_now}
use Rattle.marker_conjunctions.proofs.StepLaws.{open_none, spends_nothing, entered, remembered}
use Rattle.marker_conjunctions.proofs.conjunctions.Conjunctions.compute.Goals as goal

pub invariant_of-self-2 : goal.invariant_of-self-2
invariant_of-self-2 c =
    let old = c.args.self.now.memo.entries in
    let none = open_none old (c.args.a, c.args.b) c.requires.due.unsettled in
    let pushed : c.push.new.self.items ≡ c.reserve.new.self.items ++ c.max-reach.result ∷ [] = chosen _ _ _ _ c.push.ensures.items (ap is_ok c.unwrap.ensures) in
    record {
      reached = pushed ∙ ap (λ (l : List ℕ). l ++ c.max-reach.result ∷ []) c.in_ok-reserve.ensures.items
          ∙ added_reaches old c.insert.new.self.entries (c.args.a, c.args.b) c.in_ok-id.id none c.in_ok-insert.ensures.entries c.args.self.now.reaches.items c.max-reach.result c.args.self.now.reached
          (reach_now old c.args.a c.args.b c.in_ok-id.id c.known.result c.reach-before.result c.height.result c.height-2.result c.height-3.result c.max.result c.max-2.result c.max-reach.result
          c.known.ensures c.reach-before.ensures c.height.ensures c.height-2.ensures c.height-3.ensures c.max.ensures c.max-2.ensures c.max-reach.ensures);
    }

pub returns-clause-kept : goal.returns-clause-kept
returns-clause-kept c =
    let kept = c.in_ok-id.ensures.kept in
    let none = open_none c.args.self.now.memo.entries (c.args.a, c.args.b) c.requires.due.unsettled in
    record {
      rules = known_more (contents c.place.new.nodes c.args.self.now) c.args.a c.args.b c.in_ok-id.id _ _ c.in_ok-id.ensures.rules (held_kept c.args.nodes.now c.place.new.nodes c.args.a kept c.requires.held.left)
          (held_kept c.args.nodes.now c.place.new.nodes c.args.b kept c.requires.held.right) c.in_ok-id.ensures.and (let u = c.in_ok-insert.ensures.updates in u.0)
          (added_reach c.args.self.now.memo.entries c.insert.new.self.entries (c.args.a, c.args.b) c.in_ok-id.id none c.in_ok-insert.ensures.entries);
      kept = record { nodes = kept; memo = added_first c.args.self.now.memo.entries c.insert.new.self.entries (c.args.a, c.args.b) c.in_ok-id.id none c.in_ok-insert.ensures.entries };
      remembers = remembered c.args.self.now.memo.entries c.insert.new.self.entries c.args.a c.args.b c.in_ok-id.id (let u = c.in_ok-insert.ensures.updates in u.0);
    }

pub returns-clause-spends : goal.returns-clause-spends
returns-clause-spends c =
    let x = c.saturating_add-self.ensures in
    spends_more (contents c.args.nodes.now c.args.self.now) (contents c.place.new.nodes c.args.self.now) _ c.args.a c.args.b c.in_ok-id.id
    (spends_nothing (contents c.args.nodes.now c.args.self.now) c.place.new.nodes (place_of c.args.a + place_of c.args.b) c.args.a c.args.b)
    (open_none c.args.self.now.memo.entries (c.args.a, c.args.b) c.requires.due.unsettled) (let u = c.in_ok-insert.ensures.updates in u.0) (omega (arith, x)) (omega (arith, x))

pub returns-clause-known : goal.returns-clause-known
returns-clause-known c =
    let x = c.saturating_add-self.ensures in
    record {
      known = entered c.args.self.now.memo.entries c.insert.new.self.entries c.args.a c.args.b c.in_ok-id.id (let u = c.in_ok-insert.ensures.updates in u.0);
      counted = λ below. omega (arith, x, below);
    }
