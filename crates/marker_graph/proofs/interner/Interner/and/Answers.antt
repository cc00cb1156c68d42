use Rattle.std.proofs.Common.{inl, inr, rules}
use Rattle.marker_conjunctions.specs.Step.{IsKnown}
use Rattle.marker_graph.proofs.TextLaws.{still_in_order}
use Rattle.marker_graph.proofs.interner.Interner.and.Goals as goal

pub invariant_of-self : goal.invariant_of-self
invariant_of-self c = still_in_order _ _ _ c.self.invariant c.and.ensures.kept.rules c.and.ensures.kept.kept

pub returns-clause-known : goal.returns-clause-known
returns-clause-known c = record {
  short = λ h. search (rules, c.and.ensures.told (inl h));
  known = λ h.
      let known : IsKnown c.self.inside.conjunctions.memo.entries (c.args.a, c.args.b) = search (rules, h) in
      search (rules, c.and.ensures.told (inr known));
  settled = search rules;
  remembers = search rules;
}
