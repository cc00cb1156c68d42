use Rattle.std.proofs.Common.{sym, ◌∙◌}
use Rattle.std.proofs.lemmas.Bool.{and_from, not-false}
use Rattle.version_ranges.proofs.BoundLaws.{clones_pass}
use Rattle.version_ranges.proofs.EqualLaws.{equal_ascends, equal_values}
use Rattle.version_ranges.proofs.equality.CutsClone.clone.Goals as goal

pub invariant_of-result : goal.invariant_of-result
invariant_of-result g c =
    let f = c.args.self.now in
    record { ascending = equal_ascends g.met.T.Ord.total g.met.V.Eq.laws g.T.PartialEq.eq g.met.T.Ord.matches_eq f.rest.items c.in_ok-rest.rest.items (not-false _ (sym c.ne-2.ensures ∙ c.if-ne-2.false)) f.ascending }

pub returns : goal.returns
returns g c =
    let f = c.args.self.now in
    let e = and_from _ _ (not-false _ (sym c.ne.ensures ∙ c.if-ne.false)) (not-false _ (sym c.ne-2.ensures ∙ c.if-ne-2.false)) in
    record {
      cases = (
        e,
        equal_values g.met.T.Ord.total g.met.V.Eq.laws g.T.PartialEq.eq g.met.T.Ord.matches_eq f.first c.in_ok-first.first f.rest.items c.in_ok-rest.rest.items e,
        λ test k. clones_pass test g.T.Clone.is_clone _ k (λ x y r. r.0.0) f.rest.items c.in_ok-rest.rest.items c.in_ok-rest.ensures.cases.0,
      );
    }
