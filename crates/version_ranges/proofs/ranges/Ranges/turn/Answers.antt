use Rattle.std.proofs.Common.{◌≡◌, ◌++◌, ◌∷◌, [], None, true, not, ap, sym, ◌∙◌, subst}
use mathlib.Core.Bool.{beq}
use Rattle.version_ranges.specs.Cut.{cut_cmp}
use Rattle.version_ranges.specs.Steps.{ascends, is_merged, last_value}
use Rattle.version_ranges.proofs.PointLaws.{cut_total}
use Rattle.version_ranges.proofs.Gathers.{past_value, merged_more}
use Rattle.version_ranges.proofs.Turns.{either_list}
use Rattle.version_ranges.proofs.ranges.Ranges.turn.Goals as goal

pub invariant_of-cuts : goal.invariant_of-cuts
invariant_of-cuts g c = record {
  ascending = either_list (λ l. ascends (cut_cmp g.T.Ord.cmp) None l ≡ true) _ _ _ _ c.push.ensures.items c.args.self.now.cuts.ascending (past_value (cut_total g.met.T.Ord.total) None c.args.self.now.cuts.rest.items c.args.cut true _ c.requires);
}

pub invariant_of-self : goal.invariant_of-self
invariant_of-self g c =
    let f = c.args.self.now.cuts in
    record {
      merged = either_list (λ l. is_merged beq f.first l ≡ true) _ _ _ _ c.push.ensures.items c.args.self.now.merged
          (subst (λ b. is_merged beq f.first (f.rest.items ++ (c.args.cut, not b) ∷ []) ≡ true) (sym (c.last_of.ensures ∙ ap (last_value f.first) c.deref.ensures.value)) (merged_more f.first f.rest.items c.args.cut c.args.self.now.merged));
    }
