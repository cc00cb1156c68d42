use Rattle.std.proofs.Common.{◌∙◌, ◌≡◌, [], sym, arith}
use Rattle.std.proofs.lemmas.List.{nil_from_length}
use Rattle.std.proofs.lemmas.Result.{err_from_is_err_and}
use Rattle.std.specs.Vec.Iter.{into_iter_items}
use Rattle.marker_graph.proofs.Firsts.{true_is}
use Rattle.marker_grammar.specs.Postfix.{stack_of}
use Rattle.pep508_markers.proofs.DoneLaws.{next_is_valid, one_done, not_done, whole_run, says_no_overflow}
use Rattle.pep508_markers.proofs.TreeLaws.{kept_on, run_on_top, nothing_says_true}
use Rattle.pep508_markers.proofs.formula_tree.join_tokens.Goals as goal

pub apply-requires-clause-valid : goal.apply-requires-clause-valid
apply-requires-clause-valid c = next_is_valid c.args.formula.tokens.items (into_iter_items c.loop-token.tokens) (into_iter_items c.next.new.self) c.in-Some.token c.loop-token.interner c.loop-token.runs.items c.in-Some.ensures.items c.loop-token.invariant.done

pub loop-token-preserved : goal.loop-token-preserved
loop-token-preserved c = record {
  kept = kept_on c.args.interner.now c.loop-token.interner c.apply.new.interner c.loop-token.invariant.kept c.apply.ensures.kept.kept;
  counts = omega (arith, c.loop-token.invariant.counts, c.apply.ensures.kept.counts);
  done = one_done c.args.formula.tokens.items (into_iter_items c.loop-token.tokens) (into_iter_items c.next.new.self) c.in-Some.token c.loop-token.interner c.apply.new.interner c.loop-token.runs.items c.apply.new.runs.items
      c.in-Some.ensures.items c.loop-token.invariant.done c.in_ok-apply.ensures.no_overflow c.in_ok-apply.ensures.runs;
}

pub returns-in_err-apply-clause-err : goal.returns-in_err-apply-clause-err
returns-in_err-apply-clause-err c =
    let p = err_from_is_err_and c.from_residual.result c.from_residual.ensures.1 in
    rw (p.1, p.2) (not_done c.args.formula.tokens.items (into_iter_items c.loop-token.tokens) (into_iter_items c.next.new.self) c.in-Some.token c.loop-token.interner c.loop-token.runs.items _ c.args.formula.whole c.in-Some.ensures.items c.loop-token.invariant.done c.in_err-apply.ensures.err)

pub returns-in-Some-pop-clause-no_overflow : goal.returns-in-Some-pop-clause-no_overflow
returns-in-Some-pop-clause-no_overflow c =
    let none : into_iter_items c.loop-token.tokens ≡ [] = nil_from_length _ (sym c.loop-token.tokens.rest.ok.0 ∙ c.in_default.ensures.cases.0) in
    says_no_overflow c.args.formula.tokens.items (into_iter_items c.loop-token.tokens) c.loop-token.interner c.loop-token.runs.items none c.loop-token.invariant.done

pub returns-clause-means : goal.returns-clause-means
returns-clause-means c =
    let none : into_iter_items c.loop-token.tokens ≡ [] = nil_from_length _ (sym c.loop-token.tokens.rest.ok.0 ∙ c.in_default.ensures.cases.0) in
    let all = whole_run c.args.formula.tokens.items (into_iter_items c.loop-token.tokens) c.loop-token.interner c.loop-token.runs.items none c.loop-token.invariant.done in
    λ v. true_is c.loop-token.interner.nodes v ∙ sym (nothing_says_true c.loop-token.interner (stack_of c.args.formula.tokens.items) c.loop-token.runs.items all (nil_from_length _ (sym c.loop-token.runs.ok.0 ∙ c.in-None.ensures.cases.0)) v)

pub join_all-requires : goal.join_all-requires
join_all-requires c =
    let none : into_iter_items c.loop-token.tokens ≡ [] = nil_from_length _ (sym c.loop-token.tokens.rest.ok.0 ∙ c.in_default.ensures.cases.0) in
    let all = whole_run c.args.formula.tokens.items (into_iter_items c.loop-token.tokens) c.loop-token.interner c.loop-token.runs.items none c.loop-token.invariant.done in
    (run_on_top c.loop-token.interner (stack_of c.args.formula.tokens.items) c.loop-token.runs.items c.pop.new.self.items c.in-Some-pop.run' all c.in-Some-pop.ensures.items).0

pub returns-in-Some-pop-clause-means : goal.returns-in-Some-pop-clause-means
returns-in-Some-pop-clause-means c = λ v.
    let none : into_iter_items c.loop-token.tokens ≡ [] = nil_from_length _ (sym c.loop-token.tokens.rest.ok.0 ∙ c.in_default.ensures.cases.0) in
    let all = whole_run c.args.formula.tokens.items (into_iter_items c.loop-token.tokens) c.loop-token.interner c.loop-token.runs.items none c.loop-token.invariant.done in
    c.in_ok-tree-in-Some-pop.ensures.means v ∙ (run_on_top c.loop-token.interner (stack_of c.args.formula.tokens.items) c.loop-token.runs.items c.pop.new.self.items c.in-Some-pop.run' all c.in-Some-pop.ensures.items).1 v
