use Rattle.std.proofs.Common.{rules, not, refl, sym, ap, ◌∙◌, subst, arith}
use Rattle.std.proofs.lemmas.Bool.{true≢false}
use Rattle.version_ranges.specs.Parts.{parts_of, parts_left}
use Rattle.marker_nodes.specs.declared.node.Branches.TheVariants.{Version, Text}
use Rattle.marker_walks.specs.Possible.{listed_versions}
use Rattle.marker_walks.specs.Search.{Leaves}
use Rattle.marker_walks.specs.declared.possible.Rest.TheVariants.{Child}
use Rattle.marker_walks.proofs.PossibleLaws.{starts, goes_further, still_right, sought_from, enters, always, Walks, some_sought, otherwise_may, version_walks, text_walks, walk_leads, walk_next, walk_end, child_below, child_found, child_closed, end_tells, true_tells, out_tells, child_out, high_below, high_found, high_alone, high_after, low_below, low_found, low_alone, low_after}
use Rattle.marker_walks.proofs.possible.+possible.Goals as goal

pub possible-returns-then-is_true-clause-answer : goal.possible-returns-then-is_true-clause-answer
possible-returns-then-is_true-clause-answer t c = true_tells c.args.extras.now c.args.versions c.requires.search.some c.args.nodes.now c.args.id (c.is_true.ensures.0 c.if-is_true.true)

pub possible-returns-then-is_known_out-clause-answer : goal.possible-returns-then-is_known_out-clause-answer
possible-returns-then-is_known_out-clause-answer t c = out_tells c.args.extras.now c.args.versions c.args.nodes.now c.args.id (c.is_known_out.ensures c.if-is_known_out.true c.args.extras.now c.args.versions c.args.nodes.now c.requires.memory.out)

pub possible-returns-then-not-answer-clause-kept : goal.possible-returns-then-not-answer-clause-kept
possible-returns-then-not-answer-clause-kept t c =
    let kept = c.possible_by_nodes.ensures.kept in
    record {
      unbounded = kept.unbounded;
      places = c.remember.ensures.places ∙ kept.places;
      out = c.remember.ensures.out c.args.extras.now c.args.versions c.args.nodes.now (c.in_ok-answer.ensures.answer.impossible c.if-not-answer.true) kept.out;
    }

pub possible_by_nodes-returns-in-None-clause-answer : goal.possible_by_nodes-returns-in-None-clause-answer
possible_by_nodes-returns-in-None-clause-answer t c =
    let s = some_sought c.args.extras.now c.args.versions c.requires.search.some in
    c.loop-variable.invariant.rest _ (end_tells c.args.extras.now (listed_versions c.args.versions) c.args.nodes.now c.requires.search.rules c.loop-variable.at s.0 s.1 s.2 c.in-None.ensures.node _ (ap not c.is_complement.ensures))

pub possible_at_version-loop-piece-init : goal.possible_at_version-loop-piece-init
possible_at_version-loop-piece-init t c =
    let s = some_sought c.args.extras.now c.args.versions c.requires.search.some in
    record {
      memory = starts c.requires.memory;
      walk = subst (Walks c.args.extras.now (listed_versions c.args.versions) c.args.nodes.now c.args.id (enters c.args.variable (listed_versions c.args.versions))) (sym (ap parts_left c.into_iter-piece-iterator.ensures.into_iter_gives ∙ c.pieces-piece-items.ensures.items))
          (version_walks c.args.extras.now (listed_versions c.args.versions) c.args.nodes.now c.requires.search.rules c.args.id s.0 s.1 s.2 c.args.variable c.args.edges.now (parts_of c.args.edges.now) c.pieces-piece-items.ensures.pieces (Version c.args.variable c.args.edges.now) (λ v. refl) c.requires.node);
    }

pub possible_at_version-loop-piece-preserved-then-not-may_lie_in : goal.possible_at_version-loop-piece-preserved-then-not-may_lie_in
possible_at_version-loop-piece-preserved-then-not-may_lie_in t c = record {
  memory = c.loop-piece.invariant.memory;
  walk = walk_next c.args.extras.now (listed_versions c.args.versions) c.args.nodes.now c.args.id (enters c.args.variable (listed_versions c.args.versions)) _ _ _ c.in-Some.ensures.steps c.loop-piece.invariant.walk
      (λ m. absurd (true≢false (sym m ∙ sym c.may_lie_in.ensures ∙ c.if-not-may_lie_in.true)));
}

pub possible_at_version-possible-requires : goal.possible_at_version-possible-requires
possible_at_version-possible-requires t c =
    let h = walk_leads c.args.extras.now (listed_versions c.args.versions) c.args.nodes.now c.args.id (enters c.args.variable (listed_versions c.args.versions)) _ _ _ c.in-Some.ensures.steps c.loop-piece.invariant.walk (sym c.may_lie_in.ensures ∙ c.if-not-may_lie_in.false) in
    let s = child_below c.args.extras.now (listed_versions c.args.versions) c.args.nodes.now c.args.id c.in-Some.piece.value.now c.negate.result c.negate.ensures c.requires.search.held h in
    (omega (arith, s.0, c.decreases), (sought_from c.requires.search s.1, still_right c.loop-piece.invariant.memory c.requires.memory))

pub possible_at_version-returns-then-branch-clause-answer : goal.possible_at_version-returns-then-branch-clause-answer
possible_at_version-returns-then-branch-clause-answer t c =
    let h = walk_leads c.args.extras.now (listed_versions c.args.versions) c.args.nodes.now c.args.id (enters c.args.variable (listed_versions c.args.versions)) _ _ _ c.in-Some.ensures.steps c.loop-piece.invariant.walk (sym c.may_lie_in.ensures ∙ c.if-not-may_lie_in.false) in
    child_found c.args.extras.now (listed_versions c.args.versions) c.args.nodes.now c.args.id c.in-Some.piece.value.now c.negate.result c.negate.ensures h _ c.in_ok-possible.ensures.answer c.if-branch.true

pub possible_at_version-loop-piece-preserved : goal.possible_at_version-loop-piece-preserved
possible_at_version-loop-piece-preserved t c = record {
  memory = goes_further c.loop-piece.invariant.memory c.possible.ensures.kept;
  walk = walk_next c.args.extras.now (listed_versions c.args.versions) c.args.nodes.now c.args.id (enters c.args.variable (listed_versions c.args.versions)) _ _ _ c.in-Some.ensures.steps c.loop-piece.invariant.walk
      (λ m. child_closed c.args.extras.now (listed_versions c.args.versions) c.args.nodes.now c.args.id c.in-Some.piece.value.now c.negate.result c.negate.ensures _ c.in_ok-possible.ensures.answer c.if-branch.false);
}

pub possible_at_version-returns-clause-answer : goal.possible_at_version-returns-clause-answer
possible_at_version-returns-clause-answer t c = walk_end c.args.extras.now (listed_versions c.args.versions) c.args.nodes.now c.args.id (enters c.args.variable (listed_versions c.args.versions)) _ c.in-None.ensures.steps.0 c.loop-piece.invariant.walk

pub possible_at_text-loop-piece-init : goal.possible_at_text-loop-piece-init
possible_at_text-loop-piece-init t c =
    let s = some_sought c.args.extras.now c.args.versions c.requires.search.some in
    record {
      memory = starts c.requires.memory;
      walk = subst (Walks c.args.extras.now (listed_versions c.args.versions) c.args.nodes.now c.args.id always) (sym (ap parts_left c.into_iter-piece-iterator.ensures.into_iter_gives ∙ c.pieces-piece-items.ensures.items))
          (text_walks c.args.extras.now (listed_versions c.args.versions) c.args.nodes.now c.requires.search.rules c.args.id s.0 s.1 s.2 c.requires.node.0 c.args.edges.now (parts_of c.args.edges.now) c.pieces-piece-items.ensures.pieces (Text c.requires.node.0 c.args.edges.now) (λ v. refl) c.requires.node.1);
    }

pub possible_at_text-possible-requires : goal.possible_at_text-possible-requires
possible_at_text-possible-requires t c =
    let h = walk_leads c.args.extras.now (listed_versions c.args.versions) c.args.nodes.now c.args.id always _ _ _ c.in-Some.ensures.steps c.loop-piece.invariant.walk refl in
    let s = child_below c.args.extras.now (listed_versions c.args.versions) c.args.nodes.now c.args.id c.in-Some.piece.value.now c.negate.result c.negate.ensures c.requires.search.held h in
    (omega (arith, s.0, c.decreases), (sought_from c.requires.search s.1, still_right c.loop-piece.invariant.memory c.requires.memory))

pub possible_at_text-returns-then-branch-clause-answer : goal.possible_at_text-returns-then-branch-clause-answer
possible_at_text-returns-then-branch-clause-answer t c =
    let h = walk_leads c.args.extras.now (listed_versions c.args.versions) c.args.nodes.now c.args.id always _ _ _ c.in-Some.ensures.steps c.loop-piece.invariant.walk refl in
    child_found c.args.extras.now (listed_versions c.args.versions) c.args.nodes.now c.args.id c.in-Some.piece.value.now c.negate.result c.negate.ensures h _ c.in_ok-possible.ensures.answer c.if-branch.true

pub possible_at_text-loop-piece-preserved : goal.possible_at_text-loop-piece-preserved
possible_at_text-loop-piece-preserved t c = record {
  memory = goes_further c.loop-piece.invariant.memory c.possible.ensures.kept;
  walk = walk_next c.args.extras.now (listed_versions c.args.versions) c.args.nodes.now c.args.id always _ _ _ c.in-Some.ensures.steps c.loop-piece.invariant.walk
      (λ m. child_closed c.args.extras.now (listed_versions c.args.versions) c.args.nodes.now c.args.id c.in-Some.piece.value.now c.negate.result c.negate.ensures _ c.in_ok-possible.ensures.answer c.if-branch.false);
}

pub possible_at_text-returns-clause-answer : goal.possible_at_text-returns-clause-answer
possible_at_text-returns-clause-answer t c = walk_end c.args.extras.now (listed_versions c.args.versions) c.args.nodes.now c.args.id always _ c.in-None.ensures.steps.0 c.loop-piece.invariant.walk

pub rest_at_truth-returns-then-not-may_be_so-clause-rest : goal.rest_at_truth-returns-then-not-may_be_so-clause-rest
rest_at_truth-returns-then-not-may_be_so-clause-rest t c = (
  (low_below c.args.extras.now c.args.versions c.requires.search.some c.args.nodes.now c.requires.search.rules c.args.id c.requires.search.held c.args.variable.now c.args.high c.args.low c.requires.node c.negate.result c.negate.ensures (otherwise_may c.args.extras.now c.args.variable.now (sym c.may_be_so.ensures ∙ c.if-not-may_be_so.true))).0,
  low_alone c.args.extras.now c.args.versions c.requires.search.some c.args.nodes.now c.requires.search.rules c.args.id c.requires.search.held c.args.variable.now c.args.high c.args.low c.requires.node c.negate.result c.negate.ensures (sym c.may_be_so.ensures ∙ c.if-not-may_be_so.true),
)

pub rest_at_truth-returns-then-not-may_not_be_so-clause-rest : goal.rest_at_truth-returns-then-not-may_not_be_so-clause-rest
rest_at_truth-returns-then-not-may_not_be_so-clause-rest t c = (
  (high_below c.args.extras.now c.args.versions c.requires.search.some c.args.nodes.now c.requires.search.rules c.args.id c.requires.search.held c.args.variable.now c.args.high c.args.low c.requires.node c.negate-then-not-may_not_be_so.result c.negate-then-not-may_not_be_so.ensures (sym c.may_be_so.ensures ∙ c.if-not-may_be_so.false)).0,
  high_alone c.args.extras.now c.args.versions c.requires.search.some c.args.nodes.now c.requires.search.rules c.args.id c.requires.search.held c.args.variable.now c.args.high c.args.low c.requires.node c.negate-then-not-may_not_be_so.result c.negate-then-not-may_not_be_so.ensures (sym c.may_be_so.ensures ∙ c.if-not-may_be_so.false) (sym c.may_not_be_so.ensures ∙ c.if-not-may_not_be_so.true),
)

pub rest_at_truth-possible-requires : goal.rest_at_truth-possible-requires
rest_at_truth-possible-requires t c =
    let s = low_below c.args.extras.now c.args.versions c.requires.search.some c.args.nodes.now c.requires.search.rules c.args.id c.requires.search.held c.args.variable.now c.args.high c.args.low c.requires.node c.negate-then-is_none.result c.negate-then-is_none.ensures (sym c.may_not_be_so.ensures ∙ c.if-not-may_not_be_so.false) in
    (omega (arith, s.0, c.decreases), (sought_from c.requires.search s.1, c.requires.memory))

pub rest_at_truth-returns-then-branch-clause-rest : goal.rest_at_truth-returns-then-branch-clause-rest
rest_at_truth-returns-then-branch-clause-rest t c =
    low_found c.args.extras.now c.args.versions c.requires.search.some c.args.nodes.now c.requires.search.rules c.args.id c.requires.search.held c.args.variable.now c.args.high c.args.low c.requires.node c.negate-then-is_none.result c.negate-then-is_none.ensures (sym c.may_not_be_so.ensures ∙ c.if-not-may_not_be_so.false) _ c.in_ok-possible.ensures.answer c.if-branch.true

pub rest_at_truth-returns-then-is_none-clause-rest : goal.rest_at_truth-returns-then-is_none-clause-rest
rest_at_truth-returns-then-is_none-clause-rest t c = (
  (high_below c.args.extras.now c.args.versions c.requires.search.some c.args.nodes.now c.requires.search.rules c.args.id c.requires.search.held c.args.variable.now c.args.high c.args.low c.requires.node c.negate-then-is_none-2.result c.negate-then-is_none-2.ensures (sym c.may_be_so.ensures ∙ c.if-not-may_be_so.false)).0,
  high_after c.args.extras.now c.args.versions c.requires.search.some c.args.nodes.now c.requires.search.rules c.args.id c.requires.search.held c.args.variable.now c.args.high c.args.low c.requires.node c.negate-then-is_none-2.result c.negate-then-is_none-2.ensures (sym c.may_be_so.ensures ∙ c.if-not-may_be_so.false) c.negate-then-is_none.result c.negate-then-is_none.ensures _ c.in_ok-possible.ensures.answer c.if-branch.false,
)

pub rest_at_truth-possible-requires-2 : goal.rest_at_truth-possible-requires-2
rest_at_truth-possible-requires-2 t c =
    let s = high_below c.args.extras.now c.args.versions c.requires.search.some c.args.nodes.now c.requires.search.rules c.args.id c.requires.search.held c.args.variable.now c.args.high c.args.low c.requires.node c.negate-2.result c.negate-2.ensures (sym c.may_be_so.ensures ∙ c.if-not-may_be_so.false) in
    (omega (arith, s.0, c.decreases), (sought_from c.requires.search s.1, c.requires.memory))

pub rest_at_truth-returns-then-branch-2-clause-rest : goal.rest_at_truth-returns-then-branch-2-clause-rest
rest_at_truth-returns-then-branch-2-clause-rest t c =
    high_found c.args.extras.now c.args.versions c.requires.search.some c.args.nodes.now c.requires.search.rules c.args.id c.requires.search.held c.args.variable.now c.args.high c.args.low c.requires.node c.negate-2.result c.negate-2.ensures (sym c.may_be_so.ensures ∙ c.if-not-may_be_so.false) _ c.in_ok-possible-2.ensures.answer c.if-branch-2.true

pub rest_at_truth-returns-clause-rest : goal.rest_at_truth-returns-clause-rest
rest_at_truth-returns-clause-rest t c = (
  (low_below c.args.extras.now c.args.versions c.requires.search.some c.args.nodes.now c.requires.search.rules c.args.id c.requires.search.held c.args.variable.now c.args.high c.args.low c.requires.node c.negate-3.result c.negate-3.ensures (sym c.may_not_be_so.ensures ∙ c.if-not-may_not_be_so.false)).0,
  low_after c.args.extras.now c.args.versions c.requires.search.some c.args.nodes.now c.requires.search.rules c.args.id c.requires.search.held c.args.variable.now c.args.high c.args.low c.requires.node c.negate-3.result c.negate-3.ensures (sym c.may_not_be_so.ensures ∙ c.if-not-may_not_be_so.false) c.negate-2.result c.negate-2.ensures _ c.in_ok-possible-2.ensures.answer c.if-branch-2.false,
)

pub possible_by_nodes-returns-then-passed-gt-SHORT_WAY-clause-answer : goal.possible_by_nodes-returns-then-passed-gt-SHORT_WAY-clause-answer
possible_by_nodes-returns-then-passed-gt-SHORT_WAY-clause-answer t c =
    let rest = subst (Leaves c.args.extras.now c.args.versions c.args.nodes.now c.loop-variable.at) c.in-Child.is c.in_ok-child-in-Some-Truth.ensures.rest in
    let out = c.is_known_out.ensures c.if-is_known_out.true c.args.extras.now c.args.versions c.args.nodes.now c.rest_at_truth.ensures.kept.out in
    c.loop-variable.invariant.rest _ (rest.1 _ (out_tells c.args.extras.now c.args.versions c.args.nodes.now c.in-Child.child out))

pub possible_by_nodes-returns-else-passed-gt-SHORT_WAY-clause-answer : goal.possible_by_nodes-returns-else-passed-gt-SHORT_WAY-clause-answer
possible_by_nodes-returns-else-passed-gt-SHORT_WAY-clause-answer t c =
    let rest = subst (Leaves c.args.extras.now c.args.versions c.args.nodes.now c.loop-variable.at) c.in-Child.is c.in_ok-child-in-Some-Truth.ensures.rest in
    let out = c.is_known_out.ensures c.if-is_known_out.true c.args.extras.now c.args.versions c.args.nodes.now c.rest_at_truth.ensures.kept.out in
    c.loop-variable.invariant.rest _ (rest.1 _ (out_tells c.args.extras.now c.args.versions c.args.nodes.now c.in-Child.child out))

pub possible_by_nodes-remember_way-requires : goal.possible_by_nodes-remember_way-requires
possible_by_nodes-remember_way-requires t c =
    let rest = subst (Leaves c.args.extras.now c.args.versions c.args.nodes.now c.loop-variable.at) c.in-Child.is c.in_ok-child-in-Some-Truth.ensures.rest in
    let out = c.is_known_out.ensures c.if-is_known_out.true c.args.extras.now c.args.versions c.args.nodes.now c.rest_at_truth.ensures.kept.out in
    let answer = c.loop-variable.invariant.rest _ (rest.1 _ (out_tells c.args.extras.now c.args.versions c.args.nodes.now c.in-Child.child out)) in
    (omega (arith, c.decreases), (c.requires.search, (answer.impossible refl, record { places = search rules; out = c.rest_at_truth.ensures.kept.out })))

pub remember_way-loop-variable-preserved : goal.remember_way-loop-variable-preserved
remember_way-loop-variable-preserved t c =
    let rest : Leaves c.args.extras.now c.args.versions c.args.nodes.now c.loop-variable.at (Child c.in-Some-Child.child) = search rules in
    let impossible = child_out c.args.extras.now c.args.versions c.args.nodes.now c.loop-variable.at c.in-Some-Child.child rest.1 c.loop-variable.invariant.impossible in
    record {
      memory = record {
        unbounded = λ u. c.rest_at_truth.ensures.kept.unbounded (c.loop-variable.invariant.memory.unbounded u);
        places = search rules;
        out = c.remember.ensures.out c.args.extras.now c.args.versions c.args.nodes.now impossible c.rest_at_truth.ensures.kept.out;
      };
      below = omega (arith, rest.0, c.loop-variable.invariant.below);
      impossible = impossible;
    }

pub possible_by_nodes-loop-variable-preserved : goal.possible_by_nodes-loop-variable-preserved
possible_by_nodes-loop-variable-preserved t c =
    let rest = subst (Leaves c.args.extras.now c.args.versions c.args.nodes.now c.loop-variable.at) c.in-Child.is c.in_ok-child-in-Some-Truth.ensures.rest in
    record {
      memory = record {
        unbounded = λ u. c.rest_at_truth.ensures.kept.unbounded (c.take.ensures.unbounded (c.loop-variable.invariant.memory.unbounded u));
        places = c.rest_at_truth.ensures.kept.places ∙ c.loop-variable.invariant.memory.places;
        out = c.rest_at_truth.ensures.kept.out;
      };
      below = omega (arith, rest.0, c.loop-variable.invariant.below);
      rest = λ answer a. c.loop-variable.invariant.rest answer (rest.1 answer a);
    }
