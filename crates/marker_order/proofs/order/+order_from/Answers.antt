use Rattle.std.proofs.Common.{rules, sym, ap, ◌∙◌, subst}
use Rattle.std.specs.Option.{option_copied}
use Rattle.std.specs.Ordering.{bool_cmp}
use Rattle.marker_diagrams.specs.Id.{is_negated}
use Rattle.marker_order.specs.Turns.{turns_left}
use Rattle.marker_order.proofs.TurnLaws.{Continues, begins, on_constants, on_first_constant, on_greater, on_lesser, on_second_constant}
use Rattle.marker_order.proofs.order.+order_from.Goals as goal

pub returns-in-Some-None-clause-order : goal.returns-in-Some-None-clause-order
returns-in-Some-None-clause-order g t c =
    sym (on_second_constant c.args.table.now c.args.other_table.now c.requires.rules.left c.requires.rules.right c.args.id c.args.other c.in-Some-None.field-0-0.now
    (sym c.node.ensures.node ∙ ap option_copied c.in-Some-None.is-0) (sym c.node-2.ensures.node ∙ ap option_copied c.in-Some-None.is-1))

pub returns-in-None-Some-clause-order : goal.returns-in-None-Some-clause-order
returns-in-None-Some-clause-order g t c =
    sym (on_first_constant c.args.table.now c.args.other_table.now c.requires.rules.left c.requires.rules.right c.args.id c.args.other c.in-None-Some.field-0-1.now
    (sym c.node.ensures.node ∙ ap option_copied c.in-None-Some.is-0) (sym c.node-2.ensures.node ∙ ap option_copied c.in-None-Some.is-1))

pub returns-in-None-None-clause-order : goal.returns-in-None-None-clause-order
returns-in-None-None-clause-order g t c =
    c.cmp.ensures ∙ ap (λ x. bool_cmp x c.is_complement-in-None-None.result) c.is_complement.ensures ∙ ap (bool_cmp (is_negated c.args.id)) c.is_complement-in-None-None.ensures
    ∙ sym (on_constants c.args.table.now c.args.other_table.now c.requires.rules.left c.requires.rules.right c.args.id c.args.other
    (sym c.node.ensures.node ∙ ap option_copied c.in-None-None.is-0) (sym c.node-2.ensures.node ∙ ap option_copied c.in-None-None.is-1))

pub returns-in-Less-clause-order : goal.returns-in-Less-clause-order
returns-in-Less-clause-order g t c =
    sym (on_lesser c.args.table.now c.args.other_table.now c.requires.rules.left c.requires.rules.right c.args.id c.args.other c.in-Some-Some.left.now c.in-Some-Some.right.now
    (sym c.node.ensures.node ∙ ap option_copied c.in-Some-Some.is-0) (sym c.node-2.ensures.node ∙ ap option_copied c.in-Some-Some.is-1) (sym c.in-Less.ensures))

pub returns-in-Greater-clause-order : goal.returns-in-Greater-clause-order
returns-in-Greater-clause-order g t c =
    sym (on_greater c.args.table.now c.args.other_table.now c.requires.rules.left c.requires.rules.right c.args.id c.args.other c.in-Some-Some.left.now c.in-Some-Some.right.now
    (sym c.node.ensures.node ∙ ap option_copied c.in-Some-Some.is-0) (sym c.node-2.ensures.node ∙ ap option_copied c.in-Some-Some.is-1) (sym c.in-Greater.ensures))

pub loop-turn-init : goal.loop-turn-init
loop-turn-init g t c = record {
  turns =
      subst (Continues c.args.table.now c.args.other_table.now c.args.id c.args.other) (sym (ap turns_left c.into_iter-turn-iterator.ensures.into_iter_gives ∙ c.side_by_side-turn-items.ensures))
      (begins c.args.table.now c.args.other_table.now c.requires.rules.left c.requires.rules.right c.args.id c.args.other c.in-Some-Some.left.now c.in-Some-Some.right.now
      (sym c.node.ensures.node ∙ ap option_copied c.in-Some-Some.is-0) (sym c.node-2.ensures.node ∙ ap option_copied c.in-Some-Some.is-1) (sym c.in-Equal.ensures));
  known = search rules;
  unbounded = search rules;
}
