use Rattle.std.proofs.Common.{◌≡◌, ◌++◌, length-drop, ◌+◌, ◌-◌, ◌∷◌, [], drop, length, sym, ap, ◌∙◌, subst, arith}
use Rattle.std.proofs.Math.ListN.{drop_of_length-le}
use Rattle.std.proofs.lemmas.List.{drop_more, take_all}
use Rattle.formatting_commands.proofs.ApplyingLaws.{Making, making_more, making_ended}
use Rattle.formatting_commands.proofs.applying.apply_edits.Goals as goal

pub loop-edit-preserved : goal.loop-edit-preserved
loop-edit-preserved c =
    let e = c.edit-item.result in
    let i = c.loop-edit.edit-index in
    let all = c.args.edits.now in
    let left : drop i all ≡ e ∷ drop (i + 1) all = drop_more all i e (omega arith) ∙ ap (λ x. x ∷ drop (i + 1) all) (sym c.edit-item.is) in
    record {
      within = omega arith;
      making = making_more e (drop (i + 1) all) c.loop-edit.at
          (subst (λ x. Making c.args.bytes.now all (drop c.loop-edit.at c.args.bytes.now) x c.loop-edit.new.items) left c.loop-edit.invariant.making)
          (omega arith) (omega arith) (omega arith) (cc (c.in_ok-extend_from_slice.ensures.items, c.as_bytes.ensures.value, c.in_ok-extend_from_slice-2.ensures.items));
    }

pub returns : goal.returns
returns c =
    let i = c.loop-edit.edit-index in
    let all = c.args.edits.now in
    let none : drop i all ≡ [] = drop_of_length-le all (omega arith) in
    making_ended (drop c.loop-edit.at c.args.bytes.now)
    (subst (λ x. Making c.args.bytes.now all (drop c.loop-edit.at c.args.bytes.now) x c.loop-edit.new.items) none c.loop-edit.invariant.making)
    (c.in_ok-extend_from_slice-3.ensures.items ∙ ap (λ x. c.loop-edit.new.items ++ x) (take_all (length c.args.bytes.now - c.loop-edit.at) (drop c.loop-edit.at c.args.bytes.now) (omega (arith, length-drop c.loop-edit.at c.args.bytes.now))))
