use Rattle.std.proofs.Common.{sym, ap, ◌∙◌}
use Rattle.std.specs.Prelude.{Some, string_bytes}
use Rattle.std.proofs.lemmas.Bool.{eq-eqb, ne_eqb}
use Rattle.requirement_options.specs.Forms.{long}
use Rattle.requirement_options.proofs.FormLaws.{reads_more, reads_equals, reads_all}
use Rattle.requirement_options.proofs.form.long_form.Goals as goal

pub loop-c-preserved : goal.loop-c-preserved
loop-c-preserved c = reads_more _ c.loop-c.invariant c.in-Some.ensures.0 (ne_eqb _ _ c.if-c-eq61.false) c.in_ok-push.ensures.bytes

pub returns-then-c-eq61 : goal.returns-then-c-eq61
returns-then-c-eq61 c =
    ap (λ x. long (string_bytes c.loop-c.name) (Some x)) c.in_ok-argument.ensures
    ∙ sym (reads_equals _ c.loop-c.invariant c.in-Some.ensures.0 (eq-eqb _ _ c.if-c-eq61.true))

pub returns : goal.returns
returns c = sym (reads_all c.loop-c.invariant c.in_default.ensures)
