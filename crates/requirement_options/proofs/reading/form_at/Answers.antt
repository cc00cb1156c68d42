use Rattle.std.proofs.Common.{◌≡◌, ap, ◌∙◌, subst}
use Rattle.std.specs.Prelude.{IfOk, string_bytes}
use Rattle.requirement_options.specs.Kinds as kinds
use Rattle.requirement_options.specs.Forms.{argument_in}
use Rattle.requirement_options.specs.Reading as spec
use Rattle.requirement_options.specs.Found as state
use Rattle.requirement_options.specs.declared.naming.Naming.{Naming}
use Rattle.requirement_options.proofs.reading.form_at.Goals as goal

pub returns : goal.returns
returns c =
    let P : Naming → Type 0 = λ naming. IfOk c.long_at.result (λ effect. state.effect_in effect ≡ spec.long_at naming c.args.place (argument_in c.in-Long.argument)) in
    let meant : c.long_option-naming.result ≡ kinds.long_option (string_bytes c.in-Long.name) = c.long_option-naming.ensures ∙ ap kinds.long_option c.as_str.ensures.value in
    rw c.in-Long.is (subst P meant c.long_at.ensures)
