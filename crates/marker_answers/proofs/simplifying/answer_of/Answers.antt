use Rattle.std.proofs.Common.{Option, not, refl, ap, subst, ◌∙◌}
use Rattle.std.specs.Prelude.{String, option_map, string_bytes}
use Rattle.std.specs.Global.{Global}
use Rattle.marker_graph.specs.Contents.{truth}
use Rattle.marker_graph.specs.declared.tree.TheConstants.MarkerTree.{FALSE}
use Rattle.marker_graph.proofs.Firsts.{true_is}
use Rattle.marker_view.specs.Text.{TellsText}
use Rattle.marker_answers.proofs.GrantLaws.{other_is_true}
use Rattle.marker_answers.proofs.simplifying.answer_of.Goals as goal

pub returns-then-equivalent : goal.returns-then-equivalent
returns-then-equivalent c = λ v. ap (λ t. truth c.args.interner.now t v) (c.if-equivalent.ensures.same.0 refl) ∙ ap not (true_is c.args.interner.now.nodes v)

pub returns-in-Some : goal.returns-in-Some
returns-in-Some c =
    let told = c.if-equivalent.ensures.separated refl in
    let P : Option (String Global) → Type 0 = λ text. TellsText (truth c.args.interner.now c.args.marker) (option_map string_bytes text) in (
      (told.0, other_is_true (truth c.args.interner.now c.args.marker told.0) (truth c.args.interner.now FALSE told.0) (ap not (true_is c.args.interner.now.nodes told.0)) told.1),
      subst P c.in-Some.is c.in_ok-text.ensures,
    )
