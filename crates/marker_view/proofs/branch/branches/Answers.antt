use Rattle.std.proofs.Common.{string_bytes, not, refl, ap, ◌∙◌}
use Rattle.marker_words.specs.declared.operator.ExtraOperator.TheVariants.{Equal, NotEqual}
use Rattle.marker_words.specs.declared.operator.MarkerOperator.TheVariants.{In, NotIn, Contains, NotContains}
use Rattle.marker_parts.specs.Expression as asked
use Rattle.marker_nodes.specs.declared.variable.TruthVariable.TheVariants as questions
use Rattle.marker_graph.specs.Kind.{extra_question}
use Rattle.marker_terms.specs.Plain.{is_plain}
use Rattle.marker_terms.proofs.PlainLaws.{text_printable}
use Rattle.marker_view.specs.Branch.{extra_of_ref}
use Rattle.marker_view.proofs.BranchLaws.{contains_is, extra_is, extra_printable, false_means, inside_is, no_branches, test_holds, text_result, truth_result, version_result}
use Rattle.marker_view.proofs.EdgeLaws.{text_around_result, text_edges_result, version_around_result, version_edges_result}
use Rattle.marker_view.proofs.branch.branches.Goals as goal

pub returns-in-True : goal.returns-in-True
returns-in-True c = no_branches c.args.interner.now c.args.tree c.new.result.items c.new.ensures.items (λ ne v. absurd (ne c.in-True.ensures.shows))

pub returns-in-False : goal.returns-in-False
returns-in-False c = no_branches c.args.interner.now c.args.tree c.new-in-False.result.items c.new-in-False.ensures.items (λ ne v. false_means c.args.interner.now c.args.tree c.in-False.ensures.shows v)

pub returns-then-leads_apart : goal.returns-then-leads_apart
returns-then-leads_apart c =
    version_edges_result c.args.interner.now c.args.tree c.in-Version.view c.in-Version.ensures.shows c.in-Version.ensures.edges c.version_edge_branches.result c.version_edge_branches.ensures.follow c.version_edge_branches.ensures.printable

pub returns-in-None : goal.returns-in-None
returns-in-None c = version_result c.args.interner.now c.keeps_the_rules.ensures.nodes c.args.tree c.requires c.in-Version.view c.in-Version.ensures.shows c.version_branches.result c.version_branches.ensures.lead c.version_branches.ensures.printable

pub returns-then-leads_apart-2 : goal.returns-then-leads_apart-2
returns-then-leads_apart-2 c =
    text_edges_result c.args.interner.now c.args.tree c.in-String.view c.in-String.ensures.shows c.in-String.ensures.edges c.text_edge_branches.result c.text_edge_branches.ensures.follow c.text_edge_branches.ensures.printable

pub returns-in-None-2 : goal.returns-in-None-2
returns-in-None-2 c = text_result c.args.interner.now c.keeps_the_rules.ensures.nodes c.args.tree c.requires c.in-String.view c.in-String.ensures.shows c.text_branches.result c.text_branches.ensures.lead c.text_branches.ensures.printable

pub returns-in-Some : goal.returns-in-Some
returns-in-Some c =
    version_around_result c.args.interner.now c.args.tree c.in-Version.view c.in-Version.ensures.shows c.in-Version.ensures.edges c.in_ok-branches-in-Version.field-0 c.in-Some.branches c.in-Some.is
    c.in_ok-branches-in-Version.ensures.follow c.in_ok-branches-in-Version.ensures.printable

pub returns-in-Some-2 : goal.returns-in-Some-2
returns-in-Some-2 c =
    text_around_result c.args.interner.now c.args.tree c.in-String.view c.in-String.ensures.shows c.in-String.ensures.edges c.in_ok-branches-in-String.field-0 c.in-Some-2.branches c.in-Some-2.is
    c.in_ok-branches-in-String.ensures.follow c.in_ok-branches-in-String.ensures.printable

pub returns-in-In : goal.returns-in-In
returns-in-In c =
    let x = c.in-In.view.variable in
    let bytes = string_bytes c.in-In.view.text.now in
    truth_result c.args.interner.now c.keeps_the_rules.ensures.nodes c.args.tree c.requires (questions.In x c.in-In.view.text.now) c.edge.result c.edge-in-In.result c.in-In.view.high c.in-In.view.low c.in-In.ensures.shows c.edge.ensures c.edge-in-In.ensures
    (asked.text c.key.result In c.value.result.now) (asked.text c.key.result NotIn c.value.result.now)
    (λ v. test_holds In c.key.result x c.value.result.now bytes c.key.ensures c.value.ensures v ∙ inside_is x bytes v)
    (λ v. test_holds NotIn c.key.result x c.value.result.now bytes c.key.ensures c.value.ensures v ∙ ap not (inside_is x bytes v))
    (λ h term e. text_printable term In c.key.result c.value.result.now e refl (ap is_plain c.value.ensures ∙ h))
    (λ h term e. text_printable term NotIn c.key.result c.value.result.now e refl (ap is_plain c.value.ensures ∙ h))
    c.text_answers.result c.text_answers.ensures

pub returns-in-Contains : goal.returns-in-Contains
returns-in-Contains c =
    let x = c.in-Contains.view.variable in
    let bytes = string_bytes c.in-Contains.view.text.now in
    truth_result c.args.interner.now c.keeps_the_rules.ensures.nodes c.args.tree c.requires (questions.Contains x c.in-Contains.view.text.now) c.edge-in-Contains.result c.edge-in-Contains-2.result c.in-Contains.view.high c.in-Contains.view.low c.in-Contains.ensures.shows c.edge-in-Contains.ensures c.edge-in-Contains-2.ensures
    (asked.text c.key-in-Contains.result Contains c.value-in-Contains.result.now) (asked.text c.key-in-Contains.result NotContains c.value-in-Contains.result.now)
    (λ v. test_holds Contains c.key-in-Contains.result x c.value-in-Contains.result.now bytes c.key-in-Contains.ensures c.value-in-Contains.ensures v ∙ contains_is x bytes v)
    (λ v. test_holds NotContains c.key-in-Contains.result x c.value-in-Contains.result.now bytes c.key-in-Contains.ensures c.value-in-Contains.ensures v ∙ ap not (contains_is x bytes v))
    (λ h term e. text_printable term Contains c.key-in-Contains.result c.value-in-Contains.result.now e refl (ap is_plain c.value-in-Contains.ensures ∙ h))
    (λ h term e. text_printable term NotContains c.key-in-Contains.result c.value-in-Contains.result.now e refl (ap is_plain c.value-in-Contains.ensures ∙ h))
    c.text_answers-in-Contains.result c.text_answers-in-Contains.ensures

pub returns-in-Extra : goal.returns-in-Extra
returns-in-Extra c =
    let ref = c.in-Extra.view.name in
    let name = c.name-in-Extra.result in
    truth_result c.args.interner.now c.keeps_the_rules.ensures.nodes c.args.tree c.requires (extra_question ref) c.edge-in-Extra.result c.edge-in-Extra-2.result c.in-Extra.view.high c.in-Extra.view.low c.in-Extra.ensures.shows c.edge-in-Extra.ensures c.edge-in-Extra-2.ensures
    (asked.extra Equal (extra_of_ref name)) (asked.extra NotEqual (extra_of_ref name))
    (λ v. extra_is name ref v c.name-in-Extra.ensures)
    (λ v. ap not (extra_is name ref v c.name-in-Extra.ensures))
    (λ h term e. extra_printable term Equal name c.name.result ref e c.name-in-Extra.ensures c.name.ensures c.names_are_normal.ensures h)
    (λ h term e. extra_printable term NotEqual name c.name.result ref e c.name-in-Extra.ensures c.name.ensures c.names_are_normal.ensures h)
    c.extra_answers.result c.extra_answers.ensures
