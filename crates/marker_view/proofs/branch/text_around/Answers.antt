use Rattle.std.proofs.Common.{◌≡◌, true, not, refl, ap, subst, sym, ◌∙◌}
use Rattle.std.specs.Prelude.{⊤}
use Rattle.std.specs.declared.ops.Bound.TheVariants.{Unbounded}
use Rattle.version_ranges.specs.Bounds.{passes_at}
use Rattle.version_ranges.specs.Parts.{is_in}
use Rattle.version_ranges.specs.Point.{is_in_bounds}
use Rattle.marker_words.specs.Compare.{text_bound, text_cmp}
use Rattle.marker_words.specs.Key.{variable_of}
use Rattle.marker_environment.specs.Valuation.{Valuation}
use Rattle.marker_terms.specs.Clauses.{clauses_of, term_holds}
use Rattle.marker_terms.specs.Plain.{is_plain, HavePrintableTerms, IsPrintable}
use Rattle.marker_terms.proofs.PlainLaws.{each_pushed, found_has}
use Rattle.marker_terms.proofs.SetLaws.{none_left}
use Rattle.marker_terms.proofs.TextLaws.{interval_is, text_bound_is}
use Rattle.marker_graph.specs.Edges.{string_edge, string_edges_left}
use Rattle.marker_graph.specs.Kind.{string_edges}
use Rattle.marker_view.specs.declared.branch.Branch.{Branch}
use Rattle.marker_view.specs.Branch.{HavePrintableBranches}
use Rattle.marker_view.proofs.BranchLaws.{modern_is}
use Rattle.marker_view.proofs.EdgeLaws.{around_false, around_one, same_tree, second_passes, text_edges_pass, three_edges}
use Rattle.marker_view.proofs.branch.text_around.Goals as goal

pub returns-then-is_false-clause-follow : goal.returns-then-is_false-clause-follow
returns-then-is_false-clause-follow c =
    let first = string_edge (c.in-Some.field-0-0, c.in-Some.field-0-1, c.in-Some.around) in
    let second = string_edge (c.in-Some-next.lower, c.in-Some-next.upper, c.in-Some-next.child) in
    let third = string_edge (c.in-Some-next-2.field-0-0, c.in-Some-next-2.field-0-1, c.in-Some-next-2.last) in
    let three = three_edges (string_edges c.args.view) _ _ _ _ first second third (sym c.children-edges.ensures) c.in-Some.ensures.steps c.in-Some-next.ensures.steps c.in-Some-next-2.ensures.steps
    (none_left string_edge c.next-4.result (string_edges_left c.next-3.new.self) (string_edges_left c.next-4.new.self) (sym c.is_some.ensures ∙ c.if-is_some.false) c.next-4.ensures.steps) in
    around_false text_cmp (λ v. v.text c.args.view.variable) ⊤ (string_edges c.args.view) first second third three
    (same_tree c.in-Some.around c.in-Some-next-2.last c.ne.result c.ne.ensures c.if-ne.false)
    c.in_ok-branches.branches.items c.push.new.self.items c.in_ok-outer.outer c.in-Some-2.term c.in_ok-branches.ensures.items c.in_ok-push.ensures.items c.in_ok-outer.ensures
    (λ r v.
    found_has (λ t. (v : Valuation) → term_holds t v ≡ not (is_in_bounds text_cmp (text_bound c.in-Some-next.lower) (text_bound c.in-Some-next.upper) (v.text (variable_of c.key.result))))
    c.in_ok-term.field-0 c.in-Some-2.term c.in-Some-2.is c.in_ok-term.ensures.means v
    ∙ ap not (sym (interval_is c.in-Some-next.lower c.in-Some-next.upper (v.text (variable_of c.key.result)))
    ∙ ap (λ k. is_in text_cmp second (v.text (variable_of k))) c.key.ensures ∙ ap (λ x. is_in text_cmp second (v.text x)) (modern_is c.args.view.variable)))
    (c.is_false.ensures.0 c.if-is_false.true)

pub returns-then-is_false-clause-printable : goal.returns-then-is_false-clause-printable
returns-then-is_false-clause-printable c h =
    let first = string_edge (c.in-Some.field-0-0, c.in-Some.field-0-1, c.in-Some.around) in
    let second = string_edge (c.in-Some-next.lower, c.in-Some-next.upper, c.in-Some-next.child) in
    let third = string_edge (c.in-Some-next-2.field-0-0, c.in-Some-next-2.field-0-1, c.in-Some-next-2.last) in
    let three = three_edges (string_edges c.args.view) _ _ _ _ first second third (sym c.children-edges.ensures) c.in-Some.ensures.steps c.in-Some-next.ensures.steps c.in-Some-next-2.ensures.steps
    (none_left string_edge c.next-4.result (string_edges_left c.next-3.new.self) (string_edges_left c.next-4.new.self) (sym c.is_some.ensures ∙ c.if-is_some.false) c.next-4.ensures.steps) in
    let q = second_passes is_plain (string_edges c.args.view) first second third three (text_edges_pass is_plain c.args.view.tree Unbounded c.args.view.cuts.now.first c.args.view.cuts.now.rest.items refl h) in
    let lower = sym (ap (passes_at is_plain) (text_bound_is c.in-Some-next.lower)) ∙ q.0 in
    let term = found_has (λ t. passes_at is_plain (text_bound c.in-Some-next.lower) ≡ true → IsPrintable t) c.in_ok-term.field-0 c.in-Some-2.term c.in-Some-2.is c.in_ok-term.ensures.printable lower in
    let one = each_pushed (λ (x : Branch). HavePrintableTerms (clauses_of x.clauses.items)) c.in_ok-branches.branches.items c.push.new.self.items c.in_ok-outer.outer c.in_ok-push.ensures.items
    (subst HavePrintableBranches (sym c.in_ok-branches.ensures.items) tt) (subst HavePrintableTerms (sym c.in_ok-outer.ensures.0) ((term, tt), tt)) in
    one

pub returns-clause-follow : goal.returns-clause-follow
returns-clause-follow c =
    let first = string_edge (c.in-Some.field-0-0, c.in-Some.field-0-1, c.in-Some.around) in
    let second = string_edge (c.in-Some-next.lower, c.in-Some-next.upper, c.in-Some-next.child) in
    let third = string_edge (c.in-Some-next-2.field-0-0, c.in-Some-next-2.field-0-1, c.in-Some-next-2.last) in
    let three = three_edges (string_edges c.args.view) _ _ _ _ first second third (sym c.children-edges.ensures) c.in-Some.ensures.steps c.in-Some-next.ensures.steps c.in-Some-next-2.ensures.steps
    (none_left string_edge c.next-4.result (string_edges_left c.next-3.new.self) (string_edges_left c.next-4.new.self) (sym c.is_some.ensures ∙ c.if-is_some.false) c.next-4.ensures.steps) in
    let b : Branch = record { clauses = c.in_ok-clauses.clauses; child = c.in-Some-next.child } in
    around_one text_cmp (λ v. v.text c.args.view.variable) ⊤ (string_edges c.args.view) first second third three
    (same_tree c.in-Some.around c.in-Some-next-2.last c.ne.result c.ne.ensures c.if-ne.false)
    c.in_ok-branches.branches.items c.push.new.self.items c.in_ok-outer.outer c.in-Some-2.term c.in_ok-branches.ensures.items c.in_ok-push.ensures.items c.in_ok-outer.ensures
    (λ r v.
    found_has (λ t. (v : Valuation) → term_holds t v ≡ not (is_in_bounds text_cmp (text_bound c.in-Some-next.lower) (text_bound c.in-Some-next.upper) (v.text (variable_of c.key.result))))
    c.in_ok-term.field-0 c.in-Some-2.term c.in-Some-2.is c.in_ok-term.ensures.means v
    ∙ ap not (sym (interval_is c.in-Some-next.lower c.in-Some-next.upper (v.text (variable_of c.key.result)))
    ∙ ap (λ k. is_in text_cmp second (v.text (variable_of k))) c.key.ensures ∙ ap (λ x. is_in text_cmp second (v.text x)) (modern_is c.args.view.variable)))
    c.push-2.new.self.items b c.in_ok-push-2.ensures.items refl
    (λ r v.
    c.in_ok-clauses.ensures.means v ∙ c.in_ok-terms.ensures.means v ∙ sym (interval_is c.in-Some-next.lower c.in-Some-next.upper (v.text (variable_of c.key-2.result)))
    ∙ ap (λ k. is_in text_cmp second (v.text (variable_of k))) c.key-2.ensures ∙ ap (λ x. is_in text_cmp second (v.text x)) (modern_is c.args.view.variable))

pub returns-clause-printable : goal.returns-clause-printable
returns-clause-printable c h =
    let first = string_edge (c.in-Some.field-0-0, c.in-Some.field-0-1, c.in-Some.around) in
    let second = string_edge (c.in-Some-next.lower, c.in-Some-next.upper, c.in-Some-next.child) in
    let third = string_edge (c.in-Some-next-2.field-0-0, c.in-Some-next-2.field-0-1, c.in-Some-next-2.last) in
    let three = three_edges (string_edges c.args.view) _ _ _ _ first second third (sym c.children-edges.ensures) c.in-Some.ensures.steps c.in-Some-next.ensures.steps c.in-Some-next-2.ensures.steps
    (none_left string_edge c.next-4.result (string_edges_left c.next-3.new.self) (string_edges_left c.next-4.new.self) (sym c.is_some.ensures ∙ c.if-is_some.false) c.next-4.ensures.steps) in
    let q = second_passes is_plain (string_edges c.args.view) first second third three (text_edges_pass is_plain c.args.view.tree Unbounded c.args.view.cuts.now.first c.args.view.cuts.now.rest.items refl h) in
    let lower = sym (ap (passes_at is_plain) (text_bound_is c.in-Some-next.lower)) ∙ q.0 in
    let term = found_has (λ t. passes_at is_plain (text_bound c.in-Some-next.lower) ≡ true → IsPrintable t) c.in_ok-term.field-0 c.in-Some-2.term c.in-Some-2.is c.in_ok-term.ensures.printable lower in
    let one = each_pushed (λ (x : Branch). HavePrintableTerms (clauses_of x.clauses.items)) c.in_ok-branches.branches.items c.push.new.self.items c.in_ok-outer.outer c.in_ok-push.ensures.items
    (subst HavePrintableBranches (sym c.in_ok-branches.ensures.items) tt) (subst HavePrintableTerms (sym c.in_ok-outer.ensures.0) ((term, tt), tt)) in
    let b : Branch = record { clauses = c.in_ok-clauses.clauses; child = c.in-Some-next.child } in
    each_pushed (λ (x : Branch). HavePrintableTerms (clauses_of x.clauses.items)) c.push.new.self.items c.push-2.new.self.items b c.in_ok-push-2.ensures.items one
    (c.in_ok-clauses.ensures.printable (c.in_ok-terms.ensures.printable lower (sym (ap (passes_at is_plain) (text_bound_is c.in-Some-next.upper)) ∙ q.1)))
