use Rattle.std.proofs.Common.{◌≡◌, ◌+◌, ◌∷◌, ◌++◌, [], sym, subst, ◌∙◌, arith}
use Rattle.std.proofs.lemmas.Grind.{common_steps}
use Rattle.project_files.specs.Found.{entries_in}
use Rattle.project_files.specs.Steps.{found_after, places_after}
use Rattle.project_files.proofs.ExpansionLaws.{Walks, walks_first, walks_step, walks_all, no_places}
use Rattle.project_files.proofs.expansion.expand_list.Goals as goal

pub loop-step-init : goal.loop-step-init
loop-step-init c =
    let es = entries_in c.args.entries.now in
    record {
      walks = subst (λ found. Walks es c.args.start found c.in_ok-vec.field-0.items) (sym c.new.ensures.items)
          (subst (Walks es c.args.start []) (sym c.in_ok-vec.ensures.items) (walks_first es c.args.start));
      within = grind (arith, common_steps);
    }

pub loop-step-preserved : goal.loop-step-preserved
loop-step-preserved c =
    let es = entries_in c.args.entries.now in
    let start = c.args.start in
    let found = c.loop-step.walk.found.items in
    let place = c.in-Some.place in
    let rest = c.pop.new.self.items in
    let takes = c.in_ok-take.ensures c.if-not-branch.false in
    let before : Walks es start found (rest ++ place ∷ []) = subst (Walks es start found) c.in-Some.ensures.items c.loop-step.invariant.walks in
    let next : c.in-Some-checked_add.next ≡ place + 1 = grind (arith, common_steps) in
    let after = walks_step es start place found rest c.in_ok-step.step c.in_ok-step.ensures takes.expands before in
    let here : Walks es start (found_after found place c.in_ok-step.step) (places_after rest c.in-Some-checked_add.next c.in_ok-step.step) =
    subst (λ n. Walks es start (found_after found place c.in_ok-step.step) (places_after rest n c.in_ok-step.step)) (sym next) after in
    record {
      walks = subst (λ xs. Walks es start xs c.take.new.self.places.items) (sym takes.found)
          (subst (Walks es start (found_after found place c.in_ok-step.step)) (sym takes.places) here);
      within = grind (arith, common_steps);
    }

pub returns-in_default-clause-expands : goal.returns-in_default-clause-expands
returns-in_default-clause-expands c =
    let es = entries_in c.args.entries.now in
    let places = c.loop-step.walk.places in
    walks_all es c.args.start c.loop-step.walk.found.items places.items (no_places places.items (sym places.ok.0 ∙ c.in_default.ensures.cases.0)) c.loop-step.invariant.walks
