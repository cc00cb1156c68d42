use Rattle.std.proofs.Common.{◌≡◌, List, rules, subst}
use Rattle.std.specs.Prelude.{IfSome, Some, slice_get}
use Rattle.foreign_markers.specs.declared.markers.Growth.{Growth}
use Rattle.foreign_markers.specs.Held.{AreBeforeNumber}
use Rattle.foreign_markers.proofs.NumberLaws.{first_grown, first_held, first_truths}
use Rattle.foreign_markers.proofs.markers.Markers.release.Goals as goal

pub invariant_of-self : goal.invariant_of-self
invariant_of-self c =
    let self = c.args.self.now in
    let n = c.args.count in
    let k = c.count_before-first.result in
    let parted = subst (λ (gs : List Growth). AreBeforeNumber n gs k) c.as_slice-growths.ensures.value c.count_before-first.ensures.parted in
    let first = c.growth_at.result in
    let found = subst (λ (gs : List Growth). IfSome first (λ (g : Growth). slice_get gs k ≡ Some g)) c.as_slice-growths.ensures.value c.growth_at.ensures in
    record {
      held = first_held self.interner c.release_to.new.interner self.trees.items self.growths.items n k first found c.release_to.ensures.held parted self.held self.grown c.truncate-2.ensures.items;
      grown = first_grown self.trees.items self.growths.items n k c.truncate-2.ensures.items c.truncate.ensures.items parted (search rules) self.grown;
    }

pub returns-clause-first : goal.returns-clause-first
returns-clause-first c =
    let self = c.args.self.now in
    let n = c.args.count in
    let k = c.count_before-first.result in
    let parted = subst (λ (gs : List Growth). AreBeforeNumber n gs k) c.as_slice-growths.ensures.value c.count_before-first.ensures.parted in
    let first = c.growth_at.result in
    let found = subst (λ (gs : List Growth). IfSome first (λ (g : Growth). slice_get gs k ≡ Some g)) c.as_slice-growths.ensures.value c.growth_at.ensures in
    first_truths self.interner c.release_to.new.interner self.trees.items self.growths.items n k first c.release_to.ensures.kept found c.release_to.ensures.held parted self.held self.grown c.truncate-2.ensures.items
