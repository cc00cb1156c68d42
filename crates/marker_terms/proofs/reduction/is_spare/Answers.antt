use Rattle.std.proofs.Common.{◌≡◌, Bool, true, false, refl, sym, subst, ◌∙◌}
use Rattle.std.specs.List.{Contains}
use Rattle.marker_terms.specs.Numbered.{left_of, number_of}
use Rattle.marker_terms.specs.Reduction.{is_spare}
use Rattle.marker_terms.proofs.NearLaws.{none_spare}
use Rattle.marker_terms.proofs.reduction.is_spare.Goals as goal

pub returns : goal.returns
returns c = by_answer c.has_all_of_one-2.result refl
  where
    by_answer : (b : Bool) → c.has_all_of_one-2.result ≡ b → c.has_all_of_one-2.result ≡ is_spare number_of (left_of c.args.others.now) c.args.clause.now
    by_answer true r = r ∙ sym (c.has_all_of_one-2.ensures.found r)
    by_answer false r = r ∙ sym (none_spare c.args.endings.now c.args.others.now c.args.clause.now c.in_ok-near.near.items c.requires c.in_ok-near.ensures (λ j k h q. c.has_all_of_one.ensures.none c.if-has_all_of_one.false j k (subst (λ xs. Contains xs j) (sym c.always_listed.ensures) h) q) (λ j k h q. c.has_all_of_one-2.ensures.none r j k (subst (λ xs. Contains xs j) (sym c.deref.ensures.value) h) q))
