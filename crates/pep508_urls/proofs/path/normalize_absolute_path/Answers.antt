use Rattle.std.proofs.Common.{◌≡◌, ℕ, ◌+◌, ◌-◌, take, List, [], ◌++◌, length, map, drop, sym, ap, ◌∙◌, lit<, Some, Bor, string_bytes, arith}
use Rattle.std.specs.Prelude.{reverse, option_map, Option, vec_len}
use Rattle.std.specs.List.{join_with_byte}
use Rattle.std.specs.Option.{option_to_list}
use Rattle.std.proofs.lemmas.Option.{MatchOption-at_none}
use Rattle.std.proofs.lemmas.List.{length_push, append-nil, drop_all, reverse-reverse}
use Rattle.std.proofs.lemmas.Iterator.Splits.{YieldsList-from_str_split}
use Rattle.std.proofs.lemmas.Iterator.Consumers.{YieldsList-turn, YieldsList-end}
use Rattle.pep508_urls.specs.Path.{parts, walk, path_text, root}
use Rattle.pep508_urls.proofs.PathLaws.{step_stays, step_leaves, step_lost, step_enters}
use Rattle.pep508_urls.proofs.path.normalize_absolute_path.Goals as goal

pub loop-part-preserved-then-stays : goal.loop-part-preserved-then-stays
loop-part-preserved-then-stays c =
    let all : List (List ℕ) = parts c.args.path.now in
    let t = YieldsList-turn (YieldsList-from_str_split 47 c.args.path.now (lit< tt) (cc) (cc) (cc)) c.loop-part.yielded _ c.loop-part.yielded_by _ _ c.in-Some.part c.in-Some.is c.next.ensures.steps in
    record {
      can_next = tt;
      is_finite = tt;
      walks = ap (λ (n : ℕ). walk (reverse (map (λ part. part.now) c.loop-part.folder.items)) (drop n all)) (length_push c.loop-part.yielded c.in-Some.part)
          ∙ step_stays _ all (length c.loop-part.yielded) c.in-Some.part.now t (sym c.stays.ensures ∙ c.if-stays.true)
          ∙ c.loop-part.invariant.walks;
    }

pub loop-part-preserved-in-Some-pop : goal.loop-part-preserved-in-Some-pop
loop-part-preserved-in-Some-pop c =
    let all : List (List ℕ) = parts c.args.path.now in
    let t = YieldsList-turn (YieldsList-from_str_split 47 c.args.path.now (lit< tt) (cc) (cc) (cc)) c.loop-part.yielded _ c.loop-part.yielded_by _ _ c.in-Some.part c.in-Some.is c.next.ensures.steps in
    let popped = c.pop.ensures.items ∙ ap (λ (o : Option (Bor (List ℕ))). c.pop.new.self.items ++ option_to_list o) c.in-Some-pop.is in
    record {
      can_next = tt;
      is_finite = tt;
      walks = ap (λ (n : ℕ). walk (reverse (map (λ part. part.now) c.pop.new.self.items)) (drop n all)) (length_push c.loop-part.yielded c.in-Some.part)
          ∙ step_leaves (λ part. part.now) c.loop-part.folder.items c.pop.new.self.items _ all (length c.loop-part.yielded) c.in-Some.part.now t (sym c.stays.ensures ∙ c.if-stays.false) (sym c.leaves.ensures ∙ c.if-leaves.true) popped
          ∙ c.loop-part.invariant.walks;
    }

pub returns-in_default-clause-fault : goal.returns-in_default-clause-fault
returns-in_default-clause-fault c =
    let all : List (List ℕ) = parts c.args.path.now in
    let t = YieldsList-turn (YieldsList-from_str_split 47 c.args.path.now (lit< tt) (cc) (cc) (cc)) c.loop-part.yielded _ c.loop-part.yielded_by _ _ c.in-Some.part c.in-Some.is c.next.ensures.steps in
    let empty = (MatchOption-at_none _ _ c.in_default.is c.pop.ensures.cases).0 in
    let size : vec_len c.loop-part.folder - 1 ≡ 0 = omega (arith, empty) in
    let none : c.loop-part.folder.items ≡ [] = c.pop.ensures.items ∙ ap (λ (o : Option (Bor (List ℕ))). c.pop.new.self.items ++ option_to_list o) c.in_default.is ∙ append-nil c.pop.new.self.items ∙ c.pop.ensures.rest ∙ ap (λ (n : ℕ). take n c.loop-part.folder.items) size in
    ap (option_map (path_text (root c.args.path.now)))
    (sym c.loop-part.invariant.walks ∙ step_lost (λ part. part.now) c.loop-part.folder.items all (length c.loop-part.yielded) c.in-Some.part.now t (sym c.stays.ensures ∙ c.if-stays.false) (sym c.leaves.ensures ∙ c.if-leaves.true) none)

pub loop-part-preserved : goal.loop-part-preserved
loop-part-preserved c =
    let all : List (List ℕ) = parts c.args.path.now in
    let t = YieldsList-turn (YieldsList-from_str_split 47 c.args.path.now (lit< tt) (cc) (cc) (cc)) c.loop-part.yielded _ c.loop-part.yielded_by _ _ c.in-Some.part c.in-Some.is c.next.ensures.steps in
    record {
      can_next = tt;
      is_finite = tt;
      walks = ap (λ (n : ℕ). walk (reverse (map (λ part. part.now) c.push.new.self.items)) (drop n all)) (length_push c.loop-part.yielded c.in-Some.part)
          ∙ ap (λ (x : List (Bor (List ℕ))). walk (reverse (map (λ part. part.now) x)) (drop (length c.loop-part.yielded + 1) all)) c.in_ok-push.ensures.items
          ∙ step_enters (λ part. part.now) c.loop-part.folder.items c.in-Some.part all (length c.loop-part.yielded) t (sym c.stays.ensures ∙ c.if-stays.false) (sym c.leaves.ensures ∙ c.if-leaves.false)
          ∙ c.loop-part.invariant.walks;
    }

pub returns-clause-value : goal.returns-clause-value
returns-clause-value c =
    let all : List (List ℕ) = parts c.args.path.now in
    let folder : List (List ℕ) = reverse (map (λ part. part.now) c.loop-part.folder.items) in
    let ended = YieldsList-end (YieldsList-from_str_split 47 c.args.path.now (lit< tt) (cc) (cc) (cc)) c.loop-part.yielded _ c.loop-part.yielded_by _ _ c.in-None.is c.next.ensures.steps in
    let walks : walk [] all ≡ Some folder = sym c.loop-part.invariant.walks ∙ ap (walk folder) (drop_all (length c.loop-part.yielded) all (omega (arith, ended.1))) in
    let joined : path_text (root c.args.path.now) folder ≡ string_bytes c.push_joined.new.text =
    ap (λ (x : List (List ℕ)). root c.args.path.now ++ join_with_byte 47 x) (reverse-reverse (map (λ part. part.now) c.loop-part.folder.items))
    ∙ sym (c.in_ok-push_joined.ensures
    ∙ ap (λ (x : List ℕ). x ++ join_with_byte 47 (map (λ part. part.now) c.as_slice.result.now)) (c.in_ok-text.ensures.ok ∙ c.root.ensures)
    ∙ ap (λ (x : List (Bor (List ℕ))). root c.args.path.now ++ join_with_byte 47 (map (λ part. part.now) x)) c.as_slice.ensures.value) in
    ap (option_map (path_text (root c.args.path.now))) walks ∙ ap Some joined
