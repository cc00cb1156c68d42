use Rattle.std.proofs.Common.{◌≡◌, ◌++◌, ◌∷◌, [], ℕ, List, take, length, string_bytes, sym, ap, ◌∙◌, append_assoc, arith, lit<}
use Rattle.std.specs.List.{flat_map}
use Rattle.std.proofs.lemmas.Bool.{cond-true, cond-false}
use Rattle.std.proofs.lemmas.List.{take_all, length_push, append-nil}
use Rattle.std.proofs.lemmas.Iterator.Splits.{YieldsList-from_str_split}
use Rattle.std.proofs.lemmas.Iterator.Consumers.{YieldsList-turn, YieldsList-end}
use Rattle.percent_encoding.specs.Percent.{percent_encode}
use Rattle.pep508_urls.specs.declared.path.TheConstants.{FILE_PART}
use Rattle.pep508_urls.specs.Path.{parts, file_part}
use Rattle.pep508_urls.proofs.PathLaws.{file_more}
use Rattle.pep508_urls.proofs.path.file_path.Goals as goal

pub loop-part-preserved-in-Continue-branch-2 : goal.loop-part-preserved-in-Continue-branch-2
unfolding lib.Utf8.encode
loop-part-preserved-in-Continue-branch-2 c =
    let all : List (List ℕ) = parts c.args.path.now in
    let t = YieldsList-turn (YieldsList-from_str_split 47 c.args.path.now (lit< tt) (cc) (cc) (cc)) c.loop-part.yielded _ c.loop-part.yielded_by _ _ c.in-Some.part c.in-Some.is c.next.ensures.steps in
    let old : List ℕ = flat_map file_part (take (length c.loop-part.yielded) all) in
    let piece : file_part c.in-Some.part.now ≡ 47 ∷ percent_encode FILE_PART c.in-Some.part.now = cond-false _ _ _ (sym c.stays.ensures ∙ c.if-not-stays.true) in
    c.in_ok-append_to.ensures.ok
    ∙ ap (λ (x : List ℕ). string_bytes c.push.new.self ++ x) c.utf8_percent_encode.ensures.text
    ∙ ap (λ (x : List ℕ). x ++ percent_encode FILE_PART c.in-Some.part.now) (c.in_ok-push.ensures.bytes ∙ ap (λ (x : List ℕ). x ++ (47 ∷ [])) c.loop-part.invariant)
    ∙ append_assoc old (47 ∷ []) (percent_encode FILE_PART c.in-Some.part.now)
    ∙ ap (λ (x : List ℕ). old ++ x) (sym piece)
    ∙ sym (ap (λ (n : ℕ). flat_map file_part (take n all)) (length_push c.loop-part.yielded c.in-Some.part) ∙ file_more all (length c.loop-part.yielded) c.in-Some.part.now t)

pub loop-part-preserved : goal.loop-part-preserved
loop-part-preserved c =
    let all : List (List ℕ) = parts c.args.path.now in
    let t = YieldsList-turn (YieldsList-from_str_split 47 c.args.path.now (lit< tt) (cc) (cc) (cc)) c.loop-part.yielded _ c.loop-part.yielded_by _ _ c.in-Some.part c.in-Some.is c.next.ensures.steps in
    let old : List ℕ = flat_map file_part (take (length c.loop-part.yielded) all) in
    let piece : file_part c.in-Some.part.now ≡ [] = cond-true _ _ _ (sym c.stays.ensures ∙ c.if-not-stays.false) in
    c.loop-part.invariant ∙ sym (append-nil old) ∙ ap (λ (x : List ℕ). old ++ x) (sym piece)
    ∙ sym (ap (λ (n : ℕ). flat_map file_part (take n all)) (length_push c.loop-part.yielded c.in-Some.part) ∙ file_more all (length c.loop-part.yielded) c.in-Some.part.now t)

pub returns : goal.returns
returns c =
    let all : List (List ℕ) = parts c.args.path.now in
    let ended = YieldsList-end (YieldsList-from_str_split 47 c.args.path.now (lit< tt) (cc) (cc) (cc)) c.loop-part.yielded _ c.loop-part.yielded_by _ _ c.in-None.is c.next.ensures.steps in
    c.loop-part.invariant ∙ ap (flat_map file_part) (take_all (length c.loop-part.yielded) all (omega (arith, ended.1)))
