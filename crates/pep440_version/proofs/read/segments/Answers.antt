use Rattle.std.proofs.Common.{◌≡◌, ◌-◌, ◌+◌, ◌∷◌, [], suc, Some, map, length, sym, ap, ◌∙◌, arith}
use Rattle.std.proofs.lemmas.List.{map-append, take_rest}
use Rattle.pep440_version.specs.Reading.{segment_at, segments_at}
use Rattle.pep440_version.specs.View.{segment_of}
use Rattle.pep440_version.proofs.Readers.{after-empty, after-next, after-other, prepend_all-prepend, segments-none, segments-some, segments-zero}
use Rattle.pep440_version.proofs.read.segments.Goals as goal

pub returns-in_default : goal.returns-in_default
returns-in_default c =
    let none = sym (rw c.in_default.is at c.in_ok-next.ensures) in
    sym (rw (segments-none (length c.args.text.now - c.segments.step) c.segments.rest.now none) at c.segments.invariant)

pub returns-in-empty : goal.returns-in-empty
returns-in-empty c =
    let k : length c.args.text.now - c.segments.step ≡ suc (length c.args.text.now - (c.segments.step + 1)) = omega arith in
    let read : segment_at c.segments.rest.now ≡ Some (segment_of c.in-Some.next, c.in-Some.after.now) = sym (rw c.in-Some.is at c.in_ok-next.ensures) in
    let some = segments-some (length c.args.text.now - (c.segments.step + 1)) c.segments.rest.now _ _ read in
    let last = after-empty (segments_at (length c.args.text.now - (c.segments.step + 1))) (segment_of c.in-Some.next) c.in-Some.after.now c.in-empty.len_below in
    let whole = rw (k, some, last) at c.segments.invariant in
    let items = ap (map segment_of) c.in_ok-push.ensures.items ∙ map-append segment_of c.segments.segments.items (c.in-Some.next ∷ []) in
    ap Some items ∙ sym whole

pub returns-in_default-after : goal.returns-in_default-after
returns-in_default-after c =
    let k : length c.args.text.now - c.segments.step ≡ suc (length c.args.text.now - (c.segments.step + 1)) = omega arith in
    let read : segment_at c.segments.rest.now ≡ Some (segment_of c.in-Some.next, c.in-Some.after.now) = sym (rw c.in-Some.is at c.in_ok-next.ensures) in
    let some = segments-some (length c.args.text.now - (c.segments.step + 1)) c.segments.rest.now _ _ read in
    let other = after-other (segments_at (length c.args.text.now - (c.segments.step + 1))) (segment_of c.in-Some.next) c.in-Some.after.now c.in-len1-up.len_at_least (sym c.if-is_separator.ensures) in
    sym (rw (k, some, other) at c.segments.invariant)

pub segments-preserved : goal.segments-preserved
segments-preserved c =
    let k : length c.args.text.now - c.segments.step ≡ suc (length c.args.text.now - (c.segments.step + 1)) = omega arith in
    let read : segment_at c.segments.rest.now ≡ Some (segment_of c.in-Some.next, c.in-Some.after.now) = sym (rw c.in-Some.is at c.in_ok-next.ensures) in
    let some = segments-some (length c.args.text.now - (c.segments.step + 1)) c.segments.rest.now _ _ read in
    let next = after-next (segments_at (length c.args.text.now - (c.segments.step + 1))) (segment_of c.in-Some.next) c.in-Some.after.now c.in-len1-up.len_at_least (sym c.if-is_separator.ensures) in
    let whole = rw (k, some, next) at c.segments.invariant in
    let items = ap (map segment_of) c.in_ok-push.ensures.items ∙ map-append segment_of c.segments.segments.items (c.in-Some.next ∷ []) in
    rw (items, take_rest c.in-Some.after.now 1) (whole ∙ prepend_all-prepend (map segment_of c.segments.segments.items) (segment_of c.in-Some.next) _)

pub returns : goal.returns
returns c =
    let k : length c.args.text.now - c.segments.step ≡ 0 = omega arith in
    sym (rw (k, segments-zero c.segments.rest.now) at c.segments.invariant)
