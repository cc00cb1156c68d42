use Rattle.std.proofs.Common.{◌≡◌, ◌++◌, ◌-◌, length, drop, sym, ap, ◌∙◌, rules, subst}
use Rattle.std.specs.Prelude.{string_bytes, Some, None}
use Rattle.std.proofs.lemmas.List.{nil_from_length}
use Rattle.requirement_lines.specs.Pieces.{line_of}
use Rattle.requirement_lines.specs.declared.places.Place.{Place}
use Rattle.formatting_commands.specs.Finding.{requirement_text, options_text, options_in, left_from, Lacks, IsLineAlone, options, in_parts, same, unlike, replaced}
use Rattle.formatting_commands.proofs.FindingLaws.{part_of_text, left_after_front, left_after_part}
use Rattle.formatting_commands.proofs.finding.edit_line.Goals as goal

pub returns-then-is_empty : goal.returns-then-is_empty
returns-then-is_empty g c =
    let zero : length c.as_str-requirement.result.now ≡ 0 = search rules in
    options (sym c.in_ok-old.ensures.requirement ∙ sym c.as_str-requirement.ensures.value ∙ nil_from_length _ zero)

pub returns-in_default : goal.returns-in_default
returns-in_default g c =
    let line = line_of c.args.line.now in
    let requirement : c.as_str-requirement.result.now ≡ requirement_text line = c.as_str-requirement.ensures.value ∙ c.in_ok-old.ensures.requirement in
    let left : c.place_at.result.to_end ≡ left_from line = ap (λ (p : Place). p.to_end) c.place_at.ensures in
    let start : c.saturating_sub-start.result ≡ length c.args.text.now - left_from line = c.saturating_sub-start.ensures ∙ ap (λ n. length c.args.text.now - n) left in
    let lacks : Lacks c.before_end-block.result.now c.as_str-requirement.result.now c.saturating_sub-start.result = c.in_default.ensures.lacking in
    in_parts c.before_end-block.result.now c.before_end-block.ensures
    (subst (λ x. Lacks c.before_end-block.result.now x (length c.args.text.now - left_from line)) requirement
    (subst (λ x. Lacks c.before_end-block.result.now c.as_str-requirement.result.now x) start lacks))

pub returns-in_default-2 : goal.returns-in_default-2
returns-in_default-2 g c =
    let line = line_of c.args.line.now in
    let requirement : c.as_str-requirement.result.now ≡ requirement_text line = c.as_str-requirement.ensures.value ∙ c.in_ok-old.ensures.requirement in
    let answer = rw c.in_default-2.is at c.in_ok-new.ensures in
    same (subst (λ x. g.W.Rewriter.answers c.args.rewriter.now x None c.rewrite.new.self) requirement answer)

pub returns-then-not-branch : goal.returns-then-not-branch
returns-then-not-branch g c =
    let line = line_of c.args.line.now in
    let front = c.in-Some.front.now in
    let back = c.in-Some.back.now in
    let rest = c.args.rest.now in
    let new = string_bytes c.in-Some-2.new in
    let requirement : c.as_str-requirement.result.now ≡ requirement_text line = c.as_str-requirement.ensures.value ∙ c.in_ok-old.ensures.requirement in
    let answer = rw c.in-Some-2.is at c.in_ok-new.ensures in
    let parts : c.args.text.now ≡ front ++ (requirement_text line ++ (back ++ rest)) =
    part_of_text c.args.text.now c.before_end-block.result.now rest front (requirement_text line) back c.before_end-block.ensures
    (c.in-Some.ensures.found ∙ ap (λ x. front ++ (x ++ back)) requirement) in
    let left : c.place_at.result.to_end ≡ left_from line = ap (λ (p : Place). p.to_end) c.place_at.ensures in
    let start : c.saturating_sub-start.result ≡ length c.args.text.now - left_from line = c.saturating_sub-start.ensures ∙ ap (λ n. length c.args.text.now - n) left in
    let options : options_in c.in_ok-old.old ≡ options_text line =
    ap (λ x. drop (length x) (string_bytes c.in_ok-old.old.whole)) c.in_ok-old.ensures.requirement ∙ ap (λ x. drop (length (requirement_text line)) x) c.in_ok-old.ensures.whole in
    let other = c.in_ok-is_line_alone.ensures.other c.if-not-branch.true in
    let joined : c.as_str-2.result.now ≡ front ++ (new ++ back) = c.as_str-2.ensures.value ∙ c.in_ok-alone.ensures ∙ ap (λ x. front ++ (x ++ back)) c.as_str.ensures.value in
    unlike front back new (record { parts = parts; start = c.in-Some.ensures.start ∙ start })
    (subst (λ x. g.W.Rewriter.answers c.args.rewriter.now x (Some new) c.rewrite.new.self) requirement answer)
    (subst (λ x. ¬ IsLineAlone x new (options_text line)) joined (subst (λ x. ¬ IsLineAlone c.as_str-2.result.now x (options_text line)) c.as_str-3.ensures.value (subst (λ x. ¬ IsLineAlone c.as_str-2.result.now c.as_str-3.result.now x) options other)))

pub returns : goal.returns
returns g c =
    let line = line_of c.args.line.now in
    let front = c.in-Some.front.now in
    let back = c.in-Some.back.now in
    let rest = c.args.rest.now in
    let new = string_bytes c.in-Some-2.new in
    let requirement : c.as_str-requirement.result.now ≡ requirement_text line = c.as_str-requirement.ensures.value ∙ c.in_ok-old.ensures.requirement in
    let answer = rw c.in-Some-2.is at c.in_ok-new.ensures in
    let parts : c.args.text.now ≡ front ++ (requirement_text line ++ (back ++ rest)) =
    part_of_text c.args.text.now c.before_end-block.result.now rest front (requirement_text line) back c.before_end-block.ensures
    (c.in-Some.ensures.found ∙ ap (λ x. front ++ (x ++ back)) requirement) in
    let options : options_in c.in_ok-old.old ≡ options_text line =
    ap (λ x. drop (length x) (string_bytes c.in_ok-old.old.whole)) c.in_ok-old.ensures.requirement ∙ ap (λ x. drop (length (requirement_text line)) x) c.in_ok-old.ensures.whole in
    let written : c.args.text.now ≡ front ++ (c.as_str-requirement.result.now ++ (back ++ rest)) =
    part_of_text c.args.text.now c.before_end-block.result.now rest front c.as_str-requirement.result.now back c.before_end-block.ensures c.in-Some.ensures.found in
    let alone = c.in_ok-is_line_alone.ensures.alone c.if-not-branch.false in
    let left : c.place_at.result.to_end ≡ left_from line = ap (λ (p : Place). p.to_end) c.place_at.ensures in
    let start : c.saturating_sub-start.result ≡ length c.args.text.now - left_from line = c.saturating_sub-start.ensures ∙ ap (λ n. length c.args.text.now - n) left in
    let joined : c.as_str-2.result.now ≡ front ++ (new ++ back) = c.as_str-2.ensures.value ∙ c.in_ok-alone.ensures ∙ ap (λ x. front ++ (x ++ back)) c.as_str.ensures.value in
    replaced front back (record { parts = parts; start = c.in-Some.ensures.start ∙ start })
    (subst (λ x. g.W.Rewriter.answers c.args.rewriter.now x (Some new) c.rewrite.new.self) requirement answer)
    (subst (λ x. IsLineAlone x new (options_text line)) joined (subst (λ x. IsLineAlone c.as_str-2.result.now x (options_text line)) c.as_str-3.ensures.value (subst (λ x. IsLineAlone c.as_str-2.result.now c.as_str-3.result.now x) options alone)))
    (c.saturating_sub-first.ensures ∙ ap (λ n. c.args.size - n) (left_after_front c.args.text.now front (requirement_text line ++ (back ++ rest)) parts))
    (c.saturating_sub.ensures ∙ ap (λ n. c.args.size - n) (left_after_part c.args.text.now front c.as_str-requirement.result.now (back ++ rest) written))
