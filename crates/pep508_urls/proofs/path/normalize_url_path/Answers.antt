use Rattle.std.proofs.Common.{◌≡◌, true, false, List, ℕ, sym, ◌∙◌, subst, IsUtf8}
use Rattle.std.specs.Str.{is_utf8}
use Rattle.std.proofs.lemmas.Bool.{cond-true, cond-false, false_from_ne_true}
use Rattle.std.proofs.lemmas.Str.{IsUtf8-from_is_utf8, is_utf8-from_IsUtf8}
use Rattle.percent_encoding.specs.Percent.{percent_decode}
use Rattle.pep508_urls.proofs.path.normalize_url_path.Goals as goal

pub returns-in-Ok : goal.returns-in-Ok
returns-in-Ok c =
    let decoded : List ℕ = percent_decode c.args.path.now in
    let text : is_utf8 decoded ≡ true = is_utf8-from_IsUtf8 decoded (subst IsUtf8 c.percent_decode_str.ensures.bytes c.in-Ok.ensures.ok_only_if_utf8) in
    c.in-Ok.ensures.value ∙ c.percent_decode_str.ensures.bytes ∙ sym (cond-true _ _ _ text)

pub returns-in-Err-Utf8 : goal.returns-in-Err-Utf8
returns-in-Err-Utf8 c =
    let decoded : List ℕ = percent_decode c.args.path.now in
    let no_text : is_utf8 decoded ≡ false = false_from_ne_true _ (λ e.
    let kind = c.in-Err-Utf8.ensures.utf8 (subst IsUtf8 (sym c.percent_decode_str.ensures.bytes) (IsUtf8-from_is_utf8 decoded e)) in
    let is = c.in-Err-Utf8.field-0-is in
    absurd cc) in
    sym (cond-false _ _ _ no_text)
