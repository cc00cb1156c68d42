use Rattle.std.proofs.Common.{refl}
use Rattle.std.proofs.lemmas.Result.{on_ok_weaker}
use Rattle.marker_lines.specs.LineStep.{is_set, is_version_set, no_version, no_key}
use Rattle.marker_lines.proofs.SessionLaws.{sets_text}
use Rattle.marker_lines.proofs.line_session.LineSession.set.Goals as goal

pub returns-in_default : goal.returns-in_default
returns-in_default c =
    let none = rw c.in_default.is at c.in_ok-value-in-Some-Version.ensures in
    let key = rw c.in-Some-Version.field-0-is at c.in-Some-Version.ensures in
    on_ok_weaker c.put-in_default.result (λ w. (_, no_version c.in-Some-Version.key key none, w)) c.put-in_default.ensures

pub returns-in-None : goal.returns-in-None
returns-in-None c = on_ok_weaker c.put-in-None.result (λ w. (_, no_key c.in-None.ensures, w)) c.put-in-None.ensures

pub returns-in_ok-value-in-Some-Text : goal.returns-in_ok-value-in-Some-Text
returns-in_ok-value-in-Some-Text c =
    let key = rw c.in-Some-Text.field-0-is at c.in-Some-Text.ensures in
    let sets = sets_text refl c.in_ok-value-in-Some-Text.ensures.ok c.set_string.ensures in
    on_ok_weaker c.put.result (λ w. (_, is_set c.in-Some-Text.variable key refl sets, w)) c.put.ensures

pub returns-in-Some : goal.returns-in-Some
returns-in-Some c =
    let key = rw c.in-Some-Version.field-0-is at c.in-Some-Version.ensures in
    let says = rw c.in-Some.is at c.in_ok-value-in-Some-Version.ensures in
    on_ok_weaker c.put-in-Some-Version.result (λ w. (_, is_version_set c.in-Some-Version.key _ key says refl c.set_version.ensures, w)) c.put-in-Some-Version.ensures
