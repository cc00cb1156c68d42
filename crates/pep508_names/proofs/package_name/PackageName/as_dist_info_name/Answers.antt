use Rattle.std.proofs.Common.{◌≡◌, get_or, string_bytes, sym, subst}
use Rattle.std.specs.Str.{IsAscii}
use Rattle.pep508_names.proofs.DistInfo.{dash-stands, dist_info-more, other-stands, file_character}
use Rattle.pep508_names.proofs.NameLaws.{normal_form-IsAscii}
use Rattle.pep508_names.proofs.package_name.PackageName.as_dist_info_name.Goals as goal
use Rattle.pep508_names.proofs.package_name.PackageName.as_dist_info_name.Goals.{then-byte-eq45, else-byte-eq45}

pub loop-byte-preserved : goal.loop-byte-preserved
loop-byte-preserved c =
    let name = c.as_str-name.result.now in
    let bytes = c.as_bytes-byte-items.result.now in
    let ascii : IsAscii bytes = subst IsAscii (sym c.as_bytes-byte-items.ensures.value) (normal_form-IsAscii name name c.as_str-name.ensures.normal) in
    let stands : c.if-byte-eq45.character ≡ file_character (get_or bytes c.loop-byte.byte-index 0) =
    elim c.if-byte-eq45.branch [ then-byte-eq45 w ↦ dash-stands _ _ w.if-byte-eq45.true w.character-is | else-byte-eq45 w ↦ other-stands _ _ w.if-byte-eq45.false w.character-is ] in
    dist_info-more bytes c.loop-byte.byte-index c.if-byte-eq45.character (string_bytes c.loop-byte.text) (string_bytes c.push.new.self) _
    ascii c.loop-byte-test.true stands c.in_ok-push.ensures.ascii c.loop-byte.invariant c.in_ok-push.ensures.bytes
