use Rattle.std.proofs.Common.{◌≡◌, string_bytes, take}
use Rattle.pep508_names.specs.Name.{dist_info_name}
use Rattle.pep508_names.proofs.package_name.PackageName.as_dist_info_name.Given as goal

-- the bytes so far are those of the name so far
abbrev pub invariant-loop-byte : goal.invariant-loop-byte
invariant-loop-byte l = string_bytes l.text ≡ dist_info_name (take l.byte-index l.byte-items)
