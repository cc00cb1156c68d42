-- What the hash of a version is made of: what the order compares, so that equal versions have one
-- hash.
use Rattle.std.specs.Prelude.{◌++◌, pos}
use Rattle.std.specs.Hash as fed
use Rattle.std.specs.Hash.{HashWrites}
use Rattle.pep440_version.specs.Order.{dev_key, pre_key, significant}
use Rattle.pep440_version.specs.Parts.{Parts, Segment, word, number}

abbrev pub segment_writes : Segment → HashWrites
segment_writes (word a) = fed.isize (pos 0) ++ fed.str a
segment_writes (number n) = fed.isize (pos 1) ++ fed.u64 n

abbrev pub version_writes : Parts → HashWrites
version_writes v = fed.u64 v.epoch ++ (fed.slice fed.u64 (significant v.release)
    ++ (fed.u8 (pre_key v).0 ++ (fed.u64 (pre_key v).1 ++ (fed.option fed.u64 v.post
    ++ (fed.u8 (dev_key v).0 ++ (fed.u64 (dev_key v).1 ++ fed.slice segment_writes v.locals))))))
