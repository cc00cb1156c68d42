use Rattle.std.proofs.Common.{◌≡◌, refl}
use Rattle.std.specs.Prelude.{codes, encode_utf8_all}
use Rattle.pep508_text.proofs.RunLaws.{run_from_bytes}
use Rattle.marker_words.proofs.lexical.keyword.Goals as goal

ascii_and : encode_utf8_all (codes "and") ≡ codes "and"
unfolding lib.Utf8.encode
ascii_and = refl

ascii_or : encode_utf8_all (codes "or") ≡ codes "or"
unfolding lib.Utf8.encode
ascii_or = refl

pub returns-in-and-clause-which : goal.returns-in-and-clause-which
returns-in-and-clause-which c = run_from_bytes c.split_run.ensures.bytes c.split_run.ensures.rest c.in-and.is ascii_and

pub returns-in-or-clause-which : goal.returns-in-or-clause-which
returns-in-or-clause-which c = run_from_bytes c.split_run.ensures.bytes c.split_run.ensures.rest c.in-or.is ascii_or
