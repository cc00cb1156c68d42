use Rattle.pep440_version.proofs.Plain.{byte-plain, text-plain}
use Rattle.pep440_version.proofs.laws.normal_text_is_plain.Goals as goal

pub returns : goal.returns
returns c = record { bytes = text-plain; plain = byte-plain }
