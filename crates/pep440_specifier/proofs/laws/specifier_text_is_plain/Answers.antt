use Rattle.pep440_specifier.proofs.ReadBack.{byte-is_plain, text-is_plain}
use Rattle.pep440_specifier.proofs.laws.specifier_text_is_plain.Goals as goal

pub returns : goal.returns
returns c = record { bytes = text-is_plain; plain = byte-is_plain }
