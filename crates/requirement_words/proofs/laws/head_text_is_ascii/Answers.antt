use Rattle.requirement_words.proofs.HeadText.{head_ascii}
use Rattle.requirement_words.proofs.laws.head_text_is_ascii.Goals as goal

pub returns : goal.returns
returns c = head_ascii
