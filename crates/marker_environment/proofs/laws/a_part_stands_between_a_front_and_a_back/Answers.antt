use Rattle.marker_environment.proofs.SubstringLaws.{is_part_of-is, is_part_of-has}
use Rattle.marker_environment.proofs.laws.a_part_stands_between_a_front_and_a_back.Goals as goal

pub returns : goal.returns
returns c part text = (is_part_of-is part text, is_part_of-has part text)
