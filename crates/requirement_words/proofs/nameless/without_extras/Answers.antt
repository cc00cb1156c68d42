use Rattle.std.proofs.Common.{refl}
use Rattle.requirement_words.specs.Nameless.{cut, whole}
use Rattle.requirement_words.proofs.nameless.without_extras.Goals as goal

pub returns-in-Some : goal.returns-in-Some
returns-in-Some c = cut c.in-Some.ensures.found refl

pub returns-in-None : goal.returns-in-None
returns-in-None c = whole c.in-None.ensures.none refl
