use Rattle.std.specs.Str.{chars}
use Rattle.pep508_text.proofs.SuffixLaws.{suffix_self}
use Rattle.requirement_words.specs.Fault.{FindsInAsked, FindsInSpecifiers}
use Rattle.requirement_words.specs.Fault as finds
use Rattle.requirement_words.specs.Head.{bare}
use Rattle.requirement_words.proofs.FaultLaws.{refused_behind}
use Rattle.requirement_words.proofs.HeadLaws.{no_bare, specifier_begins}
use Rattle.requirement_words.proofs.head.read_something.Goals as goal

pub returns-in-Ok-clause-found : goal.returns-in-Ok-clause-found
returns-in-Ok-clause-found c =
    bare (specifier_begins _ c.requires.0 c.requires.1 c.requires.2 c.requires.3 c.requires.4 c.in_default.ensures.none c.in_default-strip.ensures.none) c.in-Ok.ensures.found

pub returns-in-Err-clause-refused : goal.returns-in-Err-clause-refused
returns-in-Err-clause-refused c =
    let begins = specifier_begins _ c.requires.0 c.requires.1 c.requires.2 c.requires.3 c.requires.4 c.in_default.ensures.none c.in_default-strip.ensures.none in
    refused_behind (FindsInSpecifiers 59 (chars c.args.text.now)) (FindsInAsked (chars c.args.text.now)) _ _ _ _ _ (suffix_self _ c.utf8.text) (λ k p b f. finds.bare begins f)
    (no_bare _ begins) c.in-Err.ensures.refused
