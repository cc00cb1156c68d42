use Rattle.std.specs.Str.{chars}
use Rattle.pep508_text.proofs.SuffixLaws.{suffix_self, suffix_then}
use Rattle.requirement_words.specs.Fault.{FindsInAsked}
use Rattle.requirement_words.specs.declared.fault.FaultKind.TheVariants.{NoUrl}
use Rattle.requirement_words.specs.declared.url.UrlPlace.TheVariants.{BehindName}
use Rattle.requirement_words.proofs.FaultLaws.{fault_before}
use Rattle.requirement_words.proofs.HeadLaws.{url_body, no_url, no_url_there, url_placed, url_is_something}
use Rattle.requirement_words.proofs.UnnamedLaws.{empty_url}
use Rattle.requirement_words.proofs.head.read_url.Goals as goal

pub returns-in-Some-clause-found : goal.returns-in-Some-clause-found
returns-in-Some-clause-found c =
    url_body _ _ _ _ _ _ _ c.requires.characters c.skip_space-place.ensures.rest c.split_url.ensures.bytes c.in-Some.ensures.characters c.split_url.ensures.rest

pub returns-in-Some-clause-suffix : goal.returns-in-Some-clause-suffix
returns-in-Some-clause-suffix c = suffix_then c.requires.suffix (suffix_then c.skip_space-place.ensures.suffix c.split_url.ensures.suffix)

pub returns-in-Some-clause-some : goal.returns-in-Some-clause-some
returns-in-Some-clause-some c = url_is_something _

pub returns-in-Some-clause-placed : goal.returns-in-Some-clause-placed
returns-in-Some-clause-placed c = λ piece e.
    url_placed _ _ _ _ _ (suffix_then c.requires.suffix c.skip_space-place.ensures.suffix) c.split_url.ensures.joined e

pub before-requires : goal.before-requires
before-requires c = suffix_self _ c.skip_space-place.utf8

pub returns-in-None-clause-refused : goal.returns-in-None-clause-refused
returns-in-None-clause-refused c = (
  fault_before (FindsInAsked (chars c.args.text.now)) NoUrl (suffix_then c.requires.suffix c.skip_space-place.ensures.suffix) c.skip_space-place.utf8
      c.at.ensures.kind c.at.ensures.place c.before-in-None.ensures.piece c.before-in-None.ensures.left
      (no_url_there _ _ c.requires.characters c.skip_space-place.ensures.rest c.before-in-None.ensures.piece (empty_url BehindName (chars c.skip_space-place.result.now) _ c.split_url.ensures.bytes c.in-None.ensures.bytes)),
  no_url _ _ _ _ c.requires.characters c.skip_space-place.ensures.rest c.split_url.ensures.bytes c.in-None.ensures.bytes,
)
