use Rattle.std.proofs.Common.{subst, sym, List, ℕ}
use Rattle.std.specs.Str.{chars}
use Rattle.pep508_text.proofs.SuffixLaws.{suffix_then}
use Rattle.requirement_words.specs.Extras.{IsExtras}
use Rattle.requirement_words.specs.Head.{IsAskedIn, asked_of}
use Rattle.pep508_urls.specs.Variables.{value_of}
use Rattle.requirement_words.specs.Fault.{extras, FindsInExtras, FindsInHead}
use Rattle.requirement_words.proofs.FaultLaws.{refused_behind, refused_by}
use Rattle.requirement_words.proofs.HeadLaws.{no_head_named, no_head_extras, no_head_asked}
use Rattle.requirement_words.proofs.head.read_head.Goals as goal

pub returns-in-Err-clause-refused : goal.returns-in-Err-clause-refused
returns-in-Err-clause-refused c = refused_by _ _ _ _ (no_head_named _) c.in-Err.ensures.refused

pub returns-in-Err-read_extras-clause-refused : goal.returns-in-Err-read_extras-clause-refused
returns-in-Err-read_extras-clause-refused c =
    let value = value_of c.args.surroundings.now in
    refused_behind (FindsInExtras (chars c.skip_space.result.now)) (FindsInHead value c.args.text.now) _ _ _ _ _ (suffix_then c.in-Ok.ensures.suffix c.skip_space.ensures.suffix)
    (λ k p b f. extras c.in-Ok.ensures.found (subst (λ (x : List ℕ). FindsInExtras x k p b) c.skip_space.ensures.rest f))
    (λ h. no_head_extras _ (chars c.in-Ok.read.1.now) c.in-Ok.read.0 c.in-Ok.ensures.found
    (subst (λ (x : List ℕ). (o : List ℕ) (ns : List (List ℕ)) → ¬ IsExtras x o ns) c.skip_space.ensures.rest h))
    c.in-Err-read_extras.ensures.refused

pub read_asked-requires : goal.read_asked-requires
read_asked-requires c = record {
  extras = record {
    after_name = chars c.in-Ok.read.1.now;
    after_extras = chars c.in-Ok-read_extras.read.1.now;
    name = c.in-Ok.read.0;
    extras = c.in-Ok-read_extras.read.0.items;
    named = c.in-Ok.ensures.found;
    extras_are = subst (λ (x : List ℕ). IsExtras x (chars c.in-Ok-read_extras.read.1.now) c.in-Ok-read_extras.read.0.items) c.skip_space.ensures.rest c.in-Ok-read_extras.ensures.found;
    behind_is = sym c.skip_space-2.ensures.rest;
  };
  inside = suffix_then c.in-Ok.ensures.suffix (suffix_then c.skip_space.ensures.suffix (suffix_then c.in-Ok-read_extras.ensures.suffix c.skip_space-2.ensures.suffix));
}

pub returns-in-Ok-read_asked-clause-found : goal.returns-in-Ok-read_asked-clause-found
returns-in-Ok-read_asked-clause-found c = record {
  after_name = chars c.in-Ok.read.1.now;
  after_extras = chars c.in-Ok-read_extras.read.1.now;
  named = c.in-Ok.ensures.found;
  extras_are = subst (λ (x : List ℕ). IsExtras x (chars c.in-Ok-read_extras.read.1.now) c.in-Ok-read_extras.read.0.items) c.skip_space.ensures.rest c.in-Ok-read_extras.ensures.found;
  asks = subst (λ (x : List ℕ). IsAskedIn (chars c.args.text.now) x (chars c.in-Ok-read_asked.rest.now) (asked_of c.in-Ok-read_asked.asked)) c.skip_space-2.ensures.rest c.in-Ok-read_asked.ensures.found;
}

pub returns-in-Err-read_asked-clause-refused : goal.returns-in-Err-read_asked-clause-refused
returns-in-Err-read_asked-clause-refused c =
    refused_by _ _ _ _
    (no_head_asked _ (chars c.in-Ok.read.1.now) c.in-Ok.read.0 (chars c.in-Ok-read_extras.read.1.now) _ c.in-Ok-read_extras.read.0.items c.in-Ok.ensures.found
    (subst (λ (x : List ℕ). IsExtras x (chars c.in-Ok-read_extras.read.1.now) c.in-Ok-read_extras.read.0.items) c.skip_space.ensures.rest c.in-Ok-read_extras.ensures.found)
    c.skip_space-2.ensures.rest)
    c.in-Err-read_asked.ensures.refused
