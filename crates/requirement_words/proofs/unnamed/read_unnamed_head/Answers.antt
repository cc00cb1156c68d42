use Rattle.std.proofs.Common.{refl, sym, ◌∙◌, subst, ap, List, ℕ}
use Rattle.std.specs.Str.{chars}
use Rattle.pep508_text.specs.Suffix.{IsSuffix}
use Rattle.pep508_text.proofs.SuffixLaws.{suffix_self, suffix_then}
use Rattle.requirement_words.specs.Fault.{extras, FindsInExtras, FindsInUnnamed, no_url}
use Rattle.requirement_words.specs.Unnamed.{bare}
use Rattle.requirement_words.specs.Url.{url_of}
use Rattle.requirement_words.specs.declared.fault.FaultKind.TheVariants.{NoUrl}
use Rattle.requirement_words.specs.declared.url.UrlPlace.TheVariants.{Alone}
use Rattle.requirement_words.proofs.FaultLaws.{fault_before, refused_behind}
use Rattle.requirement_words.proofs.UnnamedLaws.{cut_by, empty_url, is_url, no_url_alone, not_cut, opening_of}
use Rattle.requirement_words.proofs.HeadLaws.{nothing_before}
use Rattle.requirement_words.proofs.unnamed.read_unnamed_head.Goals as goal

pub before-requires : goal.before-requires
before-requires c = suffix_self _ c.skip_space-place.utf8

pub returns-in_default-clause-refused : goal.returns-in_default-clause-refused
returns-in_default-clause-refused c = (
  fault_before (FindsInUnnamed c.args.text.now) NoUrl c.skip_space-place.ensures.suffix c.skip_space-place.utf8
      c.at.ensures.kind c.at.ensures.place c.before-in_default.ensures.piece c.before-in_default.ensures.left
      (no_url (ap chars (sym c.before-in_default.ensures.piece) ∙ c.skip_space-place.ensures.rest) (nothing_before _ _ c.before-in_default.ensures.piece)
      (ap (url_of Alone 0) (sym c.skip_space-place.ensures.rest) ∙ empty_url Alone (chars c.skip_space-place.result.now) _ c.split_url.ensures.bytes c.in_default.ensures.bytes)),
  no_url_alone _ (chars c.skip_space-place.result.now) _ c.skip_space-place.ensures.rest c.split_url.ensures.bytes c.in_default.ensures.bytes,
)

pub returns-in_default-split_extras-clause-found : goal.returns-in_default-split_extras-clause-found
returns-in_default-split_extras-clause-found c = record {
  written = is_url Alone (chars c.args.text.now) (chars c.skip_space-place.result.now) _ _ _ _ c.skip_space-place.ensures.rest c.split_url.ensures.bytes c.in-Some.ensures.characters c.split_url.ensures.rest;
  is_cut = bare c.in_default-split_extras.ensures.none refl c.new-extras.ensures.items;
}

pub returns-in_default-split_extras-clause-suffix : goal.returns-in_default-split_extras-clause-suffix
returns-in_default-split_extras-clause-suffix c = suffix_then c.skip_space-place.ensures.suffix c.split_url.ensures.suffix

pub split_at-requires : goal.split_at-requires
split_at-requires c =
    (opening_of _ _ c.split_url.result.1.now _ _ c.skip_space-place.utf8 c.split_url.ensures.joined c.split_url.ensures.suffix.utf8 c.in-Some-split_extras.ensures.found).boundary

pub returns-in-Ok-clause-found : goal.returns-in-Ok-clause-found
returns-in-Ok-clause-found c =
    let o = opening_of _ _ c.split_url.result.1.now _ _ c.skip_space-place.utf8 c.split_url.ensures.joined c.split_url.ensures.suffix.utf8 c.in-Some-split_extras.ensures.found in
    record {
      written = is_url Alone (chars c.args.text.now) (chars c.skip_space-place.result.now) _ _ _ _ c.skip_space-place.ensures.rest c.split_url.ensures.bytes c.in-Some.ensures.characters c.split_url.ensures.rest;
      is_cut = cut_by _ c.split_url.result.1.now _ _ c.split_at.result.1.now _ _ o.extras_utf8 c.in-Some-split_extras.ensures.found (ap chars (c.split_at.ensures.back ∙ o.opening_is) ∙ o.characters) c.in-Ok.ensures.found;
    }

pub returns-in-Ok-clause-suffix : goal.returns-in-Ok-clause-suffix
returns-in-Ok-clause-suffix c = suffix_then c.skip_space-place.ensures.suffix c.split_url.ensures.suffix

pub returns-in-Err-clause-refused : goal.returns-in-Err-clause-refused
returns-in-Err-clause-refused c =
    let o = opening_of _ _ c.split_url.result.1.now _ _ c.skip_space-place.utf8 c.split_url.ensures.joined c.split_url.ensures.suffix.utf8 c.in-Some-split_extras.ensures.found in
    let same = c.split_at.ensures.back ∙ o.opening_is in
    refused_behind (FindsInExtras (chars c.split_at.result.1.now)) (FindsInUnnamed c.args.text.now) _ _ _ _ _
    (suffix_then c.skip_space-place.ensures.suffix (subst (IsSuffix c.skip_space-place.result.now) (sym same) o.suffix))
    (λ k p b f. extras (is_url Alone (chars c.args.text.now) (chars c.skip_space-place.result.now) _ _ _ _ c.skip_space-place.ensures.rest c.split_url.ensures.bytes c.in-Some.ensures.characters c.split_url.ensures.rest)
    c.in-Some-split_extras.ensures.found (subst (λ (x : List ℕ). FindsInExtras x k p b) (ap chars same ∙ o.characters) f))
    (not_cut _ (chars c.skip_space-place.result.now) _ c.split_url.result.1.now _ _ c.split_at.result.1.now c.skip_space-place.ensures.rest c.split_url.ensures.bytes c.split_url.ensures.rest
    c.in-Some-split_extras.ensures.found (ap chars same ∙ o.characters))
    c.in-Err.ensures.refused
