use Rattle.std.proofs.Common.{refl}
use Rattle.pep508_requirements.proofs.ErrorLaws.{span_at, url_piece}
use Rattle.pep508_requirements.proofs.error.refusal_of_url.Goals as goal

pub returns : goal.returns
returns g c = record {
  input = c.in-Ok.ensures.ok;
  message = refl;
  place = span_at (url_piece c.args.text.now c.args.url.now c.args.rest.now c.requires c.utf8.rest) c.start.ensures.value c.len.ensures;
  before = refl;
}
