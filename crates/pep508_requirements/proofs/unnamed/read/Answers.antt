use Rattle.std.proofs.Common.{refl}
use Rattle.pep508_requirements.specs.Requirement.{urls_in}
use Rattle.pep508_requirements.proofs.UnnamedLaws.{unnamed_end_refusal, unnamed_head_refusal, unnamed_read_as, unnamed_url_refusal}
use Rattle.pep508_requirements.proofs.unnamed.read.Goals as goal

pub returns-in-Err-clause-refused : goal.returns-in-Err-clause-refused
returns-in-Err-clause-refused g c =
    unnamed_head_refusal (urls_in g.Url.Pep508Url.names c.args.surroundings.now) c.args.text.now g.Url.Pep508Url.tells_size
    (λ piece. g.Url.Pep508Url.may_overflow piece c.args.surroundings.now) _ c.in-Err.ensures.refused

pub returns-in-Err-unnamed_url-clause-refused : goal.returns-in-Err-unnamed_url-clause-refused
returns-in-Err-unnamed_url-clause-refused g c =
    unnamed_url_refusal (urls_in g.Url.Pep508Url.names c.args.surroundings.now) c.args.text.now c.in-Ok.read.1.now _ _ _ c.in-Ok.ensures.found g.Url.Pep508Url.tells_size
    (λ piece. g.Url.Pep508Url.may_overflow piece c.args.surroundings.now) _ c.in-Err-unnamed_url.ensures.refused

pub returns-in-Ok-read_end-clause-means : goal.returns-in-Ok-read_end-clause-means
returns-in-Ok-read_end-clause-means g c =
    let end = c.in-Ok-read_end.ensures.means in
    record { read = unnamed_read_as (urls_in g.Url.Pep508Url.names c.args.surroundings.now) c.args.text.now c.in-Ok.read.1.now _ _ _ c.in-Ok.ensures.found _ c.in-Ok-unnamed_url.ensures.value g.Url.UnnamedRequirementUrl.given_text c.in-Ok-unnamed_url.ensures.given _ _ _ end; held = end.held; unknown = refl }

pub returns-in-Err-read_end-clause-refused : goal.returns-in-Err-read_end-clause-refused
returns-in-Err-read_end-clause-refused g c =
    unnamed_end_refusal (urls_in g.Url.Pep508Url.names c.args.surroundings.now) c.args.text.now c.in-Ok.read.1.now _ _ _ c.in-Ok.ensures.found _ c.in-Ok-unnamed_url.ensures.value g.Url.Pep508Url.tells_size
    (λ piece. g.Url.Pep508Url.may_overflow piece c.args.surroundings.now) _ c.in-Err-read_end.ensures.refused
