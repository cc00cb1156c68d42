use Rattle.std.proofs.Common.{◌≡◌, IfErr, false, option_copied, sym, ap, subst}
use Rattle.refusal.specs.Refused.{IfFault}
use Rattle.pep508_urls.specs.Meaning.{Meaning, is_url, meaning_of}
use Rattle.pep508_urls.specs.Unnamed.{NamesNone}
use Rattle.pep508_requirements.proofs.GivenLaws.{at_folder}
use Rattle.pep508_requirements.proofs.url.url_of.Goals as goal

pub returns-in-Url-default-clause-fault : goal.returns-in-Url-default-clause-fault
returns-in-Url-default-clause-fault g c =
    subst (λ (m : Meaning). IfErr c.parse_unnamed_url.result (λ refusal. IfFault refusal (λ fault. g.Url.Pep508Url.tells_size fault ≡ false → NamesNone g.Url.Pep508Url.names (option_copied c.args.folder) m)))
    (sym (ap meaning_of c.in-Url-default.is-0))
    (at_folder (λ fault. g.Url.Pep508Url.tells_size fault ≡ false) (λ folder. NamesNone g.Url.Pep508Url.names folder (is_url c.in-Url-default.url.now)) (option_copied c.args.folder) c.parse_unnamed_url.result c.parse_unnamed_url.ensures.fault)
