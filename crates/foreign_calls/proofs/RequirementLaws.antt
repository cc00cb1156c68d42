-- What is written of a requirement that is read.
use Rattle.std.proofs.Common.{◌≡◌, ◌∙◌, ℕ, List, Bool, Option, map}
use Rattle.std.specs.Option.{option_map}
use Rattle.pep440_specifier.specs.Text.{specifier_text}
use Rattle.pep508_urls.specs.declared.error.VerbatimUrlError.{VerbatimUrlError}
use Rattle.pep508_urls.specs.Verbatim.{Verbatim}
use Rattle.marker_graph.specs.Contents.{Contents, truth}
use Rattle.marker_environment.specs.Valuation.{Valuation}
use Rattle.marker_view.specs.Text.{TellsText}
use Rattle.pep508_requirements.specs.declared.requirement.Requirement.{Requirement}
use Rattle.pep508_requirements.specs.Text.{requirement_text, IsTextOf}
use Rattle.foreign_calls.specs.declared.json.Parts.{Parts}
use Rattle.foreign_calls.specs.Json.{text_of}
use Rattle.foreign_calls.specs.Reading.{IsReadFrom, Wanted}
use Rattle.foreign_calls.specs.Requirement.{url_text, url_of, specifiers_of, IsNormal, AreParts, ArePartsIn, ArePartsOf}

abbrev Read : Type 0
Read = Requirement Verbatim VerbatimUrlError

pub normal : {c : Contents} {folder text bytes : List ℕ} {r : Read} → IsReadFrom c folder text r
    → IsTextOf (truth c r.marker) (requirement_text url_text r.name r.extras.items r.version_or_url) bytes → IsNormal folder text bytes
normal {c = c} {r = r} p written = record {
  name = r.name;
  extras = r.extras.items;
  wanted = r.version_or_url;
  truth = truth c r.marker;
  says = p.says;
  written = written;
}

pub parts_of : {c : Contents} {folder text bytes : List ℕ} {r : Read} → IsReadFrom c folder text r
    → ArePartsIn c r bytes → ArePartsOf folder text bytes
parts_of {c = c} {r = r} p parts = record {
  name = r.name;
  extras = r.extras.items;
  wanted = r.version_or_url;
  truth = truth c r.marker;
  says = p.says;
  parts = parts;
}
