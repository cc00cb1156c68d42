use Rattle.std.proofs.Common.{◌≡◌, map, take}
use Rattle.pep440_specifier.specs.Text.{specifier_text}
use Rattle.serde_json.specs.Data.{string}
use Rattle.serde_json.specs.View.{view}
use Rattle.foreign_calls.proofs.json.list_of_specifiers.Given as goal

abbrev pub invariant-loop-specifier : goal.invariant-loop-specifier
invariant-loop-specifier l = map view l.values.items ≡ map string (map specifier_text (take l.specifier-index l.set))
