use Rattle.std.proofs.Common.{rules, tests}
use Rattle.std.proofs.lemmas.Iterator.{YieldsList-from_slice}
use Rattle.std.proofs.lemmas.Iterator.Search.{any_from_yields_List}
use Rattle.version_ranges.specs.Point.{at, is_in_bounds}
use Rattle.version_ranges.specs.Clamp.{bound_of}
use Rattle.pep440_version.specs.Order.{version_cmp}
use Rattle.marker_walks.proofs.PossibleLaws.{listed_enter}
use Rattle.marker_walks.proofs.possible.may_lie_in.Goals as goal

pub returns-in-PythonFullVersion-Some : goal.returns-in-PythonFullVersion-Some
returns-in-PythonFullVersion-Some c =
    let lower = bound_of c.args.piece.now.lower in
    let upper = bound_of c.args.piece.now.upper in
    listed_enter c.args.variable c.args.versions c.in-PythonFullVersion-Some.versions lower upper c.any.result c.in-PythonFullVersion-Some.is-0 c.in-PythonFullVersion-Some.is-1
    (any_from_yields_List (λ version. is_in_bounds version_cmp lower upper (at version)) _ _ c.any.result c.any.ensures.ran (YieldsList-from_slice c.in-PythonFullVersion-Some.versions.now cc) (λ x b q k. search (rules, tests)))
