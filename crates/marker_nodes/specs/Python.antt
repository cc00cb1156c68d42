-- The point of the Python version in a valuation.
use Rattle.version_ranges.specs.Point.{Point}
use Rattle.pep440_version.specs.Parts.{Parts}
use Rattle.marker_words.specs.declared.key.VersionVariable.{VersionVariable}
use Rattle.marker_words.specs.declared.key.VersionVariable.TheVariants.{ImplementationVersion, PythonFullVersion}
use Rattle.marker_environment.specs.Valuation.{Valuation}

-- the point of the Python version
abbrev pub python_of : Valuation → Point Parts
python_of v = v.version PythonFullVersion

abbrev pub versions_with_python : Point Parts → Valuation → VersionVariable → Point Parts
versions_with_python p v ImplementationVersion = v.version ImplementationVersion
versions_with_python p v PythonFullVersion = p

-- the valuation with the Python version at a point, and all else as it is
abbrev pub with_python : Point Parts → Valuation → Valuation
with_python p v = record v { version = versions_with_python p v }
