-- The marker of a requirement, and what it is in targets.
use Rattle.std.specs.Prelude.{◌≡◌, ℕ, Bool, true, false, List, Option, None, Some, IfSome}
use Rattle.pep508_errors.specs.declared.surroundings.Surroundings.{Surroundings}
use Rattle.pep508_urls.specs.Fault.{tells_size, TextMayOverflow}
use Rattle.pep508_urls.specs.Meaning.{IsVerbatim}
use Rattle.pep508_urls.specs.Verbatim.{Verbatim}
use Rattle.pep508_urls.specs.declared.error.VerbatimUrlError.{VerbatimUrlError}
use Rattle.marker_environment.specs.Valuation.{Valuation}
use Rattle.marker_graph.specs.Contents.{Contents, truth}
use Rattle.marker_graph.specs.declared.tree.MarkerTree.{MarkerTree}
use Rattle.requirement_lines.specs.Character.{Character}
use Rattle.requirement_lines.specs.Pieces.{line_of}
use Rattle.requirement_checks.specs.Lines.{StartsFrom}
use Rattle.requirement_checks.specs.Reading.{IsRead}
use Rattle.requirement_checks.specs.declared.reading.Form.{Form}
use Rattle.requirement_checks.specs.declared.reading.Form.TheVariants as forms
use Rattle.requirement_checks.specs.declared.reading.Reading.{Reading}
use Rattle.requirement_checks.specs.declared.reading.Reading.TheVariants as readings
use Rattle.selection_commands.specs.Truth.{AreTruths, IsTruth}
use Rattle.selection_commands.specs.declared.target.Target.{Target}
use Rattle.selection_commands.specs.declared.truth.Truth.{Truth}
use Rattle.selection_commands.specs.declared.reading.FoundMarker.{FoundMarker}
use Rattle.selection_commands.specs.declared.reading.HeldMarker.{HeldMarker}
use Rattle.selection_commands.specs.declared.reading.MarkerReader.{MarkerReader}
use Rattle.selection_commands.specs.declared.written.Stretch.{Stretch}

-- the form of a requirement: the argument of `-e` has no name
abbrev pub form_of : Bool → Form
form_of true = forms.Unnamed
form_of false = forms.Any

-- the requirement of a stretch, and its form
abbrev pub requirement_at : Stretch → List Character × Form
requirement_at stretch = (line_of stretch.pieces.now, form_of stretch.is_editable)

abbrev pub requirement_of : Option Stretch → Option (List Character × Form)
requirement_of None = None
requirement_of (Some stretch) = Some (requirement_at stretch)

-- the marker of a requirement that was parsed
abbrev pub marker_of : {T E : Type 0} → Reading T E → Option MarkerTree
marker_of (readings.Named r warnings) = Some r.marker
marker_of (readings.Unnamed r warnings) = Some r.marker
marker_of (readings.Invalid error) = None
marker_of readings.NumberTooLarge = None

-- what the library's readers make of a text of this form
abbrev pub IsReadIn : Surroundings → Form → Contents → List ℕ
    → Reading Verbatim VerbatimUrlError → Type 0
IsReadIn = IsRead IsVerbatim tells_size TextMayOverflow (λ url. url.given)

-- the same of a requirement that is the argument of `-e`, or is not
abbrev pub IsReadBy : Surroundings → Bool → Contents → List ℕ
    → Reading Verbatim VerbatimUrlError → Type 0
IsReadBy surroundings is_editable = IsReadIn surroundings (form_of is_editable)

-- in these surroundings the text parses as a requirement with this marker
pub record HasMarkerIn (surroundings : Surroundings) (form : Form) (c : Contents) (text : List ℕ)
    (marker : MarkerTree) : Type 0 where
  pub reading : Reading Verbatim VerbatimUrlError
  pub read : IsReadIn surroundings form c text reading
  pub is : marker_of reading ≡ Some marker

-- so it is, if a marker is found
abbrev pub FindsMarker : Surroundings → Bool → Contents → List ℕ → Option FoundMarker → Type 0
FindsMarker surroundings is_editable c text found = IfSome found
    (λ marker. HasMarkerIn surroundings (form_of is_editable) c text marker.tree)

-- Where no variable has a value and paths start from the folder, the text parses as a requirement
-- with a marker that means this.
pub record HasMarker (folder : List ℕ) (form : Form) (text : List ℕ) (means : Valuation → Bool)
    : Type 0 where
  pub surroundings : Surroundings
  pub starts : StartsFrom folder surroundings
  pub contents : Contents
  pub marker : MarkerTree
  pub has : HasMarkerIn surroundings form contents text marker
  pub same : means ≡ truth contents marker

-- what a marker in an interner means
abbrev pub truth_held : HeldMarker → Valuation → Bool
truth_held held = truth held.interner held.marker.tree

-- the marker in an interner is that of the text
abbrev pub IsMarkerOf : List ℕ → Form → List ℕ → HeldMarker → Type 0
IsMarkerOf folder form text held = HasMarker folder form text (truth_held held)

-- so it is for a reader, if a marker is found
abbrev pub FindsMarkerOf : MarkerReader → Bool → List ℕ → Option HeldMarker → Type 0
FindsMarkerOf reader is_editable text found =
    IfSome found (IsMarkerOf reader.settings.folder.now (form_of is_editable) text)

-- the marker of the requirement is so in the target
pub record HasTruth (folder : List ℕ) (form : Form) (text : List ℕ) (target : Target)
    (is : Truth) : Type 0 where
  pub means : Valuation → Bool
  pub marker : HasMarker folder form text means
  pub truth : IsTruth target means is

-- the marker of the requirement is so in each of the targets, in their order
pub record HasTruths (folder : List ℕ) (form : Form) (text : List ℕ) (targets : List Target)
    (are : List Truth) : Type 0 where
  pub means : Valuation → Bool
  pub marker : HasMarker folder form text means
  pub truths : AreTruths means targets are
