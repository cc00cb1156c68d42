-- What is reported of the requirements of a file: of each line in turn, by a judge who says which
-- findings a text has.
use Rattle.std.specs.Prelude.{◌≡◌, ◌≢◌, ℕ, ◌-◌, nat_lt, true, List, [], ◌∷◌, map, Option, None, Some, option_map, encode_utf8_all, String, Vec, if◌then◌else◌}
use Rattle.std.specs.Char.{len_utf8}
use Rattle.std.specs.BTreeMap.{BTreeMap}
use Rattle.std.specs.declared.alloc.Global.{Global}
use Rattle.requirement_lines.specs.Character.{Character, after}
use Rattle.requirement_lines.specs.Marks.{before}
use Rattle.requirement_lines.specs.Pieces.{line_of}
use Rattle.requirement_lines.specs.Variables.{replaced_lines, value_of}
use Rattle.requirement_lines.specs.declared.pieces.Piece.{Piece}
use Rattle.requirement_lines.specs.declared.places.Place.{Place}
use Rattle.requirement_lines.specs.declared.sets.Mark.TheVariants.{Options}
use Rattle.requirement_lines.specs.declared.reports.LineReport.{LineReport}

-- the text of a line
abbrev pub text_of : List Character → List ℕ
text_of line = encode_utf8_all (map (λ (p : Character). p.char) line)

-- the requirement of a line: the part before its options; empty if it has only options
abbrev pub requirement_of : List Character → List Character
requirement_of line = before Options true line

-- The place of the byte of the line's text, which may be the end of the text. `end` is where a
-- line with no character ends.
abbrev pub place_at : Place → List Character → ℕ → Place
place_at end [] at = end
place_at end (p ∷ ps) at =
    if nat_lt at (len_utf8 p.char) then after p.place at
    else place_at (after p.place (len_utf8 p.char)) ps (at - len_utf8 p.char)

-- a requirement, and what was found in it
pub record Report (Finding : Type 0) : Type 0 where
  pub requirement : List Character
  pub findings : List Finding

abbrev pub report_of : {Finding : Type 0} → LineReport Finding → Report Finding
report_of report =
    record { requirement = line_of report.requirement.items; findings = report.findings.items }

module _ {State Finding : Type 0} (Finds : State → List ℕ → List Finding → State → Type 0) where
  -- From the state `old` this is reported of a line: nothing if it has only options, otherwise the
  -- findings of its requirement; then the state is `new`.
  abbrev pub ReportsLine : State → List Character → Option (Report Finding) → State → Type 0
  ReportsLine old line None new = (requirement_of line ≡ []) × (new ≡ old)
  ReportsLine old line (Some report) new = (report.requirement ≡ requirement_of line)
      × (requirement_of line ≢ [])
      × Finds old (text_of (requirement_of line)) report.findings new

  -- the same of a line in pieces
  abbrev pub ReportsPieces : State → List Piece → Option (LineReport Finding) → State → Type 0
  ReportsPieces old line report new =
      ReportsLine old (line_of line) (option_map report_of report) new

  -- from the state `old` this is reported of the lines, one by one and in their order, and the
  -- state is `new` then
  pub data Reports : State → List (List Character) → List (Report Finding) → State → Type 0 where
    none : {state : State} → Reports state [] [] state
    options : {old new : State} {line : List Character} {lines : List (List Character)}
        {reports : List (Report Finding)}
        → requirement_of line ≡ [] → Reports old lines reports new
        → Reports old (line ∷ lines) reports new
    requirement : {old middle new : State} {line : List Character}
        {lines : List (List Character)} {first : Report Finding}
        {reports : List (Report Finding)}
        → first.requirement ≡ requirement_of line → requirement_of line ≢ []
        → Finds old (text_of (requirement_of line)) first.findings middle
        → Reports middle lines reports new
        → Reports old (line ∷ lines) (first ∷ reports) new

  -- the same of the lines of a file, with the values of a table in place of variables
  abbrev pub ReportsFile : {A : Type 0} → State → State → BTreeMap (String A) (String A) → List ℕ
      → Vec (LineReport Finding) Global → Type 0
  ReportsFile old new variables text reports =
      Reports old (replaced_lines (value_of variables) text) (map report_of reports.items) new
