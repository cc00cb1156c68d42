-- The replies of the program `markers` to what the machine answers, without the line feeds that end
-- them.
use Rattle.std.specs.Prelude.{◌≡◌, ℕ, true, false, List, ◌++◌, Some, None, codes, Vec}
use Rattle.std.specs.declared.alloc.Global.{Global}
use Rattle.std.specs.Fmt.{decimal}
use Rattle.std.specs.List.{flat_map}
use Rattle.pep508_errors.specs.declared.warning.MarkerWarningKind.{MarkerWarningKind}
use Rattle.pep508_errors.specs.declared.warning.MarkerWarningKind.TheVariants.{DeprecatedMarkerName, ExtraInvalidComparison, LexicographicComparison, MarkerMarkerComparison, Pep440Error, StringStringComparison}
use Rattle.pep508_markers.specs.Machine.{Answer, cell, truth_is, text_is, refused, Reason, no_such_cell, out_of_memory, segment_at_end, invalid_expression, marker}

-- the replies have these bytes after those that they had
abbrev pub GrowsBy : Vec ℕ Global → Vec ℕ Global → List ℕ → Type 0
GrowsBy old new bytes = new.items ≡ old.items ++ bytes

abbrev pub kind_name : MarkerWarningKind → List ℕ
kind_name DeprecatedMarkerName = codes "DeprecatedMarkerName"
kind_name ExtraInvalidComparison = codes "ExtraInvalidComparison"
kind_name LexicographicComparison = codes "LexicographicComparison"
kind_name MarkerMarkerComparison = codes "MarkerMarkerComparison"
kind_name Pep440Error = codes "Pep440Error"
kind_name StringStringComparison = codes "StringStringComparison"

-- a kind after a number
abbrev pub kind_text : MarkerWarningKind → List ℕ
kind_text kind = codes " " ++ kind_name kind

abbrev pub reason_text : Reason → List ℕ
reason_text no_such_cell = codes "error cell"
reason_text out_of_memory = codes "error memory"
reason_text segment_at_end = codes "error segment"
reason_text invalid_expression = codes "error expression"
reason_text (marker start len message) =
    codes "error marker "
    ++ (decimal start ++ (codes " " ++ (decimal len ++ (codes " " ++ message))))

-- a new cell has the kinds of its text's warnings, a fault its start and length in bytes; no line
-- has a comparison that the machine could refuse as invalid
abbrev pub reply_text : Answer → List ℕ
reply_text (cell n kinds) = (codes "cell " ++ decimal n) ++ flat_map kind_text kinds
reply_text (truth_is true) = codes "true"
reply_text (truth_is false) = codes "false"
reply_text (text_is (Some text)) = codes "text " ++ text
reply_text (text_is None) = codes "text"
reply_text (refused reason) = reason_text reason
