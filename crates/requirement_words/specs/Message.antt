-- What is said of the faults of requirements. Messages and pieces are lists of bytes.
use Rattle.std.specs.Prelude.{ℕ, Bool, true, false, List, ◌++◌, Option, Some, codes}
use Rattle.pep440_specifier.specs.Fault.{error_text}
use Rattle.requirement_words.specs.declared.fault.FaultKind.{FaultKind}
use Rattle.requirement_words.specs.declared.fault.FaultKind.TheVariants.{Blank, NoName, NameEnd, NoBody, LeadingComma, NoSeparator, NoExtra, InvalidExtra, ExtraEnd, UnclosedBracket, UnclosedParenthesis, Specifier, NoUrl, AmbiguousEnd, Trailing, PathWithoutName, UrlWithoutName, ArchiveWithoutName}

-- something else was expected than the piece that was found
abbrev pub expected_text : List ℕ → List ℕ → List ℕ
expected_text expected piece =
    codes "Expected " ++ (expected ++ (codes ", found `" ++ (piece ++ codes "`")))

-- a name has to end otherwise
abbrev pub end_text : List ℕ → List ℕ → List ℕ
end_text part piece =
    part ++ (codes " name must end with an alphanumeric character, not '" ++ (piece ++ codes "'"))

-- a requirement has to have a name
abbrev pub missing_name_text : List ℕ → List ℕ
missing_name_text example =
    codes "URL requirement must be preceded by a package name. Add the name of the package before the URL (e.g., `package_name @ "
    ++ (example ++ codes "`).")

-- the message of a fault; the piece is the text at its place
abbrev pub message_of : FaultKind → List ℕ → Option (List ℕ)
message_of Blank piece = Some (codes "Empty field is not allowed for PEP508")
message_of NoName piece = Some (expected_text (codes "package name starting with an alphanumeric character") piece)
message_of NameEnd piece = Some (end_text (codes "Package") piece)
message_of NoBody piece = Some (expected_text (codes "one of `@`, `(`, `<`, `=`, `>`, `~`, `!`, `;`") piece)
message_of LeadingComma piece = Some (expected_text (codes "either alphanumerical character (starting the extra name) or `]` (ending the extras section)") piece)
message_of NoSeparator piece = Some (expected_text (codes "either `,` (separating extras) or `]` (ending the extras section)") piece)
message_of NoExtra piece = Some (expected_text (codes "an alphanumeric character starting the extra name") piece)
message_of InvalidExtra piece = Some (codes "Invalid character in extras name, expected an alphanumeric character, `-`, `_`, `.`, `,` or `]`, found `" ++ (piece ++ codes "`"))
message_of ExtraEnd piece = Some (end_text (codes "Extra") piece)
message_of UnclosedBracket piece = Some (codes "Missing closing bracket (expected ']', found end of dependency specification)")
message_of UnclosedParenthesis piece = Some (codes "Missing closing parenthesis (expected ')', found end of dependency specification)")
message_of (Specifier error) piece = error_text error.fault error.place
message_of NoUrl piece = Some (codes "Expected URL")
message_of AmbiguousEnd piece = Some (codes "Missing space before '" ++ (piece ++ codes "', the end of the URL is ambiguous"))
message_of Trailing piece = Some (expected_text (codes "end of input or `;`") piece)
message_of PathWithoutName piece = Some (missing_name_text (codes "/path/to/file"))
message_of UrlWithoutName piece = Some (missing_name_text (codes "https://..."))
message_of ArchiveWithoutName piece = Some (missing_name_text (codes "https://..."))

-- the fault is a path, a URL or an archive without a name
abbrev pub is_unsupported : FaultKind → Bool
is_unsupported PathWithoutName = true
is_unsupported UrlWithoutName = true
is_unsupported ArchiveWithoutName = true
is_unsupported kind = false
