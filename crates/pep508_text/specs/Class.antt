-- Which characters a class holds. A character is its code point.
use Rattle.std.specs.Prelude.{ℕ, Bool, not, ◌||◌, ◌&&◌, ◌==◌}
use Rattle.std.specs.Char.{is_ascii_alphanumeric, is_whitespace}
use Rattle.unicode.specs.Binary.{is_alphabetic}
use Rattle.pep508_text.specs.declared.classes.Class.{Class}
use Rattle.pep508_text.specs.declared.classes.Class.TheVariants.{Space, NotSpace, KeyPart, Comparison, WordPart, NotQuote, Alphabetic, NamePart, SpecifierPart, LineSpace}

-- one of `<`, `=`, `>`, `~` and `!`
abbrev pub is_comparison : ℕ → Bool
is_comparison c = c == 60 || c == 61 || c == 62 || c == 126 || c == 33

-- `-`, `_` or `.`
abbrev pub is_separator : ℕ → Bool
is_separator c = c == 45 || c == 95 || c == 46

-- a letter or digit of ASCII, or a separator (PEP 508, "Names")
abbrev pub is_name_character : ℕ → Bool
is_name_character c = is_ascii_alphanumeric c || is_separator c

-- a carriage return or a line feed
abbrev pub is_line_break : ℕ → Bool
is_line_break c = c == 13 || c == 10

-- the class holds the character; 41 is `)`, 39 and 34 are the quotes, 44 is the comma
abbrev pub holds : Class → ℕ → Bool
holds Space c = is_whitespace c
holds NotSpace c = not (is_whitespace c)
holds KeyPart c = not (is_whitespace c || is_comparison c || c == 41)
holds Comparison c = is_comparison c
holds WordPart c = not (is_whitespace c || c == 39 || c == 34)
holds (NotQuote quote) c = not (c == quote)
holds Alphabetic c = is_alphabetic c
holds NamePart c = is_name_character c
holds (SpecifierPart end) c = not (c == 44 || c == end)
holds LineSpace c = is_whitespace c && not (is_line_break c)
