-- The characters of normal texts of versions (PEP 440, "Normalization").
use Rattle.std.specs.Prelude.{◌≡◌, ◌≢◌, ◌==◌, ◌||◌, ◌<◌, ℕ, Bool, false}
use Rattle.std.specs.Char.{is_ascii_digit, is_ascii_lowercase, is_ascii_uppercase, is_whitespace}

-- a lower-case letter, a digit, `!` (33), `+` (43) or `.` (46)
abbrev pub is_version_byte : ℕ → Bool
is_version_byte b = is_ascii_lowercase b || is_ascii_digit b || b == 33 || b == 43 || b == 46

-- an ASCII character other than white space, capitals, `"` (34), `'` (39), `,` (44) and `;` (59)
pub record IsPlainByte (b : ℕ) : Type 0 where
  pub ascii : b < 128
  pub no_space : is_whitespace b ≡ false
  pub no_capital : is_ascii_uppercase b ≡ false
  pub no_double_quote : b ≢ 34
  pub no_single_quote : b ≢ 39
  pub no_comma : b ≢ 44
  pub no_semicolon : b ≢ 59
