-- The end of the URL of a requirement. (This project's own; PEP 508 leaves it open.)
use Rattle.std.specs.Prelude.{ℕ, ◌+◌, ◌-◌, Bool, true, false, List, [], ◌∷◌, ◌||◌, ◌&&◌, ◌==◌, if◌then◌else◌}
use Rattle.std.specs.Char.{is_whitespace}
use Rattle.pep508_text.specs.Run.{after_space}
use Rattle.pep508_text.specs.Class.{is_line_break}
use Rattle.requirement_words.specs.declared.url.UrlPlace.{UrlPlace}
use Rattle.requirement_words.specs.declared.url.UrlPlace.TheVariants.{BehindName, Alone}

-- How many `[` (91) are open after a character, if so many were before it. A `]` (93) with none
-- open does not count, and after a name no bracket counts.
abbrev pub open_behind : UrlPlace → ℕ → ℕ → ℕ
open_behind BehindName c brackets = brackets
open_behind Alone c brackets =
    if c == 91 then brackets + 1 else (if c == 93 then brackets - 1 else brackets)

-- what may follow white space that ends a URL: the end, `;` (59) or `#` (35)
abbrev pub is_url_stop : List ℕ → Bool
is_url_stop [] = true
is_url_stop (c ∷ cs) = c == 59 || c == 35

-- a URL may end before white space, with no bracket open
abbrev pub may_end_before : ℕ → ℕ → Bool
may_end_before brackets c = brackets == 0 && is_whitespace c

-- A URL ends before this: at the end, at a line break, and with no bracket open at white space that
-- the end, `;` or `#` follows.
abbrev pub stops : ℕ → List ℕ → Bool
stops brackets [] = true
stops brackets (c ∷ cs) =
    is_line_break c || (may_end_before brackets c && is_url_stop (after_space cs))

abbrev pub begins_space : List ℕ → Bool
begins_space [] = false
begins_space (c ∷ cs) = is_whitespace c

-- a URL ends after this character: with no bracket open at a `;` or `#` that white space follows
abbrev pub closes : ℕ → ℕ → List ℕ → Bool
closes brackets c cs = (brackets == 0 && (c == 59 || c == 35)) && begins_space cs

-- the URL at the front, with so many brackets open: it extends to the first place where it ends
abbrev pub url_of : UrlPlace → ℕ → List ℕ → List ℕ
url_of place brackets [] = []
url_of place brackets (c ∷ cs) =
    if stops brackets (c ∷ cs) then []
    else c ∷ (if closes brackets c cs then [] else url_of place (open_behind place c brackets) cs)

-- what follows it
abbrev pub after_url : UrlPlace → ℕ → List ℕ → List ℕ
after_url place brackets [] = []
after_url place brackets (c ∷ cs) =
    if stops brackets (c ∷ cs) then c ∷ cs
    else (if closes brackets c cs then cs else after_url place (open_behind place c brackets) cs)
