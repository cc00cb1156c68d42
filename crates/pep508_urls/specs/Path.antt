-- Paths, and how one is written as a `file` URL. Texts are lists of bytes.
use Rattle.std.specs.Prelude.{ℕ, Bool, ◌||◌, ◌==◌, nat_le, List, [], ◌∷◌, ◌++◌, codes, length, reverse, slice_index, Option, Some, None, option_map, if◌then◌else◌}
use Rattle.std.specs.List.{slice_split, join_with_byte, flat_map, list_any}
use Rattle.std.specs.Option.{option_and_then}
use Rattle.std.specs.Str.{bytes_eq, is_utf8}
use Rattle.percent_encoding.specs.Percent.{percent_encode, percent_decode}
use Rattle.pep508_urls.specs.declared.path.TheConstants.{FILE_PART}

-- the parts of a path between slashes
abbrev pub parts : List ℕ → List (List ℕ)
parts path = slice_split (λ b. b == 47) path

-- the empty part and `.` lead nowhere else
abbrev pub stays : List ℕ → Bool
stays part = bytes_eq part [] || bytes_eq part (codes ".")

-- `..` leaves a folder
abbrev pub leaves : List ℕ → Bool
leaves part = bytes_eq part (codes "..")

-- the folder that a folder is in, the innermost part first
abbrev pub parent : List (List ℕ) → Option (List (List ℕ))
parent [] = None
parent (innermost ∷ outer) = Some outer

-- where the parts lead from a folder, the innermost part first
abbrev pub walk : List (List ℕ) → List (List ℕ) → Option (List (List ℕ))
walk folder [] = Some folder
walk folder (part ∷ rest) =
    if stays part then walk folder rest
    else (if leaves part then option_and_then (λ outer. walk outer rest) (parent folder)
    else walk (part ∷ folder) rest)

-- the path begins with a slash
abbrev pub is_absolute : List ℕ → Bool
is_absolute path = slice_index path 0 == 47

-- the slash that the path begins with, if there is one
abbrev pub root : List ℕ → List ℕ
root path = if is_absolute path then codes "/" else []

-- the parts of a folder, the innermost first, after a root
abbrev pub path_text : List ℕ → List (List ℕ) → List ℕ
path_text root_text folder = root_text ++ join_with_byte 47 (reverse folder)

-- the path without `.`, `..` and empty parts, unless a `..` finds no part to take away
abbrev pub normalized : List ℕ → Option (List ℕ)
normalized path = option_map (path_text (root path)) (walk [] (parts path))

-- a path in a URL with its escapes decoded, if they give a text, otherwise as it is
abbrev pub url_path : List ℕ → List ℕ
url_path path = if is_utf8 (percent_decode path) then percent_decode path else path

-- The characters that a part of a path escapes in a file URL: controls and space, twelve marks, DEL
-- and all that are not ASCII. `FILE_PART` has these, by a law of the crate.
abbrev pub is_escaped : ℕ → Bool
is_escaped b = nat_le b 32 || list_any (λ mark. b == mark) (codes "\"#%/<>?\\`{|}") || nat_le 127 b

-- a part of a path in a file URL
abbrev pub file_part : List ℕ → List ℕ
file_part part = if stays part then [] else 47 ∷ percent_encode FILE_PART part

-- the parts of a path in a file URL
abbrev pub file_path : List ℕ → List ℕ
file_path path = flat_map file_part (parts path)

-- the URL of a path, as a text
abbrev pub file_text : List ℕ → List ℕ
file_text path =
    codes "file://" ++ (if length (file_path path) == 0 then codes "/" else file_path path)
