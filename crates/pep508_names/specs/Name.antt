-- Names of packages and of extras: which texts are names (PEP 508), and the normal form of a name
-- (PEP 503). A text is its bytes.
use Rattle.std.specs.Prelude.{◌≢◌, ◌==◌, ◌-◌, ℕ, List, [], ◌∷◌, ◌++◌, length, map, slice_get, if◌then◌else◌, IsTrue, IsSomeAnd}
use Rattle.std.specs.Char.{is_ascii_alphanumeric}
use Rattle.std.specs.List.{list_all}
use Rattle.std.specs.Str.{str_to_ascii_lowercase}
use Rattle.pep508_text.specs.Class.{is_name_character, is_separator}

-- one or more letters and digits of ASCII
pub record IsWord (w : List ℕ) : Type 0 where
  pub nonempty : w ≢ []
  pub alphanumeric : IsTrue (list_all is_ascii_alphanumeric w)

-- one or more separators
pub record IsRun (s : List ℕ) : Type 0 where
  pub nonempty : s ≢ []
  pub separators : IsTrue (list_all is_separator s)

-- t is a name, and n its normal form: a name is words joined by runs of separators, and in its
-- normal form the words are lowercase and each run is one `-`
pub data NormalizesTo : List ℕ → List ℕ → Type 0 where
  word : {w : List ℕ} → IsWord w → NormalizesTo w (str_to_ascii_lowercase w)
  joined : {w s t n : List ℕ} → IsWord w → IsRun s → NormalizesTo t n
      → NormalizesTo (w ++ (s ++ t)) (str_to_ascii_lowercase w ++ (45 ∷ n))

-- the text is a name
abbrev pub IsName : List ℕ → Type 0
IsName t = (n : List ℕ) × NormalizesTo t n

-- the same texts, in the words of PEP 508: letters, digits and separators, with a letter or digit
-- at each end
pub record IsIdentifier (t : List ℕ) : Type 0 where
  pub characters : IsTrue (list_all is_name_character t)
  pub first : IsSomeAnd (slice_get t 0) (λ c. IsTrue (is_ascii_alphanumeric c))
  pub last : IsSomeAnd (slice_get t (length t - 1)) (λ c. IsTrue (is_ascii_alphanumeric c))

-- the name in a file name of a distribution: each `-` is `_`
abbrev pub dist_info_name : List ℕ → List ℕ
dist_info_name n = map (λ c. if c == 45 then 95 else c) n
