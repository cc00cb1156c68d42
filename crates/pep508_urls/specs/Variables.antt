-- Variables that a text refers to, as `${NAME}`. Texts are lists of bytes.
use Rattle.std.specs.Prelude.{◌≡◌, ℕ, ◌<◌, Bool, true, ◌||◌, ◌==◌, List, [], ◌∷◌, ◌++◌, All, length, codes, string_bytes, unwrap_or, option_map, if◌then◌else◌}
use Rattle.std.specs.Char.{is_ascii_digit, is_ascii_uppercase}
use Rattle.std.specs.Str.{bytes_eq}
use Rattle.std.specs.BTreeMap.{get_by_text}
use Rattle.pep508_errors.specs.declared.surroundings.Surroundings.{Surroundings}

-- one of A to Z, 0 to 9 and `_`
abbrev pub is_name_byte : ℕ → Bool
is_name_byte b = is_ascii_uppercase b || is_ascii_digit b || b == 95

-- the name of a variable: one or more of these
pub record IsVariableName (name : List ℕ) : Type 0 where
  pub some : 0 < length name
  pub each : All (λ b. is_name_byte b ≡ true) name

-- how a text refers to a variable: `${NAME}`
abbrev pub reference : List ℕ → List ℕ
reference name = 36 ∷ 123 ∷ (name ++ (125 ∷ []))

-- the text begins with such a reference
pub record BeginsWithReference (text : List ℕ) : Type 0 where
  pub name : List ℕ
  pub rest : List ℕ
  pub is_name : IsVariableName name
  pub joined : text ≡ 36 ∷ 123 ∷ (name ++ (125 ∷ rest))

-- From left to right each reference is replaced by the value of its name, and every other byte
-- stays. A value is not expanded again.
pub data Expands (value : List ℕ → List ℕ) : List ℕ → List ℕ → Type 0 where
  nothing : Expands value [] []
  variable : {text out name rest expanded : List ℕ} → IsVariableName name
      → text ≡ 36 ∷ 123 ∷ (name ++ (125 ∷ rest)) → out ≡ value name ++ expanded
      → Expands value rest expanded → Expands value text out
  other : {b : ℕ} {rest expanded : List ℕ} → ¬ BeginsWithReference (b ∷ rest)
      → Expands value rest expanded → Expands value (b ∷ rest) (b ∷ expanded)

-- the value of a name: the variable, else the project root for `PROJECT_ROOT`, else the reference
-- itself
abbrev pub value_of : Surroundings → List ℕ → List ℕ
value_of surroundings name =
    unwrap_or (option_map string_bytes (get_by_text surroundings.vars.now name))
    (if bytes_eq name (codes "PROJECT_ROOT") then surroundings.project_root.now else reference name)
