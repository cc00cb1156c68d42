-- Lists of versions: what a version key is compared with by `in` and `not in`.
use Rattle.std.specs.Prelude.{ℕ, List, [], ◌∷◌, encode_utf8_all, Vec}
use Rattle.pep508_text.specs.Run.{Run, Spaces}
use Rattle.pep508_text.specs.declared.classes.Class.TheVariants.{NotSpace}
use Rattle.pep440_version.specs.Parts.{Parts}
use Rattle.pep440_version.specs.Grammar.{IsVersionText}
use Rattle.std.specs.Str.{chars}

-- an entry, as its bytes: after any white space, the longest run of other characters
pub data IsEntry : List ℕ → List ℕ → List ℕ → Type 0 where
  run : {input start word rest : List ℕ} {c : ℕ} →
      Spaces input start → Run NotSpace start (c ∷ word) rest →
      IsEntry input (encode_utf8_all (c ∷ word)) rest

-- the entries are texts of these versions
pub data IsVersionList : List ℕ → List Parts → Type 0 where
  no_entry : {input : List ℕ} → Spaces input [] → IsVersionList input []
  entry : {input word rest : List ℕ} {v : Parts} {versions : List Parts} →
      IsEntry input word rest → IsVersionText word v → IsVersionList rest versions →
      IsVersionList input (v ∷ versions)

-- the text is a list of these versions
abbrev pub ListsVersions : {A : Type 0} → List ℕ → Vec Parts A → Type 0
ListsVersions text versions = IsVersionList (chars text) versions.items

-- the text is no list of versions
abbrev pub ListsNone : List ℕ → Type 0
ListsNone text = (versions : List Parts) → ¬ IsVersionList (chars text) versions
