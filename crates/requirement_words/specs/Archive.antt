-- Names of archives. (This project's own; PEP 508 leaves it open which files an installer takes.)
-- Texts are lists of bytes.
use Rattle.std.specs.Prelude.{◌≡◌, ◌≢◌, ◌<◌, ◌||◌, ℕ, Bool, true, List, [], ◌∷◌, ◌++◌, codes, get_or, length}
use Rattle.std.specs.Str.{bytes_eq}

-- the text is a part that is not empty, a dot (46) and this extension, which has no dot
pub record HasExtension (text before extension : List ℕ) : Type 0 where
  pub some : before ≢ []
  pub joined : text ≡ before ++ (46 ∷ extension)
  pub no_dot : (i : ℕ) → i < length extension → get_or extension i 0 ≢ 46

-- extensions of archives
abbrev pub is_archive_extension : List ℕ → Bool
is_archive_extension e =
    bytes_eq e (codes "whl") || (bytes_eq e (codes "tbz") || (bytes_eq e (codes "txz")
    || (bytes_eq e (codes "tlz") || (bytes_eq e (codes "zip") || (bytes_eq e (codes "tgz")
    || bytes_eq e (codes "tar"))))))

-- extensions of what may be a compressed archive
abbrev pub is_compressed_extension : List ℕ → Bool
is_compressed_extension e =
    bytes_eq e (codes "bz2") || (bytes_eq e (codes "xz") || (bytes_eq e (codes "lz")
    || (bytes_eq e (codes "lzma") || bytes_eq e (codes "gz"))))

-- the name of an archive, or of an archive `tar` that is compressed
pub data IsArchive (text : List ℕ) : Type 0 where
  archive : {before extension : List ℕ} → HasExtension text before extension
      → is_archive_extension extension ≡ true → IsArchive text
  compressed : {before extension name : List ℕ} → HasExtension text before extension
      → is_compressed_extension extension ≡ true → HasExtension before name (codes "tar")
      → IsArchive text
