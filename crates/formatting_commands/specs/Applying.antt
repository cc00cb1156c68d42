-- A text with parts of it replaced. The bytes of a file are counted from its start; `size` is how
-- many there are.
use Rattle.std.specs.Prelude.{◌≡◌, ℕ, ◌-◌, List, [], ◌∷◌, ◌++◌, length, string_bytes}
use Rattle.formatting_commands.specs.declared.applying.Edit.{Edit}

-- The end of a file, `text`, becomes `new`: between the edited parts each byte is kept.
pub data Makes (size : ℕ) : List ℕ → List Edit → List ℕ → Type 0 where
  kept : {text : List ℕ} → Makes size text [] text
  replaced : {edit : Edit} {edits : List Edit} {new : List ℕ} (front old back : List ℕ)
      → edit.start ≡ size - length (old ++ back) → edit.end ≡ size - length back
      → Makes size back edits new
      → Makes size (front ++ (old ++ back)) (edit ∷ edits)
      (front ++ (string_bytes edit.text ++ new))

-- the same of a whole file
abbrev pub MakesFile : List ℕ → List Edit → List ℕ → Type 0
MakesFile file edits new = Makes (length file) file edits new
