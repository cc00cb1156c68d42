-- Markers by number: the list of their truths.
use Rattle.std.specs.Prelude.{◌≡◌, ℕ, List, [], ◌∷◌, ◌++◌, length}
use Rattle.pep508_markers.specs.Machine.{Truth, Cells, Holds}
use Rattle.foreign_calls.specs.Marker.{IsTextOf}
use Rattle.foreign_markers.specs.declared.markers.Markers.{Markers}
use Rattle.foreign_markers.specs.Held.{truths_in}

-- the truths of the markers, in the order of their numbers
abbrev pub truths_of : Markers → Cells
truths_of m = truths_in m.interner m.trees.items

-- the next number is that of a new marker, whose truth is as P says; the others stay
pub record Adds (P : Truth → Type 0) (old new : Cells) (number : ℕ) : Type 0 where
  pub truth : Truth
  pub means : P truth
  pub number_is : number ≡ length old
  pub new_is : new ≡ old ++ (truth ∷ [])

-- the bytes are the text of the marker of this number
pub record HasText (cells : Cells) (number : ℕ) (bytes : List ℕ) : Type 0 where
  pub truth : Truth
  pub is_there : Holds cells number truth
  pub written : IsTextOf truth bytes
