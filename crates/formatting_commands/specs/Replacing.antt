-- How a file is replaced: by a new file, which takes its path once it is whole and on the disk.
use Rattle.std.specs.Prelude.{ℕ, Bool, true, false, List}

-- what is done with the new file
pub data Step : Type 0 where
  -- it is created, empty, beside the file at this path
  create : List ℕ → Step
  -- all of these bytes are written to it
  write : List ℕ → Step
  -- what was written is on the disk
  sync : Step
  -- it takes this path, in place of the file there
  rename : List ℕ → Step
  remove : Step

-- `Tries` says which states a step that is tried leads to, and whether it succeeds
module _ {State : Type 0} (Tries : State → Step → Bool → State → Type 0)
    (path bytes : List ℕ) where
  -- all of the bytes are written to the new file, and are on the disk then
  pub record IsFilled (created filled : State) : Type 0 where
    pub written : State
    pub writes : Tries created (write bytes) true written
    pub syncs : Tries written sync true filled

  -- only then does it take the path
  pub record IsRenamed (created renamed : State) : Type 0 where
    pub filled : State
    pub is_filled : IsFilled created filled
    pub renames : Tries filled (rename path) true renamed

  -- the file at the path is replaced by a new one
  pub record Replaces (old new : State) : Type 0 where
    pub created : State
    pub creates : Tries old (create path) true created
    pub is_renamed : IsRenamed created new

  -- a step fails, and none follows; the path was not taken
  pub data Stops (created failed : State) : Type 0 where
    not_written : Tries created (write bytes) false failed → Stops created failed
    not_synced : {written : State} → Tries created (write bytes) true written
        → Tries written sync false failed → Stops created failed
    not_renamed : {filled : State} → IsFilled created filled
        → Tries filled (rename path) false failed → Stops created failed

  -- the file at the path stays: there is no new file, or it is removed, if that succeeds
  pub data Leaves (old new : State) : Type 0 where
    not_created : Tries old (create path) false new → Leaves old new
    removed : {created failed : State} {succeeds : Bool} → Tries old (create path) true created
        → Stops created failed → Tries failed remove succeeds new → Leaves old new
