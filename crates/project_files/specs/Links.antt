-- Which groups include which, and which of them end, as lists.
use Rattle.std.specs.Prelude.{◌≡◌, ℕ, ◌<◌, ◌⊎◌, ◌&&◌, Bool, true, false, List, [], ◌∷◌, length, slice_index_or, slice_set, count_by, not, Decides, Option, None, Some, if◌then◌else◌}
use Rattle.project_files.specs.declared.includes.Link.{Link}
use Rattle.project_files.specs.declared.groups.Role.{Role}
use Rattle.project_files.specs.declared.groups.Role.TheVariants.{Head, Item, Other}
use Rattle.project_files.specs.Entries.{ContentOf, include, EntryOf}
use Rattle.project_files.specs.Firsts.{Finds}
use Rattle.project_files.specs.Groups.{Plays, Includes, Ends, EndsIn}

-- the list has a link from p to q
abbrev pub Has : List Link → ℕ → ℕ → Type 0
Has [] p q = ⊥
Has (l ∷ ls) p q = ((l.from ≡ p) × (l.to ≡ q)) ⊎ Has ls p q

-- the links are the includes of the groups
pub record Links (es : List EntryOf) (ls : List Link) : Type 0 where
  pub sound : (p q : ℕ) → Has ls p q → Plays es Head p × Includes es p q
  pub complete : (p q : ℕ) → Plays es Head p → Includes es p q → Has ls p q

-- both ends of each link are below n
abbrev pub AreBelow : List Link → ℕ → Type 0
AreBelow ls n = (p q : ℕ) → Has ls p q → (p < n) × (q < n)

-- the flag at a place
abbrev pub flag : List Bool → ℕ → Bool
flag flags k = slice_index_or flags k false

-- the flags tell which of the first n groups end
pub record Ended (ls : List Link) (n : ℕ) (flags : List Bool) : Type 0 where
  pub count : length flags ≡ n
  pub sound : (p : ℕ) → flag flags p ≡ true → (steps : ℕ) × EndsIn (Has ls) steps p
  pub complete : (p : ℕ) → p < n → (steps : ℕ) × EndsIn (Has ls) steps p → flag flags p ≡ true

-- the flags tell which groups include one without a flag
pub record Waits (ls : List Link) (ended waits : List Bool) : Type 0 where
  pub count : length waits ≡ length ended
  pub sound : (p : ℕ) → flag waits p ≡ true → (q : ℕ) × Has ls p q × (flag ended q ≡ false)
  pub complete : (p q : ℕ) → Has ls p q → flag ended q ≡ false → flag waits p ≡ true

-- Each group without a flag that waits for none gets one, among the first i: the flags were `old`,
-- and `changed` tells whether there was such a group.
pub record Settled (old new waits : List Bool) (i : ℕ) (changed : Bool) : Type 0 where
  pub count : length new ≡ length old
  pub marked : (p : ℕ) → flag new p ≡ true → (flag old p ≡ true) ⊎ (flag waits p ≡ false)
  pub same : changed ≡ false → new ≡ old
  pub waiting : changed ≡ false → (p : ℕ) → p < i → flag old p ≡ false → flag waits p ≡ true
  pub fewer : changed ≡ true → count_by not new < count_by not old

-- the flags, with one at this place if there is a reason to
abbrev pub flag_if : Bool → List Bool → ℕ → List Bool
flag_if reason flags place = if reason then slice_set flags place true else flags

-- a group without a flag waits for none
abbrev pub settles : List Bool → ℕ → Bool → Bool
settles ended place waits = not (flag ended place) && not waits

-- the group at a place has a flag then
abbrev pub SettlesAt : ℕ → Bool → List Bool → List Bool → Type 0
SettlesAt place waits old new = new ≡ flag_if (settles old place waits) old place

-- the flags tell which groups of a file end
pub record EndedIn (es : List EntryOf) (flags : List Bool) : Type 0 where
  pub count : length flags ≡ length es
  pub tells : (p : ℕ) → Plays es Head p → Decides (flag flags p) (Ends es p)

-- the group that an entry begins or is in, where the entry before is in this one
abbrev pub home_of : Option ℕ → Role → ℕ → Option ℕ
home_of before Head place = Some place
home_of before Item place = before
home_of before Other place = None

-- what a map of places of names finds for an entry: a place if it includes a group that it knows
abbrev pub Targets : (List ℕ → Option ℕ) → ContentOf → Option ℕ → Type 0
Targets found (include name) place = Finds found name place
Targets found content place = place ≡ None

-- the link between two groups
abbrev pub link_of : Option ℕ → Option ℕ → List Link
link_of (Some p) (Some q) = record { from = p; to = q } ∷ []
link_of (Some p) None = []
link_of None target = []
