-- Groups and extras by their names in normal form (PEP 503), and what groups include (PEP 735). A
-- group is known by the place of its name among the entries of a file.
use Rattle.std.specs.Prelude.{◌≡◌, ℕ, zero, suc, ◌+◌, ◌<◌, ◌≤◌, Bool, true, false, List, [], ◌∷◌, drop, slice_get, Option, MatchOption, IsSomeAnd, unwrap_or, if◌then◌else◌}
use Rattle.pep508_names.specs.Name.{NormalizesTo}
use Rattle.project_files.specs.declared.key.Section.{Section}
use Rattle.project_files.specs.declared.key.Section.TheVariants.{Group}
use Rattle.project_files.specs.declared.groups.Role.{Role}
use Rattle.project_files.specs.declared.groups.Role.TheVariants.{Head, Item, Other}
use Rattle.project_files.specs.Entries.{ContentOf, named, include, EntryOf}

-- the name of a group or extra, before or within its list
abbrev pub name_of : EntryOf → List ℕ
name_of e = unwrap_or e.key.name []

-- the entry begins a group or extra of the section, whose name has this normal form
pub record Names (section : Section) (n : List ℕ) (e : EntryOf) : Type 0 where
  pub section_is : e.key.section ≡ section
  pub begins : e.content ≡ named
  pub normal : NormalizesTo (name_of e) n

-- the normal form of the name, if the entry begins a group or extra of the section
abbrev pub IsNameIn : Section → EntryOf → Option (List ℕ) → Type 0
IsNameIn section e name =
    MatchOption name ((n : List ℕ) → ¬ Names section n e) (λ n. Names section n e)

abbrev pub IsNamed : List EntryOf → Section → ℕ → List ℕ → Type 0
IsNamed es section k n = IsSomeAnd (slice_get es k) (Names section n)

-- the first group or extra of the section with this name in normal form
pub record IsFirst (es : List EntryOf) (section : Section) (k : ℕ) (n : List ℕ) : Type 0 where
  pub is_named : IsNamed es section k n
  pub first : (j : ℕ) → j < k → IsNamed es section j n → ⊥

-- the group that a name means, in any spelling
abbrev pub Means : List EntryOf → List ℕ → ℕ → Type 0
Means es name k = (n : List ℕ) × NormalizesTo name n × IsFirst es Group k n

-- ---- lists of groups

-- the part of an entry in groups: a name begins a list, and its items follow
abbrev pub role_in : Section → ContentOf → Role
role_in Group named = Head
role_in Group content = Item
role_in section content = Other

abbrev pub role_of : EntryOf → Role
role_of e = role_in e.key.section e.content

abbrev pub Plays : List EntryOf → Role → ℕ → Type 0
Plays es role k = IsSomeAnd (slice_get es k) (λ e. role_of e ≡ role)

abbrev pub is_item : Role → Bool
is_item Item = true
is_item role = false

-- the items at the front
abbrev pub items : List EntryOf → List EntryOf
items [] = []
items (e ∷ es) = if is_item (role_of e) then e ∷ items es else []

-- the list of the group at a place
abbrev pub list_at : List EntryOf → ℕ → List EntryOf
list_at es k = items (drop (k + 1) es)

-- the group at p includes the one at q, by an item of its list
pub record Includes (es : List EntryOf) (p q : ℕ) : Type 0 where
  pub place : ℕ
  pub after : p < place
  pub listed : (j : ℕ) → p < j → j ≤ place → Plays es Item j
  pub name : List ℕ
  pub is_include : IsSomeAnd (slice_get es place) (λ e. e.content ≡ include name)
  pub means : Means es name q

-- A group ends in n steps, by a relation of inclusion, if each group that it includes ends in one
-- step less. None ends in no steps.
abbrev pub EndsIn : (ℕ → ℕ → Type 0) → ℕ → ℕ → Type 0
EndsIn R zero p = ⊥
EndsIn R (suc n) p = (q : ℕ) → R p q → EndsIn R n q

-- including the group at a place ends: no includes from there go in a circle
abbrev pub Ends : List EntryOf → ℕ → Type 0
Ends es p = (n : ℕ) × EndsIn (Includes es) n p
