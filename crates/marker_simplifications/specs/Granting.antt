-- One step of granting extras: which ids an id waits for.
use Rattle.std.specs.Prelude.{◌≡◌, ◌⊎◌, ℕ, ◌≤◌, ◌<◌, All, Bool, false, IfSome, List, None, Option, Some, slice_get}
use Rattle.std.specs.Map.{lookup}
use Rattle.marker_diagrams.specs.declared.node_id.NodeId.{NodeId}
use Rattle.marker_diagrams.specs.Id.{place_of, is_negated, same_id, signed_id}
use Rattle.marker_nodes.specs.Node.{Node}
use Rattle.marker_simplifications.specs.declared.extras.Step.{Step}
use Rattle.marker_simplifications.specs.declared.extras.Step.TheVariants.{Made, Waits}
use Rattle.marker_simplifications.specs.Simplified.{AreUnder, IsGranted}

-- ids without signs, and what they are with extras set true
abbrev pub Known : Type 0
Known = List (NodeId × NodeId)

-- the id without its sign
abbrev pub plain : NodeId → NodeId
plain t = record { place = place_of t; complement = false }

-- the id is of a node, and has no result yet
pub record IsUnknown (known : Known) (t : NodeId) : Type 0 where
  pub node : 0 < place_of t
  pub missing : lookup (same_id t) known ≡ None

-- each id, without its sign, is known, or is that of no node
abbrev pub AreSettled : Known → List NodeId → Type 0
AreSettled known ids = (i : ℕ) (t : NodeId) → slice_get ids i ≡ Some t
    → ¬ IsUnknown known (plain t)

-- the id t is the constant a, or what is known of a without its sign, under the sign of a
abbrev pub IsFoundAs : Known → NodeId → NodeId → Type 0
IsFoundAs known a t = ((place_of a ≡ 0) × (t ≡ a))
    ⊎ ((s : NodeId) × (lookup (same_id (plain a)) known ≡ Some s)
    × (t ≡ signed_id (is_negated a) s))

-- this is true of the ids of two lists, one by one
abbrev pub AreFoundAs : Known → List NodeId → List NodeId → Type 0
AreFoundAs known ids made = (i : ℕ) (a t : NodeId) → slice_get ids i ≡ Some a
    → slice_get made i ≡ Some t → IsFoundAs known a t

-- the id has no sign, and is that of one of the first n nodes, or TRUE
pub record IsPlain (n : ℕ) (t : NodeId) : Type 0 where
  pub within : place_of t ≤ n
  pub sign : is_negated t ≡ false

-- so it is, and the id has no result yet
pub record IsUnsolved (n : ℕ) (known : Known) (t : NodeId) : Type 0 where
  pub plain : IsPlain n t
  pub unknown : IsUnknown known t

-- the pair has an id that has no result yet, and its result; the id is plain if the first one is
pub record Solves (nodes : List Node) (Answers : List ℕ → Bool → Type 0) (known : Known)
    (first : NodeId) (p : NodeId × NodeId) : Type 0 where
  pub unknown : IsUnknown known p.0
  pub plain : (n : ℕ) → IsPlain n first → IsPlain n p.0
  pub granted : IsGranted nodes Answers p.0 p.1

-- the id, which is not a negation and has no result, is below a parent
pub record IsWanted (known : Known) (parent t : NodeId) : Type 0 where
  pub below : place_of t < place_of parent
  pub sign : is_negated t ≡ false
  pub unknown : IsUnknown known t

-- what was made is the id with extras set true, and it waits for unknown ids below it
abbrev pub IsNext : List Node → (List ℕ → Bool → Type 0) → Known → NodeId → Step → Type 0
IsNext nodes Answers known id (Made t) = IsGranted nodes Answers id t
IsNext nodes Answers known id (Waits last others) =
    IsWanted known id last × All (IsWanted known id) others.items

-- if the ids of a list are plain, so are those that are left of it, and the one that was taken out
abbrev pub TakesPlain : List NodeId → List NodeId → Option NodeId → Type 0
TakesPlain old new taken =
    (n : ℕ) → All (IsPlain n) old → All (IsPlain n) new × IfSome taken (IsPlain n)

-- the new ids are plain if the old ones and this one are
abbrev pub RemainPlainWith : NodeId → List NodeId → List NodeId → Type 0
RemainPlainWith t old new = (n : ℕ) → IsPlain n t → All (IsPlain n) old → All (IsPlain n) new

-- if these ids are under a parent, it waits for each of the wanted ones
abbrev pub AreWantedOf : Known → List NodeId → List NodeId → Type 0
AreWantedOf known ids wanted = (nodes : List Node) (parent : NodeId) → AreUnder nodes parent ids
    → All (IsWanted known parent) wanted
