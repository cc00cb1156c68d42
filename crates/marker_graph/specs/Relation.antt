-- How two truths over valuations relate (this project).
use Rattle.std.specs.Prelude.{◌≡◌, ◌≢◌, Bool, true, false, ◌&&◌}
use Rattle.marker_environment.specs.Valuation.{Valuation}
use Rattle.marker_graph.specs.declared.relation.MarkerRelation.{MarkerRelation}
use Rattle.marker_graph.specs.declared.relation.MarkerRelation.TheVariants.{Equal, Disjoint, FirstImpliesSecond, SecondImpliesFirst, Overlapping}

-- the two differ at some valuation
abbrev pub Differ : (Valuation → Bool) → (Valuation → Bool) → Type 0
Differ f g = (v : Valuation) × (f v ≢ g v)

-- no valuation satisfies both
abbrev pub AreDisjoint : (Valuation → Bool) → (Valuation → Bool) → Type 0
AreDisjoint f g = (v : Valuation) → (f v && g v) ≡ false

-- a valuation satisfies both
abbrev pub Meet : (Valuation → Bool) → (Valuation → Bool) → Type 0
Meet f g = (v : Valuation) × (f v ≡ true) × (g v ≡ true)

-- each valuation that satisfies f satisfies g
abbrev pub Implies : (Valuation → Bool) → (Valuation → Bool) → Type 0
Implies f g = (v : Valuation) → f v ≡ true → g v ≡ true

-- a valuation satisfies f and not g
abbrev pub Exceeds : (Valuation → Bool) → (Valuation → Bool) → Type 0
Exceeds f g = (v : Valuation) × (f v ≡ true) × (g v ≡ false)

-- The first relation of the list that is true of the two: each line says that the relations before
-- it are false, by a valuation that shows it, and that its own is true.
abbrev pub Relates : (Valuation → Bool) → (Valuation → Bool) → MarkerRelation → Type 0
Relates f g Equal = (v : Valuation) → f v ≡ g v
Relates f g Disjoint = Differ f g × AreDisjoint f g
Relates f g FirstImpliesSecond = Differ f g × Meet f g × Implies f g
Relates f g SecondImpliesFirst = Meet f g × Exceeds f g × Implies g f
Relates f g Overlapping = Meet f g × Exceeds f g × Exceeds g f
