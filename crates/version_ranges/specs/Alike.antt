-- Points with the same order to some points: what compares a point only with these does not
-- distinguish two such points.
use Rattle.std.specs.Prelude.{◌≡◌, ◌≢◌, ⊤, true, false, List, [], ◌∷◌}
use Rattle.std.specs.declared.cmp.Ordering.{Ordering}
use Rattle.std.specs.declared.cmp.Ordering.TheVariants.{Equal}
use Rattle.version_ranges.specs.Point.{Point, point_cmp, point_lt}

module _ {T : Type 0} (cmp : T → T → Ordering) where
  -- a point ties with none of these
  abbrev pub TiesWithNone : Point T → List (Point T) → Type 0
  TiesWithNone p [] = ⊤
  TiesWithNone p (end ∷ ends) = (point_cmp cmp end p ≢ Equal) × TiesWithNone p ends

  -- two points are before the same of these
  abbrev pub AreAlike : Point T → Point T → List (Point T) → Type 0
  AreAlike p q [] = ⊤
  AreAlike p q (end ∷ ends) = (point_lt cmp p end ≡ point_lt cmp q end) × AreAlike p q ends

  -- there is a point before another one, and not before a lower one, that is before the same of
  -- these
  abbrev pub HasPointAlike : Point T → Point T → List (Point T) → Type 0
  HasPointAlike low p ends = (q : Point T)
      × (point_lt cmp q low ≡ false) × (point_lt cmp q p ≡ true) × AreAlike q p ends
