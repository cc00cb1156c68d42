-- Tests that the values at bounds pass.
use Rattle.std.specs.Prelude.{◌≡◌, Bool, true, ◌&&◌, List}
use Rattle.std.specs.List.{list_all}
use Rattle.std.specs.declared.ops.Bound.{Bound}
use Rattle.std.specs.declared.ops.Bound.TheVariants.{Included, Excluded, Unbounded}
use Rattle.version_ranges.specs.declared.cuts.Cuts.{Cuts}
use Rattle.version_ranges.specs.declared.ranges.Ranges.{Ranges}

module _ {T : Type 0} where
  -- if a value passes a test, its clones pass it too
  abbrev pub IsKeptByClones : (T → T → Type 0) → (T → Bool) → Type 0
  IsKeptByClones C test = (x y : T) → C x y → test x ≡ true → test y ≡ true

  -- the values of y are values of x, as far as tests can distinguish; `all` and `each` say whether
  -- all values of x and of y pass one
  abbrev pub HasValuesOf : {X Y : Type 0}
      → ((T → Bool) → X → Bool) → X → ((T → Bool) → Y → Bool) → Y → Type 0
  HasValuesOf all x each y = (test : T → Bool) → all test x ≡ true → each test y ≡ true

  -- or clones of them
  abbrev pub IsCloned : {X Y : Type 0} → (T → T → Type 0)
      → ((T → Bool) → X → Bool) → X → ((T → Bool) → Y → Bool) → Y → Type 0
  IsCloned C all x each y =
      (test : T → Bool) → IsKeptByClones C test → all test x ≡ true → each test y ≡ true

  -- whether the value of a bound passes a test; `Unbounded` has none
  abbrev pub passes_at : (T → Bool) → Bound T → Bool
  passes_at test (Included v) = test v
  passes_at test (Excluded v) = test v
  passes_at test Unbounded = true

  -- whether the values of both bounds of an interval pass a test
  abbrev pub passes_at_both : (T → Bool) → Bound T × Bound T → Bool
  passes_at_both test i = passes_at test i.0 && passes_at test i.1

  -- and those of each of these
  abbrev pub all_intervals : (T → Bool) → List (Bound T × Bound T) → Bool
  all_intervals test intervals = list_all (passes_at_both test) intervals

  module _ {a : _} {b : _} {c : _} where
    -- whether the value of each cut passes a test
    abbrev pub all_cuts : {V : Type 0} → (T → Bool) → Cuts T V a b c → Bool
    all_cuts test cuts = list_all (λ s. test s.0.value) cuts.rest.items

    -- whether the value of each bound passes a test: the bounds are those of the intervals that
    -- `iter` gives
    abbrev pub all_bounds : (T → Bool) → Ranges T a b c → Bool
    all_bounds test ranges = all_cuts test ranges.cuts

    -- whether the value of each bound of these sets passes a test
    abbrev pub all_sets : {X : Type 0} → (T → Bool) → List (X × Ranges T a b c) → Bool
    all_sets test pairs = list_all (λ q. all_bounds test q.1) pairs

    -- each bound of a set is at a value, as far as tests can distinguish
    abbrev pub IsBoundedBy : T → Ranges T a b c → Type 0
    IsBoundedBy v ranges = (test : T → Bool) → test v ≡ true → all_bounds test ranges ≡ true

    -- each bound of a set is at the value of one of two bounds, as far as tests can distinguish
    abbrev pub IsBoundedAt : Bound T → Bound T → Ranges T a b c → Type 0
    IsBoundedAt lower upper ranges = (test : T → Bool)
        → passes_at test lower ≡ true → passes_at test upper ≡ true → all_bounds test ranges ≡ true

    -- each cut of a function is at a clone of a value of another one's, as far as tests can
    -- distinguish
    abbrev pub KeepsCuts : {V W : Type 0}
        → (T → T → Type 0) → Cuts T V a b c → Cuts T W a b c → Type 0
    KeepsCuts C old new = (test : T → Bool) → IsKeptByClones C test
        → all_cuts test old ≡ true → all_cuts test new ≡ true

    -- or of one of two functions
    abbrev pub KeepsCutsOfBoth : {V W X : Type 0}
        → (T → T → Type 0) → Cuts T V a b c → Cuts T W a b c → Cuts T X a b c → Type 0
    KeepsCutsOfBoth C left right new = (test : T → Bool) → IsKeptByClones C test
        → all_cuts test left ≡ true → all_cuts test right ≡ true → all_cuts test new ≡ true

    -- each bound of a set is at a clone of a value of another one's, as far as tests can
    -- distinguish
    abbrev pub KeepsBounds : (T → T → Type 0) → Ranges T a b c → Ranges T a b c → Type 0
    KeepsBounds C old new = (test : T → Bool) → IsKeptByClones C test
        → all_bounds test old ≡ true → all_bounds test new ≡ true

    -- or of one of two sets
    abbrev pub KeepsBoundsOfBoth :
        (T → T → Type 0) → Ranges T a b c → Ranges T a b c → Ranges T a b c → Type 0
    KeepsBoundsOfBoth C left right new = (test : T → Bool) → IsKeptByClones C test
        → all_bounds test left ≡ true → all_bounds test right ≡ true → all_bounds test new ≡ true
