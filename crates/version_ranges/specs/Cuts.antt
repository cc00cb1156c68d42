-- What a `Cuts` is as a function of points.
use Rattle.std.specs.Prelude.{◌≡◌, ◌≤◌, ℕ, ◌+◌, Bool, true, false, List, Some, slice_get, String, string_bytes, vec_len}
use Rattle.std.specs.Cmp.Lexicographic.{slice_cmp}
use Rattle.std.specs.Ordering.{nat_cmp}
use Rattle.std.specs.declared.cmp.Ordering.{Ordering}
use Rattle.version_ranges.specs.declared.cuts.Cuts.{Cuts}
use Rattle.version_ranges.specs.Point.{Point, point_map}
use Rattle.version_ranges.specs.Cut.{stands_before}
use Rattle.version_ranges.specs.Steps.{value_at, piece_at, is_merged}

module _ {T V : Type 0} {a : _} {b : _} {c : _} where
  module _ {K : Type 0} (f : T → K) (cmp : K → K → Ordering) where
    -- the value at a point, if the values of the order have the names that f gives them, which cmp
    -- orders
    abbrev pub value_by : Cuts T V a b c → Point K → V
    value_by cuts p = value_at (stands_before f cmp p) cuts.first cuts.rest.items

    -- which piece a point lies in, counted from the first
    abbrev pub piece_by : Cuts T V a b c → Point K → ℕ
    piece_by cuts p = piece_at (stands_before f cmp p) cuts.rest.items

  -- the value at a point
  abbrev pub value_of : (T → T → Ordering) → Cuts T V a b c → Point T → V
  value_of cmp cuts p = value_by (λ v. v) cmp cuts p

  -- which piece a point lies in, counted from the first
  abbrev pub piece_of : (T → T → Ordering) → Cuts T V a b c → Point T → ℕ
  piece_of cmp cuts p = piece_by (λ v. v) cmp cuts p

  -- two functions have equal values at each point
  abbrev pub AgreeEverywhere :
      (T → T → Ordering) → (V → V → Bool) → Cuts T V a b c → Cuts T V a b c → Type 0
  AgreeEverywhere cmp same f g = (p : Point T) → same (value_of cmp f p) (value_of cmp g p) ≡ true

  -- and do not at some point
  abbrev pub DifferSomewhere :
      (T → T → Ordering) → (V → V → Bool) → Cuts T V a b c → Cuts T V a b c → Type 0
  DifferSomewhere cmp same f g =
      (p : Point T) × (same (value_of cmp f p) (value_of cmp g p) ≡ false)

  -- each point of the piece at an index has a value
  abbrev pub IsValueOfPiece : (T → T → Ordering) → Cuts T V a b c → ℕ → V → Type 0
  IsValueOfPiece cmp cuts i v = (p : Point T) → piece_of cmp cuts p ≡ i → value_of cmp cuts p ≡ v

  -- how many pieces there are
  abbrev pub piece_count : Cuts T V a b c → ℕ
  piece_count cuts = vec_len cuts.rest + 1

  -- whether neighboring pieces have values that differ
  abbrev pub neighbors_differ : (V → V → Bool) → Cuts T V a b c → Bool
  neighbors_differ same cuts = is_merged same cuts.first cuts.rest.items

  -- neighboring pieces have values that differ
  abbrev pub IsMerged : (V → V → Bool) → Cuts T V a b c → Type 0
  IsMerged same cuts = neighbors_differ same cuts ≡ true

module _ {T V W : Type 0} {a : _} {b : _} {c : _} where
  -- how many pieces two functions have together
  abbrev pub piece_sum : Cuts T V a b c → Cuts T W a b c → ℕ
  piece_sum f g = piece_count f + piece_count g

  -- the value of a function at each point is the pair of the values of two functions
  pub record HasPairs (cmp : T → T → Ordering) (same : V → V → Bool) (same' : W → W → Bool)
      (pairs : Cuts T (V × W) a b c) (f : Cuts T V a b c) (g : Cuts T W a b c) : Type 0 where
    pub left : (p : Point T) → same (value_of cmp pairs p).0 (value_of cmp f p) ≡ true
    pub right : (p : Point T) → same' (value_of cmp pairs p).1 (value_of cmp g p) ≡ true

  -- of functions with so many pieces together, one was made with fewer pieces, by comparisons that
  -- are fewer still
  pub record IsMadeWithin (most : ℕ) (pairs : Cuts T (V × W) a b c) (compared : ℕ) : Type 0 where
    pub pieces : piece_count pairs + 1 ≤ most
    pub comparisons : compared + 2 ≤ most

  -- a function has these values at the points of the pieces of another one, in order
  abbrev pub HasValuesInOrder :
      (T → T → Ordering) → (W → W → Bool) → Cuts T V a b c → List W → Cuts T W a b c → Type 0
  HasValuesInOrder cmp same pieces values new = (p : Point T) (w : W)
      → slice_get values (piece_of cmp pieces p) ≡ Some w → same (value_of cmp new p) w ≡ true

-- the order of values is that of the bytes of their names
abbrev pub IsOrderOfNames : {T : Type 0} → (T → T → Ordering) → (T → List ℕ) → Type 0
IsOrderOfNames cmp name = (x y : _) → cmp x y ≡ slice_cmp nat_cmp (name x) (name y)

module _ {T V : Type 0} {a : _} {b : _} {c : _} (name : T → List ℕ) where
  -- the value at a point of a name
  abbrev pub named_value : Cuts T V a b c → Point (List ℕ) → V
  named_value cuts q = value_by name (slice_cmp nat_cmp) cuts q

  -- which piece it lies in, counted from the first
  abbrev pub named_piece : Cuts T V a b c → Point (List ℕ) → ℕ
  named_piece cuts q = piece_by name (slice_cmp nat_cmp) cuts q

module _ {T V W : Type 0} {a : _} {b : _} {c : _} where
  -- a point has the same values in two functions by its name
  abbrev pub IsNamed : (T → T → Ordering) → (T → List ℕ)
      → Cuts T V a b c → Cuts T W a b c → Point T → Type 0
  IsNamed cmp name f g p = (named_value name f (point_map name p) ≡ value_of cmp f p)
      × (named_value name g (point_map name p) ≡ value_of cmp g p)

  -- two functions cannot distinguish a point of a name from some point of the order
  abbrev pub FindsPoint : (T → T → Ordering) → (T → List ℕ)
      → Cuts T V a b c → Cuts T W a b c → Point (List ℕ) → Type 0
  FindsPoint cmp name f g q = (p : Point T)
      × (named_value name f q ≡ value_of cmp f p) × (named_piece name f q ≡ piece_of cmp f p)
      × (named_value name g q ≡ value_of cmp g p) × (named_piece name g q ≡ piece_of cmp g p)

module _ {A V : Type 0} {a : _} {b : _} {c : _} where
  -- the value at a point that is known by bytes, of a function of texts
  abbrev pub text_value : Cuts (String A) V a b c → Point (List ℕ) → V
  text_value cuts q = named_value string_bytes cuts q

  -- two functions of texts have equal values at each point
  abbrev pub AgreeOnTexts :
      (V → V → Bool) → Cuts (String A) V a b c → Cuts (String A) V a b c → Type 0
  AgreeOnTexts same f g = (q : Point (List ℕ)) → same (text_value f q) (text_value g q) ≡ true
