-- The request of a value of the crate.
use Rattle.std.specs.Prelude.{◌≡◌, ℕ, List, map, Option, MatchOption}
use denote.Ref.{Bor}
use Rattle.std.specs.Range.Bound.{bound_map}
use Rattle.std.specs.declared.ops.Bound.{Bound}
use Rattle.pep508_markers.specs.Session as sessions
use Rattle.marker_lines.specs.declared.line.LineCommand.{LineCommand}
use Rattle.marker_lines.specs.declared.line.LineCommand.TheVariants.{Set, Run, WithNames, WithRange}
use Rattle.marker_lines.specs.declared.word.RangeCommand.{RangeCommand}
use Rattle.marker_lines.specs.Line.{HasNoSpace, with_space, bound_word, CellAndBounds, Request, set, run, with_names, with_range}

-- the texts that references point to
abbrev pub texts_of : List (Bor (List ℕ)) → List (List ℕ)
texts_of words = map (λ word. word.now) words

-- the bound with the text that a reference points to
abbrev pub bound_text_of : Bound (Bor (List ℕ)) → Bound (List ℕ)
bound_text_of bound = bound_map (λ text. text.now) bound

-- the text before and after the first space, or it has none
abbrev pub SplitsAtSpace : List ℕ → Option (Bor (List ℕ) × Bor (List ℕ)) → Type 0
SplitsAtSpace text parts = MatchOption parts (HasNoSpace text)
    (λ x. HasNoSpace x.0.now × (text ≡ with_space x.0.now x.1.now))

-- a bound is read of the word, or it is none
abbrev pub ReadsBoundWord : List ℕ → Option (Bound (Bor (List ℕ))) → Type 0
ReadsBoundWord word bound = MatchOption bound ((b : Bound (List ℕ)) → word ≡ bound_word b → ⊥)
    (λ b. word ≡ bound_word (bound_text_of b))

-- a cell and two bounds are read of the text, or it is not those
abbrev pub ReadsCellAndBounds : List ℕ
    → Option (ℕ × Bound (Bor (List ℕ)) × Bound (Bor (List ℕ))) → Type 0
ReadsCellAndBounds text read = MatchOption read
    ((cell : ℕ) (lower upper : Bound (List ℕ)) → CellAndBounds text cell lower upper → ⊥)
    (λ x. CellAndBounds text x.0 (bound_text_of x.1) (bound_text_of x.2))

-- the request to simplify or complexify a cell for a range
abbrev pub range_in : RangeCommand → ℕ → Bound (Bor (List ℕ)) → Bound (Bor (List ℕ)) → Request
range_in command cell lower upper =
    with_range command cell (bound_text_of lower) (bound_text_of upper)

abbrev pub request_of : LineCommand → Request
request_of (Set key value) = set key.now value.now
request_of (Run command) = run (sessions.request_of command)
request_of (WithNames command cell names) = with_names command cell (texts_of names.items)
request_of (WithRange command cell lower upper) = range_in command cell lower upper
