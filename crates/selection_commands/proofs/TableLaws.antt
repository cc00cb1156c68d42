-- Lines of a table, cell by cell.
use Rattle.std.proofs.Common.{◌≡◌, ℕ, suc, ◌+◌, ◌<◌, ◌≤◌, List, [], ◌∷◌, ◌++◌, length, take, drop, get_or, refl, sym, ap, ◌∙◌, append_assoc, arith}
use Rattle.std.specs.List.{flat_map}
use Rattle.std.specs.Prelude.{codes, map, slice_index, Result, Ok, Err, is_ok, OnOk, if◌then◌else◌}
use Rattle.std.specs.Borrow.{Bor}
use Rattle.std.proofs.lemmas.List.{append-nil, flat_map_more, length-map, length-take-le, map-append, map_more, take_all}
use Rattle.csv.specs.Writing.{default_writer, row_text}
use Rattle.selection_commands.specs.Cells.{cells_of, shown_in}
use Rattle.selection_commands.specs.Table.{comma_separated, line_of, padded}
use Rattle.selection_commands.specs.declared.tabulator.Row.{Row}

-- cells from the first column on, all padded
abbrev pub padded_all : List (List ℕ) → List ℕ → List ℕ
padded_all [] widths = []
padded_all (cell ∷ cells) widths = padded cell (slice_index widths 0) ++ padded_all cells (drop 1 widths)

index_after : (widths : List ℕ) (n : ℕ) → get_or (drop 1 widths) n 0 ≡ get_or widths (suc n) 0
index_after [] n = refl
index_after (w ∷ widths) n = refl

pub padded_more : (cells : List (List ℕ)) (cell : List ℕ) (widths : List ℕ)
    → padded_all (cells ++ (cell ∷ [])) widths ≡ padded_all cells widths ++ padded cell (slice_index widths (length cells))
padded_more [] cell widths = append-nil (padded cell (slice_index widths 0))
padded_more (first ∷ cells) cell widths =
    ap (λ (x : List ℕ). padded first (slice_index widths 0) ++ x)
    (padded_more cells cell (drop 1 widths) ∙ ap (λ (n : ℕ). padded_all cells (drop 1 widths) ++ padded cell n) (index_after widths (length cells)))
    ∙ sym (append_assoc (padded first (slice_index widths 0)) (padded_all cells (drop 1 widths)) (padded cell (slice_index widths (length (first ∷ cells)))))

-- a line is its cells but the last one, padded, and the last one
pub line_split : (before : List (List ℕ)) (last : List ℕ) (widths : List ℕ)
    → line_of (before ++ (last ∷ [])) widths ≡ padded_all before widths ++ last
line_split [] last widths = refl
line_split (cell ∷ []) last widths =
    ap (λ (x : List ℕ). x ++ last) (sym (append-nil (padded cell (slice_index widths 0))))
line_split (cell ∷ next ∷ more) last widths =
    ap (λ (x : List ℕ). padded cell (slice_index widths 0) ++ x) (line_split (next ∷ more) last (drop 1 widths))
    ∙ sym (append_assoc (padded cell (slice_index widths 0)) (padded_all (next ∷ more) (drop 1 widths)) last)

-- one more cell is padded
pub cells_more : (before : List (Bor (List ℕ))) (i : ℕ) (d : Bor (List ℕ)) (widths : List ℕ) (width : ℕ) (old middle new : List ℕ)
    → i < length before → width ≡ slice_index widths i
    → middle ≡ old ++ padded_all (shown_in (take i before)) widths
    → new ≡ middle ++ padded (get_or before i d).now width
    → new ≡ old ++ padded_all (shown_in (take (i + 1) before)) widths
cells_more before i d widths width old middle new within is_width was adds =
    let cell = (get_or before i d).now in
    let front = shown_in (take i before) in
    let size : length front ≡ i = length-map (take i before) (λ (x : Bor (List ℕ)). x.now) ∙ length-take-le i before (omega arith) in
    let same : width ≡ slice_index widths (length front) = is_width ∙ ap (slice_index widths) (sym size) in
    adds ∙ ap (λ (x : List ℕ). x ++ padded cell width) was
    ∙ append_assoc old (padded_all front widths) (padded cell width)
    ∙ ap (λ (n : ℕ). old ++ (padded_all front widths ++ padded cell n)) same
    ∙ ap (λ (x : List ℕ). old ++ x) (sym (padded_more front cell widths))
    ∙ ap (λ (x : List (List ℕ)). old ++ padded_all x widths) (sym (map_more (λ (x : Bor (List ℕ)). x.now) before i d within))

-- then the last cell is appended
pub cells_all : (cells before : List (Bor (List ℕ))) (last : Bor (List ℕ)) (i : ℕ) (widths old middle new : List ℕ)
    → cells ≡ before ++ (last ∷ []) → length before ≤ i
    → middle ≡ old ++ padded_all (shown_in (take i before)) widths
    → new ≡ middle ++ last.now
    → new ≡ old ++ line_of (shown_in cells) widths
cells_all cells before last i widths old middle new is done was adds =
    adds ∙ ap (λ (x : List ℕ). x ++ last.now) (was ∙ ap (λ (x : List (Bor (List ℕ))). old ++ padded_all (shown_in x) widths) (take_all i before done))
    ∙ append_assoc old (padded_all (shown_in before) widths) last.now
    ∙ ap (λ (x : List ℕ). old ++ x) (sym (line_split (shown_in before) last.now widths))
    ∙ ap (λ (x : List (List ℕ)). old ++ line_of x widths) (sym (ap shown_in is ∙ map-append (λ (x : Bor (List ℕ)). x.now) before (last ∷ [])))

-- if that succeeds
pub cells_if : {E : Type 0} (r : Result (Unit {0}) E) (cells before : List (Bor (List ℕ))) (last : Bor (List ℕ)) (i : ℕ) (widths old middle new : List ℕ)
    → cells ≡ before ++ (last ∷ []) → length before ≤ i
    → middle ≡ old ++ padded_all (shown_in (take i before)) widths
    → new ≡ (if is_ok r then middle ++ last.now else middle)
    → OnOk r (new ≡ old ++ line_of (shown_in cells) widths)
cells_if (Ok x) cells before last i widths old middle new is done was adds =
    cells_all cells before last i widths old middle new is done was adds
cells_if (Err e) cells before last i widths old middle new is done was adds = tt

-- one more record is written
pub records_more : (titles : List (List ℕ)) (rows : List Row) (i : ℕ) (row : Row) (cells : List (Bor (List ℕ)))
    → i < length rows → row ≡ get_or rows i row → shown_in cells ≡ cells_of row
    → comma_separated titles (take i rows) ++ row_text default_writer (shown_in cells) ≡ comma_separated titles (take (i + 1) rows)
records_more titles rows i row cells within is shown =
    let head = row_text default_writer (codes "requirement" ∷ titles) in
    ap (λ (x : List (List ℕ)). comma_separated titles (take i rows) ++ row_text default_writer x) (shown ∙ ap cells_of is)
    ∙ flat_map_more (row_text default_writer) head (map cells_of (take i rows)) (cells_of (get_or rows i row))
    ∙ ap (λ (x : List (List (List ℕ))). head ++ flat_map (row_text default_writer) x) (sym (map_more cells_of rows i row within))
