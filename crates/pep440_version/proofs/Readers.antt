-- How the readers of specs/Reading.antt follow a text.
use Rattle.std.proofs.Common.{get_or, zero, suc, ◌++◌, append_assoc, ◌≡◌, ◌==◌, ℕ, ◌+◌, ◌-◌, ◌*◌, ◌^◌, ◌<◌, ◌≤◌, Option, Some, None, List, [], ◌∷◌, length, take, drop, slice_index, refl, arith, inl, inr, true, false, nat_eq, nat_lt, Bor}
use Rattle.std.specs.Option.{MatchOption}
use Rattle.std.specs.Char.{is_ascii_digit}
use Rattle.std.specs.Cmp.Lexicographic.{pointwise}
use Rattle.std.proofs.lemmas.Bool.{cases_Bool}
use Rattle.std.proofs.lemmas.Bool.Decides.{nat_tests}
use Rattle.std.proofs.lemmas.List.{drop_all, drop_more}
use Rattle.pep440_version.specs.Reading.{is_separator, after_segment, digits_from, more_at, number_after, prepend, segment_at, segments_at, strip, text_view}
use Rattle.pep440_version.specs.Parts.{Segment}

pub digits-stop : (v : ℕ) (t : List ℕ) (i : ℕ) → i < length t → is_ascii_digit (slice_index t i) ≡ false → digits_from v (drop i t) ≡ Some (v, drop i t)
unfolding digits_from
digits-stop v t i h d = rw (drop_more t i 0 h, d) refl

pub lt-true : (a b : ℕ) → a < b → nat_lt a b ≡ true
lt-true a b h = grind (arith, nat_tests)

lt-false : (a b : ℕ) → b ≤ a → nat_lt a b ≡ false
lt-false a b h = grind (arith, nat_tests)

pub digits-next : (v : ℕ) (t : List ℕ) (i : ℕ) → i < length t → is_ascii_digit (slice_index t i) ≡ true
    → v * 10 + (slice_index t i - 48) < 2 ^ 64 → digits_from v (drop i t) ≡ digits_from (v * 10 + (slice_index t i - 48)) (drop (i + 1) t)
unfolding digits_from
digits-next v t i h d fits =
    let small = lt-true (v * 10 + (slice_index t i - 48)) (2 ^ 64) fits in
    rw (drop_more t i 0 h, d, small) refl

pub digits-over : (v : ℕ) (t : List ℕ) (i : ℕ) → i < length t → is_ascii_digit (slice_index t i) ≡ true
    → 2 ^ 64 ≤ v * 10 + (slice_index t i - 48) → digits_from v (drop i t) ≡ None
unfolding digits_from
digits-over v t i h d over =
    let large = lt-false (v * 10 + (slice_index t i - 48)) (2 ^ 64) over in
    rw (drop_more t i 0 h, d, large) refl

pub strip-some : (w t : List ℕ) → pointwise nat_eq (take (length w) t) w ≡ true → strip w t ≡ Some (drop (length w) t)
unfolding strip
strip-some [] t h = refl
strip-some (w ∷ ws) [] h = cc h
strip-some (w ∷ ws) (b ∷ t) h = elim (cases_Bool (b == w)) [
  | inl e ↦ rw e (strip-some ws t (rw e at h))
  | inr e ↦ cc (rw e at h)
]

pub strip-none : (w t : List ℕ) → pointwise nat_eq (take (length w) t) w ≡ false → strip w t ≡ None
unfolding strip
strip-none [] t h = cc h
strip-none (w ∷ ws) [] h = refl
strip-none (w ∷ ws) (b ∷ t) h = elim (cases_Bool (b == w)) [
  | inl e ↦ rw e (strip-none ws t (rw e at h))
  | inr e ↦ rw e refl
]

pub strip-found : (w t : List ℕ) (r : Option (Bor (List ℕ)))
    → MatchOption r (pointwise nat_eq (take (length w) t) w ≡ false) (λ x. (pointwise nat_eq (take (length w) t) w ≡ true) × (x.now ≡ drop (length w) t) × (length x.now + length w ≡ length t))
    → text_view r ≡ strip w t
strip-found w t r h1 = grind (arith, strip-none, strip-some)

pub digits-end : (v : ℕ) (t : List ℕ) (i : ℕ) → length t ≤ i → digits_from v (drop i t) ≡ Some (v, [])
unfolding digits_from
digits-end v t i h = rw (drop_all i t h) refl

-- ---- further numbers

pub more-stop : (k : ℕ) (t : List ℕ) → number_after 46 t ≡ None → more_at k t ≡ ([], t)
unfolding more_at
more-stop zero t h = refl
more-stop (suc k) t h = rw h refl

pub more-next : (k : ℕ) (t : List ℕ) (n : ℕ) (r : List ℕ) → number_after 46 t ≡ Some (n, r) → more_at (suc k) t ≡ (n ∷ (more_at k r).0, (more_at k r).1)
unfolding more_at
more-next k t n r h = rw h refl

pub more-zero : (t : List ℕ) → more_at 0 t ≡ ([], t)
unfolding more_at
more-zero t = refl

-- ---- segments

-- segments before those of a text
abbrev pub prepend_all : List Segment → Option (List Segment) → Option (List Segment)
prepend_all ss None = None
prepend_all ss (Some r) = Some (ss ++ r)

pub segments-zero : (t : List ℕ) → segments_at 0 t ≡ None
unfolding segments_at
segments-zero t = refl

pub segments-none : (k : ℕ) (t : List ℕ) → segment_at t ≡ None → segments_at k t ≡ None
unfolding segments_at
segments-none zero t h = refl
segments-none (suc k) t h = rw h refl

pub segments-some : (k : ℕ) (t : List ℕ) (s : Segment) (rest : List ℕ) → segment_at t ≡ Some (s, rest) → segments_at (suc k) t ≡ after_segment (segments_at k) s rest
unfolding segments_at
segments-some k t s rest h = rw h refl

pub prepend_all-prepend : (ss : List Segment) (s : Segment) (o : Option (List Segment)) → prepend_all ss (prepend s o) ≡ prepend_all (ss ++ s ∷ []) o
prepend_all-prepend ss s o = grind (arith, append_assoc)

pub after-empty : (f : List ℕ → Option (List Segment)) (s : Segment) (a : List ℕ) → length a < 1 → after_segment f s a ≡ Some (s ∷ [])
after-empty f s a h1 = grind arith

pub after-other : (f : List ℕ → Option (List Segment)) (s : Segment) (a : List ℕ) → 1 ≤ length a → is_separator (get_or a 0 0) ≡ false → after_segment f s a ≡ None
after-other f s a h1 h2 = grind arith

pub after-next : (f : List ℕ → Option (List Segment)) (s : Segment) (a : List ℕ) → 1 ≤ length a → is_separator (get_or a 0 0) ≡ true → after_segment f s a ≡ prepend s (f (drop 1 a))
after-next f s a h1 h2 = grind arith
