-- What the readers read is in the grammar.
use Rattle.std.proofs.Common.{◌≡◌, ◌⊎◌, ◌==◌, ◌++◌, zero, suc, ℕ, ◌+◌, ◌-◌, ◌*◌, ◌^◌, ◌<◌, Bool, Option, Some, None, List, [], ◌∷◌, length, take, refl, sym, ap, ◌∙◌, arith, inl, inr, true, false, nat_lt, append-nil, append_assoc, one-add, subst}
use Rattle.std.specs.Prelude.{codes}
use Rattle.std.specs.Char.{is_ascii_digit}
use Rattle.pep440_version.specs.Valid.{is_word_byte}
use Rattle.std.specs.List.{list_all, prefix_len}
use Rattle.std.specs.Option.{option_or}
use Rattle.std.proofs.lemmas.Bool.{cases_Bool, eqb-true}
use Rattle.std.proofs.lemmas.Bool.Decides.{nat_tests}
use Rattle.std.proofs.lemmas.List.{take-append-drop}
use Rattle.pep440_version.specs.declared.version.Prerelease.{Prerelease}
use Rattle.pep440_version.specs.declared.version.PrereleaseKind.{PrereleaseKind}
use Rattle.pep440_version.specs.declared.version.PrereleaseKind.TheVariants.{Alpha, Beta, Rc}
use Rattle.pep440_version.specs.Parts.{Parts, Segment, number}
use Rattle.pep440_version.specs.Grammar.{IsDev, IsEpoch, IsLocal, IsMark, IsNumber, IsNumbering, IsPost, IsPostWord, IsPre, IsPreWord, IsRelease, IsSegment, IsSegments, IsSeparator, IsVersion, bare, before, dash, dashed, dev, dot, epoch, last, last_segment, left_out, long_alpha, long_beta, mark, no_dev, no_epoch, no_local, no_mark, no_post, no_pre, numeric, plus, post, pre, segment_before, short_alpha, short_beta, textual, underscore, value_from, version, word_c, word_post, word_pre, word_preview, word_r, word_rc, word_rev, written}
use Rattle.pep440_version.specs.Reading.{after_mark, after_release, after_segment, after_separator, bang_of, before_rest, dev_at, dev_of, digits_from, either, epoch_at, epoch_of, finish, is_separator, locals_at, more_at, more_of, number_after, number_at, numbered_at, numbered_of, plain_of, post_at, post_of, post_word_at, pre_at, pre_of, pre_word_at, prepend, release_at, release_of, run_len, segment_at, segment_of_run, segments_at, segments_of, starts_digit, strip, tagged, version_at, whole_number}

-- ---- tools

pub some-value : {A : Type 0} (x y : A) → Some x ≡ Some y → x ≡ y
some-value x y e = cc e

nat_lt-true : (a b : ℕ) → nat_lt a b ≡ true → a < b
nat_lt-true a b h = grind (arith, nat_tests)

-- ---- numbers

-- what digits that go on from a value read
pub digits_from-sound : (v : ℕ) (t : List ℕ) (n : ℕ) (rest : List ℕ) → v < 2 ^ 64 → digits_from v t ≡ Some (n, rest)
    → (ds : List ℕ) × (list_all is_ascii_digit ds ≡ true) × (value_from v ds ≡ n) × (n < 2 ^ 64) × (t ≡ ds ++ rest) × (starts_digit rest ≡ false)
unfolding digits_from
digits_from-sound v [] n rest small h =
    let e = some-value _ _ h in
    let value : v ≡ n = ap (λ (p : ℕ × List ℕ). p.0) e in
    let none : [] ≡ rest = ap (λ (p : ℕ × List ℕ). p.1) e in
    ([], refl, value, omega arith, none, subst (λ (z : List ℕ). starts_digit z ≡ false) none refl)
digits_from-sound v (b ∷ t) n rest small h = elim (cases_Bool (is_ascii_digit b)) [
  | inl digit ↦ elim (cases_Bool (nat_lt (v * 10 + (b - 48)) (2 ^ 64))) [
    | inl fits ↦
        let r = digits_from-sound (v * 10 + (b - 48)) t n rest (nat_lt-true _ _ fits) (rw (digit, fits) at h) in
        (b ∷ r.0, rw (digit, r.1) refl, r.2, r.3, ap (λ (z : List ℕ). b ∷ z) r.4, r.5)
    | inr over ↦ cc (rw (digit, over) at h)
  ]
  | inr other ↦
      let e = some-value _ _ (rw other at h) in
      let value : v ≡ n = ap (λ (p : ℕ × List ℕ). p.0) e in
      let all : b ∷ t ≡ rest = ap (λ (p : ℕ × List ℕ). p.1) e in
      ([], refl, value, omega arith, all, subst (λ (z : List ℕ). starts_digit z ≡ false) all other)
]

number_at-some : (b : ℕ) (t : List ℕ) (n : ℕ) (rest : List ℕ) → is_ascii_digit b ≡ true → (ds : List ℕ) → list_all is_ascii_digit ds ≡ true → value_from 0 ds ≡ n
    → n < 2 ^ 64 → b ∷ t ≡ ds ++ rest → starts_digit rest ≡ false → (ds : List ℕ) × IsNumber ds n × (b ∷ t ≡ ds ++ rest) × (starts_digit rest ≡ false)
number_at-some b t n rest digit [] all value fits whole next =
    let first : is_ascii_digit b ≡ false = subst (λ (z : List ℕ). starts_digit z ≡ false) (sym whole) next in
    cc (sym digit ∙ first)
number_at-some b t n rest digit (c ∷ ds) all value fits whole next =
    (c ∷ ds, record { digits = all; some = omega arith; value = value; fits = fits }, whole, next)

-- a number at the front
pub number_at-sound : (t : List ℕ) (n : ℕ) (rest : List ℕ) → number_at t ≡ Some (n, rest)
    → (ds : List ℕ) × IsNumber ds n × (t ≡ ds ++ rest) × (starts_digit rest ≡ false)
number_at-sound [] n rest h = cc h
number_at-sound (b ∷ t) n rest h = elim (cases_Bool (is_ascii_digit b)) [
  | inl digit ↦
      let r = digits_from-sound 0 (b ∷ t) n rest (omega arith) (rw digit at h) in
      number_at-some b t n rest digit r.0 r.1 r.2 r.3 r.4 r.5
  | inr other ↦ cc (rw other at h)
]

pub number_after-sound : (m : ℕ) (t : List ℕ) (n : ℕ) (rest : List ℕ) → number_after m t ≡ Some (n, rest)
    → (ds : List ℕ) × IsNumber ds n × (t ≡ m ∷ (ds ++ rest)) × (number_at (ds ++ rest) ≡ Some (n, rest))
number_after-sound m t n rest h1 = grind (arith, cases_Bool, number_at-sound, eqb-true)

-- a separator at the front
pub separator-sound : (t : List ℕ) → (s : List ℕ) × IsSeparator s × (t ≡ s ++ after_separator t)
separator-sound [] = ([], left_out, refl)
separator-sound (b ∷ t) = elim (cases_Bool (b == 45)) [
  | inl e ↦ let byte : b ≡ 45 = eqb-true b 45 e in (45 ∷ [], dash, rw byte refl)
  | inr e ↦ elim (cases_Bool (b == 46)) [
    | inl f ↦ let byte : b ≡ 46 = eqb-true b 46 f in (46 ∷ [], dot, rw byte refl)
    | inr f ↦ elim (cases_Bool (b == 95)) [
      | inl g ↦ let byte : b ≡ 95 = eqb-true b 95 g in (95 ∷ [], underscore, rw byte refl)
      | inr g ↦ ([], left_out, rw (e, f, g) refl)
    ]
  ]
]

-- the number after a word
numbered_of-sound : (t : List ℕ) (o : Option (ℕ × List ℕ)) → number_at (after_separator t) ≡ o
    → (s : List ℕ) × (b : Bool) × IsNumbering s (numbered_of t o).0 b × (t ≡ s ++ (numbered_of t o).1) × (b ≡ true → number_at (after_separator (numbered_of t o).1) ≡ None)
numbered_of-sound t None e = ([], true, bare, refl, λ h. e)
numbered_of-sound t (Some x) e =
    let s = separator-sound t in
    let r = number_at-sound (after_separator t) x.0 x.1 e in
    (s.0 ++ r.0, false, written s.1 r.1, s.2 ∙ ap (λ (z : List ℕ). s.0 ++ z) r.2 ∙ sym (append_assoc s.0 r.0 x.1), λ h. cc h)

pub numbered-sound : (t : List ℕ) → (s : List ℕ) × (b : Bool) × IsNumbering s (numbered_at t).0 b × (t ≡ s ++ (numbered_at t).1)
    × (b ≡ true → number_at (after_separator (numbered_at t).1) ≡ None)
unfolding numbered_at
numbered-sound t = numbered_of-sound t (number_at (after_separator t)) refl

-- ---- words

pub strip-sound : (w t rest : List ℕ) → strip w t ≡ Some rest → t ≡ w ++ rest
unfolding strip
strip-sound [] t rest h = some-value _ _ h
strip-sound (w ∷ ws) [] rest h = cc h
strip-sound (w ∷ ws) (b ∷ t) rest h = elim (cases_Bool (b == w)) [
  | inl e ↦
      let byte : b ≡ w = eqb-true b w e in
      let r = strip-sound ws t rest (rw e at h) in
      λ i. byte i ∷ r i
  | inr e ↦ cc (rw e at h)
]

pub or-cases : {A : Type 0} (p q : Option A) (x : A) → option_or p q ≡ Some x → (p ≡ Some x) ⊎ (q ≡ Some x)
or-cases p q x h1 = grind arith

tagged-sound : (kind : PrereleaseKind) (o : Option (List ℕ)) (k : PrereleaseKind) (rest : List ℕ) → tagged kind o ≡ Some (k, rest) → (kind ≡ k) × (o ≡ Some rest)
tagged-sound kind o k rest h1 = grind arith

kinded : (kind : PrereleaseKind) (long short : List ℕ) → IsPreWord long kind → IsPreWord short kind → (t : List ℕ) (k : PrereleaseKind) (rest : List ℕ)
    → tagged kind (either long short t) ≡ Some (k, rest) → (w : List ℕ) × IsPreWord w k × (t ≡ w ++ rest)
kinded kind long short h1 h2 t k rest h3 = grind (arith, tagged-sound, or-cases, strip-sound)

pub pre_word-sound : (t : List ℕ) (k : PrereleaseKind) (rest : List ℕ) → pre_word_at t ≡ Some (k, rest) → (w : List ℕ) × IsPreWord w k × (t ≡ w ++ rest)
unfolding pre_word_at
pre_word-sound t k rest h = elim (or-cases _ _ (k, rest) h) [
  | inl found ↦ kinded Alpha _ _ long_alpha short_alpha t k rest found
  | inr h2 ↦ elim (or-cases _ _ (k, rest) h2) [
    | inl found ↦ kinded Beta _ _ long_beta short_beta t k rest found
    | inr h3 ↦ elim (or-cases _ _ (k, rest) h3) [
      | inl found ↦ kinded Rc _ _ word_rc word_c t k rest found
      | inr found ↦ kinded Rc _ _ word_preview word_pre t k rest found
    ]
  ]
]

pub post_word-sound : (t rest : List ℕ) → post_word_at t ≡ Some rest → (w : List ℕ) × IsPostWord w × (t ≡ w ++ rest)
unfolding post_word_at
post_word-sound t rest h = elim (or-cases _ _ rest h) [
  | inl found ↦ (codes "post", word_post, strip-sound (codes "post") t rest found)
  | inr h2 ↦ elim (or-cases _ _ rest h2) [
    | inl found ↦ (codes "rev", word_rev, strip-sound (codes "rev") t rest found)
    | inr found ↦ (codes "r", word_r, strip-sound (codes "r") t rest found)
  ]
]

-- ---- the parts

join3 : (t a x b y c rest : List ℕ) → t ≡ a ++ x → x ≡ b ++ y → y ≡ c ++ rest → t ≡ (a ++ (b ++ c)) ++ rest
join3 t a x b y c rest h1 h2 h3 = grind (arith, append_assoc)

pre_of-sound : (t : List ℕ) (o : Option (PrereleaseKind × List ℕ)) → pre_word_at (after_separator t) ≡ o
    → (p : List ℕ) × (b : Bool) × IsPre p (pre_of t o).0 b × (t ≡ p ++ (pre_of t o).1) × (b ≡ true → number_at (after_separator (pre_of t o).1) ≡ None)
pre_of-sound t None e = ([], false, no_pre, refl, λ h. cc h)
pre_of-sound t (Some w) e =
    let s = separator-sound t in
    let r = pre_word-sound (after_separator t) w.0 w.1 e in
    let n = numbered-sound w.1 in
    (s.0 ++ (r.0 ++ n.0), n.1, pre s.1 r.1 n.2, join3 t s.0 (after_separator t) r.0 w.1 n.0 (numbered_at w.1).1 s.2 r.2 n.3, n.4)

pub pre-sound : (t : List ℕ) → (p : List ℕ) × (b : Bool) × IsPre p (pre_at t).0 b × (t ≡ p ++ (pre_at t).1)
    × (b ≡ true → number_at (after_separator (pre_at t).1) ≡ None)
unfolding pre_at
pre-sound t = pre_of-sound t (pre_word_at (after_separator t)) refl

plain-sound : (after : Bool) (t : List ℕ) → (after ≡ true → number_at (after_separator t) ≡ None) → (o : Option (ℕ × List ℕ)) → number_after 45 t ≡ o
    → (q : List ℕ) × IsPost after q (plain_of t o).0 × (t ≡ q ++ (plain_of t o).1)
plain-sound after t quiet None e = ([], no_post, refl)
plain-sound false t quiet (Some x) e =
    let r = number_after-sound 45 t x.0 x.1 e in
    (45 ∷ r.0, dashed r.1, r.2)
plain-sound true t quiet (Some x) e =
    let r = number_after-sound 45 t x.0 x.1 e in
    let silent : number_at (after_separator (45 ∷ (r.0 ++ x.1))) ≡ None = subst (λ (z : List ℕ). number_at (after_separator z) ≡ None) r.2 (quiet refl) in
    cc (sym silent ∙ r.3)

post_of-sound : (after : Bool) (t : List ℕ) → (after ≡ true → number_at (after_separator t) ≡ None) → (o : Option (List ℕ)) → post_word_at (after_separator t) ≡ o
    → (q : List ℕ) × IsPost after q (post_of t o).0 × (t ≡ q ++ (post_of t o).1)
post_of-sound after t quiet None e = plain-sound after t quiet (number_after 45 t) refl
post_of-sound after t quiet (Some w) e =
    let s = separator-sound t in
    let r = post_word-sound (after_separator t) w e in
    let n = numbered-sound w in
    (s.0 ++ (r.0 ++ n.0), post s.1 r.1 n.2, join3 t s.0 (after_separator t) r.0 w n.0 (numbered_at w).1 s.2 r.2 n.3)

pub post-sound : (after : Bool) (t : List ℕ) → (after ≡ true → number_at (after_separator t) ≡ None)
    → (q : List ℕ) × IsPost after q (post_at t).0 × (t ≡ q ++ (post_at t).1)
unfolding post_at
post-sound after t quiet = post_of-sound after t quiet (post_word_at (after_separator t)) refl

dev_of-sound : (t : List ℕ) (o : Option (List ℕ)) → strip (codes "dev") (after_separator t) ≡ o
    → (d : List ℕ) × IsDev d (dev_of t o).0 × (t ≡ d ++ (dev_of t o).1)
dev_of-sound t None e = ([], no_dev, refl)
dev_of-sound t (Some w) e =
    let s = separator-sound t in
    let n = numbered-sound w in
    (s.0 ++ (codes "dev" ++ n.0), dev s.1 n.2, join3 t s.0 (after_separator t) (codes "dev") w n.0 (numbered_at w).1 s.2 (strip-sound (codes "dev") (after_separator t) w e) n.3)

pub dev-sound : (t : List ℕ) → (d : List ℕ) × IsDev d (dev_at t).0 × (t ≡ d ++ (dev_at t).1)
unfolding dev_at
dev-sound t = dev_of-sound t (strip (codes "dev") (after_separator t)) refl

-- ---- epoch, release, local

bang_of-sound : (n : ℕ) (t rest : List ℕ) (ds : List ℕ) → IsNumber ds n → t ≡ ds ++ rest → (e : List ℕ) × IsEpoch e (bang_of n t rest).0 × (t ≡ e ++ (bang_of n t rest).1)
bang_of-sound n t [] ds h whole = ([], no_epoch, refl)
bang_of-sound n t (b ∷ rest) ds h whole = elim (cases_Bool (b == 33)) [
  | inl bang ↦
      let byte : b ≡ 33 = eqb-true b 33 bang in
      let text : t ≡ (ds ++ 33 ∷ []) ++ rest = whole ∙ ap (λ (z : ℕ). ds ++ z ∷ rest) byte ∙ sym (append_assoc ds (33 ∷ []) rest) in
      rw bang (ds ++ 33 ∷ [], epoch h, text)
  | inr other ↦ rw other ([], no_epoch, refl)
]

epoch_of-sound : (t : List ℕ) (o : Option (ℕ × List ℕ)) → number_at t ≡ o → (e : List ℕ) × IsEpoch e (epoch_of t o).0 × (t ≡ e ++ (epoch_of t o).1)
epoch_of-sound t None e = ([], no_epoch, refl)
epoch_of-sound t (Some x) e =
    let r = number_at-sound t x.0 x.1 e in
    bang_of-sound x.0 t x.1 r.0 r.1 r.2

pub epoch-sound : (t : List ℕ) → (e : List ℕ) × IsEpoch e (epoch_at t).0 × (t ≡ e ++ (epoch_at t).1)
unfolding epoch_at
epoch-sound t = epoch_of-sound t (number_at t) refl

-- the numbers after a first one
abbrev Continues : List ℕ → List ℕ → Type 0
Continues u ns = (ds : List ℕ) (n : ℕ) → IsNumber ds n → IsRelease (ds ++ u) (n ∷ ns)

more_stop : Continues [] []
more_stop ds n h = rw append-nil (last h)

more-sound : (k : ℕ) (t : List ℕ) → (u : List ℕ) × (t ≡ u ++ (more_at k t).1) × Continues u (more_at k t).0
unfolding more_at
more-sound zero t = ([], refl, more_stop)
more-sound (suc k) t =
    let step : (o : Option (ℕ × List ℕ)) → number_after 46 t ≡ o → (u : List ℕ) × (t ≡ u ++ (more_of t (more_at k) o).1) × Continues u (more_of t (more_at k) o).0
    = elim [
      | None ↦ λ e. ([], refl, more_stop)
      | Some x ↦ λ e.
          let r = number_after-sound 46 t x.0 x.1 e in
          let rest = more-sound k x.1 in
          let whole : t ≡ (46 ∷ (r.0 ++ rest.0)) ++ (more_at k x.1).1 =
          r.2 ∙ ap (λ (z : List ℕ). 46 ∷ z) (ap (λ (z : List ℕ). r.0 ++ z) rest.1 ∙ sym (append_assoc r.0 rest.0 (more_at k x.1).1)) in
          (46 ∷ (r.0 ++ rest.0), whole, λ ds n h. before h (rest.2 r.0 x.0 r.1))
    ] in
    step (number_after 46 t) refl

release_of-sound : (t : List ℕ) (o : Option (ℕ × List ℕ)) → number_at t ≡ o → (ns rest : List ℕ) → release_of o ≡ Some (ns, rest) → (r : List ℕ) × IsRelease r ns × (t ≡ r ++ rest)
release_of-sound t None e ns rest h = cc h
release_of-sound t (Some x) e ns rest h =
    let first = number_at-sound t x.0 x.1 e in
    let others = more-sound (length x.1) x.1 in
    let same = some-value _ _ h in
    let numbers : x.0 ∷ (more_at (length x.1) x.1).0 ≡ ns = ap (λ (p : List ℕ × List ℕ). p.0) same in
    let after : (more_at (length x.1) x.1).1 ≡ rest = ap (λ (p : List ℕ × List ℕ). p.1) same in
    let whole = first.2 ∙ ap (λ (z : List ℕ). first.0 ++ z) others.1 ∙ sym (append_assoc first.0 others.0 (more_at (length x.1) x.1).1) in
    (first.0 ++ others.0, subst (IsRelease (first.0 ++ others.0)) numbers (others.2 first.0 x.0 first.1), subst (λ (z : List ℕ). t ≡ (first.0 ++ others.0) ++ z) after whole)

pub release-sound : (t ns rest : List ℕ) → release_at t ≡ Some (ns, rest) → (r : List ℕ) × IsRelease r ns × (t ≡ r ++ rest)
unfolding release_at
release-sound t ns rest h = release_of-sound t (number_at t) refl ns rest h

-- ---- local segments

front-passes : (p : ℕ → Bool) (t : List ℕ) → list_all p (take (prefix_len p t) t) ≡ true
front-passes p [] = refl
front-passes p (b ∷ t) = elim (cases_Bool (p b)) [
  | inl holds ↦ rw (holds, one-add, holds) (front-passes p t)
  | inr fails ↦ rw fails refl
]

all-right : (p : ℕ → Bool) (xs ys : List ℕ) → list_all p (xs ++ ys) ≡ true → list_all p ys ≡ true
all-right p [] ys h = h
all-right p (x ∷ xs) ys h = grind (arith, cases_Bool, all-right p xs ys)

nothing_left : (rest : List ℕ) → list_all is_ascii_digit rest ≡ true → starts_digit rest ≡ false → rest ≡ []
nothing_left rest h1 h2 = grind arith

whole_number-sound : (run : List ℕ) → list_all is_ascii_digit run ≡ true → (o : Option (ℕ × List ℕ)) → number_at run ≡ o → (s : Segment) → whole_number o ≡ Some s → IsSegment run s
whole_number-sound run all None e s h = cc h
whole_number-sound run all (Some x) e s h =
    let r = number_at-sound run x.0 x.1 e in
    let left : list_all is_ascii_digit x.1 ≡ true = all-right is_ascii_digit r.0 x.1 (subst (λ (z : List ℕ). list_all is_ascii_digit z ≡ true) r.2 all) in
    let none : x.1 ≡ [] = nothing_left x.1 left r.3 in
    let same : run ≡ r.0 = r.2 ∙ ap (λ (z : List ℕ). r.0 ++ z) none ∙ append-nil r.0 in
    let seg : IsSegment r.0 (number x.0) = numeric r.1 in
    subst (IsSegment run) (some-value _ _ h) (subst (λ (z : List ℕ). IsSegment z (number x.0)) (sym same) seg)

run-sound : (run : List ℕ) (s : Segment) → list_all is_word_byte run ≡ true → segment_of_run run ≡ Some s → IsSegment run s
unfolding segment_of_run
run-sound run s good h = elim (cases_Bool (length run == 0)) [
  | inl none ↦ cc (rw none at h)
  | inr some ↦ elim (cases_Bool (list_all is_ascii_digit run)) [
    | inl all ↦ whole_number-sound run all (number_at run) refl s (rw (some, all) at h)
    | inr mixed ↦ subst (IsSegment run) (some-value _ _ (rw (some, mixed) at h)) (textual (good, mixed))
  ]
]

before_rest-sound : (rest : List ℕ) (o : Option Segment) (s : Segment) (r : List ℕ) → before_rest rest o ≡ Some (s, r) → (o ≡ Some s) × (rest ≡ r)
before_rest-sound rest o s r h1 = grind arith

pub segment-sound : (t : List ℕ) (s : Segment) (rest : List ℕ) → segment_at t ≡ Some (s, rest) → (u : List ℕ) × IsSegment u s × (t ≡ u ++ rest)
unfolding segment_at
segment-sound t s rest h =
    let e = before_rest-sound _ _ s rest h in (
      take (run_len t) t,
      run-sound (take (run_len t) t) s (front-passes is_word_byte t) e.0,
      sym (take-append-drop (run_len t) t) ∙ ap (λ (z : List ℕ). take (run_len t) t ++ z) e.1,
    )

prepend-sound : (s : Segment) (o : Option (List Segment)) (ss : List Segment) → prepend s o ≡ Some ss → (others : List Segment) × (o ≡ Some others) × (s ∷ others ≡ ss)
prepend-sound s o ss h1 = grind arith

is_separator-sound : (b : ℕ) → is_separator b ≡ true → IsSeparator (b ∷ [])
is_separator-sound b h = elim (cases_Bool (b == 45)) [
  | inl e ↦ let byte : b ≡ 45 = eqb-true b 45 e in rw byte dash
  | inr e ↦ elim (cases_Bool (b == 46)) [
    | inl f ↦ let byte : b ≡ 46 = eqb-true b 46 f in rw byte dot
    | inr f ↦ elim (cases_Bool (b == 95)) [
      | inl g ↦ let byte : b ≡ 95 = eqb-true b 95 g in rw byte underscore
      | inr g ↦ cc (rw (e, f, g) at h)
    ]
  ]
]

after_segment-sound : (next : List ℕ → Option (List Segment)) → ((u : List ℕ) (others : List Segment) → next u ≡ Some others → IsSegments u others)
    → (u : List ℕ) (s : Segment) (rest : List ℕ) (ss : List Segment) → IsSegment u s → after_segment next s rest ≡ Some ss → IsSegments (u ++ rest) ss
after_segment-sound next sound u s [] ss one h = rw append-nil (subst (IsSegments u) (some-value _ _ h) (last_segment one))
after_segment-sound next sound u s (b ∷ rest) ss one h = elim (cases_Bool (is_separator b)) [
  | inl separator ↦
      let p = prepend-sound s (next rest) ss (rw separator at h) in
      subst (IsSegments (u ++ b ∷ rest)) p.2 (segment_before {p = b ∷ []} one (is_separator-sound b separator) (omega arith) (sound rest p.0 p.1))
  | inr other ↦ cc (rw other at h)
]

segments_of-sound : (next : List ℕ → Option (List Segment)) → ((u : List ℕ) (others : List Segment) → next u ≡ Some others → IsSegments u others)
    → (t : List ℕ) (o : Option (Segment × List ℕ)) → segment_at t ≡ o → (ss : List Segment) → segments_of next o ≡ Some ss → IsSegments t ss
segments_of-sound next sound t None e ss h = cc h
segments_of-sound next sound t (Some x) e ss h =
    let r = segment-sound t x.0 x.1 e in
    subst (λ (z : List ℕ). IsSegments z ss) (sym r.2) (after_segment-sound next sound r.0 x.0 x.1 ss r.1 h)

pub segments-sound : (k : ℕ) (t : List ℕ) (ss : List Segment) → segments_at k t ≡ Some ss → IsSegments t ss
unfolding segments_at
segments-sound zero t ss h = cc h
segments-sound (suc k) t ss h = segments_of-sound (segments_at k) (segments-sound k) t (segment_at t) refl ss h

pub locals-sound : (t : List ℕ) (ss : List Segment) → locals_at t ≡ Some ss → IsLocal t ss
locals-sound [] ss h = subst (IsLocal []) (some-value _ _ h) no_local
locals-sound (b ∷ rest) ss h = elim (cases_Bool (b == 43)) [
  | inl sign ↦
      let byte : b ≡ 43 = eqb-true b 43 sign in
      let segments = segments-sound (length rest) rest ss (rw sign at h) in
      rw byte (plus segments)
  | inr other ↦ cc (rw other at h)
]

-- ---- a whole version

pub mark-sound : (t : List ℕ) → (m : List ℕ) × IsMark m × (t ≡ m ++ after_mark t)
mark-sound [] = ([], no_mark, refl)
mark-sound (b ∷ rest) = elim (cases_Bool (b == 118)) [
  | inl letter ↦ let byte : b ≡ 118 = eqb-true b 118 letter in (118 ∷ [], mark, rw byte refl)
  | inr other ↦ ([], no_mark, rw other refl)
]

pub finish-sound : (e : ℕ) (r : List ℕ) (p : Option Prerelease) (q d : Option ℕ) (o : Option (List Segment)) (v : Parts) → finish e r p q d o ≡ Some v
    → (ls : List Segment) × (o ≡ Some ls) × (e ≡ v.epoch) × (r ≡ v.release) × (p ≡ v.pre) × (q ≡ v.post) × (d ≡ v.dev) × (ls ≡ v.locals)
finish-sound e r p q d o v h1 = grind arith

join7 : (t m t1 e t2 r t3 p t4 q t5 d l : List ℕ) → t ≡ m ++ t1 → t1 ≡ e ++ t2 → t2 ≡ r ++ t3 → t3 ≡ p ++ t4 → t4 ≡ q ++ t5 → t5 ≡ d ++ l
    → m ++ (e ++ (r ++ (p ++ (q ++ (d ++ l))))) ≡ t
join7 t m t1 e t2 r t3 p t4 q t5 d l a b c f g h = rw (a, b, c, f, g, h) refl

after_release-sound : (t m t1 : List ℕ) → IsMark m → t ≡ m ++ t1 → (o : Option (List ℕ × List ℕ)) → release_at (epoch_at t1).1 ≡ o
    → (v : Parts) → after_release (epoch_at t1).0 o ≡ Some v → IsVersion t v
after_release-sound t m t1 is_m whole None found v h = cc h
after_release-sound t m t1 is_m whole (Some x) found v h =
    let e = epoch-sound t1 in
    let r = release-sound (epoch_at t1).1 x.0 x.1 found in
    let p = pre-sound x.1 in
    let q = post-sound p.1 (pre_at x.1).1 p.4 in
    let d = dev-sound (post_at (pre_at x.1).1).1 in
    let end = finish-sound _ _ _ _ _ _ v h in
    let l = locals-sound (dev_at (post_at (pre_at x.1).1).1).1 end.0 end.1 in
    let text = join7 t m t1 e.0 (epoch_at t1).1 r.0 x.1 p.0 (pre_at x.1).1 q.0 (post_at (pre_at x.1).1).1 d.0 (dev_at (post_at (pre_at x.1).1).1).1 whole e.2 r.2 p.3 q.2 d.2 in
    subst (λ (z : List ℕ). IsVersion z v) text (version {v = v} is_m
    (subst (IsEpoch e.0) end.2 e.1) (subst (IsRelease r.0) end.3 r.1) (subst (λ (z : Option Prerelease). IsPre p.0 z p.1) end.4 p.2)
    (subst (IsPost p.1 q.0) end.5 q.1) (subst (IsDev d.0) end.6 d.1) (subst (IsLocal _) end.7 l))

-- what is read is in the grammar
pub version-sound : (t : List ℕ) (v : Parts) → version_at t ≡ Some v → IsVersion t v
unfolding version_at
version-sound t v h =
    let m = mark-sound t in
    after_release-sound t m.0 (after_mark t) m.1 m.2 (release_at (epoch_at (after_mark t)).1) refl v h
