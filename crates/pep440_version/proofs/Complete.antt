-- What is in the grammar is read.
use Rattle.std.proofs.Common.{◌≡◌, ◌==◌, ◌||◌, ◌++◌, suc, ℕ, ◌+◌, ◌-◌, ◌*◌, ◌^◌, ◌<◌, ◌≤◌, Bool, not, Option, Some, None, List, [], ◌∷◌, length, refl, ap, ◌∙◌, arith, inl, inr, true, false, append-nil, append_assoc, length-append}
use Rattle.std.specs.Prelude.{codes}
use Rattle.std.specs.Char.{is_ascii_digit}
use Rattle.pep440_version.specs.Valid.{is_word_byte}
use Rattle.std.specs.List.{list_all}
use Rattle.std.proofs.lemmas.Bool.{cases_Bool}
use Rattle.std.proofs.lemmas.Bool.Decides.{nat_tests}
use Rattle.std.proofs.lemmas.List.{drop_at, take_at}
use Rattle.pep440_version.specs.declared.version.Prerelease.{Prerelease}
use Rattle.pep440_version.specs.declared.version.PrereleaseKind.{PrereleaseKind}
use Rattle.pep440_version.specs.Parts.{Parts, Segment}
use Rattle.pep440_version.specs.Grammar.{IsDev, IsEpoch, IsLocal, IsMark, IsNumber, IsNumbering, IsPost, IsPostWord, IsPre, IsPreWord, IsRelease, IsSegment, IsSegments, IsSeparator, IsVersion, bare, before, dash, dashed, dev, dot, epoch, last, last_segment, left_out, long_alpha, long_beta, no_dev, no_epoch, no_local, no_post, no_pre, numeric, plus, post, pre, segment_before, short_alpha, short_beta, textual, underscore, value_from, version, word_c, word_post, word_pre, word_preview, word_r, word_rc, word_rev, written}
use Rattle.pep440_version.specs.Reading.{after_mark, after_separator, bang_of, dev_at, digits_from, epoch_at, is_separator, locals_at, more_at, number_after, number_at, numbered_at, post_at, post_word_at, pre_at, pre_word_at, release_at, run_len, segment_at, segment_of_run, segments_at, starts_digit, strip, version_at}
use Rattle.pep440_version.proofs.Readers.{lt-true, more-stop}

-- ---- numbers

value-grows : (v : ℕ) (ds : List ℕ) → v ≤ value_from v ds
value-grows v [] = omega arith
value-grows v (b ∷ ds) = omega (arith, value-grows (v * 10 + (b - 48)) ds)

digits_from-again : (v : ℕ) (ds rest : List ℕ) (n : ℕ) → list_all is_ascii_digit ds ≡ true → value_from v ds ≡ n → n < 2 ^ 64 → starts_digit rest ≡ false
    → digits_from v (ds ++ rest) ≡ Some (n, rest)
unfolding digits_from
digits_from-again v [] [] n all value fits next = rw value refl
digits_from-again v [] (b ∷ rest) n all value fits next = rw (next, value) refl
digits_from-again v (b ∷ ds) rest n all value fits next = elim (cases_Bool (is_ascii_digit b)) [
  | inl digit ↦
      let grows = value-grows (v * 10 + (b - 48)) ds in
      let small = lt-true (v * 10 + (b - 48)) (2 ^ 64) (omega arith) in
      rw (digit, small) (digits_from-again (v * 10 + (b - 48)) ds rest n (rw digit at all) value fits next)
  | inr other ↦ cc (rw other at all)
]

starts-number : (ds rest : List ℕ) → list_all is_ascii_digit ds ≡ true → 0 < length ds → starts_digit (ds ++ rest) ≡ true
starts-number [] rest all some = absurd (omega arith)
starts-number (b ∷ ds) rest all some = elim (cases_Bool (is_ascii_digit b)) [
  | inl digit ↦ digit
  | inr other ↦ cc (rw other at all)
]

pub number-again : (ds rest : List ℕ) (n : ℕ) → IsNumber ds n → starts_digit rest ≡ false → number_at (ds ++ rest) ≡ Some (n, rest)
number-again ds rest n h next = rw (starts-number ds rest h.digits h.some) (digits_from-again 0 ds rest n h.digits h.value h.fits next)

no_number : (t : List ℕ) → starts_digit t ≡ false → number_at t ≡ None
no_number t h = rw h refl

after_separator-digit : (t : List ℕ) → starts_digit t ≡ true → after_separator t ≡ t
after_separator-digit t h1 = grind arith

-- a separator and what begins with no separator
after_separator-again : (s t : List ℕ) → IsSeparator s → after_separator t ≡ t → after_separator (s ++ t) ≡ t
after_separator-again s t left_out h = h
after_separator-again s t dash h = refl
after_separator-again s t dot h = refl
after_separator-again s t underscore h = refl

pub numbered-again : (t : List ℕ) (n : ℕ) (b : Bool) (rest : List ℕ) → IsNumbering t n b → starts_digit rest ≡ false
    → (b ≡ true → starts_digit (after_separator rest) ≡ false) → numbered_at (t ++ rest) ≡ (n, rest)
unfolding numbered_at
numbered-again t n b rest bare next quiet = rw (no_number (after_separator rest) (quiet refl)) refl
numbered-again t n b rest (written {s} {ds} sep num) next quiet =
    let digit = starts-number ds rest num.digits num.some in
    rw (append_assoc, after_separator-again s (ds ++ rest) sep (after_separator-digit (ds ++ rest) digit), number-again ds rest n num next) refl

-- ---- the text after a part

-- the byte does not make a word longer, and is not `!`
abbrev opens : List ℕ → Bool
opens [] = false
opens (b ∷ t) = (b == 99 || b == 101) || (b == 108 || b == 118 || b == 33)

-- no part that may come before begins or continues here
record Quiet (t : List ℕ) : Type 0 where
  digit : starts_digit t ≡ false
  release : number_after 46 t ≡ None
  pre_word : pre_word_at (after_separator t) ≡ None
  letter : opens t ≡ false

-- and no number, after a word
record Calm (t : List ℕ) : Type 0 where
  quiet : Quiet t
  number : starts_digit (after_separator t) ≡ false
  dash_number : number_after 45 t ≡ None
  post_word : post_word_at (after_separator t) ≡ None

calm-local : (l : List ℕ) (ss : List Segment) → IsLocal l ss → Calm l × (strip (codes "dev") (after_separator l) ≡ None)
unfolding pre_word_at post_word_at strip
calm-local l ss no_local = (record { quiet = record { digit = refl; release = refl; pre_word = refl; letter = refl }; number = refl; dash_number = refl; post_word = refl }, refl)
calm-local l ss (plus h) = (record { quiet = record { digit = refl; release = refl; pre_word = refl; letter = refl }; number = refl; dash_number = refl; post_word = refl }, refl)

calm-dev : (d : List ℕ) (o : Option ℕ) (l : List ℕ) → IsDev d o → Calm l → Calm (d ++ l)
unfolding pre_word_at post_word_at strip
calm-dev d o l no_dev c = c
calm-dev d o l (dev left_out num) c = record { quiet = record { digit = refl; release = refl; pre_word = refl; letter = refl }; number = refl; dash_number = refl; post_word = refl }
calm-dev d o l (dev dash num) c = record { quiet = record { digit = refl; release = refl; pre_word = refl; letter = refl }; number = refl; dash_number = refl; post_word = refl }
calm-dev d o l (dev dot num) c = record { quiet = record { digit = refl; release = refl; pre_word = refl; letter = refl }; number = refl; dash_number = refl; post_word = refl }
calm-dev d o l (dev underscore num) c = record { quiet = record { digit = refl; release = refl; pre_word = refl; letter = refl }; number = refl; dash_number = refl; post_word = refl }

-- a numbering keeps words short
digit-opens : (b : ℕ) (t : List ℕ) → is_ascii_digit b ≡ true → opens (b ∷ t) ≡ false
digit-opens b t h = grind (arith, nat_tests)

opens-digits : (t : List ℕ) → starts_digit t ≡ true → opens t ≡ false
opens-digits [] h = cc h
opens-digits (b ∷ t) h = digit-opens b t h

opens-numbering : (t : List ℕ) (n : ℕ) (b : Bool) (rest : List ℕ) → IsNumbering t n b → opens rest ≡ false → opens (t ++ rest) ≡ false
opens-numbering t n b rest bare h = h
opens-numbering t n b rest (written {s} {ds} left_out num) h = opens-digits (ds ++ rest) (starts-number ds rest num.digits num.some)
opens-numbering t n b rest (written dash num) h = refl
opens-numbering t n b rest (written dot num) h = refl
opens-numbering t n b rest (written underscore num) h = refl

-- ---- words

not_l : (b : ℕ) (t : List ℕ) → opens (b ∷ t) ≡ false → (b == 108) ≡ false
not_l b t h = grind (arith, nat_tests)

not_e : (b : ℕ) (t : List ℕ) → opens (b ∷ t) ≡ false → (b == 101) ≡ false
not_e b t h = grind (arith, nat_tests)

not_v : (b : ℕ) (t : List ℕ) → opens (b ∷ t) ≡ false → (b == 118) ≡ false
not_v b t h = grind (arith, nat_tests)

not_c : (b : ℕ) (t : List ℕ) → opens (b ∷ t) ≡ false → (b == 99) ≡ false
not_c b t h = grind (arith, nat_tests)

-- what begins with a word
record Front (x : List ℕ) : Type 0 where
  digit : starts_digit x ≡ false
  separator : after_separator x ≡ x
  release : number_after 46 x ≡ None

pre_word-front : (w : List ℕ) (kind : PrereleaseKind) (x : List ℕ) → IsPreWord w kind → Front (w ++ x)
pre_word-front w kind x h1 = grind arith

post_word-front : (w : List ℕ) (x : List ℕ) → IsPostWord w → Front (w ++ x)
post_word-front w x h1 = grind arith

pre_word-again : (w : List ℕ) (kind : PrereleaseKind) (x : List ℕ) → IsPreWord w kind → opens x ≡ false → pre_word_at (w ++ x) ≡ Some (kind, x)
unfolding pre_word_at strip
pre_word-again w kind x long_alpha h = refl
pre_word-again w kind [] short_alpha h = refl
pre_word-again w kind (b ∷ x) short_alpha h = rw (not_l b x h) refl
pre_word-again w kind x long_beta h = refl
pre_word-again w kind [] short_beta h = refl
pre_word-again w kind (b ∷ x) short_beta h = rw (not_e b x h) refl
pre_word-again w kind x word_rc h = refl
pre_word-again w kind x word_c h = refl
pre_word-again w kind x word_preview h = refl
pre_word-again w kind [] word_pre h = refl
pre_word-again w kind (b ∷ x) word_pre h = rw (not_v b x h) refl

post_word-again : (w x : List ℕ) → IsPostWord w → opens x ≡ false → post_word_at (w ++ x) ≡ Some x
unfolding post_word_at strip
post_word-again w x word_post h = refl
post_word-again w x word_rev h = refl
post_word-again w [] word_r h = refl
post_word-again w (b ∷ x) word_r h = rw (not_e b x h) refl

-- a word of a post release is not one of a pre-release
post_word-no_pre : (w x : List ℕ) → IsPostWord w → opens x ≡ false → pre_word_at (w ++ x) ≡ None
unfolding pre_word_at strip
post_word-no_pre w x word_post h = refl
post_word-no_pre w x word_rev h = refl
post_word-no_pre w [] word_r h = refl
post_word-no_pre w (b ∷ x) word_r h = rw (not_c b x h) refl

post_word-letter : (w x : List ℕ) → IsPostWord w → opens (w ++ x) ≡ false
post_word-letter w x word_post = refl
post_word-letter w x word_rev = refl
post_word-letter w x word_r = refl

-- a digit begins no word
digit-not : (b c : ℕ) → is_ascii_digit b ≡ true → 57 < c → (b == c) ≡ false
digit-not b c h k = grind (arith, nat_tests)

digit-no_pre : (t : List ℕ) → starts_digit t ≡ true → pre_word_at t ≡ None
unfolding pre_word_at strip
digit-no_pre [] h = refl
digit-no_pre (b ∷ t) h =
    rw (digit-not b 97 h (omega arith), digit-not b 98 h (omega arith), digit-not b 114 h (omega arith), digit-not b 99 h (omega arith), digit-not b 112 h (omega arith)) refl

digit-no_post : (t : List ℕ) → starts_digit t ≡ true → post_word_at t ≡ None
unfolding post_word_at strip
digit-no_post [] h = refl
digit-no_post (b ∷ t) h = rw (digit-not b 112 h (omega arith), digit-not b 114 h (omega arith)) refl

-- ---- a separator before a word

after_separator-word : (s x : List ℕ) → IsSeparator s → Front x → after_separator (s ++ x) ≡ x
after_separator-word s x sep f = after_separator-again s x sep f.separator

digit-word : (s x : List ℕ) → IsSeparator s → Front x → starts_digit (s ++ x) ≡ false
digit-word s x left_out f = f.digit
digit-word s x dash f = refl
digit-word s x dot f = refl
digit-word s x underscore f = refl

release-word : (s x : List ℕ) → IsSeparator s → Front x → number_after 46 (s ++ x) ≡ None
release-word s x left_out f = f.release
release-word s x dash f = refl
release-word s x dot f = no_number x f.digit
release-word s x underscore f = refl

letter-word : (s x : List ℕ) → IsSeparator s → opens x ≡ false → opens (s ++ x) ≡ false
letter-word s x left_out h = h
letter-word s x dash h = refl
letter-word s x dot h = refl
letter-word s x underscore h = refl

-- ---- what a post release begins with

abbrev PostTail : Bool → List ℕ → Type 0
PostTail after t = Quiet t × (after ≡ true → starts_digit (after_separator t) ≡ false)

pub regroup : (s w t rest : List ℕ) → (s ++ (w ++ t)) ++ rest ≡ s ++ (w ++ (t ++ rest))
regroup s w t rest = append_assoc s (w ++ t) rest ∙ ap (λ (z : List ℕ). s ++ z) (append_assoc w t rest)

post-tail : (after : Bool) (q : List ℕ) (o : Option ℕ) (rest : List ℕ) → IsPost after q o → Calm rest → PostTail after (q ++ rest)
post-tail after q o rest no_post c = (c.quiet, λ _. c.number)
post-tail after q o rest (post {s = s} {w = w} {t = t} {n = n} {b = b} sep is_word num) c =
    let opened = opens-numbering t n b rest num c.quiet.letter in
    let front = post_word-front w (t ++ rest) is_word in
    let skip = after_separator-word s (w ++ (t ++ rest)) sep front in
    let whole = regroup s w t rest in
    rw whole (
      record {
        digit = digit-word s (w ++ (t ++ rest)) sep front;
        release = release-word s (w ++ (t ++ rest)) sep front;
        pre_word = rw skip (post_word-no_pre w (t ++ rest) is_word opened);
        letter = letter-word s (w ++ (t ++ rest)) sep (post_word-letter w (t ++ rest) is_word);
      },
      λ _. rw skip front.digit,
    )
post-tail after q o rest (dashed {ds = ds} num) c =
    (record { digit = refl; release = refl; pre_word = digit-no_pre (ds ++ rest) (starts-number ds rest num.digits num.some); letter = refl }, λ h. cc h)

-- ---- the parts again

dev-again : (d : List ℕ) (o : Option ℕ) (l : List ℕ) → IsDev d o → Calm l → strip (codes "dev") (after_separator l) ≡ None → dev_at (d ++ l) ≡ (o, l)
unfolding dev_at strip
dev-again d o l no_dev c none = rw none refl
dev-again d o l (dev {t = t} {n = n} {b = b} left_out num) c none = rw (numbered-again t n b l num c.quiet.digit (λ _. c.number)) refl
dev-again d o l (dev {t = t} {n = n} {b = b} dash num) c none = rw (numbered-again t n b l num c.quiet.digit (λ _. c.number)) refl
dev-again d o l (dev {t = t} {n = n} {b = b} dot num) c none = rw (numbered-again t n b l num c.quiet.digit (λ _. c.number)) refl
dev-again d o l (dev {t = t} {n = n} {b = b} underscore num) c none = rw (numbered-again t n b l num c.quiet.digit (λ _. c.number)) refl

post-again : (after : Bool) (q : List ℕ) (o : Option ℕ) (rest : List ℕ) → IsPost after q o → Calm rest → post_at (q ++ rest) ≡ (o, rest)
unfolding post_at
post-again after q o rest no_post c = rw (c.post_word, c.dash_number) refl
post-again after q o rest (post {s = s} {w = w} {t = t} {n = n} {b = b} sep is_word num) c =
    let opened = opens-numbering t n b rest num c.quiet.letter in
    let skip = after_separator-word s (w ++ (t ++ rest)) sep (post_word-front w (t ++ rest) is_word) in
    rw (regroup s w t rest, skip, post_word-again w (t ++ rest) is_word opened, numbered-again t n b rest num c.quiet.digit (λ _. c.number)) refl
post-again after q o rest (dashed {ds = ds} {n = n} num) c =
    rw (digit-no_post (ds ++ rest) (starts-number ds rest num.digits num.some), number-again ds rest n num c.quiet.digit) refl

pre-again : (p : List ℕ) (o : Option Prerelease) (b : Bool) (rest : List ℕ) → IsPre p o b → PostTail b rest → pre_at (p ++ rest) ≡ (o, rest)
unfolding pre_at
pre-again p o b rest no_pre c = rw c.0.pre_word refl
pre-again p o b rest (pre {s = s} {w = w} {t = t} {kind = kind} {n = n} sep is_word num) c =
    let opened = opens-numbering t n b rest num c.0.letter in
    let skip = after_separator-word s (w ++ (t ++ rest)) sep (pre_word-front w kind (t ++ rest) is_word) in
    rw (regroup s w t rest, skip, pre_word-again w kind (t ++ rest) is_word opened, numbered-again t n b rest num c.0.digit c.1) refl

-- the text after a release
pub record AfterRelease (t : List ℕ) : Type 0 where
  pub digit : starts_digit t ≡ false
  pub release : number_after 46 t ≡ None
  pub bang : (n : ℕ) (u : List ℕ) → bang_of n u t ≡ (0, u)

not_bang : (t : List ℕ) → opens t ≡ false → (n : ℕ) (u : List ℕ) → bang_of n u t ≡ (0, u)
not_bang t h1 n u = grind arith

word-not_bang : (w : List ℕ) (kind : PrereleaseKind) (x : List ℕ) → IsPreWord w kind → (n : ℕ) (u : List ℕ) → bang_of n u (w ++ x) ≡ (0, u)
word-not_bang w kind x h1 n u = grind arith

separated-not_bang : (s x : List ℕ) → IsSeparator s → ((n : ℕ) (u : List ℕ) → bang_of n u x ≡ (0, u)) → (n : ℕ) (u : List ℕ) → bang_of n u (s ++ x) ≡ (0, u)
separated-not_bang s x h1 h2 n u = grind arith

pre-tail : (p : List ℕ) (o : Option Prerelease) (b : Bool) (rest : List ℕ) → IsPre p o b → PostTail b rest → AfterRelease (p ++ rest)
pre-tail p o b rest no_pre c = record { digit = c.0.digit; release = c.0.release; bang = not_bang rest c.0.letter }
pre-tail p o b rest (pre {s = s} {w = w} {t = t} {kind = kind} sep is_word num) c =
    let front = pre_word-front w kind (t ++ rest) is_word in
    rw (regroup s w t rest) (record { digit = digit-word s (w ++ (t ++ rest)) sep front; release = release-word s (w ++ (t ++ rest)) sep front; bang = separated-not_bang s (w ++ (t ++ rest)) sep (word-not_bang w kind (t ++ rest) is_word) })

more-again : (t ns rest : List ℕ) → IsRelease t ns → AfterRelease rest → (k : ℕ) → length t ≤ k → more_at (suc k) (46 ∷ (t ++ rest)) ≡ (ns, rest)
unfolding more_at
more-again t ns rest (last {n = n} num) a k fits = rw (number-again t rest n num a.digit, more-stop k rest a.release) refl
more-again t ns rest (before {ds = ds} {t = u} {n = n} num others) a k fits =
    let long = length-append ds (46 ∷ u) in
    let e : k ≡ suc (k - 1) = omega arith in
    let next = more-again u _ rest others a (k - 1) (omega arith) in
    let step : more_at k (46 ∷ (u ++ rest)) ≡ (_, rest) = rw e next in
    rw (append_assoc, number-again ds (46 ∷ (u ++ rest)) n num refl, step) refl

pub release-again : (t ns rest : List ℕ) → IsRelease t ns → AfterRelease rest → release_at (t ++ rest) ≡ Some (ns, rest)
unfolding release_at
release-again t ns rest (last {n = n} num) a = rw (number-again t rest n num a.digit, more-stop (length rest) rest a.release) refl
release-again t ns rest (before {ds = ds} {t = u} {n = n} num others) a =
    let long = length-append u rest in
    let next = more-again u _ rest others a (length (u ++ rest)) (omega arith) in
    rw (append_assoc, number-again ds (46 ∷ (u ++ rest)) n num refl, next) refl

release-no_epoch : (t ns rest : List ℕ) → IsRelease t ns → AfterRelease rest → epoch_at (t ++ rest) ≡ (0, t ++ rest)
unfolding epoch_at
release-no_epoch t ns rest (last {n = n} num) a = rw (number-again t rest n num a.digit) (a.bang n (t ++ rest))
release-no_epoch t ns rest (before {ds = ds} {t = u} {n = n} num others) a = rw (append_assoc, number-again ds (46 ∷ (u ++ rest)) n num refl) refl

pub epoch-again : (e : List ℕ) (n : ℕ) (t ns rest : List ℕ) → IsEpoch e n → IsRelease t ns → AfterRelease rest → epoch_at (e ++ (t ++ rest)) ≡ (n, t ++ rest)
unfolding epoch_at
epoch-again e n t ns rest no_epoch r a = release-no_epoch t ns rest r a
epoch-again e n t ns rest (epoch {ds = ds} num) r a = rw (append_assoc, number-again ds (33 ∷ (t ++ rest)) n num refl) refl

pub release-digit : (t ns rest : List ℕ) → IsRelease t ns → starts_digit (t ++ rest) ≡ true
release-digit t ns rest h1 = grind (arith, starts-number, append_assoc)

pub epoch-digit : (e : List ℕ) (n : ℕ) (t : List ℕ) → IsEpoch e n → starts_digit t ≡ true → starts_digit (e ++ t) ≡ true
epoch-digit e n t no_epoch h = h
epoch-digit e n t (epoch {ds = ds} num) h = rw append_assoc (starts-number ds (33 ∷ t) num.digits num.some)

pub mark-again : (m t : List ℕ) → IsMark m → starts_digit t ≡ true → after_mark (m ++ t) ≡ t
mark-again m t h1 h2 = grind arith

-- ---- local segments

-- no letter or digit continues here
abbrev stops : List ℕ → Bool
stops [] = true
stops (b ∷ t) = not (is_word_byte b)

run-again : (u rest : List ℕ) → list_all is_word_byte u ≡ true → stops rest ≡ true → run_len (u ++ rest) ≡ length u
run-again [] [] all h = refl
run-again [] (b ∷ rest) all h = elim (cases_Bool (is_word_byte b)) [
  | inl letter ↦ cc (rw letter at h)
  | inr other ↦ rw other refl
]
run-again (b ∷ u) rest all h = elim (cases_Bool (is_word_byte b)) [
  | inl letter ↦ let e = run-again u rest (rw letter at all) h in rw (letter, e) (omega arith)
  | inr other ↦ cc (rw other at all)
]

digit-word_byte : (b : ℕ) → is_ascii_digit b ≡ true → is_word_byte b ≡ true
digit-word_byte b h = grind (arith, nat_tests)

digits-word_bytes : (ds : List ℕ) → list_all is_ascii_digit ds ≡ true → list_all is_word_byte ds ≡ true
digits-word_bytes [] h = refl
digits-word_bytes (b ∷ ds) h = elim (cases_Bool (is_ascii_digit b)) [
  | inl digit ↦ let others = digits-word_bytes ds (rw digit at h) in rw (digit-word_byte b digit, others) refl
  | inr other ↦ cc (rw other at h)
]

length-some : (u : List ℕ) → 0 < length u → (length u == 0) ≡ false
length-some u h1 = grind arith

segment-letters : (u : List ℕ) (s : Segment) → IsSegment u s → list_all is_word_byte u ≡ true
segment-letters u s h1 = grind (arith, digits-word_bytes)

textual-long : (u : List ℕ) → list_all is_ascii_digit u ≡ false → 0 < length u
textual-long [] h = cc h
textual-long (b ∷ u) h = omega arith

segment-long : (u : List ℕ) (s : Segment) → IsSegment u s → 0 < length u
segment-long u s h1 = grind (arith, textual-long)

segment_of_run-again : (u : List ℕ) (s : Segment) → IsSegment u s → segment_of_run u ≡ Some s
unfolding segment_of_run
segment_of_run-again u s (numeric {n = n} num) =
    let whole = rw append-nil at (number-again u [] n num refl) in
    rw (length-some u num.some, num.digits, whole) refl
segment_of_run-again u s (textual is_word) = rw (length-some u (textual-long u is_word.1), is_word.1) refl

segment-again : (u : List ℕ) (s : Segment) (rest : List ℕ) → IsSegment u s → stops rest ≡ true → segment_at (u ++ rest) ≡ Some (s, rest)
unfolding segment_at
segment-again u s rest h stop =
    let len = run-again u rest (segment-letters u s h) stop in
    rw (len, take_at u rest (length u) refl, drop_at u rest (length u) refl, segment_of_run-again u s h) refl

separator-stops : (p : List ℕ) (u : List ℕ) → IsSeparator p → 0 < length p → (b : ℕ) × (p ≡ b ∷ []) × (is_separator b ≡ true) × (stops (p ++ u) ≡ true)
separator-stops p u h1 h2 = grind arith

segments-again : (t : List ℕ) (ss : List Segment) → IsSegments t ss → (k : ℕ) → length t ≤ k → segments_at k t ≡ Some ss
unfolding segments_at
segments-again t ss (last_segment {s = s} h) k fits =
    let long = segment-long t s h in
    let e : k ≡ suc (k - 1) = omega arith in
    let read = rw append-nil at (segment-again t s [] h refl) in
    let whole : segments_at (suc (k - 1)) t ≡ Some (s ∷ []) = rw read refl in
    rw e whole
segments-again t ss (segment_before {t = u} {p = p} {u = others} {s = s} {ss = rest} h sep some more) k fits =
    let long = segment-long u s h in
    let first = separator-stops p others sep some in
    let size = length-append u (p ++ others) in
    let size2 = length-append p others in
    let e : k ≡ suc (k - 1) = omega arith in
    let read = segment-again u s (p ++ others) h first.3 in
    let next = segments-again others rest more (k - 1) (omega arith) in
    let whole : segments_at (suc (k - 1)) (u ++ (p ++ others)) ≡ Some (s ∷ rest) = rw (read, first.1, first.2, next) refl in
    rw e whole

locals-again : (l : List ℕ) (ss : List Segment) → IsLocal l ss → locals_at l ≡ Some ss
locals-again l ss h1 = grind (arith, segments-again, length)

-- the text after a release of a version
pub after-version : (p q d l : List ℕ) (after : Bool) (v : Parts) → IsPre p v.pre after → IsPost after q v.post → IsDev d v.dev → IsLocal l v.locals → AfterRelease (p ++ (q ++ (d ++ l)))
after-version p q d l after v is_p is_q is_d is_l =
    pre-tail p v.pre after (q ++ (d ++ l)) is_p (post-tail after q v.post (d ++ l) is_q (calm-dev d v.dev l is_d (calm-local l v.locals is_l).0))

-- what is in the grammar is read
pub version-again : (t : List ℕ) (v : Parts) → IsVersion t v → version_at t ≡ Some v
unfolding version_at
version-again t v (version {m = m} {e = e} {r = r} {p = p} {q = q} {d = d} {l = l} {after = after} is_m is_e is_r is_p is_q is_d is_l) =
    let local = calm-local l v.locals is_l in
    let tail = calm-dev d v.dev l is_d local.0 in
    let after_pre = post-tail after q v.post (d ++ l) is_q tail in
    let after_r = pre-tail p v.pre after (q ++ (d ++ l)) is_p after_pre in
    let start = epoch-digit e v.epoch (r ++ (p ++ (q ++ (d ++ l)))) is_e (release-digit r v.release (p ++ (q ++ (d ++ l))) is_r) in
    rw (
      mark-again m (e ++ (r ++ (p ++ (q ++ (d ++ l))))) is_m start,
      epoch-again e v.epoch r v.release (p ++ (q ++ (d ++ l))) is_e is_r after_r,
      release-again r v.release (p ++ (q ++ (d ++ l))) is_r after_r,
      pre-again p v.pre after (q ++ (d ++ l)) is_p after_pre,
      post-again after q v.post (d ++ l) is_q tail,
      dev-again d v.dev l is_d local.0 local.1,
      locals-again l v.locals is_l,
    ) refl
