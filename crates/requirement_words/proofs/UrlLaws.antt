-- The end of a URL, step by step.
use Rattle.std.proofs.Common.{◌≡◌, ℕ, ◌+◌, ◌-◌, ◌≤◌, ◌<◌, Bool, true, false, eqb, cond, not, List, [], ◌∷◌, ◌++◌, length, refl, sym, ap, ◌∙◌, subst, arith, IsUtf8}
use Rattle.std.specs.Prelude.{encode_utf8}
use Rattle.std.specs.Char.{is_whitespace}
use Rattle.std.specs.Str.{chars}
use Rattle.std.proofs.lemmas.Bool.{and_parts, eqb-true, false≢true}
use Rattle.pep508_text.specs.declared.classes.Class.TheVariants.{Space, LineSpace}
use Rattle.pep508_text.specs.Run.{after_space, run_of, after_run}
use Rattle.pep508_text.proofs.RunLaws.{after_run-holds}
use Rattle.pep508_text.specs.Class.{is_line_break, holds}
use Rattle.requirement_words.specs.Url.{after_url, closes, is_url_stop, may_end_before, open_behind, stops, url_of}
use Rattle.requirement_words.specs.declared.url.UrlPlace.{UrlPlace}
use Rattle.requirement_words.proofs.RunLaws.{run_holds, run_fails}
use Rattle.pep508_text.proofs.Splits.{PassedAs, Stopped, none_passed, passed_more, passed_run, stopped, stopped_behind}

url_step : UrlPlace → ℕ → ℕ → List ℕ → Bool → Bool → List ℕ
url_step p n c cs stop close = cond stop [] (c ∷ cond close [] (url_of p (open_behind p c n) cs))

after_step : UrlPlace → ℕ → ℕ → List ℕ → Bool → Bool → List ℕ
after_step p n c cs stop close = cond stop (c ∷ cs) (cond close cs (after_url p (open_behind p c n) cs))

pub url_goes : (p : UrlPlace) (n c : ℕ) (cs : List ℕ) → stops n (c ∷ cs) ≡ false → closes n c cs ≡ false
    → (url_of p n (c ∷ cs) ≡ c ∷ url_of p (open_behind p c n) cs) × (after_url p n (c ∷ cs) ≡ after_url p (open_behind p c n) cs)
unfolding url_step after_step
url_goes p n c cs e f = (
  ap (λ b. url_step p n c cs b (closes n c cs)) e ∙ ap (url_step p n c cs false) f,
  ap (λ b. after_step p n c cs b (closes n c cs)) e ∙ ap (after_step p n c cs false) f,
)

pub url_closes : (p : UrlPlace) (n c : ℕ) (cs : List ℕ) → stops n (c ∷ cs) ≡ false → closes n c cs ≡ true
    → (url_of p n (c ∷ cs) ≡ c ∷ []) × (after_url p n (c ∷ cs) ≡ cs)
unfolding url_step after_step
url_closes p n c cs e f = (
  ap (λ b. url_step p n c cs b (closes n c cs)) e ∙ ap (url_step p n c cs false) f,
  ap (λ b. after_step p n c cs b (closes n c cs)) e ∙ ap (after_step p n c cs false) f,
)

pub url_stops : (p : UrlPlace) (n : ℕ) (t : List ℕ) → stops n t ≡ true → (url_of p n t ≡ []) × (after_url p n t ≡ t)
url_stops p n t h1 = grind arith

-- ---- which it is

pub stops_at_break : (n c : ℕ) (cs : List ℕ) → is_line_break c ≡ true → stops n (c ∷ cs) ≡ true
stops_at_break n c cs e = rw e refl

pub stops_at_space : (n c : ℕ) (cs : List ℕ) → may_end_before n c ≡ true → is_url_stop (after_space cs) ≡ true → stops n (c ∷ cs) ≡ true
stops_at_space n c cs h1 h2 = grind arith

pub goes_on : (n c : ℕ) (cs : List ℕ) → is_line_break c ≡ false → may_end_before n c ≡ false → stops n (c ∷ cs) ≡ false
goes_on n c cs h1 h2 = grind arith

goes_past : (n c : ℕ) (cs : List ℕ) → is_line_break c ≡ false → is_url_stop (after_space cs) ≡ false → stops n (c ∷ cs) ≡ false
goes_past n c cs h1 h2 = grind arith

-- ---- white space that does not end a URL

-- white space is no other character
white_other : (c d : ℕ) → is_whitespace c ≡ true → is_whitespace d ≡ false → eqb c d ≡ false
white_other c d h1 h2 = grind (arith, eqb, false≢true, eqb-true)

white_open : (p : UrlPlace) (c : ℕ) → is_whitespace c ≡ true → open_behind p c 0 ≡ 0
white_open p c h1 = grind (arith, white_other)

white_stays : (c : ℕ) (cs : List ℕ) → is_whitespace c ≡ true → closes 0 c cs ≡ false
white_stays c cs white = rw (white_other c 59 white refl, white_other c 35 white refl) refl

-- one such character
pub white_goes : (p : UrlPlace) (c : ℕ) (cs : List ℕ) → is_whitespace c ≡ true → is_line_break c ≡ false → is_url_stop (after_space cs) ≡ false
    → (url_of p 0 (c ∷ cs) ≡ c ∷ url_of p 0 cs) × (after_url p 0 (c ∷ cs) ≡ after_url p 0 cs)
white_goes p c cs h1 h2 h3 = grind (arith, url_goes, goes_past, white_stays, white_open)

not_true : (b : Bool) → not b ≡ true → b ≡ false
not_true b h1 = grind arith

-- a run of it in one line
pub blank_goes : (p : UrlPlace) (cs : List ℕ) → is_url_stop (after_space cs) ≡ false
    → (url_of p 0 cs ≡ run_of LineSpace cs ++ url_of p 0 (after_run LineSpace cs)) × (after_url p 0 cs ≡ after_url p 0 (after_run LineSpace cs))
blank_goes p [] stays = (refl, refl)
blank_goes p (c ∷ cs) stays = go (holds LineSpace c) refl (λ later. blank_goes p cs later)
  where
    go : (b : Bool) → holds LineSpace c ≡ b
        → (is_url_stop (after_space cs) ≡ false → (url_of p 0 cs ≡ run_of LineSpace cs ++ url_of p 0 (after_run LineSpace cs)) × (after_url p 0 cs ≡ after_url p 0 (after_run LineSpace cs)))
        → (url_of p 0 (c ∷ cs) ≡ run_of LineSpace (c ∷ cs) ++ url_of p 0 (after_run LineSpace (c ∷ cs))) × (after_url p 0 (c ∷ cs) ≡ after_url p 0 (after_run LineSpace (c ∷ cs)))
    go false e again =
        let f = run_fails LineSpace c cs e in
        (sym (ap (λ (x : List ℕ). x ++ url_of p 0 (after_run LineSpace (c ∷ cs))) f.0 ∙ ap (url_of p 0) f.1), sym (ap (after_url p 0) f.1))
    go true e again =
        let parts = and_parts (is_whitespace c) (not (is_line_break c)) e in
        let here : after_space (c ∷ cs) ≡ after_space cs = after_run-holds Space c cs parts.0 in
        let later : is_url_stop (after_space cs) ≡ false = sym (ap is_url_stop here) ∙ stays in
        let step = white_goes p c cs parts.0 (not_true (is_line_break c) parts.1) later in
        let others = again later in
        let f = run_holds LineSpace c cs e in (
          step.0 ∙ ap (λ (x : List ℕ). c ∷ x) others.0 ∙ sym (ap (λ (x : List ℕ). x ++ url_of p 0 (after_run LineSpace (c ∷ cs))) f.0 ∙ ap (λ (x : List ℕ). (c ∷ run_of LineSpace cs) ++ url_of p 0 x) f.1),
          step.1 ∙ others.1 ∙ sym (ap (after_url p 0) f.1),
        )

-- ---- the loop

-- no more brackets are open than characters have passed
pub record Going (place : UrlPlace) (text rest : List ℕ) (n : ℕ) : Type 0 where
  pub passed : PassedAs (url_of place 0) (after_url place 0) (url_of place n) (after_url place n) text rest
  pub room : n + length rest ≤ length text

pub opens_one : (p : UrlPlace) (c n : ℕ) → open_behind p c n ≤ n + 1
opens_one p c n = grind arith

pub going_start : (p : UrlPlace) (text : List ℕ) → IsUtf8 text → Going p text text 0
going_start p text utf8 = record { passed = none_passed (url_of p 0) (after_url p 0) text utf8; room = omega arith }

-- one more character, that ends nothing
pub going_more : (p : UrlPlace) (text rest after : List ℕ) (n m c : ℕ) → IsUtf8 text → Going p text rest n
    → is_line_break c ≡ false → may_end_before n c ≡ false → closes n c (chars after) ≡ false
    → rest ≡ encode_utf8 c ++ after → chars rest ≡ c ∷ chars after → length after < length rest → m ≡ open_behind p c n → Going p text after m
going_more p text rest after n m c utf8 going same_line dark goes bytes characters shorter counted =
    let step = url_goes p n c (chars after) (goes_on n c (chars after) same_line dark) goes in
    let grown = opens_one p c n in
    let room = going.room in
    subst (Going p text after) (sym counted) (record {
      passed = passed_more (url_of p 0) (after_url p 0) (url_of p n) (after_url p n) (url_of p (open_behind p c n)) (after_url p (open_behind p c n)) text rest after c utf8 going.passed bytes characters step.0 step.1;
      room = fits (open_behind p c n) n (length rest) (length after) (length text) grown shorter room;
    })
  where
    fits : (m n a b t : ℕ) → m ≤ n + 1 → b < a → n + a ≤ t → m + b ≤ t
    fits m n a b t e f g = omega arith

-- white space that does not end it, up to the end of its line
pub going_white : (p : UrlPlace) (text rest after run behind : List ℕ) (n c : ℕ) → IsUtf8 text → Going p text rest n
    → is_line_break c ≡ false → may_end_before n c ≡ true → is_url_stop (after_space (chars after)) ≡ false
    → rest ≡ encode_utf8 c ++ after → chars rest ≡ c ∷ chars after → length after < length rest
    → after ≡ run ++ behind → IsUtf8 behind → chars run ≡ run_of LineSpace (chars after) → chars behind ≡ after_run LineSpace (chars after) → length behind ≤ length after
    → Going p text behind n
going_white p text rest after run behind n c utf8 going same_line may stays bytes characters shorter joined behind_utf8 run_is behind_is no_longer =
    let parts = and_parts (eqb n 0) (is_whitespace c) may in
    let none : n ≡ 0 = eqb-true n 0 parts.0 in
    let here : Going p text rest 0 = subst (Going p text rest) none going in
    let step = white_goes p c (chars after) parts.1 same_line stays in
    let blank = blank_goes p (chars after) stays in
    let one = passed_more (url_of p 0) (after_url p 0) (url_of p 0) (after_url p 0) (url_of p 0) (after_url p 0) text rest after c utf8 here.passed bytes characters step.0 step.1 in
    let all = passed_run (url_of p 0) (after_url p 0) (url_of p 0) (after_url p 0) (url_of p 0) (after_url p 0) text after run behind utf8 one joined behind_utf8
    (blank.0 ∙ ap (λ (x : List ℕ). x ++ url_of p 0 (after_run LineSpace (chars after))) (sym run_is) ∙ ap (λ (x : List ℕ). chars run ++ url_of p 0 x) (sym behind_is))
    (blank.1 ∙ ap (after_url p 0) (sym behind_is)) in
    let room = here.room in
    subst (Going p text behind) (sym none) (record { passed = all; room = fits (length rest) (length after) (length behind) (length text) shorter no_longer room })
  where
    fits : (a b d t : ℕ) → b < a → d ≤ b → 0 + a ≤ t → 0 + d ≤ t
    fits a b d t e f g = omega arith

-- the end
pub url_stopped : (p : UrlPlace) (text rest : List ℕ) (n : ℕ) → IsUtf8 text → Going p text rest n → stops n (chars rest) ≡ true → Stopped (url_of p 0) (after_url p 0) text rest
url_stopped p text rest n utf8 going stop =
    let e = url_stops p n (chars rest) stop in
    stopped (url_of p 0) (after_url p 0) (url_of p n) (after_url p n) text rest utf8 going.passed e.0 e.1

pub url_closed : (p : UrlPlace) (text rest after : List ℕ) (n c : ℕ) → IsUtf8 text → Going p text rest n
    → is_line_break c ≡ false → may_end_before n c ≡ false → closes n c (chars after) ≡ true
    → rest ≡ encode_utf8 c ++ after → chars rest ≡ c ∷ chars after → Stopped (url_of p 0) (after_url p 0) text after
url_closed p text rest after n c utf8 going same_line dark close bytes characters =
    let step = url_closes p n c (chars after) (goes_on n c (chars after) same_line dark) close in
    stopped_behind (url_of p 0) (after_url p 0) (url_of p n) (after_url p n) text rest after c utf8 going.passed bytes characters step.0 step.1
