-- A text that is cut where a front of it ends, for any two functions of characters: one returns the
-- front, and one the rest. They may change on the way, such as with a count of what was seen. A
-- parser that takes characters while they pass keeps `PassedAs`, or `Passed` if they do not change,
-- and has `Stopped` at its end.
use Rattle.std.proofs.Common.{◌≡◌, ℕ, true, false, ◌+◌, ◌-◌, ◌<◌, ◌≤◌, List, [], ◌∷◌, ◌++◌, length, take, drop, refl, sym, ap, ◌∙◌, subst, append_assoc, arith, length-append, IsUtf8}
use Rattle.std.specs.Prelude.{encode_utf8, encode_utf8_all, get_or}
use Rattle.std.specs.Str.{chars, IsCharBoundary}
use Rattle.std.proofs.Math.Seq.{drop-length}
use Rattle.std.proofs.lemmas.List.{append_cancel_right, take_at, take-append-drop, drop_at, drop_more, append-nil}
use Rattle.std.proofs.lemmas.Str.{chars-append, chars-nil, IsUtf8-take, IsUtf8-drop, IsCharBoundary-at_seam, IsCharBoundary-from_take, chars_past_char, IsUtf8-past_char, encode_ascii, encodes-chars}
use Rattle.pep508_text.specs.Class.{holds}
use Rattle.pep508_text.specs.Run.{run_of, after_run}
use Rattle.pep508_text.specs.Suffix.{IsSuffix}
use Rattle.pep508_text.specs.declared.classes.Class.{Class}
use Rattle.pep508_text.proofs.RunLaws.{run_of-holds, run_of-fails, after_run-holds, after_run-fails}

-- if the back of a cut text is a text, so is the front
pub front_is_utf8 : (text front rest : List ℕ) → text ≡ front ++ rest → IsUtf8 text → IsUtf8 rest → IsUtf8 front
front_is_utf8 text front rest e utf8 rest_utf8 =
    let cut = IsUtf8-take text (length front) utf8 (IsCharBoundary-at_seam text front rest e rest_utf8) in
    subst IsUtf8 (ap (take (length front)) e ∙ take_at front rest (length front) refl) cut

-- the characters of a text that is cut
chars_joined : (text front rest : List ℕ) → text ≡ front ++ rest → IsUtf8 text → IsUtf8 rest → chars text ≡ chars front ++ chars rest
chars_joined text front rest e utf8 rest_utf8 = ap chars e ∙ chars-append front rest (front_is_utf8 text front rest e utf8 rest_utf8)

-- the characters of a front and one more
front_and_one : (text front rest after : List ℕ) (c : ℕ) → IsUtf8 text → text ≡ front ++ rest → IsUtf8 rest → rest ≡ encode_utf8 c ++ after → chars rest ≡ c ∷ chars after
    → (text ≡ (front ++ encode_utf8 c) ++ after) × (chars (front ++ encode_utf8 c) ≡ chars front ++ (c ∷ [])) × IsUtf8 after
front_and_one text front rest after c utf8 joined rest_utf8 bytes characters =
    let after_utf8 = IsUtf8-past_char rest after c rest_utf8 bytes in
    let longer = front ++ encode_utf8 c in
    let again : text ≡ longer ++ after = joined ∙ ap (λ (x : List ℕ). front ++ x) bytes ∙ sym (append_assoc front (encode_utf8 c) after) in
    let old : chars text ≡ chars front ++ chars rest = chars_joined text front rest joined utf8 rest_utf8 in
    let new : chars text ≡ chars longer ++ chars after = chars_joined text longer after again utf8 after_utf8 in
    let whole : chars text ≡ (chars front ++ (c ∷ [])) ++ chars after = old ∙ ap (λ (x : List ℕ). chars front ++ x) characters ∙ sym (append_assoc (chars front) (c ∷ []) (chars after)) in
    (again, append_cancel_right (chars longer) (chars front ++ (c ∷ [])) (chars after) (sym new ∙ whole), after_utf8)

module _ (front_of after_front : List ℕ → List ℕ) where
  -- the front passes, and `rest` is still to be looked at, by these functions
  pub record PassedAs (now after_now : List ℕ → List ℕ) (text rest : List ℕ) : Type 0 where
    pub front : List ℕ
    pub joined : text ≡ front ++ rest
    pub run : front_of (chars text) ≡ chars front ++ now (chars rest)
    pub after : after_front (chars text) ≡ after_now (chars rest)
    pub rest_utf8 : IsUtf8 rest

  -- the same, by the functions that it began with
  abbrev pub Passed : List ℕ → List ℕ → Type 0
  Passed = PassedAs front_of after_front

  pub none_passed : (text : List ℕ) → IsUtf8 text → Passed text text
  none_passed text utf8 = record { front = []; joined = refl; run = ap (λ (x : List ℕ). x ++ front_of (chars text)) (sym chars-nil); after = refl; rest_utf8 = utf8 }

  -- one more character passes
  pub passed_more : (now after_now next after_next : List ℕ → List ℕ) (text rest after : List ℕ) (c : ℕ) → IsUtf8 text
      → PassedAs now after_now text rest → rest ≡ encode_utf8 c ++ after → chars rest ≡ c ∷ chars after
      → now (c ∷ chars after) ≡ c ∷ next (chars after) → after_now (c ∷ chars after) ≡ after_next (chars after) → PassedAs next after_next text after
  passed_more now after_now next after_next text rest after c utf8 passed bytes characters run_on after_on =
      let one = front_and_one text passed.front rest after c utf8 passed.joined passed.rest_utf8 bytes characters in
      record {
        front = passed.front ++ encode_utf8 c;
        joined = one.0;
        run = passed.run ∙ ap (λ (x : List ℕ). chars passed.front ++ now x) characters ∙ ap (λ (x : List ℕ). chars passed.front ++ x) run_on ∙ sym (append_assoc (chars passed.front) (c ∷ []) (next (chars after))) ∙ ap (λ (x : List ℕ). x ++ next (chars after)) (sym one.1);
        after = passed.after ∙ ap after_now characters ∙ after_on;
        rest_utf8 = one.2;
      }

  -- one more run passes
  pub passed_run : (now after_now next after_next : List ℕ → List ℕ) (text rest run after : List ℕ) → IsUtf8 text
      → PassedAs now after_now text rest → rest ≡ run ++ after → IsUtf8 after
      → now (chars rest) ≡ chars run ++ next (chars after) → after_now (chars rest) ≡ after_next (chars after) → PassedAs next after_next text after
  passed_run now after_now next after_next text rest run after utf8 passed joined after_utf8 run_on after_on =
      let front_utf8 = front_is_utf8 text passed.front rest passed.joined utf8 passed.rest_utf8 in
      record {
        front = passed.front ++ run;
        joined = passed.joined ∙ ap (λ (x : List ℕ). passed.front ++ x) joined ∙ sym (append_assoc passed.front run after);
        run = passed.run ∙ ap (λ (x : List ℕ). chars passed.front ++ x) run_on ∙ sym (append_assoc (chars passed.front) (chars run) (next (chars after))) ∙ ap (λ (x : List ℕ). x ++ next (chars after)) (sym (chars-append passed.front run front_utf8));
        after = passed.after ∙ after_on;
        rest_utf8 = after_utf8;
      }

  -- what is known when the front ends
  pub record Stopped (text rest : List ℕ) : Type 0 where
    pub front : List ℕ
    pub joined : text ≡ front ++ rest
    pub rest_utf8 : IsUtf8 rest
    pub run : chars front ≡ front_of (chars text)
    pub bytes : front ≡ encode_utf8_all (front_of (chars text))
    pub after : chars rest ≡ after_front (chars text)
    pub boundary : IsCharBoundary text (length text - length rest)
    pub front_is : take (length text - length rest) text ≡ front
    pub rest_is : drop (length text - length rest) text ≡ rest

  ended : (text front rest : List ℕ) → IsUtf8 text → text ≡ front ++ rest → IsUtf8 rest → chars front ≡ front_of (chars text) → chars rest ≡ after_front (chars text) → Stopped text rest
  ended text front rest utf8 joined rest_utf8 run after =
      let len : length text - length rest ≡ length front = omega (arith, ap length joined, length-append front rest) in
      record {
        front = front;
        joined = joined;
        rest_utf8 = rest_utf8;
        run = run;
        bytes = sym (encodes-chars front (front_is_utf8 text front rest joined utf8 rest_utf8)) ∙ ap encode_utf8_all run;
        after = after;
        boundary = subst (IsCharBoundary text) (sym len) (IsCharBoundary-at_seam text front rest joined rest_utf8);
        front_is = ap (λ (n : ℕ). take n text) len ∙ ap (take (length front)) joined ∙ take_at front rest (length front) refl;
        rest_is = ap (λ (n : ℕ). drop n text) len ∙ ap (drop (length front)) joined ∙ drop_at front rest (length front) refl;
      }

  -- before what is left
  pub stopped : (now after_now : List ℕ → List ℕ) (text rest : List ℕ) → IsUtf8 text → PassedAs now after_now text rest
      → now (chars rest) ≡ [] → after_now (chars rest) ≡ chars rest → Stopped text rest
  stopped now after_now text rest utf8 passed none all =
      ended text passed.front rest utf8 passed.joined passed.rest_utf8
      (sym (passed.run ∙ ap (λ (x : List ℕ). chars passed.front ++ x) none ∙ append-nil (chars passed.front)))
      (sym (passed.after ∙ all))

  -- after one more character
  pub stopped_behind : (now after_now : List ℕ → List ℕ) (text rest after : List ℕ) (c : ℕ) → IsUtf8 text → PassedAs now after_now text rest
      → rest ≡ encode_utf8 c ++ after → chars rest ≡ c ∷ chars after
      → now (c ∷ chars after) ≡ c ∷ [] → after_now (c ∷ chars after) ≡ chars after → Stopped text after
  stopped_behind now after_now text rest after c utf8 passed bytes characters last left =
      let one = front_and_one text passed.front rest after c utf8 passed.joined passed.rest_utf8 bytes characters in
      ended text (passed.front ++ encode_utf8 c) after utf8 one.0 one.2
      (one.1 ∙ sym (passed.run ∙ ap (λ (x : List ℕ). chars passed.front ++ now x) characters ∙ ap (λ (x : List ℕ). chars passed.front ++ x) last))
      (sym (passed.after ∙ ap after_now characters ∙ left))

-- what is left of a text that was cut is its end
pub suffix_of : (front : List ℕ) {text rest : List ℕ} → text ≡ front ++ rest → IsUtf8 rest → IsSuffix text rest
suffix_of front joined utf8 = record { front = front; joined = joined; utf8 = utf8 }

-- ---- runs of a class

-- what is left before a byte of ASCII begins with it
ascii_next : (text : List ℕ) (i : ℕ) → i < length text → get_or text i 0 < 128 → IsUtf8 (drop i text)
    → (drop i text ≡ encode_utf8 (get_or text i 0) ++ drop (i + 1) text) × (chars (drop i text) ≡ get_or text i 0 ∷ chars (drop (i + 1) text))
ascii_next text i within ascii utf8 =
    let bytes : drop i text ≡ encode_utf8 (get_or text i 0) ++ drop (i + 1) text = drop_more text i 0 within ∙ ap (λ (x : List ℕ). x ++ drop (i + 1) text) (sym (encode_ascii (get_or text i 0) ascii)) in
    (bytes, chars_past_char (drop i text) (drop (i + 1) text) (get_or text i 0) utf8 bytes)

-- the front before a place where what is left begins
pub front_at : (text front : List ℕ) (i : ℕ) → text ≡ front ++ drop i text → take i text ≡ front
front_at text front i joined = append_cancel_right (take i text) front (drop i text) (take-append-drop i text ∙ joined)

module _ (p : Class) where
  -- one more character of the class passes
  pub passed_in_run : (text rest after : List ℕ) (c : ℕ) → IsUtf8 text → Passed (run_of p) (after_run p) text rest → rest ≡ encode_utf8 c ++ after → chars rest ≡ c ∷ chars after
      → holds p c ≡ true → Passed (run_of p) (after_run p) text after
  passed_in_run text rest after c utf8 passed bytes characters passes = grind (arith, passed_more, run_of-holds, after_run-holds)

  -- a run ends at the end of the text
  pub stopped_at_end : (text rest : List ℕ) → IsUtf8 text → Passed (run_of p) (after_run p) text rest → chars rest ≡ [] → Stopped (run_of p) (after_run p) text rest
  stopped_at_end text rest utf8 passed e = stopped (run_of p) (after_run p) (run_of p) (after_run p) text rest utf8 passed (ap (run_of p) e) (ap (after_run p) e ∙ sym e)

  -- or before a character that is not of the class
  pub stopped_before : (text rest : List ℕ) → IsUtf8 text → Passed (run_of p) (after_run p) text rest → (c : ℕ) (cs : List ℕ) → chars rest ≡ c ∷ cs → holds p c ≡ false
      → Stopped (run_of p) (after_run p) text rest
  stopped_before text rest utf8 passed c cs e fails =
      stopped (run_of p) (after_run p) (run_of p) (after_run p) text rest utf8 passed
      (ap (run_of p) e ∙ run_of-fails p c cs fails)
      (ap (after_run p) e ∙ after_run-fails p c cs fails ∙ sym e)

  -- a byte of ASCII that is of the class passes
  pub passed_ascii : (text : List ℕ) (i : ℕ) → IsUtf8 text → Passed (run_of p) (after_run p) text (drop i text) → i < length text → get_or text i 0 < 128
      → holds p (get_or text i 0) ≡ true → Passed (run_of p) (after_run p) text (drop (i + 1) text)
  passed_ascii text i h1 h2 h3 h4 h5 = grind (arith, ascii_next, passed_in_run, drop)

  -- or the run ends before it
  pub stopped_before_ascii : (text : List ℕ) (i : ℕ) → IsUtf8 text → Passed (run_of p) (after_run p) text (drop i text) → i < length text → get_or text i 0 < 128
      → holds p (get_or text i 0) ≡ false → Stopped (run_of p) (after_run p) text (drop i text)
  stopped_before_ascii text i utf8 passed within ascii fails =
      stopped_before text (drop i text) utf8 passed (get_or text i 0) (chars (drop (i + 1) text)) (ascii_next text i within ascii passed.rest_utf8).1 fails

  -- or at the end of the text
  pub stopped_past_all : (text : List ℕ) (i : ℕ) → IsUtf8 text → Passed (run_of p) (after_run p) text (drop i text) → i ≡ length text
      → Stopped (run_of p) (after_run p) text (drop i text)
  stopped_past_all text i utf8 passed e =
      stopped_at_end text (drop i text) utf8 passed (ap chars (ap (λ (n : ℕ). drop n text) e ∙ drop-length text) ∙ chars-nil)

-- ---- the back of a text

-- if the front of a cut text is a text, so is the back
pub back_is_utf8 : (text front rest : List ℕ) → text ≡ front ++ rest → IsUtf8 text → IsUtf8 front → IsUtf8 rest
back_is_utf8 text front rest e utf8 front_utf8 =
    let fits : length front ≤ length text = omega (arith, ap length e, length-append front rest) in
    let front_is : take (length front) text ≡ front = ap (take (length front)) e ∙ take_at front rest (length front) refl in
    let rest_is : drop (length front) text ≡ rest = ap (drop (length front)) e ∙ drop_at front rest (length front) refl in
    let boundary = IsCharBoundary-from_take text (length front) utf8 fits (subst IsUtf8 (sym front_is) front_utf8) in
    subst IsUtf8 rest_is (IsUtf8-drop text (length front) utf8 boundary)

-- a text that ends in a character ends in its characters too
pub chars-last : (text front : List ℕ) (c : ℕ) → IsUtf8 text → IsUtf8 front → text ≡ front ++ encode_utf8 c → chars text ≡ chars front ++ (c ∷ [])
chars-last text front c utf8 front_utf8 e =
    let last_utf8 = back_is_utf8 text front (encode_utf8 c) e utf8 front_utf8 in
    let alone : chars (encode_utf8 c) ≡ c ∷ chars [] = chars_past_char (encode_utf8 c) [] c last_utf8 (sym (append-nil (encode_utf8 c))) in
    ap chars e ∙ chars-append front (encode_utf8 c) front_utf8 ∙ ap (λ (x : List ℕ). chars front ++ x) (alone ∙ ap (λ (x : List ℕ). c ∷ x) chars-nil)
