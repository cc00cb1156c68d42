-- Texts of lines, places in them, and what is reported of them.
use Rattle.std.proofs.Common.{◌≡◌, ℕ, ◌+◌, ◌-◌, ◌<◌, ◌≤◌, Bool, true, false, cond, List, [], ◌∷◌, ◌++◌, length, take, get_or, refl, sym, ap, ◌∙◌, subst, append_assoc, arith, length-append}
use Rattle.std.specs.Prelude.{encode_utf8, encode_utf8_all, map, nat_lt, Option, None, Some}
use Rattle.std.specs.Option.{option_map, option_to_list}
use Rattle.std.specs.Char.{len_utf8}
use Rattle.std.specs.Str.{chars}
use Rattle.std.proofs.lemmas.List.{append-nil, map-append, take_more}
use Rattle.std.proofs.lemmas.Bool.{ltb-true, ltb-false}
use Rattle.std.proofs.lemmas.Str.{encodes-append, length-encode, len_utf8_bounds}
use Rattle.requirement_lines.specs.Character.{Character, after, characters_at, start_of, characters}
use Rattle.requirement_lines.specs.Logical.{without_mark}
use Rattle.requirement_lines.specs.Pieces.{characters_of, line_of}
use Rattle.requirement_lines.specs.Reports.{text_of, place_at, Report, report_of, ReportsLine, Reports, none, options, requirement}
use Rattle.requirement_lines.specs.declared.pieces.Piece.{Piece}
use Rattle.requirement_lines.specs.declared.places.Place.{Place}
use Rattle.requirement_lines.specs.declared.places.Source.TheVariants.{File}
use Rattle.requirement_lines.specs.declared.reports.LineReport.{LineReport}
use Rattle.requirement_lines.proofs.PlaceLaws.{after-more, after-zero}
use Rattle.requirement_lines.proofs.LogicalLaws.{no_piece, line_of-append}

-- the characters of a list that was characters
pub chars-characters : (place : Place) (cs : List ℕ) → map (λ (p : Character). p.char) (characters_at place cs) ≡ cs
chars-characters place [] = refl
chars-characters place (c ∷ cs) = ap (λ (x : List ℕ). c ∷ x) (chars-characters (after place (len_utf8 c)) cs)

pub text_of-append : (xs ys : List Character) → text_of (xs ++ ys) ≡ text_of xs ++ text_of ys
text_of-append xs ys = ap encode_utf8_all (map-append (λ (p : Character). p.char) xs ys) ∙ encodes-append (map (λ (p : Character). p.char) xs) (map (λ (p : Character). p.char) ys)

-- a line without a byte has no character
pub text_of-none : (ps : List Character) → length (text_of ps) ≡ 0 → ps ≡ []
text_of-none [] e = refl
text_of-none (p ∷ ps) e = absurd (omega (arith, length-append (encode_utf8 p.char) (text_of ps), length-encode p.char, (len_utf8_bounds p.char).0))

-- the pieces up to one
pub line_of-take : (xs : List Piece) (i : ℕ) → i < length xs → line_of (take (i + 1) xs) ≡ line_of (take i xs) ++ characters_of (get_or xs i no_piece)
line_of-take xs i lt = ap line_of (take_more xs i no_piece lt) ∙ line_of-append (take i xs) (get_or xs i no_piece ∷ []) ∙ ap (λ (x : List Character). line_of (take i xs) ++ x) (append-nil (characters_of (get_or xs i no_piece)))

-- one more piece of a text
pub text_more : (xs : List Piece) (i : ℕ) (bytes old new : List ℕ) → i < length xs → old ≡ text_of (line_of (take i xs)) → bytes ≡ text_of (characters_of (get_or xs i no_piece)) → new ≡ old ++ bytes → new ≡ text_of (line_of (take (i + 1) xs))
text_more xs i bytes old new lt old_is bytes_are new_is =
    new_is ∙ ap (λ (x : List ℕ). x ++ bytes) old_is ∙ ap (λ (x : List ℕ). text_of (line_of (take i xs)) ++ x) bytes_are
    ∙ sym (text_of-append (line_of (take i xs)) (characters_of (get_or xs i no_piece))) ∙ ap text_of (sym (line_of-take xs i lt))

-- ---- places in a line

-- a byte of a piece
pub place-within : (end place : Place) (at : ℕ) (cs : List ℕ) (ps : List Character) → at < length (encode_utf8_all cs) → place_at end (characters_at place cs ++ ps) at ≡ after place at
place-within end place at [] ps lt = absurd (omega arith)
place-within end place at (c ∷ cs) ps lt = go (nat_lt at (len_utf8 c)) refl (place-within (after place (len_utf8 c)) (after place (len_utf8 c)) (at - len_utf8 c) cs ps)
  where
    size : length (encode_utf8 c ++ encode_utf8_all cs) ≡ len_utf8 c + length (encode_utf8_all cs)
    size = length-append (encode_utf8 c) (encode_utf8_all cs) ∙ ap (λ (n : ℕ). n + length (encode_utf8_all cs)) (length-encode c)

    go : (b : Bool) → nat_lt at (len_utf8 c) ≡ b
        → (at - len_utf8 c < length (encode_utf8_all cs) → place_at (after place (len_utf8 c)) (characters_at (after place (len_utf8 c)) cs ++ ps) (at - len_utf8 c) ≡ after (after place (len_utf8 c)) (at - len_utf8 c))
        → cond b (after place at) (place_at (after place (len_utf8 c)) (characters_at (after place (len_utf8 c)) cs ++ ps) (at - len_utf8 c)) ≡ after place at
    go true e shorter = refl
    go false e shorter =
        let behind : len_utf8 c ≤ at = ltb-false at (len_utf8 c) e in
        let sum : len_utf8 c + (at - len_utf8 c) ≡ at = omega arith in
        shorter (omega (arith, size)) ∙ after-more place (len_utf8 c) (at - len_utf8 c) ∙ ap (after place) sum

-- where a piece ends
abbrev pub end_of : Place → Place → List ℕ → Place
end_of end place [] = end
end_of end place (c ∷ cs) = after place (length (encode_utf8_all (c ∷ cs)))

-- a byte after a piece
pub place-behind : (end place : Place) (at : ℕ) (cs : List ℕ) (ps : List Character) → length (encode_utf8_all cs) ≤ at → place_at end (characters_at place cs ++ ps) at ≡ place_at (end_of end place cs) ps (at - length (encode_utf8_all cs))
place-behind end place at [] ps le = ap (place_at end ps) (omega arith)
place-behind end place at (c ∷ cs) ps le = go (nat_lt at (len_utf8 c)) refl (place-behind (after place (len_utf8 c)) (after place (len_utf8 c)) (at - len_utf8 c) cs ps)
  where
    size : length (encode_utf8 c ++ encode_utf8_all cs) ≡ len_utf8 c + length (encode_utf8_all cs)
    size = length-append (encode_utf8 c) (encode_utf8_all cs) ∙ ap (λ (n : ℕ). n + length (encode_utf8_all cs)) (length-encode c)

    ends : (ds : List ℕ) → end_of (after place (len_utf8 c)) (after place (len_utf8 c)) ds ≡ after (after place (len_utf8 c)) (length (encode_utf8_all ds))
    ends [] = sym (after-zero (after place (len_utf8 c)))
    ends (d ∷ ds) = refl

    go : (b : Bool) → nat_lt at (len_utf8 c) ≡ b
        → (length (encode_utf8_all cs) ≤ at - len_utf8 c → place_at (after place (len_utf8 c)) (characters_at (after place (len_utf8 c)) cs ++ ps) (at - len_utf8 c) ≡ place_at (end_of (after place (len_utf8 c)) (after place (len_utf8 c)) cs) ps ((at - len_utf8 c) - length (encode_utf8_all cs)))
        → cond b (after place at) (place_at (after place (len_utf8 c)) (characters_at (after place (len_utf8 c)) cs ++ ps) (at - len_utf8 c)) ≡ place_at (after place (length (encode_utf8 c ++ encode_utf8_all cs))) ps (at - length (encode_utf8 c ++ encode_utf8_all cs))
    go true e shorter = let within : at < len_utf8 c = ltb-true at (len_utf8 c) e in absurd (omega (arith, size))
    go false e shorter =
        let rest : (at - len_utf8 c) - length (encode_utf8_all cs) ≡ at - length (encode_utf8 c ++ encode_utf8_all cs) = omega (arith, size) in
        shorter (omega (arith, size))
        ∙ ap (λ (p : Place). place_at p ps ((at - len_utf8 c) - length (encode_utf8_all cs))) (ends cs ∙ after-more place (len_utf8 c) (length (encode_utf8_all cs)) ∙ ap (after place) (sym size))
        ∙ ap (λ (n : ℕ). place_at (after place (length (encode_utf8 c ++ encode_utf8_all cs))) ps n) rest

pub end_of-none : (end place : Place) (cs : List ℕ) → length (encode_utf8_all cs) ≡ 0 → end_of end place cs ≡ end
end_of-none end place [] e = refl
end_of-none end place (c ∷ cs) e = absurd (omega (arith, length-append (encode_utf8 c) (encode_utf8_all cs), length-encode c, (len_utf8_bounds c).0))

pub end_of-some : (end place : Place) (cs : List ℕ) → 0 < length (encode_utf8_all cs) → end_of end place cs ≡ after place (length (encode_utf8_all cs))
end_of-some end place [] lt = absurd (omega arith)
end_of-some end place (c ∷ cs) lt = refl

-- ---- a byte order mark

pub mark_characters : (text rest : List ℕ) (c : ℕ) → text ≡ encode_utf8 c ++ rest → chars text ≡ c ∷ chars rest → c ≡ 65279 → characters rest ≡ without_mark (characters text)
mark_characters text rest c bytes spelled e =
    let size : length text - len_utf8 c ≡ length rest = omega (arith, ap length bytes, length-append (encode_utf8 c) rest, length-encode c) in
    let whole : characters text ≡ record { char = c; place = start_of text } ∷ characters rest = ap (characters_at (start_of text)) spelled ∙ ap (λ (n : ℕ). record { char = c; place = start_of text } ∷ characters_at (record { to_end = n; source = File }) (chars rest)) size in
    let marked : characters text ≡ record { char = 65279; place = start_of text } ∷ characters rest = whole ∙ ap (λ (n : ℕ). record { char = n; place = start_of text } ∷ characters rest) e in
    sym (ap without_mark marked)

-- ---- what is reported

module _ {Finding : Type 0} where
  -- one more report, or none
  pub reports_pushed : (old new : List (LineReport Finding)) (report : Option (LineReport Finding)) → new ≡ old ++ option_to_list report → map (report_of {Finding = Finding}) new ≡ map (report_of {Finding = Finding}) old ++ option_to_list (option_map (report_of {Finding = Finding}) report)
  reports_pushed old new None e = ap (map (report_of {Finding = Finding})) (e ∙ append-nil old) ∙ sym (append-nil (map (report_of {Finding = Finding}) old))
  reports_pushed old new (Some report) e = ap (map (report_of {Finding = Finding})) e ∙ map-append (report_of {Finding = Finding}) old (report ∷ [])

module _ {State Finding : Type 0} (Finds : State → List ℕ → List Finding → State → Type 0) where
  -- what is reported of lines that are left is reported after what was reported
  pub record Reporting (first now : State) (lines left : List (List Character)) (told : List (Report Finding)) : Type 0 where
    pub goes_on : (more : List (Report Finding)) (last : State) → Reports Finds now left more last → Reports Finds first lines (told ++ more) last

  pub reporting_more : {first now next : State} {lines left : List (List Character)} {told new : List (Report Finding)} (one : List Character) (some : Option (Report Finding))
      → Reporting first now lines (one ∷ left) told → ReportsLine Finds now one some next → new ≡ told ++ option_to_list some → Reporting first next lines left new
  reporting_more {first} {now} {next} {lines} {left} {told} {new} one None t finds new_is = record {
    goes_on = λ more last r.
        subst (λ (x : List (Report Finding)). Reports Finds first lines (x ++ more) last) (sym (new_is ∙ append-nil told)) (t.goes_on more last (options finds.0 (subst (λ x. Reports Finds x left more last) finds.1 r)));
  }
  reporting_more {first} {now} {next} {lines} {left} {told} {new} one (Some found) t finds new_is = record {
    goes_on = λ more last r.
        subst (λ (x : List (Report Finding)). Reports Finds first lines x last) (sym (append_assoc told (found ∷ []) more) ∙ ap (λ (x : List (Report Finding)). x ++ more) (sym new_is)) (t.goes_on (found ∷ more) last (requirement finds.0 finds.1 finds.2 r));
  }

  pub reporting_ended : {first now : State} {lines left : List (List Character)} {told : List (Report Finding)} → Reporting first now lines left told → left ≡ [] → Reports Finds first lines told now
  reporting_ended {first} {now} {lines} {left} {told} t e =
      subst (λ (x : List (Report Finding)). Reports Finds first lines x now) (append-nil told) (t.goes_on [] now (subst (λ x. Reports Finds now x [] now) (sym e) none))
