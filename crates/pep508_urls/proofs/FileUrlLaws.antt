-- The text of a file URL is accepted by the URL Standard: no byte of it is trimmed, stripped or a
-- mark of a query or a fragment, and an empty host comes before the first slash of the path.
use Rattle.std.proofs.Common.{◌≡◌, ◌≢◌, ℕ, ◌-◌, ◌<◌, ◌≤◌, ◌==◌, Bool, true, false, not, ◌&&◌, ◌||◌, List, [], ◌∷◌, ◌++◌, length, get_or, All, refl, sym, ap, ◌∙◌, subst, arith, None, Some, Ok, ⊎_elim}
use Rattle.std.specs.Prelude.{Option, option_map, codes, reverse, nat_lt}
use Rattle.std.specs.List.{prefix_len, flat_map}
use Rattle.std.proofs.lemmas.Bool.{cond-true, cond-false, cases_Bool, cases_lt, lt-leb}
use Rattle.std.proofs.lemmas.Bool.Decides.{nat_tests}
use Rattle.std.proofs.lemmas.List.{length-reverse, get_or-reverse, take_all}
use Rattle.std.proofs.lemmas.List.Elements.{All-nil, All-cons, All-append, All-weaker}
use Rattle.percent_encoding.specs.AsciiSet.{contains, should_percent_encode}
use Rattle.percent_encoding.specs.Percent.{IsKept, percent_encode}
use Rattle.percent_encoding.proofs.PercentLemmas.{All-percent_encode, IsEscapeByte}
use Rattle.url.specs.Host.{parse_file_host}
use Rattle.url.specs.Input.{is_c0_control_or_space, is_tab_or_new_line, trim_c0_control_and_space, strip_tabs_and_new_lines, split_once}
use Rattle.url.specs.Parser.{Parsed, and_then, parse_url, parse_by_scheme, parse_parts, parse_body, parse_file, leading_slashes, after_file_double_slash, split_scheme, file_with_host, with_path}
use Rattle.url.specs.Parts.{Parts, has_host}
use Rattle.url.specs.Path.{is_windows_drive_letter, parse_path_start}
use Rattle.url.specs.Scheme.{default_port, scheme_type, scheme_len}
use Rattle.url.specs.declared.host.Host.TheVariants.{Domain}
use Rattle.url.specs.declared.scheme.SchemeType.TheVariants.{File}
use Rattle.url.proofs.InputLemmas.{IsNot, Passes, filter_all, split_once_none}
use Rattle.url.proofs.SetLemmas.{checked, passes_from_kept}
use Rattle.pep508_urls.specs.declared.path.TheConstants.{FILE_PART}
use Rattle.pep508_urls.specs.Path.{file_part, file_path, file_text, is_escaped, normalized, parts, stays}
use Rattle.pep508_urls.specs.PathUrl.{IsPathUrl, absolute, normal_url, path_url, with_fragment}

-- ---- which bytes are escaped

same_tests : (a b : Bool) → ((a && b) || (not a && not b)) ≡ true → a ≡ b
same_tests a b h1 = grind arith

listed : (b : ℕ) → b < 128 → contains FILE_PART b ≡ is_escaped b
listed b ascii = same_tests _ _ (checked (λ x. (contains FILE_PART x && is_escaped x) || (not (contains FILE_PART x) && not (is_escaped x))) 128 refl b ascii)

pub escapes_listed : (b : ℕ) → should_percent_encode FILE_PART b ≡ is_escaped b
unfolding should_percent_encode
escapes_listed b = ⊎_elim (λ small. within small) (λ large. beyond large) (cases_lt b 128)
  where
    within : b < 128 → should_percent_encode FILE_PART b ≡ is_escaped b
    within small = rw (listed b small) (grind (arith, nat_tests))

    beyond : 128 ≤ b → should_percent_encode FILE_PART b ≡ is_escaped b
    beyond large = grind (arith, nat_tests)

-- ---- no byte of the text is trimmed, stripped or a mark

-- no control, no space, and no mark of a query or a fragment
abbrev pub IsPlain : ℕ → Type 0
IsPlain b = (32 < b) × ((b ≢ 35) × (b ≢ 63))

abbrev is_plain : ℕ → Bool
is_plain b = nat_lt 32 b && not (b == 35) && not (b == 63)

plain_from_test : (b : ℕ) → is_plain b ≡ true → IsPlain b
plain_from_test b passes = (grind (arith, nat_tests), (λ e. grind (arith, nat_tests), λ e. grind (arith, nat_tests)))

kept_is_plain : (b : ℕ) → IsKept FILE_PART b → IsPlain b
kept_is_plain b kept = plain_from_test b (passes_from_kept FILE_PART is_plain refl b kept)

escape_is_plain : (b : ℕ) → IsEscapeByte b → IsPlain b
escape_is_plain b h1 = grind arith

part_is_plain : (part : List ℕ) → All IsPlain (file_part part)
part_is_plain part = ⊎_elim dropped written (cases_Bool (stays part))
  where
    dropped : stays part ≡ true → All IsPlain (file_part part)
    dropped s = subst (All IsPlain) (sym (cond-true _ _ _ s)) (All-nil IsPlain)

    written : stays part ≡ false → All IsPlain (file_part part)
    written s =
        subst (All IsPlain) (sym (cond-false _ _ _ s))
        (All-cons IsPlain 47 (percent_encode FILE_PART part) (plain_from_test 47 refl) (All-percent_encode IsPlain FILE_PART part kept_is_plain escape_is_plain))

parts_are_plain : (all : List (List ℕ)) → All IsPlain (flat_map file_part all)
parts_are_plain [] = All-nil IsPlain
parts_are_plain (part ∷ all) = All-append IsPlain (file_part part) (flat_map file_part all) (part_is_plain part) (parts_are_plain all)

none_at_front : (xs : List ℕ) → (0 < length xs → 32 < get_or xs 0 0) → prefix_len is_c0_control_or_space xs ≡ 0
none_at_front [] first = refl
none_at_front (x ∷ xs) first = cond-false _ _ _ (lt-leb x 32 (first (omega arith)))

untrimmed : (xs : List ℕ) → All IsPlain xs → trim_c0_control_and_space xs ≡ xs
unfolding trim_c0_control_and_space
untrimmed xs plain =
    let start = none_at_front xs (λ inside. (plain 0 0 inside).0) in
    let len = length-reverse xs in
    let end = none_at_front (reverse xs) (λ inside. subst (λ (b : ℕ). 32 < b) (sym (get_or-reverse xs 0 0 (omega arith))) (plain (length xs - 1 - 0) 0 (omega arith)).0) in
    rw (start, end) (take_all _ xs (omega arith))

unstripped : (xs : List ℕ) → All IsPlain xs → strip_tabs_and_new_lines xs ≡ xs
unfolding strip_tabs_and_new_lines
unstripped xs plain =
    filter_all _ xs (All-weaker IsPlain (Passes (λ b. not (is_tab_or_new_line b))) (λ b p. let above = p.0 in grind (arith, nat_tests)) xs plain)

-- ---- the text is read

-- the URL of a path that begins with a slash
abbrev pub file_url : List ℕ → Parts
file_url body = with_path (file_with_host (Domain [])) (parse_path_start File [] body)

body_is_read : (rest : List ℕ) → parse_by_scheme (split_scheme (codes "file://" ++ (47 ∷ rest))) None (codes "file://" ++ (47 ∷ rest)) None None ≡ Ok (file_url (47 ∷ rest))
unfolding parse_parts parse_body parse_file leading_slashes after_file_double_slash split_scheme is_windows_drive_letter parse_file_host default_port scheme_type scheme_len
body_is_read rest = refl

rooted_is_read : (rest : List ℕ) → All IsPlain (47 ∷ rest) → parse_url None (codes "file://" ++ (47 ∷ rest)) ≡ Ok (file_url (47 ∷ rest))
unfolding parse_url
rooted_is_read rest plain =
    let text : List ℕ = codes "file://" ++ (47 ∷ rest) in
    let front : All IsPlain (codes "file://") = All-cons IsPlain 102 (codes "ile://") (plain_from_test 102 refl) (All-cons IsPlain 105 (codes "le://") (plain_from_test 105 refl) (All-cons IsPlain 108 (codes "e://") (plain_from_test 108 refl) (All-cons IsPlain 101 (codes "://") (plain_from_test 101 refl) (All-cons IsPlain 58 (codes "//") (plain_from_test 58 refl) (All-cons IsPlain 47 (codes "/") (plain_from_test 47 refl) (All-cons IsPlain 47 [] (plain_from_test 47 refl) (All-nil IsPlain))))))) in
    let whole : All IsPlain text = All-append IsPlain (codes "file://") (47 ∷ rest) front plain in
    let clean : strip_tabs_and_new_lines (trim_c0_control_and_space text) ≡ text = ap strip_tabs_and_new_lines (untrimmed text whole) ∙ unstripped text whole in
    let hash : split_once 35 (strip_tabs_and_new_lines (trim_c0_control_and_space text)) ≡ (text, None) = ap (split_once 35) clean ∙ split_once_none 35 text (All-weaker IsPlain (IsNot 35) (λ b p. p.1.0) text whole) in
    let question : split_once 63 (split_once 35 (strip_tabs_and_new_lines (trim_c0_control_and_space text))).0 ≡ (text, None) = ap (λ (r : List ℕ × Option (List ℕ)). split_once 63 r.0) hash ∙ split_once_none 63 text (All-weaker IsPlain (IsNot 63) (λ b p. p.1.1) text whole) in
    (λ i. parse_by_scheme (split_scheme (question i).0) None (question i).0 (question i).1 (hash i).1) ∙ body_is_read rest

-- what is written of a path begins with a slash
abbrev Begins : List (List ℕ) → Type 0
Begins all = (rest : List ℕ) × (flat_map file_part all ≡ 47 ∷ rest)

abbrev IsWritten : List (List ℕ) → Type 0
IsWritten all = (length (flat_map file_part all) == 0) ≡ false

begins_later : (part : List ℕ) (all : List (List ℕ)) → (IsWritten all → Begins all) → stays part ≡ true → IsWritten (part ∷ all) → Begins (part ∷ all)
begins_later part all h1 h2 h3 = grind arith

begins_here : (part : List ℕ) (all : List (List ℕ)) → stays part ≡ false → Begins (part ∷ all)
begins_here part all s = (percent_encode FILE_PART part ++ flat_map file_part all, ap (λ (x : List ℕ). x ++ flat_map file_part all) (cond-false _ _ _ s))

begins : (all : List (List ℕ)) → IsWritten all → Begins all
begins [] some = absurd cc
begins (part ∷ all) some =
    ⊎_elim (λ s. begins_later part all (λ more. begins all more) s some) (λ s. begins_here part all s) (cases_Bool (stays part))

-- the URL that a text is read as, which has no host
abbrev pub Reads : List ℕ → Type 0
Reads text = (url : Parts) × (parse_url None text ≡ Ok url) × (url.scheme ≡ codes "file") × (has_host url ≡ false)

pub file_text_reads : (path : List ℕ) → Reads (file_text path)
file_text_reads path = ⊎_elim bare written (cases_Bool (length (file_path path) == 0))
  where
    bare : (length (file_path path) == 0) ≡ true → Reads (file_text path)
    bare none =
        let text : file_text path ≡ codes "file://" ++ (47 ∷ []) = ap (λ (x : List ℕ). codes "file://" ++ x) (cond-true _ _ _ none) in
        let plain : All IsPlain (47 ∷ []) = All-cons IsPlain 47 [] (plain_from_test 47 refl) (All-nil IsPlain) in
        (file_url (47 ∷ []), ap (parse_url None) text ∙ rooted_is_read [] plain, refl, refl)

    written : (length (file_path path) == 0) ≡ false → Reads (file_text path)
    written some =
        let front = begins (parts path) some in
        let text : file_text path ≡ codes "file://" ++ (47 ∷ front.0) = ap (λ (x : List ℕ). codes "file://" ++ x) (cond-false _ _ _ some ∙ front.1) in
        let plain : All IsPlain (47 ∷ front.0) = subst (All IsPlain) front.1 (parts_are_plain (parts path)) in
        (file_url (47 ∷ front.0), ap (parse_url None) text ∙ rooted_is_read front.0 plain, refl, refl)

-- a path that can be normalized has a URL
pub whole_path_has_a_url : (whole normal : List ℕ) → normalized whole ≡ Some normal → (url : Parts) × (path_url whole ≡ Some (Ok url))
whole_path_has_a_url whole normal e =
    let cut = split_once 35 normal in
    let read = file_text_reads cut.0 in
    (with_fragment read.0 cut.1, ap (option_map normal_url) e ∙ ap (λ (r : Parsed Parts). Some (and_then r (λ url. Ok (with_fragment url cut.1)))) read.1)

pub path_has_url : (base : Option (List ℕ)) (path whole normal : List ℕ) → absolute base path ≡ Some whole → normalized whole ≡ Some normal → (url : Parts) × IsPathUrl base path url
path_has_url base path whole normal h1 h2 = grind (arith, whole_path_has_a_url)
