-- A requirement up to its marker: each part is determined by its place.
use Rattle.std.proofs.Common.{◌≡◌, ◌≢◌, ◌||◌, ◌+◌, ℕ, ◌<◌, Bool, true, false, eqb, not, List, [], ◌∷◌, ◌++◌, inl, inr, length, refl, sym, ap, ◌∙◌, subst, lit<, arith, length-append, append-nil}
use Rattle.std.specs.Prelude.{encode_utf8, encode_utf8_all, ⊤}
use Rattle.std.specs.Char.{is_ascii_alphanumeric}
use Rattle.std.specs.Str.{chars}
use Rattle.std.proofs.lemmas.Bool.{eqb-true, false≢true}
use Rattle.std.proofs.lemmas.List.{nil_from_length}
use Rattle.std.proofs.lemmas.Str.{chars-nil, encode_ascii, encodes_same}
use Rattle.refusal.specs.declared.Refusal.{Refusal}
use Rattle.refusal.specs.declared.Refusal.TheVariants as refusals
use Rattle.pep440_specifier.specs.Specifier.{Specifier}
use Rattle.pep508_text.specs.Class.{holds}
use Rattle.pep508_text.specs.Run.{after_space, run_of, after_run}
use Rattle.pep508_text.specs.declared.classes.Class.TheVariants.{NotSpace}
use Rattle.pep508_text.specs.declared.classes.Class.TheVariants as classes
use Rattle.pep508_text.specs.Suffix.{IsSuffix}
use Rattle.pep508_text.proofs.SuffixLaws.{suffix_then}
use Rattle.pep508_text.proofs.RunLaws.{after_run-first, after_run-after_run}
use Rattle.requirement_words.specs.Archive.{IsArchive}
use Rattle.requirement_words.specs.Extras.{IsNameAt, IsExtras}
use Rattle.requirement_words.specs.Fault.{begins_name, FindsInAsked, FindsInHead, FindsInSpecifiers, IsBehindExtras, IsBroken, IsFaultAt, IsRefused, may_follow_name, Preceded, run_at_name}
use Rattle.requirement_words.specs.Fault as finds
use Rattle.requirement_words.specs.Nameless.{NamesNoPackage}
use Rattle.requirement_words.specs.Head.{Asked, nothing, specifiers, url, IsUrl, begins_specifier, IsBare, ended, marked, IsAsked, left_out, at_url, bare, enclosed, IsAskedIn, IsHead, written_name}
use Rattle.requirement_words.specs.Specifiers.{after_piece, begins_comma, Pieces, last, more, IsSpecifiers}
use Rattle.requirement_words.specs.Url.{url_of, after_url}
use Rattle.requirement_words.specs.declared.fault.Fault.{Fault}
use Rattle.requirement_words.specs.declared.fault.FaultKind.{FaultKind}
use Rattle.requirement_words.specs.declared.fault.FaultKind.TheVariants.{Blank, NoName, NameEnd, NoBody, UnclosedParenthesis, NoUrl, PathWithoutName, UrlWithoutName, ArchiveWithoutName}
use Rattle.requirement_words.specs.declared.url.UrlPlace.TheVariants.{BehindName}
use Rattle.requirement_words.proofs.ExtrasLaws.{name_rest, extras_rest}
use Rattle.requirement_words.proofs.NameEnds.{EndsSeparator}
use Rattle.requirement_words.proofs.SpecifierLaws.{ends_there, last_piece, pieces_rest}

-- a URL
pub url_body : (i behind place rest text : List ℕ) (c : ℕ) (cs : List ℕ) → i ≡ 64 ∷ behind → place ≡ after_space behind → text ≡ encode_utf8_all (url_of BehindName 0 place) → chars text ≡ c ∷ cs → rest ≡ after_url BehindName 0 place → IsAsked i rest (url text)
url_body i behind place rest text c cs e skipped text_is some_ rest_is =
    let here : IsUrl BehindName place rest text = record { text_is = text_is; some = λ none. not_empty (text_is ∙ ap encode_utf8_all none); rest = sym rest_is } in
    let there : IsUrl BehindName (after_space behind) rest text = subst (λ (x : List ℕ). IsUrl BehindName x rest text) skipped here in
    subst (λ (x : List ℕ). IsAsked x rest (url text)) (sym e) (at_url there)
  where
    not_empty : text ≡ [] → ⊥
    not_empty none = let both : [] ≡ c ∷ cs = sym chars-nil ∙ sym (ap chars none) ∙ some_ in absurd cc

pub bare_first : {i : List ℕ} → IsBare i → (c : ℕ) (cs : List ℕ) → i ≡ c ∷ cs → 59 ≡ c
bare_first h1 c cs h2 = grind arith

pub differ : (a b : ℕ) → a ≡ b → a < b → ⊥
differ a b e less = omega arith

-- after `@`
pub body_at : {i o : List ℕ} {a : Asked} (behind : List ℕ) → i ≡ 64 ∷ behind → IsAsked i o a → (text : List ℕ) × IsUrl BehindName (after_space behind) o text × (a ≡ url text)
body_at behind h1 h2 = grind arith

-- after `(`
pub body_enclosed : {i o : List ℕ} {a : Asked} (behind : List ℕ) → i ≡ 40 ∷ behind → IsAsked i o a → (set : List Specifier) × IsSpecifiers 41 (after_space behind) (41 ∷ o) set × (a ≡ specifiers set)
body_enclosed behind h1 h2 = grind arith

pub bare_begins : {i : List ℕ} → IsBare i → begins_specifier i ≡ true → ⊥
bare_begins h1 h2 = grind arith

-- before a specifier
pub body_bare : {i o : List ℕ} {a : Asked} → begins_specifier i ≡ true → IsAsked i o a → (set : List Specifier) × IsSpecifiers 59 i o set × (a ≡ specifiers set)
body_bare b (left_out bare_) = absurd (bare_begins bare_ b)
body_bare b (at_url u) = absurd (false≢true b)
body_bare b (bare {set = set} c s) = (set, s, refl)
body_bare b (enclosed s) = absurd (false≢true b)

-- no requirement begins there
pub no_head_named : (i : List ℕ) → ((o n : List ℕ) → ¬ IsNameAt (after_space i) o n) → (output name : List ℕ) (extras : List (List ℕ)) (asked : Asked) → ¬ IsHead i output name extras asked
no_head_named i h output name extras asked head = h head.after_name name head.named

pub no_head_extras : (i after n : List ℕ) → IsNameAt (after_space i) after n → ((o : List ℕ) (ns : List (List ℕ)) → ¬ IsExtras (after_space after) o ns) → (output name : List ℕ) (extras : List (List ℕ)) (asked : Asked) → ¬ IsHead i output name extras asked
no_head_extras i after n h1 h2 output name extras asked = grind arith

pub no_head_asked : (i after n behind place : List ℕ) (ns : List (List ℕ)) → IsNameAt (after_space i) after n → IsExtras (after_space after) behind ns → place ≡ after_space behind
    → ((o : List ℕ) (a : Asked) → ¬ IsAskedIn i place o a) → (output name : List ℕ) (extras : List (List ℕ)) (asked : Asked) → ¬ IsHead i output name extras asked
no_head_asked i after n behind place ns h1 h2 h3 h4 output name extras asked = grind (arith, name_rest, extras_rest)

-- no URL after `@`
pub no_url : (i behind place text : List ℕ) → i ≡ 64 ∷ behind → place ≡ after_space behind → text ≡ encode_utf8_all (url_of BehindName 0 place) → text ≡ [] → (output : List ℕ) (asked : Asked) → ¬ IsAsked i output asked
no_url i behind place text h1 h2 h3 h4 output asked = grind (arith, body_at, encodes_same)

-- specifiers in parentheses
pub enclosed_body : (i behind place rest output : List ℕ) (set : List Specifier) → i ≡ 40 ∷ behind → place ≡ after_space behind → IsSpecifiers 41 place rest set → rest ≡ 41 ∷ output → IsAsked i output (specifiers set)
enclosed_body i behind place rest output set e skipped s closed =
    let here : IsSpecifiers 41 (after_space behind) rest set = subst (λ (x : List ℕ). IsSpecifiers 41 x rest set) skipped s in
    let there : IsSpecifiers 41 (after_space behind) (41 ∷ output) set = subst (λ (x : List ℕ). IsSpecifiers 41 (after_space behind) x set) closed here in
    subst (λ (x : List ℕ). IsAsked x output (specifiers set)) (sym e) (enclosed there)

pub no_enclosed : (i behind place : List ℕ) → i ≡ 40 ∷ behind → place ≡ after_space behind → ((o : List ℕ) (set : List Specifier) → ¬ IsSpecifiers 41 place o set) → (output : List ℕ) (asked : Asked) → ¬ IsAsked i output asked
no_enclosed i behind place e skipped h output asked b =
    let g = body_enclosed behind e b in
    h (41 ∷ output) g.0 (subst (λ (x : List ℕ). IsSpecifiers 41 x (41 ∷ output) g.0) (sym skipped) g.1)

pub not_closed : (i behind place rest : List ℕ) (set : List Specifier) → i ≡ 40 ∷ behind → place ≡ after_space behind → IsSpecifiers 41 place rest set → ((x : List ℕ) → rest ≢ 41 ∷ x) → (output : List ℕ) (asked : Asked) → ¬ IsAsked i output asked
not_closed i behind place rest set e skipped s open_ output asked b =
    let g = body_enclosed behind e b in
    let here : IsSpecifiers 41 (after_space behind) rest set = subst (λ (x : List ℕ). IsSpecifiers 41 x rest set) skipped s in
    open_ output (pieces_rest here.pieces g.1.pieces)

-- specifiers without parentheses
pub no_bare : (i : List ℕ) → begins_specifier i ≡ true → ((o : List ℕ) (set : List Specifier) → ¬ IsSpecifiers 59 i o set) → (output : List ℕ) (asked : Asked) → ¬ IsAsked i output asked
no_bare i begins h output asked b = let g = body_bare begins b in h output g.0 g.1

-- neither
pub is_bare : (i : List ℕ) (c : ℕ) (cs : List ℕ) → i ≡ c ∷ cs → c ≡ 59 → IsBare i
is_bare i c cs e is =
    let there : IsBare (59 ∷ cs) = marked in
    subst IsBare (ap (λ (x : ℕ). x ∷ cs) (sym is) ∙ sym e) there

pub is_ended : (i : List ℕ) → i ≡ [] → IsBare i
is_ended i e = subst IsBare (sym e) ended

-- the text after a name that is not `@`, a parenthesis or `;` begins a specifier
pub specifier_begins : (i : List ℕ) (c : ℕ) (cs : List ℕ) → i ≡ c ∷ cs → may_follow_name c ≡ true → c ≢ 59
    → ((x : List ℕ) → i ≢ 64 ∷ x) → ((x : List ℕ) → i ≢ 40 ∷ x) → begins_specifier i ≡ true
specifier_begins i c cs h1 h2 h3 h4 h5 = grind arith

-- ---- the place of a URL

pub url_placed : (text place u rest piece : List ℕ) → IsSuffix text place → place ≡ u ++ rest → url u ≡ url piece → IsSuffix text (piece ++ rest)
url_placed text place u rest piece h1 h2 h3 = grind arith

pub url_is_something : (u : List ℕ) → url u ≢ nothing
url_is_something u e = cc

-- ---- a parenthesis that is never closed

-- specifiers go up to what ends them, or to the end
ends_at : {end : ℕ} {i o : List ℕ} {l : List Specifier} (c : ℕ) (cs : List ℕ) → Pieces end i o l → o ≡ c ∷ cs → c ≡ end
ends_at {end} {i} {o} c cs (last s rest alone) e =
    let stops : holds (classes.SpecifierPart end) c ≡ false = after_run-first (classes.SpecifierPart end) c cs (after_run (classes.SpecifierPart end) i) (after_run-after_run (classes.SpecifierPart end) i) (rest ∙ e) in
    eqb-true c end (either (eqb c 44) (eqb c end) stops (sym (ap begins_comma e) ∙ alone))
  where
    either : (x y : Bool) → not (x || y) ≡ false → x ≡ false → y ≡ true
    either x true h f = refl
    either x false h f = absurd (false≢true (sym h ∙ ap (λ (b : Bool). not (b || false)) f))
ends_at c cs (more s comma others) e = ends_at c cs others e

nothing_left : (end : ℕ) (i o : List ℕ) (l : List Specifier) → Pieces end i o l → ((x : List ℕ) → o ≢ end ∷ x) → o ≡ []
nothing_left end i [] l p h = refl
nothing_left end i (c ∷ cs) l p h = absurd (h cs (ap (λ (x : ℕ). x ∷ cs) (ends_at c cs p refl)))

-- ---- faults of versions or URL

-- nothing is before the rest
pub nothing_before : (piece rest : List ℕ) → rest ≡ piece ++ rest → piece ≡ []
nothing_before piece rest e = nil_from_length piece (omega (arith, ap length e, length-append piece rest))

-- no URL follows `@`
pub no_url_there : (text behind : List ℕ) {place piece : List ℕ} → chars text ≡ 64 ∷ chars behind → chars place ≡ after_space (chars behind) → place ≡ piece ++ place → url_of BehindName 0 (chars place) ≡ [] → FindsInAsked (chars text) NoUrl piece place
no_url_there text behind {place} {piece} at skipped joined none_ =
    let there : FindsInAsked (64 ∷ chars behind) NoUrl piece place = finds.no_url (ap chars (sym joined) ∙ skipped) (nothing_before piece place joined) (ap (url_of BehindName 0) (sym skipped) ∙ none_) in
    subst (λ (x : List ℕ). FindsInAsked x NoUrl piece place) (sym at) there

-- the parenthesis itself
pub parenthesis_there : (place : List ℕ) {text behind piece : List ℕ} → chars text ≡ 40 ∷ chars behind → chars place ≡ after_space (chars behind) → text ≡ piece ++ behind → piece ≡ encode_utf8 40
    → ((left : List ℕ) × Preceded 41 (chars place) left × (after_piece 41 left ≡ [])) → FindsInAsked (chars text) UnclosedParenthesis piece behind
parenthesis_there place {text} {behind} {piece} at skipped joined piece_is l =
    let there : FindsInAsked (40 ∷ chars behind) UnclosedParenthesis piece behind = finds.unclosed (ap chars (sym joined) ∙ at) (piece_is ∙ encode_ascii 40 (lit< tt)) (subst (λ (x : List ℕ). Preceded 41 x l.0) skipped l.1) l.2 in
    subst (λ (x : List ℕ). FindsInAsked x UnclosedParenthesis piece behind) (sym at) there

-- a piece that ends before the text does
pub enclosed_fault : (behind : List ℕ) {text place piece : List ℕ} {kind : FaultKind} {left : ℕ} → IsSuffix text place → chars text ≡ 40 ∷ chars behind → chars place ≡ after_space (chars behind)
    → IsFaultAt (FindsInSpecifiers 41 (chars place)) place kind piece left → left ≢ length piece → IsFaultAt (FindsInAsked (chars text)) text kind piece left
enclosed_fault behind {text} {place} {piece} {kind} suffix at skipped f size =
    let some_ : f.place.back ≢ [] = λ e. size (sym f.place.length_is ∙ ap (λ (x : List ℕ). length (piece ++ x)) e ∙ ap length (append-nil piece)) in
    let found : FindsInSpecifiers 41 (after_space (chars behind)) kind piece f.place.back =
    subst (λ (x : List ℕ). FindsInSpecifiers 41 x kind piece f.place.back) skipped f.found in
    record {
      place = record { back = f.place.back; begins = suffix_then suffix f.place.begins; ends = f.place.ends; length_is = f.place.length_is };
      found = subst (λ (x : List ℕ). FindsInAsked x kind piece f.place.back) (sym at) (finds.enclosed found some_);
    }

-- a piece up to the end of the text
pub last_fault : {end : ℕ} {text piece : List ℕ} {kind : FaultKind} {size : ℕ} → IsFaultAt (FindsInSpecifiers end (chars text)) text kind piece size → size ≡ length piece → (left : List ℕ) × Preceded end (chars text) left × (after_piece end left ≡ [])
last_fault h1 h2 = grind (arith, ends_there, nil_from_length, length, length-append)

-- the pieces that nothing closes
pub open_pieces : (place rest : List ℕ) {set : List Specifier} → IsSpecifiers 41 (chars place) (chars rest) set → ((x : List ℕ) → chars rest ≢ 41 ∷ x) → (left : List ℕ) × Preceded 41 (chars place) left × (after_piece 41 left ≡ [])
open_pieces place rest s h =
    let l = last_piece finds.none s.pieces in
    (l.0, l.1, l.2 ∙ nothing_left 41 (chars place) (chars rest) s.list s.pieces h)

-- ---- faults of the whole

-- only white space
pub blank_there : (value : List ℕ → List ℕ) {text after piece : List ℕ} (c : ℕ) → after_space (chars text) ≡ [] → text ≡ piece ++ after → piece ≡ encode_utf8 c → FindsInHead value text Blank piece after
blank_there value c none_ joined is = finds.blank none_ joined (inr (record { c = c; is = is; holds = tt }))

pub blank_at_end : (value : List ℕ → List ℕ) {text piece : List ℕ} → text ≡ [] → after_space (chars text) ≡ [] → piece ≡ [] → FindsInHead value text Blank piece []
blank_at_end value {text} {piece} e none_ piece_is = finds.blank none_ (e ∙ sym piece_is ∙ sym (append-nil piece)) (inl e)

pub run_is : (text start run : List ℕ) → chars start ≡ after_space (chars text) → run ≡ encode_utf8_all (run_of NotSpace (chars start)) → run ≡ run_at_name text
run_is text start run start_is bytes = bytes ∙ ap (λ (x : List ℕ). encode_utf8_all (run_of NotSpace x)) start_is

pub written_is : (text start run : List ℕ) → chars start ≡ after_space (chars text) → run ≡ encode_utf8_all (run_of classes.NamePart (chars start)) → run ≡ written_name (chars text)
written_is text start run start_is bytes = bytes ∙ ap (λ (x : List ℕ). encode_utf8_all (run_of classes.NamePart x)) start_is

-- a path or URL in place of a name
pub path_there : (value : List ℕ → List ℕ) {text start run rest : List ℕ} (c : ℕ) (cs : List ℕ) → chars start ≡ after_space (chars text) → start ≡ run ++ rest → run ≡ encode_utf8_all (run_of NotSpace (chars start))
    → chars start ≡ c ∷ cs → is_ascii_alphanumeric c ≡ false → NamesNoPackage value run → FindsInHead value text PathWithoutName run rest
path_there value {text} {start} {run} c cs start_is cut bytes begins other nameless =
    finds.unnamed_path (ap chars (sym cut) ∙ start_is) (run_is text start run start_is bytes) nameless (ap begins_name (sym start_is ∙ begins) ∙ other)

pub url_there : (value : List ℕ → List ℕ) {text start run rest : List ℕ} → chars start ≡ after_space (chars text) → start ≡ run ++ rest → run ≡ encode_utf8_all (run_of NotSpace (chars start))
    → IsBroken text → NamesNoPackage value run → FindsInHead value text UrlWithoutName run rest
url_there value {text} {start} {run} start_is cut bytes broken_ nameless =
    finds.unnamed_url (ap chars (sym cut) ∙ start_is) (run_is text start run start_is bytes) nameless broken_

pub archive_there : (value : List ℕ → List ℕ) {text start run rest behind : List ℕ} → chars start ≡ after_space (chars text) → start ≡ run ++ rest → run ≡ encode_utf8_all (run_of classes.NamePart (chars start))
    → IsBehindExtras text behind → IsBare behind → IsArchive run → FindsInHead value text ArchiveWithoutName run rest
archive_there value {text} {start} {run} start_is cut bytes extras bare_ is =
    finds.unnamed_archive (ap chars (sym cut) ∙ start_is) (written_is text start run start_is bytes) is extras bare_

pub no_name_there : (value : List ℕ → List ℕ) {text start run after piece : List ℕ} (c : ℕ) → chars start ≡ after_space (chars text) → run ≡ encode_utf8_all (run_of NotSpace (chars start))
    → start ≡ piece ++ after → is_ascii_alphanumeric c ≡ false → ¬ NamesNoPackage value run → piece ≡ encode_utf8 c → FindsInHead value text NoName piece after
no_name_there value {text} {start} {run} c start_is bytes joined other named_ is =
    finds.no_name (ap chars (sym joined) ∙ start_is) (record { c = c; is = is; holds = other }) (λ n. named_ (subst (NamesNoPackage value) (sym (run_is text start run start_is bytes)) n))

pub no_body_there : (value : List ℕ → List ℕ) (start : List ℕ) {text behind run after piece : List ℕ} (c : ℕ) → chars start ≡ after_space (chars text) → run ≡ encode_utf8_all (run_of NotSpace (chars start))
    → IsBehindExtras text (chars behind) → behind ≡ piece ++ after → may_follow_name c ≡ false → ¬ NamesNoPackage value run → piece ≡ encode_utf8 c → FindsInHead value text NoBody piece after
no_body_there value start {text} {behind} {run} c start_is bytes extras joined other named_ is =
    finds.no_body (subst (λ (x : List ℕ). IsBehindExtras text (chars x)) joined extras) (record { c = c; is = is; holds = other }) (λ n. named_ (subst (NamesNoPackage value) (sym (run_is text start run start_is bytes)) n))

-- the name ends with a separator
pub name_end_there : (value : List ℕ → List ℕ) (start : List ℕ) {text run rest piece : List ℕ} → chars start ≡ after_space (chars text) → run_of classes.NamePart (chars start) ≡ chars run → chars rest ≡ after_run classes.NamePart (chars start) → begins_name (chars start) ≡ true
    → (end : EndsSeparator run) → piece ≡ end.c ∷ [] → FindsInHead value text NameEnd piece rest
name_end_there value start start_is run_is_ rest_is begins end is = finds.name_end
    (record { front = end.front; c = end.c; begins = ap begins_name (sym start_is) ∙ begins; ends = ap (run_of classes.NamePart) (sym start_is) ∙ run_is_ ∙ end.characters; is = is ∙ sym (encode_ascii end.c end.ascii); separator = end.separator })
    (rest_is ∙ ap (after_run classes.NamePart) start_is)

-- ---- versions or URL

pub asked_in : (text behind output : List ℕ) (a : Asked) → IsAsked behind output a → a ≢ nothing → IsAskedIn text behind output a
asked_in text behind output a b some_ = record { asks = b; no_archive = λ e. absurd (some_ e) }

pub nothing_in : (text behind output : List ℕ) (a : Asked) → IsBare behind → a ≡ nothing → output ≡ behind → ¬ IsArchive (written_name text) → IsAskedIn text behind output a
nothing_in text behind output a b e f none_ =
    let here : IsAsked behind behind nothing = left_out b in
    record { asks = subst (λ (x : List ℕ). IsAsked behind x a) (sym f) (subst (IsAsked behind behind) (sym e) here); no_archive = λ g. none_ }

-- an archive has versions or a URL
bare_nothing : {i o : List ℕ} {a : Asked} → IsBare i → IsAsked i o a → a ≡ nothing
bare_nothing h1 h2 = grind (arith, differ, bare_first, lit<, bare_begins)

pub not_asked : (text behind : List ℕ) → IsBare behind → IsArchive (written_name text) → (output : List ℕ) (a : Asked) → ¬ IsAskedIn text behind output a
not_asked text behind b is output a h = h.no_archive (bare_nothing b h.asks) is

-- nothing of a requirement begins with the character
pub broken_body : (i : List ℕ) (c : ℕ) (cs : List ℕ) → i ≡ c ∷ cs → may_follow_name c ≡ false → (output : List ℕ) (a : Asked) → ¬ IsAsked i output a
broken_body i c cs h1 h2 output a = grind (arith, false≢true, bare_first, eqb)

pub broken : (text behind : List ℕ) (c : ℕ) (cs : List ℕ) → behind ≡ c ∷ cs → may_follow_name c ≡ false → (output : List ℕ) (a : Asked) → ¬ IsAskedIn text behind output a
broken text behind c cs e other output a h = broken_body behind c cs e other output a h.asks

pub is_broken : (text behind : List ℕ) (c : ℕ) (cs : List ℕ) → IsBehindExtras text behind → behind ≡ c ∷ cs → may_follow_name c ≡ false → IsBroken text
is_broken text behind c cs h e other = record { c = c; others = cs; behind = subst (IsBehindExtras text) e h; no_body = other }

pub not_in : (text behind : List ℕ) → ((o : List ℕ) (a : Asked) → ¬ IsAsked behind o a) → (o : List ℕ) (a : Asked) → ¬ IsAskedIn text behind o a
not_in text behind h o a g = h o a g.asks

-- ---- refusals of the whole

pub refused_with : (F : Fault → Type 0) (P : Type 0) (e : Refusal Fault) → P → IsRefused F ⊤ e → IsRefused F P e
refused_with F P e h1 h2 = grind arith

pub nothing_no_url : (piece : List ℕ) → nothing ≡ url piece → ⊥
nothing_no_url piece e = cc
