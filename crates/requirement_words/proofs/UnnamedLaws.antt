-- URLs of requirements with and without a name.
use Rattle.std.proofs.Common.{◌≡◌, ℕ, ◌<◌, List, [], ◌∷◌, ◌++◌, length, drop, get_or, refl, sym, ap, ◌∙◌, subst, arith, append_assoc, length-append, lit<, IsUtf8}
use Rattle.std.specs.Prelude.{encode_utf8_all}
use Rattle.std.specs.Str.{chars, IsCharBoundary}
use Rattle.std.proofs.lemmas.List.{drop_at, get_or_at}
use Rattle.std.proofs.lemmas.Str.{chars-append, chars-nil, encodes_same, IsCharBoundary-before_ascii, IsUtf8-drop}
use Rattle.pep508_text.specs.Run.{after_space}
use Rattle.pep508_text.specs.Suffix.{IsSuffix}
use Rattle.pep508_urls.specs.Extras.{SplitsExtras}
use Rattle.pep508_urls.proofs.ExtrasLaws.{extras_same}
use Rattle.requirement_words.specs.Extras.{IsExtras}
use Rattle.requirement_words.specs.Head.{IsUrl}
use Rattle.requirement_words.specs.Unnamed.{IsCut, bare, with_extras, IsUnnamedHead}
use Rattle.requirement_words.specs.Url.{url_of, after_url}
use Rattle.requirement_words.specs.declared.url.UrlPlace.{UrlPlace}
use Rattle.requirement_words.specs.declared.url.UrlPlace.TheVariants.{Alone}
use Rattle.requirement_words.proofs.ClosingLaws.{extras_end}
use Rattle.pep508_text.proofs.Splits.{front_is_utf8}

-- a URL without bytes is empty
pub empty_url : (p : UrlPlace) (place text : List ℕ) → text ≡ encode_utf8_all (url_of p 0 place) → text ≡ [] → url_of p 0 place ≡ []
empty_url p place text text_is none = encodes_same _ _ (sym text_is ∙ none)

pub is_url : (p : UrlPlace) (input place rest text : List ℕ) (c : ℕ) (cs : List ℕ) → place ≡ after_space input → text ≡ encode_utf8_all (url_of p 0 place) → chars text ≡ c ∷ cs → rest ≡ after_url p 0 place → IsUrl p (after_space input) rest text
is_url p input place rest text c cs h1 h2 h3 h4 = grind (arith, chars-nil)

pub no_url_alone : (input place text : List ℕ) → place ≡ after_space input → text ≡ encode_utf8_all (url_of Alone 0 place) → text ≡ []
    → (output given url : List ℕ) (names : List (List ℕ)) → ¬ IsUnnamedHead input output given url names
no_url_alone input place text h1 h2 h3 output given url names = grind (arith, encodes_same)

-- ---- the text from the extras on

-- the bracket that opens the extras
pub record IsOpening (place url rest opening : List ℕ) (extras : List ℕ) : Type 0 where
  pub joined : place ≡ url ++ opening
  pub boundary : IsCharBoundary place (length url)
  pub opening_is : drop (length url) place ≡ opening
  pub characters : chars opening ≡ chars extras ++ chars rest
  pub extras_utf8 : IsUtf8 extras
  pub suffix : IsSuffix place opening

pub opening_of : (place given rest url extras : List ℕ) → IsUtf8 place → place ≡ given ++ rest → IsUtf8 rest → SplitsExtras given url extras → IsOpening place url rest (extras ++ rest) extras
opening_of place given rest url extras utf8 joined rest_utf8 s =
    let whole : place ≡ url ++ (extras ++ rest) = joined ∙ ap (λ (x : List ℕ). x ++ rest) s.joined ∙ append_assoc url extras rest in
    let first : extras ++ rest ≡ 91 ∷ ((s.names ++ (93 ∷ [])) ++ rest) = ap (λ (x : List ℕ). x ++ rest) s.bracketed in
    let bytes : place ≡ url ++ (91 ∷ ((s.names ++ (93 ∷ [])) ++ rest)) = whole ∙ ap (λ (x : List ℕ). url ++ x) first in
    let here : get_or place (length url) 0 ≡ 91 = ap (λ (x : List ℕ). get_or x (length url) 0) bytes ∙ get_or_at url 91 ((s.names ++ (93 ∷ [])) ++ rest) 0 (length url) refl in
    let within : length url < length place = omega (arith, ap length bytes, length-append url (91 ∷ ((s.names ++ (93 ∷ [])) ++ rest))) in
    let boundary = IsCharBoundary-before_ascii place (length url) within (subst (λ (x : ℕ). x < 128) (sym here) (lit< tt)) in
    let back : drop (length url) place ≡ extras ++ rest = ap (drop (length url)) whole ∙ drop_at url (extras ++ rest) (length url) refl in
    let opening_utf8 : IsUtf8 (extras ++ rest) = subst IsUtf8 back (IsUtf8-drop place (length url) utf8 boundary) in
    let extras_utf8 : IsUtf8 extras = front_is_utf8 (extras ++ rest) extras rest refl opening_utf8 rest_utf8 in
    record {
      joined = whole;
      boundary = boundary;
      opening_is = back;
      characters = chars-append extras rest extras_utf8;
      extras_utf8 = extras_utf8;
      suffix = record { front = url; joined = whole; utf8 = opening_utf8 };
    }

-- the URL is cut where its extras begin, and they are parsed there
pub cut_by : (given rest url extras opening left : List ℕ) (names : List (List ℕ)) → IsUtf8 extras → SplitsExtras given url extras → chars opening ≡ chars extras ++ chars rest → IsExtras (chars opening) left names → IsCut given (chars rest) url names
cut_by given rest url extras opening left names utf8 s e h =
    let here : IsExtras (chars extras ++ chars rest) left names = subst (λ (x : List ℕ). IsExtras x left names) e h in
    with_extras extras s (subst (λ (x : List ℕ). IsExtras (chars extras ++ chars rest) x names) (extras_end utf8 s here) here)

-- no extras are read there
no_cut : (given output url extras : List ℕ) → SplitsExtras given url extras → ((left : List ℕ) (names : List (List ℕ)) → ¬ IsExtras (chars extras ++ output) left names)
    → (other : List ℕ) (names : List (List ℕ)) → ¬ IsCut given output other names
no_cut given output url extras s h other names (bare none is no_names) = none url extras s
no_cut given output url extras s h other names (with_extras more t g) =
    h output names (subst (λ (x : List ℕ). IsExtras (chars x ++ output) output names) (extras_same t s).1 g)

pub not_cut : (input place given rest url extras opening : List ℕ) → place ≡ after_space input → given ≡ encode_utf8_all (url_of Alone 0 place) → chars rest ≡ after_url Alone 0 place
    → SplitsExtras given url extras → chars opening ≡ chars extras ++ chars rest → ((left : List ℕ) (names : List (List ℕ)) → ¬ IsExtras (chars opening) left names)
    → (output other cut : List ℕ) (names : List (List ℕ)) → ¬ IsUnnamedHead input output other cut names
not_cut input place given rest url extras opening skipped given_is rest_is s e h output other cut names head =
    let same : other ≡ given = head.written.text_is ∙ ap (λ (x : List ℕ). encode_utf8_all (url_of Alone 0 x)) (sym skipped) ∙ sym given_is in
    let end : output ≡ chars rest = sym head.written.rest ∙ ap (after_url Alone 0) (sym skipped) ∙ sym rest_is in
    no_cut given (chars rest) url extras s (λ left names g. h left names (subst (λ (x : List ℕ). IsExtras x left names) (sym e) g)) cut names
    (subst (λ (x : List ℕ). IsCut given x cut names) end (subst (λ (x : List ℕ). IsCut x output cut names) same head.is_cut))
