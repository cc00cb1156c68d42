-- Extensions of files, and paths and URLs in place of a name.
use Rattle.std.proofs.Common.{◌≡◌, ◌≢◌, ℕ, suc, ◌+◌, ◌-◌, ◌<◌, min, false, List, [], ◌∷◌, ◌++◌, length, get_or, take, drop, refl, sym, ap, ◌∙◌, subst, arith, length-append, length-drop, ⊎_elim, codes}
use Rattle.std.proofs.lemmas.Bool.{cases_lt, false≢true}
use Rattle.std.proofs.lemmas.List.{take-append-drop, drop_more, drop_at, take_at, get_or_at, get_or-drop, get_or-append-add, length-take}
use Rattle.pep508_urls.specs.Scheme.{SplitsScheme}
use Rattle.pep508_urls.specs.Variables.{Expands}
use Rattle.pep508_urls.proofs.ExtrasLaws.{extras_same}
use Rattle.pep508_urls.proofs.VariableLaws.{expands_same}
use Rattle.requirement_words.specs.Archive.{HasExtension, IsArchive, archive, compressed, is_archive_extension, is_compressed_extension}
use Rattle.requirement_words.specs.Nameless.{NamesNoPackage, IsPathOrUrl, dotted, slashed, backslashed, with_scheme, archived, WithoutExtras, cut, whole}

-- a list is cut at a place by the element there
pub cut_at : (bs : List ℕ) (k c : ℕ) → k < length bs → get_or bs k 0 ≡ c → bs ≡ take k bs ++ (c ∷ drop (k + 1) bs)
cut_at bs k c h1 h2 = grind (arith, take-append-drop, take, drop_more, drop)

pub stands : (bs before rest : List ℕ) (c : ℕ) → bs ≡ before ++ (c ∷ rest) → (length before < length bs) × (get_or bs (length before) 0 ≡ c)
stands bs before rest c h1 = grind (arith, length, length-append, get_or, get_or_at)

-- ---- extensions

not_nil : (x : List ℕ) → 0 < length x → x ≢ []
not_nil x some e = let none : length x ≡ 0 = ap length e in absurd (omega arith)

some_of : (x : List ℕ) → x ≢ [] → 0 < length x
some_of [] h = absurd (h refl)
some_of (b ∷ x) h = omega arith

pub extension_at : (name : List ℕ) (k : ℕ) → k < length name → get_or name k 0 ≡ 46 → ((i : ℕ) → k < i → i < length name → get_or name i 0 ≢ 46) → k ≢ 0
    → HasExtension name (take k name) (drop (k + 1) name)
extension_at name k h1 h2 h3 h4 = grind (arith, not_nil, take, length-take, cut_at, length-drop, get_or-drop, length, min, drop)

-- a dot comes after the first byte
pub extension_dot : {name before extension : List ℕ} → HasExtension name before extension → (length before < length name) × (get_or name (length before) 0 ≡ 46) × (0 < length before)
extension_dot {name} {before} {extension} h =
    let s = stands name before extension 46 h.joined in
    (s.0, s.1, some_of before h.some)

not_before : {name a b e f : List ℕ} → HasExtension name a e → HasExtension name b f → length a < length b → ⊥
not_before {name} {a} {b} {e} {f} h g less =
    let i : ℕ = length b - length a - 1 in
    let place : length b ≡ length a + suc i = omega arith in
    let there = extension_dot g in
    let size : length name ≡ length a + suc (length e) = ap length h.joined ∙ length-append a (46 ∷ e) in
    let inside : length b < length name = there.0 in
    let here : get_or e i 0 ≡ 46 =
    sym (ap (λ (x : List ℕ). get_or x (length b) 0) h.joined ∙ ap (λ (n : ℕ). get_or (a ++ (46 ∷ e)) n 0) place ∙ get_or-append-add a (46 ∷ e) (suc i) 0) ∙ there.1 in
    h.no_dot i (short i place size inside) here
  where
    short : (i : ℕ) → length b ≡ length a + suc i → length name ≡ length a + suc (length e) → length b < length name → i < length e
    short i p s l = omega arith

-- there is one extension
pub extension_same : {name a b e f : List ℕ} → HasExtension name a e → HasExtension name b f → (a ≡ b) × (e ≡ f)
extension_same {name} {a} {b} {e} {f} h g =
    let size : length a ≡ length b = ⊎_elim (λ less. absurd (not_before h g less)) (λ at_least. ⊎_elim (λ more. absurd (not_before g h more)) (λ at_most. omega arith) (cases_lt (length b) (length a))) (cases_lt (length a) (length b)) in
    let front : a ≡ b = sym (take_at a (46 ∷ e) (length a) refl) ∙ ap (take (length a)) (sym h.joined ∙ g.joined) ∙ take_at b (46 ∷ f) (length a) (sym size) in
    let back : 46 ∷ e ≡ 46 ∷ f = sym (drop_at a (46 ∷ e) (length a) refl) ∙ ap (drop (length a)) (sym h.joined ∙ g.joined) ∙ drop_at b (46 ∷ f) (length a) (sym size) in
    (front, ap (drop 1) back)

-- ---- archives

pub no_extension : {name : List ℕ} → ((before extension : List ℕ) → ¬ HasExtension name before extension) → ¬ IsArchive name
no_extension h1 = grind arith

pub other_extension : {name before extension : List ℕ} → HasExtension name before extension → is_archive_extension extension ≡ false → is_compressed_extension extension ≡ false → ¬ IsArchive name
other_extension h e f (archive g is) = false≢true (sym e ∙ ap is_archive_extension (extension_same h g).1 ∙ is)
other_extension h e f (compressed g is tar) = false≢true (sym f ∙ ap is_compressed_extension (extension_same h g).1 ∙ is)

-- what is compressed has the extension `tar` inside
pub inner_tar : {name before extension : List ℕ} → HasExtension name before extension → is_archive_extension extension ≡ false → IsArchive name → (inner : List ℕ) × HasExtension before inner (codes "tar")
inner_tar h e (archive g is) = absurd (false≢true (sym e ∙ ap is_archive_extension (extension_same h g).1 ∙ is))
inner_tar h e (compressed {name = n} g is tar) = (n, subst (λ (x : List ℕ). HasExtension x n (codes "tar")) (sym (extension_same h g).0) tar)

-- ---- paths and URLs

pub first_byte : (text : List ℕ) → get_or text 0 0 ≡ 46 → IsPathOrUrl text
first_byte [] e = absurd cc
first_byte (b ∷ rest) e = dotted (ap (λ (x : ℕ). x ∷ rest) e)

pub neither : {text : List ℕ} → (get_or text 0 0 ≡ 46 → ⊥) → ((k : ℕ) → k < length text → get_or text k 0 ≡ 47 → ⊥) → ((k : ℕ) → k < length text → get_or text k 0 ≡ 92 → ⊥)
    → ((scheme rest : List ℕ) → ¬ SplitsScheme text scheme rest) → IsPathOrUrl text → IsArchive text
neither dot slash back scheme (dotted {rest = r} e) = absurd (dot (ap (λ (x : List ℕ). get_or x 0 0) e))
neither {text} dot slash back scheme (slashed b r e) = let s = stands text b r 47 e in absurd (slash (length b) s.0 s.1)
neither {text} dot slash back scheme (backslashed b r e) = let s = stands text b r 92 e in absurd (back (length b) s.0 s.1)
neither dot slash back scheme (with_scheme {scheme = s} {rest = r} h) = absurd (scheme s r h)
neither dot slash back scheme (archived h) = h

-- ---- what a run comes to

without_same : {text a b : List ℕ} → WithoutExtras text a → WithoutExtras text b → a ≡ b
without_same (cut h e) (cut g f) = e ∙ (extras_same h g).0 ∙ sym f
without_same (cut {before = x} {extras = y} h e) (whole none f) = absurd (none x y h)
without_same (whole none e) (cut {before = x} {extras = y} h f) = absurd (none x y h)
without_same (whole none e) (whole other f) = e ∙ sym f

-- a run comes to one text
pub comes_to : {value : List ℕ → List ℕ} {run expanded rest : List ℕ} → Expands value run expanded → WithoutExtras expanded rest → NamesNoPackage value run → IsPathOrUrl rest
comes_to {rest = rest} expands without n =
    let same = expands_same n.expands expands in
    let here : WithoutExtras _ n.rest = subst (λ (x : List ℕ). WithoutExtras x n.rest) same n.without_extras in
    subst IsPathOrUrl (without_same here without) n.is_one
