-- A text has one reading: each part is determined by its place.
use Rattle.std.proofs.Common.{◌≡◌, ℕ, List, [], ◌∷◌, ◌++◌, Option, refl, sym, ap, ◌∙◌, subst, lit<, arith}
use Rattle.std.specs.Str.{chars}
use Rattle.std.proofs.lemmas.Bool.{false≢true}
use Rattle.std.proofs.lemmas.List.Sorted.{ranks_by}
use Rattle.pep440_version.specs.OrderLaws.{version_total}
use Rattle.pep440_specifier.specs.Set.{is_lower}
use Rattle.pep440_specifier.specs.Specifier.{Specifier}
use Rattle.pep440_specifier.proofs.Texts.{one_specifier}
use Rattle.pep508_names.proofs.NameLaws.{normal_form-unique}
use Rattle.pep508_text.specs.Run.{after_space, after_run}
use Rattle.pep508_urls.proofs.ExtrasLaws.{extras_same}
use Rattle.requirement_words.specs.Extras.{IsNameAt, Names, last, more, IsExtras, left_out}
use Rattle.requirement_words.specs.Head.{Asked, nothing, specifiers, url, IsUrl, IsBare, IsAsked, IsHead}
use Rattle.requirement_words.specs.Head as bodies
use Rattle.requirement_words.specs.Specifiers.{Pieces, IsSetOf, IsSpecifiers}
use Rattle.requirement_words.specs.Specifiers as pieces
use Rattle.requirement_words.specs.Tail.{IsTail}
use Rattle.requirement_words.specs.Unnamed.{IsCut, bare, with_extras, IsUnnamedHead}
use Rattle.pep508_text.specs.declared.classes.Class.TheVariants as classes
use Rattle.requirement_words.specs.declared.url.UrlPlace.{UrlPlace}
use Rattle.requirement_words.proofs.Characters.{firsts, tails}
use Rattle.requirement_words.proofs.ExtrasLaws.{closed_name, extras_rest, name_rest}
use Rattle.requirement_words.proofs.HeadLaws.{bare_begins, bare_first, body_at, body_bare, body_enclosed, differ}
use Rattle.requirement_words.proofs.SpecifierLaws.{pieces_rest}
use Rattle.requirement_words.proofs.Stable.{stable_is_unique}

-- ---- extras

name_same : {i a b m n : List ℕ} → IsNameAt i a m → IsNameAt i b n → m ≡ n
name_same {m = m} {n = n} x y = normal_form-unique _ m n x.name y.name

names_same : {i o p : List ℕ} {ns ms : List (List ℕ)} → Names i o ns → Names i p ms → ns ≡ ms
names_same (last x bracket) (last y other) = ap (λ (n : List ℕ). n ∷ []) (name_same x y)
names_same (last {a = a} {output = o} x bracket) (more {a = b} {b = q} y comma others) =
    absurd (firsts 44 93 q o (after_space b) (after_space a) (ap after_space (name_rest y x)) comma bracket (lit< tt))
names_same (more {a = a} {b = q} x comma others) (last {a = b} {output = p} y bracket) =
    absurd (firsts 44 93 q p (after_space a) (after_space b) (ap after_space (name_rest x y)) comma bracket (lit< tt))
names_same (more {a = a} {b = q} {output = o} {ns = ns} x comma h) (more {a = b} {b = r} {n = m} y other g) =
    let same : q ≡ r = tails 44 q r (after_space a) (after_space b) (ap after_space (name_rest x y)) comma other in
    ap (λ (n : List ℕ). n ∷ ns) (name_same x y)
    ∙ ap (λ (l : List (List ℕ)). m ∷ l) (names_same (subst (λ (z : List ℕ). Names z o ns) same h) g)

pub extras_alike : {i o p : List ℕ} {ns ms : List (List ℕ)} → IsExtras i o ns → IsExtras i p ms → ns ≡ ms
extras_alike h1 h2 = grind (arith, false≢true, closed_name, names_same)

pub extras_same_and_rest : (i o p : List ℕ) (ns ms : List (List ℕ)) → IsExtras i o ns → IsExtras i p ms → (o ≡ p) × (ns ≡ ms)
extras_same_and_rest i o p ns ms h g = (extras_rest h g, extras_alike h g)

-- ---- specifiers

pieces_same : {end : ℕ} {i o p : List ℕ} {l m : List Specifier} → Pieces end i o l → Pieces end i p m → l ≡ m
pieces_same (pieces.last {s = s} x rest alone) (pieces.last {s = t} y other lone) = ap (λ (z : Specifier). z ∷ []) (one_specifier _ s t x y)
pieces_same (pieces.last x rest alone) (pieces.more y comma others) =
    absurd (false≢true (sym alone ∙ ap pieces.begins_comma (sym rest ∙ comma)))
pieces_same (pieces.more x comma others) (pieces.last y rest alone) =
    absurd (false≢true (sym alone ∙ ap pieces.begins_comma (sym rest ∙ comma)))
pieces_same {end} {i} {o} (pieces.more {next = n} {s = s} {others = os} x comma h) (pieces.more {next = k} {s = t} y other g) =
    let same : n ≡ k = tails 44 n k (after_run (classes.SpecifierPart end) i) (after_run (classes.SpecifierPart end) i) refl comma other in
    ap (λ (z : Specifier). z ∷ os) (one_specifier _ s t x y)
    ∙ ap (λ (l : List Specifier). t ∷ l) (pieces_same (subst (λ (z : List ℕ). Pieces end z o os) same h) g)

set_same : {list set other : List Specifier} → IsSetOf list set → IsSetOf list other → set ≡ other
set_same {list} {set} {other} x y =
    stable_is_unique is_lower (ranks_by version_total (λ (s : Specifier). s.version)) list set other x.sorted x.stable y.sorted y.stable

specifiers_same : {end : ℕ} {i o p : List ℕ} {set other : List Specifier} → IsSpecifiers end i o set → IsSpecifiers end i p other → set ≡ other
specifiers_same {set = set} x y =
    set_same (subst (λ (l : List Specifier). IsSetOf l set) (pieces_same x.pieces y.pieces) x.is_set) y.is_set

pub specifiers_same_and_rest : (end : ℕ) (i o p : List ℕ) (set other : List Specifier) → IsSpecifiers end i o set → IsSpecifiers end i p other → (o ≡ p) × (set ≡ other)
specifiers_same_and_rest end i o p set other h g = (pieces_rest h.pieces g.pieces, specifiers_same h g)

-- ---- a requirement up to its marker

url_same : {place : UrlPlace} {i o p t u : List ℕ} → IsUrl place i o t → IsUrl place i p u → (o ≡ p) × (t ≡ u)
url_same x y = (sym x.rest ∙ y.rest, x.text_is ∙ sym y.text_is)

body_left_out : {i o : List ℕ} {a : Asked} → IsBare i → IsAsked i o a → (i ≡ o) × (nothing ≡ a)
body_left_out h1 h2 = grind (arith, differ, bare_first, lit<, bare_begins)

body_same : {i o p : List ℕ} {a b : Asked} → IsAsked i o a → IsAsked i p b → (o ≡ p) × (a ≡ b)
body_same (bodies.left_out b) h = body_left_out b h
body_same (bodies.at_url {input = j} u) h =
    let g = body_at j refl h in
    let same = url_same u g.1 in
    (same.0, ap url same.1 ∙ sym g.2)
body_same (bodies.bare begins s) h =
    let g = body_bare begins h in
    (pieces_rest s.pieces g.1.pieces, ap specifiers (specifiers_same s g.1) ∙ sym g.2)
body_same {p = p} (bodies.enclosed {input = j} {output = o} s) h =
    let g = body_enclosed j refl h in
    (tails 41 o p (41 ∷ o) (41 ∷ p) (pieces_rest s.pieces g.1.pieces) refl refl, ap specifiers (specifiers_same s g.1) ∙ sym g.2)

pub head_same : (i o p n m : List ℕ) (ns ms : List (List ℕ)) (a b : Asked) → IsHead i o n ns a → IsHead i p m ms b → (o ≡ p) × (n ≡ m) × (ns ≡ ms) × (a ≡ b)
head_same i o p n m ns ms a b h g =
    let again : IsExtras (after_space g.after_name) h.after_extras ns = subst (λ (x : List ℕ). IsExtras (after_space x) h.after_extras ns) (name_rest h.named g.named) h.extras_are in
    let body = body_same (subst (λ (x : List ℕ). IsAsked (after_space x) o a) (extras_rest again g.extras_are) h.asks.asks) g.asks.asks in
    (body.0, name_same h.named g.named, extras_alike again g.extras_are, body.1)

-- ---- a requirement without a name, up to its marker

cut_same : {given o u v : List ℕ} {ns ms : List (List ℕ)} → IsCut given o u ns → IsCut given o v ms → (u ≡ v) × (ns ≡ ms)
cut_same (bare uncut is no_names) (bare whole same nothing_) = (is ∙ sym same, no_names ∙ sym nothing_)
cut_same {v = v} (bare uncut is no_names) (with_extras more_ s g) = absurd (uncut v more_ s)
cut_same {u = u} (with_extras extras s h) (bare uncut is no_names) = absurd (uncut u extras s)
cut_same {o = o} {ns = ns} (with_extras extras s h) (with_extras more_ t g) =
    let same = extras_same s t in
    (same.0, extras_alike (subst (λ (x : List ℕ). IsExtras (chars x ++ o) o ns) same.1 h) g)

pub unnamed_head_same : (i o p given other u v : List ℕ) (ns ms : List (List ℕ)) → IsUnnamedHead i o given u ns → IsUnnamedHead i p other v ms → (o ≡ p) × (given ≡ other) × (u ≡ v) × (ns ≡ ms)
unnamed_head_same i o p given other u v ns ms h g =
    let same = url_same h.written g.written in
    let cut = cut_same (subst (λ (x : List ℕ). IsCut other x u ns) same.0 (subst (λ (x : List ℕ). IsCut x o u ns) same.1 h.is_cut)) g.is_cut in
    (same.0, same.1, cut.0, cut.1)

-- ---- the end of a requirement

pub tail_same : (rest : List ℕ) (m n : Option (List ℕ)) → IsTail rest m → IsTail rest n → m ≡ n
tail_same rest m n h1 h2 = grind arith
