-- Schemes, and where they are cut.
use Rattle.std.proofs.Common.{◌≡◌, ◌≢◌, ℕ, ◌<◌, true, false, List, ◌∷◌, length, get_or, refl, sym, ap, ◌∙◌, arith, length-append}
use Rattle.std.proofs.lemmas.Bool.{true≢false}
use Rattle.std.proofs.lemmas.Bool.Decides.{nat_tests}
use Rattle.std.proofs.lemmas.List.{get_or_at}
use Rattle.url.specs.Input.{trim_c0_control_and_space, is_c0_control_or_space}
use Rattle.std.specs.Prelude.{Option, Some}
use Rattle.std.proofs.lemmas.Option.{same_Some}
use Rattle.std.proofs.lemmas.List.Elements.{All-from_get_or}
use Rattle.url.specs.Input.{split_once}
use Rattle.url.proofs.InputLemmas.{IsNot, split_once_at}
use Rattle.url.specs.Scheme.{is_scheme_byte}
use Rattle.pep508_urls.specs.Scheme.{IsScheme, SplitsScheme}

pub control_is_small : (b : ℕ) → is_c0_control_or_space b ≡ true → b < 128
control_is_small b h = grind (arith, nat_tests)

-- a scheme has no colon
colon_in_scheme : is_scheme_byte 58 ≡ false
colon_in_scheme = refl

pub scheme_lacks_colon : {scheme : List ℕ} → IsScheme scheme → (i : ℕ) → i < length scheme → get_or scheme i 0 ≢ 58
scheme_lacks_colon s i within e = true≢false (sym (s.whole i 0 within) ∙ ap is_scheme_byte e ∙ colon_in_scheme)

-- a text without a colon has no scheme
pub no_colon : (text : List ℕ) → ((i : ℕ) → i < length (trim_c0_control_and_space text) → get_or (trim_c0_control_and_space text) i 0 ≢ 58) → (scheme rest : List ℕ) → SplitsScheme text scheme rest → ⊥
no_colon text lacks scheme rest s =
    lacks (length scheme) (omega (arith, ap length s.joined, length-append scheme (58 ∷ rest))) (ap (λ (x : List ℕ). get_or x (length scheme) 0) s.joined ∙ get_or_at scheme 58 rest 0 (length scheme) refl)

-- a text has one scheme, with one rest
pub scheme_same : {text scheme rest other more : List ℕ} → SplitsScheme text scheme rest → SplitsScheme text other more → (scheme ≡ other) × (rest ≡ more)
scheme_same {text} {scheme} {rest} {other} {more} s t =
    let one = split_once_at 58 scheme rest (All-from_get_or (IsNot 58) scheme 0 (scheme_lacks_colon s.is_scheme)) in
    let two = split_once_at 58 other more (All-from_get_or (IsNot 58) other 0 (scheme_lacks_colon t.is_scheme)) in
    let same : ◌≡◌ {A = List ℕ × Option (List ℕ)} (scheme, Some rest) (other, Some more) = sym one ∙ ap (split_once 58) (sym s.joined ∙ t.joined) ∙ two in
    (ap (λ (p : List ℕ × Option (List ℕ)). p.0) same, same_Some rest more (ap (λ (p : List ℕ × Option (List ℕ)). p.1) same))
