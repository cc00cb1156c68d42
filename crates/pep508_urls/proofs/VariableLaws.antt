-- Names of variables, and what a text with references becomes.
use Rattle.std.proofs.Common.{◌≡◌, ◌≢◌, ℕ, ◌<◌, true, List, [], ◌∷◌, ◌++◌, length, take, drop, All, refl, sym, ap, ◌∙◌, subst, append_assoc, arith}
use Rattle.std.specs.List.{prefix_len}
use Rattle.std.proofs.lemmas.Bool.Decides.{nat_tests}
use Rattle.std.proofs.lemmas.List.{take_at, drop_at}
use Rattle.std.proofs.lemmas.List.Elements.{All-head, All-tail}
use Rattle.url.proofs.InputLemmas.{prefix_len_at, All-take-prefix_len, IsNot}
use Rattle.pep508_urls.specs.Variables.{is_name_byte, IsVariableName, Expands, nothing, variable, other}

pub name_byte_is_small : (b : ℕ) → is_name_byte b ≡ true → b < 128
name_byte_is_small b h = grind (arith, nat_tests)

-- the name in braces is the longest run of characters of a name
pub run_is_name : (name rest : List ℕ) → IsVariableName name → prefix_len is_name_byte (name ++ (125 ∷ rest)) ≡ length name
run_is_name name rest n = prefix_len_at is_name_byte name (125 ∷ rest) n.each refl

pub name_cut : (name rest : List ℕ) → IsVariableName name → take (prefix_len is_name_byte (name ++ (125 ∷ rest))) (name ++ (125 ∷ rest)) ≡ name
name_cut name rest n = ap (λ (k : ℕ). take k (name ++ (125 ∷ rest))) (run_is_name name rest n) ∙ take_at name (125 ∷ rest) (length name) refl

pub rest_cut : (name rest : List ℕ) → IsVariableName name → drop (prefix_len is_name_byte (name ++ (125 ∷ rest))) (name ++ (125 ∷ rest)) ≡ 125 ∷ rest
rest_cut name rest n = ap (λ (k : ℕ). drop k (name ++ (125 ∷ rest))) (run_is_name name rest n) ∙ drop_at name (125 ∷ rest) (length name) refl

pub run_is_each : (text : List ℕ) → All (λ b. is_name_byte b ≡ true) (take (prefix_len is_name_byte text) text)
run_is_each text = All-take-prefix_len is_name_byte text

-- text without `$` stays
pub expands_behind : {value : List ℕ → List ℕ} (front : List ℕ) {rest expanded : List ℕ} → All (IsNot 36) front → Expands value rest expanded → Expands value (front ++ rest) (front ++ expanded)
expands_behind [] lacks e = e
expands_behind (b ∷ front) lacks e =
    other (λ begins. All-head (IsNot 36) b front lacks (let h = begins.joined in cc)) (expands_behind front (All-tail (IsNot 36) b front lacks) e)

pub expands_itself : {value : List ℕ → List ℕ} (text : List ℕ) → All (IsNot 36) text → Expands value text text
expands_itself [] lacks = nothing
expands_itself (b ∷ text) lacks =
    other (λ begins. All-head (IsNot 36) b text lacks (let h = begins.joined in cc)) (expands_itself text (All-tail (IsNot 36) b text lacks))

-- a reference after text without `$`
pub expands_reference : {value : List ℕ → List ℕ} (front : List ℕ) {text after name behind expanded : List ℕ} → All (IsNot 36) front → text ≡ front ++ (36 ∷ after) → after ≡ 123 ∷ (name ++ (125 ∷ behind)) → IsVariableName name → Expands value behind expanded → Expands value text (front ++ (value name ++ expanded))
expands_reference {value} front {text} {after} {name} {behind} {expanded} lacks joined braces n e =
    subst (λ (x : List ℕ). Expands value x (front ++ (value name ++ expanded))) (sym joined) (expands_behind front lacks (variable n (ap (λ (x : List ℕ). 36 ∷ x) braces) refl e))

-- a `$` that begins no reference, after text without `$`
pub expands_dollar : {value : List ℕ → List ℕ} (front : List ℕ) {text after expanded : List ℕ} → All (IsNot 36) front → text ≡ front ++ (36 ∷ after) → ((name rest : List ℕ) → IsVariableName name → after ≢ 123 ∷ (name ++ (125 ∷ rest))) → Expands value after expanded → Expands value text (front ++ (36 ∷ expanded))
expands_dollar {value} front {text} {after} {expanded} lacks joined none e =
    subst (λ (x : List ℕ). Expands value x (front ++ (36 ∷ expanded))) (sym joined)
    (expands_behind front lacks (other (λ begins. none begins.name begins.rest begins.is_name (let h = begins.joined in cc)) e))

-- what was appended in two steps
pub grown_twice : (old a b tail : List ℕ) {middle new : List ℕ} → middle ≡ old ++ a → new ≡ middle ++ b → old ++ (a ++ (b ++ tail)) ≡ new ++ tail
grown_twice old a b tail h1 h2 = grind (arith, append_assoc)

-- a text with a name in braces at its front has one name there
pub names_same : {name rest other_name more : List ℕ} → IsVariableName name → IsVariableName other_name → name ++ (125 ∷ rest) ≡ other_name ++ (125 ∷ more) → (name ≡ other_name) × (rest ≡ more)
names_same {name} {rest} {other_name} {more} n m e =
    let names : name ≡ other_name = sym (name_cut name rest n) ∙ ap (λ (x : List ℕ). take (prefix_len is_name_byte x) x) e ∙ name_cut other_name more m in
    let rests : 125 ∷ rest ≡ 125 ∷ more = sym (rest_cut name rest n) ∙ ap (λ (x : List ℕ). drop (prefix_len is_name_byte x) x) e ∙ rest_cut other_name more m in
    (names, cc)

-- a text becomes one text
pub expands_same : {value : List ℕ → List ℕ} {text a b : List ℕ} → Expands value text a → Expands value text b → a ≡ b
expands_same nothing nothing = refl
expands_same nothing (variable n e o x) = absurd cc
expands_same (variable n e o x) nothing = absurd cc
expands_same {value} (variable {name = name} {rest = rest} {expanded = expanded} n e o x) (variable {name = other_name} {rest = more} {expanded = further} m f p y) =
    let same = names_same n m (let g = sym e ∙ f in cc) in
    let behind : expanded ≡ further = expands_same x (subst (λ (r : List ℕ). Expands value r further) (sym same.1) y) in
    let names = same.0 in
    o ∙ ap (λ (r : List ℕ). value name ++ r) behind ∙ ap (λ (r : List ℕ). value r ++ further) names ∙ sym p
expands_same (variable {name = name} {rest = rest} n e o x) (other none y) = absurd (none (record { name = name; rest = rest; is_name = n; joined = e }))
expands_same (other none x) (variable {name = name} {rest = rest} n e o y) = absurd (none (record { name = name; rest = rest; is_name = n; joined = e }))
expands_same (other {b = b} none x) (other still y) = ap (λ (r : List ℕ). b ∷ r) (expands_same x y)
