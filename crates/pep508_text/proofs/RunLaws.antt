-- Runs and white space on lists of characters: each is determined by its list.
use Rattle.std.proofs.Common.{◌≡◌, ℕ, ◌≤◌, Bool, true, false, cond, List, [], ◌∷◌, ◌++◌, length, refl, sym, ap, ◌∙◌, subst, arith}
use Rattle.std.specs.Prelude.{encode_utf8_all}
use Rattle.std.specs.List.{list_all}
use Rattle.std.proofs.lemmas.Bool.{and_from}
use Rattle.std.proofs.lemmas.Str.{encodes_same}
use Rattle.pep508_text.specs.Class.{holds}
use Rattle.pep508_text.specs.Run.{run_of, after_run, after_space, Run, Spaces, none, more}
use Rattle.pep508_text.specs.declared.classes.Class.{Class}
use Rattle.pep508_text.specs.declared.classes.Class.TheVariants.{Space}

-- a character of the class is the run's first, and any other ends the run
pub run_of-holds : (p : Class) (c : ℕ) (cs : List ℕ) → holds p c ≡ true → run_of p (c ∷ cs) ≡ c ∷ run_of p cs
run_of-holds p c cs e = ap (λ b. cond b (c ∷ run_of p cs) []) e

pub run_of-fails : (p : Class) (c : ℕ) (cs : List ℕ) → holds p c ≡ false → run_of p (c ∷ cs) ≡ []
run_of-fails p c cs e = ap (λ b. cond b (c ∷ run_of p cs) []) e

pub after_run-holds : (p : Class) (c : ℕ) (cs : List ℕ) → holds p c ≡ true → after_run p (c ∷ cs) ≡ after_run p cs
after_run-holds p c cs e = ap (λ b. cond b (after_run p cs) (c ∷ cs)) e

pub after_run-fails : (p : Class) (c : ℕ) (cs : List ℕ) → holds p c ≡ false → after_run p (c ∷ cs) ≡ c ∷ cs
after_run-fails p c cs e = ap (λ b. cond b (after_run p cs) (c ∷ cs)) e

-- the run and what follows it are the list
pub run_of-after_run : (p : Class) (cs : List ℕ) → run_of p cs ++ after_run p cs ≡ cs
run_of-after_run p [] = refl
run_of-after_run p (c ∷ cs) = grind (arith, cond, run_of-after_run p cs)

-- to skip twice is to skip once
pub after_run-after_run : (p : Class) (cs : List ℕ) → after_run p (after_run p cs) ≡ after_run p cs
after_run-after_run p [] = refl
after_run-after_run p (c ∷ cs) = grind (arith, cond, after_run-fails, after_run-after_run p cs)

-- all characters of a run are of the class
pub run_all : (p : Class) (cs : List ℕ) → list_all (holds p) (run_of p cs) ≡ true
run_all p [] = refl
run_all p (c ∷ cs) = grind (arith, cond, and_from, run_all p cs)

shorter_than : (p : Class) (cs : List ℕ) → length (after_run p cs) ≤ length cs
shorter_than p [] = omega arith
shorter_than p (c ∷ cs) = grind (arith, length, cond, shorter_than p cs)

-- what begins with no run begins with no character of the class
pub after_run-first : (p : Class) (c : ℕ) (cs t : List ℕ) → after_run p t ≡ t → t ≡ c ∷ cs → holds p c ≡ false
after_run-first p c cs t longest e = go (holds p c) refl
  where
    same : after_run p (c ∷ cs) ≡ c ∷ cs
    same = subst (λ (x : List ℕ). after_run p x ≡ x) e longest

    go : (b : Bool) → holds p c ≡ b → b ≡ false
    go true h =
        let short = shorter_than p cs in
        let size : length (after_run p cs) ≡ length (c ∷ cs) = ap length (sym (after_run-holds p c cs h) ∙ same) in
        absurd (omega arith)
    go false h = refl

pub run_same : {p : Class} {i r s o t : List ℕ} → Run p i r o → Run p i s t → (r ≡ s) × (o ≡ t)
run_same a b = (sym a.run_is ∙ b.run_is, sym a.rest_is ∙ b.rest_is)

-- a run of ASCII characters is known by its bytes, which are then its characters
pub run_from_bytes : {p : Class} {i r o bytes : List ℕ} → bytes ≡ encode_utf8_all (run_of p i) → o ≡ after_run p i → bytes ≡ r → encode_utf8_all r ≡ r → Run p i r o
run_from_bytes bytes_are rest_is e ascii = record { run_is = encodes_same _ _ (sym bytes_are ∙ e ∙ sym ascii); rest_is = sym rest_is }

pub bytes_from_run : {p : Class} {i r o bytes : List ℕ} → bytes ≡ encode_utf8_all (run_of p i) → Run p i r o → encode_utf8_all r ≡ r → bytes ≡ r
bytes_from_run bytes_are run ascii = bytes_are ∙ ap encode_utf8_all run.run_is ∙ ascii

-- a run that is not empty begins with the list's first character, which is of the class
pub run_of-first : (p : Class) (i r : List ℕ) (c : ℕ) → run_of p i ≡ c ∷ r → (j : List ℕ) × (i ≡ c ∷ j) × (holds p c ≡ true)
run_of-first p [] r c e = absurd cc
run_of-first p (d ∷ ds) r c e = go (holds p d) refl e
  where
    go : (b : Bool) → holds p d ≡ b → cond b (d ∷ run_of p ds) [] ≡ c ∷ r → (j : List ℕ) × (d ∷ ds ≡ c ∷ j) × (holds p c ≡ true)
    go true h e = let same : d ≡ c = cc in (ds, ap (λ (x : ℕ). x ∷ ds) same, ap (holds p) (sym same) ∙ h)
    go false h e = absurd cc

pub run_begins : {p : Class} {q c : ℕ} {i r o : List ℕ} → Run p (q ∷ i) (c ∷ r) o → q ≡ c
run_begins {p} {q} {c} {i} {r} a = let h = run_of-first p (q ∷ i) r c a.run_is in let e = h.1 in cc

-- the list begins with no white space
abbrev pub IsTrimmed : List ℕ → Type 0
IsTrimmed i = after_space i ≡ i

pub trimmed_nil : IsTrimmed []
trimmed_nil = refl

pub trimmed_cons : (c : ℕ) (i : List ℕ) → holds Space c ≡ false → IsTrimmed (c ∷ i)
trimmed_cons c i e = after_run-fails Space c i e

pub trimmed_after_space : (i : List ℕ) → IsTrimmed (after_space i)
trimmed_after_space i = after_run-after_run Space i

-- what begins with a run that begins with no white space
pub trimmed_by_run : {p : Class} {i r o : List ℕ} {c : ℕ} → Run p i (c ∷ r) o → holds Space c ≡ false → IsTrimmed i
trimmed_by_run {p} {i} {r} {o} {c} a plain = let h = run_of-first p i r c a.run_is in subst IsTrimmed (sym h.1) (trimmed_cons c h.0 plain)

-- white space may stop anywhere, but if no more follows it stops at one place
pub spaces_same : {i o : List ℕ} → Spaces i o → after_space i ≡ after_space o
spaces_same none = refl
spaces_same (more {c = c} {input = i} {output = o} white s) = after_run-holds Space c i white ∙ spaces_same s

pub spaces_end : {i o : List ℕ} → Spaces i o → IsTrimmed o → after_space i ≡ o
spaces_end s trimmed = spaces_same s ∙ trimmed

pub spaces_all : (i : List ℕ) → Spaces i (after_space i)
spaces_all [] = none
spaces_all (c ∷ cs) = go (holds Space c) refl (spaces_all cs)
  where
    go : (b : Bool) → holds Space c ≡ b → Spaces cs (after_space cs) → Spaces (c ∷ cs) (cond b (after_space cs) (c ∷ cs))
    go true e shorter = more e shorter
    go false e shorter = none

pub spaces_from : {i o : List ℕ} → after_space i ≡ o → Spaces i o
spaces_from {i} e = subst (λ (x : List ℕ). Spaces i x) e (spaces_all i)

pub spaces_then : {i a o : List ℕ} → Spaces i a → Spaces a o → Spaces i o
spaces_then none t = t
spaces_then (more white s) t = more white (spaces_then s t)
