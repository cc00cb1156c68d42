-- The rest after an opening character, before the closing one.
use Rattle.std.proofs.Common.{◌≡◌, ◌&&◌, ℕ, Bool, true, false, cond, eqb, not, List, [], ◌∷◌, ◌++◌, refl, sym, ap, ◌∙◌, append_assoc}
use Rattle.std.specs.Char.{is_whitespace}
use Rattle.std.specs.List.{list_all}
use Rattle.std.proofs.lemmas.Bool.{and_from, and_parts, eqb-true, false≢true}
use Rattle.std.proofs.lemmas.List.Folds.{list_all-append}
use Rattle.pep508_text.specs.declared.classes.Class.TheVariants.{Space}
use Rattle.pep508_text.specs.Run.{after_space, run_of, after_run}
use Rattle.pep508_text.proofs.RunLaws.{run_of-after_run, run_all}
use Rattle.pep508_text.specs.Class.{holds}
use Rattle.pep508_text.specs.declared.classes.Class.{Class}

-- the character is not among the characters
abbrev pub is_absent : ℕ → List ℕ → Bool
is_absent c cs = list_all (λ d. not (eqb d c)) cs

-- `left` is the end of a text, and the character is not before it
pub record IsOpen (closing : ℕ) (inside left : List ℕ) : Type 0 where
  pub front : List ℕ
  pub joined : inside ≡ front ++ left
  pub absent : is_absent closing front ≡ true

pub open_start : (c : ℕ) (inside : List ℕ) → IsOpen c inside inside
open_start c inside = record { front = []; joined = refl; absent = refl }

-- a front without the character passes
pub open_past : {c : ℕ} {inside left : List ℕ} (front rest : List ℕ) → IsOpen c inside left → left ≡ front ++ rest → is_absent c front ≡ true → IsOpen c inside rest
open_past {c} front rest o e absent = record {
  front = o.front ++ front;
  joined = o.joined ∙ ap (λ (x : List ℕ). o.front ++ x) e ∙ sym (append_assoc o.front front rest);
  absent = list_all-append (λ d. not (eqb d c)) o.front front ∙ ap (λ (b : Bool). b && is_absent c front) o.absent ∙ absent;
}

-- a character that is not of a kind is not among the characters of that kind
pub absent_of : (f : ℕ → Bool) (c : ℕ) (t : List ℕ) → f c ≡ false → list_all f t ≡ true → is_absent c t ≡ true
absent_of f c [] none all = refl
absent_of f c (d ∷ t) none all =
    let parts = and_parts (f d) (list_all f t) all in
    and_from _ _ (other (eqb d c) refl parts.0) (absent_of f c t none parts.1)
  where
    other : (b : Bool) → eqb d c ≡ b → f d ≡ true → not b ≡ true
    other true e h = absurd (false≢true (sym none ∙ ap f (sym (eqb-true d c e)) ∙ h))
    other false e h = refl

space_all : (cs : List ℕ) → list_all is_whitespace (run_of Space cs) ≡ true
space_all [] = refl
space_all (c ∷ cs) = go (is_whitespace c) refl (space_all cs)
  where
    go : (b : Bool) → is_whitespace c ≡ b → list_all is_whitespace (run_of Space cs) ≡ true → list_all is_whitespace (cond b (c ∷ run_of Space cs) []) ≡ true
    go true e others = and_from _ _ e others
    go false e others = refl

pub open_space : {c : ℕ} {inside left : List ℕ} → is_whitespace c ≡ false → IsOpen c inside left → IsOpen c inside (after_space left)
open_space {c} {inside} {left} dark o =
    open_past (run_of Space left) (after_space left) o (sym (run_of-after_run Space left)) (absent_of is_whitespace c (run_of Space left) dark (space_all left))

pub open_part : {c : ℕ} {inside left : List ℕ} (p : Class) → holds p c ≡ false → IsOpen c inside left → IsOpen c inside (after_run p left)
open_part {c} {inside} {left} p other o =
    open_past (run_of p left) (after_run p left) o (sym (run_of-after_run p left)) (absent_of (holds p) c (run_of p left) other (run_all p left))

pub open_one : {c : ℕ} {inside left : List ℕ} (d : ℕ) (rest : List ℕ) → IsOpen c inside left → left ≡ d ∷ rest → eqb d c ≡ false → IsOpen c inside rest
open_one {c} d rest o e other = open_past (d ∷ []) rest o e (and_from _ _ (ap not other) refl)
