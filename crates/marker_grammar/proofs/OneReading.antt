-- A text is parsed in one way: another parse follows the first, part by part.
use Rattle.std.proofs.Common.{◌≡◌, ℕ, List, [], ◌∷◌, Option, None, refl, sym, ap, ◌∙◌, subst}
use Rattle.pep508_text.proofs.RunLaws.{trimmed_by_run, spaces_end}
use Rattle.pep508_errors.specs.declared.warning.MarkerWarningKind.{MarkerWarningKind}
use Rattle.marker_grammar.specs.Formula.{Formula, and_of, or_of}
use Rattle.marker_grammar.specs.Grammar.{Atom, group, comparison, AndRest, no_and, one_and, and, OrRest, no_or, one_or, or, Reads}
use Rattle.marker_grammar.specs.Reading.{Level, ended, After, goes, Before, before}
use Rattle.marker_grammar.proofs.ReadingLaws.{open_on, compare_on, and_on, or_on, close_on, end_on, start_on}

module _ (g : Option Formula) (l : List MarkerWarningKind) where
  -- the other parse is after the same `or`, whose formula may be joined in other steps
  record Behind (outer : List Level) (f : Option Formula) (o : List ℕ) (w : List MarkerWarningKind) : Type 0 where
    ors : Option Formula
    ands : Option Formula
    says : or_of ors ands ≡ f
    after : After outer ors ands o w g l

  mutual
    -- it is after the same atom
    atom_along : {i o : List ℕ} {w x : List MarkerWarningKind} {f : Option Formula} → Atom i w o x f → (outer : List Level) (ors ands : Option Formula) → Before outer ors ands i w g l → After outer ors (and_of ands f) o x g l
    atom_along (comparison c) outer ors ands other = compare_on c other
    atom_along {o = o} {x = x} (group s (or (and inner rest) more) closing) outer ors ands other =
        let outside : Level = record { ors = ors; ands = ands } in
        let b = or_along more (outside ∷ outer) None _ refl (and_along rest (outside ∷ outer) None (atom_along inner (outside ∷ outer) None None (open_on outer ors ands _ _ _ _ g l refl (spaces_end s refl) other))) in
        subst (λ (y : Option Formula). After outer ors (and_of ands y) o x g l) b.says (close_on refl (spaces_end closing refl) b.after)

    and_along : {i o : List ℕ} {w x : List MarkerWarningKind} {f h : Option Formula} → AndRest f i w o x h → (outer : List Level) (ors : Option Formula) → After outer ors f i w g l → After outer ors h o x g l
    and_along no_and outer ors other = other
    and_along (one_and s r atom rest) outer ors other = and_along rest outer ors (atom_along atom outer ors _ (and_on (sym (spaces_end s (trimmed_by_run r refl))) r other))

    or_along : {i o : List ℕ} {w x : List MarkerWarningKind} {f h : Option Formula} → OrRest f i w o x h → (outer : List Level) (ors ands : Option Formula) → or_of ors ands ≡ f → After outer ors ands i w g l → Behind outer h o x
    or_along no_or outer ors ands e other = record { ors = ors; ands = ands; says = e; after = other }
    or_along (one_or {g = h} s r (and atom rest) more) outer ors ands e other =
        or_along more outer (or_of ors ands) h (ap (λ y. or_of y h) e)
        (and_along rest outer (or_of ors ands) (atom_along atom outer (or_of ors ands) None (or_on (sym (spaces_end s (trimmed_by_run r refl))) r other)))

  whole_along : {i : List ℕ} {f : Option Formula} {k : List MarkerWarningKind} → Before [] None None i [] f k → Before [] None None i [] g l → (f ≡ g) × (k ≡ l)
  whole_along (before atom (goes rest more (ended e same kinds))) other =
      let b = or_along more [] None _ refl (and_along rest [] None (atom_along atom [] None None other)) in
      let h = end_on refl (spaces_end e refl) b.after in
      (sym same ∙ sym b.says ∙ h.0, sym kinds ∙ h.1)

pub one_reading : {t : List ℕ} {f g : Option Formula} {k l : List MarkerWarningKind} → Reads t f k → Reads t g l → (f ≡ g) × (k ≡ l)
one_reading {g = g} {l = l} first second = whole_along g l (start_on first) (start_on second)
