-- What is found in version specifiers, by what was read of them.
use Rattle.std.proofs.Common.{◌≡◌, ◌≢◌, ℕ, List, [], ◌∷◌, length, sym, ◌∙◌, ap, subst}
use Rattle.std.proofs.lemmas.List.{nil_from_length}
use Rattle.std.specs.Str.{chars}
use Rattle.std.proofs.lemmas.Str.{chars-nil}
use Rattle.pep440_specifier.specs.Specifier.{Specifier}
use Rattle.requirement_findings.specs.declared.finding.Finding.{Finding}
use Rattle.requirement_findings.specs.declared.name.FindingName.{FindingName}
use Rattle.requirement_findings.specs.declared.name.FindingName.TheVariants.{InvalidSpecifiers}
use Rattle.requirement_words.specs.Specifiers.{HasNoSpecifiers, IsSpecifiers}
use Rattle.requirement_checks.specs.Findings.{names_of}
use Rattle.requirement_checks.specs.Specifiers.{FindsInSpecifiers, empty, valid, trailing, invalid}

pub none_in_empty : (text : List ℕ) (findings : List Finding) → length text ≡ 0 → findings ≡ [] → FindsInSpecifiers text (names_of findings)
none_in_empty text findings e none = subst (λ (x : List Finding). FindsInSpecifiers text (names_of x)) (sym none) (empty (nil_from_length text e))

pub none_in_valid : (text rest : List ℕ) (set : List Specifier) (findings : List Finding) → IsSpecifiers 59 (chars text) (chars rest) set → length rest ≡ 0 → findings ≡ [] → FindsInSpecifiers text (names_of findings)
none_in_valid text rest set findings p e none =
    let q = subst (λ (r : List ℕ). IsSpecifiers 59 (chars text) r set) (ap chars (nil_from_length rest e) ∙ chars-nil) p in
    subst (λ (x : List Finding). FindsInSpecifiers text (names_of x)) (sym none) (valid q)

pub one_in_trailing : (text rest : List ℕ) (set : List Specifier) (findings : List Finding) → IsSpecifiers 59 (chars text) (chars rest) set → rest ≢ [] → names_of findings ≡ InvalidSpecifiers ∷ [] → FindsInSpecifiers text (names_of findings)
one_in_trailing text rest set findings p more e = subst (λ (n : List FindingName). FindsInSpecifiers text n) (sym e) (trailing p more)

pub one_in_invalid : (text : List ℕ) (findings : List Finding) → HasNoSpecifiers 59 (chars text) → names_of findings ≡ InvalidSpecifiers ∷ [] → FindsInSpecifiers text (names_of findings)
one_in_invalid text findings p e = subst (λ (n : List FindingName). FindsInSpecifiers text n) (sym e) (invalid p)

pub ruleset specifier_findings = (none_in_empty, none_in_valid, one_in_trailing, one_in_invalid)
