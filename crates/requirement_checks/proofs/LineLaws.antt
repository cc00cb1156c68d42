-- What is added to the findings of a line.
use Rattle.std.proofs.Common.{◌≡◌, ℕ, Bool, List, [], ◌∷◌, ◌++◌, Option, refl, sym, ap, ◌∙◌, subst, append_assoc}
use Rattle.std.specs.Prelude.{None, Some, map, All}
use Rattle.std.proofs.lemmas.List.{append-nil, map-append}
use Rattle.std.proofs.lemmas.List.Elements.{All-append, All-cons, All-nil}
use Rattle.requirement_findings.specs.declared.finding.Finding.{Finding}
use Rattle.requirement_findings.specs.declared.name.FindingName.{FindingName}
use Rattle.requirement_lines.specs.Character.{Character}
use Rattle.requirement_lines.specs.Reports.{text_of}
use Rattle.requirement_options.specs.Line.{Said}
use Rattle.pep508_errors.specs.declared.surroundings.Surroundings.{Surroundings}
use Rattle.requirement_options.specs.declared.fault.OptionFault.{OptionFault}
use Rattle.requirement_checks.specs.declared.reading.Form.{Form}
use Rattle.requirement_checks.specs.declared.reading.Form.TheVariants as forms
use Rattle.requirement_checks.specs.Findings.{fault_names, names_of, AddsNames}
use Rattle.requirement_checks.specs.Lines.{requirement_in, Adds, AddsHints, IsHint, IsJudged, IsJudgedIf, IsJudgedIn, IsJudgedOf, StartsFrom}

pub hints_none : (found : List Finding) → AddsHints found found
hints_none found = record { hints = []; hinted = All-nil IsHint; added = sym (append-nil (names_of found)) }

-- names that are added one after another
pub names_more : (first second : List FindingName) (old middle new : List Finding) → AddsNames first old middle → AddsNames second middle new → AddsNames (first ++ second) old new
names_more first second old middle new a b =
    b ∙ ap (λ (x : List FindingName). x ++ second) a ∙ append_assoc (names_of old) first second

pub hints_more : {old middle new : List Finding} → AddsHints old middle → AddsHints middle new → AddsHints old new
hints_more {old} {middle} {new} a b = record {
  hints = a.hints ++ b.hints;
  hinted = All-append IsHint a.hints b.hints a.hinted b.hinted;
  added = names_more a.hints b.hints old middle new a.added b.added;
}

pub hints_one : {old new : List Finding} (finding : Finding) → new ≡ old ++ (finding ∷ []) → IsHint finding.name → AddsHints old new
hints_one {old} {new} finding is hint = record {
  hints = finding.name ∷ [];
  hinted = All-cons IsHint finding.name [] hint (All-nil IsHint);
  added = ap names_of is ∙ map-append (λ (f : Finding). f.name) old (finding ∷ []);
}

-- what is added is of another kind
pub adds_weaker : {old new : List Finding} (P Q : List FindingName → Type 0) (faults : List OptionFault) → ((names : List FindingName) → P names → Q names) → Adds P faults old new → Adds Q faults old new
adds_weaker P Q faults weaker a = record {
  own = a.own;
  hints = a.hints;
  judged = weaker a.own a.judged;
  hinted = a.hinted;
  added = a.added;
}

-- what is wrong with the options, and hints
pub adds_others : (faults : List OptionFault) (judged faulty new : List Finding)
    → AddsNames (fault_names faults) judged faulty → AddsHints faulty new → Adds (λ own. own ≡ []) faults judged new
adds_others faults judged faulty new b c = record {
  own = [];
  hints = c.hints;
  judged = refl;
  hinted = c.hinted;
  added = names_more (fault_names faults) c.hints judged faulty new b c.added;
}

-- what the readers find comes before what is wrong with the options, and hints
pub adds_all : (Own : List FindingName → Type 0) (own : List FindingName) (faults : List OptionFault) (old judged new : List Finding)
    → Own own → AddsNames own old judged → Adds (λ own. own ≡ []) faults judged new → Adds Own faults old new
adds_all Own own faults old judged new is_own a b =
    let others : AddsNames (fault_names faults ++ b.hints) judged new =
    subst (λ (x : List FindingName). AddsNames (x ++ (fault_names faults ++ b.hints)) judged new) b.judged b.added in
    record {
      own = own;
      hints = b.hints;
      judged = is_own;
      hinted = b.hinted;
      added = names_more own (fault_names faults ++ b.hints) old judged new a others;
    }

-- what is found in surroundings that start from the folder
pub adds_from : {old new : List Finding} (folder : List ℕ) (surroundings : Surroundings) (form : Form) (text : List ℕ) (faults : List OptionFault)
    → StartsFrom folder surroundings → Adds (IsJudgedIn surroundings form text) faults old new → Adds (IsJudged folder form text) faults old new
adds_from folder surroundings form text faults starts a =
    adds_weaker (IsJudgedIn surroundings form text) (IsJudged folder form text) faults
    (λ names judged. record { surroundings = surroundings; starts = starts; judged = judged }) a

-- what is found in the requirement of a line
pub adds_line : {old new : List Finding} (folder : List ℕ) (said : Said) (found : List Character × Form) (text : List ℕ) (faults : List OptionFault)
    → requirement_in said ≡ Some found → text ≡ text_of found.0 → Adds (IsJudged folder found.1 text) faults old new → Adds (IsJudgedOf folder said) faults old new
adds_line folder said found text faults says is_text a =
    adds_weaker (IsJudged folder found.1 text) (IsJudgedOf folder said) faults
    (λ names judged. subst (λ (o : Option (List Character × Form)). IsJudgedIf folder o names) (sym says) (subst (λ t. IsJudged folder found.1 t names) is_text judged)) a

-- a line with no requirement has faults of its options alone
pub adds_faults : (folder : List ℕ) (said : Said) (faults : List OptionFault) (old new : List Finding)
    → requirement_in said ≡ None → AddsNames (fault_names faults) old new → Adds (IsJudgedOf folder said) faults old new
adds_faults folder said faults old new says added = record {
  own = [];
  hints = [];
  judged = subst (λ (o : Option (List Character × Form)). IsJudgedIf folder o []) (sym says) refl;
  hinted = All-nil IsHint;
  added = added ∙ ap (λ (x : List FindingName). names_of old ++ x) (sym (append-nil (fault_names faults)));
}

-- what is found in a requirement by itself
pub checked_text : {text shown : List ℕ} {faults : List OptionFault} {old new : List Finding} (folder : List ℕ)
    → Adds (IsJudged folder forms.Named text) faults old new → text ≡ shown → faults ≡ [] → old ≡ [] → Adds (IsJudged folder forms.Named shown) [] [] new
checked_text {text} {shown} {faults} {old} {new} folder a is no_faults none =
    subst (λ (x : List ℕ). Adds (IsJudged folder forms.Named x) [] [] new) is
    (subst (λ (x : List Finding). Adds (IsJudged folder forms.Named text) [] x new) none
    (subst (λ (x : List OptionFault). Adds (IsJudged folder forms.Named text) x old new) no_faults a))
