-- What is wrong with entries, from what is known of the others.
use Rattle.std.proofs.Common.{◌≡◌, ℕ, Bool, true, false, List, Result, Ok, Err, refl, sym, ◌∙◌, subst, inl, inr, arith}
use Rattle.std.specs.Prelude.{Option, Some, None, MatchOption, IfOk}
use Rattle.std.proofs.lemmas.Bool.{cases_lt, lt-ltb, le-ltb, false≢true}
use Rattle.pep508_names.specs.Name.{NormalizesTo}
use Rattle.project_files.specs.declared.key.Section.{Section}
use Rattle.project_files.specs.declared.key.Section.TheVariants.{BuildSystem, BuildRequires, Groups, Group, Project, Dependencies, Dynamic, Extras, Extra, RequiresPython}
use Rattle.project_files.specs.declared.entry.ProjectEntry.{ProjectEntry}
use Rattle.project_files.specs.declared.entry.ProjectFaultKind.{ProjectFaultKind}
use Rattle.project_files.specs.declared.entry.ProjectFaultKind.TheVariants.{NoSuchGroup, EndlessGroup}
use Rattle.project_files.specs.declared.entry.Content.TheVariants as contents
use Rattle.project_files.specs.Entries.{EntryOf}
use Rattle.project_files.specs.Found.{content_in, entry_in}
use Rattle.project_files.specs.Groups.{name_of, IsNamed, IsFirst, Means}
use Rattle.project_files.specs.Firsts.{KnowsFirsts}
use Rattle.project_files.specs.Links.{flag, EndedIn}
use Rattle.project_files.specs.Faults.{names_in, JudgesName, repeated, fresh, JudgesInclude, missing, endless, fine, JudgesContent, Judges, repeat_at}
use Rattle.project_files.proofs.LinkLaws.{means_of}
use Rattle.project_files.proofs.EndLaws.{named_head}

pub if_ok : {A E : Type 0} (r : Result A E) (P Q : A → Type 0) → ((x : A) → P x → Q x) → IfOk r P → IfOk r Q
if_ok (Ok x) P Q f h = f x h
if_ok (Err e) P Q f h = h

-- ---- names

named_by : (es : List EntryOf) (section : Section) (place : ℕ) (name n : List ℕ) (o : Option ℕ) → NormalizesTo name n
    → MatchOption o ((k : ℕ) → ¬ IsNamed es section k n) (λ k. IsFirst es section k n) → JudgesName es section place name (repeat_at o place)
named_by es section place name n None normal h = fresh n normal (λ j _. h j)
named_by es section place name n (Some k) normal h = elim (cases_lt k place) [
  | inl below ↦ rw (lt-ltb k place below) (repeated n k normal below h.is_named)
  | inr above ↦ rw (le-ltb k place above) (fresh n normal (λ j before. h.first j (omega (arith, before, above))))
]

pub judged_name : (es : List EntryOf) (section : Section) (place : ℕ) (name n : List ℕ) (found : List ℕ → Option ℕ) (o : Option ℕ) → KnowsFirsts es section found → NormalizesTo name n → o ≡ found n
    → JudgesName es section place name (repeat_at o place)
judged_name es section place name n found o knows normal is =
    named_by es section place name n o normal (subst (λ p. MatchOption p ((k : ℕ) → ¬ IsNamed es section k n) (λ k. IsFirst es section k n)) (sym is) (knows n))

pub names_other : (section : Section) → (section ≡ Group → ⊥) → names_in section ≡ Extra
names_other BuildSystem h = refl
names_other BuildRequires h = refl
names_other Groups h = refl
names_other Group h = absurd (h refl)
names_other Project h = refl
names_other Dependencies h = refl
names_other Dynamic h = refl
names_other Extras h = refl
names_other Extra h = refl
names_other RequiresPython h = refl

pub judges_named : (es : List EntryOf) (k : ℕ) (e : ProjectEntry) (section : Section) (fault : Option ProjectFaultKind) → e.content ≡ contents.Name → names_in e.key.section ≡ section
    → JudgesName es section k (name_of (entry_in e)) fault → Judges es k (entry_in e) fault
judges_named es k e section fault is among h =
    subst (λ content. JudgesContent es k (entry_in e) (content_in content) fault) (sym is)
    (subst (λ s. JudgesName es s k (name_of (entry_in e)) fault) (sym among) h)

-- ---- includes

pub include_missing : (es : List EntryOf) (found : List ℕ → Option ℕ) (name : List ℕ) (o : Option ℕ) → o ≡ None → KnowsFirsts es Group found
    → MatchOption o ((n : List ℕ) → NormalizesTo name n → found n ≡ None) (λ k. (n : List ℕ) × NormalizesTo name n × (found n ≡ Some k)) → JudgesInclude es name (Some NoSuchGroup)
include_missing es found name o is knows h =
    missing (means_of es found name None knows (subst (λ p. MatchOption p ((n : List ℕ) → NormalizesTo name n → found n ≡ None) (λ k. (n : List ℕ) × NormalizesTo name n × (found n ≡ Some k))) is h))

means_at : (es : List EntryOf) (found : List ℕ → Option ℕ) (name : List ℕ) (o : Option ℕ) (q : ℕ) → o ≡ Some q → KnowsFirsts es Group found
    → MatchOption o ((n : List ℕ) → NormalizesTo name n → found n ≡ None) (λ k. (n : List ℕ) × NormalizesTo name n × (found n ≡ Some k)) → Means es name q
means_at es found name o q is knows h =
    means_of es found name (Some q) knows (subst (λ p. MatchOption p ((n : List ℕ) → NormalizesTo name n → found n ≡ None) (λ k. (n : List ℕ) × NormalizesTo name n × (found n ≡ Some k))) is h)

pub include_fine : (es : List EntryOf) (found : List ℕ → Option ℕ) (name : List ℕ) (flags : List Bool) (o : Option ℕ) (q : ℕ) → o ≡ Some q → KnowsFirsts es Group found → EndedIn es flags
    → MatchOption o ((n : List ℕ) → NormalizesTo name n → found n ≡ None) (λ k. (n : List ℕ) × NormalizesTo name n × (found n ≡ Some k)) → flag flags q ≡ true → JudgesInclude es name None
include_fine es found name flags o q is knows ended h set =
    let means = means_at es found name o q is knows h in
    fine q means ((ended.tells q (named_head es q means.0 means.2.is_named)).0 set)

pub include_endless : (es : List EntryOf) (found : List ℕ → Option ℕ) (name : List ℕ) (flags : List Bool) (o : Option ℕ) (q : ℕ) → o ≡ Some q → KnowsFirsts es Group found → EndedIn es flags
    → MatchOption o ((n : List ℕ) → NormalizesTo name n → found n ≡ None) (λ k. (n : List ℕ) × NormalizesTo name n × (found n ≡ Some k)) → flag flags q ≡ false → JudgesInclude es name (Some EndlessGroup)
include_endless es found name flags o q is knows ended h unset =
    let means = means_at es found name o q is knows h in
    endless q means (λ ends. false≢true (sym unset ∙ (ended.tells q (named_head es q means.0 means.2.is_named)).1 ends))
