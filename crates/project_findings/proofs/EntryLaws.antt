-- Entries that have their places, that were checked, and that are left.
use Rattle.std.proofs.Common.{◌≡◌, ℕ, ◌+◌, ◌<◌, ◌≤◌, length, get_or, drop, List, [], ◌∷◌, ◌++◌, sym, ap, ◌∙◌, subst, append_assoc}
use Rattle.std.proofs.lemmas.List.{append-nil, at_drop_all, drop_more}
use Rattle.requirement_lines.specs.Character.{Character}
use Rattle.requirement_findings.specs.declared.finding.CheckedText.{CheckedText}
use Rattle.requirement_findings.specs.declared.finding.Finding.{Finding}
use Rattle.project_files.specs.declared.entry.ProjectEntry.{ProjectEntry}
use Rattle.project_files.specs.Entries.{EntryOf}
use Rattle.project_files.specs.Found.{entry_in, entries_in}
use Rattle.project_findings.specs.Places.{Holds, HoldEach, string_of}
use Rattle.project_findings.specs.Places as places
use Rattle.project_findings.specs.Checks.{ChecksEntry, ChecksEntries}
use Rattle.project_findings.specs.Checks as checks
use Rattle.project_findings.specs.declared.places.EntryPlace.{EntryPlace}

-- the places of the entries that are left follow those that were found
pub record Placing (file : List ℕ) (all left : List EntryOf) (found : List EntryPlace) : Type 0 where
  pub goes_on : (others : List EntryPlace) → HoldEach file left others → HoldEach file all (found ++ others)

pub placing_more : {file : List ℕ} {all left after : List EntryOf} {found new : List EntryPlace} (e : EntryOf) (place : EntryPlace)
    → Placing file all left found → left ≡ e ∷ after → Holds file (string_of e) place → new ≡ found ++ (place ∷ []) → Placing file all after new
placing_more {file} {all} {left} {after} {found} {new} e place before begins holds new_is = record {
  goes_on = λ others rest.
      let both : HoldEach file left (place ∷ others) = subst (λ (x : List EntryOf). HoldEach file x (place ∷ others)) (sym begins) (places.more e place after others holds rest) in
      subst (λ (x : List EntryPlace). HoldEach file all x) (sym (append_assoc found (place ∷ []) others) ∙ ap (λ (x : List EntryPlace). x ++ others) (sym new_is)) (before.goes_on (place ∷ others) both);
}

pub placing_ended : {file : List ℕ} {all left : List EntryOf} {found : List EntryPlace} → Placing file all left found → left ≡ [] → HoldEach file all found
placing_ended {file} {all} {left} {found} before ended =
    subst (λ (x : List EntryPlace). HoldEach file all x) (append-nil found) (before.goes_on [] (subst (λ (x : List EntryOf). HoldEach file x []) (sym ended) places.none))

module _ {State : Type 0} (Text : State → List Character → CheckedText → State → Type 0)
    (Finds : List Character → List Finding → Type 0) where
  -- what the entries that are left are checked as follows what was checked
  pub record Checking (first now : State) (all left : List EntryOf) (checked : List CheckedText) : Type 0 where
    pub goes_on : (others : List CheckedText) (last : State) → ChecksEntries Text Finds now left others last → ChecksEntries Text Finds first all (checked ++ others) last

  pub checking_none : (state : State) (es : List EntryOf) → Checking state state es es []
  checking_none state es = record { goes_on = λ others last rest. rest }

  pub checking_more : {first now next : State} {all left after : List EntryOf} {checked new : List CheckedText} (e : EntryOf) (one : CheckedText)
      → Checking first now all left checked → left ≡ e ∷ after → ChecksEntry Text Finds e now one next → new ≡ checked ++ (one ∷ []) → Checking first next all after new
  checking_more {first} {now} {next} {all} {left} {after} {checked} {new} e one before begins check new_is = record {
    goes_on = λ others last rest.
        let both : ChecksEntries Text Finds now left (one ∷ others) last = subst (λ (x : List EntryOf). ChecksEntries Text Finds now x (one ∷ others) last) (sym begins) (checks.more check rest) in
        subst (λ (x : List CheckedText). ChecksEntries Text Finds first all x last) (sym (append_assoc checked (one ∷ []) others) ∙ ap (λ (x : List CheckedText). x ++ others) (sym new_is)) (before.goes_on (one ∷ others) last both);
  }

  pub checking_ended : {first now : State} {all left : List EntryOf} {checked : List CheckedText} → Checking first now all left checked → left ≡ [] → ChecksEntries Text Finds first all checked now
  checking_ended {first} {now} {all} {left} {checked} before ended =
      subst (λ (x : List CheckedText). ChecksEntries Text Finds first all x now) (append-nil checked) (before.goes_on [] now (subst (λ (x : List EntryOf). ChecksEntries Text Finds now x [] now) (sym ended) checks.none))

-- the entries from an index on, and none from the end on
pub entries_begin : (entries : List ProjectEntry) (index : ℕ) (entry : ProjectEntry) → index < length entries → get_or entries index entry ≡ entry → entries_in (drop index entries) ≡ entry_in entry ∷ entries_in (drop (index + 1) entries)
entries_begin entries index entry lt is =
    ap entries_in (drop_more entries index entry lt ∙ ap (λ (x : ProjectEntry). x ∷ drop (index + 1) entries) is)

pub entries_none_left : (entries : List ProjectEntry) (index : ℕ) → length entries ≤ index → entries_in (drop index entries) ≡ []
entries_none_left entries index le = at_drop_all entries_in entries index le
