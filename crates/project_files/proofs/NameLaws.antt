-- The first group or extra of each name, as entries are read.
use Rattle.std.proofs.lemmas.List.{length-map}
use Rattle.std.proofs.Common.{◌≡◌, ℕ, ◌+◌, ◌<◌, ◌≤◌, true, false, List, length, refl, sym, ap, ◌∙◌, subst, inl, inr, arith, below_more, slice_get, get_or, cond, option_map, nat_cmp, is_eq}
use Rattle.std.specs.Cmp.Lexicographic.{slice_cmp}
use Rattle.std.specs.Prelude.{Option, Some, None, MatchOption, IsSomeAnd, is_some, bytes_eq}
use Rattle.std.proofs.lemmas.Bool.{cases_Bool, cases_lt, false≢true}
use Rattle.std.proofs.lemmas.Map.Text.{is_eq-slice_cmp}
use Rattle.std.proofs.lemmas.Option.{slice_get_past, slice_get_read, slice_get-map}
use Rattle.std.proofs.lemmas.Slice.Eq.{bytes_eq-Decides}
use Rattle.pep508_names.specs.Name.{NormalizesTo}
use Rattle.pep508_names.proofs.NameLaws.{normal_form-unique}
use Rattle.project_files.specs.declared.entry.ProjectEntry.{ProjectEntry}
use Rattle.project_files.specs.Found.{entry_in, entries_in}
use Rattle.project_files.specs.declared.key.Section.{Section}
use Rattle.project_files.specs.Entries.{EntryOf}
use Rattle.project_files.specs.Groups.{Names, IsNamed, IsFirst, name_of}
use Rattle.project_files.specs.Firsts.{kept, KnowsFirsts}

-- the map finds the first of each name among the first i entries
abbrev pub Knows : List EntryOf → Section → ℕ → (List ℕ → Option ℕ) → Type 0
Knows es section i found = (n : List ℕ)
    → MatchOption (found n) ((k : ℕ) → k < i → IsNamed es section k n → ⊥) (λ k. IsFirst es section k n × (k < i))

pub same_name : (section : Section) (e : EntryOf) (m n : List ℕ) → Names section m e → Names section n e → m ≡ n
same_name section e m n a b = normal_form-unique (name_of e) m n a.normal b.normal

-- the names at a place are those of its entry
names_here : (es : List EntryOf) (section : Section) (k : ℕ) (e : EntryOf) (n : List ℕ) → slice_get es k ≡ Some e → IsNamed es section k n → Names section n e
names_here es section k e n here named = subst (λ o. IsSomeAnd o (Names section n)) here named

pub named_here : (es : List EntryOf) (section : Section) (k : ℕ) (e : EntryOf) (n : List ℕ) → slice_get es k ≡ Some e → Names section n e → IsNamed es section k n
named_here es section k e n here names = subst (λ o. IsSomeAnd o (Names section n)) (sym here) names

-- a name whose place stays
stays : (es : List EntryOf) (section : Section) (i : ℕ) (n : List ℕ) (o : Option ℕ) → MatchOption o ((k : ℕ) → k < i → IsNamed es section k n → ⊥) (λ k. IsFirst es section k n × (k < i))
    → (o ≡ None → IsNamed es section i n → ⊥)
    → MatchOption o ((k : ℕ) → k < i + 1 → IsNamed es section k n → ⊥) (λ k. IsFirst es section k n × (k < i + 1))
stays es section i n None known other = below_more _ _ known (other refl)
stays es section i n (Some k) known other = (known.0, omega (arith, known.1))

-- an entry that gives no name
pub knows_more : (es : List EntryOf) (section : Section) (i : ℕ) (e : EntryOf) (found : List ℕ → Option ℕ) → slice_get es i ≡ Some e
    → ((n : List ℕ) → Names section n e → ⊥) → Knows es section i found → Knows es section (i + 1) found
knows_more es section i e found here none known n =
    stays es section i n (found n) (known n) (λ _ named. none n (names_here es section i e n here named))

some_or_none : (o : Option ℕ) → is_some o ≡ false → o ≡ None
some_or_none None h = refl
some_or_none (Some k) h = absurd (false≢true (sym h))

is_some_none : (o : Option ℕ) → o ≡ None → is_some o ≡ true → ⊥
is_some_none None h t = false≢true t
is_some_none (Some k) h t = false≢true (ap is_some (sym h))

first_here : (es : List EntryOf) (section : Section) (i : ℕ) (e : EntryOf) (name : List ℕ) → slice_get es i ≡ Some e → Names section name e
    → (o : Option ℕ) → o ≡ None → MatchOption o ((k : ℕ) → k < i → IsNamed es section k name → ⊥) (λ k. IsFirst es section k name × (k < i)) → IsFirst es section i name
first_here es section i e name here names None _ known =
    record { is_named = named_here es section i e name here names; first = known }
first_here es section i e name here names (Some k) none known = absurd (is_some_none (Some k) none refl)

-- an entry that gives a name
pub knows_name : (es : List EntryOf) (section : Section) (i : ℕ) (e : EntryOf) (name : List ℕ) (found new : List ℕ → Option ℕ) → slice_get es i ≡ Some e
    → Names section name e → ((n : List ℕ) → new n ≡ kept name i found n) → Knows es section i found → Knows es section (i + 1) new
knows_name es section i e name found new here names is_new known n =
    let other : found n ≡ None → is_some (found name) ≡ true → IsNamed es section i n → ⊥ =
    λ none some named. is_some_none (found n) none (subst (λ m. is_some (found m) ≡ true) (same_name section e name n names (names_here es section i e n here named)) some) in
    elim (cases_Bool (is_some (found name))) [
      | inl some ↦
          let same : new n ≡ found n = is_new n ∙ rw some refl in
          rw same (stays es section i n (found n) (known n) (λ none named. other none some named))
      | inr none ↦
          elim (cases_Bool (bytes_eq name n)) [
            | inl equal ↦
                let at : new n ≡ Some i = is_new n ∙ rw (none, equal) refl in
                let is_n : name ≡ n = (bytes_eq-Decides name n).0 equal in
                rw at (subst (λ m. IsFirst es section i m) is_n (first_here es section i e name here names (found name) (some_or_none (found name) none) (known name)), omega arith)
            | inr differs ↦
                let same : new n ≡ found n = is_new n ∙ rw (none, differs) refl in
                rw same (stays es section i n (found n) (known n) (λ _ named.
                false≢true (sym differs ∙ (bytes_eq-Decides name n).1 (same_name section e name n names (names_here es section i e n here named)))))
          ]
    ]

all_known : (es : List EntryOf) (section : Section) (i : ℕ) (n : List ℕ) → length es ≡ i → (o : Option ℕ) → MatchOption o ((k : ℕ) → k < i → IsNamed es section k n → ⊥) (λ k. IsFirst es section k n × (k < i))
    → MatchOption o ((k : ℕ) → IsNamed es section k n → ⊥) (λ k. IsFirst es section k n)
all_known es section i n all None known = λ k named.
    elim (cases_lt k i) [
      | inl below ↦ known k below named
      | inr past ↦ subst (λ o. IsSomeAnd o (Names section n)) (slice_get_past es k (omega (arith, past, all))) named
    ]
all_known es section i n all (Some k) known = known.0

-- all entries were read
pub knows_all : (es : List EntryOf) (section : Section) (i : ℕ) (found : List ℕ → Option ℕ) → length es ≡ i → Knows es section i found → KnowsFirsts es section found
knows_all es section i found all known n = all_known es section i n all (found n) (known n)

-- the entry that a loop reads
pub entry_at : (xs : List ProjectEntry) (i : ℕ) (x : ProjectEntry) → i < length xs → x ≡ get_or xs i x → slice_get (entries_in xs) i ≡ Some (entry_in x)
entry_at xs i x within is =
    slice_get-map entry_in xs i ∙ ap (option_map entry_in) (slice_get_read xs (length xs) i x refl within is)

-- the map after an insertion of a new name
pub kept_new : (found new : List ℕ → Option ℕ) (name : List ℕ) (place : ℕ) → is_some (found name) ≡ false
    → ((q : List ℕ) → new q ≡ cond (is_eq (slice_cmp nat_cmp name q)) (Some place) (found q)) → (n : List ℕ) → new n ≡ kept name place found n
kept_new found new name place absent is_new n = is_new n ∙ rw (absent, is_eq-slice_cmp name n) refl

-- what a spelling of a name finds
pub finds : (o : Option ℕ) (found : List ℕ → Option ℕ) (text name : List ℕ) → NormalizesTo text name → o ≡ found name
    → MatchOption o ((n : List ℕ) → NormalizesTo text n → found n ≡ None) (λ k. (n : List ℕ) × NormalizesTo text n × (found n ≡ Some k))
finds None found text name normal is = λ n other. ap found (normal_form-unique text n name other normal) ∙ sym is
finds (Some k) found text name normal is = (name, normal, sym is)

pub all_read : (xs : List ProjectEntry) (i : ℕ) → length xs ≤ i → i ≤ length xs → length (entries_in xs) ≡ i
all_read xs i a b = length-map xs entry_in ∙ omega (arith, a, b)
