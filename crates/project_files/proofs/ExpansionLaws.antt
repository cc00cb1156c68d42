-- The steps of an expansion, and what they leave to do.
use Rattle.std.proofs.Common.{◌≡◌, ℕ, ◌+◌, List, [], ◌∷◌, ◌++◌, refl, sym, ap, ◌∙◌, subst, append_assoc, slice_get, length, ◌≤◌, true, arith}
use Rattle.std.specs.Prelude.{Option, Some, IsSomeAnd}
use Rattle.std.proofs.lemmas.List.{append-nil, length-map}
use Rattle.std.proofs.lemmas.Bool.{false≢true}
use Rattle.std.proofs.lemmas.Option.{slice_get_past}
use Rattle.project_files.specs.declared.entry.ProjectEntry.{ProjectEntry}
use Rattle.project_files.specs.declared.groups.Role.{Role}
use Rattle.project_files.specs.Found.{entry_in, entries_in}
use Rattle.pep508_names.specs.Name.{NormalizesTo}
use Rattle.project_files.specs.declared.expansion.Step.{Step}
use Rattle.project_files.specs.declared.expansion.Step.TheVariants as steps
use Rattle.project_files.specs.declared.key.Section.TheVariants.{Group}
use Rattle.project_files.specs.declared.groups.Role.TheVariants.{Item}
use Rattle.project_files.specs.Entries.{text, include, EntryOf}
use Rattle.project_files.specs.Groups.{role_of, Plays, Means}
use Rattle.project_files.specs.Firsts.{KnowsFirsts}
use Rattle.project_files.specs.Expansion.{IsText, IsInclude, Expands, none, string, included, IsExpansion}
use Rattle.project_files.specs.Steps.{is_expanded, IsListOf, IsStep, IsStepAt, found_after, places_after}
use Rattle.project_files.proofs.LinkLaws.{means_of}

-- what is left to do: the expansions of the lists from these places on, the last first
abbrev pub Finishes : List EntryOf → List ℕ → List ℕ → Type 0
Finishes es [] more = more ≡ []
Finishes es (k ∷ ks) more = (x : List ℕ) × (y : List ℕ) × Finishes es ks x × Expands es k y × (more ≡ x ++ y)

pub finishes_push : (es : List EntryOf) (ks : List ℕ) (k : ℕ) (x y : List ℕ) → Expands es k x → Finishes es ks y → Finishes es (ks ++ k ∷ []) (x ++ y)
finishes_push es [] k x y expands ends = ([], x, refl, expands, ap (λ z. x ++ z) ends ∙ append-nil x)
finishes_push es (j ∷ js) k x y expands h =
    let (a, b, inner, outer, is) = h in
    (x ++ a, b, finishes_push es js k x a expands inner, outer, ap (λ z. x ++ z) is ∙ sym (append_assoc x a b))

-- the last place, and those before it
pub record Popped (es : List EntryOf) (ks : List ℕ) (k : ℕ) (more : List ℕ) : Type 0 where
  pub first : List ℕ
  pub rest : List ℕ
  pub expands : Expands es k first
  pub finishes : Finishes es ks rest
  pub is : more ≡ first ++ rest

pub finishes_pop : (es : List EntryOf) (ks : List ℕ) (k : ℕ) (more : List ℕ) → Finishes es (ks ++ k ∷ []) more → Popped es ks k more
finishes_pop es [] k more h =
    let (x, y, ends, expands, is) = h in
    record { first = y; rest = []; expands = expands; finishes = refl; is = is ∙ ap (λ z. z ++ y) ends ∙ sym (append-nil y) }
finishes_pop es (j ∷ js) k more h =
    let (x, y, inner, outer, is) = h in
    let p = finishes_pop es js k x inner in
    record {
      first = p.first;
      rest = p.rest ++ y;
      expands = p.expands;
      finishes = (p.rest, y, p.finishes, outer, refl);
      is = is ∙ ap (λ z. z ++ y) p.is ∙ append_assoc p.first p.rest y;
    }

-- whatever finishes the walk makes what was found the expansion from the start on
abbrev pub Walks : List EntryOf → ℕ → List ℕ → List ℕ → Type 0
Walks es start found places = (more : List ℕ) → Finishes es places more → Expands es start (found ++ more)

pub walks_first : (es : List EntryOf) (start : ℕ) → Walks es start [] (start ∷ [])
walks_first es start more h =
    let (x, y, ends, expands, is) = h in
    subst (Expands es start) (sym (is ∙ ap (λ z. z ++ y) ends)) expands

pub walks_all : (es : List EntryOf) (start : ℕ) (found places : List ℕ) → places ≡ [] → Walks es start found places → Expands es start found
walks_all es start found places ends h =
    subst (Expands es start) (append-nil found) (h [] (rw ends refl))

walks_end : (es : List EntryOf) (start k : ℕ) (found ks : List ℕ) → ¬ Plays es Item k → Walks es start found (ks ++ k ∷ []) → Walks es start found ks
walks_end es start k found ks ends h more rest = h more (finishes_push es ks k [] more (none k ends) rest)

walks_text : (es : List EntryOf) (start k : ℕ) (found ks : List ℕ) → Plays es Item k → IsText es k → Walks es start found (ks ++ k ∷ []) → Walks es start (found ++ k ∷ []) (ks ++ (k + 1) ∷ [])
walks_text es start k found ks plays is h more rest =
    let p = finishes_pop es ks (k + 1) more rest in
    let all = h ((k ∷ p.first) ++ p.rest) (finishes_push es ks k (k ∷ p.first) p.rest (string k p.first plays is p.expands) p.finishes) in
    subst (Expands es start) (sym (append_assoc found (k ∷ []) more ∙ ap (λ z. found ++ k ∷ z) p.is)) all

walks_include : (es : List EntryOf) (start k q : ℕ) (name found ks : List ℕ) → Plays es Item k → IsInclude es k name → Means es name q
    → Walks es start found (ks ++ k ∷ []) → Walks es start found ((ks ++ (k + 1) ∷ []) ++ (q + 1) ∷ [])
walks_include es start k q name found ks plays is means h more rest =
    let inner = finishes_pop es (ks ++ (k + 1) ∷ []) (q + 1) more rest in
    let p = finishes_pop es ks (k + 1) inner.rest inner.finishes in
    let all = h ((inner.first ++ p.first) ++ p.rest) (finishes_push es ks k (inner.first ++ p.first) p.rest (included k q name inner.first p.first plays is means inner.expands p.expands) p.finishes) in
    subst (λ z. Expands es start (found ++ z)) (append_assoc inner.first p.first p.rest ∙ ap (λ z. inner.first ++ z) (sym p.is) ∙ sym inner.is) all

-- a step
pub walks_step : (es : List EntryOf) (start k : ℕ) (found ks : List ℕ) (step : Step) → IsStepAt es k step → is_expanded step ≡ true → Walks es start found (ks ++ k ∷ [])
    → Walks es start (found_after found k step) (places_after ks (k + 1) step)
walks_step es start k found ks steps.End is fine h = walks_end es start k found ks is h
walks_step es start k found ks steps.Text is fine h = walks_text es start k found ks is.0 is.1 h
walks_step es start k found ks (steps.Include inner) is fine h =
    let (name, q, includes, means, at) = is.1 in
    let plays = is.0 in
    subst (λ z. Walks es start found ((ks ++ (k + 1) ∷ []) ++ z ∷ [])) (sym at) (walks_include es start k q name found ks plays includes means h)
walks_step es start k found ks steps.Faulty is fine h = absurd (false≢true fine)

-- ---- the entry at a place

plays_at : (es : List EntryOf) (k : ℕ) (e : EntryOf) → slice_get es k ≡ Some e → role_of e ≡ Item → Plays es Item k
plays_at es k e here is = subst (λ o. IsSomeAnd o (λ x. role_of x ≡ Item)) (sym here) is

known_at : (es : List EntryOf) (found : List ℕ → Option ℕ) (name n : List ℕ) (q : ℕ) → KnowsFirsts es Group found → NormalizesTo name n → found n ≡ Some q → Means es name q
known_at es found name n q knows normal is = means_of es found name (Some q) knows (n, normal, is)

pub step_here : (es : List EntryOf) (found : List ℕ → Option ℕ) (k : ℕ) (e : EntryOf) (step : Step) → KnowsFirsts es Group found → slice_get es k ≡ Some e → IsStep found e step → IsStepAt es k step
step_here es found k e steps.End knows here is = λ plays. is (subst (λ o. IsSomeAnd o (λ x. role_of x ≡ Item)) here plays)
step_here es found k e steps.Text knows here is = (plays_at es k e here is.0, subst (λ o. IsSomeAnd o (λ x. (s : List ℕ) × (x.content ≡ text s))) (sym here) is.1)
step_here es found k e (steps.Include inner) knows here is =
    let name = is.1.0 in
    let list = is.1.2 in
    (plays_at es k e here is.0, (name, list.group, subst (λ o. IsSomeAnd o (λ x. x.content ≡ include name)) (sym here) is.1.1, known_at es found name list.normal list.group knows list.normalizes list.finds, list.follows))
step_here es found k e steps.Faulty knows here is = is

-- a place after all entries
pub plays_past : (xs : List ProjectEntry) (role : Role) (k : ℕ) → length xs ≤ k → Plays (entries_in xs) role k → ⊥
plays_past xs role k past plays =
    subst (λ o. IsSomeAnd o (λ e. role_of e ≡ role)) (slice_get_past (entries_in xs) k (omega (arith, length-map xs entry_in, past))) plays

pub no_places : (xs : List ℕ) → length xs ≡ 0 → xs ≡ []
no_places [] h = refl
no_places (x ∷ xs) h = absurd (omega (arith, h))
