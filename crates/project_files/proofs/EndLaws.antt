-- Which groups end, step by step.
use Rattle.std.proofs.Common.{◌≡◌, ◌⊎◌, ℕ, zero, suc, ◌+◌, ◌<◌, ◌≤◌, Bool, true, false, not, cond, List, [], ◌∷◌, length, get_or, set, take, slice_get, refl, sym, ap, ◌∙◌, subst, inl, inr, arith}
use Rattle.std.specs.Prelude.{Option, Some, None, IsSomeAnd, ◌||◌, ◌&&◌, count_by}
use Rattle.std.proofs.lemmas.Bool.{cases_Bool, cases_eq, cases_lt, false≢true}
use Rattle.std.proofs.lemmas.List.{get_or-set_same, get_or-set_other, take_more, take_all, length-set}
use Rattle.std.proofs.lemmas.Option.{slice_get_past}
use Rattle.std.proofs.lemmas.List.Sums.{sum_by-set}
use Rattle.project_files.specs.declared.key.Section.TheVariants.{Group}
use Rattle.project_files.specs.declared.includes.Link.{Link}
use Rattle.project_files.specs.declared.groups.Role.TheVariants.{Head}
use Rattle.project_files.specs.Entries.{EntryOf}
use Rattle.project_files.specs.Groups.{Names, IsNamed, role_of, Plays, Includes, EndsIn}
use Rattle.project_files.specs.Links.{Has, Links, AreBelow, flag, Ended, Waits, Settled, flag_if, EndedIn}
use Rattle.project_files.proofs.LinkLaws.{has_parts}

-- ---- flags

count_set : (xs : List Bool) (i : ℕ) → i < length xs → flag xs i ≡ false → count_by not (set xs i true) < count_by not xs
count_set xs i within unset =
    let f : Bool → ℕ = λ b. cond (not b) 1 0 in
    let e = sum_by-set f xs i true false within in
    let one : f (get_or xs i false) ≡ f false = ap f unset in
    omega (arith, e, one)

pub flag_within : (xs : List Bool) (p : ℕ) → flag xs p ≡ true → p < length xs
flag_within [] p h = absurd (false≢true h)
flag_within (x ∷ xs) zero h = omega arith
flag_within (x ∷ xs) (suc p) h = omega (arith, flag_within xs p h)

-- a flag as it is read at a place within the list
pub flag_read : (xs : List Bool) (i : ℕ) (b : Bool) → i < length xs → b ≡ get_or xs i b → b ≡ flag xs i
flag_read [] i b within is = absurd (omega (arith, within))
flag_read (x ∷ xs) zero b within is = is
flag_read (x ∷ xs) (suc i) b within is = flag_read xs i b (omega (arith, within)) is

-- ---- one round

pub settled_none : (xs waits : List Bool) → Settled xs xs waits 0 false
settled_none xs waits = record {
  count = refl;
  marked = λ p h. inl h;
  same = λ _. refl;
  waiting = λ _ p below _. absurd (omega (arith, below));
  fewer = λ h. absurd (false≢true h);
}

settled_stays : (old new waits : List Bool) (i : ℕ) (changed : Bool) → flag new i || flag waits i ≡ true → Settled old new waits i changed → Settled old new waits (i + 1) changed
settled_stays old new waits i changed stays h = record {
  count = h.count;
  marked = h.marked;
  same = h.same;
  waiting = λ unchanged p below unset. elim (cases_eq p i) [
    | inl same ↦
        let here : flag new i ≡ false = ap (λ xs. flag xs i) (h.same unchanged) ∙ ap (flag old) (sym same) ∙ unset in
        ap (flag waits) same ∙ rw here at stays
    | inr other ↦ h.waiting unchanged p (omega (arith, below, other)) unset
  ];
  fewer = h.fewer;
}

count_before : (old new waits : List Bool) (i : ℕ) (changed : Bool) → Settled old new waits i changed → count_by not new ≤ count_by not old
count_before old new waits i true h = omega (arith, h.fewer refl)
count_before old new waits i false h = let e = ap (count_by not) (h.same refl) in omega (arith, e)

settled_flags : (old new waits : List Bool) (i : ℕ) (changed : Bool) → i < length old → flag new i ≡ false → flag waits i ≡ false → Settled old new waits i changed → Settled old (set new i true) waits (i + 1) true
settled_flags old new waits i changed within unset ready h = record {
  count = length-set new i true ∙ h.count;
  marked = λ p is. elim (cases_eq p i) [
    | inl same ↦ inr (ap (flag waits) same ∙ ready)
    | inr other ↦ h.marked p (sym (get_or-set_other new i p true false other) ∙ is)
  ];
  same = λ e. absurd (false≢true (sym e));
  waiting = λ e. absurd (false≢true (sym e));
  fewer = λ _. omega (arith, count_set new i (omega (arith, within, h.count)) unset, count_before old new waits i changed h);
}

neither : (a b : Bool) → not a && not b ≡ true → (a ≡ false) × (b ≡ false)
neither false false h = (refl, refl)
neither false true h = absurd (false≢true h)
neither true b h = absurd (false≢true h)

either : (a b : Bool) → not a && not b ≡ false → a || b ≡ true
either false false h = absurd (false≢true (sym h))
either false true h = refl
either true b h = refl

pub settled_more : (old new waits : List Bool) (i : ℕ) (changed settles : Bool) → i < length old → settles ≡ not (flag new i) && not (flag waits i)
    → Settled old new waits i changed → Settled old (flag_if settles new i) waits (i + 1) (settles || changed)
settled_more old new waits i changed true within is h =
    let (unset, ready) = neither (flag new i) (flag waits i) (sym is) in
    settled_flags old new waits i changed within unset ready h
settled_more old new waits i changed false within is h = settled_stays old new waits i changed (either (flag new i) (flag waits i) (sym is)) h

-- ---- who waits

pub has_at : (ls : List Link) (i : ℕ) (d : Link) → i < length ls → Has ls (get_or ls i d).from (get_or ls i d).to
has_at [] i d within = absurd (omega (arith, within))
has_at (x ∷ ls) zero d within = inl (refl, refl)
has_at (x ∷ ls) (suc i) d within = inr (has_at ls i d (omega (arith, within)))

-- the flags of those that wait, by the first i links
pub record WaitsBelow (ls : List Link) (i : ℕ) (ended waits : List Bool) : Type 0 where
  pub count : length waits ≡ length ended
  pub sound : (p : ℕ) → flag waits p ≡ true → (q : ℕ) × Has ls p q × (flag ended q ≡ false)
  pub complete : (p q : ℕ) → Has (take i ls) p q → flag ended q ≡ false → flag waits p ≡ true

pub waits_none : (ls : List Link) (ended waits : List Bool) → length waits ≡ length ended → ((p : ℕ) → flag waits p ≡ false) → WaitsBelow ls 0 ended waits
waits_none ls ended waits count unset = record {
  count = count;
  sound = λ p h. absurd (false≢true (sym (unset p) ∙ h));
  complete = λ p q h. absurd h;
}

flag_true : (reason : Bool) (xs : List Bool) (i p : ℕ) → flag xs p ≡ true → flag (flag_if reason xs i) p ≡ true
flag_true false xs i p h = h
flag_true true xs i p h = elim (cases_eq p i) [
  | inl same ↦ subst (λ k. flag (set xs i true) k ≡ true) (sym same) (get_or-set_same xs i true false (subst (λ k. k < length xs) same (flag_within xs p h)))
  | inr other ↦ get_or-set_other xs i p true false other ∙ h
]

flag_parts : (reason : Bool) (xs : List Bool) (i p : ℕ) → flag (flag_if reason xs i) p ≡ true → (flag xs p ≡ true) ⊎ ((p ≡ i) × (reason ≡ true))
flag_parts false xs i p h = inl h
flag_parts true xs i p h = elim (cases_eq p i) [
  | inl same ↦ inr (same, refl)
  | inr other ↦ inl (sym (get_or-set_other xs i p true false other) ∙ h)
]

length_flag_if : (reason : Bool) (xs : List Bool) (i : ℕ) → length (flag_if reason xs i) ≡ length xs
length_flag_if false xs i = refl
length_flag_if true xs i = length-set xs i true

not_true : (b : Bool) → not b ≡ true → b ≡ false
not_true false h = refl
not_true true h = absurd (false≢true h)

last_link : (l : Link) (ended waits : List Bool) (p q : ℕ) → l.from < length waits → Has (l ∷ []) p q → flag ended q ≡ false → flag (flag_if (not (flag ended l.to)) waits l.from) p ≡ true
last_link l ended waits p q within (inl same) unset =
    let reason : flag ended l.to ≡ false = ap (flag ended) same.1 ∙ unset in
    rw reason (ap (λ x. flag (set waits l.from true) x) (sym same.0) ∙ get_or-set_same waits l.from true false within)
last_link l ended waits p q within (inr none) unset = absurd none

pub waits_more : (ls : List Link) (i : ℕ) (d : Link) (ended waits : List Bool) → AreBelow ls (length ended) → i < length ls
    → WaitsBelow ls i ended waits → WaitsBelow ls (i + 1) ended (flag_if (not (flag ended (get_or ls i d).to)) waits (get_or ls i d).from)
waits_more ls i d ended waits below within h =
    let l = get_or ls i d in
    let reason = not (flag ended l.to) in
    let has : Has ls l.from l.to = has_at ls i d within in record {
      count = length_flag_if reason waits l.from ∙ h.count;
      sound = λ p set. elim (flag_parts reason waits l.from p set) [
        | inl before ↦ h.sound p before
        | inr new ↦ (l.to, subst (λ x. Has ls x l.to) (sym new.0) has, not_true (flag ended l.to) new.1)
      ];
      complete = λ p q link unset. elim (has_parts (take i ls) (l ∷ []) p q (subst (λ xs. Has xs p q) (take_more ls i d within) link)) [
        | inl before ↦ flag_true reason waits l.from p (h.complete p q before unset)
        | inr last ↦ last_link l ended waits p q (omega (arith, (below l.from l.to has).0, h.count)) last unset
      ];
    }

pub waits_all : (ls : List Link) (i : ℕ) (ended waits : List Bool) → length ls ≤ i → WaitsBelow ls i ended waits → Waits ls ended waits
waits_all ls i ended waits all h = record {
  count = h.count;
  sound = h.sound;
  complete = λ p q link unset. h.complete p q (subst (λ xs. Has xs p q) (sym (take_all i ls all)) link) unset;
}

-- ---- all rounds

pub ends_more : (R : ℕ → ℕ → Type 0) (n p : ℕ) → EndsIn R n p → EndsIn R (suc n) p
ends_more R zero p h = absurd h
ends_more R (suc n) p h = λ q r. ends_more R n q (h q r)

-- the flags are right, and each that is set by so many steps
pub record EndedBelow (ls : List Link) (count : ℕ) (flags : List Bool) : Type 0 where
  pub counted : length flags ≡ count
  pub steps : ℕ
  pub sound : (p : ℕ) → flag flags p ≡ true → EndsIn (Has ls) steps p

pub ended_none : (ls : List Link) (count : ℕ) (flags : List Bool) → length flags ≡ count → ((p : ℕ) → flag flags p ≡ false) → EndedBelow ls count flags
ended_none ls count flags counted unset = record {
  counted = counted;
  steps = 0;
  sound = λ p h. absurd (false≢true (sym (unset p) ∙ h));
}

set_or_unset : (flags : List Bool) (q : ℕ) → (flag flags q ≡ false → ⊥) → flag flags q ≡ true
set_or_unset flags q h = elim (cases_Bool (flag flags q)) [ inl is ↦ is | inr unset ↦ absurd (h unset) ]

pub ended_more : (ls : List Link) (count : ℕ) (old new waits : List Bool) (changed : Bool) → Waits ls old waits → Settled old new waits (length old) changed
    → EndedBelow ls count old → EndedBelow ls count new
ended_more ls count old new waits changed w s h = record {
  counted = s.count ∙ h.counted;
  steps = suc h.steps;
  sound = λ p is. elim (s.marked p is) [
    | inl before ↦ ends_more (Has ls) h.steps p (h.sound p before)
    | inr ready ↦ λ q link. h.sound q (set_or_unset old q (λ unset. false≢true (sym ready ∙ w.complete p q link unset)))
  ];
}

complete_by : (ls : List Link) (count : ℕ) (flags waits : List Bool) → AreBelow ls count → Waits ls flags waits → ((p : ℕ) → p < count → flag flags p ≡ false → flag waits p ≡ true)
    → (n p : ℕ) → p < count → EndsIn (Has ls) n p → flag flags p ≡ true
complete_by ls count flags waits below w waiting zero p within h = absurd h
complete_by ls count flags waits below w waiting (suc n) p within h = set_or_unset flags p (λ unset.
    let (q, link, other) = w.sound p (waiting p within unset) in
    false≢true (sym other ∙ complete_by ls count flags waits below w waiting n q (below p q link).1 (h q link)))

pub ended_all : (ls : List Link) (count : ℕ) (old new waits : List Bool) → AreBelow ls count → Waits ls old waits → Settled old new waits (length old) false
    → EndedBelow ls count old → Ended ls count new
ended_all ls count old new waits below w s h =
    let same : new ≡ old = s.same refl in record {
      count = s.count ∙ h.counted;
      sound = λ p is. (h.steps, h.sound p (subst (λ xs. flag xs p ≡ true) same is));
      complete = λ p within ends. subst (λ xs. flag xs p ≡ true) (sym same)
          (complete_by ls count old waits below w (λ q inside unset. s.waiting refl q (omega (arith, inside, h.counted)) unset) ends.0 p within ends.1);
    }

-- ---- groups of a file

head_of : (o : Option EntryOf) (n : List ℕ) → IsSomeAnd o (Names Group n) → IsSomeAnd o (λ e. role_of e ≡ Head)
head_of None n h = absurd h
head_of (Some e) n h = rw (h.section_is, h.begins) refl

pub named_head : (es : List EntryOf) (q : ℕ) (n : List ℕ) → IsNamed es Group q n → Plays es Head q
named_head es q n h = head_of (slice_get es q) n h

to_file : (es : List EntryOf) (ls : List Link) → Links es ls → (n p : ℕ) → Plays es Head p → EndsIn (Has ls) n p → EndsIn (Includes es) n p
to_file es ls links zero p head h = absurd h
to_file es ls links (suc n) p head h = λ q inc.
    to_file es ls links n q (named_head es q inc.means.0 inc.means.2.is_named) (h q (links.complete p q head inc))

to_links : (es : List EntryOf) (ls : List Link) → Links es ls → (n p : ℕ) → EndsIn (Includes es) n p → EndsIn (Has ls) n p
to_links es ls links zero p h = absurd h
to_links es ls links (suc n) p h = λ q has. to_links es ls links n q (h q (links.sound p q has).1)

plays_within : (es : List EntryOf) (p : ℕ) → Plays es Head p → p < length es
plays_within es p h = elim (cases_lt p (length es)) [
  | inl below ↦ below
  | inr past ↦ absurd (subst (λ o. IsSomeAnd o (λ e. role_of e ≡ Head)) (slice_get_past es p past) h)
]

pub below_all : (es : List EntryOf) (ls : List Link) (count : ℕ) → length es ≡ count → Links es ls → AreBelow ls count
below_all es ls count all links = λ p q has.
    let (head, inc) = links.sound p q has in
    (omega (arith, all, plays_within es p head), omega (arith, all, plays_within es q (named_head es q inc.means.0 inc.means.2.is_named)))

pub ended_in : (es : List EntryOf) (ls : List Link) (count : ℕ) (flags : List Bool) → length es ≡ count → Links es ls → Ended ls count flags → EndedIn es flags
ended_in es ls count flags all links h = record {
  count = h.count ∙ sym all;
  tells = λ p head. (
    (λ set. let ends = h.sound p set in (ends.0, to_file es ls links ends.0 p head ends.1)),
    (λ ends. h.complete p (omega (arith, all, plays_within es p head)) (ends.0, to_links es ls links ends.0 p ends.1)),
  );
}
