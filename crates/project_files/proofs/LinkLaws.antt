-- The includes of groups, as entries are read.
use Rattle.std.proofs.Common.{◌≡◌, ◌⊎◌, ℕ, ◌+◌, ◌<◌, List, [], ◌∷◌, ◌++◌, refl, sym, ap, ◌∙◌, subst, inl, inr, arith, slice_get, length}
use Rattle.std.specs.Prelude.{Option, Some, None, MatchOption, IsSomeAnd}
use Rattle.std.proofs.lemmas.Bool.{cases_order, cases_lt}
use Rattle.std.proofs.lemmas.Option.{same_Some, slice_get_past}
use Rattle.pep508_names.specs.Name.{NormalizesTo}
use Rattle.pep508_names.proofs.NameLaws.{normal_form-unique}
use Rattle.project_files.specs.declared.key.Section.{Section}
use Rattle.project_files.specs.declared.key.Section.TheVariants.{BuildSystem, BuildRequires, Groups, Group, Project, Dependencies, Dynamic, Extras, Extra, RequiresPython}
use Rattle.project_files.specs.declared.includes.Link.{Link}
use Rattle.project_files.specs.declared.groups.Role.{Role}
use Rattle.project_files.specs.declared.groups.Role.TheVariants.{Head, Item, Other}
use Rattle.project_files.specs.Entries.{ContentOf, text, include, named, wrong, EntryOf}
use Rattle.project_files.specs.Groups.{role_of, role_in, Plays, Means, IsNamed, IsFirst, Includes}
use Rattle.project_files.specs.Firsts.{KnowsFirsts}
use Rattle.project_files.specs.Links.{Has, Links, home_of, Targets, link_of}

-- ---- lists of links

pub has_left : (ls ms : List Link) (p q : ℕ) → Has ls p q → Has (ls ++ ms) p q
has_left [] ms p q h = absurd h
has_left (l ∷ ls) ms p q (inl here) = inl here
has_left (l ∷ ls) ms p q (inr more) = inr (has_left ls ms p q more)

pub has_right : (ls ms : List Link) (p q : ℕ) → Has ms p q → Has (ls ++ ms) p q
has_right [] ms p q h = h
has_right (l ∷ ls) ms p q h = inr (has_right ls ms p q h)

pub has_parts : (ls ms : List Link) (p q : ℕ) → Has (ls ++ ms) p q → Has ls p q ⊎ Has ms p q
has_parts [] ms p q h = inr h
has_parts (l ∷ ls) ms p q (inl here) = inl (inl here)
has_parts (l ∷ ls) ms p q (inr more) =
    elim (has_parts ls ms p q more) [ inl left ↦ inl (inr left) | inr right ↦ inr right ]

-- the link between two groups, if there are two
one_link : (home target : Option ℕ) (p q : ℕ) → Has (link_of home target) p q → (home ≡ Some p) × (target ≡ Some q)
one_link None target p q h = absurd h
one_link (Some a) None p q h = absurd h
one_link (Some a) (Some b) p q (inl h) = (ap (λ x. Some x) h.0, ap (λ x. Some x) h.1)
one_link (Some a) (Some b) p q (inr h) = absurd h

link_between : (home target : Option ℕ) (p q : ℕ) → home ≡ Some p → target ≡ Some q → Has (link_of home target) p q
link_between home target p q from to = rw (from, to) (inl (refl, refl))

-- ---- parts of entries

abbrev number_of : Role → ℕ
number_of Head = 0
number_of Item = 1
number_of Other = 2

plays_here : (es : List EntryOf) (role : Role) (k : ℕ) (e : EntryOf) → slice_get es k ≡ Some e → Plays es role k → role_of e ≡ role
plays_here es role k e here plays = subst (λ o. IsSomeAnd o (λ x. role_of x ≡ role)) here plays

plays_from : (es : List EntryOf) (role : Role) (k : ℕ) (e : EntryOf) → slice_get es k ≡ Some e → role_of e ≡ role → Plays es role k
plays_from es role k e here is = subst (λ o. IsSomeAnd o (λ x. role_of x ≡ role)) (sym here) is

-- an entry plays one part
one_role : (es : List EntryOf) (a b : Role) (k : ℕ) (e : EntryOf) → slice_get es k ≡ Some e → Plays es a k → role_of e ≡ b → (number_of a ≡ number_of b → ⊥) → ⊥
one_role es a b k e here plays is differs = differs (ap number_of (sym (plays_here es a k e here plays) ∙ is))

-- ---- homes

-- the group that entry i - 1 begins or is in
pub record Home (es : List EntryOf) (i : ℕ) (home : Option ℕ) : Type 0 where
  pub is_home : (p : ℕ) → home ≡ Some p → Plays es Head p × (p < i) × ((j : ℕ) → p < j → j < i → Plays es Item j)
  pub only : (p : ℕ) → Plays es Head p → p < i → ((j : ℕ) → p < j → j < i → Plays es Item j) → home ≡ Some p

none_some : (p : ℕ) → None ≡ Some p → ⊥
none_some p e = cc

home_head : (es : List EntryOf) (i : ℕ) (home : Option ℕ) (e : EntryOf) → slice_get es i ≡ Some e → role_of e ≡ Head → Home es i home → Home es (i + 1) (Some i)
home_head es i home e here is h = record {
  is_home = λ p same. let at : i ≡ p = same_Some i p same in
      subst (λ p. Plays es Head p × (p < i + 1) × ((j : ℕ) → p < j → j < i + 1 → Plays es Item j)) at
      (plays_from es Head i e here is, omega arith, λ j above below. absurd (omega (arith, above, below)));
  only = λ p plays below items. elim (cases_order p i) [
    | inl same ↦ ap (λ x. Some x) (sym same)
    | inr (inl before) ↦ absurd (one_role es Item Head i e here (items i before (omega arith)) is (λ e. omega (arith, e)))
    | inr (inr after) ↦ absurd (omega (arith, after, below))
  ];
}

home_item : (es : List EntryOf) (i : ℕ) (home : Option ℕ) (e : EntryOf) → slice_get es i ≡ Some e → role_of e ≡ Item → Home es i home → Home es (i + 1) home
home_item es i home e here is h = record {
  is_home = λ p same. let (head, below, items) = h.is_home p same in (
    head,
    omega (arith, below),
    λ j above until. elim (cases_order j i) [
      | inl at ↦ subst (λ k. Plays es Item k) (sym at) (plays_from es Item i e here is)
      | inr (inl before) ↦ items j above before
      | inr (inr after) ↦ absurd (omega (arith, after, until))
    ],
  );
  only = λ p plays below items. elim (cases_order p i) [
    | inl same ↦ absurd (one_role es Head Item i e here (subst (λ k. Plays es Head k) same plays) is (λ e. omega (arith, e)))
    | inr (inl before) ↦ h.only p plays before (λ j above until. items j above (omega (arith, until)))
    | inr (inr after) ↦ absurd (omega (arith, after, below))
  ];
}

home_other : (es : List EntryOf) (i : ℕ) (home : Option ℕ) (e : EntryOf) → slice_get es i ≡ Some e → role_of e ≡ Other → Home es i home → Home es (i + 1) None
home_other es i home e here is h = record {
  is_home = λ p same. absurd (none_some p same);
  only = λ p plays below items. elim (cases_order p i) [
    | inl same ↦ absurd (one_role es Head Other i e here (subst (λ k. Plays es Head k) same plays) is (λ e. omega (arith, e)))
    | inr (inl before) ↦ absurd (one_role es Item Other i e here (items i before (omega arith)) is (λ e. omega (arith, e)))
    | inr (inr after) ↦ absurd (omega (arith, after, below))
  ];
}

home_by : (es : List EntryOf) (i : ℕ) (home : Option ℕ) (e : EntryOf) → slice_get es i ≡ Some e → (role : Role) → role_of e ≡ role → Home es i home → Home es (i + 1) (home_of home role i)
home_by es i home e here Head is h = home_head es i home e here is h
home_by es i home e here Item is h = home_item es i home e here is h
home_by es i home e here Other is h = home_other es i home e here is h

pub home_more : (es : List EntryOf) (i : ℕ) (home : Option ℕ) (e : EntryOf) → slice_get es i ≡ Some e → Home es i home → Home es (i + 1) (home_of home (role_of e) i)
home_more es i home e here h = home_by es i home e here (role_of e) refl h

-- ---- what a name means

known_at : (es : List EntryOf) (n : List ℕ) (o p : Option ℕ) → o ≡ p → MatchOption o ((k : ℕ) → ¬ IsNamed es Group k n) (λ k. IsFirst es Group k n) → MatchOption p ((k : ℕ) → ¬ IsNamed es Group k n) (λ k. IsFirst es Group k n)
known_at es n o p same known = subst (λ o. MatchOption o ((k : ℕ) → ¬ IsNamed es Group k n) (λ k. IsFirst es Group k n)) same known

pub means_of : (es : List EntryOf) (found : List ℕ → Option ℕ) (name : List ℕ) (place : Option ℕ) → KnowsFirsts es Group found
    → MatchOption place ((n : List ℕ) → NormalizesTo name n → found n ≡ None) (λ k. (n : List ℕ) × NormalizesTo name n × (found n ≡ Some k))
    → MatchOption place ((q : ℕ) → Means es name q → ⊥) (λ q. Means es name q)
means_of es found name None knows h = λ q m. known_at es m.0 (found m.0) None (h m.0 m.1) (knows m.0) q m.2.is_named
means_of es found name (Some k) knows h = (h.0, h.1, known_at es h.0 (found h.0) (Some k) h.2 (knows h.0))

pub means_one : (es : List EntryOf) (name : List ℕ) (p q : ℕ) → Means es name p → Means es name q → p ≡ q
means_one es name p q a b =
    let same : a.0 ≡ b.0 = normal_form-unique name a.0 b.0 a.1 b.1 in
    let first : IsFirst es Group p b.0 = subst (λ n. IsFirst es Group p n) same a.2 in
    elim (cases_order p q) [
      | inl equal ↦ equal
      | inr (inl below) ↦ absurd (b.2.first p below first.is_named)
      | inr (inr above) ↦ absurd (first.first q above b.2.is_named)
    ]

-- ---- links

pub record LinksBelow (es : List EntryOf) (i : ℕ) (ls : List Link) : Type 0 where
  pub sound : (p q : ℕ) → Has ls p q → Plays es Head p × Includes es p q
  pub complete : (p q : ℕ) → Plays es Head p → (inc : Includes es p q) → inc.place < i → Has ls p q

-- an entry with a target includes it, and begins no group
target_is : (es : List EntryOf) (found : List ℕ → Option ℕ) (e : EntryOf) (content : ContentOf) (place : Option ℕ) (q : ℕ) → KnowsFirsts es Group found → e.content ≡ content → place ≡ Some q → Targets found content place
    → (name : List ℕ) × (e.content ≡ include name) × Means es name q
target_is es found e (include name) place q knows is some h =
    (name, is, subst (λ o. MatchOption o ((k : ℕ) → Means es name k → ⊥) (λ k. Means es name k)) some (means_of es found name place knows h))
target_is es found e (text s) place q knows is some h = absurd (none_some q (sym h ∙ some))
target_is es found e named place q knows is some h = absurd (none_some q (sym h ∙ some))
target_is es found e (wrong kind) place q knows is some h = absurd (none_some q (sym h ∙ some))

target_found : (es : List EntryOf) (name : List ℕ) (place : Option ℕ) (q : ℕ) → Means es name q → MatchOption place ((k : ℕ) → Means es name k → ⊥) (λ k. Means es name k) → place ≡ Some q
target_found es name None q means h = absurd (h q means)
target_found es name (Some k) q means h = ap (λ x. Some x) (means_one es name k q h means)

-- the target of an entry that includes a group
target_from : (es : List EntryOf) (found : List ℕ → Option ℕ) (name : List ℕ) (content : ContentOf) (place : Option ℕ) (q : ℕ) → KnowsFirsts es Group found → content ≡ include name → Means es name q → Targets found content place → place ≡ Some q
target_from es found name content place q knows is means h =
    target_found es name place q means (means_of es found name place knows (rw is at h))

not_head : (section : Section) (name : List ℕ) → role_in section (include name) ≡ Head → ⊥
not_head BuildSystem name h = omega (arith, ap number_of h)
not_head BuildRequires name h = omega (arith, ap number_of h)
not_head Groups name h = omega (arith, ap number_of h)
not_head Group name h = omega (arith, ap number_of h)
not_head Project name h = omega (arith, ap number_of h)
not_head Dependencies name h = omega (arith, ap number_of h)
not_head Dynamic name h = omega (arith, ap number_of h)
not_head Extras name h = omega (arith, ap number_of h)
not_head Extra name h = omega (arith, ap number_of h)
not_head RequiresPython name h = omega (arith, ap number_of h)

include_no_head : (e : EntryOf) (name : List ℕ) → e.content ≡ include name → role_of e ≡ Head → ⊥
include_no_head e name is head = not_head e.key.section name (subst (λ content. role_in e.key.section content ≡ Head) is head)

content_here : (es : List EntryOf) (k : ℕ) (e : EntryOf) (name : List ℕ) → slice_get es k ≡ Some e → IsSomeAnd (slice_get es k) (λ e. e.content ≡ include name) → e.content ≡ include name
content_here es k e name here is = subst (λ o. IsSomeAnd o (λ e. e.content ≡ include name)) here is

-- the next entry
pub links_more : (es : List EntryOf) (i : ℕ) (ls : List Link) (e : EntryOf) (found : List ℕ → Option ℕ) (home target : Option ℕ) → slice_get es i ≡ Some e → KnowsFirsts es Group found
    → Home es (i + 1) home → Targets found e.content target → LinksBelow es i ls → LinksBelow es (i + 1) (ls ++ link_of home target)
links_more es i ls e found home target here knows h targets so_far = record {
  sound = λ p q has. elim (has_parts ls (link_of home target) p q has) [
    | inl old ↦ so_far.sound p q old
    | inr new ↦
        let (from, to) = one_link home target p q new in
        let (head, below, listed) = h.is_home p from in
        let (name, is, means) = target_is es found e e.content target q knows refl to targets in
        let after : p < i = elim (cases_order p i) [
          | inl same ↦ absurd (include_no_head e name is (plays_here es Head i e here (subst (λ k. Plays es Head k) same head)))
          | inr (inl before) ↦ before
          | inr (inr past) ↦ absurd (omega (arith, past, below))
        ] in (
          head,
          record {
            place = i;
            after = after;
            listed = λ j above until. listed j above (omega (arith, until));
            name = name;
            is_include = subst (λ o. IsSomeAnd o (λ e. e.content ≡ include name)) (sym here) is;
            means = means;
          },
        )
  ];
  complete = λ p q plays inc below. elim (cases_order inc.place i) [
    | inl same ↦
        let is : e.content ≡ include inc.name = content_here es i e inc.name here (subst (λ k. IsSomeAnd (slice_get es k) (λ e. e.content ≡ include inc.name)) same inc.is_include) in
        let from : home ≡ Some p = h.only p plays (omega (arith, inc.after, same)) (λ j above until. inc.listed j above (omega (arith, until, same))) in
        let to : target ≡ Some q = target_from es found inc.name e.content target q knows is inc.means targets in
        has_right ls (link_of home target) p q (link_between home target p q from to)
    | inr (inl before) ↦ has_left ls (link_of home target) p q (so_far.complete p q plays inc before)
    | inr (inr after) ↦ absurd (omega (arith, after, below))
  ];
}

place_within : (es : List EntryOf) (i k : ℕ) (name : List ℕ) → length es ≡ i → IsSomeAnd (slice_get es k) (λ e. e.content ≡ include name) → k < i
place_within es i k name all is = elim (cases_lt k i) [
  | inl below ↦ below
  | inr past ↦ absurd (subst (λ o. IsSomeAnd o (λ e. e.content ≡ include name)) (slice_get_past es k (omega (arith, past, all))) is)
]

-- all entries were read
pub links_all : (es : List EntryOf) (i : ℕ) (ls : List Link) → length es ≡ i → LinksBelow es i ls → Links es ls
links_all es i ls all h = record {
  sound = h.sound;
  complete = λ p q plays inc. h.complete p q plays inc (place_within es i inc.place inc.name all inc.is_include);
}
