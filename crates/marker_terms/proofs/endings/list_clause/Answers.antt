use Rattle.std.proofs.Common.{◌≡◌, ◌<◌, ◌⊎◌, inl, inr, ◌∷◌, [], length, get_or, map, set, refl, sym, ap, subst, ◌∙◌, arith}
use Rattle.std.specs.List.{Contains}
use Rattle.std.proofs.lemmas.Bool.{cases_eq}
use Rattle.std.proofs.lemmas.List.Elements.{Contains-push, Contains-append_left}
use Rattle.marker_terms.specs.Endings.{places_of}
use Rattle.marker_terms.proofs.Places.{places_at, places_set, places_other}
use Rattle.marker_terms.proofs.endings.list_clause.Goals as goal

within : (c : goal.In_ok-push-in-Some-get_mut) → c.in-Some.term.now.number < length c.args.endings.now.lists.items
within c = omega (arith, c.in-Some-get_mut.ensures.variant.0 refl, c.args.endings.now.lists.ok.0)

pub returns-in_ok-push-in-Some-get_mut-clause-listed : goal.returns-in_ok-push-in-Some-get_mut-clause-listed
returns-in_ok-push-in-Some-get_mut-clause-listed c =
    inr (
      c.in-Some.term.now,
      sym c.in-Some.ensures.value,
      subst (λ xs. Contains xs c.args.place) (sym (places_set c.args.endings.now.lists.items c.in-Some.term.now.number c.push.new.self (within c) ∙ c.in_ok-push-in-Some-get_mut.ensures.items)) (Contains-push c.in-Some-get_mut.list.now.items c.args.place),
    )

pub returns-in_ok-push-in-Some-get_mut-clause-kept : goal.returns-in_ok-push-in-Some-get_mut-clause-kept
returns-in_ok-push-in-Some-get_mut-clause-kept c other j (inl h) = inl h
returns-in_ok-push-in-Some-get_mut-clause-kept c other j (inr (t, e, h)) = inr (t, e, by_number (cases_eq t.number c.in-Some.term.now.number))
  where
    by_number : (t.number ≡ c.in-Some.term.now.number) ⊎ (t.number ≡ c.in-Some.term.now.number → ⊥) → Contains (get_or (map (λ v. v.items) (set c.args.endings.now.lists.items c.in-Some.term.now.number c.push.new.self)) t.number []) j
    by_number (inl q) =
        subst (λ k. Contains (get_or (map (λ v. v.items) (set c.args.endings.now.lists.items c.in-Some.term.now.number c.push.new.self)) k []) j) (sym q)
        (subst (λ xs. Contains xs j) (sym (places_set c.args.endings.now.lists.items c.in-Some.term.now.number c.push.new.self (within c) ∙ c.in_ok-push-in-Some-get_mut.ensures.items))
        (Contains-append_left c.in-Some-get_mut.list.now.items (c.args.place ∷ []) j
        (subst (λ xs. Contains xs j) (ap (λ k. places_of c.args.endings.now k) q ∙ places_at c.args.endings.now.lists.items c.in-Some.term.now.number c.in-Some-get_mut.list.now (within c) c.in-Some-get_mut.ensures.value) h)))
    by_number (inr ne) = subst (λ xs. Contains xs j) (sym (places_other c.args.endings.now.lists.items c.in-Some.term.now.number t.number c.push.new.self ne)) h
