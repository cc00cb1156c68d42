use Rattle.std.proofs.Common.{sym, ◌∙◌, refl, ap, ◌∷◌, ℕ, inl, inr, lit<, take, length, ◌-◌}
use Rattle.std.specs.Str.{chars}
use Rattle.std.proofs.lemmas.Str.Pattern.{ends_char}
use Rattle.pep508_text.proofs.SuffixLaws.{suffix_then}
use Rattle.std.proofs.lemmas.Bool.{true≢false}
use Rattle.requirement_words.specs.Fault.{FindsInTail, trailing}
use Rattle.requirement_words.specs.declared.fault.FaultKind.TheVariants.{AmbiguousEnd, Trailing}
use Rattle.requirement_words.proofs.FaultLaws.{fault_at_first, fault_at_last}
use Rattle.requirement_words.specs.Tail.{unmarked, marked}
use Rattle.requirement_words.proofs.TailLaws.{not_tail, ends_ambiguous, behind_url, unmarked_url}
use Rattle.requirement_words.proofs.tail.read_tail.Goals as goal

pub returns-in_default-clause-found : goal.returns-in_default-clause-found
returns-in_default-clause-found c = unmarked (sym c.skip_space-end.ensures.rest ∙ c.in_default.ensures.characters)

pub returns-then-found-eq59-clause-found : goal.returns-then-found-eq59-clause-found
returns-then-found-eq59-clause-found c =
    marked (sym c.skip_space-end.ensures.rest ∙ c.in-Some.ensures.characters ∙ ap (λ (x : ℕ). x ∷ chars c.in-Some.after.now) c.if-found-eq59.true)

pub returns-then-found-eq59-clause-suffix : goal.returns-then-found-eq59-clause-suffix
returns-then-found-eq59-clause-suffix c = suffix_then c.skip_space-end.ensures.suffix c.in-Some.ensures.suffix

pub at_last-requires : goal.at_last-requires
at_last-requires c = (take (length c.args.url.now - 1) c.args.url.now, 59, (ends_char 59 c.args.url.now c.ends_with.result c.ends_with.ensures.cases (lit< tt)).0 c.if-ends_with.true, lit< tt)

pub returns-then-ends_with-clause-refused : goal.returns-then-ends_with-clause-refused
returns-then-ends_with-clause-refused c = not_tail _ _ _ _ c.skip_space-end.ensures.rest c.in-Some.ensures.characters c.if-found-eq59.false

pub returns-then-ends_with-clause-fault : goal.returns-then-ends_with-clause-fault
returns-then-ends_with-clause-fault c =
    let ends = (ends_char 59 c.args.url.now c.ends_with.result c.ends_with.ensures.cases (lit< tt)).0 c.if-ends_with.true in
    fault_at_last (FindsInTail c.args.url.now c.args.rest.now) AmbiguousEnd (take (length c.args.url.now - 1) c.args.url.now) 59 refl (record { front = c.args.url.now; joined = refl; utf8 = c.utf8.rest }) ends (lit< tt)
    c.at.ensures.kind c.at.ensures.place c.at_last.ensures.piece c.at_last.ensures.left
    (ends_ambiguous 59 _ _ ends (inl refl) (sym c.skip_space-end.ensures.rest ∙ c.in-Some.ensures.characters) c.if-found-eq59.false)

pub at_last-requires-then-ends_with-2 : goal.at_last-requires-then-ends_with-2
at_last-requires-then-ends_with-2 c = (take (length c.args.url.now - 1) c.args.url.now, 35, (ends_char 35 c.args.url.now c.ends_with-2.result c.ends_with-2.ensures.cases (lit< tt)).0 c.if-ends_with-2.true, lit< tt)

pub returns-then-ends_with-2-clause-refused : goal.returns-then-ends_with-2-clause-refused
returns-then-ends_with-2-clause-refused c = not_tail _ _ _ _ c.skip_space-end.ensures.rest c.in-Some.ensures.characters c.if-found-eq59.false

pub returns-then-ends_with-2-clause-fault : goal.returns-then-ends_with-2-clause-fault
returns-then-ends_with-2-clause-fault c =
    let ends = (ends_char 35 c.args.url.now c.ends_with-2.result c.ends_with-2.ensures.cases (lit< tt)).0 c.if-ends_with-2.true in
    fault_at_last (FindsInTail c.args.url.now c.args.rest.now) AmbiguousEnd (take (length c.args.url.now - 1) c.args.url.now) 35 refl (record { front = c.args.url.now; joined = refl; utf8 = c.utf8.rest }) ends (lit< tt)
    c.at-then-ends_with-2.ensures.kind c.at-then-ends_with-2.ensures.place c.at_last-then-ends_with-2.ensures.piece c.at_last-then-ends_with-2.ensures.left
    (ends_ambiguous 35 _ _ ends (inr refl) (sym c.skip_space-end.ensures.rest ∙ c.in-Some.ensures.characters) c.if-found-eq59.false)

pub returns-clause-refused : goal.returns-clause-refused
returns-clause-refused c = not_tail _ _ _ _ c.skip_space-end.ensures.rest c.in-Some.ensures.characters c.if-found-eq59.false

pub returns-clause-fault : goal.returns-clause-fault
returns-clause-fault c =
    let semicolon = (ends_char 59 c.args.url.now c.ends_with.result c.ends_with.ensures.cases (lit< tt)).1 in
    let hash = (ends_char 35 c.args.url.now c.ends_with-2.result c.ends_with-2.ensures.cases (lit< tt)).1 in
    fault_at_first (FindsInTail c.args.url.now c.args.rest.now) Trailing c.in-Some.found (behind_url _ _ _ c.skip_space-end.ensures.suffix) c.in-Some.ensures.suffix c.in-Some.ensures.bytes
    c.at-2.ensures.kind c.at-2.ensures.place c.before-2.ensures.piece c.before-2.ensures.left
    (λ e. trailing (ap chars (sym c.before-2.ensures.piece) ∙ c.skip_space-end.ensures.rest) (record { c = c.in-Some.found; is = e; holds = c.if-found-eq59.false })
    (unmarked_url (λ front f. true≢false (sym (semicolon front f) ∙ c.if-ends_with.false)) (λ front f. true≢false (sym (hash front f) ∙ c.if-ends_with-2.false))))
