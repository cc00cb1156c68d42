-- Markers by number: their truths, while the interner grows and is released.
use Rattle.std.proofs.Common.{◌≡◌, ◌∙◌, ℕ, ◌≤◌, ◌<◌, List, [], ◌∷◌, ◌++◌, length, take, get_or, ◌-◌, Some, None, Option, Bool, true, false, ◌⊎◌, inl, inr, refl, sym, ap, subst, arith}
use Rattle.std.specs.Prelude.{Result, Ok, Err, IfOk, IfErr, slice_get, option_map, not, ◌&&◌, ◌||◌, ◌↔◌, IfSome, IsTrue, slice_index_or}
use Rattle.std.proofs.Math.Logic.{∥∥₁_elim}
use Rattle.std.proofs.lemmas.List.{get_or-take, length-append, length-map, length-take, length-take-le, map_push, take-append-le, take-map, take-take, take_at}
use Rattle.std.proofs.lemmas.List.Elements.{All-head, All-nil, All-push, All-tail, All-take, All-weaker}
use Rattle.std.proofs.lemmas.List.Sorted.{IsNonDecreasingBy-push, IsNonDecreasingBy-short, IsNonDecreasingBy-take}
use Rattle.std.proofs.lemmas.Option.{get_or_from_slice_get, slice_get-map, slice_get_within}
use Rattle.marker_diagrams.specs.Id.{place_of}
use Rattle.marker_graph.specs.declared.mark.Mark.{Mark}
use Rattle.marker_graph.specs.declared.tree.MarkerTree.{MarkerTree}
use Rattle.marker_graph.specs.Contents.{Contents, IsHeld, IsKept, Separated, truth}
use Rattle.marker_graph.specs.Mark.{IsMarkOf}
use Rattle.pep508_markers.specs.Machine.{Truth, Cells, Holds, IsMissing, Makes, Tells, TellsEqual, TellsDisjoint, conjunction, disjunction, negation, equal, disjoint}
use Rattle.marker_environment.specs.Environment.{Values, values_of, valuation_of}
use Rattle.marker_environment.specs.Valuation.{Valuation}
use Rattle.foreign_calls.specs.declared.answer.Answer.{Answer}
use Rattle.foreign_calls.specs.declared.answer.Answer.TheVariants as answers
use Rattle.foreign_calls.specs.declared.environment.Environment.{Environment}
use Rattle.foreign_calls.specs.Environment.{AreGiven, Names}
use Rattle.foreign_calls.specs.Marker.{HasValue, Says, IsTreeFor, IsTextOf}
use Rattle.foreign_calls.specs.Refused.{IsOutOfMemory, IsOfArguments}
use Rattle.foreign_calls.proofs.KeptLaws.{truth_kept, held_kept}
use Rattle.foreign_markers.specs.declared.markers.Growth.{Growth}
use Rattle.foreign_markers.specs.Numbers.{Adds, HasText}
use Rattle.foreign_markers.specs.declared.markers.KnownEnvironment.{KnownEnvironment}
use Rattle.foreign_markers.specs.Interner.{HasValueAt, HasValueThere, InternerState, IsSetTo, empty_state}
use Rattle.foreign_markers.specs.Held.{truths_in, AreBefore, AreBeforeNumber, AreGrowths, AreHeld, IsGrowth, IsReleasedTo, MayHaveMore}
use Rattle.foreign_markers.specs.Refused.{Others, IsRefused, is_missing, is_other, TakesArguments, TakesEnvironment, TakesLooks, TakesMemory}

-- markers that stay in the interner have the truths that they had
pub truths_kept : (c d : Contents) (trees : List MarkerTree) → IsKept c d → AreHeld c trees → truths_in d trees ≡ truths_in c trees
truths_kept c d [] kept p = refl
truths_kept c d (t ∷ trees) kept p = λ i. (λ v. truth_kept c d t kept (All-head (IsHeld c) t trees p) v i) ∷ truths_kept c d trees kept (All-tail (IsHeld c) t trees p) i

-- and are there
pub are_kept : (c d : Contents) (trees : List MarkerTree) → IsKept c d → AreHeld c trees → AreHeld d trees
are_kept c d trees kept p = All-weaker (IsHeld c) (IsHeld d) (λ t. held_kept c d t kept) trees p

-- the interner had all markers at its mark
pub at_mark : (c : Contents) (trees : List MarkerTree) (mark : Mark) → IsMarkOf c mark → AreHeld c trees → AreBefore mark trees
at_mark c trees mark is p = All-weaker (IsHeld c) (λ t. place_of t.id ≤ mark.nodes) (λ t held. subst (λ (n : ℕ). place_of t.id ≤ n) (sym is.nodes) held) trees p

-- one marker more
pub held_more : (c : Contents) (trees : List MarkerTree) (new : MarkerTree) {all : List MarkerTree} → all ≡ trees ++ (new ∷ []) → AreHeld c trees → IsHeld c new → AreHeld c all
held_more c trees new put p held = subst (AreHeld c) (sym put) (All-push (IsHeld c) trees new p held)

pub truths_more : (c : Contents) (trees : List MarkerTree) (new : MarkerTree) {all : List MarkerTree} → all ≡ trees ++ (new ∷ []) → truths_in c all ≡ truths_in c trees ++ (truth c new ∷ [])
truths_more c trees new put = ap (truths_in c) put ∙ map_push (truth c) trees new

-- a growth before a marker that came later
growth_more : (trees : List MarkerTree) (new : MarkerTree) (growth : Growth) → IsGrowth trees growth → IsGrowth (trees ++ (new ∷ [])) growth
growth_more trees new growth p = record {
  within = omega (arith, p.within, length-append trees (new ∷ []));
  before = subst (AreBefore growth.before) (sym (take-append-le growth.number trees (new ∷ []) p.within)) p.before;
}

-- the growths after a marker without new nodes
still : (trees : List MarkerTree) (growths : List Growth) (new : MarkerTree) → AreGrowths trees growths → AreGrowths (trees ++ (new ∷ [])) growths
still trees growths new p = record {
  each = All-weaker (IsGrowth trees) (IsGrowth (trees ++ (new ∷ []))) (growth_more trees new) growths p.each;
  ascend = p.ascend;
}

-- and after one with new nodes
more : (trees : List MarkerTree) (growths : List Growth) (new : MarkerTree) (growth : Growth) → growth.number ≡ length trees → AreBefore growth.before trees → AreGrowths trees growths → AreGrowths (trees ++ (new ∷ [])) (growths ++ (growth ∷ []))
more trees growths new growth number before p = record {
  each = All-push (IsGrowth (trees ++ (new ∷ []))) growths growth (still trees growths new p).each last;
  ascend = IsNonDecreasingBy-push (λ (g : Growth). g.number) growths growth p.ascend (λ d some. omega (arith, number, (p.each (length growths - 1) d (omega (arith, some))).within));
}
  where
    last : IsGrowth (trees ++ (new ∷ [])) growth
    last = record {
      within = omega (arith, number, length-append trees (new ∷ []));
      before = subst (AreBefore growth.before) (sym (take_at trees (new ∷ []) growth.number (sym number))) before;
    }

pub grown_same : (trees : List MarkerTree) (growths : List Growth) {all : List MarkerTree} {same : List Growth} → all ≡ trees → same ≡ growths → AreGrowths trees growths → AreGrowths all same
grown_same trees growths {same = same} put is p = subst (λ (ts : List MarkerTree). AreGrowths ts same) (sym put) (subst (AreGrowths trees) (sym is) p)

pub grown_still : (trees : List MarkerTree) (growths : List Growth) (new : MarkerTree) {all : List MarkerTree} {same : List Growth} → all ≡ trees ++ (new ∷ []) → same ≡ growths → AreGrowths trees growths → AreGrowths all same
grown_still trees growths new put is p = grown_same (trees ++ (new ∷ [])) growths put is (still trees growths new p)

pub grown_more : (trees : List MarkerTree) (growths : List Growth) (new : MarkerTree) (growth : Growth) {all : List MarkerTree} {noted : List Growth} → all ≡ trees ++ (new ∷ []) → MayHaveMore growth growths noted → growth.number ≡ length trees → AreBefore growth.before trees → AreGrowths trees growths → AreGrowths all noted
grown_more trees growths new growth put (inl is) number before p = grown_still trees growths new put is p
grown_more trees growths new growth put (inr is) number before p = grown_same (trees ++ (new ∷ [])) (growths ++ (growth ∷ [])) put is (more trees growths new growth number before p)

-- an interner has what it had and what was there at the mark
abbrev pub Releases : Contents → Mark → Contents → Type 0
Releases old mark new = (t : MarkerTree) → IsHeld new t ↔ (IsHeld old t × (place_of t.id ≤ mark.nodes))

-- after a release to a mark at which all were there
pub still_held : (c d : Contents) (trees : List MarkerTree) {all : List MarkerTree} (mark : Mark) → all ≡ trees → Releases c mark d → AreHeld c trees → AreBefore mark trees → AreHeld d all
still_held c d trees mark same released p before = subst (AreHeld d) (sym same) (λ k x within. (released (slice_index_or trees k x)).1 (p k x within, before k x within))

-- after a release to the mark of a growth, those before it
first_held_of : (c d : Contents) (trees : List MarkerTree) (n : ℕ) (growth : Growth) → n ≤ growth.number → Releases c growth.before d → AreHeld c trees → IsGrowth trees growth → AreHeld d (take n trees)
first_held_of c d trees n growth later released p is = still_held c d (take n trees) growth.before refl released (All-take (IsHeld c) n trees p)
    (subst (AreBefore growth.before) (take-take n growth.number trees later) (All-take (λ (t : MarkerTree). place_of t.id ≤ growth.before.nodes) n (take growth.number trees) is.before))

-- after a release to the first growth at this number or later, those before it
held_before : (c d : Contents) (trees : List MarkerTree) (growths : List Growth) (n k : ℕ) (first : Option Growth) → IfSome first (λ g. slice_get growths k ≡ Some g) → IsReleasedTo first c d → AreBeforeNumber n growths k
    → AreHeld c trees → AreGrowths trees growths → AreHeld d (take n trees)
held_before c d trees growths n k None found same parted held p = subst (λ (x : Contents). AreHeld x (take n trees)) (sym same) (All-take (IsHeld c) n trees held)
held_before c d trees growths n k (Some growth) found released parted held p = first_held_of c d trees n growth later released held is
  where
    there : k < length growths
    there = slice_get_within growths k growth found

    it : get_or growths k growth ≡ growth
    it = get_or_from_slice_get growths k growth growth found

    later : n ≤ growth.number
    later = subst (λ (g : Growth). n ≤ g.number) it (parted.1 k growth (omega (arith)) there)

    is : IsGrowth trees growth
    is = subst (IsGrowth trees) it (p.each k growth there)

pub first_held : (c d : Contents) (trees : List MarkerTree) (growths : List Growth) (n k : ℕ) (first : Option Growth) {all : List MarkerTree} → IfSome first (λ g. slice_get growths k ≡ Some g) → IsReleasedTo first c d → AreBeforeNumber n growths k
    → AreHeld c trees → AreGrowths trees growths → all ≡ take n trees → AreHeld d all
first_held c d trees growths n k first found released parted held p put = subst (AreHeld d) (sym put) (held_before c d trees growths n k first found released parted held p)

pub first_truths : (c d : Contents) (trees : List MarkerTree) (growths : List Growth) (n k : ℕ) (first : Option Growth) {all : List MarkerTree} → IsKept d c → IfSome first (λ g. slice_get growths k ≡ Some g) → IsReleasedTo first c d
    → AreBeforeNumber n growths k → AreHeld c trees → AreGrowths trees growths → all ≡ take n trees → truths_in d all ≡ take n (truths_in c trees)
first_truths c d trees growths n k first {all} kept found released parted held p put = sym (truths_kept d c all kept (first_held c d trees growths n k first found released parted held p put)) ∙ ap (truths_in c) put ∙ sym (take-map (truth c) n trees)

-- the growths before this number
pub first_grown : (trees : List MarkerTree) (growths : List Growth) (n k : ℕ) {all : List MarkerTree} {first : List Growth} → all ≡ take n trees → first ≡ take k growths
    → AreBeforeNumber n growths k → k ≤ length growths → AreGrowths trees growths → AreGrowths all first
first_grown trees growths n k {first = first} put is parted within p = subst (λ (ts : List MarkerTree). AreGrowths ts first) (sym put) (subst (AreGrowths (take n trees)) (sym is) (record {
  each = λ j d below. subst (IsGrowth (take n trees)) (sym (get_or-take k growths j d (inside j below))) (growth (get_or growths j d) (parted.0 j d (omega (arith)) (inside j below)) (p.each j d (omega (arith, inside j below, within))));
  ascend = IsNonDecreasingBy-take (λ (g : Growth). g.number) k growths p.ascend;
}))
  where
    inside : (j : ℕ) → j < length (take k growths) → j < k
    inside j below = omega (arith, below, length-take-le k growths within)

    growth : (g : Growth) → g.number < n → IsGrowth trees g → IsGrowth (take n trees) g
    growth g below q = record {
      within = omega (arith, below, q.within, length-take n trees);
      before = subst (AreBefore g.before) (sym (take-take g.number n trees (omega (arith, below)))) q.before;
    }

-- an interner without markers
pub none_held : (c : Contents) {trees : List MarkerTree} → trees ≡ [] → AreHeld c trees
none_held c none = subst (AreHeld c) (sym none) (All-nil (IsHeld c))

pub none_grown : {trees : List MarkerTree} {growths : List Growth} → growths ≡ [] → AreGrowths trees growths
none_grown {trees} none = subst (AreGrowths trees) (sym none) (record { each = All-nil (IsGrowth trees); ascend = IsNonDecreasingBy-short (λ (g : Growth). g.number) [] (omega (arith)) })

pub no_truths : (c : Contents) {trees : List MarkerTree} → trees ≡ [] → truths_in c trees ≡ []
no_truths c none = ap (truths_in c) none

pub is_empty : (c : Contents) {trees : List MarkerTree} {s : InternerState} → trees ≡ [] → s.cells ≡ truths_in c trees → s.environment ≡ None → s ≡ empty_state
is_empty c none is e i = record { cells = (is ∙ no_truths c none) i; environment = e i }

-- the marker of a number
pub tree_holds : (c : Contents) (trees : List MarkerTree) (n : ℕ) (t : MarkerTree) → slice_get trees n ≡ Some t → Holds (truths_in c trees) n (truth c t)
tree_holds c trees n t found = slice_get-map (truth c) trees n ∙ ap (option_map (truth c)) found

pub tree_held : (c : Contents) (trees : List MarkerTree) (n : ℕ) (t : MarkerTree) → AreHeld c trees → slice_get trees n ≡ Some t → IsHeld c t
tree_held c trees n t p found = subst (IsHeld c) (get_or_from_slice_get trees n t t found) (p n t (slice_get_within trees n t found))

pub past : (c : Contents) (trees : List MarkerTree) (n : ℕ) → length trees ≤ n → length (truths_in c trees) ≤ n
past c trees n h = omega (arith, h, length-map trees (truth c))

pub count_is : (c : Contents) (trees : List MarkerTree) {n : ℕ} → n ≡ length trees → n ≡ length (truths_in c trees)
count_is c trees h = h ∙ sym (length-map trees (truth c))

-- a number that no marker has
pub missing_one : {P : Others} (s : InternerState) (a : ℕ) → length s.cells ≤ a → IsRefused P (a ∷ []) s answers.NoSuchMarker
missing_one s a h = is_missing refl (inl h)

two_missing : (cells : Cells) (a b : ℕ) → (length cells ≤ a) ⊎ (length cells ≤ b) → IsMissing cells (a ∷ b ∷ [])
two_missing cells a b (inl h) = inl h
two_missing cells a b (inr h) = inr (inl h)

pub missing_two : {P : Others} (s : InternerState) (a b : ℕ) → (length s.cells ≤ a) ⊎ (length s.cells ≤ b) → IsRefused P (a ∷ b ∷ []) s answers.NoSuchMarker
missing_two s a b h = is_missing refl (two_missing s.cells a b h)

-- a marker that is there is not missing
is_there : (cells : Cells) (a : ℕ) (f : Truth) → Holds cells a f → length cells ≤ a → ⊥
is_there cells a f found h = absurd (omega (arith, h, slice_get_within cells a f found))

one_there : (cells : Cells) (a : ℕ) (f : Truth) → Holds cells a f → ¬ IsMissing cells (a ∷ [])
one_there cells a f found (inl h) = is_there cells a f found h
one_there cells a f found (inr h) = h

two_there : (cells : Cells) (a b : ℕ) (f g : Truth) → Holds cells a f → Holds cells b g → ¬ IsMissing cells (a ∷ b ∷ [])
two_there cells a b f g found other (inl h) = is_there cells a f found h
two_there cells a b f g found other (inr h) = one_there cells b g other h

-- another answer comes where each number has a marker
pub limited_one : (s : InternerState) (a : ℕ) (answer : Answer) (f : Truth) → Holds s.cells a f → IsOutOfMemory answer → IsRefused TakesMemory (a ∷ []) s answer
limited_one s a answer f found p = is_other p (one_there s.cells a f found)

pub limited_two : (s : InternerState) (a b : ℕ) (answer : Answer) (f g : Truth) → Holds s.cells a f → Holds s.cells b g → IsOutOfMemory answer → IsRefused TakesMemory (a ∷ b ∷ []) s answer
limited_two s a b answer f g found there p = is_other p (two_there s.cells a b f g found there)

pub complex_two : (s : InternerState) (a b : ℕ) (f g : Truth) → Holds s.cells a f → Holds s.cells b g → IsRefused TakesLooks (a ∷ b ∷ []) s answers.TooComplex
complex_two s a b f g found there = is_other refl (two_there s.cells a b f g found there)

pub unset_one : (s : InternerState) (a : ℕ) (f : Truth) → Holds s.cells a f → s.environment ≡ None → IsRefused TakesEnvironment (a ∷ []) s answers.NoEnvironment
unset_one s a f found unset = is_other (refl, unset) (one_there s.cells a f found)

pub refused_one : (s : InternerState) (a : ℕ) (answer : Answer) (f : Truth) → Holds s.cells a f → IsOfArguments answer → IsRefused TakesArguments (a ∷ []) s answer
refused_one s a answer f found p = is_other p (one_there s.cells a f found)

-- the truths are as before, while the interner grew
pub truths_then : (c d : Contents) (trees : List MarkerTree) {all : Cells} → IsKept c d → AreHeld c trees → all ≡ truths_in d trees → all ≡ truths_in c trees
truths_then c d trees kept p same = same ∙ truths_kept c d trees kept p

-- and after it was released again
pub truths_back : (c d : Contents) (trees : List MarkerTree) {all : List MarkerTree} (mark : Mark) → all ≡ trees → Releases c mark d → IsKept d c → AreHeld c trees → AreBefore mark trees → truths_in d all ≡ truths_in c trees
truths_back c d trees mark same released kept p before = ap (truths_in d) same ∙ sym (truths_kept d c trees kept (still_held c d trees mark refl released p before))

-- a new marker
pub adds : (c : Contents) (trees : List MarkerTree) {all : List MarkerTree} {number : ℕ} (new : MarkerTree) → all ≡ trees ++ (new ∷ []) → number ≡ length trees → Adds (λ f. f ≡ truth c new) (truths_in c trees) (truths_in c all) number
adds c trees new put number_is = record { truth = truth c new; means = refl; number_is = count_is c trees number_is; new_is = truths_more c trees new put }

adds_then : {P Q : Truth → Type 0} {old middle new : Cells} {number : ℕ} → middle ≡ old → ((f : Truth) → P f → Q f) → Adds P middle new number → Adds Q old new number
adds_then same means p = record { truth = p.truth; means = means p.truth p.means; number_is = p.number_is ∙ ap length same; new_is = p.new_is ∙ ap (λ (fs : Cells). fs ++ (p.truth ∷ [])) same }

pub adds_text : (c d : Contents) (trees : List MarkerTree) {new : Cells} {number : ℕ} {text : List ℕ} (t : MarkerTree) → IsKept c d → AreHeld c trees → IsTreeFor d text t → Adds (λ f. f ≡ truth d t) (truths_in d trees) new number → Adds (Says text) (truths_in c trees) new number
adds_text c d trees {text = text} t kept p is = adds_then (truths_kept c d trees kept p) (λ f e. subst (Says text) (sym e) is.says)

module _ (c d : Contents) (trees : List MarkerTree) {new : Cells} {number : ℕ} (a b : ℕ) (t u w : MarkerTree) (kept : IsKept c d) (p : AreHeld c trees)
    (found : Holds (truths_in c trees) a (truth c t)) (other : Holds (truths_in c trees) b (truth c u)) (is : IsHeld c t) (too : IsHeld c u) where
  pub adds_and : ((v : Valuation) → truth d w v ≡ (truth d t v && truth d u v)) → Adds (λ f. f ≡ truth d w) (truths_in d trees) new number
      → Adds (λ f. Makes (truths_in c trees) (conjunction a b) f []) (truths_in c trees) new number
  adds_and means = adds_then (truths_kept c d trees kept p) (λ f e. (truth c t, truth c u, found, other, e ∙ both, refl))
    where
      both : truth d w ≡ (λ v. truth c t v && truth c u v)
      both i v = (means v ∙ ap (λ x. x && truth d u v) (truth_kept c d t kept is v) ∙ ap (λ x. truth c t v && x) (truth_kept c d u kept too v)) i

  pub adds_or : ((v : Valuation) → truth d w v ≡ (truth d t v || truth d u v)) → Adds (λ f. f ≡ truth d w) (truths_in d trees) new number
      → Adds (λ f. Makes (truths_in c trees) (disjunction a b) f []) (truths_in c trees) new number
  adds_or means = adds_then (truths_kept c d trees kept p) (λ f e. (truth c t, truth c u, found, other, e ∙ either, refl))
    where
      either : truth d w ≡ (λ v. truth c t v || truth c u v)
      either i v = (means v ∙ ap (λ x. x || truth d u v) (truth_kept c d t kept is v) ∙ ap (λ x. truth c t v || x) (truth_kept c d u kept too v)) i

pub adds_not : (c : Contents) (trees : List MarkerTree) {new : Cells} {number : ℕ} (a : ℕ) (t u : MarkerTree) → Holds (truths_in c trees) a (truth c t) → ((d : Contents) (v : Valuation) → truth d u v ≡ not (truth d t v))
    → Adds (λ f. f ≡ truth c u) (truths_in c trees) new number → Adds (λ f. Makes (truths_in c trees) (negation a) f []) (truths_in c trees) new number
adds_not c trees a t u found means = adds_then refl (λ f e. (truth c t, found, e ∙ (λ i v. means c v i), refl))

-- the answer to a question
equals : (c : Contents) (t u : MarkerTree) (answer : Bool) → (IsTrue answer ↔ (t ≡ u)) → (answer ≡ false → Separated c t u) → TellsEqual (truth c t) (truth c u) answer
equals c t u true same apart = λ v. ap (λ (x : MarkerTree). truth c x v) (same.0 refl)
equals c t u false same apart = apart refl

pub tells_equal : (c : Contents) (cells : Cells) (a b : ℕ) (answer : Bool) (t u : MarkerTree) → Holds cells a (truth c t) → Holds cells b (truth c u) → (IsTrue answer ↔ (t ≡ u)) → (answer ≡ false → Separated c t u) → Tells cells (equal a b) answer
tells_equal c cells a b answer t u found other same apart = (truth c t, truth c u, found, other, equals c t u answer same apart)

disjoints : (f g : Truth) (answer : Bool) → (Some answer ≡ Some true → (v : Valuation) → (f v && g v) ≡ false) → (Some answer ≡ Some false → (v : Valuation) × (f v ≡ true) × (g v ≡ true)) → TellsDisjoint f g answer
disjoints f g true apart shared = apart refl
disjoints f g false apart shared = let p = shared refl in (p.0, ap (λ x. x && g p.0) p.1 ∙ p.2)

pub tells_disjoint : (c : Contents) (cells : Cells) (a b : ℕ) (found : Option Bool) (answer : Bool) (t u : MarkerTree) → Holds cells a (truth c t) → Holds cells b (truth c u) → found ≡ Some answer
    → (found ≡ Some true → (v : Valuation) → (truth c t v && truth c u v) ≡ false) → (found ≡ Some false → (v : Valuation) × (truth c t v ≡ true) × (truth c u v ≡ true)) → Tells cells (disjoint a b) answer
tells_disjoint c cells a b found answer t u there other is apart shared = (truth c t, truth c u, there, other, disjoints (truth c t) (truth c u) answer (λ e. apart (is ∙ e)) (λ e. shared (is ∙ e)))

pub has_text : (c : Contents) {cells : Cells} {a : ℕ} {bytes : List ℕ} (t : MarkerTree) → Holds cells a (truth c t) → IsTextOf (truth c t) bytes → HasText cells a bytes
has_text c t found p = record { truth = truth c t; is_there = found; written = p }

pub has_value_at : (c : Contents) {cells : Cells} {a : ℕ} {e : Environment} {extras names read : List (List ℕ)} {value : Bool} (t : MarkerTree) (values : Values) → Holds cells a (truth c t) → ∥ AreGiven e values ∥₁ → Names extras names → read ≡ names → value ≡ truth c t (valuation_of values read) → HasValueAt a e extras value cells
has_value_at c {e = e} {extras = extras} {read = read} {value = value} t values found p q same is = record { truth = truth c t; is_there = found; has_value = ∥∥₁_elim p squash₁ (λ given. ∣ there_is given ∣₁) }
  where
    there_is : AreGiven e values → HasValue (truth c t) e extras value
    there_is given = record { values = values; given = given; names = read; are_names = subst (λ (n : List (List ℕ)). Names extras n) (sym same) q; value_is = is }

pub has_value_there : (c : Contents) {s : InternerState} {a : ℕ} {value : Bool} (t : MarkerTree) (known : KnownEnvironment) → Holds s.cells a (truth c t) → s.environment ≡ Some known → value ≡ truth c t (valuation_of (values_of known.environment) known.extras.items) → HasValueThere a value s
has_value_there c t known found is value = record { truth = truth c t; is_there = found; known = known; environment_is = is; value_is = value }

-- an environment that was read
pub is_set_to : {e : Environment} {extras : List (List ℕ)} (known : KnownEnvironment) → AreGiven e (values_of known.environment) → Names extras known.extras.items → IsSetTo e extras (Some known)
is_set_to known p q = record { known = known; is_there = refl; given = p; names = q }

-- a fact of a result gives another
pub on_ok : {T E : Type 0} {P Q : T → Type 0} (result : Result T E) → ((x : T) → P x → Q x) → IfOk result P → IfOk result Q
on_ok (Ok x) f p = f x p
on_ok (Err e) f p = p

pub on_err : {T E : Type 0} {P Q : E → Type 0} (result : Result T E) → ((e : E) → P e → Q e) → IfErr result P → IfErr result Q
on_err (Ok x) f p = p
on_err (Err e) f p = f e p

pub ruleset beginning = (none_held, none_grown, is_empty)

pub ruleset parsing = (are_kept, at_mark)

pub ruleset joining = (are_kept, at_mark, missing_two)

pub ruleset negating = (missing_one)

pub ruleset looking_up = (tree_holds, tree_held, past)

pub ruleset separating = (missing_two, complex_two)

pub ruleset evaluating = (missing_one, refused_one)

pub ruleset setting = (is_set_to)

pub ruleset asking = (missing_one, unset_one)

pub ruleset printing = (has_text, missing_one)
