-- Cells and steps of a session.
use Rattle.std.proofs.Common.{◌≡◌, ℕ, zero, ◌+◌, ◌≤◌, ◌<◌, suc, Bool, true, false, List, [], ◌∷◌, ◌++◌, length, take, get_or, Some, ◌⊎◌, inl, inr, sym, ap, ◌∙◌, subst, refl, arith}
use Rattle.std.specs.Prelude.{map, slice_get, option_map, not, ◌&&◌, ◌||◌, Option, IsTrue, if◌then◌else◌}
use Rattle.std.proofs.lemmas.List.{map_push, take_more, length-map}
use Rattle.std.proofs.lemmas.Option.{slice_get-map}
use Rattle.std.specs.declared.ops.Bound.{Bound}
use Rattle.refusal.specs.declared.Refusal.{Refusal}
use Rattle.refusal.specs.declared.Refusal.TheVariants.{SegmentAtEnd, Fault}
use Rattle.pep440_version.specs.Parts.{Parts}
use Rattle.pep508_errors.specs.declared.warning.MarkerWarningKind.{MarkerWarningKind}
use Rattle.marker_environment.specs.Valuation.{Valuation}
use Rattle.marker_graph.specs.declared.tree.MarkerTree.{MarkerTree}
use Rattle.marker_parts.specs.Expression.{Test, holds, Overflows}
use Rattle.marker_graph.specs.Contents.{Contents, HoldsTheSame, IsHeld, IsKept, Separated, truth}
use Rattle.marker_graph.proofs.KeptLaws.{kept_same}
use Rattle.marker_graph.specs.Expression.{IsInvalid}
use Rattle.marker_graph.specs.Expression as graph
use Rattle.marker_graph.specs.Python.{Assumes, require}
use Rattle.marker_graph.specs.Extras.{grant, is_listed}
use Rattle.marker_graph.specs.Texts.{IsTreeOf}
use Rattle.marker_graph.specs.Possible.{IsPossible, IsImpossible}
use Rattle.marker_grammar.specs.Formula.{Formula}
use Rattle.marker_grammar.specs.HasTest.{Says}
use Rattle.pep508_markers.specs.FormulaTree.{IsRefusal}
use Rattle.pep508_markers.specs.declared.session.Command.{Command}
use Rattle.pep508_markers.specs.declared.session.Reason as reasons
use Rattle.pep508_markers.specs.declared.session.Reply.{Reply}
use Rattle.pep508_markers.specs.declared.session.Reply.TheVariants.{Cell as CellIs, Truth as TruthIs, Text as TextIs, Refused}
use Rattle.pep508_markers.specs.Machine.{Truth, Cells, Making, Reason, Request, make, Answer, cell, Holds, Makes, Tells, TellsEqual, TellsDisjoint, named, IsMissing, missing, starved, makes, refuses, refused, no_such_cell, out_of_memory, Step, Run, done, next, TellsPossible, parse, expression, negation, conjunction, disjunction, simplify_python, complexify_python, simplify_extras, equal, disjoint, evaluate_extras}
use Rattle.pep508_markers.specs.Cells.{AreHeld, truths_of}
use Rattle.pep508_markers.specs.Session.{OnRefused, request_of, answer_of}
use Rattle.pep508_markers.proofs.TreeLaws.{held_kept, truth_kept}

-- the truth of a tree that was in the interner stays the same
same_truth : (c d : Contents) (t : MarkerTree) → IsKept c d → IsHeld c t → truth d t ≡ truth c t
same_truth c d t kept held = λ i v. truth_kept c d t kept held v i

tail_held : (c : Contents) (t : MarkerTree) (trees : List MarkerTree) → AreHeld c (t ∷ trees) → AreHeld c trees
tail_held c t trees held a u found = held (suc a) u found

pub truths_kept : (c d : Contents) (trees : List MarkerTree) → IsKept c d → AreHeld c trees → truths_of d trees ≡ truths_of c trees
truths_kept c d [] kept held = refl
truths_kept c d (t ∷ trees) kept held = λ i. same_truth c d t kept (held 0 t refl) i ∷ truths_kept c d trees kept (tail_held c t trees held) i

pub are_kept : (c d : Contents) (trees : List MarkerTree) → IsKept c d → AreHeld c trees → AreHeld d trees
are_kept c d trees kept held a t found = held_kept c d t kept (held a t found)

some_is : {t u : MarkerTree} → Some t ≡ Some u → t ≡ u
some_is e = cc

-- one tree more
pub held_more : (c : Contents) (trees : List MarkerTree) (t : MarkerTree) → AreHeld c trees → IsHeld c t → AreHeld c (trees ++ (t ∷ []))
held_more c [] t held now zero u found = subst (IsHeld c) (some_is found) now
held_more c [] t held now (suc a) u found = absurd cc
held_more c (s ∷ trees) t held now zero u found = held 0 u found
held_more c (s ∷ trees) t held now (suc a) u found = held_more c trees t (tail_held c s trees held) now a u found

pub truths_more : (c : Contents) (trees : List MarkerTree) (t : MarkerTree) {all : List MarkerTree} → all ≡ trees ++ (t ∷ []) → truths_of c all ≡ truths_of c trees ++ (truth c t ∷ [])
truths_more c trees t put = ap (truths_of c) put ∙ map_push (truth c) trees t

-- the cell of a number
pub cell_holds : (c : Contents) (trees : List MarkerTree) (a : ℕ) (t : MarkerTree) → slice_get trees a ≡ Some t → Holds (truths_of c trees) a (truth c t)
cell_holds c trees a t found = slice_get-map (truth c) trees a ∙ ap (option_map (truth c)) found

pub missing_cell : (c : Contents) (trees : List MarkerTree) (a : ℕ) → length trees ≤ a → length (truths_of c trees) ≤ a
missing_cell c trees a h = omega (arith, h, length-map trees (truth c))

-- a cell that is there is not missing
there : (cells : Cells) (a : ℕ) (f : Truth) → Holds cells a f → length cells ≤ a → ⊥
there [] a f found h = absurd cc
there (g ∷ cells) zero f found h = absurd (omega (arith, h))
there (g ∷ cells) (suc a) f found h = there cells a f found (omega (arith, h))

one_there : (cells : Cells) (a : ℕ) (f : Truth) → Holds cells a f → ¬ IsMissing cells (a ∷ [])
one_there cells a f found (inl h) = there cells a f found h
one_there cells a f found (inr h) = h

two_there : (cells : Cells) (a b : ℕ) (f g : Truth) → Holds cells a f → Holds cells b g → ¬ IsMissing cells (a ∷ b ∷ [])
two_there cells a b f g found other (inl h) = there cells a f found h
two_there cells a b f g found other (inr h) = one_there cells b g other h

-- the cells that a making names are there
all_there : (cells : Cells) (making : Making) (f : Truth) (kinds : List MarkerWarningKind) → Makes cells making f kinds → ¬ IsMissing cells (named (make making))
all_there cells (parse t) f kinds m h = h
all_there cells (expression e) f kinds m h = h
all_there cells (negation a) f kinds m h = one_there cells a m.0 m.1 h
all_there cells (conjunction a b) f kinds m h = two_there cells a b m.0 m.1 m.2 m.3 h
all_there cells (disjunction a b) f kinds m h = two_there cells a b m.0 m.1 m.2 m.3 h
all_there cells (simplify_python a lower upper) f kinds m h = one_there cells a m.0 m.1 h
all_there cells (complexify_python a lower upper) f kinds m h = one_there cells a m.0 m.1 h
all_there cells (simplify_extras a extras) f kinds m h = one_there cells a m.0 m.1 h

pub one_is_there : (c : Contents) (trees : List MarkerTree) (a : ℕ) (t : MarkerTree) → slice_get trees a ≡ Some t → ¬ IsMissing (truths_of c trees) (a ∷ [])
one_is_there c trees a t found = one_there _ a (truth c t) (cell_holds c trees a t found)

pub two_are_there : (c : Contents) (trees : List MarkerTree) (a b : ℕ) (t u : MarkerTree) → slice_get trees a ≡ Some t → slice_get trees b ≡ Some u → ¬ IsMissing (truths_of c trees) (a ∷ b ∷ [])
two_are_there c trees a b t u found other = two_there _ a b (truth c t) (truth c u) (cell_holds c trees a t found) (cell_holds c trees b u other)

-- a request is refused, and the cells stay
module _ (c : Contents) (trees : List MarkerTree) (a : ℕ) where
  pub refuses_one : {request : Request} → named request ≡ a ∷ [] → length trees ≤ a → Step (truths_of c trees) request (refused no_such_cell) (truths_of c trees)
  refuses_one names h = refuses (missing (subst (IsMissing (truths_of c trees)) (sym names) (inl (missing_cell c trees a h)))) refl

  pub refuses_two : {request : Request} (b : ℕ) → named request ≡ a ∷ b ∷ [] → (length trees ≤ a) ⊎ (length trees ≤ b) → Step (truths_of c trees) request (refused no_such_cell) (truths_of c trees)
  refuses_two b names h = refuses (missing (subst (IsMissing (truths_of c trees)) (sym names) (either_missing h))) refl
    where
      either_missing : (length trees ≤ a) ⊎ (length trees ≤ b) → IsMissing (truths_of c trees) (a ∷ b ∷ [])
      either_missing (inl h) = inl (missing_cell c trees a h)
      either_missing (inr h) = inr (inl (missing_cell c trees b h))

-- a new cell, and no room for one
pub adds : (c : Contents) (trees all : List MarkerTree) (t : MarkerTree) (number : ℕ) (kinds : List MarkerWarningKind) (making : Making) → all ≡ trees ++ (t ∷ []) → number ≡ length trees → Makes (truths_of c trees) making (truth c t) kinds → Step (truths_of c trees) (make making) (cell number kinds) (truths_of c all)
adds c trees all t number kinds making put number_is m = makes (truth c t) m (number_is ∙ sym (length-map trees (truth c))) (truths_more c trees t put)

pub has_no_room : (c : Contents) (trees all : List MarkerTree) (t : MarkerTree) (kinds : List MarkerWarningKind) (making : Making) → all ≡ trees → Makes (truths_of c trees) making (truth c t) kinds → Step (truths_of c trees) (make making) (refused out_of_memory) (truths_of c all)
has_no_room c trees all t kinds making same m = refuses (starved (all_there _ making _ kinds m)) (ap (truths_of c) same)

-- what makes a cell
pub makes_text : (c : Contents) (cells : Cells) (text : List ℕ) (t : MarkerTree) (kinds : List MarkerWarningKind) → IsTreeOf c text t kinds → Makes cells (parse text) (truth c t) kinds
makes_text c cells text t kinds tree = (tree.formula, tree.reads, tree.no_overflow, (λ i v. tree.means v i))

pub makes_test : (c : Contents) (cells : Cells) (copy e : Test) (t : MarkerTree) (kinds : List MarkerWarningKind) → copy ≡ e →
    ¬ Overflows copy → ¬ IsInvalid copy → ((v : Valuation) → truth c t v ≡ holds copy v) → kinds ≡ [] → Makes cells (expression e) (truth c t) kinds
makes_test c cells copy e t kinds same no_overflow not_invalid means none = subst (λ x. Makes cells (expression x) (truth c t) kinds) same (no_overflow, not_invalid, (λ i v. means v i), none)

-- why a test has no tree, and why a formula has none
module _ {E : Type 0} (e : Refusal E) where
  pub test_overflows : (copy t : Test) → copy ≡ t → e ≡ SegmentAtEnd → graph.IsUnmade copy e → Overflows t
  test_overflows copy t same is unmade = subst Overflows same (subst (graph.IsUnmade copy) is unmade)

  pub test_invalid : (copy t : Test) (fault : E) → copy ≡ t → e ≡ Fault fault → graph.IsUnmade copy e → IsInvalid t
  test_invalid copy t fault same is unmade = subst IsInvalid same (subst (graph.IsUnmade copy) is unmade)

  pub formula_overflows : (g : Option Formula) → e ≡ SegmentAtEnd → IsRefusal (Says Overflows g) e → Says Overflows g
  formula_overflows g is refusal = subst (IsRefusal (Says Overflows g)) is refusal

module _ (c : Contents) (trees : List MarkerTree) (kinds : List MarkerWarningKind) (none : kinds ≡ []) (a : ℕ) (t : MarkerTree) (found : slice_get trees a ≡ Some t) where
  pub makes_negation : (u : MarkerTree) → ((v : Valuation) → truth c u v ≡ not (truth c t v)) → Makes (truths_of c trees) (negation a) (truth c u) kinds
  makes_negation u means = (truth c t, cell_holds c trees a t found, (λ i v. means v i), none)

  pub makes_assumed : (lower upper : Bound Parts) (u : MarkerTree) → Assumes lower upper (truth c t) (truth c u) → Makes (truths_of c trees) (simplify_python a lower upper) (truth c u) kinds
  makes_assumed lower upper u means = (truth c t, cell_holds c trees a t found, means, none)

  pub makes_required : (lower upper : Bound Parts) (u : MarkerTree) → ((v : Valuation) → truth c u v ≡ require lower upper (truth c t) v) → Makes (truths_of c trees) (complexify_python a lower upper) (truth c u) kinds
  makes_required lower upper u means = (truth c t, cell_holds c trees a t found, (λ i v. means v i), none)

  pub makes_granted : (extras : List (List ℕ)) (u : MarkerTree) → ((v : Valuation) → truth c u v ≡ grant (is_listed extras) (truth c t) v) → Makes (truths_of c trees) (simplify_extras a extras) (truth c u) kinds
  makes_granted extras u means = (truth c t, cell_holds c trees a t found, (λ i v. means v i), none)

  module _ (b : ℕ) (u : MarkerTree) (other : slice_get trees b ≡ Some u) where
    pub makes_and : (w : MarkerTree) → ((v : Valuation) → truth c w v ≡ (truth c t v && truth c u v)) → Makes (truths_of c trees) (conjunction a b) (truth c w) kinds
    makes_and w means = (truth c t, truth c u, cell_holds c trees a t found, cell_holds c trees b u other, (λ i v. means v i), none)

    pub makes_or : (w : MarkerTree) → ((v : Valuation) → truth c w v ≡ (truth c t v || truth c u v)) → Makes (truths_of c trees) (disjunction a b) (truth c w) kinds
    makes_or w means = (truth c t, truth c u, cell_holds c trees a t found, cell_holds c trees b u other, (λ i v. means v i), none)

-- the answer to a query
module _ (c : Contents) (trees : List MarkerTree) (a b : ℕ) (t u : MarkerTree) (found : slice_get trees a ≡ Some t) (other : slice_get trees b ≡ Some u) where
  equals : (answer : Bool) → (IsTrue answer → t ≡ u) → (answer ≡ false → Separated c t u) → TellsEqual (truth c t) (truth c u) answer
  equals true same separated = λ v. ap (λ x. truth c x v) (same refl)
  equals false same separated = separated refl

  pub tells_equal : (answer : Bool) → (IsTrue answer → t ≡ u) → (answer ≡ false → Separated c t u) → Tells (truths_of c trees) (equal a b) answer
  tells_equal answer same separated = (truth c t, truth c u, cell_holds c trees a t found, cell_holds c trees b u other, equals answer same separated)

  abbrev pub IsShared : Type 0
  IsShared = (v : Valuation) × (truth c t v ≡ true) × (truth c u v ≡ true)

  disjoints : (answer : Bool) → (answer ≡ true → (v : Valuation) → (truth c t v && truth c u v) ≡ false) → (answer ≡ false → IsShared) → TellsDisjoint (truth c t) (truth c u) answer
  disjoints true apart shared = apart refl
  disjoints false apart shared = let s : IsShared = shared refl in (s.0, (λ i. s.1 i && s.2 i))

  pub tells_disjoint : (answer : Bool) → (answer ≡ true → (v : Valuation) → (truth c t v && truth c u v) ≡ false) → (answer ≡ false → IsShared) → Tells (truths_of c trees) (disjoint a b) answer
  tells_disjoint answer apart shared = (truth c t, truth c u, cell_holds c trees a t found, cell_holds c trees b u other, disjoints answer apart shared)

-- whether a cell is true in some valuation with these extras
module _ (c : Contents) (trees : List MarkerTree) (a : ℕ) (t : MarkerTree) (found : slice_get trees a ≡ Some t) (extras : List (List ℕ)) where
  possibles : (answer : Bool) → (answer ≡ true → IsPossible extras (truth c t)) → (answer ≡ false → IsImpossible extras (truth c t)) → TellsPossible extras (truth c t) answer
  possibles true possible impossible = possible refl
  possibles false possible impossible = impossible refl

  pub tells_possible : (answer : Bool) → (answer ≡ true → IsPossible extras (truth c t)) → (answer ≡ false → IsImpossible extras (truth c t)) → Tells (truths_of c trees) (evaluate_extras a extras) answer
  tells_possible answer possible impossible = (truth c t, cell_holds c trees a t found, possibles answer possible impossible)

-- a run with one more step
run_more : {old mid new : Cells} {requests : List Request} {answers : List Answer} {request : Request} {answer : Answer} → Run old requests answers mid → Step mid request answer new → Run old (requests ++ (request ∷ [])) (answers ++ (answer ∷ [])) new
run_more done step = next step done
run_more (next first run) step = next first (run_more run step)

pub run_on : (old mid new : Cells) (cs : List Command) (i : ℕ) (c : Command) (replies replies' : List Reply) (reply : Reply) →
    i < length cs → c ≡ get_or cs i c → Run old (map request_of (take i cs)) (map answer_of replies) mid → Step mid (request_of c) (answer_of reply) new → replies' ≡ replies ++ (reply ∷ []) →
    Run old (map request_of (take (i + 1) cs)) (map answer_of replies') new
run_on old mid new cs i c replies replies' reply below c_is run step pushed =
    let requests : map request_of (take (i + 1) cs) ≡ map request_of (take i cs) ++ (request_of c ∷ []) = ap (map request_of) (take_more cs i c below ∙ ap (λ x. take i cs ++ (x ∷ [])) (sym c_is)) ∙ map_push request_of (take i cs) c in
    let answers : map answer_of replies' ≡ map answer_of replies ++ (answer_of reply ∷ []) = ap (map answer_of) pushed ∙ map_push answer_of replies reply in
    subst (λ (x : List Request). Run old x (map answer_of replies') new) (sym requests)
    (subst (λ (y : List Answer). Run old (map request_of (take i cs) ++ (request_of c ∷ [])) y new) (sym answers)
    (run_more run step))

-- a refused command may give up what it made
pub refused_again : {old mid new : Cells} {request : Request} {reason : Reason} → Step old request (refused reason) mid → new ≡ old → Step old request (refused reason) new
refused_again (refuses why same) e = refuses why e

pub not_refused : (reply : Reply) (P : Type 0) → ((reason : reasons.Reason) → reply ≡ Refused reason → ⊥) → OnRefused reply P
not_refused (CellIs a kinds) P other = _
not_refused (TruthIs b) P other = _
not_refused (TextIs text) P other = _
not_refused (Refused reason) P other = absurd (other reason refl)

-- the cells as they were, if the interner holds what it held
module _ (c d : Contents) (old now : List MarkerTree) (same : HoldsTheSame c d) (cells : now ≡ old) (held : AreHeld c old) where
  still_held : AreHeld c now
  still_held = subst (AreHeld c) (sym cells) held

  pub released_held : AreHeld d now
  released_held = are_kept c d now (kept_same c d same) still_held

  pub released_truths : truths_of d now ≡ truths_of c old
  released_truths = truths_kept c d now (kept_same c d same) still_held ∙ ap (truths_of c) cells
