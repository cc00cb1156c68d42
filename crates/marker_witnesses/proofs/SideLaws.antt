-- Examples of sides, and the lines that show them.
use Rattle.std.proofs.Common.{◌≡◌, ◌∙◌, ◌<◌, ◌+◌, ℕ, Bool, false, not, List, [], ◌∷◌, ◌++◌, take, length, get_or, Option, Some, None, sym, ap, subst, append_assoc, string_bytes, arith}
use Rattle.std.specs.Prelude.{◌&&◌}
use Rattle.std.specs.Prelude.{IfOk, IfSome, Result}
use Rattle.std.proofs.lemmas.Result.{IfOk-weaker}
use Rattle.marker_nodes.proofs.Firsts.{false_is}
use Rattle.std.proofs.lemmas.List.{flat_map_more, take_more}
use Rattle.std.specs.Option.{option_to_list}
use Rattle.std.proofs.lemmas.Option.{IfSome_then}
use Rattle.marker_environment.specs.Valuation.{Valuation}
use Rattle.marker_graph.specs.declared.tree.MarkerTree.{MarkerTree}
use Rattle.marker_graph.specs.declared.tree.TheConstants.MarkerTree.{FALSE}
use Rattle.marker_graph.specs.Contents.{Contents, IsHeld, IsKept, truth}
use Rattle.marker_diagrams.specs.Id.{is_negated, place_of, signed}
use Rattle.marker_witnesses.specs.declared.sides.ShownWitness.{ShownWitness}
use Rattle.marker_witnesses.specs.declared.sides.Side.{Side}
use Rattle.marker_witnesses.specs.declared.sides.Side.TheVariants.{Both, OnlyFirst, OnlySecond}
use Rattle.marker_witnesses.specs.Sides.{line_text, lines_text, or_any, side_truth, IsExampleOf, IsShown, Shows, ShowsEach, no_more, nothing, witness}
use Rattle.marker_witnesses.specs.declared.example.Example.{Example}
use Rattle.marker_witnesses.specs.Text.{example_text}
use Rattle.marker_witnesses.specs.Witness.{example_valuation, Satisfies}

-- ---- markers that stay

-- a marker that is held means what it meant
kept_truth : (old new : Contents) (t : MarkerTree) → IsKept old new → IsHeld old t → (v : Valuation) → truth new t v ≡ truth old t v
kept_truth old new t k h v = ap (signed (is_negated t.id)) (k.nodes.truth (place_of t.id) v h)

-- and it is held
pub kept_held : (old new : Contents) (t : MarkerTree) → IsKept old new → IsHeld old t → IsHeld new t
kept_held old new t k h = let l = k.nodes.longer in omega arith

-- ---- markers of sides

-- a conjunction in an interner that grew
pub joined : (c d : Contents) (a b t : MarkerTree) → IsKept c d → IsHeld c a → IsHeld c b → ((v : Valuation) → truth d t v ≡ (truth d a v && truth d b v)) → (v : Valuation) → truth d t v ≡ (truth c a v && truth c b v)
joined c d a b t kept held held' means v = means v ∙ ap (λ (x : Bool). x && truth d b v) (kept_truth c d a kept held v) ∙ ap (λ (x : Bool). truth c a v && x) (kept_truth c d b kept held' v)

-- one marker without another
pub without : {E : Type 0} (r : Result MarkerTree E) (c d : Contents) (a b n : MarkerTree) → ((v : Valuation) → truth c n v ≡ not (truth c b v)) → IfOk r (λ t. (v : Valuation) → truth d t v ≡ (truth c a v && truth c n v))
    → IfOk r (λ t. (v : Valuation) → truth d t v ≡ (truth c a v && not (truth c b v)))
without r c d a b n negated p =
    IfOk-weaker r (λ t. (v : Valuation) → truth d t v ≡ (truth c a v && truth c n v)) (λ t. (v : Valuation) → truth d t v ≡ (truth c a v && not (truth c b v)))
    (λ t means v. means v ∙ ap (λ (x : Bool). truth c a v && x) (negated v)) p

-- ---- what is shown

-- nothing satisfies FALSE
pub nothing_shown : (c d : Contents) (side : Side) (a b t : MarkerTree) → t ≡ FALSE → ((v : Valuation) → truth d t v ≡ side_truth side (truth c a) (truth c b) v) → (v : Valuation) → side_truth side (truth c a) (truth c b) v ≡ false
nothing_shown c d side a b t e means v = sym (means v) ∙ ap (λ (x : MarkerTree). truth d x v) e ∙ false_is d.nodes v

same_side : (side : Side) (f g h k : Valuation → Bool) → ((v : Valuation) → h v ≡ f v) → ((v : Valuation) → k v ≡ g v) → (v : Valuation) → side_truth side f g v ≡ side_truth side h k v
same_side Both f g h k p q v = sym (ap (λ (x : Bool). x && k v) (p v) ∙ ap (λ (x : Bool). f v && x) (q v))
same_side OnlyFirst f g h k p q v = sym (ap (λ (x : Bool). x && not (k v)) (p v) ∙ ap (λ (x : Bool). f v && not x) (q v))
same_side OnlySecond f g h k p q v = sym (ap (λ (x : Bool). x && not (h v)) (q v) ∙ ap (λ (x : Bool). g v && not x) (p v))

-- what is shown in an interner that grew is shown of the markers before
pub shown_before : (c d : Contents) (a b : MarkerTree) (shown : ShownWitness) → IsKept c d → IsHeld c a → IsHeld c b → IsShown (truth d a) (truth d b) shown → IsShown (truth c a) (truth c b) shown
shown_before c d a b shown kept held held' p =
    IfSome_then shown.example p (λ example q. record {
      satisfies = same_side shown.side (truth c a) (truth c b) (truth d a) (truth d b) (kept_truth c d a kept held) (kept_truth c d b kept held') (example_valuation example) ∙ q.satisfies;
      text = q.text;
    })

-- what is shown of a side in an interner that grew is shown of the markers before
shows_before : (c d : Contents) (a b : MarkerTree) (side : Side) (found : Option ShownWitness) → IsKept c d → IsHeld c a → IsHeld c b → Shows (truth d a) (truth d b) side found → Shows (truth c a) (truth c b) side found
shows_before c d a b side None kept held held' p = λ v. same_side side (truth c a) (truth c b) (truth d a) (truth d b) (kept_truth c d a kept held) (kept_truth c d b kept held') v ∙ p v
shows_before c d a b side (Some shown) kept held held' p = (p.0, shown_before c d a b shown kept held held' p.1)

-- one more side
shows_last : {f g : Valuation → Bool} {sides : List Side} {shown : List ShownWitness} (side : Side) (found : Option ShownWitness) → ShowsEach f g sides shown → Shows f g side found → ShowsEach f g (sides ++ side ∷ []) (shown ++ option_to_list found)
shows_last side None no_more p = nothing p no_more
shows_last side (Some one) no_more p = witness one p no_more
shows_last side found (nothing q more) p = nothing q (shows_last side found more p)
shows_last side found (witness one q more) p = witness one q (shows_last side found more p)

-- more that is shown, in an interner that grew
pub shows_more : (c d : Contents) (a b : MarkerTree) (sides : List Side) (i : ℕ) (side : Side) (old new : List ShownWitness) (found : Option ShownWitness) → IsKept c d → IsHeld c a → IsHeld c b → i < length sides
    → ShowsEach (truth c a) (truth c b) (take i sides) old → Shows (truth d a) (truth d b) (get_or sides i side) found → new ≡ old ++ option_to_list found → ShowsEach (truth c a) (truth c b) (take (i + 1) sides) new
shows_more c d a b sides i side old new found kept held held' below p q grew =
    let last = shows_last (get_or sides i side) found p (shows_before c d a b (get_or sides i side) found kept held held' q) in
    let sides_grew : take (i + 1) sides ≡ take i sides ++ get_or sides i side ∷ [] = take_more sides i side below in
    rw (sides_grew, grew) last

-- ---- lines

-- one more line
pub one_more : (shown : List ShownWitness) (i : ℕ) (d : ShownWitness) (a b : List ℕ) → i < length shown → a ≡ lines_text (take i shown) → b ≡ a ++ line_text (get_or shown i d) → b ≡ lines_text (take (i + 1) shown)
one_more shown i d a b below inv pushed =
    pushed ∙ ap (λ (x : List ℕ). x ++ line_text (get_or shown i d)) inv ∙ flat_map_more line_text [] (take i shown) (get_or shown i d) ∙ ap lines_text (sym (take_more shown i d below))

-- the four parts of a line
pub four : (m a b c d m1 m2 m3 m4 : List ℕ) → m1 ≡ m ++ a → m2 ≡ m1 ++ b → m3 ≡ m2 ++ c → m4 ≡ m3 ++ d → m4 ≡ m ++ (a ++ b ++ c ++ d)
four m a b c d m1 m2 m3 m4 e1 e2 e3 e4 =
    e4 ∙ ap (λ (x : List ℕ). x ++ d) (e3 ∙ ap (λ (x : List ℕ). x ++ c) (e2 ∙ ap (λ (x : List ℕ). x ++ b) e1 ∙ append_assoc m a b) ∙ append_assoc m (a ++ b) c) ∙ append_assoc m (a ++ b ++ c) d
