-- Trees of the formulas on a stack, while a tree is made of a formula.
use Rattle.std.specs.Prelude.{◌≡◌, ◌⊎◌, ⊤, Bool, true, false, ◌&&◌, ◌||◌, IfSome, List, [], ◌∷◌, ◌++◌, Option, Vec, reverse}
use Rattle.marker_environment.specs.Valuation.{Valuation}
use Rattle.marker_simplifications.specs.declared.value_set.ValueSet.{ValueSet}
use Rattle.marker_simplifications.specs.ValueSet.{contains}
use Rattle.marker_graph.specs.declared.tree.MarkerTree.{MarkerTree}
use Rattle.marker_graph.specs.Contents.{Contents, IsHeld, truth}
use Rattle.marker_grammar.specs.Formula.{Formula, truth_of}
use Rattle.marker_grammar.specs.declared.formula.Token.{Token}
use Rattle.marker_grammar.specs.Postfix.{Symbol, stack_after, symbol_of}
use Rattle.marker_grammar.specs.Postfix as symbols
use Rattle.pep508_markers.specs.declared.run.Run.{Run}
use Rattle.pep508_markers.specs.declared.run.Connective.{Connective}
use Rattle.pep508_markers.specs.declared.run.Connective.TheVariants.{And, Or}

abbrev pub joins : Connective → Bool → Bool → Bool
joins And x y = x && y
joins Or x y = x || y

-- what joins with nothing
abbrev pub neutral : Connective → Bool
neutral And = true
neutral Or = false

abbrev pub symbol : Connective → Symbol
symbol And = symbols.and
symbol Or = symbols.or

-- the interner has each tree
abbrev pub AreHeld : Contents → List MarkerTree → Type 0
AreHeld c [] = ⊤
AreHeld c (t ∷ trees) = IsHeld c t × AreHeld c trees

-- what the trees say under the connective
abbrev pub truth_under : Contents → Connective → List MarkerTree → Valuation → Bool
truth_under c k [] v = neutral k
truth_under c k (t ∷ trees) v = joins k (truth c t v) (truth_under c k trees v)

-- a truth is what the trees say under the connective
abbrev pub SaysUnder : Contents → Connective → List MarkerTree → (Valuation → Bool) → Type 0
SaysUnder c k trees f = (v : Valuation) → f v ≡ truth_under c k trees v

-- the trees of a run, at least one
abbrev pub trees_of : Run → List MarkerTree
trees_of r = r.first ∷ r.others.items

-- the tree is what the two trees say under the connective
abbrev pub JoinsTwo : Contents → Connective → MarkerTree → MarkerTree → MarkerTree → Type 0
JoinsTwo c k a b t = (v : Valuation) → truth c t v ≡ joins k (truth c a v) (truth c b v)

-- the tree is what a tree and others say under the connective
abbrev pub JoinsAll : Contents → Contents → Connective → MarkerTree → List MarkerTree
    → MarkerTree → Type 0
JoinsAll old new k first others t = SaysUnder old k (first ∷ others) (truth new t)

-- the tree is what the run says
abbrev pub JoinsRun : Contents → Contents → Run → MarkerTree → Type 0
JoinsRun old new run t = SaysUnder old run.connective (trees_of run) (truth new t)

-- the second run says under the connective what the first one says under its own
abbrev pub SaysTheSameUnder : Contents → Contents → Connective → Run → Run → Type 0
SaysTheSameUnder old new k run r =
    SaysUnder old run.connective (trees_of run) (truth_under new k (trees_of r))

-- the run has the trees of both runs, those of one before those of the other
abbrev pub HasTreesOfBoth : Run → Run → Run → Type 0
HasTreesOfBoth left right r = (trees_of r ≡ trees_of left ++ trees_of right)
    ⊎ (trees_of r ≡ trees_of right ++ trees_of left)

-- the two runs were the last ones of a list, and the others are left
abbrev pub AreLastTwo : List Run → List Run → Run × Run → Type 0
AreLastTwo old new pair = reverse old ≡ pair.1 ∷ pair.0 ∷ reverse new

-- the set, if there is one, is that of two sets under the connective
abbrev pub FindsSetOfTwo : Connective → ValueSet → ValueSet → Option ValueSet → Type 0
FindsSetOfTwo k left right found = IfSome found
    (λ set. (v : Valuation) → contains set v ≡ joins k (contains left v) (contains right v))

-- the set, if there is one, is what the trees say under the connective
abbrev pub FindsSetUnder : Contents → Connective → List MarkerTree → Option ValueSet → Type 0
FindsSetUnder c k trees found = IfSome found (λ set. SaysUnder c k trees (contains set))

-- the interner has the trees of each run, which mean its formula under its connective
abbrev pub Mean : Contents → List Formula → List Run → Type 0
Mean c [] [] = ⊤
Mean c (f ∷ stack) (r ∷ runs) =
    AreHeld c (trees_of r)
    × (((v : Valuation) → truth_under c r.connective (trees_of r) v ≡ truth_of f v)
    × Mean c stack runs)
Mean c [] (r ∷ runs) = ⊥
Mean c (f ∷ stack) [] = ⊥

-- the runs, the last one first, are those of the formulas
abbrev pub RunsOf : Contents → List Formula → List Run → Type 0
RunsOf c stack runs = Mean c stack (reverse runs)

-- the runs are those of some stack of formulas
abbrev pub AreRuns : Contents → List Run → Type 0
AreRuns c runs = (stack : List Formula) × RunsOf c stack runs

-- if the old runs are those of a stack, the new ones are those of the stack after the symbol
abbrev pub Pushes : Symbol → Contents → List Run → Contents → List Run → Type 0
Pushes symbol c old d new = (stack : List Formula) → RunsOf c stack old
    → RunsOf d (stack_after symbol stack) new

-- the runs become those of the stack after a token
abbrev pub Applies : {A : Type 0} → Token → Contents → Vec Run A → Contents → Vec Run A → Type 0
Applies token c old d new = Pushes (symbol_of token) c old.items d new.items

-- the runs become those of the stack after a connective
abbrev pub Connects : {A : Type 0} → Connective → Contents → Vec Run A → Contents → Vec Run A
    → Type 0
Connects k c old d new = Pushes (symbol k) c old.items d new.items
