-- Several clauses, written one after another.
use Rattle.std.proofs.Common.{◌≡◌, ◌≢◌, ◌≤◌, ℕ, List, [], ◌∷◌, ◌++◌, ◌-◌, drop, get_or, length, length-drop, take, refl, ap, arith}
use Rattle.std.proofs.lemmas.List.{take_all}
use Rattle.std.specs.List.{flat_map}
use Rattle.std.specs.declared.alloc.Global.{Global}
use Rattle.std.specs.declared.vec.Vec.{Vec}
use Rattle.marker_parts.specs.declared.expression.MarkerExpression.{MarkerExpression}
use Rattle.marker_grammar.specs.Meaning.{clauses_of}
use Rattle.marker_grammar.specs.Text.{clauses_text, next_clause_text, part_text}

others : (cs : List (Vec MarkerExpression Global)) → flat_map (λ c. next_clause_text c.items) cs ≡ flat_map next_clause_text (clauses_of cs)
others [] = refl
others (c ∷ cs) = ap (λ (x : List ℕ). next_clause_text c.items ++ x) (others cs)

behind_first : (cs : List (Vec MarkerExpression Global)) → take (length cs - 1) (drop 1 cs) ≡ drop 1 cs
behind_first cs = take_all (length cs - 1) (drop 1 cs) (omega (arith, length-drop 1 cs))

-- all but the first come after it
pub several : (cs : List (Vec MarkerExpression Global)) (first : Vec MarkerExpression Global) → 1 ≤ length cs → length cs ≢ 1 → first ≡ get_or cs 0 first →
    part_text first.items ++ flat_map (λ c. next_clause_text c.items) (take (length cs - 1) (drop 1 cs)) ≡ clauses_text (clauses_of cs)
several cs first h1 h2 h3 = grind (arith, behind_first, length, get_or, drop, others)
