use Rattle.marker_diagrams.proofs.ResidueLaws.{each_subtree, each_residue, one_subtree}
use Rattle.marker_diagrams.proofs.laws.subtrees_are_the_residues.Goals as goal

pub returns-clause-each_subtree : goal.returns-clause-each_subtree
returns-clause-each_subtree g c = λ kind nodes laws store. each_subtree kind laws nodes store

pub returns-clause-each_residue : goal.returns-clause-each_residue
returns-clause-each_residue g c = λ kind nodes laws store. each_residue kind laws nodes store

pub returns-clause-once : goal.returns-clause-once
returns-clause-once g c = λ kind nodes laws store t u w i. one_subtree kind laws nodes store t i u w
