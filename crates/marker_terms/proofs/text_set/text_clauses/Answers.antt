use Rattle.std.proofs.Common.{string_bytes}
use Rattle.version_ranges.specs.Ranges.{contains_by}
use Rattle.marker_words.specs.Compare.{text_cmp}
use Rattle.marker_words.specs.Key.{variable_of}
use Rattle.marker_terms.specs.Clauses.{clause_holds, clauses_hold, clauses_of}
use Rattle.marker_terms.proofs.SetLaws.{found_terms, one_covers}
use Rattle.marker_terms.proofs.TextLaws.{text_outside}
use Rattle.marker_terms.proofs.text_set.text_clauses.Goals as goal

pub returns-in-Some-clause-means : goal.returns-in-Some-clause-means
returns-in-Some-clause-means c =
    one_covers c.one_clause.result (λ x v. clauses_hold (clauses_of x.items) v) (clause_holds c.in-Some.terms.items) (λ v. contains_by string_bytes text_cmp c.in_ok-outside.outside (v.text (variable_of c.args.key)))
    (λ v. contains_by string_bytes text_cmp c.args.set.now (v.text (variable_of c.args.key)))
    (found_terms c.in_ok-terms.field-0 c.in-Some.terms (λ v. contains_by string_bytes text_cmp c.in_ok-outside.outside (v.text (variable_of c.args.key))) c.in-Some.is c.in_ok-terms.ensures.means)
    (λ v. text_outside c.args.set.now c.in_ok-outside.outside c.in_ok-outside.ensures.set (v.text (variable_of c.args.key)))
    c.one_clause.ensures.means
