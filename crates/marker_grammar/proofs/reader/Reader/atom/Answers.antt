use Rattle.std.proofs.Common.{ap}
use Rattle.std.proofs.lemmas.List.Elements.{All-push}
use Rattle.std.proofs.lemmas.Result.{err_from_is_err_and}
use Rattle.pep508_text.proofs.SuffixLaws.{suffix_then}
use Rattle.pep508_text.specs.Suffix.{IsSuffix}
use Rattle.marker_grammar.specs.Formula.{of_test}
use Rattle.marker_grammar.specs.declared.reader.Group.{Group}
use Rattle.marker_grammar.proofs.ReaderLaws.{open_same, open_full, compare_same, compare_full, refused_atom}
use Rattle.marker_grammar.proofs.OpenLaws.{opened_group, opened_compare}
use Rattle.marker_grammar.proofs.SpaceLaws.{compared_behind}
use Rattle.marker_grammar.proofs.ValidLaws.{valid_read}
use Rattle.marker_grammar.proofs.reader.Reader.atom.Goals as goal

pub returns-in-Some-clause-sound : goal.returns-in-Some-clause-sound
returns-in-Some-clause-sound c =
    let opened = suffix_then c.requires.rest c.skip_space-text.ensures.suffix in
    record {
      full = open_full _ _ _ c.in_ok-open.ensures c.requires.full;
      postfix = c.requires.postfix;
      valid = c.requires.valid;
      rest = suffix_then opened c.in-Some.ensures.suffix;
      groups = rw c.in_ok-open.ensures (All-push (λ (g : Group). IsSuffix c.args.self.now.text.now g.text.now) _ _ c.requires.groups opened);
    }

pub returns-in-Some-clause-same : goal.returns-in-Some-clause-same
returns-in-Some-clause-same c = record {
  readings = open_same _ _ _ c.in_ok-open.ensures c.skip_space-text.ensures.rest c.in-Some.ensures.found;
  opened = opened_group _ _ _ _ _ _ _ _ c.in_ok-open.ensures c.skip_space-text.ensures.rest c.in-Some.ensures.found c.in-Some.ensures.bytes;
}

pub returns-in_err-expression-clause-err : goal.returns-in_err-expression-clause-err
returns-in_err-expression-clause-err c =
    let p = err_from_is_err_and c.from_residual-in_err-expression.result c.from_residual-in_err-expression.ensures.1 in
    rw (p.1, p.2) (refused_atom c.args.self.now _ (suffix_then c.requires.rest c.skip_space-text.ensures.suffix) c.skip_space-text.ensures.rest c.in_default.ensures.none _ c.in_err-expression.ensures.refused)

pub returns-clause-sound : goal.returns-clause-sound
returns-clause-sound c =
    record {
      full = compare_full _ _ c.in_ok-self.ensures.stack c.requires.full;
      postfix = c.in_ok-self.ensures.postfix c.requires.postfix;
      valid = c.in_ok-self.ensures.valid (valid_read _ _ _ _ c.in_ok-expression.ensures.found.compared c.in_ok-expression.ensures.found.test) c.requires.valid;
      rest = suffix_then c.requires.rest (suffix_then c.skip_space-text.ensures.suffix c.in_ok-expression.ensures.suffix);
      groups = c.requires.groups;
    }

pub returns-clause-same : goal.returns-clause-same
returns-clause-same c =
    let read = c.in_ok-expression.ensures.found in
    record {
      readings = compare_same c.args.self.now.groups.items c.args.self.now.has_or (compared_behind c.skip_space-text.ensures.rest read.compared) c.in_ok-self.ensures.stack (ap of_test read.test) read.kinds;
      opened = opened_compare _ c.args.self.now.has_or _ _ (compared_behind c.skip_space-text.ensures.rest read.compared) c.in_ok-self.ensures.stack (ap of_test read.test) read.kinds;
    }
