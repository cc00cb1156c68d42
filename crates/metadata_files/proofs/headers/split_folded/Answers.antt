use Rattle.std.proofs.Common.{◌∷◌, sym, ap, ◌∙◌, subst, arith}
use Rattle.pep508_text.specs.Suffix.{IsSuffix}
use Rattle.pep508_text.proofs.SuffixLaws.{suffix_nil}
use Rattle.requirement_lines.specs.Character.{start_of}
use Rattle.requirement_lines.specs.Pieces.{characters_of}
use Rattle.requirement_lines.proofs.PlaceLaws.{end_then, end_suffix, end_characters, text_from_none, characters_nil}
use Rattle.metadata_files.specs.Lines.{folded_lines}
use Rattle.metadata_files.proofs.FoldedLaws.{in_folded_more, in_folded_ended, in_folded_last}
use Rattle.metadata_files.proofs.headers.split_folded.Goals as goal

pub front_of-requires : goal.front_of-requires
front_of-requires c = end_then c.loop-c.invariant.end c.in-Some.ensures.end

pub returns-then-ends_folded-clause-lines : goal.returns-then-ends_folded-clause-lines
returns-then-ends_folded-clause-lines c = λ some.
    let i = c.loop-c.invariant in
    let w = c.whole-whole.ensures in
    let end = end_then i.end c.in-Some.ensures.end in
    ap folded_lines (sym w.characters)
    ∙ in_folded_ended _ (characters_of c.front_of.result) i.line c.in-Some.ensures.characters (sym c.ends_folded.ensures ∙ c.if-ends_folded.true) c.front_of.ensures
    ∙ ap (λ x. characters_of c.front_of.result ∷ folded_lines x) (end_characters (w.place ∙ ap start_of (sym w.text)) end)

pub returns-then-ends_folded-clause-suffix : goal.returns-then-ends_folded-clause-suffix
returns-then-ends_folded-clause-suffix c = subst (λ x. IsSuffix x c.in-Some.after.text.now) c.whole-whole.ensures.text (end_suffix (end_then c.loop-c.invariant.end c.in-Some.ensures.end))

pub loop-c-preserved : goal.loop-c-preserved
loop-c-preserved c =
    let i = c.loop-c.invariant in
    record {
      end = end_then i.end c.in-Some.ensures.end;
      within = omega (arith, c.in-Some.ensures.shorter);
      line = in_folded_more _ i.line c.in-Some.ensures.characters (sym c.ends_folded.ensures ∙ c.if-ends_folded.false);
    }

pub returns-clause-lines : goal.returns-clause-lines
returns-clause-lines c = λ some.
    let w = c.whole-whole.ensures in
    ap folded_lines (sym w.characters)
    ∙ in_folded_last c.loop-c.invariant.line c.in_default.ensures.characters (λ e. some (text_from_none _ _ c.utf8.text (sym w.characters ∙ e)))
    ∙ ap (λ x. characters_of c.whole-whole.result ∷ folded_lines x) (sym characters_nil)

pub returns-clause-suffix : goal.returns-clause-suffix
returns-clause-suffix c = suffix_nil c.args.text.now
