use Rattle.std.proofs.Common.{◌≡◌, ◌≢◌, ◌++◌, [], sym, ap, ◌∙◌, rules}
use Rattle.requirement_lines.specs.Pieces.{characters_of, line_of}
use Rattle.requirement_lines.proofs.LogicalLaws.{line_pushed, append_some, back_blank, back_found}
use Rattle.requirement_lines.proofs.logical.skip_end.Goals as goal

pub loop-last-preserved : goal.loop-last-preserved
loop-last-preserved c =
    let none : characters_of c.skip_back-front.result ≡ [] = search rules in
    back_blank (line_of c.args.pieces.now.items) (line_of c.loop-last.pieces.items) (line_of c.pop.new.self.items) (characters_of c.in-Some.last) c.loop-last.invariant
    (line_pushed c.pop.new.self.items c.loop-last.pieces.items c.in-Some.last c.in-Some.ensures.items) (sym c.skip_back-front.ensures ∙ none)

pub returns-then-not-is_empty-clause-line : goal.returns-then-not-is_empty-clause-line
returns-then-not-is_empty-clause-line c =
    let some : characters_of c.skip_back-front.result ≢ [] = search rules in
    line_pushed c.pop.new.self.items c.push.new.self.items c.skip_back-front.result c.in_ok-push.ensures.items ∙ ap (λ x. line_of c.pop.new.self.items ++ x) c.skip_back-front.ensures
    ∙ sym (back_found (line_of c.args.pieces.now.items) (line_of c.loop-last.pieces.items) (line_of c.pop.new.self.items) (characters_of c.in-Some.last) c.loop-last.invariant
    (line_pushed c.pop.new.self.items c.loop-last.pieces.items c.in-Some.last c.in-Some.ensures.items) (λ e. some (c.skip_back-front.ensures ∙ e)))

pub returns-then-not-is_empty-clause-some : goal.returns-then-not-is_empty-clause-some
returns-then-not-is_empty-clause-some c = λ _ e.
    let some : characters_of c.skip_back-front.result ≢ [] = search rules in
    append_some (line_of c.pop.new.self.items) (characters_of c.skip_back-front.result) some (sym (line_pushed c.pop.new.self.items c.push.new.self.items c.skip_back-front.result c.in_ok-push.ensures.items) ∙ e)
