use Rattle.std.proofs.Common.{◌≡◌, ◌+◌, length, ap, ◌∙◌, true, arith, refl}
use Rattle.std.specs.Prelude.{◌&&◌}
use Rattle.marker_parts.specs.Expression.{test_of}
use Rattle.marker_grammar.specs.declared.formula.Token.TheVariants.{And, Expression}
use Rattle.marker_grammar.specs.Postfix.{stack_of, IsPostfix}
use Rattle.std.proofs.Common.{subst, sym}
use Rattle.marker_grammar.proofs.StackLaws.{stack_of-push, joined_tokens, append_some}
use Rattle.marker_grammar.proofs.PostfixLaws.{postfix_put, postfix_join}
use Rattle.marker_grammar.specs.Valid.{is_valid, IsValid}
use Rattle.marker_grammar.proofs.ValidLaws.{valid_put, valid_join}
use Rattle.marker_grammar.proofs.formula.append.Goals as goal

pub returns-in_ok-any-in-Some-clause-stack : goal.returns-in_ok-any-in-Some-clause-stack
returns-in_ok-any-in-Some-clause-stack c =
    let put = ap stack_of c.in_ok-push-in-Some.ensures.items ∙ stack_of-push c.args.tokens.now.items (Expression c.in-Some.expression) in
    let joined = joined_tokens (c.args.has_and && true) And c.push.new.self.items c.join_and.new.tokens.items c.in_ok-any-in-Some.ensures.tokens in
    rw c.in-Some.is (append_some c.args.has_and _ (test_of c.in-Some.expression) _ _ _ c.requires put joined c.in_ok-any-in-Some.ensures.any)

pub returns-in_ok-any-in-Some-clause-valid : goal.returns-in_ok-any-in-Some-clause-valid
returns-in_ok-any-in-Some-clause-valid c one valid =
    let here : is_valid (test_of c.in-Some.expression) ≡ true = rw c.in-Some.is at one in
    valid_join (c.args.has_and && true) And c.push.new.self.items c.in_ok-any-in-Some.ensures.tokens refl
    (subst IsValid (sym c.in_ok-push-in-Some.ensures.items) (valid_put c.args.tokens.now.items (Expression c.in-Some.expression) valid here))

pub returns-in_ok-any-in-Some-clause-postfix : goal.returns-in_ok-any-in-Some-clause-postfix
returns-in_ok-any-in-Some-clause-postfix c postfix =
    let put = ap stack_of c.in_ok-push-in-Some.ensures.items ∙ stack_of-push c.args.tokens.now.items (Expression c.in-Some.expression) in
    let grown : length (stack_of c.push.new.self.items) ≡ length (stack_of c.args.tokens.now.items) + 1 = ap length put ∙ omega arith in
    let kept : IsPostfix c.push.new.self.items = subst IsPostfix (sym c.in_ok-push-in-Some.ensures.items) (postfix_put c.args.tokens.now.items (Expression c.in-Some.expression) postfix refl) in
    postfix_join c.args.has_and true And c.push.new.self.items c.in_ok-any-in-Some.ensures.tokens (omega (arith, c.requires, grown)) kept
