use Rattle.std.proofs.Common.{rules, ◌∙◌}
use Rattle.pep508_errors.proofs.UnderlineLaws.{carets_counted}
use Rattle.pep508_errors.proofs.underline.carets.Goals as goal

pub returns : goal.returns
returns c =
    c.saturating_sub.ensures
    ∙ carets_counted c.args.text.now c.args.start c.args.len _ _ _ c.utf8.text (search rules) (search rules) c.saturating_add.ensures c.columns_before.ensures c.columns_before-2.ensures
