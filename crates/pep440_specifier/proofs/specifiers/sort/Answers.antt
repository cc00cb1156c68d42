use Rattle.std.proofs.Common.{◌≡◌, ap, rules}
use Rattle.std.specs.Ordering.{is_lt}
use Rattle.std.proofs.lemmas.Fn.{always_returns_same}
use Rattle.std.proofs.lemmas.List.Sorted.{ranks_by}
use Rattle.std.proofs.lemmas.Result.{on_ok_weaker}
use Rattle.pep440_version.specs.Order.{version_cmp}
use Rattle.pep440_version.specs.OrderLaws.{version_total}
use Rattle.pep440_specifier.specs.Set.{is_lower}
use Rattle.pep440_specifier.specs.Specifier.{Specifier}
use Rattle.pep440_specifier.proofs.specifiers.sort.Goals as goal

pub returns-clause-sorted : goal.returns-clause-sorted
returns-clause-sorted c = on_ok_weaker c.sort_by.result (λ f. f is_lower (ranks_by version_total (λ (s : Specifier). s.version))
    (always_returns_same _ _ _ (λ a r q k.
    let e : r ≡ version_cmp a.0.now.version a.1.0.now.version = search rules in
    (ap is_lt e, search rules)))) c.sort_by.ensures.sorted

pub returns-clause-stable : goal.returns-clause-stable
returns-clause-stable c = c.sort_by.ensures.stable is_lower (ranks_by version_total (λ (s : Specifier). s.version))
    (always_returns_same _ _ _ (λ a r q k.
    let e : r ≡ version_cmp a.0.now.version a.1.0.now.version = search rules in
    (ap is_lt e, search rules)))
