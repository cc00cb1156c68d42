use Rattle.std.proofs.Common.{rules, ◌≡◌, true}
use Rattle.std.specs.Ordering.{is_eq, nat_cmp}
use Rattle.pep440_version.specs.Order.{version_cmp}
use Rattle.pep440_specifier.specs.Operator.{rank}
use Rattle.pep440_specifier.proofs.Ties.{numbers_tie, tied_next}
use Rattle.pep440_specifier.proofs.order.VersionSpecifierPartialEq.eq.Goals as goal

pub returns-then-eq : goal.returns-then-eq
returns-then-eq c =
    let operator : is_eq (nat_cmp (rank c.args.self.now.operator) (rank c.args.other.now.operator)) ≡ true = search rules in
    let version : is_eq (version_cmp c.args.self.now.version c.args.other.now.version) ≡ true = search rules in
    rw (tied_next _ _ operator, tied_next _ _ version, c.number_count.ensures, c.number_count-then-eq.ensures) (numbers_tie _ _)
