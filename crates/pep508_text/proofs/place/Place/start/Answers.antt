use Rattle.std.proofs.Common.{ℕ, sym, subst}
use Rattle.pep508_text.specs.Suffix.{IsSpan, StandsAt, span_len}
use Rattle.pep508_text.proofs.SuffixLaws.{piece_stands, spanned}
use Rattle.pep508_text.proofs.place.Place.start.Goals as goal

pub returns-clause-place : goal.returns-clause-place
returns-clause-place c p =
    subst (StandsAt c.args.text.now c.args.self.piece.now) (sym c.saturating_sub.ensures) (piece_stands p)

pub returns-clause-span : goal.returns-clause-span
returns-clause-span c p =
    subst (λ (n : ℕ). IsSpan c.args.text.now n (span_len c.args.self)) (sym c.saturating_sub.ensures) (spanned p)
