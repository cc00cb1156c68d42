-- What is reported, and how it is counted.
use Rattle.std.specs.Prelude.{◌≡◌, ◌+◌, ◌-◌, ◌^◌, ◌≤◌, ◌&&◌, ℕ, Bool, true, not, cond, min, List, bytes_eq, string_bytes}
use Rattle.std.specs.List.{list_any}
use Rattle.pep508_program.specs.declared.notices.Notice.{Notice}
use Rattle.pep508_program.specs.declared.notices.Weight.{Weight}
use Rattle.pep508_program.specs.declared.notices.Weight.TheVariants.{Error, Warning}
use Rattle.pep508_program.specs.declared.reports.Report.{Report}
use Rattle.pep508_program.specs.declared.totals.Tally.{Tally}

-- one more, up to the largest number
abbrev pub one_more : ℕ → ℕ
one_more n = min (n + 1) (2 ^ 64 - 1)

-- the counts with one more error or warning
abbrev pub counted : Weight → Tally → Tally
counted Error tally = record tally { errors = one_more tally.errors }
counted Warning tally = record tally { warnings = one_more tally.warnings }

-- the counts with one more file that could not be read
abbrev pub failed_once : Tally → Tally
failed_once tally = record tally { failures = one_more tally.failures }

-- `--ignore` has this name
abbrev pub is_ignored : Report → List ℕ → Bool
is_ignored report name = list_any (λ ignored. bytes_eq ignored.now name) report.ignored.now

-- each error is reported, and each warning that is not ignored; `list` reports no warning
abbrev pub takes_weight : Weight → Report → List ℕ → Bool
takes_weight Error report name = true
takes_weight Warning report name = not report.lists && not (is_ignored report name)

abbrev pub takes : Report → Notice → Bool
takes report notice = takes_weight notice.weight report notice.name.now

-- the counts after a notice
abbrev pub tally_after : Report → Notice → Tally
tally_after report notice =
    cond (takes report notice) (counted notice.weight report.tally) report.tally

-- the counts and what is not written yet are the same
pub record ReportsNothing (old new : Report) : Type 0 where
  pub tally : new.tally ≡ old.tally
  pub output : string_bytes new.output ≡ string_bytes old.output
  pub messages : string_bytes new.messages ≡ string_bytes old.messages

-- no count is smaller than before
abbrev pub Grows : Tally → Tally → Type 0
Grows old new =
    (old.errors ≤ new.errors) × ((old.warnings ≤ new.warnings) × (old.failures ≤ new.failures))
