use Rattle.std.proofs.Common.{rules, arith, ap, drop, ◌∙◌, ◌≡◌}
use Rattle.std.specs.Str.{chars}
use Rattle.pep508_text.specs.Run.{run_of, after_run}
use Rattle.pep508_text.specs.declared.classes.Class.TheVariants.{SpecifierPart}
use Rattle.pep508_text.proofs.Splits.{Stopped, front_at, none_passed, passed_ascii, stopped_before_ascii, stopped_past_all}
use Rattle.pep508_text.proofs.fronts.split_before_comma.Goals as goal
use Rattle.pep508_text.proofs.fronts.split_before_comma.Goals.{After-split_at, else-bytes-test, then-bytes-test+else-not-is_ascii+then-ends_specifier}

pub bytes-init : goal.bytes-init
bytes-init c = (search (rules, arith), none_passed _ _ _ c.utf8.text)

pub bytes-preserved : goal.bytes-preserved
bytes-preserved c = (search (rules, arith), passed_ascii (SpecifierPart c.args.end) c.args.text.now c.bytes.len c.utf8.text c.bytes.invariant.1 (search (rules, arith)) (search (rules, arith)) (search rules))

-- the loop ends before a byte of ASCII that is not of the class, or at the end of the text
ended : (c : After-split_at) → Stopped (run_of (SpecifierPart c.args.end)) (after_run (SpecifierPart c.args.end)) c.args.text.now (drop c.bytes.len c.args.text.now)
ended c = elim c.bytes-test.branch [ else-bytes-test w ↦ stopped_past_all (SpecifierPart c.args.end) c.args.text.now c.bytes.len c.utf8.text c.bytes.invariant.1 (search (rules, arith)) | then-bytes-test+else-not-is_ascii+then-ends_specifier w ↦ stopped_before_ascii (SpecifierPart c.args.end) c.args.text.now c.bytes.len c.utf8.text c.bytes.invariant.1 (search (rules, arith)) (search (rules, arith)) (search rules) ]

-- the run is the front there
front_is : (c : After-split_at) → c.split_at.result.0.now ≡ (ended c).front
front_is c = c.split_at.ensures.front ∙ front_at _ _ _ (ended c).joined

pub returns-clause-run : goal.returns-clause-run
returns-clause-run c = ap chars (front_is c) ∙ (ended c).run

pub returns-clause-rest : goal.returns-clause-rest
returns-clause-rest c = ap chars c.split_at.ensures.back ∙ (ended c).after

pub returns-clause-bytes : goal.returns-clause-bytes
returns-clause-bytes c = front_is c ∙ (ended c).bytes
