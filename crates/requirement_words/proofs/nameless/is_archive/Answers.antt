use Rattle.std.proofs.Common.{sym, ◌∙◌, subst, List, ℕ}
use Rattle.requirement_words.specs.Archive.{HasExtension, archive, compressed}
use Rattle.requirement_words.proofs.NamelessLaws.{no_extension, other_extension, inner_tar, extension_same}
use Rattle.requirement_words.proofs.nameless.is_archive.Goals as goal

pub returns-in_default-clause-no : goal.returns-in_default-clause-no
returns-in_default-clause-no c = λ h. absurd (no_extension c.in_default.ensures.none h)

pub returns-then-is_archive_extension-clause-yes : goal.returns-then-is_archive_extension-clause-yes
returns-then-is_archive_extension-clause-yes c = λ t. archive c.in-Some.ensures.found (sym c.is_archive_extension.ensures ∙ c.if-is_archive_extension.true)

pub returns-then-not-is_compressed_extension-clause-no : goal.returns-then-not-is_compressed_extension-clause-no
returns-then-not-is_compressed_extension-clause-no c = λ h.
    absurd (other_extension c.in-Some.ensures.found (sym c.is_archive_extension.ensures ∙ c.if-is_archive_extension.false) (sym c.is_compressed_extension.ensures ∙ c.if-not-is_compressed_extension.true) h)

pub returns-in-Some-split_extension-clause-yes : goal.returns-in-Some-split_extension-clause-yes
returns-in-Some-split_extension-clause-yes c = λ t.
    compressed c.in-Some.ensures.found (sym c.is_compressed_extension.ensures ∙ c.if-not-is_compressed_extension.false)
    (subst (λ (x : List ℕ). HasExtension c.in-Some.before.now c.in-Some-split_extension.field-0-0.now x) (c.is_tar.ensures.0 t) c.in-Some-split_extension.ensures.found)

pub returns-in-Some-split_extension-clause-no : goal.returns-in-Some-split_extension-clause-no
returns-in-Some-split_extension-clause-no c = λ h.
    let tar = inner_tar c.in-Some.ensures.found (sym c.is_archive_extension.ensures ∙ c.if-is_archive_extension.false) h in
    c.is_tar.ensures.1 (extension_same c.in-Some-split_extension.ensures.found tar.1).1

pub returns-in-None-clause-no : goal.returns-in-None-clause-no
returns-in-None-clause-no c = λ h.
    let tar = inner_tar c.in-Some.ensures.found (sym c.is_archive_extension.ensures ∙ c.if-is_archive_extension.false) h in
    absurd (c.in-None.ensures.none _ _ tar.1)
