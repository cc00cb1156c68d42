use Rattle.std.proofs.Common.{string_bytes, subst, sym}
use Rattle.std.proofs.lemmas.Bool.{both_ways}
use Rattle.pep508_names.specs.Name.{IsName}
use Rattle.pep508_names.proofs.IdentifierLaws.{names_are_identifiers}
use Rattle.pep508_names.proofs.NameLaws.{normal_form-own}
use Rattle.pep508_names.proofs.normal.normal_form.Goals as goal

pub into_normal_form-requires : goal.into_normal_form-requires
into_normal_form-requires c = subst IsName c.deref.ensures ((names_are_identifiers c.deref.result.now).1 (c.is_name.ensures.0 c.if-is_name.true))

pub returns-else-is_name-clause-refused : goal.returns-else-is_name-clause-refused
returns-else-is_name-clause-refused c =
    (c.new.ensures, λ h. both_ways c.is_name.result c.if-is_name.false (c.is_name.ensures.1 ((names_are_identifiers c.deref.result.now).0 (subst IsName (sym c.deref.ensures) h))))

pub returns-then-is_name-clause-normal : goal.returns-then-is_name-clause-normal
returns-then-is_name-clause-normal c = normal_form-own (string_bytes c.args.text) (string_bytes c.into_normal_form.result) c.into_normal_form.ensures
