use Rattle.std.proofs.Common.{◌≡◌, ◌∙◌, IsUtf8, Vec, ap, string_bytes, subst, sym, ℕ, Global}
use Rattle.std.specs.String.{string_vec}
use Rattle.pep508_names.specs.Name.{NormalizesTo}
use Rattle.pep508_names.proofs.Fronts.{front-normal}
use Rattle.pep508_names.proofs.NameLaws.{normal_form-IsUtf8}
use Rattle.pep508_names.proofs.normal.into_normal_form.Goals as goal

pub unwrap-requires : goal.unwrap-requires
unwrap-requires c =
    let kept : c.truncate.new.self.items ≡ c.requires.0 =
    front-normal (string_bytes c.args.name) c.deref_mut.result.now c.normalize-len.new.name c.into_bytes-bytes.result.items _ _ _ c.requires.0
    c.deref_mut.ensures.value (ap (λ (v : Vec ℕ Global). v.items) c.into_bytes-bytes.ensures.value) c.deref_mut.ensures.len
    c.normalize-len.auto.name c.normalize-len.ensures.fits c.normalize-len.ensures.normal c.requires.1 c.truncate.ensures.items in
    c.from_utf8.ensures.succeeds (subst IsUtf8 (sym kept) (normal_form-IsUtf8 (string_bytes c.args.name) c.requires.0 c.requires.1))

pub returns : goal.returns
returns c =
    let kept : c.truncate.new.self.items ≡ c.requires.0 =
    front-normal (string_bytes c.args.name) c.deref_mut.result.now c.normalize-len.new.name c.into_bytes-bytes.result.items _ _ _ c.requires.0
    c.deref_mut.ensures.value (ap (λ (v : Vec ℕ Global). v.items) c.into_bytes-bytes.ensures.value) c.deref_mut.ensures.len
    c.normalize-len.auto.name c.normalize-len.ensures.fits c.normalize-len.ensures.normal c.requires.1 c.truncate.ensures.items in
    let made : string_vec c.unwrap.result ≡ c.truncate.new.self = rw c.unwrap.ensures at c.from_utf8.ensures.ok in
    subst (NormalizesTo (string_bytes c.args.name)) (sym (ap (λ (v : Vec ℕ Global). v.items) made ∙ kept)) c.requires.1
