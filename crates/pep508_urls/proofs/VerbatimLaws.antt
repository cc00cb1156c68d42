-- A text denotes one thing, and only a text without a URL has a fault.
use Rattle.std.proofs.Common.{◌≡◌, arith, ℕ, true, false, List, sym, ap, ◌∙◌, subst, None, Ok}
use Rattle.std.specs.Prelude.{Option, Result, Err, IfErr}
use Rattle.pep508_urls.specs.Unnamed.{NamesNone, EachMayOverflow}
use Rattle.url.specs.Parts.{Parts}
use Rattle.url.specs.Parser.{parse_url}
use Rattle.refusal.specs.declared.Refusal.{Refusal}
use Rattle.refusal.specs.declared.Refusal.TheVariants.{OutOfMemory, SegmentAtEnd, Fault}
use Rattle.refusal.specs.Refused.{IfFault}
use Rattle.pep508_errors.specs.declared.surroundings.Surroundings.{Surroundings}
use Rattle.pep508_urls.specs.declared.error.VerbatimUrlError.{VerbatimUrlError}
use Rattle.pep508_urls.specs.declared.error.VerbatimUrlError.TheVariants as faults
use Rattle.pep508_urls.specs.declared.scheme.Scheme.{Scheme}
use Rattle.pep508_urls.specs.declared.scheme.Scheme.TheVariants.{File}
use Rattle.pep508_urls.specs.Fault.{IsFaultIn, IsFaultOf, IsParseFault, MayOverflow, TextMayOverflow, tells_size}
use Rattle.pep508_urls.specs.Path.{url_path}
use Rattle.pep508_urls.specs.Scheme.{scheme_text, without_host}
use Rattle.pep508_urls.specs.Meaning.{Meaning, is_url, is_path, StandsFor, file, known, other, IsUrlOf, IsVerbatim, folder_of}
use Rattle.pep508_urls.specs.Variables.{Expands, value_of}
use Rattle.pep508_urls.specs.Verbatim.{Verbatim}
use Rattle.pep508_urls.proofs.SchemeLaws.{scheme_same}
use Rattle.pep508_urls.proofs.VariableLaws.{expands_same}

-- no other scheme is written as `file`
file_alone : (scheme : Scheme) → scheme_text scheme ≡ scheme_text File → scheme ≡ File
file_alone scheme h1 = grind arith

-- a text denotes one thing
pub meaning_same : {text : List ℕ} {a b : Meaning} → StandsFor text a → StandsFor text b → a ≡ b
meaning_same (file {rest = r} s e) (file {rest = q} t f) = e ∙ ap (λ (x : List ℕ). is_path (url_path (without_host x))) (scheme_same s t).1 ∙ sym f
meaning_same (file s e) (known {scheme = k} not t f) = absurd (not (file_alone k (sym (scheme_same s t).0)))
meaning_same (file {rest = r} s e) (other none f) = absurd (none File r s)
meaning_same (known {scheme = k} not s e) (file t f) = absurd (not (file_alone k (scheme_same s t).0))
meaning_same (known not s e) (known still t f) = e ∙ sym f
meaning_same (known {scheme = k} {rest = r} not s e) (other none f) = absurd (none k r s)
meaning_same (other none e) (file {rest = r} t f) = absurd (none File r t)
meaning_same (other none e) (known {scheme = k} {rest = r} not t f) = absurd (none k r t)
meaning_same (other none e) (other still f) = e ∙ sym f

-- a text that `url` refuses has no URL
no_url : (text : List ℕ) (fault : VerbatimUrlError) → IsParseFault text fault → tells_size fault ≡ false → (parts : Parts) → parse_url None text ≡ Ok parts → ⊥
no_url text fault h1 h2 parts h3 = grind arith

no_meaning : (base : Option (List ℕ)) (meaning : Meaning) (fault : VerbatimUrlError) → IsFaultOf base meaning fault → tells_size fault ≡ false → (parts : Parts) → IsUrlOf base meaning parts → ⊥
no_meaning base meaning fault h1 h2 parts h3 = grind arith

-- what is true of a text's meaning is true of the text
pub none_named : (text expanded : List ℕ) (surroundings : Surroundings) (meaning : Meaning) (refusal : Refusal VerbatimUrlError) → Expands (value_of surroundings) text expanded → StandsFor expanded meaning → IfFault refusal (IsFaultOf (folder_of surroundings) meaning) → IfFault refusal (λ fault. tells_size fault ≡ false → (v : Verbatim) → IsVerbatim text surroundings v → ⊥)
none_named text expanded surroundings meaning refusal h1 h2 h3 = grind (arith, expands_same, meaning_same, no_meaning)

-- the same for each text that denotes something, with relative paths from a folder
none_made : (folder : Option (List ℕ)) (meaning : Meaning) (fault : VerbatimUrlError) → IsFaultOf folder meaning fault → tells_size fault ≡ false → NamesNone IsVerbatim folder meaning
none_made folder meaning fault told smaller text surroundings v has starts named =
    none_named text has.expanded surroundings meaning (Fault fault) has.expands has.stands_for (subst (λ (f : Option (List ℕ)). IsFaultOf f meaning fault) (sym starts) told) smaller v named

pub none_made_of : {V : Type 0} (folder : Option (List ℕ)) (meaning : Meaning) (result : Result V (Refusal VerbatimUrlError)) → IfErr result (λ refusal. IfFault refusal (IsFaultOf folder meaning)) → IfErr result (λ refusal. IfFault refusal (λ fault. tells_size fault ≡ false → NamesNone IsVerbatim folder meaning))
none_made_of folder meaning (Ok x) told = tt
none_made_of folder meaning (Err OutOfMemory) told = tt
none_made_of folder meaning (Err SegmentAtEnd) told = tt
none_made_of folder meaning (Err (Fault fault)) told = none_made folder meaning fault told

-- a URL starts from no folder
pub none_made_of_url : {V : Type 0} (text : List ℕ) (result : Result V (Refusal VerbatimUrlError)) → IfErr result (λ refusal. IfFault refusal (IsParseFault text)) → IfErr result (λ refusal. IfFault refusal (λ fault. tells_size fault ≡ false → (folder : Option (List ℕ)) → NamesNone IsVerbatim folder (is_url text)))
none_made_of_url text (Ok x) told = tt
none_made_of_url text (Err OutOfMemory) told = tt
none_made_of_url text (Err SegmentAtEnd) told = tt
none_made_of_url text (Err (Fault fault)) told = λ smaller folder. none_made folder (is_url text) fault told smaller

-- only a URL, or a path that has one, has a fault of size
size_of : (base : Option (List ℕ)) (meaning : Meaning) (fault : VerbatimUrlError) → IsFaultOf base meaning fault → tells_size fault ≡ true → MayOverflow base meaning
size_of base meaning fault h1 h2 = grind arith

-- the same for a text that denotes one
pub size_told : (text expanded : List ℕ) (surroundings : Surroundings) (meaning : Meaning) (refusal : Refusal VerbatimUrlError) → Expands (value_of surroundings) text expanded → StandsFor expanded meaning → IfFault refusal (IsFaultOf (folder_of surroundings) meaning) → IfFault refusal (λ fault. tells_size fault ≡ true → TextMayOverflow text surroundings)
size_told text expanded surroundings meaning refusal h1 h2 h3 = grind arith

-- and for each such text, with relative paths from the folder
each_size : (folder : Option (List ℕ)) (meaning : Meaning) (fault : VerbatimUrlError) → IsFaultOf folder meaning fault → tells_size fault ≡ true → EachMayOverflow TextMayOverflow folder meaning
each_size folder meaning fault h1 h2 = grind arith

pub size_told_of : {V : Type 0} (folder : Option (List ℕ)) (meaning : Meaning) (result : Result V (Refusal VerbatimUrlError)) → IfErr result (λ refusal. IfFault refusal (IsFaultOf folder meaning)) → IfErr result (λ refusal. IfFault refusal (λ fault. tells_size fault ≡ true → EachMayOverflow TextMayOverflow folder meaning))
size_told_of folder meaning (Ok x) told = tt
size_told_of folder meaning (Err OutOfMemory) told = tt
size_told_of folder meaning (Err SegmentAtEnd) told = tt
size_told_of folder meaning (Err (Fault fault)) told = each_size folder meaning fault told

pub size_told_of_url : {V : Type 0} (text : List ℕ) (result : Result V (Refusal VerbatimUrlError)) → IfErr result (λ refusal. IfFault refusal (IsParseFault text)) → IfErr result (λ refusal. IfFault refusal (λ fault. tells_size fault ≡ true → (folder : Option (List ℕ)) → EachMayOverflow TextMayOverflow folder (is_url text)))
size_told_of_url text result h1 = grind arith

-- the fault of what a text denotes is one of the text
pub fault_in : (text expanded : List ℕ) (surroundings : Surroundings) (meaning : Meaning) (refusal : Refusal VerbatimUrlError) → Expands (value_of surroundings) text expanded → StandsFor expanded meaning → IfFault refusal (IsFaultOf (folder_of surroundings) meaning) → IfFault refusal (IsFaultIn text surroundings)
fault_in text expanded surroundings meaning refusal h1 h2 h3 = grind arith
