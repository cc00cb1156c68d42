-- What contracts see of a URL with the text that it was given as.
use Rattle.std.specs.Prelude.{ℕ, List, Option, Some, refl}
use Rattle.std.specs.Coded.{Coded, code_by, coded×, coded_ℕ, coded_list, coded_option}
use Rattle.url.specs.Parts.{Parts, parts_code}

pub record Verbatim : Type 0 where
  pub url : Parts
  pub given : Option (List ℕ)

abbrev pub verbatim_code : Coded Verbatim
verbatim_code =
    code_by (Parts × Option (List ℕ)) (coded× parts_code (coded_option (coded_list coded_ℕ)))
    (λ v. (v.url, v.given)) (λ p. record { url = p.0; given = p.1 }) (λ _. refl)

-- the same URL, given as this text
abbrev pub given_as : Verbatim → List ℕ → Verbatim
given_as v text = record v { given = Some text }
