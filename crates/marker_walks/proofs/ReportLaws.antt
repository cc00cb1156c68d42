-- Warnings of comparisons by order, one after another.
use Rattle.std.proofs.Common.{◌≡◌, ℕ, zero, suc, ◌<◌, List, [], ◌∷◌, ◌++◌, map, length, get_or, Option, Some, All, sym, ap, ◌∙◌, subst, append_assoc, append-nil, arith}
use Rattle.std.specs.Prelude.{Result, OnErr, OnOk, String}
use Rattle.std.specs.Global.{Global}
use Rattle.std.proofs.lemmas.List.Elements.{All-nil, All-append}
use Rattle.pep508_errors.specs.declared.warning.MarkerWarningKind.{MarkerWarningKind}
use Rattle.pep508_errors.specs.declared.warning.MarkerWarningKind.TheVariants.{LexicographicComparison}
use Rattle.pep508_errors.specs.Kinds.{Adds, Keeps}
use Rattle.marker_diagrams.proofs.NodeLaws.{same_some}
use Rattle.marker_walks.specs.Report.{AddsComparisons}

abbrev Kinds : Type 0
Kinds = Option (List MarkerWarningKind)

-- a warning of such a comparison
abbrev IsComparison : MarkerWarningKind → Type 0
IsComparison kind = kind ≡ LexicographicComparison

-- the same kinds, and more of them
adds_nothing : (kinds : Kinds) → Adds kinds kinds []
adds_nothing kinds = grind (arith, append-nil)

adds_more : (a b c : Kinds) (ks ls : List MarkerWarningKind) → Adds a b ks → Adds b c ls → Adds a c (ks ++ ls)
adds_more a b c ks ls h1 h2 = grind (arith, append_assoc)

-- nothing was reported
pub told_nothing : (kinds : Kinds) → AddsComparisons kinds kinds
told_nothing kinds = ([], adds_nothing kinds, All-nil IsComparison)

-- more was reported
pub told_more : (a b c : Kinds) → AddsComparisons a b → AddsComparisons b c → AddsComparisons a c
told_more a b c h k = (h.0 ++ k.0, adds_more a b c h.0 k.0 h.1 k.1, All-append IsComparison h.0 k.0 h.2 k.2)

keeps_adds : (a b : Kinds) → Keeps a b → Adds a b []
keeps_adds a b h1 = grind (arith, append-nil)

-- a report is taken or refused
pub told_once : {T E : Type 0} (r : Result T E) (a b : Kinds) → OnOk r (Adds a b (LexicographicComparison ∷ [])) → OnErr r (Keeps a b) → AddsComparisons a b
told_once r a b h1 h2 = grind (arith, keeps_adds)

-- ---- a list of warnings
-- the warnings of a list, of whose kinds something is known
kinds_apart : (P : MarkerWarningKind → Type 0) (warnings : List (MarkerWarningKind × String Global)) → All P (map (λ warning. warning.0) warnings) →
    (k : ℕ) (d : MarkerWarningKind × String Global) → k < length warnings → P (get_or warnings k d).0
kinds_apart P [] h k d l = absurd (omega arith)
kinds_apart P (warning ∷ warnings) h zero d l = h 0 d.0 (omega arith)
kinds_apart P (warning ∷ warnings) h (suc k) d l = kinds_apart P warnings (λ i e m. h (suc i) e (omega arith)) k d (omega arith)

-- what was reported to a list without warnings
module _ (old new : List (MarkerWarningKind × String Global)) (e : old ≡ []) (h : AddsComparisons (Some (map (λ warning. warning.0) old)) (Some (map (λ warning. warning.0) new))) where
  kinds_are : map (λ warning. warning.0) new ≡ h.0
  kinds_are = same_some _ _ h.1 ∙ ap (λ (l : List (MarkerWarningKind × String Global)). map (λ warning. warning.0) l ++ h.0) e

  pub collected : All (λ warning. IsComparison warning.0) new
  collected = kinds_apart IsComparison new (subst (All IsComparison) (sym kinds_are) h.2)
