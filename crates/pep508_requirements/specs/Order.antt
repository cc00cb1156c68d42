-- The orders of the views of requirements, of versions or URLs, and of origins: the variant that is
-- declared first comes first, and fields are compared in turn.
use Rattle.std.specs.Prelude.{ℕ, List}
use Rattle.std.specs.Cmp.Lexicographic.{slice_cmp}
use Rattle.std.specs.Option.{option_cmp}
use Rattle.std.specs.Ordering.{nat_cmp, on, ordering_then, then_cmp}
use Rattle.std.specs.String.{string_cmp}
use Rattle.std.specs.declared.cmp.Ordering.{Ordering}
use Rattle.std.specs.declared.cmp.Ordering.TheVariants.{Less, Equal, Greater}
use Rattle.pep440_specifier.specs.Order.{specifier_cmp}
use Rattle.marker_view.specs.View.{view_cmp}
use Rattle.pep508_requirements.specs.declared.origin.RequirementOrigin.{RequirementOrigin}
use Rattle.pep508_requirements.specs.declared.origin.RequirementOrigin.TheVariants.{File, Project, Workspace}
use Rattle.pep508_requirements.specs.declared.unnamed_view.UnnamedRequirementView.{UnnamedRequirementView}
use Rattle.pep508_requirements.specs.declared.version_or_url.VersionOrUrl.{VersionOrUrl}
use Rattle.pep508_requirements.specs.declared.version_or_url.VersionOrUrl.TheVariants.{VersionSpecifier, Url}
use Rattle.pep508_requirements.specs.declared.view.RequirementView.{RequirementView}

-- names by their bytes
abbrev pub name_cmp : List ℕ → List ℕ → Ordering
name_cmp = slice_cmp nat_cmp

-- files, then projects, by their path and their name, then workspaces
abbrev pub origin_cmp : RequirementOrigin → RequirementOrigin → Ordering
origin_cmp (File path) (File other) = string_cmp path other
origin_cmp (File path) (Project other name) = Less
origin_cmp (File path) Workspace = Less
origin_cmp (Project path name) (File other) = Greater
origin_cmp (Project path name) (Project other called) =
    ordering_then (string_cmp path other) (name_cmp name called)
origin_cmp (Project path name) Workspace = Less
origin_cmp Workspace (File other) = Greater
origin_cmp Workspace (Project other called) = Greater
origin_cmp Workspace Workspace = Equal

module _ {T E : Type 0} (url_cmp : T → T → Ordering) where
  -- specifiers, one by one, then URLs
  abbrev pub wanted_cmp : VersionOrUrl T E → VersionOrUrl T E → Ordering
  wanted_cmp (VersionSpecifier set) (VersionSpecifier other) = slice_cmp specifier_cmp set other
  wanted_cmp (VersionSpecifier set) (Url other) = Less
  wanted_cmp (Url url) (VersionSpecifier other) = Greater
  wanted_cmp (Url url) (Url other) = url_cmp url other

  -- by name, then extras, then versions or URL, then marker, then origin
  abbrev pub requirement_cmp : RequirementView T E → RequirementView T E → Ordering
  requirement_cmp =
      then_cmp (on (λ v. v.name.now) name_cmp)
      (then_cmp (on (λ v. v.extras.now) (slice_cmp name_cmp))
      (then_cmp (on (λ v. v.version_or_url.now) (option_cmp wanted_cmp))
      (then_cmp (on (λ v. v.marker) view_cmp)
      (on (λ v. v.origin.now) (option_cmp origin_cmp)))))

  -- by URL, then extras, then marker, then origin
  abbrev pub unnamed_cmp : UnnamedRequirementView T E → UnnamedRequirementView T E → Ordering
  unnamed_cmp =
      then_cmp (on (λ v. v.url.now) url_cmp)
      (then_cmp (on (λ v. v.extras.now) (slice_cmp name_cmp))
      (then_cmp (on (λ v. v.marker) view_cmp)
      (on (λ v. v.origin.now) (option_cmp origin_cmp))))
