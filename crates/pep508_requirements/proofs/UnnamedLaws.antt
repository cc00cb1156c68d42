-- A requirement without a name is read by its parts: up to the marker, the URL, and the marker.
use Rattle.std.proofs.Common.{◌≡◌, ℕ, Bool, List, Option, Some, sym, ap, ◌∙◌, subst}
use Rattle.std.specs.Str.{chars}
use Rattle.refusal.specs.declared.Refusal.{Refusal}
use Rattle.refusal.specs.declared.Refusal.TheVariants as refusals
use Rattle.pep508_errors.specs.declared.error.Pep508Error.{Pep508Error}
use Rattle.pep508_errors.specs.declared.warning.MarkerWarningKind.{MarkerWarningKind}
use Rattle.marker_graph.specs.declared.tree.MarkerTree.{MarkerTree}
use Rattle.marker_graph.specs.Contents.{Contents}
use Rattle.marker_grammar.specs.Formula.{Formula}
use Rattle.requirement_words.specs.Fault.{FindsInUnnamed}
use Rattle.requirement_words.specs.Unnamed.{HasNoUnnamedHead, IsUnnamedHead}
use Rattle.requirement_words.proofs.Readings.{unnamed_head_same}
use Rattle.pep508_requirements.specs.Requirement.{EndsWith, IsTreeOfEnd, IsNoEnd}
use Rattle.pep508_requirements.specs.Refused.{is_of_size, OnError, IsRefusedBy, IsEndRefusal, IsUrlError}
use Rattle.pep508_requirements.specs.Unnamed.{in_head, in_url, in_end, IsUnnamedRequirement, IsUnreadUnnamed, IsUnnamedReadAs, IsUnnamedRefusal}

abbrev Kinds : Type 0
Kinds = List MarkerWarningKind

module _ {U : Type 0} (names : List ℕ → U → Type 0) (text : List ℕ) where
  no_head : HasNoUnnamedHead (chars text) → IsUnreadUnnamed names text
  no_head none u x f k r = none r.rest r.whole r.given x r.head

  module _ (rest whole given : List ℕ) (extras : List (List ℕ)) (head : IsUnnamedHead (chars text) (chars rest) whole given extras) where
    -- the URL has no value
    no_url : ((u : U) → ¬ names given u) → IsUnreadUnnamed names text
    no_url none u x f k r =
        let same = unnamed_head_same (chars text) (chars rest) r.rest whole r.whole given r.given extras x head r.head in
        none u (subst (λ (g : List ℕ). names g u) (sym same.2) r.named)

    no_end : IsNoEnd (chars rest) → IsUnreadUnnamed names text
    no_end none u x f k r =
        let same = unnamed_head_same (chars text) (chars rest) r.rest whole r.whole given r.given extras x head r.head in
        none f k (subst (λ (l : List ℕ). EndsWith l f k) (sym same.0) r.end)

    module _ (u : U) (named : names given u) where
      unnamed_whole : {f : Option Formula} {kinds : Kinds} → EndsWith (chars rest) f kinds → IsUnnamedRequirement names text u extras f kinds
      unnamed_whole e = record { whole = whole; given = given; rest = chars rest; head = head; named = named; end = e }

      pub unnamed_read_as : (given_text : U → Option (List ℕ)) → given_text u ≡ Some given → (c : Contents) (t : MarkerTree) (kinds : Kinds) → IsTreeOfEnd c (chars rest) t kinds → IsUnnamedReadAs names given_text c text u extras t kinds
      unfolding unnamed_whole
      unnamed_read_as given_text given_is c t kinds h = record { formula = h.formula; requirement = unnamed_whole h.end; given_is = given_is; no_overflow = h.no_overflow; means = h.means }

      module _ {E : Type 0} (tells_size : E → Bool) (may_overflow : List ℕ → Type 0) where
        pub unnamed_end_refusal : (refusal : Refusal (Pep508Error U E)) → IsEndRefusal text whole rest refusal → IsUnnamedRefusal names tells_size may_overflow text refusal
        unnamed_end_refusal refusals.OutOfMemory h = tt
        unnamed_end_refusal refusals.SegmentAtEnd h = record { url = u; extras = extras; formula = h.formula; kinds = h.kinds; requirement = unnamed_whole h.end; overflows = h.overflows }
        unnamed_end_refusal (refusals.Fault error) h = record { has = in_end head h.0; unread = λ _. no_end h.1 }

    module _ {E : Type 0} (tells_size : E → Bool) (may_overflow : List ℕ → Type 0) where
      pub unnamed_url_refusal : (refusal : Refusal (Pep508Error U E)) → OnError (IsUrlError names tells_size may_overflow text whole given rest) refusal → IsUnnamedRefusal names tells_size may_overflow text refusal
      unnamed_url_refusal refusals.OutOfMemory h = tt
      unnamed_url_refusal refusals.SegmentAtEnd h = absurd h
      unnamed_url_refusal (refusals.Fault error) h = record {
        has = in_url head h;
        unread = λ small. no_url (h.fault_is.none (ap (is_of_size tells_size) (sym h.told.message) ∙ small));
      }

  module _ {E : Type 0} (tells_size : E → Bool) (may_overflow : List ℕ → Type 0) where
    pub unnamed_head_refusal : (refusal : Refusal (Pep508Error U E)) → IsRefusedBy (FindsInUnnamed text) (HasNoUnnamedHead (chars text)) text refusal → IsUnnamedRefusal names tells_size may_overflow text refusal
    unnamed_head_refusal refusals.OutOfMemory h = tt
    unnamed_head_refusal refusals.SegmentAtEnd h = absurd h
    unnamed_head_refusal (refusals.Fault error) h = record { has = in_head h.0; unread = λ _. no_head h.1 }
