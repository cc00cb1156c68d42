-- A requirement is read by its parts: up to the marker, the URL, and the marker.
use Rattle.std.proofs.Common.{ℕ, Bool, List, Option, Some, None, sym, ap, ◌∙◌, subst}
use Rattle.std.specs.Str.{chars}
use Rattle.refusal.specs.declared.Refusal.{Refusal}
use Rattle.refusal.specs.declared.Refusal.TheVariants as refusals
use Rattle.pep508_errors.specs.declared.error.Pep508Error.{Pep508Error}
use Rattle.pep508_errors.specs.declared.warning.MarkerWarningKind.{MarkerWarningKind}
use Rattle.marker_graph.specs.declared.tree.MarkerTree.{MarkerTree}
use Rattle.marker_graph.specs.Contents.{Contents}
use Rattle.marker_grammar.specs.Formula.{Formula}
use Rattle.requirement_words.specs.Fault.{FindsInHead}
use Rattle.requirement_words.specs.Head.{Asked, nothing, specifiers, url, IsHead, HasNoHead}
use Rattle.requirement_words.proofs.Readings.{head_same}
use Rattle.pep508_requirements.specs.declared.version_or_url.VersionOrUrl.{VersionOrUrl}
use Rattle.pep508_requirements.specs.declared.version_or_url.VersionOrUrl.TheVariants as wants
use Rattle.pep508_requirements.specs.Requirement.{EndsWith, IsWanted, IsRequirement, IsReadAs, IsUnread, IsTreeOfEnd, IsNoEnd}
use Rattle.pep508_requirements.specs.Refused.{asked_url, is_of_size, in_head, in_url, in_end, OnError, IsRefusedBy, IsEndRefusal, IsAskedError, IsRefusal}

abbrev Kinds : Type 0
Kinds = List MarkerWarningKind

module _ {T E : Type 0} (names : List ℕ → T → Type 0) (text : List ℕ) where
  no_head : HasNoHead (chars text) → IsUnread E names text
  no_head none n x w f k r = none r.rest n x r.asked r.head

  -- the text of the URL has no value
  no_url : (rest name : List ℕ) (extras : List (List ℕ)) (piece : List ℕ) → IsHead (chars text) (chars rest) name extras (url piece) → ((u : T) → ¬ names piece u) → IsUnread E names text
  no_url rest name extras piece head none n x w f k r =
      let same = head_same (chars text) (chars rest) r.rest name n extras x (url piece) r.asked head r.head in
      unwanted w (subst (λ (a : Asked). IsWanted names a w) (sym same.3) r.is_wanted)
    where
      unwanted : (w : Option (VersionOrUrl T E)) → IsWanted names (url piece) w → ⊥
      unwanted None h = h
      unwanted (Some (wants.VersionSpecifier s)) h = h
      unwanted (Some (wants.Url u)) h = none u h

  module _ (rest name : List ℕ) (extras : List (List ℕ)) (asked : Asked) (head : IsHead (chars text) (chars rest) name extras asked) where
    no_end : IsNoEnd (chars rest) → IsUnread E names text
    no_end none n x w f k r =
        let same = head_same (chars text) (chars rest) r.rest name n extras x asked r.asked head r.head in
        none f k (subst (λ (l : List ℕ). EndsWith l f k) (sym same.0) r.end)

    module _ (wanted : Option (VersionOrUrl T E)) (is_wanted : IsWanted names asked wanted) where
      whole : {f : Option Formula} {kinds : Kinds} → EndsWith (chars rest) f kinds → IsRequirement names text name extras wanted f kinds
      whole e = record { asked = asked; rest = chars rest; head = head; is_wanted = is_wanted; end = e }

      module _ (tells_size : E → Bool) (may_overflow : List ℕ → Type 0) (value : List ℕ → List ℕ) where
        pub end_refusal : (refusal : Refusal (Pep508Error T E)) → IsEndRefusal text (asked_url asked) rest refusal → IsRefusal names tells_size may_overflow value text refusal
        end_refusal refusals.OutOfMemory h = tt
        end_refusal refusals.SegmentAtEnd h = record { name = name; extras = extras; wanted = wanted; formula = h.formula; kinds = h.kinds; requirement = whole h.end; overflows = h.overflows }
        end_refusal (refusals.Fault error) h = record { has = in_end rest head h.0; unread = λ _. no_end h.1 }

  module _ (tells_size : E → Bool) (may_overflow : List ℕ → Type 0) (value : List ℕ → List ℕ) where
    pub url_refusal : (rest name : List ℕ) (extras : List (List ℕ)) (asked : Asked) → IsHead (chars text) (chars rest) name extras asked → (refusal : Refusal (Pep508Error T E))
        → OnError (IsAskedError names tells_size may_overflow text asked rest) refusal → IsRefusal names tells_size may_overflow value text refusal
    url_refusal rest name extras asked head refusals.OutOfMemory h = tt
    url_refusal rest name extras asked head refusals.SegmentAtEnd h = absurd h
    url_refusal rest name extras nothing head (refusals.Fault error) h = absurd h
    url_refusal rest name extras (specifiers set) head (refusals.Fault error) h = absurd h
    url_refusal rest name extras (url piece) head (refusals.Fault error) h = record {
      has = in_url rest head h;
      unread = λ small. no_url rest name extras piece head (h.fault_is.none (ap (is_of_size tells_size) (sym h.told.message) ∙ small));
    }

    pub head_refusal : (refusal : Refusal (Pep508Error T E)) → IsRefusedBy (FindsInHead value text) (HasNoHead (chars text)) text refusal → IsRefusal names tells_size may_overflow value text refusal
    head_refusal refusals.OutOfMemory h = tt
    head_refusal refusals.SegmentAtEnd h = absurd h
    head_refusal (refusals.Fault error) h = record { has = in_head h.0; unread = λ _. no_head h.1 }
