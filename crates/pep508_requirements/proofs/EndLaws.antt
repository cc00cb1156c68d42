-- The end of a requirement: nothing, or the marker that the text ends with.
use Rattle.std.proofs.Common.{ℕ, List, [], ◌++◌, Option, Some, None, Result, Ok, Err, refl, sym, subst, arith, IsUtf8}
use Rattle.std.specs.Prelude.{IfErr}
use Rattle.std.specs.Str.{chars}
use Rattle.std.proofs.lemmas.Str.{encodes-chars}
use Rattle.refusal.specs.declared.Refusal.{Refusal}
use Rattle.refusal.specs.declared.Refusal.TheVariants as refusals
use Rattle.pep508_errors.specs.declared.error.Pep508Error.{Pep508Error}
use Rattle.pep508_errors.specs.declared.warning.MarkerWarningKind.{MarkerWarningKind}
use Rattle.marker_nodes.proofs.Firsts.{true_is}
use Rattle.marker_graph.specs.declared.tree.MarkerTree.{MarkerTree}
use Rattle.marker_graph.specs.declared.tree.TheConstants.MarkerTree.{TRUE}
use Rattle.marker_graph.specs.Contents.{Contents}
use Rattle.marker_grammar.specs.Formula.{Formula}
use Rattle.marker_grammar.specs.Grammar.{Reads}
use Rattle.pep508_markers.specs.Text.{HoldsTreeOf, IsRefusalIn}
use Rattle.pep508_text.specs.Suffix.{IsSuffix}
use Rattle.requirement_words.specs.Fault.{FindsInTail, IsFaultBy, IsTailFault}
use Rattle.requirement_words.specs.Tail.{HasNoTail, IsTail}
use Rattle.requirement_words.specs.declared.fault.Fault.{Fault}
use Rattle.requirement_words.proofs.FaultLaws.{fault_behind}
use Rattle.requirement_words.proofs.Readings.{tail_same}
use Rattle.pep508_requirements.specs.Requirement.{ReadsMarker, EndsWith, IsNoEnd, IsTreeOfEnd}
use Rattle.pep508_requirements.specs.Refused.{OnError, TellsFault, no_tail, in_marker, IsEndRefusal}
use Rattle.pep508_requirements.proofs.ErrorLaws.{error_by}

abbrev Kinds : Type 0
Kinds = List MarkerWarningKind

pub no_end_there : (rest : List ℕ) → ((marker : Option (List ℕ)) → ¬ IsTail rest marker) → IsNoEnd rest
no_end_there rest none f kinds e = none e.marker e.tail

pub unmarked_end : (c : Contents) (rest : List ℕ) → IsTail rest None → IsTreeOfEnd c rest TRUE []
unmarked_end c rest tail = record {
  held = omega arith;
  formula = None;
  end = record { marker = None; tail = tail; says = (refl, refl) };
  no_overflow = λ h. h;
  means = true_is c.nodes;
}

module _ (rest marker : List ℕ) (utf8 : IsUtf8 marker) (tail : IsTail rest (Some (chars marker))) where
  ends_with : {f : Option Formula} {kinds : Kinds} → Reads marker f kinds → EndsWith rest f kinds
  ends_with {f} {kinds} h = record {
    marker = Some (chars marker);
    tail = tail;
    says = subst (λ (x : List ℕ). Reads x f kinds) (sym (encodes-chars marker utf8)) h;
  }

  marker_of : {f : Option Formula} {kinds : Kinds} → EndsWith rest f kinds → Reads marker f kinds
  marker_of {f} {kinds} e =
      let says : ReadsMarker (Some (chars marker)) f kinds = subst (λ (m : Option (List ℕ)). ReadsMarker m f kinds) (tail_same rest e.marker (Some (chars marker)) e.tail tail) e.says in
      subst (λ (x : List ℕ). Reads x f kinds) (encodes-chars marker utf8) says

  pub marked_end : (c : Contents) (t : MarkerTree) (kinds : Kinds) → HoldsTreeOf c marker t kinds → IsTreeOfEnd c rest t kinds
  marked_end c t kinds h = record { held = h.held; formula = h.means.formula; end = ends_with h.means.reads; no_overflow = h.means.no_overflow; means = h.means.means }

module _ {T E : Type 0} (text front rest : List ℕ) where
  -- no end of a requirement is left
  pub end_refusal : (fault : Fault) (refusal : Refusal (Pep508Error T E)) → IsSuffix text (front ++ rest) → IsTailFault front rest fault → HasNoTail (chars rest)
      → OnError (TellsFault text fault) refusal → IsEndRefusal text front rest refusal
  end_refusal fault refusals.OutOfMemory s f none t = tt
  end_refusal fault refusals.SegmentAtEnd s f none t = absurd t
  end_refusal fault (refusals.Fault error) s f none t =
      let here : IsFaultBy (FindsInTail front rest) text fault = fault_behind (FindsInTail front rest) (FindsInTail front rest) s (λ k p b h. h) f in
      (no_tail (error_by (FindsInTail front rest) here t) none, no_end_there (chars rest) none)

  module _ (marker : List ℕ) (utf8 : IsUtf8 marker) (tail : IsTail (chars rest) (Some (chars marker))) where
    -- no marker follows `;`
    marker_refusal : (refusal : Refusal (Pep508Error T E)) → IsRefusalIn text marker refusal → IsEndRefusal text front rest refusal
    marker_refusal refusals.OutOfMemory h = tt
    marker_refusal refusals.SegmentAtEnd h = record { formula = h.0; kinds = h.1.0; end = ends_with (chars rest) marker utf8 tail h.1.1; overflows = h.2 }
    marker_refusal (refusals.Fault error) h = (
      in_marker tail (subst (λ (x : List ℕ). IsRefusalIn text x (refusals.Fault error)) (sym (encodes-chars marker utf8)) h),
      λ f kinds e. h.0 f kinds (marker_of (chars rest) marker utf8 tail e),
    )

    pub marker_refused : {A : Type 0} (result : Result A (Refusal (Pep508Error T E))) → IfErr result (IsRefusalIn text marker) → IfErr result (IsEndRefusal text front rest)
    marker_refused (Ok a) h = tt
    marker_refused (Err refusal) h = marker_refusal refusal h
