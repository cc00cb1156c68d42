-- Bytes that are edited one part after another.
use Rattle.std.proofs.Common.{◌≡◌, ℕ, ◌-◌, ◌≤◌, List, [], ◌∷◌, ◌++◌, length, take, drop, sym, ap, ◌∙◌, subst, append_assoc, arith, length-drop}
use Rattle.std.specs.Prelude.{string_bytes}
use Rattle.std.proofs.lemmas.List.{take-append-drop, drop-drop}
use Rattle.formatting_commands.specs.Applying.{Makes, kept, replaced}
use Rattle.formatting_commands.specs.declared.applying.Edit.{Edit}

-- what is made of the rest of the bytes follows what was made of those before
pub record Making (bytes : List ℕ) (all : List Edit) (rest : List ℕ) (left : List Edit) (done : List ℕ) : Type 0 where
  pub goes_on : (more : List ℕ) → Makes (length bytes) rest left more → Makes (length bytes) bytes all (done ++ more)

-- the part between two bytes
pub cut : (bytes : List ℕ) (start end : ℕ) → start ≤ end → drop start bytes ≡ take (end - start) (drop start bytes) ++ drop end bytes
cut bytes start end le =
    sym (take-append-drop (end - start) (drop start bytes)) ∙ ap (λ (x : List ℕ). take (end - start) (drop start bytes) ++ x) (drop-drop (end - start) start bytes ∙ ap (λ (n : ℕ). drop n bytes) (omega arith))

-- one more edit
pub making_more : {bytes done new : List ℕ} {all : List Edit} (edit : Edit) (others : List Edit) (at : ℕ) → Making bytes all (drop at bytes) (edit ∷ others) done
    → at ≤ edit.start → edit.start ≤ edit.end → edit.end ≤ length bytes → new ≡ (done ++ take (edit.start - at) (drop at bytes)) ++ string_bytes edit.text → Making bytes all (drop edit.end bytes) others new
making_more {bytes} {done} {new} {all} edit others at m from to within new_is = record {
  goes_on = λ more made.
      let front : List ℕ = take (edit.start - at) (drop at bytes) in
      let old : List ℕ = take (edit.end - edit.start) (drop edit.start bytes) in
      let back : List ℕ = drop edit.end bytes in
      let whole : drop at bytes ≡ front ++ (old ++ back) = cut bytes at edit.start from ∙ ap (λ (x : List ℕ). front ++ x) (cut bytes edit.start edit.end to) in
      let rest : old ++ back ≡ drop edit.start bytes = sym (cut bytes edit.start edit.end to) in
      let start_is : edit.start ≡ length bytes - length (old ++ back) = omega (arith, ap length rest, length-drop edit.start bytes) in
      let end_is : edit.end ≡ length bytes - length back = omega (arith, length-drop edit.end bytes) in
      let text : List ℕ = string_bytes edit.text in
      let one : Makes (length bytes) (drop at bytes) (edit ∷ others) (front ++ (text ++ more)) =
      subst (λ (x : List ℕ). Makes (length bytes) x (edit ∷ others) (front ++ (text ++ more))) (sym whole) (replaced front old back start_is end_is made) in
      let joined : done ++ (front ++ (text ++ more)) ≡ new ++ more =
      sym (append_assoc done front (text ++ more)) ∙ sym (append_assoc (done ++ front) text more) ∙ ap (λ (x : List ℕ). x ++ more) (sym new_is) in
      subst (λ (x : List ℕ). Makes (length bytes) bytes all x) joined (m.goes_on (front ++ (text ++ more)) one);
}

-- the last bytes
pub making_ended : {bytes done new : List ℕ} {all : List Edit} (rest : List ℕ) → Making bytes all rest [] done → new ≡ done ++ rest → Makes (length bytes) bytes all new
making_ended {bytes} {done} {new} {all} rest m new_is = subst (λ (x : List ℕ). Makes (length bytes) bytes all x) (sym new_is) (m.goes_on rest kept)
