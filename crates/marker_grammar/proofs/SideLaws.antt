-- A name, an operator and a quoted text, either way round, as the grammar reads them.
use Rattle.std.proofs.Common.{◌≡◌, ℕ, true, List, [], ◌∷◌, ◌++◌, refl, sym, ap, ◌∙◌, subst}
use Rattle.std.specs.Prelude.{encode_utf8_all}
use Rattle.std.specs.List.{list_all}
use Rattle.std.specs.Str.{chars, chars_after, continuation_len, lead_bits}
use Rattle.std.proofs.lemmas.List.{append_assoc}
use Rattle.pep508_text.specs.Class.{holds}
use Rattle.pep508_text.specs.Run.{none, more}
use Rattle.pep508_text.specs.declared.classes.Class.TheVariants.{NotQuote}
use Rattle.marker_words.specs.declared.operator.MarkerOperator.{MarkerOperator}
use Rattle.marker_words.specs.Lexical.{Value, quoted, IsQuote, IsValue, sides}
use Rattle.marker_parts.specs.Comparison.{Meaning, Means, Compared, compared}
use Rattle.marker_grammar.proofs.Printed.{IsBehind, space}
use Rattle.marker_grammar.proofs.WordLaws.{quoted_read, printed_operator}

module _ (name operator_text cs : List ℕ) (q : ℕ) (value : Value) (operator : MarkerOperator) where
  -- a name, an operator and a quoted text
  pub name_first : ((o : List ℕ) → IsBehind o → IsValue (name ++ o) o value) → printed_operator operator operator_text → IsQuote q → list_all (holds (NotQuote q)) cs ≡ true →
      {m : Meaning} → Means value operator (quoted (encode_utf8_all cs)) m → (o : List ℕ) → Compared ((name ++ (32 ∷ (operator_text ++ (32 ∷ q ∷ (cs ++ (q ∷ [])))))) ++ o) o m
  name_first n p s h {m} e o =
      subst (λ i. Compared i o m) (sym shape) (compared (sides none (n (32 ∷ (operator_text ++ (32 ∷ q ∷ (cs ++ (q ∷ o))))) space) (more refl none) (p (q ∷ (cs ++ (q ∷ o)))) (more refl none) (quoted_read q cs o s h)) e)
    where
      shape : (name ++ (32 ∷ (operator_text ++ (32 ∷ q ∷ (cs ++ (q ∷ [])))))) ++ o ≡ name ++ (32 ∷ (operator_text ++ (32 ∷ q ∷ (cs ++ (q ∷ o)))))
      shape = simp append_assoc

  -- a quoted text, an operator and a name
  pub text_first : ((o : List ℕ) → IsBehind o → IsValue (name ++ o) o value) → printed_operator operator operator_text → IsQuote q → list_all (holds (NotQuote q)) cs ≡ true →
      {m : Meaning} → Means (quoted (encode_utf8_all cs)) operator value m → (o : List ℕ) → IsBehind o → Compared ((q ∷ (cs ++ (q ∷ 32 ∷ (operator_text ++ (32 ∷ name))))) ++ o) o m
  text_first n p s h {m} e o b =
      subst (λ i. Compared i o m) (sym shape) (compared (sides none (quoted_read q cs (32 ∷ (operator_text ++ (32 ∷ (name ++ o)))) s h) (more refl none) (p (name ++ o)) (more refl none) (n o b)) e)
    where
      shape : (q ∷ (cs ++ (q ∷ 32 ∷ (operator_text ++ (32 ∷ name))))) ++ o ≡ q ∷ (cs ++ (q ∷ 32 ∷ (operator_text ++ (32 ∷ (name ++ o)))))
      shape = simp append_assoc

-- ---- terms by their bytes

-- an ASCII byte is a character
zero_after : (c : ℕ) (t : List ℕ) → chars_after 0 c t ≡ c ∷ chars t
unfolding chars
zero_after c [] = refl
zero_after c (b ∷ t) = refl

pub chars_ascii : (c : ℕ) (t : List ℕ) → continuation_len c ≡ 0 → lead_bits c ≡ c → chars (c ∷ t) ≡ c ∷ chars t
unfolding chars
chars_ascii c t e f = ap (λ n. chars_after n (lead_bits c) t) e ∙ ap (λ l. chars_after 0 l t) f ∙ zero_after c t
