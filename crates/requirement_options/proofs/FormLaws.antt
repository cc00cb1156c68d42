-- Names of options, read character by character.
use Rattle.std.proofs.Common.{◌≡◌, ℕ, Bool, true, false, cond, List, [], ◌∷◌, ◌++◌, refl, sym, ap, ◌∙◌, append_assoc}
use Rattle.std.specs.Prelude.{Option, None, Some, ◌==◌, encode_utf8, encode_utf8_all}
use Rattle.std.proofs.lemmas.List.{append-nil}
use Rattle.std.proofs.lemmas.Str.{encodes-append}
use Rattle.requirement_lines.specs.Character.{Character}
use Rattle.requirement_options.specs.Forms.{FormOf, long, name_before, argument_after, long_form}

-- the whole is a name of which this was read, and `rest` is still to be read
pub record Reads (whole : List Character) (read : List ℕ) (rest : List Character) : Type 0 where
  pub name : List ℕ
  pub bytes : read ≡ encode_utf8_all name
  pub name_is : name_before whole ≡ name ++ name_before rest
  pub argument_is : argument_after whole ≡ argument_after rest

pub reads_more : {whole rest ps : List Character} {read new : List ℕ} (p : Character) → Reads whole read rest → rest ≡ p ∷ ps → (p.char == 61) ≡ false → new ≡ read ++ encode_utf8 p.char → Reads whole new ps
reads_more {whole} {rest} {ps} {read} {new} p r begins goes_on new_is = record {
  name = r.name ++ (p.char ∷ []);
  bytes = new_is ∙ ap (λ (x : List ℕ). x ++ encode_utf8 p.char) r.bytes ∙ ap (λ (x : List ℕ). encode_utf8_all r.name ++ x) (sym (append-nil (encode_utf8 p.char))) ∙ sym (encodes-append r.name (p.char ∷ []));
  name_is = r.name_is ∙ ap (λ x. r.name ++ name_before x) begins ∙ ap (λ b. r.name ++ cond b [] (p.char ∷ name_before ps)) goes_on ∙ sym (append_assoc r.name (p.char ∷ []) (name_before ps));
  argument_is = r.argument_is ∙ ap argument_after begins ∙ ap (λ b. cond b (Some ps) (argument_after ps)) goes_on;
}

pub reads_equals : {whole rest ps : List Character} {read : List ℕ} (p : Character) → Reads whole read rest → rest ≡ p ∷ ps → (p.char == 61) ≡ true → long_form whole ≡ long read (Some ps)
reads_equals {whole} {rest} {ps} {read} p r begins closes =
    ap (λ x. long (encode_utf8_all x) (argument_after whole)) (r.name_is ∙ ap (λ x. r.name ++ name_before x) begins ∙ ap (λ b. r.name ++ cond b [] (p.char ∷ name_before ps)) closes ∙ append-nil r.name)
    ∙ ap (λ x. long (encode_utf8_all r.name) x) (r.argument_is ∙ ap argument_after begins ∙ ap (λ b. cond b (Some ps) (argument_after ps)) closes)
    ∙ ap (λ x. long x (Some ps)) (sym r.bytes)

pub reads_all : {whole rest : List Character} {read : List ℕ} → Reads whole read rest → rest ≡ [] → long_form whole ≡ long read None
reads_all {whole} {rest} {read} r ends =
    ap (λ x. long (encode_utf8_all x) (argument_after whole)) (r.name_is ∙ ap (λ x. r.name ++ name_before x) ends ∙ append-nil r.name)
    ∙ ap (λ x. long (encode_utf8_all r.name) x) (r.argument_is ∙ ap argument_after ends)
    ∙ ap (λ x. long x None) (sym r.bytes)
