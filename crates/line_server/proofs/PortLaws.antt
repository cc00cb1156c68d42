-- Known bytes that grow or shrink in several steps.
use Rattle.std.proofs.Common.{◌≡◌, ℕ, List, [], ◌++◌, take, drop, Option, sym, ap, ◌∙◌, append_assoc, arith}
use Rattle.std.specs.Io.KnownBytes.{Appends, Consumes, Keeps}
use Rattle.std.proofs.lemmas.List.{append-nil, take-append-drop}
use Rattle.line_server.specs.Ports.{AppendsBeginning}

-- nothing was written, or nothing was read
pub Appends-nil : (a : Option (List ℕ)) → Appends a a []
Appends-nil a = grind (arith, append-nil)

pub Consumes-nil : (a : Option (List ℕ)) → Consumes a a []
Consumes-nil a = grind arith

-- one part after the other
pub Appends-then : (a b c : Option (List ℕ)) (xs ys : List ℕ) → Appends a b xs → Appends b c ys → Appends a c (xs ++ ys)
Appends-then a b c xs ys h1 h2 = grind (arith, append_assoc)

pub Consumes-then : (a b c : Option (List ℕ)) (xs ys : List ℕ) → Consumes a b xs → Consumes b c ys → Consumes a c (xs ++ ys)
Consumes-then a b c xs ys h1 h2 = grind (arith, append_assoc)

-- then what is known stays
pub Appends-kept : (a b c : Option (List ℕ)) (xs : List ℕ) → Appends a b xs → Keeps b c → Appends a c xs
Appends-kept a b c xs h1 h2 = grind arith

pub Consumes-kept : (a b c : Option (List ℕ)) (xs : List ℕ) → Consumes a b xs → Keeps b c → Consumes a c xs
Consumes-kept a b c xs h1 h2 = grind arith

-- some bytes were taken before the flush failed
pub beginning_taken : (a b c : Option (List ℕ)) (bytes : List ℕ) (n : ℕ) → Appends a b (take n bytes) → Keeps b c → AppendsBeginning a c bytes
beginning_taken a b c bytes n p k = record {
  front = take n bytes;
  back = drop n bytes;
  parts = sym (take-append-drop n bytes);
  written = Appends-kept a b c (take n bytes) p k;
}

-- one more write of a loop: `rest` was left, and `left` is left now
pub written_more : {bytes left : List ℕ} (front rest : List ℕ) (n : ℕ) (a b c : Option (List ℕ)) → bytes ≡ front ++ rest → Appends a b front → Appends b c (take n rest) → left ≡ drop n rest → (x : List ℕ) × (bytes ≡ x ++ left) × Appends a c x
written_more front rest n a b c e p q l = (
  front ++ take n rest,
  e ∙ ap (λ (x : List ℕ). front ++ x) (sym (take-append-drop n rest)) ∙ sym (append_assoc front (take n rest) (drop n rest)) ∙ ap (λ (x : List ℕ). (front ++ take n rest) ++ x) (sym l),
  Appends-then a b c front (take n rest) p q,
)

-- the last write of a loop failed
pub written_beginning : {bytes : List ℕ} (front rest : List ℕ) (a b c : Option (List ℕ)) → bytes ≡ front ++ rest → Appends a b front → AppendsBeginning b c rest → AppendsBeginning a c bytes
written_beginning front rest a b c h1 h2 h3 = grind (arith, append_assoc)
