-- Lists of names.
use Rattle.std.proofs.Common.{◌≡◌, ◌∙◌, ◌<◌, ◌+◌, ℕ, List, [], ◌∷◌, ◌++◌, take, length, get_or, sym, ap, subst}
use denote.Ref.{Bor}
use Rattle.std.proofs.lemmas.List.{map-append, take_more}
use Rattle.pep508_names.specs.Name.{NormalizesTo}
use Rattle.marker_commands.specs.Extras.{Names, no_more, name, bytes_of}

-- one more name
names_then : {words names : List (List ℕ)} {word normal : List ℕ} → Names words names → NormalizesTo word normal → Names (words ++ (word ∷ [])) (names ++ (normal ∷ []))
names_then no_more p = name p no_more
names_then (name q n) p = name q (names_then n p)

bytes-push : (words : List (Bor (List ℕ))) (word : Bor (List ℕ)) {more : List (Bor (List ℕ))} → more ≡ words ++ (word ∷ []) → bytes_of more ≡ bytes_of words ++ (word.now ∷ [])
bytes-push words word made = ap bytes_of made ∙ map-append (λ (w : Bor (List ℕ)). w.now) words (word ∷ [])

-- the same for the first words of a list
pub names_more : {names more : List (List ℕ)} {normal : List ℕ} (words : List (Bor (List ℕ))) (i : ℕ) (d : Bor (List ℕ)) → i < length words → Names (bytes_of (take i words)) names → NormalizesTo (get_or words i d).now normal → more ≡ names ++ (normal ∷ []) → Names (bytes_of (take (i + 1) words)) more
names_more {names} {more} {normal} words i d below n p made =
    subst (Names (bytes_of (take (i + 1) words))) (sym made)
    (subst (λ (x : List (List ℕ)). Names x (names ++ (normal ∷ []))) (sym (bytes-push (take i words) (get_or words i d) (take_more words i d below))) (names_then n p))
