-- A text is one list of versions at most, and is read entry by entry.
use Rattle.std.proofs.Common.{◌≡◌, ℕ, ◌<◌, Bool, true, false, not, List, [], ◌∷◌, ◌++◌, length, refl, sym, ap, ◌∙◌, subst, append_assoc, append-nil, arith, encode_utf8_all}
use Rattle.std.specs.Char.{is_whitespace}
use Rattle.std.proofs.lemmas.Str.{length-le-encodes}
use Rattle.pep508_text.specs.Run.{Run, run_of, after_run, after_space, Spaces}
use Rattle.pep508_text.specs.declared.classes.Class.TheVariants.{NotSpace}
use Rattle.pep508_text.proofs.RunLaws.{run_same, run_of-first, run_of-holds, after_run-holds, after_run-fails, spaces_end, spaces_from, trimmed_nil, trimmed_by_run}
use Rattle.pep508_text.proofs.SuffixLaws.{suffix_then}
use Rattle.pep440_version.specs.Parts.{Parts}
use Rattle.pep440_version.specs.Grammar.{IsVersionText}
use Rattle.pep440_version.proofs.Complete.{version-again}
use Rattle.pep440_version.proofs.Sound.{some-value}
use Rattle.marker_parts.specs.VersionList.{IsEntry, run, IsVersionList, no_entry, entry}

pub version_text_same : (text : List ℕ) {v w : Parts} → IsVersionText text v → IsVersionText text w → v ≡ w
version_text_same text {v} {w} h k = some-value _ _ (sym (version-again _ v h) ∙ version-again _ w k)

not-false : (b : Bool) → not b ≡ true → b ≡ false
not-false b h1 = grind arith

-- an entry begins directly after all white space
pub record EntryAt (input word rest : List ℕ) : Type 0 where
  pub first : ℕ
  pub others : List ℕ
  pub bytes : word ≡ encode_utf8_all (first ∷ others)
  pub run_is : Run NotSpace (after_space input) (first ∷ others) rest

pub entry_at : {i w r : List ℕ} → IsEntry i w r → EntryAt i w r
entry_at (run {start = start} {word = word} {rest = rest} {c = c} s d) =
    let plain = not-false (is_whitespace c) (run_of-first NotSpace start word c d.run_is).2 in
    record { first = c; others = word; bytes = refl; run_is = subst (λ (x : List ℕ). Run NotSpace x (c ∷ word) rest) (sym (spaces_end s (trimmed_by_run d plain))) d }

pub entry_same : {i j w v r s : List ℕ} → i ≡ j → IsEntry i w r → IsEntry j v s → (w ≡ v) × (r ≡ s)
entry_same h1 h2 h3 = grind (arith, entry_at, run_same, encode_utf8_all)

pub spaces_no_entry : {i w r : List ℕ} → Spaces i [] → IsEntry i w r → ⊥
spaces_no_entry h1 h2 = grind (arith, entry_at, spaces_end, trimmed_nil)

pub version_list_same : {i j : List ℕ} {vs ws : List Parts} → i ≡ j → IsVersionList i vs → IsVersionList j ws → vs ≡ ws
version_list_same e (no_entry s) (no_entry t) = refl
version_list_same {j = j} e (no_entry s) (entry d v l) = absurd (spaces_no_entry (subst (λ (x : List ℕ). Spaces x []) e s) d)
version_list_same e (entry d v l) (no_entry s) = absurd (spaces_no_entry (subst (λ (x : List ℕ). Spaces x []) (sym e) s) d)
version_list_same e (entry {v = v} d p l) (entry d' q m) =
    let h = entry_same e d d' in
    let same = version_text_same _ (subst (λ (x : List ℕ). IsVersionText x v) h.0 p) q in
    let rest = version_list_same h.1 l m in
    λ i. same i ∷ rest i

-- the versions `read` come before `rest`
pub record HasRead (text rest : List ℕ) (read : List Parts) : Type 0 where
  pub behind : (versions : List Parts) → IsVersionList rest versions → IsVersionList text (read ++ versions)
  pub only : (versions : List Parts) → IsVersionList text versions → (others : List Parts) × (versions ≡ read ++ others) × IsVersionList rest others

pub read_nothing : (text : List ℕ) → HasRead text text []
read_nothing text = record { behind = λ versions l. l; only = λ versions l. (versions, refl, l) }

-- a list that begins with this entry begins with its version
list_after : {i w r : List ℕ} {v : Parts} {vs : List Parts} → IsEntry i w r → IsVersionText w v → IsVersionList i vs → (others : List Parts) × (vs ≡ v ∷ others) × IsVersionList r others
list_after d p (no_entry s) = absurd (spaces_no_entry s d)
list_after {v = v} d p (entry {v = w} {versions = others} d' q l) = grind (arith, entry_same, version_text_same)

pub read_more : {text rest word after : List ℕ} {read : List Parts} {v : Parts} → HasRead text rest read → IsEntry rest word after → IsVersionText word v → HasRead text after (read ++ (v ∷ []))
read_more {text} {rest} {word} {after} {read} {v} h d p = record {
  behind = λ versions l. subst (IsVersionList text) (sym (append_assoc read (v ∷ []) versions)) (h.behind (v ∷ versions) (entry d p l));
  only = λ versions l.
      let k = h.only versions l in
      let m = list_after d p k.2 in
      (m.0, k.1 ∙ ap (λ (x : List Parts). read ++ x) m.1 ∙ sym (append_assoc read (v ∷ []) m.0), m.2);
}

pub read_all : {text rest : List ℕ} {read : List Parts} → HasRead text rest read → Spaces rest [] → IsVersionList text read
read_all {text} {read = read} h s = subst (IsVersionList text) (append-nil read) (h.behind [] (no_entry s))

-- an entry that is an invalid version makes the text an invalid list
no_list_here : {i w r : List ℕ} {vs : List Parts} → IsEntry i w r → ((v : Parts) → ¬ IsVersionText w v) → IsVersionList i vs → ⊥
no_list_here h1 h2 h3 = grind (arith, spaces_no_entry, entry_same)

pub no_list : {text rest word after : List ℕ} {read : List Parts} → HasRead text rest read → IsEntry rest word after → ((v : Parts) → ¬ IsVersionText word v) → (versions : List Parts) → ¬ IsVersionList text versions
no_list h d none versions l = no_list_here d none (h.only versions l).2

-- the longest run after white space, if it is not empty
entry_from : {input space rest : List ℕ} (word : List ℕ) → space ≡ after_space input → run_of NotSpace space ≡ word → rest ≡ after_run NotSpace space → 0 < length (encode_utf8_all word) → IsEntry input (encode_utf8_all word) rest
entry_from [] e f g h = let k : 0 < 0 = h in absurd (omega arith)
entry_from (c ∷ word) e f g h = run (spaces_from (sym e)) (record { run_is = f; rest_is = sym g })

pub entry_here : {input space word rest : List ℕ} → space ≡ after_space input → word ≡ encode_utf8_all (run_of NotSpace space) → rest ≡ after_run NotSpace space → 0 < length word → IsEntry input word rest
entry_here h1 h2 h3 h4 = grind (arith, entry_from, length)

-- the text after all white space begins with a run, if it is not empty
nothing_left : (i : List ℕ) → run_of NotSpace (after_space i) ≡ [] → after_space i ≡ []
nothing_left [] e = refl
nothing_left (c ∷ i) e = grind (arith, after_run-holds, after_run-fails, run_of-holds, not, nothing_left i)

no_bytes : (cs : List ℕ) → length (encode_utf8_all cs) ≡ 0 → cs ≡ []
no_bytes [] e = refl
no_bytes (c ∷ cs) e = let h = length-le-encodes (c ∷ cs) in absurd (omega arith)

pub no_entry_here : {input space word : List ℕ} → space ≡ after_space input → word ≡ encode_utf8_all (run_of NotSpace space) → length word ≡ 0 → Spaces input []
no_entry_here h1 h2 h3 = grind (arith, no_bytes, length, spaces_from, nothing_left)

-- whether an entry is next, and that the end of the text follows it
pub ruleset next_entry = (entry_here, no_entry_here, suffix_then)
