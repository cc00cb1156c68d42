-- A line has one request: its first word determines the form.
use Rattle.std.proofs.Common.{◌≡◌, ◌≢◌, ℕ, Bool, true, false, nat_eq, List, [], ◌∷◌, drop, refl, sym, ap, ◌∙◌, subst, get_or, Result, Ok, Err, Option, Some, None, MatchOption, Bor}
use Rattle.std.specs.declared.ops.Bound.{Bound}
use Rattle.std.specs.declared.ops.Bound.TheVariants.{Included, Excluded, Unbounded}
use Rattle.std.specs.Result.{IfOk}
use Rattle.std.specs.Option.{is_some}
use Rattle.std.specs.Prelude.{◌&&◌, not, if◌then◌else◌, bytes_eq}
use Rattle.std.specs.Str.Parse.{IsNumeral}
use Rattle.std.proofs.lemmas.Bool.{eq-eqb, false≢true}
use Rattle.std.proofs.lemmas.List.Elements.{All-nil, All-cons}
use Rattle.pep508_markers.specs.Machine as Machine
use Rattle.pep508_markers.specs.Machine.{make}
use Rattle.marker_lines.specs.declared.line.LineCommand.{LineCommand}
use Rattle.marker_lines.specs.declared.word.Word.{Word}
use Rattle.marker_lines.specs.declared.word.Word.TheVariants.{Env, Parse, OnOne, OnTwo, WithNames, WithRange}
use Rattle.marker_lines.specs.declared.word.CellCommand.{CellCommand}
use Rattle.marker_lines.specs.declared.word.CellCommand.TheVariants.{Not, Text}
use Rattle.marker_lines.specs.declared.word.PairCommand.{PairCommand}
use Rattle.marker_lines.specs.declared.word.PairCommand.TheVariants.{And, Or, Equal, Disjoint}
use Rattle.marker_lines.specs.declared.word.NamesCommand.{NamesCommand}
use Rattle.marker_lines.specs.declared.word.NamesCommand.TheVariants.{Extras, Evaluate, Possible}
use Rattle.marker_lines.specs.declared.word.RangeCommand.{RangeCommand}
use Rattle.marker_lines.specs.declared.word.RangeCommand.TheVariants.{Simplify, Complexify}
use Rattle.marker_lines.specs.Word.{word_text, cell_request, pair_request}
use Rattle.marker_lines.specs.LineView.{request_of}
use Rattle.marker_lines.specs.Line.{HasNoSpace, with_space, cell_number, OneCell, TwoCells, CellAndBounds, CellAndNames, Request, set, run, with_names, with_range, bound_word, Takes, key_and_value, marker, one_cell, two_cells, cell_and_names, cell_and_bounds, Asks}
use Rattle.marker_lines.proofs.WordLaws.{spaced_has, spaced_same, words_same, first_same, others_same, numeral_no_space}

-- the words of lines have no space
abbrev has_no_space : List ℕ → Bool
has_no_space [] = true
has_no_space (b ∷ bytes) = not (nat_eq b 32) && has_no_space bytes

other_byte : (b : ℕ) (space rest : Bool) → nat_eq b 32 ≡ space → (not space && rest) ≡ true → (b ≢ 32) × (rest ≡ true)
other_byte b true rest e h = absurd cc
other_byte b false rest e h = ((λ p. false≢true (sym e ∙ eq-eqb b 32 p)), h)

no_space_from : (bytes : List ℕ) → has_no_space bytes ≡ true → HasNoSpace bytes
no_space_from [] h = All-nil (λ b. b ≢ 32)
no_space_from (b ∷ bytes) h = let s = other_byte b (nat_eq b 32) (has_no_space bytes) refl h in All-cons (λ x. x ≢ 32) b bytes s.0 (no_space_from bytes s.1)

no_space_in : (word : Word) → has_no_space (word_text word) ≡ true
no_space_in Env = refl
no_space_in Parse = refl
no_space_in (OnOne Not) = refl
no_space_in (OnOne Text) = refl
no_space_in (OnTwo And) = refl
no_space_in (OnTwo Or) = refl
no_space_in (OnTwo Equal) = refl
no_space_in (OnTwo Disjoint) = refl
no_space_in (WithNames Extras) = refl
no_space_in (WithNames Evaluate) = refl
no_space_in (WithNames Possible) = refl
no_space_in (WithRange Simplify) = refl
no_space_in (WithRange Complexify) = refl

pub word_has_no_space : (word : Word) → HasNoSpace (word_text word)
word_has_no_space word = no_space_from (word_text word) (no_space_in word)

-- all words, and the first of some that has a text
abbrev table : List Word
table =
    Env ∷ Parse ∷ OnOne Not ∷ OnOne Text ∷ OnTwo And ∷ OnTwo Or ∷ OnTwo Equal ∷ OnTwo Disjoint ∷ WithNames Extras ∷ WithNames Evaluate ∷ WithNames Possible ∷ WithRange Simplify ∷ WithRange Complexify ∷ []

abbrev first_with : List Word → List ℕ → Word
first_with [] text = Env
first_with (word ∷ words) text = if bytes_eq (word_text word) text then word else first_with words text

abbrev word_of : List ℕ → Word
word_of text = first_with table text

-- each word is in the table, and is the first one with its text
read_back : (word : Word) → word_of (word_text word) ≡ word
read_back Env = refl
read_back Parse = refl
read_back (OnOne Not) = refl
read_back (OnOne Text) = refl
read_back (OnTwo And) = refl
read_back (OnTwo Or) = refl
read_back (OnTwo Equal) = refl
read_back (OnTwo Disjoint) = refl
read_back (WithNames Extras) = refl
read_back (WithNames Evaluate) = refl
read_back (WithNames Possible) = refl
read_back (WithRange Simplify) = refl
read_back (WithRange Complexify) = refl

same_word : (word other : Word) → word_text word ≡ word_text other → word ≡ other
same_word word other e = sym (read_back word) ∙ ap word_of e ∙ read_back other

-- what is read in one way
one_same : {text : List ℕ} {a b : ℕ} → OneCell text a → OneCell text b → a ≡ b
one_same p q = p.number ∙ sym q.number

cells_split : {text : List ℕ} {a b c d : ℕ} (p : TwoCells text a b) (q : TwoCells text c d) → (p.first ≡ q.first) × (p.second ≡ q.second)
cells_split p q = spaced_same p.first q.first p.second q.second (numeral_no_space p.first p.is_left.digits) (numeral_no_space q.first q.is_left.digits) (sym p.parts ∙ q.parts)

two_same : {text : List ℕ} {a b c d : ℕ} (f : ℕ → ℕ → Machine.Request) → TwoCells text a b → TwoCells text c d → run (f c d) ≡ run (f a b)
two_same {a = a} {b = b} {c = c} {d = d} f p q =
    let s = cells_split p q in
    let left : c ≡ a = q.is_left.number ∙ ap cell_number (sym s.0) ∙ sym p.is_left.number in
    let right : d ≡ b = q.is_right.number ∙ ap cell_number (sym s.1) ∙ sym p.is_right.number in
    λ i. run (f (left i) (right i))

set_same : {key value key' value' : List ℕ} → key ≡ key' → value ≡ value' → set key value ≡ set key' value'
set_same p q = cc

named_same : (f : ℕ → List (List ℕ) → Request) {text : List ℕ} {a b : ℕ} {names others : List (List ℕ)} → CellAndNames text a names → CellAndNames text b others → f b others ≡ f a names
named_same f {a = a} {b = b} {names = names} {others = others} p q =
    let same : q.number ∷ others ≡ p.number ∷ names = words_same q.words p.words in
    let cell : b ≡ a = q.is_cell.number ∙ ap cell_number (first_same same) ∙ sym p.is_cell.number in
    let rest : others ≡ names = others_same same in
    λ i. f (cell i) (rest i)

-- a bound is written in one way
bound_of : List ℕ → Bound (List ℕ)
bound_of text = if nat_eq (get_or text 0 0) 110 then Unbounded else if nat_eq (get_or text 0 0) 105 then Included (drop 5 text) else Excluded (drop 5 text)

bound_back : (bound : Bound (List ℕ)) → bound_of (bound_word bound) ≡ bound
unfolding bound_of
bound_back (Included version) = refl
bound_back (Excluded version) = refl
bound_back Unbounded = refl

bound_same : (bound other : Bound (List ℕ)) → bound_word bound ≡ bound_word other → bound ≡ other
bound_same bound other e = sym (bound_back bound) ∙ ap bound_of e ∙ bound_back other

ranged_same : {text : List ℕ} {a b : ℕ} {lower upper lower' upper' : Bound (List ℕ)} (f : ℕ → Bound (List ℕ) → Bound (List ℕ) → Request) → CellAndBounds text a lower upper → CellAndBounds text b lower' upper' → f b lower' upper' ≡ f a lower upper
ranged_same {a = a} {b = b} {lower = lower} {upper = upper} {lower' = lower'} {upper' = upper'} f p q =
    let s = spaced_same q.number p.number (with_space (bound_word lower') (bound_word upper')) (with_space (bound_word lower) (bound_word upper)) (numeral_no_space q.number q.is_cell.digits) (numeral_no_space p.number p.is_cell.digits)
    (sym q.parts ∙ p.parts) in
    let t = spaced_same (bound_word lower') (bound_word lower) (bound_word upper') (bound_word upper) q.lower_word p.lower_word s.1 in
    let cell : b ≡ a = q.is_cell.number ∙ ap cell_number s.0 ∙ sym p.is_cell.number in
    let low : lower' ≡ lower = bound_same lower' lower t.0 in
    let high : upper' ≡ upper = bound_same upper' upper t.1 in
    λ i. f (cell i) (low i) (high i)

takes_same : {word : Word} {text : List ℕ} {a b : Request} → Takes word text a → Takes word text b → b ≡ a
takes_same (key_and_value {key = key} {value = value} e h) (key_and_value {key = key'} {value = value'} e' h') = let s = spaced_same key' key value' value h' h (sym e' ∙ e) in set_same s.0 s.1
takes_same marker marker = refl
takes_same (one_cell {command = command} p) (one_cell q) = ap (λ x. run (cell_request command x)) (one_same q p)
takes_same (two_cells {command = command} p) (two_cells q) = two_same (pair_request command) p q
takes_same (cell_and_names {command = command} p) (cell_and_names q) = named_same (with_names command) p q
takes_same (cell_and_bounds {command = command} p) (cell_and_bounds q) = ranged_same (with_range command) p q

-- a line without a space has no request
pub asks_spaced : {line : List ℕ} {request : Request} → HasNoSpace line → Asks line request → ⊥
asks_spaced h a = spaced_has (word_text a.word) a.text (subst HasNoSpace a.parts h)

-- the first word, and the text after it
asked : {line : List ℕ} {request : Request} (first rest : List ℕ) → HasNoSpace first → line ≡ with_space first rest → (a : Asks line request) → (first ≡ word_text a.word) × (rest ≡ a.text)
asked first rest h e a = spaced_same first (word_text a.word) rest a.text h (word_has_no_space a.word) (sym e ∙ a.parts)

pub no_other : {line : List ℕ} {request : Request} (first rest : List ℕ) → HasNoSpace first → line ≡ with_space first rest → ((word : Word) → first ≢ word_text word) → Asks line request → ⊥
no_other first rest h e none a = none a.word (asked first rest h e a).0

pub asks_behind : {line : List ℕ} {request : Request} (word : Word) (rest : List ℕ) → line ≡ with_space (word_text word) rest → Asks line request → Takes word rest request
asks_behind {request = request} word rest e a =
    let s = asked (word_text word) rest (word_has_no_space word) e a in
    subst (λ (x : Word). Takes x rest request) (sym (same_word word a.word s.0)) (subst (λ (x : List ℕ). Takes a.word x request) (sym s.1) a.takes)

-- A line has one request.
asks_same : {line : List ℕ} {a b : Request} → Asks line a → Asks line b → b ≡ a
asks_same p q = takes_same p.takes (asks_behind p.word p.text p.parts q)

pub asks_from : {E : Type 0} (line : List ℕ) (word : Word) (rest : List ℕ) (r : Result LineCommand E) → line ≡ with_space (word_text word) rest → IfOk r (λ command. Takes word rest (request_of command)) → IfOk r (λ command. Asks line (request_of command))
asks_from line word rest (Ok command) e t = record { word = word; text = rest; parts = e; takes = t }
asks_from line word rest (Err x) e t = tt

pub asks_only : {E : Type 0} (line : List ℕ) (r : Result LineCommand E) → IfOk r (λ command. Asks line (request_of command)) → IfOk r (λ command. (request : Request) → Asks line request → request ≡ request_of command)
asks_only line (Ok command) a = λ request b. asks_same a b
asks_only line (Err e) a = tt

-- texts after a word that make no request
pub no_key : {text : List ℕ} {request : Request} → HasNoSpace text → Takes Env text request → ⊥
no_key h (key_and_value {key = key} {value = value} e k) = spaced_has key value (subst HasNoSpace e h)

pub not_two : {command : PairCommand} {text : List ℕ} {request : Request} → ((left right : ℕ) → TwoCells text left right → ⊥) → Takes (OnTwo command) text request → ⊥
not_two none (two_cells p) = none _ _ p

pub not_named : {command : NamesCommand} {text : List ℕ} {request : Request} → ((cell : ℕ) (names : List (List ℕ)) → CellAndNames text cell names → ⊥) → Takes (WithNames command) text request → ⊥
not_named none (cell_and_names p) = none _ _ p

pub not_ranged : {command : RangeCommand} {text : List ℕ} {request : Request} → ((cell : ℕ) (lower upper : Bound (List ℕ)) → CellAndBounds text cell lower upper → ⊥) → Takes (WithRange command) text request → ⊥
not_ranged none (cell_and_bounds p) = none _ _ _ p

-- two cells that are not there
pub no_second : {text : List ℕ} {left right : ℕ} → HasNoSpace text → TwoCells text left right → ⊥
no_second h p = spaced_has p.first p.second (subst HasNoSpace p.parts h)

module _ {text : List ℕ} {left right : ℕ} (first second : List ℕ) (h : HasNoSpace first) (e : text ≡ with_space first second) (p : TwoCells text left right) where
  here : (first ≡ p.first) × (second ≡ p.second)
  here = spaced_same first p.first second p.second h (numeral_no_space p.first p.is_left.digits) (sym e ∙ p.parts)

  pub first_digits : IsNumeral 10 first
  first_digits = subst (IsNumeral 10) (sym here.0) p.is_left.digits

  pub second_digits : IsNumeral 10 second
  second_digits = subst (IsNumeral 10) (sym here.1) p.is_right.digits

-- ---- a cell and two bounds
pub no_bounds : {text : List ℕ} {cell : ℕ} {lower upper : Bound (List ℕ)} → HasNoSpace text → CellAndBounds text cell lower upper → ⊥
no_bounds {lower = lower} {upper = upper} h p = spaced_has p.number (with_space (bound_word lower) (bound_word upper)) (subst HasNoSpace p.parts h)

module _ {text : List ℕ} {cell : ℕ} {lower upper : Bound (List ℕ)} (number bounds : List ℕ) (h : HasNoSpace number) (e : text ≡ with_space number bounds) (p : CellAndBounds text cell lower upper) where
  behind : (number ≡ p.number) × (bounds ≡ with_space (bound_word lower) (bound_word upper))
  behind = spaced_same number p.number bounds (with_space (bound_word lower) (bound_word upper)) h (numeral_no_space p.number p.is_cell.digits) (sym e ∙ p.parts)

  pub one_bound : HasNoSpace bounds → ⊥
  one_bound k = spaced_has (bound_word lower) (bound_word upper) (subst HasNoSpace behind.1 k)

  pub cell_digits : IsNumeral 10 number
  cell_digits = subst (IsNumeral 10) (sym behind.0) p.is_cell.digits

  module _ (first second : List ℕ) (k : HasNoSpace first) (f : bounds ≡ with_space first second) where
    both_bounds : (first ≡ bound_word lower) × (second ≡ bound_word upper)
    both_bounds = spaced_same first (bound_word lower) second (bound_word upper) k p.lower_word (sym f ∙ behind.1)

    pub lower_written : first ≡ bound_word lower
    lower_written = both_bounds.0

    pub upper_written : second ≡ bound_word upper
    upper_written = both_bounds.1

    pub third_word : (cut : Option (Bor (List ℕ) × Bor (List ℕ))) → is_some cut ≡ true → MatchOption cut (HasNoSpace second) (λ parts. HasNoSpace parts.0.now × (second ≡ with_space parts.0.now parts.1.now)) → ⊥
    third_word None is m = absurd (false≢true is)
    third_word (Some parts) is m = spaced_has parts.0.now parts.1.now (subst HasNoSpace (sym both_bounds.1 ∙ m.1) p.upper_word)
