-- One step of the reader keeps what the text may be read as.
use Rattle.std.proofs.Common.{◌≡◌, ◌≢◌, ℕ, false, List, [], ◌∷◌, ◌++◌, Option, None, refl, sym, ◌∙◌, subst, lit<, ◌<◌, arith}
use Rattle.std.specs.Prelude.{codes}
use Rattle.std.specs.Str.{chars}
use Rattle.pep508_text.specs.declared.classes.Class.TheVariants.{Space, NotSpace}
use Rattle.pep508_text.specs.Class.{holds}
use Rattle.pep508_text.specs.Run.{Run, Spaces, none, after_space}
use Rattle.pep508_text.proofs.RunLaws.{run_same, run_begins, run_of-first, trimmed_by_run, spaces_end, spaces_all, spaces_then}
use Rattle.pep508_errors.specs.declared.warning.MarkerWarningKind.{MarkerWarningKind}
use Rattle.marker_parts.specs.Comparison.{Meaning, Compared, compared}
use Rattle.marker_words.specs.Lexical.{sides}
use Rattle.marker_words.proofs.LexicalLaws.{sides_begins}
use Rattle.marker_parts.proofs.ComparisonLaws.{compared_same}
use Rattle.marker_words.specs.Keyword.{NoKeyword}
use Rattle.marker_grammar.specs.Formula.{Formula, and_of, or_of, of_test}
use Rattle.marker_grammar.specs.Grammar.{Atom, group, comparison, no_and, one_and, and, no_or, one_or, Or, or, Reads}
use Rattle.marker_grammar.specs.Reading.{Level, Ends, ended, closed, After, goes, Before, before}

differ : (a b : ℕ) → a ≡ b → a < b → ⊥
differ a b e l = omega arith

head_same : (a b : ℕ) (x y : List ℕ) → a ∷ x ≡ b ∷ y → a ≡ b
head_same a b x y e = cc

tail_same : (a b : ℕ) (x y : List ℕ) → a ∷ x ≡ b ∷ y → x ≡ y
tail_same a b x y e = cc

-- what may follow an atom
data Next (outer : List Level) (ors ands : Option Formula) (i : List ℕ) (w : List MarkerWarningKind) (f : Option Formula) (k : List MarkerWarningKind) : Type 0 where
  next_and : {a b : List ℕ} → Spaces i a → Run NotSpace a (codes "and") b → Before outer ors ands b w f k → Next outer ors ands i w f k
  next_or : {a b : List ℕ} → Spaces i a → Run NotSpace a (codes "or") b → Before outer (or_of ors ands) None b w f k → Next outer ors ands i w f k
  next_end : Ends outer i w (or_of ors ands) f k → Next outer ors ands i w f k

next_of : {outer : List Level} {ors ands : Option Formula} {i : List ℕ} {w : List MarkerWarningKind} {f : Option Formula} {k : List MarkerWarningKind} → After outer ors ands i w f k → Next outer ors ands i w f k
next_of (goes no_and no_or e) = next_end e
next_of (goes no_and (one_or s r (and a rest) more) e) = next_or s r (before a (goes rest more e))
next_of (goes (one_and s r a rest) more e) = next_and s r (before a (goes rest more e))

after_of : {outer : List Level} {ors ands : Option Formula} {i : List ℕ} {w : List MarkerWarningKind} {f : Option Formula} {k : List MarkerWarningKind} → Next outer ors ands i w f k → After outer ors ands i w f k
after_of (next_and s r (before a (goes rest more e))) = goes (one_and s r a rest) more e
after_of (next_or s r (before a (goes rest more e))) = goes no_and (one_or s r (and a rest) more) e
after_of (next_end e) = goes no_and no_or e

-- a parenthesis does not begin a comparison
no_comparison_opens : {i o a : List ℕ} {m : Meaning} → Compared i o m → after_space i ≡ 40 ∷ a → ⊥
no_comparison_opens (compared s means) e = sides_begins s e

-- a parenthesis opens
module _ (outer : List Level) (ors ands : Option Formula) (i a t : List ℕ) (w : List MarkerWarningKind) (f : Option Formula) (k : List MarkerWarningKind) (t_is : t ≡ after_space i) (opens : t ≡ 40 ∷ a) where
  opened : Spaces i (40 ∷ a)
  opened = subst (Spaces i) (sym t_is ∙ opens) (spaces_all i)

  here : {b : List ℕ} → Spaces i (40 ∷ b) → b ≡ a
  here s = tail_same _ _ _ _ (sym (spaces_end s refl) ∙ sym t_is ∙ opens)

  pub open_on : Before outer ors ands i w f k → Before (record { ors = ors; ands = ands } ∷ outer) None None a w f k
  open_on (before {output = o} (group s (or (and {f = g} {a = c} {kinds' = x} inner rest) more) closing) after) =
      before (subst (λ (y : List ℕ). Atom y w c x g) (here s) inner) (goes rest more (closed closing after))
  open_on (before (comparison c) after) = absurd (no_comparison_opens c (sym t_is ∙ opens))

  pub open_back : Before (record { ors = ors; ands = ands } ∷ outer) None None a w f k → Before outer ors ands i w f k
  open_back (before inner (goes rest more (closed closing after))) = before (group opened (or (and inner rest) more) closing) after

-- a comparison is read
pub compare_on : {outer : List Level} {ors ands : Option Formula} {i o : List ℕ} {w : List MarkerWarningKind} {m : Meaning} {f : Option Formula} {k : List MarkerWarningKind} → Compared i o m → Before outer ors ands i w f k → After outer ors (and_of ands (of_test m.test)) o (w ++ m.kinds) f k
compare_on c (before (group s body closing) after) = absurd (no_comparison_opens c (spaces_end s refl))
compare_on {outer} {ors} {ands} {o = o} {w = w} {m = m} {f = f} {k = k} c (before (comparison {output = p} d) after) = grind (arith, compared_same)

pub compare_back : {outer : List Level} {ors ands : Option Formula} {i o : List ℕ} {w : List MarkerWarningKind} {m : Meaning} {f : Option Formula} {k : List MarkerWarningKind} → Compared i o m → After outer ors (and_of ands (of_test m.test)) o (w ++ m.kinds) f k → Before outer ors ands i w f k
compare_back c after = before (comparison c) after

pub no_atom : {outer : List Level} {ors ands : Option Formula} {i t : List ℕ} {w : List MarkerWarningKind} {f : Option Formula} {k : List MarkerWarningKind} → t ≡ after_space i → ((a : List ℕ) → t ≢ 40 ∷ a) → ((o : List ℕ) (m : Meaning) → Compared i o m → ⊥) → Before outer ors ands i w f k → ⊥
no_atom h1 h2 h3 h4 = grind (arith, spaces_end)

-- The text after an atom, without white space, decides how parsing goes on.
run_at : {a b t i r : List ℕ} {c : ℕ} → t ≡ after_space i → Spaces i a → Run NotSpace a (c ∷ r) b → holds Space c ≡ false → Run NotSpace t (c ∷ r) b
run_at {b = b} {r = r} {c = c} e s run plain = subst (λ (x : List ℕ). Run NotSpace x (c ∷ r) b) (sym (e ∙ spaces_end s (trimmed_by_run run plain))) run

no_run_nil : {c : ℕ} {r b : List ℕ} → Run NotSpace [] (c ∷ r) b → ⊥
no_run_nil run = let h = run_of-first NotSpace [] _ _ run.run_is in let e = h.1 in absurd cc

-- the end of an `or` begins with no word
end_no_word : {t i r b : List ℕ} {c : ℕ} {outer : List Level} {w : List MarkerWarningKind} {f g : Option Formula} {k : List MarkerWarningKind} → t ≡ after_space i → Ends outer i w g f k → Run NotSpace t (c ∷ r) b → 41 < c → ⊥
end_no_word h1 h2 h3 h4 = grind (arith, no_run_nil, spaces_end, differ, run_begins)

and_not_or : codes "and" ≡ codes "or" → ⊥
and_not_or e = differ 97 111 (head_same _ _ _ _ e) (lit< tt)

pub and_on : {outer : List Level} {ors ands : Option Formula} {i t b : List ℕ} {w : List MarkerWarningKind} {f : Option Formula} {k : List MarkerWarningKind} → t ≡ after_space i → Run NotSpace t (codes "and") b → After outer ors ands i w f k → Before outer ors ands b w f k
and_on {outer} {ors} {ands} {i} {t} {b} {w} {f} {k} e run after = go (next_of after)
  where
    go : Next outer ors ands i w f k → Before outer ors ands b w f k
    go (next_and s r more) = subst (λ (x : List ℕ). Before outer ors ands x w f k) (run_same (run_at e s r refl) run).1 more
    go (next_or s r more) = absurd (and_not_or (run_same run (run_at e s r refl)).0)
    go (next_end ends) = absurd (end_no_word e ends run (lit< tt))

pub or_on : {outer : List Level} {ors ands : Option Formula} {i t b : List ℕ} {w : List MarkerWarningKind} {f : Option Formula} {k : List MarkerWarningKind} → t ≡ after_space i → Run NotSpace t (codes "or") b → After outer ors ands i w f k → Before outer (or_of ors ands) None b w f k
or_on {outer} {ors} {ands} {i} {t} {b} {w} {f} {k} e run after = go (next_of after)
  where
    go : Next outer ors ands i w f k → Before outer (or_of ors ands) None b w f k
    go (next_and s r more) = absurd (and_not_or (run_same (run_at e s r refl) run).0)
    go (next_or s r more) = subst (λ (x : List ℕ). Before outer (or_of ors ands) None x w f k) (run_same (run_at e s r refl) run).1 more
    go (next_end ends) = absurd (end_no_word e ends run (lit< tt))

spaces_to : {i t : List ℕ} → t ≡ after_space i → Spaces i t
spaces_to {i} e = subst (Spaces i) (sym e) (spaces_all i)

pub and_back : {outer : List Level} {ors ands : Option Formula} {i t b : List ℕ} {w : List MarkerWarningKind} {f : Option Formula} {k : List MarkerWarningKind} → t ≡ after_space i → Run NotSpace t (codes "and") b → Before outer ors ands b w f k → After outer ors ands i w f k
and_back e run more = after_of (next_and (spaces_to e) run more)

pub or_back : {outer : List Level} {ors ands : Option Formula} {i t b : List ℕ} {w : List MarkerWarningKind} {f : Option Formula} {k : List MarkerWarningKind} → t ≡ after_space i → Run NotSpace t (codes "or") b → Before outer (or_of ors ands) None b w f k → After outer ors ands i w f k
or_back e run more = after_of (next_or (spaces_to e) run more)

-- a parenthesis closes
no_word_at : {a t r b : List ℕ} {c : ℕ} → t ≡ 41 ∷ a → Run NotSpace t (c ∷ r) b → 41 < c → ⊥
no_word_at {r = r} {b = b} {c = c} e run low = differ 41 c (run_begins (subst (λ (x : List ℕ). Run NotSpace x (c ∷ r) b) e run)) low

pub close_on : {outer : List Level} {outside : Level} {ors ands : Option Formula} {i t a : List ℕ} {w : List MarkerWarningKind} {f : Option Formula} {k : List MarkerWarningKind} → t ≡ after_space i → t ≡ 41 ∷ a → After (outside ∷ outer) ors ands i w f k → After outer outside.ors (and_of outside.ands (or_of ors ands)) a w f k
close_on {outer} {outside} {ors} {ands} {i} {t} {a} {w} {f} {k} e closes after = go (next_of after)
  where
    go : Next (outside ∷ outer) ors ands i w f k → After outer outside.ors (and_of outside.ands (or_of ors ands)) a w f k
    go (next_and s r more) = absurd (no_word_at closes (run_at e s r refl) (lit< tt))
    go (next_or s r more) = absurd (no_word_at closes (run_at e s r refl) (lit< tt))
    go (next_end (closed {a = b} closing more)) = subst (λ (x : List ℕ). After outer outside.ors (and_of outside.ands (or_of ors ands)) x w f k) (tail_same _ _ _ _ (sym (spaces_end closing refl) ∙ sym e ∙ closes)) more

pub close_back : {outer : List Level} {outside : Level} {ors ands : Option Formula} {i t a : List ℕ} {w : List MarkerWarningKind} {f : Option Formula} {k : List MarkerWarningKind} → t ≡ after_space i → t ≡ 41 ∷ a → After outer outside.ors (and_of outside.ands (or_of ors ands)) a w f k → After (outside ∷ outer) ors ands i w f k
close_back {i = i} {t = t} {a = a} e closes more = after_of (next_end (closed (subst (Spaces i) (sym e ∙ closes) (spaces_all i)) more))

-- the text ends
pub end_on : {ors ands : Option Formula} {i t : List ℕ} {w : List MarkerWarningKind} {f : Option Formula} {k : List MarkerWarningKind} → t ≡ after_space i → t ≡ [] → After [] ors ands i w f k → (or_of ors ands ≡ f) × (w ≡ k)
end_on {ors} {ands} {i} {t} {w} {f} {k} e ends after = go (next_of after)
  where
    go : Next [] ors ands i w f k → (or_of ors ands ≡ f) × (w ≡ k)
    go (next_and {b = b} s r more) = absurd (no_run_nil (subst (λ (x : List ℕ). Run NotSpace x (codes "and") b) ends (run_at e s r refl)))
    go (next_or {b = b} s r more) = absurd (no_run_nil (subst (λ (x : List ℕ). Run NotSpace x (codes "or") b) ends (run_at e s r refl)))
    go (next_end (ended s same kinds)) = (same, kinds)

pub end_back : {ors ands : Option Formula} {i t : List ℕ} {w : List MarkerWarningKind} {f : Option Formula} {k : List MarkerWarningKind} → t ≡ after_space i → t ≡ [] → or_of ors ands ≡ f → w ≡ k → After [] ors ands i w f k
end_back {i = i} e ends same kinds = after_of (next_end (ended (subst (Spaces i) (sym e ∙ ends) (spaces_all i)) same kinds))

-- nothing that may follow is there
pub fault_inside : {outer : List Level} {outside : Level} {ors ands : Option Formula} {i t : List ℕ} {w : List MarkerWarningKind} {f : Option Formula} {k : List MarkerWarningKind} → t ≡ after_space i → NoKeyword t → ((a : List ℕ) → t ≢ 41 ∷ a) → After (outside ∷ outer) ors ands i w f k → ⊥
fault_inside {outer} {outside} {ors} {ands} {i} {t} {w} {f} {k} e nothing unclosed after = go (next_of after)
  where
    go : Next (outside ∷ outer) ors ands i w f k → ⊥
    go (next_and s r more) = nothing.no_and_word _ (run_at e s r refl)
    go (next_or s r more) = nothing.no_or_word _ (run_at e s r refl)
    go (next_end (closed {a = b} closing more)) = unclosed b (e ∙ spaces_end closing refl)

pub fault_outside : {ors ands : Option Formula} {i t : List ℕ} {w : List MarkerWarningKind} {f : Option Formula} {k : List MarkerWarningKind} → t ≡ after_space i → NoKeyword t → t ≢ [] → After [] ors ands i w f k → ⊥
fault_outside {ors} {ands} {i} {t} {w} {f} {k} e nothing more_text after = go (next_of after)
  where
    go : Next [] ors ands i w f k → ⊥
    go (next_and s r more) = nothing.no_and_word _ (run_at e s r refl)
    go (next_or s r more) = nothing.no_or_word _ (run_at e s r refl)
    go (next_end (ended s same kinds)) = more_text (e ∙ spaces_end s refl)

-- the whole text
atom_before : {i a o : List ℕ} {w x : List MarkerWarningKind} {f : Option Formula} → Spaces i a → Atom a w o x f → Atom i w o x f
atom_before s (group t body closing) = group (spaces_then s t) body closing
atom_before s (comparison (compared (sides sa va sb ob sc vb) means)) = comparison (compared (sides (spaces_then s sa) va sb ob sc vb) means)

pub start_on : {t : List ℕ} {f : Option Formula} {k : List MarkerWarningKind} → Reads t f k → Before [] None None (chars t) [] f k
start_on reads = go reads.before reads.body reads.after
  where
    go : {i a o : List ℕ} {f : Option Formula} {k : List MarkerWarningKind} → Spaces i a → Or a [] o k f → Spaces o [] → Before [] None None i [] f k
    go s (or (and atom rest) more) e = before (atom_before s atom) (goes rest more (ended e refl refl))

pub start_back : {t : List ℕ} {f : Option Formula} {k : List MarkerWarningKind} → Before [] None None (chars t) [] f k → Reads t f k
start_back {t} {f} {k} (before atom (goes {h = h} {output = o} {kinds'' = y} rest more (ended e same kinds))) =
    record {
      start = chars t;
      end = o;
      before = none;
      body = subst (λ (g : Option Formula). Or (chars t) [] o k g) same (subst (λ (y' : List MarkerWarningKind). Or (chars t) [] o y' h) kinds (or (and atom rest) more));
      after = e;
    }
