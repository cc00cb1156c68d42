-- Lines that are answered one after another. A step leads from a state by a line and
-- a reply, both without the line feed that ends them, to a state.
use Rattle.std.specs.Prelude.{◌≡◌, ℕ, List, [], ◌∷◌, ◌++◌, Option, Vec}
use Rattle.std.specs.List.{flat_map}
use Rattle.std.specs.Io.KnownBytes.{Appends, Consumes}
use Rattle.std.specs.declared.alloc.Global.{Global}
use Rattle.line_server.specs.Lines.{with_feed, WholeLines, Lines, LinesSoFar}

-- from the state `old` the lines may be answered by these replies, one by one, and the state is
-- `new` then
pub data Run {State : Type 0} (Step : State → List ℕ → List ℕ → State → Type 0)
    : State → List (List ℕ) → List (List ℕ) → State → Type 0 where
  done : {state : State} → Run Step state [] [] state
  next : {old middle new : State} {line reply : List ℕ} {lines replies : List (List ℕ)}
      → Step old line reply middle → Run Step middle lines replies new
      → Run Step old (line ∷ lines) (reply ∷ replies) new

-- the output is, line by line, a reply with a line feed
pub record Answers {State : Type 0} (Step : State → List ℕ → List ℕ → State → Type 0)
    (old : State) (lines : List (List ℕ)) (output : List ℕ) (new : State) : Type 0 where
  pub replies : List (List ℕ)
  pub run : Run Step old lines replies new
  pub written : output ≡ flat_map with_feed replies

-- the output is a beginning of the replies to the first of the lines
pub record AnswersBeginning {State : Type 0} (Step : State → List ℕ → List ℕ → State → Type 0)
    (old : State) (lines : List (List ℕ)) (output : List ℕ) : Type 0 where
  pub answered : List (List ℕ)
  pub others : List (List ℕ)
  pub more : List ℕ
  pub new : State
  pub joined : lines ≡ answered ++ others
  pub answers : Answers Step old answered (output ++ more) new

-- After `held`, the beginning of a line, these bytes are answered by the output; then `rest` is the
-- beginning of a line.
pub record Serves {State : Type 0} (Step : State → List ℕ → List ℕ → State → Type 0)
    (old : State) (held bytes output : List ℕ) (new : State) (rest : List ℕ) : Type 0 where
  pub lines : List (List ℕ)
  pub read : WholeLines (held ++ bytes) lines rest
  pub answers : Answers Step old lines output new

module _ {State : Type 0} (Step : State → List ℕ → List ℕ → State → Type 0) where
  -- A step by this line leads from `old` to `new`, and its reply is appended to `before`.
  abbrev pub AddsReply : State → List ℕ → State → Vec ℕ Global → Vec ℕ Global → Type 0
  AddsReply old line new before after =
      (reply : List ℕ) × Step old line reply new × (after.items ≡ before.items ++ reply)

  -- The same, with the line feed that ends the reply.
  abbrev pub AnswersLine : State → List ℕ → State → Vec ℕ Global → Vec ℕ Global → Type 0
  AnswersLine old line new before after =
      (reply : List ℕ) × Step old line reply new × (after.items ≡ before.items ++ with_feed reply)

  -- Replies are appended to each line that ends in these bytes, after `held`, the beginning of the
  -- first; then `rest` is the beginning of a line.
  abbrev pub AnswersLines : State → Vec ℕ Global → List ℕ → State → Vec ℕ Global → Vec ℕ Global
      → Vec ℕ Global → Type 0
  AnswersLines old held bytes new rest before after = (output : List ℕ)
      × Serves Step old held.items bytes output new rest.items
      × (after.items ≡ before.items ++ output)

  -- the output answers each line of the input, which ends here
  pub record AnswersEachLine (old new : State) (input output : List ℕ) : Type 0 where
    pub lines : List (List ℕ)
    pub read : Lines input lines
    pub answers : Answers Step old lines output new

  -- the output answers each line of the input that ends with a line feed
  pub record AnswersWholeLines (old new : State) (input output : List ℕ) : Type 0 where
    pub lines : List (List ℕ)
    pub rest : List ℕ
    pub read : WholeLines input lines rest
    pub answers : Answers Step old lines output new

  -- the output is a beginning of the replies to the lines of the input, after which `left` remains
  pub record AnswersFirstLines (left : Option (List ℕ)) (old : State)
      (input output : List ℕ) : Type 0 where
    pub lines : List (List ℕ)
    pub read : LinesSoFar left input lines
    pub answers : AnswersBeginning Step old lines output

-- Of these known bytes some input was read, and some output written to those, and both are so.
abbrev pub Exchanges : (was is had has : Option (List ℕ)) → (List ℕ → List ℕ → Type 0) → Type 0
Exchanges was is had has P =
    (input output : List ℕ) × Consumes was is input × Appends had has output × P input output

-- What a source gave and a sink took, from one state of each to another.
module _ {State R W : Type 0} (Step : State → List ℕ → List ℕ → State → Type 0)
    (remaining : R → Option (List ℕ)) (contents : W → Option (List ℕ)) where
  -- each line is answered
  abbrev pub ServesAll : State → State → R → R → W → W → Type 0
  ServesAll old new from to had has = Exchanges (remaining from) (remaining to)
      (contents had) (contents has) (AnswersEachLine Step old new)

  -- each line with a line feed is answered
  abbrev pub ServesWhole : State → State → R → R → W → W → Type 0
  ServesWhole old new from to had has = Exchanges (remaining from) (remaining to)
      (contents had) (contents has) (AnswersWholeLines Step old new)

  -- a beginning of the replies was written
  abbrev pub ServesFirst : State → R → R → W → W → Type 0
  ServesFirst old from to had has = Exchanges (remaining from) (remaining to)
      (contents had) (contents has) (AnswersFirstLines Step (remaining to) old)
