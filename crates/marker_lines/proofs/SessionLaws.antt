-- The work of a session of lines: names, values, and what is served, by the states of sessions.
use Rattle.std.proofs.Common.{◌≡◌, ◌≢◌, ℕ, codes, lit<, ◌<◌, ◌+◌, List, [], ◌∷◌, ◌++◌, Option, take, length, get_or, suc, zero, sym, ◌∙◌, subst, refl, inl, Ok, Err, arith}
use denote.Ref.{Bor}
use Rattle.std.proofs.lemmas.List.{take_more}
use Rattle.std.proofs.lemmas.List.Elements.{All-nil}
use Rattle.pep440_version.specs.Grammar.{IsVersionText, IsNumber, no_mark, no_epoch, last, no_pre, no_post, no_dev, no_local, version}
use Rattle.pep440_version.specs.Parts.{release_only}
use Rattle.pep440_version.proofs.Complete.{version-again}
use Rattle.pep440_version.proofs.Sound.{some-value}
use Rattle.pep440_version.proofs.ReadBack.{version-text}
use Rattle.marker_words.specs.declared.key.TextVariable.{TextVariable}
use Rattle.marker_words.specs.declared.key.MarkerValueVersion.{MarkerValueVersion}
use Rattle.pep508_names.specs.Name.{NormalizesTo, IsName}
use Rattle.marker_environment.specs.Written.{Written, Says}
use Rattle.marker_environment.specs.Environment.{Values, SetsText, SetsVersion}
use Rattle.pep508_markers.specs.Machine as Machine
use Rattle.pep508_markers.specs.Machine.{Cells, Answer, Step}
use Rattle.marker_lines.specs.declared.line_session.LineSession.{LineSession}
use Rattle.marker_lines.specs.Line.{Request}
use Rattle.marker_lines.specs.LineStep.{State, start, zero_version, Names, no_more, name, MachineStep, RequestStep, LineStep}
use Rattle.marker_lines.specs.LineView.{texts_of}
use Rattle.line_server.specs.Serving.{Answers, AnswersBeginning, AnswersEachLine, AnswersWholeLines, AnswersFirstLines, Exchanges}
use Rattle.marker_lines.specs.SessionView.{state_of}
use Rattle.line_server.proofs.LineLaws.{whole_none}
use Rattle.line_server.proofs.PortLaws.{Appends-nil, Consumes-nil}
use Rattle.line_server.proofs.ServingLaws.{StepSeen, answers_none, answers_seen, beginning_seen}
use Rattle.marker_lines.proofs.WordLaws.{texts-push}

-- one more name
pub names_then : {words names : List (List ℕ)} {word normal : List ℕ} → Names words names → NormalizesTo word normal → Names (words ++ (word ∷ [])) (names ++ (normal ∷ []))
names_then no_more p = name p no_more
names_then (name q n) p = name q (names_then n p)

-- the same for the first words of a list
pub names_more : {names more : List (List ℕ)} {normal : List ℕ} (words : List (Bor (List ℕ))) (i : ℕ) (d : Bor (List ℕ)) → i < length words → Names (texts_of (take i words)) names → NormalizesTo (get_or words i d).now normal → more ≡ names ++ (normal ∷ []) → Names (texts_of (take (i + 1) words)) more
names_more {names} {more} {normal} words i d below n p made =
    subst (Names (texts_of (take (i + 1) words))) (sym made)
    (subst (λ (x : List (List ℕ)). Names x (names ++ (normal ∷ []))) (sym (texts-push (take i words) (get_or words i d) (take_more words i d below))) (names_then n p))

-- one of the words is an invalid name
pub names_refused : {names : List (List ℕ)} (words : List (Bor (List ℕ))) (i : ℕ) (d : Bor (List ℕ)) → i < length words → (IsName (get_or words i d).now → ⊥) → Names (texts_of words) names → ⊥
names_refused [] i d below refused n = omega arith
names_refused (word ∷ words) zero d below refused (name p n) = refused (_, p)
names_refused (word ∷ words) (suc i) d below refused (name p n) = names_refused words i d (omega arith) refused n

abbrev made_of : Cells → Values → State
made_of cells values = record { cells = cells; values = values }

-- a state by its two parts
pub state_from : {cells : Cells} {values : Values} → cells ≡ [] → values ≡ start.values → made_of cells values ≡ start
state_from p q = λ i. made_of (p i) (q i)

zero_number : IsNumber (codes "0") 0
zero_number = record { digits = refl; some = lit< tt; value = refl; fits = lit< tt }

-- `0` says the version 0, and no other
zero_said : IsVersionText (codes "0") (release_only (0 ∷ []))
zero_said = version-text (codes "0") (release_only (0 ∷ [])) (version no_mark no_epoch (last zero_number) no_pre no_post no_dev no_local)

zero_alone : {w : Written} → Says (codes "0") w → w ≡ zero_version
zero_alone says =
    let same = some-value _ _ (sym (version-again _ _ says.version) ∙ version-again _ _ zero_said) in
    λ i. record { string = says.string i; version = same i }

-- values with each text empty, and each version written `0`
pub first_values : (values : Values) → ((variable : TextVariable) → values.text variable ≡ []) → ((key : MarkerValueVersion) → Says (codes "0") (values.version key)) → values ≡ start.values
first_values values texts versions = λ i. record { text = λ variable. texts variable i; version = λ key. zero_alone (versions key) i }

-- if one of the values is set, they are those of the state
pub sets_text : {old same new : Values} {variable : TextVariable} {value given : List ℕ} → same ≡ old → given ≡ value → SetsText same new variable given → SetsText old new variable value
sets_text {old} {same} {new} {variable} {value} {given} p q s = subst (λ (x : List ℕ). SetsText old new variable x) q (subst (λ (v : Values). SetsText v new variable given) p s)

-- a request that is written in two ways
pub for_request : {old new : State} {reply : List ℕ} {r s : Request} → r ≡ s → RequestStep old s reply new → RequestStep old r reply new
for_request {old} {new} {reply} e step = subst (λ (x : Request). RequestStep old x reply new) (sym e) step

-- the machine answers the same request in another form
pub asked_as : {old new : State} {asked other : Machine.Request} {answer : Answer} → asked ≡ other → Step old.cells asked answer new.cells → new.values ≡ old.values → MachineStep old other answer new
asked_as {old} {new} {answer = answer} e step same = record { step = subst (λ (x : Machine.Request). Step old.cells x answer new.cells) e step; values = same }

pub ok_is_no_err : {T E : Type 0} {x : T} {e : E} → Ok x ≡ Err e → ⊥
ok_is_no_err p = cc

-- what was served
pub answered : {session end : LineSession} {lines : List (List ℕ)} {output : List ℕ} → state_of session ≡ start → Answers (StepSeen LineStep state_of) session lines output end → Answers LineStep start lines output (state_of end)
answered {end = end} {lines = lines} {output = output} e p = subst (λ (s : State). Answers LineStep s lines output (state_of end)) e (answers_seen LineStep state_of p)

-- the same of input and output
module _ {session : LineSession} {input output : List ℕ} (at_start : state_of session ≡ start) where
  pub each_answered : {end : LineSession} → AnswersEachLine (StepSeen LineStep state_of) session end input output → AnswersEachLine LineStep start (state_of end) input output
  each_answered w = record { lines = w.lines; read = w.read; answers = answered at_start w.answers }

  pub whole_answered : {end : LineSession} → AnswersWholeLines (StepSeen LineStep state_of) session end input output → AnswersWholeLines LineStep start (state_of end) input output
  whole_answered w = record { lines = w.lines; rest = w.rest; read = w.read; answers = answered at_start w.answers }

  pub first_answered : {left : Option (List ℕ)} → AnswersFirstLines (StepSeen LineStep state_of) left session input output → AnswersFirstLines LineStep left start input output
  first_answered w = record {
    lines = w.lines;
    read = w.read;
    answers = subst (λ (s : State). AnswersBeginning LineStep s w.lines output) at_start (beginning_seen LineStep state_of w.answers);
  }

-- nothing read and nothing written
pub nothing_served : (r t : Option (List ℕ)) → Exchanges r r t t (AnswersFirstLines LineStep r start)
nothing_served r t = (
  [],
  [],
  Consumes-nil r,
  Appends-nil t,
  record {
    lines = [];
    read = inl ([], whole_none (All-nil (λ b. b ≢ 10)));
    answers = record { answered = []; others = []; more = []; new = start; joined = refl; answers = answers_none LineStep start };
  },
)
