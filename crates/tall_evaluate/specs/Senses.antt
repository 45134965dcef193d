-- What a language in code says of a language of the definitions. Its values may mean several things, as the nodes of a graph do
-- over files that are not told: whatever they mean, each answer is that of the definitions.
use Rattle.std.specs.Prelude.{ℕ, ◌≡◌, Bool, false, List, [], ◌∷◌, map, Option, None, Some, Result, Ok, Err, IfOk, IfErr}
use Rattle.tall_local.specs.Arguments as arguments
use Rattle.tall_local.specs.Expressions.{Language, Valued, gives, stops}
use Rattle.tall_local.specs.Refusals.{Stop}
use Rattle.tall_local.specs.StateLaws.{state_after, IsKept, CallsKeep}
use Rattle.tall_evaluate.specs.declared.languages.Argument.{Argument}
use Rattle.tall_evaluate.specs.declared.languages.Argument.TheVariants as argument

-- of a language `L` in code with functions of `G`, values of `W` and failures of `E`; a sense of `I` says what its values mean
pub record Senses (L G W E F V S I : Type 0) : Type 1 where
  -- the language of the definitions
  pub defined : I → Language F V S
  -- the values may mean this now
  pub holds : I → L → Type 0
  pub state : I → L → S
  pub shown : I → W → V
  pub named : G → F
  -- what a failure names; none where no definition has it, as want of memory
  pub stop_of : E → Option Stop
  -- why a failure that no definition has came between two states
  pub blames : L → L → E → Type 0
  -- what each call keeps
  pub later : L → L → Type 0
  -- the value is one of the language, as it is now
  pub fits : L → W → Type 0
  -- the expression with the second number may come after that with the first
  pub follows : ℕ → ℕ → Type 0
  -- the expression with this number may come next, and was the last
  pub ready : L → ℕ → Type 0
  pub done : L → ℕ → Type 0
  -- the state may go on to the other
  pub reaches : S → S → Type 0
  -- the functions by name, whatever the values mean
  pub functions : List ℕ → Option F
  -- a call by one of these names, or of one of these functions, may do more than others; `still` is what the others leave
  pub opens : List ℕ → Bool
  pub opens_by : F → Bool
  pub still : L → L → Type 0

-- what is kept is kept by two calls after one another, and what a value means later it has meant before
pub record Laws {L G W E F V S I : Type 0} (m : Senses L G W E F V S I) : Type 0 where
  pub same : (s : L) → m.later s s
  pub both : (s t u : L) → m.later s t → m.later t u → m.later s u
  pub holds_before : (s t : L) (i : I) → m.later s t → m.holds i t → m.holds i s
  pub fits_later : (s t : L) (w : W) → m.later s t → m.fits s w → m.fits t w
  pub blames_before : (s t u : L) (e : E) → m.later s t → m.blames t u e → m.blames s u e
  pub ready_done : (s : L) (n : ℕ) → m.ready s n → m.done s n
  pub done_ready : (s : L) (n k : ℕ) → m.done s n → m.follows n k → m.ready s k
  pub reaches_on : IsKept m.reaches
  pub calls_reach : (i : I) → CallsKeep (m.defined i) m.reaches
  pub functions_are : (i : I) (name : List ℕ) → (m.defined i).function_named name ≡ m.functions name
  pub opens_named : (name : List ℕ) (f : F) → m.functions name ≡ Some f → m.opens name ≡ false → m.opens_by f ≡ false
  pub still_on : IsKept m.still

-- ---- answers

-- an answer in code to what the definitions give, and the state that is left
abbrev pub Agrees : {V S W E : Type 0} → (W → V) → (E → Option Stop) → Valued V S → Result W E → S → Type 0
Agrees shown stop_of want (Ok w) t = want ≡ gives (shown w) t
Agrees shown stop_of want (Err e) t = (stop : Stop) → stop_of e ≡ Some stop → want ≡ stops stop t

-- a call that evaluates something, between two states; `X` is what it gives in code, and `Y` what the definitions give. A
-- failure that names no stop left a state that may go on to what the definitions leave
pub record Does {L G W E F V S I X Y : Type 0} (m : Senses L G W E F V S I) (Fits : L → X → Type 0) (shown : I → X → Y)
    (want : I → S → Valued Y S) (s t : L) (r : Result X E) : Type 0 where
  pub later : m.later s t
  pub fits : IfOk r (λ x. Fits t x)
  pub agrees : (i : I) → m.holds i t → Agrees (shown i) m.stop_of (want i (m.state i s)) r (m.state i t)
  pub blames : IfErr r (λ e. m.blames s t e)
  pub unfinished : (i : I) → m.holds i t → (e : E) → r ≡ Err e → m.stop_of e ≡ None → m.reaches (m.state i t) (state_after (want i (m.state i s)))

-- ---- arguments

abbrev pub argument_seen : {W V : Type 0} → (W → V) → Argument W → arguments.Argument V
argument_seen shown (argument.Given w) = arguments.given (shown w)
argument_seen shown argument.Colon = arguments.colon
argument_seen shown (argument.Function name) = arguments.function name.now

abbrev pub ArgumentFits : {W : Type 0} → (W → Type 0) → Argument W → Type 0
ArgumentFits Fits (argument.Given w) = Fits w
ArgumentFits Fits argument.Colon = Unit {0}
ArgumentFits Fits (argument.Function name) = Unit {0}

abbrev pub ArgumentsFit : {W : Type 0} → (W → Type 0) → List (Argument W) → Type 0
ArgumentsFit Fits [] = Unit {0}
ArgumentsFit Fits (a ∷ args) = ArgumentFits Fits a × ArgumentsFit Fits args

-- the same of a call that changes nothing
pub record Finds {L G W E F V S I : Type 0} (m : Senses L G W E F V S I) (want : I → S → Valued V S) (s : L) (r : Result W E) : Type 0 where
  pub fits : IfOk r (λ w. m.fits s w)
  pub agrees : (i : I) → m.holds i s → Agrees (m.shown i) m.stop_of (want i (m.state i s)) r (m.state i s)
  pub blames : IfErr r (λ e. m.blames s s e)

-- a call that gives a value
abbrev pub DoesValue : {L G W E F V S I : Type 0} → (m : Senses L G W E F V S I) → (I → S → Valued V S) → L → L → Result W E → Type 0
DoesValue m want s t r = Does m m.fits m.shown want s t r

-- a failure that names a stop, or one that no definition has
pub record Refuses {L G W E F V S I : Type 0} (m : Senses L G W E F V S I) (want : I → Stop) (s : L) (e : E) : Type 0 where
  pub stops : (i : I) → m.holds i s → (stop : Stop) → m.stop_of e ≡ Some stop → want i ≡ stop
  pub blames : m.blames s s e

pub record IsFree {L G W E F V S I : Type 0} (m : Senses L G W E F V S I) (s : L) (e : E) : Type 0 where
  pub free : m.stop_of e ≡ None
  pub blames : m.blames s s e

-- ---- calls of functions

-- a call with the number and on the line, between two states; one that opens nothing leaves more as it was
pub record CallDoes {L G W E F V S I : Type 0} (m : Senses L G W E F V S I) (number line : ℕ) (f : G) (args : List (Argument W))
    (s t : L) (r : Result W E) : Type 0 where
  pub does : DoesValue m (λ i u. (m.defined i).call number line (m.named f) (map (argument_seen (m.shown i)) args) u) s t r
  pub done : IfOk r (λ _. m.done t number)
  pub still : m.opens_by (m.named f) ≡ false → m.still s t
