-- Parts of a statement, one after another.
use Rattle.std.proofs.Common.{ℕ, suc, ◌≡◌, ◌≤◌, ◌∙◌, List, [], ◌∷◌, length, refl, ap, sym, subst, arith}
use Rattle.std.specs.Prelude.{Bool, false, true, if◌then◌else◌, ◌==◌, Option, None, Some, Result, Ok, Err, Vec, IfErr}
use Rattle.std.specs.List.{All, flat_map}
use Rattle.std.proofs.lemmas.Bool.Decides.{Decides-eqb}
use Rattle.tall_outside.specs.declared.shelf.Shelf as shelf
use Rattle.tall_outside.specs.Shelf.{Files}
use Rattle.tall_local.specs.Arguments.{Argument, value_given}
use Rattle.tall_local.specs.Expressions.{Valued, gives, go_on, stops}
use Rattle.tall_local.specs.Lists.{all_of, each_of}
use Rattle.tall_local.specs.Memory.{Memory}
use Rattle.tall_local.specs.Refusals.{Refusal, Stop, bad_argument, stop_at}
use Rattle.tall_local.specs.StateLaws.{state_after}
use Rattle.tall_semantics.specs.Deferred.{IsMeaning}
use Rattle.tall_semantics.specs.Talls.{Tall, shapes}
use Rattle.tall_stored.specs.StoredColumns.{AreStored}
use Rattle.tall_deferred.specs.declared.values.ScriptValue.{ScriptValue}
use Rattle.tall_deferred.specs.Turns.{IsAtMost}
use Rattle.tall_script.specs.Gathers.{answered_all, gather_all, gather_if, gather_openings, gathered_value, talls_in}
use Rattle.tall_script.specs.ScriptValues.{TallValue}
use Rattle.tall_script.specs.States.{Openings, State, with_openings}
use Rattle.tall_script.specs.Statements.{Done, fails, gather_into, set_names, then_do}
use Rattle.tall_script.specs.StatesFollow.{done_state}
use Rattle.tall_environment.specs.declared.failures.Failure.{Failure}
use Rattle.tall_environment.specs.Environments.{IsLast, SeenEnvironment, numbered, state_at}
use Rattle.tall_environment.specs.EvaluationLaws.{inside_all, opens_both}
use Rattle.tall_environment.specs.Expressions.{IsSense, OpensOn, Tells, values_at}
use Rattle.tall_environment.specs.Failures.{Blames}
use Rattle.tall_environment.specs.MoveLaws.{blamed_later, moves_both, opens_none}
use Rattle.tall_environment.specs.NumberLaws.{last_stays}
use Rattle.tall_environment.specs.Moves.{Moves, Opens}
use Rattle.tall_statements.specs.Answers.{Answers, Ends, Goes, Runs, TellsDone}
use Rattle.tall_statements.proofs.EndLaws.{opens_same}
use Rattle.tall_statements.proofs.Naming.{names_open, on_ok}

same_size : (a b : ℕ) → b ≡ a → a ≤ b
same_size a b e = omega (arith, e)

-- ---- what is kept

module _ {S : Type 0} (s : shelf.Ghosts S) where
  pub moved_goes : (a b : SeenEnvironment) (x y : S) → Moves s a b x y → Goes s a b x y
  moved_goes a b x y h = record { size = h.size; stored = h.stored; meant = h.meant; held = h.held; counts = h.counts; opens = h.opens }

  -- names are no matter of openings
  opens_of : (b c : SeenEnvironment) (y z : S) → Opens s b c y z → Opens s b (record c { names = b.names }) y z
  opens_of b c y z h = record { more = h.more; allowed = h.allowed; grows = h.grows; distinct = h.distinct; within = h.within }

  opens_by : (a b c : SeenEnvironment) (x z : S) → Opens s a (record c { names = b.names }) x z → Opens s a c x z
  opens_by a b c x z h = record { more = h.more; allowed = h.allowed; grows = h.grows; distinct = h.distinct; within = h.within }

  moves_then : (a b c : SeenEnvironment) (x y z : S) → Moves s a b x y → Goes s b c y z → Goes s a c x z
  moves_then a b c x y z h k =
      let rest : Moves s b (record c { names = b.names }) y z = record { names = refl; size = k.size; stored = k.stored; meant = k.meant; held = k.held; counts = k.counts; opens = opens_of b c y z k.opens } in
      let all = moves_both s a b (record c { names = b.names }) x y z h rest in
      record { size = all.size; stored = all.stored; meant = all.meant; held = all.held; counts = all.counts; opens = opens_by a b c x z all.opens }

module _ {Z : Type 0} (want : (ℕ → Tall) → State Tall → Done) (old new : SeenEnvironment) (a : Result (Vec ℕ Z) Failure) (h : Ends want old new a) where
  ends_goes : {S : Type 0} (s : shelf.Ghosts S) (now : S) → Goes s old new now now
  ends_goes s now =
      let o = opens_none s old old now refl refl in
      record {
        size = same_size (length old.graph) (length new.graph) (ap length h.graph);
        stored = λ files columns j. h.stored files columns (subst (λ g. AreStored files new.stores g columns) h.graph j);
        meant = λ columns f j. subst (λ g. IsMeaning columns g f) h.graph j;
        held = refl;
        counts = record { misses = same_size (s.misses now) (s.misses now) refl; faults = same_size (s.faults now) (s.faults now) refl };
        opens = record { more = o.more; allowed = h.opened ∙ o.allowed; grows = o.grows; distinct = λ files told j. h.distinct j; within = o.within };
      }

  ends_last : (n : ℕ) → IsLast n old → IsLast n new
  ends_last n k = record { graph = subst (λ g. All (IsAtMost (numbered n)) g) (sym h.graph) k.graph; calls = h.calls n k.calls }

pub ends_run : {S Z : Type 0} (s : shelf.Ghosts S) (n : ℕ) (want : (ℕ → Tall) → State Tall → Done) (old new : SeenEnvironment) (now : S) (a : Result (Vec ℕ Z) Failure)
    → IsLast n old → Ends want old new a → Runs s n (λ files f t. want f t) old new now now a
ends_run s n want old new now a last h = record {
  goes = ends_goes want old new a h s now;
  last = on_ok (IsLast n new) a (ends_last want old new a h n last);
  tells = λ files told columns f sense. h.tells columns f (subst (λ g. IsMeaning columns g f) h.graph sense.solved);
  blames = inside_all s now now a h.inside;
}

-- ---- an expression, and what is done with its value

module _ {W : Type 0} where
  abbrev failed : Failure → Result W Failure
  failed e = Err e

module _ {Z : Type 0} where
  abbrev gone : Failure → Result (Vec ℕ Z) Failure
  gone e = Err e

  same_gone : (e g : Failure) → gone e ≡ gone g → e ≡ g
  same_gone e g h = cc

module _ {V : Type 0} (k : V → State Tall → Done) where
  stopped : (v : Valued V (State Tall)) (stop : Stop) (t : State Tall) → v ≡ stops stop t → then_do v k ≡ fails stop t
  stopped v stop t e = ap (λ u. then_do u k) e

  opens_then : (v : Valued V (State Tall)) (t : State Tall) → ((v : V) (u : State Tall) → OpensOn u (done_state (k v u))) → OpensOn t (state_after v) → OpensOn t (done_state (then_do v k))
  opens_then (gives v u) t more h = opens_both t u (done_state (k v u)) h (more v u)
  opens_then (stops stop u) t more h = h

module _ {S W V Z : Type 0} (s : shelf.Ghosts S) (n : ℕ) (shown : (ℕ → Tall) → W → V) (first : Files → (ℕ → Tall) → State Tall → Valued V (State Tall)) (k : Files → (ℕ → Tall) → V → State Tall → Done) where
  blamed_all : (a b : SeenEnvironment) (x y z : S) (r : Result (Vec ℕ Z) Failure) → Moves s a b x y → IfErr r (λ e. Blames s e y z) → IfErr r (λ e. Blames s e x z)
  blamed_all a b x y z (Ok text) h j = tt
  blamed_all a b x y z (Err e) h j = blamed_later s a b x y z h e j

  pub then_runs : (w : W) (a b c : SeenEnvironment) (x y z : S) (r : Result (Vec ℕ Z) Failure) → Moves s a b x y → Tells s x shown first a b (Ok w)
      → Runs s n (λ files f t. k files f (shown f w) t) b c y z r → Runs s n (λ files f t. then_do (first files f t) (k files f)) a c x z r
  then_runs w a b c x y z r h tells run = record {
    goes = moves_then s a b c x y z h run.goes;
    last = run.last;
    tells = λ files told columns f sense.
        let before : IsSense files b columns f = record { stored = run.goes.stored files columns sense.stored; solved = run.goes.meant columns f sense.solved } in
        subst (λ v. Answers (then_do v (k files f)) r (state_at f c)) (sym ((tells files told columns f before).agrees))
        (run.tells files (h.held ∙ told) columns f sense);
    blames = blamed_all a b x y z r h run.blames;
  }

  pub failed_runs : (e : Failure) (a b : SeenEnvironment) (x y : S) → Moves s a b x y → Tells s x shown first a b (Err e) → Blames s e x y
      → ((files : Files) (f : ℕ → Tall) (v : V) (u : State Tall) → OpensOn u (done_state (k files f v u))) → Runs {Z = Z} s n (λ files f t. then_do (first files f t) (k files f)) a b x y (Err e)
  failed_runs e a b x y h tells blames more = record {
    goes = moved_goes s a b x y h;
    last = tt;
    tells = λ files told columns f sense.
        let t = tells files told columns f sense in
        record {
          agrees = λ stop is. stopped (k files f) (first files f (state_at f a)) stop (state_at f b) (t.agrees stop is);
          unfinished = λ g is none. opens_then (k files f) (first files f (state_at f a)) (state_at f b) (more files f) (t.unfinished g (ap (failed {W = W}) (same_gone e g is)) none);
        };
    blames = blames;
  }

pub runs_as : {S Z : Type 0} (s : shelf.Ghosts S) (n : ℕ) (want due : Files → (ℕ → Tall) → State Tall → Done) (old new : SeenEnvironment) (x y : S) (r : Result (Vec ℕ Z) Failure)
    → ((files : Files) (f : ℕ → Tall) (t : State Tall) → want files f t ≡ due files f t) → Runs s n want old new x y r → Runs s n due old new x y r
runs_as s n want due old new x y r same h = record {
  goes = h.goes;
  last = h.last;
  tells = λ files told columns f sense. subst (λ w. Answers w r (state_at f new)) (same files f (state_at f old)) (h.tells files told columns f sense);
  blames = h.blames;
}

-- ---- gathers

same_count : (a b : ℕ) → a ≡ b → (a == b) ≡ true
same_count a b e = (Decides-eqb a b).1 e

other_count : (a b : ℕ) → (a ≡ b → ⊥) → (a == b) ≡ false
other_count a b e = by (a == b) refl where
  by : (t : Bool) → (a == b) ≡ t → (a == b) ≡ false
  by true is = absurd (e ((Decides-eqb a b).0 is))
  by false is = is

answered_open : {W : Type 0} (s : State Tall) (more : List Openings) (r : Result W Stop) → OpensOn s (state_after (answered_all (with_openings more s) r))
answered_open s more (Ok w) = (more, refl)
answered_open s more (Err stop) = (more, refl)

gathers_open : (line : ℕ) (vs : List TallValue) (s : State Tall) → OpensOn s (state_after (gather_all line vs s))
unfolding gather_all
gathers_open line vs s = by (each_of gathered_value vs) where
  by : (r : Result (List Memory) Refusal) → OpensOn s (state_after (gather_if line vs r s))
  by (Ok w) = answered_open s (gather_openings 0 s.stores (shapes (flat_map talls_in vs))) _
  by (Err e) = opens_same s s refl

pub names_on : (shown : Bool) (names : List (List ℕ)) (found : List Memory) (s : State Tall) → OpensOn s (done_state (set_names shown names found [] s))
names_on shown names found s = opens_same s (done_state (set_names shown names found [] s)) (names_open shown names found [] s)

values_open : (shown : Bool) (names : List (List ℕ)) (s : State Tall) (v : Valued (List Memory) (State Tall)) → OpensOn s (state_after v) → OpensOn s (done_state (then_do v (λ found t. set_names shown names found [] t)))
values_open shown names s (gives found t) h = (h.0, names_open shown names found [] t ∙ h.1)
values_open shown names s (stops stop t) h = h

pub into_open : (line : ℕ) (shown : Bool) (names : List (List ℕ)) (given : Option (List TallValue)) (s : State Tall) → OpensOn s (done_state (gather_into line shown names given s))
into_open line shown names None s = opens_same s s refl
into_open line shown names (Some vs) s = by (length names == length vs) where
  by : (b : Bool) → OpensOn s (done_state (if b then then_do (gather_all line vs s) (λ found t. set_names shown names found [] t) else fails (stop_at line bad_argument) s))
  by true = values_open shown names s (gather_all line vs s) (gathers_open line vs s)
  by false = opens_same s s refl

pub given_is : (v : Valued (List (Argument TallValue)) (State Tall)) (k : Option (List TallValue) → State Tall → Done)
    → then_do (go_on v (λ given t. gives (all_of value_given given) t)) k ≡ then_do v (λ given t. k (all_of value_given given) t)
given_is (gives given t) k = refl
given_is (stops stop t) k = refl

-- ---- numbers

pub same_last : (n : ℕ) (old new : SeenEnvironment) → new ≡ record old { opened = new.opened } → IsLast n old → IsLast n new
same_last n old new same h = last_stays n old new (ap (λ (e : SeenEnvironment). e.graph) same) (ap (λ (e : SeenEnvironment). e.stores) same) h

-- ---- as many names as values

pub count_at : (f : ℕ → Tall) (vs : List ScriptValue) → length (values_at f vs) ≡ length vs
count_at f [] = refl
count_at f (v ∷ vs) = ap suc (count_at f vs)

pub into_values : (line : ℕ) (shown : Bool) (names : List (List ℕ)) (vs : List TallValue) (s : State Tall) → length names ≡ length vs
    → then_do (gather_all line vs s) (λ found t. set_names shown names found [] t) ≡ gather_into line shown names (Some vs) s
into_values line shown names vs s e = ap (λ (b : Bool). if b then then_do (gather_all line vs s) (λ found t. set_names shown names found [] t) else fails (stop_at line bad_argument) s) (sym (same_count (length names) (length vs) e))

pub into_none : (line : ℕ) (shown : Bool) (names : List (List ℕ)) (vs : List TallValue) (s : State Tall) → (length names ≡ length vs → ⊥)
    → fails (stop_at line bad_argument) s ≡ gather_into line shown names (Some vs) s
into_none line shown names vs s e = ap (λ (b : Bool). if b then then_do (gather_all line vs s) (λ found t. set_names shown names found [] t) else fails (stop_at line bad_argument) s) (sym (other_count (length names) (length vs) e))

-- ---- all forms

pub told_as : {S Z : Type 0} (s : shelf.Ghosts S) (n : ℕ) (want : Files → (ℕ → Tall) → State Tall → Done) (due : Files → State Tall → Done) (old new : SeenEnvironment) (x y : S) (r : Result (Vec ℕ Z) Failure)
    → ((files : Files) (f : ℕ → Tall) (t : State Tall) → want files f t ≡ due files t) → Runs s n want old new x y r → TellsDone s x due old new r
told_as s n want due old new x y r same h files told columns f sense = subst (λ w. Answers w r (state_at f new)) (same files f (state_at f old)) (h.tells files told columns f sense)
