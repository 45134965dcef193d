-- What a statement in code did, as a step of a session.
use Rattle.std.proofs.Common.{ℕ, ◌≡◌, ◌∙◌, ◌≤◌, ◌<◌, ◌+◌, ◌-◌, zero, suc, List, [], ◌∷◌, ◌++◌, length, drop, map, refl, ap, subst, sym, arith, append-nil}
use Rattle.std.specs.List.{All}
use Rattle.std.specs.Prelude.{true, Option, None, Some, IfSome, Result, Ok, Err, Vec}
use Rattle.std.proofs.lemmas.List.{length-drop, length-map}
use Rattle.tall_grammar.specs.Trees.{SeenStatement}
use Rattle.tall_local.specs.Refusals.{Stop, stop_at}
use Rattle.tall_outside.specs.Shelf.{Files, openings_of}
use Rattle.tall_outside.specs.declared.shelf.Shelf as shelf
use Rattle.tall_store.specs.FileEnds.{IsTooLong}
use Rattle.tall_store.specs.Stores.{SeenStore}
use Rattle.tall_stored.specs.StoredColumns.{Store}
use Rattle.tall_sources.specs.Sources.{store_in}
use Rattle.tall_value.specs.Names.{are_distinct}
use Rattle.tall_script.specs.OpeningLaws.{opens_none}
use Rattle.tall_script.specs.ScriptLanguage.{Setting}
use Rattle.tall_script.specs.Statements.{Done, statement}
use Rattle.tall_script.specs.States.{State, times_allowed}
use Rattle.tall_script.specs.StatesFollow.{done_state}
use Rattle.tall_semantics.specs.Talls.{Columns, Tall}
use Rattle.tall_environment.specs.declared.failures.Failure.{Failure}
use Rattle.tall_environment.specs.declared.failures.Failure.TheVariants as failure
use Rattle.tall_environment.specs.declared.failures.Refusal.{Refusal}
use Rattle.tall_environment.specs.declared.failures.Refusal.TheVariants as r
use Rattle.tall_environment.specs.Environments.{SeenEnvironment, state_at}
use Rattle.tall_environment.specs.Expressions.{IsSense, OpensOn}
use Rattle.tall_environment.specs.Failures.{Blames, IsBlamed, refusal_seen, stop_of}
use Rattle.tall_environment.specs.MoveLaws.{both_allowed}
use Rattle.tall_environment.specs.Moves.{HaveDistinctFiles}
use Rattle.tall_statements.specs.Answers.{Answers, Goes, TellsDone}
use Rattle.tall_steps.specs.Ends.{End, IsExplained, IsMissed}
use Rattle.tall_steps.specs.Failing.{end_of}
use Rattle.tall_steps.specs.Sessions.{MayMean, SeenSession, Sense, left_in, program_in, setting_in, state_in}
use Rattle.tall_steps.specs.Steps.{HasEnd, IsOfStatement, OpensBetween, RunsNext, StepOpens, StopsAs}
use Rattle.tall_steps.specs.declared.endings.Ending.{Ending}
use Rattle.tall_steps.proofs.Progressing.{has_end}

-- ---- a statement is left

pub is_within : {A B : Type 0} (f : A → B) (n : ℕ) (xs : List A) (y : B) (ys : List B) → drop n (map f xs) ≡ y ∷ ys → n < length xs
is_within f n xs y ys e =
    let d : length (drop n (map f xs)) ≡ length (map f xs) - n = length-drop n (map f xs) in
    let m : length (map f xs) ≡ length xs = length-map xs f in
    let z : length (drop n (map f xs)) ≡ suc (length ys) = ap length e in
    omega (arith, d, m, z)

-- ---- senses

pub sense_of : (files : Files) (e f : SeenEnvironment) → e ≡ f → (columns : Columns) (values : ℕ → Tall) → IsSense files e columns values → (sense : Sense) × IsSense files f sense.columns sense.values
sense_of files e f is columns values h = (record { columns = columns; values = values }, subst (λ x. IsSense files x columns values) is h)

-- ---- openings

same_openings : (t : State Tall) → OpensOn t t
same_openings t = ([], sym (append-nil t.opened))

-- the definitions open what was opened, and more
pub opens_on : {Z : Type 0} (want : Done) (ran : Result (Vec ℕ Z) Failure) (t : State Tall) → Answers want ran t → OpensOn t (done_state want)
opens_on want (Ok text) t a = subst (λ d. OpensOn t (done_state d)) (sym a.agrees) (same_openings t)
opens_on want (Err e) t a = by (stop_of e) refl
  where
    by : (o : Option Stop) → stop_of e ≡ o → OpensOn t (done_state want)
    by None none = a.unfinished e refl none
    by (Some stop) some = subst (λ d. OpensOn t (done_state d)) (sym (a.agrees stop some)) (same_openings t)

same_store : (a b : Store) → Some a ≡ Some b → a ≡ b
same_store a b e = cc

-- what holds of each datastore holds at each place
pub distinct_in : (stores : List Store) → All (λ (d : SeenStore). are_distinct d.files ≡ true) (map store_in stores) → HaveDistinctFiles stores
distinct_in [] h zero d there = absurd cc
distinct_in [] h (suc place) d there = absurd cc
distinct_in (e ∷ stores) h zero d there = subst (λ (x : Store). are_distinct x.store.files ≡ true) (same_store e d there) (h 0 e.store (omega arith))
distinct_in (e ∷ stores) h (suc place) d there = distinct_in stores (λ k x l. h (suc k) x (omega (arith, l))) place d there

module _ {S : Type 0} (s : shelf.Ghosts S) (old new : SeenEnvironment) (before now : S) (goes : Goes s old new before now) where
  pub sense_before : (files : Files) (columns : Columns) (f : ℕ → Tall) → IsSense files new columns f → IsSense files old columns f
  sense_before files columns f h = record { stored = goes.stored files columns h.stored; solved = goes.meant columns f h.solved }

  pub opens_between : (files : Files) (f : ℕ → Tall) (t : State Tall) → s.held before ≡ Some files → HaveDistinctFiles old.stores → OpensOn (state_at f new) t
      → OpensBetween (state_at f old) t (s.opened before) (s.opened now)
  opens_between files f t tells distinct on = λ names told.
      let all = goes.opens.grows names told in (
        all.0,
        all.1,
        λ name. (
          all.2 name,
          sums (openings_of name names) (openings_of name all.0) (times_allowed name old.opened) (times_allowed name goes.opens.more) (times_allowed name on.0) (times_allowed name t.opened)
              (goes.opens.within files tells distinct names all.0 told all.1 name)
              (ap (times_allowed name) (on.1 ∙ ap (λ os. os ++ on.0) goes.opens.allowed) ∙ both_allowed name (old.opened ++ goes.opens.more) on.0 ∙ ap (λ n. n + times_allowed name on.0) (both_allowed name old.opened goes.opens.more)),
        ),
      )
    where
      sums : (m n a b c d : ℕ) → n ≤ m + b → d ≡ (a + b) + c → n + a ≤ m + d
      sums m n a b c d h e = omega (arith, h, e)

-- ---- ends

some_is : {A : Type 0} (x y : A) → Some x ≡ Some y → x ≡ y
some_is x y e = cc

module _ {S : Type 0} (s : shelf.Ghosts S) (before now : S) where
  missed : (e : Refusal) → IsBlamed s e before now → IsMissed (refusal_seen e) (s.misses before) (s.misses now)
  missed (r.NoFile name) h = h
  missed (r.Undefined name) h = tt
  missed r.MixedClass h = tt
  missed r.BadClass h = tt
  missed r.Incompatible h = tt
  missed r.BadSize h = tt
  missed r.BadArgument h = tt
  missed r.BadIndex h = tt
  missed (r.Data row kind) h = tt
  missed (r.NoHeader name) h = tt
  missed (r.HeaderDiffers name) h = tt
  missed r.TooManyRows h = tt
  missed (r.TooManyFields row) h = tt
  missed (r.BadField row variable) h = tt
  missed (r.BadText row variable) h = tt
  missed (r.FieldNotWhole row variable) h = tt
  missed (r.FieldInexact row variable) h = tt
  missed r.NoValueLeft h = tt
  missed r.NoProgress h = tt
  missed r.TooManyTurns h = tt
  missed r.BadKey h = tt
  missed r.BadValue h = tt

  longer : (held : Option Files) (name : List ℕ) → ((files : Files) → held ≡ Some files → IsTooLong files name) → IfSome held (λ files. IsTooLong files name)
  longer None name h = tt
  longer (Some files) name h = h files refl

  explained : (e : Failure) (x : End) → end_of e ≡ Some x → Blames s e before now → IsExplained s x before now
  explained (failure.Refused line refusal) x is h = subst (λ y. IsExplained s y before now) (some_is _ x is) (missed refusal h)
  explained (failure.Read name) x is h = subst (λ y. IsExplained s y before now) (some_is _ x is) h
  explained (failure.TooLarge name) x is h = subst (λ y. IsExplained s y before now) (some_is _ x is) (h.0, h.1, longer (s.held before) name h.2)
  explained (failure.Changed name first last) x is h = subst (λ y. IsExplained s y before now) (some_is _ x is) h
  explained failure.Memory x is h = absurd cc

  of_statement : (e : Failure) (x : End) → end_of e ≡ Some x → IsOfStatement x
  of_statement (failure.Refused line refusal) x is = subst IsOfStatement (some_is _ x is) tt
  of_statement (failure.Read name) x is = subst IsOfStatement (some_is _ x is) tt
  of_statement (failure.TooLarge name) x is = subst IsOfStatement (some_is _ x is) tt
  of_statement (failure.Changed name first last) x is = subst IsOfStatement (some_is _ x is) tt
  of_statement failure.Memory x is = absurd cc

  stops_as : {Z : Type 0} (setting : Setting) (left rest : List SeenStatement) (entry : SeenStatement) (t u : State Tall) (ran : Result (Vec ℕ Z) Failure) (e : Failure) (x : End) (files : Files) → ran ≡ Err e → end_of e ≡ Some x
      → Blames s e before now → s.held before ≡ Some files → left ≡ entry ∷ rest → Answers (statement setting entry t) ran u → StopsAs setting left t x
  stops_as setting left rest entry t u ran (failure.Refused line refusal) x files fails_so is h tells next a =
      subst (StopsAs setting left t) (some_is _ x is)
      (entry, rest, u, next, (subst (λ o. Answers (statement setting entry t) o u) fails_so a).agrees (stop_at line (refusal_seen refusal)) refl)
  stops_as setting left rest entry t u ran (failure.Read name) x files fails_so is h tells next a = subst (StopsAs setting left t) (some_is _ x is) tt
  stops_as setting left rest entry t u ran (failure.TooLarge name) x files fails_so is h tells next a = subst (StopsAs setting left t) (some_is _ x is) tt
  stops_as setting left rest entry t u ran (failure.Changed name first last) x files fails_so is h tells next a = absurd (h.2 files tells)
  stops_as setting left rest entry t u ran failure.Memory x files fails_so is h tells next a = absurd cc

-- ---- the step

module _ {S Z : Type 0} (s : shelf.Ghosts S) (before now : S) (old new : SeenSession) (entry : SeenStatement) (rest : List SeenStatement) (ran : Result (Vec ℕ Z) Failure) (next : left_in old ≡ entry ∷ rest)
    (same : program_in new ≡ program_in old) (goes : Goes s old.environment new.environment before now)
    (distinct : HaveDistinctFiles old.environment.stores)
    (some : (files : Files) → (columns : Columns) × (f : ℕ → Tall) × IsSense files new.environment columns f)
    (tells : TellsDone s before (λ files t. statement (setting_in files old) entry t) old.environment new.environment ran)
    (still : opens_none entry.form ≡ true → now ≡ before) where
  meant : (files : Files) (sense : Sense) → MayMean files new sense → MayMean files old sense
  meant files sense h = sense_before s old.environment new.environment before now goes files sense.columns sense.values h

  some_sense : (files : Files) → (sense : Sense) × MayMean files new sense
  some_sense files = let h = some files in (record { columns = h.0; values = h.1 }, h.2)

  opens : (files : Files) → s.held before ≡ Some files → (sense : Sense) → MayMean files new sense
      → StepOpens (setting_in files old) (left_in old) (state_in sense old) (s.opened before) (s.opened now)
  opens files told sense h = λ one more is.
      subst (λ x. OpensBetween (state_in sense old) (done_state (statement (setting_in files old) x (state_in sense old))) (s.opened before) (s.opened now)) (first entry one rest more (sym next ∙ is))
      (opens_between s old.environment new.environment before now goes files sense.values (done_state (statement (setting_in files old) entry (state_in sense old))) told distinct
      (opens_on (statement (setting_in files old) entry (state_in sense old)) ran (state_in sense new) (tells files told sense.columns sense.values h)))
    where
      first : (x y : SeenStatement) (xs ys : List SeenStatement) → x ∷ xs ≡ y ∷ ys → x ≡ y
      first x y xs ys e = cc

  quiet : (one : SeenStatement) (more : List SeenStatement) → left_in old ≡ one ∷ more → opens_none one.form ≡ true → now ≡ before
  quiet one more is none = still (subst (λ (x : SeenStatement). opens_none x.form ≡ true) (first one entry more rest (sym is ∙ next)) none)
    where
      first : (x y : SeenStatement) (xs ys : List SeenStatement) → x ∷ xs ≡ y ∷ ys → x ≡ y
      first x y xs ys e = cc

  pub ran_text : (text : Vec ℕ Z) → ran ≡ Ok text → left_in new ≡ rest → new.has_ended ≡ old.has_ended → RunsNext s old new before now (Ok text)
  ran_text text is left runs = record {
    program = same;
    stops = tt;
    goes_on = runs;
    less = (entry, next ∙ ap (λ xs. entry ∷ xs) (sym left));
    ends = tt;
    text = λ files told sense h. record {
      entry = entry;
      next = next ∙ ap (λ xs. entry ∷ xs) (sym left);
      shows_text = (subst (λ o. Answers (statement (setting_in files old) entry (state_in sense old)) o (state_in sense new)) is (tells files told sense.columns sense.values h)).agrees;
    };
    meant = meant;
    some = some_sense;
    held = goes.held;
    grows = goes.opens.grows;
    later = goes.counts;
    opens = opens;
    quiet = quiet;
  }

  pub ran_failed : (e : Failure) (ending : Ending) → ran ≡ Err e → new.has_ended ≡ true → HasEnd (λ x. end_of e ≡ Some x) ending → Blames s e before now → RunsNext {Z = Z} s old new before now (Err ending)
  ran_failed e ending is ended named blames = record {
    program = same;
    stops = ended;
    goes_on = tt;
    less = tt;
    ends = has_end ending
        (λ x of. (
          of_statement s before now e x of,
          explained s before now e x of blames,
          λ files told sense h.
              stops_as s before now (setting_in files old) (left_in old) rest entry (state_in sense old) (state_in sense new) ran e x files is of blames told next (tells files told sense.columns sense.values h),
        ))
        named;
    text = λ files told sense h. tt;
    meant = meant;
    some = some_sense;
    held = goes.held;
    grows = goes.opens.grows;
    later = goes.counts;
    opens = opens;
    quiet = quiet;
  }
