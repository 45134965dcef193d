-- What a failure of mapreduce names and blames.
use Rattle.std.proofs.Common.{◌≡◌, ◌<◌, ◌^◌, ℕ, List, [], refl, sym, ap, subst, ◌∙◌}
use Rattle.std.specs.Prelude.{get_or, Option, None, Some, Result, Err}
use Rattle.tall_outside.specs.declared.shelf.Shelf as shelf
use Rattle.tall_outside.specs.Count.{Rose}
use Rattle.tall_outside.specs.Shelf.{Files}
use Rattle.tall_store.specs.FileEnds.{IsTooLong}
use Rattle.tall_local.specs.Memory.{Memory}
use Rattle.tall_local.specs.Refusals as refusal
use Rattle.tall_local.specs.Refusals.{Stop, stop_at}
use Rattle.tall_mapred.specs.Answers.{Answer, OpensFiles}
use Rattle.tall_gather.proofs.OnePass.{opened_here}
use Rattle.tall_environment.specs.declared.failures.Failure.{Failure}
use Rattle.tall_environment.specs.declared.failures.Failure.TheVariants as failure
use Rattle.tall_environment.specs.declared.failures.Refusal.{Refusal}
use Rattle.tall_environment.specs.Failures.{Blames, IsOpened, refusal_seen, stop_of}
use Rattle.tall_script_calls.specs.Reductions.{IsRead, IsTooLarge, StopsWith}

-- ---- names

one_named : (o : Option Stop) (a b : Stop) → o ≡ Some a → o ≡ Some b → a ≡ b
one_named o a b h k = (let q : Some a ≡ Some b = sym h ∙ k in inside q) where
  inside : Some a ≡ Some b → a ≡ b
  inside e = cc

never : (o : Option Stop) (a : Stop) → o ≡ None → o ≡ Some a → ⊥
never o a h k = (let q : None ≡ Some a = sym h ∙ k in absurd (cc))

-- of a function
pub refused_stops : (want : Result Memory Stop) (line : ℕ) (due : refusal.Refusal) (e : Refusal) → want ≡ Err (stop_at line due) → refusal_seen e ≡ due → StopsWith want (failure.Refused line e)
refused_stops want line due e is seen stop named = is ∙ ap Err (one_named (Some (stop_at line (refusal_seen e))) (stop_at line due) stop (ap (λ r. Some (stop_at line r)) seen) named)

-- of reading
pub reading_stops : (want : Result Memory Stop) (due : Stop) (e : Failure) → want ≡ Err due → ((stop : Stop) → stop_of e ≡ Some stop → due ≡ stop) → StopsWith want e
reading_stops want due e is names stop named = is ∙ ap Err (names stop named)

read_is_no_stop : (name : List ℕ) (e : Failure) → IsRead name e → stop_of e ≡ None
read_is_no_stop name (failure.Refused line x) h = absurd h
read_is_no_stop name (failure.Read file) h = refl
read_is_no_stop name (failure.TooLarge file) h = absurd h
read_is_no_stop name (failure.Changed file first now) h = absurd h
read_is_no_stop name failure.Memory h = refl

pub read_stops : (want : Result Memory Stop) (name : List ℕ) (e : Failure) → IsRead name e → StopsWith want e
read_stops want name e h stop named = absurd (never (stop_of e) stop (read_is_no_stop name e h) named)

-- a failure to read a file that is too large is no stop
large_is_no_stop : (name : List ℕ) (e : Failure) → IsTooLarge name e → stop_of e ≡ None
large_is_no_stop name (failure.Refused line x) h = absurd h
large_is_no_stop name (failure.Read file) h = absurd h
large_is_no_stop name (failure.TooLarge file) h = refl
large_is_no_stop name (failure.Changed file first now) h = absurd h
large_is_no_stop name failure.Memory h = refl

pub large_stops : (want : Result Memory Stop) (name : List ℕ) (e : Failure) → IsTooLarge name e → StopsWith want e
large_stops want name e h stop named = absurd (never (stop_of e) stop (large_is_no_stop name e h) named)

-- ---- causes

module _ {S : Type 0} (s : shelf.Ghosts S) (files : List (List ℕ)) (file : ℕ) (answer : Answer) (before now : S) where
  -- a file below the place of those that were opened
  pub is_opened : (opens : OpensFiles files answer (s.opened before) (s.opened now)) → file < opens.opened → IsOpened s (get_or files file []) before now
  is_opened opens below names all told end = opened_here files opens.opened file (s.opened before) (s.opened now) opens.opens below opens.within names all told end

module _ {S : Type 0} (s : shelf.Ghosts S) (name : List ℕ) (before now : S) (opened : IsOpened s name before now) where
  pub read_blames : (e : Failure) → IsRead name e → Rose (s.faults before) (s.faults now) → Blames s e before now
  read_blames (failure.Refused line x) h rose = absurd h
  read_blames (failure.Read file) h rose = (rose, subst (λ n. IsOpened s n before now) (sym h) opened)
  read_blames (failure.TooLarge file) h rose = absurd h
  read_blames (failure.Changed file first last) h rose = absurd h
  read_blames failure.Memory h rose = tt

  pub large_blames : (e : Failure) → IsTooLarge name e → 2 ^ 50 < s.came now → ((files : Files) → s.held before ≡ Some files → IsTooLong files name) → Blames s e before now
  large_blames (failure.Refused line x) h came longer = absurd h
  large_blames (failure.Read file) h came longer = absurd h
  large_blames (failure.TooLarge file) h came longer =
      subst (λ n. (2 ^ 50 < s.came now) × IsOpened s n before now × ((files : Files) → s.held before ≡ Some files → IsTooLong files n)) (sym h) (came, opened, longer)
  large_blames (failure.Changed file first last) h came longer = absurd h
  large_blames failure.Memory h came longer = tt
