-- From the end of a run to what it promises of its answer.
use Rattle.std.proofs.Common.{ℕ, ◌≡◌, ◌∙◌, ◌⊎◌, ◌<◌, ◌≤◌, ◌^◌, List, [], length, refl, ap, arith, subst, sym, inl, inr}
use Rattle.std.specs.Prelude.{Option, None, Some, IfSome, IsSomeAnd}
use Rattle.std.specs.Io.KnownBytes.{Appends}
use Rattle.tall_answer.specs.CommandAnswers.{CommandAnswer, of_script}
use Rattle.tall_answer.specs.CommandAnswers as answer
use Rattle.tall_local.specs.FaultLines.{cannot_write, out_of_memory, outside_line}
use Rattle.tall_outside.specs.Count.{Rose}
use Rattle.tall_outside.specs.Shelf.{Files, file_in}
use Rattle.tall_outside.specs.declared.shelf.Shelf as shelf
use Rattle.tall_store.specs.FileEnds.{IsTooLong}
use Rattle.tall_run.specs.Answered.{Closes}
use Rattle.tall_steps.specs.Ends.{End, IsExplained, all_ran, usage, no_script, refused, stopped, unread, changed, too_large, line_of, status_of, AddsFront}
use Rattle.tall_run.specs.Dues.{IsDue, IsOwn, status_of_answer}
use Rattle.tall_run.specs.Shelves.{WithinLimit}
use Rattle.tall_run.specs.Shown.{Ends, ShowsAll, Written, with_line, line_fails, line_breaks, text_fails, both_fail, text_fails_and_breaks, out_of_memory_ends}
use Rattle.tall_steps.specs.Statuses.{IsSettled}
use Rattle.tall_steps.specs.Steps.{HasEnd}
use Rattle.tall_steps.specs.declared.endings.Ending.{Ending}
use Rattle.tall_steps.specs.declared.endings.Ending.TheVariants.{Line, Memory}
use Rattle.tall_steps.specs.declared.statuses.Status.{Status}
use Rattle.tall_steps.specs.declared.statuses.Status.TheVariants as status

-- ---- the error output

module _ {Is : End → Type 0} {text_failed line_failed : Type 0} {how : Status} {before after : Option (List ℕ)} where
  pub closed : (ending : Ending) → HasEnd Is ending → Closes ending line_failed how before after → Ends Is text_failed line_failed how before after
  closed (Line kind line) (e, is, same, text) c = elim c [
    | inl fails ↦ line_fails e is fails.0 fails.1 (subst (λ l. AddsFront l before after) text fails.2)
    | inr (inl breaks) ↦ line_breaks e is breaks.0 (subst (λ l. AddsFront l before after) text breaks.1)
    | inr (inr all) ↦ with_line e is (all.0 ∙ same) (subst (λ l. Appends before after l) text all.1)
  ]
  closed Memory h c = out_of_memory_ends c.0 c.1

  pub unwritten : text_failed
      → ((how ≡ status.Write) × line_failed × AddsFront (outside_line cannot_write) before after)
      ⊎ ((how ≡ status.Memory) × AddsFront (outside_line cannot_write) before after)
      ⊎ ((how ≡ status.Write) × Appends before after (outside_line cannot_write)) → Ends Is text_failed line_failed how before after
  unwritten failed c = elim c [
    | inl both ↦ both_fail both.0 failed both.1 both.2
    | inr (inl breaks) ↦ text_fails_and_breaks breaks.0 failed breaks.1
    | inr (inr all) ↦ text_fails all.0 failed all.1
  ]

  pub without_memory : (how ≡ status.Memory) × AddsFront (outside_line out_of_memory) before after → Ends Is text_failed line_failed how before after
  without_memory (memory, front) = out_of_memory_ends memory front

  pub all_done : Is all_ran → how ≡ status.Done → Appends before after [] → Ends Is text_failed line_failed how before after
  all_done is same none = with_line all_ran is same none

-- ends that are seen otherwise
pub ends_as : {Is Was : End → Type 0} {a b : Type 0} {how : Status} {before after : Option (List ℕ)} → ((e : End) → Is e → Was e) → Ends Is a b how before after → Ends Was a b how before after
ends_as sees (with_line e is h l) = with_line e (sees e is) h l
ends_as sees (line_fails e is h f l) = line_fails e (sees e is) h f l
ends_as sees (line_breaks e is h l) = line_breaks e (sees e is) h l
ends_as sees (text_fails h f l) = text_fails h f l
ends_as sees (both_fail h f g l) = both_fail h f g l
ends_as sees (text_fails_and_breaks h f l) = text_fails_and_breaks h f l
ends_as sees (out_of_memory_ends h l) = out_of_memory_ends h l

-- ---- a settled run

-- what is told of an end, where it is the answer's
abbrev pub Told : End → CommandAnswer → (written after : Option (List ℕ)) → Type 0
Told e a written after = IsDue e a × (IsOwn e → Appends written after a.text)

module _ (a : CommandAnswer) (how : Status) (old new : Written) where
  shown : (kind : answer.Status) (e : End) → a.status ≡ kind → status_of e ≡ status_of_answer kind → a.line ≡ line_of e → how ≡ status_of e
      → Appends old.line new.line (line_of e) → Appends old.text new.text a.text
      → ShowsAll a how old new
  shown kind e k s l h w t = (h ∙ s ∙ ap status_of_answer (sym k), t, subst (λ x. Appends old.line new.line x) (sym l) w)

  -- of an end that a script can have of its own
  pub own_shown : (e : End) → IsOwn e → Told e a old.text new.text → how ≡ status_of e → Appends old.line new.line (line_of e)
      → ShowsAll a how old new
  own_shown all_ran own told h w = shown answer.done all_ran told.0.0 refl told.0.1 h w (told.1 own)
  own_shown (no_script name) own told h w = shown answer.fault (no_script name) told.0.0 refl told.0.1 h w (told.1 own)
  own_shown (refused what) own told h w = shown answer.fault (refused what) told.0.0 refl told.0.1 h w (told.1 own)
  own_shown (stopped stop) own told h w = shown answer.fault (stopped stop) told.0.0 refl told.0.1 h w (told.1 own)
  own_shown usage own told h w = absurd own
  own_shown (unread name) own told h w = absurd own
  own_shown (changed name rows more) own told h w = absurd own
  own_shown (too_large name) own told h w = absurd own

  -- a settled status is that of an end of the definitions
  settled_own : (e : End) → (IsOwn e ⊎ (e ≡ usage)) ⊎ (status_of e ≡ status.Read)
  settled_own all_ran = inl (inl tt)
  settled_own usage = inl (inr refl)
  settled_own (no_script name) = inl (inl tt)
  settled_own (refused what) = inl (inl tt)
  settled_own (stopped stop) = inl (inl tt)
  settled_own (unread name) = inr refl
  settled_own (changed name rows more) = inr refl
  settled_own (too_large name) = inr refl

  pub settled : {Is : End → Type 0} {text_failed line_failed : Type 0} → ((e : End) → Is e → (e ≡ usage → ⊥) × Told e a old.text new.text)
      → Ends Is text_failed line_failed how old.line new.line → IsSettled how
      → ShowsAll a how old new
  settled sees (with_line e is h w) s = elim (settled_own e) [
    | inl (inl own) ↦ own_shown e own (sees e is).1 h w
    | inl (inr u) ↦ absurd ((sees e is).0 u)
    | inr read ↦ absurd (subst IsSettled (h ∙ read) s)
  ]
  settled sees (line_fails e is h f l) s = absurd (subst IsSettled h s)
  settled sees (line_breaks e is h l) s = absurd (subst IsSettled h s)
  settled sees (text_fails h f l) s = absurd (subst IsSettled h s)
  settled sees (both_fail h f g l) s = absurd (subst IsSettled h s)
  settled sees (text_fails_and_breaks h f l) s = absurd (subst IsSettled h s)
  settled sees (out_of_memory_ends h l) s = absurd (subst IsSettled h s)

  -- where nothing failed, an end is the answer's, or memory was wanting
  pub completed : {Is : End → Type 0} {text_failed line_failed : Type 0} → ((e : End) → Is e → IsOwn e × Told e a old.text new.text)
      → (text_failed → ⊥) → (line_failed → ⊥) → Ends Is text_failed line_failed how old.line new.line
      → (how ≡ status.Memory) ⊎ ShowsAll a how old new
  completed sees calm quiet (with_line e is h w) = inr (own_shown e (sees e is).0 (sees e is).1 h w)
  completed sees calm quiet (line_fails e is h f l) = absurd (quiet f)
  completed sees calm quiet (line_breaks e is h l) = inl h
  completed sees calm quiet (text_fails h f l) = absurd (calm f)
  completed sees calm quiet (both_fail h f g l) = absurd (calm f)
  completed sees calm quiet (text_fails_and_breaks h f l) = inl h
  completed sees calm quiet (out_of_memory_ends h l) = inl h

-- ---- an end where nothing failed, over files that are told and short

-- a file that is too long is longer than the limit
too_long : (files : Files) (name : List ℕ) → WithinLimit files → IsTooLong files name → ⊥
too_long files name within long = by (file_in files name) (within name) long
  where
    by : (bytes : Option (List ℕ)) → IfSome bytes (λ b. length b ≤ 2 ^ 50) → IsSomeAnd bytes (λ b. 2 ^ 50 < length b) → ⊥
    by None w l = absurd l
    by (Some b) w l = omega (arith, w, l)

module _ {S : Type 0} (s : shelf.Ghosts S) (before now : S) (files : Files) (tells : s.held before ≡ Some files) (within : WithinLimit files) (calm : Rose (s.faults before) (s.faults now) → ⊥) (a : CommandAnswer) where
  -- is the definitions' own
  pub own_end : (e : End) → IsExplained s e before now → IsDue e a → IsOwn e
  own_end all_ran x due = tt
  own_end usage x due = absurd x
  own_end (no_script name) x due = tt
  own_end (refused what) x due = tt
  own_end (stopped stop) x due = tt
  own_end (unread name) x due = absurd (calm x.0)
  own_end (changed name rows more) x due = absurd due
  own_end (too_large name) x due = absurd (too_long files name within (subst (λ o. IfSome o (λ fs. IsTooLong fs name)) tells x.2))

-- and no end of a script is that of the words
pub not_usage : {S : Type 0} (s : shelf.Ghosts S) (before now : S) (e : End) → IsExplained s e before now → e ≡ usage → ⊥
not_usage s before now e x u = absurd (subst (λ o. IsExplained s o before now) u x)
