-- From what a script, the demo or wrong words come to, to what a run promises.
use Rattle.std.proofs.Common.{ℕ, ◌≡◌, ◌⊎◌, List, [], refl, subst, sym, inl, inr, arith}
use Rattle.std.specs.Prelude.{Option, Some, None, IfSome}
use Rattle.std.specs.Io.KnownBytes.{Appends}
use Rattle.std.proofs.KnownBytes.{Appends-nil}
use Rattle.tall_answer.specs.CommandAnswers.{AnswersAsked, CommandAnswer, files_of, no_command, of_command, of_script, script_name, usage_answer}
use Rattle.tall_answer.specs.CommandOpenings.{IsAllowedAsked, for_script, for_demo}
use Rattle.tall_local.specs.FaultLines.{fault_line, outside_line, out_of_memory, usage_text}
use Rattle.tall_outside.specs.Count.{Rose}
use Rattle.tall_outside.specs.Shelf.{Files}
use Rattle.tall_outside.specs.declared.shelf.Shelf as shelf
use Rattle.tall_script.specs.AllowedOpenings.{IsAllowed}
use Rattle.tall_script.specs.Answers.{Answer, Answers}
use Rattle.tall_script.proofs.OneAnswer.{one_answer}
use Rattle.tall_words.specs.Commands.{Asked, run_demo, run_script}
use Rattle.tall_run.specs.Answered.{IsAnswerEnd, IsDemoEnd}
use Rattle.tall_steps.specs.Ends.{End, usage, AddsFront}
use Rattle.tall_run.specs.Dues.{IsDue, IsOwn}
use Rattle.tall_run.specs.Promises.{Promises}
use Rattle.tall_run.specs.Shelves.{IfShort, IfTold, OpensAllowed, WithinLimit}
use Rattle.tall_run.specs.Shown.{Ends, ShowsAll, Written, with_line, line_fails, line_breaks, out_of_memory_ends}
use Rattle.tall_steps.specs.Statuses.{IsSettled}
use Rattle.tall_steps.specs.declared.statuses.Status.{Status}
use Rattle.tall_steps.specs.declared.statuses.Status.TheVariants as status
use Rattle.tall_run.proofs.Closing.{completed, ends_as, not_usage, own_end, settled}

if_some : {A : Type 0} (o : Option A) (P : A → Type 0) → ((a : A) → o ≡ Some a → P a) → IfSome o P
if_some None P f = tt
if_some (Some a) P f = f a refl

-- nothing was written
pub no_front : (text : List ℕ) (w : Option (List ℕ)) → AddsFront text w w
no_front text w = (0, Appends-nil w)

-- an answer of a command is one of its script
answer_as : (P : CommandAnswer → Type 0) (files : Files) (asked : Asked) → ((b : Answer) → Answers (files_of files asked) (script_name asked) b → P (of_script b))
    → (a : CommandAnswer) → AnswersAsked files (Some asked) a → P a
answer_as P files asked f _ (of_command {a} h) = f a h

-- ---- a script of the shelf

allowed_script : (files : Files) (file name : List ℕ) (workers n : ℕ) → IsAllowedAsked files file (Some (run_script name workers)) n → IsAllowed files name file n
allowed_script files file name workers n (for_script h) = h

module _ {S : Type 0} (s : shelf.Ghosts S) (name : List ℕ) (workers : ℕ) (before now : S) (text_failed line_failed : Type 0) (how : Status) (old new : Written)
    (ends : Ends (IsAnswerEnd s name before now old.text new.text) text_failed line_failed how old.line new.line) where
  abbrev asked : Asked
  asked = run_script name workers

  pub script_promises : ((files : Files) → s.held before ≡ Some files → (a : Answer) → Answers files name a → AddsFront a.text old.text new.text)
      → s.held now ≡ s.held before
      → ((files : Files) → s.held before ≡ Some files → OpensAllowed (IsAllowed files name) (s.opened before) (s.opened now))
      → Promises s (Some (run_script name workers)) before now text_failed line_failed how old new
  script_promises front held opens = record {
    complete = if_some (s.held before) _ (λ files tells within calm a b.
        answer_as (λ x. (how ≡ status.Memory) ⊎ ShowsAll x how old new) files asked
        (λ x answers. completed (of_script x) how old new
        (λ e is. let t = is.1 files tells x answers in (own_end s before now files tells within calm (of_script x) e is.0 t.0, t)) a b ends));
    settled = if_some (s.held before) _ (λ files tells is_settled.
        answer_as (λ x. ShowsAll x how old new) files asked
        (λ x answers. settled (of_script x) how old new
        (λ e is. (not_usage s before now e is.0, is.1 files tells x answers)) ends is_settled));
    front = if_some (s.held before) _ (λ files tells. answer_as (λ x. AddsFront x.text old.text new.text) files asked (λ x answers. front files tells x answers));
    ends = ends_as (λ e is. (is.0, if_some (s.held before) _ (λ files tells. answer_as (λ x. IsDue e x) files asked (λ x answers. (is.1 files tells x answers).0)))) ends;
    held = held;
    opens = if_some (s.held before) _ (λ files tells names told. let o = opens files tells names told in
        (o.0, o.1, λ file n h. o.2 file n (allowed_script files file name workers n h)));
    unused = λ none. absurd (none tt);
  }

-- ---- the demo

allowed_demo : (files : Files) (file : List ℕ) (rows workers n : ℕ) → IsAllowedAsked files file (Some (run_demo rows workers)) n → n ≡ 0
allowed_demo files file rows workers _ for_demo = refl

-- over files that are told and short, on which no call fails
pub demo_end : {S : Type 0} (s : shelf.Ghosts S) (files : Files) (name : List ℕ) (before now : S) (written after : Option (List ℕ)) → s.held before ≡ Some files → WithinLimit files
    → (Rose (s.faults before) (s.faults now) → ⊥) → (e : End) → IsAnswerEnd s name before now written after e → IsDemoEnd files name written after e
demo_end s files name before now written after tells within calm e is =
    let one = one_answer files name in
    (own_end s before now files tells within calm (of_script one.one) e is.0 (is.1 files tells one.one one.is).0, λ a answers. is.1 files tells a answers)

own_not_usage : (e : End) → IsOwn e → e ≡ usage → ⊥
own_not_usage e own u = absurd (subst IsOwn u own)

nothing_opened : (IsBound : List ℕ → ℕ → Type 0) (opened : Option (List (List ℕ))) → OpensAllowed IsBound opened opened
nothing_opened IsBound opened = λ names told. (names, told, λ name n h. (omega arith, omega arith))

pub demo_promises : {S : Type 0} (s : shelf.Ghosts S) (files : Files) (rows workers : ℕ) (now : S) (text_failed line_failed : Type 0) (how : Status) (old new : Written)
    → files ≡ files_of [] (run_demo rows workers)
    → Ends (IsDemoEnd files (script_name (run_demo rows workers)) old.text new.text) text_failed line_failed how old.line new.line
    → ((a : Answer) → Answers files (script_name (run_demo rows workers)) a → AddsFront a.text old.text new.text)
    → Promises s (Some (run_demo rows workers)) now now text_failed line_failed how old new
demo_promises s files rows workers now text_failed line_failed how old new same ends front =
    let its : (a : Answer) → Answers (files_of [] (run_demo rows workers)) (script_name (run_demo rows workers)) a → Answers files (script_name (run_demo rows workers)) a =
    λ a h. subst (λ fs. Answers fs (script_name (run_demo rows workers)) a) (sym same) h in
    record {
      complete = λ others calm a b. answer_as (λ x. (how ≡ status.Memory) ⊎ ShowsAll x how old new) others (run_demo rows workers)
          (λ x answers. completed (of_script x) how old new (λ e is. (is.0, is.1 x (its x answers))) a b ends);
      settled = λ others is_settled. answer_as (λ x. ShowsAll x how old new) others (run_demo rows workers)
          (λ x answers. settled (of_script x) how old new (λ e is. (own_not_usage e is.0, is.1 x (its x answers))) ends is_settled);
      front = λ others. answer_as (λ x. AddsFront x.text old.text new.text) others (run_demo rows workers) (λ x answers. front x (its x answers));
      ends = ends_as (λ e is. (is.0, λ others. answer_as (λ x. IsDue e x) others (run_demo rows workers) (λ x answers. (is.1 x (its x answers)).0))) ends;
      held = refl;
      opens = λ others. nothing_opened _ (s.opened now);
      unused = λ none. refl;
    }

-- ---- words that are no command

no_other : (P : CommandAnswer → Type 0) (files : Files) → P usage_answer → (a : CommandAnswer) → AnswersAsked files None a → P a
no_other P files p _ no_command = p

-- how the line of the usage was written
abbrev pub IsUsageWritten : (failed : Type 0) → Status → (before after : Option (List ℕ)) → Type 0
IsUsageWritten failed how before after =
    ((how ≡ status.Write) × failed × AddsFront (fault_line usage_text) before after)
    ⊎ ((how ≡ status.Memory) × AddsFront (fault_line usage_text) before after)
    ⊎ ((how ≡ status.Usage) × Appends before after (fault_line usage_text))

pub usage_as : (failed : Type 0) (how : Status) (before after : Option (List ℕ)) (line : List ℕ) → line ≡ fault_line usage_text
    → ((how ≡ status.Write) × failed × AddsFront line before after) ⊎ ((how ≡ status.Memory) × AddsFront line before after) ⊎ ((how ≡ status.Usage) × Appends before after line)
    → IsUsageWritten failed how before after
usage_as failed how before after line e h =
    subst (λ l. ((how ≡ status.Write) × failed × AddsFront l before after) ⊎ ((how ≡ status.Memory) × AddsFront l before after) ⊎ ((how ≡ status.Usage) × Appends before after l)) e h

module _ (text_failed line_failed : Type 0) (how : Status) (text : Option (List ℕ)) (line line' : Option (List ℕ)) where
  abbrev old : Written
  old = record { text = text; line = line }

  abbrev new : Written
  new = record { text = text; line = line' }

  usage_completes : IsUsageWritten line_failed how line line' → (line_failed → ⊥) → (how ≡ status.Memory) ⊎ ShowsAll usage_answer how old new
  usage_completes w quiet = elim w [
    | inl fails ↦ absurd (quiet fails.1)
    | inr (inl breaks) ↦ inl breaks.0
    | inr (inr all) ↦ inr (all.0, Appends-nil text, all.1)
  ]

  usage_settles : IsUsageWritten line_failed how line line' → IsSettled how → ShowsAll usage_answer how old new
  usage_settles w s = elim w [
    | inl fails ↦ absurd (subst IsSettled fails.0 s)
    | inr (inl breaks) ↦ absurd (subst IsSettled breaks.0 s)
    | inr (inr all) ↦ (all.0, Appends-nil text, all.1)
  ]

  usage_ends : {Is : End → Type 0} → Is usage → IsUsageWritten line_failed how line line' → Ends Is text_failed line_failed how line line'
  usage_ends is w = elim w [
    | inl fails ↦ line_fails usage is fails.0 fails.1 fails.2
    | inr (inl breaks) ↦ line_breaks usage is breaks.0 breaks.1
    | inr (inr all) ↦ with_line usage is all.0 all.1
  ]

  pub usage_promises : {S : Type 0} (s : shelf.Ghosts S) (now : S) → IsUsageWritten line_failed how line line'
      → Promises s None now now text_failed line_failed how (record { text = text; line = line }) (record { text = text; line = line' })
  usage_promises s now w = record {
    complete = λ files calm a quiet. no_other (λ x. (how ≡ status.Memory) ⊎ ShowsAll x how old new) files (usage_completes w quiet);
    settled = λ files is_settled. no_other (λ x. ShowsAll x how old new) files (usage_settles w is_settled);
    front = λ files. no_other (λ x. AddsFront x.text text text) files (no_front [] text);
    ends = usage_ends (refl, λ files. no_other (λ x. IsDue usage x) files (refl, refl)) w;
    held = refl;
    opens = λ files. nothing_opened _ (s.opened now);
    unused = λ none. refl;
  }

  -- ---- no memory for the words

  short_of : (held : Option Files) (asked : Option Asked) (Says : Files → Type 0) → ((files : Files) → Says files) → IfShort held asked Says
  short_of held (Some (run_script name workers)) Says f = if_some held _ (λ files tells within. f files)
  short_of held (Some (run_demo rows workers)) Says f = f
  short_of held None Says f = f

  told_of : (held : Option Files) (asked : Option Asked) (Says : Files → Type 0) → ((files : Files) → Says files) → IfTold held asked Says
  told_of held (Some (run_script name workers)) Says f = if_some held _ (λ files tells. f files)
  told_of held (Some (run_demo rows workers)) Says f = f
  told_of held None Says f = f

  pub memory_promises : {S : Type 0} (s : shelf.Ghosts S) (asked : Option Asked) (now : S) → (how ≡ status.Memory) × AddsFront (outside_line out_of_memory) line line'
      → Promises s asked now now text_failed line_failed how (record { text = text; line = line }) (record { text = text; line = line' })
  memory_promises s asked now w = record {
    complete = short_of (s.held now) asked _ (λ files calm a quiet x answers. inl w.0);
    settled = told_of (s.held now) asked _ (λ files is_settled x answers. absurd (subst IsSettled w.0 is_settled));
    front = told_of (s.held now) asked _ (λ files x answers. no_front x.text text);
    ends = out_of_memory_ends w.0 w.1;
    held = refl;
    opens = told_of (s.held now) asked _ (λ files. nothing_opened _ (s.opened now));
    unused = λ none. refl;
  }

pub no_rise : Rose 0 0 → ⊥
no_rise r = absurd (omega (arith, r))
