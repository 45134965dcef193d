-- From the file of a script and the run of its statements to its answers.
use Rattle.std.proofs.Common.{ℕ, ◌≡◌, ◌∙◌, ◌≤◌, ◌<◌, ◌+◌, List, [], ◌∷◌, ◌++◌, length, refl, ap, subst, sym, inl, inr, arith}
use Rattle.std.specs.Prelude.{Option, Some, None, IfSome, IsSomeAnd, IfOk, IfErr, Result, Ok, Err, take, if◌then◌else◌}
use Rattle.std.specs.Str.{bytes_eq}
use Rattle.std.specs.Io.KnownBytes.{Appends}
use Rattle.std.proofs.KnownBytes.{Appends-nil}
use Rattle.std.proofs.lemmas.List.Sums.{sum_by-append}
use Rattle.std.proofs.lemmas.Option.{none-some}
use Rattle.std.proofs.lemmas.Slice.Eq.{bytes_eq-Decides}
use Rattle.tall_answer.specs.CommandAnswers.{of_script}
use Rattle.tall_grammar.specs.Refusals as parse
use Rattle.tall_grammar.specs.Trees.{SeenScript}
use Rattle.tall_grammar.specs.Views.{program_of}
use Rattle.tall_grammar.specs.declared.scripts.Script.{Script}
use Rattle.tall_local.specs.FaultLines.{fault_line}
use Rattle.tall_local.specs.Refusals.{Stop}
use Rattle.tall_outside.specs.Count.{Rose}
use Rattle.tall_outside.specs.Shelf.{Files, Logs, file_in, openings_of}
use Rattle.tall_outside.specs.ShelfCounts.{IsLater, shelf_counts}
use Rattle.tall_outside.specs.declared.shelf.Opening.{Opening}
use Rattle.tall_outside.specs.declared.shelf.Opening.TheVariants as o
use Rattle.tall_outside.specs.declared.shelf.Shelf as shelf
use Rattle.tall_script.specs.AllowedOpenings.{IsAllowed, allowed_of, script_openings}
use Rattle.tall_script.specs.AllowedOpenings as allowed
use Rattle.tall_script.specs.Answers.{Answer, Answers, no_script, of_script as of_bytes, answer_of, ended}
use Rattle.tall_script.specs.Runs.{run}
use Rattle.tall_script.specs.States.{times_allowed}
use Rattle.tall_steps.specs.Ends.{AddsFront, AreQuiet, End, Grows, IsExplained, WasOpened, all_ran, refused, stopped, unread, changed, too_large, usage, refusal_text}
use Rattle.tall_steps.specs.Ends as ends
use Rattle.tall_steps.specs.Progress.{EndsRun, IsRunEnd, IsRunEnded, OpensAtMost}
use Rattle.tall_steps.specs.Steps.{HasEnd}
use Rattle.tall_steps.specs.declared.endings.Ending.{Ending}
use Rattle.tall_steps.specs.declared.statements.RunEnd.{RunEnd}
use Rattle.tall_steps.specs.declared.statements.RunEnd.TheVariants.{Finished, Stopped, Unwritten}
use Rattle.tall_steps.proofs.Progressing.{explained_later, has_end}
use Rattle.tall_run.specs.Answered.{IsAnswerEnd, IsAnswered}
use Rattle.tall_run.specs.Dues.{IsDue, IsOwn}
use Rattle.tall_run.specs.Scripts.{IsFileEnd, IsLeftOnly, IsOnly, IsRefusal, IsScriptEnd, IsVerdict}
use Rattle.tall_run.specs.Shelves.{OpensAllowed}
use Rattle.tall_run.proofs.Verdicts.{file_only, opened_verdict}

some_injective : {A : Type 0} (a b : A) → Some a ≡ Some b → a ≡ b
some_injective a b e = ap (λ o. elim o [ Some x ↦ x | None ↦ a ]) e

-- ---- the file that was read

pub file_script : (r : Result Script Ending) (text : List ℕ) (n : ℕ) → IfOk r (λ s. IsOnly text (parse.read (program_of s))) → length text ≡ n
    → IfOk r (λ s. (bytes : List ℕ) × parse.Parses bytes (parse.read (program_of s)) × (length bytes ≡ n))
file_script (Ok s) text n is long = (text, is.is, long)
file_script (Err e) text n is long = tt

pub file_told : (r : Result Script Ending) (left : Option (List ℕ)) (text : List ℕ) → IfSome left (λ bytes. text ≡ take 1048577 bytes) → IfOk r (λ s. IsOnly text (parse.read (program_of s)))
    → IfOk r (λ s. IsLeftOnly left (parse.read (program_of s)))
file_told (Ok s) left text read is = file_only left text (parse.read (program_of s)) read is.only
file_told (Err e) left text read is = tt

module _ {S : Type 0} (s : shelf.Ghosts S) (name : List ℕ) where
  refused_file : (before now : S) (text : List ℕ) → IfSome (s.left before) (λ bytes. text ≡ take 1048577 bytes) → length text ≡ s.came now → (e : End) → IsRefusal text e → IsFileEnd s name before now e
  refused_file before now text read long (refused what) is = (text, is.0, long, is.1.is, is.2, file_only (s.left before) text is.0 read is.1.only)
  refused_file before now text read long all_ran is = absurd is
  refused_file before now text read long usage is = absurd is
  refused_file before now text read long (ends.no_script n) is = absurd is
  refused_file before now text read long (stopped stop) is = absurd is
  refused_file before now text read long (unread n) is = absurd is
  refused_file before now text read long (changed n rows many) is = absurd is
  refused_file before now text read long (too_large n) is = absurd is

  pub file_ends : (r : Result Script Ending) (before now : S) (text : List ℕ) → IfSome (s.left before) (λ bytes. text ≡ take 1048577 bytes) → length text ≡ s.came now
      → IfErr r (HasEnd (IsRefusal text)) → IfErr r (HasEnd (IsFileEnd s name before now))
  file_ends (Ok script) before now text read long h = tt
  file_ends (Err e) before now text read long h = has_end e (refused_file before now text read long) h

-- ---- openings of the script

module _ (name : List ℕ) where
  counted : (names : List (List ℕ)) (file : List ℕ) → openings_of file (names ++ name ∷ []) ≡ openings_of file names + script_openings name file
  counted names file =
      let both : openings_of file (names ++ name ∷ []) ≡ openings_of file names + openings_of file (name ∷ []) = sum_by-append (λ opened. if bytes_eq opened file then 1 else 0) names (name ∷ []) in
      let one : openings_of file (name ∷ []) ≡ 0 + script_openings name file = refl in
      omega (arith, both, one)

  -- at most once more
  once : (names all : List (List ℕ)) → all ≡ names ++ name ∷ [] → (file : List ℕ) → (openings_of file names ≤ openings_of file all) × (openings_of file all ≤ openings_of file names + script_openings name file)
  once names all e file =
      let c : openings_of file all ≡ openings_of file names + script_openings name file = ap (openings_of file) e ∙ counted names file in
      (omega (arith, c), omega (arith, c))

  never : (names all : List (List ℕ)) → all ≡ names → (file : List ℕ) → (openings_of file names ≤ openings_of file all) × (openings_of file all ≤ openings_of file names + script_openings name file)
  never names all e file =
      let c : openings_of file all ≡ openings_of file names = ap (openings_of file) e in
      (omega (arith, c), omega (arith, c))

  pub logged : (before now : Option (List (List ℕ))) (answer : Opening) → Logs before now name answer → OpensAtMost (script_openings name) before now
  logged None now answer h = λ names e. absurd (none-some names e)
  logged (Some names) None answer h = absurd h
  logged (Some names) (Some all) o.Opened h = λ ns e. subst (λ xs. (out : List (List ℕ)) × (Some all ≡ Some out) × ((file : List ℕ) → (openings_of file xs ≤ openings_of file out) × (openings_of file out ≤ openings_of file xs + script_openings name file))) (some_injective names ns e) (all, refl, once names all h)
  logged (Some names) (Some all) o.NoSuch h = λ ns e. subst (λ xs. (out : List (List ℕ)) × (Some all ≡ Some out) × ((file : List ℕ) → (openings_of file xs ≤ openings_of file out) × (openings_of file out ≤ openings_of file xs + script_openings name file))) (some_injective names ns e) (all, refl, once names all h)
  logged (Some names) (Some all) o.Failed h = λ ns e. subst (λ xs. (out : List (List ℕ)) × (Some all ≡ Some out) × ((file : List ℕ) → (openings_of file xs ≤ openings_of file out) × (openings_of file out ≤ openings_of file xs + script_openings name file))) (some_injective names ns e) (all, refl, once names all h)
  logged (Some names) (Some all) o.Memory (inl h) = λ ns e. subst (λ xs. (out : List (List ℕ)) × (Some all ≡ Some out) × ((file : List ℕ) → (openings_of file xs ≤ openings_of file out) × (openings_of file out ≤ openings_of file xs + script_openings name file))) (some_injective names ns e) (all, refl, never names all h)
  logged (Some names) (Some all) o.Memory (inr h) = λ ns e. subst (λ xs. (out : List (List ℕ)) × (Some all ≡ Some out) × ((file : List ℕ) → (openings_of file xs ≤ openings_of file out) × (openings_of file out ≤ openings_of file xs + script_openings name file))) (some_injective names ns e) (all, refl, once names all h)

  itself : script_openings name name ≡ 1
  itself = ap (λ b. if b then 1 else 0) ((bytes_eq-Decides name name).1 refl)

  told_once : (names all : List (List ℕ)) → all ≡ names ++ name ∷ [] → openings_of name names < openings_of name all
  told_once names all e = let c : openings_of name all ≡ openings_of name names + script_openings name name = ap (openings_of name) e ∙ counted names name in omega (arith, c, itself)

  -- a call that wasn't refused for want of memory tells the name
  added_name : (names all : List (List ℕ)) (answer : Opening) → (answer ≡ o.Memory → ⊥) → Logs (Some names) (Some all) name answer → all ≡ names ++ name ∷ []
  added_name names all o.Opened some h = h
  added_name names all o.NoSuch some h = h
  added_name names all o.Failed some h = h
  added_name names all o.Memory some h = absurd (some refl)

  pub logged_name : (before now : Option (List (List ℕ))) (answer : Opening) → (answer ≡ o.Memory → ⊥) → Logs before now name answer → WasOpened before now name
  logged_name None now answer some h = λ names all e f. absurd (none-some names e)
  logged_name (Some ns) None answer some h = λ names all e f. absurd (none-some all f)
  logged_name (Some ns) (Some xs) answer some h = λ names all e f.
      let l = subst (λ x. openings_of name x < openings_of name xs) (some_injective ns names e) (told_once ns xs (added_name ns xs answer some h)) in
      subst (λ x. openings_of name names < openings_of name x) (some_injective xs all f) l

-- ---- why there is no script

module _ {S : Type 0} (s : shelf.Ghosts S) (name : List ℕ) (before : S) where
  due_of_bytes : (files : Files) (v : parse.Verdict) (what : List ℕ) → refusal_text v ≡ Some what → (a : Answer) → a ≡ answer_of files v → IsDue (refused what) (of_script a) × (IsOwn (refused what) → a.text ≡ [])
  due_of_bytes files v what e a same = subst (λ x. IsDue (refused what) (of_script x) × (IsOwn (refused what) → x.text ≡ [])) (sym same) (by v e)
    where
      by : (w : parse.Verdict) → refusal_text w ≡ Some what → IsDue (refused what) (of_script (answer_of files w)) × (IsOwn (refused what) → (answer_of files w).text ≡ [])
      by (parse.read p) f = absurd (none-some what f)
      by parse.too_long f = ((refl, ap fault_line (some_injective _ what f)), λ own. refl)
      by (parse.bad_token line place) f = ((refl, ap fault_line (some_injective _ what f)), λ own. refl)
      by (parse.too_deep_at line) f = ((refl, ap fault_line (some_injective _ what f)), λ own. refl)
      by (parse.syntax_at line) f = ((refl, ap fault_line (some_injective _ what f)), λ own. refl)

  -- the file was opened, and read to here
  pub script_end : (mid now : S) → IsLater (shelf_counts s before) (shelf_counts s mid) → WasOpened (s.opened before) (s.opened now) name
      → ((v : parse.Verdict) → IsLeftOnly (s.left mid) v → (files : Files) → s.held before ≡ Some files → IsVerdict files name v)
      → (e : End) → IsFileEnd s name mid now e → IsScriptEnd s name before now e
  script_end mid now later opened verdict (unread file) is =
      ((let l = later.faults in let r = is.1 in omega (arith, l, r), subst (λ n. WasOpened (s.opened before) (s.opened now) n) (sym is.0) opened), λ files tells a answers. (tt, λ own. absurd own))
  script_end mid now later opened verdict (refused what) is =
      ((is.0, is.1, is.2, is.3, is.4), λ files tells a answers. due_of_bytes files is.1 what is.4 a ((verdict is.1 is.5 files tells).answers a answers))
  script_end mid now later opened verdict all_ran is = absurd is
  script_end mid now later opened verdict usage is = absurd is
  script_end mid now later opened verdict (ends.no_script n) is = absurd is
  script_end mid now later opened verdict (stopped stop) is = absurd is
  script_end mid now later opened verdict (changed n rows many) is = absurd is
  script_end mid now later opened verdict (too_large n) is = absurd is

  due_of_absent : (files : Files) → file_in files name ≡ None → (a : Answer) → Answers files name a → IsDue (ends.no_script name) (of_script a) × (IsOwn (ends.no_script name) → a.text ≡ [])
  due_of_absent files absent _ (no_script h) = ((refl, refl), λ own. refl)
  due_of_absent files absent _ (of_bytes {bytes} h p) = absurd (none-some bytes (sym absent ∙ h))

  -- there is none
  pub no_script_end : (now : S) → Rose (s.misses before) (s.misses now) → IfSome (s.held before) (λ files. file_in files name ≡ None) → IsScriptEnd s name before now (ends.no_script name)
  no_script_end now rose absent =
      (rose, λ files tells. due_of_absent files (subst (λ h. IfSome h (λ fs. file_in fs name ≡ None)) tells absent))

  -- it could not be opened
  pub unread_end : (now : S) → Rose (s.faults before) (s.faults now) → WasOpened (s.opened before) (s.opened now) name → IsScriptEnd s name before now (unread name)
  unread_end now rose opened = ((rose, opened), λ files tells a answers. (tt, λ own. absurd own))

-- ---- answers

script_allowed : (files : Files) (name file : List ℕ) (n : ℕ) → IsAllowed files name file n → script_openings name file ≤ n
script_allowed files name file _ (allowed.no_script h) = omega arith
script_allowed files name file _ (allowed.of_script {bytes} {a} h p) = by a
  where
    by : (w : parse.Verdict) → script_openings name file ≤ allowed_of files name w file
    by (parse.read p) = omega arith
    by parse.too_long = omega arith
    by (parse.bad_token line place) = omega arith
    by (parse.too_deep_at line) = omega arith
    by (parse.syntax_at line) = omega arith

-- only the script was opened
pub script_alone : (files : Files) (name : List ℕ) (before now : Option (List (List ℕ))) → OpensAtMost (script_openings name) before now → OpensAllowed (IsAllowed files name) before now
script_alone files name before now h = λ names told.
    let x = h names told in
    (x.0, x.1, λ file n is. let u = x.2 file in let l = script_allowed files name file n is in (u.0, omega (arith, u.1, l)))

-- the script, and then what its statements open
pub script_and_files : (files : Files) (name : List ℕ) (p : SeenScript) (before mid now : Option (List (List ℕ))) → IsVerdict files name (parse.read p)
    → OpensAtMost (script_openings name) before mid → OpensAtMost (λ file. times_allowed file (run files p).state.opened) mid now → OpensAllowed (IsAllowed files name) before now
script_and_files files name p before mid now verdict h k = λ names told.
    let x = h names told in
    let y = k x.0 x.1 in (
      y.0,
      y.1,
      λ file n is.
          let u = x.2 file in
          let v = y.2 file in
          let e : n ≡ script_openings name file + times_allowed file (run files p).state.opened = verdict.allows file n is in
          (omega (arith, u.0, v.0), omega (arith, u.1, v.1, e)),
    )

ended_text : (text : List ℕ) (ending : Option Stop) → (ended text ending).text ≡ text
ended_text text None = refl
ended_text text (Some stop) = refl

pub run_text : (files : Files) (name : List ℕ) (p : SeenScript) (before now : Option (List ℕ)) → IsVerdict files name (parse.read p) → AddsFront (run files p).text before now
    → (a : Answer) → Answers files name a → AddsFront a.text before now
run_text files name p before now verdict front a answers =
    subst (λ t. AddsFront t before now) (sym (ap (λ (x : Answer). x.text) (verdict.answers a answers) ∙ ended_text (run files p).text (run files p).ending)) front

-- all statements ran, or one stopped: that of each answer
ran_due : (files : Files) (p : SeenScript) (a : Answer) (before now : Option (List ℕ)) → a ≡ answer_of files (parse.read p) → (run files p).ending ≡ None → Appends before now (run files p).text
    → IsDue all_ran (of_script a) × (IsOwn all_ran → Appends before now a.text)
ran_due files p a before now same none w =
    subst (λ x. IsDue all_ran (of_script x) × (IsOwn all_ran → Appends before now x.text)) (sym (same ∙ ap (ended (run files p).text) none)) ((refl, refl), λ own. w)

stop_due : (files : Files) (p : SeenScript) (stop : Stop) (a : Answer) (before now : Option (List ℕ)) → a ≡ answer_of files (parse.read p) → (run files p).ending ≡ Some stop → Appends before now (run files p).text
    → IsDue (stopped stop) (of_script a) × (IsOwn (stopped stop) → Appends before now a.text)
stop_due files p stop a before now same some w =
    subst (λ x. IsDue (stopped stop) (of_script x) × (IsOwn (stopped stop) → Appends before now x.text)) (sym (same ∙ ap (ended (run files p).text) some)) ((refl, refl), λ own. w)

module _ {S : Type 0} (s : shelf.Ghosts S) (name : List ℕ) (before : S) (written : Option (List ℕ)) where
  -- before any statement nothing is written
  pub unwritten_end : (now : S) (e : End) → IsScriptEnd s name before now e → IsAnswerEnd s name before now written written e
  unwritten_end now e is = (
    is.0,
    λ files tells a answers.
        let d = is.1 files tells a answers in
        (d.0, λ own. subst (λ t. Appends written written t) (sym (d.1 own)) (Appends-nil written)),
  )

  module _ (p : SeenScript) (mid now : S) (after : Option (List ℕ)) (failed : Type 0)
      (later : IsLater (shelf_counts s before) (shelf_counts s mid)) (grows : Grows (s.opened before) (s.opened mid)) (held : s.held mid ≡ s.held before)
      (verdict : (files : Files) → s.held before ≡ Some files → IsVerdict files name (parse.read p)) where
    due_end : (files : Files) → IsVerdict files name (parse.read p) → (e : End) → EndsRun files p e written after → (a : Answer) → Answers files name a → IsDue e (of_script a) × (IsOwn e → Appends written after a.text)
    due_end files v (stopped stop) h a answers = stop_due files p stop a written after (v.answers a answers) h.0 h.1
    due_end files v (unread n) h a answers = (tt, λ own. absurd own)
    due_end files v all_ran h a answers = absurd h
    due_end files v usage h a answers = absurd h
    due_end files v (ends.no_script n) h a answers = absurd h
    due_end files v (refused what) h a answers = absurd h
    due_end files v (changed n rows many) h a answers = absurd h
    due_end files v (too_large n) h a answers = (tt, λ own. absurd own)

    run_end : (e : End) → IsRunEnd s p mid now written after e → IsAnswerEnd s name before now written after e
    run_end e is = (
      explained_later s e before mid now later grows held is.1,
      λ files tells a answers. due_end files (verdict files tells) e (is.2 files (held ∙ tells)) a answers,
    )

    pub run_answered : ((bytes : List ℕ) × parse.Parses bytes (parse.read p) × (length bytes ≡ s.came mid)) → (AreQuiet p.statements → now ≡ mid)
        → (end : RunEnd) → IsRunEnded s p mid now written after failed end → IsAnswered s name before now written after failed end
    run_answered script quiet Finished is = (
      (script.0, p, script.1, λ q. script.2 ∙ ap s.came (sym (quiet q))),
      λ files tells a answers. let r = is files (held ∙ tells) in ran_due files p a written after ((verdict files tells).answers a answers) r.0 r.1,
    )
    run_answered script quiet (Stopped ending) is = has_end ending run_end is
    run_answered script quiet (Unwritten fault) is = is

pub grows_of : (bound : List ℕ → ℕ) (before now : Option (List (List ℕ))) → OpensAtMost bound before now → Grows before now
grows_of bound before now h = λ names told. let x = h names told in (x.0, x.1, λ name. (x.2 name).0)

-- ---- an opened file

pub opened_told : (r : Result Script Ending) (held : Option Files) (name : List ℕ) (left : Option (List ℕ)) → IfSome held (λ files. IsSomeAnd (file_in files name) (λ bytes. left ≡ Some bytes))
    → IfOk r (λ script. IsLeftOnly left (parse.read (program_of script)))
    → IfOk r (λ script. (files : Files) → held ≡ Some files → IsVerdict files name (parse.read (program_of script)))
opened_told (Ok script) held name left opened only = opened_verdict held name left (parse.read (program_of script)) opened only
opened_told (Err e) held name left opened only = tt

pub opened_ends : {S : Type 0} (s : shelf.Ghosts S) (name : List ℕ) (before mid now : S) (r : Result Script Ending) → IsLater (shelf_counts s before) (shelf_counts s mid)
    → WasOpened (s.opened before) (s.opened now) name → s.held mid ≡ s.held before
    → IfSome (s.held before) (λ files. IsSomeAnd (file_in files name) (λ bytes. s.left mid ≡ Some bytes))
    → IfErr r (HasEnd (IsFileEnd s name mid now)) → IfErr r (HasEnd (IsScriptEnd s name before now))
opened_ends s name before mid now (Ok script) later named held opened h = tt
opened_ends s name before mid now (Err e) later named held opened h =
    has_end e (script_end s name before mid now later named (λ v only files tells. opened_verdict (s.held before) name (s.left mid) v opened only files tells)) h
