-- Runs statement by statement.
use Rattle.std.proofs.Common.{◌≡◌, ℕ, List, [], ◌∷◌, ◌++◌, refl, ap, sym, ◌∙◌, subst}
use Rattle.std.proofs.lemmas.List.{append-nil, append_assoc}
use Rattle.std.specs.Prelude.{Option, None, Some}
use Rattle.tall_semantics.specs.Talls.{Tall}
use Rattle.tall_grammar.specs.Trees.{SeenStatement}
use Rattle.tall_local.specs.Refusals.{Stop}
use Rattle.tall_script.specs.RunLaws.{at_the_end, one_more, IsRunOf, all_ran, one_failed, BeginsWith, continued}
use Rattle.tall_script.specs.Runs.{Run, behind, next, run_from}
use Rattle.tall_script.specs.ScriptLanguage.{Setting}
use Rattle.tall_script.specs.Statements.{Done, shows, fails, statement}
use Rattle.tall_script.specs.States.{State}

module _ (setting : Setting) where
  -- one statement in front
  in_front : (s t : State Tall) (entry : SeenStatement) (entries : List SeenStatement) (text : List ℕ) (r : Run) → statement setting entry s ≡ shows text t
      → IsRunOf setting t entries r → IsRunOf setting s (entry ∷ entries) (behind text r)
  in_front s t entry _ text _ shown (all_ran entries texts u ran) =
      all_ran (entry ∷ entries) (text ∷ texts) u (one_more s t u entry entries text texts shown ran)
  in_front s t entry _ text _ shown (one_failed front rest failing texts u v stop ran failed) =
      one_failed (entry ∷ front) rest failing (text ∷ texts) u v stop (one_more s t u entry front text texts shown ran) failed

  run_step : (s : State Tall) (entry : SeenStatement) (entries : List SeenStatement) (d : Done) → statement setting entry s ≡ d
      → ((t : State Tall) → IsRunOf setting t entries (run_from setting entries t))
      → IsRunOf setting s (entry ∷ entries) (next d (λ t. run_from setting entries t))
  run_step s entry entries (shows text t) done rest = in_front s t entry entries text (run_from setting entries t) done (rest t)
  run_step s entry entries (fails stop u) done rest = one_failed [] entries entry [] s u stop (at_the_end s) done

  pub run_is : (entries : List SeenStatement) (s : State Tall) → IsRunOf setting s entries (run_from setting entries s)
  run_is [] s = all_ran [] [] s (at_the_end s)
  run_is (entry ∷ entries) s = run_step s entry entries (statement setting entry s) refl (run_is entries)

  -- ---- longer scripts

  text_in_front : (text : List ℕ) (more : List SeenStatement) (shown : List ℕ) (ending : Option Stop) (s : State Tall)
      → behind text (continued setting (record { text = shown; ending = ending; state = s }) more)
      ≡ continued setting (behind text (record { text = shown; ending = ending; state = s })) more
  text_in_front text more shown None s = let r = run_from setting more s in
      ap (λ t. record { text = t; ending = r.ending; state = r.state }) (sym (append_assoc text shown r.text))
  text_in_front text more shown (Some stop) s = refl

  longer_step : (entries more : List SeenStatement) (d : Done)
      → ((t : State Tall) → run_from setting (entries ++ more) t ≡ continued setting (run_from setting entries t) more)
      → next d (λ t. run_from setting (entries ++ more) t) ≡ continued setting (next d (λ t. run_from setting entries t)) more
  longer_step entries more (shows text t) rest =
      let r = run_from setting entries t in
      ap (behind text) (rest t) ∙ text_in_front text more r.text r.ending r.state
  longer_step entries more (fails stop u) rest = refl

  pub longer : (entries more : List SeenStatement) (s : State Tall) → run_from setting (entries ++ more) s ≡ continued setting (run_from setting entries s) more
  longer [] more s = refl
  longer (entry ∷ entries) more s = longer_step entries more (statement setting entry s) (longer entries more)

  begins : (more : List SeenStatement) (shown : List ℕ) (ending : Option Stop) (s : State Tall)
      → BeginsWith shown (continued setting (record { text = shown; ending = ending; state = s }) more).text
  begins more shown None s = ((run_from setting more s).text, refl)
  begins more shown (Some stop) s = ([], append-nil shown)

  pub begins_longer : (entries more : List SeenStatement) (s : State Tall) → BeginsWith (run_from setting entries s).text (run_from setting (entries ++ more) s).text
  begins_longer entries more s =
      let r = run_from setting entries s in
      subst (λ (whole : Run). BeginsWith r.text whole.text) (sym (longer entries more s)) (begins more r.text r.ending r.state)
