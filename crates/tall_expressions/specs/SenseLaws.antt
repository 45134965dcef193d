-- The laws of the senses of a script's language.
use Rattle.std.proofs.Common.{◌≡◌, ℕ, List, length, map, refl, sym, ap, ◌∙◌}
use Rattle.std.specs.Prelude.{false, Some}
use Rattle.tall_outside.specs.declared.shelf.Shelf as shelf
use Rattle.tall_grammar.specs.Views.{routine_of}
use Rattle.tall_local.specs.Functions.{script_function_named}
use Rattle.tall_local.specs.declared.functions.ScriptFunction.{ScriptFunction}
use Rattle.tall_script.specs.OpeningLaws.{is_opening, opens, opens_files}
use Rattle.tall_evaluate.specs.Senses.{Laws}
use Rattle.tall_deferred.proofs.TurnLaws.{value_stays}
use Rattle.tall_expressions.specs.declared.evaluation.Evaluation.{Evaluation}
use Rattle.tall_expressions.specs.Evaluations.{Holds, Later, Sense, script_senses}
use Rattle.tall_environment.specs.NumberLaws.{last_is_next, next_is_last}
use Rattle.tall_environment.specs.MoveLaws.{blamed_later, moves_both, moves_none}
use Rattle.tall_expressions.specs.CallLaws.{calls_open_on, opens_on_kept}

module _ {S : Type 0} (s : shelf.Ghosts S) where
  pub later_same : (l : Evaluation S) → Later s l l
  later_same l = record { shelf = refl; environment = refl; functions = refl; moves = moves_none s l.environment.now l.shelf.now }

  later_both : (l m n : Evaluation S) → Later s l m → Later s m n → Later s l n
  later_both l m n h k = record {
    shelf = k.shelf ∙ h.shelf;
    environment = k.environment ∙ h.environment;
    functions = k.functions ∙ h.functions;
    moves = moves_both s l.environment.now m.environment.now n.environment.now l.shelf.now m.shelf.now n.shelf.now h.moves k.moves;
  }

  held_before : (l m : Evaluation S) (i : Sense) → Later s l m → Holds s i m → Holds s i l
  held_before l m i h k = record {
    told = sym h.moves.held ∙ k.told;
    functions = k.functions ∙ ap (λ fs. map routine_of fs.now) h.functions;
    stored = h.moves.stored i.setting.files i.columns k.stored;
    solved = h.moves.meant i.columns i.meaning k.solved;
  }

  named_opens : (name : List ℕ) (f : ScriptFunction) → script_function_named name ≡ Some f → is_opening name ≡ false → opens_files f ≡ false
  named_opens name f e h = sym (ap opens e) ∙ h

  pub script_laws : Laws (script_senses {S = S} s)
  script_laws = record {
    same = later_same;
    both = later_both;
    holds_before = held_before;
    fits_later = λ l m v h k. value_stays (length l.environment.now.graph) (length m.environment.now.graph) v h.moves.size k;
    blames_before = λ l m n e h k. blamed_later s l.environment.now m.environment.now l.shelf.now m.shelf.now n.shelf.now h.moves e k;
    ready_done = λ l n h. next_is_last n l.environment.now h;
    done_ready = λ l n k h less. last_is_next n k l.environment.now h less;
    reaches_on = opens_on_kept;
    calls_reach = λ i. calls_open_on i.setting;
    functions_are = λ i name. refl;
    opens_named = named_opens;
    still_on = record { nothing = λ l. refl; both = λ l m n h k. k ∙ h };
  }
