-- The parameters of a call, and what it comes to.
use Rattle.std.proofs.Common.{◌≡◌, refl, ℕ, sym, ap, subst, ◌∙◌, List, [], ◌∷◌}
use Rattle.std.specs.Prelude.{Option, None, Some, Result, Ok, Err}
use Rattle.tall_value.specs.Cells.{Seen}
use Rattle.tall_grammar.specs.Trees.{Steps}
use Rattle.tall_local.specs.Calls.{Ran, breaks, parameters, result_of, run_steps}
use Rattle.tall_local.specs.Pairs.{Pair}
use Rattle.tall_local.specs.Locals.{Held, Locals}
use Rattle.tall_local.specs.Refusals.{Stop, stop_at}
use Rattle.tall_fun.specs.declared.failures.Failure.{Failure}
use Rattle.tall_fun.specs.declared.faults.FunFault.{FunFault}
use Rattle.tall_fun.specs.declared.faults.FunFault.TheVariants as fault
use Rattle.tall_fun.specs.Failures.{stop_of}
use Rattle.tall_fun.specs.Faults.{CallsTo, Names, refusal_at}
use Rattle.tall_fun.specs.Frames.{Runs, call_state}

-- ---- parameters

pub one_parameter : (param : Option (List ℕ)) (params : List (Option (List ℕ))) (h : Held) (rest : List Held) (names new : List (List ℕ × Held))
    → parameters (param ∷ []) (h ∷ []) names ≡ new → parameters (param ∷ params) (h ∷ rest) names ≡ parameters params rest new
one_parameter (Some name) params h rest names new is = ap (λ ns. parameters params rest ns) is
one_parameter None params h rest names new is = ap (λ ns. parameters params rest ns) is

pub no_arguments : (params : List (Option (List ℕ))) (names : List (List ℕ × Held)) → parameters params [] names ≡ names
no_arguments [] names = refl
no_arguments (Some name ∷ params) names = refl
no_arguments (None ∷ params) names = refl

-- ---- what a call comes to

pub called_to : (want : Ran) (f : Failure) (told : FunFault) (t : Locals) → ((stop : Stop) → stop_of f ≡ Some stop → want ≡ breaks stop t) → Names (stop_of f) told
    → CallsTo {A = Unit {0}} (result_of want) t.pairs (Err told)
called_to want f (fault.At line row kind) t h named = (ap result_of (h (stop_at line (refusal_at row kind)) named.0), named.1)
called_to want f fault.Memory t h named = tt

-- ---- the statements of a call

module _ (kv : List Seen) (body b : Steps) (names : List (List ℕ × Held)) (turns : ℕ) (pairs ps : List Pair)
    (no_turn : turns ≡ 0) (same_pairs : pairs ≡ ps) (same_body : b ≡ body) (t : Locals) (r : Result (Unit {0}) Failure)
    (ran : Runs {A = Unit {0}} (run_steps kv b (record { names = names; given = 0; turns = turns; pairs = pairs })) r t) where
  abbrev begun : Ran
  begun = run_steps kv b (record { names = names; given = 0; turns = turns; pairs = pairs })

  from_start : run_steps kv body (call_state names ps) ≡ begun
  from_start =
      ap (λ n. run_steps kv body (record { names = names; given = 0; turns = n; pairs = ps })) (sym no_turn)
      ∙ ap (λ qs. run_steps kv body (record { names = names; given = 0; turns = turns; pairs = qs })) (sym same_pairs)
      ∙ ap (λ x. run_steps kv x (record { names = names; given = 0; turns = turns; pairs = pairs })) (sym same_body)

  pub call_ended : (u : Unit {0}) → r ≡ Ok u → result_of (run_steps kv body (call_state names ps)) ≡ record { pairs = t.pairs; stop = None }
  call_ended u is = ap result_of (from_start ∙ subst (λ x. Runs {A = Unit {0}} begun x t) is ran)

  pub call_failed : (x : Failure) (told : FunFault) → r ≡ Err x → Names (stop_of x) told → CallsTo {A = Unit {0}} (result_of (run_steps kv body (call_state names ps))) t.pairs (Err told)
  call_failed x told is named =
      subst (λ w. CallsTo {A = Unit {0}} (result_of w) t.pairs (Err told)) (sym from_start)
      (called_to begun x told t (subst (λ x. Runs {A = Unit {0}} begun x t) is ran) named)
