use Rattle.std.proofs.Common.{◌∙◌, ◌∷◌, [], sym, ap}
use Rattle.tall_local.specs.Calls.{parameters}
use Rattle.tall_local.specs.Locals as locals
use Rattle.tall_fun.specs.Values.{held_seen}
use Rattle.tall_fun.proofs.CallLemmas.{no_arguments}
use Rattle.tall_fun.proofs.calls.names_of.Goals as goal

pub returns : goal.returns
returns c =
    ap (λ names. parameters c.args.params.now (held_seen c.args.first ∷ held_seen c.args.second ∷ locals.store ∷ []) names) (sym c.new-names.ensures)
    ∙ c.in_ok-params.ensures (held_seen c.args.second ∷ locals.store ∷ []) ∙ c.in_ok-params-2.ensures (locals.store ∷ []) ∙ c.in_ok-put_parameter.ensures []
    ∙ no_arguments _ _
