use Rattle.std.proofs.Common.{◌≡◌, sym, subst, IfOk, option_map}
use Rattle.tall_group.specs.GroupFolds.{AreGroupsOf, served}
use Rattle.tall_group.specs.Groups.{IsGroupsOf}
use Rattle.tall_group.specs.States.{IsTallyOf, never}
use Rattle.tall_group.specs.Summaries.{cells_of, columns_by}
use Rattle.tall_group.proofs.group_states.GroupStates.columns.Goals as goal

pub returns-in-Rows-clause-cells : goal.returns-in-Rows-clause-cells
returns-in-Rows-clause-cells c ks vs h k =
    subst (λ s. IfOk c.counted.result (λ o. option_map cells_of o ≡ columns_by (served s) c.args.kind ks vs)) (sym c.in-Rows.is)
    (c.counted.ensures.cells ks vs
    (subst (λ xs. IsGroupsOf (IsTallyOf never) c.args.keys.cells xs ks vs) (sym c.as_slice.ensures.value) (subst (λ s. AreGroupsOf c.args.kind c.args.keys.cells s ks vs) c.in-Rows.is h)) k)
