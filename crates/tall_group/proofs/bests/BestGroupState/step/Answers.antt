use Rattle.std.proofs.Common.{◌≡◌, ◌∙◌, ap, sym, subst}
use Rattle.tall_group.specs.StateLaws.{best_step, both_within, rows_step}
use Rattle.tall_group.specs.States.{IsWithin}
use Rattle.tall_group.proofs.bests.BestGroupState.step.Goals as goal

pub returns-clause-data : goal.returns-clause-data
returns-clause-data g c ds p =
    let seen_is = ap (λ s. s.0) c.self.view_is in
    let pick = g.C.Choice.pick in (
      c.of_both.ensures ∙ best_step pick g.met.C.Choice.pick_associative ds c.args.datum _ (seen_is ∙ p.0),
      rows_step ds c.args.datum _ (ap (λ s. s.1) c.self.view_is ∙ p.1),
      subst (IsWithin c.args._low c.args._high) (sym c.of_both.ensures)
          (both_within pick g.met.C.Extreme.within c.args._low c.args._high _ c.args.datum (subst (IsWithin c.args._low c.args._high) (sym seen_is) p.2) c.requires.datum),
    )
