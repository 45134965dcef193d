use Rattle.std.proofs.Common.{◌≡◌, ◌∙◌, ap, sym, subst}
use Rattle.tall_group.specs.StateLaws.{best_join, both_within, rows_join}
use Rattle.tall_group.specs.States.{IsWithin}
use Rattle.tall_group.proofs.bests.BestGroupState.join.Goals as goal

pub returns-clause-data : goal.returns-clause-data
returns-clause-data g c low high ds es r p q =
    let first = ap (λ s. s.0) c.self.view_is in
    let second = ap (λ s. s.0) c.later.view_is in
    let pick = g.C.Choice.pick in (
      c.of_both.ensures ∙ best_join pick g.met.C.Choice.pick_associative ds es _ _ (first ∙ p.0) (second ∙ q.0),
      rows_join ds es _ _ (ap (λ s. s.1) c.self.view_is ∙ p.1) (ap (λ s. s.1) c.later.view_is ∙ q.1),
      subst (IsWithin low high) (sym c.of_both.ensures)
          (both_within pick g.met.C.Extreme.within low high _ _ (subst (IsWithin low high) (sym first) p.2) (subst (IsWithin low high) (sym second) q.2)),
    )
