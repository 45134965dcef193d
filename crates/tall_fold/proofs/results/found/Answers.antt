use Rattle.std.proofs.Common.{sym, ◌∙◌, subst}
use Rattle.std.proofs.lemmas.Int.{to_z-of_z}
use mir.Val.{SFits}
use mir.Syntax.{w128}
use Rattle.tall_fold.specs.Summaries.{IsFound, IsKeptOf}
use Rattle.tall_fold.proofs.FinishLemmas.{least_is_found, greatest_is_found, sum_is_found, number_is_found}
use Rattle.tall_fold.proofs.results.found.Goals as goal

pub returns-in-Clamp : goal.returns-in-Clamp
returns-in-Clamp c op cs takes kept =
    let is = subst (IsKeptOf op c.args.kind cs) c.in-Clamp.is kept in
    let fits : SFits w128 c.sum_from.result = record { sfits = c.sum_from.type_inv } in
    let cell = simp to_z-of_z at c.cell_of.ensures in
    sum_is_found op c.args.kind cs c.in-Clamp.sum.0 c.sum_from.result _ is.form is.comes c.sum_from.ensures cell

pub returns-in-Least : goal.returns-in-Least
returns-in-Least c op cs takes kept =
    let is = subst (IsKeptOf op c.args.kind cs) c.in-Least.is kept in
    subst (λ (r : _). IsFound r c.cell_of_best.result) (sym (least_is_found op c.args.kind cs c.finish.result takes is.form is.cells (c.finish.ensures ∙ is.comes))) c.cell_of_best.ensures

pub returns-in-Greatest : goal.returns-in-Greatest
returns-in-Greatest c op cs takes kept =
    let is = subst (IsKeptOf op c.args.kind cs) c.in-Greatest.is kept in
    subst (λ (r : _). IsFound r c.cell_of_best-in-Greatest.result) (sym (greatest_is_found op c.args.kind cs c.finish-in-Greatest.result takes is.form is.cells (c.finish-in-Greatest.ensures ∙ is.comes))) c.cell_of_best-in-Greatest.ensures

pub returns-in-Number : goal.returns-in-Number
returns-in-Number c op cs takes kept =
    let is = subst (IsKeptOf op c.args.kind cs) c.in-Number.is kept in
    number_is_found op c.args.kind cs c.in-Number.number c.double_of_count.result is.form is.comes c.double_of_count.ensures
