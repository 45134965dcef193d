use Rattle.std.specs.Prelude.{◌≡◌, [], ◌∷◌}
use Rattle.std.proofs.Common.{ap, sym, subst, ◌∙◌}
use Rattle.tall_semantics.proofs.Basics.{inside}
use Rattle.tall_semantics.specs.Operations.{binary, filter, scan, unary}
use Rattle.tall_semantics.specs.Deferred.{Vertex}
use Rattle.tall_fuse.specs.Kept.{carry}
use Rattle.tall_block.specs.OfBlocks.{known_scalar}
use Rattle.tall_block.specs.NodeForms.{IsFormOf, IsOperationAt}
use Rattle.tall_block.proofs.ValueLaws.{as_vertex, form_given, is_cut, made_any, stored_told}
use Rattle.tall_block.proofs.values.value_of.Goals as goal

pub returns-in-Unary-clause-operation : goal.returns-in-Unary-clause-operation
returns-in-Unary-clause-operation c =
    let w = form_given c.args.graph.now c.args.n c.form_of.result c.requires.place c.form_of.ensures in
    let form = subst (IsFormOf w.0.made w.0.args) c.in-Unary.is w.2 in
    made_any c.unary_at.result (IsOperationAt c.args.graph.now c.args.n) (w.0, unary c.in-Unary.op, w.1, form.0)

pub returns-in-Unary-clause-tells : goal.returns-in-Unary-clause-tells
returns-in-Unary-clause-tells c = λ first work columns so_far f cut h ready v e.
    let w = form_given c.args.graph.now c.args.n c.form_of.result c.requires.place c.form_of.ensures in
    let form = subst (IsFormOf w.0.made w.0.args) c.in-Unary.is w.2 in
    c.unary_at.ensures.tells (known_scalar c.args.known.now) (λ i. carry c.args.known.now i c.args.block) first work columns so_far f cut h ready v.at (as_vertex c.args.graph.now c.args.n w.0 v (unary c.in-Unary.op) (c.in-Unary.a ∷ []) w.1 form.0 form.1 e)

pub returns-in-Binary-clause-operation : goal.returns-in-Binary-clause-operation
returns-in-Binary-clause-operation c =
    let w = form_given c.args.graph.now c.args.n c.form_of.result c.requires.place c.form_of.ensures in
    let form = subst (IsFormOf w.0.made w.0.args) c.in-Binary.is w.2 in
    made_any c.binary_at.result (IsOperationAt c.args.graph.now c.args.n) (w.0, binary c.in-Binary.op, w.1, form.0)

pub returns-in-Binary-clause-tells : goal.returns-in-Binary-clause-tells
returns-in-Binary-clause-tells c = λ first work columns so_far f cut h ready v e.
    let w = form_given c.args.graph.now c.args.n c.form_of.result c.requires.place c.form_of.ensures in
    let form = subst (IsFormOf w.0.made w.0.args) c.in-Binary.is w.2 in
    c.binary_at.ensures.tells (λ i. carry c.args.known.now i c.args.block) first work columns so_far f cut h ready v.at (as_vertex c.args.graph.now c.args.n w.0 v (binary c.in-Binary.op) (c.in-Binary.a ∷ c.in-Binary.b ∷ []) w.1 form.0 form.1 e)

pub returns-in-Filter-clause-operation : goal.returns-in-Filter-clause-operation
returns-in-Filter-clause-operation c =
    let w = form_given c.args.graph.now c.args.n c.form_of.result c.requires.place c.form_of.ensures in
    let form = subst (IsFormOf w.0.made w.0.args) c.in-Filter.is w.2 in
    made_any c.filter_at.result (IsOperationAt c.args.graph.now c.args.n) (w.0, filter, w.1, form.0)

pub returns-in-Filter-clause-tells : goal.returns-in-Filter-clause-tells
returns-in-Filter-clause-tells c = λ first work columns so_far f cut h ready v e.
    let w = form_given c.args.graph.now c.args.n c.form_of.result c.requires.place c.form_of.ensures in
    let form = subst (IsFormOf w.0.made w.0.args) c.in-Filter.is w.2 in
    c.filter_at.ensures.tells (known_scalar c.args.known.now) (λ i. carry c.args.known.now i c.args.block) first work columns so_far f cut h ready v.at (as_vertex c.args.graph.now c.args.n w.0 v (filter) (c.in-Filter.a ∷ c.in-Filter.m ∷ []) w.1 form.0 form.1 e)

pub returns-in-Scan-clause-operation : goal.returns-in-Scan-clause-operation
returns-in-Scan-clause-operation c =
    let w = form_given c.args.graph.now c.args.n c.form_of.result c.requires.place c.form_of.ensures in
    let form = subst (IsFormOf w.0.made w.0.args) c.in-Scan.is w.2 in
    made_any c.scan_at.result (IsOperationAt c.args.graph.now c.args.n) (w.0, scan c.in-Scan.s, w.1, form.0)

pub returns-in-Scan-clause-tells : goal.returns-in-Scan-clause-tells
returns-in-Scan-clause-tells c = λ first work columns so_far f cut h ready v e.
    let w = form_given c.args.graph.now c.args.n c.form_of.result c.requires.place c.form_of.ensures in
    let form = subst (IsFormOf w.0.made w.0.args) c.in-Scan.is w.2 in
    c.scan_at.ensures.tells (known_scalar c.args.known.now) first work columns so_far f cut h ready v.at (as_vertex c.args.graph.now c.args.n w.0 v (scan c.in-Scan.s) (c.in-Scan.a ∷ []) w.1 form.0 form.1 e)

pub returns-in-Stored-clause-tells : goal.returns-in-Stored-clause-tells
returns-in-Stored-clause-tells c = λ first work columns so_far f cut h ready v e.
    let w = form_given c.args.graph.now c.args.n c.form_of.result c.requires.place c.form_of.ensures in
    let form = subst (IsFormOf w.0.made w.0.args) c.in-Stored.is w.2 in
    let same : v ≡ w.0 = inside v w.0 (sym e ∙ w.1) in
    stored_told ready v e (form.0, form.1, form.2, ap (λ (u : Vertex). u.made) same ∙ form.3)

pub returns-in-Other-clause-tells : goal.returns-in-Other-clause-tells
returns-in-Other-clause-tells c = λ first work columns so_far f cut h ready v e.
    let w = form_given c.args.graph.now c.args.n c.form_of.result c.requires.place c.form_of.ensures in
    let form = subst (IsFormOf w.0.made w.0.args) c.in-Other.is w.2 in
    form f cut (ready.block.can c.args.n w.0 w.1 (is_cut ready))
