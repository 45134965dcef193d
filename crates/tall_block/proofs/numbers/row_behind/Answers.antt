use Rattle.std.proofs.Common.{sym, subst}
use Rattle.tall_block.specs.NodeForms.{IsFormOf}
use Rattle.tall_block.specs.RowSteps.{IsBack}
use Rattle.tall_block.specs.OfBlocks.{column_at}
use Rattle.tall_block.proofs.RowBackLaws.{binary_row, filter_row, lead_before, operand_before, scan_row, stored_is, unary_row}
use Rattle.tall_block.proofs.ValueLaws.{form_given, one_below, two_below}
use Rattle.tall_block.proofs.numbers.row_behind.Goals as goal

pub returns-in-Stored-clause-told : goal.returns-in-Stored-clause-told
returns-in-Stored-clause-told c = λ scalars carries work columns so_far f cut h block shown closed row.
    let w = form_given c.args.graph.now c.args.n c.form_of.result c.requires.place c.form_of.ensures in
    let form = subst (IsFormOf w.0.made w.0.args) c.in-Stored.is w.2 in
    let t = stored_is block c.keeps_its_rules.ensures.made c.requires.columns shown closed c.args.n c.args.row row w.0 w.1 form.0 form.1 form.2 form.3 in
    subst (IsBack c.args.graph.now c.args.table.now c.args.made.now work h c.args.n c.args.row) (sym (c.stored_row.ensures.told row.there.0 row.there.1 t.0 t.1)) t.2

pub returns-in-Unary-clause-before : goal.returns-in-Unary-clause-before
returns-in-Unary-clause-before c =
    let w = form_given c.args.graph.now c.args.n c.form_of.result c.requires.place c.form_of.ensures in
    let form = subst (IsFormOf w.0.made w.0.args) c.in-Unary.is w.2 in
    one_below c.args.graph.now c.keeps_its_rules.ensures.made c.args.n c.in-Unary.a w.0 w.1 form.1

pub returns-in-Unary-clause-told : goal.returns-in-Unary-clause-told
returns-in-Unary-clause-told c = λ scalars carries work columns so_far f cut h block shown closed row.
    let w = form_given c.args.graph.now c.args.n c.form_of.result c.requires.place c.form_of.ensures in
    let form = subst (IsFormOf w.0.made w.0.args) c.in-Unary.is w.2 in
    unary_row block c.keeps_its_rules.ensures.made c.requires.columns shown closed c.args.n c.args.row row w.0 w.1 _ c.in-Unary.a form.0 form.1

pub returns-in-Scan-clause-before : goal.returns-in-Scan-clause-before
returns-in-Scan-clause-before c =
    let w = form_given c.args.graph.now c.args.n c.form_of.result c.requires.place c.form_of.ensures in
    let form = subst (IsFormOf w.0.made w.0.args) c.in-Scan.is w.2 in
    one_below c.args.graph.now c.keeps_its_rules.ensures.made c.args.n c.in-Scan.a w.0 w.1 form.1

pub returns-in-Scan-clause-told : goal.returns-in-Scan-clause-told
returns-in-Scan-clause-told c = λ scalars carries work columns so_far f cut h block shown closed row.
    let w = form_given c.args.graph.now c.args.n c.form_of.result c.requires.place c.form_of.ensures in
    let form = subst (IsFormOf w.0.made w.0.args) c.in-Scan.is w.2 in
    scan_row block c.keeps_its_rules.ensures.made c.requires.columns shown closed c.args.n c.args.row row w.0 w.1 _ c.in-Scan.a form.0 form.1

pub returns-in-Binary-clause-before : goal.returns-in-Binary-clause-before
returns-in-Binary-clause-before c =
    let w = form_given c.args.graph.now c.args.n c.form_of.result c.requires.place c.form_of.ensures in
    let form = subst (IsFormOf w.0.made w.0.args) c.in-Binary.is w.2 in
    let l = two_below c.args.graph.now c.keeps_its_rules.ensures.made c.args.n c.in-Binary.a c.in-Binary.b w.0 w.1 form.1 in
    lead_before c.in-Binary.a c.in-Binary.b c.lead_of.result c.args.n l.0 l.1 (column_at c.args.graph.now c.args.table.now c.args.made.now c.in-Binary.a) c.lead_of.ensures.left c.lead_of.ensures.right

pub returns-in-Binary-clause-told : goal.returns-in-Binary-clause-told
returns-in-Binary-clause-told c = λ scalars carries work columns so_far f cut h block shown closed row.
    let w = form_given c.args.graph.now c.args.n c.form_of.result c.requires.place c.form_of.ensures in
    let form = subst (IsFormOf w.0.made w.0.args) c.in-Binary.is w.2 in
    binary_row block c.keeps_its_rules.ensures.made c.requires.columns shown closed c.args.n c.args.row row w.0 w.1 _ c.in-Binary.a c.in-Binary.b c.lead_of.result form.0 form.1 c.lead_of.ensures.left c.lead_of.ensures.right

pub returns-in-Filter-clause-before : goal.returns-in-Filter-clause-before
returns-in-Filter-clause-before c =
    let w = form_given c.args.graph.now c.args.n c.form_of.result c.requires.place c.form_of.ensures in
    let form = subst (IsFormOf w.0.made w.0.args) c.in-Filter.is w.2 in
    let l = two_below c.args.graph.now c.keeps_its_rules.ensures.made c.args.n c.in-Filter.a c.in-Filter.m w.0 w.1 form.1 in
    operand_before c.in-Filter.a c.args.n l.0 c.filtered_row.result c.filtered_row.ensures.of

pub returns-in-Filter-clause-told : goal.returns-in-Filter-clause-told
returns-in-Filter-clause-told c = λ scalars carries work columns so_far f cut h block shown closed row.
    let w = form_given c.args.graph.now c.args.n c.form_of.result c.requires.place c.form_of.ensures in
    let form = subst (IsFormOf w.0.made w.0.args) c.in-Filter.is w.2 in
    let t = filter_row block c.keeps_its_rules.ensures.made c.requires.columns shown closed c.args.n c.args.row row w.0 w.1 c.in-Filter.a c.in-Filter.m form.0 form.1 in
    subst (IsBack c.args.graph.now c.args.table.now c.args.made.now work h c.args.n c.args.row) (sym (c.filtered_row.ensures.told t.0 t.1 t.2 _ t.3)) (t.4, t.5)

pub returns-in-Other-clause-told : goal.returns-in-Other-clause-told
returns-in-Other-clause-told c = λ scalars carries work columns so_far f cut h block shown closed row.
    let w = form_given c.args.graph.now c.args.n c.form_of.result c.requires.place c.form_of.ensures in
    let form = subst (IsFormOf w.0.made w.0.args) c.in-Other.is w.2 in
    form f cut (block.can c.args.n w.0 w.1 (block.cut_work.there c.args.n row.among).0)
