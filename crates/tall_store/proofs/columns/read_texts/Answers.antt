use Rattle.std.proofs.Common.{rules, ◌≡◌, ◌∙◌, ◌+◌, ◌++◌, ap, refl, sym, Some, Ok, Err}
use Rattle.tall_value.specs.Cells.{text}
use Rattle.tall_column.specs.Columns.{SeenColumn, with_cell}
use Rattle.tall_store.specs.declared.faults.ReadingFault.{ReadingFault}
use Rattle.tall_store.specs.declared.format.Format.TheVariants.{Text}
use Rattle.tall_store.specs.Stored.{cells_at}
use Rattle.tall_store.proofs.FieldReaders.{text_fault, text_read}
use Rattle.tall_store.proofs.PartRows.{cell_cells, cell_faults, fault_first, rest_of, value_is, value_of}
use Rattle.tall_store.proofs.columns.read_texts.Goals as goal

pub returns-in-Err : goal.returns-in-Err
returns-in-Err c =
    let value : Err c.in-Err.kind ≡ value_of c.args.store.now c.args.part.now c.args.place c.loop-i.i =
    value_is c.args.store.now c.args.part.now c.args.place c.loop-i.i Text c.args.store.now.missing c.field.result.now (Err c.in-Err.kind)
    (sym c.requires.format) refl c.field.ensures (text_fault c.args.store.now.missing c.field.result.now c.in-Err.kind c.in-Err.ensures) in
    fault_first c.args.store.now c.args.part.now c.args.place c.loop-i.i c.in-Err.kind c.loop-i-test.true value c.loop-i.invariant.faults
    ∙ ap (λ (f : ReadingFault). Some f) (sym c.fault-fault.ensures)

pub loop-i-preserved : goal.loop-i-preserved
loop-i-preserved c =
    let cell = text c.in-Ok.text.now in
    let value : Ok cell ≡ value_of c.args.store.now c.args.part.now c.args.place c.loop-i.i =
    value_is c.args.store.now c.args.part.now c.args.place c.loop-i.i Text c.args.store.now.missing c.field.result.now (Ok cell)
    (sym c.requires.format) refl c.field.ensures (text_read c.args.store.now.missing c.field.result.now c.in-Ok.text.now c.in-Ok.ensures) in
    let pushed : c.push.new.self ≡ with_cell c.loop-i.column cell = search rules in
    record {
      class = ap (λ (column : SeenColumn). column.class) pushed ∙ c.loop-i.invariant.class;
      faults = cell_faults c.args.store.now c.args.part.now c.args.place c.loop-i.i cell c.loop-i-test.true value c.loop-i.invariant.faults;
      cells = ap (λ (column : SeenColumn). column.cells ++ cells_at c.args.store.now (rest_of c.args.part.now (c.loop-i.i + 1)) c.args.place) pushed
          ∙ cell_cells c.args.store.now c.args.part.now c.args.place c.loop-i.i cell c.loop-i.column.cells c.loop-i-test.true value c.loop-i.invariant.cells;
    }
