use Rattle.std.proofs.Common.{◌≡◌, ◌∙◌, ◌+◌, ◌++◌, ap, sym, map, Some, Ok, Err}
use Rattle.std.proofs.lemmas.List.{map_push}
use Rattle.tall_store.specs.declared.faults.ReadingFault.{ReadingFault}
use Rattle.tall_store.specs.Stored.{cells_at}
use Rattle.tall_store.proofs.PartRows.{cell_cells, cell_faults, fault_first, rest_of, value_is, value_of}
use Rattle.tall_store.proofs.columns.read_values.Goals as goal

pub returns-in-Err : goal.returns-in-Err
returns-in-Err g c =
    let value : Err c.in-Err.kind ≡ value_of c.args.store.now c.args.part.now c.args.place c.loop-i.i =
    value_is c.args.store.now c.args.part.now c.args.place c.loop-i.i g.R.FieldReader.format c.missing-missing.result.now c.field.result.now (Err c.in-Err.kind)
    c.requires.format c.missing-missing.ensures c.field.ensures c.in-Err.ensures in
    fault_first c.args.store.now c.args.part.now c.args.place c.loop-i.i c.in-Err.kind c.loop-i-test.true value c.loop-i.invariant.faults
    ∙ ap (λ (f : ReadingFault). Some f) (sym c.fault-fault.ensures)

pub loop-i-preserved : goal.loop-i-preserved
loop-i-preserved g c =
    let shown = g.R.Out.Operand.shown in
    let value : Ok (shown c.in-Ok-read.value) ≡ value_of c.args.store.now c.args.part.now c.args.place c.loop-i.i =
    value_is c.args.store.now c.args.part.now c.args.place c.loop-i.i g.R.FieldReader.format c.missing-missing.result.now c.field.result.now (Ok (shown c.in-Ok-read.value))
    c.requires.format c.missing-missing.ensures c.field.ensures c.in-Ok-read.ensures in
    record {
      room = c.push_reserved.ensures.capacity ∙ c.loop-i.invariant.room;
      len = c.push_reserved.ensures.len ∙ ap (λ n. n + 1) c.loop-i.invariant.len;
      missing = c.loop-i.invariant.missing;
      faults = cell_faults c.args.store.now c.args.part.now c.args.place c.loop-i.i (shown c.in-Ok-read.value) c.loop-i-test.true value c.loop-i.invariant.faults;
      cells = ap (λ cells. cells ++ cells_at c.args.store.now (rest_of c.args.part.now (c.loop-i.i + 1)) c.args.place)
          (ap (map shown) c.push_reserved.ensures.items ∙ map_push shown c.loop-i.values.items c.in-Ok-read.value)
          ∙ cell_cells c.args.store.now c.args.part.now c.args.place c.loop-i.i (shown c.in-Ok-read.value) (map shown c.loop-i.values.items) c.loop-i-test.true value c.loop-i.invariant.cells;
    }
