use Rattle.csv.specs.Records.{fields_of}
use Rattle.tall_scan.specs.Texts.{text_left}
use Rattle.tall_scan.proofs.Rows.{cutting_ready, read_ends, read_takes}
use Rattle.tall_cut.proofs.reading.read_row.Goals as goal

pub returns-in-Ok-true-clause-takes : goal.returns-in-Ok-true-clause-takes
returns-in-Ok-true-clause-takes c =
    let read = rw c.in-Ok-true.field-0-test at (c.in-Ok-true.ensures.reads c.requires.0 (cutting_ready c.args.reader.now c.requires)) in
    read_takes text_left c.args.reader.now c.read_byte_record.new.self (fields_of c.read_byte_record.new.row) read

pub returns-in-Ok-false-clause-takes : goal.returns-in-Ok-false-clause-takes
returns-in-Ok-false-clause-takes c =
    let read = rw c.in-Ok-false.field-0-test at (c.in-Ok-false.ensures.reads c.requires.0 (cutting_ready c.args.reader.now c.requires)) in
    read_ends text_left c.args.reader.now c.read_byte_record.new.self (fields_of c.read_byte_record.new.row) read
