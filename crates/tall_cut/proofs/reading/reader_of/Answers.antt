use Rattle.std.proofs.Common.{◌∙◌, Some, ap, rules, sym}
use Rattle.tall_scan.specs.Finding.{raw_delimiter}
use Rattle.tall_scan.specs.Texts.{text_left}
use Rattle.tall_scan.proofs.Texts.{text_fresh}
use Rattle.tall_cut.proofs.reading.reader_of.Goals as goal

pub returns-clause-left : goal.returns-clause-left
returns-clause-left c =
    text_fresh text_left c.from_reader.result (raw_delimiter c.args.raw.now) c.bytes.result.now (text_left c.new-text.result) (search rules) c.from_reader.ensures.state c.new-text.ensures
    c.from_reader.ensures.source ∙ ap Some (sym c.bytes.ensures)
