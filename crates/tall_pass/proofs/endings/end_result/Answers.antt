use Rattle.std.specs.Prelude.{slice_get}
use Rattle.std.proofs.Common.{ap, sym, ◌∙◌}
use Rattle.tall_pass.specs.Endings.{FitsEnding, IsEndingOf, TellsEnding}
use Rattle.tall_piece.specs.declared.parts.Sum.TheVariants as sum
use Rattle.tall_pass.proofs.EndingLaws.{column_there, fault_fits, fault_shows, found_fits, found_shows, if_ok, some_part}
use Rattle.tall_pass.proofs.endings.end_result.Goals as goal

pub finish-requires : goal.finish-requires
finish-requires c = some_part c.args.graph.now c.args.wanted.now.way c.args.part c.requires.fits.0 c.requires.fits.1

pub column_at-requires : goal.column_at-requires
column_at-requires c =
    let t = column_there c.args.graph.now c.keeps_its_rules.ensures.made c.args.wanted.now.node c.args.wanted.now.way c.args.part c.op_of.result.now c.in-Ok.columns.items c.requires.fits.0 c.requires.way c.requires.fits.1 c.op_of.ensures c.in-Ok.ensures.classes in
    (t.0, ap (slice_get c.in-Ok.columns.items) c.column_number-place.ensures ∙ t.1)

pub returns-in-Ok-clause-fits : goal.returns-in-Ok-clause-fits
returns-in-Ok-clause-fits c =
    found_fits c.args.graph.now c.keeps_its_rules.ensures.made c.args.wanted.now.node c.args.wanted.now.way c.args.part c.op_of.result.now c.in-Ok.columns.items c.column_at.result c.requires.fits.0 c.requires.way c.requires.fits.1 c.requires.fits.2 c.op_of.ensures
    c.in-Ok.ensures.classes c.in-Ok.ensures.heights (ap (slice_get c.in-Ok.columns.items) (sym c.column_number-place.ensures) ∙ c.column_at.ensures)

pub returns-in-Ok-clause-tells : goal.returns-in-Ok-clause-tells
returns-in-Ok-clause-tells c =
    found_shows c.args.graph.now c.keeps_its_rules.ensures.made c.args.wanted.now.node c.args.wanted.now.way c.args.part c.op_of.result.now c.number_of.result c.line_of.result c.in-Ok.columns.items c.column_at.result c.requires.way c.op_of.ensures
    c.number_of.ensures c.line_of.ensures c.in-Ok.ensures.outcomes (ap (slice_get c.in-Ok.columns.items) (sym c.column_number-place.ensures) ∙ c.column_at.ensures)

pub returns-in-Err-clause-fits : goal.returns-in-Err-clause-fits
returns-in-Err-clause-fits c =
    if_ok (IsEndingOf c.in-Err.fault) (FitsEnding c.args.graph.now c.args.wanted.now) c.fault_ending.result
    (λ g of. fault_fits c.args.graph.now c.args.wanted.now c.args.part c.number_of.result c.line_of.result c.requires.fits.0 c.in-Err.fault g c.requires.way c.requires.fits.1 c.number_of.ensures c.in-Err.ensures.fault of) c.fault_ending.ensures

pub returns-in-Err-clause-tells : goal.returns-in-Err-clause-tells
returns-in-Err-clause-tells c =
    if_ok (IsEndingOf c.in-Err.fault) (TellsEnding c.args.graph.now c.args.wanted.now (sum.End c.args.part)) c.fault_ending.result
    (λ g of. fault_shows c.args.graph.now c.args.wanted.now.node c.args.wanted.now.way c.args.part c.number_of.result c.line_of.result c.in-Err.fault g c.requires.way c.number_of.ensures c.line_of.ensures c.in-Err.ensures.fault of) c.fault_ending.ensures
