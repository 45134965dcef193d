use Rattle.std.proofs.Common.{rules}
use Rattle.tall_pass.proofs.EndingLaws.{sum_carries_fit, sum_carries_tell, sum_rows_fit, sum_rows_tell}
use Rattle.tall_pass.proofs.endings.sum_ending.Goals as goal

pub returns-in-Carries-clause-fits : goal.returns-in-Carries-clause-fits
returns-in-Carries-clause-fits c = sum_carries_fit c.args.graph.now c.args.wanted.now c.args.sum c.in-Carries._next c.in-Carries.cells c.in-Carries.is c.requires.fits

pub returns-in-Carries-clause-tells : goal.returns-in-Carries-clause-tells
returns-in-Carries-clause-tells c = sum_carries_tell c.args.graph.now c.args.wanted.now c.args.sum c.in-Carries._next c.in-Carries.cells c.in-Carries.is

pub returns-in-Rows-clause-fits : goal.returns-in-Rows-clause-fits
returns-in-Rows-clause-fits c = sum_rows_fit c.args.graph.now c.args.wanted.now c.args.sum (record { column = c.in-Rows.column; rows = c.new.result }) c.in-Rows.is (search rules) c.requires.fits

pub returns-in-Rows-clause-tells : goal.returns-in-Rows-clause-tells
returns-in-Rows-clause-tells c = sum_rows_tell c.args.graph.now c.args.wanted.now c.args.sum (record { column = c.in-Rows.column; rows = c.new.result }) c.in-Rows.is (search rules)
