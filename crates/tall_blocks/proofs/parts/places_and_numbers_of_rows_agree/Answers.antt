use Rattle.tall_blocks.proofs.RowPlaceLaws.{each_counted, pair_counted, scan_counted, renumbered_cells, kept_cells, kept_number}
use Rattle.tall_blocks.proofs.parts.places_and_numbers_of_rows_agree.Goals as goal

pub returns-clause-one : goal.returns-clause-one
returns-clause-one c = each_counted

pub returns-clause-two : goal.returns-clause-two
returns-clause-two c = pair_counted

pub returns-clause-scans : goal.returns-clause-scans
returns-clause-scans c = scan_counted

pub returns-clause-same_cells : goal.returns-clause-same_cells
returns-clause-same_cells c = renumbered_cells

pub returns-clause-kept_cells : goal.returns-clause-kept_cells
returns-clause-kept_cells c = kept_cells

pub returns-clause-kept_numbers : goal.returns-clause-kept_numbers
returns-clause-kept_numbers c = kept_number
