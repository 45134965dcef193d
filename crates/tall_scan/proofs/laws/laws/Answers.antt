use Rattle.tall_scan.proofs.Cutting.{counts_ends, cuts_between}
use Rattle.tall_scan.proofs.Following.{scan_counts, scan_cuts}
use Rattle.tall_scan.proofs.laws.laws.Goals as goal

pub returns-clause-cuts : goal.returns-clause-cuts
returns-clause-cuts c = cuts_between

pub returns-clause-counts : goal.returns-clause-counts
returns-clause-counts c = counts_ends

pub returns-clause-scan_cuts : goal.returns-clause-scan_cuts
returns-clause-scan_cuts c = scan_cuts

pub returns-clause-scan_counts : goal.returns-clause-scan_counts
returns-clause-scan_counts c = scan_counts
