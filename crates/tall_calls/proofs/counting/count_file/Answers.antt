use Rattle.tall_store.specs.FileEnds.{walked_file}
use Rattle.tall_store.specs.FileSteps.{rows_left}
use Rattle.tall_store.proofs.FileLemmas.{all_counted}
use Rattle.tall_calls.proofs.counting.count_file.Goals as goal

pub returns-in-Ok-clause-all : goal.returns-in-Ok-clause-all
returns-in-Ok-clause-all g c = λ n is.
    all_counted g.K.OpenedFile.held (λ files. walked_file c.args.store.now files c.args.file c.args.row) (rows_left c.in-Ok.rows) n c.in-Ok.ensures.told (c.count_left.ensures.all n is)
