use Rattle.std.proofs.Common.{Err, sym, subst}
use Rattle.tall_store.specs.FileEnds.{IsTooLong}
use Rattle.tall_outside.specs.ShelfCounts.{shelf_counts}
use Rattle.tall_mapred.specs.Answers.{IsExplained, IsLonger, OpensFiles, Tells}
use Rattle.tall_environment.specs.declared.failures.Failure.TheVariants as failure
use Rattle.tall_environment.specs.Failures.{IsOpened}
use Rattle.tall_environment.specs.MoveLaws.{inside_blames}
use Rattle.tall_fun.specs.Faults.{refusal_at}
use Rattle.tall_mapred.specs.declared.faults.MapFault.TheVariants as fault
use Rattle.tall_script.specs.ReadingFaults.{stop_of_reading}
use Rattle.tall_script_calls.proofs.ReadingLaws.{reading_blames}
use Rattle.tall_script_calls.proofs.ReductionFaults.{is_opened, large_blames, large_stops, read_blames, read_stops, reading_stops, refused_stops}
use Rattle.tall_script_calls.proofs.reducing.map_failure.Goals as goal

pub returns-in-At-clause-stops : goal.returns-in-At-clause-stops
returns-in-At-clause-stops g c d want same line h =
    let k = subst (λ x. Tells d want (Err x)) c.in-At.is h in
    refused_stops want c.in-At.line (refusal_at c.in-At.row c.in-At.kind) c.refusal_of.result k.0 c.refusal_of.ensures.seen

pub returns-in-At-clause-blames : goal.returns-in-At-clause-blames
returns-in-At-clause-blames g c before now explained opens longer =
    inside_blames g.S.Shelf before now (failure.Refused c.in-At.line c.refusal_of.result) c.refusal_of.ensures.within

pub returns-in-Reading-clause-stops : goal.returns-in-Reading-clause-stops
returns-in-Reading-clause-stops g c d want same line h =
    let k = subst (λ x. Tells d want (Err x)) c.in-Reading.is h in
    reading_stops want (stop_of_reading d c.in-Reading.fault) c.reading_failure.result k (λ stop named. c.reading_failure.ensures.stops d stop same line named)

pub returns-in-Reading-clause-blames : goal.returns-in-Reading-clause-blames
returns-in-Reading-clause-blames g c before now explained opens longer =
    let why = subst (λ x. IsExplained (Err x) (shelf_counts g.S.Shelf before) (shelf_counts g.S.Shelf now)) c.in-Reading.is explained in
    let first = subst (λ x. OpensFiles c.args.store.now.files (Err x) (g.S.Shelf.opened before) (g.S.Shelf.opened now)) c.in-Reading.is opens in
    reading_blames g.S.Shelf before now c.in-Reading.fault.kind why c.reading_failure.result c.reading_failure.ensures.kind

pub returns-in-Read-clause-stops : goal.returns-in-Read-clause-stops
returns-in-Read-clause-stops g c d want same line h =
    let k = subst (λ x. Tells d want (Err x)) c.in-Read.is h in
    read_stops want c.file_name.result.now c.not_read.result c.not_read.ensures

pub returns-in-Read-clause-blames : goal.returns-in-Read-clause-blames
returns-in-Read-clause-blames g c before now explained opens longer =
    let why = subst (λ x. IsExplained (Err x) (shelf_counts g.S.Shelf before) (shelf_counts g.S.Shelf now)) c.in-Read.is explained in
    let first = subst (λ x. OpensFiles c.args.store.now.files (Err x) (g.S.Shelf.opened before) (g.S.Shelf.opened now)) c.in-Read.is opens in
    read_blames g.S.Shelf c.file_name.result.now before now (subst (λ n. IsOpened g.S.Shelf n before now) (sym c.file_name.ensures) (is_opened g.S.Shelf c.args.store.now.files c.in-Read.file (Err (fault.Read c.in-Read.file)) before now first first.named))
    c.not_read.result c.not_read.ensures why

pub returns-in-TooLarge-clause-stops : goal.returns-in-TooLarge-clause-stops
returns-in-TooLarge-clause-stops g c d want same line h =
    large_stops want c.file_name-in-TooLarge.result.now c.too_large.result c.too_large.ensures

pub returns-in-TooLarge-clause-blames : goal.returns-in-TooLarge-clause-blames
returns-in-TooLarge-clause-blames g c before now explained opens longer =
    let why = subst (λ x. IsExplained (Err x) (shelf_counts g.S.Shelf before) (shelf_counts g.S.Shelf now)) c.in-TooLarge.is explained in
    let first = subst (λ x. OpensFiles c.args.store.now.files (Err x) (g.S.Shelf.opened before) (g.S.Shelf.opened now)) c.in-TooLarge.is opens in
    large_blames g.S.Shelf c.file_name-in-TooLarge.result.now before now (subst (λ n. IsOpened g.S.Shelf n before now) (sym c.file_name-in-TooLarge.ensures) (is_opened g.S.Shelf c.args.store.now.files c.in-TooLarge.file (Err (fault.TooLarge c.in-TooLarge.file)) before now first first.named))
    c.too_large.result c.too_large.ensures why (λ files is. subst (IsTooLong files) (sym c.file_name-in-TooLarge.ensures) (subst (λ x. IsLonger c.args.store.now files (Err x)) c.in-TooLarge.is (longer files is)))
