use Rattle.std.proofs.Common.{rules, ◌≡◌, subst, true, false}
use Rattle.std.specs.Prelude.{Err, Ok, Some, option_map}
use Rattle.tall_store.specs.Taking.{TakesNext}
use Rattle.csv.specs.Records.{fields_of}
use Rattle.tall_cut.specs.Cuts.{cutter_left}
use Rattle.tall_store.specs.Chosen.{chosen_seen}
use Rattle.tall_store.proofs.Told.{told_free, told_one, told_plain, told_two}
use Rattle.tall_store.proofs.open.open_left.Goals as goal

pub returns-in-Err-clause-told : goal.returns-in-Err-clause-told
returns-in-Err-clause-told g c = told_free (cutter_left c.args.cutter.now) (chosen_seen c.args.chosen) (Err c.in-Err.fault) c.in-Err.ensures.free

pub returns-in-Ok-clause-told : goal.returns-in-Ok-clause-told
returns-in-Ok-clause-told g c =
    let took : TakesNext (cutter_left c.args.cutter.now) (cutter_left c.next_record.new.cutter) (Ok (Some (fields_of c.in-Ok-Some.first))) =
    subst (λ o. TakesNext (cutter_left c.args.cutter.now) (cutter_left c.next_record.new.cutter) (Ok (option_map fields_of o))) c.in-Ok-Some.field-0-is c.in-Ok-Some.ensures.took in
    let same : fields_of c.in-Ok.fields ≡ fields_of c.in-Ok-Some.first = search rules in
    let header : c.args.chosen.header ≡ false = search rules in
    told_plain (cutter_left c.args.cutter.now) (cutter_left c.next_record.new.cutter) (chosen_seen c.args.chosen) (fields_of c.in-Ok-Some.first) (fields_of c.in-Ok.fields) _
    took header same c.open_first.ensures.due

pub returns-in-Ok-Some-next_record-clause-told : goal.returns-in-Ok-Some-next_record-clause-told
returns-in-Ok-Some-next_record-clause-told g c =
    let took : TakesNext (cutter_left c.args.cutter.now) (cutter_left c.next_record.new.cutter) (Ok (Some (fields_of c.in-Ok-Some.first))) =
    subst (λ o. TakesNext (cutter_left c.args.cutter.now) (cutter_left c.next_record.new.cutter) (Ok (option_map fields_of o))) c.in-Ok-Some.field-0-is c.in-Ok-Some.ensures.took in
    let header : c.args.chosen.header ≡ true = search rules in
    told_two (cutter_left c.args.cutter.now) (cutter_left c.next_record.new.cutter) (cutter_left c.next_record-2.new.cutter) (chosen_seen c.args.chosen)
    (fields_of c.in-Ok-Some.first) (fields_of c.in-Ok-Some-next_record.fields) _
    took (subst (λ o. TakesNext (cutter_left c.next_record.new.cutter) (cutter_left c.next_record-2.new.cutter) (Ok (option_map fields_of o))) c.in-Ok-Some-next_record.field-0-is c.in-Ok-Some-next_record.ensures.took) header c.open_first-in-Ok-Some-next_record.ensures.due

pub returns-in-Ok-None-next_record-clause-told : goal.returns-in-Ok-None-next_record-clause-told
returns-in-Ok-None-next_record-clause-told g c =
    let took : TakesNext (cutter_left c.args.cutter.now) (cutter_left c.next_record.new.cutter) (Ok (Some (fields_of c.in-Ok-Some.first))) =
    subst (λ o. TakesNext (cutter_left c.args.cutter.now) (cutter_left c.next_record.new.cutter) (Ok (option_map fields_of o))) c.in-Ok-Some.field-0-is c.in-Ok-Some.ensures.took in
    let header : c.args.chosen.header ≡ true = search rules in
    told_one (cutter_left c.args.cutter.now) (cutter_left c.next_record.new.cutter) (cutter_left c.next_record-2.new.cutter) (chosen_seen c.args.chosen)
    (fields_of c.in-Ok-Some.first) (fields_of c.new.result) _
    took (subst (λ o. TakesNext (cutter_left c.next_record.new.cutter) (cutter_left c.next_record-2.new.cutter) (Ok (option_map fields_of o))) c.in-Ok-None-next_record.field-0-is c.in-Ok-None-next_record.ensures.took) header c.new.ensures.fields c.open_first-in-Ok-None-next_record-2.ensures.due

pub returns-in-Err-next_record-clause-told : goal.returns-in-Err-next_record-clause-told
returns-in-Err-next_record-clause-told g c = told_free (cutter_left c.args.cutter.now) (chosen_seen c.args.chosen) (Err c.in-Err-next_record.fault) c.in-Err-next_record.ensures.free
