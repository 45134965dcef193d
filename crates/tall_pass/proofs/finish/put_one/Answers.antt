use Rattle.std.specs.Prelude.{Result, Ok, Err, IfOk, OnOk}
use Rattle.tall_pass.proofs.EndingLaws.{if_ok}
use Rattle.tall_pass.specs.Endings.{PutsCells, PutsOne}
use Rattle.std.specs.Prelude.{length}
use Rattle.tall_pass.proofs.PuttingLaws.{carries_put, failed_put, found_put, nothing_put}
use Rattle.tall_pass.proofs.finish.put_one.Goals as goal

on_ok : {A E P Q : Type 0} (r : Result A E) → (P → Q) → OnOk r P → IfOk r (λ x. Q)
on_ok (Ok x) to h = to h
on_ok (Err e) to h = h

pub returns-in-Found : goal.returns-in-Found
returns-in-Found c = on_ok c.put.result (λ put. found_put c.args.ended c.in-Found.result c.args.known.now c.put.new.self c.in-Found.is put c.put.ensures.carries) c.put.ensures.put

pub returns-in-Carries : goal.returns-in-Carries
returns-in-Carries c =
    if_ok (λ x. PutsCells c.args.ended.node (length c.in-Carries.cells.cells) c.in-Carries.cells c.args.known.now c.put_carries.new.known) (λ x. PutsOne c.args.ended c.args.known.now c.put_carries.new.known) c.put_carries.result
    (λ x puts. carries_put c.args.ended c.in-Carries.cells c.args.known.now c.put_carries.new.known c.in-Carries.is puts) c.put_carries.ensures

pub returns-in-Failed : goal.returns-in-Failed
returns-in-Failed c = failed_put c.args.ended c.in-Failed.field-0 c.args.known.now c.in-Failed.is

pub returns-in-Nothing : goal.returns-in-Nothing
returns-in-Nothing c = nothing_put c.args.ended c.args.known.now c.in-Nothing.is
