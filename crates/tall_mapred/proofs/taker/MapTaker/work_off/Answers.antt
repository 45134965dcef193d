use Rattle.std.proofs.Common.{◌≡◌, [], refl, rules}
use Rattle.tall_mapred.specs.declared.faults.MapFault.TheVariants.{Memory}
use Rattle.tall_mapred.proofs.WalkLaws.{may_call, memory_ends, worked_off, worked_to_a_fault}
use Rattle.tall_mapred.proofs.taker.MapTaker.work_off.Goals as goal

pub call-requires : goal.call-requires
call-requires g c =
    let t = c.args.self.now in
    may_call g.K.MapGiven.given (goal.C-pre g t.call.now) (goal.C-post g t.call.now) t.most t.pairs c.as_slice.result t.window.items c.requires.0 c.as_slice.ensures.value c.requires.1

pub returns-in_default-clause-ends : goal.returns-in_default-clause-ends
returns-in_default-clause-ends g c = λ events taken.
    let t = c.args.self.now in
    memory_ends g.K.MapGiven.given (goal.C-pre g t.call.now) (goal.C-post g t.call.now) t.most 0 t.pairs t.window.items events events Memory refl taken

pub returns-in-Err-clause-ends : goal.returns-in-Err-clause-ends
returns-in-Err-clause-ends g c = λ events taken.
    let t = c.args.self.now in
    worked_to_a_fault g.K.MapGiven.given (goal.C-pre g t.call.now) (goal.C-post g t.call.now) t.most t.pairs c.as_slice.result t.window.items events c.in-Ok.pieces c.in-Err.fault c.as_slice.ensures.value c.in-Ok.ensures
    (λ d wants come. c.in-Err.ensures.appends d wants come) c.in-Err.ensures.fault taken

pub returns-in-Ok-append_pieces-clause-goes : goal.returns-in-Ok-append_pieces-clause-goes
returns-in-Ok-append_pieces-clause-goes g c = λ events taken.
    let t = c.args.self.now in
    let none : c.replace.new.dest.items ≡ [] = search rules in
    worked_off g.K.MapGiven.given (goal.C-pre g t.call.now) (goal.C-post g t.call.now) t.most t.pairs c.append_pieces.new.pairs c.as_slice.result t.window.items c.replace.new.dest.items events c.in-Ok.pieces c.as_slice.ensures.value c.in-Ok.ensures none
    (λ d wants come rest. c.in-Ok-append_pieces.ensures.appends d wants come rest) taken
