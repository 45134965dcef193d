use Rattle.std.proofs.Common.{◌≡◌, [], rules, subst, sym}
use Rattle.tall_walk.specs.Events.{blocks_in}
use Rattle.tall_pass.specs.Taken.{IsJoining}
use Rattle.tall_pass.specs.Takers.{shared_inputs}
use Rattle.tall_pass.proofs.TakerLaws.{all_worked, are_joining, are_made, may_be_made}
use Rattle.tall_pass.proofs.taker.Taker.work_off.Goals as goal

pub call-requires : goal.call-requires
call-requires g c =
    may_be_made (shared_inputs c.args.self.now.shared) _ _ g.K.PassGiven.counts c.args.self.now.joined c.args.self.now.window.items c.args.self.now.counts c.requires.0 c.as_slice.result c.as_slice.ensures.value c.requires.1.1 c.requires.1.2

pub join_pieces-requires : goal.join_pieces-requires
join_pieces-requires g c =
    let w = shared_inputs c.args.self.now.shared in
    let t = c.requires.1.2 in
    let are = are_made w _ _ g.K.PassGiven.counts c.args.self.now.joined c.args.self.now.window.items c.args.self.now.counts c.requires.0 c.as_slice.result c.as_slice.ensures.value c.requires.1.1 t c.in-Ok.pieces c.in-Ok.ensures in (
      w,
      blocks_in c.requires.0,
      subst (λ j. IsJoining w (blocks_in c.requires.0) j c.in-Ok.pieces.items) (sym c.replace-joined.ensures.value)
          (are_joining w g.K.PassGiven.counts c.args.self.now.joined c.args.self.now.window.items c.args.self.now.counts c.requires.0 c.in-Ok.pieces.items t are),
    )

pub returns-in-Err-clause-ends : goal.returns-in-Err-clause-ends
returns-in-Err-clause-ends g c = λ events t.
    let w = shared_inputs c.args.self.now.shared in
    let are = are_made w _ _ g.K.PassGiven.counts c.args.self.now.joined c.args.self.now.window.items c.args.self.now.counts events c.as_slice.result c.as_slice.ensures.value t.1 t.2 c.in-Ok.pieces c.in-Ok.ensures in
    c.in-Err.ensures.ends w (blocks_in events)
    (subst (λ j. IsJoining w (blocks_in events) j c.in-Ok.pieces.items) (sym c.replace-joined.ensures.value)
    (are_joining w g.K.PassGiven.counts c.args.self.now.joined c.args.self.now.window.items c.args.self.now.counts events c.in-Ok.pieces.items t.2 are))

pub returns-in-Ok-join_pieces-clause-goes : goal.returns-in-Ok-join_pieces-clause-goes
returns-in-Ok-join_pieces-clause-goes g c = λ events t.
    let w = shared_inputs c.args.self.now.shared in
    let are = are_made w _ _ g.K.PassGiven.counts c.args.self.now.joined c.args.self.now.window.items c.args.self.now.counts events c.as_slice.result c.as_slice.ensures.value t.1 t.2 c.in-Ok.pieces c.in-Ok.ensures in
    let none : c.replace.new.dest.items ≡ [] = search rules in
    let joining = subst (λ j. IsJoining w (blocks_in events) j c.in-Ok.pieces.items) (sym c.replace-joined.ensures.value)
    (are_joining w g.K.PassGiven.counts c.args.self.now.joined c.args.self.now.window.items c.args.self.now.counts events c.in-Ok.pieces.items t.2 are) in (
      t.0,
      t.1,
      all_worked w g.K.PassGiven.counts c.args.self.now.joined c.in-Ok-join_pieces.more c.args.self.now.window.items c.replace.new.dest.items c.args.self.now.counts events t.2 none (c.in-Ok-join_pieces.ensures.goes w (blocks_in events) joining),
    )
