use Rattle.std.proofs.Common.{◌≡◌, inl, inr, rules, subst, sym}
use Rattle.std.specs.Vec.Iter.{into_iter_items}
use Rattle.tall_mapred.specs.Pieces.{IsFaultOfOne}
use Rattle.tall_mapred.proofs.WindowLaws.{all_left, none_left, one_appended, one_ends}
use Rattle.tall_mapred.proofs.joining.append_pieces.Goals as goal

pub loop-piece-init : goal.loop-piece-init
loop-piece-init c =
    let e : into_iter_items c.into_iter-pieces.result ≡ c.args.pieces.items = search rules in
    (λ d wants come. all_left d wants c.args.pairs.now c.args.pieces.items (into_iter_items c.into_iter-pieces.result) e come, λ fault is. subst (λ ps. IsFaultOfOne ps fault) e is)

pub loop-piece-preserved : goal.loop-piece-preserved
loop-piece-preserved c = (
  λ d wants come. one_appended d wants c.args.pairs.now c.loop-piece.pairs c.append_piece.new.pairs c.in-Some.piece (into_iter_items c.next_piece.new.pieces) (into_iter_items c.loop-piece.pieces) c.in-Some.ensures.some
      (c.loop-piece.invariant.0 d wants come) (λ want w rest. c.in-Ok.ensures.appends d want w rest),
  λ fault is. c.loop-piece.invariant.1 fault (subst (λ ps. IsFaultOfOne ps fault) (sym c.in-Some.ensures.some) (inr is)),
)

pub returns-in-Err-clause-appends : goal.returns-in-Err-clause-appends
returns-in-Err-clause-appends c d wants come =
    one_ends d wants c.args.pairs.now c.loop-piece.pairs c.in-Some.piece (into_iter_items c.next_piece.new.pieces) (into_iter_items c.loop-piece.pieces) c.in-Err.fault c.in-Some.ensures.some (c.loop-piece.invariant.0 d wants come)
    (λ want w. c.in-Err.ensures.appends d want w)

pub returns-in-Err-clause-fault : goal.returns-in-Err-clause-fault
returns-in-Err-clause-fault c = c.loop-piece.invariant.1 c.in-Err.fault (subst (λ ps. IsFaultOfOne ps c.in-Err.fault) (sym c.in-Some.ensures.some) (inl c.in-Err.ensures.fault))

pub returns-clause-appends : goal.returns-clause-appends
returns-clause-appends c d wants come = none_left d wants c.args.pairs.now c.loop-piece.pairs (into_iter_items c.loop-piece.pieces) c.in_default.ensures.none (c.loop-piece.invariant.0 d wants come)
