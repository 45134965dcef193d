use Rattle.std.proofs.Common.{rules, ◌+◌, ℕ, List, Bool, false, set, sym, subst, arith}
use Rattle.std.specs.Slots.{slots_items, slots_filled}
use Rattle.tall_board.proofs.Taking.{Taking, is_there, one_taken}
use Rattle.tall_board.proofs.closing.collect.Goals as goal

pub unreachable-requires : goal.unreachable-requires
unreachable-requires g c =
    let closed = c.loop-place.closed in
    is_there (g.T.Right.right c.args.task.now) c.args.places c.loop-place.place (slots_items c.args.closed.slots) (slots_items closed.slots) (slots_filled closed.slots) c.loop-place.pieces.items
    c.loop-place.invariant.3 c.requires.right c.loop-place-test.true c.in_default.ensures.value

pub loop-place-preserved : goal.loop-place-preserved
loop-place-preserved g c =
    let closed = c.loop-place.closed in
    let right : ℕ → g.row.T-Piece.Denot → Type 0 = g.T.Right.right c.args.task.now in
    let t = one_taken right c.args.places c.loop-place.place (slots_items c.args.closed.slots) (slots_items closed.slots) (slots_filled closed.slots) c.loop-place.pieces.items
    c.loop-place.invariant.3 c.requires.right c.loop-place-test.true c.in-Some.piece (slots_items c.take.new.self.slots) c.in-Some.ensures.others.0 c.in-Some.ensures.value
    (let a = closed.slots.ok.1 in let b = c.loop-place.invariant.2 in omega arith) in (
      search rules,
      search rules,
      search rules,
      subst (λ (f : List Bool). Taking right c.args.places (c.loop-place.place + 1) (slots_items c.args.closed.slots) (slots_items c.take.new.self.slots) f c.push_reserved.new.self.items) (sym {A = List Bool} c.in-Some.ensures.others.1)
          (subst (λ (l : List g.row.T-Piece.Denot). Taking right c.args.places (c.loop-place.place + 1) (slots_items c.args.closed.slots) (slots_items c.take.new.self.slots) (set (slots_filled closed.slots) c.loop-place.place false) l) (sym {A = List g.row.T-Piece.Denot} c.push_reserved.ensures.items) t),
    )
