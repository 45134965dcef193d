use Rattle.std.proofs.Common.{◌≡◌, List, rules, subst, sym}
use Rattle.std.specs.Vec.Iter.{into_iter_items}
use Rattle.tall_store.specs.Blocks.{Block}
use Rattle.tall_pass.specs.Taken.{Inputs, IsJoining}
use Rattle.tall_pass.proofs.JoiningLaws.{IsNext, all_joined, next_ends, next_joined, next_of}
use Rattle.tall_pass.proofs.joining.join_pieces.Goals as goal

pub loop-piece-init : goal.loop-piece-init
loop-piece-init c =
    let e : into_iter_items c.into_iter-pieces.result ≡ c.args.pieces.items = search rules in
    ((c.requires.0, c.requires.1, subst (IsJoining c.requires.0 c.requires.1 c.args.joined) (sym e) c.requires.2), λ w blocks i. subst (IsJoining w blocks c.args.joined) (sym e) i)

pub join_piece-requires : goal.join_piece-requires
join_piece-requires c =
    let i = c.loop-piece.invariant.0 in
    let n : IsNext i.0 i.1 c.loop-piece.all c.in-Some.piece (into_iter_items c.next_piece.new.pieces) =
    next_of i.0 i.1 c.loop-piece.all c.in-Some.piece (into_iter_items c.next_piece.new.pieces) (into_iter_items c.loop-piece.pieces) c.in-Some.ensures.some i.2 in
    (i.0, n.front, n.block, n.joined, n.right)

pub loop-piece-preserved : goal.loop-piece-preserved
loop-piece-preserved c =
    let i = c.loop-piece.invariant.0 in
    let go : (w : Inputs) (blocks : List Block) → IsJoining w blocks c.loop-piece.all (into_iter_items c.loop-piece.pieces) → IsJoining w blocks c.in-Ok.more (into_iter_items c.next_piece.new.pieces) =
    (λ w blocks j.
    let n : IsNext w blocks c.loop-piece.all c.in-Some.piece (into_iter_items c.next_piece.new.pieces) =
    next_of w blocks c.loop-piece.all c.in-Some.piece (into_iter_items c.next_piece.new.pieces) (into_iter_items c.loop-piece.pieces) c.in-Some.ensures.some j in
    next_joined w blocks c.loop-piece.all c.in-Ok.more c.in-Some.piece (into_iter_items c.next_piece.new.pieces) n (c.in-Ok.ensures.goes w n.front n.block n.joined n.right)) in
    ((i.0, i.1, go i.0 i.1 i.2), λ w blocks j. go w blocks (c.loop-piece.invariant.1 w blocks j))

pub returns-in-Err-clause-ends : goal.returns-in-Err-clause-ends
returns-in-Err-clause-ends c = λ w blocks j.
    let n : IsNext w blocks c.loop-piece.all c.in-Some.piece (into_iter_items c.next_piece.new.pieces) =
    next_of w blocks c.loop-piece.all c.in-Some.piece (into_iter_items c.next_piece.new.pieces) (into_iter_items c.loop-piece.pieces) c.in-Some.ensures.some (c.loop-piece.invariant.1 w blocks j) in
    next_ends w blocks c.loop-piece.all c.in-Some.piece (into_iter_items c.next_piece.new.pieces) n c.in-Err.fault (c.in-Err.ensures.ends w n.front n.block n.right)

pub returns-clause-goes : goal.returns-clause-goes
returns-clause-goes c = λ w blocks j. all_joined w blocks c.loop-piece.all (into_iter_items c.loop-piece.pieces) c.in_default.ensures.none (c.loop-piece.invariant.1 w blocks j)
