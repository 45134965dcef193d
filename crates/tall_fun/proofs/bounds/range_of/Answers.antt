use Rattle.std.proofs.Common.{◌∙◌, sym, ap, subst}
use Rattle.std.specs.Prelude.{ℤ, Option}
use Rattle.tall_grammar.specs.Views.{tree_of}
use Rattle.tall_local.specs.Calls.{Ran, bounds_of, or_break, turns_between, with_local}
use Rattle.tall_local.specs.Locals.{Held, Locals}
use Rattle.tall_fun.specs.Bounds.{bound_seen, ranged}
use Rattle.tall_fun.specs.Frames.{Goes, double_in, frame_state}
use Rattle.tall_fun.specs.Values.{held_seen}
use Rattle.tall_fun.specs.declared.bounds.Range.{Range}
use Rattle.tall_fun.proofs.FrameLemmas.{same_after, with_given}
use Rattle.tall_fun.proofs.LoopLemmas.{bounds_are}
use Rattle.tall_fun.proofs.bounds.range_of.Goals as goal

pub returns-in-Ok : goal.returns-in-Ok
returns-in-Ok c = λ f.
    let kv = c.args.values.now.cells in
    let to = tree_of c.args.to.now in
    let line = c.args.line in
    let last : Held → Held → Locals → Ran = λ x y u. or_break line u (bounds_of x y) (λ b. f b.0 (turns_between b.0 b.1) u) in
    let seen_last : Option (Option ℤ) → Held → Locals → Ran = λ o y u. or_break line u (ranged o (double_in y)) (λ b. f b.0 (turns_between b.0 b.1) u) in
    let x = held_seen c.in-Ok.from in
    let t = frame_state c.value_of.new.frame in
    subst (λ w. Goes {A = Range} w (λ r t. f r.first r.turns t) c.range_up_to.result (frame_state c.range_up_to.new.frame))
    (sym (with_given kv (tree_of c.args.from.now) (frame_state c.args.frame.now) (λ x t. with_local kv to t (last x)) x t c.in-Ok.ensures
    ∙ same_after kv to t (last x) (seen_last (bound_seen c.bound_of.result))
    (λ y u. ap (λ r. or_break line u r (λ b. f b.0 (turns_between b.0 b.1) u)) (bounds_are x y ∙ ap (λ o. ranged o (double_in y)) (sym c.bound_of.ensures.bound)))))
    (c.range_up_to.ensures f)
