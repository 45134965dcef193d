use Rattle.std.proofs.Common.{arith, ap, sym, ◌∙◌, ◌≡◌}
use Rattle.tall_value.specs.Classes.{kind_of}
use Rattle.tall_fold.specs.Carries.{SeenCarry, scan_fold}
use Rattle.tall_fold.proofs.SummaryLemmas.{join_keeps}
use Rattle.tall_fold.proofs.CarryLemmas.{carry_join_is}
use Rattle.tall_fold.proofs.carries.Carry.join.Goals as goal

pub invariant_of-result : goal.invariant_of-result
invariant_of-result c =
    let classes : c.later.inside.class ≡ c.self.inside.class = ap (λ (x : SeenCarry). x.class) c.later.view_is ∙ c.requires.class ∙ sym (ap (λ (x : SeenCarry). x.class) c.self.view_is) in
    let first : c.self.inside.rows ≡ c.args.self.rows = ap (λ (x : SeenCarry). x.rows) c.self.view_is in
    let second : c.later.inside.rows ≡ c.args.later.rows = ap (λ (x : SeenCarry). x.rows) c.later.view_is in
    let few = c.requires.few in
    record {
      kept = join_keeps (scan_fold c.self.inside.operation (kind_of c.self.inside.class)) (scan_fold c.later.inside.operation (kind_of c.later.inside.class)) c.self.inside.class c.later.inside.class c.self.inside.rows c.later.inside.rows c.self.inside.kept c.later.inside.kept _
          classes (omega (arith, first, second, few)) c.self.invariant.kept c.later.invariant.kept c.joined.ensures.form c.joined.ensures.rows c.joined.ensures.number;
      result_is = c.self.invariant.result_is;
    }

pub returns : goal.returns
returns c op class cs ds first second =
    carry_join_is op class cs ds c.self.inside.operation c.later.inside.operation c.self.inside.class c.later.inside.class c.self.inside.rows c.later.inside.rows c.self.inside.kept c.later.inside.kept _
    _ _ c.self.view_is c.later.view_is (c.joined.ensures.comes (scan_fold op (kind_of class)) (kind_of class) cs ds) first second
