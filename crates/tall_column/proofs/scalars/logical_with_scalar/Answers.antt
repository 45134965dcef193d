use Rattle.std.proofs.Common.{◌≡◌, ◌∙◌, ap, map, rules, subst}
use mir.Val.{to_z, of_z}
use mir.Syntax.{w8, w16, w32, w64}
use Rattle.tall_value.specs.declared.class.IntKind.TheVariants.{Int8, Int16, Int32, Int64}
use Rattle.tall_value.specs.Cells.{logical, seen, whole}
use Rattle.tall_value.specs.Columns.{numbered}
use Rattle.tall_value.specs.Elementwise.{scalar_rows}
use Rattle.tall_column.specs.Mapped.{AnswersIfMade}
use Rattle.tall_column.proofs.scalars.logical_with_scalar.Goals as goal

pub returns-in-I8 : goal.returns-in-I8
returns-in-I8 c =
    let kept : to_z w8 (of_z w8 c.in-I8.n) ≡ c.in-I8.n = search rules in
    let is : whole Int8 c.in-I8.n ≡ seen c.args.scalar.now = search rules in
    subst (λ s. AnswersIfMade (scalar_rows c.args.op c.args.scalar_left s (numbered 0 (map (λ m. logical m) c.args.items.now))) c.counted_beside.result)
    (ap (λ n. whole Int8 n) kept ∙ is) c.counted_beside.ensures

pub returns-in-I16 : goal.returns-in-I16
returns-in-I16 c =
    let kept : to_z w16 (of_z w16 c.in-I16.n) ≡ c.in-I16.n = search rules in
    let is : whole Int16 c.in-I16.n ≡ seen c.args.scalar.now = search rules in
    subst (λ s. AnswersIfMade (scalar_rows c.args.op c.args.scalar_left s (numbered 0 (map (λ m. logical m) c.args.items.now))) c.counted_beside-in-I16.result)
    (ap (λ n. whole Int16 n) kept ∙ is) c.counted_beside-in-I16.ensures

pub returns-in-I32 : goal.returns-in-I32
returns-in-I32 c =
    let kept : to_z w32 (of_z w32 c.in-I32.n) ≡ c.in-I32.n = search rules in
    let is : whole Int32 c.in-I32.n ≡ seen c.args.scalar.now = search rules in
    subst (λ s. AnswersIfMade (scalar_rows c.args.op c.args.scalar_left s (numbered 0 (map (λ m. logical m) c.args.items.now))) c.counted_beside-in-I32.result)
    (ap (λ n. whole Int32 n) kept ∙ is) c.counted_beside-in-I32.ensures

pub returns-in-I64 : goal.returns-in-I64
returns-in-I64 c =
    let kept : to_z w64 (of_z w64 c.in-I64.n) ≡ c.in-I64.n = search rules in
    let is : whole Int64 c.in-I64.n ≡ seen c.args.scalar.now = search rules in
    subst (λ s. AnswersIfMade (scalar_rows c.args.op c.args.scalar_left s (numbered 0 (map (λ m. logical m) c.args.items.now))) c.counted_beside-in-I64.result)
    (ap (λ n. whole Int64 n) kept ∙ is) c.counted_beside-in-I64.ensures
