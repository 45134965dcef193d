-- Forms of arguments.
use Rattle.std.proofs.Common.{◌≡◌, refl, sym, ap}
use Rattle.std.specs.Prelude.{true, false, List, [], ◌∷◌, Option, None, Some, option_and_then, option_map}
use Rattle.std.proofs.lemmas.Option.{none-some}
use Rattle.tall_value.specs.declared.functions.Reduction.{Reduction}
use Rattle.tall_value.specs.declared.functions.Reduction.TheVariants.{Sum}
use Rattle.tall_value.specs.declared.functions.Scan.{Scan}
use Rattle.tall_value.specs.declared.operators.Binary.{Binary}
use Rattle.tall_value.specs.declared.operators.Binary.TheVariants.{Idivide}
use Rattle.tall_value.specs.declared.operators.Unary.{Unary}
use Rattle.tall_local.specs.Applications.{application, choice_of, groups_by, sum_of, sum_with, text_of, distinct, height, reduce, scan, to_one, to_two, unary}
use Rattle.tall_local.specs.Functions.{methods, roundings, sum_options}
use Rattle.tall_local.specs.Lists.{all_of, in_front_of}
use Rattle.tall_local.specs.Memory.{Memory, scalar_in}
use Rattle.tall_local.specs.declared.functions.SumOption.{SumOption}
use Rattle.tall_local.specs.declared.functions.SumOption.TheVariants.{Native, OmitNan}
use Rattle.tall_local.specs.declared.functions.ValueFunction.TheVariants as function
use Rattle.tall_memory.specs.Shapes.{both, four, limit, only, three}

pub reduction_form : (r : Reduction) (vs : List Memory) → option_map (λ v. to_one (reduce r) v) (only vs) ≡ application scalar_in (function.Reduction r) vs
reduction_form r [] = refl
reduction_form r (v ∷ []) = refl
reduction_form r (v ∷ w ∷ vs) = refl

pub height_form : (vs : List Memory) → option_map (λ v. to_one height v) (only vs) ≡ application scalar_in function.Height vs
height_form [] = refl
height_form (v ∷ []) = refl
height_form (v ∷ w ∷ vs) = refl

pub scan_form : (s : Scan) (vs : List Memory) → option_map (λ v. to_one (scan s) v) (only vs) ≡ application scalar_in (function.Scan s) vs
scan_form s [] = refl
scan_form s (v ∷ []) = refl
scan_form s (v ∷ w ∷ vs) = refl

pub unique_form : (vs : List Memory) → option_map (λ v. to_one distinct v) (only vs) ≡ application scalar_in function.Unique vs
unique_form [] = refl
unique_form (v ∷ []) = refl
unique_form (v ∷ w ∷ vs) = refl

pub unary_form : (op : Unary) (vs : List Memory) → option_map (λ v. to_one (unary op) v) (only vs) ≡ application scalar_in (function.Unary op) vs
unary_form op [] = refl
unary_form op (v ∷ []) = refl
unary_form op (v ∷ w ∷ vs) = refl

pub binary_form : (op : Binary) (vs : List Memory) → option_map (λ p. to_two op p.0 p.1) (both vs) ≡ application scalar_in (function.Binary op) vs
binary_form op [] = refl
binary_form op (v ∷ []) = refl
binary_form op (v ∷ w ∷ []) = refl
binary_form op (v ∷ w ∷ x ∷ vs) = refl

pub greatest_form : (vs : List Memory) → option_and_then (limit true) (only vs) ≡ application scalar_in function.IntMax vs
greatest_form [] = refl
greatest_form (v ∷ []) = refl
greatest_form (v ∷ w ∷ vs) = refl

pub least_form : (vs : List Memory) → option_and_then (limit false) (only vs) ≡ application scalar_in function.IntMin vs
least_form [] = refl
least_form (v ∷ []) = refl
least_form (v ∷ w ∷ vs) = refl

-- ---- three arguments

pub idivide_with : (vs : List Memory) (a b how : Memory) → Some (a, b, how) ≡ three vs → option_map (λ r. to_two (Idivide r) a b) (choice_of roundings (scalar_in how)) ≡ application scalar_in function.Idivide vs
idivide_with [] a b how h = absurd (none-some _ (sym h))
idivide_with (v ∷ []) a b how h = absurd (none-some _ (sym h))
idivide_with (v ∷ w ∷ []) a b how h = absurd (none-some _ (sym h))
idivide_with (v ∷ w ∷ x ∷ []) a b how h =
    let e : (a, b, how) ≡ (v, w, x) = cc in
    ap (λ (p : Memory × Memory × Memory). option_map (λ r. to_two (Idivide r) p.0 p.1) (choice_of roundings (scalar_in p.2))) e
idivide_with (v ∷ w ∷ x ∷ y ∷ vs) a b how h = absurd (none-some _ (sym h))

pub sum_with_three : (vs : List Memory) (v a b : Memory) → Some (v, a, b) ≡ three vs → sum_of scalar_in v (a ∷ b ∷ []) ≡ application scalar_in function.Sum vs
sum_with_three [] v a b h = absurd (none-some _ (sym h))
sum_with_three (u ∷ []) v a b h = absurd (none-some _ (sym h))
sum_with_three (u ∷ w ∷ []) v a b h = absurd (none-some _ (sym h))
sum_with_three (u ∷ w ∷ x ∷ []) v a b h =
    let e : (v, a, b) ≡ (u, w, x) = cc in
    ap (λ (p : Memory × Memory × Memory). sum_of scalar_in p.0 (p.1 ∷ p.2 ∷ [])) e
sum_with_three (u ∷ w ∷ x ∷ y ∷ vs) v a b h = absurd (none-some _ (sym h))

three_options : (a b c : SumOption) (options : List SumOption) → sum_with (a ∷ b ∷ c ∷ options) ≡ None
three_options Native Native c options = refl
three_options Native OmitNan c options = refl
three_options OmitNan Native c options = refl
three_options OmitNan OmitNan c options = refl

no_sum : (a b c : Option SumOption) (options : Option (List SumOption)) → option_and_then sum_with (in_front_of a (in_front_of b (in_front_of c options))) ≡ None
no_sum None b c options = refl
no_sum (Some a) None c options = refl
no_sum (Some a) (Some b) None options = refl
no_sum (Some a) (Some b) (Some c) None = refl
no_sum (Some a) (Some b) (Some c) (Some options) = three_options a b c options

option_in : Memory → Option SumOption
option_in v = choice_of sum_options (scalar_in v)

pub sum_alone : (vs : List Memory) → None ≡ three vs → None ≡ both vs → option_map (λ v. to_one (reduce (Sum false false)) v) (only vs) ≡ application scalar_in function.Sum vs
unfolding option_in
sum_alone [] h g = refl
sum_alone (v ∷ []) h g = refl
sum_alone (v ∷ w ∷ []) h g = absurd (none-some _ g)
sum_alone (v ∷ w ∷ x ∷ []) h g = absurd (none-some _ h)
sum_alone (v ∷ w ∷ x ∷ y ∷ vs) h g =
    sym (ap (option_map (λ r. to_one (reduce r) v)) (no_sum (option_in w) (option_in x) (option_in y) (all_of option_in vs)))

-- ---- groups

pub groups_with : (vs : List Memory) (t g m v : Memory) → Some (t, g, m, v) ≡ four vs
    → groups_by scalar_in t (text_of (scalar_in g)) (choice_of methods (scalar_in m)) (text_of (scalar_in v)) ≡ application scalar_in function.GroupSummary vs
groups_with [] t g m v h = absurd (none-some _ (sym h))
groups_with (a ∷ []) t g m v h = absurd (none-some _ (sym h))
groups_with (a ∷ b ∷ []) t g m v h = absurd (none-some _ (sym h))
groups_with (a ∷ b ∷ c ∷ []) t g m v h = absurd (none-some _ (sym h))
groups_with (a ∷ b ∷ c ∷ d ∷ []) t g m v h =
    let e : (t, g, m, v) ≡ (a, b, c, d) = cc in
    ap (λ (p : Memory × Memory × Memory × Memory). groups_by scalar_in p.0 (text_of (scalar_in p.1)) (choice_of methods (scalar_in p.2)) (text_of (scalar_in p.3))) e
groups_with (a ∷ b ∷ c ∷ d ∷ e ∷ vs) t g m v h = absurd (none-some _ (sym h))
