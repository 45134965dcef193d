-- An operand never has a greater level than what is made of it.
use Rattle.std.specs.Prelude.{Option, None, ◌≡◌, refl, ℕ, ◌≤◌, ◌+◌, ◌⊎◌, max, Bool, true, false, if◌then◌else◌, Some, Result, Ok, Err, List, [], ◌∷◌}
use Rattle.std.proofs.Common.{ap, sym, subst, ◌∙◌, arith, inl, inr}
use Rattle.tall_value.specs.declared.class.Class.{Class}
use Rattle.tall_value.specs.declared.functions.Method.{Method}
use Rattle.tall_value.specs.declared.functions.Method.TheVariants.{Count, Sum, SumNative, Min, Max, Nnz, Nummissing}
use Rattle.tall_semantics.specs.Operations.{Op, constant, unary, binary, filter, reduce, scan, head, tail, distinct, group, Part, keys, counts, Tree}
use Rattle.tall_semantics.specs.Spaces.{Space, single, filtered, groups, is_single, has_rows}
use Rattle.tall_semantics.specs.Equality.{same_space}
use Rattle.tall_semantics.specs.Shapes.{Shape, ShapeRefusal, incompatible, bad_argument, level, greatest_chain, greatest_level, placed, common, masked, on_column, counted, group_class, summarised, summary, place_of, chain_of, tree_over, shaped, shape}
use Rattle.tall_semantics.proofs.EqualityLaws.{spaces_decided}

-- x is one of the shapes
abbrev pub IsOneOf : List Shape → Shape → Type 0
IsOneOf [] x = ⊥
IsOneOf (y ∷ ys) x = (y ≡ x) ⊎ IsOneOf ys x

pub below_greatest : (xs : List Shape) (x : Shape) → IsOneOf xs x → level x ≤ greatest_level xs
below_greatest [] x h = absurd h
below_greatest (y ∷ ys) x h = elim h [
  | inl e ↦ subst (λ z. level z ≤ max (level y) (greatest_level ys)) e (grind (arith))
  | inr r ↦ (let q : level x ≤ greatest_level ys = below_greatest ys x r in grind (arith, q))
]

pub below_chains : (xs : List Shape) (x : Shape) → IsOneOf xs x → x.chain ≤ greatest_chain xs
below_chains [] x h = absurd h
below_chains (y ∷ ys) x h = elim h [
  | inl e ↦ subst (λ (z : Shape). z.chain ≤ max y.chain (greatest_chain ys)) e (grind (arith))
  | inr r ↦ (let q : x.chain ≤ greatest_chain ys = below_chains ys x r in grind (arith, q))
]

-- ---- what an accepted space is

abbrev pub space_ok : Space → Result Space ShapeRefusal
space_ok s = Ok s

abbrev refusal : Result (Class × Space) ShapeRefusal
refusal = Err bad_argument

abbrev pub place_ok : Class × Space → Result (Class × Space) ShapeRefusal
place_ok p = Ok p

pub inside : (s u : Space) → space_ok s ≡ space_ok u → s ≡ u
inside s u h = ap (λ r. elim r [ Ok v ↦ v | Err e ↦ s ]) h

pub tested : (b : Bool) (s u : Space) → (if b then space_ok s else Err incompatible) ≡ space_ok u → (b ≡ true) × (s ≡ u)
tested true s u h = (refl, inside s u h)
tested false s u h = absurd (cc)

untested : (b : Bool) (r : Result (Class × Space) ShapeRefusal) (p : Class × Space) → (if b then Err bad_argument else r) ≡ place_ok p → r ≡ place_ok p
untested true r p h = absurd (cc)
untested false r p h = h

pub column_is : (x : Shape) (r : Result (Class × Space) ShapeRefusal) (p : Class × Space) → on_column x r ≡ place_ok p → r ≡ place_ok p
column_is x r p h = untested (is_single x.space) r p h

pub placed_is : (c : Result Class ShapeRefusal) (s : Result Space ShapeRefusal) (p : Class × Space) → placed c s ≡ place_ok p → s ≡ space_ok p.1
placed_is (Ok c) (Ok s) p h = ap (λ r. elim r [ Ok q ↦ space_ok q.1 | Err e ↦ space_ok s ]) h
placed_is (Ok c) (Err e) p h = absurd (cc)
placed_is (Err e) s p h = absurd (cc)

abbrev Keeps : Space → Space → Type 0
Keeps s u = has_rows s ≡ true → has_rows u ≡ true

as_is : (s u : Space) → s ≡ u → Keeps s u
as_is s u e h = subst (λ v. has_rows v ≡ true) e h

common_keeps : (s t u : Space) → common s t ≡ space_ok u → Keeps s u × Keeps t u
common_keeps single t u h = (λ e. absurd (cc), as_is t u (inside t u h))
common_keeps s single u h = (as_is s u (inside s u h), λ e. absurd (cc))
common_keeps s t u h =
    let p : (same_space s t ≡ true) × (s ≡ u) = tested (same_space s t) s u h in
    (as_is s u p.1, as_is t u (sym ((spaces_decided s t).0 p.0) ∙ p.1))

masked_keeps : (s t u : Space) (m : Tree) → masked s t m ≡ space_ok u → Keeps s u × Keeps t u
masked_keeps s t u m h =
    let p : (same_space s t ≡ true) × (filtered s m ≡ u) = tested (same_space s t) (filtered s m) u h in
    (λ e. as_is (filtered s m) u p.1 e, λ e. as_is (filtered s m) u p.1 (as_is t s (sym ((spaces_decided s t).0 p.0)) e))

-- ---- levels

raise : (b : Bool) (n m : ℕ) → n ≤ m → n ≤ (if b then m + 1 else m)
raise true n m h = omega (arith, h)
raise false n m h = h

keep : (a b : Bool) (m n : ℕ) → m ≤ n → (a ≡ true → b ≡ true) → (if a then m + 1 else m) ≤ (if b then n + 1 else n)
keep true true m n h k = omega (arith, h)
keep true false m n h k = absurd (let e : false ≡ true = k refl in cc)
keep false b m n h k = raise b m n h

abbrev Fits : Op → List Shape → Class × Space → Shape → Type 0
Fits op xs p x = level x ≤ (if has_rows p.1 then chain_of op xs + 1 else chain_of op xs)

row_by_row : (xs : List Shape) (u : Space) (x : Shape) → IsOneOf xs x → Keeps x.space u → level x ≤ (if has_rows u then greatest_chain xs + 1 else greatest_chain xs)
row_by_row xs u x i k = keep (has_rows x.space) (has_rows u) x.chain (greatest_chain xs) (below_chains xs x i) k

of_one : (y x : Shape) (u : Space) → IsOneOf (y ∷ []) x → Keeps y.space u → Keeps x.space u
of_one y x u i k = elim i [ inl e ↦ subst (λ (z : Shape). Keeps z.space u) e k | inr n ↦ absurd n ]

of_two : (y z x : Shape) (u : Space) → IsOneOf (y ∷ z ∷ []) x → Keeps y.space u × Keeps z.space u → Keeps x.space u
of_two y z x u i k = elim i [ inl e ↦ subst (λ (w : Shape). Keeps w.space u) e k.0 | inr r ↦ of_one z x u r k.1 ]

fits : (op : Op) (xs : List Shape) (p : Class × Space) → place_of op xs ≡ place_ok p → (x : Shape) → IsOneOf xs x → Fits op xs p x
fits (constant c) [] p h x i = absurd i
fits (constant c) (y ∷ ys) p h x i = absurd (cc)
fits (binary op) [] p h x i = absurd i
fits (binary op) (y ∷ []) p h x i = absurd (cc)
fits (binary op) (y ∷ z ∷ []) p h x i = row_by_row (y ∷ z ∷ []) p.1 x i (of_two y z x p.1 i (common_keeps y.space z.space p.1 (placed_is _ (common y.space z.space) p h)))
fits (binary op) (y ∷ z ∷ w ∷ ws) p h x i = absurd (cc)
fits (unary op) [] p h x i = absurd i
fits (unary op) (y ∷ []) p h x i = row_by_row (y ∷ []) p.1 x i (of_one y x p.1 i (as_is y.space p.1 (inside y.space p.1 (placed_is _ (space_ok y.space) p h))))
fits (unary op) (y ∷ z ∷ ws) p h x i = absurd (cc)
fits filter [] p h x i = absurd i
fits filter (y ∷ []) p h x i = absurd (cc)
fits filter (y ∷ m ∷ []) p h x i = row_by_row (y ∷ m ∷ []) p.1 x i (of_two y m x p.1 i (masked_keeps y.space m.space p.1 m.tree (placed_is _ (masked y.space m.space m.tree) p (column_is m _ p (column_is y _ p h)))))
fits filter (y ∷ m ∷ w ∷ ws) p h x i = absurd (cc)
fits (reduce r) xs p h x i = raise (has_rows p.1) (level x) (greatest_level xs) (below_greatest xs x i)
fits (scan s) xs p h x i = raise (has_rows p.1) (level x) (greatest_level xs) (below_greatest xs x i)
fits (head k) xs p h x i = raise (has_rows p.1) (level x) (greatest_level xs) (below_greatest xs x i)
fits (tail k) xs p h x i = raise (has_rows p.1) (level x) (greatest_level xs) (below_greatest xs x i)
fits distinct xs p h x i = raise (has_rows p.1) (level x) (greatest_level xs) (below_greatest xs x i)
fits (group m part) xs p h x i = raise (has_rows p.1) (level x) (greatest_level xs) (below_greatest xs x i)

abbrev pub shape_ok : Shape → Result Shape ShapeRefusal
shape_ok s = Ok s

-- what an accepted shape is
pub shaped_is : (op : Op) (xs : List Shape) (r : Result (Class × Space) ShapeRefusal) (s : Shape) → shaped op xs r ≡ shape_ok s → (p : Class × Space) × (r ≡ place_ok p) × (record { class = p.0; space = p.1; tree = tree_over op xs; chain = chain_of op xs } ≡ s)
shaped_is op xs (Ok p) s h = (p, refl, ap (λ r. elim r [ Ok t ↦ t | Err e ↦ s ]) h)
shaped_is op xs (Err e) s h = absurd (cc)

pub no_deeper : (op : Op) (xs : List Shape) (s x : Shape) → shape op xs ≡ shape_ok s → IsOneOf xs x → level x ≤ level s
no_deeper op xs s x h i =
    let w = shaped_is op xs (place_of op xs) s h in
    subst (λ t. level x ≤ level t) w.2 (fits op xs w.0 w.1 x i)

-- ---- the level of a group

-- the space of a group is that of its key, with or without data
abbrev pub IsGroups : Tree → Space → Type 0
IsGroups key s = (n : Method) × (d : Option Tree) × (groups n key d ≡ s)

counted_is : (m : Method) (part : Part) (g : Shape) (p : Class × Space) → counted m part g ≡ place_ok p → IsGroups g.tree p.1
counted_is Count keys g p h = (Count, None, inside (groups Count g.tree None) p.1 (placed_is (group_class Count keys g.class g.class) (space_ok (groups Count g.tree None)) p h))
counted_is Count counts g p h = (Count, None, inside (groups Count g.tree None) p.1 (placed_is (group_class Count counts g.class g.class) (space_ok (groups Count g.tree None)) p h))
counted_is m part g p h = absurd (cc)

summarised_is : (m : Method) (part : Part) (g v : Shape) (p : Class × Space) → placed (group_class m part g.class v.class) (summarised m g v) ≡ place_ok p → IsGroups g.tree p.1
summarised_is m part g v p h = (m, Some v.tree, (tested (same_space g.space v.space) (groups m g.tree (Some v.tree)) p.1 (placed_is (group_class m part g.class v.class) (summarised m g v) p h)).1)

summary_is : (m : Method) (part : Part) (g v : Shape) (p : Class × Space) → summary m part g v ≡ place_ok p → IsGroups g.tree p.1
summary_is Count part g v p h = absurd (cc)
summary_is Sum part g v p h = summarised_is Sum part g v p h
summary_is SumNative part g v p h = summarised_is SumNative part g v p h
summary_is Min part g v p h = summarised_is Min part g v p h
summary_is Max part g v p h = summarised_is Max part g v p h
summary_is Nnz part g v p h = summarised_is Nnz part g v p h
summary_is Nummissing part g v p h = summarised_is Nummissing part g v p h

pub refused : (p : Class × Space) → refusal ≡ place_ok p → ⊥
refused p h = absurd (cc)

pub groups_of : (m : Method) (part : Part) (g : Shape) (xs : List Shape) (p : Class × Space) → place_of (group m part) (g ∷ xs) ≡ place_ok p → IsGroups g.tree p.1
groups_of m part g [] p h = counted_is m part g p (column_is g (counted m part g) p h)
groups_of m part g (v ∷ []) p h = summary_is m part g v p (column_is v (summary m part g v) p (column_is g (on_column v (summary m part g v)) p h))
groups_of m part g (v ∷ w ∷ ws) p h = absurd (refused p h)

group_space : (m : Method) (part : Part) (xs : List Shape) (p : Class × Space) → place_of (group m part) xs ≡ place_ok p → has_rows p.1 ≡ false
group_space m part [] p h = absurd (refused p h)
group_space m part (g ∷ xs) p h = (let w = groups_of m part g xs p h in ap has_rows (sym w.2))

pub group_level : (m : Method) (part : Part) (xs : List Shape) (s : Shape) → shape (group m part) xs ≡ shape_ok s → level s ≡ greatest_level xs
group_level m part xs s h =
    let w = shaped_is (group m part) xs (place_of (group m part) xs) s h in
    let b : has_rows w.0.1 ≡ false = group_space m part xs w.0 w.1 in
    ap level (sym w.2) ∙ ap (λ (b : Bool). if b then greatest_level xs + 1 else greatest_level xs) b

pub group_rows : (m : Method) (part : Part) (xs : List Shape) (s : Shape) → shape (group m part) xs ≡ shape_ok s → has_rows s.space ≡ false
group_rows m part xs s h =
    let w = shaped_is (group m part) xs (place_of (group m part) xs) s h in
    ap (λ (t : Shape). has_rows t.space) (sym w.2) ∙ group_space m part xs w.0 w.1

-- ---- operands without rows of what a pass computes

one_operand : (z x y : Shape) → IsOneOf (z ∷ []) x → IsOneOf (z ∷ []) y → has_rows y.space ≡ true → has_rows x.space ≡ true
one_operand z x y i j h = elim i [
  | inl e ↦ elim j [ inl g ↦ subst (λ (w : Shape). has_rows w.space ≡ true) (sym g ∙ e) h | inr n ↦ absurd n ]
  | inr n ↦ absurd n
]

two_operands : (g v x y : Shape) → g.space ≡ v.space → IsOneOf (g ∷ v ∷ []) x → IsOneOf (g ∷ v ∷ []) y → has_rows y.space ≡ true → has_rows x.space ≡ true
two_operands g v x y e i j h = to_first g v x e i (from_first g v y e j h)
  where
    from_first : (g v y : Shape) → g.space ≡ v.space → IsOneOf (g ∷ v ∷ []) y → has_rows y.space ≡ true → has_rows g.space ≡ true
    from_first g v y e j h = elim j [
      | inl a ↦ subst (λ (w : Shape). has_rows w.space ≡ true) (sym a) h
      | inr r ↦ elim r [ inl b ↦ as_is v.space g.space (sym e) (subst (λ (w : Shape). has_rows w.space ≡ true) (sym b) h) | inr n ↦ absurd n ]
    ]

    to_first : (g v x : Shape) → g.space ≡ v.space → IsOneOf (g ∷ v ∷ []) x → has_rows g.space ≡ true → has_rows x.space ≡ true
    to_first g v x e i h = elim i [
      | inl a ↦ subst (λ (w : Shape). has_rows w.space ≡ true) a h
      | inr r ↦ elim r [ inl b ↦ subst (λ (w : Shape). has_rows w.space ≡ true) b (as_is g.space v.space e h) | inr n ↦ absurd n ]
    ]

summary_spaces : (m : Method) (part : Part) (g v : Shape) (p : Class × Space) → placed (group_class m part g.class v.class) (summarised m g v) ≡ place_ok p → g.space ≡ v.space
summary_spaces m part g v p h = (spaces_decided g.space v.space).0 (tested (same_space g.space v.space) (groups m g.tree (Some v.tree)) p.1 (placed_is (group_class m part g.class v.class) (summarised m g v) p h)).0

pub group_spaces : (m : Method) (part : Part) (g v : Shape) (p : Class × Space) → summary m part g v ≡ place_ok p → g.space ≡ v.space
group_spaces Count part g v p h = absurd (cc)
group_spaces Sum part g v p h = summary_spaces Sum part g v p h
group_spaces SumNative part g v p h = summary_spaces SumNative part g v p h
group_spaces Min part g v p h = summary_spaces Min part g v p h
group_spaces Max part g v p h = summary_spaces Max part g v p h
group_spaces Nnz part g v p h = summary_spaces Nnz part g v p h
group_spaces Nummissing part g v p h = summary_spaces Nummissing part g v p h

lost : {b : Bool} → b ≡ true → b ≡ false → ⊥
lost h k = cc

-- where the result has no rows and one operand has, all operands have
all_rows : (op : Op) (xs : List Shape) (p : Class × Space) → place_of op xs ≡ place_ok p → (x y : Shape) → IsOneOf xs x → IsOneOf xs y → has_rows y.space ≡ true → has_rows p.1 ≡ false → has_rows x.space ≡ true
all_rows (constant c) [] p h x y i j r n = absurd i
all_rows (constant c) (z ∷ zs) p h x y i j r n = absurd (refused p h)
all_rows (binary op) [] p h x y i j r n = absurd i
all_rows (binary op) (z ∷ []) p h x y i j r n = absurd (refused p h)
all_rows (binary op) (z ∷ w ∷ []) p h x y i j r n = absurd (lost (of_two z w y p.1 j (common_keeps z.space w.space p.1 (placed_is _ (common z.space w.space) p h)) r) n)
all_rows (binary op) (z ∷ w ∷ u ∷ us) p h x y i j r n = absurd (refused p h)
all_rows (unary op) [] p h x y i j r n = absurd i
all_rows (unary op) (z ∷ []) p h x y i j r n = one_operand z x y i j r
all_rows (unary op) (z ∷ w ∷ ws) p h x y i j r n = absurd (refused p h)
all_rows filter [] p h x y i j r n = absurd i
all_rows filter (z ∷ []) p h x y i j r n = absurd (refused p h)
all_rows filter (z ∷ m ∷ []) p h x y i j r n = absurd (lost (of_two z m y p.1 j (masked_keeps z.space m.space p.1 m.tree (placed_is _ (masked z.space m.space m.tree) p (column_is m _ p (column_is z _ p h)))) r) n)
all_rows filter (z ∷ m ∷ u ∷ us) p h x y i j r n = absurd (refused p h)
all_rows (reduce f) [] p h x y i j r n = absurd i
all_rows (reduce f) (z ∷ []) p h x y i j r n = one_operand z x y i j r
all_rows (reduce f) (z ∷ w ∷ ws) p h x y i j r n = absurd (refused p h)
all_rows (scan f) [] p h x y i j r n = absurd i
all_rows (scan f) (z ∷ []) p h x y i j r n = one_operand z x y i j r
all_rows (scan f) (z ∷ w ∷ ws) p h x y i j r n = absurd (refused p h)
all_rows (head k) [] p h x y i j r n = absurd i
all_rows (head k) (z ∷ []) p h x y i j r n = one_operand z x y i j r
all_rows (head k) (z ∷ w ∷ ws) p h x y i j r n = absurd (refused p h)
all_rows (tail k) [] p h x y i j r n = absurd i
all_rows (tail k) (z ∷ []) p h x y i j r n = one_operand z x y i j r
all_rows (tail k) (z ∷ w ∷ ws) p h x y i j r n = absurd (refused p h)
all_rows distinct [] p h x y i j r n = absurd i
all_rows distinct (z ∷ []) p h x y i j r n = one_operand z x y i j r
all_rows distinct (z ∷ w ∷ ws) p h x y i j r n = absurd (refused p h)
all_rows (group m part) [] p h x y i j r n = absurd i
all_rows (group m part) (g ∷ []) p h x y i j r n = one_operand g x y i j r
all_rows (group m part) (g ∷ v ∷ []) p h x y i j r n = two_operands g v x y (group_spaces m part g v p (column_is v (summary m part g v) p (column_is g (on_column v (summary m part g v)) p h))) i j r
all_rows (group m part) (g ∷ v ∷ w ∷ ws) p h x y i j r n = absurd (refused p h)

pub chain_level : (xs : List Shape) (x : Shape) → IsOneOf xs x → x.chain ≤ greatest_level xs
chain_level xs x i = (let q : level x ≤ greatest_level xs = below_greatest xs x i in let r : x.chain ≤ level x = raise (has_rows x.space) x.chain x.chain (omega (arith)) in omega (arith, q, r))

pub chain_below : (op : Op) (xs : List Shape) (x : Shape) → IsOneOf xs x → x.chain ≤ chain_of op xs
chain_below (constant c) xs x i = below_chains xs x i
chain_below (binary op) xs x i = below_chains xs x i
chain_below (unary op) xs x i = below_chains xs x i
chain_below filter xs x i = below_chains xs x i
chain_below (reduce f) xs x i = chain_level xs x i
chain_below (scan f) xs x i = chain_level xs x i
chain_below (head k) xs x i = chain_level xs x i
chain_below (tail k) xs x i = chain_level xs x i
chain_below distinct xs x i = chain_level xs x i
chain_below (group m part) xs x i = chain_level xs x i

pub at_rows : (b : Bool) (n : ℕ) → b ≡ true → n + 1 ≤ (if b then n + 1 else n)
at_rows true n h = omega (arith)
at_rows false n h = absurd (cc)

without_rows : (b : Bool) (n : ℕ) → b ≡ false → (if b then n + 1 else n) ≡ n
without_rows true n h = absurd (cc)
without_rows false n h = refl

-- an operand without rows has a lesser level than a result with rows
pub lesser_level : (op : Op) (xs : List Shape) (s x : Shape) → shape op xs ≡ shape_ok s → IsOneOf xs x → has_rows x.space ≡ false → has_rows s.space ≡ true → level x + 1 ≤ level s
lesser_level op xs s x h i n r =
    let w = shaped_is op xs (place_of op xs) s h in
    let c : x.chain ≤ s.chain = subst (λ (t : Shape). x.chain ≤ t.chain) w.2 (chain_below op xs x i) in
    let l : level x ≡ x.chain = without_rows (has_rows x.space) x.chain n in
    let m : s.chain + 1 ≤ level s = at_rows (has_rows s.space) s.chain r in
    omega (arith, c, l, m)

pub in_pass_above : (op : Op) (xs : List Shape) (s x y : Shape) → shape op xs ≡ shape_ok s → IsOneOf xs x → IsOneOf xs y → has_rows x.space ≡ false → has_rows y.space ≡ true → level x + 1 ≤ level s
in_pass_above op xs s x y h i j n r = by_rows (has_rows s.space) refl
  where
    by_rows : (b : Bool) → has_rows s.space ≡ b → level x + 1 ≤ level s
    by_rows true e = lesser_level op xs s x h i n e
    by_rows false e =
        let w = shaped_is op xs (place_of op xs) s h in
        let f : has_rows w.0.1 ≡ false = ap (λ (t : Shape). has_rows t.space) w.2 ∙ e in
        absurd (lost (all_rows op xs w.0 w.1 x y i j r f) n)
