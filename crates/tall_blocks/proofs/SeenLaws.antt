-- Faults over some rows, and over a block and the rows behind it: a value has none over all these rows exactly where it has
-- none in the block and none behind it.
use Rattle.std.specs.Prelude.{◌≡◌, refl, ℕ, zero, suc, ◌<◌, ◌⊎◌, Bool, true, false, Option, None, Some, List, [], ◌∷◌, ◌++◌, map, slice_get}
use Rattle.std.proofs.Common.{ap, sym, subst, ◌∙◌, arith, inl, inr}
use Rattle.tall_value.specs.Cells.{Seen}
use Rattle.tall_value.specs.Classes.{kind_of}
use Rattle.tall_value.specs.declared.functions.Scan.{Scan}
use Rattle.tall_semantics.specs.Operations.{Op, constant, unary, binary, filter, reduce, scan, head, tail, distinct, group, Made, stored, operation}
use Rattle.tall_semantics.specs.Faults.{At, Fault, earlier, least_fault}
use Rattle.tall_semantics.specs.Outcomes.{Outcome, rows, scalar, fault, fault_of, rows_in, cells_in}
use Rattle.tall_semantics.specs.Talls.{Tall, Columns, outcomes, unless}
use Rattle.tall_semantics.specs.Deferred.{Vertex, IsOrdered, IsAmong, DependsOn, itself, through, fault_in, least_in, own_fault, own_at, own_in}
use Rattle.tall_blocks.specs.Carries.{scanned_behind}
use Rattle.tall_blocks.specs.Blocks.{IsVariable}
use Rattle.tall_blocks.specs.Cut.{IsScalar, CanBeCut, AreCut, AreAligned, IsCutWork}
use Rattle.tall_blocks.specs.ValuesOver.{own_over, outcome_over, value_over, IsOver, AreParts}
use Rattle.tall_blocks.proofs.Choices.{true_or_false}
use Rattle.tall_blocks.proofs.RowLaws.{outcomes_joined}
use Rattle.tall_blocks.proofs.OperationLaws.{IsColumn, Joined, own_joined}
use Rattle.tall_value.specs.declared.class.Class.{Class}
use Rattle.tall_semantics.specs.Numbered.{never_fails}
use Rattle.tall_semantics.proofs.FaultLaws.{none_of_two, HasNumber, none_has, rows_number, own_number, no_own}
use Rattle.tall_semantics.proofs.OriginLaws.{none_or_some, get_before, below_among, faults_of_values, least_one, own_is}

-- the variables have the rows of the block and then those behind it, where each scan goes on from its carry; h are the
-- outcomes over the block
pub record IsSplit (columns block rest : Columns) (so_far so_far_block so_far_rest : ℕ → List Seen) (vs : List Vertex) (f : ℕ → Tall) (cut : ℕ → Bool) (h : ℕ → Outcome) : Type 0 where
  pub columns_split : (i : ℕ) (v : Vertex) (s a : ℕ) → slice_get vs i ≡ Some v → cut i ≡ true → IsVariable v.made s a → AreParts (columns s a) (block s a) (rest s a)
  pub starts : (i : ℕ) → so_far i ≡ so_far_block i
  pub goes_on : (i a : ℕ) (v : Vertex) (s : Scan) → slice_get vs i ≡ Some v → cut i ≡ true → v.made ≡ operation (scan s) → v.args ≡ a ∷ [] → so_far_rest i ≡ so_far_block i ++ cells_in (h a)

-- ---- options of faults

pub least_none : (g : ℕ → Option Fault) (args : List ℕ) (a : ℕ) → least_fault (map g args) ≡ None → IsAmong args a → g a ≡ None
least_none g [] a h i = absurd i
least_none g (b ∷ args) a h i =
    let p = none_of_two (g b) (least_fault (map g args)) h in
    elim i [ inl e ↦ ap g (sym e) ∙ p.0 | inr r ↦ least_none g args a p.1 r ]

pub all_none : (g : ℕ → Option Fault) (args : List ℕ) → ((a : ℕ) → IsAmong args a → g a ≡ None) → least_fault (map g args) ≡ None
all_none g [] h = refl
all_none g (a ∷ args) h = ap (λ c. earlier c (least_fault (map g args))) (h a (inl refl)) ∙ all_none g args (λ b i. h b (inr i))

pub unless_none : (c : Option Fault) (x : Outcome) → c ≡ None → unless c x ≡ x
unless_none None x h = refl
unless_none (Some f) x h = absurd (cc)

unless_some : (c : Option Fault) (y : Fault) (x : Outcome) → c ≡ Some y → fault_of (unless c x) ≡ Some y
unless_some None y x h = absurd (cc)
unless_some (Some z) y x h = h

-- ---- outcomes that join

none_front : (x y z : Outcome) → x ≡ outcomes_joined y z → IsColumn y → fault_of x ≡ None → fault_of y ≡ None
none_front x (rows rs) z e c n = refl
none_front x (scalar s) z e c n = absurd c
none_front x (fault f) z e c n = absurd (let q : fault_of x ≡ Some f = ap fault_of e in cc)

none_back : (x y z : Outcome) → x ≡ outcomes_joined y z → IsColumn y → fault_of x ≡ None → fault_of z ≡ None
none_back x (rows rs) (rows ss) e c n = refl
none_back x (rows rs) (scalar s) e c n = refl
none_back x (rows rs) (fault g) e c n = absurd (let q : fault_of x ≡ Some g = ap fault_of e in cc)
none_back x (scalar s) z e c n = absurd c
none_back x (fault f) z e c n = absurd (let q : fault_of x ≡ Some f = ap fault_of e in cc)

parts_of : (x y z : Outcome) → Joined x y z → fault_of y ≡ None → fault_of z ≡ None → AreParts x y z
parts_of x (rows rs) (rows ss) j m n = (rs, ss, j.joined, refl, refl)
parts_of x (rows rs) (scalar s) j m n = absurd j.back
parts_of x (rows rs) (fault g) j m n = absurd (cc)
parts_of x (scalar s) z j m n = absurd j.front
parts_of x (fault f) z j m n = absurd (cc)

fault_parts : (x y z : Outcome) → AreParts x y z → (fault_of x ≡ None) × (fault_of y ≡ None) × (fault_of z ≡ None)
fault_parts x y z p = (ap fault_of p.2, ap fault_of p.3, ap fault_of p.4)

-- the fault of two parts is that of the first, or that of the second behind a first without one
pub fault_joined : (x y z : Outcome) (f : Fault) → Joined x y z → fault_of x ≡ Some f → (fault_of y ≡ Some f) ⊎ ((fault_of y ≡ None) × (fault_of z ≡ Some f))
fault_joined x (rows rs) (rows ss) f j h = absurd (let q : fault_of x ≡ None = ap fault_of j.joined in cc)
fault_joined x (rows rs) (scalar s) f j h = absurd j.back
fault_joined x (rows rs) (fault g) f j h = (let q : fault_of x ≡ Some g = ap fault_of j.joined in inr (refl, sym q ∙ h))
fault_joined x (scalar s) z f j h = absurd j.front
fault_joined x (fault g) z f j h = (let q : fault_of x ≡ Some g = ap fault_of j.joined in inl (sym q ∙ h))

pub front_fault : (x y z : Outcome) (f : Fault) → Joined x y z → fault_of y ≡ Some f → fault_of x ≡ Some f
front_fault x (rows rs) z f j h = absurd (cc)
front_fault x (scalar s) z f j h = absurd (cc)
front_fault x (fault g) z f j h = ap fault_of j.joined ∙ h

pub back_fault : (x y z : Outcome) (f : Fault) → Joined x y z → fault_of y ≡ None → fault_of z ≡ Some f → fault_of x ≡ Some f
back_fault x (rows rs) (rows ss) f j n h = absurd (cc)
back_fault x (rows rs) (scalar s) f j n h = absurd (cc)
back_fault x (rows rs) (fault g) f j n h = ap fault_of j.joined ∙ h
back_fault x (scalar s) z f j n h = absurd j.front
back_fault x (fault g) z f j n h = absurd (cc)

-- ---- an operand that isn't cut is a known scalar

pub known_scalar : (f : ℕ → Tall) (cut : ℕ → Bool) (made : Made) (args : List ℕ) (a : ℕ) → CanBeCut f cut made args → IsAmong args a → cut a ≡ false → IsScalar (f a).outcome
known_scalar f cut (stored s v c) args a can i n = absurd (subst (λ xs. IsAmong xs a) can i)
known_scalar f cut (operation (constant x)) args a can i n = absurd can
known_scalar f cut (operation (unary op)) [] a can i n = absurd can
known_scalar f cut (operation (unary op)) (b ∷ []) a can i n = elim i [ inl e ↦ absurd (cc) | inr r ↦ absurd r ]
known_scalar f cut (operation (unary op)) (b ∷ c ∷ args) a can i n = absurd can
known_scalar f cut (operation (binary op)) [] a can i n = absurd can
known_scalar f cut (operation (binary op)) (b ∷ []) a can i n = absurd can
known_scalar f cut (operation (binary op)) (b ∷ c ∷ []) a can i n = elim can [
  | inl both ↦ elim i [ inl e ↦ absurd (let q = both.0 in cc) | inr r ↦ elim r [ inl e ↦ absurd (let q = both.1 in cc) | inr z ↦ absurd z ] ]
  | inr one ↦ elim one [
    | inl left ↦ elim i [ inl e ↦ absurd (let q = left.0 in cc) | inr r ↦ elim r [ inl e ↦ subst (λ j. IsScalar (f j).outcome) e left.1.1 | inr z ↦ absurd z ] ]
    | inr right ↦ elim i [ inl e ↦ subst (λ j. IsScalar (f j).outcome) e right.0.1 | inr r ↦ elim r [ inl e ↦ absurd (let q = right.1 in cc) | inr z ↦ absurd z ] ]
  ]
]
known_scalar f cut (operation (binary op)) (b ∷ c ∷ d ∷ args) a can i n = absurd can
known_scalar f cut (operation filter) [] a can i n = absurd can
known_scalar f cut (operation filter) (b ∷ []) a can i n = absurd can
known_scalar f cut (operation filter) (b ∷ c ∷ []) a can i n = elim i [ inl e ↦ absurd (let q = can.0 in cc) | inr r ↦ elim r [ inl e ↦ absurd (let q = can.1 in cc) | inr z ↦ absurd z ] ]
known_scalar f cut (operation filter) (b ∷ c ∷ d ∷ args) a can i n = absurd can
known_scalar f cut (operation (scan s)) [] a can i n = absurd can
known_scalar f cut (operation (scan s)) (b ∷ []) a can i n = elim i [ inl e ↦ absurd (cc) | inr r ↦ absurd r ]
known_scalar f cut (operation (scan s)) (b ∷ c ∷ args) a can i n = absurd can
known_scalar f cut (operation (reduce r)) args a can i n = absurd can
known_scalar f cut (operation (head k)) args a can i n = absurd can
known_scalar f cut (operation (tail k)) args a can i n = absurd can
known_scalar f cut (operation distinct) args a can i n = absurd can
known_scalar f cut (operation (group m part)) args a can i n = absurd can

scalar_none : (x : Outcome) → IsScalar x → fault_of x ≡ None
scalar_none x s = ap fault_of s.1

-- ---- own faults

pub own_split : (f : ℕ → Tall) (o : Option Vertex) (i : ℕ) (x : Fault) → own_at f o i ≡ Some x → (v : Vertex) × (o ≡ Some v) × (least_in f v.args ≡ None) × (fault_in f i ≡ Some x)
own_split f None i x h = absurd (cc)
own_split f (Some v) i x h = (let p = own_is (least_in f v.args) (fault_in f i) x h in (v, refl, p.0, p.1))

pub own_made : (f : ℕ → Tall) (o : Option Vertex) (v : Vertex) (i : ℕ) (x : Fault) → o ≡ Some v → least_in f v.args ≡ None → fault_in f i ≡ Some x → own_at f o i ≡ Some x
own_made f o v i x e n q = ap (λ w. own_at f w i) e ∙ (ap (λ c. own_fault c (fault_in f i)) n ∙ q)

own_over_number : (c : List Seen) (at : At) (op : Op) (xs : List Tall) → least_fault (map fault_of (outcomes xs)) ≡ None → HasNumber at (fault_of (own_over c at op xs))
own_over_number c at (scan s) [] n = none_has at
own_over_number c at (scan s) (x ∷ []) n = rows_number at (scanned_behind s (kind_of x.shape.class) c (rows_in x.outcome))
own_over_number c at (scan s) (x ∷ y ∷ xs) n = none_has at
own_over_number c at (constant k) xs n = own_number at (constant k) xs n
own_over_number c at (unary op) xs n = own_number at (unary op) xs n
own_over_number c at (binary op) xs n = own_number at (binary op) xs n
own_over_number c at filter xs n = own_number at filter xs n
own_over_number c at (reduce r) xs n = own_number at (reduce r) xs n
own_over_number c at (head k) xs n = own_number at (head k) xs n
own_over_number c at (tail k) xs n = own_number at (tail k) xs n
own_over_number c at distinct xs n = own_number at distinct xs n
own_over_number c at (group m part) xs n = own_number at (group m part) xs n

-- ---- values over some rows

module _ {columns : Columns} {so_far : ℕ → List Seen} {vs : List Vertex} {f : ℕ → Tall} {cut : ℕ → Bool} {h : ℕ → Outcome} (over : IsOver columns so_far vs f cut h) (can : AreCut f cut vs) where
  pub made_is : (i : ℕ) (v : Vertex) (op : Op) → slice_get vs i ≡ Some v → cut i ≡ true → v.made ≡ operation op
      → h i ≡ unless (least_fault (map fault_of (outcomes (map (value_over f h) v.args)))) (own_over (so_far i) v.at op (map (value_over f h) v.args))
  made_is i v op e c q = subst (λ m. h i ≡ outcome_over columns (so_far i) v.at m (map (value_over f h) v.args)) q (over.made i v e c)

  pub own_of : (i : ℕ) (v : Vertex) (op : Op) → slice_get vs i ≡ Some v → cut i ≡ true → v.made ≡ operation op → least_in (value_over f h) v.args ≡ None → h i ≡ own_over (so_far i) v.at op (map (value_over f h) v.args)
  own_of i v op e c q n =
      made_is i v op e c q ∙ unless_none (least_fault (map fault_of (outcomes (map (value_over f h) v.args)))) (own_over (so_far i) v.at op (map (value_over f h) v.args)) (ap least_fault (faults_of_values (value_over f h) v.args) ∙ n)

  passed_on : (i : ℕ) (v : Vertex) (m : Made) (y : Fault) → slice_get vs i ≡ Some v → cut i ≡ true → v.made ≡ m → least_in (value_over f h) v.args ≡ Some y → fault_of (h i) ≡ Some y
  passed_on i v (stored s a k) y e c q n =
      let none : v.args ≡ [] = subst (λ m. CanBeCut f cut m v.args) q (can i v e c) in
      let z : least_in (value_over f h) v.args ≡ None = ap (least_in (value_over f h)) none in
      absurd (cc)
  passed_on i v (operation op) y e c q n =
      ap fault_of (made_is i v op e c q) ∙ unless_some (least_fault (map fault_of (outcomes (map (value_over f h) v.args)))) y (own_over (so_far i) v.at op (map (value_over f h) v.args)) (ap least_fault (faults_of_values (value_over f h) v.args) ∙ n)

  pub none_args : (i : ℕ) (v : Vertex) → slice_get vs i ≡ Some v → cut i ≡ true → fault_of (h i) ≡ None → least_in (value_over f h) v.args ≡ None
  none_args i v e c n = elim (none_or_some (least_in (value_over f h) v.args)) [
    | inl none ↦ none
    | inr some ↦ (let q : fault_of (h i) ≡ Some some.0 = passed_on i v v.made some.0 e c refl some.1 in absurd (cc))
  ]

  pub known_none : (i a : ℕ) (v : Vertex) → slice_get vs i ≡ Some v → cut i ≡ true → IsAmong v.args a → cut a ≡ false → fault_of (h a) ≡ None
  known_none i a v e c among n = ap fault_of (over.known a n) ∙ scalar_none (f a).outcome (known_scalar f cut v.made v.args a (can i v e c) among n)

  -- each fault is the own fault of a value that it comes from
  pub origin : IsOrdered vs → (P : ℕ → Type 0) → IsCutWork vs cut P → (n i : ℕ) (v : Vertex) (x : Fault) → i < n → slice_get vs i ≡ Some v → P i → fault_of (h i) ≡ Some x
      → (j : ℕ) × DependsOn vs i j × P j × (own_in vs (value_over f h) j ≡ Some x)
  origin ordered P work zero i v x l e c q = absurd (omega (arith, l))
  origin ordered P work (suc n) i v x l e c q = elim (none_or_some (least_in (value_over f h) v.args)) [
    | inl none ↦ (i, itself i, c, own_made (value_over f h) (slice_get vs i) v i x e none q)
    | inr some ↦
        let d : cut i ≡ true = (work.there i c).0 in
        let p : fault_of (h i) ≡ Some some.0 = passed_on i v v.made some.0 e d refl some.1 in
        let w = least_one (fault_in (value_over f h)) v.args x (some.1 ∙ (sym p ∙ q)) in
        elim (true_or_false (cut w.0)) [
          | inl is_cut ↦
              let less : w.0 < i = below_among i v.args w.0 (ordered i v e) w.1 in
              let b = get_before vs i w.0 v e less in
              let r = origin ordered P work n w.0 b.0 x (omega (arith, l, less)) b.1 (work.closed i w.0 v c e w.1 is_cut) w.2 in
              (r.0, through i w.0 r.0 v e w.1 r.1, r.2, r.3)
          | inr not_cut ↦ (let z : fault_of (h w.0) ≡ None = known_none i w.0 v e d w.1 not_cut in let y : fault_of (h w.0) ≡ Some x = w.2 in absurd (cc))
        ]
  ]

  -- filters have no fault of their own
  pub can_fail : (i : ℕ) (v : Vertex) (m : Made) (x : Fault) → slice_get vs i ≡ Some v → cut i ≡ true → v.made ≡ m → least_in (value_over f h) v.args ≡ None → fault_of (h i) ≡ Some x → never_fails m ≡ true → ⊥
  can_fail i v (operation filter) x e c q n y t =
      let z : fault_of (h i) ≡ None = ap fault_of (own_of i v filter e c q n) ∙ no_own v.at filter (map (value_over f h) v.args) refl in
      let w : None ≡ Some x = sym z ∙ y in
      cc
  can_fail i v (operation (constant k)) x e c q n y t = subst (λ m. CanBeCut f cut m v.args) q (can i v e c)
  can_fail i v (operation (head k)) x e c q n y t = subst (λ m. CanBeCut f cut m v.args) q (can i v e c)
  can_fail i v (operation (tail k)) x e c q n y t = subst (λ m. CanBeCut f cut m v.args) q (can i v e c)
  can_fail i v (operation distinct) x e c q n y t = subst (λ m. CanBeCut f cut m v.args) q (can i v e c)
  can_fail i v m x e c q n y t = absurd (cc)

  -- an own fault has the number of the expression, where no variable has a reading fault
  pub own_fault_number : ((i : ℕ) (v : Vertex) (s a : ℕ) → slice_get vs i ≡ Some v → cut i ≡ true → IsVariable v.made s a → fault_of (columns s a) ≡ None)
      → (i : ℕ) (v : Vertex) (m : Made) (x : Fault) → slice_get vs i ≡ Some v → cut i ≡ true → v.made ≡ m → least_in (value_over f h) v.args ≡ None → fault_of (h i) ≡ Some x → x.number ≡ v.at.number
  own_fault_number free i v (stored s a k) x e c q n y =
      let z : fault_of (columns s a) ≡ None = free i v s a e c (subst (λ m. IsVariable m s a) (sym q) (refl, refl)) in
      let w : h i ≡ columns s a = subst (λ m. h i ≡ outcome_over columns (so_far i) v.at m (map (value_over f h) v.args)) q (over.made i v e c) in
      let u : fault_of (columns s a) ≡ Some x = sym (ap fault_of w) ∙ y in
      absurd (cc)
  own_fault_number free i v (operation op) x e c q n y =
      own_over_number (so_far i) v.at op (map (value_over f h) v.args) (ap least_fault (faults_of_values (value_over f h) v.args) ∙ n) x (sym (ap fault_of (own_of i v op e c q n)) ∙ y)

-- ---- a block and the rows behind it

module _ {columns block rest : Columns} {so_far so_far_block so_far_rest : ℕ → List Seen} {vs : List Vertex} {f : ℕ → Tall} {cut : ℕ → Bool} {h g k : ℕ → Outcome}
    (over : IsOver columns so_far vs f cut h) (over_block : IsOver block so_far_block vs f cut g) (over_rest : IsOver rest so_far_rest vs f cut k)
    (ordered : IsOrdered vs) (can : AreCut f cut vs) (aligned : AreAligned vs cut g) (split : IsSplit columns block rest so_far so_far_block so_far_rest vs f cut g) where
  abbrev H : ℕ → Tall
  H = value_over f h

  abbrev G : ℕ → Tall
  G = value_over f g

  abbrev K : ℕ → Tall
  K = value_over f k

  abbrev Parts : ℕ → Type 0
  Parts a = AreParts (h a) (g a) (k a)

  all_known : (a : ℕ) → cut a ≡ false → (h a ≡ (f a).outcome) × (g a ≡ (f a).outcome) × (k a ≡ (f a).outcome)
  all_known a n = (over.known a n, over_block.known a n, over_rest.known a n)

  pub operands_none : (i : ℕ) (v : Vertex) → slice_get vs i ≡ Some v → cut i ≡ true → ((a : ℕ) → IsAmong v.args a → cut a ≡ true → Parts a)
      → (a : ℕ) → IsAmong v.args a → (fault_of (h a) ≡ None) × (fault_of (g a) ≡ None) × (fault_of (k a) ≡ None)
  operands_none i v e c parts a among = elim (true_or_false (cut a)) [
    | inl is_cut ↦ fault_parts (h a) (g a) (k a) (parts a among is_cut)
    | inr not_cut ↦
        (known_none over can i a v e c among not_cut, known_none over_block can i a v e c among not_cut, known_none over_rest can i a v e c among not_cut)
  ]

  -- where the operands have the rows of both parts, so has the outcome, or a fault
  pub joined_at : (i : ℕ) (v : Vertex) (op : Op) → slice_get vs i ≡ Some v → cut i ≡ true → v.made ≡ operation op → ((a : ℕ) → IsAmong v.args a → cut a ≡ true → Parts a) → Joined (h i) (g i) (k i)
  joined_at i v op e c q parts =
      let none = operands_none i v e c parts in
      let a : h i ≡ own_over (so_far i) v.at op (map H v.args) = own_of over can i v op e c q (all_none (fault_in H) v.args (λ b m. (none b m).0)) in
      let b : g i ≡ own_over (so_far_block i) v.at op (map G v.args) = own_of over_block can i v op e c q (all_none (fault_in G) v.args (λ b m. (none b m).1)) in
      let d : k i ≡ own_over (so_far_rest i) v.at op (map K v.args) = own_of over_rest can i v op e c q (all_none (fault_in K) v.args (λ b m. (none b m).2)) in
      let a2 : h i ≡ own_over (so_far_block i) v.at op (map H v.args) = a ∙ ap (λ n. own_over n v.at op (map H v.args)) (split.starts i) in
      let j = own_joined f cut h g k (so_far_block i) (so_far_rest i) v.at op v.args (subst (λ m. CanBeCut f cut m v.args) q (can i v e c)) parts all_known
      (λ x y rs ms r p s t u. aligned i x y v rs ms e r c p s t u)
      (λ s x r t. split.goes_on i x v s e c (q ∙ ap operation r) t) in
      let j1 : Joined (h i) (own_over (so_far_block i) v.at op (map G v.args)) (own_over (so_far_rest i) v.at op (map K v.args)) = subst (λ o. Joined o (own_over (so_far_block i) v.at op (map G v.args)) (own_over (so_far_rest i) v.at op (map K v.args))) (sym a2) j in
      let j2 : Joined (h i) (g i) (own_over (so_far_rest i) v.at op (map K v.args)) = subst (λ o. Joined (h i) o (own_over (so_far_rest i) v.at op (map K v.args))) (sym b) j1 in
      subst (λ o. Joined (h i) (g i) o) (sym d) j2

  pub stored_parts : (i : ℕ) (v : Vertex) (s a : ℕ) (class : Class) → slice_get vs i ≡ Some v → cut i ≡ true → v.made ≡ stored s a class → Parts i
  stored_parts i v s a class e c q =
      let p = split.columns_split i v s a e c (subst (λ m. IsVariable m s a) (sym q) (refl, refl)) in
      let x : h i ≡ columns s a = subst (λ m. h i ≡ outcome_over columns (so_far i) v.at m (map H v.args)) q (over.made i v e c) in
      let y : g i ≡ block s a = subst (λ m. g i ≡ outcome_over block (so_far_block i) v.at m (map G v.args)) q (over_block.made i v e c) in
      let z : k i ≡ rest s a = subst (λ m. k i ≡ outcome_over rest (so_far_rest i) v.at m (map K v.args)) q (over_rest.made i v e c) in
      (p.0, p.1, x ∙ p.2, y ∙ p.3, z ∙ p.4)

  -- there is no fault over all these rows, or there is none in the block and none behind it
  abbrev NoFaultAt : ℕ → Type 0
  NoFaultAt i = (fault_of (h i) ≡ None) ⊎ ((fault_of (g i) ≡ None) × (fault_of (k i) ≡ None))

  abbrev NoFaultOf : List ℕ → Type 0
  NoFaultOf args = (least_in H args ≡ None) ⊎ ((least_in G args ≡ None) × (least_in K args ≡ None))

  each_of : (args : List ℕ) (a : ℕ) → NoFaultOf args → IsAmong args a → NoFaultAt a
  each_of args a n i = elim n [ inl all ↦ inl (least_none (fault_in H) args a all i) | inr two ↦ inr (least_none (fault_in G) args a two.0 i, least_none (fault_in K) args a two.1 i) ]

  args_of : (i : ℕ) (v : Vertex) → slice_get vs i ≡ Some v → cut i ≡ true → NoFaultAt i → NoFaultOf v.args
  args_of i v e c n = elim n [
    | inl all ↦ inl (none_args over can i v e c all)
    | inr two ↦ inr (none_args over_block can i v e c two.0, none_args over_rest can i v e c two.1)
  ]

  parts_made : (i : ℕ) (v : Vertex) (m : Made) → slice_get vs i ≡ Some v → cut i ≡ true → v.made ≡ m → ((a : ℕ) → IsAmong v.args a → cut a ≡ true → Parts a) → NoFaultAt i → Parts i
  parts_made i v (stored s a class) e c q below n = stored_parts i v s a class e c q
  parts_made i v (operation op) e c q below n =
      let j = joined_at i v op e c q below in
      elim n [
        | inl all ↦ parts_of (h i) (g i) (k i) j (none_front (h i) (g i) (k i) j.joined j.front all) (none_back (h i) (g i) (k i) j.joined j.front all)
        | inr two ↦ parts_of (h i) (g i) (k i) j two.0 two.1
      ]

  -- by a bound on the place
  parts_below : (n i : ℕ) (v : Vertex) → i < n → slice_get vs i ≡ Some v → cut i ≡ true → NoFaultAt i → Parts i
  parts_below zero i v l e c none = absurd (omega (arith, l))
  parts_below (suc n) i v l e c none =
      parts_made i v v.made e c refl
      (λ a among is_cut.
      let less : a < i = below_among i v.args a (ordered i v e) among in
      let b = get_before vs i a v e less in
      parts_below n a b.0 (omega (arith, l, less)) b.1 is_cut (each_of v.args a (args_of i v e c none) among))
      none

  pub value_parts : (i : ℕ) (v : Vertex) → slice_get vs i ≡ Some v → cut i ≡ true → NoFaultAt i → Parts i
  value_parts i v e c none = parts_below (suc i) i v (omega (arith)) e c none

  pub operand_parts : (i : ℕ) (v : Vertex) → slice_get vs i ≡ Some v → cut i ≡ true → NoFaultOf v.args → (a : ℕ) → IsAmong v.args a → cut a ≡ true → Parts a
  operand_parts i v e c n a among is_cut =
      let b = get_before vs i a v e (below_among i v.args a (ordered i v e) among) in
      value_parts a b.0 b.1 is_cut (each_of v.args a n among)
