-- A scalar that counts as a number of a column's class does what the number does.
use Rattle.std.specs.Prelude.{ℤ, ◌≤ℤ◌, pos, int_le, unsigned_abs, not, ◌&&◌, ◌||◌, Bool, true, false, if◌then◌else◌, ◌==◌, Option, None, Some, option_map, Result, Ok}
use Rattle.std.proofs.Common.{ℕ, ◌+◌, ◌≡◌, List, [], ◌∷◌, get_or, map, refl, sym, ◌∙◌, ap, arith as arithmetic_facts}
use Rattle.tall_int.specs.declared.operators.Arith.{Arith}
use Rattle.tall_int.specs.declared.operators.Arith.TheVariants as arith
use Rattle.tall_int.specs.Twos.{twos_and, twos_or, twos_xor}
use Rattle.tall_value.specs.declared.class.IntKind.{IntKind}
use Rattle.tall_value.specs.declared.faults.CellFault.{CellFault}
use Rattle.tall_value.specs.declared.operators.Binary.{Binary}
use Rattle.tall_value.specs.declared.operators.Binary.TheVariants.{Add, Sub, Mul, Div, Modulo, Idivide, BitAnd, BitOr, BitXor, Eq, Ne, Lt, Le, Gt, Ge, StrCmp, And, Or}
use Rattle.tall_value.specs.Cells.{Seen, whole, logical, double, text, amount, bit}
use Rattle.tall_value.specs.CellOperators.{integer_side, or_zero, in_class, converted, arithmetic, double_cell, of_doubles, as_double, bits, compared, comparison, equal, below, above, truth, joined, binary_cell}
use Rattle.tall_value.specs.Columns.{numbered}
use Rattle.tall_value.specs.Elementwise.{at_row, each_row, beside}
use Rattle.tall_value.specs.Classes.{is_same, least, greatest}
use Rattle.tall_value.proofs.ClassLaws.{same_integers}
use Rattle.tall_dense.specs.Ranges.{in_range}
use Rattle.std.proofs.lemmas.Int.{ints}
use Rattle.tall_dense.proofs.Narrowed.{nearest_inside}
use Rattle.tall_column.specs.Scalars.{number_beside, is_bits}

-- ---- the number that a scalar counts as

-- of the class, or a logical or a double
abbrev pub IsBeside : IntKind → Seen → Type 0
IsBeside k (whole j n) = j ≡ k
IsBeside k (logical b) = Unit {0}
IsBeside k (double d) = Unit {0}
IsBeside k (text t) = ⊥

-- a scalar that counts as the number n of class k
pub record StandsFor (k : IntKind) (n : ℤ) (scalar : Seen) : Type 0 where
  pub beside : IsBeside k scalar
  pub counts : amount scalar ≡ Some n

some_if : (b : Bool) (o : Option ℤ) (n : ℤ) → (if b then o else None) ≡ Some n → (b ≡ true) × (o ≡ Some n)
some_if true o n h = (refl, h)
some_if false o n h = absurd cc

pub stands : (k : IntKind) (n : ℤ) (s : Seen) → number_beside k s ≡ Some n → StandsFor k n s
stands k n (whole j v) h =
    let both = some_if (is_same j k) (Some v) n h in
    record { beside = same_integers j k both.0; counts = both.1 }
stands k n (logical b) h = record { beside = tt; counts = h }
stands k n (double d) h = record { beside = tt; counts = h }
stands k n (text t) h = absurd (let no : ◌≡◌ {A = Option ℤ} None (Some n) = h in cc)

-- what is made of a number in a range stands for the number
pub in_range-is : {A : Type 0} (f : A → ℤ) (low high n : ℤ) (a : A) → option_map f (Some a) ≡ in_range low high n → f a ≡ n
in_range-is f low high n a h =
    let both = some_if (int_le low n && int_le n high) (Some n) (f a) (sym h) in
    let same : ◌≡◌ {A = Option ℤ} (Some n) (Some (f a)) = both.1 in cc

-- ---- what an operator looks at in it

-- what an operator looks at in two operands with an integer among them
pub record Alike (k : IntKind) (x y v w : Seen) : Type 0 where
  pub side : integer_side x y ≡ Some k
  pub other_side : integer_side v w ≡ Some k
  pub first : amount x ≡ amount v
  pub second : amount y ≡ amount w
  pub compares : comparison x y ≡ comparison v w
  pub first_truth : truth x ≡ truth v
  pub second_truth : truth y ≡ truth w

abbrev in_side : Arith → Option ℤ → Option ℤ → Option IntKind → Result Seen CellFault → Result Seen CellFault
in_side op a b s other = elim s [ Some k ↦ Ok (whole k (in_class k op a b)) | None ↦ other ]

abbrev in_bits : (ℤ → ℤ → ℤ) → Option ℤ → Option ℤ → Option IntKind → Result Seen CellFault
in_bits op a b s = elim s [ Some k ↦ Ok (whole k (op (converted k a) (converted k b))) | None ↦ Ok (double None) ]

arithmetic-is : (op : Arith) (k : IntKind) (x y : Seen) → integer_side x y ≡ Some k → arithmetic op x y ≡ Ok (whole k (in_class k op (amount x) (amount y)))
arithmetic-is op k x y h = ap (λ (s : Option IntKind). in_side op (amount x) (amount y) s (double_cell (of_doubles op (as_double x) (as_double y)))) h

bits-is : (op : ℤ → ℤ → ℤ) (k : IntKind) (x y : Seen) → integer_side x y ≡ Some k → bits op x y ≡ Ok (whole k (op (converted k (amount x)) (converted k (amount y))))
bits-is op k x y h = ap (λ (s : Option IntKind). in_bits op (amount x) (amount y) s) h

arithmetic-same : (op : Arith) (k : IntKind) (x y v w : Seen) → Alike k x y v w → arithmetic op x y ≡ arithmetic op v w
arithmetic-same op k x y v w a =
    arithmetic-is op k x y a.side ∙ ap (λ n. Ok (whole k (in_class k op n (amount y)))) a.first ∙ ap (λ n. Ok (whole k (in_class k op (amount v) n))) a.second
    ∙ sym (arithmetic-is op k v w a.other_side)

bits-same : (op : ℤ → ℤ → ℤ) (k : IntKind) (x y v w : Seen) → Alike k x y v w → bits op x y ≡ bits op v w
bits-same op k x y v w a =
    bits-is op k x y a.side ∙ ap (λ n. Ok (whole k (op (converted k n) (converted k (amount y))))) a.first
    ∙ ap (λ n. Ok (whole k (op (converted k (amount v)) (converted k n)))) a.second ∙ sym (bits-is op k v w a.other_side)

pub same_cell : (op : Binary) (k : IntKind) (x y v w : Seen) → Alike k x y v w → binary_cell op x y ≡ binary_cell op v w
same_cell Add k x y v w a = arithmetic-same arith.Add k x y v w a
same_cell Sub k x y v w a = arithmetic-same arith.Sub k x y v w a
same_cell Mul k x y v w a = arithmetic-same arith.Mul k x y v w a
same_cell Div k x y v w a = arithmetic-same arith.Div k x y v w a
same_cell Modulo k x y v w a = arithmetic-same arith.Modulo k x y v w a
same_cell (Idivide how) k x y v w a = arithmetic-same (arith.Idivide how) k x y v w a
same_cell BitAnd k x y v w a = bits-same twos_and k x y v w a
same_cell BitOr k x y v w a = bits-same twos_or k x y v w a
same_cell BitXor k x y v w a = bits-same twos_xor k x y v w a
same_cell Eq k x y v w a = ap (λ o. Ok (logical (equal o))) a.compares
same_cell Ne k x y v w a = ap (λ o. Ok (logical (not (equal o)))) a.compares
same_cell Lt k x y v w a = ap (λ o. Ok (logical (below o))) a.compares
same_cell Le k x y v w a = ap (λ o. Ok (logical (below o || equal o))) a.compares
same_cell Gt k x y v w a = ap (λ o. Ok (logical (above o))) a.compares
same_cell Ge k x y v w a = ap (λ o. Ok (logical (above o || equal o))) a.compares
same_cell StrCmp k x y v w a = ap (λ o. Ok (logical (equal o))) a.compares
same_cell And k x y v w a = ap (λ p. joined ◌&&◌ p (truth y)) a.first_truth ∙ ap (λ q. joined ◌&&◌ (truth v) q) a.second_truth
same_cell Or k x y v w a = ap (λ p. joined ◌||◌ p (truth y)) a.first_truth ∙ ap (λ q. joined ◌||◌ (truth v) q) a.second_truth

abbrev truth_of : ℤ → Result Bool CellFault
truth_of n = Ok (not (unsigned_abs n == 0))

number_truth : (v n : ℤ) → ◌≡◌ {A = Option ℤ} (Some v) (Some n) → truth_of v ≡ truth_of n
number_truth v n h = let same : v ≡ n = cc in ap truth_of same

scalar_truth : (k : IntKind) (n : ℤ) (s : Seen) → StandsFor k n s → truth s ≡ truth_of n
scalar_truth k n (whole j v) h = number_truth v n h.counts
scalar_truth k n (logical true) h = number_truth (pos 1) n h.counts
scalar_truth k n (logical false) h = number_truth (pos 0) n h.counts
scalar_truth k n (double (Some v)) h = number_truth v n h.counts
scalar_truth k n (double None) h = absurd (let no : ◌≡◌ {A = Option ℤ} None (Some n) = h.counts in cc)
scalar_truth k n (text t) h = absurd h.beside

pub before_alike : (k : IntKind) (n m : ℤ) (s : Seen) → StandsFor k n s → Alike k s (whole k m) (whole k n) (whole k m)
before_alike k n m (whole j v) h = record { side = ap Some h.beside; other_side = refl; first = h.counts; second = refl; compares = ap (λ o. compared o (Some m)) h.counts; first_truth = scalar_truth k n (whole j v) h; second_truth = refl }
before_alike k n m (logical b) h = record { side = refl; other_side = refl; first = h.counts; second = refl; compares = ap (λ o. compared o (Some m)) h.counts; first_truth = scalar_truth k n (logical b) h; second_truth = refl }
before_alike k n m (double d) h = record { side = refl; other_side = refl; first = h.counts; second = refl; compares = ap (λ o. compared o (Some m)) h.counts; first_truth = scalar_truth k n (double d) h; second_truth = refl }
before_alike k n m (text t) h = absurd h.beside

pub behind_alike : (k : IntKind) (n m : ℤ) (s : Seen) → StandsFor k n s → Alike k (whole k m) s (whole k m) (whole k n)
behind_alike k n m (whole j v) h = record { side = refl; other_side = refl; first = refl; second = h.counts; compares = ap (λ o. compared (Some m) o) h.counts; first_truth = refl; second_truth = scalar_truth k n (whole j v) h }
behind_alike k n m (logical b) h = record { side = refl; other_side = refl; first = refl; second = h.counts; compares = ap (λ o. compared (Some m) o) h.counts; first_truth = refl; second_truth = scalar_truth k n (logical b) h }
behind_alike k n m (double d) h = record { side = refl; other_side = refl; first = refl; second = h.counts; compares = ap (λ o. compared (Some m) o) h.counts; first_truth = refl; second_truth = scalar_truth k n (double d) h }
behind_alike k n m (text t) h = absurd h.beside

beside_same : (op : Binary) (left : Bool) (k : IntKind) (n m : ℤ) (s : Seen) → StandsFor k n s → beside op left s (whole k m) ≡ beside op left (whole k n) (whole k m)
beside_same op true k n m s h = same_cell op k s (whole k m) (whole k n) (whole k m) (before_alike k n m s h)
beside_same op false k n m s h = same_cell op k (whole k m) s (whole k m) (whole k n) (behind_alike k n m s h)

-- rows that an operator takes alike
pub each_alike : {A : Type 0} (s t : A → Seen) (f g : Seen → Result Seen CellFault) → ((a : A) → f (s a) ≡ g (t a))
    → (i : ℕ) (items : List A) → each_row f (numbered i (map s items)) ≡ each_row g (numbered i (map t items))
each_alike s t f g same i [] = refl
each_alike s t f g same i (a ∷ items) =
    ap (λ r. at_row i r (each_row f (numbered (i + 1) (map s items)))) (same a)
    ∙ ap (λ rest. at_row i (g (t a)) rest) (each_alike s t f g same (i + 1) items)

-- the rows beside a scalar are those beside the number that it counts as
pub rows_beside : {A : Type 0} (shown : A → Seen) (number : A → ℤ) (op : Binary) (left : Bool) (k : IntKind) (n : ℤ) (s : Seen) (items : List A)
    → ((a : A) → shown a ≡ whole k (number a)) → StandsFor k n s
    → each_row (beside op left s) (numbered 0 (map shown items)) ≡ each_row (beside op left (whole k n)) (numbered 0 (map shown items))
rows_beside shown number op left k n s items is h =
    each_alike shown shown (beside op left s) (beside op left (whole k n))
    (λ a. ap (λ c. beside op left s c) (is a) ∙ beside_same op left k n (number a) s h ∙ ap (λ c. beside op left (whole k n) c) (sym (is a)))
    0 items

-- ---- a double that bits are taken of

bits_cell : (op : Binary) (left : Bool) (k : IntKind) (m n : ℤ) (d : Option ℤ) → is_bits op ≡ true → converted k (Some n) ≡ converted k d
    → beside op left (double d) (whole k m) ≡ beside op left (whole k n) (whole k m)
bits_cell BitAnd true k m n d h e = ap (λ v. Ok (whole k (twos_and v (converted k (Some m))))) (sym e)
bits_cell BitAnd false k m n d h e = ap (λ v. Ok (whole k (twos_and (converted k (Some m)) v))) (sym e)
bits_cell BitOr true k m n d h e = ap (λ v. Ok (whole k (twos_or v (converted k (Some m))))) (sym e)
bits_cell BitOr false k m n d h e = ap (λ v. Ok (whole k (twos_or (converted k (Some m)) v))) (sym e)
bits_cell BitXor true k m n d h e = ap (λ v. Ok (whole k (twos_xor v (converted k (Some m))))) (sym e)
bits_cell BitXor false k m n d h e = ap (λ v. Ok (whole k (twos_xor (converted k (Some m)) v))) (sym e)
bits_cell Add left k m n d h e = absurd cc
bits_cell Sub left k m n d h e = absurd cc
bits_cell Mul left k m n d h e = absurd cc
bits_cell Div left k m n d h e = absurd cc
bits_cell Modulo left k m n d h e = absurd cc
bits_cell (Idivide how) left k m n d h e = absurd cc
bits_cell Eq left k m n d h e = absurd cc
bits_cell Ne left k m n d h e = absurd cc
bits_cell Lt left k m n d h e = absurd cc
bits_cell Le left k m n d h e = absurd cc
bits_cell Gt left k m n d h e = absurd cc
bits_cell Ge left k m n d h e = absurd cc
bits_cell StrCmp left k m n d h e = absurd cc
bits_cell And left k m n d h e = absurd cc
bits_cell Or left k m n d h e = absurd cc

converted-twice : (k : IntKind) (d : Option ℤ) → least k ≤ℤ greatest k → converted k (Some (converted k d)) ≡ converted k d
converted-twice k d h = nearest_inside (least k) (greatest k) (least k) (greatest k) (or_zero d) (omega (arithmetic_facts, ints)) h (omega (arithmetic_facts, ints))

-- the rows beside the number of the class that the double becomes
pub rows_of_bits : {A : Type 0} (shown : A → Seen) (number : A → ℤ) (op : Binary) (left : Bool) (k : IntKind) (n : ℤ) (d : Option ℤ) (items : List A)
    → ((a : A) → shown a ≡ whole k (number a)) → is_bits op ≡ true → least k ≤ℤ greatest k → n ≡ converted k d
    → each_row (beside op left (double d)) (numbered 0 (map shown items)) ≡ each_row (beside op left (whole k n)) (numbered 0 (map shown items))
rows_of_bits shown number op left k n d items is bit ends nearest =
    let same : converted k (Some n) ≡ converted k d = ap (λ m. converted k (Some m)) nearest ∙ converted-twice k d ends in
    each_alike shown shown (beside op left (double d)) (beside op left (whole k n))
    (λ a. ap (λ c. beside op left (double d) c) (is a) ∙ bits_cell op left k (number a) n d bit same ∙ ap (λ c. beside op left (whole k n) c) (sym (is a)))
    0 items
