-- The tests for equal operations, trees and spaces mean equality.
use Rattle.std.specs.Prelude.{◌≡◌, refl, ℤ, Bool, true, false, ◌&&◌, ◌==◌, Option, None, Some}
use Rattle.std.proofs.Common.{ap, subst, ◌∙◌}
use Rattle.std.specs.Bool.{Decides}
use Rattle.std.specs.Ordering.{int_eq}
use Rattle.std.specs.Cmp.Lexicographic.{bytes_decides}
use Rattle.std.proofs.lemmas.Bool.Decides.{Decides-int_eq}
use Rattle.tall_value.specs.Cells.{Seen, whole, logical, double, text}
use Rattle.tall_value.specs.Classes.{is_same}
use Rattle.tall_value.specs.Classes as classes
use Rattle.tall_semantics.proofs.Basics.{both, and_true}
use Rattle.tall_semantics.specs.Operations.{Op, constant, unary, binary, filter, reduce, scan, head, tail, distinct, group, Tree, column, leaf, one, two}
use Rattle.tall_semantics.specs.Spaces.{Space, single, rows_of, filtered, first, last, groups}
use Rattle.tall_semantics.specs.Spaces as spaces
use Rattle.tall_semantics.specs.Equality.{class_place, unary_place, binary_place, reduction_place, scan_place, method_place, part_place, same_bit, same_double, same_cell, same_op, same_tree, same_data, same_space}
use Rattle.tall_semantics.proofs.VariantLaws.{number_is, same_number, class_is, kind_is, unary_is, binary_is, reduction_is, scan_is, method_is, part_is}

-- ---- cells

bit_is : (a b : Bool) → same_bit a b ≡ true → a ≡ b
bit_is true true h = refl
bit_is true false h = absurd (cc)
bit_is false true h = absurd (cc)
bit_is false false h = refl

same_bits : (a : Bool) → same_bit a a ≡ true
same_bits true = refl
same_bits false = refl

double_is : (m n : Option ℤ) → same_double m n ≡ true → m ≡ n
double_is (Some m) (Some n) h = ap Some ((Decides-int_eq m n).0 h)
double_is (Some m) None h = absurd (cc)
double_is None (Some n) h = absurd (cc)
double_is None None h = refl

same_doubles : (m : Option ℤ) → same_double m m ≡ true
same_doubles (Some m) = (Decides-int_eq m m).1 refl
same_doubles None = refl

cell_is : (c d : Seen) → same_cell c d ≡ true → c ≡ d
cell_is (whole j m) (whole k n) h =
    let p : (is_same j k ≡ true) × (int_eq m n ≡ true) = both (is_same j k) (int_eq m n) h in
    let e : j ≡ k = kind_is j k p.0 in
    let f : m ≡ n = (Decides-int_eq m n).0 p.1 in
    ap (λ k. whole k m) e ∙ ap (λ n. whole k n) f
cell_is (logical a) (logical b) h = ap logical (bit_is a b h)
cell_is (double m) (double n) h = ap double (double_is m n h)
cell_is (text s) (text t) h = ap text ((bytes_decides s t).0 h)
cell_is c d h = absurd (cc)

same_cells : (c : Seen) → same_cell c c ≡ true
same_cells (whole k n) = and_true (is_same k k) (int_eq n n) (same_number (classes.place k)) ((Decides-int_eq n n).1 refl)
same_cells (logical a) = same_bits a
same_cells (double m) = same_doubles m
same_cells (text t) = (bytes_decides t t).1 refl

-- ---- operations

op_is : (f g : Op) → same_op f g ≡ true → f ≡ g
op_is (constant c) (constant d) h = ap constant (cell_is c d h)
op_is (binary f) (binary g) h = ap binary (binary_is f g h)
op_is (unary f) (unary g) h = ap unary (unary_is f g h)
op_is filter filter h = refl
op_is (reduce f) (reduce g) h = ap reduce (reduction_is f g h)
op_is (scan f) (scan g) h = ap scan (scan_is f g h)
op_is (head j) (head k) h = ap head (number_is j k h)
op_is (tail j) (tail k) h = ap tail (number_is j k h)
op_is distinct distinct h = refl
op_is (group m p) (group n q) h =
    let e : ((method_place m == method_place n) ≡ true) × ((part_place p == part_place q) ≡ true) = both (method_place m == method_place n) (part_place p == part_place q) h in
    ap (λ n. group n p) (method_is m n e.0) ∙ ap (λ q. group n q) (part_is p q e.1)
op_is f g h = absurd (cc)

same_ops : (f : Op) → same_op f f ≡ true
same_ops (constant c) = same_cells c
same_ops (binary f) = same_number (binary_place f)
same_ops (unary f) = same_number (unary_place f)
same_ops filter = refl
same_ops (reduce f) = same_number (reduction_place f)
same_ops (scan f) = same_number (scan_place f)
same_ops (head k) = same_number k
same_ops (tail k) = same_number k
same_ops distinct = refl
same_ops (group m p) = and_true (method_place m == method_place m) (part_place p == part_place p) (same_number (method_place m)) (same_number (part_place p))

-- ---- trees

tree_is : (x y : Tree) → same_tree x y ≡ true → x ≡ y
tree_is (column s v c) (column t w d) h =
    let p : ((s == t && v == w) ≡ true) × ((class_place c == class_place d) ≡ true) = both (s == t && v == w) (class_place c == class_place d) h in
    let q : ((s == t) ≡ true) × ((v == w) ≡ true) = both (s == t) (v == w) p.0 in
    ap (λ s. column s v c) (number_is s t q.0) ∙ (ap (λ v. column t v c) (number_is v w q.1) ∙ ap (λ c. column t w c) (class_is c d p.1))
tree_is (leaf f) (leaf g) h = ap leaf (op_is f g h)
tree_is (one f x) (one g y) h =
    let p : (same_op f g ≡ true) × (same_tree x y ≡ true) = both (same_op f g) (same_tree x y) h in
    ap (λ f. one f x) (op_is f g p.0) ∙ ap (λ x. one g x) (tree_is x y p.1)
tree_is (two f x y) (two g z w) h =
    let p : ((same_op f g && same_tree x z) ≡ true) × (same_tree y w ≡ true) = both (same_op f g && same_tree x z) (same_tree y w) h in
    let q : (same_op f g ≡ true) × (same_tree x z ≡ true) = both (same_op f g) (same_tree x z) p.0 in
    ap (λ f. two f x y) (op_is f g q.0) ∙ (ap (λ x. two g x y) (tree_is x z q.1) ∙ ap (λ y. two g z y) (tree_is y w p.1))
tree_is x y h = absurd (cc)

same_trees : (x : Tree) → same_tree x x ≡ true
same_trees (column s v c) = and_true (s == s && v == v) (class_place c == class_place c) (and_true (s == s) (v == v) (same_number s) (same_number v)) (same_number (class_place c))
same_trees (leaf f) = same_ops f
same_trees (one f x) = and_true (same_op f f) (same_tree x x) (same_ops f) (same_trees x)
same_trees (two f x y) = and_true (same_op f f && same_tree x x) (same_tree y y) (and_true (same_op f f) (same_tree x x) (same_ops f) (same_trees x)) (same_trees y)

-- ---- spaces

data_is : (x y : Option Tree) → same_data x y ≡ true → x ≡ y
data_is (Some x) (Some y) h = ap Some (tree_is x y h)
data_is (Some x) None h = absurd (cc)
data_is None (Some y) h = absurd (cc)
data_is None None h = refl

same_datas : (x : Option Tree) → same_data x x ≡ true
same_datas (Some x) = same_trees x
same_datas None = refl

space_is : (s t : Space) → same_space s t ≡ true → s ≡ t
space_is single single h = refl
space_is (rows_of s) (rows_of t) h = ap rows_of (number_is s t h)
space_is (filtered s m) (filtered t n) h =
    let p : (same_space s t ≡ true) × (same_tree m n ≡ true) = both (same_space s t) (same_tree m n) h in
    ap (λ s. filtered s m) (space_is s t p.0) ∙ ap (λ m. filtered t m) (tree_is m n p.1)
space_is (first j s) (first k t) h =
    let p : ((j == k) ≡ true) × (same_space s t ≡ true) = both (j == k) (same_space s t) h in
    ap (λ j. first j s) (number_is j k p.0) ∙ ap (λ s. first k s) (space_is s t p.1)
space_is (last j s) (last k t) h =
    let p : ((j == k) ≡ true) × (same_space s t ≡ true) = both (j == k) (same_space s t) h in
    ap (λ j. last j s) (number_is j k p.0) ∙ ap (λ s. last k s) (space_is s t p.1)
space_is (spaces.distinct x) (spaces.distinct y) h = ap spaces.distinct (tree_is x y h)
space_is (groups m k v) (groups n l w) h =
    let p : ((method_place m == method_place n && same_tree k l) ≡ true) × (same_data v w ≡ true) = both (method_place m == method_place n && same_tree k l) (same_data v w) h in
    let q : ((method_place m == method_place n) ≡ true) × (same_tree k l ≡ true) = both (method_place m == method_place n) (same_tree k l) p.0 in
    ap (λ m. groups m k v) (method_is m n q.0) ∙ (ap (λ k. groups n k v) (tree_is k l q.1) ∙ ap (λ v. groups n l v) (data_is v w p.1))
space_is s t h = absurd (cc)

same_spaces : (s : Space) → same_space s s ≡ true
same_spaces single = refl
same_spaces (rows_of s) = same_number s
same_spaces (filtered s m) = and_true (same_space s s) (same_tree m m) (same_spaces s) (same_trees m)
same_spaces (first k s) = and_true (k == k) (same_space s s) (same_number k) (same_spaces s)
same_spaces (last k s) = and_true (k == k) (same_space s s) (same_number k) (same_spaces s)
same_spaces (spaces.distinct x) = same_trees x
same_spaces (groups m k v) = and_true (method_place m == method_place m && same_tree k k) (same_data v v) (and_true (method_place m == method_place m) (same_tree k k) (same_number (method_place m)) (same_trees k)) (same_datas v)

-- ---- as laws

decided : {A : Type 0} (same : A → A → Bool) → ((a b : A) → same a b ≡ true → a ≡ b) → ((a : A) → same a a ≡ true) → (a b : A) → Decides (same a b) (a ≡ b)
decided same is all a b = (is a b, λ e. subst (λ c. same a c ≡ true) e (all a))

pub ops_decided : (f g : Op) → Decides (same_op f g) (f ≡ g)
ops_decided = decided same_op op_is same_ops

pub trees_decided : (x y : Tree) → Decides (same_tree x y) (x ≡ y)
trees_decided = decided same_tree tree_is same_trees

pub spaces_decided : (s t : Space) → Decides (same_space s t) (s ≡ t)
spaces_decided = decided same_space space_is same_spaces
