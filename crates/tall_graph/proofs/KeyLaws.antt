-- Equal keys stand for equal things, and equal things have equal keys; what a key stands for stays as texts, forms and
-- spaces are added.
use Rattle.std.specs.Prelude.{◌≡◌, refl, ℕ, Bool, true, false, Option, None, Some, List, [], ◌∷◌, ◌++◌, bytes_eq}
use Rattle.std.proofs.Common.{ap, sym, subst, ◌∙◌}
use Rattle.std.proofs.lemmas.Slice.Eq.{bytes_eq-Decides}
use Rattle.tall_value.specs.declared.functions.Method.{Method}
use Rattle.tall_value.specs.Cells.{Seen, whole, logical, double, text}
use Rattle.tall_semantics.specs.Operations.{Op, constant, unary, binary, reduce, scan, head, tail, group, Part, Tree, column, leaf, one, two}
use Rattle.tall_semantics.specs.Spaces.{Space, single, rows_of, filtered, first, last, groups}
use Rattle.tall_semantics.specs.Spaces as spaces
use Rattle.tall_semantics.specs.Equality.{same_tree, same_space}
use Rattle.tall_semantics.specs.Forms.{first_place}
use Rattle.tall_semantics.proofs.EqualityLaws.{trees_decided, spaces_decided}
use Rattle.tall_graph.specs.declared.classes.Part.{Part as CodePart}
use Rattle.tall_graph.specs.declared.classes.Part.TheVariants as part
use Rattle.tall_graph.specs.declared.keys.CellKey.{CellKey}
use Rattle.tall_graph.specs.declared.keys.CellKey.TheVariants as cell
use Rattle.tall_graph.specs.declared.keys.OpKey.{OpKey}
use Rattle.tall_graph.specs.declared.keys.OpKey.TheVariants as op
use Rattle.tall_graph.specs.declared.keys.FormKey.{FormKey}
use Rattle.tall_graph.specs.declared.keys.FormKey.TheVariants.{Column, Over}
use Rattle.tall_graph.specs.declared.keys.Forms.{Forms}
use Rattle.tall_graph.specs.declared.keys.Forms.TheVariants as forms
use Rattle.tall_graph.specs.declared.keys.SpaceKey.{SpaceKey}
use Rattle.tall_graph.specs.declared.keys.SpaceKey.TheVariants as key
use Rattle.tall_graph.specs.Vertices.{part_seen}
use Rattle.tall_graph.specs.Numbers.{IsNumber}
use Rattle.tall_graph.specs.Keys.{IsCellKey, IsOpKey, AreForms, tree_over, IsFormKey, IsForm, IsSpaceKey}
use Rattle.tall_graph.proofs.TableLaws.{one_value, number_longer}

text_one : (ts : List (List ℕ)) (n : ℕ) (x y : List ℕ) → IsNumber bytes_eq ts n x → IsNumber bytes_eq ts n y → x ≡ y
text_one = one_value bytes_eq bytes_eq-Decides

tree_one : (ts : List Tree) (n : ℕ) (x y : Tree) → IsNumber same_tree ts n x → IsNumber same_tree ts n y → x ≡ y
tree_one = one_value same_tree trees_decided

space_one : (ts : List Space) (n : ℕ) (x y : Space) → IsNumber same_space ts n x → IsNumber same_space ts n y → x ≡ y
space_one = one_value same_space spaces_decided

-- equal things have one number
number_one : {A : Type 0} (same : A → A → Bool) (xs : List A) (m n : ℕ) (x y : A) → x ≡ y → IsNumber same xs m x → IsNumber same xs n y → m ≡ n
number_one same xs m n x y e p q = sym p.first ∙ (ap (λ z. first_place same z xs) e ∙ q.first)

-- ---- cells

cell_one : (ts : List (List ℕ)) (k : CellKey) (c d : Seen) → IsCellKey ts k c → IsCellKey ts k d → c ≡ d
cell_one ts (cell.Whole k n) c d p q = p ∙ sym q
cell_one ts (cell.Logical b) c d p q = p ∙ sym q
cell_one ts (cell.Double x) c d p q = p ∙ sym q
cell_one ts (cell.Text n) c d p q = p.2 ∙ (ap text (text_one ts n p.0 q.0 p.1 q.1) ∙ sym q.2)

text_inside : (s t : List ℕ) → text s ≡ text t → s ≡ t
text_inside s t h = cc

cell_key : (ts : List (List ℕ)) (k l : CellKey) (c : Seen) → IsCellKey ts k c → IsCellKey ts l c → k ≡ l
cell_key ts (cell.Whole j m) (cell.Whole k n) c p q = (let e : whole j m ≡ whole k n = sym p ∙ q in cc)
cell_key ts (cell.Logical a) (cell.Logical b) c p q = (let e : logical a ≡ logical b = sym p ∙ q in cc)
cell_key ts (cell.Double x) (cell.Double y) c p q = (let e : double x ≡ double y = sym p ∙ q in cc)
cell_key ts (cell.Text m) (cell.Text n) c p q = ap cell.Text (number_one bytes_eq ts m n p.0 q.0 (text_inside p.0 q.0 (sym p.2 ∙ q.2)) p.1 q.1)
cell_key ts (cell.Text m) (cell.Whole k n) c p q = (let e : text p.0 ≡ whole k n = sym p.2 ∙ q in absurd (cc))
cell_key ts (cell.Text m) (cell.Logical b) c p q = (let e : text p.0 ≡ logical b = sym p.2 ∙ q in absurd (cc))
cell_key ts (cell.Text m) (cell.Double x) c p q = (let e : text p.0 ≡ double x = sym p.2 ∙ q in absurd (cc))
cell_key ts (cell.Whole k n) (cell.Text m) c p q = (let e : text q.0 ≡ whole k n = sym q.2 ∙ p in absurd (cc))
cell_key ts (cell.Logical b) (cell.Text m) c p q = (let e : text q.0 ≡ logical b = sym q.2 ∙ p in absurd (cc))
cell_key ts (cell.Double x) (cell.Text m) c p q = (let e : text q.0 ≡ double x = sym q.2 ∙ p in absurd (cc))
cell_key ts k l c p q = absurd (cc)

cell_more : (ts us : List (List ℕ)) (k : CellKey) (c : Seen) → IsCellKey ts k c → IsCellKey (ts ++ us) k c
cell_more ts us (cell.Whole j m) c p = p
cell_more ts us (cell.Logical b) c p = p
cell_more ts us (cell.Double x) c p = p
cell_more ts us (cell.Text n) c p = (p.0, number_longer bytes_eq bytes_eq-Decides ts us n p.0 p.1, p.2)

-- ---- operations

op_one : (ts : List (List ℕ)) (k : OpKey) (f g : Op) → IsOpKey ts k f → IsOpKey ts k g → f ≡ g
op_one ts (op.Constant k) f g p q = p.2 ∙ (ap constant (cell_one ts k p.0 q.0 p.1 q.1) ∙ sym q.2)
op_one ts (op.Unary h) f g p q = p ∙ sym q
op_one ts (op.Binary h) f g p q = p ∙ sym q
op_one ts op.Filter f g p q = p ∙ sym q
op_one ts (op.Reduce r) f g p q = p ∙ sym q
op_one ts (op.Scan r) f g p q = p ∙ sym q
op_one ts (op.Head k) f g p q = p ∙ sym q
op_one ts (op.Tail k) f g p q = p ∙ sym q
op_one ts op.Distinct f g p q = p ∙ sym q
op_one ts (op.Group m n) f g p q = p ∙ sym q

constant_inside : (c d : Seen) → constant c ≡ constant d → c ≡ d
constant_inside c d h = cc

part_key : (p q : CodePart) → part_seen p ≡ part_seen q → p ≡ q
part_key part.Keys part.Keys h = refl
part_key part.Counts part.Counts h = refl
part_key part.Values part.Values h = refl
part_key p q h = absurd (cc)

group_inside : (m n : Method) (a b : Part) → group m a ≡ group n b → (m ≡ n) × (a ≡ b)
group_inside m n a b h = (cc, cc)

is_constant : Op → Bool
is_constant (constant c) = true
is_constant f = false

is_constant_key : OpKey → Bool
is_constant_key (op.Constant k) = true
is_constant_key k = false

constant_key : (ts : List (List ℕ)) (k : OpKey) (f : Op) → IsOpKey ts k f → is_constant f ≡ is_constant_key k
unfolding is_constant is_constant_key
constant_key ts (op.Constant k) f p = ap is_constant p.2
constant_key ts (op.Unary h) f p = ap is_constant p
constant_key ts (op.Binary h) f p = ap is_constant p
constant_key ts op.Filter f p = ap is_constant p
constant_key ts (op.Reduce r) f p = ap is_constant p
constant_key ts (op.Scan r) f p = ap is_constant p
constant_key ts (op.Head k) f p = ap is_constant p
constant_key ts (op.Tail k) f p = ap is_constant p
constant_key ts op.Distinct f p = ap is_constant p
constant_key ts (op.Group m n) f p = ap is_constant p

both_constant : (ts : List (List ℕ)) (k l : OpKey) (f : Op) → IsOpKey ts k f → IsOpKey ts l f → is_constant_key k ≡ is_constant_key l
both_constant ts k l f p q = sym (constant_key ts k f p) ∙ constant_key ts l f q

op_key : (ts : List (List ℕ)) (k l : OpKey) (f : Op) → IsOpKey ts k f → IsOpKey ts l f → k ≡ l
unfolding is_constant
op_key ts (op.Constant k) (op.Constant l) f p q = ap op.Constant (cell_key ts k l p.0 p.1 (subst (λ c. IsCellKey ts l c) (constant_inside q.0 p.0 (sym q.2 ∙ p.2)) q.1))
op_key ts (op.Unary g) (op.Unary h) f p q = (let e : unary g ≡ unary h = sym p ∙ q in cc)
op_key ts (op.Binary g) (op.Binary h) f p q = (let e : binary g ≡ binary h = sym p ∙ q in cc)
op_key ts op.Filter op.Filter f p q = refl
op_key ts (op.Reduce g) (op.Reduce h) f p q = (let e : reduce g ≡ reduce h = sym p ∙ q in cc)
op_key ts (op.Scan g) (op.Scan h) f p q = (let e : scan g ≡ scan h = sym p ∙ q in cc)
op_key ts (op.Head j) (op.Head k) f p q = (let e : head j ≡ head k = sym p ∙ q in cc)
op_key ts (op.Tail j) (op.Tail k) f p q = (let e : tail j ≡ tail k = sym p ∙ q in cc)
op_key ts op.Distinct op.Distinct f p q = refl
op_key ts (op.Group m a) (op.Group n b) f p q =
    let e = group_inside m n (part_seen a) (part_seen b) (sym p ∙ q) in
    ap (λ m. op.Group m a) e.0 ∙ ap (λ a. op.Group n a) (part_key a b e.1)
op_key ts (op.Constant k) l f p q = absurd (let e = both_constant ts (op.Constant k) l f p q in cc)
op_key ts k (op.Constant l) f p q = absurd (let e = both_constant ts k (op.Constant l) f p q in cc)
op_key ts k l f p q = absurd (cc)

op_more : (ts us : List (List ℕ)) (k : OpKey) (f : Op) → IsOpKey ts k f → IsOpKey (ts ++ us) k f
op_more ts us (op.Constant k) f p = (p.0, cell_more ts us k p.0 p.1, p.2)
op_more ts us (op.Unary h) f p = p
op_more ts us (op.Binary h) f p = p
op_more ts us op.Filter f p = p
op_more ts us (op.Reduce r) f p = p
op_more ts us (op.Scan r) f p = p
op_more ts us (op.Head k) f p = p
op_more ts us (op.Tail k) f p = p
op_more ts us op.Distinct f p = p
op_more ts us (op.Group m n) f p = p

-- ---- operands and trees

forms_one : (ts : List Tree) (k : Forms) (xs ys : List Tree) → AreForms ts k xs → AreForms ts k ys → xs ≡ ys
forms_one ts forms.None xs ys p q = p ∙ sym q
forms_one ts (forms.One a) xs ys p q = p.2 ∙ (ap (λ x. x ∷ []) (tree_one ts a p.0 q.0 p.1 q.1) ∙ sym q.2)
forms_one ts (forms.Two a b) xs ys p q =
    p.4 ∙ (ap (λ x. x ∷ p.1 ∷ []) (tree_one ts a p.0 q.0 p.2 q.2) ∙ (ap (λ y. q.0 ∷ y ∷ []) (tree_one ts b p.1 q.1 p.3 q.3) ∙ sym q.4))

forms_more : (ts us : List Tree) (k : Forms) (xs : List Tree) → AreForms ts k xs → AreForms (ts ++ us) k xs
forms_more ts us forms.None xs p = p
forms_more ts us (forms.One a) xs p = (p.0, number_longer same_tree trees_decided ts us a p.0 p.1, p.2)
forms_more ts us (forms.Two a b) xs p = (p.0, p.1, number_longer same_tree trees_decided ts us a p.0 p.2, number_longer same_tree trees_decided ts us b p.1 p.3, p.4)

pub form_one : (ts : List (List ℕ)) (trees : List Tree) (k : FormKey) (x y : Tree) → IsFormKey ts trees k x → IsFormKey ts trees k y → x ≡ y
form_one ts trees (Column s v c) x y p q = p ∙ sym q
form_one ts trees (Over k fs) x y p q =
    p.4 ∙ (ap (λ f. tree_over f p.1) (op_one ts k p.0 q.0 p.2 q.2) ∙ (ap (tree_over q.0) (forms_one trees fs p.1 q.1 p.3 q.3) ∙ sym q.4))

pub form_texts : (ts us : List (List ℕ)) (trees : List Tree) (k : FormKey) (x : Tree) → IsFormKey ts trees k x → IsFormKey (ts ++ us) trees k x
form_texts ts us trees (Column s v c) x p = p
form_texts ts us trees (Over k fs) x p = (p.0, p.1, op_more ts us k p.0 p.2, p.3, p.4)

pub form_trees : (ts : List (List ℕ)) (trees others : List Tree) (k : FormKey) (x : Tree) → IsFormKey ts trees k x → IsFormKey ts (trees ++ others) k x
form_trees ts trees others (Column s v c) x p = p
form_trees ts trees others (Over k fs) x p = (p.0, p.1, p.2, forms_more trees others fs p.1 p.3, p.4)

leaf_inside : (f g : Op) → leaf f ≡ leaf g → f ≡ g
leaf_inside f g h = cc

one_inside : (f g : Op) (x y : Tree) → one f x ≡ one g y → (f ≡ g) × (x ≡ y)
one_inside f g x y h = (cc, cc)

two_inside : (f g : Op) (x y z w : Tree) → two f x y ≡ two g z w → (f ≡ g) × (x ≡ z) × (y ≡ w)
two_inside f g x y z w h = (cc, cc, cc)

-- how many operands, and none for a variable of a datastore
size : Tree → Option ℕ
size (column s v c) = None
size (leaf f) = Some 0
size (one f x) = Some 1
size (two f x y) = Some 2

size_key : FormKey → Option ℕ
size_key (Column s v c) = None
size_key (Over k forms.None) = Some 0
size_key (Over k (forms.One a)) = Some 1
size_key (Over k (forms.Two a b)) = Some 2

sized : (ts : List (List ℕ)) (trees : List Tree) (k : FormKey) (x : Tree) → IsFormKey ts trees k x → size x ≡ size_key k
unfolding size size_key
sized ts trees (Column s v c) x p = ap size p
sized ts trees (Over k forms.None) x p = ap size (p.4 ∙ ap (tree_over p.0) p.3)
sized ts trees (Over k (forms.One a)) x p = ap size (p.4 ∙ ap (tree_over p.0) p.3.2)
sized ts trees (Over k (forms.Two a b)) x p = ap size (p.4 ∙ ap (tree_over p.0) p.3.4)

one_size : (ts : List (List ℕ)) (trees : List Tree) (k l : FormKey) (x : Tree) → IsFormKey ts trees k x → IsFormKey ts trees l x → size_key k ≡ size_key l
one_size ts trees k l x p q = sym (sized ts trees k x p) ∙ sized ts trees l x q

same_op_key : (ts : List (List ℕ)) (k l : OpKey) (f g : Op) → f ≡ g → IsOpKey ts k f → IsOpKey ts l g → k ≡ l
same_op_key ts k l f g e p q = op_key ts k l f p (subst (λ h. IsOpKey ts l h) (sym e) q)

pub form_key : (ts : List (List ℕ)) (trees : List Tree) (k l : FormKey) (x : Tree) → IsFormKey ts trees k x → IsFormKey ts trees l x → k ≡ l
unfolding size_key
form_key ts trees (Column s v c) (Column t w d) x p q = (let e : column s v c ≡ column t w d = sym p ∙ q in cc)
form_key ts trees (Over k forms.None) (Over l forms.None) x p q =
    let e = leaf_inside p.0 q.0 (sym (p.4 ∙ ap (tree_over p.0) p.3) ∙ (q.4 ∙ ap (tree_over q.0) q.3)) in
    ap (λ o. Over o forms.None) (same_op_key ts k l p.0 q.0 e p.2 q.2)
form_key ts trees (Over k (forms.One a)) (Over l (forms.One b)) x p q =
    let e = one_inside p.0 q.0 p.3.0 q.3.0 (sym (p.4 ∙ ap (tree_over p.0) p.3.2) ∙ (q.4 ∙ ap (tree_over q.0) q.3.2)) in
    ap (λ o. Over o (forms.One a)) (same_op_key ts k l p.0 q.0 e.0 p.2 q.2)
    ∙ ap (λ n. Over l (forms.One n)) (number_one same_tree trees a b p.3.0 q.3.0 e.1 p.3.1 q.3.1)
form_key ts trees (Over k (forms.Two a b)) (Over l (forms.Two c d)) x p q =
    let e = two_inside p.0 q.0 p.3.0 p.3.1 q.3.0 q.3.1 (sym (p.4 ∙ ap (tree_over p.0) p.3.4) ∙ (q.4 ∙ ap (tree_over q.0) q.3.4)) in
    ap (λ o. Over o (forms.Two a b)) (same_op_key ts k l p.0 q.0 e.0 p.2 q.2)
    ∙ (ap (λ n. Over l (forms.Two n b)) (number_one same_tree trees a c p.3.0 q.3.0 e.1 p.3.2 q.3.2)
    ∙ ap (λ n. Over l (forms.Two c n)) (number_one same_tree trees b d p.3.1 q.3.1 e.2 p.3.3 q.3.3))
form_key ts trees (Column s v c) (Over l (forms.None)) x p q = absurd (let e = one_size ts trees (Column s v c) (Over l (forms.None)) x p q in cc)
form_key ts trees (Column s v c) (Over l (forms.One b)) x p q = absurd (let e = one_size ts trees (Column s v c) (Over l (forms.One b)) x p q in cc)
form_key ts trees (Column s v c) (Over l (forms.Two b d)) x p q = absurd (let e = one_size ts trees (Column s v c) (Over l (forms.Two b d)) x p q in cc)
form_key ts trees (Over k (forms.None)) (Column t w d) x p q = absurd (let e = one_size ts trees (Over k (forms.None)) (Column t w d) x p q in cc)
form_key ts trees (Over k (forms.One b)) (Column t w d) x p q = absurd (let e = one_size ts trees (Over k (forms.One b)) (Column t w d) x p q in cc)
form_key ts trees (Over k (forms.Two b c)) (Column t w d) x p q = absurd (let e = one_size ts trees (Over k (forms.Two b c)) (Column t w d) x p q in cc)
form_key ts trees (Over k fs) (Over l gs) x p q = absurd (let e : size_key (Over k fs) ≡ size_key (Over l gs) = one_size ts trees (Over k fs) (Over l gs) x p q in cc)

-- ---- spaces

data_one : (ts : List Tree) (k : Option ℕ) (x y : Option Tree) → IsForm ts k x → IsForm ts k y → x ≡ y
data_one ts None x y p q = p ∙ sym q
data_one ts (Some n) x y p q = p.2 ∙ (ap Some (tree_one ts n p.0 q.0 p.1 q.1) ∙ sym q.2)

data_more : (ts us : List Tree) (k : Option ℕ) (x : Option Tree) → IsForm ts k x → IsForm (ts ++ us) k x
data_more ts us None x p = p
data_more ts us (Some n) x p = (p.0, number_longer same_tree trees_decided ts us n p.0 p.1, p.2)

some_inside : (x y : Tree) → Some x ≡ Some y → x ≡ y
some_inside x y h = cc

data_key : (ts : List Tree) (k l : Option ℕ) (x y : Option Tree) → x ≡ y → IsForm ts k x → IsForm ts l y → k ≡ l
data_key ts None None x y e p q = refl
data_key ts None (Some n) x y e p q = absurd (let h : None ≡ Some q.0 = sym p ∙ (e ∙ q.2) in cc)
data_key ts (Some m) None x y e p q = absurd (let h : Some p.0 ≡ None = sym p.2 ∙ (e ∙ q) in cc)
data_key ts (Some m) (Some n) x y e p q = ap Some (number_one same_tree ts m n p.0 q.0 (some_inside p.0 q.0 (sym p.2 ∙ (e ∙ q.2))) p.1 q.1)

pub space_key_one : (ss : List Space) (trees : List Tree) (k : SpaceKey) (s t : Space) → IsSpaceKey ss trees k s → IsSpaceKey ss trees k t → s ≡ t
space_key_one ss trees key.Single s t p q = p ∙ sym q
space_key_one ss trees (key.RowsOf store) s t p q = p ∙ sym q
space_key_one ss trees (key.Kept n m) s t p q =
    p.4 ∙ (ap (λ u. filtered u p.1) (space_one ss n p.0 q.0 p.2 q.2) ∙ (ap (filtered q.0) (tree_one trees m p.1 q.1 p.3 q.3) ∙ sym q.4))
space_key_one ss trees (key.First k n) s t p q = p.2 ∙ (ap (first k) (space_one ss n p.0 q.0 p.1 q.1) ∙ sym q.2)
space_key_one ss trees (key.Last k n) s t p q = p.2 ∙ (ap (last k) (space_one ss n p.0 q.0 p.1 q.1) ∙ sym q.2)
space_key_one ss trees (key.Distinct m) s t p q = p.2 ∙ (ap spaces.distinct (tree_one trees m p.0 q.0 p.1 q.1) ∙ sym q.2)
space_key_one ss trees (key.Groups m g d) s t p q =
    p.4 ∙ (ap (λ x. groups m x p.1) (tree_one trees g p.0 q.0 p.2 q.2) ∙ (ap (groups m q.0) (data_one trees d p.1 q.1 p.3 q.3) ∙ sym q.4))

pub space_key_more : (ss us : List Space) (trees others : List Tree) (k : SpaceKey) (s : Space) → IsSpaceKey ss trees k s → IsSpaceKey (ss ++ us) (trees ++ others) k s
space_key_more ss us trees others key.Single s p = p
space_key_more ss us trees others (key.RowsOf store) s p = p
space_key_more ss us trees others (key.Kept n m) s p =
    (p.0, p.1, number_longer same_space spaces_decided ss us n p.0 p.2, number_longer same_tree trees_decided trees others m p.1 p.3, p.4)
space_key_more ss us trees others (key.First k n) s p = (p.0, number_longer same_space spaces_decided ss us n p.0 p.1, p.2)
space_key_more ss us trees others (key.Last k n) s p = (p.0, number_longer same_space spaces_decided ss us n p.0 p.1, p.2)
space_key_more ss us trees others (key.Distinct m) s p = (p.0, number_longer same_tree trees_decided trees others m p.0 p.1, p.2)
space_key_more ss us trees others (key.Groups m g d) s p =
    (p.0, p.1, number_longer same_tree trees_decided trees others g p.0 p.2, data_more trees others d p.1 p.3, p.4)

kept_inside : (s t : Space) (x y : Tree) → filtered s x ≡ filtered t y → (s ≡ t) × (x ≡ y)
kept_inside s t x y h = (cc, cc)

first_inside : (j k : ℕ) (s t : Space) → first j s ≡ first k t → (j ≡ k) × (s ≡ t)
first_inside j k s t h = (cc, cc)

last_inside : (j k : ℕ) (s t : Space) → last j s ≡ last k t → (j ≡ k) × (s ≡ t)
last_inside j k s t h = (cc, cc)

distinct_inside : (x y : Tree) → spaces.distinct x ≡ spaces.distinct y → x ≡ y
distinct_inside x y h = cc

groups_inside : (m n : Method) (x y : Tree) (v w : Option Tree) → groups m x v ≡ groups n y w → (m ≡ n) × (x ≡ y) × (v ≡ w)
groups_inside m n x y v w h = (cc, cc, cc)

-- which variant
kind_of : Space → ℕ
kind_of single = 0
kind_of (rows_of s) = 1
kind_of (filtered s x) = 2
kind_of (first k s) = 3
kind_of (last k s) = 4
kind_of (spaces.distinct x) = 5
kind_of (groups m x v) = 6

kind_of_key : SpaceKey → ℕ
kind_of_key key.Single = 0
kind_of_key (key.RowsOf s) = 1
kind_of_key (key.Kept n m) = 2
kind_of_key (key.First k n) = 3
kind_of_key (key.Last k n) = 4
kind_of_key (key.Distinct m) = 5
kind_of_key (key.Groups m g d) = 6

kinds : (ss : List Space) (trees : List Tree) (k : SpaceKey) (s : Space) → IsSpaceKey ss trees k s → kind_of s ≡ kind_of_key k
unfolding kind_of kind_of_key
kinds ss trees key.Single s p = ap kind_of p
kinds ss trees (key.RowsOf store) s p = ap kind_of p
kinds ss trees (key.Kept n m) s p = ap kind_of p.4
kinds ss trees (key.First k n) s p = ap kind_of p.2
kinds ss trees (key.Last k n) s p = ap kind_of p.2
kinds ss trees (key.Distinct m) s p = ap kind_of p.2
kinds ss trees (key.Groups m g d) s p = ap kind_of p.4

one_kind : (ss : List Space) (trees : List Tree) (k l : SpaceKey) (s : Space) → IsSpaceKey ss trees k s → IsSpaceKey ss trees l s → kind_of_key k ≡ kind_of_key l
one_kind ss trees k l s p q = sym (kinds ss trees k s p) ∙ kinds ss trees l s q

pub space_key : (ss : List Space) (trees : List Tree) (k l : SpaceKey) (s : Space) → IsSpaceKey ss trees k s → IsSpaceKey ss trees l s → k ≡ l
unfolding kind_of_key
space_key ss trees key.Single key.Single s p q = refl
space_key ss trees (key.RowsOf a) (key.RowsOf b) s p q = (let e : rows_of a ≡ rows_of b = sym p ∙ q in cc)
space_key ss trees (key.Kept n a) (key.Kept m b) s p q =
    let e = kept_inside p.0 q.0 p.1 q.1 (sym p.4 ∙ q.4) in
    ap (λ i. key.Kept i a) (number_one same_space ss n m p.0 q.0 e.0 p.2 q.2) ∙ ap (λ i. key.Kept m i) (number_one same_tree trees a b p.1 q.1 e.1 p.3 q.3)
space_key ss trees (key.First j n) (key.First k m) s p q =
    let e = first_inside j k p.0 q.0 (sym p.2 ∙ q.2) in
    ap (λ i. key.First i n) e.0 ∙ ap (λ i. key.First k i) (number_one same_space ss n m p.0 q.0 e.1 p.1 q.1)
space_key ss trees (key.Last j n) (key.Last k m) s p q =
    let e = last_inside j k p.0 q.0 (sym p.2 ∙ q.2) in
    ap (λ i. key.Last i n) e.0 ∙ ap (λ i. key.Last k i) (number_one same_space ss n m p.0 q.0 e.1 p.1 q.1)
space_key ss trees (key.Distinct a) (key.Distinct b) s p q =
    ap key.Distinct (number_one same_tree trees a b p.0 q.0 (distinct_inside p.0 q.0 (sym p.2 ∙ q.2)) p.1 q.1)
space_key ss trees (key.Groups m g d) (key.Groups n h c) s p q =
    let e = groups_inside m n p.0 q.0 p.1 q.1 (sym p.4 ∙ q.4) in
    ap (λ i. key.Groups i g d) e.0
    ∙ (ap (λ i. key.Groups n i d) (number_one same_tree trees g h p.0 q.0 e.1 p.2 q.2)
    ∙ ap (λ i. key.Groups n h i) (data_key trees d c p.1 q.1 e.2 p.3 q.3))
space_key ss trees k l s p q = absurd (let e : kind_of_key k ≡ kind_of_key l = one_kind ss trees k l s p q in cc)
