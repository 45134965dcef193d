-- What the keys of the tables of forms and of spaces stand for. A text stands in a key by its number, and so do operands.
use Rattle.std.specs.Prelude.{◌≡◌, ℕ, bytes_eq, Option, None, Some, List, [], ◌∷◌}
use Rattle.tall_value.specs.Cells.{Seen, whole, logical, double, text}
use Rattle.tall_semantics.specs.Operations.{Op, constant, unary, binary, filter, reduce, scan, head, tail, distinct, group, Made, stored, operation, Tree, column, leaf, one, two}
use Rattle.tall_semantics.specs.Spaces.{Space, single, rows_of, filtered, first, last, groups}
use Rattle.tall_semantics.specs.Spaces as spaces
use Rattle.tall_semantics.specs.Equality.{same_tree, same_space}
use Rattle.tall_graph.specs.declared.keys.CellKey.{CellKey}
use Rattle.tall_graph.specs.declared.keys.CellKey.TheVariants as cell
use Rattle.tall_graph.specs.declared.keys.OpKey.{OpKey}
use Rattle.tall_graph.specs.declared.keys.OpKey.TheVariants as op
use Rattle.tall_graph.specs.declared.keys.FormKey.{FormKey}
use Rattle.tall_graph.specs.declared.keys.FormKey.TheVariants.{Column, Over}
use Rattle.tall_graph.specs.declared.keys.Forms.{Forms}
use Rattle.tall_graph.specs.declared.keys.Forms.TheVariants as forms
use Rattle.tall_graph.specs.declared.keys.SpaceKey.{SpaceKey}
use Rattle.tall_graph.specs.declared.keys.SpaceKey.TheVariants as key
use Rattle.tall_graph.specs.Vertices.{part_seen}
use Rattle.tall_graph.specs.Numbers.{IsNumber}

abbrev pub IsCellKey : (texts : List (List ℕ)) → CellKey → Seen → Type 0
IsCellKey texts (cell.Whole k n) c = c ≡ whole k n
IsCellKey texts (cell.Logical b) c = c ≡ logical b
IsCellKey texts (cell.Double d) c = c ≡ double d
IsCellKey texts (cell.Text n) c = (t : List ℕ) × IsNumber bytes_eq texts n t × (c ≡ text t)

abbrev pub IsOpKey : (texts : List (List ℕ)) → OpKey → Op → Type 0
IsOpKey texts (op.Constant k) f = (c : Seen) × IsCellKey texts k c × (f ≡ constant c)
IsOpKey texts (op.Unary g) f = f ≡ unary g
IsOpKey texts (op.Binary g) f = f ≡ binary g
IsOpKey texts op.Filter f = f ≡ filter
IsOpKey texts (op.Reduce r) f = f ≡ reduce r
IsOpKey texts (op.Scan s) f = f ≡ scan s
IsOpKey texts (op.Head k) f = f ≡ head k
IsOpKey texts (op.Tail k) f = f ≡ tail k
IsOpKey texts op.Distinct f = f ≡ distinct
IsOpKey texts (op.Group m p) f = f ≡ group m (part_seen p)

-- the trees of operands by their numbers
abbrev pub AreForms : (trees : List Tree) → Forms → List Tree → Type 0
AreForms trees forms.None xs = xs ≡ []
AreForms trees (forms.One a) xs = (x : Tree) × IsNumber same_tree trees a x × (xs ≡ x ∷ [])
AreForms trees (forms.Two a b) xs = (x : Tree) × (y : Tree) × IsNumber same_tree trees a x × IsNumber same_tree trees b y × (xs ≡ x ∷ y ∷ [])

abbrev pub tree_over : Op → List Tree → Tree
tree_over f [] = leaf f
tree_over f (x ∷ []) = one f x
tree_over f (x ∷ y ∷ zs) = two f x y

abbrev pub IsFormKey : (texts : List (List ℕ)) → (trees : List Tree) → FormKey → Tree → Type 0
IsFormKey texts trees (Column s v c) t = t ≡ column s v c
IsFormKey texts trees (Over k fs) t = (f : Op) × (xs : List Tree) × IsOpKey texts k f × AreForms trees fs xs × (t ≡ tree_over f xs)

-- the key of what makes a value, over operands with these numbers
abbrev pub IsKeyFor : (texts : List (List ℕ)) → Made → Forms → FormKey → Type 0
IsKeyFor texts (stored s v c) fs k = k ≡ Column s v c
IsKeyFor texts (operation f) fs k = (o : OpKey) × IsOpKey texts o f × (k ≡ Over o fs)

-- the data of a group
abbrev pub IsForm : (trees : List Tree) → Option ℕ → Option Tree → Type 0
IsForm trees None t = t ≡ None
IsForm trees (Some n) t = (x : Tree) × IsNumber same_tree trees n x × (t ≡ Some x)

abbrev pub IsSpaceKey : (spaces : List Space) → (trees : List Tree) → SpaceKey → Space → Type 0
IsSpaceKey ss trees key.Single s = s ≡ single
IsSpaceKey ss trees (key.RowsOf store) s = s ≡ rows_of store
IsSpaceKey ss trees (key.Kept n m) s = (t : Space) × (x : Tree) × IsNumber same_space ss n t × IsNumber same_tree trees m x × (s ≡ filtered t x)
IsSpaceKey ss trees (key.First k n) s = (t : Space) × IsNumber same_space ss n t × (s ≡ first k t)
IsSpaceKey ss trees (key.Last k n) s = (t : Space) × IsNumber same_space ss n t × (s ≡ last k t)
IsSpaceKey ss trees (key.Distinct m) s = (x : Tree) × IsNumber same_tree trees m x × (s ≡ spaces.distinct x)
IsSpaceKey ss trees (key.Groups m g d) s = (x : Tree) × (v : Option Tree) × IsNumber same_tree trees g x × IsForm trees d v × (s ≡ groups m x v)
