-- What is known of a value without its data: its class, its space, its tree and its chain; and why an operation is
-- refused. The cases stand in the order of docs/LANGUAGE.md, operators, indexing and then functions. That an operand has
-- to be a column is looked at first, then classes, then spaces.
use Rattle.std.specs.Prelude.{ℕ, ◌+◌, max, if◌then◌else◌, None, Some, Result, Ok, Err, List, [], ◌∷◌, get_or}
use Rattle.tall_value.specs.declared.class.Class.{Class}
use Rattle.tall_value.specs.declared.class.Class.TheVariants as class
use Rattle.tall_value.specs.declared.class.Kind.{Kind}
use Rattle.tall_value.specs.declared.faults.ClassFault.{ClassFault}
use Rattle.tall_value.specs.declared.faults.ClassFault.TheVariants.{MixedClass, BadClass}
use Rattle.tall_value.specs.declared.functions.Method.{Method}
use Rattle.tall_value.specs.declared.functions.Method.TheVariants.{Count}
use Rattle.tall_value.specs.Cells.{seen_kind}
use Rattle.tall_value.specs.Classes.{class_of, kind_of}
use Rattle.tall_value.specs.ClassTables.{unary_class, binary_class}
use Rattle.tall_value.specs.FunctionClasses.{logical_kind, reduction_class, scan_class, summary_classes}
use Rattle.tall_semantics.specs.Operations.{Op, constant, unary, binary, filter, reduce, scan, head, tail, distinct, group, Part, keys, counts, Tree, column, leaf, one, two}
use Rattle.tall_semantics.specs.Spaces.{Space, single, rows_of, filtered, first, last, groups, is_single, has_rows}
use Rattle.tall_semantics.specs.Spaces as spaces
use Rattle.tall_semantics.specs.Equality.{part_place, same_space}

pub data ShapeRefusal : Type 0 where
  mixed_class : ShapeRefusal
  bad_class : ShapeRefusal
  incompatible : ShapeRefusal
  bad_argument : ShapeRefusal

-- `chain` is the number of passes over datastores that must be done before a pass that computes the value
pub record Shape : Type 0 where
  pub class : Class
  pub space : Space
  pub tree : Tree
  pub chain : ℕ

-- how many passes give the value: a value with a datastore's rows takes one more, for its own rows
abbrev pub level : Shape → ℕ
level x = if has_rows x.space then x.chain + 1 else x.chain

abbrev pub greatest_chain : List Shape → ℕ
greatest_chain [] = 0
greatest_chain (x ∷ xs) = max x.chain (greatest_chain xs)

abbrev pub greatest_level : List Shape → ℕ
greatest_level [] = 0
greatest_level (x ∷ xs) = max (level x) (greatest_level xs)

-- ---- refusals

abbrev pub allowed : Result Class ClassFault → Result Class ShapeRefusal
allowed (Ok c) = Ok c
allowed (Err MixedClass) = Err mixed_class
allowed (Err BadClass) = Err bad_class

-- the class is looked at before the space
abbrev pub placed : Result Class ShapeRefusal → Result Space ShapeRefusal → Result (Class × Space) ShapeRefusal
placed (Ok c) (Ok s) = Ok (c, s)
placed (Ok c) (Err e) = Err e
placed (Err e) s = Err e

-- a scalar meets each row; two columns need equal spaces
abbrev pub common : Space → Space → Result Space ShapeRefusal
common single t = Ok t
common s single = Ok s
common s t = if same_space s t then Ok s else Err incompatible

-- an index needs a logical column in the space of what is indexed
abbrev pub masked_class : Class → Result Kind ClassFault → Result Class ClassFault
masked_class c (Ok k) = Ok c
masked_class c (Err e) = Err e

abbrev pub masked : Space → Space → Tree → Result Space ShapeRefusal
masked s t mask = if same_space s t then Ok (filtered s mask) else Err incompatible

-- the key and the data of `groupsummary` are columns of one table
abbrev pub summarised : Method → Shape → Shape → Result Space ShapeRefusal
summarised m g v = if same_space g.space v.space then Ok (groups m g.tree (Some v.tree)) else Err incompatible

abbrev pub on_column : Shape → Result (Class × Space) ShapeRefusal → Result (Class × Space) ShapeRefusal
on_column x p = if is_single x.space then Err bad_argument else p

-- the class of a column of `groupsummary`; the method's class is looked at for each of them
abbrev pub part_class : Part → Result (List Class) ClassFault → Result Class ClassFault
part_class part (Ok classes) = Ok (get_or classes (part_place part) class.Double)
part_class part (Err e) = Err e

abbrev pub group_class : Method → Part → Class → Class → Result Class ShapeRefusal
group_class m part key data' = allowed (part_class part (summary_classes m key data'))

-- without a method there are no data, and no column of them
abbrev pub counted : Method → Part → Shape → Result (Class × Space) ShapeRefusal
counted Count keys g = placed (group_class Count keys g.class g.class) (Ok (groups Count g.tree None))
counted Count counts g = placed (group_class Count counts g.class g.class) (Ok (groups Count g.tree None))
counted m part g = Err bad_argument

abbrev pub summary : Method → Part → Shape → Shape → Result (Class × Space) ShapeRefusal
summary Count part g v = Err bad_argument
summary m part g v = placed (group_class m part g.class v.class) (summarised m g v)

-- ---- the class and the space of an operation's result, or its refusal

abbrev pub place_of : Op → List Shape → Result (Class × Space) ShapeRefusal
place_of (constant c) [] = Ok (class_of (seen_kind c), single)
place_of (binary op) (x ∷ y ∷ []) = placed (allowed (binary_class op x.class (is_single x.space) y.class (is_single y.space))) (common x.space y.space)
place_of (unary op) (x ∷ []) = placed (allowed (unary_class op x.class)) (Ok x.space)
place_of filter (x ∷ m ∷ []) = on_column x (on_column m (placed (allowed (masked_class x.class (logical_kind (kind_of m.class)))) (masked x.space m.space m.tree)))
place_of (reduce r) (x ∷ []) = placed (allowed (reduction_class r x.class)) (Ok single)
place_of (scan s) (x ∷ []) = on_column x (placed (allowed (scan_class s x.class)) (Ok x.space))
place_of (head k) (x ∷ []) = on_column x (Ok (x.class, first k x.space))
place_of (tail k) (x ∷ []) = on_column x (Ok (x.class, last k x.space))
place_of distinct (x ∷ []) = on_column x (Ok (x.class, spaces.distinct x.tree))
place_of (group m part) (g ∷ []) = on_column g (counted m part g)
place_of (group m part) (g ∷ v ∷ []) = on_column g (on_column v (summary m part g v))
place_of op xs = Err bad_argument

-- ---- the chain, and the tree

-- one pass more where the operation needs all rows of a datastore before it has a result
abbrev pub chain_of : Op → List Shape → ℕ
chain_of (reduce r) xs = greatest_level xs
chain_of (scan s) xs = greatest_level xs
chain_of (head k) xs = greatest_level xs
chain_of (tail k) xs = greatest_level xs
chain_of distinct xs = greatest_level xs
chain_of (group m part) xs = greatest_level xs
chain_of op xs = greatest_chain xs

abbrev pub tree_over : Op → List Shape → Tree
tree_over op [] = leaf op
tree_over op (x ∷ []) = one op x.tree
tree_over op (x ∷ y ∷ zs) = two op x.tree y.tree

abbrev pub shaped : Op → List Shape → Result (Class × Space) ShapeRefusal → Result Shape ShapeRefusal
shaped op xs (Ok p) = Ok (record { class = p.0; space = p.1; tree = tree_over op xs; chain = chain_of op xs })
shaped op xs (Err e) = Err e

abbrev pub shape : Op → List Shape → Result Shape ShapeRefusal
shape op xs = shaped op xs (place_of op xs)

-- a datastore's variable
abbrev pub stored_shape : (store variable : ℕ) → Class → Shape
stored_shape s v c = record { class = c; space = rows_of s; tree = column s v c; chain = 0 }
