-- The derived tests of keys mean equality.
use Rattle.std.specs.Prelude.{◌≡◌, refl, true}
use Rattle.std.proofs.Common.{rules, ap, ◌∙◌}
use Rattle.tall_value.specs.declared.class.Class.{Class}
use Rattle.tall_value.specs.declared.operators.Unary.{Unary}
use Rattle.tall_value.specs.declared.operators.Binary.{Binary}
use Rattle.tall_value.specs.declared.functions.Reduction.{Reduction}
use Rattle.tall_value.specs.declared.functions.Scan.{Scan}
use Rattle.tall_value.specs.declared.functions.Method.{Method}
use Rattle.tall_value.specs.contracts.class.ClassPartialEq.TheImpl as class_eq
use Rattle.tall_value.specs.contracts.operators.UnaryPartialEq.TheImpl as unary_eq
use Rattle.tall_value.specs.contracts.operators.BinaryPartialEq.TheImpl as binary_eq
use Rattle.tall_value.specs.contracts.functions.ReductionPartialEq.TheImpl as reduction_eq
use Rattle.tall_value.specs.contracts.functions.ScanPartialEq.TheImpl as scan_eq
use Rattle.tall_value.specs.contracts.functions.MethodPartialEq.TheImpl as method_eq
use Rattle.tall_semantics.proofs.Basics.{both}
use Rattle.tall_graph.specs.declared.classes.Part.{Part}
use Rattle.tall_graph.specs.declared.keys.CellKey.{CellKey}
use Rattle.tall_graph.specs.declared.keys.OpKey.{OpKey}
use Rattle.tall_graph.specs.declared.keys.OpKey.TheVariants as op
use Rattle.tall_graph.specs.declared.keys.FormKey.{FormKey}
use Rattle.tall_graph.specs.declared.keys.FormKey.TheVariants.{Column, Over}
use Rattle.tall_graph.specs.declared.keys.SpaceKey.{SpaceKey}
use Rattle.tall_graph.specs.declared.keys.Forms.{Forms}
use Rattle.tall_graph.specs.contracts.classes.PartPartialEq.TheImpl as part_eq
use Rattle.tall_graph.specs.contracts.keys.CellKeyPartialEq.TheImpl as cell_eq
use Rattle.tall_graph.specs.contracts.keys.OpKeyPartialEq.TheImpl as op_eq
use Rattle.tall_graph.specs.contracts.keys.FormsPartialEq.TheImpl as forms_eq
use Rattle.tall_graph.specs.contracts.keys.FormKeyPartialEq.TheImpl as form_eq
use Rattle.tall_graph.specs.contracts.keys.SpaceKeyPartialEq.TheImpl as space_eq

class_same : (a b : Class) → (class_eq.ghosts).eq a b ≡ true → a ≡ b
class_same a b h = search rules

unary_same : (a b : Unary) → (unary_eq.ghosts).eq a b ≡ true → a ≡ b
unary_same a b h = search rules

binary_same : (a b : Binary) → (binary_eq.ghosts).eq a b ≡ true → a ≡ b
binary_same a b h = search rules

reduction_same : (a b : Reduction) → (reduction_eq.ghosts).eq a b ≡ true → a ≡ b
reduction_same a b h = search rules

scan_same : (a b : Scan) → (scan_eq.ghosts).eq a b ≡ true → a ≡ b
scan_same a b h = search rules

part_same : (a b : Part) → (part_eq.ghosts).eq a b ≡ true → a ≡ b
part_same a b h = search rules

method_same : (a b : Method) → (method_eq.ghosts).eq a b ≡ true → a ≡ b
method_same a b h = search rules

cell_same : (a b : CellKey) → (cell_eq.ghosts).eq a b ≡ true → a ≡ b
cell_same a b h = search rules

forms_same : (a b : Forms) → (forms_eq.ghosts).eq a b ≡ true → a ≡ b
forms_same a b h = search rules

op_same : (a b : OpKey) → (op_eq.ghosts).eq a b ≡ true → a ≡ b
op_same (op.Constant c) (op.Constant d) h = ap op.Constant (cell_same c d h)
op_same (op.Unary f) (op.Unary g) h = ap op.Unary (unary_same f g h)
op_same (op.Binary f) (op.Binary g) h = ap op.Binary (binary_same f g h)
op_same op.Filter op.Filter h = refl
op_same (op.Reduce f) (op.Reduce g) h = ap op.Reduce (reduction_same f g h)
op_same (op.Scan f) (op.Scan g) h = ap op.Scan (scan_same f g h)
op_same (op.Head j) (op.Head k) h = search rules
op_same (op.Tail j) (op.Tail k) h = search rules
op_same op.Distinct op.Distinct h = refl
op_same (op.Group m p) (op.Group n q) h = (let e = both ((method_eq.ghosts).eq m n) ((part_eq.ghosts).eq p q) h in ap (λ m. op.Group m p) (method_same m n e.0) ∙ ap (λ p. op.Group n p) (part_same p q e.1))
op_same a b h = absurd (cc)

pub form_same : (a b : FormKey) → (form_eq.ghosts).eq a b ≡ true → a ≡ b
form_same (Column s v c) (Column t w d) h = search rules
form_same (Over f fs) (Over g gs) h = (let e = both ((op_eq.ghosts).eq f g) ((forms_eq.ghosts).eq fs gs) h in ap (λ f. Over f fs) (op_same f g e.0) ∙ ap (λ fs. Over g fs) (forms_same fs gs e.1))
form_same a b h = absurd (cc)

pub space_same : (a b : SpaceKey) → (space_eq.ghosts).eq a b ≡ true → a ≡ b
space_same a b h = search rules
