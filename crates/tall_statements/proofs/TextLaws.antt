-- What is shown of values.
use Rattle.std.proofs.Common.{◌≡◌, ◌<◌, ◌∙◌, ℕ, List, [], ◌++◌, length, refl, sym, ap, append-nil}
use Rattle.std.specs.Prelude.{codes}
use Rattle.tall_value.specs.declared.class.Class.{Class}
use Rattle.tall_column.specs.declared.table.Value.{Value}
use Rattle.tall_column.specs.declared.table.Value.TheVariants as kept
use Rattle.tall_semantics.specs.Deferred.{IsMeaning, Vertex}
use Rattle.tall_semantics.specs.Shapes.{Shape}
use Rattle.tall_semantics.specs.ShapesInOrder.{IsMade, shape_at}
use Rattle.tall_semantics.specs.Talls.{Columns, Tall}
use Rattle.tall_local.specs.Printing.{class_name, head_line, memory_text, value_text}
use Rattle.tall_local.specs.Values.{deferred}
use Rattle.tall_memory.specs.Values.{shown_value}
use Rattle.tall_print.specs.Seen as print
use Rattle.tall_script.specs.ScriptValues.{class_of_tall}
use Rattle.tall_deferred.proofs.Operands.{shape_told}

same_value : (v : Value) → print.value_seen v ≡ shown_value v
same_value (kept.Scalar o) = refl
same_value (kept.Column c) = refl
same_value (kept.Table t) = refl

pub same_text : (name : List ℕ) (v : Value) → memory_text name (print.value_seen v) ≡ memory_text name (shown_value v)
same_text name v = ap (memory_text name) (same_value v)

pub nothing_more : (text : List ℕ) → text ≡ text ++ []
nothing_more text = sym (append-nil text)

-- of a node of a graph its class
pub tall_text : (name kind : List ℕ) (columns : Columns) (vs : List Vertex) (f : ℕ → Tall) (x : ℕ) (class : Class) → IsMade vs → IsMeaning columns vs f → x < length vs → class ≡ (shape_at vs x).class
    → kind ≡ codes "tall " ++ class_name class → head_line name kind ≡ value_text class_of_tall name (deferred (f x))
unfolding value_text
tall_text name kind columns vs f x class made meaning within is k =
    ap (head_line name) (k ∙ ap (λ c. codes "tall " ++ class_name c) (is ∙ ap (λ (s : Shape). s.class) (shape_told columns vs f x made meaning within)))
