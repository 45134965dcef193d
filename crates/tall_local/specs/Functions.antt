-- The functions of the language, by name, in the order of docs/LANGUAGE.md, functions.
use Rattle.std.specs.Prelude.{ℕ, List, [], ◌∷◌, ◌++◌, Option, None, Some, codes}
use Rattle.std.specs.List.{flat_map}
use Rattle.tall_int.specs.declared.quotients.Rounding.{Rounding}
use Rattle.tall_int.specs.declared.quotients.Rounding.TheVariants.{Fix, Floor, Ceil, Round}
use Rattle.tall_value.specs.declared.class.IntKind.{IntKind}
use Rattle.tall_value.specs.declared.class.IntKind.TheVariants.{Int8, Int16, Int32, Int64, Uint8, Uint16, Uint32, Uint64}
use Rattle.tall_value.specs.declared.functions.Method.{Method}
use Rattle.tall_value.specs.declared.functions.Method.TheVariants as method
use Rattle.tall_value.specs.declared.functions.Reduction.TheVariants.{Min, Max, Any, All, Nnz, Numel}
use Rattle.tall_value.specs.declared.functions.Scan.TheVariants.{CumSum, CumMin, CumMax}
use Rattle.tall_value.specs.declared.operators.Binary.TheVariants.{Modulo, BitAnd, BitOr, BitXor, StrCmp}
use Rattle.tall_value.specs.declared.operators.Unary.TheVariants.{Abs, ToInt8, ToInt16, ToInt32, ToInt64, ToUint8, ToUint16, ToUint32, ToUint64, ToDouble, ToLogical, IsNan}
use Rattle.tall_value.specs.SummaryNames.{method_name}
use Rattle.tall_local.specs.Names.{named, each_named}
use Rattle.tall_local.specs.declared.functions.LocalFunction.{LocalFunction}
use Rattle.tall_local.specs.declared.functions.LocalFunction.TheVariants as in_function
use Rattle.tall_local.specs.declared.functions.ScriptFunction.{ScriptFunction}
use Rattle.tall_local.specs.declared.functions.ScriptFunction.TheVariants as in_script
use Rattle.tall_local.specs.declared.functions.SumOption.{SumOption}
use Rattle.tall_local.specs.declared.functions.SumOption.TheVariants.{Native, OmitNan}
use Rattle.tall_local.specs.declared.functions.ValueFunction.{ValueFunction}
use Rattle.tall_local.specs.declared.functions.ValueFunction.TheVariants.{Sum, Height, Head, Tail, Unique, GroupSummary, IntMax, IntMin, Idivide}
use Rattle.tall_local.specs.declared.functions.ValueFunction.TheVariants as function

-- of values, in scripts and in functions
abbrev pub value_functions : List (List ℕ × ValueFunction)
value_functions =
    (codes "sum", Sum)
    ∷ (codes "min", function.Reduction Min)
    ∷ (codes "max", function.Reduction Max)
    ∷ (codes "any", function.Reduction Any)
    ∷ (codes "all", function.Reduction All)
    ∷ (codes "nnz", function.Reduction Nnz)
    ∷ (codes "numel", function.Reduction Numel)
    ∷ (codes "height", Height)
    ∷ (codes "cumsum", function.Scan CumSum)
    ∷ (codes "cummin", function.Scan CumMin)
    ∷ (codes "cummax", function.Scan CumMax)
    ∷ (codes "head", Head)
    ∷ (codes "tail", Tail)
    ∷ (codes "unique", Unique)
    ∷ (codes "groupsummary", GroupSummary)
    ∷ (codes "intmax", IntMax)
    ∷ (codes "intmin", IntMin)
    ∷ (codes "idivide", Idivide)
    ∷ (codes "mod", function.Binary Modulo)
    ∷ (codes "bitand", function.Binary BitAnd)
    ∷ (codes "bitor", function.Binary BitOr)
    ∷ (codes "bitxor", function.Binary BitXor)
    ∷ (codes "strcmp", function.Binary StrCmp)
    ∷ (codes "abs", function.Unary Abs)
    ∷ (codes "int8", function.Unary ToInt8)
    ∷ (codes "int16", function.Unary ToInt16)
    ∷ (codes "int32", function.Unary ToInt32)
    ∷ (codes "int64", function.Unary ToInt64)
    ∷ (codes "uint8", function.Unary ToUint8)
    ∷ (codes "uint16", function.Unary ToUint16)
    ∷ (codes "uint32", function.Unary ToUint32)
    ∷ (codes "uint64", function.Unary ToUint64)
    ∷ (codes "double", function.Unary ToDouble)
    ∷ (codes "logical", function.Unary ToLogical)
    ∷ (codes "isnan", function.Unary IsNan)
    ∷ []

-- the functions that a script may call, and those that a map or a reduce function may. A name that only the other may
-- call is known all the same, and its call is refused after its arguments
abbrev pub script_functions : List (List ℕ × ScriptFunction)
script_functions =
    each_named in_script.OfValues value_functions
    ++ (codes "tabularTextDatastore", in_script.TabularTextDatastore)
    ∷ (codes "tall", in_script.Tall)
    ∷ (codes "gather", in_script.Gather)
    ∷ (codes "mapreduce", in_script.MapReduce)
    ∷ (codes "readall", in_script.ReadAll)
    ∷ (codes "hasnext", in_script.Elsewhere)
    ∷ (codes "getnext", in_script.Elsewhere)
    ∷ (codes "add", in_script.Elsewhere)
    ∷ []

abbrev pub local_functions : List (List ℕ × LocalFunction)
local_functions =
    each_named in_function.OfValues value_functions
    ++ (codes "hasnext", in_function.HasNext)
    ∷ (codes "getnext", in_function.GetNext)
    ∷ (codes "add", in_function.Elsewhere)
    ∷ (codes "tabularTextDatastore", in_function.Elsewhere)
    ∷ (codes "tall", in_function.Elsewhere)
    ∷ (codes "gather", in_function.Elsewhere)
    ∷ (codes "mapreduce", in_function.Elsewhere)
    ∷ (codes "readall", in_function.Elsewhere)
    ∷ []

unfoldable pub script_function_named : List ℕ → Option ScriptFunction
script_function_named name = named script_functions name

unfoldable pub local_function_named : List ℕ → Option LocalFunction
local_function_named name = named local_functions name

-- ---- options that are texts

abbrev pub sum_options : List (List ℕ × SumOption)
sum_options = (codes "native", Native) ∷ (codes "omitnan", OmitNan) ∷ []

abbrev pub integer_classes : List (List ℕ × IntKind)
integer_classes =
    (codes "int8", Int8) ∷ (codes "int16", Int16) ∷ (codes "int32", Int32) ∷ (codes "int64", Int64)
    ∷ (codes "uint8", Uint8) ∷ (codes "uint16", Uint16) ∷ (codes "uint32", Uint32) ∷ (codes "uint64", Uint64) ∷ []

abbrev pub roundings : List (List ℕ × Rounding)
roundings = (codes "fix", Fix) ∷ (codes "floor", Floor) ∷ (codes "ceil", Ceil) ∷ (codes "round", Round) ∷ []

-- the methods that a call of `groupsummary` may name
abbrev pub with_its_name : Method → List (List ℕ × Method)
with_its_name m = elim (method_name m) [ Some name ↦ (name, m) ∷ [] | None ↦ [] ]

abbrev pub methods : List (List ℕ × Method)
methods = flat_map with_its_name (method.Sum ∷ method.SumNative ∷ method.Min ∷ method.Max ∷ method.Nnz ∷ method.Nummissing ∷ [])
