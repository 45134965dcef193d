-- What is hashed of a key. Keys of one kind of operation over the same operands may hash alike.
use Rattle.std.specs.Prelude.{ℤ, Option, None, Some, ◌++◌}
use Rattle.std.specs.Hash as fed
use Rattle.std.specs.Hash.{HashWrites}
use Rattle.tall_graph.specs.declared.keys.CellKey.{CellKey}
use Rattle.tall_graph.specs.declared.keys.CellKey.TheVariants as cell
use Rattle.tall_graph.specs.declared.keys.OpKey.{OpKey}
use Rattle.tall_graph.specs.declared.keys.OpKey.TheVariants as op
use Rattle.tall_graph.specs.declared.keys.FormKey.{FormKey}
use Rattle.tall_graph.specs.declared.keys.FormKey.TheVariants.{Column, Over}
use Rattle.tall_graph.specs.declared.keys.Forms.{Forms}
use Rattle.tall_graph.specs.declared.keys.Forms.TheVariants as forms
use Rattle.tall_graph.specs.declared.keys.SpaceKey.{SpaceKey}
use Rattle.tall_graph.specs.declared.keys.SpaceKey.TheVariants as key

abbrev pub number_input : Option ℤ → HashWrites
number_input None = fed.u8 0
number_input (Some n) = fed.i64 n

abbrev pub cell_input : CellKey → HashWrites
cell_input (cell.Whole k n) = fed.i128 n
cell_input (cell.Logical b) = fed.bool b
cell_input (cell.Double d) = number_input d
cell_input (cell.Text n) = fed.usize n

abbrev pub op_input : OpKey → HashWrites
op_input (op.Constant c) = cell_input c
op_input (op.Unary f) = fed.u8 1
op_input (op.Binary f) = fed.u8 2
op_input op.Filter = fed.u8 3
op_input (op.Reduce r) = fed.u8 4
op_input (op.Scan s) = fed.u8 5
op_input (op.Head k) = fed.u64 k
op_input (op.Tail k) = fed.u64 k
op_input op.Distinct = fed.u8 6
op_input (op.Group m p) = fed.u8 7

abbrev pub operands_input : Forms → HashWrites
operands_input forms.None = fed.u8 0
operands_input (forms.One a) = fed.usize a
operands_input (forms.Two a b) = fed.usize a ++ fed.usize b

abbrev pub form_input : FormKey → HashWrites
form_input (Column s v c) = fed.u32 s ++ fed.u64 v
form_input (Over f fs) = op_input f ++ operands_input fs

abbrev pub space_input : SpaceKey → HashWrites
space_input key.Single = fed.u8 0
space_input (key.RowsOf s) = fed.u32 s
space_input (key.Kept n m) = fed.usize n ++ fed.usize m
space_input (key.First k n) = fed.u64 k ++ fed.usize n
space_input (key.Last k n) = fed.u64 k ++ fed.usize n
space_input (key.Distinct m) = fed.usize m
space_input (key.Groups m g d) = fed.usize g
