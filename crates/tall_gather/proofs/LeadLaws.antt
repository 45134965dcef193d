-- A node whose rows are those of an operand that is known.
use Rattle.std.specs.Prelude.{◌≡◌, refl, ℕ, ◌<◌, ◌≤◌, ◌^◌, Bool, true, false, None, Some, Result, Ok, Err, List, [], ◌∷◌, length, map, slice_get}
use Rattle.std.proofs.Common.{ap, sym, subst, ◌∙◌, arith, IfOk}
use Rattle.tall_value.specs.Columns.{cells}
use Rattle.tall_semantics.specs.Operations.{Op}
use Rattle.tall_semantics.specs.Outcomes.{Outcome, rows, fault_of}
use Rattle.tall_semantics.specs.RowsOfSpaces.{numbers_in}
use Rattle.tall_semantics.specs.Shapes.{Shape}
use Rattle.tall_semantics.specs.ShapesInOrder.{IsMade, shape_at}
use Rattle.tall_semantics.specs.Spaces.{is_single}
use Rattle.tall_semantics.specs.Talls.{Columns, Tall}
use Rattle.tall_semantics.specs.Deferred.{Vertex, IsAmong, IsOrdered}
use Rattle.tall_blocks.specs.Carries.{Rows}
use Rattle.tall_dense.specs.Columns.{SeenColumn}
use Rattle.tall_dense.specs.declared.faults.OpFault.{OpFault}
use Rattle.tall_fuse.specs.Results.{Found}
use Rattle.tall_block.specs.OfBlocks.{IsOperation, vertex_over}
use Rattle.tall_block.specs.Shown.{Tells}
use Rattle.tall_block.proofs.Heights.{shorter}
use Rattle.tall_block.proofs.Operators.{cells_long}
use Rattle.tall_part.specs.Parts.{numbers}
use Rattle.tall_part.specs.declared.results.EndColumn.{EndColumn}
use Rattle.tall_part.specs.declared.results.EndFault.{EndFault}
use Rattle.tall_pass.specs.Fitting.{AreNumbers, IsFit, IsHeight, has_numbers}
use Rattle.tall_pass.specs.Told.{Shows}
use Rattle.tall_gather.specs.Rests.{IsComputed, IsRestAt}
use Rattle.tall_gather.specs.Smalls.{TellsAnswer, TellsValue}
use Rattle.tall_gather.proofs.NodeLaws.{no_fault, operand_numbered, operand_stands, rest_numbered, same_numbers, shape_is, shown_rows}

-- the node at i has the rows of the operand at a, of which r is known
pub record Leads (vs : List Vertex) (i a : ℕ) (r : Found) : Type 0 where
  pub column_is : is_single (shape_at vs a).space ≡ false
  pub space_is : (shape_at vs a).space ≡ (shape_at vs i).space
  pub numbered : has_numbers (shape_at vs i).space ≡ true
  pub operand_is : has_numbers (shape_at vs a).space ≡ true
  pub many : length r.rows ≡ length r.column.cells
  pub few : length r.rows < 2 ^ 40

pub many_numbers : (s : Shape) (r : Found) → IsFit s r → has_numbers s.space ≡ true → length r.rows ≡ length r.column.cells
many_numbers s r fit n = subst (λ b. AreNumbers b (length r.rows) (length r.column.cells)) n fit.numbers

pub few_rows : (s : Shape) (r : Found) → IsFit s r → is_single s.space ≡ false → length r.column.cells < 2 ^ 40
few_rows s r fit e = subst (λ b. IsHeight b (length r.column.cells)) e fit.height

pub one_row : (s : Shape) (r : Found) → IsFit s r → is_single s.space ≡ true → length r.column.cells ≡ 1
one_row s r fit e = subst (λ b. IsHeight b (length r.column.cells)) e fit.height

pub leads : (vs : List Vertex) (i a : ℕ) (op : Op) (args : List ℕ) (r : Found) → IsRestAt vs i → IsOperation vs i op args → IsAmong args a → is_single (shape_at vs a).space ≡ false → (shape_at vs a).space ≡ (shape_at vs i).space → IsFit (shape_at vs a) r → Leads vs i a r
leads vs i a op args r rest node m e same fit =
    let n : has_numbers (shape_at vs a).space ≡ true = operand_numbered vs i a op args false rest node m e in
    let many = many_numbers (shape_at vs a) r fit n in
    let few = few_rows (shape_at vs a) r fit e in
    record {
      column_is = e;
      space_is = same;
      numbered = rest_numbered vs i false rest (ap is_single (sym same) ∙ e);
      operand_is = n;
      many = many;
      few = omega (arith, many, few);
    }

pub lead_short : {E : Type 0} (vs : List Vertex) (i a : ℕ) (r : Found) (answer : Result SeenColumn E) → Leads vs i a r → IfOk answer (λ c. length c.cells ≤ length r.column.cells) → IfOk answer (λ c. length c.cells ≤ length r.rows)
lead_short vs i a r answer lead h = (let m = lead.many in shorter answer (length r.column.cells) (length r.rows) h (omega (arith, m)))

numbers_long : (rs : Rows) → length (numbers rs) ≡ length rs
numbers_long [] = refl
numbers_long (r ∷ rs) = ap Rattle.std.specs.Prelude.suc (numbers_long rs)

-- rows of the same numbers are as many
pub as_many : (rs ss : Rows) → numbers rs ≡ numbers ss → length (cells rs) ≡ length (cells ss)
as_many rs ss e = cells_long rs ∙ (sym (numbers_long rs) ∙ (ap (λ (l : List ℕ). length l) e ∙ (numbers_long ss ∙ sym (cells_long ss))))

module _ (columns : Columns) (vs : List Vertex) (f : ℕ → Tall) (computed : IsComputed columns vs f) (made : IsMade vs) (ordered : IsOrdered vs) where
  -- the answer of an operation over the operand's rows tells the node's value
  pub lead_told : (i a : ℕ) (op : Op) (args : List ℕ) (node : IsOperation vs i op args) → IsAmong args a → (r : Found) → Leads vs i a r → Shows (f a) r → (answer : Result SeenColumn OpFault) (result : Result EndColumn EndFault)
      → ((v : Vertex) (rs : Rows) (x : Outcome) → slice_get vs i ≡ Some v → r.rows ≡ numbers rs → (fault_of x ≡ None → numbers_in x ≡ numbers rs) → Tells v.at rs x answer → TellsAnswer true x result)
      → ((rs : Rows) → (f a).outcome ≡ rows rs → cells rs ≡ r.column.cells → Tells node.0 rs (f i).outcome answer)
      → TellsValue (f i) result
  lead_told i a op args node m r lead shows answer result told tells =
      let w = operand_stands columns vs f computed made ordered i a op args node m in
      let rs = shown_rows columns vs f computed made ordered a w.0 r w.1 shows lead.column_is lead.operand_is in
      let none = no_fault (f a) r shows in
      let same : fault_of (f i).outcome ≡ None → numbers_in (f i).outcome ≡ numbers rs.0 =
      λ ni. same_numbers columns vs f computed made ordered i a (vertex_over node.0 op args) w.0 node.1 w.1 none lead.space_is ni ∙ ap numbers_in rs.1 in
      subst (λ b. TellsAnswer b (f i).outcome result) (sym (ap (λ (t : Shape). has_numbers t.space) (shape_is columns vs f computed made ordered i (vertex_over node.0 op args) node.1) ∙ lead.numbered))
      (told (vertex_over node.0 op args) rs.0 (f i).outcome node.1 rs.3 same (tells rs.0 rs.1 (sym rs.2)))

  -- two operands of one space have equally many rows
  pub even_rows : (i a b : ℕ) (op : Op) (args : List ℕ) (node : IsOperation vs i op args) → IsAmong args a → IsAmong args b → (x y : Found) → Leads vs i a x → is_single (shape_at vs b).space ≡ false → has_numbers (shape_at vs b).space ≡ true
      → (shape_at vs a).space ≡ (shape_at vs b).space → Shows (f a) x → Shows (f b) y → length y.column.cells ≡ length x.column.cells
  even_rows i a b op args node ma mb x y lead single n same sx sy =
      let v = operand_stands columns vs f computed made ordered i a op args node ma in
      let w = operand_stands columns vs f computed made ordered i b op args node mb in
      let rs = shown_rows columns vs f computed made ordered a v.0 x v.1 sx lead.column_is lead.operand_is in
      let ss = shown_rows columns vs f computed made ordered b w.0 y w.1 sy single n in
      let e : numbers ss.0 ≡ numbers rs.0 =
      sym (ap numbers_in ss.1) ∙ (same_numbers columns vs f computed made ordered b a w.0 v.0 w.1 v.1 (no_fault (f a) x sx) same (no_fault (f b) y sy) ∙ ap numbers_in rs.1) in
      ap length ss.2 ∙ (as_many ss.0 rs.0 e ∙ ap length (sym rs.2))
