-- What is made of an operation's answer.
use Rattle.std.specs.Prelude.{◌≡◌, refl, ℕ, zero, suc, ◌<◌, ◌≤◌, ◌^◌, Bool, true, false, Option, None, Some, List, [], ◌∷◌, length, take, slice_get, IfSome, ◌&&◌, not}
use Rattle.std.specs.List.{slice_range}
use Rattle.std.proofs.Common.{ap, sym, subst, ◌∙◌, arith}
use Rattle.tall_value.specs.Cells.{Seen}
use Rattle.tall_value.specs.Columns.{cells}
use Rattle.tall_value.specs.Reductions.{data_fault}
use Rattle.tall_value.specs.declared.faults.CellFault.{CellFault}
use Rattle.tall_value.specs.declared.faults.Fault as value
use Rattle.tall_semantics.specs.Faults.{At, fault_at, fault_seen}
use Rattle.tall_semantics.specs.Outcomes.{Outcome, rows, scalar, fault, fault_of}
use Rattle.tall_semantics.specs.RowsOfSpaces.{numbers_in}
use Rattle.tall_semantics.specs.Spaces.{has_rows, is_single}
use Rattle.tall_semantics.specs.Shapes.{Shape}
use Rattle.tall_semantics.specs.Deferred.{Vertex}
use Rattle.tall_semantics.specs.Numbered.{number_at}
use Rattle.tall_blocks.specs.Carries.{Rows}
use Rattle.tall_blocks.specs.RowPlaces.{row_number_at}
use Rattle.tall_block.specs.Shown.{Shows}
use Rattle.tall_part.specs.Parts.{numbers}
use Rattle.tall_fuse.specs.Results.{Found}
use Rattle.tall_pass.specs.Fitting.{AreNumbers, IsFit, IsHeight, has_numbers}
use Rattle.tall_pass.specs.Told.{AreNumbersOf, IsOutcome}
use Rattle.tall_gather.proofs.NodeLaws.{stands}

taken_all : {A : Type 0} (xs : List A) (n : ℕ) → n ≡ length xs → take n xs ≡ xs
taken_all [] zero e = refl
taken_all [] (suc n) e = absurd (omega (arith, e))
taken_all (x ∷ xs) zero e = absurd (omega (arith, e))
taken_all (x ∷ xs) (suc n) e = ap (λ ys. x ∷ ys) (taken_all xs n (omega (arith, e)))

pub taken_long : {A : Type 0} (xs : List A) (n : ℕ) → n ≤ length xs → length (take n xs) ≡ n
taken_long xs zero e = refl
taken_long [] (suc n) e = absurd (omega (arith, e))
taken_long (x ∷ xs) (suc n) e = (let l = taken_long xs n (omega (arith, e)) in omega (arith, l))

numbers_long : (rs : Rows) → length (numbers rs) ≡ length (cells rs)
numbers_long [] = refl
numbers_long (r ∷ rs) = ap suc (numbers_long rs)

numbered_single : (s : Shape) → has_numbers s.space ≡ true → is_single s.space ≡ false
numbered_single s h = by (is_single s.space) h
  where
    by : (b : Bool) → (not b && not (has_rows s.space)) ≡ true → b ≡ false
    by true e = absurd (cc)
    by false e = refl

-- a column with as many numbers fits a node with numbers
pub rows_fit : (s : Shape) (r : Found) → r.column.class ≡ s.class → has_numbers s.space ≡ true → length r.rows ≡ length r.column.cells → length r.column.cells < 2 ^ 40 → IsFit s r
rows_fit s r class n many few = record {
  class = class;
  height = subst (λ b. IsHeight b (length r.column.cells)) (sym (numbered_single s n)) few;
  numbers = subst (λ b. AreNumbers b (length r.rows) (length r.column.cells)) (sym n) many;
}

-- one cell without a number fits a scalar
pub cell_fits : (s : Shape) (r : Found) (c : Seen) → r.column.class ≡ s.class → is_single s.space ≡ true → r.column.cells ≡ c ∷ [] → r.rows ≡ [] → IsFit s r
cell_fits s r c class e are none = record {
  class = class;
  height = subst (λ b. IsHeight b (length r.column.cells)) (sym e) (ap length are);
  numbers = subst (λ b. AreNumbers b (length r.rows) (length r.column.cells)) (sym (no_numbers (is_single s.space) e)) (ap length none);
}
  where
    no_numbers : (b : Bool) → b ≡ true → (not b && not (has_rows s.space)) ≡ false
    no_numbers true e = refl
    no_numbers false e = absurd (cc)

front : (xs : List ℕ) (n : ℕ) → slice_range xs 0 n ≡ take n xs
front xs n = ap (λ k. take k xs) (omega arith)

pub front_long : (xs taken : List ℕ) (n : ℕ) → taken ≡ slice_range xs 0 n → n ≤ length xs → length taken ≡ n
front_long xs taken n e l = ap (λ (ys : List ℕ). length ys) (e ∙ front xs n) ∙ taken_long xs n l

-- as many cells as the rows of the operand, whose numbers are all taken
pub column_told : (x : Outcome) (ns : List ℕ) (rs : Rows) (cs : List Seen) (taken : List ℕ) → taken ≡ slice_range ns 0 (length cs) → ns ≡ numbers rs → (fault_of x ≡ None → numbers_in x ≡ numbers rs) → Shows x cs → IsOutcome x cs × AreNumbersOf true x taken
column_told (rows qs) ns rs cs taken t n same shows =
    let all : numbers qs ≡ numbers rs = same refl in
    let long : length cs ≡ length ns = ap length (sym shows) ∙ (sym (numbers_long qs) ∙ (ap (λ (l : List ℕ). length l) all ∙ ap (λ (l : List ℕ). length l) (sym n))) in
    (sym shows, t ∙ (front ns (length cs) ∙ (taken_all ns (length cs) long ∙ (n ∙ sym all))))
column_told (scalar c) ns rs cs taken t n same shows = absurd shows
column_told (fault f) ns rs cs taken t n same shows = absurd shows

number_there : (rs : Rows) (place : ℕ) → place < length rs → slice_get (numbers rs) place ≡ Some (row_number_at rs place)
number_there [] place l = absurd (omega (arith, l))
number_there (r ∷ rs) zero l = refl
number_there (r ∷ rs) (suc place) l = number_there rs place (omega (arith, l))

-- a fault at a row of the operand has the row's number
pub row_told : (at : At) (x : Outcome) (ns : List ℕ) (rs : Rows) (place : ℕ) (e : CellFault) (number : Option ℕ) (f : value.Fault) → number ≡ slice_get ns place → fault_seen f ≡ fault_at at number (data_fault e) → ns ≡ numbers rs
    → (place < length rs) × (x ≡ fault (fault_at at (Some (row_number_at rs place)) (data_fault e))) → x ≡ fault (fault_seen f)
row_told at x ns rs place e number f n seen is told =
    let there : number ≡ Some (row_number_at rs place) = n ∙ (ap (λ (l : List ℕ). slice_get l place) is ∙ number_there rs place told.0) in
    told.1 ∙ ap fault (ap (λ o. fault_at at o (data_fault e)) (sym there) ∙ sym seen)

-- ---- the expression

pub number_is : (vs : List Vertex) (i number : ℕ) → i < length vs → IfSome (slice_get vs i) (λ v. number ≡ v.at.number) → number ≡ number_at (slice_get vs i)
number_is vs i number l h =
    let w = stands vs i l in
    subst (λ o. IfSome o (λ (v : Vertex). number ≡ v.at.number)) w.1 h ∙ sym (ap number_at w.1)

pub fault_is : (vs : List Vertex) (i : ℕ) (v : Vertex) (f : value.Fault) → slice_get vs i ≡ Some v → IfSome (slice_get vs i) (λ v. f.number ≡ v.at.number) → IfSome (slice_get vs i) (λ v. f.line ≡ v.at.line) → fault_seen f ≡ fault_at v.at f.row f.kind
fault_is vs i v f e n l =
    let number : f.number ≡ v.at.number = subst (λ o. IfSome o (λ (w : Vertex). f.number ≡ w.at.number)) e n in
    let line : f.line ≡ v.at.line = subst (λ o. IfSome o (λ (w : Vertex). f.line ≡ w.at.line)) e l in
    ap (λ k. fault_at (record { number = k; line = f.line }) f.row f.kind) number ∙ ap (λ k. fault_at (record { number = v.at.number; line = k }) f.row f.kind) line
