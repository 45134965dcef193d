-- Behind all blocks of a pass: what is numbered below their least fault has its defined outcome, told by the sums of the blocks.
use Rattle.std.specs.Prelude.{◌≡◌, refl, ℕ, ◌+◌, ◌⊎◌, true, Option, None, Some, List, [], ◌∷◌, ◌++◌, length, map, take, slice_get}
use Rattle.std.proofs.Common.{ap, sym, subst, ◌∙◌, arith, inl, inr}
use Rattle.std.proofs.lemmas.List.{length-map, take_all}
use Rattle.tall_value.specs.Cells.{Seen}
use Rattle.tall_value.specs.Classes.{kind_of}
use Rattle.tall_value.specs.Columns.{cells}
use Rattle.tall_value.specs.declared.functions.Scan.{Scan}
use Rattle.tall_semantics.specs.Faults.{At, Fault, earlier, least_fault}
use Rattle.tall_semantics.specs.Outcomes.{Outcome, fault_of, rows, rows_in}
use Rattle.tall_semantics.specs.Shapes.{Shape}
use Rattle.tall_semantics.specs.ShapesInOrder.{IsMade}
use Rattle.tall_semantics.specs.Talls.{own_outcome, outcomes}
use Rattle.tall_semantics.specs.Deferred.{IsAmong, Vertex, fault_in, own_in}
use Rattle.tall_semantics.specs.Least.{IsBelow, IsLeast}
use Rattle.tall_semantics.specs.Numbered.{number_at}
use Rattle.tall_semantics.proofs.Basics.{inside}
use Rattle.tall_semantics.proofs.MeaningLaws.{made_value}
use Rattle.tall_semantics.proofs.OriginLaws.{below_among, faults_of_values, get_before, tall_outcome}
use Rattle.tall_semantics.proofs.ShapesInOrderLaws.{value_shape}
use Rattle.tall_blocks.specs.Blocks.{all_rows, block_columns}
use Rattle.tall_blocks.specs.Carries.{carry_for, flat}
use Rattle.tall_blocks.specs.PassWork.{IsEndOf, IsWorkOf}
use Rattle.tall_blocks.specs.Pieces.{fault_from}
use Rattle.tall_blocks.specs.ValuesOver.{no_cells, rows_of_blocks}
use Rattle.tall_blocks.proofs.BlockLaws.{over_others}
use Rattle.tall_blocks.proofs.EndOperandLaws.{end_operands}
use Rattle.tall_blocks.proofs.PassLaws.{rows_of_value, whole}
use Rattle.tall_blocks.proofs.PassWorkLaws.{below_more, cut_no_fault, level_ends, level_found}
use Rattle.tall_blocks.proofs.PieceLaws.{found_all}
use Rattle.tall_blocks.proofs.SeenLaws.{all_none, unless_none}
use Rattle.tall_part.specs.Operations.{op_of, outcome_of_rows}
use Rattle.tall_part.specs.declared.operation.EndOperation.{EndOperation}
use Rattle.tall_part.specs.declared.operation.EndOperation.TheVariants as end
use Rattle.tall_part.proofs.OperationLaws.{one_told}
use Rattle.tall_piece.specs.declared.wanted.Wanted.{Wanted}
use Rattle.tall_piece.specs.declared.wanted.Way.TheVariants as way
use Rattle.tall_piece.specs.Carried.{AreAllCarries, AreCarries}
use Rattle.tall_piece.specs.Passes.{PassOver, blocks_up_to, carry_of, fault_up_to}
use Rattle.tall_piece.specs.Passes as passes
use Rattle.tall_piece.specs.Wants.{AreOperands, HasTwo, IsOfWay, blocks_cells, class_at}
use Rattle.tall_piece.proofs.CarriedLaws.{carries_end}
use Rattle.tall_piece.proofs.GivenLaws.{among_first, among_last}
use Rattle.tall_piece.proofs.PassOverLaws.{blockwise, can, cut_work}
use Rattle.tall_piece.proofs.StepLaws.{carry_told}

flat_rows : (hs : List (ℕ → Outcome)) (i : ℕ) → flat (map (λ (h : ℕ → Outcome). rows_in (h i)) hs) ≡ rows_of_blocks hs i
flat_rows [] i = refl
flat_rows (h ∷ hs) i = ap (λ rs. rows_in (h i) ++ rs) (flat_rows hs i)

module _ {vs : List Vertex} {store : ℕ} {all : List ℕ} {wanted : List Wanted} (p : PassOver vs store all wanted) where
  -- how many blocks there are, and their least fault
  abbrev Count : ℕ
  Count = length (passes.outcomes p)

  abbrev Found : Option Fault
  Found = fault_up_to p Count

  all_taken : {A : Type 0} (g : (ℕ → Outcome) → A) → take Count (map g (passes.outcomes p)) ≡ map g (passes.outcomes p)
  all_taken g = take_all Count (map g (passes.outcomes p)) (let l = length-map (passes.outcomes p) g in omega (arith, l))

  all_outcomes : take Count (passes.outcomes p) ≡ passes.outcomes p
  all_outcomes = take_all Count (passes.outcomes p) (omega (arith))

  pub all_rows_of : (i : ℕ) → flat (blocks_up_to p Count i) ≡ rows_of_blocks (passes.outcomes p) i
  all_rows_of i = ap flat (all_taken (λ (h : ℕ → Outcome). rows_in (h i))) ∙ flat_rows (passes.outcomes p) i

  found_is : IsLeast (own_in vs p.f) (IsAmong all) Found
  found_is =
      subst (λ hs. IsLeast (own_in vs p.f) (IsAmong all) (fault_from vs p.f all None hs)) (sym all_outcomes) (found_all p.columns p.of_stores vs p.f store p.cut p.blocks (blockwise p) all (cut_work p))

  -- what is computed and numbered below it has no fault, and the rows of its blocks
  unfaulted : (i : ℕ) → p.cut i ≡ true → IsBelow Found (number_at (slice_get vs i)) → fault_in p.f i ≡ None
  unfaulted =
      cut_no_fault p.columns p.of_stores vs p.f p.levels p.carried p.roots p.needed p.gather store p.before p.candidate p.least p.cut p.cuts all p.listed (can p) p.numbered Found found_is
      (over_others (block_columns (all_rows p.blocks)) p.columns no_cells vs p.f p.cut (λ i. (p.f i).outcome) (λ i v s a e c q. sym (p.of_blocks i v s a e c q)) (whole p.columns p.of_stores vs p.f store p.cut p.blocks (blockwise p)))

  pub value_rows : (i : ℕ) → p.cut i ≡ true → IsBelow Found (number_at (slice_get vs i)) → (p.f i).outcome ≡ rows (flat (blocks_up_to p Count i))
  value_rows i c below =
      let v = (cut_work p).there i ((p.listed i).1 c) in
      rows_of_value p.columns p.of_stores vs p.f store p.cut p.blocks (blockwise p) i v.1.0 v.1.1 c (unfaulted i c below) ∙ ap rows (sym (all_rows_of i))

  -- the least fault of the work with rows and of the ends that are numbered below it
  pub pass_fault : (ends : List ℕ) → ((i : ℕ) → IsAmong ends i → IsEndOf store vs p.f p.levels p.needed (p.before + 1) p.candidate i)
      → ((i : ℕ) → IsEndOf store vs p.f p.levels p.needed (p.before + 1) p.candidate i → IsBelow Found (number_at (slice_get vs i)) → IsAmong ends i) → (q : Option Fault) → IsLeast (own_in vs p.f) (IsAmong ends) q
      → IsLeast (own_in vs p.f) (λ i. IsWorkOf store vs p.f p.levels p.needed (p.before + 1) p.candidate i ⊎ IsEndOf store vs p.f p.levels p.needed (p.before + 1) p.candidate i) (earlier Found q)
  pass_fault ends are enough q least =
      level_ends p.columns p.of_stores vs p.f p.levels p.carried p.roots p.needed p.gather store p.before p.candidate p.least p.cut p.cuts all p.listed (can p) p.numbered Found
      ((level_found p.columns p.of_stores vs p.f p.levels p.carried p.roots p.needed p.gather store p.before p.candidate p.least p.cut p.cuts all p.listed Found).0 found_is) ends are enough q least

  -- a value at the end is told by the rows of its operands' blocks
  pub end_value : IsMade vs → (i : ℕ) (e : EndOperation) (a b : ℕ) (w : IsOfWay vs i (way.End e a b)) → IsEndOf store vs p.f p.levels p.needed (p.before + 1) p.candidate i → IsBelow Found (number_at (slice_get vs i))
      → (p.f i).outcome ≡ outcome_of_rows w.0.at e w.1 (class_at vs a) (class_at vs b) (flat (blocks_up_to p Count a)) (flat (blocks_up_to p Count b))
  end_value made i e a b w of below =
      let v = w.0 in
      let op = op_of e w.1 in
      let same : of.1.1.0 ≡ v = inside of.1.1.0 v (sym of.1.1.2 ∙ w.2) in
      let among : IsAmong v.args of.1.1.1 = subst (λ (u : Vertex). IsAmong u.args of.1.1.1) same of.1.1.3 in
      let all_of = end_operands p.columns vs p.f p.gather.meaning store i of.1.1.1 v op w.2 w.3 of.1.0 among of.1.1.4 in
      let cut_arg : (c : ℕ) → IsAmong v.args c → p.cut c ≡ true = λ c m. p.cuts.ends i c v of w.2 m (all_of.2 c m) in
      let low : (c : ℕ) → IsAmong v.args c → IsBelow Found (number_at (slice_get vs c)) = λ c m.
      (let t = get_before vs i c v w.2 (below_among i v.args c (p.gather.ordered i v w.2) m) in below_more Found (number_at (slice_get vs c)) (number_at (slice_get vs i)) (p.gather.levelled.operands i c v t.0 w.2 m t.1).0 below) in
      let none : (c : ℕ) → IsAmong v.args c → fault_in p.f c ≡ None = λ c m. unfaulted c (cut_arg c m) (low c m) in
      let ma = among_first e v.args a b w.4 in
      let mb = among_last e v.args a b w.4 in
      let ra : rows_in (p.f a).outcome ≡ flat (blocks_up_to p Count a) = ap rows_in (value_rows a (cut_arg a ma) (low a ma)) in
      let rb : rows_in (p.f b).outcome ≡ flat (blocks_up_to p Count b) = ap rows_in (value_rows b (cut_arg b mb) (low b mb)) in
      let ca : (p.f a).shape.class ≡ class_at vs a = shape_class a v ma i w.2 in
      let cb : (p.f b).shape.class ≡ class_at vs b = shape_class b v mb i w.2 in
      tall_outcome v.at op (map p.f v.args) (p.f i) (made_value p.columns vs p.f p.gather.meaning i v op w.2 w.3)
      ∙ (unless_none (least_fault (map fault_of (outcomes (map p.f v.args)))) (own_outcome v.at op (map p.f v.args)) (ap least_fault (faults_of_values p.f v.args) ∙ all_none (fault_in p.f) v.args none)
      ∙ (own_told v.at e w.1 v.args a b w.4
      ∙ (ap (λ k. outcome_of_rows v.at e w.1 k (p.f b).shape.class (rows_in (p.f a).outcome) (rows_in (p.f b).outcome)) ca ∙ (ap (λ k. outcome_of_rows v.at e w.1 (class_at vs a) k (rows_in (p.f a).outcome) (rows_in (p.f b).outcome)) cb
      ∙ (ap (λ rs. outcome_of_rows v.at e w.1 (class_at vs a) (class_at vs b) rs (rows_in (p.f b).outcome)) ra ∙ ap (outcome_of_rows v.at e w.1 (class_at vs a) (class_at vs b) (flat (blocks_up_to p Count a))) rb)))))
    where
      shape_class : (c : ℕ) (v : Vertex) → IsAmong v.args c → (j : ℕ) → slice_get vs j ≡ Some v → (p.f c).shape.class ≡ class_at vs c
      shape_class c v m j g = (let t = get_before vs j c v g (below_among j v.args c (p.gather.ordered j v g) m) in ap (λ (x : Shape). x.class) (value_shape p.columns vs p.f made p.gather.meaning c t.0 t.1))

      two_told : (at : At) (x : EndOperation) (n c d : ℕ) → HasTwo x → own_outcome at (op_of x n) (p.f c ∷ p.f d ∷ []) ≡ outcome_of_rows at x n (p.f c).shape.class (p.f d).shape.class (rows_in (p.f c).outcome) (rows_in (p.f d).outcome)
      two_told at (end.Reduce r) n c d h = absurd h
      two_told at (end.Head k) n c d h = absurd h
      two_told at (end.Tail k) n c d h = absurd h
      two_told at end.Distinct n c d h = absurd h
      two_told at (end.Group m) n c d h = refl

      own_told : (at : At) (x : EndOperation) (n : ℕ) (args : List ℕ) (c d : ℕ) → AreOperands x args c d → own_outcome at (op_of x n) (map p.f args) ≡ outcome_of_rows at x n (p.f c).shape.class (p.f d).shape.class (rows_in (p.f c).outcome) (rows_in (p.f d).outcome)
      own_told at x n args c d ops = elim ops [
        | inl one ↦ ap (λ xs. own_outcome at (op_of x n) (map p.f xs)) one.0 ∙ (one_told at x n (p.f c) ∙ ap (λ j. outcome_of_rows at x n (p.f c).shape.class (p.f j).shape.class (rows_in (p.f c).outcome) (rows_in (p.f j).outcome)) (sym one.1))
        | inr two ↦ ap (λ xs. own_outcome at (op_of x n) (map p.f xs)) two.1 ∙ two_told at x n c d two.0
      ]

  -- the carries that were kept are all carries of the scan
  pub all_carries : IsMade vs → (i : ℕ) (s : Scan) (a : ℕ) → IsOfWay vs i (way.Carries s a) → (xs : List Seen) → AreCarries (λ b. carry_of p b i) (length (blocks_up_to p Count a)) xs → AreAllCarries (λ b. carry_of p b i) xs
  all_carries made i s a w xs are m =
      let bs = blocks_cells (map (λ (h : ℕ → Outcome). rows_in (h a)) (passes.outcomes p)) in
      let told : (b : ℕ) → carry_of p b i ≡ carry_for s (kind_of (class_at vs a)) bs b = λ b. carry_told p made i a b w.0 s w.1 w.2 w.3 w.5 in
      let n : length (blocks_up_to p Count a) ≡ length bs = ap length (all_taken (λ (h : ℕ → Outcome). rows_in (h a))) ∙ sym (length-map (map (λ (h : ℕ → Outcome). rows_in (h a)) (passes.outcomes p)) cells) in
      carries_end s (kind_of (class_at vs a)) bs (length (blocks_up_to p Count a)) xs (omega (arith, n)) (are.0, λ b l. are.1 b l ∙ told b) m ∙ sym (told m)
