use Rattle.std.specs.Prelude.{◌≡◌, ◌≤◌, length, Ok, option_map, slice_get}
use Rattle.std.proofs.Common.{ap, sym, subst, ◌∙◌, inl, inr}
use Rattle.tall_dense.specs.Columns.{SeenColumn}
use Rattle.tall_column.specs.Tables.{height_of}
use Rattle.tall_value.specs.Reductions.{data_fault}
use Rattle.tall_semantics.specs.Faults.{Fault, computed, fault_seen}
use Rattle.tall_semantics.specs.Outcomes.{fault, rows_in}
use Rattle.tall_semantics.specs.Deferred.{Vertex, IsAmong}
use Rattle.tall_semantics.specs.ShapesInOrder.{shape_at}
use Rattle.tall_semantics.specs.Spaces.{is_single}
use Rattle.tall_semantics.proofs.Basics.{inside}
use Rattle.tall_blocks.specs.RowPlaces.{row_number_at}
use Rattle.tall_fuse.specs.Kept.{carry}
use Rattle.tall_block.specs.OfBlocks.{known_scalar}
use Rattle.tall_block.specs.NodeForms.{IfMade, IsLed, IsOperationAt, IsReady, TellsOf}
use Rattle.tall_block.specs.declared.values.Value.{Value}
use Rattle.tall_block.proofs.StepLaws.{failed, one_more, operands_there, stays, was_there}
use Rattle.tall_block.proofs.ValueLaws.{column_cut, get_some}
use Rattle.tall_block.proofs.WorkLaws.{line_told, number_told, same_fault}
use Rattle.tall_block.proofs.block.compute.Goals as goal

pub returns-in-Stored-clause-values : goal.returns-in-Stored-clause-values
returns-in-Stored-clause-values c = λ work done columns so_far f cut h block next below going.
    let w = get_some c.args.graph.now c.args.n c.requires.place in
    let operands = operands_there block c.keeps_its_rules.ensures.numbered done c.args.n w.0 w.1 next.among next.within c.args.made.now (option_map fault_seen c.args.least) going (below w.0 w.1) (λ a m is. next.operands a w.0 w.1 m is) in
    let ready : IsReady c.args.graph.now c.args.table.now c.args.made.now (known_scalar c.args.known.now) (λ i. carry c.args.known.now i c.args.block) c.args.first_row work columns so_far f cut h c.args.n =
    record { block = block; among = next.among; shown = going.shown; there = λ a v e m is. operands a (subst (λ (u : Vertex). IsAmong u.args a) (inside v w.0 (sym e ∙ w.1)) m) is; carried = next.carried } in
    let t = subst (λ (r : Value). TellsOf c.args.graph.now c.args.table.now c.args.made.now w.0.at h c.args.n (Ok r)) c.in-Stored.is (c.in_ok-value_of.ensures.tells c.args.first_row work columns so_far f cut h ready w.0 w.1) in
    stays block c.keeps_its_rules.ensures.numbered done c.args.n w.0 w.1 next.among next.within c.args.made.now (option_map fault_seen c.args.least) going t.0 t.1

pub returns-in_ok-put-in-Made-clause-columns : goal.returns-in_ok-put-in-Made-clause-columns
returns-in_ok-put-in-Made-clause-columns c = λ i d e.
    let class = subst (λ (r : Value). IfMade (Ok r) (λ k. k.class ≡ (shape_at c.args.graph.now c.args.n).class)) c.in-Made.is c.in_ok-value_of.ensures.class in
    elim (was_there c.args.graph.now c.args.table.now c.args.made.now c.put.new.made c.args.n c.in-Made.column c.in_ok-put-in-Made.ensures i d e) [
      | inl before ↦ c.requires.columns i d before
      | inr now ↦ (
        sym (ap (λ (k : SeenColumn). k.class) now.1) ∙ (class ∙ ap (λ k. (shape_at c.args.graph.now k).class) (sym now.0)),
        ap (λ k. is_single (shape_at c.args.graph.now k).space) now.0 ∙ c.requires.rows,
      )
    ]

pub returns-in_ok-put-in-Made-clause-values : goal.returns-in_ok-put-in-Made-clause-values
returns-in_ok-put-in-Made-clause-values c = λ work done columns so_far f cut h block next below going.
    let w = get_some c.args.graph.now c.args.n c.requires.place in
    let operands = operands_there block c.keeps_its_rules.ensures.numbered done c.args.n w.0 w.1 next.among next.within c.args.made.now (option_map fault_seen c.args.least) going (below w.0 w.1) (λ a m is. next.operands a w.0 w.1 m is) in
    let ready : IsReady c.args.graph.now c.args.table.now c.args.made.now (known_scalar c.args.known.now) (λ i. carry c.args.known.now i c.args.block) c.args.first_row work columns so_far f cut h c.args.n =
    record { block = block; among = next.among; shown = going.shown; there = λ a v e m is. operands a (subst (λ (u : Vertex). IsAmong u.args a) (inside v w.0 (sym e ∙ w.1)) m) is; carried = next.carried } in
    let t = subst (λ (r : Value). TellsOf c.args.graph.now c.args.table.now c.args.made.now w.0.at h c.args.n (Ok r)) c.in-Made.is (c.in_ok-value_of.ensures.tells c.args.first_row work columns so_far f cut h ready w.0 w.1) in
    let op = subst (λ (r : Value). IfMade (Ok r) (λ k. IsOperationAt c.args.graph.now c.args.n)) c.in-Made.is c.in_ok-value_of.ensures.operation in
    let is_op = ap (λ (u : Vertex). u.made) (inside w.0 op.0 (sym w.1 ∙ op.2)) ∙ op.3 in
    one_more block c.keeps_its_rules.ensures.numbered done c.args.n w.0 w.1 next.among next.within c.args.made.now (option_map fault_seen c.args.least) going c.put.new.made c.in-Made.column c.in_ok-put-in-Made.ensures op.1 is_op t operands

pub returns-in-Failed-clause-values : goal.returns-in-Failed-clause-values
returns-in-Failed-clause-values c = λ work done columns so_far f cut h block next below going.
    let w = get_some c.args.graph.now c.args.n c.requires.place in
    let operands = operands_there block c.keeps_its_rules.ensures.numbered done c.args.n w.0 w.1 next.among next.within c.args.made.now (option_map fault_seen c.args.least) going (below w.0 w.1) (λ a m is. next.operands a w.0 w.1 m is) in
    let ready : IsReady c.args.graph.now c.args.table.now c.args.made.now (known_scalar c.args.known.now) (λ i. carry c.args.known.now i c.args.block) c.args.first_row work columns so_far f cut h c.args.n =
    record { block = block; among = next.among; shown = going.shown; there = λ a v e m is. operands a (subst (λ (u : Vertex). IsAmong u.args a) (inside v w.0 (sym e ∙ w.1)) m) is; carried = next.carried } in
    let t = subst (λ (r : Value). TellsOf c.args.graph.now c.args.table.now c.args.made.now w.0.at h c.args.n (Ok r)) c.in-Failed.is (c.in_ok-value_of.ensures.tells c.args.first_row work columns so_far f cut h ready w.0 w.1) in
    let led = subst (λ (r : Value). IsLed c.args.graph.now c.args.table.now c.args.made.now c.args.n (Ok r)) c.in-Failed.is c.in_ok-value_of.ensures.led in
    let lead_cut = column_cut ready c.requires.columns c.in-Failed.lead led.1.0 led.0.0 led.1.1 led.1.2 led.0.1 in
    let lead_work : IsAmong work c.in-Failed.lead = block.cut_work.closed c.args.n c.in-Failed.lead led.1.0 next.among led.1.1 led.1.2 lead_cut in
    let row = c.row_number.ensures (known_scalar c.args.known.now) (λ i. carry c.args.known.now i c.args.block) work columns so_far f cut h block going.shown going.closed (record { among = lead_work; there = led.0; within = t.0 }) in
    let number = number_told (slice_get c.args.graph.now c.args.n) w.0 c.number_of.result w.1 c.number_of.ensures in
    let line = line_told (slice_get c.args.graph.now c.args.n) w.0 c.line_of.result w.1 c.line_of.ensures in
    let x : Fault = record { number = c.number_of.result; row = c.row_number.result; column = 0; store = 0; cause = computed c.kind.result; line = c.line_of.result } in
    failed block c.keeps_its_rules.ensures.numbered done c.args.n w.0 w.1 next.among next.within c.args.made.now (option_map fault_seen c.args.least) going x (below w.0 w.1) operands
    (t.1 ∙ ap fault (same_fault w.0.at c.number_of.result c.line_of.result (row_number_at (rows_in (h c.in-Failed.lead)) c.in-Failed.row) c.row_number.result (data_fault c.in-Failed.fault) c.kind.result number line row c.kind.ensures)) number

pub returns-in-Missing-clause-values : goal.returns-in-Missing-clause-values
returns-in-Missing-clause-values c = λ work done columns so_far f cut h block next below going.
    let w = get_some c.args.graph.now c.args.n c.requires.place in
    let operands = operands_there block c.keeps_its_rules.ensures.numbered done c.args.n w.0 w.1 next.among next.within c.args.made.now (option_map fault_seen c.args.least) going (below w.0 w.1) (λ a m is. next.operands a w.0 w.1 m is) in
    let ready : IsReady c.args.graph.now c.args.table.now c.args.made.now (known_scalar c.args.known.now) (λ i. carry c.args.known.now i c.args.block) c.args.first_row work columns so_far f cut h c.args.n =
    record { block = block; among = next.among; shown = going.shown; there = λ a v e m is. operands a (subst (λ (u : Vertex). IsAmong u.args a) (inside v w.0 (sym e ∙ w.1)) m) is; carried = next.carried } in
    absurd (subst (λ (r : Value). TellsOf c.args.graph.now c.args.table.now c.args.made.now w.0.at h c.args.n (Ok r)) c.in-Missing.is (c.in_ok-value_of.ensures.tells c.args.first_row work columns so_far f cut h ready w.0 w.1))

pub returns-in_ok-put-in-Made-clause-heights : goal.returns-in_ok-put-in-Made-clause-heights
returns-in_ok-put-in-Made-clause-heights c = λ i d e.
    let height = subst (λ (r : Value). IfMade (Ok r) (λ k. length k.cells ≤ height_of c.args.table.now)) c.in-Made.is c.in_ok-value_of.ensures.height in
    elim (was_there c.args.graph.now c.args.table.now c.args.made.now c.put.new.made c.args.n c.in-Made.column c.in_ok-put-in-Made.ensures i d e) [
      | inl before ↦ c.requires.heights i d before
      | inr now ↦ subst (λ (k : SeenColumn). length k.cells ≤ height_of c.args.table.now) now.1 height
    ]
