-- Each node that is wanted of a pass is of its way, and what has a result or carries is wanted.
use Rattle.std.specs.Prelude.{◌≡◌, refl, ℕ, ◌<◌, ◌⊎◌, ◌==◌, not, if◌then◌else◌, Bool, true, false, Option, None, Some, List, [], ◌∷◌, ◌++◌, length, map, slice_get}
use Rattle.std.specs.List.{flat_map}
use Rattle.std.proofs.Common.{ap, sym, subst, ◌∙◌, inl, inr}
use Rattle.std.proofs.lemmas.List.{append_assoc}
use Rattle.std.proofs.lemmas.Option.{slice_get_within}
use Rattle.tall_value.specs.declared.class.Class.{Class}
use Rattle.tall_value.specs.declared.functions.Scan.{Scan}
use Rattle.tall_graph.specs.Vertices.{part_of}
use Rattle.tall_semantics.specs.Operations.{Op, reduce, scan, head, tail, distinct, group, keys, counts, values, Made, stored, operation}
use Rattle.tall_semantics.specs.Faults.{Fault}
use Rattle.tall_semantics.specs.Outcomes.{rows}
use Rattle.tall_semantics.specs.Spaces.{Space, store_of}
use Rattle.tall_semantics.specs.Shapes.{Shape, on_column, place_of}
use Rattle.tall_semantics.specs.Shapes as shaping
use Rattle.tall_semantics.specs.ShapesInOrder.{IsMade, made_shape, shape_at}
use Rattle.tall_semantics.specs.Talls.{Columns, Tall}
use Rattle.tall_semantics.specs.Chains.{needs_all_rows}
use Rattle.tall_semantics.specs.InOrder.{tall_in, talls}
use Rattle.tall_semantics.specs.Deferred.{IsAmong, IsMeaning, Vertex}
use Rattle.tall_semantics.specs.Plans.{args_of, is_scan, is_scan_at, store_at}
use Rattle.tall_semantics.proofs.Basics.{and_true, inside}
use Rattle.tall_semantics.proofs.InOrderLaws.{talls_mean}
use Rattle.tall_semantics.proofs.OriginLaws.{below_among, get_before}
use Rattle.tall_semantics.proofs.PlanLaws.{one_datastore}
use Rattle.tall_semantics.proofs.ReachLaws.{placed_at}
use Rattle.tall_semantics.proofs.ShapeLaws.{column_is, group_spaces, place_ok, refused, shape_ok}
use Rattle.tall_semantics.proofs.ShapesInOrderLaws.{made_ordered, made_sound, same_shape, shapes_mean}
use Rattle.tall_blocks.specs.LevelWork.{is_no_store}
use Rattle.tall_blocks.proofs.EndOperandLaws.{end_operands}
use Rattle.tall_blocks.proofs.LevelWorkLaws.{space_of_scan}
use Rattle.tall_block.proofs.ScanLaws.{scan_taken}
use Rattle.tall_part.specs.declared.operation.EndOperation.{EndOperation}
use Rattle.tall_part.specs.declared.operation.EndOperation.TheVariants as end
use Rattle.tall_part.specs.Operations.{is_end, op_of}
use Rattle.tall_part.proofs.AcceptedLaws.{one_taken, two_taken}
use Rattle.tall_part.proofs.OperationLaws.{end_found}
use Rattle.tall_piece.specs.declared.wanted.Wanted.{Wanted}
use Rattle.tall_piece.specs.declared.wanted.Way.{Way}
use Rattle.tall_piece.specs.declared.wanted.Way.TheVariants as way
use Rattle.tall_piece.specs.Joins.{AreWays}
use Rattle.tall_piece.specs.Passes.{IsEndWay}
use Rattle.tall_piece.specs.Wants.{HasTwo, IsOfWay}
use Rattle.tall_plan.specs.declared.passes.Pass.{Pass}
use Rattle.tall_plan.proofs.MarkLaws.{in_list}
use Rattle.tall_pass.specs.PassPlans.{IsPassBelow, IsSmall}
use Rattle.tall_pass.specs.Work.{AreAllWanted, AreWantedFor, HasWanted, IsCarriesWay, IsRowsWay, IsWantedFor, carries_over, carries_way, end_operation, end_over, end_way, one_wanted, rows_wanted, wanted_as, wanted_at, wanted_of, work_way}
use Rattle.tall_pass.proofs.WorkLaws.{collect_within, level_test, work_needed, work_there}

-- ---- operations that need all rows

made_end : (m : Made) (e : EndOperation) → end_operation m ≡ Some e → (n : ℕ) × (m ≡ operation (op_of e n))
made_end (operation (reduce r)) e h = (0, ap (λ x. operation (op_of x 0)) (inside (end.Reduce r) e h))
made_end (operation (head k)) e h = (0, ap (λ x. operation (op_of x 0)) (inside (end.Head k) e h))
made_end (operation (tail k)) e h = (0, ap (λ x. operation (op_of x 0)) (inside (end.Tail k) e h))
made_end (operation distinct) e h = (0, ap (λ x. operation (op_of x 0)) (inside end.Distinct e h))
made_end (operation (group m keys)) e h = (0, ap (λ x. operation (op_of x 0)) (inside (end.Group m) e h))
made_end (operation (group m counts)) e h = (1, ap (λ x. operation (op_of x 1)) (inside (end.Group m) e h))
made_end (operation (group m values)) e h = (2, ap (λ x. operation (op_of x 2)) (inside (end.Group m) e h))
made_end m e h = absurd (cc)

end_again : (e : EndOperation) (n : ℕ) → end_operation (operation (op_of e n)) ≡ Some e
end_again (end.Reduce r) n = refl
end_again (end.Head k) n = refl
end_again (end.Tail k) n = refl
end_again end.Distinct n = refl
end_again (end.Group m) n = refl

no_operands : (e : EndOperation) (n : ℕ) (p : Class × Space) → place_of (op_of e n) [] ≡ place_ok p → ⊥
no_operands (end.Reduce r) n p h = refused p h
no_operands (end.Head k) n p h = refused p h
no_operands (end.Tail k) n p h = refused p h
no_operands end.Distinct n p h = refused p h
no_operands (end.Group m) n p h = refused p h

two_operands : (e : EndOperation) (n : ℕ) (x y : Shape) (p : Class × Space) → place_of (op_of e n) (x ∷ y ∷ []) ≡ place_ok p → HasTwo e × (x.space ≡ y.space)
two_operands (end.Reduce r) n x y p h = absurd (refused p h)
two_operands (end.Head k) n x y p h = absurd (refused p h)
two_operands (end.Tail k) n x y p h = absurd (refused p h)
two_operands end.Distinct n x y p h = absurd (refused p h)
two_operands (end.Group m) n x y p h =
    (tt, group_spaces m (part_of n) x y p (column_is y (shaping.summary m (part_of n) x y) p (column_is x (on_column y (shaping.summary m (part_of n) x y)) p h)))

three_operands : (e : EndOperation) (n : ℕ) (x y z : Shape) (xs : List Shape) (p : Class × Space) → place_of (op_of e n) (x ∷ y ∷ z ∷ xs) ≡ place_ok p → ⊥
three_operands (end.Reduce r) n x y z xs p h = refused p h
three_operands (end.Head k) n x y z xs p h = refused p h
three_operands (end.Tail k) n x y z xs p h = refused p h
three_operands end.Distinct n x y z xs p h = refused p h
three_operands (end.Group m) n x y z xs p h = refused p h

end_test : (m : Made) → needs_all_rows m ≡ true → is_scan m ≡ false → is_end m ≡ true
end_test m all other = and_true (needs_all_rows m) (not (is_scan m)) all (ap not other)

scan_made : (m : Made) → is_scan m ≡ true → (s : Scan) × (m ≡ operation (scan s))
scan_made (operation (scan s)) h = (s, refl)
scan_made m h = absurd (cc)

pub none_is : (o : Option ℕ) → is_no_store o ≡ true → o ≡ None
none_is None h = refl
none_is (Some s) h = absurd (cc)

pub none_or_other : (o : Option ℕ) (s : ℕ) → o ≡ None → o ≡ Some s → ⊥
none_or_other o s n e = cc

some_store : (o : Option ℕ) → is_no_store o ≡ false → (s : ℕ) × (o ≡ Some s)
some_store None h = absurd (cc)
some_store (Some s) h = (s, refl)

-- ---- one node

module _ (vs : List Vertex) (made : IsMade vs) where
  placed_over : (i : ℕ) (v : Vertex) (op : Op) (args : List ℕ) → slice_get vs i ≡ Some v → v.made ≡ operation op → v.args ≡ args → (p : Class × Space) × (place_of op (map (shape_at vs) args) ≡ place_ok p)
  placed_over i v op args e q a = (let w = placed_at vs made i v op e q in (w.0, subst (λ xs. place_of op (map (shape_at vs) xs) ≡ place_ok w.0) a w.1))

  operand_within : (i a : ℕ) (v : Vertex) → slice_get vs i ≡ Some v → IsAmong v.args a → a < length vs
  operand_within i a v e among = (let b = get_before vs i a v e (below_among i v.args a (made_ordered vs made i v e) among) in slice_get_within vs a b.0 b.1)

  end_args : (i : ℕ) (v : Vertex) (y : Way) (x : EndOperation) (n : ℕ) (args : List ℕ) → slice_get vs i ≡ Some v → v.made ≡ operation (op_of x n) → v.args ≡ args → end_over x args ≡ Some y → IsOfWay vs i y × IsEndWay y
  end_args i v y x n [] e q a h = absurd (cc)
  end_args i v y x n (b ∷ []) e q a h =
      let l : b < length vs = operand_within i b v e (subst (λ xs. IsAmong xs b) (sym a) (inl refl)) in
      subst (λ z. IsOfWay vs i z × IsEndWay z) (inside (way.End x b b) y h) ((v, n, e, q, inl (a, refl), (one_taken vs made i b n v x e q a).taken, l, l, refl), tt)
  end_args i v y x n (b ∷ d ∷ []) e q a h =
      let lb : b < length vs = operand_within i b v e (subst (λ xs. IsAmong xs b) (sym a) (inl refl)) in
      let ld : d < length vs = operand_within i d v e (subst (λ xs. IsAmong xs d) (sym a) (inr (inl refl))) in
      let p = placed_over i v (op_of x n) (b ∷ d ∷ []) e q a in
      let two = two_operands x n (shape_at vs b) (shape_at vs d) p.0 p.1 in
      subst (λ z. IsOfWay vs i z × IsEndWay z) (inside (way.End x b d) y h) ((v, n, e, q, inr (two.0, a), (two_taken vs made i b d n v x e q a).taken, lb, ld, two.1), tt)
  end_args i v y x n (b ∷ d ∷ g ∷ args) e q a h = absurd (cc)

  end_is : (i : ℕ) (v : Vertex) (y : Way) → slice_get vs i ≡ Some v → end_way (end_operation v.made) v.args ≡ Some y → IsOfWay vs i y × IsEndWay y
  end_is i v y e h = by_operation (end_operation v.made) refl h
    where
      by_operation : (o : Option EndOperation) → end_operation v.made ≡ o → end_way o v.args ≡ Some y → IsOfWay vs i y × IsEndWay y
      by_operation None q g = absurd (cc)
      by_operation (Some x) q g = (let w = made_end v.made x q in end_args i v y x w.0 v.args e w.1 refl g)

  carries_is : (i : ℕ) (v : Vertex) (y : Way) → slice_get vs i ≡ Some v → carries_way v.made v.args ≡ Some y → IsOfWay vs i y × IsCarriesWay y × (is_scan v.made ≡ true)
  carries_is i v y e h = by_made v.made v.args refl refl h
    where
      by_made : (m : Made) (args : List ℕ) → v.made ≡ m → v.args ≡ args → carries_way m args ≡ Some y → IsOfWay vs i y × IsCarriesWay y × (is_scan v.made ≡ true)
      by_made (operation (scan s)) [] q a g = absurd (cc)
      by_made (operation (scan s)) (b ∷ []) q a g =
          let l : b < length vs = operand_within i b v e (subst (λ xs. IsAmong xs b) (sym a) (inl refl)) in
          let over = e ∙ (ap (λ m. Some (record { at = v.at; made = m; args = v.args })) q ∙ ap (λ xs. Some (record { at = v.at; made = operation (scan s); args = xs })) a) in
          subst (λ z. IsOfWay vs i z × IsCarriesWay z × (is_scan v.made ≡ true)) (inside (way.Carries s b) y g) ((v, e, q, a, scan_taken vs made i b s (v.at, over), l), tt, ap is_scan q)
      by_made (operation (scan s)) (b ∷ d ∷ args) q a g = absurd (cc)
      by_made m args q a g = absurd (cc)

  -- what the way of a node of the work says of it
  abbrev pub IsOfWork : (level i : ℕ) → Way → Type 0
  IsOfWork k i y = (IsEndWay y × IsSmall vs i) ⊎ (IsCarriesWay y × (is_scan_at (slice_get vs i) ≡ true) × ((shape_at vs i).chain ≡ k) × ((s : ℕ) × (store_of (shape_at vs i).space ≡ Some s)))

  pub way_is : (k i : ℕ) (v : Vertex) (y : Way) → slice_get vs i ≡ Some v → work_way vs k i (slice_get vs i) ≡ Some y → IsOfWay vs i y × IsOfWork k i y
  way_is k i v y e h = by_tests (is_no_store (store_of (shape_at vs i).space)) ((shape_at vs i).chain == k) refl refl (ap (work_way vs k i) (sym e) ∙ h)
    where
      by_tests : (b d : Bool) → is_no_store (store_of (shape_at vs i).space) ≡ b → ((shape_at vs i).chain == k) ≡ d
          → (if b then end_way (end_operation v.made) v.args else if d then carries_way v.made v.args else None) ≡ Some y → IsOfWay vs i y × IsOfWork k i y
      by_tests true d p q g = (let w = end_is i v y e g in (w.0, inl (w.1, none_is (store_of (shape_at vs i).space) p)))
      by_tests false true p q g =
          let w = carries_is i v y e g in
          (w.0, inr (w.1, ap is_scan_at e ∙ w.2, (level_test (shape_at vs i).chain k).0 q, some_store (store_of (shape_at vs i).space) p))
      by_tests false false p q g = absurd (cc)

  -- ---- each is there

  abbrev no_columns : Columns
  no_columns s a = rows []

  abbrev value : ℕ → Tall
  value = tall_in (talls no_columns vs)

  meaning : IsMeaning no_columns vs value
  meaning = talls_mean no_columns vs ((made_sound no_columns vs).0 made)

  space_is : (i : ℕ) → (value i).shape.space ≡ (shape_at vs i).space
  space_is i = ap (λ (x : Shape). x.space) (same_shape no_columns vs i)

  operated : (i a : ℕ) (v : Vertex) (m : Made) → slice_get vs i ≡ Some v → v.made ≡ m → IsAmong v.args a → (op : Op) × (m ≡ operation op)
  operated i a v (operation op) e q among = (op, refl)
  operated i a v (stored s b c) e q among = absurd (of_args v.args (subst (λ m. made_shape m (map (shape_at vs) v.args) ≡ shape_ok (shape_at vs i)) q (shapes_mean vs made i v e)) among)
    where
      of_args : (args : List ℕ) → made_shape (stored s b c) (map (shape_at vs) args) ≡ shape_ok (shape_at vs i) → IsAmong args a → ⊥
      of_args [] h n = n
      of_args (d ∷ args) h n = cc

  -- without rows, in a pass over a datastore, it needs all rows
  ended : (i s : ℕ) (v : Vertex) → slice_get vs i ≡ Some v → IsSmall vs i → store_at vs i ≡ Some s → (x : EndOperation) × (n : ℕ) × (v.made ≡ operation (op_of x n))
  ended i s v e small at = elim ((one_datastore vs made i s v e).0 at) [
    | inl own ↦ absurd (none_or_other (store_of (shape_at vs i).space) s small own)
    | inr arg ↦
        let among : IsAmong v.args arg.0 = subst (λ o. IsAmong (args_of o) arg.0) e arg.1 in
        let o = operated i arg.0 v v.made e refl among in
        let w = end_operands no_columns vs value meaning s i arg.0 v o.0 e o.1 (ap store_of (space_is i) ∙ small) among (ap store_of (space_is arg.0) ∙ arg.2) in
        let x = end_found o.0 (end_test (operation o.0) w.0 w.1) in
        (x.0, x.1, o.1 ∙ ap operation x.2)
  ]

  pub end_there : (k i s : ℕ) (v : Vertex) → slice_get vs i ≡ Some v → IsSmall vs i → store_at vs i ≡ Some s → (y : Way) × (work_way vs k i (slice_get vs i) ≡ Some y) × IsEndWay y
  end_there k i s v e small at =
      let x = ended i s v e small at in
      let w = of_args x.0 x.1 x.2 v.args refl in (
        w.0,
        ap (work_way vs k i) e
            ∙ (ap (λ o. if is_no_store o then end_way (end_operation v.made) v.args else if (shape_at vs i).chain == k then carries_way v.made v.args else None) small
            ∙ (ap (λ o. end_way o v.args) (ap end_operation x.2 ∙ end_again x.0 x.1) ∙ w.1)),
        w.2,
      )
    where
      of_args : (x : EndOperation) (n : ℕ) → v.made ≡ operation (op_of x n) → (args : List ℕ) → v.args ≡ args → (y : Way) × (end_over x args ≡ Some y) × IsEndWay y
      of_args x n q [] a = absurd (let p = placed_over i v (op_of x n) [] e q a in no_operands x n p.0 p.1)
      of_args x n q (b ∷ []) a = (way.End x b b, refl, tt)
      of_args x n q (b ∷ d ∷ []) a = (way.End x b d, refl, tt)
      of_args x n q (b ∷ d ∷ g ∷ args) a =
          absurd (let p = placed_over i v (op_of x n) (b ∷ d ∷ g ∷ args) e q a in three_operands x n (shape_at vs b) (shape_at vs d) (shape_at vs g) (map (shape_at vs) args) p.0 p.1)

  -- a scan in a pass has its datastore's rows
  pub scan_rows : (i s : ℕ) (v : Vertex) → slice_get vs i ≡ Some v → is_scan_at (slice_get vs i) ≡ true → store_at vs i ≡ Some s → store_of (shape_at vs i).space ≡ Some s
  scan_rows i s v e t at = elim ((one_datastore vs made i s v e).0 at) [
    | inl own ↦ own
    | inr arg ↦
        let among : IsAmong v.args arg.0 = subst (λ o. IsAmong (args_of o) arg.0) e arg.1 in
        let w = scan_made v.made (subst (λ o. is_scan_at o ≡ true) e t) in
        let one : (value arg.0).shape.space ≡ (value i).shape.space = space_of_scan no_columns vs value meaning i arg.0 v w.0 e w.1 among in
        ap store_of (sym (space_is i) ∙ (sym one ∙ space_is arg.0)) ∙ arg.2
  ]

  pub carries_there : (k i s : ℕ) (v : Vertex) → slice_get vs i ≡ Some v → is_scan_at (slice_get vs i) ≡ true → (shape_at vs i).chain ≡ k → store_at vs i ≡ Some s
      → (y : Way) × (work_way vs k i (slice_get vs i) ≡ Some y) × IsCarriesWay y
  carries_there k i s v e t c at =
      let x = scan_made v.made (subst (λ o. is_scan_at o ≡ true) e t) in
      let w = of_args x.0 x.1 v.args refl in (
        w.0,
        ap (work_way vs k i) e
            ∙ (ap (λ o. if is_no_store o then end_way (end_operation v.made) v.args else if (shape_at vs i).chain == k then carries_way v.made v.args else None) (scan_rows i s v e t at)
            ∙ (ap (λ b. if b then carries_way v.made v.args else None) ((level_test (shape_at vs i).chain k).1 c)
            ∙ (ap (λ m. carries_way m v.args) x.1 ∙ w.1))),
        w.2,
      )
    where
      of_args : (x : Scan) → v.made ≡ operation (scan x) → (args : List ℕ) → v.args ≡ args → (y : Way) × (carries_over x args ≡ Some y) × IsCarriesWay y
      of_args x q [] a = absurd (let p = placed_over i v (scan x) [] e q a in refused p.0 p.1)
      of_args x q (b ∷ []) a = (way.Carries x b, refl, tt)
      of_args x q (b ∷ d ∷ args) a = absurd (let p = placed_over i v (scan x) (b ∷ d ∷ args) e q a in refused p.0 p.1)

-- ---- the list

-- what holds of each node with its way holds of the list
module _ (vs : List Vertex) (A : List Wanted → Type 0) (P : ℕ → Way → Type 0) (none : A []) (more : (w : Wanted) (ws : List Wanted) → P w.node w.way → A ws → A (w ∷ ws)) where
  all_rows : (xs : List ℕ) → ((i : ℕ) → IsAmong xs i → P i way.Rows) → A (map rows_wanted xs)
  all_rows [] h = none
  all_rows (x ∷ xs) h = more (rows_wanted x) (map rows_wanted xs) (h x (inl refl)) (all_rows xs (λ i m. h i (inr m)))

  one_more : (i : ℕ) (o : Option Way) (ws : List Wanted) → ((y : Way) → o ≡ Some y → P i y) → A ws → A (one_wanted i o ++ ws)
  one_more i None ws h a = a
  one_more i (Some y) ws h a = more (wanted_as i y) ws (h y refl) a

  all_work : (k : ℕ) (xs : List ℕ) (rest : List Wanted) → ((i : ℕ) (y : Way) → IsAmong xs i → work_way vs k i (slice_get vs i) ≡ Some y → P i y) → A rest → A (flat_map (wanted_at vs k) xs ++ rest)
  all_work k [] rest h a = a
  all_work k (x ∷ xs) rest h a =
      subst A (sym (append_assoc (wanted_at vs k x) (flat_map (wanted_at vs k) xs) rest))
      (one_more x (work_way vs k x (slice_get vs x)) (flat_map (wanted_at vs k) xs ++ rest) (λ y e. h x y (inl refl) e) (all_work k xs rest (λ i y m e. h i y (inr m) e) a))

  pub all_wanted : (pass : Pass) → ((i : ℕ) (y : Way) → IsAmong pass.work.items i → work_way vs pass.level i (slice_get vs i) ≡ Some y → P i y) → ((i : ℕ) → IsAmong pass.collect.items i → P i way.Rows) → A (wanted_of vs pass)
  all_wanted pass h g = all_work pass.level pass.work.items (map rows_wanted pass.collect.items) h (all_rows pass.collect.items g)

module _ (Is : Way → Type 0) (i : ℕ) where
  has_left : (ws us : List Wanted) → HasWanted Is ws i → HasWanted Is (ws ++ us) i
  has_left [] us h = absurd h
  has_left (w ∷ ws) us h = elim h [ inl a ↦ inl a | inr b ↦ inr (has_left ws us b) ]

  has_right : (ws us : List Wanted) → HasWanted Is us i → HasWanted Is (ws ++ us) i
  has_right [] us h = h
  has_right (w ∷ ws) us h = inr (has_right ws us h)

  has_one : (x : ℕ) (o : Option Way) (y : Way) (ws : List Wanted) → x ≡ i → o ≡ Some y → Is y → HasWanted Is (one_wanted x o ++ ws) i
  has_one x None y ws e q h = absurd (cc)
  has_one x (Some z) y ws e q h = inl (e, subst Is (sym (inside z y q)) h)

  has_work : (vs : List Vertex) (k : ℕ) (y : Way) (xs : List ℕ) → IsAmong xs i → work_way vs k i (slice_get vs i) ≡ Some y → Is y → HasWanted Is (flat_map (wanted_at vs k) xs) i
  has_work vs k y [] m e h = absurd m
  has_work vs k y (x ∷ xs) m e h = elim m [
    | inl q ↦ has_one x (work_way vs k x (slice_get vs x)) y (flat_map (wanted_at vs k) xs) q (subst (λ j. work_way vs k j (slice_get vs j) ≡ Some y) (sym q) e) h
    | inr r ↦ has_right (wanted_at vs k x) (flat_map (wanted_at vs k) xs) (has_work vs k y xs r e h)
  ]

has_rows : (i : ℕ) (xs : List ℕ) → IsAmong xs i → HasWanted IsRowsWay (map rows_wanted xs) i
has_rows i [] m = absurd m
has_rows i (x ∷ xs) m = elim m [ inl e ↦ inl (e, tt) | inr r ↦ inr (has_rows i xs r) ]

-- ---- of a pass

wanted_for : (vs : List Vertex) (made : IsMade vs) (pass : Pass) (i : ℕ) (y : Way) → IsAmong pass.work.items i → IsOfWork vs made pass.level i y → IsWantedFor vs pass i y
wanted_for vs made pass i (way.End e a b) m h = elim h [ inl w ↦ (m, w.1) | inr w ↦ absurd w.0 ]
wanted_for vs made pass i (way.Carries s a) m h = elim h [ inl w ↦ absurd w.0 | inr w ↦ (m, w.1, w.2, tt) ]
wanted_for vs made pass i way.Rows m h = elim h [ inl w ↦ absurd w.0 | inr w ↦ absurd w.0 ]

module _ (vs : List Vertex) (made : IsMade vs) (roots : List ℕ) (c : Option Fault) (pass : Pass) (planned : IsPassBelow vs roots c pass) where
  pub ways_are : AreWays vs (wanted_of vs pass)
  ways_are = all_wanted vs (AreWays vs) (λ i y. (i < length vs) × IsOfWay vs i y) tt (λ w ws p a. (p, a)) pass
      (λ i y m e. (let v = work_there vs roots c pass planned made i m in (slice_get_within vs i v.0 v.1, (way_is vs made pass.level i v.0 y v.1 e).0)))
      (λ i m. (let l = collect_within vs roots c pass planned made i m in (l, there i l)))
    where
      there : (i : ℕ) → i < length vs → (v : Vertex) × (slice_get vs i ≡ Some v)
      there i l = in_list vs i l

  pub all_are_wanted : AreAllWanted vs pass (wanted_of vs pass)
  all_are_wanted = record {
    each = all_wanted vs (AreWantedFor vs pass) (IsWantedFor vs pass) tt (λ w ws p a. (p, a)) pass
        (λ i y m e. (let v = work_there vs roots c pass planned made i m in wanted_for vs made pass i y m (way_is vs made pass.level i v.0 y v.1 e).1))
        (λ i m. m);
    ends = λ i m small.
        let v = work_there vs roots c pass planned made i m in
        let w = end_there vs made pass.level i pass.store v.0 v.1 small (work_needed vs roots c pass planned i m).1 in
        has_left IsEndWay i (flat_map (wanted_at vs pass.level) pass.work.items) (map rows_wanted pass.collect.items) (has_work IsEndWay i vs pass.level w.0 pass.work.items m w.1 w.2);
    carries = λ i h.
        let v = work_there vs roots c pass planned made i h.0 in
        let w = carries_there vs made pass.level i pass.store v.0 v.1 h.1 h.2 (work_needed vs roots c pass planned i h.0).1 in
        has_left IsCarriesWay i (flat_map (wanted_at vs pass.level) pass.work.items) (map rows_wanted pass.collect.items) (has_work IsCarriesWay i vs pass.level w.0 pass.work.items h.0 w.1 w.2);
    rows = λ i m. has_right IsRowsWay i (flat_map (wanted_at vs pass.level) pass.work.items) (map rows_wanted pass.collect.items) (has_rows i pass.collect.items m);
  }
