-- The carries of a pass's scans are those of the datastore's blocks.
use Rattle.std.specs.Prelude.{◌≡◌, refl, ℕ, ◌+◌, ◌⊎◌, Bool, true, Option, None, Some, List, [], ◌∷◌, slice_get}
use Rattle.std.proofs.Common.{ap, sym, subst, ◌∙◌, inl, inr}
use Rattle.tall_value.specs.declared.functions.Scan.{Scan}
use Rattle.tall_semantics.specs.Operations.{constant, unary, binary, filter, reduce, scan, head, tail, distinct, group, Made, stored, operation}
use Rattle.tall_semantics.specs.Spaces.{store_of}
use Rattle.tall_semantics.specs.Faults.{Fault}
use Rattle.tall_semantics.specs.Outcomes.{Outcome}
use Rattle.tall_semantics.specs.Talls.{Tall, Columns}
use Rattle.tall_semantics.specs.Deferred.{Vertex, IsAmong}
use Rattle.tall_semantics.specs.Numbered.{IsGather}
use Rattle.tall_semantics.proofs.OriginLaws.{get_before, below_among}
use Rattle.tall_blocks.specs.Blocks.{Block}
use Rattle.tall_blocks.specs.Cut.{IsOfRows}
use Rattle.tall_blocks.specs.PassWork.{IsCutFor, IsDueOf}
use Rattle.tall_blocks.specs.Pieces.{carry_of, carry_at, carry_in, has_rows_of, pass_blocks, store_blocks}
use Rattle.tall_blocks.proofs.LevelWorkLaws.{space_of_scan}
use Rattle.tall_blocks.proofs.PassWorkLaws.{rows_of_store, store_tested}
use Rattle.tall_blocks.proofs.PieceCarryLaws.{carries_same}

module _ (columns : Columns) (of_stores : ℕ → List ℕ) (vs : List Vertex) (f : ℕ → Tall) (levels carried : ℕ → ℕ) (roots needed : List ℕ) (gather : IsGather columns vs f levels roots needed)
    (store k : ℕ) (c : Option Fault) (cut : ℕ → Bool) (cuts : IsCutFor store vs f levels carried needed (k + 1) c cut) where
  pub cut_rows : IsOfRows store vs f cut
  cut_rows = record {
    rows_here = λ i v e h. (cuts.within i h).0;
    operands_cut = λ i a v e h among here. cuts.closed i a v e h among here;
  }

  abbrev IsAsked : ℕ → Type 0
  IsAsked i = (cut i ≡ true) ⊎ IsDueOf store vs f carried needed (k + 1) c i

  own_rows : (i : ℕ) → IsAsked i → store_of (f i).shape.space ≡ Some store
  own_rows i h = elim h [ inl is_cut ↦ (cuts.within i is_cut).0 | inr due ↦ due.2 ]

  operand_cut : (i a : ℕ) (v : Vertex) → IsAsked i → slice_get vs i ≡ Some v → IsAmong v.args a → store_of (f a).shape.space ≡ Some store → cut a ≡ true
  operand_cut i a v h e among here = elim h [ inl is_cut ↦ cuts.closed i a v e is_cut among here | inr due ↦ cuts.scans i a v due e among here ]

  module _ (bs : List Block) (n : ℕ) where
    by_scan : (i a : ℕ) (v : Vertex) (s : Scan) → IsAsked i → slice_get vs i ≡ Some v → v.made ≡ operation (scan s) → v.args ≡ a ∷ [] → carry_in vs f (pass_blocks vs f cut bs) i n ≡ carry_in vs f (store_blocks vs f store bs) i n
    by_scan i a v s h e q r =
        let among : IsAmong v.args a = subst (λ xs. IsAmong xs a) (sym r) (inl refl) in
        let b = get_before vs i a v e (below_among i v.args a (gather.ordered i v e) among) in
        let here : store_of (f a).shape.space ≡ Some store = ap store_of (space_of_scan columns vs f gather.meaning i a v s e q among) ∙ own_rows i h in
        carries_same store vs f cut (has_rows_of store f) gather.ordered cut_rows (rows_of_store store vs f) bs n i a v b.0 e r b.1 (operand_cut i a v h e among here) (store_tested store (store_of (f a).shape.space) here)

    neither : (i : ℕ) (v : Vertex) → slice_get vs i ≡ Some v → ((hs : List (ℕ → Outcome)) → carry_of f hs v.made v.args n ≡ None) → carry_in vs f (pass_blocks vs f cut bs) i n ≡ carry_in vs f (store_blocks vs f store bs) i n
    neither i v e none =
        ap (λ o. carry_at f (pass_blocks vs f cut bs) o n) e ∙ (none (pass_blocks vs f cut bs) ∙ sym (ap (λ o. carry_at f (store_blocks vs f store bs) o n) e ∙ none (store_blocks vs f store bs)))

    none_of : (v : Vertex) (m : Made) (args : List ℕ) → v.made ≡ m → v.args ≡ args → ((hs : List (ℕ → Outcome)) → carry_of f hs m args n ≡ None) → (hs : List (ℕ → Outcome)) → carry_of f hs v.made v.args n ≡ None
    none_of v m args q r none hs = ap (λ x. carry_of f hs x v.args n) q ∙ (ap (λ xs. carry_of f hs m xs n) r ∙ none hs)

    by_made : (i : ℕ) (v : Vertex) (m : Made) (args : List ℕ) → IsAsked i → slice_get vs i ≡ Some v → v.made ≡ m → v.args ≡ args → carry_in vs f (pass_blocks vs f cut bs) i n ≡ carry_in vs f (store_blocks vs f store bs) i n
    by_made i v (operation (scan s)) (a ∷ []) h e q r = by_scan i a v s h e q r
    by_made i v (operation (scan s)) [] h e q r = neither i v e (none_of v (operation (scan s)) [] q r (λ hs. refl))
    by_made i v (operation (scan s)) (a ∷ b ∷ args) h e q r = neither i v e (none_of v (operation (scan s)) (a ∷ b ∷ args) q r (λ hs. refl))
    by_made i v (stored s b x) args h e q r = neither i v e (none_of v (stored s b x) args q r (λ hs. refl))
    by_made i v (operation (constant x)) args h e q r = neither i v e (none_of v (operation (constant x)) args q r (λ hs. refl))
    by_made i v (operation (unary op)) args h e q r = neither i v e (none_of v (operation (unary op)) args q r (λ hs. refl))
    by_made i v (operation (binary op)) args h e q r = neither i v e (none_of v (operation (binary op)) args q r (λ hs. refl))
    by_made i v (operation filter) args h e q r = neither i v e (none_of v (operation filter) args q r (λ hs. refl))
    by_made i v (operation (reduce x)) args h e q r = neither i v e (none_of v (operation (reduce x)) args q r (λ hs. refl))
    by_made i v (operation (head x)) args h e q r = neither i v e (none_of v (operation (head x)) args q r (λ hs. refl))
    by_made i v (operation (tail x)) args h e q r = neither i v e (none_of v (operation (tail x)) args q r (λ hs. refl))
    by_made i v (operation distinct) args h e q r = neither i v e (none_of v (operation distinct) args q r (λ hs. refl))
    by_made i v (operation (group m part)) args h e q r = neither i v e (none_of v (operation (group m part)) args q r (λ hs. refl))

    pub pass_carries : (i : ℕ) → (cut i ≡ true) ⊎ IsDueOf store vs f carried needed (k + 1) c i → carry_in vs f (pass_blocks vs f cut bs) i n ≡ carry_in vs f (store_blocks vs f store bs) i n
    pass_carries i h = of_vertex (slice_get vs i) refl
      where
        of_vertex : (o : Option Vertex) → slice_get vs i ≡ o → carry_in vs f (pass_blocks vs f cut bs) i n ≡ carry_in vs f (store_blocks vs f store bs) i n
        of_vertex None e = ap (λ o. carry_at f (pass_blocks vs f cut bs) o n) e ∙ sym (ap (λ o. carry_at f (store_blocks vs f store bs) o n) e)
        of_vertex (Some v) e = by_made i v v.made v.args h e refl refl
