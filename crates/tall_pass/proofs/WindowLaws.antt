-- The pieces of a window, by their places.
use Rattle.std.proofs.Common.{ℕ, zero, suc, ◌≡◌, ◌∙◌, ◌<◌, ◌+◌, List, [], ◌∷◌, ap, subst, sym, refl, arith, length, map}
use Rattle.std.specs.Prelude.{Err, IfOk, Ok, Result, Some, Vec, slice_get, vec_len}
use Rattle.tall_board.specs.Pieces.{InPlace}
use Rattle.tall_cut.specs.Finding.{raw_count}
use Rattle.tall_store.specs.declared.file_rows.FileBlock.{FileBlock}
use Rattle.tall_piece.specs.declared.pieces.Piece.{Piece}
use Rattle.tall_piece.specs.Right.{IsRightPiece}
use Rattle.tall_walk.specs.Events.{block_of}
use Rattle.tall_pass.specs.Taken.{ArePieces, AreWaiting, Inputs, IsRightAt, IsWaiting}

pub waits_at : (files : ℕ) (bs : List FileBlock) → AreWaiting files bs → (i : ℕ) (b : FileBlock) → slice_get bs i ≡ Some b → IsWaiting files b
waits_at files [] w i b e = absurd (cc)
waits_at files (c ∷ bs) w zero b e = subst (IsWaiting files) (same c b e) w.0
  where
    same : (c b : FileBlock) → Some c ≡ Some b → c ≡ b
    same c b e = cc
waits_at files (c ∷ bs) w (suc i) b e = waits_at files bs w.1 i b e

some_records : (b : FileBlock) → 0 < raw_count b.raw → 0 < length (block_of b).records
some_records b some = by (length (block_of b).records) (raw_count b.raw) b.raw.counted some
  where
    by : (l c : ℕ) → l ≡ c → 0 < c → 0 < l
    by l c e s = omega (arith, e, s)

module _ (w : Inputs) (files : ℕ) (right : ℕ → Piece → Type 0) where
  -- the pieces of places from k on are those of blocks whose numbers begin at n
  in_order : (n k : ℕ) (bs : List FileBlock) (ps : List Piece) → AreWaiting files bs → length ps ≡ length bs
      → ((i : ℕ) (b : FileBlock) (p : Piece) → slice_get bs i ≡ Some b → right (k + i) p → IsRightPiece w.store (block_of b) w.vertices w.known w.all w.wanted (n + i) p) → InPlace right k ps
      → ArePieces w n (map block_of bs) ps
  in_order n k [] [] waits e of here = tt
  in_order n k [] (p ∷ ps) waits e of here = absurd (more (length ps) e)
    where
      more : (m : ℕ) → suc m ≡ 0 → ⊥
      more m e = omega (arith, e)
  in_order n k (b ∷ bs) [] waits e of here = absurd (fewer (length bs) e)
    where
      fewer : (m : ℕ) → 0 ≡ suc m → ⊥
      fewer m e = omega (arith, e)
  in_order n k (b ∷ bs) (p ∷ ps) waits e of here = (
    (some_records b waits.0.3, subst (λ m. IsRightPiece w.store (block_of b) w.vertices w.known w.all w.wanted m p) (none n) (of 0 b p refl (subst (λ m. right m p) (sym (none k)) here.0))),
    in_order (suc n) (k + 1) bs ps waits.1 (fewer (length ps) (length bs) e)
        (λ i c q at h. subst (λ m. IsRightPiece w.store (block_of c) w.vertices w.known w.all w.wanted m q) (next n i) (of (suc i) c q at (subst (λ m. right m q) (place k i) h))) here.1,
  )
    where
      none : (n : ℕ) → n + 0 ≡ n
      none n = omega arith

      fewer : (m n : ℕ) → suc m ≡ suc n → m ≡ n
      fewer m n e = omega (arith, e)

      next : (n i : ℕ) → n + suc i ≡ suc n + i
      next n i = omega arith

      place : (k i : ℕ) → (k + 1) + i ≡ k + suc i
      place k i = omega arith

pieces_of : (w : Inputs) (files n : ℕ) (bs : List FileBlock) (ps : List Piece) → AreWaiting files bs → length ps ≡ length bs → InPlace (IsRightAt w n bs) 0 ps → ArePieces w n (map block_of bs) ps
pieces_of w files n bs ps waits e here = in_order w files (IsRightAt w n bs) n 0 bs ps waits e (λ i b p at h. subst (λ m. IsRightPiece w.store (block_of b) w.vertices w.known w.all w.wanted (n + m) p) (none i) (h b (ap (slice_get bs) (none i) ∙ at))) here
  where
    none : (i : ℕ) → 0 + i ≡ i
    none i = omega arith

pub are_pieces : {Y E : Type 0} (w : Inputs) (files n places : ℕ) (bs : List FileBlock) (r : Result (Vec Piece Y) E) → AreWaiting files bs → places ≡ length bs → IfOk r (λ v. vec_len v ≡ places)
    → IfOk r (λ v. InPlace (IsRightAt w n bs) 0 v.items) → IfOk r (λ v. ArePieces w n (map block_of bs) v.items)
are_pieces w files n places bs (Ok v) waits e all right = pieces_of w files n bs v.items waits (sym v.ok.0 ∙ all ∙ e) right
are_pieces w files n places bs (Err e) waits same all right = tt
