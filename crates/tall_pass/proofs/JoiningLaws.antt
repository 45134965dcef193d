-- Pieces joined in the order of their blocks.
use Rattle.std.proofs.Common.{ℕ, zero, suc, ◌≡◌, ◌∙◌, ◌<◌, ◌≤◌, ◌+◌, ◌^◌, List, [], ◌∷◌, ◌++◌, sym, ap, subst, refl, arith, length}
use Rattle.std.specs.Prelude.{Option, Some, None, option_map, slice_get}
use Rattle.std.specs.Option.{option_or}
use Rattle.std.proofs.lemmas.List.{append-nil, append_assoc}
use Rattle.tall_semantics.specs.Faults.{fault_seen}
use Rattle.tall_semantics.specs.Outcomes.{Outcome}
use Rattle.tall_semantics.specs.Deferred.{Vertex}
use Rattle.tall_semantics.specs.ShapesInOrder.{IsMade}
use Rattle.tall_store.specs.Blocks.{Block, first_block_fault, first_in_blocks}
use Rattle.tall_store.specs.declared.faults.ReadingFault.{ReadingFault}
use Rattle.tall_piece.specs.declared.pieces.Piece.{Piece}
use Rattle.tall_piece.specs.declared.pieces.Piece.TheVariants as piece
use Rattle.tall_piece.specs.declared.sums.BlockParts.{BlockParts}
use Rattle.tall_piece.specs.declared.sums.Sums.{Sums}
use Rattle.tall_piece.specs.declared.wanted.Wanted.{Wanted}
use Rattle.tall_piece.specs.Given.{IsGiven}
use Rattle.tall_piece.specs.Passes.{PassOver, outcomes}
use Rattle.tall_piece.specs.Pieces.{AreSums, CanGoOn, IsPiece, PartsFit, SumsFit}
use Rattle.tall_walk.proofs.Walks.{first_in_append}
use Rattle.tall_pass.specs.declared.faults.PassFault.{PassFault}
use Rattle.tall_pass.specs.declared.faults.PassFault.TheVariants.{Reading, Read, TooLarge, Changed, Memory}
use Rattle.tall_pass.specs.declared.joining.Joined.{Joined}
use Rattle.tall_pass.specs.Taken.{AreGiven, ArePieces, EndsBlocks, HasJoined, Inputs, IsJoining, IsRight}

-- ---- places

within : {X : Type 0} (xs ys : List X) (n : ℕ) (x : X) → slice_get xs n ≡ Some x → slice_get (xs ++ ys) n ≡ Some x
within [] ys n x e = absurd cc
within (y ∷ xs) ys zero x e = e
within (y ∷ xs) ys (suc n) x e = within xs ys n x e

behind : {X : Type 0} (xs : List X) (x : X) (ys : List X) → slice_get (xs ++ x ∷ ys) (length xs) ≡ Some x
behind [] x ys = refl
behind (y ∷ xs) x ys = behind xs x ys

pub given_front : (w : Inputs) {store : ℕ} (p : PassOver w.vertices store w.all w.wanted) (blocks more : List Block) → AreGiven w p (blocks ++ more) → AreGiven w p blocks
given_front w p blocks more given n b e = given n b (within blocks more n b e)

length-snoc : {X : Type 0} (xs : List X) (x : X) → length (xs ++ x ∷ []) ≡ suc (length xs)
length-snoc [] x = refl
length-snoc (y ∷ xs) x = ap (λ (n : ℕ). suc n) (length-snoc xs x)

-- ---- one block more

-- what joining asks for
pub can_go_on : (w : Inputs) (blocks : List Block) (b : Block) (j : Joined) (q : BlockParts) → HasJoined w blocks j → IsRight w (length blocks) b (piece.Parts q) → j.sums.rows + q.rows < 2 ^ 40
    → CanGoOn j.sums.rows j.sums.sums.items q.rows q.parts.items
can_go_on w blocks b j q has right few = (w.vertices, w.wanted, has.fit, right.1.2, few)

-- what it does to the sums of each pass
abbrev pub Step : Sums → BlockParts → Sums → Type 0
Step old q new = (vs : List Vertex) (store : ℕ) (all : List ℕ) (wanted : List Wanted) (p : PassOver vs store all wanted) (k : ℕ) (h : ℕ → Outcome) → IsMade vs → slice_get (outcomes p) k ≡ Some h
    → AreSums p k old.rows (option_map fault_seen old.fault) old.sums.items → IsPiece p k h q.rows (option_map fault_seen q.fault) q.parts.items
    → AreSums p (suc k) new.rows (option_map fault_seen new.fault) new.sums.items

pub one_joined : (w : Inputs) (blocks : List Block) (b : Block) (j : Joined) (q : BlockParts) (s : Sums) (n : ℕ) → HasJoined w blocks j → IsRight w (length blocks) b (piece.Parts q) → j.sums.rows + q.rows < 2 ^ 40
    → s.rows ≡ j.sums.rows + q.rows → ((vs : List Vertex) (ws : List Wanted) → SumsFit vs j.sums.rows ws j.sums.sums.items → PartsFit vs q.rows ws q.parts.items → SumsFit vs s.rows ws s.sums.items) → Step j.sums q s
    → n ≡ j.blocks + 1 → HasJoined w (blocks ++ b ∷ []) (record { sums = s; blocks = n })
one_joined w blocks b j q s n has right few rows fit step e = record {
  count = counts n j.blocks (length blocks) (length (blocks ++ b ∷ [])) e has.count (length-snoc blocks b);
  some = more n j.blocks j.sums.rows q.rows s.rows (length b.records) e has.some rows right.1.1 right.0;
  few = subst (λ m. m < 2 ^ 40) (sym rows) few;
  none = first_in_append w.store blocks (b ∷ []) ∙ ap (λ o. option_or o (first_in_blocks w.store (b ∷ []))) has.none ∙ ap (λ o. option_or o None) right.1.0;
  fit = fit w.vertices w.wanted has.fit right.1.2;
  sums = λ store p given.
      let own : (h : ℕ → Outcome) × IsGiven p w.store w.known b (length blocks) h = given (length blocks) b (behind blocks b []) in
      subst (λ m. AreSums p m s.rows (option_map fault_seen s.fault) s.sums.items) (sym (length-snoc blocks b))
      (step w.vertices store w.all w.wanted p (length blocks) own.0 own.1.made own.1.over (has.sums store p (given_front w p blocks (b ∷ []) given)) (right.1.3 store p own.0 own.1));
}
  where
    counts : (n k l m : ℕ) → n ≡ k + 1 → k ≡ l → m ≡ suc l → n ≡ m
    counts n k l m a b c = omega (arith, a, b, c)

    more : (n k r q s l : ℕ) → n ≡ k + 1 → k ≤ r → s ≡ r + q → q ≡ l → 0 < l → n ≤ s
    more n k r q s l a b c d e = omega (arith, a, b, c, d, e)

-- ---- block after block

-- the next piece is that of the next block
pub record IsNext (w : Inputs) (blocks : List Block) (j : Joined) (p : Piece) (pieces : List Piece) : Type 0 where
  pub front : List Block
  pub block : Block
  pub rest : List Block
  pub cut : blocks ≡ front ++ block ∷ rest
  pub joined : HasJoined w front j
  pub right : IsRight w (length front) block p
  pub rights : ArePieces w (suc (length front)) rest pieces

pub next_of : (w : Inputs) (blocks : List Block) (j : Joined) (p : Piece) (pieces all : List Piece) → all ≡ p ∷ pieces → IsJoining w blocks j all → IsNext w blocks j p pieces
next_of w blocks j p pieces all e i = by i.rest i.cut (subst (λ ps. ArePieces w (length i.front) i.rest ps) e i.right)
  where
    by : (rest : List Block) → blocks ≡ i.front ++ rest → ArePieces w (length i.front) rest (p ∷ pieces) → IsNext w blocks j p pieces
    by [] c r = absurd r
    by (b ∷ rest) c r = record { front = i.front; block = b; rest = rest; cut = c; joined = i.joined; right = r.0; rights = r.1 }

pub next_joined : (w : Inputs) (blocks : List Block) (j new : Joined) (p : Piece) (pieces : List Piece) (n : IsNext w blocks j p pieces) → HasJoined w (n.front ++ n.block ∷ []) new → IsJoining w blocks new pieces
next_joined w blocks j new p pieces n has = record {
  front = n.front ++ n.block ∷ [];
  rest = n.rest;
  cut = n.cut ∙ sym (append_assoc n.front (n.block ∷ []) n.rest);
  joined = has;
  right = subst (λ m. ArePieces w m n.rest pieces) (sym (length-snoc n.front n.block)) n.rights;
}

pub next_ends : (w : Inputs) (blocks : List Block) (j : Joined) (p : Piece) (pieces : List Piece) (n : IsNext w blocks j p pieces) (e : PassFault) → EndsBlocks w.store (n.block ∷ []) e → EndsBlocks w.store blocks e
next_ends w blocks j p pieces n (Reading g) e =
    ap (first_in_blocks w.store) n.cut
    ∙ first_in_append w.store n.front (n.block ∷ n.rest)
    ∙ ap (λ o. option_or o (first_in_blocks w.store (n.block ∷ n.rest))) n.joined.none
    ∙ by (first_block_fault w.store n.block) (first_in_blocks w.store n.rest) e
  where
    by : (a b : Option ReadingFault) → option_or a None ≡ Some g → option_or a b ≡ Some g
    by None b e = absurd cc
    by (Some a) b e = e
next_ends w blocks j p pieces n (Read file) e = e
next_ends w blocks j p pieces n (TooLarge file) e = e
next_ends w blocks j p pieces n (Changed file first now) e = e
next_ends w blocks j p pieces n Memory e = tt

pub all_joined : (w : Inputs) (blocks : List Block) (j : Joined) (pieces : List Piece) → pieces ≡ [] → IsJoining w blocks j pieces → HasJoined w blocks j
all_joined w blocks j pieces e i = by i.rest i.cut (subst (λ ps. ArePieces w (length i.front) i.rest ps) e i.right)
  where
    by : (rest : List Block) → blocks ≡ i.front ++ rest → ArePieces w (length i.front) rest [] → HasJoined w blocks j
    by [] c r = subst (λ bs. HasJoined w bs j) (sym (c ∙ append-nil i.front)) i.joined
    by (b ∷ rest) c r = absurd r
