-- The reading faults of blocks: their file, kind and column.
use Rattle.std.proofs.Common.{ℕ, ◌≡◌, ◌<◌, List, [], ◌∷◌, length, subst, sym}
use Rattle.std.specs.Prelude.{Option, Some, None, IfSome}
use Rattle.std.specs.Option.{option_or}
use Rattle.tall_store.specs.declared.faults.ReadingFault.{ReadingFault}
use Rattle.tall_store.specs.Stores.{IsStore, SeenStore}
use Rattle.tall_store.specs.Blocks.{Block, first_block_fault, first_in_blocks}
use Rattle.tall_walk.specs.Placed.{IsColumn}
use Rattle.tall_walk.proofs.FaultLaws.{IsOfData, IsThere, block_fault}
use Rattle.tall_pass.specs.Taken.{AreOfFiles}

-- a fault of data in one of so many files
pub record IsWithin (names files : ℕ) (g : ReadingFault) : Type 0 where
  pub file : g.file < files
  pub there : IsThere g.kind
  pub column : IsColumn g.kind names g.column

pub first_within : (store : SeenStore) (files : ℕ) (bs : List Block) (g : ReadingFault) → IsStore store → AreOfFiles files bs → first_in_blocks store bs ≡ Some g → IsWithin (length store.names) files g
first_within store files [] g is of e = absurd cc
first_within store files (b ∷ bs) g is of e = by (first_block_fault store b) (block_fault store b is) e (λ h. first_within store files bs g is of.1 h)
  where
    by : (o : Option ReadingFault) → IfSome o (IsOfData (length store.names) b.file) → option_or o (first_in_blocks store bs) ≡ Some g → (first_in_blocks store bs ≡ Some g → IsWithin (length store.names) files g)
        → IsWithin (length store.names) files g
    by None d h go = go h
    by (Some f) d h go = subst (IsWithin (length store.names) files) (same h) (record { file = subst (λ n. n < files) (sym d.file_is) of.0; there = d.there; column = d.column })
      where
        same : Some f ≡ Some g → f ≡ g
        same h = cc
