-- What a gather answers.
use Rattle.std.specs.Prelude.{◌≡◌, ◌≤◌, ◌+◌, ℕ, zero, suc, Option, None, Some, Result, Ok, Err, List, [], ◌∷◌, length, replicate, slice_get, ⊤}
use Rattle.tall_outside.specs.Shelf.{openings_of}
use Rattle.tall_dense.specs.Columns.{SeenColumn, rows_between}
use Rattle.tall_semantics.specs.Faults.{fault_seen}
use Rattle.tall_semantics.specs.Openings.{share}
use Rattle.tall_semantics.specs.Outcomes.{cells_in}
use Rattle.tall_semantics.specs.Shapes.{Shape}
use Rattle.tall_semantics.specs.ShapesInOrder.{shape_at}
use Rattle.tall_semantics.specs.Spaces.{is_single}
use Rattle.tall_semantics.specs.Talls.{Tall}
use Rattle.tall_semantics.specs.Deferred.{Vertex, IsAmong, least_in}
use Rattle.tall_graph.specs.Trees.{spaces_of}
use Rattle.tall_semantics.specs.Forms.{space_number}
use Rattle.tall_store.specs.Stores.{SeenStore}
use Rattle.tall_stored.specs.StoredColumns.{Store, fault_of_reading}
use Rattle.tall_fuse.specs.Results.{Found}
use Rattle.tall_fuse.specs.Kept.{found}
use Rattle.tall_fuse.specs.declared.known.Known.{Known}
use Rattle.tall_pass.specs.Fitting.{IsHeight}
use Rattle.tall_gather.specs.declared.candidate.Candidate.{Candidate}
use Rattle.tall_gather.specs.declared.candidate.Candidate.TheVariants as candidate
use Rattle.tall_gather.specs.declared.faults.GatherFault.{GatherFault}
use Rattle.tall_gather.specs.declared.faults.GatherFault.TheVariants.{Data, Reading, Read, TooLarge, Changed, Memory}

-- ---- openings

-- n times x
abbrev pub repeated : (n x : ℕ) → ℕ
repeated zero x = 0
repeated (suc n) x = x + repeated n x

-- the sum over the datastores that list the name of their shares, from a place in the list on
abbrev pub gather_openings : (place : ℕ) → List SeenStore → List Shape → List ℕ → ℕ
gather_openings place [] xs name = 0
gather_openings place (d ∷ ds) xs name = repeated (share place xs) (openings_of name d.files) + gather_openings (place + 1) ds xs name

-- ---- before the first pass

-- no file of the datastore was counted
abbrev pub no_counts : SeenStore → List (Option ℕ)
no_counts d = replicate (length d.files) None

-- ---- the columns of the roots

-- two nodes have one space
abbrev pub HaveOneSpace : List Vertex → ℕ → ℕ → Type 0
HaveOneSpace vs i j = space_number (shape_at vs i).space (spaces_of vs) ≡ space_number (shape_at vs j).space (spaces_of vs)

-- whatever the shelf tells: one column for each root, of its class, with one row for a scalar and else fewer than 2^40; those
-- of one space have one height
pub record AreRootColumns (vs : List Vertex) (roots : List ℕ) (columns : List SeenColumn) : Type 0 where
  pub many : length columns ≡ length roots
  pub fit : (j i : ℕ) (x : SeenColumn) → slice_get roots j ≡ Some i → slice_get columns j ≡ Some x → (x.class ≡ (shape_at vs i).class) × IsHeight (is_single (shape_at vs i).space) (length x.cells)
  pub heights : (j k i l : ℕ) (x y : SeenColumn) → slice_get roots j ≡ Some i → slice_get roots k ≡ Some l → slice_get columns j ≡ Some x → slice_get columns k ≡ Some y → (shape_at vs i).space ≡ (shape_at vs l).space → length x.cells ≡ length y.cells

-- the fault that a gather ends with
abbrev pub end_of : Candidate → GatherFault
end_of (candidate.Data f) = Data f
end_of (candidate.Reading r) = Reading r.store r.fault

-- ---- where the shelf tells its files

abbrev pub column_of : Tall → SeenColumn
column_of x = record { class = x.shape.class; cells = cells_in x.outcome }

-- the columns are those of the values, or the fault is the least of the roots; a reading fault has the number and the line of
-- its datastore's call
abbrev pub TellsGather : List Store → (ℕ → Tall) → (roots : List ℕ) → Result (List SeenColumn) GatherFault → Type 0
TellsGather list f roots (Ok columns) = (least_in f roots ≡ None) × ((j i : ℕ) (x : SeenColumn) → slice_get roots j ≡ Some i → slice_get columns j ≡ Some x → x ≡ column_of (f i))
TellsGather list f roots (Err (Data x)) = least_in f roots ≡ Some (fault_seen x)
TellsGather list f roots (Err (Reading store g)) = (d : Store) × (slice_get list store ≡ Some d) × (least_in f roots ≡ Some (fault_of_reading store d.at g))
TellsGather list f roots (Err (Read store file)) = ⊤
TellsGather list f roots (Err (TooLarge store file)) = ⊤
TellsGather list f roots (Err (Changed store file first now)) = ⊥
TellsGather list f roots (Err Memory) = ⊤

-- ---- the least height of a space among the roots

pub record IsLeastHeight (vs : List Vertex) (roots : List ℕ) (known : Known) (n height : ℕ) : Type 0 where
  pub bound : (i : ℕ) (r : Found) → IsAmong roots i → HaveOneSpace vs i n → found known i ≡ Some r → height ≤ length r.column.cells
  pub one : (i : ℕ) × (r : Found) × IsAmong roots i × HaveOneSpace vs i n × (found known i ≡ Some r) × (height ≡ length r.column.cells)

-- the column of a root, cut to the least height of its space
abbrev pub IsRootColumn : List Vertex → (roots : List ℕ) → Known → ℕ → SeenColumn → Type 0
IsRootColumn vs roots known n x = (r : Found) × (h : ℕ) × (found known n ≡ Some r) × IsLeastHeight vs roots known n h × (x ≡ rows_between r.column 0 h)
