-- The carry of the next block, from the fold of the blocks so far.
use Rattle.std.specs.Prelude.{◌≡◌, refl, ◌^◌, ℕ, zero, suc, ℤ, ◌||◌, is_none, is_some, not, if◌then◌else◌, nat_le, unsigned_abs, Bool, true, false, Option, None, Some, option_map, Result, Ok, Err, List, [], ◌∷◌, ◌++◌, get_or, length, map}
use Rattle.std.proofs.Common.{ap, sym, subst, ◌∙◌}
use Rattle.std.specs.Int.{int_max, int_min}
use Rattle.std.specs.List.{All, filter_map}
use Rattle.std.proofs.lemmas.List.{append_assoc, append-nil}
use Rattle.std.proofs.lemmas.List.Elements.{All-append, All-head, All-tail}
use Rattle.tall_value.specs.declared.cell.Cell.{Cell}
use Rattle.tall_value.specs.declared.class.Class.{Class}
use Rattle.tall_value.specs.declared.class.IntKind.{IntKind}
use Rattle.tall_value.specs.declared.class.IntKind.TheVariants.{Int8, Int16, Int32, Int64, Uint8, Uint16, Uint32, Uint64}
use Rattle.tall_value.specs.declared.class.Kind.{Kind}
use Rattle.tall_value.specs.declared.class.Kind.TheVariants.{Integer, Logical, Double, Text}
use Rattle.tall_value.specs.declared.faults.CellFault.{CellFault}
use Rattle.tall_value.specs.declared.faults.CellFault.TheVariants.{Inexact}
use Rattle.tall_value.specs.declared.faults.ClassFault.{ClassFault}
use Rattle.tall_value.specs.declared.functions.Scan.{Scan}
use Rattle.tall_value.specs.declared.functions.Scan.TheVariants.{CumSum, CumMin, CumMax}
use Rattle.tall_value.specs.Cells.{Seen, amount, double, logical, seen, text, whole}
use Rattle.tall_value.specs.CellOperators.{double_cell, to_double}
use Rattle.tall_value.specs.ClassTables.{class_result}
use Rattle.tall_value.specs.Classes.{greatest, kind_of, least}
use Rattle.tall_value.specs.Columns.{HasKind}
use Rattle.tall_value.specs.FunctionClasses.{scan_kind}
use Rattle.tall_value.specs.Groups.{or_nan}
use Rattle.tall_value.specs.Reductions.{folded, greater, lesser, present, or_cell}
use Rattle.tall_value.proofs.KindLaws.{kind_again}
use Rattle.tall_clamp.specs.Outcomes.{picked}
use Rattle.tall_dense.specs.Columns.{SeenColumn}
use Rattle.tall_dense.specs.Dense.{shown}
use Rattle.tall_dense.specs.declared.values.Values.{Values}
use Rattle.tall_dense.specs.declared.values.Values.TheVariants as values
use Rattle.tall_fold.specs.Carries.{IsCarry, IsScanned, SeenCarry, result_kind, scan_cell}
use Rattle.tall_fold.specs.Forms.{total_unless_nan}
use Rattle.tall_fold.specs.Summaries.{number_cell}
use Rattle.tall_fold.proofs.CarryLemmas.{class_is}
use Rattle.tall_fold.proofs.FinishLemmas.{doubles_present, folded_is, greater_is, lesser_is}
use Rattle.tall_fold.proofs.KeptLemmas.{kinds}
use Rattle.tall_semantics.specs.ScanCarries.{carries_behind, fold_of, while_there}
use Rattle.tall_blocks.specs.Carries.{carry_for, flat, or_inexact}
use Rattle.tall_blocks.proofs.CarryLaws.{of_test, to_fold}
use Rattle.tall_part.specs.NextCarries.{IsBlockCarry, IsNextCarry, lost_behind}
use Rattle.tall_part.specs.declared.next_carry.NextCarry.{NextCarry}

-- ---- the cells of a column have its kind

kinds_shown : (v : Values) → All (HasKind (kind_of (shown v).class)) (shown v).cells
kinds_shown (values.I8 v) = kinds (Integer Int8) _ (λ x. refl) v.items
kinds_shown (values.I16 v) = kinds (Integer Int16) _ (λ x. refl) v.items
kinds_shown (values.I32 v) = kinds (Integer Int32) _ (λ x. refl) v.items
kinds_shown (values.I64 v) = kinds (Integer Int64) _ (λ x. refl) v.items
kinds_shown (values.U8 v) = kinds (Integer Uint8) _ (λ x. refl) v.items
kinds_shown (values.U16 v) = kinds (Integer Uint16) _ (λ x. refl) v.items
kinds_shown (values.U32 v) = kinds (Integer Uint32) _ (λ x. refl) v.items
kinds_shown (values.U64 v) = kinds (Integer Uint64) _ (λ x. refl) v.items
kinds_shown (values.Logical v) = kinds Logical _ (λ x. refl) v.items
kinds_shown (values.Double v) = kinds Double _ (λ x. refl) v.items
kinds_shown (values.Text t) = kinds Text _ (λ x. refl) t

pub kinds_of_column : (column : SeenColumn) (v : Values) → shown v ≡ column → All (HasKind (kind_of column.class)) column.cells
kinds_of_column column v e = subst (λ (c : SeenColumn). All (HasKind (kind_of c.class)) c.cells) e (kinds_shown v)

-- ---- the fold of cells

test_told : (t : Bool) (n : ℤ) → double_cell (of_test t n) ≡ or_inexact (to_fold (double_cell (of_test t n)))
test_told true n = refl
test_told false n = refl

sum_told : (x : Option ℤ) → to_double x ≡ or_inexact (to_fold (to_double x))
sum_told None = refl
sum_told (Some n) = test_told (nat_le (unsigned_abs n) (2 ^ 53)) n

integers_are : (k : IntKind) (cs : List Seen) → All (HasKind (Integer k)) cs → cs ≡ map (number_cell (Integer k)) (filter_map amount cs)
integers_are k [] h = refl
integers_are k (whole j n ∷ cs) h =
    let e : j ≡ k = (let head : Integer j ≡ Integer k = All-head (HasKind (Integer k)) (whole j n) cs h in cc) in
    ap (λ (i : IntKind). whole i n ∷ cs) e ∙ ap (λ (l : List Seen). whole k n ∷ l) (integers_are k cs (All-tail (HasKind (Integer k)) (whole j n) cs h))
integers_are k (logical b ∷ cs) h = absurd (let head : Logical ≡ Integer k = All-head (HasKind (Integer k)) (logical b) cs h in cc)
integers_are k (double d ∷ cs) h = absurd (let head : Double ≡ Integer k = All-head (HasKind (Integer k)) (double d) cs h in cc)
integers_are k (text t ∷ cs) h = absurd (let head : Text ≡ Integer k = All-head (HasKind (Integer k)) (text t) cs h in cc)

nan_or : (o : Option Seen) → or_cell (double None) o ≡ or_nan o
nan_or None = refl
nan_or (Some d) = refl

abbrev ok_cell : Seen → Result Seen CellFault
ok_cell c = Ok c

best_of_integers : (k : IntKind) (start : Seen) (choose : Seen → Seen → Seen) (pick : ℤ → ℤ → ℤ) (is : (x y : ℤ) → choose (number_cell (Integer k) x) (number_cell (Integer k) y) ≡ number_cell (Integer k) (pick x y)) (cs : List Seen) → All (HasKind (Integer k)) cs
    → ok_cell (or_cell start (option_map (number_cell (Integer k)) (picked pick (filter_map amount cs)))) ≡ ok_cell (or_cell start (folded choose cs))
best_of_integers k start choose pick is cs h =
    ap (λ (o : Option Seen). ok_cell (or_cell start o)) (sym (ap (folded choose) (integers_are k cs h) ∙ folded_is (Integer k) choose pick is (filter_map amount cs)))

best_of_doubles : (choose : Seen → Seen → Seen) (pick : ℤ → ℤ → ℤ) (is : (x y : ℤ) → choose (number_cell Double x) (number_cell Double y) ≡ number_cell Double (pick x y)) (cs : List Seen) → All (HasKind Double) cs
    → ok_cell (or_cell (double None) (option_map (number_cell Double) (picked pick (filter_map amount cs)))) ≡ ok_cell (or_nan (folded choose (present cs)))
best_of_doubles choose pick is cs h =
    ap ok_cell (nan_or (option_map (number_cell Double) (picked pick (filter_map amount cs)))
    ∙ ap or_nan (sym (ap (folded choose) (doubles_present cs h) ∙ folded_is Double choose pick is (filter_map amount cs))))

fold_told : (s : Scan) (a : Kind) (d : Class) (cs : List Seen) → class_result (scan_kind s a) ≡ Ok d → All (HasKind a) cs → scan_cell s (result_kind a) cs ≡ or_inexact (fold_of s a cs)
fold_told CumSum (Integer k) d cs e h = refl
fold_told CumSum Logical d cs e h = sum_told (total_unless_nan cs)
fold_told CumSum Double d cs e h = sum_told (total_unless_nan cs)
fold_told CumSum Text d cs e h = absurd cc
fold_told CumMin (Integer k) d cs e h = best_of_integers k (whole k (greatest k)) lesser int_min (lesser_is (Integer k)) cs h
fold_told CumMin Logical d cs e h = absurd cc
fold_told CumMin Double d cs e h = best_of_doubles lesser int_min (lesser_is Double) cs h
fold_told CumMin Text d cs e h = absurd cc
fold_told CumMax (Integer k) d cs e h = best_of_integers k (whole k (least k)) greater int_max (greater_is (Integer k)) cs h
fold_told CumMax Logical d cs e h = absurd cc
fold_told CumMax Double d cs e h = best_of_doubles greater int_max (greater_is Double) cs h
fold_told CumMax Text d cs e h = absurd cc

cell_told : (o : Option Seen) (r : Option Cell) → IsScanned (or_inexact o) r → option_map seen r ≡ o
cell_told (Some d) (Some c) h = (let e : ok_cell d ≡ ok_cell (seen c) = h in let f : d ≡ seen c = cc in ap Some (sym f))
cell_told (Some d) None h = absurd (let e : ok_cell d ≡ Err Inexact = h in cc)
cell_told None (Some c) h = absurd (let e : Err Inexact ≡ ok_cell (seen c) = h in cc)
cell_told None None h = refl

pub carry_told : (s : Scan) (class : Class) (cs : List Seen) (c : SeenCarry) (r : Option Cell) → IsBlockCarry s class cs c → IsScanned (scan_cell s (kind_of c.class) cs) r → option_map seen r ≡ fold_of s (kind_of class) cs
carry_told s class cs c r is h =
    let kind : kind_of c.class ≡ result_kind (kind_of class) = ap kind_of (class_is s (kind_of class) c.class is.result_class) ∙ kind_again (result_kind (kind_of class)) in
    let found : scan_cell s (kind_of c.class) cs ≡ or_inexact (fold_of s (kind_of class) cs) = ap (λ (a : Kind). scan_cell s a cs) kind ∙ fold_told s (kind_of class) c.class cs is.result_class is.kinds in
    cell_told (fold_of s (kind_of class) cs) r (subst (λ (x : Result Seen CellFault). IsScanned x r) found h)

-- ---- the entry behind some blocks

abbrev entry : List (Option Seen) → ℕ → Option Seen
entry os n = get_or os n None

all_none : (os : List (Option Seen)) (n : ℕ) → entry (map (λ o. None) os) n ≡ None
all_none [] zero = refl
all_none [] (suc n) = refl
all_none (o ∷ os) zero = refl
all_none (o ∷ os) (suc n) = all_none os n

first_entry : (o : Option Seen) (os : List (Option Seen)) → entry (while_there o os) 0 ≡ o
first_entry None os = refl
first_entry (Some c) os = refl

next_entry : (o : Option Seen) (os : List (Option Seen)) (n : ℕ) (l : Bool) (x : Option Seen) → entry os n ≡ (if l then None else x) → entry (while_there o os) (suc n) ≡ (if (is_none o || l) then None else x)
next_entry None os n l x h = all_none os n
next_entry (Some c) os n l x h = h

entry_behind : (s : Scan) (a : Kind) (before : List Seen) (blocks : List (List Seen)) (next : List Seen) (rest : List (List Seen))
    → entry (carries_behind s a before (blocks ++ next ∷ rest)) (length blocks) ≡ (if lost_behind s a before blocks then None else fold_of s a (before ++ flat blocks))
entry_behind s a before [] next rest = first_entry (fold_of s a before) (carries_behind s a (before ++ next) rest) ∙ ap (fold_of s a) (sym (append-nil before))
entry_behind s a before (b ∷ bs) next rest =
    next_entry (fold_of s a before) (carries_behind s a (before ++ b) (bs ++ next ∷ rest)) (length bs) (lost_behind s a (before ++ b) bs) (fold_of s a (before ++ flat (b ∷ bs)))
    (entry_behind s a (before ++ b) bs next rest ∙ ap (λ (cs : List Seen). if lost_behind s a (before ++ b) bs then None else fold_of s a cs) (append_assoc before b (flat bs)))

if_lost : (l : Bool) (x : Option Seen) → l ≡ true → None ≡ (if l then None else x)
if_lost true x h = refl
if_lost false x h = absurd cc

if_kept : (l : Bool) (x : Option Seen) → l ≡ false → x ≡ (if l then None else x)
if_kept true x h = absurd cc
if_kept false x h = refl

pub lost_next : (s : Scan) (class : Class) (blocks : List (List Seen)) (c : NextCarry) → c.lost ≡ true → IsNextCarry s class blocks c → (next : List Seen) (rest : List (List Seen))
    → None ≡ carry_for s (kind_of class) (blocks ++ next ∷ rest) (length blocks)
lost_next s class blocks c h is next rest =
    if_lost (lost_behind s (kind_of class) [] blocks) (fold_of s (kind_of class) (flat blocks)) (sym is.lost ∙ h) ∙ sym (entry_behind s (kind_of class) [] blocks next rest)

pub kept_next : (s : Scan) (class : Class) (blocks : List (List Seen)) (c : NextCarry) (r : Option Cell) → c.lost ≡ false → IsNextCarry s class blocks c
    → ((op : Scan) (d : Class) (cs : List Seen) → IsCarry op d cs c.so_far → IsScanned (scan_cell op (kind_of d) cs) r) → (next : List Seen) (rest : List (List Seen))
    → option_map seen r ≡ carry_for s (kind_of class) (blocks ++ next ∷ rest) (length blocks)
kept_next s class blocks c r h is tells next rest =
    carry_told s class (flat blocks) c.so_far r is.so_far (tells s c.so_far.class (flat blocks) is.so_far.carry)
    ∙ if_kept (lost_behind s (kind_of class) [] blocks) (fold_of s (kind_of class) (flat blocks)) (sym is.lost ∙ h) ∙ sym (entry_behind s (kind_of class) [] blocks next rest)

-- ---- with a block more

or_nothing : (b : Bool) → (b || false) ≡ b
or_nothing true = refl
or_nothing false = refl

or_again : (a b c : Bool) → (a || (b || c)) ≡ ((a || b) || c)
or_again true b c = refl
or_again false b c = refl

lost_more : (s : Scan) (a : Kind) (before : List Seen) (blocks : List (List Seen)) (cs : List Seen) → lost_behind s a before (blocks ++ cs ∷ []) ≡ (lost_behind s a before blocks || is_none (fold_of s a (before ++ flat blocks)))
lost_more s a before [] cs = or_nothing (is_none (fold_of s a before)) ∙ ap (λ (l : List Seen). is_none (fold_of s a l)) (sym (append-nil before))
lost_more s a before (b ∷ bs) cs =
    ap (λ (l : Bool). is_none (fold_of s a before) || l) (lost_more s a (before ++ b) bs cs ∙ ap (λ (l : List Seen). lost_behind s a (before ++ b) bs || is_none (fold_of s a l)) (append_assoc before b (flat bs)))
    ∙ or_again (is_none (fold_of s a before)) (lost_behind s a (before ++ b) bs) (is_none (fold_of s a (before ++ flat (b ∷ bs))))

none_if : (l : Bool) (x : Option Seen) → is_none (if l then None else x) ≡ (l || is_none x)
none_if true x = refl
none_if false x = refl

flat_more : (blocks : List (List Seen)) (cs : List Seen) → flat (blocks ++ cs ∷ []) ≡ flat blocks ++ cs
flat_more [] cs = append-nil cs
flat_more (b ∷ bs) cs = ap (λ (l : List Seen). b ++ l) (flat_more bs cs) ∙ sym (append_assoc b (flat bs) cs)

pub none_is : (b : Bool) (r : Option Cell) → is_some r ≡ not b → b ≡ is_none r
none_is true None h = refl
none_is true (Some c) h = absurd cc
none_is false None h = absurd cc
none_is false (Some c) h = refl

none_seen : (r : Option Cell) → is_none r ≡ is_none (option_map seen r)
none_seen None = refl
none_seen (Some c) = refl

abbrev ok_class : Class → Result Class ClassFault
ok_class c = Ok c

-- whether the carry of the next block is missing
pub lost_now : (s : Scan) (class : Class) (blocks : List (List Seen)) (cs : List Seen) (r : Option Cell)
    → ((next : List Seen) (rest : List (List Seen)) → option_map seen r ≡ carry_for s (kind_of class) (blocks ++ next ∷ rest) (length blocks)) → is_none r ≡ lost_behind s (kind_of class) [] (blocks ++ cs ∷ [])
lost_now s class blocks cs r h =
    none_seen r ∙ ap is_none (h cs [] ∙ entry_behind s (kind_of class) [] blocks cs [])
    ∙ none_if (lost_behind s (kind_of class) [] blocks) (fold_of s (kind_of class) (flat blocks)) ∙ sym (lost_more s (kind_of class) [] blocks cs)

pub block_joined : (s : Scan) (class : Class) (blocks : List (List Seen)) (cs : List Seen) (old later new : SeenCarry) → IsBlockCarry s class (flat blocks) old → IsBlockCarry s class cs later
    → ((op : Scan) (d : Class) (xs ys : List Seen) → IsCarry op d xs old → IsCarry op d ys later → IsCarry op d (xs ++ ys) new) → IsBlockCarry s class (flat (blocks ++ cs ∷ [])) new
block_joined s class blocks cs old later new first second joins =
    let same : later.class ≡ old.class = (let x : ok_class later.class ≡ ok_class old.class = sym second.result_class ∙ first.result_class in cc) in
    let joined : IsCarry s old.class (flat blocks ++ cs) new = joins s old.class (flat blocks) cs first.carry (subst (λ (d : Class). IsCarry s d cs later) same second.carry) in
    let e : new.class ≡ old.class = joined.class_is in
    subst (λ (l : List Seen). IsBlockCarry s class l new) (sym (flat_more blocks cs)) (record {
      result_class = first.result_class ∙ ap Ok (sym e);
      carry = subst (λ (d : Class). IsCarry s d (flat blocks ++ cs) new) (sym e) joined;
      kinds = All-append (HasKind (kind_of class)) (flat blocks) cs first.kinds second.kinds;
    })
