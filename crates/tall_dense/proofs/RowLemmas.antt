-- Operators row by row: the rows so far, and the row that comes next.
use Rattle.std.specs.Prelude.{Some, Result, Ok, Err, slice_get}
use Rattle.std.proofs.Common.{ℕ, zero, suc, ◌≡◌, ◌≤◌, ◌+◌, List, [], ◌∷◌, ◌++◌, length, take, drop, map, refl, sym, ◌∙◌, ap, arith}
use Rattle.std.proofs.lemmas.List.{take_more, take_all, take-append-drop, length-map, length-take, map_push}
use Rattle.std.proofs.lemmas.Option.{slice_get_within, get_or_from_slice_get}
use Rattle.tall_value.specs.declared.faults.CellFault.{CellFault}
use Rattle.tall_value.specs.Cells.{Seen}
use Rattle.tall_value.specs.Columns.{numbered}
use Rattle.tall_value.specs.Elementwise.{in_front, at_row, each_row, each_pair}
use Rattle.tall_value.specs.Results.{shown_result}
use Rattle.tall_dense.proofs.Lists.{drop_get}

abbrev pub Outcome : Type 0
Outcome = Result (List (ℕ × Seen)) (ℕ × CellFault)

-- the results of an operator as rows from n on
abbrev pub rows_from : ℕ → List (Result Seen CellFault) → Outcome
rows_from n [] = Ok []
rows_from n (r ∷ rs) = at_row n r (rows_from (n + 1) rs)

-- the results of an operator on the rows of two columns
abbrev pub pair_results : (Seen → Seen → Result Seen CellFault) → List Seen → List Seen → List (Result Seen CellFault)
pair_results f [] ds = []
pair_results f (c ∷ cs) [] = []
pair_results f (c ∷ cs) (d ∷ ds) = f c d ∷ pair_results f cs ds

pub each-results : (f : Seen → Result Seen CellFault) (n : ℕ) (cs : List Seen) → each_row f (numbered n cs) ≡ rows_from n (map f cs)
each-results f n [] = refl
each-results f n (c ∷ cs) = ap (λ rest. at_row n (f c) rest) (each-results f (n + 1) cs)

pub pair-results : (f : Seen → Seen → Result Seen CellFault) (n : ℕ) (cs ds : List Seen)
    → each_pair f (numbered n cs) (numbered n ds) ≡ rows_from n (pair_results f cs ds)
pair-results f n [] ds = refl
pair-results f n (c ∷ cs) [] = refl
pair-results f n (c ∷ cs) (d ∷ ds) = ap (λ rest. at_row n (f c d) rest) (pair-results f (n + 1) cs ds)

pub length-pairs : (f : Seen → Seen → Result Seen CellFault) (cs ds : List Seen) → length ds ≡ length cs → length (pair_results f cs ds) ≡ length cs
length-pairs f [] ds h = refl
length-pairs f (c ∷ cs) [] h = absurd (omega (arith, h))
length-pairs f (c ∷ cs) (d ∷ ds) h = ap suc (length-pairs f cs ds (omega (arith, h)))

pub get-pairs : (f : Seen → Seen → Result Seen CellFault) (cs ds : List Seen) (i : ℕ) (c d : Seen)
    → slice_get cs i ≡ Some c → slice_get ds i ≡ Some d → slice_get (pair_results f cs ds) i ≡ Some (f c d)
get-pairs f [] ds i c d p q = absurd cc
get-pairs f (x ∷ cs) [] i c d p q = absurd cc
get-pairs f (x ∷ cs) (y ∷ ds) zero c d p q = cc
get-pairs f (x ∷ cs) (y ∷ ds) (suc i) c d p q = get-pairs f cs ds i c d p q

-- ---- the rows so far: each of the first results is a cell

abbrev pub Results : Type 0
Results = List (Result Seen CellFault)

pub goes_on : (rs : Results) (out next : List Seen) (row : ℕ) (c : Seen) → map Ok out ≡ take row rs → slice_get rs row ≡ Some (Ok c)
    → next ≡ out ++ c ∷ [] → map Ok next ≡ take (row + 1) rs
goes_on rs out next row c h g n =
    ap (λ v. map Ok v) n ∙ map_push Ok out c ∙ ap (λ v. v ++ Ok c ∷ []) h
    ∙ sym (take_more rs row (Ok c) (slice_get_within rs row (Ok c) g) ∙ ap (λ r. take row rs ++ r ∷ []) (get_or_from_slice_get rs row (Ok c) (Ok c) g))

rows-all : (n : ℕ) (out : List Seen) → rows_from n (map Ok out) ≡ Ok (numbered n out)
rows-all n [] = refl
rows-all n (c ∷ out) = ap (λ tail. in_front (n, c) tail) (rows-all (n + 1) out)

pub all_done : (rs : Results) (out : List Seen) (row : ℕ) → map Ok out ≡ take row rs → length rs ≤ row → rows_from 0 rs ≡ Ok (numbered 0 out)
all_done rs out row h l = ap (λ v. rows_from 0 v) (sym (h ∙ take_all row rs l)) ∙ rows-all 0 out

rows-fault : (n : ℕ) (out : List Seen) (e : CellFault) (rest : Results) → rows_from n (map Ok out ++ Err e ∷ rest) ≡ Err (n + length out, e)
rows-fault n [] e rest = ap (λ k. Err (k, e)) (let at : n ≡ n + 0 = omega arith in at)
rows-fault n (c ∷ out) e rest =
    ap (λ tail. in_front (n, c) tail) (rows-fault (n + 1) out e rest) ∙ ap (λ k. Err (k, e)) (let at : n + 1 + length out ≡ n + suc (length out) = omega arith in at)

pub stops : (rs : Results) (out : List Seen) (row : ℕ) (e : CellFault) → map Ok out ≡ take row rs → slice_get rs row ≡ Some (Err e)
    → rows_from 0 rs ≡ Err (row, e)
stops rs out row e h g =
    let within = slice_get_within rs row (Err e) g in
    let count : length out ≡ row = omega (arith, length-map {B = Result Seen CellFault} out Ok, ap length h, length-take row rs, within) in
    ap (λ v. rows_from 0 v) (sym (take-append-drop row rs) ∙ ap (λ v. v ++ drop row rs) (sym h) ∙ ap (λ v. map Ok out ++ v) (drop_get rs row (Err e) g))
    ∙ rows-fault 0 out e (drop (row + 1) rs) ∙ ap (λ k. Err (k, e)) (let at : 0 + length out ≡ row = omega (arith, count) in at)

-- ---- the same over the values of a vector, of which `shown` is what a cell shows

pub value_goes_on : {A : Type 0} (shown : A → Seen) (rs : Results) (out next : List A) (row : ℕ) (a : A) (r : Result A CellFault)
    → map Ok (map shown out) ≡ take row rs → slice_get rs row ≡ Some (shown_result shown r) → r ≡ Ok a → next ≡ out ++ a ∷ []
    → map Ok (map shown next) ≡ take (row + 1) rs
value_goes_on shown rs out next row a r h g is n =
    goes_on rs (map shown out) (map shown next) row (shown a) h (g ∙ ap (λ x. Some (shown_result shown x)) is) (ap (map shown) n ∙ map_push shown out a)

pub value_stops : {A : Type 0} (shown : A → Seen) (rs : Results) (out : List A) (row : ℕ) (e : CellFault) (r : Result A CellFault)
    → map Ok (map shown out) ≡ take row rs → slice_get rs row ≡ Some (shown_result shown r) → r ≡ Err e → rows_from 0 rs ≡ Err (row, e)
value_stops shown rs out row e r h g is = stops rs (map shown out) row e h (g ∙ ap (λ x. Some (shown_result shown x)) is)
