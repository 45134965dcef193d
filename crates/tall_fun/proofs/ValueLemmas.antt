-- Answers in code, and what the definitions give.
use Rattle.std.proofs.Common.{◌≡◌, refl, ap, ◌∙◌, ℕ, List, [], ◌∷◌, map, arith}
use Rattle.std.specs.Prelude.{false, Option, None, Some, option_map, Result, Ok, Err}
use Rattle.std.proofs.lemmas.List.{take_all}
use Rattle.tall_value.specs.Cells.{Seen, text}
use Rattle.tall_column.specs.Columns.{SeenColumn}
use Rattle.tall_column.specs.Tables.{HasHeight, IsTable, height_of}
use Rattle.tall_local.specs.Locals.{held}
use Rattle.tall_local.specs.Memory.{Memory, table}
use Rattle.tall_local.specs.MemoryFunctions.{memory_rows, with_cells}
use Rattle.tall_local.specs.Names.{each_named}
use Rattle.tall_local.specs.Refusals.{Refusal, Stop, stop_at}
use Rattle.tall_memory.specs.declared.faults.MemoryFault.{MemoryFault}
use Rattle.tall_memory.specs.declared.faults.MemoryFault.TheVariants as fault
use Rattle.tall_memory.specs.Ends.{end_rows}
use Rattle.tall_memory.specs.Values.{Gives, Lends}
use Rattle.tall_fun.specs.Failures.{memory_refusal}

pub some_is : {A : Type 0} (a b : A) → Some a ≡ Some b → a ≡ b
some_is a b h = cc

gives_refused : (want : Result Memory Refusal) (f : MemoryFault) (r : Refusal) → Gives want (Err f) → memory_refusal f ≡ Some r → want ≡ Err r
gives_refused want (fault.Undefined name) r h e = h ∙ ap Err (some_is _ _ e)
gives_refused want fault.MixedClass r h e = h ∙ ap Err (some_is _ _ e)
gives_refused want fault.BadClass r h e = h ∙ ap Err (some_is _ _ e)
gives_refused want fault.BadSize r h e = h ∙ ap Err (some_is _ _ e)
gives_refused want fault.BadArgument r h e = h ∙ ap Err (some_is _ _ e)
gives_refused want fault.BadIndex r h e = h ∙ ap Err (some_is _ _ e)
gives_refused want (fault.Data row kind) r h e = h ∙ ap Err (some_is _ _ e)
gives_refused want fault.Memory r h e = absurd (none_is r e)
  where
    none_is : (r : Refusal) → None ≡ Some r → ⊥
    none_is r e = cc

pub held_refused : (want : Result Memory Refusal) (f : MemoryFault) (r : Refusal) → Gives want (Err f) → memory_refusal f ≡ Some r → held want ≡ Err r
held_refused want f r h e = ap held (gives_refused want f r h e)

pub answers_at : {A : Type 0} (line : ℕ) (want : Result A Refusal) (f : MemoryFault) (stop : Stop)
    → ((r : Refusal) → memory_refusal f ≡ Some r → want ≡ Err r)
    → option_map (stop_at line) (memory_refusal f) ≡ Some stop → (r : Refusal) × (want ≡ Err r) × (stop_at line r ≡ stop)
answers_at {A} line want f stop h e = found (memory_refusal f) refl e
  where
    some_stop : (r : Refusal) → Some (stop_at line r) ≡ Some stop → stop_at line r ≡ stop
    some_stop r e = cc

    never : None ≡ Some stop → ⊥
    never e = cc

    found : (o : Option Refusal) → memory_refusal f ≡ o → option_map (stop_at line) o ≡ Some stop → (r : Refusal) × (want ≡ Err r) × (stop_at line r ≡ stop)
    found (Some r) is e = (r, h r is, some_stop r e)
    found None is e = absurd (never e)

-- ---- all rows of a table

first_all : (h : ℕ) (t : List (List ℕ × SeenColumn)) → HasHeight h t → each_named (with_cells (end_rows false h)) t ≡ t
first_all h [] a = refl
first_all h (entry ∷ t) a =
    ap (λ cells. (entry.0, record { class = entry.1.class; cells = cells }) ∷ each_named (with_cells (end_rows false h)) t) (take_all h entry.1.cells (omega arith))
    ∙ ap (λ u. entry ∷ u) (first_all h t a.1)

pub all_rows : (t : List (List ℕ × SeenColumn)) → IsTable t → memory_rows (end_rows false (height_of t)) (table t) ≡ Ok (table t)
all_rows t is = ap (λ u. Ok (table u)) (first_all (height_of t) t is.one_height)

-- ---- texts

pub same_texts : (xs ys : List (List ℕ)) → map (λ s. text s) xs ≡ map (λ s. text s) ys → xs ≡ ys
same_texts [] [] h = refl
same_texts (x ∷ xs) (y ∷ ys) h = ap (λ z. z ∷ xs) (head_same h) ∙ ap (λ zs. y ∷ zs) (same_texts xs ys (tail_same h))
  where
    head_same : {cs ds : List Seen} → text x ∷ cs ≡ text y ∷ ds → x ≡ y
    head_same h = cc

    tail_same : {cs ds : List Seen} → text x ∷ cs ≡ text y ∷ ds → cs ≡ ds
    tail_same h = cc
same_texts [] (y ∷ ys) h = absurd (cc)
same_texts (x ∷ xs) [] h = absurd (cc)

pub lends_refused : (want : Result Memory Refusal) (f : MemoryFault) (r : Refusal) → Lends want (Err f) → memory_refusal f ≡ Some r → want ≡ Err r
lends_refused want (fault.Undefined name) r h e = h ∙ ap Err (some_is _ _ e)
lends_refused want fault.MixedClass r h e = h ∙ ap Err (some_is _ _ e)
lends_refused want fault.BadClass r h e = h ∙ ap Err (some_is _ _ e)
lends_refused want fault.BadSize r h e = h ∙ ap Err (some_is _ _ e)
lends_refused want fault.BadArgument r h e = h ∙ ap Err (some_is _ _ e)
lends_refused want fault.BadIndex r h e = h ∙ ap Err (some_is _ _ e)
lends_refused want (fault.Data row kind) r h e = h ∙ ap Err (some_is _ _ e)
lends_refused want fault.Memory r h e = absurd (cc)
