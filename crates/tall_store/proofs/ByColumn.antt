-- The first fault of some records, variable by variable.
use Rattle.std.proofs.Common.{ℕ, ◌≡◌, ◌∙◌, ◌^◌, List, [], ◌∷◌, ◌++◌, false, Option, Some, None, sym, ap, refl, leb}
use Rattle.std.specs.List.{filter_map, flat_map, cons_option}
use Rattle.std.specs.Result.{result_err}
use Rattle.tall_store.specs.declared.faults.ReadingFault.{ReadingFault}
use Rattle.tall_value.specs.declared.faults.ReadingKind.TheVariants.{TooManyRows}
use Rattle.tall_store.specs.Stores.{SeenStore}
use Rattle.tall_store.specs.Records.{DataRecord}
use Rattle.tall_store.specs.ReadingOrder.{earlier_of, first_reading_fault}
use Rattle.tall_store.specs.Stored.{record_faults, value_at}
use Rattle.tall_store.specs.Walk.{fault_when}
use Rattle.tall_store.specs.Reads.{column_faults, first_of_columns, first_width_fault, width_faults}
use Rattle.tall_store.proofs.ReadingLaws.{earlier_assoc, earlier_comm, earlier_none, first_append}
use Rattle.tall_store.proofs.Prefixes.{Each}

pub mix : (a b c d : Option ReadingFault) → earlier_of (earlier_of a b) (earlier_of c d) ≡ earlier_of (earlier_of a c) (earlier_of b d)
mix a b c d =
    earlier_assoc a b (earlier_of c d)
    ∙ ap (λ x. earlier_of a x) (sym (earlier_assoc b c d) ∙ ap (λ x. earlier_of x d) (earlier_comm b c) ∙ earlier_assoc c b d)
    ∙ sym (earlier_assoc a c (earlier_of b d))

-- the faults of two kinds, one kind after the other
pub first_both : {X : Type 0} (f g : X → List ReadingFault) (xs : List X)
    → first_reading_fault (flat_map (λ x. f x ++ g x) xs) ≡ earlier_of (first_reading_fault (flat_map f xs)) (first_reading_fault (flat_map g xs))
first_both f g [] = refl
first_both f g (x ∷ xs) =
    first_append (f x ++ g x) (flat_map (λ y. f y ++ g y) xs)
    ∙ ap (λ a. earlier_of a (first_reading_fault (flat_map (λ y. f y ++ g y) xs))) (first_append (f x) (g x))
    ∙ ap (λ a. earlier_of (earlier_of (first_reading_fault (f x)) (first_reading_fault (g x))) a) (first_both f g xs)
    ∙ mix (first_reading_fault (f x)) (first_reading_fault (g x)) (first_reading_fault (flat_map f xs)) (first_reading_fault (flat_map g xs))
    ∙ ap (λ a. earlier_of a (earlier_of (first_reading_fault (g x)) (first_reading_fault (flat_map g xs)))) (sym (first_append (f x) (flat_map f xs)))
    ∙ ap (λ a. earlier_of (first_reading_fault (f x ++ flat_map f xs)) a) (sym (first_append (g x) (flat_map g xs)))

ones : (a : Option ReadingFault) (fs : List ReadingFault) → cons_option a fs ≡ cons_option a [] ++ fs
ones None fs = refl
ones (Some f) fs = refl

pub as_flat : {X : Type 0} (h : X → Option ReadingFault) (xs : List X) → filter_map h xs ≡ flat_map (λ x. cons_option (h x) []) xs
as_flat h [] = refl
as_flat h (x ∷ xs) = ap (λ fs. cons_option (h x) fs) (as_flat h xs) ∙ ones (h x) (flat_map (λ y. cons_option (h y) []) xs)

same_flat : {X : Type 0} (f g : X → List ReadingFault) → ((x : X) → f x ≡ g x) → (xs : List X) → flat_map f xs ≡ flat_map g xs
same_flat f g e [] = refl
same_flat f g e (x ∷ xs) = ap (λ fs. fs ++ flat_map f xs) (e x) ∙ ap (λ fs. g x ++ fs) (same_flat f g e xs)

none_flat : {X : Type 0} (xs : List X) → ◌≡◌ {A = List ReadingFault} (flat_map (λ x. []) xs) []
none_flat [] = refl
none_flat (x ∷ xs) = none_flat xs

-- the faults of fields, in either order
pub by_column : (store : SeenStore) (records : List DataRecord) (fault : Option ReadingFault) (places : List ℕ)
    → earlier_of fault (first_reading_fault (flat_map (λ r. filter_map (λ place. result_err (value_at store place r)) places) records))
    ≡ first_of_columns store records fault places
by_column store records fault [] = ap (λ fs. earlier_of fault (first_reading_fault fs)) (none_flat records) ∙ earlier_none fault
by_column store records fault (place ∷ places) =
    let rest : DataRecord → List ReadingFault = λ r. filter_map (λ p. result_err (value_at store p r)) places in
    let here : DataRecord → List ReadingFault = λ r. cons_option (result_err (value_at store place r)) [] in
    ap (λ fs. earlier_of fault (first_reading_fault fs))
    (same_flat (λ r. filter_map (λ p. result_err (value_at store p r)) (place ∷ places)) (λ r. here r ++ rest r)
    (λ r. ones (result_err (value_at store place r)) (rest r)) records)
    ∙ ap (λ a. earlier_of fault a) (first_both here rest records)
    ∙ ap (λ fs. earlier_of fault (earlier_of (first_reading_fault fs) (first_reading_fault (flat_map rest records))))
    (sym (as_flat (λ r. result_err (value_at store place r)) records))
    ∙ sym (earlier_assoc fault (first_reading_fault (column_faults store records place)) (first_reading_fault (flat_map rest records)))
    ∙ by_column store records (earlier_of fault (first_reading_fault (column_faults store records place))) places

few : (store : SeenStore) (r : DataRecord) → leb (2 ^ 40) r.row ≡ false
    → record_faults store r ≡ width_faults store r ++ filter_map (λ place. result_err (value_at store place r)) store.selected
few store r e = ap (λ b. fault_when b TooManyRows r.file r.row ++ (width_faults store r ++ filter_map (λ place. result_err (value_at store place r)) store.selected)) e

few_flat : (store : SeenStore) (records : List DataRecord) → Each (λ r. leb (2 ^ 40) r.row ≡ false) records
    → flat_map (record_faults store) records ≡ flat_map (λ r. width_faults store r ++ filter_map (λ place. result_err (value_at store place r)) store.selected) records
few_flat store [] e = refl
few_flat store (r ∷ records) e =
    ap (λ fs. fs ++ flat_map (record_faults store) records) (few store r e.0)
    ∙ ap (λ fs. (width_faults store r ++ filter_map (λ place. result_err (value_at store place r)) store.selected) ++ fs) (few_flat store records e.1)

-- of records with rows below 2^40
pub first_by_column : (store : SeenStore) (records : List DataRecord) → Each (λ r. leb (2 ^ 40) r.row ≡ false) records
    → first_reading_fault (flat_map (record_faults store) records)
    ≡ first_of_columns store records (first_width_fault store records) store.selected
first_by_column store records e =
    ap first_reading_fault (few_flat store records e)
    ∙ first_both (width_faults store) (λ r. filter_map (λ place. result_err (value_at store place r)) store.selected) records
    ∙ by_column store records (first_width_fault store records) store.selected
