-- What the laws ask for is met by the blocks of two small files.
use Rattle.std.specs.Prelude.{◌≡◌, refl, ℕ, zero, suc, ◌<◌, [], length, None, Some, slice_get}
use Rattle.std.proofs.Common.{ap, sym, subst, ◌∙◌, arith}
use Rattle.csv.proofs.OnLiterals.{csv_on_literals}
use Rattle.tall_value.specs.declared.class.Class.{Class}
use Rattle.tall_value.specs.declared.class.Class.TheVariants as class
use Rattle.tall_semantics.specs.Operations.{Made, stored, operation}
use Rattle.tall_semantics.specs.Talls.{Columns, tall}
use Rattle.tall_semantics.specs.Deferred.{Vertex, AllBelow, IsMeaning}
use Rattle.tall_semantics.specs.InOrder.{IsAccepted, IsSound, tall_in, talls, talls_from}
use Rattle.tall_semantics.proofs.Basics.{inside}
use Rattle.tall_semantics.proofs.InOrderLaws.{talls_mean}
use Rattle.tall_store.specs.Stored.{first_fault}
use Rattle.tall_stored.specs.StoredColumns.{AreStored, Store, variable_class}
use Rattle.tall_stored_blocks.specs.BlocksOfFiles.{held, stores, vertices, y_of_two_files}
use Rattle.tall_stored_blocks.specs.StoredBlocks.{columns_of}
use Rattle.tall_stored_blocks.proofs.StoredBlockLaws.{are_stored}

abbrev d : Store
d = record { at = record { number = 1; line = 1 }; store = y_of_two_files }

abbrev IsNamed : Vertex → Made → ℕ → ℕ → Class → Type 0
IsNamed v m place variable class = m ≡ stored place variable class → (e : Store) × (slice_get stores place ≡ Some e) × (v.at ≡ e.at) × (variable < length e.store.selected) × (class ≡ variable_class e.store variable)

first_named : (place variable : ℕ) (k : Class) → IsNamed (record { at = record { number = 1; line = 1 }; made = stored 0 0 class.Double; args = [] }) (stored 0 0 class.Double) place variable k
first_named place variable k h =
    let p : 0 ≡ place = ap store_in h in
    let a : 0 ≡ variable = ap variable_in h in
    let c : class.Double ≡ k = ap class_in h in
    (d, ap (slice_get stores) (sym p), refl, subst (λ j. j < 1) a (omega (arith)), sym c ∙ ap (variable_class y_of_two_files) a)
  where
    store_in : Made → ℕ
    store_in (stored s b c) = s
    store_in (operation op) = 0

    variable_in : Made → ℕ
    variable_in (stored s b c) = b
    variable_in (operation op) = 0

    class_in : Made → Class
    class_in (stored s b c) = c
    class_in (operation op) = class.Double

named : (i : ℕ) (v : Vertex) (place variable : ℕ) (k : Class) → slice_get vertices i ≡ Some v → IsNamed v v.made place variable k
named zero v place variable k e = subst (λ u. IsNamed u u.made place variable k) (inside _ v e) (first_named place variable k)
named (suc zero) v place variable k e = subst (λ u. IsNamed u u.made place variable k) (inside _ v e) (λ h. absurd (cc))
named (suc (suc i)) v place variable k e = absurd (cc)

pub sample_stored : AreStored held stores vertices (columns_of held stores)
sample_stored = are_stored held stores vertices (λ i v place variable k e h. named i v place variable k e h)

sound : (columns : Columns) → IsSound columns vertices
unfolding tall talls_from
sound columns zero v e = subst (λ u. AllBelow 0 u.args × IsAccepted columns vertices u) (inside _ v e) (tt, (tall_in (talls columns vertices) 0, refl))
sound columns (suc zero) v e = subst (λ u. AllBelow 1 u.args × IsAccepted columns vertices u) (inside _ v e) ((omega (arith), tt), (tall_in (talls columns vertices) 1, refl))
sound columns (suc (suc i)) v e = absurd (cc)

pub sample_meaning : IsMeaning (columns_of held stores) vertices (tall_in (talls (columns_of held stores) vertices))
sample_meaning = talls_mean (columns_of held stores) vertices (sound (columns_of held stores))

pub sample_free : first_fault y_of_two_files held ≡ None
unfolding csv_on_literals
sample_free = refl
