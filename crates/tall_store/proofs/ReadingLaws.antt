-- The order of reading faults is total, and the first of several does not depend on their order.
use Rattle.std.proofs.Common.{ℕ, ◌≡◌, ◌∙◌, List, [], ◌∷◌, ◌++◌, Bool, true, false, Option, Some, None, sym, ap, refl, get_or}
use Rattle.std.specs.Prelude.{if◌then◌else◌}
use Rattle.std.specs.declared.cmp.Ordering.{Ordering}
use Rattle.std.specs.declared.cmp.Ordering.TheVariants.{Less, Equal, Greater}
use Rattle.std.specs.Ordering.{nat_cmp, is_lt, is_eq, ordering_reverse}
use Rattle.std.specs.Cmp.{IsTotalOrder}
use Rattle.std.specs.Cmp.Lexicographic.{slice_cmp}
use Rattle.std.proofs.lemmas.Cmp.{on_total, nat_list_cmp_total}
use Rattle.std.proofs.lemmas.Map.Text.{is_eq-slice_cmp}
use Rattle.std.proofs.lemmas.Slice.Eq.{bytes_eq-Decides}
use Rattle.std.proofs.lemmas.Bool.{false≢true}
use Rattle.tall_store.specs.declared.faults.ReadingFault.{ReadingFault}
use Rattle.tall_value.specs.declared.faults.ReadingKind.{ReadingKind}
use Rattle.tall_value.specs.declared.faults.ReadingKind.TheVariants.{NoFile, HeaderDiffers, TooManyRows, TooManyFields, BadField, BadText, NotWhole, Inexact}
use Rattle.tall_store.specs.ReadingOrder.{earlier_of, first_reading_fault, kind_rank, precedes, reading_place}

-- ---- the order

abbrev compared : ReadingFault → ReadingFault → Ordering
compared f g = slice_cmp nat_cmp (reading_place f) (reading_place g)

compared_total : IsTotalOrder compared
compared_total = on_total reading_place nat_list_cmp_total

is_less : (o : Ordering) → is_lt o ≡ true → o ≡ Less
is_less Less h = refl
is_less Equal h = absurd (false≢true h)
is_less Greater h = absurd (false≢true h)

pub before_before : (f g h : ReadingFault) → precedes h g ≡ true → precedes g f ≡ true → precedes h f ≡ true
before_before f g h p q =
    ap is_lt (compared_total.trans h g f (is_less (compared h g) p) (is_less (compared g f) q))

-- where h comes before f and g does not, h comes before g
before_other : (f g h : ReadingFault) (o : Ordering) → o ≡ compared g f → is_lt o ≡ false → compared h f ≡ Less → compared h g ≡ Less
before_other f g h Less e l p = absurd (false≢true (sym l))
before_other f g h Equal e l p =
    compared_total.antisymm h g ∙ ap ordering_reverse (compared_total.congr g f h (sym e)) ∙ sym (compared_total.antisymm h f) ∙ p
before_other f g h Greater e l p =
    compared_total.trans h f g p (compared_total.antisymm f g ∙ ap ordering_reverse (sym e))

pub not_before : (f g h : ReadingFault) → precedes g f ≡ false → precedes h g ≡ false → precedes h f ≡ false
not_before f g h p q = by_test (precedes h f) refl
  where
    by_test : (b : Bool) → b ≡ precedes h f → precedes h f ≡ false
    by_test false e = sym e
    by_test true e = absurd (false≢true (sym q ∙ ap is_lt (before_other f g h (compared g f) refl p (is_less (compared h f) (sym e)))))

-- ---- faults at one place are one fault

abbrev kind_of_rank : ℕ → ReadingKind
kind_of_rank rank = get_or (NoFile ∷ HeaderDiffers ∷ TooManyRows ∷ TooManyFields ∷ BadField ∷ BadText ∷ NotWhole ∷ Inexact ∷ []) rank NoFile

ranked : (k : ReadingKind) → kind_of_rank (kind_rank k) ≡ k
ranked NoFile = refl
ranked HeaderDiffers = refl
ranked TooManyRows = refl
ranked TooManyFields = refl
ranked BadField = refl
ranked BadText = refl
ranked NotWhole = refl
ranked Inexact = refl

abbrev fault_of_place : List ℕ → ReadingFault
fault_of_place place = record { kind = kind_of_rank (get_or place 3 0); file = get_or place 2 0; row = get_or place 0 0; column = get_or place 1 0 }

placed : (f : ReadingFault) → fault_of_place (reading_place f) ≡ f
placed f = ap (λ k. record f { kind = k }) (ranked f.kind)

one_fault : (f g : ReadingFault) → reading_place f ≡ reading_place g → f ≡ g
one_fault f g e = sym (placed f) ∙ ap fault_of_place e ∙ placed g

is_tie : (f g : ReadingFault) (o : Ordering) → o ≡ compared f g → is_lt o ≡ false → is_lt (ordering_reverse o) ≡ false → is_eq o ≡ true
is_tie f g Less e p q = absurd (false≢true (sym p))
is_tie f g Equal e p q = refl
is_tie f g Greater e p q = absurd (false≢true (sym q))

pub tied : (f g : ReadingFault) → precedes f g ≡ false → precedes g f ≡ false → f ≡ g
tied f g p q =
    one_fault f g ((bytes_eq-Decides (reading_place f) (reading_place g)).0
    (sym (is_eq-slice_cmp (reading_place f) (reading_place g))
    ∙ is_tie f g (compared f g) refl p (ap is_lt (sym (compared_total.antisymm g f)) ∙ q)))

one_way : (f g : ReadingFault) → precedes g f ≡ true → precedes f g ≡ false
one_way f g p = ap is_lt (compared_total.antisymm f g ∙ ap ordering_reverse (is_less (compared g f) p))

-- ---- the earlier of two

pub earlier_none : (a : Option ReadingFault) → earlier_of a None ≡ a
earlier_none None = refl
earlier_none (Some f) = refl

spread : (f g h : ReadingFault) (b : Bool)
    → earlier_of (if b then Some g else Some f) (Some h) ≡ (if b then (if precedes h g then Some h else Some g) else (if precedes h f then Some h else Some f))
spread f g h true = refl
spread f g h false = refl

spread_right : (f g h : ReadingFault) (b : Bool)
    → earlier_of (Some f) (if b then Some h else Some g) ≡ (if b then (if precedes h f then Some h else Some f) else (if precedes g f then Some g else Some f))
spread_right f g h true = refl
spread_right f g h false = refl

three_ways : (f g h : ReadingFault) (gf hg hf : Bool) → (hg ≡ true → gf ≡ true → hf ≡ true) → (gf ≡ false → hg ≡ false → hf ≡ false)
    → ◌≡◌ {A = Option ReadingFault} (if gf then (if hg then Some h else Some g) else (if hf then Some h else Some f))
    (if hg then (if hf then Some h else Some f) else (if gf then Some g else Some f))
three_ways f g h true true true p q = refl
three_ways f g h true true false p q = absurd (false≢true (p refl refl))
three_ways f g h true false hf p q = refl
three_ways f g h false true hf p q = refl
three_ways f g h false false true p q = absurd (false≢true (sym (q refl refl)))
three_ways f g h false false false p q = refl

pub earlier_assoc : (a b c : Option ReadingFault) → earlier_of (earlier_of a b) c ≡ earlier_of a (earlier_of b c)
earlier_assoc None b c = refl
earlier_assoc (Some f) None c = refl
earlier_assoc (Some f) (Some g) None = earlier_none (earlier_of (Some f) (Some g))
earlier_assoc (Some f) (Some g) (Some h) =
    spread f g h (precedes g f)
    ∙ three_ways f g h (precedes g f) (precedes h g) (precedes h f) (before_before f g h) (not_before f g h)
    ∙ sym (spread_right f g h (precedes h g))

two_ways : (f g : ReadingFault) (gf fg : Bool) → (gf ≡ true → fg ≡ false) → (fg ≡ false → gf ≡ false → f ≡ g)
    → ◌≡◌ {A = Option ReadingFault} (if gf then Some g else Some f) (if fg then Some f else Some g)
two_ways f g true true p q = absurd (false≢true (sym (p refl)))
two_ways f g true false p q = refl
two_ways f g false true p q = refl
two_ways f g false false p q = ap (λ (x : ReadingFault). Some x) (q refl refl)

pub earlier_comm : (a b : Option ReadingFault) → earlier_of a b ≡ earlier_of b a
earlier_comm None b = sym (earlier_none b)
earlier_comm (Some f) None = refl
earlier_comm (Some f) (Some g) = two_ways f g (precedes g f) (precedes f g) (one_way f g) (tied f g)

-- ---- the first of several

pub first_append : (xs ys : List ReadingFault) → first_reading_fault (xs ++ ys) ≡ earlier_of (first_reading_fault xs) (first_reading_fault ys)
first_append [] ys = refl
first_append (f ∷ xs) ys =
    ap (λ (a : Option ReadingFault). earlier_of (Some f) a) (first_append xs ys)
    ∙ sym (earlier_assoc (Some f) (first_reading_fault xs) (first_reading_fault ys))
