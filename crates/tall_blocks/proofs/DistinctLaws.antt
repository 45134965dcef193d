-- The distinct cells of some cells and then others, by putting cells into ascending ones.
use Rattle.std.specs.Prelude.{◌≡◌, refl, ◌||◌, Bool, true, false, not, if◌then◌else◌, List, [], ◌∷◌, ◌++◌}
use Rattle.std.proofs.Common.{ap, sym, ◌∙◌}
use Rattle.std.specs.List.{filter, list_any}
use Rattle.std.specs.declared.cmp.Ordering.{Ordering}
use Rattle.std.specs.declared.cmp.Ordering.TheVariants.{Less, Equal, Greater}
use Rattle.std.specs.Ordering.{ordering_reverse}
use Rattle.std.proofs.lemmas.List.{append-nil}
use Rattle.std.proofs.lemmas.List.Elements.{filter-append}
use Rattle.tall_value.specs.Cells.{Seen, is_nan}
use Rattle.tall_value.specs.CellOrder.{cell_order}
use Rattle.tall_value.specs.Distinct.{by_order, insert, ascending, distinct}
use Rattle.tall_value.specs.Reductions.{present, is_present}
use Rattle.tall_value.proofs.OrderLaws.{cells_total}

-- ---- the order of two cells against a third

reverse_less : (r : Ordering) → ordering_reverse r ≡ Less → r ≡ Greater
reverse_less Less h = absurd (cc)
reverse_less Equal h = absurd (cc)
reverse_less Greater h = refl

less_greater : (c d : Seen) → cell_order c d ≡ Less → cell_order d c ≡ Greater
less_greater c d h = cells_total.antisymm d c ∙ ap ordering_reverse h

greater_less : (c d : Seen) → cell_order c d ≡ Greater → cell_order d c ≡ Less
greater_less c d h = cells_total.antisymm d c ∙ ap ordering_reverse h

equal_turned : (c d : Seen) → cell_order c d ≡ Equal → cell_order d c ≡ Equal
equal_turned c d h = cells_total.antisymm d c ∙ ap ordering_reverse h

pub same_order : (c d e : Seen) → cell_order c d ≡ Equal → cell_order c e ≡ cell_order d e
same_order c d e h = cells_total.congr c d e h

-- c is above d, and d above e
above : (c d e : Seen) → cell_order c d ≡ Greater → cell_order d e ≡ Greater → cell_order c e ≡ Greater
above c d e p q = less_greater e c (cells_total.trans e d c (greater_less d e q) (greater_less c d p))

-- c is above d, which is equal to e
above_equal : (c d e : Seen) → cell_order c d ≡ Greater → cell_order d e ≡ Equal → cell_order c e ≡ Greater
above_equal c d e p q = less_greater e c (sym (same_order d e c q) ∙ greater_less c d p)

-- ---- a cell put into cells, by the order

put : (c d : Seen) (ds : List Seen) (r : Ordering) → cell_order c d ≡ r → insert c (d ∷ ds) ≡ by_order r (c ∷ d ∷ ds) (d ∷ ds) (d ∷ insert c ds)
put c d ds r h = ap (λ o. by_order o (c ∷ d ∷ ds) (d ∷ ds) (d ∷ insert c ds)) h

-- of two equal cells the second is not put in
equal_by : (c d e : Seen) (es : List Seen) (r : Ordering) → cell_order c d ≡ Equal → cell_order d e ≡ r → insert c (insert d es) ≡ insert d es → insert c (insert d (e ∷ es)) ≡ insert d (e ∷ es)
equal_by c d e es Less p q h = (let x = put d e es Less q in ap (insert c) x ∙ (put c d (e ∷ es) Equal p ∙ sym x))
equal_by c d e es Equal p q h = (let x = put d e es Equal q in ap (insert c) x ∙ (put c e es Equal (same_order c d e p ∙ q) ∙ sym x))
equal_by c d e es Greater p q h = (let x = put d e es Greater q in ap (insert c) x ∙ (put c e (insert d es) Greater (same_order c d e p ∙ q) ∙ (ap (λ xs. e ∷ xs) h ∙ sym x)))

insert_equal : (c d : Seen) (es : List Seen) → cell_order c d ≡ Equal → insert c (insert d es) ≡ insert d es
insert_equal c d [] p = put c d [] Equal p
insert_equal c d (e ∷ es) p = equal_by c d e es (cell_order d e) p refl (insert_equal c d es p)

-- two unequal cells may be put in either order
swap_less : (c d e : Seen) (es : List Seen) (r : Ordering) → cell_order c d ≡ Greater → cell_order d e ≡ Less → cell_order c e ≡ r → insert d (insert c (e ∷ es)) ≡ insert c (insert d (e ∷ es))
swap_less c d e es Less p q s =
    let x = put c e es Less s in
    let y = put d e es Less q in
    ap (insert d) x ∙ (put d c (e ∷ es) Less (greater_less c d p) ∙ sym (ap (insert c) y ∙ (put c d (e ∷ es) Greater p ∙ ap (λ xs. d ∷ xs) x)))
swap_less c d e es Equal p q s =
    let x = put c e es Equal s in
    let y = put d e es Less q in
    ap (insert d) x ∙ (y ∙ sym (ap (insert c) y ∙ (put c d (e ∷ es) Greater p ∙ ap (λ xs. d ∷ xs) x)))
swap_less c d e es Greater p q s =
    let x = put c e es Greater s in
    let y = put d e es Less q in
    ap (insert d) x ∙ (put d e (insert c es) Less q ∙ sym (ap (insert c) y ∙ (put c d (e ∷ es) Greater p ∙ ap (λ xs. d ∷ xs) x)))

swap_by : (c d e : Seen) (es : List Seen) (r : Ordering) → cell_order c d ≡ Greater → cell_order d e ≡ r → insert d (insert c es) ≡ insert c (insert d es) → insert d (insert c (e ∷ es)) ≡ insert c (insert d (e ∷ es))
swap_by c d e es Less p q h = swap_less c d e es (cell_order c e) p q refl
swap_by c d e es Equal p q h =
    let x = put c e es Greater (above_equal c d e p q) in
    let y = put d e es Equal q in
    ap (insert d) x ∙ (put d e (insert c es) Equal q ∙ sym (ap (insert c) y ∙ x))
swap_by c d e es Greater p q h =
    let x = put c e es Greater (above c d e p q) in
    let y = put d e es Greater q in
    ap (insert d) x ∙ (put d e (insert c es) Greater q ∙ (ap (λ xs. e ∷ xs) h ∙ sym (ap (insert c) y ∙ put c e (insert d es) Greater (above c d e p q))))

insert_swap : (c d : Seen) (es : List Seen) → cell_order c d ≡ Greater → insert d (insert c es) ≡ insert c (insert d es)
insert_swap c d [] p = put d c [] Less (greater_less c d p) ∙ sym (put c d [] Greater p)
insert_swap c d (e ∷ es) p = swap_by c d e es (cell_order d e) p refl (insert_swap c d es p)

-- ---- cells put in one after the other

pub put_all : List Seen → List Seen → List Seen
put_all ts [] = ts
put_all ts (c ∷ cs) = insert c (put_all ts cs)

put_by : (ts : List Seen) (c d : Seen) (ds : List Seen) (r : Ordering) → cell_order c d ≡ r → put_all ts (insert c ds) ≡ insert c (put_all ts ds) → put_all ts (insert c (d ∷ ds)) ≡ insert c (insert d (put_all ts ds))
unfolding put_all
put_by ts c d ds Less p h = ap (put_all ts) (put c d ds Less p)
put_by ts c d ds Equal p h = ap (put_all ts) (put c d ds Equal p) ∙ sym (insert_equal c d (put_all ts ds) p)
put_by ts c d ds Greater p h = ap (put_all ts) (put c d ds Greater p) ∙ (ap (insert d) h ∙ insert_swap c d (put_all ts ds) p)

put_inserted : (ts : List Seen) (c : Seen) (ds : List Seen) → put_all ts (insert c ds) ≡ insert c (put_all ts ds)
unfolding put_all
put_inserted ts c [] = refl
put_inserted ts c (d ∷ ds) = put_by ts c d ds (cell_order c d) refl (put_inserted ts c ds)

put_ascending : (ts cs : List Seen) → put_all ts (ascending cs) ≡ put_all ts cs
unfolding put_all
put_ascending ts [] = refl
put_ascending ts (c ∷ cs) = put_inserted ts c (ascending cs) ∙ ap (insert c) (put_ascending ts cs)

ascending_append : (cs ds : List Seen) → ascending (cs ++ ds) ≡ put_all (ascending ds) cs
unfolding put_all
ascending_append [] ds = refl
ascending_append (c ∷ cs) ds = ap (insert c) (ascending_append cs ds)

put_none : (cs : List Seen) → put_all [] cs ≡ ascending cs
unfolding put_all
put_none [] = refl
put_none (c ∷ cs) = ap (insert c) (put_none cs)

ascending_again : (cs : List Seen) → ascending (ascending cs) ≡ ascending cs
ascending_again cs = sym (put_none (ascending cs)) ∙ (put_ascending [] cs ∙ put_none cs)

pub ascending_front : (cs ds : List Seen) → ascending (ascending cs ++ ds) ≡ ascending (cs ++ ds)
ascending_front cs ds = ascending_append (ascending cs) ds ∙ (put_ascending (ascending ds) cs ∙ sym (ascending_append cs ds))

pub ascending_of_both : (cs ds : List Seen) → ascending (cs ++ ds) ≡ ascending (ascending cs ++ ascending ds)
ascending_of_both cs ds =
    ascending_append cs ds
    ∙ sym (ascending_append (ascending cs) (ascending ds) ∙ (ap (λ ts. put_all ts (ascending cs)) (ascending_again ds) ∙ put_ascending (ascending ds) cs))

-- ---- what passes a test

all_pass : (Seen → Bool) → List Seen → Type 0
all_pass p [] = Unit {0}
all_pass p (c ∷ cs) = (p c ≡ true) × all_pass p cs

pass_by : (p : Seen → Bool) (r : Ordering) (a b c : List Seen) → all_pass p a → all_pass p b → all_pass p c → all_pass p (by_order r a b c)
pass_by p Less a b c x y z = x
pass_by p Equal a b c x y z = y
pass_by p Greater a b c x y z = z

insert_pass : (p : Seen → Bool) (c : Seen) (ds : List Seen) → p c ≡ true → all_pass p ds → all_pass p (insert c ds)
unfolding all_pass
insert_pass p c [] h a = (h, tt)
insert_pass p c (d ∷ ds) h a = pass_by p (cell_order c d) (c ∷ d ∷ ds) (d ∷ ds) (d ∷ insert c ds) (h, a) a (a.0, insert_pass p c ds h a.1)

ascending_pass : (p : Seen → Bool) (cs : List Seen) → all_pass p cs → all_pass p (ascending cs)
unfolding all_pass
ascending_pass p [] a = tt
ascending_pass p (c ∷ cs) a = insert_pass p c (ascending cs) a.0 (ascending_pass p cs a.1)

kept_if : (p : Seen → Bool) (c : Seen) (cs xs : List Seen) (b : Bool) → p c ≡ b → filter p cs ≡ xs → filter p (c ∷ cs) ≡ (if b then c ∷ xs else xs)
kept_if p c cs xs b h e = ap (λ t. if t then c ∷ filter p cs else filter p cs) h ∙ ap (λ ys. if b then c ∷ ys else ys) e

filter_all : (p : Seen → Bool) (cs : List Seen) → all_pass p cs → filter p cs ≡ cs
unfolding all_pass
filter_all p [] a = refl
filter_all p (c ∷ cs) a = kept_if p c cs cs true a.0 (filter_all p cs a.1)

filter_none : (p q : Seen → Bool) → ((c : Seen) → p c ≡ true → q c ≡ false) → (cs : List Seen) → all_pass p cs → filter q cs ≡ []
unfolding all_pass
filter_none p q h [] a = refl
filter_none p q h (c ∷ cs) a = kept_if q c cs [] false (h c a.0) (filter_none p q h cs a.1)

filtered_by : (p : Seen → Bool) (c : Seen) (cs : List Seen) (b : Bool) → p c ≡ b → all_pass p (filter p cs) → all_pass p (if b then c ∷ filter p cs else filter p cs)
unfolding all_pass
filtered_by p c cs true h a = (h, a)
filtered_by p c cs false h a = a

filtered_pass : (p : Seen → Bool) (cs : List Seen) → all_pass p (filter p cs)
unfolding all_pass
filtered_pass p [] = tt
filtered_pass p (c ∷ cs) = filtered_by p c cs (p c) refl (filtered_pass p cs)

not_present : (c : Seen) → is_nan c ≡ true → is_present c ≡ false
not_present c h = ap not h

not_nan : (c : Seen) → is_present c ≡ true → is_nan c ≡ false
not_nan c h = flipped (is_nan c) h
  where
    flipped : (b : Bool) → not b ≡ true → b ≡ false
    flipped true h = absurd (cc)
    flipped false h = refl

any_none : (p q : Seen → Bool) → ((c : Seen) → p c ≡ true → q c ≡ false) → (cs : List Seen) → all_pass p cs → list_any q cs ≡ false
unfolding all_pass
any_none p q h [] a = refl
any_none p q h (c ∷ cs) a = ap (λ b. b || list_any q cs) (h c a.0) ∙ any_none p q h cs a.1

-- ---- distinct cells

pub present_ascending : (cs : List Seen) → present (ascending (present cs)) ≡ ascending (present cs)
present_ascending cs = filter_all is_present (ascending (present cs)) (ascending_pass is_present (present cs) (filtered_pass is_present cs))

nan_ascending : (cs : List Seen) → filter is_nan (ascending (present cs)) ≡ []
nan_ascending cs = filter_none is_present is_nan not_nan (ascending (present cs)) (ascending_pass is_present (present cs) (filtered_pass is_present cs))

pub no_nan_ascending : (cs : List Seen) → list_any is_nan (ascending (present cs)) ≡ false
no_nan_ascending cs = any_none is_present is_nan not_nan (ascending (present cs)) (ascending_pass is_present (present cs) (filtered_pass is_present cs))

present_distinct : (cs : List Seen) → present (distinct cs) ≡ ascending (present cs)
present_distinct cs =
    filter-append is_present (ascending (present cs)) (filter is_nan cs)
    ∙ (ap (λ xs. xs ++ present (filter is_nan cs)) (present_ascending cs)
    ∙ (ap (λ xs. ascending (present cs) ++ xs) (filter_none is_nan is_present not_present (filter is_nan cs) (filtered_pass is_nan cs)) ∙ append-nil (ascending (present cs))))

nan_distinct : (cs : List Seen) → filter is_nan (distinct cs) ≡ filter is_nan cs
nan_distinct cs =
    filter-append is_nan (ascending (present cs)) (filter is_nan cs)
    ∙ (ap (λ xs. xs ++ filter is_nan (filter is_nan cs)) (nan_ascending cs) ∙ filter_all is_nan (filter is_nan cs) (filtered_pass is_nan cs))

pub distinct_of_both : (cs ds : List Seen) → distinct (cs ++ ds) ≡ distinct (distinct cs ++ distinct ds)
distinct_of_both cs ds =
    let a : present (distinct cs ++ distinct ds) ≡ ascending (present cs) ++ ascending (present ds) = filter-append is_present (distinct cs) (distinct ds) ∙ (ap (λ xs. xs ++ present (distinct ds)) (present_distinct cs) ∙ ap (λ xs. ascending (present cs) ++ xs) (present_distinct ds)) in
    let n : filter is_nan (distinct cs ++ distinct ds) ≡ filter is_nan cs ++ filter is_nan ds = filter-append is_nan (distinct cs) (distinct ds) ∙ (ap (λ xs. xs ++ filter is_nan (distinct ds)) (nan_distinct cs) ∙ ap (λ xs. filter is_nan cs ++ xs) (nan_distinct ds)) in
    let x : ascending (present (cs ++ ds)) ≡ ascending (present (distinct cs ++ distinct ds)) = ap ascending (filter-append is_present cs ds) ∙ (ascending_of_both (present cs) (present ds) ∙ ap ascending (sym a)) in
    ap (λ xs. xs ++ filter is_nan (cs ++ ds)) x ∙ ap (λ xs. ascending (present (distinct cs ++ distinct ds)) ++ xs) (filter-append is_nan cs ds ∙ sym n)

-- the distinct ones of the first cells stand for these
pub distinct_front : (cs ds : List Seen) → distinct (distinct cs ++ ds) ≡ distinct (cs ++ ds)
distinct_front cs ds =
    let a : present (distinct cs ++ ds) ≡ ascending (present cs) ++ present ds = filter-append is_present (distinct cs) ds ∙ ap (λ xs. xs ++ present ds) (present_distinct cs) in
    let n : filter is_nan (distinct cs ++ ds) ≡ filter is_nan (cs ++ ds) = filter-append is_nan (distinct cs) ds ∙ (ap (λ xs. xs ++ filter is_nan ds) (nan_distinct cs) ∙ sym (filter-append is_nan cs ds)) in
    let x : ascending (present (distinct cs ++ ds)) ≡ ascending (present (cs ++ ds)) = ap ascending a ∙ (ascending_front (present cs) (present ds) ∙ ap ascending (sym (filter-append is_present cs ds))) in
    ap (λ xs. xs ++ filter is_nan (distinct cs ++ ds)) x ∙ ap (λ xs. ascending (present (cs ++ ds)) ++ xs) n
