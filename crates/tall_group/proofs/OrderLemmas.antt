-- Rising cells: two rising lists with the same cells are one, and the definitions' keys rise.
use Rattle.std.specs.Prelude.{◌≡◌, refl, ℤ, ℕ, ◌||◌, ◌&&◌, Bool, true, false, not, if◌then◌else◌, Option, None, Some, List, [], ◌∷◌, ◌++◌}
use Rattle.std.proofs.Common.{ap, sym, subst, ◌∙◌}
use Rattle.std.specs.List.{All, filter, list_any}
use Rattle.std.specs.declared.cmp.Ordering.{Ordering}
use Rattle.std.specs.declared.cmp.Ordering.TheVariants.{Less, Equal, Greater}
use Rattle.std.specs.Ordering.{is_eq, is_lt, ordering_reverse}
use Rattle.std.proofs.lemmas.List.Elements.{All-head, All-tail}
use Rattle.std.proofs.lemmas.List.Folds.{list_any-append}
use Rattle.tall_value.specs.declared.class.Kind.{Kind}
use Rattle.tall_value.specs.declared.class.Kind.TheVariants.{Integer, Logical, Double, Text}
use Rattle.tall_value.specs.Cells.{Seen, whole, logical, double, text, is_nan, seen_kind}
use Rattle.tall_value.specs.CellOrder.{cell_order}
use Rattle.tall_value.specs.Columns.{HasKind}
use Rattle.tall_value.specs.Distinct.{by_order, insert, ascending}
use Rattle.tall_value.specs.Groups.{group_keys, is_of_group}
use Rattle.tall_value.specs.Reductions.{present, is_present}
use Rattle.tall_value.proofs.OrderLaws.{cells_total, cells_exact}
use Rattle.tall_group.specs.Keys.{found, with_key, IsBelow, IsRising}

-- ---- the order of two cells against a third

reverse_less : (r : Ordering) → ordering_reverse r ≡ Less → r ≡ Greater
reverse_less Less h = absurd cc
reverse_less Equal h = absurd cc
reverse_less Greater h = refl

less_greater : (c d : Seen) → cell_order c d ≡ Less → cell_order d c ≡ Greater
less_greater c d h = cells_total.antisymm d c ∙ ap ordering_reverse h

pub greater_less : (c d : Seen) → cell_order c d ≡ Greater → cell_order d c ≡ Less
greater_less c d h = cells_total.antisymm d c ∙ ap ordering_reverse h

equal_turned : (c d : Seen) → cell_order c d ≡ Equal → cell_order d c ≡ Equal
equal_turned c d h = cells_total.antisymm d c ∙ ap ordering_reverse h

is_equal : (r : Ordering) → is_eq r ≡ true → r ≡ Equal
is_equal Less h = absurd cc
is_equal Equal h = refl
is_equal Greater h = absurd cc

pub group_turned : (c d : Seen) → is_of_group c d ≡ true → is_of_group d c ≡ true
group_turned c d h = ap is_eq (equal_turned c d (is_equal (cell_order c d) h))

-- cells of one group are so against every other cell
pub of_one_group : (c d e : Seen) → is_of_group c d ≡ true → is_of_group c e ≡ is_of_group d e
of_one_group c d e h = ap is_eq (cells_total.congr c d e (is_equal (cell_order c d) h))

same_group : (c d e : Seen) → cell_order d e ≡ Equal → is_of_group c d ≡ is_of_group c e
same_group c d e h = ap is_eq (cells_total.antisymm c d ∙ (ap ordering_reverse (cells_total.congr d e c h) ∙ sym (cells_total.antisymm c e)))

pub found_alike : (c d : Seen) (ks : List Seen) → is_of_group c d ≡ true → found c ks ≡ found d ks
found_alike c d [] h = refl
found_alike c d (k ∷ ks) h = ap (λ b. b || found c ks) (of_one_group c d k h) ∙ ap (λ b. is_of_group d k || b) (found_alike c d ks h)

-- ---- rising lists

pub below_after : (c d : Seen) (ds : List Seen) → cell_order c d ≡ Less → IsBelow d ds → IsBelow c ds
below_after c d [] h b = tt
below_after c d (e ∷ ds) h b = (cells_total.trans c d e h b.0, below_after c d ds h b.1)

not_below : (c d : Seen) (ds : List Seen) → is_of_group c d ≡ true → IsBelow d ds → found c ds ≡ false
not_below c d [] h b = refl
not_below c d (e ∷ ds) h b = ap (λ x. x || found c ds) (of_one_group c d e h ∙ ap is_eq b.0) ∙ not_below c d ds h b.1

pub itself : (c : Seen) → is_of_group c c ≡ true
itself c = by (cell_order c c) (cells_total.antisymm c c)
  where
    by : (r : Ordering) → r ≡ ordering_reverse r → is_eq r ≡ true
    by Less h = absurd cc
    by Equal h = refl
    by Greater h = absurd cc

found_first : (c : Seen) (cs : List Seen) → found c (c ∷ cs) ≡ true
found_first c cs = ap (λ b. b || found c cs) (itself c)

-- a cell before the first isn't there
not_there : (c d : Seen) (ds : List Seen) → cell_order c d ≡ Less → IsBelow d ds → found c (d ∷ ds) ≡ false
not_there c d ds h b = ap (λ x. x || found c ds) (ap is_eq h) ∙ not_below c c ds (itself c) (below_after c d ds h b)

both_false : (b : Bool) → b ≡ true → b ≡ false → ⊥
both_false true p q = cc
both_false false p q = cc

rest_by : (b x y : Bool) → (b ≡ true → x ≡ false) → (b ≡ true → y ≡ false) → (b || x) ≡ (b || y) → x ≡ y
rest_by true x y p q h = p refl ∙ sym (q refl)
rest_by false x y p q h = h

one_first : (k : Kind) (x y : Seen) (xs ys : List Seen) (r : Ordering) → cell_order x y ≡ r → seen_kind x ≡ k → seen_kind y ≡ k → IsRising (x ∷ xs) → IsRising (y ∷ ys)
    → ((c : Seen) → found c (x ∷ xs) ≡ found c (y ∷ ys)) → x ≡ y
one_first k x y xs ys Less e p q g h s = absurd (both_false (found x (y ∷ ys)) (sym (s x) ∙ found_first x xs) (not_there x y ys e h.0))
one_first k x y xs ys Equal e p q g h s = cells_exact x y (p ∙ sym q) e
one_first k x y xs ys Greater e p q g h s = absurd (both_false (found y (x ∷ xs)) (s y ∙ found_first y ys) (not_there y x xs (greater_less x y e) g.0))

-- rising lists with the same cells, of one kind, are equal
pub one_rising : (k : Kind) (xs ys : List Seen) → All (HasKind k) xs → All (HasKind k) ys → IsRising xs → IsRising ys → ((c : Seen) → found c xs ≡ found c ys) → xs ≡ ys
one_rising k [] [] p q g h s = refl
one_rising k [] (y ∷ ys) p q g h s = absurd (both_false (found y (y ∷ ys)) (found_first y ys) (sym (s y)))
one_rising k (x ∷ xs) [] p q g h s = absurd (both_false (found x (x ∷ xs)) (found_first x xs) (s x))
one_rising k (x ∷ xs) (y ∷ ys) p q g h s =
    let e : x ≡ y = one_first k x y xs ys (cell_order x y) refl (All-head (HasKind k) x xs p) (All-head (HasKind k) y ys q) g h s in
    let t : IsBelow x ys = subst (λ z. IsBelow z ys) (sym e) h.0 in
    let u : (c : Seen) → (is_of_group c x || found c xs) ≡ (is_of_group c x || found c ys) = λ c. s c ∙ ap (λ z. is_of_group c z || found c ys) (sym e) in
    ap (λ z. z ∷ xs) e ∙ ap (λ zs. y ∷ zs) (one_rising k xs ys (All-tail (HasKind k) x xs p) (All-tail (HasKind k) y ys q) g.1 h.1
    (λ c. rest_by (is_of_group c x) (found c xs) (found c ys) (λ b. not_below c x xs b g.0) (λ b. not_below c x ys b t) (u c)))

-- ---- cells put into rising ones

below_by : (b : Seen) (r : Ordering) (u v w : List Seen) → IsBelow b u → IsBelow b v → IsBelow b w → IsBelow b (by_order r u v w)
below_by b Less u v w p q s = p
below_by b Equal u v w p q s = q
below_by b Greater u v w p q s = s

below_inserted : (b c : Seen) (ds : List Seen) → cell_order b c ≡ Less → IsBelow b ds → IsBelow b (insert c ds)
below_inserted b c [] h p = (h, tt)
below_inserted b c (d ∷ ds) h p = below_by b (cell_order c d) (c ∷ d ∷ ds) (d ∷ ds) (d ∷ insert c ds) (h, p) p (p.0, below_inserted b c ds h p.1)

rising_by : (r : Ordering) (u v w : List Seen) → (r ≡ Less → IsRising u) → IsRising v → (r ≡ Greater → IsRising w) → IsRising (by_order r u v w)
rising_by Less u v w p q s = p refl
rising_by Equal u v w p q s = q
rising_by Greater u v w p q s = s refl

rising_inserted : (c : Seen) (ds : List Seen) → IsRising ds → IsRising (insert c ds)
rising_inserted c [] p = (tt, tt)
rising_inserted c (d ∷ ds) p =
    rising_by (cell_order c d) (c ∷ d ∷ ds) (d ∷ ds) (d ∷ insert c ds) (λ h. ((h, below_after c d ds h p.0), p)) p
    (λ h. (below_inserted d c ds (greater_less c d h) p.0, rising_inserted c ds p.1))

pub ascending_rises : (cs : List Seen) → IsRising (ascending cs)
ascending_rises [] = tt
ascending_rises (c ∷ cs) = rising_inserted c (ascending cs) (ascending_rises cs)

-- ---- what is found

or_turn : (a b c : Bool) → (a || (b || c)) ≡ (b || (a || c))
or_turn true true c = refl
or_turn true false c = refl
or_turn false true c = refl
or_turn false false c = refl

or_same : (a b : Bool) → a ≡ b → (c : Bool) → (b || c) ≡ (a || (b || c))
or_same true b h c = (let e : b ≡ true = sym h in ap (λ x. x || c) e)
or_same false b h c = refl

module _ (key : Seen) where
  found_by : (c d : Seen) (ds : List Seen) (r : Ordering) → cell_order c d ≡ r → found key (insert c ds) ≡ (is_of_group key c || found key ds)
      → found key (by_order r (c ∷ d ∷ ds) (d ∷ ds) (d ∷ insert c ds)) ≡ (is_of_group key c || (is_of_group key d || found key ds))
  found_by c d ds Less p h = refl
  found_by c d ds Equal p h = or_same (is_of_group key c) (is_of_group key d) (same_group key c d p) (found key ds)
  found_by c d ds Greater p h = ap (λ b. is_of_group key d || b) h ∙ or_turn (is_of_group key d) (is_of_group key c) (found key ds)

  found_inserted : (c : Seen) (ds : List Seen) → found key (insert c ds) ≡ (is_of_group key c || found key ds)
  found_inserted c [] = refl
  found_inserted c (d ∷ ds) = found_by c d ds (cell_order c d) refl (found_inserted c ds)

  pub found_ascending : (cs : List Seen) → found key (ascending cs) ≡ found key cs
  found_ascending [] = refl
  found_ascending (c ∷ cs) = found_inserted c (ascending cs) ∙ ap (λ b. is_of_group key c || b) (found_ascending cs)

  or_nothing : (a : Bool) → (a || false) ≡ a
  or_nothing true = refl
  or_nothing false = refl

  found_nan : (b : Bool) → found key (if b then double None ∷ [] else []) ≡ (b && is_of_group key (double None))
  found_nan true = or_nothing (is_of_group key (double None))
  found_nan false = refl

  or_assoc : (a b c : Bool) → (a || (b || c)) ≡ ((a || b) || c)
  or_assoc true b c = refl
  or_assoc false b c = refl

  more_nan : (q p n : Bool) → (q || (p || (n && q))) ≡ (p || q)
  more_nan true true n = refl
  more_nan true false n = refl
  more_nan false true n = refl
  more_nan false false true = refl
  more_nan false false false = refl

  found_parts : (ks : List Seen) → found key ks ≡ (found key (present ks) || (list_any is_nan ks && is_of_group key (double None)))
  found_parts [] = refl
  found_parts (double None ∷ ks) =
      ap (λ b. is_of_group key (double None) || b) (found_parts ks) ∙ more_nan (is_of_group key (double None)) (found key (present ks)) (list_any is_nan ks)
  found_parts (double (Some n) ∷ ks) =
      ap (λ b. is_of_group key (double (Some n)) || b) (found_parts ks) ∙ or_assoc (is_of_group key (double (Some n))) (found key (present ks)) (list_any is_nan ks && is_of_group key (double None))
  found_parts (whole k n ∷ ks) =
      ap (λ b. is_of_group key (whole k n) || b) (found_parts ks) ∙ or_assoc (is_of_group key (whole k n)) (found key (present ks)) (list_any is_nan ks && is_of_group key (double None))
  found_parts (logical c ∷ ks) =
      ap (λ b. is_of_group key (logical c) || b) (found_parts ks) ∙ or_assoc (is_of_group key (logical c)) (found key (present ks)) (list_any is_nan ks && is_of_group key (double None))
  found_parts (text t ∷ ks) =
      ap (λ b. is_of_group key (text t) || b) (found_parts ks) ∙ or_assoc (is_of_group key (text t)) (found key (present ks)) (list_any is_nan ks && is_of_group key (double None))

  pub found_keys : (ks : List Seen) → found key (group_keys ks) ≡ found key ks
  found_keys ks =
      list_any-append (is_of_group key) (ascending (present ks)) (if list_any is_nan ks then double None ∷ [] else [])
      ∙ (ap (λ b. b || found key (if list_any is_nan ks then double None ∷ [] else [])) (found_ascending (present ks))
      ∙ (ap (λ b. found key (present ks) || b) (found_nan (list_any is_nan ks)) ∙ sym (found_parts ks)))

-- ---- the groups' keys rise

-- all come before NaN
BeforeNan : List Seen → Type 0
BeforeNan [] = Unit {0}
BeforeNan (c ∷ cs) = (cell_order c (double None) ≡ Less) × BeforeNan cs

before_by : (r : Ordering) (u v w : List Seen) → BeforeNan u → BeforeNan v → BeforeNan w → BeforeNan (by_order r u v w)
before_by Less u v w p q s = p
before_by Equal u v w p q s = q
before_by Greater u v w p q s = s

before_inserted : (c : Seen) (ds : List Seen) → cell_order c (double None) ≡ Less → BeforeNan ds → BeforeNan (insert c ds)
unfolding BeforeNan
before_inserted c [] h p = (h, tt)
before_inserted c (d ∷ ds) h p = before_by (cell_order c d) (c ∷ d ∷ ds) (d ∷ ds) (d ∷ insert c ds) (h, p) p (p.0, before_inserted c ds h p.1)

before_ascending : (cs : List Seen) → BeforeNan cs → BeforeNan (ascending cs)
unfolding BeforeNan
before_ascending [] p = tt
before_ascending (c ∷ cs) p = before_inserted c (ascending cs) p.0 (before_ascending cs p.1)

below_nan : (c : Seen) (cs : List Seen) → cell_order c (double None) ≡ Less → IsBelow c cs → IsBelow c (cs ++ double None ∷ [])
below_nan c [] h b = (h, tt)
below_nan c (d ∷ cs) h b = (b.0, below_nan c cs h b.1)

rising_nan : (cs : List Seen) → BeforeNan cs → IsRising cs → IsRising (cs ++ double None ∷ [])
unfolding BeforeNan
rising_nan [] p h = (tt, tt)
rising_nan (c ∷ cs) p h = (below_nan c cs p.0 h.0, rising_nan cs p.1 h.1)

present_before : (cs : List Seen) → All (HasKind Double) cs → BeforeNan (present cs)
unfolding BeforeNan
present_before [] a = tt
present_before (double None ∷ cs) a = present_before cs (All-tail (HasKind Double) (double None) cs a)
present_before (double (Some n) ∷ cs) a = (refl, present_before cs (All-tail (HasKind Double) (double (Some n)) cs a))
present_before (c ∷ cs) a = absurd (let e : seen_kind c ≡ Double = All-head (HasKind Double) c cs a in cc)

no_nan : (k : Kind) → (k ≡ Double → ⊥) → (cs : List Seen) → All (HasKind k) cs → list_any is_nan cs ≡ false
no_nan k h [] a = refl
no_nan k h (double None ∷ cs) a = absurd (h (sym (All-head (HasKind k) (double None) cs a)))
no_nan k h (double (Some n) ∷ cs) a = no_nan k h cs (All-tail (HasKind k) (double (Some n)) cs a)
no_nan k h (whole i n ∷ cs) a = no_nan k h cs (All-tail (HasKind k) (whole i n) cs a)
no_nan k h (logical b ∷ cs) a = no_nan k h cs (All-tail (HasKind k) (logical b) cs a)
no_nan k h (text t ∷ cs) a = no_nan k h cs (All-tail (HasKind k) (text t) cs a)

append_nothing : (cs : List Seen) → cs ++ [] ≡ cs
append_nothing [] = refl
append_nothing (c ∷ cs) = ap (λ x. c ∷ x) (append_nothing cs)

rises_by : (b : Bool) (cs : List Seen) → (b ≡ true → BeforeNan cs) → IsRising cs → IsRising (cs ++ (if b then double None ∷ [] else []))
rises_by true cs p h = rising_nan cs (p refl) h
rises_by false cs p h = subst IsRising (sym (append_nothing cs)) h

nan_is_double : (k : Kind) (cs : List Seen) → All (HasKind k) cs → list_any is_nan cs ≡ true → BeforeNan (present cs)
nan_is_double Double cs a h = present_before cs a
nan_is_double (Integer i) cs a h = absurd (both_false (list_any is_nan cs) h (no_nan (Integer i) (λ e. cc) cs a))
nan_is_double Logical cs a h = absurd (both_false (list_any is_nan cs) h (no_nan Logical (λ e. cc) cs a))
nan_is_double Text cs a h = absurd (both_false (list_any is_nan cs) h (no_nan Text (λ e. cc) cs a))

pub keys_rise : (k : Kind) (ks : List Seen) → All (HasKind k) ks → IsRising (group_keys ks)
keys_rise k ks a = rises_by (list_any is_nan ks) (ascending (present ks)) (λ h. before_ascending (present ks) (nan_is_double k ks a h)) (ascending_rises (present ks))
