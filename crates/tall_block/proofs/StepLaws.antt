-- One node more of a block's work: left out, there already, made, or failed.
use Rattle.std.specs.Prelude.{◌≡◌, refl, ◌≢◌, ◌==◌, ℕ, nat_eq, ◌<◌, ◌≤◌, ◌⊎◌, if◌then◌else◌, Bool, true, false, Option, None, Some, List, [], ◌∷◌, ◌++◌, map, slice_get}
use Rattle.std.specs.HashMap.{HashMap, get}
use Rattle.std.proofs.Common.{ap, sym, subst, ◌∙◌, arith, inl, inr}
use Rattle.std.proofs.lemmas.Bool.Decides.{nat_tests}
use Rattle.tall_value.specs.Cells.{Seen}
use Rattle.tall_value.specs.declared.class.Class.{Class}
use Rattle.tall_dense.specs.Columns.{SeenColumn}
use Rattle.tall_semantics.specs.Faults.{Fault, precedes}
use Rattle.tall_semantics.specs.Operations.{Op, Made, stored, operation}
use Rattle.tall_semantics.specs.Outcomes.{Outcome, rows, scalar, fault, fault_of}
use Rattle.tall_semantics.specs.Talls.{Columns, Tall}
use Rattle.tall_semantics.specs.Deferred.{Vertex, IsAmong, fault_in, own_in}
use Rattle.tall_semantics.specs.Least.{AtMost, IsBelow, IsLeast}
use Rattle.tall_semantics.specs.Numbered.{AreNumbered, AreBothStored, never_fails, number_at}
use Rattle.tall_semantics.proofs.Basics.{inside}
use Rattle.tall_semantics.proofs.LevelLaws.{compare}
use Rattle.tall_semantics.proofs.OrderLaws.{never_itself, lesser_number, by_number}
use Rattle.tall_blocks.specs.Blocks.{IsVariable}
use Rattle.tall_blocks.specs.ValuesOver.{outcome_over, value_over}
use Rattle.tall_blocks.proofs.Choices.{true_or_false}
use Rattle.tall_blocks.proofs.LeastLaws.{no_group}
use Rattle.tall_blocks.proofs.SeenLaws.{all_none, can_fail, known_none, own_fault_number, own_made, own_split}
use Rattle.tall_block.specs.OfBlocks.{IsThere, column_at, made_at, vertex_column}
use Rattle.tall_block.specs.BlockWork.{AreBlockValues, IsBlock}
use Rattle.tall_block.specs.Shown.{Shows}

-- ---- lists of places

pub among_split : (xs : List ℕ) (i a : ℕ) → IsAmong (xs ++ i ∷ []) a → IsAmong xs a ⊎ (i ≡ a)
among_split [] i a h = elim h [ inl e ↦ inr e | inr z ↦ absurd z ]
among_split (x ∷ xs) i a h = elim h [ inl e ↦ inl (inl e) | inr r ↦ elim (among_split xs i a r) [ inl s ↦ inl (inr s) | inr e ↦ inr e ] ]

among_old : (xs : List ℕ) (i a : ℕ) → IsAmong xs a → IsAmong (xs ++ i ∷ []) a
among_old [] i a h = absurd h
among_old (x ∷ xs) i a h = elim h [ inl e ↦ inl e | inr r ↦ inr (among_old xs i a r) ]

among_new : (xs : List ℕ) (i : ℕ) → IsAmong (xs ++ i ∷ []) i
among_new [] i = inl refl
among_new (x ∷ xs) i = inr (among_new xs i)

pub number_is : (o : Option Vertex) (v : Vertex) → o ≡ Some v → number_at o ≡ v.at.number
number_is o v e = ap number_at e

-- ---- a column more

abbrev is_put : {S : Type 0} → HashMap ℕ SeenColumn S → HashMap ℕ SeenColumn S → (i : ℕ) → SeenColumn → Type 0
is_put old new i column = (j : ℕ) → get nat_eq new j ≡ (if j == i then Some column else get nat_eq old j)

test_same : (i j : ℕ) → (j == i) ≡ true → j ≡ i
test_same i j h = grind (arith, nat_tests)

test_itself : (i : ℕ) → (i == i) ≡ true
test_itself i = grind (arith, nat_tests)

module _ {S : Type 0} (vs : List Vertex) (table : List (List ℕ × SeenColumn)) (old new : HashMap ℕ SeenColumn S) (i : ℕ) (column : SeenColumn) (puts : (j : ℕ) → get nat_eq new j ≡ (if j == i then Some column else get nat_eq old j)) where
  by_test : (j : ℕ) (b : Bool) (c : SeenColumn) → (j == i) ≡ b → (if b then Some column else get nat_eq old j) ≡ Some c → (get nat_eq old j ≡ Some c) ⊎ ((j ≡ i) × (column ≡ c))
  by_test j true c t q = inr (test_same i j t, inside column c q)
  by_test j false c t q = inl q

  by_made : (m : Made) (j : ℕ) (c : SeenColumn) → made_at table new m j ≡ Some c → (made_at table old m j ≡ Some c) ⊎ ((j ≡ i) × (column ≡ c))
  by_made (stored s x k) j c q = inl q
  by_made (operation op) j c q = by_test j (j == i) c refl (sym (puts j) ∙ q)

  by_vertex : (o : Option Vertex) (j : ℕ) (c : SeenColumn) → vertex_column table new o j ≡ Some c → (vertex_column table old o j ≡ Some c) ⊎ ((j ≡ i) × (column ≡ c))
  by_vertex None j c q = absurd (cc)
  by_vertex (Some v) j c q = by_made v.made j c q

  -- a column was there, or is the one that was put
  pub was_there : (j : ℕ) (c : SeenColumn) → column_at vs table new j ≡ Some c → (column_at vs table old j ≡ Some c) ⊎ ((j ≡ i) × (column ≡ c))
  was_there j c q = by_vertex (slice_get vs j) j c q

  keeps_test : (j : ℕ) (b : Bool) (c : SeenColumn) → get nat_eq old j ≡ Some c → (d : SeenColumn) × ((if b then Some column else get nat_eq old j) ≡ Some d)
  keeps_test j true c q = (column, refl)
  keeps_test j false c q = (c, q)

  keeps_made : (m : Made) (j : ℕ) (c : SeenColumn) → made_at table old m j ≡ Some c → (d : SeenColumn) × (made_at table new m j ≡ Some d)
  keeps_made (stored s x k) j c q = (c, q)
  keeps_made (operation op) j c q = (let w = keeps_test j (j == i) c q in (w.0, puts j ∙ w.1))

  keeps_vertex : (o : Option Vertex) (j : ℕ) (c : SeenColumn) → vertex_column table old o j ≡ Some c → (d : SeenColumn) × (vertex_column table new o j ≡ Some d)
  keeps_vertex None j c q = absurd (cc)
  keeps_vertex (Some v) j c q = keeps_made v.made j c q

  pub stays_there : (j : ℕ) → IsThere vs table old j → IsThere vs table new j
  stays_there j there = keeps_vertex (slice_get vs j) j there.0 there.1

  pub is_there_now : (v : Vertex) (op : Op) → slice_get vs i ≡ Some v → v.made ≡ operation op → column_at vs table new i ≡ Some column
  is_there_now v op e q =
      ap (λ (o : Option Vertex). vertex_column table new o i) e ∙ (ap (λ (m : Made). made_at table new m i) q ∙ (puts i ∙ ap (λ (b : Bool). if b then Some column else get nat_eq old i) (test_itself i)))

-- ---- outcomes

pub shown_none : (x : Outcome) (cs : List Seen) → Shows x cs → fault_of x ≡ None
shown_none (rows rs) cs h = refl
shown_none (scalar c) cs h = absurd h
shown_none (fault f) cs h = absurd h

is_stored : (m n : Made) → AreBothStored m n → (s : ℕ) × (x : ℕ) × (k : Class) × (m ≡ stored s x k)
is_stored (stored s x k) n h = (s, x, k, refl)
is_stored (operation op) n h = absurd h

-- ---- a node more

module _ {vs : List Vertex} {table : List (List ℕ × SeenColumn)} {scalars carries : ℕ → Option Seen} {first : ℕ} {work : List ℕ} {columns : Columns} {so_far : ℕ → List Seen} {f : ℕ → Tall} {cut : ℕ → Bool} {h : ℕ → Outcome}
    (block : IsBlock vs table scalars carries first work columns so_far f cut h) (numbered : AreNumbered vs) where
  abbrev H : ℕ → Tall
  H = value_over f h

  -- a variable has no fault
  free_made : (i : ℕ) (v : Vertex) (m : Made) (s a : ℕ) → slice_get vs i ≡ Some v → cut i ≡ true → v.made ≡ m → IsVariable m s a → fault_of (columns s a) ≡ None
  free_made i v (stored t w k) s a e c q z =
      let u = block.variables i t w v k e c q in
      ap (λ n. fault_of (columns n a)) (sym z.0) ∙ (ap (λ n. fault_of (columns t n)) (sym z.1) ∙ ap fault_of u.2)
  free_made i v (operation op) s a e c q z = absurd z

  free : (i : ℕ) (v : Vertex) (s a : ℕ) → slice_get vs i ≡ Some v → cut i ≡ true → IsVariable v.made s a → fault_of (columns s a) ≡ None
  free i v s a e c z = free_made i v v.made s a e c refl z

  variable_none : (i : ℕ) (v : Vertex) (s x : ℕ) (k : Class) → slice_get vs i ≡ Some v → cut i ≡ true → v.made ≡ stored s x k → fault_of (h i) ≡ None
  variable_none i v s x k e c q =
      let u = block.variables i s x v k e c q in
      let is : h i ≡ columns s x = block.over.made i v e c ∙ ap (λ (m : Made). outcome_over columns (so_far i) v.at m (map H v.args)) q in
      ap fault_of is ∙ ap fault_of u.2

  pub cut_in : (i : ℕ) → IsAmong work i → cut i ≡ true
  cut_in i p = (block.cut_work.there i p).0

  -- an own fault
  record Own (i : ℕ) (x : Fault) : Type 0 where
    v : Vertex
    here : slice_get vs i ≡ Some v
    number : x.number ≡ v.at.number
    fails : never_fails v.made ≡ true → ⊥
    its : fault_of (h i) ≡ Some x

  own_at : (i : ℕ) (x : Fault) → IsAmong work i → own_in vs H i ≡ Some x → Own i x
  own_at i x p own =
      let w = own_split H (slice_get vs i) i x own in
      record {
        v = w.0;
        here = w.1;
        number = own_fault_number block.over block.can free i w.0 w.0.made x w.1 (cut_in i p) refl w.2 w.3;
        fails = can_fail block.over block.can i w.0 w.0.made x w.1 (cut_in i p) refl w.2 w.3;
        its = w.3;
      }

  no_variable : (i : ℕ) (x : Fault) (m : Made) → IsAmong work i → (o : Own i x) → AreBothStored o.v.made m → ⊥
  no_variable i x m p o s =
      let k = is_stored o.v.made m s in
      let z : fault_of (h i) ≡ None = variable_none i o.v k.0 k.1 k.2 o.here (cut_in i p) k.3 in
      let y : fault_of (h i) ≡ Some x = o.its in
      cc

  -- two own faults of one number are of one node
  apart : (i j : ℕ) (x y : Fault) → IsAmong work i → IsAmong work j → Own i x → Own j y → x.number ≡ y.number → i ≢ j → ⊥
  apart i j x y p q a b n differ = elim (numbered.shared i j a.v b.v differ a.here b.here (sym a.number ∙ (n ∙ b.number))) [
    | inl both ↦ no_variable i x b.v.made p a both
    | inr rest ↦ elim rest [
      | inl parts ↦ no_group f cut a.v.made b.v.made a.v.args (block.can i a.v a.here (cut_in i p)) parts.0
      | inr never ↦ elim never [ inl t ↦ a.fails t | inr t ↦ b.fails t ]
    ]
  ]

  one_node : (i j : ℕ) (x y : Fault) → IsAmong work i → IsAmong work j → Own i x → Own j y → x.number ≡ y.number → i ≡ j
  one_node i j x y p q a b n = elim (compare i j) [
    | inl less ↦ absurd (apart i j x y p q a b n (λ e. omega (arith, e, less)))
    | inr rest ↦ elim rest [ inl more ↦ absurd (apart i j x y p q a b n (λ e. omega (arith, e, more))) | inr same ↦ same ]
  ]

  module _ {S : Type 0} (done : List ℕ) (i : ℕ) (v : Vertex) (e : slice_get vs i ≡ Some v) (among : IsAmong work i) (within : (j : ℕ) → IsAmong done j → IsAmong work j)
      (made : HashMap ℕ SeenColumn S) (p : Option Fault) (going : AreBlockValues vs table made f cut h done p) where
    number_here : (y : Fault) → own_in vs H i ≡ Some y → y.number ≡ v.at.number
    number_here y own = (let o = own_at i y among own in o.number ∙ ap (λ (w : Vertex). w.at.number) (inside o.v v (sym o.here ∙ e)))

    widened : (x : Fault) → p ≡ Some x → (j : ℕ) × IsAmong (done ++ i ∷ []) j × (own_in vs H j ≡ Some x)
    widened x q = (let w = going.seen.one x q in (w.0, among_old done i w.0 w.1, w.2))

    no_fault : fault_of (h i) ≡ None → (y : Fault) → own_in vs H i ≡ Some y → ⊥
    no_fault z y own = (let t : fault_of (h i) ≡ Some y = (own_at i y among own).its in cc)

    not_lower : (c : Option Fault) (y : Fault) → p ≡ c → own_in vs H i ≡ Some y → (IsBelow c v.at.number → ⊥) → AtMost c y
    not_lower None y q own not_below = not_below tt
    not_lower (Some x) y q own not_below =
        let w = going.seen.one x q in
        elim (compare x.number y.number) [
          | inl less ↦ lesser_number x y less
          | inr rest ↦ elim rest [
            | inl greater ↦ (let m : y.number ≡ v.at.number = number_here y own in absurd (not_below (omega (arith, m, greater))))
            | inr same ↦
                let one : w.0 ≡ i = one_node w.0 i x y (within w.0 w.1) among (own_at w.0 x (within w.0 w.1) w.2) (own_at i y among own) same in
                let z : x ≡ y = inside x y (sym w.2 ∙ (ap (own_in vs H) one ∙ own)) in
                subst (λ u. precedes u x ≡ false) z (never_itself x)
          ]
        ]

    -- its number isn't below the least fault
    pub skipped : (IsBelow p v.at.number → ⊥) → AreBlockValues vs table made f cut h (done ++ i ∷ []) p
    skipped not_below = record {
      shown = going.shown;
      closed = going.closed;
      there = λ j m below. elim (among_split done i j m) [
        | inl before ↦ going.there j before below
        | inr new ↦ absurd (not_below (subst (IsBelow p) (ap (λ k. number_at (slice_get vs k)) (sym new) ∙ number_is (slice_get vs i) v e) below))
      ];
      seen = record {
        one = widened;
        least = λ j y m own. elim (among_split done i j m) [
          | inl before ↦ going.seen.least j y before own
          | inr new ↦ not_lower p y refl (ap (own_in vs H) new ∙ own) not_below
        ];
      };
    }

    least_stays : fault_of (h i) ≡ None → IsLeast (own_in vs H) (IsAmong (done ++ i ∷ [])) p
    least_stays none = record {
      one = widened;
      least = λ j y m own. elim (among_split done i j m) [
        | inl before ↦ going.seen.least j y before own
        | inr new ↦ absurd (no_fault none y (ap (own_in vs H) new ∙ own))
      ];
    }

    -- it is a variable
    pub stays : IsThere vs table made i → fault_of (h i) ≡ None → AreBlockValues vs table made f cut h (done ++ i ∷ []) p
    stays here none = record {
      shown = going.shown;
      closed = going.closed;
      there = λ j m below. elim (among_split done i j m) [
        | inl before ↦ going.there j before below
        | inr new ↦ subst (IsThere vs table made) new here
      ];
      seen = least_stays none;
    }

    -- its column is made
    pub one_more : (new : HashMap ℕ SeenColumn S) (column : SeenColumn) → ((j : ℕ) → get nat_eq new j ≡ (if j == i then Some column else get nat_eq made j)) → (op : Op) → v.made ≡ operation op
        → Shows (h i) column.cells → ((a : ℕ) → IsAmong v.args a → cut a ≡ true → IsThere vs table made a) → AreBlockValues vs table new f cut h (done ++ i ∷ []) p
    one_more new column puts op q shows operands = record {
      shown = λ j c is g. elim (was_there vs table made new i column puts j c g) [
        | inl before ↦ going.shown j c is before
        | inr now ↦ subst (λ k. Shows (h k) c.cells) (sym now.0) (subst (λ (d : SeenColumn). Shows (h i) d.cells) now.1 shows)
      ];
      closed = λ j a w c g d m is. stays_there vs table made new i column puts a (elim (was_there vs table made new i column puts j c g) [
        | inl before ↦ going.closed j a w c before d m is
        | inr now ↦ operands a (subst (λ (u : Vertex). IsAmong u.args a) (inside w v (sym d ∙ (ap (slice_get vs) now.0 ∙ e))) m) is
      ]);
      there = λ j m below. elim (among_split done i j m) [
        | inl before ↦ stays_there vs table made new i column puts j (going.there j before below)
        | inr now ↦ (column, ap (column_at vs table new) (sym now) ∙ is_there_now vs table made new i column puts v op e q)
      ];
      seen = least_stays (shown_none (h i) column.cells shows);
    }

    -- below the least fault the operands are there
    below_more : (c : Option Fault) (m k : ℕ) → IsBelow c k → m ≤ k → IsBelow c m
    below_more None m k l q = tt
    below_more (Some x) m k l q = omega (arith, l, q)

    pub operands_there : IsBelow p v.at.number → ((a : ℕ) → IsAmong v.args a → cut a ≡ true → IsAmong done a) → (a : ℕ) → IsAmong v.args a → cut a ≡ true → IsThere vs table made a
    operands_there below operands a m is =
        let d = operands a m is in
        let w = (block.cut_work.there a (within a d)).1 in
        let l : w.0.at.number ≤ v.at.number = numbered.lower i a v w.0 e m w.1 in
        going.there a d (subst (IsBelow p) (sym (number_is (slice_get vs a) w.0 w.1)) (below_more p w.0.at.number v.at.number below l))

    operand_none : ((a : ℕ) → IsAmong v.args a → cut a ≡ true → IsThere vs table made a) → (a : ℕ) → IsAmong v.args a → fault_in H a ≡ None
    operand_none operands a m = elim (true_or_false (cut a)) [
      | inl is ↦ (let t = operands a m is in shown_none (h a) t.0.cells (going.shown a t.0 is t.1))
      | inr is ↦ known_none block.over block.can i a v e (cut_in i among) m is
    ]

    before_all : (c : Option Fault) (x y : Fault) → IsBelow c v.at.number → x.number ≡ v.at.number → AtMost c y → precedes y x ≡ false
    before_all None x y below q m = absurd m
    before_all (Some z) x y below q m = (let l : z.number ≤ y.number = by_number z y m in absurd_or x y z l below q)
      where
        absurd_or : (x y z : Fault) → z.number ≤ y.number → v.at.number < z.number → x.number ≡ v.at.number → precedes y x ≡ false
        absurd_or x y z l below q = lesser_number x y (omega (arith, below, q, l))

    lower_before : (c : Option Fault) (x : Fault) (m : ℕ) → IsBelow c v.at.number → x.number ≡ v.at.number → m < x.number → IsBelow c m
    lower_before None x m l q k = tt
    lower_before (Some z) x m l q k = omega (arith, l, k, q)

    -- it fails
    pub failed : (x : Fault) → IsBelow p v.at.number → ((a : ℕ) → IsAmong v.args a → cut a ≡ true → IsThere vs table made a) → h i ≡ fault x → x.number ≡ v.at.number → AreBlockValues vs table made f cut h (done ++ i ∷ []) (Some x)
    failed x below operands y q = record {
      shown = going.shown;
      closed = going.closed;
      there = λ j m under. elim (among_split done i j m) [
        | inl before ↦ going.there j before (lower_before p x (number_at (slice_get vs j)) below q under)
        | inr new ↦ (let k : number_at (slice_get vs j) ≡ v.at.number = ap (λ k. number_at (slice_get vs k)) (sym new) ∙ number_is (slice_get vs i) v e in absurd (omega (arith, under, q, k)))
      ];
      seen = record {
        one = λ z r. (i, among_new done i, subst (λ u. own_in vs H i ≡ Some u) (inside x z r) (own_made H (slice_get vs i) v i x e (all_none (fault_in H) v.args (operand_none operands)) (ap fault_of y)));
        least = λ j z m own. elim (among_split done i j m) [
          | inl before ↦ before_all p x z below q (going.seen.least j z before own)
          | inr new ↦
              let o : fault_of (h i) ≡ Some z = (own_at i z among (ap (own_in vs H) new ∙ own)).its in
              let s : x ≡ z = inside x z (sym (ap fault_of y) ∙ o) in
              subst (λ k. precedes k x ≡ false) s (never_itself x)
        ];
      };
    }
