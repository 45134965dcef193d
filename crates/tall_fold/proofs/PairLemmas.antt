-- Row numbers beside cells, and the ends of lists.
use Rattle.std.specs.Prelude.{IfOk, MatchResult, Result, Ok, Err, Some, slice_get}
use Rattle.std.proofs.Common.{◌≡◌, ℕ, zero, suc, ◌+◌, ◌-◌, ◌<◌, ◌≤◌, ◌⊎◌, Bool, true, false, List, [], ◌∷◌, ◌++◌, length, take, drop, get_or, map, refl, ap, sym, ◌∙◌, arith, inl, inr, append_assoc, length-append}
use Rattle.std.proofs.lemmas.List.{append-nil, drop-append-le, length-drop, length-take, take-append-le, drop_all, take_all}
use Rattle.std.proofs.Math.Seq.{drop-append-add}
use Rattle.std.specs.List.{slice_range}
use Rattle.tall_value.specs.Cells.{Seen}
use Rattle.tall_dense.specs.Columns.{SeenColumn, rows_between, with_cell}
use Rattle.tall_value.specs.Ends.{first_rows, last_rows}
use Rattle.tall_fold.specs.FirstAndLast.{AreEven, AreKept, SeenEnds, column_of, ends_of, paired, rows_of, with_rows}
use Rattle.tall_fold.specs.declared.pairs.Pairs.{Pairs}
use Rattle.tall_value.specs.declared.class.Class.{Class}

-- ---- pairs

pub length-paired : (ns : List ℕ) (cs : List Seen) → length ns ≡ length cs → length (paired ns cs) ≡ length ns
length-paired [] cs h = refl
length-paired (n ∷ ns) [] h = absurd (omega (arith, h))
length-paired (n ∷ ns) (c ∷ cs) h = (let e = length-paired ns cs (omega (arith, h)) in omega (arith, e))

pub paired-append : (ns ms : List ℕ) (cs ds : List Seen) → length ns ≡ length cs → paired (ns ++ ms) (cs ++ ds) ≡ paired ns cs ++ paired ms ds
paired-append [] ms [] ds h = refl
paired-append [] ms (c ∷ cs) ds h = absurd (omega (arith, h))
paired-append (n ∷ ns) ms [] ds h = absurd (omega (arith, h))
paired-append (n ∷ ns) ms (c ∷ cs) ds h = ap (λ (l : List (ℕ × Seen)). (n, c) ∷ l) (paired-append ns ms cs ds (omega (arith, h)))

pub paired-drop : (j : ℕ) (ns : List ℕ) (cs : List Seen) → paired (drop j ns) (drop j cs) ≡ drop j (paired ns cs)
paired-drop zero ns cs = refl
paired-drop (suc j) [] cs = refl
paired-drop (suc j) (n ∷ ns) [] = nothing j ns where
  nothing : (i : ℕ) (ms : List ℕ) → paired (drop i ms) [] ≡ []
  nothing zero [] = refl
  nothing zero (m ∷ ms) = refl
  nothing (suc i) [] = refl
  nothing (suc i) (m ∷ ms) = nothing i ms
paired-drop (suc j) (n ∷ ns) (c ∷ cs) = paired-drop j ns cs

pub numbers-paired : (ns : List ℕ) (cs : List Seen) → length ns ≡ length cs → map (λ (r : ℕ × Seen). r.0) (paired ns cs) ≡ ns
numbers-paired [] cs h = refl
numbers-paired (n ∷ ns) [] h = absurd (omega (arith, h))
numbers-paired (n ∷ ns) (c ∷ cs) h = ap (λ (l : List ℕ). n ∷ l) (numbers-paired ns cs (omega (arith, h)))

pub cells-paired : (ns : List ℕ) (cs : List Seen) → length ns ≡ length cs → map (λ (r : ℕ × Seen). r.1) (paired ns cs) ≡ cs
cells-paired [] [] h = refl
cells-paired [] (c ∷ cs) h = absurd (omega (arith, h))
cells-paired (n ∷ ns) [] h = absurd (omega (arith, h))
cells-paired (n ∷ ns) (c ∷ cs) h = ap (λ (l : List Seen). c ∷ l) (cells-paired ns cs (omega (arith, h)))

pub pushed : (ns ms : List ℕ) (k l : SeenColumn) (n : ℕ) (c : Seen) → length ns ≡ length k.cells → ms ≡ ns ++ n ∷ [] → l ≡ with_cell k c
    → paired ms l.cells ≡ paired ns k.cells ++ (n, c) ∷ []
pushed ns ms k l n c h e f =
    ap (λ (x : List ℕ). paired x l.cells) e ∙ ap (λ (x : SeenColumn). paired (ns ++ n ∷ []) x.cells) f ∙ paired-append ns (n ∷ []) k.cells (c ∷ []) h

-- all rows from one on
to_the_end : (j : ℕ) (cs : List Seen) → j ≤ length cs → slice_range cs j (length cs) ≡ drop j cs
to_the_end j cs h = take_all (length cs - j) (drop j cs) (let e = length-drop j cs in omega (arith, e))

pub behind_is : (j : ℕ) (ns ms : List ℕ) (k l : SeenColumn) (n : ℕ) → j ≤ length ns → length ns ≡ length k.cells → ms ≡ drop j ns → n ≡ length k.cells → l ≡ rows_between k j n
    → (paired ms l.cells ≡ drop j (paired ns k.cells)) × (length ms ≡ length l.cells) × (l.class ≡ k.class)
behind_is j ns ms k l n within even e m f =
    let cells : l.cells ≡ drop j k.cells =
    ap (λ (x : SeenColumn). x.cells) f ∙ ap (slice_range k.cells j) m ∙ to_the_end j k.cells (omega (arith, within, even)) in (
      ap (λ (x : List ℕ). paired x l.cells) e ∙ ap (paired (drop j ns)) cells ∙ paired-drop j ns k.cells,
      ap length e ∙ length-drop j ns ∙ ap (λ (x : ℕ). x - j) even ∙ sym (ap length cells ∙ length-drop j k.cells),
      ap (λ (x : SeenColumn). x.class) f,
    )

-- ---- the first and the last rows

at_most_or_more : (m n : ℕ) → (m ≤ n) ⊎ (n < m)
at_most_or_more zero n = inl (omega arith)
at_most_or_more (suc m) zero = inr (omega arith)
at_most_or_more (suc m) (suc n) = elim (at_most_or_more m n) [ inl h ↦ inl (omega (arith, h)) | inr h ↦ inr (omega (arith, h)) ]

module _ {R : Type 0} where
  drop_drop : (i j : ℕ) (rs : List R) → drop i (drop j rs) ≡ drop (j + i) rs
  drop_drop i zero rs = ap (λ (k : ℕ). drop k rs) (let e : i ≡ 0 + i = omega arith in e)
  drop_drop zero (suc j) [] = ap (λ (k : ℕ). drop k []) (let e : suc j ≡ suc j + 0 = omega arith in e)
  drop_drop (suc i) (suc j) [] = ap (λ (k : ℕ). drop k []) (let e : suc (j + suc i) ≡ suc j + suc i = omega arith in e)
  drop_drop i (suc j) (r ∷ rs) = drop_drop i j rs ∙ ap (λ (k : ℕ). drop k (r ∷ rs)) (let e : suc (j + i) ≡ suc j + i = omega arith in e)

  -- rows in front of the last ones may go
  pub last_after : (k j : ℕ) (rs ss : List R) → j ≤ length rs - k → last_rows k (drop j rs ++ ss) ≡ last_rows k (rs ++ ss)
  last_after k j rs ss h =
      let few : j ≤ length rs = omega (arith, h) in
      let same : drop j (rs ++ ss) ≡ drop j rs ++ ss = drop-append-le j rs ss few in
      let short : length (drop j rs ++ ss) ≡ (length rs - j) + length ss = length-append (drop j rs) ss ∙ ap (λ (n : ℕ). n + length ss) (length-drop j rs) in
      let long : length (rs ++ ss) ≡ length rs + length ss = length-append rs ss in
      let place : j + (length (drop j rs ++ ss) - k) ≡ length (rs ++ ss) - k = omega (arith, h, short, long) in
      ap (drop (length (drop j rs ++ ss) - k)) (sym same) ∙ drop_drop (length (drop j rs ++ ss) - k) j (rs ++ ss) ∙ ap (λ (n : ℕ). drop n (rs ++ ss)) place

  last_front : (k : ℕ) (rs ss : List R) → last_rows k (last_rows k rs ++ ss) ≡ last_rows k (rs ++ ss)
  last_front k rs ss = last_after k (length rs - k) rs ss (omega arith)

  last_behind : (k : ℕ) (rs ss : List R) → last_rows k (rs ++ last_rows k ss) ≡ last_rows k (rs ++ ss)
  last_behind k rs ss = elim (at_most_or_more (length ss) k) [
    | inl h ↦ ap (λ (n : ℕ). last_rows k (rs ++ drop n ss)) (let e : length ss - k ≡ 0 = omega (arith, h) in e)
    | inr h ↦
        let kept : length (drop (length ss - k) ss) ≡ length ss - (length ss - k) = length-drop (length ss - k) ss in
        let short : length (rs ++ last_rows k ss) ≡ length rs + length (drop (length ss - k) ss) = length-append rs (last_rows k ss) in
        let long : length (rs ++ ss) ≡ length rs + length ss = length-append rs ss in
        let here : length (rs ++ last_rows k ss) - k ≡ length rs + 0 = omega (arith, h, kept, short) in
        let there : length (rs ++ ss) - k ≡ length rs + (length ss - k) = omega (arith, h, long) in
        ap (λ (n : ℕ). drop n (rs ++ last_rows k ss)) here ∙ drop-append-add rs (last_rows k ss) 0
        ∙ sym (ap (λ (n : ℕ). drop n (rs ++ ss)) there ∙ drop-append-add rs ss (length ss - k))
  ]

  first_front : (k : ℕ) (rs ss : List R) → first_rows k (first_rows k rs ++ ss) ≡ first_rows k (rs ++ ss)
  first_front zero rs ss = none_first (first_rows 0 rs ++ ss) ∙ sym (none_first (rs ++ ss)) where
    none_first : (ts : List R) → take 0 ts ≡ []
    none_first [] = refl
    none_first (t ∷ ts) = refl
  first_front (suc k) [] ss = refl
  first_front (suc k) (r ∷ rs) ss = ap (λ (l : List R). r ∷ l) (first_front k rs ss)

  first_less : (j k : ℕ) (rs : List R) → j ≤ k → first_rows j (first_rows k rs) ≡ first_rows j rs
  first_less zero k rs h = refl
  first_less (suc j) zero rs h = absurd (omega (arith, h))
  first_less (suc j) (suc k) [] h = refl
  first_less (suc j) (suc k) (r ∷ rs) h = ap (λ (l : List R). r ∷ l) (first_less j k rs (omega (arith, h)))

  first_behind : (j k : ℕ) (rs ss : List R) → j ≤ k → first_rows j (rs ++ first_rows k ss) ≡ first_rows j (rs ++ ss)
  first_behind j k [] ss h = first_less j k ss h
  first_behind zero k (r ∷ rs) ss h = refl
  first_behind (suc j) k (r ∷ rs) ss h = ap (λ (l : List R). r ∷ l) (first_behind j k rs ss (omega (arith, h)))

pub ends_front : (last : Bool) (k : ℕ) (rs ss : List (ℕ × Seen)) → ends_of last k (ends_of last k rs ++ ss) ≡ ends_of last k (rs ++ ss)
ends_front true k rs ss = last_front k rs ss
ends_front false k rs ss = first_front k rs ss

pub ends_behind : (last : Bool) (k : ℕ) (rs ss : List (ℕ × Seen)) → ends_of last k (rs ++ ends_of last k ss) ≡ ends_of last k (rs ++ ss)
ends_behind true k rs ss = last_behind k rs ss
ends_behind false k rs ss = first_behind k k rs ss (omega arith)

pub ends_join : (last : Bool) (k : ℕ) (rs ss : List (ℕ × Seen)) → ends_of last k (ends_of last k rs ++ ends_of last k ss) ≡ ends_of last k (rs ++ ss)
ends_join last k rs ss = ends_behind last k (ends_of last k rs) ss ∙ ends_front last k rs ss

-- ---- one row more

pub made_room : (k j : ℕ) (rs new : List (ℕ × Seen)) (n : ℕ) → new ≡ drop j rs → n ≡ length rs → j ≡ n - k → (ss : List (ℕ × Seen)) → last_rows k (new ++ ss) ≡ last_rows k (rs ++ ss)
made_room k j rs new n e f g ss = ap (λ (l : List (ℕ × Seen)). last_rows k (l ++ ss)) e ∙ last_after k j rs ss (omega (arith, f, g))

pub full_first : (k : ℕ) (ns : List ℕ) (cs : List Seen) (r : ℕ × Seen) → length ns ≡ length cs → k ≤ length ns → first_rows k (paired ns cs) ≡ first_rows k (paired ns cs ++ r ∷ [])
full_first k ns cs r even h = sym (take-append-le k (paired ns cs) (r ∷ []) (let e = length-paired ns cs even in omega (arith, e, h)))

pub kept_last : (k : ℕ) (new old : List (ℕ × Seen)) → ((ss : List (ℕ × Seen)) → last_rows k (new ++ ss) ≡ last_rows k (old ++ ss)) → last_rows k new ≡ last_rows k old
kept_last k new old h = ap (last_rows k) (sym (append-nil new)) ∙ h [] ∙ ap (last_rows k) (append-nil old)

pub last_pushed : {T E : Type 0} (r : Result T E) (k : ℕ) (old mid new : List (ℕ × Seen)) (x : ℕ × Seen) → ((ss : List (ℕ × Seen)) → last_rows k (mid ++ ss) ≡ last_rows k (old ++ ss))
    → MatchResult r (λ _. new ≡ mid ++ x ∷ []) (λ _. new ≡ mid) → MatchResult r (λ _. last_rows k new ≡ last_rows k (old ++ x ∷ [])) (λ _. last_rows k new ≡ last_rows k old)
last_pushed (Ok t) k old mid new x h e = ap (last_rows k) e ∙ h (x ∷ [])
last_pushed (Err t) k old mid new x h e = ap (last_rows k) e ∙ kept_last k mid old h

pub rest_is : (j : ℕ) (ns : List ℕ) → take (length ns - j) (drop j ns) ≡ drop j ns
rest_is j ns = take_all (length ns - j) (drop j ns) (let e = length-drop j ns in omega (arith, e))

-- ---- the rows of others

pub one_row_more : (last : Bool) (k i : ℕ) (old now next later : List (ℕ × Seen)) (x : ℕ × Seen) → take (i + 1) later ≡ take i later ++ x ∷ []
    → ends_of last k now ≡ ends_of last k (old ++ take i later) → ends_of last k next ≡ ends_of last k (now ++ x ∷ []) → ends_of last k next ≡ ends_of last k (old ++ take (i + 1) later)
one_row_more last k i old now next later x step was is =
    is
    ∙ sym (ends_front last k now (x ∷ []))
    ∙ ap (λ (l : List (ℕ × Seen)). ends_of last k (l ++ x ∷ [])) was
    ∙ ends_front last k (old ++ take i later) (x ∷ [])
    ∙ ap (ends_of last k) (append_assoc old (take i later) (x ∷ []) ∙ ap (λ (l : List (ℕ × Seen)). old ++ l) (sym step))

-- the next row, by its number and its cell
pub next_pair : (i : ℕ) (ns : List ℕ) (cs : List Seen) (n : ℕ) (c : Seen) → i < length ns → length ns ≡ length cs → n ≡ get_or ns i n → slice_get cs i ≡ Some c
    → take (i + 1) (paired ns cs) ≡ take i (paired ns cs) ++ (n, c) ∷ []
next_pair i [] cs n c h even e f = absurd (omega (arith, h))
next_pair i (m ∷ ns) [] n c h even e f = absurd (omega (arith, even))
next_pair zero (m ∷ ns) (d ∷ cs) n c h even e f = (let g : d ≡ c = cc in ap (λ (x : ℕ). (x, d) ∷ take 0 (paired ns cs)) (sym e) ∙ ap (λ (x : Seen). (n, x) ∷ take 0 (paired ns cs)) g)
next_pair (suc i) (m ∷ ns) (d ∷ cs) n c h even e f =
    ap (λ (x : ℕ). take x (paired (m ∷ ns) (d ∷ cs))) (let z : suc i + 1 ≡ suc (i + 1) = omega arith in z)
    ∙ ap (λ (l : List (ℕ × Seen)). (m, d) ∷ l) (next_pair i ns cs n c (omega (arith, h)) (omega (arith, even)) e f)

-- ---- the rows that count

pub trimmed_last : (k n : ℕ) (rs new : List (ℕ × Seen)) → n ≡ length rs → new ≡ drop (n - k) rs → new ≡ last_rows k rs
trimmed_last k n rs new e f = f ∙ ap (λ (m : ℕ). drop (m - k) rs) e

pub all_last : (k n : ℕ) (rs : List (ℕ × Seen)) → n ≡ length rs → n ≤ k → rs ≡ last_rows k rs
all_last k n rs e h = ap (λ (m : ℕ). drop m rs) (let z : 0 ≡ length rs - k = omega (arith, e, h) in z)

pub all_first : (k n : ℕ) (rs : List (ℕ × Seen)) → n ≡ length rs → n ≤ k → rs ≡ first_rows k rs
all_first k n rs e h = sym (take_all k rs (omega (arith, e, h)))

pub no_ends : (last : Bool) (k : ℕ) → ends_of last k [] ≡ []
no_ends true k = drop_all (0 - k) [] (omega arith)
no_ends false zero = refl
no_ends false (suc k) = refl

pub trimmed_if : {E : Type 0} (r : Result Pairs E) (last : Bool) (k n : ℕ) (rs : List (ℕ × Seen)) (class : Class) → last ≡ true → n ≡ length rs
    → IfOk r (λ p. (rows_of p ≡ drop (n - k) rs) × AreEven p × (p.cells.class ≡ class)) → IfOk r (λ p. (rows_of p ≡ ends_of last k rs) × AreEven p × (p.cells.class ≡ class))
trimmed_if (Ok p) true k n rs class t e h = (trimmed_last k n rs (rows_of p) e h.0, h.1, h.2)
trimmed_if (Ok p) false k n rs class t e h = absurd cc
trimmed_if (Err e) last k n rs class t l h = tt

pub first_kept : (last : Bool) (k : ℕ) (p : Pairs) → last ≡ false → AreKept last k p → rows_of p ≡ ends_of last k (rows_of p)
first_kept true k p t h = absurd cc
first_kept false k p t h = all_first k (length p.numbers.items) (rows_of p) (sym (length-paired p.numbers.items p.cells.cells h.even)) h.within

pub last_kept : (last : Bool) (k n : ℕ) (p : Pairs) → last ≡ true → AreEven p → n ≡ length p.numbers.items → n ≤ k → rows_of p ≡ ends_of last k (rows_of p)
last_kept true k n p t even e h = all_last k n (rows_of p) (e ∙ sym (length-paired p.numbers.items p.cells.cells even)) h
last_kept false k n p t even e h = absurd cc

pub none_kept : (last : Bool) (k : ℕ) (p : Pairs) → AreEven p → p.numbers.items ≡ [] → AreKept last k p
none_kept true k p even h = record { even = even; within = tt }
none_kept false k p even h = record { even = even; within = (let e : length p.numbers.items ≡ 0 = ap length h in omega (arith, e)) }

-- ---- what the ends are seen as

abbrev pub view : Bool → ℕ → Pairs → SeenEnds
view last most p = record { last = last; most = most; class = p.cells.class; rows = ends_of last most (rows_of p) }

pub same_ends : (last : Bool) (most : ℕ) (c d : Class) (rs ss : List (ℕ × Seen)) → c ≡ d → rs ≡ ss
    → ◌≡◌ {A = SeenEnds} (record { last = last; most = most; class = c; rows = rs }) (record { last = last; most = most; class = d; rows = ss })
same_ends last most c d rs ss e f =
    let make : Class → List (ℕ × Seen) → SeenEnds = λ x l. record { last = last; most = most; class = x; rows = l } in
    ap (λ (x : Class). make x rs) e ∙ ap (make d) f

with_more : (last : Bool) (most : ℕ) (p q : Pairs) (xs : List (ℕ × Seen)) → q.cells.class ≡ p.cells.class → ends_of last most (rows_of q) ≡ ends_of last most (rows_of p ++ xs)
    → view last most q ≡ with_rows (view last most p) xs
with_more last most p q xs e f = same_ends last most _ _ _ _ e (f ∙ sym (ends_front last most (rows_of p) xs))

pub added_ends : {T E : Type 0} (r : Result T E) (last : Bool) (most : ℕ) (p q : Pairs) (x : ℕ × Seen) (old : SeenEnds) → view last most p ≡ old → q.cells.class ≡ p.cells.class
    → MatchResult r (λ _. ends_of last most (rows_of q) ≡ ends_of last most (rows_of p ++ x ∷ [])) (λ _. ends_of last most (rows_of q) ≡ ends_of last most (rows_of p))
    → MatchResult r (λ _. view last most q ≡ with_rows old (x ∷ [])) (λ _. view last most q ≡ old)
added_ends (Ok t) last most p q x old v e f = with_more last most p q (x ∷ []) e f ∙ ap (λ (s : SeenEnds). with_rows s (x ∷ [])) v
added_ends (Err t) last most p q x old v e f = same_ends last most _ _ _ _ e f ∙ v

pub joined_ends : {T E : Type 0} (r : Result T E) (last : Bool) (most : ℕ) (p q s : Pairs) (old later : SeenEnds) → view last most p ≡ old → q.cells.class ≡ p.cells.class → rows_of s ≡ later.rows
    → IfOk r (λ _. ends_of last most (rows_of q) ≡ ends_of last most (rows_of p ++ rows_of s)) → IfOk r (λ _. view last most q ≡ with_rows old later.rows)
joined_ends (Ok t) last most p q s old later v e g f =
    with_more last most p q (rows_of s) e f ∙ ap (λ (x : SeenEnds). with_rows x (rows_of s)) v ∙ ap (with_rows old) g
joined_ends (Err t) last most p q s old later v e g f = tt

pub lists_joined : {T E : Type 0} (r : Result T E) (old new later : SeenEnds) (rs ss : List (ℕ × Seen)) → old.rows ≡ ends_of old.last old.most rs → later.rows ≡ ends_of old.last old.most ss
    → IfOk r (λ _. new ≡ with_rows old later.rows) → IfOk r (λ _. new.rows ≡ ends_of old.last old.most (rs ++ ss))
lists_joined (Ok t) old new later rs ss p q h =
    ap (λ (e : SeenEnds). e.rows) h ∙ ap (λ (l : List (ℕ × Seen)). ends_of old.last old.most (l ++ later.rows)) p
    ∙ ap (λ (l : List (ℕ × Seen)). ends_of old.last old.most (ends_of old.last old.most rs ++ l)) q ∙ ends_join old.last old.most rs ss
lists_joined (Err t) old new later rs ss p q h = tt

pub finish_is : (last : Bool) (most : ℕ) (p q : Pairs) (self : SeenEnds) → view last most q ≡ self → rows_of p ≡ ends_of last most (rows_of q) → AreEven p → p.cells.class ≡ q.cells.class
    → (p.cells ≡ column_of self.class self.rows) × (p.numbers.items ≡ map (λ (x : ℕ × Seen). x.0) self.rows)
finish_is last most p q self v e even f =
    let rows : self.rows ≡ rows_of p = sym (ap (λ (s : SeenEnds). s.rows) v) ∙ sym e in
    let class : p.cells.class ≡ self.class = f ∙ ap (λ (s : SeenEnds). s.class) v in
    let make : Class → List Seen → SeenColumn = λ c l. record { class = c; cells = l } in (
      ap (λ (c : Class). make c p.cells.cells) class ∙ ap (make self.class) (sym (ap (map (λ (x : ℕ × Seen). x.1)) rows ∙ cells-paired p.numbers.items p.cells.cells even)),
      sym (ap (map (λ (x : ℕ × Seen). x.0)) rows ∙ numbers-paired p.numbers.items p.cells.cells even),
    )

-- the same rows by the side of others
pub same_side : (l : Bool) (k : ℕ) (p q : Pairs) (later : SeenEnds) → view l k q ≡ later → rows_of p ≡ ends_of l k (rows_of q) → rows_of p ≡ later.rows
same_side l k p q later v e = e ∙ ap (λ (s : SeenEnds). s.rows) v

pub rows_more : (last : Bool) (k at : ℕ) (old now next later : Pairs) (n : ℕ) (c : Seen) → ends_of last k (rows_of now) ≡ ends_of last k (rows_of old ++ take at (rows_of later))
    → at < length later.numbers.items → AreEven later → n ≡ get_or later.numbers.items at n → slice_get later.cells.cells at ≡ Some c
    → ends_of last k (rows_of next) ≡ ends_of last k (rows_of now ++ (n, c) ∷ []) → ends_of last k (rows_of next) ≡ ends_of last k (rows_of old ++ take (at + 1) (rows_of later))
rows_more last k at old now next later n c was h even e f is =
    one_row_more last k at (rows_of old) (rows_of now) (rows_of next) (rows_of later) (n, c) (next_pair at later.numbers.items later.cells.cells n c h even e f) was is

pub all_rows : (last : Bool) (k at : ℕ) (old now later : Pairs) → length later.numbers.items ≤ at → AreEven later
    → ends_of last k (rows_of now) ≡ ends_of last k (rows_of old ++ take at (rows_of later)) → ends_of last k (rows_of now) ≡ ends_of last k (rows_of old ++ rows_of later)
all_rows last k at old now later h even was =
    was ∙ ap (λ (l : List (ℕ × Seen)). ends_of last k (rows_of old ++ l)) (take_all at (rows_of later) (let e = length-paired later.numbers.items later.cells.cells even in omega (arith, e, h)))
