-- The parts of a block's rows.
use Rattle.std.specs.Prelude.{IfOk, Result, Ok, Err, Some, slice_get}
use Rattle.std.proofs.Common.{◌≡◌, ℕ, zero, suc, ◌+◌, ◌-◌, ◌<◌, ◌≤◌, Bool, true, false, List, [], ◌∷◌, ◌++◌, length, take, drop, get_or, refl, ap, sym, subst, ◌∙◌, arith}
use Rattle.std.proofs.lemmas.List.{append-nil, length-drop, length-map, take_all}
use Rattle.std.specs.Prelude.{min}
use Rattle.std.specs.List.{slice_range}
use Rattle.tall_value.specs.declared.class.Class.{Class}
use Rattle.tall_value.specs.declared.functions.Method.{Method}
use Rattle.tall_value.specs.declared.functions.Reduction.{Reduction}
use Rattle.tall_value.specs.Cells.{Seen}
use Rattle.tall_value.specs.Columns.{cells, numbered}
use Rattle.tall_value.specs.Ends.{last_rows}
use Rattle.tall_fold.specs.FirstAndLast.{SeenEnds, ends_of, paired, with_rows}
use Rattle.tall_fold.proofs.PairLemmas.{ends_front, no_ends, same_ends}
use Rattle.tall_blocks.specs.Carries.{Rows}
use Rattle.tall_part.proofs.FinishLaws.{cells_numbered}
use Rattle.tall_part.specs.declared.operation.EndOperation.{EndOperation}
use Rattle.tall_part.specs.declared.operation.EndOperation.TheVariants as end
use Rattle.tall_part.specs.declared.part.EndPart.{EndPart}
use Rattle.tall_part.specs.declared.part.EndPart.TheVariants as part
use Rattle.tall_part.specs.Parts.{AreEndsOf, HasNumbers, IsDistinctOf, IsGroupsOf, IsPart, IsPartOf, IsReductionOf, numbers}

-- ---- rows as they are added

got_behind : (from at : ℕ) (cs : List Seen) → slice_get (drop from cs) at ≡ slice_get cs (from + at)
got_behind zero at cs = ap (slice_get cs) (let e : at ≡ 0 + at = omega arith in e)
got_behind (suc from) at [] = refl
got_behind (suc from) at (c ∷ cs) = got_behind from at cs ∙ ap (slice_get (c ∷ cs)) (let e : suc (from + at) ≡ suc from + at = omega arith in e)

next_row : (at : ℕ) (ns : List ℕ) (cs : List Seen) (n : ℕ) (c : Seen) → at < length ns → n ≡ get_or ns at 0 → slice_get cs at ≡ Some c → take (at + 1) (paired ns cs) ≡ take at (paired ns cs) ++ (n, c) ∷ []
next_row at [] cs n c h e f = absurd (omega (arith, h))
next_row zero (m ∷ ns) [] n c h e f = absurd cc
next_row (suc at) (m ∷ ns) [] n c h e f = absurd cc
next_row zero (m ∷ ns) (d ∷ cs) n c h e f = (let g : d ≡ c = cc in ap (λ (x : ℕ). (x, d) ∷ take 0 (paired ns cs)) (sym e) ∙ ap (λ (x : Seen). (n, x) ∷ take 0 (paired ns cs)) g)
next_row (suc at) (m ∷ ns) (d ∷ cs) n c h e f =
    ap (λ (x : ℕ). take x (paired (m ∷ ns) (d ∷ cs))) (let z : suc at + 1 ≡ suc (at + 1) = omega arith in z)
    ∙ ap (λ (l : Rows). (m, d) ∷ l) (next_row at ns cs n c (omega (arith, h)) e f)

abbrev ends_at : Bool → ℕ → Class → Rows → SeenEnds
ends_at last most a rs = record { last = last; most = most; class = a; rows = ends_of last most rs }

none_taken : (rs : Rows) → take 0 rs ≡ []
none_taken [] = refl
none_taken (r ∷ rs) = refl

pub no_rows : (last : Bool) (most : ℕ) (a : Class) (rs : Rows) (e : SeenEnds) → e ≡ record { last = last; most = most; class = a; rows = [] } → e ≡ ends_at last most a (take 0 rs)
no_rows last most a rs e h = h ∙ same_ends last most a a [] _ refl (sym (ap (ends_of last most) (none_taken rs) ∙ no_ends last most))

pub one_more : (last : Bool) (most : ℕ) (a : Class) (at from n : ℕ) (ns : List ℕ) (cs : List Seen) (c : Seen) (e f : SeenEnds) → e ≡ ends_at last most a (take at (paired ns (drop from cs))) → at < length ns → n ≡ get_or ns at 0
    → slice_get cs (from + at) ≡ Some c → f ≡ with_rows e ((n, c) ∷ []) → f ≡ ends_at last most a (take (at + 1) (paired ns (drop from cs)))
one_more last most a at from n ns cs c e f was h i got is =
    let rs : Rows = paired ns (drop from cs) in
    is ∙ ap (λ (x : SeenEnds). with_rows x ((n, c) ∷ [])) was
    ∙ same_ends last most a a _ _ refl (ends_front last most (take at rs) ((n, c) ∷ []) ∙ ap (ends_of last most) (sym (next_row at ns (drop from cs) n c h i (got_behind from at cs ∙ got))))

short_rows : (ns : List ℕ) (cs : List Seen) → (length (paired ns cs) ≤ length ns) × (length (paired ns cs) ≤ length cs)
short_rows [] cs = (omega arith, omega arith)
short_rows (n ∷ ns) [] = (omega arith, omega arith)
short_rows (n ∷ ns) (c ∷ cs) = (let e = short_rows ns cs in let f = e.0 in let g = e.1 in (omega (arith, f), omega (arith, g)))

pub all_added : (last : Bool) (most : ℕ) (a : Class) (at from count : ℕ) (ns : List ℕ) (cs : List Seen) (e : SeenEnds) → e ≡ ends_at last most a (take at (paired ns (drop from cs)))
    → count ≤ at → count ≡ min (length ns) (length cs - from) → e ≡ ends_at last most a (paired ns (drop from cs))
all_added last most a at from count ns cs e was h is =
    let s = short_rows ns (drop from cs) in
    let f = s.0 in
    let g = s.1 in
    let d = length-drop from cs in
    was ∙ same_ends last most a a _ _ refl (ap (ends_of last most) (take_all at (paired ns (drop from cs)) (omega (arith, h, is, f, g, d))))

-- ---- rows with given cells

long_numbered : (n : ℕ) (cs : List Seen) → length (numbered n cs) ≤ length cs
long_numbered n cs =
    let e = length-map (numbered n cs) (λ (r : ℕ × Seen). r.1) in
    let f = ap length (cells_numbered n cs) in
    omega (arith, e, f)

some_of : (op : EndOperation) (a b : Class) (cs ds : List Seen) (p : EndPart) → ((rs ss : Rows) → cells rs ≡ cs → cells ss ≡ ds → IsPartOf op a b rs ss p) → IsPart op a b (length cs) p
some_of op a b cs ds p h = (numbered 0 cs, numbered 0 ds, h (numbered 0 cs) (numbered 0 ds) (cells_numbered 0 cs) (cells_numbered 0 ds), long_numbered 0 cs)

pub reduction_some : (op : EndOperation) (r : Reduction) (a b : Class) (cs : List Seen) (p : EndPart) → op ≡ end.Reduce r → IsReductionOf r a cs p → IsPart op a b (length cs) p
reduction_some op r a b cs p e h =
    subst (λ (o : EndOperation). IsPart o a b (length cs) p) (sym e)
    (some_of (end.Reduce r) a b cs [] p (λ rs ss x y. subst (λ (l : List Seen). IsReductionOf r a l p) (sym x) h))

pub distinct_some : {E : Type 0} (op : EndOperation) (a b : Class) (cs : List Seen) (r : Result EndPart E) → op ≡ end.Distinct → IfOk r (λ p. IsDistinctOf a cs p) → IfOk r (λ p. IsPart op a b (length cs) p)
distinct_some op a b cs (Err x) e h = tt
distinct_some op a b cs (Ok p) e h =
    subst (λ (o : EndOperation). IsPart o a b (length cs) p) (sym e)
    (some_of end.Distinct a b cs [] p (λ rs ss x y. subst (λ (l : List Seen). IsDistinctOf a l p) (sym x) h))

pub group_some : {E : Type 0} (op : EndOperation) (m : Method) (a b : Class) (cs ds : List Seen) (r : Result EndPart E) → op ≡ end.Group m → IfOk r (λ p. IsGroupsOf m a b cs ds p) → IfOk r (λ p. IsPart op a b (length cs) p)
group_some op m a b cs ds (Err x) e h = tt
group_some op m a b cs ds (Ok p) e h =
    subst (λ (o : EndOperation). IsPart o a b (length cs) p) (sym e)
    (some_of (end.Group m) a b cs ds p (λ rs ss x y. subst (λ (l : List Seen). IsGroupsOf m a b (cells rs) l p) (sym y) (subst (λ (l : List Seen). IsGroupsOf m a b l ds p) (sym x) h)))

-- ---- the first and the last rows

pub same_rows : (last : Bool) (most : ℕ) (a : Class) (rs ss : Rows) (p : EndPart) → ends_of last most rs ≡ ends_of last most ss → AreEndsOf last most a rs p → AreEndsOf last most a ss p
same_rows last most a rs ss (part.Rows e) f h = h ∙ same_ends last most a a _ _ refl f
same_rows last most a rs ss (part.Summary s) f h = absurd h
same_rows last most a rs ss (part.Distinct u) f h = absurd h
same_rows last most a rs ss (part.Groups g) f h = absurd h

few_rows : (from : ℕ) (ns : List ℕ) (cs : List Seen) → length (paired ns (drop from cs)) ≤ length cs
few_rows from ns cs =
    let s = short_rows ns (drop from cs) in
    let f = s.1 in
    let d = length-drop from cs in
    omega (arith, f, d)

pub head_some : {E : Type 0} (op : EndOperation) (k from : ℕ) (a b : Class) (ns : List ℕ) (cs : List Seen) (r : Result EndPart E) → op ≡ end.Head k
    → IfOk r (λ p. AreEndsOf false k a (paired ns (drop from cs)) p) → IfOk r (λ p. IsPart op a b (length cs) p)
head_some op k from a b ns cs (Err x) e h = tt
head_some op k from a b ns cs (Ok p) e h = subst (λ (o : EndOperation). IsPart o a b (length cs) p) (sym e) (paired ns (drop from cs), [], h, few_rows from ns cs)

pub tail_some : {E : Type 0} (op : EndOperation) (k from : ℕ) (a b : Class) (ns : List ℕ) (cs : List Seen) (r : Result EndPart E) → op ≡ end.Tail k
    → IfOk r (λ p. AreEndsOf true k a (paired ns (drop from cs)) p) → IfOk r (λ p. IsPart op a b (length cs) p)
tail_some op k from a b ns cs (Err x) e h = tt
tail_some op k from a b ns cs (Ok p) e h = subst (λ (o : EndOperation). IsPart o a b (length cs) p) (sym e) (paired ns (drop from cs), [], h, few_rows from ns cs)

front_paired : (m : ℕ) (rs : Rows) → paired (numbers (take m rs)) (cells rs) ≡ take m rs
front_paired zero [] = refl
front_paired zero (r ∷ rs) = refl
front_paired (suc m) [] = refl
front_paired (suc m) (r ∷ rs) = ap (λ (l : Rows). r ∷ l) (front_paired m rs)

cells_behind : (j : ℕ) (rs : Rows) → drop j (cells rs) ≡ cells (drop j rs)
cells_behind zero rs = refl
cells_behind (suc j) [] = refl
cells_behind (suc j) (r ∷ rs) = cells_behind j rs

take_twice : (k m : ℕ) (rs : Rows) → m ≡ min k (length rs) → take k (take m rs) ≡ take k rs
take_twice zero m rs h = none_taken (take m rs) ∙ sym (none_taken rs)
take_twice (suc k) zero [] h = refl
take_twice (suc k) (suc m) [] h = refl
take_twice (suc k) zero (r ∷ rs) h = absurd (omega (arith, h))
take_twice (suc k) (suc m) (r ∷ rs) h = ap (λ (l : Rows). r ∷ l) (take_twice k m rs (omega (arith, h)))

head_same : (k : ℕ) (ns : List ℕ) (cs : List Seen) (rs : Rows) → cells rs ≡ cs → ns ≡ numbers (slice_range rs 0 (min k (length rs))) → take k (paired ns cs) ≡ take k rs
head_same k ns cs rs x y =
    let m : ℕ = min k (length rs) in
    let all : m - 0 ≡ m = omega arith in
    ap (take k) (ap (λ (l : List ℕ). paired l cs) (y ∙ ap (λ (j : ℕ). numbers (take j rs)) all) ∙ ap (paired (numbers (take m rs))) (sym x) ∙ front_paired m rs)
    ∙ take_twice k m rs refl

pub head_rows : {E : Type 0} (op : EndOperation) (k : ℕ) (a b : Class) (ns : List ℕ) (cs : List Seen) (r : Result EndPart E) → op ≡ end.Head k
    → IfOk r (λ p. AreEndsOf false k a (paired ns (drop 0 cs)) p) → (rs ss : Rows) → cells rs ≡ cs → HasNumbers op rs ns → IfOk r (λ p. IsPartOf op a b rs ss p)
head_rows op k a b ns cs (Err x) e h rs ss y z = tt
head_rows op k a b ns cs (Ok p) e h rs ss y z =
    subst (λ (o : EndOperation). IsPartOf o a b rs ss p) (sym e)
    (same_rows false k a (paired ns cs) rs p (head_same k ns cs rs y (subst (λ (o : EndOperation). HasNumbers o rs ns) e z)) h)

tail_same : (k from : ℕ) (ns : List ℕ) (cs : List Seen) (rs : Rows) → cells rs ≡ cs → from ≡ length cs - k → ns ≡ numbers (slice_range rs (length rs - k) (length rs)) → paired ns (drop from cs) ≡ last_rows k rs
tail_same k from ns cs rs x f y =
    let long : length cs ≡ length rs = sym (ap length x) ∙ length-map rs (λ (r : ℕ × Seen). r.1) in
    let j : ℕ = length rs - k in
    let at : from ≡ j = (let g = long in omega (arith, f, g)) in
    let rest : take (length rs - j) (drop j rs) ≡ drop j rs = take_all (length rs - j) (drop j rs) (let d = length-drop j rs in omega (arith, d)) in
    let ms : ns ≡ numbers (take (length (drop j rs)) (drop j rs)) = y ∙ ap numbers (rest ∙ sym (take_all (length (drop j rs)) (drop j rs) (omega arith))) in
    ap (λ (i : ℕ). paired ns (drop i cs)) at
    ∙ ap (λ (l : List Seen). paired ns (drop j l)) (sym x)
    ∙ ap (paired ns) (cells_behind j rs)
    ∙ ap (λ (l : List ℕ). paired l (cells (drop j rs))) ms
    ∙ front_paired (length (drop j rs)) (drop j rs)
    ∙ take_all (length (drop j rs)) (drop j rs) (omega arith)

pub tail_rows : {E : Type 0} (op : EndOperation) (k from : ℕ) (a b : Class) (ns : List ℕ) (cs : List Seen) (r : Result EndPart E) → op ≡ end.Tail k → from ≡ length cs - k
    → IfOk r (λ p. AreEndsOf true k a (paired ns (drop from cs)) p) → (rs ss : Rows) → cells rs ≡ cs → HasNumbers op rs ns → IfOk r (λ p. IsPartOf op a b rs ss p)
tail_rows op k from a b ns cs (Err x) e f h rs ss y z = tt
tail_rows op k from a b ns cs (Ok p) e f h rs ss y z =
    let same : paired ns (drop from cs) ≡ last_rows k rs = tail_same k from ns cs rs y f (subst (λ (o : EndOperation). HasNumbers o rs ns) e z) in
    subst (λ (o : EndOperation). IsPartOf o a b rs ss p) (sym e)
    (same_rows true k a (paired ns (drop from cs)) rs p (ap (last_rows k) (same ∙ sym (append-nil (last_rows k rs))) ∙ ends_front true k rs [] ∙ ap (last_rows k) (append-nil rs)) h)
