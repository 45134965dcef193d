-- Groups of some rows and then others.
use Rattle.std.specs.Prelude.{◌≡◌, refl, ℕ, ℤ, zero, suc, ◌+◌, ◌<◌, ◌≤◌, ◌^◌, ◌==◌, ◌||◌, Bool, true, false, if◌then◌else◌, Option, None, Some, List, [], ◌∷◌, ◌++◌, length, get_or, map, slice_get}
use Rattle.std.proofs.Common.{ap, sym, subst, ◌∙◌, arith, length-append}
use Rattle.std.specs.List.{list_any}
use Rattle.std.proofs.lemmas.List.{append-nil, append_assoc, length-map, map-append}
use Rattle.std.proofs.lemmas.List.Folds.{list_any-append}
use Rattle.std.proofs.lemmas.Bool.Decides.{Decides-eqb}
use Rattle.tall_value.specs.Cells.{Seen, double}
use Rattle.tall_value.specs.Groups.{group_data, is_of_group}
use Rattle.tall_group.specs.Groups.{IsGroupsOf}
use Rattle.tall_group.specs.Keys.{found, AreApart, AreAt, ArePlaced}
use Rattle.tall_group.specs.Places.{AreOf, Data, group_at, key_data, if_here, parts_at, rows_at, singles}
use Rattle.tall_group.specs.States.{datum}
use Rattle.tall_group.proofs.OrderLemmas.{group_turned, of_one_group, found_alike}

contrary : (b : Bool) → b ≡ true → b ≡ false → ⊥
contrary true p q = cc
contrary false p q = cc

is_false : (b : Bool) → (b ≡ true → ⊥) → b ≡ false
is_false true h = absurd (h refl)
is_false false h = refl

first_false : (a b : Bool) → (a || b) ≡ false → a ≡ false
first_false true b h = absurd cc
first_false false b h = refl

second_false : (a b : Bool) → (a || b) ≡ false → b ≡ false
second_false true b h = absurd cc
second_false false b h = h

-- ---- keys and their places

pub member : (c k : Seen) (ks : List Seen) (p : ℕ) → slice_get ks p ≡ Some k → is_of_group c k ≡ true → found c ks ≡ true
member c k [] p h g = absurd cc
member c k (x ∷ ks) zero h g = (let e : x ≡ k = cc in ap (λ z. is_of_group c z || found c ks) e ∙ ap (λ b. b || found c ks) g)
member c k (x ∷ ks) (suc p) h g = ap (λ b. is_of_group c x || b) (member c k ks p h g) ∙ or_true (is_of_group c x)
  where
    or_true : (a : Bool) → (a || true) ≡ true
    or_true true = refl
    or_true false = refl

-- keys of one group have one place
one_place : (ks : List Seen) (p q : ℕ) (k j : Seen) → AreApart ks → slice_get ks p ≡ Some k → slice_get ks q ≡ Some j → is_of_group k j ≡ true → p ≡ q
one_place [] p q k j a h i g = absurd cc
one_place (x ∷ ks) zero zero k j a h i g = refl
one_place (x ∷ ks) zero (suc q) k j a h i g = absurd (let e : k ≡ x = cc in contrary (found x ks) (member x j ks q i (ap (λ z. is_of_group z j) (sym e) ∙ g)) a.0)
one_place (x ∷ ks) (suc p) zero k j a h i g = absurd (let e : j ≡ x = cc in contrary (found x ks) (member x k ks p h (ap (λ z. is_of_group z k) (sym e) ∙ group_turned k j g)) a.0)
one_place (x ∷ ks) (suc p) (suc q) k j a h i g = ap suc (one_place ks p q k j a.1 h i g)

pub get_some : {A : Type 0} (ks : List A) (p : ℕ) (d : A) → p < length ks → slice_get ks p ≡ Some (get_or ks p d)
get_some [] p d l = absurd (omega arith)
get_some (k ∷ ks) zero d l = refl
get_some (k ∷ ks) (suc p) d l = get_some ks p d (omega arith)

pub get_first : (ks more : List Seen) (p : ℕ) → p < length ks → slice_get (ks ++ more) p ≡ slice_get ks p
get_first [] more p l = absurd (omega arith)
get_first (k ∷ ks) more zero l = refl
get_first (k ∷ ks) more (suc p) l = get_first ks more p (omega arith)

-- a key that came later isn't among the earlier ones
later_new : (ks more : List Seen) (p : ℕ) (k : Seen) → AreApart (ks ++ more) → slice_get (ks ++ more) p ≡ Some k → length ks ≤ p → found k ks ≡ false
later_new [] more p k a h l = refl
later_new (x ∷ ks) more zero k a h l = absurd (omega arith)
later_new (x ∷ ks) more (suc p) k a h l =
    ap (λ b. b || found k ks) (is_false (is_of_group k x) (λ g. contrary (found x (ks ++ more)) (member x k (ks ++ more) p h (group_turned k x g)) a.0)) ∙ later_new ks more p k a.1 h (omega arith)

equal_itself : (n : ℕ) → (n == n) ≡ true
equal_itself n = (Decides-eqb n n).1 refl

same_some : (x y : Seen) → ◌≡◌ {A = Option Seen} (Some x) (Some y) → x ≡ y
same_some x y z = cc

same_place : (ks : List Seen) (p q : ℕ) (k c : Seen) → AreApart ks → slice_get ks p ≡ Some k → q < length ks → ((d : Seen) → is_of_group c (get_or ks q d) ≡ true) → (q == p) ≡ is_of_group k c
same_place ks p q k c a h l g = by (is_of_group k c) refl
  where
    there : slice_get ks q ≡ Some (get_or ks q k)
    there = get_some ks q k l

    by : (b : Bool) → is_of_group k c ≡ b → (q == p) ≡ b
    by true e = ap (λ n. n == p) (sym (one_place ks p q k (get_or ks q k) a h there (of_one_group k c (get_or ks q k) e ∙ g k))) ∙ equal_itself p
    by false e = is_false (q == p) (λ s. contrary (is_of_group k c) (let t : q ≡ p = (Decides-eqb q p).0 s in let u : get_or ks q k ≡ k = same_some (get_or ks q k) k (sym there ∙ (ap (slice_get ks) t ∙ h)) in group_turned c k (ap (is_of_group c) (sym u) ∙ g k)) e)

-- ---- data

pub no_data : (key : Seen) (ks ds : List Seen) → found key ks ≡ false → group_data key ks ds ≡ []
no_data key [] ds h = refl
no_data key (k ∷ ks) [] h = refl
no_data key (k ∷ ks) (d ∷ ds) h =
    ap (λ b. if b then d ∷ group_data key ks ds else group_data key ks ds) (first_false (is_of_group key k) (found key ks) h) ∙ no_data key ks ds (second_false (is_of_group key k) (found key ks) h)

pub data_alike : (key other : Seen) (ks ds : List Seen) → is_of_group key other ≡ true → group_data key ks ds ≡ group_data other ks ds
data_alike key other [] ds g = refl
data_alike key other (k ∷ ks) [] g = refl
data_alike key other (k ∷ ks) (d ∷ ds) g =
    ap (λ b. if b then d ∷ group_data key ks ds else group_data key ks ds) (of_one_group key other k g) ∙ ap (λ xs. if is_of_group other k then d ∷ xs else xs) (data_alike key other ks ds g)

put_in_front : (b : Bool) (d : Seen) (xs ys : List Seen) → (if b then d ∷ (xs ++ ys) else xs ++ ys) ≡ (if b then d ∷ xs else xs) ++ ys
put_in_front true d xs ys = refl
put_in_front false d xs ys = refl

pub data_append : (key : Seen) (ks js ds es : List Seen) → length ks ≡ length ds → group_data key (ks ++ js) (ds ++ es) ≡ group_data key ks ds ++ group_data key js es
data_append key [] js [] es h = refl
data_append key [] js (d ∷ ds) es h = absurd (omega (arith, h))
data_append key (k ∷ ks) js [] es h = absurd (omega (arith, h))
data_append key (k ∷ ks) js (d ∷ ds) es h =
    ap (λ xs. if is_of_group key k then d ∷ xs else xs) (data_append key ks js ds es (omega (arith, h))) ∙ put_in_front (is_of_group key k) d (group_data key ks ds) (group_data key js es)

short_by : (b : Bool) (d : Seen) (xs : List Seen) (n : ℕ) → length xs ≤ n → length (if b then d ∷ xs else xs) ≤ suc n
short_by true d xs n h = omega (arith, h)
short_by false d xs n h = omega (arith, h)

pub data_short : (key : Seen) (ks ds : List Seen) → length (group_data key ks ds) ≤ length ks
data_short key [] ds = omega arith
data_short key (k ∷ ks) [] = omega arith
data_short key (k ∷ ks) (d ∷ ds) = short_by (is_of_group key k) d (group_data key ks ds) (length ks) (data_short key ks ds)

pub group_short : (ks keys data' : List Seen) (p : ℕ) → length (group_at ks keys data' p) ≤ length keys
group_short ks keys data' p = by (slice_get ks p)
  where
    by : (o : Option Seen) → length (key_data keys data' o) ≤ length keys
    by (Some k) = omega (arith, data_short k keys data', length-map (group_data k keys data') datum)
    by None = omega arith

-- ---- the keys with more of them

pub grown_data : {S : Type 0} (of : Data → S → Type 0) (ks after more keys data' : List Seen) (states : List S) → after ≡ ks ++ more → length states ≡ length ks → AreOf of (group_at ks keys data') states → AreOf of (group_at after keys data') states
grown_data {S} of ks after more keys data' states e l a p s k =
    subst (λ ds. of ds (get_or states p s)) (ap (key_data keys data') (sym (ap (λ js. slice_get js p) e ∙ get_first ks more p (omega (arith, k, l))))) (a p s k)

pub new_data : (ks after more keys data' : List Seen) (n p : ℕ) → after ≡ ks ++ more → AreApart after → ((c : Seen) → found c ks ≡ found c keys) → n ≡ length ks → n ≤ p → group_at after keys data' p ≡ []
new_data ks after more keys data' n p e a f m l = by (slice_get after p) refl
  where
    by : (o : Option Seen) → slice_get after p ≡ o → key_data keys data' o ≡ []
    by None h = refl
    by (Some k) h = ap (map datum) (no_data k keys data' (sym (f k) ∙ later_new ks more p k (subst AreApart e a) (sym (ap (λ js. slice_get js p) e) ∙ h) (omega (arith, m, l))))

-- ---- rows that go to the places of their keys

pub at_length : (ks : List Seen) (ps : List ℕ) (cs : List Seen) → AreAt ks ps cs → length ps ≡ length cs
at_length ks [] [] a = refl
at_length ks (p ∷ ps) (c ∷ cs) a = (let e = at_length ks ps cs a.2 in omega (arith, e))
at_length ks [] (c ∷ cs) a = absurd a
at_length ks (p ∷ ps) [] a = absurd a

pub at_within : (ks : List Seen) (ps : List ℕ) (cs : List Seen) → AreAt ks ps cs → (i d : ℕ) → i < length ps → get_or ps i d < length ks
at_within ks [] [] a i d l = absurd (omega arith)
at_within ks (p ∷ ps) (c ∷ cs) a zero d l = a.0
at_within ks (p ∷ ps) (c ∷ cs) a (suc i) d l = at_within ks ps cs a.2 i d (omega arith)
at_within ks [] (c ∷ cs) a i d l = absurd a
at_within ks (p ∷ ps) [] a i d l = absurd a

front_by : (b : Bool) (v : Seen) (xs : Data) (ys : List Seen) → xs ≡ map datum ys → (if b then datum v ∷ [] else []) ++ xs ≡ map datum (if b then v ∷ ys else ys)
front_by true v xs ys h = ap (λ zs. datum v ∷ zs) h
front_by false v xs ys h = h

parts_of_rows : (ks : List Seen) (p : ℕ) (k : Seen) (ps : List ℕ) (cs vs : List Seen) → AreApart ks → slice_get ks p ≡ Some k → AreAt ks ps cs → length cs ≡ length vs → parts_at p ps (singles vs) ≡ map datum (group_data k cs vs)
parts_of_rows ks p k [] [] vs a h t e = refl
parts_of_rows ks p k (q ∷ ps) (c ∷ cs) [] a h t e = absurd (omega (arith, e))
parts_of_rows ks p k (q ∷ ps) (c ∷ cs) (v ∷ vs) a h t e =
    ap (λ b. (if b then datum v ∷ [] else []) ++ parts_at p ps (singles vs)) (same_place ks p q k c a h t.0 t.1)
    ∙ front_by (is_of_group k c) v (parts_at p ps (singles vs)) (group_data k cs vs) (parts_of_rows ks p k ps cs vs a h t.2 (omega (arith, e)))
parts_of_rows ks p k [] (c ∷ cs) vs a h t e = absurd t
parts_of_rows ks p k (q ∷ ps) [] vs a h t e = absurd t

-- some parts behind those of the keys
pub behind : {S : Type 0} (of : Data → S → Type 0) (ks keys data' js es : List Seen) (ps : List ℕ) (parts : List Data) (states : List S) → length keys ≡ length data' → length states ≡ length ks
    → ((p : ℕ) (k : Seen) → slice_get ks p ≡ Some k → parts_at p ps parts ≡ map datum (group_data k js es))
    → AreOf of (λ p. group_at ks keys data' p ++ parts_at p ps parts) states → AreOf of (group_at ks (keys ++ js) (data' ++ es)) states
behind {S} of ks keys data' js es ps parts states e l same a p s k =
    subst (λ ds. of ds (get_or states p s)) (by (slice_get ks p) (get_some ks p (datum_of_none) (omega (arith, k, l)))) (a p s k)
  where
    datum_of_none : Seen
    datum_of_none = double None

    by : (o : Option Seen) → slice_get ks p ≡ Some (get_or ks p datum_of_none) → group_at ks keys data' p ++ parts_at p ps parts ≡ group_at ks (keys ++ js) (data' ++ es) p
    by o h =
        let k = get_or ks p datum_of_none in
        let of_it : (xs ys : List Seen) → group_at ks xs ys p ≡ map datum (group_data k xs ys) = λ xs ys. ap (key_data xs ys) h in
        ap (λ ds. ds ++ parts_at p ps parts) (of_it keys data')
        ∙ (ap (λ ds. map datum (group_data k keys data') ++ ds) (same p k h)
        ∙ (sym (map-append datum (group_data k keys data') (group_data k js es)) ∙ (ap (map datum) (sym (data_append k keys js data' es e)) ∙ sym (of_it (keys ++ js) (data' ++ es)))))

pub rows_behind : {S : Type 0} (of : Data → S → Type 0) (ks keys data' js es : List Seen) (ps : List ℕ) (states : List S) → length keys ≡ length data' → length states ≡ length ks → AreApart ks → AreAt ks ps js → length js ≡ length es
    → AreOf of (λ p. group_at ks keys data' p ++ parts_at p ps (singles es)) states → AreOf of (group_at ks (keys ++ js) (data' ++ es)) states
rows_behind of ks keys data' js es ps states e l a t f h = behind of ks keys data' js es ps (singles es) states e l (λ p k g. parts_of_rows ks p k ps js es a g t f) h

-- ---- all of it

pub more_groups : {S : Type 0} (of : Data → S → Type 0) (ks after keys data' js es : List Seen) (ps : List ℕ) (old states : List S) → IsGroupsOf of ks old keys data' → ArePlaced ks after js ps → length js ≡ length es → length keys + length js < 2 ^ 40 → length states ≡ length after
    → AreOf of (λ p. group_at after keys data' p ++ parts_at p ps (singles es)) states → IsGroupsOf of after states (keys ++ js) (data' ++ es)
more_groups of ks after keys data' js es ps old states g placed f few l h =
    record {
      even = omega (arith, g.even, f, length-append keys js, length-append data' es);
      few = omega (arith, few, length-append keys js);
      long = l;
      apart = placed.apart g.apart;
      found_in = λ c. placed.found_in c ∙ (ap (λ b. b || found c js) (g.found_in c) ∙ sym (list_any-append (is_of_group c) keys js));
      data_at = rows_behind of after keys data' js es ps states g.even l (placed.apart g.apart) placed.at f h;
    }

pub extended : {S : Type 0} (of : Data → S → Type 0) (ks after keys data' js : List Seen) (ps : List ℕ) (old new : List S) → IsGroupsOf of ks old keys data' → ArePlaced ks after js ps
    → ((at : ℕ → Data) → AreOf of at old → ((p : ℕ) → length old ≤ p → at p ≡ []) → AreOf of at new) → AreOf of (group_at after keys data') new
extended of ks after keys data' js ps old new g placed more =
    more (group_at after keys data') (grown_data of ks after placed.more keys data' old placed.grown g.long g.data_at)
    (λ p l. new_data ks after placed.more keys data' (length old) p placed.grown (placed.apart g.apart) g.found_in g.long l)

-- a group has at most all rows
pub rows_few : {S : Type 0} (of : Data → S → Type 0) (rows : S → ℕ) → ((ds : Data) (s : S) → of ds s → rows s ≡ length ds) → (ks keys data' : List Seen) (states : List S) → AreOf of (group_at ks keys data') states
    → (p : ℕ) (d : S) → p < length states → rows (get_or states p d) ≤ length keys
rows_few of rows rows_of ks keys data' states a p d l = omega (arith, rows_of (group_at ks keys data' p) (get_or states p d) (a p d l), group_short ks keys data' p)

pub within_states : (ks : List Seen) (ps qs : List ℕ) (cs : List Seen) (n : ℕ) → AreAt ks ps cs → qs ≡ ps → n ≡ length ks → (i d : ℕ) → i < length qs → get_or qs i d < n
within_states ks ps qs cs n a e m i d l =
    let t : get_or qs i d ≡ get_or ps i d = ap (λ rs. get_or rs i d) e in
    let u : length qs ≡ length ps = ap length e in
    omega (arith, t, u, m, l, at_within ks ps cs a i d (omega (arith, l, u)))

-- ---- one row more

pub one_row : {S : Type 0} (of : Data → S → Type 0) (at : ℕ → Data) (q : ℕ) (d : Option ℤ) (v : Seen) (states : List S) → d ≡ datum v → AreOf of (λ p. at p ++ if_here p q (d ∷ [])) states → AreOf of (λ p. at p ++ parts_at p (q ∷ []) (singles (v ∷ []))) states
one_row of at q d v states e a p s k =
    subst (λ ds. of (at p ++ ds) (get_or states p s)) (ap (λ x. if_here p q (x ∷ [])) e ∙ sym (append-nil (if_here p q (datum v ∷ [])))) (a p s k)

-- ---- later groups

part_by : (b : Bool) (k l : Seen) (lks js ws : List Seen) (rest : Data) → is_of_group k l ≡ b → found l lks ≡ false → rest ≡ (if found k lks then map datum (group_data k js ws) else [])
    → (if b then map datum (group_data l js ws) else []) ++ rest ≡ (if (b || found k lks) then map datum (group_data k js ws) else [])
part_by true k l lks js ws rest g f h =
    ap (λ ds. map datum (group_data l js ws) ++ ds) (h ∙ ap (λ b. if b then map datum (group_data k js ws) else []) (found_alike k l lks g ∙ f))
    ∙ (append-nil (map datum (group_data l js ws)) ∙ ap (map datum) (sym (data_alike k l js ws g)))
part_by false k l lks js ws rest g f h = h

parts_of_groups : (ks : List Seen) (p : ℕ) (k : Seen) (ps : List ℕ) (lks js ws : List Seen) → AreApart ks → slice_get ks p ≡ Some k → AreAt ks ps lks → AreApart lks
    → parts_at p ps (map (λ k. map datum (group_data k js ws)) lks) ≡ (if found k lks then map datum (group_data k js ws) else [])
parts_of_groups ks p k [] [] js ws a h t b = refl
parts_of_groups ks p k (q ∷ ps) (l ∷ lks) js ws a h t b =
    ap (λ c. (if c then map datum (group_data l js ws) else []) ++ parts_at p ps (map (λ k. map datum (group_data k js ws)) lks)) (same_place ks p q k l a h t.0 t.1)
    ∙ (part_by (is_of_group k l) k l lks js ws _ refl b.0 (parts_of_groups ks p k ps lks js ws a h t.2 b.1)
    ∙ refl)
parts_of_groups ks p k [] (l ∷ lks) js ws a h t b = absurd t
parts_of_groups ks p k (q ∷ ps) [] js ws a h t b = absurd t

found_or_none : (b : Bool) (k : Seen) (js ws : List Seen) → b ≡ found k js → (if b then map datum (group_data k js ws) else []) ≡ map datum (group_data k js ws)
found_or_none true k js ws h = refl
found_or_none false k js ws h = ap (map datum) (sym (no_data k js ws (sym h)))

pub parts_are : (ks : List Seen) (p : ℕ) (k : Seen) (ps : List ℕ) (lks js ws : List Seen) → AreApart ks → slice_get ks p ≡ Some k → AreAt ks ps lks → AreApart lks → ((c : Seen) → found c lks ≡ found c js)
    → parts_at p ps (map (λ k. map datum (group_data k js ws)) lks) ≡ map datum (group_data k js ws)
parts_are ks p k ps lks js ws a h t b f = parts_of_groups ks p k ps lks js ws a h t b ∙ found_or_none (found k lks) k js ws (f k)

-- a part is that of its key
part_at : (lks js ws : List Seen) (i : ℕ) (ds : Data) → i < length lks → group_at lks js ws i ≡ get_or (map (λ k. map datum (group_data k js ws)) lks) i ds
part_at [] js ws i ds l = absurd (omega arith)
part_at (k ∷ lks) js ws zero ds l = refl
part_at (k ∷ lks) js ws (suc i) ds l = part_at lks js ws i ds (omega arith)

pub each_part : {S : Type 0} (of : Data → S → Type 0) (lks js ws : List Seen) (later : List S) → IsGroupsOf of lks later js ws
    → (i : ℕ) (ds : Data) (d : S) → i < length later → of (get_or (map (λ k. map datum (group_data k js ws)) lks) i ds) (get_or later i d)
each_part of lks js ws later g i ds d l = subst (λ x. of x (get_or later i d)) (part_at lks js ws i ds (omega (arith, l, g.long))) (g.data_at i d l)

rows_here : (b : Bool) (n : ℕ) (ds : Data) → n ≡ length ds → (if b then n else 0) ≡ length (if b then ds else [])
rows_here true n ds h = h
rows_here false n ds h = refl

pub rows_are : {S : Type 0} (rows : S → ℕ) (p : ℕ) (ps : List ℕ) (later : List S) (parts : List Data) → length parts ≡ length later → ((i : ℕ) (ds : Data) (d : S) → i < length later → rows (get_or later i d) ≡ length (get_or parts i ds))
    → rows_at rows p ps later ≡ length (parts_at p ps parts)
rows_are rows p [] later parts e h = refl
rows_are rows p (q ∷ ps) [] [] e h = refl
rows_are rows p (q ∷ ps) [] (x ∷ parts) e h = absurd (omega (arith, e))
rows_are rows p (q ∷ ps) (s ∷ later) [] e h = absurd (omega (arith, e))
rows_are rows p (q ∷ ps) (s ∷ later) (x ∷ parts) e h =
    let a : (if q == p then rows s else 0) ≡ length (if_here p q x) = rows_here (q == p) (rows s) x (h 0 x s (omega arith)) in
    let b = rows_are rows p ps later parts (omega (arith, e)) (λ i ds d l. h (suc i) ds d (omega (arith, l))) in
    omega (arith, a, b, length-append (if_here p q x) (parts_at p ps parts))

pub later_few : {S : Type 0} (of : Data → S → Type 0) (rows : S → ℕ) → ((ds : Data) (s : S) → of ds s → rows s ≡ length ds) → (after lks js ws : List Seen) (ps : List ℕ) (later : List S) (p : ℕ) → IsGroupsOf of lks later js ws → AreApart after → AreAt after ps lks → p < length after
    → rows_at rows p ps later ≤ length js
later_few of rows rows_of after lks js ws ps later p g a t l =
    let k = get_or after p (double None) in
    let e = rows_are rows p ps later (map (λ k. map datum (group_data k js ws)) lks) (length-map lks _ ∙ sym g.long) (λ i ds d m. rows_of _ _ (each_part of lks js ws later g i ds d m)) in
    let f : length (parts_at p ps (map (λ k. map datum (group_data k js ws)) lks)) ≡ length (map datum (group_data k js ws)) =
    ap length (parts_are after p k ps lks js ws a (get_some after p (double None) l) t g.apart g.found_in) in
    omega (arith, e, f, length-map (group_data k js ws) datum, data_short k js ws)

or_found : (a b c : Bool) → b ≡ c → (a || b) ≡ (a || c)
or_found a b c h = ap (λ x. a || x) h

pub joined_groups : {S : Type 0} (of : Data → S → Type 0) (ks after keys data' lks js ws : List Seen) (ps : List ℕ) (old states later : List S) → IsGroupsOf of ks old keys data' → IsGroupsOf of lks later js ws → ArePlaced ks after lks ps
    → length keys + length js < 2 ^ 40 → length states ≡ length after
    → AreOf of (λ p. group_at after keys data' p ++ parts_at p ps (map (λ k. map datum (group_data k js ws)) lks)) states → IsGroupsOf of after states (keys ++ js) (data' ++ ws)
joined_groups of ks after keys data' lks js ws ps old states later g h placed few l d =
    record {
      even = omega (arith, g.even, h.even, length-append keys js, length-append data' ws);
      few = omega (arith, few, length-append keys js);
      long = l;
      apart = placed.apart g.apart;
      found_in = λ c. placed.found_in c ∙ (ap (λ b. b || found c lks) (g.found_in c) ∙ (or_found (found c keys) (found c lks) (found c js) (h.found_in c) ∙ sym (list_any-append (is_of_group c) keys js)));
      data_at = behind of after keys data' js ws ps (map (λ k. map datum (group_data k js ws)) lks) states g.even l (λ p k e. parts_are after p k ps lks js ws (placed.apart g.apart) e placed.at h.apart h.found_in) d;
    }
