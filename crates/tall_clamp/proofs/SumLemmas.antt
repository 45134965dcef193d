-- Clamp functions of rows and of blocks.
use Rattle.std.proofs.Common.{◌≡◌, ℕ, ◌+◌, ◌<◌, ℤ, pos, ◌+ℤ◌, ◌≤ℤ◌, List, [], ◌∷◌, ◌++◌, length, take, get_or, map, refl, ap, sym, ◌∙◌, arith, add-one}
use Rattle.std.specs.List.{flat_map}
use Rattle.std.proofs.lemmas.Int.{ints, clamps}
use Rattle.std.proofs.lemmas.List.{map-append}
use Rattle.std.proofs.Math.Seq.{take-suc}
use Rattle.tall_int.specs.Numbers.{nearest}
use Rattle.tall_int.specs.Sums.{clamped_sum}
use Rattle.tall_clamp.specs.Clamps.{apply, row_clamp, Sums}
use Rattle.tall_clamp.specs.ClampLaws.{nearest_above, nearest_below}
use Rattle.tall_clamp.specs.declared.bounds.Bounds.{Bounds}
use Rattle.tall_clamp.proofs.BlockLemmas.{blocks_more}

-- a saturating sum stays in the class
sum_above : (low high x : ℤ) (ns : List ℤ) → low ≤ℤ high → low ≤ℤ x → low ≤ℤ clamped_sum low high x ns
sum_above low high x [] p q = q
sum_above low high x (n ∷ ns) p q = sum_above low high (nearest low high (x +ℤ n)) ns p (nearest_above low high (x +ℤ n) p)

sum_below : (low high x : ℤ) (ns : List ℤ) → low ≤ℤ high → x ≤ℤ high → clamped_sum low high x ns ≤ℤ high
sum_below low high x [] p q = q
sum_below low high x (n ∷ ns) p q = sum_below low high (nearest low high (x +ℤ n)) ns p (nearest_below low high (x +ℤ n) p)

-- a saturating sum goes on where it stopped
clamped_sum-append : (low high x : ℤ) (ns ms : List ℤ) → clamped_sum low high x (ns ++ ms) ≡ clamped_sum low high (clamped_sum low high x ns) ms
clamped_sum-append low high x [] ms = refl
clamped_sum-append low high x (n ∷ ns) ms = clamped_sum-append low high (nearest low high (x +ℤ n)) ns ms

-- no rows: a shift of 0
pub no_rows : (low high n : ℤ) (c : Bounds) → low ≤ℤ high → n ≡ pos 0 → c ≡ row_clamp low high n → Sums low high [] c
no_rows low high n c p e f x a b =
    ap (λ (k : Bounds). apply k x) f
    ∙ ap (λ (m : ℤ). nearest low high (x +ℤ m)) e
    ∙ (let same : nearest low high (x +ℤ pos 0) ≡ x = omega (arith, ints, clamps) in same)

-- the clamp function of a row gives its sum
pub one_row_sums : (low high n : ℤ) (c : Bounds) → c ≡ row_clamp low high n → Sums low high (n ∷ []) c
one_row_sums low high n c e x p q = ap (λ (k : Bounds). apply k x) e

-- rows and then more rows
pub more_rows : (low high : ℤ) (a b r : Bounds) (ns ms ks : List ℤ) → low ≤ℤ high → Sums low high ns a → Sums low high ms b
    → ((x : ℤ) → low ≤ℤ x → x ≤ℤ high → apply r x ≡ apply b (apply a x)) → ks ≡ ns ++ ms → Sums low high ks r
more_rows low high a b r ns ms ks order p q f e x u v =
    f x u v
    ∙ ap (apply b) (p x u v)
    ∙ q (clamped_sum low high x ns) (sum_above low high x ns order u) (sum_below low high x ns order v)
    ∙ sym (clamped_sum-append low high x ns ms)
    ∙ ap (clamped_sum low high x) (sym e)

-- one row more of the rows done
pub rows_more : {V : Type 0} (vs : List V) (i : ℕ) (v : V) → i < length vs → v ≡ get_or vs i v → take (i + 1) vs ≡ take i vs ++ v ∷ []
rows_more vs i v h e =
    ap (λ (n : ℕ). take n vs) (add-one i) ∙ take-suc vs i v h ∙ ap (λ (w : _). take i vs ++ w ∷ []) (sym e)

pub numbers_more : {V : Type 0} (number : V → ℤ) (vs : List V) (i : ℕ) (v : V) → i < length vs → v ≡ get_or vs i v
    → map number (take (i + 1) vs) ≡ map number (take i vs) ++ number v ∷ []
numbers_more number vs i v h e =
    ap (λ (n : ℕ). map number (take n vs)) (add-one i)
    ∙ ap (map number) (take-suc vs i v h)
    ∙ map-append number (take i vs) (get_or vs i v ∷ [])
    ∙ ap (λ (w : _). map number (take i vs) ++ number w ∷ []) (sym e)

-- one block more of the blocks done
pub block_numbers_more : {X V : Type 0} (number : V → ℤ) (f : X → List V) (xs : List X) (i : ℕ) (x : X) → i < length xs → x ≡ get_or xs i x
    → map number (flat_map f (take (i + 1) xs)) ≡ map number (flat_map f (take i xs)) ++ map number (f x)
block_numbers_more number f xs i x h e = ap (map number) (blocks_more f xs i x h e) ∙ map-append number (flat_map f (take i xs)) (f x)

-- equal rows have equal sums
pub same_sums : {V : Type 0} (low high : ℤ) (number : V → ℤ) (vs ws : List V) (c : Bounds) → vs ≡ ws → Sums low high (map number vs) c → Sums low high (map number ws) c
same_sums low high number vs ws c e h x u v = h x u v ∙ ap (λ (l : List _). clamped_sum low high x (map number l)) e
