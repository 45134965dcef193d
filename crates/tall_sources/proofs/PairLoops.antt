-- Loops over pairs of a name and a value: what is to come from a pair on.
use Rattle.std.specs.Prelude.{◌≡◌, refl, ℕ, ◌<◌, ◌≤◌, ◌+◌, ◌-◌, ◌==◌, ◌&&◌, Bool, true, false, if◌then◌else◌, List, [], ◌∷◌, length, map, take, drop, get_or, Option, None, Some}
use Rattle.std.proofs.Common.{ap, sym, ◌∙◌, arith}
use Rattle.std.specs.Bool.{Decides}
use Rattle.std.proofs.lemmas.Bool.Decides.{Decides-eqb}
use Rattle.std.proofs.lemmas.List.{drop_more, length-drop, length-map, take_all}
use Rattle.tall_local.specs.Applications.{text_of}
use Rattle.tall_local.specs.Memory.{Memory, scalar_in}
use Rattle.tall_deferred.specs.declared.values.ScriptRef.{ScriptRef}
use Rattle.tall_sources.specs.Given.{memory_in, is_new_option, is_text, are_pairs, value_behind}

abbrev pub from_pair : List ScriptRef → ℕ → List Memory
from_pair pairs i = map memory_in (drop i pairs)

-- the pair at a place, and those behind it
pair_at : (pairs : List ScriptRef) (i : ℕ) (d e : ScriptRef) → i + 1 < length pairs
    → from_pair pairs i ≡ memory_in (get_or pairs i d) ∷ memory_in (get_or pairs (i + 1) e) ∷ from_pair pairs (i + 2)
pair_at pairs i d e l =
    ap (map memory_in) (drop_more pairs i d (omega (arith, l)))
    ∙ (ap (λ xs. memory_in (get_or pairs i d) ∷ map memory_in xs) (drop_more pairs (i + 1) e l)
    ∙ ap (λ n. memory_in (get_or pairs i d) ∷ memory_in (get_or pairs (i + 1) e) ∷ from_pair pairs n) (further i)) where
      further : (n : ℕ) → n + 1 + 1 ≡ n + 2
      further n = omega arith

abbrev named_so : ScriptRef → List ℕ → Bool
named_so v name = is_text (text_of (scalar_in (memory_in v))) name

value_step : (pairs : List ScriptRef) (i : ℕ) (x y : ScriptRef) (name : List ℕ) (b : Bool) → i + 1 < length pairs → x ≡ get_or pairs i x → b ≡ named_so x name
    → value_behind (from_pair pairs i) name ≡ (if b then Some (memory_in (get_or pairs (i + 1) y)) else value_behind (from_pair pairs (i + 2)) name)
value_step pairs i x y name b l e h =
    ap (λ ms. value_behind ms name) (pair_at pairs i x y l)
    ∙ ap (λ t. if t then Some (memory_in (get_or pairs (i + 1) y)) else value_behind (from_pair pairs (i + 2)) name) (ap (λ v. named_so v name) (sym e) ∙ sym h)

pub value_found : (pairs : List ScriptRef) (i : ℕ) (x y : ScriptRef) (name : List ℕ) (b : Bool) (due : Option Memory) → i + 1 < length pairs → x ≡ get_or pairs i x → y ≡ get_or pairs (i + 1) y → b ≡ named_so x name → b ≡ true
    → value_behind (from_pair pairs i) name ≡ due → Some (memory_in y) ≡ due
value_found pairs i x y name b due l e f h t k =
    ap (λ v. Some (memory_in v)) f
    ∙ (sym (value_step pairs i x y name b l e h ∙ ap (λ t. if t then Some (memory_in (get_or pairs (i + 1) y)) else value_behind (from_pair pairs (i + 2)) name) t) ∙ k)

pub value_passed : (pairs : List ScriptRef) (i : ℕ) (x : ScriptRef) (name : List ℕ) (b : Bool) (due : Option Memory) → i + 1 < length pairs → x ≡ get_or pairs i x → b ≡ named_so x name → b ≡ false
    → value_behind (from_pair pairs i) name ≡ due → value_behind (from_pair pairs (i + 2)) name ≡ due
value_passed pairs i x name b due l e h t k =
    sym (value_step pairs i x x name b l e h ∙ ap (λ t. if t then Some (memory_in (get_or pairs (i + 1) x)) else value_behind (from_pair pairs (i + 2)) name) t) ∙ k

few : (ms : List Memory) (name : List ℕ) → length ms ≤ 1 → value_behind ms name ≡ None
few [] name l = refl
few (m ∷ []) name l = refl
few (m ∷ n ∷ ms) name l = absurd (omega (arith, l))

left : (pairs : List ScriptRef) (i : ℕ) → length (from_pair pairs i) ≡ length pairs - i
left pairs i = length-map (drop i pairs) memory_in ∙ length-drop i pairs

pub value_none : (pairs : List ScriptRef) (i : ℕ) (name : List ℕ) (due : Option Memory) → length pairs ≤ i + 1 → value_behind (from_pair pairs i) name ≡ due → None ≡ due
value_none pairs i name due l h = sym (few (from_pair pairs i) name (let e = left pairs i in omega (arith, e, l))) ∙ h

abbrev pub new_so : ScriptRef → List Memory → Bool
new_so v rest = is_new_option (text_of (scalar_in (memory_in v))) rest

-- the slice from a place on
pub rest_of : (pairs : List ScriptRef) (i : ℕ) → map memory_in (take (length pairs - i) (drop i pairs)) ≡ from_pair pairs i
rest_of pairs i = ap (map memory_in) (take_all (length pairs - i) (drop i pairs) (let e = length-drop i pairs in omega (arith, e)))

pair_step : (pairs : List ScriptRef) (i : ℕ) (x : ScriptRef) (b : Bool) → i + 1 < length pairs → x ≡ get_or pairs i x → b ≡ new_so x (from_pair pairs (i + 2))
    → are_pairs (from_pair pairs i) ≡ (b && are_pairs (from_pair pairs (i + 2)))
pair_step pairs i x b l e h =
    ap are_pairs (pair_at pairs i x x l)
    ∙ ap (λ t. t && are_pairs (from_pair pairs (i + 2))) (ap (λ v. new_so v (from_pair pairs (i + 2))) (sym e) ∙ sym h)

pub pair_refused : (pairs : List ScriptRef) (i : ℕ) (x : ScriptRef) (b due : Bool) → i + 1 < length pairs → x ≡ get_or pairs i x → b ≡ new_so x (from_pair pairs (i + 2)) → b ≡ false
    → are_pairs (from_pair pairs i) ≡ due → false ≡ due
pair_refused pairs i x b due l e h t k = sym (pair_step pairs i x b l e h ∙ ap (λ t. t && are_pairs (from_pair pairs (i + 2))) t) ∙ k

pub pair_accepted : (pairs : List ScriptRef) (i : ℕ) (x : ScriptRef) (b due : Bool) → i + 1 < length pairs → x ≡ get_or pairs i x → b ≡ new_so x (from_pair pairs (i + 2)) → b ≡ true
    → are_pairs (from_pair pairs i) ≡ due → are_pairs (from_pair pairs (i + 2)) ≡ due
pair_accepted pairs i x b due l e h t k = sym (pair_step pairs i x b l e h ∙ ap (λ t. t && are_pairs (from_pair pairs (i + 2))) t) ∙ k

all_or_one : (ms : List Memory) → length ms ≤ 1 → (length ms == 0) ≡ are_pairs ms
all_or_one [] l = refl
all_or_one (m ∷ []) l = refl
all_or_one (m ∷ n ∷ ms) l = absurd (omega (arith, l))

other : false ≡ true → ⊥
other h = cc

pub pairs_end : (pairs : List ScriptRef) (i : ℕ) (due : Bool) → length pairs ≤ i + 1 → i ≤ length pairs → are_pairs (from_pair pairs i) ≡ due → (i == length pairs) ≡ due
pairs_end pairs i due l k h =
    same (i == length pairs) (length (from_pair pairs i) == 0) (Decides-eqb i (length pairs)) (Decides-eqb (length (from_pair pairs i)) 0) (left pairs i) ∙ (all_or_one (from_pair pairs i) (let e = left pairs i in omega (arith, e, l)) ∙ h) where
      same : (a b : Bool) → Decides a (i ≡ length pairs) → Decides b (length (from_pair pairs i) ≡ 0) → length (from_pair pairs i) ≡ length pairs - i → a ≡ b
      same true true p q e = refl
      same false false p q e = refl
      same true false p q e = absurd (other (q.1 (let f : i ≡ length pairs = p.0 refl in omega (arith, e, f))))
      same false true p q e = absurd (other (p.1 (let f : length (from_pair pairs i) ≡ 0 = q.0 refl in omega (arith, e, f, k))))
