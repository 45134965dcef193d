-- Lists and their rows.
use Rattle.std.specs.Prelude.{Some, if◌then◌else◌, option_map, slice_get}
use Rattle.std.specs.List.{slice_range}
use Rattle.std.proofs.Common.{ℕ, ◌≡◌, ◌<◌, ◌≤◌, ◌+◌, ◌-◌, List, [], ◌∷◌, ◌++◌, length, map, take, drop, get_or, set, Bool, true, false, sym, ◌∙◌, ap, arith, inl, inr}
use Rattle.std.proofs.lemmas.List.{take-map, drop-map, drop_more, append_assoc, length-drop, get_or-drop, take_more, take_all, map_push, take-set, take_more_set}
use Rattle.std.proofs.lemmas.Option.{slice_get-map, slice_get_within, get_or_from_slice_get, slice_get_cases}
use Rattle.tall_value.specs.Cells.{Seen, logical}
use Rattle.tall_value.specs.Filters.{kept}

pub range-map : {X Y : Type 0} (f : X → Y) (xs : List X) (i j : ℕ) → slice_range (map f xs) i j ≡ map f (slice_range xs i j)
range-map f xs i j = ap (λ v. take (j - i) v) (drop-map f i xs) ∙ take-map f (j - i) (drop i xs)

pub get-map : {X Y : Type 0} (f : X → Y) (xs : List X) (i : ℕ) (x : X) → slice_get xs i ≡ Some x → slice_get (map f xs) i ≡ Some (f x)
get-map f xs i x h = slice_get-map f xs i ∙ ap (option_map f) h

-- the filter of what is left of the rows, a row further on

kept_here : {X : Type 0} (f : X → Seen) (xs : List X) (mask : List Bool) (row : ℕ) (x : X) (b : Bool)
    → drop row xs ≡ x ∷ drop (row + 1) xs → row < length mask → get_or mask row false ≡ b
    → kept (map f (drop row xs)) (map (λ m. logical m) (drop row mask))
    ≡ kept (f x ∷ map f (drop (row + 1) xs)) (logical b ∷ map (λ m. logical m) (drop (row + 1) mask))
kept_here f xs mask row x b e l t =
    ap (λ v. kept (map f v) (map (λ m. logical m) (drop row mask))) e
    ∙ ap (λ v. kept (map f (x ∷ drop (row + 1) xs)) (map (λ m. logical m) v)) (drop_more mask row false l ∙ ap (λ m. m ∷ drop (row + 1) mask) t)

pub kept_true : {X : Type 0} (f : X → Seen) (xs : List X) (mask : List Bool) (row : ℕ) (x : X) (out all : List Seen)
    → drop row xs ≡ x ∷ drop (row + 1) xs → row < length mask → get_or mask row false ≡ true
    → out ++ kept (map f (drop row xs)) (map (λ m. logical m) (drop row mask)) ≡ all
    → (out ++ f x ∷ []) ++ kept (map f (drop (row + 1) xs)) (map (λ m. logical m) (drop (row + 1) mask)) ≡ all
kept_true f xs mask row x out all e l t h =
    append_assoc out (f x ∷ []) _ ∙ ap (λ v. out ++ v) (sym (kept_here f xs mask row x true e l t)) ∙ h

pub kept_false : {X : Type 0} (f : X → Seen) (xs : List X) (mask : List Bool) (row : ℕ) (x : X) (out all : List Seen)
    → drop row xs ≡ x ∷ drop (row + 1) xs → row < length mask → get_or mask row false ≡ false
    → out ++ kept (map f (drop row xs)) (map (λ m. logical m) (drop row mask)) ≡ all
    → out ++ kept (map f (drop (row + 1) xs)) (map (λ m. logical m) (drop (row + 1) mask)) ≡ all
kept_false f xs mask row x out all e l t h =
    ap (λ v. out ++ v) (sym (kept_here f xs mask row x false e l t)) ∙ h

-- ---- rows one after the other

pub drop_get : {X : Type 0} (xs : List X) (i : ℕ) (x : X) → slice_get xs i ≡ Some x → drop i xs ≡ x ∷ drop (i + 1) xs
drop_get xs i x h = drop_more xs i x (slice_get_within xs i x h) ∙ ap (λ y. y ∷ drop (i + 1) xs) (get_or_from_slice_get xs i x x h)

pub range_more : {X : Type 0} (xs out : List X) (from row : ℕ) (x : X) → from ≤ row → slice_get xs row ≡ Some x
    → (out ++ slice_range xs from row) ++ x ∷ [] ≡ out ++ slice_range xs from (row + 1)
range_more xs out from row x p h =
    let within : row < length xs = slice_get_within xs row x h in
    let here : row - from < length (drop from xs) = omega (arith, length-drop from xs, within) in
    let there : from + (row - from) ≡ row = omega (arith, p) in
    let next : row + 1 - from ≡ row - from + 1 = omega (arith, p) in
    let is : get_or (drop from xs) (row - from) x ≡ x =
    get_or-drop from xs (row - from) x ∙ ap (λ k. get_or xs k x) there ∙ get_or_from_slice_get xs row x x h in
    append_assoc out (slice_range xs from row) (x ∷ [])
    ∙ ap (λ v. out ++ v) (sym (ap (λ n. take n (drop from xs)) next ∙ take_more (drop from xs) (row - from) x here ∙ ap (λ y. take (row - from) (drop from xs) ++ y ∷ []) is))

pub range_none : {X : Type 0} (xs : List X) (i : ℕ) → slice_range xs i i ≡ []
range_none xs i = ap (λ n. take n (drop i xs)) (let e : i - i ≡ 0 = omega arith in e)

pub range_whole : {X : Type 0} (xs : List X) → slice_range xs 0 (length xs) ≡ xs
range_whole xs = take_all (length xs - 0) xs (omega arith)

pub get_here : {X : Type 0} (xs : List X) (i : ℕ) (x : X) → i < length xs → x ≡ get_or xs i x → slice_get xs i ≡ Some x
get_here xs i x l is = elim (slice_get_cases xs i).1 [ inl h ↦ h.2 ∙ ap Some (sym (is ∙ get_or_from_slice_get xs i h.0 x h.2)) | inr h ↦ absurd (omega (arith, h.0, l)) ]

-- ---- a loop that filters

pub some_at : {X : Type 0} (xs : List X) (i : ℕ) → i < length xs → (x : X) × (drop i xs ≡ x ∷ drop (i + 1) xs)
some_at xs i l = elim (slice_get_cases xs i).1 [ inl h ↦ (h.0, drop_get xs i h.0 h.2) | inr h ↦ absurd (omega (arith, h.0, l)) ]

pub kept_pushed : {X : Type 0} (f : X → Seen) (xs : List X) (mask : List Bool) (row : ℕ) (x : X) (out next : List X) (all : List Seen)
    → next ≡ out ++ x ∷ [] → drop row xs ≡ x ∷ drop (row + 1) xs → row < length mask → get_or mask row false ≡ true
    → map f out ++ kept (map f (drop row xs)) (map (λ m. logical m) (drop row mask)) ≡ all
    → map f next ++ kept (map f (drop (row + 1) xs)) (map (λ m. logical m) (drop (row + 1) mask)) ≡ all
kept_pushed f xs mask row x out next all n e l t h =
    ap (λ v. v ++ kept (map f (drop (row + 1) xs)) (map (λ m. logical m) (drop (row + 1) mask))) (ap (map f) n ∙ map_push f out x)
    ∙ kept_true f xs mask row x (map f out) all e l t h

pub kept_skipped : {X : Type 0} (f : X → Seen) (xs : List X) (mask : List Bool) (row : ℕ) (out next : List X) (all : List Seen)
    → next ≡ out → row < length xs → row < length mask → get_or mask row false ≡ false
    → map f out ++ kept (map f (drop row xs)) (map (λ m. logical m) (drop row mask)) ≡ all
    → map f next ++ kept (map f (drop (row + 1) xs)) (map (λ m. logical m) (drop (row + 1) mask)) ≡ all
kept_skipped f xs mask row out next all n w l t h =
    let here = some_at xs row w in
    ap (λ v. map f v ++ kept (map f (drop (row + 1) xs)) (map (λ m. logical m) (drop (row + 1) mask))) n
    ∙ kept_false f xs mask row here.0 (map f out) all here.1 l t h

-- the same where the rows that are kept stand at the front of a list of places

pub gathered : {X : Type 0} (f : X → Seen) (xs : List X) (mask : List Bool) (row : ℕ) (x : X) (b : Bool) (slots : List X) (count next : ℕ) (all : List Seen)
    → next ≡ count + (if b then 1 else 0) → count < length slots → x ≡ get_or xs row x → row < length xs → row < length mask → get_or mask row false ≡ b
    → map f (take count slots) ++ kept (map f (drop row xs)) (map (λ m. logical m) (drop row mask)) ≡ all
    → map f (take next (set slots count x)) ++ kept (map f (drop (row + 1) xs)) (map (λ m. logical m) (drop (row + 1) mask)) ≡ all
gathered f xs mask row x true slots count next all n c is w l t h =
    kept_pushed f xs mask row x (take count slots) (take next (set slots count x)) all
    (ap (λ k. take k (set slots count x)) n ∙ take_more_set slots count x c) (drop_get xs row x (get_here xs row x w is)) l t h
gathered f xs mask row x false slots count next all n c is w l t h =
    let same : next ≡ count = omega (arith, n) in
    kept_skipped f xs mask row (take count slots) (take next (set slots count x)) all
    (ap (λ k. take k (set slots count x)) same ∙ take-set slots count x) w l t h
