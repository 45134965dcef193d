-- The loops that make the names of all variables.
use Rattle.std.proofs.Common.{ℕ, zero, suc, ◌≡◌, ◌∙◌, ◌<◌, ◌+◌, ◌^◌, List, [], ◌∷◌, ◌++◌, Bool, true, false, sym, ap, subst, refl, arith, length, get_or, map, drop}
use Rattle.std.specs.Prelude.{◌&&◌, if◌then◌else◌}
use Rattle.std.specs.List.{IsDistinct, list_all, range_with_len}
use Rattle.std.specs.Str.{bytes_eq, is_utf8}
use Rattle.std.proofs.lemmas.Bool.{false≢true}
use Rattle.std.proofs.lemmas.List.{append_assoc, append-nil, drop_more, length-append}
use Rattle.std.proofs.Math.Seq.{drop-length}
use Rattle.std.proofs.lemmas.Map.Keys.{IsDistinct-push}
use Rattle.tall_store.specs.Names.{distinct_name, field_name, header_names, names_from, numbered_name, numbered_names, suffix_of, suffixed}
use Rattle.tall_value.specs.Names.{has_name}
use Rattle.tall_store.proofs.Selections.{bytes_laws}
use Rattle.tall_store.proofs.Freeness.{distinct_range, fresh_suffix, numbered_apart}

-- ---- names of a header

pub names_more : (fields names : List (List ℕ)) (k : ℕ) (name : List ℕ) (due : List (List ℕ)) → k < length fields
    → name ≡ distinct_name fields names (field_name (k + 1) (get_or fields k []))
    → names_from fields names (k + 1) (drop k fields) ≡ due → names_from fields (names ++ name ∷ []) (k + 1 + 1) (drop (k + 1) fields) ≡ due
names_more fields names k name due l n e =
    ap (λ x. names_from fields (names ++ x ∷ []) (k + 1 + 1) (drop (k + 1) fields)) n
    ∙ ap (names_from fields names (k + 1)) (sym (drop_more fields k [] l)) ∙ e

pub names_all : (fields names : List (List ℕ)) (due : List (List ℕ)) → names_from fields names (length fields + 1) (drop (length fields) fields) ≡ due → names ≡ due
names_all fields names due e = ap (names_from fields names (length fields + 1)) (sym (drop-length fields)) ∙ e

pub distinct_push : (names : List (List ℕ)) (name : List ℕ) → IsDistinct bytes_eq names → has_name names name ≡ false → IsDistinct bytes_eq (names ++ name ∷ [])
distinct_push names name d f = IsDistinct-push bytes_laws names name d f

pub no_names : IsDistinct bytes_eq []
unfolding IsDistinct
no_names = tt

-- an earlier variable has not the next name
fresh_name : (fields earlier : List (List ℕ)) (name : List ℕ) → length fields < 2 ^ 20 → length earlier < 2 ^ 20 → has_name earlier (distinct_name fields earlier name) ≡ false
fresh_name fields earlier name l m = by (has_name earlier name) refl
  where
    by : (b : Bool) → b ≡ has_name earlier name → has_name earlier (if b then suffixed name (suffix_of fields earlier name) else name) ≡ false
    by true e = fresh_suffix fields earlier name l m
    by false e = sym e

distinct_from : (fields earlier : List (List ℕ)) (position : ℕ) (left : List (List ℕ)) → length fields < 2 ^ 20 → length earlier + length left < 2 ^ 20
    → IsDistinct bytes_eq earlier → IsDistinct bytes_eq (names_from fields earlier position left)
distinct_from fields earlier position [] l m d = d
distinct_from fields earlier position (field ∷ left) l m d =
    let name : List ℕ = distinct_name fields earlier (field_name position field) in
    let long : length (earlier ++ name ∷ []) ≡ length earlier + 1 = length-append earlier (name ∷ []) in
    distinct_from fields (earlier ++ name ∷ []) (position + 1) left l (omega (arith, long, m))
    (distinct_push earlier name d (fresh_name fields earlier (field_name position field) l (omega (arith, m))))

pub distinct_header : (fields names : List (List ℕ)) → length fields < 2 ^ 20 → names ≡ header_names fields → IsDistinct bytes_eq names
distinct_header fields names l e = subst (IsDistinct bytes_eq) (sym e) (distinct_from fields [] 1 fields l (omega (arith, l)) no_names)

-- each field of a header is UTF-8
pub field_utf8 : (fields : List (List ℕ)) (k : ℕ) → k < length fields → list_all is_utf8 fields ≡ true → is_utf8 (get_or fields k []) ≡ true
field_utf8 [] k l e = absurd (omega arith)
field_utf8 (f ∷ fields) zero l e = (both (is_utf8 f) (list_all is_utf8 fields) e).0
  where
    both : (a b : Bool) → (a && b) ≡ true → (a ≡ true) × (b ≡ true)
    both true b e = (refl, e)
    both false b e = absurd (false≢true e)
field_utf8 (f ∷ fields) (suc k) l e = field_utf8 fields k (omega arith) (later (is_utf8 f) (list_all is_utf8 fields) e)
  where
    later : (a b : Bool) → (a && b) ≡ true → b ≡ true
    later true b e = e
    later false b e = absurd (false≢true e)

-- ---- lists by a function of the place

pub range_more : {X : Type 0} (f : ℕ → X) (out : List X) (n m k : ℕ) (x : X) (due : List X) → n ≡ suc m → x ≡ f k
    → out ++ map f (range_with_len k n) ≡ due → (out ++ x ∷ []) ++ map f (range_with_len (k + 1) m) ≡ due
range_more f out n m k x due l e before =
    append_assoc out (x ∷ []) (map f (range_with_len (k + 1) m))
    ∙ ap (λ y. out ++ y ∷ map f (range_with_len (k + 1) m)) e
    ∙ ap (λ j. out ++ map f (range_with_len k j)) (sym l) ∙ before

pub range_all : {X : Type 0} (f : ℕ → X) (out : List X) (n k : ℕ) (due : List X) → n ≡ 0 → out ++ map f (range_with_len k n) ≡ due → out ≡ due
range_all f out n k due l e = sym (append-nil out) ∙ ap (λ j. out ++ map f (range_with_len k j)) (sym l) ∙ e

pub distinct_numbers : (n : ℕ) → n < 2 ^ 20 → IsDistinct bytes_eq (numbered_names n)
distinct_numbers n l = distinct_range numbered_name numbered_apart 1 n (omega arith)

pub places_more : (out : List ℕ) (n m k : ℕ) (due : List ℕ) → n ≡ suc m → out ++ range_with_len k n ≡ due → (out ++ k ∷ []) ++ range_with_len (k + 1) m ≡ due
places_more out n m k due l before = append_assoc out (k ∷ []) (range_with_len (k + 1) m) ∙ ap (λ j. out ++ range_with_len k j) (sym l) ∙ before

pub places_all : (out : List ℕ) (n k : ℕ) (due : List ℕ) → n ≡ 0 → out ++ range_with_len k n ≡ due → out ≡ due
places_all out n k due l e = sym (append-nil out) ∙ ap (λ j. out ++ range_with_len k j) (sym l) ∙ e
