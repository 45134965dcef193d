-- Lists of names: what is left of them, and their places.
use Rattle.std.proofs.Common.{ℕ, ◌≡◌, ◌∙◌, ◌<◌, ◌+◌, List, [], ◌∷◌, ◌++◌, Bool, true, false, Option, Some, None, sym, ap, refl, length, get_or, map, drop}
use Rattle.std.specs.Prelude.{◌&&◌, not, option_map}
use Rattle.std.proofs.lemmas.List.{append_assoc, append-nil, drop_more}
use Rattle.std.proofs.Math.Seq.{drop-length}
use Rattle.tall_value.specs.Names.{are_distinct, has_name}
use Rattle.tall_store.specs.Choices.{cons_option, place_of, places_of}

-- ---- copies

pub copied_more : {X Y : Type 0} (f : X → Y) (out : List Y) (xs : List X) (i : ℕ) (d : X) (y : Y) → i < length xs → y ≡ f (get_or xs i d)
    → out ++ map f (drop i xs) ≡ map f xs → (out ++ y ∷ []) ++ map f (drop (i + 1) xs) ≡ map f xs
copied_more f out xs i d y l e before =
    append_assoc out (y ∷ []) (map f (drop (i + 1) xs))
    ∙ ap (λ z. out ++ z ∷ map f (drop (i + 1) xs)) e
    ∙ ap (λ ys. out ++ map f ys) (sym (drop_more xs i d l)) ∙ before

-- ---- distinct names

pub distinct_more : (names : List (List ℕ)) (i : ℕ) (due : Bool) → i < length names → has_name (drop (i + 1) names) (get_or names i []) ≡ false
    → are_distinct (drop i names) ≡ due → are_distinct (drop (i + 1) names) ≡ due
distinct_more names i due l n e =
    ap (λ b. not b && are_distinct (drop (i + 1) names)) (sym n) ∙ ap are_distinct (sym (drop_more names i [] l)) ∙ e

pub distinct_not : (names : List (List ℕ)) (i : ℕ) (due : Bool) → i < length names → has_name (drop (i + 1) names) (get_or names i []) ≡ true
    → are_distinct (drop i names) ≡ due → false ≡ due
distinct_not names i due l n e =
    ap (λ b. not b && are_distinct (drop (i + 1) names)) (sym n) ∙ ap are_distinct (sym (drop_more names i [] l)) ∙ e

pub distinct_all : (names : List (List ℕ)) (due : Bool) → are_distinct (drop (length names) names) ≡ due → true ≡ due
distinct_all names due e = ap are_distinct (sym (drop-length names)) ∙ e

-- ---- places

-- some places, before those of further names, where these are there
abbrev pub found_before : List ℕ → Option (List ℕ) → Option (List ℕ)
found_before places more = option_map (λ found. places ++ found) more

pub found_start : (o : Option (List ℕ)) → found_before [] o ≡ o
found_start None = refl
found_start (Some found) = refl

before_cons : (places : List ℕ) (place : Option ℕ) (at : ℕ) (more : Option (List ℕ)) → place ≡ Some at
    → found_before places (cons_option place more) ≡ found_before (places ++ at ∷ []) more
before_cons places None at more e = absurd cc
before_cons places (Some p) at None e = refl
before_cons places (Some p) at (Some found) e =
    ap (λ (o : Option ℕ). found_before places (cons_option o (Some found))) e ∙ ap (λ (xs : List ℕ). Some xs) (sym (append_assoc places (at ∷ []) found))

pub found_more : (names wanted : List (List ℕ)) (i place : ℕ) (places : List ℕ) (due : Option (List ℕ)) → i < length wanted → Some place ≡ place_of names (get_or wanted i [])
    → found_before places (places_of names (drop i wanted)) ≡ due → found_before (places ++ place ∷ []) (places_of names (drop (i + 1) wanted)) ≡ due
found_more names wanted i place places due l p e =
    sym (before_cons places (place_of names (get_or wanted i [])) place (places_of names (drop (i + 1) wanted)) (sym p))
    ∙ ap (λ ws. found_before places (places_of names ws)) (sym (drop_more wanted i [] l)) ∙ e

pub found_not : (names wanted : List (List ℕ)) (i : ℕ) (places : List ℕ) (due : Option (List ℕ)) → i < length wanted → None ≡ place_of names (get_or wanted i [])
    → found_before places (places_of names (drop i wanted)) ≡ due → None ≡ due
found_not names wanted i places due l p e =
    ap (λ (o : Option ℕ). found_before places (cons_option o (places_of names (drop (i + 1) wanted)))) p
    ∙ ap (λ ws. found_before places (places_of names ws)) (sym (drop_more wanted i [] l)) ∙ e

pub found_all : (names wanted : List (List ℕ)) (places : List ℕ) (due : Option (List ℕ))
    → found_before places (places_of names (drop (length wanted) wanted)) ≡ due → Some places ≡ due
found_all names wanted places due e =
    ap (λ (xs : List ℕ). Some xs) (sym (append-nil places)) ∙ ap (λ ws. found_before places (places_of names ws)) (sym (drop-length wanted)) ∙ e
