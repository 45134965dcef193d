-- The names of tables that are made of tables, or of distinct names, are distinct.
use Rattle.std.proofs.Common.{◌≡◌, ℕ, zero, suc, ◌<◌, List, [], ◌∷◌, Bool, true, false, refl, arith}
use Rattle.std.proofs.lemmas.Bool.{and_parts, true≢false}
use Rattle.std.proofs.lemmas.List.Elements.{All-nil, All-cons, All-head, All-tail}
use Rattle.std.proofs.lemmas.List.Kept.{AllPairs-cons}
use Rattle.std.specs.List.{All, AllPairs, list_any}
use Rattle.std.specs.Prelude.{◌&&◌, ◌||◌, not, length}
use Rattle.std.specs.Str.{bytes_eq}
use Rattle.tall_column.specs.Columns.{SeenColumn}
use Rattle.tall_column.specs.Tables.{AreApart}
use Rattle.tall_value.specs.Names.{are_distinct}
use Rattle.tall_grammar.specs.Lexemes.{is_text}
use Rattle.tall_local.specs.MemoryFunctions.{paired}
use Rattle.tall_local.specs.Names.{each_named}

abbrev Entry : Type 0
Entry = List ℕ × SeenColumn

pub no_names : AllPairs AreApart []
no_names = λ i j d before within. absurd (omega (arith, within))

first_apart : (e : Entry) (t : List Entry) → AllPairs AreApart (e ∷ t) → All (AreApart e) t
first_apart e t h = λ j d within. h zero (suc j) d (omega arith) (omega (arith, within))

rest_apart : (e : Entry) (t : List Entry) → AllPairs AreApart (e ∷ t) → AllPairs AreApart t
rest_apart e t h = λ i j d before within. h (suc i) (suc j) d (omega (arith, before)) (omega (arith, within))

apart_each : (f : SeenColumn → SeenColumn) (e : Entry) (t : List Entry) → All (AreApart e) t → All (AreApart (e.0, f e.1)) (each_named f t)
apart_each f e [] h = All-nil (AreApart (e.0, f e.1))
apart_each f e (x ∷ t) h = All-cons (AreApart (e.0, f e.1)) (x.0, f x.1) (each_named f t) (All-head (AreApart e) x t h) (apart_each f e t (All-tail (AreApart e) x t h))

pub distinct_each : (f : SeenColumn → SeenColumn) (t : List Entry) → AllPairs AreApart t → AllPairs AreApart (each_named f t)
distinct_each f [] h = no_names
distinct_each f (e ∷ t) h = AllPairs-cons AreApart (e.0, f e.1) (each_named f t) (apart_each f e t (first_apart e t h)) (distinct_each f t (rest_apart e t h))

neither : (a b : Bool) → not (a || b) ≡ true → (a ≡ false) × (not b ≡ true)
neither true b h = absurd cc
neither false b h = (refl, h)

apart_from : (s : List ℕ) (x : SeenColumn) (names : List (List ℕ)) (xs : List SeenColumn) → not (list_any (is_text s) names) ≡ true → All (AreApart (s, x)) (paired names xs)
apart_from s x [] xs h = All-nil (AreApart (s, x))
apart_from s x (name ∷ names) [] h = All-nil (AreApart (s, x))
apart_from s x (name ∷ names) (y ∷ xs) h =
    let w = neither (is_text s name) (list_any (is_text s) names) h in All-cons (AreApart (s, x)) (name, y) (paired names xs) w.0 (apart_from s x names xs w.1)

pub distinct_paired : (names : List (List ℕ)) (xs : List SeenColumn) → are_distinct names ≡ true → AllPairs AreApart (paired names xs)
distinct_paired [] xs h = no_names
distinct_paired (name ∷ names) [] h = no_names
distinct_paired (name ∷ names) (x ∷ xs) h =
    let both = and_parts (not (list_any (is_text name) names)) (are_distinct names) h in
    AllPairs-cons AreApart (name, x) (paired names xs) (apart_from name x names xs both.0) (distinct_paired names xs both.1)
