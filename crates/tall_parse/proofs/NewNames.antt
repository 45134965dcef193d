-- The names of functions in a set, beside those in the list of the reader.
use Rattle.std.proofs.Common.{◌≡◌, refl, ◌∙◌, sym, ap, ℕ, List, [], ◌∷◌, Bool, true, false, cond, ◌&&◌, ◌||◌, not, if◌then◌else◌, String, string_bytes, Some, None}
use Rattle.std.specs.BTreeSet.{BTreeSet, UpdatesBy, contains_text}
use Rattle.std.specs.Cmp.Lexicographic.{slice_cmp}
use Rattle.std.specs.List.{list_any}
use Rattle.std.specs.Ordering.{nat_cmp}
use Rattle.std.specs.String.{string_cmp}
use Rattle.std.proofs.lemmas.Cmp.{nat_list_eq_equiv}
use Rattle.std.proofs.lemmas.Map.Text.{btree_set_updates_text}
use Rattle.tall_grammar.specs.Lexemes.{Lexeme, is_text}
use Rattle.tall_grammar.specs.Readers.{Input, chosen, pure, stopped, take_as, front_as, is_name}
use Rattle.tall_grammar.specs.ScriptReader.{new_name}
use Rattle.tall_expr.proofs.Turns.{among}
use Rattle.tall_parse.specs.FunctionNames.{Holds, texts_of}

either : {x : Bool} (a b : Bool) → x ≡ cond a true b → x ≡ (a || b)
either true b h = h
either false b h = h

-- a set that got a name
pub one_added : {Y : Type 0} (name : List ℕ) (old new : BTreeSet (String Y))
    → UpdatesBy string_cmp (λ k. slice_cmp nat_cmp name (string_bytes k)) old new true → Holds new (name ∷ texts_of old)
one_added name old new updates = λ text.
    let found = sym (among text new.keys) ∙ btree_set_updates_text name old new true updates text in
    let turned = ap (λ b. cond b true (contains_text old text)) (nat_list_eq_equiv.symm name text) in
    let seen = ap (λ b. cond (is_text text name) true b) (among text old.keys) in
    either (is_text text name) (list_any (is_text text) (texts_of old)) (found ∙ turned ∙ seen)

-- the same, beside a list that the set has
pub one_more_name : {Y : Type 0} (name : List ℕ) (names : List (List ℕ)) (old new : BTreeSet (String Y))
    → Holds new (name ∷ texts_of old) → Holds old names → Holds new (name ∷ names)
one_more_name name names old new more held = λ text. more text ∙ ap (λ b. is_text text name || b) (held text)

first_alike : {Y : Type 0} (set : BTreeSet (String Y)) (names : List (List ℕ)) → Holds set names
    → (ts : List Lexeme) → front_as (new_name (texts_of set)) ts ≡ front_as (new_name names) ts
first_alike set names held [] = refl
first_alike set names held (t ∷ ts) = ap (λ b. if is_name t && not b then Some t.text else None) (held t.text)

-- a name is new to a set where it is new to the list
pub taken_alike : {Y : Type 0} (set : BTreeSet (String Y)) (names : List (List ℕ)) → Holds set names
    → (i : Input) → take_as (new_name (texts_of set)) i ≡ take_as (new_name names) i
taken_alike set names held i = ap (λ o. chosen o pure stopped i) (first_alike set names held i.rest)
