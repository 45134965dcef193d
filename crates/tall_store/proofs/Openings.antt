-- What an opening makes is a datastore.
use Rattle.std.proofs.Common.{ℕ, zero, suc, ◌≡◌, ◌∙◌, ◌<◌, ◌≤◌, ◌+◌, ◌^◌, List, [], ◌∷◌, ◌++◌, Bool, true, false, Option, Some, None, sym, ap, subst, refl, arith, length, get_or, map}
use Rattle.std.specs.Prelude.{◌&&◌, ◌==◌, if◌then◌else◌}
use Rattle.std.specs.Bool.{Decides}
use Rattle.std.specs.List.{AllByRecursion, IsDistinct, range_with_len}
use Rattle.std.specs.Str.{bytes_eq}
use Rattle.std.proofs.lemmas.Bool.{false≢true}
use Rattle.std.proofs.lemmas.Bool.Decides.{Decides-eqb}
use Rattle.std.proofs.lemmas.List.{length-append}
use Rattle.std.proofs.lemmas.List.FromFn.{length-map-range_with_len, length-range_with_len}
use Rattle.tall_value.specs.Names.{are_distinct}
use Rattle.tall_cut.specs.Rows.{Fields}
use Rattle.tall_store.specs.declared.format.Format.{Format}
use Rattle.tall_store.specs.Names.{distinct_name, field_name, names_from, numbered_name, variable_names}
use Rattle.tall_store.specs.Options.{SeenOptions, is_absent_or, is_accepted, is_choice, is_delimiter, is_nonempty, is_size}
use Rattle.tall_store.specs.Choices.{all_places, chosen_formats, chosen_places, detected}
use Rattle.tall_store.specs.Stores.{IsStore, SeenStore}
use Rattle.tall_store.proofs.Selections.{all_of, both_true, selected_store}
use Rattle.tall_store.proofs.HeaderNames.{no_names}

-- ---- as many names as fields

names_length : (fields earlier : List (List ℕ)) (position : ℕ) (left : List (List ℕ)) → length (names_from fields earlier position left) ≡ length earlier + length left
names_length fields earlier position [] = omega arith
names_length fields earlier position (field ∷ left) =
    names_length fields (earlier ++ distinct_name fields earlier (field_name position field) ∷ []) (position + 1) left
    ∙ ap (λ n. n + length left) (length-append earlier (distinct_name fields earlier (field_name position field) ∷ []))
    ∙ one_more (length earlier) (length left) (length (field ∷ left)) refl
  where
    one_more : (m n k : ℕ) → k ≡ suc n → m + 1 + n ≡ m + k
    one_more m n k e = omega arith

pub variables_length : (header : Bool) (first : List (List ℕ)) → length (variable_names header first) ≡ length first
variables_length true first = names_length first [] 1 first ∙ omega arith
variables_length false first = length-map-range_with_len numbered_name 1 (length first)

-- ---- as many formats as names

some_is : {X : Type 0} (x y : X) → ◌≡◌ {A = Option X} (Some x) (Some y) → x ≡ y
some_is x y e = cc

pub formats_length : (missing fields : List (List ℕ)) (n : ℕ) (given : Option (List Format)) (formats : List Format)
    → Some formats ≡ chosen_formats missing fields n given → length formats ≡ n
formats_length missing fields n None formats e =
    ap length (some_is formats (map (λ place. detected missing (get_or fields place [])) (all_places n)) e)
    ∙ length-map-range_with_len (λ place. detected missing (get_or fields place [])) 0 n
formats_length missing fields n (Some given) formats e = by_test (length given == n) (Decides-eqb (length given) n) e
  where
    none_some : (x : List Format) → ◌≡◌ {A = Option (List Format)} (Some x) None → ⊥
    none_some x e = absurd cc

    by_test : (b : Bool) → Decides b (length given ≡ n) → ◌≡◌ {A = Option (List Format)} (Some formats) (if b then Some given else None) → length formats ≡ n
    by_test true d e = ap length (some_is formats given e) ∙ d.0 refl
    by_test false d e = absurd (none_some formats e)

-- ---- all variables

in_order : (names : List (List ℕ)) (xs : List (List ℕ)) (k : ℕ) → ((i : ℕ) → i < length xs → get_or names (k + i) [] ≡ get_or xs i [])
    → map (λ place. get_or names place []) (range_with_len k (length xs)) ≡ xs
in_order names [] k e = refl
in_order names (x ∷ xs) k e =
    ap (λ y. y ∷ map (λ place. get_or names place []) (range_with_len (k + 1) (length xs))) (ap (λ n. get_or names n []) (plus_none k) ∙ e 0 (omega arith))
    ∙ ap (λ ys. x ∷ ys) (in_order names xs (k + 1) (λ i l. ap (λ n. get_or names n []) (plus_one k i) ∙ e (suc i) (omega arith)))
  where
    plus_none : (k : ℕ) → k ≡ k + 0
    plus_none k = omega arith

    plus_one : (k i : ℕ) → k + 1 + i ≡ k + suc i
    plus_one k i = omega arith

all_names : (names : List (List ℕ)) → map (λ place. get_or names place []) (all_places (length names)) ≡ names
all_names names = in_order names names 0 (λ i l. ap (λ n. get_or names n []) (none_plus i))
  where
    none_plus : (i : ℕ) → 0 + i ≡ i
    none_plus i = omega arith

below : (k n m : ℕ) → k + n ≤ m → AllByRecursion (λ place. place < m) (range_with_len k n)
below k zero m l = tt
below k (suc n) m l = (omega arith, below (k + 1) n m (omega arith))

whole_store : (store : SeenStore) → IsStore store → IsDistinct bytes_eq store.names → IsStore (record store { selected = all_places (length store.names) })
whole_store store s d = record {
  some_files = s.some_files;
  few_files = s.few_files;
  distinct_files = s.distinct_files;
  delimiter = s.delimiter;
  size = s.size;
  few_variables = s.few_variables;
  formats = s.formats;
  places = all_of (λ place. place < length store.names) (all_places (length store.names)) (below 0 (length store.names) (length store.names) (omega arith));
  few_selected = equal_le (length (all_places (length store.names))) (length store.names) (length-range_with_len 0 (length store.names));
  distinct = subst (IsDistinct bytes_eq) (sym (all_names store.names)) d;
}
  where
    equal_le : (m n : ℕ) → m ≡ n → m ≤ n
    equal_le m n e = omega arith

-- ---- the datastore that is made

-- the options that were accepted
pub record Accepted (o : SeenOptions) : Type 0 where
  files : is_choice o.files ≡ true
  delimiter : is_delimiter o.delimiter ≡ true
  size : is_size o.size ≡ true
  selected : is_absent_or is_choice o.selected ≡ true

pub accepted : (o : SeenOptions) → is_accepted o ≡ true → Accepted o
accepted o e =
    let p = both_true (is_choice o.files && is_delimiter o.delimiter && is_size o.size && is_absent_or is_choice o.selected) (is_absent_or is_nonempty o.formats) e in
    let q = both_true (is_choice o.files && is_delimiter o.delimiter && is_size o.size) (is_absent_or is_choice o.selected) p.0 in
    let r = both_true (is_choice o.files && is_delimiter o.delimiter) (is_size o.size) q.0 in
    let s = both_true (is_choice o.files) (is_delimiter o.delimiter) r.0 in
    record { files = s.0; delimiter = s.1; size = r.1; selected = q.1 }

pub some_files : (files : List (List ℕ)) → is_choice files ≡ true → 0 < length files
some_files [] e = absurd (false≢true e)
some_files (file ∷ files) e = omega arith

abbrev pub store_with : SeenOptions → Fields → List (List ℕ) → List Format → List ℕ → SeenStore
store_with o first names formats selected = record {
  files = o.files;
  delimiter = o.delimiter;
  size = o.size;
  missing = o.missing;
  header = o.header;
  names = names;
  formats = formats;
  selected = selected;
  first = first;
}

selection : (store : SeenStore) (o : Option (List (List ℕ))) (selected : List ℕ) → IsStore store → IsDistinct bytes_eq store.names → is_absent_or is_choice o ≡ true
    → Some selected ≡ chosen_places store.names o → IsStore (record store { selected = selected })
selection store None selected s d a e =
    subst (λ ps. IsStore (record store { selected = ps })) (sym (some_is selected (all_places (length store.names)) e)) (whole_store store s d)
selection store (Some wanted) selected s d a e = selected_store store wanted selected s a (sym e)

pub made_store : (o : SeenOptions) (first fields : Fields) (names : List (List ℕ)) (formats : List Format) (selected : List ℕ)
    → is_accepted o ≡ true → length o.files < 2 ^ 20 → length names < 2 ^ 20 → IsDistinct bytes_eq names
    → Some formats ≡ chosen_formats o.missing fields (length names) o.formats → Some selected ≡ chosen_places names o.selected
    → IsStore (store_with o first names formats selected)
made_store o first fields names formats selected a few short d f p =
    let x : Accepted o = accepted o a in
    selection (store_with o first names formats []) o.selected selected
    (record {
      some_files = some_files o.files x.files;
      few_files = few;
      distinct_files = (both_true (is_nonempty o.files) (are_distinct o.files) x.files).1;
      delimiter = x.delimiter;
      size = x.size;
      few_variables = short;
      formats = formats_length o.missing fields (length names) o.formats formats f;
      places = all_of (λ place. place < length names) [] tt;
      few_selected = omega arith;
      distinct = no_names;
    }) d x.selected p

pub files_named : (o : SeenOptions) → is_accepted o ≡ true → 0 < length o.files
files_named o e = some_files o.files (accepted o e).files
