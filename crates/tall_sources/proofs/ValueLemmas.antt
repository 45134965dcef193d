-- The value of an option by the scalar or the list that is given.
use Rattle.std.specs.Prelude.{◌≡◌, refl, ℕ, ◌+◌, pos, negsuc, List, [], ◌∷◌, ◌++◌, map, drop, slice_get, Option, None, Some, option_map, option_and_then, String, string_bytes}
use Rattle.std.proofs.Common.{ap, sym, ◌∙◌}
use Rattle.std.proofs.lemmas.List.{append_assoc, drop_more}
use Rattle.std.proofs.lemmas.Option.{get_or_from_slice_get, slice_get_within}
use Rattle.tall_value.specs.Cells.{whole, logical, double, text}
use Rattle.tall_local.specs.Applications.{text_of}
use Rattle.tall_local.specs.Lists.{all_of, in_front_of}
use Rattle.tall_local.specs.Memory.{Memory, scalar, column, table, texts, scalar_in}
use Rattle.tall_script.specs.StoreArguments.{formats, formats_given, size_given, texts_given, truth_given}
use Rattle.tall_local.specs.Names.{named}
use Rattle.tall_sources.specs.Given.{size_in, texts_in, truth_in}

-- ---- texts

pub list_of_texts : (m : Memory) (ts : List (List ℕ)) → Some ts ≡ texts_in m → Some ts ≡ texts_given m
list_of_texts (scalar c) ts h = absurd cc
list_of_texts (column x) ts h = absurd cc
list_of_texts (table t) ts h = absurd cc
list_of_texts (texts us) ts h = h

abbrev pub one : List ℕ → List (List ℕ)
one t = t ∷ []

pub one_of_texts : (m : Memory) → None ≡ texts_in m → option_map one (text_of (scalar_in m)) ≡ texts_given m
one_of_texts (scalar c) h = refl
one_of_texts (column x) h = refl
one_of_texts (table t) h = refl
one_of_texts (texts us) h = absurd cc

map_append : {X Y : Type 0} (g : X → Y) (us vs : List X) → map g (us ++ vs) ≡ map g us ++ map g vs
map_append g [] vs = refl
map_append g (u ∷ us) vs = ap (λ zs. g u ∷ zs) (map_append g us vs)

pub kept_more : {Z : Type 0} (kept : List (String Z)) (s : String Z) (new : List (String Z)) (ts : List (List ℕ)) (i : ℕ) (t : List ℕ) → new ≡ kept ++ s ∷ [] → string_bytes s ≡ t → slice_get ts i ≡ Some t
    → map (λ s. string_bytes s) kept ++ drop i ts ≡ ts → map (λ s. string_bytes s) new ++ drop (i + 1) ts ≡ ts
kept_more kept s new ts i t e is at h =
    let done = map (λ s. string_bytes s) kept in let rest = drop (i + 1) ts in
    ap (λ xs. map (λ s. string_bytes s) xs ++ rest) e
    ∙ (ap (λ ys. ys ++ rest) (map_append (λ s. string_bytes s) kept (s ∷ []))
    ∙ (append_assoc done (string_bytes s ∷ []) rest
    ∙ (ap (λ u. done ++ u ∷ rest) (is ∙ sym (get_or_from_slice_get ts i t t at))
    ∙ (ap (λ ys. done ++ ys) (sym (drop_more ts i t (slice_get_within ts i t at))) ∙ h))))

-- ---- sizes, logicals, formats

pub size_of_scalar : (m : Memory) → size_in (scalar_in m) ≡ size_given m
size_of_scalar (scalar (whole k n)) = refl
size_of_scalar (scalar (logical b)) = refl
size_of_scalar (scalar (double None)) = refl
size_of_scalar (scalar (double (Some (pos n)))) = refl
size_of_scalar (scalar (double (Some (negsuc n)))) = refl
size_of_scalar (scalar (text t)) = refl
size_of_scalar (column x) = refl
size_of_scalar (table t) = refl
size_of_scalar (texts us) = refl

pub truth_of_scalar : (m : Memory) → truth_in (scalar_in m) ≡ truth_given m
truth_of_scalar (scalar (whole k n)) = refl
truth_of_scalar (scalar (logical b)) = refl
truth_of_scalar (scalar (double d)) = refl
truth_of_scalar (scalar (text t)) = refl
truth_of_scalar (column x) = refl
truth_of_scalar (table t) = refl
truth_of_scalar (texts us) = refl

pub formats_of_list : (m : Memory) → option_and_then (all_of (named formats)) (texts_in m) ≡ formats_given m
formats_of_list (scalar c) = refl
formats_of_list (column x) = refl
formats_of_list (table t) = refl
formats_of_list (texts us) = refl

-- ---- a list, one after another

-- what is done, before the answers for the rest
abbrev pub followed : {A : Type 0} → List A → Option (List A) → Option (List A)
followed done more = option_map (λ rest. done ++ rest) more

followed_more : {A : Type 0} (done : List A) (a : A) (more : Option (List A)) → followed done (in_front_of (Some a) more) ≡ followed (done ++ a ∷ []) more
followed_more done a None = refl
followed_more done a (Some rest) = ap (λ xs. Some xs) (sym (append_assoc done (a ∷ []) rest))

pub all_of_turn : {A B : Type 0} (f : A → Option B) (xs : List A) (i : ℕ) (x : A) (done : List B) (b : B) (all : Option (List B)) → slice_get xs i ≡ Some x → Some b ≡ f x
    → followed done (all_of f (drop i xs)) ≡ all → followed (done ++ b ∷ []) (all_of f (drop (i + 1) xs)) ≡ all
all_of_turn f xs i x done b all at is h =
    sym (followed_more done b (all_of f (drop (i + 1) xs)))
    ∙ (ap (λ o. followed done (in_front_of o (all_of f (drop (i + 1) xs)))) is
    ∙ (ap (λ y. followed done (all_of f (y ∷ drop (i + 1) xs))) (sym (get_or_from_slice_get xs i x x at))
    ∙ (ap (λ ys. followed done (all_of f ys)) (sym (drop_more xs i x (slice_get_within xs i x at))) ∙ h)))

pub all_of_stop : {A B : Type 0} (f : A → Option B) (xs : List A) (i : ℕ) (x : A) (done : List B) (all : Option (List B)) → slice_get xs i ≡ Some x → None ≡ f x
    → followed done (all_of f (drop i xs)) ≡ all → None ≡ all
all_of_stop f xs i x done all at is h =
    ap (λ o. followed done (in_front_of o (all_of f (drop (i + 1) xs)))) is
    ∙ (ap (λ y. followed done (all_of f (y ∷ drop (i + 1) xs))) (sym (get_or_from_slice_get xs i x x at))
    ∙ (ap (λ ys. followed done (all_of f ys)) (sym (drop_more xs i x (slice_get_within xs i x at))) ∙ h))
