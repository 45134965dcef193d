-- The columns that groups give.
use Rattle.std.specs.Prelude.{◌≡◌, refl, ℕ, ℤ, pos, zero, suc, ◌+◌, ◌<◌, ◌≤◌, ◌^◌, Bool, true, false, if◌then◌else◌, Option, None, Some, List, [], ◌∷◌, ◌++◌, length, get_or, map, option_map, take, slice_get}
use Rattle.std.proofs.Common.{ap, sym, subst, ◌∙◌, arith}
use Rattle.std.specs.List.{All, filter}
use Rattle.std.proofs.lemmas.List.{length-map}
use Rattle.tall_value.specs.declared.class.Class.{Class}
use Rattle.tall_value.specs.declared.class.Kind.{Kind}
use Rattle.tall_value.specs.declared.class.Kind.TheVariants.{Double}
use Rattle.tall_value.specs.declared.functions.Method.TheVariants.{Count}
use Rattle.tall_value.specs.Cells.{Seen, double}
use Rattle.tall_value.specs.Columns.{HasKind}
use Rattle.tall_value.specs.Groups.{group_counts, group_data, group_keys, is_of_group}
use Rattle.tall_value.specs.Reductions.{count}
use Rattle.tall_value.proofs.GroupLaws.{summary_kind}
use Rattle.tall_dense.specs.Columns.{SeenColumn, with_cell}
use Rattle.tall_group.specs.Groups.{IsGroupsOf}
use Rattle.tall_group.specs.Keys.{AreSorted, StandAt, found}
use Rattle.tall_group.specs.Places.{AreOf, Data, group_at, key_data}
use Rattle.tall_group.specs.States.{datum}
use Rattle.tall_group.specs.Summaries.{all_some, columns_given, count_at, some_in_front}
use Rattle.tall_group.proofs.GroupLemmas.{get_some, rows_few}
use Rattle.tall_group.proofs.OrderLemmas.{found_keys, keys_rise, one_rising}
use Rattle.tall_group.proofs.RowLemmas.{column_more, mapped_more}

-- ---- one cell more, or none

some_more : (x c : Seen) (xs : List (Option Seen)) (cs : List Seen) (o : Option (List Seen)) → ((ds : List Seen) → o ≡ Some ds → all_some (xs ++ Some c ∷ []) ≡ Some (ds ++ c ∷ [])) → some_in_front (Some x) o ≡ Some cs
    → some_in_front (Some x) (all_some (xs ++ Some c ∷ [])) ≡ Some (cs ++ c ∷ [])
some_more x c xs cs None go h = absurd cc
some_more x c xs cs (Some ds) go h = (let f : x ∷ ds ≡ cs = cc in ap (some_in_front (Some x)) (go ds refl) ∙ ap (λ es. Some (es ++ c ∷ [])) f)

all_more : (xs : List (Option Seen)) (cs : List Seen) (c : Seen) → all_some xs ≡ Some cs → all_some (xs ++ Some c ∷ []) ≡ Some (cs ++ c ∷ [])
all_more [] cs c h = (let e : [] ≡ cs = cc in ap (λ ds. Some (ds ++ c ∷ [])) e)
all_more (None ∷ xs) cs c h = absurd cc
all_more (Some x ∷ xs) cs c h = some_more x c xs cs (all_some xs) (λ ds e. all_more xs ds c e) h

pub cells_more : (f : ℕ → Option Seen) (ps : List ℕ) (i : ℕ) (c : Seen) (cs : List Seen) → i < length ps → f (get_or ps i 0) ≡ Some c → all_some (map f (take i ps)) ≡ Some cs
    → all_some (map f (take (i + 1) ps)) ≡ Some (cs ++ c ∷ [])
cells_more f ps i c cs l e a =
    ap all_some (mapped_more f ps i (get_or ps i 0) (sym (get_some ps i 0 l)) ∙ ap (λ o. map f (take i ps) ++ o ∷ []) e) ∙ all_more (map f (take i ps)) cs c a

none_in_front : (o : Option Seen) → some_in_front o None ≡ None
none_in_front (Some c) = refl
none_in_front None = refl

pub none_there : (f : ℕ → Option Seen) (ps : List ℕ) (i : ℕ) → i < length ps → f (get_or ps i 0) ≡ None → all_some (map f ps) ≡ None
none_there f [] i l e = absurd (omega arith)
none_there f (q ∷ ps) zero l e = ap (λ o. some_in_front o (all_some (map f ps))) e
none_there f (q ∷ ps) (suc i) l e = ap (some_in_front (f q)) (none_there f ps i (omega arith) e) ∙ none_in_front (f q)

pub count_more : (f : ℕ → Seen) (ps : List ℕ) (i : ℕ) (class : Class) (old new : SeenColumn) (d : Seen) → i < length ps → old ≡ record { class = class; cells = map f (take i ps) } → new ≡ with_cell old d → d ≡ f (get_or ps i 0)
    → new ≡ record { class = class; cells = map f (take (i + 1) ps) }
count_more f ps i class old new d l o n e = column_more f class ps i (get_or ps i 0) old new d (sym (get_some ps i 0 l)) o n e

-- ---- sorted keys, each with its place

-- what is made of places is what is made of the keys there
pub stand_mapped : {A : Type 0} (keys : List Seen) (ps : List ℕ) (sorted : List Seen) (f : ℕ → A) (g : Seen → A) → StandAt keys ps sorted → ((p : ℕ) (c : Seen) → p < length keys → slice_get keys p ≡ Some c → f p ≡ g c) → map f ps ≡ map g sorted
stand_mapped keys [] [] f g s h = refl
stand_mapped keys (p ∷ ps) (c ∷ cs) f g s h = ap (λ x. x ∷ map f ps) (h p c s.0 (get_some keys p c s.0 ∙ ap Some (s.1 c))) ∙ ap (λ xs. g c ∷ xs) (stand_mapped keys ps cs f g s.2 h)
stand_mapped keys [] (c ∷ cs) f g s h = absurd s
stand_mapped keys (p ∷ ps) [] f g s h = absurd s

pub stand_within : (keys : List Seen) (ps : List ℕ) (sorted : List Seen) → StandAt keys ps sorted → (i d : ℕ) → i < length ps → get_or ps i d < length keys
stand_within keys [] [] s i d l = absurd (omega arith)
stand_within keys (p ∷ ps) (c ∷ cs) s zero d l = s.0
stand_within keys (p ∷ ps) (c ∷ cs) s (suc i) d l = stand_within keys ps cs s.2 i d (omega arith)
stand_within keys [] (c ∷ cs) s i d l = absurd s
stand_within keys (p ∷ ps) [] s i d l = absurd s

-- the sorted keys are those of the definition
pub sorted_keys_are : {S : Type 0} (of : Data → S → Type 0) (k : Kind) (table sorted ks vs : List Seen) (ps : List ℕ) (states : List S) → AreSorted table ps sorted → All (HasKind k) sorted → All (HasKind k) ks → IsGroupsOf of table states ks vs → sorted ≡ group_keys ks
sorted_keys_are of k table sorted ks vs ps states s a b g =
    one_rising k sorted (group_keys ks) a (summary_kind Count k k (k ∷ Double ∷ []) ks ks (group_keys ks ∷ group_counts ks ∷ []) refl b b refl refl).0 s.rising (keys_rise k ks b)
    (λ c. s.same c ∙ (g.found_in c ∙ sym (found_keys c ks)))

-- ---- counts

rows_by : (b : Bool) (k v : Seen) (ds js : List Seen) → length ds ≡ length js → length (if b then v ∷ ds else ds) ≡ length (if b then k ∷ js else js)
rows_by true k v ds js h = omega (arith, h)
rows_by false k v ds js h = h

group_rows : (key : Seen) (ks vs : List Seen) → length ks ≡ length vs → length (group_data key ks vs) ≡ length (filter (is_of_group key) ks)
group_rows key [] vs h = refl
group_rows key (k ∷ ks) [] h = absurd (omega (arith, h))
group_rows key (k ∷ ks) (v ∷ vs) h = rows_by (is_of_group key k) k v (group_data key ks vs) (filter (is_of_group key) ks) (group_rows key ks vs (omega (arith, h)))

pub counts_are : {S : Type 0} (of : Data → S → Type 0) (rows : S → ℕ) (nothing : S) → ((ds : Data) (s : S) → of ds s → rows s ≡ length ds) → (table sorted ks vs : List Seen) (ps : List ℕ) (states : List S)
    → StandAt table ps sorted → sorted ≡ group_keys ks → IsGroupsOf of table states ks vs → map (count_at rows nothing states) ps ≡ group_counts ks
counts_are {S} of rows nothing rows_of table sorted ks vs ps states s e g =
    stand_mapped table ps sorted (count_at rows nothing states) (λ key. count (filter (is_of_group key) ks)) s
    (λ p c l h.
    let n : rows (get_or states p nothing) ≡ length (filter (is_of_group c) ks) =
    rows_of (group_at table ks vs p) (get_or states p nothing) (g.data_at p nothing (omega (arith, l, g.long)))
    ∙ (ap (λ o. length (key_data ks vs o)) h ∙ (length-map (group_data c ks vs) datum ∙ group_rows c ks vs g.even)) in
    ap (λ n. double (Some (pos n))) n)
    ∙ ap (map (λ key. count (filter (is_of_group key) ks))) e

-- ---- values

pub values_are : (gives : Data → Option Seen) (table sorted ks vs : List Seen) (ps : List ℕ) → StandAt table ps sorted → sorted ≡ group_keys ks
    → all_some (map (λ p. gives (group_at table ks vs p)) ps) ≡ all_some (map (λ key. gives (map datum (group_data key ks vs))) (group_keys ks))
values_are gives table sorted ks vs ps s e =
    ap all_some
    (stand_mapped table ps sorted (λ p. gives (group_at table ks vs p)) (λ key. gives (map datum (group_data key ks vs))) s (λ p c l h. ap (λ o. gives (key_data ks vs o)) h)
    ∙ ap (map (λ key. gives (map datum (group_data key ks vs)))) e)

in_turn : (f : List Seen → List (List Seen)) (o : Option SeenColumn) → option_map (λ (c : SeenColumn). f c.cells) o ≡ option_map f (option_map (λ (c : SeenColumn). c.cells) o)
in_turn f (Some c) = refl
in_turn f None = refl

pub columns_are : (gives : Data → Option Seen) (table sorted counts ks vs : List Seen) (ps : List ℕ) (o : Option SeenColumn) → StandAt table ps sorted → sorted ≡ group_keys ks → counts ≡ group_counts ks
    → option_map (λ (c : SeenColumn). c.cells) o ≡ all_some (map (λ p. gives (group_at table ks vs p)) ps) → option_map (λ (c : SeenColumn). sorted ∷ counts ∷ c.cells ∷ []) o ≡ columns_given gives ks vs
columns_are gives table sorted counts ks vs ps o s e n h =
    in_turn (λ xs. sorted ∷ counts ∷ xs ∷ []) o
    ∙ (ap (option_map (λ xs. sorted ∷ counts ∷ xs ∷ [])) (h ∙ values_are gives table sorted ks vs ps s e)
    ∙ (ap (λ js. option_map (λ xs. js ∷ counts ∷ xs ∷ []) (all_some (map (λ key. gives (map datum (group_data key ks vs))) (group_keys ks)))) e
    ∙ ap (λ ns. option_map (λ xs. group_keys ks ∷ ns ∷ xs ∷ []) (all_some (map (λ key. gives (map datum (group_data key ks vs))) (group_keys ks)))) n))

-- ---- in the code

pub places_within : {S : Type 0} (of : Data → S → Type 0) (table sorted ks vs : List Seen) (ps qs : List ℕ) (states : List S) → AreSorted table ps sorted → qs ≡ ps → IsGroupsOf of table states ks vs → (i d : ℕ) → i < length qs → get_or qs i d < length states
places_within of table sorted ks vs ps qs states s e g i d l =
    let t = stand_within table qs sorted (subst (λ rs. StandAt table rs sorted) (sym e) s.stand) i d l in
    omega (arith, t, g.long)

pub counts_few : {S : Type 0} (of : Data → S → Type 0) (rows : S → ℕ) → ((ds : Data) (s : S) → of ds s → rows s ≡ length ds) → (table ks vs : List Seen) (states : List S) → IsGroupsOf of table states ks vs
    → (p : ℕ) (d : S) → p < length states → rows (get_or states p d) < 2 ^ 40
counts_few of rows rows_of table ks vs states g p d l = omega (arith, g.few, rows_few of rows rows_of table ks vs states g.data_at p d l)

pub counted_are : {S : Type 0} (of : Data → S → Type 0) (rows : S → ℕ) (nothing : S) → ((ds : Data) (s : S) → of ds s → rows s ≡ length ds) → (k : Kind) (class : Class) (table sorted ks vs : List Seen) (count : SeenColumn) (ps qs : List ℕ) (states : List S)
    → AreSorted table ps sorted → All (HasKind k) sorted → All (HasKind k) ks → qs ≡ ps → count ≡ record { class = class; cells = map (count_at rows nothing states) qs } → IsGroupsOf of table states ks vs
    → (sorted ≡ group_keys ks) × (count.cells ≡ group_counts ks)
counted_are of rows nothing rows_of k class table sorted ks vs count ps qs states s a b e n g =
    let keys = sorted_keys_are of k table sorted ks vs ps states s a b g in
    (keys, ap (λ (c : SeenColumn). c.cells) n ∙ (ap (map (count_at rows nothing states)) e ∙ counts_are of rows nothing rows_of table sorted ks vs ps states s.stand keys g))
