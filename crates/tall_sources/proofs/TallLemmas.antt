-- The variables of a datastore, one after another.
use Rattle.std.specs.Prelude.{◌≡◌, refl, ℕ, zero, suc, ◌<◌, ◌≤◌, ◌+◌, List, [], ◌∷◌, ◌++◌, length, map, take, drop, get_or, slice_get, None, Some, option_map, Result, Ok, Err}
use Rattle.std.specs.List.{All}
use Rattle.std.proofs.Common.{ap, sym, subst, ◌∙◌, arith}
use Rattle.std.proofs.lemmas.List.{append_assoc, append-nil, drop_more, drop_all}
use Rattle.std.proofs.lemmas.Option.{slice_get-map}
use Rattle.tall_outside.specs.Shelf.{Files}
use Rattle.tall_value.specs.declared.class.Class.{Class}
use Rattle.tall_semantics.specs.Additions.{MayAdd}
use Rattle.tall_semantics.specs.Deferred.{Vertex, IsMeaning}
use Rattle.tall_semantics.specs.Faults.{At}
use Rattle.tall_semantics.specs.Shapes.{ShapeRefusal}
use Rattle.tall_semantics.specs.Talls.{Tall, Columns, stored_tall}
use Rattle.tall_semantics.proofs.InOrderLaws.{get_left, get_last, meaning_kept, meaning_last}
use Rattle.tall_store.specs.Formats.{class_of_format}
use Rattle.tall_store.specs.Stores.{SeenStore, name_at, format_at}
use Rattle.tall_stored.specs.StoredColumns.{AreStored, IsColumn, Store, column_outcome}
use Rattle.tall_script.specs.TallTables.{stored_variables}
use Rattle.tall_script.specs.VertexLaws.{variable_of, MayStandBeside}
use Rattle.tall_script.proofs.VerticesAdded.{variables_follow}
use Rattle.tall_deferred.specs.Values.{variable_at, variables_at}
use Rattle.tall_deferred.specs.declared.values.Variable.{Variable}
use Rattle.tall_deferred.proofs.RowLaws.{follow_at, grown_at}
use Rattle.tall_sources.specs.Talls.{variables_from, variable_vertices}

-- ---- vertices

-- the variable at a place of the selection
abbrev pub entry_at : SeenStore → ℕ → ℕ × Class
entry_at store k = (k, class_of_format (format_at store (get_or store.selected k 0)))

entry_from : (store : SeenStore) (from k : ℕ) (sel : List ℕ) → k < length sel → slice_get (variables_from store from sel) k ≡ Some (from + k, class_of_format (format_at store (get_or sel k 0)))
entry_from store from zero [] l = absurd (omega (arith, l))
entry_from store from (suc k) [] l = absurd (omega (arith, l))
entry_from store from zero (v ∷ sel) l = ap (λ n. Some (n, class_of_format (format_at store v))) (none from) where
  none : (n : ℕ) → n ≡ n + 0
  none n = omega arith
entry_from store from (suc k) (v ∷ sel) l =
    entry_from store (from + 1) k sel (fewer k (length sel) l) ∙ ap (λ n. Some (n, class_of_format (format_at store (get_or sel k 0)))) (moved from k) where
      fewer : (a b : ℕ) → suc a < suc b → a < b
      fewer a b l = omega (arith, l)

      moved : (a b : ℕ) → a + 1 + b ≡ a + suc b
      moved a b = omega arith

pub vertex_at : (at : At) (place : ℕ) (store : SeenStore) (k : ℕ) → k < length store.selected → slice_get (variable_vertices at place store) k ≡ Some (variable_of at place (entry_at store k))
vertex_at at place store k l =
    slice_get-map (variable_of at place) (variables_from store 0 store.selected) k
    ∙ ap (option_map (variable_of at place)) (entry_from store 0 k store.selected l ∙ ap (λ n. Some (n, class_of_format (format_at store (get_or store.selected k 0)))) (none k)) where
      none : (n : ℕ) → 0 + n ≡ n
      none n = omega arith

pub variable_may : (at : At) (place : ℕ) (store : SeenStore) (k : ℕ) (old mid : List Vertex) → All (MayStandBeside at place) old → k < length store.selected → mid ≡ old ++ take k (variable_vertices at place store)
    → MayAdd mid (variable_of at place (entry_at store k))
variable_may at place store k old mid beside l grown =
    let w = variable_of at place (entry_at store k) in let ws = variable_vertices at place store in
    subst (λ us. MayAdd us w) (sym grown) (follow_at old ws k w (variables_follow old at place (variables_from store 0 store.selected) beside) (vertex_at at place store k l))

pub variable_grown : (at : At) (place : ℕ) (store : SeenStore) (k : ℕ) (old mid new : List Vertex) → k < length store.selected → mid ≡ old ++ take k (variable_vertices at place store)
    → new ≡ mid ++ variable_of at place (entry_at store k) ∷ [] → new ≡ old ++ take (k + 1) (variable_vertices at place store)
variable_grown at place store k old mid new l grown pushed =
    grown_at old mid new (variable_vertices at place store) k (variable_of at place (entry_at store k)) (vertex_at at place store k l) grown pushed

-- the vertex by the number and the class that the code has
pub same_vertex : (at : At) (place number : ℕ) (store : SeenStore) (k : ℕ) (class : Class) → number ≡ place → class ≡ class_of_format (format_at store (get_or store.selected k 0))
    → variable_of at number (k, class) ≡ variable_of at place (entry_at store k)
same_vertex at place number store k class e h = ap (λ n. variable_of at n (k, class)) e ∙ ap (λ c. variable_of at place (k, c)) h

-- ---- columns

abbrev pub store_of : At → SeenStore → Store
store_of at store = record { at = at; store = store }

pub meant_before : (old new : List Vertex) (v : Vertex) (columns : Columns) (f : ℕ → Tall) → new ≡ old ++ v ∷ [] → IsMeaning columns new f → IsMeaning columns old f
meant_before old new v columns f e m = meaning_kept columns old (v ∷ []) f (subst (λ vs. IsMeaning columns vs f) e m)

pub stored_before : (files : Files) (stores : List Store) (old new more : List Vertex) (columns : Columns) → new ≡ old ++ more → AreStored files stores new columns → AreStored files stores old columns
stored_before files stores old new more columns e h i v place variable class there is =
    h i v place variable class (subst (λ vs. slice_get vs i ≡ Some v) (sym e) (get_left old more i v there)) is

inside : {A : Type 0} (x y : A) → Some x ≡ Some y → x ≡ y
inside x y e = ap (λ o. elim o [ Some z ↦ z | None ↦ x ]) e

abbrev given : Tall → Result Tall ShapeRefusal
given t = Ok t

-- what a variable's node means
pub node_means : (files : Files) (stores : List Store) (columns : Columns) (f : ℕ → Tall) (d : Store) (place variable node : ℕ) (class : Class) (mid new : List Vertex)
    → slice_get stores place ≡ Some d → node ≡ length mid → new ≡ mid ++ variable_of d.at place (variable, class) ∷ [] → AreStored files stores new columns → IsMeaning columns new f
    → f node ≡ stored_tall place variable class (column_outcome files place d variable)
node_means files stores columns f d place variable node class mid new there e grown are m =
    let w = variable_of d.at place (variable, class) in
    let is : IsColumn files stores columns d.at place variable class = are (length mid) w place variable class (subst (λ vs. slice_get vs (length mid) ≡ Some w) (sym grown) (get_last mid w)) refl in
    let same : is.found ≡ d = inside is.found d (sym is.there ∙ there) in
    let value = meaning_last columns mid w f (subst (λ vs. IsMeaning columns vs f) grown m) in
    ap f e
    ∙ (sym (held (stored_tall place variable class (columns place variable)) (f (length mid)) value)
    ∙ ap (stored_tall place variable class) (is.told ∙ ap (λ x. column_outcome files place x variable) same)) where
      held : (x y : Tall) → given x ≡ given y → x ≡ y
      held x y e = ap (λ r. elim r [ Ok z ↦ z | Err e ↦ x ]) e

map_append : {X Y : Type 0} (g : X → Y) (us vs : List X) → map g (us ++ vs) ≡ map g us ++ map g vs
map_append g [] vs = refl
map_append g (u ∷ us) vs = ap (λ zs. g u ∷ zs) (map_append g us vs)

pub variable_turn : (files : Files) (place : ℕ) (d : Store) (f : ℕ → Tall) (k : ℕ) (done : List Variable) (x : Variable) (all : List (List ℕ × Tall)) → k < length d.store.selected
    → x.name ≡ name_at d.store (get_or d.store.selected k 0) → f x.node ≡ stored_tall place k (entry_at d.store k).1 (column_outcome files place d k)
    → variables_at f done ++ stored_variables files place d k (drop k d.store.selected) ≡ all
    → variables_at f (done ++ x ∷ []) ++ stored_variables files place d (k + 1) (drop (k + 1) d.store.selected) ≡ all
variable_turn files place d f k done x all l named value h =
    let rest = stored_variables files place d (k + 1) (drop (k + 1) d.store.selected) in
    ap (λ ys. ys ++ rest) (map_append (variable_at f) done (x ∷ []))
    ∙ (append_assoc (variables_at f done) (variable_at f x ∷ []) rest
    ∙ (ap (λ n. variables_at f done ++ (n, f x.node) ∷ rest) named
    ∙ (ap (λ t. variables_at f done ++ (name_at d.store (get_or d.store.selected k 0), t) ∷ rest) value
    ∙ (ap (λ vs. variables_at f done ++ stored_variables files place d k vs) (sym (drop_more d.store.selected k 0 l)) ∙ h))))

pub variables_end : (files : Files) (place : ℕ) (d : Store) (f : ℕ → Tall) (k : ℕ) (done : List Variable) (all : List (List ℕ × Tall)) → length d.store.selected ≤ k
    → variables_at f done ++ stored_variables files place d k (drop k d.store.selected) ≡ all → all ≡ variables_at f done
variables_end files place d f k done all l h =
    sym h ∙ (ap (λ vs. variables_at f done ++ stored_variables files place d k vs) (drop_all k d.store.selected l) ∙ append-nil (variables_at f done))
