-- The same operation over each column of a table.
use Rattle.std.specs.Prelude.{◌≡◌, refl, ℕ, ◌<◌, ◌≤◌, ◌+◌, zero, suc, true, List, [], ◌∷◌, ◌++◌, length, map, take, drop, get_or, slice_get, Option, None, Some, option_map, Result, Ok, Err}
use Rattle.std.specs.List.{All}
use Rattle.std.proofs.Common.{ap, sym, subst, ◌∙◌, arith, append_assoc, add-one}
use Rattle.std.proofs.Math.Seq.{drop-cons}
use Rattle.std.proofs.lemmas.List.{append-nil, take_more, take-map, length-append, length-map, drop_all}
use Rattle.std.proofs.lemmas.List.Elements.{All-nil, All-cons, All-head, All-tail, All-append}
use Rattle.std.proofs.lemmas.Option.{slice_get_read, slice_get-map, slice_get_within, get_or_from_slice_get}
use Rattle.tall_value.specs.Elementwise.{in_front}
use Rattle.tall_semantics.specs.Additions.{MayAdd}
use Rattle.tall_semantics.specs.Deferred.{Vertex, AllBelow}
use Rattle.tall_semantics.specs.Faults.{At}
use Rattle.tall_semantics.specs.Numbered.{never_fails}
use Rattle.tall_semantics.specs.Operations.{operation}
use Rattle.tall_semantics.specs.Talls.{Tall}
use Rattle.tall_local.specs.Lists.{each_of, ahead}
use Rattle.tall_local.specs.Refusals.{Refusal}
use Rattle.tall_script.specs.ScriptValues.{computed, over_columns}
use Rattle.tall_script.specs.VertexLaws.{vertex, AllOf, Adds, over_columns as over_each, IsLower, MayFollow}
use Rattle.tall_script.proofs.VerticesAdded.{expression_follows}
use Rattle.tall_deferred.specs.Answers.{Extends}
use Rattle.tall_deferred.specs.Faults.{IsDue}
use Rattle.tall_deferred.specs.Lists.{followed}
use Rattle.tall_deferred.specs.Rows.{rows_op, rows_args, rows_talls, each_args, IsMask}
use Rattle.tall_deferred.specs.Values.{variable_at, variables_at, IsVariable}
use Rattle.tall_deferred.specs.declared.faults.ValueFault.{ValueFault}
use Rattle.tall_deferred.specs.declared.rows.RowsKept.{RowsKept}
use Rattle.tall_deferred.specs.declared.rows.RowsKept.TheVariants.{First, Last, Masked}
use Rattle.tall_deferred.specs.declared.values.Variable.{Variable}
use Rattle.tall_deferred.proofs.Grown.{due_through}

-- ---- lists of answers

module _ {A B : Type 0} (F : A → Result B Refusal) where
  in_front_followed : (done : List B) (y : B) (r : Result (List B) Refusal) → followed done (in_front y r) ≡ followed (done ++ y ∷ []) r
  in_front_followed done y (Ok ys) = ap Ok (sym (append_assoc done (y ∷ []) ys))
  in_front_followed done y (Err e) = refl

  pub each_turn : (done : List B) (x : A) (rest : List A) (y : B) (all : Result (List B) Refusal) → F x ≡ Ok y → followed done (each_of F (x ∷ rest)) ≡ all → followed (done ++ y ∷ []) (each_of F rest) ≡ all
  each_turn done x rest y all e h = sym (in_front_followed done y (each_of F rest)) ∙ (sym (ap (λ r. followed done (ahead r (each_of F rest))) e) ∙ h)

  pub each_stop : (done : List B) (x : A) (rest : List A) (all : Result (List B) Refusal) (fault : ValueFault) → IsDue (F x) fault → followed done (each_of F (x ∷ rest)) ≡ all → IsDue all fault
  each_stop done x rest all fault h e = subst (λ r. IsDue r fault) e (due_through (λ r. followed done (ahead r (each_of F rest))) (λ r. refl) (F x) fault h)

-- ---- columns

module _ (at : At) (rows : RowsKept) (f : ℕ → Tall) where
  abbrev pub kept : Tall → Result Tall Refusal
  kept x = computed at (rows_op rows) (rows_talls f rows x)

  abbrev pub kept_entry : List ℕ × Tall → Result (List ℕ × Tall) Refusal
  kept_entry entry = elim (kept entry.1) [ Ok x ↦ Ok (entry.0, x) | Err e ↦ Err e ]

  talls_of : (x : ℕ) → map f (rows_args rows x) ≡ rows_talls f rows (f x)
  talls_of x = of_kind rows where
    of_kind : (r : RowsKept) → map f (rows_args r x) ≡ rows_talls f r (f x)
    of_kind (First k) = refl
    of_kind (Last k) = refl
    of_kind (Masked mask) = refl

  pub rest_at : (xs : List Variable) (i : ℕ) (x : Variable) → i < length xs → x ≡ get_or xs i x → variables_at f (drop i xs) ≡ variable_at f x ∷ variables_at f (drop (i + 1) xs)
  rest_at xs i x l e =
      ap (variables_at f) (drop-cons xs i x l ∙ (ap (λ y. y ∷ drop (suc i) xs) (sym e) ∙ ap (λ n. x ∷ drop n xs) (sym (add-one i))))

  pub column_turn : (xs done : List Variable) (i node : ℕ) (x y : Variable) (all : Result (List (List ℕ × Tall)) Refusal) → i < length xs → x ≡ get_or xs i x → y ≡ record { name = x.name; node = node }
      → computed at (rows_op rows) (map f (rows_args rows x.node)) ≡ Ok (f node) → followed (variables_at f done) (over_columns kept (variables_at f (drop i xs))) ≡ all
      → followed (variables_at f (done ++ y ∷ [])) (over_columns kept (variables_at f (drop (i + 1) xs))) ≡ all
  column_turn xs done i node x y all l e is given h =
      let c : kept (f x.node) ≡ Ok (f node) = subst (λ ts. computed at (rows_op rows) ts ≡ Ok (f node)) (talls_of x.node) given in
      let k : kept_entry (variable_at f x) ≡ Ok (variable_at f y) = ap (λ r. elim r [ Ok t ↦ Ok (x.name, t) | Err e ↦ Err e ]) c ∙ ap (λ z. Ok (variable_at f z)) (sym is) in
      let turn = each_turn kept_entry (variables_at f done) (variable_at f x) (variables_at f (drop (i + 1) xs)) (variable_at f y) all k
      (subst (λ ys. followed (variables_at f done) (over_columns kept ys) ≡ all) (rest_at xs i x l e) h) in
      subst (λ ys. followed ys (over_columns kept (variables_at f (drop (i + 1) xs))) ≡ all) (sym (map_append (variable_at f) done (y ∷ []))) turn where
        map_append : {X Y : Type 0} (g : X → Y) (us vs : List X) → map g (us ++ vs) ≡ map g us ++ map g vs
        map_append g [] vs = refl
        map_append g (u ∷ us) vs = ap (λ zs. g u ∷ zs) (map_append g us vs)

  pub column_stop : (xs done : List Variable) (i : ℕ) (x : Variable) (all : Result (List (List ℕ × Tall)) Refusal) (fault : ValueFault) → i < length xs → x ≡ get_or xs i x
      → IsDue (computed at (rows_op rows) (map f (rows_args rows x.node))) fault → followed (variables_at f done) (over_columns kept (variables_at f (drop i xs))) ≡ all → IsDue all fault
  column_stop xs done i x all fault l e h k =
      each_stop kept_entry (variables_at f done) (variable_at f x) (variables_at f (drop (i + 1) xs)) all fault
      (due_through (λ r. elim r [ Ok t ↦ Ok (x.name, t) | Err e ↦ Err e ]) (λ r. refl) (kept (f x.node)) fault (subst (λ ts. IsDue (computed at (rows_op rows) ts) fault) (talls_of x.node) h))
      (subst (λ ys. followed (variables_at f done) (over_columns kept ys) ≡ all) (rest_at xs i x l e) k)

  pub columns_end : (xs done : List Variable) (i : ℕ) (all : Result (List (List ℕ × Tall)) Refusal) → length xs ≤ i → followed (variables_at f done) (over_columns kept (variables_at f (drop i xs))) ≡ all → all ≡ Ok (variables_at f done)
  columns_end xs done i all l h =
      sym h ∙ (ap (λ ys. followed (variables_at f done) (over_columns kept (variables_at f ys))) (drop_all i xs l) ∙ ap Ok (append-nil (variables_at f done)))

-- ---- what is added

safe : (rows : RowsKept) → never_fails (operation (rows_op rows)) ≡ true
safe (First k) = refl
safe (Last k) = refl
safe (Masked mask) = refl

one_below : (n : ℕ) (rows : RowsKept) (x : ℕ) → IsMask n rows → x < n → AllBelow n (rows_args rows x)
one_below n (First k) x m l = (l, tt)
one_below n (Last k) x m l = (l, tt)
one_below n (Masked mask) x m l = (l, (m, tt))

all_below : (n : ℕ) (rows : RowsKept) (xs : List Variable) → IsMask n rows → All (IsVariable n) xs → AllOf (AllBelow n) (each_args rows xs)
all_below n rows [] m all = tt
all_below n rows (x ∷ xs) m all = (one_below n rows x.node m (All-head (IsVariable n) x xs all), all_below n rows xs m (All-tail (IsVariable n) x xs all))

taken_below : (n i : ℕ) (columns : List (List ℕ)) → AllOf (AllBelow n) columns → AllOf (AllBelow n) (take i columns)
taken_below n zero columns all = tt
taken_below n (suc i) [] all = tt
taken_below n (suc i) (c ∷ columns) all = (all.0, taken_below n i columns all.1)

-- the vertices of a table's columns
abbrev pub column_vertices : At → RowsKept → List Variable → List Vertex
column_vertices at rows xs = map (vertex at (rows_op rows)) (each_args rows xs)

pub columns_extend : (at : At) (rows : RowsKept) (xs : List Variable) (i : ℕ) (old new : List Vertex) → IsMask (length old) rows → All (IsVariable (length old)) xs → new ≡ old ++ take i (column_vertices at rows xs) → Extends at old new
columns_extend at rows xs i old new m all e = (
  take i (column_vertices at rows xs),
  subst (Adds at (length old)) (sym (take-map (vertex at (rows_op rows)) i (each_args rows xs)))
      (over_each (rows_op rows) (take i (each_args rows xs)) (safe rows) (taken_below (length old) i (each_args rows xs) (all_below (length old) rows xs m all))),
  e,
)

pub follow_at : (vs ws : List Vertex) (i : ℕ) (w : Vertex) → MayFollow vs ws → slice_get ws i ≡ Some w → MayAdd (vs ++ take i ws) w
follow_at vs [] i w h e = absurd (cc)
follow_at vs (v ∷ ws) zero w h e = subst (λ us. MayAdd us w) (sym (append-nil vs)) (subst (MayAdd vs) (inside v w e) h.0) where
  inside : (x y : Vertex) → Some x ≡ Some y → x ≡ y
  inside x y e = ap (λ (o : Option Vertex). elim o [ Some z ↦ z | None ↦ x ]) e
follow_at vs (v ∷ ws) (suc i) w h e = subst (λ us. MayAdd us w) (append_assoc vs (v ∷ []) (take i ws)) (follow_at (vs ++ v ∷ []) ws i w h.1 e)

vertex_there : (at : At) (rows : RowsKept) (xs : List Variable) (i : ℕ) (x : Variable) → i < length xs → x ≡ get_or xs i x → slice_get (column_vertices at rows xs) i ≡ Some (vertex at (rows_op rows) (rows_args rows x.node))
vertex_there at rows xs i x l e =
    let g : Variable → List ℕ = λ y. rows_args rows y.node in let h : List ℕ → Vertex = vertex at (rows_op rows) in
    slice_get-map h (each_args rows xs) i ∙ (ap (option_map h) (slice_get-map g xs i) ∙ ap (λ o. option_map h (option_map g o)) (slice_get_read xs (length xs) i x refl l e))

pub column_may : (at : At) (rows : RowsKept) (xs : List Variable) (i : ℕ) (x : Variable) (old mid : List Vertex) → All (IsLower at) old → IsMask (length old) rows → All (IsVariable (length old)) xs
    → i < length xs → x ≡ get_or xs i x → mid ≡ old ++ take i (column_vertices at rows xs) → MayAdd mid (vertex at (rows_op rows) (rows_args rows x.node))
column_may at rows xs i x old mid lower m all l e grown =
    let w = vertex at (rows_op rows) (rows_args rows x.node) in
    subst (λ us. MayAdd us w) (sym grown)
    (follow_at old (column_vertices at rows xs) i w
    (expression_follows old (column_vertices at rows xs) at lower (over_each (rows_op rows) (each_args rows xs) (safe rows) (all_below (length old) rows xs m all)))
    (vertex_there at rows xs i x l e))

pub column_grown : (at : At) (rows : RowsKept) (xs : List Variable) (i : ℕ) (x : Variable) (old mid new : List Vertex) → i < length xs → x ≡ get_or xs i x → mid ≡ old ++ take i (column_vertices at rows xs)
    → new ≡ mid ++ vertex at (rows_op rows) (rows_args rows x.node) ∷ [] → new ≡ old ++ take (i + 1) (column_vertices at rows xs)
column_grown at rows xs i x old mid new l e grown pushed =
    let ws = column_vertices at rows xs in let w = vertex at (rows_op rows) (rows_args rows x.node) in
    let n : length ws ≡ length xs = length-map (each_args rows xs) (vertex at (rows_op rows)) ∙ length-map xs (λ (y : Variable). rows_args rows y.node) in
    let more : take (i + 1) ws ≡ take i ws ++ get_or ws i w ∷ [] = take_more ws i w (omega (arith, l, n)) in
    let there : get_or ws i w ≡ w = read ws i w (vertex_there at rows xs i x l e) in
    pushed ∙ (ap (λ us. us ++ w ∷ []) grown ∙ (append_assoc old (take i ws) (w ∷ []) ∙ ap (λ us. old ++ us) (ap (λ v. take i ws ++ v ∷ []) (sym there) ∙ sym more))) where
      read : (us : List Vertex) (j : ℕ) (v : Vertex) → slice_get us j ≡ Some v → get_or us j v ≡ v
      read [] j v h = refl
      read (u ∷ us) zero v h = ap (λ (o : Option Vertex). elim o [ Some z ↦ z | None ↦ u ]) h
      read (u ∷ us) (suc j) v h = read us j v h

pub within_longer : (old mid : List Vertex) (v : Vertex) (xs : List Variable) → mid ≡ old ++ v ∷ [] → All (IsVariable (length old)) xs → All (IsVariable (length mid)) xs
within_longer old mid v [] g all = All-nil (IsVariable (length mid))
within_longer old mid v (x ∷ xs) g all =
    All-cons (IsVariable (length mid)) x xs (one x (All-head (IsVariable (length old)) x xs all)) (within_longer old mid v xs g (All-tail (IsVariable (length old)) x xs all)) where
      one : (y : Variable) → y.node < length old → y.node < length mid
      one y l = let n : length mid ≡ length old + 1 = ap length g ∙ length-append old (v ∷ []) in omega (arith, l, n)

pub grown_within : (old mid : List Vertex) (v : Vertex) (xs : List Variable) (y : Variable) → y.node ≡ length old → mid ≡ old ++ v ∷ [] → All (IsVariable (length old)) xs → All (IsVariable (length mid)) (xs ++ y ∷ [])
grown_within old mid v xs y e g all =
    All-append (IsVariable (length mid)) xs (y ∷ []) (within_longer old mid v xs g all)
    (All-cons (IsVariable (length mid)) y [] (let n : length mid ≡ length old + 1 = ap length g ∙ length-append old (v ∷ []) in omega (arith, e, n)) (All-nil (IsVariable (length mid))))

pub grown_at : (old mid new ws : List Vertex) (i : ℕ) (w : Vertex) → slice_get ws i ≡ Some w → mid ≡ old ++ take i ws → new ≡ mid ++ w ∷ [] → new ≡ old ++ take (i + 1) ws
grown_at old mid new ws i w h g e =
    let more : take (i + 1) ws ≡ take i ws ++ get_or ws i w ∷ [] = take_more ws i w (slice_get_within ws i w h) in
    let there : get_or ws i w ≡ w = get_or_from_slice_get ws i w w h in
    e ∙ (ap (λ us. us ++ w ∷ []) g ∙ (append_assoc old (take i ws) (w ∷ []) ∙ ap (λ us. old ++ us) (ap (λ v. take i ws ++ v ∷ []) (sym there) ∙ sym more)))
