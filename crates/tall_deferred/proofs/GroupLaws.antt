-- The columns of a summary of groups, one after another.
use Rattle.std.specs.Prelude.{◌≡◌, refl, ℕ, ◌<◌, ◌≤◌, ◌+◌, zero, suc, Bool, true, false, if◌then◌else◌, List, [], ◌∷◌, ◌++◌, length, map, take, drop, get_or, slice_get, Option, None, Some, option_map, Result, Ok, Err}
use Rattle.std.specs.List.{All}
use Rattle.std.proofs.Common.{ap, sym, subst, ◌∙◌, arith, add-one}
use Rattle.std.proofs.Math.Seq.{drop-cons}
use Rattle.std.proofs.lemmas.List.{append-nil, take-map, length-append, drop_all}
use Rattle.std.proofs.lemmas.List.Elements.{All-nil, All-cons}
use Rattle.std.proofs.lemmas.Option.{slice_get-map, slice_get-get_or}
use Rattle.tall_value.specs.declared.functions.Method.{Method}
use Rattle.tall_value.specs.declared.functions.Method.TheVariants.{Count, Sum, SumNative, Min, Max, Nnz, Nummissing}
use Rattle.tall_value.specs.SummaryNames.{summary_names}
use Rattle.tall_value.specs.Names.{are_distinct}
use Rattle.tall_semantics.specs.Additions.{MayAdd}
use Rattle.tall_semantics.specs.Deferred.{Vertex, AllBelow}
use Rattle.tall_semantics.specs.Faults.{At}
use Rattle.tall_semantics.specs.Operations.{group, Part, keys, counts, values}
use Rattle.tall_semantics.specs.Talls.{Tall}
use Rattle.tall_local.specs.Lists.{each_of}
use Rattle.tall_local.specs.MemoryFunctions.{paired}
use Rattle.tall_local.specs.Refusals.{Refusal, bad_argument}
use Rattle.tall_local.specs.Values.{tall_table}
use Rattle.tall_functions.specs.Summaries.{names_with}
use Rattle.tall_graph.specs.Vertices.{part_of}
use Rattle.tall_script.specs.ScriptValues.{computed, parts_of, summary_table}
use Rattle.tall_script.specs.VertexLaws.{vertex, Adds, of_groups, IsLower}
use Rattle.tall_script.proofs.VerticesAdded.{expression_follows}
use Rattle.tall_deferred.specs.Answers.{Extends}
use Rattle.tall_deferred.specs.Faults.{IsDue}
use Rattle.tall_deferred.specs.Groups.{zipped, group_vertices}
use Rattle.tall_deferred.specs.Lists.{followed}
use Rattle.tall_deferred.specs.Values.{IsVariable, variables_at}
use Rattle.tall_deferred.specs.declared.faults.ValueFault.{ValueFault}
use Rattle.tall_deferred.proofs.RowLaws.{each_turn, each_stop, follow_at}

-- ---- parts

three_at : (i : ℕ) → i < 3 → get_or (keys ∷ counts ∷ values ∷ []) i keys ≡ part_of i
three_at zero l = refl
three_at (suc zero) l = refl
three_at (suc (suc zero)) l = refl
three_at (suc (suc (suc n))) l = absurd (omega (arith, l))

two_at : (i : ℕ) → i < 2 → get_or (keys ∷ counts ∷ []) i keys ≡ part_of i
two_at zero l = refl
two_at (suc zero) l = refl
two_at (suc (suc n)) l = absurd (omega (arith, l))

part_at : (m : Method) (i : ℕ) → i < length (parts_of m) → get_or (parts_of m) i keys ≡ part_of i
part_at Count i l = two_at i l
part_at Sum i l = three_at i l
part_at SumNative i l = three_at i l
part_at Min i l = three_at i l
part_at Max i l = three_at i l
part_at Nnz i l = three_at i l
part_at Nummissing i l = three_at i l

pub parts_few : (m : Method) (i : ℕ) → i < length (parts_of m) → i < 3
parts_few Count i l = (let h : i < 2 = l in omega (arith, h))
parts_few Sum i l = l
parts_few SumNative i l = l
parts_few Min i l = l
parts_few Max i l = l
parts_few Nnz i l = l
parts_few Nummissing i l = l

rest_at : (m : Method) (i : ℕ) → i < length (parts_of m) → drop i (parts_of m) ≡ part_of i ∷ drop (i + 1) (parts_of m)
rest_at m i l =
    drop-cons (parts_of m) i keys l ∙ (ap (λ p. p ∷ drop (suc i) (parts_of m)) (part_at m i l) ∙ ap (λ n. part_of i ∷ drop n (parts_of m)) (sym (add-one i)))

-- ---- what is added

pub vertex_part : (at : At) (m : Method) (args : List ℕ) (i : ℕ) → i < length (parts_of m) → slice_get (group_vertices at m args) i ≡ Some (vertex at (group m (part_of i)) args)
vertex_part at m args i l =
    let g : Part → Vertex = λ part. vertex at (group m part) args in
    slice_get-map g (parts_of m) i ∙ ap (option_map g) (slice_get-get_or (parts_of m) i keys l ∙ ap Some (part_at m i l))

pub part_may : (at : At) (m : Method) (args : List ℕ) (i : ℕ) (old mid : List Vertex) → All (IsLower at) old → AllBelow (length old) args → i < length (parts_of m) → mid ≡ old ++ take i (group_vertices at m args)
    → MayAdd mid (vertex at (group m (part_of i)) args)
part_may at m args i old mid lower below l grown =
    let w = vertex at (group m (part_of i)) args in
    subst (λ us. MayAdd us w) (sym grown)
    (follow_at old (group_vertices at m args) i w (expression_follows old (group_vertices at m args) at lower (of_groups m (parts_of m) args below)) (vertex_part at m args i l))

pub parts_extend : (at : At) (m : Method) (args : List ℕ) (i : ℕ) (old new : List Vertex) → AllBelow (length old) args → new ≡ old ++ take i (group_vertices at m args) → Extends at old new
parts_extend at m args i old new below e =
    let g : Part → Vertex = λ part. vertex at (group m part) args in
    (take i (group_vertices at m args), subst (Adds at (length old)) (sym (take-map g i (parts_of m))) (of_groups m (take i (parts_of m)) args below), e)

below_more : (n m : ℕ) (xs : List ℕ) → n ≤ m → AllBelow n xs → AllBelow m xs
below_more n m [] l h = tt
below_more n m (x ∷ xs) l h = (further n m x l h.0, below_more n m xs l h.1) where
  further : (a b c : ℕ) → a ≤ b → c < a → c < b
  further a b c l h = omega (arith, l, h)

below_append : (n : ℕ) (xs : List ℕ) (y : ℕ) → AllBelow n xs → y < n → AllBelow n (xs ++ y ∷ [])
below_append n [] y h l = (l, tt)
below_append n (x ∷ xs) y h l = (h.0, below_append n xs y h.1 l)

pub nodes_grown : (mid new : List Vertex) (v : Vertex) (xs : List ℕ) (y : ℕ) → AllBelow (length mid) xs → y ≡ length mid → new ≡ mid ++ v ∷ [] → AllBelow (length new) (xs ++ y ∷ [])
nodes_grown mid new v xs y h e g =
    let n : length new ≡ length mid + 1 = ap length g ∙ length-append mid (v ∷ []) in
    below_append (length new) xs y (below_more (length mid) (length new) xs (omega (arith, n)) h) (omega (arith, e, n))

-- ---- what is given

module _ (at : At) (m : Method) (args : List ℕ) (f : ℕ → Tall) where
  abbrev pub part_column : Part → Result Tall Refusal
  part_column part = computed at (group m part) (map f args)

  pub part_turn : (done : List ℕ) (i node : ℕ) (all : Result (List Tall) Refusal) → i < length (parts_of m) → computed at (group m (part_of i)) (map f args) ≡ Ok (f node)
      → followed (map f done) (each_of part_column (drop i (parts_of m))) ≡ all → followed (map f (done ++ node ∷ [])) (each_of part_column (drop (i + 1) (parts_of m))) ≡ all
  part_turn done i node all l given h =
      subst (λ ys. followed ys (each_of part_column (drop (i + 1) (parts_of m))) ≡ all) (sym (map_append done (node ∷ [])))
      (each_turn part_column (map f done) (part_of i) (drop (i + 1) (parts_of m)) (f node) all given
      (subst (λ ps. followed (map f done) (each_of part_column ps) ≡ all) (rest_at m i l) h)) where
        map_append : (us vs : List ℕ) → map f (us ++ vs) ≡ map f us ++ map f vs
        map_append [] vs = refl
        map_append (u ∷ us) vs = ap (λ zs. f u ∷ zs) (map_append us vs)

  pub part_stop : (done : List ℕ) (i : ℕ) (all : Result (List Tall) Refusal) (fault : ValueFault) → i < length (parts_of m) → IsDue (computed at (group m (part_of i)) (map f args)) fault
      → followed (map f done) (each_of part_column (drop i (parts_of m))) ≡ all → IsDue all fault
  part_stop done i all fault l h e =
      each_stop part_column (map f done) (part_of i) (drop (i + 1) (parts_of m)) all fault h (subst (λ ps. followed (map f done) (each_of part_column ps) ≡ all) (rest_at m i l) e)

  pub parts_end : (done : List ℕ) (i : ℕ) (all : Result (List Tall) Refusal) → length (parts_of m) ≤ i → followed (map f done) (each_of part_column (drop i (parts_of m))) ≡ all → all ≡ Ok (map f done)
  parts_end done i all l h = sym h ∙ (ap (λ ps. followed (map f done) (each_of part_column ps)) (drop_all i (parts_of m) l) ∙ ap Ok (append-nil (map f done)))

-- ---- names

pub zipped_talls : (f : ℕ → Tall) (names : List (List ℕ)) (xs : List ℕ) → variables_at f (zipped names xs) ≡ paired names (map f xs)
zipped_talls f [] xs = refl
zipped_talls f (name ∷ names) [] = refl
zipped_talls f (name ∷ names) (x ∷ xs) = ap (λ r. (name, f x) ∷ r) (zipped_talls f names xs)

pub zipped_within : (n : ℕ) (names : List (List ℕ)) (xs : List ℕ) → AllBelow n xs → All (IsVariable n) (zipped names xs)
zipped_within n [] xs h = All-nil (IsVariable n)
zipped_within n (name ∷ names) [] h = All-nil (IsVariable n)
zipped_within n (name ∷ names) (x ∷ xs) h = All-cons (IsVariable n) (record { name = name; node = x }) (zipped names xs) h.0 (zipped_within n names xs h.1)

pub distinct_names : (names : List (List ℕ)) (b : Bool) (columns : List Tall) (t : List (List ℕ × Tall)) → b ≡ are_distinct names → b ≡ true → t ≡ paired names columns → summary_table names (Ok columns) ≡ Ok (tall_table t)
distinct_names names b columns t h e k =
    ap (λ c. if c then Ok (tall_table (paired names columns)) else Err bad_argument) (sym h ∙ e) ∙ ap (λ u. Ok (tall_table u)) (sym k)

pub same_names : (names : List (List ℕ)) (b : Bool) (columns : List Tall) → b ≡ are_distinct names → b ≡ false → summary_table names (Ok columns) ≡ Err bad_argument
same_names names b columns h e = ap (λ c. if c then Ok (tall_table (paired names columns)) else Err bad_argument) (sym h ∙ e)

pub names_are_parts : (m : Method) (key value : List ℕ) → length (summary_names m key value) ≡ length (parts_of m)
names_are_parts Count key value = refl
names_are_parts Sum key value = refl
names_are_parts SumNative key value = refl
names_are_parts Min key value = refl
names_are_parts Max key value = refl
names_are_parts Nnz key value = refl
names_are_parts Nummissing key value = refl

pub two_names : (key : List ℕ) (name : Option (List ℕ)) → 2 ≤ length (names_with key name)
two_names key None = omega arith
two_names key (Some n) = omega arith

pub zipped_two : (key : List ℕ) (count : List ℕ) (xs : List ℕ) (x y : ℕ) → length xs ≡ 2 → x ≡ get_or xs 0 x → y ≡ get_or xs 1 y → record { name = key; node = x } ∷ record { name = count; node = y } ∷ [] ≡ zipped (key ∷ count ∷ []) xs
zipped_two key count [] x y l h k = absurd (omega (arith, l))
zipped_two key count (a ∷ []) x y l h k = absurd (omega (arith, l))
zipped_two key count (a ∷ b ∷ []) x y l h k = ap (λ z. record { name = key; node = z } ∷ record { name = count; node = y } ∷ []) h ∙ ap (λ z. record { name = key; node = a } ∷ record { name = count; node = z } ∷ []) k
zipped_two key count (a ∷ b ∷ c ∷ xs) x y l h k = absurd (omega (arith, l))

pub zipped_three : (key count name : List ℕ) (xs : List ℕ) (x y z : ℕ) → length xs ≡ 3 → x ≡ get_or xs 0 x → y ≡ get_or xs 1 y → z ≡ get_or xs 2 z
    → record { name = key; node = x } ∷ record { name = count; node = y } ∷ record { name = name; node = z } ∷ [] ≡ zipped (key ∷ count ∷ name ∷ []) xs
zipped_three key count name [] x y z l h k g = absurd (omega (arith, l))
zipped_three key count name (a ∷ []) x y z l h k g = absurd (omega (arith, l))
zipped_three key count name (a ∷ b ∷ []) x y z l h k g = absurd (omega (arith, l))
zipped_three key count name (a ∷ b ∷ c ∷ []) x y z l h k g =
    ap (λ u. record { name = key; node = u } ∷ record { name = count; node = y } ∷ record { name = name; node = z } ∷ []) h
    ∙ (ap (λ u. record { name = key; node = a } ∷ record { name = count; node = u } ∷ record { name = name; node = z } ∷ []) k
    ∙ ap (λ u. record { name = key; node = a } ∷ record { name = count; node = b } ∷ record { name = name; node = u } ∷ []) g)
zipped_three key count name (a ∷ b ∷ c ∷ d ∷ xs) x y z l h k g = absurd (omega (arith, l))

pub as_many : (xs ys : List ℕ) (y n : ℕ) → length xs ≡ n → ys ≡ xs ++ y ∷ [] → length ys ≡ n + 1
as_many xs ys y n l e = ap length e ∙ (length-append xs (y ∷ []) ∙ ap (λ k. k + 1) l)
