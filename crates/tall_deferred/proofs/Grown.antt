-- Graphs that grow: what is added, and what stays.
use Rattle.std.specs.Prelude.{◌≡◌, refl, ℕ, ◌<◌, ◌+◌, List, [], ◌∷◌, ◌++◌, length, Result, Ok, Err, IfOk}
use Rattle.std.specs.List.{All}
use Rattle.std.proofs.Common.{ap, sym, subst, ◌∙◌, arith, append-nil, append_assoc}
use Rattle.std.proofs.lemmas.List.{length-append}
use Rattle.tall_value.specs.Cells.{Seen}
use Rattle.tall_semantics.specs.Additions.{MayAdd}
use Rattle.tall_semantics.specs.Deferred.{Vertex, AllBelow, IsMeaning}
use Rattle.tall_semantics.specs.Faults.{At}
use Rattle.tall_semantics.specs.Operations.{Op, constant, filter, Made, stored, operation}
use Rattle.tall_semantics.specs.Talls.{Tall, Columns}
use Rattle.tall_semantics.proofs.InOrderLaws.{meaning_kept}
use Rattle.tall_local.specs.Refusals.{Refusal}
use Rattle.tall_script.specs.VertexLaws.{vertex, one_operation, behind_a_scalar, over_columns, IsLower}
use Rattle.tall_script.proofs.VerticesAdded.{expression_follows}
use Rattle.tall_graph.specs.Later.{IsOperation}
use Rattle.tall_deferred.specs.Answers.{Extends, IsPushed, Means}
use Rattle.tall_deferred.specs.Values.{IsInMemory, IsValue}
use Rattle.tall_deferred.specs.declared.values.ScriptValue.{ScriptValue}
use Rattle.tall_deferred.specs.declared.values.ScriptValue.TheVariants as kept
use Rattle.tall_deferred.specs.Faults.{IsDue}
use Rattle.tall_deferred.specs.declared.faults.ValueFault.{ValueFault}
use Rattle.tall_deferred.specs.declared.faults.ValueFault.TheVariants as fault

-- ---- refusals that are passed on

pub due_through : {A B : Type 0} (g : Result A Refusal → Result B Refusal) → ((r : Refusal) → g (Err r) ≡ Err r) → (want : Result A Refusal) (e : ValueFault) → IsDue want e → IsDue (g want) e
due_through g k want (fault.Undefined name) h = ap g h ∙ k _
due_through g k want fault.MixedClass h = ap g h ∙ k _
due_through g k want fault.BadClass h = ap g h ∙ k _
due_through g k want fault.Incompatible h = ap g h ∙ k _
due_through g k want fault.BadSize h = ap g h ∙ k _
due_through g k want fault.BadArgument h = ap g h ∙ k _
due_through g k want fault.BadIndex h = ap g h ∙ k _
due_through g k want (fault.Data row kind) h = ap g h ∙ k _
due_through g k want fault.Memory h = tt

-- ---- what is added

pub adds_nothing : (at : At) (vs : List Vertex) → Extends at vs vs
adds_nothing at vs = ([], over_columns filter [] refl tt, sym (append-nil vs))

pub adds_one : (at : At) (o : Op) (args : List ℕ) (old new : List Vertex) → AllBelow (length old) args → new ≡ old ++ vertex at o args ∷ [] → Extends at old new
adds_one at o args old new below e = (vertex at o args ∷ [], one_operation o args below, e)

pub adds_behind : (at : At) (c : Seen) (o : Op) (args : List ℕ) (old mid new : List Vertex) → mid ≡ old ++ vertex at (constant c) [] ∷ [] → AllBelow (length mid) args → new ≡ mid ++ vertex at o args ∷ [] → Extends at old new
adds_behind at c o args old mid new e below k =
    let v = vertex at (constant c) [] in let w = vertex at o args in
    let n : length mid ≡ length old + 1 = ap length e ∙ length-append old (v ∷ []) in
    (v ∷ w ∷ [], behind_a_scalar c o args (subst (λ m. AllBelow m args) n below), k ∙ (ap (λ vs. vs ++ w ∷ []) e ∙ append_assoc old (v ∷ []) (w ∷ [])))

-- ---- what may be added

pub may_add : (at : At) (o : Op) (args : List ℕ) (vs : List Vertex) → All (IsLower at) vs → AllBelow (length vs) args → MayAdd vs (vertex at o args)
may_add at o args vs lower below = (expression_follows vs (vertex at o args ∷ []) at lower (one_operation o args below)).0

pub may_add_behind : (at : At) (c : Seen) (o : Op) (args : List ℕ) (old mid : List Vertex) → All (IsLower at) old → mid ≡ old ++ vertex at (constant c) [] ∷ [] → AllBelow (length mid) args → MayAdd mid (vertex at o args)
may_add_behind at c o args old mid lower e below =
    let v = vertex at (constant c) [] in
    let n : length mid ≡ length old + 1 = ap length e ∙ length-append old (v ∷ []) in
    subst (λ vs. MayAdd vs (vertex at o args)) (sym e)
    (expression_follows old (v ∷ vertex at o args ∷ []) at lower (behind_a_scalar c o args (subst (λ m. AllBelow m args) n below))).1.0

-- ---- what stays

pub means_longer : {V D : Type 0} (vs ws us : List Vertex) (view : (ℕ → Tall) → V → D) (want : (ℕ → Tall) → Result D Refusal) (r : Result V ValueFault) → us ≡ vs ++ ws → Means vs view want r → Means us view want r
means_longer vs ws us view want r e h columns f m = h columns f (meaning_kept columns vs ws f (subst (λ xs. IsMeaning columns xs f) e m))

-- ---- one node more, as a value

abbrev vertex_of : At → Made → List ℕ → Vertex
vertex_of at made args = record { at = at; made = made; args = args }

pub may_add_made : (at : At) (made : Made) (args : List ℕ) (vs : List Vertex) → IsOperation made → All (IsLower at) vs → AllBelow (length vs) args → MayAdd vs (vertex_of at made args)
may_add_made at (operation o) args vs is lower below = may_add at o args vs lower below
may_add_made at (stored s v c) args vs is lower below = absurd is

pub adds_made : (at : At) (made : Made) (args : List ℕ) (old new : List Vertex) → IsOperation made → AllBelow (length old) args → new ≡ old ++ vertex_of at made args ∷ [] → Extends at old new
adds_made at (operation o) args old new is below e = adds_one at o args old new below e
adds_made at (stored s v c) args old new is below e = absurd is

pub no_more : (at : At) (old new : List Vertex) → new ≡ old → Extends at old new
no_more at old new e = subst (Extends at old) (sym e) (adds_nothing at old)

pub last_there : (old new : List Vertex) (v : Vertex) (n : ℕ) → n ≡ length old → new ≡ old ++ v ∷ [] → n < length new
last_there old new v n e g = let k : length new ≡ length old + 1 = ap length g ∙ length-append old (v ∷ []) in omega (arith, e, k)

-- what one node more leaves, or its refusal
pub pushed_extends : (at : At) (made : Made) (args : List ℕ) (old new : List Vertex) (r : Result ℕ ValueFault) → IsOperation made → AllBelow (length old) args → IsPushed old (vertex_of at made args) r new → Extends at old new
pushed_extends at made args old new (Ok n) is below p = adds_made at made args old new is below p.1
pushed_extends at made args old new (Err e) is below p = no_more at old new p

pub in_memory_within : (n : ℕ) (r : Result ScriptValue ValueFault) → IfOk r IsInMemory → IfOk r (IsValue n)
in_memory_within n (Ok (kept.Memory v)) h = tt
in_memory_within n (Ok (kept.Tall x)) h = absurd h
in_memory_within n (Ok (kept.Table t)) h = absurd h
in_memory_within n (Ok (kept.Datastore s)) h = absurd h
in_memory_within n (Err e) h = tt

-- a solution now is one of the graph as it was
pub meaning_before : (at : At) (old new : List Vertex) (columns : Columns) (f : ℕ → Tall) → Extends at old new → IsMeaning columns new f → IsMeaning columns old f
meaning_before at old new columns f grown m = meaning_kept columns old grown.0 f (subst (λ vs. IsMeaning columns vs f) grown.2 m)

pub meaning_pushed : (old new : List Vertex) (v : Vertex) (columns : Columns) (f : ℕ → Tall) → new ≡ old ++ v ∷ [] → IsMeaning columns new f → IsMeaning columns old f
meaning_pushed old new v columns f grown m = meaning_kept columns old (v ∷ []) f (subst (λ vs. IsMeaning columns vs f) grown m)

pub meaning_same : (old new : List Vertex) (columns : Columns) (f : ℕ → Tall) → new ≡ old → IsMeaning columns new f → IsMeaning columns old f
meaning_same old new columns f e m = subst (λ vs. IsMeaning columns vs f) e m
