-- Names and their values, in the code and in the definitions.
use Rattle.std.proofs.Common.{ℕ, ◌≡◌, ◌∙◌, List, [], ◌∷◌, ◌++◌, refl, ap, sym, subst, map}
use Rattle.std.specs.Prelude.{Bool, true, false, if◌then◌else◌, Result, Ok, Err, IfOk}
use Rattle.std.specs.Str.{bytes_eq}
use Rattle.tall_local.specs.Memory.{Memory}
use Rattle.tall_local.specs.Names.{put_name}
use Rattle.tall_local.specs.Values.{in_memory}
use Rattle.tall_semantics.specs.Deferred.{IsMeaning}
use Rattle.tall_semantics.specs.Talls.{Columns, Tall}
use Rattle.tall_deferred.specs.declared.values.ScriptValue.{ScriptValue}
use Rattle.tall_deferred.specs.declared.values.ScriptValue.TheVariants as kept
use Rattle.tall_deferred.specs.Values.{Shared, shared_seen, value_at}
use Rattle.tall_script.specs.States.{State}
use Rattle.tall_script.specs.Statements.{Done, set_name, set_names, shown_text, shows}
use Rattle.tall_script.specs.StatesFollow.{done_state}
use Rattle.tall_environment.specs.Environments.{SeenEnvironment, name_at, names_at, state_at}

-- a value put under a name is seen there
pub put_at : (f : ℕ → Tall) (name : List ℕ) (v : ScriptValue) (xs : List (List ℕ × ScriptValue)) → names_at f (put_name name v xs) ≡ put_name name (value_at f v) (names_at f xs)
put_at f name v [] = refl
put_at f name v (x ∷ xs) = by (bytes_eq x.0 name) (put_at f name v xs)
  where
    by : (b : Bool) → names_at f (put_name name v xs) ≡ put_name name (value_at f v) (names_at f xs) → names_at f (if b then (name, v) ∷ xs else x ∷ put_name name v xs) ≡ (if b then (name, value_at f v) ∷ names_at f xs else name_at f x ∷ put_name name (value_at f v) (names_at f xs))
    by true h = refl
    by false h = ap (λ ys. name_at f x ∷ ys) h

pub set_at : (f : ℕ → Tall) (name : List ℕ) (v : ScriptValue) (e : SeenEnvironment) → state_at f (record e { names = put_name name v e.names }) ≡ set_name name (value_at f v) (state_at f e)
set_at f name v e = ap (λ xs. record (state_at f e) { names = xs }) (put_at f name v e.names)

-- what holds whatever the answer is
pub on_ok : {V E : Type 0} (P : Type 0) (r : Result V E) → P → IfOk r (λ _. P)
on_ok P (Ok v) p = p
on_ok P (Err e) p = tt

pub names_more : (first e new : SeenEnvironment) (xs : List (List ℕ × ScriptValue)) → e ≡ record first { names = e.names } → new ≡ record e { names = xs } → new ≡ record first { names = new.names }
names_more first e new xs h k = k ∙ (ap (λ (o : SeenEnvironment). record o { names = xs }) h ∙ ap (λ ys. record first { names = ys }) (sym (ap (λ (o : SeenEnvironment). o.names) k)))

pub meant_still : (columns : Columns) (f : ℕ → Tall) (first e : SeenEnvironment) → e ≡ record first { names = e.names } → IsMeaning columns first.graph f → IsMeaning columns e.graph f
meant_still columns f first e h m = subst (λ g. IsMeaning columns g f) (sym (ap (λ (o : SeenEnvironment). o.graph) h)) m

-- ---- names that get their values, one after another

pub named_turn : (f : ℕ → Tall) (shown : Bool) (name : List ℕ) (rest names : List (List ℕ)) (v : Shared) (vs more : List Shared) (text later : List ℕ) (e new : SeenEnvironment) (all : Done)
    → names ≡ name ∷ rest → more ≡ v ∷ vs → later ≡ text ++ shown_text shown name (in_memory (shared_seen v)) → new ≡ record e { names = put_name name (kept.Memory v) e.names }
    → set_names shown names (map shared_seen more) text (state_at f e) ≡ all → set_names shown rest (map shared_seen vs) later (state_at f new) ≡ all
named_turn f shown name rest names v vs more text later e new all n m t s h =
    ap (λ u. set_names shown rest (map shared_seen vs) u (state_at f new)) t
    ∙ (ap (λ o. set_names shown rest (map shared_seen vs) (text ++ shown_text shown name (in_memory (shared_seen v))) (state_at f o)) s
    ∙ (ap (λ o. set_names shown rest (map shared_seen vs) (text ++ shown_text shown name (in_memory (shared_seen v))) o) (set_at f name (kept.Memory v) e)
    ∙ (sym (ap (λ ns. set_names shown ns (map shared_seen more) text (state_at f e)) n ∙ ap (λ us. set_names shown (name ∷ rest) (map shared_seen us) text (state_at f e)) m) ∙ h)))

-- a turn of the loop
pub named_more : (f : ℕ → Tall) (shown : Bool) (columns : Columns) (name : List ℕ) (rest names : List (List ℕ)) (v : Shared) (vs more : List Shared) (text later : List ℕ) (first e new : SeenEnvironment) (all : Done)
    → e ≡ record first { names = e.names } → names ≡ name ∷ rest → more ≡ v ∷ vs → new ≡ record e { names = put_name name (kept.Memory v) e.names }
    → (IsMeaning columns e.graph f → later ≡ text ++ shown_text shown name (in_memory (shared_seen v))) → IsMeaning columns first.graph f
    → (IsMeaning columns first.graph f → set_names shown names (map shared_seen more) text (state_at f e) ≡ all) → set_names shown rest (map shared_seen vs) later (state_at f new) ≡ all
named_more f shown columns name rest names v vs more text later first e new all same n m s told meaning h =
    named_turn f shown name rest names v vs more text later e new all n m (told (meant_still columns f first e same meaning)) s (h meaning)

none_left : (shown : Bool) (names : List (List ℕ)) (text : List ℕ) (s : State Tall) → set_names shown names [] text s ≡ shows text s
none_left shown [] text s = refl
none_left shown (name ∷ names) text s = refl

pub values_end : (f : ℕ → Tall) (shown : Bool) (names : List (List ℕ)) (more : List Shared) (text : List ℕ) (e : SeenEnvironment) (all : Done)
    → more ≡ [] → set_names shown names (map shared_seen more) text (state_at f e) ≡ all → all ≡ shows text (state_at f e)
values_end f shown names more text e all m h = sym h ∙ (ap (λ us. set_names shown names (map shared_seen us) text (state_at f e)) m ∙ none_left shown names text (state_at f e))

pub names_end : (f : ℕ → Tall) (shown : Bool) (names : List (List ℕ)) (more : List Shared) (text : List ℕ) (e : SeenEnvironment) (all : Done)
    → names ≡ [] → set_names shown names (map shared_seen more) text (state_at f e) ≡ all → all ≡ shows text (state_at f e)
names_end f shown names more text e all n h = sym h ∙ ap (λ ns. set_names shown ns (map shared_seen more) text (state_at f e)) n

-- names open nothing
pub names_open : (shown : Bool) (names : List (List ℕ)) (vs : List Memory) (text : List ℕ) (s : State Tall) → (done_state (set_names shown names vs text s)).opened ≡ s.opened
names_open shown [] vs text s = refl
names_open shown (name ∷ names) [] text s = refl
names_open shown (name ∷ names) (v ∷ vs) text s = names_open shown names vs (text ++ shown_text shown name (in_memory v)) (set_name name (in_memory v) s)
