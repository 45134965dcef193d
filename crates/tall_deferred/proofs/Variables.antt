-- The variables of a tall table, by their names.
use Rattle.std.specs.Prelude.{◌≡◌, refl, ℕ, ◌<◌, Bool, true, false, if◌then◌else◌, List, [], ◌∷◌, Option, None, Some, option_map, Ok, Err}
use Rattle.std.specs.List.{All}
use Rattle.std.specs.Str.{bytes_eq}
use Rattle.std.proofs.Common.{ap, sym, subst, ◌∙◌}
use Rattle.std.proofs.lemmas.List.Elements.{All-head, All-tail}
use Rattle.tall_semantics.specs.Talls.{Tall}
use Rattle.tall_local.specs.Names.{named}
use Rattle.tall_local.specs.Refusals.{undefined, or_refuse}
use Rattle.tall_script.specs.ScriptValues.{tall_variable}
use Rattle.tall_deferred.specs.Values.{variables_at, node_named, IsVariable}
use Rattle.tall_deferred.specs.declared.values.Variable.{Variable}

chosen : {A B : Type 0} (g : A → B) (b : Bool) (x y : Option A) → option_map g (if b then x else y) ≡ (if b then option_map g x else option_map g y)
chosen g true x y = refl
chosen g false x y = refl

value_named : (f : ℕ → Tall) (xs : List Variable) (name : List ℕ) → option_map f (node_named xs name) ≡ named (variables_at f xs) name
value_named f [] name = refl
value_named f (x ∷ xs) name =
    chosen f (bytes_eq x.name name) (Some x.node) (node_named xs name)
    ∙ ap (λ o. if bytes_eq x.name name then Some (f x.node) else o) (value_named f xs name)

pub variable_found : (f : ℕ → Tall) (xs : List Variable) (name : List ℕ) (x : ℕ) → node_named xs name ≡ Some x → tall_variable (variables_at f xs) name ≡ Ok (f x)
variable_found f xs name x e = ap (or_refuse (undefined name)) (sym (value_named f xs name) ∙ ap (option_map f) e)

pub variable_missing : (f : ℕ → Tall) (xs : List Variable) (name : List ℕ) → node_named xs name ≡ None → tall_variable (variables_at f xs) name ≡ Err (undefined name)
variable_missing f xs name e = ap (or_refuse (undefined name)) (sym (value_named f xs name) ∙ ap (option_map f) e)

either_within : (n : ℕ) (b : Bool) (y x : ℕ) (rest : Option ℕ) → y < n → (rest ≡ Some x → x < n) → (if b then Some y else rest) ≡ Some x → x < n
either_within n true y x rest h k e = subst (λ m. m < n) (ap (λ o. elim o [ Some m ↦ m | None ↦ y ]) e) h
either_within n false y x rest h k e = k e

pub node_within : (n : ℕ) (xs : List Variable) (name : List ℕ) (x : ℕ) → All (IsVariable n) xs → node_named xs name ≡ Some x → x < n
node_within n [] name x all e = absurd (cc)
node_within n (y ∷ ys) name x all e =
    either_within n (bytes_eq y.name name) y.node x (node_named ys name) (All-head (IsVariable n) y ys all)
    (node_within n ys name x (All-tail (IsVariable n) y ys all)) e
