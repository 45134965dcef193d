-- What is refused of an index, by what a graph tells of its node.
use Rattle.std.specs.Prelude.{◌≡◌, refl, Bool, true, false, if◌then◌else◌, Result, Err}
use Rattle.std.proofs.Common.{ap, sym, subst, ◌∙◌}
use Rattle.tall_semantics.specs.Talls.{Tall}
use Rattle.tall_local.specs.MemoryIndexing.{is_logical}
use Rattle.tall_local.specs.Refusals.{Refusal, bad_class, bad_argument, incompatible}
use Rattle.tall_script.specs.ScriptValues.{TallValue, is_tall_scalar, tall_index_of_memory}
use Rattle.tall_deferred.specs.Faults.{IsDue}
use Rattle.tall_deferred.specs.declared.faults.ValueFault.{ValueFault}

abbrev chosen : (a b : Bool) → Result TallValue Refusal
chosen a b = if a then Err bad_argument else if b then Err incompatible else Err bad_class

by_tests : (x : Tall) (a b : Bool) → a ≡ is_tall_scalar x → b ≡ is_logical x.shape.class → tall_index_of_memory x ≡ chosen a b
by_tests x a b h k = sym (ap (λ n. chosen n b) h ∙ ap (chosen (is_tall_scalar x)) k)

pub scalar_index : (x : Tall) (a : Bool) → a ≡ is_tall_scalar x → a ≡ true → tall_index_of_memory x ≡ Err bad_argument
scalar_index x a h t = by_tests x a (is_logical x.shape.class) h refl ∙ ap (λ n. chosen n (is_logical x.shape.class)) t

pub logical_index : (x : Tall) (a b : Bool) → a ≡ is_tall_scalar x → a ≡ false → b ≡ is_logical x.shape.class → b ≡ true → tall_index_of_memory x ≡ Err incompatible
logical_index x a b h t k u = by_tests x a b h k ∙ (ap (λ n. chosen n b) t ∙ ap (chosen false) u)

pub other_index : (x : Tall) (a b : Bool) → a ≡ is_tall_scalar x → a ≡ false → b ≡ is_logical x.shape.class → b ≡ false → tall_index_of_memory x ≡ Err bad_class
other_index x a b h t k u = by_tests x a b h k ∙ (ap (λ n. chosen n b) t ∙ ap (chosen false) u)

pub scalar_indexed : (x : Tall) (a : Bool) (rest : Result TallValue Refusal) → a ≡ is_tall_scalar x → a ≡ true → (if is_tall_scalar x then Err bad_argument else rest) ≡ Err bad_argument
scalar_indexed x a rest h t = ap (λ n. if n then Err bad_argument else rest) (sym h ∙ t)

pub column_indexed : (x : Tall) (a : Bool) (rest : Result TallValue Refusal) (e : ValueFault) → a ≡ is_tall_scalar x → a ≡ false → IsDue rest e → IsDue (if is_tall_scalar x then Err bad_argument else rest) e
column_indexed x a rest e h t d = subst (λ n. IsDue (if n then Err bad_argument else rest) e) (sym (sym h ∙ t)) d
