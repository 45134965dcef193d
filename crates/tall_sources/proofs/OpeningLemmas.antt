-- An opening of a datastore, with the name of its first file.
use Rattle.std.specs.Prelude.{◌≡◌, ◌≢◌, refl, ℕ, IfErr, IfSome, List, [], ◌∷◌, map, Option, None, Some, option_and_then, Result, Ok, Err}
use Rattle.std.proofs.Common.{ap, sym, subst, ◌∙◌}
use Rattle.tall_outside.specs.Shelf.{Files}
use Rattle.tall_semantics.specs.Talls.{Tall}
use Rattle.tall_store.specs.Opening.{IsWithin, Opens, first_name, opening}
use Rattle.tall_store.specs.Options.{SeenOptions}
use Rattle.tall_store.specs.Stores.{SeenStore}
use Rattle.tall_store.specs.declared.faults.StoreFault.{StoreFault}
use Rattle.tall_store.specs.declared.faults.StoreFault.TheVariants as store_fault
use Rattle.tall_local.specs.Lists.{all_of, in_front_of}
use Rattle.tall_local.specs.Refusals.{no_file, no_header}
use Rattle.tall_script.specs.Datastores.{value_in_memory}
use Rattle.tall_script.specs.StoreArguments.{options_given}
use Rattle.tall_deferred.specs.Values.{lent_at}
use Rattle.tall_deferred.specs.declared.values.ScriptRef.{ScriptRef}
use Rattle.tall_deferred.specs.declared.values.ScriptRef.TheVariants as lent
use Rattle.tall_sources.specs.Given.{memory_lent, options_lent}
use Rattle.tall_sources.specs.Opened.{IsOf, OpensTo, refused_opening, store_due, unnamed}
use Rattle.tall_sources.specs.declared.opening.OpenFault.{OpenFault}
use Rattle.tall_sources.specs.declared.opening.OpenFault.TheVariants as fault

-- ---- arguments

one_same : (f : ℕ → Tall) (v : ScriptRef) → value_in_memory (lent_at f v) ≡ memory_lent v
one_same f (lent.Datastore place) = refl
one_same f (lent.Table xs) = refl
one_same f (lent.Tall n) = refl
one_same f (lent.Memory v) = refl

all_same : (f : ℕ → Tall) (args : List ScriptRef) → all_of value_in_memory (map (lent_at f) args) ≡ all_of memory_lent args
all_same f [] = refl
all_same f (v ∷ args) = ap (λ o. in_front_of o (all_of value_in_memory (map (lent_at f) args))) (one_same f v) ∙ ap (in_front_of (memory_lent v)) (all_same f args)

pub same_options : (f : ℕ → Tall) (args : List ScriptRef) → option_and_then options_given (all_of value_in_memory (map (lent_at f) args)) ≡ options_lent args
same_options f args = ap (option_and_then options_given) (all_same f args)

-- ---- answers

-- what is due of an opening is due of its answer with the file's name
one_opens : (files : List (List ℕ)) (due : Result SeenStore StoreFault) (r : Result SeenStore OpenFault) → IfErr r (IsOf (first_name files)) → Opens due (unnamed r) → OpensTo (refused_opening files due) r
one_opens files due (Ok store) of h = ap (refused_opening files) h
one_opens files due (Err fault.BadArgument) of h = ap (refused_opening files) h
one_opens files due (Err (fault.NoFile name)) of h = ap (refused_opening files) h ∙ ap (λ n. Err (no_file n)) (sym of)
one_opens files due (Err (fault.NoHeader name)) of h = ap (refused_opening files) h ∙ ap (λ n. Err (no_header n)) (sym of)
one_opens files due (Err (fault.Failed name)) of h = tt
one_opens files due (Err (fault.TooLarge name)) of h = tt
one_opens files due (Err fault.Memory) of h = tt

pub opens_told : (held : Option Files) (o : SeenOptions) (r : Result SeenStore StoreFault) (result : Result SeenStore OpenFault) → r ≡ unnamed result → IfErr result (IsOf (first_name o.files))
    → IfSome held (λ files. Opens (opening files o) r) → IfSome held (λ files. OpensTo (store_due files (Some o)) result)
opens_told None o r result e of h = tt
opens_told (Some files) o r result e of h = one_opens o.files (opening files o) result of (subst (Opens (opening files o)) e h)

pub opens_within : (held : Option Files) (o : SeenOptions) (r : Result SeenStore StoreFault) (result : Result SeenStore OpenFault) → r ≡ unnamed result
    → IfSome held (λ files. IsWithin files o → r ≢ Err store_fault.TooLarge) → IfSome held (λ files. IsWithin files o → unnamed result ≢ Err store_fault.TooLarge)
opens_within held o r result e h = subst (λ x. IfSome held (λ files. IsWithin files o → x ≢ Err store_fault.TooLarge)) e h
