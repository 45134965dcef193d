-- The values of a gather, one after another: what is done, in front of what the rest gives, is what all give.
use Rattle.std.specs.Prelude.{◌≡◌, ℕ, Bool, List, [], ◌∷◌, ◌++◌, map}
use Rattle.std.proofs.Common.{sym, ap, ◌∙◌, append_assoc}
use Rattle.std.specs.List.{flat_map}
use Rattle.std.proofs.lemmas.List.{map-append}
use Rattle.tall_column.specs.Columns.{SeenColumn}
use Rattle.tall_local.specs.Memory.{Memory}
use Rattle.tall_deferred.specs.declared.values.ScriptValue.{ScriptValue}
use Rattle.tall_deferred.specs.Values.{Shared, shared_seen}
use Rattle.tall_script_calls.specs.GatheredValues.{memories_by, memory_by, nodes_in}

front : {X : Type 0} (a new b c d all : List X) → new ≡ a ++ b → b ++ c ≡ d → a ++ d ≡ all → new ++ c ≡ all
front a new b c d all e f h = ap (λ z. z ++ c) e ∙ (append_assoc a b c ∙ (ap (λ z. a ++ z) f ∙ h))

pub first_column : (g : ℕ → SeenColumn) (columns : List SeenColumn) (left rest : List ScriptValue) (v : ScriptValue) → left ≡ v ∷ rest → columns ≡ map g (flat_map nodes_in left) → columns ≡ map g (nodes_in v) ++ map g (flat_map nodes_in rest)
first_column g columns left rest v is h = h ∙ (ap (λ zs. map g (flat_map nodes_in zs)) is ∙ map-append g (nodes_in v) (flat_map nodes_in rest))

pub more_put : (single : ℕ → Bool) (g : ℕ → SeenColumn) (columns : List SeenColumn) (ms ns : List Shared) (one : Shared) (left rest : List ScriptValue) (v : ScriptValue) (all : List Memory)
    → left ≡ v ∷ rest → ns ≡ ms ++ one ∷ [] → (shared_seen one ≡ memory_by single g v) × (columns ≡ map g (flat_map nodes_in rest)) → map shared_seen ms ++ memories_by single g left ≡ all
    → (columns ≡ map g (flat_map nodes_in rest)) × (map shared_seen ns ++ memories_by single g rest ≡ all)
more_put single g columns ms ns one left rest v all is e told h = (
  told.1,
  front (map shared_seen ms) (map shared_seen ns) (memory_by single g v ∷ []) (memories_by single g rest) (memories_by single g left) all
      (ap (map shared_seen) e ∙ (map-append shared_seen ms (one ∷ []) ∙ ap (λ m. map shared_seen ms ++ m ∷ []) told.0)) (sym (ap (memories_by single g) is)) h,
)
