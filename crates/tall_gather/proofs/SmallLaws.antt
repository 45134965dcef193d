-- What becomes of a node, from the answer over its operands.
use Rattle.std.specs.Prelude.{◌≡◌, refl, ℕ, ◌<◌, Option, None, Some, Result, Ok, Err, List, [], ◌∷◌, length, slice_get, IfSome}
use Rattle.std.proofs.Common.{ap, sym, subst, ◌∙◌}
use Rattle.tall_semantics.specs.Faults.{Fault, earlier, fault_seen}
use Rattle.tall_semantics.specs.Outcomes.{fault, fault_of}
use Rattle.tall_semantics.specs.Talls.{Tall}
use Rattle.tall_semantics.specs.Deferred.{Vertex, IsAmong, fault_in, least_in, own_at, own_fault, own_in}
use Rattle.tall_fuse.specs.Results.{Found}
use Rattle.tall_fuse.specs.Kept.{found}
use Rattle.tall_fuse.specs.declared.known.Known.{Known}
use Rattle.tall_part.specs.declared.results.EndColumn.{EndColumn}
use Rattle.tall_part.specs.declared.results.EndFault.{EndFault}
use Rattle.tall_part.specs.declared.results.EndFault.TheVariants as fault_of_end
use Rattle.tall_gather.specs.declared.small.Small.{Small}
use Rattle.tall_pass.specs.Told.{Shows}
use Rattle.tall_gather.specs.Rests.{LacksOperand}
use Rattle.tall_gather.specs.Smalls.{BecomesSmall, FitsAnswer, FitsSmall, TellsSmall, TellsValue}
use Rattle.tall_gather.proofs.NodeLaws.{no_fault, stands}

pub small_fits : (vs : List Vertex) (i : ℕ) (known : Known) (answer : Result EndColumn EndFault) (small : Small) → BecomesSmall answer small → FitsAnswer vs i answer → FitsSmall vs i known small
small_fits vs i known (Ok v) small b fit = subst (FitsSmall vs i known) (sym b) fit
small_fits vs i known (Err (fault_of_end.Data x)) small b fit = subst (FitsSmall vs i known) (sym b) fit
small_fits vs i known (Err fault_of_end.Memory) small b fit = subst (FitsSmall vs i known) (sym b) tt

small_told : (vs : List Vertex) (f : ℕ → Tall) (i : ℕ) (answer : Result EndColumn EndFault) (small : Small) → ((x : Fault) → (f i).outcome ≡ fault x → own_in vs f i ≡ Some x) → BecomesSmall answer small → TellsValue (f i) answer → TellsSmall vs f i small
small_told vs f i (Ok v) small own b told = subst (TellsSmall vs f i) (sym b) (record { cells = told.0; numbers = told.1 })
small_told vs f i (Err (fault_of_end.Data x)) small own b told = subst (TellsSmall vs f i) (sym b) (own (fault_seen x) told)
small_told vs f i (Err fault_of_end.Memory) small own b told = subst (TellsSmall vs f i) (sym b) tt

module _ (vs : List Vertex) (i : ℕ) (there : i < length vs) where
  vertex : (args : List ℕ) → IfSome (slice_get vs i) (λ v. v.args ≡ args) → (v : Vertex) × (slice_get vs i ≡ Some v) × (v.args ≡ args)
  vertex args h = (let w = stands vs i there in (w.0, w.1, subst (λ o. IfSome o (λ (v : Vertex). v.args ≡ args)) w.1 h))

  pub lacks : (args : List ℕ) (a : ℕ) (known : Known) → IfSome (slice_get vs i) (λ v. v.args ≡ args) → IsAmong args a → found known a ≡ None → LacksOperand vs known i
  lacks args a known h m none = (let w = vertex args h in (w.0, a, w.1, subst (λ (l : List ℕ). IsAmong l a) (sym w.2) m, none))

  -- where no operand has a fault, the node's is its own
  own_here : (f : ℕ → Tall) (args : List ℕ) → IfSome (slice_get vs i) (λ v. v.args ≡ args) → least_in f args ≡ None → (x : Fault) → (f i).outcome ≡ fault x → own_in vs f i ≡ Some x
  own_here f args h none x e =
      let w = vertex args h in
      ap (λ (o : Option Vertex). own_at f o i) w.1 ∙ (ap (λ (l : List ℕ). own_fault (least_in f l) (fault_in f i)) w.2 ∙ (ap (λ c. own_fault c (fault_in f i)) none ∙ ap fault_of e))

  pub told_alone : (f : ℕ → Tall) (answer : Result EndColumn EndFault) (small : Small) → IfSome (slice_get vs i) (λ v. v.args ≡ []) → BecomesSmall answer small → TellsValue (f i) answer → TellsSmall vs f i small
  told_alone f answer small h b told = small_told vs f i answer small (own_here f [] h refl) b told

  pub told_one : (f : ℕ → Tall) (a : ℕ) (x : Found) (answer : Result EndColumn EndFault) (small : Small) → IfSome (slice_get vs i) (λ v. v.args ≡ a ∷ []) → Shows (f a) x → BecomesSmall answer small → TellsValue (f i) answer → TellsSmall vs f i small
  told_one f a x answer small h shows b told = small_told vs f i answer small (own_here f (a ∷ []) h (ap (λ o. earlier o None) (no_fault (f a) x shows))) b told

  pub told_two : (f : ℕ → Tall) (a c : ℕ) (x y : Found) (answer : Result EndColumn EndFault) (small : Small) → IfSome (slice_get vs i) (λ v. v.args ≡ a ∷ c ∷ []) → Shows (f a) x → Shows (f c) y → BecomesSmall answer small → TellsValue (f i) answer → TellsSmall vs f i small
  told_two f a c x y answer small h sx sy b told =
      small_told vs f i answer small (own_here f (a ∷ c ∷ []) h (ap (λ o. earlier o (earlier (fault_in f c) None)) (no_fault (f a) x sx) ∙ ap (λ o. earlier o None) (no_fault (f c) y sy))) b told
