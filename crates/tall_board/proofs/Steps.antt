-- The steps of the board's calls, as the table asks for them.
use Rattle.std.proofs.Common.{◌≡◌, ℕ, ◌+◌, ◌%◌, ◌^◌, ◌<◌, List, [], ◌∷◌, sym, subst}
use Rattle.std.specs.Prelude.{false, Option, Some, None}
use mathlib.Core.Option.{none}
use Rattle.atomic_table.specs.Table.{Me, Allows, step}
use Rattle.tall_board.specs.declared.view.View.{View}
use Rattle.tall_board.specs.Rule.{Kept, Claimed, Published}
use Rattle.tall_board.proofs.Claiming.{claim_keeps}
use Rattle.tall_board.proofs.Publishing.{publish_keeps}

module _ {P : Type 0} (right : ℕ → P → Type 0) (n slots id : ℕ) (me : Me (Option P) View) (size : slots ≡ n) (few : n < 2 ^ 32) where
  pub allows_claim : me.1 ≡ [] → me.0.ticket ≡ None → me.0.told ≡ false → 0 < me.0.room
      → Allows (Kept right n) slots id me 0 (λ t. (t + 1) % 2 ^ 64) (Claimed (step slots 0 1 0 none) me)
  allows_claim empty idle told room =
      subst (λ (m : ℕ). Allows (Kept right n) m id me 0 (λ t. (t + 1) % 2 ^ 64) (Claimed (step m 0 1 0 none) me)) (sym size)
      (subst (λ (l : List (ℕ × Option P)). Allows (Kept right n) n id (me.0, l) 0 (λ t. (t + 1) % 2 ^ 64) (Claimed (step n 0 1 0 none) (me.0, l))) (sym empty)
      (claim_keeps right n id me.0 idle told room few))

  pub allows_publish : (v : View) (place : ℕ) (piece : P) → me ≡ (v, (place, Some piece) ∷ []) → v.ticket ≡ Some place → right place piece
      → Allows (Kept right n) slots id me 1 (λ t. (t + 1) % 2 ^ 64) (Published (step slots 1 1 0 none) me)
  allows_publish v place piece is ticket good =
      subst (λ (m : ℕ). Allows (Kept right n) m id me 1 (λ t. (t + 1) % 2 ^ 64) (Published (step m 1 1 0 none) me)) (sym size)
      (subst (λ (x : Me (Option P) View). Allows (Kept right n) n id x 1 (λ t. (t + 1) % 2 ^ 64) (Published (step n 1 1 0 none) x)) (sym is)
      (publish_keeps right n id place v piece ticket good few))
