-- A failure of a datastore's reading blames the shelf for a file that isn't there.
use Rattle.std.specs.Prelude.{◌≡◌}
use Rattle.tall_outside.specs.declared.shelf.Shelf as shelf
use Rattle.tall_outside.specs.Count.{Rose}
use Rattle.tall_value.specs.declared.faults.ReadingKind.{ReadingKind}
use Rattle.tall_value.specs.declared.faults.ReadingKind.TheVariants.{NoFile}
use Rattle.tall_environment.specs.declared.failures.Refusal.{Refusal}
use Rattle.tall_environment.specs.declared.failures.Refusal.TheVariants as r
use Rattle.tall_environment.specs.declared.failures.Failure.{Failure}
use Rattle.tall_environment.specs.declared.failures.Failure.TheVariants as failure
use Rattle.tall_environment.specs.Failures.{Blames, IsBlamed}
use Rattle.tall_script_calls.specs.ReadingFailures.{IsOfKind, IsOfReading}

module _ {S : Type 0} (s : shelf.Ghosts S) (before now : S) (kind : ReadingKind) (missed : kind ≡ NoFile → Rose (s.misses before) (s.misses now)) where
  refusal_blames : (e : Refusal) → IsOfKind kind e → IsBlamed s e before now
  refusal_blames (r.Undefined name) k = tt
  refusal_blames r.MixedClass k = tt
  refusal_blames r.BadClass k = tt
  refusal_blames r.Incompatible k = tt
  refusal_blames r.BadSize k = tt
  refusal_blames r.BadArgument k = tt
  refusal_blames r.BadIndex k = tt
  refusal_blames (r.Data row fault) k = tt
  refusal_blames (r.NoFile name) k = missed k
  refusal_blames (r.NoHeader name) k = tt
  refusal_blames (r.HeaderDiffers name) k = tt
  refusal_blames r.TooManyRows k = tt
  refusal_blames (r.TooManyFields row) k = tt
  refusal_blames (r.BadField row variable) k = tt
  refusal_blames (r.BadText row variable) k = tt
  refusal_blames (r.FieldNotWhole row variable) k = tt
  refusal_blames (r.FieldInexact row variable) k = tt
  refusal_blames r.NoValueLeft k = tt
  refusal_blames r.NoProgress k = tt
  refusal_blames r.TooManyTurns k = tt
  refusal_blames r.BadKey k = tt
  refusal_blames r.BadValue k = tt

  pub reading_blames : (e : Failure) → IsOfReading kind e → Blames s e before now
  reading_blames (failure.Refused line e) k = refusal_blames e k
  reading_blames (failure.Read name) k = absurd k
  reading_blames (failure.TooLarge name) k = absurd k
  reading_blames (failure.Changed name first last) k = absurd k
  reading_blames failure.Memory k = tt
