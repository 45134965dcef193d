-- The end of a run at a statement's failure.
use Rattle.std.specs.Prelude.{ℕ, List, [], Option, None, Some}
use Rattle.tall_local.specs.Refusals.{stop_at}
use Rattle.tall_environment.specs.declared.failures.Failure.{Failure}
use Rattle.tall_environment.specs.declared.failures.Failure.TheVariants as failure
use Rattle.tall_environment.specs.declared.failures.Refusal.{Refusal}
use Rattle.tall_environment.specs.declared.failures.Refusal.TheVariants.{Undefined, NoFile, NoHeader, HeaderDiffers, BadField, BadText, FieldNotWhole, FieldInexact}
use Rattle.tall_environment.specs.Failures.{refusal_seen}
use Rattle.tall_steps.specs.Ends.{End, stopped, unread, changed, too_large}

-- the name, the file or the variable that a refusal names
abbrev pub name_in : Refusal → List ℕ
name_in (Undefined name) = name
name_in (NoFile name) = name
name_in (NoHeader name) = name
name_in (HeaderDiffers name) = name
name_in (BadField row variable) = variable
name_in (BadText row variable) = variable
name_in (FieldNotWhole row variable) = variable
name_in (FieldInexact row variable) = variable
name_in refusal = []

-- none where memory was wanting
abbrev pub end_of : Failure → Option End
end_of (failure.Refused line refusal) = Some (stopped (stop_at line (refusal_seen refusal)))
end_of (failure.Read name) = Some (unread name)
end_of (failure.TooLarge name) = Some (too_large name)
end_of (failure.Changed name first last) = Some (changed name first last)
end_of failure.Memory = None
