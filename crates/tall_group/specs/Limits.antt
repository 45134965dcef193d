-- Clamp functions as they are kept in a group.
use Rattle.std.specs.Prelude.{ℤ}
use Rattle.tall_clamp.specs.declared.bounds.Bounds.{Bounds}
use Rattle.tall_group.specs.declared.limits.Limits.{Limits}

abbrev pub bounds_of : Limits → Bounds
bounds_of c = record { shift = c.shift; low = c.low; high = c.high }

abbrev pub limits_of : Bounds → Limits
limits_of c = record { shift = c.shift; low = c.low; high = c.high }
