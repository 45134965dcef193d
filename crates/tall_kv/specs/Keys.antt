-- What a clause sees of a key: a cell, where the class of an integer doesn't count.
use Rattle.tall_value.specs.declared.class.IntKind.TheVariants.{Int64}
use Rattle.tall_value.specs.Cells.{Seen, whole, logical, double, text}
use Rattle.tall_kv.specs.declared.key.Key.{Key}
use Rattle.tall_kv.specs.declared.key.Key.TheVariants as key

abbrev pub key_seen : Key → Seen
key_seen (key.Whole n) = whole Int64 n
key_seen (key.Logical b) = logical b
key_seen (key.Double d) = double d
key_seen (key.Text t) = text t.now

abbrev pub without_class : Seen → Seen
without_class (whole k n) = whole Int64 n
without_class (logical b) = logical b
without_class (double d) = double d
without_class (text t) = text t
