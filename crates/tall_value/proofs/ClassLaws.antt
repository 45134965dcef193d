-- The test for equal integer classes means equality.
use Rattle.std.specs.Prelude.{◌≡◌, refl, true, List, [], ◌∷◌, get_or}
use Rattle.std.proofs.Common.{ap, sym, ◌∙◌}
use Rattle.std.proofs.lemmas.Bool.{eqb-true}
use Rattle.tall_value.specs.declared.class.IntKind.{IntKind}
use Rattle.tall_value.specs.declared.class.IntKind.TheVariants.{Int8, Int16, Int32, Int64, Uint8, Uint16, Uint32, Uint64}
use Rattle.tall_value.specs.Classes.{is_same, place}

abbrev kinds : List IntKind
kinds = Int8 ∷ Int16 ∷ Int32 ∷ Int64 ∷ Uint8 ∷ Uint16 ∷ Uint32 ∷ Uint64 ∷ []

by_place : (k : IntKind) → get_or kinds (place k) Int8 ≡ k
by_place Int8 = refl
by_place Int16 = refl
by_place Int32 = refl
by_place Int64 = refl
by_place Uint8 = refl
by_place Uint16 = refl
by_place Uint32 = refl
by_place Uint64 = refl

pub same_integers : (j k : IntKind) → is_same j k ≡ true → j ≡ k
same_integers j k h = sym (by_place j) ∙ ap (λ n. get_or kinds n Int8) (eqb-true (place j) (place k) h) ∙ by_place k
