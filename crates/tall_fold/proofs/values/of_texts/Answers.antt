use Rattle.std.proofs.Common.{refl}
use Rattle.tall_value.specs.declared.class.Kind.TheVariants.{Text}
use Rattle.tall_value.specs.Cells.{text}
use Rattle.tall_fold.proofs.KeptLemmas.{numel_of, height_of}
use Rattle.tall_fold.proofs.values.of_texts.Goals as goal

pub returns-in-Numel : goal.returns-in-Numel
returns-in-Numel c = rw c.in-Numel.is (numel_of Text (λ t. text t) c.args.texts.now _ (λ t. refl) c.len.ensures)

pub returns-in-Height : goal.returns-in-Height
returns-in-Height c = rw c.in-Height.is (height_of Text (λ t. text t) c.args.texts.now _ (λ t. refl) c.len-in-Height.ensures)
