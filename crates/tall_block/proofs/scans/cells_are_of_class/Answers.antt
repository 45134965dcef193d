use Rattle.std.specs.Prelude.{refl}
use Rattle.std.proofs.Common.{sym, subst}
use Rattle.tall_value.specs.declared.class.Kind.TheVariants as kind
use Rattle.tall_value.specs.Cells.{double, text}
use Rattle.tall_value.specs.Classes.{kind_of}
use Rattle.tall_dense.specs.Dense.{shown}
use Rattle.tall_dense.specs.declared.values.Values.{Values}
use Rattle.tall_blocks.specs.Carries.{AllCells}
use Rattle.tall_block.specs.ScanCells.{IsScanned}
use Rattle.tall_block.proofs.ScanLaws.{all_in}
use Rattle.tall_block.proofs.scans.cells_are_of_class.Goals as goal

pub returns-in-Double : goal.returns-in-Double
returns-in-Double c = subst (λ (v : Values). AllCells (IsScanned (kind_of (shown v).class)) (shown v).cells) (sym c.in-Double.is) (all_in (IsScanned kind.Double) (λ d. double d) (λ d. refl) _)

pub returns-in-Text : goal.returns-in-Text
returns-in-Text c = subst (λ (v : Values). AllCells (IsScanned (kind_of (shown v).class)) (shown v).cells) (sym c.in-Text.is) (all_in (IsScanned kind.Text) (λ s. text s) (λ s. tt) _)
