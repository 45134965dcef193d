-- What a pass asks for can be met.
use Rattle.std.specs.Prelude.{refl, ℕ, zero, suc, None, [], ◌∷◌}
use Rattle.std.proofs.Common.{arith, inl, inr}
use Rattle.tall_semantics.specs.Numbered.{levels_in}
use Rattle.tall_semantics.specs.ScanLevels.{chains_in}
use Rattle.tall_semantics.specs.ShapesInOrder.{shapes_from}
use Rattle.tall_semantics.specs.Talls.{tall}
use Rattle.tall_semantics.specs.InOrder.{talls_from}
use Rattle.tall_semantics.specs.Plans.{needed_below}
use Rattle.tall_semantics.proofs.PlanLaws.{among_filter}
use Rattle.tall_blocks.specs.BlockSamples.{blocks, value, vertices, whole_columns}
use Rattle.tall_blocks.specs.PassWork.{IsEndOf}
use Rattle.tall_blocks.proofs.SampleLaws.{sample_candidate, sample_cut, sample_gather, sample_pass, sample_scalars, sample_scans}
use Rattle.tall_piece.specs.Passes.{AreWanted, PassOver}
use Rattle.tall_piece.specs.SamplePasses.{all, cut, needed, wanted}

no_ends : (i : ℕ) → IsEndOf 0 vertices value (levels_in value) needed 1 None i → ⊥
unfolding tall talls_from
no_ends zero e = absurd (let q = e.1.0 in cc)
no_ends (suc zero) e = absurd (let q = e.1.0 in cc)
no_ends (suc (suc zero)) e = absurd (let q = e.0.1 in cc)
no_ends (suc (suc (suc zero))) e = absurd (let q = e.1.0 in cc)
no_ends (suc (suc (suc (suc zero)))) e = absurd (let q = e.1.0 in cc)
no_ends (suc (suc (suc (suc (suc i))))) e = absurd (let q = e.1.1.2 in cc)

ways : AreWanted 0 vertices value (levels_in value) (chains_in value) needed 1 None cut wanted
unfolding tall talls_from shapes_from needed_below
ways = (((_, refl), refl), (((_, refl, refl, refl, refl, omega (arith)), (inr (inr (inr (inr (inl refl)))), refl, refl, refl, tt)), tt))

pub sample : PassOver vertices 0 all wanted
sample = record {
  columns = whole_columns;
  of_stores = λ s. 1 ∷ 2 ∷ [];
  f = value;
  levels = levels_in value;
  carried = chains_in value;
  roots = 3 ∷ 4 ∷ [];
  needed = needed;
  before = 0;
  candidate = None;
  cut = cut;
  blocks = blocks;
  gather = sample_gather;
  least = sample_candidate;
  cuts = sample_cut;
  listed = λ i. ((λ m. ((among_filter cut needed i).0 m).1), (λ c. (among_filter cut needed i).1 ((sample_cut.within i c).1.0, c)));
  ways = ways;
  ends = λ i e. absurd (no_ends i e);
  numbered = sample_pass.numbered;
  readings = sample_pass.readings;
  scalars = sample_scalars;
  scans = sample_scans;
  of_blocks = λ i v s a e d q. refl;
  tables = ((λ i j v w s a o e g d p q r. refl), ((λ i j v w s a o e g d p q r. refl), tt));
  ascending = sample_pass.ascending;
}
