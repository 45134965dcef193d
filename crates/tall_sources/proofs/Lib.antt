mod ValueLemmas
mod OptionLemmas
mod PairLoops
mod PropertyLemmas
mod TallLemmas
mod KeptLaws
mod OpeningLemmas
mod SourceLemmas
