mod RunSteps
mod StoresKept
mod Numbers
pub mod NumbersInTurn
mod OpeningsKept
pub mod OneAnswer
mod Sizes
mod MapReduceApart
mod Standing
mod StatesStand
mod CallsStand
mod RunsStand
mod QuietCalls
mod SizesApart
mod SizedOpenings
pub mod LaterNumbers
mod PhaseStores
pub mod VerticesAdded
mod PairTables
mod ValuesAdded
mod GatheredClasses
mod ValuesComplete
