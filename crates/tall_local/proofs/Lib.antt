pub mod StatesKept
mod LocalsKept
mod PairLemmas
mod CallsKept
mod LiftedValues
pub mod CallsAppended
pub mod ValuesKept
mod StopsKept
mod FunctionStops
pub mod StoreKept
pub mod TableNames
mod MemoryClasses
mod ApplicationOperands
mod LocalsHeld
mod StepsHeld
mod TurnsSuffice
pub mod ListedCalls
pub mod KeyLaws
