-- Values of a script. `D` stands for a tall column or a tall scalar.
use Rattle.std.specs.Prelude.{ℕ, List, Result, Ok, Err}
use Rattle.tall_local.specs.Refusals.{Refusal}
use Rattle.tall_local.specs.Memory.{Memory}

pub data Value (D : Type 0) : Type 0 where
  -- by its place in the order of their making, from 0
  datastore : (place : ℕ) → Value D
  -- the variables have one space
  tall_table : List (List ℕ × D) → Value D
  deferred : D → Value D
  in_memory : Memory → Value D

abbrev pub memory_answer : {D : Type 0} → Result Memory Refusal → Result (Value D) Refusal
memory_answer (Ok v) = Ok (in_memory v)
memory_answer (Err e) = Err e
