-- Passes go level by level, and the least fault found so far bounds the work of the next level. What holds after all
-- passes of the levels up to k, said of any expressions with numbers, levels and own faults.
use Rattle.std.specs.Prelude.{◌≡◌, ℕ, ◌≤◌, Option, Some}
use Rattle.tall_semantics.specs.Faults.{Fault, fault_place}
use Rattle.tall_semantics.specs.Least.{IsLeast, IsBelow}

-- expressions by their places
pub record Nodes : Type 0 where
  pub number : ℕ → ℕ
  pub level : ℕ → ℕ
  pub own : ℕ → Option Fault

-- what every graph keeps: a fault has its expression's number, expressions of one number that can fail have one level,
-- and faults of one place are one fault
pub record IsNumbered (ns : Nodes) : Type 0 where
  pub by_number : (i : ℕ) (x : Fault) → ns.own i ≡ Some x → x.number ≡ ns.number i
  pub one_level : (i j : ℕ) (x y : Fault) → ns.own i ≡ Some x → ns.own j ≡ Some y → ns.number i ≡ ns.number j → ns.level i ≡ ns.level j
  pub one_place : (i j : ℕ) (x y : Fault) → ns.own i ≡ Some x → ns.own j ≡ Some y → fault_place x ≡ fault_place y → x ≡ y

-- what operands are: of no greater number and of no greater level
abbrev pub IsBefore : Nodes → (a i : ℕ) → Type 0
IsBefore ns a i = (ns.number a ≤ ns.number i) × (ns.level a ≤ ns.level i)

abbrev pub UpTo : Nodes → (ℕ → Type 0) → ℕ → ℕ → Type 0
UpTo ns Needed k i = Needed i × (ns.level i ≤ k)

-- the work of level k: what is needed there and numbered below the candidate
abbrev pub IsWork : Nodes → (ℕ → Type 0) → ℕ → Option Fault → ℕ → Type 0
IsWork ns Needed k c i = Needed i × (ns.level i ≡ k) × IsBelow c (ns.number i)

-- after the passes of the levels up to k: what is known, and the candidate
pub record After (ns : Nodes) (Needed Known : ℕ → Type 0) (k : ℕ) (c : Option Fault) : Type 0 where
  pub known : (i : ℕ) → UpTo ns Needed k i → IsBelow c (ns.number i) → Known i
  pub candidate : IsLeast ns.own (UpTo ns Needed k) c

-- what the passes of level k give, from the work numbered below the candidate of the lower levels: nothing is forgotten,
-- the work numbered below the least fault p of this work is known
pub record Passed (ns : Nodes) (Needed Known Known' : ℕ → Type 0) (k : ℕ) (c p : Option Fault) : Type 0 where
  pub kept : (i : ℕ) → Known i → Known' i
  pub more : (i : ℕ) → IsWork ns Needed k c i → IsBelow p (ns.number i) → Known' i
  pub found : IsLeast ns.own (IsWork ns Needed k c) p
