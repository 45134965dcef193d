-- What a script is made of, as definitions see it: plain data, with names and texts as their bytes.
use Rattle.std.specs.Prelude.{ℕ, ℤ, Bool, List, Option}
use Rattle.tall_grammar.specs.declared.expressions.Prefix.{Prefix}
use Rattle.tall_grammar.specs.declared.expressions.Infix.{Infix}

-- an expression: its number, its line, and what it is
mutual
  pub data Tree : Type 0 where
    tree : (number line : ℕ) → Shape → Tree

  pub data Shape : Type 0 where
    number : Option ℤ → Shape
    text : List ℕ → Shape
    name : List ℕ → Shape
    list : Trees → Shape
    handle : List ℕ → Shape
    prefixed : Prefix → Tree → Shape
    joined : Infix → Tree → Tree → Shape
    member : Tree → List ℕ → Shape
    call : Tree → Args → Shape

  pub data Trees : Type 0 where
    no_trees : Trees
    and_tree : Tree → Trees → Trees

  pub data Args : Type 0 where
    no_args : Args
    value_arg : Tree → Args → Args
    colon_arg : Args → Args

-- a statement of a function, with the line on which it begins
mutual
  pub data Step : Type 0 where
    assign_step : (line : ℕ) (name : List ℕ) → Tree → Step
    add_step : (line : ℕ) (store key value : Tree) → Step
    if_step : (line : ℕ) → Arms → Steps → Step
    while_step : (line : ℕ) → Tree → Steps → Step
    for_step : (line : ℕ) (name : List ℕ) (from to : Tree) → Steps → Step

  pub data Steps : Type 0 where
    no_steps : Steps
    and_step : Step → Steps → Steps

  pub data Arms : Type 0 where
    no_arms : Arms
    and_arm : Tree → Steps → Arms → Arms

-- what a statement is
pub data Body : Type 0 where
  assigned : (name : List ℕ) → Tree → Body
  gathered : (names : List (List ℕ)) → Args → Body
  property : (name property : List ℕ) → Tree → Body
  bare : Tree → Body

pub record SeenStatement : Type 0 where
  pub line : ℕ
  pub shown : Bool
  pub form : Body

pub record SeenFunction : Type 0 where
  pub name : List ℕ
  pub line : ℕ
  pub params : List (Option (List ℕ))
  pub body : Steps

pub record SeenScript : Type 0 where
  pub statements : List SeenStatement
  pub functions : List SeenFunction
