-- The calls that an expression makes, in their order, where names and forms of expressions say nothing of what was called: the
-- same language, over states that list them.
use Rattle.std.specs.Prelude.{Bool, List, [], ◌∷◌, ◌++◌}
use Rattle.tall_grammar.specs.Trees.{Tree, Args}
use Rattle.tall_local.specs.Arguments.{Argument}
use Rattle.tall_local.specs.Expressions.{Language, Valued, gives, stops, value, arguments}
use Rattle.tall_local.specs.StateLaws.{state_after}

-- the function, its arguments, and the state in which it is called
pub record Call (F V S : Type 0) : Type 0 where
  pub function : F
  pub arguments : List (Argument V)
  pub state : S

abbrev pub with_calls : {W S C : Type 0} → C → Valued W S → Valued W (S × C)
with_calls calls (gives w s) = gives w (s, calls)
with_calls calls (stops stop s) = stops stop (s, calls)

-- the same language: each call is put behind those that were made
abbrev pub listing : {F V S : Type 0} → Language F V S → Language F V (S × List (Call F V S))
listing L = record {
  literal = L.literal;
  has_value = λ s name. L.has_value s.0 name;
  name = λ s name. L.name s.0 name;
  handle = L.handle;
  function_named = L.function_named;
  takes_handles = L.takes_handles;
  function_is_there = L.function_is_there;
  prefix_value = L.prefix_value;
  infix_value = L.infix_value;
  member = L.member;
  index = L.index;
  call = λ n l f args s. with_calls (s.1 ++ record { function = f; arguments = args; state = s.0 } ∷ []) (L.call n l f args s.0);
}

-- ---- of an expression, and of arguments

abbrev pub calls_made : {F V S : Type 0} → Language F V S → Tree → S → List (Call F V S)
calls_made L e s = (state_after (value (listing L) e (s, []))).1

abbrev pub calls_in_arguments : {F V S : Type 0} → Language F V S → Args → Bool → S → List (Call F V S)
calls_in_arguments L args takes s = (state_after (arguments (listing L) args takes (s, []))).1

-- what was given, without the list
abbrev pub unlisted : {W S C : Type 0} → Valued W (S × C) → Valued W S
unlisted (gives w s) = gives w s.0
unlisted (stops stop s) = stops stop s.0
