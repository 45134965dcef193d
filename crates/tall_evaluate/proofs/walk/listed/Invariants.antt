use Rattle.std.proofs.Common.{◌≡◌, ◌++◌, drop, map}
use Rattle.tall_grammar.specs.Views.{tree_of, trees_of}
use Rattle.tall_local.specs.Expressions.{listed_texts}
use Rattle.tall_evaluate.proofs.walk.listed.Given as goal

-- the texts so far, before those of the rest
abbrev pub invariant-loop-item : goal.invariant-loop-item
invariant-loop-item l = l.texts ++ listed_texts (trees_of (map tree_of (drop l.item-index l.items))) ≡ listed_texts (trees_of (map tree_of l.items))
