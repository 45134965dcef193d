use Rattle.std.proofs.Common.{rules, ◌≡◌, sym, subst, true}
use Rattle.std.specs.Prelude.{codes, nat_lt}
use Rattle.std.proofs.lemmas.Slice.Eq.{bytes_eq-Decides}
use Rattle.tall_grammar.specs.Trees.{no_args, tree, value_arg}
use Rattle.tall_grammar.specs.Trees as trees
use Rattle.tall_grammar.specs.Views.{tree_of}
use Rattle.tall_value.specs.Cells.{logical}
use Rattle.tall_fun.specs.Frames.{name_in}
use Rattle.tall_fun.specs.Plain.{ComesTo, iterator_in}
use Rattle.tall_fun.proofs.PlainLemmas.{has_next_comes, some_next}
use Rattle.tall_fun.proofs.plain.of_iterator.Goals as goal

pub returns-then-names_iterator : goal.returns-then-names_iterator
returns-then-names_iterator c = λ n l m k.
    let iter : iterator_in c.args.names.now (name_in (tree_of c.args.argument.now)) ≡ true = search rules in
    some_next c.args.values.now.cells c.args.names.now n l m k c.args.function.now (tree_of c.args.argument.now) c.args.given.now c.next.new.given c.next.result
    c.requires iter ((bytes_eq-Decides c.args.function.now (codes "getnext")).0 (sym c.if-eq.ensures)) c.next.ensures

pub returns-then-names_iterator-2 : goal.returns-then-names_iterator-2
returns-then-names_iterator-2 c = λ n l m k.
    let iter : iterator_in c.args.names.now (name_in (tree_of c.args.argument.now)) ≡ true = search rules in
    subst (λ j. ComesTo c.args.values.now.cells (tree n l (trees.call (tree m k (trees.name c.args.function.now)) (value_arg (tree_of c.args.argument.now) no_args))) c.args.names.now c.args.given.now (logical (nat_lt c.args.given.now j)) c.args.given.now)
    (sym c.len.ensures)
    (has_next_comes c.args.values.now.cells c.args.names.now n l m k c.args.function.now (tree_of c.args.argument.now) c.args.given.now c.requires iter ((bytes_eq-Decides c.args.function.now (codes "hasnext")).0 (sym c.if-eq-2.ensures)))
