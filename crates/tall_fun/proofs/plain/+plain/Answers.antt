use Rattle.std.proofs.Common.{rules, ◌≡◌, map}
use Rattle.std.specs.Prelude.{Some}
use Rattle.tall_grammar.specs.Trees.{tree}
use Rattle.tall_grammar.specs.Trees as trees
use Rattle.tall_grammar.specs.Views.{arg_of, args_of, tree_of}
use Rattle.tall_grammar.specs.declared.expressions.Expr as q
use Rattle.tall_value.specs.Cells.{seen}
use Rattle.tall_fun.specs.Frames.{name_in}
use Rattle.tall_fun.proofs.PlainLemmas.{name_called, some_indexed, some_joined}
use Rattle.tall_fun.proofs.plain.+plain.Goals as goal

pub indexed-returns-in-Some : goal.indexed-returns-in-Some
indexed-returns-in-Some t c = λ f n l m k is.
    some_indexed c.args.values.now.cells c.args.names.now n l m k f (tree_of c.args.e.now) c.args.x.now (seen c.in-Some.k) c.args.given.now c.plain_value.new.given c.cell_at.result
    is c.in-Some.ensures c.cell_at.ensures

pub plain_value-returns-in-Some-plain_value : goal.plain_value-returns-in-Some-plain_value
plain_value-returns-in-Some-plain_value t c =
    let e = c.args.e.now in
    let is : tree_of e ≡ tree e.number e.line (trees.joined c.in-Infix.op (tree_of c.get.result.now) (tree_of c.get-in-Some.result.now)) = search (rules, q.the_lemmas) in
    some_joined c.args.values.now.cells c.args.names.now e.number e.line c.in-Infix.op (tree_of c.get.result.now) (tree_of c.get-in-Some.result.now) (tree_of e)
    c.args.given.now c.plain_value.new.given c.plain_value-in-Some.new.given (seen c.in-Some.left) (seen c.in-Some-plain_value.right) c.joined.result
    is c.in-Some.ensures c.in-Some-plain_value.ensures c.joined.ensures

pub plain_value-returns-in-Some-name_in : goal.plain_value-returns-in-Some-name_in
plain_value-returns-in-Some-name_in t c =
    let e = c.args.e.now in
    let args = args_of (map arg_of c.as_slice.result.now) in
    let is : tree_of e ≡ tree e.number e.line (trees.call (tree_of c.get-in-Call.result.now) args) = search (rules, q.the_lemmas) in
    let called : name_in (tree_of c.get-in-Call.result.now) ≡ Some c.as_str-in-Some-name_in.result.now = search rules in
    name_called c.args.values.now.cells c.args.names.now e.number e.line (tree_of c.get-in-Call.result.now) (tree_of e) c.as_str-in-Some-name_in.result.now args
    c.args.given.now c.plain_call.new.given c.plain_call.result is called (λ m k. c.plain_call.ensures e.number e.line m k)
