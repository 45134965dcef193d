use Rattle.std.specs.Prelude.{map}
use Rattle.std.proofs.Common.{sym, ap, ◌∙◌}
use Rattle.tall_grammar.specs.Trees as trees
use Rattle.tall_grammar.specs.Views.{arg_of, args_of, body_of, entry_of, tree_of}
use Rattle.tall_script.specs.Statements as spec
use Rattle.tall_script.specs.Statements.{body}
use Rattle.tall_evaluate.specs.Orders.{last_number, own_number}
use Rattle.tall_environment.specs.Expressions.{setting_in}
use Rattle.tall_statements.proofs.RunLaws.{told_as}
use Rattle.tall_statements.proofs.running.statement.Goals as goal

pub returns-in-Assign-clause-tells : goal.returns-in-Assign-clause-tells
returns-in-Assign-clause-tells g c =
    let entry = c.args.statement.now in
    told_as g.S.Shelf (own_number (tree_of c.in-Assign.value)) (λ files f s. body (setting_in files c.args.functions.now) entry.line entry.shown (trees.assigned c.as_str.result.now (tree_of c.in-Assign.value)) s) (λ files s. spec.statement (setting_in files c.args.functions.now) (entry_of entry) s)
    c.args.environment.now c.assigned.new.environment c.args.shelf.now c.assigned.new.shelf c.assigned.result
    (λ files f s. ap (λ b. body (setting_in files c.args.functions.now) entry.line entry.shown b s) (ap (λ n. trees.assigned n (tree_of c.in-Assign.value)) c.as_str.ensures ∙ ap body_of (sym c.in-Assign.is)))
    c.assigned.ensures.runs

pub returns-in-Gather-clause-tells : goal.returns-in-Gather-clause-tells
returns-in-Gather-clause-tells g c =
    let entry = c.args.statement.now in
    told_as g.S.Shelf (last_number c.args.after (args_of (map arg_of c.as_slice-args.result.now))) (λ files f s. body (setting_in files c.args.functions.now) entry.line entry.shown (trees.gathered c.as_slice-names.result.now (args_of (map arg_of c.as_slice-args.result.now))) s) (λ files s. spec.statement (setting_in files c.args.functions.now) (entry_of entry) s)
    c.args.environment.now c.gathered.new.environment c.args.shelf.now c.gathered.new.shelf c.gathered.result
    (λ files f s. ap (λ b. body (setting_in files c.args.functions.now) entry.line entry.shown b s) (ap (λ n. trees.gathered n (args_of (map arg_of c.as_slice-args.result.now))) c.as_slice-names.ensures ∙ (ap (λ a. trees.gathered c.in-Gather.names (args_of (map arg_of a))) c.as_slice-args.ensures ∙ ap body_of (sym c.in-Gather.is))))
    c.gathered.ensures

pub returns-in-Property-clause-tells : goal.returns-in-Property-clause-tells
returns-in-Property-clause-tells g c =
    let entry = c.args.statement.now in
    told_as g.S.Shelf (own_number (tree_of c.in-Property.value)) (λ files f s. body (setting_in files c.args.functions.now) entry.line entry.shown (trees.property c.as_str-name.result.now c.as_str-changed.result.now (tree_of c.in-Property.value)) s) (λ files s. spec.statement (setting_in files c.args.functions.now) (entry_of entry) s)
    c.args.environment.now c.property.new.environment c.args.shelf.now c.property.new.shelf c.property.result
    (λ files f s. ap (λ b. body (setting_in files c.args.functions.now) entry.line entry.shown b s) (ap (λ n. trees.property n c.as_str-changed.result.now (tree_of c.in-Property.value)) c.as_str-name.ensures ∙ (ap (λ n. trees.property c.in-Property.name n (tree_of c.in-Property.value)) c.as_str-changed.ensures ∙ ap body_of (sym c.in-Property.is))))
    c.property.ensures.runs

pub returns-in-Bare-clause-tells : goal.returns-in-Bare-clause-tells
returns-in-Bare-clause-tells g c =
    let entry = c.args.statement.now in
    told_as g.S.Shelf (own_number (tree_of c.in-Bare.e)) (λ files f s. body (setting_in files c.args.functions.now) entry.line entry.shown (trees.bare (tree_of c.in-Bare.e)) s) (λ files s. spec.statement (setting_in files c.args.functions.now) (entry_of entry) s)
    c.args.environment.now c.bare.new.environment c.args.shelf.now c.bare.new.shelf c.bare.result
    (λ files f s. ap (λ b. body (setting_in files c.args.functions.now) entry.line entry.shown b s) (ap body_of (sym c.in-Bare.is)))
    c.bare.ensures.runs
