use Rattle.std.proofs.Common.{ap, sym, subst}
use Rattle.tall_semantics.specs.Operations.{Made}
use Rattle.tall_graph.specs.Vertices.{made_of}
use Rattle.tall_block.specs.NodeForms.{IsFormOf}
use Rattle.tall_block.proofs.forms.operation_form.Goals as goal

pub returns-in-Unary : goal.returns-in-Unary
returns-in-Unary c = subst (λ (m : Made). IsFormOf m c.args.args.now c.unary_form.result) (sym (ap made_of c.in-Unary.is)) c.unary_form.ensures

pub returns-in-Binary : goal.returns-in-Binary
returns-in-Binary c = subst (λ (m : Made). IsFormOf m c.args.args.now c.binary_form.result) (sym (ap made_of c.in-Binary.is)) c.binary_form.ensures

pub returns-in-Filter : goal.returns-in-Filter
returns-in-Filter c = subst (λ (m : Made). IsFormOf m c.args.args.now c.filter_form.result) (sym (ap made_of c.in-Filter.is)) c.filter_form.ensures

pub returns-in-Scan : goal.returns-in-Scan
returns-in-Scan c = subst (λ (m : Made). IsFormOf m c.args.args.now c.scan_form.result) (sym (ap made_of c.in-Scan.is)) c.scan_form.ensures
