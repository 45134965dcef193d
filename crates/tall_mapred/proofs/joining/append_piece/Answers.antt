use Rattle.std.proofs.Common.{◌∙◌, Err, ap}
use Rattle.tall_mapred.specs.declared.calls.CallPiece.TheVariants.{Called}
use Rattle.tall_mapred.proofs.PhaseLaws.{refused_call}
use Rattle.tall_mapred.proofs.joining.append_piece.Goals as goal

pub returns-in-Err-clause-appends : goal.returns-in-Err-clause-appends
returns-in-Err-clause-appends c d want w =
    refused_call d want c.args.piece c.in-Called.own c.args.pairs.now c.in-Err-At.line c.in-Err-At.row c.in-Err-At.kind c.in-Err.misfit c.in-Err.ensures.refused
    (c.in-Called.is ∙ ap (λ end. Called c.in-Called.own end) (c.in-Err-At.is ∙ ap (λ f. Err f) c.in-Err-At.field-0-is)) w
