use Rattle.std.specs.Prelude.{refl, [], ◌∷◌}
use Rattle.std.proofs.Common.{ap, ◌∙◌, inl}
use Rattle.tall_value.specs.FunctionClasses.{scan_class}
use Rattle.tall_semantics.specs.Operations.{scan}
use Rattle.tall_semantics.specs.ShapesInOrder.{shape_at}
use Rattle.tall_block.proofs.OperandLaws.{made_class, ok_of}
use Rattle.tall_block.proofs.ScanLaws.{scan_taken}
use Rattle.tall_gather.specs.Smalls.{found_in}
use Rattle.tall_gather.proofs.LeadLaws.{few_rows, lead_short, lead_told}
use Rattle.tall_gather.proofs.ScanLaws.{scan_leads, scan_space, scan_tells}
use Rattle.tall_gather.proofs.scans.scan_value.Goals as goal

pub scanned-requires-clause-takes : goal.scanned-requires-clause-takes
scanned-requires-clause-takes c = ok_of (scan_class c.args.s c.args.x.now.column.now.class) (shape_at c.args.graph.now c.args.n).class (ap (scan_class c.args.s) c.requires.fit.class ∙ scan_taken c.args.graph.now c.keeps_its_rules.ensures.made c.args.n c.args.a c.args.s c.requires.node)

pub scanned-requires-clause-few : goal.scanned-requires-clause-few
scanned-requires-clause-few c = few_rows (shape_at c.args.graph.now c.args.a) (found_in c.args.x.now) c.requires.fit (scan_space c.args.graph.now c.keeps_its_rules.ensures.made c.args.n c.args.a c.args.s c.requires.node).column_is

pub column_value-requires-clause-numbered : goal.column_value-requires-clause-numbered
column_value-requires-clause-numbered c = (scan_leads c.args.graph.now c.keeps_its_rules.ensures.made c.args.n c.args.a c.args.s (found_in c.args.x.now) c.requires.rest c.requires.node c.requires.fit).numbered

pub column_value-requires-clause-class : goal.column_value-requires-clause-class
column_value-requires-clause-class c = made_class c.scanned.result (scan_class c.args.s c.args.x.now.column.now.class) (shape_at c.args.graph.now c.args.n).class c.scanned.ensures.class (ap (scan_class c.args.s) c.requires.fit.class ∙ scan_taken c.args.graph.now c.keeps_its_rules.ensures.made c.args.n c.args.a c.args.s c.requires.node)

pub column_value-requires-clause-height : goal.column_value-requires-clause-height
column_value-requires-clause-height c = lead_short c.args.graph.now c.args.n c.args.a (found_in c.args.x.now) c.scanned.result (scan_leads c.args.graph.now c.keeps_its_rules.ensures.made c.args.n c.args.a c.args.s (found_in c.args.x.now) c.requires.rest c.requires.node c.requires.fit) c.scanned.ensures.height

pub column_value-requires-clause-few : goal.column_value-requires-clause-few
column_value-requires-clause-few c = (scan_leads c.args.graph.now c.keeps_its_rules.ensures.made c.args.n c.args.a c.args.s (found_in c.args.x.now) c.requires.rest c.requires.node c.requires.fit).few

pub returns-clause-told : goal.returns-clause-told
returns-clause-told c columns f computed shows =
    lead_told columns c.args.graph.now f computed c.keeps_its_rules.ensures.made c.keeps_its_rules.ensures.ordered c.args.n c.args.a (scan c.args.s) (c.args.a ∷ []) c.requires.node (inl refl) (found_in c.args.x.now) (scan_leads c.args.graph.now c.keeps_its_rules.ensures.made c.args.n c.args.a c.args.s (found_in c.args.x.now) c.requires.rest c.requires.node c.requires.fit) shows c.scanned.result c.column_value.result c.column_value.ensures.told
    (scan_tells columns c.args.graph.now f computed c.keeps_its_rules.ensures.made c.keeps_its_rules.ensures.ordered c.args.n c.args.a c.args.s c.requires.node (found_in c.args.x.now) c.args.x.now.column.now.class c.scanned.result c.requires.fit.class (ok_of (scan_class c.args.s c.args.x.now.column.now.class) (shape_at c.args.graph.now c.args.n).class (ap (scan_class c.args.s) c.requires.fit.class ∙ scan_taken c.args.graph.now c.keeps_its_rules.ensures.made c.args.n c.args.a c.args.s c.requires.node)) shows c.scanned.ensures.rows)
