use Rattle.std.proofs.Common.{◌≡◌, subst}
use Rattle.tall_value.specs.Cells.{seen, seen_kind}
use Rattle.tall_value.specs.Classes.{kind_of}
use Rattle.tall_group.specs.GroupFolds.{AreGroupsOf}
use Rattle.tall_group.proofs.group_states.GroupStates.add.Goals as goal

pub returns-in-Rows-clause-groups : goal.returns-in-Rows-clause-groups
returns-in-Rows-clause-groups c ks vs h few = c.add_row.ensures.groups ks vs (subst (λ s. AreGroupsOf (seen_kind (seen c.args.value.now)) c.args.keys.now.cells s ks vs) c.in-Rows.is h) few

pub returns-in-Totals-clause-groups : goal.returns-in-Totals-clause-groups
returns-in-Totals-clause-groups c ks vs h few = c.add_row-in-Totals.ensures.groups ks vs (subst (λ s. AreGroupsOf (seen_kind (seen c.args.value.now)) c.args.keys.now.cells s ks vs) c.in-Totals.is h) few

pub returns-in-Least-clause-groups : goal.returns-in-Least-clause-groups
returns-in-Least-clause-groups c ks vs h few = c.add_row-in-Least.ensures.groups ks vs (subst (λ s. AreGroupsOf (seen_kind (seen c.args.value.now)) c.args.keys.now.cells s ks vs) c.in-Least.is h) few

pub returns-in-Greatest-clause-groups : goal.returns-in-Greatest-clause-groups
returns-in-Greatest-clause-groups c ks vs h few = c.add_row-in-Greatest.ensures.groups ks vs (subst (λ s. AreGroupsOf (seen_kind (seen c.args.value.now)) c.args.keys.now.cells s ks vs) c.in-Greatest.is h) few

pub returns-in-Nonzero-clause-groups : goal.returns-in-Nonzero-clause-groups
returns-in-Nonzero-clause-groups c ks vs h few = c.add_row-in-Nonzero.ensures.groups ks vs (subst (λ s. AreGroupsOf (seen_kind (seen c.args.value.now)) c.args.keys.now.cells s ks vs) c.in-Nonzero.is h) few

pub returns-in-Missing-clause-groups : goal.returns-in-Missing-clause-groups
returns-in-Missing-clause-groups c ks vs h few = c.add_row-in-Missing.ensures.groups ks vs (subst (λ s. AreGroupsOf (seen_kind (seen c.args.value.now)) c.args.keys.now.cells s ks vs) c.in-Missing.is h) few
