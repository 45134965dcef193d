use Rattle.std.proofs.Common.{◌≡◌, subst}
use Rattle.tall_value.specs.Classes.{kind_of}
use Rattle.tall_group.specs.GroupFolds.{AreGroupsOf}
use Rattle.tall_group.proofs.group_states.GroupStates.add_columns.Goals as goal

pub add_rows-requires-clause-groups : goal.add_rows-requires-clause-groups
add_rows-requires-clause-groups c =
    let r = c.requires.groups in
    (r.0, r.1, subst (λ s. AreGroupsOf (kind_of c.args.values.now.class) c.args.keys.now.cells s r.0 r.1) c.in-Rows.is r.2, r.3)

pub returns-in-Rows-clause-groups : goal.returns-in-Rows-clause-groups
returns-in-Rows-clause-groups c ks vs h few = c.add_rows.ensures.groups ks vs (subst (λ s. AreGroupsOf (kind_of c.args.values.now.class) c.args.keys.now.cells s ks vs) c.in-Rows.is h) few

pub add_rows-requires-in-Totals-clause-groups : goal.add_rows-requires-in-Totals-clause-groups
add_rows-requires-in-Totals-clause-groups c =
    let r = c.requires.groups in
    (r.0, r.1, subst (λ s. AreGroupsOf (kind_of c.args.values.now.class) c.args.keys.now.cells s r.0 r.1) c.in-Totals.is r.2, r.3)

pub returns-in-Totals-clause-groups : goal.returns-in-Totals-clause-groups
returns-in-Totals-clause-groups c ks vs h few = c.add_rows-in-Totals.ensures.groups ks vs (subst (λ s. AreGroupsOf (kind_of c.args.values.now.class) c.args.keys.now.cells s ks vs) c.in-Totals.is h) few

pub add_rows-requires-in-Natives-clause-groups : goal.add_rows-requires-in-Natives-clause-groups
add_rows-requires-in-Natives-clause-groups c =
    let r = c.requires.groups in
    (r.0, r.1, subst (λ s. AreGroupsOf (kind_of c.args.values.now.class) c.args.keys.now.cells s r.0 r.1) c.in-Natives.is r.2, r.3)

pub returns-in-Natives-clause-groups : goal.returns-in-Natives-clause-groups
returns-in-Natives-clause-groups c ks vs h few = c.add_rows-in-Natives.ensures.groups ks vs (subst (λ s. AreGroupsOf (kind_of c.args.values.now.class) c.args.keys.now.cells s ks vs) c.in-Natives.is h) few

pub add_rows-requires-in-Least-clause-groups : goal.add_rows-requires-in-Least-clause-groups
add_rows-requires-in-Least-clause-groups c =
    let r = c.requires.groups in
    (r.0, r.1, subst (λ s. AreGroupsOf (kind_of c.args.values.now.class) c.args.keys.now.cells s r.0 r.1) c.in-Least.is r.2, r.3)

pub returns-in-Least-clause-groups : goal.returns-in-Least-clause-groups
returns-in-Least-clause-groups c ks vs h few = c.add_rows-in-Least.ensures.groups ks vs (subst (λ s. AreGroupsOf (kind_of c.args.values.now.class) c.args.keys.now.cells s ks vs) c.in-Least.is h) few

pub add_rows-requires-in-Greatest-clause-groups : goal.add_rows-requires-in-Greatest-clause-groups
add_rows-requires-in-Greatest-clause-groups c =
    let r = c.requires.groups in
    (r.0, r.1, subst (λ s. AreGroupsOf (kind_of c.args.values.now.class) c.args.keys.now.cells s r.0 r.1) c.in-Greatest.is r.2, r.3)

pub returns-in-Greatest-clause-groups : goal.returns-in-Greatest-clause-groups
returns-in-Greatest-clause-groups c ks vs h few = c.add_rows-in-Greatest.ensures.groups ks vs (subst (λ s. AreGroupsOf (kind_of c.args.values.now.class) c.args.keys.now.cells s ks vs) c.in-Greatest.is h) few

pub add_rows-requires-in-Nonzero-clause-groups : goal.add_rows-requires-in-Nonzero-clause-groups
add_rows-requires-in-Nonzero-clause-groups c =
    let r = c.requires.groups in
    (r.0, r.1, subst (λ s. AreGroupsOf (kind_of c.args.values.now.class) c.args.keys.now.cells s r.0 r.1) c.in-Nonzero.is r.2, r.3)

pub returns-in-Nonzero-clause-groups : goal.returns-in-Nonzero-clause-groups
returns-in-Nonzero-clause-groups c ks vs h few = c.add_rows-in-Nonzero.ensures.groups ks vs (subst (λ s. AreGroupsOf (kind_of c.args.values.now.class) c.args.keys.now.cells s ks vs) c.in-Nonzero.is h) few

pub add_rows-requires-in-Missing-clause-groups : goal.add_rows-requires-in-Missing-clause-groups
add_rows-requires-in-Missing-clause-groups c =
    let r = c.requires.groups in
    (r.0, r.1, subst (λ s. AreGroupsOf (kind_of c.args.values.now.class) c.args.keys.now.cells s r.0 r.1) c.in-Missing.is r.2, r.3)

pub returns-in-Missing-clause-groups : goal.returns-in-Missing-clause-groups
returns-in-Missing-clause-groups c ks vs h few = c.add_rows-in-Missing.ensures.groups ks vs (subst (λ s. AreGroupsOf (kind_of c.args.values.now.class) c.args.keys.now.cells s ks vs) c.in-Missing.is h) few
