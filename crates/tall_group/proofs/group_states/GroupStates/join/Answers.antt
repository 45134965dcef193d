use Rattle.std.proofs.Common.{◌≡◌, sym, subst}
use Rattle.std.specs.Int.{int_max, int_min}
use Rattle.tall_group.specs.GroupFolds.{AreGroupsOf}
use Rattle.tall_group.specs.Groups.{IsGroupsOf}
use Rattle.tall_group.specs.States.{IsTotalOf, IsBestOf, IsTallyOf, never, is_missing, is_number_but_zero, low_of, high_of}
use Rattle.tall_group.proofs.NativeLemmas.{range_of}
use Rattle.tall_group.proofs.group_states.GroupStates.join.Goals as goal

pub join_groups-requires-clause-groups : goal.join_groups-requires-clause-groups
join_groups-requires-clause-groups c =
    let r = c.requires.groups in
    let first = subst (λ s. AreGroupsOf r.0 c.args.keys.now.cells s r.1 r.2) c.in-Rows.is r.5 in
    let second = subst (λ s. AreGroupsOf r.0 c.args.later_keys.now.cells s r.3 r.4) c.in-Rows-later.is r.6 in
    (low_of r.0, high_of r.0, range_of r.0, r.1, r.2, r.3, r.4, first, subst (λ xs. IsGroupsOf (IsTallyOf never) c.args.later_keys.now.cells xs r.3 r.4) (sym c.as_slice.ensures.value) second, r.7)

pub returns-in-Rows-later-clause-groups : goal.returns-in-Rows-later-clause-groups
returns-in-Rows-later-clause-groups c a ks vs js ws h i few =
    let first = subst (λ s. AreGroupsOf a c.args.keys.now.cells s ks vs) c.in-Rows.is h in
    let second = subst (λ s. AreGroupsOf a c.args.later_keys.now.cells s js ws) c.in-Rows-later.is i in
    c.join_groups.ensures.groups (low_of a) (high_of a) ks vs js ws (range_of a) first (subst (λ xs. IsGroupsOf (IsTallyOf never) c.args.later_keys.now.cells xs js ws) (sym c.as_slice.ensures.value) second) few

pub join_groups-requires-in-Totals-clause-groups : goal.join_groups-requires-in-Totals-clause-groups
join_groups-requires-in-Totals-clause-groups c =
    let r = c.requires.groups in
    let first = subst (λ s. AreGroupsOf r.0 c.args.keys.now.cells s r.1 r.2) c.in-Totals.is r.5 in
    let second = subst (λ s. AreGroupsOf r.0 c.args.later_keys.now.cells s r.3 r.4) c.in-Totals-later.is r.6 in
    (low_of r.0, high_of r.0, range_of r.0, r.1, r.2, r.3, r.4, first, subst (λ xs. IsGroupsOf IsTotalOf c.args.later_keys.now.cells xs r.3 r.4) (sym c.as_slice-in-Totals.ensures.value) second, r.7)

pub returns-in-Totals-later-clause-groups : goal.returns-in-Totals-later-clause-groups
returns-in-Totals-later-clause-groups c a ks vs js ws h i few =
    let first = subst (λ s. AreGroupsOf a c.args.keys.now.cells s ks vs) c.in-Totals.is h in
    let second = subst (λ s. AreGroupsOf a c.args.later_keys.now.cells s js ws) c.in-Totals-later.is i in
    c.join_groups-in-Totals.ensures.groups (low_of a) (high_of a) ks vs js ws (range_of a) first (subst (λ xs. IsGroupsOf IsTotalOf c.args.later_keys.now.cells xs js ws) (sym c.as_slice-in-Totals.ensures.value) second) few

pub join_groups-requires-in-Least-clause-groups : goal.join_groups-requires-in-Least-clause-groups
join_groups-requires-in-Least-clause-groups c =
    let r = c.requires.groups in
    let first = subst (λ s. AreGroupsOf r.0 c.args.keys.now.cells s r.1 r.2) c.in-Least.is r.5 in
    let second = subst (λ s. AreGroupsOf r.0 c.args.later_keys.now.cells s r.3 r.4) c.in-Least-later.is r.6 in
    (low_of r.0, high_of r.0, range_of r.0, r.1, r.2, r.3, r.4, first, subst (λ xs. IsGroupsOf (IsBestOf int_min (low_of r.0) (high_of r.0)) c.args.later_keys.now.cells xs r.3 r.4) (sym c.as_slice-in-Least.ensures.value) second, r.7)

pub returns-in-Least-later-clause-groups : goal.returns-in-Least-later-clause-groups
returns-in-Least-later-clause-groups c a ks vs js ws h i few =
    let first = subst (λ s. AreGroupsOf a c.args.keys.now.cells s ks vs) c.in-Least.is h in
    let second = subst (λ s. AreGroupsOf a c.args.later_keys.now.cells s js ws) c.in-Least-later.is i in
    c.join_groups-in-Least.ensures.groups (low_of a) (high_of a) ks vs js ws (range_of a) first (subst (λ xs. IsGroupsOf (IsBestOf int_min (low_of a) (high_of a)) c.args.later_keys.now.cells xs js ws) (sym c.as_slice-in-Least.ensures.value) second) few

pub join_groups-requires-in-Greatest-clause-groups : goal.join_groups-requires-in-Greatest-clause-groups
join_groups-requires-in-Greatest-clause-groups c =
    let r = c.requires.groups in
    let first = subst (λ s. AreGroupsOf r.0 c.args.keys.now.cells s r.1 r.2) c.in-Greatest.is r.5 in
    let second = subst (λ s. AreGroupsOf r.0 c.args.later_keys.now.cells s r.3 r.4) c.in-Greatest-later.is r.6 in
    (low_of r.0, high_of r.0, range_of r.0, r.1, r.2, r.3, r.4, first, subst (λ xs. IsGroupsOf (IsBestOf int_max (low_of r.0) (high_of r.0)) c.args.later_keys.now.cells xs r.3 r.4) (sym c.as_slice-in-Greatest.ensures.value) second, r.7)

pub returns-in-Greatest-later-clause-groups : goal.returns-in-Greatest-later-clause-groups
returns-in-Greatest-later-clause-groups c a ks vs js ws h i few =
    let first = subst (λ s. AreGroupsOf a c.args.keys.now.cells s ks vs) c.in-Greatest.is h in
    let second = subst (λ s. AreGroupsOf a c.args.later_keys.now.cells s js ws) c.in-Greatest-later.is i in
    c.join_groups-in-Greatest.ensures.groups (low_of a) (high_of a) ks vs js ws (range_of a) first (subst (λ xs. IsGroupsOf (IsBestOf int_max (low_of a) (high_of a)) c.args.later_keys.now.cells xs js ws) (sym c.as_slice-in-Greatest.ensures.value) second) few

pub join_groups-requires-in-Nonzero-clause-groups : goal.join_groups-requires-in-Nonzero-clause-groups
join_groups-requires-in-Nonzero-clause-groups c =
    let r = c.requires.groups in
    let first = subst (λ s. AreGroupsOf r.0 c.args.keys.now.cells s r.1 r.2) c.in-Nonzero.is r.5 in
    let second = subst (λ s. AreGroupsOf r.0 c.args.later_keys.now.cells s r.3 r.4) c.in-Nonzero-later.is r.6 in
    (low_of r.0, high_of r.0, range_of r.0, r.1, r.2, r.3, r.4, first, subst (λ xs. IsGroupsOf (IsTallyOf is_number_but_zero) c.args.later_keys.now.cells xs r.3 r.4) (sym c.as_slice-in-Nonzero.ensures.value) second, r.7)

pub returns-in-Nonzero-later-clause-groups : goal.returns-in-Nonzero-later-clause-groups
returns-in-Nonzero-later-clause-groups c a ks vs js ws h i few =
    let first = subst (λ s. AreGroupsOf a c.args.keys.now.cells s ks vs) c.in-Nonzero.is h in
    let second = subst (λ s. AreGroupsOf a c.args.later_keys.now.cells s js ws) c.in-Nonzero-later.is i in
    c.join_groups-in-Nonzero.ensures.groups (low_of a) (high_of a) ks vs js ws (range_of a) first (subst (λ xs. IsGroupsOf (IsTallyOf is_number_but_zero) c.args.later_keys.now.cells xs js ws) (sym c.as_slice-in-Nonzero.ensures.value) second) few

pub join_groups-requires-in-Missing-clause-groups : goal.join_groups-requires-in-Missing-clause-groups
join_groups-requires-in-Missing-clause-groups c =
    let r = c.requires.groups in
    let first = subst (λ s. AreGroupsOf r.0 c.args.keys.now.cells s r.1 r.2) c.in-Missing.is r.5 in
    let second = subst (λ s. AreGroupsOf r.0 c.args.later_keys.now.cells s r.3 r.4) c.in-Missing-later.is r.6 in
    (low_of r.0, high_of r.0, range_of r.0, r.1, r.2, r.3, r.4, first, subst (λ xs. IsGroupsOf (IsTallyOf is_missing) c.args.later_keys.now.cells xs r.3 r.4) (sym c.as_slice-in-Missing.ensures.value) second, r.7)

pub returns-in-Missing-later-clause-groups : goal.returns-in-Missing-later-clause-groups
returns-in-Missing-later-clause-groups c a ks vs js ws h i few =
    let first = subst (λ s. AreGroupsOf a c.args.keys.now.cells s ks vs) c.in-Missing.is h in
    let second = subst (λ s. AreGroupsOf a c.args.later_keys.now.cells s js ws) c.in-Missing-later.is i in
    c.join_groups-in-Missing.ensures.groups (low_of a) (high_of a) ks vs js ws (range_of a) first (subst (λ xs. IsGroupsOf (IsTallyOf is_missing) c.args.later_keys.now.cells xs js ws) (sym c.as_slice-in-Missing.ensures.value) second) few
