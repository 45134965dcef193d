use Rattle.std.proofs.Common.{◌≡◌, ◌∙◌, ap, sym, subst}
use Rattle.std.specs.List.{All}
use Rattle.tall_value.specs.Classes.{kind_of}
use Rattle.tall_value.specs.Columns.{HasKind}
use Rattle.tall_group.specs.GroupFolds.{AreGroupsOf, form_of}
use Rattle.tall_group.proofs.FoldLemmas.{as_it_was, more_rows, on_err, on_ok}
use Rattle.tall_group.proofs.fold.GroupFold.join.Goals as goal

pub join-requires-clause-alike : goal.join-requires-clause-alike
join-requires-clause-alike c =
    let r = c.requires.rows in
    let a = c.requires.alike in
    r.5.served_by ∙ (ap (λ m. form_of m (kind_of c.args.later.value)) a.method ∙ (ap (λ k. form_of c.args.self.now.method (kind_of k)) a.data_class ∙ sym r.4.served_by))

pub join-requires-clause-groups : goal.join-requires-clause-groups
join-requires-clause-groups c =
    let r = c.requires.rows in
    let k = ap kind_of c.requires.alike.data_class in
    (kind_of c.args.self.now.value, r.0, r.1, r.2, r.3, r.4.groups, subst (λ a. AreGroupsOf a c.args.later.keys.cells c.args.later.states r.2 r.3) k r.5.groups, r.6)

pub returns-clause-rows : goal.returns-clause-rows
returns-clause-rows c ks vs js ws u v few =
    let s = c.args.self.now in
    let k = c.requires.alike.data_class in
    on_ok c.join.result
    (λ g. more_rows s c.join.new.keys c.join.new.self ks vs js ws c.join.ensures.class c.join.ensures.alike (subst (λ k. All (HasKind (kind_of k)) js) c.requires.alike.keys v.key_kinds) (subst (λ k. All (HasKind (kind_of k)) ws) k v.data_kinds) u g)
    (c.join.ensures.groups (kind_of s.value) ks vs js ws u.groups (subst (λ k. AreGroupsOf (kind_of k) c.args.later.keys.cells c.args.later.states js ws) k v.groups) few)

pub returns-clause-refused : goal.returns-clause-refused
returns-clause-refused c ks vs u =
    let s = c.args.self.now in
    on_err c.join.result (λ h. as_it_was s c.join.new.keys c.join.new.self ks vs c.join.ensures.class c.join.ensures.alike h.0 h.1 u) c.join.ensures.refused
