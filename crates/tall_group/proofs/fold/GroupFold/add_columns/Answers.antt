use Rattle.std.proofs.Common.{◌≡◌, ap, sym, subst, ◌++◌}
use Rattle.std.specs.List.{All}
use Rattle.tall_value.specs.Classes.{kind_of}
use Rattle.tall_value.specs.Columns.{HasKind}
use Rattle.tall_group.specs.GroupFolds.{AreGroupsOf}
use Rattle.tall_group.proofs.FoldLemmas.{as_it_was, more_rows, on_both, on_err}
use Rattle.tall_group.proofs.fold.GroupFold.add_columns.Goals as goal

pub add_columns-requires-clause-groups : goal.add_columns-requires-clause-groups
add_columns-requires-clause-groups c =
    let r = c.requires.rows in
    let k = ap kind_of c.requires.data in
    (r.0, r.1, subst (λ a. AreGroupsOf a c.args.self.now.keys.cells c.args.self.now.states r.0 r.1) (sym k) r.2.groups, r.3)

pub returns-clause-rows : goal.returns-clause-rows
returns-clause-rows c ks vs u few =
    let s = c.args.self.now in
    let k = c.requires.data in
    on_both c.add_columns.result
    (λ a g. more_rows s c.add_columns.new.keys c.add_columns.new.self ks vs c.args.keys.now.cells c.args.values.now.cells c.add_columns.ensures.class c.add_columns.ensures.alike
    (subst (λ k. All (HasKind (kind_of k)) c.args.keys.now.cells) c.requires.keys a.0) (subst (λ k. All (HasKind (kind_of k)) c.args.values.now.cells) k a.1) u
    (subst (λ k. AreGroupsOf (kind_of k) c.add_columns.new.keys.cells c.add_columns.new.self (ks ++ c.args.keys.now.cells) (vs ++ c.args.values.now.cells)) k g))
    c.add_columns.ensures.kinds
    (c.add_columns.ensures.groups ks vs (subst (λ k. AreGroupsOf (kind_of k) s.keys.cells s.states ks vs) (sym k) u.groups) few)

pub returns-clause-refused : goal.returns-clause-refused
returns-clause-refused c ks vs u =
    let s = c.args.self.now in
    on_err c.add_columns.result (λ h. as_it_was s c.add_columns.new.keys c.add_columns.new.self ks vs c.add_columns.ensures.class c.add_columns.ensures.alike h.0 h.1 u) c.add_columns.ensures.refused
