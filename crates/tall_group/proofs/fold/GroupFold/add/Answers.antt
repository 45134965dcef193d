use Rattle.std.proofs.Common.{◌≡◌, ap, sym, subst, [], ◌∷◌, ◌++◌}
use Rattle.tall_value.specs.Cells.{seen, seen_kind}
use Rattle.tall_group.specs.GroupFolds.{AreGroupsOf}
use Rattle.tall_group.proofs.FoldLemmas.{as_it_was, more_rows, on_err, on_ok, one_kind}
use Rattle.tall_group.proofs.UniqueLemmas.{kind_is}
use Rattle.tall_group.proofs.fold.GroupFold.add.Goals as goal

pub add-requires-clause-groups : goal.add-requires-clause-groups
add-requires-clause-groups c =
    let r = c.requires.rows in
    let k = kind_is (seen c.args.value.now) c.args.self.now.value c.requires.data in
    (r.0, r.1, subst (λ a. AreGroupsOf a c.args.self.now.keys.cells c.args.self.now.states r.0 r.1) (sym k) r.2.groups, r.3)

pub returns-clause-rows : goal.returns-clause-rows
returns-clause-rows c ks vs u few =
    let s = c.args.self.now in
    let k = kind_is (seen c.args.value.now) s.value c.requires.data in
    on_ok c.add.result
    (λ g. more_rows s c.add.new.keys c.add.new.self ks vs (seen c.args.key.now ∷ []) (seen c.args.value.now ∷ []) c.add.ensures.class c.add.ensures.alike (one_kind (seen c.args.key.now) s.keys.class c.requires.key) (one_kind (seen c.args.value.now) s.value c.requires.data) u
    (subst (λ a. AreGroupsOf a c.add.new.keys.cells c.add.new.self (ks ++ seen c.args.key.now ∷ []) (vs ++ seen c.args.value.now ∷ [])) k g))
    (c.add.ensures.groups ks vs (subst (λ a. AreGroupsOf a s.keys.cells s.states ks vs) (sym k) u.groups) few)

pub returns-clause-refused : goal.returns-clause-refused
returns-clause-refused c ks vs u =
    let s = c.args.self.now in
    on_err c.add.result (λ h. as_it_was s c.add.new.keys c.add.new.self ks vs c.add.ensures.class c.add.ensures.alike h.0 h.1 u) c.add.ensures.refused
