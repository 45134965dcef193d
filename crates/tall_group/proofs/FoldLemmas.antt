-- Folds of some rows and then others.
use Rattle.std.specs.Prelude.{◌≡◌, ◌<◌, ◌^◌, Option, Result, Ok, Err, IfErr, IfOk, List, [], ◌∷◌, ◌++◌, length, option_map}
use Rattle.std.proofs.Common.{ap, sym, subst, ◌∙◌}
use Rattle.std.specs.List.{All}
use Rattle.std.specs.Int.{int_max, int_min}
use Rattle.std.proofs.lemmas.List.Elements.{All-nil, All-cons, All-append}
use Rattle.tall_value.specs.declared.class.Class.{Class}
use Rattle.tall_value.specs.declared.class.Kind.{Kind}
use Rattle.tall_value.specs.Cells.{Seen}
use Rattle.tall_value.specs.Classes.{kind_of}
use Rattle.tall_value.specs.Columns.{HasKind}
use Rattle.tall_value.specs.FunctionClasses.{summary_classes}
use Rattle.tall_value.specs.GroupSummary.{summary_columns}
use Rattle.tall_dense.specs.Columns.{SeenColumn, class_of_cell}
use Rattle.tall_group.specs.Groups.{IsGroupsOf}
use Rattle.tall_group.specs.GroupFolds.{AreGroupsOf, AreSame, form_of, served}
use Rattle.tall_group.specs.Folds.{IsGroupFoldOf}
use Rattle.tall_group.specs.States.{IsBestOf, IsNativeOf, IsTallyOf, IsTotalOf, high_of, is_missing, is_number_but_zero, low_of, never}
use Rattle.tall_group.specs.Summaries.{cells_of, classes_by, columns_by, or_inexact}
use Rattle.tall_group.specs.declared.fold.GroupFold.{GroupFold}
use Rattle.tall_group.specs.declared.group_columns.GroupColumns.{GroupColumns}
use Rattle.tall_group.specs.declared.group_states.GroupStates.{GroupStates}
use Rattle.tall_group.specs.declared.group_states.GroupStates.TheVariants.{Rows, Totals, Natives, Least, Greatest, Nonzero, Missing}
use Rattle.tall_group.proofs.GivenLemmas.{classes_are, summary_is}
use Rattle.tall_group.proofs.UniqueLemmas.{kind_is}

pub on_ok : {A B P Q : Type 0} (r : Result A B) → (P → Q) → IfOk r (λ _. P) → IfOk r (λ _. Q)
on_ok (Ok x) f h = f h
on_ok (Err e) f h = h

pub on_both : {A B P Q R : Type 0} (r : Result A B) → (P → Q → R) → IfOk r (λ _. P) → IfOk r (λ _. Q) → IfOk r (λ _. R)
on_both (Ok x) f h i = f h i
on_both (Err e) f h i = i

pub on_err : {A B P Q : Type 0} (r : Result A B) → (P → Q) → IfErr r (λ _. P) → IfErr r (λ _. Q)
on_err (Ok x) f h = h
on_err (Err e) f h = f h

pub one_kind : (c : Seen) (class : Class) → class_of_cell c ≡ class → All (HasKind (kind_of class)) (c ∷ [])
one_kind c class h = All-cons (HasKind (kind_of class)) c [] (kind_is c class h) (All-nil (HasKind (kind_of class)))

pub more_rows : (fold : GroupFold) (keys : SeenColumn) (states : GroupStates) (ks vs js ws : List Seen) → keys.class ≡ fold.keys.class → served states ≡ served fold.states
    → All (HasKind (kind_of fold.keys.class)) js → All (HasKind (kind_of fold.value)) ws → IsGroupFoldOf fold ks vs → AreGroupsOf (kind_of fold.value) keys.cells states (ks ++ js) (vs ++ ws)
    → IsGroupFoldOf (record { keys = keys; states = states; method = fold.method; value = fold.value }) (ks ++ js) (vs ++ ws)
more_rows fold keys states ks vs js ws h e a b u g =
    record {
      takes = u.takes;
      groups = g;
      served_by = e ∙ u.served_by;
      key_kinds = subst (λ k. All (HasKind (kind_of k)) (ks ++ js)) (sym h) (All-append (HasKind (kind_of fold.keys.class)) ks js u.key_kinds a);
      data_kinds = All-append (HasKind (kind_of fold.value)) vs ws u.data_kinds b;
    }

-- ---- at the end

rows_even : (a : Kind) (table : List Seen) (states : GroupStates) (ks vs : List Seen) → AreGroupsOf a table states ks vs → (length ks ≡ length vs) × (length ks < 2 ^ 40)
rows_even a table (Rows v) ks vs g = (g.even, g.few)
rows_even a table (Totals v) ks vs g = (g.even, g.few)
rows_even a table (Natives v) ks vs g = (g.even, g.few)
rows_even a table (Least v) ks vs g = (g.even, g.few)
rows_even a table (Greatest v) ks vs g = (g.even, g.few)
rows_even a table (Nonzero v) ks vs g = (g.even, g.few)
rows_even a table (Missing v) ks vs g = (g.even, g.few)

pub fold_classes : (fold : GroupFold) (ks vs : List Seen) (kind : Kind) (classes : List Class) → IsGroupFoldOf fold ks vs → kind ≡ kind_of fold.value → classes ≡ classes_by (served fold.states) fold.keys.class kind → summary_classes fold.method fold.keys.class fold.value ≡ Ok classes
fold_classes fold ks vs kind classes u k e =
    let a = kind_of fold.value in
    classes_are fold.method fold.keys.class fold.value u.takes
    ∙ ap (λ (cs : List Class). Ok cs) (sym (e ∙ (ap (λ m. classes_by m fold.keys.class kind) u.served_by ∙ ap (classes_by (form_of fold.method a) fold.keys.class) k)))

pub fold_cells : (fold : GroupFold) (ks vs : List Seen) (kind : Kind) (o : Option GroupColumns) → IsGroupFoldOf fold ks vs → kind ≡ kind_of fold.value
    → (AreGroupsOf kind fold.keys.cells fold.states ks vs → All (HasKind (kind_of fold.keys.class)) ks → option_map cells_of o ≡ columns_by (served fold.states) kind ks vs)
    → summary_columns fold.method (kind_of fold.value) ks vs ≡ or_inexact (option_map cells_of o)
fold_cells fold ks vs kind o u k h =
    let a = kind_of fold.value in
    let rows = rows_even a fold.keys.cells fold.states ks vs u.groups in
    let e = h (subst (λ j. AreGroupsOf j fold.keys.cells fold.states ks vs) (sym k) u.groups) u.key_kinds in
    summary_is fold.method a u.takes ks vs rows.0 rows.1 u.data_kinds
    ∙ ap or_inexact (sym (e ∙ (ap (λ m. columns_by m kind ks vs) u.served_by ∙ ap (λ j. columns_by (form_of fold.method a) j ks vs) k)))

-- ---- as it was

same_groups : (a : Kind) (old new : List Seen) (s t : GroupStates) (ks vs : List Seen) → new ≡ old → AreSame t s → AreGroupsOf a old s ks vs → AreGroupsOf a new t ks vs
same_groups a old new (Rows v) (Rows w) ks vs e h g = subst (λ js. AreGroupsOf a js (Rows w) ks vs) (sym e) (subst (λ xs. IsGroupsOf (IsTallyOf never) old xs ks vs) (sym h) g)
same_groups a old new (Totals v) (Totals w) ks vs e h g = subst (λ js. AreGroupsOf a js (Totals w) ks vs) (sym e) (subst (λ xs. IsGroupsOf IsTotalOf old xs ks vs) (sym h) g)
same_groups a old new (Natives v) (Natives w) ks vs e h g = subst (λ js. AreGroupsOf a js (Natives w) ks vs) (sym e) (subst (λ xs. IsGroupsOf (IsNativeOf (low_of a) (high_of a)) old xs ks vs) (sym h) g)
same_groups a old new (Least v) (Least w) ks vs e h g = subst (λ js. AreGroupsOf a js (Least w) ks vs) (sym e) (subst (λ xs. IsGroupsOf (IsBestOf int_min (low_of a) (high_of a)) old xs ks vs) (sym h) g)
same_groups a old new (Greatest v) (Greatest w) ks vs e h g = subst (λ js. AreGroupsOf a js (Greatest w) ks vs) (sym e) (subst (λ xs. IsGroupsOf (IsBestOf int_max (low_of a) (high_of a)) old xs ks vs) (sym h) g)
same_groups a old new (Nonzero v) (Nonzero w) ks vs e h g = subst (λ js. AreGroupsOf a js (Nonzero w) ks vs) (sym e) (subst (λ xs. IsGroupsOf (IsTallyOf is_number_but_zero) old xs ks vs) (sym h) g)
same_groups a old new (Missing v) (Missing w) ks vs e h g = subst (λ js. AreGroupsOf a js (Missing w) ks vs) (sym e) (subst (λ xs. IsGroupsOf (IsTallyOf is_missing) old xs ks vs) (sym h) g)
same_groups a old new s t ks vs e h g = absurd h

pub as_it_was : (fold : GroupFold) (keys : SeenColumn) (states : GroupStates) (ks vs : List Seen) → keys.class ≡ fold.keys.class → served states ≡ served fold.states → keys.cells ≡ fold.keys.cells → AreSame states fold.states → IsGroupFoldOf fold ks vs
    → IsGroupFoldOf (record { keys = keys; states = states; method = fold.method; value = fold.value }) ks vs
as_it_was fold keys states ks vs h e c same u =
    record {
      takes = u.takes;
      groups = same_groups (kind_of fold.value) fold.keys.cells keys.cells fold.states states ks vs c same u.groups;
      served_by = e ∙ u.served_by;
      key_kinds = subst (λ k. All (HasKind (kind_of k)) ks) (sym h) u.key_kinds;
      data_kinds = u.data_kinds;
    }
