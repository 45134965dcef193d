-- Groups with a state of their method.
use Rattle.std.specs.Prelude.{◌≡◌, ◌<◌, ◌^◌, ◌+◌, ◌++◌, ℕ, ℤ, List, length}
use Rattle.std.specs.Int.{int_max, int_min}
use Rattle.tall_value.specs.declared.class.Kind.{Kind}
use Rattle.tall_value.specs.declared.class.Kind.TheVariants.{Integer, Logical, Double, Text}
use Rattle.tall_value.specs.declared.functions.Method.{Method}
use Rattle.tall_value.specs.declared.functions.Method.TheVariants as method
use Rattle.tall_value.specs.Cells.{Seen}
use Rattle.tall_group.specs.Groups.{IsGroupsOf}
use Rattle.tall_group.specs.States.{IsTotalOf, IsNativeOf, IsBestOf, IsTallyOf, never, is_missing, is_number_but_zero, low_of, high_of}
use Rattle.tall_group.specs.declared.group_states.GroupStates.{GroupStates}
use Rattle.tall_group.specs.declared.group_states.GroupStates.TheVariants.{Rows, Totals, Natives, Least, Greatest, Nonzero, Missing}

-- the keys and states are those of some rows, whose data are of a kind
abbrev pub AreGroupsOf : Kind → List Seen → GroupStates → List Seen → List Seen → Type 0
AreGroupsOf a ks (Rows v) keys data' = IsGroupsOf (IsTallyOf never) ks v.items keys data'
AreGroupsOf a ks (Totals v) keys data' = IsGroupsOf IsTotalOf ks v.items keys data'
AreGroupsOf a ks (Natives v) keys data' = IsGroupsOf (IsNativeOf (low_of a) (high_of a)) ks v.items keys data'
AreGroupsOf a ks (Least v) keys data' = IsGroupsOf (IsBestOf int_min (low_of a) (high_of a)) ks v.items keys data'
AreGroupsOf a ks (Greatest v) keys data' = IsGroupsOf (IsBestOf int_max (low_of a) (high_of a)) ks v.items keys data'
AreGroupsOf a ks (Nonzero v) keys data' = IsGroupsOf (IsTallyOf is_number_but_zero) ks v.items keys data'
AreGroupsOf a ks (Missing v) keys data' = IsGroupsOf (IsTallyOf is_missing) ks v.items keys data'

-- the method that the states serve
abbrev pub served : GroupStates → Method
served (Rows v) = method.Count
served (Totals v) = method.Sum
served (Natives v) = method.SumNative
served (Least v) = method.Min
served (Greatest v) = method.Max
served (Nonzero v) = method.Nnz
served (Missing v) = method.Nummissing

-- the method that gives the same of data of a kind: the sums of doubles are one
abbrev pub form_of : Method → Kind → Method
form_of method.SumNative (Integer k) = method.SumNative
form_of method.SumNative a = method.Sum
form_of m a = m

-- the same states
abbrev pub AreSame : GroupStates → GroupStates → Type 0
AreSame (Rows v) (Rows w) = v.items ≡ w.items
AreSame (Totals v) (Totals w) = v.items ≡ w.items
AreSame (Natives v) (Natives w) = v.items ≡ w.items
AreSame (Least v) (Least w) = v.items ≡ w.items
AreSame (Greatest v) (Greatest w) = v.items ≡ w.items
AreSame (Nonzero v) (Nonzero w) = v.items ≡ w.items
AreSame (Missing v) (Missing w) = v.items ≡ w.items
AreSame s t = ⊥
