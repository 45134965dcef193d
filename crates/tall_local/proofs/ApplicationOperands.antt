-- The operands of an application are arguments of its call; and which numbers of arguments have an application.
use Rattle.std.proofs.Common.{◌≡◌, ℕ, zero, suc, List, [], ◌∷◌, true, false, refl, ap}
use Rattle.std.specs.Prelude.{pos, length, Option, None, Some, option_map, option_and_then, codes}
use Rattle.tall_value.specs.declared.functions.Method.{Method}
use Rattle.tall_value.specs.declared.functions.Method.TheVariants as method
use Rattle.tall_value.specs.declared.operators.Binary.TheVariants as binary
use Rattle.tall_value.specs.Cells.{whole, double, text}
use Rattle.tall_value.specs.Classes.{least, greatest}
use Rattle.tall_local.specs.declared.functions.SumOption.{SumOption}
use Rattle.tall_local.specs.declared.functions.SumOption.TheVariants.{Native, OmitNan}
use Rattle.tall_local.specs.declared.functions.ValueFunction.{ValueFunction}
use Rattle.tall_local.specs.declared.functions.ValueFunction.TheVariants as function
use Rattle.tall_local.specs.Applications.{reduce, head, tail, groups, Application, constant, to_one, to_two, application, takes, groups_by, sum_with, count_of, text_of, choice_of}
use Rattle.tall_local.specs.Functions.{sum_options, integer_classes, roundings}
use Rattle.tall_local.specs.Lists.{all_of, in_front_of}
use Rattle.tall_local.specs.Memory.{Memory, scalar, scalar_in}
use Rattle.tall_local.specs.MemoryLaws.{CanBeHeld, OperandsCanBeHeld}

abbrev AllCan : List Memory → Type 0
AllCan [] = Unit {0}
AllCan (v ∷ vs) = CanBeHeld v × AllCan vs

abbrev OnSome : Option (Application Memory) → Type 0
OnSome None = Unit {0}
OnSome (Some a) = OperandsCanBeHeld a

mapped : {A : Type 0} (f : A → Application Memory) (r : Option A) → ((a : A) → OperandsCanBeHeld (f a)) → OnSome (option_map f r)
mapped f None k = tt
mapped f (Some a) k = k a

by_method : (v : Memory) (g : Option (List ℕ)) (m : Option Method) (value : Option (List ℕ)) → CanBeHeld v → OnSome (groups_by scalar_in v g m value)
by_method v (Some g) (Some m) (Some value) h = h
by_method v (Some g) (Some m) None h = tt
by_method v (Some g) None value h = tt
by_method v None m value h = tt

pub operands_of : (f : ValueFunction) (vs : List Memory) → AllCan vs → OnSome (application scalar_in f vs)
operands_of function.Sum [] h = tt
operands_of function.Sum (x ∷ vs) h = mapped (λ r. to_one (reduce r) x) (option_and_then sum_with (all_of (λ o. choice_of sum_options (scalar_in o)) vs)) (λ k. h.0)
operands_of (function.Reduction r) [] h = tt
operands_of (function.Reduction r) (x ∷ []) h = h.0
operands_of (function.Reduction r) (x ∷ v ∷ vs) h = tt
operands_of function.Height [] h = tt
operands_of function.Height (x ∷ []) h = h.0
operands_of function.Height (x ∷ v ∷ vs) h = tt
operands_of (function.Scan s) [] h = tt
operands_of (function.Scan s) (x ∷ []) h = h.0
operands_of (function.Scan s) (x ∷ v ∷ vs) h = tt
operands_of function.Head [] h = tt
operands_of function.Head (x ∷ []) h = h.0
operands_of function.Head (x ∷ y ∷ []) h = mapped (λ k. to_one (head k) x) (count_of (scalar_in y)) (λ k. h.0)
operands_of function.Head (x ∷ y ∷ v ∷ vs) h = tt
operands_of function.Tail [] h = tt
operands_of function.Tail (x ∷ []) h = h.0
operands_of function.Tail (x ∷ y ∷ []) h = mapped (λ k. to_one (tail k) x) (count_of (scalar_in y)) (λ k. h.0)
operands_of function.Tail (x ∷ y ∷ v ∷ vs) h = tt
operands_of function.Unique [] h = tt
operands_of function.Unique (x ∷ []) h = h.0
operands_of function.Unique (x ∷ v ∷ vs) h = tt
operands_of function.GroupSummary [] h = tt
operands_of function.GroupSummary (x ∷ []) h = tt
operands_of function.GroupSummary (x ∷ y ∷ []) h = mapped (λ g. to_one (groups g method.Count []) x) (text_of (scalar_in y)) (λ k. h.0)
operands_of function.GroupSummary (x ∷ y ∷ z ∷ []) h = tt
operands_of function.GroupSummary (x ∷ y ∷ z ∷ w ∷ []) h = by_method x _ _ _ h.0
operands_of function.GroupSummary (x ∷ y ∷ z ∷ w ∷ v ∷ vs) h = tt
operands_of function.IntMax [] h = tt
operands_of function.IntMax (x ∷ []) h = mapped (λ k. constant (whole k (greatest k))) (choice_of integer_classes (scalar_in x)) (λ k. tt)
operands_of function.IntMax (x ∷ v ∷ vs) h = tt
operands_of function.IntMin [] h = tt
operands_of function.IntMin (x ∷ []) h = mapped (λ k. constant (whole k (least k))) (choice_of integer_classes (scalar_in x)) (λ k. tt)
operands_of function.IntMin (x ∷ v ∷ vs) h = tt
operands_of function.Idivide [] h = tt
operands_of function.Idivide (x ∷ []) h = tt
operands_of function.Idivide (x ∷ y ∷ []) h = (h.0, h.1.0)
operands_of function.Idivide (x ∷ y ∷ z ∷ []) h =
    (let p : CanBeHeld x × CanBeHeld y = (h.0, h.1.0) in mapped (λ r. to_two (binary.Idivide r) x y) (choice_of roundings (scalar_in z)) (λ k. p))
operands_of function.Idivide (x ∷ y ∷ z ∷ v ∷ vs) h = tt
operands_of (function.Binary b) [] h = tt
operands_of (function.Binary b) (x ∷ []) h = tt
operands_of (function.Binary b) (x ∷ y ∷ []) h = (h.0, h.1.0)
operands_of (function.Binary b) (x ∷ y ∷ v ∷ vs) h = tt
operands_of (function.Unary u) [] h = tt
operands_of (function.Unary u) (x ∷ []) h = h.0
operands_of (function.Unary u) (x ∷ v ∷ vs) h = tt

-- ---- numbers of arguments

abbrev none : Option (Application Memory)
none = None

-- a third option of `sum` is one too many
too_many : (a b c : Option SumOption) (rest : Option (List SumOption)) → option_and_then sum_with (in_front_of a (in_front_of b (in_front_of c rest))) ≡ None
too_many None b c rest = refl
too_many (Some a) None c rest = refl
too_many (Some a) (Some b) None rest = refl
too_many (Some a) (Some b) (Some c) None = refl
too_many (Some Native) (Some Native) (Some c) (Some rest) = refl
too_many (Some Native) (Some OmitNan) (Some c) (Some rest) = refl
too_many (Some OmitNan) (Some Native) (Some c) (Some rest) = refl
too_many (Some OmitNan) (Some OmitNan) (Some c) (Some rest) = refl

abbrev option_in : Memory → Option SumOption
option_in v = choice_of sum_options (scalar_in v)

pub no_application : (f : ValueFunction) (vs : List Memory) → takes f (length vs) ≡ false → application scalar_in f vs ≡ none
no_application function.Sum [] h = refl
no_application function.Sum (x ∷ []) h = absurd cc
no_application function.Sum (x ∷ a ∷ []) h = absurd cc
no_application function.Sum (x ∷ a ∷ b ∷ []) h = absurd cc
no_application function.Sum (x ∷ a ∷ b ∷ c ∷ vs) h =
    ap (option_map (λ r. to_one (reduce r) x)) (too_many (option_in a) (option_in b) (option_in c) (all_of option_in vs))
no_application (function.Reduction r) [] h = refl
no_application (function.Reduction r) (x ∷ []) h = absurd cc
no_application (function.Reduction r) (x ∷ v ∷ vs) h = refl
no_application function.Height [] h = refl
no_application function.Height (x ∷ []) h = absurd cc
no_application function.Height (x ∷ v ∷ vs) h = refl
no_application (function.Scan s) [] h = refl
no_application (function.Scan s) (x ∷ []) h = absurd cc
no_application (function.Scan s) (x ∷ v ∷ vs) h = refl
no_application function.Head [] h = refl
no_application function.Head (x ∷ []) h = absurd cc
no_application function.Head (x ∷ y ∷ []) h = absurd cc
no_application function.Head (x ∷ y ∷ v ∷ vs) h = refl
no_application function.Tail [] h = refl
no_application function.Tail (x ∷ []) h = absurd cc
no_application function.Tail (x ∷ y ∷ []) h = absurd cc
no_application function.Tail (x ∷ y ∷ v ∷ vs) h = refl
no_application function.Unique [] h = refl
no_application function.Unique (x ∷ []) h = absurd cc
no_application function.Unique (x ∷ v ∷ vs) h = refl
no_application function.GroupSummary [] h = refl
no_application function.GroupSummary (x ∷ []) h = refl
no_application function.GroupSummary (x ∷ y ∷ []) h = absurd cc
no_application function.GroupSummary (x ∷ y ∷ z ∷ []) h = refl
no_application function.GroupSummary (x ∷ y ∷ z ∷ w ∷ []) h = absurd cc
no_application function.GroupSummary (x ∷ y ∷ z ∷ w ∷ v ∷ vs) h = refl
no_application function.IntMax [] h = refl
no_application function.IntMax (x ∷ []) h = absurd cc
no_application function.IntMax (x ∷ v ∷ vs) h = refl
no_application function.IntMin [] h = refl
no_application function.IntMin (x ∷ []) h = absurd cc
no_application function.IntMin (x ∷ v ∷ vs) h = refl
no_application function.Idivide [] h = refl
no_application function.Idivide (x ∷ []) h = refl
no_application function.Idivide (x ∷ y ∷ []) h = absurd cc
no_application function.Idivide (x ∷ y ∷ z ∷ []) h = absurd cc
no_application function.Idivide (x ∷ y ∷ z ∷ v ∷ vs) h = refl
no_application (function.Binary b) [] h = refl
no_application (function.Binary b) (x ∷ []) h = refl
no_application (function.Binary b) (x ∷ y ∷ []) h = absurd cc
no_application (function.Binary b) (x ∷ y ∷ v ∷ vs) h = refl
no_application (function.Unary u) [] h = refl
no_application (function.Unary u) (x ∷ []) h = absurd cc
no_application (function.Unary u) (x ∷ v ∷ vs) h = refl

-- arguments of a form
abbrev a_text : List ℕ → Memory
a_text t = scalar (text t)

abbrev any : Memory
any = scalar (double None)

abbrev Applies : ValueFunction → ℕ → Type 0
Applies f n = (vs : List Memory) × (a : Application Memory) × (length vs ≡ n) × (application scalar_in f vs ≡ Some a)

pub some_application : (f : ValueFunction) (n : ℕ) → takes f n ≡ true → Applies f n
some_application function.Sum zero h = absurd cc
some_application function.Sum (suc zero) h = (any ∷ [], _, refl, refl)
some_application function.Sum (suc (suc zero)) h = (any ∷ a_text (codes "native") ∷ [], _, refl, refl)
some_application function.Sum (suc (suc (suc zero))) h = (any ∷ a_text (codes "native") ∷ a_text (codes "omitnan") ∷ [], _, refl, refl)
some_application function.Sum (suc (suc (suc (suc n)))) h = absurd cc
some_application (function.Reduction r) zero h = absurd cc
some_application (function.Reduction r) (suc zero) h = (any ∷ [], _, refl, refl)
some_application (function.Reduction r) (suc (suc n)) h = absurd cc
some_application function.Height zero h = absurd cc
some_application function.Height (suc zero) h = (any ∷ [], _, refl, refl)
some_application function.Height (suc (suc n)) h = absurd cc
some_application (function.Scan s) zero h = absurd cc
some_application (function.Scan s) (suc zero) h = (any ∷ [], _, refl, refl)
some_application (function.Scan s) (suc (suc n)) h = absurd cc
some_application function.Head zero h = absurd cc
some_application function.Head (suc zero) h = (any ∷ [], _, refl, refl)
some_application function.Head (suc (suc zero)) h = (any ∷ scalar (double (Some (pos 1))) ∷ [], _, refl, refl)
some_application function.Head (suc (suc (suc n))) h = absurd cc
some_application function.Tail zero h = absurd cc
some_application function.Tail (suc zero) h = (any ∷ [], _, refl, refl)
some_application function.Tail (suc (suc zero)) h = (any ∷ scalar (double (Some (pos 1))) ∷ [], _, refl, refl)
some_application function.Tail (suc (suc (suc n))) h = absurd cc
some_application function.Unique zero h = absurd cc
some_application function.Unique (suc zero) h = (any ∷ [], _, refl, refl)
some_application function.Unique (suc (suc n)) h = absurd cc
some_application function.GroupSummary zero h = absurd cc
some_application function.GroupSummary (suc zero) h = absurd cc
some_application function.GroupSummary (suc (suc zero)) h = (any ∷ a_text (codes "g") ∷ [], _, refl, refl)
some_application function.GroupSummary (suc (suc (suc zero))) h = absurd cc
some_application function.GroupSummary (suc (suc (suc (suc zero)))) h = (any ∷ a_text (codes "g") ∷ a_text (codes "sum") ∷ a_text (codes "v") ∷ [], _, refl, refl)
some_application function.GroupSummary (suc (suc (suc (suc (suc n))))) h = absurd cc
some_application function.IntMax zero h = absurd cc
some_application function.IntMax (suc zero) h = (a_text (codes "int8") ∷ [], _, refl, refl)
some_application function.IntMax (suc (suc n)) h = absurd cc
some_application function.IntMin zero h = absurd cc
some_application function.IntMin (suc zero) h = (a_text (codes "int8") ∷ [], _, refl, refl)
some_application function.IntMin (suc (suc n)) h = absurd cc
some_application function.Idivide zero h = absurd cc
some_application function.Idivide (suc zero) h = absurd cc
some_application function.Idivide (suc (suc zero)) h = (any ∷ any ∷ [], _, refl, refl)
some_application function.Idivide (suc (suc (suc zero))) h = (any ∷ any ∷ a_text (codes "fix") ∷ [], _, refl, refl)
some_application function.Idivide (suc (suc (suc (suc n)))) h = absurd cc
some_application (function.Binary b) zero h = absurd cc
some_application (function.Binary b) (suc zero) h = absurd cc
some_application (function.Binary b) (suc (suc zero)) h = (any ∷ any ∷ [], _, refl, refl)
some_application (function.Binary b) (suc (suc (suc n))) h = absurd cc
some_application (function.Unary u) zero h = absurd cc
some_application (function.Unary u) (suc zero) h = (any ∷ [], _, refl, refl)
some_application (function.Unary u) (suc (suc n)) h = absurd cc
