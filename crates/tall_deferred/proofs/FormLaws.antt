-- Arguments with the same scalars have one form.
use Rattle.std.specs.Prelude.{◌≡◌, refl, ℕ, ◌<◌, zero, suc, List, [], ◌∷◌, length, map, get_or, Option, None, Some, option_map, option_and_then, Result, Err}
use Rattle.std.proofs.Common.{ap, sym, subst, ◌∙◌, arith}
use Rattle.tall_value.specs.declared.class.IntKind.{IntKind}
use Rattle.tall_value.specs.declared.functions.Method.{Method}
use Rattle.tall_value.specs.declared.functions.Method.TheVariants.{Count}
use Rattle.tall_value.specs.declared.operators.Binary.TheVariants.{Idivide}
use Rattle.tall_value.specs.Cells.{Seen, whole}
use Rattle.tall_value.specs.Classes.{greatest, least}
use Rattle.tall_local.specs.Applications.{Application, application, constant, to_one, to_two, Operation, reduce, height, scan, head, tail, distinct, groups, unary, groups_of, groups_by, sum_with, text_of, choice_of, count_of}
use Rattle.tall_local.specs.Functions.{sum_options, integer_classes, roundings, methods}
use Rattle.tall_local.specs.Lists.{all_of, in_front_of}
use Rattle.tall_local.specs.Memory.{Memory, scalar_in}
use Rattle.tall_local.specs.Names.{named}
use Rattle.tall_local.specs.declared.functions.SumOption.{SumOption}
use Rattle.tall_local.specs.declared.functions.SumOption.TheVariants.{Native, OmitNan}
use Rattle.tall_local.specs.declared.functions.ValueFunction.{ValueFunction}
use Rattle.tall_local.specs.declared.functions.ValueFunction.TheVariants as function
use Rattle.tall_semantics.specs.Faults.{At}
use Rattle.tall_local.specs.Refusals.{bad_class}
use Rattle.tall_local.specs.Values.{datastore, deferred, tall_table}
use Rattle.tall_value.specs.declared.functions.Reduction.TheVariants.{Height}
use Rattle.tall_semantics.specs.Talls.{Tall}
use Rattle.tall_script.specs.ScriptLanguage.{application_answer}
use Rattle.tall_deferred.specs.Answers.{Comes}
use Rattle.tall_deferred.specs.Values.{value_at, variables_at}
use Rattle.tall_deferred.specs.declared.faults.ValueFault.{ValueFault}
use Rattle.tall_deferred.specs.declared.values.ScriptValue.{ScriptValue}
use Rattle.tall_deferred.specs.declared.values.Variable.{Variable}
use Rattle.tall_script.specs.ScriptValues.{TallValue, height_value, operation_value, reduce_value, scalar_given}
use Rattle.tall_deferred.specs.Forms.{with_operands, AreAlike, HaveScalars}

abbrev IsTold : ValueFunction → List Memory → List TallValue → Type 0
IsTold f ms vs = application scalar_given f vs ≡ option_map (with_operands vs) (application scalar_in f ms)

-- what is made of an option by both
mapped : {A : Type 0} (vs : List TallValue) (g : A → Application TallValue) (h : A → Application Memory) → ((a : A) → g a ≡ with_operands vs (h a)) → (o : Option A) → option_map g o ≡ option_map (with_operands vs) (option_map h o)
mapped vs g h p None = refl
mapped vs g h p (Some a) = ap Some (p a)

empty : {V : Type 0} (s : V → Option Seen) (f : ValueFunction) → application s f [] ≡ None
empty s function.Sum = refl
empty s (function.Reduction r) = refl
empty s function.Height = refl
empty s (function.Scan k) = refl
empty s function.Head = refl
empty s function.Tail = refl
empty s function.Unique = refl
empty s function.GroupSummary = refl
empty s function.IntMax = refl
empty s function.IntMin = refl
empty s function.Idivide = refl
empty s (function.Binary op) = refl
empty s (function.Unary op) = refl

none_told : (f : ValueFunction) → IsTold f [] []
none_told f = empty scalar_given f ∙ sym (ap (option_map (with_operands [])) (empty scalar_in f))

options_same : (ms : List Memory) (vs : List TallValue) → HaveScalars ms vs → all_of (λ o. choice_of sum_options (scalar_given o)) vs ≡ all_of (λ o. choice_of sum_options (scalar_in o)) ms
options_same [] [] h = refl
options_same [] (v ∷ vs) h = absurd h
options_same (m ∷ ms) [] h = absurd h
options_same (m ∷ ms) (v ∷ vs) h =
    ap (λ t. in_front_of (option_and_then (named sum_options) t) (all_of (λ o. choice_of sum_options (scalar_given o)) vs)) (sym h.0.0)
    ∙ ap (in_front_of (choice_of sum_options (scalar_in m))) (options_same ms vs h.1)

sum_told : (m : Memory) (v : TallValue) (ms : List Memory) (vs : List TallValue) → HaveScalars ms vs → IsTold function.Sum (m ∷ ms) (v ∷ vs)
sum_told m v ms vs h =
    ap (λ o. option_map (λ r. to_one (reduce r) v) (option_and_then sum_with o)) (options_same ms vs h)
    ∙ mapped (v ∷ vs) (λ r. to_one (reduce r) v) (λ r. to_one (reduce r) m) (λ r. refl) (option_and_then sum_with (all_of (λ o. choice_of sum_options (scalar_in o)) ms))

head_told : (m : Memory) (v : TallValue) (x y : Option Seen) (vs : List TallValue) → AreAlike x y → option_map (λ n. to_one (head n) v) (count_of y) ≡ option_map (with_operands (v ∷ vs)) (option_map (λ n. to_one (head n) m) (count_of x))
head_told m v x y vs e = subst (λ z. option_map (λ n. to_one (head n) v) z ≡ option_map (with_operands (v ∷ vs)) (option_map (λ n. to_one (head n) m) (count_of x))) e.1
    (mapped (v ∷ vs) (λ n. to_one (head n) v) (λ n. to_one (head n) m) (λ n. refl) (count_of x))

tail_told : (m : Memory) (v : TallValue) (x y : Option Seen) (vs : List TallValue) → AreAlike x y → option_map (λ n. to_one (tail n) v) (count_of y) ≡ option_map (with_operands (v ∷ vs)) (option_map (λ n. to_one (tail n) m) (count_of x))
tail_told m v x y vs e = subst (λ z. option_map (λ n. to_one (tail n) v) z ≡ option_map (with_operands (v ∷ vs)) (option_map (λ n. to_one (tail n) m) (count_of x))) e.1
    (mapped (v ∷ vs) (λ n. to_one (tail n) v) (λ n. to_one (tail n) m) (λ n. refl) (count_of x))

limit_told : (g : IntKind → Seen) (x y : Option Seen) (vs : List TallValue) → AreAlike x y → option_map (λ k. constant (g k)) (choice_of integer_classes y) ≡ option_map (with_operands vs) (option_map (λ k. constant (g k)) (choice_of integer_classes x))
limit_told g x y vs e = subst (λ z. option_map (λ k. constant (g k)) (option_and_then (named integer_classes) z) ≡ option_map (with_operands vs) (option_map (λ k. constant (g k)) (choice_of integer_classes x))) e.0
    (mapped vs (λ k. constant (g k)) (λ k. constant (g k)) (λ k. refl) (choice_of integer_classes x))

quotient_told : (a b : Memory) (v w : TallValue) (x y : Option Seen) (vs : List TallValue) → AreAlike x y
    → option_map (λ r. to_two (Idivide r) v w) (choice_of roundings y) ≡ option_map (with_operands (v ∷ w ∷ vs)) (option_map (λ r. to_two (Idivide r) a b) (choice_of roundings x))
quotient_told a b v w x y vs e = subst (λ z. option_map (λ r. to_two (Idivide r) v w) (option_and_then (named roundings) z) ≡ option_map (with_operands (v ∷ w ∷ vs)) (option_map (λ r. to_two (Idivide r) a b) (choice_of roundings x))) e.0
    (mapped (v ∷ w ∷ vs) (λ r. to_two (Idivide r) v w) (λ r. to_two (Idivide r) a b) (λ r. refl) (choice_of roundings x))

key_told : (m : Memory) (v : TallValue) (x y : Option Seen) (vs : List TallValue) → AreAlike x y → groups_of scalar_given v (text_of y) ≡ option_map (with_operands (v ∷ vs)) (groups_of scalar_in m (text_of x))
key_told m v x y vs e = subst (λ z. groups_of scalar_given v z ≡ option_map (with_operands (v ∷ vs)) (groups_of scalar_in m (text_of x))) e.0
    (mapped (v ∷ vs) (λ g. to_one (groups g Count []) v) (λ g. to_one (groups g Count []) m) (λ g. refl) (text_of x))

by_told : (m : Memory) (v : TallValue) (vs : List TallValue) (g : Option (List ℕ)) (how : Option Method) (d : Option (List ℕ)) → groups_by scalar_given v g how d ≡ option_map (with_operands (v ∷ vs)) (groups_by scalar_in m g how d)
by_told m v vs (Some g) (Some how) (Some d) = refl
by_told m v vs (Some g) (Some how) None = refl
by_told m v vs (Some g) None d = refl
by_told m v vs None how d = refl

data_told : (m : Memory) (v : TallValue) (x y p q s t : Option Seen) (vs : List TallValue) → AreAlike x y → AreAlike p q → AreAlike s t
    → groups_by scalar_given v (text_of y) (choice_of methods q) (text_of t) ≡ option_map (with_operands (v ∷ vs)) (groups_by scalar_in m (text_of x) (choice_of methods p) (text_of s))
data_told m v x y p q s t vs e h k =
    ap (λ z. groups_by scalar_given v z (choice_of methods q) (text_of t)) (sym e.0)
    ∙ (ap (λ z. groups_by scalar_given v (text_of x) (option_and_then (named methods) z) (text_of t)) (sym h.0)
    ∙ (ap (λ z. groups_by scalar_given v (text_of x) (choice_of methods p) z) (sym k.0)
    ∙ by_told m v vs (text_of x) (choice_of methods p) (text_of s)))

more_told : (f : ValueFunction) (m : Memory) (v : TallValue) (ms : List Memory) (vs : List TallValue) → AreAlike (scalar_in m) (scalar_given v) → HaveScalars ms vs → IsTold f (m ∷ ms) (v ∷ vs)
more_told f m v [] (w ∷ vs) e h = absurd h
more_told f m v (n ∷ ms) [] e h = absurd h
more_told function.Sum m v ms vs e h = sum_told m v ms vs h
more_told (function.Reduction r) m v [] [] e h = refl
more_told (function.Reduction r) m v (n ∷ ms) (w ∷ vs) e h = refl
more_told function.Height m v [] [] e h = refl
more_told function.Height m v (n ∷ ms) (w ∷ vs) e h = refl
more_told (function.Scan s) m v [] [] e h = refl
more_told (function.Scan s) m v (n ∷ ms) (w ∷ vs) e h = refl
more_told function.Head m v [] [] e h = refl
more_told function.Head m v (k ∷ []) (w ∷ []) e h = head_told m v (scalar_in k) (scalar_given w) (w ∷ []) h.0
more_told function.Head m v (k ∷ n ∷ ms) (w ∷ u ∷ vs) e h = refl
more_told function.Head m v (k ∷ []) (w ∷ u ∷ vs) e h = absurd h.1
more_told function.Head m v (k ∷ n ∷ ms) (w ∷ []) e h = absurd h.1
more_told function.Tail m v [] [] e h = refl
more_told function.Tail m v (k ∷ []) (w ∷ []) e h = tail_told m v (scalar_in k) (scalar_given w) (w ∷ []) h.0
more_told function.Tail m v (k ∷ n ∷ ms) (w ∷ u ∷ vs) e h = refl
more_told function.Tail m v (k ∷ []) (w ∷ u ∷ vs) e h = absurd h.1
more_told function.Tail m v (k ∷ n ∷ ms) (w ∷ []) e h = absurd h.1
more_told function.Unique m v [] [] e h = refl
more_told function.Unique m v (n ∷ ms) (w ∷ vs) e h = refl
more_told function.GroupSummary m v [] [] e h = refl
more_told function.GroupSummary m v (k ∷ []) (w ∷ []) e h = key_told m v (scalar_in k) (scalar_given w) (w ∷ []) h.0
more_told function.GroupSummary m v (k ∷ n ∷ []) (w ∷ u ∷ []) e h = refl
more_told function.GroupSummary m v (k ∷ n ∷ l ∷ []) (w ∷ u ∷ t ∷ []) e h = data_told m v (scalar_in k) (scalar_given w) (scalar_in n) (scalar_given u) (scalar_in l) (scalar_given t) (w ∷ u ∷ t ∷ []) h.0 h.1.0 h.1.1.0
more_told function.GroupSummary m v (k ∷ n ∷ l ∷ i ∷ ms) (w ∷ u ∷ t ∷ j ∷ vs) e h = refl
more_told function.GroupSummary m v (k ∷ []) (w ∷ u ∷ vs) e h = absurd h.1
more_told function.GroupSummary m v (k ∷ n ∷ ms) (w ∷ []) e h = absurd h.1
more_told function.GroupSummary m v (k ∷ n ∷ []) (w ∷ u ∷ t ∷ vs) e h = absurd h.1.1
more_told function.GroupSummary m v (k ∷ n ∷ l ∷ ms) (w ∷ u ∷ []) e h = absurd h.1.1
more_told function.GroupSummary m v (k ∷ n ∷ l ∷ []) (w ∷ u ∷ t ∷ j ∷ vs) e h = absurd h.1.1.1
more_told function.GroupSummary m v (k ∷ n ∷ l ∷ i ∷ ms) (w ∷ u ∷ t ∷ []) e h = absurd h.1.1.1
more_told function.IntMax m v [] [] e h = limit_told (λ k. whole k (greatest k)) (scalar_in m) (scalar_given v) (v ∷ []) e
more_told function.IntMax m v (n ∷ ms) (w ∷ vs) e h = refl
more_told function.IntMin m v [] [] e h = limit_told (λ k. whole k (least k)) (scalar_in m) (scalar_given v) (v ∷ []) e
more_told function.IntMin m v (n ∷ ms) (w ∷ vs) e h = refl
more_told function.Idivide m v [] [] e h = refl
more_told function.Idivide m v (k ∷ []) (w ∷ []) e h = refl
more_told function.Idivide m v (k ∷ n ∷ []) (w ∷ u ∷ []) e h = quotient_told m k v w (scalar_in n) (scalar_given u) (u ∷ []) h.1.0
more_told function.Idivide m v (k ∷ n ∷ l ∷ ms) (w ∷ u ∷ t ∷ vs) e h = refl
more_told function.Idivide m v (k ∷ []) (w ∷ u ∷ vs) e h = absurd h.1
more_told function.Idivide m v (k ∷ n ∷ ms) (w ∷ []) e h = absurd h.1
more_told function.Idivide m v (k ∷ n ∷ []) (w ∷ u ∷ t ∷ vs) e h = absurd h.1.1
more_told function.Idivide m v (k ∷ n ∷ l ∷ ms) (w ∷ u ∷ []) e h = absurd h.1.1
more_told (function.Binary op) m v [] [] e h = refl
more_told (function.Binary op) m v (k ∷ []) (w ∷ []) e h = refl
more_told (function.Binary op) m v (k ∷ n ∷ ms) (w ∷ u ∷ vs) e h = refl
more_told (function.Binary op) m v (k ∷ []) (w ∷ u ∷ vs) e h = absurd h.1
more_told (function.Binary op) m v (k ∷ n ∷ ms) (w ∷ []) e h = absurd h.1
more_told (function.Unary op) m v [] [] e h = refl
more_told (function.Unary op) m v (n ∷ ms) (w ∷ vs) e h = refl

pub form_told : (f : ValueFunction) (ms : List Memory) (vs : List TallValue) → HaveScalars ms vs → application scalar_given f vs ≡ option_map (with_operands vs) (application scalar_in f ms)
form_told f [] [] h = none_told f
form_told f [] (v ∷ vs) h = absurd h
form_told f (m ∷ ms) [] h = absurd h
form_told f (m ∷ ms) (v ∷ vs) h = more_told f m v ms vs h.0 h.1

-- ---- numbers of arguments

three_options : (x y z : SumOption) (zs : List SumOption) → sum_with (x ∷ y ∷ z ∷ zs) ≡ None
three_options Native Native z zs = refl
three_options Native OmitNan z zs = refl
three_options OmitNan Native z zs = refl
three_options OmitNan OmitNan z zs = refl

many_options : (o p q : Option SumOption) (r : Option (List SumOption)) → option_and_then sum_with (in_front_of o (in_front_of p (in_front_of q r))) ≡ None
many_options None p q r = refl
many_options (Some a) None q r = refl
many_options (Some a) (Some b) None r = refl
many_options (Some a) (Some b) (Some c) None = refl
many_options (Some a) (Some b) (Some c) (Some cs) = three_options a b c cs

five_told : (f : ValueFunction) (a b c d e : TallValue) (vs : List TallValue) → application scalar_given f (a ∷ b ∷ c ∷ d ∷ e ∷ vs) ≡ None
five_told function.Sum a b c d e vs =
    ap (option_map (λ r. to_one (reduce r) a))
    (many_options (choice_of sum_options (scalar_given b)) (choice_of sum_options (scalar_given c)) (choice_of sum_options (scalar_given d)) (all_of (λ o. choice_of sum_options (scalar_given o)) (e ∷ vs)))
five_told (function.Reduction r) a b c d e vs = refl
five_told function.Height a b c d e vs = refl
five_told (function.Scan s) a b c d e vs = refl
five_told function.Head a b c d e vs = refl
five_told function.Tail a b c d e vs = refl
five_told function.Unique a b c d e vs = refl
five_told function.GroupSummary a b c d e vs = refl
five_told function.IntMax a b c d e vs = refl
five_told function.IntMin a b c d e vs = refl
five_told function.Idivide a b c d e vs = refl
five_told (function.Binary op) a b c d e vs = refl
five_told (function.Unary op) a b c d e vs = refl

-- no function takes none, or more than four
pub none_taken : (f : ValueFunction) (vs : List TallValue) → (length vs ≡ 1 → ⊥) → (length vs ≡ 2 → ⊥) → (length vs ≡ 3 → ⊥) → (length vs ≡ 4 → ⊥) → application scalar_given f vs ≡ None
none_taken f [] h i j k = empty scalar_given f
none_taken f (a ∷ []) h i j k = absurd (h refl)
none_taken f (a ∷ b ∷ []) h i j k = absurd (i refl)
none_taken f (a ∷ b ∷ c ∷ []) h i j k = absurd (j refl)
none_taken f (a ∷ b ∷ c ∷ d ∷ []) h i j k = absurd (k refl)
none_taken f (a ∷ b ∷ c ∷ d ∷ e ∷ vs) h i j k = five_told f a b c d e vs

-- ---- arguments by their places

module _ {A : Type 0} (g : A → TallValue) where
  pub have_one : (xs : List A) (x : A) (m : Memory) → length xs ≡ 1 → x ≡ get_or xs 0 x → AreAlike (scalar_in m) (scalar_given (g x)) → HaveScalars (m ∷ []) (map g xs)
  have_one [] x m l e h = absurd (omega (arith, l))
  have_one (y ∷ []) x m l e h = (subst (λ z. AreAlike (scalar_in m) (scalar_given (g z))) e h, tt)
  have_one (y ∷ z ∷ xs) x m l e h = absurd (omega (arith, l))

  pub have_two : (xs : List A) (x y : A) (m n : Memory) → length xs ≡ 2 → x ≡ get_or xs 0 x → y ≡ get_or xs 1 y → AreAlike (scalar_in m) (scalar_given (g x)) → AreAlike (scalar_in n) (scalar_given (g y)) → HaveScalars (m ∷ n ∷ []) (map g xs)
  have_two [] x y m n l d e h i = absurd (omega (arith, l))
  have_two (a ∷ []) x y m n l d e h i = absurd (omega (arith, l))
  have_two (a ∷ b ∷ []) x y m n l d e h i = (subst (λ z. AreAlike (scalar_in m) (scalar_given (g z))) d h, (subst (λ z. AreAlike (scalar_in n) (scalar_given (g z))) e i, tt))
  have_two (a ∷ b ∷ c ∷ xs) x y m n l d e h i = absurd (omega (arith, l))

  pub have_three : (xs : List A) (x y z : A) (m n o : Memory) → length xs ≡ 3 → x ≡ get_or xs 0 x → y ≡ get_or xs 1 y → z ≡ get_or xs 2 z
      → AreAlike (scalar_in m) (scalar_given (g x)) → AreAlike (scalar_in n) (scalar_given (g y)) → AreAlike (scalar_in o) (scalar_given (g z)) → HaveScalars (m ∷ n ∷ o ∷ []) (map g xs)
  have_three [] x y z m n o l d e f h i j = absurd (omega (arith, l))
  have_three (a ∷ []) x y z m n o l d e f h i j = absurd (omega (arith, l))
  have_three (a ∷ b ∷ []) x y z m n o l d e f h i j = absurd (omega (arith, l))
  have_three (a ∷ b ∷ c ∷ []) x y z m n o l d e f h i j =
      (subst (λ z. AreAlike (scalar_in m) (scalar_given (g z))) d h, (subst (λ z. AreAlike (scalar_in n) (scalar_given (g z))) e i, (subst (λ z. AreAlike (scalar_in o) (scalar_given (g z))) f j, tt)))
  have_three (a ∷ b ∷ c ∷ u ∷ xs) x y z m n o l d e f h i j = absurd (omega (arith, l))

  pub have_four : (xs : List A) (x y z w : A) (m n o p : Memory) → length xs ≡ 4 → x ≡ get_or xs 0 x → y ≡ get_or xs 1 y → z ≡ get_or xs 2 z → w ≡ get_or xs 3 w
      → AreAlike (scalar_in m) (scalar_given (g x)) → AreAlike (scalar_in n) (scalar_given (g y)) → AreAlike (scalar_in o) (scalar_given (g z)) → AreAlike (scalar_in p) (scalar_given (g w)) → HaveScalars (m ∷ n ∷ o ∷ p ∷ []) (map g xs)
  have_four [] x y z w m n o p l d e f q h i j k = absurd (omega (arith, l))
  have_four (a ∷ []) x y z w m n o p l d e f q h i j k = absurd (omega (arith, l))
  have_four (a ∷ b ∷ []) x y z w m n o p l d e f q h i j k = absurd (omega (arith, l))
  have_four (a ∷ b ∷ c ∷ []) x y z w m n o p l d e f q h i j k = absurd (omega (arith, l))
  have_four (a ∷ b ∷ c ∷ u ∷ []) x y z w m n o p l d e f q h i j k = (
    subst (λ z. AreAlike (scalar_in m) (scalar_given (g z))) d h,
    (
      subst (λ z. AreAlike (scalar_in n) (scalar_given (g z))) e i,
      (subst (λ z. AreAlike (scalar_in o) (scalar_given (g z))) f j, (subst (λ z. AreAlike (scalar_in p) (scalar_given (g z))) q k, tt)),
    ),
  )
  have_four (a ∷ b ∷ c ∷ u ∷ v ∷ xs) x y z w m n o p l d e f q h i j k = absurd (omega (arith, l))

  pub value_at_place : (xs : List A) (i : ℕ) (x : A) (d : TallValue) → i < length xs → x ≡ get_or xs i x → get_or (map g xs) i d ≡ g x
  value_at_place [] i x d l e = absurd (omega (arith, l))
  value_at_place (y ∷ xs) zero x d l e = ap g (sym e)
  value_at_place (y ∷ xs) (suc i) x d l e = value_at_place xs i x d (omega (arith, l)) e

pub first_height : (at : At) (f : ℕ → Tall) (xs : List Variable) (x : Variable) → 0 < length xs → x ≡ get_or xs 0 x → height_value at (tall_table (variables_at f xs)) ≡ reduce_value at Height (deferred (f x.node))
first_height at f [] x l e = absurd (omega (arith, l))
first_height at f (y ∷ xs) x l e = ap (λ (v : Variable). reduce_value at Height (deferred (f v.node))) (sym e)

-- the answer by the form of the stand-ins
pub by_form : (at : At) (f : ℕ → Tall) (g : ValueFunction) (ms : List Memory) (vs : List TallValue) (seen : Option (Application Memory)) (r : Result ScriptValue ValueFault) → HaveScalars ms vs → seen ≡ application scalar_in g ms
    → Comes (value_at f) (application_answer at (option_map (with_operands vs) seen)) r → Comes (value_at f) (application_answer at (application scalar_given g vs)) r
by_form at f g ms vs seen r h e given =
    subst (λ o. Comes (value_at f) (application_answer at o) r) (ap (option_map (with_operands vs)) e ∙ sym (form_told g ms vs h)) given

-- ---- datastores

pub no_datastore : (at : At) (o : Operation) (place : ℕ) → operation_value at o (datastore place) ≡ Err bad_class
no_datastore at (reduce r) place = refl
no_datastore at height place = refl
no_datastore at (scan s) place = refl
no_datastore at (head k) place = refl
no_datastore at (tail k) place = refl
no_datastore at distinct place = refl
no_datastore at (groups key Count value) place = refl
no_datastore at (groups key m value) place = refl
no_datastore at (unary op) place = refl
