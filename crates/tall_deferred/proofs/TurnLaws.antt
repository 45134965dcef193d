-- Numbers in turn are in the order of evaluation, and what an expression adds has its number.
use Rattle.std.specs.Prelude.{◌≡◌, ℕ, suc, ◌<◌, ◌≤◌, List, [], ◌∷◌, ◌++◌, length, map}
use Rattle.std.specs.List.{All}
use Rattle.std.proofs.Common.{sym, subst, ◌∙◌, arith}
use Rattle.std.proofs.lemmas.List.Elements.{All-nil, All-cons, All-head, All-tail, All-append}
use Rattle.tall_value.specs.declared.functions.Method.{Method}
use Rattle.tall_grammar.specs.Trees.{Tree, tree, Trees, no_trees, and_tree, Args, no_args, value_arg, colon_arg}
use Rattle.tall_grammar.specs.Trees as trees
use Rattle.tall_semantics.specs.Deferred.{Vertex}
use Rattle.tall_semantics.specs.Faults.{At}
use Rattle.tall_semantics.specs.Operations.{Op, constant, group, Part}
use Rattle.tall_script.specs.NumberLaws.{AreInTurn, numbers_of, numbers_of_trees, numbers_of_args}
use Rattle.tall_script.specs.VertexLaws.{vertex, Adds, one_operation, behind_a_scalar, over_columns, of_groups, IsLower}
use Rattle.tall_script.proofs.LaterNumbers.{parted, up_to}
use Rattle.tall_evaluate.specs.Orders.{first_number, last_number, own_number}
use Rattle.tall_deferred.specs.Answers.{Extends}
use Rattle.tall_deferred.specs.Values.{IsLent, IsValue, IsVariable}
use Rattle.tall_deferred.specs.declared.values.ScriptRef.{ScriptRef}
use Rattle.tall_deferred.specs.declared.values.ScriptRef.TheVariants as lent
use Rattle.tall_deferred.specs.declared.values.ScriptValue.{ScriptValue}
use Rattle.tall_deferred.specs.declared.values.ScriptValue.TheVariants as kept
use Rattle.tall_deferred.specs.declared.values.Variable.{Variable}
use Rattle.tall_deferred.specs.Turns.{IsInTurn, ArgsAreInTurn, IsAtMost}

-- ---- numbers of expressions

-- the whole behind its parts, the last of which has the number k
whole_after : (k m n j : ℕ) → j ≡ suc k → AreInTurn j (m ∷ []) n → (k < m) × (n ≡ suc m)
whole_after k m n j e h = (let a : m ≡ j = h.0 in omega (arith, a, e), let a : m ≡ j = h.0 in let b : suc j ≡ n = h.1 in omega (arith, a, b))

alone : (m n k : ℕ) → AreInTurn m (k ∷ []) n → (m ≤ k) × (n ≡ suc k)
alone m n k h = (let a : k ≡ m = h.0 in omega (arith, a), let a : k ≡ m = h.0 in let b : suc m ≡ n = h.1 in omega (arith, a, b))

later : (j a b : ℕ) → j ≡ suc a → j ≤ b → a < b
later j a b e l = omega (arith, e, l)

through : (a b c : ℕ) → a ≤ b → b ≤ c → a ≤ c
through a b c h k = omega (arith, h, k)

mutual
  pub turn : (e : Tree) (m n : ℕ) → AreInTurn m (numbers_of e) n → IsInTurn e m n
  turn (tree k l (trees.number d)) m n h = (let a = alone m n k h in record { least = a.0; last = a.1; order = tt })
  turn (tree k l (trees.text t)) m n h = (let a = alone m n k h in record { least = a.0; last = a.1; order = tt })
  turn (tree k l (trees.name s)) m n h = (let a = alone m n k h in record { least = a.0; last = a.1; order = tt })
  turn (tree k l (trees.handle s)) m n h = (let a = alone m n k h in record { least = a.0; last = a.1; order = tt })
  turn (tree k l (trees.list es)) m n h =
      let p = parted m n (numbers_of_trees es) (k ∷ []) h in
      let u = up_to m p.0 (numbers_of_trees es) p.1 in
      let a = alone p.0 n k p.2 in
      record { least = through m p.0 k u.0 a.0; last = a.1; order = tt }
  turn (tree k l (trees.prefixed op e)) m n h =
      let p = parted m n (numbers_of e) (k ∷ []) h in
      let t = turn e m p.0 p.1 in
      let w = whole_after (own_number e) k n p.0 t.last p.2 in
      record { least = t.least; last = w.1; order = (t.order, w.0) }
  turn (tree k l (trees.joined op e f)) m n h =
      let p = parted m n (numbers_of e) (numbers_of f ++ k ∷ []) h in
      let q = parted p.0 n (numbers_of f) (k ∷ []) p.2 in
      let t = turn e m p.0 p.1 in
      let u = turn f p.0 q.0 q.1 in
      let w = whole_after (own_number f) k n q.0 u.last q.2 in
      record { least = t.least; last = w.1; order = (t.order, later p.0 (own_number e) (first_number f) t.last u.least, u.order, w.0) }
  turn (tree k l (trees.member e s)) m n h =
      let p = parted m n (numbers_of e) (k ∷ []) h in
      let t = turn e m p.0 p.1 in
      let w = whole_after (own_number e) k n p.0 t.last p.2 in
      record { least = t.least; last = w.1; order = (t.order, w.0) }
  turn (tree k l (trees.call e args)) m n h =
      let p = parted m n (numbers_of e) (numbers_of_args args ++ k ∷ []) h in
      let q = parted p.0 n (numbers_of_args args) (k ∷ []) p.2 in
      let t = turn e m p.0 p.1 in
      let u = args_turn args (own_number e) p.0 q.0 t.last q.1 in
      let w = whole_after (last_number (own_number e) args) k n q.0 u.last q.2 in
      record { least = t.least; last = w.1; order = (t.order, u.order, w.0) }

  pub args_turn : (args : Args) (a m n : ℕ) → m ≡ suc a → AreInTurn m (numbers_of_args args) n → ArgsAreInTurn a args n
  args_turn no_args a m n e h = record { last = sym h ∙ e; order = tt }
  args_turn (value_arg f args) a m n e h =
      let p = parted m n (numbers_of f) (numbers_of_args args) h in
      let t = turn f m p.0 p.1 in
      let u = args_turn args (own_number f) p.0 n t.last p.2 in
      record { last = u.last; order = (later m a (first_number f) e t.least, t.order, u.order) }
  args_turn (colon_arg args) a m n e h =
      let u = args_turn args a m n e h in record { last = u.last; order = u.order }

-- ---- what is added

itself : (n : ℕ) → n ≤ n
itself n = omega arith

each_column : (at : At) (o : Op) (columns : List (List ℕ)) → All (IsAtMost at) (map (vertex at o) columns)
each_column at o [] = All-nil (IsAtMost at)
each_column at o (c ∷ columns) = All-cons (IsAtMost at) (vertex at o c) (map (vertex at o) columns) (itself at.number) (each_column at o columns)

each_part : (at : At) (m : Method) (args : List ℕ) (parts : List Part) → All (IsAtMost at) (map (λ part. vertex at (group m part) args) parts)
each_part at m args [] = All-nil (IsAtMost at)
each_part at m args (p ∷ parts) = All-cons (IsAtMost at) (vertex at (group m p) args) (map (λ part. vertex at (group m part) args) parts) (itself at.number) (each_part at m args parts)

added : (at : At) (n : ℕ) (ws : List Vertex) → Adds at n ws → All (IsAtMost at) ws
added at n _ (one_operation o args below) = All-cons (IsAtMost at) (vertex at o args) [] (itself at.number) (All-nil (IsAtMost at))
added at n _ (behind_a_scalar c o args below) =
    All-cons (IsAtMost at) (vertex at (constant c) []) (vertex at o args ∷ []) (itself at.number) (All-cons (IsAtMost at) (vertex at o args) [] (itself at.number) (All-nil (IsAtMost at)))
added at n _ (over_columns o columns safe below) = each_column at o columns
added at n _ (of_groups m parts args below) = each_part at m args parts

lower_at_most : (at : At) (vs : List Vertex) → All (IsLower at) vs → All (IsAtMost at) vs
lower_at_most at [] h = All-nil (IsAtMost at)
lower_at_most at (v ∷ vs) h =
    All-cons (IsAtMost at) v vs (less v.at.number at.number (All-head (IsLower at) v vs h)) (lower_at_most at vs (All-tail (IsLower at) v vs h)) where
      less : (a b : ℕ) → a < b → a ≤ b
      less a b l = omega (arith, l)

pub extended_at_most : (at : At) (old new : List Vertex) → Extends at old new → All (IsLower at) old → All (IsAtMost at) new
extended_at_most at old new grown lower =
    subst (All (IsAtMost at)) (sym grown.2) (All-append (IsAtMost at) old grown.0 (lower_at_most at old lower) (added at (length old) grown.0 grown.1))

pub next_lower : (at next : At) (vs : List Vertex) → at.number < next.number → All (IsAtMost at) vs → All (IsLower next) vs
next_lower at next [] l h = All-nil (IsLower next)
next_lower at next (v ∷ vs) l h =
    All-cons (IsLower next) v vs (less v.at.number at.number next.number (All-head (IsAtMost at) v vs h) l) (next_lower at next vs l (All-tail (IsAtMost at) v vs h)) where
      less : (a b c : ℕ) → a ≤ b → b < c → a < c
      less a b c h k = omega (arith, h, k)

-- ---- values of a longer graph

variables_stay : (n m : ℕ) (xs : List Variable) → n ≤ m → All (IsVariable n) xs → All (IsVariable m) xs
variables_stay n m [] l h = All-nil (IsVariable m)
variables_stay n m (x ∷ xs) l h =
    All-cons (IsVariable m) x xs (more x.node (All-head (IsVariable n) x xs h)) (variables_stay n m xs l (All-tail (IsVariable n) x xs h)) where
      more : (a : ℕ) → a < n → a < m
      more a k = omega (arith, l, k)

pub value_stays : (n m : ℕ) (v : ScriptValue) → n ≤ m → IsValue n v → IsValue m v
value_stays n m (kept.Datastore place) l h = tt
value_stays n m (kept.Table xs) l h = variables_stay n m xs.items l h
value_stays n m (kept.Tall x) l h = omega (arith, l, h)
value_stays n m (kept.Memory v) l h = tt

pub lent_stays : (n m : ℕ) (v : ScriptRef) → n ≤ m → IsLent n v → IsLent m v
lent_stays n m (lent.Datastore place) l h = tt
lent_stays n m (lent.Table xs) l h = variables_stay n m xs.now l h
lent_stays n m (lent.Tall x) l h = omega (arith, l, h)
lent_stays n m (lent.Memory v) l h = tt
