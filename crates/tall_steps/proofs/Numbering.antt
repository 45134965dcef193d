-- The expressions of a script come in the order of their numbers, and what a new session keeps.
use Rattle.std.proofs.Common.{ℕ, suc, ◌≡◌, ◌∙◌, ◌<◌, ◌≤◌, ◌+◌, ◌-◌, List, [], ◌∷◌, ◌++◌, length, map, drop, refl, ap, subst, sym, arith}
use Rattle.std.specs.Prelude.{None, Option, Some, false, get_or}
use Rattle.std.proofs.lemmas.List.{drop_more, get_or-map, length-drop, length-map}
use Rattle.tall_grammar.specs.Grammar.{IsScript}
use Rattle.tall_grammar.specs.Lexemes.{Lexeme, lexemes_of}
use Rattle.tall_grammar.specs.Refusals.{Parses, Reads, Verdict, read, is_too_deep, stops_short, ends_early, is_too_high, is_script, is_too_long, has_bad_token, has_tokens, last_line}
use Rattle.tall_grammar.specs.Trees.{Args, Body, SeenScript, SeenStatement, Tree, assigned, gathered, property, bare}
use Rattle.tall_script.specs.NumberLaws.{AreInTurn, numbers_of, numbers_of_args, numbers_of_body, numbers_of_functions, numbers_of_script, numbers_of_statements}
use Rattle.tall_evaluate.specs.Orders.{last_number}
use Rattle.tall_deferred.specs.Turns.{ArgsAreInTurn, IsInTurn}
use Rattle.tall_grammar.specs.Views.{arg_of, args_of, entry_of, program_of}
use Rattle.tall_grammar.specs.declared.expressions.Arg.{Arg}
use Rattle.tall_grammar.specs.declared.scripts.Script.{Script}
use Rattle.tall_grammar.specs.declared.scripts.Statement.{Statement}
use Rattle.tall_environment.specs.Environments.{SeenEnvironment}
use Rattle.tall_statements.specs.Orders.{IsInOrder, last_of}
use Rattle.tall_steps.specs.Sessions.{AreInOrder, IsReady, IsSession}

read_same : (p q : SeenScript) → read p ≡ read q → p ≡ q
read_same p q e = cc

-- numbers in turn, cut into two
two_parts : (m : ℕ) (xs ys : List ℕ) (n : ℕ) → AreInTurn m (xs ++ ys) n → (k : ℕ) × AreInTurn m xs k × AreInTurn k ys n
two_parts m [] ys n h = (m, refl, h)
two_parts m (x ∷ xs) ys n h = let r = two_parts (suc m) xs ys n h.1 in (r.0, (h.0, r.1), r.2)

module _ (expressions : (e : Tree) (m n : ℕ) → AreInTurn m (numbers_of e) n → IsInTurn e m n) (arguments : (args : Args) (a n : ℕ) → AreInTurn (suc a) (numbers_of_args args) n → ArgsAreInTurn a args n) where
  one_in_order : (b : Body) (after n : ℕ) → AreInTurn (suc after) (numbers_of_body b) n → IsInOrder after b × (n ≡ suc (last_of after b))
  one_in_order (assigned name e) after n h = let t = expressions e (suc after) n h in ((omega (arith, t.least), t.order), t.last)
  one_in_order (gathered names args) after n h = let t = arguments args after n h in (t.order, t.last)
  one_in_order (property name p e) after n h = let t = expressions e (suc after) n h in ((omega (arith, t.least), t.order), t.last)
  one_in_order (bare e) after n h = let t = expressions e (suc after) n h in ((omega (arith, t.least), t.order), t.last)

  all_in_order : (entries : List SeenStatement) (after n : ℕ) → AreInTurn (suc after) (numbers_of_statements entries) n → AreInOrder after entries
  all_in_order [] after n h = tt
  all_in_order (entry ∷ entries) after n h =
      let s = two_parts (suc after) (numbers_of_body entry.form) (numbers_of_statements entries) n h in
      let x = one_in_order entry.form after s.0 s.1 in
      (x.0, all_in_order entries (last_of after entry.form) n (subst (λ k. AreInTurn k (numbers_of_statements entries) n) x.1 s.2))

  module _ (scripts : (ts : List Lexeme) (p : SeenScript) → IsScript ts p → (next : ℕ) × AreInTurn 1 (numbers_of_script p) next) where
    script_in_order : (ts : List Lexeme) (p : SeenScript) → IsScript ts p → AreInOrder 0 p.statements
    script_in_order ts p h =
        let t = scripts ts p h in
        let s = two_parts 1 (numbers_of_statements p.statements) (numbers_of_functions p.functions) t.0 t.1 in
        all_in_order p.statements 0 s.0 s.1

    read_in_order : (last : ℕ) (ts : List Lexeme) (v : Verdict) (p : SeenScript) → Reads last ts v → v ≡ read p → AreInOrder 0 p.statements
    read_in_order last ts v p (is_too_deep deep) e = absurd cc
    read_in_order last ts v p (stops_short deep stops) e = absurd cc
    read_in_order last ts v p (ends_early deep ends) e = absurd cc
    read_in_order last ts v p (is_too_high deep is high) e = absurd cc
    read_in_order last ts v p (is_script {s} deep is low) e = subst (λ (x : SeenScript). AreInOrder 0 x.statements) (read_same s p e) (script_in_order ts s is)

    parsed_in_order : (bytes : List ℕ) (v : Verdict) (p : SeenScript) → Parses bytes v → v ≡ read p → AreInOrder 0 p.statements
    parsed_in_order bytes v p (is_too_long long) e = absurd cc
    parsed_in_order bytes v p (has_bad_token short bad) e = absurd cc
    parsed_in_order bytes v p (has_tokens {tokens} {answer} short are reads) e = read_in_order (last_line bytes) (lexemes_of bytes tokens) answer p reads e

    -- what a session has at the front of a script
    pub starts_ready : (bytes : List ℕ) (script : Script) (e : SeenEnvironment) (workers : ℕ) → Parses bytes (read (program_of script)) → 1 ≤ workers → workers ≤ 64
        → e ≡ record { names = []; stores = []; graph = []; opened = [] } → IsSession (record { script = script; place = 0; has_ended = false; environment = e }) workers 0
    starts_ready bytes script e workers h some few is =
        subst (λ (x : SeenEnvironment). IsSession (record { script = script; place = 0; has_ended = false; environment = x }) workers 0) (sym is)
        (record {
          some = some;
          few = few;
          ready = λ runs. record {
            last = record { graph = λ k d within. absurd (omega (arith, within)); calls = λ place d e. absurd cc };
            order = parsed_in_order bytes (read (program_of script)) (program_of script) h refl;
          };
        })

-- ---- the statements that are left

-- the next of them
pub next_left : (f : Statement → SeenStatement) (xs : List Statement) (place : ℕ) (x : Statement) → place < length xs → x ≡ get_or xs place x → drop place (map f xs) ≡ f x ∷ drop (place + 1) (map f xs)
next_left f xs place x within is =
    drop_more (map f xs) place (f x) (subst (λ n. place < n) (sym (length-map xs f)) within) ∙ ap (λ y. y ∷ drop (place + 1) (map f xs)) (get_or-map f xs place x (f x) within ∙ ap f (sym is))

-- there is one
pub some_left : (f : Statement → SeenStatement) (xs : List Statement) (place : ℕ) → place < length xs → (entry : SeenStatement) × (rest : List SeenStatement) × (drop place (map f xs) ≡ entry ∷ rest)
some_left f xs place within = by (drop place (map f xs)) refl
  where
    by : (left : List SeenStatement) → drop place (map f xs) ≡ left → (entry : SeenStatement) × (rest : List SeenStatement) × (drop place (map f xs) ≡ entry ∷ rest)
    by [] e =
        let d : length (drop place (map f xs)) ≡ length (map f xs) - place = length-drop place (map f xs) in
        let m : length (map f xs) ≡ length xs = length-map xs f in
        let z : length (drop place (map f xs)) ≡ 0 = ap length e in
        absurd (omega (arith, d, m, z, within))
    by (entry ∷ rest) e = (entry, rest, e)

-- it may run, and behind it the others
pub may_run : (xs : List Statement) (place : ℕ) (x : Statement) (e : SeenEnvironment) (after : ℕ) → place < length xs → x ≡ get_or xs place x → IsReady (drop place (map entry_of xs)) e after
    → IsInOrder after (entry_of x).form × AreInOrder (last_of after (entry_of x).form) (drop (place + 1) (map entry_of xs))
may_run xs place x e after within is h = subst (AreInOrder after) (next_left entry_of xs place x within is) h.order

-- ---- the arguments that are left

one_argument : (n : ℕ) (a : Option Tree) (rest : List (Option Tree)) → last_number (last_number n (args_of (a ∷ []))) (args_of rest) ≡ last_number n (args_of (a ∷ rest))
one_argument n None rest = refl
one_argument n (Some e) rest = refl

-- the number behind the next of them, before the others, is the one behind all of them
pub next_argument : (args : List Arg) (place : ℕ) (arg : Arg) (last next : ℕ) → place < length args → arg ≡ get_or args place arg → next ≡ last_number last (args_of (arg_of arg ∷ []))
    → last_number next (args_of (map arg_of (drop (place + 1) args))) ≡ last_number last (args_of (map arg_of (drop place args)))
next_argument args place arg last next within is found =
    ap (λ n. last_number n (args_of (map arg_of (drop (place + 1) args)))) found
    ∙ (one_argument last (arg_of arg) (map arg_of (drop (place + 1) args))
    ∙ ap (λ xs. last_number last (args_of (map arg_of xs))) (sym (drop_more args place arg within ∙ ap (λ y. y ∷ drop (place + 1) args) (sym is))))
