-- Which of the four forms a statement has is seen from its first tokens.
use Rattle.std.proofs.Common.{◌≡◌, ℕ, suc, Bool, true, false, ◌&&◌, ◌||◌, List, [], ◌∷◌, ◌++◌, length, ◌⊎◌, inl, inr, ⊎_elim, refl, sym, ap, ◌∙◌, subst, arith, append_assoc, length-append}
use Rattle.std.proofs.lemmas.List.{append-nil}
use Rattle.std.proofs.lemmas.Bool.{and_parts, true≢false}
use Rattle.std.specs.Prelude.{codes, if◌then◌else◌, Result, Ok, Err}
use Rattle.tall_grammar.specs.declared.faults.Fault.TheVariants.{Stop}
use Rattle.tall_grammar.specs.Lexemes.{Lexeme, sign, name_token, text_token, is_the_sign, text_value}
use Rattle.tall_grammar.specs.Trees.{Tree, tree, name, text, list, member, no_trees, and_tree, no_args, Body, assigned, property, bare}
use Rattle.tall_grammar.specs.Grammar.{no_more_names, IsExpr, one_conj, one_cmp, one_sum, one_prod, one_pre, one_post, one_primary, member_of as grammar_member, a_name, a_list, in_brackets, no_more_texts, without_args}
use Rattle.tall_grammar.specs.Kept.{kept, leaf, member_of, Flagged, flagged}
use Rattle.tall_grammar.specs.Readers.{Input, input, Outcome, Reader, front_is, all_but_front, is_name}
use Rattle.tall_grammar.specs.ExprReader.{expr_within, level, chain_from, post_from, signs_from, signed}
use Rattle.tall_grammar.specs.Readers.{listed_from}
use Rattle.tall_grammar.specs.ScriptReader.{begins_assignment, begins_property, begins_targets, is_equals, assignment, property_setting, gathering, bare_expression, body}
use Rattle.tall_grammar.proofs.Exact.{Rule, Took, Left, Steady, Holds, Begun, IsRead, Exact, read_as}
use Rattle.tall_grammar.proofs.Combine.{seq}
use Rattle.tall_grammar.proofs.Signs.{sign_is, name_is}
use Rattle.tall_grammar.proofs.Lists.{nothing, none_of_nothing}
use Rattle.tall_grammar.proofs.Operands.{held}
use Rattle.tall_grammar.proofs.Levels.{goes_expr, exact_expr, a_name_alone}
use Rattle.tall_grammar.proofs.Tokens.{after, after_name, Told, told, alone}
use Rattle.tall_grammar.proofs.Bodies.{AssignRule, PropertyRule, BareRule, TargetsRule, gather_args, some_names, exact_assignment, exact_property, exact_bare, exact_targets}

pub data RawBody (l : ℕ) : ℕ → List Lexeme → Flagged Body → ℕ → Type 0 where
  raw_assignment : (m n : ℕ) (ts : List Lexeme) (b : Flagged Body) → AssignRule l m ts b n → RawBody l m ts b n
  raw_property : (m n : ℕ) (ts : List Lexeme) (b : Flagged Body) → PropertyRule l m ts b n → RawBody l m ts b n
  raw_targets : (m n : ℕ) (ts : List Lexeme) (b : Flagged Body) → TargetsRule l m ts b n → RawBody l m ts b n
  raw_bare : (m n : ℕ) (ts : List Lexeme) (b : Flagged Body) → BareRule l m ts b n → RawBody l m ts b n

abbrev pub goes_body : Lexeme → Bool
goes_body t = goes_expr t || is_equals t

abbrev pick : {X : Type 0} → Bool → Bool → Bool → X → X → X → X → X
pick a p g w x y z = if a then w else if p then x else if g then y else z

-- ---- a reader takes a token with which its rule goes on

record Ends {A : Type 0} (R : Rule A) (m : ℕ) (ts : List Lexeme) : Type 0 where
  rest : List Lexeme
  value : A
  next : ℕ
  holds : R m (ts ++ rest) value next

never_empty : (us : List Lexeme) (x : Lexeme) (s : List Lexeme) → us ++ x ∷ s ≡ [] → ⊥
never_empty us x s e = let h : length (us ++ x ∷ s) ≡ 0 = ap length e in omega (arith, h, length-append us (x ∷ s))

ok_value : {X E : Type 0} (x y : X) → ◌≡◌ {A = Result X E} (Ok x) (Ok y) → x ≡ y
ok_value x y h = cc

module _ {A : Type 0} {R : Rule A} {goes : Lexeme → Bool} (p : Reader A) (e : Exact R goes p) where
  none_goes : front_is goes [] ≡ false
  none_goes = refl

  whole_alone : (ts : List Lexeme) (m : ℕ) (a : A) (n : ℕ) → R m ts a n → IsRead (p (input ts m)) a (input [] n)
  whole_alone ts m a n r = read_as _ _ a (input [] n) (ap (λ w. p (input w m)) (sym (append-nil ts))) (e.whole ts m a n [] r refl)

  eats_stop : (ts : List Lexeme) (x : Lexeme) (r : List Lexeme) (m : ℕ) → Ends R m (ts ++ x ∷ []) → p (input (ts ++ x ∷ r) m) ≡ Err (Stop (suc (length r))) → ⊥
  eats_stop ts x r m u h =
      let s = e.steady.same_stop ts x r u.rest m h in
      subst (λ (o : _). IsRead o u.value (input [] u.next)) s
      (whole_alone (ts ++ x ∷ u.rest) m u.value u.next (subst (λ (w : List Lexeme). R m w u.value u.next) (append_assoc ts (x ∷ []) u.rest) u.holds))

  eats_read : (ts us : List Lexeme) (x : Lexeme) (r : List Lexeme) (m n : ℕ) (a : A) → Ends R m (ts ++ x ∷ []) → p (input (ts ++ x ∷ r) m) ≡ Ok (a, input (us ++ x ∷ r) n) → ⊥
  eats_read ts us x r m n a u h =
      let s = e.steady.same_read ts us x r u.rest m n a h in
      let q : (a, input (us ++ x ∷ u.rest) n) ≡ (u.value, input [] u.next) = subst (λ (o : _). IsRead o u.value (input [] u.next)) s
      (whole_alone (ts ++ x ∷ u.rest) m u.value u.next (subst (λ (w : List Lexeme). R m w u.value u.next) (append_assoc ts (x ∷ []) u.rest) u.holds)) in
      never_empty us x u.rest (ap (λ z. z.1.rest) q)

-- ---- where the tokens that are looked at go beyond one

data Trap : List Lexeme → Lexeme → Type 0 where
  trap_name : (p : ℕ) (s : List ℕ) → Trap [] (name_token p s)
  trap_bracket : (p : ℕ) → Trap [] (sign p (codes "["))
  trap_point : (p q : ℕ) (s : List ℕ) → Trap (name_token p s ∷ []) (sign q (codes "."))
  trap_member : (p q r : ℕ) (s t : List ℕ) → Trap (name_token p s ∷ sign q (codes ".") ∷ []) (name_token r t)

record Alike (ts : List Lexeme) (x : Lexeme) : Type 0 where
  assignments : (r s : List Lexeme) → begins_assignment (ts ++ x ∷ r) ≡ begins_assignment (ts ++ x ∷ s)
  properties : (r s : List Lexeme) → begins_property (ts ++ x ∷ r) ≡ begins_property (ts ++ x ∷ s)
  targets : (r s : List Lexeme) → begins_targets (ts ++ x ∷ r) ≡ begins_targets (ts ++ x ∷ s)

no_and : (a : Bool) (b c : Bool) → a ≡ false → (a && b) ≡ (a && c)
no_and true b c h = absurd (true≢false h)
no_and false b c h = refl

no_and_two : (d a : Bool) (b c : Bool) → a ≡ false → (d && (a && b)) ≡ (d && (a && c))
no_and_two true a b c h = no_and a b c h
no_and_two false a b c h = refl

no_and_three : (f d a : Bool) (b c : Bool) → a ≡ false → (f && (d && (a && b))) ≡ (f && (d && (a && c)))
no_and_three true d a b c h = no_and_two d a b c h
no_and_three false d a b c h = refl

looked : (ts : List Lexeme) (x : Lexeme) → Trap ts x ⊎ Alike ts x
looked [] x = (elim (is_name x) as (λ b. is_name x ≡ b → Trap [] x ⊎ Alike [] x) [
  | true ↦ λ e. inl (subst (λ (z : Lexeme). Trap [] z) (sym (name_is x e)) (trap_name x.line x.text))
  | false ↦ λ e. (elim (is_the_sign (codes "[") x) as (λ b. is_the_sign (codes "[") x ≡ b → Trap [] x ⊎ Alike [] x) [
    | true ↦ λ f. inl (subst (λ (z : Lexeme). Trap [] z) (sym (sign_is (codes "[") x f)) (trap_bracket x.line))
    | false ↦ λ f. inr (record { assignments = λ r s. no_and (is_name x) _ _ e; properties = λ r s. no_and (is_name x) _ _ e; targets = λ r s. no_and (is_the_sign (codes "[") x) _ _ f })
  ]) refl
]) refl
looked (a ∷ []) x = (elim (is_name a) as (λ b. is_name a ≡ b → Trap (a ∷ []) x ⊎ Alike (a ∷ []) x) [
  | true ↦ λ e. (elim (is_the_sign (codes ".") x) as (λ b. is_the_sign (codes ".") x ≡ b → Trap (a ∷ []) x ⊎ Alike (a ∷ []) x) [
    | true ↦ λ f. inl (subst (λ (y : Lexeme). Trap (y ∷ []) x) (sym (name_is a e)) (subst (λ (z : Lexeme). Trap (name_token a.line a.text ∷ []) z) (sym (sign_is (codes ".") x f)) (trap_point a.line x.line a.text)))
    | false ↦ λ f. inr (record { assignments = λ r s. refl; properties = λ r s. no_and_two (is_name a) (is_the_sign (codes ".") x) _ _ f; targets = λ r s. refl })
  ]) refl
  | false ↦ λ e. inr (record { assignments = λ r s. refl; properties = λ r s. no_and (is_name a) _ _ e; targets = λ r s. refl })
]) refl
looked (a ∷ b ∷ []) x = (elim (is_name a) as (λ c. is_name a ≡ c → Trap (a ∷ b ∷ []) x ⊎ Alike (a ∷ b ∷ []) x) [
  | true ↦ λ e. (elim (is_the_sign (codes ".") b) as (λ c. is_the_sign (codes ".") b ≡ c → Trap (a ∷ b ∷ []) x ⊎ Alike (a ∷ b ∷ []) x) [
    | true ↦ λ f. (elim (is_name x) as (λ c. is_name x ≡ c → Trap (a ∷ b ∷ []) x ⊎ Alike (a ∷ b ∷ []) x) [
      | true ↦ λ g. inl (subst (λ (y : Lexeme). Trap (y ∷ b ∷ []) x) (sym (name_is a e)) (subst (λ (y : Lexeme). Trap (name_token a.line a.text ∷ y ∷ []) x) (sym (sign_is (codes ".") b f))
          (subst (λ (z : Lexeme). Trap (name_token a.line a.text ∷ sign b.line (codes ".") ∷ []) z) (sym (name_is x g)) (trap_member a.line b.line x.line a.text x.text))))
      | false ↦ λ g. inr (record { assignments = λ r s. refl; properties = λ r s. no_and_three (is_name a) (is_the_sign (codes ".") b) (is_name x) _ _ g; targets = λ r s. refl })
    ]) refl
    | false ↦ λ f. inr (record { assignments = λ r s. refl; properties = λ r s. no_and_two (is_name a) (is_the_sign (codes ".") b) _ _ f; targets = λ r s. refl })
  ]) refl
  | false ↦ λ e. inr (record { assignments = λ r s. refl; properties = λ r s. no_and (is_name a) _ _ e; targets = λ r s. refl })
]) refl
looked (a ∷ b ∷ c ∷ []) x = inr (record { assignments = λ r s. refl; properties = λ r s. refl; targets = λ r s. refl })
looked (a ∷ b ∷ c ∷ d ∷ ts) x = inr (record { assignments = λ r s. refl; properties = λ r s. refl; targets = λ r s. refl })

-- ---- how each trap ends

any_name : Lexeme
any_name = name_token 1 []

abbrev an_expr : Lexeme
an_expr = name_token 1 []

told_name : {B : Type 0} (f : Tree → B) (l m : ℕ) → Told (IsExpr l) alone f m (an_expr ∷ []) (flagged (tree m l (name []) ∷ []) (f (tree m l (name [])))) (suc m)
told_name f l m = told m (suc m) _ _ _ (a_name_alone l m 1 []) refl

member_alone : (l m p q r : ℕ) (s t : List ℕ) → IsExpr l m (name_token p s ∷ sign q (codes ".") ∷ name_token r t ∷ []) (tree (suc m) l (member (tree m l (name s)) t)) (suc (suc m))
member_alone l m p q r s t = one_conj _ _ _ _ _ (one_cmp _ _ _ _ _ (one_sum _ _ _ _ _ (one_prod _ _ _ _ _ (one_pre _ _ _ _ _ (one_post _ _ _ _ _ (grammar_member l m (suc m) q r t (name_token p s ∷ []) _ (one_primary _ _ _ _ _ (a_name l m p s))))))))

bracket_alone : (l m p : ℕ) → IsExpr l m (sign p (codes "[") ∷ text_token 1 [] ∷ sign 1 (codes "]") ∷ []) (tree (suc m) l (list (and_tree (tree m l (text (text_value []))) no_trees))) (suc (suc m))
bracket_alone l m p = one_conj _ _ _ _ _ (one_cmp _ _ _ _ _ (one_sum _ _ _ _ _ (one_prod _ _ _ _ _ (one_pre _ _ _ _ _ (one_post _ _ _ _ _ (one_primary _ _ _ _ _ (a_list l m (suc (suc m)) _ _ (in_brackets l m (suc m) p 1 1 [] [] no_trees (no_more_texts l (suc m))))))))))

ends_assignment : (l m p : ℕ) (s : List ℕ) → Ends (AssignRule l) m (name_token p s ∷ [])
ends_assignment l m p s = record { rest = sign 1 (codes "=") ∷ an_expr ∷ []; value = _; next = suc m; holds = after_name m (suc m) p s _ _ (after m (suc m) 1 _ _ (told_name (assigned s) l m)) }

ends_property_name : (l m p : ℕ) (s : List ℕ) → Ends (PropertyRule l) m (name_token p s ∷ [])
ends_property_name l m p s = record {
  rest = sign 1 (codes ".") ∷ name_token 1 [] ∷ sign 1 (codes "=") ∷ an_expr ∷ [];
  value = _;
  next = suc m;
  holds = after_name m (suc m) p s _ _ (after m (suc m) 1 _ _ (after_name m (suc m) 1 [] _ _ (after m (suc m) 1 _ _ (told_name (property s []) l m))));
}

ends_property_point : (l m p q : ℕ) (s : List ℕ) → Ends (PropertyRule l) m (name_token p s ∷ sign q (codes ".") ∷ [])
ends_property_point l m p q s = record {
  rest = name_token 1 [] ∷ sign 1 (codes "=") ∷ an_expr ∷ [];
  value = _;
  next = suc m;
  holds = after_name m (suc m) p s _ _ (after m (suc m) q _ _ (after_name m (suc m) 1 [] _ _ (after m (suc m) 1 _ _ (told_name (property s []) l m))));
}

ends_property_member : (l m p q r : ℕ) (s t : List ℕ) → Ends (PropertyRule l) m (name_token p s ∷ sign q (codes ".") ∷ name_token r t ∷ [])
ends_property_member l m p q r s t = record {
  rest = sign 1 (codes "=") ∷ an_expr ∷ [];
  value = _;
  next = suc m;
  holds = after_name m (suc m) p s _ _ (after m (suc m) q _ _ (after_name m (suc m) r t _ _ (after m (suc m) 1 _ _ (told_name (property s t) l m))));
}

ends_targets : (l m p : ℕ) → Ends (TargetsRule l) m (sign p (codes "[") ∷ [])
ends_targets l m p = record {
  rest = name_token 1 [] ∷ sign 1 (codes "]") ∷ sign 1 (codes "=") ∷ name_token 1 (codes "gather") ∷ sign 1 (codes "(") ∷ sign 1 (codes ")") ∷ [];
  value = _;
  next = m;
  holds = after m m p _ _ (seq m m m (name_token 1 [] ∷ []) _ ([] ∷ []) _ (some_names m 1 [] [] [] no_more_names)
      (after m m 1 _ _ (after m m 1 _ _ (after m m 1 _ _ (after m m 1 _ _ (gather_args m m 1 [] no_args _ (without_args l m) refl))))));
}

ends_bare_name : (l m p : ℕ) (s : List ℕ) → Ends (BareRule l) m (name_token p s ∷ [])
ends_bare_name l m p s = record { rest = []; value = _; next = suc m; holds = told m (suc m) _ _ _ (a_name_alone l m p s) refl }

ends_bare_point : (l m p q : ℕ) (s : List ℕ) → Ends (BareRule l) m (name_token p s ∷ sign q (codes ".") ∷ [])
ends_bare_point l m p q s = record { rest = name_token 1 [] ∷ []; value = _; next = suc (suc m); holds = told m (suc (suc m)) _ _ _ (member_alone l m p q 1 s []) refl }

ends_bare_member : (l m p q r : ℕ) (s t : List ℕ) → Ends (BareRule l) m (name_token p s ∷ sign q (codes ".") ∷ name_token r t ∷ [])
ends_bare_member l m p q r s t = record { rest = []; value = _; next = suc (suc m); holds = told m (suc (suc m)) _ _ _ (member_alone l m p q r s t) refl }

ends_bare_bracket : (l m p : ℕ) → Ends (BareRule l) m (sign p (codes "[") ∷ [])
ends_bare_bracket l m p = record { rest = text_token 1 [] ∷ sign 1 (codes "]") ∷ []; value = _; next = suc (suc m); holds = told m (suc (suc m)) _ _ _ (bracket_alone l m p) refl }

module _ (k d l : ℕ) where
  ea : Exact (AssignRule l) goes_expr (assignment k d l)
  ea = exact_assignment k d l

  ep : Exact (PropertyRule l) goes_expr (property_setting k d l)
  ep = exact_property k d l

  et : Exact (TargetsRule l) nothing (gathering k d l)
  et = exact_targets k d l

  eb : Exact (BareRule l) goes_expr (bare_expression k d l)
  eb = exact_bare k d l

  trapped_stop : (ts : List Lexeme) (x : Lexeme) (r : List Lexeme) (m : ℕ) → Trap ts x → body k d l (input (ts ++ x ∷ r) m) ≡ Err (Stop (suc (length r))) → ⊥
  trapped_stop ts x r m (trap_name p s) h = by (begins_assignment (name_token p s ∷ r)) (begins_property (name_token p s ∷ r)) h where
    by : (a q : Bool) → pick a q false (assignment k d l (input (name_token p s ∷ r) m)) (property_setting k d l (input (name_token p s ∷ r) m)) (gathering k d l (input (name_token p s ∷ r) m)) (bare_expression k d l (input (name_token p s ∷ r) m)) ≡ Err (Stop (suc (length r))) → ⊥
    by true q h = eats_stop (assignment k d l) ea [] (name_token p s) r m (ends_assignment l m p s) h
    by false true h = eats_stop (property_setting k d l) ep [] (name_token p s) r m (ends_property_name l m p s) h
    by false false h = eats_stop (bare_expression k d l) eb [] (name_token p s) r m (ends_bare_name l m p s) h
  trapped_stop ts x r m (trap_bracket p) h = by (begins_targets (sign p (codes "[") ∷ r)) h where
    by : (g : Bool) → pick false false g (assignment k d l (input (sign p (codes "[") ∷ r) m)) (property_setting k d l (input (sign p (codes "[") ∷ r) m)) (gathering k d l (input (sign p (codes "[") ∷ r) m)) (bare_expression k d l (input (sign p (codes "[") ∷ r) m)) ≡ Err (Stop (suc (length r))) → ⊥
    by true h = eats_stop (gathering k d l) et [] (sign p (codes "[")) r m (ends_targets l m p) h
    by false h = eats_stop (bare_expression k d l) eb [] (sign p (codes "[")) r m (ends_bare_bracket l m p) h
  trapped_stop ts x r m (trap_point p q s) h = by (begins_property (name_token p s ∷ sign q (codes ".") ∷ r)) h where
    by : (g : Bool) → pick false g false (assignment k d l (input (name_token p s ∷ sign q (codes ".") ∷ r) m)) (property_setting k d l (input (name_token p s ∷ sign q (codes ".") ∷ r) m)) (gathering k d l (input (name_token p s ∷ sign q (codes ".") ∷ r) m)) (bare_expression k d l (input (name_token p s ∷ sign q (codes ".") ∷ r) m)) ≡ Err (Stop (suc (length r))) → ⊥
    by true h = eats_stop (property_setting k d l) ep (name_token p s ∷ []) (sign q (codes ".")) r m (ends_property_point l m p q s) h
    by false h = eats_stop (bare_expression k d l) eb (name_token p s ∷ []) (sign q (codes ".")) r m (ends_bare_point l m p q s) h
  trapped_stop ts x r m (trap_member p q v s t) h = by (begins_property (name_token p s ∷ sign q (codes ".") ∷ name_token v t ∷ r)) h where
    by : (g : Bool) → pick false g false (assignment k d l (input (name_token p s ∷ sign q (codes ".") ∷ name_token v t ∷ r) m)) (property_setting k d l (input (name_token p s ∷ sign q (codes ".") ∷ name_token v t ∷ r) m)) (gathering k d l (input (name_token p s ∷ sign q (codes ".") ∷ name_token v t ∷ r) m)) (bare_expression k d l (input (name_token p s ∷ sign q (codes ".") ∷ name_token v t ∷ r) m)) ≡ Err (Stop (suc (length r))) → ⊥
    by true h = eats_stop (property_setting k d l) ep (name_token p s ∷ sign q (codes ".") ∷ []) (name_token v t) r m (ends_property_member l m p q v s t) h
    by false h = eats_stop (bare_expression k d l) eb (name_token p s ∷ sign q (codes ".") ∷ []) (name_token v t) r m (ends_bare_member l m p q v s t) h

  trapped_read : (ts us : List Lexeme) (x : Lexeme) (r : List Lexeme) (m n : ℕ) (b : Flagged Body) → Trap ts x → body k d l (input (ts ++ x ∷ r) m) ≡ Ok (b, input (us ++ x ∷ r) n) → ⊥
  trapped_read ts us x r m n b (trap_name p s) h = by (begins_assignment (name_token p s ∷ r)) (begins_property (name_token p s ∷ r)) h where
    by : (a q : Bool) → pick a q false (assignment k d l (input (name_token p s ∷ r) m)) (property_setting k d l (input (name_token p s ∷ r) m)) (gathering k d l (input (name_token p s ∷ r) m)) (bare_expression k d l (input (name_token p s ∷ r) m)) ≡ Ok (b, input (us ++ name_token p s ∷ r) n) → ⊥
    by true q h = eats_read (assignment k d l) ea [] us (name_token p s) r m n b (ends_assignment l m p s) h
    by false true h = eats_read (property_setting k d l) ep [] us (name_token p s) r m n b (ends_property_name l m p s) h
    by false false h = eats_read (bare_expression k d l) eb [] us (name_token p s) r m n b (ends_bare_name l m p s) h
  trapped_read ts us x r m n b (trap_bracket p) h = by (begins_targets (sign p (codes "[") ∷ r)) h where
    by : (g : Bool) → pick false false g (assignment k d l (input (sign p (codes "[") ∷ r) m)) (property_setting k d l (input (sign p (codes "[") ∷ r) m)) (gathering k d l (input (sign p (codes "[") ∷ r) m)) (bare_expression k d l (input (sign p (codes "[") ∷ r) m)) ≡ Ok (b, input (us ++ sign p (codes "[") ∷ r) n) → ⊥
    by true h = eats_read (gathering k d l) et [] us (sign p (codes "[")) r m n b (ends_targets l m p) h
    by false h = eats_read (bare_expression k d l) eb [] us (sign p (codes "[")) r m n b (ends_bare_bracket l m p) h
  trapped_read ts us x r m n b (trap_point p q s) h = by (begins_property (name_token p s ∷ sign q (codes ".") ∷ r)) h where
    by : (g : Bool) → pick false g false (assignment k d l (input (name_token p s ∷ sign q (codes ".") ∷ r) m)) (property_setting k d l (input (name_token p s ∷ sign q (codes ".") ∷ r) m)) (gathering k d l (input (name_token p s ∷ sign q (codes ".") ∷ r) m)) (bare_expression k d l (input (name_token p s ∷ sign q (codes ".") ∷ r) m)) ≡ Ok (b, input (us ++ sign q (codes ".") ∷ r) n) → ⊥
    by true h = eats_read (property_setting k d l) ep (name_token p s ∷ []) us (sign q (codes ".")) r m n b (ends_property_point l m p q s) h
    by false h = eats_read (bare_expression k d l) eb (name_token p s ∷ []) us (sign q (codes ".")) r m n b (ends_bare_point l m p q s) h
  trapped_read ts us x r m n b (trap_member p q v s t) h = by (begins_property (name_token p s ∷ sign q (codes ".") ∷ name_token v t ∷ r)) h where
    by : (g : Bool) → pick false g false (assignment k d l (input (name_token p s ∷ sign q (codes ".") ∷ name_token v t ∷ r) m)) (property_setting k d l (input (name_token p s ∷ sign q (codes ".") ∷ name_token v t ∷ r) m)) (gathering k d l (input (name_token p s ∷ sign q (codes ".") ∷ name_token v t ∷ r) m)) (bare_expression k d l (input (name_token p s ∷ sign q (codes ".") ∷ name_token v t ∷ r) m)) ≡ Ok (b, input (us ++ name_token v t ∷ r) n) → ⊥
    by true h = eats_read (property_setting k d l) ep (name_token p s ∷ sign q (codes ".") ∷ []) us (name_token v t) r m n b (ends_property_member l m p q v s t) h
    by false h = eats_read (bare_expression k d l) eb (name_token p s ∷ sign q (codes ".") ∷ []) us (name_token v t) r m n b (ends_bare_member l m p q v s t) h

  -- ---- each branch

  abbrev at_input : Bool → Bool → Bool → Input → Outcome (Flagged Body)
  at_input a p g i = pick a p g (assignment k d l i) (property_setting k d l i) (gathering k d l i) (bare_expression k d l i)

  by_took : (a p g : Bool) (ts : List Lexeme) (m : ℕ) (b : Flagged Body) (j : Input) → at_input a p g (input ts m) ≡ Ok (b, j) → Took ts j.rest
  by_took true p g ts m b j h = ea.steady.took ts m b j h
  by_took false true g ts m b j h = ep.steady.took ts m b j h
  by_took false false true ts m b j h = et.steady.took ts m b j h
  by_took false false false ts m b j h = eb.steady.took ts m b j h

  by_left : (a p g : Bool) (ts : List Lexeme) (m n : ℕ) → at_input a p g (input ts m) ≡ Err (Stop n) → Left ts n
  by_left true p g ts m n h = ea.steady.left ts m n h
  by_left false true g ts m n h = ep.steady.left ts m n h
  by_left false false true ts m n h = et.steady.left ts m n h
  by_left false false false ts m n h = eb.steady.left ts m n h

  by_read : (a p g : Bool) (ts us : List Lexeme) (x : Lexeme) (r s : List Lexeme) (m n : ℕ) (b : Flagged Body) → at_input a p g (input (ts ++ x ∷ r) m) ≡ Ok (b, input (us ++ x ∷ r) n)
      → at_input a p g (input (ts ++ x ∷ s) m) ≡ Ok (b, input (us ++ x ∷ s) n)
  by_read true p g ts us x r s m n b h = ea.steady.same_read ts us x r s m n b h
  by_read false true g ts us x r s m n b h = ep.steady.same_read ts us x r s m n b h
  by_read false false true ts us x r s m n b h = et.steady.same_read ts us x r s m n b h
  by_read false false false ts us x r s m n b h = eb.steady.same_read ts us x r s m n b h

  by_stop : (a p g : Bool) (ts : List Lexeme) (x : Lexeme) (r s : List Lexeme) (m : ℕ) → at_input a p g (input (ts ++ x ∷ r) m) ≡ Err (Stop (suc (length r)))
      → at_input a p g (input (ts ++ x ∷ s) m) ≡ Err (Stop (suc (length s)))
  by_stop true p g ts x r s m h = ea.steady.same_stop ts x r s m h
  by_stop false true g ts x r s m h = ep.steady.same_stop ts x r s m h
  by_stop false false true ts x r s m h = et.steady.same_stop ts x r s m h
  by_stop false false false ts x r s m h = eb.steady.same_stop ts x r s m h

  same_tests : (ts : List Lexeme) (x : Lexeme) (r s : List Lexeme) (i : Input) → Alike ts x
      → at_input (begins_assignment (ts ++ x ∷ r)) (begins_property (ts ++ x ∷ r)) (begins_targets (ts ++ x ∷ r)) i ≡ at_input (begins_assignment (ts ++ x ∷ s)) (begins_property (ts ++ x ∷ s)) (begins_targets (ts ++ x ∷ s)) i
  same_tests ts x r s i u =
      ap (λ a. at_input a (begins_property (ts ++ x ∷ r)) (begins_targets (ts ++ x ∷ r)) i) (u.assignments r s)
      ∙ (ap (λ p. at_input (begins_assignment (ts ++ x ∷ s)) p (begins_targets (ts ++ x ∷ r)) i) (u.properties r s)
      ∙ ap (λ g. at_input (begins_assignment (ts ++ x ∷ s)) (begins_property (ts ++ x ∷ s)) g i) (u.targets r s))

  steady_body : Steady (body k d l)
  steady_body = record {
    took = λ ts m b j h. by_took (begins_assignment ts) (begins_property ts) (begins_targets ts) ts m b j h;
    left = λ ts m n h. by_left (begins_assignment ts) (begins_property ts) (begins_targets ts) ts m n h;
    same_read = λ ts us x r s m n b h. ⊎_elim (λ t. absurd (trapped_read ts us x r m n b t h)) (λ u.
        sym (same_tests ts x r s (input (ts ++ x ∷ s) m) u) ∙ by_read (begins_assignment (ts ++ x ∷ r)) (begins_property (ts ++ x ∷ r)) (begins_targets (ts ++ x ∷ r)) ts us x r s m n b h) (looked ts x);
    same_stop = λ ts x r s m h. ⊎_elim (λ t. absurd (trapped_stop ts x r m t h)) (λ u.
        sym (same_tests ts x r s (input (ts ++ x ∷ s) m) u) ∙ by_stop (begins_assignment (ts ++ x ∷ r)) (begins_property (ts ++ x ∷ r)) (begins_targets (ts ++ x ∷ r)) ts x r s m h) (looked ts x);
  }

  by_sound : (a p g : Bool) (ts : List Lexeme) (m : ℕ) (b : Flagged Body) (j : Input) → at_input a p g (input ts m) ≡ Ok (b, j) → Holds (RawBody l) m ts b j
  by_sound true p g ts m b j h = let u = ea.sound ts m b j h in record { taken = u.taken; text = u.text; holds = raw_assignment _ _ _ _ u.holds }
  by_sound false true g ts m b j h = let u = ep.sound ts m b j h in record { taken = u.taken; text = u.text; holds = raw_property _ _ _ _ u.holds }
  by_sound false false true ts m b j h = let u = et.sound ts m b j h in record { taken = u.taken; text = u.text; holds = raw_targets _ _ _ _ u.holds }
  by_sound false false false ts m b j h = let u = eb.sound ts m b j h in record { taken = u.taken; text = u.text; holds = raw_bare _ _ _ _ u.holds }

  by_viable : (a p g : Bool) (ts : List Lexeme) (m n : ℕ) → at_input a p g (input ts m) ≡ Err (Stop n) → Begun (RawBody l) m ts n
  by_viable true p g ts m n h = let u = ea.viable ts m n h in record { taken = u.taken; left = u.left; text = u.text; count = u.count; more = u.more; value = u.value; next = u.next; holds = raw_assignment _ _ _ _ u.holds }
  by_viable false true g ts m n h = let u = ep.viable ts m n h in record { taken = u.taken; left = u.left; text = u.text; count = u.count; more = u.more; value = u.value; next = u.next; holds = raw_property _ _ _ _ u.holds }
  by_viable false false true ts m n h = let u = et.viable ts m n h in record { taken = u.taken; left = u.left; text = u.text; count = u.count; more = u.more; value = u.value; next = u.next; holds = raw_targets _ _ _ _ u.holds }
  by_viable false false false ts m n h = let u = eb.viable ts m n h in record { taken = u.taken; left = u.left; text = u.text; count = u.count; more = u.more; value = u.value; next = u.next; holds = raw_bare _ _ _ _ u.holds }

  goes_parts : (rest : List Lexeme) → front_is goes_body rest ≡ false → (front_is goes_expr rest ≡ false) × (front_is is_equals rest ≡ false)
  goes_parts [] h = (refl, refl)
  goes_parts (t ∷ ts) h = both (goes_expr t) (is_equals t) h where
    both : (a b : Bool) → (a || b) ≡ false → (a ≡ false) × (b ≡ false)
    both true b h = absurd (true≢false h)
    both false b h = (refl, h)

-- ---- an expression begins none of the other forms

record Front (test : Lexeme → Bool) (ts : List Lexeme) : Type 0 where
  token : Lexeme
  others : List Lexeme
  text : ts ≡ token ∷ others
  passes : test token ≡ true

front : (test : Lexeme → Bool) (ts : List Lexeme) → front_is test ts ≡ true → Front test ts
front test [] h = absurd (true≢false (sym h))
front test (t ∷ ts) h = record { token = t; others = ts; text = refl; passes = h }

reads_name : (l m p q : ℕ) (s : List ℕ) (us : List Lexeme) → expr_within 3 1 l (input (name_token p s ∷ sign q (codes "=") ∷ us) m) ≡ Ok (leaf (name s) l m, input (sign q (codes "=") ∷ us) (suc m))
unfolding expr_within level chain_from post_from signs_from signed
reads_name l m p q s us = refl

reads_member : (l m p q r v : ℕ) (s t : List ℕ) (us : List Lexeme)
    → expr_within 3 1 l (input (name_token p s ∷ sign q (codes ".") ∷ name_token r t ∷ sign v (codes "=") ∷ us) m) ≡ Ok (member_of (leaf (name s) l m) t l (suc m), input (sign v (codes "=") ∷ us) (suc (suc m)))
unfolding expr_within level chain_from post_from signs_from signed
reads_member l m p q r v s t us = refl

reads_bracket : (l m p q : ℕ) (s : List ℕ) (us : List Lexeme) → expr_within 3 1 l (input (sign p (codes "[") ∷ name_token q s ∷ us) m) ≡ Err (Stop (suc (length us)))
unfolding expr_within level chain_from post_from signs_from signed listed_from
reads_bracket l m p q s us = refl

no_assignment : (l m : ℕ) (ts : List Lexeme) (e : Tree) (n : ℕ) (rest : List Lexeme) → IsExpr l m ts e n → front_is goes_expr rest ≡ false → front_is is_equals rest ≡ false → begins_assignment (ts ++ rest) ≡ false
no_assignment l m ts e n rest r g h = by (begins_assignment (ts ++ rest)) refl where
  by : (b : Bool) → begins_assignment (ts ++ rest) ≡ b → b ≡ false
  by false e1 = refl
  by true e1 =
      let p = and_parts (front_is is_name (ts ++ rest)) _ e1 in
      let u = front is_name (ts ++ rest) p.0 in
      let v = front is_equals u.others (ap (λ w. front_is is_equals (all_but_front w)) (sym u.text) ∙ (and_parts (front_is is_equals (all_but_front (ts ++ rest))) true p.1).0) in
      let w : ts ++ rest ≡ name_token u.token.line u.token.text ∷ sign v.token.line (codes "=") ∷ v.others =
      u.text ∙ (ap (λ z. z ∷ u.others) (name_is u.token u.passes) ∙ ap (λ z. name_token u.token.line u.token.text ∷ z) (v.text ∙ ap (λ z. z ∷ v.others) (sign_is (codes "=") v.token v.passes))) in
      let o : expr_within 3 1 l (input (ts ++ rest) m) ≡ Ok (leaf (name u.token.text) l m, input (sign v.token.line (codes "=") ∷ v.others) (suc m)) =
      ap (λ z. expr_within 3 1 l (input z m)) w ∙ reads_name l m u.token.line v.token.line u.token.text v.others in
      let q : (leaf (name u.token.text) l m, input (sign v.token.line (codes "=") ∷ v.others) (suc m)) ≡ (kept e, input rest n) =
      subst (λ (x : _). IsRead x (kept e) (input rest n)) o ((exact_expr 3 1 l).whole ts m (kept e) n rest (held m n ts e r) g) in
      absurd (true≢false (ap (λ z. front_is is_equals z.1.rest) q ∙ h))

no_property : (l m : ℕ) (ts : List Lexeme) (e : Tree) (n : ℕ) (rest : List Lexeme) → IsExpr l m ts e n → front_is goes_expr rest ≡ false → front_is is_equals rest ≡ false → begins_property (ts ++ rest) ≡ false
no_property l m ts e n rest r g h = by (begins_property (ts ++ rest)) refl where
  by : (b : Bool) → begins_property (ts ++ rest) ≡ b → b ≡ false
  by false e1 = refl
  by true e1 =
      let p = and_parts (front_is is_name (ts ++ rest)) _ e1 in
      let u = front is_name (ts ++ rest) p.0 in
      let p1 = and_parts (front_is (is_the_sign (codes ".")) (all_but_front (ts ++ rest))) _ p.1 in
      let v = front (is_the_sign (codes ".")) u.others (ap (λ w. front_is (is_the_sign (codes ".")) (all_but_front w)) (sym u.text) ∙ p1.0) in
      let p2 = and_parts (front_is is_name (all_but_front (all_but_front (ts ++ rest)))) _ p1.1 in
      let a1 : all_but_front (all_but_front (ts ++ rest)) ≡ v.others = ap (λ w. all_but_front (all_but_front w)) u.text ∙ ap all_but_front v.text in
      let x = front is_name v.others (ap (front_is is_name) (sym a1) ∙ p2.0) in
      let p3 = and_parts (front_is is_equals (all_but_front (all_but_front (all_but_front (ts ++ rest))))) _ p2.1 in
      let a2 : all_but_front (all_but_front (all_but_front (ts ++ rest))) ≡ x.others = ap all_but_front a1 ∙ ap all_but_front x.text in
      let y = front is_equals x.others (ap (front_is is_equals) (sym a2) ∙ p3.0) in
      let w : ts ++ rest ≡ name_token u.token.line u.token.text ∷ sign v.token.line (codes ".") ∷ name_token x.token.line x.token.text ∷ sign y.token.line (codes "=") ∷ y.others =
      u.text ∙ (ap (λ z. z ∷ u.others) (name_is u.token u.passes) ∙ ap (λ z. name_token u.token.line u.token.text ∷ z) (v.text ∙ (ap (λ z. z ∷ v.others) (sign_is (codes ".") v.token v.passes)
      ∙ ap (λ z. sign v.token.line (codes ".") ∷ z) (x.text ∙ (ap (λ z. z ∷ x.others) (name_is x.token x.passes) ∙ ap (λ z. name_token x.token.line x.token.text ∷ z) (y.text ∙ ap (λ z. z ∷ y.others) (sign_is (codes "=") y.token y.passes))))))) in
      let o : expr_within 3 1 l (input (ts ++ rest) m) ≡ Ok (member_of (leaf (name u.token.text) l m) x.token.text l (suc m), input (sign y.token.line (codes "=") ∷ y.others) (suc (suc m))) =
      ap (λ z. expr_within 3 1 l (input z m)) w ∙ reads_member l m u.token.line v.token.line x.token.line y.token.line u.token.text x.token.text y.others in
      let q : (member_of (leaf (name u.token.text) l m) x.token.text l (suc m), input (sign y.token.line (codes "=") ∷ y.others) (suc (suc m))) ≡ (kept e, input rest n) =
      subst (λ (x : _). IsRead x (kept e) (input rest n)) o ((exact_expr 3 1 l).whole ts m (kept e) n rest (held m n ts e r) g) in
      absurd (true≢false (ap (λ z. front_is is_equals z.1.rest) q ∙ h))

no_targets : (l m : ℕ) (ts : List Lexeme) (e : Tree) (n : ℕ) (rest : List Lexeme) → IsExpr l m ts e n → front_is goes_expr rest ≡ false → begins_targets (ts ++ rest) ≡ false
no_targets l m ts e n rest r g = by (begins_targets (ts ++ rest)) refl where
  by : (b : Bool) → begins_targets (ts ++ rest) ≡ b → b ≡ false
  by false e1 = refl
  by true e1 =
      let p = and_parts (front_is (is_the_sign (codes "[")) (ts ++ rest)) _ e1 in
      let u = front (is_the_sign (codes "[")) (ts ++ rest) p.0 in
      let v = front is_name u.others (ap (λ w. front_is is_name (all_but_front w)) (sym u.text) ∙ (and_parts (front_is is_name (all_but_front (ts ++ rest))) true p.1).0) in
      let w : ts ++ rest ≡ sign u.token.line (codes "[") ∷ name_token v.token.line v.token.text ∷ v.others =
      u.text ∙ (ap (λ z. z ∷ u.others) (sign_is (codes "[") u.token u.passes) ∙ ap (λ z. sign u.token.line (codes "[") ∷ z) (v.text ∙ ap (λ z. z ∷ v.others) (name_is v.token v.passes))) in
      let o : expr_within 3 1 l (input (ts ++ rest) m) ≡ Err (Stop (suc (length v.others))) =
      ap (λ z. expr_within 3 1 l (input z m)) w ∙ reads_bracket l m u.token.line v.token.line v.token.text v.others in
      absurd (subst (λ (x : _). IsRead x (kept e) (input rest n)) o ((exact_expr 3 1 l).whole ts m (kept e) n rest (held m n ts e r) g))

last_of : {X : Type 0} (a p g : Bool) (w x y z : X) → a ≡ false → p ≡ false → g ≡ false → pick a p g w x y z ≡ z
last_of true p g w x y z e f h = absurd (true≢false e)
last_of false true g w x y z e f h = absurd (true≢false f)
last_of false false true w x y z e f h = absurd (true≢false h)
last_of false false false w x y z e f h = refl

body_whole : (k d l : ℕ) (ts : List Lexeme) (m : ℕ) (b : Flagged Body) (n : ℕ) (rest : List Lexeme) → RawBody l m ts b n → front_is goes_body rest ≡ false → IsRead (body k d l (input (ts ++ rest) m)) b (input rest n)
body_whole k d l ts m b n rest (raw_assignment m1 n1 ts1 b1 (after_name m2 n2 p s ts2 b2 (after m3 n3 q ts3 b3 r))) h =
    (exact_assignment k d l).whole (name_token p s ∷ sign q (codes "=") ∷ ts3) m3 b3 n3 rest (after_name m3 n3 p s _ b3 (after m3 n3 q ts3 b3 r)) (goes_parts k d l rest h).0
body_whole k d l ts m b n rest (raw_property m1 n1 ts1 b1 (after_name m2 n2 p s ts2 b2 (after m3 n3 q ts3 b3 (after_name m4 n4 u t ts4 b4 (after m5 n5 v ts5 b5 r))))) h =
    (exact_property k d l).whole (name_token p s ∷ sign q (codes ".") ∷ name_token u t ∷ sign v (codes "=") ∷ ts5) m5 b5 n5 rest (after_name m5 n5 p s _ b5 (after m5 n5 q _ b5 (after_name m5 n5 u t _ b5 (after m5 n5 v ts5 b5 r)))) (goes_parts k d l rest h).0
body_whole k d l ts m b n rest (raw_targets m1 n1 ts1 b1 (after m2 n2 p ts2 b2 (seq m3 k3 n3 ts3 us3 ss b3 (some_names m4 q s ts4 ss4 a) r))) h =
    (exact_targets k d l).whole (sign p (codes "[") ∷ name_token q s ∷ (ts4 ++ us3)) m4 b3 n3 rest (after m4 n3 p _ b3 (seq m4 m4 n3 (name_token q s ∷ ts4) us3 (s ∷ ss4) b3 (some_names m4 q s ts4 ss4 a) r)) (none_of_nothing rest)
body_whole k d l ts m b n rest (raw_bare m1 n1 ts1 b1 (told m2 n2 ts2 e b2 r q)) h =
    let g = goes_parts k d l rest h in
    read_as _ _ b2 (input rest n2) (last_of (begins_assignment (ts2 ++ rest)) (begins_property (ts2 ++ rest)) (begins_targets (ts2 ++ rest)) _ _ _ _
    (no_assignment l m2 ts2 e n2 rest r g.0 g.1) (no_property l m2 ts2 e n2 rest r g.0 g.1) (no_targets l m2 ts2 e n2 rest r g.0))
    ((exact_bare k d l).whole ts2 m2 b2 n2 rest (told m2 n2 ts2 e b2 r q) g.0)

pub exact_body : (k d l : ℕ) → Exact (RawBody l) goes_body (body k d l)
exact_body k d l = record {
  live = λ m. record { tokens = an_expr ∷ []; value = _; next = suc m; holds = raw_bare _ _ _ _ (told_name bare l m) };
  steady = steady_body k d l;
  sound = λ ts m b j h. by_sound k d l (begins_assignment ts) (begins_property ts) (begins_targets ts) ts m b j h;
  viable = λ ts m n h. by_viable k d l (begins_assignment ts) (begins_property ts) (begins_targets ts) ts m n h;
  whole = body_whole k d l;
}
