-- The four forms of a statement are read exactly.
use Rattle.std.proofs.Common.{◌≡◌, ℕ, true, false, List, [], ◌∷◌, ◌++◌, Option, refl, sym, ap, ◌∙◌, subst}
use Rattle.std.proofs.lemmas.List.{append-nil}
use Rattle.std.specs.Prelude.{codes}
use Rattle.tall_grammar.specs.Lexemes.{Lexeme, sign, name_token, is_the_sign}
use Rattle.tall_grammar.specs.Trees.{Tree, Args, Body, assigned, gathered, property, bare}
use Rattle.tall_grammar.specs.Views.{args_of}
use Rattle.tall_grammar.specs.Refusals.{args_trees}
use Rattle.tall_grammar.specs.Grammar.{IsComma, AreNames, no_more_names, more_names, IsExpr, AreArgs}
use Rattle.tall_grammar.specs.Kept.{Kept, kept_args, options_of, Flagged, flagged, settled, with_it}
use Rattle.tall_grammar.specs.Readers.{◌>>=◌, pure, front_is, expect_sign, take_text, text_if, is_name, goes_on_with, listed, listed_from}
use Rattle.tall_grammar.specs.ExprReader.{expr_within, closed_args}
use Rattle.tall_grammar.specs.ScriptReader.{expr_on, names, assignment, property_setting, gathering, bare_expression}
use Rattle.tall_grammar.proofs.Exact.{Rule, Exact}
use Rattle.tall_grammar.proofs.Combine.{IsPure, is_pure, IsTaken, is_taken, Seq, seq, exact_as, exact_pure, exact_bind, exact_take}
use Rattle.tall_grammar.proofs.Signs.{name_is, text_if_is}
use Rattle.tall_grammar.proofs.Lists.{nothing, none_of_nothing, Starts, Listed, no_more, one_more, ListedFrom, listed_so, exact_listed}
use Rattle.tall_grammar.proofs.Arguments.{ClosedArgs, closed_rule, exact_closed_args}
use Rattle.tall_grammar.proofs.Levels.{goes_expr, exact_expr}
use Rattle.tall_grammar.proofs.KeptLemmas.{options_back}
use Rattle.tall_grammar.proofs.Flags.{settled_args, flagged_it}
use Rattle.tall_grammar.proofs.Tokens.{After, after, a_sign, the_name, AfterName, exact_sign_then, exact_the_name_then, exact_name_then, Told, alone, exact_expr_on, exact_made}

-- ---- name { [','] name }

pub data NameItem : ℕ → List Lexeme → List ℕ → ℕ → Type 0 where
  name_item : (m p : ℕ) (s : List ℕ) → NameItem m (name_token p s ∷ []) s m

exact_name_item : Exact NameItem nothing (take_text is_name)
exact_name_item = exact_as (IsTaken (text_if is_name)) NameItem (exact_take nothing (text_if is_name) (name_token 1 []) [] refl) there back where
  there : (m : ℕ) (ts : List Lexeme) (s : List ℕ) (n : ℕ) → IsTaken (text_if is_name) m ts s n → NameItem m ts s n
  there m ts s n (is_taken m1 t s1 h) =
      let p = text_if_is is_name t s1 h in
      subst (λ (x : Lexeme). NameItem m1 (x ∷ []) s1 m1) (sym (name_is t p.0 ∙ ap (λ (z : List ℕ). name_token t.line z) p.1)) (name_item m1 t.line s1)

  back : (m : ℕ) (ts : List Lexeme) (s : List ℕ) (n : ℕ) → NameItem m ts s n → IsTaken (text_if is_name) m ts s n
  back m ts s n (name_item m1 p s1) = is_taken m1 (name_token p s1) s1 refl

pub data NamesAre : ℕ → List Lexeme → List (List ℕ) → ℕ → Type 0 where
  names_are : (m : ℕ) (ts : List Lexeme) (ss : List (List ℕ)) → AreNames ts ss → NamesAre m ts ss m

names_there : (m : ℕ) (ts : List Lexeme) (ss : List (List ℕ)) (n : ℕ) → Listed NameItem m ts ss n → NamesAre m ts ss n
names_there m ts ss n (no_more m1) = names_are m1 [] [] no_more_names
names_there m all ss n (one_more m1 k1 n1 cs ts us s bs c (name_item m2 p s1) r) = add m2 p s1 cs us bs n1 c (names_there m2 us bs n1 r) where
  add : (m p : ℕ) (s : List ℕ) (cs us : List Lexeme) (bs : List (List ℕ)) (n : ℕ) → IsComma cs → NamesAre m us bs n → NamesAre m (cs ++ name_token p s ∷ us) (s ∷ bs) n
  add m p s cs us bs n c (names_are m3 us3 ss3 a) = names_are m3 _ _ (more_names p s cs us3 ss3 c a)

names_back : (m : ℕ) (ts : List Lexeme) (ss : List (List ℕ)) → AreNames ts ss → Listed NameItem m ts ss m
names_back m ts ss no_more_names = no_more m
names_back m all ss (more_names p s cs ts ss1 c r) = one_more m m m cs (name_token p s ∷ []) ts s ss1 c (name_item m p s) (names_back m ts ss1 r)

pub data SomeNames : ℕ → List Lexeme → List (List ℕ) → ℕ → Type 0 where
  some_names : (m p : ℕ) (s : List ℕ) (ts : List Lexeme) (ss : List (List ℕ)) → AreNames ts ss → SomeNames m (name_token p s ∷ ts) (s ∷ ss) m

exact_names : (k : ℕ) → Exact SomeNames (goes_on_with is_name) (listed is_name (take_text is_name) k)
exact_names k =
    exact_as (Seq NameItem (λ s. ListedFrom NameItem (s ∷ []))) SomeNames
    (exact_bind (take_text is_name) (λ s. listed_from is_name (take_text is_name) k (s ∷ [])) exact_name_item
    (λ s. exact_listed is_name (take_text is_name) exact_name_item starts apart k (s ∷ [])) (λ a k us b n rest r h. none_of_nothing (us ++ rest))) there back where
      starts : (m : ℕ) (ts : List Lexeme) (a : List ℕ) (n : ℕ) → NameItem m ts a n → Starts is_name ts
      starts m ts a n (name_item m1 p s) = record { token = name_token p s; others = []; text = refl; passes = refl }

      apart : (t : Lexeme) → is_name t ≡ true → is_the_sign (codes ",") t ≡ false
      apart t h = ap (is_the_sign (codes ",")) (name_is t h)

      there : (m : ℕ) (ts : List Lexeme) (ss : List (List ℕ)) (n : ℕ) → Seq NameItem (λ s. ListedFrom NameItem (s ∷ [])) m ts ss n → SomeNames m ts ss n
      there m all ss n (seq m1 k1 n1 ts us s ss1 (name_item m2 p s2) (listed_so m3 n3 ts3 bs r)) = close m3 p s2 ts3 bs n3 (names_there m3 ts3 bs n3 r) where
        close : (m p : ℕ) (s : List ℕ) (ts : List Lexeme) (bs : List (List ℕ)) (n : ℕ) → NamesAre m ts bs n → SomeNames m (name_token p s ∷ ts) (s ∷ bs) n
        close m p s ts bs n (names_are m4 ts4 ss4 a) = some_names m4 p s ts4 ss4 a

      back : (m : ℕ) (ts : List Lexeme) (ss : List (List ℕ)) (n : ℕ) → SomeNames m ts ss n → Seq NameItem (λ s. ListedFrom NameItem (s ∷ [])) m ts ss n
      back m ts ss n (some_names m1 p s ts1 ss1 a) = seq m1 m1 m1 (name_token p s ∷ []) ts1 s (s ∷ ss1) (name_item m1 p s) (listed_so m1 m1 ts1 ss1 (names_back m1 ts1 ss1 a))

-- ---- the forms

abbrev pub AssignRule : ℕ → Rule (Flagged Body)
AssignRule l = AfterName (λ s. After (a_sign (codes "=")) (Told (IsExpr l) alone (λ e. assigned s e)))

abbrev pub PropertyRule : ℕ → Rule (Flagged Body)
PropertyRule l = AfterName (λ s. After (a_sign (codes ".")) (AfterName (λ t. After (a_sign (codes "=")) (Told (IsExpr l) alone (λ e. property s t e)))))

abbrev pub BareRule : ℕ → Rule (Flagged Body)
BareRule l = Told (IsExpr l) alone (λ e. bare e)

-- args and the parenthesis behind them, for these names
pub data GatherArgs (l : ℕ) (ss : List (List ℕ)) : ℕ → List Lexeme → Flagged Body → ℕ → Type 0 where
  gather_args : (m n p : ℕ) (ts : List Lexeme) (args : Args) (b : Flagged Body) → AreArgs l m ts args n → b ≡ flagged (args_trees args) (gathered ss args)
      → GatherArgs l ss m (ts ++ sign p (codes ")") ∷ []) b n

abbrev pub TargetsRest : ℕ → List (List ℕ) → Rule (Flagged Body)
TargetsRest l ss = After (a_sign (codes "]")) (After (a_sign (codes "=")) (After (the_name (codes "gather")) (After (a_sign (codes "(")) (GatherArgs l ss))))

abbrev pub TargetsRule : ℕ → Rule (Flagged Body)
TargetsRule l = After (a_sign (codes "[")) (Seq SomeNames (λ ss. TargetsRest l ss))

module _ (k d : ℕ) where
  pub exact_assignment : (l : ℕ) → Exact (AssignRule l) goes_expr (assignment k d l)
  exact_assignment l =
      exact_name_then (λ s. expect_sign (codes "=") >>= (λ _. expr_on k d l >>= (λ e. pure (with_it (assigned s) e))))
      (λ s. exact_sign_then (codes "=") (expr_on k d l >>= (λ e. pure (with_it (assigned s) e))) (λ l. refl) (exact_made (assigned s) (expr_on k d l) (exact_expr_on k d l)))

  pub exact_property : (l : ℕ) → Exact (PropertyRule l) goes_expr (property_setting k d l)
  exact_property l =
      exact_name_then _ (λ s. exact_sign_then (codes ".") _ (λ l. refl) (exact_name_then _ (λ t. exact_sign_then (codes "=") (expr_on k d l >>= (λ e. pure (with_it (property s t) e))) (λ l. refl)
      (exact_made (property s t) (expr_on k d l) (exact_expr_on k d l)))))

  pub exact_bare : (l : ℕ) → Exact (BareRule l) goes_expr (bare_expression k d l)
  exact_bare l = exact_made bare (expr_on k d l) (exact_expr_on k d l)

  abbrev Closed : (l : ℕ) → Rule (Kept (List (Option Tree)))
  Closed l = ClosedArgs (expr_within k d) k goes_expr (λ l. exact_expr k d l) (λ p. refl) (λ p. refl) l

  abbrev made_args : (l : ℕ) (ss : List (List ℕ)) → Kept (List (Option Tree)) → Flagged Body
  made_args l ss args = with_it (λ xs. gathered ss (args_of xs)) (settled l args)

  made_is : (l : ℕ) (ss : List (List ℕ)) (m : ℕ) (ts : List Lexeme) (args : Args) (n : ℕ) → AreArgs l m ts args n → made_args l ss (kept_args args) ≡ flagged (args_trees args) (gathered ss args)
  made_is l ss m ts args n r =
      ap (with_it (λ xs. gathered ss (args_of xs))) (settled_args l m ts args n r)
      ∙ (flagged_it (λ xs. gathered ss (args_of xs)) (args_trees args) (options_of args) ∙ ap (λ z. flagged (args_trees args) (gathered ss z)) (options_back args))

  exact_gather_args : (l : ℕ) (ss : List (List ℕ)) → Exact (GatherArgs l ss) nothing (closed_args (expr_within k d) k l >>= (λ args. pure (made_args l ss args)))
  exact_gather_args l ss =
      exact_as (Seq (Closed l) (λ args. IsPure (made_args l ss args))) (GatherArgs l ss)
      (exact_bind (closed_args (expr_within k d) k l) (λ args. pure (made_args l ss args)) (exact_closed_args (expr_within k d) k goes_expr (λ l. exact_expr k d l) (λ p. refl) (λ p. refl) l)
      (λ args. exact_pure nothing (made_args l ss args)) (λ a j us b n rest r h. none_of_nothing (us ++ rest))) there back where
        at_value : (m : ℕ) (ts : List Lexeme) (args : Kept (List (Option Tree))) (n : ℕ) → Closed l m ts args n → GatherArgs l ss m ts (made_args l ss args) n
        at_value m ts args n (closed_rule m1 n1 p ts1 args1 r) = gather_args m1 n1 p ts1 args1 _ r (made_is l ss m1 ts1 args1 n1 r)

        close : (m : ℕ) (ts : List Lexeme) (args : Kept (List (Option Tree))) (j : ℕ) (us : List Lexeme) (b : Flagged Body) (n : ℕ) → Closed l m ts args j → IsPure (made_args l ss args) j us b n → GatherArgs l ss m (ts ++ us) b n
        close m ts args j us b n r (is_pure m1) = subst (λ (w : List Lexeme). GatherArgs l ss m w (made_args l ss args) m1) (sym (append-nil ts)) (at_value m ts args m1 r)

        there : (m : ℕ) (ts : List Lexeme) (b : Flagged Body) (n : ℕ) → Seq (Closed l) (λ args. IsPure (made_args l ss args)) m ts b n → GatherArgs l ss m ts b n
        there m all b n (seq m1 k1 n1 ts us args b1 r q) = close m1 ts args k1 us b1 n1 r q

        back : (m : ℕ) (ts : List Lexeme) (b : Flagged Body) (n : ℕ) → GatherArgs l ss m ts b n → Seq (Closed l) (λ args. IsPure (made_args l ss args)) m ts b n
        back m ts b n (gather_args m1 n1 p ts1 args b1 r q) =
            subst (λ (w : List Lexeme). Seq (Closed l) (λ args. IsPure (made_args l ss args)) m1 w b1 n1) (append-nil (ts1 ++ sign p (codes ")") ∷ []))
            (subst (λ (z : Flagged Body). Seq (Closed l) (λ args. IsPure (made_args l ss args)) m1 ((ts1 ++ sign p (codes ")") ∷ []) ++ []) z n1) (made_is l ss m1 ts1 args n1 r ∙ sym q)
            (seq m1 n1 n1 (ts1 ++ sign p (codes ")") ∷ []) [] (kept_args args) _ (closed_rule m1 n1 p ts1 args r) (is_pure n1)))

  pub exact_targets : (l : ℕ) → Exact (TargetsRule l) nothing (gathering k d l)
  exact_targets l =
      exact_sign_then (codes "[") _ (λ l. refl)
      (exact_bind (names k d) _ (exact_names k)
      (λ ss. exact_sign_then (codes "]") _ (λ l. refl) (exact_sign_then (codes "=") _ (λ l. refl) (exact_the_name_then (codes "gather") _ (λ l. refl) (exact_sign_then (codes "(") _ (λ l. refl) (exact_gather_args l ss)))))
      closes) where
        closes : (ss : List (List ℕ)) (j : ℕ) (us : List Lexeme) (b : Flagged Body) (n : ℕ) (rest : List Lexeme) → TargetsRest l ss j us b n → front_is nothing rest ≡ false → front_is (goes_on_with is_name) (us ++ rest) ≡ false
        closes ss j us b n rest (after m1 n1 p ts1 b1 r) h = refl
