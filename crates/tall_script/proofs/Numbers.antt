-- The grammar's scripts are numbered as Numbering says.
use Rattle.std.proofs.Common.{◌≡◌, ℕ, suc, List, [], ◌∷◌, ◌++◌, Bool, true, refl, ap, sym, ◌∙◌, subst}
use Rattle.std.proofs.lemmas.List.{append-nil}
use Rattle.tall_grammar.specs.declared.expressions.Prefix.{Prefix}
use Rattle.tall_grammar.specs.declared.expressions.Infix.{Infix}
use Rattle.tall_grammar.specs.Grammar.{IsExpr, IsConj, IsCmp, IsSum, IsProd, IsPre, IsPost, IsPrimary, IsList, AreTexts, AreListed, AreArgs, AreSomeArgs, IsBody, AreStatements, IsStep, AreSteps, IsArm, AreArms, AreFunctions, IsScript}
use Rattle.tall_grammar.specs.Grammar as g
use Rattle.tall_grammar.specs.Lexemes.{Lexeme}
use Rattle.tall_grammar.specs.Refusals.{line_of}
use Rattle.tall_grammar.specs.Trees.{Tree, tree, Trees, no_trees, and_tree, Args, no_args, value_arg, colon_arg, Step, assign_step, add_step, if_step, while_step, for_step, Steps, no_steps, and_step, Arms, no_arms, and_arm, Body, assigned, gathered, property, bare, SeenStatement, SeenFunction, SeenScript}
use Rattle.tall_grammar.specs.Trees as trees
use Rattle.tall_script.specs.Numbering.{after_parts, numbered, numbered_trees, numbered_args, numbered_body, numbered_step, numbered_steps, numbered_arms, numbered_statements, numbered_functions, numbered_script}

-- ---- wholes from their parts

joined_parts : (op : Infix) (e f : Tree) (l m k n : ℕ) → numbered e l m ≡ (e, k) → numbered f l k ≡ (f, n)
    → numbered (tree n l (trees.joined op e f)) l m ≡ (tree n l (trees.joined op e f), suc n)
joined_parts op e f l m k n h i =
    ap (λ (p : Tree × ℕ). let q = numbered f l p.1 in after_parts l (trees.joined op p.0 q.0, q.1)) h
    ∙ ap (λ (q : Tree × ℕ). after_parts l (trees.joined op e q.0, q.1)) i

prefixed_part : (op : Prefix) (e : Tree) (l m n : ℕ) → numbered e l m ≡ (e, n)
    → numbered (tree n l (trees.prefixed op e)) l m ≡ (tree n l (trees.prefixed op e), suc n)
prefixed_part op e l m n h = ap (λ (p : Tree × ℕ). after_parts l (trees.prefixed op p.0, p.1)) h

member_part : (s : List ℕ) (e : Tree) (l m n : ℕ) → numbered e l m ≡ (e, n)
    → numbered (tree n l (trees.member e s)) l m ≡ (tree n l (trees.member e s), suc n)
member_part s e l m n h = ap (λ (p : Tree × ℕ). after_parts l (trees.member p.0 s, p.1)) h

call_parts : (e : Tree) (args : Args) (l m k n : ℕ) → numbered e l m ≡ (e, k) → numbered_args args l k ≡ (args, n)
    → numbered (tree n l (trees.call e args)) l m ≡ (tree n l (trees.call e args), suc n)
call_parts e args l m k n h i =
    ap (λ (p : Tree × ℕ). let q = numbered_args args l p.1 in after_parts l (trees.call p.0 q.0, q.1)) h
    ∙ ap (λ (q : Args × ℕ). after_parts l (trees.call e q.0, q.1)) i

list_parts : (es : Trees) (l m n : ℕ) → numbered_trees es l m ≡ (es, n)
    → numbered (tree n l (trees.list es)) l m ≡ (tree n l (trees.list es), suc n)
list_parts es l m n h = ap (λ (p : Trees × ℕ). after_parts l (trees.list p.0, p.1)) h

more_trees : (s : List ℕ) (es : Trees) (l m n : ℕ) → numbered_trees es l (suc m) ≡ (es, n)
    → numbered_trees (and_tree (tree m l (trees.text s)) es) l m ≡ (and_tree (tree m l (trees.text s)) es, n)
more_trees s es l m n h = ap (λ (p : Trees × ℕ). (and_tree (tree m l (trees.text s)) p.0, p.1)) h

more_args : (e : Tree) (args : Args) (l m k n : ℕ) → numbered e l m ≡ (e, k) → numbered_args args l k ≡ (args, n)
    → numbered_args (value_arg e args) l m ≡ (value_arg e args, n)
more_args e args l m k n h i =
    ap (λ (p : Tree × ℕ). let q = numbered_args args l p.1 in (value_arg p.0 q.0, q.1)) h ∙ ap (λ (q : Args × ℕ). (value_arg e q.0, q.1)) i

a_colon : (args : Args) (l m n : ℕ) → numbered_args args l m ≡ (args, n) → numbered_args (colon_arg args) l m ≡ (colon_arg args, n)
a_colon args l m n h = ap (λ (q : Args × ℕ). (colon_arg q.0, q.1)) h

-- ---- expressions

texts_numbered : (l m : ℕ) (ts : List Lexeme) (es : Trees) (n : ℕ) → AreTexts l m ts es n → numbered_trees es l m ≡ (es, n)
texts_numbered _ _ _ _ _ (g.no_more_texts l m) = refl
texts_numbered _ _ _ _ _ (g.more_texts l m n p s cs ts es c h) = more_trees _ es l m n (texts_numbered l (suc m) ts es n h)

listed_numbered : (l m : ℕ) (ts : List Lexeme) (es : Trees) (n : ℕ) → AreListed l m ts es n → numbered_trees es l m ≡ (es, n)
listed_numbered _ _ _ _ _ (g.none_listed l m) = refl
listed_numbered _ _ _ _ _ (g.some_listed l m n p s ts es h) = more_trees _ es l m n (texts_numbered l (suc m) ts es n h)

list_numbered : (l m : ℕ) (ts : List Lexeme) (e : Tree) (n : ℕ) → IsList l m ts e n → numbered e l m ≡ (e, n)
list_numbered _ _ _ _ _ (g.in_braces l m n p q ts es h) = list_parts es l m n (listed_numbered l m ts es n h)
list_numbered _ _ _ _ _ (g.in_brackets l m n p q r s ts es h) =
    list_parts (and_tree (tree m l (trees.text _)) es) l m n (more_trees _ es l m n (texts_numbered l (suc m) ts es n h))

mutual
  pub expr_numbered : (l m : ℕ) (ts : List Lexeme) (e : Tree) (n : ℕ) → IsExpr l m ts e n → numbered e l m ≡ (e, n)
  expr_numbered _ _ _ _ _ (g.one_conj l m n ts e h) = conj_numbered l m ts e n h
  expr_numbered _ _ _ _ _ (g.or_conj l m k n p ts us e f h i) = joined_parts _ e f l m k n (expr_numbered l m ts e k h) (conj_numbered l k us f n i)

  conj_numbered : (l m : ℕ) (ts : List Lexeme) (e : Tree) (n : ℕ) → IsConj l m ts e n → numbered e l m ≡ (e, n)
  conj_numbered _ _ _ _ _ (g.one_cmp l m n ts e h) = cmp_numbered l m ts e n h
  conj_numbered _ _ _ _ _ (g.and_cmp l m k n p ts us e f h i) = joined_parts _ e f l m k n (conj_numbered l m ts e k h) (cmp_numbered l k us f n i)

  cmp_numbered : (l m : ℕ) (ts : List Lexeme) (e : Tree) (n : ℕ) → IsCmp l m ts e n → numbered e l m ≡ (e, n)
  cmp_numbered _ _ _ _ _ (g.one_sum l m n ts e h) = sum_numbered l m ts e n h
  cmp_numbered _ _ _ _ _ (g.compared_sum l m k n p s o ts us e f h c i) = joined_parts o e f l m k n (cmp_numbered l m ts e k h) (sum_numbered l k us f n i)

  sum_numbered : (l m : ℕ) (ts : List Lexeme) (e : Tree) (n : ℕ) → IsSum l m ts e n → numbered e l m ≡ (e, n)
  sum_numbered _ _ _ _ _ (g.one_prod l m n ts e h) = prod_numbered l m ts e n h
  sum_numbered _ _ _ _ _ (g.added_prod l m k n p s o ts us e f h c i) = joined_parts o e f l m k n (sum_numbered l m ts e k h) (prod_numbered l k us f n i)

  prod_numbered : (l m : ℕ) (ts : List Lexeme) (e : Tree) (n : ℕ) → IsProd l m ts e n → numbered e l m ≡ (e, n)
  prod_numbered _ _ _ _ _ (g.one_pre l m n ts e h) = pre_numbered l m ts e n h
  prod_numbered _ _ _ _ _ (g.multiplied_pre l m k n p s o ts us e f h c i) = joined_parts o e f l m k n (prod_numbered l m ts e k h) (pre_numbered l k us f n i)

  pre_numbered : (l m : ℕ) (ts : List Lexeme) (e : Tree) (n : ℕ) → IsPre l m ts e n → numbered e l m ≡ (e, n)
  pre_numbered _ _ _ _ _ (g.one_post l m n ts e h) = post_numbered l m ts e n h
  pre_numbered _ _ _ _ _ (g.prefixed_pre l m n p s o ts e c h) = prefixed_part o e l m n (pre_numbered l m ts e n h)

  post_numbered : (l m : ℕ) (ts : List Lexeme) (e : Tree) (n : ℕ) → IsPost l m ts e n → numbered e l m ≡ (e, n)
  post_numbered _ _ _ _ _ (g.one_primary l m n ts e h) = primary_numbered l m ts e n h
  post_numbered _ _ _ _ _ (g.member_of l m n p q s ts e h) = member_part s e l m n (post_numbered l m ts e n h)
  post_numbered _ _ _ _ _ (g.call_of l m k n p q ts us e args h i) = call_parts e args l m k n (post_numbered l m ts e k h) (args_numbered l k us args n i)

  primary_numbered : (l m : ℕ) (ts : List Lexeme) (e : Tree) (n : ℕ) → IsPrimary l m ts e n → numbered e l m ≡ (e, n)
  primary_numbered _ _ _ _ _ (g.a_number l m p s) = refl
  primary_numbered _ _ _ _ _ (g.a_text l m p s) = refl
  primary_numbered _ _ _ _ _ (g.a_name l m p s) = refl
  primary_numbered _ _ _ _ _ (g.inside l m n p q ts e h) = expr_numbered l m ts e n h
  primary_numbered _ _ _ _ _ (g.a_list l m n ts e h) = list_numbered l m ts e n h
  primary_numbered _ _ _ _ _ (g.a_handle l m p q s) = refl

  args_numbered : (l m : ℕ) (ts : List Lexeme) (args : Args) (n : ℕ) → AreArgs l m ts args n → numbered_args args l m ≡ (args, n)
  args_numbered _ _ _ _ _ (g.without_args l m) = refl
  args_numbered _ _ _ _ _ (g.with_args l m n ts args h) = some_args_numbered l m ts args n h

  some_args_numbered : (l m : ℕ) (ts : List Lexeme) (args : Args) (n : ℕ) → AreSomeArgs l m ts args n → numbered_args args l m ≡ (args, n)
  some_args_numbered _ _ _ _ _ (g.last_value l m n ts e h) = more_args e no_args l m n n (expr_numbered l m ts e n h) refl
  some_args_numbered _ _ _ _ _ (g.last_colon l m p) = refl
  some_args_numbered _ _ _ _ _ (g.next_value l m k n p ts us e args h i) =
      more_args e args l m k n (expr_numbered l m ts e k h) (some_args_numbered l k us args n i)
  some_args_numbered _ _ _ _ _ (g.next_colon l m n p q us args h) = a_colon args l m n (some_args_numbered l m us args n h)

-- ---- statements

body_numbered : (l m : ℕ) (ts : List Lexeme) (b : Body) (n : ℕ) → IsBody l m ts b n → numbered_body b l m ≡ (b, n)
body_numbered _ _ _ _ _ (g.name_body l m n p s ts e h) = ap (λ (p : Tree × ℕ). (assigned s p.0, p.1)) (expr_numbered l m ts e n h)
body_numbered _ _ _ _ _ (g.gather_body l m n p q r u v w s ts us ss args names h) =
    ap (λ (p : Args × ℕ). (gathered (s ∷ ss) p.0, p.1)) (args_numbered l m us args n h)
body_numbered _ _ _ _ _ (g.property_body l m n p q r s t ts e h) = ap (λ (p : Tree × ℕ). (property s t p.0, p.1)) (expr_numbered l m ts e n h)
body_numbered _ _ _ _ _ (g.bare_body l m n ts e h first) = ap (λ (p : Tree × ℕ). (bare p.0, p.1)) (expr_numbered l m ts e n h)

one_entry : (l : ℕ) (shown : Bool) (b : Body) (bs : List SeenStatement) (m k n : ℕ) → numbered_body b l m ≡ (b, k) → numbered_statements bs k ≡ (bs, n)
    → numbered_statements (record { line = l; shown = shown; form = b } ∷ bs) m ≡ (record { line = l; shown = shown; form = b } ∷ bs, n)
one_entry l shown b bs m k n h i =
    ap (λ (p : Body × ℕ). let q = numbered_statements bs p.1 in (record { line = l; shown = shown; form = p.0 } ∷ q.0, q.1)) h
    ∙ ap (λ (q : List SeenStatement × ℕ). (record { line = l; shown = shown; form = b } ∷ q.0, q.1)) i

-- statements, and then more
entries_numbered : (m : ℕ) (ts : List Lexeme) (bs more : List SeenStatement) (k n : ℕ) → AreStatements m ts bs k → numbered_statements more k ≡ (more, n)
    → numbered_statements (bs ++ more) m ≡ (bs ++ more, n)
entries_numbered _ _ _ more _ n (g.no_statements m) rest = rest
entries_numbered _ _ _ more _ o (g.next_statement l m k n ts ps us p b bs h sep seps i) rest =
    one_entry l _ b (bs ++ more) m k o (body_numbered l m ts b k h) (entries_numbered k us bs more n o i rest)

-- ---- functions

line_after : (e : Tree) (l n : ℕ) → line_of (numbered e l n).0 ≡ l
line_after (tree k j (trees.number d)) l n = refl
line_after (tree k j (trees.text t)) l n = refl
line_after (tree k j (trees.name s)) l n = refl
line_after (tree k j (trees.handle s)) l n = refl
line_after (tree k j (trees.list es)) l n = refl
line_after (tree k j (trees.prefixed op e)) l n = refl
line_after (tree k j (trees.joined op e f)) l n = refl
line_after (tree k j (trees.member e s)) l n = refl
line_after (tree k j (trees.call e args)) l n = refl

on_its_line : (e : Tree) (l m k : ℕ) → numbered e l m ≡ (e, k) → numbered e (line_of e) m ≡ (e, k)
on_its_line e l m k h =
    subst (λ (j : ℕ). numbered e j m ≡ (e, k)) (sym (sym (ap (λ (p : Tree × ℕ). line_of p.0) h) ∙ line_after e l m)) h

one_step : (b : Step) (bs : Steps) (m k n : ℕ) → numbered_step b m ≡ (b, k) → numbered_steps bs k ≡ (bs, n) → numbered_steps (and_step b bs) m ≡ (and_step b bs, n)
one_step b bs m k n h i =
    ap (λ (p : Step × ℕ). let q = numbered_steps bs p.1 in (and_step p.0 q.0, q.1)) h ∙ ap (λ (q : Steps × ℕ). (and_step b q.0, q.1)) i

one_arm : (e : Tree) (b : Steps) (arms : Arms) (l m j k n : ℕ) → numbered e l m ≡ (e, j) → numbered_steps b j ≡ (b, k) → numbered_arms arms k ≡ (arms, n)
    → numbered_arms (and_arm e b arms) m ≡ (and_arm e b arms, n)
one_arm e b arms l m j k n h i r =
    ap (λ (p : Tree × ℕ). let q = numbered_steps b p.1 in let s = numbered_arms arms q.1 in (and_arm p.0 q.0 s.0, s.1)) (on_its_line e l m j h)
    ∙ ap (λ (q : Steps × ℕ). let s = numbered_arms arms q.1 in (and_arm e q.0 s.0, s.1)) i
    ∙ ap (λ (s : Arms × ℕ). (and_arm e b s.0, s.1)) r

-- a condition or a bound, and what it governs
abbrev ArmNumbered : ℕ → ℕ → Tree → Steps → ℕ → Type 0
ArmNumbered l m e b n = (k : ℕ) × (numbered e l m ≡ (e, k)) × (numbered_steps b k ≡ (b, n))

-- further conditions, and what stands behind `else`
abbrev ArmsNumbered : ℕ → Arms → Steps → ℕ → Type 0
ArmsNumbered m arms rest n = (k : ℕ) × (numbered_arms arms m ≡ (arms, k)) × (numbered_steps rest k ≡ (rest, n))

mutual
  steps_numbered : (m : ℕ) (ts : List Lexeme) (bs : Steps) (n : ℕ) → AreSteps m ts bs n → numbered_steps bs m ≡ (bs, n)
  steps_numbered _ _ _ _ (g.without_steps m) = refl
  steps_numbered _ _ _ _ (g.next_step m k n ts ps us p b bs h sep seps i) = one_step b bs m k n (step_numbered m ts b k h) (steps_numbered k us bs n i)

  step_numbered : (m : ℕ) (ts : List Lexeme) (b : Step) (n : ℕ) → IsStep m ts b n → numbered_step b m ≡ (b, n)
  step_numbered _ _ _ _ (g.name_step l m n p s ts e h) = ap (λ (p : Tree × ℕ). (assign_step l s p.0, p.1)) (expr_numbered l m ts e n h)
  step_numbered _ _ _ _ (g.adding_step l m i k n p q r u ts us vs e f h x y z) =
      ap (λ (p : Tree × ℕ). let q = numbered f l p.1 in let r = numbered h l q.1 in (add_step l p.0 q.0 r.0, r.1)) (expr_numbered l m ts e i x)
      ∙ ap (λ (q : Tree × ℕ). let r = numbered h l q.1 in (add_step l e q.0 r.0, r.1)) (expr_numbered l i us f k y)
      ∙ ap (λ (r : Tree × ℕ). (add_step l e f r.0, r.1)) (expr_numbered l k vs h n z)
  step_numbered _ _ _ _ (g.choosing_step l m i n q ts us e b rest arms h k) =
      let a = arm_numbered l m ts e b i h in
      let c = arms_numbered i us arms rest n k in
      ap (λ (p : Arms × ℕ). let q = numbered_steps rest p.1 in (if_step l p.0 q.0, q.1)) (one_arm e b arms l m a.0 i c.0 a.1 a.2 c.1)
      ∙ ap (λ (q : Steps × ℕ). (if_step l (and_arm e b arms) q.0, q.1)) c.2
  step_numbered _ _ _ _ (g.looping_step l m n q ts e b h) =
      let a = arm_numbered l m ts e b n h in
      ap (λ (p : Tree × ℕ). let q = numbered_steps b p.1 in (while_step l p.0 q.0, q.1)) a.1 ∙ ap (λ (q : Steps × ℕ). (while_step l e q.0, q.1)) a.2
  step_numbered _ _ _ _ (g.counting_step l m i n p q r u s ts us e f b x h) =
      let a = arm_numbered l i us f b n h in
      ap (λ (p : Tree × ℕ). let q = numbered f l p.1 in let r = numbered_steps b q.1 in (for_step l s p.0 q.0 r.0, r.1)) (expr_numbered l m ts e i x)
      ∙ ap (λ (q : Tree × ℕ). let r = numbered_steps b q.1 in (for_step l s e q.0 r.0, r.1)) a.1
      ∙ ap (λ (r : Steps × ℕ). (for_step l s e f r.0, r.1)) a.2

  arm_numbered : (l m : ℕ) (ts : List Lexeme) (e : Tree) (b : Steps) (n : ℕ) → IsArm l m ts e b n → ArmNumbered l m e b n
  arm_numbered _ _ _ _ _ _ (g.an_arm l m k n ts ps us p e b h sep seps i) = (k, expr_numbered l m ts e k h, steps_numbered k us b n i)

  arms_numbered : (m : ℕ) (ts : List Lexeme) (arms : Arms) (rest : Steps) (n : ℕ) → AreArms m ts arms rest n → ArmsNumbered m arms rest n
  arms_numbered _ _ _ _ _ (g.no_else m) = (m, refl, refl)
  arms_numbered _ _ _ _ _ (g.an_else m n p ps ts b seps h) = (m, refl, steps_numbered m ts b n h)
  arms_numbered _ _ _ _ _ (g.an_elseif l m k n ts us e b rest arms h i) =
      let a = arm_numbered l m ts e b k h in
      let c = arms_numbered k us arms rest n i in
      (c.0, one_arm e b arms l m a.0 k c.0 a.1 a.2 c.1, c.2)

routines_numbered : (m : ℕ) (ts : List Lexeme) (fs : List SeenFunction) (n : ℕ) → AreFunctions m ts fs n → numbered_functions fs m ≡ (fs, n)
routines_numbered _ _ _ _ (g.no_functions m) = refl
routines_numbered _ _ _ _ (g.next_function l m k n p q r u v w s t1 t2 t3 sep a b c ps ts qs us body fs pa pb pc is seps h more i) =
    ap (λ (p : Steps × ℕ). let q = numbered_functions fs p.1 in (record { name = s; line = l; params = a ∷ b ∷ c ∷ []; body = p.0 } ∷ q.0, q.1)) (steps_numbered m ts body k h)
    ∙ ap (λ (q : List SeenFunction × ℕ). (record { name = s; line = l; params = a ∷ b ∷ c ∷ []; body = body } ∷ q.0, q.1)) (routines_numbered k us fs n i)

-- ---- scripts

program_numbered : (bs : List SeenStatement) (fs : List SeenFunction) (k n : ℕ) → numbered_statements bs 1 ≡ (bs, k) → numbered_functions fs k ≡ (fs, n)
    → numbered_script (record { statements = bs; functions = fs }) ≡ record { statements = bs; functions = fs }
program_numbered bs fs k n h i =
    ap (λ (p : List SeenStatement × ℕ). let q = numbered_functions fs p.1 in let s : SeenScript = record { statements = p.0; functions = q.0 } in s) h
    ∙ ap (λ (q : List SeenFunction × ℕ). let s : SeenScript = record { statements = bs; functions = q.0 } in s) i

pub script_numbered : (ts : List Lexeme) (p : SeenScript) → IsScript ts p → numbered_script p ≡ p
script_numbered _ _ (g.a_script k n ps ts us bs fs seps h i apart) =
    program_numbered bs fs k n
    (subst (λ (cs : List SeenStatement). numbered_statements cs 1 ≡ (cs, k)) (append-nil bs) (entries_numbered 1 ts bs [] k k h refl))
    (routines_numbered k us fs n i)
script_numbered _ _ (g.a_script_to_the_end l k n ps ts us bs b seps h i) =
    program_numbered (bs ++ record { line = l; shown = true; form = b } ∷ []) [] n n
    (entries_numbered 1 ts bs (record { line = l; shown = true; form = b } ∷ []) k n h (one_entry l true b [] k n n (body_numbered l k us b n i) refl)) refl
