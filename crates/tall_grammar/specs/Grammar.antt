-- The grammar: which tokens are which script. One case stands for each production; parts stand before wholes. All
-- operators between two operands group to the left. Expressions are numbered through the script, the parts first and
-- then the whole: an expression from the number m on is followed by the number n.
use Rattle.std.specs.Prelude.{ℕ, suc, ◌≡◌, true, IsTrue, List, [], ◌∷◌, ◌++◌, map, Option, Some, None, codes}
use Rattle.std.specs.List.{list_all}
use Rattle.tall_value.specs.Names.{are_distinct}
use Rattle.tall_grammar.specs.declared.expressions.Prefix.{Prefix}
use Rattle.tall_grammar.specs.declared.expressions.Infix.{Infix}
use Rattle.tall_grammar.specs.declared.expressions.Infix.TheVariants.{Or, And}
use Rattle.tall_grammar.specs.Lexemes.{Lexeme, sign, word, name_token, number_token, text_token, number_value, text_value, is_separator, shows, comparison, additive, multiplicative, prefix_sign}
use Rattle.tall_grammar.specs.Trees.{Tree, tree, number, text, name, list, handle, prefixed, joined, member, call, Trees, no_trees, and_tree, Args, no_args, value_arg, colon_arg}
use Rattle.tall_grammar.specs.Trees.{Step, assign_step, add_step, if_step, while_step, for_step, Steps, no_steps, and_step, Arms, no_arms, and_arm, Body, assigned, gathered, property, bare, SeenStatement, SeenFunction, SeenScript}

-- { sep }
abbrev pub AreSeparators : List Lexeme → Type 0
AreSeparators ts = IsTrue (list_all is_separator ts)

-- the line of the first token
abbrev pub first_line : List Lexeme → Option ℕ
first_line [] = None
first_line (t ∷ ts) = Some t.line

-- [',']
pub data IsComma : List Lexeme → Type 0 where
  no_comma : IsComma []
  comma : (p : ℕ) → IsComma (sign p (codes ",") ∷ [])

-- { [','] text }: the texts of a list on line l
pub data AreTexts : ℕ → ℕ → List Lexeme → Trees → ℕ → Type 0 where
  no_more_texts : (l m : ℕ) → AreTexts l m [] no_trees m
  more_texts : (l m n p : ℕ) (s : List ℕ) (cs ts : List Lexeme) (es : Trees) → IsComma cs → AreTexts l (suc m) ts es n
      → AreTexts l m (cs ++ text_token p s ∷ ts) (and_tree (tree m l (text (text_value s))) es) n

-- [ text { [','] text } ]
pub data AreListed : ℕ → ℕ → List Lexeme → Trees → ℕ → Type 0 where
  none_listed : (l m : ℕ) → AreListed l m [] no_trees m
  some_listed : (l m n p : ℕ) (s : List ℕ) (ts : List Lexeme) (es : Trees) → AreTexts l (suc m) ts es n
      → AreListed l m (text_token p s ∷ ts) (and_tree (tree m l (text (text_value s))) es) n

-- the expressions on line l, numbered from m on, with n the number that comes next
mutual
  -- expr = conj { '|' conj }
  pub data IsExpr : ℕ → ℕ → List Lexeme → Tree → ℕ → Type 0 where
    one_conj : (l m n : ℕ) (ts : List Lexeme) (e : Tree) → IsConj l m ts e n → IsExpr l m ts e n
    or_conj : (l m k n p : ℕ) (ts us : List Lexeme) (e f : Tree) → IsExpr l m ts e k → IsConj l k us f n
        → IsExpr l m (ts ++ sign p (codes "|") ∷ us) (tree n l (joined Or e f)) (suc n)

  -- conj = cmp { '&' cmp }
  pub data IsConj : ℕ → ℕ → List Lexeme → Tree → ℕ → Type 0 where
    one_cmp : (l m n : ℕ) (ts : List Lexeme) (e : Tree) → IsCmp l m ts e n → IsConj l m ts e n
    and_cmp : (l m k n p : ℕ) (ts us : List Lexeme) (e f : Tree) → IsConj l m ts e k → IsCmp l k us f n
        → IsConj l m (ts ++ sign p (codes "&") ∷ us) (tree n l (joined And e f)) (suc n)

  -- cmp = sum { ('==' | '~=' | '<' | '<=' | '>' | '>=') sum }
  pub data IsCmp : ℕ → ℕ → List Lexeme → Tree → ℕ → Type 0 where
    one_sum : (l m n : ℕ) (ts : List Lexeme) (e : Tree) → IsSum l m ts e n → IsCmp l m ts e n
    compared_sum : (l m k n p : ℕ) (s : List ℕ) (o : Infix) (ts us : List Lexeme) (e f : Tree) → IsCmp l m ts e k
        → comparison s ≡ Some o → IsSum l k us f n → IsCmp l m (ts ++ sign p s ∷ us) (tree n l (joined o e f)) (suc n)

  -- sum = prod { ('+' | '-') prod }
  pub data IsSum : ℕ → ℕ → List Lexeme → Tree → ℕ → Type 0 where
    one_prod : (l m n : ℕ) (ts : List Lexeme) (e : Tree) → IsProd l m ts e n → IsSum l m ts e n
    added_prod : (l m k n p : ℕ) (s : List ℕ) (o : Infix) (ts us : List Lexeme) (e f : Tree) → IsSum l m ts e k
        → additive s ≡ Some o → IsProd l k us f n → IsSum l m (ts ++ sign p s ∷ us) (tree n l (joined o e f)) (suc n)

  -- prod = pre { ('.*' | './' | '*' | '/') pre }
  pub data IsProd : ℕ → ℕ → List Lexeme → Tree → ℕ → Type 0 where
    one_pre : (l m n : ℕ) (ts : List Lexeme) (e : Tree) → IsPre l m ts e n → IsProd l m ts e n
    multiplied_pre : (l m k n p : ℕ) (s : List ℕ) (o : Infix) (ts us : List Lexeme) (e f : Tree) → IsProd l m ts e k
        → multiplicative s ≡ Some o → IsPre l k us f n → IsProd l m (ts ++ sign p s ∷ us) (tree n l (joined o e f)) (suc n)

  -- pre = { '-' | '+' | '~' } post
  pub data IsPre : ℕ → ℕ → List Lexeme → Tree → ℕ → Type 0 where
    one_post : (l m n : ℕ) (ts : List Lexeme) (e : Tree) → IsPost l m ts e n → IsPre l m ts e n
    prefixed_pre : (l m n p : ℕ) (s : List ℕ) (o : Prefix) (ts : List Lexeme) (e : Tree) → prefix_sign s ≡ Some o
        → IsPre l m ts e n → IsPre l m (sign p s ∷ ts) (tree n l (prefixed o e)) (suc n)

  -- post = primary { '.' name | '(' args ')' }
  pub data IsPost : ℕ → ℕ → List Lexeme → Tree → ℕ → Type 0 where
    one_primary : (l m n : ℕ) (ts : List Lexeme) (e : Tree) → IsPrimary l m ts e n → IsPost l m ts e n
    member_of : (l m n p q : ℕ) (s : List ℕ) (ts : List Lexeme) (e : Tree) → IsPost l m ts e n
        → IsPost l m (ts ++ sign p (codes ".") ∷ name_token q s ∷ []) (tree n l (member e s)) (suc n)
    call_of : (l m k n p q : ℕ) (ts us : List Lexeme) (e : Tree) (args : Args) → IsPost l m ts e k → AreArgs l k us args n
        → IsPost l m (ts ++ sign p (codes "(") ∷ (us ++ sign q (codes ")") ∷ [])) (tree n l (call e args)) (suc n)

  -- primary = number | text | name | '(' expr ')' | list | '@' name
  pub data IsPrimary : ℕ → ℕ → List Lexeme → Tree → ℕ → Type 0 where
    a_number : (l m p : ℕ) (s : List ℕ) → IsPrimary l m (number_token p s ∷ []) (tree m l (number (number_value s))) (suc m)
    a_text : (l m p : ℕ) (s : List ℕ) → IsPrimary l m (text_token p s ∷ []) (tree m l (text (text_value s))) (suc m)
    a_name : (l m p : ℕ) (s : List ℕ) → IsPrimary l m (name_token p s ∷ []) (tree m l (name s)) (suc m)
    inside : (l m n p q : ℕ) (ts : List Lexeme) (e : Tree) → IsExpr l m ts e n
        → IsPrimary l m (sign p (codes "(") ∷ (ts ++ sign q (codes ")") ∷ [])) e n
    a_list : (l m n : ℕ) (ts : List Lexeme) (e : Tree) → IsList l m ts e n → IsPrimary l m ts e n
    a_handle : (l m p q : ℕ) (s : List ℕ)
        → IsPrimary l m (sign p (codes "@") ∷ name_token q s ∷ []) (tree m l (handle s)) (suc m)

  -- list = '{' [ text { [','] text } ] '}' | '[' text { [','] text } ']'
  pub data IsList : ℕ → ℕ → List Lexeme → Tree → ℕ → Type 0 where
    in_braces : (l m n p q : ℕ) (ts : List Lexeme) (es : Trees) → AreListed l m ts es n
        → IsList l m (sign p (codes "{") ∷ (ts ++ sign q (codes "}") ∷ [])) (tree n l (list es)) (suc n)
    in_brackets : (l m n p q r : ℕ) (s : List ℕ) (ts : List Lexeme) (es : Trees) → AreTexts l (suc m) ts es n
        → IsList l m (sign p (codes "[") ∷ text_token r s ∷ (ts ++ sign q (codes "]") ∷ []))
        (tree n l (list (and_tree (tree m l (text (text_value s))) es))) (suc n)

  -- args = [ arg { ',' arg } ]
  pub data AreArgs : ℕ → ℕ → List Lexeme → Args → ℕ → Type 0 where
    without_args : (l m : ℕ) → AreArgs l m [] no_args m
    with_args : (l m n : ℕ) (ts : List Lexeme) (args : Args) → AreSomeArgs l m ts args n → AreArgs l m ts args n

  -- arg { ',' arg }, with arg = expr | ':'
  pub data AreSomeArgs : ℕ → ℕ → List Lexeme → Args → ℕ → Type 0 where
    last_value : (l m n : ℕ) (ts : List Lexeme) (e : Tree) → IsExpr l m ts e n → AreSomeArgs l m ts (value_arg e no_args) n
    last_colon : (l m p : ℕ) → AreSomeArgs l m (sign p (codes ":") ∷ []) (colon_arg no_args) m
    next_value : (l m k n p : ℕ) (ts us : List Lexeme) (e : Tree) (args : Args) → IsExpr l m ts e k → AreSomeArgs l k us args n
        → AreSomeArgs l m (ts ++ sign p (codes ",") ∷ us) (value_arg e args) n
    next_colon : (l m n p q : ℕ) (us : List Lexeme) (args : Args) → AreSomeArgs l m us args n
        → AreSomeArgs l m (sign p (codes ":") ∷ sign q (codes ",") ∷ us) (colon_arg args) n

-- { [','] name }
pub data AreNames : List Lexeme → List (List ℕ) → Type 0 where
  no_more_names : AreNames [] []
  more_names : (p : ℕ) (s : List ℕ) (cs ts : List Lexeme) (ss : List (List ℕ)) → IsComma cs → AreNames ts ss
      → AreNames (cs ++ name_token p s ∷ ts) (s ∷ ss)

-- body = name '=' expr
--      | '[' name { [','] name } ']' '=' 'gather' '(' args ')'
--      | name '.' name '=' expr
--      | expr
-- on line l, which is that of the first token
pub data IsBody : ℕ → ℕ → List Lexeme → Body → ℕ → Type 0 where
  name_body : (l m n p : ℕ) (s : List ℕ) (ts : List Lexeme) (e : Tree) → IsExpr l m ts e n
      → IsBody l m (name_token l s ∷ sign p (codes "=") ∷ ts) (assigned s e) n
  gather_body : (l m n p q r u v w : ℕ) (s : List ℕ) (ts us : List Lexeme) (ss : List (List ℕ)) (args : Args)
      → AreNames ts ss → AreArgs l m us args n
      → IsBody l m (sign l (codes "[") ∷ name_token p s ∷ (ts ++ sign q (codes "]") ∷ sign r (codes "=")
      ∷ name_token u (codes "gather") ∷ sign v (codes "(") ∷ (us ++ sign w (codes ")") ∷ []))) (gathered (s ∷ ss) args) n
  property_body : (l m n p q r : ℕ) (s t : List ℕ) (ts : List Lexeme) (e : Tree) → IsExpr l m ts e n
      → IsBody l m (name_token l s ∷ sign p (codes ".") ∷ name_token q t ∷ sign r (codes "=") ∷ ts) (property s t e) n
  bare_body : (l m n : ℕ) (ts : List Lexeme) (e : Tree) → IsExpr l m ts e n → first_line ts ≡ Some l → IsBody l m ts (bare e) n

-- { statement }, with statement = body sep { sep }; the first separator says whether it is shown
pub data AreStatements : ℕ → List Lexeme → List SeenStatement → ℕ → Type 0 where
  no_statements : (m : ℕ) → AreStatements m [] [] m
  next_statement : (l m k n : ℕ) (ts ps us : List Lexeme) (p : Lexeme) (b : Body) (bs : List SeenStatement) → IsBody l m ts b k
      → IsTrue (is_separator p) → AreSeparators ps → AreStatements k us bs n
      → AreStatements m (ts ++ p ∷ (ps ++ us)) (record { line = l; shown = shows p; form = b } ∷ bs) n

-- par = name | '~'
pub data IsParameter : Lexeme → Option (List ℕ) → Type 0 where
  named : (p : ℕ) (s : List ℕ) → IsParameter (name_token p s) (Some s)
  passed_over : (p : ℕ) → IsParameter (sign p (codes "~")) None

-- the statements of a function
mutual
  -- { fstat }, with fstat = fbody sep { sep }
  pub data AreSteps : ℕ → List Lexeme → Steps → ℕ → Type 0 where
    without_steps : (m : ℕ) → AreSteps m [] no_steps m
    next_step : (m k n : ℕ) (ts ps us : List Lexeme) (p : Lexeme) (b : Step) (bs : Steps) → IsStep m ts b k
        → IsTrue (is_separator p) → AreSeparators ps → AreSteps k us bs n → AreSteps m (ts ++ p ∷ (ps ++ us)) (and_step b bs) n

  -- fbody = name '=' expr
  --       | 'add' '(' expr ',' expr ',' expr ')'
  --       | 'if' expr sep { sep } { fstat } { 'elseif' expr sep { sep } { fstat } } [ 'else' { sep } { fstat } ] 'end'
  --       | 'while' expr sep { sep } { fstat } 'end'
  --       | 'for' name '=' expr ':' expr sep { sep } { fstat } 'end'
  pub data IsStep : ℕ → List Lexeme → Step → ℕ → Type 0 where
    name_step : (l m n p : ℕ) (s : List ℕ) (ts : List Lexeme) (e : Tree) → IsExpr l m ts e n
        → IsStep m (name_token l s ∷ sign p (codes "=") ∷ ts) (assign_step l s e) n
    adding_step : (l m i k n p q r u : ℕ) (ts us vs : List Lexeme) (e f g : Tree) → IsExpr l m ts e i → IsExpr l i us f k
        → IsExpr l k vs g n
        → IsStep m (name_token l (codes "add") ∷ sign p (codes "(") ∷ (ts ++ sign q (codes ",") ∷ (us ++ sign r (codes ",")
        ∷ (vs ++ sign u (codes ")") ∷ [])))) (add_step l e f g) n
    choosing_step : (l m i n q : ℕ) (ts us : List Lexeme) (e : Tree) (b rest : Steps) (arms : Arms)
        → IsArm l m ts e b i → AreArms i us arms rest n
        → IsStep m (word l (codes "if") ∷ (ts ++ (us ++ word q (codes "end") ∷ []))) (if_step l (and_arm e b arms) rest) n
    looping_step : (l m n q : ℕ) (ts : List Lexeme) (e : Tree) (b : Steps) → IsArm l m ts e b n
        → IsStep m (word l (codes "while") ∷ (ts ++ word q (codes "end") ∷ [])) (while_step l e b) n
    counting_step : (l m i n p q r u : ℕ) (s : List ℕ) (ts us : List Lexeme) (e f : Tree) (b : Steps) → IsExpr l m ts e i
        → IsArm l i us f b n
        → IsStep m (word l (codes "for") ∷ name_token p s ∷ sign q (codes "=") ∷ (ts ++ sign r (codes ":")
        ∷ (us ++ word u (codes "end") ∷ []))) (for_step l s e f b) n

  -- expr sep { sep } { fstat }: an expression on line l, and what it governs
  pub data IsArm : ℕ → ℕ → List Lexeme → Tree → Steps → ℕ → Type 0 where
    an_arm : (l m k n : ℕ) (ts ps us : List Lexeme) (p : Lexeme) (e : Tree) (b : Steps) → IsExpr l m ts e k
        → IsTrue (is_separator p) → AreSeparators ps → AreSteps k us b n → IsArm l m (ts ++ p ∷ (ps ++ us)) e b n

  -- { 'elseif' expr sep { sep } { fstat } } [ 'else' { sep } { fstat } ]
  pub data AreArms : ℕ → List Lexeme → Arms → Steps → ℕ → Type 0 where
    no_else : (m : ℕ) → AreArms m [] no_arms no_steps m
    an_else : (m n p : ℕ) (ps ts : List Lexeme) (b : Steps) → AreSeparators ps → AreSteps m ts b n
        → AreArms m (word p (codes "else") ∷ (ps ++ ts)) no_arms b n
    an_elseif : (l m k n : ℕ) (ts us : List Lexeme) (e : Tree) (b rest : Steps) (arms : Arms) → IsArm l m ts e b k
        → AreArms k us arms rest n → AreArms m (word l (codes "elseif") ∷ (ts ++ us)) (and_arm e b arms) rest n

-- { function }, with
-- function = 'function' name '(' par ',' par ',' par ')' sep { sep } { fstat } 'end' { sep }
pub data AreFunctions : ℕ → List Lexeme → List SeenFunction → ℕ → Type 0 where
  no_functions : (m : ℕ) → AreFunctions m [] [] m
  next_function : (l m k n p q r u v w : ℕ) (s : List ℕ) (t1 t2 t3 sep : Lexeme) (a b c : Option (List ℕ))
      (ps ts qs us : List Lexeme) (body : Steps) (fs : List SeenFunction)
      → IsParameter t1 a → IsParameter t2 b → IsParameter t3 c → IsTrue (is_separator sep) → AreSeparators ps
      → AreSteps m ts body k → AreSeparators qs → AreFunctions k us fs n
      → AreFunctions m (word l (codes "function") ∷ name_token p s ∷ sign q (codes "(") ∷ t1 ∷ sign r (codes ",") ∷ t2
      ∷ sign u (codes ",") ∷ t3 ∷ sign v (codes ")") ∷ sep ∷ (ps ++ (ts ++ word w (codes "end") ∷ (qs ++ us))))
      (record { name = s; line = l; params = a ∷ b ∷ c ∷ []; body = body } ∷ fs) n

abbrev pub function_name : SeenFunction → List ℕ
function_name f = f.name

-- script = { sep } { statement } { function }; in place of a last sep the text may end. No two functions have one name.
-- Numbers begin at 1.
pub data IsScript : List Lexeme → SeenScript → Type 0 where
  a_script : (k n : ℕ) (ps ts us : List Lexeme) (bs : List SeenStatement) (fs : List SeenFunction) → AreSeparators ps
      → AreStatements 1 ts bs k → AreFunctions k us fs n → IsTrue (are_distinct (map function_name fs))
      → IsScript (ps ++ (ts ++ us)) (record { statements = bs; functions = fs })
  a_script_to_the_end : (l k n : ℕ) (ps ts us : List Lexeme) (bs : List SeenStatement) (b : Body) → AreSeparators ps
      → AreStatements 1 ts bs k → IsBody l k us b n
      → IsScript (ps ++ (ts ++ us))
      (record { statements = bs ++ record { line = l; shown = true; form = b } ∷ []; functions = [] })
