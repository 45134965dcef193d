-- Scripts of the grammar, each with its derivation.
use Rattle.std.specs.Prelude.{ℕ, Bool, true, false, [], ◌∷◌, Some, None, pos, codes, refl}
use Rattle.tall_lex.specs.declared.tokens.TokenKind.TheVariants.{LineEnd}
use Rattle.tall_grammar.specs.declared.expressions.Prefix.TheVariants.{Minus, Not}
use Rattle.tall_grammar.specs.declared.expressions.Infix.TheVariants.{Or, And, Eq, Gt, Add, Sub, DotMul, DotDiv}
use Rattle.tall_grammar.specs.Lexemes.{Lexeme, sign, word, name_token, number_token, text_token}
use Rattle.tall_grammar.specs.Grammar.{IsScript, a_script, a_script_to_the_end, no_statements, next_statement, name_body, gather_body, property_body, bare_body, no_more_names, more_names, no_comma, comma}
use Rattle.tall_grammar.specs.Grammar.{no_more_texts, more_texts, none_listed, some_listed, in_braces, in_brackets, with_args, last_value, last_colon, next_value}
use Rattle.tall_grammar.specs.Grammar.{one_conj, or_conj, one_cmp, and_cmp, one_sum, compared_sum, one_prod, added_prod, one_pre, multiplied_pre, one_post, prefixed_pre, one_primary, member_of, call_of, a_number, a_text, a_name, inside, a_list, a_handle}
use Rattle.tall_grammar.specs.Grammar.{named, passed_over, without_steps, next_step, name_step, adding_step, choosing_step, looping_step, counting_step, an_arm, an_else, an_elseif, no_functions, next_function}
use Rattle.tall_grammar.specs.Trees.{tree, number, text, name, list, handle, prefixed, joined, member, call, no_trees, and_tree, no_args, value_arg, colon_arg}
use Rattle.tall_grammar.specs.Trees.{assign_step, add_step, if_step, while_step, for_step, no_steps, and_step, no_arms, and_arm, Body, assigned, gathered, property, bare, SeenStatement}

abbrev line_end : ℕ → Lexeme
line_end l = record { kind = LineEnd; line = l; text = 10 ∷ [] }

abbrev entry : ℕ → Bool → Body → SeenStatement
entry l shown b = record { line = l; shown = shown; form = b }

-- nothing
empty : IsScript []
    (record { statements = []; functions = [] })
empty = a_script _ _ [] _ _ _ _ refl (no_statements _) (no_functions _) refl

-- ; / ,
separators : IsScript ((sign 1 (codes ";")) ∷ (line_end 1) ∷ (sign 2 (codes ",")) ∷ [])
    (record { statements = []; functions = [] })
separators = a_script _ _ ((sign 1 (codes ";")) ∷ (line_end 1) ∷ (sign 2 (codes ",")) ∷ []) _ _ _ _ refl (no_statements _) (no_functions _) refl

-- y = a + b .* c
numbers_of_parts : IsScript ((name_token 1 (codes "y")) ∷ (sign 1 (codes "=")) ∷ (name_token 1 (codes "a")) ∷ (sign 1 (codes "+")) ∷ (name_token 1 (codes "b")) ∷ (sign 1 (codes ".*")) ∷ (name_token 1 (codes "c")) ∷ [])
    (record { statements = ((entry 1 true (assigned (codes "y") (tree 5 1 (joined Add (tree 1 1 (name (codes "a"))) (tree 4 1 (joined DotMul (tree 2 1 (name (codes "b"))) (tree 3 1 (name (codes "c"))))))))) ∷ []); functions = [] })
numbers_of_parts = a_script_to_the_end _ _ _ [] _ _ _ _ refl (no_statements _) (name_body _ _ _ _ _ _ _ (one_conj _ _ _ _ _ (one_cmp _ _ _ _ _ (one_sum _ _ _ _ _ (added_prod _ _ _ _ _ _ _ _ _ _ _ (one_prod _ _ _ _ _ (one_pre _ _ _ _ _ (one_post _ _ _ _ _ (one_primary _ _ _ _ _ (a_name _ _ _ _))))) refl (multiplied_pre _ _ _ _ _ _ _ _ _ _ _ (one_pre _ _ _ _ _ (one_post _ _ _ _ _ (one_primary _ _ _ _ _ (a_name _ _ _ _)))) refl (one_post _ _ _ _ _ (one_primary _ _ _ _ _ (a_name _ _ _ _)))))))))

-- a - b - c;
left_groups : IsScript ((name_token 1 (codes "a")) ∷ (sign 1 (codes "-")) ∷ (name_token 1 (codes "b")) ∷ (sign 1 (codes "-")) ∷ (name_token 1 (codes "c")) ∷ (sign 1 (codes ";")) ∷ [])
    (record { statements = ((entry 1 false (bare (tree 5 1 (joined Sub (tree 3 1 (joined Sub (tree 1 1 (name (codes "a"))) (tree 2 1 (name (codes "b"))))) (tree 4 1 (name (codes "c"))))))) ∷ []); functions = [] })
left_groups = a_script _ _ [] _ _ _ _ refl (next_statement _ _ _ _ _ [] _ (sign 1 (codes ";")) _ _ (bare_body _ _ _ _ _ (one_conj _ _ _ _ _ (one_cmp _ _ _ _ _ (one_sum _ _ _ _ _ (added_prod _ _ _ _ _ _ _ _ _ _ _ (added_prod _ _ _ _ _ _ _ _ _ _ _ (one_prod _ _ _ _ _ (one_pre _ _ _ _ _ (one_post _ _ _ _ _ (one_primary _ _ _ _ _ (a_name _ _ _ _))))) refl (one_pre _ _ _ _ _ (one_post _ _ _ _ _ (one_primary _ _ _ _ _ (a_name _ _ _ _))))) refl (one_pre _ _ _ _ _ (one_post _ _ _ _ _ (one_primary _ _ _ _ _ (a_name _ _ _ _)))))))) refl) refl refl (no_statements _)) (no_functions _) refl

-- a | b & c == d
levels : IsScript ((name_token 1 (codes "a")) ∷ (sign 1 (codes "|")) ∷ (name_token 1 (codes "b")) ∷ (sign 1 (codes "&")) ∷ (name_token 1 (codes "c")) ∷ (sign 1 (codes "==")) ∷ (name_token 1 (codes "d")) ∷ [])
    (record { statements = ((entry 1 true (bare (tree 7 1 (joined Or (tree 1 1 (name (codes "a"))) (tree 6 1 (joined And (tree 2 1 (name (codes "b"))) (tree 5 1 (joined Eq (tree 3 1 (name (codes "c"))) (tree 4 1 (name (codes "d"))))))))))) ∷ []); functions = [] })
levels = a_script_to_the_end _ _ _ [] _ _ _ _ refl (no_statements _) (bare_body _ _ _ _ _ (or_conj _ _ _ _ _ _ _ _ _ (one_conj _ _ _ _ _ (one_cmp _ _ _ _ _ (one_sum _ _ _ _ _ (one_prod _ _ _ _ _ (one_pre _ _ _ _ _ (one_post _ _ _ _ _ (one_primary _ _ _ _ _ (a_name _ _ _ _)))))))) (and_cmp _ _ _ _ _ _ _ _ _ (one_cmp _ _ _ _ _ (one_sum _ _ _ _ _ (one_prod _ _ _ _ _ (one_pre _ _ _ _ _ (one_post _ _ _ _ _ (one_primary _ _ _ _ _ (a_name _ _ _ _))))))) (compared_sum _ _ _ _ _ _ _ _ _ _ _ (one_sum _ _ _ _ _ (one_prod _ _ _ _ _ (one_pre _ _ _ _ _ (one_post _ _ _ _ _ (one_primary _ _ _ _ _ (a_name _ _ _ _)))))) refl (one_prod _ _ _ _ _ (one_pre _ _ _ _ _ (one_post _ _ _ _ _ (one_primary _ _ _ _ _ (a_name _ _ _ _)))))))) refl)

-- (f)(a)
parentheses : IsScript ((sign 1 (codes "(")) ∷ (name_token 1 (codes "f")) ∷ (sign 1 (codes ")")) ∷ (sign 1 (codes "(")) ∷ (name_token 1 (codes "a")) ∷ (sign 1 (codes ")")) ∷ [])
    (record { statements = ((entry 1 true (bare (tree 3 1 (call (tree 1 1 (name (codes "f"))) (value_arg (tree 2 1 (name (codes "a"))) no_args))))) ∷ []); functions = [] })
parentheses = a_script_to_the_end _ _ _ [] _ _ _ _ refl (no_statements _) (bare_body _ _ _ _ _ (one_conj _ _ _ _ _ (one_cmp _ _ _ _ _ (one_sum _ _ _ _ _ (one_prod _ _ _ _ _ (one_pre _ _ _ _ _ (one_post _ _ _ _ _ (call_of _ _ _ _ _ _ _ _ _ _ (one_primary _ _ _ _ _ (inside _ _ _ _ _ _ _ (one_conj _ _ _ _ _ (one_cmp _ _ _ _ _ (one_sum _ _ _ _ _ (one_prod _ _ _ _ _ (one_pre _ _ _ _ _ (one_post _ _ _ _ _ (one_primary _ _ _ _ _ (a_name _ _ _ _)))))))))) (with_args _ _ _ _ _ (last_value _ _ _ _ _ (one_conj _ _ _ _ _ (one_cmp _ _ _ _ _ (one_sum _ _ _ _ _ (one_prod _ _ _ _ _ (one_pre _ _ _ _ _ (one_post _ _ _ _ _ (one_primary _ _ _ _ _ (a_name _ _ _ _))))))))))))))))) refl)

-- -~a.b
signs_before : IsScript ((sign 1 (codes "-")) ∷ (sign 1 (codes "~")) ∷ (name_token 1 (codes "a")) ∷ (sign 1 (codes ".")) ∷ (name_token 1 (codes "b")) ∷ [])
    (record { statements = ((entry 1 true (bare (tree 4 1 (prefixed Minus (tree 3 1 (prefixed Not (tree 2 1 (member (tree 1 1 (name (codes "a"))) (codes "b"))))))))) ∷ []); functions = [] })
signs_before = a_script_to_the_end _ _ _ [] _ _ _ _ refl (no_statements _) (bare_body _ _ _ _ _ (one_conj _ _ _ _ _ (one_cmp _ _ _ _ _ (one_sum _ _ _ _ _ (one_prod _ _ _ _ _ (one_pre _ _ _ _ _ (prefixed_pre _ _ _ _ _ _ _ _ refl (prefixed_pre _ _ _ _ _ _ _ _ refl (one_post _ _ _ _ _ (member_of _ _ _ _ _ _ _ _ (one_primary _ _ _ _ _ (a_name _ _ _ _))))))))))) refl)

-- T(m, :)
mask : IsScript ((name_token 1 (codes "T")) ∷ (sign 1 (codes "(")) ∷ (name_token 1 (codes "m")) ∷ (sign 1 (codes ",")) ∷ (sign 1 (codes ":")) ∷ (sign 1 (codes ")")) ∷ [])
    (record { statements = ((entry 1 true (bare (tree 3 1 (call (tree 1 1 (name (codes "T"))) (value_arg (tree 2 1 (name (codes "m"))) (colon_arg no_args)))))) ∷ []); functions = [] })
mask = a_script_to_the_end _ _ _ [] _ _ _ _ refl (no_statements _) (bare_body _ _ _ _ _ (one_conj _ _ _ _ _ (one_cmp _ _ _ _ _ (one_sum _ _ _ _ _ (one_prod _ _ _ _ _ (one_pre _ _ _ _ _ (one_post _ _ _ _ _ (call_of _ _ _ _ _ _ _ _ _ _ (one_primary _ _ _ _ _ (a_name _ _ _ _)) (with_args _ _ _ _ _ (next_value _ _ _ _ _ _ _ _ _ (one_conj _ _ _ _ _ (one_cmp _ _ _ _ _ (one_sum _ _ _ _ _ (one_prod _ _ _ _ _ (one_pre _ _ _ _ _ (one_post _ _ _ _ _ (one_primary _ _ _ _ _ (a_name _ _ _ _)))))))) (last_colon _ _ _)))))))))) refl)

-- c = {'a' 'b', 'c'}
texts_in_braces : IsScript ((name_token 1 (codes "c")) ∷ (sign 1 (codes "=")) ∷ (sign 1 (codes "{")) ∷ (text_token 1 (codes "'a'")) ∷ (text_token 1 (codes "'b'")) ∷ (sign 1 (codes ",")) ∷ (text_token 1 (codes "'c'")) ∷ (sign 1 (codes "}")) ∷ [])
    (record { statements = ((entry 1 true (assigned (codes "c") (tree 4 1 (list (and_tree (tree 1 1 (text (codes "a"))) (and_tree (tree 2 1 (text (codes "b"))) (and_tree (tree 3 1 (text (codes "c"))) no_trees))))))) ∷ []); functions = [] })
texts_in_braces = a_script_to_the_end _ _ _ [] _ _ _ _ refl (no_statements _) (name_body _ _ _ _ _ _ _ (one_conj _ _ _ _ _ (one_cmp _ _ _ _ _ (one_sum _ _ _ _ _ (one_prod _ _ _ _ _ (one_pre _ _ _ _ _ (one_post _ _ _ _ _ (one_primary _ _ _ _ _ (a_list _ _ _ _ _ (in_braces _ _ _ _ _ _ _ (some_listed _ _ _ _ _ _ _ (more_texts _ _ _ _ _ _ _ _ no_comma (more_texts _ _ _ _ _ _ _ _ (comma _) (no_more_texts _ _))))))))))))))

-- c = ['a' 'b'];
texts_in_brackets : IsScript ((name_token 1 (codes "c")) ∷ (sign 1 (codes "=")) ∷ (sign 1 (codes "[")) ∷ (text_token 1 (codes "'a'")) ∷ (text_token 1 (codes "'b'")) ∷ (sign 1 (codes "]")) ∷ (sign 1 (codes ";")) ∷ [])
    (record { statements = ((entry 1 false (assigned (codes "c") (tree 3 1 (list (and_tree (tree 1 1 (text (codes "a"))) (and_tree (tree 2 1 (text (codes "b"))) no_trees)))))) ∷ []); functions = [] })
texts_in_brackets = a_script _ _ [] _ _ _ _ refl (next_statement _ _ _ _ _ [] _ (sign 1 (codes ";")) _ _ (name_body _ _ _ _ _ _ _ (one_conj _ _ _ _ _ (one_cmp _ _ _ _ _ (one_sum _ _ _ _ _ (one_prod _ _ _ _ _ (one_pre _ _ _ _ _ (one_post _ _ _ _ _ (one_primary _ _ _ _ _ (a_list _ _ _ _ _ (in_brackets _ _ _ _ _ _ _ _ _ (more_texts _ _ _ _ _ _ _ _ no_comma (no_more_texts _ _)))))))))))) refl refl (no_statements _)) (no_functions _) refl

-- c = {}
no_texts : IsScript ((name_token 1 (codes "c")) ∷ (sign 1 (codes "=")) ∷ (sign 1 (codes "{")) ∷ (sign 1 (codes "}")) ∷ [])
    (record { statements = ((entry 1 true (assigned (codes "c") (tree 1 1 (list no_trees)))) ∷ []); functions = [] })
no_texts = a_script_to_the_end _ _ _ [] _ _ _ _ refl (no_statements _) (name_body _ _ _ _ _ _ _ (one_conj _ _ _ _ _ (one_cmp _ _ _ _ _ (one_sum _ _ _ _ _ (one_prod _ _ _ _ _ (one_pre _ _ _ _ _ (one_post _ _ _ _ _ (one_primary _ _ _ _ _ (a_list _ _ _ _ _ (in_braces _ _ _ _ _ _ _ (none_listed _ _)))))))))))

-- ds.ReadSize = 2;
property_setting : IsScript ((name_token 1 (codes "ds")) ∷ (sign 1 (codes ".")) ∷ (name_token 1 (codes "ReadSize")) ∷ (sign 1 (codes "=")) ∷ (number_token 1 (codes "2")) ∷ (sign 1 (codes ";")) ∷ [])
    (record { statements = ((entry 1 false (property (codes "ds") (codes "ReadSize") (tree 1 1 (number (Some (pos 2)))))) ∷ []); functions = [] })
property_setting = a_script _ _ [] _ _ _ _ refl (next_statement _ _ _ _ _ [] _ (sign 1 (codes ";")) _ _ (property_body _ _ _ _ _ _ _ _ _ _ (one_conj _ _ _ _ _ (one_cmp _ _ _ _ _ (one_sum _ _ _ _ _ (one_prod _ _ _ _ _ (one_pre _ _ _ _ _ (one_post _ _ _ _ _ (one_primary _ _ _ _ _ (a_number _ _ _ _))))))))) refl refl (no_statements _)) (no_functions _) refl

-- [n, s t] = gather(height(T), s)
targets : IsScript ((sign 1 (codes "[")) ∷ (name_token 1 (codes "n")) ∷ (sign 1 (codes ",")) ∷ (name_token 1 (codes "s")) ∷ (name_token 1 (codes "t")) ∷ (sign 1 (codes "]")) ∷ (sign 1 (codes "=")) ∷ (name_token 1 (codes "gather")) ∷ (sign 1 (codes "(")) ∷ (name_token 1 (codes "height")) ∷ (sign 1 (codes "(")) ∷ (name_token 1 (codes "T")) ∷ (sign 1 (codes ")")) ∷ (sign 1 (codes ",")) ∷ (name_token 1 (codes "s")) ∷ (sign 1 (codes ")")) ∷ [])
    (record { statements = ((entry 1 true (gathered ((codes "n") ∷ (codes "s") ∷ (codes "t") ∷ []) (value_arg (tree 3 1 (call (tree 1 1 (name (codes "height"))) (value_arg (tree 2 1 (name (codes "T"))) no_args))) (value_arg (tree 4 1 (name (codes "s"))) no_args)))) ∷ []); functions = [] })
targets = a_script_to_the_end _ _ _ [] _ _ _ _ refl (no_statements _) (gather_body _ _ _ _ _ _ _ _ _ _ _ _ _ _ (more_names _ _ _ _ _ (comma _) (more_names _ _ _ _ _ no_comma no_more_names)) (with_args _ _ _ _ _ (next_value _ _ _ _ _ _ _ _ _ (one_conj _ _ _ _ _ (one_cmp _ _ _ _ _ (one_sum _ _ _ _ _ (one_prod _ _ _ _ _ (one_pre _ _ _ _ _ (one_post _ _ _ _ _ (call_of _ _ _ _ _ _ _ _ _ _ (one_primary _ _ _ _ _ (a_name _ _ _ _)) (with_args _ _ _ _ _ (last_value _ _ _ _ _ (one_conj _ _ _ _ _ (one_cmp _ _ _ _ _ (one_sum _ _ _ _ _ (one_prod _ _ _ _ _ (one_pre _ _ _ _ _ (one_post _ _ _ _ _ (one_primary _ _ _ _ _ (a_name _ _ _ _))))))))))))))))) (last_value _ _ _ _ _ (one_conj _ _ _ _ _ (one_cmp _ _ _ _ _ (one_sum _ _ _ _ _ (one_prod _ _ _ _ _ (one_pre _ _ _ _ _ (one_post _ _ _ _ _ (one_primary _ _ _ _ _ (a_name _ _ _ _))))))))))))

-- ds = tabularTextDatastore('a.csv', 'TextscanFormats', {'%d16'}); / T = tall(ds); / s = sum(T.x, 'native'); / s = gather(s)
native_sum : IsScript ((name_token 1 (codes "ds")) ∷ (sign 1 (codes "=")) ∷ (name_token 1 (codes "tabularTextDatastore")) ∷ (sign 1 (codes "(")) ∷ (text_token 1 (codes "'a.csv'")) ∷ (sign 1 (codes ",")) ∷ (text_token 1 (codes "'TextscanFormats'")) ∷ (sign 1 (codes ",")) ∷ (sign 1 (codes "{")) ∷ (text_token 1 (codes "'%d16'")) ∷ (sign 1 (codes "}")) ∷ (sign 1 (codes ")")) ∷ (sign 1 (codes ";")) ∷ (line_end 1) ∷ (name_token 2 (codes "T")) ∷ (sign 2 (codes "=")) ∷ (name_token 2 (codes "tall")) ∷ (sign 2 (codes "(")) ∷ (name_token 2 (codes "ds")) ∷ (sign 2 (codes ")")) ∷ (sign 2 (codes ";")) ∷ (line_end 2) ∷ (name_token 3 (codes "s")) ∷ (sign 3 (codes "=")) ∷ (name_token 3 (codes "sum")) ∷ (sign 3 (codes "(")) ∷ (name_token 3 (codes "T")) ∷ (sign 3 (codes ".")) ∷ (name_token 3 (codes "x")) ∷ (sign 3 (codes ",")) ∷ (text_token 3 (codes "'native'")) ∷ (sign 3 (codes ")")) ∷ (sign 3 (codes ";")) ∷ (line_end 3) ∷ (name_token 4 (codes "s")) ∷ (sign 4 (codes "=")) ∷ (name_token 4 (codes "gather")) ∷ (sign 4 (codes "(")) ∷ (name_token 4 (codes "s")) ∷ (sign 4 (codes ")")) ∷ [])
    (record { statements = ((entry 1 false (assigned (codes "ds") (tree 6 1 (call (tree 1 1 (name (codes "tabularTextDatastore"))) (value_arg (tree 2 1 (text (codes "a.csv"))) (value_arg (tree 3 1 (text (codes "TextscanFormats"))) (value_arg (tree 5 1 (list (and_tree (tree 4 1 (text (codes "%d16"))) no_trees))) no_args))))))) ∷ (entry 2 false (assigned (codes "T") (tree 9 2 (call (tree 7 2 (name (codes "tall"))) (value_arg (tree 8 2 (name (codes "ds"))) no_args))))) ∷ (entry 3 false (assigned (codes "s") (tree 14 3 (call (tree 10 3 (name (codes "sum"))) (value_arg (tree 12 3 (member (tree 11 3 (name (codes "T"))) (codes "x"))) (value_arg (tree 13 3 (text (codes "native"))) no_args)))))) ∷ (entry 4 true (assigned (codes "s") (tree 17 4 (call (tree 15 4 (name (codes "gather"))) (value_arg (tree 16 4 (name (codes "s"))) no_args))))) ∷ []); functions = [] })
native_sum = a_script_to_the_end _ _ _ [] _ _ _ _ refl (next_statement _ _ _ _ _ ((line_end 1) ∷ []) _ (sign 1 (codes ";")) _ _ (name_body _ _ _ _ _ _ _ (one_conj _ _ _ _ _ (one_cmp _ _ _ _ _ (one_sum _ _ _ _ _ (one_prod _ _ _ _ _ (one_pre _ _ _ _ _ (one_post _ _ _ _ _ (call_of _ _ _ _ _ _ _ _ _ _ (one_primary _ _ _ _ _ (a_name _ _ _ _)) (with_args _ _ _ _ _ (next_value _ _ _ _ _ _ _ _ _ (one_conj _ _ _ _ _ (one_cmp _ _ _ _ _ (one_sum _ _ _ _ _ (one_prod _ _ _ _ _ (one_pre _ _ _ _ _ (one_post _ _ _ _ _ (one_primary _ _ _ _ _ (a_text _ _ _ _)))))))) (next_value _ _ _ _ _ _ _ _ _ (one_conj _ _ _ _ _ (one_cmp _ _ _ _ _ (one_sum _ _ _ _ _ (one_prod _ _ _ _ _ (one_pre _ _ _ _ _ (one_post _ _ _ _ _ (one_primary _ _ _ _ _ (a_text _ _ _ _)))))))) (last_value _ _ _ _ _ (one_conj _ _ _ _ _ (one_cmp _ _ _ _ _ (one_sum _ _ _ _ _ (one_prod _ _ _ _ _ (one_pre _ _ _ _ _ (one_post _ _ _ _ _ (one_primary _ _ _ _ _ (a_list _ _ _ _ _ (in_braces _ _ _ _ _ _ _ (some_listed _ _ _ _ _ _ _ (no_more_texts _ _))))))))))))))))))))))) refl refl (next_statement _ _ _ _ _ ((line_end 2) ∷ []) _ (sign 2 (codes ";")) _ _ (name_body _ _ _ _ _ _ _ (one_conj _ _ _ _ _ (one_cmp _ _ _ _ _ (one_sum _ _ _ _ _ (one_prod _ _ _ _ _ (one_pre _ _ _ _ _ (one_post _ _ _ _ _ (call_of _ _ _ _ _ _ _ _ _ _ (one_primary _ _ _ _ _ (a_name _ _ _ _)) (with_args _ _ _ _ _ (last_value _ _ _ _ _ (one_conj _ _ _ _ _ (one_cmp _ _ _ _ _ (one_sum _ _ _ _ _ (one_prod _ _ _ _ _ (one_pre _ _ _ _ _ (one_post _ _ _ _ _ (one_primary _ _ _ _ _ (a_name _ _ _ _)))))))))))))))))) refl refl (next_statement _ _ _ _ _ ((line_end 3) ∷ []) _ (sign 3 (codes ";")) _ _ (name_body _ _ _ _ _ _ _ (one_conj _ _ _ _ _ (one_cmp _ _ _ _ _ (one_sum _ _ _ _ _ (one_prod _ _ _ _ _ (one_pre _ _ _ _ _ (one_post _ _ _ _ _ (call_of _ _ _ _ _ _ _ _ _ _ (one_primary _ _ _ _ _ (a_name _ _ _ _)) (with_args _ _ _ _ _ (next_value _ _ _ _ _ _ _ _ _ (one_conj _ _ _ _ _ (one_cmp _ _ _ _ _ (one_sum _ _ _ _ _ (one_prod _ _ _ _ _ (one_pre _ _ _ _ _ (one_post _ _ _ _ _ (member_of _ _ _ _ _ _ _ _ (one_primary _ _ _ _ _ (a_name _ _ _ _))))))))) (last_value _ _ _ _ _ (one_conj _ _ _ _ _ (one_cmp _ _ _ _ _ (one_sum _ _ _ _ _ (one_prod _ _ _ _ _ (one_pre _ _ _ _ _ (one_post _ _ _ _ _ (one_primary _ _ _ _ _ (a_text _ _ _ _))))))))))))))))))) refl refl (no_statements _)))) (name_body _ _ _ _ _ _ _ (one_conj _ _ _ _ _ (one_cmp _ _ _ _ _ (one_sum _ _ _ _ _ (one_prod _ _ _ _ _ (one_pre _ _ _ _ _ (one_post _ _ _ _ _ (call_of _ _ _ _ _ _ _ _ _ _ (one_primary _ _ _ _ _ (a_name _ _ _ _)) (with_args _ _ _ _ _ (last_value _ _ _ _ _ (one_conj _ _ _ _ _ (one_cmp _ _ _ _ _ (one_sum _ _ _ _ _ (one_prod _ _ _ _ _ (one_pre _ _ _ _ _ (one_post _ _ _ _ _ (one_primary _ _ _ _ _ (a_name _ _ _ _))))))))))))))))))

-- x = T(T.d > 0, :);
masked_rows : IsScript ((name_token 1 (codes "x")) ∷ (sign 1 (codes "=")) ∷ (name_token 1 (codes "T")) ∷ (sign 1 (codes "(")) ∷ (name_token 1 (codes "T")) ∷ (sign 1 (codes ".")) ∷ (name_token 1 (codes "d")) ∷ (sign 1 (codes ">")) ∷ (number_token 1 (codes "0")) ∷ (sign 1 (codes ",")) ∷ (sign 1 (codes ":")) ∷ (sign 1 (codes ")")) ∷ (sign 1 (codes ";")) ∷ [])
    (record { statements = ((entry 1 false (assigned (codes "x") (tree 6 1 (call (tree 1 1 (name (codes "T"))) (value_arg (tree 5 1 (joined Gt (tree 3 1 (member (tree 2 1 (name (codes "T"))) (codes "d"))) (tree 4 1 (number (Some (pos 0)))))) (colon_arg no_args)))))) ∷ []); functions = [] })
masked_rows = a_script _ _ [] _ _ _ _ refl (next_statement _ _ _ _ _ [] _ (sign 1 (codes ";")) _ _ (name_body _ _ _ _ _ _ _ (one_conj _ _ _ _ _ (one_cmp _ _ _ _ _ (one_sum _ _ _ _ _ (one_prod _ _ _ _ _ (one_pre _ _ _ _ _ (one_post _ _ _ _ _ (call_of _ _ _ _ _ _ _ _ _ _ (one_primary _ _ _ _ _ (a_name _ _ _ _)) (with_args _ _ _ _ _ (next_value _ _ _ _ _ _ _ _ _ (one_conj _ _ _ _ _ (one_cmp _ _ _ _ _ (compared_sum _ _ _ _ _ _ _ _ _ _ _ (one_sum _ _ _ _ _ (one_prod _ _ _ _ _ (one_pre _ _ _ _ _ (one_post _ _ _ _ _ (member_of _ _ _ _ _ _ _ _ (one_primary _ _ _ _ _ (a_name _ _ _ _))))))) refl (one_prod _ _ _ _ _ (one_pre _ _ _ _ _ (one_post _ _ _ _ _ (one_primary _ _ _ _ _ (a_number _ _ _ _)))))))) (last_colon _ _ _))))))))))) refl refl (no_statements _)) (no_functions _) refl

-- y = T.x ./ (T.x - m); /
ratio : IsScript ((name_token 1 (codes "y")) ∷ (sign 1 (codes "=")) ∷ (name_token 1 (codes "T")) ∷ (sign 1 (codes ".")) ∷ (name_token 1 (codes "x")) ∷ (sign 1 (codes "./")) ∷ (sign 1 (codes "(")) ∷ (name_token 1 (codes "T")) ∷ (sign 1 (codes ".")) ∷ (name_token 1 (codes "x")) ∷ (sign 1 (codes "-")) ∷ (name_token 1 (codes "m")) ∷ (sign 1 (codes ")")) ∷ (sign 1 (codes ";")) ∷ (line_end 1) ∷ [])
    (record { statements = ((entry 1 false (assigned (codes "y") (tree 7 1 (joined DotDiv (tree 2 1 (member (tree 1 1 (name (codes "T"))) (codes "x"))) (tree 6 1 (joined Sub (tree 4 1 (member (tree 3 1 (name (codes "T"))) (codes "x"))) (tree 5 1 (name (codes "m"))))))))) ∷ []); functions = [] })
ratio = a_script _ _ [] _ _ _ _ refl (next_statement _ _ _ _ _ ((line_end 1) ∷ []) _ (sign 1 (codes ";")) _ _ (name_body _ _ _ _ _ _ _ (one_conj _ _ _ _ _ (one_cmp _ _ _ _ _ (one_sum _ _ _ _ _ (one_prod _ _ _ _ _ (multiplied_pre _ _ _ _ _ _ _ _ _ _ _ (one_pre _ _ _ _ _ (one_post _ _ _ _ _ (member_of _ _ _ _ _ _ _ _ (one_primary _ _ _ _ _ (a_name _ _ _ _))))) refl (one_post _ _ _ _ _ (one_primary _ _ _ _ _ (inside _ _ _ _ _ _ _ (one_conj _ _ _ _ _ (one_cmp _ _ _ _ _ (one_sum _ _ _ _ _ (added_prod _ _ _ _ _ _ _ _ _ _ _ (one_prod _ _ _ _ _ (one_pre _ _ _ _ _ (one_post _ _ _ _ _ (member_of _ _ _ _ _ _ _ _ (one_primary _ _ _ _ _ (a_name _ _ _ _)))))) refl (one_pre _ _ _ _ _ (one_post _ _ _ _ _ (one_primary _ _ _ _ _ (a_name _ _ _ _))))))))))))))))) refl refl (no_statements _)) (no_functions _) refl

-- R = mapreduce(ds, @m, @r)
handles : IsScript ((name_token 1 (codes "R")) ∷ (sign 1 (codes "=")) ∷ (name_token 1 (codes "mapreduce")) ∷ (sign 1 (codes "(")) ∷ (name_token 1 (codes "ds")) ∷ (sign 1 (codes ",")) ∷ (sign 1 (codes "@")) ∷ (name_token 1 (codes "m")) ∷ (sign 1 (codes ",")) ∷ (sign 1 (codes "@")) ∷ (name_token 1 (codes "r")) ∷ (sign 1 (codes ")")) ∷ [])
    (record { statements = ((entry 1 true (assigned (codes "R") (tree 5 1 (call (tree 1 1 (name (codes "mapreduce"))) (value_arg (tree 2 1 (name (codes "ds"))) (value_arg (tree 3 1 (handle (codes "m"))) (value_arg (tree 4 1 (handle (codes "r"))) no_args))))))) ∷ []); functions = [] })
handles = a_script_to_the_end _ _ _ [] _ _ _ _ refl (no_statements _) (name_body _ _ _ _ _ _ _ (one_conj _ _ _ _ _ (one_cmp _ _ _ _ _ (one_sum _ _ _ _ _ (one_prod _ _ _ _ _ (one_pre _ _ _ _ _ (one_post _ _ _ _ _ (call_of _ _ _ _ _ _ _ _ _ _ (one_primary _ _ _ _ _ (a_name _ _ _ _)) (with_args _ _ _ _ _ (next_value _ _ _ _ _ _ _ _ _ (one_conj _ _ _ _ _ (one_cmp _ _ _ _ _ (one_sum _ _ _ _ _ (one_prod _ _ _ _ _ (one_pre _ _ _ _ _ (one_post _ _ _ _ _ (one_primary _ _ _ _ _ (a_name _ _ _ _)))))))) (next_value _ _ _ _ _ _ _ _ _ (one_conj _ _ _ _ _ (one_cmp _ _ _ _ _ (one_sum _ _ _ _ _ (one_prod _ _ _ _ _ (one_pre _ _ _ _ _ (one_post _ _ _ _ _ (one_primary _ _ _ _ _ (a_handle _ _ _ _ _)))))))) (last_value _ _ _ _ _ (one_conj _ _ _ _ _ (one_cmp _ _ _ _ _ (one_sum _ _ _ _ _ (one_prod _ _ _ _ _ (one_pre _ _ _ _ _ (one_post _ _ _ _ _ (one_primary _ _ _ _ _ (a_handle _ _ _ _ _))))))))))))))))))))

-- G = gather(groupsummary(T, 'g', 'sum', 'v'))
table_of_groups : IsScript ((name_token 1 (codes "G")) ∷ (sign 1 (codes "=")) ∷ (name_token 1 (codes "gather")) ∷ (sign 1 (codes "(")) ∷ (name_token 1 (codes "groupsummary")) ∷ (sign 1 (codes "(")) ∷ (name_token 1 (codes "T")) ∷ (sign 1 (codes ",")) ∷ (text_token 1 (codes "'g'")) ∷ (sign 1 (codes ",")) ∷ (text_token 1 (codes "'sum'")) ∷ (sign 1 (codes ",")) ∷ (text_token 1 (codes "'v'")) ∷ (sign 1 (codes ")")) ∷ (sign 1 (codes ")")) ∷ [])
    (record { statements = ((entry 1 true (assigned (codes "G") (tree 8 1 (call (tree 1 1 (name (codes "gather"))) (value_arg (tree 7 1 (call (tree 2 1 (name (codes "groupsummary"))) (value_arg (tree 3 1 (name (codes "T"))) (value_arg (tree 4 1 (text (codes "g"))) (value_arg (tree 5 1 (text (codes "sum"))) (value_arg (tree 6 1 (text (codes "v"))) no_args)))))) no_args))))) ∷ []); functions = [] })
table_of_groups = a_script_to_the_end _ _ _ [] _ _ _ _ refl (no_statements _) (name_body _ _ _ _ _ _ _ (one_conj _ _ _ _ _ (one_cmp _ _ _ _ _ (one_sum _ _ _ _ _ (one_prod _ _ _ _ _ (one_pre _ _ _ _ _ (one_post _ _ _ _ _ (call_of _ _ _ _ _ _ _ _ _ _ (one_primary _ _ _ _ _ (a_name _ _ _ _)) (with_args _ _ _ _ _ (last_value _ _ _ _ _ (one_conj _ _ _ _ _ (one_cmp _ _ _ _ _ (one_sum _ _ _ _ _ (one_prod _ _ _ _ _ (one_pre _ _ _ _ _ (one_post _ _ _ _ _ (call_of _ _ _ _ _ _ _ _ _ _ (one_primary _ _ _ _ _ (a_name _ _ _ _)) (with_args _ _ _ _ _ (next_value _ _ _ _ _ _ _ _ _ (one_conj _ _ _ _ _ (one_cmp _ _ _ _ _ (one_sum _ _ _ _ _ (one_prod _ _ _ _ _ (one_pre _ _ _ _ _ (one_post _ _ _ _ _ (one_primary _ _ _ _ _ (a_name _ _ _ _)))))))) (next_value _ _ _ _ _ _ _ _ _ (one_conj _ _ _ _ _ (one_cmp _ _ _ _ _ (one_sum _ _ _ _ _ (one_prod _ _ _ _ _ (one_pre _ _ _ _ _ (one_post _ _ _ _ _ (one_primary _ _ _ _ _ (a_text _ _ _ _)))))))) (next_value _ _ _ _ _ _ _ _ _ (one_conj _ _ _ _ _ (one_cmp _ _ _ _ _ (one_sum _ _ _ _ _ (one_prod _ _ _ _ _ (one_pre _ _ _ _ _ (one_post _ _ _ _ _ (one_primary _ _ _ _ _ (a_text _ _ _ _)))))))) (last_value _ _ _ _ _ (one_conj _ _ _ _ _ (one_cmp _ _ _ _ _ (one_sum _ _ _ _ _ (one_prod _ _ _ _ _ (one_pre _ _ _ _ _ (one_post _ _ _ _ _ (one_primary _ _ _ _ _ (a_text _ _ _ _))))))))))))))))))))))))))))))

-- function r(k, v, ~); / while hasnext(v) / add(o, k, getnext(v)); / end;end
loop : IsScript ((word 1 (codes "function")) ∷ (name_token 1 (codes "r")) ∷ (sign 1 (codes "(")) ∷ (name_token 1 (codes "k")) ∷ (sign 1 (codes ",")) ∷ (name_token 1 (codes "v")) ∷ (sign 1 (codes ",")) ∷ (sign 1 (codes "~")) ∷ (sign 1 (codes ")")) ∷ (sign 1 (codes ";")) ∷ (line_end 1) ∷ (word 2 (codes "while")) ∷ (name_token 2 (codes "hasnext")) ∷ (sign 2 (codes "(")) ∷ (name_token 2 (codes "v")) ∷ (sign 2 (codes ")")) ∷ (line_end 2) ∷ (name_token 3 (codes "add")) ∷ (sign 3 (codes "(")) ∷ (name_token 3 (codes "o")) ∷ (sign 3 (codes ",")) ∷ (name_token 3 (codes "k")) ∷ (sign 3 (codes ",")) ∷ (name_token 3 (codes "getnext")) ∷ (sign 3 (codes "(")) ∷ (name_token 3 (codes "v")) ∷ (sign 3 (codes ")")) ∷ (sign 3 (codes ")")) ∷ (sign 3 (codes ";")) ∷ (line_end 3) ∷ (word 4 (codes "end")) ∷ (sign 4 (codes ";")) ∷ (word 4 (codes "end")) ∷ [])
    (record { statements = []; functions = ((record { name = (codes "r"); line = 1; params = (Some (codes "k")) ∷ (Some (codes "v")) ∷ None ∷ []; body = (and_step (while_step 2 (tree 3 2 (call (tree 1 2 (name (codes "hasnext"))) (value_arg (tree 2 2 (name (codes "v"))) no_args))) (and_step (add_step 3 (tree 4 3 (name (codes "o"))) (tree 5 3 (name (codes "k"))) (tree 8 3 (call (tree 6 3 (name (codes "getnext"))) (value_arg (tree 7 3 (name (codes "v"))) no_args)))) no_steps)) no_steps) }) ∷ []) })
loop = a_script _ _ [] _ _ _ _ refl (no_statements _) (next_function _ _ _ _ _ _ _ _ _ _ _ _ _ _ (sign 1 (codes ";")) _ _ _ ((line_end 1) ∷ []) _ [] _ _ _ (named _ _) (named _ _) (passed_over _) refl refl (next_step _ _ _ _ [] _ (sign 4 (codes ";")) _ _ (looping_step _ _ _ _ _ _ _ (an_arm _ _ _ _ _ [] _ (line_end 2) _ _ (one_conj _ _ _ _ _ (one_cmp _ _ _ _ _ (one_sum _ _ _ _ _ (one_prod _ _ _ _ _ (one_pre _ _ _ _ _ (one_post _ _ _ _ _ (call_of _ _ _ _ _ _ _ _ _ _ (one_primary _ _ _ _ _ (a_name _ _ _ _)) (with_args _ _ _ _ _ (last_value _ _ _ _ _ (one_conj _ _ _ _ _ (one_cmp _ _ _ _ _ (one_sum _ _ _ _ _ (one_prod _ _ _ _ _ (one_pre _ _ _ _ _ (one_post _ _ _ _ _ (one_primary _ _ _ _ _ (a_name _ _ _ _))))))))))))))))) refl refl (next_step _ _ _ _ ((line_end 3) ∷ []) _ (sign 3 (codes ";")) _ _ (adding_step _ _ _ _ _ _ _ _ _ _ _ _ _ _ _ (one_conj _ _ _ _ _ (one_cmp _ _ _ _ _ (one_sum _ _ _ _ _ (one_prod _ _ _ _ _ (one_pre _ _ _ _ _ (one_post _ _ _ _ _ (one_primary _ _ _ _ _ (a_name _ _ _ _)))))))) (one_conj _ _ _ _ _ (one_cmp _ _ _ _ _ (one_sum _ _ _ _ _ (one_prod _ _ _ _ _ (one_pre _ _ _ _ _ (one_post _ _ _ _ _ (one_primary _ _ _ _ _ (a_name _ _ _ _)))))))) (one_conj _ _ _ _ _ (one_cmp _ _ _ _ _ (one_sum _ _ _ _ _ (one_prod _ _ _ _ _ (one_pre _ _ _ _ _ (one_post _ _ _ _ _ (call_of _ _ _ _ _ _ _ _ _ _ (one_primary _ _ _ _ _ (a_name _ _ _ _)) (with_args _ _ _ _ _ (last_value _ _ _ _ _ (one_conj _ _ _ _ _ (one_cmp _ _ _ _ _ (one_sum _ _ _ _ _ (one_prod _ _ _ _ _ (one_pre _ _ _ _ _ (one_post _ _ _ _ _ (one_primary _ _ _ _ _ (a_name _ _ _ _)))))))))))))))))) refl refl (without_steps _)))) refl refl (without_steps _)) refl (no_functions _)) refl

-- x = 1; / function m(d, ~, o) / if a; x = 1; elseif b / else for k = p:q, end; end / end /
choices : IsScript ((name_token 1 (codes "x")) ∷ (sign 1 (codes "=")) ∷ (number_token 1 (codes "1")) ∷ (sign 1 (codes ";")) ∷ (line_end 1) ∷ (word 2 (codes "function")) ∷ (name_token 2 (codes "m")) ∷ (sign 2 (codes "(")) ∷ (name_token 2 (codes "d")) ∷ (sign 2 (codes ",")) ∷ (sign 2 (codes "~")) ∷ (sign 2 (codes ",")) ∷ (name_token 2 (codes "o")) ∷ (sign 2 (codes ")")) ∷ (line_end 2) ∷ (word 3 (codes "if")) ∷ (name_token 3 (codes "a")) ∷ (sign 3 (codes ";")) ∷ (name_token 3 (codes "x")) ∷ (sign 3 (codes "=")) ∷ (number_token 3 (codes "1")) ∷ (sign 3 (codes ";")) ∷ (word 3 (codes "elseif")) ∷ (name_token 3 (codes "b")) ∷ (line_end 3) ∷ (word 4 (codes "else")) ∷ (word 4 (codes "for")) ∷ (name_token 4 (codes "k")) ∷ (sign 4 (codes "=")) ∷ (name_token 4 (codes "p")) ∷ (sign 4 (codes ":")) ∷ (name_token 4 (codes "q")) ∷ (sign 4 (codes ",")) ∷ (word 4 (codes "end")) ∷ (sign 4 (codes ";")) ∷ (word 4 (codes "end")) ∷ (line_end 4) ∷ (word 5 (codes "end")) ∷ (line_end 5) ∷ [])
    (record { statements = ((entry 1 false (assigned (codes "x") (tree 1 1 (number (Some (pos 1)))))) ∷ []); functions = ((record { name = (codes "m"); line = 2; params = (Some (codes "d")) ∷ None ∷ (Some (codes "o")) ∷ []; body = (and_step (if_step 3 (and_arm (tree 2 3 (name (codes "a"))) (and_step (assign_step 3 (codes "x") (tree 3 3 (number (Some (pos 1))))) no_steps) (and_arm (tree 4 3 (name (codes "b"))) no_steps no_arms)) (and_step (for_step 4 (codes "k") (tree 5 4 (name (codes "p"))) (tree 6 4 (name (codes "q"))) no_steps) no_steps)) no_steps) }) ∷ []) })
choices = a_script _ _ [] _ _ _ _ refl (next_statement _ _ _ _ _ ((line_end 1) ∷ []) _ (sign 1 (codes ";")) _ _ (name_body _ _ _ _ _ _ _ (one_conj _ _ _ _ _ (one_cmp _ _ _ _ _ (one_sum _ _ _ _ _ (one_prod _ _ _ _ _ (one_pre _ _ _ _ _ (one_post _ _ _ _ _ (one_primary _ _ _ _ _ (a_number _ _ _ _))))))))) refl refl (no_statements _)) (next_function _ _ _ _ _ _ _ _ _ _ _ _ _ _ (line_end 2) _ _ _ [] _ ((line_end 5) ∷ []) _ _ _ (named _ _) (passed_over _) (named _ _) refl refl (next_step _ _ _ _ [] _ (line_end 4) _ _ (choosing_step _ _ _ _ _ _ _ _ _ _ _ (an_arm _ _ _ _ _ [] _ (sign 3 (codes ";")) _ _ (one_conj _ _ _ _ _ (one_cmp _ _ _ _ _ (one_sum _ _ _ _ _ (one_prod _ _ _ _ _ (one_pre _ _ _ _ _ (one_post _ _ _ _ _ (one_primary _ _ _ _ _ (a_name _ _ _ _)))))))) refl refl (next_step _ _ _ _ [] _ (sign 3 (codes ";")) _ _ (name_step _ _ _ _ _ _ _ (one_conj _ _ _ _ _ (one_cmp _ _ _ _ _ (one_sum _ _ _ _ _ (one_prod _ _ _ _ _ (one_pre _ _ _ _ _ (one_post _ _ _ _ _ (one_primary _ _ _ _ _ (a_number _ _ _ _))))))))) refl refl (without_steps _))) (an_elseif _ _ _ _ _ _ _ _ _ _ (an_arm _ _ _ _ _ [] _ (line_end 3) _ _ (one_conj _ _ _ _ _ (one_cmp _ _ _ _ _ (one_sum _ _ _ _ _ (one_prod _ _ _ _ _ (one_pre _ _ _ _ _ (one_post _ _ _ _ _ (one_primary _ _ _ _ _ (a_name _ _ _ _)))))))) refl refl (without_steps _)) (an_else _ _ _ [] _ _ refl (next_step _ _ _ _ [] _ (sign 4 (codes ";")) _ _ (counting_step _ _ _ _ _ _ _ _ _ _ _ _ _ _ (one_conj _ _ _ _ _ (one_cmp _ _ _ _ _ (one_sum _ _ _ _ _ (one_prod _ _ _ _ _ (one_pre _ _ _ _ _ (one_post _ _ _ _ _ (one_primary _ _ _ _ _ (a_name _ _ _ _)))))))) (an_arm _ _ _ _ _ [] _ (sign 4 (codes ",")) _ _ (one_conj _ _ _ _ _ (one_cmp _ _ _ _ _ (one_sum _ _ _ _ _ (one_prod _ _ _ _ _ (one_pre _ _ _ _ _ (one_post _ _ _ _ _ (one_primary _ _ _ _ _ (a_name _ _ _ _)))))))) refl refl (without_steps _))) refl refl (without_steps _))))) refl refl (without_steps _)) refl (no_functions _)) refl
