-- Depths, heights and refusals, by computation.
use Rattle.std.specs.Prelude.{◌≡◌, ℕ, suc, zero, [], ◌∷◌, ◌++◌, Some, None, replicate, codes, pos, refl}
use Rattle.tall_grammar.specs.declared.expressions.Prefix.TheVariants.{Minus}
use Rattle.tall_grammar.specs.Lexemes.{sign, word, text_value, number_value}
use Rattle.tall_grammar.specs.Refusals.{too_deep, height, first_too_high}
use Rattle.tall_grammar.specs.Trees.{Tree, tree, text, name, list, prefixed, member, call, no_trees, and_tree, no_args, value_arg, colon_arg}

-- ---- brackets and blocks

sixty_four_open : too_deep (replicate 64 (sign 1 (codes "("))) ≡ None
sixty_four_open = refl

sixty_five_open : too_deep (replicate 64 (sign 1 (codes "(")) ++ (sign 2 (codes "{") ∷ sign 3 (codes "[") ∷ [])) ≡ Some 2
sixty_five_open = refl

closed_between : too_deep (replicate 64 (sign 1 (codes "[")) ++ (word 1 (codes "end") ∷ word 2 (codes "while") ∷ [])) ≡ None
closed_between = refl

never_below_none : too_deep (replicate 3 (sign 1 (codes ")")) ++ replicate 64 (word 1 (codes "if"))) ≡ None
never_below_none = refl

word_of_no_block : too_deep (replicate 65 (word 1 (codes "elseif"))) ≡ None
word_of_no_block = refl

-- ---- heights

leaf : height (tree 1 1 (name (codes "a"))) ≡ 1
leaf = refl

empty_list : height (tree 1 1 (list no_trees)) ≡ 1
empty_list = refl

list_of_texts : height (tree 2 1 (list (and_tree (tree 1 1 (text (codes "a"))) no_trees))) ≡ 2
list_of_texts = refl

call_without_arguments : height (tree 2 1 (call (tree 1 1 (name (codes "f"))) no_args)) ≡ 2
call_without_arguments = refl

index_by_a_colon : height (tree 3 1 (call (tree 1 1 (name (codes "T"))) (value_arg (tree 2 1 (name (codes "m"))) (colon_arg no_args)))) ≡ 2
index_by_a_colon = refl

member_of_a_name : height (tree 2 1 (member (tree 1 1 (name (codes "T"))) (codes "x"))) ≡ 2
member_of_a_name = refl

-- so many signs before a name
abbrev signed : ℕ → Tree
signed zero = tree 1 7 (name (codes "a"))
signed (suc k) = tree 1 7 (prefixed Minus (signed k))

sixty_four_high : first_too_high (signed 63 ∷ []) ≡ None
sixty_four_high = refl

sixty_five_high : first_too_high (tree 1 3 (name (codes "b")) ∷ signed 64 ∷ []) ≡ Some 7
sixty_five_high = refl

-- ---- values

text_with_quotes : text_value (codes "'it''s'") ≡ codes "it's"
text_with_quotes = refl

only_quotes : text_value (codes "''''''") ≡ codes "''"
only_quotes = refl

text_in_double_quotes : text_value (34 ∷ (codes "it''s" ++ (34 ∷ 34 ∷ 34 ∷ []))) ≡ codes "it''s" ++ (34 ∷ [])
text_in_double_quotes = refl

number_with_an_exponent : number_value (codes "1.5e3") ≡ Some (pos 1500)
number_with_an_exponent = refl
