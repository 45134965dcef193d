-- Conditions, loops, iterators and pairs in functions, by computation.
use Rattle.std.specs.Prelude.{pos, ◌≡◌, [], ◌∷◌, codes, refl, true, false, None, Some}
use Rattle.tall_value.specs.declared.faults.FaultKind.TheVariants.{Inexact, NanLogical}
use Rattle.tall_grammar.specs.Trees.{while_step, assign_step, add_step, for_step, if_step, and_arm, no_arms}
use Rattle.tall_grammar.specs.declared.expressions.Infix.TheVariants.{And, Eq, Gt, Add, Sub, DotDiv}
use Rattle.tall_local.specs.Expressions.{gives}
use Rattle.tall_local.specs.Locals.{value}
use Rattle.tall_local.specs.Calls.{call_map, ends, breaks, begin_turn, while_turns, turn_limit}
use Rattle.tall_local.specs.Memory.{scalar}
use Rattle.tall_local.specs.Pairs.{has_room, is_within_store}
use Rattle.tall_value.specs.Cells.{logical, double}
use Rattle.tall_local.specs.Refusals.{stop_at, undefined, bad_class, bad_size, bad_argument, bad_index, failed, no_value_left, no_progress, too_many_turns}
use Rattle.tall_script_rows.specs.RowWords.{whole_runs, block, map_parameters, map_stop, reduce_stop, after_turns, at_line}
use Rattle.tall_script_rows.specs.Drafts.{number, text, name, infix_of, member, call, steps, with_line, function_from, parameter}

-- if data.x > 0 / end
column_as_condition : map_stop (
    if_step 2 (and_arm (with_line 2 (infix_of Gt (member (name "data") "x") (number 0))) (steps []) no_arms) (steps []) ∷ []) ≡ at_line 2 bad_size
unfolding whole_runs
column_as_condition = refl

-- if 'a' / end
text_as_condition : map_stop (
    if_step 2 (and_arm (with_line 2 (text "a")) (steps []) no_arms) (steps []) ∷ []) ≡ at_line 2 bad_class
unfolding whole_runs
text_as_condition = refl

-- if data.g / end
text_column_as_condition : map_stop (
    if_step 2 (and_arm (with_line 2 (member (name "data") "g")) (steps []) no_arms) (steps []) ∷ []) ≡ at_line 2 bad_class
unfolding whole_runs
text_column_as_condition = refl

-- if data / end
table_as_condition : map_stop (
    if_step 2 (and_arm (with_line 2 (name "data")) (steps []) no_arms) (steps []) ∷ []) ≡ at_line 2 bad_class
unfolding whole_runs
table_as_condition = refl

-- if store / end
store_as_condition : map_stop (
    if_step 2 (and_arm (with_line 2 (name "store")) (steps []) no_arms) (steps []) ∷ []) ≡ at_line 2 bad_class
unfolding whole_runs
store_as_condition = refl

-- while NaN / end
nan_as_condition : map_stop (
    while_step 2 (name "NaN") (steps []) ∷ []) ≡ at_line 2 (failed None NanLogical)
unfolding whole_runs
nan_as_condition = refl

-- if 0 / x = 1; / elseif y / end
line_of_an_elseif : map_stop (
    if_step 2 (and_arm (with_line 2 (number 0)) (steps (assign_step 3 (codes "x") (number 1) ∷ [])) (and_arm (with_line 4 (name "y")) (steps []) no_arms)) (steps []) ∷ []) ≡ at_line 4 (undefined (codes "y"))
unfolding whole_runs
line_of_an_elseif = refl

-- if 0 / x = 1; / else / x = y; / end
else_is_run : map_stop (
    if_step 2 (and_arm (with_line 2 (number 0)) (steps (assign_step 3 (codes "x") (number 1) ∷ [])) no_arms) (steps (assign_step 5 (codes "x") (name "y") ∷ [])) ∷ []) ≡ at_line 5 (undefined (codes "y"))
unfolding whole_runs
else_is_run = refl

-- if 1 / x = 1; / elseif y / end / x = z;
first_that_holds : map_stop (
    if_step 2 (and_arm (with_line 2 (number 1)) (steps (assign_step 3 (codes "x") (number 1) ∷ [])) (and_arm (with_line 4 (name "y")) (steps []) no_arms)) (steps []) ∷
    assign_step 6 (codes "x") (name "z") ∷ []) ≡ at_line 6 (undefined (codes "z"))
unfolding whole_runs
first_that_holds = refl

-- for k = NaN:1 / end
nan_as_a_bound : map_stop (
    for_step 2 (codes "k") (name "NaN") (number 1) (steps []) ∷ []) ≡ at_line 2 bad_index
unfolding whole_runs
nan_as_a_bound = refl

-- for k = NaN:int8(1) / end
classes_of_bounds_first : map_stop (
    for_step 2 (codes "k") (name "NaN") (call "int8" (number 1 ∷ [])) (steps []) ∷ []) ≡ at_line 2 bad_class
unfolding whole_runs
classes_of_bounds_first = refl

-- for k = 1:data.d / end
column_as_a_bound : map_stop (
    for_step 2 (codes "k") (number 1) (member (name "data") "d") (steps []) ∷ []) ≡ at_line 2 bad_class
unfolding whole_runs
column_as_a_bound = refl

-- for k = int8(1):y / end
both_bounds_are_evaluated_first : map_stop (
    for_step 2 (codes "k") (call "int8" (number 1 ∷ [])) (name "y") (steps []) ∷ []) ≡ at_line 2 (undefined (codes "y"))
unfolding whole_runs
both_bounds_are_evaluated_first = refl

-- for k = 2:1 / x = y; / end
no_turn : map_stop (
    for_step 2 (codes "k") (number 2) (number 1) (steps (assign_step 3 (codes "x") (name "y") ∷ [])) ∷ []) ≡ None
unfolding whole_runs
no_turn = refl

-- s = 0; / for k = 1:4 / s = s + k; / end / if s == 10 / x = y; / end
turns_of_a_for : map_stop (
    assign_step 2 (codes "s") (number 0) ∷
    for_step 3 (codes "k") (number 1) (number 4) (steps (assign_step 4 (codes "s") (infix_of Add (name "s") (name "k")) ∷ [])) ∷
    if_step 6 (and_arm (with_line 6 (infix_of Eq (name "s") (number 10))) (steps (assign_step 7 (codes "x") (name "y") ∷ [])) no_arms) (steps []) ∷ []) ≡ at_line 7 (undefined (codes "y"))
unfolding whole_runs
turns_of_a_for = refl

-- n = 3; / while n > 0 / n = n - 1; / end / x = 1 ./ n;
while_of_a_variable : map_stop (
    assign_step 2 (codes "n") (number 3) ∷
    while_step 3 (infix_of Gt (name "n") (number 0)) (steps (assign_step 4 (codes "n") (infix_of Sub (name "n") (number 1)) ∷ [])) ∷
    assign_step 6 (codes "x") (infix_of DotDiv (number 1) (name "n")) ∷ []) ≡ at_line 6 (failed None Inexact)
unfolding whole_runs
while_of_a_variable = refl

-- the values are 1 and 2
-- a = getnext(values); / b = getnext(values); / x = 1 ./ (a - b + 1);
values_in_order : reduce_stop (
    assign_step 2 (codes "a") (call "getnext" (name "values" ∷ [])) ∷
    assign_step 3 (codes "b") (call "getnext" (name "values" ∷ [])) ∷
    assign_step 4 (codes "x") (infix_of DotDiv (number 1) (infix_of Add (infix_of Sub (name "a") (name "b")) (number 1))) ∷ []) ≡ at_line 4 (failed None Inexact)
unfolding whole_runs
values_in_order = refl

-- a = getnext(values); / a = getnext(values); / a = getnext(values);
value_past_the_last : reduce_stop (
    assign_step 2 (codes "a") (call "getnext" (name "values" ∷ [])) ∷
    assign_step 3 (codes "a") (call "getnext" (name "values" ∷ [])) ∷
    assign_step 4 (codes "a") (call "getnext" (name "values" ∷ [])) ∷ []) ≡ at_line 4 no_value_left
unfolding whole_runs
value_past_the_last = refl

-- x = values;
iterator_assigned : reduce_stop (
    assign_step 2 (codes "x") (name "values") ∷ []) ≡ at_line 2 bad_class
unfolding whole_runs
iterator_assigned = refl

-- x = values + 1;
iterator_as_operand : reduce_stop (
    assign_step 2 (codes "x") (infix_of Add (name "values") (number 1)) ∷ []) ≡ at_line 2 bad_class
unfolding whole_runs
iterator_as_operand = refl

-- x = getnext(key);
getnext_of_a_key : reduce_stop (
    assign_step 2 (codes "x") (call "getnext" (name "key" ∷ [])) ∷ []) ≡ at_line 2 bad_argument
unfolding whole_runs
getnext_of_a_key = refl

-- a parameter that was assigned is an ordinary name
-- values = 1; / x = getnext(values);
name_that_was_the_iterator : reduce_stop (
    assign_step 2 (codes "values") (number 1) ∷
    assign_step 3 (codes "x") (call "getnext" (name "values" ∷ [])) ∷ []) ≡ at_line 3 bad_argument
unfolding whole_runs
name_that_was_the_iterator = refl

-- while hasnext(values) / x = 1; / end
loop_takes_no_value : reduce_stop (
    while_step 2 (call "hasnext" (name "values" ∷ [])) (steps (assign_step 3 (codes "x") (number 1) ∷ [])) ∷ []) ≡ at_line 2 no_progress
unfolding whole_runs
loop_takes_no_value = refl

-- while hasnext(values) / x = getnext(values); / end / x = 1 ./ (x - 2);
loop_takes_each_value : reduce_stop (
    while_step 2 (call "hasnext" (name "values" ∷ [])) (steps (assign_step 3 (codes "x") (call "getnext" (name "values" ∷ [])) ∷ [])) ∷
    assign_step 5 (codes "x") (infix_of DotDiv (number 1) (infix_of Sub (name "x") (number 2))) ∷ []) ≡ at_line 5 (failed None Inexact)
unfolding whole_runs
loop_takes_each_value = refl

-- n = 0; / while hasnext(values) / if n / x = getnext(values); / end / n = n + 1; / end
loop_takes_a_value_in_its_second_turn : reduce_stop (
    assign_step 2 (codes "n") (number 0) ∷
    while_step 3 (call "hasnext" (name "values" ∷ [])) (steps (if_step 4 (and_arm (with_line 4 (name "n")) (steps (assign_step 5 (codes "x") (call "getnext" (name "values" ∷ [])) ∷ [])) no_arms) (steps []) ∷ assign_step 7 (codes "n") (infix_of Add (name "n") (number 1)) ∷ [])) ∷ []) ≡ at_line 3 no_progress
unfolding whole_runs
loop_takes_a_value_in_its_second_turn = refl

-- while hasnext(values) / x = y; / end
fault_of_a_turn_before_its_progress : reduce_stop (
    while_step 2 (call "hasnext" (name "values" ∷ [])) (steps (assign_step 3 (codes "x") (name "y") ∷ [])) ∷ []) ≡ at_line 3 (undefined (codes "y"))
unfolding whole_runs
fault_of_a_turn_before_its_progress = refl

-- n = 3; / while hasnext(values) & (n > 0) / n = n - 1; / end / x = y;
another_condition_has_no_such_test : reduce_stop (
    assign_step 2 (codes "n") (number 3) ∷
    while_step 3 (infix_of And (call "hasnext" (name "values" ∷ [])) (infix_of Gt (name "n") (number 0))) (steps (assign_step 4 (codes "n") (infix_of Sub (name "n") (number 1)) ∷ [])) ∷
    assign_step 6 (codes "x") (name "y") ∷ []) ≡ at_line 6 (undefined (codes "y"))
unfolding whole_runs
another_condition_has_no_such_test = refl

-- a call has begun all turns but one, and then all
last_turn : begin_turn 4 (after_turns 16777214) (λ s. ends s) ≡ ends (after_turns 16777215)
last_turn = refl

turn_past_the_last : begin_turn 4 (after_turns 16777215) (λ s. ends s) ≡ breaks (stop_at 4 too_many_turns) (after_turns 16777215)
turn_past_the_last = refl

-- one more turn begins after its condition was found true: while 1 on line 4
condition_before_the_turn : while_turns turn_limit 4 (number 1) (λ s. gives (value (scalar (logical true))) s) (λ s. ends s) (after_turns 16777215)
    ≡ breaks (stop_at 4 too_many_turns) (after_turns 16777215)
unfolding whole_runs
condition_before_the_turn = refl

no_turn_begins : while_turns turn_limit 4 (number 0) (λ s. gives (value (scalar (logical false))) s) (λ s. ends s) (after_turns 16777215)
    ≡ ends (after_turns 16777215)
unfolding whole_runs
no_turn_begins = refl

-- add(store, 1, 2) / add(store, 1, 3) / x = y
pairs_before_the_fault : call_map (function_from "f" 1 map_parameters (add_step 2 (name "store") (number 1) (number 2) ∷ add_step 3 (name "store") (number 1) (number 3) ∷ assign_step 4 (codes "x") (with_line 4 (name "y")) ∷ [])) block []
    ≡ record {
      pairs = record { key = double (Some (pos 1)); value = double (Some (pos 2)); line = 2 } ∷ record { key = double (Some (pos 1)); value = double (Some (pos 3)); line = 3 } ∷ [];
      stop = at_line 4 (undefined (codes "y"));
    }
unfolding whole_runs
pairs_before_the_fault = refl

-- function f(store, ~, store): the name is the third parameter's
two_parameters_of_a_name : (call_map (function_from "f" 1 (parameter "store" ∷ None ∷ parameter "store" ∷ []) (add_step 2 (name "store") (number 1) (number 1) ∷ [])) block []).stop ≡ None
unfolding whole_runs
two_parameters_of_a_name = refl

-- function f(a, true, store)
parameter_hides_a_constant : (call_map (function_from "f" 1 (parameter "a" ∷ parameter "true" ∷ parameter "store" ∷ []) (assign_step 2 (codes "x") (with_line 2 (name "true")) ∷ [])) block []).stop ≡ at_line 2 (undefined (codes "true"))
unfolding whole_runs
parameter_hides_a_constant = refl

room_for_the_first_pair : has_room [] ≡ true
room_for_the_first_pair = refl

greatest_number_of_pairs : is_within_store 1099511627775 ≡ true
greatest_number_of_pairs = refl

too_many_pairs : is_within_store 1099511627776 ≡ false
too_many_pairs = refl
