-- The line of each fault, by computation.
use Rattle.std.specs.Prelude.{◌≡◌, codes, refl, None, Some}
use Rattle.std.specs.Fmt.{digits}
use Rattle.tall_value.specs.declared.faults.FaultKind.TheVariants.{Inexact, NotWhole, NanLogical, NoRows}
use Rattle.tall_local.specs.FaultLines.{refusal_text, stop_line, outside_text, outside_line, cannot_read, file_changed, file_too_large, cannot_write, out_of_memory, fault_line, usage_text}
use Rattle.tall_local.specs.Refusals.{stop_at, undefined, mixed_class, bad_class, incompatible, bad_size, bad_argument, bad_index, failed, no_file, no_header, header_differs, too_many_rows, too_many_fields, bad_field, bad_text, field_not_whole, field_inexact, no_value_left, no_progress, too_many_turns, bad_key, bad_value}

-- ---- of a fault on line 3

of_a_name : stop_line (stop_at 3 (undefined (codes "x_1"))) ≡ codes "tallrun: line 3: undefined x_1\n"
unfolding refusal_text digits
of_a_name = refl

of_two_integer_classes : stop_line (stop_at 3 mixed_class) ≡ codes "tallrun: line 3: Integers can only be combined with integers of the same class, or scalar doubles.\n"
unfolding refusal_text digits
of_two_integer_classes = refl

of_a_class : stop_line (stop_at 3 bad_class) ≡ codes "tallrun: line 3: class not accepted\n"
unfolding refusal_text digits
of_a_class = refl

of_two_spaces : stop_line (stop_at 3 incompatible) ≡ codes "tallrun: line 3: tall arrays of different rows\n"
unfolding refusal_text digits
of_two_spaces = refl

of_sizes : stop_line (stop_at 3 bad_size) ≡ codes "tallrun: line 3: sizes differ\n"
unfolding refusal_text digits
of_sizes = refl

of_an_argument : stop_line (stop_at 3 bad_argument) ≡ codes "tallrun: line 3: argument not accepted\n"
unfolding refusal_text digits
of_an_argument = refl

of_an_index : stop_line (stop_at 3 bad_index) ≡ codes "tallrun: line 3: index out of range\n"
unfolding refusal_text digits
of_an_index = refl

above_the_limit : stop_line (stop_at 3 (failed None Inexact)) ≡ codes "tallrun: line 3: result above 2^53\n"
unfolding refusal_text digits
above_the_limit = refl

above_the_limit_at_a_row : stop_line (stop_at 3 (failed (Some 12) Inexact)) ≡ codes "tallrun: line 3: row 12: result above 2^53\n"
unfolding refusal_text digits
above_the_limit_at_a_row = refl

not_whole : stop_line (stop_at 3 (failed None NotWhole)) ≡ codes "tallrun: line 3: result is not a whole number\n"
unfolding refusal_text digits
not_whole = refl

not_whole_at_a_row : stop_line (stop_at 3 (failed (Some 12) NotWhole)) ≡ codes "tallrun: line 3: row 12: result is not a whole number\n"
unfolding refusal_text digits
not_whole_at_a_row = refl

of_a_nan : stop_line (stop_at 3 (failed None NanLogical)) ≡ codes "tallrun: line 3: NaN has no logical value\n"
unfolding refusal_text digits
of_a_nan = refl

of_a_nan_at_a_row : stop_line (stop_at 3 (failed (Some 12) NanLogical)) ≡ codes "tallrun: line 3: row 12: NaN has no logical value\n"
unfolding refusal_text digits
of_a_nan_at_a_row = refl

of_no_rows : stop_line (stop_at 3 (failed None NoRows)) ≡ codes "tallrun: line 3: no rows\n"
unfolding refusal_text digits
of_no_rows = refl

of_an_absent_file : stop_line (stop_at 3 (no_file (codes "a.csv"))) ≡ codes "tallrun: line 3: no file a.csv\n"
unfolding refusal_text digits
of_an_absent_file = refl

of_no_header : stop_line (stop_at 3 (no_header (codes "a.csv"))) ≡ codes "tallrun: line 3: no header in a.csv\n"
unfolding refusal_text digits
of_no_header = refl

of_another_header : stop_line (stop_at 3 (header_differs (codes "b.csv"))) ≡ codes "tallrun: line 3: header differs in b.csv\n"
unfolding refusal_text digits
of_another_header = refl

of_rows : stop_line (stop_at 3 too_many_rows) ≡ codes "tallrun: line 3: too many rows\n"
unfolding refusal_text digits
of_rows = refl

of_fields : stop_line (stop_at 3 (too_many_fields 12)) ≡ codes "tallrun: line 3: row 12: too many fields\n"
unfolding refusal_text digits
of_fields = refl

of_a_field : stop_line (stop_at 3 (bad_field 12 (codes "v"))) ≡ codes "tallrun: line 3: row 12: variable v: not a number\n"
unfolding refusal_text digits
of_a_field = refl

of_a_text : stop_line (stop_at 3 (bad_text 12 (codes "v"))) ≡ codes "tallrun: line 3: row 12: variable v: not UTF-8\n"
unfolding refusal_text digits
of_a_text = refl

of_a_fraction : stop_line (stop_at 3 (field_not_whole 12 (codes "v"))) ≡ codes "tallrun: line 3: row 12: variable v: not a whole number\n"
unfolding refusal_text digits
of_a_fraction = refl

of_a_large_field : stop_line (stop_at 3 (field_inexact 12 (codes "v"))) ≡ codes "tallrun: line 3: row 12: variable v: above 2^53\n"
unfolding refusal_text digits
of_a_large_field = refl

of_an_empty_iterator : stop_line (stop_at 3 no_value_left) ≡ codes "tallrun: line 3: no value left\n"
unfolding refusal_text digits
of_an_empty_iterator = refl

of_a_loop : stop_line (stop_at 3 no_progress) ≡ codes "tallrun: line 3: loop takes no value\n"
unfolding refusal_text digits
of_a_loop = refl

of_turns : stop_line (stop_at 3 too_many_turns) ≡ codes "tallrun: line 3: too many turns\n"
unfolding refusal_text digits
of_turns = refl

of_a_key : stop_line (stop_at 3 bad_key) ≡ codes "tallrun: line 3: key not accepted\n"
unfolding refusal_text digits
of_a_key = refl

of_a_value : stop_line (stop_at 3 bad_value) ≡ codes "tallrun: line 3: value not accepted\n"
unfolding refusal_text digits
of_a_value = refl

-- ---- of the outside

of_a_refused_file : outside_line (cannot_read (codes "a.csv")) ≡ codes "tallrun: cannot read a.csv\n"
unfolding outside_text digits
of_a_refused_file = refl

of_a_changed_file : outside_line (file_changed (codes "a.csv") 12 7) ≡ codes "tallrun: file a.csv changed: 12 rows, then 7\n"
unfolding outside_text digits
of_a_changed_file = refl

of_a_large_file : outside_line (file_too_large (codes "a.csv")) ≡ codes "tallrun: file a.csv above 2^50 bytes\n"
unfolding outside_text digits
of_a_large_file = refl

of_a_refused_write : outside_line cannot_write ≡ codes "tallrun: cannot write\n"
unfolding outside_text digits
of_a_refused_write = refl

of_memory : outside_line out_of_memory ≡ codes "tallrun: out of memory\n"
unfolding outside_text digits
of_memory = refl

of_the_words : fault_line usage_text ≡ codes "tallrun: usage: tallrun [--workers N] SCRIPT\n"
unfolding outside_text digits
of_the_words = refl
