-- Worked values of the command line.
use Rattle.std.specs.Prelude.{◌≡◌, List, [], ◌∷◌, Option, Some, None, refl, codes}
use Rattle.clap.proofs.OnLiterals.{clap_on_literals}
use Rattle.clap.specs.Words.{Text}
use Rattle.tall_words.specs.Commands.{Asked, command, run_demo, run_script}

abbrev line : List Text → Option Asked
line words = command (codes "tallrun" ∷ words)

a_script_has_four_workers : line (codes "a.m" ∷ []) ≡ Some (run_script (codes "a.m") 4)
unfolding clap_on_literals
a_script_has_four_workers = refl

workers_are_told : line (codes "--workers" ∷ codes "2" ∷ codes "a.m" ∷ []) ≡ Some (run_script (codes "a.m") 2)
unfolding clap_on_literals
workers_are_told = refl

workers_may_stand_behind : line (codes "a.m" ∷ codes "--workers=64" ∷ []) ≡ Some (run_script (codes "a.m") 64)
unfolding clap_on_literals
workers_may_stand_behind = refl

numbers_may_have_a_plus_or_zeros : line (codes "--workers=+4" ∷ codes "--demo" ∷ codes "007" ∷ []) ≡ Some (run_demo 7 4)
unfolding clap_on_literals
numbers_may_have_a_plus_or_zeros = refl

the_demo_has_its_rows : line (codes "--demo" ∷ codes "1000000" ∷ []) ≡ Some (run_demo 1000000 4)
unfolding clap_on_literals
the_demo_has_its_rows = refl

two_hyphens_end_the_options : line (codes "--" ∷ codes "-x.m" ∷ []) ≡ Some (run_script (codes "-x.m") 4)
unfolding clap_on_literals
two_hyphens_end_the_options = refl

a_hyphen_is_a_name : line (codes "-" ∷ []) ≡ Some (run_script (codes "-") 4)
unfolding clap_on_literals
a_hyphen_is_a_name = refl

an_empty_word_is_a_name : line ([] ∷ []) ≡ Some (run_script [] 4)
unfolding clap_on_literals
an_empty_word_is_a_name = refl

nothing_is_no_command : line [] ≡ None
unfolding clap_on_literals
nothing_is_no_command = refl

too_many_workers : line (codes "--workers" ∷ codes "65" ∷ codes "a.m" ∷ []) ≡ None
unfolding clap_on_literals
too_many_workers = refl

no_workers : line (codes "--workers" ∷ codes "0" ∷ codes "a.m" ∷ []) ≡ None
unfolding clap_on_literals
no_workers = refl

a_negative_number : line (codes "--workers=-4" ∷ codes "a.m" ∷ []) ≡ None
unfolding clap_on_literals
a_negative_number = refl

no_number : line (codes "--workers=" ∷ codes "a.m" ∷ []) ≡ None
unfolding clap_on_literals
no_number = refl

a_repeated_option : line (codes "--workers=2" ∷ codes "--workers=2" ∷ codes "a.m" ∷ []) ≡ None
unfolding clap_on_literals
a_repeated_option = refl

a_demo_and_a_script : line (codes "--demo" ∷ codes "5" ∷ codes "a.m" ∷ []) ≡ None
unfolding clap_on_literals
a_demo_and_a_script = refl

a_demo_of_no_rows : line (codes "--demo" ∷ codes "0" ∷ []) ≡ None
unfolding clap_on_literals
a_demo_of_no_rows = refl

a_demo_of_too_many_rows : line (codes "--demo=1000001" ∷ []) ≡ None
unfolding clap_on_literals
a_demo_of_too_many_rows = refl

help_is_no_option : line (codes "--help" ∷ []) ≡ None
unfolding clap_on_literals
help_is_no_option = refl

version_is_no_option : line (codes "--version" ∷ []) ≡ None
unfolding clap_on_literals
version_is_no_option = refl

a_short_option : line (codes "-x" ∷ []) ≡ None
unfolding clap_on_literals
a_short_option = refl

two_scripts : line (codes "a.m" ∷ codes "b.m" ∷ []) ≡ None
unfolding clap_on_literals
two_scripts = refl

zeros_in_front : line (codes "--workers=04" ∷ codes "a.m" ∷ []) ≡ Some (run_script (codes "a.m") 4)
unfolding clap_on_literals
zeros_in_front = refl

a_plus_as_a_word_of_its_own : line (codes "--workers" ∷ codes "+4" ∷ codes "a.m" ∷ []) ≡ Some (run_script (codes "a.m") 4)
unfolding clap_on_literals
a_plus_as_a_word_of_its_own = refl

a_negative_number_as_a_word_of_its_own : line (codes "--workers" ∷ codes "-4" ∷ codes "a.m" ∷ []) ≡ None
unfolding clap_on_literals
a_negative_number_as_a_word_of_its_own = refl

an_option_without_its_value : line (codes "a.m" ∷ codes "--workers" ∷ []) ≡ None
unfolding clap_on_literals
an_option_without_its_value = refl

an_empty_value_of_the_demo : line (codes "--demo=" ∷ []) ≡ None
unfolding clap_on_literals
an_empty_value_of_the_demo = refl

a_repeated_demo : line (codes "--demo=1" ∷ codes "--demo=1" ∷ []) ≡ None
unfolding clap_on_literals
a_repeated_demo = refl

two_hyphens_twice : line (codes "--" ∷ codes "--" ∷ []) ≡ Some (run_script (codes "--") 4)
unfolding clap_on_literals
two_hyphens_twice = refl

a_negative_script : line (codes "-4" ∷ []) ≡ None
unfolding clap_on_literals
a_negative_script = refl
