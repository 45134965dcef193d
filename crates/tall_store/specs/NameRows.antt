-- Names of variables, by computation.
use Rattle.std.specs.Prelude.{◌≡◌, [], ◌∷◌, codes, refl, true, false}
use Rattle.std.specs.Fmt.{digits}
use Rattle.tall_store.specs.Names.{header_names, least_free, variable_names}

-- a_1 is a header field, so the second a is a_2
suffix_of_no_field : header_names (codes "a" ∷ codes "a_1" ∷ codes "a" ∷ []) ≡ codes "a" ∷ codes "a_1" ∷ codes "a_2" ∷ []
unfolding least_free digits
suffix_of_no_field = refl

empty_field : header_names (codes "x" ∷ codes "x" ∷ [] ∷ []) ≡ codes "x" ∷ codes "x_1" ∷ codes "Var3" ∷ []
unfolding least_free digits
empty_field = refl

-- the third a is a_2, since an earlier variable is a_1
suffix_of_no_variable : header_names (codes "a" ∷ codes "a" ∷ codes "a" ∷ []) ≡ codes "a" ∷ codes "a_1" ∷ codes "a_2" ∷ []
unfolding least_free digits
suffix_of_no_variable = refl

-- a later header field keeps its name
later_field : header_names (codes "a" ∷ codes "a" ∷ codes "a_1" ∷ []) ≡ codes "a" ∷ codes "a_2" ∷ codes "a_1" ∷ []
unfolding least_free digits
later_field = refl

-- the name of an empty field can be had already, and then it gets a suffix
empty_after_its_name : header_names (codes "Var2" ∷ [] ∷ []) ≡ codes "Var2" ∷ codes "Var2_1" ∷ []
unfolding least_free digits
empty_after_its_name = refl

empty_before_its_name : header_names ([] ∷ codes "Var1" ∷ []) ≡ codes "Var1" ∷ codes "Var1_1" ∷ []
unfolding least_free digits
empty_before_its_name = refl

blank_is_a_name : variable_names true (codes " " ∷ []) ≡ codes " " ∷ []
blank_is_a_name = refl

without_names : variable_names false (codes "5" ∷ codes "5" ∷ []) ≡ codes "Var1" ∷ codes "Var2" ∷ []
unfolding digits
without_names = refl
