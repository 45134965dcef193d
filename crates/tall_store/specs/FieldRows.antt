-- Values of fields in their formats, by computation.
use Rattle.std.specs.Prelude.{◌≡◌, ℕ, pos, negsuc, codes, List, [], ◌∷◌, None, Some, Ok, Err, refl}
use Rattle.std.specs.Str.{chars, is_utf8}
use Rattle.std.proofs.Math.Utf8.{encode}
use Rattle.tall_value.specs.declared.class.IntKind.TheVariants as kind
use Rattle.tall_value.specs.Cells.{whole, double, text}
use Rattle.tall_store.specs.declared.format.Format.TheVariants as format
use Rattle.tall_value.specs.declared.faults.ReadingKind.TheVariants.{BadField, BadText, NotWhole, Inexact}
use Rattle.tall_store.specs.Fields.{field_value}

-- the spellings NA and -
abbrev missing : List (List ℕ)
missing = codes "NA" ∷ codes "-" ∷ []

rounded : field_value format.Int8 [] (codes "2.5") ≡ Ok (whole kind.Int8 (pos 3))
rounded = refl

clamped : field_value format.Uint8 [] (codes "-1e3") ≡ Ok (whole kind.Uint8 (pos 0))
clamped = refl

infinite : field_value format.Int16 [] (codes "-Inf") ≡ Ok (whole kind.Int16 (negsuc 32767))
infinite = refl

not_a_number : field_value format.Int64 [] (codes "nan") ≡ Ok (whole kind.Int64 (pos 0))
not_a_number = refl

empty_integer : field_value format.Int32 [] (codes "") ≡ Ok (whole kind.Int32 (pos 0))
empty_integer = refl

bad_integer : field_value format.Int8 [] (codes "NA") ≡ Err BadField
bad_integer = refl

missing_integer : field_value format.Int8 missing (codes " NA\t") ≡ Ok (whole kind.Int8 (pos 0))
missing_integer = refl

-- byte for byte
other_case : field_value format.Int8 missing (codes "na") ≡ Err BadField
other_case = refl

whole_double : field_value format.Double [] (codes "-2.50e2") ≡ Ok (double (Some (negsuc 249)))
whole_double = refl

nan_double : field_value format.Double [] (codes "NaN") ≡ Ok (double None)
nan_double = refl

blank_double : field_value format.Double [] (codes " \t") ≡ Ok (double None)
blank_double = refl

missing_double : field_value format.Double missing (codes "-") ≡ Ok (double None)
missing_double = refl

-- missing is looked at first: a number can be a spelling of TreatAsMissing
missing_number : field_value format.Double (codes "-9.5" ∷ []) (codes "-9.5") ≡ Ok (double None)
missing_number = refl

fraction : field_value format.Double [] (codes "0.5") ≡ Err NotWhole
fraction = refl

large : field_value format.Double [] (codes "9007199254740993") ≡ Err Inexact
large = refl

infinite_double : field_value format.Double [] (codes "inf") ≡ Err Inexact
infinite_double = refl

bad_double : field_value format.Double [] (codes "5.") ≡ Err BadField
bad_double = refl

-- a text is as it stands, and never missing
text_as_it_is : field_value format.Text missing (codes " NA") ≡ Ok (text (codes " NA"))
unfolding is_utf8 chars encode
text_as_it_is = refl

empty_text : field_value format.Text missing [] ≡ Ok (text [])
unfolding is_utf8 chars encode
empty_text = refl

bad_text : field_value format.Text [] (97 ∷ 255 ∷ []) ≡ Err BadText
unfolding is_utf8 chars encode
bad_text = refl
