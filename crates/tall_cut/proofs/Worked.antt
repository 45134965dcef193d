-- Worked rows of the definitions, by computation.
use Rattle.std.proofs.Common.{◌≡◌, [], ◌∷◌, Some, None, refl}
use Rattle.std.specs.Prelude.{codes}
use Rattle.csv.specs.Machine.{next_record}
use Rattle.csv.specs.Reading.{records_from, strip_bom}
use Rattle.tall_cut.specs.Asked.{and_name, size_in}
use Rattle.tall_cut.specs.Blocks.{ends_from, groups, joined}
use Rattle.tall_scan.specs.Rows.{file_records}

pub no_bytes : file_records 44 [] ≡ []
unfolding next_record records_from strip_bom
no_bytes = refl

-- the lines x and 1
pub two_lines : file_records 44 (120 ∷ 10 ∷ 49 ∷ 10 ∷ []) ≡ (codes "x" ∷ []) ∷ (codes "1" ∷ []) ∷ []
unfolding next_record records_from strip_bom
two_lines = refl

-- the mark, then a;b CR LF, an empty line, and c with no line end
pub mark_and_last_line : file_records 59 (239 ∷ 187 ∷ 191 ∷ 97 ∷ 59 ∷ 98 ∷ 13 ∷ 10 ∷ 10 ∷ 99 ∷ [])
    ≡ (codes "a" ∷ codes "b" ∷ []) ∷ (codes "c" ∷ []) ∷ []
unfolding next_record records_from strip_bom
mark_and_last_line = refl

-- the mark alone
pub mark_alone : file_records 44 (239 ∷ 187 ∷ 191 ∷ []) ≡ []
unfolding next_record records_from strip_bom
mark_alone = refl

-- a quoted field with the delimiter, a doubled quote and a line feed in it, then an empty field
pub quoted_field : file_records 44 (34 ∷ 97 ∷ 44 ∷ 34 ∷ 34 ∷ 10 ∷ 34 ∷ 44 ∷ 10 ∷ []) ≡ ((97 ∷ 44 ∷ 34 ∷ 10 ∷ []) ∷ [] ∷ []) ∷ []
unfolding next_record records_from strip_bom
quoted_field = refl

-- four fields as records of one, of none and of three
pub three_groups : groups 0 (1 ∷ 1 ∷ 4 ∷ []) (codes "a" ∷ codes "b" ∷ codes "c" ∷ codes "d" ∷ [])
    ≡ (codes "a" ∷ []) ∷ [] ∷ (codes "b" ∷ codes "c" ∷ codes "d" ∷ []) ∷ []
unfolding groups
three_groups = refl

-- three fields, one of them empty, one after the other from place 4
pub three_fields : joined (codes "a" ∷ [] ∷ codes "bc" ∷ []) ≡ codes "abc"
unfolding joined
three_fields = refl

pub three_ends : ends_from 4 (codes "a" ∷ [] ∷ codes "bc" ∷ []) ≡ 5 ∷ 5 ∷ 7 ∷ []
unfolding ends_from
three_ends = refl

pub size_of_a_file : size_in (Some ((codes "a.csv", codes "x") ∷ [])) (codes "a.csv") ≡ Some 1
size_of_a_file = refl

pub size_of_no_file : size_in (Some ((codes "a.csv", codes "x") ∷ [])) (codes "b.csv") ≡ None
size_of_no_file = refl

pub one_more_name : and_name (Some (codes "a" ∷ [])) (codes "b") ≡ Some (codes "a" ∷ codes "b" ∷ [])
one_more_name = refl
