-- Lemmas on files in memory: the first of a name, and what is left of one.
use Rattle.std.proofs.Common.{◌≡◌, ℕ, ◌+◌, ◌<◌, ◌≤◌, true, List, [], ◌++◌, Option, Some, None, length, get_or, take, drop, sym, ◌∙◌, refl, arith, take_at, length-take-le, take-append-drop, String, Vec}
use Rattle.std.proofs.lemmas.List.{drop_more, drop-drop, drop_all}
use Rattle.std.proofs.lemmas.Option.{slice_get_read}
use Rattle.std.specs.String.{string_bytes}
use Rattle.std.specs.Str.{bytes_eq}
use Rattle.tall_outside.specs.Shelf.{file_in}
use Rattle.tall_outside.specs.MemShelf.{files_in, left_in, file_at}

-- where no file before this one has a name, and this one has, its bytes are those of the name
pub first_file : {Y Z : Type 0} (files : List (String Y × Vec ℕ Z)) (i : ℕ) (name : List ℕ) (file : String Y × Vec ℕ Z)
    → file_in (files_in (drop i files)) name ≡ file_in (files_in files) name → i < length files → file ≡ get_or files i file
    → bytes_eq (string_bytes file.0) name ≡ true → file_in (files_in files) name ≡ Some (left_in (file_at files (Some i)) 0)
first_file files i name file before within is named =
    rw (slice_get_read files (length files) i file refl within is)
    (sym before ∙ rw (drop_more files i file within, ← is, named) refl)

-- what is left further on
pub left_in-add : {Y Z : Type 0} (file : Option (String Y × Vec ℕ Z)) (at n : ℕ) → left_in file (at + n) ≡ drop n (left_in file at)
left_in-add None at n = sym (drop_all n [] (omega arith))
left_in-add (Some file) at n = sym (drop-drop n at file.1.items)

-- the front of a list, put at the front of a buffer, and the rest are the list
pub front_and_rest : (left front tail : List ℕ) (n : ℕ) → front ≡ take n left → n ≤ length left → left ≡ take n (front ++ tail) ++ drop n left
front_and_rest left front tail n is within =
    rw (is, take_at (take n left) tail n (length-take-le n left within), take-append-drop n left) refl
