-- Worked rows of the definitions, by computation.
use Rattle.std.proofs.Common.{◌≡◌, ℕ, ◌-◌, ◌^◌, true, false, [], ◌∷◌, Some, None, Ok, Err, refl, lit≤, arith}
use Rattle.std.specs.Prelude.{codes}
use Rattle.tall_outside.specs.Count.{raised, Rose}
use Rattle.tall_outside.specs.Shelf.{Files, file_in, openings_of, came_after}
use Rattle.tall_outside.specs.MemShelf.{have_distinct_names}

abbrev files : Files
files = (codes "a.csv", 49 ∷ []) ∷ (codes "b.csv", []) ∷ (codes "a.csv", 50 ∷ []) ∷ []

pub first_of_two : file_in files (codes "a.csv") ≡ Some (49 ∷ [])
first_of_two = refl

pub empty_file : file_in files (codes "b.csv") ≡ Some []
empty_file = refl

pub missing_file : file_in files (codes "a.cs") ≡ None
missing_file = refl

pub one_name_twice : have_distinct_names files ≡ false
one_name_twice = refl

pub two_names : have_distinct_names ((codes "a", []) ∷ (codes "b", []) ∷ []) ≡ true
two_names = refl

pub opened_twice : openings_of (codes "a") (codes "a" ∷ codes "b" ∷ codes "a" ∷ []) ≡ 2
opened_twice = refl

pub raised_once : raised 7 ≡ 8
raised_once = refl

pub stays_at_the_end : raised (2 ^ 64 - 1) ≡ 2 ^ 64 - 1
stays_at_the_end = refl

pub rose_by_one : Rose 7 8
rose_by_one = lit≤ tt

pub same_is_no_rise : Rose 7 7 → ⊥
same_is_no_rise rose = omega arith

pub taken_as_risen_at_the_end : Rose (2 ^ 64 - 1) (2 ^ 64 - 1)
taken_as_risen_at_the_end = lit≤ tt

pub came_more : came_after {E = ℕ} 6 (Ok 4) ≡ 10
came_more = refl

pub came_to_the_end : came_after {E = ℕ} (2 ^ 64 - 3) (Ok 4) ≡ 2 ^ 64 - 1
came_to_the_end = refl

pub came_no_more : came_after {E = ℕ} 6 (Err 0) ≡ 6
came_no_more = refl
