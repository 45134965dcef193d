-- One file of the walk: its header, and what is left behind it.
use Rattle.std.proofs.Common.{ℕ, ◌≡◌, ◌<◌, ◌≤◌, ◌∙◌, ◌+◌, ◌^◌, List, [], ◌∷◌, length, drop, true, false, sym, ap, subst, arith}
use Rattle.std.specs.Prelude.{Option, Some, None, IfSome, IsSomeAnd, ◌&&◌, not, if◌then◌else◌, option_map}
use Rattle.std.proofs.lemmas.List.{drop_more, length-append}
use Rattle.tall_outside.specs.Shelf.{Files, file_in}
use Rattle.tall_cut.specs.Asked.{size_in}
use Rattle.tall_cut.specs.declared.feed.FeedFault.{FeedFault}
use Rattle.tall_cut.specs.declared.feed.FeedFault.TheVariants as feed
use Rattle.tall_cut.specs.Rows.{Fields, NoneLeft, TakesMany}
use Rattle.tall_value.specs.declared.faults.ReadingKind.TheVariants.{HeaderDiffers, NoFile}
use Rattle.tall_store.specs.declared.file_end.FileEnd.{FileEnd}
use Rattle.tall_store.specs.declared.file_end.FileEnd.TheVariants.{Whole, Reading, Failed, TooLarge, Memory}
use Rattle.tall_store.specs.Headers.{begins_with, is_one_record}
use Rattle.tall_store.specs.Stores.{SeenStore}
use Rattle.tall_store.specs.Walk.{WalkedFile, fault_when, walk_from}
use Rattle.tall_store.specs.FileEnds.{ChecksHeader, EndLonger, EndTooLong, FilesFollow, IsCause, NotOpened, OpensFile, fault_at}

-- ---- the walk, file by file

pub files_follow : FilesFollow
files_follow store files file row l = ap (walk_from store files file row) (drop_more store.files file [] l)

-- ---- the header

-- files have none
pub no_header : (store : SeenStore) (file row : ℕ) (left : Option (List Fields)) → store.header ≡ false
    → IfSome left (λ records. ChecksHeader store file row records None left)
no_header store file row None h = tt
no_header store file row (Some records) h =
    (ap (λ b. fault_when (b && not (begins_with store.first records)) HeaderDiffers file row) h, sym (ap (λ b. Some (if b then drop 1 records else records)) h))

-- there is no record
pub header_end : (store : SeenStore) (file row : ℕ) (left after : Option (List Fields)) → store.header ≡ true → NoneLeft left
    → IfSome left (λ records. ChecksHeader store file row records (Some (Reading (fault_at HeaderDiffers file row))) after)
header_end store file row None after h n = tt
header_end store file row (Some records) after h n =
    ap (λ b. fault_when (b && not (begins_with store.first records)) HeaderDiffers file row) h
    ∙ ap (λ rs. fault_when (not (begins_with store.first rs)) HeaderDiffers file row) n

-- the first record is another
pub header_other : (store : SeenStore) (file row : ℕ) (left rest after : Option (List Fields)) (header : List Fields) → store.header ≡ true → TakesMany left header rest
    → 0 < length header → length header ≤ 1 → is_one_record store.first header ≡ false
    → IfSome left (λ records. ChecksHeader store file row records (Some (Reading (fault_at HeaderDiffers file row))) after)
header_other store file row None rest after header h t some one o = tt
header_other store file row (Some records) None after header h t some one o = absurd t
header_other store file row (Some records) (Some rest) after [] h t some one o = absurd (omega (arith, some))
header_other store file row (Some records) (Some rest) after (fields ∷ []) h t some one o =
    ap (λ b. fault_when (b && not (begins_with store.first records)) HeaderDiffers file row) h
    ∙ ap (λ rs. fault_when (not (begins_with store.first rs)) HeaderDiffers file row) t
    ∙ ap (λ b. fault_when (not b) HeaderDiffers file row) o
header_other store file row (Some records) (Some rest) after (fields ∷ more ∷ others) h t some one o = absurd (omega (arith, one))

-- the first record is the header
pub header_same : (store : SeenStore) (file row : ℕ) (left rest after : Option (List Fields)) (header : List Fields) → store.header ≡ true → TakesMany left header rest
    → 0 < length header → length header ≤ 1 → is_one_record store.first header ≡ true → after ≡ rest
    → IfSome left (λ records. ChecksHeader store file row records None after)
header_same store file row None rest after header h t some one o e = tt
header_same store file row (Some records) None after header h t some one o e = absurd t
header_same store file row (Some records) (Some rest) after [] h t some one o e = absurd (omega (arith, some))
header_same store file row (Some records) (Some rest) after (fields ∷ []) h t some one o e = (
  ap (λ b. fault_when (b && not (begins_with store.first records)) HeaderDiffers file row) h
      ∙ ap (λ rs. fault_when (not (begins_with store.first rs)) HeaderDiffers file row) t
      ∙ ap (λ b. fault_when (not b) HeaderDiffers file row) o,
  e ∙ sym (ap (λ b. Some (if b then drop 1 records else records)) h ∙ ap (λ rs. Some (drop 1 rs)) t),
)
header_same store file row (Some records) (Some rest) after (fields ∷ more ∷ others) h t some one o e = absurd (omega (arith, one))

-- the reading broke off
pub header_unread : (store : SeenStore) (file row : ℕ) (left after : Option (List Fields)) (end : FileEnd) → IsCause end
    → IfSome left (λ records. ChecksHeader store file row records (Some end) after)
header_unread store file row None after end c = tt
header_unread store file row (Some records) after (Whole n) c = absurd c
header_unread store file row (Some records) after (Reading f) c = absurd c
header_unread store file row (Some records) after Failed c = tt
header_unread store file row (Some records) after TooLarge c = tt
header_unread store file row (Some records) after Memory c = tt

-- ---- the row numbered 2^40

-- a block has it
pub too_many_left : (left rest : Option (List Fields)) (block : List Fields) (count row : ℕ) → TakesMany left block rest → count ≡ length block → 2 ^ 40 < row + count
    → IfSome left (λ rows. 2 ^ 40 < row + length rows)
too_many_left None rest block count row t c l = tt
too_many_left (Some rows) None block count row t c l = absurd t
too_many_left (Some rows) (Some rest) block count row t c l =
    let long : length rows ≡ length block + length rest = ap length t ∙ length-append block rest in omega (arith, long, c, l)

-- it came before the end
pub too_many_ended : (left : Option (List Fields)) (row : ℕ) → 2 ^ 40 < row → IfSome left (λ rows. 2 ^ 40 < row + length rows)
too_many_ended None row l = tt
too_many_ended (Some rows) row l = omega (arith, l)

-- ---- files that are too large

-- a file that was opened is there
pub too_long_there : (held : Option Files) (size : Option ℕ) (name : List ℕ) (left : Option (List ℕ)) (end : FileEnd) → size_in held name ≡ size
    → IfSome held (λ files. IsSomeAnd (file_in files name) (λ bytes. left ≡ Some bytes)) → EndLonger end size → EndTooLong held name end
too_long_there None size name left end e o l = λ t. tt
too_long_there (Some files) size name left end e o l = λ t. by (file_in files name) o (subst (λ s. IfSome s (λ n. 2 ^ 50 < n)) (sym e) (l t))
  where
    by : (bytes : Option (List ℕ)) → IsSomeAnd bytes (λ b. left ≡ Some b) → IfSome (option_map length bytes) (λ n. 2 ^ 50 < n) → IsSomeAnd bytes (λ b. 2 ^ 50 < length b)
    by None o l = absurd o
    by (Some b) o l = l

-- one that was not opened is not too large
pub not_opened_small : (held : Option Files) (name : List ℕ) (file row : ℕ) (fault : FeedFault) (end : FileEnd) → NotOpened file row fault end → EndTooLong held name end
not_opened_small held name file row feed.NoSuch end n = λ t. absurd (other (sym n ∙ t))
  where
    other : Reading (fault_at NoFile file row) ≡ TooLarge → ⊥
    other e = cc
not_opened_small held name file row feed.Failed end n = λ t. absurd (other (sym n ∙ t))
  where
    other : Failed ≡ TooLarge → ⊥
    other e = cc
not_opened_small held name file row feed.Memory end n = λ t. absurd (other (sym n ∙ t))
  where
    other : Memory ≡ TooLarge → ⊥
    other e = cc

-- ---- from what was left to what is left, by the row that comes next

-- as many records as rows were taken
abbrev pub Follows : Option (List Fields) → Option (List Fields) → ℕ → ℕ → Type 0
Follows None left first row = Unit {0}
Follows (Some all) None first row = ⊥
Follows (Some all) (Some left) first row = first + length all ≡ row + length left

pub follows_first : (left : Option (List Fields)) (first row : ℕ) → row ≡ first → Follows left left first row
follows_first None first row e = tt
follows_first (Some all) first row e = ap (λ n. n + length all) (sym e)

pub follows_block : (all left rest : Option (List Fields)) (block : List Fields) (first row next count : ℕ) → Follows all left first row → TakesMany left block rest
    → count ≡ length block → next ≡ row + count → Follows all rest first next
follows_block None left rest block first row next count f t c n = tt
follows_block (Some all) None rest block first row next count f t c n = absurd f
follows_block (Some all) (Some left) None block first row next count f t c n = absurd t
follows_block (Some all) (Some left) (Some rest) block first row next count f t c n =
    let long : length left ≡ length block + length rest = ap length t ∙ length-append block rest in omega (arith, long, c, n, f)

pub follows_end : (all left : Option (List Fields)) (first row count : ℕ) → Follows all left first row → NoneLeft left → first + count ≡ row → IfSome all (λ records. count ≡ length records)
follows_end None left first row count f n e = tt
follows_end (Some all) None first row count f n e = absurd f
follows_end (Some all) (Some left) first row count f n e =
    let none : length left ≡ 0 = ap length n in omega (arith, none, e, f)

-- so all records of the file were counted
pub all_counted : (held : Option Files) (walked : Files → WalkedFile) (left : Option (List Fields)) (n : ℕ)
    → IfSome held (λ files. OpensFile (walked files) left) → IfSome left (λ records. n ≡ length records)
    → IfSome held (λ files. n ≡ length (walked files).records)
all_counted None walked left n told all = tt
all_counted (Some files) walked left n told all = subst (λ (l : Option (List Fields)). IfSome l (λ records. n ≡ length records)) told.1 all
