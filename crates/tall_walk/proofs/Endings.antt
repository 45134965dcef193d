-- What was opened, what is blamed, and how a walk ends.
use Rattle.std.proofs.Common.{ℕ, ◌≡◌, ◌∙◌, ◌<◌, ◌≤◌, ◌+◌, ◌^◌, inl, inr, List, [], ◌∷◌, ◌++◌, Bool, true, false, sym, ap, subst, refl, arith, length, take, get_or, leb, ltb}
use Rattle.std.specs.Prelude.{IfErr, IfOk, ◌&&◌, ◌≢◌, Option, Some, None, IfSome, Result, Err, option_map}
use Rattle.std.proofs.lemmas.Bool.{leb-true}
use Rattle.std.proofs.lemmas.List.{append_assoc, append-nil, take_more}
use Rattle.tall_outside.specs.Count.{Rose}
use Rattle.tall_outside.specs.OpenedNames.{Adds, OpensOnce}
use Rattle.tall_outside.specs.Shelf.{Files}
use Rattle.tall_outside.specs.ShelfCounts.{Counts, IsLater}
use Rattle.tall_cut.specs.Asked.{and_name}
use Rattle.tall_cut.specs.Cuts.{rows_of}
use Rattle.tall_cut.specs.declared.cutter.ReadSize.{ReadSize}
use Rattle.tall_cut.specs.declared.cutter.ReadSize.TheVariants.{Rows, File}
use Rattle.tall_store.specs.declared.file_end.FileEnd.{FileEnd}
use Rattle.tall_store.specs.declared.file_end.FileEnd.TheVariants as end
use Rattle.tall_store.specs.FileEnds.{EndExplained, EndTooLong, IsAtFront, name_of_file}
use Rattle.tall_store.specs.Options.{is_size}
use Rattle.tall_store.specs.Stores.{SeenStore}
use Rattle.tall_walk.specs.declared.ends.FileOutcome.{FileOutcome}
use Rattle.tall_walk.specs.declared.ends.FileOutcome.TheVariants as outcome
use Rattle.tall_walk.specs.declared.ends.WalkEnd.{WalkEnd}
use Rattle.tall_walk.specs.declared.ends.WalkEnd.TheVariants.{Whole, Reading, Stopped, Read, TooLarge, Memory}
use Rattle.tall_walk.specs.Events.{Event}
use Rattle.tall_walk.specs.OneFile.{IfEnd, OpensEnd, OpensOne, TellsFile, WholeFile}
use Rattle.tall_walk.specs.Walked.{EndsAs, EndsNext, IsExplained, IsLonger, OpensNext, Walked, WalkedTo}
use Rattle.tall_walk.proofs.Following.{its_file, meets_fault, stops_in_file}

pub some_rows : (size : ReadSize) → is_size size ≡ true → 0 < rows_of size
some_rows File e = omega arith
some_rows (Rows n) e = by (leb 1 n) (ltb n (2 ^ 31)) refl e
  where
    by : (a b : Bool) → a ≡ leb 1 n → (a && b) ≡ true → 0 < n
    by true b t e = leb-true 1 n (sym t)
    by false b t e = absurd cc

-- ---- openings

abbrev Names : Type 0
Names = List (List ℕ)

pub asked_one : {E : Type 0} (before asked now : Option Names) (name : List ℕ) (o : FileOutcome E) → and_name before name ≡ asked → ((names : Names) → asked ≡ Some names → now ≡ Some names) → OpensOne name before now o
asked_one {E = E} before asked now name o e h = by o (adds before e)
  where
    adds : (before : Option Names) → and_name before name ≡ asked → Adds (name ∷ []) before now
    adds None e = tt
    adds (Some names) e = subst (λ n. Adds (name ∷ []) (Some names) n) (sym (h (names ++ name ∷ []) (sym e))) refl

    by : (o : FileOutcome E) → Adds (name ∷ []) before now → OpensOne name before now o
    by (outcome.Ended (end.Whole n)) a = a
    by (outcome.Ended (end.Reading g)) a = a
    by (outcome.Ended end.Failed) a = a
    by (outcome.Ended end.TooLarge) a = a
    by (outcome.Ended end.Memory) a = inr a
    by (outcome.Stopped e) a = a

pub refused_one : (file row : ℕ) (before now : Option Names) (name : List ℕ) (e : FileEnd) → IsAtFront file row e → OpensOnce name before now → (e ≢ end.Memory → Adds (name ∷ []) before now)
    → OpensEnd name before now e
refused_one file row before now name (end.Whole n) a o h = absurd a
refused_one file row before now name (end.Reading g) a o h = h (λ e. cc)
refused_one file row before now name end.Failed a o h = h (λ e. cc)
refused_one file row before now name end.TooLarge a o h = h (λ e. cc)
refused_one file row before now name end.Memory a o h = o

adds_more : (xs ys : Names) (before mid now : Option Names) → Adds xs before mid → Adds ys mid now → Adds (xs ++ ys) before now
adds_more xs ys None mid now a b = tt
adds_more xs ys (Some names) None now a b = absurd a
adds_more xs ys (Some names) (Some some) None a b = absurd b
adds_more xs ys (Some names) (Some some) (Some all) a b = b ∙ ap (λ ns. ns ++ ys) a ∙ append_assoc names xs ys

pub adds_next : (files : Names) (file : ℕ) (before mid now : Option Names) → file < length files → Adds (take file files) before mid → Adds (get_or files file [] ∷ []) mid now → Adds (take (file + 1) files) before now
adds_next files file before mid now l a b = subst (λ ns. Adds ns before now) (sym (take_more files file [] l)) (adds_more (take file files) (get_or files file [] ∷ []) before mid now a b)

adds_none : (xs : Names) (before mid now : Option Names) → Adds xs before mid → Adds [] mid now → Adds xs before now
adds_none xs before mid now a b = subst (λ ns. Adds ns before now) (append-nil xs) (adds_more xs [] before mid now a b)

-- ---- causes

pub same_counts : (e : FileEnd) (a b c : Counts) → EndExplained e a c → a.misses ≡ b.misses → a.faults ≡ b.faults → EndExplained e b c
same_counts (end.Whole n) a b c h m f = tt
same_counts (end.Reading g) a b c h m f = λ e. subst (λ n. Rose n c.misses) m (h e)
same_counts end.Failed a b c h m f = subst (λ n. Rose n c.faults) f h
same_counts end.TooLarge a b c h m f = h
same_counts end.Memory a b c h m f = tt

pub rose_later : (a b c : ℕ) → a ≤ b → Rose b c → Rose a c
rose_later a b c l r = omega (arith, r)

pub explained_later : {E : Type 0} (e : WalkEnd E) (a b c : Counts) → IsLater a b → IsExplained e b c → IsExplained e a c
explained_later Whole a b c l h = tt
explained_later (Reading g) a b c l h = λ k. rose_later a.misses b.misses c.misses l.misses (h k)
explained_later (Stopped e) a b c l h = tt
explained_later (Read file) a b c l h = rose_later a.faults b.faults c.faults l.faults h
explained_later (TooLarge file) a b c l h = h
explained_later Memory a b c l h = tt

-- ---- the end of a walk

pub ends_walk : {E : Type 0} (P : List Event → Type 0) (Q : E → List Event → Event → Type 0) (store : SeenStore) (held : Option Files) (file : ℕ) (before mid now : Option Names) (e : WalkEnd E) → file < length store.files
    → Adds (take file store.files) before mid → OpensNext (name_of_file store file) mid now (Err e) → EndsNext P Q store held file e → Walked P Q store held before now e
ends_walk P Q store held file before mid now Whole l a o t = absurd t
ends_walk P Q store held file before mid now (Reading g) l a o t = record {
  opened = file + 1;
  within = omega (arith, l);
  opens = adds_next store.files file before mid now l a o;
  tells = (t.0, subst (λ n. n < file + 1) (sym t.1) (omega arith));
}
ends_walk P Q store held file before mid now (Stopped e) l a o t = record { opened = file + 1; within = omega (arith, l); opens = adds_next store.files file before mid now l a o; tells = t }
ends_walk P Q store held file before mid now (Read k) l a o t = record { opened = file + 1; within = omega (arith, l); opens = adds_next store.files file before mid now l a o; tells = subst (λ n. n < file + 1) (sym t) (omega arith) }
ends_walk P Q store held file before mid now (TooLarge k) l a o t = record { opened = file + 1; within = omega (arith, l); opens = adds_next store.files file before mid now l a o; tells = subst (λ n. n < file + 1) (sym t) (omega arith) }
ends_walk P Q store held file before mid now Memory l a (inl o) t = record { opened = file; within = omega (arith, l); opens = adds_none (take file store.files) before mid now a o; tells = tt }
ends_walk P Q store held file before mid now Memory l a (inr o) t = record { opened = file + 1; within = omega (arith, l); opens = adds_next store.files file before mid now l a o; tells = tt }

-- ---- behind a file

pub whole_next : {E : Type 0} (P Q : List Event → Type 0) (R : E → List Event → Event → Type 0) (store : SeenStore) (held : Option Files) (file row : ℕ) (o : FileOutcome E) (r : Result ℕ (WalkEnd E)) → EndsAs file o r
    → ((es : List Event) → P es → TellsFile Q R store held file row es o) → IfOk r (λ n. (es : List Event) → P es → WholeFile Q store held file row n es)
whole_next P Q R store held file row (outcome.Ended (end.Whole n)) r e t = subst (λ x. IfOk x (λ n. (es : List Event) → P es → WholeFile Q store held file row n es)) (sym e) t
whole_next P Q R store held file row (outcome.Ended (end.Reading g)) r e t = subst (λ x. IfOk x (λ n. (es : List Event) → P es → WholeFile Q store held file row n es)) (sym e) tt
whole_next P Q R store held file row (outcome.Ended end.Failed) r e t = subst (λ x. IfOk x (λ n. (es : List Event) → P es → WholeFile Q store held file row n es)) (sym e) tt
whole_next P Q R store held file row (outcome.Ended end.TooLarge) r e t = subst (λ x. IfOk x (λ n. (es : List Event) → P es → WholeFile Q store held file row n es)) (sym e) tt
whole_next P Q R store held file row (outcome.Ended end.Memory) r e t = subst (λ x. IfOk x (λ n. (es : List Event) → P es → WholeFile Q store held file row n es)) (sym e) tt
whole_next P Q R store held file row (outcome.Stopped x) r e t = subst (λ x. IfOk x (λ n. (es : List Event) → P es → WholeFile Q store held file row n es)) (sym e) tt

pub few_next : {E : Type 0} (file row : ℕ) (o : FileOutcome E) (r : Result ℕ (WalkEnd E)) → EndsAs file o r → IfEnd o (λ x. (n : ℕ) → x ≡ end.Whole n → row + n ≤ 2 ^ 40) → IfOk r (λ n. row + n ≤ 2 ^ 40)
few_next file row (outcome.Ended (end.Whole n)) r e t = subst (λ x. IfOk x (λ n. row + n ≤ 2 ^ 40)) (sym e) (t n refl)
few_next file row (outcome.Ended (end.Reading g)) r e t = subst (λ x. IfOk x (λ n. row + n ≤ 2 ^ 40)) (sym e) tt
few_next file row (outcome.Ended end.Failed) r e t = subst (λ x. IfOk x (λ n. row + n ≤ 2 ^ 40)) (sym e) tt
few_next file row (outcome.Ended end.TooLarge) r e t = subst (λ x. IfOk x (λ n. row + n ≤ 2 ^ 40)) (sym e) tt
few_next file row (outcome.Ended end.Memory) r e t = subst (λ x. IfOk x (λ n. row + n ≤ 2 ^ 40)) (sym e) tt
few_next file row (outcome.Stopped x) r e t = subst (λ x. IfOk x (λ n. row + n ≤ 2 ^ 40)) (sym e) tt

pub ends_next : {E : Type 0} (P Q : List Event → Type 0) (R : E → List Event → Event → Type 0) (store : SeenStore) (held : Option Files) (file row : ℕ) (o : FileOutcome E) (r : Result ℕ (WalkEnd E)) → EndsAs file o r → file < length store.files
    → ((es : List Event) → P es → TellsFile Q R store held file row es o) → IfErr r (λ x. WalkedTo P store held file row → EndsNext Q R store held file x)
ends_next P Q R store held file row (outcome.Ended (end.Whole n)) r e l t = subst (λ x. IfErr x (λ y. WalkedTo P store held file row → EndsNext Q R store held file y)) (sym e) tt
ends_next P Q R store held file row (outcome.Ended (end.Reading g)) r e l t =
    subst (λ x. IfErr x (λ y. WalkedTo P store held file row → EndsNext Q R store held file y)) (sym e)
    (λ w. (meets_fault P Q store held file row g l w t, its_file file row g (t w.events w.taken).own))
ends_next P Q R store held file row (outcome.Ended end.Failed) r e l t = subst (λ x. IfErr x (λ y. WalkedTo P store held file row → EndsNext Q R store held file y)) (sym e) (λ w. refl)
ends_next P Q R store held file row (outcome.Ended end.TooLarge) r e l t =
    subst (λ x. IfErr x (λ y. WalkedTo P store held file row → EndsNext Q R store held file y)) (sym e) (λ w. refl)
ends_next P Q R store held file row (outcome.Ended end.Memory) r e l t = subst (λ x. IfErr x (λ y. WalkedTo P store held file row → EndsNext Q R store held file y)) (sym e) (λ w. tt)
ends_next P Q R store held file row (outcome.Stopped s) r e l t =
    subst (λ x. IfErr x (λ y. WalkedTo P store held file row → EndsNext Q R store held file y)) (sym e) (λ w. stops_in_file P (R s) store held file row l w t)

pub explained_next : {E : Type 0} (file : ℕ) (a b : Counts) (o : FileOutcome E) (r : Result ℕ (WalkEnd E)) → EndsAs file o r → IfEnd o (λ x. EndExplained x a b) → IfErr r (λ x. IsExplained x a b)
explained_next file a b (outcome.Ended (end.Whole n)) r e t = subst (λ x. IfErr x (λ y. IsExplained y a b)) (sym e) tt
explained_next file a b (outcome.Ended (end.Reading g)) r e t = subst (λ x. IfErr x (λ y. IsExplained y a b)) (sym e) t
explained_next file a b (outcome.Ended end.Failed) r e t = subst (λ x. IfErr x (λ y. IsExplained y a b)) (sym e) t
explained_next file a b (outcome.Ended end.TooLarge) r e t = subst (λ x. IfErr x (λ y. IsExplained y a b)) (sym e) t
explained_next file a b (outcome.Ended end.Memory) r e t = subst (λ x. IfErr x (λ y. IsExplained y a b)) (sym e) tt
explained_next file a b (outcome.Stopped s) r e t = subst (λ x. IfErr x (λ y. IsExplained y a b)) (sym e) tt

pub longer_next : {E : Type 0} (store : SeenStore) (held : Option Files) (file : ℕ) (o : FileOutcome E) (r : Result ℕ (WalkEnd E)) → EndsAs file o r → IfEnd o (EndTooLong held (name_of_file store file))
    → IfErr r (λ x. IsLonger store held x)
longer_next store held file (outcome.Ended (end.Whole n)) r e t = subst (λ x. IfErr x (λ y. IsLonger store held y)) (sym e) tt
longer_next store held file (outcome.Ended (end.Reading g)) r e t = subst (λ x. IfErr x (λ y. IsLonger store held y)) (sym e) tt
longer_next store held file (outcome.Ended end.Failed) r e t = subst (λ x. IfErr x (λ y. IsLonger store held y)) (sym e) tt
longer_next store held file (outcome.Ended end.TooLarge) r e t = subst (λ x. IfErr x (λ y. IsLonger store held y)) (sym e) (t refl)
longer_next store held file (outcome.Ended end.Memory) r e t = subst (λ x. IfErr x (λ y. IsLonger store held y)) (sym e) tt
longer_next store held file (outcome.Stopped s) r e t = subst (λ x. IfErr x (λ y. IsLonger store held y)) (sym e) tt

pub opens_next : {E : Type 0} (file : ℕ) (name : List ℕ) (before now : Option Names) (o : FileOutcome E) (r : Result ℕ (WalkEnd E)) → EndsAs file o r → OpensOne name before now o → OpensNext name before now r
opens_next file name before now (outcome.Ended (end.Whole n)) r e t = subst (λ x. OpensNext name before now x) (sym e) t
opens_next file name before now (outcome.Ended (end.Reading g)) r e t = subst (λ x. OpensNext name before now x) (sym e) t
opens_next file name before now (outcome.Ended end.Failed) r e t = subst (λ x. OpensNext name before now x) (sym e) t
opens_next file name before now (outcome.Ended end.TooLarge) r e t = subst (λ x. OpensNext name before now x) (sym e) t
opens_next file name before now (outcome.Ended end.Memory) r e t = subst (λ x. OpensNext name before now x) (sym e) t
opens_next file name before now (outcome.Stopped s) r e t = subst (λ x. OpensNext name before now x) (sym e) t

pub adds_nothing : (names : Option Names) → Adds [] names names
adds_nothing None = tt
adds_nothing (Some names) = sym (append-nil names)
