-- What several calls did to the shelf, one after the other.
use Rattle.std.specs.Prelude.{◌≡◌, refl, ℕ, zero, suc, ◌≤◌, ◌+◌, ◌⊎◌, ◌==◌, true, if◌then◌else◌, Option, None, Some, Result, Ok, Err, List, [], ◌∷◌, ◌++◌, take}
use Rattle.std.proofs.Common.{ap, sym, subst, ◌∙◌, arith, inl, inr}
use Rattle.tall_outside.specs.declared.shelf.Shelf as shelf
use Rattle.tall_outside.specs.Count.{Rose}
use Rattle.tall_outside.specs.ShelfCounts.{Counts, IsLater, shelf_counts}
use Rattle.tall_store.specs.declared.faults.ReadingFault.{ReadingFault}
use Rattle.tall_store.specs.FileEnds.{name_of_file}
use Rattle.tall_store.specs.Stores.{SeenStore}
use Rattle.tall_plan.specs.declared.passes.Pass.{Pass}
use Rattle.tall_gather.specs.declared.candidate.Candidate.{Candidate}
use Rattle.tall_gather.specs.declared.candidate.Candidate.TheVariants as candidate
use Rattle.tall_gather.specs.declared.faults.GatherFault.{GatherFault}
use Rattle.tall_gather.specs.declared.faults.GatherFault.TheVariants.{Data, Reading, Read, TooLarge, Changed, Memory}
use Rattle.tall_gather.specs.Going.{IsAnswered, IsBlamed, IsCaused, IsOpened, IsReadingOf, OpensAtMost, Went, level_openings, pass_openings}

-- ---- counts

rose_later : (a b c : ℕ) → Rose a b → b ≤ c → Rose a c
rose_later a b c h l = omega (arith, h, l)

rose_before : (a b c : ℕ) → a ≤ b → Rose b c → Rose a c
rose_before a b c l h = omega (arith, h, l)

pub later_both : (a b c : Counts) → IsLater a b → IsLater b c → IsLater a c
later_both a b c h g = record { misses = (let x = h.misses in let y = g.misses in omega (arith, x, y)); faults = (let x = h.faults in let y = g.faults in omega (arith, x, y)) }

reading_later : (list : List SeenStore) (store : ℕ) (g : ReadingFault) (a b c : Counts) → IsReadingOf list store g a b → IsLater b c → IsReadingOf list store g a c
reading_later list store g a b c r l = record { found = r.found; there = r.there; file = r.file; column = r.column; missed = λ e. rose_later a.misses b.misses c.misses (r.missed e) l.misses }

reading_before : (list : List SeenStore) (store : ℕ) (g : ReadingFault) (a b c : Counts) → IsLater a b → IsReadingOf list store g b c → IsReadingOf list store g a c
reading_before list store g a b c l r = record { found = r.found; there = r.there; file = r.file; column = r.column; missed = λ e. rose_before a.misses b.misses c.misses l.misses (r.missed e) }

pub blamed_later : (list : List SeenStore) (p : Option Candidate) (a b c : Counts) → IsBlamed list p a b → IsLater b c → IsBlamed list p a c
blamed_later list None a b c h l = tt
blamed_later list (Some (candidate.Data f)) a b c h l = tt
blamed_later list (Some (candidate.Reading r)) a b c h l = reading_later list r.store r.fault a b c h l

pub blamed_before : (list : List SeenStore) (p : Option Candidate) (a b c : Counts) → IsLater a b → IsBlamed list p b c → IsBlamed list p a c
blamed_before list None a b c l h = tt
blamed_before list (Some (candidate.Data f)) a b c l h = tt
blamed_before list (Some (candidate.Reading r)) a b c l h = reading_before list r.store r.fault a b c l h

-- ---- openings

pub opens_then : (m n : List ℕ → ℕ) (a b c : Option (List (List ℕ))) → OpensAtMost m a b → OpensAtMost n b c → OpensAtMost (λ name. m name + n name) a c
opens_then m n a b c h g names e =
    let v = h names e in
    let w = g v.0 v.1 in
    (w.0, w.1, λ name. (let x = v.2 name in let y = w.2 name in let x0 = x.0 in let x1 = x.1 in let y0 = y.0 in let y1 = y.1 in (omega (arith, x0, y0), omega (arith, x1, y1))))

module _ {S : Type 0} (s : shelf.Ghosts S) where
  pub went_none : (now : S) → Went s (λ name. 0) now now
  went_none now = record {
    held = refl;
    later = record { misses = omega arith; faults = omega arith };
    opens = λ names e. (names, e, λ name. (omega arith, omega arith));
  }

  pub went_then : (m n : List ℕ → ℕ) (a b c : S) → Went s m a b → Went s n b c → Went s (λ name. m name + n name) a c
  went_then m n a b c h g = record {
    held = g.held ∙ h.held;
    later = later_both (shelf_counts s a) (shelf_counts s b) (shelf_counts s c) h.later g.later;
    opens = opens_then m n (s.opened a) (s.opened b) (s.opened c) h.opens g.opens;
  }

  pub went_within : (m n : List ℕ → ℕ) (a b : S) → ((name : List ℕ) → m name ≤ n name) → Went s m a b → Went s n a b
  went_within m n a b less h = record {
    held = h.held;
    later = h.later;
    opens = λ names e. (let w = h.opens names e in (w.0, w.1, λ name. (let x = w.2 name in let y = x.1 in let l = less name in (x.0, omega (arith, y, l)))));
  }

  opened_before : (list : List SeenStore) (store file : ℕ) (m : List ℕ → ℕ) (a b c : S) → Went s m a b → IsOpened s list store file b c → IsOpened s list store file a c
  opened_before list store file m a b c h o = (
    o.0,
    o.1,
    o.2,
    λ names all ea ec.
        let w = h.opens names ea in
        let x = w.2 (name_of_file o.0 file) in
        let y = o.3 w.0 all w.1 ec in
        let x0 = x.0 in
        omega (arith, x0, y),
  )

  pub caused_before : (list : List SeenStore) (end : GatherFault) (m : List ℕ → ℕ) (a b c : S) → Went s m a b → IsCaused s list end b c → IsCaused s list end a c
  caused_before list (Data f) m a b c h o = tt
  caused_before list (Reading store g) m a b c h o = reading_before list store g (shelf_counts s a) (shelf_counts s b) (shelf_counts s c) h.later o
  caused_before list (Read store file) m a b c h o = (rose_before (s.faults a) (s.faults b) (s.faults c) h.later.faults o.0, opened_before list store file m a b c h o.1)
  caused_before list (TooLarge store file) m a b c h o = (o.0, opened_before list store file m a b c h o.1, λ files e. o.2 files (h.held ∙ e))
  caused_before list (Changed store file first now) m a b c h o = (o.0, opened_before list store file m a b c h o.1)
  caused_before list Memory m a b c h o = tt

  pub answered_before : (list : List SeenStore) (r : Result (Option Candidate) GatherFault) (m : List ℕ → ℕ) (a b c : S) → Went s m a b → IsAnswered s list r b c → IsAnswered s list r a c
  answered_before list (Ok p) m a b c h o = blamed_before list p (shelf_counts s a) (shelf_counts s b) (shelf_counts s c) h.later o
  answered_before list (Err e) m a b c h o = caused_before list e m a b c h o

pub blamed_earlier : (list : List SeenStore) (p q r : Option Candidate) (a b : Counts) → (r ≡ p) ⊎ (r ≡ q) → IsBlamed list p a b → IsBlamed list q a b → IsBlamed list r a b
blamed_earlier list p q r a b (inl e) h g = subst (λ x. IsBlamed list x a b) (sym e) h
blamed_earlier list p q r a b (inr e) h g = subst (λ x. IsBlamed list x a b) (sym e) g

-- ---- the openings of a level

openings_both : (list : List SeenStore) (k : ℕ) (ps qs : List Pass) (name : List ℕ) → level_openings list k (ps ++ qs) name ≡ level_openings list k ps name + level_openings list k qs name
openings_both list k [] qs name = omega arith
openings_both list k (p ∷ ps) qs name = (let h = openings_both list k ps qs name in omega (arith, h))

pub level_more : (list : List SeenStore) (k : ℕ) (ps : List Pass) (n : ℕ) (p : Pass) (name : List ℕ) → take (n + 1) ps ≡ take n ps ++ p ∷ [] → p.level ≡ k
    → level_openings list k (take n ps) name + pass_openings list p.store name ≤ level_openings list k (take (n + 1) ps) name
level_more list k ps n p name e l =
    let t : (p.level == k) ≡ true = (Rattle.std.proofs.lemmas.Bool.Decides.Decides-eqb p.level k).1 l in
    let one : level_openings list k (p ∷ []) name ≡ pass_openings list p.store name + 0 = ap (λ b. (if b then pass_openings list p.store name else 0) + 0) t in
    let both : level_openings list k (take (n + 1) ps) name ≡ level_openings list k (take n ps) name + level_openings list k (p ∷ []) name = ap (λ xs. level_openings list k xs name) e ∙ openings_both list k (take n ps) (p ∷ []) name in
    omega (arith, one, both)

pub level_skip : (list : List SeenStore) (k : ℕ) (ps : List Pass) (n : ℕ) (p : Pass) (name : List ℕ) → take (n + 1) ps ≡ take n ps ++ p ∷ []
    → level_openings list k (take n ps) name ≤ level_openings list k (take (n + 1) ps) name
level_skip list k ps n p name e =
    let both : level_openings list k (take (n + 1) ps) name ≡ level_openings list k (take n ps) name + level_openings list k (p ∷ []) name = ap (λ xs. level_openings list k xs name) e ∙ openings_both list k (take n ps) (p ∷ []) name in
    omega (arith, both)

pub level_take : (list : List SeenStore) (k : ℕ) (n : ℕ) (ps : List Pass) (name : List ℕ) → level_openings list k (take n ps) name ≤ level_openings list k ps name
level_take list k zero ps name = omega arith
level_take list k (suc n) [] name = omega arith
level_take list k (suc n) (p ∷ ps) name =
    let h = level_take list k n ps name in
    let one : level_openings list k (take (suc n) (p ∷ ps)) name ≡ (if p.level == k then pass_openings list p.store name else 0) + level_openings list k (take n ps) name = refl in
    let goes : level_openings list k (take (suc n) (p ∷ ps)) name ≤ level_openings list k (p ∷ ps) name = omega (arith, h, one) in
    goes
