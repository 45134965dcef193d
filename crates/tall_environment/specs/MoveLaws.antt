-- What is kept by two moves after one another, and what a later failure blames.
use Rattle.std.proofs.Common.{◌≡◌, ◌<◌, ◌≤◌, ◌+◌, ℕ, zero, suc, List, [], ◌∷◌, ◌++◌, length, refl, sym, ap, subst, ◌∙◌, append-nil, append_assoc, arith}
use Rattle.std.specs.Prelude.{true, if◌then◌else◌, Option, Some, Result}
use Rattle.tall_value.specs.Names.{are_distinct, has_name}
use Rattle.tall_outside.specs.declared.shelf.Shelf as shelf
use Rattle.tall_outside.specs.Count.{Rose}
use Rattle.tall_outside.specs.Shelf.{Files, openings_of}
use Rattle.tall_outside.specs.ShelfCounts.{IsLater, shelf_counts}
use Rattle.tall_semantics.specs.Deferred.{IsMeaning}
use Rattle.tall_semantics.specs.Talls.{Columns, Tall}
use Rattle.tall_stored.specs.StoredColumns.{AreStored, Store}
use Rattle.tall_local.specs.Refusals as refusal
use Rattle.tall_script.specs.ScriptValues.{TallValue}
use Rattle.tall_script.specs.States.{Openings, times_allowed}
use Rattle.tall_deferred.specs.declared.faults.ValueFault.{ValueFault}
use Rattle.tall_deferred.specs.declared.values.ScriptValue.{ScriptValue}
use Rattle.tall_environment.specs.declared.failures.Refusal.{Refusal}
use Rattle.tall_environment.specs.declared.failures.Refusal.TheVariants as r
use Rattle.tall_environment.specs.declared.failures.Failure.{Failure}
use Rattle.tall_environment.specs.declared.failures.Failure.TheVariants as failure
use Rattle.tall_environment.specs.Computations.{Computes}
use Rattle.tall_environment.specs.Environments.{SeenEnvironment}
use Rattle.tall_environment.specs.Failures.{Blames, IsBlamed, IsInside, IsOpened, IsWithin}
use Rattle.tall_environment.specs.Moves.{HaveDistinctFiles, Moves, Opens, OpensMore, OpensWithin}

at_least : (n : ℕ) → n ≤ n
at_least n = omega arith

through : (a b c : ℕ) → a ≤ b → b ≤ c → a ≤ c
through a b c h k = omega (arith, h, k)

later_same : {S : Type 0} (s : shelf.Ghosts S) (now : S) → IsLater (shelf_counts s now) (shelf_counts s now)
later_same s now = record { misses = at_least (s.misses now); faults = at_least (s.faults now) }

-- ---- openings

pub both_allowed : (name : List ℕ) (os more : List Openings) → times_allowed name (os ++ more) ≡ times_allowed name os + times_allowed name more
both_allowed name [] more = none_more (times_allowed name more) where
  none_more : (n : ℕ) → n ≡ 0 + n
  none_more n = omega arith
both_allowed name (o ∷ os) more =
    let n = if has_name o.files name then o.times else 0 in
    ap (λ k. n + k) (both_allowed name os more) ∙ sum n (times_allowed name os) (times_allowed name more) where
      sum : (a b c : ℕ) → a + (b + c) ≡ (a + b) + c
      sum a b c = omega arith

more_same : (before : Option (List (List ℕ))) → OpensMore before before
more_same before names told = (names, told, λ name. at_least (openings_of name names))

more_both : (before mid now : Option (List (List ℕ))) → OpensMore before mid → OpensMore mid now → OpensMore before now
more_both before mid now h k names told =
    let a = h names told in let b = k a.0 a.1 in (b.0, b.1, λ name. through (openings_of name names) (openings_of name a.0) (openings_of name b.0) (a.2 name) (b.2 name))

same_names : (a b : List (List ℕ)) (o : Option (List (List ℕ))) → o ≡ Some a → o ≡ Some b → a ≡ b
same_names a b o h k = some_same (sym h ∙ k) where
  some_same : Some a ≡ Some b → a ≡ b
  some_same e = cc

none_opened : (before : Option (List (List ℕ))) → OpensWithin [] before before
none_opened before names all told now name = subst (λ ns. openings_of name ns ≤ openings_of name names + 0) (same_names names all before told now) (same (openings_of name names)) where
  same : (n : ℕ) → n ≤ n + 0
  same n = omega arith

both_within : (first more : List Openings) (before mid now : Option (List (List ℕ))) → OpensMore before mid → OpensWithin first before mid → OpensWithin more mid now → OpensWithin (first ++ more) before now
both_within first more before mid now grows h k names all told end name =
    let a = grows names told in
    sums (openings_of name names) (openings_of name a.0) (openings_of name all) (times_allowed name first) (times_allowed name more) (times_allowed name (first ++ more))
    (both_allowed name first more) (h names a.0 told a.1 name) (k a.0 all a.1 end name)
  where
    sums : (x y z m n k : ℕ) → k ≡ m + n → y ≤ x + m → z ≤ y + n → z ≤ x + k
    sums x y z m n k e h j = omega (arith, e, h, j)

-- nothing was done to the shelf, and no more is allowed
pub opens_none : {S : Type 0} (s : shelf.Ghosts S) (old new : SeenEnvironment) (now : S) → new.opened ≡ old.opened → new.stores ≡ old.stores → Opens s old new now now
opens_none s old new now e k = record {
  more = [];
  allowed = e ∙ sym (append-nil old.opened);
  grows = more_same (s.opened now);
  distinct = λ files told h. subst HaveDistinctFiles (sym k) h;
  within = λ files told h. none_opened (s.opened now);
}

both_opened : {S : Type 0} (s : shelf.Ghosts S) (a b c : SeenEnvironment) (x y z : S) → s.held y ≡ s.held x → Opens s a b x y → Opens s b c y z → Opens s a c x z
both_opened s a b c x y z held h k = record {
  more = h.more ++ k.more;
  allowed = k.allowed ∙ (ap (λ os. os ++ k.more) h.allowed ∙ append_assoc a.opened h.more k.more);
  grows = more_both (s.opened x) (s.opened y) (s.opened z) h.grows k.grows;
  distinct = λ files told are. k.distinct files (held ∙ told) (h.distinct files told are);
  within = λ files told are.
      both_within h.more k.more (s.opened x) (s.opened y) (s.opened z) h.grows (h.within files told are) (k.within files (held ∙ told) (h.distinct files told are));
}

-- ---- moves

pub moves_none : {S : Type 0} (s : shelf.Ghosts S) (e : SeenEnvironment) (now : S) → Moves s e e now now
moves_none s e now = record {
  names = refl;
  size = at_least (length e.graph);
  stored = λ files columns h. h;
  meant = λ columns f h. h;
  held = refl;
  counts = later_same s now;
  opens = opens_none s e e now refl refl;
}

pub moves_both : {S : Type 0} (s : shelf.Ghosts S) (a b c : SeenEnvironment) (x y z : S) → Moves s a b x y → Moves s b c y z → Moves s a c x z
moves_both s a b c x y z h k = record {
  names = k.names ∙ h.names;
  size = through (length a.graph) (length b.graph) (length c.graph) h.size k.size;
  stored = λ files columns j. h.stored files columns (k.stored files columns j);
  meant = λ columns f j. h.meant columns f (k.meant columns f j);
  held = k.held ∙ h.held;
  counts = record {
    misses = through (s.misses x) (s.misses y) (s.misses z) h.counts.misses k.counts.misses;
    faults = through (s.faults x) (s.faults y) (s.faults z) h.counts.faults k.counts.faults;
  };
  opens = both_opened s a b c x y z h.held h.opens k.opens;
}

-- more openings are allowed, and the shelf was opened within these
pub moves_opened : {S : Type 0} (s : shelf.Ghosts S) (old new : SeenEnvironment) (more : List Openings) (before now : S) → new ≡ record old { opened = old.opened ++ more }
    → s.held now ≡ s.held before → IsLater (shelf_counts s before) (shelf_counts s now) → OpensMore (s.opened before) (s.opened now)
    → ((files : Files) → s.held before ≡ Some files → HaveDistinctFiles old.stores → OpensWithin more (s.opened before) (s.opened now))
    → Moves s old new before now
moves_opened s old new more before now same held counts grows within = record {
  names = ap (λ (e : SeenEnvironment). e.names) same;
  size = subst (λ (e : SeenEnvironment). length old.graph ≤ length e.graph) (sym same) (at_least (length old.graph));
  stored = λ files columns h. subst (λ (e : SeenEnvironment). AreStored files e.stores e.graph columns) same h;
  meant = λ columns f h. subst (λ (e : SeenEnvironment). IsMeaning columns e.graph f) same h;
  held = held;
  counts = counts;
  opens = record {
    more = more;
    allowed = ap (λ (e : SeenEnvironment). e.opened) same;
    grows = grows;
    distinct = λ files told h. subst (λ (e : SeenEnvironment). HaveDistinctFiles e.stores) (sym same) h;
    within = within;
  };
}

-- an operation on values
pub moves_computed : {S : Type 0} (s : shelf.Ghosts S) (n : ℕ) (want : Files → (ℕ → Tall) → Result TallValue refusal.Refusal) (old new : SeenEnvironment) (answer : Result ScriptValue ValueFault) (now : S)
    → Computes n want old new answer → Moves s old new now now
moves_computed s n want old new answer now h = record {
  names = ap (λ (e : SeenEnvironment). e.names) h.same;
  size = h.size;
  stored = h.stored;
  meant = h.meant;
  held = refl;
  counts = later_same s now;
  opens = opens_none s old new now (ap (λ (e : SeenEnvironment). e.opened) h.same) (ap (λ (e : SeenEnvironment). e.stores) h.same);
}

-- ---- a datastore more

same_store : (a b : Store) → Some a ≡ Some b → a ≡ b
same_store a b e = cc

pub distinct_more : (stores : List Store) (d : Store) → HaveDistinctFiles stores → are_distinct d.store.files ≡ true → HaveDistinctFiles (stores ++ d ∷ [])
distinct_more [] d h k zero x there = subst (λ (y : Store). are_distinct y.store.files ≡ true) (same_store d x there) k
distinct_more [] d h k (suc place) x there = absurd (cc)
distinct_more (c ∷ cs) d h k zero x there = h zero x there
distinct_more (c ∷ cs) d h k (suc place) x there = distinct_more cs d (λ p y e. h (suc p) y e) k place x there

-- it lists no file twice, where the shelf tells its files
pub opens_made : {S : Type 0} (s : shelf.Ghosts S) (old new : SeenEnvironment) (d : Store) (now : S) → new ≡ record old { stores = old.stores ++ d ∷ [] }
    → ((files : Files) → s.held now ≡ Some files → HaveDistinctFiles old.stores → are_distinct d.store.files ≡ true)
    → Opens s old new now now
opens_made s old new d now same distinct = record {
  more = [];
  allowed = ap (λ (e : SeenEnvironment). e.opened) same ∙ sym (append-nil old.opened);
  grows = more_same (s.opened now);
  distinct = λ files told h. subst (λ (e : SeenEnvironment). HaveDistinctFiles e.stores) (sym same) (distinct_more old.stores d h (distinct files told h));
  within = λ files told h. none_opened (s.opened now);
}

pub moves_made : {S : Type 0} (s : shelf.Ghosts S) (old new : SeenEnvironment) (d : Store) (now : S) → new ≡ record old { stores = old.stores ++ d ∷ [] }
    → ((files : Files) (columns : Columns) → AreStored files new.stores new.graph columns → AreStored files old.stores old.graph columns)
    → ((files : Files) → s.held now ≡ Some files → HaveDistinctFiles old.stores → are_distinct d.store.files ≡ true)
    → Moves s old new now now
moves_made s old new d now same stored distinct = record {
  names = ap (λ (e : SeenEnvironment). e.names) same;
  size = subst (λ (e : SeenEnvironment). length old.graph ≤ length e.graph) (sym same) (at_least (length old.graph));
  stored = stored;
  meant = λ columns f h. subst (λ (e : SeenEnvironment). IsMeaning columns e.graph f) same h;
  held = refl;
  counts = later_same s now;
  opens = opens_made s old new d now same distinct;
}

-- ---- causes

rose_later : (a b c : ℕ) → a ≤ b → Rose b c → Rose a c
rose_later a b c h k = omega (arith, h, k)

opened_later : {S : Type 0} (s : shelf.Ghosts S) (a b : SeenEnvironment) (x y z : S) (name : List ℕ) → Opens s a b x y → IsOpened s name y z → IsOpened s name x z
opened_later s a b x y z name h k names all told now =
    let w = h.grows names told in
    less (openings_of name names) (openings_of name w.0) (openings_of name all) (w.2 name) (k w.0 all w.1 now)
  where
    less : (m n o : ℕ) → m ≤ n → n < o → m < o
    less m n o h k = omega (arith, h, k)

module _ {S : Type 0} (s : shelf.Ghosts S) (a b : SeenEnvironment) (x y z : S) (h : Moves s a b x y) where
  refused_later : (e : Refusal) → IsBlamed s e y z → IsBlamed s e x z
  refused_later (r.Undefined name) k = tt
  refused_later r.MixedClass k = tt
  refused_later r.BadClass k = tt
  refused_later r.Incompatible k = tt
  refused_later r.BadSize k = tt
  refused_later r.BadArgument k = tt
  refused_later r.BadIndex k = tt
  refused_later (r.Data row kind) k = tt
  refused_later (r.NoFile name) k = rose_later (s.misses x) (s.misses y) (s.misses z) h.counts.misses k
  refused_later (r.NoHeader name) k = tt
  refused_later (r.HeaderDiffers name) k = tt
  refused_later r.TooManyRows k = tt
  refused_later (r.TooManyFields row) k = tt
  refused_later (r.BadField row variable) k = tt
  refused_later (r.BadText row variable) k = tt
  refused_later (r.FieldNotWhole row variable) k = tt
  refused_later (r.FieldInexact row variable) k = tt
  refused_later r.NoValueLeft k = tt
  refused_later r.NoProgress k = tt
  refused_later r.TooManyTurns k = tt
  refused_later r.BadKey k = tt
  refused_later r.BadValue k = tt

  pub blamed_later : (e : Failure) → Blames s e y z → Blames s e x z
  blamed_later (failure.Refused line e) k = refused_later e k
  blamed_later (failure.Read name) k = (rose_later (s.faults x) (s.faults y) (s.faults z) h.counts.faults k.0, opened_later s a b x y z name h.opens k.1)
  blamed_later (failure.TooLarge name) k = (k.0, opened_later s a b x y z name h.opens k.1, λ files told. k.2 files (h.held ∙ told))
  blamed_later (failure.Changed name first last) k = (k.0, opened_later s a b x y z name h.opens k.1, λ files told. k.2 files (h.held ∙ told))
  blamed_later failure.Memory k = tt

-- ---- what blames nothing

module _ {S : Type 0} (s : shelf.Ghosts S) (x y : S) where
  within_blames : (e : Refusal) → IsWithin e → IsBlamed s e x y
  within_blames (r.Undefined name) k = tt
  within_blames r.MixedClass k = tt
  within_blames r.BadClass k = tt
  within_blames r.Incompatible k = tt
  within_blames r.BadSize k = tt
  within_blames r.BadArgument k = tt
  within_blames r.BadIndex k = tt
  within_blames (r.Data row kind) k = tt
  within_blames (r.NoFile name) k = absurd k
  within_blames (r.NoHeader name) k = tt
  within_blames (r.HeaderDiffers name) k = tt
  within_blames r.TooManyRows k = tt
  within_blames (r.TooManyFields row) k = tt
  within_blames (r.BadField row variable) k = tt
  within_blames (r.BadText row variable) k = tt
  within_blames (r.FieldNotWhole row variable) k = tt
  within_blames (r.FieldInexact row variable) k = tt
  within_blames r.NoValueLeft k = tt
  within_blames r.NoProgress k = tt
  within_blames r.TooManyTurns k = tt
  within_blames r.BadKey k = tt
  within_blames r.BadValue k = tt

  pub inside_blames : (e : Failure) → IsInside e → Blames s e x y
  inside_blames (failure.Refused line e) k = within_blames e k
  inside_blames (failure.Read name) k = absurd k
  inside_blames (failure.TooLarge name) k = absurd k
  inside_blames (failure.Changed name first last) k = absurd k
  inside_blames failure.Memory k = tt
