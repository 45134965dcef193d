-- What becomes of the answer of one pass.
use Rattle.std.specs.Prelude.{◌≡◌, refl, ℕ, ◌<◌, ◌*◌, ◌-◌, Option, None, Some, Result, Ok, Err, IfOk, IfErr, List, length, option_map, slice_get}
use Rattle.std.proofs.Common.{ap, sym, subst, ◌∙◌, arith}
use Rattle.std.proofs.Math.ListN.{set}
use Rattle.tall_outside.specs.declared.shelf.Shelf as shelf
use Rattle.tall_outside.specs.Shelf.{Files, openings_of}
use Rattle.tall_outside.specs.ShelfCounts.{shelf_counts}
use Rattle.tall_semantics.specs.Faults.{At, Fault, fault_seen}
use Rattle.tall_semantics.specs.Talls.{Columns, Tall}
use Rattle.tall_semantics.specs.Levels.{UpTo}
use Rattle.tall_semantics.specs.Least.{IsLeast}
use Rattle.tall_semantics.specs.ShapesInOrder.{IsMade, shape_at}
use Rattle.tall_semantics.specs.Deferred.{Vertex, IsAmong, IsOrdered, own_in}
use Rattle.tall_semantics.specs.Numbered.{AreNumbered}
use Rattle.tall_semantics.specs.Plans.{needed_of}
use Rattle.tall_store.specs.Stores.{SeenStore}
use Rattle.tall_store.specs.Stored.{first_fault}
use Rattle.tall_stored.specs.StoredColumns.{Store, fault_of_reading}
use Rattle.tall_semantics.specs.Operations.{Made, stored, operation}
use Rattle.tall_semantics.specs.Reach.{IsOfStore}
use Rattle.tall_semantics.proofs.Basics.{inside}
use Rattle.tall_fuse.specs.declared.known.Known.{Known}
use Rattle.tall_plan.specs.declared.passes.Pass.{Pass}
use Rattle.tall_pass.specs.declared.faults.PassFault.TheVariants as pass_fault
use Rattle.tall_pass.specs.Answered.{Adding, Answer, IsChange, IsExplained, IsLonger, IsPlaced, IsUnchanged, OpensFiles}
use Rattle.tall_pass.specs.Counts.{AreCounted}
use Rattle.tall_pass.specs.Fitting.{AreFit}
use Rattle.tall_pass.specs.Told.{IsGiven, Tells}
use Rattle.tall_gather.specs.declared.candidate.Candidate.{Candidate}
use Rattle.tall_gather.specs.declared.candidate.StoreReading.{StoreReading}
use Rattle.tall_gather.specs.declared.faults.GatherFault.{GatherFault}
use Rattle.tall_gather.specs.Becoming.{Becomes}
use Rattle.tall_gather.specs.Candidates.{IsCall, reading_seen, seen}
use Rattle.tall_gather.specs.Going.{IsAnswered, IsCaused, IsLongFile, IsReadingOf, Went, files_of, pass_openings}
use Rattle.tall_gather.specs.Progress.{IsPassed, IsPlannedPass}
use Rattle.tall_gather.specs.Told.{Holds, IsTold, TellsPass, ranked_nodes}
use Rattle.tall_gather.proofs.OnePass.{IsPart, none_below_call, opened_here, opens_most, part_planned, pass_added, pass_unchanged, work_of_part}
use Rattle.tall_gather.proofs.OneTold.{counted_set, reading_least, told_done, told_nothing}
use Rattle.tall_gather.proofs.WorkLaws.{first_of}

Outcome : Type 0
Outcome = Result (Option Candidate) GatherFault

-- ---- what is known

module _ (vs : List Vertex) (made : IsMade vs) (ordered : IsOrdered vs) (numbered : AreNumbered vs) (roots : List ℕ) (c : Option Fault) (pass part : Pass) (old new : Known) (plan : IsPlannedPass vs roots pass) (is : IsPart vs c pass part) (fit : AreFit vs old) where
  abbrev Passes : Result (Option Candidate) GatherFault → Type 0
  Passes r = IfOk r (λ p. IsPassed vs roots pass c (seen p) old new)

  pub passed : (answer : Answer) (result : Result (Option Candidate) GatherFault) → Becomes vs pass.store answer result → IfOk answer (λ p. Adding vs part (option_map fault_seen p) old new) → IfErr answer (λ e. IsUnchanged old new) → Passes result
  passed (Ok None) result b adds same = subst Passes (sym b) (pass_added vs ordered roots c None pass part old new plan is fit adds)
  passed (Ok (Some x)) result b adds same = subst Passes (sym b) (pass_added vs ordered roots c (Some (fault_seen x)) pass part old new plan is fit adds)
  passed (Err (pass_fault.Reading g)) result b adds same = subst Passes (sym b.1) (pass_unchanged vs roots c (Some (reading_seen b.0)) pass old new fit same (λ i m bc bp. none_below_call vs made numbered roots pass plan (reading_seen b.0) b.0.line b.4 i m bp))
  passed (Err (pass_fault.Read file)) result b adds same = subst Passes (sym b) tt
  passed (Err (pass_fault.TooLarge file)) result b adds same = subst Passes (sym b) tt
  passed (Err (pass_fault.Changed file first now)) result b adds same = subst Passes (sym b) tt
  passed (Err pass_fault.Memory) result b adds same = subst Passes (sym b) tt

-- ---- openings and causes

module _ {S : Type 0} (s : shelf.Ghosts S) (list : List SeenStore) (store : ℕ) (d : SeenStore) (at : slice_get list store ≡ Some d) (before now : S) where
  pub went : (answer : Answer) → s.held now ≡ s.held before → Rattle.tall_outside.specs.ShelfCounts.IsLater (shelf_counts s before) (shelf_counts s now) → OpensFiles d.files answer (s.opened before) (s.opened now) → Went s (pass_openings list store) before now
  went answer held later opens = record {
    held = held;
    later = later;
    opens = λ names e. (let w = opens_most d.files opens.0 (s.opened before) (s.opened now) opens.2 names e in (
      w.0,
      w.1,
      λ name.
          let same : pass_openings list store name ≡ openings_of name d.files = ap (λ (o : Option SeenStore). openings_of name (files_of o)) at in
          let h = w.2 name in
          (h.0, (let l = h.1 in omega (arith, l, same))),
    ));
  }

  abbrev Answers : Result (Option Candidate) GatherFault → Type 0
  Answers r = IsAnswered s list r before now

  opened : (answer : Answer) (file : ℕ) → (opens : OpensFiles d.files answer (s.opened before) (s.opened now)) → file < opens.0 → Rattle.tall_gather.specs.Going.IsOpened s list store file before now
  opened answer file opens l = (d, at, (let m = opens.1 in omega (arith, l, m)), opened_here d.files opens.0 file (s.opened before) (s.opened now) opens.2 l opens.1)

  pub answered : (vs : List Vertex) (counts : List (Option ℕ)) (answer : Answer) (result : Result (Option Candidate) GatherFault) → Becomes vs store answer result
      → OpensFiles d.files answer (s.opened before) (s.opened now) → IsExplained answer (shelf_counts s before) (shelf_counts s now) → IsChange counts answer
      → ((files : Files) → s.held before ≡ Some files → IsLonger d files answer) → IsPlaced d answer → Answers result
  answered vs counts (Ok None) result b opens why change longer placed = subst Answers (sym b) tt
  answered vs counts (Ok (Some x)) result b opens why change longer placed = subst Answers (sym b) tt
  answered vs counts (Err (pass_fault.Reading g)) result b opens why change longer placed =
      subst Answers (sym b.1) (subst (λ n. IsReadingOf list n b.0.fault (shelf_counts s before) (shelf_counts s now)) (sym b.2) (subst (λ x. IsReadingOf list store x (shelf_counts s before) (shelf_counts s now)) (sym b.3) (record {
        found = d;
        there = at;
        file = (let l = opens.3 in let m = opens.1 in omega (arith, l, m));
        column = placed;
        missed = why;
      })))
  answered vs counts (Err (pass_fault.Read file)) result b opens why change longer placed = subst Answers (sym b) (why, opened (Err (pass_fault.Read file)) file opens opens.3)
  answered vs counts (Err (pass_fault.TooLarge file)) result b opens why change longer placed =
      subst Answers (sym b) (why, opened (Err (pass_fault.TooLarge file)) file opens opens.3, λ files e. subst (λ o. IsLongFile files o file) (sym at) (longer files e))
  answered vs counts (Err (pass_fault.Changed file first last)) result b opens why change longer placed = subst Answers (sym b) (change.1, opened (Err (pass_fault.Changed file first last)) file opens opens.3)
  answered vs counts (Err pass_fault.Memory) result b opens why change longer placed = subst Answers (sym b) tt

-- ---- told files

module _ (columns : Columns) (vs : List Vertex) (f : ℕ → Tall) (made : IsMade vs) (ordered : IsOrdered vs) (numbered : AreNumbered vs) (roots : List ℕ) (c : Option Fault) (pass part : Pass) (plan : IsPlannedPass vs roots pass) (is : IsPart vs c pass part)
    (files : Files) (list : List Store) (stores : List SeenStore) (store : SeenStore) (at : slice_get stores pass.store ≡ Some store) (old new : Known) (counts : List (List (Option ℕ))) (told : IsTold files list columns vs f stores) (holds : Holds files list vs f roots stores (2 * pass.level - 1) c old counts) where
  pub given : (ns : List (Option ℕ)) → slice_get counts pass.store ≡ Some ns → (let w = told.same pass.store store at in IsGiven files list w.0 columns vs f roots c part store old ns)
  given ns an =
      let w = told.same pass.store store at in
      record {
        there = ap (slice_get list) is.store ∙ w.1;
        same = w.2;
        stored = told.stored;
        meaning = told.meaning;
        planned = part_planned vs roots c pass part plan is;
        candidate = subst (λ k. IsLeast (own_in vs f) (UpTo (ranked_nodes vs f) (IsAmong (needed_of vs roots)) (2 * k - 1)) c) (sym is.level) holds.candidate;
        right = holds.right;
        carried = λ i b m. holds.carried i b m.0 m.1 (let l = subst (λ k. (shape_at vs i).chain < k) is.level m.3 in omega (arith, l)) m.4;
        counted = holds.counted pass.store store ns at an;
      }

  abbrev Told : List (List (Option ℕ)) → Result (Option Candidate) GatherFault → Type 0
  Told after r = TellsPass files list vs f roots stores pass c old new after r

  pub tells : (now : List (Option ℕ)) → AreCounted files store now → 0 < length part.work.items → (answer : Answer) (result : Result (Option Candidate) GatherFault) → Becomes vs pass.store answer result
      → IfOk answer (λ p. Adding vs part (option_map fault_seen p) old new) → IfErr answer (λ e. IsUnchanged old new) → Tells files list vs f roots c part store answer new → Told (set counts pass.store now) result
  tells now right some (Ok None) result b adds same t = subst (Told (set counts pass.store now)) (sym b) (told_done columns vs f made told.meaning ordered numbered roots plan.there c pass part plan is files list stores old new counts holds store None now at right adds t)
  tells now right some (Ok (Some x)) result b adds same t = subst (Told (set counts pass.store now)) (sym b) (told_done columns vs f made told.meaning ordered numbered roots plan.there c pass part plan is files list stores old new counts holds store (Some (fault_seen x)) now at right adds t)
  tells now right some (Err (pass_fault.Reading g)) result b adds same t =
      let d = told.same pass.store store at in
      let w = first_of part.work.items some in
      let m = work_of_part vs c pass part is w.0 w.1 in
      let first : first_fault d.0.store files ≡ Some g = ap (λ x. first_fault x files) d.2 ∙ t in
      let least = reading_least columns vs f made told.meaning ordered numbered roots plan.there c pass part plan is files list d.0 told.stored d.1 g first (reading_seen b.0) (same_fault d.0 d.1 b.0 b.2 b.3 b.4) w.0 m.0 m.1 holds.candidate in
      subst (Told (set counts pass.store now)) (sym b.1) (told_nothing columns vs f made told.meaning ordered numbered roots plan.there c pass part plan is files list stores old new counts holds (Some (reading_seen b.0)) (set counts pass.store now) same least (λ i n bc bp. none_below_call vs made numbered roots pass plan (reading_seen b.0) b.0.line b.4 i n bp) (counted_set files stores counts pass.store store now holds.counted at right))
    where
      of_variable : (d : Store) (v : Vertex) (at : At) (m : Made) (i : ℕ) → slice_get list pass.store ≡ Some d → slice_get vs i ≡ Some v → v.made ≡ m → IsOfStore pass.store m → v.at ≡ at → d.at ≡ at
      of_variable d v a (stored s x k) i there e em o ea =
          let col = told.stored i v s x k e em in
          let one : d ≡ col.found = inside d col.found (sym there ∙ (ap (slice_get list) o ∙ col.there)) in
          ap (λ (y : Store). y.at) one ∙ (sym col.called ∙ ea)
      of_variable d v a (operation op) i there e em o ea = absurd o

      same_fault : (d : Store) → slice_get list pass.store ≡ Some d → (r : StoreReading) → r.store ≡ pass.store → r.fault ≡ g → IsCall vs pass.store (record { number = r.number; line = r.line }) → reading_seen r ≡ fault_of_reading pass.store d.at g
      same_fault d there r es eg (i, v, e, o, ea) =
          let a : d.at ≡ record { number = r.number; line = r.line } = of_variable d v (record { number = r.number; line = r.line }) v.made i there e refl o ea in
          sym (ap (λ (x : At). fault_of_reading pass.store x g) a ∙ (ap (λ x. fault_of_reading pass.store (record { number = r.number; line = r.line }) x) (sym eg) ∙ ap (λ n. fault_of_reading n (record { number = r.number; line = r.line }) r.fault) (sym es)))
  tells now right some (Err (pass_fault.Read file)) result b adds same t = subst (Told (set counts pass.store now)) (sym b) tt
  tells now right some (Err (pass_fault.TooLarge file)) result b adds same t = subst (Told (set counts pass.store now)) (sym b) tt
  tells now right some (Err (pass_fault.Changed file first last)) result b adds same t = absurd t
  tells now right some (Err pass_fault.Memory) result b adds same t = subst (Told (set counts pass.store now)) (sym b) tt
