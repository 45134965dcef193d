-- Statement after statement: how far the run has come.
use Rattle.std.proofs.Common.{ℕ, zero, suc, ◌≡◌, ◌∙◌, ◌≤◌, ◌+◌, List, [], ◌∷◌, ◌++◌, length, take, refl, ap, subst, sym, arith, append_assoc, append-nil}
use Rattle.std.specs.Prelude.{Option, Some, None, IfSome, true}
use Rattle.std.specs.Io.KnownBytes.{Appends}
use Rattle.std.proofs.KnownBytes.{Appends-nil, Appends-trans}
use Rattle.std.proofs.Math.Seq.{take-append_seam, take-append-add}
use Rattle.tall_grammar.specs.Trees.{SeenStatement, SeenScript}
use Rattle.tall_local.specs.Refusals.{Refusal, Stop, undefined, mixed_class, bad_class, incompatible, bad_size, bad_argument, bad_index, failed, no_file, no_header, header_differs, too_many_rows, too_many_fields, bad_field, bad_text, field_not_whole, field_inexact, no_value_left, no_progress, too_many_turns, bad_key, bad_value}
use Rattle.tall_outside.specs.Count.{Rose}
use Rattle.tall_outside.specs.ShelfCounts.{Counts, IsLater, shelf_counts}
use Rattle.tall_outside.specs.declared.shelf.Shelf as shelf
use Rattle.tall_outside.specs.Shelf.{Files}
use Rattle.tall_store.specs.FileEnds.{IsTooLong}
use Rattle.tall_script.specs.OpeningLaws.{opens_none}
use Rattle.tall_script.specs.Runs.{Run, behind, next, run, run_from, setting_of}
use Rattle.tall_script.specs.ScriptLanguage.{Setting}
use Rattle.tall_script.specs.Statements.{Done, shows, fails, statement}
use Rattle.tall_script.specs.States.{State, Openings, empty_state, times_allowed}
use Rattle.tall_script.specs.StatesFollow.{Follows, done_state}
use Rattle.tall_semantics.specs.Talls.{Tall}
use Rattle.tall_steps.specs.Progress.{EndsRun, OpensAtMost, Reached}
use Rattle.tall_steps.specs.Ends.{AddsFront, AreQuiet, End, Grows, IsExplained, IsMissed, WasOpened, all_ran, usage, no_script, refused, stopped, unread, changed, too_large}
use Rattle.tall_steps.specs.Steps.{HasEnd, IsEndingOf, OpensBetween, Shows, StepOpens, StopsAs}
use Rattle.tall_steps.specs.declared.endings.Ending.{Ending}
use Rattle.tall_steps.specs.declared.endings.Ending.TheVariants.{Line, Memory}

-- ---- openings

none_opened : (now : Option (List (List ℕ))) → OpensAtMost (λ name. 0) now now
none_opened now = λ names e. (names, e, λ name. (omega arith, omega arith))

pub more_opened : (f : List ℕ → ℕ) (s t : State Tall) (before mid now : Option (List (List ℕ))) → OpensAtMost (λ name. times_allowed name s.opened) before mid
    → OpensBetween s t mid now → OpensAtMost (λ name. times_allowed name t.opened) before now
more_opened f s t before mid now a b = λ names e.
    let x = a names e in
    let y = b x.0 x.1 in
    (y.0, y.1, λ name. let u = x.2 name in let v = y.2 name in (omega (arith, u.0, v.0), omega (arith, u.1, v.1)))

-- a bound that is no lower
pub opened_within : (f g : List ℕ → ℕ) (before now : Option (List (List ℕ))) → ((name : List ℕ) → f name ≤ g name) → OpensAtMost f before now → OpensAtMost g before now
opened_within f g before now within a = λ names e.
    let x = a names e in
    (x.0, x.1, λ name. let u = x.2 name in let w = within name in (u.0, omega (arith, u.1, w)))

times_more : (name : List ℕ) (os more : List Openings) → times_allowed name os ≤ times_allowed name (os ++ more)
times_more name [] more = omega arith
times_more name (o ∷ os) more = let h = times_more name os more in omega (arith, h)

pub times_follow : (name : List ℕ) (s t : State Tall) → Follows s t → times_allowed name s.opened ≤ times_allowed name t.opened
times_follow name s t f = subst (λ os. times_allowed name s.opened ≤ times_allowed name os) (sym f.opened) (times_more name s.opened f.more_openings)

-- ---- texts

module _ (files : Files) (p : SeenScript) where
  abbrev setting : Setting
  setting = setting_of files p

  pub begun : (written : Option (List ℕ)) (opened : Option (List (List ℕ))) → Appends written written [] → Reached files p p.statements empty_state written written opened opened
  begun written opened none = record { text = []; written = none; goes_on = refl; opens = none_opened opened }

  -- what the first of the statements gives, before what the others do
  next_run : (left rest : List SeenStatement) (s t : State Tall) (text : List ℕ) → Shows setting left rest s t text
      → run_from setting left s ≡ behind text (run_from setting rest t)
  next_run left rest s t text h =
      ap (λ l. run_from setting l s) h.next ∙ ap (λ d. next d (λ u. run_from setting rest u)) h.shows_text

  both_behind : (a b : List ℕ) (r : Run) → behind (a ++ b) r ≡ behind a (behind b r)
  both_behind a b r = ap (λ t. record r { text = t }) (append_assoc a b r.text)

  -- one statement more
  pub more : (left rest : List SeenStatement) (s t : State Tall) (text : List ℕ) (before mid after : Option (List ℕ)) (opened seen now : Option (List (List ℕ)))
      → Reached files p left s before mid opened seen → Shows setting left rest s t text → Appends mid after text → OpensBetween s t seen now
      → Reached files p rest t before after opened now
  more left rest s t text before mid after opened seen now r h w o = record {
    text = r.text ++ text;
    written = Appends-trans before mid after r.text text r.written w;
    goes_on = both_behind r.text text (run_from setting rest t) ∙ ap (behind r.text) (sym (next_run left rest s t text h)) ∙ r.goes_on;
    opens = more_opened (λ name. 0) s t opened seen now r.opens o;
  }

  -- ---- the front of the run's text

  text_of : (left : List SeenStatement) (s : State Tall) (before mid : Option (List ℕ)) (opened seen : Option (List (List ℕ)))
      (r : Reached files p left s before mid opened seen) → (run files p).text ≡ r.text ++ (run_from setting left s).text
  text_of left s before mid opened seen r = ap (λ (x : Run). x.text) (sym r.goes_on)

  front_is : (a b : List ℕ) → take (length a) (a ++ b) ≡ a
  front_is a b = take-append_seam a b

  -- so much of the text as was written
  pub written_front : (left : List SeenStatement) (s : State Tall) (before mid : Option (List ℕ)) (opened seen : Option (List (List ℕ)))
      → Reached files p left s before mid opened seen → AddsFront (run files p).text before mid
  written_front left s before mid opened seen r =
      (length r.text, subst (Appends before mid) (sym (ap (take (length r.text)) (text_of left s before mid opened seen r) ∙ front_is r.text (run_from setting left s).text)) r.written)

  some_front : (n : ℕ) (text more : List ℕ) → (m : ℕ) × (take m (text ++ more) ≡ take n text)
  some_front zero text more = (0, refl)
  some_front (suc n) [] more = (0, refl)
  some_front (suc n) (x ∷ text) more = let m = some_front n text more in (suc m.0, ap (λ l. x ∷ l) m.1)

  -- and a part of what the next statement shows
  pub part_front : (left rest : List SeenStatement) (s t : State Tall) (text : List ℕ) (before mid after : Option (List ℕ)) (opened seen : Option (List (List ℕ)))
      → Reached files p left s before mid opened seen → Shows setting left rest s t text → AddsFront text mid after → AddsFront (run files p).text before after
  part_front left rest s t text before mid after opened seen r h (n, w) =
      let whole : (run files p).text ≡ r.text ++ (text ++ (run_from setting rest t).text) =
      text_of left s before mid opened seen r ∙ ap (λ (x : Run). r.text ++ x.text) (next_run left rest s t text h) in
      let m = some_front n text (run_from setting rest t).text in (
        length r.text + m.0,
        subst (Appends before after)
            (sym (ap (take (length r.text + m.0)) whole ∙ take-append-add r.text (text ++ (run_from setting rest t).text) m.0 ∙ ap (λ l. r.text ++ l) m.1))
            (Appends-trans before mid after r.text (take n text) r.written w),
      )

  -- ---- ends

  -- no statement is left
  pub none_left : (left : List SeenStatement) (s : State Tall) (before mid : Option (List ℕ)) (opened seen : Option (List (List ℕ))) → left ≡ []
      → Reached files p left s before mid opened seen → ((run files p).ending ≡ None) × Appends before mid (run files p).text
  none_left left s before mid opened seen none r =
      let last : run_from setting left s ≡ run_from setting [] s = ap (λ l. run_from setting l s) none in (
        ap (λ (x : Run). x.ending) (sym r.goes_on) ∙ ap (λ (x : Run). x.ending) last,
        subst (Appends before mid) (sym (text_of left s before mid opened seen r ∙ ap (λ (x : Run). r.text ++ x.text) last ∙ append-nil r.text)) r.written,
      )

  -- a statement stopped
  pub one_stopped : (left rest : List SeenStatement) (entry : SeenStatement) (s t : State Tall) (stop : Stop) (before mid : Option (List ℕ)) (opened seen : Option (List (List ℕ)))
      → left ≡ entry ∷ rest → statement setting entry s ≡ fails stop t → Reached files p left s before mid opened seen
      → ((run files p).ending ≡ Some stop) × Appends before mid (run files p).text
  one_stopped left rest entry s t stop before mid opened seen next_is fails_so r =
      let last : run_from setting left s ≡ record { text = []; ending = Some stop; state = t } =
      ap (λ l. run_from setting l s) next_is ∙ ap (λ d. next d (λ u. run_from setting rest u)) fails_so in (
        ap (λ (x : Run). x.ending) (sym r.goes_on) ∙ ap (λ (x : Run). x.ending) last,
        subst (Appends before mid) (sym (text_of left s before mid opened seen r ∙ ap (λ (x : Run). r.text ++ x.text) last ∙ append-nil r.text)) r.written,
      )

  -- ---- openings at an end

  module _ (follows : (setting : Setting) (entries : List SeenStatement) (s : State Tall) → Follows s (run_from setting entries s).state) where
    state_of : (left : List SeenStatement) (s : State Tall) (before mid : Option (List ℕ)) (opened seen : Option (List (List ℕ)))
        → Reached files p left s before mid opened seen → (run_from setting left s).state ≡ (run files p).state
    state_of left s before mid opened seen r = ap (λ (x : Run). x.state) r.goes_on

    -- between statements
    pub opened_so_far : (left : List SeenStatement) (s : State Tall) (before mid : Option (List ℕ)) (opened seen : Option (List (List ℕ)))
        → Reached files p left s before mid opened seen → OpensAtMost (λ name. times_allowed name (run files p).state.opened) opened seen
    opened_so_far left s before mid opened seen r =
        opened_within (λ name. times_allowed name s.opened) (λ name. times_allowed name (run files p).state.opened) opened seen
        (λ name. subst (λ (u : State Tall). times_allowed name s.opened ≤ times_allowed name u.opened) (state_of left s before mid opened seen r)
        (times_follow name s (run_from setting left s).state (follows setting left s)))
        r.opens

    -- what a statement leaves, the run goes on from
    left_by : (d : Done) (rest : List SeenStatement) (name : List ℕ) → times_allowed name (done_state d).opened ≤ times_allowed name (next d (λ u. run_from setting rest u)).state.opened
    left_by (shows text t) rest name = times_follow name t (run_from setting rest t).state (follows setting rest t)
    left_by (fails stop t) rest name = let h : times_allowed name t.opened ≤ times_allowed name t.opened = omega arith in h

    -- behind a statement
    pub opened_at_end : (left rest : List SeenStatement) (entry : SeenStatement) (s : State Tall) (before mid : Option (List ℕ)) (opened seen now : Option (List (List ℕ)))
        → left ≡ entry ∷ rest → Reached files p left s before mid opened seen → OpensBetween s (done_state (statement setting entry s)) seen now
        → OpensAtMost (λ name. times_allowed name (run files p).state.opened) opened now
    opened_at_end left rest entry s before mid opened seen now next_is r o =
        opened_within (λ name. times_allowed name (done_state (statement setting entry s)).opened) (λ name. times_allowed name (run files p).state.opened) opened now
        (λ name. subst (λ (u : State Tall). times_allowed name (done_state (statement setting entry s)).opened ≤ times_allowed name u.opened)
        (ap (λ l. (run_from setting l s).state) (sym next_is) ∙ state_of left s before mid opened seen r)
        (left_by (statement setting entry s) rest name))
        (more_opened (λ name. 0) s (done_state (statement setting entry s)) opened seen now r.opens o)

-- ---- as the loop meets them

-- at the start
pub starts : (files : Files) (p : SeenScript) (left : List SeenStatement) (s : State Tall) (written : Option (List ℕ)) (opened : Option (List (List ℕ))) → left ≡ p.statements → s ≡ empty_state
    → Reached files p left s written written opened opened
starts files p left s written opened all empty =
    subst (λ l. Reached files p l s written written opened opened) (sym all)
    (subst (λ u. Reached files p p.statements u written written opened opened) (sym empty) (begun files p written opened (Appends-nil written)))

-- a statement of the program that is the script's
pub shows_for : (files : Files) (q p : SeenScript) (left rest : List SeenStatement) (s t : State Tall) (text : List ℕ) → q ≡ p
    → Shows (setting_of files q) left rest s t text → Shows (setting_of files p) left rest s t text
shows_for files q p left rest s t text same h = subst (λ x. Shows (setting_of files x) left rest s t text) same h

-- what a statement opens that shows a text
pub opens_shown : (given : Setting) (left rest : List SeenStatement) (s t : State Tall) (text : List ℕ) (before now : Option (List (List ℕ)))
    → Shows given left rest s t text → StepOpens given left s before now → OpensBetween s t before now
opens_shown given left rest s t text before now h o =
    subst (λ d. OpensBetween s (done_state d) before now) h.shows_text (o h.entry rest h.next)

-- what a statement opens, by the program that is the script's
pub opens_for : (files : Files) (q p : SeenScript) (left : List SeenStatement) (s : State Tall) (before now : Option (List (List ℕ))) → q ≡ p
    → StepOpens (setting_of files q) left s before now → StepOpens (setting_of files p) left s before now
opens_for files q p left s before now same o = subst (λ x. StepOpens (setting_of files x) left s before now) same o

-- a statement is left, or none is
pub next_of : (left : List SeenStatement) → (left ≡ [] → ⊥) → (entry : SeenStatement) × (rest : List SeenStatement) × (left ≡ entry ∷ rest)
next_of [] some = absurd (some refl)
next_of (entry ∷ rest) some = (entry, rest, refl)

-- why a statement ends the run is why the run ends
pub ends_run : (files : Files) (q p : SeenScript) (left : List SeenStatement) (s : State Tall) (before mid : Option (List ℕ)) (opened seen : Option (List (List ℕ))) (e : End) → q ≡ p
    → Reached files p left s before mid opened seen → StopsAs (setting_of files q) left s e → EndsRun files p e before mid
ends_run files q p left s before mid opened seen (stopped stop) same r h =
    one_stopped files p left h.1 h.0 s h.2 stop before mid opened seen h.3 (subst (λ x. statement (setting_of files x) h.0 s ≡ fails stop h.2) same h.4) r
ends_run files q p left s before mid opened seen (unread name) same r h = tt
ends_run files q p left s before mid opened seen all_ran same r h = absurd h
ends_run files q p left s before mid opened seen usage same r h = absurd h
ends_run files q p left s before mid opened seen (no_script name) same r h = absurd h
ends_run files q p left s before mid opened seen (refused what) same r h = absurd h
ends_run files q p left s before mid opened seen (changed name rows many) same r h = absurd h
ends_run files q p left s before mid opened seen (too_large name) same r h = tt

-- ---- what was before

pub later_both : (a b c : Counts) → IsLater a b → IsLater b c → IsLater a c
later_both a b c h k = record { misses = omega (arith, h.misses, k.misses); faults = omega (arith, h.faults, k.faults) }

pub grows_both : (a b c : Option (List (List ℕ))) → Grows a b → Grows b c → Grows a c
grows_both a b c h k = λ names told.
    let x = h names told in
    let y = k x.0 x.1 in
    (y.0, y.1, λ name. let u = x.2 name in let v = y.2 name in omega (arith, u, v))

rose_later : (a b c : ℕ) → a ≤ b → Rose b c → Rose a c
rose_later a b c l r = omega (arith, r, l)

opened_later : (a b c : Option (List (List ℕ))) (name : List ℕ) → Grows a b → WasOpened b c name → WasOpened a c name
opened_later a b c name h o = λ names all told now.
    let x = h names told in
    let u = x.2 name in
    let v = o x.0 all x.1 now in
    omega (arith, u, v)

missed_later : (r : Refusal) (a b c : ℕ) → a ≤ b → IsMissed r b c → IsMissed r a c
missed_later (no_file name) a b c l m = rose_later a b c l m
missed_later (undefined name) a b c l m = tt
missed_later mixed_class a b c l m = tt
missed_later bad_class a b c l m = tt
missed_later incompatible a b c l m = tt
missed_later bad_size a b c l m = tt
missed_later bad_argument a b c l m = tt
missed_later bad_index a b c l m = tt
missed_later (failed row kind) a b c l m = tt
missed_later (no_header name) a b c l m = tt
missed_later (header_differs name) a b c l m = tt
missed_later too_many_rows a b c l m = tt
missed_later (too_many_fields row) a b c l m = tt
missed_later (bad_field row variable) a b c l m = tt
missed_later (bad_text row variable) a b c l m = tt
missed_later (field_not_whole row variable) a b c l m = tt
missed_later (field_inexact row variable) a b c l m = tt
missed_later no_value_left a b c l m = tt
missed_later no_progress a b c l m = tt
missed_later too_many_turns a b c l m = tt
missed_later bad_key a b c l m = tt
missed_later bad_value a b c l m = tt

pub explained_later : {S : Type 0} (s : shelf.Ghosts S) (e : End) (before mid now : S) → IsLater (shelf_counts s before) (shelf_counts s mid) → Grows (s.opened before) (s.opened mid)
    → s.held mid ≡ s.held before → IsExplained s e mid now → IsExplained s e before now
explained_later s all_ran before mid now l g h x = x
explained_later s usage before mid now l g h x = x
explained_later s (no_script name) before mid now l g h x = rose_later (s.misses before) (s.misses mid) (s.misses now) l.misses x
explained_later s (refused what) before mid now l g h x = x
explained_later s (stopped stop) before mid now l g h x = missed_later stop.refusal (s.misses before) (s.misses mid) (s.misses now) l.misses x
explained_later s (unread name) before mid now l g h x =
    (rose_later (s.faults before) (s.faults mid) (s.faults now) l.faults x.0, opened_later (s.opened before) (s.opened mid) (s.opened now) name g x.1)
explained_later s (changed name rows many) before mid now l g h x =
    (x.0, opened_later (s.opened before) (s.opened mid) (s.opened now) name g x.1, λ files told. x.2 files (h ∙ told))
explained_later s (too_large name) before mid now l g h x = (
  x.0,
  opened_later (s.opened before) (s.opened mid) (s.opened now) name g x.1,
  subst (λ o. IfSome o (λ files. IsTooLong files name)) h x.2,
)

pub quiet_next : (left rest : List SeenStatement) (entry : SeenStatement) → left ≡ entry ∷ rest → AreQuiet left → (opens_none entry.form ≡ true) × AreQuiet rest
quiet_next left rest entry next_is q = subst AreQuiet next_is q

-- an ending keeps its line where its end is seen otherwise
pub has_end : {Is Was : End → Type 0} (ending : Ending) → ((e : End) → Is e → Was e) → HasEnd Is ending → HasEnd Was ending
has_end (Line how line) sees h = (h.0, sees h.0 h.1, h.2, h.3)
has_end Memory sees h = tt

-- the end of a line that was made
pub ended_as : (Is : End → Type 0) (e : End) (ending : Ending) → Is e → IsEndingOf e ending → HasEnd Is ending
ended_as Is e (Line how line) is h = (e, is, h.0, h.1)
ended_as Is e Memory is h = tt
