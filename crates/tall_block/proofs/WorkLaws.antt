-- The places of a block's work, one after another: what is looked at among the first of them.
use Rattle.std.specs.Prelude.{◌≡◌, refl, ℕ, zero, suc, ◌<◌, ◌≤◌, ◌+◌, if◌then◌else◌, Bool, true, false, Option, None, Some, Result, Ok, Err, List, [], ◌∷◌, ◌++◌, length, take, slice_get, IfOk, IfSome}
use Rattle.std.specs.List.{filter}
use Rattle.std.proofs.Common.{ap, sym, subst, ◌∙◌, arith, inl, inr}
use Rattle.std.proofs.lemmas.Bool.Decides.{nat_tests}
use Rattle.std.proofs.lemmas.List.{append-nil, take_more}
use Rattle.std.proofs.lemmas.List.Elements.{filter-append}
use Rattle.std.proofs.lemmas.Option.{get_or_from_slice_get, slice_get_within}
use Rattle.tall_value.specs.declared.faults.FaultKind.{FaultKind}
use Rattle.tall_value.specs.Cells.{Seen}
use Rattle.tall_dense.specs.Columns.{SeenColumn}
use Rattle.tall_semantics.specs.Faults.{At, Fault, computed, fault_at}
use Rattle.tall_semantics.specs.Outcomes.{Outcome}
use Rattle.tall_semantics.specs.ShapesInOrder.{shape_at}
use Rattle.tall_semantics.specs.Spaces.{is_single}
use Rattle.tall_semantics.specs.Talls.{Columns, Tall}
use Rattle.tall_semantics.specs.Deferred.{Vertex, IsAmong, IsOrdered}
use Rattle.tall_semantics.specs.Least.{IsBelow}
use Rattle.tall_semantics.specs.Numbered.{AreNumbered, number_at}
use Rattle.tall_semantics.proofs.Basics.{inside}
use Rattle.tall_semantics.proofs.OriginLaws.{below_among}
use Rattle.tall_semantics.proofs.PlanLaws.{among_filter}
use Rattle.tall_blocks.specs.PassWork.{is_below}
use Rattle.tall_blocks.specs.Pieces.{is_below_missing, looked_at}
use Rattle.tall_blocks.proofs.PieceCarryLaws.{looked_carried, looked_closed}
use Rattle.tall_block.specs.BlockWork.{AreAbove, IsAscending, IsBlock}
use Rattle.tall_block.specs.Steps.{IsNext, looked_first}

pub among_at : (xs : List ℕ) (place i : ℕ) → slice_get xs place ≡ Some i → IsAmong xs i
among_at [] place i e = absurd (cc)
among_at (x ∷ xs) zero i e = inl (inside x i e)
among_at (x ∷ xs) (suc place) i e = inr (among_at xs place i e)

pub among_take : (n : ℕ) (xs : List ℕ) (a : ℕ) → IsAmong (take n xs) a → IsAmong xs a
among_take zero xs a h = absurd h
among_take (suc n) [] a h = h
among_take (suc n) (x ∷ xs) a h = elim h [ inl e ↦ inl e | inr r ↦ inr (among_take n xs a r) ]

take_past : (n : ℕ) (xs : List ℕ) → length xs ≤ n → take n xs ≡ xs
take_past zero [] l = refl
take_past zero (x ∷ xs) l = absurd (omega (arith, l))
take_past (suc n) [] l = refl
take_past (suc n) (x ∷ xs) l = ap (λ ys. x ∷ ys) (take_past n xs (omega (arith, l)))

above_all : (n : ℕ) (xs : List ℕ) (a : ℕ) → AreAbove n xs → IsAmong xs a → n < a
above_all n [] a h m = absurd m
above_all n (x ∷ xs) a h m = elim m [ inl e ↦ subst (λ k. n < k) e h.0 | inr r ↦ above_all n xs a h.1 r ]

-- a lower place of an ascending list stands before
pub before_in : (xs : List ℕ) → IsAscending xs → (place i a : ℕ) → slice_get xs place ≡ Some i → IsAmong xs a → a < i → IsAmong (take place xs) a
before_in [] up place i a e m l = absurd m
before_in (x ∷ xs) up zero i a e m l =
    let q : x ≡ i = inside x i e in
    elim m [
      | inl t ↦ absurd (omega (arith, t, q, l))
      | inr r ↦ (let k : x < a = above_all x xs a up.0 r in absurd (omega (arith, k, q, l)))
    ]
before_in (x ∷ xs) up (suc place) i a e m l = elim m [ inl t ↦ inl t | inr r ↦ inr (before_in xs up.1 place i a e r l) ]

-- ---- what is looked at

module _ (vs : List Vertex) (carry : ℕ → Option Seen) (work : List ℕ) where
  abbrev keep : ℕ → Bool
  keep i = is_below_missing vs carry work (number_at (slice_get vs i))

  one_kept : (i : ℕ) (b : Bool) → keep i ≡ b → filter keep (i ∷ []) ≡ (if b then i ∷ [] else [])
  one_kept i b e = ap (λ (t : Bool). if t then i ∷ [] else []) e

  looked_next : (place i : ℕ) (b : Bool) → slice_get work place ≡ Some i → keep i ≡ b → looked_first vs carry work (place + 1) ≡ looked_first vs carry work place ++ (if b then i ∷ [] else [])
  looked_next place i b e k =
      ap (filter keep) (take_more work place 0 (slice_get_within work place i e) ∙ ap (λ j. take place work ++ j ∷ []) (get_or_from_slice_get work place i 0 e))
      ∙ (filter-append keep (take place work) (i ∷ []) ∙ ap (λ xs. looked_first vs carry work place ++ xs) (one_kept i b k))

  pub looked_kept : (place i : ℕ) → slice_get work place ≡ Some i → keep i ≡ true → looked_first vs carry work (place + 1) ≡ looked_first vs carry work place ++ i ∷ []
  looked_kept place i e k = looked_next place i true e k

  pub looked_left : (place i : ℕ) → slice_get work place ≡ Some i → keep i ≡ false → looked_first vs carry work (place + 1) ≡ looked_first vs carry work place
  looked_left place i e k = looked_next place i false e k ∙ append-nil (looked_first vs carry work place)

  pub looked_all : (place : ℕ) → length work ≤ place → looked_first vs carry work place ≡ looked_at vs carry work
  looked_all place l = ap (filter keep) (take_past place work l)

  pub looked_work : (place j : ℕ) → IsAmong (looked_first vs carry work place) j → IsAmong work j
  looked_work place j m = among_take place work j ((among_filter keep (take place work) j).0 m).0

module _ {vs : List Vertex} {table : List (List ℕ × SeenColumn)} {scalars carries : ℕ → Option Seen} {first : ℕ} {work : List ℕ} {columns : Columns} {so_far : ℕ → List Seen} {f : ℕ → Tall} {cut : ℕ → Bool} {h : ℕ → Outcome}
    (block : IsBlock vs table scalars carries first work columns so_far f cut h) (numbered : AreNumbered vs) (ordered : IsOrdered vs) where
  pub next_is : (place i : ℕ) → slice_get work place ≡ Some i → is_below_missing vs carries work (number_at (slice_get vs i)) ≡ true → IsNext vs cut carries work (looked_first vs carries work place) i
  next_is place i e k =
      let m : IsAmong work i = among_at work place i e in
      let looked : IsAmong (looked_at vs carries work) i = (among_filter (keep vs carries work) work i).1 (m, k) in
      record {
        among = m;
        within = λ j q. looked_work vs carries work place j q;
        operands = λ a v g q is.
            let p : IsAmong work a = block.cut_work.closed i a v m g q is in
            let w = (block.cut_work.there a p).1 in
            let t = (among_filter (keep vs carries work) work a).0 (looked_closed vs numbered carries work i a v w.0 looked g q w.1 p) in
            let l : a < i = below_among i v.args a (ordered i v g) q in
            (among_filter (keep vs carries work) (take place work) a).1 (before_in work block.ascending place i a e p l, t.1);
        carried = λ s. looked_carried vs carries work i looked s;
      }

-- ---- tests of numbers

pub not_below : (p : Option Fault) (n : ℕ) → is_below p n ≡ false → IsBelow p n → ⊥
not_below None n t l = absurd (cc)
not_below (Some x) n t l = grind (arith, nat_tests)

pub is_below_it : (p : Option Fault) (n : ℕ) → is_below p n ≡ true → IsBelow p n
is_below_it None n t = tt
is_below_it (Some x) n t = grind (arith, nat_tests)

pub number_told : (o : Option Vertex) (v : Vertex) (n : ℕ) → o ≡ Some v → IfSome o (λ w. n ≡ w.at.number) → n ≡ v.at.number
number_told o v n e h = subst (λ (u : Option Vertex). IfSome u (λ w. n ≡ w.at.number)) e h

pub line_told : (o : Option Vertex) (v : Vertex) (n : ℕ) → o ≡ Some v → IfSome o (λ w. n ≡ w.at.line) → n ≡ v.at.line
line_told o v n e h = subst (λ (u : Option Vertex). IfSome u (λ w. n ≡ w.at.line)) e h

-- a fault as code has it
pub same_fault : (at : At) (number line k : ℕ) (row : Option ℕ) (kind told : FaultKind) → number ≡ at.number → line ≡ at.line → row ≡ Some k → told ≡ kind
    → fault_at at (Some k) kind ≡ record { number = number; row = row; column = 0; store = 0; cause = computed told; line = line }
same_fault at number line k row kind told p q r s =
    ap (λ n. record { number = n; row = Some k; column = 0; store = 0; cause = computed kind; line = at.line }) (sym p)
    ∙ (ap (λ n. record { number = number; row = Some k; column = 0; store = 0; cause = computed kind; line = n }) (sym q)
    ∙ (ap (λ o. record { number = number; row = o; column = 0; store = 0; cause = computed kind; line = line }) (sym r)
    ∙ ap (λ t. record { number = number; row = row; column = 0; store = 0; cause = computed t; line = line }) (sym s)))

pub no_scalar_here : {vs : List Vertex} {table : List (List ℕ × SeenColumn)} {scalars carries : ℕ → Option Seen} {first : ℕ} {work : List ℕ} {columns : Columns} {so_far : ℕ → List Seen} {f : ℕ → Tall} {cut : ℕ → Bool} {h : ℕ → Outcome}
    → IsBlock vs table scalars carries first work columns so_far f cut h → (i : ℕ) → IsAmong work i → is_single (shape_at vs i).space ≡ true → ⊥
no_scalar_here {vs} block i m e = (let n : is_single (shape_at vs i).space ≡ false = block.with_rows i m in cc)

pub ok_map : {A E : Type 0} (r : Result A E) (P Q : A → Type 0) → ((x : A) → P x → Q x) → IfOk r P → IfOk r Q
ok_map (Ok x) P Q g h = g x h
ok_map (Err e) P Q g h = tt
