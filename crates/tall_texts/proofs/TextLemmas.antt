-- Texts in one buffer.
use Rattle.std.specs.Prelude.{Some, slice_get, Bool, true, false, if◌then◌else◌, Result, Ok, Err, is_ok, MatchResult}
use Rattle.std.specs.List.{slice_range}
use Rattle.std.specs.Str.{IsUtf8}
use Rattle.std.proofs.Common.{ℕ, zero, suc, ◌≡◌, ◌<◌, ◌≤◌, ◌-◌, List, [], ◌∷◌, ◌++◌, length, take, drop, map, ◌+◌, get_or, refl, sym, ◌∙◌, ap, subst, arith}
use Rattle.std.proofs.lemmas.List.{take-append-le, drop-append-le, drop_at, take_all, length-drop, length-append, map-append}
use Rattle.std.proofs.Math.Seq.{drop-append-add}
use Rattle.tall_value.specs.Cells.{text as as_text}
use Rattle.tall_texts.specs.Texts.{texts_from, IsCut, begin_at, further}

pub length-texts : (bytes : List ℕ) (start : ℕ) (ends : List ℕ) → length (texts_from bytes start ends) ≡ length ends
length-texts bytes start [] = refl
length-texts bytes start (end ∷ ends) = ap suc (length-texts bytes end ends)

pub begin-more : (start : ℕ) (ends : List ℕ) (i : ℕ) → i < length ends → begin_at start ends (suc i) ≡ get_or ends i 0
begin-more start [] i h = absurd (omega arith)
begin-more start (end ∷ ends) zero h = refl
begin-more start (end ∷ ends) (suc i) h = begin-more end ends i (omega arith)

pub cut-start : (bytes : List ℕ) (start : ℕ) (ends : List ℕ) → IsCut bytes start ends → start ≤ length bytes
cut-start bytes start [] h = omega (arith, h)
cut-start bytes start (end ∷ ends) h = omega (arith, h.0, h.1)

-- the text at a place
pub text_here : (bytes : List ℕ) (start : ℕ) (ends : List ℕ) (i : ℕ) → IsCut bytes start ends → i < length ends
    → (begin_at start ends i ≤ get_or ends i 0) × (get_or ends i 0 ≤ length bytes) × IsUtf8 (slice_range bytes (begin_at start ends i) (get_or ends i 0))
    × (slice_get (texts_from bytes start ends) i ≡ Some (slice_range bytes (begin_at start ends i) (get_or ends i 0)))
text_here bytes start [] i h l = absurd (omega arith)
text_here bytes start (end ∷ ends) zero h l = (h.0, h.1, h.2, refl)
text_here bytes start (end ∷ ends) (suc i) h l = text_here bytes end ends i h.3 (omega arith)

-- ---- one more text

range-append : (bytes text : List ℕ) (i j : ℕ) → i ≤ length bytes → j ≤ length bytes → slice_range (bytes ++ text) i j ≡ slice_range bytes i j
range-append bytes text i j p q =
    let short : j - i ≤ length (drop i bytes) = omega (arith, length-drop i bytes) in
    ap (λ v. take (j - i) v) (drop-append-le i bytes text p) ∙ take-append-le (j - i) (drop i bytes) text short

range-last : (bytes text : List ℕ) (i : ℕ) → i ≡ length bytes → slice_range (bytes ++ text) i (length (bytes ++ text)) ≡ text
range-last bytes text i h =
    let long : length text ≤ length (bytes ++ text) - i = omega (arith, length-append bytes text, h) in
    ap (λ v. take (length (bytes ++ text) - i) v) (drop_at bytes text i (sym h)) ∙ take_all (length (bytes ++ text) - i) text long

pub pushed-texts : (bytes text : List ℕ) (start : ℕ) (ends : List ℕ) → IsCut bytes start ends
    → texts_from (bytes ++ text) start (ends ++ length (bytes ++ text) ∷ []) ≡ texts_from bytes start ends ++ text ∷ []
pushed-texts bytes text start [] h = ap (λ v. v ∷ []) (range-last bytes text start h)
pushed-texts bytes text start (end ∷ ends) h =
    ap (λ v. v ∷ texts_from (bytes ++ text) end (ends ++ length (bytes ++ text) ∷ [])) (range-append bytes text start end (omega (arith, h.0, h.1)) h.1)
    ∙ ap (λ vs. slice_range bytes start end ∷ vs) (pushed-texts bytes text end ends h.3)

pub pushed-cut : (bytes text : List ℕ) (start : ℕ) (ends : List ℕ) → IsCut bytes start ends → IsUtf8 text
    → IsCut (bytes ++ text) start (ends ++ length (bytes ++ text) ∷ [])
pushed-cut bytes text start [] h u =
    (omega (arith, length-append bytes text, h), omega arith, subst IsUtf8 (sym (range-last bytes text start h)) u, refl)
pushed-cut bytes text start (end ∷ ends) h u =
    (h.0, omega (arith, length-append bytes text, h.1), subst IsUtf8 (sym (range-append bytes text start end (omega (arith, h.0, h.1)) h.1)) h.2, pushed-cut bytes text end ends h.3 u)

pub begin-prev : (ends : List ℕ) (at : ℕ) → at ≤ length ends → (at ≡ 0 → ⊥) → get_or ends (at - 1) 0 ≡ begin_at 0 ends at
begin-prev ends zero l n = absurd (n refl)
begin-prev ends (suc i) l n =
    let e : suc i - 1 ≡ i = omega arith in
    ap (λ k. get_or ends k 0) e ∙ sym (begin-more 0 ends i (omega arith))

pub result-cut : (ok : Bool) (bytes ends text later later_ends : List ℕ) → IsCut bytes 0 ends → IsUtf8 text
    → later ≡ (if ok then bytes ++ text else bytes) → later_ends ≡ (if ok then ends ++ length (bytes ++ text) ∷ [] else ends)
    → IsCut later 0 later_ends
result-cut true bytes ends text later later_ends h u e f =
    subst (λ v. IsCut v 0 later_ends) (sym e) (subst (λ v. IsCut (bytes ++ text) 0 v) (sym f) (pushed-cut bytes text 0 ends h u))
result-cut false bytes ends text later later_ends h u e f =
    subst (λ v. IsCut v 0 later_ends) (sym e) (subst (λ v. IsCut bytes 0 v) (sym f) h)

pub result-texts : {A E : Type 0} (r : Result A E) (bytes ends text later later_ends : List ℕ) (old : List (List ℕ)) (same : List ℕ)
    → IsCut bytes 0 ends → texts_from bytes 0 ends ≡ old → text ≡ same
    → later ≡ (if is_ok r then bytes ++ text else bytes) → later_ends ≡ (if is_ok r then ends ++ length (bytes ++ text) ∷ [] else ends)
    → MatchResult r (λ _. texts_from later 0 later_ends ≡ old ++ same ∷ []) (λ _. texts_from later 0 later_ends ≡ old)
result-texts (Ok a) bytes ends text later later_ends old same h is s e f =
    ap (λ v. texts_from v 0 later_ends) e ∙ ap (λ v. texts_from (bytes ++ text) 0 v) f ∙ pushed-texts bytes text 0 ends h
    ∙ ap (λ v. v ++ text ∷ []) is ∙ ap (λ v. old ++ v ∷ []) s
result-texts (Err a) bytes ends text later later_ends old same h is s e f =
    ap (λ v. texts_from v 0 later_ends) e ∙ ap (λ v. texts_from bytes 0 v) f ∙ is

-- ---- texts of another buffer

range-further : (bytes more : List ℕ) (i j : ℕ) → slice_range (bytes ++ more) (length bytes + i) (length bytes + j) ≡ slice_range more i j
range-further bytes more i j =
    let width : length bytes + j - (length bytes + i) ≡ j - i = omega arith in
    ap (λ n. take n (drop (length bytes + i) (bytes ++ more))) width ∙ ap (λ v. take (j - i) v) (drop-append-add bytes more i)

further-texts : (bytes more : List ℕ) (start : ℕ) (ends : List ℕ) → texts_from (bytes ++ more) (length bytes + start) (further (length bytes) ends) ≡ texts_from more start ends
further-texts bytes more start [] = refl
further-texts bytes more start (end ∷ ends) =
    ap (λ v. v ∷ texts_from (bytes ++ more) (length bytes + end) (further (length bytes) ends)) (range-further bytes more start end)
    ∙ ap (λ vs. slice_range more start end ∷ vs) (further-texts bytes more end ends)

further-cut : (bytes more : List ℕ) (start : ℕ) (ends : List ℕ) → IsCut more start ends → IsCut (bytes ++ more) (length bytes + start) (further (length bytes) ends)
further-cut bytes more start [] h = omega (arith, length-append bytes more, h)
further-cut bytes more start (end ∷ ends) h =
    (omega (arith, h.0), omega (arith, length-append bytes more, h.1), subst IsUtf8 (sym (range-further bytes more start end)) h.2, further-cut bytes more end ends h.3)

joined-texts : (bytes more : List ℕ) (start : ℕ) (ends more_ends : List ℕ) → IsCut bytes start ends
    → texts_from (bytes ++ more) start (ends ++ further (length bytes) more_ends) ≡ texts_from bytes start ends ++ texts_from more 0 more_ends
joined-texts bytes more start [] more_ends h =
    let at : start ≡ length bytes + 0 = omega (arith, h) in
    ap (λ s. texts_from (bytes ++ more) s (further (length bytes) more_ends)) at ∙ further-texts bytes more 0 more_ends
joined-texts bytes more start (end ∷ ends) more_ends h =
    ap (λ v. v ∷ texts_from (bytes ++ more) end (ends ++ further (length bytes) more_ends)) (range-append bytes more start end (omega (arith, h.0, h.1)) h.1)
    ∙ ap (λ vs. slice_range bytes start end ∷ vs) (joined-texts bytes more end ends more_ends h.3)

joined-cut : (bytes more : List ℕ) (start : ℕ) (ends more_ends : List ℕ) → IsCut bytes start ends → IsCut more 0 more_ends
    → IsCut (bytes ++ more) start (ends ++ further (length bytes) more_ends)
joined-cut bytes more start [] more_ends h m =
    let at : length bytes + 0 ≡ start = omega (arith, h) in
    subst (λ s. IsCut (bytes ++ more) s (further (length bytes) more_ends)) at (further-cut bytes more 0 more_ends m)
joined-cut bytes more start (end ∷ ends) more_ends h m =
    (h.0, omega (arith, length-append bytes more, h.1), subst IsUtf8 (sym (range-append bytes more start end (omega (arith, h.0, h.1)) h.1)) h.2, joined-cut bytes more end ends more_ends h.3 m)

pub appended-cut : (ok : Bool) (bytes ends more more_ends later later_ends : List ℕ) → IsCut bytes 0 ends → IsCut more 0 more_ends
    → later ≡ (if ok then bytes ++ more else bytes) → later_ends ≡ (if ok then ends ++ further (length bytes) more_ends else ends)
    → IsCut later 0 later_ends
appended-cut true bytes ends more more_ends later later_ends h m e f =
    subst (λ v. IsCut v 0 later_ends) (sym e) (subst (λ v. IsCut (bytes ++ more) 0 v) (sym f) (joined-cut bytes more 0 ends more_ends h m))
appended-cut false bytes ends more more_ends later later_ends h m e f =
    subst (λ v. IsCut v 0 later_ends) (sym e) (subst (λ v. IsCut bytes 0 v) (sym f) h)

pub appended-texts : {A E : Type 0} (r : Result A E) (bytes ends more more_ends later later_ends : List ℕ) (old next : List (List ℕ))
    → IsCut bytes 0 ends → texts_from bytes 0 ends ≡ old → texts_from more 0 more_ends ≡ next
    → later ≡ (if is_ok r then bytes ++ more else bytes) → later_ends ≡ (if is_ok r then ends ++ further (length bytes) more_ends else ends)
    → MatchResult r (λ _. map (λ s. as_text s) (texts_from later 0 later_ends) ≡ map (λ s. as_text s) old ++ map (λ s. as_text s) next) (λ _. texts_from later 0 later_ends ≡ old)
appended-texts (Ok a) bytes ends more more_ends later later_ends old next h is next_is e f =
    ap (map (λ s. as_text s))
    (ap (λ v. texts_from v 0 later_ends) e ∙ ap (λ v. texts_from (bytes ++ more) 0 v) f ∙ joined-texts bytes more 0 ends more_ends h
    ∙ ap (λ v. v ++ texts_from more 0 more_ends) is ∙ ap (λ v. old ++ v) next_is)
    ∙ map-append (λ s. as_text s) old next
appended-texts (Err a) bytes ends more more_ends later later_ends old next h is next_is e f =
    ap (λ v. texts_from v 0 later_ends) e ∙ ap (λ v. texts_from bytes 0 v) f ∙ is
