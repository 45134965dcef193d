-- Calls made in windows, and appended one after the other.
use Rattle.std.proofs.Common.{ℕ, zero, suc, ◌≡◌, ◌∙◌, ◌+◌, ◌-◌, ◌<◌, ◌≤◌, inl, inr, List, [], ◌∷◌, ◌++◌, Ok, Err, sym, ap, subst, refl, arith, drop, length, take, take-add, take-append-drop, length-drop, length-take-le}
use Rattle.std.specs.Prelude.{IfErr, IfOk, Option, Some, Result, Vec, map, slice_get, vec_len}
use Rattle.std.specs.List.{AllZip}
use Rattle.std.proofs.lemmas.List.{append_assoc, map-append}
use Rattle.tall_board.specs.Pieces.{InPlace}
use Rattle.tall_grammar.specs.Trees.{SeenFunction}
use Rattle.tall_kv.specs.ByKey.{Group}
use Rattle.tall_local.specs.Calls.{CallResult}
use Rattle.tall_local.specs.Pairs.{Pair}
use Rattle.tall_local.specs.Refusals.{Stop}
use Rattle.tall_script.specs.MapReduceLaws.{joined_results}
use Rattle.tall_script.specs.States.{Store}
use Rattle.tall_mapred.specs.declared.calls.CallPiece.{CallPiece}
use Rattle.tall_mapred.specs.declared.faults.MapFault.{MapFault}
use Rattle.tall_mapred.specs.Phases.{Ends, EndsWith, Wants, reduce_want, reduce_wants}
use Rattle.tall_mapred.specs.Pieces.{ComesFrom, IsFaultOfOne, IsFaultOfPiece, IsOfFunctions, IsOfPlace, IsReducePiece}
use Rattle.tall_mapred.proofs.PhaseLaws.{HasReduced}
use Rattle.tall_mapred.proofs.PieceLaws.{fault_of_reduce, reduce_comes}

-- ---- elements of a part of a list

less : (i n : ℕ) → suc i < suc n → i < n
less i n l = omega (arith, l)

get-take : {X : Type 0} (xs : List X) (n i : ℕ) → i < n → slice_get (take n xs) i ≡ slice_get xs i
get-take xs zero i l = absurd (omega (arith, l))
get-take [] (suc n) i l = refl
get-take (x ∷ xs) (suc n) zero l = refl
get-take (x ∷ xs) (suc n) (suc i) l = get-take xs n i (less i n l)

get-drop : {X : Type 0} (xs : List X) (n i : ℕ) → slice_get (drop n xs) i ≡ slice_get xs (n + i)
get-drop xs zero i = ap (slice_get xs) (zero_more i)
  where
    zero_more : (i : ℕ) → i ≡ 0 + i
    zero_more i = omega arith
get-drop [] (suc n) i = refl
get-drop (x ∷ xs) (suc n) i = get-drop xs n i ∙ ap (slice_get (x ∷ xs)) (more n i)
  where
    more : (n i : ℕ) → suc (n + i) ≡ suc n + i
    more n i = omega arith

-- a window of a list, by places from its first element on
get_window : {X : Type 0} (xs : List X) (first count i : ℕ) → i < count → slice_get xs (first + i) ≡ slice_get (take count (drop first xs)) i
get_window xs first count i l = sym (get-take (drop first xs) count i l ∙ get-drop xs first i)

length_window : {X : Type 0} (xs : List X) (first count : ℕ) → first + count ≤ length xs → length (take count (drop first xs)) ≡ count
length_window xs first count within = length-take-le count (drop first xs) (enough (length xs) (length (drop first xs)) (length-drop first xs) within)
  where
    enough : (n m : ℕ) → m ≡ n - first → first + count ≤ n → count ≤ m
    enough n m e l = omega (arith, e, l)

-- ---- the pieces of a window

-- by places from a number on
by_places : {X : Type 0} (R : X → CallPiece → Type 0) (at : ℕ → Option X) (n : ℕ) (xs : List X) (ps : List CallPiece) → ((i : ℕ) → i < length xs → at (n + i) ≡ slice_get xs i) → length ps ≡ length xs
    → InPlace (λ place p. (x : X) → at place ≡ Some x → R x p) n ps → AllZip R xs ps
by_places R at n [] [] same long is = tt
by_places R at n [] (p ∷ ps) same long is = absurd cc
by_places R at n (x ∷ xs) [] same long is = absurd cc
by_places R at n (x ∷ xs) (p ∷ ps) same long is =
    (is.0 x (ap at (here n) ∙ same 0 (some (length xs))), by_places R at (n + 1) xs ps (λ i l. ap at (there n i) ∙ same (suc i) (more i (length xs) l)) (one_less (length ps) (length xs) long) is.1)
  where
    here : (n : ℕ) → n ≡ n + 0
    here n = omega arith

    there : (n i : ℕ) → (n + 1) + i ≡ n + suc i
    there n i = omega arith

    some : (n : ℕ) → 0 < suc n
    some n = omega arith

    more : (i n : ℕ) → i < n → suc i < suc n
    more i n l = omega (arith, l)

    one_less : (m n : ℕ) → suc m ≡ suc n → m ≡ n
    one_less m n e = omega (arith, e)

pieces_of_window : {X : Type 0} (R : X → CallPiece → Type 0) (xs : List X) (first count : ℕ) (ps : List CallPiece) → first + count ≤ length xs → length ps ≡ count → InPlace (λ place p. IsOfPlace R xs (first + place) p) 0 ps
    → AllZip R (take count (drop first xs)) ps
pieces_of_window R xs first count ps within long is =
    by_places R (λ place. slice_get xs (first + place)) 0 (take count (drop first xs)) ps
    (λ i l. ap (λ k. slice_get xs (first + k)) (from_zero i) ∙ get_window xs first count i (subst (λ n. i < n) (length_window xs first count within) l))
    (long ∙ sym (length_window xs first count within)) is
  where
    from_zero : (i : ℕ) → 0 + i ≡ i
    from_zero i = omega arith

-- the answer of the workers
pub window_answer : {X Y E : Type 0} (R : X → CallPiece → Type 0) (xs : List X) (first count : ℕ) (r : Result (Vec CallPiece Y) E) → first + count ≤ length xs → IfOk r (λ v. vec_len v ≡ count)
    → IfOk r (λ v. InPlace (λ place p. IsOfPlace R xs (first + place) p) 0 v.items) → IfOk r (λ v. AllZip R (take count (drop first xs)) v.items)
window_answer R xs first count (Ok v) within long is = pieces_of_window R xs first count v.items within (let a = v.ok.0 in omega (arith, a, long)) is
window_answer R xs first count (Err e) within long is = tt

pub whole_answer : {X Y E : Type 0} (R : X → CallPiece → Type 0) (xs : List X) (r : Result (Vec CallPiece Y) E) → IfOk r (λ v. vec_len v ≡ length xs) → IfOk r (λ v. InPlace (λ place p. IsOfPlace R xs place p) 0 v.items)
    → IfOk r (λ v. AllZip R xs v.items)
whole_answer R xs (Ok v) long is = by_places R (slice_get xs) 0 xs v.items (λ i l. ap (slice_get xs) (from_zero i)) (let a = v.ok.0 in omega (arith, a, long)) is
  where
    from_zero : (i : ℕ) → 0 + i ≡ i
    from_zero i = omega arith
whole_answer R xs (Err e) long is = tt

-- each piece comes from what is wanted of its key
pub pieces_come : {X : Type 0} (R : X → CallPiece → Type 0) (d : Store) (want : X → Result CallResult Stop) (xs : List X) (ps : List CallPiece) → ((x : X) (p : CallPiece) → R x p → ComesFrom d (want x) p) → AllZip R xs ps
    → AllZip (ComesFrom d) (map want xs) ps
pieces_come R d want [] [] each are = tt
pieces_come R d want [] (p ∷ ps) each are = absurd are
pieces_come R d want (x ∷ xs) [] each are = absurd are
pieces_come R d want (x ∷ xs) (p ∷ ps) each are = (each x p are.0, pieces_come R d want xs ps each are.1)

-- a fault of one of the pieces
pub record HasFault {X : Type 0} (R : X → CallPiece → Type 0) (xs : List X) (fault : MapFault) : Type 0 where
  pub x : X
  pub piece : CallPiece
  pub place : ℕ
  pub at : slice_get xs place ≡ Some x
  pub is : R x piece
  pub of : IsFaultOfPiece piece fault

pub fault_among : {X : Type 0} (R : X → CallPiece → Type 0) (xs : List X) (ps : List CallPiece) (fault : MapFault) → AllZip R xs ps → IsFaultOfOne ps fault → HasFault R xs fault
fault_among R [] [] fault are is = absurd is
fault_among R [] (p ∷ ps) fault are is = absurd are
fault_among R (x ∷ xs) [] fault are is = absurd is
fault_among R (x ∷ xs) (p ∷ ps) fault are (inl is) = record { x = x; piece = p; place = 0; at = refl; is = are.0; of = is }
fault_among R (x ∷ xs) (p ∷ ps) fault are (inr is) = let h : HasFault R xs fault = fault_among R xs ps fault are.1 is in record { x = h.x; piece = h.piece; place = suc h.place; at = h.at; is = h.is; of = h.of }

-- ---- of keys

pub key_piece_at : (f : SeenFunction) (groups : List Group) (i : ℕ) (g : Group) (p : CallPiece) → slice_get groups i ≡ Some g → IsReducePiece f g p → IsOfPlace (IsReducePiece f) groups i p
key_piece_at f groups i g p at is = λ x e. subst (λ y. IsReducePiece f y p) (same g x (sym at ∙ e)) is
  where
    same : (g x : Group) → Some g ≡ Some x → g ≡ x
    same g x e = cc

pub key_pieces_come : (d : Store) (f : SeenFunction) (gs : List Group) (ps : List CallPiece) → AllZip (IsReducePiece f) gs ps → AllZip (ComesFrom d) (reduce_wants f gs) ps
key_pieces_come d f gs ps are = pieces_come (IsReducePiece f) d (reduce_want f) gs ps (λ g p is. reduce_comes d f g p is) are

faults_of_reduce : (f : SeenFunction) (gs : List Group) (ps : List CallPiece) (fault : MapFault) → AllZip (IsReducePiece f) gs ps → IsFaultOfOne ps fault → IsOfFunctions fault
faults_of_reduce f gs ps fault are is = let h : HasFault (IsReducePiece f) gs fault = fault_among (IsReducePiece f) gs ps fault are is in fault_of_reduce f h.x h.piece fault h.is h.of

pub faults_answer : {A : Type 0} (f : SeenFunction) (gs : List Group) (ps : List CallPiece) (r : Result A MapFault) → AllZip (IsReducePiece f) gs ps → IfErr r (IsFaultOfOne ps) → IfErr r IsOfFunctions
faults_answer f gs ps (Ok a) are is = tt
faults_answer f gs ps (Err fault) are is = faults_of_reduce f gs ps fault are is

-- ---- pieces appended one after the other

-- what is left to be appended comes to what all comes to
pub record IsLeft (d : Store) (wants : Wants) (old : List Pair) (pieces : List CallPiece) (now : List Pair) : Type 0 where
  pub left : Wants
  pub come : AllZip (ComesFrom d) left pieces
  pub same : (rest : Wants) → joined_results (wants ++ rest) old ≡ joined_results (left ++ rest) now

pub all_left : (d : Store) (wants : Wants) (old : List Pair) (ps qs : List CallPiece) → qs ≡ ps → AllZip (ComesFrom d) wants ps → IsLeft d wants old qs old
all_left d wants old ps qs e come = record { left = wants; come = subst (AllZip (ComesFrom d) wants) (sym e) come; same = λ rest. refl }

pub one_appended : (d : Store) (wants : Wants) (old now new : List Pair) (p : CallPiece) (ps qs : List CallPiece) → qs ≡ p ∷ ps → IsLeft d wants old qs now
    → ((want : Result CallResult Stop) → ComesFrom d want p → (rest : Wants) → joined_results (want ∷ rest) now ≡ joined_results rest new) → IsLeft d wants old ps new
one_appended d wants old now new p ps qs e is next = by is.left (subst (AllZip (ComesFrom d) is.left) e is.come) is.same
  where
    by : (left : Wants) → AllZip (ComesFrom d) left (p ∷ ps) → ((rest : Wants) → joined_results (wants ++ rest) old ≡ joined_results (left ++ rest) now) → IsLeft d wants old ps new
    by [] come same = absurd come
    by (w ∷ ws) come same = record { left = ws; come = come.1; same = λ rest. same rest ∙ next w come.0 (ws ++ rest) }

pub one_ends : (d : Store) (wants : Wants) (old now : List Pair) (p : CallPiece) (ps qs : List CallPiece) (fault : MapFault) → qs ≡ p ∷ ps → IsLeft d wants old qs now
    → ((want : Result CallResult Stop) → ComesFrom d want p → Ends d want now fault) → (rest : Wants) → EndsWith d (joined_results (wants ++ rest) old) fault
one_ends d wants old now p ps qs fault e is ends rest = by is.left (subst (AllZip (ComesFrom d) is.left) e is.come) is.same
  where
    by : (left : Wants) → AllZip (ComesFrom d) left (p ∷ ps) → ((rest : Wants) → joined_results (wants ++ rest) old ≡ joined_results (left ++ rest) now) → EndsWith d (joined_results (wants ++ rest) old) fault
    by [] come same = absurd come
    by (w ∷ ws) come same = subst (λ x. EndsWith d x fault) (sym (same rest)) (ends w come.0 (ws ++ rest))

pub none_left : (d : Store) (wants : Wants) (old now : List Pair) (qs : List CallPiece) → qs ≡ [] → IsLeft d wants old qs now → (rest : Wants) → joined_results (wants ++ rest) old ≡ joined_results rest now
none_left d wants old now qs e is rest = by is.left (subst (AllZip (ComesFrom d) is.left) e is.come) is.same
  where
    by : (left : Wants) → AllZip (ComesFrom d) left [] → ((rest : Wants) → joined_results (wants ++ rest) old ≡ joined_results (left ++ rest) now) → joined_results (wants ++ rest) old ≡ joined_results rest now
    by [] come same = same rest
    by (w ∷ ws) come same = absurd come

-- ---- a window of keys more

pub window_reduced : (f : SeenFunction) (groups : List Group) (first count : ℕ) (old new : List Pair) → HasReduced f (take first groups) old
    → (Store → (rest : Wants) → joined_results (reduce_wants f (take count (drop first groups)) ++ rest) old ≡ joined_results rest new) → HasReduced f (take (first + count) groups) new
window_reduced f groups first count old new before next d rest =
    let window : List Group = take count (drop first groups) in
    ap (λ gs. joined_results (reduce_wants f gs ++ rest) []) (take-add first count groups)
    ∙ ap (λ ws. joined_results (ws ++ rest) []) (map-append (reduce_want f) (take first groups) window)
    ∙ ap (λ ws. joined_results ws []) (append_assoc (reduce_wants f (take first groups)) (reduce_wants f window) rest)
    ∙ before d (reduce_wants f window ++ rest)
    ∙ next d rest

pub window_ends : (f : SeenFunction) (groups : List Group) (first count : ℕ) (old : List Pair) (fault : MapFault) → HasReduced f (take first groups) old
    → (d : Store) → ((rest : Wants) → EndsWith d (joined_results (reduce_wants f (take count (drop first groups)) ++ rest) old) fault) → EndsWith d (joined_results (reduce_wants f groups) []) fault
window_ends f groups first count old fault before d ends =
    let window : List Group = take count (drop first groups) in
    let behind : List Group = drop count (drop first groups) in
    subst (λ x. EndsWith d x fault)
    (sym (ap (λ gs. joined_results (reduce_wants f gs) []) (sym (take-append-drop first groups))
    ∙ ap (λ ws. joined_results ws []) (map-append (reduce_want f) (take first groups) (drop first groups))
    ∙ before d (reduce_wants f (drop first groups))
    ∙ ap (λ gs. joined_results (reduce_wants f gs) old) (sym (take-append-drop count (drop first groups)))
    ∙ ap (λ ws. joined_results ws old) (map-append (reduce_want f) window behind)))
    (ends (reduce_wants f behind))
