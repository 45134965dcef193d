-- Loops over all sums of a pass.
use Rattle.std.specs.Prelude.{◌≡◌, refl, ℕ, zero, suc, ◌+◌, ◌<◌, ◌≤◌, Option, List, [], ◌∷◌, ◌++◌, drop, get_or, length}
use Rattle.std.proofs.Common.{ap, sym, subst, ◌∙◌, arith}
use Rattle.std.proofs.lemmas.List.{append_assoc, append-nil, drop_more}
use Rattle.tall_semantics.specs.Deferred.{Vertex}
use Rattle.tall_piece.specs.declared.parts.Part.{Part}
use Rattle.tall_piece.specs.declared.parts.Sum.{Sum}
use Rattle.tall_piece.specs.declared.wanted.Wanted.{Wanted}
use Rattle.tall_piece.specs.Joins.{AllCanJoin, AreAllJoined, AreFirst, AreWays, CanJoin, IsFirst, IsJoined, part_first, parts_rest}
use Rattle.tall_piece.specs.Wants.{IsOfWay}

pub joinable : (ss : List Sum) (s : Sum) (rest : List Sum) (os : List (Option Part)) (o : Option Part) → ss ≡ s ∷ rest → AllCanJoin ss os → o ≡ part_first os → CanJoin s o
joinable ss s rest os o e can q = subst (CanJoin s) (sym q) (subst (λ xs. AllCanJoin xs os) e can).0

pub all_joined : (ss : List Sum) (os ps : List (Option Part)) (olds joined : List Sum) → ss ≡ [] → ((ns : List Sum) → AreAllJoined ss os ns → AreAllJoined olds ps (joined ++ ns)) → AreAllJoined olds ps joined
all_joined ss os ps olds joined e goes = subst (AreAllJoined olds ps) (append-nil joined) (goes [] (subst (λ xs. AreAllJoined xs os []) (sym e) refl))

pub next_way : (vs : List Vertex) (ws : List Wanted) (w : Wanted) (rest : List Wanted) → ws ≡ w ∷ rest → AreWays vs ws → (w.node < length vs) × IsOfWay vs w.node w.way
next_way vs ws w rest e ways = (subst (AreWays vs) e ways).0

pub all_first : (vs : List Vertex) (ws all : List Wanted) (sums : List Sum) → ws ≡ [] → ((ss : List Sum) → AreFirst vs ws ss → AreFirst vs all (sums ++ ss)) → AreFirst vs all sums
all_first vs ws all sums e goes = subst (AreFirst vs all) (append-nil sums) (goes [] (subst (λ xs. AreFirst vs xs []) (sym e) refl))

-- with one sum more
pub one_joined : (ss rest : List Sum) (os after ps : List (Option Part)) (olds joined longer : List Sum) (s n : Sum) (o : Option Part) → ss ≡ s ∷ rest → o ≡ part_first os → after ≡ parts_rest os → IsJoined s o n → longer ≡ joined ++ n ∷ []
    → ((ns : List Sum) → AreAllJoined ss os ns → AreAllJoined olds ps (joined ++ ns)) → (ns : List Sum) → AreAllJoined rest after ns → AreAllJoined olds ps (longer ++ ns)
one_joined ss rest os after ps olds joined longer s n o e q r is l goes ns are =
    subst (AreAllJoined olds ps) (sym (append_assoc joined (n ∷ []) ns) ∙ ap (λ xs. xs ++ ns) (sym l))
    (goes (n ∷ ns) (subst (λ xs. AreAllJoined xs os (n ∷ ns)) (sym e) (subst (λ x. IsJoined s x n) q is, subst (λ xs. AreAllJoined rest xs ns) r are)))

pub rest_can_join : (ss rest : List Sum) (os after : List (Option Part)) (s : Sum) → ss ≡ s ∷ rest → after ≡ parts_rest os → AllCanJoin ss os → AllCanJoin rest after
rest_can_join ss rest os after s e r can = subst (AllCanJoin rest) (sym r) (subst (λ xs. AllCanJoin xs os) e can).1

pub one_first : (vs : List Vertex) (ws rest all : List Wanted) (w : Wanted) (s : Sum) (sums longer : List Sum) → ws ≡ w ∷ rest → IsFirst vs w s → longer ≡ sums ++ s ∷ [] → ((ss : List Sum) → AreFirst vs ws ss → AreFirst vs all (sums ++ ss))
    → (ss : List Sum) → AreFirst vs rest ss → AreFirst vs all (longer ++ ss)
one_first vs ws rest all w s sums longer e is l goes ss are =
    subst (AreFirst vs all) (sym (append_assoc sums (s ∷ []) ss) ∙ ap (λ xs. xs ++ ss) (sym l)) (goes (s ∷ ss) (subst (λ xs. AreFirst vs xs (s ∷ ss)) (sym e) (is, are)))

pub rest_ways : (vs : List Vertex) (ws rest : List Wanted) (w : Wanted) → ws ≡ w ∷ rest → AreWays vs ws → AreWays vs rest
rest_ways vs ws rest w e ways = (subst (AreWays vs) e ways).1

-- the part of a list from a place on, where there is none left
pub nothing_left : {A : Type 0} (xs : List A) (n : ℕ) → length xs ≤ n → drop n xs ≡ []
nothing_left [] zero l = refl
nothing_left [] (suc n) l = refl
nothing_left (x ∷ xs) zero l = absurd (omega (arith, l))
nothing_left (x ∷ xs) (suc n) l = nothing_left xs n (omega (arith, l))

pub item_drop : {X : Type 0} (xs : List X) (i : ℕ) (x : X) → i < length xs → x ≡ get_or xs i x → drop i xs ≡ x ∷ drop (i + 1) xs
item_drop xs i x l e = drop_more xs i x l ∙ ap (λ y. y ∷ drop (i + 1) xs) (sym e)
