-- Keys with those of several cells.
use Rattle.std.specs.Prelude.{◌≡◌, refl, ℕ, zero, suc, ◌+◌, ◌<◌, ◌||◌, Bool, true, false, if◌then◌else◌, Option, None, Some, List, [], ◌∷◌, ◌++◌, length, get_or, take, slice_get}
use Rattle.std.proofs.Common.{ap, sym, subst, ◌∙◌, arith, length-append, add-one}
use Rattle.std.specs.List.{list_any}
use Rattle.std.proofs.lemmas.List.{append-nil, append_assoc}
use Rattle.std.proofs.lemmas.List.Folds.{list_any-append}
use Rattle.std.proofs.Math.Seq.{take-append_seam}
use Rattle.tall_value.specs.Cells.{Seen}
use Rattle.tall_value.specs.Groups.{is_of_group}
use Rattle.tall_group.specs.Keys.{found, with_key, IsPlaced, AreApart, AreAt, ArePlaced, Begins}
use Rattle.tall_group.proofs.OrderLemmas.{found_alike, group_turned}
use Rattle.tall_group.proofs.UniqueLemmas.{found_with, taken_more}

or_nothing : (a : Bool) → a ≡ (a || false)
or_nothing true = refl
or_nothing false = refl

or_assoc : (a b c : Bool) → ((a || b) || c) ≡ (a || (b || c))
or_assoc true b c = refl
or_assoc false b c = refl

pub none_placed : (ks : List Seen) → ArePlaced ks ks [] []
none_placed ks = record { more = []; grown = sym (append-nil ks); found_in = λ c. or_nothing (found c ks); apart = λ a. a; at = tt }

-- ---- places stay

pub get_earlier : (ks more : List Seen) (p : ℕ) (d : Seen) → p < length ks → get_or (ks ++ more) p d ≡ get_or ks p d
get_earlier [] more p d l = absurd (omega arith)
get_earlier (k ∷ ks) more zero d l = refl
get_earlier (k ∷ ks) more (suc p) d l = get_earlier ks more p d (omega arith)

at_later : (ks more : List Seen) (ps : List ℕ) (cs : List Seen) → AreAt ks ps cs → AreAt (ks ++ more) ps cs
at_later ks more [] [] a = tt
at_later ks more (p ∷ ps) (c ∷ cs) a = (omega (arith, a.0, length-append ks more), (λ d. ap (is_of_group c) (get_earlier ks more p d a.0) ∙ a.1 d), at_later ks more ps cs a.2)
at_later ks more [] (c ∷ cs) a = absurd a
at_later ks more (p ∷ ps) [] a = absurd a

at_more : (ks : List Seen) (ps : List ℕ) (cs : List Seen) (p : ℕ) (c : Seen) → AreAt ks ps cs → p < length ks → ((d : Seen) → is_of_group c (get_or ks p d) ≡ true) → AreAt ks (ps ++ p ∷ []) (cs ++ c ∷ [])
at_more ks [] [] p c a l h = (l, h, tt)
at_more ks (q ∷ ps) (b ∷ cs) p c a l h = (a.0, a.1, at_more ks ps cs p c a.2 l h)
at_more ks [] (b ∷ cs) p c a l h = absurd a
at_more ks (q ∷ ps) [] p c a l h = absurd a

-- ---- one key more

added : (ks : List Seen) (c : Seen) (b : Bool) → (more : List Seen) × ((if b then ks else ks ++ c ∷ []) ≡ ks ++ more)
added ks c true = ([], sym (append-nil ks))
added ks c false = (c ∷ [], refl)

apart_new : (ks : List Seen) (c : Seen) → AreApart ks → found c ks ≡ false → AreApart (ks ++ c ∷ [])
apart_new [] c a h = (refl, tt)
apart_new (k ∷ ks) c a h =
    (list_any-append (is_of_group k) ks (c ∷ []) ∙ (ap (λ b. b || (is_of_group k c || false)) a.0 ∙ ap (λ b. b || false) (turned (is_of_group k c) refl)), apart_new ks c a.1 (second (is_of_group c k) (found c ks) h))
  where
    second : (x y : Bool) → (x || y) ≡ false → y ≡ false
    second true y e = absurd cc
    second false y e = e

    first : (x y : Bool) → (x || y) ≡ false → x ≡ false
    first true y e = absurd cc
    first false y e = refl

    turned : (b : Bool) → is_of_group k c ≡ b → b ≡ false
    turned true e = (let t : is_of_group c k ≡ true = group_turned k c e in let f : true ≡ false = sym t ∙ first (is_of_group c k) (found c ks) h in absurd cc)
    turned false e = refl

apart_by : (ks : List Seen) (c : Seen) (b : Bool) → found c ks ≡ b → AreApart ks → AreApart (if b then ks else ks ++ c ∷ [])
apart_by ks c true h a = a
apart_by ks c false h a = apart_new ks c a h

pub one_placed : (before mid after cs : List Seen) (ps : List ℕ) (c : Seen) (p : ℕ) → ArePlaced before mid cs ps → IsPlaced mid after c p → ArePlaced before after (cs ++ c ∷ []) (ps ++ p ∷ [])
one_placed before mid after cs ps c p a i =
    let m = added mid c (found c mid) in
    let e : after ≡ mid ++ m.0 = i.keys ∙ m.1 in
    record {
      more = a.more ++ m.0;
      grown = e ∙ (ap (λ ks. ks ++ m.0) a.grown ∙ append_assoc before a.more m.0);
      found_in = λ x.
          ap (found x) i.keys
          ∙ (found_with mid mid c (λ y. refl) x
          ∙ (list_any-append (is_of_group x) mid (c ∷ [])
          ∙ (ap (λ b. b || found x (c ∷ [])) (a.found_in x) ∙ (or_assoc (found x before) (found x cs) (found x (c ∷ [])) ∙ ap (λ b. found x before || b) (sym (list_any-append (is_of_group x) cs (c ∷ [])))))));
      apart = λ h. subst AreApart (sym i.keys) (apart_by mid c (found c mid) refl (a.apart h));
      at = at_more after ps cs p c (subst (λ ks. AreAt ks ps cs) (sym e) (at_later mid m.0 ps cs a.at)) i.within i.here;
    }

pub row_placed : (before mid after cs : List Seen) (ps qs : List ℕ) (i : ℕ) (c : Seen) (p : ℕ) → slice_get cs i ≡ Some c → ArePlaced before mid (take i cs) ps → IsPlaced mid after c p → qs ≡ ps ++ p ∷ []
    → ArePlaced before after (take (i + 1) cs) qs
row_placed before mid after cs ps qs i c p h a o q =
    subst (λ ds. ArePlaced before after ds qs) (sym (taken_more cs i c h)) (subst (λ rs. ArePlaced before after (take i cs ++ c ∷ []) rs) (sym q) (one_placed before mid after (take i cs) ps c p a o))

-- ---- the keys so far are the first

pub begins : (ks after cs : List Seen) (ps : List ℕ) → ArePlaced ks after cs ps → Begins ks after
begins ks after cs ps placed = ap (take (length ks)) placed.grown ∙ take-append_seam ks placed.more

pub begins_still : (ks after new cs : List Seen) (ps : List ℕ) → ArePlaced ks after cs ps → new ≡ after → Begins ks new
begins_still ks after new cs ps placed e = ap (take (length ks)) e ∙ begins ks after cs ps placed

pub begins_placed : (ks after new cs : List Seen) (ps : List ℕ) (c : Seen) (p : ℕ) → ArePlaced ks after cs ps → IsPlaced after new c p → Begins ks new
begins_placed ks after new cs ps c p placed one = begins ks new (cs ++ c ∷ []) (ps ++ p ∷ []) (one_placed ks after new cs ps c p placed one)
