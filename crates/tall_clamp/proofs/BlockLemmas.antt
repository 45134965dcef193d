-- Folds of rows in blocks, from the laws of a fold.
use Rattle.std.proofs.Common.{◌≡◌, ℕ, ◌+◌, ◌<◌, ◌^◌, List, [], ◌∷◌, ◌++◌, length, refl, ap, sym, subst, ◌∙◌, arith, length-append, take, get_or, add-one}
use Rattle.std.specs.List.{All, flat_map}
use Rattle.std.proofs.lemmas.List.Elements.{All-nil, All-cons, All-head, All-tail, All-append}
use Rattle.std.proofs.lemmas.List.Sums.{fold-append}
use Rattle.std.proofs.lemmas.Grind.{flat_map-append}
use Rattle.std.proofs.lemmas.List.Folds.{length-flat_map-take}
use Rattle.std.proofs.lemmas.List.{append-nil}
use Rattle.std.proofs.Math.Seq.{take-suc}
use Rattle.tall_clamp.specs.Folds.{of_rows}

-- the laws that are used
pub record Laws {S V : Type 0} (rows : S → ℕ) (nothing : S) (one : V → S) (joined : S → S → S) (is_fold : S → Type 0) (is_input : V → Type 0) : Type 0 where
  pub unit_rows : rows nothing ≡ 0
  pub one_rows : (v : V) → rows (one v) ≡ 1
  pub joined_rows : (a b : S) → rows (joined a b) ≡ rows a + rows b
  pub unit_is_fold : is_fold nothing
  pub one_is_fold : (v : V) → is_input v → is_fold (one v)
  pub joined_is_fold : (a b : S) → is_fold a → is_fold b → rows a + rows b < 2 ^ 40 → is_fold (joined a b)
  pub associative : (a b c : S) → is_fold a → is_fold b → is_fold c → joined (joined a b) c ≡ joined a (joined b c)
  pub left_unit : (a : S) → is_fold a → joined nothing a ≡ a
  pub right_unit : (a : S) → is_fold a → joined a nothing ≡ a

-- the fold of the rows that are done
pub record IsFolded {S V : Type 0} (rows : S → ℕ) (nothing : S) (one : V → S) (joined : S → S → S) (is_fold : S → Type 0) (is_input : V → Type 0) (total : S) (done : List V) : Type 0 where
  pub value : total ≡ of_rows joined one nothing done
  pub count : rows total ≡ length done
  pub fold_of : is_fold total
  pub inputs : All is_input done

module _ {S V : Type 0} (rows : S → ℕ) (nothing : S) (one : V → S) (joined : S → S → S) (is_fold : S → Type 0) (is_input : V → Type 0) (laws : Laws rows nothing one joined is_fold is_input) where
  -- the fold of a list is one, with its rows
  folded_from : (a : S) (ys : List V) → is_fold a → All is_input ys → rows a + length ys < 2 ^ 40
      → is_fold (of_rows joined one a ys) × (rows (of_rows joined one a ys) ≡ rows a + length ys)
  folded_from a [] p h few = (p, omega arith)
  folded_from a (y ∷ ys) p h few =
      let head : is_fold (one y) = laws.one_is_fold y (All-head is_input y ys h) in
      let rest = All-tail is_input y ys h in
      let n1 = laws.one_rows y in
      let few1 : rows a + rows (one y) < 2 ^ 40 = omega (arith, n1, few) in
      let both : is_fold (joined a (one y)) = laws.joined_is_fold a (one y) p head few1 in
      let n2 = laws.joined_rows a (one y) in
      let few2 : rows (joined a (one y)) + length ys < 2 ^ 40 = omega (arith, n1, n2, few) in
      let r = folded_from (joined a (one y)) ys both rest few2 in
      (r.0, omega (arith, r.1, n1, n2))

  folded_is_fold : (ys : List V) → All is_input ys → length ys < 2 ^ 40 → is_fold (of_rows joined one nothing ys)
  folded_is_fold ys h few = (folded_from nothing ys laws.unit_is_fold h (omega (arith, laws.unit_rows, few))).0

  -- the fold of a list from a is a, joined with the fold of the list
  from_joined : (a : S) (ys : List V) → is_fold a → All is_input ys → rows a + length ys < 2 ^ 40
      → of_rows joined one a ys ≡ joined a (of_rows joined one nothing ys)
  from_joined a [] p h few = sym (laws.right_unit a p)
  from_joined a (y ∷ ys) p h few =
      let head : is_fold (one y) = laws.one_is_fold y (All-head is_input y ys h) in
      let rest = All-tail is_input y ys h in
      let n1 = laws.one_rows y in
      let few1 : rows a + rows (one y) < 2 ^ 40 = omega (arith, n1, few) in
      let both : is_fold (joined a (one y)) = laws.joined_is_fold a (one y) p head few1 in
      let n2 = laws.joined_rows a (one y) in
      let few2 : rows (joined a (one y)) + length ys < 2 ^ 40 = omega (arith, n1, n2, few) in
      let few3 : rows (one y) + length ys < 2 ^ 40 = omega (arith, n1, few) in
      let tail : is_fold (of_rows joined one nothing ys) = folded_is_fold ys rest (omega (arith, few)) in
      from_joined (joined a (one y)) ys both rest few2
      ∙ laws.associative a (one y) (of_rows joined one nothing ys) p head tail
      ∙ ap (joined a) (sym (from_joined (one y) ys head rest few3))
      ∙ ap (λ (s : S). joined a (of_rows joined one s ys)) (sym (laws.left_unit (one y) head))

  pub start : IsFolded rows nothing one joined is_fold is_input nothing []
  start = record { value = refl; count = laws.unit_rows; fold_of = laws.unit_is_fold; inputs = All-nil is_input }

  pub more : (a b : S) (xs ys : List V) → IsFolded rows nothing one joined is_fold is_input a xs → IsFolded rows nothing one joined is_fold is_input b ys
      → length xs + length ys < 2 ^ 40 → IsFolded rows nothing one joined is_fold is_input (joined a b) (xs ++ ys)
  more a b xs ys p q few =
      let n = laws.joined_rows a b in
      let whole : of_rows joined one nothing (xs ++ ys) ≡ joined a b =
      fold-append (λ s v. joined s (one v)) nothing xs ys
      ∙ ap (λ (s : S). of_rows joined one s ys) (sym p.value)
      ∙ from_joined a ys p.fold_of q.inputs (omega (arith, p.count, few))
      ∙ ap (joined a) (sym q.value) in
      record {
        value = sym whole;
        count = omega (arith, n, p.count, q.count, length-append xs ys);
        fold_of = laws.joined_is_fold a b p.fold_of q.fold_of (omega (arith, p.count, q.count, few));
        inputs = All-append is_input xs ys p.inputs q.inputs;
      }

  pub single : (v : V) → is_input v → IsFolded rows nothing one joined is_fold is_input (one v) (v ∷ [])
  single v h =
      let head : is_fold (one v) = laws.one_is_fold v h in
      record {
        value = sym (laws.left_unit (one v) head);
        count = laws.one_rows v;
        fold_of = head;
        inputs = All-cons is_input v [] h (All-nil is_input);
      }

  -- one block more: the rows done and the result are known by equations
  pub more_block : (a b r : S) (xs ys zs ws : List V) → IsFolded rows nothing one joined is_fold is_input a xs → IsFolded rows nothing one joined is_fold is_input b ys
      → ys ≡ zs → r ≡ joined a b → ws ≡ xs ++ zs → length xs + length zs < 2 ^ 40 → IsFolded rows nothing one joined is_fold is_input r ws
  more_block a b r xs ys zs ws p q e f h few =
      let items : IsFolded rows nothing one joined is_fold is_input b zs =
      subst (λ (l : List V). IsFolded rows nothing one joined is_fold is_input b l) e q in
      subst (λ (s : S). IsFolded rows nothing one joined is_fold is_input s ws) (sym f)
      (subst (λ (l : List V). IsFolded rows nothing one joined is_fold is_input (joined a b) l) (sym h) (more a b xs zs p items few))

-- ---- the rows of the blocks that are done

pub blocks_more : {X A : Type 0} (f : X → List A) (xs : List X) (i : ℕ) (x : X) → i < length xs → x ≡ get_or xs i x
    → flat_map f (take (i + 1) xs) ≡ flat_map f (take i xs) ++ f x
blocks_more f xs i x h e =
    ap (λ (n : ℕ). flat_map f (take n xs)) (add-one i)
    ∙ ap (flat_map f) (take-suc xs i x h)
    ∙ flat_map-append f (take i xs) (get_or xs i x ∷ [])
    ∙ ap (λ (y : _). flat_map f (take i xs) ++ (f y ++ [])) (sym e)
    ∙ ap (λ (ys : List _). flat_map f (take i xs) ++ ys) (append-nil (f x))

pub blocks_fit : {X A : Type 0} (f : X → List A) (xs : List X) (i : ℕ) (x : X) → i < length xs → x ≡ get_or xs i x
    → length (flat_map f xs) < 2 ^ 40 → length (flat_map f (take i xs)) + length (f x) < 2 ^ 40
blocks_fit f xs i x h e few =
    let same : length (f (get_or xs i x)) ≡ length (f x) = ap (λ (y : _). length (f y)) (sym e) in
    omega (arith, length-flat_map-take f xs i x h, same, few)
