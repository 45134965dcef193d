-- What joining a part to a sum does, from what the joins of tall_part, of carries and of columns do.
use Rattle.std.specs.Prelude.{◌≡◌, refl, ℕ, suc, ◌+◌, ◌<◌, ◌^◌, Option, None, Some, IfOk, Result, Ok, Err, List, [], ◌∷◌, ◌++◌, length, take}
use Rattle.std.proofs.Common.{ap, sym, subst, ◌∙◌, arith}
use Rattle.std.proofs.lemmas.List.{append_assoc, append-nil, length-map, map-append, length-append}
use Rattle.std.specs.List.{All}
use Rattle.std.proofs.lemmas.List.Elements.{All-head, All-tail}
use Rattle.tall_value.specs.declared.class.Class.{Class}
use Rattle.tall_value.specs.declared.class.Kind.{Kind}
use Rattle.tall_value.specs.declared.class.Kind.TheVariants.{Integer, Logical, Double, Text}
use Rattle.tall_value.specs.declared.faults.ClassFault.{ClassFault}
use Rattle.tall_value.specs.declared.functions.Scan.{Scan}
use Rattle.tall_value.specs.declared.functions.Scan.TheVariants.{CumSum, CumMin, CumMax}
use Rattle.tall_value.specs.Cells.{Seen, seen_kind}
use Rattle.tall_value.specs.ClassTables.{class_result}
use Rattle.tall_value.specs.Classes.{class_of, kind_of}
use Rattle.tall_value.specs.FunctionClasses.{scan_kind}
use Rattle.tall_value.specs.Columns.{HasKind, cells}
use Rattle.tall_dense.specs.Columns.{SeenColumn, class_of_cell, followed_by, with_cell}
use Rattle.tall_semantics.specs.Deferred.{Vertex}
use Rattle.tall_blocks.specs.Carries.{AllCells, HasScanKind, Rows, carry_for, flat}
use Rattle.tall_blocks.proofs.CarryPlaceLaws.{carry_class, carry_there}
use Rattle.tall_semantics.specs.ScanCarries.{fold_of}
use Rattle.tall_part.specs.NextCarries.{IsBlockCarry, IsNextCarry}
use Rattle.tall_part.specs.declared.next_carry.NextCarry.{NextCarry}
use Rattle.tall_part.specs.declared.operation.EndOperation.{EndOperation}
use Rattle.tall_part.specs.declared.part.EndPart.{EndPart}
use Rattle.tall_part.specs.Parts.{IsPart, IsPartOf}
use Rattle.tall_piece.specs.declared.parts.Part.{Part}
use Rattle.tall_piece.specs.declared.parts.Part.TheVariants as part
use Rattle.tall_piece.specs.declared.parts.Sum.TheVariants as sum
use Rattle.tall_piece.specs.declared.wanted.Way.{Way}
use Rattle.tall_piece.specs.declared.wanted.Way.TheVariants as way
use Rattle.tall_fold.specs.Carries.{SeenCarry}
use Rattle.tall_piece.proofs.CarriedLaws.{carries_go_on}
use Rattle.tall_piece.specs.Carried.{AreCarries, with_fold}
use Rattle.tall_piece.specs.Joins.{CanJoin, IsJoined, IsWithCarry}
use Rattle.tall_piece.specs.Wants.{AreGiven, IsCarryPart, IsColumnPart, IsEndPart, IsNextOf, SomeCarry, SomeColumn, SomeEnd, SomeNext, and_block, blocks_cells, class_at, height_of}

abbrev some_cell : Seen → Option Seen
some_cell c = Some c

abbrev class_result_ok : Class → Result Class ClassFault
class_result_ok c = Ok c

pub flat_one : {A : Type 0} (rss : List (List A)) (rs : List A) → flat (rss ++ rs ∷ []) ≡ flat rss ++ rs
flat_one [] rs = append-nil rs
flat_one (ss ∷ rss) rs = ap (λ ts. ss ++ ts) (flat_one rss rs) ∙ sym (append_assoc ss (flat rss) rs)

-- ---- values at the end

-- what `EndPart::join` asks for
pub end_parts : (t u : EndPart) → CanJoin (sum.End t) (Some (part.End u)) → (op : EndOperation) × (a : Class) × (b : Class) × (n : ℕ) × (m : ℕ) × IsPart op a b n t × IsPart op a b m u × (n + m < 2 ^ 40)
end_parts t u can = of_way can.1.way can.4 can.5
  where
    of_way : (y : Way) → SomeEnd can.0 can.2 y t → SomeEnd can.0 can.3 y u → (op : EndOperation) × (a : Class) × (b : Class) × (n : ℕ) × (m : ℕ) × IsPart op a b n t × IsPart op a b m u × (n + m < 2 ^ 40)
    of_way (way.End e a b) f g = (e, class_at can.0 a, class_at can.0 b, can.2, can.3, f, g, can.6)
    of_way (way.Carries s a) f g = absurd f
    of_way way.Rows f g = absurd f

pub end_joined : (t u both : EndPart) → ((op : EndOperation) (a b : Class) (n m : ℕ) → IsPart op a b n t → IsPart op a b m u → n + m < 2 ^ 40 → IsPart op a b (n + m) both)
    → ((op : EndOperation) (a b : Class) (rs ss js ws : Rows) → IsPartOf op a b rs ss t → IsPartOf op a b js ws u → length rs + length js < 2 ^ 40 → IsPartOf op a b (rs ++ js) (ss ++ ws) both)
    → IsJoined (sum.End t) (Some (part.End u)) (sum.End both)
end_joined t u both some told = record {
  fits = λ vs w n m f g l. some_of vs w.way n m f g l;
  rows = λ vs w given blocks more f g is l. told_of vs w.node w.way blocks more f g l;
}
  where
    some_of : (vs : List Vertex) (y : Way) (n m : ℕ) → SomeEnd vs n y t → SomeEnd vs m y u → n + m < 2 ^ 40 → SomeEnd vs (n + m) y both
    some_of vs (way.End e a b) n m f g l = some e (class_at vs a) (class_at vs b) n m f g l
    some_of vs (way.Carries s a) n m f g l = absurd f
    some_of vs way.Rows n m f g l = absurd f

    told_of : (vs : List Vertex) (i : ℕ) (y : Way) (blocks : ℕ → List Rows) (more : ℕ → Rows) → IsEndPart vs (λ j. flat (blocks j)) y t → IsEndPart vs more y u → height_of (λ j. flat (blocks j)) i y + height_of more i y < 2 ^ 40
        → IsEndPart vs (λ j. flat (and_block blocks more j)) y both
    told_of vs i (way.End e a b) blocks more f g l =
        subst (λ rs. IsPartOf e (class_at vs a) (class_at vs b) rs (flat (and_block blocks more b)) both) (sym (flat_one (blocks a) (more a)))
        (subst (λ ss. IsPartOf e (class_at vs a) (class_at vs b) (flat (blocks a) ++ more a) ss both) (sym (flat_one (blocks b) (more b)))
        (told e (class_at vs a) (class_at vs b) (flat (blocks a)) (flat (blocks b)) (more a) (more b) f g l))
    told_of vs i (way.Carries s a) blocks more f g l = absurd f
    told_of vs i way.Rows blocks more f g l = absurd f

-- where the part is missing
pub end_stays : (t : EndPart) → IsJoined (sum.End t) None (sum.End t)
end_stays t = record {
  fits = λ vs w n m f g l. some_of vs w.way n m f;
  rows = λ vs w given blocks more f g is l. absurd g;
}
  where
    some_of : (vs : List Vertex) (y : Way) (n m : ℕ) → SomeEnd vs n y t → SomeEnd vs (n + m) y t
    some_of vs (way.End e a b) n m f = (f.0, f.1, f.2, (let l = f.3 in omega (arith, l)))
    some_of vs (way.Carries s a) n m f = absurd f
    some_of vs way.Rows n m f = absurd f

-- ---- columns

pub rows_joined : (c d both : SeenColumn) → both ≡ followed_by c d → IsJoined (sum.Rows c) (Some (part.Rows d)) (sum.Rows both)
rows_joined c d both is = record {
  fits = λ vs w n m f g l. some_of vs w.node w.way n m f g;
  rows = λ vs w given blocks more f g is l. told_of w.node w.way blocks more f g;
}
  where
    class : both.class ≡ c.class
    class = ap (λ (x : SeenColumn). x.class) is

    joined : both.cells ≡ c.cells ++ d.cells
    joined = ap (λ (x : SeenColumn). x.cells) is

    some_of : (vs : List Vertex) (i : ℕ) (y : Way) (n m : ℕ) → SomeColumn vs n i y c → SomeColumn vs m i y d → SomeColumn vs (n + m) i y both
    some_of vs i (way.End e a b) n m f g = absurd f
    some_of vs i (way.Carries s a) n m f g = absurd f
    some_of vs i way.Rows n m f g = (class ∙ f.0, (let k : length both.cells ≡ length c.cells + length d.cells = ap length joined ∙ length-append c.cells d.cells in let l = f.1 in let r = g.1 in omega (arith, k, l, r)))

    told_of : (i : ℕ) (y : Way) (blocks : ℕ → List Rows) (more : ℕ → Rows) → IsColumnPart (λ j. flat (blocks j)) i y c → IsColumnPart more i y d → IsColumnPart (λ j. flat (and_block blocks more j)) i y both
    told_of i (way.End e a b) blocks more f g = absurd f
    told_of i (way.Carries s a) blocks more f g = absurd f
    told_of i way.Rows blocks more f g =
        joined ∙ (ap (λ xs. xs ++ d.cells) f ∙ (ap (λ xs. cells (flat (blocks i)) ++ xs) g
        ∙ (sym (map-append (λ (r : ℕ × Seen). r.1) (flat (blocks i)) (more i)) ∙ ap cells (sym (flat_one (blocks i) (more i))))))

pub rows_stay : (c : SeenColumn) → IsJoined (sum.Rows c) None (sum.Rows c)
rows_stay c = record {
  fits = λ vs w n m f g l. some_of vs w.node w.way n m f;
  rows = λ vs w given blocks more f g is l. absurd g;
}
  where
    some_of : (vs : List Vertex) (i : ℕ) (y : Way) (n m : ℕ) → SomeColumn vs n i y c → SomeColumn vs (n + m) i y c
    some_of vs i (way.End e a b) n m f = absurd f
    some_of vs i (way.Carries s a) n m f = absurd f
    some_of vs i way.Rows n m f = (f.0, (let l = f.1 in omega (arith, l)))

-- they are of one class
pub one_class : (c d : SeenColumn) → CanJoin (sum.Rows c) (Some (part.Rows d)) → d.class ≡ c.class
one_class c d can = of_way can.1.way can.4 can.5
  where
    of_way : (y : Way) → SomeColumn can.0 can.2 can.1.node y c → SomeColumn can.0 can.3 can.1.node y d → d.class ≡ c.class
    of_way (way.End e a b) f g = absurd f
    of_way (way.Carries s a) f g = absurd f
    of_way way.Rows f g = g.0 ∙ sym f.0

-- ---- carries of scans

scan_cell_kind : (s : Scan) (a k : Kind) (c : Seen) → scan_kind s a ≡ Ok k → HasKind a c → HasScanKind a c
scan_cell_kind s (Integer j) k c e h = h
scan_cell_kind s Logical k c e h = h
scan_cell_kind s Double k c e h = h
scan_cell_kind CumSum Text k c e h = absurd (cc)
scan_cell_kind CumMin Text k c e h = absurd (cc)
scan_cell_kind CumMax Text k c e h = absurd (cc)

scan_cells : (s : Scan) (a k : Kind) (cs : List Seen) → scan_kind s a ≡ Ok k → All (HasKind a) cs → AllCells (HasScanKind a) cs
scan_cells s a k [] e h = tt
scan_cells s a k (c ∷ cs) e h = (scan_cell_kind s a k c e (All-head (HasKind a) c cs h), scan_cells s a k cs e (All-tail (HasKind a) c cs h))

fold_cell_class : (s : Scan) (a : Kind) (r : Result Kind ClassFault) (out : Class) (cs : List Seen) (c : Seen) → scan_kind s a ≡ r → class_result r ≡ Ok out → All (HasKind a) cs → fold_of s a cs ≡ Some c → class_of_cell c ≡ out
fold_cell_class s a (Ok k) out cs c e h all f =
    let q : seen_kind c ≡ k = carry_class s a k cs c e (scan_cells s a k cs e all) f in
    let w : class_of k ≡ out = class_inside (class_of k) out h in
    ap class_of q ∙ w
  where
    class_inside : (x y : Class) → class_result_ok x ≡ class_result_ok y → x ≡ y
    class_inside x y g = ap (λ (z : Result Class ClassFault). elim z [ Ok t ↦ t | Err t ↦ x ]) g
fold_cell_class s a (Err f) out cs c e h all g = absurd (cc)

take_all : (xs ys : List (List Seen)) → take (length xs) (xs ++ ys) ≡ xs
take_all [] ys = refl
take_all (x ∷ xs) ys = ap (λ zs. x ∷ zs) (take_all xs ys)

-- what a carry gives has the class of the scan
pub carry_cell_class : (next : NextCarry) (cells' : SeenColumn) (o : Option Seen) (x : Seen) → ((vs : List Vertex) × (n : ℕ) × (i : ℕ) × (y : Way) × SomeNext vs n i y next cells')
    → ((s : Scan) (class : Class) (blocks : List (List Seen)) → IsNextCarry s class blocks next → (more : List Seen) (rest : List (List Seen)) → o ≡ carry_for s (kind_of class) (blocks ++ more ∷ rest) (length blocks))
    → o ≡ some_cell x → class_of_cell x ≡ cells'.class
carry_cell_class next cells' o x some tells e = of_way some.3 some.4
  where
    of_way : (y : Way) → SomeNext some.0 some.1 some.2 y next cells' → class_of_cell x ≡ cells'.class
    of_way (way.End f a b) g = absurd g
    of_way (way.Carries s a) g =
        let kind : Kind = kind_of (class_at some.0 a) in
        let there : carry_for s kind (g.0 ++ [] ∷ []) (length g.0) ≡ some_cell x = sym (tells s (class_at some.0 a) g.0 g.1 [] []) ∙ e in
        let fold : fold_of s kind (flat g.0) ≡ some_cell x = ap (λ bs. fold_of s kind (flat bs)) (sym (take_all g.0 ([] ∷ []))) ∙ carry_there s kind (g.0 ++ [] ∷ []) (length g.0) x there in
        fold_cell_class s kind (scan_kind s kind) (class_at some.0 some.2) (flat g.0) x refl g.4 g.1.so_far.kinds fold ∙ sym g.3
    of_way way.Rows g = absurd g

pub one_with_carry : (next : NextCarry) (old new : SeenColumn) (o : Option Seen) (x : Seen)
    → ((s : Scan) (class : Class) (blocks : List (List Seen)) → IsNextCarry s class blocks next → (more : List Seen) (rest : List (List Seen)) → o ≡ carry_for s (kind_of class) (blocks ++ more ∷ rest) (length blocks))
    → o ≡ some_cell x → new ≡ with_cell old x → IsWithCarry next old new
one_with_carry next old new o x tells e is =
    (some_cell x, ap (λ (c : SeenColumn). c.class) is, ap (λ (c : SeenColumn). c.cells) is, λ s class blocks next_is more rest. sym e ∙ tells s class blocks next_is more rest)

pub none_with_carry : (next : NextCarry) (old : SeenColumn) (o : Option Seen)
    → ((s : Scan) (class : Class) (blocks : List (List Seen)) → IsNextCarry s class blocks next → (more : List Seen) (rest : List (List Seen)) → o ≡ carry_for s (kind_of class) (blocks ++ more ∷ rest) (length blocks))
    → o ≡ None → IsWithCarry next old old
none_with_carry next old o tells e = (None, refl, refl, λ s class blocks next_is more rest. sym e ∙ tells s class blocks next_is more rest)

-- what `NextCarry::join` asks for
pub carry_parts : (next : NextCarry) (cells' : SeenColumn) (block : SeenCarry) → CanJoin (sum.Carries next cells') (Some (part.Carry block))
    → (s : Scan) × (class : Class) × (blocks : List (List Seen)) × (cs : List Seen) × IsNextCarry s class blocks next × IsBlockCarry s class cs block × (length (flat blocks) + length cs < 2 ^ 40)
carry_parts next cells' block can = of_way can.1.way can.4 can.5
  where
    of_way : (y : Way) → SomeNext can.0 can.2 can.1.node y next cells' → SomeCarry can.0 can.3 y block
        → (s : Scan) × (class : Class) × (blocks : List (List Seen)) × (cs : List Seen) × IsNextCarry s class blocks next × IsBlockCarry s class cs block × (length (flat blocks) + length cs < 2 ^ 40)
    of_way (way.End e a b) f g = absurd f
    of_way (way.Carries s a) f g = (s, class_at can.0 a, f.0, g.0, f.1, g.1, (let l = f.2 in let r = g.2 in let k = can.6 in omega (arith, l, r, k)))
    of_way way.Rows f g = absurd f

-- and what `with_carry` asks for
pub some_next : (next : NextCarry) (cells' : SeenColumn) (o : Option Part) → CanJoin (sum.Carries next cells') o → (vs : List Vertex) × (n : ℕ) × (i : ℕ) × (y : Way) × SomeNext vs n i y next cells'
some_next next cells' o can = (can.0, can.2, can.1.node, can.1.way, can.4)

one_block_more : (rss : List Rows) (rs : Rows) → length (rss ++ rs ∷ []) ≡ suc (length rss)
one_block_more [] rs = refl
one_block_more (x ∷ rss) rs = ap suc (one_block_more rss rs)

flat_cells : (rss : List Rows) → length (flat (blocks_cells rss)) ≡ length (flat rss)
flat_cells [] = refl
flat_cells (rs ∷ rss) =
    length-append (cells rs) (flat (blocks_cells rss)) ∙ (ap (λ n. n + length (flat (blocks_cells rss))) (length-map rs (λ (r : ℕ × Seen). r.1))
    ∙ (ap (λ n. length rs + n) (flat_cells rss) ∙ sym (length-append rs (flat rss))))

abbrev JoinsTo : NextCarry → SeenCarry → NextCarry → Type 0
JoinsTo next block new = (s : Scan) (class : Class) (blocks : List (List Seen)) (cs : List Seen) → IsNextCarry s class blocks next → IsBlockCarry s class cs block → length (flat blocks) + length cs < 2 ^ 40 → IsNextCarry s class (blocks ++ cs ∷ []) new

pub carry_joined : (next new : NextCarry) (old_cells new_cells : SeenColumn) (block : SeenCarry) → IsWithCarry next old_cells new_cells → JoinsTo next block new → IsJoined (sum.Carries next old_cells) (Some (part.Carry block)) (sum.Carries new new_cells)
carry_joined next new old_cells new_cells block added joins = record {
  fits = λ vs w n m f g l. some_of vs w.node w.way n m f g l;
  rows = λ vs w given blocks more f g is l. told_of vs w.node w.way given blocks more f g is l;
}
  where
    some_of : (vs : List Vertex) (i : ℕ) (y : Way) (n m : ℕ) → SomeNext vs n i y next old_cells → SomeCarry vs m y block → n + m < 2 ^ 40 → SomeNext vs (n + m) i y new new_cells
    some_of vs i (way.End e a b) n m f g l = absurd f
    some_of vs i (way.Carries s a) n m f g l =
        let h : length (flat (f.0 ++ g.0 ∷ [])) ≡ length (flat f.0) + length g.0 = ap length (flat_one f.0 g.0) ∙ length-append (flat f.0) g.0 in
        let p = f.2 in
        let q = g.2 in
        (f.0 ++ g.0 ∷ [], joins s (class_at vs a) f.0 g.0 f.1 g.1 (omega (arith, p, q, l)), omega (arith, h, p, q), added.1 ∙ f.3, f.4)
    some_of vs i way.Rows n m f g l = absurd f

    told_of : (vs : List Vertex) (i : ℕ) (y : Way) (given : ℕ → Option Seen) (blocks : ℕ → List Rows) (more : ℕ → Rows) → IsNextOf vs given blocks y next old_cells → IsCarryPart vs more y block → AreGiven vs given blocks more y
        → height_of (λ j. flat (blocks j)) i y + height_of more i y < 2 ^ 40 → IsNextOf vs given (and_block blocks more) y new new_cells
    told_of vs i (way.End e a b) given blocks more f g is l = absurd f
    told_of vs i (way.Carries s a) given blocks more f g is l =
        let k = flat_cells (blocks a) in
        let j : length (cells (more a)) ≡ length (more a) = length-map (more a) (λ (r : ℕ × Seen). r.1) in
        let m : length (blocks_cells (blocks a)) ≡ length (blocks a) = length-map (blocks a) cells in
        let kind : Kind = kind_of (class_at vs a) in
        let all : List (List Seen) = blocks_cells (blocks a) ++ cells (more a) ∷ is.0 in
        let o : added.0 ≡ carry_for s kind all (length (blocks a)) = added.3 s (class_at vs a) (blocks_cells (blocks a)) f.0 (cells (more a)) is.0 ∙ ap (carry_for s kind all) m in
        let kept : AreCarries given (suc (length (blocks a))) (with_fold old_cells.cells added.0) = carries_go_on s kind all given is.1 (length (blocks a)) old_cells.cells added.0 f.1 o in (
          subst (λ bs. IsNextCarry s (class_at vs a) bs new) (sym (map-append cells (blocks a) (more a ∷ []))) (joins s (class_at vs a) (blocks_cells (blocks a)) (cells (more a)) f.0 g (omega (arith, k, j, l))),
          subst (λ xs. AreCarries given (length (and_block blocks more a)) xs) (sym added.2) (subst (λ n. AreCarries given n (with_fold old_cells.cells added.0)) (sym (one_block_more (blocks a) (more a))) kept),
        )
    told_of vs i way.Rows given blocks more f g is l = absurd f

-- where the part is missing
pub carry_stays : (next : NextCarry) (old_cells new_cells : SeenColumn) → IsWithCarry next old_cells new_cells → IsJoined (sum.Carries next old_cells) None (sum.Carries next new_cells)
carry_stays next old_cells new_cells added = record {
  fits = λ vs w n m f g l. some_of vs w.node w.way n m f;
  rows = λ vs w given blocks more f g is l. absurd g;
}
  where
    some_of : (vs : List Vertex) (i : ℕ) (y : Way) (n m : ℕ) → SomeNext vs n i y next old_cells → SomeNext vs (n + m) i y next new_cells
    some_of vs i (way.End e a b) n m f = absurd f
    some_of vs i (way.Carries s a) n m f = (f.0, f.1, (let l = f.2 in omega (arith, l)), added.1 ∙ f.3, f.4)
    some_of vs i way.Rows n m f = absurd f

pub one_with_carry_ok : {E : Type 0} (next : NextCarry) (old : SeenColumn) (o : Option Seen) (x : Seen)
    → ((s : Scan) (class : Class) (blocks : List (List Seen)) → IsNextCarry s class blocks next → (more : List Seen) (rest : List (List Seen)) → o ≡ carry_for s (kind_of class) (blocks ++ more ∷ rest) (length blocks))
    → o ≡ some_cell x → (r : Result SeenColumn E) → IfOk r (λ c. c ≡ with_cell old x) → IfOk r (λ c. IsWithCarry next old c)
one_with_carry_ok next old o x tells e (Ok c) h = one_with_carry next old c o x tells e h
one_with_carry_ok next old o x tells e (Err f) h = tt
