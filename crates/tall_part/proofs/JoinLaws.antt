-- Parts of some rows and of those behind them.
use Rattle.std.specs.Prelude.{◌≡◌, ◌+◌, ◌≤◌, ◌<◌, ◌^◌, ℕ, Bool, true, false, IfOk, Result, Ok, Err, List, ◌++◌, length}
use Rattle.std.proofs.Common.{ap, sym, subst, ◌∙◌, refl, arith, length-append}
use Rattle.std.proofs.lemmas.List.{length-map, map-append}
use Rattle.tall_value.specs.declared.class.Class.{Class}
use Rattle.tall_value.specs.declared.functions.Method.{Method}
use Rattle.tall_value.specs.declared.functions.Reduction.{Reduction}
use Rattle.tall_value.specs.Cells.{Seen}
use Rattle.tall_value.specs.Columns.{cells}
use Rattle.tall_fold.specs.FirstAndLast.{SeenEnds, ends_of, with_rows}
use Rattle.tall_fold.specs.Summaries.{SeenSummary}
use Rattle.tall_fold.proofs.PairLemmas.{ends_join, same_ends}
use Rattle.tall_group.specs.Folds.{AreAlike, IsGroupFoldOf}
use Rattle.tall_group.specs.UniqueFolds.{IsUniqueOf, class_of_unique}
use Rattle.tall_group.specs.declared.fold.GroupFold.{GroupFold}
use Rattle.tall_group.specs.declared.unique.UniqueFold.{UniqueFold}
use Rattle.tall_blocks.specs.Carries.{Rows}
use Rattle.tall_part.specs.declared.operation.EndOperation.{EndOperation}
use Rattle.tall_part.specs.declared.operation.EndOperation.TheVariants as end
use Rattle.tall_part.specs.declared.part.EndPart.{EndPart}
use Rattle.tall_part.specs.declared.part.EndPart.TheVariants as part
use Rattle.tall_part.specs.Parts.{AreEndsOf, IsDistinctOf, IsGroupsOf, IsPart, IsPartOf, IsReductionOf}

-- ---- what is kept, joined

pub ends_joined : {T E : Type 0} (r : Result T E) (last : Bool) (most : ℕ) (a : Class) (rs js : Rows) (old later new : SeenEnds) → old ≡ record { last = last; most = most; class = a; rows = ends_of last most rs }
    → later ≡ record { last = last; most = most; class = a; rows = ends_of last most js } → IfOk r (λ _. new ≡ with_rows old later.rows) → IfOk r (λ _. AreEndsOf last most a (rs ++ js) (part.Rows new))
ends_joined (Err x) last most a rs js old later new e f h = tt
ends_joined (Ok x) last most a rs js old later new e f h =
    h ∙ ap (λ (s : SeenEnds). with_rows s later.rows) e
    ∙ same_ends last most a a _ _ refl (ap (λ (s : SeenEnds). ends_of last most (ends_of last most rs ++ s.rows)) f ∙ ends_join last most rs js)

pub distinct_joined : {T E : Type 0} (r : Result T E) (a : Class) (cs ds : List Seen) (old later new : UniqueFold) → (class_of_unique old ≡ a) × IsUniqueOf old cs → (class_of_unique later ≡ a) × IsUniqueOf later ds
    → class_of_unique new ≡ class_of_unique old → ((xs ys : List Seen) → IsUniqueOf old xs → IsUniqueOf later ys → IfOk r (λ _. IsUniqueOf new (xs ++ ys))) → IfOk r (λ _. IsDistinctOf a (cs ++ ds) (part.Distinct new))
distinct_joined (Err x) a cs ds old later new p q e h = tt
distinct_joined (Ok x) a cs ds old later new p q e h = (e ∙ p.0, h cs ds p.1 q.1)

pub groups_joined : {T E : Type 0} (r : Result T E) (m : Method) (a b : Class) (ks ds js ws : List Seen) (old later new : GroupFold) → IsGroupsOf m a b ks ds (part.Groups old) → IsGroupsOf m a b js ws (part.Groups later) → length ks + length js < 2 ^ 40
    → AreAlike new old → ((xs vs ys us : List Seen) → IsGroupFoldOf old xs vs → IsGroupFoldOf later ys us → length xs + length ys < 2 ^ 40 → IfOk r (λ _. IsGroupFoldOf new (xs ++ ys) (vs ++ us)))
    → IfOk r (λ _. IsGroupsOf m a b (ks ++ js) (ds ++ ws) (part.Groups new))
groups_joined (Err x) m a b ks ds js ws old later new p q few alike h = tt
groups_joined (Ok x) m a b ks ds js ws old later new p q few alike h = (alike.method ∙ p.0, alike.keys ∙ p.1, alike.data_class ∙ p.2, h ks ds js ws p.3 q.3 few)

-- ---- by the operation

cells_append : (rs js : Rows) → cells (rs ++ js) ≡ cells rs ++ cells js
cells_append rs js = map-append (λ (r : ℕ × Seen). r.1) rs js

pub long_cells : (rs : Rows) → length (cells rs) ≡ length rs
long_cells rs = length-map rs (λ (r : ℕ × Seen). r.1)

few_cells : (rs js : Rows) (k : ℕ) → length rs + length js < k → length (cells rs) + length (cells js) < k
few_cells rs js k h = (let e = long_cells rs in let f = long_cells js in omega (arith, h, e, f))

few_both : (rs js : Rows) (n m k : ℕ) → length rs ≤ n → length js ≤ m → n + m < k → length rs + length js < k
few_both rs js n m k e f h = omega (arith, e, f, h)

-- what the joins ask, from two parts of one operation

pub summary_need : (op : EndOperation) (a b : Class) (n m : ℕ) (s : SeenSummary) (later : EndPart) → IsPart op a b n (part.Summary s) → IsPart op a b m later → n + m < 2 ^ 40
    → (r : Reduction) × (c : Class) × (cs ds : List Seen) × IsReductionOf r c cs (part.Summary s) × IsReductionOf r c ds later × (length cs + length ds < 2 ^ 40)
summary_need (end.Reduce r) a b n m s later p q h = (r, a, cells p.0, cells q.0, p.2, q.2, few_cells p.0 q.0 (2 ^ 40) (few_both p.0 q.0 n m (2 ^ 40) p.3 q.3 h))
summary_need (end.Head k) a b n m s later p q h = absurd p.2
summary_need (end.Tail k) a b n m s later p q h = absurd p.2
summary_need end.Distinct a b n m s later p q h = absurd p.2
summary_need (end.Group g) a b n m s later p q h = absurd p.2

pub ends_need : (op : EndOperation) (a b : Class) (n m : ℕ) (e : SeenEnds) (later : EndPart) → IsPart op a b n (part.Rows e) → IsPart op a b m later
    → (last : Bool) × (most : ℕ) × (c : Class) × (rs js : Rows) × AreEndsOf last most c rs (part.Rows e) × AreEndsOf last most c js later
ends_need (end.Reduce r) a b n m e later p q = absurd p.2
ends_need (end.Head k) a b n m e later p q = (false, k, a, p.0, q.0, p.2, q.2)
ends_need (end.Tail k) a b n m e later p q = (true, k, a, p.0, q.0, p.2, q.2)
ends_need end.Distinct a b n m e later p q = absurd p.2
ends_need (end.Group g) a b n m e later p q = absurd p.2

pub distinct_need : (op : EndOperation) (a b : Class) (n m : ℕ) (u : UniqueFold) (later : EndPart) → IsPart op a b n (part.Distinct u) → IsPart op a b m later
    → (c : Class) × (cs ds : List Seen) × IsDistinctOf c cs (part.Distinct u) × IsDistinctOf c ds later
distinct_need (end.Reduce r) a b n m u later p q = absurd p.2
distinct_need (end.Head k) a b n m u later p q = absurd p.2
distinct_need (end.Tail k) a b n m u later p q = absurd p.2
distinct_need end.Distinct a b n m u later p q = (a, cells p.0, cells q.0, p.2, q.2)
distinct_need (end.Group g) a b n m u later p q = absurd p.2

pub groups_need : (op : EndOperation) (a b : Class) (n m : ℕ) (g : GroupFold) (later : EndPart) → IsPart op a b n (part.Groups g) → IsPart op a b m later → n + m < 2 ^ 40
    → (method : Method) × (c d : Class) × (ks ds js ws : List Seen) × IsGroupsOf method c d ks ds (part.Groups g) × IsGroupsOf method c d js ws later × (length ks + length js < 2 ^ 40)
groups_need (end.Reduce r) a b n m g later p q h = absurd p.2
groups_need (end.Head k) a b n m g later p q h = absurd p.2
groups_need (end.Tail k) a b n m g later p q h = absurd p.2
groups_need end.Distinct a b n m g later p q h = absurd p.2
groups_need (end.Group f) a b n m g later p q h =
    (f, a, b, cells p.0, cells p.1, cells q.0, cells q.1, p.2, q.2, few_cells p.0 q.0 (2 ^ 40) (few_both p.0 q.0 n m (2 ^ 40) p.3 q.3 h))

pub summary_given : (op : EndOperation) (a b : Class) (rs ss js ws : Rows) (old new : SeenSummary) (later : EndPart) → IsPartOf op a b rs ss (part.Summary old) → IsPartOf op a b js ws later
    → ((r : Reduction) (c : Class) (cs ds : List Seen) → IsReductionOf r c cs (part.Summary old) → IsReductionOf r c ds later → IsReductionOf r c (cs ++ ds) (part.Summary new)) → IsPartOf op a b (rs ++ js) (ss ++ ws) (part.Summary new)
summary_given (end.Reduce r) a b rs ss js ws old new later p q h = subst (λ (l : List Seen). IsReductionOf r a l (part.Summary new)) (sym (cells_append rs js)) (h r a (cells rs) (cells js) p q)
summary_given (end.Head k) a b rs ss js ws old new later p q h = absurd p
summary_given (end.Tail k) a b rs ss js ws old new later p q h = absurd p
summary_given end.Distinct a b rs ss js ws old new later p q h = absurd p
summary_given (end.Group g) a b rs ss js ws old new later p q h = absurd p

pub ends_given : {T E : Type 0} (r : Result T E) (op : EndOperation) (a b : Class) (rs ss js ws : Rows) (old new : SeenEnds) (later : EndPart) → IsPartOf op a b rs ss (part.Rows old) → IsPartOf op a b js ws later
    → ((last : Bool) (most : ℕ) (c : Class) (xs ys : Rows) → AreEndsOf last most c xs (part.Rows old) → AreEndsOf last most c ys later → IfOk r (λ _. AreEndsOf last most c (xs ++ ys) (part.Rows new)))
    → IfOk r (λ _. IsPartOf op a b (rs ++ js) (ss ++ ws) (part.Rows new))
ends_given r (end.Reduce f) a b rs ss js ws old new later p q h = absurd p
ends_given r (end.Head k) a b rs ss js ws old new later p q h = h false k a rs js p q
ends_given r (end.Tail k) a b rs ss js ws old new later p q h = h true k a rs js p q
ends_given r end.Distinct a b rs ss js ws old new later p q h = absurd p
ends_given r (end.Group g) a b rs ss js ws old new later p q h = absurd p

pub distinct_given : {T E : Type 0} (r : Result T E) (op : EndOperation) (a b : Class) (rs ss js ws : Rows) (old new : UniqueFold) (later : EndPart) → IsPartOf op a b rs ss (part.Distinct old) → IsPartOf op a b js ws later
    → ((c : Class) (cs ds : List Seen) → IsDistinctOf c cs (part.Distinct old) → IsDistinctOf c ds later → IfOk r (λ _. IsDistinctOf c (cs ++ ds) (part.Distinct new))) → IfOk r (λ _. IsPartOf op a b (rs ++ js) (ss ++ ws) (part.Distinct new))
distinct_given r (end.Reduce f) a b rs ss js ws old new later p q h = absurd p
distinct_given r (end.Head k) a b rs ss js ws old new later p q h = absurd p
distinct_given r (end.Tail k) a b rs ss js ws old new later p q h = absurd p
distinct_given r end.Distinct a b rs ss js ws old new later p q h = subst (λ (l : List Seen). IfOk r (λ _. IsDistinctOf a l (part.Distinct new))) (sym (cells_append rs js)) (h a (cells rs) (cells js) p q)
distinct_given r (end.Group g) a b rs ss js ws old new later p q h = absurd p

pub groups_given : {T E : Type 0} (r : Result T E) (op : EndOperation) (a b : Class) (rs ss js ws : Rows) (old new : GroupFold) (later : EndPart) → IsPartOf op a b rs ss (part.Groups old) → IsPartOf op a b js ws later → length rs + length js < 2 ^ 40
    → ((m : Method) (c d : Class) (ks ds ls us : List Seen) → IsGroupsOf m c d ks ds (part.Groups old) → IsGroupsOf m c d ls us later → length ks + length ls < 2 ^ 40 → IfOk r (λ _. IsGroupsOf m c d (ks ++ ls) (ds ++ us) (part.Groups new)))
    → IfOk r (λ _. IsPartOf op a b (rs ++ js) (ss ++ ws) (part.Groups new))
groups_given r (end.Reduce f) a b rs ss js ws old new later p q few h = absurd p
groups_given r (end.Head k) a b rs ss js ws old new later p q few h = absurd p
groups_given r (end.Tail k) a b rs ss js ws old new later p q few h = absurd p
groups_given r end.Distinct a b rs ss js ws old new later p q few h = absurd p
groups_given r (end.Group m) a b rs ss js ws old new later p q few h =
    subst (λ (l : List Seen). IfOk r (λ _. IsGroupsOf m a b l (cells (ss ++ ws)) (part.Groups new))) (sym (cells_append rs js))
    (subst (λ (l : List Seen). IfOk r (λ _. IsGroupsOf m a b (cells rs ++ cells js) l (part.Groups new))) (sym (cells_append ss ws))
    (h m a b (cells rs) (cells ss) (cells js) (cells ws) p q (few_cells rs js (2 ^ 40) few)))

-- of some rows, at most so many
pub some_both : (op : EndOperation) (a b : Class) (n m : ℕ) (old later new : EndPart) → IsPart op a b n old → IsPart op a b m later → n + m < 2 ^ 40
    → ((rs ss js ws : Rows) → IsPartOf op a b rs ss old → IsPartOf op a b js ws later → length rs + length js < 2 ^ 40 → IsPartOf op a b (rs ++ js) (ss ++ ws) new) → IsPart op a b (n + m) new
some_both op a b n m old later new p q few h =
    let e = length-append p.0 q.0 in
    let f = p.3 in
    let g = q.3 in
    (p.0 ++ q.0, p.1 ++ q.1, h p.0 p.1 q.0 q.1 p.2 q.2 (few_both p.0 q.0 n m (2 ^ 40) p.3 q.3 few), omega (arith, e, f, g))

pub some_joined : {T E : Type 0} (r : Result T E) (op : EndOperation) (a b : Class) (n m : ℕ) (old later new : EndPart) → IsPart op a b n old → IsPart op a b m later → n + m < 2 ^ 40
    → ((rs ss js ws : Rows) → IsPartOf op a b rs ss old → IsPartOf op a b js ws later → length rs + length js < 2 ^ 40 → IfOk r (λ _. IsPartOf op a b (rs ++ js) (ss ++ ws) new)) → IfOk r (λ _. IsPart op a b (n + m) new)
some_joined (Err x) op a b n m old later new p q few h = tt
some_joined (Ok x) op a b n m old later new p q few h = some_both op a b n m old later new p q few h
