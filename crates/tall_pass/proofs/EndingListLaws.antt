-- Loops over what the sums of a pass come to.
use Rattle.std.specs.Prelude.{◌≡◌, refl, ℕ, ◌<◌, Option, List, [], ◌∷◌, ◌++◌, length}
use Rattle.std.proofs.Common.{ap, sym, subst, ◌∙◌}
use Rattle.std.proofs.lemmas.List.{append_assoc, append-nil}
use Rattle.tall_semantics.specs.Faults.{Fault, earlier, least_fault}
use Rattle.tall_semantics.specs.Deferred.{Vertex}
use Rattle.tall_blocks.proofs.PieceLaws.{earlier_assoc, earlier_none}
use Rattle.tall_piece.specs.declared.parts.Sum.{Sum}
use Rattle.tall_piece.specs.declared.wanted.Wanted.{Wanted}
use Rattle.tall_piece.specs.Joins.{AreWays}
use Rattle.tall_piece.specs.Pieces.{SumsFit}
use Rattle.tall_pass.specs.declared.endings.Ended.{Ended}
use Rattle.tall_pass.specs.Endings.{AreEndings, AreSomeSums, AreThereAtEnd, FitsBelow, IsSomeSum, TellsEnding, fault_at_end, faults_at_end}

-- ---- the sums

fits_both : (vs : List Vertex) (n : ℕ) (ws rest : List Wanted) (w : Wanted) (ss more : List Sum) (s : Sum) → ws ≡ w ∷ rest → ss ≡ s ∷ more → SumsFit vs n ws ss → SumsFit vs n (w ∷ rest) (s ∷ more)
fits_both vs n ws rest w ss more s e f fit = subst (λ xs. SumsFit vs n xs (s ∷ more)) e (subst (λ xs. SumsFit vs n ws xs) f fit)

pub sum_here : (vs : List Vertex) (ws rest : List Wanted) (w : Wanted) (ss more : List Sum) (s : Sum) → ws ≡ w ∷ rest → ss ≡ s ∷ more → AreSomeSums vs ws ss → IsSomeSum vs w s
sum_here vs ws rest w ss more s e f some = (some.0, (fits_both vs some.0 ws rest w ss more s e f some.1).0, some.2)

pub sums_behind : (vs : List Vertex) (ws rest : List Wanted) (w : Wanted) (ss more : List Sum) (s : Sum) → ws ≡ w ∷ rest → ss ≡ s ∷ more → AreSomeSums vs ws ss → AreSomeSums vs rest more
sums_behind vs ws rest w ss more s e f some = (some.0, (fits_both vs some.0 ws rest w ss more s e f some.1).1, some.2)

pub no_sum_is_missing : (vs : List Vertex) (ws rest : List Wanted) (w : Wanted) (ss : List Sum) → ws ≡ w ∷ rest → ss ≡ [] → AreSomeSums vs ws ss → ⊥
no_sum_is_missing vs ws rest w ss e f some = subst (λ xs. SumsFit vs some.0 xs []) e (subst (λ xs. SumsFit vs some.0 ws xs) f some.1)

pub one_ending : (vs : List Vertex) (bound : Option Fault) (ws rest all : List Wanted) (w : Wanted) (ss more sums : List Sum) (s : Sum) (done longer : List Ended) (e : Ended) → ws ≡ w ∷ rest → ss ≡ s ∷ more
    → e.node ≡ w.node → FitsBelow vs bound w e.ending → TellsEnding vs w s e.ending → longer ≡ done ++ e ∷ []
    → ((es : List Ended) → AreEndings vs bound ws ss es → AreEndings vs bound all sums (done ++ es)) → (es : List Ended) → AreEndings vs bound rest more es → AreEndings vs bound all sums (longer ++ es)
one_ending vs bound ws rest all w ss more sums s done longer e p q node fits tells l goes es are =
    subst (AreEndings vs bound all sums) (sym (append_assoc done (e ∷ []) es) ∙ ap (λ xs. xs ++ es) (sym l))
    (goes (e ∷ es) (subst (λ xs. AreEndings vs bound xs ss (e ∷ es)) (sym p) (subst (λ xs. AreEndings vs bound (w ∷ rest) xs (e ∷ es)) (sym q) ((node, fits, tells), are))))

pub every_ending : (vs : List Vertex) (bound : Option Fault) (ws all : List Wanted) (ss sums : List Sum) (done : List Ended) → ws ≡ [] → ((es : List Ended) → AreEndings vs bound ws ss es → AreEndings vs bound all sums (done ++ es)) → AreEndings vs bound all sums done
every_ending vs bound ws all ss sums done e goes = subst (AreEndings vs bound all sums) (append-nil done) (goes [] (subst (λ xs. AreEndings vs bound xs ss []) (sym e) refl))

-- ---- the least fault

pub next_fault : (es rest all : List Ended) (e : Ended) (so_far c longer : Option Fault) → es ≡ e ∷ rest → c ≡ fault_at_end e.ending → longer ≡ earlier so_far c → earlier so_far (least_fault (faults_at_end es)) ≡ least_fault (faults_at_end all)
    → earlier longer (least_fault (faults_at_end rest)) ≡ least_fault (faults_at_end all)
next_fault es rest all e so_far c longer p q l goes =
    ap (λ d. earlier d (least_fault (faults_at_end rest))) (l ∙ ap (earlier so_far) q)
    ∙ (sym (earlier_assoc so_far (fault_at_end e.ending) (least_fault (faults_at_end rest))) ∙ (ap (λ xs. earlier so_far (least_fault (faults_at_end xs))) (sym p) ∙ goes))

pub last_fault : (es all : List Ended) (so_far : Option Fault) → es ≡ [] → earlier so_far (least_fault (faults_at_end es)) ≡ least_fault (faults_at_end all) → so_far ≡ least_fault (faults_at_end all)
last_fault es all so_far e goes = sym (earlier_none so_far) ∙ (ap (λ xs. earlier so_far (least_fault (faults_at_end xs))) (sym e) ∙ goes)

-- ---- the nodes

pub all_there : (vs : List Vertex) (bound : Option Fault) (ws : List Wanted) (ss : List Sum) (es : List Ended) → AreWays vs ws → AreEndings vs bound ws ss es → AreThereAtEnd (length vs) es
all_there vs bound [] ss es ways are = subst (AreThereAtEnd (length vs)) (sym are) tt
all_there vs bound (w ∷ ws) [] es ways are = absurd are
all_there vs bound (w ∷ ws) (s ∷ ss) [] ways are = absurd are
all_there vs bound (w ∷ ws) (s ∷ ss) (e ∷ es) ways are = (subst (λ i. i < length vs) (sym are.0.0) ways.0.0, all_there vs bound ws ss es ways.1 are.1)

pub there_here : (n : ℕ) (es rest : List Ended) (e : Ended) → es ≡ e ∷ rest → AreThereAtEnd n es → e.node < n
there_here n es rest e q are = (subst (AreThereAtEnd n) q are).0

pub there_behind : (n : ℕ) (es rest : List Ended) (e : Ended) → es ≡ e ∷ rest → AreThereAtEnd n es → AreThereAtEnd n rest
there_behind n es rest e q are = (subst (AreThereAtEnd n) q are).1
