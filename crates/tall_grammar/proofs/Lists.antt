-- Lists with commas between, and texts in brackets.
use Rattle.std.proofs.Common.{◌≡◌, ℕ, suc, zero, Bool, true, false, ◌||◌, List, [], ◌∷◌, ◌++◌, refl, sym, ap, ◌∙◌, subst, append_assoc}
use Rattle.std.proofs.lemmas.List.{append-nil}
use Rattle.std.specs.Prelude.{codes}
use Rattle.tall_grammar.specs.Lexemes.{Lexeme, sign, is_the_sign}
use Rattle.tall_grammar.specs.Grammar.{IsComma, no_comma, comma}
use Rattle.tall_grammar.specs.Readers.{Reader, ◌>>=◌, pure, front_is, optional_comma, goes_on_with, listed_from}
use Rattle.tall_grammar.proofs.Exact.{Rule, Exact}
use Rattle.tall_grammar.proofs.Combine.{IsPure, is_pure, Seq, seq, Either, one, other, IsGivenIf, with_token, without_token, exact_as, exact_pure, exact_tired, exact_bind, exact_peek, exact_given_if}
use Rattle.tall_grammar.proofs.Signs.{sign_is}

-- nothing would belong to it still
abbrev pub nothing : Lexeme → Bool
nothing t = false

pub none_of_nothing : (ts : List Lexeme) → front_is nothing ts ≡ false
none_of_nothing [] = refl
none_of_nothing (t ∷ ts) = refl

-- the first of the tokens passes
pub record Starts (test : Lexeme → Bool) (ts : List Lexeme) : Type 0 where
  pub token : Lexeme
  pub others : List Lexeme
  pub text : ts ≡ token ∷ others
  pub passes : test token ≡ true

pub starts_front : (test : Lexeme → Bool) (ts rest : List Lexeme) → Starts test ts → front_is test (ts ++ rest) ≡ true
starts_front test ts rest s = ap (λ w. front_is test (w ++ rest)) s.text ∙ s.passes

pub starts_other : (test not_it : Lexeme → Bool) (ts rest : List Lexeme) → Starts test ts → ((t : Lexeme) → test t ≡ true → not_it t ≡ false) → front_is not_it (ts ++ rest) ≡ false
starts_other test not_it ts rest s h = ap (λ w. front_is not_it (w ++ rest)) s.text ∙ h s.token s.passes

-- ---- [',']

pub data CommaRule : ℕ → List Lexeme → Unit {0} → ℕ → Type 0 where
  comma_rule : (m : ℕ) (cs : List Lexeme) → IsComma cs → CommaRule m cs tt m

pub exact_comma : Exact CommaRule (is_the_sign (codes ",")) optional_comma
exact_comma =
    exact_as (IsGivenIf (is_the_sign (codes ",")) (IsPure tt) (IsPure tt)) CommaRule
    (exact_given_if (is_the_sign (codes ",")) (pure tt) (pure tt) (exact_pure _ tt) (exact_pure _ tt) none) there back where
      none : (m : ℕ) (ts : List Lexeme) (a : Unit {0}) (n : ℕ) (rest : List Lexeme) → IsPure {A = Unit {0}} tt m ts a n → front_is (is_the_sign (codes ",")) rest ≡ false
          → front_is (is_the_sign (codes ",")) (ts ++ rest) ≡ false
      none m ts a n rest (is_pure m1) h = h

      there : (m : ℕ) (ts : List Lexeme) (a : Unit {0}) (n : ℕ) → IsGivenIf (is_the_sign (codes ",")) (IsPure tt) (IsPure tt) m ts a n → CommaRule m ts a n
      there m all a n (with_token m1 n1 t ts a1 e (is_pure m2)) =
          comma_rule m2 (t ∷ []) (subst (λ (t : Lexeme). IsComma (t ∷ [])) (sym (sign_is (codes ",") t e)) (comma t.line))
      there m all a n (without_token m1 n1 ts a1 (is_pure m2)) = comma_rule m2 [] no_comma

      back : (m : ℕ) (ts : List Lexeme) (a : Unit {0}) (n : ℕ) → CommaRule m ts a n → IsGivenIf (is_the_sign (codes ",")) (IsPure tt) (IsPure tt) m ts a n
      back m all a n (comma_rule m1 cs no_comma) = without_token m1 m1 [] tt (is_pure m1)
      back m all a n (comma_rule m1 cs (comma p)) = with_token m1 m1 (sign p (codes ",")) [] tt refl (is_pure m1)

-- ---- { [','] item }

pub data Listed {A : Type 0} (P : Rule A) : ℕ → List Lexeme → List A → ℕ → Type 0 where
  no_more : (m : ℕ) → Listed P m [] [] m
  one_more : (m k n : ℕ) (cs ts us : List Lexeme) (a : A) (bs : List A) → IsComma cs → P m ts a k → Listed P k us bs n → Listed P m (cs ++ (ts ++ us)) (a ∷ bs) n

pub data ListedFrom {A : Type 0} (P : Rule A) (found : List A) : ℕ → List Lexeme → List A → ℕ → Type 0 where
  listed_so : (m n : ℕ) (ts : List Lexeme) (bs : List A) → Listed P m ts bs n → ListedFrom P found m ts (found ++ bs) n

pub exact_listed : {A : Type 0} {P : Rule A} (begins : Lexeme → Bool) (item : Reader A) → Exact P nothing item
    → ((m : ℕ) (ts : List Lexeme) (a : A) (n : ℕ) → P m ts a n → Starts begins ts) → ((t : Lexeme) → begins t ≡ true → is_the_sign (codes ",") t ≡ false)
    → (k : ℕ) (found : List A) → Exact (ListedFrom P found) (goes_on_with begins) (listed_from begins item k found)
unfolding listed_from
exact_listed {A} {P} begins item x starts apart zero found = exact_tired (ListedFrom P found) (goes_on_with begins) (λ m. record { tokens = []; value = found ++ []; next = m; holds = listed_so m m [] [] (no_more m) })
exact_listed {A} {P} begins item x starts apart (suc k) found =
    exact_as (Either (Seq CommaRule (λ _. Seq P (λ a. ListedFrom P (found ++ a ∷ [])))) (IsPure found)) (ListedFrom P found)
    (exact_peek (goes_on_with begins) (optional_comma >>= (λ _. item >>= (λ a. listed_from begins item k (found ++ a ∷ [])))) (pure found)
    (exact_bind optional_comma (λ _. item >>= (λ a. listed_from begins item k (found ++ a ∷ []))) exact_comma
    (λ _. exact_bind item (λ a. listed_from begins item k (found ++ a ∷ [])) x
    (λ a. exact_listed begins item x starts apart k (found ++ a ∷ [])) (λ a j us b n rest s h. none_of_nothing (us ++ rest)))
    (after_comma begins starts apart found))
    (exact_pure (goes_on_with begins) found) (passes_it begins starts found) (others begins found)) (there found) (back found) where
      after_comma : {A : Type 0} {P : Rule A} (begins : Lexeme → Bool) → ((m : ℕ) (ts : List Lexeme) (a : A) (n : ℕ) → P m ts a n → Starts begins ts)
          → ((t : Lexeme) → begins t ≡ true → is_the_sign (codes ",") t ≡ false) → (found : List A)
          → (a : Unit {0}) (k : ℕ) (us : List Lexeme) (b : List A) (n : ℕ) (rest : List Lexeme) → Seq P (λ a. ListedFrom P (found ++ a ∷ [])) k us b n
          → front_is (goes_on_with begins) rest ≡ false → front_is (is_the_sign (codes ",")) (us ++ rest) ≡ false
      after_comma begins starts apart found c m all b n rest (seq m1 k n1 ts us a b1 p q) h =
          ap (λ w. front_is (is_the_sign (codes ",")) w) (append_assoc ts us rest) ∙ starts_other begins (is_the_sign (codes ",")) ts (us ++ rest) (starts m1 ts a k p) apart

      either_way : (b c : Bool) → c ≡ true → (b || c) ≡ true
      either_way true c h = refl
      either_way false c h = h

      passes_it : {A : Type 0} {P : Rule A} (begins : Lexeme → Bool) → ((m : ℕ) (ts : List Lexeme) (a : A) (n : ℕ) → P m ts a n → Starts begins ts) → (found : List A)
          → (m : ℕ) (ts : List Lexeme) (b : List A) (n : ℕ) (rest : List Lexeme) → Seq CommaRule (λ _. Seq P (λ a. ListedFrom P (found ++ a ∷ []))) m ts b n
          → front_is (goes_on_with begins) rest ≡ false → front_is (goes_on_with begins) (ts ++ rest) ≡ true
      passes_it begins starts found m all b n rest (seq m1 k n1 ts us c b1 (comma_rule m2 cs no_comma) (seq m3 k2 n2 ts2 us2 a b2 p q)) h =
          let s = starts m3 ts2 a k2 p in
          ap (λ w. front_is (goes_on_with begins) ((w ++ us2) ++ rest)) s.text ∙ ap (λ x. x || is_the_sign (codes ",") s.token) s.passes
      passes_it begins starts found m all b n rest (seq m1 k n1 ts us c b1 (comma_rule m2 cs (comma p)) q) h = either_way (begins (sign p (codes ","))) true refl

      others : {A : Type 0} (begins : Lexeme → Bool) (found : List A) (m : ℕ) (ts : List Lexeme) (b : List A) (n : ℕ) (rest : List Lexeme) → IsPure found m ts b n
          → front_is (goes_on_with begins) rest ≡ false → front_is (goes_on_with begins) (ts ++ rest) ≡ false
      others begins found m ts b n rest (is_pure m1) h = h

      there : {A : Type 0} {P : Rule A} (found : List A) (m : ℕ) (ts : List Lexeme) (b : List A) (n : ℕ) → Either (Seq CommaRule (λ _. Seq P (λ a. ListedFrom P (found ++ a ∷ [])))) (IsPure found) m ts b n
          → ListedFrom P found m ts b n
      there {A} {P} found m all b n (one m0 n0 ts0 b0 (seq m1 k n1 ts us c b1 (comma_rule m2 cs d) (seq m3 k2 n2 ts2 us2 a b2 p (listed_so m4 n4 ts4 bs q)))) =
          subst (λ (w : List A). ListedFrom P found m2 (cs ++ (ts2 ++ ts4)) w n4) (sym (append_assoc found (a ∷ []) bs))
          (listed_so m2 n4 (cs ++ (ts2 ++ ts4)) (a ∷ bs) (one_more m3 m4 n4 cs ts2 ts4 a bs d p q))
      there {A} {P} found m all b n (other m0 n0 ts0 b0 (is_pure m1)) = subst (λ (w : List A). ListedFrom P found m1 [] w m1) (append-nil found) (listed_so m1 m1 [] [] (no_more m1))

      back : {A : Type 0} {P : Rule A} (found : List A) (m : ℕ) (ts : List Lexeme) (b : List A) (n : ℕ) → ListedFrom P found m ts b n
          → Either (Seq CommaRule (λ _. Seq P (λ a. ListedFrom P (found ++ a ∷ [])))) (IsPure found) m ts b n
      back {A} {P} found m all b n (listed_so m1 n1 ts bs (no_more m2)) =
          subst (λ (w : List A). Either (Seq CommaRule (λ _. Seq P (λ a. ListedFrom P (found ++ a ∷ [])))) (IsPure found) m2 [] w m2) (sym (append-nil found)) (other m2 m2 [] found (is_pure m2))
      back {A} {P} found m all b n (listed_so m1 n1 ts bs (one_more m2 k n2 cs ts2 us a as2 d p q)) =
          subst (λ (w : List A). Either (Seq CommaRule (λ _. Seq P (λ a. ListedFrom P (found ++ a ∷ [])))) (IsPure found) m2 (cs ++ (ts2 ++ us)) w n2) (append_assoc found (a ∷ []) as2)
          (one m2 n2 (cs ++ (ts2 ++ us)) ((found ++ a ∷ []) ++ as2) (seq m2 m2 n2 cs (ts2 ++ us) tt ((found ++ a ∷ []) ++ as2) (comma_rule m2 cs d)
          (seq m2 k n2 ts2 us a ((found ++ a ∷ []) ++ as2) p (listed_so k n2 us as2 q))))
