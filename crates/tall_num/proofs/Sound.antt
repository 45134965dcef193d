-- What the reading gives is derived by the grammar.
use Rattle.std.proofs.Common.{◌≡◌, ◌∙◌, ℕ, suc, refl, sym, ap, subst, arith, Bool, true, false, cond, not, ◌||◌, List, [], ◌∷◌, ◌++◌, ◌+◌, ◌-◌, take, drop, reverse, length, Option, Some, None, length-drop, one-add, inl, inr}
use Rattle.std.specs.Prelude.{ℤ, pos, ◌-ℤ◌, ◌==◌, option_map}
use Rattle.std.specs.List.{list_all, prefix_len, suffix_len}
use Rattle.std.specs.Char.{is_ascii_digit}
use Rattle.std.proofs.lemmas.Bool.{and_parts, and_from, true≢false, ne_eqb, eqb-true, cases_Bool, cases_eq}
use Rattle.std.proofs.lemmas.List.{append-nil, append_assoc, take-append-drop, reverse-append, reverse-reverse, length-reverse}
use Rattle.std.proofs.Math.Seq.{drop-append_seam}
use Rattle.tall_int.specs.Quotients.{with_sign}
use Rattle.tall_num.specs.Spelling.{Spelling, nan, infinity, decimal, first, is_blank, is_letter, is_empty, is_digits, is_nan, is_inf, digits_value, leading_digits, after_digits, fraction_digits, after_fraction, has_fraction, has_minus, after_sign, signed_digits, exponent_of, decimal_of, text_spells, before_blanks, after_blanks, spells}
use Rattle.tall_num.specs.Grammar.{Sign, absent, plus, minus, Mantissa, whole, both, fraction, Exponent, none, some, Text, number, infinite, no_number, Spells}
use Rattle.tall_num.proofs.Digits.{list_all_prefix}
use Rattle.tall_num.proofs.Derived.{chosen, passed, all_reverse}

-- ---- choices

none_or : {X P : Type 0} (x : X) → None ≡ Some x → P
none_or x h = cc

some_is : {X : Type 0} (x y : X) → Some x ≡ Some y → x ≡ y
some_is x y h = cc

error_free : {X : Type 0} (b : Bool) (x : Option X) (y : X) → cond b None x ≡ Some y → (b ≡ false) × (x ≡ Some y)
error_free true x y h = none_or y h
error_free false x y h = (refl, h)

kept : {X : Type 0} (b : Bool) (x : Option X) (y : X) → cond b x None ≡ Some y → (b ≡ true) × (x ≡ Some y)
kept true x y h = (refl, h)
kept false x y h = none_or y h

mapped : {X Y : Type 0} (f : X → Y) (o : Option X) (y : Y) → option_map f o ≡ Some y → (x : X) × (o ≡ Some x) × (f x ≡ y)
mapped f None y h = none_or y h
mapped f (Some x) y h = (x, refl, some_is (f x) y h)

-- ---- signs

record Signed (text : List ℕ) : Type 0 where
  pub sign : List ℕ
  pub is : Sign sign (has_minus text)
  pub parts : text ≡ sign ++ after_sign text

minus_first : (xs : List ℕ) → Signed (45 ∷ xs)
minus_first xs = record { sign = 45 ∷ []; is = minus; parts = refl }

plus_first : (xs : List ℕ) → Signed (43 ∷ xs)
plus_first xs = record { sign = 43 ∷ []; is = plus; parts = refl }

no_sign_first : (text : List ℕ) → (first text == 45) ≡ false → (first text == 43) ≡ false → Signed text
no_sign_first text h k = record {
  sign = [];
  is = subst (λ b. Sign [] b) (sym h) absent;
  parts = sym (passed _ (drop 1 text) text (ap (λ b. b || (first text == 43)) h ∙ k));
}

signed : (text : List ℕ) → Signed text
signed [] = no_sign_first [] refl refl
signed (x ∷ xs) = elim (cases_eq x 45) [
  | inl e ↦ subst (λ b. Signed (b ∷ xs)) (sym e) (minus_first xs)
  | inr other ↦ elim (cases_eq x 43) [
    | inl e ↦ subst (λ b. Signed (b ∷ xs)) (sym e) (plus_first xs)
    | inr none_of ↦ no_sign_first (x ∷ xs) (ne_eqb x 45 other) (ne_eqb x 43 none_of)
  ]
]

-- ---- exponents

exponent_letter : (b : ℕ) (rest : List ℕ) (e : ℤ) → is_letter 101 b ≡ true → signed_digits rest ≡ Some e → Exponent (b ∷ rest) e
exponent_letter b rest e letter h =
    let parts = signed rest in
    let found = kept (is_digits (after_sign rest)) (Some (with_sign (has_minus rest) (digits_value (after_sign rest)))) e h in
    let value = some_is _ e found.1 in
    subst (λ x. Exponent (b ∷ rest) x) value
    (subst (λ t. Exponent (b ∷ t) (with_sign (has_minus rest) (digits_value (after_sign rest)))) (sym parts.parts)
    (some b parts.sign (has_minus rest) (after_sign rest) letter parts.is found.0))

cons_full : (x : ℕ) (xs : List ℕ) → is_empty (x ∷ xs) ≡ false
cons_full x xs = ne_eqb (suc (length xs)) 0 (λ e. absurd (omega (arith, e)))

exponent_derived : (text : List ℕ) (e : ℤ) → exponent_of text ≡ Some e → Exponent text e
exponent_derived [] e h = subst (λ x. Exponent [] x) (some_is (pos 0) e h) none
exponent_derived (b ∷ rest) e h =
    let after = sym (passed (is_empty (b ∷ rest)) (Some (pos 0)) (cond (is_letter 101 b) (signed_digits rest) None) (cons_full b rest)) ∙ h in
    let found = kept (is_letter 101 b) (signed_digits rest) e after in
    exponent_letter b rest e found.0 found.1

-- ---- decimals

-- digits that stand first are digits, if there is one
leading_is : (text : List ℕ) → is_empty (leading_digits text) ≡ false → is_digits (leading_digits text) ≡ true
leading_is text h = and_from _ _ (ap not h) (list_all_prefix is_ascii_digit text)

leading_some : (text : List ℕ) → is_ascii_digit (first text) ≡ true → is_empty (leading_digits text) ≡ false
leading_some [] h = absurd (true≢false (sym h))
leading_some (x ∷ xs) h = ap (λ n. is_empty (take n (x ∷ xs))) (chosen (is_ascii_digit x) (1 + prefix_len is_ascii_digit xs) 0 h ∙ one-add _) ∙ cons_full x _

leading_join : (text : List ℕ) → text ≡ leading_digits text ++ after_digits text
leading_join text = sym (take-append-drop (prefix_len is_ascii_digit text) text)

-- a mantissa and what follows it
record Cut (text digits : List ℕ) (places : ℕ) (tail : List ℕ) : Type 0 where
  pub mantissa : List ℕ
  pub is : Mantissa mantissa digits places
  pub parts : text ≡ mantissa ++ tail

-- digits, a point, and digits
with_point : (ds fs tail : List ℕ) (b : Bool) → is_empty ds ≡ b → (is_empty ds ≡ false → is_digits ds ≡ true) → is_digits fs ≡ true
    → Cut (ds ++ 46 ∷ (fs ++ tail)) (ds ++ fs) (length fs) tail
with_point [] fs tail b e h k = record { mantissa = 46 ∷ fs; is = fraction fs k; parts = refl }
with_point (d ∷ ds) fs tail b e h k = record {
  mantissa = (d ∷ ds) ++ 46 ∷ fs;
  is = both (d ∷ ds) fs (h (cons_full d ds)) k;
  parts = sym (append_assoc (d ∷ ds) (46 ∷ fs) tail);
}

point_first : (rest : List ℕ) → has_fraction rest ≡ true → (rest ≡ 46 ∷ drop 1 rest) × (is_ascii_digit (first (drop 1 rest)) ≡ true)
point_first [] h = absurd (true≢false (sym h))
point_first (x ∷ xs) h =
    let parts = and_parts (x == 46) (is_ascii_digit (first xs)) h in
    (ap (λ b. b ∷ xs) (eqb-true x 46 parts.0), parts.1)

cut_fraction : (text : List ℕ) → has_fraction (after_digits text) ≡ true
    → Cut text (leading_digits text ++ fraction_digits (after_digits text)) (length (fraction_digits (after_digits text))) (after_fraction (after_digits text))
cut_fraction text h =
    let rest = after_digits text in
    let point = point_first rest h in
    let fs : fraction_digits rest ≡ leading_digits (drop 1 rest) = chosen (has_fraction rest) _ _ h in
    let tail : after_fraction rest ≡ after_digits (drop 1 rest) = chosen (has_fraction rest) _ _ h in
    let full = leading_is (drop 1 rest) (leading_some (drop 1 rest) point.1) in
    let cut = with_point (leading_digits text) (leading_digits (drop 1 rest)) (after_digits (drop 1 rest)) (is_empty (leading_digits text)) refl
    (leading_is text) full in
    let join : leading_digits text ++ 46 ∷ (leading_digits (drop 1 rest) ++ after_digits (drop 1 rest)) ≡ text =
    ap (λ t. leading_digits text ++ 46 ∷ t) (sym (leading_join (drop 1 rest)))
    ∙ ap (λ t. leading_digits text ++ t) (sym point.0) ∙ sym (leading_join text) in
    subst (λ f. Cut text (leading_digits text ++ f) (length f) (after_fraction rest)) (sym fs)
    (subst (λ t. Cut text (leading_digits text ++ leading_digits (drop 1 rest)) (length (leading_digits (drop 1 rest))) t) (sym tail)
    (subst (λ t. Cut t (leading_digits text ++ leading_digits (drop 1 rest)) (length (leading_digits (drop 1 rest))) (after_digits (drop 1 rest))) join cut))

cut_whole : (text : List ℕ) → has_fraction (after_digits text) ≡ false → is_empty (leading_digits text ++ fraction_digits (after_digits text)) ≡ false
    → Cut text (leading_digits text ++ fraction_digits (after_digits text)) (length (fraction_digits (after_digits text))) (after_fraction (after_digits text))
cut_whole text h full =
    let rest = after_digits text in
    let fs : fraction_digits rest ≡ [] = passed (has_fraction rest) _ _ h in
    let tail : after_fraction rest ≡ rest = passed (has_fraction rest) _ _ h in
    let ds : leading_digits text ++ fraction_digits rest ≡ leading_digits text = ap (λ f. leading_digits text ++ f) fs ∙ append-nil (leading_digits text) in
    let some_ds : is_empty (leading_digits text) ≡ false = sym (ap is_empty ds) ∙ full in
    let plain : Cut text (leading_digits text) 0 rest = record {
      mantissa = leading_digits text;
      is = whole (leading_digits text) (leading_is text some_ds);
      parts = leading_join text;
    } in
    subst (λ t. Cut text t (length (fraction_digits rest)) (after_fraction rest)) (sym ds)
    (subst (λ f. Cut text (leading_digits text) (length f) (after_fraction rest)) (sym fs)
    (subst (λ t. Cut text (leading_digits text) 0 t) (sym tail) plain))

cut : (text : List ℕ) → is_empty (leading_digits text ++ fraction_digits (after_digits text)) ≡ false
    → Cut text (leading_digits text ++ fraction_digits (after_digits text)) (length (fraction_digits (after_digits text))) (after_fraction (after_digits text))
cut text full = elim (cases_Bool (has_fraction (after_digits text))) [
  | inl there ↦ cut_fraction text there
  | inr absent_there ↦ cut_whole text absent_there full
]

-- ---- texts

decimal_derived : (text : List ℕ) (s : Spelling) → decimal_of (has_minus text) (after_sign text) ≡ Some s → Text text s
decimal_derived text s h =
    let body = after_sign text in
    let rest = after_digits body in
    let digits = leading_digits body ++ fraction_digits rest in
    let full = error_free (is_empty digits) _ s h in
    let found = mapped (λ e. decimal (has_minus text) (digits_value digits) (e -ℤ pos (length (fraction_digits rest)))) (exponent_of (after_fraction rest)) s full.1 in
    let parts = signed text in
    let mantissa = cut body full.0 in
    let join : parts.sign ++ (mantissa.mantissa ++ after_fraction rest) ≡ text =
    ap (λ t. parts.sign ++ t) (sym mantissa.parts) ∙ sym parts.parts in
    subst (λ t. Text t s) join
    (subst (λ x. Text (parts.sign ++ (mantissa.mantissa ++ after_fraction rest)) x) found.2
    (number parts.sign (has_minus text) mantissa.mantissa digits (length (fraction_digits rest)) (after_fraction rest) found.0
    parts.is mantissa.is (exponent_derived (after_fraction rest) found.0 found.1)))

infinity_derived : (text : List ℕ) (s : Spelling) → is_inf (after_sign text) ≡ true → infinity (has_minus text) ≡ s → Text text s
infinity_derived text s h e =
    let parts = signed text in
    subst (λ x. Text text x) e
    (subst (λ t. Text t (infinity (has_minus text))) (sym parts.parts)
    (infinite parts.sign (has_minus text) (after_sign text) parts.is h))

text_derived_by : (text : List ℕ) (s : Spelling) (a b : Bool) → is_nan text ≡ a → is_inf (after_sign text) ≡ b
    → cond a (Some nan) (cond b (Some (infinity (has_minus text))) (decimal_of (has_minus text) (after_sign text))) ≡ Some s → Text text s
text_derived_by text s true b h k e = subst (λ x. Text text x) (some_is nan s e) (no_number text h)
text_derived_by text s false true h k e = infinity_derived text s k (some_is (infinity (has_minus text)) s e)
text_derived_by text s false false h k e = decimal_derived text s e

text_derived : (text : List ℕ) (s : Spelling) → text_spells text ≡ Some s → Text text s
text_derived text s h = text_derived_by text s (is_nan text) (is_inf (after_sign text)) refl refl h

-- ---- fields

-- the elements that pass from the back on
all_suffix : (p : ℕ → Bool) (xs : List ℕ) → list_all p (drop (length xs - suffix_len p xs) xs) ≡ true
all_suffix p xs =
    let r = reverse xs in
    let k = prefix_len p r in
    let join : xs ≡ reverse (drop k r) ++ reverse (take k r) =
    sym (reverse-reverse xs) ∙ ap reverse (sym (take-append-drop k r)) ∙ reverse-append (take k r) (drop k r) in
    let front : length xs - k ≡ length (reverse (drop k r)) =
    ap (λ n. n - k) (sym (length-reverse xs)) ∙ sym (length-drop k r) ∙ sym (length-reverse (drop k r)) in
    ap (list_all p)
    (ap (λ n. drop n xs) front ∙ ap (drop (length (reverse (drop k r)))) join ∙ drop-append_seam (reverse (drop k r)) (reverse (take k r)))
    ∙ all_reverse p (take k r) (list_all_prefix p r)

-- a field that is read is one of the grammar
pub read_is_derived : (bytes : List ℕ) (s : Spelling) → spells bytes ≡ Some s → Spells bytes s
read_is_derived bytes s h =
    let rest = after_blanks bytes in
    record {
      before = take (prefix_len is_blank bytes) bytes;
      text = before_blanks rest;
      after = drop (length rest - suffix_len is_blank rest) rest;
      blanks_before = list_all_prefix is_blank bytes;
      blanks_after = all_suffix is_blank rest;
      spelled = text_derived (before_blanks rest) s h;
      bytes_are = sym (take-append-drop (prefix_len is_blank bytes) bytes)
          ∙ ap (λ t. take (prefix_len is_blank bytes) bytes ++ t) (sym (take-append-drop (length rest - suffix_len is_blank rest) rest));
    }
