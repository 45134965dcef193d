-- A UTF-8 text beside an ASCII byte is UTF-8, and so is a text without some of its ASCII bytes.
use Rattle.std.proofs.Common.{◌≡◌, ◌<◌, ◌+◌, ℕ, Bool, true, false, List, [], ◌∷◌, ◌++◌, length, get_or, drop, refl, sym, ap, ◌∙◌, subst, arith, append_assoc, length-append}
use Rattle.std.specs.Prelude.{◌==◌, ◌&&◌, not, if◌then◌else◌}
use Rattle.std.specs.Str.{IsUtf8}
use Rattle.std.proofs.lemmas.Bool.{and_parts, eqb-true}
use Rattle.std.proofs.lemmas.Str.{IsUtf8-append, IsUtf8-drop, IsUtf8-take, IsCharBoundary-after_ascii, IsCharBoundary-before_ascii}
use Rattle.std.proofs.Math.Seq.{drop-append_seam, get_or-append_seam, take-append_seam}
use Rattle.tall_grammar.specs.Lexemes.{without_doubles}

at_seam : (xs ys : List ℕ) (b : ℕ) → b < 128 → get_or (xs ++ b ∷ ys) (length xs) 0 < 128
at_seam xs ys b small = subst (λ n. n < 128) (sym (get_or-append_seam xs b ys 0)) small

in_range : (xs ys : List ℕ) (b : ℕ) → length xs < length (xs ++ b ∷ ys)
in_range xs ys b = omega (arith, length-append xs (b ∷ ys))

pub before_ascii : (xs ys : List ℕ) (b : ℕ) → b < 128 → IsUtf8 (xs ++ b ∷ ys) → IsUtf8 xs
before_ascii xs ys b small u =
    subst IsUtf8 (take-append_seam xs (b ∷ ys))
    (IsUtf8-take (xs ++ b ∷ ys) (length xs) u (IsCharBoundary-before_ascii (xs ++ b ∷ ys) (length xs) (in_range xs ys b) (at_seam xs ys b small)))

behind : (xs ys : List ℕ) (b : ℕ) → drop (length xs + 1) (xs ++ b ∷ ys) ≡ ys
behind xs ys b =
    let n : length xs + 1 ≡ length (xs ++ b ∷ []) = omega (arith, length-append xs (b ∷ [])) in
    ap (λ k. drop k (xs ++ b ∷ ys)) n ∙ (ap (λ w. drop (length (xs ++ b ∷ [])) w) (sym (append_assoc xs (b ∷ []) ys)) ∙ drop-append_seam (xs ++ b ∷ []) ys)

pub behind_ascii : (xs ys : List ℕ) (b : ℕ) → b < 128 → IsUtf8 (xs ++ b ∷ ys) → IsUtf8 ys
behind_ascii xs ys b small u =
    subst IsUtf8 (behind xs ys b)
    (IsUtf8-drop (xs ++ b ∷ ys) (length xs + 1) u (IsCharBoundary-after_ascii (xs ++ b ∷ ys) (length xs) u (in_range xs ys b) (at_seam xs ys b small)))

-- without one ASCII byte
without_ascii : (xs ys : List ℕ) (b : ℕ) → b < 128 → IsUtf8 (xs ++ b ∷ ys) → IsUtf8 (xs ++ ys)
without_ascii xs ys b small u = IsUtf8-append xs ys (before_ascii xs ys b small u) (behind_ascii xs ys b small u)

left_out : (xs ys : List ℕ) (b quote : ℕ) → quote < 128 → b ≡ quote → IsUtf8 (xs ++ b ∷ ys) → IsUtf8 (xs ++ ys)
left_out xs ys b quote small e u = without_ascii xs ys b (subst (λ n. n < 128) (sym e) small) u

-- a byte that is left out, if it is the quote, or that stays
one_byte : (front rest after : List ℕ) (b quote : ℕ) (out : Bool) → quote < 128 → (out ≡ true → b ≡ quote) → IsUtf8 (front ++ b ∷ rest)
    → ((f : List ℕ) → IsUtf8 (f ++ rest) → IsUtf8 (f ++ after)) → IsUtf8 (front ++ ((if out then [] else b ∷ []) ++ after))
one_byte front rest after b quote true small e u more = more front (left_out front rest b quote small (e refl) u)
one_byte front rest after b quote false small e u more =
    subst IsUtf8 (append_assoc front (b ∷ []) after) (more (front ++ b ∷ []) (subst IsUtf8 (sym (append_assoc front (b ∷ []) rest)) u))

is_quote : (doubled : Bool) (b quote : ℕ) → (doubled && (b == quote)) ≡ true → b ≡ quote
is_quote doubled b quote h = eqb-true b quote ((and_parts doubled (b == quote) h).1)

-- with each quote inside once, behind a text
once_behind : (front bytes : List ℕ) (quote : ℕ) (doubled : Bool) → quote < 128 → IsUtf8 (front ++ bytes) → IsUtf8 (front ++ without_doubles quote doubled bytes)
once_behind front [] quote doubled small u = u
once_behind front (b ∷ rest) quote doubled small u =
    one_byte front rest (without_doubles quote ((b == quote) && not doubled) rest) b quote (doubled && (b == quote)) small (is_quote doubled b quote) u
    (λ f. once_behind f rest quote ((b == quote) && not doubled) small)

pub text_once : (bytes : List ℕ) (quote : ℕ) → quote < 128 → IsUtf8 bytes → IsUtf8 (without_doubles quote false bytes)
text_once bytes quote small u = once_behind [] bytes quote false small u
