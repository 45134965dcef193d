-- What a text has of a file, read by read.
use Rattle.std.proofs.Common.{ℕ, ◌≤◌, ◌≡◌, ◌∙◌, List, [], ◌++◌, length, take, subst, sym, ap, append-nil}
use Rattle.std.specs.Prelude.{Option, Some, None, IfSome}
use Rattle.std.specs.Io.KnownBytes.{Consumes, IsAtEnd}
use Rattle.std.proofs.lemmas.List.{take_all}
use Rattle.std.proofs.Math.Seq.{take-append_seam}

-- a read found the end of the file
pub read_to_end : (limit : ℕ) (left left' left'' : Option (List ℕ)) (text piece : List ℕ) (count : ℕ) → Consumes left left' text
    → Consumes left' left'' (take count piece) → count ≡ 0 → IsAtEnd left'' → length text ≤ limit → IfSome left (λ bytes. text ≡ take limit bytes)
read_to_end limit None left' left'' text piece count read last none end fits = tt
read_to_end limit (Some bytes) None left'' text piece count read last none end fits = absurd read
read_to_end limit (Some bytes) (Some rest) None text piece count read last none end fits = absurd last
read_to_end limit (Some bytes) (Some rest) (Some more) text piece count read last none end fits =
    let over : rest ≡ [] = last ∙ ap (λ l. take count piece ++ l) end ∙ append-nil (take count piece) ∙ ap (λ n. take n piece) none in
    let whole : bytes ≡ text = read ∙ ap (λ l. text ++ l) over ∙ append-nil text in
    sym (ap (take limit) whole ∙ take_all limit text fits)

-- the text is as long as it may be
pub read_to_limit : (limit : ℕ) (left left' : Option (List ℕ)) (text : List ℕ) → Consumes left left' text → length text ≡ limit
    → IfSome left (λ bytes. text ≡ take limit bytes)
read_to_limit limit None left' text read full = tt
read_to_limit limit (Some bytes) None text read full = absurd read
read_to_limit limit (Some bytes) (Some rest) text read full =
    sym (ap (take limit) read ∙ subst (λ n. take n (text ++ rest) ≡ text) full (take-append_seam text rest))
