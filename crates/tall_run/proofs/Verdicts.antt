-- What the bytes of a script's file are, as far as they were read.
use Rattle.std.proofs.Common.{ℕ, ◌≡◌, ◌∙◌, List, take, refl, ap, subst, sym, arith}
use Rattle.std.specs.Prelude.{Option, Some, None, IfSome, IsSomeAnd}
use Rattle.std.proofs.lemmas.List.{length-take, take_all}
use Rattle.std.proofs.lemmas.Option.{none-some}
use Rattle.tall_grammar.specs.Refusals as parse
use Rattle.tall_outside.specs.Shelf.{Files, file_in}
use Rattle.tall_script.specs.AllowedOpenings.{IsAllowed, allowed_of}
use Rattle.tall_script.specs.AllowedOpenings as allowed
use Rattle.tall_script.specs.Answers.{Answer, Answers, no_script, of_script, answer_of}
use Rattle.tall_steps.specs.Ends.{End, refused}
use Rattle.tall_run.specs.Scripts.{IsLeftOnly, IsOnly, IsRefusal, IsRefusalBy, IsRefusalOf, IsVerdict}
use Rattle.tall_steps.specs.Steps.{HasEnd}
use Rattle.tall_steps.proofs.Progressing.{has_end}
use Rattle.tall_steps.specs.declared.endings.Ending.{Ending}

-- what bytes are as a script, so many of them are as are read
front_parses : (bytes : List ℕ) (what : parse.Verdict) → parse.Parses bytes what → parse.Parses (take 1048577 bytes) what
front_parses bytes _ (parse.is_too_long long) =
    parse.is_too_long (let known = length-take 1048577 bytes in omega (arith, known, long))
front_parses bytes what (parse.has_bad_token fits bad) =
    subst (λ l. parse.Parses l what) (sym (take_all 1048577 bytes (omega (arith, fits)))) (parse.has_bad_token fits bad)
front_parses bytes what (parse.has_tokens fits tokens reads) =
    subst (λ l. parse.Parses l what) (sym (take_all 1048577 bytes (omega (arith, fits)))) (parse.has_tokens fits tokens reads)

-- what the text is alone, the file is alone
pub file_only : (left : Option (List ℕ)) (text : List ℕ) (v : parse.Verdict) → IfSome left (λ bytes. text ≡ take 1048577 bytes)
    → ((w : parse.Verdict) → parse.Parses text w → w ≡ v) → IsLeftOnly left v
file_only None text v read only = tt
file_only (Some bytes) text v read only = λ w parses. only w (subst (λ l. parse.Parses l w) (sym read) (front_parses bytes w parses))

-- ---- what the parser says

pub only_seen : (text : List ℕ) (found : Option parse.Verdict) (v : parse.Verdict) → found ≡ Some v → IfSome found (parse.Parses text)
    → ((w : parse.Verdict) → parse.Parses text w → IfSome found (λ f. f ≡ w)) → IsOnly text v
only_seen text found v e sound complete = record {
  is = subst (λ f. IfSome f (parse.Parses text)) e sound;
  only = λ w parses. sym (subst (λ f. IfSome f (λ x. x ≡ w)) e (complete w parses));
}

of_refusal : (text : List ℕ) (v : parse.Verdict) → IsOnly text v → (e : End) → IsRefusalOf v e → IsRefusal text e
of_refusal text v only (refused what) of = (v, only, of)
of_refusal text v only e of = absurd of

pub refusal_of : (text : List ℕ) (found : Option parse.Verdict) → IfSome found (parse.Parses text)
    → ((w : parse.Verdict) → parse.Parses text w → IfSome found (λ f. f ≡ w)) → (ending : Ending) → HasEnd (IsRefusalBy found) ending → HasEnd (IsRefusal text) ending
refusal_of text found sound complete ending h =
    has_end ending (λ e is. of_refusal text is.0 (only_seen text found is.0 is.1 sound complete) e is.2) h

-- ---- what the file is

none_is_some : {A B : Type 0} {a : A} → None ≡ Some a → B
none_is_some {A} {B} {a} h = absurd (none-some a h)

some_injective : {A : Type 0} (a b : A) → Some a ≡ Some b → a ≡ b
some_injective a b e = ap (λ o. elim o [ Some x ↦ x | None ↦ a ]) e

module _ (files : Files) (name held : List ℕ) (v : parse.Verdict) (there : file_in files name ≡ Some held)
    (only : (w : parse.Verdict) → parse.Parses held w → w ≡ v) where
  one : (other : List ℕ) (w : parse.Verdict) → file_in files name ≡ Some other → parse.Parses other w → w ≡ v
  one other w found parses = only w (subst (λ bs. parse.Parses bs w) (some_injective other held (sym found ∙ there)) parses)

  answer_is : (a : Answer) → Answers files name a → a ≡ answer_of files v
  answer_is _ (no_script absent) = none_is_some (sym absent ∙ there)
  answer_is _ (of_script {bytes} {a} found parses) = ap (answer_of files) (one bytes a found parses)

  allowed_is : (file : List ℕ) (n : ℕ) → IsAllowed files name file n → n ≡ allowed_of files name v file
  allowed_is file _ (allowed.no_script absent) = none_is_some (sym absent ∙ there)
  allowed_is file _ (allowed.of_script {bytes} {a} found parses) = ap (λ x. allowed_of files name x file) (one bytes a found parses)

  pub verdict_is : IsVerdict files name v
  verdict_is = record { answers = answer_is; allows = allowed_is }

-- of an opened file
pub opened_verdict : (held : Option Files) (name : List ℕ) (left : Option (List ℕ)) (v : parse.Verdict)
    → IfSome held (λ files. IsSomeAnd (file_in files name) (λ bytes. left ≡ Some bytes)) → IsLeftOnly left v
    → (files : Files) → held ≡ Some files → IsVerdict files name v
opened_verdict held name left v opened only files tells = by (file_in files name) refl (subst (λ h. IfSome h (λ fs. IsSomeAnd (file_in fs name) (λ bytes. left ≡ Some bytes))) tells opened)
  where
    by : (found : Option (List ℕ)) → file_in files name ≡ found → IsSomeAnd found (λ bytes. left ≡ Some bytes) → IsVerdict files name v
    by None e h = absurd h
    by (Some bytes) e h = verdict_is files name bytes v e (subst (λ l. IsLeftOnly l v) h only)
