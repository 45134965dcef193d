-- A script over files has exactly one answer, and one number of openings of each file.
use Rattle.std.proofs.Common.{◌≡◌, ℕ, List, refl, ap, sym, ◌∙◌, subst}
use Rattle.std.proofs.lemmas.Option.{none-some}
use Rattle.std.specs.Prelude.{Option, None, Some}
use Rattle.tall_outside.specs.Shelf.{Files, file_in}
use Rattle.tall_grammar.specs.Refusals as parse
use Rattle.tall_grammar.proofs.Enough.{some_answer, answer_alone}
use Rattle.tall_script.specs.AllowedOpenings.{script_openings, allowed_of, IsAllowed}
use Rattle.tall_script.specs.AllowedOpenings as allowed
use Rattle.tall_script.specs.AnswerLaws.{HasOneAnswer, HasOneAllowance}
use Rattle.tall_script.specs.Answers.{Answer, Answers, no_script, of_script, refused, answer_of}
use Rattle.tall_local.specs.FaultLines.{no_script_text}

none_is_some : {A B : Type 0} {a : A} → None ≡ Some a → B
none_is_some {A} {B} {a} h = absurd (none-some a h)

some_injective : {A : Type 0} (a b : A) → Some a ≡ Some b → a ≡ b
some_injective a b e = ap (λ o. elim o [ Some x ↦ x | None ↦ a ]) e

module _ (files : Files) (name : List ℕ) where
  no_other : file_in files name ≡ None → (other : Answer) → Answers files name other → other ≡ refused (no_script_text name)
  no_other absent _ (no_script h) = refl
  no_other absent _ (of_script h p) = none_is_some (sym absent ∙ h)

  only_this : (held : List ℕ) (v : parse.Verdict) → file_in files name ≡ Some held → parse.Parses held v → (other : Answer) → Answers files name other → other ≡ answer_of files v
  only_this held v there p _ (no_script h) = none_is_some (sym h ∙ there)
  only_this held v there p _ (of_script {bytes} {a} h q) =
      ap (answer_of files) (answer_alone held a v (subst (λ bs. parse.Parses bs a) (some_injective bytes held (sym h ∙ there)) q) p)

  answer_by : (held : Option (List ℕ)) → file_in files name ≡ held → HasOneAnswer files name
  answer_by None absent = record { one = refused (no_script_text name); is = no_script absent; alone = no_other absent }
  answer_by (Some bytes) there =
      let v = some_answer bytes in record { one = answer_of files v.0; is = of_script there v.1; alone = only_this bytes v.0 there v.1 }

  pub one_answer : HasOneAnswer files name
  one_answer = answer_by (file_in files name) refl

  no_more : (file : List ℕ) → file_in files name ≡ None → (other : ℕ) → IsAllowed files name file other → other ≡ script_openings name file
  no_more file absent _ (allowed.no_script h) = refl
  no_more file absent _ (allowed.of_script h p) = none_is_some (sym absent ∙ h)

  only_so_often : (file held : List ℕ) (v : parse.Verdict) → file_in files name ≡ Some held → parse.Parses held v → (other : ℕ) → IsAllowed files name file other
      → other ≡ allowed_of files name v file
  only_so_often file held v there p _ (allowed.no_script h) = none_is_some (sym h ∙ there)
  only_so_often file held v there p _ (allowed.of_script {bytes} {a} h q) =
      ap (λ x. allowed_of files name x file) (answer_alone held a v (subst (λ bs. parse.Parses bs a) (some_injective bytes held (sym h ∙ there)) q) p)

  allowance_by : (file : List ℕ) (held : Option (List ℕ)) → file_in files name ≡ held → HasOneAllowance files name file
  allowance_by file None absent = record { one = script_openings name file; is = allowed.no_script absent; alone = no_more file absent }
  allowance_by file (Some bytes) there =
      let v = some_answer bytes in record { one = allowed_of files name v.0 file; is = allowed.of_script there v.1; alone = only_so_often file bytes v.0 there v.1 }

  pub one_allowance : (file : List ℕ) → HasOneAllowance files name file
  one_allowance file = allowance_by file (file_in files name) refl
