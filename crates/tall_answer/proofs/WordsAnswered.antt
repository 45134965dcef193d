-- Words have exactly one answer over files.
use Rattle.std.proofs.Common.{◌≡◌, ℕ, List, refl, ap, sym, subst}
use Rattle.std.specs.Prelude.{Option, None, Some}
use Rattle.clap.specs.Words.{Text}
use Rattle.tall_outside.specs.Shelf.{Files}
use Rattle.tall_script.specs.AllowedOpenings.{IsAllowed}
use Rattle.tall_script.specs.AnswerLaws.{ExactlyOne}
use Rattle.tall_script.specs.Answers.{Answer, Answers}
use Rattle.tall_script.specs.Answers as script
use Rattle.tall_script.proofs.OneAnswer.{one_answer, one_allowance}
use Rattle.tall_words.specs.Commands.{Asked, command, run_demo, run_script}
use Rattle.tall_answer.specs.CommandAnswers.{usage, CommandAnswer, status_of, of_script, usage_answer, script_name, files_of, AnswersAsked, no_command, of_command, AnswersWords}
use Rattle.tall_answer.specs.CommandOpenings.{IsAllowedAsked, without_command, for_script, for_demo, IsAllowedByWords}

-- ---- answers

no_other : (files : Files) (other : CommandAnswer) → AnswersAsked files None other → other ≡ usage_answer
no_other files _ no_command = refl

only_this : (files : Files) (asked : Asked) (one : Answer) → ((a : Answer) → Answers (files_of files asked) (script_name asked) a → a ≡ one)
    → (other : CommandAnswer) → AnswersAsked files (Some asked) other → other ≡ of_script one
only_this files asked one alone _ (of_command {a} h) = ap of_script (alone a h)

asked_answer : (files : Files) (asked : Option Asked) → ExactlyOne (AnswersAsked files asked)
asked_answer files None = record { one = usage_answer; is = no_command; alone = no_other files }
asked_answer files (Some asked) =
    let x = one_answer (files_of files asked) (script_name asked) in record { one = of_script x.one; is = of_command x.is; alone = only_this files asked x.one x.alone }

pub words_answered : (files : Files) (words : List Text) → ExactlyOne (AnswersWords files words)
words_answered files words = asked_answer files (command words)

-- ---- openings

never : (files : Files) (file : List ℕ) (other : ℕ) → IsAllowedAsked files file None other → other ≡ 0
never files file _ without_command = refl

demo_never : (files : Files) (file : List ℕ) (rows workers other : ℕ) → IsAllowedAsked files file (Some (run_demo rows workers)) other → other ≡ 0
demo_never files file rows workers _ for_demo = refl

only_so_often : (files : Files) (file name : List ℕ) (workers one : ℕ) → ((n : ℕ) → IsAllowed files name file n → n ≡ one) → (other : ℕ)
    → IsAllowedAsked files file (Some (run_script name workers)) other → other ≡ one
only_so_often files file name workers one alone other (for_script h) = alone other h

asked_allowance : (files : Files) (file : List ℕ) (asked : Option Asked) → ExactlyOne (IsAllowedAsked files file asked)
asked_allowance files file None = record { one = 0; is = without_command; alone = never files file }
asked_allowance files file (Some (run_demo rows workers)) = record { one = 0; is = for_demo; alone = demo_never files file rows workers }
asked_allowance files file (Some (run_script name workers)) =
    let x = one_allowance files name file in record { one = x.one; is = for_script x.is; alone = only_so_often files file name workers x.one x.alone }

pub words_allowed : (files : Files) (words : List Text) (file : List ℕ) → ExactlyOne (IsAllowedByWords files words file)
words_allowed files words file = asked_allowance files file (command words)

-- ---- what changes nothing

-- over files that a command sees alike, under the same name
seen_alike : (files others : Files) (asked other : Asked) (a : CommandAnswer) → files_of files asked ≡ files_of others other → script_name asked ≡ script_name other
    → AnswersAsked files (Some asked) a → AnswersAsked others (Some other) a
seen_alike files others asked other _ same_files same_name (of_command {a} h) =
    of_command (subst (λ fs. Answers fs (script_name other) a) same_files (subst (λ name. Answers (files_of files asked) name a) same_name h))

pub as_asked : (files others : Files) (words more : List Text) (asked other : Asked) (a : CommandAnswer) → command words ≡ Some asked → command more ≡ Some other
    → files_of files asked ≡ files_of others other → script_name asked ≡ script_name other → AnswersWords files words a → AnswersWords others more a
as_asked files others words more asked other a e f same_files same_name h =
    subst (λ o. AnswersAsked others o a) (sym f) (seen_alike files others asked other a same_files same_name (subst (λ o. AnswersAsked files o a) e h))

allowed_alike : (files : Files) (file name : List ℕ) (workers more n : ℕ) → IsAllowedAsked files file (Some (run_script name workers)) n → IsAllowedAsked files file (Some (run_script name more)) n
allowed_alike files file name workers more n (for_script h) = for_script h

pub allowed_as_asked : (files : Files) (words others : List Text) (name file : List ℕ) (workers more n : ℕ) → command words ≡ Some (run_script name workers)
    → command others ≡ Some (run_script name more) → IsAllowedByWords files words file n → IsAllowedByWords files others file n
allowed_as_asked files words others name file workers more n e f h =
    subst (λ o. IsAllowedAsked files file o n) (sym f) (allowed_alike files file name workers more n (subst (λ o. IsAllowedAsked files file o n) e h))

pub demo_opens_nothing : (files : Files) (words : List Text) (file : List ℕ) (rows workers n : ℕ) → command words ≡ Some (run_demo rows workers) → IsAllowedByWords files words file n → n ≡ 0
demo_opens_nothing files words file rows workers n e h = demo_never files file rows workers n (subst (λ o. IsAllowedAsked files file o n) e h)

-- ---- usage

pub usage_of_none : (files : Files) (words : List Text) (a : CommandAnswer) → AnswersWords files words a → command words ≡ None → a.status ≡ usage
usage_of_none files words a h e = ap (λ (b : CommandAnswer). b.status) (no_other files a (subst (λ o. AnswersAsked files o a) e h))

not_usage : (s : script.Status) → status_of s ≡ usage → ⊥
not_usage script.done e = cc
not_usage script.fault e = cc

asked_usage : (files : Files) (asked : Option Asked) (a : CommandAnswer) → AnswersAsked files asked a → a.status ≡ usage → asked ≡ None
asked_usage files None a h e = refl
asked_usage files (Some asked) _ (of_command {a} h) e = absurd (not_usage a.status e)

pub none_of_usage : (files : Files) (words : List Text) (a : CommandAnswer) → AnswersWords files words a → a.status ≡ usage → command words ≡ None
none_of_usage files words a h e = asked_usage files (command words) a h e
