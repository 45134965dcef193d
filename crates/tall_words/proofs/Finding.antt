-- From what `clap` says of a parse to what is found in the words, and from there to the command.
use Rattle.std.proofs.Common.{◌∙◌, ◌≡◌, ap, ℕ, true, List, [], ◌∷◌, Option, None, refl, sym, codes, inl, inr, subst}
use Rattle.std.specs.Prelude.{option_map}
use Rattle.clap.specs.Words.{HasKind, HasMatchesOf, IsAmong, kind_of, IsParsedFrom, Kinds, Text, app_of, fault_of, first_value, found_of, is_simple, is_simple_and_free, matches_of, one_text}
use Rattle.clap.specs.declared.builder.command.Command.{Command as Parser}
use Rattle.clap.specs.declared.error.Error.{Error}
use Rattle.clap.specs.declared.error.kind.ErrorKind.TheVariants.{OutOfMemory}
use Rattle.clap.specs.declared.parser.matches.ArgMatches.{ArgMatches}
use Rattle.clap.proofs.OnLiterals.{clap_on_literals}
use Rattle.clap.proofs.WalkLemmas.{first_value-rows, one_text-rows}
use Rattle.tall_words.specs.Commands.{asked_by, asked_of, command, spelled, tallrun}
use Rattle.tall_words.specs.Seen.{AreFound}
use Rattle.tall_words.proofs.Numbers.{demo_read, workers_read}

simple : is_simple tallrun ≡ true
unfolding clap_on_literals
simple = refl

pub simple_and_free : (p : Parser) → app_of p ≡ tallrun → is_simple_and_free (app_of p) ≡ true
unfolding clap_on_literals
simple_and_free p is = ap is_simple_and_free is

pub are_found : (p : Parser) (words : List Text) (m : ArgMatches) → app_of p ≡ tallrun → IsParsedFrom p m → HasMatchesOf (app_of p) words m
    → fault_of (app_of p) words ≡ [] → AreFound words m
are_found p words m is parsed matches taken = record {
  taken = sym (ap (λ a. fault_of a words) is) ∙ taken;
  rows = (matches (ap is_simple is ∙ simple)).0 ∙ ap (λ a. matches_of a words) is;
  workers = workers_read p m parsed is;
  demo = demo_read p m parsed is;
}

-- what the command is, by what was found
pub command_found : (words : List Text) (m : ArgMatches) → AreFound words m
    → command words ≡ asked_of (first_value (found_of m) (codes "script")) (option_map spelled (one_text (found_of m) (codes "demo"))) (option_map spelled (one_text (found_of m) (codes "workers")))
command_found words m found =
    ap (λ (kinds : Kinds). asked_by kinds (matches_of tallrun words)) found.taken
    ∙ (ap (asked_by []) (sym found.rows)
    ∙ (let script = first_value-rows (found_of m) (codes "script") in
    let demo = one_text-rows (found_of m) (codes "demo") in
    let workers = one_text-rows (found_of m) (codes "workers") in rw (script, demo, workers) refl))

pub no_command : (words : List Text) → (fault_of tallrun words ≡ [] → ⊥) → command words ≡ None
no_command words refused = go (fault_of tallrun words) refl
  where
    go : (kinds : Kinds) → fault_of tallrun words ≡ kinds → asked_by (fault_of tallrun words) (matches_of tallrun words) ≡ None
    go [] e = absurd (refused e)
    go (kind ∷ kinds) e = rw e refl

-- a parse that fails, and not for want of memory
pub refused_words : (p : Parser) (words : List Text) (e : Error) → app_of p ≡ tallrun → HasKind (fault_of (app_of p) words) e → (kind_of e ≡ OutOfMemory → ⊥) → command words ≡ None
refused_words p words e is failed not_memory = no_command words (λ taken. elim failed [
  | inl memory ↦ not_memory memory
  | inr among ↦
      let none : fault_of (app_of p) words ≡ [] = ap (λ a. fault_of a words) is ∙ taken in
      subst (IsAmong (kind_of e)) none among
])

-- the command of what was found, by what the getters tell of it
pub command_told : (words : List Text) (m : ArgMatches) (name : Option Text) (rows workers : Option ℕ) → AreFound words m → name ≡ first_value (found_of m) (codes "script")
    → rows ≡ option_map spelled (one_text (found_of m) (codes "demo")) → workers ≡ option_map spelled (one_text (found_of m) (codes "workers")) → command words ≡ asked_of name rows workers
command_told words m name rows workers found is_name is_rows is_workers = rw (is_name, is_rows, is_workers) (command_found words m found)
