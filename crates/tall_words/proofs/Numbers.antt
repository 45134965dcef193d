-- The numbers that `clap` reads for the two options: their texts passed the options' own parsers.
use Rattle.std.proofs.Common.{◌∙◌, ◌≡◌, ◌<◌, ap, ℕ, Bool, true, false, List, [], ◌∷◌, length, map, Option, Some, None, refl, sym, subst, inl, inr, arith, codes}
use Rattle.std.specs.Prelude.{option_map, slice_get, pos}
use Rattle.std.specs.List.{All, slice_index_or}
use Rattle.std.specs.Borrow.{Bor}
use Rattle.std.specs.Str.{bytes_eq}
use Rattle.std.proofs.lemmas.List.Elements.{All-get_or}
use Rattle.std.proofs.lemmas.Slice.Eq.{bytes_eq-Decides}
use Rattle.clap.specs.Words.{Accepts, IsParsedFrom, Rule, SameRules, Text, app_of, args_of, found_of, groups_of, matched_of, one_text, parser_of, read_as, reading_of, rule_of}
use Rattle.clap.specs.Facts.{Entry, EntryPasses, HasReading, PassesArg, parser_of_value}
use Rattle.clap.specs.declared.builder.arg.Arg.{Arg}
use Rattle.clap.specs.declared.builder.command.Command.{Command}
use Rattle.clap.specs.declared.builder.value_parser.Reading.{Reading}
use Rattle.clap.specs.declared.builder.value_parser.ValueParser.{ValueParser}
use Rattle.clap.specs.declared.builder.value_parser.ValueParser.TheVariants.{Signed}
use Rattle.clap.specs.declared.parser.matches.ArgMatches.{ArgMatches}
use Rattle.clap.specs.declared.parser.matches.MatchedArg.{MatchedArg}
use Rattle.clap.proofs.CallerLemmas.{entry_by_id, same_rules_by_id}
use Rattle.tall_words.specs.Commands.{tallrun, workers, demo}
use Rattle.tall_words.specs.Seen.{HasNumber}
use Rattle.tall_words.proofs.Rules.{names_no_group, no_globals, no_groups, not_auto, one_id, rule_at, rules, rules_are, there_at}

-- what is known of an option of the command line: its place, its id, and that its numbers go from 1 to the greatest
record IsOption (xs : List Arg) (k : ℕ) (id : Text) (greatest : ℕ) : Type 0 where
  under : k < 3
  there : k < length xs
  is_named : (d : Arg) → (slice_index_or xs k d).id.now ≡ id
  has_parser : (d : Arg) → (slice_index_or xs k d).value_parser ≡ Some (Signed (pos 1) (pos greatest))
  keeps_case : (d : Arg) → (slice_index_or xs k d).ignore_case ≡ false
  has_id : id ≡ [] → ⊥

module _ (old : Command) (m : ArgMatches) (p : IsParsedFrom old m) (is : app_of old ≡ tallrun) (k : ℕ) (id : Text) (greatest : ℕ) (o : IsOption (args_of old) k id greatest) where
  same_rules : (j : ℕ) (x d : Arg) → j < length (args_of p.built) → slice_index_or (args_of p.built) j x ≡ x → bytes_eq x.id.now id ≡ true → SameRules (slice_index_or (args_of old) k d) x
  same_rules j x d lt at same =
      same_rules_by_id old m p k d o.there (one_id (args_of old) (rules_are old is) k d o.under) (not_auto (args_of old) (rules_are old is) k d o.under) j x lt at
      (subst (λ (t : Text). bytes_eq x.id.now t ≡ true) (sym (o.is_named d)) same)

  parser_is : (x d : Arg) → SameRules (slice_index_or (args_of old) k d) x → parser_of x ≡ Signed (pos 1) (pos greatest)
  parser_is x d s = ap parser_of_value (s.parser _ (o.has_parser d))

  accepted : (word : Text) → PassesArg p.built id word → Accepts false (Signed (pos 1) (pos greatest)) word
  accepted word pass =
      let s = same_rules pass.0 pass.1 pass.1 pass.2 pass.3 pass.4.0 in
      subst (λ (q : ValueParser). Accepts false q word) (parser_is pass.1 pass.1 s)
      (subst (λ (b : Bool). Accepts b (parser_of pass.1) word) (s.ignore_case ∙ o.keeps_case pass.1) pass.4.1)

  read_so : (how : Reading) → HasReading p.built id how → how ≡ reading_of (Signed (pos 1) (pos greatest))
  read_so how reads =
      let s = same_rules reads.0 reads.1 reads.1 reads.2 reads.3 reads.4.0 in
      sym reads.4.1 ∙ ap reading_of (parser_is reads.1 reads.1 s)

  first_passes : (P : Text → Type 0) (how : Reading) (words : List (Bor Text)) (text : Text) → All (λ w. P w.now) words
      → option_map (λ w. read_as how w.now) (slice_get words 0) ≡ Some text → (word : Text) × (text ≡ read_as how word) × P word
  first_passes P how [] text passed found = cc
  first_passes P how (w ∷ words) text passed found = (w.now, cc, All-get_or (λ w. P w.now) (w ∷ words) 0 w (omega arith) passed)

  no_group : (e : Entry) → bytes_eq e.0.now id ≡ true → EntryPasses p.built e → e.1.is_group ≡ true → ⊥
  no_group e key passes g = elim (passes.3 g) [
    | inl none ↦ o.has_id (sym ((bytes_eq-Decides e.0.now id).0 key) ∙ none)
    | inr some ↦
        let groups : groups_of p.built ≡ [] = (p.from.same_groups (names_no_group old is)).1 ∙ no_groups old is in
        let bad : 0 < 0 = rw groups at some in omega (arith, bad)
  ]

  of_entry : (e : Entry) (text : Text) → bytes_eq e.0.now id ≡ true → EntryPasses p.built e
      → option_map (λ w. read_as e.1.reading w.now) (slice_get e.1.vals.items 0) ≡ Some text
      → (word : Text) × (text ≡ read_as (reading_of (Signed (pos 1) (pos greatest))) word) × Accepts false (Signed (pos 1) (pos greatest)) word
  of_entry e text key passes found =
      let name = (bytes_eq-Decides e.0.now id).0 key in
      let values : All (λ v. PassesArg p.built e.0.now v.now) e.1.vals.items = elim passes.0 [
        | inl g ↦ absurd (no_group e key passes g)
        | inr all ↦ all
      ] in
      let reads : HasReading p.built e.0.now e.1.reading = elim passes.4 [
        | inl g ↦ absurd (no_group e key passes g)
        | inr how ↦ how
      ] in
      let how = read_so e.1.reading (subst (λ (t : Text). HasReading p.built t e.1.reading) name reads) in
      let first = first_passes (PassesArg p.built e.0.now) e.1.reading e.1.vals.items text values found in (
        first.0,
        first.1 ∙ ap (λ (r : Reading). read_as r first.0) how,
        accepted first.0 (subst (λ (t : Text). PassesArg p.built t first.0) name first.2),
      )

  has_number : HasNumber m id greatest
  has_number text found = go (matched_of (found_of m) id) refl found
    where
      go : (x : Option MatchedArg) → matched_of (found_of m) id ≡ x → one_text (found_of m) id ≡ Some text
          → (word : Text) × (text ≡ read_as (reading_of (Signed (pos 1) (pos greatest))) word) × Accepts false (Signed (pos 1) (pos greatest)) word
      go None e h =
          let bad : None ≡ Some text = rw e at h in cc
      go (Some x) e h =
          let got = entry_by_id (EntryPasses p.built) (found_of m).entries.items id x (p.parsed (p.from.globals ∙ no_globals old is)).values e in
          let value : option_map (λ w. read_as x.reading w.now) (slice_get x.vals.items 0) ≡ Some text = rw e at h in
          of_entry got.0 text got.2 got.3 (subst (λ (y : MatchedArg). option_map (λ w. read_as y.reading w.now) (slice_get y.vals.items 0) ≡ Some text) (sym got.1) value)

-- the option that stands at a place
option_at : (xs : List Arg) (rs : List Rule) (k : ℕ) (r : Rule) (greatest : ℕ) → map rule_of xs ≡ rs → slice_get rs k ≡ Some r → k < 3
    → r.parser ≡ Some (Signed (pos 1) (pos greatest)) → r.ignore_case ≡ false → (r.id ≡ [] → ⊥) → IsOption xs k r.id greatest
option_at xs rs k r greatest same at under parser case named =
    let rule = λ (d : Arg). rule_at xs k d r (ap (λ rs. slice_get rs k) same ∙ at) in
    let long : k < length xs = there_at xs k r (ap (λ rs. slice_get rs k) same ∙ at) in
    record {
      under = under;
      there = long;
      is_named = λ d. ap (λ (r : Rule). r.id) (rule d);
      has_parser = λ d. ap (λ (r : Rule). r.parser) (rule d) ∙ parser;
      keeps_case = λ d. ap (λ (r : Rule). r.ignore_case) (rule d) ∙ case;
      has_id = named;
    }

pub workers_read : (old : Command) (m : ArgMatches) → IsParsedFrom old m → app_of old ≡ tallrun → HasNumber m (codes "workers") 64
workers_read old m p is =
    has_number old m p is 0 (codes "workers") 64
    (option_at (args_of old) rules 0 workers 64 (rules_are old is) refl (omega arith) refl refl (λ e. cc))

pub demo_read : (old : Command) (m : ArgMatches) → IsParsedFrom old m → app_of old ≡ tallrun → HasNumber m (codes "demo") 1000000
demo_read old m p is =
    has_number old m p is 1 (codes "demo") 1000000
    (option_at (args_of old) rules 1 demo 1000000 (rules_are old is) refl (omega arith) refl refl (λ e. cc))
