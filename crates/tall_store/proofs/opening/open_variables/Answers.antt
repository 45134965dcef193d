use Rattle.std.proofs.Common.{rules, ◌≡◌, ◌∙◌, ◌<◌, ◌^◌, ap, subst, sym, length, Some, List, ℕ}
use Rattle.std.specs.Prelude.{option_map}
use Rattle.csv.specs.Records.{fields_of}
use Rattle.tall_store.specs.Chosen.{chosen_seen}
use Rattle.tall_store.specs.Choices.{chosen_formats, chosen_places}
use Rattle.tall_store.proofs.Openings.{made_store, variables_length}
use Rattle.tall_store.proofs.opening.open_variables.Goals as goal

pub invariant_of-result : goal.invariant_of-result
invariant_of-result c =
    let same : length c.in_ok-names.names.items ≡ length (fields_of c.args.first) =
    ap (λ (names : List (List ℕ)). length names) c.in_ok-names.ensures.names ∙ variables_length c.args.chosen.header (fields_of c.args.first) in
    let short : length c.in_ok-names.names.items < 2 ^ 20 = subst (λ n. n < 2 ^ 20) (sym same) c.requires.few in
    let formats : Some c.in-Some.formats.items
    ≡ chosen_formats c.args.chosen.missing.items (fields_of c.args.fields.now) (length c.in_ok-names.names.items) (option_map (λ f. f.items) c.args.chosen.formats) = search rules in
    let places : Some c.in-Some-2.selected.items ≡ chosen_places c.in_ok-names.names.items (option_map (λ s. s.items) c.args.chosen.selected) = search rules in
    made_store (chosen_seen c.args.chosen) (fields_of c.args.first) (fields_of c.args.fields.now) c.in_ok-names.names.items c.in-Some.formats.items c.in-Some-2.selected.items
    c.requires.accepted c.requires.files short c.in_ok-names.ensures.distinct formats places
