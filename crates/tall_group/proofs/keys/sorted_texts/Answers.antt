use Rattle.std.proofs.Common.{refl, string_bytes, map}
use Rattle.std.specs.Cmp.Lexicographic.{slice_cmp}
use Rattle.std.specs.Ordering.{nat_cmp}
use Rattle.std.specs.Str.{bytes_eq}
use Rattle.std.proofs.lemmas.Map.Text.{is_eq-slice_cmp}
use Rattle.tall_value.specs.Cells.{text}
use Rattle.tall_group.proofs.SortLemmas.{sorted_keys, sorted_given, texts_given}
use Rattle.tall_group.proofs.keys.sorted_texts.Goals as goal

pub returns-clause-sorted : goal.returns-clause-sorted
returns-clause-sorted c =
    let s = c.in_ok-sort_keys.ensures in
    let r = c.text_column in
    sorted_given r.result (λ x. x.column) (λ x. x.places.items) _ _ _ r.ensures.column r.ensures.places
    (sorted_keys (λ k. text (string_bytes k)) (λ a b. slice_cmp nat_cmp (string_bytes a) (string_bytes b)) (λ a b. bytes_eq (string_bytes a) (string_bytes b)) (λ _. Unit {0})
    (λ e f p q. refl) (λ e f p q. is_eq-slice_cmp (string_bytes e.0) (string_bytes f.0)) _ _ (λ i d l. tt) c.requires.places s.reordered.0 s.sorted s.unique)

pub returns-clause-kinds : goal.returns-clause-kinds
returns-clause-kinds c = texts_given c.text_column.result (λ x. x.column) _ (λ e. string_bytes e.0) _ c.text_column.ensures.column
