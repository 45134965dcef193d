-- The table of a store's pairs can be held: its two columns have cells of their class, and one height.
use Rattle.std.proofs.Common.{◌≡◌, List, [], ◌∷◌, refl, ap, sym, ◌∙◌, subst}
use Rattle.std.proofs.lemmas.List.{length-map}
use Rattle.std.proofs.lemmas.List.Elements.{All-nil, All-cons}
use Rattle.std.proofs.lemmas.List.Kept.{AllPairs-cons}
use Rattle.std.specs.List.{All, AllPairs}
use Rattle.tall_column.specs.Columns.{SeenColumn}
use Rattle.tall_column.specs.Tables.{AreApart}
use Rattle.tall_local.proofs.TableNames.{no_names}
use Rattle.std.specs.Prelude.{codes, length, map}
use Rattle.tall_value.specs.declared.class.Kind.{Kind}
use Rattle.tall_value.specs.declared.class.Kind.TheVariants.{Double}
use Rattle.tall_value.specs.Cells.{Seen, seen_kind}
use Rattle.tall_value.specs.Classes.{class_of, kind_of}
use Rattle.tall_value.specs.Columns.{HasKind}
use Rattle.tall_value.proofs.KindLaws.{kind_again}
use Rattle.tall_local.specs.CallLaws.{HaveClasses, HaveOneClass}
use Rattle.tall_local.specs.MemoryLaws.{HasItsClass, CanBeHeld}
use Rattle.tall_local.specs.Pairs.{Pair, column_of_cells, pair_key, pair_value}
use Rattle.tall_local.specs.StoreLaws.{IsStore}
use Rattle.tall_local.proofs.KeyLaws.{same_kinds}
use Rattle.tall_script.specs.MapReduce.{pairs_table}

of_class : (k : Kind) (cs : List Seen) → All (HasKind k) cs → All (HasKind (kind_of (class_of k))) cs
of_class k cs h = subst (λ j. All (HasKind j) cs) (sym (kind_again k)) h

keys_alike : (p : Pair) (ps : List Pair) → HaveClasses p ps → All (HasKind (seen_kind p.key)) (map pair_key ps)
keys_alike p [] h = All-nil (HasKind (seen_kind p.key))
keys_alike p (q ∷ ps) h = All-cons (HasKind (seen_kind p.key)) q.key (map pair_key ps) (same_kinds (seen_kind p.key) (seen_kind q.key) h.0) (keys_alike p ps h.2)

values_alike : (p : Pair) (ps : List Pair) → HaveClasses p ps → All (HasKind (seen_kind p.value)) (map pair_value ps)
values_alike p [] h = All-nil (HasKind (seen_kind p.value))
values_alike p (q ∷ ps) h = All-cons (HasKind (seen_kind p.value)) q.value (map pair_value ps) (same_kinds (seen_kind p.value) (seen_kind q.value) h.1) (values_alike p ps h.2)

cells_of_column : (cs : List Seen) → (column_of_cells cs).cells ≡ cs
cells_of_column [] = refl
cells_of_column (c ∷ cs) = refl

-- as many keys as values
one_height : (ps : List Pair) → length (column_of_cells (map pair_value ps)).cells ≡ length (column_of_cells (map pair_key ps)).cells
one_height ps =
    ap (λ (cs : List Seen). length cs) (cells_of_column (map pair_value ps)) ∙ length-map ps pair_value
    ∙ sym (ap (λ (cs : List Seen). length cs) (cells_of_column (map pair_key ps)) ∙ length-map ps pair_key)

keys_have : (ps : List Pair) → HaveOneClass ps → HasItsClass (column_of_cells (map pair_key ps))
keys_have [] h = All-nil (HasKind Double)
keys_have (p ∷ ps) h =
    of_class (seen_kind p.key) (map pair_key (p ∷ ps)) (All-cons (HasKind (seen_kind p.key)) p.key (map pair_key ps) refl (keys_alike p ps h))

values_have : (ps : List Pair) → HaveOneClass ps → HasItsClass (column_of_cells (map pair_value ps))
values_have [] h = All-nil (HasKind Double)
values_have (p ∷ ps) h =
    of_class (seen_kind p.value) (map pair_value (p ∷ ps)) (All-cons (HasKind (seen_kind p.value)) p.value (map pair_value ps) refl (values_alike p ps h))

one_name : (x : SeenColumn) → AllPairs AreApart ((codes "Value", x) ∷ [])
one_name x = AllPairs-cons AreApart (codes "Value", x) [] (All-nil (AreApart (codes "Value", x))) no_names

pub table_held : (out : List Pair) → IsStore out → CanBeHeld (pairs_table out)
table_held out h = (
  (keys_have out h.classes, (values_have out h.classes, tt)),
  record {
    distinct = AllPairs-cons AreApart (codes "Key", column_of_cells (map pair_key out)) ((codes "Value", column_of_cells (map pair_value out)) ∷ []) (All-cons (AreApart (codes "Key", column_of_cells (map pair_key out))) (codes "Value", column_of_cells (map pair_value out)) [] refl (All-nil (AreApart (codes "Key", column_of_cells (map pair_key out))))) (one_name (column_of_cells (map pair_value out)));
    one_height = (refl, (one_height out, tt));
  },
)
