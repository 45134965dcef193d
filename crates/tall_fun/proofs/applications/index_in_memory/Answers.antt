use Rattle.std.proofs.Common.{◌∙◌, sym, ap, map}
use Rattle.std.specs.Prelude.{option_map}
use Rattle.tall_memory.specs.Values.{ref_seen}
use Rattle.tall_evaluate.specs.Senses.{argument_seen}
use Rattle.tall_fun.specs.Values.{held_seen}
use Rattle.tall_fun.proofs.HeldLemmas.{index_rows, index_variables, index_other}
use Rattle.tall_fun.proofs.applications.index_in_memory.Goals as goal

pub returns-in-Some : goal.returns-in-Some
returns-in-Some c =
    index_rows (ref_seen c.args.v.now) (ref_seen c.as_memory.result) c.memory_index.result c.kept.result c.kept.ensures (map (argument_seen held_seen) c.args.args.now)
    (held_seen c.in-Some.i.now) (sym c.are_in_memory.ensures ∙ c.if-not-are_in_memory.false)
    (sym c.only_value.ensures ∙ ap (λ o. option_map (λ v. held_seen v.now) o) c.in-Some.is) c.as_memory.ensures c.memory_index.ensures

pub returns-in-Some-value_before_colon : goal.returns-in-Some-value_before_colon
returns-in-Some-value_before_colon c =
    index_variables (ref_seen c.args.v.now) (ref_seen c.as_memory-in-Some-value_before_colon.result) c.memory_index-in-Some-value_before_colon.result c.kept-in-Some-value_before_colon.result
    c.kept-in-Some-value_before_colon.ensures (map (argument_seen held_seen) c.args.args.now)
    (held_seen c.in-Some-value_before_colon.i.now) (sym c.are_in_memory.ensures ∙ c.if-not-are_in_memory.false)
    (sym c.value_before_colon.ensures ∙ ap (λ o. option_map (λ v. held_seen v.now) o) c.in-Some-value_before_colon.is)
    c.as_memory-in-Some-value_before_colon.ensures c.memory_index-in-Some-value_before_colon.ensures

pub returns : goal.returns
returns c =
    index_other (ref_seen c.args.v.now) c.memory_index-2.result c.kept-2.result c.kept-2.ensures (map (argument_seen held_seen) c.args.args.now)
    (sym c.are_in_memory.ensures ∙ c.if-not-are_in_memory.false)
    (sym c.only_value.ensures ∙ ap (λ o. option_map (λ v. held_seen v.now) o) c.in_default.is)
    (sym c.value_before_colon.ensures ∙ ap (λ o. option_map (λ v. held_seen v.now) o) c.in_default-value_before_colon.is) c.memory_index-2.ensures
