-- The property of the name.
use Rattle.std.specs.Prelude.{Some}
use Rattle.std.proofs.Common.{ap, sym, ◌∙◌}
use Rattle.tall_script.specs.Datastores.{changed}
use Rattle.tall_store.specs.declared.options.Property.TheVariants as property
use Rattle.tall_sources.proofs.PropertyLemmas.{named_changed}
use Rattle.tall_sources.proofs.properties.changed.Goals as goal

pub returns-in-Some-ReadSize : goal.returns-in-Some-ReadSize
unfolding changed
returns-in-Some-ReadSize c f =
    named_changed f c.args.store.now c.args.property.now property.ReadSize c.args.value.now c.with_size.result
    (sym c.property_named.ensures ∙ (c.in-Some-ReadSize.is ∙ ap Some c.in-Some-ReadSize.field-0-is)) c.with_size.ensures

pub returns-in-Some-SelectedVariableNames : goal.returns-in-Some-SelectedVariableNames
unfolding changed
returns-in-Some-SelectedVariableNames c f =
    named_changed f c.args.store.now c.args.property.now property.SelectedVariableNames c.args.value.now c.with_selected.result
    (sym c.property_named.ensures ∙ (c.in-Some-SelectedVariableNames.is ∙ ap Some c.in-Some-SelectedVariableNames.field-0-is)) c.with_selected.ensures

pub returns-in-Some-TextscanFormats : goal.returns-in-Some-TextscanFormats
unfolding changed
returns-in-Some-TextscanFormats c f =
    named_changed f c.args.store.now c.args.property.now property.TextscanFormats c.args.value.now c.with_formats.result
    (sym c.property_named.ensures ∙ (c.in-Some-TextscanFormats.is ∙ ap Some c.in-Some-TextscanFormats.field-0-is)) c.with_formats.ensures
