-- The options of a datastore as the opening keeps them.
use Rattle.std.specs.Prelude.{option_map}
use Rattle.tall_store.specs.declared.opening.Chosen.{Chosen}
use Rattle.tall_store.specs.Options.{SeenOptions}

abbrev pub chosen_seen : Chosen → SeenOptions
chosen_seen c = record {
  files = c.files.items;
  delimiter = c.delimiter;
  size = c.size;
  missing = c.missing.items;
  selected = option_map (λ names. names.items) c.selected;
  formats = option_map (λ formats. formats.items) c.formats;
  header = c.header;
}
