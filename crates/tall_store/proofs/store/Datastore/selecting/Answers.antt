use Rattle.std.proofs.Common.{rules, ◌≡◌, Some, true}
use Rattle.tall_store.specs.Options.{is_choice}
use Rattle.tall_store.specs.Choices.{places_of}
use Rattle.tall_store.proofs.Selections.{selecting_store}
use Rattle.tall_store.proofs.store.Datastore.selecting.Goals as goal

pub copy_with-requires : goal.copy_with-requires
copy_with-requires c =
    let choice : is_choice c.as_slice.result.now ≡ true = search rules in
    let found : Some c.in-Some.places.items ≡ places_of c.names.result.now c.as_slice-2.result.now = search rules in
    let placed : Some c.in-Some.places.items ≡ places_of c.args.self.now.names c.as_slice.result.now = search rules in
    selecting_store c.args.self.now c.as_slice.result.now c.size.result c.in_ok-formats-in-Some.formats.items c.in-Some.places.items
    c.size.ensures.size (search rules) c.formats.ensures.store choice placed
