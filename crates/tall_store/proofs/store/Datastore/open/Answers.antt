use Rattle.std.proofs.Common.{rules, ◌≡◌, ◌∙◌, ap, subst, sym, false}
use Rattle.std.specs.Prelude.{Err, IfOk, IfSome, ◌≢◌}
use Rattle.tall_store.specs.declared.faults.StoreFault.TheVariants.{TooLarge}
use Rattle.tall_store.specs.Options.{is_accepted, options_seen}
use Rattle.tall_store.specs.Opening.{IsWithin, Opens, opening}
use Rattle.tall_store.specs.Chosen.{chosen_seen}
use Rattle.tall_store.proofs.Told.{told_refused}
use Rattle.tall_store.proofs.store.Datastore.open.Goals as goal

pub returns-then-not-is_accepted-clause-told : goal.returns-then-not-is_accepted-clause-told
returns-then-not-is_accepted-clause-told g c =
    let refused : is_accepted (chosen_seen c.in-Ok.chosen) ≡ false = search rules in
    told_refused (g.S.Shelf.held c.args.shelf.now) (options_seen c.args.options) (ap is_accepted (sym c.in-Ok.ensures) ∙ refused)

pub returns-clause-told : goal.returns-clause-told
returns-clause-told g c =
    subst (λ o. IfSome (g.S.Shelf.held c.args.shelf.now) (λ files. Opens (opening files o) c.open_chosen.result)) c.in-Ok.ensures c.open_chosen.ensures.told

pub returns-clause-within : goal.returns-clause-within
returns-clause-within g c =
    subst (λ o. IfSome (g.S.Shelf.held c.args.shelf.now) (λ files. IsWithin files o → c.open_chosen.result ≢ Err TooLarge)) c.in-Ok.ensures c.open_chosen.ensures.within

pub returns-clause-files : goal.returns-clause-files
returns-clause-files g c = subst (λ o. IfOk c.open_chosen.result (λ store. store.files ≡ o.files)) c.in-Ok.ensures c.open_chosen.ensures.files
