use Rattle.std.proofs.Common.{rules, ℕ, List, ◌≡◌, cond, subst, true}
use Rattle.std.specs.Prelude.{string_bytes}
use Rattle.std.specs.BTreeSet.{contains_text}
use Rattle.std.specs.Str.{bytes_eq}
use Rattle.tall_store.proofs.TakenNames.{one_added}
use Rattle.tall_store.proofs.names.add_name.Goals as goal

pub returns : goal.returns
returns c =
    let same : string_bytes c.in_ok-key.key ≡ c.args.name.now = search rules in
    subst (λ bs. (text : List ℕ) → contains_text c.insert.new.self text ≡ cond (bytes_eq bs text) true (contains_text c.args.set.now text)) same
    (one_added (string_bytes c.in_ok-key.key) c.args.set.now c.insert.new.self c.in_ok-insert.ensures.updates)
