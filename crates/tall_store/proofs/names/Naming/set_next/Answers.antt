use Rattle.std.proofs.Common.{rules, ℕ, List, ◌≡◌, subst, Some}
use Rattle.std.specs.Prelude.{string_bytes}
use Rattle.std.specs.BTreeMap.{get_by_text}
use Rattle.std.specs.Map.{update}
use Rattle.std.specs.Str.{bytes_eq}
use Rattle.tall_store.proofs.TakenNames.{one_updated}
use Rattle.tall_store.proofs.names.Naming.set_next.Goals as goal

pub returns-clause-next : goal.returns-clause-next
returns-clause-next c =
    let same : string_bytes c.in_ok-key.key ≡ c.args.name.now = search rules in
    subst (λ bs. (key : List ℕ) → get_by_text c.insert.new.self key ≡ update bytes_eq (get_by_text c.args.self.now.next) bs (Some c.args.suffix) key) same
    (one_updated (string_bytes c.in_ok-key.key) c.args.self.now.next c.insert.new.self c.args.suffix c.in_ok-insert.ensures.updates)
