use Rattle.std.proofs.Common.{◌≡◌, string_bytes}
use Rattle.std.proofs.lemmas.Result.{IfOk-at_ok}
use Rattle.tall_parse.proofs.NewNames.{one_added}
use Rattle.tall_parse.proofs.functions.add_name.Goals as goal

pub returns : goal.returns
returns c =
    let key_is_name = IfOk-at_ok (λ s. string_bytes s ≡ c.args.name.now) c.in_ok-key.was c.from_str.ensures.ok in
    let added = one_added (string_bytes c.in_ok-key.key) c.args.names.now c.insert.new.self c.in_ok-insert.ensures.updates in
    rw key_is_name at added
