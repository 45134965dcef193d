use Rattle.std.proofs.Common.{rules, ◌≡◌, ◌∙◌, ap, map}
use Rattle.std.specs.Prelude.{option_map}
use Rattle.std.specs.Option.{option_copied}
use Rattle.tall_local.specs.Names.{named}
use Rattle.tall_fun.specs.Values.{held_seen}
use Rattle.tall_fun.proofs.NameLemmas.{looked_up}
use Rattle.tall_fun.proofs.HeldLemmas.{shown_copied}
use Rattle.tall_fun.proofs.names.Names.get.Goals as goal

pub returns : goal.returns
returns c =
    let k : option_map (λ v. held_seen v.now) c.get.result ≡ option_map held_seen (option_copied c.get.result) = shown_copied c.get.result in
    let h : option_map held_seen (option_copied c.get.result) ≡ named (map (λ e. (e.0.now, held_seen e.1)) c.self.inside.entries.entries) c.args.name.now
    = ap (option_map held_seen) c.get.ensures.value ∙ looked_up c.self.inside.entries.entries c.args.name.now in
    search (rules, k, h)
