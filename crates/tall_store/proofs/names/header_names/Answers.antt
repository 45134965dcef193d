use Rattle.std.proofs.Common.{rules, ℕ, List, ◌≡◌, ◌+◌, subst, drop, length}
use Rattle.csv.specs.Records.{fields_of}
use Rattle.tall_store.specs.Names.{header_names, names_from}
use Rattle.tall_store.proofs.HeaderNames.{distinct_header, names_all}
use Rattle.tall_store.proofs.names.header_names.Goals as goal

pub returns-clause-distinct : goal.returns-clause-distinct
returns-clause-distinct c =
    let fields : List (List ℕ) = fields_of c.args.fields.now in
    let names : List (List ℕ) = c.loop-k.naming.names.items in
    let end : c.loop-k.k ≡ length fields = search rules in
    distinct_header fields names c.requires.few
    (names_all fields names (header_names fields) (subst (λ k. names_from fields names (k + 1) (drop k fields) ≡ header_names fields) end c.loop-k.invariant.names))
