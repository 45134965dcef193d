use Rattle.std.proofs.Common.{rules, ◌≡◌, if◌then◌else◌, [], ◌∷◌, ◌++◌}
use Rattle.std.specs.Result.{is_ok}
use Rattle.tall_fuse.proofs.LastParts.{found_joined, carry_joined}
use Rattle.tall_fuse.proofs.known.Known.join.Goals as goal

pub returns-clause-found : goal.returns-clause-found
returns-clause-found c =
    let latest : c.replace-before.new.dest ≡ c.args.later.current = search rules in
    let all : c.append.new.self.items ≡ (if is_ok c.append.result then (c.args.self.now.earlier.items ++ c.args.self.now.current ∷ []) ++ c.args.later.earlier.items else c.args.self.now.earlier.items ++ c.args.self.now.current ∷ []) = search rules in
    found_joined c.args.self.now c.args.later (record { current = c.replace-before.new.dest; earlier = c.append.new.self; alloc = c.args.self.now.alloc }) latest c.append.result all

pub returns-clause-carry : goal.returns-clause-carry
returns-clause-carry c =
    let latest : c.replace-before.new.dest ≡ c.args.later.current = search rules in
    let all : c.append.new.self.items ≡ (if is_ok c.append.result then (c.args.self.now.earlier.items ++ c.args.self.now.current ∷ []) ++ c.args.later.earlier.items else c.args.self.now.earlier.items ++ c.args.self.now.current ∷ []) = search rules in
    carry_joined c.args.self.now c.args.later (record { current = c.replace-before.new.dest; earlier = c.append.new.self; alloc = c.args.self.now.alloc }) latest c.append.result all
