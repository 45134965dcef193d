use Rattle.std.proofs.Common.{sym, refl, subst}
use Rattle.tall_value.specs.Cells.{seen}
use Rattle.tall_kv.specs.Faults.{refusal_of}
use Rattle.tall_kv.specs.Stores.{IsStore, rows_pairs}
use Rattle.tall_kv.proofs.StoreLemmas.{misfit_is_fault, added_to, store_with}
use Rattle.tall_kv.proofs.pairs.Pairs.add.Goals as goal

pub returns-in-Some : goal.returns-in-Some
returns-in-Some c = (
  refl,
  misfit_is_fault (rows_pairs c.self.inside.rows) c.args.self.now (record { key = seen c.args.key.now; value = seen c.args.value.now; line = c.args.line }) (refusal_of c.in-Some.misfit) c.at.result
      c.self.view_is (c.in-Some.ensures.misfit c.args.line) c.at.ensures,
)

pub invariant_of-self-2 : goal.invariant_of-self-2
invariant_of-self-2 c =
    record {
      long = c.add.ensures.long;
      store = subst IsStore (sym c.in_ok-add.ensures.added) (store_with _ _ c.self.invariant.store (c.in_default.ensures.misfit c.args.line));
    }

pub returns : goal.returns
returns c =
    added_to (rows_pairs c.self.inside.rows) c.args.self.now (rows_pairs c.add.new.self) (record { key = seen c.args.key.now; value = seen c.args.value.now; line = c.args.line })
    c.self.view_is (c.in_default.ensures.misfit c.args.line) c.in_ok-add.ensures.added
