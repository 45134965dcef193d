use Rattle.tall_local.proofs.KeyLaws.{equal_keys, own_key}
use Rattle.tall_local.proofs.StoreKept.{empty_store, pair_store, appended_store, call_store}
use Rattle.tall_local.proofs.laws.a_store_keeps_its_rules.Goals as goal

pub returns-clause-start : goal.returns-clause-start
returns-clause-start c = empty_store

pub returns-clause-pair : goal.returns-clause-pair
returns-clause-pair c = pair_store

pub returns-clause-appended : goal.returns-clause-appended
returns-clause-appended c = appended_store

pub returns-clause-calls : goal.returns-clause-calls
returns-clause-calls c = call_store

pub returns-clause-same_key : goal.returns-clause-same_key
returns-clause-same_key c = equal_keys

pub returns-clause-own_key : goal.returns-clause-own_key
returns-clause-own_key c = own_key
