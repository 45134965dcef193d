use Rattle.std.proofs.Common.{rules, ℕ, List, ◌≡◌, ◌<◌, ◌∙◌, ◌+◌, subst, sym, false, true, length}
use Rattle.std.specs.Prelude.{◌-◌, ◌||◌, is_some}
use Rattle.std.specs.BTreeMap.{get_by_text}
use Rattle.std.specs.BTreeSet.{contains_text}
use Rattle.csv.specs.Records.{fields_of}
use Rattle.tall_store.specs.Names.{is_suffix_taken, suffix_of, suffixed}
use Rattle.tall_value.specs.Names.{has_name}
use Rattle.tall_store.proofs.Freeness.{least_found, least_last, least_more}
use Rattle.tall_store.proofs.TakenNames.{is_taken_by, search_from}
use Rattle.tall_store.proofs.names.Naming.free_suffix.Goals as goal

pub loop-k-init : goal.loop-k-init
loop-k-init c = search_from (fields_of c.args.self.now.fields.now) c.args.self.now.names.items c.args.name.now c.args.start c.requires.passed

pub returns-then-not-is_taken-clause-suffix : goal.returns-then-not-is_taken-clause-suffix
returns-then-not-is_taken-clause-suffix c =
    let fields : List (List ℕ) = fields_of c.args.self.now.fields.now in
    let names : List (List ℕ) = c.args.self.now.names.items in
    let same : c.as_str.result.now ≡ suffixed c.args.name.now c.loop-k.k = search rules in
    let taken : (contains_text c.args.self.now.field_set c.as_str.result.now || is_some (get_by_text c.args.self.now.next c.as_str.result.now)) ≡ false = search rules in
    let free : is_suffix_taken fields names c.args.name.now c.loop-k.k ≡ false =
    subst (λ w. (has_name fields w || has_name names w) ≡ false) same
    (sym (is_taken_by fields c.args.self.now.field_set names c.args.self.now.next c.as_str.result.now c.requires.naming) ∙ taken) in
    let left : 0 < (length fields + length names + 1) - c.loop-k.k = search rules in
    least_found (is_suffix_taken fields names c.args.name.now) ((length fields + length names + 1) - c.loop-k.k) c.loop-k.k (suffix_of fields names c.args.name.now) free left c.loop-k.invariant

pub loop-k-preserved : goal.loop-k-preserved
loop-k-preserved c =
    let fields : List (List ℕ) = fields_of c.args.self.now.fields.now in
    let names : List (List ℕ) = c.args.self.now.names.items in
    let same : c.as_str.result.now ≡ suffixed c.args.name.now c.loop-k.k = search rules in
    let taken : (contains_text c.args.self.now.field_set c.as_str.result.now || is_some (get_by_text c.args.self.now.next c.as_str.result.now)) ≡ true = search rules in
    let other : is_suffix_taken fields names c.args.name.now c.loop-k.k ≡ true =
    subst (λ w. (has_name fields w || has_name names w) ≡ true) same
    (sym (is_taken_by fields c.args.self.now.field_set names c.args.self.now.next c.as_str.result.now c.requires.naming) ∙ taken) in
    least_more (is_suffix_taken fields names c.args.name.now) ((length fields + length names + 1) - c.loop-k.k)
    ((length fields + length names + 1) - (c.loop-k.k + 1)) c.loop-k.k (suffix_of fields names c.args.name.now) other (search rules) c.loop-k.invariant

pub returns-clause-suffix : goal.returns-clause-suffix
returns-clause-suffix c =
    let fields : List (List ℕ) = fields_of c.args.self.now.fields.now in
    let names : List (List ℕ) = c.args.self.now.names.items in
    let last : c.loop-k.k ≡ c.len.result + c.len-2.result + 1 = search rules in
    let none : (length fields + length names + 1) - c.loop-k.k ≡ 0 = search rules in
    sym last ∙ least_last (is_suffix_taken fields names c.args.name.now) ((length fields + length names + 1) - c.loop-k.k) c.loop-k.k
    (suffix_of fields names c.args.name.now) none c.loop-k.invariant
