use Rattle.std.specs.Prelude.{length, string_bytes}
use Rattle.std.proofs.Common.{sym, subst, ap, ◌∙◌}
use Rattle.std.specs.List.{All}
use Rattle.tall_deferred.specs.Values.{IsValue}
use Rattle.tall_local.specs.Names.{put_name}
use Rattle.tall_environment.specs.Environments.{IsNamed, SeenEnvironment}
use Rattle.tall_environment.specs.contracts.environment.Environment.{the_view}
use Rattle.tall_environment.proofs.TableLaws.{either, inserted, on_err, on_ok, put_within, seen}
use Rattle.tall_environment.proofs.environment.Environment.assign.Goals as goal

pub invariant_of-self : goal.invariant_of-self
invariant_of-self c =
    let n = length c.self.inside.graph in
    let es = c.self.inside.names.entries in
    let fit = subst (λ (e : SeenEnvironment). IsValue (length e.graph) c.args.value) (sym c.self.view_is) c.requires in
    record {
      names = either c.put.result c.put.ensures
          (λ e. subst (All (IsNamed n)) (sym (ap seen e ∙ inserted es c.in_ok-name.name c.args.value)) (put_within n (string_bytes c.in_ok-name.name) c.args.value (seen es) fit c.self.invariant.names))
          (λ e. subst (All (IsNamed n)) (sym (ap seen e)) c.self.invariant.names);
      kept = c.self.invariant.kept;
    }

pub returns-clause-ok : goal.returns-clause-ok
returns-clause-ok c =
    let e = the_view c.self.inside in
    on_ok _ _ c.put.result c.put.ensures (λ h.
    ap (λ xs. record e { names = xs }) (ap seen h ∙ inserted c.self.inside.names.entries c.in_ok-name.name c.args.value)
    ∙ (ap (λ n. record e { names = put_name n c.args.value e.names }) c.in_ok-name.ensures.ok
    ∙ ap (λ (o : SeenEnvironment). record o { names = put_name c.args.name.now c.args.value o.names }) c.self.view_is))

pub returns-clause-err : goal.returns-clause-err
returns-clause-err c =
    let e = the_view c.self.inside in
    on_err _ _ c.put.result c.put.ensures (λ h. ap (λ xs. record e { names = xs }) (ap seen h) ∙ c.self.view_is)
