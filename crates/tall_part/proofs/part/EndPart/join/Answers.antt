use Rattle.std.proofs.Common.{subst}
use Rattle.tall_part.specs.declared.part.EndPart.{EndPart}
use Rattle.tall_part.specs.declared.part.EndPart.TheVariants as part
use Rattle.tall_part.specs.Parts.{IsPart, IsPartOf}
use Rattle.tall_part.proofs.JoinLaws.{distinct_given, distinct_need, ends_given, ends_need, groups_given, groups_need, some_both, some_joined, summary_given, summary_need}
use Rattle.tall_part.proofs.part.EndPart.join.Goals as goal

pub join_summaries-requires : goal.join_summaries-requires
join_summaries-requires c =
    let r = c.requires in
    summary_need r.0 r.1 r.2 r.3 r.4 c.in-Summary.first c.args.later (subst (λ (p : EndPart). IsPart r.0 r.1 r.2 r.3 p) c.in-Summary.is r.5) r.6 r.7

pub join_ends-requires : goal.join_ends-requires
join_ends-requires c =
    let r = c.requires in
    ends_need r.0 r.1 r.2 r.3 r.4 c.in-Rows.first c.args.later (subst (λ (p : EndPart). IsPart r.0 r.1 r.2 r.3 p) c.in-Rows.is r.5) r.6

pub join_distinct-requires : goal.join_distinct-requires
join_distinct-requires c =
    let r = c.requires in
    distinct_need r.0 r.1 r.2 r.3 r.4 c.in-Distinct.first c.args.later (subst (λ (p : EndPart). IsPart r.0 r.1 r.2 r.3 p) c.in-Distinct.is r.5) r.6

pub join_groups-requires : goal.join_groups-requires
join_groups-requires c =
    let r = c.requires in
    groups_need r.0 r.1 r.2 r.3 r.4 c.in-Groups.first c.args.later (subst (λ (p : EndPart). IsPart r.0 r.1 r.2 r.3 p) c.in-Groups.is r.5) r.6 r.7

pub returns-in-Summary-clause-some : goal.returns-in-Summary-clause-some
returns-in-Summary-clause-some c op a b n m p q few =
    some_both op a b n m c.args.self.now c.args.later (part.Summary c.join_summaries.new.first) p q few
    (λ rs ss js ws x y z. summary_given op a b rs ss js ws c.in-Summary.first c.join_summaries.new.first c.args.later (subst (λ (s : EndPart). IsPartOf op a b rs ss s) c.in-Summary.is x) y c.join_summaries.ensures)

pub returns-in-Rows-clause-rows : goal.returns-in-Rows-clause-rows
returns-in-Rows-clause-rows c op a b rs ss js ws p q few =
    ends_given c.join_ends.result op a b rs ss js ws c.in-Rows.first c.join_ends.new.first c.args.later (subst (λ (s : EndPart). IsPartOf op a b rs ss s) c.in-Rows.is p) q c.join_ends.ensures

pub returns-in-Rows-clause-some : goal.returns-in-Rows-clause-some
returns-in-Rows-clause-some c op a b n m p q few =
    some_joined c.join_ends.result op a b n m c.args.self.now c.args.later (part.Rows c.join_ends.new.first) p q few (λ rs ss js ws x y z. returns-in-Rows-clause-rows c op a b rs ss js ws x y z)

pub returns-in-Distinct-clause-rows : goal.returns-in-Distinct-clause-rows
returns-in-Distinct-clause-rows c op a b rs ss js ws p q few =
    distinct_given c.join_distinct.result op a b rs ss js ws c.in-Distinct.first c.join_distinct.new.first c.args.later (subst (λ (s : EndPart). IsPartOf op a b rs ss s) c.in-Distinct.is p) q c.join_distinct.ensures

pub returns-in-Distinct-clause-some : goal.returns-in-Distinct-clause-some
returns-in-Distinct-clause-some c op a b n m p q few =
    some_joined c.join_distinct.result op a b n m c.args.self.now c.args.later (part.Distinct c.join_distinct.new.first) p q few (λ rs ss js ws x y z. returns-in-Distinct-clause-rows c op a b rs ss js ws x y z)

pub returns-in-Groups-clause-rows : goal.returns-in-Groups-clause-rows
returns-in-Groups-clause-rows c op a b rs ss js ws p q few =
    groups_given c.join_groups.result op a b rs ss js ws c.in-Groups.first c.join_groups.new.first c.args.later (subst (λ (s : EndPart). IsPartOf op a b rs ss s) c.in-Groups.is p) q few c.join_groups.ensures

pub returns-in-Groups-clause-some : goal.returns-in-Groups-clause-some
returns-in-Groups-clause-some c op a b n m p q few =
    some_joined c.join_groups.result op a b n m c.args.self.now c.args.later (part.Groups c.join_groups.new.first) p q few (λ rs ss js ws x y z. returns-in-Groups-clause-rows c op a b rs ss js ws x y z)
