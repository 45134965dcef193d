use Rattle.tall_value.proofs.FunctionLaws.{unary_rows_kind, binary_rows_kind, scalar_left_kind, scalar_right_kind, reduced_kind, scanned_kind, distinct_kind}
use Rattle.tall_value.proofs.functions.columns_have_their_kind.Goals as goal

pub returns-clause-one : goal.returns-clause-one
returns-clause-one c = unary_rows_kind

pub returns-clause-two : goal.returns-clause-two
returns-clause-two c = binary_rows_kind

pub returns-clause-left : goal.returns-clause-left
returns-clause-left c = scalar_left_kind

pub returns-clause-right : goal.returns-clause-right
returns-clause-right c = scalar_right_kind

pub returns-clause-reduced : goal.returns-clause-reduced
returns-clause-reduced c = reduced_kind

pub returns-clause-scanned : goal.returns-clause-scanned
returns-clause-scanned c = scanned_kind

pub returns-clause-distinct : goal.returns-clause-distinct
returns-clause-distinct c = distinct_kind
