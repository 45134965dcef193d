use Rattle.tall_fold.proofs.scans.of_values.Goals as goal

pub returns-in-I8-clause-rows : goal.returns-in-I8-clause-rows
returns-in-I8-clause-rows c = rw (c.in-I8.is, ← c.as_slice.ensures.value) c.of_integers.ensures.rows

pub returns-in-I16-clause-rows : goal.returns-in-I16-clause-rows
returns-in-I16-clause-rows c = rw (c.in-I16.is, ← c.as_slice-in-I16.ensures.value) c.of_integers-in-I16.ensures.rows

pub returns-in-I32-clause-rows : goal.returns-in-I32-clause-rows
returns-in-I32-clause-rows c = rw (c.in-I32.is, ← c.as_slice-in-I32.ensures.value) c.of_integers-in-I32.ensures.rows

pub returns-in-I64-clause-rows : goal.returns-in-I64-clause-rows
returns-in-I64-clause-rows c = rw (c.in-I64.is, ← c.as_slice-in-I64.ensures.value) c.of_integers-in-I64.ensures.rows

pub returns-in-U8-clause-rows : goal.returns-in-U8-clause-rows
returns-in-U8-clause-rows c = rw (c.in-U8.is, ← c.as_slice-in-U8.ensures.value) c.of_integers-in-U8.ensures.rows

pub returns-in-U16-clause-rows : goal.returns-in-U16-clause-rows
returns-in-U16-clause-rows c = rw (c.in-U16.is, ← c.as_slice-in-U16.ensures.value) c.of_integers-in-U16.ensures.rows

pub returns-in-U32-clause-rows : goal.returns-in-U32-clause-rows
returns-in-U32-clause-rows c = rw (c.in-U32.is, ← c.as_slice-in-U32.ensures.value) c.of_integers-in-U32.ensures.rows

pub returns-in-U64-clause-rows : goal.returns-in-U64-clause-rows
returns-in-U64-clause-rows c = rw (c.in-U64.is, ← c.as_slice-in-U64.ensures.value) c.of_integers-in-U64.ensures.rows
