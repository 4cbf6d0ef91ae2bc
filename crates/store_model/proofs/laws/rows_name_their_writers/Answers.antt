use Rattle.store_model.proofs.CheckLemmas.{writer_of, toucher_of, looked_open, looked_committed, looked_late}
use Rattle.store_model.proofs.LookedLemmas.{looked_laid, looked_in_row, dropped_vertex}
use Rattle.store_model.proofs.laws.rows_name_their_writers.Goals as goal

pub returns-clause-pairs : goal.returns-clause-pairs
returns-clause-pairs c = writer_of

pub returns-clause-touches : goal.returns-clause-touches
returns-clause-touches c = toucher_of

pub returns-clause-open : goal.returns-clause-open
returns-clause-open c = looked_open

pub returns-clause-committed : goal.returns-clause-committed
returns-clause-committed c = looked_committed

pub returns-clause-late : goal.returns-clause-late
returns-clause-late c = looked_late

pub returns-clause-laid : goal.returns-clause-laid
returns-clause-laid c = looked_laid

pub returns-clause-by_row : goal.returns-clause-by_row
returns-clause-by_row c = looked_in_row

pub returns-clause-dropped : goal.returns-clause-dropped
returns-clause-dropped c = dropped_vertex
