use Rattle.store_relation.proofs.CheckLemmas.{checked_free, may_write, checked_cause, later_cause, holder_cause}
use Rattle.store_relation.proofs.laws.checks_allow_writes.Goals as goal

pub returns-clause-free : goal.returns-clause-free
returns-clause-free c = checked_free

pub returns-clause-may_write : goal.returns-clause-may_write
returns-clause-may_write c = may_write

pub returns-clause-cause : goal.returns-clause-cause
returns-clause-cause c = checked_cause

pub returns-clause-later : goal.returns-clause-later
returns-clause-later c = later_cause

pub returns-clause-holder : goal.returns-clause-holder
returns-clause-holder c = holder_cause
