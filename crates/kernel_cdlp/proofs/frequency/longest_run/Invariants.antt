-- the values so far are counted
use Rattle.kernel_cdlp.proofs.FrequencyLemmas.{IsCounted}
use Rattle.kernel_cdlp.proofs.frequency.longest_run.Given as goal

abbrev pub invariant-values : goal.invariant-values
invariant-values l = IsCounted l.default l.values l.i l.last l.run l.best l.most
