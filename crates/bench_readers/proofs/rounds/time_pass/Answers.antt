use Rattle.bench_readers.proofs.RoundLemmas.{stay_themselves}
use Rattle.bench_readers.proofs.rounds.time_pass.Goals as goal

pub returns-in-Err-clause-idle : goal.returns-in-Err-clause-idle
returns-in-Err-clause-idle g c = stay_themselves c.args.store.now c.args.idle.now.items c.requires.idle
