use Rattle.line_runner.proofs.AccountLemmas.{still_open}
use Rattle.line_runner.proofs.line.make_write.Goals as goal

pub finish-requires : goal.finish-requires
finish-requires g c = still_open (g.E.Engine.account c.args.engine.now) c.requires.current c.args.w c.hand_over-wrote.result (g.E.Engine.account c.hand_over-wrote.new.engine) (g.met.E.Engine.wrote _ _ _ _ c.hand_over-wrote.ensures).0
