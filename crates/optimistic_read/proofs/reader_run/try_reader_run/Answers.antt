use Rattle.optimistic_read.proofs.AnswerLemmas.{run_is}
use Rattle.optimistic_read.proofs.reader_run.try_reader_run.Goals as goal

pub returns-clause-run : goal.returns-clause-run
returns-clause-run c x has =
    run_is c.args.store.now.accounts.config x.seen x.start x.own x.by c.args.seat.now.me.0 c.read_block_run.new.seat.me.0
    c.args.route.now.cell c.args.from c.args.until c.args.rows.now c.read_block_run.new.rows c.requires.ahead
    c.read_block_run.result (c.read_block_run.ensures.tried x has)
