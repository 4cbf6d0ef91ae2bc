use Rattle.std.proofs.Common.{◌-◌}
use Rattle.pass_steps.specs.Passes.{state_of}
use Rattle.pass_readers.proofs.LendLemmas.{pin_after, same_pass, state_after, stays_open}
use Rattle.pass_readers.proofs.lend.join_reader.Goals as goal

pub returns-clause-from : goal.returns-clause-from
returns-clause-from c =
    stays_open c.args.store.now c.args.from.now c.take_back.new.from ((state_of c.args.from.now).readers_out - 1) c.requires.from
    c.take_back.ensures.from

pub returns-clause-out : goal.returns-clause-out
returns-clause-out c =
    state_after c.args.store.now c.args.from.now c.take_back.new.from ((state_of c.args.from.now).readers_out - 1) c.requires.from
    c.take_back.ensures.from

pub returns-clause-same : goal.returns-clause-same
returns-clause-same c = (
  same_pass c.args.store.now c.args.from.now c.take_back.new.from ((state_of c.args.from.now).readers_out - 1) c.requires.from
      c.take_back.ensures.from,
  pin_after c.args.store.now c.args.from.now c.take_back.new.from ((state_of c.args.from.now).readers_out - 1) c.requires.from
      c.take_back.ensures.from,
)
