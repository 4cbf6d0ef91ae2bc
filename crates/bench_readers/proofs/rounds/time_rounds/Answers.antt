use Rattle.std.proofs.Common.{length, refl, ◌∙◌, rules}
use Rattle.bench_readers.proofs.RoundLemmas.{stay_count, stay_themselves, stay_twice}
use Rattle.bench_readers.proofs.rounds.time_rounds.Goals as goal

pub rounds-init : goal.rounds-init
rounds-init g c = record {
  opened = c.requires.opened;
  number = refl;
  idle = stay_themselves c.args.store.now c.args.idle.now.items c.requires.idle;
  count = refl;
  room = refl;
}

pub rounds-preserved : goal.rounds-preserved
rounds-preserved g c =
    let stay = stay_twice c.args.store.now c.args.idle.now.items c.rounds.idle.items c.time_round.new.idle.items
    c.rounds.invariant.idle c.time_round.ensures.idle c.time_round.ensures.own in
    record {
      opened = c.time_round.ensures.kept.opened;
      number = c.time_round.ensures.kept.number ∙ c.rounds.invariant.number;
      idle = stay;
      count = stay_count c.args.store.now c.args.idle.now.items c.time_round.new.idle.items stay;
      room = c.time_round.ensures.room ∙ c.rounds.invariant.room;
    }

pub returns-in_err-time_round-clause-idle : goal.returns-in_err-time_round-clause-idle
returns-in_err-time_round-clause-idle g c =
    stay_twice c.args.store.now c.args.idle.now.items c.rounds.idle.items c.time_round.new.idle.items
    c.rounds.invariant.idle c.time_round.ensures.idle c.time_round.ensures.own
