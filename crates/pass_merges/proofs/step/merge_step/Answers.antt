use Rattle.pass_merges.proofs.TurnLemmas.{no_cells, none_after, pass_after}
use Rattle.pass_merges.proofs.step.merge_step.Goals as goal

pub take_turn-requires : goal.take_turn-requires
take_turn-requires g c =
    record { none = (no_cells c.args.store.now c.args.pass.now c.requires.pass c.requires.none, c.requires.cells) }

pub returns-clause-pass : goal.returns-clause-pass
returns-clause-pass g c =
    pass_after c.args.store.now c.args.pass.now c.take_turn.new.pass c.requires.pass c.take_turn.ensures.kept
    c.take_turn.ensures.none.0

pub returns-clause-none : goal.returns-clause-none
returns-clause-none g c =
    none_after c.args.store.now c.args.pass.now c.take_turn.new.pass c.requires.none c.take_turn.ensures.kept
    c.take_turn.ensures.none.0
