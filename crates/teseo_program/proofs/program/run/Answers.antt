use Rattle.command_words.specs.Views.{run_request}
use Rattle.teseo_program.proofs.program.run.Goals as goal
use Rattle.teseo_program.proofs.OutcomeLemmas.{written_ends, unprepared_ends}

pub returns-in-Ok : goal.returns-in-Ok
returns-in-Ok g c = written_ends (run_request c.args.words.now) _ c.in-Ok.prepared c.in-Ok.ensures.prepared _ _ _ _ _ c.in-Ok.ensures.ok c.write_and_say-outcome.ensures c.hand_out.ensures

pub returns-in-Err : goal.returns-in-Err
returns-in-Err g c = unprepared_ends (run_request c.args.words.now) _ _ _ _ _ _ c.in-Err.ensures.refused c.blamed_source.ensures c.say_outcome.ensures
