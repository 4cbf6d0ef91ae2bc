-- the names so far
use Rattle.std.proofs.Common.{◌≡◌, take}
use Rattle.command_words.specs.Words.{taken_names}
use Rattle.command_words.specs.Views.{run_request}
use Rattle.source_run.proofs.input.names_taken.Given as goal

abbrev pub invariant-places : goal.invariant-places
invariant-places l = l.taken ≡ take l.place (taken_names (run_request l.words))
