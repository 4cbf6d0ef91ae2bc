use Rattle.std.proofs.Common.{◌∙◌, arith}
use Rattle.command_words.specs.Words.{taken_names}
use Rattle.command_words.specs.Views.{run_request}
use Rattle.source_run.proofs.InputLemmas.{name_more}
use Rattle.source_run.proofs.input.names_taken.Goals as goal

pub places-preserved : goal.places-preserved
places-preserved c =
    name_more (taken_names (run_request c.args.words.now)) c.places.place _ _ _ (omega (arith, c.taken_len-place-end.ensures)) c.places.invariant
    (c.in_ok-name_of.ensures ∙ c.taken.ensures) c.in_ok-push.ensures.ok
