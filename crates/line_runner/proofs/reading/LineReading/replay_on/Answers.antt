use Rattle.std.proofs.Common.{◌≡◌, ◌∙◌, sym, arith, true}
use Rattle.std.specs.Prelude.{◌/◌, nat_lt}
use Rattle.graph_model.specs.declared.limits.TheConstants.{SCAN_ROWS}
use Rattle.line_runner.proofs.TurnLemmas.{replays_further}
use Rattle.line_runner.proofs.reading.LineReading.replay_on.Goals as goal

pub overflow_add-turns : goal.overflow_add-turns
overflow_add-turns c =
    let few = c.has_turns_left.ensures.few c.if-has_turns_left.true in omega (arith, few)

pub returns-in-Replay-clause-further : goal.returns-in-Replay-clause-further
returns-in-Replay-clause-further c = λ _ g r is.
    let left : nat_lt c.in-Replay.turns (c.in-Replay.kept.rows / SCAN_ROWS) ≡ true = sym c.has_turns_left.ensures.left ∙ c.if-has_turns_left.true in
    rw c.in-Replay.is (replays_further g c.in-Replay.kept c.in-Replay.turns left (c.has_turns_left.ensures.few c.if-has_turns_left.true) r (rw c.in-Replay.is at is))
