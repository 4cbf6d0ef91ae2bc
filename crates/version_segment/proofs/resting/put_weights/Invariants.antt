use Rattle.std.proofs.Common.{◌≡◌}
use Rattle.version_segment.specs.Resting.{weight_in_word}
use Rattle.version_segment.specs.RestingParts.{reweighed}
use Rattle.version_segment.proofs.resting.put_weights.Given as goal

abbrev pub invariant-words : goal.invariant-words
invariant-words l = l.room ≡ record l.initial.room { rows = reweighed (λ p word. weight_in_word word) l.place l.initial.room.rows }
