use Rattle.std.proofs.Common.{◌≡◌, ◌≤◌, length}
use Rattle.row_table.specs.HeadMap.Heads.{heads_placed}
use Rattle.version_segment.specs.RestingParts.{head_word, reweighed_from}
use Rattle.version_segment.proofs.resting.put_words.Given as goal

-- rows from the place on have their words
abbrev pub invariant-words : goal.invariant-words
invariant-words l = (l.end ≤ length l.initial.room.rows) × (l.room ≡ record l.initial.room {
  rows = reweighed_from (λ p weight. head_word (heads_placed l.heads.entries p) weight) l.end l.initial.room.rows;
})

abbrev pub decreases-words : goal.decreases-words
decreases-words l = l.end
