use Rattle.head_map.proofs.PlaceLemmas.{empty_closed}
use Rattle.head_map.proofs.heads.HeadMap.close.Goals.{in-Some, in_default}
use Rattle.head_map.proofs.heads.HeadMap.close.Goals as goal

pub returns-clause-heads : goal.returns-clause-heads
returns-clause-heads c = elim c.match-self.branch [
  | in-Some w ↦ rw (w.self-inside-is, ← c.self.view_is, w.in-Some.is) (rw w.deref_mut.ensures.value at w.close.ensures.heads)
  | in_default w ↦ rw (w.self-inside-is, ← c.self.view_is, w.in_default.is) (λ p. empty_closed c.args.place p)
]
