use Rattle.head_map.proofs.PlaceLemmas.{empty_opened}
use Rattle.head_map.proofs.heads.HeadMap.open.Goals.{in-Some, in_default}
use Rattle.head_map.proofs.heads.HeadMap.open.Goals as goal

pub returns-clause-heads : goal.returns-clause-heads
returns-clause-heads c = elim c.match-self.branch [
  | in-Some w ↦ rw (w.self-inside-is, ← c.self.view_is, w.in-Some.is) (rw w.deref_mut.ensures.value at w.open.ensures.heads)
  | in_default w ↦ rw (w.self-inside-is, ← c.self.view_is, w.in_default.is) (λ p. empty_opened c.args.place p)
]
