use Rattle.head_map.specs.Heads.{place_key, placed_key}
use Rattle.head_map.proofs.KeyedLemmas.{IsHalved}
use Rattle.head_map.proofs.list.index_in.Given as goal

abbrev pub invariant-halves : goal.invariant-halves
invariant-halves l = IsHalved placed_key l.rows (place_key l.place) l.index l.count

abbrev pub decreases-halves : goal.decreases-halves
decreases-halves l = l.count
