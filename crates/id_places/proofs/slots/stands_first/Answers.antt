use Rattle.id_places.proofs.KnownLemmas.{first_front, first_above}
use Rattle.id_places.proofs.slots.stands_first.Goals as goal

pub returns-then-place-eq0 : goal.returns-then-place-eq0
returns-then-place-eq0 c = first_front c.args.sorted.now c.args.place c.requires.within c.if-place-eq0.true

pub returns : goal.returns
returns c = first_above c.args.sorted.now c.args.place c.requires.within c.requires.rises c.if-place-eq0.false
