use Rattle.std.proofs.lemmas.List.Elements.{All-set}
use Rattle.id_places.specs.Places.{IsRight}
use Rattle.id_places.proofs.slots.IdSlots.put.Goals as goal

pub returns-in-Some : goal.returns-in-Some
returns-in-Some c = λ ids right slot. All-set (IsRight ids) c.self.inside.slots.items c.in-Some.at c.args.slot slot (rw c.self.view_is right)
