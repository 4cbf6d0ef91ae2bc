use Rattle.std.proofs.Common.{refl}
use Rattle.std.proofs.lemmas.List.Elements.{All-replicate}
use Rattle.id_places.specs.Places.{IsRight}
use Rattle.id_places.proofs.slots.IdSlots.empty.Goals as goal

pub returns : goal.returns
returns c = λ ids. rw (c.in_ok-slots.ensures.items_if_clones_equal (λ y same. same)) (All-replicate (IsRight ids) _ _ (λ filled. absurd (filled refl)))
