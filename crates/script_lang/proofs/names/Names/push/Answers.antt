use Rattle.script_lang.specs.Places.{place_in}
use Rattle.script_lang.proofs.PlaceLemmas.{push_place}
use Rattle.script_lang.proofs.names.Names.push.Goals as goal

pub invariant_of-self-2 : goal.invariant_of-self-2
invariant_of-self-2 c =
    rw (c.push_within.ensures.put, c.in_ok-reserve.ensures.kept)
    (push_place (place_in c.self.inside.places) (place_in c.add_place.new.places) c.self.inside.names.items c.args.name c.self.invariant
    (λ q. rw (c.as_slice.ensures, c.len-place.ensures.len, c.in_ok-reserve.ensures.kept) at c.in_ok-add_place.ensures.ok q))
