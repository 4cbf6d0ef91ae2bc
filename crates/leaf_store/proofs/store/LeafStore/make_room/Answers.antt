use Rattle.std.proofs.Common.{refl, arith}
use Rattle.std.proofs.lemmas.Result.{on_ok_weaker}
use Rattle.leaf_store.proofs.HalfLemmas.{full_rows, if_err, room_refused, split_makes, spread_makes}
use Rattle.leaf_store.proofs.RoomLemmas.{few_in_window, place_stands, stands_leaf}
use Rattle.leaf_store.proofs.store.LeafStore.make_room.Goals as goal

pub window_at-requires-clause-leaf : goal.window_at-requires-clause-leaf
window_at-requires-clause-leaf c =
    stands_leaf c.self.inside.index c.self.inside.leaves.items c.place_of-place.result.leaf c.self.invariant.kept (place_stands c.self.inside.index c.self.inside.leaves.items c.args.key c.place_of-place.result c.self.invariant.kept c.place_of-place.ensures c.requires.within)

pub spread_queued-requires-clause-can : goal.spread_queued-requires-clause-can
spread_queued-requires-clause-can c =
    let round = c.in-Some.ensures.round in
    record {
      stands = place_stands c.self.inside.index c.self.inside.leaves.items c.args.key c.place_of-place.result c.self.invariant.kept c.place_of-place.ensures c.requires.within;
      within = record { some = omega (arith, round.from, round.until); within = round.within };
      few = few_in_window c.args.need c.place_of-place.result.segment c.in-Some.window _ c.in-Some.ensures.smallest;
    }

pub split_queued-requires-clause-can : goal.split_queued-requires-clause-can
split_queued-requires-clause-can c =
    let leaf = stands_leaf c.self.inside.index c.self.inside.leaves.items c.place_of-place.result.leaf c.self.invariant.kept (place_stands c.self.inside.index c.self.inside.leaves.items c.args.key c.place_of-place.result c.self.invariant.kept c.place_of-place.ensures c.requires.within) in
    record {
      key = c.args.key;
      at = c.place_of-place.ensures;
      below = c.requires.within;
      many = full_rows _ c.args.need c.place_of-place.result.segment leaf.segments c.place_of-place.ensures.last.within c.requires.few c.in-None.ensures.smallest;
    }

pub returns-in-None-clause-refused : goal.returns-in-None-clause-refused
returns-in-None-clause-refused c =
    if_err _ _ c.split_queued.result c.split_queued.ensures.refused (room_refused c.self.inside.index c.split_queued.new.index c.self.inside.leaves.items c.split_queued.new.leaves.items c.args.self.now c.args.key c.place_of-place.result c.args.need
    c.self.view_is c.self.invariant.kept c.place_of-place.ensures c.requires.within c.requires.few c.in-None.ensures.smallest)

pub returns-in_ok-spread_queued-in-Some-clause-ok : goal.returns-in_ok-spread_queued-in-Some-clause-ok
returns-in_ok-spread_queued-in-Some-clause-ok c =
    let two = c.in_ok-spread_queued-in-Some.ensures.ok.room c.args.key c.place_of-place.result refl c.place_of-place.ensures c.requires.within c.in-Some.ensures.round in
    omega (arith, two, c.requires.few)

pub returns-in_ok-spread_queued-in-Some-clause-made : goal.returns-in_ok-spread_queued-in-Some-clause-made
returns-in_ok-spread_queued-in-Some-clause-made c =
    rw (← c.self.view_is)
    (spread_makes c.self.inside.index c.self.inside.leaves.items c.args.key c.place_of-place.result c.args.need c.in-Some.window _ c.self.invariant.kept c.place_of-place.ensures c.requires.within c.in-Some.ensures.smallest c.in_ok-spread_queued-in-Some.ensures.ok.spreads)

pub returns-in-None-clause-made : goal.returns-in-None-clause-made
returns-in-None-clause-made c =
    rw (← c.self.view_is) (on_ok_weaker c.split_queued.result (split_makes c.self.inside.index c.self.inside.leaves.items c.args.key c.place_of-place.result c.args.need _ c.self.invariant.kept c.place_of-place.ensures c.requires.within c.in-None.ensures.smallest) c.split_queued.ensures.halves)
