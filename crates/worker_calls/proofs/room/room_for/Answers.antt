use Rattle.std.proofs.Common.{refl}
use Rattle.worker_calls.proofs.KeptLemmas.{room_open}
use Rattle.worker_calls.proofs.room.room_for.Goals as goal

pub returns-in-Ok-make_room-clause-opened : goal.returns-in-Ok-make_room-clause-opened
returns-in-Ok-make_room-clause-opened g c =
    let done = c.make_room.ensures in
    room_open c.args.store.now c.args.pass.now _ c.requires.opened
    (record { number = done.kept.same.number; cells = refl; begun = refl; start = refl; own = refl; changed = refl })
    done.idle.of done.idle.none done.kept.pin c.make_room.result done.kept.state
