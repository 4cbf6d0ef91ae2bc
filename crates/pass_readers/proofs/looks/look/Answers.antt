use Rattle.std.proofs.Common.{sym}
use Rattle.pass_steps.proofs.WriterLemmas.{writer_found}
use Rattle.pass_readers.proofs.LookLemmas.{reader_may_look}
use Rattle.pass_readers.proofs.looks.look.Goals as goal

pub pass_place-place-requires : goal.pass_place-place-requires
pass_place-place-requires c = (writer_found c.args.accounts.now.config c.args.seat.now.me.0 c.args.by c.requires.writer).inside

pub load_as-requires-clause-may : goal.load_as-requires-clause-may
load_as-requires-clause-may c heap =
    let z = c.args.accounts.now.config in
    let seat = c.args.seat.now in
    reader_may_look z heap seat.table_id.slots seat.id seat.me c.args.by _ (sym c.pass_place-place.ensures.place)
    c.requires.reads (writer_found z seat.me.0 c.args.by c.requires.writer)
