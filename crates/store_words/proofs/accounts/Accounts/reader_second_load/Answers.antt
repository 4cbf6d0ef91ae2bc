use Rattle.std.proofs.Common.{sym}
use Rattle.store_words.specs.Reads.{ReaderIsTold, read_ended}
use Rattle.store_words.proofs.ReadLemmas.{ends_reader}
use Rattle.store_words.proofs.StepLemmas.{at_place}
use Rattle.store_words.proofs.accounts.Accounts.reader_second_load.Goals as goal

pub load_as-requires-clause-may : goal.load_as-requires-clause-may
load_as-requires-clause-may c heap =
    let z = c.args.self.now.config in
    let seat = c.args.seat.now in
    at_place z heap seat.table_id.slots seat.id seat.me _ _ (sym c.block_place-place.ensures.place)
    (λ n. read_ended seat.me.0 n) (λ n. ReaderIsTold z seat.me.0 n)
    (ends_reader z heap seat.table_id.slots seat.id seat.me c.args.cell c.requires.reading c.requires.reader)
