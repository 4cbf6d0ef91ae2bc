use Rattle.std.proofs.Common.{arith}
use Rattle.store_words.proofs.StepLemmas.{joins_on_table}
use Rattle.store_words.proofs.accounts.Accounts.join.Goals as goal

pub join_seat-requires : goal.join_seat-requires
join_seat-requires c =
    let table = c.args.self.now.table.shared in
    let seat = c.args.seat.now in
    let other = c.args.other in
    let words = c.args.self.now.words in (
      c.requires.table,
      c.requires.other.0,
      c.requires.other.1,
      omega (arith, words),
      joins_on_table table.key.config seat.id seat.me.0 other.id other.me.0 c.requires.readers,
    )
