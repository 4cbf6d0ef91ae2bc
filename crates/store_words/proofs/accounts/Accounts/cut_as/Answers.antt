use Rattle.std.proofs.Common.{arith}
use Rattle.store_words.proofs.StepLemmas.{splits_on_table}
use Rattle.store_words.proofs.accounts.Accounts.cut_as.Goals as goal

pub split_seat-requires : goal.split_seat-requires
split_seat-requires g c =
    let table = c.args.self.now.table.shared in
    let seat = c.args.seat.now in
    let words = c.args.self.now.words in (
      c.requires.table,
      omega (arith, words),
      splits_on_table table.key.config seat.id seat.me.0 _ _ c.requires.cut,
    )
