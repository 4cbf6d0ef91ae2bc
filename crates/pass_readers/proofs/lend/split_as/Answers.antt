use Rattle.std.proofs.Common.{arith, subst, sym}
use Rattle.txn_manager.specs.declared.config.Config.{Config}
use Rattle.pass_readers.specs.Readers.{MaySplit}
use Rattle.pass_readers.proofs.lend.split_as.Goals as goal

pub split_seat-requires : goal.split_seat-requires
split_seat-requires g c =
    let words = c.args.accounts.now.words in
    let seat = c.args.seat.now in (
      c.requires.table,
      omega (arith, words),
      subst (λ (z : Config). MaySplit z seat.me.0 (g.N.Lending.left seat.me.0) (g.N.Lending.right seat.me.0))
          (sym c.args.accounts.now.key) c.requires.may seat.id,
    )
