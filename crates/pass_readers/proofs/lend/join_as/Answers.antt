use Rattle.std.proofs.Common.{arith, subst, sym}
use Rattle.txn_manager.specs.declared.config.Config.{Config}
use Rattle.pass_readers.specs.Readers.{MayJoin}
use Rattle.pass_readers.proofs.lend.join_as.Goals as goal

pub join_seat-requires : goal.join_seat-requires
join_seat-requires g c =
    let words = c.args.accounts.now.words in
    let seat = c.args.seat.now in (
      c.requires.table,
      c.requires.other.0,
      c.requires.other.1,
      omega (arith, words),
      subst (λ (z : Config). MayJoin z seat.me.0 c.args.reader.me.0 (g.N.Lending.left seat.me.0))
          (sym c.args.accounts.now.key) c.requires.may seat.id c.args.reader.id,
    )
