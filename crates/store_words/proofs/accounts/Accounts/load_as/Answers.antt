use Rattle.std.proofs.Common.{◌≡◌, ◌∙◌, ◌<◌, ap, sym, subst}
use Rattle.atomic_table.specs.Seated.{TableId}
use Rattle.store_words.proofs.StepLemmas.{on_table}
use Rattle.store_words.proofs.accounts.Accounts.load_as.Goals as goal

pub load-requires : goal.load-requires
load-requires g c =
    let table = c.args.self.now.table.shared in
    let seat = c.args.seat.now in
    let slots : seat.table_id.slots ≡ table.table_id.slots = ap (λ (t : TableId). t.slots) c.requires.table in (
      c.requires.table,
      subst (λ n. c.args.place < n) (sym c.args.self.now.words) c.requires.inside,
      on_table table.key.config c.args.self.now.config c.args.self.now.key table.table_id.slots seat.id seat.me
          c.args.place (λ n. n)
          (λ n m. (m ≡ (g.C.Turn.next n seat.me.0, seat.me.1)) × g.C.Turn.told n seat.me.0)
          (λ heap s r homes. c.requires.may heap s r (homes ∙ sym slots)),
    )
