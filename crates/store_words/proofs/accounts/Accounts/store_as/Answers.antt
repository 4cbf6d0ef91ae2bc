use Rattle.std.proofs.Common.{◌≡◌, ◌∙◌, ◌<◌, ap, sym, subst}
use Rattle.atomic_table.specs.Seated.{TableId}
use Rattle.store_words.proofs.StepLemmas.{on_table}
use Rattle.store_words.proofs.accounts.Accounts.store_as.Goals as goal

pub store-requires : goal.store-requires
store-requires g c =
    let table = c.args.self.now.table.shared in
    let seat = c.args.seat.now in
    let slots : seat.table_id.slots ≡ table.table_id.slots = ap (λ (t : TableId). t.slots) c.requires.table in (
      c.requires.table,
      subst (λ n. c.args.place < n) (sym c.args.self.now.words) c.requires.inside,
      on_table table.key.config c.args.self.now.config c.args.self.now.key table.table_id.slots seat.id seat.me
          c.args.place (λ _. c.args.word)
          (λ _ m. (m ≡ (g.C.Turn.next c.args.word seat.me.0, seat.me.1))
          × g.C.Turn.told c.args.word seat.me.0)
          (λ heap s r homes. c.requires.may heap s r (homes ∙ sym slots)),
    )
