use Rattle.std.proofs.Common.{◌≡◌, ◌∙◌, ◌<◌, List, ap, sym, subst}
use Rattle.atomic_table.specs.Seated.{TableId}
use Rattle.graph_model.specs.declared.journal.Commit.{Commit}
use Rattle.pass_steps.proofs.StoreWords.StepLemmas.{on_table}
use Rattle.pass_sweeps.proofs.seen.see_as.Goals as goal

pub load-requires : goal.load-requires
load-requires g c =
    let accounts = c.args.store.now.accounts in
    let table = accounts.table.shared in
    let seat = c.args.pass.now.account in
    let place = c.clock_place-place.result in
    let at = c.clock_place-place.ensures.place in
    let slots : seat.table_id.slots ≡ table.table_id.slots = ap (λ (t : TableId). t.slots) c.requires.table in (
      c.requires.table,
      subst (λ n. place < n) (sym accounts.words) c.clock_place-place.ensures.inside,
      rw at (on_table table.key.config accounts.config accounts.key table.table_id.slots seat.id seat.me
          8 (λ n. n)
          (λ n m. (commits : List Commit) × (m ≡ (g.C.Publishing.next commits seat.me.0, seat.me.1))
          × g.C.Publishing.told n commits seat.me.0)
          (λ heap s r homes. c.requires.may heap s r (homes ∙ sym slots))),
    )
