use Rattle.std.proofs.Common.{ℕ, subst, sym}
use Rattle.store_words.specs.Steps.{MayLoad}
use Rattle.store_rule.proofs.store.Store.change.Goals as goal

pub load_as-requires-clause-may : goal.load_as-requires-clause-may
load_as-requires-clause-may g c =
    let account = c.args.pass.now.account in
    subst (λ (place : ℕ). MayLoad c.args.self.now.accounts.config account place
    (g.C.Change.next c.args.planned.now) (g.C.Change.told c.args.planned.now))
    (sym c.clock_place-place.ensures.place) c.requires.may
