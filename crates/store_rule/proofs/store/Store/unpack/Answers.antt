use Rattle.std.proofs.Common.{refl}
use Rattle.store_rule.proofs.store.Store.unpack.Goals as goal

pub returns-clause-unpacked : goal.returns-clause-unpacked
returns-clause-unpacked c d has =
    record { number = refl; latch = refl; buffers = c.wake-value.ensures.lent; account = c.wake-value.ensures.unpacked d has }
