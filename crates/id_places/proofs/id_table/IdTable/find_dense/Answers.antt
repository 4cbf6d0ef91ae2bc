use Rattle.std.proofs.Common.{sym}
use Rattle.id_places.proofs.KnownLemmas.{place_dense}
use Rattle.id_places.proofs.id_table.IdTable.find_dense.Goals as goal

pub returns-then-id-least : goal.returns-then-id-least
returns-then-id-least c =
    let there = place_dense c.self.inside.sorted.items c.self.inside.dense c.args.id c.index-least.result.now c.self.inside.starts c.index-least.ensures c.if-least-id.true c.if-id-least.true in
    rw (sym c.self.view_is) there
