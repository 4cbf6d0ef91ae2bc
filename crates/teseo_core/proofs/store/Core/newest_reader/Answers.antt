use Rattle.teseo_core.specs.Keeping.{core_of}
use Rattle.teseo_core.proofs.NewestLemmas.{newest_read}
use Rattle.teseo_core.proofs.store.Core.newest_reader.Goals as goal

pub returns-clause-shows : goal.returns-clause-shows
returns-clause-shows c =
    let f = c.self.inside in
    let core = core_of f.kind f.leaves f.manager f.passes.items f.selected f.served in
    rw (← c.self.view_is) (newest_read core f.manager f.rows c.self.invariant c.outsider.result (rw (← c.self.view_is) at c.outsider.ensures) c.clock.result c.clock.ensures)
