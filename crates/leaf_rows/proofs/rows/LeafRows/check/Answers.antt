use Rattle.leaf_rows.proofs.CheckLemmas.{answer_is, shows_held, tells_edges}
use Rattle.leaf_rows.proofs.rows.LeafRows.check.Goals as goal

pub returns : goal.returns
returns c = λ graph shows fits.
    let r = c.args.reader.now in
    let m = c.known.result.manager.now in
    let rows = c.args.self.now in
    let start = c.snapshot.ensures.start in
    let own = c.snapshot.ensures.own in
    let none = c.is_unstamped.ensures in
    let told = tells_edges _ graph c.args.write (λ v answer is told. told graph shows fits) in
    answer_is r m c.snapshot.result rows graph c.known.ensures start own none c.check.new.states.manager.now c.args.write c.check.result c.is_managed.ensures c.requires.is_open c.check.ensures.grows
    (c.check.ensures.answer graph (shows_held r m c.snapshot.result rows graph c.known.ensures start own none shows) told)
