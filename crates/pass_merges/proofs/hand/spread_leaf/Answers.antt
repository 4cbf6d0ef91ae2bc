use Rattle.pass_moves.specs.LeafArray.Segments.{counts_of}
use Rattle.pass_moves.proofs.LeafStore.SparseLemmas.{sparse_wide}
use Rattle.pass_moves.specs.Moving.{values_of}
use Rattle.pass_merges.proofs.TurnLemmas.{few_rows}
use Rattle.pass_merges.proofs.hand.spread_leaf.Goals as goal

pub spread_window-requires-clause-window : goal.spread_window-requires-clause-window
spread_window-requires-clause-window c =
    sparse_wide (counts_of (values_of c.args.cells.now)) c.args.window c.requires.window.sparse

pub spread_window-requires-clause-few : goal.spread_window-requires-clause-few
spread_window-requires-clause-few c =
    few_rows c.args.store.now c.args.pass.now c.args.leaf c.args.cells.now c.args.index.now c.args.window
    c.requires.holds c.requires.window

pub of-spread-requires-clause-spread : goal.of-spread-requires-clause-spread
of-spread-requires-clause-spread c = record {
  old = values_of c.args.cells.now;
  leftmost = c.requires.window;
  spreads = c.in_ok-spread_window.ensures.spread;
}

pub of-spread-requires-clause-holds : goal.of-spread-requires-clause-holds
of-spread-requires-clause-holds c = c.in_ok-spread_window.ensures.holds c.args.leaf c.requires.holds

pub returns-clause-holds : goal.returns-clause-holds
returns-clause-holds c = c.in_ok-spread_window.ensures.holds c.args.leaf c.requires.holds

pub returns-in_err-spread_window-clause-holds : goal.returns-in_err-spread_window-clause-holds
returns-in_err-spread_window-clause-holds c = c.in_err-spread_window.ensures.holds c.args.leaf c.requires.holds
