use Rattle.std.proofs.Common.{◌≤◌, length}
use Rattle.pass_cells.specs.Holding.{Holds, KeepsPass}
use Rattle.pass_cells.proofs.own.PassCells.take_guessed.Given as goal

-- a cell a round
abbrev pub invariant-keys : goal.invariant-keys
invariant-keys g l = Holds l.store l.pass l.self.taken.list.items × KeepsPass l.fn.pass l.pass
    × (length l.self.taken.list.items ≤ l._round)
