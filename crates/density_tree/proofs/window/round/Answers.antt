use Rattle.std.proofs.Common.{ℕ, zero, suc, ◌≡◌, ◌+◌, ◌*◌, ◌/◌, ◌%◌, ◌^◌, ◌<◌, ◌≤◌, arith}
use Rattle.density_tree.specs.Windows.{IsRound}
use Rattle.density_tree.proofs.window.round.Goals as goal

-- a segment lies in its window, and a window of at most eight segments ends by the eighth
around : (seg height : ℕ) → seg < 8 → height < 4 → let len = 1 * 2 ^ height % 18446744073709551616 in IsRound seg (record { first = seg / len * len; len = len })
around seg zero low few = record { from = omega arith; until = omega arith; within = omega arith }
around seg (suc zero) low few = record { from = omega arith; until = omega arith; within = omega arith }
around seg (suc (suc zero)) low few = record { from = omega arith; until = omega arith; within = omega arith }
around seg (suc (suc (suc zero))) low few = record { from = omega arith; until = omega arith; within = omega arith }
around seg (suc (suc (suc (suc height)))) low few = absurd (omega arith)

pub returns-clause-round : goal.returns-clause-round
returns-clause-round c = around c.args.seg c.args.height c.requires.seg c.requires.height
