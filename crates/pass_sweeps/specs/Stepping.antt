-- A turn of the sweep.
use Rattle.std.specs.Prelude.{◌≡◌, ℕ, ◌≤◌, true, cond, length, Option, Some, None}
use Rattle.graph_model.specs.declared.row.Key.{Key}
use Rattle.graph_model.specs.Rows.{end_key, first_key, is_below}
use Rattle.leaf_index.specs.Calls.{IsLeafRange}
use Rattle.leaf_index.specs.Index.{Index}
use Rattle.leaf_index.specs.declared.route.LeafRange.{LeafRange}
use Rattle.epoch_reclaim.specs.declared.sweep.Sweep.{Sweep}
use Rattle.epoch_reclaim.specs.Pinned.{horizon_of}
use Rattle.pass_steps.specs.StoreRuleDeclared.store.Pass.{Pass}
use Rattle.pass_steps.specs.StoreRuleDeclared.store.Store.{Store}
use Rattle.pass_steps.specs.Passes.{state_of}
use Rattle.pass_sweeps.specs.Pruning.{TakesAwayOf, stamps_seen}
use Rattle.pass_sweeps.specs.Swept.{IsWhole, took_of}
use Rattle.pass_sweeps.specs.Sweeping.{free_bound}
use Rattle.pass_sweeps.specs.Freed.{until_of}
use Rattle.pass_sweeps.specs.declared.index.LeavesFreed.{LeavesFreed}
use Rattle.pass_sweeps.specs.declared.step.SweepTurn.{SweepTurn}

-- where the next leaf begins: where one ends, or at the first key after the last one
abbrev pub key_after : Key → Key
key_after high = cond (is_below high end_key) high first_key

-- the leaf is the one whose range held the key, under the index that was in hand, and the key is behind it then
pub record ChoosesLeaf (key key' : Key) (leaf : ℕ) : Type 0 where
  pub index : Index
  pub range : LeafRange
  pub holds : IsLeafRange key index.entries range
  pub leaf_is : leaf ≡ range.leaf
  pub next : key' ≡ key_after range.high

-- where that was the last leaf, retired ones were freed by the sweep
abbrev pub FreesAtEnd : {key key' : Key} {leaf : ℕ} → ChoosesLeaf key key' leaf → Sweep → Option LeavesFreed → Type 0
FreesAtEnd chosen sweep None = is_below chosen.range.high end_key ≡ true
FreesAtEnd chosen sweep (Some freed) = until_of freed ≡ free_bound sweep

-- The eight cells of that leaf were pruned at the horizon of a sweep that looked at all pins, by the journal as the
-- pass has seen it now. The sweep's clock is no less than what the pass had seen.
pub record SweepsLeaf (store : Store) (old new : Pass) (key key' : Key) (turn : SweepTurn) : Type 0 where
  pub leaf : ℕ
  pub chosen : ChoosesLeaf key key' leaf
  pub cells : IsWhole leaf turn.swept
  pub sweep : Sweep
  pub whole : sweep.looked ≡ store.accounts.config.passes
  pub clock : length (state_of old).seen ≤ sweep.clock
  pub freed : FreesAtEnd chosen sweep turn.freed
  pub seen : horizon_of sweep ≤ length (state_of new).seen
  pub took_is : TakesAwayOf (stamps_seen (state_of new)) (horizon_of sweep) 8 (took_of turn.swept)
