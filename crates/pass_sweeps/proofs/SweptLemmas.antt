-- A cell in hand that is pruned, as it is counted.
use Rattle.std.proofs.Common.{◌≡◌, inl, inr, ℕ, ◌≤◌, List, length, refl, sym, ◌∙◌, ap, subst, Option}
use Rattle.std.specs.Prelude.{Bool, false, true}
use Rattle.graph_model.specs.declared.journal.Commit.{Commit}
use Rattle.graph_model.specs.declared.row.Key.{Key}
use Rattle.graph_model.specs.Transactions.{stamp_in}
use Rattle.epoch_reclaim.specs.declared.sweep.Sweep.{Sweep}
use Rattle.epoch_reclaim.specs.Pinned.{horizon_of}
use Rattle.pass_steps.specs.VersionSegment.Resting.{RestingRows, settled_rest}
use Rattle.pass_steps.specs.CellsModel.Cells.{CellState}
use Rattle.pass_steps.specs.RuleModel.Sight.{IndexState, PinState}
use Rattle.pass_steps.specs.StoreRelation.Passes.{PassState}
use Rattle.pass_steps.specs.StoreRule.Slots.{RestsAs}
use Rattle.pass_steps.specs.StoreRuleDeclared.store.Pass.{Pass}
use Rattle.pass_steps.specs.StoreRuleDeclared.store.Store.{Store}
use Rattle.pass_steps.specs.Passes.{IsSamePass, pin_of, state_of}
use Rattle.pass_sweeps.specs.Freed.{HasFreed}
use Rattle.pass_sweeps.specs.Pruning.{FindsWords, HasCellOnly, IsPruned, IsPrunedInHand, TakesAwayOf, stamps_seen}
use Rattle.pass_sweeps.specs.Stepping.{ChoosesLeaf, FreesAtEnd, SweepsLeaf}
use Rattle.pass_sweeps.specs.Sweeping.{HasIndexOnly, HasSwept, leaves_freed}
use Rattle.pass_sweeps.specs.Swept.{IsWhole, took_of}
use Rattle.pass_sweeps.specs.declared.index.LeavesFreed.{LeavesFreed}
use Rattle.pass_sweeps.specs.declared.leaf.LeafSwept.{LeafSwept}
use Rattle.pass_sweeps.proofs.CellLemmas.{own_self}
use Rattle.pass_sweeps.proofs.HandLemmas.{finds_none, swept_still}
use Rattle.pass_sweeps.proofs.PruneLemmas.{settled_none}

-- the pass has taken the cell, and found nothing
pub taken_finds : (store : Store) (old new : Pass) (k : ℕ) (c : CellState)
    → HasCellOnly store new (state_of old) (pin_of old) k c 0 → IsSamePass old new → FindsWords old new
taken_finds store old new k c only same = finds_none old new same.number only.state only.pin same.reads

-- one without records is as a prune leaves it
pub settled_in_hand : (store : Store) (old new : Pass) (sweep : Sweep) (k : ℕ) (c : CellState) (resting : RestingRows)
    → HasCellOnly store new (state_of old) (pin_of old) k c 0 → IsSamePass old new → HasSwept store old sweep
    → RestsAs c.segment resting → resting.rows ≡ settled_rest (length resting.rows)
    → IsPrunedInHand store new sweep k false true
settled_in_hand store old new sweep k c resting only same swept rests settled =
    let none = settled_none c.segment.rows (length resting.rows) (sym rests ∙ settled) in
    record {
      cell = c;
      only = own_self store new (state_of old) (pin_of old) k c 0 only;
      swept = swept_still store old new sweep swept (taken_finds store old new k c only same);
      pruned = inr (none, refl);
      none = λ _. none;
    }

-- one that was pruned
pub pruned_in_hand : (store : Store) (old new : Pass) (sweep : Sweep) (k : ℕ) (c d : CellState)
    (resting : RestingRows) (went settled : Bool)
    → HasCellOnly store new (state_of new) (pin_of old) k d 0 → HasSwept store old sweep → FindsWords old new
    → RestsAs d.segment resting
    → IsPruned (stamps_seen (state_of old)) (horizon_of sweep) c.segment d.segment went
    → (settled ≡ true → resting.rows ≡ settled_rest (length resting.rows))
    → IsPrunedInHand store new sweep k went settled
pruned_in_hand store old new sweep k c d resting went settled only swept finds rests pruned none = record {
  cell = d;
  only = own_self store new (state_of new) (pin_of old) k d 0 only;
  swept = swept_still store old new sweep swept finds;
  pruned = inl (
    c.segment,
    subst (λ (st : PassState). IsPruned (stamps_seen st) (horizon_of sweep) c.segment d.segment went)
        (sym finds.state) pruned,
  );
  none = λ is. settled_none d.segment.rows (length resting.rows) (sym rests ∙ none is);
}

-- the state of the pass that has the index may be said otherwise
pub freed_in_hand : (store : Store) (pass : Pass) (sweep : Sweep) (st : PassState) (x : PinState)
    (y before : IndexState) → HasIndexOnly store pass st x y → sweep.looked ≡ store.accounts.config.passes
    → y.index ≡ (leaves_freed sweep before).index → HasFreed store pass sweep
freed_in_hand store pass sweep st x y before only whole is = record {
  index = y;
  only = record {
    of = only.of;
    latch = only.latch;
    buffers = only.buffers;
    state = refl;
    pin = refl;
    index = only.index;
    alone = only.alone;
    cells = only.cells;
    journals = only.journals;
  };
  whole = whole;
  before = before;
  is = is;
}

-- a turn: the leaf was chosen, swept, and the sweep has ended
pub turn_is : (store : Store) (old p1 p2 p3 : Pass) (key key' : Key) (leaf : ℕ) (sweep : Sweep)
    (freed : Option LeavesFreed) (swept : LeafSwept) (chosen : ChoosesLeaf key key' leaf)
    → FreesAtEnd chosen sweep freed → IsWhole leaf swept → HasSwept store p1 sweep
    → length (state_of old).seen ≤ sweep.clock → FindsWords p1 p2 → state_of p3 ≡ state_of p2
    → TakesAwayOf (stamps_seen (state_of p1)) (horizon_of sweep) 8 (took_of swept)
    → SweepsLeaf store old p3 key key' (record { swept = swept; freed = freed })
turn_is store old p1 p2 p3 key key' leaf sweep freed swept chosen frees whole has clock finds same took =
    let seen : (state_of p3).seen ≡ (state_of p1).seen = ap (λ (st : PassState). st.seen) (same ∙ finds.state) in
    record {
      leaf = leaf;
      chosen = chosen;
      cells = whole;
      sweep = sweep;
      whole = has.whole;
      clock = clock;
      freed = frees;
      seen = subst (λ (l : List Commit). horizon_of sweep ≤ length l) (sym seen) has.seen;
      took_is = subst (λ (l : List Commit). TakesAwayOf (stamp_in l) (horizon_of sweep) 8 (took_of swept)) (sym seen)
          took;
    }
