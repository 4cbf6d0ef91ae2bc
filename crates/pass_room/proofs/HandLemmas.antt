-- A pass that takes leaves in hand, moves rows there, and puts them back.
use Rattle.std.proofs.Common.{◌≡◌, ℕ, List, [], ◌++◌, length, take, drop, sym, ◌∙◌, ap}
use Rattle.std.specs.Prelude.{Result}
use Rattle.std.proofs.lemmas.List.{length-map}
use Rattle.std.specs.declared.alloc.Global.{Global}
use Rattle.std.specs.declared.boxed.Box.{Box}
use Rattle.latch_table.specs.declared.cells.Held.{Held}
use Rattle.leaf_index.specs.declared.index.LeafIndex.{LeafIndex}
use Rattle.pass_writes.specs.StoreRelation.Passes.{PassState}
use Rattle.pass_writes.specs.StoreRuleDeclared.store.Pass.{Pass}
use Rattle.pass_writes.specs.StoreRuleDeclared.store.Store.{Store}
use Rattle.pass_writes.specs.PassCellsDeclared.taken.TakenCell.{TakenCell}
use Rattle.pass_writes.specs.PassCells.Holding as cells
use Rattle.pass_writes.specs.PassCells.Holding.{KeepsPass}
use Rattle.pass_splits.specs.PassLeaves.Hand.{HoldsLeaves}
use Rattle.pass_splits.proofs.PassMoves.KeyLemmas.{take_front}
use Rattle.pass_splits.specs.Splitting.{KeepsIndex}
use Rattle.pass_splits.proofs.SplitLemmas.{holds_index}
use Rattle.pass_writes.specs.PassSteps.Passes.{HoldsNone, IsPassOf, state_of}
use Rattle.pass_writes.specs.Hand.{HasNothing, KeepsState}
use Rattle.pass_writes.proofs.HandLemmas.{pass_kept}
use Rattle.pass_room.specs.declared.made.NoRoom.{NoRoom}
use Rattle.pass_room.specs.Making.{HasLeavesInHand, KeepsPassAs, state_after}

-- nothing in hand, in the words of cells
pub no_cells : (store : Store) (pass : Pass) → IsPassOf store pass → HoldsNone pass → cells.HoldsNone store pass
no_cells store pass of none = record {
  latch = of.latch;
  out = none.latches;
  table = of.table;
  cells = none.contents.cells;
  buffers = none.buffers;
  indexes = none.contents.indexes;
}

module _ (store : Store) (old new : Pass) (kept : KeepsPass old new) where
  -- TAKEN
  pub takes : (leaves : List ℕ) (ts : List TakenCell) (index : Held (Box LeafIndex Global)) → IsPassOf store old
      → HoldsNone old → HoldsLeaves store new leaves ts index → HasLeavesInHand store new leaves ts index
  takes leaves ts index of none holds = record {
    of = pass_kept store old new kept of holds.latch holds.table;
    holds = holds;
    journals = kept.journals ∙ none.contents.journals;
  }

  -- none was taken
  pub takes_none : (ts us : List TakenCell) → HasNothing store old ts → cells.HoldsNone store new → us ≡ []
      → HasNothing store new us
  takes_none ts us was none us_none = record {
    of = pass_kept store old new kept was.of none.latch none.table;
    none = record {
      latches = none.out;
      buffers = none.buffers;
      contents = record {
        cells = none.cells;
        indexes = none.indexes;
        journals = kept.journals ∙ was.none.contents.journals;
      };
    };
    cells = us_none;
  }

  -- MOVED
  pub goes_on : (leaves : List ℕ) (ts us : List TakenCell) (before behind : Held (Box LeafIndex Global))
      → HasLeavesInHand store old leaves ts before → HoldsLeaves store new leaves us behind
      → HasLeavesInHand store new leaves us behind
  goes_on leaves ts us before behind hand holds = record {
    of = pass_kept store old new kept hand.of holds.latch holds.table;
    holds = holds;
    journals = kept.journals ∙ hand.journals;
  }

  -- PUT BACK
  pub puts_back : (leaves : List ℕ) (ts us : List TakenCell) (index : Held (Box LeafIndex Global))
      → HasLeavesInHand store old leaves ts index → cells.HoldsNone store new → us ≡ [] → HasNothing store new us
  puts_back leaves ts us index hand none us_none = record {
    of = pass_kept store old new kept hand.of none.latch none.table;
    none = record {
      latches = none.out;
      buffers = none.buffers;
      contents = record {
        cells = none.cells;
        indexes = none.indexes;
        journals = kept.journals ∙ hand.journals;
      };
    };
    cells = us_none;
  }

-- the index in hand may be another value of the same contents
pub same_hand : (store : Store) (pass : Pass) (leaves : List ℕ) (ts : List TakenCell)
    (before behind : Held (Box LeafIndex Global)) → HasLeavesInHand store pass leaves ts before
    → KeepsIndex before behind → HasLeavesInHand store pass leaves ts behind
same_hand store pass leaves ts before behind hand keeps = record {
  of = hand.of;
  holds = holds_index store pass leaves ts before behind hand.holds keeps;
  journals = hand.journals;
}

-- ---- what a pass knows of itself

pub keeps_as : (old new : Pass) → KeepsState old new → KeepsPassAs old new (state_of old)
keeps_as old new kept = record { same = kept.same; state = kept.state; pin = kept.pin }

pub as_then : (a b c : Pass) (st : PassState) → KeepsPassAs a b st → KeepsState b c → KeepsPassAs a c st
as_then a b c st first then = record {
  same = record {
    number = then.same.number ∙ first.same.number;
    reads = then.same.reads ∙ first.same.reads;
  };
  state = then.state ∙ first.state;
  pin = then.pin ∙ first.pin;
}

pub first_then : {X : Type 0} (r : Result X NoRoom) (a b c : Pass) → KeepsState a b
    → KeepsPassAs b c (state_after r (state_of b)) → KeepsPassAs a c (state_after r (state_of a))
first_then r a b c first then = record {
  same = record {
    number = then.same.number ∙ first.same.number;
    reads = then.same.reads ∙ first.same.reads;
  };
  state = then.state ∙ ap (λ (st : PassState). state_after r st) first.state;
  pin = then.pin ∙ first.pin;
}

pub states_then : (a b c : Pass) → KeepsState a b → KeepsState b c → KeepsState a c
states_then a b c first then = record {
  same = record {
    number = then.same.number ∙ first.same.number;
    reads = then.same.reads ∙ first.same.reads;
  };
  state = then.state ∙ first.state;
  pin = then.pin ∙ first.pin;
}

-- ---- a list of cells that was lent

-- the same leaves have as many cells
pub as_many : (store : Store) (old new : Pass) (leaves : List ℕ) (ts us : List TakenCell)
    (before behind : Held (Box LeafIndex Global)) → HoldsLeaves store old leaves ts before
    → HoldsLeaves store new leaves us behind → length us ≡ length ts
as_many store old new leaves ts us before behind was is =
    sym (length-map us (λ t. t.held.cell)) ∙ ap length (is.numbers ∙ sym was.numbers)
    ∙ length-map ts (λ t. t.held.cell)

-- so all of the list is what it was lent as
pub all_given : (items us : List TakenCell) (len : ℕ) → len ≡ length items → length us ≡ length items
    → take len (us ++ drop (length us) items) ≡ us
all_given items us len whole count = take_front us (drop (length us) items) len (whole ∙ sym count)
