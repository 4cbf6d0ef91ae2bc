-- Runs of rows that are read without a latch: the rows of a key range, as far as a cell goes.
use Rattle.std.specs.Prelude.{◌≡◌, ℕ, zero, suc, ◌-◌, true, false, cond, List, [], ◌∷◌, ◌++◌, length}
use Rattle.std.specs.List.{filter}
use Rattle.graph_model.specs.declared.limits.TheConstants.{SCAN_ROWS}
use Rattle.graph_model.specs.declared.row.Key.{Key}
use Rattle.graph_model.specs.declared.row.Row.{Row}
use Rattle.graph_model.specs.declared.write.Write.{Write}
use Rattle.graph_model.specs.declared.journal.Commit.{Commit}
use Rattle.graph_model.specs.declared.journal.TxnName.{TxnName}
use Rattle.graph_model.specs.Graph.{Graph}
use Rattle.graph_model.specs.Rows.{is_below, is_between, rows}
use Rattle.txn_manager.specs.declared.config.Config.{Config}
use Rattle.store_model.specs.Stamped.{StampedVersions}
use Rattle.pass_steps.specs.VersionSegment.Resting.{is_marked, word_row, word_rows}
use Rattle.pass_steps.specs.VersionSegment.Rows.{IsSegment, VersionedRows, range_of}
use Rattle.pass_steps.specs.StoreRelation.Passes.{PassState, name_at}
use Rattle.pass_steps.specs.StoreRelation.Readers.{ReaderState}
use Rattle.pass_steps.specs.CellsModel.Indexed.{covers}
use Rattle.pass_steps.specs.RuleModel.BlockSteps.{GiveView}
use Rattle.pass_steps.specs.RuleModel.Sight.{Sight}
use Rattle.optimistic_read.specs.declared.decode.Head.{Head}
use Rattle.optimistic_read.specs.declared.decode.LoadedRun.{LoadedRun}
use Rattle.optimistic_read.specs.declared.decode.Stop.{Stop}
use Rattle.optimistic_read.specs.declared.decode.Stop.TheVariants.{Ended, Full, Marked}
use Rattle.optimistic_read.specs.declared.tried.TriedRun.{TriedRun}
use Rattle.optimistic_read.specs.declared.tried.TriedRun.TheVariants as found
use Rattle.optimistic_read.specs.Reads.{IsHead}
use Rattle.optimistic_read.specs.Tried.{FindsAgain, IsBusy, is_chained}

-- ---- the rows of a range

-- of two keys the one whose row stands first
abbrev pub lesser : Key → Key → Key
lesser one other = cond (is_below one other) one other

-- the rows from one key on and before another
abbrev pub run_of : Key → Key → List Row → List Row
run_of from until run = filter (λ row. is_between from until row.key) run

-- ---- what was loaded

-- where the loads of a run stop, with room for so many rows: before the first row that is one too many or has a marked
-- word, or behind the last one
abbrev pub stop_in : ℕ → List Row → Stop
stop_in room [] = Ended
stop_in zero (row ∷ rest) = Full row.key
stop_in (suc room) (row ∷ rest) = cond (is_marked row.weight) (Marked row.key) (stop_in room rest)

-- and the rows in front of it
abbrev pub front_in : ℕ → List Row → List Row
front_in room [] = []
front_in zero (row ∷ rest) = []
front_in (suc room) (row ∷ rest) = cond (is_marked row.weight) [] (row ∷ front_in room rest)

-- the rows that are looked at: those of the range, where the fence keys hold its first key
abbrev pub looked_at : Head → Key → Key → VersionedRows → List Row
looked_at h from until s = cond (is_between h.low h.high from) (run_of from until (word_rows s)) []

-- the room that is left in a buffer
abbrev pub room_behind : List Row → ℕ
room_behind before = SCAN_ROWS - length before

-- the head of the block, where the loads have stopped, and the rows in front of it, behind those of the buffer
pub record IsRunLoaded (l : LoadedRun) (from until : Key) (before after : List Row) (s : VersionedRows) : Type 0 where
  pub head_is : IsHead l.head s
  pub stop_is : l.stop ≡ stop_in (room_behind before) (looked_at l.head from until s)
  pub rows_are : after ≡ before ++ front_in (room_behind before) (looked_at l.head from until s)

-- ---- what contents make of a range

-- where a run of so many rows at most stops, by what is chained
abbrev pub stop_of : ℕ → List (Key × StampedVersions) → Stop
stop_of room [] = Ended
stop_of zero (row ∷ rest) = Full row.0
stop_of (suc room) (row ∷ rest) = cond (is_chained row.1) (Marked row.0) (stop_of room rest)

-- and the rows in front of it, each with its value word
abbrev pub front_of : ℕ → List (Key × StampedVersions) → List Row
front_of room [] = []
front_of zero (row ∷ rest) = []
front_of (suc room) (row ∷ rest) = cond (is_chained row.1) [] (word_row row ∷ front_of room rest)

-- the rows are read up to there
abbrev pub read_up_to : Stop → Key → TriedRun
read_up_to Ended end = found.Rows end
read_up_to (Full key) end = found.Rows key
read_up_to (Marked key) end = found.Chained key end

-- the answer that is right for these contents, and the rows that go with it
abbrev pub decoded_run : VersionedRows → Key → Key → ℕ → TriedRun
decoded_run s from until room =
    cond (covers s from) (read_up_to (stop_of room (range_of from until s.rows)) (lesser s.high until))
    (found.Moved s.low s.high)

abbrev pub decoded_rows : VersionedRows → Key → Key → ℕ → List Row
decoded_rows s from until room = cond (covers s from) (front_of room (range_of from until s.rows)) []

-- ---- causes

-- The block of the cell was validated. The rows behind those that stood in the buffer, and the answer, are those of
-- contents that it spelled, in which a transaction sees its view: it began at this start, has made these writes, and its
-- account has seen these commits.
pub record IsRunRead (z : Config) (seen : List Commit) (start : ℕ) (own : List Write) (by : TxnName) (old new : Sight)
    (cell : ℕ) (from until : Key) (before after : List Row) (answer : TriedRun) : Type 0 where
  pub again : FindsAgain cell old.reads.found new.reads.found
  pub contents : VersionedRows
  pub sound : IsSegment contents
  pub gives : GiveView z seen start own by contents
  pub rows_are : after ≡ before ++ decoded_rows contents from until (room_behind before)
  pub answer_is : answer ≡ decoded_run contents from until (room_behind before)

-- each answer, with its cause
abbrev pub IsTriedRunBy : Config → List Commit → ℕ → List Write → TxnName → Sight → Sight → ℕ → Key → Key → List Row
    → List Row → TriedRun → Type 0
IsTriedRunBy z seen start own by old new cell from until before after (found.Rows end) =
    IsRunRead z seen start own by old new cell from until before after (found.Rows end)
IsTriedRunBy z seen start own by old new cell from until before after (found.Busy c first second) =
    IsBusy cell c first second old.reads.found new.reads.found
IsTriedRunBy z seen start own by old new cell from until before after (found.Chained k end) =
    IsRunRead z seen start own by old new cell from until before after (found.Chained k end)
IsTriedRunBy z seen start own by old new cell from until before after (found.Moved low high) =
    IsRunRead z seen start own by old new cell from until before after (found.Moved low high)

-- by the open transaction of a pass
abbrev pub IsTriedRun : Config → ℕ → PassState → Sight → Sight → ℕ → Key → Key → List Row → List Row → TriedRun → Type 0
IsTriedRun z p st = IsTriedRunBy z st.seen st.start st.own (name_at p st)

-- by a seat that reads another one's transaction
abbrev pub IsReaderRun : Config → ReaderState → Sight → Sight → ℕ → Key → Key → List Row → List Row → TriedRun → Type 0
IsReaderRun z x = IsTriedRunBy z x.seen x.start x.own x.by

-- ---- the view

-- a run from one key on and before another may end here: behind the first key, and not behind the last one
pub record EndsRun (end from until : Key) : Type 0 where
  pub ahead : is_below from end ≡ true
  pub inside : is_below until end ≡ false

-- Behind the rows that stood in the buffer are those of the graph from one key on and before the end, which is neither
-- before the first key nor behind the last one.
pub record IsRunUpTo (end : Key) (g : Graph) (from until : Key) (before after : List Row) : Type 0 where
  pub onward : is_below end from ≡ false
  pub inside : is_below until end ≡ false
  pub rows_are : after ≡ before ++ rows g from end

-- a run that was read is one of the graph
abbrev pub IsRun : TriedRun → Graph → Key → Key → List Row → List Row → Type 0
IsRun (found.Rows end) g from until before after = IsRunUpTo end g from until before after
IsRun (found.Busy c first second) g from until before after = Unit {0}
IsRun (found.Chained k end) g from until before after =
    IsRunUpTo k g from until before after × EndsRun end k until
IsRun (found.Moved low high) g from until before after = after ≡ before
