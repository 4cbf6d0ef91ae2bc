-- Scans of a reader, and parts of what it sees, run after run.
use Rattle.std.proofs.Common.{◌≡◌, inl, ℕ, ◌<◌, List, [], ◌∷◌, ◌++◌, length, refl, sym, ◌∙◌, ap, subst, cond, arith}
use Rattle.std.specs.Prelude.{Bool, true, false, None}
use Rattle.graph_model.specs.declared.row.Cursor.{Cursor}
use Rattle.graph_model.specs.declared.row.Key.{Key}
use Rattle.graph_model.specs.declared.row.Row.{Row}
use Rattle.graph_model.specs.Graph.{Graph}
use Rattle.graph_model.specs.Rows.{end_key, is_below, is_between, rows, value_at}
use Rattle.graph_model.proofs.KeyLemmas.{below_flip, below_self, between_parts, tied_keys, upto_chain}
use Rattle.graph_model.proofs.RowLemmas.{ranges_adjoin, rows_of_values}
use Rattle.edge_scan.specs.Steps.{IsUnderWay, end_of}
use Rattle.optimistic_read.specs.StoreRuleDeclared.store.Store.{Store}
use Rattle.pass_readers.specs.Runs.{IsRunTo}
use Rattle.shared_readers.specs.declared.reader.SnapshotReader.{SnapshotReader}
use Rattle.shared_readers.specs.Readers.{EndsWithKeys, KeepsReading, seen_in}
use Rattle.shared_readers.proofs.ReadLemmas.{keeps_twice, same_seen}

-- ---- the end of keys

-- no row is left from there on
pub none_left_beyond : (g : Graph) → EndsWithKeys g → (from until : Key) → is_below from end_key ≡ false → rows g from until ≡ []
none_left_beyond g ends from until beyond =
    sym (rows_of_values g from until [] refl (λ q. value q (is_between from until q) refl))
  where
    value : (q : Key) (t : Bool) → is_between from until q ≡ t → None ≡ cond t (value_at g q) None
    value q true e = sym (ends q (upto_chain end_key from q beyond (between_parts from until q e).0))
    value q false e = refl

-- nor in a range without keys
pub none_left_behind : (g : Graph) (from until : Key) → is_below from until ≡ false → rows g from until ≡ []
none_left_behind g from until behind =
    sym (rows_of_values g from until [] refl (λ q. value q (is_between from until q) refl))
  where
    clash : (q : Key) → is_between from until q ≡ true → ⊥
    clash q e =
        let parts = between_parts from until q e in
        let off : is_below q until ≡ false = upto_chain until from q behind parts.0 in
        let same : true ≡ false = sym parts.1 ∙ off in cc

    value : (q : Key) (t : Bool) → is_between from until q ≡ t → None ≡ cond t (value_at g q) None
    value q true e = absurd (clash q e)
    value q false e = refl

-- where nothing is left the scan is done
pub scan_is_done : (g : Graph) (first now : Cursor) (given : List Row) → rows g now.next now.until ≡ []
    → length given < 64 → IsUnderWay g first now given → IsUnderWay g first (record now { done = true }) given
scan_is_done g first now given none few under_way = record {
  until = under_way.until;
  kept = under_way.kept;
  ended = λ _. (none, few);
}

-- an end that isn't behind the last key is where a step of the scan ends
pub step_end : (end : Key) (cursor : Cursor) → is_below cursor.until end ≡ false → end_of end cursor ≡ end
step_end end cursor inside = go (is_below end cursor.until) refl
  where
    go : (t : Bool) → is_below end cursor.until ≡ t → cond t end cursor.until ≡ end
    go true e = refl
    go false e = tied_keys cursor.until end inside e

-- ---- a scan

-- how far it is
pub record IsScanning (store : Store) (old now : SnapshotReader) (first cursor : Cursor) (given : List Row) : Type 0 where
  pub kept : KeepsReading store old now
  pub going : cursor.done ≡ false
  pub few : length given < 64
  pub under_way : IsUnderWay (seen_in store old) first cursor given

pub scan_starts : (store : Store) (reader : SnapshotReader) (first : Cursor) (given : List Row)
    → KeepsReading store reader reader → first.done ≡ false → given ≡ []
    → IsScanning store reader reader first first given
scan_starts store reader first given kept going none =
    subst (IsScanning store reader reader first first) (sym none) (record {
      kept = kept;
      going = going;
      few = omega arith;
      under_way = record {
        until = refl;
        kept = refl;
        ended = λ done. let off : true ≡ false = sym done ∙ going in cc;
      };
    })

module _ (store : Store) (old mid new : SnapshotReader) (first cursor next : Cursor) (given more run : List Row) (end : Key)
    (scanning : IsScanning store old mid first cursor given)
    (read : IsRunTo end (seen_in store mid) cursor.next cursor.until run)
    (step : (g : Graph) (start : Cursor) → run ≡ rows g cursor.next end → IsUnderWay g start cursor given
    → IsUnderWay g start next more) where
  pub under_way_on : IsUnderWay (seen_in store old) first next more
  under_way_on =
      step (seen_in store old) first
      (read.run_is ∙ ap (λ g. rows g cursor.next end) (same_seen store old mid scanning.kept)) scanning.under_way

  pub scanning_on : KeepsReading store mid new → (next.done ≡ false) × (length more < 64)
      → IsScanning store old new first next more
  scanning_on kept onward = record {
    kept = keeps_twice store old mid new scanning.kept kept;
    going = onward.0;
    few = onward.1;
    under_way = under_way_on;
  }

-- ---- a part

on_top : (xs ys zs : List Row) → (xs ++ ys) ++ zs ≡ xs ++ (ys ++ zs)
on_top [] ys zs = refl
on_top (x ∷ xs) ys zs = ap (λ ws. x ∷ ws) (on_top xs ys zs)

with_none : (ws : List Row) → ws ++ [] ≡ ws
with_none [] = refl
with_none (w ∷ ws) = ap (λ rs. w ∷ rs) (with_none ws)

-- the rows before this key are in the list
pub record IsReadTo (store : Store) (old now : SnapshotReader) (from until next : Key) (before after : List Row) : Type 0 where
  pub kept : KeepsReading store old now
  pub onward : is_below next from ≡ false
  pub inside : is_below until next ≡ false
  pub rows_are : after ≡ before ++ rows (seen_in store old) from next

pub part_starts : (store : Store) (reader : SnapshotReader) (from until : Key) (before : List Row)
    → KeepsReading store reader reader → is_below until from ≡ false
    → IsReadTo store reader reader from until from before before
part_starts store reader from until before kept ordered = record {
  kept = kept;
  onward = below_self from;
  inside = ordered;
  rows_are = sym (with_none before)
      ∙ ap (λ ws. before ++ ws) (sym (none_left_behind (seen_in store reader) from from (below_self from)));
}

pub part_goes_on : (store : Store) (old mid new : SnapshotReader) (from until next end : Key) (before now after run : List Row)
    → IsReadTo store old mid from until next before now → KeepsReading store mid new
    → IsRunTo end (seen_in store mid) next until run → after ≡ now ++ run
    → IsReadTo store old new from until end before after
part_goes_on store old mid new from until next end before now after run at kept read is = record {
  kept = keeps_twice store old mid new at.kept kept;
  onward = upto_chain from next end at.onward (below_flip next end read.ahead);
  inside = read.inside;
  rows_are = is ∙ (λ i. at.rows_are i ++ read.run_is i)
      ∙ ap (λ g. (before ++ rows (seen_in store old) from next) ++ rows g next end) (same_seen store old mid at.kept)
      ∙ on_top before (rows (seen_in store old) from next) (rows (seen_in store old) next end)
      ∙ ap (λ ws. before ++ ws)
      (ranges_adjoin (seen_in store old) from next end at.onward (below_flip next end read.ahead));
}

pub part_ends : (store : Store) (old now : SnapshotReader) (from until next : Key) (before after : List Row)
    → IsReadTo store old now from until next before after → is_below next until ≡ false
    → after ≡ before ++ rows (seen_in store old) from until
part_ends store old now from until next before after at over =
    at.rows_are
    ∙ ap (λ k. before ++ rows (seen_in store old) from k) (tied_keys next until over at.inside)
