-- A cell in hand that is unpacked, pruned and packed again.
use Rattle.std.proofs.Common.{◌≡◌, ℕ, zero, suc, ◌+◌, ◌<◌, ◌≤◌, List, [], ◌∷◌, length, refl, sym, ◌∙◌, ap, subst, arith, Some, None}
use Rattle.std.specs.Prelude.{Bool, true, false, ◌==◌, cond, slice_get, unwrap_or, Option}
use Rattle.std.specs.List.{AllByRecursion}
use Rattle.std.specs.FinMap.Entries.{find}
use Rattle.graph_model.specs.declared.journal.TxnName.{TxnName}
use Rattle.graph_model.specs.declared.row.Key.{Key}
use Rattle.graph_model.specs.Rows.{is_between, key_cmp}
use Rattle.txn_manager.specs.declared.config.Config.{Config}
use Rattle.store_model.specs.Stamped.{StampedVersions, prune_stamped}
use Rattle.seat_views.specs.Keeping.{kept_at}
use Rattle.seat_views.proofs.NumberLemmas.{eq_of, some_is}
use Rattle.epoch_reclaim.specs.declared.sweep.Sweep.{Sweep}
use Rattle.epoch_reclaim.specs.Pinned.{horizon_of}
use Rattle.pass_steps.specs.VersionSegment.Resting.{RestingRows}
use Rattle.pass_steps.specs.VersionSegment.Rows.{VersionedRows, IsSameSegment, IsSegment, PrunesRows, all_records, or_nothing, pruned_rows, versions_at}
use Rattle.pass_steps.specs.VersionSegment.Checks.{AreNamedRows, IsNamed}
use Rattle.pass_steps.specs.VersionSegment.Keyed.{entries_by}
use Rattle.pass_steps.proofs.VersionSegment.KeyedLemmas.{find_there}
use Rattle.pass_steps.proofs.VersionSegment.LawLemmas.{keys_pruned}
use Rattle.pass_steps.specs.StoreRelation.Passes.{PassState}
use Rattle.pass_steps.specs.CellsModel.Cells.{CellState, unpacked}
use Rattle.pass_steps.specs.CellsModel.Words.{HasSmallWeights}
use Rattle.pass_steps.specs.RuleModel.EndSteps.{new_state}
use Rattle.pass_steps.specs.RuleModel.Sight.{HasCell, HasPass, HasPin, PinState, Sight, cells_of, with_cell, with_cells}
use Rattle.pass_steps.specs.StoreWords.Spelling.{IsUntouched}
use Rattle.pass_steps.specs.StoreRule.Packing.{IsPackedCell, LendsBuffer}
use Rattle.pass_steps.specs.StoreRule.Passes.{OnlyAccount}
use Rattle.pass_steps.specs.StoreRuleDeclared.store.Pass.{Pass}
use Rattle.pass_steps.specs.StoreRuleDeclared.store.Store.{Store}
use Rattle.pass_steps.specs.Asking.{KnowsLooks, is_writer}
use Rattle.pass_steps.specs.Passes.{IsPassOf, pin_of, state_of}
use Rattle.pass_steps.proofs.PassLemmas.{pass_has_looked}
use Rattle.pass_steps.proofs.SightLemmas.{kept_else, kept_here}
use Rattle.pass_steps.proofs.WriterLemmas.{writers_named}
use Rattle.pass_sweeps.specs.Pruning.{FindsWords, HasCellOnly, IsPruned, IsUnpackedAs, cell_in, is_prunable, news_of, stamps_seen}
use Rattle.pass_sweeps.specs.SweepLaws.{CanPruneSeen, TellsWriters}
use Rattle.pass_sweeps.proofs.HandLemmas.{KeepsSelf, account_keeps, cell_stays, finds_none, self_of, self_pin, self_state}
use Rattle.pass_sweeps.proofs.PruneLemmas.{covered_key, pruned_small, rows_fewer}

-- ---- segments that are the same but for room

pub same_sound : (s t : VersionedRows) → IsSameSegment s t → IsSegment s → IsSegment t
same_sound s t same sound =
    let moved : IsSegment (record s { low = t.low; high = t.high; rows = t.rows }) =
    subst (λ (x : Key × Key × List (Key × StampedVersions)). IsSegment
    (record s { low = x.0; high = x.1; rows = x.2 }))
    (λ i. (sym same.low i, sym same.high i, sym same.rows i)) sound in
    record {
      fences = moved.fences;
      rising = moved.rising;
      within = moved.within;
      something = moved.something;
      small = moved.small;
    }

-- ---- unpacked

-- an untouched cell that is unpacked, as it is in hand
pub unpacked_as : (c : CellState) (s : VersionedRows) → IsSameSegment c.segment s → IsUntouched (unpacked c)
    → IsUnpackedAs (unpacked c) s false
unpacked_as c s same free = record {
  unpacked = refl;
  wide = free.spells.wide;
  same = same;
  sound = same_sound c.segment s same free.spells.sound;
  small = subst (λ l. HasSmallWeights (record c.segment { rows = l })) (sym same.rows) free.spells.small;
  untouched = λ _. free;
}

pub unpack_keeps : (old new : Pass) (k : ℕ) (c : CellState)
    → LendsBuffer old new (with_cell old.account.me.0 k c) → KeepsSelf old new
unpack_keeps old new k c lends = record {
  seats = record {
    number = lends.number;
    latch = lends.latch;
    table = lends.account.table;
    slots = λ i. (lends.account.me i).1;
  };
  passes = λ i. (lends.account.me i).0.passes;
  pins = λ i. (lends.account.me i).0.pins;
  told = λ i. (lends.account.me i).0.told;
  readers = λ i. (lends.account.me i).0.readers;
  reads = λ i. (lends.account.me i).0.reads;
}

pub pack_keeps : (old new : Pass) (k : ℕ) (c : CellState) (resting : RestingRows) → IsPackedCell k c old new resting
    → KeepsSelf old new
pack_keeps old new k c resting p = record {
  seats = record {
    number = p.number;
    latch = p.latch;
    table = p.account.table;
    slots = p.account.slots;
  };
  passes = p.again.others.passes;
  pins = p.again.others.pins;
  told = p.again.others.told;
  readers = p.again.others.readers;
  reads = p.again.others.reads;
}

pub self_found : (store : Store) (old new : Pass) → IsPassOf store old → KeepsSelf old new → FindsWords old new
self_found store old new of kept =
    finds_none old new kept.seats.number (self_state store old new of kept) (self_pin store old new of kept) kept.reads

-- the pass has lent room for its rows
pub cell_unpacked : (store : Store) (old new : Pass) (st : PassState) (x : PinState) (k : ℕ) (c : CellState)
    → HasCellOnly store old st x k c 0
    → LendsBuffer old new (with_cell old.account.me.0 k (unpacked c))
    → HasCellOnly store new st x k (unpacked c) 1
cell_unpacked store old new st x k c has lends =
    let kept = unpack_keeps old new k (unpacked c) lends in
    let cells = old.account.me.0.cells in
    cell_stays store old new st st x k c (unpacked c) 0 1 has (self_of store old new has.of kept) lends.latch
    (let lent = lends.buffers in let room = has.buffers in omega (arith, lent, room))
    (self_state store old new has.of kept ∙ has.state) (self_pin store old new has.of kept)
    ((λ i. kept_at (lends.account.me i).0.cells k) ∙ kept_here cells k (unpacked c))
    (λ l other. (λ i. kept_at (lends.account.me i).0.cells l) ∙ kept_else cells k (unpacked c) l other)
    (λ i. (lends.account.me i).0.indexes) (λ i. (lends.account.me i).0.journals)

-- and gets it back
pub cell_packed : (store : Store) (old new : Pass) (st : PassState) (x : PinState) (k : ℕ) (c : CellState)
    (resting : RestingRows) → HasCellOnly store old st x k c 1 → (p : IsPackedCell k c old new resting)
    → new.buffers ≡ old.buffers + 1 → HasCellOnly store new st x k p.again.cell 0
cell_packed store old new st x k c resting has p room =
    let others = p.again.others in
    let kept = pack_keeps old new k c resting p in
    cell_stays store old new st st x k c p.again.cell 1 0 has (self_of store old new has.of kept) p.latch
    (let had = has.buffers in omega (arith, room, had))
    (self_state store old new has.of kept ∙ has.state) (self_pin store old new has.of kept)
    p.again.has (λ l other. others.cells l other) others.indexes others.journals

-- ---- pruned

cell_is : (v : Sight) (k : ℕ) (c : CellState) → HasCell v k c → cell_in v k ≡ c
cell_is v k c has = ap (λ o. unwrap_or o (new_state k)) has

-- what a prune has made of a cell in hand may be known
pub can_prune : (z : Config) (v : Sight) (p : ℕ) (st : PassState) (x : PinState) (sweep : Sweep) (k : ℕ)
    (c : CellState) (s0 s1 : VersionedRows) (changed : Bool) (went : ℕ) → HasPass v p st → HasPin v p x
    → x.sweep ≡ Some sweep
    → sweep.looked ≡ z.passes → horizon_of sweep ≤ length st.seen → HasCell v k c → k < cells_of z
    → IsUnpackedAs c s0 changed → PrunesRows (stamps_seen st) (horizon_of sweep) s0 s1 → IsSegment s1
    → went + all_records s1.rows ≡ all_records s0.rows → 0 < went
    → CanPruneSeen z v p st x sweep (news_of v k s1)
can_prune z v p st x sweep k c s0 s1 changed went has pin sweeps whole seen cell inside is pruned sound count some =
    let c_is = cell_is v k c cell in
    let key = covered_key s0 is.sound (let n = count in omega (arith, n, some)) in
    record {
      has = has;
      pin = pin;
      sweeps = sweeps;
      whole = omega (arith, whole);
      seen = seen;
      changes = (
        record {
          held = record {
            cell = c;
            has = cell;
            inside = inside;
            loose = is.unpacked;
            block = ap (λ (d : CellState). d.block) c_is;
            unpacked = ap (λ (d : CellState). d.unpacked) c_is;
            changed = ap (λ (d : CellState). d.changed) c_is;
          };
          low = pruned.low ∙ is.same.low;
          high = pruned.high ∙ is.same.high;
          sound = sound;
          key = key.0;
          covered = (λ i. is_between (sym is.same.low i) (sym is.same.high i) key.0) ∙ key.1;
        },
        tt,
      );
      rows = λ l d e q had kept covered. by_number l d e q had (l == k) refl kept;
      grows = λ all agrees.
          let few = (rows_fewer (stamps_seen st) (horizon_of sweep) s0.rows).1 in
          let new = ap length pruned.rows in
          let same = ap length is.same.rows in
          let at = ap (λ (d : CellState). length d.segment.rows) (agrees k c cell) in
          omega (arith, few, new, same, at);
    }
  where
    news : CellState
    news = record (cell_in v k) { segment = s1 }

    by_number : (l : ℕ) (d e : CellState) (q : Key) → HasCell v l d → (b : Bool) → (l == k) ≡ b
        → cond b (Some news) None ≡ Some e
        → versions_at e.segment q ≡ prune_stamped (stamps_seen st) (horizon_of sweep) (versions_at d.segment q)
    by_number l d e q had true t kept =
        let number : l ≡ k = eq_of l k t in
        let old : d ≡ c = some_is d c (sym had ∙ ap (λ n. kept_at v.cells n) number ∙ cell) in
        let new : news ≡ e = some_is news e kept in
        ap (λ (x : CellState). versions_at x.segment q) (sym new)
        ∙ keys_pruned (stamps_seen st) (horizon_of sweep) s0 s1 is.sound pruned q
        ∙ ap (λ l. prune_stamped (stamps_seen st) (horizon_of sweep) (or_nothing (find key_cmp q l)))
        (is.same.rows ∙ ap (λ (x : CellState). x.segment.rows) (sym old))
    by_number l d e q had false t kept = cc

-- the contents in hand are known then
pub pruned_as : (v : Sight) (k : ℕ) (c : CellState) (s0 s1 : VersionedRows) (stamps : _) (horizon : ℕ)
    (changed : Bool) → HasCell v k c → IsUnpackedAs c s0 changed → PrunesRows stamps horizon s0 s1 → IsSegment s1
    → IsUnpackedAs (record (cell_in v k) { segment = s1 }) s1 true
pruned_as v k c s0 s1 stamps horizon changed cell is pruned sound =
    let c_is = cell_is v k c cell in
    record {
      unpacked = ap (λ (d : CellState). d.unpacked) c_is ∙ is.unpacked;
      wide = ap (λ (d : CellState). length d.block) c_is ∙ is.wide;
      same = record { low = refl; high = refl; rows = refl };
      sound = sound;
      small = pruned_small stamps horizon s0 s1 pruned is.small;
      untouched = λ e. cc;
    }

-- a cell in hand whose rows are as they were
pub same_as : (c : CellState) (s0 s1 : VersionedRows) (changed : Bool) → IsUnpackedAs c s0 changed
    → IsSameSegment s0 s1 → IsSegment s1 → IsUnpackedAs c s1 changed
same_as c s0 s1 changed is same sound = record {
  unpacked = is.unpacked;
  wide = is.wide;
  same = record {
    low = same.low ∙ is.same.low;
    high = same.high ∙ is.same.high;
    rows = same.rows ∙ is.same.rows;
  };
  sound = sound;
  small = subst (λ l. HasSmallWeights (record s0 { rows = l })) (sym same.rows) is.small;
  untouched = is.untouched;
}

-- ---- steps with a cell in hand

-- the state may be said otherwise
pub own_self : (store : Store) (pass : Pass) (st : PassState) (x : PinState) (k : ℕ) (c : CellState) (lent : ℕ)
    → HasCellOnly store pass st x k c lent → HasCellOnly store pass (state_of pass) (pin_of pass) k c lent
own_self store pass st x k c lent has = record {
  of = has.of;
  latch = has.latch;
  inside = has.inside;
  buffers = has.buffers;
  state = refl;
  pin = refl;
  cell = has.cell;
  alone = has.alone;
  indexes = has.indexes;
  journals = has.journals;
}

pub own_state : (store : Store) (pass : Pass) (st : PassState) (x : PinState) (k : ℕ) (c : CellState) (lent : ℕ)
    → HasCellOnly store pass st x k c lent → HasCellOnly store pass (state_of pass) x k c lent
own_state store pass st x k c lent has = record {
  of = has.of;
  latch = has.latch;
  inside = has.inside;
  buffers = has.buffers;
  state = refl;
  pin = has.pin;
  cell = has.cell;
  alone = has.alone;
  indexes = has.indexes;
  journals = has.journals;
}

-- nothing is known beside what was told
pub after_learning : (store : Store) (old new : Pass) (st : PassState) (x : PinState) (k : ℕ) (c : CellState)
    (lent : ℕ) → HasCellOnly store old st x k c lent → OnlyAccount old new old.account.me.0
    → HasCellOnly store new st x k c lent
after_learning store old new st x k c lent has step =
    let kept = account_keeps old new old.account.me.0 step refl refl refl refl refl in
    cell_stays store old new st st x k c c lent lent has (self_of store old new has.of kept) step.latch
    (let room = has.buffers in let same = step.buffers in omega (arith, room, same))
    (self_state store old new has.of kept ∙ has.state) (self_pin store old new has.of kept)
    ((λ i. kept_at (step.account.me i).0.cells k) ∙ has.cell)
    (λ l _. (λ i. kept_at (step.account.me i).0.cells l))
    (λ i. (step.account.me i).0.indexes) (λ i. (step.account.me i).0.journals)

-- words were found
pub after_looks : (store : Store) (old new : Pass) (st : PassState) (x : PinState) (k : ℕ) (c : CellState)
    (lent : ℕ) → HasCellOnly store old st x k c lent → KnowsLooks old.account.me.0 old new
    → HasCellOnly store new (state_of new) x k c lent
after_looks store old new st x k c lent has looks =
    let to = pass_has_looked store old new has.of looks in
    cell_stays store old new st (state_of new) x k c c lent lent has to.of looks.latch
    (let room = has.buffers in let same = looks.buffers in omega (arith, room, same))
    refl to.pin
    ((λ i. kept_at (looks.looked.cells i) k) ∙ has.cell)
    (λ l _. (λ i. kept_at (looks.looked.cells i) l))
    looks.looked.indexes looks.looked.journals

pub looks_found : (store : Store) (old new : Pass) → IsPassOf store old → KnowsLooks old.account.me.0 old new
    → FindsWords old new
looks_found store old new of looks =
    let to = pass_has_looked store old new of looks in
    record { number = looks.number; state = to.state; pin = to.pin; reads = looks.looked.reads }

pub account_found : (store : Store) (old new : Pass) (v : Sight) → IsPassOf store old → OnlyAccount old new v
    → v.passes ≡ old.account.me.0.passes → v.pins ≡ old.account.me.0.pins → v.told ≡ old.account.me.0.told
    → v.readers ≡ old.account.me.0.readers → v.reads ≡ old.account.me.0.reads → FindsWords old new
account_found store old new v of step passes pins told readers reads =
    let kept = account_keeps old new v step passes pins told readers reads in
    finds_none old new step.number (self_state store old new of kept) (self_pin store old new of kept) kept.reads

-- the pruned rows are known
pub after_prune : (store : Store) (old new : Pass) (st : PassState) (x : PinState) (k : ℕ) (c : CellState)
    (s : VersionedRows) (lent : ℕ) → HasCellOnly store old st x k c lent
    → OnlyAccount old new (with_cells old.account.me.0 (news_of old.account.me.0 k s))
    → HasCellOnly store new st x k (record (cell_in old.account.me.0 k) { segment = s }) lent
after_prune store old new st x k c s lent has step =
    let v = with_cells old.account.me.0 (news_of old.account.me.0 k s) in
    let d : CellState = record (cell_in old.account.me.0 k) { segment = s } in
    let kept = account_keeps old new v step refl refl refl refl refl in
    let cells = old.account.me.0.cells in
    cell_stays store old new st st x k c d lent lent has (self_of store old new has.of kept) step.latch
    (let room = has.buffers in let same = step.buffers in omega (arith, room, same))
    (self_state store old new has.of kept ∙ has.state) (self_pin store old new has.of kept)
    ((λ i. kept_at (step.account.me i).0.cells k) ∙ kept_here cells k d)
    (λ l other. (λ i. kept_at (step.account.me i).0.cells l) ∙ kept_else cells k d l other)
    (λ i. (step.account.me i).0.indexes) (λ i. (step.account.me i).0.journals)

-- ---- writers may be asked for

all_by_place : {X : Type 0} (P : X → Type 0) (xs : List X) → ((i : ℕ) (x : X) → slice_get xs i ≡ Some x → P x)
    → AllByRecursion P xs
all_by_place P [] each = tt
all_by_place P (x ∷ xs) each = (each 0 x refl, all_by_place P xs (λ i y e. each (suc i) y e))

all_get : {X : Type 0} (P : X → Type 0) (xs : List X) (i : ℕ) (x : X) → AllByRecursion P xs
    → slice_get xs i ≡ Some x → P x
all_get P [] i x h e = cc
all_get P (y ∷ ys) zero x h e = subst P (some_is y x e) h.0
all_get P (y ∷ ys) (suc i) x h e = all_get P ys i x h.1 e

same_entries : (rows : List (Key × StampedVersions)) → entries_by (λ row. row.0) (λ row. row.1) rows ≡ rows
same_entries [] = refl
same_entries (r ∷ rs) = λ i. r ∷ same_entries rs i

pub rows_named : (z : Config) (v : Sight) (st : PassState) (n : ℕ) → TellsWriters z v st n → (k : ℕ) (c : CellState)
    → HasCell v k c → k < cells_of z → IsSegment c.segment → AreNamedRows (is_writer z v) c.segment.rows
rows_named z v st n told k c has inside sound =
    all_by_place (λ (row : Key × StampedVersions). IsNamed (is_writer z v) row.1) c.segment.rows
    (λ i row e. subst (IsNamed (is_writer z v)) (found i row e)
    (writers_named z v told.writers k c row.0 (record {
      cell = has;
      inside = inside;
      covered = all_get (λ (r : Key × StampedVersions). is_between c.segment.low c.segment.high r.0 ≡ true)
          c.segment.rows i row sound.within e;
    })))
  where
    found : (i : ℕ) (row : Key × StampedVersions) → slice_get c.segment.rows i ≡ Some row
        → versions_at c.segment row.0 ≡ row.1
    found i row e = ap or_nothing (ap (find key_cmp row.0) (sym (same_entries c.segment.rows))
        ∙ find_there (λ (r : Key × StampedVersions). r.0) (λ (r : Key × StampedVersions). r.1)
        c.segment.rows i row sound.rising e)

-- the same the other way
pub same_back : (s t : VersionedRows) → IsSameSegment s t → IsSegment t → IsSegment s
same_back s t same sound = same_sound t s (record {
  low = sym same.low;
  high = sym same.high;
  rows = sym same.rows;
}) sound

-- a prune of the same rows
pub pruned_moves : (stamps : TxnName → Option ℕ) (horizon : ℕ) (a b s t : VersionedRows) (went : Bool)
    → IsPruned stamps horizon s t went → IsSameSegment a s → IsSameSegment b t → IsPruned stamps horizon a b went
pruned_moves stamps horizon a b s t went pruned from to = record {
  rows = record {
    low = sym to.low ∙ pruned.rows.low ∙ from.low;
    high = sym to.high ∙ pruned.rows.high ∙ from.high;
    rows = sym to.rows ∙ pruned.rows.rows ∙ ap (pruned_rows stamps horizon) from.rows;
  };
  went_is = pruned.went_is ∙ ap (is_prunable stamps horizon) from.rows;
}
