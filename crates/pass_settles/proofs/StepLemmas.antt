-- A cell in hand that is settled, step after step.
use Rattle.std.proofs.Common.{◌≡◌, ◌≢◌, ℕ, zero, suc, ◌+◌, ◌-◌, ◌<◌, ◌≤◌, List, [], ◌∷◌, length, map, set, refl, sym, ◌∙◌, ap, subst, cond, arith, inl, inr, Option, Some, None, get_or-set_other, length-set}
use Rattle.std.specs.Prelude.{Bool, true, false, ◌==◌, ◌&&◌, ◌||◌, not, is_some, slice_get, slice_index, unwrap_or, IfSome, IsSomeAnd}
use Rattle.std.specs.List.{AllByRecursion, filter}
use Rattle.graph_model.specs.declared.journal.Commit.{Commit}
use Rattle.graph_model.specs.declared.journal.TxnName.{TxnName}
use Rattle.graph_model.specs.declared.limits.TheConstants.{MAX_WEIGHT}
use Rattle.graph_model.specs.declared.row.Key.{Key}
use Rattle.graph_model.specs.Effects.{same_key}
use Rattle.graph_model.specs.Rows.{is_between}
use Rattle.graph_model.specs.Transactions.{stamp_in}
use Rattle.graph_model.specs.Legal.{IsLegal}
use Rattle.txn_manager.specs.declared.config.Config.{Config}
use Rattle.store_model.specs.Stamped.{StampedVersions, prune_stamped, stamp}
use Rattle.seat_views.specs.Keeping.{kept_at}
use Rattle.seat_views.proofs.NumberLemmas.{eq_of, some_is}
use Rattle.epoch_reclaim.specs.declared.sweep.Sweep.{Sweep}
use Rattle.epoch_reclaim.specs.Pinned.{horizon_of}
use Rattle.pass_sweeps.specs.VersionSegment.Resting.{newest_value, resting_of, resting_row, word_row, RestingRow, RestingRows}
use Rattle.pass_sweeps.specs.VersionSegment.Rows.{IsSegment, VersionedRows, versions_at}
use Rattle.pass_sweeps.specs.StoreRelation.Keys.{has_key}
use Rattle.pass_sweeps.specs.StoreRelationDeclared.stage.Stage.TheVariants.{Idle}
use Rattle.pass_sweeps.specs.RuleModel.EndSteps.{new_state}
use Rattle.pass_sweeps.specs.StoreRelation.Passes.{PassState, name_at}
use Rattle.pass_sweeps.specs.CellsModel.Cells.{CellState, packed, raised_word, unpacked, version_word}
use Rattle.pass_sweeps.specs.CellsModel.Indexed.{covers}
use Rattle.pass_sweeps.specs.CellsModel.Words.{HasSmallValues, HasSmallWeights, IsSmall, Spells, block_words, spelled}
use Rattle.pass_sweeps.proofs.CellsModel.WordLemmas.{newest_small}
use Rattle.pass_sweeps.specs.RuleModel.RowSteps.{CanStamp, IsBeside}
use Rattle.pass_sweeps.specs.RuleModel.Sight.{HasCell, HasPass, HasPin, PinState, Sight, cells_of, with_cell, with_cells, with_rows}
use Rattle.pass_sweeps.specs.StoreRule.Passes.{OnlyAccount}
use Rattle.pass_sweeps.specs.StoreRule.Slots.{RestsAs}
use Rattle.pass_sweeps.specs.StoreRuleDeclared.store.Pass.{Pass}
use Rattle.pass_sweeps.specs.StoreRuleDeclared.store.Store.{Store}
use Rattle.pass_sweeps.specs.PassSteps.Passes.{pin_of, state_in, state_of}
use Rattle.pass_sweeps.proofs.PassSteps.PassLemmas.{pass_is_stepped}
use Rattle.pass_sweeps.proofs.PassSteps.SightLemmas.{kept_else, kept_here}
use Rattle.pass_sweeps.specs.Pruning.{HasCellOnly, cell_in, news_of}
use Rattle.pass_sweeps.specs.SweepLaws.{CanPruneSeen}
use Rattle.pass_sweeps.specs.Sweeping.{HasSwept}
use Rattle.pass_sweeps.proofs.HandLemmas.{KeepsSelf, account_keeps, cell_stays, self_of, self_pin, self_state}
use Rattle.pass_settles.specs.Marks.{HasValues, IsHalfSettled}
use Rattle.pass_sweeps.specs.VersionSegment.Resting.{CanSettle, Settles}
use Rattle.pass_settles.specs.Settled.{ClearsMarks, IsSettling, MayStampCell, keys_outside, stamped_between, stamped_in}
use Rattle.pass_sweeps.specs.VersionSegment.Settling.{SettlesSegment, StampsSegment, each_row, settled_from, settled_segment, settled_versions, stamped_segment}
use Rattle.pass_settles.proofs.MarkLemmas.{from_end}
use Rattle.pass_sweeps.proofs.VersionSegment.SettledLemmas.{each_length, segment_is_stamped, segment_settles}

-- ---- the pass

-- another state of the cell is known
pub cell_now : (store : Store) (old new : Pass) (st : PassState) (x : PinState) (k : ℕ) (c d : CellState)
    → HasCellOnly store old st x k c 0 → OnlyAccount old new (with_cell old.account.me.0 k d)
    → HasCellOnly store new st x k d 0
cell_now store old new st x k c d has step =
    let kept = account_keeps old new (with_cell old.account.me.0 k d) step refl refl refl refl refl in
    let cells = old.account.me.0.cells in
    cell_stays store old new st st x k c d 0 0 has (self_of store old new has.of kept) step.latch
    (let room = has.buffers in let same = step.buffers in omega (arith, room, same))
    (self_state store old new has.of kept ∙ has.state) (self_pin store old new has.of kept)
    ((λ i. kept_at (step.account.me i).0.cells k) ∙ kept_here cells k d)
    (λ l other. (λ i. kept_at (step.account.me i).0.cells l) ∙ kept_else cells k d l other)
    (λ i. (step.account.me i).0.indexes) (λ i. (step.account.me i).0.journals)

-- and another state of the pass
pub cell_and_pass : (store : Store) (old new : Pass) (st st' : PassState) (x : PinState) (k : ℕ) (c d : CellState)
    → HasCellOnly store old st x k c 0 → IsLegal store.accounts.config.kind st'.seen
    → OnlyAccount old new (with_rows old.account.me.0 old.number st' ((k, d) ∷ []))
    → HasCellOnly store new st' x k d 0
cell_and_pass store old new st st' x k c d has legal step =
    let to = pass_is_stepped store old new st' ((k, d) ∷ []) has.of legal step in
    let cells = old.account.me.0.cells in
    cell_stays store old new st st' x k c d 0 0 has to.of step.latch
    (let room = has.buffers in let same = step.buffers in omega (arith, room, same))
    to.state to.pin
    ((λ i. kept_at (step.account.me i).0.cells k) ∙ kept_here cells k d)
    (λ l other. (λ i. kept_at (step.account.me i).0.cells l) ∙ kept_else cells k d l other)
    (λ i. (step.account.me i).0.indexes) (λ i. (step.account.me i).0.journals)

-- marks are cleared
pub cell_cleared : (store : Store) (old new : Pass) (st : PassState) (x : PinState) (k : ℕ) (s : VersionedRows) (c : CellState)
    → HasCellOnly store old st x k c 0 → (is : ClearsMarks k s c old new) → HasCellOnly store new st x k is.clearing.cell 0
cell_cleared store old new st x k s c has is =
    let others = is.clearing.others in
    let kept : KeepsSelf old new = record {
      seats = record { number = is.number; latch = is.latch; table = is.account.table; slots = is.account.slots };
      passes = others.passes;
      pins = others.pins;
      told = others.told;
      readers = others.readers;
      reads = others.reads;
    } in
    cell_stays store old new st st x k c is.clearing.cell 0 0 has (self_of store old new has.of kept) is.latch
    (let room = has.buffers in let same = is.buffers in omega (arith, room, same))
    (self_state store old new has.of kept ∙ has.state) (self_pin store old new has.of kept)
    is.clearing.has (λ l other. others.cells l other) others.indexes others.journals

-- ---- keys

pub key_eq : (a b : Key) → same_key a b ≡ true → a ≡ b
key_eq a b e =
    let parts = both_of (a.src == b.src) (a.second == b.second) e in
    λ i. record { src = eq_of a.src b.src parts.0 i; second = eq_of a.second b.second parts.1 i }
  where
    both_of : (s t : Bool) → (s && t) ≡ true → (s ≡ true) × (t ≡ true)
    both_of true t e = (refl, e)
    both_of false t e = cc

-- a key that isn't between the fence keys stays
key_stays : (low high : Key) (keys : List Key) (q : Key) → is_between low high q ≡ false → has_key keys q ≡ true → has_key (keys_outside low high keys) q ≡ true
key_stays low high [] q beyond has = has
key_stays low high (k ∷ ks) q beyond has = go (same_key q k) (is_between low high k) refl refl has (key_stays low high ks q beyond)
  where
    go : (t b : Bool) → same_key q k ≡ t → is_between low high k ≡ b → (t || has_key ks q) ≡ true
        → (has_key ks q ≡ true → has_key (keys_outside low high ks) q ≡ true)
        → has_key (cond (not b) (k ∷ keys_outside low high ks) (keys_outside low high ks)) q ≡ true
    go true true e f h rest = let clash : true ≡ false = sym f ∙ ap (is_between low high) (sym (key_eq q k e)) ∙ beyond in cc
    go true false e f h rest = ap (λ t. t || has_key (keys_outside low high ks) q) e
    go false true e f h rest = rest h
    go false false e f h rest = ap (λ t. t || has_key (keys_outside low high ks) q) e ∙ rest h

-- what the view has of a cell
pub cell_is : (v : Sight) (k : ℕ) (c : CellState) → HasCell v k c → cell_in v k ≡ c
cell_is v k c has = ap (λ o. unwrap_or o (new_state k)) has

-- ---- stamps

module _ (z : Config) (v : Sight) (p k : ℕ) (c : CellState) (has : HasCell v k c) (inside : k < cells_of z) (loose : c.unpacked ≡ true)
    (sound : IsSegment c.segment) (key : Key) (covered : covers c.segment key ≡ true) where
  c_is : cell_in v k ≡ c
  c_is = cell_is v k c has

  -- the rows may be known as stamped
  pub may_stamp : (by : TxnName) (n : ℕ) (i : ℕ) (commit : Commit) → HasPass v p (state_in v p) → (state_in v p).stage ≡ Idle
      → slice_get (state_in v p).seen i ≡ Some commit → commit.by ≡ name_at p (state_in v p) → commit.stamp ≡ n
      → by ≡ name_at p (state_in v p) → MayStampCell z v p k by n
  may_stamp by n i commit pass stage there name number by_is = (
    i,
    commit,
    record {
      has = pass;
      stage = stage;
      commit = there;
      by = name;
      changes = (
        record {
          held = record {
            cell = c;
            has = has;
            inside = inside;
            loose = loose;
            block = ap (λ (d : CellState). d.block) c_is;
            unpacked = ap (λ (d : CellState). d.unpacked) c_is;
            changed = ap (λ (d : CellState). d.changed) c_is;
          };
          low = ap (λ (d : CellState). d.segment.low) c_is;
          high = ap (λ (d : CellState). d.segment.high) c_is;
          sound = stamps.sound;
          key = key;
          covered = covered;
        },
        tt,
      );
      rows = λ l a d q had kept covers_it. inl (by_number l a d q had (l == k) refl kept);
      rest = λ q beside unstamped. key_stays (cell_in v k).segment.low (cell_in v k).segment.high (state_in v p).unstamped q
          (beside k news (kept_here [] k news)) unstamped;
      grows = λ cell agrees.
          let many = each_length (stamp by n) (cell_in v k).segment.rows in
          let at = ap (λ (d : CellState). length d.segment.rows) (agrees k c has) in
          let same = ap (λ (d : CellState). length d.segment.rows) c_is in
          omega (arith, many, at, same);
    },
  )
    where
      news : CellState
      news = record (cell_in v k) { segment = stamped_segment by n (cell_in v k).segment }

      stamps : StampsSegment by n (cell_in v k).segment
      stamps = segment_is_stamped by n (cell_in v k).segment (subst (λ (d : CellState). IsSegment d.segment) (sym c_is) sound)

      by_number : (l : ℕ) (a d : CellState) (q : Key) → HasCell v l a → (b : Bool) → (l == k) ≡ b
          → cond b (Some news) None ≡ Some d
          → versions_at d.segment q ≡ stamp (name_at p (state_in v p)) commit.stamp (versions_at a.segment q)
      by_number l a d q had true t kept =
          let at : l ≡ k = eq_of l k t in
          let old : a ≡ c = some_is a c (sym had ∙ ap (λ m. kept_at v.cells m) at ∙ has) in
          let new : news ≡ d = some_is news d kept in
          ap (λ (x : CellState). versions_at x.segment q) (sym new) ∙ stamps.rows q
          ∙ (λ i. stamp (by_is i) (sym number i) (versions_at ((c_is ∙ sym old) i).segment q))
      by_number l a d q had false t kept = cc

-- ---- a prune

module _ (z : Config) (v : Sight) (p k : ℕ) (c : CellState) (s : VersionedRows) (by : TxnName) (n : ℕ) (st : PassState) (x : PinState) (sweep : Sweep)
    (has : HasCell v k c) (inside : k < cells_of z) (loose : c.unpacked ≡ true) (is : c.segment ≡ stamped_segment by n s)
    (settles : SettlesSegment by n (horizon_of sweep) s) (key : Key) (covered : covers s key ≡ true) where
  -- the rows may be known as settled
  pub may_settle : HasPass v p st → HasPin v p x → x.sweep ≡ Some sweep → sweep.looked ≡ z.passes → horizon_of sweep ≤ length st.seen
      → CanPruneSeen z v p st x sweep (news_of v k (settled_segment (cell_in v k).segment))
  may_settle pass pin sweeps whole seen = record {
    has = pass;
    pin = pin;
    sweeps = sweeps;
    whole = omega (arith, whole);
    seen = seen;
    changes = (
      record {
        held = record {
          cell = c;
          has = has;
          inside = inside;
          loose = loose;
          block = ap (λ (d : CellState). d.block) here;
          unpacked = ap (λ (d : CellState). d.unpacked) here;
          changed = ap (λ (d : CellState). d.changed) here;
        };
        low = ap (λ (d : CellState). d.segment.low) here;
        high = ap (λ (d : CellState). d.segment.high) here;
        sound = subst IsSegment (sym now) settles.sound;
        key = key;
        covered = ap (λ (t : VersionedRows). covers t key) is ∙ covered;
      },
      tt,
    );
    rows = λ l a d q had kept covers_it. by_number l a d q had (l == k) refl kept;
    grows = λ cell agrees.
        let many = each_length settled_versions (cell_in v k).segment.rows in
        let at = ap (λ (d : CellState). length d.segment.rows) (agrees k c has) in
        let same = ap (λ (d : CellState). length d.segment.rows) here in
        omega (arith, many, at, same);
  }
    where
      here : cell_in v k ≡ c
      here = cell_is v k c has

      news : CellState
      news = record (cell_in v k) { segment = settled_segment (cell_in v k).segment }

      now : settled_segment (cell_in v k).segment ≡ settled_segment s
      now = ap (λ (d : CellState). settled_segment d.segment) here ∙ ap settled_segment is ∙ settles.again

      by_number : (l : ℕ) (a d : CellState) (q : Key) → HasCell v l a → (b : Bool) → (l == k) ≡ b
          → cond b (Some news) None ≡ Some d
          → versions_at d.segment q ≡ prune_stamped (stamp_in st.seen) (horizon_of sweep) (versions_at a.segment q)
      by_number l a d q had true t kept =
          let at : l ≡ k = eq_of l k t in
          let old : a ≡ c = some_is a c (sym had ∙ ap (λ m. kept_at v.cells m) at ∙ has) in
          let new : news ≡ d = some_is news d kept in
          ap (λ (y : CellState). versions_at y.segment q) (sym new) ∙ ap (λ (t : VersionedRows). versions_at t q) now
          ∙ settles.rows (stamp_in st.seen) q
          ∙ ap (λ (t : VersionedRows). prune_stamped (stamp_in st.seen) (horizon_of sweep) (versions_at t q)) (sym is ∙ ap (λ (y : CellState). y.segment) (sym old))
      by_number l a d q had false t kept = cc

-- ---- the block

-- rows that can settle have values that may be stored
pub values_small : (by : TxnName) (horizon : ℕ) (s : VersionedRows) → HasSmallWeights s → CanSettle by horizon (resting_of s).rows → HasValues s
values_small by horizon s small can = go s.rows small can
  where
    both : (v : Option ℕ) → is_some v ≡ true → IsSmall v → IsSomeAnd v (λ weight. weight ≤ MAX_WEIGHT)
    both None e h = cc
    both (Some w) e h = h

    go : (rows : List (Key × StampedVersions)) → AllByRecursion (λ row. HasSmallValues row.1) rows → AllByRecursion (Settles by horizon) (map resting_row rows)
        → AllByRecursion (λ row. IsSomeAnd (newest_value row.1) (λ weight. weight ≤ MAX_WEIGHT)) rows
    go [] small can = tt
    go (r ∷ rs) small can = (both (newest_value r.1) can.0.value (newest_small r.1 small.0), go rs small.1 can.1)

-- once they are settled they may be stored
settled_small : (s : VersionedRows) → HasSmallWeights s → HasSmallWeights (settled_segment s)
settled_small s small = go s.rows small
  where
    go : (rows : List (Key × StampedVersions)) → AllByRecursion (λ row. HasSmallValues row.1) rows → AllByRecursion (λ row. HasSmallValues row.1) (each_row settled_versions rows)
    go [] h = tt
    go (r ∷ rs) h = ((tt, newest_small r.1 h.0), go rs h.1)

-- the block of a cell that is unpacked spells what it did
pub raised_half : (c : CellState) → Spells c.block c.segment → IsHalfSettled c.segment (length c.segment.rows) (unpacked c).block
raised_half c spells = record {
  wide = length-set c.block 0 (raised_word (version_word c)) ∙ spells.wide;
  words = λ i n e. get_or-set_other c.block 0 (i + 1) (raised_word (version_word c)) 0 (λ same. absurd (omega (arith, same)))
      ∙ spells.words i n (ap (λ rows. slice_get (spelled c.segment.low c.segment.high (map word_row rows)) i) (sym (from_end c.segment.rows)) ∙ e);
}

-- that of settled rows spells them
pub settled_spells : (s : VersionedRows) (block : List ℕ) → IsSegment (settled_segment s) → HasSmallWeights s → IsHalfSettled s 0 block
    → Spells block (settled_segment s)
settled_spells s block sound small half = record {
  wide = half.wide;
  words = half.words;
  sound = sound;
  small = settled_small s small;
}

-- as many rows are left as there were
pub rest_length : (s : VersionedRows) (resting : RestingRows) → RestsAs s resting → length resting.rows ≡ length s.rows
rest_length s resting rests = ap (λ (l : List RestingRow). length l) rests ∙ go s.rows
  where
    go : (rows : List (Key × StampedVersions)) → length (map resting_row rows) ≡ length rows
    go [] = refl
    go (r ∷ rs) = ap suc (go rs)
