-- One cell more in hand, and the index that was asked.
use Rattle.std.proofs.Common.{◌≡◌, ℕ, ◌+◌, ◌<◌, List, [], ◌∷◌, ◌++◌, length, refl, sym, ◌∙◌, ap, subst, cond, arith, Some, None}
use Rattle.std.specs.Prelude.{Bool, true, false, ◌==◌, ◌||◌}
use Rattle.atomic_table.specs.declared.shared.Seat.{Seat}
use Rattle.graph_model.specs.declared.row.Key.{Key}
use Rattle.graph_model.specs.Rows.{is_below}
use Rattle.graph_model.proofs.TestLemmas.{eq_symm}
use Rattle.txn_manager.specs.declared.config.Config.{Config}
use Rattle.seat_views.specs.Keeping.{kept_at}
use Rattle.seat_views.proofs.NumberLemmas.{same_number}
use Rattle.latch_table.specs.declared.cells.Held.{Held}
use Rattle.latch_table.specs.declared.sight.LatchSight.{LatchSight}
use Rattle.store_rule.specs.Packing.{LendsBuffer}
use Rattle.store_rule.specs.Passes.{OnlyAccount}
use Rattle.row_writes.specs.VersionSegment.Rows.{VersionedRows, IsSameSegment, IsSegment}
use Rattle.store_rule.specs.CellsModel.Cells.{CellState, unpacked}
use Rattle.store_rule.specs.CellsModel.Words.{HasSmallWeights}
use Rattle.store_rule.specs.RuleModel.Sight.{HasCell, Sight, cells_of, with_cell}
use Rattle.store_rule.specs.StoreWords.Spelling.{IsUntouched}
use Rattle.store_rule.specs.declared.slot.Room.{Room}
use Rattle.store_rule.specs.declared.slot.StoreSlot.{StoreSlot}
use Rattle.store_rule.specs.declared.slot.StoreSlot.TheVariants as slots
use Rattle.store_rule.specs.declared.store.Pass.{Pass}
use Rattle.store_rule.specs.declared.store.Store.{Store}
use Rattle.pass_cells.specs.declared.taken.TakenCell.{TakenCell}
use Rattle.pass_cells.specs.Holding.{AreKnown, HasTaken, Holds, HoldsNone, IsGathered, IsKnown, IsLatchOf, numbers_of, slots_out}
use Rattle.pass_cells.specs.Taken.{AreApart, AreFrom, end_from, is_taken}

-- ---- one more behind the others

module _ (t : TakenCell) where
  pub slots_more : (ts : List TakenCell)
      → slots_out (numbers_of (ts ++ t ∷ [])) ≡ (t.held.cell, slots.Out) ∷ slots_out (numbers_of ts)
  slots_more [] = refl
  slots_more (x ∷ xs) = ap (λ l. l ++ (x.held.cell, slots.Out) ∷ []) (slots_more xs)

  pub taken_more : (k : ℕ) (ts : List TakenCell) → is_taken k (ts ++ t ∷ []) ≡ (is_taken k ts || (k == t.held.cell))
  taken_more k [] = last (k == t.held.cell)
    where
      last : (b : Bool) → (b || false) ≡ b
      last true = refl
      last false = refl
  taken_more k (x ∷ xs) = ap (λ b. (k == x.held.cell) || b) (taken_more k xs)
      ∙ group (k == x.held.cell) (is_taken k xs) (k == t.held.cell)
    where
      group : (a b c : Bool) → (a || (b || c)) ≡ ((a || b) || c)
      group true b c = refl
      group false b c = refl

  pub apart_more : (ts : List TakenCell) → AreApart ts → is_taken t.held.cell ts ≡ false → AreApart (ts ++ t ∷ [])
  apart_more [] apart new = (refl, tt)
  apart_more (x ∷ xs) apart new =
      let parts = neither (t.held.cell == x.held.cell) (is_taken t.held.cell xs) new in (
        taken_more x.held.cell xs ∙ both (is_taken x.held.cell xs) (x.held.cell == t.held.cell) apart.0
            (eq_symm x.held.cell t.held.cell ∙ parts.0),
        apart_more xs apart.1 parts.1,
      )
    where
      neither : (a b : Bool) → (a || b) ≡ false → (a ≡ false) × (b ≡ false)
      neither true b e = cc
      neither false b e = (refl, e)

      both : (a b : Bool) → a ≡ false → b ≡ false → (a || b) ≡ false
      both true b e f = cc
      both false b e f = f

  pub from_more : (low : Key) (ts : List TakenCell) → AreFrom low ts
      → is_below t.held.value.low (end_from low ts) ≡ false
      → is_below t.held.value.low t.held.value.high ≡ true → AreFrom low (ts ++ t ∷ [])
  from_more low [] from next some = (next, some, tt)
  from_more low (x ∷ xs) from next some = (from.0, from.1, from_more x.held.value.high xs from.2 next some)

  pub length_more : (ts : List TakenCell) → length (ts ++ t ∷ []) ≡ length ts + 1
  length_more [] = refl
  length_more (x ∷ xs) = let rest = length_more xs in omega (arith, rest)

-- ---- what is known of them

module _ (z : Config) (v : Sight) (k : ℕ) (c : CellState) where
  abbrev pub after : Sight
  after = with_cell (with_cell v k c) k (unpacked c)

  pub cell_here : HasCell after k (unpacked c)
  cell_here = ap (λ b. cond b (Some (unpacked c)) (cond b (Some c) (kept_at v.cells k))) (same_number k)

  pub cell_else : (l : ℕ) → (l == k) ≡ false → kept_at after.cells l ≡ kept_at v.cells l
  cell_else l e = ap (λ b. cond b (Some (unpacked c)) (cond b (Some c) (kept_at v.cells l))) e

  known_more : (t : TakenCell) → (t.held.cell == k) ≡ false → IsKnown z v t → IsKnown z after t
  known_more t other known = record {
    state = known.state;
    has = cell_else t.held.cell other ∙ known.has;
    inside = known.inside;
    unpacked = known.unpacked;
    wide = known.wide;
    same = known.same;
    sound = known.sound;
    small = known.small;
    untouched = known.untouched;
    count = known.count;
  }

  pub all_known : (ts : List TakenCell) (t : TakenCell) → is_taken k ts ≡ false → AreKnown z v ts → IsKnown z after t
      → AreKnown z after (ts ++ t ∷ [])
  all_known [] t new known one = (one, tt)
  all_known (x ∷ xs) t new known one =
      let parts = neither (k == x.held.cell) (is_taken k xs) new in
      (known_more x (eq_symm x.held.cell k ∙ parts.0) known.0, all_known xs t parts.1 known.1 one)
    where
      neither : (a b : Bool) → (a || b) ≡ false → (a ≡ false) × (b ≡ false)
      neither true b e = cc
      neither false b e = (refl, e)

-- a cell that was gathered is known
pub one_known : (z : Config) (v : Sight) (c : CellState) (t : TakenCell) → t.held.cell < cells_of z
    → IsSameSegment c.segment t.held.value → IsSegment t.held.value
    → IsUntouched (unpacked c) → t.rows ≡ length t.held.value.rows → IsKnown z (after z v t.held.cell c) t
one_known z v c t inside same sound free count = record {
  state = unpacked c;
  has = cell_here z v t.held.cell c;
  inside = inside;
  unpacked = refl;
  wide = free.spells.wide;
  same = same;
  sound = sound;
  small = subst (λ l. HasSmallWeights (record c.segment { rows = l })) (sym same.rows) free.spells.small;
  untouched = λ e. free;
  count = count;
}

-- a pass that has taken a cell more
pub has_more : (store : Store) (old mid new : Pass) (ts : List TakenCell) (t : TakenCell) → HasTaken store old ts
    → length ts < 4 → is_taken t.held.cell ts ≡ false
    → mid.account ≡ old.account → mid.buffers ≡ old.buffers → IsLatchOf store mid.latch
    → mid.latch.me.1 ≡ (t.held.cell, slots.Out) ∷ old.latch.me.1
    → IsGathered store.accounts.config mid new t.held → t.held.cell < cells_of store.accounts.config
    → IsSegment t.held.value
    → t.rows ≡ length t.held.value.rows → HasTaken store new (ts ++ t ∷ [])
has_more store old mid new ts t has few new_cell account buffers latch out gathered inside sound count =
    let z = store.accounts.config in
    let c = gathered.state in
    let k = t.held.cell in
    let view : new.account.me.0 ≡ after z old.account.me.0 k c =
    ap (λ m. m.0) gathered.account.account.me ∙ ap (λ (a : Seat (Unit {0}) Sight). after z a.me.0 k c) account in
    record {
      latch = subst (IsLatchOf store) (sym gathered.account.latch) latch;
      out = ap (λ (s : Seat StoreSlot (LatchSight Room)). s.me.1) gathered.account.latch ∙ out
          ∙ ap (λ l. (k, slots.Out) ∷ l) has.out ∙ sym (slots_more t ts);
      table = gathered.account.account.table ∙ ap (λ (a : Seat (Unit {0}) Sight). a.table_id) account ∙ has.table;
      known = subst (λ x. AreKnown z x (ts ++ t ∷ [])) (sym view)
          (all_known z old.account.me.0 k c ts t new_cell has.known
          (one_known z old.account.me.0 c t inside gathered.same sound gathered.untouched count));
      only = λ j d h. taken_more t j ts ∙ only j d (subst (λ x. HasCell x j d) view h) (j == k) refl;
      apart = apart_more t ts has.apart new_cell;
      few = let e = length_more t ts in omega (arith, few, e);
      buffers = let e = length_more t ts in let lent = gathered.account.buffers in let room =
          has.buffers in omega (arith, e, lent, room, buffers);
      no_index = ap (λ (x : Sight). x.indexes) view ∙ has.no_index;
    }
  where
    only : (j : ℕ) (d : CellState)
        → HasCell (after store.accounts.config old.account.me.0 t.held.cell gathered.state) j d → (b : Bool)
        → (j == t.held.cell) ≡ b
        → (is_taken j ts || (j == t.held.cell)) ≡ true
    only j d h true e = ap (λ b. is_taken j ts || b) e ∙ last (is_taken j ts)
      where
        last : (a : Bool) → (a || true) ≡ true
        last true = refl
        last false = refl
    only j d h false e = ap (λ b. b || (j == t.held.cell))
        (has.only j d (sym (cell_else store.accounts.config old.account.me.0 t.held.cell gathered.state j e) ∙ h))

-- ---- no cell in hand

pub no_entries : {A : Type 0} (es : List (ℕ × A)) → ((k : ℕ) (a : A) → kept_at es k ≡ Some a → ⊥) → es ≡ []
no_entries [] none = refl
no_entries (e ∷ es) none = absurd (none e.0 e.1 (ap (λ b. cond b (Some e.1) (kept_at es e.0)) (same_number e.0)))

pub none_taken : (store : Store) (pass : Pass) → HoldsNone store pass → HasTaken store pass []
none_taken store pass none = record {
  latch = none.latch;
  out = none.out;
  table = none.table;
  known = tt;
  only = λ k c h. not_none c (sym (ap (λ es. kept_at es k) none.cells) ∙ h);
  apart = tt;
  few = omega arith;
  buffers = let room = none.buffers in omega (arith, room);
  no_index = none.indexes;
}
  where
    not_none : (c : CellState) → None ≡ Some c → false ≡ true
    not_none c e = cc

pub taken_none : (store : Store) (pass : Pass) → HasTaken store pass [] → HoldsNone store pass
taken_none store pass has = record {
  latch = has.latch;
  out = has.out;
  table = has.table;
  cells = no_entries pass.account.me.0.cells (λ k c h. no (has.only k c h));
  buffers = let room = has.buffers in omega (arith, room);
  indexes = has.no_index;
}
  where
    no : false ≡ true → ⊥
    no e = cc

pub none_held : (store : Store) (pass : Pass) → HoldsNone store pass → Holds store pass []
none_held store pass none = record { taken = none_taken store pass none; rising = tt }

-- ---- a note that is taken in, and a cell that is unpacked then

pub gathered_then : (z : Config) (old mid new : Pass) (k n : ℕ) (state : CellState) (held : Held VersionedRows)
    → n ≡ k → held.cell ≡ n
    → OnlyAccount old mid (with_cell old.account.me.0 k state)
    → ((c : CellState) → HasCell mid.account.me.0 n c → LendsBuffer mid new (with_cell mid.account.me.0 n (unpacked c)))
    → ((c : CellState) → HasCell mid.account.me.0 n c → IsUntouched (unpacked c))
    → ((c : CellState) → HasCell mid.account.me.0 n c → IsSameSegment c.segment held.value) → IsGathered z old new held
gathered_then z old mid new k n state held nk hn first unpack untouched same =
    let has : HasCell mid.account.me.0 n state = subst (λ j. HasCell mid.account.me.0 j state) (sym nk)
    (ap (λ m. kept_at m.0.cells k) first.account.me ∙ ap (λ b. cond b (Some state) (kept_at old.account.me.0.cells k))
    (same_number k)) in
    let second = unpack state has in
    record {
      state = state;
      account = record {
        number = second.number ∙ first.number;
        latch = second.latch ∙ first.latch;
        buffers = sym first.buffers ∙ second.buffers;
        account = record {
          table = second.account.table ∙ first.account.table;
          me = second.account.me ∙ (λ i. (with_cell (first.account.me i).0 n (unpacked state), (first.account.me i).1))
              ∙ (λ i. (
                with_cell (with_cell old.account.me.0 ((sym nk ∙ sym hn) i) state) (sym hn i)
                    (unpacked state),
                old.account.me.1,
              ));
        };
      };
      same = same state has;
      untouched = untouched state has;
    }
