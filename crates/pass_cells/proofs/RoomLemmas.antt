-- Which keys are short of places, and which rows the view has.
use Rattle.std.proofs.Common.{◌≡◌, ℕ, ◌+◌, ◌-◌, ◌≤◌, List, [], ◌∷◌, length, refl, sym, ◌∙◌, ap, subst, cond, arith, inl, inr, Option, Some, None}
use Rattle.std.specs.Prelude.{Bool, true, false, not, ◌&&◌, ◌||◌, ◌==◌, count_by}
use Rattle.std.specs.FinMap.Entries.{find}
use Rattle.graph_model.specs.declared.row.Key.{Key}
use Rattle.graph_model.specs.Effects.{same_key}
use Rattle.graph_model.specs.declared.limits.TheConstants.{SEGMENT_ROWS}
use Rattle.graph_model.specs.Rows.{first_key, is_below, key_cmp}
use Rattle.graph_model.proofs.KeyLemmas.{between_parts}
use Rattle.graph_model.proofs.TestLemmas.{both_of, either_of, eq_of, never}
use Rattle.row_writes.specs.VersionSegment.Rows.{VersionedRows, IsSameSegment, has_row, or_nothing, versions_at}
use Rattle.row_writes.specs.Held.{HaveRoom, wanted}
use Rattle.row_writes.specs.Written.{with_back}
use Rattle.row_writes.proofs.KeyLemmas.{key_self}
use Rattle.store_rule.specs.StoreRelation.Keys.{has_key}
use Rattle.store_rule.specs.CellsModel.Cells.{CellState}
use Rattle.store_rule.specs.CellsModel.Indexed.{covers}
use Rattle.store_rule.specs.RuleModel.Sight.{Sight}
use Rattle.seat_views.specs.Keeping.{kept_at}
use Rattle.seat_views.proofs.NumberLemmas.{some_is}
use Rattle.txn_manager.specs.declared.config.Config.{Config}
use Rattle.pass_cells.specs.declared.taken.TakenCell.{TakenCell}
use Rattle.pass_cells.specs.Holding.{AreKnown, IsKnown, RowsAreKnown}
use Rattle.pass_cells.specs.Room.{HasRoomFor, also_missing}
use Rattle.pass_cells.specs.Taken.{AreRising, cell_at, has_cell, held_rows, is_taken}
use Rattle.pass_cells.proofs.CellLemmas.{IsAmong, covers_none, covers_own, covers_same}
use Rattle.pass_cells.proofs.StepLemmas.{unique_cell}

-- ---- rows of the view

-- the cell of a number
among_of : (k : ℕ) (ts : List TakenCell) → is_taken k ts ≡ true → (t : TakenCell) × IsAmong t ts × (k ≡ t.held.cell)
among_of k [] e = cc
among_of k (t ∷ ts) e = elim (either_of (k == t.held.cell) (is_taken k ts) e) as
    (λ _. (x : TakenCell) × IsAmong x (t ∷ ts) × (k ≡ x.held.cell)) [
      | inl same ↦ (t, inl refl, eq_of k t.held.cell same)
      | inr rest ↦ let r = among_of k ts rest in (r.0, inr r.1, r.2)
    ]

-- the cell that covers a key
among_at : (q : Key) (ts : List TakenCell) → has_cell ts q ≡ true
    → (t : TakenCell) × IsAmong t ts × (covers t.held.value q ≡ true)
among_at q [] e = cc
among_at q (t ∷ ts) e = elim (either_of (covers t.held.value q) (has_cell ts q) e) as
    (λ _. (x : TakenCell) × IsAmong x (t ∷ ts) × (covers x.held.value q ≡ true)) [
      | inl here ↦ (t, inl refl, here)
      | inr rest ↦ let r = among_at q ts rest in (r.0, inr r.1, r.2)
    ]

known_among : (z : Config) (v : Sight) (ts : List TakenCell) → AreKnown z v ts → (t : TakenCell) → IsAmong t ts
    → IsKnown z v t
known_among z v [] known t among = absurd among
known_among z v (x ∷ xs) known t (inl same) = subst (IsKnown z v) same known.0
known_among z v (x ∷ xs) known t (inr among) = known_among z v xs known.1 t among

pub rows_are_known : RowsAreKnown
rows_are_known store pass ts holds = record {
  held = λ k d q row.
      let one = among_of k ts (holds.taken.only k d row.cell) in
      let known = known_among store.accounts.config pass.account.me.0 ts holds.taken.known one.0 one.1 in
      let state : d ≡ known.state =
      some_is d known.state (sym row.cell ∙ ap (λ n. kept_at pass.account.me.0.cells n) one.2 ∙ known.has) in
      let same : IsSameSegment d.segment one.0.held.value =
      subst (λ (c : CellState). IsSameSegment c.segment one.0.held.value) (sym state) known.same in
      let cell = unique_cell first_key ts holds.rising one.0 one.1 q
      (covers_same one.0.held.value d.segment same.low same.high q ∙ row.covered) in (
        cell.1,
        ap (λ (s : VersionedRows). versions_at s q) cell.0
            ∙ ap (λ rows. or_nothing (find key_cmp q rows)) same.rows,
      );
  known = λ q has.
      let one = among_at q ts has in
      let known = known_among store.accounts.config pass.account.me.0 ts holds.taken.known one.0 one.1 in
      let cell = unique_cell first_key ts holds.rising one.0 one.1 q one.2 in (
        one.0.held.cell,
        known.state,
        record {
          cell = known.has;
          inside = known.inside;
          covered = sym
              (covers_same one.0.held.value known.state.segment known.same.low known.same.high q) ∙ one.2;
        },
        ap (λ (s : VersionedRows). versions_at s q) cell.0
            ∙ ap (λ rows. or_nothing (find key_cmp q rows)) known.same.rows,
      );
}

-- ---- room

module _ (ts : List TakenCell) (rising : AreRising ts) where
  -- keys that share a cell have that cell
  pub same_cell : (p q : Key) → covers (cell_at ts p) q ≡ true → has_cell ts p ≡ true → cell_at ts q ≡ cell_at ts p
  same_cell p q e has =
      let one = among_at p ts has in
      let cell = unique_cell first_key ts rising one.0 one.1 p one.2 in
      (unique_cell first_key ts rising one.0 one.1 q (ap (λ c. covers c q) (sym cell.0) ∙ e)).0 ∙ sym cell.0

  -- so many of these keys have no row and lie in the cell, which has room for them
  abbrev Finds : List Key → VersionedRows → Type 0
  Finds keys c = count_by (λ q. not ((held_rows ts).has_row q) && covers c q) keys ≤ SEGMENT_ROWS - length c.rows

  -- a cell that covers a key has room where the key's cell has
  room_of : (keys : List Key) (k q : Key) → (not ((held_rows ts).has_row q) && covers (cell_at ts k) q) ≡ true
      → HasRoomFor (held_rows ts) keys q → Finds keys (cell_at ts k)
  room_of keys k q both each =
      let parts = both_of (not ((held_rows ts).has_row q)) (covers (cell_at ts k) q) both in
      subst (Finds keys) (same_cell k q parts.1 (in_hand (has_cell ts k) refl parts.1))
      (each (not_true ((held_rows ts).has_row q) parts.0))
    where
      not_true : (t : Bool) → not t ≡ true → t ≡ false
      not_true true e = cc
      not_true false e = refl

      nowhere : covers (cell_at [] k) q ≡ true → ⊥
      nowhere e = let parts = between_parts first_key first_key q e in never (is_below q first_key) parts.1 parts.0

      in_hand : (t : Bool) → has_cell ts k ≡ t → covers (cell_at ts k) q ≡ true → has_cell ts k ≡ true
      in_hand true e f = e
      in_hand false e f = absurd (nowhere (ap (λ c. covers c q) (sym (covers_none ts k e)) ∙ f))

  one_key : (c : VersionedRows) (a : Key) → count_by (λ q. not ((held_rows ts).has_row q) && covers c q)
      (a ∷ []) ≡ 0 + cond (not ((held_rows ts).has_row a) && covers c a) 1 0
  one_key c a = refl

  two_keys : (c : VersionedRows) (a b : Key) → count_by (λ q. not ((held_rows ts).has_row q) && covers c q) (a ∷ b ∷ [])
      ≡ 0 + cond (not ((held_rows ts).has_row a) && covers c a) 1 0 + cond
      (not ((held_rows ts).has_row b) && covers c b) 1 0
  two_keys c a b = refl

  -- where the one key that is written has room
  pub room_one : (row : Key) → HasRoomFor (held_rows ts) (row ∷ []) row → HaveRoom (held_rows ts) (row ∷ [])
  room_one row each k none = go (not ((held_rows ts).has_row row) && covers (cell_at ts k) row) refl
    where
      go : (t : Bool) → (not ((held_rows ts).has_row row) && covers (cell_at ts k) row) ≡ t
          → Finds (row ∷ []) (cell_at ts k)
      go true e = room_of (row ∷ []) k row e each
      go false e = let count = one_key (cell_at ts k) row ∙ ap (λ t. 0 + cond t 1 0) e in omega (arith, count)

  -- and where both have
  pub room_two : (back row : Key) → HasRoomFor (held_rows ts) (back ∷ row ∷ []) back
      → HasRoomFor (held_rows ts) (back ∷ row ∷ []) row → HaveRoom (held_rows ts) (back ∷ row ∷ [])
  room_two back row first second k none =
      go (not ((held_rows ts).has_row back) && covers (cell_at ts k) back)
      (not ((held_rows ts).has_row row) && covers (cell_at ts k) row) refl refl
    where
      go : (s t : Bool) → (not ((held_rows ts).has_row back) && covers (cell_at ts k) back) ≡ s
          → (not ((held_rows ts).has_row row) && covers (cell_at ts k) row) ≡ t
          → Finds (back ∷ row ∷ []) (cell_at ts k)
      go true t e f = room_of (back ∷ row ∷ []) k back e first
      go false true e f = room_of (back ∷ row ∷ []) k row f second
      go false false e f = let count =
          two_keys (cell_at ts k) back row ∙ (λ i. 0 + cond (e i) 1 0 + cond (f i) 1 0) in omega (arith, count)

  -- either of two keys may stand first
  pub room_swapped : (a b key : Key) → HasRoomFor (held_rows ts) (a ∷ b ∷ []) key
      → HasRoomFor (held_rows ts) (b ∷ a ∷ []) key
  room_swapped a b key each none =
      let found = each none in
      let one = two_keys (cell_at ts key) a b in
      let two = two_keys (cell_at ts key) b a in
      omega (arith, found, one, two)

  -- what is missing in a key's cell is the key, and the other one if it lies there
  pub wanted_is : (key : Key) (other : Option Key) → has_cell ts key ≡ true → has_row (cell_at ts key) key ≡ false
      → wanted (held_rows ts) key (with_back other key) ≡ 1 + also_missing (cell_at ts key) other
  wanted_is key None has none =
      let count = one_key (cell_at ts key) key ∙ (λ i. 0 + cond (not (none i) && covers_own ts key has i) 1 0) in
      omega (arith, count)
  wanted_is key (Some o) has none =
      let count = two_keys (cell_at ts key) o key
      ∙ (λ i. 0 + cond (not ((held_rows ts).has_row o) && covers (cell_at ts key) o) 1 0 + cond
      (not (none i) && covers_own ts key has i) 1 0) in
      let other = same_missing (covers (cell_at ts key) o) refl in
      omega (arith, count, other)
    where
      same_missing : (t : Bool) → covers (cell_at ts key) o ≡ t
          → ◌≡◌ {A = ℕ} (cond (not ((held_rows ts).has_row o) && covers (cell_at ts key) o) 1 0)
          (cond (not (has_row (cell_at ts key) o) && covers (cell_at ts key) o) 1 0)
      same_missing true e = ap
          (λ (c : VersionedRows). cond {A = ℕ} (not (has_row c o) && covers (cell_at ts key) o) 1 0)
          (same_cell key o e has)
      same_missing false e = (λ i. cond {A = ℕ} (not ((held_rows ts).has_row o) && e i) 1 0)
          ∙ nobody (not ((held_rows ts).has_row o)) ∙ sym (nobody (not (has_row (cell_at ts key) o)))
          ∙ (λ i. cond {A = ℕ} (not (has_row (cell_at ts key) o) && sym e i) 1 0)
        where
          nobody : (s : Bool) → ◌≡◌ {A = ℕ} (cond (s && false) 1 0) 0
          nobody true = refl
          nobody false = refl

-- a key is among those of its write
pub among_own : (other : Option Key) (key : Key) → has_key (with_back other key) key ≡ true
among_own None key = ap (λ t. t || false) (key_self key)
among_own (Some o) key = last (same_key key o)
  where
    last : (t : Bool) → (t || (same_key key key || false)) ≡ true
    last true = refl
    last false = ap (λ t. t || false) (key_self key)
