-- What a pass knows of the cells in hand once a step has made its view know their rows.
use Rattle.std.proofs.Common.{◌≡◌, ℕ, suc, ◌<◌, List, [], ◌∷◌, ◌++◌, length, refl, sym, ◌∙◌, ap, subst, cond, arith, inl, inr, Some}
use Rattle.std.specs.Prelude.{Bool, true, false, ◌==◌, ◌||◌, map, slice_get}
use Rattle.std.specs.List.{AllByRecursion}
use Rattle.std.specs.FinMap.Entries.{find}
use Rattle.atomic_table.specs.declared.shared.Seat.{Seat}
use Rattle.graph_model.specs.declared.row.Key.{Key}
use Rattle.graph_model.specs.Rows.{first_key, key_cmp}
use Rattle.graph_model.proofs.TestLemmas.{eq_of, never, self_eq}
use Rattle.txn_manager.specs.declared.config.Config.{Config}
use Rattle.seat_views.specs.Keeping.{kept_at}
use Rattle.seat_views.proofs.NumberLemmas.{kept-append, none_or_some}
use Rattle.store_model.specs.Stamped.{StampedVersions}
use Rattle.row_writes.specs.VersionSegment.Resting.{word_row, word_rows}
use Rattle.row_writes.specs.VersionSegment.Rows.{VersionedRows, IsSegment, or_nothing, versions_at}
use Rattle.store_rule.specs.StoreRelation.Passes.{PassState, fresh_pass}
use Rattle.store_rule.specs.CellsModel.Cells.{CellState}
use Rattle.store_rule.specs.CellsModel.Indexed.{covers}
use Rattle.store_rule.specs.CellsModel.Words.{HasSmallValues, HasSmallWeights, spelled}
use Rattle.store_rule.specs.StoreWords.Spelling.{IsUntouched}
use Rattle.store_rule.specs.RuleModel.Sight.{HasCell, Sight, cells_of, with_rows}
use Rattle.latch_table.specs.declared.sight.LatchSight.{LatchSight}
use Rattle.store_rule.specs.declared.slot.Room.{Room}
use Rattle.store_rule.specs.declared.slot.StoreSlot.{StoreSlot}
use Rattle.store_rule.specs.declared.store.Pass.{Pass}
use Rattle.store_rule.specs.declared.store.Store.{Store}
use Rattle.store_rule.specs.Passes.{OnlyAccount}
use Rattle.pass_cells.specs.declared.taken.TakenCell.{TakenCell}
use Rattle.pass_cells.specs.Changes.{news_of, state_of}
use Rattle.pass_cells.specs.Holding.{AreKnown, Holds, IsKnown, IsLatchOf, numbers_of, slots_out}
use Rattle.pass_cells.specs.Taken.{AreApart, AreFrom, KeepsCell, KeepCells, cell_at, counted, has_cell, is_taken}
use Rattle.pass_cells.proofs.CellLemmas.{IsAmong, covers_same}
use Rattle.pass_cells.proofs.SmallLemmas.{small_rows}
use Rattle.pass_cells.proofs.StepLemmas.{apart_kept, from_kept, length_kept, news_taken, numbers_kept, pair_of, state_is, taken_kept, unique_cell}

-- ---- all rows that are there are known

abbrev pub count_of : TakenCell → TakenCell
count_of t = record t { rows = length t.held.value.rows }

taken_counted : (k : ℕ) (ts : List TakenCell) → is_taken k (counted ts) ≡ is_taken k ts
taken_counted k [] = refl
taken_counted k (t ∷ ts) = ap (λ b. (k == t.held.cell) || b) (taken_counted k ts)

apart_counted : (ts : List TakenCell) → AreApart ts → AreApart (counted ts)
apart_counted [] apart = tt
apart_counted (t ∷ ts) apart = (taken_counted t.held.cell ts ∙ apart.0, apart_counted ts apart.1)

from_counted : (low : Key) (ts : List TakenCell) → AreFrom low ts → AreFrom low (counted ts)
from_counted low [] from = tt
from_counted low (t ∷ ts) from = (from.0, from.1, from_counted t.held.value.high ts from.2)

numbers_counted : (ts : List TakenCell) → numbers_of (counted ts) ≡ numbers_of ts
numbers_counted [] = refl
numbers_counted (t ∷ ts) = ap (λ ks. t.held.cell ∷ ks) (numbers_counted ts)

length_counted : (ts : List TakenCell) → length (counted ts) ≡ length ts
length_counted [] = refl
length_counted (t ∷ ts) = ap suc (length_counted ts)

pub cell_counted : (ts : List TakenCell) (q : Key) → cell_at (counted ts) q ≡ cell_at ts q
cell_counted [] q = refl
cell_counted (t ∷ ts) q = ap (λ c. cond (covers t.held.value q) t.held.value c) (cell_counted ts q)

pub has_counted : (ts : List TakenCell) (q : Key) → has_cell (counted ts) q ≡ has_cell ts q
has_counted [] q = refl
has_counted (t ∷ ts) q = ap (λ b. covers t.held.value q || b) (has_counted ts q)

-- ---- the rows of a cell, by those of all keys

module _ (z : Config) (v : Sight) (ts us : List TakenCell) (known : AreKnown z v ts) (kept : KeepCells ts us)
    (rising : AreFrom first_key ts) where
  -- what is said of what each key had and has is so of each cell of which there are news
  pub rows_change : (R : Key → StampedVersions → StampedVersions → Type 0)
      → ((q : Key) → has_cell ts q ≡ true → R q (versions_at (cell_at ts q) q) (versions_at (cell_at us q) q))
      → (k : ℕ) (c d : CellState) (q : Key) → HasCell v k c → kept_at (news_of v us) k ≡ Some d
      → covers c.segment q ≡ true
      → R q (versions_at c.segment q) (versions_at d.segment q)
  rows_change R each k c d q has news covered =
      let pair = pair_of z v ts us known kept k c d has news in
      let old : covers pair.before.held.value q ≡ true =
      covers_same pair.before.held.value c.segment pair.same.low pair.same.high q ∙ covered in
      let new : covers pair.after.held.value q ≡ true =
      covers_same pair.after.held.value pair.before.held.value pair.kept.low pair.kept.high q ∙ old in
      let one = unique_cell first_key ts rising pair.before pair.is_before q old in
      let two = unique_cell first_key us (from_kept first_key ts us kept rising) pair.after pair.is_after q new in
      subst (λ (x : StampedVersions × StampedVersions). R q x.0 x.1)
      (λ i. (
        (ap (λ (s : VersionedRows). versions_at s q) one.0
            ∙ ap (λ rows. or_nothing (find key_cmp q rows)) pair.same.rows) i,
        (ap (λ (s : VersionedRows). versions_at s q) two.0
            ∙ ap (λ (s : VersionedRows). versions_at s q) (sym pair.segment)) i,
      ))
      (each q one.1)

  -- values that may be stored
  pub all_small : ((q : Key) → has_cell us q ≡ true → HasSmallValues (versions_at (cell_at us q) q))
      → ((t : TakenCell) → IsAmong t us → IsSegment t.held.value)
      → (u : TakenCell) → IsAmong u us → HasSmallWeights u.held.value
  all_small small sound u among = small_rows u.held.value (sound u among) (λ q e.
      let one = unique_cell first_key us (from_kept first_key ts us kept rising) u among q e in
      subst (λ s. HasSmallValues (versions_at s q)) one.0 (small q one.1))

-- ---- what is known then

-- which cell in hand it was
pub record IsPartner (z : Config) (v : Sight) (u : TakenCell) : Type 0 where
  pub before : TakenCell
  pub known : IsKnown z v before
  pub kept : KeepsCell before u

pub partner : (z : Config) (v : Sight) (ts us : List TakenCell) → AreKnown z v ts → KeepCells ts us → (u : TakenCell)
    → IsAmong u us → IsPartner z v u
partner z v [] [] known kept u among = absurd among
partner z v (t ∷ ts) (x ∷ us) known kept u (inl same) =
    record { before = t; known = known.0; kept = subst (λ (y : TakenCell). KeepsCell t y) same kept.0 }
partner z v (t ∷ ts) (x ∷ us) known kept u (inr among) = partner z v ts us known.1 kept.1 u among
partner z v [] (x ∷ us) known kept u among = absurd kept
partner z v (t ∷ ts) [] known kept u among = absurd kept

among_taken : (us : List TakenCell) (u : TakenCell) → IsAmong u us → is_taken u.held.cell us ≡ true
among_taken [] u among = absurd among
among_taken (x ∷ xs) u (inl same) =
    ap (λ (y : TakenCell). (u.held.cell == y.held.cell) || is_taken u.held.cell xs) same
    ∙ ap (λ b. b || is_taken u.held.cell xs) (self_eq u.held.cell)
among_taken (x ∷ xs) u (inr among) = last (u.held.cell == x.held.cell) (among_taken xs u among)
  where
    last : (b : Bool) → is_taken u.held.cell xs ≡ true → (b || is_taken u.held.cell xs) ≡ true
    last true e = refl
    last false e = e

-- the news of a cell in hand
news_there : (v : Sight) (us : List TakenCell) → AreApart us → (u : TakenCell) → IsAmong u us
    → kept_at (news_of v us) u.held.cell ≡ Some (record (state_of v u.held.cell) { segment = u.held.value })
news_there v [] apart u among = absurd among
news_there v (x ∷ xs) apart u (inl same) =
    ap (λ b. cond b (Some (record (state_of v x.held.cell) { segment = x.held.value }))
    (kept_at (news_of v xs) u.held.cell)) (ap (λ (y : TakenCell). u.held.cell == y.held.cell) same
    ∙ self_eq u.held.cell)
    ∙ ap (λ (y : TakenCell). Some (record (state_of v y.held.cell) { segment = y.held.value })) same
news_there v (x ∷ xs) apart u (inr among) =
    ap (λ b. cond b (Some (record (state_of v x.held.cell) { segment = x.held.value }))
    (kept_at (news_of v xs) u.held.cell)) (other (u.held.cell == x.held.cell) refl)
    ∙ news_there v xs apart.1 u among
  where
    other : (b : Bool) → (u.held.cell == x.held.cell) ≡ b → (u.held.cell == x.held.cell) ≡ false
    other false e = e
    other true e = never (is_taken u.held.cell xs) (among_taken xs u among)
        ((λ i. is_taken (eq_of u.held.cell x.held.cell e i) xs) ∙ apart.0)

each_among : (P : TakenCell → Type 0) (us : List TakenCell) → ((u : TakenCell) → IsAmong u us → P (count_of u))
    → AllByRecursion P (counted us)
each_among P [] each = tt
each_among P (u ∷ us) each = (each u (inl refl), each_among P us (λ x among. each x (inr among)))

module _ (z : Config) (v : Sight) (ts us : List TakenCell) (known : AreKnown z v ts) (kept : KeepCells ts us)
    (apart : AreApart ts)
    (small : (u : TakenCell) → IsAmong u us → HasSmallWeights u.held.value) (p : ℕ) (st : PassState) where
  abbrev pub after : Sight
  after = with_rows v p st (news_of v us)

  -- segments that a change leaves
  pub all_sound : (u : TakenCell) → IsAmong u us → IsSegment u.held.value
  all_sound u among = let was = partner z v ts us known kept u among in was.kept.sound was.known.sound

  one_known : (u : TakenCell) → IsAmong u us → IsKnown z after (count_of u)
  one_known u among =
      let was = partner z v ts us known kept u among in
      let has : HasCell v u.held.cell was.known.state =
      subst (λ k. HasCell v k was.known.state) (sym was.kept.cell) was.known.has in
      let is = state_is v u.held.cell was.known.state has in
      let there = news_there v us (apart_kept ts us kept apart) u among in
      record {
        state = record (state_of v u.held.cell) { segment = u.held.value };
        has = (kept-append (news_of v us) v.cells u.held.cell).1 _ there;
        inside = subst (λ k. k < cells_of z) (sym was.kept.cell) was.known.inside;
        unpacked = ap (λ (c : CellState). c.unpacked) is ∙ was.known.unpacked;
        wide = ap (λ (c : CellState). length c.block) is ∙ was.known.wide;
        same = record { low = refl; high = refl; rows = refl };
        sound = was.kept.sound was.known.sound;
        small = small u among;
        untouched = λ e.
            let stays = was.kept.same e in
            let free = was.known.untouched stays.0 in
            let low : u.held.value.low ≡ was.known.state.segment.low = was.kept.low ∙ was.known.same.low in
            let high : u.held.value.high ≡ was.known.state.segment.high = was.kept.high ∙ was.known.same.high in
            let words : word_rows u.held.value ≡ word_rows was.known.state.segment =
            stays.1 ∙ ap (map word_row) was.known.same.rows in
            subst (λ (c : CellState). IsUntouched (record c { segment = u.held.value })) (sym is)
            (record {
              quiet = free.quiet;
              spells = record {
                wide = free.spells.wide;
                words = λ i n at. free.spells.words i n
                    ((λ j. slice_get (spelled (sym low j) (sym high j) (sym words j)) i) ∙ at);
                sound = was.kept.sound was.known.sound;
                small = small u among;
              };
            });
        count = refl;
      }

  pub known_after : AreKnown z after (counted us)
  known_after = each_among (IsKnown z after) us one_known

  -- no other cell is known
  pub only_after : ((k : ℕ) (c : CellState) → HasCell v k c → is_taken k ts ≡ true) → (k : ℕ) (c : CellState)
      → HasCell after k c → is_taken k (counted us) ≡ true
  only_after only k c has =
      taken_counted k us ∙ (elim (none_or_some (kept_at (news_of v us) k)) as (λ _. is_taken k us ≡ true) [
        | inl none ↦ taken_kept k ts us kept ∙ only k c (sym ((kept-append (news_of v us) v.cells k).0 none) ∙ has)
        | inr some ↦ news_taken z v k us some.0 some.1
      ])

-- another view that has the same of all cells knows them as well
pub known_in : (z : Config) (v w : Sight) → w.cells ≡ v.cells → (ts : List TakenCell) → AreKnown z v ts
    → AreKnown z w ts
known_in z v w same [] known = tt
known_in z v w same (t ∷ ts) known = (
  record {
    state = known.0.state;
    has = (λ i. kept_at (same i) t.held.cell) ∙ known.0.has;
    inside = known.0.inside;
    unpacked = known.0.unpacked;
    wide = known.0.wide;
    same = known.0.same;
    sound = known.0.sound;
    small = known.0.small;
    untouched = known.0.untouched;
    count = known.0.count;
  },
  known_in z v w same ts known.1,
)

-- a pass whose view alone has changed, and has news of these cells alone, has them in hand
pub holds_told : (store : Store) (old new : Pass) (ts us : List TakenCell) → Holds store old ts → KeepCells ts us
    → (small : (u : TakenCell) → IsAmong u us → HasSmallWeights u.held.value) → (w : Sight) → OnlyAccount old new w
    → w.cells ≡ news_of old.account.me.0 us ++ old.account.me.0.cells → w.indexes ≡ old.account.me.0.indexes
    → Holds store new (counted us)
holds_told store old new ts us holds kept small w step cells indexes =
    let has = holds.taken in
    let z = store.accounts.config in
    let v = old.account.me.0 in
    let sight : new.account.me.0 ≡ w = ap (λ m. m.0) step.account.me in
    let known = known_after z v ts us has.known kept has.apart small 0 fresh_pass in
    let all : new.account.me.0.cells ≡ news_of v us ++ v.cells = ap (λ (x : Sight). x.cells) sight ∙ cells in
    record {
      taken = record {
        latch = subst (IsLatchOf store) (sym step.latch) has.latch;
        out = ap (λ (s : Seat StoreSlot (LatchSight Room)). s.me.1) step.latch ∙ has.out
            ∙ ap slots_out (sym (numbers_counted us ∙ numbers_kept ts us kept));
        table = step.account.table ∙ has.table;
        known = known_in z (with_rows v 0 fresh_pass (news_of v us)) new.account.me.0 all (counted us) known;
        only = λ k c h. only_after z v ts us has.known kept has.apart small 0 fresh_pass
            has.only k c ((λ i. kept_at (sym all i) k) ∙ h);
        apart = apart_counted us (apart_kept ts us kept has.apart);
        few = let e = length_counted us ∙ length_kept ts us kept in let few = has.few in omega (arith, e, few);
        buffers = let e = length_counted us ∙ length_kept ts us kept in let same = step.buffers in let room =
            has.buffers in omega (arith, e, same, room);
        no_index = ap (λ (x : Sight). x.indexes) sight ∙ indexes ∙ has.no_index;
      };
      rising = from_counted first_key us (from_kept first_key ts us kept holds.rising);
    }

-- so it is where the view has news of a pass as well
pub holds_after : (store : Store) (old new : Pass) (ts us : List TakenCell) → Holds store old ts → KeepCells ts us
    → (small : (u : TakenCell) → IsAmong u us → HasSmallWeights u.held.value) → (p : ℕ) (st : PassState)
    → OnlyAccount old new (with_rows old.account.me.0 p st (news_of old.account.me.0 us)) → Holds store new (counted us)
holds_after store old new ts us holds kept small p st step =
    holds_told store old new ts us holds kept small
    (with_rows old.account.me.0 p st (news_of old.account.me.0 us)) step refl refl
