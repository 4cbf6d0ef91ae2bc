-- A store that begins with a load: its passes, and the rows of the load.
use Rattle.std.proofs.Common.{◌≡◌, ℕ, zero, suc, ◌<◌, ◌≤◌, List, [], ◌∷◌, length, refl, sym, ◌∙◌, ap, subst, cond, arith, Some}
use Rattle.std.specs.Prelude.{Bool, true, false, ◌==◌, nat_le, slice_get, slice_set, sum_by, Option}
use Rattle.std.specs.List.{AllByRecursion}
use Rattle.std.proofs.lemmas.Bool.Decides.{nat_tests}
use Rattle.std.proofs.lemmas.List.Sums.{sum_by-append, sum_by-cons}
use Rattle.graph_model.specs.declared.limits.TheConstants.{MAX_WEIGHT}
use Rattle.graph_model.specs.declared.row.Row.{Row}
use Rattle.graph_model.specs.declared.write.Kind.{Kind}
use Rattle.graph_model.specs.declared.write.Kind.TheVariants.{Directed, Undirected}
use Rattle.graph_model.specs.declared.write.Write.{Write}
use Rattle.graph_model.specs.declared.write.Write.TheVariants.{AddVertex, DropVertex, AddEdge, SetEdge, DropEdge}
use Rattle.graph_model.specs.Graph.{empty_graph}
use Rattle.graph_model.specs.Loading.{IsAdd}
use Rattle.graph_model.specs.Refused.{AllAllowed, IsWithinLimits}
use Rattle.txn_manager.specs.Config.{too_large}
use Rattle.txn_manager.specs.declared.config.Config.{Config}
use Rattle.load_order.specs.LoadRows.{load_rows, write_rows}
use Rattle.load_order.specs.Placings.{AreSortedRows}
use Rattle.load_order.proofs.PlacingLemmas.{same_length}
use Rattle.leaf_rows.proofs.FillLemmas.{bare, load_rises, rows_counted, value_settled}
use Rattle.pass_writes.specs.StoreRelation.Ends.{only_value}
use Rattle.pass_writes.specs.StoreRelation.Loads.{load_commit, loaded_pass}
use Rattle.pass_writes.specs.StoreRelation.Passes.{fresh_pass, number_of}
use Rattle.pass_writes.proofs.StoreRelation.LoadLemmas.{loaded_shared}
use Rattle.pass_writes.specs.LoadedCells.Numbered.{AreRowsOf}
use Rattle.pass_writes.specs.StoreRule.Making.{AreLoadedPasses}
use Rattle.pass_writes.specs.StoreRuleDeclared.store.Pass.{Pass as Seats}
use Rattle.pass_writes.specs.StoreRuleDeclared.store.Store.{Store}
use Rattle.shared_store.specs.declared.pass.Pass.{Pass}
use Rattle.shared_store.specs.Ends.{AreNew, HasBegun, HasBegunNothing, HaveBegunNothing, HaveNoCells, seats_of}
use Rattle.shared_store.specs.Loading.{AreLoaded, HaveBegunLoad, first_state}
use Rattle.shared_store.proofs.SeatLemmas.{IsFirst, MayBegin, all_get, all_idle, fresh_may, seat_at, seat_count, state_at}

-- ---- the configuration

some_passes : (z : Config) → too_large z ≡ false → 1 ≤ z.passes
some_passes z sized = grind (arith, nat_tests)

some_txns : (z : Config) → too_large z ≡ false → 1 ≤ z.txns_per_pass
some_txns z sized = grind (arith, nat_tests)

-- ---- the rows

-- no row of a load has a weight above the limit
abbrev heavy : Row → ℕ
heavy row = cond (nat_le row.weight MAX_WEIGHT) 0 1

none_heavy : (kind : Kind) (ws : List Write) → AllByRecursion IsWithinLimits ws → sum_by heavy (load_rows kind ws) ≡ 0
none_heavy kind [] within = refl
none_heavy kind (w ∷ ws) within =
    let rest = none_heavy kind ws within.1 in
    let here = one kind w within.0 in
    let both = sum_by-append heavy (write_rows kind w) (load_rows kind ws) in
    omega (arith, rest, here, both)
  where
    light : (n : ℕ) → n ≤ MAX_WEIGHT → ◌≡◌ {A = ℕ} (cond (nat_le n MAX_WEIGHT) 0 1) 0
    light n small = let test : nat_le n MAX_WEIGHT ≡ true = grind (arith, nat_tests) in ap (λ t. cond t 0 1) test

    one : (kind : Kind) (w : Write) → IsWithinLimits w → sum_by heavy (write_rows kind w) ≡ 0
    one kind (AddVertex v) within = refl
    one kind (DropVertex v) within = refl
    one Directed (AddEdge u v weight) within = let a = light weight within.2 in omega (arith, a)
    one Undirected (AddEdge u v weight) within = let a = light weight within.2 in omega (arith, a)
    one kind (SetEdge u v weight) within = refl
    one kind (DropEdge u v) within = refl

all_light : (rs : List Row) → sum_by heavy rs ≡ 0 → AllByRecursion (λ r. r.weight ≤ MAX_WEIGHT) rs
all_light [] none = tt
all_light (r ∷ rs) none =
    let sum = sum_by-cons heavy r rs in
    let here : heavy r ≡ 0 = omega (arith, sum, none) in
    let rest : sum_by heavy rs ≡ 0 = omega (arith, sum, none) in
    (small (nat_le r.weight MAX_WEIGHT) refl here, all_light rs rest)
  where
    small : (t : Bool) → nat_le r.weight MAX_WEIGHT ≡ t → ◌≡◌ {A = ℕ} (cond t 0 1) 0 → r.weight ≤ MAX_WEIGHT
    small true test e = grind (arith, nat_tests)
    small false test e = absurd (omega (arith, e))

pub some_of : (load : List Write) → (length load == 0) ≡ false → 0 < length load
some_of load some = grind (arith, nat_tests)

-- ROWS: sorted, they are those that a store begins with
pub rows_of_load : (z : Config) (load : List Write) (rows : List Row) → 0 < length load → AllByRecursion IsAdd load
    → AllByRecursion IsWithinLimits load → AllAllowed z.kind empty_graph load → AreSortedRows z.kind load rows
    → AreRowsOf z load rows
rows_of_load z load rows some adds within allowed sorted = record {
  some = some;
  allowed = allowed;
  within = within;
  rising = load_rises z.kind load rows adds within allowed sorted.same sorted.sorted;
  small = all_light rows (sorted.same heavy ∙ none_heavy z.kind load within);
  settled = λ q. bare z.kind load rows adds within allowed sorted.same rows q
      ∙ ap only_value (value_settled z.kind load rows adds within allowed sorted.same q);
  few =
      let as_many = same_length (load_rows z.kind load) rows sorted.same in
      let counted = rows_counted z.kind load adds in
      omega (arith, as_many, counted);
}

-- ---- passes

-- each pass may begin a transaction
loaded_may : (z : Config) (load : List Write) → too_large z ≡ false → 0 < length load
    → AllAllowed z.kind empty_graph load → AllByRecursion IsWithinLimits load → (p : ℕ)
    → MayBegin z p (loaded_pass load p)
loaded_may z load sized some allowed within p = by_test (p == 0)
  where
    by_test : (t : Bool) → MayBegin z p (record fresh_pass {
      past = cond t (record { writes = load; stamp = Some 1 } ∷ []) [];
      seen = cond t (load_commit load ∷ []) [];
    })
    by_test true =
        let shared = loaded_shared z load 0 (some_passes z sized) (some_txns z sized) some allowed within in
        record {
          ended = record { stage = refl; own = refl; laid = refl; alone = refl };
          stamped = refl;
          valid = record {
            legal = shared.store.transactions.legal;
            current = tt;
            idle = refl;
            counted = refl;
            room = some_txns z sized;
          };
        }
    by_test false = fresh_may z p

-- how many transactions each has begun
begun_load : (load : List Write) (list : List Pass) → HaveBegunLoad list → (p : ℕ) (pass : Pass)
    → slice_get list p ≡ Some pass → HasBegun (number_of (loaded_pass load p)) pass
begun_load load [] begun p pass at = cc
begun_load load (x ∷ xs) begun zero pass at = subst (HasBegun 1) (same x pass at) begun.0
  where
    same : (a b : Pass) → ◌≡◌ {A = Option Pass} (Some a) (Some b) → a ≡ b
    same a b e = cc
begun_load load (x ∷ xs) begun (suc p) pass at =
    let other : (suc p == 0) ≡ false = grind (arith, nat_tests) in
    subst (λ t. HasBegun (number_of (record fresh_pass {
      past = cond t (record { writes = load; stamp = Some 1 } ∷ []) [];
      seen = cond t (load_commit load ∷ []) [];
    })) pass) (sym other) (all_get HasBegunNothing xs p pass begun.1 at)

module _ (store : Store) (load : List Write) (seats : List Seats) (list : List Pass) (same : seats_of list ≡ seats)
    (passes : AreLoadedPasses load store.latches.table.shared.key store.latches.table.shared.table_id
    store.accounts.table.shared.table_id seats)
    (config : store.latches.table.shared.key.config ≡ store.accounts.config)
    (sized : too_large store.accounts.config ≡ false) (rows : List Row) (are : AreRowsOf store.accounts.config load rows)
    (begun : HaveBegunLoad list) (cells : HaveNoCells list) where
  count_is : length list ≡ store.accounts.config.passes
  count_is = sym (seat_count list) ∙ ap length same ∙ passes.count ∙ (λ i. (config i).passes)

  first_at : (p : ℕ) (pass : Pass) → slice_get list p ≡ Some pass → IsFirst store p (loaded_pass load p) pass.seats
  first_at p pass at = passes.each p pass.seats (ap (λ l. slice_get l p) (sym same) ∙ seat_at list p pass at)

  may : (p : ℕ) → MayBegin store.accounts.config p (loaded_pass load p)
  may = loaded_may store.accounts.config load sized are.some are.allowed are.within

  -- LOADED
  pub all_loaded : AreLoaded load store list
  all_loaded = record {
    idle = all_idle store (loaded_pass load) may list count_is first_at (begun_load load list begun) cells;
    state = λ p pass at.
        state_at store (loaded_pass load) may list count_is first_at (begun_load load list begun) cells p pass at
        ∙ is_first load are.some p;
  }
    where
      is_first : (load : List Write) → 0 < length load → (p : ℕ) → loaded_pass load p ≡ first_state load p
      is_first [] some p = absurd (omega (arith, some))
      is_first (w ∷ ws) some p = refl

-- where there is nothing to load
pub none_loaded : (store : Store) (load : List Write) (list : List Pass) → load ≡ [] → AreNew store list
    → AreLoaded load store list
none_loaded store load list none new = record {
  idle = new.idle;
  state = λ p pass at. new.fresh p pass at ∙ ap (λ ws. first_state ws p) (sym none);
}

-- ---- the first pass has begun

module _ (list : List Pass) (x y : Pass) (at : slice_get list 0 ≡ Some x) (seats : y.seats ≡ x.seats)
    (cells : y.cells ≡ x.cells) (begun : y.begun ≡ 1) (own : y.own ≡ x.own) (changed : y.changed ≡ x.changed) where
  same_first : (a b : Pass) → ◌≡◌ {A = Option Pass} (Some a) (Some b) → a ≡ b
  same_first a b e = cc

  pub first_has_begun : HaveBegunNothing list → HaveBegunLoad (slice_set list 0 y)
  first_has_begun = go list at
    where
      go : (l : List Pass) → slice_get l 0 ≡ Some x → HaveBegunNothing l → HaveBegunLoad (slice_set l 0 y)
      go [] e fresh = cc
      go (z ∷ zs) e fresh =
          let was = subst HasBegunNothing (same_first z x e) fresh.0 in
          ((begun, ap (λ l. l.items) own ∙ was.1, ap (λ l. l.items) changed ∙ was.2), fresh.1)

  pub seats_stay : seats_of (slice_set list 0 y) ≡ seats_of list
  seats_stay = go list at
    where
      go : (l : List Pass) → slice_get l 0 ≡ Some x → seats_of (slice_set l 0 y) ≡ seats_of l
      go [] e = cc
      go (z ∷ zs) e = ap (λ s. s ∷ seats_of zs) (seats ∙ sym (ap (λ (p : Pass). p.seats) (same_first z x e)))

  pub cells_stay : HaveNoCells list → HaveNoCells (slice_set list 0 y)
  cells_stay = go list at
    where
      go : (l : List Pass) → slice_get l 0 ≡ Some x → HaveNoCells l → HaveNoCells (slice_set l 0 y)
      go [] e none = cc
      go (z ∷ zs) e none =
          (ap (λ c. c.taken.list.items) (cells ∙ sym (ap (λ (p : Pass). p.cells) (same_first z x e))) ∙ none.0, none.1)
