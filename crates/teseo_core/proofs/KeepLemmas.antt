-- What the engine keeps through each call.
use Rattle.std.proofs.Common.{◌≡◌, ℕ, ◌+◌, ◌-◌, ◌≤◌, ◌<◌, List, [], ◌∷◌, ◌++◌, drop, length, refl, sym, ◌∙◌, ap, subst, cond, arith, inr}
use Rattle.std.specs.Prelude.{Bool, true, false, ◌==◌, ◌⊎◌, ◌||◌, Option, Some, None, is_some, option_map, unwrap_or}
use Rattle.std.specs.List.{AllByRecursion}
use Rattle.std.proofs.lemmas.Bool.Decides.{nat_tests}
use Rattle.std.proofs.lemmas.List.{length-set}
use Rattle.graph_model.specs.declared.write.Write.{Write}
use Rattle.graph_model.specs.declared.journal.Commit.{Commit}
use Rattle.graph_model.specs.declared.journal.TxnName.{TxnName}
use Rattle.graph_model.specs.declared.row.Key.{Key}
use Rattle.graph_model.specs.AccountSteps.{view_of, last_with}
use Rattle.graph_model.specs.Inserted.{inserted_by}
use Rattle.graph_model.specs.OwnerCalls.{PassState, Core, no_pass, pass_at, current, with_current, account_here, name_here, running_of, open_txns, inserted_here, begun_pass, written_pass, ended_pass, conflict_here}
use Rattle.graph_model.specs.OwnerLaws.{IsChosen}
use Rattle.graph_model.specs.Refused.{refused, IsWithinLimits}
use Rattle.graph_model.specs.Transactions.{Running, Changes, HasNotCommitted, has_name, own_of, writes_of_running, commit_of, stamp_in}
use Rattle.graph_model.proofs.PlaceLemmas.{get_drop}
use Rattle.txn_manager.specs.Manager.{Manager, PassTxns, txns_of, opened, ended, open_start, committed}
use Rattle.store_model.specs.Check.{check, looked}
use Rattle.store_model.specs.Layers.{after_write, touched_in, undone}
use Rattle.store_model.specs.Store.{HasRow, IsPlainStore, MeetsNobody, touching_of}
use Rattle.store_model.proofs.WriterLemmas.{committed_none}
use Rattle.store_model.proofs.ConflictLemmas.{check_is_conflict, check_allows}
use Rattle.store_model.proofs.OwnerLemmas.{owner_moved, owner_begun, owner_written, owner_committed, owner_aborted}
use Rattle.store_model.proofs.ValueLemmas.{value_of_view}
use Rattle.store_model.proofs.PruneLemmas.{store_pruned, row_settled, whole_pruned}
use Rattle.store_model.specs.Versions.{prune}
use Rattle.graph_model.specs.Effects.{any_touches}
use Rattle.leaf_rows.specs.declared.reader.Reader.{Reader}
use Rattle.leaf_rows.specs.Readers.{Shows, cause_for}
use Rattle.leaf_rows.specs.LeafStore.Leaves.{Leaves, contents_of, weight}
use Rattle.teseo_core.specs.Keeping.{running_in, txns_in, AreTied, IsKept, NoneOpen, newest_graph}
use Rattle.leaf_rows.specs.Laying.{HasTouchedNone, KeepsContents}
use Rattle.leaf_rows.specs.Loaded.{AreSettled}
use Rattle.teseo_core.proofs.CountLemmas.{part, total_set, part_begun, part_written, written_length}
use Rattle.teseo_core.proofs.OpenLemmas.{pass_set, here_changes, next_changes, same_running, tied_set, here_running, here_closed, same_open, here_listed}

-- what a pass has, after the selected one has another state
pub by_pass : (core : Core) (chosen : IsChosen core) (state : PassState) (P : PassState → Type 0) → P state → ((p : ℕ) → P (pass_at core p)) → (p : ℕ) → P (pass_at (with_current core state) p)
by_pass core chosen state P here others p = subst P (sym (pass_set core chosen state p)) (cases (p == core.selected))
  where
    cases : (t : Bool) → P (cond t state (pass_at core p))
    cases true = here
    cases false = others p

-- the rows that may have been inserted, after that
pub counted_set : (core : Core) (chosen : IsChosen core) (state : PassState) → inserted_here (with_current core state) + part core.kind (current core).made ≡ inserted_here core + part core.kind state.made
counted_set core chosen state = total_set core.kind core.passes core.selected state chosen

module _ (core : Core) (m : Manager) (rows : Leaves) (is : IsKept core m rows) where
  -- ---- reads and checks

  -- who reads in the name of the selected pass
  pub record IsReader (r : Reader) (start : ℕ) : Type 0 where
    pub manager : r.manager.now ≡ m
    pub start_is : r.start ≡ start
    pub by : r.by ≡ name_here core

  -- it sees its view
  pub reader_shows : (r : Reader) (start : ℕ) → (current core).start ≡ Some start → IsReader r start → Shows r rows (view_of (account_here core) start)
  reader_shows r start opened reader k =
      (λ i. Rattle.store_model.specs.Versions.read (stamp_in (journal i)) (reader.start_is i) (reader.by i) (contents_of rows k))
      ∙ value_of_view core.kind core.journal (running_in core) (own_of (running_in core)) (touching_of (running_in core)) is.horizon (contents_of rows) is.store (name_here core) (record { start = start; writes = (current core).own }) (here_running core start opened) k
    where
      journal : r.manager.now.journal ≡ core.journal
      journal = ap (λ (m : Manager). m.journal) reader.manager ∙ is.tied.journal

  -- without writes it has touched no row
  pub touched_none : (r : Reader) (start : ℕ) → (current core).start ≡ Some start → IsReader r start → (current core).own ≡ [] → HasTouchedNone rows r.by
  touched_none r start opened reader none k =
      ap (has_name (contents_of rows k).touches) reader.by ∙ held.row.touched by ∙ (λ i. idle i || behind i)
    where
      by : TxnName
      by = name_here core

      here : running_in core by ≡ Some (record { start = start; writes = (current core).own })
      here = here_running core start opened

      held : HasRow core.kind core.journal (own_of (running_in core)) (touching_of (running_in core)) is.horizon k (contents_of rows k)
      held = is.store.rows k

      idle : touching_of (running_in core) by k ≡ false
      idle = ap (λ t. any_touches (writes_of_running t) k) here ∙ ap (λ ws. any_touches ws k) none

      behind : touched_in (drop held.since core.journal) by k ≡ false
      behind = committed_none (λ ws. any_touches ws k) (drop held.since core.journal) by
          (λ i c at. (is.store.transactions.each by (record { start = start; writes = (current core).own }) here).unnamed (held.since + i) c (get_drop held.since core.journal i c at))

  -- it began within the journal
  pub reader_started : (r : Reader) (start : ℕ) → (current core).start ≡ Some start → IsReader r start → r.start ≤ length r.manager.now.journal
  reader_started r start opened reader =
      let begun : start ≤ length core.journal = (is.store.transactions.each (name_here core) (record { start = start; writes = (current core).own }) (here_running core start opened)).started in
      let same : length r.manager.now.journal ≡ length core.journal = ap (λ (m : Manager). length m.journal) reader.manager ∙ ap length is.tied.journal in
      let at : r.start ≡ start = reader.start_is in
      omega (arith, begun, same, at)

  -- and who stands against its write, by the definition over all open transactions and the journal
  pub reader_conflicts : (r : Reader) (start : ℕ) → (current core).start ≡ Some start → IsReader r start → (w : Write) → cause_for r (looked w (contents_of rows)) ≡ conflict_here core start w
  reader_conflicts r start opened reader w =
      (λ i. check (live i) (stamp_in (journal i)) (reader.start_is i) (reader.by i) (looked w (contents_of rows)))
      ∙ check_is_conflict core.kind core.journal (running_in core) is.horizon (contents_of rows) is.store (name_here core) (record { start = start; writes = (current core).own }) (here_running core start opened) w (open_txns core) (here_listed core)
    where
      journal : r.manager.now.journal ≡ core.journal
      journal = ap (λ (m : Manager). m.journal) reader.manager ∙ is.tied.journal

      live : ◌≡◌ {A = TxnName → Bool} (λ n. is_some (open_start r.manager.now n)) (λ n. is_some (running_in core n))
      live = λ i n. (ap (λ (m : Manager). is_some (open_start m n)) reader.manager ∙ same_open core m is.tied n) i

  -- ---- calls that change no transaction

  -- the manager has the same transactions still, where the selected pass has
  pub tied_same : (state : PassState) → state.begun ≡ (current core).begun → state.start ≡ (current core).start → state.allowed ≡ (current core).allowed → AreTied (with_current core state) m
  tied_same state begun start allowed = record {
    journal = is.tied.journal;
    count = is.tied.count ∙ sym (length-set core.passes core.selected state);
    each = λ p. is.tied.each p ∙ same p;
    allowed = λ p lt. allowed_at p (omega (arith, lt, length-set core.passes core.selected state));
  }
    where
      same : (p : ℕ) → txns_in (pass_at core p) ≡ txns_in (pass_at (with_current core state) p)
      same p = (elim (p == core.selected) as (λ t. (p == core.selected) ≡ t → txns_in (pass_at core p) ≡ txns_in (cond t state (pass_at core p))) [
        | true ↦ λ e. let here : p ≡ core.selected = grind (arith, nat_tests) in ap (λ q. txns_in (pass_at core q)) here ∙ (λ i. record { begun = sym begun i; start = sym start i })
        | false ↦ λ e. refl
      ] refl) ∙ ap txns_in (sym (pass_set core is.chosen state p))

      allowed_at : (p : ℕ) → p < length core.passes → (pass_at (with_current core state) p).allowed ≡ m.allowed
      allowed_at p lt = ap (λ (s : PassState). s.allowed) (pass_set core is.chosen state p) ∙ (elim (p == core.selected) as (λ t. (cond t state (pass_at core p)).allowed ≡ m.allowed) [
        | true ↦ allowed ∙ is.tied.allowed core.selected is.chosen
        | false ↦ is.tied.allowed p lt
      ])

  pub kept_noted : (state : PassState) → state.start ≡ (current core).start → state.own ≡ (current core).own → state.begun ≡ (current core).begun → state.made ≡ (current core).made → state.allowed ≡ (current core).allowed
      → IsKept (with_current core state) m rows
  kept_noted state start own begun made allowed = record {
    horizon = is.horizon;
    store = subst (λ (r : TxnName → Option Running). IsPlainStore core.kind core.journal r is.horizon (contents_of rows)) (sym (same_running core is.chosen state begun run)) is.store;
    chosen = omega (arith, is.chosen, length-set core.passes core.selected state);
    tied = tied_same state begun start allowed;
    used = by_pass core is.chosen state (λ s. s.begun ≤ s.allowed) (omega (arith, begun, allowed, is.used core.selected)) is.used;
    made = λ p. by_pass core is.chosen state (λ s. (at : ℕ) → s.start ≡ Some at → 0 < length s.made) (λ at e. subst (λ (ws : List (List Write)). 0 < length ws) (sym made) (is.made core.selected at (sym start ∙ e))) is.made p;
    weight_is = omega (arith, is.weight_is, counted_set core is.chosen state, ap (part core.kind) made);
    limit = is.limit;
    some = is.some;
    few = is.few;
  }
    where
      run : Rattle.graph_model.specs.OwnerCalls.running_of state ≡ running_of (current core)
      run = λ i. option_map (λ s. record { start = s; writes = own i }) (start i)

  pub kept_selected : (other : ℕ) → other < length core.passes → IsKept (record core { selected = other }) m rows
  kept_selected other below = record { horizon = is.horizon; store = is.store; chosen = below; tied = record { journal = is.tied.journal; count = is.tied.count; each = is.tied.each; allowed = is.tied.allowed }; used = is.used; made = is.made; weight_is = is.weight_is; limit = is.limit; some = is.some; few = is.few }

  pub kept_served : (served : ℕ) → IsKept (record core { served = served }) m rows
  kept_served served = record { horizon = is.horizon; store = is.store; chosen = is.chosen; tied = record { journal = is.tied.journal; count = is.tied.count; each = is.tied.each; allowed = is.tied.allowed }; used = is.used; made = is.made; weight_is = is.weight_is; limit = is.limit; some = is.some; few = is.few }

  -- rows that say the same, and are no more
  pub kept_moved : (rows' : Leaves) → KeepsContents rows rows' → IsKept core m rows'
  kept_moved rows' keeps = record {
    horizon = is.horizon;
    store = owner_moved core.kind core.journal (running_in core) is.horizon (contents_of rows) is.store (contents_of rows') keeps.contents;
    chosen = is.chosen;
    tied = is.tied;
    used = is.used;
    made = is.made;
    weight_is = let less = keeps.weight in let most = is.weight_is in omega (arith, most, less);
    limit = keeps.limit ∙ is.limit;
    some = is.some;
    few = is.few;
  }

  -- rows of which some are pruned, where no open transaction began below
  pub kept_swept : (rows' : Leaves) (at : ℕ) → at ≤ length m.journal → ((by : TxnName) (t : Running) → running_in core by ≡ Some t → at ≤ t.start)
      → ((k : Key) → (contents_of rows' k ≡ contents_of rows k) ⊎ (contents_of rows' k ≡ prune (stamp_in m.journal) at (contents_of rows k)))
      → rows'.limit ≡ rows.limit → weight rows' ≤ weight rows → IsKept core m rows'
  kept_swept rows' at within below each limit less = record {
    horizon = at + (is.horizon - at);
    store = store_pruned core.kind core.journal (running_in core) (own_of (running_in core)) (touching_of (running_in core)) is.horizon (contents_of rows) is.store
        at (at + (is.horizon - at)) (contents_of rows') (omega arith) (omega arith)
        (let clock : length m.journal ≡ length core.journal = ap length is.tied.journal in omega (arith, within, clock, is.store.transactions.behind))
        (λ by t runs. let new = below by t runs in let old = (is.store.transactions.each by t runs).pinned in omega (arith, new, old))
        (λ k. whole_pruned (stamp_in core.journal) at (contents_of rows k) (contents_of rows' k)
        (subst (λ journal. (contents_of rows' k ≡ contents_of rows k) ⊎ (contents_of rows' k ≡ prune (stamp_in journal) at (contents_of rows k))) is.tied.journal (each k)));
    chosen = is.chosen;
    tied = is.tied;
    used = is.used;
    made = is.made;
    weight_is = let most = is.weight_is in omega (arith, most, less);
    limit = limit ∙ is.limit;
    some = is.some;
    few = is.few;
  }

  -- ---- begin

  pub kept_begun : (state : PassState) (m' : Manager) (spare : ℕ) → (current core).start ≡ None → (current core).begun < (current core).allowed → HasNotCommitted core.journal (record { job = core.selected; number = (current core).begun + 1 })
      → state ≡ begun_pass core → m' ≡ record (opened m core.selected) { spare = spare } → IsKept (with_current core state) m' rows
  kept_begun state m' spare closed room unnamed is_state is_m = subst (λ (n : Manager). IsKept (with_current core state) n rows) (sym is_m) (subst (λ (s : PassState). IsKept (with_current core s) (record (opened m core.selected) { spare = spare }) rows) (sym is_state) begun)
    where
      s : PassState
      s = begun_pass core

      counts : (txns_of m core.selected).begun ≡ (current core).begun
      counts = ap (λ (t : PassTxns). t.begun) (is.tied.each core.selected)

      tied : AreTied (with_current core s) (opened m core.selected)
      tied = tied_set core is.chosen s m is.tied (record { begun = (txns_of m core.selected).begun + 1; start = Some (length m.journal) }) (λ i. record { begun = counts i + 1; start = Some (length (is.tied.journal i)) }) refl

      begun : IsKept (with_current core s) (record (opened m core.selected) { spare = spare }) rows
      begun = record {
        horizon = is.horizon;
        store = owner_begun core.kind core.journal (running_in core) is.horizon (contents_of rows) is.store (record { job = core.selected; number = (current core).begun + 1 }) (running_in (with_current core s))
            (next_changes core is.chosen s closed) (here_closed core ((current core).begun + 1) closed) unnamed;
        chosen = omega (arith, is.chosen, length-set core.passes core.selected s);
        tied = record { journal = tied.journal; count = tied.count; each = tied.each; allowed = tied.allowed };
        used = by_pass core is.chosen s (λ s. s.begun ≤ s.allowed) (omega (arith, room)) is.used;
        made = λ p. by_pass core is.chosen s (λ s. (at : ℕ) → s.start ≡ Some at → 0 < length s.made) (λ at e. longer (current core).made) is.made p;
        weight_is = omega (arith, is.weight_is, counted_set core is.chosen s, part_begun core.kind (current core).made);
        limit = is.limit;
        some = is.some;
        few = is.few;
      }
        where
          longer : (ws : List (List Write)) → 0 < length (ws ++ [] ∷ [])
          longer [] = omega arith
          longer (w ∷ ws) = omega arith

  -- ---- writes

  module _ (start : ℕ) (opened : (current core).start ≡ Some start) where
    -- an open transaction's rows are in the store under its name
    abbrev run : Running
    run = record { start = start; writes = (current core).own }

    -- its writes are within their limits
    pub kept_within : AllByRecursion IsWithinLimits (current core).own
    kept_within = (is.store.transactions.each (name_here core) run (here_running core start opened)).within

    pub kept_written : (w : Write) (state : PassState) (rows' : Leaves) → IsWithinLimits w
        → refused (view_of (account_here core) start) w ≡ None → conflict_here core start w ≡ None
        → state ≡ written_pass core w
        → ((q : Key) → contents_of rows' q ≡ after_write core.kind (name_here core) w q (contents_of rows q)) → weight rows' ≤ weight rows + inserted_by core.kind w → rows'.limit ≡ rows.limit
        → IsKept (with_current core state) m rows'
    kept_written w state rows' within allowed none is_state laid more same_limit = subst (λ (s : PassState). IsKept (with_current core s) m rows') (sym is_state) (record {
      horizon = is.horizon;
      store = owner_written core.kind core.journal (running_in core) is.horizon (contents_of rows) is.store (name_here core) run (here_running core start opened) w (running_in (with_current core s)) (contents_of rows')
          (subst (λ (r : Option Running). Changes (name_here core) (running_in core) (running_in (with_current core s)) r) going (here_changes core is.chosen s refl))
          allowed within free.holder free.later laid;
      chosen = omega (arith, is.chosen, length-set core.passes core.selected s);
      tied = same_tied;
      used = by_pass core is.chosen s (λ s. s.begun ≤ s.allowed) (is.used core.selected) is.used;
      made = λ p. by_pass core is.chosen s (λ s. (at : ℕ) → s.start ≡ Some at → 0 < length s.made) (λ at e. some_made) is.made p;
      weight_is = omega (arith, is.weight_is, more, counted_set core is.chosen s, part_written core.kind (current core).made w some_before);
      limit = same_limit ∙ is.limit;
      some = is.some;
      few = is.few;
    })
      where
        s : PassState
        s = written_pass core w

        going : running_of s ≡ Some (record { start = start; writes = (current core).own ++ w ∷ [] })
        going = ap (option_map (λ at. record { start = at; writes = (current core).own ++ w ∷ [] })) opened

        free : MeetsNobody core.kind core.journal (running_in core) (own_of (running_in core)) (name_here core) start w
        free = check_allows core.kind core.journal (running_in core) is.horizon (contents_of rows) is.store (name_here core) run (here_running core start opened) w
            (check_is_conflict core.kind core.journal (running_in core) is.horizon (contents_of rows) is.store (name_here core) run (here_running core start opened) w (open_txns core) (here_listed core) ∙ none)

        some_before : 0 < length (current core).made
        some_before = is.made core.selected start opened

        some_made : 0 < length (last_with (current core).made w)
        some_made = omega (arith, some_before, written_length (current core).made w)

        same_tied : AreTied (with_current core s) m
        same_tied = tied_same s refl refl refl

    -- ---- the end

    ended_tied : AreTied (with_current core (ended_pass core)) (ended m (name_here core))
    ended_tied = tied_set core is.chosen (ended_pass core) m is.tied (record { begun = (txns_of m core.selected).begun; start = None })
        (λ i. record { begun = (is.tied.each core.selected i).begun; start = None }) refl

    pub kept_aborted : (state : PassState) (m' : Manager) (rows' : Leaves) → state ≡ ended_pass core → m' ≡ ended m (name_here core)
        → ((q : Key) → contents_of rows' q ≡ undone core.kind (name_here core) (current core).own q (contents_of rows q)) → weight rows' ≤ weight rows → rows'.limit ≡ rows.limit
        → IsKept (with_current core state) m' rows'
    kept_aborted state m' rows' is_state is_m gone fewer same_limit = subst (λ (n : Manager). IsKept (with_current core state) n rows') (sym is_m) (subst (λ (s : PassState). IsKept (with_current core s) (ended m (name_here core)) rows') (sym is_state) (record {
      horizon = is.horizon;
      store = owner_aborted core.kind core.journal (running_in core) is.horizon (contents_of rows) is.store (name_here core) run (here_running core start opened) (running_in (with_current core s)) (contents_of rows')
          (here_changes core is.chosen s refl) gone;
      chosen = omega (arith, is.chosen, length-set core.passes core.selected s);
      tied = ended_tied;
      used = by_pass core is.chosen s (λ s. s.begun ≤ s.allowed) (is.used core.selected) is.used;
      made = λ p. by_pass core is.chosen s (λ s. (at : ℕ) → s.start ≡ Some at → 0 < length s.made) (λ at e. cc) is.made p;
      weight_is = omega (arith, is.weight_is, fewer, counted_set core is.chosen s);
      limit = same_limit ∙ is.limit;
      some = is.some;
      few = is.few;
    }))
      where
        s : PassState
        s = ended_pass core

    pub kept_committed : (state : PassState) (m' : Manager) (spare : ℕ) → 0 < length (current core).own → state ≡ ended_pass core → m' ≡ record (committed m (name_here core) (current core).own) { spare = spare }
        → IsKept (record (with_current core state) { journal = core.journal ++ commit_of core.journal (name_here core) run ∷ [] }) m' rows
    kept_committed state m' spare wrote is_state is_m = subst (λ (n : Manager). IsKept (record (with_current core state) { journal = after }) n rows) (sym is_m)
        (subst (λ (s : PassState). IsKept (record (with_current core s) { journal = after }) (record (committed m (name_here core) (current core).own) { spare = spare }) rows) (sym is_state) (record {
          horizon = is.horizon;
          store = owner_committed core.kind core.journal (running_in core) is.horizon (contents_of rows) is.store (name_here core) run (here_running core start opened) (running_in (with_current core s))
              (here_changes core is.chosen s refl) wrote;
          chosen = omega (arith, is.chosen, length-set core.passes core.selected s);
          tied = record { journal = journal_is; count = ended_tied.count; each = ended_tied.each; allowed = ended_tied.allowed };
          used = by_pass core is.chosen s (λ s. s.begun ≤ s.allowed) (is.used core.selected) is.used;
          made = λ p. by_pass core is.chosen s (λ s. (at : ℕ) → s.start ≡ Some at → 0 < length s.made) (λ at e. cc) is.made p;
          weight_is = omega (arith, is.weight_is, counted_set core is.chosen s);
          limit = is.limit;
          some = is.some;
          few = is.few;
        }))
      where
        s : PassState
        s = ended_pass core

        after : List Commit
        after = core.journal ++ commit_of core.journal (name_here core) run ∷ []

        started : unwrap_or (open_start m (name_here core)) 0 ≡ start
        started = ap (λ (t : PassTxns). unwrap_or (cond ((current core).begun == t.begun) t.start None) 0) (is.tied.each core.selected)
            ∙ (let self : ((current core).begun == (current core).begun) ≡ true = grind (arith, nat_tests) in ap (λ t. unwrap_or (cond t (current core).start None) 0) self) ∙ ap (λ x. unwrap_or x 0) opened

        journal_is : m.journal ++ commit_of m.journal (name_here core) (record { start = unwrap_or (open_start m (name_here core)) 0; writes = (current core).own }) ∷ [] ≡ after
        journal_is = λ i. is.tied.journal i ++ commit_of (is.tied.journal i) (name_here core) (record { start = started i; writes = (current core).own }) ∷ []

-- where no pass has an open transaction there is none
pub none_runs : (core : Core) → NoneOpen core → (by : TxnName) → running_in core by ≡ None
none_runs core none by = closed (by.number == (pass_at core by.job).begun)
  where
    closed : (t : Bool) → cond t (running_of (pass_at core by.job)) None ≡ None
    closed true = ap (λ x. option_map (λ start. record { start = start; writes = (pass_at core by.job).own }) x) (none by.job)
    closed false = refl

-- and nothing is laid beside the journal
module _ (core : Core) (m : Manager) (rows : Leaves) (is : IsKept core m rows) (none : NoneOpen core) where
  idle : (by : TxnName) → own_of (running_in core) by ≡ []
  idle by = closed (by.number == (pass_at core by.job).begun)
    where
      closed : (t : Bool) → writes_of_running (cond t (running_of (pass_at core by.job)) None) ≡ []
      closed true = ap (λ x. writes_of_running (option_map (λ start. record { start = start; writes = (pass_at core by.job).own }) x)) (none by.job)
      closed false = refl

  -- all rows are pruned at the newest stamp
  module _ (rows' : Leaves) (pruned : (k : Key) → contents_of rows' k ≡ prune (stamp_in m.journal) (length m.journal) (contents_of rows k)) where
    here : (k : Key) → contents_of rows' k ≡ prune (stamp_in core.journal) (length core.journal) (contents_of rows k)
    here k = pruned k ∙ ap (λ journal. prune (stamp_in journal) (length journal) (contents_of rows k)) is.tied.journal

    pub kept_settled : rows'.limit ≡ rows.limit → weight rows' ≤ weight rows → IsKept core m rows'
    kept_settled limit less = record {
      horizon = length core.journal;
      store = store_pruned core.kind core.journal (running_in core) (own_of (running_in core)) (touching_of (running_in core)) is.horizon (contents_of rows) is.store
          (length core.journal) (length core.journal) (contents_of rows') (omega arith) is.store.transactions.behind (omega arith)
          (λ by t runs. let no : ◌≡◌ {A = Option Running} None (Some t) = sym (none_runs core none by) ∙ runs in cc)
          (λ k. whole_pruned (stamp_in core.journal) (length core.journal) (contents_of rows k) (contents_of rows' k) (inr (here k)));
      chosen = is.chosen;
      tied = is.tied;
      used = is.used;
      made = is.made;
      weight_is = let most = is.weight_is in omega (arith, most, less);
      limit = limit ∙ is.limit;
      some = is.some;
      few = is.few;
    }

    -- so each key has the newest graph's value, and nothing besides
    pub all_settled : AreSettled rows' (newest_graph core)
    all_settled k = here k
        ∙ row_settled core.kind core.journal (running_in core) (own_of (running_in core)) (touching_of (running_in core)) is.horizon (contents_of rows) is.store
        idle (λ by q. ap (λ ws. any_touches ws q) (idle by)) k
