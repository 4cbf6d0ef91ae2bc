-- What the check of a write finds, from what the pass has learnt of the rows that it holds.
use Rattle.std.proofs.Common.{◌≡◌, ◌⊎◌, inl, inr, ℕ, ◌+◌, ◌<◌, ◌≤◌, List, [], ◌∷◌, length, refl, sym, ◌∙◌, ap, subst, cond, arith}
use Rattle.std.specs.Prelude.{Bool, true, false, ◌==◌, Option, Some, None, Result, Ok, Err}
use Rattle.std.specs.List.{AllByRecursion}
use Rattle.graph_model.specs.declared.journal.TxnName.{TxnName}
use Rattle.graph_model.specs.declared.refusal.Cause.{Cause}
use Rattle.graph_model.specs.declared.refusal.Cause.TheVariants.{Later, Holder}
use Rattle.graph_model.specs.declared.refusal.Refusal.{Refusal}
use Rattle.graph_model.specs.declared.refusal.Refusal.TheVariants as refusals
use Rattle.graph_model.specs.declared.row.Key.{Key}
use Rattle.graph_model.specs.declared.state.State.TheVariants.{Aborted, Committed}
use Rattle.graph_model.specs.declared.write.Write.{Write}
use Rattle.graph_model.specs.declared.write.Write.TheVariants.{AddVertex, DropVertex, AddEdge, SetEdge, DropEdge}
use Rattle.graph_model.specs.Graph.{Graph, has_arc, has_edges, has_vertex}
use Rattle.graph_model.specs.Refused.{refused}
use Rattle.graph_model.specs.Transactions.{reached, stamp_in}
use Rattle.txn_manager.specs.declared.config.Config.{Config}
use Rattle.store_model.specs.Check.{MayWrite, looks_at}
use Rattle.store_model.specs.Stamped.{Stamped, forget_row, read_stamped}
use Rattle.store_model.specs.Versions.{sees}
use Rattle.undo_chain.specs.declared.states.Snapshot.{Snapshot}
use Rattle.undo_chain.specs.States.{Knowledge}
use Rattle.pass_prunes.specs.VersionSegment.Checks.{IsChecked, IsNamed}
use Rattle.pass_prunes.specs.RowWrites.Checks.{AreNamedHeld, Answers, IsAnswer, ShowsHeld, TellsEdges, answer_of, looked_at, looked_keys}
use Rattle.pass_prunes.specs.RowWrites.Held.{AreHeld, HeldRows}
use Rattle.seat_views.specs.Keeping.{kept_at}
use Rattle.pass_prunes.specs.StoreRelation.CheckLaws.{AreSeen, IsRightFor}
use Rattle.pass_prunes.specs.StoreRelation.Passes.{PassState, name_at}
use Rattle.pass_prunes.specs.StoreRelation.Readers.{reader_of}
use Rattle.pass_prunes.specs.StoreRelation.Rows.{HasRecord}
use Rattle.pass_prunes.specs.StoreRelation.Words.{Look, has_word}
use Rattle.pass_prunes.proofs.StoreRelation.CheckLemmas.{checked_cause, checked_free, holder_cause, later_cause}
use Rattle.pass_prunes.specs.CellsModel.Cells.{CellState}
use Rattle.pass_prunes.specs.RuleModel.NoteSteps.{HasRecordIn, HasRow, LearnsRows, LooksAtRecord}
use Rattle.pass_prunes.specs.RuleModel.Sight.{Sight}
use Rattle.pass_prunes.specs.StoreRuleDeclared.store.Pass.{Pass}
use Rattle.pass_prunes.specs.StoreRuleDeclared.store.Store.{Store}
use Rattle.pass_prunes.specs.PassCellsDeclared.taken.TakenCell.{TakenCell}
use Rattle.pass_prunes.specs.PassCells.Holding.{AreSameRows, RowsAreKnown}
use Rattle.pass_prunes.specs.PassCells.Taken.{held_rows}
use Rattle.pass_prunes.specs.PassSteps.Asking.{Asking, IsSnapshotOf, KnowsLooks, asking_of, is_writer, knowledge_at, lent_part}
use Rattle.pass_prunes.specs.PassSteps.Passes.{reader_of_pass, state_in, state_of}
use Rattle.pass_prunes.proofs.PassSteps.PassLemmas.{pass_has_looked}
use Rattle.pass_prunes.proofs.PassSteps.WriterLemmas.{writers_named}
use Rattle.pass_writes.specs.Hand.{HasInHand}
use Rattle.pass_writes.specs.Found.{Finds, MayBeMade, MeetsCommit, MeetsOpen, view_of}
use Rattle.pass_writes.proofs.LookedLemmas.{IsLooked, all_at, all_looked, rows_may}

-- ---- what a view refuses

-- no conflict, no want of places and none of memory
abbrev IsOfView : Refusal → Type 0
IsOfView refusals.SelfLoop = Unit {0}
IsOfView (refusals.NoVertex v) = Unit {0}
IsOfView refusals.VertexExists = Unit {0}
IsOfView refusals.EdgeExists = Unit {0}
IsOfView refusals.NoEdge = Unit {0}
IsOfView refusals.HasEdges = Unit {0}
IsOfView (refusals.Conflict cause) = ⊥
IsOfView (refusals.Full leaves) = ⊥
IsOfView refusals.NoMemory = ⊥

abbrev AllOfView : Option Refusal → Type 0
AllOfView None = Unit {0}
AllOfView (Some refusal) = IsOfView refusal

ends_of_view : (loop source target : Bool) (u v : ℕ) (answer : Option Refusal) → AllOfView answer
    → AllOfView (cond loop (Some refusals.SelfLoop) (cond source (cond target answer (Some (refusals.NoVertex v)))
    (Some (refusals.NoVertex u))))
ends_of_view true source target u v answer is = tt
ends_of_view false true true u v answer is = is
ends_of_view false true false u v answer is = tt
ends_of_view false false target u v answer is = tt

refused_of_view : (g : Graph) (w : Write) → AllOfView (refused g w)
refused_of_view g (AddVertex v) = by_test (has_vertex g v)
  where
    by_test : (t : Bool) → AllOfView (cond t (Some refusals.VertexExists) None)
    by_test true = tt
    by_test false = tt
refused_of_view g (DropVertex v) = by_test (has_vertex g v) (has_edges g v)
  where
    by_test : (t e : Bool) → AllOfView (cond t (cond e (Some refusals.HasEdges) None) (Some (refusals.NoVertex v)))
    by_test true true = tt
    by_test true false = tt
    by_test false e = tt
refused_of_view g (AddEdge u v weight) =
    ends_of_view (u == v) (has_vertex g u) (has_vertex g v) u v (cond (has_arc g u v) (Some refusals.EdgeExists) None)
    (by_test (has_arc g u v))
  where
    by_test : (t : Bool) → AllOfView (cond t (Some refusals.EdgeExists) None)
    by_test true = tt
    by_test false = tt
refused_of_view g (SetEdge u v weight) =
    ends_of_view (u == v) (has_vertex g u) (has_vertex g v) u v (cond (has_arc g u v) None (Some refusals.NoEdge))
    (by_test (has_arc g u v))
  where
    by_test : (t : Bool) → AllOfView (cond t None (Some refusals.NoEdge))
    by_test true = tt
    by_test false = tt
refused_of_view g (DropEdge u v) =
    ends_of_view (u == v) (has_vertex g u) (has_vertex g v) u v (cond (has_arc g u v) None (Some refusals.NoEdge))
    (by_test (has_arc g u v))
  where
    by_test : (t : Bool) → AllOfView (cond t None (Some refusals.NoEdge))
    by_test true = tt
    by_test false = tt

-- an answer is the view's refusal, or a conflict
answer_cases : (x : Option Refusal) (y : Option Cause) (refusal : Refusal) → AllOfView x
    → answer_of x y ≡ Some refusal
    → ((x ≡ Some refusal) × IsOfView refusal)
    ⊎ ((x ≡ None) × (cause : Cause) × (y ≡ Some cause) × (refusal ≡ refusals.Conflict cause))
answer_cases None None refusal of_view is = cc
answer_cases None (Some cause) refusal of_view is = inr (refl, cause, refl, same (refusals.Conflict cause) refusal is)
  where
    same : (a b : Refusal) → ◌≡◌ {A = Option Refusal} (Some a) (Some b) → b ≡ a
    same a b e = cc
answer_cases (Some r) y refusal of_view is = inl (is, subst IsOfView (same r refusal is) of_view)
  where
    same : (a b : Refusal) → ◌≡◌ {A = Option Refusal} (Some a) (Some b) → a ≡ b
    same a b e = cc

none_answers : (x : Option Refusal) (y : Option Cause) → answer_of x y ≡ None → (x ≡ None) × (y ≡ None)
none_answers None None is = (refl, refl)
none_answers None (Some cause) is = cc
none_answers (Some r) y is = cc

-- ---- what is known of the rows that are held

module _ (z : Config) (v : Sight) (p : ℕ) (st : PassState) (c : HeldRows) (same : AreSameRows z v c) (n : ℕ)
    (learnt : LearnsRows z v (reader_of (λ _. st) p) n) where
  abbrev snapshot_of : Snapshot
  snapshot_of = record { start = st.start; own = name_at p st }

  -- they show the view
  pub shows : ShowsHeld (stamp_in st.seen) snapshot_of c (view_of z.kind st)
  shows k held = let r = same.known k held in
      ap (read_stamped (stamp_in st.seen) st.start (name_at p st)) r.3 ∙ learnt.reads r.0 r.1 k r.2

  -- and their writers may be asked for
  pub named : AreNamedHeld (is_writer z v) c
  named k held = let r = same.known k held in
      subst (IsNamed (is_writer z v)) (sym r.3) (writers_named z v learnt.writers r.0 r.1 k r.2)

  record_in : (k : Key) → c.holds k ≡ true → (x : Stamped) → HasRecord (c.versions k) x
      → (i : ℕ) × (d : CellState) × HasRecordIn z v i d k x
  record_in k held x there = let r = same.known k held in
      (r.0, r.1, record { row = r.2; there = subst (λ vs. HasRecord vs x) r.3 there })

  -- ---- the check

  module _ (w : Write) (held : AreHeld c (looked_keys w)) (old new : Knowledge) (stamps : old.stamps ≡ stamp_in st.seen)
      (known : old.known ≡ length st.seen) (within : st.start ≤ length st.seen) where
    all : AllByRecursion (IsLooked c w) (looked_at w c.versions)
    all = all_looked c w held

    right : (xs : List Stamped) → AllByRecursion (IsLooked c w) xs
        → AllByRecursion (IsRightFor old.stamps st.start) xs
    right [] each = tt
    right (x ∷ xs) each = (
      λ d e. let r = record_in each.0.key each.0.held x each.0.there in
          (λ i. reached (stamps i x.by) st.start) ∙ learnt.stamps r.0 r.1 each.0.key x r.2 d e,
      right xs each.1,
    )

    -- a record of one at whom the write looks
    looks_at_it : (x : Stamped) → IsLooked c w x → LooksAtRecord z v w x
    looks_at_it x it =
        let r = same.known it.key it.held in
        record {
          number = r.0;
          cell = r.1;
          key = it.key;
          record_in = record { row = r.2; there = subst (λ vs. HasRecord vs x) r.3 it.there };
          looks = (λ i. looks_at w it.key (forget_row (sym r.3 i)) x.by) ∙ it.looks;
        }

    -- FREE
    pub check_free : ((m : TxnName) → new.vouched m Aborted ≡ false) → refused (view_of z.kind st) w ≡ None
        → IsChecked old new snapshot_of (looked_at w c.versions) None → MayBeMade z v p st w
    check_free none allowed checked = record {
      allowed = allowed;
      may = λ k d q row looks. let h = same.held k d q row in
          subst (λ vs. MayWrite z.kind (sees (stamp_in st.seen) st.start (name_at p st)) w q (forget_row vs)) h.1
          (rows_may z.kind (sees (stamp_in st.seen) st.start (name_at p st)) c.versions w seen q looks);
    }
      where
        seen : AreSeen (sees (stamp_in st.seen) st.start (name_at p st)) (looked_at w c.versions)
        seen = subst (λ (f : TxnName → Option ℕ). AreSeen (sees f st.start (name_at p st)) (looked_at w c.versions))
            stamps (checked_free old new snapshot_of
            (subst (λ m. st.start ≤ m) (sym known) within) none (looked_at w c.versions) checked
            (right (looked_at w c.versions) all))

    module _ (allowed : refused (view_of z.kind st) w ≡ None) where
      -- HOLDER
      pub check_holder : (by : TxnName) → IsChecked old new snapshot_of (looked_at w c.versions) (Some (Holder by))
          → MeetsOpen z v p st w by
      check_holder by checked =
          let it = checked_cause old new snapshot_of (looked_at w c.versions) (Holder by) checked in
          let is = holder_cause old new snapshot_of (looked_at w c.versions) by it in
          let looked = all_at (IsLooked c w) (looked_at w c.versions) it.place it.stamped all it.at in
          let found = record_in looked.key looked.held it.stamped looked.there in
          record {
            allowed = allowed;
            other = λ job. learnt.others found.0 found.1 looked.key it.stamped found.2 is.1 is.2
                ((λ i. (is.0 i).job) ∙ job);
            meets = record {
              stamped = it.stamped;
              looks = looks_at_it it.stamped looked;
              writer = is.0;
              unseen = (λ i. reached (stamp_in st.seen (sym is.0 i)) st.start)
                  ∙ (λ i. reached (sym stamps i it.stamped.by) st.start)
                  ∙ (λ i. reached (is.3 i) st.start);
            };
          }

      -- LATER, where each word that is vouched for is kept
      pub check_later : (ls : List Look)
          → ((by : TxnName) (d : ℕ) → new.vouched by (Committed d) ≡ true → has_word ls by (d + 2) ≡ true)
          → (stamp : ℕ) → IsChecked old new snapshot_of (looked_at w c.versions) (Some (Later stamp))
          → MeetsCommit z v (record st { looks = ls }) w stamp
      check_later ls kept stamp checked =
          let it = checked_cause old new snapshot_of (looked_at w c.versions) (Later stamp) checked in
          let is = later_cause old new snapshot_of (looked_at w c.versions) stamp it in
          let behind : st.start < stamp = is.0 in
          let looked = all_at (IsLooked c w) (looked_at w c.versions) it.place it.stamped all it.at in
          record {
            allowed = allowed;
            behind = is.0;
            meets = record {
              stamped = it.stamped;
              looks = looks_at_it it.stamped looked;
              found = elim is.1 as (λ _. (it.stamped.stamp ≡ Some stamp)
                  ⊎ ((it.stamped.stamp ≡ None) × (has_word ls it.stamped.by (stamp + 2) ≡ true) × (0 < stamp))) [
                    | inl e ↦ inl e
                    | inr e ↦ inr (e.0, kept it.stamped.by stamp e.1, omega (arith, behind))
                  ];
            };
          }

    -- each answer
    module _ (ls : List Look) (none : (m : TxnName) → new.vouched m Aborted ≡ false)
        (kept : (by : TxnName) (d : ℕ) → new.vouched by (Committed d) ≡ true → has_word ls by (d + 2) ≡ true) where
      abbrev now : PassState
      now = record st { looks = ls }

      view_refuses : (refusal : Refusal) → IsOfView refusal → refused (view_of z.kind st) w ≡ Some refusal
          → Finds z v p now w (Err refusal)
      view_refuses refusals.SelfLoop is e = e
      view_refuses (refusals.NoVertex q) is e = e
      view_refuses refusals.VertexExists is e = e
      view_refuses refusals.EdgeExists is e = e
      view_refuses refusals.NoEdge is e = e
      view_refuses refusals.HasEdges is e = e
      view_refuses (refusals.Conflict cause) is e = absurd is
      view_refuses (refusals.Full leaves) is e = absurd is
      view_refuses refusals.NoMemory is e = absurd is

      met : (cause : Cause) → refused (view_of z.kind st) w ≡ None
          → IsChecked old new snapshot_of (looked_at w c.versions) (Some cause)
          → Finds z v p now w (Err (refusals.Conflict cause))
      met (Later stamp) allowed checked = check_later allowed ls kept stamp checked
      met (Holder by) allowed checked = let m = check_holder allowed by checked in
          record {
            allowed = m.allowed;
            other = m.other;
            meets = record {
              stamped = m.meets.stamped;
              looks = m.meets.looks;
              writer = m.meets.writer;
              unseen = m.meets.unseen;
            };
          }

      free : refused (view_of z.kind st) w ≡ None
          → IsChecked old new snapshot_of (looked_at w c.versions) None → MayBeMade z v p now w
      free allowed checked = let m = check_free none allowed checked in
          record { allowed = m.allowed; may = m.may }

      refuses : (refusal : Refusal) (a : Answers {X = Unit {0}} old new snapshot_of
          (refused (view_of z.kind st) w) (looked_at w c.versions) (Err refusal)) → Finds z v p now w (Err refusal)
      refuses refusal a =
          let cases = answer_cases (refused (view_of z.kind st) w) a.cause refusal
          (refused_of_view (view_of z.kind st) w) (sym a.is) in
          elim cases as (λ _. Finds z v p now w (Err refusal)) [
            | inl e ↦ view_refuses refusal e.1 e.0
            | inr e ↦ subst (λ r. Finds z v p now w (Err r)) (sym e.3)
                (met e.1 e.0 (subst (IsChecked old new snapshot_of (looked_at w c.versions)) e.2 (a.checked e.0)))
          ]

      -- FOUND
      pub check_found : (result : Result (Unit {0}) Refusal)
          → Answers old new snapshot_of (refused (view_of z.kind st) w) (looked_at w c.versions) result
          → Finds z v p now w result
      check_found (Ok u) a =
          let e = none_answers (refused (view_of z.kind st) w) a.cause (sym a.is) in
          free e.0 (subst (IsChecked old new snapshot_of (looked_at w c.versions)) e.1 (a.checked e.0))
      check_found (Err refusal) a = refuses refusal a

-- ---- the same of a view with the same cells

module _ (z : Config) (v u : Sight) (same : u.cells ≡ v.cells) where
  row_there : (k : ℕ) (c : CellState) (q : Key) → HasRow z v k c q → HasRow z u k c q
  row_there k c q row = record {
    cell = (λ i. kept_at (same i) k) ∙ row.cell;
    inside = row.inside;
    covered = row.covered;
  }

  row_back : (k : ℕ) (c : CellState) (q : Key) → HasRow z u k c q → HasRow z v k c q
  row_back k c q row = record {
    cell = (λ i. kept_at (sym same i) k) ∙ row.cell;
    inside = row.inside;
    covered = row.covered;
  }

  looks_there : (w : Write) (x : Stamped) → LooksAtRecord z v w x → LooksAtRecord z u w x
  looks_there w x l = record {
    number = l.number;
    cell = l.cell;
    key = l.key;
    record_in = record { row = row_there l.number l.cell l.key l.record_in.row; there = l.record_in.there };
    looks = l.looks;
  }

  may_there : (p : ℕ) (st : PassState) (w : Write) → MayBeMade z v p st w → MayBeMade z u p st w
  may_there p st w m = record { allowed = m.allowed; may = λ k c q row. m.may k c q (row_back k c q row) }

  -- SAME
  pub finds_there : (p : ℕ) (st : PassState) (w : Write) (result : Result (Unit {0}) Refusal)
      → Finds z v p st w result → Finds z u p st w result
  finds_there p st w (Ok t) f = may_there p st w f
  finds_there p st w (Err refusals.SelfLoop) f = f
  finds_there p st w (Err (refusals.NoVertex q)) f = f
  finds_there p st w (Err refusals.VertexExists) f = f
  finds_there p st w (Err refusals.EdgeExists) f = f
  finds_there p st w (Err refusals.NoEdge) f = f
  finds_there p st w (Err refusals.HasEdges) f = f
  finds_there p st w (Err (refusals.Conflict (Later stamp))) f = record {
    allowed = f.allowed;
    behind = f.behind;
    meets = record {
      stamped = f.meets.stamped;
      looks = looks_there w f.meets.stamped f.meets.looks;
      found = f.meets.found;
    };
  }
  finds_there p st w (Err (refusals.Conflict (Holder by))) f = record {
    allowed = f.allowed;
    other = f.other;
    meets = record {
      stamped = f.meets.stamped;
      looks = looks_there w f.meets.stamped f.meets.looks;
      writer = f.meets.writer;
      unseen = f.meets.unseen;
    };
  }
  finds_there p st w (Err (refusals.Full leaves)) f = f
  finds_there p st w (Err refusals.NoMemory) f = f

-- ---- the question for edges

-- whoever has looked before gives that answer
pub tells_edges : (post : ℕ → Bool → Type 0) (has : Bool) (g : Graph) (w : Write)
    → ((v : ℕ) (answer : Bool) → post v answer → answer ≡ has)
    → TellsEdges (λ _ answer. answer ≡ has) g w → TellsEdges post g w
tells_edges post has g (AddVertex v) gives told = tt
tells_edges post has g (DropVertex v) gives told = λ answer h. told answer (gives v answer h)
tells_edges post has g (AddEdge u v weight) gives told = tt
tells_edges post has g (SetEdge u v weight) gives told = tt
tells_edges post has g (DropEdge u v) gives told = tt

-- ---- what is found of a write by whoever asks

module _ (rows_are_known : RowsAreKnown) (store : Store) (old new : Pass) (ts : List TakenCell) (clock : ℕ)
    (asking : Asking)
    (is : asking ≡ asking_of store old clock) (hand : HasInHand store old ts)
    (learnt : LearnsRows store.accounts.config old.account.me.0 (reader_of_pass old) clock) (snapshot : Snapshot)
    (of : IsSnapshotOf old snapshot) (lent back : Sight) (lent_is : lent ≡ lent_part old.account.me.0) where
  abbrev z : Config
  z = store.accounts.config

  abbrev v : Sight
  v = old.account.me.0

  abbrev p : ℕ
  p = old.number

  abbrev st : PassState
  st = state_of old

  abbrev c : HeldRows
  c = held_rows ts

  -- what is known by a view
  abbrev know : Sight → Knowledge
  know s = knowledge_at asking.config asking.number asking.clock s

  rows_same : AreSameRows z v c
  rows_same = rows_are_known store old ts hand.holds

  snapshot_is : snapshot ≡ record { start = st.start; own = name_at p st }
  snapshot_is i = record { start = of.start i; own = of.own i }

  seen_is : (state_in lent asking.number).seen ≡ st.seen
  seen_is i = (state_in (lent_is i) (is i).number).seen

  stamps_are : (know lent).stamps ≡ stamp_in st.seen
  stamps_are i = stamp_in (seen_is i)

  known_is : (know lent).known ≡ length st.seen
  known_is i = length (seen_is i)

  -- KNOWN: the start is known
  pub start_known : snapshot.start ≤ (know lent).known
  start_known = subst (λ n. snapshot.start ≤ n) (sym known_is)
      (subst (λ n. n ≤ length st.seen) (sym of.start) of.within)

  -- SHOWN: the rows in hand show the view
  pub shown : ShowsHeld (know lent).stamps snapshot c (view_of z.kind st)
  shown = subst (λ (x : (TxnName → Option ℕ) × Snapshot). ShowsHeld x.0 x.1 c (view_of z.kind st))
      (λ i. (sym stamps_are i, sym snapshot_is i)) (shows z v p st c rows_same clock learnt)

  -- NAMED: whoever is asked for may be
  pub named_asked : AreNamedHeld (know lent).names c
  named_asked =
      subst (λ (f : TxnName → Bool). AreNamedHeld f c) (λ i. is_writer (sym is i).config (sym lent_is i))
      (named z v p st c rows_same clock learnt)

  -- FOUND
  pub found_asking : (w : Write) → AreHeld c (looked_keys w) → (result : Result (Unit {0}) Refusal)
      → IsAnswer (know lent) (know back) snapshot c (view_of z.kind st) w result
      → KnowsLooks old.account.me.0 old new → (state_of new).looks ≡ (state_in back asking.number).looks
      → Finds store.accounts.config new.account.me.0 old.number (state_of new) w result
  found_asking w held result answer looked ls =
      subst (λ (s : PassState). Finds z new.account.me.0 p s w result)
      (sym (pass_has_looked store old new hand.of looked).state)
      (finds_there z v new.account.me.0 looked.looked.cells p (record st { looks = (state_of new).looks }) w result
      (check_found z v p st c rows_same clock learnt w held (know lent) (know back) stamps_are known_is of.within
      (state_of new).looks (λ m. refl) (λ by d h. (λ i. has_word (ls i) by (d + 2)) ∙ h) result
      (subst (λ (s : Snapshot). Answers (know lent) (know back) s (refused (view_of z.kind st) w)
      (looked_at w c.versions) result) snapshot_is answer)))
