-- What a write of the open transaction answers, and what it leaves.
use Rattle.std.proofs.Common.{◌≡◌, ℕ, ◌*◌, ◌≤◌, ◌<◌, List, refl, sym, ◌∙◌, ap, subst, cond, arith, inl, inr}
use Rattle.std.specs.Prelude.{◌⊎◌, Bool, true, false, not, count_by, ◌==◌, Option, Some, None, slice_set, Result, Ok, Err}
use Rattle.graph_model.specs.declared.limits.TheConstants.{SPLIT_ROWS}
use Rattle.graph_model.specs.declared.write.Kind.{Kind}
use Rattle.graph_model.specs.declared.write.Kind.TheVariants.{Directed, Undirected}
use Rattle.graph_model.specs.declared.write.Write.{Write}
use Rattle.graph_model.specs.declared.write.Write.TheVariants.{AddVertex, DropVertex, AddEdge, SetEdge, DropEdge}
use Rattle.graph_model.specs.declared.refusal.Cause.{Cause}
use Rattle.graph_model.specs.declared.refusal.Cause.TheVariants.{Later, Holder}
use Rattle.graph_model.specs.declared.refusal.Refusal.{Refusal}
use Rattle.graph_model.specs.declared.refusal.Refusal.TheVariants as refusals
use Rattle.graph_model.specs.AccountSteps.{view_of, with_cause}
use Rattle.graph_model.specs.Graph.{Graph, has_vertex, has_arc, has_edges}
use Rattle.graph_model.specs.Inserted.{inserts, inserted_by}
use Rattle.graph_model.specs.OwnerCalls.{PassState, Core, current, with_current, account_here, inserted_here, conflict_here, WritesHere, RefusesHere}
use Rattle.graph_model.specs.Refused.{refused, IsWithinLimits}
use Rattle.graph_model.proofs.ViewLemmas.{view_symmetric}
use Rattle.graph_model.proofs.WriteLemmas.{allowed_ends}
use Rattle.txn_manager.specs.Manager.{Manager}
use Rattle.leaf_rows.specs.declared.reader.Reader.{Reader}
use Rattle.leaf_rows.specs.RowWrites.Checks.{answer_of, refusal_in}
use Rattle.leaf_rows.specs.Checks.{IsChecked, FitsKind}
use Rattle.leaf_rows.specs.RowWritesDeclared.written.WrittenRows.{WrittenRows}
use Rattle.leaf_rows.specs.Laying.{MayLay, missing}
use Rattle.leaf_rows.specs.RowWrites.Written.{rows_after, rows_of, written_keys}
use Rattle.leaf_rows.proofs.RowWrites.WrittenLemmas.{after_is, keys_are}
use Rattle.store_model.specs.Layers.{after_write}
use Rattle.leaf_rows.specs.Readers.{Shows}
use Rattle.leaf_rows.specs.LeafStore.Leaves.{Leaves, contents_of, has_row, weight}
use Rattle.teseo_core.specs.Placed.{PlacesWrite}
use Rattle.teseo_core.specs.Passes.{RoomyPass, FindsFull, Puts, noted, sighted_by, with_one_write}
use Rattle.teseo_core.specs.Keeping.{states_of, core_of, IsKept}
use Rattle.teseo_core.proofs.FieldLemmas.{put_core, kept_core, set_same}
use Rattle.teseo_core.proofs.KeepLemmas.{IsReader, reader_shows, reader_conflicts, kept_noted, kept_written, kept_moved}
use Rattle.teseo_core.proofs.RoomLemmas.{vertex_there, missing_few}

-- ---- what a view refuses

-- no conflict, no want of places and none of memory
abbrev IsOfView : Refusal → Type 0
IsOfView refusals.SelfLoop = Unit {0}
IsOfView (refusals.NoVertex v) = Unit {0}
IsOfView refusals.VertexExists = Unit {0}
IsOfView refusals.EdgeExists = Unit {0}
IsOfView refusals.NoEdge = Unit {0}
IsOfView refusals.HasEdges = Unit {0}
IsOfView (refusals.Conflict cause) = ⊥
IsOfView (refusals.Full leaves) = ⊥
IsOfView refusals.NoMemory = ⊥

abbrev AllOfView : Option Refusal → Type 0
AllOfView None = Unit {0}
AllOfView (Some refusal) = IsOfView refusal

ends_of_view : (loop source target : Bool) (u v : ℕ) (answer : Option Refusal) → AllOfView answer
    → AllOfView (cond loop (Some refusals.SelfLoop) (cond source (cond target answer (Some (refusals.NoVertex v))) (Some (refusals.NoVertex u))))
ends_of_view true source target u v answer is = tt
ends_of_view false true true u v answer is = is
ends_of_view false true false u v answer is = tt
ends_of_view false false target u v answer is = tt

refused_of_view : (g : Graph) (w : Write) → AllOfView (refused g w)
refused_of_view g (AddVertex v) = by_test (has_vertex g v)
  where
    by_test : (t : Bool) → AllOfView (cond t (Some refusals.VertexExists) None)
    by_test true = tt
    by_test false = tt
refused_of_view g (DropVertex v) = by_test (has_vertex g v) (has_edges g v)
  where
    by_test : (t e : Bool) → AllOfView (cond t (cond e (Some refusals.HasEdges) None) (Some (refusals.NoVertex v)))
    by_test true true = tt
    by_test true false = tt
    by_test false e = tt
refused_of_view g (AddEdge u v weight) = ends_of_view (u == v) (has_vertex g u) (has_vertex g v) u v (cond (has_arc g u v) (Some refusals.EdgeExists) None) (by_test (has_arc g u v))
  where
    by_test : (t : Bool) → AllOfView (cond t (Some refusals.EdgeExists) None)
    by_test true = tt
    by_test false = tt
refused_of_view g (SetEdge u v weight) = ends_of_view (u == v) (has_vertex g u) (has_vertex g v) u v (cond (has_arc g u v) None (Some refusals.NoEdge)) (by_test (has_arc g u v))
  where
    by_test : (t : Bool) → AllOfView (cond t None (Some refusals.NoEdge))
    by_test true = tt
    by_test false = tt
refused_of_view g (DropEdge u v) = ends_of_view (u == v) (has_vertex g u) (has_vertex g v) u v (cond (has_arc g u v) None (Some refusals.NoEdge)) (by_test (has_arc g u v))
  where
    by_test : (t : Bool) → AllOfView (cond t None (Some refusals.NoEdge))
    by_test true = tt
    by_test false = tt

-- an answer is the view's refusal, or a conflict
answer_cases : (x : Option Refusal) (y : Option Cause) (refusal : Refusal) → AllOfView x → answer_of x y ≡ Some refusal
    → ((x ≡ Some refusal) × IsOfView refusal) ⊎ ((x ≡ None) × (cause : Cause) × (y ≡ Some cause) × (refusal ≡ refusals.Conflict cause))
answer_cases None None refusal of_view is = cc
answer_cases None (Some cause) refusal of_view is = inr (refl, cause, refl, same (refusals.Conflict cause) refusal is)
  where
    same : (a b : Refusal) → ◌≡◌ {A = Option Refusal} (Some a) (Some b) → b ≡ a
    same a b e = cc
answer_cases (Some r) y refusal of_view is = inl (is, subst IsOfView (same r refusal is) of_view)
  where
    same : (a b : Refusal) → ◌≡◌ {A = Option Refusal} (Some a) (Some b) → a ≡ b
    same a b e = cc

-- no answer means that nothing stands against the write
none_answers : (x : Option Refusal) (y : Option Cause) → answer_of x y ≡ None → (x ≡ None) × (y ≡ None)
none_answers None None is = (refl, refl)
none_answers None (Some cause) is = cc
none_answers (Some r) y is = cc

module _ (kind : Kind) (leaves : ℕ) (m : Manager) (passes : List RoomyPass) (selected served : ℕ) (rows : Leaves) (is : IsKept (core_of kind leaves m passes selected served) m rows)
    (r : Reader) (start : ℕ) (opened : (current (core_of kind leaves m passes selected served)).start ≡ Some start) (reader : IsReader (core_of kind leaves m passes selected served) m rows is r start) (w : Write) where
  abbrev core : Core
  core = core_of kind leaves m passes selected served

  abbrev g : Graph
  g = view_of (account_here core) start

  shows : Shows r rows g
  shows = reader_shows core m rows is r start opened reader

  fits : FitsKind kind g
  fits = by_kind kind
    where
      by_kind : (k : Kind) → FitsKind k (view_of (account_here (core_of k leaves m passes selected served)) start)
      by_kind Directed = tt
      by_kind Undirected = view_symmetric m.journal start (current core).own

  answer : {X : Type 0} (result : Result X Refusal) → ((h : Graph) → Shows r rows h → FitsKind kind h → IsChecked r rows h w result) → refusal_in result ≡ answer_of (refused g w) (conflict_here core start w)
  answer result checked = checked g shows fits ∙ ap (answer_of (refused g w)) (reader_conflicts core m rows is r start opened reader w)

  -- ---- a refusal

  same_core : with_current core (current core) ≡ core
  same_core = λ i. record core { passes = set_same (states_of passes) selected (current core) is.chosen refl i }

  refuses : (refusal : Refusal) → answer_of (refused g w) (conflict_here core start w) ≡ Some refusal → (new : Core) → new ≡ with_current core (noted (current core) start w refusal) → RefusesHere core start w refusal new
  refuses refusal at new noted_is = by_case (answer_cases (refused g w) (conflict_here core start w) refusal (refused_of_view g w) at)
    where
      of_view : (e : Refusal) → refused g w ≡ Some e → IsOfView e → new ≡ with_current core (noted (current core) start w e) → RefusesHere core start w e new
      of_view refusals.SelfLoop a b n = (a, n ∙ same_core)
      of_view (refusals.NoVertex v) a b n = (a, n ∙ same_core)
      of_view refusals.VertexExists a b n = (a, n ∙ same_core)
      of_view refusals.EdgeExists a b n = (a, n ∙ same_core)
      of_view refusals.NoEdge a b n = (a, n ∙ same_core)
      of_view refusals.HasEdges a b n = (a, n ∙ same_core)
      of_view (refusals.Conflict cause) a b n = absurd b
      of_view (refusals.Full l) a b n = absurd b
      of_view refusals.NoMemory a b n = absurd b

      sighted_same : (cause : Cause) → sighted_by (current core) start w cause ≡ record (current core) { sighted = (with_cause (account_here core) start w cause).sighted }
      sighted_same (Later stamp) = refl
      sighted_same (Holder by) = refl

      conflicts : (cause : Cause) → refused g w ≡ None → conflict_here core start w ≡ Some cause → new ≡ with_current core (sighted_by (current core) start w cause) → RefusesHere core start w (refusals.Conflict cause) new
      conflicts cause a b n = (a, b, n ∙ ap (with_current core) (sighted_same cause))

      by_case : ((refused g w ≡ Some refusal) × IsOfView refusal) ⊎ ((refused g w ≡ None) × (cause : Cause) × (conflict_here core start w ≡ Some cause) × (refusal ≡ refusals.Conflict cause)) → RefusesHere core start w refusal new
      by_case (inl p) = of_view refusal p.0 p.1 noted_is
      by_case (inr p) = subst (λ e. RefusesHere core start w e new) (sym p.3) (conflicts p.1 p.0 p.2 (noted_is ∙ ap (λ e. with_current core (noted (current core) start w e)) p.3))

  -- a noted refusal keeps the engine, and is what the call answers
  pub refused_kept : (refusal : Refusal) (p p' : RoomyPass) → p.state ≡ current core → p'.state ≡ noted p.state start w refusal
      → IsKept (core_of kind leaves m (slice_set passes selected p') selected served) m rows
  refused_kept refusal p p' here noted_is = subst (λ c. IsKept c m rows) (sym (put_core kind leaves m passes selected served rows is p' m refl))
      (kept_noted core m rows is p'.state (ap (λ (s : PassState). s.start) same ∙ starts refusal) (ap (λ (s : PassState). s.own) same ∙ owns refusal) (ap (λ (s : PassState). s.begun) same ∙ begins refusal) (ap (λ (s : PassState). s.made) same ∙ makes refusal) (ap (λ (s : PassState). s.allowed) same ∙ allows refusal))
    where
      same : p'.state ≡ noted (current core) start w refusal
      same = noted_is ∙ ap (λ s. noted s start w refusal) here

      -- a note changes what was sighted alone
      only : (e : Refusal) → noted (current core) start w e ≡ record (current core) { sighted = (noted (current core) start w e).sighted }
      only refusals.SelfLoop = refl
      only (refusals.NoVertex v) = refl
      only refusals.VertexExists = refl
      only refusals.EdgeExists = refl
      only refusals.NoEdge = refl
      only refusals.HasEdges = refl
      only (refusals.Conflict (Later stamp)) = refl
      only (refusals.Conflict (Holder by)) = refl
      only (refusals.Full l) = refl
      only refusals.NoMemory = refl

      starts : (e : Refusal) → (noted (current core) start w e).start ≡ (current core).start
      starts e = ap (λ (s : PassState). s.start) (only e)

      owns : (e : Refusal) → (noted (current core) start w e).own ≡ (current core).own
      owns e = ap (λ (s : PassState). s.own) (only e)

      begins : (e : Refusal) → (noted (current core) start w e).begun ≡ (current core).begun
      begins e = ap (λ (s : PassState). s.begun) (only e)

      makes : (e : Refusal) → (noted (current core) start w e).made ≡ (current core).made
      makes e = ap (λ (s : PassState). s.made) (only e)

      allows : (e : Refusal) → (noted (current core) start w e).allowed ≡ (current core).allowed
      allows e = ap (λ (s : PassState). s.allowed) (only e)

  pub refused_answer : {X : Type 0} (result : Result X Refusal) → ((h : Graph) → Shows r rows h → FitsKind kind h → IsChecked r rows h w result) → (refusal : Refusal) → result ≡ Err refusal
      → (p p' : RoomyPass) → p.state ≡ current core → p'.state ≡ noted p.state start w refusal
      → WritesHere core w (Err refusal) (core_of kind leaves m (slice_set passes selected p') selected served)
  refused_answer result checked refusal is_err p p' here noted_is = (
    start,
    opened,
    refuses refusal (sym (answer result checked) ∙ ap refusal_in is_err) _ (put_core kind leaves m passes selected served rows is p' m refl ∙ ap (with_current core) (noted_is ∙ ap (λ s. noted s start w refusal) here)),
  )

  -- a write that is refused so isn't full
  pub refused_places : {X : Type 0} (result : Result X Refusal) → ((h : Graph) → Shows r rows h → FitsKind kind h → IsChecked r rows h w result) → (refusal : Refusal) → result ≡ Err refusal
      → (until : ℕ) (found : WrittenRows) (a b : Leaves) → PlacesWrite until found a b (Err refusal)
  refused_places result checked refusal is_err until found a b =
      by_case (answer_cases (refused g w) (conflict_here core start w) refusal (refused_of_view g w) (sym (answer result checked) ∙ ap refusal_in is_err))
    where
      of_view : (e : Refusal) → IsOfView e → PlacesWrite until found a b (Err e)
      of_view refusals.SelfLoop is = tt
      of_view (refusals.NoVertex v) is = tt
      of_view refusals.VertexExists is = tt
      of_view refusals.EdgeExists is = tt
      of_view refusals.NoEdge is = tt
      of_view refusals.HasEdges is = tt
      of_view (refusals.Conflict cause) is = tt
      of_view (refusals.Full l) is = absurd is
      of_view refusals.NoMemory is = tt

      by_case : ((refused g w ≡ Some refusal) × IsOfView refusal) ⊎ ((refused g w ≡ None) × (cause : Cause) × (conflict_here core start w ≡ Some cause) × (refusal ≡ refusals.Conflict cause)) → PlacesWrite until found a b (Err refusal)
      by_case (inl p) = of_view refusal p.1
      by_case (inr p) = subst (λ e. PlacesWrite until found a b (Err e)) (sym p.3) tt

  -- ---- a write that may be made

  module _ {X : Type 0} (result : Result X Refusal) (checked : (h : Graph) → Shows r rows h → FitsKind kind h → IsChecked r rows h w result) (x : X) (is_ok : result ≡ Ok x) where
    nothing : (refused g w ≡ None) × (conflict_here core start w ≡ None)
    nothing = none_answers (refused g w) (conflict_here core start w) (sym (answer result checked) ∙ ap refusal_in is_ok)

    few : missing rows kind w ≤ inserted_by kind w
    few = missing_few r rows g shows kind fits w nothing.0

    -- it may be laid
    pub may_lay : MayLay rows w
    may_lay = by_write w nothing.0
      where
        by_write : (v : Write) → refused g v ≡ None → MayLay rows v
        by_write (AddVertex v) allowed = tt
        by_write (DropVertex v) allowed = tt
        by_write (AddEdge u v weight) allowed =
            let ends = allowed_ends g u v (cond (has_arc g u v) (Some refusals.EdgeExists) None) allowed in
            record { apart = ends.0; source = vertex_there r rows g shows u ends.1; target = vertex_there r rows g shows v ends.2 }
        by_write (SetEdge u v weight) allowed = (allowed_ends g u v (cond (has_arc g u v) None (Some refusals.NoEdge)) allowed).0
        by_write (DropEdge u v) allowed = (allowed_ends g u v (cond (has_arc g u v) None (Some refusals.NoEdge)) allowed).0

    -- a write that wants a place is one that inserts
    may_insert : 0 < missing rows kind w → inserts w ≡ true
    may_insert some = by_write w (omega (arith, some, few))
      where
        by_write : (v : Write) → 0 < inserted_by kind v → inserts v ≡ true
        by_write (AddVertex v) some = refl
        by_write (DropVertex v) some = absurd (omega (arith, some))
        by_write (AddEdge u v weight) some = refl
        by_write (SetEdge u v weight) some = absurd (omega (arith, some))
        by_write (DropEdge u v) some = absurd (omega (arith, some))

    -- its rows are those that were found
    module _ (found : WrittenRows) (found_is : found ≡ rows_of kind w) where
      missing_is : count_by (λ k. not (has_row rows k)) (written_keys found) ≡ missing rows kind w
      missing_is = ap (count_by (λ k. not (has_row rows k))) (ap written_keys found_is ∙ keys_are kind w)

      -- it is made, or found no place or no memory
      pub put_kept : IsWithinLimits w → (until : ℕ) (done : Result (Unit {0}) Refusal) (p p' : RoomyPass) (rows' : Leaves) → p.state ≡ current core
          → Puts found r.by w until rows rows' p.state p'.state done → IsKept (core_of kind leaves m (slice_set passes selected p') selected served) m rows'
      put_kept within until (Ok u) p p' rows' here laid = subst (λ c. IsKept c m rows') (sym (put_core kind leaves m passes selected served rows is p' m refl))
          (kept_written core m rows is start opened w p'.state rows' within nothing.0 nothing.1 (laid.noted_in ∙ ap (λ s. with_one_write s w) here)
          (λ q. laid.contents q ∙ ap (λ x. rows_after r.by x q (contents_of rows q)) found_is ∙ after_is kind w q r.by (contents_of rows q) ∙ ap (λ n. after_write kind n w q (contents_of rows q)) reader.by)
          (let more = laid.weight_is in omega (arith, more, missing_is, few)) laid.limit)
      put_kept within until (Err e) p p' rows' here puts = by_refusal e puts
        where
          full : (l : ℕ) → FindsFull found until l rows rows' p.state p'.state → IsKept (core_of kind leaves m (slice_set passes selected p') selected served) m rows'
          full l finds = subst (λ c. IsKept c m rows') (sym (put_core kind leaves m passes selected served rows is p' m refl)) (kept_moved (with_current core p'.state) m rows filled rows' finds.keeps)
            where
              same : p'.state ≡ record (current core) { filled = true }
              same = finds.noted_in ∙ ap (λ (s : PassState). record s { filled = true }) here

              filled : IsKept (with_current core p'.state) m rows
              filled = kept_noted core m rows is p'.state (ap (λ (s : PassState). s.start) same) (ap (λ (s : PassState). s.own) same) (ap (λ (s : PassState). s.begun) same) (ap (λ (s : PassState). s.made) same) (ap (λ (s : PassState). s.allowed) same)

          by_refusal : (e : Refusal) → Puts found r.by w until rows rows' p.state p'.state (Err e) → IsKept (core_of kind leaves m (slice_set passes selected p') selected served) m rows'
          by_refusal refusals.SelfLoop none = absurd none
          by_refusal (refusals.NoVertex v) none = absurd none
          by_refusal refusals.VertexExists none = absurd none
          by_refusal refusals.EdgeExists none = absurd none
          by_refusal refusals.NoEdge none = absurd none
          by_refusal refusals.HasEdges none = absurd none
          by_refusal (refusals.Conflict cause) none = absurd none
          by_refusal (refusals.Full l) finds = full l finds
          by_refusal refusals.NoMemory stays = subst (λ c. IsKept c m rows') (sym (kept_core kind leaves m passes selected served rows is p' m refl (stays.1 ∙ here))) (kept_moved core m rows is rows' stays.0)

      pub put_answer : (until : ℕ) (done : Result (Unit {0}) Refusal) (p p' : RoomyPass) (rows' : Leaves) → p.state ≡ current core
          → Puts found r.by w until rows rows' p.state p'.state done → WritesHere core w done (core_of kind leaves m (slice_set passes selected p') selected served)
      put_answer until (Ok u) p p' rows' here laid =
          (start, opened, (nothing.0, nothing.1, put_core kind leaves m passes selected served rows is p' m refl ∙ ap (with_current core) (laid.noted_in ∙ ap (λ s. with_one_write s w) here)))
      put_answer until (Err e) p p' rows' here puts = by_refusal e puts
        where
          full : (l : ℕ) → FindsFull found until l rows rows' p.state p'.state → WritesHere core w (Err (refusals.Full l)) (core_of kind leaves m (slice_set passes selected p') selected served)
          full l finds =
              (start, opened, (nothing.0, nothing.1, may_insert (let wants = finds.wants in omega (arith, wants, missing_is)), finds.limit ∙ is.limit, many, put_core kind leaves m passes selected served rows is p' m refl ∙ ap (with_current core) (finds.noted_in ∙ ap (λ (s : PassState). record s { filled = true }) here)))
            where
              many : SPLIT_ROWS * l ≤ inserted_here core
              many = let heavy = finds.heavy in let light = is.weight_is in omega (arith, heavy, light)

          by_refusal : (e : Refusal) → Puts found r.by w until rows rows' p.state p'.state (Err e) → WritesHere core w (Err e) (core_of kind leaves m (slice_set passes selected p') selected served)
          by_refusal refusals.SelfLoop none = absurd none
          by_refusal (refusals.NoVertex v) none = absurd none
          by_refusal refusals.VertexExists none = absurd none
          by_refusal refusals.EdgeExists none = absurd none
          by_refusal refusals.NoEdge none = absurd none
          by_refusal refusals.HasEdges none = absurd none
          by_refusal (refusals.Conflict cause) none = absurd none
          by_refusal (refusals.Full l) finds = full l finds
          by_refusal refusals.NoMemory stays = (start, opened, kept_core kind leaves m passes selected served rows is p' m refl (stays.1 ∙ here))
