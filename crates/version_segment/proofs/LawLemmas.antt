-- Changes of a segment as the definitions of a store say them.
use Rattle.std.proofs.Common.{◌≡◌, ℕ, List, [], ◌∷◌, ◌++◌, drop, refl, sym, ◌∙◌, ap, map, Some, None}
use Rattle.std.specs.Prelude.{Bool, true, false, ◌&&◌, ◌||◌, not, cond, is_some, nat_lt, Option}
use Rattle.std.specs.List.{AllByRecursion, filter}
use Rattle.std.specs.Ordering.{eq_by_cmp}
use Rattle.std.specs.declared.cmp.Ordering.TheVariants.{Equal}
use Rattle.std.specs.FinMap.Entries.{find, put, where_key, find-put, find-where_key}
use Rattle.std.proofs.lemmas.List.{take-append-drop}
use Rattle.graph_model.specs.declared.row.Key.{Key}
use Rattle.graph_model.specs.declared.journal.TxnName.{TxnName}
use Rattle.graph_model.specs.Conflict.{same_name}
use Rattle.graph_model.specs.Transactions.{has_name}
use Rattle.graph_model.specs.Rows.{key_cmp, is_below}
use Rattle.graph_model.proofs.TestLemmas.{name_symm}
use Rattle.graph_model.proofs.OrderLemmas.{keys_total, keys_exact}
use Rattle.graph_model.specs.declared.state.State.{State}
use Rattle.graph_model.specs.declared.state.State.TheVariants.{Live, Committed, Aborted}
use Rattle.graph_model.specs.declared.refusal.Cause.{Cause}
use Rattle.graph_model.specs.declared.refusal.Cause.TheVariants.{Later, Holder}
use Rattle.store_model.specs.Check.{combine}
use Rattle.store_model.proofs.CombineLemmas.{says, check-cons}
use Rattle.row_table.specs.UndoChainDeclared.states.Snapshot.{Snapshot}
use Rattle.row_table.specs.Checks.{blocked}
use Rattle.store_model.specs.Stamped.{Stamped, StampedVersions, AreStamped, forget, forget_row, prune_stamped}
use Rattle.store_model.specs.Cells.{contents_in, or_none}
use Rattle.row_table.specs.Rows.{nothing, or_nothing, is_empty, is_nothing, versions_at, unless_nothing, pruned_rows, new_record, has_record}
use Rattle.row_table.specs.HeadMap.Keyed.{RisesBy}
use Rattle.version_segment.specs.Laws.{WrittenIsWrite, UndoneIsUndo, TouchedIsTouch, UntouchedIsUntouch, StampsStayRight, KeyChanged, KeysPruned, RowsShared, ContentsOfSegment, IsFit, BlockedIsCheck}
use Rattle.row_table.proofs.HeadMap.KeyedLemmas.{tied_same, tied_flip, below_untied}

-- ---- one row

pub written_is_write : WrittenIsWrite
written_is_write by value vs = refl

pub undone_is_undo : UndoneIsUndo
undone_is_undo vs = ap (λ ps. record { pairs = ps; oldest = vs.oldest; touches = map (λ p. p.by) vs.touches }) (go vs.pairs)
  where
    go : (ps : List Stamped) → map forget (drop 1 ps) ≡ drop 1 (map forget ps)
    go [] = refl
    go (p ∷ ps) = refl

pub same_record : (by : TxnName) (ps : List Stamped) → has_record by ps ≡ has_name (map (λ p. p.by) ps) by
same_record by [] = refl
same_record by (p ∷ ps) = λ i. name_symm p.by by i || same_record by ps i

pub touched_is_touch : TouchedIsTouch
touched_is_touch by vs = ap (λ ns. record { pairs = map forget vs.pairs; oldest = vs.oldest; touches = ns })
    (go (has_record by vs.touches) ∙ ap (λ t. cond t (map (λ p. p.by) vs.touches) (map (λ p. p.by) vs.touches ++ by ∷ [])) (same_record by vs.touches))
  where
    map_end : (ps : List Stamped) → map (λ p. p.by) (ps ++ new_record by None ∷ []) ≡ map (λ p. p.by) ps ++ by ∷ []
    map_end [] = refl
    map_end (p ∷ ps) = ap (λ ns. p.by ∷ ns) (map_end ps)

    go : (t : Bool) → map (λ p. p.by) (cond t vs.touches (vs.touches ++ new_record by None ∷ [])) ≡ cond t (map (λ p. p.by) vs.touches) (map (λ p. p.by) vs.touches ++ by ∷ [])
    go true = refl
    go false = map_end vs.touches

pub untouched_is_untouch : UntouchedIsUntouch
untouched_is_untouch by vs = ap (λ ns. record { pairs = map forget vs.pairs; oldest = vs.oldest; touches = ns }) (go vs.touches)
  where
    go : (ps : List Stamped) → map (λ p. p.by) (filter (λ p. not (same_name p.by by)) ps) ≡ filter (λ other. not (same_name by other)) (map (λ p. p.by) ps)
    go [] = refl
    go (p ∷ ps) = one (same_name p.by by) (go ps) ∙ ap (λ t. cond (not t) (p.by ∷ filter (λ other. not (same_name by other)) (map (λ q. q.by) ps)) (filter (λ other. not (same_name by other)) (map (λ q. q.by) ps))) (name_symm p.by by)
      where
        one : (t : Bool) → map (λ q. q.by) (filter (λ q. not (same_name q.by by)) ps) ≡ filter (λ other. not (same_name by other)) (map (λ q. q.by) ps)
            → map (λ q. q.by) (cond (not t) (p ∷ filter (λ q. not (same_name q.by by)) ps) (filter (λ q. not (same_name q.by by)) ps))
            ≡ cond (not t) (p.by ∷ filter (λ other. not (same_name by other)) (map (λ q. q.by) ps)) (filter (λ other. not (same_name by other)) (map (λ q. q.by) ps))
        one true e = e
        one false e = ap (λ ns. p.by ∷ ns) e

pub stamps_stay_right : StampsStayRight
stamps_stay_right stamps vs is = record {
  write = λ by value. record { pairs = (tt, is.pairs); touches = is.touches };
  undo = record { pairs = rest vs.pairs is.pairs; touches = is.touches };
  touch = λ by. record { pairs = is.pairs; touches = one_more by (has_record by vs.touches) };
  untouch = λ by. record { pairs = is.pairs; touches = kept by vs.touches is.touches };
}
  where
    rest : (ps : List Stamped) → AreStamped stamps ps → AreStamped stamps (drop 1 ps)
    rest [] h = tt
    rest (p ∷ ps) h = h.1

    at_end : (by : TxnName) (ps : List Stamped) → AreStamped stamps ps → AreStamped stamps (ps ++ new_record by None ∷ [])
    at_end by [] h = (tt, tt)
    at_end by (p ∷ ps) h = (h.0, at_end by ps h.1)

    one_more : (by : TxnName) (t : Bool) → AreStamped stamps (cond t vs.touches (vs.touches ++ new_record by None ∷ []))
    one_more by true = is.touches
    one_more by false = at_end by vs.touches is.touches

    kept : (by : TxnName) (ps : List Stamped) → AreStamped stamps ps → AreStamped stamps (filter (λ p. not (same_name p.by by)) ps)
    kept by [] h = tt
    kept by (p ∷ ps) h = go (same_name p.by by) (kept by ps h.1)
      where
        go : (t : Bool) → AreStamped stamps (filter (λ q. not (same_name q.by by)) ps) → AreStamped stamps (cond (not t) (p ∷ filter (λ q. not (same_name q.by by)) ps) (filter (λ q. not (same_name q.by by)) ps))
        go true g = g
        go false g = (h.0, g)

-- ---- all rows

-- versions that are nothing are those of a key without a row
nothing_is : (vs : StampedVersions) → is_nothing vs ≡ true → vs ≡ nothing
nothing_is vs e = λ i. record {
  pairs = none vs.pairs (first (is_empty vs.pairs) (is_empty vs.touches && not (is_some vs.oldest)) e) i;
  oldest = no_value vs.oldest (second (is_empty vs.touches) (not (is_some vs.oldest)) (second (is_empty vs.pairs) (is_empty vs.touches && not (is_some vs.oldest)) e)) i;
  touches = none vs.touches (first (is_empty vs.touches) (not (is_some vs.oldest)) (second (is_empty vs.pairs) (is_empty vs.touches && not (is_some vs.oldest)) e)) i;
}
  where
    first : (s t : Bool) → (s && t) ≡ true → s ≡ true
    first true t f = refl
    first false t f = cc

    second : (s t : Bool) → (s && t) ≡ true → t ≡ true
    second true t f = f
    second false t f = cc

    none : {X : Type 0} (xs : List X) → is_empty xs ≡ true → xs ≡ []
    none [] f = refl
    none (x ∷ xs) f = cc

    no_value : (o : Option ℕ) → not (is_some o) ≡ true → o ≡ None
    no_value None f = refl
    no_value (Some x) f = cc

pub key_changed : KeyChanged
key_changed old new key vs change q = ap (λ rows. or_nothing (find key_cmp q rows)) change.rows ∙ go (is_nothing vs) refl
  where
    alike : (x : Key) → key_cmp q x ≡ Equal → not (eq_by_cmp key_cmp key x) ≡ not (eq_by_cmp key_cmp key q)
    alike x t = ap (λ y. not (eq_by_cmp key_cmp key y)) (sym (keys_exact q x t))

    gone : (t : Bool) → is_nothing vs ≡ true → or_nothing (cond (not t) (find key_cmp q old.rows) None) ≡ cond t vs (versions_at old q)
    gone true e = sym (nothing_is vs e)
    gone false e = refl

    there : (t : Bool) → or_nothing (cond t (Some vs) (find key_cmp q old.rows)) ≡ cond t vs (versions_at old q)
    there true = refl
    there false = refl

    go : (t : Bool) → is_nothing vs ≡ t
        → or_nothing (find key_cmp q (cond t (where_key key_cmp (λ x. not (eq_by_cmp key_cmp key x)) old.rows) (put key_cmp key vs old.rows))) ≡ cond (eq_by_cmp key_cmp q key) vs (versions_at old q)
    go true e =
        ap or_nothing (find-where_key key_cmp (λ x. not (eq_by_cmp key_cmp key x)) q alike old.rows)
        ∙ ap (λ t. or_nothing (cond (not t) (find key_cmp q old.rows) None)) (tied_flip key q)
        ∙ gone (eq_by_cmp key_cmp q key) e
    go false e = ap or_nothing (find-put key_cmp keys_total q key vs old.rows) ∙ there (eq_by_cmp key_cmp q key)

pub keys_pruned : KeysPruned
keys_pruned stamps horizon old new sound prunes q = ap (λ rows. or_nothing (find key_cmp q rows)) prunes.rows ∙ go old.rows sound.rising
  where
    above : (k : Key) (rows : List (Key × StampedVersions)) → AllByRecursion (λ row. is_below k row.0 ≡ true) rows → find key_cmp k (pruned_rows stamps horizon rows) ≡ None
    above k [] h = refl
    above k (r ∷ rs) h = one (is_nothing (prune_stamped stamps horizon r.1)) (above k rs h.1)
      where
        one : (t : Bool) → find key_cmp k (pruned_rows stamps horizon rs) ≡ None → find key_cmp k (cond t (pruned_rows stamps horizon rs) ((r.0, prune_stamped stamps horizon r.1) ∷ pruned_rows stamps horizon rs)) ≡ None
        one true e = e
        one false e = ap (λ t. cond t (Some (prune_stamped stamps horizon r.1)) (find key_cmp k (pruned_rows stamps horizon rs))) (below_untied k r.0 h.0) ∙ e

    go : (rows : List (Key × StampedVersions)) → RisesBy (λ row. row.0) rows → or_nothing (find key_cmp q (pruned_rows stamps horizon rows)) ≡ prune_stamped stamps horizon (or_nothing (find key_cmp q rows))
    go [] h = refl
    go (r ∷ rs) h = tie (eq_by_cmp key_cmp q r.0) refl (go rs h.1)
      where
        new_row : StampedVersions
        new_row = prune_stamped stamps horizon r.1

        here : (s : Bool) → is_nothing new_row ≡ s → eq_by_cmp key_cmp q r.0 ≡ true → or_nothing (find key_cmp q (cond s (pruned_rows stamps horizon rs) ((r.0, new_row) ∷ pruned_rows stamps horizon rs))) ≡ new_row
        here true e f = ap (λ k. or_nothing (find key_cmp k (pruned_rows stamps horizon rs))) (tied_same q r.0 f) ∙ ap or_nothing (above r.0 rs h.0) ∙ sym (nothing_is new_row e)
        here false e f = ap (λ t. or_nothing (cond t (Some new_row) (find key_cmp q (pruned_rows stamps horizon rs)))) f

        past : (s : Bool) → eq_by_cmp key_cmp q r.0 ≡ false → or_nothing (find key_cmp q (cond s (pruned_rows stamps horizon rs) ((r.0, new_row) ∷ pruned_rows stamps horizon rs))) ≡ or_nothing (find key_cmp q (pruned_rows stamps horizon rs))
        past true f = refl
        past false f = ap (λ t. or_nothing (cond t (Some new_row) (find key_cmp q (pruned_rows stamps horizon rs)))) f

        tie : (t : Bool) → eq_by_cmp key_cmp q r.0 ≡ t → or_nothing (find key_cmp q (pruned_rows stamps horizon rs)) ≡ prune_stamped stamps horizon (or_nothing (find key_cmp q rs))
            → or_nothing (find key_cmp q (unless_nothing r.0 new_row (pruned_rows stamps horizon rs))) ≡ prune_stamped stamps horizon (or_nothing (cond t (Some r.1) (find key_cmp q rs)))
        tie true f rest = here (is_nothing new_row) refl f
        tie false f rest = past (is_nothing new_row) f ∙ rest

pub rows_shared : RowsShared
rows_shared left right left' right' count h = (λ i. h.left_rows i ++ h.right_rows i) ∙ take-append-drop count (left.rows ++ right.rows)

-- ---- cells

pub contents_of_segment : ContentsOfSegment
contents_of_segment s q = go s.rows
  where
    go : (rows : List (Key × StampedVersions)) → contents_in (map (λ row. (row.0, forget_row row.1)) rows) q ≡ forget_row (or_nothing (find key_cmp q rows))
    go [] = refl
    go (r ∷ rs) = one (eq_by_cmp key_cmp q r.0) (go rs)
      where
        one : (t : Bool) → contents_in (map (λ row. (row.0, forget_row row.1)) rs) q ≡ forget_row (or_nothing (find key_cmp q rs))
            → or_none (cond t (Some (forget_row r.1)) (find key_cmp q (map (λ row. (row.0, forget_row row.1)) rs))) ≡ forget_row (or_nothing (cond t (Some r.1) (find key_cmp q rs)))
        one true e = refl
        one false e = e

-- ---- the check

one_says : (is_live : TxnName → Bool) (stamps : TxnName → Option ℕ) (snapshot : Snapshot) (n : TxnName) (state : State) → IsFit is_live stamps n state
    → blocked snapshot n state ≡ says is_live stamps snapshot.start snapshot.own (not (same_name n snapshot.own) && is_live n) (stamps n) n
one_says is_live stamps snapshot n Live fit =
    go (same_name n snapshot.own) ∙ (λ i. says is_live stamps snapshot.start snapshot.own (not (same_name n snapshot.own) && sym fit.0 i) (sym fit.1 i) n)
  where
    go : (t : Bool) → cond t None (Some (Holder n)) ≡ says is_live stamps snapshot.start snapshot.own (not t && true) None n
    go true = refl
    go false = refl
one_says is_live stamps snapshot n Aborted fit =
    go (same_name n snapshot.own) ∙ (λ i. says is_live stamps snapshot.start snapshot.own (not (same_name n snapshot.own) && sym fit.0 i) (sym fit.1 i) n)
  where
    go : (t : Bool) → ◌≡◌ {A = Option Cause} None (says is_live stamps snapshot.start snapshot.own (not t && false) None n)
    go true = refl
    go false = refl
one_says is_live stamps snapshot n (Committed stamp) fit =
    go (same_name n snapshot.own) ∙ (λ i. says is_live stamps snapshot.start snapshot.own (not (same_name n snapshot.own) && sym fit.0 i) (sym fit.1 i) n)
  where
    go : (t : Bool) → cond (nat_lt snapshot.start stamp) (Some (Later stamp)) None ≡ says is_live stamps snapshot.start snapshot.own (not t && false) (Some stamp) n
    go true = refl
    go false = refl

pub blocked_is_check : BlockedIsCheck
blocked_is_check is_live stamps snapshot [] [] fit = refl
blocked_is_check is_live stamps snapshot [] (state ∷ states) fit = absurd fit
blocked_is_check is_live stamps snapshot (p ∷ ps) [] fit = absurd fit
blocked_is_check is_live stamps snapshot (p ∷ ps) (state ∷ states) fit =
    (λ i. combine (one_says is_live stamps snapshot p.by state fit.0 i) (blocked_is_check is_live stamps snapshot ps states fit.1 i))
    ∙ sym (check-cons is_live stamps snapshot.start snapshot.own p.by (map (λ q. q.by) ps))
