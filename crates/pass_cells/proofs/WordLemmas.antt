-- Words of rows that a change leaves as they are.
use Rattle.std.proofs.Common.{◌≡◌, ℕ, ◌+◌, List, [], ◌∷◌, length, map, refl, sym, ◌∙◌, ap, cond, arith, Some}
use Rattle.std.specs.Prelude.{Bool, true, false, ◌&&◌, ◌||◌, not, is_some, Option, T}
use Rattle.std.specs.declared.cmp.Ordering.{Ordering}
use Rattle.std.specs.declared.cmp.Ordering.TheVariants.{Less, Equal, Greater}
use Rattle.std.specs.Ordering.{eq_by_cmp, is_eq}
use Rattle.std.specs.FinMap.Entries.{by_order, find, put, where_key, length-put}
use Rattle.graph_model.specs.declared.row.Key.{Key}
use Rattle.graph_model.specs.declared.journal.TxnName.{TxnName}
use Rattle.graph_model.specs.Conflict.{same_name}
use Rattle.graph_model.specs.Rows.{key_cmp}
use Rattle.graph_model.proofs.OrderLemmas.{keys_total}
use Rattle.graph_model.proofs.TestLemmas.{never}
use Rattle.store_model.specs.Stamped.{Stamped, StampedVersions, lacks_stamp, stamp, stamp_one}
use Rattle.row_writes.specs.VersionSegmentDeclared.change.RowChange.{RowChange}
use Rattle.row_writes.specs.VersionSegmentDeclared.change.RowChange.TheVariants.{Write, Undo, Touch, Untouch}
use Rattle.row_writes.specs.VersionSegment.Changes.{MayChange, changed}
use Rattle.row_writes.specs.VersionSegment.Resting.{newest_in, value_word, word_of, word_row, word_rows}
use Rattle.row_writes.specs.VersionSegment.Rows.{VersionedRows, ChangesKey, IsSegment, has_row, is_empty, is_nothing, or_nothing, versions_at, with_versions, touched}
use Rattle.pass_cells.specs.Taken.{changes_words}
use Rattle.pass_cells.proofs.RowLemmas.{rises_sorted, row_by_versions, touched_is_something}

-- a row that is put in place of another, with the same word
put_words : (k : Key) (vs : StampedVersions) (rows : List (Key × StampedVersions))
    → length (put key_cmp k vs rows) ≡ length rows → value_word vs ≡ value_word (or_nothing (find key_cmp k rows))
    → map word_row (put key_cmp k vs rows) ≡ map word_row rows
put_words k vs [] len same = cc
put_words k vs (e ∷ es) len same = go (key_cmp k e.0) (put_words k vs es) len same
  where
    go : (o : Ordering)
        → (length (put key_cmp k vs es) ≡ length es → value_word vs ≡ value_word (or_nothing (find key_cmp k es))
        → map word_row (put key_cmp k vs es) ≡ map word_row es)
        → length (by_order o ((k, vs) ∷ e ∷ es) ((e.0, vs) ∷ es) (e ∷ put key_cmp k vs es)) ≡ length (e ∷ es)
        → value_word vs ≡ value_word (or_nothing (cond (is_eq o) (Some e.1) (find key_cmp k es)))
        → map word_row (by_order o ((k, vs) ∷ e ∷ es) ((e.0, vs) ∷ es) (e ∷ put key_cmp k vs es)) ≡ map word_row (e ∷ es)
    go Less rest long word = absurd (omega (arith, long))
    go Equal rest long word = ap (λ n. record { key = e.0; weight = n } ∷ map word_row es) word
    go Greater rest long word = ap (λ l. word_row e ∷ l) (rest (omega (arith, long)) word)

-- a key that has no row is in none
none_gone : (k : Key) (rows : List (Key × StampedVersions)) → is_some (find key_cmp k rows) ≡ false
    → where_key key_cmp (λ q. not (eq_by_cmp key_cmp k q)) rows ≡ rows
none_gone k [] none = refl
none_gone k (e ∷ es) none = go (eq_by_cmp key_cmp k e.0) (none_gone k es) none
  where
    go : (t : Bool)
        → (is_some (find key_cmp k es) ≡ false → where_key key_cmp (λ q. not (eq_by_cmp key_cmp k q)) es ≡ es)
        → is_some (cond t (Some e.1) (find key_cmp k es)) ≡ false
        → cond (not t) (e ∷ where_key key_cmp (λ q. not (eq_by_cmp key_cmp k q)) es)
        (where_key key_cmp (λ q. not (eq_by_cmp key_cmp k q)) es) ≡ e ∷ es
    go true rest h = cc
    go false rest h = ap (λ l. e ∷ l) (rest h)

-- where the versions of one key change and its word doesn't, and it has a row afterwards if it had one, no word changes
words_stay : (s t : VersionedRows) (key : Key) (vs : StampedVersions) → IsSegment s → ChangesKey s t key vs
    → is_nothing vs ≡ is_nothing (versions_at s key) → value_word vs ≡ value_word (versions_at s key)
    → word_rows t ≡ word_rows s
words_stay s t key vs sound step left word = ap (λ l. map word_row l) step.rows ∙ go (has_row s key) refl
  where
    nothing : is_nothing vs ≡ not (has_row s key)
    nothing = left ∙ turned (has_row s key) (is_nothing (versions_at s key)) (row_by_versions s key sound)
      where
        turned : (a b : Bool) → a ≡ not b → b ≡ not a
        turned true true e = cc
        turned true false e = refl
        turned false true e = refl
        turned false false e = cc

    go : (h : Bool) → has_row s key ≡ h → map word_row (with_versions key vs s.rows) ≡ map word_row s.rows
    go true has =
        ap (λ b. map word_row (cond b (where_key key_cmp (λ q. not (eq_by_cmp key_cmp key q)) s.rows)
        (put key_cmp key vs s.rows))) (nothing ∙ ap not has)
        ∙ put_words key vs s.rows
        (length-put key_cmp keys_total key vs s.rows (rises_sorted s.rows sound.rising)
        ∙ ap (λ b. cond b (length s.rows) (length s.rows + 1)) has) word
    go false has =
        ap (λ b. map word_row (cond b (where_key key_cmp (λ q. not (eq_by_cmp key_cmp key q)) s.rows)
        (put key_cmp key vs s.rows))) (nothing ∙ ap not has)
        ∙ ap (λ l. map word_row l) (none_gone key s.rows has)

-- a change of which no word is said to change changes none
pub quiet_words : (change : RowChange) (by : TxnName) (s t : VersionedRows) (key : Key) → IsSegment s
    → ChangesKey s t key (changed change by (versions_at s key)) → MayChange change by key s
    → (before after : Bool) → after ≡ (changes_words change || before) → after ≡ false
    → (before ≡ false) × (word_rows t ≡ word_rows s)
quiet_words (Write value) by s t key sound step may before after is quiet = never after is quiet
quiet_words Undo by s t key sound step may before after is quiet = never after is quiet
quiet_words (Touch earlier) by s t key sound step may before after is quiet =
    let vs = versions_at s key in
    let some : is_nothing vs ≡ false = not_true (is_nothing vs) (sym (row_by_versions s key sound) ∙ may.row) in (
      sym is ∙ quiet,
      words_stay s t key (touched by vs) sound step (touched_is_something by vs some ∙ sym some) refl,
    )
  where
    not_true : (b : Bool) → not b ≡ true → b ≡ false
    not_true true h = cc
    not_true false h = refl
quiet_words Untouch by s t key sound step may before after is quiet = never after is quiet

-- a stamp brings no row, and takes none away
pub stamped_nothing : (by : TxnName) (n : ℕ) (vs : StampedVersions) → is_nothing (stamp by n vs) ≡ is_nothing vs
stamped_nothing by n vs = λ i. none vs.pairs i && (none vs.touches i && not (is_some vs.oldest))
  where
    none : (ps : List Stamped) → is_empty (map (stamp_one by n) ps) ≡ is_empty ps
    none [] = refl
    none (p ∷ ps) = refl

-- and it changes no word
pub stamped_words : (s t : VersionedRows) (key : Key) (by : TxnName) (n : ℕ) → IsSegment s
    → ChangesKey s t key (stamp by n (versions_at s key)) → word_rows t ≡ word_rows s
stamped_words s t key by n sound step =
    let vs = versions_at s key in
    words_stay s t key (stamp by n vs) sound step (stamped_nothing by n vs)
    (λ i. word_of (newest vs.pairs vs.oldest i) (empty vs.pairs i))
  where
    empty : (ps : List Stamped) → is_empty (map (stamp_one by n) ps) ≡ is_empty ps
    empty [] = refl
    empty (p ∷ ps) = refl

    newest : (ps : List Stamped) (oldest : Option ℕ) → newest_in (map (stamp_one by n) ps) oldest ≡ newest_in ps oldest
    newest [] oldest = refl
    newest (p ∷ ps) oldest = one (same_name p.by by && lacks_stamp p)
      where
        one : (t : Bool)
            → ◌≡◌ {A = Option ℕ} (cond {A = Stamped} t (record { by = p.by; stamp = Some n; value = p.value }) p).value p.value
        one true = refl
        one false = refl
