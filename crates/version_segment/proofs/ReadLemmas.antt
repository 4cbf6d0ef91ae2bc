-- Rows of a key range that are read one after the other, from what is left of them and their words.
use Rattle.std.proofs.Common.{◌≡◌, ℕ, zero, suc, ◌+◌, ◌<◌, ◌≤◌, List, [], ◌∷◌, ◌++◌, get_or, length, length-append, take, take_all, refl, sym, ◌∙◌, ap, subst, arith, Option, Some, None}
use Rattle.std.specs.Prelude.{Bool, true, false, ◌==◌, ◌-◌, cond, nat_le, not, slice_get, IfSome}
use Rattle.std.proofs.lemmas.Bool.Decides.{nat_tests}
use Rattle.std.proofs.lemmas.List.{append-nil}
use Rattle.graph_model.specs.declared.journal.TxnName.{TxnName}
use Rattle.graph_model.specs.declared.row.Key.{Key}
use Rattle.graph_model.specs.declared.row.Row.{Row}
use Rattle.graph_model.specs.Rows.{is_between}
use Rattle.store_model.specs.Stamped.{Stamped, StampedVersions, read_stamped}
use Rattle.row_table.specs.Checks.{AreNamedRows, IsNamed}
use Rattle.row_table.specs.Rows.{range_of, rows_read, with_row}
use Rattle.row_table.specs.UndoChain.States.{Grows, Knowledge}
use Rattle.version_segment.specs.Resting.{front_with, is_marked, mark, no_value, oldest_with, value_in_word, with_newest, woken_row, woken_rows, AgreesWith, AgreeWith, RestingRow}
use Rattle.version_segment.specs.RestingParts.{seen_row, IsReadTo}
use Rattle.version_segment.proofs.WordLemmas.{alone_at}

-- ---- lists

-- rows of two lists are read one after the other
read_both : (read : StampedVersions → Option ℕ) (xs ys : List (Key × StampedVersions)) → rows_read read (xs ++ ys) ≡ rows_read read xs ++ rows_read read ys
read_both read [] ys = refl
read_both read (x ∷ xs) ys = ap (with_row x.0 (read x.1)) (read_both read xs ys) ∙ one (read x.1)
  where
    one : (v : Option ℕ) → with_row x.0 v (rows_read read xs ++ rows_read read ys) ≡ with_row x.0 v (rows_read read xs) ++ rows_read read ys
    one None = refl
    one (Some weight) = refl

-- and so they are picked
range_both : (from until : Key) (xs ys : List (Key × StampedVersions)) → range_of from until (xs ++ ys) ≡ range_of from until xs ++ range_of from until ys
range_both from until [] ys = refl
range_both from until (x ∷ xs) ys = one (is_between from until x.0) (range_both from until xs ys)
  where
    one : (t : Bool) → range_of from until (xs ++ ys) ≡ range_of from until xs ++ range_of from until ys
        → cond t (x ∷ range_of from until (xs ++ ys)) (range_of from until (xs ++ ys)) ≡ cond t (x ∷ range_of from until xs) (range_of from until xs) ++ range_of from until ys
    one true e = ap (λ l. x ∷ l) e
    one false e = e

-- of one row at most one is seen
pub seen_few : (read : StampedVersions → Option ℕ) (from until : Key) (h : RestingRow) (row : Row) → length (seen_row read from until h row) ≤ 1
seen_few read from until h row = one (is_between from until row.key)
  where
    read_few : (v : Option ℕ) → length (with_row row.key v []) ≤ 1
    read_few None = omega arith
    read_few (Some weight) = omega arith

    one : (t : Bool) → length (rows_read read (cond t (woken_row h row ∷ []) [])) ≤ 1
    one true = read_few (read (woken_row h row).1)
    one false = omega arith

-- ---- one row more

module _ (hs : List RestingRow) (words : List Row) (many : length words ≡ length hs) where
  -- the row at a place
  pub woken_at : (p : ℕ) (d : Row) → p < length words → (h : RestingRow) × (slice_get hs p ≡ Some h)
      × (take (suc p) (woken_rows hs words) ≡ take p (woken_rows hs words) ++ woken_row h (get_or words p d) ∷ [])
  woken_at p d lt = go hs words many p lt
    where
      go : (hs : List RestingRow) (words : List Row) → length words ≡ length hs → (p : ℕ) → p < length words → (h : RestingRow) × (slice_get hs p ≡ Some h)
          × (take (suc p) (woken_rows hs words) ≡ take p (woken_rows hs words) ++ woken_row h (get_or words p d) ∷ [])
      go [] [] same p lt = absurd (omega (arith, lt))
      go [] (w ∷ ws) same p lt = absurd (omega (arith, same))
      go (h ∷ hs) [] same p lt = absurd (omega (arith, lt))
      go (h ∷ hs) (w ∷ ws) same zero lt = (h, refl, refl)
      go (h ∷ hs) (w ∷ ws) same (suc p) lt =
          let rest = go hs ws (omega (arith, same)) p (omega (arith, lt)) in
          (rest.0, rest.1, ap (λ l. woken_row h w ∷ l) rest.2)

  -- whoever may be asked for the writers of all rows may be asked for those of one
  pub woken_named : (names : TxnName → Bool) (p : ℕ) (d : Row) → p < length words → AreNamedRows names (woken_rows hs words)
      → IfSome (slice_get hs p) (λ h. IsNamed names (woken_row h (get_or words p d)).1)
  woken_named names p d lt named = go hs words many p lt named
    where
      go : (hs : List RestingRow) (words : List Row) → length words ≡ length hs → (p : ℕ) → p < length words → AreNamedRows names (woken_rows hs words)
          → IfSome (slice_get hs p) (λ h. IsNamed names (woken_row h (get_or words p d)).1)
      go [] [] same p lt named = absurd (omega (arith, lt))
      go [] (w ∷ ws) same p lt named = absurd (omega (arith, same))
      go (h ∷ hs) [] same p lt named = absurd (omega (arith, lt))
      go (h ∷ hs) (w ∷ ws) same zero lt named = named.0
      go (h ∷ hs) (w ∷ ws) same (suc p) lt named = go hs ws (omega (arith, same)) p (omega (arith, lt)) named.1

  -- where all words agree with what is left of their rows that of one does
  pub word_agrees : (p : ℕ) (d : Row) → p < length words → AgreeWith hs words → IfSome (slice_get hs p) (λ h. AgreesWith h (get_or words p d).weight)
  word_agrees p d lt agree = go hs words many p lt agree
    where
      go : (hs : List RestingRow) (words : List Row) → length words ≡ length hs → (p : ℕ) → p < length words → AgreeWith hs words
          → IfSome (slice_get hs p) (λ h. AgreesWith h (get_or words p d).weight)
      go [] [] same p lt agree = absurd (omega (arith, lt))
      go [] (w ∷ ws) same p lt agree = absurd agree
      go (h ∷ hs) [] same p lt agree = absurd agree
      go (h ∷ hs) (w ∷ ws) same zero lt agree = agree.0
      go (h ∷ hs) (w ∷ ws) same (suc p) lt agree = go hs ws (omega (arith, same)) p (omega (arith, lt)) agree.1

  module _ (read : StampedVersions → Option ℕ) (from until : Key) (old now : Knowledge) where
    -- it has been read
    pub read_next : (new : Knowledge) (p : ℕ) (d : Row) (buffer buffer' : List Row) → p < length words → IsReadTo read from until hs words p old now buffer
        → IfSome (slice_get hs p) (λ h. buffer' ≡ buffer ++ seen_row read from until h (get_or words p d)) → Grows old new
        → IsReadTo read from until hs words (suc p) old new buffer'
    read_next new p d buffer buffer' lt is one grows =
        let at = woken_at p d lt in
        let row : Row = get_or words p d in
        let more : buffer' ≡ buffer ++ seen_row read from until at.0 row =
        subst (λ o. IfSome o (λ h. buffer' ≡ buffer ++ seen_row read from until h row)) at.1 one in
        record {
          rows = more ∙ ap (λ l. l ++ seen_row read from until at.0 row) is.rows
              ∙ sym (read_both read (range_of from until (take p (woken_rows hs words))) (range_of from until (woken_row at.0 row ∷ [])))
              ∙ ap (rows_read read) (sym (range_both from until (take p (woken_rows hs words)) (woken_row at.0 row ∷ [])))
              ∙ ap (λ l. rows_read read (range_of from until l)) (sym at.2);
          few =
              let count = ap length more ∙ length-append buffer (seen_row read from until at.0 row) in
              let least = seen_few read from until at.0 row in
              let before = is.few in
              omega (arith, count, least, before);
          grows = grows;
        }

    -- all have been
    pub read_all : (p : ℕ) (buffer : List Row) → length words ≤ p → IsReadTo read from until hs words p old now buffer
        → buffer ≡ rows_read read (range_of from until (woken_rows hs words))
    read_all p buffer le is = is.rows ∙ ap (λ l. rows_read read (range_of from until l)) (take_all p (woken_rows hs words) (woken_few hs words p le))
      where
        woken_few : (hs : List RestingRow) (words : List Row) (p : ℕ) → length words ≤ p → length (woken_rows hs words) ≤ p
        woken_few [] words p le = omega arith
        woken_few (h ∷ hs) [] p le = omega arith
        woken_few (h ∷ hs) (w ∷ ws) zero le = absurd (omega (arith, le))
        woken_few (h ∷ hs) (w ∷ ws) (suc p) le = let rest = woken_few hs ws p (omega (arith, le)) in omega (arith, rest)

-- ---- one row

-- of one without undo records the word is the value that each snapshot sees
pub plain_read : (stamps : TxnName → Option ℕ) (start : ℕ) (own : TxnName) (o : Option RestingRow) (n : ℕ) → is_marked n ≡ false → IfSome o (λ h. AgreesWith h n)
    → IfSome o (λ h. ◌≡◌ {A = Option ℕ} (Some n) (read_stamped stamps start own (with_newest (value_in_word n) h.versions)))
plain_read stamps start own None n unmarked agrees = tt
plain_read stamps start own (Some h) n unmarked agrees =
    sym (tells (n == no_value) refl) ∙ alone (value_in_word n) h.versions.pairs (alone_at h.versions.pairs (not h.has_value) (sym agrees.marked ∙ unmarked))
  where
    tells : (t : Bool) → (n == no_value) ≡ t → value_in_word n ≡ Some n
    tells true e =
        let same : n ≡ no_value = grind (arith, nat_tests) in
        let le : nat_le mark n ≡ true = grind (arith, nat_tests) in
        let clash : true ≡ false = sym le ∙ unmarked in cc
    tells false e = ap (λ t. cond t None (cond (nat_le mark n) (Some (n - mark)) (Some n))) e ∙ ap (λ t. cond t (Some (n - mark)) (Some n)) unmarked

    alone : (v : Option ℕ) (ps : List Stamped) → ps ≡ [] → v ≡ read_stamped stamps start own (record { pairs = front_with v ps; oldest = oldest_with v ps h.versions.oldest; touches = h.versions.touches })
    alone v [] none = refl
    alone v (p ∷ ps) none = cc

-- a row beyond the range adds nothing
pub seen_none : (read : StampedVersions → Option ℕ) (from until : Key) (o : Option RestingRow) (row : Row) (buffer : List Row) → is_between from until row.key ≡ false
    → IfSome o (λ h. buffer ≡ buffer ++ seen_row read from until h row)
seen_none read from until None row buffer beyond = tt
seen_none read from until (Some h) row buffer beyond =
    sym (append-nil buffer) ∙ ap (λ t. buffer ++ rows_read read (cond t (woken_row h row ∷ []) [])) (sym beyond)

-- one in the range adds its value
pub seen_one : (read : StampedVersions → Option ℕ) (from until : Key) (o : Option RestingRow) (row : Row) (value : Option ℕ) (buffer buffer' : List Row)
    → is_between from until row.key ≡ true → IfSome o (λ h. value ≡ read (woken_row h row).1) → buffer' ≡ buffer ++ with_row row.key value []
    → IfSome o (λ h. buffer' ≡ buffer ++ seen_row read from until h row)
seen_one read from until None row value buffer buffer' within is pushed = tt
seen_one read from until (Some h) row value buffer buffer' within is pushed =
    pushed ∙ ap (λ v. buffer ++ with_row row.key v []) is
    ∙ ap (λ t. buffer ++ rows_read read (cond t (woken_row h row ∷ []) [])) (sym within)
