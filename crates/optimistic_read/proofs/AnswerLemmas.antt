-- Runs of rows that were decoded: where they are cut, and whose rows of a range they are.
use Rattle.std.proofs.Common.{◌≡◌, ℕ, zero, suc, ◌%◌, List, [], ◌∷◌, ◌++◌, map, refl, sym, ◌∙◌, ap, subst, cond, Option, Some, None}
use Rattle.std.specs.Prelude.{Bool, true, false, ◌&&◌, not}
use Rattle.std.specs.List.{AllByRecursion}
use Rattle.std.specs.Ordering.{eq_by_cmp}
use Rattle.std.specs.declared.cmp.Ordering.TheVariants.{Equal}
use Rattle.std.specs.FinMap.Entries.{below_all, find, find-where_key, is_sorted, is_sorted-where_key, where_key}
use Rattle.atomic_table.specs.declared.shared.Seat.{Seat}
use Rattle.graph_model.specs.declared.journal.Commit.{Commit}
use Rattle.graph_model.specs.declared.journal.TxnName.{TxnName}
use Rattle.graph_model.specs.declared.row.Key.{Key}
use Rattle.graph_model.specs.declared.row.Row.{Row}
use Rattle.graph_model.specs.declared.write.Write.{Write}
use Rattle.graph_model.specs.Graph.{Graph}
use Rattle.graph_model.specs.History.{view}
use Rattle.graph_model.specs.Rows.{is_below, is_between, key_cmp, row_of, rows, value_at}
use Rattle.graph_model.proofs.KeyLemmas.{below_chain, below_flip, below_self, below_up, between_of, between_parts, upto_chain}
use Rattle.graph_model.proofs.OrderLemmas.{keys_exact}
use Rattle.graph_model.proofs.RowLemmas.{rows_of_values}
use Rattle.graph_model.proofs.SortedLemmas.{T_from_true, true_from_T}
use Rattle.txn_manager.specs.declared.config.Config.{Config}
use Rattle.store_model.specs.Stamped.{Stamped, StampedVersions, read_stamped}
use Rattle.pass_steps.specs.VersionSegment.Keyed.{RisesBy, entries_by}
use Rattle.pass_steps.proofs.VersionSegment.KeyedLemmas.{tied_same}
use Rattle.pass_steps.specs.VersionSegment.Resting.{newest_in, value_word, word_of, word_row, word_rows}
use Rattle.pass_steps.specs.VersionSegment.Rows.{IsSegment, VersionedRows, is_empty, is_nothing, or_nothing, range_of, versions_at}
use Rattle.pass_steps.specs.StoreRelationDeclared.stage.Stage.TheVariants.{Open}
use Rattle.pass_steps.specs.StoreRelation.Passes.{PassState, name_at}
use Rattle.pass_steps.specs.StoreRelation.Readers.{ReaderState}
use Rattle.pass_steps.specs.CellsModel.Indexed.{covers}
use Rattle.pass_steps.specs.CellsModel.Reads.{first_loaded}
use Rattle.pass_steps.specs.CellsModel.Words.{Spells}
use Rattle.pass_steps.specs.RuleModel.Sight.{HasPass, Sight, with_found}
use Rattle.pass_steps.specs.StoreWords.Reads.{PassIsTold, ReaderIsTold, read_ended}
use Rattle.pass_steps.specs.StoreWords.Steps.{Knows}
use Rattle.optimistic_read.specs.declared.decode.LoadedRun.{LoadedRun}
use Rattle.optimistic_read.specs.declared.decode.Stop.{Stop}
use Rattle.optimistic_read.specs.declared.decode.Stop.TheVariants.{Ended, Full, Marked}
use Rattle.optimistic_read.specs.declared.tried.TriedRun.{TriedRun}
use Rattle.optimistic_read.specs.declared.tried.TriedRun.TheVariants.{Rows, Busy, Chained, Moved}
use Rattle.optimistic_read.specs.Reads.{IsReadingOn, StillReads}
use Rattle.optimistic_read.specs.Runs.{EndsRun, IsRun, IsRunLoaded, IsRunRead, IsRunUpTo, IsReaderRun, IsTriedRun, IsTriedRunBy, decoded_run, front_of, lesser, read_up_to, room_behind, run_of, stop_of}
use Rattle.optimistic_read.specs.Tried.{is_chained}
use Rattle.optimistic_read.proofs.TryLemmas.{found_both, pass_there, readers_there}
use Rattle.optimistic_read.proofs.RunLemmas.{and_false, rows_of_run, with_none}

-- ---- where a run is cut

-- the key of the first row that is chained
abbrev chained_in : List (Key × StampedVersions) → Option Key
chained_in [] = None
chained_in (row ∷ rest) = cond (is_chained row.1) (Some row.0) (chained_in rest)

-- In front of the cut are the rows before its key, none of which is chained; and its key is that of a row of the range.
record IsCut (from until : Key) (rs : List (Key × StampedVersions)) (run : List Row) (key : Key) : Type 0 where
  run_is : run ≡ run_of from key (map word_row rs)
  free : chained_in (range_of from key rs) ≡ None
  between : is_between from until key ≡ true
  above : (low : Key) → AllByRecursion (λ row. is_below low row.0 ≡ true) rs → is_below low key ≡ true
  within : (low high : Key) → AllByRecursion (λ row. is_between low high row.0 ≡ true) rs
      → is_between low high key ≡ true

-- where it isn't cut all rows of the range are there, and none is chained
record IsUncut (from until : Key) (rs : List (Key × StampedVersions)) (run : List Row) : Type 0 where
  run_is : run ≡ run_of from until (map word_row rs)
  free : chained_in (range_of from until rs) ≡ None

abbrev CutBy : Stop → Key → Key → List (Key × StampedVersions) → List Row → Type 0
CutBy Ended from until rs run = IsUncut from until rs run
CutBy (Full key) from until rs run = IsCut from until rs run key
CutBy (Marked key) from until rs run = IsCut from until rs run key

-- no row is in a range before the first one
none_yet : (from : Key) (low : Key) (rs : List (Key × StampedVersions))
    → AllByRecursion (λ row. is_below low row.0 ≡ true) rs
    → (run_of from low (map word_row rs) ≡ []) × (range_of from low rs ≡ [])
none_yet from low [] all = (refl, refl)
none_yet from low (r ∷ rs) all =
    let later = none_yet from low rs all.1 in
    let out : is_between from low r.0 ≡ false =
    ap (λ t. not (is_below r.0 from) && t) (below_flip low r.0 all.0) ∙ and_false (not (is_below r.0 from)) in (
      ap (λ t. cond t (word_row r ∷ run_of from low (map word_row rs)) (run_of from low (map word_row rs))) out ∙ later.0,
      ap (λ t. cond t (r ∷ range_of from low rs) (range_of from low rs)) out ∙ later.1,
    )

module _ (from until : Key) (r : Key × StampedVersions) (rs : List (Key × StampedVersions))
    (rises : AllByRecursion (λ row. is_below r.0 row.0 ≡ true) rs) where
  -- before its own key no row is in the range
  before_own : is_between from r.0 r.0 ≡ false
  before_own = ap (λ t. not (is_below r.0 from) && t) (below_self r.0) ∙ and_false (not (is_below r.0 from))

  cut_here : is_between from until r.0 ≡ true → IsCut from until (r ∷ rs) [] r.0
  cut_here inside =
      let none = none_yet from r.0 rs rises in record {
        run_is = sym (ap (λ t. cond t (word_row r ∷ run_of from r.0 (map word_row rs)) (run_of from r.0 (map word_row rs)))
            before_own ∙ none.0);
        free = ap (λ t. chained_in (cond t (r ∷ range_of from r.0 rs) (range_of from r.0 rs))) before_own
            ∙ ap chained_in none.1;
        between = inside;
        above = λ low all. all.0;
        within = λ low high all. all.0;
      }

  -- a row that isn't in the range is before none of its keys
  cut_outside : (key : Key) (run : List Row) → is_between from until r.0 ≡ false → IsCut from until rs run key
      → IsCut from until (r ∷ rs) run key
  cut_outside key run outside cut =
      let out : is_between from key r.0 ≡ false = by_tests (is_below r.0 from) (is_below r.0 until) refl refl outside in
      record {
        run_is = cut.run_is
            ∙ sym (ap (λ t. cond t (word_row r ∷ run_of from key (map word_row rs)) (run_of from key (map word_row rs))) out);
        free = ap (λ t. chained_in (cond t (r ∷ range_of from key rs) (range_of from key rs))) out ∙ cut.free;
        between = cut.between;
        above = λ low all. cut.above low all.1;
        within = λ low high all. cut.within low high all.1;
      }
    where
      by_tests : (a b : Bool) → is_below r.0 from ≡ a → is_below r.0 until ≡ b → (not a && b) ≡ false
          → is_between from key r.0 ≡ false
      by_tests true b e f out = ap (λ t. not t && is_below r.0 key) e
      by_tests false true e f out = cc
      by_tests false false e f out =
          let off : true ≡ false = sym (below_chain r.0 key until (cut.above r.0 rises)
          (between_parts from until key cut.between).1) ∙ f in cc

  cut_later : (key : Key) (run : List Row) → is_between from until r.0 ≡ true → is_chained r.1 ≡ false
      → IsCut from until rs run key → IsCut from until (r ∷ rs) (word_row r ∷ run) key
  cut_later key run inside settled cut =
      let here : is_between from key r.0 ≡ true =
      between_of from key r.0 (between_parts from until r.0 inside).0 (cut.above r.0 rises) in
      record {
        run_is = ap (λ ws. word_row r ∷ ws) cut.run_is
            ∙ sym (ap (λ t. cond t (word_row r ∷ run_of from key (map word_row rs)) (run_of from key (map word_row rs))) here);
        free = ap (λ t. chained_in (cond t (r ∷ range_of from key rs) (range_of from key rs))) here
            ∙ ap (λ t. cond t (Some r.0) (chained_in (range_of from key rs))) settled ∙ cut.free;
        between = cut.between;
        above = λ low all. cut.above low all.1;
        within = λ low high all. cut.within low high all.1;
      }

  uncut_outside : (run : List Row) → is_between from until r.0 ≡ false → IsUncut from until rs run
      → IsUncut from until (r ∷ rs) run
  uncut_outside run outside uncut = record {
    run_is = uncut.run_is
        ∙ sym (ap (λ t. cond t (word_row r ∷ run_of from until (map word_row rs)) (run_of from until (map word_row rs)))
        outside);
    free = ap (λ t. chained_in (cond t (r ∷ range_of from until rs) (range_of from until rs))) outside ∙ uncut.free;
  }

  uncut_later : (run : List Row) → is_between from until r.0 ≡ true → is_chained r.1 ≡ false
      → IsUncut from until rs run → IsUncut from until (r ∷ rs) (word_row r ∷ run)
  uncut_later run inside settled uncut = record {
    run_is = ap (λ ws. word_row r ∷ ws) uncut.run_is
        ∙ sym (ap (λ t. cond t (word_row r ∷ run_of from until (map word_row rs)) (run_of from until (map word_row rs)))
        inside);
    free = ap (λ t. chained_in (cond t (r ∷ range_of from until rs) (range_of from until rs))) inside
        ∙ ap (λ t. cond t (Some r.0) (chained_in (range_of from until rs))) settled ∙ uncut.free;
  }

  outside_on : (stop : Stop) (run : List Row) → is_between from until r.0 ≡ false → CutBy stop from until rs run
      → CutBy stop from until (r ∷ rs) run
  outside_on Ended run outside cut = uncut_outside run outside cut
  outside_on (Full key) run outside cut = cut_outside key run outside cut
  outside_on (Marked key) run outside cut = cut_outside key run outside cut

  inside_on : (stop : Stop) (run : List Row) → is_between from until r.0 ≡ true → is_chained r.1 ≡ false
      → CutBy stop from until rs run → CutBy stop from until (r ∷ rs) (word_row r ∷ run)
  inside_on Ended run inside settled cut = uncut_later run inside settled cut
  inside_on (Full key) run inside settled cut = cut_later key run inside settled cut
  inside_on (Marked key) run inside settled cut = cut_later key run inside settled cut

-- so is each run, where it stops
cut_of : (from until : Key) (rs : List (Key × StampedVersions)) (room : ℕ) → RisesBy (λ row. row.0) rs
    → CutBy (stop_of room (range_of from until rs)) from until rs (front_of room (range_of from until rs))
cut_of from until [] zero rises = record { run_is = refl; free = refl }
cut_of from until [] (suc n) rises = record { run_is = refl; free = refl }
cut_of from until (r ∷ rs) room rises =
    by_test (is_between from until r.0) refl room (λ n. cut_of from until rs n rises.1)
  where
    by_chain : (c : Bool) (n : ℕ) → is_chained r.1 ≡ c → is_between from until r.0 ≡ true
        → CutBy (stop_of n (range_of from until rs)) from until rs (front_of n (range_of from until rs))
        → CutBy (cond c (Marked r.0) (stop_of n (range_of from until rs))) from until (r ∷ rs)
        (cond c [] (word_row r ∷ front_of n (range_of from until rs)))
    by_chain true n chain inside rest = cut_here from until r rs rises.0 inside
    by_chain false n chain inside rest =
        inside_on from until r rs rises.0 (stop_of n (range_of from until rs)) (front_of n (range_of from until rs)) inside
        chain rest

    by_test : (t : Bool) → is_between from until r.0 ≡ t → (room : ℕ)
        → ((n : ℕ) → CutBy (stop_of n (range_of from until rs)) from until rs (front_of n (range_of from until rs)))
        → CutBy (stop_of room (cond t (r ∷ range_of from until rs) (range_of from until rs))) from until (r ∷ rs)
        (front_of room (cond t (r ∷ range_of from until rs) (range_of from until rs)))
    by_test true inside zero rest = cut_here from until r rs rises.0 inside
    by_test true inside (suc n) rest = by_chain (is_chained r.1) n refl inside (rest n)
    by_test false outside n rest =
        outside_on from until r rs rises.0 (stop_of n (range_of from until rs)) (front_of n (range_of from until rs)) outside
        (rest n)

-- ---- the values of a range

-- each row with its word
abbrev worded : List (Key × StampedVersions) → List (Key × ℕ)
worded rs = entries_by (λ row. row.0) (λ row. value_word row.1) rs

below_worded : (key : Key) (rs : List (Key × StampedVersions)) → AllByRecursion (λ row. is_below key row.0 ≡ true) rs
    → below_all key_cmp key (worded rs) ≡ true
below_worded key [] all = refl
below_worded key (r ∷ rs) all = λ i. all.0 i && below_worded key rs all.1 i

worded_sorted : (rs : List (Key × StampedVersions)) → RisesBy (λ row. row.0) rs → is_sorted key_cmp (worded rs) ≡ true
worded_sorted [] rises = refl
worded_sorted (r ∷ rs) rises = λ i. below_worded r.0 rs rises.0 i && worded_sorted rs rises.1 i

-- a range that ends with the cell has the rows of the range
same_range : (low high from until key : Key) → is_between low high key ≡ true
    → is_between from (lesser high until) key ≡ is_between from until key
same_range low high from until key within = go (is_below high until) refl
  where
    go : (t : Bool) → is_below high until ≡ t
        → (not (is_below key from) && is_below key (cond t high until))
        ≡ (not (is_below key from) && is_below key until)
    go true e =
        let below = (between_parts low high key within).1 in
        ap (λ t. not (is_below key from) && t) (below ∙ sym (below_chain key high until below e))
    go false e = refl

worded_run : (low high from until : Key) (rs : List (Key × StampedVersions))
    → AllByRecursion (λ row. is_between low high row.0 ≡ true) rs
    → map row_of (where_key key_cmp (is_between from (lesser high until)) (worded rs))
    ≡ run_of from until (map word_row rs)
worded_run low high from until [] within = refl
worded_run low high from until (r ∷ rs) within =
    go (is_between from (lesser high until) r.0) (worded_run low high from until rs within.1)
    ∙ ap (λ t. cond t (word_row r ∷ run_of from until (map word_row rs)) (run_of from until (map word_row rs)))
    (same_range low high from until r.0 within.0)
  where
    go : (t : Bool)
        → map row_of (where_key key_cmp (is_between from (lesser high until)) (worded rs))
        ≡ run_of from until (map word_row rs)
        → map row_of (cond t ((r.0, value_word r.1) ∷ where_key key_cmp (is_between from (lesser high until)) (worded rs))
        (where_key key_cmp (is_between from (lesser high until)) (worded rs)))
        ≡ cond t (word_row r ∷ run_of from until (map word_row rs)) (run_of from until (map word_row rs))
    go true e = ap (λ ws. word_row r ∷ ws) e
    go false e = e

-- the word of a row that isn't chained is what any snapshot reads there
module _ (stamps : TxnName → Option ℕ) (start : ℕ) (own : TxnName) where
  settled_by_parts : (pairs touches : List Stamped) (oldest : Option ℕ)
      → is_nothing (record { pairs = pairs; oldest = oldest; touches = touches }) ≡ false
      → is_chained (record { pairs = pairs; oldest = oldest; touches = touches }) ≡ false
      → ◌≡◌ {A = Option ℕ} (Some (word_of (newest_in pairs oldest) (is_empty pairs)))
      (read_stamped stamps start own (record { pairs = pairs; oldest = oldest; touches = touches }))
  settled_by_parts (p ∷ ps) touches oldest some free = cc
  settled_by_parts [] (t ∷ ts) None some free = cc
  settled_by_parts [] [] None some free = cc
  settled_by_parts [] touches (Some n) some free = refl

  settled_word : (vs : StampedVersions) → is_nothing vs ≡ false → is_chained vs ≡ false
      → ◌≡◌ {A = Option ℕ} (Some (value_word vs)) (read_stamped stamps start own vs)
  settled_word vs some free = settled_by_parts vs.pairs vs.touches vs.oldest some free

  -- where none is chained, none of the later ones is, nor the first one
  none_chained : (t : Bool) (r : Key × StampedVersions) (rest : List (Key × StampedVersions))
      → chained_in (cond t (r ∷ rest) rest) ≡ None → (t ≡ true → is_chained r.1 ≡ false) × (chained_in rest ≡ None)
  none_chained true r rest none = by_test (is_chained r.1) none
    where
      by_test : (c : Bool) → cond c (Some r.0) (chained_in rest) ≡ None → (true ≡ true → c ≡ false) × (chained_in rest ≡ None)
      by_test true e = cc
      by_test false e = ((λ _. refl), e)
  none_chained false r rest none = ((λ e. cc), none)

  read_of_range : (from until q : Key) → is_between from until q ≡ true → (rs : List (Key × StampedVersions))
      → AllByRecursion (λ row. is_nothing row.1 ≡ false) rs → chained_in (range_of from until rs) ≡ None
      → find key_cmp q (worded rs) ≡ read_stamped stamps start own (or_nothing (find key_cmp q rs))
  read_of_range from until q between [] some none = refl
  read_of_range from until q between (r ∷ rs) some none =
      let parts = none_chained (is_between from until r.0) r (range_of from until rs) none in
      by_test (eq_by_cmp key_cmp q r.0) refl parts.0 (read_of_range from until q between rs some.1 parts.1)
    where
      by_test : (t : Bool) → eq_by_cmp key_cmp q r.0 ≡ t → (is_between from until r.0 ≡ true → is_chained r.1 ≡ false)
          → find key_cmp q (worded rs) ≡ read_stamped stamps start own (or_nothing (find key_cmp q rs))
          → cond t (Some (value_word r.1)) (find key_cmp q (worded rs))
          ≡ read_stamped stamps start own (or_nothing (cond t (Some r.1) (find key_cmp q rs)))
      by_test true tie free rest =
          settled_word r.1 some.0 (free (ap (is_between from until) (sym (tied_same q r.0 tie)) ∙ between))
      by_test false tie free rest = rest

  -- so the rows as they were loaded are those of the graph that the snapshot sees
  pub run_of_graph : (g : Graph) (s : VersionedRows) → IsSegment s → (from until : Key) → covers s from ≡ true
      → chained_in (range_of from until s.rows) ≡ None
      → ((q : Key) → covers s q ≡ true → read_stamped stamps start own (versions_at s q) ≡ value_at g q)
      → run_of from until (word_rows s) ≡ rows g from (lesser s.high until)
  run_of_graph g s sound from until holds none gives =
      sym (worded_run s.low s.high from until s.rows sound.within)
      ∙ rows_of_values g from end (where_key key_cmp (is_between from end) (worded s.rows))
      (true_from_T (is_sorted key_cmp (where_key key_cmp (is_between from end) (worded s.rows)))
      (is_sorted-where_key key_cmp (is_between from end) (worded s.rows)
      (T_from_true (is_sorted key_cmp (worded s.rows)) (worded_sorted s.rows sound.rising))))
      (λ q. find-where_key key_cmp (is_between from end) q (alike q) (worded s.rows)
      ∙ value q (is_between from end q) refl)
    where
      end : Key
      end = lesser s.high until

      alike : (q k : Key) → key_cmp q k ≡ Equal → is_between from end k ≡ is_between from end q
      alike q k e = ap (is_between from end) (sym (keys_exact q k e))

      inside : (q : Key) (t : Bool) → is_below s.high until ≡ t → is_between from (cond t s.high until) q ≡ true
          → (covers s q ≡ true) × (is_between from until q ≡ true)
      inside q true e between =
          let parts = between_parts from s.high q between in (
            between_of s.low s.high q
                (upto_chain s.low from q (between_parts s.low s.high from holds).0 parts.0) parts.1,
            between_of from until q parts.0 (below_chain q s.high until parts.1 e),
          )
      inside q false e between =
          let parts = between_parts from until q between in (
            between_of s.low s.high q
                (upto_chain s.low from q (between_parts s.low s.high from holds).0 parts.0)
                (below_up q until s.high parts.1 e),
            between,
          )

      value : (q : Key) (t : Bool) → is_between from end q ≡ t
          → cond t (find key_cmp q (worded s.rows)) None ≡ cond t (value_at g q) None
      value q true e =
          let in_cell = inside q (is_below s.high until) refl e in
          read_of_range from until q in_cell.1 s.rows sound.something none ∙ gives q in_cell.0
      value q false e = refl

-- ---- the answer

-- the end of a run is behind its first key, and not behind its last one
run_ends_there : (low high from until : Key) → is_between low high from ≡ true → is_below from until ≡ true
    → EndsRun (lesser high until) from until
run_ends_there low high from until holds ahead = go (is_below high until) refl
  where
    go : (t : Bool) → is_below high until ≡ t → EndsRun (cond t high until) from until
    go true e = record { ahead = (between_parts low high from holds).1; inside = below_flip high until e }
    go false e = record { ahead = ahead; inside = below_self until }

module _ (z : Config) (seen : List Commit) (start : ℕ) (own : List Write) (by : TxnName) (old new : Sight) (cell : ℕ)
    (from until : Key) (before after : List Row)
  where
    abbrev seen_graph : Graph
    seen_graph = view z.kind seen start own

    module _ (ahead : is_below from until ≡ true) (t : TriedRun) (r : IsRunRead z seen start own by old new cell from until before after t)
      where
        abbrev room : ℕ
        room = room_behind before

        abbrev front : List Row
        front = front_of room (range_of from until r.contents.rows)

        abbrev high_end : Key
        high_end = lesser r.contents.high until

        graph_rows : (key : Key) → covers r.contents from ≡ true → chained_in (range_of from key r.contents.rows) ≡ None
            → run_of from key (word_rows r.contents) ≡ rows seen_graph from (lesser r.contents.high key)
        graph_rows key holds none =
            run_of_graph _ start by seen_graph r.contents r.sound from key holds none r.gives

        -- a key of a row of the cell is before its high fence key
        high_beyond : (key : Key) → IsCut from until r.contents.rows front key → lesser r.contents.high key ≡ key
        high_beyond key cut =
            let below = (between_parts r.contents.low r.contents.high key
            (cut.within r.contents.low r.contents.high r.sound.within)).1 in
            ap (λ b. cond b r.contents.high key) (below_flip key r.contents.high below)

        up_to_cut : (key : Key) → covers r.contents from ≡ true → after ≡ before ++ front
            → IsCut from until r.contents.rows front key → IsRunUpTo key seen_graph from until before after
        up_to_cut key holds given cut = record {
          onward = (between_parts from until key cut.between).0;
          inside = below_flip key until (between_parts from until key cut.between).1;
          rows_are = given ∙ ap (λ ws. before ++ ws)
              (cut.run_is ∙ graph_rows key holds cut.free ∙ ap (rows seen_graph from) (high_beyond key cut));
        }

        up_to_end : covers r.contents from ≡ true → after ≡ before ++ front → IsUncut from until r.contents.rows front
            → IsRunUpTo high_end seen_graph from until before after
        up_to_end holds given uncut =
            let ends = run_ends_there r.contents.low r.contents.high from until holds ahead in record {
              onward = below_flip from high_end ends.ahead;
              inside = ends.inside;
              rows_are = given ∙ ap (λ ws. before ++ ws) (uncut.run_is ∙ graph_rows until holds uncut.free);
            }

        -- behind a cut the range has an end
        ends_behind : (key : Key) → covers r.contents from ≡ true → IsCut from until r.contents.rows front key
            → EndsRun high_end key until
        ends_behind key holds cut =
            let below = (between_parts r.contents.low r.contents.high key
            (cut.within r.contents.low r.contents.high r.sound.within)).1 in
            let before_end = (between_parts from until key cut.between).1 in record {
              ahead = either (is_below r.contents.high until) below before_end;
              inside = (run_ends_there r.contents.low r.contents.high from until holds ahead).inside;
            }
          where
            either : (b : Bool) → is_below key r.contents.high ≡ true → is_below key until ≡ true
                → is_below key (cond b r.contents.high until) ≡ true
            either true high end = high
            either false high end = end

        answers : (stop : Stop) → covers r.contents from ≡ true → after ≡ before ++ front
            → CutBy stop from until r.contents.rows front
            → IsRun (read_up_to stop high_end) seen_graph from until before after
        answers Ended holds given cut = up_to_end holds given cut
        answers (Full key) holds given cut = up_to_cut key holds given cut
        answers (Marked key) holds given cut = (up_to_cut key holds given cut, ends_behind key holds cut)

        -- whatever the answer is, it is one of the graph
        run_by : IsRun t seen_graph from until before after
        run_by = subst (λ a. IsRun a seen_graph from until before after) (sym r.answer_is)
            (by_test (covers r.contents from) refl)
          where
            by_test : (b : Bool) → covers r.contents from ≡ b
                → IsRun (cond b (read_up_to (stop_of room (range_of from until r.contents.rows)) high_end)
                (Moved r.contents.low r.contents.high)) seen_graph from until before after
            by_test true holds = answers (stop_of room (range_of from until r.contents.rows)) holds
                (r.rows_are ∙ ap (λ b. before ++ cond b front []) holds)
                (cut_of from until r.contents.rows room r.sound.rising)
            by_test false holds = r.rows_are ∙ ap (λ b. before ++ cond b front []) holds ∙ with_none before

    pub run_is : is_below from until ≡ true → (t : TriedRun)
        → IsTriedRunBy z seen start own by old new cell from until before after t → IsRun t seen_graph from until before after
    run_is ahead (Rows end) r = run_by ahead (Rows end) r
    run_is ahead (Busy c m n) r = tt
    run_is ahead (Chained k end) r = run_by ahead (Chained k end) r
    run_is ahead (Moved low high) r = run_by ahead (Moved low high) r

    -- contents make no range busy
    never_busy : (b : Bool) (stop : Stop) (end low high : Key) (k m n : ℕ)
        → Busy k m n ≡ cond b (read_up_to stop end) (Moved low high) → ⊥
    never_busy true Ended end low high k m n e = cc
    never_busy true (Full key) end low high k m n e = cc
    never_busy true (Marked key) end low high k m n e = cc
    never_busy false stop end low high k m n e = cc

    tried_of : (t : TriedRun) → IsRunRead z seen start own by old new cell from until before after t
        → IsTriedRunBy z seen start own by old new cell from until before after t
    tried_of (Rows end) r = r
    tried_of (Chained k end) r = r
    tried_of (Moved low high) r = r
    tried_of (Busy c m n) r =
        absurd (never_busy (covers r.contents from) (stop_of (room_behind before) (range_of from until r.contents.rows))
        (lesser r.contents.high until) r.contents.low r.contents.high c m n r.answer_is)

pub run_answered : (z : Config) (cell first second : ℕ) (from until : Key) (s0 s1 s2 s3 : Seat (Unit {0}) Sight)
    (l : LoadedRun) (before after : List Row) (t : TriedRun) (p : ℕ) (st : PassState)
    → Knows s0 s1 (with_found s0.me.0 (first_loaded cell first) cell first) → StillReads s1 s2
    → Knows s2 s3 (read_ended s2.me.0 second)
    → IsReadingOn cell first s2.me.0 (IsRunLoaded l from until before after)
    → PassIsTold z s2.me.0 second → first % 2 ≡ 0 → second ≡ first
    → ((block : List ℕ) (s : VersionedRows) (x y : List Row) → Spells block s → IsRunLoaded l from until x y s
    → t ≡ decoded_run s from until (room_behind x))
    → HasPass s0.me.0 p st → st.stage ≡ Open → IsTriedRun z p st s0.me.0 s3.me.0 cell from until before after t
run_answered z cell first second from until s0 s1 s2 s3 l before after t p st begun still ended x told even same decodes
    has stage =
    let there = pass_there cell first second s0 s1 s2 s3 begun still ended p st has in
    let valid = told p st x.reading there stage x.is (same ∙ sym x.first_is) in
    let loaded = x.fact valid.block valid.segment valid.loaded valid.spells in
    tried_of z st.seen st.start st.own (name_at p st) s0.me.0 s3.me.0 cell from until before after t (record {
      again = record {
        word = first;
        even = even;
        twice = found_both cell first second s0 s1 s2 s3 begun still ended (IsRunLoaded l from until before after) x
            ∙ (λ i. record { cell = cell; word = same i } ∷ record { cell = cell; word = first }
            ∷ s0.me.0.reads.found);
      };
      contents = valid.segment;
      sound = valid.spells.sound;
      gives = valid.fact;
      rows_are = rows_of_run valid.block valid.segment valid.spells l from until before after loaded;
      answer_is = decodes valid.block valid.segment before after valid.spells loaded;
    })

-- ---- by a reader

pub reader_answered : (z : Config) (cell first second : ℕ) (from until : Key) (s0 s1 s2 s3 : Seat (Unit {0}) Sight)
    (l : LoadedRun) (before after : List Row) (t : TriedRun) (x : ReaderState)
    → Knows s0 s1 (with_found s0.me.0 (first_loaded cell first) cell first) → StillReads s1 s2
    → Knows s2 s3 (read_ended s2.me.0 second)
    → IsReadingOn cell first s2.me.0 (IsRunLoaded l from until before after)
    → ReaderIsTold z s2.me.0 second → first % 2 ≡ 0 → second ≡ first
    → ((block : List ℕ) (s : VersionedRows) (before after : List Row) → Spells block s
    → IsRunLoaded l from until before after s → t ≡ decoded_run s from until (room_behind before))
    → s0.me.0.readers ≡ x ∷ [] → IsReaderRun z x s0.me.0 s3.me.0 cell from until before after t
reader_answered z cell first second from until s0 s1 s2 s3 l before after t x begun still ended on told even same
    decodes has =
    let there = readers_there cell first second s0 s1 s2 s3 begun still ended ∙ has in
    let valid = told x on.reading there on.is (same ∙ sym on.first_is) in
    let loaded = on.fact valid.block valid.segment valid.loaded valid.spells in
    tried_of z x.seen x.start x.own x.by s0.me.0 s3.me.0 cell from until before after t (record {
      again = record {
        word = first;
        even = even;
        twice = found_both cell first second s0 s1 s2 s3 begun still ended (IsRunLoaded l from until before after) on
            ∙ (λ i. record { cell = cell; word = same i } ∷ record { cell = cell; word = first }
            ∷ s0.me.0.reads.found);
      };
      contents = valid.segment;
      sound = valid.spells.sound;
      gives = valid.fact;
      rows_are = rows_of_run valid.block valid.segment valid.spells l from until before after loaded;
      answer_is = decodes valid.block valid.segment before after valid.spells loaded;
    })
