-- Runs of rows: what their loads tell, and how they are decoded.
use Rattle.std.proofs.Common.{◌≡◌, ℕ, zero, suc, ◌+◌, ◌-◌, ◌<◌, ◌≤◌, List, [], ◌∷◌, ◌++◌, length, map, take, drop, refl, sym, ◌∙◌, ap, subst, cond, arith, Option, Some, None}
use Rattle.std.specs.Prelude.{Bool, true, false, ◌&&◌, not, slice_get}
use Rattle.std.specs.List.{AllByRecursion}
use Rattle.std.proofs.lemmas.Bool.Decides.{nat_tests}
use Rattle.graph_model.specs.declared.row.Key.{Key}
use Rattle.graph_model.specs.declared.row.Row.{Row}
use Rattle.graph_model.specs.Rows.{is_below, is_between}
use Rattle.graph_model.proofs.KeyLemmas.{below_up, between_of, between_parts, not_below_chain, upto_chain}
use Rattle.graph_model.proofs.PlaceLemmas.{some_eq}
use Rattle.store_model.specs.Stamped.{Stamped, StampedVersions}
use Rattle.pass_steps.specs.VersionSegment.Keyed.{RisesBy}
use Rattle.pass_steps.specs.VersionSegment.Resting.{is_marked, newest_in, value_word, word_of, word_row, word_rows}
use Rattle.pass_steps.specs.VersionSegment.Rows.{IsSegment, VersionedRows, is_empty, is_nothing, range_of}
use Rattle.pass_steps.specs.CellsModel.BlockLaws.{row_key}
use Rattle.pass_steps.specs.CellsModel.Indexed.{covers}
use Rattle.pass_steps.specs.CellsModel.Words.{HasSmallValues, Spells}
use Rattle.pass_steps.proofs.CellsModel.WordLemmas.{words_rise}
use Rattle.pass_steps.specs.RuleModel.Sight.{Sight}
use Rattle.optimistic_read.specs.declared.decode.Head.{Head}
use Rattle.optimistic_read.specs.declared.decode.LoadedRun.{LoadedRun}
use Rattle.optimistic_read.specs.declared.decode.Stop.{Stop}
use Rattle.optimistic_read.specs.declared.decode.Stop.TheVariants.{Ended, Full, Marked}
use Rattle.optimistic_read.specs.declared.tried.TriedRun.TheVariants.{Moved}
use Rattle.optimistic_read.specs.Reads.{IsHead, IsReadingOn, IsSearched, row_read}
use Rattle.optimistic_read.specs.Runs.{IsRunLoaded, decoded_rows, decoded_run, front_in, front_of, lesser, looked_at, read_up_to, room_behind, run_of, stop_in, stop_of}
use Rattle.optimistic_read.specs.Tried.{is_chained}
use Rattle.optimistic_read.proofs.LoadLemmas.{WithRow, row_known, weaken}

-- ---- the rows of a range, by places

pub and_false : (b : Bool) → (b && false) ≡ false
and_false true = refl
and_false false = refl

module _ (from until : Key) where
  -- rows below the range may be left out
  skip_below : (ws : List Row) (p : ℕ) → AllByRecursion (λ row. is_below (row_key row) from ≡ true) (take p ws)
      → run_of from until (drop p ws) ≡ run_of from until ws
  skip_below ws zero all = refl
  skip_below [] (suc p) all = refl
  skip_below (w ∷ ws) (suc p) all =
      skip_below ws p all.1
      ∙ sym (ap (λ t. cond (not t && is_below w.key until) (w ∷ run_of from until ws) (run_of from until ws)) all.0)

  none_above : (ws : List Row) → AllByRecursion (λ row. is_below (row_key row) until ≡ false) ws
      → run_of from until ws ≡ []
  none_above [] all = refl
  none_above (w ∷ ws) all =
      ap (λ t. cond (not (is_below w.key from) && t) (w ∷ run_of from until ws) (run_of from until ws)) all.0
      ∙ ap (λ t. cond t (w ∷ run_of from until ws) (run_of from until ws)) (and_false (not (is_below w.key from)))
      ∙ none_above ws all.1

-- from a place on, the row that stands there comes first
from_place : (ws : List Row) (p : ℕ) (row : Row) → slice_get ws p ≡ Some row → drop p ws ≡ row ∷ drop (suc p) ws
from_place [] p row at = cc
from_place (w ∷ ws) zero row at = ap (λ r. r ∷ ws) (some_eq w row at)
from_place (w ∷ ws) (suc p) row at = from_place ws p row at

none_left : (ws : List Row) (p : ℕ) → length ws ≤ p → drop p ws ≡ []
none_left [] zero le = refl
none_left [] (suc p) le = refl
none_left (w ∷ ws) zero le = absurd (omega (arith, le))
none_left (w ∷ ws) (suc p) le = none_left ws p (omega (arith, le))

module _ (P : Row → Type 0) where
  one_less : (ws : List Row) (p : ℕ) → AllByRecursion P (drop p ws) → AllByRecursion P (drop (suc p) ws)
  one_less [] zero all = tt
  one_less [] (suc p) all = tt
  one_less (w ∷ ws) zero all = all.1
  one_less (w ∷ ws) (suc p) all = one_less ws p all

  at_place : (ws : List Row) (p : ℕ) (row : Row) → AllByRecursion P (drop p ws) → slice_get ws p ≡ Some row → P row
  at_place [] p row all at = cc
  at_place (w ∷ ws) zero row all at = subst P (some_eq w row at) all.0
  at_place (w ∷ ws) (suc p) row all at = at_place ws p row all at

-- behind a row that isn't below a key none is
none_below_on : (key : Key) (ws : List Row) (p : ℕ) (row : Row) → RisesBy row_key ws → slice_get ws p ≡ Some row
    → is_below row.key key ≡ false → AllByRecursion (λ r. is_below (row_key r) key ≡ false) (drop p ws)
none_below_on key [] p row rises at not_below = cc
none_below_on key (w ∷ ws) zero row rises at not_below =
    let here : is_below w.key key ≡ false = ap (λ (r : Row). is_below r.key key) (some_eq w row at) ∙ not_below in
    (here, above ws rises.0 here)
  where
    above : (rs : List Row) → AllByRecursion (λ r. is_below (row_key w) (row_key r) ≡ true) rs
        → is_below w.key key ≡ false → AllByRecursion (λ r. is_below (row_key r) key ≡ false) rs
    above [] all h = tt
    above (r ∷ rs) all h = (not_below_chain w.key r.key key h all.0, above rs all.1 h)
none_below_on key (w ∷ ws) (suc p) row rises at not_below = none_below_on key ws p row rises.1 at not_below

-- rows between the fence keys, as their words have them
fenced : (low high : Key) (rs : List (Key × StampedVersions))
    → AllByRecursion (λ row. is_between low high row.0 ≡ true) rs
    → AllByRecursion (λ row. is_between low high (row_key row) ≡ true) (map word_row rs)
fenced low high [] all = tt
fenced low high (r ∷ rs) all = (all.0, fenced low high rs all.1)

-- no row stands before a key that isn't above the low fence key
none_before : (low high from : Key) (ws : List Row) → is_below low from ≡ false
    → AllByRecursion (λ row. is_between low high (row_key row) ≡ true) ws
    → AllByRecursion (λ row. is_below (row_key row) from ≡ false) ws
none_before low high from [] not_below all = tt
none_before low high from (w ∷ ws) not_below all = (
  upto_chain from low w.key not_below (between_parts low high w.key all.0).0,
  none_before low high from ws not_below all.1,
)

-- each stands before a key that isn't below the high one
all_before : (low high until : Key) (ws : List Row) (p : ℕ) (row : Row) → is_below until high ≡ false
    → AllByRecursion (λ w. is_between low high (row_key w) ≡ true) ws → slice_get ws p ≡ Some row
    → is_below row.key until ≡ true
all_before low high until [] p row beyond all at = cc
all_before low high until (w ∷ ws) zero row beyond all at =
    subst (λ (r : Row). is_below r.key until ≡ true) (some_eq w row at)
    (below_up w.key high until (between_parts low high w.key all.0).1 beyond)
all_before low high until (w ∷ ws) (suc p) row beyond all at =
    all_before low high until ws p row beyond all.1 at

-- ---- the loads

pub length_more : (ws : List Row) (row : Row) → length (ws ++ row ∷ []) ≡ length ws + 1
length_more [] row = refl
length_more (w ∷ ws) row = let more = length_more ws row in omega (arith, more)

pub with_none : (ws : List Row) → ws ++ [] ≡ ws
with_none [] = refl
with_none (w ∷ ws) = ap (λ rs. w ∷ rs) (with_none ws)

one_on : (ws : List Row) (row : Row) (rest : List Row) → ws ++ row ∷ rest ≡ (ws ++ row ∷ []) ++ rest
one_on [] row rest = refl
one_on (w ∷ ws) row rest = ap (λ rs. w ∷ rs) (one_on ws row rest)

-- The rows from a place on are loaded as all rows of the range are, with the room that is left.
pub record IsRunning (h : Head) (from until : Key) (before : List Row) (place room : ℕ) (run : List Row)
    (s : VersionedRows) : Type 0 where
  pub head_is : IsHead h s
  pub behind : AllByRecursion (λ row. is_below (row_key row) from ≡ false) (drop place (word_rows s))
  pub stop_is : stop_in (room_behind before) (run_of from until (word_rows s))
      ≡ stop_in room (run_of from until (drop place (word_rows s)))
  pub rows_are : before ++ front_in (room_behind before) (run_of from until (word_rows s))
      ≡ run ++ front_in room (run_of from until (drop place (word_rows s)))

module _ (cell first : ℕ) (h : Head) (from : Key) where
  -- at the low fence key the first row comes first
  pub at_low : (v : Sight) → is_below h.low from ≡ false → IsReadingOn cell first v (IsHead h)
      → IsReadingOn cell first v (IsSearched h from 0)
  at_low v not_above x =
      weaken cell first v (IsHead h) (IsSearched h from 0) x (λ block s spells t. record {
        head = t;
        place_is = record {
          within = omega arith;
          before = tt;
          behind = none_before s.low s.high from (word_rows s) (ap (λ k. is_below k from) (sym t.low) ∙ not_above)
              (fenced s.low s.high s.rows spells.sound.within);
        };
      })

module _ (cell first : ℕ) (h : Head) (from until : Key) (before : List Row) where
  -- nothing is looked at where the fence keys don't hold the first key
  pub none_loaded : (v : Sight) → is_between h.low h.high from ≡ false → IsReadingOn cell first v (IsHead h)
      → IsReadingOn cell first v (IsRunLoaded (record { head = h; stop = Ended }) from until before before)
  none_loaded v out x =
      weaken cell first v (IsHead h) (IsRunLoaded (record { head = h; stop = Ended }) from until before before) x
      (λ block s spells t.
      let none : looked_at h from until s ≡ [] = ap (λ b. cond b (run_of from until (word_rows s)) []) out in record {
        head_is = t;
        stop_is = ap (stop_in (room_behind before)) (sym none);
        rows_are = sym (with_none before) ∙ ap (λ ws. before ++ front_in (room_behind before) ws) (sym none);
      })

  pub run_begins : (place room : ℕ) (v : Sight) → room ≡ room_behind before
      → IsReadingOn cell first v (IsSearched h from place)
      → IsReadingOn cell first v (IsRunning h from until before place room before)
  run_begins place room v is x =
      weaken cell first v (IsSearched h from place) (IsRunning h from until before place room before) x (λ block s spells t.
      let skipped = skip_below from until (word_rows s) place t.place_is.before in record {
        head_is = t.head;
        behind = t.place_is.behind;
        stop_is = λ i. stop_in (sym is i) (sym skipped i);
        rows_are = λ i. before ++ front_in (sym is i) (sym skipped i);
      })

  module _ (holds : is_between h.low h.high from ≡ true) where
    -- where this is what is left of the rows, the loads have stopped
    stops : (s : VersionedRows) (place room : ℕ) (run rest : List Row) (stop : Stop)
        → IsRunning h from until before place room run s → run_of from until (drop place (word_rows s)) ≡ rest
        → stop ≡ stop_in room rest → front_in room rest ≡ []
        → IsRunLoaded (record { head = h; stop = stop }) from until before run s
    stops s place room run rest stop t left is none =
        let looked : looked_at h from until s ≡ run_of from until (word_rows s) =
        ap (λ b. cond b (run_of from until (word_rows s)) []) holds in record {
          head_is = t.head_is;
          stop_is = is ∙ ap (stop_in room) (sym left) ∙ sym t.stop_is
              ∙ ap (stop_in (room_behind before)) (sym looked);
          rows_are = sym (with_none run) ∙ ap (λ ws. run ++ ws) (sym none)
              ∙ ap (λ ws. run ++ front_in room ws) (sym left) ∙ sym t.rows_are
              ∙ ap (λ ws. before ++ front_in (room_behind before) ws) (sym looked);
        }

    none_ends : (room : ℕ) → Ended ≡ stop_in room []
    none_ends zero = refl
    none_ends (suc n) = refl

    none_there : (room : ℕ) → front_in room [] ≡ []
    none_there zero = refl
    none_there (suc n) = refl

    pub run_ends : (place room : ℕ) (run : List Row) (v : Sight) → h.count ≤ place
        → IsReadingOn cell first v (IsRunning h from until before place room run)
        → IsReadingOn cell first v (IsRunLoaded (record { head = h; stop = Ended }) from until before run)
    run_ends place room run v most x =
        weaken cell first v (IsRunning h from until before place room run)
        (IsRunLoaded (record { head = h; stop = Ended }) from until before run) x (λ block s spells t.
        stops s place room run [] Ended t
        (ap (run_of from until)
        (none_left (word_rows s) place (let count = t.head_is.count in omega (arith, most, count))))
        (none_ends room) (none_there room))

    module _ (place room : ℕ) (run : List Row) (row : Row) (v w : Sight) (less : place < h.count)
        (is : w ≡ row_read v place row) (x : IsReadingOn cell first v (IsRunning h from until before place room run)) where
      with_row : IsReadingOn cell first w (WithRow cell first (IsRunning h from until before place room run) place row)
      with_row = row_known cell first (IsRunning h from until before place room run) place row v w
          (λ s t. let count = t.head_is.count in omega (arith, less, count)) is x

      -- the row stands before the end, since all do or this one does
      is_inside : (s : VersionedRows) → IsSegment s → IsHead h s → slice_get (word_rows s) place ≡ Some row
          → (inside : Bool) → inside ≡ not (is_below until h.high) → (not inside && not (is_below row.key until)) ≡ false
          → is_below row.key until ≡ true
      is_inside s sound head at inside all near =
          by_tests (is_below until h.high) (is_below row.key until) inside refl refl all near
        where
          by_tests : (b t i : Bool) → is_below until h.high ≡ b → is_below row.key until ≡ t → i ≡ not b
              → (not i && not t) ≡ false → is_below row.key until ≡ true
          by_tests b true i high below e n = below
          by_tests false false i high below e n =
              all_before s.low s.high until (word_rows s) place row (ap (is_below until) (sym head.high) ∙ high)
              (fenced s.low s.high s.rows sound.within) at
          by_tests true false i high below e n =
              let off : true ≡ false = ap (λ j. not j && true) (sym e) ∙ n in cc

      -- what is left begins with the row
      row_first : (s : VersionedRows) → slice_get (word_rows s) place ≡ Some row → is_below row.key until ≡ true
          → IsRunning h from until before place room run s
          → run_of from until (drop place (word_rows s)) ≡ row ∷ run_of from until (drop (suc place) (word_rows s))
      row_first s at below t =
          let low = at_place (λ r. is_below (row_key r) from ≡ false) (word_rows s) place row t.behind at in
          ap (run_of from until) (from_place (word_rows s) place row at)
          ∙ ap (λ b. cond b (row ∷ run_of from until (drop (suc place) (word_rows s)))
          (run_of from until (drop (suc place) (word_rows s)))) (between_of from until row.key low below)

      module _ (inside : Bool) (all : inside ≡ not (is_below until h.high))
          (near : (not inside && not (is_below row.key until)) ≡ false) where
        pub run_is_full : room ≡ 0
            → IsReadingOn cell first w (IsRunLoaded (record { head = h; stop = Full row.key }) from until before run)
        run_is_full none =
            weaken cell first w (WithRow cell first (IsRunning h from until before place room run) place row)
            (IsRunLoaded (record { head = h; stop = Full row.key }) from until before run) with_row (λ block s spells t.
            let below = is_inside s spells.sound t.0.head_is t.1 inside all near in
            let rest = run_of from until (drop (suc place) (word_rows s)) in
            stops s place room run (row ∷ rest) (Full row.key) t.0 (row_first s t.1 below t.0)
            (ap (λ n. stop_in n (row ∷ rest)) (sym none)) (ap (λ n. front_in n (row ∷ rest)) none))

        module _ (some : (room ≡ 0) → ⊥) where
          one_in : (n : ℕ) → (n ≡ 0 → ⊥) → n ≡ suc (n - 1)
          one_in zero more = absurd (more refl)
          one_in (suc n) more = omega arith

          room_is : room ≡ suc (room - 1)
          room_is = one_in room some

          pub run_is_marked : is_marked row.weight ≡ true
              → IsReadingOn cell first w (IsRunLoaded (record { head = h; stop = Marked row.key }) from until before run)
          run_is_marked marked =
              weaken cell first w (WithRow cell first (IsRunning h from until before place room run) place row)
              (IsRunLoaded (record { head = h; stop = Marked row.key }) from until before run) with_row (λ block s spells t.
              let below = is_inside s spells.sound t.0.head_is t.1 inside all near in
              let rest = run_of from until (drop (suc place) (word_rows s)) in
              stops s place room run (row ∷ rest) (Marked row.key) t.0 (row_first s t.1 below t.0)
              (sym (ap (λ n. stop_in n (row ∷ rest)) room_is
              ∙ ap (λ b. cond b (Marked row.key) (stop_in (room - 1) rest)) marked))
              (ap (λ n. front_in n (row ∷ rest)) room_is
              ∙ ap (λ b. cond b [] (row ∷ front_in (room - 1) rest)) marked))

          pub run_goes_on : is_marked row.weight ≡ false → (n m : ℕ) (more : List Row) → n ≡ place + 1 → m ≡ room - 1
              → more ≡ run ++ row ∷ [] → IsReadingOn cell first w (IsRunning h from until before n m more)
          run_goes_on free n m more next less_room is_more =
              weaken cell first w (WithRow cell first (IsRunning h from until before place room run) place row)
              (IsRunning h from until before n m more) with_row (λ block s spells t.
              let below = is_inside s spells.sound t.0.head_is t.1 inside all near in
              let rest = run_of from until (drop (suc place) (word_rows s)) in
              let left = row_first s t.1 below t.0 in
              let later : n ≡ suc place = omega (arith, next) in
              subst (λ k. IsRunning h from until before k m more s) (sym later) (record {
                head_is = t.0.head_is;
                behind = one_less (λ r. is_below (row_key r) from ≡ false) (word_rows s) place t.0.behind;
                stop_is = t.0.stop_is ∙ ap (stop_in room) left ∙ ap (λ k. stop_in k (row ∷ rest)) room_is
                    ∙ ap (λ b. cond b (Marked row.key) (stop_in (room - 1) rest)) free
                    ∙ ap (λ k. stop_in k rest) (sym less_room);
                rows_are = t.0.rows_are ∙ ap (λ ws. run ++ front_in room ws) left
                    ∙ ap (λ k. run ++ front_in k (row ∷ rest)) room_is
                    ∙ ap (λ b. run ++ cond b [] (row ∷ front_in (room - 1) rest)) free
                    ∙ one_on run row (front_in (room - 1) rest)
                    ∙ (λ i. sym is_more i ++ front_in (sym less_room i) rest);
              }))

      pub run_ends_at : (inside : Bool) → (not inside && not (is_below row.key until)) ≡ true
          → IsReadingOn cell first w (IsRunLoaded (record { head = h; stop = Ended }) from until before run)
      run_ends_at inside beyond =
          weaken cell first w (WithRow cell first (IsRunning h from until before place room run) place row)
          (IsRunLoaded (record { head = h; stop = Ended }) from until before run) with_row (λ block s spells t.
          stops s place room run [] Ended t.0
          (none_above from until (drop place (word_rows s))
          (none_below_on until (word_rows s) place row (words_rise s spells.sound) t.1
          (not_below inside (is_below row.key until) beyond)))
          (none_ends room) (none_there room))
        where
          not_below : (i b : Bool) → (not i && not b) ≡ true → b ≡ false
          not_below i false e = refl
          not_below true true e = cc
          not_below false true e = cc

-- ---- marked words

marked_by_parts : (pairs touches : List Stamped) (oldest : Option ℕ)
    → is_nothing (record { pairs = pairs; oldest = oldest; touches = touches }) ≡ false
    → HasSmallValues (record { pairs = pairs; oldest = oldest; touches = touches })
    → is_marked (word_of (newest_in pairs oldest) (is_empty pairs))
    ≡ is_chained (record { pairs = pairs; oldest = oldest; touches = touches })
marked_by_parts (p ∷ ps) touches oldest some small = changed p.value
  where
    changed : (value : Option ℕ) → is_marked (word_of value false) ≡ true
    changed None = refl
    changed (Some n) = grind (arith, nat_tests)
marked_by_parts [] (t ∷ ts) None some small = refl
marked_by_parts [] [] None some small = cc
marked_by_parts [] touches (Some n) some small = let few = small.1 in grind (arith, nat_tests)

-- a row is chained exactly where its word is marked
marked_is : (vs : StampedVersions) → is_nothing vs ≡ false → HasSmallValues vs
    → is_marked (value_word vs) ≡ is_chained vs
marked_is vs some small = marked_by_parts vs.pairs vs.touches vs.oldest some small

-- so the loads stop, and the rows are those, by what is chained
stop_is_of : (from until : Key) (rs : List (Key × StampedVersions)) (room : ℕ)
    → AllByRecursion (λ row. is_nothing row.1 ≡ false) rs → AllByRecursion (λ row. HasSmallValues row.1) rs
    → stop_in room (run_of from until (map word_row rs)) ≡ stop_of room (range_of from until rs)
stop_is_of from until [] zero some small = refl
stop_is_of from until [] (suc n) some small = refl
stop_is_of from until (r ∷ rs) room some small =
    go (is_between from until r.0) room (λ n. stop_is_of from until rs n some.1 small.1)
  where
    go : (t : Bool) (room : ℕ)
        → ((n : ℕ) → stop_in n (run_of from until (map word_row rs)) ≡ stop_of n (range_of from until rs))
        → stop_in room (cond t (word_row r ∷ run_of from until (map word_row rs)) (run_of from until (map word_row rs)))
        ≡ stop_of room (cond t (r ∷ range_of from until rs) (range_of from until rs))
    go true zero e = refl
    go true (suc n) e = λ i. cond (marked_is r.1 some.0 small.0 i) (Marked r.0) (e n i)
    go false room e = e room

front_is_of : (from until : Key) (rs : List (Key × StampedVersions)) (room : ℕ)
    → AllByRecursion (λ row. is_nothing row.1 ≡ false) rs → AllByRecursion (λ row. HasSmallValues row.1) rs
    → front_in room (run_of from until (map word_row rs)) ≡ front_of room (range_of from until rs)
front_is_of from until [] zero some small = refl
front_is_of from until [] (suc n) some small = refl
front_is_of from until (r ∷ rs) room some small =
    go (is_between from until r.0) room (λ n. front_is_of from until rs n some.1 small.1)
  where
    go : (t : Bool) (room : ℕ)
        → ((n : ℕ) → front_in n (run_of from until (map word_row rs)) ≡ front_of n (range_of from until rs))
        → front_in room (cond t (word_row r ∷ run_of from until (map word_row rs)) (run_of from until (map word_row rs)))
        ≡ front_of room (cond t (r ∷ range_of from until rs) (range_of from until rs))
    go true zero e = refl
    go true (suc n) e = λ i. cond (marked_is r.1 some.0 small.0 i) [] (word_row r ∷ e n i)
    go false room e = e room

module _ (block : List ℕ) (s : VersionedRows) (spells : Spells block s) (l : LoadedRun) (from until : Key)
    (before after : List Row) (x : IsRunLoaded l from until before after s) where
  covered : is_between l.head.low l.head.high from ≡ covers s from
  covered i = is_between (x.head_is.low i) (x.head_is.high i) from

  abbrev the_stop : Stop
  the_stop = stop_of (room_behind before) (range_of from until s.rows)

  pub moved_run : is_between l.head.low l.head.high from ≡ false
      → Moved l.head.low l.head.high ≡ decoded_run s from until (room_behind before)
  moved_run out =
      (λ i. Moved (x.head_is.low i) (x.head_is.high i))
      ∙ ap (λ b. cond b (read_up_to the_stop (lesser s.high until)) (Moved s.low s.high)) (sym out ∙ covered)

  pub read_run : (stop : Stop) (end : Key) → is_between l.head.low l.head.high from ≡ true → stop ≡ l.stop
      → end ≡ lesser l.head.high until → read_up_to stop end ≡ decoded_run s from until (room_behind before)
  read_run stop end within is ends =
      let here : stop ≡ the_stop = is ∙ x.stop_is
      ∙ ap (λ b. stop_in (room_behind before) (cond b (run_of from until (word_rows s)) [])) within
      ∙ stop_is_of from until s.rows (room_behind before) spells.sound.something spells.small in
      let high : end ≡ lesser s.high until = ends ∙ ap (λ k. lesser k until) x.head_is.high in
      (λ i. read_up_to (here i) (high i))
      ∙ ap (λ b. cond b (read_up_to the_stop (lesser s.high until)) (Moved s.low s.high))
      (sym within ∙ covered)

  pub rows_of_run : after ≡ before ++ decoded_rows s from until (room_behind before)
  rows_of_run = x.rows_are ∙ ap (λ ws. before ++ ws) (by_test (is_between l.head.low l.head.high from) covered)
    where
      by_test : (b : Bool) → b ≡ covers s from
          → front_in (room_behind before) (cond b (run_of from until (word_rows s)) [])
          ≡ decoded_rows s from until (room_behind before)
      by_test true e =
          front_is_of from until s.rows (room_behind before) spells.sound.something spells.small
          ∙ ap (λ c. cond c (front_of (room_behind before) (range_of from until s.rows)) []) e
      by_test false e =
          none (room_behind before)
          ∙ ap (λ c. cond c (front_of (room_behind before) (range_of from until s.rows)) []) e
        where
          none : (n : ℕ) → front_in n [] ≡ []
          none zero = refl
          none (suc n) = refl
