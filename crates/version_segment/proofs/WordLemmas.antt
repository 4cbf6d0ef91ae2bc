-- Value words, and what they tell of rows that are laid to rest and woken again.
use Rattle.std.proofs.Common.{◌≡◌, ℕ, ◌+◌, ◌-◌, ◌≤◌, List, [], ◌∷◌, map, refl, sym, ◌∙◌, ap, subst, cond, arith, Option, Some, None}
use Rattle.std.specs.Prelude.{Bool, true, false, ◌==◌, ◌||◌, not, is_some, nat_le, IfSome}
use Rattle.std.specs.List.{AllByRecursion}
use Rattle.std.proofs.lemmas.Bool.Decides.{nat_tests}
use Rattle.graph_model.specs.declared.row.Key.{Key}
use Rattle.graph_model.specs.declared.row.Row.{Row}
use Rattle.graph_model.specs.declared.limits.TheConstants.{MAX_WEIGHT}
use Rattle.graph_model.specs.Rows.{is_below, is_between}
use Rattle.gap_segment.specs.Fenced.{AreSorted, AreAbove, AreWithin}
use Rattle.store_model.specs.Stamped.{Stamped, StampedVersions}
use Rattle.row_table.specs.Rows.{is_empty}
use Rattle.row_table.specs.HeadMap.Keyed.{RisesBy}
use Rattle.version_segment.specs.Resting.{newest_in, newest_value, front_with, oldest_with, with_newest, mark, no_value, word_of, value_word, value_in_word, is_marked, RestingRow, resting_row, word_row, woken_rows, AgreesWith, AgreeWith, RestedCanWake, WakesRested, RestsWoken, AreErased, ValueWordsAre, WordsTell}

-- ---- words

-- a word tells the value that it was made of
word_back : (v : Option ℕ) (alone : Bool) → IfSome v (λ w. w ≤ MAX_WEIGHT) → value_in_word (word_of v alone) ≡ v
word_back None alone small = refl
word_back (Some w) true small =
    let a : (w == no_value) ≡ false = grind (arith, nat_tests) in
    let b : nat_le mark w ≡ false = grind (arith, nat_tests) in
    ap (λ t. cond t None (cond (nat_le mark w) (Some (w - mark)) (Some w))) a ∙ ap (λ t. cond t (Some (w - mark)) (Some w)) b
word_back (Some w) false small =
    let n : ℕ = mark + w in
    let a : (n == no_value) ≡ false = grind (arith, nat_tests) in
    let b : nat_le mark n ≡ true = grind (arith, nat_tests) in
    let e : n - mark ≡ w = omega arith in
    ap (λ t. cond t None (cond (nat_le mark n) (Some (n - mark)) (Some n))) a ∙ ap (λ t. cond t (Some (n - mark)) (Some n)) b ∙ ap (λ m. Some m) e

-- versions whose newest value is taken out and put back are as they were
renew : (vs : StampedVersions) → with_newest (newest_value vs) (with_newest None vs) ≡ vs
renew vs = by_pairs vs.pairs vs.oldest
  where
    by_pairs : (ps : List Stamped) (oldest : Option ℕ) → ◌≡◌ {A = StampedVersions} (record { pairs = front_with (newest_in ps oldest) (front_with None ps); oldest = oldest_with (newest_in ps oldest) (front_with None ps) (oldest_with None ps oldest); touches = vs.touches }) (record { pairs = ps; oldest = oldest; touches = vs.touches })
    by_pairs [] oldest = refl
    by_pairs (p ∷ ps) oldest = refl

-- so are all rows
waken_all : (rows : List (Key × StampedVersions)) → AllByRecursion (λ row. IfSome (newest_value row.1) (λ weight. weight ≤ MAX_WEIGHT)) rows → woken_rows (map resting_row rows) (map word_row rows) ≡ rows
waken_all [] h = refl
waken_all (row ∷ rows) h = λ i. (row.0, (ap (λ v. with_newest v (with_newest None row.1)) (word_back (newest_value row.1) (is_empty row.1.pairs) h.0) ∙ renew row.1) i) ∷ waken_all rows h.1 i

pub wakes_rested : WakesRested
wakes_rested s small = λ i. record { low = s.low; high = s.high; rows = waken_all s.rows small i; spare = s.spare }

-- ---- resting a woken segment

-- the newest value is the one that was put
newest_with : (v : Option ℕ) (vs : StampedVersions) → newest_value (with_newest v vs) ≡ v
newest_with v vs = by_pairs vs.pairs
  where
    by_pairs : (ps : List Stamped) → newest_in (front_with v ps) (oldest_with v ps vs.oldest) ≡ v
    by_pairs [] = refl
    by_pairs (p ∷ ps) = refl

-- a newest value takes the place of the one before
with_again : (v w : Option ℕ) (vs : StampedVersions) → with_newest w (with_newest v vs) ≡ with_newest w vs
with_again v w vs = by_pairs vs.pairs
  where
    by_pairs : (ps : List Stamped) → ◌≡◌ {A = StampedVersions} (record { pairs = front_with w (front_with v ps); oldest = oldest_with w (front_with v ps) (oldest_with v ps vs.oldest); touches = vs.touches }) (record { pairs = front_with w ps; oldest = oldest_with w ps vs.oldest; touches = vs.touches })
    by_pairs [] = refl
    by_pairs (p ∷ ps) = refl

-- there are as many undo records with another newest value
empty_with : (v : Option ℕ) (vs : StampedVersions) → is_empty (with_newest v vs).pairs ≡ is_empty vs.pairs
empty_with v vs = by_pairs vs.pairs
  where
    by_pairs : (ps : List Stamped) → is_empty (front_with v ps) ≡ is_empty ps
    by_pairs [] = refl
    by_pairs (p ∷ ps) = refl

-- a word that agrees with a head comes back
word_again : (n : ℕ) (has alone : Bool) → is_some (value_in_word n) ≡ has → is_marked n ≡ (not alone || not has) → word_of (value_in_word n) alone ≡ n
word_again n has alone value marked = by_tests (n == no_value) (nat_le mark n) refl refl has alone (sym value) marked
  where
    by_tests : (a b : Bool) → (n == no_value) ≡ a → nat_le mark n ≡ b → (h s : Bool) → h ≡ is_some (cond a None (cond b (Some (n - mark)) (Some n))) → b ≡ (not s || not h) → word_of (cond a None (cond b (Some (n - mark)) (Some n))) s ≡ n
    by_tests true b e f h s value marked = let same : n ≡ no_value = grind (arith, nat_tests) in sym same
    by_tests false true e f true false value marked = let le : mark ≤ n = grind (arith, nat_tests) in omega arith
    by_tests false true e f true true value marked = cc
    by_tests false true e f false s value marked = cc
    by_tests false false e f true true value marked = refl
    by_tests false false e f true false value marked = cc
    by_tests false false e f false s value marked = cc

-- rows that are woken rest as before, with the same words and within the limit of weights
again_all : (hs : List RestingRow) (rows : List Row) → AreErased hs → AgreeWith hs rows → (map resting_row (woken_rows hs rows) ≡ hs) × (map word_row (woken_rows hs rows) ≡ rows) × AllByRecursion (λ row. IfSome (newest_value row.1) (λ weight. weight ≤ MAX_WEIGHT)) (woken_rows hs rows)
again_all [] [] erased agree = (refl, refl, tt)
again_all [] (r ∷ rs) erased agree = absurd agree
again_all (h ∷ hs) [] erased agree = absurd agree
again_all (h ∷ hs) (r ∷ rs) erased agree =
    let rest = again_all hs rs erased.1 agree.1 in
    let v = value_in_word r.weight in
    let a = agree.0 in
    let n = newest_with v h.versions in (
      (λ i. record { has_value = (ap is_some n ∙ a.value) i; versions = (with_again v None h.versions ∙ erased.0) i } ∷ rest.0 i),
      (λ i. record { key = r.key; weight = ((λ j. word_of (n j) (empty_with v h.versions j)) ∙ word_again r.weight h.has_value (is_empty h.versions.pairs) a.value a.marked) i } ∷ rest.1 i),
      (subst (λ o. IfSome o (λ weight. weight ≤ MAX_WEIGHT)) (sym n) a.small, rest.2),
    )

pub rests_woken : RestsWoken
rests_woken resting low high rows erased can =
    let h = again_all resting.rows rows erased can.agree in record {
      resting_again = λ i. record { rows = h.0 i; spare = resting.spare };
      rows_again = h.1;
      small = h.2;
    }

-- ---- what is at rest may wake

-- a word is marked where undo records stand behind its value, or there is none
marked_back : (v : Option ℕ) (alone : Bool) → IfSome v (λ w. w ≤ MAX_WEIGHT) → is_marked (word_of v alone) ≡ (not alone || not (is_some v))
marked_back None true small = refl
marked_back None false small = refl
marked_back (Some w) true small = grind (arith, nat_tests)
marked_back (Some w) false small = let n : ℕ = mark + w in let b : nat_le mark n ≡ true = grind (arith, nat_tests) in b

-- the word of a row agrees with what is left of it
agree_row : (vs : StampedVersions) → IfSome (newest_value vs) (λ weight. weight ≤ MAX_WEIGHT) → AgreesWith (record { has_value = is_some (newest_value vs); versions = with_newest None vs }) (value_word vs)
agree_row vs small =
    let back = word_back (newest_value vs) (is_empty vs.pairs) small in record {
      value = ap is_some back;
      marked = marked_back (newest_value vs) (is_empty vs.pairs) small ∙ ap (λ b. not b || not (is_some (newest_value vs))) (sym (empty_with None vs));
      small = subst (λ o. IfSome o (λ weight. weight ≤ MAX_WEIGHT)) (sym back) small;
    }

-- so do those of all rows
agree_all : (rows : List (Key × StampedVersions)) → AllByRecursion (λ row. IfSome (newest_value row.1) (λ weight. weight ≤ MAX_WEIGHT)) rows → AgreeWith (map resting_row rows) (map word_row rows)
agree_all [] h = tt
agree_all (row ∷ rows) h = (agree_row row.1 h.0, agree_all rows h.1)

-- rows with words have the keys of the rows
words_above : (k : Key) (rows : List (Key × StampedVersions)) → AllByRecursion (λ row. is_below k row.0 ≡ true) rows → AreAbove k (map word_row rows)
words_above k [] h = tt
words_above k (row ∷ rows) h = (h.0, words_above k rows h.1)

-- so they rise
words_sorted : (rows : List (Key × StampedVersions)) → RisesBy (λ row. row.0) rows → AreSorted (map word_row rows)
words_sorted [] h = tt
words_sorted (row ∷ rows) h = (words_above row.0 rows h.0, words_sorted rows h.1)

-- and stand between the fence keys
words_within : (low high : Key) (rows : List (Key × StampedVersions)) → AllByRecursion (λ row. is_between low high row.0 ≡ true) rows → AreWithin low high (map word_row rows)
words_within low high [] h = tt
words_within low high (row ∷ rows) h = (h.0, words_within low high rows h.1)

pub can_wake : RestedCanWake
can_wake s is small = record {
  fences = is.fences;
  sorted = words_sorted s.rows is.rising;
  within = words_within s.low s.high s.rows is.within;
  agree = agree_all s.rows small;
}

-- ---- what a word tells

-- no older value is there where there are no undo records
pub alone_at : (ps : List Stamped) (no_newest : Bool) → (not (is_empty ps) || no_newest) ≡ false → ps ≡ []
alone_at [] no_newest h = refl
alone_at (p ∷ ps) no_newest h = cc

pub words_tell : WordsTell
words_tell vs small = record {
  newest = word_back (newest_value vs) (is_empty vs.pairs) small;
  alone = λ unmarked. alone_at vs.pairs (not (is_some (newest_value vs))) (sym (marked_back (newest_value vs) (is_empty vs.pairs) small) ∙ unmarked);
  whole = ap (λ v. with_newest v (with_newest None vs)) (word_back (newest_value vs) (is_empty vs.pairs) small) ∙ renew vs;
}

pub words_are : ValueWordsAre
words_are = record { alone = λ weight. refl; changed = λ weight. refl; none = λ is_alone. refl }
