-- What was looked up in a block is decoded as the contents that it spells.
use Rattle.std.proofs.Common.{◌≡◌, ◌≢◌, ◌⊎◌, inl, inr, ℕ, zero, suc, List, [], ◌∷◌, map, refl, sym, ◌∙◌, ap, cond, arith, ◌-◌, Option, Some, None}
use Rattle.std.specs.Prelude.{Bool, true, false, ◌==◌, ◌&&◌, ◌||◌, not, is_some, nat_le, slice_get}
use Rattle.std.specs.List.{AllByRecursion}
use Rattle.std.specs.Ordering.{eq_by_cmp}
use Rattle.std.specs.FinMap.Entries.{find}
use Rattle.std.proofs.lemmas.Bool.Decides.{nat_tests}
use Rattle.graph_model.specs.declared.row.Key.{Key}
use Rattle.graph_model.specs.declared.row.Row.{Row}
use Rattle.graph_model.specs.Rows.{is_between, key_cmp}
use Rattle.graph_model.proofs.KeyLemmas.{same_key_test}
use Rattle.graph_model.proofs.PlaceLemmas.{some_eq}
use Rattle.graph_model.proofs.TestLemmas.{never}
use Rattle.seat_views.proofs.NumberLemmas.{eq_of}
use Rattle.store_model.specs.Stamped.{Stamped, StampedVersions}
use Rattle.pass_steps.proofs.VersionSegment.KeyedLemmas.{tied_self}
use Rattle.pass_steps.specs.VersionSegment.Resting.{is_marked, mark, newest_in, newest_value, no_value, value_in_word, word_row, word_rows}
use Rattle.pass_steps.specs.VersionSegment.Rows.{VersionedRows, is_empty, is_nothing, nothing, or_nothing, versions_at}
use Rattle.pass_steps.specs.CellsModel.BlockLaws.{TellsVersions}
use Rattle.pass_steps.specs.CellsModel.Indexed.{covers}
use Rattle.pass_steps.specs.CellsModel.Words.{Spells}
use Rattle.pass_steps.proofs.CellsModel.WordLemmas.{no_row_is_told, value_is_told}
use Rattle.optimistic_read.specs.declared.decode.LookedUp.{LookedUp}
use Rattle.optimistic_read.specs.declared.tried.Tried.TheVariants.{Value, Chained, Moved}
use Rattle.optimistic_read.specs.Reads.{IsLookedUp}
use Rattle.optimistic_read.specs.Tried.{decoded, is_chained}

-- a row that is there is something
something_at : (key : Key) (rows : List (Key × StampedVersions)) (i : ℕ) (w : Row)
    → AllByRecursion (λ row. is_nothing row.1 ≡ false) rows → slice_get (map word_row rows) i ≡ Some w → w.key ≡ key
    → is_nothing (or_nothing (find key_cmp key rows)) ≡ false
something_at key [] i w all there same = cc
something_at key (r ∷ rs) i w all there same =
    by_test (eq_by_cmp key_cmp key r.0) refl i there (λ j at. something_at key rs j w all.1 at same)
  where
    by_test : (b : Bool) → eq_by_cmp key_cmp key r.0 ≡ b → (j : ℕ) → slice_get (map word_row (r ∷ rs)) j ≡ Some w
        → ((k : ℕ) → slice_get (map word_row rs) k ≡ Some w
        → is_nothing (or_nothing (find key_cmp key rs)) ≡ false)
        → is_nothing (or_nothing (cond b (Some r.1) (find key_cmp key rs))) ≡ false
    by_test true tied j at further = all.0
    by_test false tied zero at further =
        let here : r.0 ≡ key = ap (λ (x : Row). x.key) (some_eq (word_row r) w at) ∙ same in
        let test : true ≡ false = sym (ap (eq_by_cmp key_cmp key) here ∙ tied_self key) ∙ tied in
        cc
    by_test false tied (suc j) at further = further j at

-- a row without records and without a value has touches
chained_of : (pairs touches : List Stamped) (oldest : Option ℕ)
    → is_nothing (record { pairs = pairs; oldest = oldest; touches = touches }) ≡ false → newest_in pairs oldest ≡ None
    → is_chained (record { pairs = pairs; oldest = oldest; touches = touches }) ≡ true
chained_of (p ∷ ps) touches oldest some none = refl
chained_of [] (t ∷ ts) None some none = refl
chained_of [] (t ∷ ts) (Some n) some none = cc
chained_of [] [] None some none = cc
chained_of [] [] (Some n) some none = cc

chained_by : (vs : StampedVersions) → is_nothing vs ≡ false
    → (is_empty vs.pairs ≡ false) ⊎ (newest_value vs ≡ None) → is_chained vs ≡ true
chained_by vs some (inl pairs) =
    ap (λ b. not b || (not (is_some (newest_value vs)) && not (is_empty vs.touches))) pairs
chained_by vs some (inr none) = chained_of vs.pairs vs.touches vs.oldest some none

-- a word that isn't marked tells a value
unmarked : (n : ℕ) → is_marked n ≡ false → value_in_word n ≡ Some n
unmarked n low =
    let a : (n == no_value) ≡ false = grind (arith, nat_tests) in
    ap (λ t. cond t None (cond (nat_le mark n) (Some (n - mark)) (Some n))) a
    ∙ ap (λ t. cond t (Some (n - mark)) (Some n)) low

settled_by : (vs : StampedVersions) (n : ℕ) → is_empty vs.pairs ≡ true → newest_value vs ≡ Some n
    → is_chained vs ≡ false
settled_by vs n pairs value =
    ap (λ b. not b || (not (is_some (newest_value vs)) && not (is_empty vs.touches))) pairs
    ∙ ap (λ o. not (is_some o) && not (is_empty vs.touches)) value

module _ (block : List ℕ) (s : VersionedRows) (spells : Spells block s) (l : LookedUp) (key : Key)
    (x : IsLookedUp l key s) where
  covered : is_between l.head.low l.head.high key ≡ covers s key
  covered i = is_between (x.head.low i) (x.head.high i) key

  pub moved : (cell : ℕ) → is_between l.head.low l.head.high key ≡ false
      → Moved l.head.low l.head.high ≡ decoded s cell key
  moved cell out =
      (λ i. Moved (x.head.low i) (x.head.high i))
      ∙ ap (λ b. cond b (cond (is_chained (versions_at s key)) (Chained cell key)
      (Value (newest_value (versions_at s key)))) (Moved s.low s.high)) (sym out ∙ covered)

  -- the answer inside, by whether the row is chained
  inside : (cell : ℕ) (b : Bool) → is_between l.head.low l.head.high key ≡ true → is_chained (versions_at s key) ≡ b
      → cond b (Chained cell key) (Value (newest_value (versions_at s key))) ≡ decoded s cell key
  inside cell b within chain = λ i.
      cond ((sym within ∙ covered) i) (cond (sym chain i) (Chained cell key)
      (Value (newest_value (versions_at s key)))) (Moved s.low s.high)

  module _ (row : Row) (has : l.row ≡ Some row) (same : row.key ≡ key) where
    told : TellsVersions s key row.weight
    told = value_is_told block s spells key x.place x.place_is row (x.row ∙ has) same

    pub chained : (cell : ℕ) → is_between l.head.low l.head.high key ≡ true → is_marked row.weight ≡ true
        → Chained cell key ≡ decoded s cell key
    chained cell within marked = inside cell true within
        (chained_by (versions_at s key)
        (something_at key s.rows x.place row spells.sound.something (x.row ∙ has) same) (told.chained marked))

    pub valued : (cell : ℕ) → is_between l.head.low l.head.high key ≡ true → is_marked row.weight ≡ false
        → Value (value_in_word row.weight) ≡ decoded s cell key
    valued cell within free =
        let t = told.settled free in
        let some : newest_value (versions_at s key) ≡ Some row.weight = sym t.1 ∙ unmarked row.weight free in
        ap Value t.1 ∙ inside cell false within (settled_by (versions_at s key) row.weight t.0 some)

  missing : (cell : ℕ) → is_between l.head.low l.head.high key ≡ true
      → ((w : Row) → slice_get (word_rows s) x.place ≡ Some w → w.key ≢ key) → Value None ≡ decoded s cell key
  missing cell within other =
      let none : versions_at s key ≡ nothing = no_row_is_told block s spells key x.place x.place_is other in
      ap (λ (vs : StampedVersions). Value (newest_value vs)) (sym none)
      ∙ inside cell false within (ap is_chained none)

  pub other_row : (cell : ℕ) (row : Row) → l.row ≡ Some row → row.key ≢ key
      → is_between l.head.low l.head.high key ≡ true → Value None ≡ decoded s cell key
  other_row cell row has other within = missing cell within
      (λ w there same. other (ap (λ (r : Row). r.key) (some_eq row w (sym has ∙ sym x.row ∙ there)) ∙ same))

  pub no_row : (cell : ℕ) → l.row ≡ None → is_between l.head.low l.head.high key ≡ true
      → Value None ≡ decoded s cell key
  no_row cell none within = missing cell within
      (λ w there same. let f : None ≡ Some w = sym none ∙ sym x.row ∙ there in cc)

-- ---- keys

-- a test that finds two keys apart, or the same
abbrev apart : Key → Key → Bool
apart a b = not ((a.src == b.src) && (a.second == b.second))

pub other_key : (a b : Key) → apart a b ≡ true → a ≢ b
other_key a b e same = never _ (same_key_test a b same) (by_test ((a.src == b.src) && (a.second == b.second)) e)
  where
    by_test : (t : Bool) → not t ≡ true → t ≡ false
    by_test true h = cc
    by_test false h = refl

pub same_key : (a b : Key) → apart a b ≡ false → a ≡ b
same_key a b e = by_tests (a.src == b.src) (a.second == b.second) refl refl e
  where
    by_tests : (t u : Bool) → (a.src == b.src) ≡ t → (a.second == b.second) ≡ u → not (t && u) ≡ false → a ≡ b
    by_tests true true src second h =
        λ i. record { src = eq_of a.src b.src src i; second = eq_of a.second b.second second i }
    by_tests true false src second h = cc
    by_tests false u src second h = cc
