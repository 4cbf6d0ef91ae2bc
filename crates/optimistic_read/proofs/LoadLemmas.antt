-- What a read learns by its loads.
use Rattle.std.proofs.Common.{◌≡◌, ℕ, zero, suc, ◌+◌, ◌*◌, ◌<◌, ◌≤◌, List, [], ◌∷◌, length, refl, sym, ◌∙◌, ap, subst, arith, Option, Some, None, get_or, min}
use Rattle.std.specs.Prelude.{true, false, slice_get, slice_index}
use Rattle.std.proofs.lemmas.List.{length-map}
use Rattle.atomic_table.specs.declared.shared.Seat.{Seat}
use Rattle.graph_model.specs.declared.row.Key.{Key}
use Rattle.graph_model.specs.declared.row.Row.{Row}
use Rattle.graph_model.specs.Rows.{is_below}
use Rattle.pass_steps.proofs.HeadMap.HeadLemmas.{index_of, there_at}
use Rattle.pass_steps.proofs.VersionSegment.KeyedLemmas.{IsHalved, halved_down, halved_end, halved_start, halved_up}
use Rattle.pass_steps.specs.VersionSegment.Resting.{word_row, word_rows}
use Rattle.pass_steps.specs.VersionSegment.Rows.{VersionedRows}
use Rattle.pass_steps.specs.CellsModel.BlockLaws.{row_key}
use Rattle.pass_steps.specs.CellsModel.Reads.{Reading, word_loaded}
use Rattle.pass_steps.specs.CellsModel.Words.{Spells}
use Rattle.pass_steps.proofs.CellsModel.WordLemmas.{few_words, head_is_told, row_is_told, words_rise}
use Rattle.pass_steps.specs.RuleModel.Sight.{Sight, with_reading}
use Rattle.pass_steps.specs.StoreWords.Reads.{IsReadOf, reading_on, word_read}
use Rattle.pass_steps.specs.StoreWords.Steps.{Knows}
use Rattle.optimistic_read.specs.declared.decode.Head.{Head}
use Rattle.optimistic_read.specs.Reads.{AnyContents, IsHead, IsLookedUp, IsReadingOn, IsSearched, IsStill, StillReads, begun_read, key_read, row_read}

-- ---- the view is as it was, but for the read

on_still : (v : Sight) (o : Option Reading) (i n : ℕ) → v.reads.reading ≡ o
    → IsStill v (reading_on v o i n)
on_still v None i n e = refl
on_still v (Some q) i n e = refl

word_still : (a b : Sight) (i n : ℕ) → IsStill a b → IsStill a (word_read b i n)
word_still a b i n still =
    let new = word_read b i n in
    on_still b b.reads.reading i n refl ∙ ap (λ (u : Sight). with_reading u new.reads.reading) still

key_still : (a b : Sight) (word : ℕ) (key : Key) → IsStill a b → IsStill a (key_read b word key)
key_still a b word key still =
    word_still a (word_read b word key.src) (word + 1) key.second (word_still a b word key.src still)

row_still : (a b : Sight) (place : ℕ) (row : Row) → IsStill a b → IsStill a (row_read b place row)
row_still a b place row still =
    word_still a (key_read b (6 + 3 * place) row.key) (8 + 3 * place) row.weight
    (key_still a b (6 + 3 * place) row.key still)

-- of a seat: after a load, of a word, of a key and of a row
known_still : (a b c : Seat (Unit {0}) Sight) (x : Sight) → StillReads a b → Knows b c x → IsStill a.me.0 x
    → StillReads a c
known_still a b c x still knows view = record {
  table = knows.table ∙ still.table;
  view = subst (IsStill a.me.0) (λ i. (sym knows.me i).0) view;
  slots = (λ i. (knows.me i).1) ∙ still.slots;
}

pub still_here : (a : Seat (Unit {0}) Sight) → StillReads a a
still_here a = record { table = refl; view = refl; slots = refl }

pub word_on : (a b c : Seat (Unit {0}) Sight) (i n : ℕ) → StillReads a b → Knows b c (word_read b.me.0 i n)
    → StillReads a c
word_on a b c i n still knows =
    known_still a b c (word_read b.me.0 i n) still knows (word_still a.me.0 b.me.0 i n still.view)

pub key_on : (a b c : Seat (Unit {0}) Sight) (word : ℕ) (key : Key) → StillReads a b
    → Knows b c (key_read b.me.0 word key) → StillReads a c
key_on a b c word key still knows =
    known_still a b c (key_read b.me.0 word key) still knows (key_still a.me.0 b.me.0 word key still.view)

pub row_on : (a b c : Seat (Unit {0}) Sight) (place : ℕ) (row : Row) → StillReads a b
    → Knows b c (row_read b.me.0 place row) → StillReads a c
row_on a b c place row still knows =
    known_still a b c (row_read b.me.0 place row) still knows (row_still a.me.0 b.me.0 place row still.view)

pub still_then : (a b c : Seat (Unit {0}) Sight) → StillReads a b → StillReads b c → StillReads a c
still_then a b c first then = record {
  table = then.table ∙ first.table;
  view = then.view ∙ ap (λ (u : Sight). with_reading u c.me.0.reads.reading) first.view;
  slots = then.slots ∙ first.slots;
}

-- ---- a read is under way

-- still, after a word
pub reads_on : (cell i n : ℕ) (v w : Sight) → w ≡ word_read v i n → IsReadOf v cell → IsReadOf w cell
reads_on cell i n v w is reading = (
  word_loaded reading.0 i n,
  ap (λ (u : Sight). u.reads.reading) is
      ∙ ap (λ o. (reading_on v o i n).reads.reading) reading.1,
  reading.2,
)

-- and after a key
pub reads_after_key : (cell word : ℕ) (key : Key) (v w : Sight) → w ≡ key_read v word key → IsReadOf v cell
    → IsReadOf w cell
reads_after_key cell word key v w is reading =
    reads_on cell (word + 1) key.second (word_read v word key.src) w is
    (reads_on cell word key.src v (word_read v word key.src) refl reading)

pub reads_of_begun : (cell first : ℕ) (v : Sight) → v.reads.reading ≡ begun_read cell first → IsReadOf v cell
reads_of_begun cell first v begun =
    (record { cell = cell; first = first; loaded = []; valid = false }, begun, refl)

pub reads_of : (cell first : ℕ) (v : Sight) (P : VersionedRows → Type 0) → IsReadingOn cell first v P
    → IsReadOf v cell
reads_of cell first v P x = (x.reading, x.is, x.cell_is)

module _ (cell first : ℕ) where
  -- one more word was loaded
  pub after : (i n : ℕ) (v w : Sight) (P Q : VersionedRows → Type 0) → w ≡ word_read v i n
      → IsReadingOn cell first v P
      → ((block : List ℕ) (s : VersionedRows) → Spells block s → P s → slice_index block i ≡ n → Q s)
      → IsReadingOn cell first w Q
  after i n v w P Q is x tell = record {
    reading = word_loaded x.reading i n;
    is = ap (λ (u : Sight). u.reads.reading) is ∙ ap (λ o. (reading_on v o i n).reads.reading) x.is;
    cell_is = x.cell_is;
    first_is = x.first_is;
    fact = λ block s loaded spells. tell block s spells (x.fact block s loaded.1 spells) loaded.0;
  }

  pub weaken : (v : Sight) (P Q : VersionedRows → Type 0) → IsReadingOn cell first v P
      → ((block : List ℕ) (s : VersionedRows) → Spells block s → P s → Q s) → IsReadingOn cell first v Q
  weaken v P Q x tell = record {
    reading = x.reading;
    is = x.is;
    cell_is = x.cell_is;
    first_is = x.first_is;
    fact = λ block s loaded spells. tell block s spells (x.fact block s loaded spells);
  }

  begins : (v : Sight) → v.reads.reading ≡ begun_read cell first → IsReadingOn cell first v AnyContents
  begins v is = record {
    reading = record { cell = cell; first = first; loaded = []; valid = false };
    is = is;
    cell_is = refl;
    first_is = refl;
    fact = λ block s loaded spells. tt;
  }

  -- ---- a key

  -- a key whose words stand at these two places of a block
  abbrev pub HasKeyAt : List ℕ → ℕ → Key → Type 0
  HasKeyAt block word key = (slice_index block word ≡ key.src) × (slice_index block (word + 1) ≡ key.second)

  pub after_key : (word : ℕ) (key : Key) (v w : Sight) (P Q : VersionedRows → Type 0) → w ≡ key_read v word key
      → IsReadingOn cell first v P
      → ((block : List ℕ) (s : VersionedRows) → Spells block s → P s → HasKeyAt block word key → Q s)
      → IsReadingOn cell first w Q
  after_key word key v w P Q is x tell = record {
    reading = word_loaded (word_loaded x.reading word key.src) (word + 1) key.second;
    is = ap (λ (u : Sight). u.reads.reading) is
        ∙ ap (λ o. (reading_on (reading_on v o word key.src) (reading_on v o word key.src).reads.reading (word + 1)
        key.second).reads.reading) x.is;
    cell_is = x.cell_is;
    first_is = x.first_is;
    fact = λ block s loaded spells.
        tell block s spells (x.fact block s loaded.1.1 spells) (loaded.1.0, loaded.0);
  }

  -- ---- the head

  -- so many rows
  abbrev Counted : ℕ → VersionedRows → Type 0
  Counted n s = n ≡ length (word_rows s)

  abbrev CountedFrom : ℕ → Key → VersionedRows → Type 0
  CountedFrom n low s = Counted n s × (low ≡ s.low)

  words_of_rows : (s : VersionedRows) → length (word_rows s) ≡ length s.rows
  words_of_rows s = length-map s.rows word_row

  pub head_known : (n m : ℕ) (low high : Key) (a b c d : Sight) → m ≡ min n 32
      → a.reads.reading ≡ begun_read cell first → b ≡ word_read a 1 n → c ≡ key_read b 2 low → d ≡ key_read c 4 high
      → IsReadingOn cell first d (IsHead (record { count = m; low = low; high = high }))
  head_known n m low high a b c d least begun count from until =
      let one = after 1 n a b AnyContents (Counted n) count (begins a begun)
      (λ block s spells any e. sym e ∙ (head_is_told block s spells).count ∙ sym (words_of_rows s)) in
      let two = after_key 2 low b c (Counted n) (CountedFrom n low) from one (λ block s spells so e.
      let told = head_is_told block s spells in
      (so, λ i. record { src = (sym e.0 ∙ told.low_src) i; second = (sym e.1 ∙ told.low_second) i })) in
      after_key 4 high c d (CountedFrom n low) (IsHead (record { count = m; low = low; high = high })) until two
      (λ block s spells so e.
      let told = head_is_told block s spells in
      record {
        count = (let few = few_words s spells.sound in let same = so.0 in omega (arith, least, few, same));
        low = so.1;
        high = λ i. record { src = (sym e.0 ∙ told.high_src) i; second = (sym e.1 ∙ told.high_second) i };
      })

  -- ---- the search

  abbrev pub Halved : Head → Key → ℕ → ℕ → VersionedRows → Type 0
  Halved h key place rest s = IsHead h s × IsHalved row_key (word_rows s) key place rest

  pub search_begins : (v : Sight) (h : Head) (key : Key) → IsReadingOn cell first v (IsHead h)
      → IsReadingOn cell first v (Halved h key 0 h.count)
  search_begins v h key x = weaken v (IsHead h) (Halved h key 0 h.count) x (λ block s spells is. (
    is,
    subst (IsHalved row_key (word_rows s) key 0) (sym is.count) (halved_start row_key (word_rows s) key),
  ))

  pub search_ends : (v : Sight) (h : Head) (key : Key) (place rest : ℕ) → rest ≡ 0
      → IsReadingOn cell first v (Halved h key place rest) → IsReadingOn cell first v (IsSearched h key place)
  search_ends v h key place rest none x = weaken v (Halved h key place rest) (IsSearched h key place) x
      (λ block s spells is. record {
        head = is.0;
        place_is = halved_end row_key (word_rows s) key place rest is.1 none;
      })

  no_row : Row
  no_row = record { key = record { src = 0; second = 0 }; weight = 0 }

  row_there : (rows : List Row) (p : ℕ) → p < length rows → slice_get rows p ≡ Some (get_or rows p no_row)
  row_there rows p lt =
      let t = there_at rows p lt in t.1 ∙ ap (λ (r : Row). Some r) (sym (index_of rows p t.0 no_row t.1))

  -- the key that stands at a row's place is the row's
  key_at : (block : List ℕ) (s : VersionedRows) (p : ℕ) (key : Key) (row : Row) → Spells block s
      → HasKeyAt block (6 + 3 * p) key → slice_get (word_rows s) p ≡ Some row → row.key ≡ key
  key_at block s p key row spells at there =
      let told = row_is_told block s spells p row there in
      let place : 7 + 3 * p ≡ (6 + 3 * p) + 1 = omega arith in
      let second : row.key.second ≡ key.second = sym told.second ∙ ap (slice_index block) place ∙ at.1 in
      λ i. record { src = (sym told.src ∙ at.0) i; second = second i }

  module _ (h : Head) (key : Key) (place rest half : ℕ) (middle : Key) (v w : Sight) (less : half < rest)
      (is : w ≡ key_read v (6 + 3 * (place + half)) middle) (x : IsReadingOn cell first v (Halved h key place rest)) where
    pub goes_up : is_below middle key ≡ true → (p n : ℕ) → p ≡ place + half + 1 → p + n ≡ place + rest
        → IsReadingOn cell first w (Halved h key p n)
    goes_up below p n ep en = after_key (6 + 3 * (place + half)) middle v w (Halved h key place rest) (Halved h key p n) is x
        (λ block s spells t at.
        let inside : place + half < length (word_rows s) = (let c = t.1.within in omega arith) in
        let row = get_or (word_rows s) (place + half) no_row in
        let same = key_at block s (place + half) middle row spells at (row_there (word_rows s) (place + half) inside) in (
          t.0,
          halved_up row_key (word_rows s) key place rest (place + half) no_row (words_rise s spells.sound) t.1
              (omega arith) (ap (λ k. is_below k key) same ∙ below) p n ep en,
        ))

    pub goes_down : is_below middle key ≡ false → IsReadingOn cell first w (Halved h key place half)
    goes_down below = after_key (6 + 3 * (place + half)) middle v w (Halved h key place rest) (Halved h key place half) is x
        (λ block s spells t at.
        let inside : place + half < length (word_rows s) = (let c = t.1.within in omega arith) in
        let row = get_or (word_rows s) (place + half) no_row in
        let same = key_at block s (place + half) middle row spells at (row_there (word_rows s) (place + half) inside) in (
          t.0,
          halved_down row_key (word_rows s) key place rest (place + half) no_row (words_rise s spells.sound) t.1
              (omega arith) (ap (λ k. is_below k key) same ∙ below) half (omega arith) (omega arith),
        ))

  -- ---- the row at a place

  -- this is the key of the row at the place
  abbrev Keyed : (VersionedRows → Type 0) → ℕ → Key → VersionedRows → Type 0
  Keyed P place key s = P s × ((row : Row) → slice_get (word_rows s) place ≡ Some row → row.key ≡ key)

  -- and this is the row
  abbrev pub WithRow : (VersionedRows → Type 0) → ℕ → Row → VersionedRows → Type 0
  WithRow P place row s = P s × (slice_get (word_rows s) place ≡ Some row)

  pub row_known : (P : VersionedRows → Type 0) (place : ℕ) (row : Row) (v w : Sight)
      → ((s : VersionedRows) → P s → place < length (word_rows s)) → w ≡ row_read v place row
      → IsReadingOn cell first v P → IsReadingOn cell first w (WithRow P place row)
  row_known P place row v w inside is x =
      let keyed = after_key (6 + 3 * place) row.key v (key_read v (6 + 3 * place) row.key) P (Keyed P place row.key) refl x
      (λ block s spells t at. (t, λ r there. key_at block s place row.key r spells at there)) in
      after (8 + 3 * place) row.weight (key_read v (6 + 3 * place) row.key) w (Keyed P place row.key)
      (WithRow P place row) is keyed (λ block s spells t e.
      let here = get_or (word_rows s) place no_row in
      let there = row_there (word_rows s) place (inside s t.0) in
      let value : here.weight ≡ row.weight = sym (row_is_told block s spells place here there).value ∙ e in
      (t.0, there ∙ ap (λ (r : Row). Some r) (λ i. record { key = t.1 here there i; weight = value i })))

  pub row_looked_up : (h : Head) (key : Key) (place : ℕ) (row : Row) (v w : Sight) → place < h.count
      → w ≡ row_read v place row → IsReadingOn cell first v (IsSearched h key place)
      → IsReadingOn cell first w (IsLookedUp (record { head = h; row = Some row }) key)
  row_looked_up h key place row v w less is x =
      weaken w (WithRow (IsSearched h key place) place row) (IsLookedUp (record { head = h; row = Some row }) key)
      (row_known (IsSearched h key place) place row v w (λ s t. let count = t.head.count in omega (arith, less, count)) is x)
      (λ block s spells t. record { head = t.0.head; place = place; place_is = t.0.place_is; row = t.1 })

  pub none_looked_up : (h : Head) (key : Key) (place : ℕ) (v : Sight) → h.count ≤ place
      → IsReadingOn cell first v (IsSearched h key place)
      → IsReadingOn cell first v (IsLookedUp (record { head = h; row = None }) key)
  none_looked_up h key place v most x =
      weaken v (IsSearched h key place) (IsLookedUp (record { head = h; row = None }) key) x (λ block s spells t. record {
        head = t.head;
        place = place;
        place_is = t.place_is;
        row = behind (word_rows s) place (let count = t.head.count in omega (arith, count, most));
      })
    where
      behind : (rows : List Row) (p : ℕ) → length rows ≤ p → slice_get rows p ≡ None
      behind [] p le = refl
      behind (r ∷ rs) zero le = absurd (omega arith)
      behind (r ∷ rs) (suc p) le = behind rs p (omega arith)
