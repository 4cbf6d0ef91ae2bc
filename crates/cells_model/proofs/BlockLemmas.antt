-- One word of a cell's block is stored, or a cell's contents change: what the words say stays so, and each read
-- goes on.
use Rattle.std.proofs.Common.{◌≡◌, ◌≢◌, inl, inr, ℕ, ◌+◌, ◌-◌, ◌%◌, ◌<◌, ◌≤◌, List, [], ◌∷◌, length, set, refl, sym, ◌∙◌, ap, subst, cond, arith, length-set, get_or-set_other, get_or-set_same}
use Rattle.std.specs.Prelude.{Bool, true, false, ◌==◌, slice_index}
use Rattle.std.specs.List.{AllByRecursion}
use Rattle.std.proofs.lemmas.Bool.{true≢false}
use Rattle.std.proofs.lemmas.Bool.Decides.{nat_tests}
use mathlib.Core.Logic.{dite}
use native.Mathlib.Decide.{ℕ_discrete}
use Rattle.seat_views.specs.Keeping.{revised}
use Rattle.seat_views.proofs.NumberLemmas.{put_here, put_else, all_put}
use Rattle.leaf_store.specs.VersionSegment.Rows.{VersionedRows}
use Rattle.cells_model.specs.Words.{Spells, block_words}
use Rattle.cells_model.specs.Cells.{CellState, AreBlocks, ChangesContents, IsVersioned, StoresBlockWord, version_word, last_word, raised_word, lowered_word, unpacked, stored, packed}
use Rattle.cells_model.specs.Reads.{Reading, IsReading, IsUnchangedSince, AreLoadedFrom}
use Rattle.cells_model.specs.BlockLaws.{KeepsBlocks, UnpacksCell, StoresWord, PacksCell, ChangesCells}

-- a store of the version word changes no word that a read has loaded
pub still_loaded : (loaded : List (ℕ × ℕ)) (block : List ℕ) (x : ℕ) → AllByRecursion (λ e. 1 ≤ e.0) loaded
    → AreLoadedFrom block loaded → AreLoadedFrom (set block 0 x) loaded
still_loaded [] block x places h = tt
still_loaded (e ∷ es) block x places h = (
  get_or-set_other block 0 e.0 x 0 (λ z. let p = places.0 in omega arith) ∙ h.0,
  still_loaded es block x places.1 h.1,
)

-- nor what the block spells
pub still_spells : (block : List ℕ) (s : VersionedRows) (x : ℕ) → Spells block s → Spells (set block 0 x) s
still_spells block s x is = record {
  wide = length-set block 0 x ∙ is.wide;
  words = λ i n e. get_or-set_other block 0 (i + 1) x 0 (λ z. omega arith) ∙ is.words i n e;
  sound = is.sound;
  small = is.small;
}

-- what a read of the cell keeps, by its number alone
abbrev pub GoesOn : CellState → CellState → Type 0
GoesOn c d =
    (r : Reading) → r.first % 2 ≡ 0 → r.first ≤ version_word c → AllByRecursion (λ e. 1 ≤ e.0) r.loaded
    → (IsUnchangedSince r.first c → AreLoadedFrom c.block r.loaded)
    → (r.first ≤ version_word d) × (IsUnchangedSince r.first d → AreLoadedFrom d.block r.loaded)

-- a read goes on where its cell has become another
pub read_goes_on : (count : ℕ) (old new : ℕ → CellState) (r : Reading) → IsReading count old r
    → GoesOn (old r.cell) (new r.cell) → IsReading count new r
read_goes_on count old new r h goes =
    let t = goes r h.even h.low h.places h.unchanged in
    record { inside = h.inside; places = h.places; even = h.even; low = t.0; unchanged = t.1 }

-- a cell that is as it was
pub same_goes_on : (c : CellState) → GoesOn c c
same_goes_on c r even low places unchanged = (low, unchanged)

module _ (count : ℕ) (block block' : ℕ → ℕ → ℕ) (cell : ℕ → CellState) (is : AreBlocks count block cell) (k : ℕ)
    (inside : k < count) where
  -- one word of the block is stored, and the holder knows it
  pub word_stored : (i x : ℕ) (c' : CellState) → i < block_words → c'.block ≡ set (cell k).block i x
      → StoresBlockWord block block' k i x → (c'.unpacked ≡ false → Spells c'.block c'.segment)
      → IsVersioned c' c'.unpacked → GoesOn (cell k) c'
      → KeepsBlocks count block' cell (revised cell ((k, c') ∷ []))
  word_stored i x c' small as_block store spells versioned goes = record {
    blocks = record {
      wide = all_put (λ l (d : CellState). l < count → length d.block ≡ block_words) cell k c'
          (λ _. ap length as_block ∙ length-set (cell k).block i x ∙ is.wide k inside) (λ l _. is.wide l);
      mirror = λ l j in_l in_j. dite (ℕ_discrete l k)
          (λ same. here l j same in_j ∙ sym (ap (λ (d : CellState). slice_index d.block j) (now_at l same)))
          (λ other.
          store.others l j in_j (λ e. other e.0) ∙ is.mirror l j in_l in_j
          ∙ sym (ap (λ (d : CellState). slice_index d.block j) (put_else cell k c' l other)));
      spells = all_put (λ l (d : CellState). l < count → d.unpacked ≡ false
          → Spells d.block d.segment) cell k c'
          (λ _. spells) (λ l _. is.spells l);
      versions = all_put (λ l (d : CellState). l < count → IsVersioned d d.unpacked) cell k c' (λ _. versioned)
          (λ l _. is.versions l);
    };
    reads = λ r h. read_goes_on count cell (revised cell ((k, c') ∷ [])) r h (dite (ℕ_discrete r.cell k)
        (λ same. subst (λ (y : CellState × CellState). GoesOn y.0 y.1)
        (λ t. (cell (sym same t), sym (now_at r.cell same) t)) goes)
        (λ other. subst (GoesOn (cell r.cell)) (sym (put_else cell k c' r.cell other))
        (same_goes_on (cell r.cell))));
  }
    where
      now_at : (l : ℕ) → l ≡ k → revised cell ((k, c') ∷ []) l ≡ c'
      now_at l same = ap (revised cell ((k, c') ∷ [])) same ∙ put_here cell k c'

      here : (l j : ℕ) → l ≡ k → j < block_words → block' l j ≡ slice_index c'.block j
      here l j same in_j = dite (ℕ_discrete j i)
          (λ e.
          let wide = is.wide k inside in
          (λ t. block' (same t) (e t)) ∙ store.here
          ∙ sym (ap (λ b. slice_index b j) as_block ∙ ap (slice_index (set (cell k).block i x)) e
          ∙ get_or-set_same (cell k).block i x 0 (omega (arith, wide, small))))
          (λ ne.
          store.others l j in_j (λ e. ne e.1) ∙ ap (λ m. block m j) same ∙ is.mirror k j inside in_j
          ∙ sym (ap (λ b. slice_index b j) as_block ∙ get_or-set_other (cell k).block i j x 0 ne))

-- ---- the version word

-- a version word that is raised is odd and no lower, and one higher unless it stands at the last one
raised : (c : CellState) → IsVersioned c false
    → (raised_word (version_word c) % 2 ≡ 1) × (version_word c ≤ raised_word (version_word c))
    × ((version_word c == last_word) ≡ false → raised_word (version_word c) ≡ version_word c + 1)
raised c versioned = by_test (version_word c == last_word) refl
  where
    by_test : (b : Bool) → (version_word c == last_word) ≡ b
        → (raised_word (version_word c) % 2 ≡ 1) × (version_word c ≤ raised_word (version_word c))
        × ((version_word c == last_word) ≡ false → raised_word (version_word c) ≡ version_word c + 1)
    by_test true e =
        let same : version_word c ≡ last_word = grind (arith, nat_tests) in
        let w : raised_word (version_word c) ≡ last_word = ap (λ t. cond t last_word (version_word c + 1)) e in
        (ap (λ n. n % 2) w, (omega arith), λ f. absurd (true≢false (sym e ∙ f)))
    by_test false e =
        let w : raised_word (version_word c) ≡ version_word c + 1 =
        ap (λ t. cond t last_word (version_word c + 1)) e in
        let apart : version_word c ≢ last_word = grind (arith, nat_tests) in
        let odd : raised_word (version_word c) % 2 ≡ 1
        = elim versioned as (λ _. raised_word (version_word c) % 2 ≡ 1) [
          | inl p ↦ ap (λ n. n % 2) w ∙ (omega arith)
          | inr p ↦ absurd (apart p.0)
        ] in
        (odd, (omega arith), λ _. w)

-- an unpacked cell's version word is odd
pub is_odd : (c : CellState) → IsVersioned c c.unpacked → c.unpacked ≡ true → version_word c % 2 ≡ 1
is_odd c versioned loose = subst (IsVersioned c) loose versioned

pub unpacks_cell : UnpacksCell
unpacks_cell count block block' cell is k inside free store =
    let c : CellState = cell k in
    let x : ℕ = raised_word (version_word c) in
    let wide = is.wide k inside in
    let now : version_word (unpacked c) ≡ x = get_or-set_same c.block 0 x 0 (omega (arith, wide)) in
    let cases = raised c (subst (IsVersioned c) free (is.versions k inside)) in
    word_stored count block block' cell is k inside 0 x (unpacked c) (omega arith) refl store
    (λ e. absurd (true≢false e)) (ap (λ n. n % 2) now ∙ cases.0)
    (λ r even low places was. (
      (let n = now in let w = cases.1 in omega (arith, n, w, low)),
      λ unchanged. still_loaded r.loaded c.block x places
          (was (elim unchanged as (λ _. IsUnchangedSince r.first c) [
            | inl e ↦ (let o = cases.0 in let f : x ≡ r.first = sym now ∙ e in
                absurd (omega (arith, o, f, even)))
            | inr e ↦ inl (let g = cases.2 e.1 in let f : x ≡ r.first + 1 = sym now ∙ e.0 in
                omega (arith, g, f))
          ])),
    ))

pub stores_word : StoresWord
stores_word count block block' cell is k i n inside least small loose store =
    let c : CellState = cell k in
    let now : version_word (stored c i n) ≡ version_word c =
    get_or-set_other c.block i 0 n 0 (λ e. omega arith) in
    let odd = is_odd c (is.versions k inside) loose in
    word_stored count block block' cell is k inside i n (stored c i n) small refl store
    (λ e. absurd (true≢false (sym loose ∙ e)))
    (subst (IsVersioned (stored c i n)) (sym loose) (ap (λ m. m % 2) now ∙ odd))
    (λ r even low places was. (
      omega (arith, now, low),
      λ unchanged. elim unchanged as (λ _. AreLoadedFrom (stored c i n).block r.loaded) [
        | inl e ↦ (let f : version_word c ≡ r.first = sym now ∙ e in absurd (omega (arith, f, odd, even)))
        | inr e ↦ absurd (true≢false e.1)
      ],
    ))

-- a version word that is lowered is even, or the last one, and a read that it still tells is one that nothing
-- was
-- stored since
lowered : (c : CellState) → version_word c % 2 ≡ 1
    → version_word (packed c) ≡ lowered_word c.changed (version_word c)
    → IsVersioned (packed c) false × GoesOn c (packed c)
lowered c odd now = by_tests c.changed refl (version_word c == last_word) refl
  where
    by_tests : (b : Bool) → c.changed ≡ b → (t : Bool) → (version_word c == last_word) ≡ t
        → IsVersioned (packed c) false × GoesOn c (packed c)
    by_tests true was true stuck =
        let same : version_word c ≡ last_word = grind (arith, nat_tests) in
        let w : version_word (packed c) ≡ last_word
        = now ∙ ap (λ b. lowered_word b (version_word c)) was
        ∙ ap (λ t. cond t last_word (version_word c + 1)) stuck in (
          inr (w, stuck),
          λ r even low places old. (
            (omega arith),
            λ unchanged. elim unchanged as (λ _. AreLoadedFrom (packed c).block r.loaded) [
              | inl e ↦ (let f : last_word ≡ r.first = sym w ∙ e in absurd (omega (arith, f, even)))
              | inr e ↦ absurd (true≢false (sym stuck ∙ e.1))
            ],
          ),
        )
    by_tests true was false free =
        let w : version_word (packed c) ≡ version_word c + 1
        = now ∙ ap (λ b. lowered_word b (version_word c)) was
        ∙ ap (λ t. cond t last_word (version_word c + 1)) free in (
          inl (ap (λ n. n % 2) w ∙ (omega arith)),
          λ r even low places old. (
            (omega arith),
            λ unchanged. elim unchanged as (λ _. AreLoadedFrom (packed c).block r.loaded) [
              | inl e ↦ (let f : version_word c + 1 ≡ r.first = sym w ∙ e in absurd (omega (arith, f, low)))
              | inr e ↦ (let f : version_word c + 1 ≡ r.first + 1 = sym w ∙ e.0 in
                  absurd (omega (arith, f, even, odd)))
            ],
          ),
        )
    by_tests false was t test =
        let w : version_word (packed c) ≡ version_word c - 1 = now
        ∙ ap (λ b. lowered_word b (version_word c)) was in (
          inl (ap (λ n. n % 2) w ∙ (omega arith)),
          λ r even low places old. (
            (omega arith),
            λ unchanged. still_loaded r.loaded c.block (lowered_word c.changed (version_word c)) places
                (old (elim unchanged as (λ _. IsUnchangedSince r.first c) [
                  | inl e ↦ inr (
                    (let f : version_word c - 1 ≡ r.first = sym w ∙ e in omega (arith, f, odd)),
                    was,
                  )
                  | inr e ↦ (let f : version_word c - 1 ≡ r.first + 1 = sym w ∙ e.0 in
                      absurd (omega (arith, f, even, odd)))
                ])),
          ),
        )

pub packs_cell : PacksCell
packs_cell count block block' cell is k inside loose spells store =
    let c : CellState = cell k in
    let x : ℕ = lowered_word c.changed (version_word c) in
    let wide = is.wide k inside in
    let now : version_word (packed c) ≡ x = get_or-set_same c.block 0 x 0 (omega (arith, wide)) in
    let t = lowered c (is_odd c (is.versions k inside) loose) now in
    word_stored count block block' cell is k inside 0 x (packed c) (omega arith) refl store
    (λ _. still_spells c.block c.segment x spells) t.0 t.1

-- ---- contents

pub changes_cells : ChangesCells
changes_cells count block old new is same = record {
  blocks = record {
    wide = λ k inside. ap length (same k).block ∙ is.wide k inside;
    mirror = λ k i inside small. is.mirror k i inside small ∙ ap (λ b. slice_index b i) (sym (same k).block);
    spells = λ k inside free.
        let was = sym (same k).unpacked ∙ free in
        subst (λ (x : List ℕ × VersionedRows). Spells x.0 x.1)
        (λ t. (sym (same k).block t, sym ((same k).segment was) t)) (is.spells k inside was);
    versions = λ k inside. versioned (old k) (new k) (same k) (new k).unpacked
        (subst (IsVersioned (old k)) (sym (same k).unpacked) (is.versions k inside));
  };
  reads = λ r h. read_goes_on count old new r h (goes (old r.cell) (new r.cell) (same r.cell));
}
  where
    versioned : (c d : CellState) → ChangesContents c d → (b : Bool) → IsVersioned c b → IsVersioned d b
    versioned c d s true odd = ap (λ b. slice_index b 0 % 2) s.block ∙ odd
    versioned c d s false (inl even) = inl (ap (λ b. slice_index b 0 % 2) s.block ∙ even)
    versioned c d s false (inr last) = inr (ap (λ b. slice_index b 0) s.block ∙ last.0, s.changed ∙ last.1)

    goes : (c d : CellState) → ChangesContents c d → GoesOn c d
    goes c d s r even low places old = (
      subst (λ b. r.first ≤ slice_index b 0) (sym s.block) low,
      λ unchanged. subst (λ b. AreLoadedFrom b r.loaded) (sym s.block)
          (old (elim unchanged as (λ _. IsUnchangedSince r.first c) [
            | inl e ↦ inl (ap (λ b. slice_index b 0) (sym s.block) ∙ e)
            | inr e ↦ inr (ap (λ b. slice_index b 0) (sym s.block) ∙ e.0, sym s.changed ∙ e.1)
          ])),
    )
