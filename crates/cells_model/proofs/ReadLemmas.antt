-- The loads of a read keep what holds of it, and the last one validates it.
use Rattle.std.proofs.Common.{◌≡◌, inl, ℕ, ◌%◌, [], refl, sym, ◌∙◌, subst, cond, arith}
use Rattle.std.specs.Prelude.{Bool, true, false, ◌==◌, Some, None}
use Rattle.seat_views.proofs.NumberLemmas.{eq_of, some_is}
use Rattle.cells_model.specs.Cells.{CellState, version_word}
use Rattle.cells_model.specs.Reads.{IsReading}
use Rattle.cells_model.specs.BlockLaws.{FirstLoadBegins, WordLoadGoesOn, SecondLoadGoesOn, SecondLoadValidates}
use Rattle.cells_model.proofs.BlockLemmas.{is_odd}

pub first_load_begins : FirstLoadBegins
first_load_begins count block cell is k r inside begun = by_test (block k 0 % 2 == 0) refl begun
  where
    n : ℕ
    n = block k 0

    found : block k 0 ≡ version_word (cell k)
    found = is.mirror k 0 inside (omega arith)

    by_test : (b : Bool) → (block k 0 % 2 == 0) ≡ b
        → cond b (Some (record { cell = k; first = block k 0; loaded = []; valid = false })) None ≡ Some r
        → IsReading count cell r
    by_test true even e = subst (IsReading count cell) (some_is _ r e) (record {
      inside = inside;
      places = tt;
      even = eq_of (block k 0 % 2) 0 even;
      low = (let f = found in omega (arith, f));
      unchanged = λ _. tt;
    })
    by_test false odd e = cc

pub word_load_goes_on : WordLoadGoesOn
word_load_goes_on count block cell is r i h least small = record {
  inside = h.inside;
  places = (least, h.places);
  even = h.even;
  low = h.low;
  unchanged = λ now. (sym (is.mirror r.cell i h.inside small), h.unchanged now);
}

pub second_load_goes_on : SecondLoadGoesOn
second_load_goes_on count cell r n h = record {
  inside = h.inside;
  places = h.places;
  even = h.even;
  low = h.low;
  unchanged = h.unchanged;
}

pub second_load_validates : SecondLoadValidates
second_load_validates count block cell is r h again =
    let c : CellState = cell r.cell in
    let found : version_word c ≡ r.first = sym (is.mirror r.cell 0 h.inside (omega arith)) ∙ again in
    record {
      block = c.block;
      segment = c.segment;
      loaded = h.unchanged (inl found);
      spells = is.spells r.cell h.inside (free c.unpacked (λ loose.
          let odd = is_odd c (is.versions r.cell h.inside) loose in
          let even = h.even in
          omega (arith, odd, even, found)));
      fact = refl;
    }
  where
    free : (b : Bool) → (b ≡ true → ⊥) → b ≡ false
    free true never = absurd (never refl)
    free false never = refl
