-- The worked examples hold.
use Rattle.std.proofs.Common.{◌≡◌, inl, inr, ℕ, zero, suc, List, [], ◌∷◌, map, length, refl, sym, ◌∙◌, ap, subst, arith}
use Rattle.std.specs.Prelude.{true, false, slice_get, slice_index, Some, None}
use Rattle.std.specs.List.{AllByRecursion}
use Rattle.graph_model.specs.declared.row.Key.{Key}
use Rattle.graph_model.specs.Rows.{is_between}
use Rattle.store_model.specs.Stamped.{StampedVersions}
use Rattle.leaf_store.specs.VersionSegment.Rows.{VersionedRows}
use Rattle.seat_views.proofs.NumberLemmas.{some_is}
use Rattle.leaf_store.specs.VersionSegment.Resting.{word_row}
use Rattle.cells_model.specs.Words.{Spells}
use Rattle.cells_model.specs.Reads.{AreLoadedFrom}
use Rattle.cells_model.specs.Noted.{IsAmong}
use Rattle.cells_model.specs.Examples.{WordExamples, ReadExamples, NoteExamples, at, moved_cell, torn_read}
use Rattle.cells_model.proofs.WordLemmas.{head_is_told, row_is_told}
use Rattle.cells_model.proofs.NoteLemmas.{among_none}

pub word_examples : WordExamples
word_examples = record {
  settled = refl;
  chained = refl;
  removed = refl;
  settled_value = refl;
  chained_value = refl;
  removed_value =
      refl;
  settled_mark = refl;
  chained_mark = refl;
  removed_mark = refl;
  raised = refl;
  changed = refl;
  unchanged =
      refl;
  last = refl;
  stays = refl;
}

-- no block has its fence keys above its first row
fences_below : (block : List ℕ) (s : VersionedRows) → Spells block s → slice_index block 1 ≡ 1
    → slice_index block 2 ≡ 10
    → slice_index block 3 ≡ 0 → slice_index block 6 ≡ 5 → slice_index block 7 ≡ 0 → ⊥
fences_below block s is one low_src low_second src second = by_rows s.rows refl
  where
    low_is : s.low ≡ at 10
    low_is = let h = head_is_told block s is in
        λ i. record { src = (sym h.low_src ∙ low_src) i; second = (sym h.low_second ∙ low_second) i }

    by_rows : (rows : List (Key × StampedVersions)) → s.rows ≡ rows → ⊥
    by_rows [] e = let h = head_is_told block s is in let n : 1 ≡ 0 = sym one ∙ h.count ∙ ap length e in
        omega (arith, n)
    by_rows (x ∷ xs) e =
        let h = row_is_told block s is 0 (word_row x) (ap (λ rs. slice_get (map word_row rs) 0) e) in
        let key_is : x.0 ≡ at 5 = (λ i. record {
          src = (sym h.src ∙ src) i;
          second = (sym h.second ∙ second) i;
        }) in
        let within = (subst (AllByRecursion (λ row. is_between s.low s.high row.0 ≡ true)) e is.sound.within).0
        in
        let f : false ≡ true = (λ i. is_between (sym low_is i) s.high (sym key_is i)) ∙ within in cc

pub read_examples : ReadExamples
read_examples = record {
  torn = λ v.
      let low = v.loaded.1.1 in
      let key = low.1.1.1 in
      fences_below v.block v.segment v.spells low.1.1.0 low.1.0 low.0 key.1.0 key.0;
  under_way = record {
    inside = omega arith;
    places = (
      omega arith,
      (
        omega arith,
        (
          omega arith,
          (omega arith, (omega arith, (omega arith, (omega arith, tt)))),
        ),
      ),
    );
    even = refl;
    low = omega arith;
    unchanged = λ u. elim u as (λ _. AreLoadedFrom moved_cell.block torn_read.loaded) [
      | inl e ↦ absurd (omega (arith, e))
      | inr e ↦ let n = e.0 in absurd (omega (arith, n))
    ];
  };
  refused = refl;
  odd = refl;
  even = refl;
}

pub note_examples : NoteExamples
note_examples = record {
  noted = record {
    stands = λ p l on among. inr (record { leaf = 3; stamp = 5 }, (0, refl), three l among, (omega arith));
    found = λ s w here. let f : None ≡ Some s = here in cc;
  };
  freed = λ a. elim (a.stands 0 3 refl (0, refl)) as (λ _. ⊥) [
    | inl live ↦ let f : false ≡ true = live in cc
    | inr r ↦ among_none r.0 [] refl r.1
  ];
  found = refl;
  kept = refl;
  clock = refl;
  announced = refl;
}
  where
    three : (l : ℕ) → IsAmong l (3 ∷ []) → 3 ≡ l
    three l (zero, e) = some_is 3 l e
    three l (suc i, e) = cc
