use Rattle.std.proofs.Common.{◌≡◌, ◌∷◌, [], refl, sym, ◌∙◌, ap, subst}
use Rattle.leaf_index.specs.Index.{Index}
use Rattle.pass_splits.specs.PassMoves.Moving.{values_of}
use Rattle.pass_splits.specs.PassMoves.Room.{IsCrowdedAt}
use Rattle.pass_splits.proofs.SplitLemmas.{holds_index}
use Rattle.pass_room.proofs.HandLemmas.{same_hand}
use Rattle.pass_room.proofs.spread.look_for_free.Goals as goal

pub returns-in-Some-clause-hand : goal.returns-in-Some-clause-hand
returns-in-Some-clause-hand c =
    let before = c.args.index.now in
    let same : c.next_free.new.index ≡ before.value.value = c.next_free.ensures.same ∙ c.deref_mut.ensures.value in
    same_hand c.args.store.now c.args.pass.now (c.args.leaf ∷ []) c.args.cells.now before _ c.requires.hand
    (record { cell = refl; same = same })

pub at-full-requires : goal.at-full-requires
at-full-requires c =
    let before = c.args.index.now in
    let same : c.next_free.new.index ≡ before.value.value = c.next_free.ensures.same ∙ c.deref_mut.ensures.value in (
      c.args.leaf,
      holds_index c.args.store.now c.args.pass.now (c.args.leaf ∷ []) c.args.cells.now before _ c.requires.hand.holds
          (record { cell = refl; same = same }),
      subst (λ (x : Index). IsCrowdedAt c.args.key c.args.need x c.args.leaf (values_of c.args.cells.now)) (sym same)
          c.requires.crowded,
      ap (λ (x : Index). x.free) c.next_free.ensures.same ∙ c.in-None.ensures.next,
    )

pub note_full-requires-clause-hand : goal.note_full-requires-clause-hand
note_full-requires-clause-hand c =
    let before = c.args.index.now in
    let same : c.next_free.new.index ≡ before.value.value = c.next_free.ensures.same ∙ c.deref_mut.ensures.value in
    same_hand c.args.store.now c.args.pass.now (c.args.leaf ∷ []) c.args.cells.now before _ c.requires.hand
    (record { cell = refl; same = same })

pub note_full-requires-clause-crowded : goal.note_full-requires-clause-crowded
note_full-requires-clause-crowded c =
    let before = c.args.index.now in
    let same : c.next_free.new.index ≡ before.value.value = c.next_free.ensures.same ∙ c.deref_mut.ensures.value in
    subst (λ (x : Index). IsCrowdedAt c.args.key c.args.need x c.args.leaf (values_of c.args.cells.now)) (sym same)
    c.requires.crowded

pub note_full-requires-clause-free : goal.note_full-requires-clause-free
note_full-requires-clause-free c = ap (λ (x : Index). x.free) c.next_free.ensures.same ∙ c.in-None.ensures.next
