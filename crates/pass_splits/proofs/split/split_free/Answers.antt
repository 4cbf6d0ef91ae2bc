use Rattle.std.proofs.Common.{◌≡◌, ◌≤◌, ◌∷◌, [], ℕ, List, length, take, refl, rules, sym, ◌∙◌, subst, arith}
use Rattle.std.specs.Prelude.{true}
use Rattle.leaf_index.specs.Index.{Index}
use Rattle.pass_moves.proofs.LeafStore.SplitLemmas.{always_err}
use Rattle.pass_moves.specs.PassCellsDeclared.taken.TakenCell.{TakenCell}
use Rattle.pass_moves.specs.Moving.{values_of}
use Rattle.pass_moves.specs.Room.{IsCrowdedAt, KnowsLeaf}
use Rattle.pass_splits.proofs.SplitLemmas.{holds_index, knows_front, sixteen_cells}
use Rattle.pass_splits.proofs.split.split_free.Goals as goal

pub split_at-requires : goal.split_at-requires
split_at-requires c =
    let h = c.requires.holds in
    let wide = sixteen_cells c.args.store.now c.args.pass.now h.0 c.args.other c.args.cells.now c.args.index.now h.1 in
    omega (arith, wide)

pub is_crowded-requires-clause-knows : goal.is_crowded-requires-clause-knows
is_crowded-requires-clause-knows c =
    let h = c.requires.holds in (
      h.0,
      subst (λ (xs : List TakenCell). KnowsLeaf c.args.store.now.accounts.config c.args.pass.now.account.me.0 h.0 xs
          c.args.index.now) (sym c.split_at.ensures.front)
          (knows_front c.args.store.now c.args.pass.now h.0 c.args.other c.args.cells.now c.args.index.now h.1),
      h.2,
    )

pub split_crowded-requires-clause-holds : goal.split_crowded-requires-clause-holds
split_crowded-requires-clause-holds c =
    let store = c.args.store.now in
    let old = c.args.pass.now in
    let ts = c.args.cells.now in
    let before = c.args.index.now in
    let h = c.requires.holds in
    let same : c.is_next_free.new.index ≡ before.value.value = c.is_next_free.ensures.same ∙ c.deref_mut.ensures.value in
    let knows = subst (λ (xs : List TakenCell). KnowsLeaf store.accounts.config old.account.me.0 h.0 xs before)
    (sym c.split_at.ensures.front) (knows_front store old h.0 c.args.other ts before h.1) in
    let is_true : c.is_crowded.result ≡ true = search rules in
    let crowded = c.is_crowded.ensures h.0 knows h.2 is_true in (
      h.0,
      holds_index store old (h.0 ∷ c.args.other ∷ []) ts before _ h.1 (record { cell = refl; same = same }),
      subst (λ (x : Index). IsCrowdedAt c.args.key c.args.need x h.0 (values_of (take 8 ts))) (sym same)
          (subst (λ (xs : List TakenCell). IsCrowdedAt c.args.key c.args.need before.value.value h.0 (values_of xs))
          c.split_at.ensures.front crowded),
    )

pub returns-clause-holds : goal.returns-clause-holds
returns-clause-holds c = λ leaves holds.
    let before = c.args.index.now in
    let same : c.is_next_free.new.index ≡ before.value.value = c.is_next_free.ensures.same ∙ c.deref_mut.ensures.value in
    c.split_crowded.ensures.holds leaves (holds_index c.args.store.now c.args.pass.now leaves c.args.cells.now before _
    holds (record { cell = refl; same = same }))

pub returns-in_err-split_crowded-clause-err : goal.returns-in_err-split_crowded-clause-err
returns-in_err-split_crowded-clause-err c =
    let before = c.args.index.now in
    let same : c.is_next_free.new.index ≡ before.value.value = c.is_next_free.ensures.same ∙ c.deref_mut.ensures.value in
    let err = c.in_err-split_crowded.ensures.err in
    always_err _ c.from_residual.result (
      err.0,
      record { cell = err.1.cell; same = err.1.same ∙ same },
      err.2,
    )
