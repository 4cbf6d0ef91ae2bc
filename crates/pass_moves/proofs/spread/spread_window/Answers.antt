use Rattle.std.proofs.Common.{◌≡◌, ◌∷◌, [], refl, sym, ◌∙◌, ap, subst}
use Rattle.std.specs.Prelude.{slice_index_or}
use Rattle.graph_model.specs.Rows.{first_key}
use Rattle.pass_leaves.specs.LeafArray.Leaves.{SpreadsWindow}
use Rattle.pass_leaves.specs.LeafArray.Segments.{AreSame}
use Rattle.leaf_index.specs.Calls.{CanCut, with_cuts}
use Rattle.leaf_index.specs.Index.{Index, IsIndex}
use Rattle.pass_leaves.proofs.LeafStore.SplitLemmas.{always_err}
use Rattle.pass_leaves.specs.RuleModel.Places.{lines}
use Rattle.pass_leaves.specs.RuleModel.Steps.{Nothing}
use Rattle.pass_leaves.specs.StoreWords.Steps.{MayLoad}
use Rattle.pass_leaves.specs.StoreRule.Passes.{OnlyAccount}
use Rattle.pass_moves.specs.Moving.{values_of}
use Rattle.pass_moves.specs.Spreading.{moved}
use Rattle.pass_moves.proofs.HandLemmas.{fits_moved, holds_kept, holds_moved_as}
use Rattle.pass_moves.proofs.SpreadLemmas.{values_put}
use Rattle.pass_moves.proofs.StepLemmas.{in_hand_tied, is_move, may_cut, may_move, now_is, spread_cells_move, values, values_counted}
use Rattle.pass_moves.proofs.spread.spread_window.Goals as goal

pub spread_cells-requires-clause-leaf : goal.spread_cells-requires-clause-leaf
spread_cells-requires-clause-leaf c =
    let h = c.requires.holds in
    (in_hand_tied c.args.store.now c.args.pass.now c.args.cells.now c.args.index.now h.0 h.1 c.requires.fit h.2).leaf

pub returns-in_err-cuts-clause-holds : goal.returns-in_err-cuts-clause-holds
returns-in_err-cuts-clause-holds c = λ leaf holds.
    holds_kept c.args.store.now c.args.pass.now (leaf ∷ []) c.args.cells.now c.spread_cells.new.cells
    c.args.index.now holds c.in_err-cuts.ensures.err

pub returns-in_err-cuts-clause-err : goal.returns-in_err-cuts-clause-err
returns-in_err-cuts-clause-err c =
    let kept = c.in_err-cuts.ensures.err in
    always_err _ c.from_residual.result (
      refl,
      refl,
      subst (AreSame (values_of c.args.cells.now))
          (sym (values_put c.args.cells.now kept.segments c.spread_cells.new.cells kept.put)) kept.same,
    )

pub set_separators-requires : goal.set_separators-requires
set_separators-requires c =
    let store = c.args.store.now in
    let old = c.args.pass.now in
    let ts = c.args.cells.now in
    let before = c.args.index.now in
    let us = c.spread_cells.new.cells in
    let h = c.requires.holds in
    let cuts = c.in_ok-cuts.cuts in
    let spreads = c.in_ok-cuts.ensures.ok in
    subst (λ (x : Index). CanCut (slice_index_or cuts 0 first_key) cuts x.entries) (sym c.deref_mut.ensures.value)
    (may_cut store old ts before h.0 h.1 c.requires.fit h.2 c.args.window
    cuts us spreads c.requires.window c.requires.few
    first_key)

pub change-requires-clause-may : goal.change-requires-clause-may
change-requires-clause-may c =
    let store = c.args.store.now in
    let old = c.args.pass.now in
    let ts = c.args.cells.now in
    let before = c.args.index.now in
    let us = c.spread_cells.new.cells in
    let h = c.requires.holds in
    let cuts = c.in_ok-cuts.cuts in
    let spreads = c.in_ok-cuts.ensures.ok in
    let after = c.set_separators.new.self in
    let is : c.deref-2.result.now ≡ after = c.deref-2.ensures in
    let ready = subst IsIndex c.deref.ensures c.is_index.ensures.index in
    let set = subst (λ (x : Index). (can : CanCut (slice_index_or cuts 0 first_key) cuts x.entries)
    → after.entries ≡ with_cuts (slice_index_or cuts 0 first_key) cuts x.entries can) c.deref_mut.ensures.value
    c.set_separators.ensures.entries in
    let others = subst (λ (x : Index). after ≡ record x { entries = after.entries }) c.deref_mut.ensures.value
    c.set_separators.ensures.others in
    let now = now_is store old ts before h.0 h.1 c.requires.fit h.2 c.args.window
    cuts us spreads c.requires.window c.requires.few
    first_key after set others in
    subst (λ (x : Index). MayLoad store.accounts.config old.account (lines store.accounts.config.passes).clock
    (λ n w. moved w x us) (λ n w. Nothing n)) (sym is)
    (may_move store old ts before h.0 h.1 c.requires.fit h.2 c.args.window
    cuts us spreads c.requires.window c.requires.few
    after ready now)

pub returns-clause-holds : goal.returns-clause-holds
returns-clause-holds c = λ leaf holds.
    let store = c.args.store.now in
    let old = c.args.pass.now in
    let ts = c.args.cells.now in
    let before = c.args.index.now in
    let us = c.spread_cells.new.cells in
    let h = c.requires.holds in
    let cuts = c.in_ok-cuts.cuts in
    let spreads = c.in_ok-cuts.ensures.ok in
    holds_moved_as store old c.change.new.pass (leaf ∷ []) ts us before _ c.deref-2.result.now holds
    (spread_cells_move store old ts before h.0 h.1 c.requires.fit h.2 c.args.window
    cuts us spreads c.requires.window c.requires.few)
    c.change.ensures.changed refl (sym c.deref-2.ensures) c.count_rows.new.cells c.count_rows.ensures

pub returns-clause-fit : goal.returns-clause-fit
returns-clause-fit c =
    let store = c.args.store.now in
    let old = c.args.pass.now in
    let ts = c.args.cells.now in
    let before = c.args.index.now in
    let us = c.spread_cells.new.cells in
    let h = c.requires.holds in
    let cuts = c.in_ok-cuts.cuts in
    let spreads = c.in_ok-cuts.ensures.ok in
    let after = c.set_separators.new.self in
    let is : c.deref-2.result.now ≡ after = c.deref-2.ensures in
    let ready = subst IsIndex c.deref.ensures c.is_index.ensures.index in
    let set = subst (λ (x : Index). (can : CanCut (slice_index_or cuts 0 first_key) cuts x.entries)
    → after.entries ≡ with_cuts (slice_index_or cuts 0 first_key) cuts x.entries can) c.deref_mut.ensures.value
    c.set_separators.ensures.entries in
    let others = subst (λ (x : Index). after ≡ record x { entries = after.entries }) c.deref_mut.ensures.value
    c.set_separators.ensures.others in
    let now = now_is store old ts before h.0 h.1 c.requires.fit h.2 c.args.window
    cuts us spreads c.requires.window c.requires.few
    first_key after set others in
    let step = subst (λ (x : Index). OnlyAccount old c.change.new.pass (moved old.account.me.0 x us)) is
    c.change.ensures.changed in
    fits_moved store old c.change.new.pass (h.0 ∷ []) ts us before
    (record before { value = record before.value { value = after } }) after h.1
    (spread_cells_move store old ts before h.0 h.1 c.requires.fit h.2 c.args.window
    cuts us spreads c.requires.window c.requires.few)
    step refl refl (c.requires.fit h.1.index_held.state h.1.index_held.has) 0
    (is_move store old ts before h.0 h.1 c.requires.fit h.2 c.args.window
    cuts us spreads c.requires.window c.requires.few after ready now)

pub returns-clause-spread : goal.returns-clause-spread
returns-clause-spread c =
    let store = c.args.store.now in
    let old = c.args.pass.now in
    let ts = c.args.cells.now in
    let before = c.args.index.now in
    let us = c.spread_cells.new.cells in
    let h = c.requires.holds in
    let cuts = c.in_ok-cuts.cuts in
    let spreads = c.in_ok-cuts.ensures.ok in
    let all = ap values_of c.count_rows.ensures ∙ values_counted us
    ∙ values store old ts before h.0 h.1 c.requires.fit h.2 c.args.window
    cuts us spreads c.requires.window c.requires.few in
    subst (SpreadsWindow c.args.window (values_of ts)) (sym all) spreads.spreads
