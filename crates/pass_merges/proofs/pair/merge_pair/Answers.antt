use Rattle.std.proofs.Common.{◌≡◌, ◌∷◌, [], refl, sym, ◌∙◌, ap, subst, arith}
use Rattle.pass_moves.specs.LeafArray.Segments.{AreSame}
use Rattle.leaf_index.specs.Index.{Index, IsTaken}
use Rattle.pass_moves.proofs.LeafStore.SplitLemmas.{always_err}
use Rattle.pass_moves.specs.RuleModel.Places.{lines}
use Rattle.pass_moves.specs.RuleModel.Steps.{Nothing}
use Rattle.pass_moves.specs.StoreWords.Steps.{MayLoad}
use Rattle.pass_moves.specs.Moving.{values_of}
use Rattle.pass_moves.specs.Spreading.{moved}
use Rattle.pass_moves.proofs.HandLemmas.{holds_kept, holds_moved_as}
use Rattle.pass_moves.proofs.SpreadLemmas.{values_put}
use Rattle.pass_moves.proofs.StepLemmas.{values_counted}
use Rattle.pass_merges.specs.Merging.{retired_at}
use Rattle.pass_merges.specs.Pairs.{MayJoin, in_one}
use Rattle.pass_merges.proofs.MergeLemmas.{all_move, cut_at, may_join, may_merge, may_move, merged_in_hand, mid_is, sixteen}
use Rattle.pass_merges.proofs.pair.merge_pair.Goals as goal

pub bounds-cells-8 : goal.bounds-cells-8
bounds-cells-8 c =
    let wide = sixteen c.args.store.now c.args.pass.now c.args.pair.left c.args.pair.right c.args.cells.now
    c.args.index.now c.requires.holds in
    omega (arith, wide)

pub merge_cells-requires : goal.merge_cells-requires
merge_cells-requires c = record {
  leaves = may_merge c.args.store.now c.args.pass.now c.args.cells.now c.args.index.now c.args.pair c.requires.holds
      c.requires.fit c.requires.together c.requires.few;
}

pub returns-in_err-cuts-clause-holds : goal.returns-in_err-cuts-clause-holds
returns-in_err-cuts-clause-holds c =
    holds_kept c.args.store.now c.args.pass.now (c.args.pair.left ∷ c.args.pair.right ∷ []) c.args.cells.now
    c.merge_cells.new.cells c.args.index.now c.requires.holds c.in_err-cuts.ensures.err

pub returns-in_err-cuts-clause-err : goal.returns-in_err-cuts-clause-err
returns-in_err-cuts-clause-err c =
    let kept = c.in_err-cuts.ensures.err in
    always_err _ c.from_residual.result (
      refl,
      refl,
      subst (AreSame (values_of c.args.cells.now))
          (sym (values_put c.args.cells.now kept.segments c.merge_cells.new.cells kept.put)) kept.same,
    )

pub join_entries-requires : goal.join_entries-requires
join_entries-requires c =
    let store = c.args.store.now in
    let old = c.args.pass.now in
    let ts = c.args.cells.now in
    let before = c.args.index.now in
    let pair = c.args.pair in
    let r = c.requires in
    let cuts = c.in_ok-cuts.cuts in
    let at = c.low_of-cut.ensures ∙ cut_at store old ts before pair r.holds r.fit r.together
    c.index-cells-8.result in
    subst (λ (x : Index). MayJoin pair c.low_of-cut.result cuts x.entries) (sym c.deref_mut.ensures.value)
    (may_join store old ts before pair r.holds r.fit r.together cuts c.merge_cells.new.cells c.in_ok-cuts.ensures.ok
    c.low_of-cut.result at)

pub change-stamp-requires-clause-may : goal.change-stamp-requires-clause-may
change-stamp-requires-clause-may c =
    let store = c.args.store.now in
    let old = c.args.pass.now in
    let ts = c.args.cells.now in
    let before = c.args.index.now in
    let pair = c.args.pair in
    let r = c.requires in
    let cuts = c.in_ok-cuts.cuts in
    let all = c.merge_cells.new.cells in
    let merges = c.in_ok-cuts.ensures.ok in
    let cut = c.low_of-cut.result in
    let at = c.low_of-cut.ensures ∙ cut_at store old ts before pair r.holds r.fit r.together
    c.index-cells-8.result in
    let mid = c.join_entries.new.index in
    let joined = subst (λ (x : Index). (may : MayJoin pair cut cuts x.entries)
    → mid ≡ record x { entries = in_one may.together cuts }) c.deref_mut.ensures.value c.join_entries.ensures.joined in
    let is : c.deref.result.now ≡ mid = c.deref.ensures in
    subst (λ (x : Index). MayLoad store.accounts.config old.account (lines store.accounts.config.passes).clock
    (λ n w. moved w (retired_at pair.right n x) all) (λ n w. Nothing n)) (sym is)
    (may_move store old ts before pair r.holds r.fit r.together cuts all merges r.few mid
    (mid_is store old ts before pair r.holds r.fit r.together cuts all merges cut at mid joined)
    c.join_entries.ensures.ready c.join_entries.ensures.taken c.stamps_suffice.ensures)

pub retire-requires : goal.retire-requires
retire-requires c =
    subst (λ (x : Index). IsTaken x c.args.pair.right) (sym c.deref_mut-2.ensures.value) c.join_entries.ensures.taken

pub returns-clause-holds : goal.returns-clause-holds
returns-clause-holds c =
    let store = c.args.store.now in
    let old = c.args.pass.now in
    let ts = c.args.cells.now in
    let before = c.args.index.now in
    let pair = c.args.pair in
    let r = c.requires in
    let cuts = c.in_ok-cuts.cuts in
    let all = c.merge_cells.new.cells in
    let merges = c.in_ok-cuts.ensures.ok in
    let stamp = c.change-stamp.result in
    holds_moved_as store old c.change-stamp.new.pass (pair.left ∷ pair.right ∷ []) ts all before _
    (retired_at pair.right stamp c.deref.result.now) r.holds
    (all_move store old ts before pair r.holds r.fit r.together cuts all merges)
    c.change-stamp.ensures.changed refl
    (c.retire.ensures ∙ ap (retired_at pair.right stamp) (c.deref_mut-2.ensures.value ∙ sym c.deref.ensures))
    c.count_rows.new.cells c.count_rows.ensures

pub returns-clause-merged : goal.returns-clause-merged
returns-clause-merged c =
    let store = c.args.store.now in
    let old = c.args.pass.now in
    let ts = c.args.cells.now in
    let before = c.args.index.now in
    let pair = c.args.pair in
    let r = c.requires in
    let cuts = c.in_ok-cuts.cuts in
    let all = c.merge_cells.new.cells in
    let merges = c.in_ok-cuts.ensures.ok in
    let cut = c.low_of-cut.result in
    let at = c.low_of-cut.ensures ∙ cut_at store old ts before pair r.holds r.fit r.together
    c.index-cells-8.result in
    let mid = c.join_entries.new.index in
    let joined = subst (λ (x : Index). (may : MayJoin pair cut cuts x.entries)
    → mid ≡ record x { entries = in_one may.together cuts }) c.deref_mut.ensures.value c.join_entries.ensures.joined in
    let stamp = c.change-stamp.result in
    merged_in_hand store old ts before pair r.holds r.fit r.together cuts all merges c.count_rows.new.cells
    (ap values_of c.count_rows.ensures ∙ values_counted all) stamp mid c.retire.new.self
    (mid_is store old ts before pair r.holds r.fit r.together cuts all merges cut at mid joined)
    (c.retire.ensures ∙ ap (retired_at pair.right stamp) c.deref_mut-2.ensures.value)
