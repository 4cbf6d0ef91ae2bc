use Rattle.std.proofs.Common.{◌≡◌, ◌≤◌, ◌++◌, ◌∷◌, [], ℕ, List, length, refl, sym, ◌∙◌, ap, subst, arith}
use Rattle.std.specs.Prelude.{Some}
use Rattle.pass_moves.specs.LeafArray.Segments.{AreSame}
use Rattle.leaf_index.specs.Index.{Index, IsIndex}
use Rattle.pass_moves.specs.LeafStore.Ranges.{IsLive}
use Rattle.pass_moves.proofs.LeafStore.SplitLemmas.{always_err}
use Rattle.pass_moves.specs.RuleModel.Places.{lines}
use Rattle.pass_moves.specs.RuleModel.Steps.{Nothing}
use Rattle.pass_moves.specs.StoreWords.Steps.{MayLoad}
use Rattle.pass_moves.specs.PassCellsDeclared.taken.TakenCell.{TakenCell}
use Rattle.pass_moves.specs.PassLeaves.Hand.{HoldsLeaves}
use Rattle.pass_moves.specs.Moving.{values_of}
use Rattle.pass_moves.specs.Room.{HasRoom}
use Rattle.pass_moves.specs.Spreading.{KeepsContents, moved}
use Rattle.pass_moves.proofs.HandLemmas.{holds_kept, holds_moved_as}
use Rattle.pass_moves.proofs.SpreadLemmas.{values_put}
use Rattle.pass_moves.proofs.StepLemmas.{values_counted}
use Rattle.pass_splits.specs.Splitting.{DividesCells, IsNextFree, TakesLeaf}
use Rattle.pass_splits.proofs.DivideLemmas.{keeps_append}
use Rattle.pass_splits.proofs.SplitLemmas.{halves, holds_index, live, many, may_split, right_sound_now, room, sixteen_cells, split_moves}
use Rattle.pass_splits.proofs.split.split_crowded.Goals as goal

pub split_at_mut-left-requires : goal.split_at_mut-left-requires
split_at_mut-left-requires c =
    let h = c.requires.holds in
    let wide = sixteen_cells c.args.store.now c.args.pass.now h.0 c.args.other c.args.cells.now c.args.index.now h.1 in
    omega (arith, wide)

pub split_next-requires-clause-eight : goal.split_next-requires-clause-eight
split_next-requires-clause-eight c =
    let h = c.requires.holds in
    let cut = c.split_at_mut-left in
    let p = halves c.args.store.now c.args.pass.now h.0 c.args.other c.args.cells.now cut.result.0.now
    cut.result.1.now c.args.index.now c.args.key c.args.need h.1 h.2 cut.ensures.value cut.ensures.front_len in
    (p.eight, p.wide)

pub split_next-requires-clause-live : goal.split_next-requires-clause-live
split_next-requires-clause-live c =
    let store = c.args.store.now in
    let old = c.args.pass.now in
    let before = c.args.index.now in
    let h = c.requires.holds in
    let cut = c.split_at_mut-left in
    let ls = cut.result.0.now in
    let rs = cut.result.1.now in
    let p = halves store old h.0 c.args.other c.args.cells.now ls rs before c.args.key c.args.need h.1 h.2
    cut.ensures.value cut.ensures.front_len in
    subst (λ (x : Index). IsLive x.entries (values_of ls)) (sym c.deref_mut.ensures.value)
    (live store old h.0 c.args.other ls rs before c.args.key c.args.need p c.requires.fit c.requires.below)

pub split_next-requires-clause-many : goal.split_next-requires-clause-many
split_next-requires-clause-many c =
    let store = c.args.store.now in
    let old = c.args.pass.now in
    let before = c.args.index.now in
    let h = c.requires.holds in
    let cut = c.split_at_mut-left in
    let ls = cut.result.0.now in
    let rs = cut.result.1.now in
    let p = halves store old h.0 c.args.other c.args.cells.now ls rs before c.args.key c.args.need h.1 h.2
    cut.ensures.value cut.ensures.front_len in
    many store old h.0 c.args.other ls rs before c.args.key c.args.need p c.requires.fit c.requires.below

pub split_next-requires-clause-next : goal.split_next-requires-clause-next
split_next-requires-clause-next c =
    subst (λ (x : Index). IsNextFree x (Some c.args.other)) (sym c.deref_mut.ensures.value) c.requires.next

pub change-requires-clause-may : goal.change-requires-clause-may
change-requires-clause-may c =
    let store = c.args.store.now in
    let old = c.args.pass.now in
    let before = c.args.index.now in
    let h = c.requires.holds in
    let cut = c.split_at_mut-left in
    let ls = cut.result.0.now in
    let rs = cut.result.1.now in
    let p = halves store old h.0 c.args.other c.args.cells.now ls rs before c.args.key c.args.need h.1 h.2
    cut.ensures.value cut.ensures.front_len in
    let is_live = live store old h.0 c.args.other ls rs before c.args.key c.args.need p c.requires.fit c.requires.below in
    let after = c.split_next.new.index in
    let ls' = c.split_next.new.left in
    let rs' = c.split_next.new.right in
    let done = subst (λ (x : Index). TakesLeaf c.args.other x after × ((l : IsLive x.entries (values_of ls))
    → DividesCells c.args.other x.entries after.entries ls rs ls' rs' l)) c.deref_mut.ensures.value
    c.in_ok-split_next.ensures.ok in
    let is : c.deref-2.result.now ≡ after = c.deref-2.ensures in
    let ready = subst IsIndex c.deref.ensures c.is_index.ensures.index in
    subst (λ (x : Index). MayLoad store.accounts.config old.account (lines store.accounts.config.passes).clock
    (λ n w. moved w x (ls' ++ rs')) (λ n w. Nothing n)) (sym is)
    (may_split store old h.0 c.args.other ls rs before c.args.key c.args.need p c.requires.fit c.requires.below after
    ls' rs' done.0 (done.1 is_live) ready)

pub returns-clause-holds : goal.returns-clause-holds
returns-clause-holds c = λ leaves holds.
    let store = c.args.store.now in
    let old = c.args.pass.now in
    let before = c.args.index.now in
    let h = c.requires.holds in
    let cut = c.split_at_mut-left in
    let ls = cut.result.0.now in
    let rs = cut.result.1.now in
    let p = halves store old h.0 c.args.other c.args.cells.now ls rs before c.args.key c.args.need h.1 h.2
    cut.ensures.value cut.ensures.front_len in
    let is_live = live store old h.0 c.args.other ls rs before c.args.key c.args.need p c.requires.fit c.requires.below in
    let after = c.split_next.new.index in
    let ls' = c.split_next.new.left in
    let rs' = c.split_next.new.right in
    let done = subst (λ (x : Index). TakesLeaf c.args.other x after × ((l : IsLive x.entries (values_of ls))
    → DividesCells c.args.other x.entries after.entries ls rs ls' rs' l)) c.deref_mut.ensures.value
    c.in_ok-split_next.ensures.ok in
    holds_moved_as store old c.change.new.pass leaves (ls ++ rs) (ls' ++ rs') before _ c.deref-2.result.now
    (subst (λ (xs : List TakenCell). HoldsLeaves store old leaves xs before) cut.ensures.value holds)
    (split_moves store old h.0 c.args.other ls rs before c.args.key c.args.need p c.requires.fit c.requires.below after
    ls' rs' done.0 (done.1 is_live))
    c.change.ensures.changed refl (sym c.deref-2.ensures) c.count_rows.new.cells c.count_rows.ensures

pub returns-clause-room : goal.returns-clause-room
returns-clause-room c =
    let store = c.args.store.now in
    let old = c.args.pass.now in
    let before = c.args.index.now in
    let h = c.requires.holds in
    let cut = c.split_at_mut-left in
    let ls = cut.result.0.now in
    let rs = cut.result.1.now in
    let p = halves store old h.0 c.args.other c.args.cells.now ls rs before c.args.key c.args.need h.1 h.2
    cut.ensures.value cut.ensures.front_len in
    let is_live = live store old h.0 c.args.other ls rs before c.args.key c.args.need p c.requires.fit c.requires.below in
    let after = c.split_next.new.index in
    let ls' = c.split_next.new.left in
    let rs' = c.split_next.new.right in
    let done = subst (λ (x : Index). TakesLeaf c.args.other x after × ((l : IsLive x.entries (values_of ls))
    → DividesCells c.args.other x.entries after.entries ls rs ls' rs' l)) c.deref_mut.ensures.value
    c.in_ok-split_next.ensures.ok in
    subst (HasRoom c.args.key c.args.need) (sym (ap values_of c.count_rows.ensures ∙ values_counted (ls' ++ rs')))
    (room store old h.0 c.args.other ls rs before c.args.key c.args.need p c.requires.fit c.requires.below after
    ls' rs' done.0 (done.1 is_live) c.requires.few)

pub returns-in_err-split_next-clause-holds : goal.returns-in_err-split_next-clause-holds
returns-in_err-split_next-clause-holds c = λ leaves holds.
    let store = c.args.store.now in
    let old = c.args.pass.now in
    let before = c.args.index.now in
    let h = c.requires.holds in
    let cut = c.split_at_mut-left in
    let ls = cut.result.0.now in
    let rs = cut.result.1.now in
    let p = halves store old h.0 c.args.other c.args.cells.now ls rs before c.args.key c.args.need h.1 h.2
    cut.ensures.value cut.ensures.front_len in
    let err = c.in_err-split_next.ensures.err in
    let ls' = c.split_next.new.left in
    let keeps = subst (λ (xs : List TakenCell). KeepsContents (ls ++ rs) (ls' ++ xs)) (sym err.1)
    (keeps_append ls ls' rs err.2
    (right_sound_now store old h.0 c.args.other ls rs before c.args.key c.args.need p c.requires.fit c.requires.below)) in
    holds_index store old leaves (ls' ++ c.split_next.new.right) before _
    (holds_kept store old leaves (ls ++ rs) (ls' ++ c.split_next.new.right) before
    (subst (λ (xs : List TakenCell). HoldsLeaves store old leaves xs before) cut.ensures.value holds) keeps)
    (record { cell = refl; same = err.0 ∙ c.deref_mut.ensures.value })

pub returns-in_err-split_next-clause-err : goal.returns-in_err-split_next-clause-err
returns-in_err-split_next-clause-err c =
    let store = c.args.store.now in
    let old = c.args.pass.now in
    let before = c.args.index.now in
    let h = c.requires.holds in
    let cut = c.split_at_mut-left in
    let ls = cut.result.0.now in
    let rs = cut.result.1.now in
    let p = halves store old h.0 c.args.other c.args.cells.now ls rs before c.args.key c.args.need h.1 h.2
    cut.ensures.value cut.ensures.front_len in
    let err = c.in_err-split_next.ensures.err in
    let us : List TakenCell = c.split_next.new.left ++ c.split_next.new.right in
    let keeps = subst (λ (xs : List TakenCell). KeepsContents (ls ++ rs) (c.split_next.new.left ++ xs)) (sym err.1)
    (keeps_append ls c.split_next.new.left rs err.2
    (right_sound_now store old h.0 c.args.other ls rs before c.args.key c.args.need p c.requires.fit c.requires.below)) in
    always_err _ c.from_residual.result (
      refl,
      record { cell = refl; same = err.0 ∙ c.deref_mut.ensures.value },
      subst (AreSame (values_of c.args.cells.now)) (sym (values_put (ls ++ rs) keeps.segments us keeps.put))
          (subst (λ (xs : List TakenCell). AreSame (values_of xs) keeps.segments) (sym cut.ensures.value) keeps.same),
    )
