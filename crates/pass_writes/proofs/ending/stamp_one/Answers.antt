use Rattle.std.proofs.Common.{◌≡◌, ◌++◌, ◌∙◌, List, ap, subst}
use Rattle.graph_model.specs.declared.row.Key.{Key}
use Rattle.pass_prunes.specs.RowWrites.Written.{rows_of, touched_keys, written_keys}
use Rattle.pass_prunes.specs.PassCells.Changes.{keys_beside}
use Rattle.pass_prunes.specs.PassSteps.Passes.{state_of}
use Rattle.pass_settles.proofs.KeyLemmas.{settling_still}
use Rattle.pass_writes.specs.Ending.{LeavesRows, keys_changed}
use Rattle.pass_writes.proofs.StateLemmas.{slice_end, stamps_both}
use Rattle.pass_writes.proofs.ending.stamp_one.Goals as goal

pub stamp_in_hand-requires-clause-settling : goal.stamp_in_hand-requires-clause-settling
stamp_in_hand-requires-clause-settling g c =
    let out = c.settle_cells-settled.ensures in
    settling_still c.args.store.now c.args.pass.now c.settle_cells-settled.new.pass c.args.sweep.now c.args.by c.args.stamp
    c.requires.settling out.back.same.number (state_of c.settle_cells-settled.new.pass).unstamped out.stamped.is out.back.pin

pub returns-then-settled-keys-clause-stamped : goal.returns-then-settled-keys-clause-stamped
returns-then-settled-keys-clause-stamped g c =
    let kind = c.args.store.now.accounts.config.kind in
    let keys = c.as_slice-keys.result.now in
    let are : keys ≡ keys_changed kind c.args.write = c.as_slice-keys.ensures ∙ c.of_changes-few.ensures.keys
    ∙ ap (λ rows. written_keys rows ++ touched_keys rows) (c.of-rows.ensures ∙ ap (λ z. rows_of z.kind c.args.write) c.config.ensures) in
    let mid = state_of c.settle_cells-settled.new.pass in
    let new = state_of c.stamp_in_hand.new.pass in
    stamps_both kind c.args.write keys c.settle_cells-settled.result (state_of c.args.pass.now) mid new are
    c.settle_cells-settled.ensures.stamped
    (subst (λ (l : List Key). LeavesRows (keys_beside l mid.unstamped) mid new)
    (slice_end keys c.settle_cells-settled.result) c.stamp_in_hand.ensures.stamped)
