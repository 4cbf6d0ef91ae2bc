use Rattle.std.proofs.Common.{◌≡◌, ℕ, ◌∙◌, ap, subst, sym}
use Rattle.std.specs.Prelude.{Err}
use Rattle.pass_prunes.specs.RowWrites.Checks.{TellsEdges}
use Rattle.pass_prunes.specs.RowWritesDeclared.written.WrittenRows.{WrittenRows}
use Rattle.pass_prunes.specs.PassCells.Taken.{rows_in}
use Rattle.pass_prunes.specs.StoreRelation.Passes.{PassState}
use Rattle.pass_prunes.specs.PassSteps.Passes.{state_of}
use Rattle.pass_writes.specs.Found.{Finds, MayBeMade, view_of}
use Rattle.pass_writes.specs.Making.{HoldsRowsOf, after_refusal}
use Rattle.pass_writes.proofs.MakeLemmas.{few, lays, new_hand, new_state}
use Rattle.pass_writes.proofs.StateLemmas.{learnt_steps, learnt_still, refused_makes, snapshot_of}
use Rattle.pass_writes.proofs.making.write_in_hand.Goals as goal

pub check-requires-clause-reading : goal.check-requires-clause-reading
check-requires-clause-reading c =
    let store = c.args.store.now in
    let p0 = c.args.pass.now in
    let p1 = c.learn-clock.new.pass in
    let stepped = learnt_steps store p0 p1 c.args.cells.now.taken.list.items c.requires.hand c.learn-clock.ensures.same in
    record {
      hand = stepped.hand;
      learnt = learnt_still store.accounts.config p0 p1 c.learn-clock.result c.learn-clock.ensures.same
          c.learn-clock.ensures.learnt;
      sees = snapshot_of p0 p1 c.args.begun c.requires.opened stepped.same stepped.state;
    }

pub check-requires-clause-known : goal.check-requires-clause-known
check-requires-clause-known c =
    let store = c.args.store.now in
    let stepped = learnt_steps store c.args.pass.now c.learn-clock.new.pass c.args.cells.now.taken.list.items
    c.requires.hand c.learn-clock.ensures.same in
    record {
      within = c.requires.known.within;
      edges = subst (λ (st : PassState). TellsEdges (λ v answer. answer ≡ c.args.has_edges)
          (view_of store.accounts.config.kind st) c.args.write) (sym stepped.state) c.requires.known.edges;
    }

pub lay-requires-clause-can : goal.lay-requires-clause-can
lay-requires-clause-can c =
    let found = c.in-Ok.ensures.found in
    let new = c.check.new.pass in
    record {
      found = subst (λ p. MayBeMade c.args.store.now.accounts.config new.account.me.0 p (state_of new) c.args.write)
          (sym c.in-Ok.ensures.looked.number) found;
      may = lays c.rows_in_hand_are_known.ensures c.args.store.now c.args.pass.now c.learn-clock.new.pass new
          c.args.cells.now.taken.list.items c.learn-clock.result c.requires.hand c.learn-clock.ensures.same
          c.learn-clock.ensures.learnt c.in-Ok.ensures.looked c.args.write c.args.rows.now c.requires.rows.are
          c.requires.rows.held found.allowed;
      few = few c.rows_in_hand_are_known.ensures c.args.store.now c.args.pass.now c.learn-clock.new.pass new
          c.args.cells.now.taken.list.items c.learn-clock.result c.requires.hand c.learn-clock.ensures.same
          c.learn-clock.ensures.learnt c.in-Ok.ensures.looked c.args.write c.args.rows.now c.requires.rows.are
          c.requires.rows.held found.allowed;
    }

pub lay-requires-clause-rows : goal.lay-requires-clause-rows
lay-requires-clause-rows c =
    subst (λ (r : WrittenRows). HoldsRowsOf c.args.store.now.accounts.config.kind (rows_in c.args.cells.now.taken)
    c.args.write r) (sym c.find-found.ensures) c.requires.rows

pub lay-requires-clause-hand : goal.lay-requires-clause-hand
lay-requires-clause-hand c =
    new_hand c.rows_in_hand_are_known.ensures c.args.store.now c.args.pass.now c.learn-clock.new.pass c.check.new.pass
    c.args.cells.now.taken.list.items c.learn-clock.result c.requires.hand c.learn-clock.ensures.same
    c.learn-clock.ensures.learnt c.in-Ok.ensures.looked

pub note_refusal-requires-clause-hand : goal.note_refusal-requires-clause-hand
note_refusal-requires-clause-hand c =
    new_hand c.rows_in_hand_are_known.ensures c.args.store.now c.args.pass.now c.learn-clock.new.pass c.check.new.pass
    c.args.cells.now.taken.list.items c.learn-clock.result c.requires.hand c.learn-clock.ensures.same
    c.learn-clock.ensures.learnt c.in-Err.ensures.looked

pub returns-in-Err-clause-makes : goal.returns-in-Err-clause-makes
returns-in-Err-clause-makes c =
    let store = c.args.store.now in
    let mid = c.learn-clock.new.pass in
    let new = c.check.new.pass in
    let state = new_state c.rows_in_hand_are_known.ensures store c.args.pass.now mid new
    c.args.cells.now.taken.list.items c.learn-clock.result c.requires.hand c.learn-clock.ensures.same
    c.learn-clock.ensures.learnt c.in-Err.ensures.looked in
    refused_makes store.accounts.config new.account.me.0 c.args.pass.now.number (state_of c.args.pass.now)
    (state_of c.note_refusal.new.pass) c.args.write (state_of new).looks c.in-Err.refusal
    (subst (λ (x : ℕ × PassState). Finds store.accounts.config new.account.me.0 x.0 x.1 c.args.write
    (Err c.in-Err.refusal)) (λ i. (c.learn-clock.ensures.same.number i, state i)) c.in-Err.ensures.found)
    (c.note_refusal.ensures.state ∙ ap (after_refusal c.args.write c.in-Err.refusal) state)
