use Rattle.std.proofs.Common.{◌∙◌, ap, subst, sym}
use Rattle.std.specs.Prelude.{IfSome}
use Rattle.pass_sweeps.specs.StoreRelation.Passes.{PassState}
use Rattle.pass_sweeps.specs.PassSteps.Passes.{pin_of, state_of}
use Rattle.pass_sweeps.proofs.HandLemmas.{finds_none, finds_then}
use Rattle.pass_sweeps.proofs.SweptLemmas.{taken_finds}
use Rattle.pass_scans.specs.Packed.{HasPacked, IsRunTo, view_seen}
use Rattle.pass_scans.proofs.PackedLemmas.{packed_self, snapshot_still}
use Rattle.pass_scans.proofs.run.read_packed.Goals as goal

pub read_held-read-requires-clause-taken : goal.read_held-read-requires-clause-taken
read_held-read-requires-clause-taken g c =
    let store = c.args.store.now in
    let p0 = c.args.pass.now in
    let p1 = c.take_cell-held.new.pass in
    let t = c.take_cell-held.ensures.taken in (
      t.0,
      subst (λ k. HasPacked store p1 (state_of p1) (pin_of p1) k t.0) (sym c.take_cell-held.ensures.held.0)
          (packed_self store p1 (state_of p0) (pin_of p0) c.args.cell t.0 t.1 t.2),
      t.3,
    )

pub read_held-read-requires-clause-opened : goal.read_held-read-requires-clause-opened
read_held-read-requires-clause-opened g c = ap (λ (st : PassState). st.stage) c.take_cell-held.ensures.taken.1.state ∙ c.requires.opened

pub read_held-read-requires-clause-snapshot : goal.read_held-read-requires-clause-snapshot
read_held-read-requires-clause-snapshot g c =
    let p0 = c.args.pass.now in
    let p1 = c.take_cell-held.new.pass in
    let t = c.take_cell-held.ensures.taken in
    snapshot_still p0 p1 (record { start = c.args.begun.start; own = c.args.begun.by }) (taken_finds c.args.store.now p0 p1 c.args.cell t.0 t.1 c.take_cell-held.ensures.same)
    c.requires.begun

pub give_cell-requires : goal.give_cell-requires
give_cell-requires g c =
    let p2 = c.read_held-read.new.pass in
    let t = c.read_held-read.ensures.taken in
    record { taken = (state_of p2, pin_of p2, t.0, t.1.only, t.1.packed, t.2) }

pub returns-clause-found : goal.returns-clause-found
returns-clause-found g c =
    let p0 = c.args.pass.now in
    let p1 = c.take_cell-held.new.pass in
    let p2 = c.read_held-read.new.pass in
    let p3 = c.give_cell.new.pass in
    let t = c.take_cell-held.ensures.taken in
    let back = c.give_cell.ensures in
    finds_then p0 p2 p3
    (finds_then p0 p1 p2 (taken_finds c.args.store.now p0 p1 c.args.cell t.0 t.1 c.take_cell-held.ensures.same) c.read_held-read.ensures.found)
    (finds_none p2 p3 back.same.number back.state back.pin back.same.reads)

pub returns-clause-run : goal.returns-clause-run
returns-clause-run g c =
    subst (λ (st : PassState). IfSome c.read_held-read.result (λ read. IsRunTo read.end (view_seen c.args.store.now.accounts.config st) c.args.from
    c.args.until c.read_held-read.new.run)) c.take_cell-held.ensures.taken.1.state c.read_held-read.ensures.run
