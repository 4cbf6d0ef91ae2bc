use Rattle.std.proofs.Common.{◌≡◌, subst, sym}
use Rattle.pass_sweeps.specs.PassSteps.Passes.{pin_of, state_of}
use Rattle.pass_sweeps.proofs.CellLemmas.{own_self}
use Rattle.pass_sweeps.proofs.HandLemmas.{finds_none, finds_then, swept_still}
use Rattle.pass_sweeps.proofs.SweptLemmas.{taken_finds}
use Rattle.pass_sweeps.specs.Pruning.{HasCellOnly}
use Rattle.pass_settles.specs.Settled.{IsPackedWith}
use Rattle.pass_settles.proofs.swept.settle_one.Goals as goal

pub end_swept-held-requires-clause-taken : goal.end_swept-held-requires-clause-taken
end_swept-held-requires-clause-taken g c =
    let store = c.args.store.now in
    let p0 = c.args.pass.now in
    let p1 = c.take_cell-held.new.pass in
    let t = c.take_cell-held.ensures.taken in (
      t.0,
      subst (λ k. IsPackedWith store p1 (state_of p1) (pin_of p1) k c.take_cell-held.result.value t.0) (sym c.take_cell-held.ensures.held.0)
          (record { only = own_self store p1 (state_of p0) (pin_of p0) c.args.cell t.0 0 t.1; packed = t.2; rests = t.3 }),
    )

pub end_swept-held-requires-clause-swept : goal.end_swept-held-requires-clause-swept
end_swept-held-requires-clause-swept g c =
    let p0 = c.args.pass.now in
    let p1 = c.take_cell-held.new.pass in
    let t = c.take_cell-held.ensures.taken in
    swept_still c.args.store.now p0 p1 c.args.sweep.now c.requires.swept
    (taken_finds c.args.store.now p0 p1 c.args.cell t.0 t.1 c.take_cell-held.ensures.same)

pub give_cell-requires : goal.give_cell-requires
give_cell-requires g c =
    let p2 = c.end_swept-held.new.pass in
    let t = c.end_swept-held.ensures.taken in
    record {
      taken = (
        state_of p2,
        pin_of p2,
        t.0,
        subst (λ k. HasCellOnly c.args.store.now p2 (state_of p2) (pin_of p2) k t.0 0) (sym c.end_swept-held.ensures.held)
            t.1.only,
        t.1.packed,
        t.1.rests,
      );
    }

pub returns-clause-found : goal.returns-clause-found
returns-clause-found g c =
    let p0 = c.args.pass.now in
    let p1 = c.take_cell-held.new.pass in
    let p2 = c.end_swept-held.new.pass in
    let p3 = c.give_cell.new.pass in
    let t = c.take_cell-held.ensures.taken in
    let back = c.give_cell.ensures in
    finds_then p0 p2 p3
    (finds_then p0 p1 p2 (taken_finds c.args.store.now p0 p1 c.args.cell t.0 t.1 c.take_cell-held.ensures.same) c.end_swept-held.ensures.found)
    (finds_none p2 p3 back.same.number back.state back.pin back.same.reads)
