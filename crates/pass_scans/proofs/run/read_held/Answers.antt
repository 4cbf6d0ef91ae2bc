use Rattle.std.proofs.Common.{◌≡◌, ◌∙◌, ap, refl, sym}
use Rattle.std.specs.Prelude.{true}
use Rattle.graph_model.specs.Rows.{is_below, is_between, rows}
use Rattle.pass_sweeps.specs.StoreRelation.Passes.{PassState}
use Rattle.pass_sweeps.specs.PassSteps.Passes.{pin_of, state_of}
use Rattle.pass_sweeps.specs.VersionSegment.Resting.{resting_of}
use Rattle.pass_sweeps.specs.VersionSegment.Rows.{VersionedRows}
use Rattle.pass_sweeps.proofs.CellLemmas.{account_found, after_learning, after_looks, looks_found}
use Rattle.pass_sweeps.proofs.HandLemmas.{finds_then}
use Rattle.pass_scans.specs.Packed.{view_seen}
use Rattle.pass_scans.proofs.PackedLemmas.{learnt_still, packed_self, run_covered, run_ends, snapshot_still}
use Rattle.pass_scans.proofs.run.read_held.Goals as goal

pub returns-then-not-holds-clause-taken : goal.returns-then-not-holds-clause-taken
returns-then-not-holds-clause-taken c =
    let p0 = c.args.pass.now in
    let t = c.requires.taken in
    let l = c.load_packed.ensures.loaded t.0 t.1.only.cell in (
      l.0,
      packed_self c.args.store.now c.load_packed.new.pass (state_of p0) (pin_of p0) c.args.cell l.0 l.1.only l.1.packed,
      t.2 ∙ ap (λ (s : VersionedRows). (resting_of s).rows) (sym l.2),
    )

pub learn-clock-requires-clause-pass : goal.learn-clock-requires-clause-pass
learn-clock-requires-clause-pass c =
    let t = c.requires.taken in
    (c.load_packed.ensures.loaded t.0 t.1.only.cell).1.only.of

pub learn-clock-requires-clause-stage : goal.learn-clock-requires-clause-stage
learn-clock-requires-clause-stage c =
    let t = c.requires.taken in
    ap (λ (st : PassState). st.stage) (c.load_packed.ensures.loaded t.0 t.1.only.cell).1.only.state ∙ c.requires.opened

pub read_rows-requires-clause-reading : goal.read_rows-requires-clause-reading
read_rows-requires-clause-reading c =
    let store = c.args.store.now in
    let p0 = c.args.pass.now in
    let p1 = c.load_packed.new.pass in
    let p2 = c.learn-clock.new.pass in
    let t = c.requires.taken in
    let l = c.load_packed.ensures.loaded t.0 t.1.only.cell in
    record {
      of = (after_learning store p1 p2 (state_of p0) (pin_of p0) c.args.cell l.0 0 l.1.only c.learn-clock.ensures.same).of;
      learnt = learnt_still store.accounts.config p1 p2 c.learn-clock.result c.learn-clock.ensures.same
          c.learn-clock.ensures.learnt;
      sees = snapshot_still p0 p2 c.args.snapshot.now
          (finds_then p0 p1 p2 c.load_packed.ensures.found
          (account_found store p1 p2 _ l.1.only.of c.learn-clock.ensures.same refl refl refl refl refl)) c.requires.snapshot;
    }

pub read_rows-requires-clause-may : goal.read_rows-requires-clause-may
read_rows-requires-clause-may c =
    let p0 = c.args.pass.now in
    let t = c.requires.taken in
    let l = c.load_packed.ensures.loaded t.0 t.1.only.cell in
    let spell = l.3 in
    let low = c.load_packed.result.0 in
    let high = c.load_packed.result.1 in
    let holds : is_between low high c.args.from ≡ true = sym c.holds.ensures ∙ c.if-not-holds.false in
    let has = after_learning c.args.store.now c.load_packed.new.pass c.learn-clock.new.pass (state_of p0) (pin_of p0) c.args.cell l.0 0
    l.1.only c.learn-clock.ensures.same in (
      l.0,
      record {
        has = has.cell;
        inside = has.inside;
        sound = spell.sound;
        small = spell.small;
        rests = t.2 ∙ ap (λ (s : VersionedRows). (resting_of s).rows) (sym l.2);
        words_are = c.as_slice-words.ensures ∙ spell.rows_are;
        covered = λ q between. (λ i. is_between (sym spell.low_is i) (sym spell.high_is i) q)
            ∙ run_covered low high c.args.from c.args.until holds q (ap (λ e. is_between c.args.from e q) (sym c.lesser-end.ensures) ∙ between);
      },
    )

pub returns-clause-taken : goal.returns-clause-taken
returns-clause-taken c =
    let store = c.args.store.now in
    let p0 = c.args.pass.now in
    let p2 = c.learn-clock.new.pass in
    let p3 = c.read_rows.new.pass in
    let t = c.requires.taken in
    let l = c.load_packed.ensures.loaded t.0 t.1.only.cell in
    let has = after_learning store c.load_packed.new.pass p2 (state_of p0) (pin_of p0) c.args.cell l.0 0 l.1.only
    c.learn-clock.ensures.same in (
      l.0,
      packed_self store p3 (state_of p3) (pin_of p0) c.args.cell l.0
          (after_looks store p2 p3 (state_of p0) (pin_of p0) c.args.cell l.0 0 has c.read_rows.ensures.looked) l.1.packed,
      t.2 ∙ ap (λ (s : VersionedRows). (resting_of s).rows) (sym l.2),
    )

pub returns-clause-found : goal.returns-clause-found
returns-clause-found c =
    let store = c.args.store.now in
    let p0 = c.args.pass.now in
    let p1 = c.load_packed.new.pass in
    let p2 = c.learn-clock.new.pass in
    let p3 = c.read_rows.new.pass in
    let t = c.requires.taken in
    let l = c.load_packed.ensures.loaded t.0 t.1.only.cell in
    let has = after_learning store p1 p2 (state_of p0) (pin_of p0) c.args.cell l.0 0 l.1.only c.learn-clock.ensures.same in
    finds_then p0 p2 p3
    (finds_then p0 p1 p2 c.load_packed.ensures.found (account_found store p1 p2 _ l.1.only.of c.learn-clock.ensures.same refl refl refl refl refl))
    (looks_found store p2 p3 has.of c.read_rows.ensures.looked)

pub returns-clause-run : goal.returns-clause-run
returns-clause-run c =
    let store = c.args.store.now in
    let p0 = c.args.pass.now in
    let p1 = c.load_packed.new.pass in
    let p2 = c.learn-clock.new.pass in
    let t = c.requires.taken in
    let l = c.load_packed.ensures.loaded t.0 t.1.only.cell in
    let low = c.load_packed.result.0 in
    let high = c.load_packed.result.1 in
    let holds : is_between low high c.args.from ≡ true = sym c.holds.ensures ∙ c.if-not-holds.false in
    let ends = run_ends low high c.args.from c.args.until holds c.requires.ahead in
    let is = c.lesser-end.ensures in
    let found = finds_then p0 p1 p2 c.load_packed.ensures.found
    (account_found store p1 p2 _ l.1.only.of c.learn-clock.ensures.same refl refl refl refl refl) in
    record {
      ahead = ap (is_below c.args.from) is ∙ ends.0;
      inside = ap (is_below c.args.until) is ∙ ends.1;
      run_is = c.read_rows.ensures.run
          ∙ ap (λ (st : PassState). rows (view_seen store.accounts.config st) c.args.from c.lesser-end.result) found.state;
    }
