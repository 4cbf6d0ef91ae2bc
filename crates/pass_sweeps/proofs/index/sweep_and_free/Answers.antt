use Rattle.std.proofs.Common.{◌≡◌, ◌∙◌, ap, refl, sym, Some, None}
use Rattle.pass_steps.specs.RuleModel.Sight.{IndexState}
use Rattle.pass_steps.specs.Passes.{pin_of}
use Rattle.pass_sweeps.specs.Sweeping.{index_in, leaves_freed, with_sweep}
use Rattle.pass_sweeps.proofs.HandLemmas.{index_is, sweep_index}
use Rattle.pass_sweeps.proofs.IndexLemmas.{index_changed, index_swept}
use Rattle.pass_sweeps.proofs.SweptLemmas.{freed_in_hand}
use Rattle.pass_sweeps.proofs.index.sweep_and_free.Goals as goal

pub free_leaves-held-requires-clause-taken : goal.free_leaves-held-requires-clause-taken
free_leaves-held-requires-clause-taken c =
    let store = c.args.store.now in
    let p0 = c.args.pass.now in
    let p1 = c.begin_with_index-sweep.new.pass in
    let p2 = c.look_at_all.new.pass in
    let y0 = index_in p0.account.me.0 in
    let st = c.requires.taken.0 in
    let x = c.requires.taken.1 in
    let y = c.requires.taken.2 in
    let taken = c.requires.taken.3 in
    let begun = index_swept store p0 p1 st x _ y _ taken c.begin_with_index-sweep.ensures.step in
    let looked = sweep_index store p1 p2 _ begun.of c.look_at_all.ensures.step st _ _ begun in (
      st,
      _,
      record y0 { sweeper = Some p0.number },
      looked,
      ap Some (sym (c.look_at_all.ensures.step.number ∙ c.begin_with_index-sweep.ensures.step.number)),
      c.requires.taken.5 ∙ ap (λ (u : IndexState). u.index) (sym (index_is p0.account.me.0 y taken.index)),
    )

pub yield_index-requires : goal.yield_index-requires
yield_index-requires c =
    let store = c.args.store.now in
    let p0 = c.args.pass.now in
    let p1 = c.begin_with_index-sweep.new.pass in
    let p2 = c.look_at_all.new.pass in
    let p3 = c.free_leaves-held.new.pass in
    let st = c.requires.taken.0 in
    let x = c.requires.taken.1 in
    let y = c.requires.taken.2 in
    let begun = index_swept store p0 p1 st x _ y _ c.requires.taken.3 c.begin_with_index-sweep.ensures.step in
    let looked = sweep_index store p1 p2 _ begun.of c.look_at_all.ensures.step st _ _ begun in
    let freed = index_changed store p2 p3 st _ _ _ looked c.free_leaves-held.ensures.step in
    record { taken = (st, _, _, freed) }

pub returns-clause-freed : goal.returns-clause-freed
returns-clause-freed c =
    let store = c.args.store.now in
    let p0 = c.args.pass.now in
    let p1 = c.begin_with_index-sweep.new.pass in
    let p2 = c.look_at_all.new.pass in
    let p3 = c.free_leaves-held.new.pass in
    let p4 = c.yield_index.new.pass in
    let sweep = c.look_at_all.new.sweep in
    let st = c.requires.taken.0 in
    let x = c.requires.taken.1 in
    let y = c.requires.taken.2 in
    let taken = c.requires.taken.3 in
    let y1 : IndexState = record (index_in p0.account.me.0) { sweeper = Some p0.number } in
    let begun = index_swept store p0 p1 st x _ y y1 taken c.begin_with_index-sweep.ensures.step in
    let looked = sweep_index store p1 p2 _ begun.of c.look_at_all.ensures.step st _ y1 begun in
    let y2 = leaves_freed sweep (index_in p2.account.me.0) in
    let freed = index_changed store p2 p3 st _ y1 y2 looked c.free_leaves-held.ensures.step in
    let done = index_swept store p3 p4 st _ (pin_of p3) y2
    (record (index_in p3.account.me.0) { sweeper = None }) freed c.yield_index.ensures in
    let was : index_in p2.account.me.0 ≡ y1 = index_is p2.account.me.0 y1 looked.index in
    let now : index_in p3.account.me.0 ≡ y2 = index_is p3.account.me.0 y2 freed.index in
    let pin : pin_of p3 ≡ with_sweep (pin_of p0) (Some sweep) = freed.pin in (
      record (index_in p3.account.me.0) { sweeper = None },
      record {
        of = done.of;
        latch = done.latch;
        buffers = done.buffers;
        state = done.state ∙ sym taken.state;
        pin = done.pin ∙ pin;
        index = done.index;
        alone = done.alone;
        cells = done.cells;
        journals = done.journals;
      },
      refl,
      c.free_leaves-held.ensures.index ∙ ap (λ (u : IndexState). u.index) (sym now),
      ap (λ (u : IndexState). u.index) now ∙ ap (λ (u : IndexState). (leaves_freed sweep u).index) was,
    )

pub by-freed-requires : goal.by-freed-requires
by-freed-requires c =
    let store = c.args.store.now in
    let p0 = c.args.pass.now in
    let p1 = c.begin_with_index-sweep.new.pass in
    let p2 = c.look_at_all.new.pass in
    let p3 = c.free_leaves-held.new.pass in
    let p4 = c.yield_index.new.pass in
    let sweep = c.look_at_all.new.sweep in
    let st = c.requires.taken.0 in
    let x = c.requires.taken.1 in
    let y = c.requires.taken.2 in
    let taken = c.requires.taken.3 in
    let y1 : IndexState = record (index_in p0.account.me.0) { sweeper = Some p0.number } in
    let begun = index_swept store p0 p1 st x _ y y1 taken c.begin_with_index-sweep.ensures.step in
    let looked = sweep_index store p1 p2 _ begun.of c.look_at_all.ensures.step st _ y1 begun in
    let y2 = leaves_freed sweep (index_in p2.account.me.0) in
    let freed = index_changed store p2 p3 st _ y1 y2 looked c.free_leaves-held.ensures.step in
    let done = index_swept store p3 p4 st _ (pin_of p3) y2
    (record (index_in p3.account.me.0) { sweeper = None }) freed c.yield_index.ensures in
    let was : index_in p2.account.me.0 ≡ y1 = index_is p2.account.me.0 y1 looked.index in
    let now : index_in p3.account.me.0 ≡ y2 = index_is p3.account.me.0 y2 freed.index in
    freed_in_hand store p4 sweep st _ (record (index_in p3.account.me.0) { sweeper = None }) y1 done
    c.look_at_all.ensures.whole
    (ap (λ (u : IndexState). u.index) now ∙ ap (λ (u : IndexState). (leaves_freed sweep u).index) was)
