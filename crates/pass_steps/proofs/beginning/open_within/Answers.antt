use Rattle.std.proofs.Common.{◌∙◌, ◌<◌, ap, arith, length, subst, sym}
use Rattle.std.specs.Prelude.{true}
use Rattle.store_rule.specs.StoreRelation.Passes.{PassState, number_of}
use Rattle.store_rule.specs.StoreRelation.Steps.{begun}
use Rattle.store_rule.specs.RuleModel.Sight.{PinState}
use Rattle.pass_steps.specs.Passes.{pin_of, state_of}
use Rattle.pass_steps.proofs.HandLemmas.{clock_told, hand_announced, hand_begun, opens_by}
use Rattle.pass_steps.proofs.PassLemmas.{taken_own, taken_same}
use Rattle.pass_steps.proofs.beginning.open_within.Goals as goal

pub announce-requires-clause-pass : goal.announce-requires-clause-pass
announce-requires-clause-pass c =
    let t = c.requires.taken in
    (c.in_ok-make_room.ensures.ok (state_of c.args.pass.now) (pin_of c.args.pass.now) t.0 t.1 t.2).1.of

pub announce-requires-clause-stage : goal.announce-requires-clause-stage
announce-requires-clause-stage c =
    let t = c.requires.taken in
    let r = c.in_ok-make_room.ensures.ok (state_of c.args.pass.now) (pin_of c.args.pass.now) t.0 t.1 t.2 in
    ap (λ (u : PassState). u.stage) r.1.state ∙ c.requires.idle.ended.stage

pub load_clock-start-requires : goal.load_clock-start-requires
load_clock-start-requires c =
    let store = c.args.store.now in
    let st = state_of c.args.pass.now in
    let x = pin_of c.args.pass.now in
    let t = c.requires.taken in
    let r = c.in_ok-make_room.ensures.ok st x t.0 t.1 t.2 in
    let a = hand_announced store c.make_room.new.pass c.announce.new.pass st x r.0 r.1 c.announce.ensures in
    record { taken = (st, record x { announced = true }, r.0, a) }

pub store_open-requires-clause-taken : goal.store_open-requires-clause-taken
store_open-requires-clause-taken c =
    let store = c.args.store.now in
    let st = state_of c.args.pass.now in
    let x = pin_of c.args.pass.now in
    let t = c.requires.taken in
    let r = c.in_ok-make_room.ensures.ok st x t.0 t.1 t.2 in
    let a = hand_announced store c.make_room.new.pass c.announce.new.pass st x r.0 r.1 c.announce.ensures in
    let l = taken_same store c.announce.new.pass c.load_clock-start.new.pass st (record x { announced = true }) r.0 a
    c.load_clock-start.ensures.same in
    (r.0, taken_own store c.load_clock-start.new.pass st (record x { announced = true }) r.0 l, r.4)

pub store_open-requires-clause-stage : goal.store_open-requires-clause-stage
store_open-requires-clause-stage c =
    let store = c.args.store.now in
    let st = state_of c.args.pass.now in
    let x = pin_of c.args.pass.now in
    let t = c.requires.taken in
    let r = c.in_ok-make_room.ensures.ok st x t.0 t.1 t.2 in
    let a = hand_announced store c.make_room.new.pass c.announce.new.pass st x r.0 r.1 c.announce.ensures in
    let l = taken_same store c.announce.new.pass c.load_clock-start.new.pass st (record x { announced = true }) r.0 a
    c.load_clock-start.ensures.same in (
      ap (λ (u : PassState). u.stage) l.state ∙ c.requires.idle.ended.stage,
      ap (λ (u : PassState). u.unstamped) l.state ∙ c.requires.idle.stamped,
    )

pub store_open-requires-clause-more : goal.store_open-requires-clause-more
store_open-requires-clause-more c =
    let store = c.args.store.now in
    let st = state_of c.args.pass.now in
    let x = pin_of c.args.pass.now in
    let t = c.requires.taken in
    let r = c.in_ok-make_room.ensures.ok st x t.0 t.1 t.2 in
    let a = hand_announced store c.make_room.new.pass c.announce.new.pass st x r.0 r.1 c.announce.ensures in
    let l = taken_same store c.announce.new.pass c.load_clock-start.new.pass st (record x { announced = true }) r.0 a
    c.load_clock-start.ensures.same in
    subst (λ (u : PassState). number_of u < store.accounts.config.txns_per_pass) (sym l.state) c.requires.more

pub store_open-requires-clause-pin : goal.store_open-requires-clause-pin
store_open-requires-clause-pin c =
    let store = c.args.store.now in
    let st = state_of c.args.pass.now in
    let x = pin_of c.args.pass.now in
    let t = c.requires.taken in
    let r = c.in_ok-make_room.ensures.ok st x t.0 t.1 t.2 in
    let a = hand_announced store c.make_room.new.pass c.announce.new.pass st x r.0 r.1 c.announce.ensures in
    let l = taken_same store c.announce.new.pass c.load_clock-start.new.pass st (record x { announced = true }) r.0 a
    c.load_clock-start.ensures.same in (
      ap (λ (u : PinState). u.announced) l.pin,
      ap (λ (u : PinState). u.noted) l.pin ∙ c.requires.idle.unnoted,
    )

pub returns-clause-taken : goal.returns-clause-taken
returns-clause-taken c =
    let store = c.args.store.now in
    let st = state_of c.args.pass.now in
    let x = pin_of c.args.pass.now in
    let t = c.requires.taken in
    let r = c.in_ok-make_room.ensures.ok st x t.0 t.1 t.2 in
    let a = hand_announced store c.make_room.new.pass c.announce.new.pass st x r.0 r.1 c.announce.ensures in
    let told = clock_told store c.announce.new.pass st (record x { announced = true }) r.0 c.load_clock-start.result a
    c.load_clock-start.ensures.told in
    let l = taken_same store c.announce.new.pass c.load_clock-start.new.pass st (record x { announced = true }) r.0 a
    c.load_clock-start.ensures.same in
    let b = hand_begun store c.load_clock-start.new.pass c.store_open.new.pass st (record x { announced = true }) r.0 l
    told.legal c.store_open.ensures in
    (r.0, taken_own store c.store_open.new.pass (begun st r.0) (record x { announced = true }) r.0 b, r.2)

pub returns-clause-ok : goal.returns-clause-ok
returns-clause-ok c =
    let store = c.args.store.now in
    let st = state_of c.args.pass.now in
    let x = pin_of c.args.pass.now in
    let t = c.requires.taken in
    let r = c.in_ok-make_room.ensures.ok st x t.0 t.1 t.2 in
    let a = hand_announced store c.make_room.new.pass c.announce.new.pass st x r.0 r.1 c.announce.ensures in
    let told = clock_told store c.announce.new.pass st (record x { announced = true }) r.0 c.load_clock-start.result a
    c.load_clock-start.ensures.told in
    let l = taken_same store c.announce.new.pass c.load_clock-start.new.pass st (record x { announced = true }) r.0 a
    c.load_clock-start.ensures.same in
    let b = hand_begun store c.load_clock-start.new.pass c.store_open.new.pass st (record x { announced = true }) r.0 l
    told.legal c.store_open.ensures in
    let is = told.is in
    let items = ap length r.2.commits in
    let len = c.len-commits.ensures.len in
    let small = c.len-commits.ensures.small in
    (opens_by store.accounts.config st _ r.0 c.load_clock-start.result told b.state, b.pin, omega (arith, is, items, len, small))

pub prove-unreachable-requires : goal.prove-unreachable-requires
prove-unreachable-requires c =
    let st = state_of c.args.pass.now in
    let x = pin_of c.args.pass.now in
    let t = c.requires.taken in
    let r = c.in_ok-make_room.ensures.ok st x t.0 t.1 t.2 in
    let store = c.args.store.now in
    let a = hand_announced store c.make_room.new.pass c.announce.new.pass st x r.0 r.1 c.announce.ensures in
    let told = clock_told store c.announce.new.pass st (record x { announced = true }) r.0 c.load_clock-start.result a
    c.load_clock-start.ensures.told in
    c.if-prove.true (told.is ∙ sym (ap length r.2.commits) ∙ sym c.len-commits.ensures.len)
