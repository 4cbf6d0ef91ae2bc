use Rattle.std.proofs.Common.{subst}
use Rattle.leaf_index.specs.Index.{Index, IsRoute}
use Rattle.pass_moves.specs.Moving.{values_of}
use Rattle.pass_moves.specs.Room.{IsCrowdedAt}
use Rattle.pass_moves.proofs.KeyLemmas.{crowded_at, eight_cells, few_rows, free_room, knows_one, known_sound, one_leaf, spread_room}
use Rattle.pass_moves.proofs.room.free_places.Goals as goal

pub counts_in-counts-requires : goal.counts_in-counts-requires
counts_in-counts-requires c =
    let h = c.requires.holds in
    eight_cells c.args.store.now c.args.pass.now h.0 c.args.cells.now c.args.index.now h.1

pub spread_window-requires-clause-few : goal.spread_window-requires-clause-few
spread_window-requires-clause-few c =
    let store = c.args.store.now in
    let old = c.args.pass.now in
    let ts = c.args.cells.now in
    let before = c.args.index.now in
    let h = c.requires.holds in
    let routed = subst (λ (x : Index). IsRoute c.args.key x.entries c.route-route.result) c.deref.ensures
    c.route-route.ensures in
    few_rows store.accounts.config old.account.me.0 ts before h.0 (knows_one store old h.0 ts before h.1)
    c.requires.fit c.args.key h.2 c.requires.below c.route-route.result routed
    c.counts_in-counts.result c.args.need c.counts_in-counts.ensures
    c.in-Spread.window c.in-Spread.ensures

pub returns-in-Enough-clause-room : goal.returns-in-Enough-clause-room
returns-in-Enough-clause-room c = λ leaf own.
    let store = c.args.store.now in
    let old = c.args.pass.now in
    let ts = c.args.cells.now in
    let before = c.args.index.now in
    let h = c.requires.holds in
    let routed = subst (λ (x : Index). IsRoute c.args.key x.entries c.route-route.result) c.deref.ensures
    c.route-route.ensures in
    free_room store.accounts.config old.account.me.0 ts before h.0 (knows_one store old h.0 ts before h.1)
    c.requires.fit c.args.key h.2 c.requires.below c.route-route.result routed
    c.counts_in-counts.result c.args.need c.counts_in-counts.ensures
    c.in-Enough.ensures

pub returns-in_ok-spread_window-in-Spread-clause-room :
    goal.returns-in_ok-spread_window-in-Spread-clause-room
returns-in_ok-spread_window-in-Spread-clause-room c = λ leaf own.
    let store = c.args.store.now in
    let old = c.args.pass.now in
    let ts = c.args.cells.now in
    let before = c.args.index.now in
    let h = c.requires.holds in
    let routed = subst (λ (x : Index). IsRoute c.args.key x.entries c.route-route.result) c.deref.ensures
    c.route-route.ensures in
    let done = c.in_ok-spread_window-in-Spread.ensures in
    let now = done.holds h.0 h.1 in
    spread_room store.accounts.config old.account.me.0 ts before h.0 (knows_one store old h.0 ts before h.1)
    c.requires.fit c.args.key h.2 c.requires.below c.route-route.result routed
    c.counts_in-counts.result c.args.need c.counts_in-counts.ensures
    c.in-Spread.window c.in-Spread.ensures (values_of c.spread_window.new.cells) c.requires.few
    (known_sound store.accounts.config c.spread_window.new.pass.account.me.0 c.spread_window.new.cells now.known)
    done.spread

pub returns-in-Split-clause-room : goal.returns-in-Split-clause-room
returns-in-Split-clause-room c = λ leaf own.
    let store = c.args.store.now in
    let old = c.args.pass.now in
    let ts = c.args.cells.now in
    let before = c.args.index.now in
    let h = c.requires.holds in
    let one = one_leaf c.args.key before.value.value h.0 leaf h.2 own in
    let routed = subst (λ (x : Index). IsRoute c.args.key x.entries c.route-route.result) c.deref.ensures
    c.route-route.ensures in
    subst (λ n. IsCrowdedAt c.args.key c.args.need before.value.value n (values_of ts)) one
    (crowded_at store.accounts.config old.account.me.0 ts before h.0 (knows_one store old h.0 ts before h.1)
    c.requires.fit c.args.key h.2 c.requires.below c.route-route.result routed
    c.counts_in-counts.result c.args.need c.counts_in-counts.ensures
    c.in-Split.ensures.0)
