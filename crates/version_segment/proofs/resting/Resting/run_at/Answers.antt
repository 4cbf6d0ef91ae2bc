use Rattle.std.proofs.Common.{◌≡◌, ◌+◌, ◌++◌, ℕ, suc, Option, arith, slice_index_or, subst, sym}
use Rattle.std.specs.Prelude.{Bool, slice_get, IfSome}
use Rattle.graph_model.specs.declared.journal.TxnName.{TxnName}
use Rattle.graph_model.specs.declared.row.Row.{Row}
use Rattle.store_model.specs.Stamped.{read_stamped}
use Rattle.row_table.proofs.UndoChain.ListLemmas.{grows_chain}
use Rattle.row_table.specs.Checks.{IsNamed}
use Rattle.version_segment.specs.Resting.{woken_row}
use Rattle.version_segment.specs.RestingParts.{seen_row, IsReadTo}
use Rattle.version_segment.proofs.ReadLemmas.{read_all, read_next, woken_named, word_agrees}
use Rattle.version_segment.proofs.resting.Resting.run_at.Goals as goal

pub read_one-requires-clause-named : goal.read_one-requires-clause-named
read_one-requires-clause-named g c =
    let hs = c.args.self.now.rows in
    let words = c.args.words.now in
    let p = c.rows.place in
    let blank : Row = record { key = record { src = 0; second = 0 }; weight = 0 } in
    let row : Row = slice_index_or words p blank in
    subst (λ (names : TxnName → Bool). IfSome (slice_get hs p) (λ h. IsNamed names (woken_row h row).1)) (sym c.rows.invariant.grows.names)
    (woken_named hs words c.requires.count (g.S.States.knowledge c.args.states.now).names p blank c.rows-test.true c.requires.named)

pub read_one-requires-clause-agrees : goal.read_one-requires-clause-agrees
read_one-requires-clause-agrees g c =
    let blank : Row = record { key = record { src = 0; second = 0 }; weight = 0 } in
    word_agrees c.args.self.now.rows c.args.words.now c.requires.count c.rows.place blank c.rows-test.true c.requires.agree

pub rows-preserved : goal.rows-preserved
rows-preserved g c =
    let hs = c.args.self.now.rows in
    let words = c.args.words.now in
    let p = c.rows.place in
    let from = c.args.from in
    let until = c.args.until in
    let snapshot = c.args.snapshot.now in
    let old = g.S.States.knowledge c.args.states.now in
    let now = g.S.States.knowledge c.rows.states in
    let new = g.S.States.knowledge c.read_one.new.states in
    let buffer = c.rows.buffer in
    let buffer' = c.read_one.new.buffer in
    let blank : Row = record { key = record { src = 0; second = 0 }; weight = 0 } in
    let row : Row = slice_index_or words p blank in
    let one = subst (λ (stamps : TxnName → Option ℕ). IfSome (slice_get hs p)
    (λ h. buffer' ≡ buffer ++ seen_row (read_stamped stamps snapshot.start snapshot.own) from until h row))
    c.rows.invariant.grows.stamps c.read_one.ensures.rows in
    let next : suc p ≡ p + 1 = omega arith in
    subst (λ (n : ℕ). IsReadTo (read_stamped old.stamps snapshot.start snapshot.own) from until hs words n old new buffer') next
    (read_next hs words c.requires.count (read_stamped old.stamps snapshot.start snapshot.own) from until old now new p blank buffer buffer'
    c.rows-test.true c.rows.invariant one (grows_chain old now new c.rows.invariant.grows c.read_one.ensures.grows))

pub returns-clause-rows : goal.returns-clause-rows
returns-clause-rows g c =
    let words = c.args.words.now in
    let snapshot = c.args.snapshot.now in
    let old = g.S.States.knowledge c.args.states.now in
    let test = c.rows-test.false in
    let end = c.rows.auto.place-end in
    read_all c.args.self.now.rows words c.requires.count (read_stamped old.stamps snapshot.start snapshot.own) c.args.from c.args.until old
    (g.S.States.knowledge c.rows.states) c.rows.place c.rows.buffer (omega (arith, test, end)) c.rows.invariant
