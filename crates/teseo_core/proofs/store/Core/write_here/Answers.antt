use Rattle.std.proofs.Common.{◌≡◌, ℕ, sym, ◌∙◌, ap, subst}
use Rattle.graph_model.specs.OwnerCalls.{current}
use Rattle.leaf_rows.specs.RowWritesDeclared.written.WrittenRows.{WrittenRows}
use Rattle.leaf_rows.specs.Held.{rows_in}
use Rattle.leaf_rows.specs.Laying.{HaveRows}
use Rattle.leaf_rows.specs.RowWrites.Written.{AreRows, touched_keys}
use Rattle.leaf_rows.proofs.RowWrites.WrittenLemmas.{are_rows, have_rows}
use Rattle.teseo_core.specs.Freeing.{free_bound}
use Rattle.teseo_core.specs.Passes.{noted}
use Rattle.teseo_core.specs.Keeping.{core_of}
use Rattle.teseo_core.proofs.FieldLemmas.{is_open_here, lent_state, start_of, some_nat}
use Rattle.teseo_core.proofs.KeepLemmas.{IsReader, reader_started, touched_none}
use Rattle.teseo_core.proofs.FreeLemmas.{is_free_bound}
use Rattle.teseo_core.proofs.WriteLemmas.{refused_kept, refused_answer, refused_places, may_lay, put_kept, put_answer}
use Rattle.teseo_core.proofs.store.Core.write_here.Goals as goal

pub invariant_of-self : goal.invariant_of-self
invariant_of-self c =
    let f = c.self.inside in
    let core = core_of f.kind f.leaves f.manager f.passes.items f.selected f.served in
    let start = start_of (current core).start (rw (← c.self.view_is) at c.requires.current) in
    let here = lent_state f.passes.items f.selected c.index.result.now c.self.invariant.chosen c.index.ensures in
    let r = c.reader_of-reader in
    let reader : IsReader core f.manager f.rows c.self.invariant r.result start.0 = record {
      manager = r.ensures.manager;
      start_is = some_nat r.result.start start.0 (sym r.ensures.start ∙ ap (λ s. s.start) (sym here) ∙ start.1);
      by = r.ensures.by ∙ (λ i. record { job = f.selected; number = (sym here i).begun });
    } in
    let last = lent_state f.passes.items f.selected c.index_mut.result.now c.self.invariant.chosen c.index_mut.ensures.value in
    refused_kept f.kind f.leaves f.manager f.passes.items f.selected f.served f.rows c.self.invariant r.result start.0 start.1 reader c.args.write c.in-Err.refusal c.index_mut.result.now c.note_refusal.new.self (sym last)
    (subst (λ (s : ℕ). c.note_refusal.new.self.state ≡ noted c.index_mut.result.now.state s c.args.write c.in-Err.refusal) reader.start_is c.note_refusal.ensures)

pub returns-in-Err-clause-did : goal.returns-in-Err-clause-did
returns-in-Err-clause-did c =
    let f = c.self.inside in
    let core = core_of f.kind f.leaves f.manager f.passes.items f.selected f.served in
    let start = start_of (current core).start (rw (← c.self.view_is) at c.requires.current) in
    let here = lent_state f.passes.items f.selected c.index.result.now c.self.invariant.chosen c.index.ensures in
    let r = c.reader_of-reader in
    let reader : IsReader core f.manager f.rows c.self.invariant r.result start.0 = record {
      manager = r.ensures.manager;
      start_is = some_nat r.result.start start.0 (sym r.ensures.start ∙ ap (λ s. s.start) (sym here) ∙ start.1);
      by = r.ensures.by ∙ (λ i. record { job = f.selected; number = (sym here i).begun });
    } in
    let last = lent_state f.passes.items f.selected c.index_mut.result.now c.self.invariant.chosen c.index_mut.ensures.value in
    let notes = subst (λ (s : ℕ). c.note_refusal.new.self.state ≡ noted c.index_mut.result.now.state s c.args.write c.in-Err.refusal) reader.start_is c.note_refusal.ensures in
    rw (← c.self.view_is) (record {
      chosen = c.self.invariant.chosen;
      here = refused_answer f.kind f.leaves f.manager f.passes.items f.selected f.served f.rows c.self.invariant r.result start.0 start.1 reader c.args.write c.check.result c.check.ensures c.in-Err.refusal c.in-Err.is c.index_mut.result.now c.note_refusal.new.self (sym last) notes;
      legal = c.self.invariant.store.transactions.legal;
    })

pub put-requires-clause-rows : goal.put-requires-clause-rows
put-requires-clause-rows c =
    let f = c.self.inside in
    let core = core_of f.kind f.leaves f.manager f.passes.items f.selected f.served in
    let start = start_of (current core).start (rw (← c.self.view_is) at c.requires.current) in
    let here = lent_state f.passes.items f.selected c.index.result.now c.self.invariant.chosen c.index.ensures in
    let r = c.reader_of-reader in
    let reader : IsReader core f.manager f.rows c.self.invariant r.result start.0 = record {
      manager = r.ensures.manager;
      start_is = some_nat r.result.start start.0 (sym r.ensures.start ∙ ap (λ s. s.start) (sym here) ∙ start.1);
      by = r.ensures.by ∙ (λ i. record { job = f.selected; number = (sym here i).begun });
    } in
    let rows = rw (← c.self.view_is) at c.requires.rows in
    subst AreRows (sym rows) (are_rows f.kind c.args.write (rows_in f.rows) c.requires.within (may_lay f.kind f.leaves f.manager f.passes.items f.selected f.served f.rows c.self.invariant r.result start.0 start.1 reader c.args.write c.check.result c.check.ensures c.in-Ok.field-0 c.in-Ok.is))

pub put-requires-clause-ends : goal.put-requires-clause-ends
put-requires-clause-ends c =
    let f = c.self.inside in
    let core = core_of f.kind f.leaves f.manager f.passes.items f.selected f.served in
    let start = start_of (current core).start (rw (← c.self.view_is) at c.requires.current) in
    let here = lent_state f.passes.items f.selected c.index.result.now c.self.invariant.chosen c.index.ensures in
    let r = c.reader_of-reader in
    let reader : IsReader core f.manager f.rows c.self.invariant r.result start.0 = record {
      manager = r.ensures.manager;
      start_is = some_nat r.result.start start.0 (sym r.ensures.start ∙ ap (λ s. s.start) (sym here) ∙ start.1);
      by = r.ensures.by ∙ (λ i. record { job = f.selected; number = (sym here i).begun });
    } in
    let rows = rw (← c.self.view_is) at c.requires.rows in
    subst (λ (r : WrittenRows). HaveRows f.rows (touched_keys r)) (sym rows) (have_rows f.kind c.args.write (rows_in f.rows) (may_lay f.kind f.leaves f.manager f.passes.items f.selected f.served f.rows c.self.invariant r.result start.0 start.1 reader c.args.write c.check.result c.check.ensures c.in-Ok.field-0 c.in-Ok.is))

pub put-requires-clause-never : goal.put-requires-clause-never
put-requires-clause-never c = λ never.
    let f = c.self.inside in
    let core = core_of f.kind f.leaves f.manager f.passes.items f.selected f.served in
    let start = start_of (current core).start (rw (← c.self.view_is) at c.requires.current) in
    let here = lent_state f.passes.items f.selected c.index.result.now c.self.invariant.chosen c.index.ensures in
    let r = c.reader_of-reader in
    let reader : IsReader core f.manager f.rows c.self.invariant r.result start.0 = record {
      manager = r.ensures.manager;
      start_is = some_nat r.result.start start.0 (sym r.ensures.start ∙ ap (λ s. s.start) (sym here) ∙ start.1);
      by = r.ensures.by ∙ (λ i. record { job = f.selected; number = (sym here i).begun });
    } in
    let asked = lent_state f.passes.items f.selected c.index-2.result.now c.self.invariant.chosen c.index-2.ensures in
    touched_none core f.manager f.rows c.self.invariant r.result start.0 start.1 reader (ap (λ s. s.own) asked ∙ c.earlier_touches-earlier.ensures never)

pub invariant_of-self-2 : goal.invariant_of-self-2
invariant_of-self-2 c =
    let f = c.self.inside in
    let core = core_of f.kind f.leaves f.manager f.passes.items f.selected f.served in
    let start = start_of (current core).start (rw (← c.self.view_is) at c.requires.current) in
    let here = lent_state f.passes.items f.selected c.index.result.now c.self.invariant.chosen c.index.ensures in
    let r = c.reader_of-reader in
    let reader : IsReader core f.manager f.rows c.self.invariant r.result start.0 = record {
      manager = r.ensures.manager;
      start_is = some_nat r.result.start start.0 (sym r.ensures.start ∙ ap (λ s. s.start) (sym here) ∙ start.1);
      by = r.ensures.by ∙ (λ i. record { job = f.selected; number = (sym here i).begun });
    } in
    let last = lent_state f.passes.items f.selected c.index_mut-2.result.now c.self.invariant.chosen c.index_mut-2.ensures.value in
    put_kept f.kind f.leaves f.manager f.passes.items f.selected f.served f.rows c.self.invariant r.result start.0 start.1 reader c.args.write c.check.result c.check.ensures c.in-Ok.field-0 c.in-Ok.is c.args.found.now.rows (rw (← c.self.view_is) at c.requires.rows) c.requires.within _ c.put.result c.index_mut-2.result.now c.put.new.pass c.put.new.rows (sym last) c.put.ensures.puts

pub returns-clause-did : goal.returns-clause-did
returns-clause-did c =
    let f = c.self.inside in
    let core = core_of f.kind f.leaves f.manager f.passes.items f.selected f.served in
    let start = start_of (current core).start (rw (← c.self.view_is) at c.requires.current) in
    let here = lent_state f.passes.items f.selected c.index.result.now c.self.invariant.chosen c.index.ensures in
    let r = c.reader_of-reader in
    let reader : IsReader core f.manager f.rows c.self.invariant r.result start.0 = record {
      manager = r.ensures.manager;
      start_is = some_nat r.result.start start.0 (sym r.ensures.start ∙ ap (λ s. s.start) (sym here) ∙ start.1);
      by = r.ensures.by ∙ (λ i. record { job = f.selected; number = (sym here i).begun });
    } in
    let last = lent_state f.passes.items f.selected c.index_mut-2.result.now c.self.invariant.chosen c.index_mut-2.ensures.value in
    rw (← c.self.view_is) (record {
      chosen = c.self.invariant.chosen;
      here = put_answer f.kind f.leaves f.manager f.passes.items f.selected f.served f.rows c.self.invariant r.result start.0 start.1 reader c.args.write c.check.result c.check.ensures c.in-Ok.field-0 c.in-Ok.is c.args.found.now.rows (rw (← c.self.view_is) at c.requires.rows) _ c.put.result c.index_mut-2.result.now c.put.new.pass c.put.new.rows (sym last) c.put.ensures.puts;
      legal = c.self.invariant.store.transactions.legal;
    })

pub check-requires-clause-started : goal.check-requires-clause-started
check-requires-clause-started c =
    let f = c.self.inside in
    let core = core_of f.kind f.leaves f.manager f.passes.items f.selected f.served in
    let start = start_of (current core).start (rw (← c.self.view_is) at c.requires.current) in
    let here = lent_state f.passes.items f.selected c.index.result.now c.self.invariant.chosen c.index.ensures in
    let r = c.reader_of-reader in
    reader_started core f.manager f.rows c.self.invariant r.result start.0 start.1 (record {
      manager = r.ensures.manager;
      start_is = some_nat r.result.start start.0 (sym r.ensures.start ∙ ap (λ s. s.start) (sym here) ∙ start.1);
      by = r.ensures.by ∙ (λ i. record { job = f.selected; number = (sym here i).begun });
    })

pub check-requires-clause-is_open : goal.check-requires-clause-is_open
check-requires-clause-is_open c =
    let f = c.self.inside in
    let here = lent_state f.passes.items f.selected c.index.result.now c.self.invariant.chosen c.index.ensures in
    let r = c.reader_of-reader.ensures in
    rw (r.manager, r.by ∙ (λ i. record { job = f.selected; number = (sym here i).begun }))
    (is_open_here f.kind f.leaves f.manager f.passes.items f.selected f.served f.rows c.self.invariant (rw (← c.self.view_is) at c.requires.current))

pub returns-in-Err-clause-places : goal.returns-in-Err-clause-places
returns-in-Err-clause-places c =
    let f = c.self.inside in
    let core = core_of f.kind f.leaves f.manager f.passes.items f.selected f.served in
    let start = start_of (current core).start (rw (← c.self.view_is) at c.requires.current) in
    let here = lent_state f.passes.items f.selected c.index.result.now c.self.invariant.chosen c.index.ensures in
    let r = c.reader_of-reader in
    let reader : IsReader core f.manager f.rows c.self.invariant r.result start.0 = record {
      manager = r.ensures.manager;
      start_is = some_nat r.result.start start.0 (sym r.ensures.start ∙ ap (λ s. s.start) (sym here) ∙ start.1);
      by = r.ensures.by ∙ (λ i. record { job = f.selected; number = (sym here i).begun });
    } in
    rw (← c.self.view_is) (
      free_bound f.manager,
      is_free_bound core f.manager c.self.invariant.tied c.is_managed.ensures,
      refused_places f.kind f.leaves f.manager f.passes.items f.selected f.served f.rows c.self.invariant r.result start.0 start.1 reader c.args.write c.check.result c.check.ensures c.in-Err.refusal c.in-Err.is _ _ _ _,
    )

pub returns-clause-places : goal.returns-clause-places
returns-clause-places c =
    let f = c.self.inside in
    let core = core_of f.kind f.leaves f.manager f.passes.items f.selected f.served in
    rw (← c.self.view_is) (free_bound f.manager, is_free_bound core f.manager c.self.invariant.tied c.is_managed.ensures, rw (c.free_bound-until.ensures, (rw (← c.self.view_is) at c.requires.rows)) at c.put.ensures.places)
