use Rattle.std.proofs.Common.{◌≡◌, ◌∙◌, ap, arith, length, refl, subst, sym}
use Rattle.seat_views.specs.Keeping.{kept_at}
use Rattle.loaded_cells.specs.RuleModel.Sight.{HasJournal, Sight, cells_of}
use Rattle.store_rule.specs.Closed.{AreAtRest, AreSpelled, known_segments}
use Rattle.store_rule.specs.Closing.{AreCells, HasJoined, IsContent}
use Rattle.store_rule.specs.Slots.{IsListOf}
use Rattle.store_rule.proofs.CloseLemmas.{all_at_rest, all_back, all_below, all_spelled, known_cells, known_length}
use Rattle.store_rule.proofs.store.Store.take_apart.Goals as goal

pub take_in_journal-journal-requires-clause-slot : goal.take_in_journal-journal-requires-clause-slot
take_in_journal-journal-requires-clause-slot c =
    let store = c.args.self in
    let all = all_below store c.close.new.values.items c.close.ensures.count c.close.ensures.fits in
    (c.pop_slot.ensures store.accounts.config store.accounts.table.shared.table_id _ all).0.journal refl

pub pop_slot-requires-2 : goal.pop_slot-requires-2
pop_slot-requires-2 c =
    let store = c.args.self in
    let all = all_below store c.close.new.values.items c.close.ensures.count c.close.ensures.fits in
    let count = (c.pop_slot.ensures store.accounts.config store.accounts.table.shared.table_id _ all).1.count_is in
    omega (arith, count)

pub take_in_index-index-requires-clause-slot : goal.take_in_index-index-requires-clause-slot
take_in_index-index-requires-clause-slot c =
    let store = c.args.self in
    let all = all_below store c.close.new.values.items c.close.ensures.count c.close.ensures.fits in
    let z = store.accounts.config in
    let table = store.accounts.table.shared.table_id in
    (c.pop_slot-2.ensures z table _ (c.pop_slot.ensures z table _ all).1).0.index refl

pub take_cells-requires-clause-slots : goal.take_cells-requires-clause-slots
take_cells-requires-clause-slots c =
    let store = c.args.self in
    let all = all_below store c.close.new.values.items c.close.ensures.count c.close.ensures.fits in
    let z = store.accounts.config in
    let table = store.accounts.table.shared.table_id in
    (c.pop_slot-2.ensures z table _ (c.pop_slot.ensures z table _ all).1).1

pub new-cells-requires-clause-table : goal.new-cells-requires-clause-table
new-cells-requires-clause-table c = c.look_last.ensures.same.table ∙ c.take_cells.ensures.account.table_is

pub new-cells-requires-clause-resting : goal.new-cells-requires-clause-resting
new-cells-requires-clause-resting c =
    subst (λ (v : Sight). AreAtRest v c.take_cells.new.cells.items) (sym (ap (λ m. m.0) c.look_last.ensures.same.me))
    (all_at_rest c.take_cells.new.account.me.0 c.take_cells.new.cells.items c.take_cells.ensures.cells)

pub new-cells-requires-clause-spelled : goal.new-cells-requires-clause-spelled
new-cells-requires-clause-spelled c =
    let z = c.args.self.accounts.config in
    let list = c.args.passes.list.items in
    let sight = c.take_cells.new.account.me.0 in
    let cells = c.take_cells.new.cells.items in
    let journal = c.take_in_journal-journal.ensures in
    let j = journal.0 in
    let index = c.take_in_index-index.ensures in
    let others = c.take_cells.ensures.others in
    let joined = c.join_passes.ensures.joined in
    let has_journal : HasJournal sight j =
    (λ i. kept_at (others.journals i) 0) ∙ (λ i. kept_at ((index.1.me i).0).journals 0)
    ∙ (λ i. kept_at ((journal.1.me i).0).journals 0) in
    let has_passes : HasJoined list 0 sight = λ p pass least there.
    (λ i. kept_at (others.passes i) p) ∙ (λ i. kept_at ((index.1.me i).0).passes p)
    ∙ (λ i. kept_at ((journal.1.me i).0).passes p) ∙ joined p pass least there in
    subst (λ (v : Sight). AreSpelled v (cells_of z)) (sym (ap (λ m. m.0) c.look_last.ensures.same.me))
    (all_spelled z sight j cells
    (c.look_last.ensures.last j (all_back z list sight j has_journal has_passes c.requires.passes.count
    c.requires.passes.each)) (all_at_rest sight cells c.take_cells.ensures.cells) c.take_cells.ensures.count)

pub returns : goal.returns
returns c =
    let z = c.args.self.accounts.config in
    let list = c.args.passes.list.items in
    let sight = c.take_cells.new.account.me.0 in
    let cells = c.take_cells.new.cells.items in
    let known : c.new-cells.result ≡ known_segments sight (cells_of z) =
    c.new-cells.ensures ∙ ap (λ m. known_segments m.0 (cells_of z)) c.look_last.ensures.same.me in
    let journal = c.take_in_journal-journal.ensures in
    let j = journal.0 in
    let index = c.take_in_index-index.ensures in
    let others = c.take_cells.ensures.others in
    let joined = c.join_passes.ensures.joined in
    let has_journal : HasJournal sight j =
    (λ i. kept_at (others.journals i) 0) ∙ (λ i. kept_at ((index.1.me i).0).journals 0)
    ∙ (λ i. kept_at ((journal.1.me i).0).journals 0) in
    let has_passes : HasJoined list 0 sight = λ p pass least there.
    (λ i. kept_at (others.passes i) p) ∙ (λ i. kept_at ((index.1.me i).0).passes p)
    ∙ (λ i. kept_at ((journal.1.me i).0).passes p) ∙ joined p pass least there in
    let store = c.look_last.ensures.last j
    (all_back z list sight j has_journal has_passes c.requires.passes.count c.requires.passes.each) in
    let content : IsContent z list (record {
      cells = c.new-cells.result;
      index = c.take_in_index-index.result;
      journal = c.into_inner-journal.result;
    }) = record {
      sight = sight;
      state = j;
      last = store.last;
      passes = has_passes;
      journal = subst (IsListOf j) (sym c.into_inner-journal.ensures) journal.2;
      count = ap length known ∙ known_length sight (cells_of z);
      cells = subst (AreCells sight) (sym known) (subst (λ n. AreCells sight (known_segments sight n))
          c.take_cells.ensures.count (known_cells sight cells (all_at_rest sight cells c.take_cells.ensures.cells)));
      index = (index.0, (λ i. kept_at (others.indexes i) 0) ∙ (λ i. kept_at ((index.1.me i).0).indexes 0), index.3);
    } in
    record { content_is = content; store = store }
