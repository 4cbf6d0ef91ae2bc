use Rattle.std.proofs.Common.{◌∙◌, ◌++◌, ◌∷◌, [], ap, refl}
use Rattle.seat_views.specs.Keeping.{kept_at}
use Rattle.store_words.specs.Notes.{without_index, without_journal}
use Rattle.store_rule.proofs.MakeLemmas.{all_slots, still_dealing}
use Rattle.store_rule.proofs.make.lay_slots.Goals as goal

pub push_index-requires-clause-kept : goal.push_index-requires-clause-kept
push_index-requires-clause-kept c = c.in_ok-push_cells.ensures.seat.index ∙ c.requires.parts.index

pub push_journal-requires-clause-kept : goal.push_journal-requires-clause-kept
push_journal-requires-clause-kept c =
    let j = c.requires.parts.journal in (
      j.0,
      (λ i. kept_at ((c.in_ok-push_index.ensures.seat.me i).0).journals 0)
          ∙ c.in_ok-push_cells.ensures.seat.journal ∙ j.1,
      j.2,
    )

pub returns-clause-seat : goal.returns-clause-seat
returns-clause-seat c =
    let table = c.args.accounts.now.table.shared.table_id in
    let v = c.args.seat.now.me.0 in
    let n = c.args.accounts.now.config.passes in
    let cells = c.push_cells.new.seat in
    let index = c.push_index.new.seat in
    still_dealing table v n index c.push_journal.new.seat (without_journal index.me.0)
    (still_dealing table v n cells index (without_index cells.me.0) c.in_ok-push_cells.ensures.seat.dealing
    c.in_ok-push_index.ensures.seat refl refl refl)
    c.in_ok-push_journal.ensures.seat refl refl refl

pub returns-clause-slots : goal.returns-clause-slots
returns-clause-slots c =
    let i = c.in_ok-push_index.ensures.pushed in
    let j = c.in_ok-push_journal.ensures.pushed in
    all_slots c.args.accounts.now.config c.args.accounts.now.table.shared.table_id c.push_cells.new.slots.items i.0 j.0
    c.push_journal.new.slots.items c.in_ok-push_cells.ensures.count c.in_ok-push_cells.ensures.cells i.2 j.2
    (j.1 ∙ ap (λ l. l ++ j.0 ∷ []) i.1)
