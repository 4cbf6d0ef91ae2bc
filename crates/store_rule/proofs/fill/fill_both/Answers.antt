use Rattle.std.proofs.Common.{◌≡◌, ◌∙◌, ◌≤◌, ℕ, List, [], ap, length, map, refl, subst, sym}
use Rattle.std.specs.List.{AllByRecursion}
use Rattle.txn_manager.specs.declared.config.Config.{Config}
use Rattle.loaded_cells.specs.RuleModel.EndSteps.{loaded_known}
use Rattle.loaded_cells.specs.RuleModel.Sight.{Sight}
use Rattle.loaded_cells.specs.VersionSegment.Resting.{settled_rest}
use Rattle.store_words.specs.Opening.{Begin}
use Rattle.loaded_cells.specs.Numbered.{cell_of, loaded_sight}
use Rattle.loaded_cells.specs.Ranges.{loaded_segments}
use Rattle.loaded_cells.proofs.BeginLemmas.{load_begins, loaded_count}
use Rattle.loaded_cells.proofs.CountLemmas.{counts_few, counts_rest}
use Rattle.store_rule.specs.Making.{KnowsParts}
use Rattle.store_rule.specs.declared.make.Parts.{Parts}
use Rattle.store_rule.proofs.FillLemmas.{load_parts, words_count}
use Rattle.store_rule.proofs.MakeLemmas.{dealt_is, first_lays}
use Rattle.store_rule.proofs.fill.fill_both.Goals as goal

pub open_at-requires-clause-count : goal.open_at-requires-clause-count
open_at-requires-clause-count c =
    let laid = c.args.laid in
    let h = c.requires.laid in
    ap length (c.as_slice.ensures.value ∙ h.words)
    ∙ words_count laid.config h.rows laid.index h.ranges h.divided h.are.small

pub open_at-requires-clause-begins : goal.open_at-requires-clause-begins
open_at-requires-clause-begins c =
    let laid = c.args.laid in
    let h = c.requires.laid in
    subst (λ (x : List ℕ × Sight). Begin laid.config x.0 x.1)
    (λ i. (sym (c.as_slice.ensures.value ∙ h.words) i, sym (ap (λ m. m.0) h.first) i))
    (λ heap. load_begins laid.config heap laid.load h.rows 0 laid.index h.ranges c.requires.sized h.are h.divided)

pub rest_cells-requires : goal.rest_cells-requires
rest_cells-requires c =
    let h = c.requires.laid in
    let are = sym (c.as_slice-2.ensures.value ∙ h.counts) in
    record { few = subst (AllByRecursion (λ count. count ≤ 32)) are (counts_few h.ranges) }

pub deal_out-requires-clause-seat : goal.deal_out-requires-clause-seat
deal_out-requires-clause-seat c =
    let laid = c.args.laid in
    let h = c.requires.laid in
    let accounts = c.in_ok-accounts.accounts in
    let seat = c.in_ok-accounts.seat in
    let ss = loaded_segments h.ranges in
    first_lays accounts.config (loaded_known laid.load 0 laid.index (cell_of ss)) seat
    (c.in_ok-accounts.ensures.seat ∙ (λ i. ((h.first i).0, []))
    ∙ (λ i. (loaded_sight (sym c.in_ok-accounts.ensures.config i) laid.load 0 laid.index ss, [])))
    accounts.table.shared.table_id c.in_ok-accounts.ensures.table (λ n. refl)

pub deal_out-requires-clause-parts : goal.deal_out-requires-clause-parts
deal_out-requires-clause-parts c =
    let laid = c.args.laid in
    let h = c.requires.laid in
    let seat = c.in_ok-accounts.seat in
    let resting = c.in_ok-resting.resting in
    let parts : Parts = record {
      resting = resting;
      index = laid.index;
      journal = c.in_ok-journal.journal;
    } in
    subst (λ (z : Config). KnowsParts z seat.me.0 parts) (sym c.in_ok-accounts.ensures.config)
    (load_parts laid.config seat parts laid.load laid.index (loaded_segments h.ranges)
    (c.in_ok-accounts.ensures.seat ∙ (λ i. ((h.first i).0, []))) refl c.in_ok-journal.ensures
    (counts_rest h.ranges c.args.laid.counts.items resting.items h.counts
    (c.in_ok-resting.ensures ∙ ap (map settled_rest) c.as_slice-2.ensures.value))
    (loaded_count laid.config.leaves h.rows laid.index h.ranges h.divided))

pub returns-clause-passes : goal.returns-clause-passes
returns-clause-passes c =
    let laid = c.args.laid in
    let h = c.requires.laid in
    let z = laid.config in
    let made = c.in_ok-made.made in
    let room = made.0.latches.table.shared.key in
    let are = c.in_ok-made.ensures.passes in
    let same : room.config.passes ≡ z.passes = ap (λ (x : Config). x.passes)
    (made.0.same.0 ∙ c.in_ok-made.ensures.config ∙ c.in_ok-accounts.ensures.config) in
    record {
      count = are.count;
      each = dealt_is z (loaded_known laid.load 0 laid.index (cell_of (loaded_segments h.ranges)))
          c.in_ok-accounts.seat (c.in_ok-accounts.ensures.seat ∙ (λ i. ((h.first i).0, [])))
          room made.0.latches.table.shared.table_id made.0.accounts.table.shared.table_id made.1.list.items same are;
    }
