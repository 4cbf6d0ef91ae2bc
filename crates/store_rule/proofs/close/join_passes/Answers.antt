use Rattle.std.proofs.Common.{◌≡◌, ◌∙◌, inl, inr, ◌∷◌, ◌+◌, [], ap, arith, length, length-append, subst, sym}
use Rattle.std.specs.Prelude.{slice_get}
use Rattle.latch_table.specs.Opening.{IsBack}
use Rattle.store_rule.specs.Closing.{HasJoined}
use Rattle.store_rule.proofs.CloseLemmas.{get_end, get_front, joined_one, same_or_above}
use Rattle.store_rule.proofs.close.join_passes.Goals as goal

pub merge-requires-clause-pass : goal.merge-requires-clause-pass
merge-requires-clause-pass c =
    let new = c.pop.new.self.items in
    let pass = c.in-Some.pass in
    let there = c.passes.invariant.0 (length new) pass
    (ap (λ l. slice_get l (length new)) c.in-Some.ensures.items ∙ get_end new pass) in
    let back = c.requires.passes (length new) pass there in
    rw c.cells-cells.ensures back.latch.of

pub merge-requires-clause-idle : goal.merge-requires-clause-idle
merge-requires-clause-idle c =
    let new = c.pop.new.self.items in
    let pass = c.in-Some.pass in
    let there = c.passes.invariant.0 (length new) pass
    (ap (λ l. slice_get l (length new)) c.in-Some.ensures.items ∙ get_end new pass) in
    (c.requires.passes (length new) pass there).latch.none

pub join-requires-clause-other : goal.join-requires-clause-other
join-requires-clause-other c =
    let new = c.pop.new.self.items in
    let pass = c.in-Some.pass in
    let there = c.passes.invariant.0 (length new) pass
    (ap (λ l. slice_get l (length new)) c.in-Some.ensures.items ∙ get_end new pass) in
    let back = c.requires.passes (length new) pass there in
    (back.account, back.slots)

pub join-requires-clause-readers : goal.join-requires-clause-readers
join-requires-clause-readers c =
    let new = c.pop.new.self.items in
    let pass = c.in-Some.pass in
    let there = c.passes.invariant.0 (length new) pass
    (ap (λ l. slice_get l (length new)) c.in-Some.ensures.items ∙ get_end new pass) in
    (c.requires.passes (length new) pass there).readers

pub passes-preserved : goal.passes-preserved
passes-preserved c =
    let room = c.args.latches.now.table.shared.key in
    let latches = c.args.latches.now.table.shared.table_id in
    let accounts = c.args.accounts.now.table.shared.table_id in
    let list = c.args.list.items in
    let old = c.passes.list.items in
    let new = c.pop.new.self.items in
    let m = length new in
    let pass = c.in-Some.pass in
    let items = c.in-Some.ensures.items in
    let so_far = c.passes.invariant in
    let there = so_far.0 m pass (ap (λ l. slice_get l m) items ∙ get_end new pass) in
    let back = c.requires.passes m pass there in
    let bound = so_far.1 in
    let one_less = ap length items ∙ length-append new (pass ∷ []) in
    let last : length old ≡ m + 1 = omega (arith, one_less) in
    let both = c.join.ensures.both in (
      (λ p one e. so_far.0 p one (ap (λ l. slice_get l p) items ∙ get_front new (pass ∷ []) one p e)),
      omega (arith, last, bound),
      c.merge.ensures.table ∙ so_far.2,
      (λ p least less. elim (same_or_above p m least) as (λ _. IsBack c.merge.new.all.me.0 p) [
        | inl same ↦ subst (IsBack c.merge.new.all.me.0) (back.same ∙ sym same) c.merge.ensures.back
        | inr more ↦ c.merge.ensures.others p (so_far.3 p (omega (arith, more, last)) less)
      ]),
      record {
        table_is = both.table ∙ so_far.4.table_is;
        slots = ap (λ x. x.1) both.me ∙ so_far.4.slots;
        readers = (λ i. ((both.me i).0).readers) ∙ so_far.4.readers;
      },
      subst (λ x. HasJoined list m x.0) (sym both.me)
          (joined_one room latches accounts list (length old) m pass c.passes.account.me.0 last there back so_far.5),
    )
