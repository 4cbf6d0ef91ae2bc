use Rattle.std.proofs.Common.{◌≡◌, ◌∙◌, ◌+◌, ◌-◌, ℕ, ap, arith, length, refl, subst, sym}
use Rattle.txn_manager.specs.declared.config.Config.{Config}
use Rattle.loaded_cells.specs.RuleModel.Sight.{fresh_pin}
use Rattle.store_rule.specs.Making.{AreDealtFrom, IsDealing, IsFirstPass}
use Rattle.store_rule.specs.declared.store.Pass.{Pass}
use Rattle.store_rule.proofs.MakeLemmas.{dealt_one, passes_more}
use Rattle.store_rule.proofs.make.deal.Goals as goal

pub passes-init : goal.passes-init
passes-init c =
    let room = c.args.latches.now.table.shared.key in
    let latches = c.args.latches.now.table.shared.table_id in
    let accounts = c.args.accounts.now.table.shared.table_id in
    let n = c.args.accounts.now.config.passes in
    let none = ap length c.in_ok-passes.ensures.items in (
      omega arith,
      refl,
      c.requires.latch.1,
      omega (arith, none),
      λ v dealing. (
        dealing,
        subst (AreDealtFrom room latches accounts v n) (sym c.in_ok-passes.ensures.items) (λ i pass e. cc),
      ),
    )

pub note_pass-requires-clause-table : goal.note_pass-requires-clause-table
note_pass-requires-clause-table c = (c.passes.invariant.4 c.requires.account.0 c.requires.account.1).0.table_is

pub note_pass-requires-clause-pass : goal.note_pass-requires-clause-pass
note_pass-requires-clause-pass c =
    let some = c.passes-test.true in
    let left = (c.passes.invariant.4 c.requires.account.0 c.requires.account.1).0 in
    let h = left.passes (c.passes.number - 1) (omega (arith, some)) in
    (h.0, h.2)

pub note_pass-requires-clause-pin : goal.note_pass-requires-clause-pin
note_pass-requires-clause-pin c =
    let some = c.passes-test.true in
    let left = (c.passes.invariant.4 c.requires.account.0 c.requires.account.1).0 in
    (fresh_pin, left.pins (c.passes.number - 1) (omega (arith, some)))

pub passes-preserved : goal.passes-preserved
passes-preserved c =
    let room = c.args.latches.now.table.shared.key in
    let latches = c.args.latches.now.table.shared.table_id in
    let accounts = c.args.accounts.now.table.shared.table_id in
    let n = c.passes.number in
    let m : ℕ = n - 1 in
    let some = c.passes-test.true in
    let last : n ≡ m + 1 = omega arith in
    let held = c.passes.invariant in
    let bound = held.0 in
    let counted = held.3 in
    let of = rw c.cells-cells.ensures at c.deal.ensures.pass in
    let pass : Pass = record {
      number = m;
      latch = c.deal.result;
      account = c.note_pass.result;
      buffers = c.in_ok-buffers.buffers;
    } in
    let items = c.in_ok-insert.ensures.items in (
      omega arith,
      c.deal.ensures.rest.0 ∙ held.1,
      rw c.cells-cells.ensures at c.deal.ensures.passes,
      (let more = ap length items in omega (arith, more, counted, some)),
      λ v dealing.
          let now = held.4 v dealing in
          let h = now.0.passes m (omega arith) in
          let note = c.note_pass.ensures.note h.0 fresh_pin h.2 (now.0.pins m (omega arith)) in
          let new : IsFirstPass room latches accounts m h.0 pass = record {
            number = refl;
            latch = record { of = of; none = c.deal.ensures.dealt.0 };
            same = c.deal.ensures.dealt.1;
            account = note;
            buffers = c.in_ok-buffers.ensures;
          } in (
            dealt_one accounts v n m c.passes.account c.note_pass.new.seat last now.0 c.note_pass.ensures.left,
            subst (AreDealtFrom room latches accounts v m) (sym items)
                (passes_more room latches accounts v n m pass c.passes.passes.items last h.0 h.1 new now.1),
          ),
    )

pub returns-clause-passes : goal.returns-clause-passes
returns-clause-passes c = λ v dealing.
    let room = c.args.latches.now.table.shared.key in
    let latches = c.args.latches.now.table.shared.table_id in
    let accounts = c.args.accounts.now.table.shared.table_id in
    let dealt = c.passes.invariant in
    let none = c.passes-test.false in
    let counted = dealt.3 in
    let of = ap (λ (z : Config). z.passes) c.requires.room in
    let first : c.passes.number ≡ 0 = omega (arith, none) in
    record {
      count = omega (arith, counted, first, of);
      dealt = subst (λ n. AreDealtFrom room latches accounts v n c.passes.passes.items) first (dealt.4 v dealing).1;
    }

pub returns-clause-account : goal.returns-clause-account
returns-clause-account c =
    let none = c.passes-test.false in
    let first : c.passes.number ≡ 0 = omega (arith, none) in
    let v = c.requires.account.0 in (
      v,
      subst (λ n. IsDealing c.args.accounts.now.table.shared.table_id v n c.passes.account) first
          (c.passes.invariant.4 v c.requires.account.1).0,
    )
