use Rattle.std.proofs.Common.{◌≡◌, ◌∙◌, ◌∷◌, ◌<◌, ap, arith, refl, sym, subst}
use Rattle.std.specs.Prelude.{false}
use Rattle.graph_model.specs.Rows.{first_key, is_below}
use Rattle.store_rule.specs.RuleModel.Sight.{cells_of}
use Rattle.store_rule.specs.declared.slot.StoreSlot.TheVariants as slots
use Rattle.store_rule.specs.declared.store.Pass.{Pass}
use Rattle.pass_cells.specs.declared.taken.TakenCell.{TakenCell}
use Rattle.pass_cells.specs.Holding.{HasTaken, Holds}
use Rattle.pass_cells.specs.Taken.{is_taken}
use Rattle.pass_cells.proofs.TakeLemmas.{from_more, has_more}
use Rattle.pass_cells.proofs.own.PassCells.take_next.Goals as goal

pub gather-held-requires-clause-buffer : goal.gather-held-requires-clause-buffer
gather-held-requires-clause-buffer g c =
    let room = c.requires.holds.taken.buffers in
    let few = c.requires.few in omega (arith, room, few)

pub returns-clause-taken : goal.returns-clause-taken
returns-clause-taken g c =
    let store = c.args.store.now in
    let old = c.args.pass.now in
    let ts = c.args.self.now.taken.list.items in
    let t : TakenCell = record { held = c.gather-held.result; rows = c.len-rows.result; words_changed = false } in
    let mid : Pass = record {
      number = old.number;
      latch = c.take_next_place.new.latch;
      account = old.account;
      buffers = old.buffers;
    } in
    let got = c.in-Some.ensures.held in
    let number : t.held.cell ≡ c.args.cell = c.gather-held.ensures.held.0 ∙ got.0 in
    let fresh = subst (λ k. is_taken k ts ≡ false) (sym number) (sym c.is_taken.ensures ∙ c.if-is_taken.false) in
    let out = got.3 ∙ ap (λ k. (k, slots.Out) ∷ old.latch.me.1) (sym number) in
    let place = c.index_place.ensures in
    let test = c.if-cell-index_place.false in
    let inside : t.held.cell < cells_of store.accounts.config = omega (arith, number, place, test) in
    let has = has_more store old mid c.gather-held.new.pass ts t c.requires.holds.taken c.requires.few fresh refl refl
    c.take_next_place.ensures.latch out c.gather-held.ensures.gathered inside
    c.len-rows.ensures.sound c.len-rows.ensures.len in
    subst (HasTaken store c.gather-held.new.pass) (sym c.add.ensures.added) has

pub returns-clause-next : goal.returns-clause-next
returns-clause-next g c =
    let store = c.args.store.now in
    let old = c.args.pass.now in
    let ts = c.args.self.now.taken.list.items in
    let t : TakenCell = record { held = c.gather-held.result; rows = c.len-rows.result; words_changed = false } in
    let mid : Pass = record {
      number = old.number;
      latch = c.take_next_place.new.latch;
      account = old.account;
      buffers = old.buffers;
    } in
    let got = c.in-Some.ensures.held in
    let number : t.held.cell ≡ c.args.cell = c.gather-held.ensures.held.0 ∙ got.0 in
    let fresh = subst (λ k. is_taken k ts ≡ false) (sym number) (sym c.is_taken.ensures ∙ c.if-is_taken.false) in
    let out = got.3 ∙ ap (λ k. (k, slots.Out) ∷ old.latch.me.1) (sym number) in
    let place = c.index_place.ensures in
    let test = c.if-cell-index_place.false in
    let inside : t.held.cell < cells_of store.accounts.config = omega (arith, number, place, test) in
    let has = has_more store old mid c.gather-held.new.pass ts t c.requires.holds.taken c.requires.few fresh refl refl
    c.take_next_place.ensures.latch out c.gather-held.ensures.gathered inside
    c.len-rows.ensures.sound c.len-rows.ensures.len in
    λ e. subst (Holds store c.gather-held.new.pass) (sym c.add.ensures.added) (record {
      taken = has;
      rising = from_more t first_key ts c.requires.holds.rising
          (ap (is_below t.held.value.low) (sym c.end-end.ensures) ∙ c.follows-is_next.ensures.next e)
          (c.follows-is_next.ensures.some e);
    })
