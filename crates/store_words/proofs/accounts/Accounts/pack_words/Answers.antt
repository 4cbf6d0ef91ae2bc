use Rattle.std.proofs.Common.{◌∙◌, ap, arith, subst, sym}
use Rattle.rule_model.specs.Sight.{HasCell, Sight}
use Rattle.store_words.specs.Spelling.{IsPackedAgain}
use Rattle.store_words.proofs.SpellLemmas.{packs_same, packs_spelled, spells_all}
use Rattle.store_words.proofs.accounts.Accounts.pack_words.Goals as goal

pub lower-requires-clause-held : goal.lower-requires-clause-held
lower-requires-clause-held c =
    let view = ap (λ m. m.0) c.holder_load-found.ensures.same.me in
    let held = c.requires.held in
    let has = subst (λ (v : Sight). HasCell v c.args.cell held.0) (sym view) held.1 in
    let is = c.spell.ensures.spelled held.0 has in (
      is.cell,
      is.has,
      is.unpacked,
      is.changed (omega arith),
      spells_all c.args.cell c.holder_load-found.new.seat.me.0 held.0 c.args.low c.args.high c.args.rows.now
          c.spell.new.seat.me.0 (c.requires.words held.0 held.1) is,
    )

pub returns-then-found-clause-stays : goal.returns-then-found-clause-stays
returns-then-found-clause-stays c =
    let same = c.holder_load-found.ensures.same in
    let held = c.requires.held in
    let has = subst (λ (v : Sight). HasCell v c.args.cell held.0) (sym (ap (λ m. m.0) same.me)) held.1 in
    let is = c.spell.ensures.spelled held.0 has in
    let lowered = c.lower.ensures.packed is.cell is.has in
    let stays = c.spell.ensures.stays in
    record {
      table = lowered.table ∙ stays.table ∙ same.table;
      slots = ap (λ m. m.1) lowered.me ∙ stays.slots ∙ ap (λ m. m.1) same.me;
    }

pub returns-then-found-clause-packed : goal.returns-then-found-clause-packed
returns-then-found-clause-packed c d had =
    let view = ap (λ m. m.0) c.holder_load-found.ensures.same.me in
    let has = subst (λ (v : Sight). HasCell v c.args.cell d) (sym view) had in
    let is = c.spell.ensures.spelled d has in
    let lowered = c.lower.ensures.packed is.cell is.has in
    subst (λ (u : Sight). IsPackedAgain c.args.cell u d c.lower.new.seat.me.0) view
    (packs_spelled c.args.cell c.holder_load-found.new.seat.me.0 d c.args.low c.args.high c.args.rows.now _
    c.spell.new.seat.me.0 c.lower.new.seat.me.0 is (ap (λ m. m.0) lowered.me))

pub returns-else-found-clause-packed : goal.returns-else-found-clause-packed
returns-else-found-clause-packed c d had =
    let view = ap (λ m. m.0) c.holder_load-found.ensures.same.me in
    let has = subst (λ (v : Sight). HasCell v c.args.cell d) (sym view) had in
    let lowered = c.lower-else-found.ensures.packed d has in
    subst (λ (u : Sight). IsPackedAgain c.args.cell u d c.lower-else-found.new.seat.me.0) view
    (packs_same c.args.cell c.holder_load-found.new.seat.me.0 d c.lower-else-found.new.seat.me.0
    (ap (λ m. m.0) lowered.me))
