use Rattle.std.proofs.Common.{◌≡◌, ◌∙◌, ap, arith, length, subst, sym, Some}
use Rattle.std.specs.Prelude.{slice_get}
use Rattle.loaded_cells.specs.RuleModel.Sight.{Sight}
use Rattle.store_rule.specs.Closed.{AreAtRest, AreSpelled, known_segments}
use Rattle.store_words.specs.Spelling.{CanSpell}
use Rattle.loaded_cells.specs.VersionSegment.Rows.{VersionedRows}
use Rattle.store_rule.proofs.CloseLemmas.{known_at, known_length, known_there}
use Rattle.store_rule.proofs.closed.ClosedCells.load_rows.Goals as goal

pub load_rows-requires-clause-cell : goal.load_rows-requires-clause-cell
load_rows-requires-clause-cell c =
    let inside = c.requires in
    let count = ap length c.self.view_is in
    let many = known_length c.self.inside.account.me.0 c.self.inside.left in
    let bound = c.self.invariant.2 in
    omega (arith, inside, count, many, bound)

pub load_rows-requires-clause-held : goal.load_rows-requires-clause-held
load_rows-requires-clause-held c =
    let v = c.self.inside.account.me.0 in
    let inside = c.requires in
    let count = ap length c.self.view_is in
    let many = known_length v c.self.inside.left in
    let all = c.self.invariant.1 in
    known_there v c.self.inside.resting.items c.args.cell c.self.invariant.3
    (subst (AreSpelled v) (sym all) c.self.invariant.4) (omega (arith, inside, count, many, all))

pub invariant_of-self : goal.invariant_of-self
invariant_of-self c =
    let same = c.load_rows.ensures.same in
    let view = ap (λ x. x.0) same.me in (
      same.table ∙ c.self.invariant.0,
      c.self.invariant.1,
      c.self.invariant.2,
      subst (λ (v : Sight). AreAtRest v c.self.inside.resting.items) (sym view) c.self.invariant.3,
      subst (λ (v : Sight). AreSpelled v c.self.inside.left) (sym view) c.self.invariant.4,
    )

pub returns-clause-kept : goal.returns-clause-kept
returns-clause-kept c =
    ap (λ x. known_segments x.0 c.self.inside.left) c.load_rows.ensures.same.me ∙ c.self.view_is

pub returns-clause-loaded : goal.returns-clause-loaded
returns-clause-loaded c = λ s at.
    let v = c.self.inside.account.me.0 in
    let inside = c.requires in
    let count = ap length c.self.view_is in
    let many = known_length v c.self.inside.left in
    let all = c.self.invariant.1 in
    let there = known_there v c.self.inside.resting.items c.args.cell c.self.invariant.3
    (subst (AreSpelled v) (sym all) c.self.invariant.4) (omega (arith, inside, count, many, all)) in
    subst (λ (x : VersionedRows). CanSpell c.load_rows.result.0 c.load_rows.result.1 c.load_rows.new.rows x)
    (known_at v c.self.inside.left c.args.cell there.0 s there.1 (subst (λ l. slice_get l c.args.cell ≡ Some s)
    (sym c.self.view_is) at))
    (c.load_rows.ensures.loaded there.0 there.1)
