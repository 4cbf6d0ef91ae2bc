-- A holder's steps, whatever it knows of the cell.
use Rattle.std.proofs.Common.{◌≡◌, ℕ, sym, ◌∙◌, ap, subst}
use Rattle.std.specs.Prelude.{Option, Some, None}
use Rattle.std.specs.declared.alloc.Global.{Global}
use Rattle.atomic_table.specs.declared.shared.Seat.{Seat}
use Rattle.txn_manager.specs.declared.config.Config.{Config}
use Rattle.seat_views.specs.Keeping.{kept_at}
use Rattle.seat_views.proofs.NumberLemmas.{some_is}
use Rattle.rule_model.specs.CellsModel.Cells.{CellState}
use Rattle.rule_model.specs.Places.{lines}
use Rattle.rule_model.specs.Sight.{HasCell, Sight, with_cell}
use Rattle.rule_model.specs.Steps.{AllowsStore, AllowsStoreTelling}
use Rattle.rule_model.proofs.FrameLemmas.{M}
use Rattle.store_words.specs.Steps.{Knows}

-- what a seat knows after a step on a cell, if it kept the cell
abbrev pub cell_stepped : (CellState → CellState) → Sight → ℕ → Option CellState → Sight
cell_stepped f v k None = v
cell_stepped f v k (Some c) = with_cell v k (f c)

-- a step that tells nothing
pub tells_nothing : (z : Config) (heap : Global) (slots id : ℕ) (me : M) (i word : ℕ) (then : Sight)
    → AllowsStore z (lines z.passes) heap slots id me i word then
    → AllowsStoreTelling z (lines z.passes) heap slots id me i word then (Unit {0})
tells_nothing z heap slots id me i word then law s r homes here small =
    let x = law s r homes here small in (x.0, x.1, x.2, x.3, (x.4, tt))

-- the place, the word and the cell may be said otherwise
pub store_cell : (z : Config) (heap : Global) (slots id : ℕ) (me : M) (k : ℕ) (f : CellState → CellState)
    (told : CellState → Type 0) (c : CellState) → HasCell me.0 k c
    → (i j w x : ℕ) → i ≡ j → w ≡ x
    → AllowsStoreTelling z (lines z.passes) heap slots id me i w (with_cell me.0 k (f c)) (told c)
    → AllowsStoreTelling z (lines z.passes) heap slots id me j x
    (cell_stepped f me.0 k (kept_at me.0.cells k)) ((d : CellState) → HasCell me.0 k d → told d)
store_cell z heap slots id me k f told c has i j w x places words law =
    subst (λ (p : ℕ × ℕ). AllowsStoreTelling z (lines z.passes) heap slots id me p.0 p.1
    (cell_stepped f me.0 k (kept_at me.0.cells k)) ((d : CellState) → HasCell me.0 k d → told d))
    (λ t. (places t, words t)) (λ s r homes here small. let y = law s r homes here small in (
      y.0,
      y.1,
      y.2,
      y.3,
      (
        y.4.0 ∙ (λ t. (cell_stepped f me.0 k (sym has t), me.1)),
        λ d had. subst told (some_is c d (sym has ∙ had)) y.4.1,
      ),
    ))

-- so the seat knows the cell after the step
pub knows_cell : (old new : Seat (Unit {0}) Sight) (k : ℕ) (f : CellState → CellState) (c : CellState)
    → HasCell old.me.0 k c → Knows old new (cell_stepped f old.me.0 k (kept_at old.me.0.cells k))
    → Knows old new (with_cell old.me.0 k (f c))
knows_cell old new k f c has knows =
    subst (Knows old new) (ap (cell_stepped f old.me.0 k) has) knows

-- a step after one that changed nothing
pub knows_after : (old mid new : Seat (Unit {0}) Sight) (then : Sight → Sight) → Knows old mid old.me.0
    → Knows mid new (then mid.me.0) → Knows old new (then old.me.0)
knows_after old mid new then same knows = record {
  table = knows.table ∙ same.table;
  me = knows.me ∙ (λ t. (then (same.me t).0, (same.me t).1));
}
