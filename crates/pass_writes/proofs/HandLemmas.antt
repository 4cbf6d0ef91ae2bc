-- A pass that takes cells in hand and puts them back, and one that steps meanwhile.
use Rattle.std.proofs.Common.{◌≡◌, ℕ, ◌+◌, ◌<◌, List, [], ◌∷◌, length, refl, sym, ◌∙◌, ap, subst, arith}
use Rattle.std.specs.Prelude.{false, true, Some, unwrap_or}
use Rattle.txn_manager.specs.declared.config.Config.{Config}
use Rattle.graph_model.specs.Legal.{IsLegal}
use Rattle.seat_views.specs.Keeping.{kept_at}
use Rattle.pass_prunes.specs.StoreRelation.Passes.{PassState, fresh_pass}
use Rattle.pass_prunes.specs.CellsModel.Cells.{CellState}
use Rattle.pass_prunes.specs.RuleModel.Sight.{PinState, Sight, fresh_pin}
use Rattle.pass_prunes.specs.StoreRuleDeclared.store.Pass.{Pass}
use Rattle.pass_prunes.specs.StoreRuleDeclared.store.Store.{Store}
use Rattle.pass_prunes.specs.PassCellsDeclared.taken.TakenCell.{TakenCell}
use Rattle.pass_prunes.specs.PassCells.Holding.{AreKnown, HasTaken, Holds, IsKnown, IsLatchOf, KeepsPass}
use Rattle.pass_prunes.specs.PassSteps.Passes.{HoldsNone, IsOwnSight, IsPassOf, pin_of, state_of}
use Rattle.pass_prunes.proofs.PassSteps.SightLemmas.{kept_here}
use Rattle.pass_writes.specs.Hand.{HasInHand, HasNothing, KeepsState}

-- ---- taken, and put back

-- nothing in hand, in the words of cells
pub taken_none : (store : Store) (pass : Pass) → IsPassOf store pass → HoldsNone pass → HasTaken store pass []
taken_none store pass of none = record {
  latch = of.latch;
  out = none.latches;
  table = of.table;
  known = tt;
  only = λ k c has. absurd (no_cell k c (sym (λ i. kept_at (none.contents.cells i) k) ∙ has));
  apart = tt;
  few = omega arith;
  buffers = let room = none.buffers in omega (arith, room);
  no_index = none.contents.indexes;
}
  where
    no_cell : (k : ℕ) (c : CellState) → ◌≡◌ {A = _} (kept_at [] k) (Some c) → ⊥
    no_cell k c e = cc

module _ (store : Store) (old new : Pass) (kept : KeepsPass old new) where
  state_kept : state_of new ≡ state_of old
  state_kept i = unwrap_or (kept_at (kept.passes i) (kept.number i)) fresh_pass

  pin_kept : pin_of new ≡ pin_of old
  pin_kept i = unwrap_or (kept_at (kept.pins i) (kept.number i)) fresh_pin

  pub keeps_state : KeepsState old new
  keeps_state = record {
    same = record { number = kept.number; reads = kept.reads };
    state = state_kept;
    pin = pin_kept;
  }

  own_kept : IsOwnSight old.number old.account.me.0 → IsOwnSight new.number new.account.me.0
  own_kept own = record {
    has = subst (λ (x : ℕ × List (ℕ × PassState)). kept_at x.1 x.0 ≡ Some (unwrap_or (kept_at x.1 x.0) fresh_pass))
        (λ i. (sym kept.number i, sym kept.passes i)) own.has;
    pin = subst (λ (x : ℕ × List (ℕ × PinState)). kept_at x.1 x.0 ≡ Some (unwrap_or (kept_at x.1 x.0) fresh_pin))
        (λ i. (sym kept.number i, sym kept.pins i)) own.pin;
    only = λ q other. (λ i. kept_at (kept.passes i) q) ∙ own.only q (λ e. other (e ∙ sym kept.number));
    told = kept.told ∙ own.told;
    readers = kept.readers ∙ own.readers;
  }

  pub pass_kept : IsPassOf store old → IsLatchOf store new.latch
      → new.account.table_id ≡ store.accounts.table.shared.table_id → IsPassOf store new
  pass_kept of latch table = record {
    inside = subst (λ n. n < store.accounts.config.passes) (sym kept.number) of.inside;
    latch = latch;
    same = kept.latch ∙ of.same ∙ sym kept.number;
    table = table;
    slots = kept.slots ∙ of.slots;
    sight = own_kept of.sight;
    legal = subst (λ (st : PassState). IsLegal store.accounts.config.kind st.seen) (sym state_kept) of.legal;
  }

  -- TAKEN
  pub takes : (ts : List TakenCell) → IsPassOf store old → HoldsNone old → Holds store new ts → HasInHand store new ts
  takes ts of none holds = record {
    of = pass_kept of holds.taken.latch holds.taken.table;
    holds = holds;
    journals = kept.journals ∙ none.contents.journals;
  }

  -- PUT BACK
  pub puts_back : (ts us : List TakenCell) → HasInHand store old ts → HasTaken store new [] → us ≡ []
      → HasNothing store new us
  puts_back ts us hand taken none = record {
    of = pass_kept hand.of taken.latch taken.table;
    none = record {
      latches = taken.out;
      buffers = let room = taken.buffers in omega (arith, room);
      contents = record {
        cells = no_cells new.account.me.0.cells (λ k c has. true_false (taken.only k c has));
        indexes = taken.no_index;
        journals = kept.journals ∙ hand.journals;
      };
    };
    cells = none;
  }
    where
      true_false : false ≡ true → ⊥
      true_false e = cc

      no_cells : (es : List (ℕ × CellState)) → ((k : ℕ) (c : CellState) → kept_at es k ≡ Some c → ⊥) → es ≡ []
      no_cells [] f = refl
      no_cells (e ∷ es) f = absurd (f e.0 e.1 (kept_here es e.0 e.1))

-- ---- a step meanwhile

-- what is known of cells stays where the view has the same
pub known_same : (z : Config) (v w : Sight) → w.cells ≡ v.cells → (ts : List TakenCell) → AreKnown z v ts → AreKnown z w ts
known_same z v w same [] known = tt
known_same z v w same (t ∷ ts) known = (one known.0, known_same z v w same ts known.1)
  where
    one : IsKnown z v t → IsKnown z w t
    one h = record {
      state = h.state;
      has = (λ i. kept_at (same i) t.held.cell) ∙ h.has;
      inside = h.inside;
      unpacked = h.unpacked;
      wide = h.wide;
      same = h.same;
      sound = h.sound;
      small = h.small;
      untouched = h.untouched;
      count = h.count;
    }

-- STEPPED: a pass that has stepped, and has the same cells
pub stays_in_hand : (store : Store) (old new : Pass) (ts : List TakenCell) → HasInHand store old ts
    → IsPassOf store new → new.latch ≡ old.latch → new.buffers ≡ old.buffers
    → new.account.me.0.cells ≡ old.account.me.0.cells → new.account.me.0.indexes ≡ old.account.me.0.indexes
    → new.account.me.0.journals ≡ old.account.me.0.journals → HasInHand store new ts
stays_in_hand store old new ts hand of latch room cells indexes journals = record {
  of = of;
  holds = record {
    taken = record {
      latch = of.latch;
      out = (λ i. (latch i).me.1) ∙ hand.holds.taken.out;
      table = of.table;
      known = known_same store.accounts.config old.account.me.0 new.account.me.0 cells ts hand.holds.taken.known;
      only = λ k c has. hand.holds.taken.only k c ((λ i. kept_at (sym cells i) k) ∙ has);
      apart = hand.holds.taken.apart;
      few = hand.holds.taken.few;
      buffers = ap (λ n. n + length ts) room ∙ hand.holds.taken.buffers;
      no_index = indexes ∙ hand.holds.taken.no_index;
    };
    rising = hand.holds.rising;
  };
  journals = journals ∙ hand.journals;
}
