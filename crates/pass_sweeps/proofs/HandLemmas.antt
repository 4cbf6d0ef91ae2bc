-- A pass after a step on its seats: what it knows of itself, of the index in hand and of the cell in hand.
use Rattle.std.proofs.Common.{◌≡◌, ◌≢◌, ℕ, ◌+◌, ◌<◌, ◌≤◌, List, [], ◌∷◌, length, refl, sym, ◌∙◌, ap, subst, arith, Some, None}
use Rattle.std.specs.Prelude.{Bool, true, false, ◌==◌, cond, min, unwrap_or, Option}
use Rattle.std.proofs.lemmas.Bool.Decides.{nat_tests}
use mathlib.Core.List.{IsPrefix}
use Rattle.graph_model.specs.Legal.{IsLegal}
use Rattle.latch_table.specs.Latched.{number_of}
use Rattle.latch_table.specs.Latched.{IsPassOf as IsLatchPass}
use Rattle.seat_views.specs.Keeping.{kept_at, without}
use Rattle.seat_views.proofs.NumberLemmas.{eq_of, same_number}
use Rattle.epoch_reclaim.specs.declared.sweep.Sweep.{Sweep}
use Rattle.epoch_reclaim.specs.Pinned.{least_with}
use Rattle.pass_steps.specs.StoreRelation.Passes.{PassState, fresh_pass}
use Rattle.pass_steps.specs.StoreRelation.Steps.{refreshed}
use Rattle.pass_steps.proofs.StoreRelation.ListLemmas.{prefix_all, prefix_trans}
use Rattle.pass_steps.specs.CellsModel.Cells.{CellState}
use Rattle.pass_steps.specs.RuleModel.Sight.{HasCell, HasIndex, IndexState, PinState, Sight, fresh_pin, with_pin}
use Rattle.pass_steps.specs.StoreRule.Passes.{OnlyAccount}
use Rattle.pass_steps.specs.StoreRuleDeclared.buffers.TheConstants.{MOST_UNPACKED}
use Rattle.pass_steps.specs.StoreRuleDeclared.store.Pass.{Pass}
use Rattle.pass_steps.specs.StoreRuleDeclared.store.Store.{Store}
use Rattle.pass_steps.specs.Passes.{HoldsNone, IsOwnSight, IsPassOf, pin_of, state_in, state_of}
use Rattle.pass_steps.specs.Laws.{IsSteppedTo}
use Rattle.pass_steps.proofs.PassLemmas.{pass_is_stepped}
use Rattle.pass_steps.proofs.SightLemmas.{kept_else, kept_here}
use Rattle.pass_sweeps.specs.Pruning.{FindsWords, HasCellOnly}
use Rattle.pass_sweeps.specs.Sweeping.{GoesOn, HasIndexOnly, HasSwept, OnlySweep, SeesOn, SeesPublished, index_in, no_index, with_sweep}

-- ---- the same pass

-- a view of the same pass, with this state and this pin
pub own_is : (p : ℕ) (v w : Sight) (st : PassState) (x : PinState) → IsOwnSight p v
    → kept_at w.passes p ≡ Some st → ((q : ℕ) → q ≢ p → kept_at w.passes q ≡ kept_at v.passes q)
    → kept_at w.pins p ≡ Some x → w.told ≡ v.told → w.readers ≡ v.readers → IsOwnSight p w
own_is p v w st x own state others pin told readers = record {
  has = state ∙ ap Some (sym (ap (λ o. unwrap_or o fresh_pass) state));
  pin = pin ∙ ap Some (sym (ap (λ o. unwrap_or o fresh_pin) pin));
  only = λ q other. others q other ∙ own.only q other;
  told = told ∙ own.told;
  readers = readers ∙ own.readers;
}

-- its seats are those that it had
pub record KeepsSeats (old new : Pass) : Type 0 where
  pub number : new.number ≡ old.number
  pub latch : new.latch ≡ old.latch
  pub table : new.account.table_id ≡ old.account.table_id
  pub slots : new.account.me.1 ≡ old.account.me.1

pub pass_is : (store : Store) (old new : Pass) → IsPassOf store old → KeepsSeats old new
    → IsOwnSight old.number new.account.me.0
    → IsLegal store.accounts.config.kind (state_in new.account.me.0 old.number).seen → IsPassOf store new
pass_is store old new of seats own legal = record {
  inside = subst (λ n. n < store.accounts.config.passes) (sym seats.number) of.inside;
  latch = subst (IsLatchPass store.latches.table.shared.key.config.passes store.latches.table.shared.key
      store.latches.table.shared.table_id) (sym seats.latch) of.latch;
  same = (λ i. number_of (seats.latch i).me.0) ∙ of.same ∙ sym seats.number;
  table = seats.table ∙ of.table;
  slots = seats.slots ∙ of.slots;
  sight = subst (λ n. IsOwnSight n new.account.me.0) (sym seats.number) own;
  legal = subst (λ n. IsLegal store.accounts.config.kind (state_in new.account.me.0 n).seen) (sym seats.number) legal;
}

-- what a step leaves of a pass, if it changes neither its state nor its pin
pub record KeepsSelf (old new : Pass) : Type 0 where
  pub seats : KeepsSeats old new
  pub passes : new.account.me.0.passes ≡ old.account.me.0.passes
  pub pins : new.account.me.0.pins ≡ old.account.me.0.pins
  pub told : new.account.me.0.told ≡ old.account.me.0.told
  pub readers : new.account.me.0.readers ≡ old.account.me.0.readers
  pub reads : new.account.me.0.reads ≡ old.account.me.0.reads

module _ (store : Store) (old new : Pass) (of : IsPassOf store old) (kept : KeepsSelf old new) where
  pub self_of : IsPassOf store new
  self_of = pass_is store old new of kept.seats
      (own_is old.number old.account.me.0 new.account.me.0 (state_of old) (pin_of old) of.sight
      ((λ i. kept_at (kept.passes i) old.number) ∙ of.sight.has)
      (λ q _. (λ i. kept_at (kept.passes i) q))
      ((λ i. kept_at (kept.pins i) old.number) ∙ of.sight.pin) kept.told kept.readers)
      (subst (λ l. IsLegal store.accounts.config.kind (unwrap_or (kept_at l old.number) fresh_pass).seen)
      (sym kept.passes) of.legal)

  pub self_state : state_of new ≡ state_of old
  self_state i = unwrap_or (kept_at (kept.passes i) (kept.seats.number i)) fresh_pass

  pub self_pin : pin_of new ≡ pin_of old
  self_pin i = unwrap_or (kept_at (kept.pins i) (kept.seats.number i)) fresh_pin

-- a step on the account after which the view has the same of the pass itself
pub account_keeps : (old new : Pass) (v : Sight) → OnlyAccount old new v
    → v.passes ≡ old.account.me.0.passes → v.pins ≡ old.account.me.0.pins → v.told ≡ old.account.me.0.told
    → v.readers ≡ old.account.me.0.readers → v.reads ≡ old.account.me.0.reads → KeepsSelf old new
account_keeps old new v step passes pins told readers reads = record {
  seats = record {
    number = step.number;
    latch = step.latch;
    table = step.account.table;
    slots = λ i. (step.account.me i).1;
  };
  passes = (λ i. (step.account.me i).0.passes) ∙ passes;
  pins = (λ i. (step.account.me i).0.pins) ∙ pins;
  told = (λ i. (step.account.me i).0.told) ∙ told;
  readers = (λ i. (step.account.me i).0.readers) ∙ readers;
  reads = (λ i. (step.account.me i).0.reads) ∙ reads;
}

-- ---- its sweep

-- the pass's sweep alone is another
module _ (store : Store) (old new : Pass) (sweep : Option Sweep) (of : IsPassOf store old)
    (step : OnlySweep old new sweep) where
  sweep_seats : KeepsSeats old new
  sweep_seats = record { number = step.number; latch = step.latch; table = step.table; slots = step.slots }

  pub sweep_of : IsPassOf store new
  sweep_of = pass_is store old new of sweep_seats
      (own_is old.number old.account.me.0 new.account.me.0 (state_of old) (with_sweep (pin_of old) sweep) of.sight
      ((λ i. kept_at (step.passes i) old.number) ∙ of.sight.has)
      (λ q _. (λ i. kept_at (step.passes i) q)) step.pin step.told step.readers)
      (subst (λ l. IsLegal store.accounts.config.kind (unwrap_or (kept_at l old.number) fresh_pass).seen)
      (sym step.passes) of.legal)

  pub sweep_state : state_of new ≡ state_of old
  sweep_state i = unwrap_or (kept_at (step.passes i) (step.number i)) fresh_pass

  pub sweep_pin : pin_of new ≡ with_sweep (pin_of old) sweep
  sweep_pin = (λ i. unwrap_or (kept_at new.account.me.0.pins (step.number i)) fresh_pin)
      ∙ ap (λ o. unwrap_or o fresh_pin) step.pin

  pub sweep_none : HoldsNone old → HoldsNone new
  sweep_none none = record {
    latches = (λ i. (step.latch i).me.1) ∙ none.latches;
    buffers = step.buffers ∙ none.buffers;
    contents = record {
      cells = step.cells ∙ none.contents.cells;
      indexes = step.indexes ∙ none.contents.indexes;
      journals = step.journals ∙ none.contents.journals;
    };
  }

  pub sweep_goes : GoesOn old new
  sweep_goes = record {
    number = step.number;
    sees = record {
      front = subst (λ (st : PassState). IsPrefix (state_of old).seen st.seen) (sym sweep_state)
          (prefix_all (state_of old).seen);
      is = sweep_state ∙ (λ i. record (state_of old) {
        seen = (sym sweep_state i).seen;
        looks = (sym sweep_state i).looks;
      });
    };
    pin = sweep_pin ∙ (λ i. with_sweep (pin_of old) (sym sweep_pin i).sweep);
    reads = step.reads;
  }

  pub sweep_index : (st : PassState) (x : PinState) (y : IndexState) → HasIndexOnly store old st x y
      → HasIndexOnly store new st (with_sweep x sweep) y
  sweep_index st x y taken = record {
    of = sweep_of;
    latch = (λ i. (step.latch i).me.1) ∙ taken.latch;
    buffers = step.buffers ∙ taken.buffers;
    state = sweep_state ∙ taken.state;
    pin = sweep_pin ∙ ap (λ u. with_sweep u sweep) taken.pin;
    index = (λ i. kept_at (step.indexes i) 0) ∙ taken.index;
    alone = (λ i. without 0 (step.indexes i)) ∙ taken.alone;
    cells = step.cells ∙ taken.cells;
    journals = step.journals ∙ taken.journals;
  }

-- ---- sweeps one step after the other

-- the sweep is what it was
pub only_first : (store : Store) (pass : Pass) (sweep : Sweep) → IsPassOf store pass
    → (pin_of pass).sweep ≡ Some sweep → OnlySweep pass pass (Some sweep)
only_first store pass sweep of sweeps = record {
  number = refl;
  latch = refl;
  buffers = refl;
  table = refl;
  slots = refl;
  passes = refl;
  pin = of.sight.pin ∙ (λ i. Some (with_sweep (pin_of pass) (sweeps i)));
  cells = refl;
  indexes = refl;
  journals = refl;
  told = refl;
  readers = refl;
  reads = refl;
}

-- a step on the account with news of the sweep alone
pub only_of : (old new : Pass) (sweep : Option Sweep)
    → OnlyAccount old new (with_pin old.account.me.0 old.number (with_sweep (pin_of old) sweep))
    → OnlySweep old new sweep
only_of old new sweep step = record {
  number = step.number;
  latch = step.latch;
  buffers = step.buffers;
  table = step.account.table;
  slots = λ i. (step.account.me i).1;
  passes = λ i. (step.account.me i).0.passes;
  pin = (λ i. kept_at (step.account.me i).0.pins old.number)
      ∙ kept_here old.account.me.0.pins old.number (with_sweep (pin_of old) sweep);
  cells = λ i. (step.account.me i).0.cells;
  indexes = λ i. (step.account.me i).0.indexes;
  journals = λ i. (step.account.me i).0.journals;
  told = λ i. (step.account.me i).0.told;
  readers = λ i. (step.account.me i).0.readers;
  reads = λ i. (step.account.me i).0.reads;
}

pub only_then : (store : Store) (a b c : Pass) (s t : Option Sweep) → IsPassOf store a → OnlySweep a b s
    → OnlySweep b c t → OnlySweep a c t
only_then store a b c s t of first then = record {
  number = then.number ∙ first.number;
  latch = then.latch ∙ first.latch;
  buffers = then.buffers ∙ first.buffers;
  table = then.table ∙ first.table;
  slots = then.slots ∙ first.slots;
  passes = then.passes ∙ first.passes;
  pin = (λ i. kept_at c.account.me.0.pins (sym first.number i)) ∙ then.pin
      ∙ (λ i. Some (with_sweep (sweep_pin store a b s of first i) t));
  cells = then.cells ∙ first.cells;
  indexes = then.indexes ∙ first.indexes;
  journals = then.journals ∙ first.journals;
  told = then.told ∙ first.told;
  readers = then.readers ∙ first.readers;
  reads = then.reads ∙ first.reads;
}

-- ---- all that is published is seen

module _ (store : Store) (old new : Pass) (of : IsPassOf store old) (sees : SeesPublished store old new) where
  seen_to : IsSteppedTo store old new (refreshed (state_of old) sees.commits)
  seen_to = pass_is_stepped store old new (refreshed (state_of old) sees.commits) [] of sees.legal sees.step

  pub seen_of : IsPassOf store new
  seen_of = seen_to.of

  pub seen_none : HoldsNone old → HoldsNone new
  seen_none none = record {
    latches = (λ i. (sees.step.latch i).me.1) ∙ none.latches;
    buffers = sees.step.buffers ∙ none.buffers;
    contents = record {
      cells = (λ i. (sees.step.account.me i).0.cells) ∙ none.contents.cells;
      indexes = (λ i. (sees.step.account.me i).0.indexes) ∙ none.contents.indexes;
      journals = (λ i. (sees.step.account.me i).0.journals) ∙ none.contents.journals;
    };
  }

  pub seen_goes : GoesOn old new
  seen_goes = record {
    number = sees.step.number;
    sees = record {
      front = subst (λ (st : PassState). IsPrefix (state_of old).seen st.seen) (sym seen_to.state) sees.front;
      is = seen_to.state ∙ (λ i. record (state_of old) {
        seen = (sym seen_to.state i).seen;
        looks = (sym seen_to.state i).looks;
      });
    };
    pin = seen_to.pin ∙ (λ i. with_sweep (pin_of old) (sym seen_to.pin i).sweep);
    reads = λ i. (sees.step.account.me i).0.reads;
  }

  -- so the pass has swept as far as it has seen
  pub seen_swept : (sweep : Sweep) → (pin_of old).sweep ≡ Some sweep → sweep.looked ≡ store.accounts.config.passes
      → HasSwept store new sweep
  seen_swept sweep sweeps whole = record {
    is = ap (λ (x : PinState). x.sweep) seen_to.pin ∙ sweeps;
    whole = whole;
    seen =
        let behind = sees.behind sweep sweeps in
        let low = horizon_low sweep.least sweep.clock in
        let long = ap (λ (st : PassState). length st.seen) seen_to.state in
        omega (arith, behind, low, long);
  }
    where
      horizon_low : (least : Option ℕ) (clock : ℕ) → least_with least clock ≤ clock
      horizon_low None clock = omega arith
      horizon_low (Some m) clock = min_low m clock
        where
          min_low : (m n : ℕ) → min m n ≤ n
          min_low m n = grind (arith, nat_tests)

-- ---- going on

pub sees_then : (a b c : PassState) → SeesOn a b → SeesOn b c → SeesOn a c
sees_then a b c first then = record {
  front = prefix_trans a.seen b.seen c.seen first.front then.front;
  is = then.is ∙ (λ i. record (first.is i) { seen = c.seen; looks = c.looks });
}

pub goes_then : (a b c : Pass) → GoesOn a b → GoesOn b c → GoesOn a c
goes_then a b c first then = record {
  number = then.number ∙ first.number;
  sees = sees_then (state_of a) (state_of b) (state_of c) first.sees then.sees;
  pin = then.pin ∙ (λ i. with_sweep (first.pin i) (pin_of c).sweep);
  reads = then.reads ∙ first.reads;
}

pub finds_then : (a b c : Pass) → FindsWords a b → FindsWords b c → FindsWords a c
finds_then a b c first then = record {
  number = then.number ∙ first.number;
  state = then.state ∙ (λ i. record (first.state i) { looks = (state_of c).looks });
  pin = then.pin ∙ first.pin;
  reads = then.reads ∙ first.reads;
}

-- nothing was found
pub finds_none : (old new : Pass) → new.number ≡ old.number → state_of new ≡ state_of old → pin_of new ≡ pin_of old
    → new.account.me.0.reads ≡ old.account.me.0.reads → FindsWords old new
finds_none old new number state pin reads = record {
  number = number;
  state = state ∙ (λ i. record (state_of old) { looks = (sym state i).looks });
  pin = pin;
  reads = reads;
}

pub finds_goes : (old new : Pass) → FindsWords old new → GoesOn old new
finds_goes old new finds = record {
  number = finds.number;
  sees = record {
    front = subst (λ (st : PassState). IsPrefix (state_of old).seen st.seen) (sym finds.state)
        (prefix_all (state_of old).seen);
    is = finds.state ∙ (λ i. record (state_of old) {
      seen = (sym finds.state i).seen;
      looks = (state_of new).looks;
    });
  };
  pin = finds.pin ∙ (λ i. with_sweep (pin_of old) (sym finds.pin i).sweep);
  reads = finds.reads;
}

-- a whole sweep is one still
pub swept_still : (store : Store) (old new : Pass) (sweep : Sweep) → HasSwept store old sweep → FindsWords old new
    → HasSwept store new sweep
swept_still store old new sweep swept finds = record {
  is = ap (λ (x : PinState). x.sweep) finds.pin ∙ swept.is;
  whole = swept.whole;
  seen =
      let same = ap (λ (st : PassState). length st.seen) finds.state in
      let had = swept.seen in omega (arith, same, had);
}

-- ---- the index in hand

pub index_is : (v : Sight) (y : IndexState) → HasIndex v y → index_in v ≡ y
index_is v y has = ap (λ o. unwrap_or o no_index) has

pub index_there : (v : Sight) (y : IndexState) → HasIndex v y → HasIndex v (index_in v)
index_there v y has = has ∙ ap Some (sym (index_is v y has))

-- ---- a cell in hand

-- the pass has stepped, and has the cell still, with these contents
pub cell_stays : (store : Store) (old new : Pass) (st st' : PassState) (x : PinState) (k : ℕ) (c d : CellState)
    (lent lent' : ℕ) → HasCellOnly store old st x k c lent → IsPassOf store new → new.latch ≡ old.latch
    → new.buffers + lent' ≡ MOST_UNPACKED → state_of new ≡ st' → pin_of new ≡ pin_of old
    → HasCell new.account.me.0 k d
    → ((l : ℕ) → l ≢ k → kept_at new.account.me.0.cells l ≡ kept_at old.account.me.0.cells l)
    → new.account.me.0.indexes ≡ old.account.me.0.indexes
    → new.account.me.0.journals ≡ old.account.me.0.journals
    → HasCellOnly store new st' x k d lent'
cell_stays store old new st st' x k c d lent lent' has of latch buffers state pin cell rest indexes journals = record {
  of = of;
  latch = (λ i. (latch i).me.1) ∙ has.latch;
  inside = has.inside;
  buffers = buffers;
  state = state;
  pin = pin ∙ has.pin;
  cell = cell;
  alone = λ l other. rest l other ∙ has.alone l other;
  indexes = indexes ∙ has.indexes;
  journals = journals ∙ has.journals;
}

-- no cell is left without the one that was in hand
pub none_left : (es : List (ℕ × CellState)) (k : ℕ) → ((l : ℕ) → l ≢ k → kept_at es l ≡ None)
    → without k es ≡ []
none_left [] k alone = refl
none_left (e ∷ es) k alone = go (k == e.0) refl (none_left es k)
  where
    go : (b : Bool) → (k == e.0) ≡ b → (((l : ℕ) → l ≢ k → kept_at es l ≡ None) → without k es ≡ [])
        → cond b (without k es) (e ∷ without k es) ≡ []
    go true t rest = rest (λ l other.
        sym (kept_else es e.0 e.1 l (λ same. other (same ∙ sym (eq_of k e.0 t)))) ∙ alone l other)
    go false f rest =
        let other : e.0 ≢ k = (λ same.
        let g : true ≡ false = sym (same_number k) ∙ ap (λ n. k == n) (sym same) ∙ f in cc) in
        let none : None ≡ Some e.1 = sym (alone e.0 other) ∙ kept_here es e.0 e.1 in cc
