-- A reader that takes cells in hand and puts them back, and one that steps meanwhile.
use Rattle.std.proofs.Common.{◌≡◌, ℕ, ◌+◌, ◌<◌, ◌≤◌, List, [], ◌∷◌, length, refl, sym, ◌∙◌, ap, subst, arith}
use Rattle.std.specs.Prelude.{false, true, Some, unwrap_or}
use Rattle.seat_views.specs.Keeping.{kept_at}
use Rattle.latch_table.specs.Latched.{number_of}
use Rattle.graph_model.specs.Legal.{IsLegal}
use Rattle.pass_steps.specs.RuleModel.Sight.{PinState, Sight, fresh_pin}
use Rattle.pass_steps.specs.StoreRelation.Passes.{PassState, fresh_pass}
use Rattle.pass_steps.specs.StoreRelation.Readers.{ReaderState}
use Rattle.pass_steps.specs.CellsModel.Cells.{CellState}
use Rattle.pass_steps.specs.StoreRule.Passes.{OnlyAccount}
use Rattle.pass_steps.specs.StoreRuleDeclared.store.Pass.{Pass}
use Rattle.pass_steps.specs.StoreRuleDeclared.store.Store.{Store}
use Rattle.pass_steps.specs.Passes.{HasNoTxn, pin_in, pin_of, state_in, state_of}
use Rattle.pass_steps.specs.Passes.{HoldsNone as HasNoPlace}
use Rattle.pass_steps.proofs.SightLemmas.{kept_here}
use Rattle.pass_cells.specs.Holding.{HasTaken, Holds, HoldsNone, IsLatchOf, KeepsPass}
use Rattle.pass_cells.specs.declared.taken.TakenCell.{TakenCell}
use Rattle.pass_readers.proofs.CellLemmas.{known_same}
use Rattle.pass_readers.specs.Hand.{HasNothing, HasReadInHand, KeepsReader}
use Rattle.pass_readers.specs.Readers.{IsReaderOf, IsReaderSight, first_of, read_by, read_in}

-- ---- taken, and put back

-- nothing in hand, in the words of cells
pub cells_none : (store : Store) (x : ReaderState) (reader : Pass) → IsReaderOf store x reader → HasNoPlace reader
    → HoldsNone store reader
cells_none store x reader of none = record {
  latch = of.latch;
  out = none.latches;
  table = of.table;
  cells = none.contents.cells;
  buffers = none.buffers;
  indexes = none.contents.indexes;
}

-- a reader that has the same passes, pins and readers
module _ (store : Store) (old new : Pass) (number : new.number ≡ old.number)
    (latch_number : number_of new.latch.me.0 ≡ number_of old.latch.me.0)
    (slots : new.account.me.1 ≡ old.account.me.1)
    (passes : new.account.me.0.passes ≡ old.account.me.0.passes) (pins : new.account.me.0.pins ≡ old.account.me.0.pins)
    (readers : new.account.me.0.readers ≡ old.account.me.0.readers) where
  pub keeps_reader : KeepsReader old new
  keeps_reader = record {
    number = number;
    reads = λ i. first_of (readers i);
    state = λ i. unwrap_or (kept_at (passes i) (number i)) fresh_pass;
    pin = λ i. unwrap_or (kept_at (pins i) (number i)) fresh_pin;
  }

  pub reader_kept : IsReaderOf store (read_by old) old → IsLatchOf store new.latch
      → new.account.table_id ≡ store.accounts.table.shared.table_id → IsReaderOf store (read_by new) new
  reader_kept of latch table =
      let same = keeps_reader in
      let own = of.sight in
      record {
        inside = subst (λ n. n < store.accounts.config.passes) (sym number) of.inside;
        latch = latch;
        same = latch_number ∙ of.same ∙ sym number;
        table = table;
        slots = slots ∙ of.slots;
        sight = record {
          has = subst (λ (x : ℕ × List (ℕ × PassState)).
              kept_at x.1 x.0 ≡ Some (unwrap_or (kept_at x.1 x.0) fresh_pass))
              (λ i. (sym number i, sym passes i)) own.has;
          pin = subst (λ (x : ℕ × List (ℕ × PinState)).
              kept_at x.1 x.0 ≡ Some (unwrap_or (kept_at x.1 x.0) fresh_pin))
              (λ i. (sym number i, sym pins i)) own.pin;
          only = λ q other. (λ i. kept_at (passes i) q) ∙ own.only q (λ e. other (e ∙ sym number));
          readers = readers ∙ own.readers ∙ (λ i. sym same.reads i ∷ []);
        };
        legal = subst (λ (st : PassState). IsLegal store.accounts.config.kind st.seen) (sym same.state) of.legal;
        idle = subst (λ (s : PassState × PinState). HasNoTxn s.0 s.1) (λ i. (sym same.state i, sym same.pin i)) of.idle;
        started = subst (λ (x : ReaderState). x.start ≤ length x.seen) (sym same.reads) of.started;
      }

module _ (store : Store) (old new : Pass) (kept : KeepsPass old new) where
  pub pass_keeps_reader : KeepsReader old new
  pass_keeps_reader =
      keeps_reader store old new kept.number kept.latch kept.slots kept.passes kept.pins kept.readers

  -- TAKEN
  pub takes : (ts : List TakenCell) → IsReaderOf store (read_by old) old → HasNoPlace old → Holds store new ts
      → HasReadInHand store new ts
  takes ts of none holds = record {
    of = reader_kept store old new kept.number kept.latch kept.slots kept.passes kept.pins kept.readers of
        holds.taken.latch holds.taken.table;
    holds = holds;
    journals = kept.journals ∙ none.contents.journals;
  }

  -- PUT BACK
  pub puts_back : (ts us : List TakenCell) → HasReadInHand store old ts → HoldsNone store new → us ≡ []
      → HasNothing store new us
  puts_back ts us hand none cells = record {
    of = reader_kept store old new kept.number kept.latch kept.slots kept.passes kept.pins kept.readers hand.of
        none.latch none.table;
    none = record {
      latches = none.out;
      buffers = none.buffers;
      contents = record {
        cells = none.cells;
        indexes = none.indexes;
        journals = kept.journals ∙ hand.journals;
      };
    };
    cells = cells;
  }

-- ---- a step meanwhile

-- STEPPED: nothing was learnt beside what was told
module _ (store : Store) (old new : Pass) (step : OnlyAccount old new old.account.me.0) where
  sight_is : new.account.me.0 ≡ old.account.me.0
  sight_is i = (step.account.me i).0

  pub step_keeps_reader : KeepsReader old new
  step_keeps_reader =
      keeps_reader store old new step.number (λ i. number_of (step.latch i).me.0) (λ i. (step.account.me i).1)
      (λ i. (sight_is i).passes) (λ i. (sight_is i).pins) (λ i. (sight_is i).readers)

  pub stays_in_hand : (ts : List TakenCell) → HasReadInHand store old ts → HasReadInHand store new ts
  stays_in_hand ts hand =
      let latch : IsLatchOf store new.latch = subst (IsLatchOf store) (sym step.latch) hand.of.latch in
      let table = step.account.table ∙ hand.of.table in
      record {
        of = reader_kept store old new step.number (λ i. number_of (step.latch i).me.0)
            (λ i. (step.account.me i).1) (λ i. (sight_is i).passes) (λ i. (sight_is i).pins)
            (λ i. (sight_is i).readers) hand.of latch table;
        holds = record {
          taken = record {
            latch = latch;
            out = (λ i. (step.latch i).me.1) ∙ hand.holds.taken.out;
            table = table;
            known = known_same store.accounts.config old.account.me.0 new.account.me.0 (λ i. (sight_is i).cells) ts
                hand.holds.taken.known;
            only = λ k c has. hand.holds.taken.only k c ((λ i. kept_at (sym sight_is i).cells k) ∙ has);
            apart = hand.holds.taken.apart;
            few = hand.holds.taken.few;
            buffers = let room = hand.holds.taken.buffers in let same = step.buffers in omega (arith, room, same);
            no_index = (λ i. (sight_is i).indexes) ∙ hand.holds.taken.no_index;
          };
          rising = hand.holds.rising;
        };
        journals = (λ i. (sight_is i).journals) ∙ hand.journals;
      }

-- LENT: all that was lent is back
pub lent_is_back : (old mid new : Pass) (lent sight : Sight) → OnlyAccount old mid lent → OnlyAccount mid new sight
    → sight ≡ old.account.me.0 → OnlyAccount old new old.account.me.0
lent_is_back old mid new lent sight first then is = record {
  number = then.number ∙ first.number;
  latch = then.latch ∙ first.latch;
  buffers = then.buffers ∙ first.buffers;
  account = record {
    table = then.account.table ∙ first.account.table;
    me = then.account.me ∙ (λ i. (is i, (first.account.me i).1));
  };
}

-- READ: only its read has changed
module _ (store : Store) (old new : Pass) (number : new.number ≡ old.number) (latch : new.latch ≡ old.latch)
    (buffers : new.buffers ≡ old.buffers) (table : new.account.table_id ≡ old.account.table_id)
    (slots : new.account.me.1 ≡ old.account.me.1)
    (view : new.account.me.0 ≡ record old.account.me.0 { reads = new.account.me.0.reads }) where
  pub read_keeps_reader : KeepsReader old new
  read_keeps_reader =
      keeps_reader store old new number (λ i. number_of (latch i).me.0) slots (λ i. (view i).passes)
      (λ i. (view i).pins) (λ i. (view i).readers)

  pub read_takes_nothing : (ts : List TakenCell) → HasNothing store old ts → HasNothing store new ts
  read_takes_nothing ts was = record {
    of = reader_kept store old new number (λ i. number_of (latch i).me.0) slots (λ i. (view i).passes)
        (λ i. (view i).pins) (λ i. (view i).readers) was.of
        (subst (IsLatchOf store) (sym latch) was.of.latch) (table ∙ was.of.table);
    none = record {
      latches = (λ i. (latch i).me.1) ∙ was.none.latches;
      buffers = buffers ∙ was.none.buffers;
      contents = record {
        cells = (λ i. (view i).cells) ∙ was.none.contents.cells;
        indexes = (λ i. (view i).indexes) ∙ was.none.contents.indexes;
        journals = (λ i. (view i).journals) ∙ was.none.contents.journals;
      };
    };
    cells = was.cells;
  }
