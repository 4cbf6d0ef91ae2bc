-- The index in hand, step after step.
use Rattle.std.proofs.Common.{◌≡◌, ℕ, ◌<◌, ◌∷◌, refl, sym, ◌∙◌, ap, cond, arith}
use Rattle.std.specs.Prelude.{Bool, true, ◌==◌, count_by}
use Rattle.graph_model.specs.declared.row.Key.{Key}
use Rattle.graph_model.proofs.TestLemmas.{self_eq}
use Rattle.leaf_index.specs.Calls.{IsLeafRange}
use Rattle.leaf_index.specs.Index.{Entry, Index, IsIndex}
use Rattle.leaf_index.specs.declared.route.LeafRange.{LeafRange}
use Rattle.leaf_index.proofs.CountLemmas.{count_append, count_cons, existing}
use Rattle.seat_views.specs.Keeping.{kept_at, without}
use Rattle.pass_steps.specs.StoreRelation.Passes.{PassState}
use Rattle.pass_steps.specs.RuleModel.PinSteps.{with_sweeper}
use Rattle.pass_steps.specs.RuleModel.Sight.{IndexState, PinState, with_index}
use Rattle.pass_steps.specs.StoreRule.Passes.{OnlyAccount}
use Rattle.pass_steps.specs.StoreRuleDeclared.store.Pass.{Pass}
use Rattle.pass_steps.specs.StoreRuleDeclared.store.Store.{Store}
use Rattle.pass_steps.proofs.PassLemmas.{pass_after, pin_is, state_is}
use Rattle.pass_steps.proofs.SightLemmas.{kept_here, own_pin, pin_here, without_here}
use Rattle.pass_sweeps.specs.Sweeping.{HasIndexOnly}
use Rattle.pass_sweeps.proofs.HandLemmas.{account_keeps, self_of, self_pin, self_state}

-- news of the pin and of the index
pub index_swept : (store : Store) (old new : Pass) (st : PassState) (x x' : PinState) (y y' : IndexState)
    → HasIndexOnly store old st x y
    → OnlyAccount old new (with_sweeper old.account.me.0 old.number x' y')
    → HasIndexOnly store new st x' y'
index_swept store old new st x x' y y' taken step =
    let v = with_sweeper old.account.me.0 old.number x' y' in
    let own = own_pin taken.of.sight x' in
    record {
      of = pass_after store old new v step taken.of (record {
        has = own.has;
        pin = own.pin;
        only = own.only;
        told = own.told;
        readers = own.readers;
      }) taken.of.legal;
      latch = (λ i. (step.latch i).me.1) ∙ taken.latch;
      buffers = step.buffers ∙ taken.buffers;
      state = state_is store old new v step ∙ taken.state;
      pin = pin_is store old new v step ∙ pin_here old.account.me.0 old.number x';
      index = (λ i. kept_at (step.account.me i).0.indexes 0) ∙ kept_here old.account.me.0.indexes 0 y';
      alone = (λ i. without 0 (step.account.me i).0.indexes)
          ∙ without_here old.account.me.0.indexes 0 y' ∙ taken.alone;
      cells = (λ i. (step.account.me i).0.cells) ∙ taken.cells;
      journals = (λ i. (step.account.me i).0.journals) ∙ taken.journals;
    }

-- news of the index alone
pub index_changed : (store : Store) (old new : Pass) (st : PassState) (x : PinState) (y y' : IndexState)
    → HasIndexOnly store old st x y → OnlyAccount old new (with_index old.account.me.0 y')
    → HasIndexOnly store new st x y'
index_changed store old new st x y y' taken step =
    let v = with_index old.account.me.0 y' in
    let kept = account_keeps old new v step refl refl refl refl refl in
    record {
      of = self_of store old new taken.of kept;
      latch = (λ i. (step.latch i).me.1) ∙ taken.latch;
      buffers = step.buffers ∙ taken.buffers;
      state = self_state store old new taken.of kept ∙ taken.state;
      pin = self_pin store old new taken.of kept ∙ taken.pin;
      index = (λ i. kept_at (step.account.me i).0.indexes 0) ∙ kept_here old.account.me.0.indexes 0 y';
      alone = (λ i. without 0 (step.account.me i).0.indexes)
          ∙ without_here old.account.me.0.indexes 0 y' ∙ taken.alone;
      cells = (λ i. (step.account.me i).0.cells) ∙ taken.cells;
      journals = (λ i. (step.account.me i).0.journals) ∙ taken.journals;
    }

-- a leaf that holds a key exists
pub leaf_inside : (key : Key) (index : Index) (range : LeafRange) → IsIndex index
    → IsLeafRange key index.entries range → range.leaf < index.leaves
leaf_inside key index range sound is =
    let e = is.entry in
    let front = is.floor.front in
    let back = is.floor.back in
    let test : Entry → Bool = (λ (x : Entry). x.leaf == range.leaf) in
    let here : test e ≡ true = ap (λ n. n == range.leaf) (sym is.range_is.leaf) ∙ self_eq range.leaf in
    let all = ap (count_by test) is.floor.is ∙ count_append test front (e ∷ back) in
    let one = count_cons test e back in
    let worth : cond (test e) 1 0 ≡ 1 = ap {B = ℕ} (λ b. cond b 1 0) here in
    let once = sound.once range.leaf in
    existing range.leaf index.leaves (omega (arith, all, one, worth, once))
