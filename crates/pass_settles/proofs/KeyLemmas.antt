-- Keys whose rows are stamped, one after the other.
use Rattle.std.proofs.Common.{◌≡◌, ℕ, ◌+◌, ◌<◌, List, [], ◌∷◌, length, take, refl, sym, ◌∙◌, ap, subst, cond, arith, get_or}
use Rattle.std.specs.Prelude.{Bool, true, false, ◌||◌, not}
use Rattle.std.proofs.lemmas.List.Folds.{list_any_more}
use Rattle.graph_model.specs.declared.journal.TxnName.{TxnName}
use Rattle.graph_model.specs.declared.row.Key.{Key}
use Rattle.graph_model.specs.Effects.{same_key}
use Rattle.graph_model.specs.Rows.{is_between}
use Rattle.epoch_reclaim.specs.declared.sweep.Sweep.{Sweep}
use Rattle.pass_sweeps.specs.StoreRelation.Keys.{has_key}
use Rattle.pass_sweeps.specs.StoreRelation.Passes.{PassState, name_at}
use Rattle.pass_sweeps.specs.StoreRelation.Steps.{with_unstamped}
use Rattle.pass_sweeps.specs.RuleModel.Sight.{PinState}
use Rattle.pass_sweeps.specs.StoreRuleDeclared.store.Pass.{Pass}
use Rattle.pass_sweeps.specs.StoreRuleDeclared.store.Store.{Store}
use Rattle.pass_sweeps.specs.PassSteps.Passes.{pin_of, state_of}
use Rattle.pass_sweeps.specs.PassSteps.Txns.{HasCommitted}
use Rattle.pass_settles.specs.Settled.{IsSettling, StampsKeys, keys_outside, stamped_between}
use Rattle.pass_settles.proofs.StepLemmas.{key_eq}

-- ---- keys beyond fence keys

pub outside_fewer : (low high : Key) (keys : List Key) (q : Key) → has_key (keys_outside low high keys) q ≡ true → has_key keys q ≡ true
outside_fewer low high [] q has = has
outside_fewer low high (k ∷ ks) q has = go (is_between low high k) (same_key q k) (outside_fewer low high ks q) has
  where
    go : (b s : Bool) → (has_key (keys_outside low high ks) q ≡ true → has_key ks q ≡ true)
        → has_key (cond (not b) (k ∷ keys_outside low high ks) (keys_outside low high ks)) q ≡ true → (same_key q k || has_key ks q) ≡ true
    go true s rest h = or_right (same_key q k) (has_key ks q) (rest h)
      where
        or_right : (s t : Bool) → t ≡ true → (s || t) ≡ true
        or_right true t e = refl
        or_right false t e = e
    go false s rest h = by_first (same_key q k) rest h
      where
        by_first : (s : Bool) → (has_key (keys_outside low high ks) q ≡ true → has_key ks q ≡ true)
            → (s || has_key (keys_outside low high ks) q) ≡ true → (s || has_key ks q) ≡ true
        by_first true rest e = refl
        by_first false rest e = rest e

pub outside_gone : (low high : Key) (keys : List Key) (q : Key) → is_between low high q ≡ true → has_key (keys_outside low high keys) q ≡ false
outside_gone low high [] q between = refl
outside_gone low high (k ∷ ks) q between = go (is_between low high k) (same_key q k) refl refl (outside_gone low high ks q between)
  where
    go : (b s : Bool) → is_between low high k ≡ b → same_key q k ≡ s → has_key (keys_outside low high ks) q ≡ false
        → has_key (cond (not b) (k ∷ keys_outside low high ks) (keys_outside low high ks)) q ≡ false
    go true s e f rest = rest
    go false true e f rest = let clash : true ≡ false = sym between ∙ ap (is_between low high) (key_eq q k f) ∙ e in cc
    go false false e f rest = ap (λ t. t || has_key (keys_outside low high ks) q) f ∙ rest

-- what isn't there isn't there among fewer
absent : (old new : List Key) (q : Key) → (has_key new q ≡ true → has_key old q ≡ true) → has_key old q ≡ false → has_key new q ≡ false
absent old new q fewer none = go (has_key new q) refl
  where
    go : (b : Bool) → has_key new q ≡ b → has_key new q ≡ false
    go true e = let clash : true ≡ false = sym (fewer e) ∙ none in cc
    go false e = e

-- ---- one key more

-- nothing is stamped yet
pub stamps_none : (st : PassState) → StampsKeys [] st st
stamps_none st = record { is = refl; left = λ q h. h; gone = λ q h. cc }

module _ (keys : List Key) (place : ℕ) (d : Key) (within : place < length keys) where
  -- each of so many keys is one before, or this one
  either_key : (q : Key) → has_key (take (place + 1) keys) q ≡ true → (has_key (take place keys) q || same_key q (get_or keys place d)) ≡ true
  either_key q h = sym (list_any_more (same_key q) keys place d within) ∙ h

  -- the row has its stamp
  pub stamps_skip : (old now : PassState) → StampsKeys (take place keys) old now → has_key now.unstamped (get_or keys place d) ≡ false
      → StampsKeys (take (place + 1) keys) old now
  stamps_skip old now so_far none = record {
    is = so_far.is;
    left = so_far.left;
    gone = λ q h. go q (has_key (take place keys) q) (same_key q (get_or keys place d)) refl refl (either_key q h);
  }
    where
      go : (q : Key) (s t : Bool) → has_key (take place keys) q ≡ s → same_key q (get_or keys place d) ≡ t → (s || t) ≡ true → has_key now.unstamped q ≡ false
      go q true t e f h = so_far.gone q e
      go q false true e f h = ap (has_key now.unstamped) (key_eq q (get_or keys place d) f) ∙ none
      go q false false e f h = cc

  -- it gets it, and all between the fence keys
  pub stamps_cell : (old now new : PassState) (low high : Key) → StampsKeys (take place keys) old now → new ≡ stamped_between low high now
      → is_between low high (get_or keys place d) ≡ true → StampsKeys (take (place + 1) keys) old new
  stamps_cell old now new low high so_far is between =
      let same : new.unstamped ≡ keys_outside low high now.unstamped = ap (λ (u : PassState). u.unstamped) is in
      let step : StampsKeys (take place keys) old new = record {
        is = is ∙ (λ i. with_unstamped (so_far.is i) (keys_outside low high now.unstamped)) ∙ (λ i. with_unstamped old (sym same i));
        left = λ q h. so_far.left q (outside_fewer low high now.unstamped q (ap (λ l. has_key l q) (sym same) ∙ h));
        gone = λ q h. absent now.unstamped new.unstamped q
            (λ g. outside_fewer low high now.unstamped q (ap (λ l. has_key l q) (sym same) ∙ g)) (so_far.gone q h);
      } in
      stamps_skip old new step (ap (λ l. has_key l (get_or keys place d)) same ∙ outside_gone low high now.unstamped (get_or keys place d) between)

-- ---- the pass

-- it may settle still
pub settling_still : (store : Store) (old new : Pass) (sweep : Sweep) (by : TxnName) (stamp : ℕ) → IsSettling store old sweep by stamp
    → new.number ≡ old.number → (keys : List Key) → state_of new ≡ with_unstamped (state_of old) keys → pin_of new ≡ pin_of old
    → IsSettling store new sweep by stamp
settling_still store old new sweep by stamp is number keys state pin = record {
  stamping = record {
    stage = ap (λ (u : PassState). u.stage) state ∙ is.stamping.stage;
    committed = subst (λ (u : ℕ × PassState). HasCommitted u.0 u.1 stamp) (λ i. (sym number i, sym state i)) (record {
      place = is.stamping.committed.place;
      commit = is.stamping.committed.commit;
      at = is.stamping.committed.at;
      by = is.stamping.committed.by;
      stamped = is.stamping.committed.stamped;
    });
    name = is.stamping.name ∙ (λ i. name_at (sym number i) (sym state i));
  };
  swept = record {
    is = ap (λ (x : PinState). x.sweep) pin ∙ is.swept.is;
    whole = is.swept.whole;
    seen =
        let same = ap (λ (u : PassState). length u.seen) state in
        let had = is.swept.seen in omega (arith, same, had);
  };
}
