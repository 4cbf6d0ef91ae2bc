-- Which retired leaves can be freed.
use Rattle.std.proofs.Common.{◌≡◌, ℕ, zero, suc, List, [], ◌∷◌, refl, sym, ◌∙◌, ap, subst, inl, inr, Some, None, get_or, length}
use Rattle.std.specs.Prelude.{Option, min, unwrap_or, Result, Ok, Err, IfErr}
use Rattle.std.specs.List.{cons_option, reduce}
use Rattle.graph_model.specs.OwnerCalls.{Core, pass_at}
use Rattle.txn_manager.specs.Manager.{Manager, PassTxns, IsManaged, least_pin_of, no_txns, starts_of}
use Rattle.txn_manager.proofs.ViewLemmas.{state_in-get}
use Rattle.leaf_rows.specs.LeafStoreDeclared.pair.TheConstants.{STAMPS_END}
use Rattle.graph_model.specs.declared.row.Key.{Key}
use Rattle.txn_manager.specs.declared.config.RoomRefusal.{RoomRefusal}
use Rattle.leaf_rows.specs.LeafStore.Changes.{IsRoomRefusal}
use Rattle.leaf_rows.specs.LeafStore.Leaves.{Leaves}
use Rattle.leaf_rows.specs.LeafStore.Merging.{AreApart, AreLevel, IsCompact}
use Rattle.leaf_rows.specs.Laying.{IsSpent}
use Rattle.teseo_core.specs.Freeing.{IsFreeBound, RefusesRoom, free_bound}
use Rattle.teseo_core.specs.Horizons.{IsHorizon}
use Rattle.teseo_core.specs.Keeping.{AreTied, NoneOpen, Store}
use Rattle.teseo_core.proofs.SweepLemmas.{is_horizon}

-- no start among the passes
none_started : (passes : List PassTxns) → ((j : ℕ) → (get_or passes j no_txns).start ≡ None) → starts_of passes ≡ []
none_started [] none = refl
none_started (p ∷ passes) none = ap (λ x. cons_option x (starts_of passes)) (none 0) ∙ none_started passes (λ j. none (suc j))

all_closed : (passes : List PassTxns) → starts_of passes ≡ [] → (j : ℕ) → (get_or passes j no_txns).start ≡ None
all_closed [] none j = refl
all_closed (p ∷ passes) none zero = by_start p.start none
  where
    by_start : (x : Option ℕ) → cons_option x (starts_of passes) ≡ [] → x ≡ None
    by_start None e = refl
    by_start (Some y) e = cc
all_closed (p ∷ passes) none (suc j) = all_closed passes (by_start p.start none) j
  where
    by_start : (x : Option ℕ) → cons_option x (starts_of passes) ≡ [] → starts_of passes ≡ []
    by_start None e = e
    by_start (Some y) e = cc

none_least : (xs : List ℕ) → reduce min xs ≡ None → xs ≡ []
none_least [] e = refl
none_least (x ∷ xs) e = cc

module _ (core : Core) (m : Manager) (tied : AreTied core m) where
  start_is : (p : ℕ) → (get_or m.passes p no_txns).start ≡ (pass_at core p).start
  start_is p = ap (λ (x : PassTxns). x.start) (sym (state_in-get no_txns m.passes p) ∙ tied.each p)

  closed_least : NoneOpen core → least_pin_of m ≡ None
  closed_least none = ap (reduce min) (none_started m.passes (λ j. start_is j ∙ none j))

  least_closed : least_pin_of m ≡ None → NoneOpen core
  least_closed none p = sym (start_is p) ∙ all_closed m.passes (none_least (starts_of m.passes) none) p

  pub is_free_bound : IsManaged m → IsFreeBound core (free_bound m)
  is_free_bound managed = by_least (least_pin_of m) refl
    where
      some_none : (x : ℕ) → ◌≡◌ {A = Option ℕ} (Some x) None → ⊥
      some_none x e = cc

      by_least : (x : Option ℕ) → least_pin_of m ≡ x → IsFreeBound core (free_bound m)
      by_least None e = inr (least_closed e, ap (λ y. unwrap_or y STAMPS_END) e)
      by_least (Some x) e = inl (
        subst (IsHorizon core) (ap (λ y. unwrap_or y (length m.journal)) e ∙ sym (ap (λ y. unwrap_or y STAMPS_END) e)) (is_horizon core m tied managed),
        (λ none. some_none x (sym e ∙ closed_least none)),
      )

-- why room was refused
pub refuses : (r : Result (Unit {0}) RoomRefusal) (old new : Store) (key : Key) (need until : ℕ) → IsFreeBound old.core until → IfErr r (λ x. IsRoomRefusal old.rows key need x new.rows) → IfErr r (λ x. IsSpent until new.rows x) → IfErr r (λ x. RefusesRoom old key need x new)
refuses (Ok x) old new key need until bound why spent = tt
refuses (Err x) old new key need until bound why spent = (why, (until, bound, spent))

-- leaves that are freed leave the others as they are
pub same_parts_compact : (old new : Leaves) → new.parts ≡ old.parts → IsCompact old → IsCompact new
same_parts_compact old new same compact = record { level = subst AreLevel (sym same) compact.level; apart = subst AreApart (sym same) compact.apart }
