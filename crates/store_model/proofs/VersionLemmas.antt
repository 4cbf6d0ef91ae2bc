-- Reads, writes and pruning of one row's versions.
use Rattle.std.proofs.Common.{◌≡◌, ℕ, ◌≤◌, List, [], ◌∷◌, ◌++◌, refl, sym, ◌∙◌, ap, arith, cond}
use Rattle.std.specs.Prelude.{Bool, true, false, ◌&&◌, ◌||◌, not, Option, Some, None}
use Rattle.std.specs.List.{filter}
use Rattle.std.proofs.Math.Bool.{or-false}
use Rattle.std.proofs.lemmas.Bool.{or_right}
use Rattle.std.proofs.lemmas.Bool.Decides.{nat_tests}
use Rattle.std.proofs.lemmas.List.Folds.{list_any-append}
use Rattle.std.proofs.lemmas.Map.Views.{any-filter_same}
use Rattle.graph_model.specs.declared.journal.TxnName.{TxnName}
use Rattle.graph_model.specs.Conflict.{same_name}
use Rattle.graph_model.specs.Transactions.{reached, has_name}
use Rattle.graph_model.proofs.TestLemmas.{name_self, name_eq, or_comm}
use Rattle.store_model.specs.declared.version.Version.{Version}
use Rattle.store_model.specs.declared.versions.Versions.{Versions}
use Rattle.store_model.specs.Versions.{first_seen, sees, read, write, undo, with_name, without_name, touch, unseen_front, is_settled, prune}

-- ---- reading

-- a transaction sees what it wrote
pub own_write_is_seen : (stamps : TxnName → Option ℕ) (start : ℕ) (own : TxnName) (value : Option ℕ) (vs : Versions) → read stamps start own (write own value vs) ≡ value
own_write_is_seen stamps start own value vs = ap (λ t. cond (t || reached (stamps own) start) value (read stamps start own vs)) (name_self own)

-- and not what one wrote that it doesn't see
pub other_write_is_not_seen : (stamps : TxnName → Option ℕ) (start : ℕ) (own by : TxnName) (value : Option ℕ) (vs : Versions) → sees stamps start own by ≡ false → read stamps start own (write by value vs) ≡ read stamps start own vs
other_write_is_not_seen stamps start own by value vs e = ap (λ t. cond t value (read stamps start own vs)) e

-- an undo takes a write back
pub undo_takes_back : (by : TxnName) (value : Option ℕ) (vs : Versions) → undo (write by value vs) ≡ vs
undo_takes_back by value vs = refl

-- touches are not read
pub touch_is_not_read : (stamps : TxnName → Option ℕ) (start : ℕ) (own by : TxnName) (vs : Versions) → read stamps start own (touch by vs) ≡ read stamps start own vs
touch_is_not_read stamps start own by vs = refl

-- a value depends on whom one sees, and on nothing else of the writers
pub first_seen-same : (f g : TxnName → Bool) (ps : List Version) (oldest : Option ℕ) → ((by : TxnName) → f by ≡ g by) → first_seen f ps oldest ≡ first_seen g ps oldest
first_seen-same f g [] oldest same = refl
first_seen-same f g (p ∷ ps) oldest same = λ i. cond (same p.by i) p.value (first_seen-same f g ps oldest same i)

-- ---- pruning

-- who had committed by a stamp had committed by each later one
pub reached_later : (stamp : Option ℕ) (horizon start : ℕ) → horizon ≤ start → reached stamp horizon ≡ true → reached stamp start ≡ true
reached_later None horizon start le e = cc
reached_later (Some stamp) horizon start le e = grind (arith, nat_tests)

-- who sees all that are settled sees the same value below the pairs that are left
first_seen-front : (f g : TxnName → Bool) (ps : List Version) (oldest : Option ℕ) → ((by : TxnName) → g by ≡ true → f by ≡ true) → first_seen f (unseen_front g ps) (first_seen g ps oldest) ≡ first_seen f ps oldest
first_seen-front f g [] oldest more = refl
first_seen-front f g (p ∷ ps) oldest more =
    elim (g p.by) as (λ t. g p.by ≡ t → first_seen f (cond t [] (p ∷ unseen_front g ps)) (cond t p.value (first_seen g ps oldest)) ≡ cond (f p.by) p.value (first_seen f ps oldest)) [
      | true ↦ λ e. ap (λ t. cond t p.value (first_seen f ps oldest)) (sym (more p.by e))
      | false ↦ λ e. ap (cond (f p.by) p.value) (first_seen-front f g ps oldest more)
    ] refl

-- a prune changes no value for a start at or above its horizon
pub prune_keeps_values : (stamps : TxnName → Option ℕ) (horizon start : ℕ) (own : TxnName) (vs : Versions) → horizon ≤ start → read stamps start own (prune stamps horizon vs) ≡ read stamps start own vs
prune_keeps_values stamps horizon start own vs le =
    first_seen-front (sees stamps start own) (is_settled stamps horizon) vs.pairs vs.oldest (λ by e. or_right _ _ (reached_later (stamps by) horizon start le e))

-- ---- touches

-- one name more
pub with_name-has : (by : TxnName) (names : List TxnName) (q : TxnName) → has_name (with_name by names) q ≡ (same_name q by || has_name names q)
with_name-has by names q =
    elim (has_name names by) as (λ t. has_name names by ≡ t → has_name (cond t names (names ++ by ∷ [])) q ≡ (same_name q by || has_name names q)) [
      | true ↦ λ e. elim (same_name q by) as (λ s. same_name q by ≡ s → has_name names q ≡ (s || has_name names q)) [
        | true ↦ λ f. ap (has_name names) (name_eq q by f) ∙ e
        | false ↦ λ f. refl
      ] refl
      | false ↦ λ e. list_any-append (same_name q) names (by ∷ []) ∙ at_end (has_name names q) (same_name q by)
    ] refl
  where
    at_end : (a b : Bool) → (a || (b || false)) ≡ (b || a)
    at_end a b = ap (λ t. a || t) (or-false b) ∙ or_comm a b

-- the names that pass a test
pub filter-has : (p : TxnName → Bool) (names : List TxnName) (q : TxnName) → has_name (filter p names) q ≡ (p q && has_name names q)
filter-has p names q = any-filter_same (same_name q) p (p q) (λ k e. ap p (sym (name_eq q k e))) names

-- one name less
pub without_name-has : (by : TxnName) (names : List TxnName) (q : TxnName) → has_name (without_name by names) q ≡ (not (same_name by q) && has_name names q)
without_name-has by names q = filter-has (λ other. not (same_name by other)) names q
