-- How many transactions are open.
use Rattle.std.proofs.Common.{◌≡◌, ℕ, zero, suc, ◌+◌, ◌<◌, ◌≤◌, List, [], ◌∷◌, map, length, get_or, sym, ◌∙◌, ap, arith}
use Rattle.std.specs.Prelude.{Option, Some, None, slice_set}
use Rattle.std.specs.List.{cons_option}
use Rattle.txn_manager.specs.declared.history.PassHistory.{PassHistory}
use Rattle.txn_manager.specs.Manager.{PassTxns, starts_of}
use Rattle.txn_manager.specs.Histories.{no_history, history_of, txns_in}
use Rattle.txn_manager.proofs.ViewLemmas.{state_in-get}

-- a pass has one at most
pub starts_le : (passes : List PassTxns) → length (starts_of passes) ≤ length passes
starts_le [] = omega arith
starts_le (p ∷ passes) = by_start p.start (starts_le passes)
  where
    by_start : (x : Option ℕ) → length (starts_of passes) ≤ length passes → length (cons_option x (starts_of passes)) ≤ suc (length passes)
    by_start None le = omega arith
    by_start (Some start) le = omega arith

-- one fewer is open where a pass has ended its own
pub one_fewer : (hs : List PassHistory) (p start : ℕ) (h : PassHistory) → p < length hs → (history_of hs p).start ≡ Some start → h.start ≡ None
    → length (starts_of (map txns_in (slice_set hs p h))) + 1 ≡ length (starts_of (map txns_in hs))
one_fewer hs p start h inside is none = at_place hs p inside (sym (ap (λ (h : PassHistory). h.start) (state_in-get no_history hs p)) ∙ is)
  where
    at_place : (hs : List PassHistory) (p : ℕ) → p < length hs → (get_or hs p no_history).start ≡ Some start
        → length (starts_of (map txns_in (slice_set hs p h))) + 1 ≡ length (starts_of (map txns_in hs))
    at_place [] p lt e = absurd (omega arith)
    at_place (g ∷ hs) zero lt e =
        let rest : List ℕ = starts_of (map txns_in hs) in
        let one_more : length rest + 1 ≡ length (start ∷ rest) = omega arith in
        ap (λ x. length (cons_option x rest) + 1) none ∙ one_more ∙ sym (ap (λ x. length (cons_option x rest)) e)
    at_place (g ∷ hs) (suc p) lt e = by_start g.start (at_place hs p (omega arith) e)
      where
        by_start : (x : Option ℕ) → length (starts_of (map txns_in (slice_set hs p h))) + 1 ≡ length (starts_of (map txns_in hs))
            → length (cons_option x (starts_of (map txns_in (slice_set hs p h)))) + 1 ≡ length (cons_option x (starts_of (map txns_in hs)))
        by_start None e = e
        by_start (Some start) e = omega arith
