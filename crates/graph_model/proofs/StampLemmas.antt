-- Commit stamps by name.
use Rattle.std.proofs.Common.{◌≡◌, ℕ, zero, suc, ◌+◌, ◌<◌, ◌≤◌, List, [], ◌∷◌, ◌++◌, refl, ◌∙◌, ap, arith, cond, inl, inr}
use Rattle.std.specs.Prelude.{◌⊎◌, true, false, Some, None, slice_get}
use Rattle.std.proofs.lemmas.Bool.Decides.{nat_tests}
use Rattle.graph_model.specs.declared.write.Kind.{Kind}
use Rattle.graph_model.specs.declared.journal.Commit.{Commit}
use Rattle.graph_model.specs.declared.journal.TxnName.{TxnName}
use Rattle.graph_model.specs.Conflict.{same_name}
use Rattle.graph_model.specs.Legal.{IsLegal}
use Rattle.graph_model.specs.Transactions.{stamp_in, reached, HasNotCommitted}
use Rattle.graph_model.proofs.TestLemmas.{name_self, name_eq}
use Rattle.graph_model.proofs.PlaceLemmas.{some_eq}

-- whoever has not committed has no stamp
pub stamp_none : (js : List Commit) (by : TxnName) → HasNotCommitted js by → stamp_in js by ≡ None
stamp_none [] by each = refl
stamp_none (c ∷ cs) by each = ap (λ t. cond t (Some c.stamp) (stamp_in cs by)) (each 0 c refl) ∙ stamp_none cs by (λ i d at. each (suc i) d at)

-- a name is a commit's, or has no stamp
pub stamped_or_none : (js : List Commit) (by : TxnName) → ((i : ℕ) × (c : Commit) × (slice_get js i ≡ Some c) × (c.by ≡ by)) ⊎ (stamp_in js by ≡ None)
stamped_or_none [] by = inr refl
stamped_or_none (c ∷ cs) by = elim (same_name c.by by) as (λ t. same_name c.by by ≡ t → ((i : ℕ) × (d : Commit) × (slice_get (c ∷ cs) i ≡ Some d) × (d.by ≡ by)) ⊎ (cond t (Some c.stamp) (stamp_in cs by) ≡ None)) [
  | true ↦ λ e. inl (0, c, refl, name_eq c.by by e)
  | false ↦ λ e. elim (stamped_or_none cs by) as (λ _. ((i : ℕ) × (d : Commit) × (slice_get (c ∷ cs) i ≡ Some d) × (d.by ≡ by)) ⊎ (stamp_in cs by ≡ None)) [
    | inl h ↦ inl (suc h.0, h.1, h.2, h.3)
    | inr none ↦ inr none
  ]
] refl

-- where no two commits have one name, a commit's name has its stamp
pub stamp_at : (js : List Commit) → ((i j : ℕ) (c d : Commit) → slice_get js i ≡ Some c → slice_get js j ≡ Some d → c.by ≡ d.by → i ≡ j)
    → (i : ℕ) (c : Commit) → slice_get js i ≡ Some c → stamp_in js c.by ≡ Some c.stamp
stamp_at [] names i c at = cc
stamp_at (d ∷ cs) names zero c at =
    let e : d ≡ c = some_eq d c at in
    rw (← e) (ap (λ t. cond t (Some d.stamp) (stamp_in cs d.by)) (name_self d.by))
stamp_at (d ∷ cs) names (suc i) c at =
    elim (same_name d.by c.by) as (λ t. same_name d.by c.by ≡ t → cond t (Some d.stamp) (stamp_in cs c.by) ≡ Some c.stamp) [
      | true ↦ λ e. let no : 0 ≡ suc i = names 0 (suc i) d c refl at (name_eq d.by c.by e) in absurd (omega arith)
      | false ↦ λ e. stamp_at cs (λ a b x y at_a at_b same. let up : suc a ≡ suc b = names (suc a) (suc b) x y at_a at_b same in omega arith) i c at
    ] refl

-- a stamp stays while the journal grows
pub stamp_longer : (js more : List Commit) (by : TxnName) (stamp : ℕ) → stamp_in js by ≡ Some stamp → stamp_in (js ++ more) by ≡ Some stamp
stamp_longer [] more by stamp is = cc
stamp_longer (c ∷ cs) more by stamp is = elim (same_name c.by by) as (λ t. cond t (Some c.stamp) (stamp_in cs by) ≡ Some stamp → cond t (Some c.stamp) (stamp_in (cs ++ more) by) ≡ Some stamp) [
  | true ↦ λ e. e
  | false ↦ λ e. stamp_longer cs more by stamp e
] is

module _ (kind : Kind) (journal : List Commit) (legal : IsLegal kind journal) where
  -- the commits up to a number have committed by it
  pub reached_at : (i : ℕ) (c : Commit) (s : ℕ) → slice_get journal i ≡ Some c → i < s → reached (stamp_in journal c.by) s ≡ true
  reached_at i c s at lt =
      let stamped : c.stamp ≡ i + 1 = (legal.each i c at).stamped in
      ap (λ x. reached x s) (stamp_at journal legal.names i c at) ∙ grind (arith, nat_tests)

  -- those behind it have not
  pub unreached_at : (i : ℕ) (c : Commit) (s : ℕ) → slice_get journal i ≡ Some c → s ≤ i → reached (stamp_in journal c.by) s ≡ false
  unreached_at i c s at le =
      let stamped : c.stamp ≡ i + 1 = (legal.each i c at).stamped in
      ap (λ x. reached x s) (stamp_at journal legal.names i c at) ∙ grind (arith, nat_tests)
