-- In a legal journal a stamp is the place of a commit.
use Rattle.std.proofs.Common.{◌≡◌, ℕ, ◌+◌, ◌<◌, ◌≤◌, List, length, sym, ◌∙◌, ap, arith, inl, inr}
use Rattle.std.specs.Prelude.{slice_get, Option, Some, None}
use Rattle.graph_model.specs.declared.write.Kind.{Kind}
use Rattle.graph_model.specs.declared.journal.Commit.{Commit}
use Rattle.graph_model.specs.declared.journal.TxnName.{TxnName}
use Rattle.graph_model.specs.Legal.{IsLegal}
use Rattle.graph_model.specs.Transactions.{stamp_in}
use Rattle.graph_model.proofs.LegalLemmas.{below_length}
use Rattle.graph_model.proofs.PlaceLemmas.{some_eq}
use Rattle.graph_model.proofs.StampLemmas.{stamped_or_none, stamp_at}

-- whoever has a stamp has the commit of that place
pub stamp_place : (kind : Kind) (js : List Commit) → IsLegal kind js → (by : TxnName) (stamp : ℕ)
    → stamp_in js by ≡ Some stamp
    → (i : ℕ) × (c : Commit) × (slice_get js i ≡ Some c) × (c.by ≡ by) × (stamp ≡ i + 1) × (stamp ≤ length js)
stamp_place kind js legal by stamp e = elim (stamped_or_none js by)
    as (λ _. (i : ℕ) × (c : Commit) × (slice_get js i ≡ Some c) × (c.by ≡ by) × (stamp ≡ i + 1) × (stamp ≤ length js)) [
      | inl r ↦
          let own : stamp_in js (r.1).by ≡ Some (r.1).stamp = stamp_at js legal.names r.0 r.1 r.2 in
          let both : ◌≡◌ {A = Option ℕ} (Some stamp) (Some (r.1).stamp) = sym e ∙ ap (stamp_in js) (sym r.3) ∙ own in
          let same : stamp ≡ (r.1).stamp = some_eq stamp (r.1).stamp both in
          let place : (r.1).stamp ≡ r.0 + 1 = (legal.each r.0 r.1 r.2).stamped in
          let within : r.0 < length js = below_length js r.0 r.1 r.2 in
          (r.0, r.1, r.2, r.3, same ∙ place, omega (arith, same, place, within))
      | inr none ↦ let no : ◌≡◌ {A = Option ℕ} (Some stamp) None = sym e ∙ none in cc
    ]
