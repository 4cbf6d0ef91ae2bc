-- The stamps that passes keep of their transactions are those of the journal.
use Rattle.std.proofs.Common.{◌≡◌, ℕ, suc, List, [], ◌∷◌, ◌++◌, length, refl, sym, ◌∙◌, ap, cond}
use Rattle.std.specs.Prelude.{false, Some, None}
use Rattle.std.proofs.lemmas.Bool.{false_from_ne_true}
use mathlib.Core.Logic.{dite}
use native.Mathlib.Decide.{ℕ_discrete}
use Rattle.graph_model.specs.declared.journal.Commit.{Commit}
use Rattle.graph_model.specs.declared.journal.TxnName.{TxnName}
use Rattle.graph_model.specs.declared.write.Write.{Write}
use Rattle.graph_model.specs.Conflict.{same_name}
use Rattle.graph_model.specs.Passes.{revised}
use Rattle.graph_model.specs.Transactions.{stamp_in, HasNotCommitted}
use Rattle.graph_model.proofs.TestLemmas.{name_eq, name_self}
use Rattle.store_relation.specs.Passes.{PassState, kept_stamp, stamp_by}
use Rattle.store_relation.proofs.ListLemmas.{revised_here, revised_else}
use Rattle.store_relation.proofs.MadeLemmas.{kept_at_end, kept_at_other}

-- a commit of another name changes nobody's stamp
stamp_other : (js : List Commit) (c : Commit) (by : TxnName) → same_name c.by by ≡ false
    → stamp_in (js ++ c ∷ []) by ≡ stamp_in js by
stamp_other [] c by away = ap (λ t. cond t (Some c.stamp) None) away
stamp_other (d ∷ js) c by away = ap (λ o. cond (same_name d.by by) (Some d.stamp) o) (stamp_other js c by away)

-- and its own name has its stamp, if it had none before
stamp_last : (js : List Commit) (c : Commit) → HasNotCommitted js c.by
    → stamp_in (js ++ c ∷ []) c.by ≡ Some c.stamp
stamp_last [] c none = ap (λ t. cond t (Some c.stamp) None) (name_self c.by)
stamp_last (d ∷ js) c none =
    ap (λ t. cond t (Some d.stamp) (stamp_in (js ++ c ∷ []) c.by)) (none 0 d refl)
    ∙ stamp_last js c (λ i e at. none (suc i) e at)

-- a pass ends its latest transaction with the stamp of the commit that follows the journal
module _ (pass : ℕ → PassState) (p : ℕ) (commits : List Commit) (c : Commit)
    (named : c.by ≡ record { job = p; number = suc (length (pass p).past) })
    (none : HasNotCommitted commits c.by)
    (st' : PassState) (ws : List Write)
    (past : st'.past ≡ (pass p).past ++ record { writes = ws; stamp = Some c.stamp } ∷ [])
    (kept : (by : TxnName) → stamp_by pass by ≡ stamp_in commits by) where
  kept_of_others : (by : TxnName) → (c.by ≡ by → ⊥) → stamp_by (revised pass p st') by ≡ stamp_by pass by
      → stamp_by (revised pass p st') by ≡ stamp_in (commits ++ c ∷ []) by
  kept_of_others by other same =
      same ∙ kept by
      ∙ sym (stamp_other commits c by (false_from_ne_true _ (λ e. other (name_eq c.by by e))))

  kept_here : (by : TxnName) → by.job ≡ p
      → stamp_by (revised pass p st') by ≡ kept_stamp st'.past by.number
  kept_here by same =
      ap (λ q. kept_stamp (revised pass p st' q).past by.number) same
      ∙ ap (λ (u : PassState). kept_stamp u.past by.number) (revised_here pass p st')

  pub kept_published : (by : TxnName) → stamp_by (revised pass p st') by ≡ stamp_in (commits ++ c ∷ []) by
  kept_published by = dite (ℕ_discrete by.job p)
      (λ same. dite (ℕ_discrete by.number (suc (length (pass p).past)))
      (λ latest. kept_of_latest same latest)
      (λ other. kept_of_others by (λ e. other (ap (λ (b : TxnName). b.number) (sym e ∙ named)))
      (kept_here by same ∙ ap (λ l. kept_stamp l by.number) past ∙ kept_at_other (pass p).past _ by.number other
      ∙ ap (λ q. kept_stamp (pass q).past by.number) (sym same))))
      (λ other. kept_of_others by (λ e. other (ap (λ (b : TxnName). b.job) (sym e ∙ named)))
      (ap (λ (u : PassState). kept_stamp u.past by.number) (revised_else pass p st' by.job other)))
    where
      kept_of_latest : by.job ≡ p → by.number ≡ suc (length (pass p).past)
          → stamp_by (revised pass p st') by ≡ stamp_in (commits ++ c ∷ []) by
      kept_of_latest same latest =
          let me : c.by ≡ by = named ∙ (λ i. record { job = sym same i; number = sym latest i }) in
          kept_here by same ∙ ap (λ l. kept_stamp l by.number) past
          ∙ kept_at_end (pass p).past _ by.number latest
          ∙ sym (ap (stamp_in (commits ++ c ∷ [])) (sym me) ∙ stamp_last commits c none)
