-- What a write makes of the account of its pass.
use Rattle.std.proofs.Common.{◌≡◌, ℕ, ◌<◌, length, refl, sym, ◌∙◌, ap, subst, cond}
use Rattle.std.specs.Prelude.{Option, Some, None, Result, Ok, Err, Contains, slice_get}
use mathlib.Core.List.{IsPrefix}
use Rattle.graph_model.specs.declared.refusal.Cause.TheVariants.{Later, Holder}
use Rattle.graph_model.specs.declared.refusal.Refusal.{Refusal}
use Rattle.graph_model.specs.declared.refusal.Refusal.TheVariants as refusals
use Rattle.graph_model.specs.declared.write.Write.{Write}
use Rattle.graph_model.specs.Account.{IsValid}
use Rattle.graph_model.specs.AccountSteps.{GoesOn, RefusesBy, WritesBy, view_of, with_cause}
use Rattle.graph_model.specs.Conflict.{later}
use Rattle.graph_model.specs.Legal.{IsLegal}
use Rattle.graph_model.specs.Refused.{IsWithinLimits, refused}
use Rattle.graph_model.proofs.AccountLemmas.{read_keeps, write_keeps}
use Rattle.txn_manager.specs.declared.config.Config.{Config}
use Rattle.pass_writes.specs.StoreRelationDeclared.stage.Stage.TheVariants.{Open}
use Rattle.pass_writes.specs.StoreRelation.Passes.{PassState, account_of, is_active, start_of}
use Rattle.pass_writes.specs.StoreRelation.Steps.{refreshed}
use Rattle.pass_writes.proofs.StoreRelation.AccountLemmas.{account_sees, account_sights, account_writes}
use Rattle.pass_writes.proofs.StoreRelation.ListLemmas.{prefix_all}
use Rattle.pass_writes.specs.PassSteps.Txns.{Refreshes}
use Rattle.pass_writes.specs.declared.making.Written.{Written}
use Rattle.pass_writes.specs.declared.making.Written.TheVariants.{Done, NeedRoom}
use Rattle.pass_writes.specs.Making.{Makes, NotesOnly}
use Rattle.shared_store.specs.Writes.{IsNoted, SeesLater, WritesOver, later_of}

-- the account doesn't know what was found of others
pub notes_unknown : (z : Config) (p : ℕ) (old new : PassState) → NotesOnly old new
    → account_of z p new ≡ account_of z p old
notes_unknown z p old new e = ap (account_of z p) e

module _ (z : Config) (p : ℕ) (old : PassState) (w : Write) (opened : old.stage ≡ Open) where
  some_same : (a b : ℕ) → ◌≡◌ {A = Option ℕ} (Some a) (Some b) → a ≡ b
  some_same a b e = cc

  -- the start of the account is that of the state
  start_is : (start : ℕ) → start_of old ≡ Some start → old.start ≡ start
  start_is start e =
      some_same old.start start ((λ i. cond (is_active (sym opened i)) (Some old.start) None) ∙ e)

  refuses_at : (refusal : Refusal) (new : PassState)
      → RefusesBy (account_of z p old) old.start w refusal (account_of z p new)
      → WritesBy (account_of z p old) w (Err refusal) (account_of z p new)
  refuses_at refusal new by start e =
      subst (λ s. RefusesBy (account_of z p old) s w refusal (account_of z p new)) (start_is start e) by

  same_account : (new : PassState) → NotesOnly old new
      → GoesOn (account_of z p old) (account_of z p old) (account_of z p new)
  same_account new e =
      subst (GoesOn (account_of z p old) (account_of z p old)) (sym (notes_unknown z p old new e))
      (account_sees z p old old.seen (prefix_all old.seen))

  -- ANSWERED, but for a later commit
  writes_over : (result : Result Written Refusal) (new : PassState) → later_of result ≡ None
      → Makes z p old w result new
      → WritesOver (account_of z p old) w result (account_of z p new)
  writes_over (Ok Done) new not_later makes =
      subst (λ (a : PassState). WritesBy (account_of z p old) w (Ok tt) (account_of z p a)) (sym makes.1)
      (account_writes z p old w opened makes.0)
  writes_over (Ok (NeedRoom short)) new not_later makes = (
    λ start e. subst (λ s. refused (view_of (account_of z p old) s) w ≡ None) (start_is start e) makes.0,
    notes_unknown z p old new makes.1,
  )
  writes_over (Err refusals.SelfLoop) new not_later makes =
      refuses_at refusals.SelfLoop new (makes.0, same_account new makes.1)
  writes_over (Err (refusals.NoVertex q)) new not_later makes =
      refuses_at (refusals.NoVertex q) new (makes.0, same_account new makes.1)
  writes_over (Err refusals.VertexExists) new not_later makes =
      refuses_at refusals.VertexExists new (makes.0, same_account new makes.1)
  writes_over (Err refusals.EdgeExists) new not_later makes =
      refuses_at refusals.EdgeExists new (makes.0, same_account new makes.1)
  writes_over (Err refusals.NoEdge) new not_later makes =
      refuses_at refusals.NoEdge new (makes.0, same_account new makes.1)
  writes_over (Err refusals.HasEdges) new not_later makes =
      refuses_at refusals.HasEdges new (makes.0, same_account new makes.1)
  writes_over (Err (refusals.Conflict (Later stamp))) new not_later makes = cc
  writes_over (Err (refusals.Conflict (Holder by))) new not_later makes =
      refuses_at (refusals.Conflict (Holder by)) new (
        makes.0,
        makes.1,
        subst (λ (a : PassState). GoesOn (account_of z p old)
            (with_cause (account_of z p old) old.start w (Holder by)) (account_of z p a)) (sym makes.2)
            (account_sights z p old w by old.seen (prefix_all old.seen)),
      )
  writes_over (Err (refusals.Full leaves)) new not_later makes = absurd makes
  writes_over (Err refusals.NoMemory) new not_later makes =
      refuses_at refusals.NoMemory new (same_account new makes)

  -- LATER: the commit that was met was seen then
  later_over : (stamp : ℕ) (mid new : PassState) → Makes z p old w (Err (refusals.Conflict (Later stamp))) mid
      → (clock : ℕ) → Refreshes z mid clock new → Contains (later z.kind new.seen mid.start w) stamp
      → WritesOver (account_of z p old) w (Err (refusals.Conflict (Later stamp))) (account_of z p new)
  later_over stamp mid new makes clock fresh contains =
      refuses_at (refusals.Conflict (Later stamp)) new (
        makes.0,
        subst (λ s. Contains (later z.kind new.seen s w) stamp) (ap (λ (a : PassState). a.start) makes.2) contains,
        subst (λ (a : PassState). GoesOn (account_of z p old) (account_of z p old) (account_of z p a)) (sym new_is)
            (account_sees z p old fresh.commits front),
      )
    where
      new_is : new ≡ refreshed (record old { met = mid.met; looks = mid.looks }) fresh.commits
      new_is = fresh.is ∙ (λ i. refreshed (is i) fresh.commits)
        where
          is : mid ≡ record old { met = mid.met; looks = mid.looks }
          is = makes.2 ∙ (λ i. record old { met = (sym makes.2 i).met; looks = mid.looks })

      front : IsPrefix old.seen fresh.commits
      front = subst (λ (s : PassState). IsPrefix s.seen fresh.commits) makes.2 fresh.front

  plain : (result : Result Written Refusal) → later_of result ≡ None → (mid new : PassState)
      → Makes z p old w result mid
      → new ≡ mid → WritesOver (account_of z p old) w result (account_of z p new)
  plain result none mid new makes same =
      subst (λ (a : PassState). WritesOver (account_of z p old) w result (account_of z p a)) (sym same)
      (writes_over result mid none makes)

  -- OVER: each answer, once the commit that is named is seen
  pub all_over : (result : Result Written Refusal) (mid new : PassState) → Makes z p old w result mid
      → SeesLater z mid w (later_of result) new → WritesOver (account_of z p old) w result (account_of z p new)
  all_over (Ok written) mid new makes seen = plain (Ok written) refl mid new makes seen
  all_over (Err refusals.SelfLoop) mid new makes seen = plain (Err refusals.SelfLoop) refl mid new makes seen
  all_over (Err (refusals.NoVertex q)) mid new makes seen = plain (Err (refusals.NoVertex q)) refl mid new makes seen
  all_over (Err refusals.VertexExists) mid new makes seen = plain (Err refusals.VertexExists) refl mid new makes seen
  all_over (Err refusals.EdgeExists) mid new makes seen = plain (Err refusals.EdgeExists) refl mid new makes seen
  all_over (Err refusals.NoEdge) mid new makes seen = plain (Err refusals.NoEdge) refl mid new makes seen
  all_over (Err refusals.HasEdges) mid new makes seen = plain (Err refusals.HasEdges) refl mid new makes seen
  all_over (Err (refusals.Conflict (Later stamp))) mid new makes seen =
      later_over stamp mid new makes (length new.seen) seen.0 seen.1
  all_over (Err (refusals.Conflict (Holder by))) mid new makes seen =
      plain (Err (refusals.Conflict (Holder by))) refl mid new makes seen
  all_over (Err (refusals.Full leaves)) mid new makes seen = absurd makes
  all_over (Err refusals.NoMemory) mid new makes seen = plain (Err refusals.NoMemory) refl mid new makes seen

  -- NOTED: the commit that is named was noted, and is behind the start
  pub cause_noted : (result : Result Written Refusal) (new : PassState) → Makes z p old w result new
      → IsNoted w (later_of result) new
  cause_noted (Ok written) new makes = tt
  cause_noted (Err refusals.SelfLoop) new makes = tt
  cause_noted (Err (refusals.NoVertex q)) new makes = tt
  cause_noted (Err refusals.VertexExists) new makes = tt
  cause_noted (Err refusals.EdgeExists) new makes = tt
  cause_noted (Err refusals.NoEdge) new makes = tt
  cause_noted (Err refusals.HasEdges) new makes = tt
  cause_noted (Err (refusals.Conflict (Later stamp))) new makes =
      ((λ i. slice_get (makes.2 i).met 0), subst (λ n. n < stamp) (λ i. (sym makes.2 i).start) makes.1)
  cause_noted (Err (refusals.Conflict (Holder by))) new makes = tt
  cause_noted (Err (refusals.Full leaves)) new makes = tt
  cause_noted (Err refusals.NoMemory) new makes = tt

  -- ---- valid accounts

  module _ (valid : IsValid (account_of z p old)) (limit : IsWithinLimits w) (new : PassState)
      (legal : IsLegal z.kind new.seen) where
    start_there : start_of old ≡ Some old.start
    start_there i = cond (is_active (opened i)) (Some old.start) None

    keeps : (result : Result (Unit {0}) Refusal) → WritesBy (account_of z p old) w result (account_of z p new)
        → IsValid (account_of z p new)
    keeps result writes =
        write_keeps (account_of z p old) valid old.start start_there w limit result (account_of z p new) legal writes

    -- VALID: still, whatever was answered
    pub made_valid : (result : Result Written Refusal) → Makes z p old w result new → IsValid (account_of z p new)
    made_valid (Ok Done) makes = keeps (Ok tt) (writes_over (Ok Done) new refl makes)
    made_valid (Ok (NeedRoom short)) makes = subst IsValid (sym (notes_unknown z p old new makes.1)) valid
    made_valid (Err (refusals.Conflict (Later stamp))) makes =
        subst IsValid (sym (ap (account_of z p) makes.2)) valid
    made_valid (Err (refusals.Conflict (Holder by))) makes =
        keeps (Err (refusals.Conflict (Holder by))) (writes_over (Err (refusals.Conflict (Holder by))) new refl makes)
    made_valid (Err refusals.SelfLoop) makes = subst IsValid (sym (notes_unknown z p old new makes.1)) valid
    made_valid (Err (refusals.NoVertex q)) makes = subst IsValid (sym (notes_unknown z p old new makes.1)) valid
    made_valid (Err refusals.VertexExists) makes = subst IsValid (sym (notes_unknown z p old new makes.1)) valid
    made_valid (Err refusals.EdgeExists) makes = subst IsValid (sym (notes_unknown z p old new makes.1)) valid
    made_valid (Err refusals.NoEdge) makes = subst IsValid (sym (notes_unknown z p old new makes.1)) valid
    made_valid (Err refusals.HasEdges) makes = subst IsValid (sym (notes_unknown z p old new makes.1)) valid
    made_valid (Err (refusals.Full leaves)) makes = absurd makes
    made_valid (Err refusals.NoMemory) makes = subst IsValid (sym (notes_unknown z p old new makes)) valid

-- and where more was seen
pub fresh_valid : (z : Config) (p : ℕ) (old new : PassState) (clock : ℕ) → IsValid (account_of z p old)
    → IsLegal z.kind new.seen → Refreshes z old clock new → IsValid (account_of z p new)
fresh_valid z p old new clock valid legal fresh =
    read_keeps (account_of z p old) valid (account_of z p new) legal
    (subst (λ (a : PassState). GoesOn (account_of z p old) (account_of z p old) (account_of z p a)) (sym fresh.is)
    (account_sees z p old fresh.commits fresh.front))
