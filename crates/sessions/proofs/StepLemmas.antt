-- What calls of its engine leave of a session's account, which has an open transaction or none.
use Rattle.std.proofs.Common.{◌≡◌, ℕ, Option, Some, None, refl, sym, ◌∙◌, ap, subst}
use Rattle.std.specs.Prelude.{IsSome, Result, Ok, Err}
use Rattle.graph_model.specs.declared.journal.Begun.{Begun}
use Rattle.graph_model.specs.declared.refusal.BeginRefusal.{BeginRefusal}
use Rattle.graph_model.specs.declared.refusal.BeginRefusal.TheVariants as begin_refusals
use Rattle.graph_model.specs.declared.refusal.Cause.TheVariants.{Later, Holder}
use Rattle.graph_model.specs.declared.refusal.Refusal.{Refusal}
use Rattle.graph_model.specs.declared.refusal.Refusal.TheVariants as refusals
use Rattle.graph_model.specs.declared.write.Write.{Write}
use Rattle.graph_model.specs.Account.{Account}
use Rattle.graph_model.specs.AccountSteps.{AbortsBy, BeginsBy, CommitsBy, GoesOn, IsSteady, ReadsBy, RefusesBy, WritesAt, WritesBy}
use Rattle.graph_model.specs.Refused.{IsWithinLimits}
use Rattle.graph_model.proofs.AccountLemmas.{abort_keeps, begin_keeps, commit_keeps, read_keeps, write_keeps}
use Rattle.sessions.specs.Sessions.{HasNone, HasOpen}
use Rattle.sessions.proofs.PropLemmas.{has_open}

-- ---- start and job

-- it has the start and the job of the other
abbrev pub IsAsOpen : Account → Account → Type 0
IsAsOpen old new = (new.start ≡ old.start) × (new.job ≡ old.job)

goes_on : (old changed new : Account) → IsAsOpen old changed → GoesOn old changed new → IsAsOpen old new
goes_on old changed new same goes =
    (ap (λ (a : Account). a.start) goes.others ∙ same.0, ap (λ (a : Account). a.job) goes.others ∙ same.1)

refused_as_open : (old new : Account) (start : ℕ) (w : Write) (r : Refusal) → RefusesBy old start w r new
    → IsAsOpen old new
refused_as_open old new start w refusals.SelfLoop h = goes_on old old new (refl, refl) h.1
refused_as_open old new start w (refusals.NoVertex v) h = goes_on old old new (refl, refl) h.1
refused_as_open old new start w refusals.VertexExists h = goes_on old old new (refl, refl) h.1
refused_as_open old new start w refusals.EdgeExists h = goes_on old old new (refl, refl) h.1
refused_as_open old new start w refusals.NoEdge h = goes_on old old new (refl, refl) h.1
refused_as_open old new start w refusals.HasEdges h = goes_on old old new (refl, refl) h.1
refused_as_open old new start w (refusals.Conflict (Later stamp)) h = goes_on old _ new (refl, refl) h.2
refused_as_open old new start w (refusals.Conflict (Holder by)) h = goes_on old _ new (refl, refl) h.2
refused_as_open old new start w (refusals.Full leaves) h = goes_on old _ new (refl, refl) h.3
refused_as_open old new start w refusals.NoMemory h = goes_on old old new (refl, refl) h

written_as_open : (old new : Account) (start : ℕ) (w : Write) (r : Result (Unit {0}) Refusal)
    → WritesAt old start w r new → IsAsOpen old new
written_as_open old new start w (Ok u) h = goes_on old _ new (refl, refl) h.1
written_as_open old new start w (Err e) h = refused_as_open old new start w e h

-- ---- with an open transaction

pub start_there : (number start : ℕ) (account : Account) → ∥ HasOpen number start account ∥₁ → IsSome account.start
start_there number start account kept = subst IsSome (sym (has_open number start account kept).opened) refl

-- what holds of every start holds of this one
pub at_start : (number start : ℕ) (account : Account) → ∥ HasOpen number start account ∥₁ → (P : ℕ → Type 0)
    → ((s : ℕ) → account.start ≡ Some s → P s) → P start
at_start number start account kept P all = all start (has_open number start account kept).opened

module _ (number start turns now : ℕ) (old new : Account) (steady : IsSteady new turns now) where
  pub read_open : HasOpen number start old → ReadsBy old new → HasOpen number start new
  read_open was reads = record {
    valid = read_keeps old was.valid new steady.legal reads;
    opened = ap (λ (a : Account). a.start) reads.others ∙ was.opened;
    numbered = ap (λ (a : Account). a.job) reads.others ∙ was.numbered;
  }

  pub wrote_open : (w : Write) (r : Result (Unit {0}) Refusal) → IsWithinLimits w → HasOpen number start old
      → WritesBy old w r new → HasOpen number start new
  wrote_open w r within was writes =
      let same = written_as_open old new start w r (writes start was.opened) in
      record {
        valid = write_keeps old was.valid start was.opened w within r new steady.legal writes;
        opened = same.0 ∙ was.opened;
        numbered = same.1 ∙ was.numbered;
      }

  pub committed_none : (stamp : Option ℕ) → HasOpen number start old → CommitsBy old stamp new → HasNone number new
  committed_none stamp was commits = record {
    valid = commit_keeps old was.valid stamp new steady.legal commits;
    none = (by_stamp stamp commits).0;
    numbered = (by_stamp stamp commits).1 ∙ was.numbered;
  }
    where
      by_stamp : (stamp : Option ℕ) → CommitsBy old stamp new → (new.start ≡ None) × (new.job ≡ old.job)
      by_stamp None h = (ap (λ (a : Account). a.start) h.1.others, ap (λ (a : Account). a.job) h.1.others)
      by_stamp (Some n) h = (ap (λ (a : Account). a.start) h.1.others, ap (λ (a : Account). a.job) h.1.others)

  pub aborted_none : HasOpen number start old → AbortsBy old new → HasNone number new
  aborted_none was aborts = record {
    valid = abort_keeps old was.valid new steady.legal aborts;
    none = ap (λ (a : Account). a.start) aborts.others;
    numbered = ap (λ (a : Account). a.job) aborts.others ∙ was.numbered;
  }

-- ---- with none

module _ (number turns now : ℕ) (old new : Account) (steady : IsSteady new turns now) where
  pub read_none : HasNone number old → ReadsBy old new → HasNone number new
  read_none was reads = record {
    valid = read_keeps old was.valid new steady.legal reads;
    none = ap (λ (a : Account). a.start) reads.others ∙ was.none;
    numbered = ap (λ (a : Account). a.job) reads.others ∙ was.numbered;
  }

  pub begun_open : (begun : Begun) → HasNone number old → BeginsBy old (Ok begun) new → HasOpen number begun.start new
  begun_open begun was begins = record {
    valid = begin_keeps old was.valid (Ok begun) new steady.legal begins;
    opened = ap (λ (a : Account). a.start) begins.opened.others;
    numbered = ap (λ (a : Account). a.job) begins.opened.others ∙ was.numbered;
  }

  pub refused_none : (why : BeginRefusal) → HasNone number old → BeginsBy old (Err why) new → HasNone number new
  refused_none begin_refusals.TxnsUsed was begins = read_none was begins.1
  refused_none begin_refusals.NoMemory was begins = read_none was begins
