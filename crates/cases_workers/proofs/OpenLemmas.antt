-- A write and a read leave the transaction open, of the same job.
use Rattle.std.proofs.Common.{◌≡◌, ℕ, Option, Some, None, refl, ◌∙◌, ap, subst, sym}
use Rattle.std.specs.Prelude.{IsSome, Result, Ok, Err}
use Rattle.graph_model.specs.declared.write.Write.{Write}
use Rattle.graph_model.specs.declared.refusal.Cause.TheVariants.{Later, Holder}
use Rattle.graph_model.specs.declared.refusal.Refusal.{Refusal}
use Rattle.graph_model.specs.declared.refusal.Refusal.TheVariants as refusals
use Rattle.graph_model.specs.Account.{Account}
use Rattle.graph_model.specs.AccountSteps.{GoesOn, ReadsBy, RefusesBy, WritesAt, WritesBy}

-- it has the start and the job of the other
abbrev pub IsAsOpen : Account → Account → Type 0
IsAsOpen old new = (new.start ≡ old.start) × (new.job ≡ old.job)

goes_on : (old changed new : Account) → IsAsOpen old changed → GoesOn old changed new → IsAsOpen old new
goes_on old changed new same goes =
    (ap (λ (a : Account). a.start) goes.others ∙ same.0, ap (λ (a : Account). a.job) goes.others ∙ same.1)

refused_as_open : (old new : Account) (start : ℕ) (w : Write) (r : Refusal) → RefusesBy old start w r new
    → IsAsOpen old new
refused_as_open old new start w refusals.SelfLoop h = goes_on old old new (refl, refl) h.1
refused_as_open old new start w (refusals.NoVertex v) h = goes_on old old new (refl, refl) h.1
refused_as_open old new start w refusals.VertexExists h = goes_on old old new (refl, refl) h.1
refused_as_open old new start w refusals.EdgeExists h = goes_on old old new (refl, refl) h.1
refused_as_open old new start w refusals.NoEdge h = goes_on old old new (refl, refl) h.1
refused_as_open old new start w refusals.HasEdges h = goes_on old old new (refl, refl) h.1
refused_as_open old new start w (refusals.Conflict (Later stamp)) h = goes_on old _ new (refl, refl) h.2
refused_as_open old new start w (refusals.Conflict (Holder by)) h = goes_on old _ new (refl, refl) h.2
refused_as_open old new start w (refusals.Full leaves) h = goes_on old _ new (refl, refl) h.3
refused_as_open old new start w refusals.NoMemory h = goes_on old old new (refl, refl) h

written_as_open : (old new : Account) (start : ℕ) (w : Write) (r : Result (Unit {0}) Refusal)
    → WritesAt old start w r new → IsAsOpen old new
written_as_open old new start w (Ok u) h = goes_on old _ new (refl, refl) h.1
written_as_open old new start w (Err e) h = refused_as_open old new start w e h

-- open, and of the same job as it was first
abbrev pub IsOpenAs : Account → Account → Type 0
IsOpenAs first now = IsSome now.start × (now.job ≡ first.job)

pub stays_open : (first old new : Account) (w : Write) (r : Result (Unit {0}) Refusal) → IsOpenAs first old
    → WritesBy old w r new → IsOpenAs first new
stays_open first old new w r is_open h = by_start old.start refl is_open.0
  where
    by_start : (o : Option ℕ) → old.start ≡ o → IsSome o → IsOpenAs first new
    by_start None e is = cc
    by_start (Some start) e is =
        let same = written_as_open old new start w r (h start e) in
        (subst IsSome (sym (same.0 ∙ e)) is, same.1 ∙ is_open.1)

pub read_open : (first old new : Account) → IsOpenAs first old → ReadsBy old new → IsOpenAs first new
read_open first old new is_open h =
    let same = goes_on old old new (refl, refl) h in (subst IsSome (sym same.0) is_open.0, same.1 ∙ is_open.1)
