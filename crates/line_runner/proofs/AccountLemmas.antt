-- Calls by the account of their pass, one behind the other.
use Rattle.std.proofs.Common.{◌≡◌, ℕ, List, [], ◌++◌, refl, sym, ◌∙◌, ap, subst}
use Rattle.std.specs.Prelude.{IsSome, Result, Ok, Err}
use Rattle.std.proofs.lemmas.List.{append-nil, append_assoc}
use Rattle.graph_model.specs.declared.write.Write.{Write}
use Rattle.graph_model.specs.declared.journal.Commit.{Commit}
use Rattle.graph_model.specs.declared.refusal.Cause.{Cause}
use Rattle.graph_model.specs.declared.refusal.Cause.TheVariants.{Later, Holder}
use Rattle.graph_model.specs.declared.refusal.Refusal.{Refusal}
use Rattle.graph_model.specs.declared.refusal.Refusal.TheVariants as refusals
use Rattle.graph_model.specs.Account.{Account}
use Rattle.graph_model.specs.AccountSteps.{GoesOn, ReadsBy, WritesAt, WritesBy, AbortsBy, ended, with_cause}
use Rattle.line_runner.proofs.CoreLemmas.{some_of}

-- nothing was seen and nothing done
pub reads_none : (a : Account) → ReadsBy a a
reads_none a = record { seen = ([], sym (append-nil a.seen)); others = refl }

-- one call behind another that has changed nothing of the pass
pub reads_then : (f : Account → Account) → ((a : Account) (seen : List Commit) → record (f (record a { seen = seen })) { seen = [] } ≡ record (f a) { seen = [] })
    → (a b c : Account) → ReadsBy a b → GoesOn b (f b) c → GoesOn a (f a) c
reads_then f blind a b c first second = record {
  seen = (first.seen.0 ++ second.seen.0, second.seen.1 ∙ ap (λ xs. xs ++ second.seen.0) first.seen.1 ∙ append_assoc a.seen first.seen.0 second.seen.0);
  others = second.others ∙ ap (λ (x : Account). record (f x) { seen = c.seen }) first.others ∙ ap (λ (x : Account). record x { seen = c.seen }) (blind a b.seen);
}

pub reads_more : (a b c : Account) → ReadsBy a b → ReadsBy b c → ReadsBy a c
reads_more a b c first second = reads_then (λ x. x) (λ x seen. refl) a b c first second

pub reads_aborts : (a b c : Account) → ReadsBy a b → AbortsBy b c → AbortsBy a c
reads_aborts a b c first second = reads_then ended (λ x seen. refl) a b c first second

-- a call leaves these as they are
pub record Keeps (s t : Account) : Type 0 where
  pub job : t.job ≡ s.job
  pub begun : t.begun ≡ s.begun
  pub allowed : t.allowed ≡ s.allowed

pub keeps_on : (s changed t : Account) → GoesOn s changed t → Keeps s changed → Keeps s t
keeps_on s changed t goes same = record {
  job = ap (λ (x : Account). x.job) goes.others ∙ same.job;
  begun = ap (λ (x : Account). x.begun) goes.others ∙ same.begun;
  allowed = ap (λ (x : Account). x.allowed) goes.others ∙ same.allowed;
}

pub keeps_more : (s t u : Account) → Keeps s t → Keeps t u → Keeps s u
keeps_more s t u a b = record { job = b.job ∙ a.job; begun = b.begun ∙ a.begun; allowed = b.allowed ∙ a.allowed }

pub keeps_none : (s : Account) → Keeps s s
keeps_none s = record { job = refl; begun = refl; allowed = refl }

-- a write leaves the transaction open
abbrev Stays : Account → Account → Type 0
Stays s t = (t.start ≡ s.start) × Keeps s t

still : (old changed new : Account) → GoesOn old changed new → Stays old changed → Stays old new
still old changed new goes same = (ap (λ (x : Account). x.start) goes.others ∙ same.0, keeps_on old changed new goes same.1)

still_cause : (old : Account) (start : ℕ) (w : Write) (cause : Cause) → Stays old (with_cause old start w cause)
still_cause old start w (Later stamp) = (refl, keeps_none old)
still_cause old start w (Holder by) = (refl, record { job = refl; begun = refl; allowed = refl })

pub write_stays : (old : Account) (start : ℕ) (w : Write) (r : Result (Unit {0}) Refusal) (new : Account) → WritesAt old start w r new → (new.start ≡ old.start) × Keeps old new
write_stays old start w (Ok u) new is = still old _ new is.1 (refl, record { job = refl; begun = refl; allowed = refl })
write_stays old start w (Err refusals.SelfLoop) new is = still old _ new is.1 (refl, keeps_none old)
write_stays old start w (Err (refusals.NoVertex v)) new is = still old _ new is.1 (refl, keeps_none old)
write_stays old start w (Err refusals.VertexExists) new is = still old _ new is.1 (refl, keeps_none old)
write_stays old start w (Err refusals.EdgeExists) new is = still old _ new is.1 (refl, keeps_none old)
write_stays old start w (Err refusals.NoEdge) new is = still old _ new is.1 (refl, keeps_none old)
write_stays old start w (Err refusals.HasEdges) new is = still old _ new is.1 (refl, keeps_none old)
write_stays old start w (Err (refusals.Conflict cause)) new is = still old _ new is.2 (still_cause old start w cause)
write_stays old start w (Err (refusals.Full leaves)) new is = still old _ new is.3 (refl, record { job = refl; begun = refl; allowed = refl })
write_stays old start w (Err refusals.NoMemory) new is = still old _ new is (refl, keeps_none old)

pub still_open : (old : Account) → IsSome old.start → (w : Write) (r : Result (Unit {0}) Refusal) (new : Account) → WritesBy old w r new → IsSome new.start
still_open old open_is w r new by =
    let o = some_of old.start open_is in
    subst IsSome (sym (write_stays old o.0 w r new (by o.0 o.1)).0) open_is
