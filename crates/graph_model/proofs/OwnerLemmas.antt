-- An engine of one owner does to the account of the selected pass what every engine does.
use Rattle.std.proofs.Common.{◌≡◌, ◌≢◌, ℕ, ◌+◌, ◌<◌, List, [], ◌∷◌, ◌++◌, map, cond, length, refl, sym, ◌∙◌, ap, subst, arith}
use Rattle.std.specs.Prelude.{◌==◌, Option, Some, unwrap_or, Result, Ok, Err, Contains, slice_get, slice_set}
use Rattle.std.specs.List.{filter}
use Rattle.std.proofs.lemmas.List.{append-nil, get_or-set_same, map-append}
use Rattle.std.proofs.lemmas.List.Elements.{Contains-get_or, filter-append}
use Rattle.std.proofs.lemmas.Option.{unwrap_or-slice_get, slice_get_within, get_or_from_slice_get}
use Rattle.graph_model.specs.declared.write.Write.{Write}
use Rattle.graph_model.specs.declared.journal.Begun.{Begun}
use Rattle.graph_model.specs.declared.journal.TxnName.{TxnName}
use Rattle.graph_model.specs.declared.journal.Commit.{Commit}
use Rattle.graph_model.specs.declared.refusal.Cause.{Cause}
use Rattle.graph_model.specs.declared.refusal.Cause.TheVariants.{Later, Holder}
use Rattle.graph_model.specs.declared.refusal.Refusal.{Refusal}
use Rattle.graph_model.specs.declared.refusal.Refusal.TheVariants as refusals
use Rattle.graph_model.specs.declared.refusal.BeginRefusal.{BeginRefusal}
use Rattle.graph_model.specs.declared.refusal.BeginRefusal.TheVariants as begin_refusals
use Rattle.graph_model.specs.Account.{Account}
use Rattle.graph_model.specs.Conflict.{later, OpenTxn, same_name, holder, newest_later}
use Rattle.graph_model.proofs.PlaceLemmas.{get_end, some_eq}
use Rattle.graph_model.proofs.TestLemmas.{name_self, self_eq}
use Rattle.graph_model.proofs.ExampleLemmas.{true_false}
use Rattle.graph_model.proofs.PassLemmas.{found_in}
use Rattle.graph_model.proofs.ConflictLemmas.{greatest_in, holder_is, cause_is_holder, cause_is_later}
use Rattle.graph_model.specs.AccountSteps.{GoesOn, BeginsBy, begun_at, WritesAt, WritesBy, IsNamed, RefusesBy, CommitsBy, with_cause, ended, IsSteady}
use Rattle.graph_model.specs.OwnerCalls.{PassState, Core, no_pass, pass_at, current, with_current, account_of, stamps_of, account_here, name_here, running_of, open_txns, conflict_here, begun_pass, written_pass, ended_pass, BeginsHere, WritesHere, RefusesHere, CommitsHereFrom, one_more}
use Rattle.graph_model.specs.OwnerLaws.{IsChosen, IsExact, OneOwnerBegins, OneOwnerWrites, OneOwnerReads, OneOwnerCommits, OneOwnerAborts, OneOwnerServes}
use Rattle.graph_model.specs.Transactions.{commit_of}

-- what stands at a place after it was set
at_set : {X : Type 0} (xs : List X) (i : ℕ) (x other : X) → i < length xs → unwrap_or (slice_get (slice_set xs i x) i) other ≡ x
at_set xs i x other lt = unwrap_or-slice_get (slice_set xs i x) i other ∙ get_or-set_same xs i x other lt

-- the account of the selected pass is that of the state that it was given
pub account_set : (core : Core) (state : PassState) → IsChosen core → account_here (with_current core state) ≡ account_of core core.selected state
account_set core state chosen = ap (account_of core core.selected) (at_set core.passes core.selected state no_pass chosen)

-- nothing more was seen
as_it_is : (old changed new : Account) → changed.seen ≡ old.seen → new ≡ changed → GoesOn old changed new
as_it_is old changed new same is = record {
  seen = ([], ap (λ (a : Account). a.seen) is ∙ same ∙ sym (append-nil old.seen));
  others = is ∙ (λ i. record changed { seen = sym (ap (λ (a : Account). a.seen) is) i });
}

goes_on : (s t : Core) (state : PassState) → IsChosen s → t ≡ with_current s state → GoesOn (account_here s) (account_of s s.selected state) (account_here t)
goes_on s t state chosen is = as_it_is (account_here s) (account_of s s.selected state) (account_here t) refl (ap account_here is ∙ account_set s state chosen)

served_same : (s t : Core) (state : PassState) → t ≡ with_current s state → t.served ≡ s.served
served_same s t state is = ap (λ (c : Core). c.served) is

-- what the exact call says of the account, with the legal journal behind it
steadily : {Here By : Type 0} (s t : Core) (turns : ℕ) → IsExact Here s t → By × (t.served ≡ turns) → By × IsSteady (account_here t) turns t.served
steadily s t turns did (by, served) = (by, record { legal = did.legal; served = served })

stays : (s t : Core) → t ≡ s → GoesOn (account_here s) (account_here s) (account_here t)
stays s t is = as_it_is (account_here s) (account_here s) (account_here t) refl (ap account_here is)

pub reads_by : OneOwnerReads
reads_by s t did = steadily s t s.served did (stays s t did.here, ap (λ (c : Core). c.served) did.here)

pub serves_by : OneOwnerServes
serves_by s t did = steadily s t (one_more s.served) did
    (as_it_is (account_here s) (account_here s) (account_here t) refl (ap account_here did.here), ap (λ (c : Core). c.served) did.here)

pub aborts_by : OneOwnerAborts
aborts_by s t did = steadily s t s.served did (goes_on s t (ended_pass s) did.chosen did.here, served_same s t (ended_pass s) did.here)

begins_from : (s t : Core) (r : Result Begun BeginRefusal) → IsChosen s → BeginsHere s r t → BeginsBy (account_here s) r (account_here t) × (t.served ≡ s.served)
begins_from s t (Ok begun) chosen (room, is, after) =
    let start : begun.start ≡ length s.journal = ap (λ (b : Begun). b.start) is in
    let more = goes_on s t (begun_pass s) chosen after in
    let seen : length (account_here t).seen ≡ length s.journal = ap (λ (c : Core). length c.journal) after in (
      record {
        room = room;
        by = ap (λ (b : Begun). b.by) is;
        from = omega arith;
        until = omega arith;
        opened = subst (λ n. GoesOn (account_here s) (begun_at (account_here s) n) (account_here t)) (sym start) more;
      },
      served_same s t (begun_pass s) after,
    )
begins_from s t (Err begin_refusals.TxnsUsed) chosen (used, is) = ((used, stays s t is), ap (λ (c : Core). c.served) is)
begins_from s t (Err begin_refusals.NoMemory) chosen is = (stays s t is, ap (λ (c : Core). c.served) is)

pub begins_by : OneOwnerBegins
begins_by s t r did = steadily s t s.served did (begins_from s t r did.chosen did.here)

-- a cause that is noted in the pass is noted in its account
cause_noted : (s : Core) (start : ℕ) (w : Write) (cause : Cause)
    → account_of s s.selected (record (current s) { sighted = (with_cause (account_here s) start w cause).sighted }) ≡ with_cause (account_here s) start w cause
cause_noted s start w (Later stamp) = refl
cause_noted s start w (Holder by) = refl

-- ---- causes of conflicts

-- an open transaction that is named is of another pass, since no pass has two
holder_elsewhere : (s : Core) (w : Write) (by : TxnName) → holder s.kind (open_txns s) (name_here s) w ≡ Some by → by.job ≢ s.selected
holder_elsewhere s w by named same =
    let holds = holder_is s.kind (open_txns s) (name_here s) w by named in
    let is = holds.1 in
    let found = found_in (λ (state : PassState). state.begun) running_of 0 s.passes is.listed.0 holds.0 is.listed.1 in
    let here : (holds.0).by ≡ name_here s = holds.2 ∙ name_of_pass found.0 found.1 found.3 (sym holds.2 ∙ ap (λ (x : OpenTxn). x.by) found.5) in
    true_false (sym (name_self (name_here s)) ∙ ap (λ n. same_name n (name_here s)) (sym here) ∙ is.other)
  where
    name_of_pass : (j : ℕ) (state : PassState) → slice_get s.passes j ≡ Some state → by ≡ record { job = 0 + j; number = state.begun } → by ≡ name_here s
    name_of_pass j state at is =
        let place : 0 + j ≡ s.selected = sym (ap (λ (n : TxnName). n.job) is) ∙ same in
        let at_it : j ≡ s.selected = omega (arith, place) in
        let state_is : current s ≡ state = ap (λ k. pass_at s k) (sym at_it) ∙ ap (λ o. unwrap_or o no_pass) at in
        is ∙ (λ i. record { job = place i; number = (sym state_is i).begun })

-- a commit that is named is later and clashes
later_there : (s : Core) (start : ℕ) (w : Write) (stamp : ℕ) → newest_later s.kind s.journal start w ≡ Some stamp → Contains (later s.kind s.journal start w) stamp
later_there s start w stamp named =
    let place = greatest_in (later s.kind s.journal start w) stamp named in
    subst (Contains (later s.kind s.journal start w)) (get_or_from_slice_get _ place.0 stamp stamp place.1) (Contains-get_or _ place.0 stamp (slice_get_within _ place.0 stamp place.1))

cause_named : (s : Core) (start : ℕ) (w : Write) (cause : Cause) → conflict_here s start w ≡ Some cause → IsNamed (account_here s) start w s.journal cause
cause_named s start w (Later stamp) met = later_there s start w stamp (cause_is_later (holder s.kind (open_txns s) (name_here s) w) (newest_later s.kind s.journal start w) stamp met).1
cause_named s start w (Holder by) met = holder_elsewhere s w by (cause_is_holder (holder s.kind (open_txns s) (name_here s) w) (newest_later s.kind s.journal start w) by met)

refuses_by : (s t : Core) (start : ℕ) (w : Write) (r : Refusal) → IsChosen s → RefusesHere s start w r t → RefusesBy (account_here s) start w r (account_here t) × (t.served ≡ s.served)
refuses_by s t start w refusals.SelfLoop chosen (why, is) = ((why, stays s t is), ap (λ (c : Core). c.served) is)
refuses_by s t start w (refusals.NoVertex v) chosen (why, is) = ((why, stays s t is), ap (λ (c : Core). c.served) is)
refuses_by s t start w refusals.VertexExists chosen (why, is) = ((why, stays s t is), ap (λ (c : Core). c.served) is)
refuses_by s t start w refusals.EdgeExists chosen (why, is) = ((why, stays s t is), ap (λ (c : Core). c.served) is)
refuses_by s t start w refusals.NoEdge chosen (why, is) = ((why, stays s t is), ap (λ (c : Core). c.served) is)
refuses_by s t start w refusals.HasEdges chosen (why, is) = ((why, stays s t is), ap (λ (c : Core). c.served) is)
refuses_by s t start w (refusals.Conflict cause) chosen (allowed, met, is) =
    let seen : (account_here t).seen ≡ s.journal = ap (λ (c : Core). c.journal) is in (
      (
        allowed,
        subst (λ cs. IsNamed (account_here s) start w cs cause) (sym seen) (cause_named s start w cause met),
        subst (λ (a : Account). GoesOn (account_here s) a (account_here t)) (cause_noted s start w cause) (goes_on s t _ chosen is),
      ),
      served_same s t _ is,
    )
refuses_by s t start w (refusals.Full leaves) chosen (allowed, met, inserts, leaves_are, count, is) =
    ((allowed, inserts, leaves_are, goes_on s t _ chosen is), served_same s t _ is)
refuses_by s t start w refusals.NoMemory chosen is = (stays s t is, ap (λ (c : Core). c.served) is)

-- the open transaction has one start
pub at_start : (old : Account) (w : Write) (r : Result (Unit {0}) Refusal) (new : Account) (start : ℕ) → old.start ≡ Some start → WritesAt old start w r new → WritesBy old w r new
at_start old w r new start began at = λ other also. subst (λ n. WritesAt old n w r new) (some_eq start other (sym began ∙ also)) at

writes_from : (s t : Core) (w : Write) (r : Result (Unit {0}) Refusal) → IsChosen s → WritesHere s w r t → WritesBy (account_here s) w r (account_here t) × (t.served ≡ s.served)
writes_from s t w (Ok done) chosen (start, began, (allowed, met, is)) =
    (at_start (account_here s) w (Ok done) (account_here t) start began (allowed, goes_on s t (written_pass s w) chosen is), served_same s t (written_pass s w) is)
writes_from s t w (Err refusal) chosen (start, began, refuses) =
    let by = refuses_by s t start w refusal chosen refuses in
    (at_start (account_here s) w (Err refusal) (account_here t) start began by.0, by.1)

pub writes_by : OneOwnerWrites
writes_by s t w r did = steadily s t s.served did (writes_from s t w r did.chosen did.here)

commits_from : (s t : Core) (r : Option ℕ) (start : ℕ) (own : List Write) → own ≡ (current s).own → (current s).start ≡ Some start → IsChosen s → CommitsHereFrom s start own r t
    → CommitsBy (account_here s) r (account_here t) × (t.served ≡ s.served)
commits_from s t r start [] same began chosen (none, is) =
    subst (λ (a : Option ℕ). CommitsBy (account_here s) a (account_here t) × (t.served ≡ s.served)) (sym none)
    ((sym same, goes_on s t (ended_pass s) chosen is), served_same s t (ended_pass s) is)
commits_from s t r start (w ∷ ws) same began chosen (stamp, is) =
    let c : Commit = commit_of s.journal (name_here s) (record { start = start; writes = w ∷ ws }) in
    let longer : Core = record (with_current s (ended_pass s)) { journal = s.journal ++ c ∷ [] } in
    let here : account_here t ≡ account_of longer s.selected (ended_pass s) =
    ap account_here is ∙ ap (account_of longer s.selected) (at_set s.passes s.selected (ended_pass s) no_pass chosen) in
    let some : 0 < length (current s).own = subst (λ (ws : List Write). 0 < length ws) same (omega arith) in
    let seen : (account_here t).seen ≡ s.journal ++ c ∷ [] = ap (λ (a : Account). a.seen) here in
    let stamps_more : stamps_of s.selected (s.journal ++ c ∷ []) ≡ stamps_of s.selected s.journal ++ (length s.journal + 1) ∷ [] =
    ap (map (λ (d : Commit). d.stamp)) (filter-append (λ (d : Commit). d.by.job == s.selected) s.journal (c ∷ []) ∙ ap (λ b. filter (λ (d : Commit). d.by.job == s.selected) s.journal ++ cond b (c ∷ []) []) (self_eq s.selected))
    ∙ map-append (λ (d : Commit). d.stamp) (filter (λ (d : Commit). d.by.job == s.selected) s.journal) (c ∷ []) in
    subst (λ (a : Option ℕ). CommitsBy (account_here s) a (account_here t) × (t.served ≡ s.served)) (sym stamp) (
      (
        (λ other also. record {
          wrote = some;
          place = length s.journal;
          commit = c;
          at = ap (λ (cs : List Commit). slice_get cs (length s.journal)) seen ∙ get_end s.journal c;
          stamped = refl;
          begun = some_eq start other (sym began ∙ also);
          by = refl;
          writes = same;
        }),
        record { seen = (c ∷ [], seen); others = here ∙ (λ i. record (ended (account_here s)) { seen = sym seen i; stamps = stamps_more i }) },
      ),
      ap (λ (d : Core). d.served) is,
    )

pub commits_by : OneOwnerCommits
commits_by s t r did = let at = did.here in steadily s t s.served did (commits_from s t r at.0 (current s).own refl at.1 did.chosen at.2)
