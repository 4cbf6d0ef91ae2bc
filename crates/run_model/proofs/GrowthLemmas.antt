-- An answer that is right stays right where the journal and the lines of the scripts go on.
use Rattle.std.proofs.Common.{◌≡◌, ℕ, zero, suc, ◌+◌, ◌<◌, ◌≤◌, List, [], ◌∷◌, ◌++◌, map, length, sym, ◌∙◌, ap, subst, arith, cond, inl, inr, length-append, append_assoc}
use Rattle.std.specs.Prelude.{◌⊎◌, true, false, ◌&&◌, nat_lt, slice_get, Option, Some, None, Contains}
use Rattle.std.specs.List.{filter}
use Rattle.std.proofs.lemmas.List.{map-append, append-nil}
use Rattle.std.proofs.lemmas.List.Elements.{filter-append, Contains-append_left}
use Rattle.graph_model.specs.declared.write.Kind.{Kind}
use Rattle.graph_model.specs.declared.write.Write.{Write}
use Rattle.graph_model.specs.declared.journal.Commit.{Commit}
use Rattle.graph_model.specs.declared.refusal.Cause.{Cause}
use Rattle.graph_model.specs.declared.refusal.Cause.TheVariants.{Later, Holder}
use Rattle.graph_model.specs.declared.refusal.Refusal.{Refusal}
use Rattle.graph_model.specs.Graph.{apply_all}
use Rattle.graph_model.specs.Refused.{refused}
use Rattle.graph_model.specs.Conflict.{meets, later}
use Rattle.graph_model.proofs.LegalLemmas.{graph_at-append, get_front}
use Rattle.run_model.specs.declared.answer.Answer.{Answer}
use Rattle.run_model.specs.declared.answer.Answer.TheVariants as answers
use Rattle.run_model.specs.declared.command.Command.{Command}
use Rattle.run_model.specs.declared.command.Command.TheVariants as commands
use Rattle.run_model.specs.AnsweredLines.{AnsweredLine, own_writes, is_stopped, start_of, newest_shown, snapshot}
use Rattle.run_model.specs.Answering.{query_answer, kernel_answer}
use Rattle.run_model.specs.Run.{Context, MadeClash, IsCause, IsAllowedAnswer, IsWriteAnswer, IsBeginAnswer, IsCommitted, IsCommitAnswer, IsLiveAnswer, IsAnswered, AllAnswered}
use Rattle.run_model.proofs.LineLemmas.{start_below, shown_front}

-- what stands in a list made of two stands in the first, or behind it
front_or_past : {X : Type 0} (xs ys : List X) (i : ℕ) (x : X) → slice_get (xs ++ ys) i ≡ Some x → (slice_get xs i ≡ Some x) ⊎ (length xs ≤ i)
front_or_past [] ys i x e = inr (omega arith)
front_or_past (y ∷ xs) ys zero x e = inl e
front_or_past (y ∷ xs) ys (suc i) x e = elim (front_or_past xs ys i x e) as (λ _. (slice_get xs i ≡ Some x) ⊎ (length (y ∷ xs) ≤ suc i)) [
  | inl p ↦ inl p
  | inr p ↦ inr (omega (arith, p))
]

module _ (kind : Kind) (load : List Write) (journal more : List Commit) (scripts scripts' : List (List AnsweredLine)) (job : ℕ)
    (stamped : (i : ℕ) (c : Commit) → slice_get (journal ++ more) i ≡ Some c → c.stamp ≡ i + 1)
    (longer : (k : ℕ) (ls : List AnsweredLine) → slice_get scripts k ≡ Some ls → (rest : List AnsweredLine) × (slice_get scripts' k ≡ Some (ls ++ rest))) where
  abbrev old : Context
  old = record { kind = kind; load = load; journal = journal; scripts = scripts; job = job }

  abbrev new : Context
  new = record { kind = kind; load = load; journal = journal ++ more; scripts = scripts'; job = job }

  -- later commits stay later commits
  later_more : (start : ℕ) (w : Write) → later kind (journal ++ more) start w ≡ later kind journal start w ++ later kind more start w
  later_more start w =
      ap (map (λ c. c.stamp)) (filter-append (λ (c : Commit). nat_lt start c.stamp && meets kind w c.writes) journal more)
      ∙ map-append (λ (c : Commit). c.stamp) (filter (λ (c : Commit). nat_lt start c.stamp && meets kind w c.writes) journal) (filter (λ (c : Commit). nat_lt start c.stamp && meets kind w c.writes) more)

  made_more : (lines rest : List AnsweredLine) (u : ℕ) (w : Write) → MadeClash kind lines u w → MadeClash kind (lines ++ rest) u w
  made_more lines rest u w m = record { place = m.place; line = m.line; write = m.write; there = get_front lines rest m.place m.line m.there; txn = m.txn; made = m.made; clashes = m.clashes }

  -- a cause stays one
  cause_grows : (start : ℕ) (w : Write) (cause : Cause) → start ≤ length journal → IsCause old start w cause → IsCause new start w cause
  cause_grows start w (Later stamp) le is = subst (λ xs. Contains xs stamp) (sym (later_more start w)) (Contains-append_left (later kind journal start w) (later kind more start w) stamp is)
  cause_grows start w (Holder by) le is =
      let made = is.1 in
      let behind = longer made.0 made.1 made.3 in (
        is.0,
        (made.0, made.1 ++ behind.0, made.2, behind.1, made_more made.1 behind.0 by.number w made.4),
        λ i c at same. elim (front_or_past journal more i c at) as (λ _. start < c.stamp) [
          | inl p ↦ is.2 i c p same
          | inr p ↦ let stamp : c.stamp ≡ i + 1 = stamped i c at in omega arith
        ],
      )

  allowed_grows : (start : ℕ) (w : Write) (a : Answer) → start ≤ length journal → IsAllowedAnswer old start w a → IsAllowedAnswer new start w a
  allowed_grows start w (answers.Begun by from) le is = absurd is
  allowed_grows start w answers.Done le is = tt
  allowed_grows start w answers.Exists le is = absurd is
  allowed_grows start w answers.SelfLoop le is = absurd is
  allowed_grows start w (answers.NoVertex v) le is = absurd is
  allowed_grows start w answers.NoEdge le is = absurd is
  allowed_grows start w answers.HasEdges le is = absurd is
  allowed_grows start w (answers.Conflict cause) le is = cause_grows start w cause le is
  allowed_grows start w answers.Full le is = is
  allowed_grows start w (answers.Weight weight) le is = absurd is
  allowed_grows start w answers.Nothing le is = absurd is
  allowed_grows start w (answers.Neighbours targets) le is = absurd is
  allowed_grows start w (answers.Counted vertices edges) le is = absurd is
  allowed_grows start w (answers.Table entries) le is = absurd is
  allowed_grows start w (answers.Committed stamp) le is = absurd is
  allowed_grows start w answers.Aborted le is = absurd is
  allowed_grows start w answers.Skipped le is = absurd is

  write_grows : (start : ℕ) (w : Write) (r : Option Refusal) (a : Answer) → start ≤ length journal → IsWriteAnswer old start w r a → IsWriteAnswer new start w r a
  write_grows start w (Some r) a le is = is
  write_grows start w None a le is = allowed_grows start w a le is

  begin_grows : (before : List AnsweredLine) (txn : ℕ) (a : Answer) → IsBeginAnswer old before txn a → IsBeginAnswer new before txn a
  begin_grows before txn (answers.Begun by from) is = (is.0, record { within = omega (arith, (is.1).within, length-append journal more); loaded = (is.1).loaded; shown = (is.1).shown })
  begin_grows before txn answers.Done is = absurd is
  begin_grows before txn answers.Exists is = absurd is
  begin_grows before txn answers.SelfLoop is = absurd is
  begin_grows before txn (answers.NoVertex v) is = absurd is
  begin_grows before txn answers.NoEdge is = absurd is
  begin_grows before txn answers.HasEdges is = absurd is
  begin_grows before txn (answers.Conflict cause) is = absurd is
  begin_grows before txn answers.Full is = absurd is
  begin_grows before txn (answers.Weight weight) is = absurd is
  begin_grows before txn answers.Nothing is = absurd is
  begin_grows before txn (answers.Neighbours targets) is = absurd is
  begin_grows before txn (answers.Counted vertices edges) is = absurd is
  begin_grows before txn (answers.Table entries) is = absurd is
  begin_grows before txn (answers.Committed stamp) is = absurd is
  begin_grows before txn answers.Aborted is = absurd is
  begin_grows before txn answers.Skipped is = absurd is

  committed_grows : (txn start : ℕ) (own : List Write) (stamp : ℕ) → IsCommitted old txn start own stamp → IsCommitted new txn start own stamp
  committed_grows txn start own stamp is = record { place = is.place; numbered = is.numbered; there = get_front journal more is.place _ is.there }

  commit_grows : (txn start : ℕ) (own : List Write) (a : Answer) → IsCommitAnswer old txn start own a → IsCommitAnswer new txn start own a
  commit_grows txn start [] a is = is
  commit_grows txn start (w ∷ ws) (answers.Begun by from) is = absurd is
  commit_grows txn start (w ∷ ws) answers.Done is = absurd is
  commit_grows txn start (w ∷ ws) answers.Exists is = absurd is
  commit_grows txn start (w ∷ ws) answers.SelfLoop is = absurd is
  commit_grows txn start (w ∷ ws) (answers.NoVertex v) is = absurd is
  commit_grows txn start (w ∷ ws) answers.NoEdge is = absurd is
  commit_grows txn start (w ∷ ws) answers.HasEdges is = absurd is
  commit_grows txn start (w ∷ ws) (answers.Conflict cause) is = absurd is
  commit_grows txn start (w ∷ ws) answers.Full is = absurd is
  commit_grows txn start (w ∷ ws) (answers.Weight weight) is = absurd is
  commit_grows txn start (w ∷ ws) answers.Nothing is = absurd is
  commit_grows txn start (w ∷ ws) (answers.Neighbours targets) is = absurd is
  commit_grows txn start (w ∷ ws) (answers.Counted vertices edges) is = absurd is
  commit_grows txn start (w ∷ ws) (answers.Table entries) is = absurd is
  commit_grows txn start (w ∷ ws) (answers.Committed (Some stamp)) is = committed_grows txn start (w ∷ ws) stamp is
  commit_grows txn start (w ∷ ws) (answers.Committed None) is = absurd is
  commit_grows txn start (w ∷ ws) answers.Aborted is = absurd is
  commit_grows txn start (w ∷ ws) answers.Skipped is = absurd is

  -- the snapshot of a start within the journal stays the same
  same_snapshot : (txn : ℕ) (before : List AnsweredLine) → start_of txn before ≤ length journal → snapshot kind (journal ++ more) txn before ≡ snapshot kind journal txn before
  same_snapshot txn before le = ap (λ g. apply_all kind g (own_writes txn before)) (graph_at-append kind journal more (start_of txn before) le)

  live_grows : (before : List AnsweredLine) (txn : ℕ) (r : Command) (a : Answer) → start_of txn before ≤ length journal → IsLiveAnswer old before txn r a → IsLiveAnswer new before txn r a
  live_grows before txn commands.Begin a le is = begin_grows before txn a is
  live_grows before txn commands.Commit a le is = commit_grows txn (start_of txn before) (own_writes txn before) a is
  live_grows before txn commands.Abort a le is = is
  live_grows before txn (commands.Write w) a le is =
      subst (λ g. IsWriteAnswer new (start_of txn before) w (refused g w) a) (sym (same_snapshot txn before le)) (write_grows (start_of txn before) w _ a le is)
  live_grows before txn (commands.Read query) a le is = is ∙ ap (λ g. query_answer kind g query) (sym (same_snapshot txn before le))
  live_grows before txn (commands.Run kernel file) a le is = is ∙ ap (λ g. kernel_answer g kernel) (sym (same_snapshot txn before le))

  -- a line's answer stays right
  pub answered_grows : (before : List AnsweredLine) (l : AnsweredLine) → start_of l.txn before ≤ length journal → IsAnswered old before l → IsAnswered new before l
  answered_grows before l le = elim (is_stopped l.txn before) as (λ s.
      cond s (l.answer ≡ answers.Skipped) (IsLiveAnswer old before l.txn l.command l.answer)
      → cond s (l.answer ≡ answers.Skipped) (IsLiveAnswer new before l.txn l.command l.answer)) [
        | true ↦ λ is. is
        | false ↦ λ is. live_grows before l.txn l.command l.answer le is
      ]

  -- and so do those of all lines
  pub all_grow : (before ls : List AnsweredLine) → newest_shown (before ++ ls) ≤ length journal → AllAnswered old before ls → AllAnswered new before ls
  all_grow before [] le is = tt
  all_grow before (l ∷ ls) le is =
      let first : start_of l.txn before ≤ newest_shown before = start_below l.txn before in
      let part : newest_shown before ≤ newest_shown (before ++ l ∷ ls) = shown_front before (l ∷ ls) in (
        answered_grows before l (omega arith) is.0,
        all_grow (before ++ l ∷ []) ls (subst (λ xs. newest_shown xs ≤ length journal) (sym (append_assoc before (l ∷ []) ls)) le) is.1,
      )

-- one line more is answered
pub all_more : (context : Context) (before ls : List AnsweredLine) (l : AnsweredLine) → AllAnswered context before ls → IsAnswered context (before ++ ls) l → AllAnswered context before (ls ++ l ∷ [])
all_more context before [] l all is = (subst (λ xs. IsAnswered context xs l) (append-nil before) is, tt)
all_more context before (k ∷ ls) l all is = (all.0, all_more context (before ++ k ∷ []) ls l all.1 (subst (λ xs. IsAnswered context xs l) (sym (append_assoc before (k ∷ []) ls)) is))
