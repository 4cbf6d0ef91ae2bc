-- Behind a line by the account of its pass, the lines tell of that account.
use Rattle.std.proofs.Common.{◌≡◌, ℕ, zero, suc, ◌+◌, ◌<◌, ◌≤◌, List, [], ◌∷◌, ◌++◌, length, refl, sym, ◌∙◌, ap, subst, arith, cond, length-append, append_assoc}
use Rattle.std.specs.Prelude.{Bool, true, false, ◌&&◌, ◌||◌, not, nat_lt, slice_get, Option, Some, None, is_some, Result, Ok, Err, Contains}
use Rattle.std.proofs.lemmas.Bool.{true≢false}
use Rattle.graph_model.specs.declared.write.Kind.{Kind}
use Rattle.graph_model.specs.declared.write.Write.{Write}
use Rattle.graph_model.specs.declared.journal.Begun.{Begun}
use Rattle.graph_model.specs.declared.journal.Commit.{Commit}
use Rattle.graph_model.specs.declared.refusal.Cause.TheVariants.{Later, Holder}
use Rattle.graph_model.specs.declared.refusal.Refusal.{Refusal}
use Rattle.graph_model.specs.declared.refusal.Refusal.TheVariants as refusals
use Rattle.graph_model.specs.Account.{Account, Sighting}
use Rattle.graph_model.specs.AccountSteps.{GoesOn, ReadsBy, BeginsAt, WritesAt, CommitsBy, AbortsBy, ended, view_of, last_with}
use Rattle.graph_model.specs.Conflict.{meets, later}
use Rattle.graph_model.specs.Legal.{IsLegal}
use Rattle.graph_model.proofs.ConflictLemmas.{in_filtered}
use Rattle.graph_model.proofs.LegalLemmas.{below_length, get_front}
use Rattle.graph_model.proofs.PlaceLemmas.{some_eq}
use Rattle.run_model.specs.declared.command.Command.{Command}
use Rattle.run_model.specs.declared.answer.Answer.{Answer}
use Rattle.run_model.specs.declared.answer.Answer.TheVariants as answers
use Rattle.run_model.specs.declared.command.Command.TheVariants as commands
use Rattle.run_model.specs.Commands.{next_txn, IsScript}
use Rattle.run_model.specs.AnsweredLines.{AnsweredLine, effect, is_stopped}
use Rattle.run_model.specs.Answering.{refusal_answer}
use Rattle.side_runs.specs.ByAccount.{write_answer, RefusedLeaves, WriteLeaves, LiveLineBy, skips_behind, made_behind}
use Rattle.run_model.specs.Run.{txn_name}
use Rattle.run_model.specs.Jobs.{is_end}
use Rattle.run_model.proofs.AnswerLemmas.{IsWithinTxn, within_txn, must_begin, IsPlain, query_plain, kernel_plain, plain_makes_none}
use Rattle.side_runs.proofs.MadeLemmas.{line_of}
use Rattle.side_runs.proofs.TellLemmas.{Tells, tells_wait, tells_over, tells_begun, tells_plain, tells_written}

-- what a list contains stands at a place
pub contained_at : {X : Type 0} (xs : List X) (x : X) → Contains xs x → (i : ℕ) × (slice_get xs i ≡ Some x)
contained_at [] x (k, lt, at) = absurd (omega arith)
contained_at (y ∷ xs) x (zero, lt, at) = (0, ap Some at)
contained_at (y ∷ xs) x (suc k, lt, at) = let r = contained_at xs x (k, omega arith, at) in (suc r.0, r.1)

-- the stamp of a later commit that was seen is no greater than the number of those
pub later_below : (kind : Kind) (seen more journal : List Commit) → journal ≡ seen ++ more → IsLegal kind journal → (start : ℕ) (w : Write) (stamp : ℕ)
    → Contains (later kind seen start w) stamp → stamp ≤ length seen
later_below kind seen more journal e legal start w stamp is =
    let place = contained_at (later kind seen start w) stamp is in
    let found = in_filtered (λ (c : Commit). c.stamp) (λ c. nat_lt start c.stamp && meets kind w c.writes) seen place.0 stamp place.1 in
    let there : slice_get journal found.0 ≡ Some found.1 = ap (λ js. slice_get js found.0) e ∙ get_front seen more found.0 found.1 found.2 in
    let stamped : (found.1).stamp ≡ found.0 + 1 = (legal.each found.0 found.1 there).stamped in
    let within : found.0 < length seen = below_length seen found.0 found.1 found.2 in
    omega (arith, stamped, within, found.4)

-- within a transaction a line that makes no write leaves what was made
made_inside : (made : List (List Write)) (r : Command) (a : Answer) → ((txn : ℕ) → next_txn txn r ≡ txn) → (effect a).writes ≡ false → made_behind made r a ≡ made
made_inside made commands.Begin a same none = absurd (let e = same 0 in omega (arith, e))
made_inside made commands.Commit a same none = refl
made_inside made commands.Abort a same none = refl
made_inside made (commands.Write w) a same none = ap (λ b. cond b (last_with made w) made) none
made_inside made (commands.Read query) a same none = refl
made_inside made (commands.Run kernel file) a same none = refl

module _ (kind : Kind) (load : List Write) (job : ℕ) (journal : List Commit) (legal : IsLegal kind journal) (before : List AnsweredLine) (now : Account) (c : Command) (rest : List Command) where
  abbrev line : Answer → AnsweredLine
  line a = line_of (next_txn now.begun c) c a

  -- a line that is skipped
  pub tells_skip : (new : Account) → Tells kind load job before true now (c ∷ rest) → ReadsBy now new
      → Tells kind load job (before ++ line answers.Skipped ∷ []) (not (is_end c)) new rest
  tells_skip new t g =
      let inside : IsWithinTxn c rest = within_txn c rest t.place.script in
      let a : Answer = answers.Skipped in
      subst (λ x. Tells kind load job (before ++ line a ∷ []) (not (is_end c)) x rest) (sym g.others)
      (tells_over kind load job before true now c rest t new.seen g.seen.0 g.seen.1 a (not (is_end c)) now.start now.own now.sighted now.filled now.stamps (t.place.closed refl)
      (inside.same now.begun) (made_inside now.made c a inside.same refl) refl (omega arith) (λ f. ap (λ b. b || false) (t.place.stopped refl)) inside.script)

  module _ (t : Tells kind load job before false now (c ∷ rest)) where
    -- where no transaction is open the line begins one
    pub tells_begin : now.start ≡ None → (begun : Begun) (new : Account) → BeginsAt now begun new
        → Tells kind load job (before ++ line (answers.Begun begun.by begun.start) ∷ []) false new rest
    tells_begin closed begun new b =
        let first = must_begin c rest (subst (λ x. IsScript (Some x) (c ∷ rest)) (ap is_some closed) t.place.script) in
        let g = b.opened in
        let named : begun.by ≡ txn_name job (now.begun + 1) = b.by ∙ ap (λ k. txn_name k (now.begun + 1)) t.job_is in
        subst (λ by. Tells kind load job (before ++ line (answers.Begun by begun.start) ∷ []) false new rest) (sym named)
        (subst (λ x. Tells kind load job (before ++ line (answers.Begun (txn_name job (now.begun + 1)) begun.start) ∷ []) false x rest) (sym g.others)
        (tells_begun kind load job before false now c rest t new.seen g.seen.0 g.seen.1 begun.start first.0 b.from b.until first.1))

    module _ (start : ℕ) (opened : now.start ≡ Some start) where
      inside : IsWithinTxn c rest
      inside = within_txn c rest (subst (λ x. IsScript (Some x) (c ∷ rest)) (ap is_some opened) t.place.script)

      abbrev Goal : Answer → Account → Type 0
      Goal a new = Tells kind load job (before ++ line a ∷ []) (effect a).stops new rest

      -- an answer that leaves all as it is
      by_plain : (a : Answer) → IsPlain a → is_end c ≡ false → (new : Account) → ReadsBy now new → Goal a new
      unfolding inside
      by_plain a plain mid new g =
          subst (λ s. Tells kind load job (before ++ line a ∷ []) s new rest) (sym plain.stops)
          (subst (λ x. Tells kind load job (before ++ line a ∷ []) false x rest) (sym g.others)
          (tells_plain kind load job before false now c rest t new.seen g.seen.0 g.seen.1 (inside.same now.begun) start opened (subst (λ b. IsScript (Some (not b)) rest) mid inside.script)
          a (made_inside now.made c a inside.same plain.writes) (plain_makes_none (line a) plain) plain.start plain.writes plain.stops plain.stamp))

      -- the transaction ends
      by_end : (a : Answer) → is_end c ≡ true → (effect a).writes ≡ false → (effect a).stops ≡ false → (stamps : List ℕ) (new : Account) → (effect a).stamp ≤ length new.seen → GoesOn now (record (ended now) { stamps = stamps }) new → Goal a new
      unfolding inside
      by_end a last no_write no_stop stamps new stamp g =
          subst (λ s. Tells kind load job (before ++ line a ∷ []) s new rest) (sym no_stop)
          (subst (λ x. Tells kind load job (before ++ line a ∷ []) false x rest) (sym g.others)
          (tells_over kind load job before false now c rest t new.seen g.seen.0 g.seen.1 a false None [] now.sighted now.filled stamps refl (inside.same now.begun)
          (made_inside now.made c a inside.same no_write) no_write stamp (λ f. absurd (true≢false (sym f))) (subst (λ b. IsScript (Some (not b)) rest) last inside.script)))

      -- it is stopped
      by_stop : (a : Answer) → is_end c ≡ false → (effect a).writes ≡ false → (effect a).stops ≡ true → (sighted : List Sighting) (filled : Bool) (between new : Account)
          → (effect a).stamp ≤ length between.seen → GoesOn now (record now { sighted = sighted; filled = filled }) between → AbortsBy between new → Goal a new
      unfolding inside
      by_stop a mid no_write stop sighted filled between new stamp g h =
          let seen : new.seen ≡ now.seen ++ (g.seen.0 ++ h.seen.0) = h.seen.1 ∙ ap (λ xs. xs ++ h.seen.0) g.seen.1 ∙ append_assoc now.seen g.seen.0 h.seen.0 in
          let count : length new.seen ≡ length between.seen + length h.seen.0 = ap length h.seen.1 ∙ length-append between.seen h.seen.0 in
          let new_is : new ≡ record now { seen = new.seen; start = None; own = []; sighted = sighted; filled = filled } =
          h.others ∙ ap (λ (m : Account). record (ended m) { seen = new.seen }) g.others in
          subst (λ s. Tells kind load job (before ++ line a ∷ []) s new rest) (sym stop)
          (subst (λ x. Tells kind load job (before ++ line a ∷ []) true x rest) (sym new_is)
          (tells_over kind load job before false now c rest t new.seen (g.seen.0 ++ h.seen.0) seen a true None [] sighted filled now.stamps refl (inside.same now.begun)
          (made_inside now.made c a inside.same no_write) no_write (omega (arith, stamp, count))
          (λ f. ap (λ b. is_stopped now.begun before || (b || false)) stop ∙ either (is_stopped now.begun before)) (subst (λ b. IsScript (Some (not b)) rest) mid inside.script)))
        where
          either : (b : Bool) → (b || true) ≡ true
          either true = refl
          either false = refl

      -- a write that was refused
      by_refusal : (refusal : Refusal) (w : Write) → c ≡ commands.Write w → (between new : Account) → (more : List Commit) → journal ≡ new.seen ++ more
          → WritesAt now start w (Err refusal) between → RefusedLeaves refusal between new → Goal (refusal_answer refusal) new
      by_refusal refusals.SelfLoop w is between new more ahead does leaves =
          tells_wait kind load job (before ++ line answers.SelfLoop ∷ []) false between rest new (by_plain answers.SelfLoop (record { start = refl; writes = refl; stops = refl; stamp = refl }) (ap is_end is) between does.1) leaves
      by_refusal (refusals.NoVertex v) w is between new more ahead does leaves =
          tells_wait kind load job (before ++ line (answers.NoVertex v) ∷ []) false between rest new (by_plain (answers.NoVertex v) (record { start = refl; writes = refl; stops = refl; stamp = refl }) (ap is_end is) between does.1) leaves
      by_refusal refusals.VertexExists w is between new more ahead does leaves =
          tells_wait kind load job (before ++ line answers.Exists ∷ []) false between rest new (by_plain answers.Exists (record { start = refl; writes = refl; stops = refl; stamp = refl }) (ap is_end is) between does.1) leaves
      by_refusal refusals.EdgeExists w is between new more ahead does leaves =
          tells_wait kind load job (before ++ line answers.Exists ∷ []) false between rest new (by_plain answers.Exists (record { start = refl; writes = refl; stops = refl; stamp = refl }) (ap is_end is) between does.1) leaves
      by_refusal refusals.NoEdge w is between new more ahead does leaves =
          tells_wait kind load job (before ++ line answers.NoEdge ∷ []) false between rest new (by_plain answers.NoEdge (record { start = refl; writes = refl; stops = refl; stamp = refl }) (ap is_end is) between does.1) leaves
      by_refusal refusals.HasEdges w is between new more ahead does leaves =
          tells_wait kind load job (before ++ line answers.HasEdges ∷ []) false between rest new (by_plain answers.HasEdges (record { start = refl; writes = refl; stops = refl; stamp = refl }) (ap is_end is) between does.1) leaves
      by_refusal (refusals.Conflict (Later stamp)) w is between new more ahead does leaves =
          let further : journal ≡ between.seen ++ (leaves.seen.0 ++ more) = ahead ∙ ap (λ xs. xs ++ more) leaves.seen.1 ∙ append_assoc between.seen leaves.seen.0 more in
          let below : stamp ≤ length between.seen = later_below kind between.seen (leaves.seen.0 ++ more) journal further legal start w stamp (subst (λ k. Contains (later k between.seen start w) stamp) t.kind_is does.1) in
          by_stop (answers.Conflict (Later stamp)) (ap is_end is) refl refl now.sighted now.filled between new below does.2 leaves
      by_refusal (refusals.Conflict (Holder by)) w is between new more ahead does leaves =
          by_stop (answers.Conflict (Holder by)) (ap is_end is) refl refl (now.sighted ++ record { by = by; write = w; start = start } ∷ []) now.filled between new (omega arith) does.2 leaves
      by_refusal (refusals.Full leaves_there) w is between new more ahead does leaves =
          by_stop answers.Full (ap is_end is) refl refl now.sighted true between new (omega arith) does.3 leaves
      by_refusal refusals.NoMemory w is between new more ahead does leaves = absurd leaves

      -- a write
      by_write : (w : Write) → c ≡ commands.Write w → (result : Result (Unit {0}) Refusal) (between new : Account) → (more : List Commit) → journal ≡ new.seen ++ more
          → WritesAt now start w result between → WriteLeaves result between new → Goal (write_answer result) new
      unfolding inside
      by_write w is (Ok done) between new more ahead does leaves =
          let g = does.1 in
          tells_wait kind load job (before ++ line answers.Done ∷ []) false between rest new
          (subst (λ x. Tells kind load job (before ++ line answers.Done ∷ []) false x rest) (sym g.others)
          (tells_written kind load job before false now c rest t between.seen g.seen.0 g.seen.1 (inside.same now.begun) start opened
          (subst (λ r. IsScript (Some (not (is_end r))) rest) is inside.script) w is)) leaves
      by_write w is (Err refusal) between new more ahead does leaves = by_refusal refusal w is between new more ahead does leaves

      by_commit : (stamp : Option ℕ) (new : Account) → c ≡ commands.Commit → CommitsBy now stamp new → Goal (answers.Committed stamp) new
      by_commit None new is does = by_end (answers.Committed None) (ap is_end is) refl refl now.stamps new (omega arith) does.1
      by_commit (Some stamp) new is does =
          let has = does.0 start opened in
          let below : has.place < length new.seen = below_length new.seen has.place has.commit has.at in
          by_end (answers.Committed (Some stamp)) (ap is_end is) refl refl (now.stamps ++ stamp ∷ []) new (omega (arith, below, has.stamped)) does.1

      -- a line where a transaction is open
      pub tells_open : (r : Command) → c ≡ r → (a : Answer) (new : Account) (more : List Commit) → journal ≡ new.seen ++ more → LiveLineBy now r a new → Goal a new
      unfolding inside
      tells_open commands.Begin is a new more ahead does = let none : (txn : ℕ) → txn + 1 ≡ txn = (λ txn. ap (next_txn txn) (sym is) ∙ inside.same txn) in absurd (omega (arith, none 0))
      tells_open commands.Commit is a new more ahead does = subst (λ x. Goal x new) (sym does.1) (by_commit does.0 new is does.2)
      tells_open commands.Abort is a new more ahead does = subst (λ x. Goal x new) (sym does.0) (by_end answers.Aborted (ap is_end is) refl refl now.stamps new (omega arith) does.1)
      tells_open (commands.Write w) is a new more ahead does = subst (λ x. Goal x new) (sym does.4)
          (by_write w is does.1 does.2 new more ahead (subst (λ n. WritesAt now n w does.1 does.2) (some_eq does.0 start (sym does.3 ∙ opened)) does.5) does.6)
      tells_open (commands.Read query) is a new more ahead does =
          by_plain a (subst IsPlain (sym (does.0 start opened)) (query_plain now.kind (view_of now start) query)) (ap is_end is) new does.1
      tells_open (commands.Run kernel file) is a new more ahead does =
          by_plain a (subst IsPlain (sym (does.0 start opened)) (kernel_plain (view_of now start) kernel)) (ap is_end is) new does.1

    -- a line that isn't skipped
    pub tells_live : (a : Answer) (new : Account) (more : List Commit) → journal ≡ new.seen ++ more → LiveLineBy now c a new
        → Tells kind load job (before ++ line a ∷ []) (effect a).stops new rest
    tells_live a new more ahead does = by_start now.start refl
      where
        by_start : (s : Option ℕ) → now.start ≡ s → Tells kind load job (before ++ line a ∷ []) (effect a).stops new rest
        by_start (Some start) e = tells_open start e c refl a new more ahead does
        by_start None e =
            let first = must_begin c rest (subst (λ x. IsScript (Some x) (c ∷ rest)) (ap is_some e) t.place.script) in
            let begins : LiveLineBy now commands.Begin a new = subst (λ r. LiveLineBy now r a new) first.0 does in
            subst (λ x. Tells kind load job (before ++ line x ∷ []) (effect x).stops new rest) (sym begins.1) (tells_begin e begins.0 new begins.2)

  -- any line
  pub tells_line : (skipping : Bool) (a : Answer) (new : Account) (more : List Commit) → journal ≡ new.seen ++ more → Tells kind load job before skipping now (c ∷ rest)
      → cond skipping ((a ≡ answers.Skipped) × ReadsBy now new) (LiveLineBy now c a new)
      → Tells kind load job (before ++ line a ∷ []) (skips_behind skipping c a) new rest
  tells_line true a new more ahead t does = subst (λ x. Tells kind load job (before ++ line x ∷ []) (not (is_end c)) new rest) (sym does.0) (tells_skip new t does.1)
  tells_line false a new more ahead t does = tells_live t a new more ahead does
