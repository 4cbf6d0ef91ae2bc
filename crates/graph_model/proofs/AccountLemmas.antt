-- What each call keeps of a valid account; and that a scan that is done has given all.
use Rattle.std.proofs.Common.{◌≡◌, ℕ, zero, suc, ◌+◌, ◌<◌, ◌≤◌, List, [], ◌∷◌, ◌++◌, length, take, refl, sym, ◌∙◌, ap, subst, arith, length-append}
use Rattle.std.specs.Prelude.{Bool, true, false, Option, Some, None, Result, Ok, Err, IfSome, IfNone}
use Rattle.std.specs.List.{flat_map}
use Rattle.std.proofs.lemmas.List.{append-nil}
use Rattle.graph_model.specs.declared.write.Write.{Write}
use Rattle.graph_model.specs.declared.journal.Begun.{Begun}
use Rattle.graph_model.specs.declared.journal.Commit.{Commit}
use Rattle.graph_model.specs.declared.row.Row.{Row}
use Rattle.graph_model.specs.declared.row.Cursor.{Cursor}
use Rattle.graph_model.specs.declared.refusal.Cause.{Cause}
use Rattle.graph_model.specs.declared.refusal.Cause.TheVariants.{Later, Holder}
use Rattle.graph_model.specs.declared.refusal.Refusal.{Refusal}
use Rattle.graph_model.specs.declared.refusal.Refusal.TheVariants as refusals
use Rattle.graph_model.specs.declared.refusal.BeginRefusal.{BeginRefusal}
use Rattle.graph_model.specs.declared.refusal.BeginRefusal.TheVariants as begin_refusals
use Rattle.graph_model.specs.Graph.{Graph}
use Rattle.graph_model.specs.Refused.{refused, AllAllowed, IsWithinLimits}
use Rattle.graph_model.specs.History.{graph_at}
use Rattle.graph_model.specs.Legal.{IsLegal}
use Rattle.graph_model.specs.Account.{Account, IsOpenTxn, IsValid}
use Rattle.graph_model.specs.AccountSteps.{view_of, GoesOn, ReadsBy, begun_at, BeginsBy, last_with, with_write, with_cause, WritesAt, WritesBy, ended, stamped, CommitsBy, AbortsBy}
use Rattle.graph_model.specs.AccountLaws.{ScansToTheEnd}
use Rattle.graph_model.specs.Scans.{rows_left, ScansBy}
use Rattle.graph_model.proofs.HistoryLemmas.{all_more, allowed_more}
use Rattle.graph_model.proofs.LegalLemmas.{graph_at-append}
use Rattle.graph_model.proofs.TestLemmas.{never}

-- ---- the last list

last_with-append : (earlier : List (List Write)) (ws : List Write) (w : Write) → last_with (earlier ++ ws ∷ []) w ≡ earlier ++ (ws ++ w ∷ []) ∷ []
last_with-append [] ws w = refl
last_with-append (v ∷ []) ws w = refl
last_with-append (v ∷ u ∷ vs) ws w = ap (λ xs. v ∷ xs) (last_with-append (u ∷ vs) ws w)

length-last_with : (lists : List (List Write)) (w : Write) → length (last_with lists w) ≡ length lists
length-last_with [] w = refl
length-last_with (v ∷ []) w = refl
length-last_with (v ∷ u ∷ vs) w = ap suc (length-last_with (u ∷ vs) w)

-- ---- valid accounts

some_map : {X : Type 0} (x : Option X) (P Q : X → Type 0) → ((a : X) → P a → Q a) → IfSome x P → IfSome x Q
some_map None P Q f h = tt
some_map (Some a) P Q f h = f a h

-- the open transaction stays what it is where more of the journal is seen
open_longer : (account : Account) (start : ℕ) (seen rest : List Commit) → seen ≡ account.seen ++ rest → IsOpenTxn account start → IsOpenTxn (record account { seen = seen }) start
open_longer account start seen rest longer is =
    let inside : start ≤ length account.seen = is.seen in
    let count : length seen ≡ length account.seen + length rest = ap length longer ∙ length-append account.seen rest in
    record {
      seen = omega (arith, inside, count);
      allowed = subst (λ g. AllAllowed account.kind g account.own) (sym (ap (λ cs. graph_at account.kind cs start) longer ∙ graph_at-append account.kind account.seen rest start inside)) is.allowed;
      within = is.within;
      last = is.last;
    }

module _ (old : Account) (valid : IsValid old) where
  -- where more of the journal is seen, and nothing else that counts has changed
  valid_longer : (seen rest : List Commit) → seen ≡ old.seen ++ rest → IsLegal old.kind seen → IsValid (record old { seen = seen })
  valid_longer seen rest longer legal = record {
    legal = legal;
    current = some_map old.start (IsOpenTxn old) (IsOpenTxn (record old { seen = seen })) (λ start is. open_longer old start seen rest longer is) valid.current;
    idle = valid.idle;
    counted = valid.counted;
    room = valid.room;
  }

  legal_of : (changed new : Account) → changed.kind ≡ old.kind → GoesOn old changed new → IsLegal new.kind new.seen → IsLegal old.kind new.seen
  legal_of changed new same is legal = subst (λ k. IsLegal k new.seen) (ap (λ (a : Account). a.kind) is.others ∙ same) legal

  -- a read keeps an account valid
  pub read_keeps : (new : Account) → IsLegal new.kind new.seen → ReadsBy old new → IsValid new
  read_keeps new legal is = subst IsValid (sym is.others) (valid_longer new.seen is.seen.0 is.seen.1 (legal_of old new refl is legal))

  -- so does `begin`
  pub begin_keeps : (answer : Result Begun BeginRefusal) (new : Account) → IsLegal new.kind new.seen → BeginsBy old answer new → IsValid new
  begin_keeps (Ok answer) new legal is =
      let counted : length (old.made ++ [] ∷ []) ≡ old.begun + 1 = length-append old.made ([] ∷ []) ∙ ap (λ n. n + 1) valid.counted in
      let room : old.begun + 1 ≤ old.allowed = omega (arith, is.room) in
      subst IsValid (sym is.opened.others) (record {
        legal = legal_of (begun_at old answer.start) new refl is.opened legal;
        current = record { seen = is.until; allowed = tt; within = tt; last = (old.made, refl) };
        idle = tt;
        counted = counted;
        room = room;
      })
  begin_keeps (Err begin_refusals.TxnsUsed) new legal is = read_keeps new legal is.1
  begin_keeps (Err begin_refusals.NoMemory) new legal is = read_keeps new legal is

  -- an open one that was met, or a full store, is noted and changes nothing else
  noted : (changed new : Account) → changed ≡ record old { sighted = changed.sighted; filled = changed.filled } → GoesOn old changed new → IsLegal new.kind new.seen → IsValid new
  noted changed new same is legal =
      let whole : IsValid (record old { seen = new.seen }) = valid_longer new.seen is.seen.0 is.seen.1 (legal_of changed new (ap (λ (a : Account). a.kind) same) is legal) in
      subst IsValid (sym (is.others ∙ ap (λ (a : Account). record a { seen = new.seen }) same))
      (record { legal = whole.legal; current = some_map old.start (IsOpenTxn (record old { seen = new.seen })) (IsOpenTxn (record old { seen = new.seen; sighted = changed.sighted; filled = changed.filled })) (λ start txn. record { seen = txn.seen; allowed = txn.allowed; within = txn.within; last = txn.last }) whole.current; idle = whole.idle; counted = whole.counted; room = whole.room })

  caused : (start : ℕ) (w : Write) (cause : Cause) (new : Account) → GoesOn old (with_cause old start w cause) new → IsLegal new.kind new.seen → IsValid new
  caused start w (Later stamp) new is legal = read_keeps new legal is
  caused start w (Holder by) new is legal = noted (with_cause old start w (Holder by)) new refl is legal

  module _ (start : ℕ) (there : old.start ≡ Some start) (w : Write) (limit : IsWithinLimits w) where
    at : IsOpenTxn old start
    at = subst (λ s. IfSome s (IsOpenTxn old)) there valid.current

    wrote : (new : Account) → IsLegal new.kind new.seen → refused (view_of old start) w ≡ None → GoesOn old (with_write old w) new → IsValid new
    unfolding at
    wrote new legal allowed is =
        let longer = open_longer old start new.seen is.seen.0 is.seen.1 at in
        let same_graph : graph_at old.kind new.seen start ≡ graph_at old.kind old.seen start = ap (λ cs. graph_at old.kind cs start) is.seen.1 ∙ graph_at-append old.kind old.seen is.seen.0 start at.seen in
        let more : IsOpenTxn (record (with_write old w) { seen = new.seen }) start = (record {
          seen = longer.seen;
          allowed = subst (λ g. AllAllowed old.kind g (old.own ++ w ∷ [])) (sym same_graph) (allowed_more old.kind (graph_at old.kind old.seen start) old.own w at.allowed allowed);
          within = all_more IsWithinLimits old.own w at.within limit;
          last = (at.last.0, ap (λ ls. last_with ls w) at.last.1 ∙ last_with-append at.last.0 old.own w);
        }) in
        subst IsValid (sym is.others) (record {
          legal = legal_of (with_write old w) new refl is legal;
          current = subst (λ s. IfSome s (IsOpenTxn (record (with_write old w) { seen = new.seen }))) (sym there) more;
          idle = subst (λ s. IfNone s (old.own ++ w ∷ [] ≡ [])) (sym there) tt;
          counted = length-last_with old.made w ∙ valid.counted;
          room = valid.room;
        })

    answered : (result : Result (Unit {0}) Refusal) (new : Account) → IsLegal new.kind new.seen → WritesAt old start w result new → IsValid new
    answered (Ok u) new legal is = wrote new legal is.0 is.1
    answered (Err refusals.SelfLoop) new legal is = read_keeps new legal is.1
    answered (Err (refusals.NoVertex v)) new legal is = read_keeps new legal is.1
    answered (Err refusals.VertexExists) new legal is = read_keeps new legal is.1
    answered (Err refusals.EdgeExists) new legal is = read_keeps new legal is.1
    answered (Err refusals.NoEdge) new legal is = read_keeps new legal is.1
    answered (Err refusals.HasEdges) new legal is = read_keeps new legal is.1
    answered (Err (refusals.Conflict cause)) new legal is = caused start w cause new is.2 legal
    answered (Err (refusals.Full leaves)) new legal is = noted (record old { filled = true }) new refl is.3 legal
    answered (Err refusals.NoMemory) new legal is = read_keeps new legal is

    -- so does a write
    pub write_keeps : (result : Result (Unit {0}) Refusal) (new : Account) → IsLegal new.kind new.seen → WritesBy old w result new → IsValid new
    write_keeps result new legal is = answered result new legal (is start there)

  -- so does an abort
  pub abort_keeps : (new : Account) → IsLegal new.kind new.seen → AbortsBy old new → IsValid new
  abort_keeps new legal is = subst IsValid (sym is.others) (record { legal = legal_of (ended old) new refl is legal; current = tt; idle = refl; counted = valid.counted; room = valid.room })

  -- and a commit
  pub commit_keeps : (stamp : Option ℕ) (new : Account) → IsLegal new.kind new.seen → CommitsBy old stamp new → IsValid new
  commit_keeps None new legal is = abort_keeps new legal is.1
  commit_keeps (Some stamp) new legal is =
      let g = is.1 in
      subst IsValid (sym g.others) (record { legal = legal_of (stamped old stamp) new refl g legal; current = tt; idle = refl; counted = valid.counted; room = valid.room })

-- ---- scans

short_is_whole : {X : Type 0} (n : ℕ) (xs : List X) → length (take n xs) < n → take n xs ≡ xs
short_is_whole zero xs short = absurd (omega arith)
short_is_whole (suc n) [] short = refl
short_is_whole (suc n) (x ∷ xs) short = ap (λ ys. x ∷ ys) (short_is_whole n xs (omega arith))

-- a scan that is done has given all that was left
pub done_is_whole : (g : Graph) (old new : Cursor) (given : List Row) → ScansBy g old new given → new.done ≡ true → given ≡ rows_left g old
done_is_whole g old new given is done =
    is.gave ∙ short_is_whole _ (rows_left g old) (let short = is.ended done in subst (λ xs. length xs < 64) is.gave short)

-- the portions of a scan are the rows that were left
pub portions_are_rows : (g : Graph) (cursor : Cursor) (portions : List (List Row)) → cursor.done ≡ false
    → ScansToTheEnd g cursor portions → flat_map (λ given. given) portions ≡ rows_left g cursor
portions_are_rows g cursor [] going done = never cursor.done done going
portions_are_rows g cursor (given ∷ portions) going (begun, (next, step, rest)) = by_end next.done refl (λ going_on. portions_are_rows g next portions going_on rest)
  where
    -- none comes behind a scan that is done
    none_behind : (portions : List (List Row)) → next.done ≡ true → ScansToTheEnd g next portions → flat_map (λ (rows : List Row). rows) portions ≡ []
    none_behind [] done rest = refl
    none_behind (more ∷ portions) done rest = never next.done done rest.0

    by_end : (done : Bool) → next.done ≡ done → (next.done ≡ false → flat_map (λ (rows : List Row). rows) portions ≡ rows_left g next)
        → given ++ flat_map (λ (rows : List Row). rows) portions ≡ rows_left g cursor
    by_end true done more = ap (λ rows. given ++ rows) (none_behind portions done rest) ∙ append-nil given ∙ done_is_whole g cursor next given step done
    by_end false going_on more = ap (λ rows. given ++ rows) (more going_on) ∙ (step.goes_on going_on).1
