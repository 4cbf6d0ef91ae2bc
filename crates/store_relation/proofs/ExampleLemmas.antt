-- The worked examples: right steps by the laws of each, and wrong ones by what they leave.
use Rattle.std.proofs.Common.{◌≡◌, ℕ, suc, ◌≤◌, List, [], ◌∷◌, ◌++◌, length, map, drop, refl, sym, ◌∙◌, ap, subst, arith, inl, inr}
use Rattle.std.specs.Prelude.{true, ◌||◌, Option, Some, None}
use Rattle.std.specs.List.{AllByRecursion}
use Rattle.std.proofs.lemmas.Bool.{or_left, true≢false}
use mathlib.Core.List.{IsPrefix}
use mathlib.Core.Logic.{dite}
use native.Mathlib.Decide.{ℕ_discrete}
use Rattle.graph_model.specs.declared.write.Kind.{Kind}
use Rattle.graph_model.specs.declared.write.Kind.TheVariants.{Directed}
use Rattle.graph_model.specs.declared.write.Write.{Write}
use Rattle.graph_model.specs.declared.write.Write.TheVariants.{AddVertex, AddEdge}
use Rattle.graph_model.specs.declared.row.Key.{Key}
use Rattle.graph_model.specs.declared.journal.TxnName.{TxnName}
use Rattle.graph_model.specs.Conflict.{same_name}
use Rattle.graph_model.specs.History.{view}
use Rattle.graph_model.specs.Refused.{refused, IsWithinLimits}
use Rattle.graph_model.specs.Rows.{vertex_key, value_at}
use Rattle.graph_model.specs.Transactions.{stamp_in}
use Rattle.graph_model.proofs.EntryLemmas.{refusal_in, refused_at, entries_made, marks_after_all, arcs_after_all}
use Rattle.graph_model.proofs.TestLemmas.{name_self}
use Rattle.store_model.specs.Check.{IsFree, IsFreeOfDrops, MayWrite}
use Rattle.store_model.specs.Layers.{touched_in}
use Rattle.store_model.specs.Stamped.{Stamped, StampedVersions, forget, forget_row, read_stamped}
use Rattle.store_model.specs.Versions.{sees}
use Rattle.store_model.proofs.NewLemmas.{value_of_empty}
use Rattle.store_model.proofs.ToldLemmas.{told_all}
use Rattle.version_segment.specs.Rows.{nothing}
use Rattle.store_relation.specs.declared.stage.Stage.TheVariants.{Open}
use Rattle.store_relation.specs.Examples.{IsAllowed, RightSteps, SharedState, StepResults, WrongReads, WrongSteps, all_writes, alone, beginning, begun_unannounced, config, fresh, lending, pruned_at_clock, pruning, published, settled, stored, touches_forgotten, watched, writer, writing}
use Rattle.store_relation.specs.Keys.{changed_keys}
use Rattle.store_relation.specs.Passes.{PassState, fresh_pass, is_active, may_commit, name_of, touching_by}
use Rattle.store_relation.specs.Readers.{AreReaders, reader_of}
use Rattle.store_relation.specs.Rows.{row_after}
use Rattle.store_relation.specs.Shared.{entries, no_journal}
use Rattle.store_relation.specs.Steps.{begun}
use Rattle.store_relation.proofs.ListLemmas.{all_put, revised_else}
use Rattle.store_relation.proofs.MadeLemmas.{number_active}
use Rattle.store_relation.proofs.SharedLemmas.{runs}
use Rattle.store_relation.proofs.SpokenLemmas.{EachRecord, after_each}
use Rattle.store_relation.proofs.StepLemmas.{begins}
use Rattle.store_relation.proofs.RowStepLemmas.{writes_by_row, prunes}
use Rattle.store_relation.proofs.CommitLemmas.{rooms, stamps, publishes, stamps_rows}
use Rattle.store_relation.proofs.ReadLemmas.{reads_seen}
use Rattle.store_relation.proofs.ReaderLemmas.{reader_is_split}
use Rattle.store_relation.proofs.KeyLemmas.{changed_covers}
use Rattle.store_relation.proofs.EndLemmas.{new_shared}

-- ---- a row that has only one's own records may be written

module _ (stamps : TxnName → Option ℕ) (start : ℕ) (me : TxnName) where
  abbrev Mine : StampedVersions → Type 0
  Mine r = EachRecord (λ x. x.by ≡ me) r

  own_seen : (x : Stamped) → x.by ≡ me → sees stamps start me x.by ≡ true
  own_seen x e = or_left _ _ (ap (λ n. same_name n me) e ∙ name_self me)

  own_free : (xs : List Stamped) → AllByRecursion (λ x. x.by ≡ me) xs
      → IsFree (sees stamps start me) (map forget xs)
  own_free [] all = tt
  own_free (x ∷ xs) all = own_seen x all.0

  own_drops : (xs : List Stamped) → AllByRecursion (λ x. x.by ≡ me) xs
      → IsFreeOfDrops (sees stamps start me) (map forget xs)
  own_drops [] all = tt
  own_drops (x ∷ xs) all = ((λ _. own_seen x all.0), own_drops xs all.1)

  own_touches : (xs : List Stamped) → AllByRecursion (λ x. x.by ≡ me) xs
      → AllByRecursion (λ by. sees stamps start me by ≡ true) (map (λ (x : Stamped). x.by) xs)
  own_touches [] all = tt
  own_touches (x ∷ xs) all = (own_seen x all.0, own_touches xs all.1)

  own_may : (kind : Kind) (w : Write) (k : Key) (r : StampedVersions) → Mine r
      → MayWrite kind (sees stamps start me) w k (forget_row r)
  own_may kind w k r mine = record {
    free = λ _. own_free r.pairs mine.0;
    ends = λ _. own_drops r.pairs mine.0;
    touches = λ _ _. own_touches r.touches mine.1;
  }

  own_after : (kind : Kind) (w : Write) (k : Key) (r : StampedVersions) → Mine r
      → Mine (row_after kind me w k r)
  own_after kind w k r mine = after_each (λ x. x.by ≡ me) kind me w k r (λ value. refl) mine

-- ---- what the writer's view allows

by_view : (own : List Write) (w : Write)
    → refused (view Directed [] 0 own) w ≡ refusal_in (marks_after_all own []) (arcs_after_all Directed own [])
    w
by_view own w = refused_at (view Directed [] 0 own) (marks_after_all own []) (arcs_after_all Directed own [])
    (entries_made Directed own) w

-- ---- right steps

pub fresh_allowed : IsAllowed fresh
fresh_allowed = rooms (new_shared config) 3 (omega arith)

-- both have begun, and the writer alone
both_begun : IsAllowed (beginning 1 (beginning 2 fresh))
both_begun =
    begins (begins fresh_allowed 2 refl refl (omega arith) (omega arith) (omega arith)) 1 refl refl
    (omega arith)
    (omega arith) (omega arith)

one_begun : IsAllowed (beginning 1 fresh)
one_begun = begins fresh_allowed 1 refl refl (omega arith) (omega arith) (omega arith)

-- the writer is in its first transaction, which began on the empty journal and has written this, and nobody
-- else has
-- written anything
record IsFirst (s : SharedState) (own : List Write) : Type 0 where
  opened : (s.pass 1).stage ≡ Open
  start : (s.pass 1).start ≡ 0
  seen : (s.pass 1).seen ≡ []
  past : (s.pass 1).past ≡ []
  own_is : (s.pass 1).own ≡ own
  mine : (k : Key) → EachRecord (λ x. x.by ≡ writer) (s.rows k)

first_name : (s : SharedState) (own : List Write) → IsFirst s own → name_of s.pass 1 ≡ writer
first_name s own f =
    ap (λ n. record { job = 1; number = n })
    (number_active (s.pass 1) (ap is_active f.opened) ∙ ap (λ l. suc (length l)) f.past)

-- it makes a write more
next_write : (s : SharedState) (own : List Write) (w : Write) → IsAllowed s → IsFirst s own
    → refusal_in (marks_after_all own []) (arcs_after_all Directed own []) w ≡ None → IsWithinLimits w
    → IsAllowed (writing 1 w s) × IsFirst (writing 1 w s) (own ++ w ∷ [])
next_write s own w allowed f may within = (
  writes_by_row allowed 1 w (writing 1 w s).rows f.opened
      ((λ i. refused (view Directed (f.seen i) (f.start i) (f.own_is i)) w) ∙ by_view own w ∙ may) within
      (λ k. own_may (stamp_in (s.pass 1).seen) (s.pass 1).start (name_of s.pass 1) Directed w k (s.rows k)
      (subst (λ n. EachRecord (λ x. x.by ≡ n) (s.rows k)) (sym (first_name s own f)) (f.mine k)))
      (λ k. refl),
  record {
    opened = f.opened;
    start = f.start;
    seen = f.seen;
    past = f.past;
    own_is = ap (λ ws. ws ++ w ∷ []) f.own_is;
    mine = λ k. subst (λ n. EachRecord (λ x. x.by ≡ writer) (row_after Directed n w k (s.rows k)))
        (sym (first_name s own f)) (own_after (stamp_in []) 0 writer Directed w k (s.rows k) (f.mine k));
  },
)

-- it makes its three writes
three_writes : (s : SharedState) → IsAllowed s → IsFirst s []
    → IsAllowed (all_writes s) × IsFirst (all_writes s) (AddVertex 1 ∷ AddVertex 2 ∷ AddEdge 1 2 5 ∷ [])
three_writes s allowed f =
    let one = next_write s [] (AddVertex 1) allowed f refl (omega arith) in
    let two = next_write (writing 1 (AddVertex 1) s) (AddVertex 1 ∷ []) (AddVertex 2) one.0 one.1 refl
    (omega arith) in
    next_write (writing 1 (AddVertex 2) (writing 1 (AddVertex 1) s)) (AddVertex 1 ∷ AddVertex 2 ∷ [])
    (AddEdge 1 2 5) two.0
    two.1 refl (omega arith, omega arith, omega arith)

at_first : (s : SharedState) → IsAllowed s → (s.pass 1 ≡ begun fresh_pass no_journal)
    → ((k : Key) → s.rows k ≡ nothing)
    → IsFirst s []
at_first s allowed is none = record {
  opened = ap (λ (u : PassState). u.stage) is;
  start = ap (λ (u : PassState). u.start) is;
  seen = ap (λ (u : PassState). u.seen) is;
  past = ap (λ (u : PassState). u.past) is;
  own_is = ap (λ (u : PassState). u.own) is;
  mine = λ k. subst (EachRecord (λ x. x.by ≡ writer)) (sym (none k)) (tt, tt);
}

watched_allowed : IsAllowed watched
watched_allowed = (three_writes (beginning 1 (beginning 2 fresh)) both_begun
    (at_first _ both_begun refl (λ k. refl))).0

alone_allowed : IsAllowed alone
alone_allowed = (three_writes (beginning 1 fresh) one_begun (at_first _ one_begun refl (λ k. refl))).0

-- the commit in its steps
stored_allowed : IsAllowed (stored watched)
stored_allowed = stamps watched_allowed 1 refl (omega arith) refl

stored_alone : IsAllowed (stored alone)
stored_alone = stamps alone_allowed 1 refl (omega arith) refl

published_allowed : IsAllowed (published watched)
published_allowed = publishes stored_allowed 1 (changed_keys Directed ((stored watched).pass 1).own) refl
    (changed_covers Directed ((stored watched).pass 1).own)

published_alone : IsAllowed (published alone)
published_alone = publishes stored_alone 1 (changed_keys Directed ((stored alone).pass 1).own) refl
    (changed_covers Directed ((stored alone).pass 1).own)

settled_allowed : IsAllowed (settled watched)
settled_allowed = stamps_rows published_allowed 1 [] _ 0 (settled watched).rows refl refl refl (λ k. inl refl)

settled_alone : IsAllowed (settled alone)
settled_alone = stamps_rows published_alone 1 [] _ 0 (settled alone).rows refl refl refl (λ k. inl refl)

-- nobody but the writer has begun anything
only_writer : (p : ℕ) → (p ≡ 1 → ⊥) → (settled alone).pass p ≡ fresh_pass
only_writer p other =
    revised_else (published alone).pass 1 _ p other ∙ revised_else (stored alone).pass 1 _ p other
    ∙ revised_else alone.pass 1 _ p other
    ∙ revised_else (writing 1 (AddVertex 2) (writing 1 (AddVertex 1) (beginning 1 fresh))).pass 1 _ p other
    ∙ revised_else (writing 1 (AddVertex 1) (beginning 1 fresh)).pass 1 _ p other
    ∙ revised_else (beginning 1 fresh).pass 1 _ p other ∙ revised_else fresh.pass 1 _ p other

-- so the rows may be pruned at the clock
pruned_allowed : IsAllowed (pruning 1 (settled alone))
pruned_allowed =
    prunes settled_alone (stamp_in (settled alone).journal.commits) 1 1 (pruning 1 (settled alone)).rows
    settled_alone.store.transactions.behind (omega arith) (omega arith)
    (λ p may. dite (ℕ_discrete p 1)
    (λ same. absurd (true≢false (sym (ap (λ q. may_commit ((settled alone).pass q).stage) (sym same) ∙ may))))
    (λ other.
    absurd (true≢false
    (sym (ap (λ (u : PassState). may_commit u.stage) (sym (only_writer p other)) ∙ may)))))
    (λ k. inr (refl, told_all _ _ 1 (λ n. refl) ((settled alone).rows k)))

no_readers : AreReaders (beginning 1 fresh).pass [] []
no_readers = record { each = tt; out = all_put (λ q u. 0 ≡ u.readers_out) fresh.pass 1 _ refl (λ q _. refl) }

lent_allowed : IsAllowed (lending 1 (beginning 1 fresh))
    × AreReaders (lending 1 (beginning 1 fresh)).pass [] (reader_of (beginning 1 fresh).pass 1 ∷ [])
lent_allowed = reader_is_split one_begun 1 [] no_readers refl

pub right_steps : RightSteps
right_steps = record {
  new = fresh_allowed;
  written = watched_allowed;
  stored = stored_allowed;
  published = published_allowed;
  stamped = settled_allowed;
  pruned = pruned_allowed;
  lent = lent_allowed.0;
  readers = lent_allowed.1;
}

-- ---- wrong ones

some_none : (n : ℕ) → ◌≡◌ {A = Option ℕ} (Some n) None → ⊥
some_none n e = cc

-- a reader that began on the empty journal sees no vertex
sees_none : (s : SharedState) → IsAllowed s → (s.pass 2).stage ≡ Open → (s.pass 2).seen ≡ []
    → (s.pass 2).start ≡ 0
    → (s.pass 2).own ≡ []
    → read_stamped (stamp_in []) 0 (name_of s.pass 2) (s.rows (vertex_key 1)) ≡ None
sees_none s allowed opened seen start own =
    (λ i. read_stamped (stamp_in (sym seen i)) (sym start i) (name_of s.pass 2) (s.rows (vertex_key 1)))
    ∙ reads_seen allowed 2 opened (vertex_key 1)
    ∙ (λ i. value_at (view Directed (seen i) (start i) (own i)) (vertex_key 1)) ∙ value_of_empty (vertex_key 1)

-- the writer's commit has left touches, and the reader, which began before, still needs them
keeps_touches : IsAllowed touches_forgotten → ⊥
keeps_touches s =
    let reader : TxnName = record { job = 2; number = 1 } in
    let live : s.horizon ≤ 0 = (s.store.transactions.each reader (record { start = 0; writes = [] })
    (runs s 2 refl)).pinned in
    let r = s.store.rows (vertex_key 1) in
    let low : r.since ≤ s.horizon = r.below_since in
    let whole : r.since ≡ 0 = omega (arith, live, low) in
    true≢false (sym (r.row.touched writer
    ∙ ap (λ n. touching_by touches_forgotten.pass writer (vertex_key 1)
    || touched_in (drop n touches_forgotten.journal.commits) writer (vertex_key 1)) whole))

pub wrong_steps : WrongSteps
wrong_steps = record {
  publishes_before_the_stamp = λ s. let w : 1 ≡ 3 = s.stamped 0 _ refl refl in omega (arith, w);
  counts_a_stamp_below_the_clock = λ s. no_more (s.each 2).seen;
  prunes_at_the_clock = λ s. some_none 0 (sees_none pruned_at_clock s refl refl refl refl);
  begins_unannounced = λ s. some_none 0 (sees_none begun_unannounced s refl refl refl refl);
  forgets_touches = keeps_touches;
  reuses_the_word = λ s.
      let latest = ((s.spoken (vertex_key 1)).pairs.0 refl).0 in
      let number : 1 ≡ 2 = ap (λ (n : TxnName). n.number) latest in
      omega (arith, number);
  writes_under_a_reader = λ are. let own = are.each.0.own in cc;
  takes_any_stamp_as_seen = λ told. true≢false (told.pairs.0 refl);
}
  where
    no_more : IsPrefix (entries (stored watched).journal) [] → ⊥
    no_more front = let e = front.1 in cc

pub step_results : StepResults
step_results = record {
  open_word = refl;
  stored_word = refl;
  stored_clock = refl;
  clock = refl;
  unstamped = refl;
  bare = refl;
  stamped = refl;
  touched = refl;
  made = refl;
  answered = refl;
  kept = refl;
}

pub wrong_reads : WrongReads
wrong_reads = record { right = refl; any_stamp = refl; pruned = refl }
