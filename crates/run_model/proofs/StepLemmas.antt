-- Turns only add lines, and two turns that differ in nothing but whether a place is found differ in a `full`.
use Rattle.std.proofs.Common.{◌≡◌, ℕ, zero, suc, ◌+◌, List, [], ◌∷◌, ◌++◌, map, length, refl, sym, ◌∙◌, ap, subst, arith, cond, inl, inr, append_assoc}
use Rattle.std.specs.Prelude.{◌⊎◌, Bool, true, false, ◌==◌, nat_lt, slice_get, slice_set, Option, Some, None}
use Rattle.std.proofs.lemmas.List.{append-nil}
use Rattle.graph_model.specs.declared.write.Kind.{Kind}
use Rattle.graph_model.specs.declared.write.Write.{Write}
use Rattle.graph_model.specs.declared.journal.Commit.{Commit}
use Rattle.graph_model.specs.declared.refusal.Cause.{Cause}
use Rattle.graph_model.specs.declared.refusal.Refusal.{Refusal}
use Rattle.graph_model.specs.Refused.{refused}
use Rattle.graph_model.specs.Inserted.{inserts}
use Rattle.graph_model.specs.Conflict.{OpenTxn, conflict}
use Rattle.graph_model.proofs.LegalLemmas.{below_length, get_front}
use Rattle.graph_model.proofs.PlaceLemmas.{some_eq, get_end}
use Rattle.graph_model.proofs.TestLemmas.{eq_of}
use Rattle.run_model.specs.declared.command.Command.{Command}
use Rattle.run_model.specs.declared.answer.Answer.TheVariants as answers
use Rattle.run_model.specs.declared.command.Command.TheVariants as commands
use Rattle.run_model.specs.AnsweredLines.{AnsweredLine}
use Rattle.run_model.specs.Run.{txn_name}
use Rattle.run_model.specs.Jobs.{JobState, RunState, LineResult, open_txns, start_of_job, view_of_job, answered_job, writes_more, stops, skips, write_result, live_result, line_result, turns_of, with_job, line_turn, job_turn, turn_at_place, turn, has_ended}
use Rattle.run_model.specs.Stepped.{Setting, turn_at, IsReached}
use Rattle.run_model.proofs.SetLemmas.{get_set, get_set_else, get_map, map_get}

-- ---- lines go on

-- each script has its lines, and maybe more behind them
abbrev pub LinesGoOn : List JobState → List JobState → Type 0
LinesGoOn old new = (k : ℕ) (ls : List AnsweredLine) → slice_get (map (λ (j : JobState). j.lines) old) k ≡ Some ls
    → (more : List AnsweredLine) × (slice_get (map (λ (j : JobState). j.lines) new) k ≡ Some (ls ++ more))

-- they do where nothing happens
pub lines_stay : (jobs : List JobState) → LinesGoOn jobs jobs
lines_stay jobs k ls e = ([], e ∙ ap Some (sym (append-nil ls)))

-- and step by step
pub lines_go_further : (a b c : List JobState) → LinesGoOn a b → LinesGoOn b c → LinesGoOn a c
lines_go_further a b c first second k ls e =
    let p = first k ls e in
    let q = second k (ls ++ p.0) p.1 in
    (p.0 ++ q.0, q.1 ∙ ap Some (append_assoc ls p.0 q.0))

-- where one script has more lines, they do
pub lines_set : (jobs : List JobState) (k : ℕ) (j j' : JobState) (more : List AnsweredLine) → slice_get jobs k ≡ Some j → j'.lines ≡ j.lines ++ more → LinesGoOn jobs (slice_set jobs k j')
lines_set jobs k j j' more at longer m ls e =
    let r = map_get (λ (x : JobState). x.lines) jobs m ls e in
    elim (m == k) as (λ t. (m == k) ≡ t → (rest : List AnsweredLine) × (slice_get (map (λ (x : JobState). x.lines) (slice_set jobs k j')) m ≡ Some (ls ++ rest))) [
      | true ↦ λ f.
          let same : m ≡ k = eq_of m k f in
          let it : r.0 ≡ j = some_eq r.0 j (sym r.1 ∙ ap (slice_get jobs) same ∙ at) in (
            more,
            ap (slice_get (map (λ (x : JobState). x.lines) (slice_set jobs k j'))) same ∙ get_map (λ (x : JobState). x.lines) (slice_set jobs k j') k j' (get_set jobs k j' (below_length jobs k j at))
                ∙ ap Some longer ∙ ap (λ xs. Some (xs ++ more)) (ap (λ (x : JobState). x.lines) (sym it) ∙ r.2),
          )
      | false ↦ λ f.
          ([], get_map (λ (x : JobState). x.lines) (slice_set jobs k j') m r.0 (get_set_else jobs k m j' f ∙ r.1) ∙ ap Some (r.2 ∙ sym (append-nil ls)))
    ] refl

length-set : {X : Type 0} (xs : List X) (i : ℕ) (x : X) → length (slice_set xs i x) ≡ length xs
length-set [] i x = refl
length-set (y ∷ xs) zero x = refl
length-set (y ∷ xs) (suc i) x = ap suc (length-set xs i x)

-- a turn adds lines and no scripts
pub turn_goes_on : (kind : Kind) (s : RunState) (job : ℕ) (full : Bool) → LinesGoOn s.jobs (turn kind s job full).jobs × (length (turn kind s job full).jobs ≡ length s.jobs)
turn_goes_on kind s zero full = (lines_stay s.jobs, refl)
turn_goes_on kind s (suc k) full = by_place (slice_get s.jobs k) refl
  where
    by_left : (j : JobState) → slice_get s.jobs k ≡ Some j → (cs : List Command) → LinesGoOn s.jobs (job_turn kind s k full j cs).jobs × (length (job_turn kind s k full j cs).jobs ≡ length s.jobs)
    by_left j at [] = (lines_stay s.jobs, refl)
    by_left j at (c ∷ rest) =
        elim (nat_lt (j.taken + 1) (turns_of kind s.journal j c)) as (λ t.
        LinesGoOn s.jobs (cond t (with_job s k (record j { taken = j.taken + 1 })) (line_turn kind s k full j c rest)).jobs
        × (length (cond t (with_job s k (record j { taken = j.taken + 1 })) (line_turn kind s k full j c rest)).jobs ≡ length s.jobs)) [
          | true ↦ (lines_set s.jobs k j (record j { taken = j.taken + 1 }) [] at (sym (append-nil j.lines)), length-set s.jobs k _)
          | false ↦ (lines_set s.jobs k j (answered_job j c rest (line_result kind s.journal (open_txns s.jobs) (k + 1) j full c)) _ at refl, length-set s.jobs k _)
        ]

    by_place : (x : Option JobState) → slice_get s.jobs k ≡ x → LinesGoOn s.jobs (turn_at_place kind s k full x).jobs × (length (turn_at_place kind s k full x).jobs ≡ length s.jobs)
    by_place None e = (lines_stay s.jobs, refl)
    by_place (Some j) e = by_left j e j.left

-- so a state that is reached has as many scripts as the first
pub reached_count : (setting : Setting) (first : RunState) (n : ℕ) (s : RunState) → IsReached setting first n s → length s.jobs ≡ length first.jobs
reached_count setting first zero s r = ap (λ (x : RunState). length x.jobs) r
reached_count setting first (suc n) s r =
    ap (λ (x : RunState). length x.jobs) r.5 ∙ (turn_goes_on setting.kind r.0 (turn_at setting.scripts setting.schedule n) r.1).1 ∙ reached_count setting first n r.0 r.2

-- and the states before it are reached, none of them at the end
pub reached_before : (setting : Setting) (first : RunState) (i n : ℕ) (s : RunState) → IsReached setting first (i + n) s
    → (mid : RunState) × IsReached setting first i mid × LinesGoOn mid.jobs s.jobs × (((n ≡ 0) × (mid ≡ s)) ⊎ (has_ended mid ≡ false))
reached_before setting first i zero s r =
    let same : i + 0 ≡ i = omega arith in
    (s, subst (λ m. IsReached setting first m s) same r, lines_stay s.jobs, inl (refl, refl))
reached_before setting first i (suc n) s r =
    let same : i + suc n ≡ suc (i + n) = omega arith in
    let step : IsReached setting first (suc (i + n)) s = subst (λ m. IsReached setting first m s) same r in
    let before = reached_before setting first i n step.0 step.2 in
    let goes : LinesGoOn (step.0).jobs s.jobs = subst (λ (x : RunState). LinesGoOn (step.0).jobs x.jobs) (sym step.5) (turn_goes_on setting.kind step.0 (turn_at setting.scripts setting.schedule (i + n)) step.1).0 in (
      before.0,
      before.1,
      lines_go_further (before.0).jobs (step.0).jobs s.jobs before.2 goes,
      inr (elim before.3 as (λ _. has_ended before.0 ≡ false) [
        | inl p ↦ ap has_ended p.1 ∙ step.3
        | inr f ↦ f
      ]),
    )

-- ---- `full` at the same lines

-- where two runs have a line at one place, both are answered `full`, or neither is
abbrev pub AreFullAlike : List JobState → List JobState → Type 0
AreFullAlike xs ys = (k i : ℕ) (ls ms : List AnsweredLine) (l m : AnsweredLine)
    → slice_get (map (λ (j : JobState). j.lines) xs) k ≡ Some ls → slice_get (map (λ (j : JobState). j.lines) ys) k ≡ Some ms → slice_get ls i ≡ Some l → slice_get ms i ≡ Some m
    → (l.answer ≡ answers.Full → m.answer ≡ answers.Full) × (m.answer ≡ answers.Full → l.answer ≡ answers.Full)

-- it doesn't matter which is named first
pub full_alike-symm : (xs ys : List JobState) → AreFullAlike xs ys → AreFullAlike ys xs
full_alike-symm xs ys alike k i ls ms l m at_l at_m in_l in_m = let r = alike k i ms ls m l at_m at_l in_m in_l in (r.1, r.0)

-- and it was so before
pub full_alike_before : (xs ys xs' ys' : List JobState) → LinesGoOn xs xs' → LinesGoOn ys ys' → AreFullAlike xs' ys' → AreFullAlike xs ys
full_alike_before xs ys xs' ys' goes_x goes_y alike k i ls ms l m at_l at_m in_l in_m =
    let p = goes_x k ls at_l in
    let q = goes_y k ms at_m in
    alike k i (ls ++ p.0) (ms ++ q.0) l m p.1 q.1 (get_front ls p.0 i l in_l) (get_front ms q.0 i m in_m)

-- two results are one, or the first is `full` where the second is not
abbrev SameOrFull : LineResult → LineResult → Type 0
SameOrFull a b = (a ≡ b) ⊎ ((a.answer ≡ answers.Full) × (b.answer ≡ answers.Done))

-- so it is with a line that finds a place or doesn't
same_or_full : (kind : Kind) (journal : List Commit) (txns : List OpenTxn) (job : ℕ) (j : JobState) (r : Command) → SameOrFull (line_result kind journal txns job j true r) (line_result kind journal txns job j false r)
same_or_full kind journal txns job j r = by_skipping j.skipping
  where
    by_write : (w : Write) (refusal : Option Refusal) (cause : Option Cause) → SameOrFull (write_result j w refusal cause true) (write_result j w refusal cause false)
    by_write w (Some refusal) cause = inl refl
    by_write w None (Some cause) = inl refl
    by_write w None None = elim (inserts w) as (λ t. SameOrFull (cond t (stops answers.Full) (writes_more j w)) (writes_more j w)) [
      | true ↦ inr (refl, refl)
      | false ↦ inl refl
    ]

    by_command : (r : Command) → SameOrFull (live_result kind journal txns job j true r) (live_result kind journal txns job j false r)
    by_command commands.Begin = inl refl
    by_command commands.Commit = inl refl
    by_command commands.Abort = inl refl
    by_command (commands.Write w) = by_write w (refused (view_of_job kind journal j) w) (conflict kind journal txns (txn_name job j.begun) (start_of_job j) w)
    by_command (commands.Read query) = inl refl
    by_command (commands.Run kernel file) = inl refl

    by_skipping : (t : Bool) → SameOrFull (cond t (skips r) (live_result kind journal txns job j true r)) (cond t (skips r) (live_result kind journal txns job j false r))
    by_skipping true = inl refl
    by_skipping false = by_command r

-- a turn is settled by where it answers `full`
turn_by_full : (kind : Kind) (s : RunState) (job : ℕ) → AreFullAlike (turn kind s job true).jobs (turn kind s job false).jobs → turn kind s job true ≡ turn kind s job false
turn_by_full kind s zero alike = refl
turn_by_full kind s (suc k) alike = by_place (slice_get s.jobs k) refl alike
  where
    by_line : (j : JobState) → slice_get s.jobs k ≡ Some j → (c : Command) (rest : List Command)
        → AreFullAlike (line_turn kind s k true j c rest).jobs (line_turn kind s k false j c rest).jobs → line_turn kind s k true j c rest ≡ line_turn kind s k false j c rest
    by_line j at c rest alike = elim (same_or_full kind s.journal (open_txns s.jobs) (k + 1) j c) as (λ _. line_turn kind s k true j c rest ≡ line_turn kind s k false j c rest) [
      | inl same ↦ ap (λ (o : LineResult). record { journal = s.journal ++ o.commits; jobs = slice_set s.jobs k (answered_job j c rest o) }) same
      | inr differ ↦
          let full = (alike k (length j.lines) _ _ _ _ (here true) (here false) (get_end j.lines _) (get_end j.lines _)).0 differ.0 in
          let no : answers.Done ≡ answers.Full = sym differ.1 ∙ full in
          cc
    ]
      where
        here : (full : Bool) → slice_get (map (λ (x : JobState). x.lines) (line_turn kind s k full j c rest).jobs) k
            ≡ Some ((answered_job j c rest (line_result kind s.journal (open_txns s.jobs) (k + 1) j full c)).lines)
        here full = get_map (λ (x : JobState). x.lines) (line_turn kind s k full j c rest).jobs k _ (get_set s.jobs k _ (below_length s.jobs k j at))

    by_left : (j : JobState) → slice_get s.jobs k ≡ Some j → (cs : List Command) → AreFullAlike (job_turn kind s k true j cs).jobs (job_turn kind s k false j cs).jobs → job_turn kind s k true j cs ≡ job_turn kind s k false j cs
    by_left j at [] alike = refl
    by_left j at (c ∷ rest) alike = elim (nat_lt (j.taken + 1) (turns_of kind s.journal j c)) as (λ t.
        AreFullAlike (cond t (with_job s k (record j { taken = j.taken + 1 })) (line_turn kind s k true j c rest)).jobs (cond t (with_job s k (record j { taken = j.taken + 1 })) (line_turn kind s k false j c rest)).jobs
        → cond t (with_job s k (record j { taken = j.taken + 1 })) (line_turn kind s k true j c rest) ≡ cond t (with_job s k (record j { taken = j.taken + 1 })) (line_turn kind s k false j c rest)) [
          | true ↦ λ _. refl
          | false ↦ by_line j at c rest
        ] alike

    by_place : (x : Option JobState) → slice_get s.jobs k ≡ x → AreFullAlike (turn_at_place kind s k true x).jobs (turn_at_place kind s k false x).jobs → turn_at_place kind s k true x ≡ turn_at_place kind s k false x
    by_place None e alike = refl
    by_place (Some j) e alike = by_left j e j.left alike

turn_alike : (kind : Kind) (s : RunState) (job : ℕ) (a b : Bool) → AreFullAlike (turn kind s job a).jobs (turn kind s job b).jobs → turn kind s job a ≡ turn kind s job b
turn_alike kind s job true true alike = refl
turn_alike kind s job true false alike = turn_by_full kind s job alike
turn_alike kind s job false true alike = sym (turn_by_full kind s job (full_alike-symm (turn kind s job false).jobs (turn kind s job true).jobs alike))
turn_alike kind s job false false alike = refl

-- states behind the same turns that answer `full` at the same lines are one, whatever the leaves
pub reached_alike : (a b : Setting) → a.kind ≡ b.kind → a.scripts ≡ b.scripts → a.schedule ≡ b.schedule → (first : RunState) (n : ℕ) (s t : RunState)
    → IsReached a first n s → IsReached b first n t → AreFullAlike s.jobs t.jobs → s ≡ t
reached_alike a b kind scripts schedule first zero s t r q alike = r ∙ sym q
reached_alike a b kind scripts schedule first (suc n) s t r q alike =
    let job : turn_at b.scripts b.schedule n ≡ turn_at a.scripts a.schedule n = (λ i. turn_at (sym scripts i) (sym schedule i) n) in
    let t_is : t ≡ turn a.kind q.0 (turn_at a.scripts a.schedule n) q.1 = q.5 ∙ (λ i. turn (sym kind i) q.0 (job i) q.1) in
    let alike_behind : AreFullAlike (turn a.kind r.0 (turn_at a.scripts a.schedule n) r.1).jobs (turn a.kind q.0 (turn_at a.scripts a.schedule n) q.1).jobs = subst (λ (x : RunState). AreFullAlike x.jobs (turn a.kind q.0 (turn_at a.scripts a.schedule n) q.1).jobs) r.5 (subst (λ (x : RunState). AreFullAlike s.jobs x.jobs) t_is alike) in
    let before : r.0 ≡ q.0 = reached_alike a b kind scripts schedule first n r.0 q.0 r.2 q.2
    (full_alike_before (r.0).jobs (q.0).jobs (turn a.kind r.0 (turn_at a.scripts a.schedule n) r.1).jobs (turn a.kind q.0 (turn_at a.scripts a.schedule n) q.1).jobs
    (turn_goes_on a.kind r.0 (turn_at a.scripts a.schedule n) r.1).0 (turn_goes_on a.kind q.0 (turn_at a.scripts a.schedule n) q.1).0 alike_behind) in
    let q_is : turn a.kind q.0 (turn_at a.scripts a.schedule n) q.1 ≡ turn a.kind r.0 (turn_at a.scripts a.schedule n) q.1 = ap (λ x. turn a.kind x (turn_at a.scripts a.schedule n) q.1) (sym before) in
    r.5
    ∙ turn_alike a.kind r.0 (turn_at a.scripts a.schedule n) r.1 q.1 (subst (λ (x : RunState). AreFullAlike (turn a.kind r.0 (turn_at a.scripts a.schedule n) r.1).jobs x.jobs) q_is alike_behind)
    ∙ sym q_is ∙ sym t_is
