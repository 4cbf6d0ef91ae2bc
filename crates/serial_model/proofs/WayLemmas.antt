-- What holds of a serialisable run before and behind each turn.
use Rattle.std.proofs.Common.{◌≡◌, ℕ, zero, suc, ◌+◌, ◌-◌, ◌<◌, ◌≤◌, List, [], ◌∷◌, ◌++◌, map, length, refl, sym, ◌∙◌, ap, subst, arith, cond, inl, inr, length-append, append_assoc}
use Rattle.std.specs.Prelude.{Bool, true, false, ◌&&◌, nat_lt, slice_get, slice_set, unwrap_or, Contains, Option, Some, None}
use Rattle.std.specs.List.{filter, filter_map}
use Rattle.std.proofs.lemmas.Bool.{true≢false}
use Rattle.std.proofs.lemmas.List.{append-nil, map-append}
use Rattle.std.proofs.lemmas.List.Elements.{filter-append, Contains-append_left}
use Rattle.graph_model.specs.declared.write.Kind.{Kind}
use Rattle.graph_model.specs.declared.write.Write.{Write}
use Rattle.graph_model.specs.declared.row.Key.{Key}
use Rattle.graph_model.specs.declared.journal.TxnName.{TxnName}
use Rattle.graph_model.specs.declared.journal.Commit.{Commit}
use Rattle.graph_model.specs.declared.refusal.Cause.TheVariants.{Later, Holder}
use Rattle.graph_model.specs.Inserted.{inserted}
use Rattle.graph_model.proofs.LegalLemmas.{below_length}
use Rattle.run_model.specs.declared.command.Command.{Command}
use Rattle.run_model.specs.declared.command.Command.TheVariants as commands
use Rattle.run_model.specs.declared.answer.Answer.{Answer}
use Rattle.run_model.specs.declared.answer.Answer.TheVariants as answers
use Rattle.run_model.specs.Commands.{next_txn}
use Rattle.run_model.specs.AnsweredLines.{AnsweredLine, effect, made_by, of_txn, start_of, newest_shown}
use Rattle.run_model.specs.Inputs.{Inputs, AreInputs}
use Rattle.run_model.specs.Run.{MayFill, ShowsCommit, inserted_in, txn_name}
use Rattle.run_model.specs.Jobs.{JobState, RunState, LineResult, lines_so_far, open_txns, start_of_job, skips, begins as line_begins, commit_result, line_result, turns_of, answered_job, with_job, line_turn, job_turn, turn_at_place, turn}
use Rattle.run_model.specs.Stepped.{context_in}
use Rattle.run_model.specs.UnderWay.{script_of, IsJob, IsUnderWay}
use Rattle.run_model.proofs.SetLemmas.{get_set, set_cases, map_set, get_map, sum_cons}
use Rattle.run_model.proofs.LineLemmas.{shown_more, start_below}
use Rattle.run_model.proofs.TurnLemmas.{turn_keeps}
use Rattle.serial_model.specs.Footprints.{footprint, writes_in, later_in, newest_in}
use Rattle.serial_model.specs.SerialTurns.{newest_against, refusal_of_line}
use Rattle.serial_model.specs.SerialRun.{is_refused, line_read, job_read, run_read, IsRefusal, EachLine}
use Rattle.serial_model.proofs.CommitLemmas.{IsClear, none_later}
use Rattle.serial_model.proofs.ReadLemmas.{read_as_is, none_refused, turn_read, start_read, made_read}

-- ---- lines, one behind the other

pub each_weaker : (P Q : List AnsweredLine → AnsweredLine → Type 0) → ((before : List AnsweredLine) (l : AnsweredLine) → P before l → Q before l) → (before ls : List AnsweredLine) → EachLine P before ls → EachLine Q before ls
each_weaker P Q weaker before [] all = tt
each_weaker P Q weaker before (l ∷ ls) all = (weaker before l all.0, each_weaker P Q weaker (before ++ l ∷ []) ls all.1)

each_more : (P : List AnsweredLine → AnsweredLine → Type 0) (before ls : List AnsweredLine) (l : AnsweredLine) → EachLine P before ls → P (before ++ ls) l → EachLine P before (ls ++ l ∷ [])
each_more P before [] l all is = (subst (λ bs. P bs l) (append-nil before) is, tt)
each_more P before (x ∷ ls) l all is = (all.0, each_more P (before ++ x ∷ []) ls l all.1 (subst (λ bs. P bs l) (sym (append_assoc before (x ∷ []) ls)) is))

get_front_back : {X : Type 0} (xs ys : List X) (i : ℕ) → i < length xs → slice_get (xs ++ ys) i ≡ slice_get xs i
get_front_back [] ys i lt = absurd (omega arith)
get_front_back (x ∷ xs) ys zero lt = refl
get_front_back (x ∷ xs) ys (suc i) lt = get_front_back xs ys i (omega arith)

pub length_set : {X : Type 0} (xs : List X) (k : ℕ) (x : X) → length (slice_set xs k x) ≡ length xs
length_set [] k x = refl
length_set (y ∷ xs) zero x = refl
length_set (y ∷ xs) (suc k) x = ap suc (length_set xs k x)

last_shown : (xs : List AnsweredLine) (l : AnsweredLine) → (effect l.answer).stamp ≤ newest_shown (xs ++ l ∷ [])
last_shown [] l = omega arith
last_shown (x ∷ xs) l = let rest : (effect l.answer).stamp ≤ newest_shown (xs ++ l ∷ []) = last_shown xs l in omega arith

-- ---- what is kept of each line

-- a commit of this stamp stands where no commit between its start and itself wrote in its footprint
pub record IsPlaced (kind : Kind) (journal : List Commit) (before : List AnsweredLine) (txn stamp : ℕ) : Type 0 where
  pub some : 0 < stamp
  pub within : stamp ≤ length journal
  pub started : start_of txn before ≤ stamp - 1
  pub clear : IsClear kind journal (footprint kind (of_txn txn before)) (start_of txn before) (stamp - 1)

pub record IsKeptLine (kind : Kind) (journal : List Commit) (before : List AnsweredLine) (l : AnsweredLine) : Type 0 where
  pub refused : is_refused l.command l.answer ≡ true → IsRefusal kind journal before l.txn l.answer
  pub begins : (by : TxnName) (start : ℕ) → l.command ≡ commands.Begin → l.answer ≡ answers.Begun by start → newest_shown before ≤ start
  pub placed : (stamp : ℕ) → ShowsCommit l stamp → IsPlaced kind journal before l.txn stamp

module _ (kind : Kind) (journal more : List Commit) where
  later_more : (start : ℕ) (foot : Key → Bool) → later_in kind (journal ++ more) start foot ≡ later_in kind journal start foot ++ later_in kind more start foot
  later_more start foot =
      ap (map (λ c. c.stamp)) (filter-append (λ (c : Commit). nat_lt start c.stamp && writes_in kind foot c.writes) journal more)
      ∙ map-append (λ (c : Commit). c.stamp) (filter (λ (c : Commit). nat_lt start c.stamp && writes_in kind foot c.writes) journal) (filter (λ (c : Commit). nat_lt start c.stamp && writes_in kind foot c.writes) more)

  refusal_grows : (before : List AnsweredLine) (txn : ℕ) (a : Answer) → IsRefusal kind journal before txn a → IsRefusal kind (journal ++ more) before txn a
  refusal_grows before txn (answers.Conflict (Later stamp)) is = (
    is.0,
    subst (λ xs. Contains xs stamp) (sym (later_more (start_of txn before) (footprint kind (of_txn txn before))))
        (Contains-append_left (later_in kind journal (start_of txn before) (footprint kind (of_txn txn before))) (later_in kind more (start_of txn before) (footprint kind (of_txn txn before))) stamp is.1),
  )
  refusal_grows before txn (answers.Conflict (Holder by)) is = absurd is
  refusal_grows before txn (answers.Begun by start) is = absurd is
  refusal_grows before txn answers.Done is = absurd is
  refusal_grows before txn answers.Exists is = absurd is
  refusal_grows before txn answers.SelfLoop is = absurd is
  refusal_grows before txn (answers.NoVertex v) is = absurd is
  refusal_grows before txn answers.NoEdge is = absurd is
  refusal_grows before txn answers.HasEdges is = absurd is
  refusal_grows before txn answers.Full is = absurd is
  refusal_grows before txn (answers.Weight weight) is = absurd is
  refusal_grows before txn answers.Nothing is = absurd is
  refusal_grows before txn (answers.Neighbours targets) is = absurd is
  refusal_grows before txn (answers.Counted vertices edges) is = absurd is
  refusal_grows before txn (answers.Table entries) is = absurd is
  refusal_grows before txn (answers.Committed stamp) is = absurd is
  refusal_grows before txn answers.Aborted is = absurd is
  refusal_grows before txn answers.Skipped is = absurd is

  placed_grows : (before : List AnsweredLine) (txn stamp : ℕ) → IsPlaced kind journal before txn stamp → IsPlaced kind (journal ++ more) before txn stamp
  placed_grows before txn stamp is = record {
    some = is.some;
    within = omega (arith, is.within, length-append journal more);
    started = is.started;
    clear = λ i c at from below. is.clear i c (sym (get_front_back journal more i (omega (arith, below, is.within))) ∙ at) from below;
  }

  kept_grows : (before : List AnsweredLine) (l : AnsweredLine) → IsKeptLine kind journal before l → IsKeptLine kind (journal ++ more) before l
  kept_grows before l is = record {
    refused = λ e. refusal_grows before l.txn l.answer (is.refused e);
    begins = is.begins;
    placed = λ stamp shows. placed_grows before l.txn stamp (is.placed stamp shows);
  }

-- ---- a run under way

-- the inputs with each refused commit, as far as there are some, read as an `abort`
abbrev pub inputs_at : Inputs → RunState → Inputs
inputs_at inputs s = record inputs { scripts = map script_of (run_read s).jobs }

pub record IsSerialWay (inputs : Inputs) (leaves : ℕ) (s : RunState) : Type 0 where
  -- what is read is a run under way
  pub given : AreInputs (inputs_at inputs s)
  pub under : IsUnderWay (inputs_at inputs s) leaves (run_read s)
  -- the scripts are those of the inputs
  pub whole : map script_of s.jobs ≡ inputs.scripts
  pub shown : (k : ℕ) (j : JobState) → slice_get s.jobs k ≡ Some j → newest_shown j.lines ≤ length s.journal
  pub lines : (k : ℕ) (j : JobState) → slice_get s.jobs k ≡ Some j → EachLine (IsKeptLine inputs.kind s.journal) [] j.lines

-- a run under way is one of the scripts that its states have
pub rebase : (inputs : Inputs) (leaves : ℕ) (t : RunState) → IsUnderWay inputs leaves t → IsUnderWay (record inputs { scripts = map script_of t.jobs }) leaves t
rebase inputs leaves t u = subst (λ x. IsUnderWay (record inputs { scripts = x }) leaves t) (sym u.whole) u

pub rebase_given : (inputs : Inputs) (leaves : ℕ) (t : RunState) → IsUnderWay inputs leaves t → AreInputs inputs → AreInputs (record inputs { scripts = map script_of t.jobs })
rebase_given inputs leaves t u are = subst (λ x. AreInputs (record inputs { scripts = x })) (sym u.whole) are

-- as many rows may have been inserted
pub inserted_read : (kind : Kind) (jobs : List JobState) → inserted_in kind (map (λ (j : JobState). j.lines) (map job_read jobs)) ≡ inserted_in kind (map (λ (j : JobState). j.lines) jobs)
inserted_read kind [] = refl
inserted_read kind (j ∷ jobs) =
    sum_cons (λ (lines : List AnsweredLine). inserted kind (filter_map made_by lines)) (map line_read j.lines) (map (λ (j : JobState). j.lines) (map job_read jobs))
    ∙ (λ i. inserted kind (made_read j.lines i) + inserted_read kind jobs i)
    ∙ sym (sum_cons (λ (lines : List AnsweredLine). inserted kind (filter_map made_by lines)) j.lines (map (λ (j : JobState). j.lines) jobs))

module _ (inputs : Inputs) (leaves : ℕ) (s : RunState) (way : IsSerialWay inputs leaves s) (k : ℕ) (j : JobState) (at : slice_get s.jobs k ≡ Some j) where
  inside : k < length s.jobs
  inside = below_length s.jobs k j at

  read_at : slice_get (run_read s).jobs k ≡ Some (job_read j)
  read_at = get_map job_read s.jobs k j at

  its : IsJob (context_in inputs.kind inputs.load (run_read s) k) (job_read j)
  its = way.under.each k (job_read j) read_at

  -- ---- what a turn leaves, but for what is read

  module _ (j' : JobState) (journal : List Commit) (more : List Commit) (grown : journal ≡ s.journal ++ more) where
    abbrev left_by : RunState
    left_by = record { journal = journal; jobs = slice_set s.jobs k j' }

    longer : length s.journal ≤ length journal
    longer = let sum = ap length grown ∙ length-append s.journal more in omega (arith, sum)

    old_lines : (i : ℕ) (x : JobState) → slice_get s.jobs i ≡ Some x → EachLine (IsKeptLine inputs.kind journal) [] x.lines
    old_lines i x there = subst (λ js. EachLine (IsKeptLine inputs.kind js) [] x.lines) (sym grown)
        (each_weaker (IsKeptLine inputs.kind s.journal) (IsKeptLine inputs.kind (s.journal ++ more)) (kept_grows inputs.kind s.journal more) [] x.lines (way.lines i x there))

    -- with no line more
    no_line : j'.lines ≡ j.lines → script_of j' ≡ script_of j → AreInputs (inputs_at inputs left_by) → IsUnderWay (inputs_at inputs left_by) leaves (run_read left_by) → IsSerialWay inputs leaves left_by
    no_line same script given under = record {
      given = given;
      under = under;
      whole = map_set script_of s.jobs k j j' at script ∙ way.whole;
      shown = λ i x there. elim (set_cases s.jobs k i j' x inside there) as (λ _. newest_shown x.lines ≤ length journal) [
        | inl p ↦ (let is : newest_shown x.lines ≡ newest_shown j.lines = ap (λ (y : JobState). newest_shown y.lines) (sym p.1) ∙ ap newest_shown same in let old = way.shown k j at in omega (arith, is, old, longer))
        | inr p ↦ (let old = way.shown i x p.1 in omega (arith, old, longer))
      ];
      lines = λ i x there. elim (set_cases s.jobs k i j' x inside there) as (λ _. EachLine (IsKeptLine inputs.kind journal) [] x.lines) [
        | inl p ↦ subst (EachLine (IsKeptLine inputs.kind journal) []) (sym same ∙ ap (λ (y : JobState). y.lines) p.1) (old_lines k j at)
        | inr p ↦ old_lines i x p.1
      ];
    }

    -- with one line more
    pub one_line : (l : AnsweredLine) → j'.lines ≡ j.lines ++ l ∷ [] → script_of j' ≡ script_of j → (effect l.answer).stamp ≤ length journal → IsKeptLine inputs.kind journal j.lines l
        → AreInputs (inputs_at inputs left_by) → IsUnderWay (inputs_at inputs left_by) leaves (run_read left_by) → IsSerialWay inputs leaves left_by
    one_line l same script stamp kept given under = record {
      given = given;
      under = under;
      whole = map_set script_of s.jobs k j j' at script ∙ way.whole;
      shown = λ i x there. elim (set_cases s.jobs k i j' x inside there) as (λ _. newest_shown x.lines ≤ length journal) [
        | inl p ↦ subst (λ ls. newest_shown ls ≤ length journal) (sym same ∙ ap (λ (y : JobState). y.lines) p.1)
            (shown_more j.lines l (length journal) (let old = way.shown k j at in omega (arith, old, longer)) stamp)
        | inr p ↦ (let old = way.shown i x p.1 in omega (arith, old, longer))
      ];
      lines = λ i x there. elim (set_cases s.jobs k i j' x inside there) as (λ _. EachLine (IsKeptLine inputs.kind journal) [] x.lines) [
        | inl p ↦ subst (EachLine (IsKeptLine inputs.kind journal) []) (sym same ∙ ap (λ (y : JobState). y.lines) p.1)
            (each_more (IsKeptLine inputs.kind journal) [] j.lines l (old_lines k j at) kept)
        | inr p ↦ old_lines i x p.1
      ];
    }

  -- ---- a commit that isn't refused

  -- where the transaction wrote something it is open since the start that its lines tell
  pub start_is : (w : Write) (ws : List Write) → j.own ≡ w ∷ ws → start_of_job j ≡ start_of j.begun j.lines
  start_is w ws own = by_start j.start refl
    where
      by_start : (x : Option ℕ) → j.start ≡ x → unwrap_or x 0 ≡ start_of j.begun j.lines
      by_start None e = let none : ◌≡◌ {A = List Write} (w ∷ ws) [] = sym own ∙ its.idle e in cc
      by_start (Some start) e = sym ((its.told start e).started) ∙ start_read j.begun j.lines

  pub stamped : (i : ℕ) (c : Commit) → slice_get s.journal i ≡ Some c → c.stamp ≡ i + 1
  stamped i c there = (way.under.transactions.legal.each i c there).stamped

  start_within : start_of j.begun j.lines ≤ length s.journal
  start_within = let first = start_below j.begun j.lines in let most = way.shown k j at in omega (arith, first, most)

  placed_by : (skipping : Bool) (own : List Write) (by : TxnName) → j.own ≡ own → cond skipping None (newest_against inputs.kind s.journal j own) ≡ None → (stamp : ℕ)
      → (cond skipping (skips commands.Commit) (commit_result s.journal by (start_of_job j) own)).answer ≡ answers.Committed (Some stamp)
      → IsPlaced inputs.kind (s.journal ++ (cond skipping (skips commands.Commit) (commit_result s.journal by (start_of_job j) own)).commits) j.lines j.begun stamp
  placed_by true own by is none stamp e = cc
  placed_by false [] by is none stamp e = cc
  placed_by false (w ∷ ws) by is none stamp e =
      let number : length s.journal + 1 ≡ stamp = cc in
      let next : List Commit = record { stamp = length s.journal + 1; start = start_of_job j; by = by; writes = w ∷ ws } ∷ [] in
      let start = start_is w ws is in
      record {
        some = omega (arith, number);
        within = omega (arith, number, length-append s.journal next);
        started = (let most = start_within in omega (arith, number, most));
        clear = λ i c there from below.
            let within : i < length s.journal = omega (arith, below, number) in
            let old : slice_get s.journal i ≡ Some c = sym (get_front_back s.journal next i within) ∙ there in
            none_later inputs.kind s.journal (start_of j.begun j.lines) (footprint inputs.kind (of_txn j.begun j.lines)) (ap (λ n. newest_in inputs.kind s.journal n (footprint inputs.kind (of_txn j.begun j.lines))) (sym start) ∙ none)
            i c old (let is_stamp = stamped i c old in omega (arith, is_stamp, from));
      }

  module _ (full : Bool) where
    abbrev result_at : Command → LineResult
    result_at r = line_result inputs.kind s.journal (open_txns s.jobs) (k + 1) j full r

    placed_at : (r : Command) → r ≡ commands.Commit → refusal_of_line inputs.kind s.journal j r ≡ None → (stamp : ℕ) → (result_at r).answer ≡ answers.Committed (Some stamp)
        → IsPlaced inputs.kind (s.journal ++ (result_at r).commits) j.lines (next_txn j.begun r) stamp
    placed_at commands.Commit is none stamp e = placed_by j.skipping j.own _ refl none stamp e
    placed_at commands.Begin is none stamp e = cc
    placed_at commands.Abort is none stamp e = cc
    placed_at (commands.Write w) is none stamp e = cc
    placed_at (commands.Read query) is none stamp e = cc
    placed_at (commands.Run kernel file) is none stamp e = cc

    begins_at : (r : Command) → r ≡ commands.Begin → (by : TxnName) (start : ℕ) → (result_at r).answer ≡ answers.Begun by start → newest_shown j.lines ≤ start
    begins_at commands.Begin is by start e = by_skipping j.skipping e
      where
        by_skipping : (b : Bool) → (cond b (skips commands.Begin) (line_begins (txn_name (k + 1) (j.begun + 1)) (length s.journal))).answer ≡ answers.Begun by start → newest_shown j.lines ≤ start
        by_skipping true e = cc
        by_skipping false e = let now : length s.journal ≡ start = cc in let most = way.shown k j at in omega (arith, now, most)
    begins_at commands.Commit is by start e = cc
    begins_at commands.Abort is by start e = cc
    begins_at (commands.Write w) is by start e = cc
    begins_at (commands.Read query) is by start e = cc
    begins_at (commands.Run kernel file) is by start e = cc

    module _ (c : Command) (rest : List Command) (left : j.left ≡ c ∷ rest) (none : refusal_of_line inputs.kind s.journal j c ≡ None)
        (filled : full ≡ true → MayFill inputs.kind leaves inputs.load (lines_so_far s)) where
      abbrev next : RunState
      next = job_turn inputs.kind s k full j (c ∷ rest)

      turn_is : turn inputs.kind s (suc k) full ≡ next
      turn_is = ap (turn_at_place inputs.kind s k full) at ∙ ap (job_turn inputs.kind s k full j) left

      under_next : IsUnderWay (inputs_at inputs s) leaves (run_read next)
      under_next = subst (IsUnderWay (inputs_at inputs s) leaves) (turn_read inputs.kind s (suc k) full ∙ ap run_read turn_is)
          (turn_keeps (inputs_at inputs s) leaves (run_read s) (suc k) full way.under
          (λ e. (let most = filled e in let same = inserted_read inputs.kind s.jobs in omega (arith, most, same))))

      abbrev line : AnsweredLine
      line = record { txn = next_txn j.begun c; command = c; answer = (result_at c).answer }

      kept_line : IsKeptLine inputs.kind (s.journal ++ (result_at c).commits) j.lines line
      kept_line = record {
        refused = λ e. absurd (true≢false (sym e ∙ none_refused inputs.kind s.journal (open_txns s.jobs) (k + 1) j full c));
        begins = λ by start is e. begins_at c is by start e;
        placed = λ stamp shows. placed_at c shows.0 none stamp shows.1;
      }

      script_is : script_of (answered_job j c rest (result_at c)) ≡ script_of j
      script_is =
          ap (λ cs. cs ++ rest) (map-append (λ (l : AnsweredLine). l.command) j.lines (line ∷ [])) ∙ append_assoc (map (λ (l : AnsweredLine). l.command) j.lines) (c ∷ []) rest
          ∙ ap (λ cs. map (λ (l : AnsweredLine). l.command) j.lines ++ cs) (sym left)

      waits : next ≡ with_job s k (record j { taken = j.taken + 1 }) → IsSerialWay inputs leaves next
      waits is = subst (IsSerialWay inputs leaves) (sym is)
          (let u = subst (λ x. IsUnderWay (inputs_at inputs s) leaves (run_read x)) is under_next in
          no_line (record j { taken = j.taken + 1 }) s.journal [] (sym (append-nil s.journal)) refl refl
          (rebase_given (inputs_at inputs s) leaves (run_read (with_job s k (record j { taken = j.taken + 1 }))) u way.given) (rebase (inputs_at inputs s) leaves (run_read (with_job s k (record j { taken = j.taken + 1 }))) u))

      answers_line : next ≡ line_turn inputs.kind s k full j c rest → IsSerialWay inputs leaves next
      answers_line is = subst (IsSerialWay inputs leaves) (sym is)
          (let after : RunState = line_turn inputs.kind s k full j c rest in
          let j' : JobState = answered_job j c rest (result_at c) in
          let u = subst (λ x. IsUnderWay (inputs_at inputs s) leaves (run_read x)) is under_next in
          let there : slice_get (run_read after).jobs k ≡ Some (job_read j') = get_map job_read after.jobs k j' (get_set s.jobs k j' inside) in
          let most : newest_shown (map line_read (j.lines ++ line ∷ [])) ≤ length after.journal = (u.each k (job_read j') there).shown in
          let as_is : map line_read (j.lines ++ line ∷ []) ≡ map line_read j.lines ++ line ∷ [] =
          map-append line_read j.lines (line ∷ []) ∙ ap (λ x. map line_read j.lines ++ x ∷ []) (read_as_is line (none_refused inputs.kind s.journal (open_txns s.jobs) (k + 1) j full c)) in
          let last = last_shown (map line_read j.lines) line in
          let stamp : (effect line.answer).stamp ≤ length after.journal = (let same = ap newest_shown as_is in omega (arith, most, same, last)) in
          one_line j' after.journal (result_at c).commits refl line refl script_is stamp kept_line
          (rebase_given (inputs_at inputs s) leaves (run_read after) u way.given) (rebase (inputs_at inputs s) leaves (run_read after) u))

      pub goes_on : IsSerialWay inputs leaves next
      goes_on = elim (nat_lt (j.taken + 1) (turns_of inputs.kind s.journal j c))
          as (λ t. nat_lt (j.taken + 1) (turns_of inputs.kind s.journal j c) ≡ t → IsSerialWay inputs leaves next) [
            | true ↦ λ e. waits (ap (λ t. cond t (with_job s k (record j { taken = j.taken + 1 })) (line_turn inputs.kind s k full j c rest)) e)
            | false ↦ λ e. answers_line (ap (λ t. cond t (with_job s k (record j { taken = j.taken + 1 })) (line_turn inputs.kind s k full j c rest)) e)
          ] refl
