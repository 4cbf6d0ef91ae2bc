-- What the lines before a line tell, where one line more stands behind them.
use Rattle.std.proofs.Common.{◌≡◌, ℕ, ◌<◌, ◌≤◌, List, [], ◌∷◌, ◌++◌, map, refl, sym, ◌∙◌, ap, arith, cond}
use Rattle.std.specs.Prelude.{true, false, ◌==◌, ◌||◌, Option, Some, None, max}
use Rattle.std.specs.List.{filter_map, list_any}
use Rattle.std.proofs.lemmas.Bool.Decides.{nat_tests}
use Rattle.std.proofs.lemmas.List.Elements.{filter-append, filter_map-append}
use Rattle.std.proofs.lemmas.List.Folds.{list_any-append}
use Rattle.graph_model.proofs.PlaceLemmas.{some_eq}
use Rattle.graph_model.proofs.TestLemmas.{self_eq}
use Rattle.run_model.specs.declared.command.Command.{Command}
use Rattle.run_model.specs.declared.answer.Answer.{Answer}
use Rattle.run_model.specs.declared.answer.Answer.TheVariants as answers
use Rattle.run_model.specs.declared.command.Command.TheVariants as commands
use Rattle.run_model.specs.Commands.{next_txn, begun_by}
use Rattle.run_model.specs.AnsweredLines.{AnsweredLine, answered_from, effect, made_by, of_txn, own_writes, is_stopped, or_later, first_start, start_of, newest_shown}
use Rattle.run_model.specs.UnderWay.{AreNumbered}

-- ---- numbers of transactions

-- no line goes back to an earlier transaction
pub next_least : (txn : ℕ) (r : Command) → txn ≤ next_txn txn r
next_least txn commands.Begin = omega arith
next_least txn commands.Commit = omega arith
next_least txn commands.Abort = omega arith
next_least txn (commands.Write w) = omega arith
next_least txn (commands.Read query) = omega arith
next_least txn (commands.Run kernel file) = omega arith

-- so none of the lines is of one before the first
numbered_least : (before : ℕ) (ls : List AnsweredLine) (latest : ℕ) → AreNumbered before ls latest → before ≤ latest
numbered_least before [] latest are = omega (arith, are)
numbered_least before (l ∷ ls) latest are =
    let rest : next_txn before l.command ≤ latest = numbered_least (next_txn before l.command) ls latest are.1 in
    let step : before ≤ next_txn before l.command = next_least before l.command in
    omega arith

-- one line more has the number of the transaction behind it
pub numbered_more : (before : ℕ) (ls : List AnsweredLine) (latest : ℕ) (c : Command) (a : Answer) → AreNumbered before ls latest
    → AreNumbered before (ls ++ record { txn = next_txn latest c; command = c; answer = a } ∷ []) (next_txn latest c)
numbered_more before [] latest c a are = (ap (λ n. next_txn n c) (sym are), ap (λ n. next_txn n c) are)
numbered_more before (l ∷ ls) latest c a are = (are.0, numbered_more (next_txn before l.command) ls latest c a are.1)

-- numbered lines are those of their commands and answers
pub numbered_lines : (before : ℕ) (ls : List AnsweredLine) (latest : ℕ) → AreNumbered before ls latest
    → answered_from before (map (λ l. l.command) ls) (map (λ l. l.answer) ls) ≡ ls
numbered_lines before [] latest are = refl
numbered_lines before (l ∷ ls) latest are =
    (λ i. record { txn = sym are.0 i; command = l.command; answer = l.answer } ∷ numbered_lines (next_txn before l.command) ls latest are.1 i)

-- behind numbered lines a script comes to as many transactions as it does as a whole
pub begun_behind : (before : ℕ) (ls : List AnsweredLine) (latest : ℕ) (cs : List Command) → AreNumbered before ls latest
    → begun_by before (map (λ l. l.command) ls ++ cs) ≡ begun_by latest cs
begun_behind before [] latest cs are = ap (λ n. begun_by n cs) are
begun_behind before (l ∷ ls) latest cs are = begun_behind (next_txn before l.command) ls latest cs are.1

-- no line is of a transaction behind the latest
pub none_later : (before : ℕ) (ls : List AnsweredLine) (latest txn : ℕ) → AreNumbered before ls latest → latest < txn → of_txn txn ls ≡ []
none_later before [] latest txn are later = refl
none_later before (l ∷ ls) latest txn are later =
    let most : next_txn before l.command ≤ latest = numbered_least (next_txn before l.command) ls latest are.1 in
    let number : l.txn ≡ next_txn before l.command = are.0 in
    let below : l.txn < txn = omega arith in
    let other : (l.txn == txn) ≡ false = grind (arith, nat_tests) in
    ap (λ s. cond s (l ∷ of_txn txn ls) (of_txn txn ls)) other ∙ none_later (next_txn before l.command) ls latest txn are.1 later

-- ---- one line more of a transaction

module _ (txn : ℕ) (before : List AnsweredLine) (l : AnsweredLine) (same : l.txn ≡ txn) where
  -- it is the last of the transaction's lines
  of_more : of_txn txn (before ++ l ∷ []) ≡ of_txn txn before ++ l ∷ []
  of_more =
      filter-append (λ (k : AnsweredLine). k.txn == txn) before (l ∷ [])
      ∙ ap (λ s. of_txn txn before ++ cond s (l ∷ []) []) (ap (λ n. n == txn) same ∙ self_eq txn)

  -- the transaction's writes are followed by the line's
  pub own_more : own_writes txn (before ++ l ∷ []) ≡ own_writes txn before ++ filter_map made_by (l ∷ [])
  own_more = ap (filter_map made_by) of_more ∙ filter_map-append made_by (of_txn txn before) (l ∷ [])

  -- it is stopped where it was, or where the line stops it
  pub stopped_more : is_stopped txn (before ++ l ∷ []) ≡ (is_stopped txn before || ((effect l.answer).stops || false))
  stopped_more =
      ap (list_any (λ k. (effect k.answer).stops)) of_more
      ∙ list_any-append (λ (k : AnsweredLine). (effect k.answer).stops) (of_txn txn before) (l ∷ [])

  -- it keeps its start, where the line gives none
  pub start_more : (effect l.answer).start ≡ None → start_of txn (before ++ l ∷ []) ≡ start_of txn before
  start_more none = ap first_start of_more ∙ first_more (of_txn txn before)
    where
      first_more : (ls : List AnsweredLine) → first_start (ls ++ l ∷ []) ≡ first_start ls
      first_more [] = ap (λ s. or_later s 0) none
      first_more (k ∷ ls) = ap (or_later (effect k.answer).start) (first_more ls)

  -- the first line gives it
  pub start_first : (start : ℕ) → of_txn txn before ≡ [] → (effect l.answer).start ≡ Some start → start_of txn (before ++ l ∷ []) ≡ start
  start_first start none gives = ap first_start (of_more ∙ ap (λ ls. ls ++ l ∷ []) none) ∙ ap (λ s. or_later s 0) gives

-- ---- stamps that are shown

max_left : (m n : ℕ) → m ≤ max m n
max_left m n = omega arith

max_right : (m n : ℕ) → n ≤ max m n
max_right m n = omega arith

-- no stamp beyond a bound is shown, where the lines before and the last one show none
pub shown_more : (before : List AnsweredLine) (l : AnsweredLine) (bound : ℕ) → newest_shown before ≤ bound → (effect l.answer).stamp ≤ bound → newest_shown (before ++ l ∷ []) ≤ bound
shown_more [] l bound old new = omega (arith, new)
shown_more (k ∷ before) l bound old new =
    let part : newest_shown before ≤ max (effect k.answer).stamp (newest_shown before) = max_right _ _ in
    let here : (effect k.answer).stamp ≤ max (effect k.answer).stamp (newest_shown before) = max_left _ _ in
    let rest : newest_shown (before ++ l ∷ []) ≤ bound = shown_more before l bound (omega arith) new in
    omega arith

-- the first lines show no more than all
pub shown_front : (before rest : List AnsweredLine) → newest_shown before ≤ newest_shown (before ++ rest)
shown_front [] rest = omega arith
shown_front (k ∷ before) rest = let part : newest_shown before ≤ newest_shown (before ++ rest) = shown_front before rest in omega arith

-- an answer shows the start that it gives
start_shown : (a : Answer) (start : ℕ) → (effect a).start ≡ Some start → start ≤ (effect a).stamp
start_shown (answers.Begun by from) start e = let same : from ≡ start = some_eq from start e in omega arith
start_shown answers.Done start e = cc
start_shown answers.Exists start e = cc
start_shown answers.SelfLoop start e = cc
start_shown (answers.NoVertex v) start e = cc
start_shown answers.NoEdge start e = cc
start_shown answers.HasEdges start e = cc
start_shown (answers.Conflict cause) start e = cc
start_shown answers.Full start e = cc
start_shown (answers.Weight weight) start e = cc
start_shown answers.Nothing start e = cc
start_shown (answers.Neighbours targets) start e = cc
start_shown (answers.Counted vertices edges) start e = cc
start_shown (answers.Table entries) start e = cc
start_shown (answers.Committed stamp) start e = cc
start_shown answers.Aborted start e = cc
start_shown answers.Skipped start e = cc

-- so a transaction's start is shown
pub start_below : (txn : ℕ) (ls : List AnsweredLine) → start_of txn ls ≤ newest_shown ls
start_below txn [] = omega arith
start_below txn (l ∷ ls) = elim (l.txn == txn) as (λ s. first_start (cond s (l ∷ of_txn txn ls) (of_txn txn ls)) ≤ max (effect l.answer).stamp (newest_shown ls)) [
  | true ↦ by_start (effect l.answer).start refl (start_below txn ls)
  | false ↦ later (start_below txn ls)
]
  where
    later : first_start (of_txn txn ls) ≤ newest_shown ls → first_start (of_txn txn ls) ≤ max (effect l.answer).stamp (newest_shown ls)
    later rest = let part : newest_shown ls ≤ max (effect l.answer).stamp (newest_shown ls) = max_right _ _ in omega arith

    by_start : (s : Option ℕ) → (effect l.answer).start ≡ s → first_start (of_txn txn ls) ≤ newest_shown ls → or_later s (first_start (of_txn txn ls)) ≤ max (effect l.answer).stamp (newest_shown ls)
    by_start None e rest = later rest
    by_start (Some start) e rest =
        let here : start ≤ (effect l.answer).stamp = start_shown l.answer start e in
        let part : (effect l.answer).stamp ≤ max (effect l.answer).stamp (newest_shown ls) = max_left _ _ in
        omega arith
