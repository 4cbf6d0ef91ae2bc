-- What a turn of a run leaves of the job that takes it, for what is checked of the job.
use Rattle.std.proofs.Common.{◌≡◌, ℕ, suc, ◌+◌, ◌/◌, List, [], ◌∷◌, ◌++◌, length, refl, sym, ◌∙◌, ap, subst, arith, cond}
use Rattle.std.specs.Prelude.{Bool, true, false, ◌==◌, ◌&&◌, ◌||◌, nat_lt, slice_get, slice_set, Some}
use Rattle.std.proofs.lemmas.Bool.Decides.{nat_tests}
use Rattle.std.proofs.lemmas.List.{append-nil}
use Rattle.std.proofs.lemmas.List.Elements.{filter-append}
use Rattle.std.proofs.lemmas.List.Folds.{list_any-append}
use Rattle.graph_model.specs.declared.write.Kind.{Kind}
use Rattle.graph_model.specs.declared.row.Key.{Key}
use Rattle.graph_model.proofs.TestLemmas.{self_eq}
use Rattle.run_model.specs.declared.command.Command.{Command}
use Rattle.run_model.specs.declared.answer.Answer.{Answer}
use Rattle.run_model.specs.declared.command.Command.TheVariants as commands
use Rattle.run_model.specs.Commands.{next_txn}
use Rattle.run_model.specs.AnsweredLines.{AnsweredLine, effect, of_txn}
use Rattle.run_model.specs.Jobs.{JobState, RunState, LineResult, open_txns, line_result, turns_of, answered_job, with_job, line_turn, job_turn, turn_at_place, turn}
use Rattle.run_model.specs.UnderWay.{AreNumbered}
use Rattle.run_model.proofs.LineLemmas.{none_later}
use Rattle.serial_model.specs.Footprints.{depends, footprint}
use Rattle.serial_model.specs.SerialRun.{is_refused}
use Rattle.serial_model.proofs.ReadLemmas.{none_refused}
use Rattle.serial_check.specs.declared.range.FootprintRange.{FootprintRange}
use Rattle.serial_check.specs.Ranges.{covers, IsRowKey}
use Rattle.serial_runner.specs.SerialRuns.{refused_from, depends_at_hand, IsFootprintOf, Extends}

-- ---- the job behind a turn

-- a line was answered so
pub record HasAnswered (j : JobState) (c : Command) (rest : List Command) (a : Answer) (next : JobState) : Type 0 where
  pub lines : next.lines ≡ j.lines ++ record { txn = next_txn j.begun c; command = c; answer = a } ∷ []
  pub left : next.left ≡ rest
  pub taken : next.taken ≡ 0
  pub begun : next.begun ≡ next_txn j.begun c

-- the job waits for its line's next turn, or its line was answered and isn't a refused commit
pub data Goes (j : JobState) (c : Command) (rest : List Command) (next : JobState) : Type 0 where
  Waits : ((n : ℕ) → next_txn n c ≡ n) → next ≡ record j { taken = j.taken + 1 } → Goes j c rest next
  Answers : (a : Answer) → is_refused c a ≡ false → HasAnswered j c rest a next → Goes j c rest next

module _ (kind : Kind) (s : RunState) (k : ℕ) (full : Bool) (j : JobState) (at : slice_get s.jobs k ≡ Some j) (c : Command) (rest : List Command) (left : j.left ≡ c ∷ rest) where
  pub turn_goes : (next : JobState) × ((turn kind s (suc k) full).jobs ≡ slice_set s.jobs k next) × Goes j c rest next
  turn_goes = subst (λ t. (next : JobState) × (t.jobs ≡ slice_set s.jobs k next) × Goes j c rest next)
      (sym (ap (turn_at_place kind s k full) at ∙ ap (job_turn kind s k full j) left)) by_turns
    where
      result : LineResult
      result = line_result kind s.journal (open_txns s.jobs) (k + 1) j full c

      -- a `begin` takes one turn
      waits_inside : (r : Command) → nat_lt (j.taken + 1) (turns_of kind s.journal j r) ≡ true → (n : ℕ) → next_txn n r ≡ n
      waits_inside commands.Begin e n = by_skipping j.skipping e
        where
          one : (t : ℕ) → nat_lt (t + 1) 1 ≡ true → ⊥
          one t e = grind (arith, nat_tests)

          by_skipping : (b : Bool) → nat_lt (j.taken + 1) (cond b 1 (0 / 64 + 1)) ≡ true → n + 1 ≡ n
          by_skipping true e = absurd (one j.taken e)
          by_skipping false e = absurd (one j.taken e)
      waits_inside commands.Commit e n = refl
      waits_inside commands.Abort e n = refl
      waits_inside (commands.Write w) e n = refl
      waits_inside (commands.Read query) e n = refl
      waits_inside (commands.Run kernel file) e n = refl

      by_turns : (next : JobState) × ((job_turn kind s k full j (c ∷ rest)).jobs ≡ slice_set s.jobs k next) × Goes j c rest next
      by_turns = elim (nat_lt (j.taken + 1) (turns_of kind s.journal j c))
          as (λ t. nat_lt (j.taken + 1) (turns_of kind s.journal j c) ≡ t
          → (next : JobState) × ((cond t (with_job s k (record j { taken = j.taken + 1 })) (line_turn kind s k full j c rest)).jobs ≡ slice_set s.jobs k next) × Goes j c rest next) [
            | true ↦ λ e. (record j { taken = j.taken + 1 }, refl, Waits (waits_inside c e) refl)
            | false ↦ λ e. (
              answered_job j c rest result,
              refl,
              Answers result.answer (none_refused kind s.journal (open_txns s.jobs) (k + 1) j full c) (record { lines = refl; left = refl; taken = refl; begun = refl }),
            )
          ] refl

-- ---- refused commits

refused_more : (place : ℕ) (ls : List AnsweredLine) (l : AnsweredLine) → refused_from place (ls ++ l ∷ []) ≡ refused_from place ls ++ cond (is_refused l.command l.answer) (record { line = place + length ls; stamp = (effect l.answer).stamp } ∷ []) []
refused_more place [] l = let same : place ≡ place + 0 = omega arith in ap (λ n. cond (is_refused l.command l.answer) (record { line = n; stamp = (effect l.answer).stamp } ∷ []) []) same
refused_more place (x ∷ ls) l =
    let step : place + 1 + length ls ≡ place + length (x ∷ ls) = omega arith in
    let rest = refused_more (place + 1) ls l ∙ ap (λ n. refused_from (place + 1) ls ++ cond (is_refused l.command l.answer) (record { line = n; stamp = (effect l.answer).stamp } ∷ []) []) step in
    elim (is_refused x.command x.answer) as (λ t. cond t (record { line = place; stamp = (effect x.answer).stamp } ∷ refused_from (place + 1) (ls ++ l ∷ [])) (refused_from (place + 1) (ls ++ l ∷ []))
    ≡ cond t (record { line = place; stamp = (effect x.answer).stamp } ∷ refused_from (place + 1) ls) (refused_from (place + 1) ls) ++ cond (is_refused l.command l.answer) (record { line = place + length (x ∷ ls); stamp = (effect l.answer).stamp } ∷ []) []) [
      | true ↦ ap (λ rs. record { line = place; stamp = (effect x.answer).stamp } ∷ rs) rest
      | false ↦ rest
    ]

-- a line that isn't one adds none
pub refused_same : (ls : List AnsweredLine) (l : AnsweredLine) → is_refused l.command l.answer ≡ false → refused_from 0 (ls ++ l ∷ []) ≡ refused_from 0 ls
refused_same ls l e = refused_more 0 ls l ∙ ap (λ t. refused_from 0 ls ++ cond t (record { line = 0 + length ls; stamp = (effect l.answer).stamp } ∷ []) []) e ∙ append-nil (refused_from 0 ls)

-- one that is adds itself
pub refused_one : (ls : List AnsweredLine) (l : AnsweredLine) → is_refused l.command l.answer ≡ true → refused_from 0 (ls ++ l ∷ []) ≡ refused_from 0 ls ++ record { line = length ls; stamp = (effect l.answer).stamp } ∷ []
refused_one ls l e =
    let same : 0 + length ls ≡ length ls = omega arith in
    refused_more 0 ls l ∙ ap (λ t. refused_from 0 ls ++ cond t (record { line = 0 + length ls; stamp = (effect l.answer).stamp } ∷ []) []) e
    ∙ ap (λ n. refused_from 0 ls ++ record { line = n; stamp = (effect l.answer).stamp } ∷ []) same

-- ---- footprints

or_false : (b : Bool) → (b || false) ≡ b
or_false true = refl
or_false false = refl

txn_more : (txn : ℕ) (before : List AnsweredLine) (l : AnsweredLine) → l.txn ≡ txn → of_txn txn (before ++ l ∷ []) ≡ of_txn txn before ++ l ∷ []
txn_more txn before l same =
    filter-append (λ (k : AnsweredLine). k.txn == txn) before (l ∷ [])
    ∙ ap (λ s. of_txn txn before ++ cond s (l ∷ []) []) (ap (λ n. n == txn) same ∙ self_eq txn)

-- the footprint of a transaction with one line more
foot_more : (kind : Kind) (txn : ℕ) (before : List AnsweredLine) (l : AnsweredLine) → l.txn ≡ txn → (q : Key)
    → footprint kind (of_txn txn (before ++ l ∷ [])) q ≡ (footprint kind (of_txn txn before) q || depends kind l.command q)
foot_more kind txn before l same q =
    ap (λ ls. footprint kind ls q) (txn_more txn before l same)
    ∙ list_any-append (λ (m : AnsweredLine). depends kind m.command q) (of_txn txn before) (l ∷ [])
    ∙ ap (λ b. footprint kind (of_txn txn before) q || b) (or_false (depends kind l.command q))

-- what the ranges cover before the line takes its turn: the line's footprint with that of its transaction
abbrev pub CoversWith : Kind → JobState → Command → List FootprintRange → Type 0
CoversWith kind j c ranges = (q : Key) → IsRowKey q → covers ranges q ≡ (footprint kind (of_txn (next_txn j.begun c) j.lines) q || depends kind c q)

positive : (n : ℕ) → nat_lt 0 (n + 1) ≡ true
positive n = grind (arith, nat_tests)

-- behind a line that was answered that is what they have to cover
pub foot_answered : (kind : Kind) (j : JobState) (c : Command) (rest : List Command) (a : Answer) (next : JobState) (ranges : List FootprintRange) → HasAnswered j c rest a next → CoversWith kind j c ranges → IsFootprintOf kind next ranges
foot_answered kind j c rest a next ranges has covered q row =
    covered q row
    ∙ sym (foot_more kind (next_txn j.begun c) j.lines (record { txn = next_txn j.begun c; command = c; answer = a }) refl q)
    ∙ sym (ap (λ n. footprint kind (of_txn n next.lines) q || (nat_lt 0 next.taken && depends_at_hand kind next.left q)) has.begun
    ∙ ap (λ ls. footprint kind (of_txn (next_txn j.begun c) ls) q || (nat_lt 0 next.taken && depends_at_hand kind next.left q)) has.lines
    ∙ ap (λ n. footprint kind (of_txn (next_txn j.begun c) (j.lines ++ record { txn = next_txn j.begun c; command = c; answer = a } ∷ [])) q || (nat_lt 0 n && depends_at_hand kind next.left q)) has.taken
    ∙ or_false (footprint kind (of_txn (next_txn j.begun c) (j.lines ++ record { txn = next_txn j.begun c; command = c; answer = a } ∷ [])) q))

-- and so behind each turn
pub foot_behind : (kind : Kind) (j : JobState) (c : Command) (rest : List Command) (next : JobState) (ranges : List FootprintRange) → j.left ≡ c ∷ rest → Goes j c rest next → CoversWith kind j c ranges → IsFootprintOf kind next ranges
foot_behind kind j c rest next ranges left (Waits inside is) covered q row =
    covered q row
    ∙ ap (λ n. footprint kind (of_txn n j.lines) q || depends kind c q) (inside j.begun)
    ∙ sym (ap (λ b. footprint kind (of_txn j.begun j.lines) q || (b && depends kind c q)) (positive j.taken))
    ∙ sym (ap (λ cs. footprint kind (of_txn j.begun j.lines) q || (nat_lt 0 (j.taken + 1) && depends_at_hand kind cs q)) left)
    ∙ sym (ap (λ (x : JobState). footprint kind (of_txn x.begun x.lines) q || (nat_lt 0 x.taken && depends_at_hand kind x.left q)) is)
foot_behind kind j c rest next ranges left (Answers a not has) covered q row = foot_answered kind j c rest a next ranges has covered q row

-- what a line's check does to the ranges is what they have to cover before the turn
pub foot_extended : (kind : Kind) (j : JobState) (c : Command) (rest : List Command) (old new : List FootprintRange) → j.left ≡ c ∷ rest → AreNumbered 0 j.lines j.begun → IsFootprintOf kind j old → Extends kind c old new → CoversWith kind j c new
foot_extended kind j c rest old new left numbered tie extends = by_command c refl extends
  where
    -- with what the line at hand has added so far
    before : (q : Key) → IsRowKey q → covers old q ≡ (footprint kind (of_txn j.begun j.lines) q || (nat_lt 0 j.taken && depends kind c q))
    before q row = tie q row ∙ ap (λ cs. footprint kind (of_txn j.begun j.lines) q || (nat_lt 0 j.taken && depends_at_hand kind cs q)) left

    once : (f t d : Bool) → ((f || (t && d)) || d) ≡ (f || d)
    once true t d = refl
    once false true true = refl
    once false true false = refl
    once false false d = refl

    adds : (r : Command) → c ≡ r → ((n : ℕ) → next_txn n r ≡ n) → ((q : Key) → IsRowKey q → covers new q ≡ (covers old q || depends kind r q)) → CoversWith kind j c new
    adds r is inside more q row =
        more q row
        ∙ ap (λ b. b || depends kind r q) (before q row)
        ∙ ap (λ x. (footprint kind (of_txn j.begun j.lines) q || (nat_lt 0 j.taken && depends kind x q)) || depends kind r q) is
        ∙ once (footprint kind (of_txn j.begun j.lines) q) (nat_lt 0 j.taken) (depends kind r q)
        ∙ sym (ap (λ x. footprint kind (of_txn (next_txn j.begun x) j.lines) q || depends kind x q) is ∙ ap (λ n. footprint kind (of_txn n j.lines) q || depends kind r q) (inside j.begun))

    by_command : (r : Command) → c ≡ r → Extends kind r old new → CoversWith kind j c new
    by_command commands.Begin is e = λ q row.
        ap (λ rs. covers rs q) (e.begins refl)
        ∙ sym (ap (λ x. footprint kind (of_txn (next_txn j.begun x) j.lines) q || depends kind x q) is
        ∙ ap (λ ls. footprint kind ls q || false) (none_later 0 j.lines j.begun (j.begun + 1) numbered (omega arith)))
    by_command commands.Commit is e = adds commands.Commit is (λ n. refl) (e.others refl)
    by_command commands.Abort is e = adds commands.Abort is (λ n. refl) (e.others refl)
    by_command (commands.Write w) is e = adds (commands.Write w) is (λ n. refl) (e.others refl)
    by_command (commands.Read query) is e = adds (commands.Read query) is (λ n. refl) (e.others refl)
    by_command (commands.Run kernel file) is e = adds (commands.Run kernel file) is (λ n. refl) (e.others refl)

-- a line that isn't a `begin` may leave the ranges, where it depends on nothing
pub extends_none : (kind : Kind) (old new : List FootprintRange) → new ≡ old → Extends kind commands.Commit old new
extends_none kind old new same = record {
  begins = λ e. absurd (let never : false ≡ true = e in cc);
  others = λ e q row. ap (λ rs. covers rs q) same ∙ sym (or_false (covers old q));
}
