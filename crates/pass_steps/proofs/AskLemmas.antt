-- What a pass knows after one word more, and of what it lends and gets back.
use Rattle.std.proofs.Common.{◌≡◌, ◌⊎◌, inl, inr, ℕ, ◌+◌, ◌-◌, ◌<◌, ◌≤◌, List, [], ◌∷◌, ◌++◌, length, refl, sym, ◌∙◌, ap, subst, cond, arith, append-nil}
use Rattle.std.specs.Prelude.{Bool, true, false, ◌==◌, ◌&&◌, ◌||◌, nat_lt, nat_le, Some, None, unwrap_or}
use Rattle.std.proofs.lemmas.Bool.{or_left, or_right}
use Rattle.std.proofs.lemmas.Bool.Decides.{nat_tests}
use Rattle.graph_model.specs.declared.journal.Commit.{Commit}
use Rattle.graph_model.specs.declared.journal.TxnName.{TxnName}
use Rattle.graph_model.specs.declared.state.State.{State}
use Rattle.graph_model.specs.declared.state.State.TheVariants.{Live, Committed, Aborted}
use Rattle.graph_model.specs.Conflict.{same_name}
use Rattle.graph_model.specs.Transactions.{stamp_in}
use Rattle.graph_model.proofs.TestLemmas.{self_eq, name_self}
use Rattle.txn_manager.specs.declared.config.Config.{Config}
use Rattle.undo_chain.specs.States.{Grows, IsAnswer}
use Rattle.seat_views.specs.Keeping.{kept_at}
use Rattle.store_rule.specs.StoreRelation.Passes.{PassState, fresh_pass}
use Rattle.store_rule.specs.StoreRelation.ReadLaws.{Answers}
use Rattle.store_rule.specs.StoreRelation.Steps.{look_at, with_look}
use Rattle.store_rule.specs.StoreRelation.Words.{Look, state_of_word}
use Rattle.store_rule.specs.StoreRelation.Shared.{longer_of}
use Rattle.store_rule.specs.RuleModel.Sight.{HasPass, Sight}
use Rattle.store_rule.specs.RuleModel.ViewSteps.{joined}
use Rattle.store_rule.proofs.StoreWords.NoteLemmas.{longer_none}
use Rattle.pass_steps.specs.Asking.{HasLooked, is_vouched, kept_part, knowledge_at, lent_part, state_at, word_kept}
use Rattle.pass_steps.specs.Passes.{state_in}
use Rattle.pass_steps.proofs.SightLemmas.{kept_else, kept_here, state_here}

-- ---- one word more

kept_is : (p : ℕ) (by : TxnName) (n : ℕ) (v : Sight)
    → state_in (word_kept p by n v) p ≡ with_look (state_in v p) (look_at (state_in v p) by n)
kept_is p by n v = state_here v p (with_look (state_in v p) (look_at (state_in v p) by n)) []

vouched_more : (clock : ℕ) (l : Look) (ls : List Look) (by : TxnName) (state : State)
    → is_vouched clock ls by state ≡ true → is_vouched clock (l ∷ ls) by state ≡ true
vouched_more clock l ls by Live h =
    or_right (same_name l.by by && ((l.word == 1) || nat_lt (clock + 2) l.word)) _ h
vouched_more clock l ls by (Committed stamp) h = or_right (same_name l.by by && (l.word == (stamp + 2))) _ h
vouched_more clock l ls by Aborted h = h

-- it knows more
pub word_grows : (z : Config) (p clock : ℕ) (by : TxnName) (n : ℕ) (v : Sight)
    → Grows (knowledge_at z p clock v) (knowledge_at z p clock (word_kept p by n v))
word_grows z p clock by n v = let e = kept_is p by n v in
    record {
      known = ap (λ (u : PassState). length u.seen) e;
      stamps = ap (λ (u : PassState). stamp_in u.seen) e;
      names = refl;
      vouched = λ b state h. ap (λ (u : PassState). is_vouched clock u.looks b state) e
          ∙ vouched_more clock (look_at (state_in v p) by n) (state_in v p).looks b state h;
    }

-- a look vouches for what is said by its word
said_vouched : (clock : ℕ) (l : Look) (ls : List Look) → (l.word ≡ 1) ⊎ (2 < l.word)
    → is_vouched clock (l ∷ ls) l.by (state_at clock l.word) ≡ true
said_vouched clock l ls (inl one) =
    ap (λ k. is_vouched clock (record { by = l.by; word = k; until = l.until } ∷ ls) l.by (state_at clock k)) one
    ∙ or_left _ _ (λ i. name_self l.by i && true)
said_vouched clock l ls (inr up) = by_test (nat_le (l.word - 2) clock) refl
  where
    high : nat_lt 2 l.word ≡ true
    high = grind (arith, nat_tests)

    State_is : State → Type 0
    State_is state = is_vouched clock (l ∷ ls) l.by state ≡ true

    whole : l.word - 2 + 2 ≡ l.word
    whole = omega (arith, up)

    by_test : (t : Bool) → nat_le (l.word - 2) clock ≡ t → State_is (state_at clock l.word)
    by_test true le =
        subst (λ b. State_is (cond b (cond (nat_le (l.word - 2) clock) (Committed (l.word - 2)) Live)
        (cond (l.word == 1) Live Aborted))) (sym high)
        (subst (λ b. State_is (cond b (Committed (l.word - 2)) Live)) (sym le)
        (or_left _ _ (λ i. name_self l.by i && (ap (λ k. l.word == k) whole ∙ self_eq l.word) i)))
    by_test false gt =
        let above : nat_lt (clock + 2) l.word ≡ true = grind (arith, nat_tests) in
        subst (λ b. State_is (cond b (cond (nat_le (l.word - 2) clock) (Committed (l.word - 2)) Live)
        (cond (l.word == 1) Live Aborted))) (sym high)
        (subst (λ b. State_is (cond b (Committed (l.word - 2)) Live)) (sym gt)
        (or_left _ _ (λ i. name_self l.by i && or_right (l.word == 1) _ above i)))

pub word_vouched : (p clock : ℕ) (by : TxnName) (n : ℕ) (v : Sight) → (n ≡ 1) ⊎ (2 < n)
    → is_vouched clock (state_in (word_kept p by n v) p).looks by (state_at clock n) ≡ true
word_vouched p clock by n v is =
    ap (λ (u : PassState). is_vouched clock u.looks by (state_at clock n)) (kept_is p by n v)
    ∙ said_vouched clock (look_at (state_in v p) by n) (state_in v p).looks is

-- and it is a right answer
pub word_answers : (clock : ℕ) (seen : List Commit) (by : TxnName) (n : ℕ) (names : TxnName → Bool)
    (vouched : TxnName → State → Bool) → length seen ≤ clock → (n ≡ 1) ⊎ (2 < n) → Answers seen by n
    → IsAnswer (record { known = length seen; stamps = stamp_in seen; names = names; vouched = vouched }) by
    (state_at clock n)
word_answers clock seen by n names vouched published is answers = by_word is
  where
    Right : State → Type 0
    Right state = IsAnswer (record { known = length seen; stamps = stamp_in seen; names = names; vouched = vouched })
        by state

    told : Right (state_of_word n)
    told = answers names vouched

    by_word : (n ≡ 1) ⊎ (2 < n) → Right (state_at clock n)
    by_word (inl one) =
        subst (λ k. Right (state_at clock k)) (sym one) (subst (λ k. Right (state_of_word k)) one told)
    by_word (inr up) = by_test (nat_le (n - 2) clock) refl
      where
        high : nat_lt 2 n ≡ true
        high = grind (arith, nat_tests)

        stamped : Right (Committed (n - 2))
        stamped = subst (λ b. Right (cond b (Committed (n - 2)) (cond (n == 1) Live Aborted))) high told

        by_test : (t : Bool) → nat_le (n - 2) clock ≡ t → Right (state_at clock n)
        by_test true le =
            subst (λ b. Right (cond b (cond (nat_le (n - 2) clock) (Committed (n - 2)) Live)
            (cond (n == 1) Live Aborted))) (sym high)
            (subst (λ b. Right (cond b (Committed (n - 2)) Live)) (sym le) stamped)
        by_test false gt =
            let above : clock < n - 2 = grind (arith, nat_tests) in
            subst (λ b. Right (cond b (cond (nat_le (n - 2) clock) (Committed (n - 2)) Live)
            (cond (n == 1) Live Aborted))) (sym high)
            (subst (λ b. Right (cond b (Committed (n - 2)) Live)) (sym gt)
            (elim stamped as (λ _. stamp_in seen by ≡ None) [
              | inl here ↦ let low = here.1 in absurd (omega (arith, low, published, above))
              | inr none ↦ none.0
            ]))

-- ---- what is lent and given back

-- one word more after others
pub looked_more : (p : ℕ) (v w : Sight) (by : TxnName) (n : ℕ) → HasLooked p v w → HasLooked p v (word_kept p by n w)
looked_more p v w by n h =
    let st : PassState = record (state_in v p) { looks = (state_in w p).looks } in
    let was : state_in w p ≡ st = ap (λ o. unwrap_or o fresh_pass) h.has in
    let new : PassState = with_look (state_in w p) (look_at (state_in w p) by n) in
    let now : state_in (word_kept p by n w) p ≡ new = kept_is p by n w in
    record {
      has = kept_here w.passes p new ∙ (λ i. Some (with_look (was i) (look_at (state_in w p) by n)))
          ∙ (λ i. Some (record (state_in v p) { looks = (sym now i).looks }));
      others = λ q other. kept_else w.passes p new q other ∙ h.others q other;
      pins = h.pins;
      cells = h.cells;
      indexes = h.indexes;
      journals = h.journals;
      told = h.told;
      readers = h.readers;
      reads = h.reads;
    }

-- nothing was asked yet
pub looked_none : (p : ℕ) (v : Sight) → HasPass v p (state_in v p) → HasLooked p (lent_part v) (lent_part v)
looked_none p v has = record {
  has = has;
  others = λ q other. refl;
  pins = refl;
  cells = refl;
  indexes = refl;
  journals = refl;
  told = refl;
  readers = refl;
  reads = refl;
}

-- what was kept and what is given back are the whole again
pub given_back : (p : ℕ) (v w : Sight) → v.told ≡ [] → v.readers ≡ [] → HasLooked p (lent_part v) w
    → HasLooked p v (joined (kept_part v) w)
given_back p v w told readers h =
    let passes : w.passes ++ [] ≡ w.passes = append-nil w.passes in
    let same : state_in (joined (kept_part v) w) p ≡ state_in w p
    = ap (λ l. unwrap_or (kept_at l p) fresh_pass) passes in
    record {
      has = ap (λ l. kept_at l p) passes ∙ h.has
          ∙ (λ i. Some (record (state_in v p) { looks = (sym same i).looks }));
      others = λ q other. ap (λ l. kept_at l q) passes ∙ h.others q other;
      pins = append-nil w.pins ∙ h.pins;
      cells = append-nil w.cells ∙ h.cells;
      indexes = append-nil w.indexes ∙ h.indexes;
      journals = append-nil w.journals ∙ h.journals;
      told = ap (λ l. longer_of v.told l) h.told ∙ longer_none v.told;
      readers = refl;
      reads = refl;
    }

-- what was seen of the journal is as it was
pub looked_seen : (p : ℕ) (v w : Sight) → HasLooked p (lent_part v) w → (state_in w p).seen ≡ (state_in v p).seen
looked_seen p v w h = (λ i. (ap (λ o. unwrap_or o fresh_pass) h.has i).seen)
