-- What a pass that holds a row learns of the writers of its records, by their words and by their stamps.
use Rattle.std.proofs.Common.{◌≡◌, ℕ, ◌+◌, ◌-◌, ◌<◌, ◌≤◌, List, [], ◌∷◌, length, refl, sym, ◌∙◌, ap, subst, cond, arith, inl, inr}
use Rattle.std.specs.Prelude.{◌⊎◌, Bool, true, false, ◌==◌, ◌&&◌, nat_lt, nat_le, Option, Some, None, slice_get}
use Rattle.std.specs.List.{AllByRecursion}
use Rattle.std.proofs.lemmas.Bool.{true≢false, false_from_ne_true}
use Rattle.std.proofs.lemmas.Bool.Decides.{nat_tests}
use mathlib.Core.List.{IsPrefix}
use mathlib.Core.Logic.{dite}
use native.Mathlib.Decide.{dec_le}
use Rattle.graph_model.specs.declared.state.State.{State}
use Rattle.graph_model.specs.declared.state.State.TheVariants.{Live, Committed, Aborted}
use Rattle.graph_model.specs.declared.write.Write.{Write}
use Rattle.graph_model.specs.declared.row.Key.{Key}
use Rattle.graph_model.specs.declared.journal.TxnName.{TxnName}
use Rattle.graph_model.specs.declared.journal.Commit.{Commit}
use Rattle.graph_model.specs.Conflict.{same_name}
use Rattle.graph_model.specs.Effects.{any_writes}
use Rattle.graph_model.specs.Legal.{IsLegal}
use Rattle.graph_model.specs.Transactions.{stamp_in, reached}
use Rattle.graph_model.proofs.LegalLemmas.{get_front, below_length, legal_prefix}
use Rattle.graph_model.proofs.StampLemmas.{stamped_or_none, stamp_at}
use Rattle.graph_model.proofs.TestLemmas.{name_self, name_eq}
use Rattle.txn_manager.specs.declared.config.Config.{Config}
use Rattle.store_model.specs.Stamped.{Stamped, StampedVersions, AgreeOn, AreTold}
use Rattle.undo_chain.specs.States.{IsAnswer}
use Rattle.store_relation.specs.declared.stage.Stage.{Stage}
use Rattle.store_relation.specs.declared.stage.Stage.TheVariants.{Idle, Open, Aborting, Committing}
use Rattle.store_relation.specs.Examples.{stored}
use Rattle.store_relation.specs.Passes.{IsLaid, PassState, is_active, laid_of, name_of, number_of, touching_by, writes_by}
use Rattle.store_relation.specs.Rows.{AreLookedUp, IsLookedUp}
use Rattle.store_relation.specs.Shared.{IsLook, IsShared, IsSpokenFor, JournalState, entries}
use Rattle.store_relation.specs.Words.{Look, has_look, stamp_of_word, stamp_up_to, stamps_of, state_of_word}
use Rattle.store_relation.proofs.ListLemmas.{prefix_all, prefix_length, prefix_get, get_below, all_map}
use Rattle.store_relation.proofs.MadeLemmas.{number_idle}
use Rattle.store_relation.proofs.CurrentLemmas.{stands_none}
use Rattle.store_relation.proofs.SpokenLemmas.{StandsIn}
use Rattle.store_relation.proofs.SharedLemmas.{stander, marked_by, laid_by}
use Rattle.store_relation.proofs.StepLemmas.{nothing_either}

-- ---- words

word_says : (n : ℕ) → 2 < n → stamp_of_word n ≡ Some (n - 2)
word_says n lt = let t : nat_lt 2 n ≡ true = grind (arith, nat_tests) in ap (λ b. cond b (Some (n - 2)) None) t

word_silent : (n : ℕ) → n < 3 → stamp_of_word n ≡ None
word_silent n lt = let t : nat_lt 2 n ≡ false = grind (arith, nat_tests) in ap (λ b. cond b (Some (n - 2)) None)
    t

stage_cases : (stage : Stage) → (stage ≡ Idle) ⊎ ((stage ≡ Open) ⊎ ((stage ≡ Aborting) ⊎ (stage ≡ Committing)))
stage_cases Idle = inl refl
stage_cases Open = inr (inl refl)
stage_cases Aborting = inr (inr (inl refl))
stage_cases Committing = inr (inr (inr refl))

pub laid_front : (stage : Stage) (laid own : List Write) → IsLaid stage laid own → IsPrefix laid own
laid_front Idle laid own h = subst (λ l. IsPrefix l own) (sym h.0) (own, refl)
laid_front Open laid own h = subst (λ l. IsPrefix laid l) h (prefix_all laid)
laid_front Aborting laid own h = h
laid_front Committing laid own h = subst (λ l. IsPrefix laid l) h.0 (prefix_all laid)

module _ {z : Config} {word : ℕ → ℕ} {pass : ℕ → PassState} {j : JournalState} {rows : Key → StampedVersions}
    {clock : ℕ}
    (s : IsShared z word pass j rows clock) where
  -- the word of a latest transaction with a commit is that commit's
  pub word_of_commit : (p i : ℕ) (c : Commit) → slice_get j.commits i ≡ Some c → c.by ≡ name_of pass p
      → word p ≡ i + 3
  word_of_commit p i c at named =
      let job : c.by.job ≡ p = ap (λ (b : TxnName). b.job) named in
      ap word (sym job) ∙ s.stamped i c (get_front j.commits j.next i c at)
      (named ∙ ap (name_of pass) (sym job))

  -- where it has no stamp in what was seen, the entry of which its word speaks stands behind that
  entry_behind : (p n : ℕ) (seen : List Commit) → IsPrefix seen j.commits
      → stamp_in seen (name_of pass p) ≡ None
      → word p ≡ n → 3 ≤ n → length seen ≤ n - 3
  entry_behind p n seen front none is up =
      let e : word p ≡ (n - 3) + 3 = is ∙ omega (arith, up) in
      let r = s.entered p (n - 3) e in
      dite (dec_le (length seen) (n - 3)) (λ le. le) (λ low. absurd (in_front r.0 r.1 r.2 (omega (arith, low))))
    where
      in_front : (c : Commit) → slice_get (entries j) (n - 3) ≡ Some c → c.by ≡ name_of pass p
          → n - 3 < length seen → ⊥
      in_front c at named low =
          let long : length seen ≤ length j.commits = prefix_length seen j.commits front in
          let here : slice_get j.commits (n - 3) ≡ Some c
          = get_below j.commits j.next (n - 3) c (omega (arith, low, long)) at in
          let there : slice_get seen (n - 3) ≡ Some c
          = get_below seen front.0 (n - 3) c low (ap (λ l. slice_get l (n - 3)) front.1 ∙ here) in
          let legal = legal_prefix z.kind seen front.0
          (subst (IsLegal z.kind) (sym front.1) s.store.transactions.legal) in
          let no : ◌≡◌ {A = Option ℕ} None (Some c.stamp)
          = sym none ∙ ap (stamp_in seen) (sym named) ∙ stamp_at seen legal.names (n - 3) c there in
          cc

  -- LOOK: up to each number of published commits the word says whether the latest transaction has committed
  pub word_known : (p n until : ℕ) → word p ≡ n → until ≤ length j.commits
      → IsLook j (record { by = name_of pass p; word = n; until = until })
  word_known p n until is within = record {
    known = within;
    entry = λ lt. s.entered p (n - 3) (is ∙ omega (arith, lt));
    says = λ at le. elim (stamped_or_none j.commits (name_of pass p))
        as (λ _. reached (stamp_in j.commits (name_of pass p)) at ≡ reached (stamp_of_word n) at) [
          | inl r ↦ of_commit r.0 r.1 r.2 r.3 at
          | inr none ↦ ap (λ o. reached o at) none ∙ sym (dite (dec_le 3 n)
              (λ up. of_later none (omega (arith, up)) at (omega (arith, le, within)))
              (λ low. ap (λ o. reached o at) (word_silent n (omega (arith, low)))))
        ];
  }
    where
      of_commit : (i : ℕ) (c : Commit) → slice_get j.commits i ≡ Some c → c.by ≡ name_of pass p → (at : ℕ)
          → reached (stamp_in j.commits (name_of pass p)) at ≡ reached (stamp_of_word n) at
      of_commit i c here named at =
          let w : n ≡ i + 3 = sym is ∙ word_of_commit p i c here named in
          let stamp : c.stamp ≡ i + 1 = (s.store.transactions.legal.each i c here).stamped in
          let same : c.stamp ≡ n - 2 = omega (arith, w, stamp) in
          ap (λ b. reached (stamp_in j.commits b) at) (sym named)
          ∙ ap (λ o. reached o at) (stamp_at j.commits s.store.transactions.legal.names i c here)
          ∙ ap (λ m. reached (Some m) at) same ∙ ap (λ o. reached o at) (sym (word_says n (omega (arith, w))))

      of_later : stamp_in j.commits (name_of pass p) ≡ None → 2 < n → (at : ℕ) → at ≤ length j.commits
          → reached (stamp_of_word n) at ≡ false
      of_later none up at le =
          let out : length j.commits ≤ n - 3
          = entry_behind p n j.commits (prefix_all j.commits) none is (omega (arith, up)) in
          let far : nat_le (n - 2) at ≡ false = false_from_ne_true _ (λ h.
          let low : n - 2 ≤ at = grind (arith, nat_tests) in omega (arith, low, out, up, le)) in
          ap (λ o. reached o at) (word_says n up) ∙ far

  -- a pass that knows some prefix of the journal: what a word says is an answer
  pub word_answers : (p n : ℕ) (seen : List Commit) (names : TxnName → Bool) (vouched : TxnName → State → Bool)
      → word p ≡ n → IsPrefix seen j.commits
      → IsAnswer (record { known = length seen; stamps = stamp_in seen; names = names; vouched = vouched })
      (name_of pass p) (state_of_word n)
  word_answers p n seen names vouched is front = by_seen (stamped_or_none seen (name_of pass p))
    where
      Says : State → Type 0
      Says state = IsAnswer
          (record { known = length seen; stamps = stamp_in seen; names = names; vouched = vouched })
          (name_of pass p)
          state

      committed : (k : ℕ) → 2 < k
          → ((stamp_in seen (name_of pass p) ≡ Some (k - 2)) × (k - 2 ≤ length seen))
          ⊎ ((stamp_in seen (name_of pass p) ≡ None) × (length seen < k - 2))
          → Says (state_of_word k)
      committed k lt h =
          let t : nat_lt 2 k ≡ true = grind (arith, nat_tests) in
          subst Says (sym (ap (λ b. cond b (Committed (k - 2)) (cond (k == 1) Live Aborted)) t)) h

      open_or_ended : (k : ℕ) → k < 3 → stamp_in seen (name_of pass p) ≡ None → Says (state_of_word k)
      open_or_ended k lt h =
          let t : nat_lt 2 k ≡ false = grind (arith, nat_tests) in
          subst Says (sym (ap (λ b. cond b (Committed (k - 2)) (cond (k == 1) Live Aborted)) t))
          (either (k == 1))
        where
          either : (b : Bool) → Says (cond b Live Aborted)
          either true = h
          either false = h

      by_seen : ((i : ℕ) × (c : Commit) × (slice_get seen i ≡ Some c) × (c.by ≡ name_of pass p))
          ⊎ (stamp_in seen (name_of pass p) ≡ None) → Says (state_of_word n)
      by_seen (inl r) =
          let at : slice_get j.commits r.0 ≡ Some r.1 = prefix_get seen j.commits front r.0 r.1 r.2 in
          let w : n ≡ r.0 + 3 = sym is ∙ word_of_commit p r.0 r.1 at r.3 in
          let low : r.0 < length seen = below_length seen r.0 r.1 r.2 in
          let legal = legal_prefix z.kind seen front.0
          (subst (IsLegal z.kind) (sym front.1) s.store.transactions.legal) in
          let stamp : (r.1).stamp ≡ r.0 + 1 = (legal.each r.0 r.1 r.2).stamped in
          let same : (r.1).stamp ≡ n - 2 = omega (arith, w, stamp) in
          let own : stamp_in seen (name_of pass p) ≡ Some (n - 2)
          = ap (stamp_in seen) (sym r.3) ∙ stamp_at seen legal.names r.0 r.1 r.2 ∙ ap (λ k. Some k) same in
          committed n (omega (arith, w)) (inl (own, omega (arith, w, low)))
      by_seen (inr none) = dite (dec_le 3 n)
          (λ up. behind (entry_behind p n seen front none is up) (omega (arith, up)))
          (λ low. open_or_ended n (omega (arith, low)) none)
        where
          behind : length seen ≤ n - 3 → 2 < n → Says (state_of_word n)
          behind out up = committed n up (inr (none, omega (arith, out, up)))

  -- ---- the writer of a record without a stamp

  module _ (k : Key) (x : Stamped) (bare : x.stamp ≡ None) (spoken : IsSpokenFor pass k x)
      (stands : StandsIn (rows k) x.by) where
    -- it is the latest transaction of its pass
    pub bare_latest : x.by ≡ name_of pass x.by.job
    bare_latest = (spoken bare).0

    nothing_laid : (pass x.by.job).stage ≡ Idle → laid_of pass x.by ≡ []
    nothing_laid idle = nothing_either (x.by.number == number_of (pass x.by.job)) (pass x.by.job).laid []
        (laid_by s x.by.job Idle idle).0

    no_touch : (pass x.by.job).stage ≡ Idle → touching_by pass x.by k ≡ false
    no_touch idle = nothing_either (x.by.number == number_of (pass x.by.job)) _ false
        (stands_none (pass x.by.job).laid (pass x.by.job).own k (laid_by s x.by.job Idle idle).0)

    -- its word is that of one that is open, or of one with a stamp
    pub bare_word : (word x.by.job ≡ 1) ⊎ (2 < word x.by.job)
    bare_word = elim (stage_cases (pass x.by.job).stage) as (λ _. (word x.by.job ≡ 1) ⊎ (2 < word x.by.job)) [
      | inl idle ↦ elim (stander s k x.by stands) as (λ _. (word x.by.job ≡ 1) ⊎ (2 < word x.by.job)) [
        | inl (inl e) ↦ absurd (true≢false (sym e ∙ ap (λ ws. any_writes z.kind ws k) (nothing_laid idle)))
        | inl (inr e) ↦ absurd (true≢false (sym e ∙ no_touch idle))
        | inr r ↦ let w : word x.by.job ≡ r.0 + 3 = word_of_commit x.by.job r.0 r.1 r.2 (r.3 ∙ bare_latest) in
            inr (omega (arith, w))
      ]
      | inr (inl opened) ↦ inl (marked_by s x.by.job Open opened)
      | inr (inr (inl aborting)) ↦ inl (marked_by s x.by.job Aborting aborting)
      | inr (inr (inr stored)) ↦ let w : word x.by.job ≡ length j.commits + 3 =
          marked_by s x.by.job Committing stored in inr (omega (arith, w))
    ]

    -- and its pass is one of the store's
    pub bare_inside : x.by.job < z.passes
    bare_inside = dite (dec_le z.passes x.by.job)
        (λ out.
        let o = s.counted.outside x.by.job out in
        let none : number_of (pass x.by.job) ≡ 0 = number_idle (pass x.by.job) (ap is_active o.0)
        ∙ ap (λ l. length l) o.1 in
        absurd (elim (stander s k x.by stands) as (λ _. ⊥) [
          | inl (inl e) ↦ true≢false (sym e ∙ ap (λ ws. any_writes z.kind ws k) (nothing_laid o.0))
          | inl (inr e) ↦ true≢false (sym e ∙ no_touch o.0)
          | inr r ↦
              let m = s.made r.0 r.1 (get_front j.commits j.next r.0 r.1 r.2) in
              let named : (r.1).by ≡ name_of pass x.by.job = r.3 ∙ bare_latest in
              let number : (r.1).by.number ≡ 0 = ap (λ (b : TxnName). b.number) named ∙ none in
              let wrote : 0 < length (r.1).writes = m.0 in
              let empty : length (r.1).writes ≡ 0 =
              ap length (sym m.1 ∙ ap (writes_by (pass (r.1).by.job)) number) in
              omega (arith, wrote, empty)
        ]))
        (λ low. omega arith)

    -- of another pass than the one that asks, unless it is its own transaction
    pub bare_other : (p : ℕ) → same_name x.by (name_of pass p) ≡ false → x.by.job ≡ p → ⊥
    bare_other p away same = true≢false
        (sym (name_self (name_of pass p))
        ∙ ap (λ n. same_name n (name_of pass p)) (sym (bare_latest ∙ ap (name_of pass) same)) ∙ away)

-- ---- what is kept of looks

-- a prune may go by looks that count so far
pub told_by_looks : (j : JournalState) (ls : List Look) → AllByRecursion (IsLook j) ls
    → (horizon : ℕ) (by : TxnName) → has_look horizon ls by ≡ true
    → reached (stamps_of ls by) horizon ≡ reached (stamp_in j.commits by) horizon
told_by_looks j [] all horizon by has = cc
told_by_looks j (l ∷ ls) all horizon by has =
    by_name (same_name l.by by) refl has (told_by_looks j ls all.1 horizon by)
  where
    cut : (n until : ℕ) → horizon ≤ until
        → reached (stamp_up_to until n) horizon ≡ reached (stamp_of_word n) horizon
    cut n until le = go (nat_lt 2 n) (nat_le (n - 2) until) refl
      where
        go : (a b : Bool) → nat_le (n - 2) until ≡ b
            → reached (cond (a && b) (Some (n - 2)) None) horizon ≡ reached (cond a (Some (n - 2)) None) horizon
        go true true e = refl
        go true false e =
            sym (false_from_ne_true _ (λ h. let low : n - 2 ≤ horizon = grind (arith, nat_tests) in
            let up : nat_le (n - 2) until ≡ true = grind (arith, nat_tests) in true≢false (sym up ∙ e)))
        go false b e = refl

    by_name : (t : Bool) → same_name l.by by ≡ t
        → cond t (nat_le horizon l.until) (has_look horizon ls by) ≡ true
        → (has_look horizon ls by ≡ true
        → reached (stamps_of ls by) horizon ≡ reached (stamp_in j.commits by) horizon)
        → reached (cond t (stamp_up_to l.until l.word) (stamps_of ls by)) horizon ≡ reached
        (stamp_in j.commits by) horizon
    by_name true e h rest =
        let le : horizon ≤ l.until = grind (arith, nat_tests) in
        cut l.word l.until le ∙ sym (all.0.says horizon le)
        ∙ ap (λ n. reached (stamp_in j.commits n) horizon) (name_eq l.by by e)
    by_name false e h rest = rest h

-- a row whose records without a stamp were all looked up may be pruned by the looks
pub looks_tell_row : (j : JournalState) (ls : List Look) → AllByRecursion (IsLook j) ls → (horizon : ℕ)
    (r : StampedVersions) → AreLookedUp horizon ls r → AreTold (stamps_of ls) (stamp_in j.commits) horizon r
looks_tell_row j ls all horizon r found = record {
  pairs = all_map (IsLookedUp horizon ls) _ agrees r.pairs found.pairs;
  touches = all_map (IsLookedUp horizon ls) _ agrees r.touches found.touches;
}
  where
    agrees : (x : Stamped) → IsLookedUp horizon ls x → AgreeOn (stamps_of ls) (stamp_in j.commits) horizon x
    agrees x has bare = told_by_looks j ls all horizon x.by (has bare)
