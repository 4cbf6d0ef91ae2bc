-- Histories of passes: what a begin, a commit and an end leave of them.
use Rattle.std.proofs.Common.{◌≡◌, ℕ, zero, suc, ◌+◌, ◌-◌, ◌<◌, ◌≤◌, List, [], ◌∷◌, ◌++◌, length, refl, sym, ◌∙◌, ap, cond, arith, length-append, zero-add}
use Rattle.std.specs.Prelude.{Bool, true, false, ◌==◌, ◌&&◌, nat_lt, Option, Some, None, slice_get, slice_set, unwrap_or}
use Rattle.std.proofs.lemmas.Bool.Decides.{nat_tests}
use Rattle.std.proofs.lemmas.List.{length-set}
use Rattle.std.proofs.lemmas.Option.{slice_get_past}
use Rattle.graph_model.specs.declared.journal.Commit.{Commit}
use Rattle.graph_model.specs.declared.journal.TxnName.{TxnName}
use Rattle.graph_model.specs.Conflict.{same_name}
use Rattle.graph_model.specs.Transactions.{HasNotCommitted, stamp_in}
use Rattle.graph_model.specs.Passes.{state_in, revised}
use Rattle.graph_model.proofs.PassLemmas.{state_in-set}
use Rattle.graph_model.proofs.PlaceLemmas.{some_eq}
use Rattle.graph_model.proofs.TestLemmas.{self_eq, eq_of, eq_symm, name_eq, name_symm}
use Rattle.txn_manager.specs.declared.history.PassHistory.{PassHistory}
use Rattle.txn_manager.specs.Histories.{no_history, history_of, stamp_at, with_open, with_none, with_stamp, IsHistory, AreHistories}

-- ---- stamps by number

get_more : (xs : List (Option ℕ)) (i : ℕ) → unwrap_or (slice_get (xs ++ None ∷ []) i) None ≡ unwrap_or (slice_get xs i) None
get_more [] zero = refl
get_more [] (suc i) = refl
get_more (x ∷ xs) zero = refl
get_more (x ∷ xs) (suc i) = get_more xs i

-- one more transaction without a stamp changes no stamp
pub stamp_at-more : (stamps : List (Option ℕ)) (number : ℕ) → stamp_at (stamps ++ None ∷ []) number ≡ stamp_at stamps number
stamp_at-more stamps zero = refl
stamp_at-more stamps (suc place) = get_more stamps place

-- the next transaction has none
no_next : (stamps : List (Option ℕ)) → stamp_at stamps (length stamps + 1) ≡ None
no_next stamps =
    let next : length stamps + 1 ≡ suc (length stamps) = omega arith in
    ap (stamp_at stamps) next ∙ ap (λ x. unwrap_or x None) (slice_get_past stamps (length stamps) (omega arith))

stamp_at-state_in : (stamps : List (Option ℕ)) (number : ℕ) → stamp_at stamps number ≡ state_in None 1 stamps number
stamp_at-state_in stamps zero = refl
stamp_at-state_in stamps (suc place) =
    let past : nat_lt (suc place) 1 ≡ false = grind (arith, nat_tests) in
    let before : suc place - 1 ≡ place = omega arith in
    λ i. cond (sym past i) None (unwrap_or (slice_get stamps (sym before i)) None)

-- a stamp for the latest transaction is the latest's alone
pub stamp_at-set : (stamps : List (Option ℕ)) (stamp : Option ℕ) (number : ℕ) → 0 < length stamps
    → stamp_at (slice_set stamps (length stamps - 1) stamp) number ≡ cond (number == length stamps) stamp (stamp_at stamps number)
stamp_at-set stamps stamp number some =
    let last : 1 + (length stamps - 1) ≡ length stamps = omega arith in
    stamp_at-state_in (slice_set stamps (length stamps - 1) stamp) number
    ∙ state_in-set None 1 stamps (length stamps - 1) stamp (omega arith) number
    ∙ (λ i. cond (number == last i) stamp (sym (stamp_at-state_in stamps number) i))

-- ---- stamps by name

-- whoever has no stamp has not committed
pub none_stamped : (journal : List Commit) (by : TxnName) → stamp_in journal by ≡ None → HasNotCommitted journal by
none_stamped [] by e i c at = cc
none_stamped (d ∷ journal) by e i c at = elim (same_name d.by by) as (λ t. same_name d.by by ≡ t → cond t (Some d.stamp) (stamp_in journal by) ≡ None → same_name c.by by ≡ false) [
  | true ↦ λ f g. cc
  | false ↦ λ f g. by_place i f (none_stamped journal by g) at
] refl e
  where
    by_place : (i : ℕ) → same_name d.by by ≡ false → HasNotCommitted journal by → slice_get (d ∷ journal) i ≡ Some c → same_name c.by by ≡ false
    by_place zero f rest here = ap (λ (x : Commit). same_name x.by by) (sym (some_eq d c here)) ∙ f
    by_place (suc i) f rest here = rest i c here

-- a commit by one who has none gives its stamp to that one alone
pub stamp_in-more : (journal : List Commit) (c : Commit) (by : TxnName) → stamp_in journal c.by ≡ None
    → stamp_in (journal ++ c ∷ []) by ≡ cond (same_name c.by by) (Some c.stamp) (stamp_in journal by)
stamp_in-more [] c by e = refl
stamp_in-more (d ∷ journal) c by e = elim (same_name d.by by) as (λ t. same_name d.by by ≡ t → cond t (Some d.stamp) (stamp_in (journal ++ c ∷ []) by) ≡ cond (same_name c.by by) (Some c.stamp) (cond t (Some d.stamp) (stamp_in journal by))) [
  | true ↦ λ f.
      let is : by ≡ d.by = sym (name_eq d.by by f) in
      ap (λ t. cond t (Some c.stamp) (Some d.stamp)) (sym (ap (same_name c.by) is ∙ name_symm c.by d.by ∙ apart))
  | false ↦ λ f. stamp_in-more journal c by rest
] refl
  where
    both : (t : Bool) → cond t (Some d.stamp) (stamp_in journal c.by) ≡ None → (t ≡ false) × (stamp_in journal c.by ≡ None)
    both true h = cc
    both false h = (refl, h)

    apart : same_name d.by c.by ≡ false
    apart = (both (same_name d.by c.by) e).0

    rest : stamp_in journal c.by ≡ None
    rest = (both (same_name d.by c.by) e).1

-- ---- one history is revised

-- a list with one history set has that one revised
pub history_of-set : (hs : List PassHistory) (p : ℕ) (h : PassHistory) → p < length hs → history_of (slice_set hs p h) ≡ revised (history_of hs) p h
history_of-set hs p h inside = λ i q. (state_in-set no_history 0 hs p h inside q ∙ ap (λ n. cond (q == n) h (history_of hs q)) (zero-add p)) i

-- a fact on each history, where one is revised
all_revised : (P : PassHistory → Type 0) (history : ℕ → PassHistory) (p : ℕ) (h : PassHistory) → P h → ((q : ℕ) → P (history q)) → (q : ℕ) → P (revised history p h q)
all_revised P history p h here rest q = elim (q == p) as (λ t. P (cond t h (history q))) [ true ↦ here | false ↦ rest q ]

-- a history stays one while the journal grows
later_history : (clock more allowed : ℕ) (h : PassHistory) → clock ≤ more → IsHistory clock allowed h → IsHistory more allowed h
later_history clock more allowed h le is = record {
  used = is.used;
  current = λ start e. let at = is.current start e in let before = at.started in record { started = omega arith; latest = at.latest; pending = at.pending };
}

module _ (journal : List Commit) (allowed : ℕ) (history : ℕ → PassHistory) (are : AreHistories journal allowed history) (p : ℕ) where
  abbrev stamps : List (Option ℕ)
  stamps = (history p).stamps

  -- the name of the pass's transaction with this number
  abbrev name : ℕ → TxnName
  name number = record { job = p; number = number }

  -- the stamps stay those of the journal, where one history is revised and has those of the new journal
  stamps_revised : (journal' : List Commit) (h : PassHistory)
      → ((number : ℕ) → stamp_at h.stamps number ≡ stamp_in journal' (name number))
      → ((by : TxnName) → (by.job == p) ≡ false → stamp_in journal' by ≡ stamp_in journal by)
      → (by : TxnName) → stamp_at (revised history p h by.job).stamps by.number ≡ stamp_in journal' by
  stamps_revised journal' h here else by = elim (by.job == p) as (λ t. (by.job == p) ≡ t → stamp_at (cond t h (history by.job)).stamps by.number ≡ stamp_in journal' by) [
    | true ↦ λ e. here by.number ∙ ap (λ job. stamp_in journal' (record { job = job; number = by.number })) (sym (eq_of by.job p e))
    | false ↦ λ e. are.stamps by ∙ sym (else by e)
  ] refl

  -- it begins its next transaction
  pub begin_keeps : length stamps < allowed → AreHistories journal allowed (revised history p (with_open (history p) (length journal)))
  begin_keeps free = record {
    each = all_revised (IsHistory (length journal) allowed) history p _ begun are.each;
    stamps = stamps_revised journal _ (λ number. stamp_at-more stamps number ∙ are.stamps (name number)) (λ by e. refl);
  }
    where
      longer : length (stamps ++ None ∷ []) ≡ length stamps + 1
      longer = length-append stamps (None ∷ [])

      begun : IsHistory (length journal) allowed (with_open (history p) (length journal))
      begun = record {
        used = omega (arith, longer);
        current = λ start e. let same : length journal ≡ start = some_eq _ _ e in record {
          started = omega arith;
          latest = omega (arith, longer);
          pending = ap (stamp_at (stamps ++ None ∷ [])) longer ∙ stamp_at-more stamps (length stamps + 1) ∙ no_next stamps;
        };
      }

  -- it ends its open one
  pub end_keeps : AreHistories journal allowed (revised history p (with_none (history p)))
  end_keeps = record {
    each = all_revised (IsHistory (length journal) allowed) history p _ (record { used = (are.each p).used; current = λ start e. cc }) are.each;
    stamps = stamps_revised journal _ (λ number. are.stamps (name number)) (λ by e. refl);
  }

  -- the next transaction has no stamp
  pub next_unstamped : stamp_in journal (name (length stamps + 1)) ≡ None
  next_unstamped = sym (are.stamps (name (length stamps + 1))) ∙ no_next stamps

  module _ (start : ℕ) (is : (history p).start ≡ Some start) where
    -- nor has an open one
    pub open_unstamped : stamp_in journal (name (length stamps)) ≡ None
    open_unstamped = sym (are.stamps (name (length stamps))) ∙ ((are.each p).current start is).pending

    -- it commits its open one
    pub commit_keeps : (c : Commit) → c.by ≡ name (length stamps) → AreHistories (journal ++ c ∷ []) allowed (revised history p (with_stamp (history p) c.stamp))
    commit_keeps c latest = record {
      each = all_revised (IsHistory (length (journal ++ c ∷ [])) allowed) history p _ ended (λ q. later_history _ _ allowed (history q) (omega (arith, length-append journal (c ∷ []))) (are.each q));
      stamps = stamps_revised (journal ++ c ∷ []) _ here else;
    }
      where
        ended : IsHistory (length (journal ++ c ∷ [])) allowed (with_stamp (history p) c.stamp)
        ended = record { used = let le = (are.each p).used in omega (arith, length-set stamps (length stamps - 1) (Some c.stamp)); current = λ begun e. cc }

        none : stamp_in journal c.by ≡ None
        none = ap (stamp_in journal) latest ∙ open_unstamped

        here : (number : ℕ) → stamp_at (slice_set stamps (length stamps - 1) (Some c.stamp)) number ≡ stamp_in (journal ++ c ∷ []) (name number)
        here number =
            let same : same_name c.by (name number) ≡ (number == length stamps) =
            ap (λ by. same_name by (name number)) latest ∙ ap (λ t. t && (length stamps == number)) (self_eq p) ∙ eq_symm (length stamps) number in
            stamp_at-set stamps (Some c.stamp) number ((are.each p).current start is).latest
            ∙ (λ i. cond (sym same i) (Some c.stamp) (are.stamps (name number) i))
            ∙ sym (stamp_in-more journal c (name number) none)

        else : (by : TxnName) → (by.job == p) ≡ false → stamp_in (journal ++ c ∷ []) by ≡ stamp_in journal by
        else by e =
            let other : same_name c.by by ≡ false =
            ap (λ q. same_name q by) latest ∙ ap (λ t. t && (length stamps == by.number)) (eq_symm p by.job ∙ e) in
            stamp_in-more journal c by none ∙ ap (λ t. cond t (Some c.stamp) (stamp_in journal by)) other
