-- What a step of one pass leaves as it was: what was found, and the other passes.
use Rattle.std.proofs.Common.{◌≡◌, ℕ, ◌+◌, ◌-◌, ◌≤◌, List, [], ◌∷◌, ◌++◌, length, refl, sym, ◌∙◌, ap, subst, arith, inl, inr}
use Rattle.std.specs.Prelude.{◌⊎◌, true, slice_get, Option, Some, None}
use Rattle.std.specs.List.{AllByRecursion}
use mathlib.Core.List.{IsPrefix}
use mathlib.Core.Logic.{dite}
use native.Mathlib.Decide.{dec_le}
use Rattle.graph_model.specs.declared.write.Kind.{Kind}
use Rattle.graph_model.specs.declared.journal.Commit.{Commit}
use Rattle.graph_model.specs.declared.journal.TxnName.{TxnName}
use Rattle.graph_model.specs.Account.{Sighting}
use Rattle.graph_model.specs.Conflict.{meets}
use Rattle.graph_model.specs.declared.write.Write.{Write}
use Rattle.graph_model.specs.Legal.{IsLegal}
use Rattle.graph_model.specs.Transactions.{stamp_in, reached}
use Rattle.graph_model.proofs.LegalLemmas.{legal_prefix}
use Rattle.graph_model.proofs.StampLemmas.{stamped_or_none, stamp_at, stamp_longer, unreached_at}
use Rattle.store_relation.specs.declared.stage.Stage.{Stage}
use Rattle.store_relation.specs.declared.stage.Stage.TheVariants.{Idle, Open, Aborting, Committing}
use Rattle.store_relation.specs.Passes.{Meeting, PassState, writes_by}
use Rattle.store_relation.specs.Shared.{IsLook, IsMet, IsPass, IsSighted, JournalState, entries, entry_of}
use Rattle.store_relation.specs.Words.{IsMarked, Look}
use Rattle.store_relation.proofs.ListLemmas.{prefix_trans, prefix_length, prefix_get, get_below, all_map}

-- what never turns back, whatever the step: the journal and its entries only grow, a new entry stands behind
-- the published ones, and a pass makes no fewer writes
pub record Follows (kind : Kind) (pass : ℕ → PassState) (j : JournalState) (pass' : ℕ → PassState)
    (j' : JournalState)
    : Type 0 where
  pub legal : IsLegal kind j'.commits
  pub journal : IsPrefix j.commits j'.commits
  pub listed : IsPrefix (entries j) (entries j')
  pub late : (i : ℕ) (c : Commit) → slice_get (entries j') i ≡ Some c
      → (slice_get (entries j) i ≡ Some c) ⊎ (length j.commits ≤ i)
  pub made : (p n : ℕ) (w : Write) → meets kind w (writes_by (pass p) n) ≡ true
      → meets kind w (writes_by (pass' p) n) ≡ true

-- who had committed by a stamp is the same in a longer journal
pub reached_longer : (kind : Kind) (xs ys : List Commit) → IsLegal kind (xs ++ ys) → (by : TxnName) (s : ℕ)
    → s ≤ length xs → reached (stamp_in (xs ++ ys) by) s ≡ reached (stamp_in xs by) s
reached_longer kind xs ys legal by s le = go (stamp_in xs by) refl
  where
    go : (o : Option ℕ) → stamp_in xs by ≡ o → reached (stamp_in (xs ++ ys) by) s ≡ reached (stamp_in xs by) s
    go (Some c) e = ap (λ x. reached x s) (stamp_longer xs ys by c e ∙ sym e)
    go None e = elim (stamped_or_none (xs ++ ys) by) as
        (λ _. reached (stamp_in (xs ++ ys) by) s ≡ reached (stamp_in xs by) s) [
          | inr none ↦ ap (λ x. reached x s) (none ∙ sym e)
          | inl r ↦ dite (dec_le (length xs) r.0)
              (λ up. ap (λ n. reached (stamp_in (xs ++ ys) n) s) (sym r.3)
              ∙ unreached_at kind (xs ++ ys) legal r.0 r.1 s r.2 (omega (arith, up, le))
              ∙ ap (λ x. reached x s) (sym e))
              (λ low.
              let at : slice_get xs r.0 ≡ Some r.1 = get_below xs ys r.0 r.1 (omega arith) r.2 in
              let none : ◌≡◌ {A = Option ℕ} None (Some (r.1).stamp) = sym e ∙ ap (stamp_in xs) (sym r.3)
              ∙ stamp_at xs (legal_prefix kind xs ys legal).names r.0 r.1 at in
              cc)
        ]

marked_same : (stage : Stage) (word m n : ℕ) → (stage ≡ Committing → n ≡ m) → IsMarked stage word m
    → IsMarked stage word n
marked_same Idle word m n e h = tt
marked_same Open word m n e h = h
marked_same Aborting word m n e h = h
marked_same Committing word m n e h = h ∙ ap (λ k. k + 3) (sym (e refl))

module _ (kind : Kind) (pass : ℕ → PassState) (j : JournalState) (pass' : ℕ → PassState) (j' : JournalState)
    (f : Follows kind pass j pass' j') where
  pub met_follows : (m : Meeting) → IsMet kind j m → IsMet kind j' m
  met_follows m h = (h.0, prefix_get (entries j) (entries j') f.listed m.place h.0 h.1, h.2)

  pub sighted_follows : (x : Sighting) → IsSighted kind pass j x → IsSighted kind pass' j' x
  sighted_follows x h = record {
    made = f.made x.by.job x.by.number x.write h.made;
    behind = λ i c at named. elim (f.late i c at) as (λ _. x.start ≤ i) [
      | inl old ↦ h.behind i c old named
      | inr new ↦ let b = h.begun in omega (arith, b, new)
    ];
    begun = let l = prefix_length j.commits j'.commits f.journal in let b = h.begun in omega (arith, l, b);
  }

  pub look_follows : (l : Look) → IsLook j l → IsLook j' l
  look_follows l h = record {
    known = let a = prefix_length j.commits j'.commits f.journal in let b = h.known in omega (arith, a, b);
    entry = λ lt. let e = h.entry lt in
        (e.0, prefix_get (entries j) (entries j') f.listed (l.word - 3) e.0 e.1, e.2);
    says = λ s le.
        let legal : IsLegal kind (j.commits ++ f.journal.0) = subst (IsLegal kind) (sym f.journal.1) f.legal in
        let b : l.until ≤ length j.commits = h.known in
        ap (λ cs. reached (stamp_in cs l.by) s) (sym f.journal.1)
        ∙ reached_longer kind j.commits f.journal.0 legal l.by s (omega (arith, le, b)) ∙ h.says s le;
  }

  pub mets_follow : (ms : List Meeting) → AllByRecursion (IsMet kind j) ms → AllByRecursion (IsMet kind j') ms
  mets_follow = all_map (IsMet kind j) (IsMet kind j') met_follows

  pub sightings_follow : (xs : List Sighting) → AllByRecursion (IsSighted kind pass j) xs
      → AllByRecursion (IsSighted kind pass' j') xs
  sightings_follow = all_map (IsSighted kind pass j) (IsSighted kind pass' j') sighted_follows

  pub looks_follow : (ls : List Look) → AllByRecursion (IsLook j) ls → AllByRecursion (IsLook j') ls
  looks_follow = all_map (IsLook j) (IsLook j') look_follows

  -- a pass with the same state and word, whose stamp isn't stored while the journal changes
  pub other_stays : (word p : ℕ) (st : PassState)
      → (st.stage ≡ Committing → (j'.commits ≡ j.commits) × (j'.next ≡ j.next))
      → IsPass kind pass j word p st → IsPass kind pass' j' word p st
  other_stays word p st stored h = record {
    marked = marked_same st.stage word (length j.commits) (length j'.commits) (λ e. ap length (stored e).0)
        h.marked;
    seen = prefix_trans st.seen j.commits j'.commits h.seen f.journal;
    started = h.started;
    laid = h.laid;
    next = λ e. (stored e).1 ∙ h.next e ∙ (λ i. entry_of (record j { commits = sym (stored e).0 i }) p st ∷ []);
    met = mets_follow st.met h.met;
    holders = sightings_follow st.holders h.holders;
    sighted = sightings_follow st.sighted h.sighted;
    looks = looks_follow st.looks h.looks;
  }
