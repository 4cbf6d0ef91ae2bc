-- In a legal journal each commit is allowed on the graph of all commits before it; and how a journal grows by a commit.
use Rattle.std.proofs.Common.{◌≡◌, ℕ, zero, suc, ◌+◌, ◌-◌, ◌<◌, ◌≤◌, List, [], ◌∷◌, ◌++◌, length, sym, ◌∙◌, ap, subst, arith, inl, inr}
use Rattle.std.specs.Prelude.{true, false, slice_get, Some, is_some, IsTrue}
use Rattle.std.specs.FinMap as fin_map
use Rattle.std.proofs.lemmas.Bool.{false_from_ne_true}
use Rattle.graph_model.specs.declared.write.Kind.{Kind}
use Rattle.graph_model.specs.declared.write.Write.{Write}
use Rattle.graph_model.specs.declared.journal.Commit.{Commit}
use Rattle.graph_model.specs.Graph.{Graph, arc_cmp, empty_graph, apply_all, HasBothEnds}
use Rattle.graph_model.specs.Refused.{AllAllowed}
use Rattle.graph_model.specs.History.{graph_at}
use Rattle.graph_model.specs.Legal.{have_clash, IsLegalCommit, IsLegal}
use Rattle.graph_model.specs.JournalLaws.{IsNext}
use Rattle.graph_model.proofs.HistoryLemmas.{ends_after, graph_at-next, get_within, allowed_up_to}
use Rattle.graph_model.proofs.PlaceLemmas.{get_snoc, get_end}
use Rattle.graph_model.proofs.LegalLemmas.{get_front, below_length, graph_at-append}

-- what the empty graph has, and each commit keeps, each graph of the journal has
pub graph_kept : (kind : Kind) (journal : List Commit) (P : Graph → Type 0) → P empty_graph
    → ((i : ℕ) (c : Commit) → slice_get journal i ≡ Some c → P (graph_at kind journal i) → P (apply_all kind (graph_at kind journal i) c.writes))
    → (stamp : ℕ) → stamp ≤ length journal → P (graph_at kind journal stamp)
graph_kept kind journal P at_start keeps zero within = at_start
graph_kept kind journal P at_start keeps (suc stamp) within =
    let at = get_within journal stamp (omega arith) in
    let next : suc stamp ≡ stamp + 1 = omega arith in
    subst P (sym (ap (graph_at kind journal) next ∙ graph_at-next kind journal stamp at.0 at.1))
    (keeps stamp at.0 at.1 (graph_kept kind journal P at_start keeps stamp (omega arith)))

-- no arc of the empty graph lacks an end
pub empty_ends : HasBothEnds empty_graph
empty_ends u v arc = let e : true ≡ false = sym arc ∙ ap is_some (fin_map.get-empty arc_cmp (u, v)) in cc

module _ (kind : Kind) (journal : List Commit)
    (each : (i : ℕ) (c : Commit) → slice_get journal i ≡ Some c → IsLegalCommit kind journal i c)
    (apart : (i j : ℕ) (c d : Commit) → i < j → slice_get journal i ≡ Some c → slice_get journal j ≡ Some d → IsTrue (have_clash kind c.writes d.writes) → c.stamp ≤ d.start) where
  serial_below : (n i : ℕ) (c : Commit) → i < n → slice_get journal i ≡ Some c → AllAllowed kind (graph_at kind journal i) c.writes
  serial_below zero i c lt at = absurd (omega (arith, lt))
  serial_below (suc n) i c lt at =
      let is = each i c at in
      let started : c.start ≤ i = is.started in
      let sum : c.start + (i - c.start) ≡ i = omega arith in
      let inside : i < length journal = below_length journal i c at in
      subst (λ s. AllAllowed kind (graph_at kind journal s) c.writes) sum
      (allowed_up_to kind journal c.writes c.start i (omega arith)
      (λ j d below at_j. serial_below n j d (omega arith) at_j)
      (λ j d below at_j from. false_from_ne_true _ (λ clash.
      let early : d.stamp ≤ c.start = apart j i d c below at_j at clash in
      let stamped : d.stamp ≡ j + 1 = (each j d at_j).stamped in
      absurd (omega arith)))
      is.allowed (i - c.start) (omega arith))

  -- each commit is allowed on the graph of all before it
  pub serial : (i : ℕ) (c : Commit) → slice_get journal i ≡ Some c → AllAllowed kind (graph_at kind journal i) c.writes
  serial i c at = serial_below (suc i) i c (omega arith) at

  -- so both ends of each arc are vertices at each stamp
  pub ends_follow : (stamp : ℕ) → stamp ≤ length journal → HasBothEnds (graph_at kind journal stamp)
  ends_follow = graph_kept kind journal HasBothEnds empty_ends (λ i c at ends. ends_after kind (graph_at kind journal i) c.writes (serial i c at) ends)

-- the commits of a legal journal, each on the graph of all before it
pub legal_serial : (kind : Kind) (journal : List Commit) → IsLegal kind journal → (i : ℕ) (c : Commit) → slice_get journal i ≡ Some c → AllAllowed kind (graph_at kind journal i) c.writes
legal_serial kind journal legal = serial kind journal legal.each legal.apart

-- what a start allows, and no later commit clashes with, is allowed at each later stamp
pub start_is_enough : (kind : Kind) (journal : List Commit) (start stamp : ℕ) (ws : List Write) → IsLegal kind journal → start ≤ stamp → stamp ≤ length journal
    → ((i : ℕ) (c : Commit) → slice_get journal i ≡ Some c → start < c.stamp → have_clash kind c.writes ws ≡ false)
    → AllAllowed kind (graph_at kind journal start) ws → AllAllowed kind (graph_at kind journal stamp) ws
start_is_enough kind journal start stamp ws legal from within away allowed =
    let sum : start + (stamp - start) ≡ stamp = omega arith in
    subst (λ s. AllAllowed kind (graph_at kind journal s) ws) sum
    (allowed_up_to kind journal ws start stamp within
    (λ i c below at. legal_serial kind journal legal i c at)
    (λ i c below at from_i. let stamped : c.stamp ≡ i + 1 = (legal.each i c at).stamped in away i c at (omega arith))
    allowed (stamp - start) (omega arith))

-- ---- a journal with one commit more

-- no commit at all is legal
pub no_commit_legal : (kind : Kind) → IsLegal kind []
no_commit_legal kind = record {
  each = λ i c at. cc;
  names = λ i j c d at_i at_j. cc;
  apart = λ i j c d lt at_i at_j. cc;
  ends = ends_follow kind [] (λ i c at. cc) (λ i j c d lt at_i at_j. cc);
}

-- a commit is legal by itself in a longer journal as well
pub longer_commit : (kind : Kind) (front rest : List Commit) (place : ℕ) (c : Commit) → place ≤ length front → IsLegalCommit kind front place c → IsLegalCommit kind (front ++ rest) place c
longer_commit kind front rest place c within is = record {
  stamped = is.stamped;
  started = is.started;
  wrote = is.wrote;
  allowed = subst (λ g. AllAllowed kind g c.writes) (sym (graph_at-append kind front rest c.start (omega (arith, is.started, within)))) is.allowed;
  within = is.within;
}

module _ (kind : Kind) (journal : List Commit) (c : Commit) where
  abbrev longer : List Commit
  longer = journal ++ c ∷ []

  module _ (legal : IsLegal kind journal) (next : IsNext kind journal c) where
    each_more : (i : ℕ) (d : Commit) → slice_get longer i ≡ Some d → IsLegalCommit kind longer i d
    each_more i d at = elim (get_snoc journal c i d at) as (λ _. IsLegalCommit kind longer i d) [
      | inl p ↦ let below : i < length journal = p.0 in longer_commit kind journal (c ∷ []) i d (omega arith) (legal.each i d p.1)
      | inr p ↦ subst (λ x. IsLegalCommit kind longer i x) p.1 (subst (λ n. IsLegalCommit kind longer n c) (sym p.0) (longer_commit kind journal (c ∷ []) (length journal) c (omega arith) next.commit))
    ]

    apart_more : (i j : ℕ) (x y : Commit) → i < j → slice_get longer i ≡ Some x → slice_get longer j ≡ Some y → IsTrue (have_clash kind x.writes y.writes) → x.stamp ≤ y.start
    apart_more i j x y lt at_i at_j clash = elim (get_snoc journal c i x at_i) as (λ _. x.stamp ≤ y.start) [
      | inl p ↦ elim (get_snoc journal c j y at_j) as (λ _. x.stamp ≤ y.start) [
        | inl q ↦ legal.apart i j x y lt p.1 q.1 clash
        | inr q ↦ subst (λ (z : Commit). x.stamp ≤ z.start) q.1 (next.apart i x p.1 (ap (λ (z : Commit). have_clash kind x.writes z.writes) q.1 ∙ clash))
      ]
      | inr p ↦ elim (get_snoc journal c j y at_j) as (λ _. x.stamp ≤ y.start) [
        | inl q ↦ absurd (omega (arith, lt, p.0, q.0))
        | inr q ↦ absurd (omega (arith, lt, p.0, q.0))
      ]
    ]

    -- a commit that may follow a legal journal makes a legal journal
    pub legal_more : IsLegal kind longer
    legal_more = record {
      each = each_more;
      names = λ i j x y at_i at_j same. elim (get_snoc journal c i x at_i) as (λ _. i ≡ j) [
        | inl p ↦ elim (get_snoc journal c j y at_j) as (λ _. i ≡ j) [
          | inl q ↦ legal.names i j x y p.1 q.1 same
          | inr q ↦ absurd (next.unnamed i x p.1 (same ∙ ap (λ (z : Commit). z.by) (sym q.1)))
        ]
        | inr p ↦ elim (get_snoc journal c j y at_j) as (λ _. i ≡ j) [
          | inl q ↦ absurd (next.unnamed j y q.1 (sym same ∙ ap (λ (z : Commit). z.by) (sym p.1)))
          | inr q ↦ p.0 ∙ sym q.0
        ]
      ];
      apart = apart_more;
      ends = ends_follow kind longer each_more apart_more;
    }

  -- the last commit of a legal journal may follow those before it
  pub legal_last : IsLegal kind longer → IsNext kind journal c
  legal_last legal =
      let last = legal.each (length journal) c (get_end journal c) in
      record {
        commit = record {
          stamped = last.stamped;
          started = last.started;
          wrote = last.wrote;
          allowed = subst (λ g. AllAllowed kind g c.writes) (graph_at-append kind journal (c ∷ []) c.start last.started) last.allowed;
          within = last.within;
        };
        unnamed = λ i d at same.
            let place : i ≡ length journal = legal.names i (length journal) d c (get_front journal (c ∷ []) i d at) (get_end journal c) same in
            let below : i < length journal = below_length journal i d at in
            omega arith;
        apart = λ i d at clash. legal.apart i (length journal) d c (below_length journal i d at) (get_front journal (c ∷ []) i d at) (get_end journal c) clash;
      }
