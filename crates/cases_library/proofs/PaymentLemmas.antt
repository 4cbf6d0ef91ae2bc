-- A first payment, from the transaction to the journal of the closed store.
use Rattle.std.proofs.Common.{◌≡◌, ℕ, List, [], ◌∷◌, ◌++◌, refl, sym, ◌∙◌, ap}
use Rattle.std.specs.Prelude.{IfSome, None, Ok, Option, Some, slice_get}
use mathlib.Core.List.{IsPrefix}
use Rattle.graph_model.specs.declared.journal.Commit.{Commit}
use Rattle.graph_model.specs.declared.write.Write.{Write}
use Rattle.graph_model.specs.declared.write.Write.TheVariants.{AddEdge, AddVertex}
use Rattle.graph_model.specs.Account.{Account}
use Rattle.graph_model.specs.AccountSteps.{CommitsBy, GoesOn, WritesAt, begun_at}
use Rattle.graph_model.proofs.LegalLemmas.{get_front}
use Rattle.cases_library.specs.Payments.{HasPaid, first_payment}

-- a write that was made is the last one of the transaction
pub own_after : (old new : Account) (start : ℕ) (w : Write) → WritesAt old start w (Ok tt) new
    → new.own ≡ old.own ++ w ∷ []
own_after old new start w writes = ap (λ (a : Account). a.own) writes.1.others

-- the three writes, one after the other
pub own_payment : (a b c d : Account) (first second third : ℕ) → WritesAt a first (AddVertex 1) (Ok tt) b
    → WritesAt b second (AddVertex 2) (Ok tt) c → WritesAt c third (AddEdge 1 2 250) (Ok tt) d
    → d.own ≡ a.own ++ first_payment
own_payment a b c d first second third one two three =
    own_after c d third (AddEdge 1 2 250) three
    ∙ ap (λ (ws : List Write). ws ++ AddEdge 1 2 250 ∷ []) (own_after b c second (AddVertex 2) two
    ∙ ap (λ (ws : List Write). ws ++ AddVertex 2 ∷ []) (own_after a b first (AddVertex 1) one))
    ∙ three_more a.own
  where
    three_more : (ws : List Write)
        → ((ws ++ AddVertex 1 ∷ []) ++ AddVertex 2 ∷ []) ++ AddEdge 1 2 250 ∷ [] ≡ ws ++ first_payment
    three_more [] = refl
    three_more (w ∷ ws) = ap (λ (rest : List Write). w ∷ rest) (three_more ws)

-- a transaction that has made it, and was committed, has it in the journal
pub committed_payment : (old begun made after : Account) (start now : ℕ) (stamp : Option ℕ)
    → GoesOn old (begun_at old start) begun → made.own ≡ begun.own ++ first_payment → made.start ≡ Some now
    → CommitsBy made stamp after → IfSome stamp (HasPaid after.seen)
committed_payment old begun made after start now None opened own is_open commits = tt
committed_payment old begun made after start now (Some stamp) opened own is_open commits =
    let has = commits.0 now is_open in
    record {
      place = has.place;
      commit = has.commit;
      stamped = has.stamped;
      at = has.at;
      writes = has.writes ∙ own ∙ ap (λ (ws : List Write). ws ++ first_payment)
          (ap (λ (a : Account). a.own) opened.others);
    }

-- and what a session has seen is in the journal of the closed store
pub in_journal : (seen journal : List Commit) (stamp : Option ℕ) → IsPrefix seen journal
    → IfSome stamp (HasPaid seen) → IfSome stamp (HasPaid journal)
in_journal seen journal None front paid = tt
in_journal seen journal (Some stamp) front paid = record {
  place = paid.place;
  commit = paid.commit;
  stamped = paid.stamped;
  at = ap (λ (cs : List Commit). slice_get cs paid.place) (sym front.1)
      ∙ get_front seen front.0 paid.place paid.commit paid.at;
  writes = paid.writes;
}
