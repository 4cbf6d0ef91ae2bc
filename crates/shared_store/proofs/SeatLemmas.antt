-- Passes of a new store, and those that come back at its end.
use Rattle.std.proofs.Common.{◌≡◌, ℕ, zero, suc, ◌+◌, ◌<◌, List, [], ◌∷◌, length, refl, sym, ◌∙◌, ap, subst, arith, Option, Some, None}
use Rattle.std.specs.Prelude.{slice_get, unwrap_or}
use Rattle.std.specs.List.{AllByRecursion}
use Rattle.std.proofs.lemmas.Option.{slice_get_within}
use Rattle.graph_model.specs.declared.journal.Commit.{Commit}
use Rattle.graph_model.specs.Account.{IsValid}
use Rattle.graph_model.specs.Legal.{IsLegal}
use Rattle.seat_views.specs.Keeping.{kept_at}
use Rattle.txn_manager.specs.declared.config.Config.{Config}
use Rattle.pass_writes.specs.StoreRelation.Ends.{IsClosed}
use Rattle.pass_writes.specs.StoreRelation.Passes.{PassState, fresh_pass, number_of}
use Rattle.pass_writes.specs.StoreRelation.Passes.{account_of as state_account}
use Rattle.pass_writes.proofs.StoreRelation.EndLemmas.{new_shared}
use Rattle.pass_writes.specs.RuleModel.Sight.{PinState, Sight, fresh_pin}
use Rattle.pass_writes.specs.StoreRule.Closing.{AreBack, IsBackPass, IsContent}
use Rattle.pass_writes.specs.StoreRuleDeclared.close.Content.{Content}
use Rattle.pass_writes.specs.StoreRule.Making.{AreNewPasses, IsFirstPass}
use Rattle.pass_writes.specs.StoreRuleDeclared.store.Pass.{Pass as Seats}
use Rattle.pass_writes.specs.StoreRuleDeclared.store.Store.{Store}
use Rattle.pass_writes.specs.StoreWords.Notes.{pass_note}
use Rattle.pass_writes.specs.PassSteps.Passes.{HasEnded, HasNoContents, HasNoTxn, IsIdlePass, IsOwnSight, pin_in, pin_of, state_in, state_of}
use Rattle.pass_writes.proofs.PassSteps.PassLemmas.{idle_pass_is_back}
use Rattle.pass_writes.proofs.PassSteps.SightLemmas.{kept_else, kept_here}
use Rattle.shared_store.specs.declared.pass.Pass.{Pass}
use Rattle.shared_store.specs.Ends.{AreIdle, AreNew, HasBegun, HasBegunNothing, HasClosed, HaveBegunNothing, HaveNoCells, seats_of}
use Rattle.shared_store.specs.Passes.{IsIdle}

pub all_get : {X : Type 0} (P : X → Type 0) (xs : List X) (i : ℕ) (x : X) → AllByRecursion P xs
    → slice_get xs i ≡ Some x → P x
all_get P [] i x h e = cc
all_get {X} P (y ∷ ys) zero x h e = subst P (same y x e) h.0
  where
    same : (a b : X) → ◌≡◌ {A = Option X} (Some a) (Some b) → a ≡ b
    same a b e = cc
all_get P (y ∷ ys) (suc i) x h e = all_get P ys i x h.1 e

pub seat_at : (list : List Pass) (i : ℕ) (pass : Pass) → slice_get list i ≡ Some pass
    → slice_get (seats_of list) i ≡ Some pass.seats
seat_at [] i pass e = cc
seat_at (p ∷ ps) zero pass e = ap (λ (o : Option Pass). seats_in o) e
  where
    seats_in : Option Pass → Option Seats
    seats_in None = None
    seats_in (Some p) = Some p.seats
seat_at (p ∷ ps) (suc i) pass e = seat_at ps i pass e

pub seat_count : (list : List Pass) → length (seats_of list) ≡ length list
seat_count [] = refl
seat_count (p ∷ ps) = ap suc (seat_count ps)

-- ---- a store that begins

-- the pass holds nothing, and knows that it is in this state
abbrev pub IsFirst : Store → ℕ → PassState → Seats → Type 0
IsFirst store p st seats = IsFirstPass store.latches.table.shared.key store.latches.table.shared.table_id
    store.accounts.table.shared.table_id p st seats

-- a state without a transaction, whose account is valid
pub record MayBegin (z : Config) (p : ℕ) (st : PassState) : Type 0 where
  pub ended : HasEnded st
  pub stamped : st.unstamped ≡ []
  pub valid : IsValid (state_account z p st)

-- the note of a pass knows that alone
note_own : (p : ℕ) (st : PassState) → IsOwnSight p (pass_note p st fresh_pin)
note_own p st =
    let none : List (ℕ × PassState) = [] in
    let no_pins : List (ℕ × PinState) = [] in record {
      has = kept_here none p st ∙ ap (λ o. Some (unwrap_or o fresh_pass)) (sym (kept_here none p st));
      pin = kept_here no_pins p fresh_pin
          ∙ ap (λ o. Some (unwrap_or o fresh_pin)) (sym (kept_here no_pins p fresh_pin));
      only = λ q other. kept_else none p st q other;
      told = refl;
      readers = refl;
    }

module _ (store : Store) (p : ℕ) (st : PassState) (seats : Seats) (first : IsFirst store p st seats) where
  -- what its seat knows of the pass
  first_state_is : state_of seats ≡ st
  first_state_is =
      let none : List (ℕ × PassState) = [] in
      (λ i. state_in ((first.account.me i).0) (first.number i)) ∙ ap (λ o. unwrap_or o fresh_pass) (kept_here none p st)

  first_pin_is : pin_of seats ≡ fresh_pin
  first_pin_is =
      let none : List (ℕ × PinState) = [] in
      (λ i. pin_in ((first.account.me i).0) (first.number i))
      ∙ ap (λ o. unwrap_or o fresh_pin) (kept_here none p fresh_pin)

  -- IDLE
  first_is_idle : p < store.accounts.config.passes → MayBegin store.accounts.config p st → IsIdlePass store seats
  first_is_idle inside may =
      let sight : seats.account.me.0 ≡ pass_note p st fresh_pin = (λ i. (first.account.me i).0) in
      let idle : HasNoTxn st fresh_pin = record {
        ended = may.ended;
        stamped = may.stamped;
        unannounced = refl;
        unnoted = refl;
      } in
      record {
        of = record {
          inside = subst (λ n. n < store.accounts.config.passes) (sym first.number) inside;
          latch = first.latch.of;
          same = first.same ∙ sym first.number;
          table = first.account.table_is;
          slots = λ i. (first.account.me i).1;
          sight = subst (λ (x : ℕ × Sight). IsOwnSight x.0 x.1) (λ i. (sym first.number i, sym sight i))
              (note_own p st);
          legal = subst (λ (u : PassState). IsLegal store.accounts.config.kind u.seen) (sym first_state_is)
              may.valid.legal;
        };
        none = record {
          latches = first.latch.none;
          buffers = first.buffers;
          contents = subst HasNoContents (sym sight) (record { cells = refl; indexes = refl; journals = refl });
        };
        idle = subst (λ (u : PassState × PinState). HasNoTxn u.0 u.1) (λ i. (sym first_state_is i, sym first_pin_is i))
            idle;
      }

-- all passes of a store that begins, of which each may begin a transaction
module _ (store : Store) (state : ℕ → PassState)
    (may : (p : ℕ) → MayBegin store.accounts.config p (state p)) (list : List Pass)
    (count : length list ≡ store.accounts.config.passes)
    (first : (p : ℕ) (pass : Pass) → slice_get list p ≡ Some pass → IsFirst store p (state p) pass.seats)
    (begun : (p : ℕ) (pass : Pass) → slice_get list p ≡ Some pass → HasBegun (number_of (state p)) pass)
    (cells : HaveNoCells list) where
  pub state_at : (p : ℕ) (pass : Pass) → slice_get list p ≡ Some pass → state_of pass.seats ≡ state p
  state_at p pass at = first_state_is store p (state p) pass.seats (first p pass at)

  idle_at : (p : ℕ) (pass : Pass) → slice_get list p ≡ Some pass → IsIdle store pass
  idle_at p pass at =
      let inside : p < length list = slice_get_within list p pass at in
      let is = state_at p pass at in
      let has = begun p pass at in
      record {
        idle = first_is_idle store p (state p) pass.seats (first p pass at) (subst (λ n. p < n) count inside) (may p);
        cells = all_get (λ (x : Pass). x.cells.taken.list.items ≡ []) list p pass cells at;
        begun = has.0 ∙ sym (ap number_of is);
        own = has.1;
        changed = has.2;
        valid = subst (λ (x : ℕ × PassState). IsValid (state_account store.accounts.config x.0 x.1))
            (λ i. (sym (first p pass at).number i, sym is i)) (may p).valid;
      }

  -- BEGUN
  pub all_idle : AreIdle store list
  all_idle = record {
    count = count;
    idle = idle_at;
    numbers = λ p pass at. (first p pass at).number;
  }

-- ---- new

pub fresh_may : (z : Config) (p : ℕ) → MayBegin z p fresh_pass
fresh_may z p = record {
  ended = record { stage = refl; own = refl; laid = refl; alone = refl };
  stamped = refl;
  valid = record {
    legal = (new_shared z).store.transactions.legal;
    current = tt;
    idle = refl;
    counted = refl;
    room = omega arith;
  };
}

module _ (store : Store) (seats : List Seats) (list : List Pass) (same : seats_of list ≡ seats)
    (passes : AreNewPasses store.latches.table.shared.key store.latches.table.shared.table_id
    store.accounts.table.shared.table_id seats)
    (config : store.latches.table.shared.key.config ≡ store.accounts.config)
    (fresh : HaveBegunNothing list) (cells : HaveNoCells list) where
  count_is : length list ≡ store.accounts.config.passes
  count_is = sym (seat_count list) ∙ ap length same ∙ passes.count ∙ (λ i. (config i).passes)

  new_at : (p : ℕ) (pass : Pass) → slice_get list p ≡ Some pass → IsFirst store p fresh_pass pass.seats
  new_at p pass at =
      let place : 0 + p ≡ p = omega arith in
      subst (λ n. IsFirst store n fresh_pass pass.seats) place
      (passes.new p pass.seats (ap (λ l. slice_get l p) (sym same) ∙ seat_at list p pass at))

  begun_at : (p : ℕ) (pass : Pass) → slice_get list p ≡ Some pass → HasBegunNothing pass
  begun_at p pass at = all_get HasBegunNothing list p pass fresh at

  -- NEW
  pub all_new : AreNew store list
  all_new = record {
    idle = all_idle store (λ _. fresh_pass) (fresh_may store.accounts.config) list count_is new_at begun_at cells;
    fresh = state_at store (λ _. fresh_pass) (fresh_may store.accounts.config) list count_is new_at begun_at cells;
  }

-- ---- back

all_cells : (store : Store) (list : List Pass)
    → ((p : ℕ) (pass : Pass) → slice_get list p ≡ Some pass → IsIdle store pass) → HaveNoCells list
all_cells store [] idle = tt
all_cells store (x ∷ xs) idle = ((idle 0 x refl).cells, all_cells store xs (λ p pass at. idle (suc p) pass at))

-- the pass of a seat
pass_at : (list : List Pass) (p : ℕ) (seats : Seats) → slice_get (seats_of list) p ≡ Some seats
    → (pass : Pass) × (slice_get list p ≡ Some pass) × (pass.seats ≡ seats)
pass_at [] p seats e = cc
pass_at (x ∷ xs) zero seats e = (x, refl, same x.seats seats e)
  where
    same : (a b : Seats) → ◌≡◌ {A = Option Seats} (Some a) (Some b) → a ≡ b
    same a b e = cc
pass_at (x ∷ xs) (suc p) seats e = pass_at xs p seats e

module _ (store : Store) (list : List Pass) (idle : AreIdle store list) where
  pub no_cells : HaveNoCells list
  no_cells = all_cells store list idle.idle

  -- BACK
  pub all_back : AreBack store (seats_of list)
  all_back = record {
    count = seat_count list ∙ idle.count;
    each = λ p seats at.
        let here = pass_at list p seats at in
        let is = idle_pass_is_back store here.0.seats (idle.idle p here.0 here.1).idle in
        subst (λ (x : ℕ × Seats). IsBackPass store.latches.table.shared.key store.latches.table.shared.table_id
        store.accounts.table.shared.table_id x.0 x.1) (λ i. (idle.numbers p here.0 here.1 i, here.2 i)) is;
  }

  pub at_number : (p : ℕ) (pass : Pass) → slice_get list p ≡ Some pass
      → (p < store.accounts.config.passes) × (pass.seats.number ≡ p)
  at_number p pass at =
      (subst (λ n. p < n) idle.count (slice_get_within list p pass at), idle.numbers p pass at)

-- the journal of a closed store
pub has_closed : (z : Config) (list : List Pass) (content : Content) (journal : List Commit)
    → IsContent z (seats_of list) content → journal ≡ content.journal.items
    → ((p : ℕ) (pass : Pass) → slice_get list p ≡ Some pass → (p < z.passes) × (pass.seats.number ≡ p))
    → HasClosed z list journal
has_closed z list content journal is same inside = record {
  pass = is.last.pass;
  known = λ p x at.
      let there = is.passes p x.seats (omega arith) (seat_at list p x at) in
      let has = is.last.passes p (inside p x at).0 in
      let number = (inside p x at).1 in
      sym (ap (λ o. unwrap_or o fresh_pass) (ap (kept_at x.seats.account.me.0.passes) number ∙ sym there ∙ has));
  rows = is.last.rows;
  closed = subst (λ js. IsClosed z is.last.pass js is.last.rows) (sym (same ∙ is.journal.commits)) is.last.closed;
}
