-- What a view has after news of one pass, one pin, cells or the journal.
use Rattle.std.proofs.Common.{◌≡◌, ◌≢◌, ℕ, List, [], ◌∷◌, sym, ◌∙◌, ap, cond}
use Rattle.std.specs.Prelude.{Some, unwrap_or}
use Rattle.seat_views.specs.Keeping.{kept_at, without}
use Rattle.seat_views.proofs.NumberLemmas.{other_number, same_number}
use Rattle.store_rule.specs.StoreRelation.Passes.{PassState, fresh_pass}
use Rattle.store_rule.specs.StoreRelation.Shared.{JournalState, no_journal}
use Rattle.store_rule.specs.CellsModel.Cells.{CellState}
use Rattle.store_rule.specs.RuleModel.Sight.{HasJournal, PinState, Sight, fresh_pin, with_commit, with_journal, with_pin, with_rows}
use Rattle.store_rule.specs.StoreWords.Notes.{without_journal}
use Rattle.pass_steps.specs.Passes.{IsOwnSight, journal_in, pin_in, state_in}

-- ---- entries by number

pub kept_here : {A : Type 0} (es : List (ℕ × A)) (p : ℕ) (a : A) → kept_at ((p, a) ∷ es) p ≡ Some a
kept_here es p a = ap (λ b. cond b (Some a) (kept_at es p)) (same_number p)

pub kept_else : {A : Type 0} (es : List (ℕ × A)) (p : ℕ) (a : A) (q : ℕ) → q ≢ p
    → kept_at ((p, a) ∷ es) q ≡ kept_at es q
kept_else es p a q other = ap (λ b. cond b (Some a) (kept_at es q)) (other_number q p other)

-- without the number of an entry the others are left
pub without_here : {A : Type 0} (es : List (ℕ × A)) (p : ℕ) (a : A) → without p ((p, a) ∷ es) ≡ without p es
without_here es p a = ap (λ b. cond b (without p es) ((p, a) ∷ without p es)) (same_number p)

-- ---- what is known of the pass

pub state_here : (v : Sight) (p : ℕ) (st : PassState) (cells : List (ℕ × CellState))
    → state_in (with_rows v p st cells) p ≡ st
state_here v p st cells = ap (λ o. unwrap_or o fresh_pass) (kept_here v.passes p st)

pub pin_here : (v : Sight) (p : ℕ) (x : PinState) → pin_in (with_pin v p x) p ≡ x
pin_here v p x = ap (λ o. unwrap_or o fresh_pin) (kept_here v.pins p x)

-- ---- the journal

pub journal_is : (v : Sight) (j : JournalState) → HasJournal v j → journal_in v ≡ j
journal_is v j has = ap (λ o. unwrap_or o no_journal) has

pub journal_there : (v : Sight) (j : JournalState) → HasJournal v j → HasJournal v (journal_in v)
journal_there v j has = has ∙ ap Some (sym (journal_is v j has))

-- ---- a view of one pass

module _ {p : ℕ} {v : Sight} (own : IsOwnSight p v) where
  pub own_rows : (st : PassState) (cells : List (ℕ × CellState)) → IsOwnSight p (with_rows v p st cells)
  own_rows st cells = record {
    has = kept_here v.passes p st ∙ ap Some (sym (state_here v p st cells));
    pin = own.pin;
    only = λ q other. kept_else v.passes p st q other ∙ own.only q other;
    told = own.told;
    readers = own.readers;
  }

  pub own_pin : (x : PinState) → IsOwnSight p (with_pin v p x)
  own_pin x = record {
    has = own.has;
    pin = kept_here v.pins p x ∙ ap Some (sym (pin_here v p x));
    only = own.only;
    told = own.told;
    readers = own.readers;
  }

  pub own_journal : (j : JournalState) → IsOwnSight p (with_journal v j)
  own_journal j = record {
    has = own.has;
    pin = own.pin;
    only = own.only;
    told = own.told;
    readers = own.readers;
  }

  pub own_commit : (st : PassState) (j : JournalState) → IsOwnSight p (with_commit v p st j)
  own_commit st j = record {
    has = kept_here v.passes p st ∙ ap Some (sym (state_here v p st []));
    pin = own.pin;
    only = λ q other. kept_else v.passes p st q other ∙ own.only q other;
    told = own.told;
    readers = own.readers;
  }

  pub own_without : IsOwnSight p (without_journal v)
  own_without = record {
    has = own.has;
    pin = own.pin;
    only = own.only;
    told = own.told;
    readers = own.readers;
  }
