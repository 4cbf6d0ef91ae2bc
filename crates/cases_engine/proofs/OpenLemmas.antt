-- What the calls of an engine do to its open transactions.
use Rattle.std.proofs.Common.{◌≡◌, ℕ, zero, suc, ◌<◌, arith, List, [], ◌∷◌, length, refl, sym, ◌∙◌, ap, subst}
use Rattle.std.specs.Prelude.{Bool, true, false, Option, Some, None, IsSome, Result, Ok, Err, is_some, map, replicate, unwrap_or, slice_get, slice_set}
use Rattle.graph_model.specs.declared.write.Write.{Write}
use Rattle.graph_model.specs.declared.journal.Begun.{Begun}
use Rattle.graph_model.specs.declared.refusal.Refusal.{Refusal}
use Rattle.graph_model.specs.declared.refusal.Refusal.TheVariants as refusals
use Rattle.graph_model.specs.Account.{Account}
use Rattle.graph_model.specs.AccountSteps.{BeginsBy}
use Rattle.graph_model.specs.OwnerCalls.{Core, PassState, BeginsHere, CommitsHere, CommitsHereFrom, RefusesHere, WritesHere, WritesHereFrom, account_here, current, ended_pass, no_pass, pass_at, with_current}
use Rattle.teseo_core.specs.Keeping.{NoneOpen}
use Rattle.teseo_core.specs.Passes.{new_pass}
use Rattle.cases_engine.specs.Open.{KeepsOpen, SetsOpen, open_of}

-- ---- lists

-- an element that is set is set among what a function makes of them
map_set : {A B : Type 0} (f : A → B) (xs : List A) (i : ℕ) (x : A) → map f (slice_set xs i x) ≡ slice_set (map f xs) i (f x)
map_set f [] i x = refl
map_set f (y ∷ xs) zero x = refl
map_set f (y ∷ xs) (suc i) x = ap (λ ys. f y ∷ ys) (map_set f xs i x)

-- of two that are set at one place the second one counts
set_twice : (xs : List Bool) (i : ℕ) (x y : Bool) → slice_set (slice_set xs i x) i y ≡ slice_set xs i y
set_twice [] i x y = refl
set_twice (z ∷ xs) zero x y = refl
set_twice (z ∷ xs) (suc i) x y = ap (λ ys. z ∷ ys) (set_twice xs i x y)

-- one that stood there changes nothing
set_same : (f : PassState → Bool) (xs : List PassState) (i : ℕ) (b : Bool) → f (unwrap_or (slice_get xs i) no_pass) ≡ b → slice_set (map f xs) i b ≡ map f xs
set_same f [] i b is = refl
set_same f (x ∷ xs) zero b is = ap (λ y. y ∷ map f xs) (sym is)
set_same f (x ∷ xs) (suc i) b is = ap (λ ys. f x ∷ ys) (set_same f xs i b is)

none_of : (o : Option ℕ) → is_some o ≡ false → o ≡ None
none_of None is = refl
none_of (Some n) is = cc

-- whether a pass has a transaction open stands in the list
stands : (states : List PassState) (p : ℕ) → is_some (unwrap_or (slice_get states p) no_pass).start ≡ unwrap_or (slice_get (map (λ s. is_some s.start) states) p) false
stands [] p = refl
stands (s ∷ states) zero = refl
stands (s ∷ states) (suc p) = stands states p

inside : (states : List PassState) (p : ℕ) (b : Bool) → slice_get (map (λ s. is_some s.start) states) p ≡ Some b → p < length states
inside [] p b is = cc
inside (s ∷ states) zero b is = omega arith
inside (s ∷ states) (suc p) b is = let rest = inside states p b is in omega (arith, rest)

-- ---- what a list says

pub within : (core : Core) (pass : ℕ) (is_open : Bool) → slice_get (open_of core) pass ≡ Some is_open → pass < length core.passes
within core pass is_open at = inside core.passes pass is_open at

known : (core : Core) (pass : ℕ) (is_open : Bool) → slice_get (open_of core) pass ≡ Some is_open → is_some (pass_at core pass).start ≡ is_open
known core pass is_open at = stands core.passes pass ∙ ap (λ o. unwrap_or o false) at

here_selected : (account : Account) (old new : Core) (pass : ℕ) (is_open : Bool) → account ≡ account_here new → new ≡ record old { selected = pass } → slice_get (open_of old) pass ≡ Some is_open → is_some account.start ≡ is_open
here_selected account old new pass is_open here is at = ap (λ (a : Account). is_some a.start) here ∙ ap (λ (c : Core). is_some (current c).start) is ∙ known old pass is_open at

-- a pass that is selected may begin a transaction where it has none open
pub closed_in : (account : Account) (old new : Core) (pass : ℕ) → account ≡ account_here new → new ≡ record old { selected = pass } → slice_get (open_of old) pass ≡ Some false → account.start ≡ None
closed_in account old new pass here is at = none_of account.start (here_selected account old new pass false here is at)

-- and goes on with one that is
pub open_in : (account : Account) (old new : Core) (pass : ℕ) → account ≡ account_here new → new ≡ record old { selected = pass } → slice_get (open_of old) pass ≡ Some true → IsSome account.start
open_in account old new pass here is at = here_selected account old new pass true here is at

-- ---- calls

sets : (old mid new : Core) (pass : ℕ) (state : PassState) → mid ≡ record old { selected = pass } → new.selected ≡ mid.selected → new.passes ≡ slice_set mid.passes mid.selected state
    → SetsOpen pass (is_some state.start) old new
sets old mid new pass state is selected passes = record {
  selected = selected ∙ ap (λ (c : Core). c.selected) is;
  open_in = ap (map (λ s. is_some s.start)) passes ∙ map_set (λ s. is_some s.start) mid.passes mid.selected state ∙ ap (λ (c : Core). slice_set (open_of c) c.selected (is_some state.start)) is;
}

pub begun_in : (old mid new : Core) (pass : ℕ) (answer : Begun) → mid ≡ record old { selected = pass } → BeginsHere mid (Ok answer) new → SetsOpen pass true old new
begun_in old mid new pass answer is did = sets old mid new pass _ is (ap (λ (c : Core). c.selected) did.2) (ap (λ (c : Core). c.passes) did.2)

pub committed_in : (old mid new : Core) (pass : ℕ) (answer : Option ℕ) → mid ≡ record old { selected = pass } → CommitsHere mid answer new → SetsOpen pass false old new
committed_in old mid new pass answer is (start, began, did) = by_writes (current mid).own did
  where
    by_writes : (ws : List Write) → CommitsHereFrom mid start ws answer new → SetsOpen pass false old new
    by_writes [] did = sets old mid new pass (ended_pass mid) is (ap (λ (c : Core). c.selected) did.1) (ap (λ (c : Core). c.passes) did.1)
    by_writes (w ∷ ws) did = sets old mid new pass (ended_pass mid) is (ap (λ (c : Core). c.selected) did.1) (ap (λ (c : Core). c.passes) did.1)

stays : (old new : Core) → new ≡ old → KeepsOpen old new
stays old new is = record { selected = ap (λ (c : Core). c.selected) is; open_in = ap open_of is }

-- a state with the start that the pass had
state_set : (old new : Core) (state : PassState) → state.start ≡ (current old).start → new ≡ with_current old state → KeepsOpen old new
state_set old new state same is = record {
  selected = ap (λ (c : Core). c.selected) is;
  open_in = ap open_of is ∙ map_set (λ s. is_some s.start) old.passes old.selected state ∙ set_same (λ s. is_some s.start) old.passes old.selected (is_some state.start) (ap is_some (sym same));
}

refused : (old new : Core) (start : ℕ) (w : Write) (r : Refusal) → RefusesHere old start w r new → KeepsOpen old new
refused old new start w refusals.SelfLoop did = stays old new did.1
refused old new start w (refusals.NoVertex v) did = stays old new did.1
refused old new start w refusals.VertexExists did = stays old new did.1
refused old new start w refusals.EdgeExists did = stays old new did.1
refused old new start w refusals.NoEdge did = stays old new did.1
refused old new start w refusals.HasEdges did = stays old new did.1
refused old new start w (refusals.Conflict cause) did = state_set old new _ refl did.2
refused old new start w (refusals.Full leaves) did = state_set old new _ refl did.5
refused old new start w refusals.NoMemory did = stays old new did

-- a write begins and ends no transaction, whatever it is answered
pub wrote : (old new : Core) (w : Write) (r : Result (Unit {0}) Refusal) → WritesHere old w r new → KeepsOpen old new
wrote old new w r (start, began, did) = by_answer r did
  where
    by_answer : (r : Result (Unit {0}) Refusal) → WritesHereFrom old start w r new → KeepsOpen old new
    by_answer (Ok done) did = state_set old new _ refl did.2
    by_answer (Err refusal) did = refused old new start w refusal did

-- ---- several calls

pub keeps_both : (old mid new : Core) → KeepsOpen old mid → KeepsOpen mid new → KeepsOpen old new
keeps_both old mid new first second = record { selected = second.selected ∙ first.selected; open_in = second.open_in ∙ first.open_in }

pub keeps_set : (old mid new : Core) (pass : ℕ) (is_open : Bool) → SetsOpen pass is_open old mid → KeepsOpen mid new → SetsOpen pass is_open old new
keeps_set old mid new pass is_open first second = record { selected = second.selected ∙ first.selected; open_in = second.open_in ∙ first.open_in }

-- a whole transaction leaves none open
pub transaction : (old begun wrote new : Core) → (current old).start ≡ None → SetsOpen old.selected true old begun → KeepsOpen begun wrote → SetsOpen wrote.selected false wrote new → KeepsOpen old new
transaction old begun wrote new closed begins writes commits =
    let selected : wrote.selected ≡ old.selected = writes.selected ∙ begins.selected in record {
      selected = commits.selected ∙ selected;
      open_in = commits.open_in ∙ ap (λ xs. slice_set xs wrote.selected false) (writes.open_in ∙ begins.open_in) ∙ ap (λ p. slice_set (slice_set (open_of old) old.selected true) p false) selected
          ∙ set_twice (open_of old) old.selected true false ∙ set_same (λ s. is_some s.start) old.passes old.selected false (ap is_some closed);
    }

same_here : (old new : Core) → KeepsOpen old new → is_some (current new).start ≡ is_some (current old).start
same_here old new keeps = stands new.passes new.selected ∙ ap (λ p. unwrap_or (slice_get (open_of new) p) false) keeps.selected
    ∙ ap (λ xs. unwrap_or (slice_get xs old.selected) false) keeps.open_in ∙ sym (stands old.passes old.selected)

kept : (before after : Account) (old new : Core) → before ≡ account_here old → after ≡ account_here new → KeepsOpen old new → is_some after.start ≡ is_some before.start
kept before after old new here there keeps = ap (λ (a : Account). is_some a.start) there ∙ same_here old new keeps ∙ sym (ap (λ (a : Account). is_some a.start) here)

-- an account that has a transaction open goes on having it
pub open_still : (before after : Account) (old new : Core) → before ≡ account_here old → after ≡ account_here new → KeepsOpen old new → IsSome before.start → IsSome after.start
open_still before after old new here there keeps some = kept before after old new here there keeps ∙ some

-- and one that has begun one has it
pub open_begun : (old new : Account) (answer : Begun) → BeginsBy old (Ok answer) new → IsSome new.start
open_begun old new answer begins = subst (λ (a : Account). IsSome a.start) (sym begins.opened.others) refl

-- ---- no pass has one

pub none_still : (old new : Core) → KeepsOpen old new → NoneOpen old → NoneOpen new
none_still old new keeps none p = none_of (pass_at new p).start
    (stands new.passes p ∙ ap (λ xs. unwrap_or (slice_get xs p) false) keeps.open_in ∙ sym (stands old.passes p) ∙ ap is_some (none p))

none_begun : (count allowed p : ℕ) → (unwrap_or (slice_get (replicate count (new_pass allowed)) p) no_pass).start ≡ None
none_begun zero allowed p = refl
none_begun (suc count) allowed zero = refl
none_begun (suc count) allowed (suc p) = none_begun count allowed p

-- nor has one of a new engine
pub none_open : (count allowed : ℕ) (core : Core) → core.passes ≡ replicate count (new_pass allowed) → NoneOpen core
none_open count allowed core new p = ap (λ states. (unwrap_or (slice_get states p) no_pass).start) new ∙ none_begun count allowed p
