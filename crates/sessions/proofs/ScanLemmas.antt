-- Scans of what a transaction sees, portion by portion.
use Rattle.std.proofs.Common.{◌≡◌, ℕ, zero, suc, ◌+◌, ◌^◌, ◌<◌, List, [], ◌∷◌, ◌++◌, length, drop, Some, refl, sym, ◌∙◌, ap, subst, cond, arith, length-append, append_assoc}
use Rattle.std.proofs.lemmas.List.{take-append-drop}
use Rattle.std.proofs.lemmas.Option.{none-some}
use Rattle.std.specs.Prelude.{true, false, slice_get, IfOk, IfSome, Result, Ok, Err}
use Rattle.graph_model.specs.declared.row.Cursor.{Cursor}
use Rattle.graph_model.specs.declared.row.Row.{Row}
use Rattle.graph_model.specs.declared.journal.Begun.{Begun}
use Rattle.graph_model.specs.Account.{Account, IsOpenTxn}
use Rattle.graph_model.specs.AccountSteps.{ReadsBy, view_of}
use Rattle.graph_model.specs.Graph.{Graph, IsBounded, apply_all}
use Rattle.graph_model.specs.History.{graph_at}
use Rattle.graph_model.specs.Rows.{AreRowsOf, all_rows}
use Rattle.graph_model.specs.Scans.{ScansBy, rows_left}
use Rattle.graph_model.proofs.AccountLemmas.{done_is_whole}
use Rattle.graph_model.proofs.LegalLemmas.{graph_at-append}
use Rattle.graph_model.proofs.RowLemmas.{rows_rise}
use Rattle.graph_model.proofs.TestLemmas.{never}
use Rattle.graph_model.proofs.ViewLemmas.{view_bounded, view_ends}
use Rattle.graph_image.specs.declared.image.Image.{Image}
use Rattle.graph_image.specs.Building.{AreStorable}
use Rattle.graph_image.specs.Images.{IsImageOf}
use Rattle.graph_image.proofs.GivenLemmas.{rows_light}
use Rattle.sessions.specs.Sessions.{HasOpen}

-- ---- turns

-- so much was given, and with what is left it is the whole range
pub record IsScanning (g : Graph) (range given : List Row) (cursor : Cursor) : Type 0 where
  pub whole : cursor.done ≡ false → given ++ rows_left g cursor ≡ range
  pub all : cursor.done ≡ true → given ≡ range

pub scans_on : (g : Graph) (range given more : List Row) (old new : Cursor) → old.done ≡ false
    → IsScanning g range given old → ScansBy g old new more → IsScanning g range (given ++ more) new
scans_on g range given more old new going is step = record {
  whole = λ goes. append_assoc given more (rows_left g new) ∙ ap (λ xs. given ++ xs) (step.goes_on goes).1
      ∙ is.whole going;
  all = λ done. ap (λ xs. given ++ xs) (done_is_whole g old new more step done) ∙ is.whole going;
}

-- how much is left of it
abbrev pub left_of : Graph → Cursor → ℕ
left_of g cursor = cond cursor.done 0 (length (rows_left g cursor) + 1)

pub less_left : (g : Graph) (old new : Cursor) (given : List Row) → ScansBy g old new given → old.done ≡ false
    → left_of g new < left_of g old
less_left g old new given scans going =
    subst (λ n. left_of g new < n) (sym (ap (λ t. cond t 0 (length (rows_left g old) + 1)) going))
    (elim new.done as (λ t. new.done ≡ t → cond t 0 (length (rows_left g new) + 1) < length (rows_left g old) + 1) [
      | true ↦ λ _. omega arith
      | false ↦ λ goes. (let less = fewer goes in omega (arith, less))
    ] refl)
  where
    fewer : new.done ≡ false → length (rows_left g new) + 64 ≡ length (rows_left g old)
    fewer goes =
        let all : length (rows_left g old) ≡ length given + length (rows_left g new) =
        ap length (sym (scans.goes_on goes).1) ∙ length-append given (rows_left g new) in
        let full = (scans.goes_on goes).0 in
        omega (arith, all, full)

-- ---- reads

pub reads_none_more : (old : Account) → ReadsBy old old
reads_none_more old = record { seen = ([], sym (append_nil old.seen)); others = refl }
  where
    append_nil : {X : Type 0} (xs : List X) → xs ++ [] ≡ xs
    append_nil [] = refl
    append_nil (x ∷ xs) = ap (λ ys. x ∷ ys) (append_nil xs)

pub reads_twice : (old mid new : Account) → ReadsBy old mid → ReadsBy mid new → ReadsBy old new
reads_twice old mid new one two = record {
  seen = (
    one.seen.0 ++ two.seen.0,
    two.seen.1 ∙ ap (λ xs. xs ++ two.seen.0) one.seen.1 ∙ append_assoc old.seen one.seen.0 two.seen.0,
  );
  others = two.others ∙ ap (λ (a : Account). record a { seen = new.seen }) one.others;
}

open_txn : (number start : ℕ) (account : Account) → HasOpen number start account → IsOpenTxn account start
open_txn number start account is = subst (λ s. IfSome s (IsOpenTxn account)) is.opened is.valid.current

-- whoever has read more of the journal sees the same
pub sees_still : (number start : ℕ) (old new : Account) → HasOpen number start old → ReadsBy old new
    → view_of new start ≡ view_of old start
sees_still number start old new is reads =
    let txn = open_txn number start old is in
    let same : graph_at old.kind new.seen start ≡ graph_at old.kind old.seen start =
    ap (λ cs. graph_at old.kind cs start) reads.seen.1
    ∙ graph_at-append old.kind old.seen reads.seen.0 start txn.seen in
    ap (λ (a : Account). view_of a start) reads.others ∙ ap (λ g. apply_all old.kind g old.own) same

-- ---- rows for an image

-- what holds of a graph that a transaction sees
pub record IsSeen (g : Graph) : Type 0 where
  pub rows : AreRowsOf (all_rows g) g
  pub bounded : IsBounded g

pub seen_now : (number start : ℕ) (account : Account) → HasOpen number start account → IsSeen (view_of account start)
seen_now number start account is =
    let txn = open_txn number start account is in
    let bounded = view_bounded account.kind account.seen start account.own is.valid.legal txn.seen txn.within in
    record {
      rows = record {
        listed = refl;
        ends = view_ends account.kind account.seen start account.own is.valid.legal txn.seen txn.allowed;
        within = bounded.ids;
      };
      bounded = bounded;
    }

-- what stands in the front of a list stands in the list
front_has : {X : Type 0} (front left : List X) (i : ℕ) (x : X) → slice_get front i ≡ Some x
    → slice_get (front ++ left) i ≡ Some x
front_has [] left i x at = absurd (none-some x at)
front_has (y ∷ front) left zero x at = at
front_has (y ∷ front) left (suc i) x at = front_has front left i x at

-- the front of a graph's rows may be pushed, where there are places for it
front_storable : (g : Graph) (rows front left : List Row) → AreRowsOf rows g → IsBounded g → front ++ left ≡ rows
    → length front < 2 ^ 32 → AreStorable front
front_storable g rows front left are bounded whole few = record {
  rise = λ i j a b less at_i at_j. rows_rise are i j a b less (in_rows i a at_i) (in_rows j b at_j);
  weights = λ i r at. rows_light rows g are bounded i r (in_rows i r at);
  count = few;
}
  where
    in_rows : (i : ℕ) (r : Row) → slice_get front i ≡ Some r → slice_get rows i ≡ Some r
    in_rows i r at = subst (λ xs. slice_get xs i ≡ Some r) whole (front_has front left i r at)

-- the next portion may be pushed
pub next_storable : (g : Graph) (given more : List Row) (old new : Cursor) → IsSeen g → old.done ≡ false
    → IsScanning g (all_rows g) given old → ScansBy g old new more → length (given ++ more) < 2 ^ 32
    → AreStorable (given ++ more)
next_storable g given more old new seen going is step few =
    let rest : more ++ drop 64 (rows_left g old) ≡ rows_left g old =
    ap (λ xs. xs ++ drop 64 (rows_left g old)) step.gave ∙ take-append-drop 64 (rows_left g old) in
    front_storable g (all_rows g) (given ++ more) (drop 64 (rows_left g old)) seen.rows seen.bounded
    (append_assoc given more (drop 64 (rows_left g old)) ∙ ap (λ xs. given ++ xs) rest ∙ is.whole going) few

-- ---- loops

-- a turn of a scan, of what was seen when the scan began
pub scans_first : (number : ℕ) (begun now : Begun) (first mid : Account) → HasOpen number begun.start first
    → ReadsBy first mid → now ≡ begun → (old new : Cursor) (given : List Row)
    → ScansBy (view_of mid now.start) old new given → ScansBy (view_of first begun.start) old new given
scans_first number begun now first mid is reads same old new given step =
    subst (λ g. ScansBy g old new given)
    (ap (λ (b : Begun). view_of mid b.start) same ∙ sees_still number begun.start first mid is reads) step

pub scanning_from : (g : Graph) (range : List Row) (cursor : Cursor) → cursor.done ≡ false → rows_left g cursor ≡ range
    → IsScanning g range [] cursor
scanning_from g range cursor going same = record { whole = λ _. same; all = λ done. never cursor.done done going }

-- what was built of a graph's rows is its image
pub built : {E : Type 0} (r : Result Image E) (g : Graph) {rows : List Row} → AreRowsOf rows g
    → IfOk r (λ image. (h : Graph) → AreRowsOf rows h → IsImageOf image h) → IfOk r (λ image. IsImageOf image g)
built (Ok image) g are all = all g are
built (Err error) g are all = tt
