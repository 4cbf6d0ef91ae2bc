-- Scans of an open transaction, cell after cell.
use Rattle.std.proofs.Common.{◌≡◌, inl, ℕ, zero, suc, ◌<◌, ◌≤◌, List, [], ◌∷◌, ◌++◌, length, take, refl, sym, ◌∙◌, ap, subst, cond, arith}
use Rattle.std.specs.Prelude.{Bool, true, false, Option, Some, IfSome}
use Rattle.graph_model.specs.declared.row.Cursor.{Cursor}
use Rattle.graph_model.specs.declared.row.Key.{Key}
use Rattle.graph_model.specs.declared.row.Row.{Row}
use Rattle.graph_model.specs.AccountSteps.{view_of}
use Rattle.graph_model.specs.Graph.{Graph}
use Rattle.graph_model.specs.Rows.{is_below, rows}
use Rattle.graph_model.specs.Scans.{ScansBy}
use Rattle.graph_model.proofs.KeyLemmas.{tied_keys}
use Rattle.graph_model.proofs.RowLemmas.{ranges_adjoin}
use Rattle.edge_scan.specs.Steps.{IsUnderWay, end_of}
use Rattle.edge_scan.proofs.StepLemmas.{no_key_is_left, steps_are_a_scan}
use Rattle.reader_parts.specs.OptimisticReadDeclared.tried.TriedRun.{TriedRun}
use Rattle.reader_parts.specs.OptimisticReadDeclared.tried.TriedRun.TheVariants.{Rows, Chained}
use Rattle.reader_parts.specs.OptimisticRead.Runs.{EndsRun, IsRun, IsRunUpTo}
use Rattle.reader_parts.specs.StoreRuleDeclared.store.Store.{Store}
use Rattle.pass_scans.specs.declared.run.PackedRun.{PackedRun}
use Rattle.reader_parts.specs.SharedStoreDeclared.pass.Pass.{Pass}
use Rattle.reader_parts.specs.SharedStore.Passes.{KeepsOpen, view_in}

-- an end that isn't behind the last key is where a step of the scan ends
pub step_end : (end : Key) (cursor : Cursor) → is_below cursor.until end ≡ false → end_of end cursor ≡ end
step_end end cursor inside = go (is_below end cursor.until) refl
  where
    go : (t : Bool) → is_below end cursor.until ≡ t → cond t end cursor.until ≡ end
    go true e = refl
    go false e = tied_keys cursor.until end inside e

-- a scan that is done has given all rows
all_of : (n : ℕ) (xs : List Row) → length (take n xs) < n → take n xs ≡ xs
all_of zero xs less = absurd (omega (arith, less))
all_of (suc n) [] less = refl
all_of (suc n) (x ∷ xs) less = ap (λ rs. x ∷ rs) (all_of n xs (omega (arith, less)))

pub all_given : (g : Graph) (old new : Cursor) (given : List Row) → ScansBy g old new given → new.done ≡ true
    → given ≡ rows g old.next old.until
all_given g old new given scans done =
    scans.gave ∙ all_of 64 (rows g old.next old.until) (subst (λ (rs : List Row). length rs < 64) scans.gave (scans.ended done))

-- ---- the same transaction

pub same_view : (store : Store) (old new : Pass) → KeepsOpen store old new → view_in store new ≡ view_in store old
same_view store old new kept i = view_of (kept.account i) (kept.start i)

pub kept_twice : (store : Store) (old mid new : Pass) → KeepsOpen store old mid → KeepsOpen store mid new
    → KeepsOpen store old new
kept_twice store old mid new first then = record {
  opened = then.opened;
  account = then.account ∙ first.account;
  start = then.start ∙ first.start;
  number = then.number ∙ first.number;
}

-- the buffer is as it was, and so is what is seen
pub again_run : (store : Store) (old mid : Pass) → KeepsOpen store old mid → (t : TriedRun) (from until : Key)
    (before now after : List Row) → now ≡ before → IsRun t (view_in store mid) from until now after
    → IsRun t (view_in store old) from until before after
again_run store old mid kept t from until before now after same run =
    subst (λ ws. IsRun t (view_in store old) from until ws after) same
    (subst (λ g. IsRun t g from until now after) (same_view store old mid kept) run)

-- ---- a run is taken

on_top : (xs ys zs : List Row) → (xs ++ ys) ++ zs ≡ xs ++ (ys ++ zs)
on_top [] ys zs = refl
on_top (x ∷ xs) ys zs = ap (λ ws. x ∷ ws) (on_top xs ys zs)

abbrev going_from : Key → Key → Cursor
going_from from until = record { next = from; until = until; done = false }

going_on : (g : Graph) (from until : Key) → IsUnderWay g (going_from from until) (going_from from until) []
going_on g from until = record { until = refl; kept = refl; ended = λ done. let off : false ≡ true = done in cc }

-- behind the last key there is no row
none_behind : (g : Graph) (from until : Key) → is_below from until ≡ false → rows g from until ≡ []
none_behind g from until apart =
    ((no_key_is_left g (going_from from until) (going_from from until) [] apart (omega arith)
    (going_on g from until)).ended refl).0

pub run_taken : (g : Graph) (first old new : Cursor) (before after : List Row) (end : Key) → new.next ≡ end
    → new.until ≡ old.until → (new.done ≡ true → (is_below end old.until ≡ false) × (length after < 64))
    → IsRunUpTo end g old.next old.until before after → IsUnderWay g first old before → IsUnderWay g first new after
run_taken g first old new before after end next until ended run under_way = record {
  until = until ∙ under_way.until;
  kept = (λ i. after ++ rows g (next i) (until i)) ∙ ap (λ ws. ws ++ rows g end old.until) run.rows_are
      ∙ on_top before (rows g old.next end) (rows g end old.until)
      ∙ ap (λ ws. before ++ ws) (ranges_adjoin g old.next end old.until run.onward run.inside) ∙ under_way.kept;
  ended = λ done.
      let there = ended done in
      ((λ i. rows g (next i) (until i)) ∙ none_behind g end old.until there.0, there.1);
}

-- what was read, where rows were, and where one is chained
pub rows_there : (t : TriedRun) (end : Key) (g : Graph) (from until : Key) (before after : List Row)
    → IsRun t g from until before after → t ≡ Rows end → IsRunUpTo end g from until before after
rows_there t end g from until before after run is = subst (λ a. IsRun a g from until before after) is run

pub chained_there : (t : TriedRun) (key end : Key) (g : Graph) (from until : Key) (before after : List Row)
    → IsRun t g from until before after → t ≡ Chained key end
    → IsRunUpTo key g from until before after × EndsRun end key until
chained_there t key end g from until before after run is = subst (λ a. IsRun a g from until before after) is run

-- what a cell in hand has given
pub run_there : (o : Option PackedRun) (read : PackedRun) (g : Graph) (from until : Key) (run : List Row)
    → IfSome o (λ r. EndsRun r.end from until × (run ≡ rows g from r.end)) → o ≡ Some read
    → EndsRun read.end from until × (run ≡ rows g from read.end)
run_there o read g from until run there is =
    subst (λ a. IfSome a (λ (r : PackedRun). EndsRun r.end from until × (run ≡ rows g from r.end))) is there

-- ---- a scan

-- how far it is
pub record IsScanning (store : Store) (old now : Pass) (first cursor : Cursor) (given : List Row) : Type 0 where
  pub kept : KeepsOpen store old now
  pub going : cursor.done ≡ false
  pub few : length given < 64
  pub under_way : IsUnderWay (view_in store old) first cursor given

pub scan_starts : (store : Store) (pass : Pass) (first : Cursor) (given : List Row) → KeepsOpen store pass pass
    → first.done ≡ false → given ≡ [] → IsScanning store pass pass first first given
scan_starts store pass first given kept going none =
    subst (IsScanning store pass pass first first) (sym none) (record {
      kept = kept;
      going = going;
      few = omega arith;
      under_way = record {
        until = refl;
        kept = refl;
        ended = λ done. let off : true ≡ false = sym done ∙ going in cc;
      };
    })

module _ (store : Store) (old mid new : Pass) (first cursor next : Cursor) (given more : List Row)
    (scanning : IsScanning store old mid first cursor given)
    (step : (start : Cursor) → IsUnderWay (view_in store mid) start cursor given
    → IsUnderWay (view_in store mid) start next more) where
  pub under_way_on : IsUnderWay (view_in store old) first next more
  under_way_on =
      let same = same_view store old mid scanning.kept in
      subst (λ g. IsUnderWay g first next more) same
      (step first (subst (λ g. IsUnderWay g first cursor given) (sym same) scanning.under_way))

  pub scanning_on : KeepsOpen store mid new → (next.done ≡ false) × (length more < 64)
      → IsScanning store old new first next more
  scanning_on kept onward = record {
    kept = kept_twice store old mid new scanning.kept kept;
    going = onward.0;
    few = onward.1;
    under_way = under_way_on;
  }

-- where no key is left it is done
pub scan_ends : (store : Store) (old now : Pass) (first cursor : Cursor) (given : List Row)
    → IsScanning store old now first cursor given → is_below cursor.next cursor.until ≡ false
    → ScansBy (view_in store old) first (record cursor { done = true }) given
scan_ends store old now first cursor given scanning apart =
    steps_are_a_scan (view_in store old) first (record cursor { done = true }) given
    (no_key_is_left (view_in store old) first cursor given apart scanning.few scanning.under_way) (inl refl)

-- it begins anew, by latches or without
pub scans_anew : (store : Store) (old mid : Pass) (first last : Cursor) (given : List Row) → KeepsOpen store old mid
    → ScansBy (view_in store mid) first last given → ScansBy (view_in store old) first last given
scans_anew store old mid first last given kept scans =
    subst (λ g. ScansBy g first last given) (same_view store old mid kept) scans
