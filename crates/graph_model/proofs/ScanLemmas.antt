-- How many turns a scan takes, and where it goes on.
use Rattle.std.proofs.Common.{◌≡◌, ℕ, suc, ◌+◌, ◌/◌, ◌<◌, ◌≤◌, List, [], ◌∷◌, ◌++◌, length, refl, sym, ◌∙◌, ap, subst, arith, length-append}
use Rattle.std.specs.Prelude.{Bool, true, false, slice_get, Some, IsTrue}
use Rattle.std.proofs.lemmas.Bool.Decides.{nat_tests}
use Rattle.graph_model.specs.declared.row.Key.{Key}
use Rattle.graph_model.specs.declared.row.Row.{Row}
use Rattle.graph_model.specs.declared.row.Cursor.{Cursor}
use Rattle.graph_model.specs.Graph.{Graph}
use Rattle.graph_model.specs.Rows.{is_below, is_between, rows}
use Rattle.graph_model.specs.Scans.{rows_left, ScansBy}
use Rattle.graph_model.specs.AccountLaws.{ScansToTheEnd, ScanTakesItsTurns, NextIsBehind}
use Rattle.graph_model.proofs.AccountLemmas.{done_is_whole}
use Rattle.graph_model.proofs.LegalLemmas.{get_front, below_length}
use Rattle.graph_model.proofs.RowLemmas.{rows_rise_between, row_is_between, row_at_between}
use Rattle.graph_model.proofs.TestLemmas.{never}

-- ---- turns

pub takes_its_turns : ScanTakesItsTurns
takes_its_turns g cursor [] going done = never cursor.done done going
takes_its_turns g cursor (given ∷ portions) going (begun, (next, step, rest)) =
    let count = by_end next.done refl (λ going_on. takes_its_turns g next portions going_on rest) in
    let one_more : length (given ∷ portions) ≡ length portions + 1 = omega arith in
    one_more ∙ count
  where
    none_behind : (portions : List (List Row)) → next.done ≡ true → ScansToTheEnd g next portions → length portions ≡ 0
    none_behind [] done rest = refl
    none_behind (more ∷ portions) done rest = never next.done done rest.0

    by_end : (done : Bool) → next.done ≡ done → (next.done ≡ false → length portions ≡ length (rows_left g next) / 64 + 1)
        → length portions + 1 ≡ length (rows_left g cursor) / 64 + 1
    by_end true done more =
        let none = none_behind portions done rest in
        let short : length given < 64 = step.ended done in
        let count : length given ≡ length (rows_left g cursor) = ap length (done_is_whole g cursor next given step done) in
        omega (arith, none, short, count)
    by_end false going_on more =
        let behind = more going_on in
        let full : length given ≡ 64 = (step.goes_on going_on).0 in
        let count : length given + length (rows_left g next) ≡ length (rows_left g cursor) =
        sym (length-append given (rows_left g next)) ∙ ap length (step.goes_on going_on).1 in
        omega (arith, behind, full, count)

-- ---- where it goes on

below_until : (from until key : Key) → is_between from until key ≡ true → is_below key until ≡ true
below_until from until key e = grind (arith, nat_tests)

from_next : (next until key : Key) → is_below key next ≡ false → is_below key until ≡ true → is_between next until key ≡ true
from_next next until key behind below = grind (arith, nat_tests)

not_below_itself : {P : Type 0} (key : Key) → is_below key key ≡ true → P
not_below_itself key e = grind (arith, nat_tests)

get_behind : {X : Type 0} (xs ys : List X) (j : ℕ) (y : X) → slice_get ys j ≡ Some y → slice_get (xs ++ ys) (length xs + j) ≡ Some y
get_behind [] ys j y at = ap (slice_get ys) (let same : 0 + j ≡ j = omega arith in same) ∙ at
get_behind (x ∷ xs) ys j y at = ap (slice_get (x ∷ (xs ++ ys))) (let same : length (x ∷ xs) + j ≡ suc (length xs + j) = omega arith in same) ∙ get_behind xs ys j y at

pub next_is_behind : NextIsBehind
next_is_behind g old new given i r step going at = by_test (is_below r.key new.next) refl
  where
    all : given ++ rows_left g new ≡ rows_left g old
    all = (step.goes_on going).1

    here : slice_get (rows_left g old) i ≡ Some r
    here = ap (λ rs. slice_get rs i) (sym all) ∙ get_front given (rows_left g new) i r at

    -- the row would be given again
    again : is_below r.key new.next ≡ false → is_below r.key new.next ≡ true
    again behind =
        let is = row_is_between g old.next old.until i r here in
        let until : is_below r.key new.until ≡ true = ap (is_below r.key) step.until ∙ below_until old.next old.until r.key is.0 in
        let more = row_at_between g new.next new.until r.key r.weight (from_next new.next new.until r.key behind until) is.1 in
        let twice : slice_get (rows_left g old) (length given + more.0) ≡ Some r =
        ap (λ rs. slice_get rs (length given + more.0)) (sym all) ∙ get_behind given (rows_left g new) more.0 r more.1 in
        let first : i < length given = below_length given i r at in
        not_below_itself r.key (rows_rise_between g old.next old.until i (length given + more.0) r r (omega (arith, first)) here twice)

    by_test : (t : Bool) → is_below r.key new.next ≡ t → is_below r.key new.next ≡ true
    by_test true e = e
    by_test false e = again e
