-- Room for the rows of a write, and what it puts into them, one row after another.
use Rattle.std.proofs.Common.{◌≡◌, ℕ, ◌+◌, ◌<◌, ◌≤◌, [], ◌∷◌, refl, sym, ◌∙◌, ap, cond, arith, Some, None}
use Rattle.std.specs.Prelude.{Bool, true, false, ◌&&◌, ◌||◌, not, Option}
use Rattle.std.specs.List.{list_any}
use Rattle.graph_model.specs.declared.row.Key.{Key}
use Rattle.graph_model.specs.declared.journal.TxnName.{TxnName}
use Rattle.graph_model.specs.Effects.{same_key}
use Rattle.store_model.specs.Stamped.{StampedVersions}
use Rattle.undo_chain.specs.declared.touched.Touched.{Touched}
use Rattle.version_segment.specs.declared.change.RowChange.{RowChange}
use Rattle.version_segment.specs.declared.change.RowChange.TheVariants.{Write, Touch}
use Rattle.version_segment.specs.Changes.{changed}
use Rattle.row_writes.specs.declared.written.EndKeys.{EndKeys}
use Rattle.row_writes.specs.declared.written.WrittenRows.{WrittenRows}
use Rattle.row_writes.specs.Held.{AllowsWrite, AreHeld, Changes, HaveRoom, HaveSpare, HeldRows}
use Rattle.row_writes.specs.Laying.{TouchesEnds}
use Rattle.row_writes.specs.Written.{with_back}
use Rattle.row_writes.proofs.KeyLemmas.{first_key, key_eq, key_self, keys_apart}

-- ---- two changes

-- two changes of two keys, the second one's first
both_change : (s t : Bool) (change : StampedVersions → StampedVersions) (x y z : StampedVersions) → (s && t) ≡ false → y ≡ cond t (change x) x → z ≡ cond s (change y) y → z ≡ cond (s || (t || false)) (change x) x
both_change true true change x y z apart one two = cc
both_change true false change x y z apart one two = two ∙ ap change one
both_change false true change x y z apart one two = two ∙ one
both_change false false change x y z apart one two = two ∙ one

-- a change of the second key and then of the first one
pub two_change : (by : TxnName) (change : RowChange) (old mid new : HeldRows) (first second : Key) → same_key first second ≡ false
    → Changes change by old mid second → Changes change by mid new first
    → (q : Key) → new.versions q ≡ cond (list_any (same_key q) (first ∷ second ∷ [])) (changed change by (old.versions q)) (old.versions q)
two_change by change old mid new first second apart one two q =
    both_change (same_key q first) (same_key q second) (changed change by) (old.versions q) (mid.versions q) (new.versions q) (keys_apart first second q apart) (one.versions q) (two.versions q)

-- ---- a write has room

pub row_held : (c : HeldRows) (back : Option Key) (row : Key) → AreHeld c (with_back back row) → c.holds row ≡ true
row_held c None row held = held.0
row_held c (Some back) row held = held.1.0

module _ (c : HeldRows) (row : Key) (there : c.shares row row ≡ true) where
  -- a missing row is wanted in its own cell
  itself : c.has_row row ≡ false → ◌≡◌ {A = ℕ} (cond (not (c.has_row row) && c.shares row row) 1 0) 1
  itself none = λ i. cond (not (none i) && there i) 1 0

  -- the row that is written may be
  pub allows_first : (back : Option Key) → HaveSpare 2 c (with_back back row) → HaveRoom c (with_back back row) → AllowsWrite c row
  allows_first None spare room = record {
    spare = let two = spare row (ap (λ t. t || false) (key_self row)) in omega (arith, two);
    room = λ none. let wants = room row none in let one = itself none in omega (arith, wants, one);
  }
  allows_first (Some back) spare room = record {
    spare = let two = spare row (last (same_key row back)) in omega (arith, two);
    room = λ none. let wants = room row none in let one = itself none in omega (arith, wants, one);
  }
    where
      last : (t : Bool) → (t || (same_key row row || false)) ≡ true
      last true = refl
      last false = ap (λ t. t || false) (key_self row)

-- and then the one that goes the other way
pub allows_second : (by : TxnName) (value : Option ℕ) (old new : HeldRows) (back row : Key) → old.shares back back ≡ true → same_key back row ≡ false
    → HaveSpare 2 old (back ∷ row ∷ []) → HaveRoom old (back ∷ row ∷ []) → Changes (Write value) by old new row → AllowsWrite new back
allows_second by value old new back row there apart spare room change = record {
  spare = let two = spare back (first_key back row) in let used = change.spare back in omega (arith, two, used);
  room = λ none. left (sym (change.others back apart) ∙ none) (old.has_row row) (old.shares back row) refl refl;
}
  where
    left : old.has_row back ≡ false → (h t : Bool) → old.has_row row ≡ h → old.shares back row ≡ t → 0 < new.room back
    left none h t e f =
        let wants = room back none in
        let one : ◌≡◌ {A = ℕ} (cond (not (old.has_row back) && old.shares back back) 1 0) 1 = λ i. cond (not (none i) && there i) 1 0 in
        let other : ◌≡◌ {A = ℕ} (cond (not (old.has_row row) && old.shares back row) 1 0) (cond (not h && t) 1 0) = λ i. cond (not (e i) && f i) 1 0 in
        let less : ◌≡◌ {A = ℕ} (cond (old.shares back row) (cond (old.has_row row) 0 1) 0) (cond t (cond h 0 1) 0) = λ i. cond (f i) (cond (e i) 0 1) 0 in
        let same = alike h t in
        omega (arith, wants, one, other, less, same, change.room back)
      where
        alike : (h t : Bool) → ◌≡◌ {A = ℕ} (cond t (cond h 0 1) 0) (cond (not h && t) 1 0)
        alike true true = refl
        alike true false = refl
        alike false true = refl
        alike false false = refl

-- ---- touches

module _ (by : TxnName) (earlier : Touched) (old mid new : HeldRows) (source target : Key) (apart : same_key target source ≡ false)
    (has_source : old.has_row source ≡ true) (has_target : old.has_row target ≡ true)
    (one : Changes (Touch earlier) by old mid source) (two : Changes (Touch earlier) by mid new target) where
  -- no row comes or goes
  same_rows : (c d : HeldRows) (key : Key) → c.has_row key ≡ true → Changes (Touch earlier) by c d key → (q : Key) (t : Bool) → same_key q key ≡ t → d.has_row q ≡ c.has_row q
  same_rows c d key has change q true e = ap d.has_row (key_eq q key e) ∙ change.stands (omega arith) ∙ sym (ap c.has_row (key_eq q key e) ∙ has)
  same_rows c d key has change q false e = change.others q e

  no_less : (t : Bool) (m n : ℕ) → m ≤ n + cond t 0 0 → m ≤ n
  no_less true m n h = omega (arith, h)
  no_less false m n h = omega (arith, h)

  still : mid.has_row target ≡ true
  still = one.others target apart ∙ has_target

  pub touched_both : (r : WrittenRows) (ends : EndKeys) → r.ends ≡ Some ends → r.touches ≡ true → ends.source ≡ source → ends.target ≡ target → TouchesEnds by r old new
  touched_both r ends e touches s t = record {
    versions = λ q. (rw (touches, e, s, t) (either q));
    rows = λ q. same_rows mid new target still two q (same_key q target) refl ∙ same_rows old mid source has_source one q (same_key q source) refl;
    holds = λ q. two.holds q ∙ one.holds q;
    shares = λ p q. two.shares p q ∙ one.shares p q;
    room = λ q. let h = no_less (old.shares q source) _ _ (one.room q) in let k = no_less (mid.shares q target) _ _ (two.room q) in omega (arith, h, k);
    spare = λ q. let h = one.spare q in let k = two.spare q in omega (arith, h, k);
    weight = omega (arith, one.weight, two.weight);
  }
    where
      swap : (s t : Bool) (x y : StampedVersions) → cond (t || (s || false)) x y ≡ cond (s || (t || false)) x y
      swap true true x y = refl
      swap true false x y = refl
      swap false true x y = refl
      swap false false x y = refl

      either : (q : Key) → new.versions q ≡ cond (same_key q source || (same_key q target || false)) (changed (Touch earlier) by (old.versions q)) (old.versions q)
      either q = two_change by (Touch earlier) old mid new target source apart one two q ∙ swap (same_key q source) (same_key q target) _ _
