-- Rows that are pruned, cell by cell.
use Rattle.std.proofs.Common.{◌≡◌, ℕ, ◌+◌, ◌*◌, ◌<◌, ◌≤◌, List, [], ◌∷◌, length, refl, sym, ◌∙◌, ap, ap₂, cond, arith, inl, inr}
use Rattle.std.specs.Prelude.{◌⊎◌, Bool, true, false, not, Option}
use Rattle.std.specs.List.{filter}
use Rattle.std.proofs.lemmas.Bool.Decides.{nat_tests}
use Rattle.graph_model.specs.declared.row.Key.{Key}
use Rattle.graph_model.specs.declared.journal.TxnName.{TxnName}
use Rattle.graph_model.specs.Rows.{is_below, is_between, end_key, first_key}
use Rattle.store_model.specs.declared.version.Version.{Version}
use Rattle.store_model.specs.declared.versions.Versions.{Versions}
use Rattle.store_model.specs.Versions.{no_versions, first_seen, unseen_front, prune, is_settled}
use Rattle.store_model.specs.Stamped.{Stamped, StampedVersions, forget_row, prune_stamped, stamped_front}
use Rattle.store_model.proofs.StampedLemmas.{prune_forgets}
use Rattle.row_writes.specs.VersionSegment.Rows.{VersionedRows, pruned_rows, is_nothing, versions_at}
use Rattle.row_writes.proofs.VersionSegment.LawLemmas.{keys_pruned}
use Rattle.leaf_store.specs.declared.store.Pruned.{Pruned}
use Rattle.leaf_store.specs.Leaves.{Leaves, AreLeaves, CellsAreApart, cells_of, cell_at, shares, versions_of, contents_of, weight}
use Rattle.leaf_store.specs.Changes.{PrunesCell}
use Rattle.leaf_rows.specs.Readers.{HaveNoStamp, AreUnstamped}
use Rattle.leaf_rows.specs.Laying.{PrunesKeys, PrunesRange}
use Rattle.leaf_rows.proofs.CellLemmas.{cell_sound}
use Rattle.leaf_rows.proofs.KnownLemmas.{unstamped_row}
use Rattle.leaf_rows.proofs.ScanLemmas.{none_beyond}

-- ---- one row

front_none : (seen : Stamped → Bool) (ps : List Stamped) → HaveNoStamp ps → HaveNoStamp (stamped_front seen ps)
front_none seen [] none = tt
front_none seen (p ∷ ps) none = go (seen p) (front_none seen ps none.1)
  where
    go : (t : Bool) → HaveNoStamp (stamped_front seen ps) → HaveNoStamp (cond t [] (p ∷ stamped_front seen ps))
    go true rest = tt
    go false rest = (none.0, rest)

part_none : (p : Stamped → Bool) (ps : List Stamped) → HaveNoStamp ps → HaveNoStamp (filter p ps)
part_none p [] none = tt
part_none p (x ∷ xs) none = go (p x) (part_none p xs none.1)
  where
    go : (t : Bool) → HaveNoStamp (filter p xs) → HaveNoStamp (cond t (x ∷ filter p xs) (filter p xs))
    go true rest = (none.0, rest)
    go false rest = rest

front_twice : (seen : TxnName → Bool) (ps : List Version) → unseen_front seen (unseen_front seen ps) ≡ unseen_front seen ps
front_twice seen [] = refl
front_twice seen (p ∷ ps) = go (seen p.by) refl (front_twice seen ps)
  where
    go : (t : Bool) → seen p.by ≡ t → unseen_front seen (unseen_front seen ps) ≡ unseen_front seen ps
        → unseen_front seen (cond t [] (p ∷ unseen_front seen ps)) ≡ cond t [] (p ∷ unseen_front seen ps)
    go true e rest = refl
    go false e rest = (λ i. cond (e i) [] (p ∷ rest i))

front_unseen : (seen : TxnName → Bool) (ps : List Version) (oldest : Option ℕ) → first_seen seen (unseen_front seen ps) oldest ≡ oldest
front_unseen seen [] oldest = refl
front_unseen seen (p ∷ ps) oldest = go (seen p.by) refl (front_unseen seen ps oldest)
  where
    go : (t : Bool) → seen p.by ≡ t → first_seen seen (unseen_front seen ps) oldest ≡ oldest → first_seen seen (cond t [] (p ∷ unseen_front seen ps)) oldest ≡ oldest
    go true e rest = refl
    go false e rest = (λ i. cond (e i) p.value (first_seen seen (unseen_front seen ps) oldest)) ∙ rest

part_twice : (p : TxnName → Bool) (ns : List TxnName) → filter p (filter p ns) ≡ filter p ns
part_twice p [] = refl
part_twice p (n ∷ ns) = go (p n) refl (part_twice p ns)
  where
    go : (t : Bool) → p n ≡ t → filter p (filter p ns) ≡ filter p ns → filter p (cond t (n ∷ filter p ns) (filter p ns)) ≡ cond t (n ∷ filter p ns) (filter p ns)
    go true e rest = λ i. cond (e i) (n ∷ rest i) (rest i)
    go false e rest = rest

-- a prune of what was pruned changes nothing
prune_twice : (stamps : TxnName → Option ℕ) (horizon : ℕ) (vs : Versions) → prune stamps horizon (prune stamps horizon vs) ≡ prune stamps horizon vs
prune_twice stamps horizon vs = λ i. record {
  pairs = front_twice (is_settled stamps horizon) vs.pairs i;
  oldest = front_unseen (is_settled stamps horizon) vs.pairs (first_seen (is_settled stamps horizon) vs.pairs vs.oldest) i;
  touches = part_twice (λ by. not (is_settled stamps horizon by)) vs.touches i;
}

-- so pruned again it is pruned once
pub prune_once : (stamps : TxnName → Option ℕ) (horizon : ℕ) (x y : Versions) → (x ≡ y) ⊎ (x ≡ prune stamps horizon y) → prune stamps horizon x ≡ prune stamps horizon y
prune_once stamps horizon x y (inl e) = ap (prune stamps horizon) e
prune_once stamps horizon x y (inr e) = ap (prune stamps horizon) e ∙ prune_twice stamps horizon y

-- what may have been pruned and has not changed since may have been pruned
pub or_pruned_still : (stamps : TxnName → Option ℕ) (horizon : ℕ) (x y z : Versions) → x ≡ y → (y ≡ z) ⊎ (y ≡ prune stamps horizon z) → (x ≡ z) ⊎ (x ≡ prune stamps horizon z)
or_pruned_still stamps horizon x y z same (inl e) = inl (same ∙ e)
or_pruned_still stamps horizon x y z same (inr e) = inr (same ∙ e)

-- ---- one cell

module _ (stamps : TxnName → Option ℕ) (horizon : ℕ) (old new : Leaves) (key : Key) (result : Pruned) (sound : AreLeaves old) (apart : CellsAreApart old) (prunes : PrunesCell stamps horizon old new key result) (none : AreUnstamped old) where
  here : (q : Key) → shares old key q ≡ true → versions_of new q ≡ prune_stamped stamps horizon (versions_of old q)
  here q e =
      ap (λ (c : VersionedRows). versions_at c q) (prunes.changes.here q e)
      ∙ keys_pruned stamps horizon (cell_at old key) prunes.cell (cell_sound old key sound) prunes.prunes q
      ∙ ap (λ (c : VersionedRows). prune_stamped stamps horizon (versions_at c q)) (sym (apart key q e))

  there : (q : Key) → shares old key q ≡ false → versions_of new q ≡ versions_of old q
  there q e = ap (λ (c : VersionedRows). versions_at c q) (prunes.changes.others q e)

  pub prunes_keys : PrunesKeys stamps horizon old new key
  prunes_keys = record {
    pruned = λ q e. ap forget_row (here q e) ∙ prune_forgets stamps horizon (versions_of old q) (unstamped_row stamps (versions_of old q) (none.pairs q) (none.touches q));
    others = λ q e. ap forget_row (there q e);
    fences = λ p q. fences p q (shares old key p) refl;
  }
    where
      fences : (p q : Key) (t : Bool) → shares old key p ≡ t → shares new p q ≡ shares old p q
      fences p q true e =
          ap (λ (c : VersionedRows). is_between c.low c.high q) (prunes.changes.here p e)
          ∙ ap₂ (λ l h. is_between l h q) prunes.changes.low prunes.changes.high
          ∙ sym (ap (λ (c : VersionedRows). is_between c.low c.high q) (apart key p e))
      fences p q false e = ap (λ (c : VersionedRows). is_between c.low c.high q) (prunes.changes.others p e)

  pub pruned_unstamped : AreUnstamped new
  pruned_unstamped = record { pairs = λ q. pairs q (shares old key q) refl; touches = λ q. touches q (shares old key q) refl }
    where
      pairs : (q : Key) (t : Bool) → shares old key q ≡ t → HaveNoStamp (versions_of new q).pairs
      pairs q true e = rw (here q e) (front_none _ (versions_of old q).pairs (none.pairs q))
      pairs q false e = rw (there q e) (none.pairs q)

      touches : (q : Key) (t : Bool) → shares old key q ≡ t → HaveNoStamp (versions_of new q).touches
      touches q true e = rw (here q e) (part_none _ (versions_of old q).touches (none.touches q))
      touches q false e = rw (there q e) (none.touches q)

  fewer_rows : (es : List (Key × StampedVersions)) → length (pruned_rows stamps horizon es) ≤ length es
  fewer_rows [] = omega arith
  fewer_rows (e ∷ es) = go (is_nothing (prune_stamped stamps horizon e.1)) (fewer_rows es)
    where
      go : (t : Bool) → length (pruned_rows stamps horizon es) ≤ length es → length (cond t (pruned_rows stamps horizon es) ((e.0, prune_stamped stamps horizon e.1) ∷ pruned_rows stamps horizon es)) ≤ length (e ∷ es)
      go true h = omega (arith, h)
      go false h = omega (arith, h)

  pub pruned_weight : weight new ≤ weight old
  pruned_weight =
      let few : length (prunes.cell).rows ≤ length (cell_at old key).rows = rw prunes.prunes.rows (fewer_rows (cell_at old key).rows) in
      omega (arith, few, prunes.changes.weight)

-- ---- all cells

-- each key below has been pruned, and every other one may have been
pub record HasPruned (stamps : TxnName → Option ℕ) (horizon : ℕ) (old now : Leaves) (key : Key) : Type 0 where
  pub done : (q : Key) → is_below q key ≡ true → contents_of now q ≡ prune stamps horizon (contents_of old q)
  pub each : (q : Key) → (contents_of now q ≡ contents_of old q) ⊎ (contents_of now q ≡ prune stamps horizon (contents_of old q))

pub pruned_none : (stamps : TxnName → Option ℕ) (horizon : ℕ) (old : Leaves) → HasPruned stamps horizon old old first_key
pruned_none stamps horizon old = record { done = λ q e. absurd (first_least q e); each = λ q. inl refl }
  where
    first_least : (q : Key) → is_below q first_key ≡ true → ⊥
    first_least q e = grind (arith, nat_tests)

-- a range more, in which the key is
pub pruned_more : (stamps : TxnName → Option ℕ) (horizon : ℕ) (old now next : Leaves) (key low high : Key) → HasPruned stamps horizon old now key → PrunesRange stamps horizon low high now next
    → is_between low high key ≡ true → HasPruned stamps horizon old next high
pruned_more stamps horizon old now next key low high has prunes holds = record {
  done = λ q e. done q (is_between low high q) refl e;
  each = λ q. each q (is_between low high q) refl;
}
  where
    inside : (q : Key) → is_between low high q ≡ true → contents_of next q ≡ prune stamps horizon (contents_of old q)
    inside q e = prunes.pruned q e ∙ prune_once stamps horizon (contents_of now q) (contents_of old q) (has.each q)

    outside : (q : Key) → is_below q high ≡ true → is_between low high q ≡ false → is_below q key ≡ true
    outside q b c = grind (arith, nat_tests, holds)

    done : (q : Key) (t : Bool) → is_between low high q ≡ t → is_below q high ≡ true → contents_of next q ≡ prune stamps horizon (contents_of old q)
    done q true e below = inside q e
    done q false e below = prunes.others q e ∙ has.done q (outside q below e)

    each : (q : Key) (t : Bool) → is_between low high q ≡ t → (contents_of next q ≡ contents_of old q) ⊎ (contents_of next q ≡ prune stamps horizon (contents_of old q))
    each q true e = inr (inside q e)
    each q false e = or_pruned_still stamps horizon (contents_of next q) (contents_of now q) (contents_of old q) (prunes.others q e) (has.each q)

-- behind the last cell there is nothing to prune
pub pruned_all : (stamps : TxnName → Option ℕ) (horizon : ℕ) (old now : Leaves) (key : Key) → AreLeaves old → HasPruned stamps horizon old now key → is_below key end_key ≡ false
    → (q : Key) → contents_of now q ≡ prune stamps horizon (contents_of old q)
pruned_all stamps horizon old now key sound has at_end q = go (is_below q key) refl
  where
    beyond : is_below q key ≡ false → is_below q end_key ≡ false
    beyond e = grind (arith, nat_tests)

    nothing_there : is_below q key ≡ false → contents_of old q ≡ no_versions
    nothing_there e = ap (λ (c : VersionedRows). forget_row (versions_at c q)) (none_beyond (cells_of old) q sound.segments sound.chained sound.high (beyond e))

    same : (none : contents_of old q ≡ no_versions) → (contents_of now q ≡ contents_of old q) ⊎ (contents_of now q ≡ prune stamps horizon (contents_of old q)) → contents_of now q ≡ prune stamps horizon (contents_of old q)
    same none (inl h) = h ∙ none ∙ ap (prune stamps horizon) (sym none)
    same none (inr h) = h

    go : (t : Bool) → is_below q key ≡ t → contents_of now q ≡ prune stamps horizon (contents_of old q)
    go true e = has.done q e
    go false e = same (nothing_there e) (has.each q)

-- keys as numbers, in their order
abbrev pub rank : Key → ℕ
rank k = k.src * 18446744073709551616 + k.second

pub rank_rises : (a b : Key) → is_below a b ≡ true → a.second < 18446744073709551616 → rank a < rank b
rank_rises a b below fits = go (parts below)
  where
    parts : is_below a b ≡ true → (a.src < b.src) ⊎ ((a.src ≡ b.src) × (a.second < b.second))
    parts e = grind (arith, nat_tests)

    go : (a.src < b.src) ⊎ ((a.src ≡ b.src) × (a.second < b.second)) → rank a < rank b
    go (inl less) = omega (arith, less, fits)
    go (inr same) = let e = same.0 in let l = same.1 in omega (arith, e, l)
