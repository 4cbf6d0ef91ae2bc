-- A range of keys of which the cells are pruned, one after the other.
use Rattle.std.proofs.Common.{◌≡◌, ℕ, ◌+◌, ◌-◌, refl, sym, ◌∙◌, arith, inl, inr}
use Rattle.std.specs.Prelude.{◌⊎◌, ◌^◌, Bool, true, false, min, Option}
use Rattle.std.proofs.lemmas.Bool.Decides.{nat_tests}
use Rattle.graph_model.specs.declared.row.Key.{Key}
use Rattle.graph_model.specs.declared.journal.TxnName.{TxnName}
use Rattle.graph_model.specs.Rows.{is_below, is_between}
use Rattle.graph_model.proofs.KeyLemmas.{below_self, below_up, between_of, between_parts, not_below_chain}
use Rattle.store_model.specs.Versions.{prune}
use Rattle.leaf_store.specs.Leaves.{Leaves, HasWholeCells, cell_at, contents_of, record_count, shares}
use Rattle.leaf_rows.specs.Laying.{AreGone, PrunesKeys, PrunesRange}
use Rattle.leaf_rows.proofs.SettleLemmas.{or_pruned_still, prune_once}

-- the keys of the range that are below this one have been pruned, all of it may have been, and no others have
pub record IsPrunedTo (stamps : TxnName → Option ℕ) (horizon : ℕ) (low high : Key) (old now : Leaves) (key : Key) : Type 0 where
  pub from : is_below key low ≡ false
  pub done : (q : Key) → is_between low key q ≡ true → contents_of now q ≡ prune stamps horizon (contents_of old q)
  pub each : (q : Key) → (contents_of now q ≡ contents_of old q) ⊎ (contents_of now q ≡ prune stamps horizon (contents_of old q))
  pub others : (q : Key) → is_between low high q ≡ false → contents_of now q ≡ contents_of old q
  pub fences : (p q : Key) → shares now p q ≡ shares old p q

none_between : {X : Type 0} (low q : Key) → is_between low low q ≡ true → X
none_between low q e = grind (arith, nat_tests)

pub nothing_pruned : (stamps : TxnName → Option ℕ) (horizon : ℕ) (low high : Key) (old : Leaves) → IsPrunedTo stamps horizon low high old old low
nothing_pruned stamps horizon low high old = record {
  from = below_self low;
  done = λ q e. none_between low q e;
  each = λ q. inl refl;
  others = λ q e. refl;
  fences = λ p q. refl;
}

module _ (stamps : TxnName → Option ℕ) (horizon : ℕ) (low high : Key) (old now next : Leaves) (key end : Key) (was : IsPrunedTo stamps horizon low high old now key) (prunes : PrunesKeys stamps horizon now next key)
    (is : end ≡ (cell_at now key).high) (held : shares now key key ≡ true) (whole : HasWholeCells old low high) (below : is_below key high ≡ true) where
  inside : (q : Key) → shares now key q ≡ true → contents_of next q ≡ prune stamps horizon (contents_of old q)
  inside q e = prunes.pruned q e ∙ prune_once stamps horizon (contents_of now q) (contents_of old q) (was.each q)

  -- a key of the range below the cell's end is in the cell, or below it
  before : (first top q : Key) → is_between first top key ≡ true → is_between low top q ≡ true → is_between first top q ≡ false → is_between low key q ≡ true
  before first top q at within out =
      let p = between_parts low top q within in
      between_of low key q p.0 (below_up q first key (by_test (is_below q first) refl p.1) (between_parts first top key at).0)
    where
      by_test : (t : Bool) → is_below q first ≡ t → is_below q top ≡ true → is_below q first ≡ true
      by_test true e below = e
      by_test false e below = let clash : true ≡ false = sym (between_of first top q e below) ∙ out in cc

  -- the cell is within the range
  in_range : (q : Key) → shares now key q ≡ true → is_between low high q ≡ true
  in_range q e = whole key q (between_of low high key was.from below) (sym (was.fences key q) ∙ e)

  out_of_cell : (q : Key) → is_between low high q ≡ false → (t : Bool) → shares now key q ≡ t → shares now key q ≡ false
  out_of_cell q out true e = let clash : true ≡ false = sym (in_range q e) ∙ out in cc
  out_of_cell q out false e = e

  done : (q : Key) (t : Bool) → shares now key q ≡ t → is_between low (cell_at now key).high q ≡ true → contents_of next q ≡ prune stamps horizon (contents_of old q)
  done q true e within = inside q e
  done q false e within = prunes.others q e ∙ was.done q (before (cell_at now key).low (cell_at now key).high q held within e)

  each : (q : Key) (t : Bool) → shares now key q ≡ t → (contents_of next q ≡ contents_of old q) ⊎ (contents_of next q ≡ prune stamps horizon (contents_of old q))
  each q true e = inr (inside q e)
  each q false e = or_pruned_still stamps horizon (contents_of next q) (contents_of now q) (contents_of old q) (prunes.others q e) (was.each q)

  pub pruned_further : IsPrunedTo stamps horizon low high old next end
  pruned_further = record {
    from = rw is (not_below_chain key (cell_at now key).high low was.from (between_parts (cell_at now key).low (cell_at now key).high key held).1);
    done = λ q e. done q (shares now key q) refl (rw is at e);
    each = λ q. each q (shares now key q) refl;
    others = λ q out. prunes.others q (out_of_cell q out (shares now key q) refl) ∙ was.others q out;
    fences = λ p q. prunes.fences p q ∙ was.fences p q;
  }

-- where the range is behind, all of it has been pruned
pub range_pruned : (stamps : TxnName → Option ℕ) (horizon : ℕ) (low high : Key) (old now : Leaves) (key : Key) → IsPrunedTo stamps horizon low high old now key → is_below key high ≡ false → PrunesRange stamps horizon low high old now
range_pruned stamps horizon low high old now key is at_end = record {
  pruned = λ q e. is.done q (further q e);
  others = is.others;
}
  where
    further : (q : Key) → is_between low high q ≡ true → is_between low key q ≡ true
    further q e = let p = between_parts low high q e in between_of low key q p.0 (below_up q high key p.1 at_end)

-- ---- records that went

pub none_gone : (s : Leaves) → AreGone 0 s s
none_gone s = record { count = omega arith; fewer = omega arith }

pub more_gone : (records more all : ℕ) (old now next : Leaves) → AreGone records old now → more + record_count next ≡ record_count now → all ≡ min (records + more) (2 ^ 64 - 1) → AreGone all old next
more_gone records more all old now next gone went sum = record {
  count = let count = gone.count in let fewer = gone.fewer in omega (arith, count, fewer, went, sum);
  fewer = let fewer = gone.fewer in omega (arith, fewer, went);
}
