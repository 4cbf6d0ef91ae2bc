-- Leaves that are put in with a mark.
use Rattle.std.proofs.Common.{◌≡◌, ◌≢◌, ◌⊎◌, inl, inr, ℕ, zero, suc, ◌*◌, ◌<◌, List, [], ◌∷◌, ◌++◌, length, get_or, set, Bool, true, false, refl, ap, subst, arith}
use Rattle.graph_model.specs.declared.row.Key.{Key}
use Rattle.leaf_trie.specs.declared.start.LeafStart.{LeafStart}
use Rattle.leaf_trie.specs.Leaves.{NoneBegins, Inserts}
use Rattle.bench_store.specs.Marked.{IsMarked, AreMarked}

-- a mark that is set stays, and another one is there now
set_keeps : (marks : List Bool) (i j : ℕ) → get_or marks j false ≡ true → get_or (set marks i true) j false ≡ true
set_keeps [] i j h = h
set_keeps (m ∷ ms) zero zero h = refl
set_keeps (m ∷ ms) zero (suc j) h = h
set_keeps (m ∷ ms) (suc i) zero h = h
set_keeps (m ∷ ms) (suc i) (suc j) h = set_keeps ms i j h

set_there : (marks : List Bool) (i : ℕ) → i < length marks → get_or (set marks i true) i false ≡ true
set_there [] i lt = absurd (omega arith)
set_there (m ∷ ms) zero lt = refl
set_there (m ∷ ms) (suc i) lt = set_there ms i (omega arith)

still_marked : (marks : List Bool) (i : ℕ) (s : LeafStart) → IsMarked marks s → IsMarked (set marks i true) s
still_marked marks i s h = record { low = h.low; mark = keep h.mark }
  where
    keep : (s.leaf ≡ 0) ⊎ (get_or marks s.leaf false ≡ true) → (s.leaf ≡ 0) ⊎ (get_or (set marks i true) s.leaf false ≡ true)
    keep (inl first) = inl first
    keep (inr there) = inr (set_keeps marks i s.leaf there)

-- a leaf without its mark begins where none does
pub none_begins : (marks : List Bool) (starts : List LeafStart) (key : Key) (leaf : ℕ) → AreMarked marks starts → 0 < leaf → get_or marks leaf false ≡ false → key.src ≡ leaf * 20 → NoneBegins key starts
none_begins marks [] key leaf h some unset low = tt
none_begins marks (s ∷ ss) key leaf h some unset low = (other h.0.mark, none_begins marks ss key leaf h.1 some unset low)
  where
    other : (s.leaf ≡ 0) ⊎ (get_or marks s.leaf false ≡ true) → s.low ≢ key
    other (inl first) e = let src : s.low.src ≡ key.src = ap (λ (k : Key). k.src) e in absurd (omega (arith, src, h.0.low))
    other (inr there) e =
        let src : s.low.src ≡ key.src = ap (λ (k : Key). k.src) e in
        let same : s.leaf ≡ leaf = omega (arith, src, low, h.0.low) in
        let set_too : get_or marks leaf false ≡ true = subst (λ (n : ℕ). get_or marks n false ≡ true) same there in
        cc

-- with its mark it is among those that have theirs
pub marked_more : (marks : List Bool) (old new : List LeafStart) (start : LeafStart) → AreMarked marks old → Inserts start old new → start.low.src ≡ start.leaf * 20 → start.leaf < length marks
    → AreMarked (set marks start.leaf true) new
marked_more marks old new start h ins low lt = rw ins.is (go ins.front (rw ins.was at h))
  where
    go : (front : List LeafStart) → AreMarked marks (front ++ ins.back) → AreMarked (set marks start.leaf true) (front ++ start ∷ ins.back)
    go [] k = (record { low = low; mark = inr (set_there marks start.leaf lt) }, rest ins.back k)
      where
        rest : (ss : List LeafStart) → AreMarked marks ss → AreMarked (set marks start.leaf true) ss
        rest [] m = tt
        rest (s ∷ ss) m = (still_marked marks start.leaf s m.0, rest ss m.1)
    go (s ∷ ss) k = (still_marked marks start.leaf s k.0, go ss k.1)
