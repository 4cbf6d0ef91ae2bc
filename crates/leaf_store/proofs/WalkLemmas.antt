-- Walks over the leaves in the order of their keys.
use Rattle.std.proofs.Common.{◌≡◌, ℕ, ◌+◌, ◌*◌, ◌<◌, List, [], ◌∷◌, ◌++◌, sym, ◌∙◌, ap, subst, arith, inl, inr}
use Rattle.std.specs.Prelude.{◌⊎◌, true, false}
use Rattle.std.specs.List.{AllByRecursion}
use Rattle.std.proofs.lemmas.Bool.Decides.{nat_tests}
use Rattle.graph_model.specs.declared.row.Key.{Key}
use Rattle.graph_model.specs.Rows.{is_below}
use Rattle.graph_model.proofs.KeyLemmas.{below_self}
use Rattle.leaf_index.specs.Index.{Entry, AreRising, BeginAbove, IsFloor}
use Rattle.leaf_store.proofs.CellLemmas.{clash}

-- entries that rise begin above those before
pub begin_above : (front : List Entry) (e : Entry) (back : List Entry) (low : Key) → BeginAbove low (front ++ e ∷ back) → is_below low e.low ≡ true
begin_above [] e back low above = above.0
begin_above (f ∷ front) e back low above = begin_above front e back low above.1

-- ---- the leaf that begins at a key

pub record FloorIs (x e : Entry) (xs es : List Entry) : Type 0 where
  pub entry : x ≡ e
  pub back : xs ≡ es

pub head_of : (e x : Entry) (es xs : List Entry) → e ∷ es ≡ x ∷ xs → (e ≡ x) × (es ≡ xs)
head_of e x es xs same = (first same, rest same)
  where
    or_e : List Entry → Entry
    or_e [] = e
    or_e (y ∷ ys) = y

    tail : List Entry → List Entry
    tail [] = []
    tail (y ∷ ys) = ys

    first : e ∷ es ≡ x ∷ xs → e ≡ x
    first same = ap or_e same

    rest : e ∷ es ≡ x ∷ xs → es ≡ xs
    rest same = ap tail same

floor_in : (front : List Entry) (e : Entry) (back : List Entry) (others : List Entry) (x : Entry) (rest : List Entry) → AreRising (front ++ e ∷ back) → front ++ e ∷ back ≡ others ++ x ∷ rest → is_below e.low x.low ≡ false → BeginAbove e.low rest → FloorIs x e rest back
floor_in [] e back [] x rest rising same from above = let h = head_of e x back rest same in record { entry = sym h.0; back = sym h.1 }
floor_in [] e back (y ∷ others) x rest rising same from above =
    let h = head_of e y back (others ++ x ∷ rest) same in
    clash (is_below e.low x.low) (begin_above others x rest e.low (subst (BeginAbove e.low) h.1 rising.0)) from
floor_in (f ∷ front) e back [] x rest rising same from above =
    let h = head_of f x (front ++ e ∷ back) rest same in
    clash (is_below e.low e.low) (begin_above front e back e.low (subst (BeginAbove e.low) (sym h.1) above)) (below_self e.low)
floor_in (f ∷ front) e back (y ∷ others) x rest rising same from above =
    floor_in front e back others x rest rising.1 (head_of f y (front ++ e ∷ back) (others ++ x ∷ rest) same).1 from above

pub floor_here : (entries : List Entry) (front : List Entry) (e : Entry) (back : List Entry) (key : Key) (x : Entry) → entries ≡ front ++ e ∷ back → key ≡ e.low → AreRising entries → (f : IsFloor key entries x) → FloorIs x e f.back back
floor_here entries front e back key x is at rising f =
    floor_in front e back f.front x f.back (subst AreRising is rising) (sym is ∙ f.is) (subst (λ k. is_below k x.low ≡ false) at f.from) (subst (λ k. AllByRecursion (λ (y : Entry). is_below k y.low ≡ true) f.back) at f.above)

-- ---- keys as numbers, in their order

abbrev pub rank : Key → ℕ
rank k = k.src * 18446744073709551616 + k.second

pub rank_rises : (a b : Key) → is_below a b ≡ true → a.second < 18446744073709551616 → rank a < rank b
rank_rises a b below fits = go (parts below)
  where
    parts : is_below a b ≡ true → (a.src < b.src) ⊎ ((a.src ≡ b.src) × (a.second < b.second))
    parts e = grind (arith, nat_tests)

    go : (a.src < b.src) ⊎ ((a.src ≡ b.src) × (a.second < b.second)) → rank a < rank b
    go (inl less) = omega (arith, less, fits)
    go (inr same) = let e = same.0 in let l = same.1 in omega (arith, e, l)
