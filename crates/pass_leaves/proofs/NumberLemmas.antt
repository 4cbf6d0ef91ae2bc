-- Numbers of cells: those of a leaf, and lists in which none stands twice.
use Rattle.std.proofs.Common.{◌≡◌, ℕ, zero, suc, ◌+◌, List, [], ◌∷◌, ◌++◌, refl, sym, ◌∙◌, ap, arith, append_assoc}
use Rattle.std.specs.Prelude.{Bool, true, false, not, ◌==◌, ◌||◌, ◌&&◌}
use Rattle.graph_model.proofs.TestLemmas.{eq_symm}
use Rattle.latch_table.specs.declared.cells.Held.{Held}
use Rattle.latch_table.specs.Latched.{is_held, is_once, out_of}
use Rattle.latch_table.specs.Several.{taken_of}
use Rattle.pass_cells.specs.StoreRuleDeclared.slot.StoreSlot.{StoreSlot}
use Rattle.pass_cells.specs.StoreRuleDeclared.slot.StoreSlot.TheVariants as slots
use Rattle.pass_cells.specs.declared.taken.TakenCell.{TakenCell}
use Rattle.pass_cells.specs.Holding.{numbers_of}
use Rattle.pass_cells.specs.Taken.{is_taken}
use Rattle.pass_leaves.specs.Hand.{numbers_from, numbers_held}

-- one number more stands behind the others
pub numbers_more : (from count : ℕ) → numbers_from from (suc count) ≡ numbers_from from count ++ (from + count) ∷ []
numbers_more from zero = ap (λ n. n ∷ []) (omega arith)
numbers_more from (suc count) =
    ap (λ l. from ∷ l) (numbers_more (suc from) count
    ∙ ap (λ n. numbers_from (suc from) count ++ n ∷ []) (omega arith))

-- ---- lists in which none stands twice

or_none : (a b : Bool) → (a || b) ≡ false → (a ≡ false) × (b ≡ false)
or_none true b e = cc
or_none false b e = (refl, e)

or_false : (a b : Bool) → a ≡ false → b ≡ false → (a || b) ≡ false
or_false true b e f = cc
or_false false b e f = f

and_both : (a b : Bool) → (not a && b) ≡ true → (a ≡ false) × (b ≡ true)
and_both true b e = cc
and_both false b e = (refl, e)

and_is : (a b : Bool) → a ≡ false → b ≡ true → (not a && b) ≡ true
and_is true b e f = cc
and_is false b e f = f

or_group : (a b c : Bool) → (a || (b || c)) ≡ ((a || b) || c)
or_group true b c = refl
or_group false b c = refl

or_last : (a b : Bool) → (a || (b || false)) ≡ (b || a)
or_last true true = refl
or_last true false = refl
or_last false true = refl
or_last false false = refl

pub held_append : (k : ℕ) (xs ys : List ℕ) → is_held k (xs ++ ys) ≡ (is_held k xs || is_held k ys)
held_append k [] ys = refl
held_append k (x ∷ xs) ys =
    ap (λ b. (k == x) || b) (held_append k xs ys) ∙ or_group (k == x) (is_held k xs) (is_held k ys)

-- what stands between others is none of those before it
pub once_new : (xs : List ℕ) (k : ℕ) (ys : List ℕ) → is_once (xs ++ k ∷ ys) ≡ true → is_held k xs ≡ false
once_new [] k ys once = refl
once_new (x ∷ xs) k ys once =
    let parts = and_both (is_held x (xs ++ k ∷ ys)) (is_once (xs ++ k ∷ ys)) once in
    let else_where = or_none (is_held x xs) (is_held x (k ∷ ys)) (sym (held_append x xs (k ∷ ys)) ∙ parts.0) in
    let other = or_none (x == k) (is_held x ys) else_where.1 in
    or_false (k == x) (is_held k xs) (eq_symm k x ∙ other.0) (once_new xs k ys parts.1)

once_before : (xs : List ℕ) (k : ℕ) → is_once (xs ++ k ∷ []) ≡ true → is_once xs ≡ true
once_before [] k once = refl
once_before (x ∷ xs) k once =
    let parts = and_both (is_held x (xs ++ k ∷ [])) (is_once (xs ++ k ∷ [])) once in
    let else_where = or_none (is_held x xs) (is_held x (k ∷ [])) (sym (held_append x xs (k ∷ [])) ∙ parts.0) in
    and_is (is_held x xs) (is_once xs) else_where.0 (once_before xs k parts.1)

-- ---- cells in hand

pub taken_held : (k : ℕ) (ts : List TakenCell) → is_taken k ts ≡ is_held k (numbers_of ts)
taken_held k [] = refl
taken_held k (t ∷ ts) = ap (λ b. (k == t.held.cell) || b) (taken_held k ts)

-- ---- slots that are out

out_more : (xs : List (ℕ × StoreSlot)) (k : ℕ) → out_of (xs ++ (k, slots.Out) ∷ []) ≡ out_of xs ++ k ∷ []
out_more [] k = refl
out_more (x ∷ xs) k = ap (λ l. x.0 ∷ l) (out_more xs k)

same_held : (k : ℕ) (hs : List (Held StoreSlot))
    → is_held k (out_of (taken_of slots.Out hs)) ≡ is_held k (numbers_held hs)
same_held k [] = refl
same_held k (h ∷ hs) =
    ap (is_held k) (out_more (taken_of slots.Out hs) h.cell)
    ∙ held_append k (out_of (taken_of slots.Out hs)) (h.cell ∷ [])
    ∙ or_last (is_held k (out_of (taken_of slots.Out hs))) (k == h.cell)
    ∙ ap (λ b. (k == h.cell) || b) (same_held k hs)

-- no cell is taken twice
pub once_taken : (hs : List (Held StoreSlot)) → is_once (out_of (taken_of slots.Out hs)) ≡ true
    → is_once (numbers_held hs) ≡ true
once_taken [] once = refl
once_taken (h ∷ hs) once =
    let split = sym (ap is_once (out_more (taken_of slots.Out hs) h.cell)) ∙ once in
    and_is (is_held h.cell (numbers_held hs)) (is_once (numbers_held hs))
    (sym (same_held h.cell hs) ∙ once_new (out_of (taken_of slots.Out hs)) h.cell [] split)
    (once_taken hs (once_before (out_of (taken_of slots.Out hs)) h.cell split))

-- so many numbers stand behind others, and then one more
pub segments_more : (old mid now : List ℕ) (from count : ℕ) → mid ≡ old ++ numbers_from from count
    → now ≡ mid ++ (from + count) ∷ [] → now ≡ old ++ numbers_from from (count + 1)
segments_more old mid now from count before last =
    let next : suc count ≡ count + 1 = omega arith in
    last ∙ ap (λ l. l ++ (from + count) ∷ []) before ∙ append_assoc old (numbers_from from count) ((from + count) ∷ [])
    ∙ ap (λ l. old ++ l) (sym (numbers_more from count) ∙ ap (numbers_from from) next)
