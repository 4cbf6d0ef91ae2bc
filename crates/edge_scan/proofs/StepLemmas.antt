-- How the rows of a range are cut, and what that says of scans.
use Rattle.std.proofs.Common.{◌≡◌, ℕ, zero, suc, ◌+◌, ◌-◌, ◌≤◌, ◌<◌, List, [], ◌∷◌, ◌++◌, take, drop, length, refl, sym, ◌∙◌, ap, subst, arith, inl, inr}
use Rattle.std.specs.Prelude.{◌⊎◌, Bool, true, false, cond, not, ◌==◌, Some, slice_get}
use Rattle.std.proofs.lemmas.Bool.Decides.{nat_tests}
use Rattle.std.proofs.lemmas.List.{take_at, drop_at}
use Rattle.std.proofs.lemmas.Option.{slice_get_within}
use Rattle.graph_model.specs.declared.row.Key.{Key}
use Rattle.graph_model.specs.declared.row.Row.{Row}
use Rattle.graph_model.specs.declared.row.Cursor.{Cursor}
use Rattle.graph_model.specs.Graph.{Graph}
use Rattle.graph_model.specs.Rows.{is_below, is_between, rows}
use Rattle.graph_model.specs.Scans.{rows_left, ScansBy}
use Rattle.graph_model.proofs.RowLemmas.{rows_rise_between, row_is_between, ranges_adjoin}
use Rattle.edge_scan.specs.Steps.{IsUnderWay, end_of}

-- of two numbers one is less, or they are the same
compare : (m n : ℕ) → (m ≡ n) ⊎ ((n < m) ⊎ (m < n))
compare zero zero = inl refl
compare zero (suc n) = inr (inr (omega (arith)))
compare (suc m) zero = inr (inl (omega (arith)))
compare (suc m) (suc n) = lift (compare m n)
  where
    lift : (m ≡ n) ⊎ ((n < m) ⊎ (m < n)) → (suc m ≡ suc n) ⊎ ((suc n < suc m) ⊎ (suc m < suc n))
    lift (inl same) = inl (ap suc same)
    lift (inr (inl less)) = inr (inl (omega (arith, less)))
    lift (inr (inr more)) = inr (inr (omega (arith, more)))

-- an element of two lists stands in the first or in the second
get_in_front : {X : Type 0} (xs ys : List X) (i : ℕ) → i < length xs → slice_get (xs ++ ys) i ≡ slice_get xs i
get_in_front [] ys i within = absurd (omega (arith, within))
get_in_front (x ∷ xs) ys zero within = refl
get_in_front (x ∷ xs) ys (suc i) within = get_in_front xs ys i (omega (arith, within))

get_behind : {X : Type 0} (xs ys : List X) (i j : ℕ) → i ≡ length xs + j → slice_get (xs ++ ys) i ≡ slice_get ys j
get_behind [] ys i j is = ap (slice_get ys) (omega (arith, is))
get_behind (x ∷ xs) ys zero j is = absurd (omega (arith, is))
get_behind (x ∷ xs) ys (suc i) j is = get_behind xs ys i j (omega (arith, is))

first_of : {X : Type 0} (xs : List X) (j : ℕ) (y : X) → slice_get xs j ≡ Some y → (x : X) × (slice_get xs 0 ≡ Some x)
first_of [] j y at = absurd (omega (arith, slice_get_within [] j y at))
first_of (x ∷ xs) j y at = (x, refl)

not_below_self : (k : Key) → is_below k k ≡ false
not_below_self k = grind (arith, nat_tests)

between_from : (from until k : Key) → is_between from until k ≡ true → is_below k from ≡ false
between_from from until k e = grind (arith, nat_tests)

between_until : (from until k : Key) → is_between from until k ≡ true → is_below k until ≡ true
between_until from until k e = grind (arith, nat_tests)

below_behind : (a b : Key) → is_below a b ≡ true → is_below b a ≡ false
below_behind a b e = grind (arith, nat_tests)

-- ---- the rows of a range, cut before one of them

module _ (g : Graph) (from until : Key) (i : ℕ) (r : Row) (at : slice_get (rows g from until) i ≡ Some r) where
  in_range : is_between from until r.key ≡ true
  in_range = (row_is_between g from until i r at).0

  parts : rows g from r.key ++ rows g r.key until ≡ rows g from until
  parts = ranges_adjoin g from r.key until (between_from from until r.key in_range) (below_behind r.key until (between_until from until r.key in_range))

  -- a row before the cut would have a key below its own
  not_in_front : i < length (rows g from r.key) → ⊥
  not_in_front within =
      let here = sym (get_in_front (rows g from r.key) (rows g r.key until) i within) ∙ ap (λ xs. slice_get xs i) parts ∙ at in
      clash (row_is_between g from r.key i r here).0
    where
      clash : is_between from r.key r.key ≡ true → ⊥
      clash e = grind (arith, nat_tests)

  -- a row behind the first one of the rest would have a key above it
  not_later : (j : ℕ) → i ≡ length (rows g from r.key) + suc j → ⊥
  not_later j is = clash rise (row_is_between g r.key until 0 s.0 s.1).0
    where
      here : slice_get (rows g r.key until) (suc j) ≡ Some r
      here = sym (get_behind (rows g from r.key) (rows g r.key until) i (suc j) is) ∙ ap (λ xs. slice_get xs i) parts ∙ at

      s : (x : Row) × (slice_get (rows g r.key until) 0 ≡ Some x)
      s = first_of (rows g r.key until) (suc j) r here

      rise : is_below s.0.key r.key ≡ true
      rise = rows_rise_between g r.key until 0 (suc j) s.0 r (omega (arith)) s.1 here

      clash : is_below s.0.key r.key ≡ true → is_between r.key until s.0.key ≡ true → ⊥
      clash below in_it = grind (arith, nat_tests)

  cut_at : length (rows g from r.key) ≡ i
  cut_at = place (length (rows g from r.key)) not_in_front not_later
    where
      place : (n : ℕ) → (i < n → ⊥) → ((j : ℕ) → i ≡ n + suc j → ⊥) → n ≡ i
      place n before behind = by_cases (compare n i)
        where
          by_cases : (n ≡ i) ⊎ ((i < n) ⊎ (n < i)) → n ≡ i
          by_cases (inl same) = same
          by_cases (inr (inl less)) = absurd (before less)
          by_cases (inr (inr more)) = absurd (behind (i - suc n) (omega (arith, more)))

  -- the rows from its key on are those that stand from its place on
  pub rows_from_key : rows g r.key until ≡ drop i (rows g from until)
  rows_from_key = sym (ap (drop i) (sym parts) ∙ drop_at (rows g from r.key) (rows g r.key until) i cut_at)

-- ---- scans

none_between : (g : Graph) (from until : Key) → is_below from until ≡ false → rows g from until ≡ []
none_between g from until apart = nothing (rows g from until) refl
  where
    clash : (k : Key) → is_between from until k ≡ true → ⊥
    clash k e = grind (arith, nat_tests)

    nothing : (rs : List Row) → rows g from until ≡ rs → rs ≡ []
    nothing [] is = refl
    nothing (r ∷ rs) is = absurd (clash r.key (row_is_between g from until 0 r (ap (λ xs. slice_get xs 0) is)).0)

-- where no key is left, nothing is
pub no_key_is_left : (g : Graph) (first now : Cursor) (given : List Row) → is_below now.next now.until ≡ false
    → length given < 64 → IsUnderWay g first now given → IsUnderWay g first (record now { done = true }) given
no_key_is_left g first now given apart few under_way = record {
  until = under_way.until;
  kept = under_way.kept;
  ended = λ _. (none_between g now.next now.until apart, few);
}

app_none : {X : Type 0} (xs : List X) → xs ++ [] ≡ xs
app_none [] = refl
app_none (x ∷ xs) = ap (λ ys. x ∷ ys) (app_none xs)

take_whole : {X : Type 0} (n : ℕ) (xs : List X) → length xs ≤ n → take n xs ≡ xs
take_whole zero [] few = refl
take_whole (suc n) [] few = refl
take_whole zero (x ∷ xs) few = absurd (omega (arith, few))
take_whole (suc n) (x ∷ xs) few = ap (λ ys. x ∷ ys) (take_whole n xs (omega (arith, few)))

never : {X : Type 0} → true ≡ false → X
never e = cc

-- a scan that is done, or whose buffer is full, has given the next portion
pub steps_are_a_scan : (g : Graph) (first now : Cursor) (given : List Row) → IsUnderWay g first now given
    → (now.done ≡ true) ⊎ ((now.done ≡ false) × (length given ≡ 64)) → ScansBy g first now given
steps_are_a_scan g first now given under_way (inl done) = record {
  gave = sym (ap (take 64) whole ∙ take_whole 64 given (omega (arith, few)));
  until = under_way.until;
  ended = λ _. few;
  goes_on = λ going. never (sym done ∙ going);
}
  where
    few : length given < 64
    few = (under_way.ended done).1

    whole : rows_left g first ≡ given
    whole = sym under_way.kept ∙ ap (λ xs. given ++ xs) (under_way.ended done).0 ∙ app_none given
steps_are_a_scan g first now given under_way (inr full) = record {
  gave = sym (ap (take 64) (sym under_way.kept) ∙ take_at given (rows_left g now) 64 full.1);
  until = under_way.until;
  ended = λ done. never (sym done ∙ full.0);
  goes_on = λ _. (full.1, under_way.kept);
}

-- ---- a step

app_assoc : {X : Type 0} (xs ys zs : List X) → (xs ++ ys) ++ zs ≡ xs ++ (ys ++ zs)
app_assoc [] ys zs = refl
app_assoc (x ∷ xs) ys zs = ap (λ ws. x ∷ ws) (app_assoc xs ys zs)

take_drop : {X : Type 0} (n : ℕ) (xs : List X) → take n xs ++ drop n xs ≡ xs
take_drop zero xs = refl
take_drop (suc n) [] = refl
take_drop (suc n) (x ∷ xs) = ap (λ ys. x ∷ ys) (take_drop n xs)

-- a cell's end isn't behind the scan's, where the lesser of the two is taken
end_within : (high : Key) (cursor : Cursor) → is_below cursor.until (end_of high cursor) ≡ false
end_within high cursor = within (is_below high cursor.until) refl
  where
    within : (b : Bool) → is_below high cursor.until ≡ b → is_below cursor.until (cond b high cursor.until) ≡ false
    within true before = below_behind high cursor.until before
    within false before = not_below_self cursor.until

module _ (g : Graph) (first old : Cursor) (before : List Row) (under_way : IsUnderWay g first old before) where
  -- rows that stand first among those that are left are taken
  takes : (next : Key) (done : Bool) (taken : List Row) → rows_left g old ≡ taken ++ rows g next old.until
      → (done ≡ true → (rows g next old.until ≡ []) × (length (before ++ taken) < 64))
      → IsUnderWay g first (record { next = next; until = old.until; done = done }) (before ++ taken)
  takes next done taken is ended = record {
    until = under_way.until;
    kept = app_assoc before taken (rows g next old.until) ∙ ap (λ xs. before ++ xs) (sym is) ∙ under_way.kept;
    ended = ended;
  }

  module _ (high : Key) (run : List Row) (ahead : is_below old.next (end_of high old) ≡ true) (is : run ≡ rows g old.next (end_of high old)) where
    whole : rows_left g old ≡ run ++ rows g (end_of high old) old.until
    whole = sym (ranges_adjoin g old.next (end_of high old) old.until (below_behind old.next (end_of high old) ahead) (end_within high old)) ∙ ap (λ xs. xs ++ rows g (end_of high old) old.until) (sym is)

    -- some rows of the run are left
    pub step_pauses : (i : ℕ) (r : Row) (after : List Row) → slice_get run i ≡ Some r → old.done ≡ false → after ≡ before ++ take i run
        → IsUnderWay g first (record { next = r.key; until = old.until; done = old.done }) after
    step_pauses i r after at going given = subst (IsUnderWay g first (record { next = r.key; until = old.until; done = old.done })) (sym given) (takes r.key old.done (take i run) split (λ done. never (sym done ∙ going)))
      where
        here : slice_get (rows g old.next (end_of high old)) i ≡ Some r
        here = ap (λ xs. slice_get xs i) (sym is) ∙ at

        in_it : is_between old.next (end_of high old) r.key ≡ true
        in_it = (row_is_between g old.next (end_of high old) i r here).0

        rest : drop i run ≡ rows g r.key (end_of high old)
        rest = ap (drop i) is ∙ sym (rows_from_key g old.next (end_of high old) i r here)

        split : rows_left g old ≡ take i run ++ rows g r.key old.until
        split =
            whole ∙ ap (λ xs. xs ++ rows g (end_of high old) old.until) (sym (take_drop i run) ∙ ap (λ xs. take i run ++ xs) rest)
            ∙ app_assoc (take i run) (rows g r.key (end_of high old)) (rows g (end_of high old) old.until)
            ∙ ap (λ xs. take i run ++ xs) (ranges_adjoin g r.key (end_of high old) old.until
            (below_behind r.key (end_of high old) (between_until old.next (end_of high old) r.key in_it)) (end_within high old))

    -- the run is taken, and the scan goes on behind it
    pub step_goes_on : (after : List Row) → is_below high old.until ≡ true → old.done ≡ false → after ≡ before ++ run
        → IsUnderWay g first (record { next = high; until = old.until; done = old.done }) after
    step_goes_on after more going given = subst (IsUnderWay g first (record { next = high; until = old.until; done = old.done })) (sym given) (takes high old.done run (subst (λ b. rows_left g old ≡ run ++ rows g (cond b high old.until) old.until) more whole) (λ done. never (sym done ∙ going)))

    -- the run is taken, and it was the last
    pub step_ends : (after : List Row) (full : Bool) → is_below high old.until ≡ false → full ≡ (length after == 64) → length after ≤ 64 → after ≡ before ++ run
        → IsUnderWay g first (record { next = old.until; until = old.until; done = not full }) after
    step_ends after full last is_full few given =
        subst (IsUnderWay g first (record { next = old.until; until = old.until; done = not full })) (sym given) (takes old.until (not full) run (subst (λ b. rows_left g old ≡ run ++ rows g (cond b high old.until) old.until) last whole)
        (λ done. (none_between g old.until old.until (not_below_self old.until), less (length (before ++ run)) full (is_full ∙ ap (λ xs. length xs == 64) given) (subst (λ xs. length xs ≤ 64) given few) done)))
      where
        less : (n : ℕ) (b : Bool) → b ≡ (n == 64) → n ≤ 64 → not b ≡ true → n < 64
        less n b e few done = grind (arith, nat_tests)
