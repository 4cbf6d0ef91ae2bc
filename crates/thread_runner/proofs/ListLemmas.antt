-- Lists of jobs and their engines.
use Rattle.std.proofs.Common.{◌≡◌, ℕ, ◌+◌, ◌<◌, ◌≤◌, List, [], ◌∷◌, ◌++◌, length, take, drop, zero, suc, refl, sym, ◌∙◌, ap, subst, arith, slice_index_or}
use Rattle.std.proofs.lemmas.List.{append-nil}
use Rattle.std.specs.Prelude.{⊤, slice_set, Bool, true, false, ◌||◌, None}
use Rattle.std.specs.List.{AllZip, AllByRecursion}
use Rattle.graph_model.specs.Account.{Account}
use Rattle.job_runner.specs.Progress.{Progress, is_over}
use Rattle.thread_runner.specs.ByAccount.{TurnsBy}
use Rattle.thread_runner.specs.Driving.{IsSeat, HasRun, gave_up, some_gave_up}

pub zip_append : {X Y : Type 0} (R : X → Y → Type 0) (xs : List X) (ys : List Y) (vs : List X) (ws : List Y) → AllZip R xs ys → AllZip R vs ws → AllZip R (xs ++ vs) (ys ++ ws)
zip_append R [] [] vs ws a b = b
zip_append R [] (y ∷ ys) vs ws a b = absurd a
zip_append R (x ∷ xs) [] vs ws a b = absurd a
zip_append R (x ∷ xs) (y ∷ ys) vs ws a b = (a.0, zip_append R xs ys vs ws a.1 b)

pub all_front : {X : Type 0} (P : X → Type 0) (xs ys : List X) → AllByRecursion P (xs ++ ys) → AllByRecursion P xs
all_front P [] ys a = tt
all_front P (x ∷ xs) ys a = (a.0, all_front P xs ys a.1)

pub all_back : {X : Type 0} (P : X → Type 0) (xs ys : List X) → AllByRecursion P (xs ++ ys) → AllByRecursion P ys
all_back P [] ys a = a
all_back P (x ∷ xs) ys a = all_back P xs ys a.1

or_assoc : (a b c : Bool) → (a || (b || c)) ≡ ((a || b) || c)
or_assoc true b c = refl
or_assoc false b c = refl

pub some_append : {E : Type 0} (R : Progress × E → Progress × E → Type 0) (xs ys vs ws : List (Progress × E)) → AllZip R xs ys
    → some_gave_up (xs ++ vs) (ys ++ ws) ≡ (some_gave_up xs ys || some_gave_up vs ws)
some_append R [] [] vs ws a = refl
some_append R [] (y ∷ ys) vs ws a = absurd a
some_append R (x ∷ xs) [] vs ws a = absurd a
some_append R (x ∷ xs) (y ∷ ys) vs ws a = ap (λ b. gave_up x.0 y.0 || b) (some_append R xs ys vs ws a.1) ∙ or_assoc (gave_up x.0 y.0) (some_gave_up xs ys) (some_gave_up vs ws)

-- ---- the first i have run

abbrev pub HaveRun : {E : Type 0} → (E → Account) → ℕ → List (Progress × E) → List (Progress × E) → Type 0
HaveRun account zero xs ys = ys ≡ xs
HaveRun account (suc i) [] [] = ⊤
HaveRun account (suc i) [] (y ∷ ys) = ⊥
HaveRun account (suc i) (x ∷ xs) [] = ⊥
HaveRun account (suc i) (x ∷ xs) (y ∷ ys) = HasRun account x y × HaveRun account i xs ys

abbrev pub some_of_first : {E : Type 0} → ℕ → List (Progress × E) → List (Progress × E) → Bool
some_of_first zero xs ys = false
some_of_first (suc i) [] ys = false
some_of_first (suc i) (x ∷ xs) [] = false
some_of_first (suc i) (x ∷ xs) (y ∷ ys) = gave_up x.0 y.0 || some_of_first i xs ys

pub seat_at : {E : Type 0} (account : E → Account) (i : ℕ) (xs ys : List (Progress × E)) → HaveRun account i xs ys → AllByRecursion (IsSeat account) xs → (y : Progress × E) → y ≡ slice_index_or ys i y → i < length ys → IsSeat account y
seat_at account zero xs [] run all y at lt = absurd (omega (arith, lt))
seat_at account zero [] (z ∷ ys) run all y at lt = cc
seat_at account zero (x ∷ xs) (z ∷ ys) run all y at lt = let same : x ≡ z = cc in subst (IsSeat account) (same ∙ sym at) all.0
seat_at account (suc i) [] [] run all y at lt = absurd (omega (arith, lt))
seat_at account (suc i) [] (z ∷ ys) run all y at lt = absurd run
seat_at account (suc i) (x ∷ xs) [] run all y at lt = absurd run
seat_at account (suc i) (x ∷ xs) (z ∷ ys) run all y at lt = seat_at account i xs ys run.1 all.1 y at (omega (arith, lt))

pub seat_there : {E : Type 0} (account : E → Account) (i : ℕ) (xs ys : List (Progress × E)) → HaveRun account i xs ys → AllByRecursion (IsSeat account) xs → (y : Progress × E) → y ≡ slice_index_or ys i y → i < length ys → IsSeat account (slice_index_or ys i y)
seat_there account i xs ys run all y at lt = subst (IsSeat account) at (seat_at account i xs ys run all y at lt)

pub one_more : {E : Type 0} (account : E → Account) (i : ℕ) (xs ys : List (Progress × E)) → HaveRun account i xs ys → (y z : Progress × E) → y ≡ slice_index_or ys i y → i < length ys → HasRun account y z
    → HaveRun account (suc i) xs (slice_set ys i z) × (some_of_first (suc i) xs (slice_set ys i z) ≡ (some_of_first i xs ys || gave_up y.0 z.0))
one_more account zero xs [] run y z at lt ran = absurd (omega (arith, lt))
one_more account zero [] (v ∷ ys) run y z at lt ran = cc
one_more account zero (x ∷ xs) (v ∷ ys) run y z at lt ran =
    let same : v ≡ x = cc in let rest : ys ≡ xs = cc in
    ((subst (λ w. HasRun account w z) (at ∙ same) ran, rest), or_none (gave_up x.0 z.0) ∙ ap (λ (w : Progress × _). gave_up w.0 z.0) (sym (at ∙ same)))
  where
    or_none : (b : Bool) → (b || false) ≡ b
    or_none true = refl
    or_none false = refl
one_more account (suc i) [] [] run y z at lt ran = absurd (omega (arith, lt))
one_more account (suc i) [] (v ∷ ys) run y z at lt ran = absurd run
one_more account (suc i) (x ∷ xs) [] run y z at lt ran = absurd run
one_more account (suc i) (x ∷ xs) (v ∷ ys) run y z at lt ran =
    let more = one_more account i xs ys run.1 y z at (omega (arith, lt)) ran in
    ((run.0, more.0), ap (λ b. gave_up x.0 v.0 || b) more.1 ∙ or_assoc (gave_up x.0 v.0) (some_of_first i xs ys) (gave_up y.0 z.0))

pub all_run : {E : Type 0} (account : E → Account) (i : ℕ) (xs ys : List (Progress × E)) → HaveRun account i xs ys → length ys ≤ i → AllZip (HasRun account) xs ys × (some_of_first i xs ys ≡ some_gave_up xs ys)
all_run account zero [] [] run le = (tt, refl)
all_run account zero (x ∷ xs) [] run le = cc
all_run account zero xs (y ∷ ys) run le = absurd (omega (arith, le))
all_run account (suc i) [] [] run le = (tt, refl)
all_run account (suc i) [] (y ∷ ys) run le = absurd run
all_run account (suc i) (x ∷ xs) [] run le = absurd run
all_run account (suc i) (x ∷ xs) (y ∷ ys) run le =
    let rest = all_run account i xs ys run.1 (omega (arith, le)) in
    ((run.0, rest.0), ap (λ b. gave_up x.0 y.0 || b) rest.1)

pub one_there : {E : Type 0} (account : E → Account) (i : ℕ) (xs ys : List (Progress × E)) → HaveRun account i xs ys → (y z : Progress × E) → y ≡ slice_index_or ys i y → i < length ys → HasRun account (slice_index_or ys i y) z
    → HaveRun account (i + 1) xs (slice_set ys i z) × (some_of_first (i + 1) xs (slice_set ys i z) ≡ (some_of_first i xs ys || gave_up (slice_index_or ys i y).0 z.0))
one_there account i xs ys run y z at lt ran =
    let one = one_more account i xs ys run y z at lt (subst (λ w. HasRun account w z) (sym at) ran) in
    let next : suc i ≡ i + 1 = omega arith in (
      subst (λ n. HaveRun account n xs (slice_set ys i z)) next one.0,
      ap (λ n. some_of_first n xs (slice_set ys i z)) (sym next) ∙ one.1 ∙ ap (λ (w : Progress × _). some_of_first i xs ys || gave_up w.0 z.0) at,
    )

pub or_true : (b : Bool) → (b || true) ≡ true
or_true true = refl
or_true false = refl

pub or_false : (b : Bool) → (b || false) ≡ b
or_false true = refl
or_false false = refl

-- ---- no transaction stays open

-- whoever is over takes no turn, and its pass stays as it is
stays_there : (n : ℕ) (old new : Account) (job next : Progress) → is_over job ≡ true → TurnsBy n old job next new → new ≡ old
stays_there zero old new job next over is = is.1
stays_there (suc n) old new job next over is = absurd (let no : true ≡ false = sym over ∙ is.3 in cc)

-- a pass without a transaction has none behind its script
closed_behind : {E : Type 0} (account : E → Account) (x y : Progress × E) → HasRun account x y → (account x.1).start ≡ None → (account y.1).start ≡ None
closed_behind {E} account x y run none = by_test (is_over x.0) refl
  where
    by_test : (b : Bool) → is_over x.0 ≡ b → (account y.1).start ≡ None
    by_test false going = run.closed going
    by_test true over = ap (λ (a : Account). a.start) (stays_there run.ran.0 (account x.1) (account y.1) x.0 y.0 over run.ran.1) ∙ none

all_closed : {E : Type 0} (account : E → Account) (xs ys : List (Progress × E)) → AllZip (HasRun account) xs ys → AllByRecursion (λ x. (account x.1).start ≡ None) xs → AllByRecursion (λ x. (account x.1).start ≡ None) ys
all_closed account [] [] ran closed = tt
all_closed account [] (y ∷ ys) ran closed = absurd ran
all_closed account (x ∷ xs) [] ran closed = absurd ran
all_closed account (x ∷ xs) (y ∷ ys) ran closed = (closed_behind account x y ran.0 closed.0, all_closed account xs ys ran.1 closed.1)

-- ---- a vector that lends all of its items

none_behind : {X : Type 0} (n : ℕ) (xs : List X) → length xs ≤ n → drop n xs ≡ []
none_behind zero [] le = refl
none_behind zero (x ∷ xs) le = absurd (omega (arith, le))
none_behind (suc n) [] le = refl
none_behind (suc n) (x ∷ xs) le = none_behind n xs (omega (arith, le))

all_taken : {X : Type 0} (n : ℕ) (xs : List X) → length xs ≤ n → take n xs ≡ xs
all_taken zero [] le = refl
all_taken zero (x ∷ xs) le = absurd (omega (arith, le))
all_taken (suc n) [] le = refl
all_taken (suc n) (x ∷ xs) le = ap (λ ys. x ∷ ys) (all_taken n xs (omega (arith, le)))

as_many : {X Y : Type 0} (R : X → Y → Type 0) (xs : List X) (ys : List Y) → AllZip R xs ys → length xs ≡ length ys
as_many R [] [] all = refl
as_many R [] (y ∷ ys) all = absurd all
as_many R (x ∷ xs) [] all = absurd all
as_many R (x ∷ xs) (y ∷ ys) all = ap suc (as_many R xs ys all.1)

-- jobs that have run are put back as they are
put_back : {X : Type 0} (len : ℕ) (items seats : List X) → length items ≡ length seats → length items ≡ len → take len (seats ++ drop (length seats) items) ≡ seats
put_back len items seats count whole =
    ap (λ zs. take len (seats ++ zs)) (none_behind (length seats) items (omega (arith, count)))
    ∙ ap (take len) (append-nil seats)
    ∙ all_taken len seats (omega (arith, count, whole))

-- and no transaction is open in them
pub lent_closed : {E : Type 0} (account : E → Account) (len : ℕ) (items xs seats : List (Progress × E)) → xs ≡ items → length items ≡ len → AllZip (HasRun account) xs seats
    → AllByRecursion (λ x. (account x.1).start ≡ None) items → AllByRecursion (λ x. (account x.1).start ≡ None) (take len (seats ++ drop (length seats) items))
lent_closed account len items xs seats same whole ran closed =
    let now = subst (λ zs. AllZip (HasRun account) zs seats) same ran in
    subst (λ zs. AllByRecursion (λ x. (account x.1).start ≡ None) zs) (sym (put_back len items seats (as_many (HasRun account) items seats now) whole)) (all_closed account items seats now closed)
