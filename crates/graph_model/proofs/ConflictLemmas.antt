-- The least job of names, the greatest of stamps, and what the cause of a conflict says.
use Rattle.std.proofs.Common.{◌≡◌, ℕ, zero, suc, ◌<◌, ◌≤◌, List, [], ◌∷◌, map, refl, sym, ◌∙◌, ap, subst, cond, arith, inl, inr}
use Rattle.std.specs.Prelude.{◌⊎◌, Bool, true, false, ◌&&◌, not, nat_le, nat_lt, slice_get, Option, Some, None}
use Rattle.std.specs.List.{filter}
use Rattle.std.proofs.lemmas.Bool.{false_from_ne_true, true≢false}
use Rattle.std.proofs.lemmas.Bool.Decides.{nat_tests}
use Rattle.graph_model.specs.declared.write.Kind.{Kind}
use Rattle.graph_model.specs.declared.write.Write.{Write}
use Rattle.graph_model.specs.declared.journal.Commit.{Commit}
use Rattle.graph_model.specs.declared.journal.TxnName.{TxnName}
use Rattle.graph_model.specs.declared.refusal.Cause.TheVariants.{Later, Holder}
use Rattle.graph_model.specs.Conflict.{meets, later, OpenTxn, same_name, with_lesser_job, least_job, holder, with_greater, greatest, newest_later, cause_of, conflict}
use Rattle.graph_model.specs.ConflictLaws.{NoHolder, NoLater, IsHolder, IsLater}
use Rattle.graph_model.proofs.TestLemmas.{both_of}

some_is : {X : Type 0} (x y : X) → ◌≡◌ {A = Option X} (Some x) (Some y) → x ≡ y
some_is x y e = cc

-- ---- the least job

-- of two names the one with the lesser job is kept
lesser : (a b : TxnName) → ((with_lesser_job a (Some b) ≡ a) × (a.job ≤ b.job)) ⊎ ((with_lesser_job a (Some b) ≡ b) × (b.job ≤ a.job))
lesser a b = elim (nat_le a.job b.job) as (λ t. nat_le a.job b.job ≡ t → ((cond t a b ≡ a) × (a.job ≤ b.job)) ⊎ ((cond t a b ≡ b) × (b.job ≤ a.job))) [
  | true ↦ λ h. let le : a.job ≤ b.job = grind (arith, nat_tests) in inl (refl, le)
  | false ↦ λ h. let le : b.job ≤ a.job = grind (arith, nat_tests) in inr (refl, le)
] refl

-- where there is a name there is a least one
pub least_none : (names : List TxnName) → least_job names ≡ None → (i : ℕ) (n : TxnName) → slice_get names i ≡ Some n → ⊥
least_none [] e i n at = cc
least_none (a ∷ names) e i n at = cc

-- it is one of them
pub least_in : (names : List TxnName) (b : TxnName) → least_job names ≡ Some b → (i : ℕ) × (slice_get names i ≡ Some b)
least_in [] b e = cc
least_in (a ∷ names) b e = by_rest (least_in names) (least_job names) refl (some_is _ b e)
  where
    by_rest : ((c : TxnName) → least_job names ≡ Some c → (i : ℕ) × (slice_get names i ≡ Some c)) → (x : Option TxnName) → least_job names ≡ x → with_lesser_job a x ≡ b → (i : ℕ) × (slice_get (a ∷ names) i ≡ Some b)
    by_rest in_rest None f g = (0, ap Some g)
    by_rest in_rest (Some c) f g = elim (lesser a c) as (λ _. (i : ℕ) × (slice_get (a ∷ names) i ≡ Some b)) [
      | inl p ↦ (0, ap Some (sym p.0 ∙ g))
      | inr p ↦ let r = in_rest c f in (suc r.0, r.1 ∙ ap Some (sym p.0 ∙ g))
    ]

-- and none of them has a lesser job
pub least_le : (names : List TxnName) (b : TxnName) → least_job names ≡ Some b → (i : ℕ) (n : TxnName) → slice_get names i ≡ Some n → b.job ≤ n.job
least_le [] b e i n at = cc
least_le (a ∷ names) b e i n at = by_rest (λ c f j h. least_le names c f j n h) (least_job names) refl (some_is _ b e) i at
  where
    by_rest : ((c : TxnName) → least_job names ≡ Some c → (j : ℕ) → slice_get names j ≡ Some n → c.job ≤ n.job) → (x : Option TxnName) → least_job names ≡ x → with_lesser_job a x ≡ b → (i : ℕ) → slice_get (a ∷ names) i ≡ Some n → b.job ≤ n.job
    by_rest rest None f g zero h = subst (λ (q : TxnName). q.job ≤ n.job) (sym (some_is a n h) ∙ g) (omega arith)
    by_rest rest None f g (suc j) h = absurd (least_none names f j n h)
    by_rest rest (Some c) f g j h = elim (lesser a c) as (λ _. b.job ≤ n.job) [
      | inl p ↦ subst (λ (q : TxnName). q.job ≤ n.job) (sym p.0 ∙ g) (by_place a (omega arith) (λ k l. let le : c.job ≤ n.job = rest c f k l in omega (arith, le, p.1)) j h)
      | inr p ↦ subst (λ (q : TxnName). q.job ≤ n.job) (sym p.0 ∙ g) (by_place c p.1 (rest c f) j h)
    ]
      where
        by_place : (x : TxnName) → x.job ≤ a.job → ((k : ℕ) → slice_get names k ≡ Some n → x.job ≤ n.job) → (j : ℕ) → slice_get (a ∷ names) j ≡ Some n → x.job ≤ n.job
        by_place x le in_rest zero h = let same : a ≡ n = some_is a n h in subst (λ (q : TxnName). x.job ≤ q.job) same le
        by_place x le in_rest (suc k) h = in_rest k h

-- ---- the greatest stamp

-- of two numbers the greater is kept
greater : (a b : ℕ) → (a ≤ with_greater a (Some b)) × (b ≤ with_greater a (Some b)) × ((with_greater a (Some b) ≡ a) ⊎ (with_greater a (Some b) ≡ b))
greater a b = elim (nat_le a b) as (λ t. nat_le a b ≡ t → (a ≤ cond t b a) × (b ≤ cond t b a) × ((cond t b a ≡ a) ⊎ (cond t b a ≡ b))) [
  | true ↦ λ h. let le : a ≤ b = grind (arith, nat_tests) in (le, omega arith, inr refl)
  | false ↦ λ h. let le : b ≤ a = grind (arith, nat_tests) in (omega arith, le, inl refl)
] refl

-- where there is a number there is a greatest one
pub greatest_none : (xs : List ℕ) → greatest xs ≡ None → (i x : ℕ) → slice_get xs i ≡ Some x → ⊥
greatest_none [] e i x at = cc
greatest_none (y ∷ xs) e i x at = cc

-- it is one of them
pub greatest_in : (xs : List ℕ) (m : ℕ) → greatest xs ≡ Some m → (i : ℕ) × (slice_get xs i ≡ Some m)
greatest_in [] m e = cc
greatest_in (x ∷ xs) m e = by_rest (greatest_in xs) (greatest xs) refl (some_is _ m e)
  where
    by_rest : ((b : ℕ) → greatest xs ≡ Some b → (i : ℕ) × (slice_get xs i ≡ Some b)) → (g : Option ℕ) → greatest xs ≡ g → with_greater x g ≡ m → (i : ℕ) × (slice_get (x ∷ xs) i ≡ Some m)
    by_rest in_rest None f h = (0, ap Some h)
    by_rest in_rest (Some b) f h = elim ((greater x b).2) as (λ _. (i : ℕ) × (slice_get (x ∷ xs) i ≡ Some m)) [
      | inl p ↦ (0, ap Some (sym p ∙ h))
      | inr p ↦ let r = in_rest b f in (suc r.0, r.1 ∙ ap Some (sym p ∙ h))
    ]

-- and none of them is greater
pub greatest_ge : (xs : List ℕ) (m : ℕ) → greatest xs ≡ Some m → (i x : ℕ) → slice_get xs i ≡ Some x → x ≤ m
greatest_ge [] m e i x at = cc
greatest_ge (y ∷ xs) m e i x at = by_rest (λ b f j h. greatest_ge xs b f j x h) (greatest xs) refl (some_is _ m e) i at
  where
    by_rest : ((b : ℕ) → greatest xs ≡ Some b → (j : ℕ) → slice_get xs j ≡ Some x → x ≤ b) → (g : Option ℕ) → greatest xs ≡ g → with_greater y g ≡ m → (i : ℕ) → slice_get (y ∷ xs) i ≡ Some x → x ≤ m
    by_rest rest None f h zero at' = let same : y ≡ x = some_is y x at' in let is : y ≡ m = h in omega arith
    by_rest rest None f h (suc j) at' = absurd (greatest_none xs f j x at')
    by_rest rest (Some b) f h zero at' = let same : y ≡ x = some_is y x at' in let le = (greater y b).0 in omega (arith, le, h)
    by_rest rest (Some b) f h (suc j) at' = let le = (greater y b).1 in let below : x ≤ b = rest b f j at' in omega (arith, le, h)

-- ---- members of a filtered list

-- what stands among the images of those that pass a test is the image of one that passes
pub in_filtered : {X Y : Type 0} (f : X → Y) (p : X → Bool) (xs : List X) (i : ℕ) (y : Y) → slice_get (map f (filter p xs)) i ≡ Some y → (j : ℕ) × (x : X) × (slice_get xs j ≡ Some x) × (p x ≡ true) × (f x ≡ y)
in_filtered f p [] i y at = cc
in_filtered {X = X} {Y = Y} f p (x ∷ xs) i y at = elim (p x) as (λ t. p x ≡ t → slice_get (map f (cond t (x ∷ filter p xs) (filter p xs))) i ≡ Some y → (j : ℕ) × (z : X) × (slice_get (x ∷ xs) j ≡ Some z) × (p z ≡ true) × (f z ≡ y)) [
  | true ↦ λ e h. by_place (λ k g. in_filtered f p xs k y g) i e h
  | false ↦ λ e h. let r = in_filtered f p xs i y h in (suc r.0, r.1, r.2, r.3, r.4)
] refl at
  where
    by_place : ((k : ℕ) → slice_get (map f (filter p xs)) k ≡ Some y → (j : ℕ) × (z : X) × (slice_get xs j ≡ Some z) × (p z ≡ true) × (f z ≡ y)) → (i : ℕ) → p x ≡ true → slice_get (f x ∷ map f (filter p xs)) i ≡ Some y → (j : ℕ) × (z : X) × (slice_get (x ∷ xs) j ≡ Some z) × (p z ≡ true) × (f z ≡ y)
    by_place rest zero e h = (0, x, refl, e, some_is (f x) y h)
    by_place rest (suc k) e h = let r = rest k h in (suc r.0, r.1, r.2, r.3, r.4)

-- one that passes has its image among them
pub filtered_in : {X Y : Type 0} (f : X → Y) (p : X → Bool) (xs : List X) (j : ℕ) (x : X) → slice_get xs j ≡ Some x → p x ≡ true → (i : ℕ) × (slice_get (map f (filter p xs)) i ≡ Some (f x))
filtered_in f p [] j x at is = cc
filtered_in {X = X} f p (y ∷ xs) zero x at is =
    let same : y ≡ x = some_is y x at in
    subst (λ (z : X). (i : ℕ) × (slice_get (map f (filter p (z ∷ xs))) i ≡ Some (f x))) (sym same)
    (0, ap (λ t. slice_get (map f (cond t (x ∷ filter p xs) (filter p xs))) 0) is)
filtered_in f p (y ∷ xs) (suc j) x at is =
    let r = filtered_in f p xs j x at is in
    elim (p y) as (λ t. (i : ℕ) × (slice_get (map f (cond t (y ∷ filter p xs) (filter p xs))) i ≡ Some (f x))) [ true ↦ (suc r.0, r.1) | false ↦ (r.0, r.1) ]

-- ---- the cause of a conflict

both_true : (s t : Bool) → s ≡ true → t ≡ true → (s && t) ≡ true
both_true true t e f = f
both_true false t e f = e

not_true : (s : Bool) → not s ≡ true → s ≡ false
not_true true e = cc
not_true false e = refl

-- a conflict names nobody where there is neither an open one nor a later commit
pub no_cause : (h : Option TxnName) (g : Option ℕ) → cause_of h g ≡ None → (h ≡ None) × (g ≡ None)
no_cause (Some n) g e = cc
no_cause None (Some c) e = cc
no_cause None None e = (refl, refl)

pub cause_is_holder : (h : Option TxnName) (g : Option ℕ) (n : TxnName) → cause_of h g ≡ Some (Holder n) → h ≡ Some n
cause_is_holder (Some m) g n e = let c : Holder m ≡ Holder n = some_is (Holder m) (Holder n) e in let same : m ≡ n = cc in ap Some same
cause_is_holder None (Some s) n e = let c : Later s ≡ Holder n = some_is (Later s) (Holder n) e in cc
cause_is_holder None None n e = cc

pub cause_is_later : (h : Option TxnName) (g : Option ℕ) (s : ℕ) → cause_of h g ≡ Some (Later s) → (h ≡ None) × (g ≡ Some s)
cause_is_later (Some m) g s e = let c : Holder m ≡ Later s = some_is (Holder m) (Later s) e in cc
cause_is_later None (Some r) s e = let c : Later r ≡ Later s = some_is (Later r) (Later s) e in let same : r ≡ s = cc in (refl, ap Some same)
cause_is_later None None s e = cc

module _ (kind : Kind) (txns : List OpenTxn) (by : TxnName) (w : Write) where
  abbrev asks : OpenTxn → Bool
  asks t = not (same_name t.by by) && meets kind w t.writes

  abbrev name_of : OpenTxn → TxnName
  name_of t = t.by

  -- an open transaction that clashes is among those of which the least job is taken
  holder_at : (t : OpenTxn) → IsHolder kind txns by w t → (i : ℕ) × (slice_get (map name_of (filter asks txns)) i ≡ Some t.by)
  holder_at t is = filtered_in name_of asks txns is.listed.0 t is.listed.1 (both_true _ _ (ap not is.other) is.met)

  -- where no holder is named, no other open transaction clashes
  pub no_holder : holder kind txns by w ≡ None → NoHolder kind txns by w
  no_holder none i t at other = false_from_ne_true _ (λ met.
      let place = holder_at t (record { listed = (i, at); other = other; met = met }) in
      least_none (map name_of (filter asks txns)) none place.0 t.by place.1)

  -- a holder that is named is an open transaction that clashes
  pub holder_is : (n : TxnName) → holder kind txns by w ≡ Some n → (t : OpenTxn) × IsHolder kind txns by w t × (t.by ≡ n)
  holder_is n e =
      let place = least_in (map name_of (filter asks txns)) n e in
      let found = in_filtered name_of asks txns place.0 n place.1 in
      let tests = both_of (not (same_name (found.1).by by)) (meets kind w (found.1).writes) found.3 in
      (found.1, record { listed = (found.0, found.2); other = not_true _ tests.0; met = tests.1 }, found.4)

  -- and none that clashes has a lesser job
  pub holder_least : (n : TxnName) → holder kind txns by w ≡ Some n → (t : OpenTxn) → IsHolder kind txns by w t → n.job ≤ t.by.job
  holder_least n e t is = let place = holder_at t is in least_le (map name_of (filter asks txns)) n e place.0 t.by place.1

  -- where no other open transaction clashes, none is named
  pub holder_none : NoHolder kind txns by w → holder kind txns by w ≡ None
  holder_none none = by_holder (holder kind txns by w) refl
    where
      by_holder : (h : Option TxnName) → holder kind txns by w ≡ h → h ≡ None
      by_holder None e = refl
      by_holder (Some n) e =
          let found = holder_is n e in
          let is = found.1 in
          absurd (true≢false (sym is.met ∙ none is.listed.0 found.0 is.listed.1 is.other))

module _ (kind : Kind) (journal : List Commit) (start : ℕ) (w : Write) where
  abbrev counts : Commit → Bool
  counts c = nat_lt start c.stamp && meets kind w c.writes

  abbrev stamp_of : Commit → ℕ
  stamp_of c = c.stamp

  -- a later commit that clashes is among those of which the greatest stamp is taken
  later_at : (c : Commit) → IsLater kind journal start w c → (i : ℕ) × (slice_get (later kind journal start w) i ≡ Some c.stamp)
  later_at c is =
      let after : start < c.stamp = is.after in
      let test : nat_lt start c.stamp ≡ true = grind (arith, nat_tests) in
      filtered_in stamp_of counts journal is.listed.0 c is.listed.1 (both_true _ _ test is.met)

  -- where no stamp is named, no later commit clashes
  pub no_later : newest_later kind journal start w ≡ None → NoLater kind journal start w
  no_later none i c at after = false_from_ne_true _ (λ met.
      let place = later_at c (record { listed = (i, at); after = after; met = met }) in
      greatest_none (later kind journal start w) none place.0 c.stamp place.1)

  -- a stamp that is named is that of a later commit that clashes
  pub later_is : (s : ℕ) → newest_later kind journal start w ≡ Some s → (c : Commit) × IsLater kind journal start w c × (c.stamp ≡ s)
  later_is s e =
      let place = greatest_in (later kind journal start w) s e in
      let found = in_filtered stamp_of counts journal place.0 s place.1 in
      let tests = both_of (nat_lt start (found.1).stamp) (meets kind w (found.1).writes) found.3 in
      let test : nat_lt start (found.1).stamp ≡ true = tests.0 in
      let after : start < (found.1).stamp = grind (arith, nat_tests) in
      (found.1, record { listed = (found.0, found.2); after = after; met = tests.1 }, found.4)

  -- and none that clashes is newer
  pub later_newest : (s : ℕ) → newest_later kind journal start w ≡ Some s → (c : Commit) → IsLater kind journal start w c → c.stamp ≤ s
  later_newest s e c is = let place = later_at c is in greatest_ge (later kind journal start w) s e place.0 c.stamp place.1

  -- where no later commit clashes, none is named
  pub later_none : NoLater kind journal start w → newest_later kind journal start w ≡ None
  later_none none = by_stamp (newest_later kind journal start w) refl
    where
      by_stamp : (g : Option ℕ) → newest_later kind journal start w ≡ g → g ≡ None
      by_stamp None e = refl
      by_stamp (Some s) e =
          let found = later_is s e in
          let is = found.1 in
          absurd (true≢false (sym is.met ∙ none is.listed.0 found.0 is.listed.1 is.after))

module _ (kind : Kind) (journal : List Commit) (txns : List OpenTxn) (by : TxnName) (start : ℕ) (w : Write) where
  -- where there is no conflict, nothing clashes
  pub conflict_none : conflict kind journal txns by start w ≡ None → NoHolder kind txns by w × NoLater kind journal start w
  conflict_none e = let p = no_cause (holder kind txns by w) (newest_later kind journal start w) e in (no_holder kind txns by w p.0, no_later kind journal start w p.1)

  -- and where nothing clashes, there is no conflict
  pub none_conflicts : NoHolder kind txns by w × NoLater kind journal start w → conflict kind journal txns by start w ≡ None
  none_conflicts none = λ i. cause_of (holder_none kind txns by w none.0 i) (later_none kind journal start w none.1 i)

  -- a conflict with an open transaction names the one with the least job
  pub names_least : (n : TxnName) → conflict kind journal txns by start w ≡ Some (Holder n)
      → ((t : OpenTxn) × IsHolder kind txns by w t × (t.by ≡ n)) × ((t : OpenTxn) → IsHolder kind txns by w t → n.job ≤ t.by.job)
  names_least n e =
      let h = cause_is_holder (holder kind txns by w) (newest_later kind journal start w) n e in
      (holder_is kind txns by w n h, holder_least kind txns by w n h)

  -- a conflict with a commit names the newest, where no open transaction clashes
  pub names_newest : (s : ℕ) → conflict kind journal txns by start w ≡ Some (Later s)
      → NoHolder kind txns by w × ((c : Commit) × IsLater kind journal start w c × (c.stamp ≡ s)) × ((c : Commit) → IsLater kind journal start w c → c.stamp ≤ s)
  names_newest s e =
      let p = cause_is_later (holder kind txns by w) (newest_later kind journal start w) s e in
      (no_holder kind txns by w p.0, later_is kind journal start w s p.1, later_newest kind journal start w s p.1)
