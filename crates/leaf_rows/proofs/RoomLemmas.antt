-- Room for the rows of one key or two.
use Rattle.std.proofs.Common.{◌≡◌, ℕ, ◌+◌, ◌-◌, ◌<◌, ◌≤◌, List, [], ◌∷◌, ◌++◌, length, map, refl, sym, ◌∙◌, ap, cond, arith, inl, inr, Some, None}
use Rattle.std.specs.Prelude.{◌⊎◌, Bool, true, false, ◌&&◌, not, Option, count_by, nat_lt, is_some, Result, Ok, Err, IfErr}
use Rattle.std.specs.List.{filter, flat_map}
use Rattle.std.proofs.lemmas.List.{append-nil}
use Rattle.graph_model.specs.declared.row.Key.{Key}
use Rattle.graph_model.specs.Rows.{is_below, is_between, end_key}
use Rattle.store_model.specs.Stamped.{forget_row}
use Rattle.txn_manager.specs.declared.config.RoomRefusal.{RoomRefusal}
use Rattle.txn_manager.specs.declared.config.RoomRefusal.TheVariants.{Full, NoMemory}
use Rattle.row_writes.specs.VersionSegment.Rows.{VersionedRows, has_row as has_row_in}
use Rattle.leaf_store.specs.Leaves.{Leaves, Part, AreLeaves, KeysHaveCells, CellsAreApart, cell_at, cell_in, has_row, room_at, shares}
use Rattle.leaf_index.specs.declared.route.Retired.{Retired}
use Rattle.leaf_index.specs.Calls.{freed_of, kept_of}
use Rattle.leaf_store.specs.Changes.{MovesRows, IsRoomRefusal}
use Rattle.leaf_store.specs.Merging.{FreesRetired}
use Rattle.leaf_rows.specs.Laying.{KeepsContents, Stays, wanted, IsSpent}
use Rattle.leaf_rows.specs.Readers.{AreUnstamped}
use Rattle.leaf_rows.specs.Steps.{KeepsRoom, wanted_in, keys_with}
use Rattle.leaf_rows.specs.Laying.{HaveRoom, IsNoPlace}
use Rattle.leaf_rows.proofs.CellLemmas.{rows_by_versions}

-- ---- what stays

pub stays_self : (s : Leaves) → Stays s s
stays_self s = record { contents = λ k. refl; rows = λ k. refl; limit = refl; weight = omega arith; retired = refl }

pub stays_chain : (a b c : Leaves) → Stays a b → Stays b c → Stays a c
stays_chain a b c one two = record {
  contents = λ k. two.contents k ∙ one.contents k;
  rows = λ k. two.rows k ∙ one.rows k;
  limit = two.limit ∙ one.limit;
  weight = let x = one.weight in let y = two.weight in omega (arith, x, y);
  retired = two.retired ∙ one.retired;
}

-- where rows move, each key has what it had
pub moved_stays : (old new : Leaves) → AreLeaves old → AreLeaves new → MovesRows old new → new.retired ≡ old.retired → Stays old new
moved_stays old new sound sound' moves retired = record {
  contents = λ k. ap forget_row (moves.versions k);
  rows = λ k. rows_by_versions old new sound sound' k (moves.versions k);
  limit = moves.limit;
  weight = moves.weight;
  retired = retired;
}

pub moved_unstamped : (old new : Leaves) → MovesRows old new → AreUnstamped old → AreUnstamped new
moved_unstamped old new moves none = record { pairs = λ k. rw (moves.versions k) (none.pairs k); touches = λ k. rw (moves.versions k) (none.touches k) }

-- ---- what is wanted

-- the keys that are wanted in a key's cell
pub wanted_is : (s : Leaves) → CellsAreApart s → (key : Key) (keys : List Key) → wanted s key keys ≡ wanted_in (cell_at s key) keys
wanted_is s apart key keys = λ i. count_by (λ q. each q (shares s key q) refl i) keys
  where
    each : (q : Key) (t : Bool) → shares s key q ≡ t → (not (has_row s q) && shares s key q) ≡ (not (has_row_in (cell_at s key) q) && shares s key q)
    each q true e = ap (λ (c : VersionedRows). not (has_row_in c q) && shares s key q) (apart key q e)
    each q false e = ap (λ t. not (has_row s q) && t) e ∙ none (not (has_row s q)) (not (has_row_in (cell_at s key) q)) ∙ ap (λ t. not (has_row_in (cell_at s key) q) && t) (sym e)
      where
        none : (a b : Bool) → (a && false) ≡ (b && false)
        none true true = refl
        none true false = refl
        none false true = refl
        none false false = refl

abbrev miss : Leaves → Key → Key → ℕ
miss s k q = cond (not (has_row s q) && shares s k q) 1 0

one_or_none : (t : Bool) → cond {A = ℕ} t 1 0 ≤ 1
one_or_none true = omega arith
one_or_none false = omega arith

pub wanted_swap : (s : Leaves) (k a b : Key) → wanted s k (a ∷ b ∷ []) ≡ wanted s k (b ∷ a ∷ [])
wanted_swap s k a b = omega arith

pub room_swap : (s : Leaves) (a b : Key) → HaveRoom s (a ∷ b ∷ []) → HaveRoom s (b ∷ a ∷ [])
room_swap s a b room k none = let h = room k none in let e = wanted_swap s k a b in omega (arith, h, e)

pub no_place_swap : (s : Leaves) (a b : Key) (refusal : RoomRefusal) → IsNoPlace s (a ∷ b ∷ []) refusal → IsNoPlace s (b ∷ a ∷ []) refusal
no_place_swap s a b (Full leaves) why = (why.0, why.1, ((why.2).0, (why.2).1, (why.2).2 ∙ wanted_swap s (why.2).0 a b, (why.2).3, (why.2).4))
no_place_swap s a b NoMemory why = tt

-- a refusal of the store
pub refused_is : (old new : Leaves) (key : Key) (need : ℕ) (keys : List Key) (refusal : RoomRefusal) → need ≡ wanted old key keys → room_at old key < need
    → IsRoomRefusal old key need refusal new → IsNoPlace new keys refusal
refused_is old new key need keys (Full leaves) is short why = rw why.3 (why.0, why.2, (key, need, is, short, why.1))
refused_is old new key need keys NoMemory is short why = tt

-- ---- room for two

-- a key that is wanted in another's cell has the same room
same_room : (s : Leaves) → CellsAreApart s → (k q : Key) → shares s k q ≡ true → room_at s q ≡ room_at s k
same_room s apart k q e = ap (λ (c : VersionedRows). 32 - length c.rows) (apart k q e)

pub one_has_room : (s : Leaves) → CellsAreApart s → (a : Key) → (has_row s a ≡ false → 1 ≤ room_at s a) → HaveRoom s (a ∷ [])
one_has_room s apart a room k none = go (has_row s a) (shares s k a) refl refl
  where
    go : (h t : Bool) → has_row s a ≡ h → shares s k a ≡ t → wanted s k (a ∷ []) ≤ room_at s k
    go true t e f = let none : ◌≡◌ {A = ℕ} (miss s k a) 0 = λ i. cond (not (e i) && shares s k a) 1 0 in omega (arith, none)
    go false false e f = let none : ◌≡◌ {A = ℕ} (miss s k a) 0 = λ i. cond (not (e i) && f i) 1 0 in omega (arith, none)
    go false true e f =
        let r = room e in
        let same = same_room s apart k a f in
        let one = one_or_none (not (has_row s a) && shares s k a) in
        omega (arith, r, same, one)

-- where each of two missing keys has room, and both have room together where they share a cell
pub both_have_room : (s : Leaves) → KeysHaveCells s → CellsAreApart s → (a b : Key) → is_below a end_key ≡ true → is_below b end_key ≡ true
    → (has_row s a ≡ false → 1 ≤ room_at s a) → (has_row s b ≡ false → 1 ≤ room_at s b)
    → (has_row s a ≡ false → has_row s b ≡ false → shares s a b ≡ true → 2 ≤ room_at s a) → HaveRoom s (a ∷ b ∷ [])
both_have_room s there apart a b wa wb ra rb rab k none = go (not (has_row s a) && shares s k a) (not (has_row s b) && shares s k b) refl refl
  where
    parts : (h t : Bool) → (not h && t) ≡ true → (h ≡ false) × (t ≡ true)
    parts true t e = cc
    parts false t e = (refl, e)

    go : (x y : Bool) → (not (has_row s a) && shares s k a) ≡ x → (not (has_row s b) && shares s k b) ≡ y → wanted s k (a ∷ b ∷ []) ≤ room_at s k
    go true true e f =
        let pa = parts (has_row s a) (shares s k a) e in
        let pb = parts (has_row s b) (shares s k b) f in
        let shared : shares s a b ≡ true = ap (λ (c : VersionedRows). is_between c.low c.high b) (apart k a pa.1) ∙ pb.1 in
        let r = rab pa.0 pb.0 shared in
        let same = same_room s apart k a pa.1 in
        let one = one_or_none (not (has_row s a) && shares s k a) in
        let two = one_or_none (not (has_row s b) && shares s k b) in
        omega (arith, r, same, one, two)
    go true false e f =
        let pa = parts (has_row s a) (shares s k a) e in
        let r = ra pa.0 in
        let same = same_room s apart k a pa.1 in
        let one = one_or_none (not (has_row s a) && shares s k a) in
        let zero : ◌≡◌ {A = ℕ} (miss s k b) 0 = λ i. cond (f i) 1 0 in
        omega (arith, r, same, one, zero)
    go false true e f =
        let pb = parts (has_row s b) (shares s k b) f in
        let r = rb pb.0 in
        let same = same_room s apart k b pb.1 in
        let two = one_or_none (not (has_row s b) && shares s k b) in
        let zero : ◌≡◌ {A = ℕ} (miss s k a) 0 = λ i. cond (e i) 1 0 in
        omega (arith, r, same, two, zero)
    go false false e f =
        let zero : ◌≡◌ {A = ℕ} (miss s k a) 0 = λ i. cond (e i) 1 0 in
        let zero2 : ◌≡◌ {A = ℕ} (miss s k b) 0 = λ i. cond (f i) 1 0 in
        omega (arith, zero, zero2)

-- a missing key is wanted in its own cell
pub wants_itself : (s : Leaves) → KeysHaveCells s → (key : Key) → is_below key end_key ≡ true → (other : Option Key) → has_row s key ≡ false → 1 ≤ wanted s key (keys_with key other)
wants_itself s there key within None none = let one : ◌≡◌ {A = ℕ} (miss s key key) 1 = λ i. cond (not (none i) && there key within i) 1 0 in omega (arith, one)
wants_itself s there key within (Some other) none = let one : ◌≡◌ {A = ℕ} (miss s key key) 1 = λ i. cond (not (none i) && there key within i) 1 0 in omega (arith, one)

-- and two of them that share it
wants_both : (s : Leaves) → KeysHaveCells s → (a b : Key) → is_below a end_key ≡ true → has_row s a ≡ false → has_row s b ≡ false → shares s a b ≡ true → 2 ≤ wanted s a (a ∷ b ∷ [])
wants_both s there a b within na nb shared =
    let one : ◌≡◌ {A = ℕ} (miss s a a) 1 = λ i. cond (not (na i) && there a within i) 1 0 in
    let two : ◌≡◌ {A = ℕ} (miss s a b) 1 = λ i. cond (not (nb i) && shared i) 1 0 in
    omega (arith, one, two)

wants_one : (s : Leaves) (a b : Key) → shares s a b ≡ false → wanted s a (a ∷ b ∷ []) ≤ 1
wants_one s a b apart =
    let one = one_or_none (not (has_row s a) && shares s a a) in
    let two : ◌≡◌ {A = ℕ} (miss s a b) 0 = ap (λ t. cond (not (has_row s b) && t) 1 0) apart ∙ none (not (has_row s b)) in
    omega (arith, one, two)
  where
    none : (t : Bool) → ◌≡◌ {A = ℕ} (cond (t && false) 1 0) 0
    none true = refl
    none false = refl

kept_one : (m n : ℕ) → (m ≤ n) ⊎ (2 ≤ n) → 1 ≤ m → 1 ≤ n
kept_one m n (inl h) one = omega (arith, h, one)
kept_one m n (inr h) one = omega (arith, h, one)

-- Room is made for the first key, for the second, and for the first again: a step for which there is room changes
-- nothing. Then both have room.
pub three_steps : (s0 s1 s2 s3 : Leaves) → KeysHaveCells s0 → KeysHaveCells s1 → KeysHaveCells s2 → KeysHaveCells s3 → CellsAreApart s3
    → (a b : Key) → is_below a end_key ≡ true → is_below b end_key ≡ true
    → Stays s0 s1 → Stays s1 s2 → Stays s2 s3 → KeepsRoom s1 s2 → KeepsRoom s2 s3
    → (has_row s0 a ≡ false → wanted s0 a (a ∷ b ∷ []) ≤ room_at s1 a)
    → (has_row s1 b ≡ false → wanted s1 b (b ∷ a ∷ []) ≤ room_at s2 b)
    → (has_row s2 a ≡ false → wanted s2 a (a ∷ b ∷ []) ≤ room_at s3 a)
    → (wanted s2 a (a ∷ b ∷ []) ≤ room_at s2 a → s3 ≡ s2)
    → HaveRoom s3 (a ∷ b ∷ [])
three_steps s0 s1 s2 s3 there0 there1 there2 there3 apart a b wa wb stays1 stays2 stays3 keeps2 keeps3 ok1 ok2 ok3 kept =
    both_have_room s3 there3 apart a b wa wb first second together
  where
    a2 : has_row s3 a ≡ false → has_row s2 a ≡ false
    a2 none = sym (stays3.rows a) ∙ none

    b2 : has_row s3 b ≡ false → has_row s2 b ≡ false
    b2 none = sym (stays3.rows b) ∙ none

    first : has_row s3 a ≡ false → 1 ≤ room_at s3 a
    first none = let w = wants_itself s2 there2 a wa (Some b) (a2 none) in let r = ok3 (a2 none) in omega (arith, w, r)

    second : has_row s3 b ≡ false → 1 ≤ room_at s3 b
    second none =
        let b1 : has_row s1 b ≡ false = sym (stays2.rows b) ∙ b2 none in
        let w = wants_itself s1 there1 b wb (Some a) b1 in
        let r = ok2 b1 in
        kept_one (room_at s2 b) (room_at s3 b) (keeps3 b) (omega (arith, w, r))

    first_before : has_row s3 a ≡ false → 1 ≤ room_at s2 a
    first_before none =
        let a0 : has_row s0 a ≡ false = sym (stays1.rows a) ∙ (sym (stays2.rows a) ∙ a2 none) in
        let w = wants_itself s0 there0 a wa (Some b) a0 in
        let r = ok1 a0 in
        kept_one (room_at s1 a) (room_at s2 a) (keeps2 a) (omega (arith, w, r))

    together : has_row s3 a ≡ false → has_row s3 b ≡ false → shares s3 a b ≡ true → 2 ≤ room_at s3 a
    together na nb shared = go (shares s2 a b) refl
      where
        go : (t : Bool) → shares s2 a b ≡ t → 2 ≤ room_at s3 a
        go true e = let w = wants_both s2 there2 a b wa (a2 na) (b2 nb) e in let r = ok3 (a2 na) in omega (arith, w, r)
        go false e =
            let w = wants_one s2 a b e in
            let r = first_before na in
            let same : s3 ≡ s2 = kept (omega (arith, w, r)) in
            let clash : false ≡ true = sym e ∙ sym (ap (λ (s : Leaves). shares s a b) same) ∙ shared in
            cc

pub none_of : (o : Option ℕ) → is_some o ≡ false → o ≡ None
none_of None e = refl
none_of (Some x) e = cc

-- Room is made for the first key, and there is room for the second already. Then both have room.
pub two_steps : (s0 s1 : Leaves) → KeysHaveCells s0 → KeysHaveCells s1 → CellsAreApart s1 → (a b : Key) → is_below a end_key ≡ true → is_below b end_key ≡ true → Stays s0 s1
    → (has_row s0 a ≡ false → wanted s0 a (a ∷ b ∷ []) ≤ room_at s1 a)
    → (has_row s1 b ≡ false → wanted s1 b (b ∷ a ∷ []) ≤ room_at s1 b)
    → HaveRoom s1 (a ∷ b ∷ [])
two_steps s0 s1 there0 there1 apart a b wa wb stays ok1 ok2 =
    both_have_room s1 there1 apart a b wa wb
    (λ none. let a0 = sym (stays.rows a) ∙ none in let w = wants_itself s0 there0 a wa (Some b) a0 in let r = ok1 a0 in omega (arith, w, r))
    (λ none. let w = wants_itself s1 there1 b wb (Some a) none in let r = ok2 none in omega (arith, w, r))
    (λ na nb shared.
    let back : shares s1 b a ≡ true = ap (λ (c : VersionedRows). is_between c.low c.high a) (apart a b shared) ∙ there1 a wa in
    let w = wants_both s1 there1 b a wb nb na back in
    let r = ok2 nb in
    let same = same_room s1 apart a b shared in
    omega (arith, w, r, same))

-- ---- how many rows

module _ (c : VersionedRows) (key : Key) (none : has_row_in c key ≡ false) (holds : is_between c.low c.high key ≡ true) where
  wants_key : ◌≡◌ {A = ℕ} (cond (not (has_row_in c key) && is_between c.low c.high key) 1 0) 1
  wants_key = λ i. cond (not (none i) && holds i) 1 0

  pub need_alone : (m : ℕ) → m ≡ 0 → (1 + m ≡ wanted_in c (keys_with key None)) × (1 + m ≤ 2)
  need_alone m is = (omega (arith, is, wants_key), omega (arith, is))

  pub need_with : (other : Key) (m : ℕ) → m ≡ cond (not (has_row_in c other) && is_between c.low c.high other) 1 0 → (1 + m ≡ wanted_in c (keys_with key (Some other))) × (1 + m ≤ 2)
  need_with other m is =
      let one = one_or_none (not (has_row_in c other) && is_between c.low c.high other) in
      (omega (arith, is, wants_key), omega (arith, is, one))

-- ---- leaves that are retired or freed

pub stays_keeps : (old new : Leaves) → Stays old new → KeepsContents old new
stays_keeps old new stays = record { contents = stays.contents; rows = stays.rows; limit = stays.limit; weight = stays.weight }

pub keeps_chain : (a b c : Leaves) → KeepsContents a b → KeepsContents b c → KeepsContents a c
keeps_chain a b c one two = record {
  contents = λ k. two.contents k ∙ one.contents k;
  rows = λ k. two.rows k ∙ one.rows k;
  limit = two.limit ∙ one.limit;
  weight = let x = one.weight in let y = two.weight in omega (arith, x, y);
}

pub moved_keeps : (old new : Leaves) → AreLeaves old → AreLeaves new → MovesRows old new → KeepsContents old new
moved_keeps old new sound sound' moves = record {
  contents = λ k. ap forget_row (moves.versions k);
  rows = λ k. rows_by_versions old new sound sound' k (moves.versions k);
  limit = moves.limit;
  weight = moves.weight;
}

pub freed_keeps : (until : ℕ) (old new : Leaves) → FreesRetired until old new → KeepsContents old new
freed_keeps until old new frees = record {
  contents = λ k. ap forget_row (frees.keeps.versions k);
  rows = λ k. ap (λ parts. has_row_in (cell_in (flat_map (λ (p : Part). p.segments) parts) k) k) frees.parts;
  limit = frees.limit;
  weight = frees.keeps.weight;
}

pub freed_unstamped : (until : ℕ) (old new : Leaves) → FreesRetired until old new → AreUnstamped old → AreUnstamped new
freed_unstamped until old new frees none = record { pairs = λ k. rw (frees.keeps.versions k) (none.pairs k); touches = λ k. rw (frees.keeps.versions k) (none.touches k) }

nil_of : {X : Type 0} (xs : List X) → length xs ≡ 0 → xs ≡ []
nil_of [] e = refl
nil_of (x ∷ xs) e = absurd (omega (arith, e))

all_kept : (until : ℕ) (xs : List Retired) → freed_of until xs ≡ [] → kept_of until xs ≡ xs
all_kept until [] e = refl
all_kept until (x ∷ xs) e = by_test (nat_lt x.stamp until) (all_kept until xs) e
  where
    by_test : (t : Bool) → (freed_of until xs ≡ [] → kept_of until xs ≡ xs) → map (λ (r : Retired). r.leaf) (cond t (x ∷ filter (λ (r : Retired). nat_lt r.stamp until) xs) (filter (λ (r : Retired). nat_lt r.stamp until) xs)) ≡ []
        → cond (not t) (x ∷ kept_of until xs) (kept_of until xs) ≡ x ∷ xs
    by_test true rest e = cc
    by_test false rest e = ap (λ ys. x ∷ ys) (rest e)

none_again : (until : ℕ) (xs : List Retired) → freed_of until (kept_of until xs) ≡ []
none_again until [] = refl
none_again until (x ∷ xs) = by_test (nat_lt x.stamp until) refl (none_again until xs)
  where
    by_test : (t : Bool) → nat_lt x.stamp until ≡ t → freed_of until (kept_of until xs) ≡ [] → freed_of until (cond (not t) (x ∷ kept_of until xs) (kept_of until xs)) ≡ []
    by_test true t rest = rest
    by_test false t rest = (λ i. map (λ (r : Retired). r.leaf) (cond (t i) (x ∷ filter (λ (r : Retired). nat_lt r.stamp until) (kept_of until xs)) (filter (λ (r : Retired). nat_lt r.stamp until) (kept_of until xs)))) ∙ rest

-- where none was freed nothing has changed
pub none_freed : (until : ℕ) (old new : Leaves) → FreesRetired until old new → length (freed_of until old.retired) ≡ 0 → (new ≡ old) × (freed_of until new.retired ≡ [])
none_freed until old new frees none =
    let no = nil_of (freed_of until old.retired) none in
    let retired : new.retired ≡ old.retired = frees.retired ∙ all_kept until old.retired no in
    let free : new.free ≡ old.free = frees.free ∙ ap (λ xs. old.free ++ xs) no ∙ append-nil old.free in
    ((λ i. record { limit = frees.limit i; parts = frees.parts i; free = free i; retired = retired i }), ap (freed_of until) retired ∙ no)

-- and behind it none is left to be freed
pub none_left : (until : ℕ) (old mid new : Leaves) → FreesRetired until old mid → new.retired ≡ mid.retired → freed_of until new.retired ≡ []
none_left until old mid new frees same = ap (freed_of until) (same ∙ frees.retired) ∙ none_again until old.retired

spent : (until : ℕ) (s : Leaves) (refusal : RoomRefusal) → freed_of until s.retired ≡ [] → IsSpent until s refusal
spent until s (Full leaves) none = none
spent until s NoMemory none = tt

pub spent_err : (until : ℕ) (s : Leaves) (r : Result (Unit {0}) RoomRefusal) → freed_of until s.retired ≡ [] → IfErr r (IsSpent until s)
spent_err until s (Ok x) none = tt
spent_err until s (Err refusal) none = spent until s refusal none
