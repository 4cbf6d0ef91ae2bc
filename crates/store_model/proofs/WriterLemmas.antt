-- Who has pairs and touches in a row: those who have laid writes there, and commits behind its cuts.
use Rattle.std.proofs.Common.{◌≡◌, ℕ, zero, suc, ◌≤◌, List, [], ◌∷◌, map, take, drop, refl, sym, ◌∙◌, ap, subst, arith, cond, inl, inr}
use Rattle.std.specs.Prelude.{◌⊎◌, Bool, true, false, ◌&&◌, ◌||◌, slice_get, Option, Some}
use Rattle.std.specs.List.{list_any, filter}
use Rattle.std.proofs.Math.Bool.{and-true, or-false, or_assoc}
use Rattle.std.proofs.lemmas.Bool.{or_left, or_right, true≢false, false_from_ne_true}
use Rattle.graph_model.specs.declared.write.Kind.{Kind}
use Rattle.graph_model.specs.declared.write.Write.{Write}
use Rattle.graph_model.specs.declared.row.Key.{Key}
use Rattle.graph_model.specs.declared.journal.Commit.{Commit}
use Rattle.graph_model.specs.declared.journal.TxnName.{TxnName}
use Rattle.graph_model.specs.Conflict.{same_name}
use Rattle.graph_model.specs.Effects.{writes_at, value_left, any_writes}
use Rattle.graph_model.specs.Transactions.{has_name, HasNotCommitted}
use Rattle.graph_model.proofs.TestLemmas.{name_self, name_eq, name_symm, both_of, either_of, or_comm}
use Rattle.graph_model.proofs.PlaceLemmas.{some_eq}
use Rattle.store_model.specs.declared.version.Version.{Version}
use Rattle.store_model.specs.declared.versions.Versions.{Versions}
use Rattle.store_model.specs.Layers.{layered, layered_all}
use Rattle.store_model.specs.Store.{IsRow}
use Rattle.store_model.specs.Check.{IsCommitted}
use Rattle.store_model.proofs.LayerLemmas.{layered_none}
use Rattle.store_model.proofs.MeetLemmas.{any_leaves}

-- ---- commits by name

-- a commit by this name has writes that pass the test
abbrev pub committed_in : (List Write → Bool) → List Commit → TxnName → Bool
committed_in p cs n = list_any (λ c. same_name c.by n && p c.writes) cs

pub committed_none : (p : List Write → Bool) (cs : List Commit) (n : TxnName) → HasNotCommitted cs n → committed_in p cs n ≡ false
committed_none p [] n each = refl
committed_none p (c ∷ cs) n each = λ i. (each 0 c refl i && p c.writes) || committed_none p cs n (λ j d at. each (suc j) d at) i

pub committed_at : (p : List Write → Bool) (cs : List Commit) (n : TxnName) → committed_in p cs n ≡ true → IsCommitted cs n p
committed_at p [] n h = cc
committed_at p (c ∷ cs) n h = elim (either_of (same_name c.by n && p c.writes) (committed_in p cs n) h) as (λ _. IsCommitted (c ∷ cs) n p) [
  | inl e ↦ let q = both_of _ _ e in record { place = 0; commit = c; at = refl; named = name_eq c.by n q.0; wrote = q.1 }
  | inr e ↦ let r = committed_at p cs n e in record { place = suc r.place; commit = r.commit; at = r.at; named = r.named; wrote = r.wrote }
]

pub at_committed : (p : List Write → Bool) (cs : List Commit) (i : ℕ) (c : Commit) → slice_get cs i ≡ Some c → p c.writes ≡ true → committed_in p cs c.by ≡ true
at_committed p [] i c at h = cc
at_committed p (d ∷ cs) zero c at h =
    let same : d ≡ c = some_eq d c at in
    or_left _ _ (λ i. (ap (λ (z : Commit). same_name z.by c.by) same ∙ name_self c.by) i && (ap (λ (z : Commit). p z.writes) same ∙ h) i)
at_committed p (d ∷ cs) (suc i) c at h = or_right (same_name d.by c.by && p d.writes) _ (at_committed p cs i c at h)

-- ---- writers of pairs whose values pass a test

abbrev pub marked : (Option ℕ → Bool) → List Version → TxnName → Bool
marked f ps n = list_any (λ p. same_name n p.by && f p.value) ps

-- a commit by this name has written the row and left such a value there
abbrev pub left_in : Kind → (Option ℕ → Bool) → List Commit → TxnName → Key → Bool
left_in kind f cs n k = committed_in (λ ws. any_leaves kind f ws k) cs n

none_or : (s M : Bool) → M ≡ ((s && false) || M)
none_or true M = refl
none_or false M = refl

module _ (kind : Kind) (k : Key) (f : Option ℕ → Bool) (n : TxnName) where
  marked-layered : (by : TxnName) (ws : List Write) (below : List Version) → marked f (layered kind k by ws below) n ≡ ((same_name n by && any_leaves kind f ws k) || marked f below n)
  marked-layered by [] below = none_or (same_name n by) _
  marked-layered by (w ∷ ws) below =
      marked-layered by ws _ ∙ ap (λ t. (same_name n by && any_leaves kind f ws k) || t) (one (writes_at kind w k))
      ∙ shuffle (same_name n by) (any_leaves kind f ws k) (writes_at kind w k && f (value_left w)) (marked f below n)
    where
      one : (t : Bool) → marked f (cond t (record { by = by; value = value_left w } ∷ below) below) n ≡ ((same_name n by && (t && f (value_left w))) || marked f below n)
      one true = refl
      one false = none_or (same_name n by) _

      shuffle : (s L v M : Bool) → ((s && L) || ((s && v) || M)) ≡ ((s && (v || L)) || M)
      shuffle true true true M = refl
      shuffle true true false M = refl
      shuffle true false true M = refl
      shuffle true false false M = refl
      shuffle false L v M = refl

  marked-commits : (cs : List Commit) (below : List Version) → marked f (layered_all kind k cs below) n ≡ (left_in kind f cs n k || marked f below n)
  marked-commits [] below = refl
  marked-commits (c ∷ cs) below =
      marked-commits cs _ ∙ ap (λ t. left_in kind f cs n k || t) (marked-layered c.by c.writes below ∙ (λ i. (name_symm n c.by i && any_leaves kind f c.writes k) || marked f below n))
      ∙ turn (left_in kind f cs n k) (same_name c.by n && any_leaves kind f c.writes k) (marked f below n)
    where
      turn : (a b c : Bool) → (a || (b || c)) ≡ ((b || a) || c)
      turn a b c = sym (or_assoc a b c) ∙ ap (λ t. t || c) (or_comm a b)

  -- whoever leaves something at the row writes it
  some_leaves : (ws : List Write) → any_leaves kind f ws k ≡ true → any_writes kind ws k ≡ true
  some_leaves [] h = cc
  some_leaves (w ∷ ws) h = one (writes_at kind w k) (f (value_left w)) h (some_leaves ws)
    where
      one : (s t : Bool) → ((s && t) || any_leaves kind f ws k) ≡ true → (any_leaves kind f ws k ≡ true → any_writes kind ws k ≡ true) → (s || any_writes kind ws k) ≡ true
      one true t h rest = refl
      one false t h rest = rest h

  -- THE WRITERS of a row: those who have laid writes of it, and those who have committed some behind its cut
  module _ (journal : List Commit) (own : TxnName → List Write) (touching : TxnName → Key → Bool) (cut since : ℕ) (keeper : TxnName) (vs : Versions) (row : IsRow kind journal own touching k cut since keeper vs) where
    pub marked_row : marked f vs.pairs n ≡ (any_leaves kind f (own n) k || left_in kind f (drop cut journal) n k)
    marked_row =
        ap (λ ps. marked f ps n) row.pairs ∙ marked-layered keeper (own keeper) (layered_all kind k (drop cut journal) [])
        ∙ ap (λ t. (same_name n keeper && any_leaves kind f (own keeper) k) || t) (marked-commits (drop cut journal) [])
        ∙ ap (λ t. (same_name n keeper && any_leaves kind f (own keeper) k) || t) (or-false (left_in kind f (drop cut journal) n k))
        ∙ ap (λ t. t || left_in kind f (drop cut journal) n k) (elim (same_name n keeper) as (λ s. same_name n keeper ≡ s → (s && any_leaves kind f (own keeper) k) ≡ any_leaves kind f (own n) k) [
          | true ↦ λ e. ap (λ q. any_leaves kind f (own q) k) (sym (name_eq n keeper e))
          | false ↦ λ e. sym (false_from_ne_true _ (λ h. true≢false (sym (name_self keeper) ∙ ap (λ q. same_name q keeper) (sym (row.only n (some_leaves (own n) h))) ∙ e)))
        ] refl)

-- the names of the pairs whose values pass a test
pub has-filtered : (f : Option ℕ → Bool) (ps : List Version) (n : TxnName) → has_name (map (λ p. p.by) (filter (λ p. f p.value) ps)) n ≡ marked f ps n
has-filtered f [] n = refl
has-filtered f (p ∷ ps) n = elim (f p.value) as (λ t. has_name (map (λ (q : Version). q.by) (cond t (p ∷ filter (λ (q : Version). f q.value) ps) (filter (λ (q : Version). f q.value) ps))) n ≡ ((same_name n p.by && t) || marked f ps n)) [
  | true ↦ ap (λ t. same_name n p.by || t) (has-filtered f ps n) ∙ ap (λ t. t || marked f ps n) (sym (and-true (same_name n p.by)))
  | false ↦ has-filtered f ps n ∙ none_or (same_name n p.by) _
]

-- any value, or none
abbrev pub any : Option ℕ → Bool
any value = true

-- each write of a row leaves something there, be it nothing
pub all_leave : (kind : Kind) (ws : List Write) (k : Key) → any_leaves kind any ws k ≡ any_writes kind ws k
all_leave kind [] k = refl
all_leave kind (w ∷ ws) k = λ i. and-true (writes_at kind w k) i || all_leave kind ws k i

-- ---- the newest writer

-- the newest pair is of this name
abbrev pub heads : List Version → TxnName → Type 0
heads ps n = has_name (map (λ p. p.by) (take 1 ps)) n ≡ true

pub head_marked : (ps : List Version) (n : TxnName) → heads ps n → marked any ps n ≡ true
head_marked [] n h = cc
head_marked (p ∷ ps) n h = elim (same_name n p.by) as (λ t. (t || false) ≡ true → ((t && true) || marked (λ v. true) ps n) ≡ true) [
  | true ↦ λ e. refl
  | false ↦ λ e. cc
] h

-- whoever lays a write of the row last has its newest pair
pub head_layered : (kind : Kind) (k : Key) (by : TxnName) (ws : List Write) (below : List Version) → any_writes kind ws k ≡ true → heads (layered kind k by ws below) by
head_layered kind k by [] below has = cc
head_layered kind k by (w ∷ ws) below has = elim (any_writes kind ws k) as (λ t. any_writes kind ws k ≡ t → heads (layered kind k by ws (cond (writes_at kind w k) (record { by = by; value = value_left w } ∷ below) below)) by) [
  | true ↦ λ e. head_layered kind k by ws _ e
  | false ↦ λ e. subst (λ ps. heads ps by) (sym (layered_none kind k by ws _ e))
      (subst (λ t. heads (cond t (record { by = by; value = value_left w } ∷ below) below) by) (sym (left_one (writes_at kind w k) (any_writes kind ws k) has e)) (or_left _ _ (name_self by)))
] refl
  where
    left_one : (s t : Bool) → (s || t) ≡ true → t ≡ false → s ≡ true
    left_one true t h e = refl
    left_one false t h e = absurd (true≢false (sym h ∙ e))

-- the newest pair is of one of the commits
abbrev Heads : Kind → Key → List Commit → List Version → Type 0
Heads kind k cs below = (j : ℕ) × (d : Commit) × (slice_get cs j ≡ Some d) × heads (layered_all kind k cs below) d.by

-- a newest pair stays so, or a commit lays one on it
head_kept : (kind : Kind) (k : Key) (cs : List Commit) (below : List Version) (n : TxnName) → heads below n → (heads (layered_all kind k cs below) n) ⊎ Heads kind k cs below
head_kept kind k [] below n h = inl h
head_kept kind k (c ∷ cs) below n h = elim (any_writes kind c.writes k) as (λ t. any_writes kind c.writes k ≡ t → (heads (layered_all kind k (c ∷ cs) below) n) ⊎ Heads kind k (c ∷ cs) below) [
  | true ↦ λ e. inr (elim (head_kept kind k cs (layered kind k c.by c.writes below) c.by (head_layered kind k c.by c.writes below e)) as (λ _. Heads kind k (c ∷ cs) below) [
    | inl p ↦ (0, c, refl, p)
    | inr p ↦ (suc p.0, p.1, p.2, p.3)
  ])
  | false ↦ λ e. elim (head_kept kind k cs (layered kind k c.by c.writes below) n (subst (λ ps. heads ps n) (sym (layered_none kind k c.by c.writes below e)) h)) as (λ _. (heads (layered_all kind k (c ∷ cs) below) n) ⊎ Heads kind k (c ∷ cs) below) [
    | inl p ↦ inl p
    | inr p ↦ inr (suc p.0, p.1, p.2, p.3)
  ]
] refl

-- where a commit has written the row, the newest pair is of it or of a later one
pub last_writer : (kind : Kind) (k : Key) (cs : List Commit) (below : List Version) (i : ℕ) (c : Commit) → slice_get cs i ≡ Some c → any_writes kind c.writes k ≡ true
    → (j : ℕ) × (d : Commit) × (i ≤ j) × (slice_get cs j ≡ Some d) × heads (layered_all kind k cs below) d.by
last_writer kind k [] below i c at has = cc
last_writer kind k (b ∷ cs) below zero c at has =
    let has_b : any_writes kind b.writes k ≡ true = ap (λ (z : Commit). any_writes kind z.writes k) (some_eq b c at) ∙ has in
    elim (head_kept kind k cs (layered kind k b.by b.writes below) b.by (head_layered kind k b.by b.writes below has_b)) as (λ _. (j : ℕ) × (d : Commit) × (0 ≤ j) × (slice_get (b ∷ cs) j ≡ Some d) × heads (layered_all kind k (b ∷ cs) below) d.by) [
      | inl p ↦ (0, b, omega arith, refl, p)
      | inr p ↦ (suc p.0, p.1, omega arith, p.2, p.3)
    ]
last_writer kind k (b ∷ cs) below (suc i) c at has = let r = last_writer kind k cs (layered kind k b.by b.writes below) i c at has in (suc r.0, r.1, omega (arith, r.2), r.3, r.4)
