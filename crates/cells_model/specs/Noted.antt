-- Leaves that passes have noted, and the sweep under the index that frees retired ones.
use Rattle.std.specs.Prelude.{◌≡◌, ◌⊎◌, ℕ, ◌<◌, ◌≤◌, Bool, true, false, List, [], ◌∷◌, Option, Some, None, slice_get}
use Rattle.seat_views.specs.Keeping.{put}
use Rattle.epoch_reclaim.specs.declared.sweep.Sweep.{Sweep}
use Rattle.epoch_reclaim.specs.Pinned.{pinned_word, begun, looked_at}
use Rattle.leaf_index.specs.declared.route.Retired.{Retired}
use Rattle.leaf_index.specs.Index.{Index}
use Rattle.leaf_index.specs.Calls.{kept_of}
use Rattle.cells_model.specs.Indexed.{is_live}

abbrev pub IsAmong : {X : Type 0} → X → List X → Type 0
IsAmong x xs = (i : ℕ) × (slice_get xs i ≡ Some x)

-- the leaf was retired no sooner than this
abbrev pub IsRetiredFrom : Index → ℕ → ℕ → Type 0
IsRetiredFrom index leaf start = (r : Retired) × IsAmong r index.retired × (r.leaf ≡ leaf)
    × (start ≤ r.stamp)

-- `active`, `start` and `noted` are of the transaction that each pass has open, `sweep` is each
-- pass's sweep over the pins, and `sweeper` the pass that has held the index since before its
-- sweep began, if one has. Only that one frees.
pub record AreNoted (index : Index) (active : ℕ → Bool) (start : ℕ → ℕ) (noted : ℕ → List ℕ)
    (sweep : ℕ → Option Sweep) (sweeper : Option ℕ) : Type 0 where
  -- a noted leaf is live, or was retired no sooner than the transaction began
  pub stands : (p l : ℕ) → active p ≡ true → IsAmong l (noted p)
      → (is_live index l ≡ true) ⊎ IsRetiredFrom index l (start p)
  -- the sweeper has found each transaction with a noted leaf, among the passes at whose pins it
  -- has looked
  pub found : (s : ℕ) (w : Sweep) → sweeper ≡ Some s → sweep s ≡ Some w
      → (p l : ℕ) → p < w.looked → active p ≡ true → IsAmong l (noted p)
      → (least : ℕ) × (w.least ≡ Some least) × (least ≤ start p)

-- ---- steps

-- under an index under which nobody sweeps, a pass notes a live leaf
abbrev pub NotesLeaf : Type 0
NotesLeaf =
    (index : Index) (active : ℕ → Bool) (start : ℕ → ℕ) (noted : ℕ → List ℕ)
    (sweep : ℕ → Option Sweep)
    → AreNoted index active start noted sweep None
    → (p l : ℕ) → is_live index l ≡ true
    → AreNoted index active start (put noted p (l ∷ noted p)) sweep None

-- a pass forgets what it has noted
abbrev pub ForgetsLeaves : Type 0
ForgetsLeaves =
    (index : Index) (active : ℕ → Bool) (start : ℕ → ℕ) (noted : ℕ → List ℕ)
    (sweep : ℕ → Option Sweep) (sweeper : Option ℕ)
    → AreNoted index active start noted sweep sweeper
    → (p : ℕ) → AreNoted index active start (put noted p []) sweep sweeper

-- a transaction of a pass that has noted nothing begins, and one ends
abbrev pub BeginsNoted : Type 0
BeginsNoted =
    (index : Index) (active : ℕ → Bool) (start : ℕ → ℕ) (noted : ℕ → List ℕ)
    (sweep : ℕ → Option Sweep) (sweeper : Option ℕ)
    → AreNoted index active start noted sweep sweeper
    → (p clock : ℕ) → noted p ≡ []
    → AreNoted index (put active p true) (put start p clock) noted sweep sweeper

abbrev pub EndsNoted : Type 0
EndsNoted =
    (index : Index) (active : ℕ → Bool) (start : ℕ → ℕ) (noted : ℕ → List ℕ)
    (sweep : ℕ → Option Sweep) (sweeper : Option ℕ)
    → AreNoted index active start noted sweep sweeper
    → (p : ℕ) → AreNoted index (put active p false) start noted sweep sweeper

-- the index changes: a live leaf is so still, or is retired with a stamp above which no open
-- transaction began
abbrev pub RetiresLeaves : Type 0
RetiresLeaves =
    (index index' : Index) (active : ℕ → Bool) (start : ℕ → ℕ) (noted : ℕ → List ℕ)
    (sweep : ℕ → Option Sweep) (sweeper : Option ℕ) (stamp : ℕ)
    → AreNoted index active start noted sweep sweeper
    → ((p : ℕ) → active p ≡ true → start p ≤ stamp)
    → ((l : ℕ) → is_live index l ≡ true → (is_live index' l ≡ true)
    ⊎ ((r : Retired) × IsAmong r index'.retired × (r.leaf ≡ l) × (r.stamp ≡ stamp)))
    → ((r : Retired) → IsAmong r index.retired → IsAmong r index'.retired)
    → AreNoted index' active start noted sweep sweeper

-- a pass that has the index, under which nobody sweeps, begins a sweep; and so does one that
-- hasn't
abbrev pub SweeperBegins : Type 0
SweeperBegins =
    (index : Index) (active : ℕ → Bool) (start : ℕ → ℕ) (noted : ℕ → List ℕ)
    (sweep : ℕ → Option Sweep)
    → AreNoted index active start noted sweep None
    → (s clock : ℕ) → AreNoted index active start noted (put sweep s (Some (begun clock)))
    (Some s)

abbrev pub OtherSweepBegins : Type 0
OtherSweepBegins =
    (index : Index) (active : ℕ → Bool) (start : ℕ → ℕ) (noted : ℕ → List ℕ)
    (sweep : ℕ → Option Sweep) (sweeper : Option ℕ)
    → AreNoted index active start noted sweep sweeper
    → (s clock : ℕ) → AreNoted index active start noted (put sweep s (Some (begun clock))) sweeper

-- a sweep looks at the next pin; a transaction with a noted leaf is pinned
abbrev pub SweepLooksOn : Type 0
SweepLooksOn =
    (index : Index) (active : ℕ → Bool) (start : ℕ → ℕ) (noted : ℕ → List ℕ)
    (sweep : ℕ → Option Sweep) (sweeper : Option ℕ) (s : ℕ) (w : Sweep) (pin : ℕ)
    → AreNoted index active start noted sweep sweeper
    → sweep s ≡ Some w
    → (active w.looked ≡ true → (l : ℕ) → IsAmong l (noted w.looked)
    → pin ≡ pinned_word (start w.looked))
    → AreNoted index active start noted (put sweep s (Some (looked_at w pin))) sweeper

-- The sweeper has looked at all pins, and frees retired leaves: those with a stamp below the
-- least start that it found, or all where it found none.
abbrev pub SweeperFrees : Type 0
SweeperFrees =
    (passes : ℕ) (index index' : Index) (active : ℕ → Bool) (start : ℕ → ℕ) (noted : ℕ → List ℕ)
    (sweep : ℕ → Option Sweep) (s : ℕ) (w : Sweep)
    → AreNoted index active start noted sweep (Some s)
    → sweep s ≡ Some w → passes ≤ w.looked → ((p : ℕ) → active p ≡ true → p < passes)
    → index'.entries ≡ index.entries
    → ((least : ℕ) → w.least ≡ Some least → index'.retired ≡ kept_of least index.retired)
    → AreNoted index' active start noted sweep (Some s)

-- its sweep ends, so that others may note leaves; and another sweep ends
abbrev pub SweeperEnds : Type 0
SweeperEnds =
    (index : Index) (active : ℕ → Bool) (start : ℕ → ℕ) (noted : ℕ → List ℕ)
    (sweep : ℕ → Option Sweep) (sweeper : Option ℕ) (s : ℕ)
    → AreNoted index active start noted sweep sweeper
    → AreNoted index active start noted (put sweep s None) None

abbrev pub OtherSweepEnds : Type 0
OtherSweepEnds =
    (index : Index) (active : ℕ → Bool) (start : ℕ → ℕ) (noted : ℕ → List ℕ)
    (sweep : ℕ → Option Sweep) (sweeper : Option ℕ) (s : ℕ)
    → AreNoted index active start noted sweep sweeper
    → AreNoted index active start noted (put sweep s None) sweeper
