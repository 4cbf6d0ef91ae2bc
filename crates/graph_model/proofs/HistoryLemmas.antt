-- Graphs of longer lists of writes and commits; and that what was allowed at a start is allowed later, where no writer clashes.
use Rattle.std.proofs.Common.{◌≡◌, ℕ, zero, suc, ◌+◌, ◌<◌, ◌≤◌, List, [], ◌∷◌, ◌++◌, length, take, drop, refl, sym, ◌∙◌, ap, subst, arith}
use Rattle.std.specs.Prelude.{false, slice_get, Option, Some, None}
use Rattle.std.specs.List.{AllByRecursion}
use Rattle.std.proofs.Math.Seq.{take-add}
use Rattle.std.proofs.lemmas.Bool.{or_parts}
use Rattle.std.proofs.lemmas.Grind.{flat_map-append}
use Rattle.graph_model.specs.declared.write.Kind.{Kind}
use Rattle.graph_model.specs.declared.write.Write.{Write}
use Rattle.graph_model.specs.declared.journal.Commit.{Commit}
use Rattle.graph_model.specs.Graph.{Graph, empty_graph, apply, apply_all, HasBothEnds}
use Rattle.graph_model.specs.Refused.{refused, AllAllowed}
use Rattle.graph_model.specs.History.{graph_at, writes_of}
use Rattle.graph_model.specs.Legal.{have_clash}
use Rattle.graph_model.specs.Conflict.{meets}
use Rattle.graph_model.proofs.WriteLemmas.{commute, still_allowed, keeps_ends}
use Rattle.graph_model.proofs.ClashLemmas.{clash-symm}

-- ---- longer lists of writes

-- a list of writes and then another
pub apply_all-append : (kind : Kind) (g : Graph) (xs ys : List Write) → apply_all kind g (xs ++ ys) ≡ apply_all kind (apply_all kind g xs) ys
apply_all-append kind g [] ys = refl
apply_all-append kind g (x ∷ xs) ys = apply_all-append kind (apply kind g x) xs ys

-- what each item of a list has, one more at its end has too
pub all_more : {X : Type 0} (P : X → Type 0) (xs : List X) (x : X) → AllByRecursion P xs → P x → AllByRecursion P (xs ++ x ∷ [])
all_more P [] x all is = (is, tt)
all_more P (y ∷ xs) x all is = (all.0, all_more P xs x all.1 is)

-- a write that isn't refused behind a list of allowed ones is allowed
pub allowed_more : (kind : Kind) (g : Graph) (ws : List Write) (w : Write) → AllAllowed kind g ws → refused (apply_all kind g ws) w ≡ None → AllAllowed kind g (ws ++ w ∷ [])
allowed_more kind g [] w all is = (is, tt)
allowed_more kind g (x ∷ ws) w all is = (all.0, allowed_more kind (apply kind g x) ws w all.1 is)

-- allowed writes keep both ends of each arc vertices
pub ends_after : (kind : Kind) (g : Graph) (ws : List Write) → AllAllowed kind g ws → HasBothEnds g → HasBothEnds (apply_all kind g ws)
ends_after kind g [] all ends = ends
ends_after kind g (w ∷ ws) all ends = ends_after kind (apply kind g w) ws all.1 (keeps_ends kind g w all.0 ends)

-- ---- writes of another that don't clash

-- a write commutes with a list of writes with which it doesn't clash
pub commute_one : (kind : Kind) (x : Write) (ws : List Write) (g : Graph) → meets kind x ws ≡ false → apply_all kind (apply kind g x) ws ≡ apply kind (apply_all kind g ws) x
commute_one kind x [] g away = refl
commute_one kind x (w ∷ ws) g away =
    let p = or_parts _ _ away in
    ap (λ h. apply_all kind h ws) (commute kind x w p.0 g) ∙ commute_one kind x ws (apply kind g w) p.1

-- two lists of writes that don't clash commute
pub commute_all : (kind : Kind) (xs ys : List Write) (g : Graph) → have_clash kind xs ys ≡ false → apply_all kind (apply_all kind g xs) ys ≡ apply_all kind (apply_all kind g ys) xs
commute_all kind [] ys g away = refl
commute_all kind (x ∷ xs) ys g away =
    let p = or_parts _ _ away in
    commute_all kind xs ys (apply kind g x) p.1 ∙ ap (λ h. apply_all kind h xs) (commute_one kind x ys g p.0)

-- another's write that clashes with none of them leaves all allowed
pub behind_one : (kind : Kind) (g : Graph) (x : Write) (ws : List Write) → refused g x ≡ None → meets kind x ws ≡ false → AllAllowed kind g ws → AllAllowed kind (apply kind g x) ws
behind_one kind g x [] is away all = tt
behind_one kind g x (w ∷ ws) is away all =
    let p = or_parts _ _ away in (
      still_allowed kind g x w p.0 is all.0,
      subst (λ h. AllAllowed kind h ws) (sym (commute kind x w p.0 g)) (behind_one kind (apply kind g w) x ws (still_allowed kind g w x (clash-symm kind w x ∙ p.0) all.0 is) p.1 all.1),
    )

-- another's writes that clash with none of them leave all allowed
pub behind_all : (kind : Kind) (g : Graph) (xs ws : List Write) → AllAllowed kind g xs → have_clash kind xs ws ≡ false → AllAllowed kind g ws → AllAllowed kind (apply_all kind g xs) ws
behind_all kind g [] ws all_x away all = all
behind_all kind g (x ∷ xs) ws all_x away all =
    let p = or_parts _ _ away in
    behind_all kind (apply kind g x) xs ws all_x.1 p.1 (behind_one kind g x ws all_x.0 p.0 all)

-- ---- graphs at later stamps

-- the graph so many commits later
pub graph_at-more : (kind : Kind) (journal : List Commit) (n m : ℕ) → graph_at kind journal (n + m) ≡ apply_all kind (graph_at kind journal n) (writes_of (take m (drop n journal)))
graph_at-more kind journal n m =
    ap (λ cs. apply_all kind empty_graph (writes_of cs)) (take-add n m journal)
    ∙ ap (apply_all kind empty_graph) (flat_map-append (λ (c : Commit). c.writes) (take n journal) (take m (drop n journal)))
    ∙ apply_all-append kind empty_graph (writes_of (take n journal)) (writes_of (take m (drop n journal)))

take_one : {X : Type 0} (xs : List X) (x : X) → slice_get xs 0 ≡ Some x → take 1 xs ≡ x ∷ []
take_one [] x e = cc
take_one {X = X} (y ∷ xs) x e = let is : ◌≡◌ {A = Option X} (Some y) (Some x) = e in let same : y ≡ x = cc in ap (λ z. z ∷ []) same

get_at : {X : Type 0} (n : ℕ) (xs : List X) (x : X) → slice_get xs n ≡ Some x → slice_get (drop n xs) 0 ≡ Some x
get_at zero xs x e = e
get_at (suc n) [] x e = cc
get_at (suc n) (y ∷ xs) x e = get_at n xs x e

append_none : {X : Type 0} (xs : List X) → xs ++ [] ≡ xs
append_none [] = refl
append_none (x ∷ xs) = ap (λ ys. x ∷ ys) (append_none xs)

-- the graph at the next stamp is that under the next commit's writes
pub graph_at-next : (kind : Kind) (journal : List Commit) (i : ℕ) (c : Commit) → slice_get journal i ≡ Some c → graph_at kind journal (i + 1) ≡ apply_all kind (graph_at kind journal i) c.writes
graph_at-next kind journal i c at =
    graph_at-more kind journal i 1
    ∙ ap (λ cs. apply_all kind (graph_at kind journal i) (writes_of cs)) (take_one (drop i journal) c (get_at i journal c at))
    ∙ ap (apply_all kind (graph_at kind journal i)) (append_none c.writes)

-- a place below the length has an item
pub get_within : {X : Type 0} (xs : List X) (i : ℕ) → i < length xs → (x : X) × (slice_get xs i ≡ Some x)
get_within [] i lt = absurd (omega arith)
get_within (x ∷ xs) zero lt = (x, refl)
get_within (x ∷ xs) (suc i) lt = get_within xs i (omega arith)

-- what each item of a list has, the one at a place has
pub each_item : {X : Type 0} (P : X → Type 0) (xs : List X) → AllByRecursion P xs → (i : ℕ) (x : X) → slice_get xs i ≡ Some x → P x
each_item P [] all i x at = cc
each_item {X = X} P (y ∷ xs) all zero x at = let is : ◌≡◌ {A = Option X} (Some y) (Some x) = at in let same : y ≡ x = cc in subst P same all.0
each_item P (y ∷ xs) all (suc i) x at = each_item P xs all.1 i x at

-- Writes that were allowed at a start, and that clash with no commit since, are allowed up to a later stamp.
module _ (kind : Kind) (journal : List Commit) (ws : List Write) (start limit : ℕ) (within : limit ≤ length journal)
    (serial : (i : ℕ) (c : Commit) → i < limit → slice_get journal i ≡ Some c → AllAllowed kind (graph_at kind journal i) c.writes)
    (before : (i : ℕ) (c : Commit) → i < limit → slice_get journal i ≡ Some c → start ≤ i → have_clash kind c.writes ws ≡ false)
    (allowed : AllAllowed kind (graph_at kind journal start) ws) where
  pub allowed_up_to : (m : ℕ) → start + m ≤ limit → AllAllowed kind (graph_at kind journal (start + m)) ws
  allowed_up_to zero le = let same : start + 0 ≡ start = omega arith in subst (λ n. AllAllowed kind (graph_at kind journal n) ws) (sym same) allowed
  allowed_up_to (suc m) le =
      let at = get_within journal (start + m) (omega arith) in
      let next : start + suc m ≡ start + m + 1 = omega arith in
      subst (λ g. AllAllowed kind g ws) (sym (ap (graph_at kind journal) next ∙ graph_at-next kind journal (start + m) at.0 at.1))
      (behind_all kind (graph_at kind journal (start + m)) at.0.writes ws (serial (start + m) at.0 (omega arith) at.1) (before (start + m) at.0 (omega arith) at.1 (omega arith)) (allowed_up_to m (omega arith)))

-- The same up to the end.
module _ (kind : Kind) (journal : List Commit) (ws : List Write) (start : ℕ)
    (serial : (i : ℕ) (c : Commit) → slice_get journal i ≡ Some c → AllAllowed kind (graph_at kind journal i) c.writes)
    (before : (i : ℕ) (c : Commit) → slice_get journal i ≡ Some c → start ≤ i → have_clash kind c.writes ws ≡ false)
    (allowed : AllAllowed kind (graph_at kind journal start) ws) where
  pub allowed_later : (m : ℕ) → start + m ≤ length journal → AllAllowed kind (graph_at kind journal (start + m)) ws
  allowed_later = allowed_up_to kind journal ws start (length journal) (omega arith) (λ i c below at. serial i c at) (λ i c below at from. before i c at from) allowed
