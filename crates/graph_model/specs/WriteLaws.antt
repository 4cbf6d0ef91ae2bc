-- Laws of writes: what they keep, when they clash, and what they do key by key. Each is the contract of
-- a function in `laws`.
use Rattle.std.specs.Prelude.{◌≡◌, ◌↔◌, ◌⊎◌, ℕ, true, false, cond, List, None}
use Rattle.graph_model.specs.declared.write.Kind.{Kind}
use Rattle.graph_model.specs.declared.write.Kind.TheVariants.{Undirected}
use Rattle.graph_model.specs.declared.write.Write.{Write}
use Rattle.graph_model.specs.declared.write.Write.TheVariants.{DropVertex}
use Rattle.graph_model.specs.declared.row.Key.{Key}
use Rattle.graph_model.specs.Items.{cuts_off, clash}
use Rattle.graph_model.specs.Graph.{Graph, apply, apply_all, HasBothEnds, IsSymmetric}
use Rattle.graph_model.specs.Refused.{refused, AllAllowed}
use Rattle.graph_model.specs.Legal.{have_clash}
use Rattle.graph_model.specs.Rows.{vertex_key, arc_key, value_at}
use Rattle.graph_model.specs.Effects.{value_left, writes_at, touches_at, value_after}

-- ---- writes

-- an allowed write keeps both ends of each arc vertices
abbrev pub KeepsBothEnds : Type 0
KeepsBothEnds = (kind : Kind) (g : Graph) (w : Write) → refused g w ≡ None → HasBothEnds g
    → HasBothEnds (apply kind g w)

-- a write keeps an undirected graph symmetric in arcs and weights
abbrev pub KeepsSymmetric : Type 0
KeepsSymmetric = (g : Graph) (w : Write) → IsSymmetric g → IsSymmetric (apply Undirected g w)

-- two writes that don't clash lead to one graph in either order
abbrev pub WritesCommute : Type 0
WritesCommute = (kind : Kind) (g : Graph) (x y : Write) → clash kind x y ≡ false
    → apply kind (apply kind g x) y ≡ apply kind (apply kind g y) x

-- of two allowed writes that don't clash, the one is still allowed behind the other
abbrev pub StaysAllowed : Type 0
StaysAllowed = (kind : Kind) (g : Graph) (x y : Write) → clash kind x y ≡ false → refused g x ≡ None
    → refused g y ≡ None → refused (apply kind g x) y ≡ None

-- either of two writes may stand first
abbrev pub ClashIsSymmetric : Type 0
ClashIsSymmetric = (kind : Kind) (x y : Write) → clash kind x y ≡ clash kind y x

-- two lists of writes that don't clash lead to one graph in either order
abbrev pub ListsCommute : Type 0
ListsCommute = (kind : Kind) (g : Graph) (xs ys : List Write) → have_clash kind xs ys ≡ false
    → apply_all kind (apply_all kind g xs) ys ≡ apply_all kind (apply_all kind g ys) xs

-- of two lists of allowed writes that don't clash, the one is still allowed behind the other
abbrev pub ListsStayAllowed : Type 0
ListsStayAllowed = (kind : Kind) (g : Graph) (xs ys : List Write) → have_clash kind xs ys ≡ false
    → AllAllowed kind g xs → AllAllowed kind g ys → AllAllowed kind (apply_all kind g xs) ys

-- ---- writes, key by key

-- after a write a key has what the write leaves there, or what it had
abbrev pub WriteByKey : Type 0
WriteByKey = (kind : Kind) (g : Graph) (w : Write) (q : Key)
    → value_at (apply kind g w) q ≡ cond (writes_at kind w q) (value_left w) (value_at g q)

-- after a list of writes it has what the list leaves there
abbrev pub WritesByKey : Type 0
WritesByKey = (kind : Kind) (g : Graph) (ws : List Write) (q : Key)
    → value_at (apply_all kind g ws) q ≡ value_after kind ws q (value_at g q)

-- a vertex is touched by the writes that its removal would cut off, and an arc by none
abbrev pub TouchesAreOfVertices : Type 0
TouchesAreOfVertices = (w : Write) (u v : ℕ) → (touches_at w (vertex_key v) ≡ cuts_off (DropVertex v) w)
    × (touches_at w (arc_key u v) ≡ false)

-- they write one row
abbrev pub ShareARow : Kind → Write → Write → Type 0
ShareARow kind x y = (q : Key) × (writes_at kind x q ≡ true) × (writes_at kind y q ≡ true)

-- the first removes a vertex that the second touches
abbrev pub RemovesTouched : Write → Write → Type 0
RemovesTouched x y = (v : ℕ) × (x ≡ DropVertex v) × (touches_at y (vertex_key v) ≡ true)

-- one of the three
abbrev pub ClashesByRow : Kind → Write → Write → Type 0
ClashesByRow kind x y = ShareARow kind x y ⊎ RemovesTouched x y ⊎ RemovesTouched y x

-- what a clash is, by rows: a row has one writer, and none that touches it while another removes it
abbrev pub ClashIsByRow : Type 0
ClashIsByRow = (kind : Kind) (x y : Write) → (clash kind x y ≡ true) ↔ ClashesByRow kind x y
