-- A try from its first load to its answer.
use Rattle.std.proofs.Common.{◌≡◌, ◌≢◌, inl, inr, ℕ, ◌+◌, ◌-◌, ◌%◌, List, [], ◌∷◌, refl, sym, ◌∙◌, ap, cond, arith, Option, Some, None}
use Rattle.std.specs.Prelude.{Bool, true, false, ◌==◌}
use Rattle.std.proofs.lemmas.Bool.Decides.{nat_tests}
use Rattle.atomic_table.specs.declared.shared.Seat.{Seat}
use Rattle.graph_model.specs.declared.journal.TxnName.{TxnName}
use Rattle.graph_model.specs.declared.row.Key.{Key}
use Rattle.graph_model.specs.Graph.{Graph, has_vertex, weight_of}
use Rattle.graph_model.specs.History.{view}
use Rattle.graph_model.specs.Rows.{arc_key, value_at}
use Rattle.txn_manager.specs.declared.config.Config.{Config}
use Rattle.seat_views.specs.Keeping.{kept_at}
use Rattle.seat_views.proofs.NumberLemmas.{same_number}
use Rattle.store_model.specs.Stamped.{Stamped, StampedVersions, read_stamped}
use Rattle.pass_steps.specs.VersionSegment.Resting.{newest_value}
use Rattle.pass_steps.specs.VersionSegment.Rows.{VersionedRows, versions_at}
use Rattle.pass_steps.specs.StoreRelationDeclared.stage.Stage.TheVariants.{Open}
use Rattle.pass_steps.specs.StoreRelation.Passes.{PassState, name_at}
use Rattle.pass_steps.specs.CellsModel.Indexed.{covers}
use Rattle.pass_steps.specs.CellsModel.Reads.{Reading, first_loaded, second_loaded}
use Rattle.pass_steps.specs.CellsModel.Words.{Spells}
use Rattle.pass_steps.specs.RuleModel.Sight.{HasPass, Sight, with_found}
use Rattle.pass_steps.specs.StoreWords.Reads.{HasOpenPass, PassIsTold, read_ended, reading_ended}
use Rattle.pass_steps.specs.StoreWords.Steps.{Knows}
use Rattle.optimistic_read.specs.declared.decode.LookedUp.{LookedUp}
use Rattle.optimistic_read.specs.declared.tried.Tried.{Tried}
use Rattle.optimistic_read.specs.declared.tried.Tried.TheVariants.{Value, Busy, Chained, Moved}
use Rattle.optimistic_read.specs.Reads.{IsLookedUp, IsReadingOn, IsStill, IsValid, StillReads, begun_read}
use Rattle.optimistic_read.specs.Tried.{IsBusy, IsRead, IsTried, IsValueOf, SeatReads, decoded, is_chained}

-- ---- the view is as it was, but for its reads

abbrev IsAside : Sight → Sight → Type 0
IsAside a b = b ≡ record a { reads = b.reads }

found_aside : (a b : Sight) (o : Option Reading) (k n : ℕ) → b ≡ with_found a o k n → IsAside a b
found_aside a b o k n is = is ∙ ap (λ (u : Sight). record a { reads = u.reads }) (sym is)

still_aside : (a b : Sight) → IsStill a b → IsAside a b
still_aside a b still = still ∙ ap (λ (u : Sight). record a { reads = u.reads }) (sym still)

aside_then : (a b c : Sight) → IsAside a b → IsAside b c → IsAside a c
aside_then a b c first then = then ∙ ap (λ (u : Sight). record u { reads = c.reads }) first

aside_pass : (a b : Sight) (p : ℕ) (st : PassState) → IsAside a b → HasPass a p st → HasPass b p st
aside_pass a b p st aside has = (λ i. kept_at (aside i).passes p) ∙ has

-- ---- the first load

-- an even word begins a read
pub begun_by : (cell first : ℕ) (old new : Sight) → new ≡ with_found old (first_loaded cell first) cell first
    → first % 2 ≡ 0 → new.reads.reading ≡ begun_read cell first
begun_by cell first old new is even =
    (λ i. (is i).reads.reading)
    ∙ ap (λ (n : ℕ). cond (n == 0) (begun_read cell first) None) even

-- an odd one is the answer
pub busy_at_once : (cell first : ℕ) (old new : Sight) → new ≡ with_found old (first_loaded cell first) cell first
    → first % 2 ≡ 1 → IsBusy cell cell first first old.reads.found new.reads.found
busy_at_once cell first old new is odd = (refl, inr (odd, refl, λ i. (is i).reads.found))

pub seat_at_once : (cell first : ℕ) (old new : Seat (Unit {0}) Sight)
    → Knows old new (with_found old.me.0 (first_loaded cell first) cell first) → SeatReads old new
seat_at_once cell first old new knows = record {
  table = knows.table;
  view = found_aside old.me.0 new.me.0 (first_loaded cell first) cell first (λ i. (knows.me i).0);
  slots = λ i. (knows.me i).1;
}

-- ---- all loads

module _ (cell first second : ℕ) (s0 s1 s2 s3 : Seat (Unit {0}) Sight)
    (begun : Knows s0 s1 (with_found s0.me.0 (first_loaded cell first) cell first))
    (still : StillReads s1 s2) (ended : Knows s2 s3 (read_ended s2.me.0 second)) where
  before : IsAside s0.me.0 s2.me.0
  before = aside_then s0.me.0 s1.me.0 s2.me.0
      (found_aside s0.me.0 s1.me.0 (first_loaded cell first) cell first (λ i. (begun.me i).0))
      (still_aside s1.me.0 s2.me.0 still.view)

  pub pass_there : (p : ℕ) (st : PassState) → HasPass s0.me.0 p st → HasPass s2.me.0 p st
  pass_there p st has = aside_pass s0.me.0 s2.me.0 p st before has

  pub open_there : HasOpenPass s0.me.0 → HasOpenPass s2.me.0
  open_there opened = (opened.0, opened.1, pass_there opened.0 opened.1 opened.2, opened.3)

  pub readers_there : s2.me.0.readers ≡ s0.me.0.readers
  readers_there i = (before i).readers

  module _ (knows : VersionedRows → Type 0) (x : IsReadingOn cell first s2.me.0 knows) where
    ended_is : s3.me.0 ≡ with_found s2.me.0 (Some (second_loaded x.reading second)) x.reading.cell second
    ended_is = (λ i. (ended.me i).0) ∙ ap (λ o. reading_ended s2.me.0 o second) x.is

    pub seat_after : SeatReads s0 s3
    seat_after = record {
      table = ended.table ∙ still.table ∙ begun.table;
      view = aside_then s0.me.0 s2.me.0 s3.me.0 before
          (found_aside s2.me.0 s3.me.0 (Some (second_loaded x.reading second)) x.reading.cell second ended_is);
      slots = (λ i. (ended.me i).1) ∙ still.slots ∙ (λ i. (begun.me i).1);
    }

    -- both words were found
    pub found_both : s3.me.0.reads.found
        ≡ record { cell = cell; word = second } ∷ record { cell = cell; word = first } ∷ s0.me.0.reads.found
    found_both =
        (λ i. (ended_is i).reads.found)
        ∙ (λ i. record { cell = x.cell_is i; word = second } ∷ (still.view i).reads.found)
        ∙ (λ i. record { cell = cell; word = second } ∷ (begun.me i).0.reads.found)

    pub busy_after : second ≢ first → IsBusy cell cell first second s0.me.0.reads.found s3.me.0.reads.found
    busy_after other = (refl, inl ((λ e. other (sym e)), found_both))

    pub valid_now : second ≡ first → IsValid s3.me.0 cell
    valid_now same = record {
      reading = second_loaded x.reading second;
      is = λ i. (ended_is i).reads.reading;
      cell_is = x.cell_is;
      valid = ap (λ m. second == m) (x.first_is ∙ sym same) ∙ same_number second;
    }

-- ---- the answer

-- contents make no key busy
never_busy : (b c : Bool) (cell : ℕ) (key low high : Key) (value : Option ℕ) (k m n : ℕ)
    → Busy k m n ≡ cond b (cond c (Chained cell key) (Value value)) (Moved low high) → ⊥
never_busy true true cell key low high value k m n e = cc
never_busy true false cell key low high value k m n e = cc
never_busy false c cell key low high value k m n e = cc

tried_of : (z : Config) (p : ℕ) (st : PassState) (old new : Sight) (cell : ℕ) (key : Key) (t : Tried)
    → IsRead z p st old new cell key t → IsTried z p st old new cell key t
tried_of z p st old new cell key (Value weight) r = r
tried_of z p st old new cell key (Chained c k) r = r
tried_of z p st old new cell key (Moved low high) r = r
tried_of z p st old new cell key (Busy c m n) r =
    absurd (never_busy (covers r.contents key) (is_chained (versions_at r.contents key)) cell key r.contents.low
    r.contents.high (newest_value (versions_at r.contents key)) c m n r.answer_is)

pub answered : (z : Config) (cell first second : ℕ) (key : Key) (s0 s1 s2 s3 : Seat (Unit {0}) Sight) (l : LookedUp)
    (t : Tried) (p : ℕ) (st : PassState)
    → Knows s0 s1 (with_found s0.me.0 (first_loaded cell first) cell first) → StillReads s1 s2
    → Knows s2 s3 (read_ended s2.me.0 second) → IsReadingOn cell first s2.me.0 (IsLookedUp l key)
    → PassIsTold z s2.me.0 second → first % 2 ≡ 0 → second ≡ first
    → ((block : List ℕ) (s : VersionedRows) → Spells block s → IsLookedUp l key s → t ≡ decoded s cell key)
    → HasPass s0.me.0 p st → st.stage ≡ Open → IsTried z p st s0.me.0 s3.me.0 cell key t
answered z cell first second key s0 s1 s2 s3 l t p st begun still ended x told even same decodes has stage =
    let there = pass_there cell first second s0 s1 s2 s3 begun still ended p st has in
    let h = told p st x.reading there stage x.is (same ∙ sym x.first_is) in
    tried_of z p st s0.me.0 s3.me.0 cell key t (record {
      again = record {
        word = first;
        even = even;
        twice = found_both cell first second s0 s1 s2 s3 begun still ended (IsLookedUp l key) x
            ∙ (λ i. record { cell = cell; word = same i } ∷ record { cell = cell; word = first }
            ∷ s0.me.0.reads.found);
      };
      contents = h.segment;
      gives = h.fact;
      answer_is = decodes h.block h.segment h.spells (x.fact h.block h.segment h.loaded h.spells);
    })

-- ---- the value

-- a row without records is read as it stands
read_settled : (stamps : TxnName → Option ℕ) (start : ℕ) (own : TxnName) (pairs touches : List Stamped)
    (oldest : Option ℕ) → is_chained (record { pairs = pairs; oldest = oldest; touches = touches }) ≡ false
    → newest_value (record { pairs = pairs; oldest = oldest; touches = touches })
    ≡ read_stamped stamps start own (record { pairs = pairs; oldest = oldest; touches = touches })
read_settled stamps start own [] touches oldest free = refl
read_settled stamps start own (p ∷ ps) touches oldest free = cc

abbrev weight_in : Tried → Option ℕ
weight_in (Value weight) = weight
weight_in (Busy c m n) = None
weight_in (Chained c k) = None
weight_in (Moved low high) = None

module _ (z : Config) (p : ℕ) (st : PassState) (old new : Sight) (cell : ℕ) (key : Key) where
  value_of : (weight : Option ℕ) → IsRead z p st old new cell key (Value weight)
      → weight ≡ value_at (view z.kind st.seen st.start st.own) key
  value_of weight r =
      by_tests (covers r.contents key) (is_chained (versions_at r.contents key)) refl refl r.answer_is
    where
      vs : StampedVersions
      vs = versions_at r.contents key

      by_tests : (b c : Bool) → covers r.contents key ≡ b → is_chained vs ≡ c
          → Value weight ≡ cond b (cond c (Chained cell key) (Value (newest_value vs)))
          (Moved r.contents.low r.contents.high)
          → weight ≡ value_at (view z.kind st.seen st.start st.own) key
      by_tests true true within chain e = cc
      by_tests false c within chain e = cc
      by_tests true false within chain e =
          ap weight_in e ∙ read_settled _ st.start (name_at p st) vs.pairs vs.touches vs.oldest chain
          ∙ r.gives key within

  pub value_is : (t : Tried) → IsTried z p st old new cell key t
      → IsValueOf t (value_at (view z.kind st.seen st.start st.own) key)
  value_is (Value weight) r = value_of weight r
  value_is (Busy c m n) r = tt
  value_is (Chained c k) r = tt
  value_is (Moved low high) r = tt

-- what a graph has at the key of an arc is its weight
pub arc_value : (g : Graph) (u v : ℕ) → value_at g (arc_key u v) ≡ weight_of g u v
arc_value g u v =
    let some : (v + 1 == 0) ≡ false = grind (arith, nat_tests) in
    let less : v + 1 - 1 ≡ v = omega arith in
    ap (λ t. cond t (cond (has_vertex g u) (Some 0) None) (weight_of g u (v + 1 - 1))) some ∙ ap (weight_of g u) less
