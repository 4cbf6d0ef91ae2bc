-- What the loads of a read leave of a seat's view, and what they tell.
use Rattle.std.specs.Prelude.{◌≡◌, ◌<◌, ℕ, [], ◌∷◌, Option, Some, None}
use Rattle.txn_manager.specs.declared.config.Config.{Config}
use Rattle.rule_model.specs.StoreRelationDeclared.stage.Stage.TheVariants.{Open}
use Rattle.rule_model.specs.StoreRelation.Passes.{PassState, name_at}
use Rattle.rule_model.specs.StoreRelation.Readers.{ReaderState}
use Rattle.rule_model.specs.CellsModel.Reads.{Reading, IsValidated, second_loaded, word_loaded}
use Rattle.rule_model.specs.BlockSteps.{GiveView}
use Rattle.rule_model.specs.Places.{lines}
use Rattle.rule_model.specs.Sight.{Sight, HasPass, cells_of, with_found, with_reading}
use Rattle.store_words.specs.declared.lines.Block.{Block}

-- the block of one of the store's cells, and its begin among the words
abbrev pub IsBlockOf : Config → Block → Type 0
IsBlockOf z block = (block.cell < cells_of z) × (block.begin ≡ (lines z.passes).cell block.cell)

-- a read of the cell is under way
abbrev pub IsReadOf : Sight → ℕ → Type 0
IsReadOf v cell = (q : Reading) × (v.reads.reading ≡ Some q) × (q.cell ≡ cell)

-- ---- after a load

abbrev pub reading_on : Sight → Option Reading → ℕ → ℕ → Sight
reading_on v None word n = v
reading_on v (Some q) word n = with_reading v (Some (word_loaded q word n))

-- a word of the block was loaded
abbrev pub word_read : Sight → ℕ → ℕ → Sight
word_read v word n = reading_on v v.reads.reading word n

abbrev pub reading_ended : Sight → Option Reading → ℕ → Sight
reading_ended v None n = v
reading_ended v (Some q) n = with_found v (Some (second_loaded q n)) q.cell n

-- the version word was loaded again
abbrev pub read_ended : Sight → ℕ → Sight
read_ended v n = reading_ended v v.reads.reading n

-- ---- who may be told

abbrev pub HasOpenPass : Sight → Type 0
HasOpenPass v = (p : ℕ) × (st : PassState) × HasPass v p st × (st.stage ≡ Open)

abbrev pub HasReader : Sight → Type 0
HasReader v = (x : ReaderState) × (v.readers ≡ x ∷ [])

-- where the first word was found again, an open transaction's view is given
abbrev pub PassIsTold : Config → Sight → ℕ → Type 0
PassIsTold z v n =
    (p : ℕ) (st : PassState) (q : Reading) → HasPass v p st → st.stage ≡ Open
    → v.reads.reading ≡ Some q → n ≡ q.first
    → IsValidated (GiveView z st.seen st.start st.own (name_at p st)) q

-- and a reader's
abbrev pub ReaderIsTold : Config → Sight → ℕ → Type 0
ReaderIsTold z v n =
    (x : ReaderState) (q : Reading) → v.readers ≡ x ∷ [] → v.reads.reading ≡ Some q → n ≡ q.first
    → IsValidated (GiveView z x.seen x.start x.own x.by) q
