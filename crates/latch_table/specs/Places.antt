-- Where the words of cells lie: which places are apart.
use Rattle.std.specs.Prelude.{◌≡◌, ◌≢◌, ◌⊎◌, ℕ, ◌+◌, ◌*◌, ◌<◌, ◌≤◌}

-- common cells lie side by side, behind the line of word 0
abbrev pub place_of_common : ℕ → ℕ
place_of_common number = 8 + number

-- wanted ones lie a line from the last of these, and from each other
abbrev pub place_of_wanted : ℕ → ℕ → ℕ
place_of_wanted common number = 16 + common + 8 * number

abbrev pub words_of_places : ℕ → ℕ → ℕ
words_of_places common wanted = 16 + common + 8 * wanted

-- two places are so far apart that no line has both words
abbrev pub AreApart : ℕ → ℕ → Type 0
AreApart a b = (a + 8 ≤ b) ⊎ (b + 8 ≤ a)

-- a wanted cell's word is apart from that of each other cell and from word 0, and no two cells have one word
pub record AreLaidOut (common wanted : ℕ) : Type 0 where
  pub first : (c : ℕ) → c < common → AreApart 0 (place_of_common c)
  pub zero : (w : ℕ) → w < wanted → AreApart 0 (place_of_wanted common w)
  pub common_apart : (c w : ℕ) → c < common → w < wanted
      → AreApart (place_of_common c) (place_of_wanted common w)
  pub wanted_apart : (v w : ℕ) → v < wanted → w < wanted → v ≢ w
      → AreApart (place_of_wanted common v) (place_of_wanted common w)
  pub each_once : (c d : ℕ) → c < common → d < common → place_of_common c ≡ place_of_common d → c ≡ d
  pub common_inside : (c : ℕ) → c < common → place_of_common c < words_of_places common wanted
  pub wanted_inside : (w : ℕ) → w < wanted → place_of_wanted common w < words_of_places common wanted

abbrev pub PlacesAreApart : Type 0
PlacesAreApart = (common wanted : ℕ) → AreLaidOut common wanted
