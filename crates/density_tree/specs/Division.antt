-- The even division of rows.
use Rattle.std.specs.Prelude.{ℕ, ◌+◌, ◌/◌, ◌%◌, cond, nat_lt, List, map}
use Rattle.std.specs.List.{range_with_len}

-- how many rows a segment gets: as many as each, and one more among the first
abbrev pub share_of : ℕ → ℕ → ℕ → ℕ
share_of rows segs seg = cond (nat_lt seg (rows % segs)) (rows / segs + 1) (rows / segs)

abbrev pub evenly : ℕ → ℕ → List ℕ
evenly rows segs = map (share_of rows segs) (range_with_len 0 segs)
