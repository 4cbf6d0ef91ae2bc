-- The limits, each written out once more: a constant that is changed by mistake is changed in one place alone.
use Rattle.std.specs.Prelude.{◌≡◌}
use Rattle.graph_model.specs.declared.limits.TheConstants.{MAX_ID, MAX_WEIGHT, NO_WALK, MAX_LOAD_ROWS, MAX_SOURCE_BYTES, MAX_LEAVES, SPLIT_ROWS, SEGMENT_ROWS, LEAF_SEGMENTS, MAX_PASSES, MAX_TXNS_PER_PASS, MAX_SCRIPTS, MAX_BEGINS, MAX_THREADS, SCAN_ROWS, MAX_ROUNDS}

pub record LimitsAre : Type 0 where
  pub max_id : MAX_ID ≡ 9223372036854775806
  pub max_weight : MAX_WEIGHT ≡ 4294967295
  pub no_walk : NO_WALK ≡ 9223372036854775807
  pub max_load_rows : MAX_LOAD_ROWS ≡ 8388608
  pub max_source_bytes : MAX_SOURCE_BYTES ≡ 1073741824
  pub max_leaves : MAX_LEAVES ≡ 131072
  pub split_rows : SPLIT_ROWS ≡ 103
  pub segment_rows : SEGMENT_ROWS ≡ 32
  pub leaf_segments : LEAF_SEGMENTS ≡ 8
  pub max_passes : MAX_PASSES ≡ 64
  pub max_txns_per_pass : MAX_TXNS_PER_PASS ≡ 4294967295
  pub max_scripts : MAX_SCRIPTS ≡ 60
  pub max_begins : MAX_BEGINS ≡ 16777216
  pub max_threads : MAX_THREADS ≡ 32
  pub scan_rows : SCAN_ROWS ≡ 64
  pub max_rounds : MAX_ROUNDS ≡ 1000000
