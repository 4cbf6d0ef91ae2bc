-- Clap takes words exactly where its definition has no fault to answer, step by step.
use Rattle.std.proofs.Common.{◌≡◌, ◌∙◌, ◌+◌, ◌&&◌, ◌||◌, ℕ, Bool, true, false, not, zero, suc, refl, sym, ap, ap₂, arith, List, [], ◌∷◌, length, drop, min, nat_le, Option, Some, None, is_some, codes}
use Rattle.std.specs.Prelude.{encode_utf8, slice_get, if◌then◌else◌}
use Rattle.std.specs.List.{find, list_all, list_any}
use Rattle.std.specs.Option.{option_map_or}
use Rattle.std.specs.Str.{bytes_eq, chars}
use Rattle.std.proofs.lemmas.Bool.Decides.{nat_tests}
use Rattle.clap.specs.Facts.{explicit_source, parser_of_value, unwrap_or_range}
use Rattle.clap.specs.Lexer.{long_of, short_of}
use Rattle.clap.specs.Values.{is_request}
use Rattle.clap.specs.ValueTests.{accepts}
use Rattle.clap.specs.Matches.{count_text}
use Rattle.clap.specs.Walk.{Held, Names, Row, Rule, Step, Text, Walk, action_of, answers_to, arg_by_id, arg_by_index, arg_by_long, arg_by_short, attached_value, count_of, finished, has_row, is_empty, is_pending, most_values, next, nothing_held, reacted, settled, subcommand, subcommand_met, takes_several, takes_values, trailing, value, values_or_missing, walk, walk_from, walked, with_default, word_met}
use Rattle.clap.specs.Simple.{App, Shape, argument_words, built, entered, is_simple, label_of, names_of}
use Rattle.clap.specs.Takes.{action_passes, built_takes, bundle_step_passes, count_passes, default_passes, entered_passes, flag_word_passes, flags_pass, is_given, is_valid, level_passes, long_passes, option_passes, other_passes, positional_passes, react_passes, settle_passes, short_passes, step_passes, takes, turn_passes, use_passes, values_pass, walk_passes}
use Rattle.clap.specs.Kinds.{Kinds, check_kinds, or_else, range_kinds, request_kinds}
use Rattle.clap.specs.Faults.{action_fault, bundle_step_fault, check_fault, count_fault, default_fault, defaults_fault, entered_fault, fault_of, flag_word_fault, flags_fault, has_free_rules, level_fault, long_fault, option_fault, other_fault, positional_fault, react_fault, settle_fault, short_fault, step_fault, stray_fault, turn_fault, use_fault, values_fault, walk_fault}
use Rattle.clap.specs.declared.builder.action.ArgAction.{ArgAction}
use Rattle.clap.specs.declared.builder.action.ArgAction.TheVariants.{Set, Append, SetTrue, SetFalse, Count, Help, HelpShort, HelpLong, Version}
use Rattle.clap.specs.declared.error.kind.ErrorKind.{ErrorKind}
use Rattle.clap.specs.declared.error.kind.ErrorKind.TheVariants as kind

-- no fault comes
abbrev pub is_none : Kinds → Bool
is_none [] = true
is_none (k ∷ ks) = false

-- ---- choices

both : (a b : Kinds) (x y : Bool) → is_none a ≡ x → is_none b ≡ y → is_none (or_else a b) ≡ (x && y)
both [] b x y is also = ap₂ (λ p q. p && q) is also
both (k ∷ ks) b x y is also = ap (λ p. p && y) is

unless : (test : Bool) (k : ErrorKind) → is_none (if test then [] else k ∷ []) ≡ test
unless true k = refl
unless false k = refl

past : (test : Bool) (a : Kinds) (x : Bool) → is_none a ≡ x → is_none (if test then [] else a) ≡ (test || x)
past true a x is = refl
past false a x is = is

guarded : (test : Bool) (k : ErrorKind) (a : Kinds) (x : Bool) → is_none a ≡ x → is_none (if test then k ∷ [] else a) ≡ (not test && x)
guarded true k a x is = refl
guarded false k a x is = is

either : (test : Bool) (a b : Kinds) (x y : Bool) → is_none a ≡ x → is_none b ≡ y → is_none (if test then a else b) ≡ (if test then x else y)
either true a b x y is also = is
either false a b x y is also = also

-- ---- values

values_agree : (a : Rule) (vs : List Text) → is_none (values_fault a vs) ≡ values_pass a vs
values_agree a [] = refl
values_agree a (v ∷ vs) = both _ _ _ _ (unless (accepts a.ignore_case (parser_of_value a.parser) v) _) (values_agree a vs)

count_agrees : (a : Rule) (vs : List Text) (rows : List Row) → is_none (count_fault a vs rows) ≡ count_passes a vs rows
count_agrees a [] rows = unless (accepts a.ignore_case (parser_of_value a.parser) (count_text (min (count_of a.id rows + 1) 255))) _
count_agrees a (v ∷ vs) rows = values_agree a (v ∷ vs)

repeat_agrees : (has again : Bool) → is_none (if has && not again then kind.ArgumentConflict ∷ [] else []) ≡ (not has || again)
repeat_agrees true true = refl
repeat_agrees true false = refl
repeat_agrees false again = refl

action_agrees : (x : ArgAction) (again : Bool) (a : Rule) (vs : List Text) (rows : List Row) → is_none (action_fault x again a vs rows) ≡ action_passes x again a vs rows
action_agrees Set again a vs rows = both _ _ _ _ (repeat_agrees (has_row a.id rows) again) (values_agree a vs)
action_agrees SetTrue again a vs rows = both _ _ _ _ (repeat_agrees (has_row a.id rows) again) (values_agree a vs)
action_agrees SetFalse again a vs rows = both _ _ _ _ (repeat_agrees (has_row a.id rows) again) (values_agree a vs)
action_agrees Append again a vs rows = values_agree a vs
action_agrees Count again a vs rows = count_agrees a vs rows
action_agrees Help again a vs rows = refl
action_agrees HelpShort again a vs rows = refl
action_agrees HelpLong again a vs rows = refl
action_agrees Version again a vs rows = refl

range_agrees : (least most n : ℕ) → is_none (range_kinds least most n) ≡ (nat_le least n && nat_le n most)
range_agrees least most n = grind (arith, nat_tests)

and_assoc : (x y z : Bool) → ((x && y) && z) ≡ (x && (y && z))
and_assoc true y z = refl
and_assoc false y z = refl

use_agrees : (again : Bool) (a : Rule) (vs : List Text) (rows : List Row) → is_none (use_fault again a vs rows) ≡ use_passes again a vs rows
use_agrees again a vs rows = both _ _ _ _ (range_agrees (unwrap_or_range a.range).start_inclusive (most_values a) (length vs)) (action_agrees (action_of a) again a (values_or_missing a vs) rows)
    ∙ and_assoc (nat_le (unwrap_or_range a.range).start_inclusive (length vs)) (nat_le (length vs) (most_values a)) _

-- ---- one word

module _ (c : List Rule) (again : Bool) where
  settle_agrees : (h : Held) → is_none (settle_fault c again h) ≡ settle_passes c again h
  settle_agrees h = pending h.pending
    where
      one : (o : Option Rule) (vs : List Text) → is_none (option_map_or (λ a. use_fault again a vs h.rows) o []) ≡ option_map_or (λ a. use_passes again a vs h.rows) o true
      one None vs = refl
      one (Some a) vs = use_agrees again a vs h.rows

      pending : (p : Option (Text × List Text)) → is_none (option_map_or (λ p. option_map_or (λ a. use_fault again a p.1 h.rows) (arg_by_id c p.0) []) p [])
          ≡ option_map_or (λ p. option_map_or (λ a. use_passes again a p.1 h.rows) (arg_by_id c p.0) true) p true
      pending None = refl
      pending (Some p) = one (arg_by_id c p.0) p.1

  react_agrees : (a : Rule) (vs : List Text) (h : Held) → is_none (react_fault c again a vs h) ≡ react_passes c again a vs h
  react_agrees a vs h = both _ _ _ _ (settle_agrees h) (use_agrees again a vs (settled c h).rows)

  option_agrees : (a : Rule) (v : Option Text) (h : Held) → is_none (option_fault c again a v h) ≡ option_passes c again a v h
  option_agrees a (Some v) h = react_agrees a (v ∷ []) h
  option_agrees a None h = settle_agrees h

  long_agrees : (o : Option Rule) (v : Option Text) (h : Held) → is_none (long_fault c again o v h) ≡ long_passes c again o v h
  long_agrees None v h = refl
  long_agrees (Some a) v h = either (takes_values a) _ _ _ _ (option_agrees a v h) (guarded (is_some v) _ _ _ (react_agrees a [] h))

  short_agrees : (o : Option Rule) (rest : Text) (h : Held) (fault : Held → Kinds) (passes : Held → Bool) → ((g : Held) → is_none (fault g) ≡ passes g)
      → is_none (short_fault c again o rest h fault) ≡ short_passes c again o rest h passes
  short_agrees None rest h fault passes same = refl
  short_agrees (Some a) rest h fault passes same =
      either (takes_values a) _ _ _ _ (option_agrees a (attached_value rest) h) (both _ _ _ _ (react_agrees a [] h) (same (reacted c a [] h)))

  step_in_agrees : (x : Option ℕ) (flags : Text) (skip : ℕ) (h : Held) (fault : Text → ℕ → Held → Kinds) (passes : Text → ℕ → Held → Bool)
      → ((t : Text) (n : ℕ) (g : Held) → is_none (fault t n g) ≡ passes t n g)
      → is_none (bundle_step_fault c again x flags skip h fault) ≡ bundle_step_passes c again x flags skip h passes
  step_in_agrees None flags skip h fault passes same = refl
  step_in_agrees (Some x) flags zero h fault passes same =
      short_agrees (arg_by_short c x) (drop (length (encode_utf8 x)) flags) h _ _ (λ g. same (drop (length (encode_utf8 x)) flags) 0 g)
  step_in_agrees (Some x) flags (suc skip) h fault passes same = same (drop (length (encode_utf8 x)) flags) skip h

  flags_agree : (k : ℕ) (flags : Text) (skip : ℕ) (h : Held) → is_none (flags_fault c again k flags skip h) ≡ flags_pass c again k flags skip h
  unfolding flags_fault flags_pass
  flags_agree zero flags skip h = refl
  flags_agree (suc k) flags skip h = step_in_agrees (slice_get (chars flags) 0) flags skip h (flags_fault c again k) (flags_pass c again k) (λ t n g. flags_agree k t n g)

  flag_word_agrees : (o : Option (Text × Option Text)) (word : Text) (h : Held) → is_none (flag_word_fault c again o word h) ≡ flag_word_passes c again o word h
  flag_word_agrees (Some p) word h = long_agrees (arg_by_long c p.0) p.1 h
  flag_word_agrees None word h = bundle (short_of word)
    where
      bundle : (o : Option Text) → is_none (option_map_or (λ flags. flags_fault c again (length flags) flags h.skip (record h { skip = 0 })) o [])
          ≡ option_map_or (λ flags. flags_pass c again (length flags) flags h.skip (record h { skip = 0 })) o true
      bundle None = refl
      bundle (Some flags) = flags_agree (length flags) flags h.skip (record h { skip = 0 })

  positional_agrees : (a : Rule) (h : Held) → is_none (positional_fault c again a h) ≡ positional_passes c again a h
  positional_agrees a h = past (is_pending a h.pending && takes_several a) _ _ (settle_agrees h)

module _ (s : Shape) where
  other_agrees : (o : Option Text) (word : Text) (h : Held) → is_none (other_fault s o word h) ≡ other_passes s o word h
  other_agrees (Some name) word h = help (bytes_eq name (codes "help")) s.disable_help_subcommand
    where
      help : (is off : Bool) → is_none (if is && not off then kind.DisplayHelp ∷ kind.InvalidSubcommand ∷ [] else []) ≡ (not is || off)
      help true true = refl
      help true false = refl
      help false off = refl
  other_agrees None word h = past (bytes_eq word (45 ∷ 45 ∷ [])) _ _ (flag_word_agrees s.rules s.args_override_self (long_of word) word h)

  step_agrees : (position : ℕ) (h : Held) (step : Step) → is_none (step_fault s position h step) ≡ step_passes s position h step
  step_agrees position h (next waiting) = refl
  step_agrees position h (trailing at) = refl
  step_agrees position h (subcommand name) = refl
  step_agrees position h value = found (arg_by_index s.rules position)
    where
      stray : (leaf : Bool) → is_none (if leaf then kind.UnknownArgument ∷ [] else kind.UnknownArgument ∷ kind.InvalidSubcommand ∷ []) ≡ false
      stray true = refl
      stray false = refl

      found : (o : Option Rule) → is_none (option_map_or (λ a. positional_fault s.rules s.args_override_self a h) o (stray_fault s))
          ≡ option_map_or (λ a. positional_passes s.rules s.args_override_self a h) o false
      found None = stray s.is_leaf
      found (Some a) = positional_agrees s.rules s.args_override_self a h

  turn_agrees : (names : Names) (w : Walk) (word : Text) → is_none (turn_fault s names w word) ≡ turn_passes s names w word
  turn_agrees names w word =
      let met = word_met s.rules names w.is_trailing w.waiting w.position word w.held in
      past (is_some w.stopped) _ _ (both _ _ _ _ (past w.is_trailing _ _ (other_agrees (subcommand_met names w.waiting word) word w.held)) (step_agrees w.position met.0 met.1))

  walk_agrees : (names : Names) (w : Walk) (words : List Text) → is_none (walk_fault s names w words) ≡ walk_passes s names w words
  unfolding walk_fault walk_passes
  walk_agrees names w [] = refl
  walk_agrees names w (word ∷ rest) = both _ _ _ _ (turn_agrees names w word) (walk_agrees names (walked s.rules names w word) rest)

-- ---- defaults, and what is required

request_agrees : (x : ArgAction) → is_none (request_kinds x) ≡ not (is_request x)
request_agrees Set = refl
request_agrees Append = refl
request_agrees SetTrue = refl
request_agrees SetFalse = refl
request_agrees Count = refl
request_agrees Help = refl
request_agrees HelpShort = refl
request_agrees HelpLong = refl
request_agrees Version = refl

left : (x y : Bool) → (x && y) ≡ true → x ≡ true
left true y both = refl
left false y both = cc

right : (x y : Bool) → (x && y) ≡ true → y ≡ true
right true y both = both
right false y both = cc

default_agrees : (rows : List Row) (a : Rule) → default_passes a ≡ true → is_none (default_fault rows a) ≡ true
default_agrees rows a passes =
    past (has_row a.id rows || is_empty a.defaults) _ _ (both _ _ _ _ (request_agrees (action_of a)) (values_agree a a.defaults))
    ∙ more (has_row a.id rows) (is_empty a.defaults) (not (is_request (action_of a)) && values_pass a a.defaults) passes
  where
    more : (h e r : Bool) → (e || r) ≡ true → ((h || e) || r) ≡ true
    more true e r is = refl
    more false e r is = is

defaults_agree : (rows : List Row) (rules : List Rule) → list_all default_passes rules ≡ true → is_none (defaults_fault rows rules) ≡ true
unfolding defaults_fault
defaults_agree rows [] pass = refl
defaults_agree rows (a ∷ rest) pass =
    both _ _ _ _ (default_agrees rows a (left (default_passes a) (list_all default_passes rest) pass)) (defaults_agree (with_default rows a) rest (right (default_passes a) (list_all default_passes rest) pass))

check_agrees : (s : Shape) (rows : List Row) (has : Bool) → has_free_rules s ≡ true → is_none (check_fault s rows has) ≡ is_valid s rows has
check_agrees s rows has free =
    kinds (not has && (s.arg_required_else_help && not (list_any (λ r. explicit_source r.source) rows))) (not has && s.subcommand_required)
    (not (s.subcommand_negates_reqs && has) && list_any (λ a. a.required && not (is_given a.id rows)) s.rules)
    ∙ ap₂ (λ x y. x && y) (help has s.arg_required_else_help (list_any (λ r. explicit_source r.source) rows))
    (ap₂ (λ x y. x && y) (needed has s.subcommand_required)
    (required (s.subcommand_negates_reqs && has) (list_any (λ a. a.required && not (is_given a.id rows)) s.rules)
    ∙ ap (λ x. (s.subcommand_negates_reqs && has) || x) (given s.rules)
    ∙ ap (λ x. x && ((s.subcommand_negates_reqs && has) || list_all (λ a. not a.required || is_given a.id rows) s.rules)) (sym free)))
  where
    kinds : (p q r : Bool) → is_none (check_kinds p q r) ≡ (not p && (not q && not r))
    kinds true q r = refl
    kinds false true r = refl
    kinds false false true = refl
    kinds false false false = refl

    help : (has asks any : Bool) → not (not has && (asks && not any)) ≡ (not asks || (has || any))
    help true true any = refl
    help true false any = refl
    help false true true = refl
    help false true false = refl
    help false false any = refl

    needed : (has asks : Bool) → not (not has && asks) ≡ (not asks || has)
    needed true true = refl
    needed true false = refl
    needed false true = refl
    needed false false = refl

    required : (past any : Bool) → not (not past && any) ≡ (past || not any)
    required true any = refl
    required false any = refl

    one : (r g : Bool) (x : Bool) → not ((r && not g) || x) ≡ ((not r || g) && not x)
    one true true x = refl
    one true false x = refl
    one false g x = refl

    given : (rules : List Rule) → not (list_any (λ a. a.required && not (is_given a.id rows)) rules) ≡ list_all (λ a. not a.required || is_given a.id rows) rules
    given [] = refl
    given (a ∷ rest) = one a.required (is_given a.id rows) _ ∙ ap (λ x. (not a.required || is_given a.id rows) && x) (given rest)

-- ---- levels

-- no default is refused, and no argument has a rule on another
abbrev pub is_open : Shape → Bool
is_open s = list_all default_passes s.rules && has_free_rules s

level_agrees : (s : Shape) (names : Names) (h : Held) (words : List Text) (has : Bool) (below : Kinds) (x : Bool) → is_open s ≡ true → is_none below ≡ x
    → is_none (level_fault s names h words has below) ≡ (x && level_passes s names h words has)
level_agrees s names h words has below x open_ is =
    let end = (walk s.rules names h words).held in
    let pass = left (list_all default_passes s.rules) (has_free_rules s) open_ in
    both _ _ _ _ (walk_agrees s names (walk_from h) words)
    (both _ _ _ _ is (both _ _ _ _ (settle_agrees s.rules s.args_override_self end)
    (both _ _ _ _ (defaults_agree (settled s.rules end).rows s.rules pass ∙ sym pass) (check_agrees s (finished s.rules end) has (right (list_all default_passes s.rules) (has_free_rules s) open_)))))
    ∙ turned (walk_passes s names (walk_from h) words) x _
  where
    turned : (x y z : Bool) → (x && (y && z)) ≡ (y && (x && z))
    turned true true z = refl
    turned true false z = refl
    turned false true z = refl
    turned false false z = refl

found_open : (test : Shape → Bool) (xs : List Shape) (s : Shape) → list_all is_open xs ≡ true → find test xs ≡ Some s → is_open s ≡ true
found_open test [] s all is = cc
found_open test (x ∷ xs) s all is =
    here (test x) (left (is_open x) (list_all is_open xs) all) (found_open test xs s (right (is_open x) (list_all is_open xs) all)) is
  where
    here : (b : Bool) → is_open x ≡ true → (find test xs ≡ Some s → is_open s ≡ true) → (if b then Some x else find test xs) ≡ Some s → is_open s ≡ true
    here true opens later is = let same : x ≡ s = cc in ap is_open (sym same) ∙ opens
    here false opens later is = later is

entered_agrees : (a : App) (stop : Option (Text × List Text)) → list_all is_open a.subs ≡ true → is_none (entered_fault a stop) ≡ entered_passes a stop
entered_agrees a None all = refl
entered_agrees a (Some p) all = below (find (λ s. answers_to p.0 (label_of s)) a.subs) (λ s is. found_open (λ s. answers_to p.0 (label_of s)) a.subs s all is)
  where
    below : (o : Option Shape) → ((s : Shape) → o ≡ Some s → is_open s ≡ true) → is_none (option_map_or (λ s. level_fault s [] nothing_held p.1 false []) o [])
        ≡ option_map_or (λ s. level_passes s [] nothing_held p.1 false) o true
    below None opens = refl
    below (Some s) opens = level_agrees s [] nothing_held p.1 false [] true (opens s refl) refl

-- a simple command whose defaults pass, and whose arguments have no rule on one another, takes words exactly where no
-- fault comes
pub takes_agrees : (a : App) (words : List Text) → is_simple a ≡ true → is_open (built a).top ≡ true → list_all is_open (built a).subs ≡ true
    → is_none (fault_of a words) ≡ takes a words
takes_agrees a words simple top subs =
    let told = argument_words a words in
    let stop = (walk (built a).top.rules (names_of (built a)) nothing_held told).stopped in
    level_agrees (built a).top (names_of (built a)) nothing_held told (is_some (entered (built a) stop)) (entered_fault (built a) stop) (entered_passes (built a) stop) top (entered_agrees (built a) stop subs)
    ∙ ap (λ x. x && built_takes (built a) nothing_held told) (sym simple)
