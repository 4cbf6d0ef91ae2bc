-- Arcs that meet those that lead back.
use Rattle.std.proofs.Common.{◌≡◌, ℕ, ◌+◌, ◌-◌, ◌<◌, ◌≤◌, ◌⊎◌, inl, inr, ⊎_elim, List, Bool, false, true, length, get_or, slice_get, slice_set, Some, refl, sym, ap, ◌∙◌, subst, arith, get_or-set_other, get_or-set_same, length-set}
use Rattle.std.specs.Prelude.{slice_index, ◌==◌, ◌&&◌, not}
use Rattle.std.proofs.lemmas.Bool.{cases_eq, and_parts, eqb-true}
use Rattle.std.proofs.lemmas.List.{get_or_read}
use Rattle.std.proofs.lemmas.Option.{same_Some, slice_get_within, slice_get_read}
use Rattle.graph_model.specs.Graph.{Graph}
use Rattle.graph_image.specs.declared.edge.Arc.{Arc}
use Rattle.graph_image.specs.Images.{Listed, arcs_at, LeadsBy, AreArcs}
use Rattle.graph_image.specs.Edges.{IsListed, IsMirrored, Lists, IsMet, IsMeeting}
use Rattle.graph_image.proofs.Lists.{below_cases, range_get, get_range}

-- what stands at a place is listed there, and the other way
pub listed_at : (listed : Listed) (p k : ℕ) (a : Arc) → slice_get (arcs_at listed p) k ≡ Some a → Lists listed p (slice_index listed.starts p + k) a
listed_at listed p k a at =
    let there = range_get listed.arcs (slice_index listed.starts p) (slice_index listed.starts (p + 1)) k a at in
    record { low = omega arith; high = there.0; at = there.1 }

pub at_listed : (listed : Listed) (p j : ℕ) (a : Arc) → Lists listed p j a → (k : ℕ) × (slice_get (arcs_at listed p) k ≡ Some a)
at_listed listed p j a lists = (j - slice_index listed.starts p, get_range listed.arcs (slice_index listed.starts p) (slice_index listed.starts (p + 1)) j a lists.low lists.high lists.at)

told : (t : Bool) → false ≡ not t → t ≡ true
told true is = refl
told false is = is

-- arcs that aren't told apart are one
pub same_arc : (a b : Arc) → false ≡ not ((a.other == b.other) && (a.weight == b.weight)) → a ≡ b
same_arc a b is =
    let parts = and_parts (a.other == b.other) (a.weight == b.weight) (told _ is) in
    let other = eqb-true a.other b.other parts.0 in
    let weight = eqb-true a.weight b.weight parts.1 in
    (λ i. record { other = other i; weight = weight i })

-- the arc that is read between where a place's begin and where they end is listed there
pub lists_here : (n : ℕ) (listed : Listed) → IsListed n listed → (starts : List ℕ) (arcs : List Arc) → record { starts = starts; arcs = arcs } ≡ listed → (p j first end : ℕ) (nexts : List ℕ) → p < n → IsMeeting n listed p 0 nexts
    → first ≡ get_or nexts p first → first ≤ j → end ≡ get_or starts (p + 1) end → j < end → (a : Arc) → a ≡ get_or arcs j a → Lists listed p j a
lists_here n listed is starts arcs view p j first end nexts below meeting first_is low end_is high a a_is =
    let starts_are = ap (λ (l : Listed). l.starts) view in
    let arcs_are = ap (λ (l : Listed). l.arcs) view in
    let count = ap length starts_are ∙ is.count in
    let wide = ap length arcs_are in
    let nexts_count = meeting.count in
    let first_read = get_or_read nexts p first (omega arith) first_is 0 in
    let end_read = get_or_read starts (p + 1) end (omega arith) end_is 0 ∙ ap (λ xs. slice_index xs (p + 1)) starts_are in
    let begun = meeting.begun p below in
    let bound = is.bound p below in
    record {
      low = omega arith;
      high = omega arith;
      at = ap (λ xs. slice_get xs j) (sym arcs_are) ∙ slice_get_read arcs (length arcs) j a refl (omega arith) a_is;
    }

module _ (n : ℕ) (listed : Listed) (is : IsListed n listed) where
  -- the other end is a place
  pub other_low : (p j : ℕ) (a : Arc) → p < n → Lists listed p j a → a.other < n
  other_low p j a below lists = let there = at_listed listed p j a lists in is.within p below there.0 a there.1

  -- at first no arc is met
  pub meeting_none : (nexts : List ℕ) → nexts ≡ listed.starts → IsMeeting n listed 0 0 nexts
  meeting_none nexts same = record {
    count = ap length same ∙ is.count;
    begun = λ q below. (let e = ap (λ xs. slice_index xs q) same in omega arith);
    met = λ q a below has. absurd (let e = ap (λ xs. slice_index xs q) same in let low = has.low in let high = has.high in omega arith);
    sent = λ q k a before lists. absurd (⊎_elim (λ less. (omega arith)) (λ at. (let less = at.1 in omega arith)) before);
  }

  -- the arcs of a place that were met before its turn need not be looked at
  pub meeting_begins : (p j : ℕ) (nexts : List ℕ) → IsMeeting n listed p 0 nexts → j ≡ slice_index nexts p → IsMeeting n listed p j nexts
  meeting_begins p j nexts meeting j_is = record {
    count = meeting.count;
    begun = meeting.begun;
    met = meeting.met;
    sent = λ q k a before lists. ⊎_elim
        (λ less. meeting.sent q k a (inl less) lists)
        (λ here. inl (let e = ap (slice_index nexts) here.0 in let less = here.1 in omega arith))
        before;
  }

  -- and those of the next place not at all
  pub meeting_ends : (p j : ℕ) (nexts : List ℕ) → IsMeeting n listed p j nexts → slice_index listed.starts (p + 1) ≤ j → IsMeeting n listed (p + 1) 0 nexts
  meeting_ends p j nexts meeting end = record {
    count = meeting.count;
    begun = meeting.begun;
    met = meeting.met;
    sent = λ q k a before lists. ⊎_elim
        (λ less. ⊎_elim
        (λ lower. meeting.sent q k a (inl lower) lists)
        (λ same. meeting.sent q k a (inr (same, (let high = lists.high in let e = ap (λ x. slice_index listed.starts (x + 1)) same in omega arith))) lists)
        (below_cases q p less))
        (λ here. absurd (let less = here.1 in omega arith))
        before;
  }

  module _ (p j : ℕ) (below : p < n) (nexts : List ℕ) (meeting : IsMeeting n listed p j nexts) (a back : Arc) (lists : Lists listed p j a) (other next : ℕ) (other_is : other ≡ a.other)
      (next_is : next ≡ slice_index nexts other) (back_is : back ≡ record { other = p; weight = a.weight }) (back_at : slice_get listed.arcs next ≡ Some back) where
    inside : other < length nexts
    inside = let low = other_low p j a below lists in let count = meeting.count in omega arith

    set_here : (q : ℕ) → q ≡ other → slice_index (slice_set nexts other (next + 1)) q ≡ next + 1
    set_here q same = ap (slice_index (slice_set nexts other (next + 1))) same ∙ get_or-set_same nexts other (next + 1) 0 inside

    set_else : (q : ℕ) → (q ≡ other → ⊥) → slice_index (slice_set nexts other (next + 1)) q ≡ slice_index nexts q
    set_else q differs = get_or-set_other nexts other q (next + 1) 0 differs

    -- what is met stays so
    no_less : (q : ℕ) → slice_index nexts q ≤ slice_index (slice_set nexts other (next + 1)) q
    no_less q = ⊎_elim
        (λ same. (let now = set_here q same in let was = next_is ∙ ap (slice_index nexts) (sym same) in omega arith))
        (λ differs. (let now = set_else q differs in omega arith))
        (cases_eq q other)

    still : (q : ℕ) (b : Arc) → IsMet listed nexts q b → IsMet listed (slice_set nexts other (next + 1)) q b
    still q b has = record { at = has.at; low = has.low; high = (let more = no_less q in let high = has.high in omega arith); is = has.is }

    begun_other : slice_index listed.starts other ≤ next
    begun_other = let low = other_low p j a below lists in let begun = meeting.begun other (omega arith) in omega arith

    -- the arc that leads back is met
    now_met : IsMet listed (slice_set nexts other (next + 1)) other back
    now_met = record { at = next; low = begun_other; high = (let now = set_here other refl in omega arith); is = back_at }

    -- an arc that is met now was met before, or leads back
    met_cases : (q : ℕ) (b : Arc) → IsMet listed (slice_set nexts other (next + 1)) q b → IsMet listed nexts q b ⊎ ((q ≡ other) × (b ≡ back))
    met_cases q b has = ⊎_elim
        (λ same. ⊎_elim
        (λ less. inl (record { at = has.at; low = has.low; high = (let was = next_is ∙ ap (slice_index nexts) (sym same) in omega arith); is = has.is }))
        (λ last. inr (same, same_Some b back (sym has.is ∙ ap (slice_get listed.arcs) last ∙ back_at)))
        (below_cases has.at next (let high = has.high in let now = set_here q same in omega arith)))
        (λ differs. inl (record { at = has.at; low = has.low; high = (let high = has.high in let now = set_else q differs in omega arith); is = has.is }))
        (cases_eq q other)

    -- what was sent before still is
    kept : (q k : ℕ) (b : Arc) → (k < slice_index nexts q) ⊎ IsMet listed nexts b.other (record { other = q; weight = b.weight })
        → (k < slice_index (slice_set nexts other (next + 1)) q) ⊎ IsMet listed (slice_set nexts other (next + 1)) b.other (record { other = q; weight = b.weight })
    kept q k b = ⊎_elim (λ low. inl (let more = no_less q in omega arith)) (λ has. inr (still b.other (record { other = q; weight = b.weight }) has))

    -- the arc that leads back is answered by the one at hand
    answered : (q : ℕ) (b : Arc) → q ≡ other → b ≡ back → Lists listed b.other j (record { other = q; weight = b.weight })
    answered q b q_is b_is =
        let back_other : b.other ≡ p = ap (λ (x : Arc). x.other) (b_is ∙ back_is) in
        let weight : b.weight ≡ a.weight = ap (λ (x : Arc). x.weight) (b_is ∙ back_is) in
        let same : a ≡ record { other = q; weight = b.weight } = (λ i. record { other = sym (q_is ∙ other_is) i; weight = sym weight i }) in
        subst (λ x. Lists listed x j (record { other = q; weight = b.weight })) (sym back_other) (subst (Lists listed p j) same lists)

    -- and the other way
    answers : (q k : ℕ) (b : Arc) → q ≡ p → k ≡ j → Lists listed q k b → IsMet listed (slice_set nexts other (next + 1)) b.other (record { other = q; weight = b.weight })
    answers q k b q_is k_is sends =
        let same : b ≡ a = same_Some b a (sym sends.at ∙ ap (slice_get listed.arcs) k_is ∙ lists.at) in
        let to : other ≡ b.other = other_is ∙ ap (λ (x : Arc). x.other) (sym same) in
        let arc : back ≡ record { other = q; weight = b.weight } = back_is ∙ (λ i. record { other = sym q_is i; weight = (sym same i).weight }) in
        subst (λ x. IsMet listed (slice_set nexts other (next + 1)) x (record { other = q; weight = b.weight })) to (subst (IsMet listed (slice_set nexts other (next + 1)) other) arc now_met)

    -- one arc more
    pub meeting_more : IsMeeting n listed p (j + 1) (slice_set nexts other (next + 1))
    meeting_more = record {
      count = length-set nexts other (next + 1) ∙ meeting.count;
      begun = λ q q_below. (let more = no_less q in let begun = meeting.begun q q_below in omega arith);
      met = λ q b q_below has. ⊎_elim
          (λ old. meeting.met q b q_below old)
          (λ new. (j, answered q b new.0 new.1))
          (met_cases q b has);
      sent = λ q k b before sends. ⊎_elim
          (λ less. kept q k b (meeting.sent q k b (inl less) sends))
          (λ here. ⊎_elim
          (λ lower. kept q k b (meeting.sent q k b (inr (here.0, lower)) sends))
          (λ same. inr (answers q k b here.0 same sends))
          (below_cases k j here.1))
          before;
    }

  -- where all places had their turn, and at none more is met than it lists, each arc has one that leads back
  pub mirrored : (p : ℕ) (nexts : List ℕ) → IsMeeting n listed p 0 nexts → n ≤ p → ((q : ℕ) → q < n → slice_index nexts q ≤ slice_index listed.starts (q + 1)) → IsMirrored n listed
  mirrored p nexts meeting all within = record {
    each = λ q k a below at.
        let lists = listed_at listed q k a at in
        ⊎_elim
        (λ low. (let answer = meeting.met q a below (record { at = slice_index listed.starts q + k; low = lists.low; high = low; is = lists.at }) in at_listed listed a.other answer.0 (record { other = q; weight = a.weight }) answer.1))
        (λ has.
        let room = within a.other (other_low q (slice_index listed.starts q + k) a below lists) in
        let high = has.high in
        at_listed listed a.other has.at (record { other = q; weight = a.weight }) (record { low = has.low; high = omega arith; at = has.is }))
        (meeting.sent q (slice_index listed.starts q + k) a (inl (omega arith)) lists);
  }

-- the arcs out of a place are those into it, where each has one that leads back
pub mirrored_into : (g : Graph) (sources : List ℕ) (out : Listed) → IsMirrored (length sources) out
    → ((p : ℕ) → p < length sources → AreArcs (λ q weight. LeadsBy g sources p q weight) (arcs_at out p))
    → (p : ℕ) → p < length sources → AreArcs (λ q weight. LeadsBy g sources q p weight) (arcs_at out p)
mirrored_into g sources out mirrored are p below = record {
  rise = (are p below).rise;
  sound = λ i a at.
      let leads = (are p below).sound i a at in
      let there = mirrored.each p i a below at in
      (are a.other (slice_get_within sources a.other leads.to leads.to_at)).sound there.0 (record { other = p; weight = a.weight }) there.1;
  complete = λ q weight leads.
      let low = slice_get_within sources q leads.from leads.from_at in
      let there = (are q low).complete p weight leads in
      mirrored.each q there.0 (record { other = p; weight = weight }) low there.1;
}
