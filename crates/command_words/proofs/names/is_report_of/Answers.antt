use Rattle.std.proofs.Common.{◌≡◌, ◌++◌, sym, ◌∙◌, ap}
use Rattle.std.specs.Prelude.{codes, Some, None}
use Rattle.std.proofs.lemmas.Bool.Decides.{Decides-eqb}
use Rattle.std.proofs.lemmas.Slice.Eq.{strip_suffix_is, bytes_eq-Decides}
use Rattle.std.proofs.lemmas.List.{append_cancel_right}
use Rattle.command_words.proofs.NameLemmas.{same_bytes}
use Rattle.command_words.proofs.names.is_report_of.Goals as goal

pub returns-in-Some : goal.returns-in-Some
returns-in-Some c =
    let spelled : c.args.name.now ≡ c.in-Some.front.now ++ codes ".report" =
    sym c.as_bytes.ensures.value ∙ strip_suffix_is Decides-eqb c.as_bytes.result.now c.as_slice.result.now (Some c.in-Some.front) c.in-Some.ensures.cases ∙ ap (λ end. c.in-Some.front.now ++ end) c.as_slice.ensures in (
      λ yes. spelled ∙ ap (λ front. front ++ codes ".report") (same_bytes c.in-Some.front.now c.as_bytes-in-Some.result.now (sym c.eq.ensures ∙ yes) ∙ c.as_bytes-in-Some.ensures.value),
      λ same. c.eq.ensures ∙ (bytes_eq-Decides c.in-Some.front.now c.as_bytes-in-Some.result.now).1
          (append_cancel_right c.in-Some.front.now c.args.script.now (codes ".report") (sym spelled ∙ same) ∙ sym c.as_bytes-in-Some.ensures.value),
    )

pub returns-in-None : goal.returns-in-None
returns-in-None c = (
  λ wrong. cc,
  λ same. absurd (strip_suffix_is Decides-eqb c.as_bytes.result.now c.as_slice.result.now None c.in-None.ensures.cases c.args.script.now
      (c.as_bytes.ensures.value ∙ same ∙ ap (λ end. c.args.script.now ++ end) (sym c.as_slice.ensures))),
)
